-- A walk by a cursor, step by step.
use Rattle.std.proofs.Common.{◌≡◌, ℕ, ◌+◌, ◌-◌, ◌<◌, Bool, true, false, not, cond, ◌&&◌, refl, sym, ◌∙◌, ap, subst, List, [], length, arith, Some, None}
use Rattle.std.proofs.lemmas.Bool.{false_from_ne_true}
use Rattle.std.proofs.lemmas.Option.{slice_get_within}
use Rattle.std.specs.Prelude.{◌≢◌, slice_get, option_map, unwrap_or}
use Rattle.pathspec_parts.specs.Bytes.{is_one_of}
use Rattle.pathspec_parts.specs.Attributes.{Table}
use Rattle.pathspec_parts.specs.Entries.{Entry}
use Rattle.pathspec_parts.specs.Trees.{IsNested, HasBytePaths}
use Rattle.pathspec_parts.specs.Cursors.{CursorContents, next_seen, append_if, new_cursor, next_number, cursor_at, path_at, is_dir_at, append_once, after_enter}
use Rattle.pathspec_parts.proofs.SeenProofs.{from-one_of, next_seen-some, next_seen-entry}
use Rattle.gix_pathspec.specs.Specs.{Spec}
use Rattle.gix_pathspec.specs.Matching.{is_chosen}
use Rattle.gix_pathspec.specs.SelectionLaws.{NoNilPrefix, SpecPathsAreBytes}
use Rattle.pathspec_walk.specs.Walks.{can_hold, IsWalk, HasWalked, HasChosen}
use Rattle.pathspec_walk.proofs.WalkProofs.{can_hold_is_safe, walk_holds}
use Rattle.pathspec_walk.proofs.GoingProofs.{walk_starts, walk_goes_on, walk_ends}

-- the cursor after a visit
abbrev pub after_visit : List Spec → CursorContents → CursorContents
after_visit specs c = cond (is_dir_at c && can_hold specs (path_at c)) (after_enter c) c

-- ---- the entry that it stands at

path_there : (c : CursorContents) (n : ℕ) (e : Entry) → slice_get c.entries n ≡ Some e → path_at (cursor_at c (Some n)) ≡ e.path
path_there c n e h = ap (λ o. unwrap_or (option_map (λ (x : Entry). x.path) o) []) h

is_dir_there : (c : CursorContents) (n : ℕ) (e : Entry) → slice_get c.entries n ≡ Some e → is_dir_at (cursor_at c (Some n)) ≡ e.is_dir
is_dir_there c n e h = ap (λ o. unwrap_or (option_map (λ (x : Entry). x.is_dir) o) false) h

-- its path is not empty
pub path_some : (c : CursorContents) (n : ℕ) → IsNested c.entries → Some n ≡ next_seen c.entered (next_number c) c.entries → path_at (cursor_at c (Some n)) ≢ []
path_some c n nested next e =
    let r = next_seen-entry c.entered (next_number c) c.entries n (sym next) in
    nested.paths n r.0 r.1 (sym (path_there c n r.0 r.1) ∙ e)

-- the walk comes nearer to its end
number_after_visit : (specs : List Spec) (c : CursorContents) (n : ℕ) → next_number (after_visit specs (cursor_at c (Some n))) ≡ n + 1
number_after_visit specs c n = by_both (is_dir_at (cursor_at c (Some n))) (can_hold specs (path_at (cursor_at c (Some n))))
  where
    by_both : (d w : Bool) → next_number (cond (d && w) (cond d (record c { at = Some n; is_new = false; entered = append_once c.entered (Some n) }) (cursor_at c (Some n))) (cursor_at c (Some n))) ≡ n + 1
    by_both true true = refl
    by_both true false = refl
    by_both false w = refl

pub nearer : (specs : List Spec) (c d : CursorContents) (n : ℕ) → Some n ≡ next_seen c.entered (next_number c) c.entries → d ≡ after_visit specs (cursor_at c (Some n)) → length c.entries - next_number d < length c.entries - next_number c
nearer specs c d n next v =
    let r = next_seen-entry c.entered (next_number c) c.entries n (sym next) in
    let q = next_seen-some c.entered (next_number c) c.entries n r.0 (sym next) r.1 in
    let from = q.from in
    let w = slice_get_within c.entries n r.0 r.1 in
    let u : next_number d ≡ n + 1 = ap next_number v ∙ number_after_visit specs c n in
    omega (arith, w, from, u)

-- ---- what is entered

entered_by_visit : (specs : List Spec) (c : CursorContents) (n : ℕ) → is_one_of c.entered n ≡ false → (after_visit specs (cursor_at c (Some n))).entered ≡ append_if (is_dir_at (cursor_at c (Some n)) && can_hold specs (path_at (cursor_at c (Some n)))) n c.entered
entered_by_visit specs c n off = by_both (is_dir_at (cursor_at c (Some n))) (can_hold specs (path_at (cursor_at c (Some n))))
  where
    by_both : (d w : Bool) → (cond (d && w) (cond d (record c { at = Some n; is_new = false; entered = append_once c.entered (Some n) }) (cursor_at c (Some n))) (cursor_at c (Some n))).entered ≡ append_if (d && w) n c.entered
    by_both true true = ap (λ b. append_if (not b) n c.entered) off
    by_both true false = refl
    by_both false w = refl

-- ---- the walk

pub at_start : (table : Table) (specs : List Spec) (c : CursorContents) → c ≡ new_cursor c.entries → HasChosen table specs c.entries (next_number c) [] c.entered
at_start table specs c e = subst (λ (x : CursorContents). HasChosen table specs c.entries (next_number x) [] x.entered) (sym e) (walk_starts (can_hold specs) (is_chosen table specs) c.entries)

pub one_on : (table : Table) (specs : List Spec) → NoNilPrefix specs → (c d : CursorContents) (given more : List ℕ) → IsNested c.entries → HasChosen table specs c.entries (next_number c) given c.entered
    → (n : ℕ) → Some n ≡ next_seen c.entered (next_number c) c.entries → more ≡ append_if (is_chosen table specs (path_at (cursor_at c (Some n))) (is_dir_at (cursor_at c (Some n)))) n given → d ≡ after_visit specs (cursor_at c (Some n))
    → HasChosen table specs c.entries (next_number d) more d.entered
one_on table specs none c d given more nested h n next m v =
    let enter : List ℕ → Bool = can_hold specs in
    let r = next_seen-entry c.entered (next_number c) c.entries n (sym next) in
    let e = r.0 in
    let q = next_seen-some c.entered (next_number c) c.entries n e (sym next) r.1 in
    let off : is_one_of c.entered n ≡ false = false_from_ne_true (is_one_of c.entered n) (λ y.
    let b = (h.enters.are n (from-one_of c.entered n y)).before in
    let from = q.from in
    omega (arith, b, from)) in
    let on = walk_goes_on enter (is_chosen table specs) (can_hold_is_safe table specs none) c.entries (next_number c) given c.entered nested h n e (sym next) r.1 in
    let p = path_there c n e r.1 in
    let k = is_dir_there c n e r.1 in
    let given_is : more ≡ append_if (is_chosen table specs e.path e.is_dir) n given = m ∙ (ap (λ x. append_if (is_chosen table specs x (is_dir_at (cursor_at c (Some n)))) n given) p ∙ ap (λ x. append_if (is_chosen table specs e.path x) n given) k) in
    let entered_is : d.entered ≡ append_if (e.is_dir && enter e.path) n c.entered =
    ap (λ (x : CursorContents). x.entered) v ∙ (entered_by_visit specs c n off ∙ (ap (λ x. append_if (is_dir_at (cursor_at c (Some n)) && enter x) n c.entered) p ∙ ap (λ x. append_if (x && enter e.path) n c.entered) k)) in
    let u : next_number d ≡ n + 1 = ap next_number v ∙ number_after_visit specs c n in
    subst (λ i. HasChosen table specs c.entries i more d.entered) (sym u) (subst (λ xs. HasChosen table specs c.entries (n + 1) more xs) (sym entered_is) (subst (λ xs. HasChosen table specs c.entries (n + 1) xs (append_if (e.is_dir && enter e.path) n c.entered)) (sym given_is) on))

pub at_end : (table : Table) (specs : List Spec) → NoNilPrefix specs → SpecPathsAreBytes specs → (c : CursorContents) (given : List ℕ) → IsNested c.entries → HasBytePaths c.entries → HasChosen table specs c.entries (next_number c) given c.entered → None ≡ next_seen c.entered (next_number c) c.entries
    → IsWalk table specs c.entries given c.entered × HasWalked specs c.entries (length c.entries) c.entered
at_end table specs none spec_bytes c given nested bytes h next =
    let r = walk_ends (can_hold specs) (is_chosen table specs) (can_hold_is_safe table specs none) c.entries (next_number c) given c.entered nested h (sym next) in
    (walk_holds table specs none spec_bytes c.entries given c.entered nested bytes r, r.enters)
