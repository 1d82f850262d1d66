-- Each turn visits the next entry that the walk sees.
use Rattle.std.proofs.Common.{◌≡◌, ℕ, ◌-◌, ◌<◌, Bool, true, false, cond, length, map, List, [], ◌∷◌, ◌++◌, refl, sym, ap, subst, ◌∙◌, Some, None}
use Rattle.std.proofs.lemmas.List.{map-append}
use Rattle.std.specs.Box.{box_value}
use Rattle.pathspec_parts.specs.Attributes.{Table}
use Rattle.pathspec_parts.specs.Entries.{Entry}
use Rattle.pathspec_parts.specs.Trees.{IsNested, HasBytePaths}
use Rattle.pathspec_parts.specs.Cursors.{CursorContents, IsNew, next_seen, append_if, next_number, cursor_at, path_at, is_dir_at}
use Rattle.gix_pathspec.specs.Specs.{Spec}
use Rattle.gix_pathspec.specs.Matching.{is_chosen}
use Rattle.gix_pathspec.specs.Room.{ScratchContents}
use Rattle.gix_pathspec.specs.Search.{specs_of}
use Rattle.gix_pathspec.proofs.RoomProofs.{fits-kept}
use Rattle.gix_pathspec.specs.SelectionLaws.{NoNilPrefix, SpecPathsAreBytes}
use Rattle.pathspec_walk.specs.Walks.{IsWalk, HasWalked, HasChosen}
use Rattle.pathspec_walk.proofs.EnteredProofs.{given_is_one, entered_is_one}
use Rattle.pathspec_walk.proofs.SelectProofs.{after_visit, path_some, nearer, at_start, one_on, at_end}
use Rattle.pathspec_walk.proofs.walk.select.Goals as goal

-- a list that is empty, by whatever name
start_as : (table : Table) (specs : List Spec) (c : CursorContents) → IsNew c → (given : List ℕ) → given ≡ [] → HasChosen table specs c.entries (next_number c) given c.entered
start_as table specs c new given e = subst (λ xs. HasChosen table specs c.entries (next_number c) xs c.entered) (sym e) (at_start table specs c new)

-- what the visit gives, by the look-up that the walk began with
given_is : (table before : Table) (specs : List Spec) (c m : CursorContents) (n : ℕ) (given more : List ℕ) → m ≡ cursor_at c (Some n) → before ≡ table → more ≡ append_if (is_chosen before specs (path_at m) (is_dir_at m)) n given
    → more ≡ append_if (is_chosen table specs (path_at (cursor_at c (Some n))) (is_dir_at (cursor_at c (Some n)))) n given
given_is table before specs c m n given more e b v =
    let at = cursor_at c (Some n) in
    v ∙ (ap (λ (x : CursorContents). append_if (is_chosen before specs (path_at x) (is_dir_at x)) n given) e ∙ ap (λ x. append_if (is_chosen x specs (path_at at) (is_dir_at at)) n given) b)

-- one step, over the entries that the walk began with
step : (table : Table) (specs : List Spec) → NoNilPrefix specs → (es : List Entry) (c d : CursorContents) (given more : List ℕ) → c.entries ≡ es → IsNested c.entries → HasChosen table specs es (next_number c) given c.entered
    → (n : ℕ) → Some n ≡ next_seen c.entered (next_number c) c.entries → more ≡ append_if (is_chosen table specs (path_at (cursor_at c (Some n))) (is_dir_at (cursor_at c (Some n)))) n given → d ≡ after_visit specs (cursor_at c (Some n))
    → HasChosen table specs es (next_number d) more d.entered
step table specs none es c d given more e nested h n next m v =
    subst (λ x. HasChosen table specs x (next_number d) more d.entered) e (one_on table specs none c d given more nested (subst (λ x. HasChosen table specs x (next_number c) given c.entered) (sym e) h) n next m v)

-- the end, over the same
finish : (table : Table) (specs : List Spec) → NoNilPrefix specs → SpecPathsAreBytes specs → (es : List Entry) (c d : CursorContents) (given : List ℕ) → c.entries ≡ es → IsNested c.entries → HasBytePaths c.entries → HasChosen table specs es (next_number c) given c.entered
    → None ≡ next_seen c.entered (next_number c) c.entries → d ≡ cursor_at c None → IsWalk table specs es given d.entered × HasWalked specs es (length es) d.entered
finish table specs none spec_bytes es c d given e nested bytes h next m =
    subst (λ x. IsWalk table specs es given x × HasWalked specs es (length es) x) (ap (λ (x : CursorContents). x.entered) (sym m))
    (subst (λ x. IsWalk table specs x given c.entered × HasWalked specs x (length x) c.entered) e (at_end table specs none spec_bytes c given nested bytes (subst (λ x. HasChosen table specs x (next_number c) given c.entered) (sym e) h) next))

-- the same over the visited cursor's entries
nearer_as : (specs : List Spec) (c d : CursorContents) (n : ℕ) → c.entries ≡ d.entries → Some n ≡ next_seen c.entered (next_number c) c.entries → d ≡ after_visit specs (cursor_at c (Some n)) → length d.entries - next_number d < length c.entries - next_number c
nearer_as specs c d n e next v = subst (λ (es : List Entry). length es - next_number d < length c.entries - next_number c) e (nearer specs c d n next v)

-- a place more, by its number
map-append_if : {P : Type 0} (f : P → ℕ) (b : Bool) (p : P) (ps : List P) → map f (cond b (ps ++ p ∷ []) ps) ≡ append_if b (f p) (map f ps)
map-append_if f true p ps = map-append f ps (p ∷ [])
map-append_if f false p ps = refl

pub loop-place-init : goal.loop-place-init
loop-place-init g c =
    let begin = g.W.Walk.contents c.args.cursor.now in
    let numbers = map (g.W.Walk.number begin.entries) in
    record {
      course = start_as (g.L.LookUp.table c.args.look_up.now) (specs_of c.args.search.now.specs) begin c.requires (numbers c.new-given.result.items) (ap numbers c.new-given.ensures.items);
      tree = refl;
      room = c.in-Ok.ensures.fits;
      table = refl;
      count = refl;
    }

pub visit-requires-clause-path : goal.visit-requires-clause-path
visit-requires-clause-path g c =
    let at = g.W.Walk.contents c.loop-place.cursor in
    let e = c.in-Some.ensures in
    λ q. path_some at (g.W.Walk.number at.entries c.in-Some.place) e.nested e.next (ap path_at (sym e.place) ∙ q)

pub loop-place-smaller : goal.loop-place-smaller
loop-place-smaller g c =
    let at = g.W.Walk.contents c.loop-place.cursor in
    let e = c.in-Some.ensures in
    let v = c.in_ok-visit.ensures in
    let specs = specs_of c.args.search.now.specs in
    nearer_as specs at (g.W.Walk.contents c.visit.new.cursor) (g.W.Walk.number at.entries c.in-Some.place) (sym (v.tree ∙ ap (λ (x : CursorContents). x.entries) e.place)) e.next (v.entered ∙ ap (after_visit specs) e.place)

pub loop-place-preserved : goal.loop-place-preserved
loop-place-preserved g c =
    let at = g.W.Walk.contents c.loop-place.cursor in
    let there = g.W.Walk.contents c.next.new.self in
    let i = c.loop-place.invariant in
    let e = c.in-Some.ensures in
    let v = c.in_ok-visit.ensures in
    let table = g.L.LookUp.table c.args.look_up.now in
    let before = g.L.LookUp.table c.loop-place.look_up in
    let specs = specs_of c.args.search.now.specs in
    let es = (g.W.Walk.contents c.args.cursor.now).entries in
    let number_in = λ (x : List Entry). g.W.Walk.number x c.in-Some.place in
    let numbers = map (g.W.Walk.number es) in
    let given = c.loop-place.given.items in
    let next = sym (ap (λ (x : List Entry). Some (number_in x)) i.tree) ∙ e.next in
    let here = e.place ∙ ap (λ (x : List Entry). cursor_at at (Some (number_in x))) i.tree in
    let more = ap numbers v.given ∙ map-append_if (g.W.Walk.number es) (is_chosen before specs (path_at there) (is_dir_at there)) c.in-Some.place given in
    record {
      course = step table specs c.nil_specs_lack_a_prefix.ensures es at (g.W.Walk.contents c.visit.new.cursor) (numbers given) (numbers c.visit.new.given.items) i.tree e.nested i.course (number_in es) next
          (given_is table before specs at there (number_in es) (numbers given) (numbers c.visit.new.given.items) here i.table more)
          (v.entered ∙ ap (after_visit specs) here);
      tree = v.tree ∙ (ap (λ (x : CursorContents). x.entries) e.place ∙ i.tree);
      room = fits-kept _ (box_value c.loop-place.scratch) c.visit.new.scratch i.room (v.room ∙ ap (λ (s : ScratchContents). s.room) c.deref_mut.ensures.value);
      table = v.table_stays ∙ i.table;
      count = v.counts ∙ i.count;
    }

pub returns-clause-walk : goal.returns-clause-walk
returns-clause-walk g c =
    let i = c.loop-place.invariant in
    let e = c.in_default.ensures in
    let es = (g.W.Walk.contents c.args.cursor.now).entries in
    (finish (g.L.LookUp.table c.args.look_up.now) (specs_of c.args.search.now.specs) c.nil_specs_lack_a_prefix.ensures c.spec_paths_are_bytes.ensures es (g.W.Walk.contents c.loop-place.cursor) (g.W.Walk.contents c.next.new.self) (map (g.W.Walk.number es) c.loop-place.given.items) i.tree e.nested e.bytes i.course e.next e.place).0

pub returns-clause-entered : goal.returns-clause-entered
returns-clause-entered g c =
    let i = c.loop-place.invariant in
    let e = c.in_default.ensures in
    let es = (g.W.Walk.contents c.args.cursor.now).entries in
    (finish (g.L.LookUp.table c.args.look_up.now) (specs_of c.args.search.now.specs) c.nil_specs_lack_a_prefix.ensures c.spec_paths_are_bytes.ensures es (g.W.Walk.contents c.loop-place.cursor) (g.W.Walk.contents c.next.new.self) (map (g.W.Walk.number es) c.loop-place.given.items) i.tree e.nested e.bytes i.course e.next e.place).1

-- ---- the laws

pub returns-clause-given : goal.returns-clause-given
returns-clause-given g c = given_is_one (g.L.LookUp.table c.args.look_up.now) (specs_of c.args.search.now.specs)

pub returns-clause-trail : goal.returns-clause-trail
returns-clause-trail g c = entered_is_one

pub returns-in_err-visit-clause-given : goal.returns-in_err-visit-clause-given
returns-in_err-visit-clause-given g c = given_is_one (g.L.LookUp.table c.args.look_up.now) (specs_of c.args.search.now.specs)

pub returns-in_err-visit-clause-trail : goal.returns-in_err-visit-clause-trail
returns-in_err-visit-clause-trail g c = entered_is_one

pub returns-in-Err-clause-given : goal.returns-in-Err-clause-given
returns-in-Err-clause-given g c = given_is_one (g.L.LookUp.table c.args.look_up.now) (specs_of c.args.search.now.specs)

pub returns-in-Err-clause-trail : goal.returns-in-Err-clause-trail
returns-in-Err-clause-trail g c = entered_is_one
