-- Specs whose head doesn't begin a path don't match it, and what a match asks.
use Rattle.std.proofs.Common.{◌≡◌, ℕ, suc, zero, ◌+◌, ◌*◌, ◌<◌, ◌≤◌, Bool, true, false, ◌&&◌, is_some, cond, refl, sym, ◌∙◌, ap, subst, List, [], ◌∷◌, length, drop, get_or, arith, Some, None, Option, slice_get}
use Rattle.std.specs.List.{list_any}
use Rattle.std.proofs.Math.Nat.{mul-le-mul_right}
use Rattle.gix_pathspec.specs.declared.search.MatchKind.TheVariants.{Always}
use Rattle.gix_pathspec.specs.Reading.{nil_spec}
use Rattle.std.specs.Option.{option_and_then}
use Rattle.std.proofs.lemmas.Option.{slice_get_read}
use Rattle.gix_pathspec.specs.declared.search.MatchKind.{MatchKind}
use Rattle.gix_pathspec.specs.Bytes.{is_empty, begins_with}
use Rattle.gix_pathspec.specs.Attributes.{Table}
use Rattle.gix_pathspec.specs.Specs.{Spec, is_include}
use Rattle.gix_pathspec.specs.Matching.{fit, has_attributes, spec_matches}
use Rattle.gix_pathspec.specs.Prefixes.{head}
use Rattle.gix_pathspec.specs.Search.{Numbered, Answer, specs_of}
use Rattle.gix_pathspec.specs.Found.{matched_kind, first_match, IsFirstMatch, answer_found}
use Rattle.gix_pathspec.specs.Effort.{kind_at, AreFewCompared, IsLittleCompared, IsBySpec}
use Rattle.gix_pathspec.proofs.FoundProofs.{empty-nil, fit-headless, first_match-here, first_match-later}

both_false : {A : Type 0} (o : Option A) (b : Bool) → None ≡ o → (is_some o && b) ≡ false
both_false None b h = refl
both_false (Some x) b h = cc

pub unmatched-headless : (table : Table) (s : Spec) (path : List ℕ) (is_dir : Bool) → begins_with path (head s) ≡ false → spec_matches table s path is_dir ≡ false
unfolding spec_matches
unmatched-headless table s path is_dir h = both_false (fit s path is_dir) (has_attributes table s path is_dir) (fit-headless s path is_dir h)

-- ---- the spec at a place

pub at_place : (ns : List Numbered) (i : ℕ) → i < length ns → (n : Numbered) × (slice_get ns i ≡ Some n) × (n ≡ get_or ns i n)
at_place [] i l = absurd (omega (arith, l))
at_place (n ∷ ns) zero l = (n, refl, refl)
at_place (n ∷ ns) (suc i) l = let r = at_place ns i (omega (arith, l)) in (r.0, r.1, r.2)

module _ (table : Table) (ns : List Numbered) (path : List ℕ) (is_dir : Bool) (i : ℕ) (l : i < length ns) (rest : first_match table (drop i ns) path is_dir ≡ first_match table ns path is_dir) where
  kind-is : (n : Numbered) → slice_get ns i ≡ Some n → kind_at table ns path is_dir i ≡ matched_kind table n.spec path is_dir
  kind-is n e = ap (option_and_then (λ m. matched_kind table m.spec path is_dir)) e

  pub match-here : (kind : MatchKind) → kind_at table ns path is_dir i ≡ Some kind → IsFirstMatch table ns path is_dir i kind
  match-here kind h = let r = at_place ns i l in first_match-here table ns path is_dir i r.0 l r.2 rest kind (sym (kind-is r.0 r.1) ∙ h)

  pub match-later : kind_at table ns path is_dir i ≡ None → first_match table (drop (i + 1) ns) path is_dir ≡ first_match table ns path is_dir
  match-later h = let r = at_place ns i l in first_match-later table ns path is_dir i r.0 l r.2 rest (sym (kind-is r.0 r.1) ∙ h)

-- what is read at a place
pub kind_at-read : (table : Table) (specs : List Numbered) (path : List ℕ) (is_dir : Bool) (i : ℕ) (n : Numbered) (ns : List Numbered) → i < length ns → n ≡ get_or ns i n → ns ≡ specs → matched_kind table n.spec path is_dir ≡ kind_at table specs path is_dir i
kind_at-read table specs path is_dir i n ns l read same =
    let got : slice_get specs i ≡ Some n = subst (λ (ms : List Numbered). slice_get ms i ≡ Some n) same (slice_get_read ns (length ns) i n refl l read) in
    sym (ap (option_and_then (λ m. matched_kind table m.spec path is_dir)) got)

-- at equal tables
pub same-table : (table table' : Table) (ns : List Numbered) (path : List ℕ) (is_dir : Bool) (i : ℕ) → table' ≡ table → kind_at table' ns path is_dir i ≡ kind_at table ns path is_dir i
same-table table table' ns path is_dir i t = ap (λ u. kind_at u ns path is_dir i) t

-- ---- how many heads are compared

pub little-from : (ns : List Numbered) (path : List ℕ) (n : ℕ) → is_empty path ≡ false → AreFewCompared (length ns) n → IsLittleCompared ns path n
little-from ns [] n e h b l = cc
little-from ns (x ∷ path) n e h b l =
    let more : 2 * (b + 1) ≤ (length (x ∷ path) + 1) * (b + 1) = mul-le-mul_right {m = 2} {n = length (x ∷ path) + 1} (b + 1) (omega arith) in
    omega (arith, more, h b l)

-- ---- whether a spec was found, and whether any was asked

abbrev nil_answer : ℕ → Option Answer
nil_answer number = Some (record { pattern = nil_spec; number = number; kind = Always })

-- a spec that settles a path was found
pub by-spec : (ns : List Numbered) (path : List ℕ) (found : Option (ℕ × MatchKind)) → IsBySpec ns path (answer_found ns path found) → is_some found ≡ true
by-spec ns path (Some found) h = refl
by-spec ns path None h = at (is_empty path) refl (list_any is_include (specs_of ns)) h
  where
    at : (e : Bool) → is_empty path ≡ e → (i : Bool) → IsBySpec ns path (cond e (nil_answer 0) (cond i None (nil_answer (length ns)))) → false ≡ true
    at true e i h = empty-nil path e h.0
    at false e true h = absurd h
    at false e false h = absurd (omega (arith, h.1))
