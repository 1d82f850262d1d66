-- The places of globs stand one behind the other.
use Rattle.std.proofs.Common.{◌≡◌, ℕ, zero, suc, ◌+◌, ◌<◌, ◌≤◌, Bool, sym, ◌∙◌, ap, subst, arith, inl, inr, List, [], ◌∷◌, length, get_or}
use Rattle.std.proofs.lemmas.Bool.{cases_eq}
use Rattle.std.proofs.lemmas.List.{get_or_default}
use Rattle.pathspec_glob.specs.BitVecs.{holds}
use Rattle.pathspec_glob_set.specs.declared.member.Member.{Member}
use Rattle.pathspec_glob_set.specs.Sets.{size_of, AreEnds, IsAt}
use Rattle.pathspec_glob_set.proofs.SetProofs.{before}

-- the places of a glob stand behind those of globs before it
pub order : (globs : List Member) (ends : List ℕ) → AreEnds globs ends → (h g : ℕ) (glob : Member) → IsAt globs g glob → h < g → get_or ends h 0 + size_of glob < get_or ends g 0
order globs ends are h zero glob at less = absurd (let no : ⊥ = omega (arith, less) in no)
order globs ends are h (suc g) glob at less = elim (cases_eq h g) [
  | inl e ↦ omega (arith, are.next g glob at, ap (λ k. get_or ends k 0) e)
  | inr n ↦ omega (arith, are.next g glob at, order globs ends are h g (get_or globs g glob) (before globs g glob at) (omega (arith, less, n)))
]

-- a glob is the one that stands there
pub same-glob : (globs : List Member) (g : ℕ) (one other : Member) → IsAt globs g one → IsAt globs g other → one ≡ other
same-glob globs g one other at there = sym at.is ∙ get_or_default globs g one other at.within ∙ there.is

-- the places of one glob more
pub column-more : (globs : List Member) (ends : List ℕ) (is_so : Member → ℕ → Bool) (old new : List Bool) (number : ℕ) (added : Member) → AreEnds globs ends → IsAt globs number added
    → ((g : ℕ) (glob : Member) (i k : ℕ) → g < number → IsAt globs g glob → i ≤ size_of glob → k + i ≡ get_or ends g 0 → holds old k ≡ is_so glob i)
    → ((i k : ℕ) → i ≤ size_of added → k + i ≡ get_or ends number 0 → holds new k ≡ is_so added i)
    → ((k : ℕ) → k + size_of added < get_or ends number 0 → holds new k ≡ holds old k)
    → (g : ℕ) (glob : Member) (i k : ℕ) → g < number + 1 → IsAt globs g glob → i ≤ size_of glob → k + i ≡ get_or ends g 0 → holds new k ≡ is_so glob i
column-more globs ends is_so old new number added are here done there others g glob i k less at low e = elim (cases_eq g number) [
  | inl same ↦
      let mine : added ≡ glob = same-glob globs number added glob here (subst (λ p. IsAt globs p glob) same at) in
      let few : i ≤ size_of added = omega (arith, low, ap size_of mine) in
      there i k few (e ∙ ap (λ p. get_or ends p 0) same) ∙ ap (λ m. is_so m i) mine
  | inr n ↦
      let earlier : g < number = omega (arith, less, n) in
      others k (omega (arith, e, order globs ends are g number added here earlier)) ∙ done g glob i k earlier at low e
]

-- a later glob ends later
pub later : (globs : List Member) (ends : List ℕ) → AreEnds globs ends → (h g : ℕ) → g < length globs → h ≤ g → get_or ends h 0 ≤ get_or ends g 0
later globs ends are h g within less = elim (cases_eq h g) [
  | inl e ↦ omega (arith, ap (λ k. get_or ends k 0) e)
  | inr n ↦ some globs ends are h g within (omega (arith, less, n))
]
  where
    some : (globs : List Member) (ends : List ℕ) → AreEnds globs ends → (h g : ℕ) → g < length globs → h < g → get_or ends h 0 ≤ get_or ends g 0
    some [] ends are h g within less = absurd (let no : ⊥ = omega (arith, within) in no)
    some (glob ∷ globs) ends are h g within less =
        let at : IsAt (glob ∷ globs) g (get_or (glob ∷ globs) g glob) = record { within = within; is = get_or_default (glob ∷ globs) g _ _ within } in
        omega (arith, order (glob ∷ globs) ends are h g (get_or (glob ∷ globs) g glob) at less)
