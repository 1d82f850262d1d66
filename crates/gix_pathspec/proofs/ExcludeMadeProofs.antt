-- Where a set is made of subtree excludes.
use Rattle.std.proofs.Common.{◌≡◌, ℕ, ◌+◌, ◌*◌, ◌<◌, ◌≤◌, true, false, refl, sym, ap, subst, arith, cond, List, [], length, map, Option, Some, None}
use Rattle.std.specs.Prelude.{is_some}
use Rattle.pathspec_glob_set.specs.Sizes.{most_places}
use Rattle.gix_pathspec.specs.Room.{exclude_set_sources, exclude_sources, has_exclude_set, MemberSource}
use Rattle.std.specs.Option.{ForSome}
use Rattle.std.specs.Borrow.{Bor}
use Rattle.std.proofs.lemmas.List.{length-map}
use Rattle.pathspec_glob_set.specs.declared.set.SetScratch.{SetScratch}
use Rattle.pathspec_glob_set.specs.Moves.{AreAlike}
use Rattle.pathspec_glob_set.proofs.AnswerProofs.{alike-moves}
use Rattle.gix_pathspec.specs.declared.search.exclude_members.ExcludeMembers.{ExcludeMembers}
use Rattle.gix_pathspec.specs.ExcludeMembers.{AreExcludeMembersOf}
use Rattle.gix_pathspec.specs.Members.{IsScratchOf}
use Rattle.gix_pathspec.specs.Specs.{Spec}
use Rattle.gix_pathspec.specs.Sets.{member_from, places_of, IsSetMade}

-- no set is made of too few excludes
pub none-made-of : (excludes : List Spec) → has_exclude_set excludes ≡ false → IsSetMade (exclude_set_sources excludes) → ⊥
none-made-of excludes few made = made.some (ap (λ b. cond b (exclude_sources excludes) []) few)

-- where the globs have no more places than a set takes, one is made
pub is-made-of : {A : Type 0} (excludes : List Spec) (set : Option A) → has_exclude_set excludes ≡ true → (set ≡ None → most_places < places_of (exclude_sources excludes))
    → IsSetMade (exclude_set_sources excludes) → is_some set ≡ true
is-made-of excludes (Some set) enough none made = refl
is-made-of excludes None enough none made =
    let few = (subst IsSetMade (ap (λ b. cond b (exclude_sources excludes) []) enough) made).few in
    absurd (let no : ⊥ = omega (arith, few, none refl) in no)

-- the room that the set of excludes makes is one for their sources
pub own-room : (excludes : List Spec) (members : ExcludeMembers) (scratch : SetScratch) → AreExcludeMembersOf excludes members → AreAlike scratch.table.moves members.set.moves
    → ForSome (Some scratch) (IsScratchOf (exclude_set_sources excludes))
own-room excludes members scratch are alike = λ s e.
    let all : exclude_set_sources excludes ≡ exclude_sources excludes = ap (λ b. cond b (exclude_sources excludes) []) are.enough in
    let same : scratch ≡ s = cc in
    let own = alike-moves (map member_from (exclude_sources excludes)) scratch.table.moves members.set.moves alike are.set in
    subst (IsScratchOf (exclude_set_sources excludes)) same (subst (λ sources. IsScratchOf sources scratch) (sym all) own)

-- steps and looks that are few for the moves of a set are few for its sources
pub few-steps : (d : List ℕ) (sources : List MemberSource) (scratch : SetScratch) → IsScratchOf sources scratch
    → (length d + 1) * (length scratch.table.moves.wide + 2) + length scratch.table.moves.ends.items ≤ (length d + 1) * (places_of sources + 2) + length sources
few-steps d sources scratch own =
    let same : (length d + 1) * (length scratch.table.moves.wide + 2) ≡ (length d + 1) * (places_of sources + 2) = ap (λ k. (length d + 1) * (k + 2)) own.places in
    omega (arith, same, own.ends.len, length-map sources member_from)

-- a set that is asked is made of the sources of the excludes
pub asked-sources : (excludes : List Spec) (members : Option (Bor ExcludeMembers)) → ForSome members (λ set. AreExcludeMembersOf excludes set.now) → is_some members ≡ true
    → exclude_set_sources excludes ≡ exclude_sources excludes
asked-sources excludes None are some = cc
asked-sources excludes (Some set) are some = ap (λ b. cond b (exclude_sources excludes) []) (are set refl).enough
