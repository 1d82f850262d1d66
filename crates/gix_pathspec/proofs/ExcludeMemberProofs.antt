-- What is found in a set of excludes tells whether one of them covers a directory.
use Rattle.std.proofs.Common.{◌≡◌, ℕ, zero, suc, Bool, true, false, ◌&&◌, ◌||◌, refl, sym, ◌∙◌, ap, arith, List, [], ◌∷◌, ◌++◌, map, Option, Some, None, slice_get}
use Rattle.std.specs.Prelude.{is_some, IfSome}
use Rattle.std.specs.List.{cons_option, list_any}
use Rattle.std.proofs.lemmas.Bool.{false_from_ne_true}
use Rattle.std.proofs.lemmas.List.{get_or-map, length-map}
use Rattle.std.proofs.lemmas.Option.{get_or_from_slice_get}
use Rattle.pathspec_glob.proofs.GlobProofs.{glob_is_relation}
use Rattle.pathspec_glob_set.specs.declared.set.GlobSet.{GlobSet}
use Rattle.pathspec_glob_set.specs.Answers.{IsMatch, IsNumber, LeavesOutNone}
use Rattle.pathspec_glob_set.specs.Sets.{member_matches, AreMovesOf, IsAt}
use Rattle.gix_pathspec.specs.Bytes.{slash}
use Rattle.gix_pathspec.specs.Paths.{IsBytes}
use Rattle.gix_pathspec.specs.Specs.{Spec}
use Rattle.gix_pathspec.specs.EndBytes.{has_wildcard_at}
use Rattle.gix_pathspec.specs.Room.{exclude_source_of, exclude_sources, MemberSource}
use Rattle.gix_pathspec.specs.Sets.{member_from}
use Rattle.gix_pathspec.specs.SubtreeExcludes.{covers}
use Rattle.gix_pathspec.specs.ExcludeSets.{member_covers}
use Rattle.gix_pathspec.proofs.ExcludeSetProofs.{exclude-set-cuts, exclude-set-leaves-out}
use Rattle.gix_pathspec.proofs.HeadSearchProofs.{got-within}
use Rattle.gix_pathspec.proofs.SubtreeExcludeProofs.{element-at}

-- ---- sources by their numbers

-- the member of a source stands in the set under its number
pub source-at : (sources : List MemberSource) (k : ℕ) (source : MemberSource) → slice_get sources k ≡ Some source → IsAt (map member_from sources) k (member_from source)
source-at sources k source is =
    let within = got-within sources k source is in
    record {
      within = omega (arith, within, length-map sources member_from);
      is = get_or-map member_from sources k source (member_from source) within ∙ ap member_from (get_or_from_slice_get sources k source source is);
    }

module _ (d : List ℕ) (bytes : IsBytes d) where
  abbrev matched : MemberSource → Bool
  matched source = member_matches (member_from source) (d ++ slash ∷ [])

  -- no glob of these matches
  abbrev AreOff : List MemberSource → Type 0
  AreOff sources = (k : ℕ) (source : MemberSource) → slice_get sources k ≡ Some source → matched source ≡ false

  -- where no glob matches, no exclude of the set covers the directory
  none-covers : has_wildcard_at d 0 ≡ false → (excludes : List Spec) → AreOff (exclude_sources excludes) → list_any (member_covers d) excludes ≡ false
  none-covers plain [] none = refl
  none-covers plain (s ∷ ss) none = at (exclude_source_of s) refl none (λ off. none-covers plain ss off)
    where
      at : (o : Option MemberSource) → exclude_source_of s ≡ o → AreOff (cons_option o (exclude_sources ss)) → (AreOff (exclude_sources ss) → list_any (member_covers d) ss ≡ false)
          → (is_some o && covers s d || list_any (member_covers d) ss) ≡ false
      at (Some source) e off more = rw (exclude-set-leaves-out s source d e bytes plain (off 0 source refl)) (more (λ k x is. off (suc k) x is))
      at None e off more = more off

  -- where the glob of one matches, this one does
  some-covers : (excludes : List Spec) (k : ℕ) (source : MemberSource) → slice_get (exclude_sources excludes) k ≡ Some source → matched source ≡ true → list_any (member_covers d) excludes ≡ true
  some-covers [] k source is on = cc
  some-covers (s ∷ ss) k source is on = at (exclude_source_of s) refl k is (λ j there. some-covers ss j source there on)
    where
      either : (a b : Bool) → b ≡ true → (a || b) ≡ true
      either true b h = refl
      either false b h = h

      at : (o : Option MemberSource) → exclude_source_of s ≡ o → (k : ℕ) → slice_get (cons_option o (exclude_sources ss)) k ≡ Some source
          → ((j : ℕ) → slice_get (exclude_sources ss) j ≡ Some source → list_any (member_covers d) ss ≡ true) → (is_some o && covers s d || list_any (member_covers d) ss) ≡ true
      at (Some x) e zero is more =
          let same : x ≡ source = cc in
          rw (exclude-set-cuts s x d e bytes (ap matched same ∙ on)) refl
      at (Some x) e (suc k) is more = either (covers s d) (list_any (member_covers d) ss) (more k is)
      at None e k is more = more k is

  -- what is found tells whether an exclude of the set covers the directory
  pub found-covers : (excludes : List Spec) (set : GlobSet) (found : Option ℕ) → has_wildcard_at d 0 ≡ false → AreMovesOf (map member_from (exclude_sources excludes)) set.moves
      → LeavesOutNone set (d ++ slash ∷ []) 0 found → IfSome found (IsMatch set (d ++ slash ∷ []) 0 false) → IfSome found (IsNumber set 0) → is_some found ≡ list_any (member_covers d) excludes
  found-covers excludes set None plain are leaves matches number = sym (none-covers plain excludes off)
    where
      off : (k : ℕ) (source : MemberSource) → slice_get (exclude_sources excludes) k ≡ Some source → matched source ≡ false
      off k source is = false_from_ne_true (matched source) (λ on.
          let glob = member_from source in
          leaves (map member_from (exclude_sources excludes)) are (λ c cutter less at cuts does. let no : ⊥ = omega (arith, less) in no) k glob (source-at (exclude_sources excludes) k source is) (omega arith)
          ((glob_is_relation glob.tokens.mode glob.case glob.tokens.tokens (d ++ slash ∷ [])).0 on))
  found-covers excludes set (Some r) plain are leaves matches number =
      let sources = exclude_sources excludes in
      let there = element-at sources r (omega (arith, number.within, are.ends.len, length-map sources member_from)) in
      let glob = member_from there.0 in
      let does = matches refl (map member_from sources) are (λ c cutter less at cuts does. let no : ⊥ = omega (arith, less) in no) glob (source-at sources r there.0 there.1) in
      sym (some-covers excludes r there.0 there.1 ((glob_is_relation glob.tokens.mode glob.case glob.tokens.tokens (d ++ slash ∷ [])).1 does))
