-- The globs that sets of a search are made of, one set for each head: globs that begin right behind the head of their spec.
use Rattle.std.specs.Prelude.{◌≡◌, ◌+◌, ℕ, Bool, true, false, not, ◌&&◌, List, [], ◌∷◌, ◌++◌, ◌<◌, All, length, get_or, slice_get, ltb, map, drop, filter, filter_map, bytes_eq, if◌then◌else◌, Option, Some, None, is_some}
use Rattle.std.specs.List.{list_any}
use Rattle.std.specs.Option.{option_map}
use Rattle.pathspec_glob.specs.Bytes.{star}
use Rattle.pathspec_glob_set.specs.declared.member.Member.{Member}
use Rattle.pathspec_glob_set.specs.Sets.{count_places, member_matches}
use Rattle.pathspec_glob_set.specs.Sizes.{most_places}
use Rattle.gix_pathspec.specs.Bytes.{begins_with, is_wildcard}
use Rattle.gix_pathspec.specs.Paths.{IsBytes}
use Rattle.gix_pathspec.specs.Attributes.{Table}
use Rattle.gix_pathspec.specs.Specs.{Spec}
use Rattle.gix_pathspec.specs.Matching.{glob_matches, spec_matches}
use Rattle.gix_pathspec.specs.Prefixes.{head, stem}
use Rattle.gix_pathspec.specs.EndBytes.{has_wildcard_at, NeverMatches}
use Rattle.gix_pathspec.specs.Sources.{asks_no_more, glob_of, source_with, MemberSource}
use Rattle.gix_pathspec.specs.Search.{Numbered}
use Rattle.gix_pathspec.specs.Sets.{member_from}

-- ---- one spec

-- what a member of a set is made of: its glob, and the head right behind which that begins
pub record SetSource : Type 0 where
  pub head : List ℕ
  pub member : MemberSource

-- The spec has a glob, which begins right behind the head: all of the stem is the head.
abbrev pub set_source_of : Spec → Option SetSource
set_source_of s = if bytes_eq (stem s) (head s) then option_map (λ glob. record { head = head s; member = source_with s glob }) (glob_of s) else None

-- the spec has a source
abbrev pub has_source : Spec → Bool
has_source s = is_some (set_source_of s)

-- the spec has a source, and this head
abbrev pub is_of_head : List ℕ → Spec → Bool
is_of_head h s = has_source s && bytes_eq (head s) h

-- the spec has a source, and one of these heads
abbrev pub is_of_heads : List (List ℕ) → Spec → Bool
is_of_heads hs s = list_any (λ h. is_of_head h s) hs

-- what stands in a text behind a head that begins it
abbrev pub behind : List ℕ → List ℕ → List ℕ
behind h text = drop (length h) text

-- the member of a set: the tokens of the glob behind the head
abbrev pub member_behind : SetSource → Member
member_behind source =
    let whole = member_from source.member in
    record { tokens = record { mode = whole.tokens.mode; tokens = drop (length source.head) whole.tokens.tokens }; case = whole.case; cuts = whole.cuts }

-- Where the head of a spec begins a path, the member matches what stands behind it just where the spec's glob matches the path.
abbrev pub MemberIsGlob : Type 0
MemberIsGlob =
    (s : Spec) (source : SetSource) (path : List ℕ) → set_source_of s ≡ Some source → IsBytes path → begins_with path source.head ≡ true
    → member_matches (member_behind source) (behind source.head path) ≡ glob_matches s.mode s path

-- Where the glob doesn't match, the spec doesn't, whatever a look-up says, unless a wildcard byte stands in the path right behind the head: the path may be the spec's text then.
abbrev pub UnmatchedNeverMatches : Type 0
UnmatchedNeverMatches =
    (s : Spec) (source : SetSource) (path : List ℕ) → set_source_of s ≡ Some source → has_wildcard_at path (length source.head) ≡ false
    → glob_matches s.mode s path ≡ false → NeverMatches s path

-- Where the glob of a spec that asks for no more matches, the spec does, whatever a look-up says.
abbrev pub MatchedAlwaysMatches : Type 0
MatchedAlwaysMatches =
    (s : Spec) (source : SetSource) (path : List ℕ) → set_source_of s ≡ Some source → asks_no_more s ≡ true
    → glob_matches s.mode s path ≡ true → (table : Table) (is_dir : Bool) → spec_matches table s path is_dir ≡ true

-- ---- the specs of a search

-- the sources of those that have one, in search order
abbrev pub all_sources : List Numbered → List SetSource
all_sources specs = filter_map (λ n. set_source_of n.spec) specs

-- the places of the elements that pass a test, where the first element has this place
abbrev pub positions_from : {X : Type 0} → (X → Bool) → ℕ → List X → List ℕ
positions_from test p [] = []
positions_from test p (x ∷ xs) = if test x then p ∷ positions_from test (p + 1) xs else positions_from test (p + 1) xs

-- the places of the specs with a source, in search order
abbrev pub source_places : List Numbered → List ℕ
source_places specs = positions_from (λ n. has_source n.spec) 0 specs

-- the source has this head
abbrev pub is_behind : List ℕ → SetSource → Bool
is_behind h source = bytes_eq source.head h

-- the sources that have this head
abbrev pub sources_behind : List ℕ → List SetSource → List SetSource
sources_behind h sources = filter (is_behind h) sources

-- the numbers of the sources that have this head
abbrev pub numbers_behind : List ℕ → List SetSource → List ℕ
numbers_behind h sources = positions_from (is_behind h) 0 sources

-- the places of the specs that are the sources of a head
abbrev pub places_behind : List ℕ → List Numbered → List ℕ
places_behind h specs = map (λ r. get_or (source_places specs) r 0) (numbers_behind h (all_sources specs))

-- a head with a star behind it, which begins no other such text: no wildcard byte stands in a head
abbrev pub ended : List ℕ → List ℕ
ended h = h ++ star ∷ []

-- the texts by which sources are put in groups
abbrev pub ended_heads : List SetSource → List (List ℕ)
ended_heads sources = map (λ source. ended source.head) sources

-- the text at a place begins with none of those before it
abbrev pub IsFirstOf : List (List ℕ) → ℕ → Type 0
IsFirstOf texts number = (text : List ℕ) (k : ℕ) (t : List ℕ) → slice_get texts number ≡ Some text → k < number → slice_get texts k ≡ Some t → begins_with text t ≡ false

-- The text at a place begins with none of those before it, and these are the places of the texts that it begins with.
pub record IsGroupOf (texts : List (List ℕ)) (number : ℕ) (numbers : List ℕ) : Type 0 where
  pub first : IsFirstOf texts number
  pub all : (text : List ℕ) → slice_get texts number ≡ Some text → numbers ≡ positions_from (begins_with text) 0 texts

-- no wildcard byte stands in a head
abbrev pub ArePlain : List SetSource → Type 0
ArePlain sources = All (λ source. list_any is_wildcard source.head ≡ false) sources

-- the members of the set of a head
abbrev pub members_behind : List ℕ → List SetSource → List Member
members_behind h sources = map member_behind (sources_behind h sources)

-- A head has a set: four sources or more have it, and their members have no more places than a set takes.
abbrev pub has_set_behind : List SetSource → List ℕ → Bool
has_set_behind sources h = not (ltb (length (sources_behind h sources)) 4) && not (ltb most_places (count_places (members_behind h sources)))

-- the spec stands in a set
abbrev pub stands_in_set : List SetSource → Spec → Bool
stands_in_set sources s = has_set_behind sources (head s) && has_source s

-- some head has a set
abbrev pub has_any_set : List SetSource → Bool
has_any_set sources = list_any (λ source. has_set_behind sources source.head) sources

-- the sources of all that stand in sets, and of others, if some head has a set
abbrev pub head_set_sources : List Numbered → List SetSource
head_set_sources specs = if has_any_set (all_sources specs) then all_sources specs else []

-- how many places the globs of sources have behind their heads: one for each token, and one more for each glob
abbrev pub places_behind_heads : List SetSource → ℕ
places_behind_heads sources = count_places (map member_behind sources)
