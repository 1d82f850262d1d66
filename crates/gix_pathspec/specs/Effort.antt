-- How much a search looks at: the specs that it asks about a path, and the heads that it compares with it.
use Rattle.std.specs.Prelude.{◌≡◌, ◌≢◌, ℕ, ◌+◌, ◌*◌, ◌^◌, ◌<◌, ◌≤◌, Bool, true, false, not, ◌&&◌, ◌||◌, List, [], length, map, filter, slice_get, if◌then◌else◌, Option, Some, None, is_some}
use Rattle.std.specs.Option.{option_and_then, ForSome}
use Rattle.gix_pathspec.specs.declared.search.MatchKind.{MatchKind}
use Rattle.gix_pathspec.specs.Bytes.{is_empty, begins_with}
use Rattle.pathspec_heads.specs.Groups.{GroupedPlaces, IsGrouped}
use Rattle.gix_pathspec.specs.Attributes.{Table}
use Rattle.gix_pathspec.specs.EndBytes.{has_wildcard_at}
use Rattle.gix_pathspec.specs.Prefixes.{head, common_prefix}
use Rattle.pathspec_glob.specs.Counts.{Counts}
use Rattle.gix_pathspec.specs.Search.{Numbered, Answer, MatchCounts, specs_of}
use Rattle.gix_pathspec.specs.Found.{matched_kind}
use Rattle.gix_pathspec.specs.declared.search.members.Members.{Members}
use Rattle.gix_pathspec.specs.Members.{AreMembersOf}
use Rattle.gix_pathspec.specs.Specs.{Spec}
use Rattle.gix_pathspec.specs.Matching.{glob_matches}
use Rattle.gix_pathspec.specs.Beside.{IsUnbarred}
use Rattle.gix_pathspec.specs.Room.{asks_no_more}
use Rattle.gix_pathspec.specs.SetSources.{all_sources, has_any_set, has_set_behind, head_set_sources, places_behind_heads, stands_in_set, SetSource}

-- the heads of the specs in search order
abbrev pub heads_in_order : List Numbered → List (List ℕ)
heads_in_order specs = map (λ n. head n.spec) specs

-- the places in search order of the specs, in groups by their heads
abbrev pub ArePlacesOf : List Numbered → GroupedPlaces → Type 0
ArePlacesOf specs places = IsGrouped (heads_in_order specs) places.heads places.starts places.order

-- The places are those of the specs, as are the members, which are there if some head has a set; and this is their common prefix.
pub record IsByHead (specs : List Numbered) (heads : GroupedPlaces) (members : Option Members) (common : List ℕ) : Type 0 where
  pub is_grouped : ArePlacesOf specs heads
  pub are_members : ForSome members (AreMembersOf specs)
  pub is_made : is_some members ≡ has_any_set (all_sources specs)
  pub is_common : common ≡ common_prefix (specs_of specs)

-- how the spec at a place matches a path, where there is one
abbrev pub kind_at : Table → List Numbered → List ℕ → Bool → ℕ → Option MatchKind
kind_at table specs path is_dir place = option_and_then (λ n. matched_kind table n.spec path is_dir) (slice_get specs place)

-- a spec whose head begins the path
abbrev pub is_candidate : List ℕ → Numbered → Bool
is_candidate path n = begins_with path (head n.spec)

-- how many specs have a head that begins the path
abbrev pub candidate_count : List Numbered → List ℕ → ℕ
candidate_count specs path = length (filter (is_candidate path) specs)

-- at most b + 2 heads are compared, of fewer than 2 ^ b
abbrev pub AreFewCompared : ℕ → ℕ → Type 0
AreFewCompared heads compared = (b : ℕ) → heads < 2 ^ b → compared ≤ b + 2

-- at most (path bytes + 1) times (b + 1) heads are compared, of fewer than 2 ^ b specs
abbrev pub IsLittleCompared : List Numbered → List ℕ → ℕ → Type 0
IsLittleCompared specs path compared = (b : ℕ) → length specs < 2 ^ b → compared ≤ (length path + 1) * (b + 1)

-- The totals grew by what the last question asked and compared. It asked no more than the candidates, and compared few of the heads.
pub record IsLastCounted (candidates heads : ℕ) (old new : MatchCounts) : Type 0 where
  pub tested : Counts old.tested new.last_tested new.tested
  pub compared : Counts old.compared new.last_compared new.compared
  pub few_tested : new.last_tested ≤ candidates
  pub few_compared : AreFewCompared heads new.last_compared

-- The totals grew by what the last match asked and compared. It asked no more specs than have a head that begins the path.
abbrev pub IsCounted : List Numbered → List ℕ → MatchCounts → MatchCounts → Type 0
IsCounted specs path = IsLastCounted (candidate_count specs path) (length specs)

-- No set settles the spec: it stands in none, or its glob matches the path, and it asks for more.
abbrev pub is_unsettled : List SetSource → List ℕ → Spec → Bool
is_unsettled sources path s = if stands_in_set sources s then not (asks_no_more s) && glob_matches s.mode s path else true

-- a candidate that no set settles
abbrev pub is_unsettled_candidate : List SetSource → List ℕ → Numbered → Bool
is_unsettled_candidate sources path n = is_candidate path n && is_unsettled sources path n.spec

-- how many there are
abbrev pub unsettled_count : List Numbered → List ℕ → ℕ
unsettled_count specs path = length (filter (is_unsettled_candidate (all_sources specs) path) specs)

-- Where the sets told which of their specs to ask, at most one was asked of those that match where their glob does.
abbrev pub AskedOnce : List Numbered → List ℕ → MatchCounts → Type 0
AskedOnce specs path counts = counts.last_by_set ≡ true → counts.last_tested ≤ unsettled_count specs path + 1

-- a path that is answered without a look at the specs: it is empty, or lacks the common prefix
abbrev pub is_settled_early : List Numbered → List ℕ → Bool
is_settled_early specs path = is_empty path || not (begins_with path (common_prefix (specs_of specs)))

-- Where some head has a set, the sets told which of their specs to ask, unless the path is settled early, a wildcard byte stands in it right behind such a head, or a set gave up.
abbrev pub ToldBySet : List Numbered → List ℕ → MatchCounts → Type 0
ToldBySet specs path counts =
    has_any_set (all_sources specs) ≡ true → is_settled_early specs path ≡ false → IsUnbarred specs path → counts.last_gave_up ≡ false → counts.last_by_set ≡ true

-- A set gave up on the path: its head begins the path, which isn't settled early, and no wildcard byte stands right behind. The sets told nothing.
pub record GaveUpOn (specs : List Numbered) (path : List ℕ) (counts : MatchCounts) : Type 0 where
  pub head : List ℕ
  pub enough : has_set_behind (all_sources specs) head ≡ true
  pub begins : begins_with path head ≡ true
  pub plain : has_wildcard_at path (length head) ≡ false
  pub late : is_settled_early specs path ≡ false
  pub silent : counts.last_by_set ≡ false

-- how many steps and looks the sets of specs take at most: for each byte of a path as many steps as they have places, and one for each
-- member; a look at each member; and one more for each, in which looks at heads are counted
abbrev pub most_steps : List Numbered → List ℕ → ℕ
most_steps specs path = length path * (places_behind_heads (head_set_sources specs) + length (head_set_sources specs)) + 2 * length (head_set_sources specs)

-- The total grew by the steps and looks of the sets in the last match, which are few. It says whether the sets told which of their specs
-- to ask, and where one gave up.
pub record IsSetCounted (specs : List Numbered) (path : List ℕ) (old new : MatchCounts) : Type 0 where
  pub stepped : Counts old.stepped new.last_stepped new.stepped
  pub few_stepped : new.last_stepped ≤ most_steps specs path
  pub once : AskedOnce specs path new
  pub told : ToldBySet specs path new
  pub gave_up : new.last_gave_up ≡ true → GaveUpOn specs path new

-- a spec of the search settles a path that isn't empty, and not the nil pattern in the place of one
abbrev pub IsBySpec : List Numbered → List ℕ → Option Answer → Type 0
IsBySpec specs path None = ⊥
IsBySpec specs path (Some a) = (path ≢ []) × (a.number < length specs)
