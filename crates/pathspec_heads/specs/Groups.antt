-- Places in groups: those that have one head.
use Rattle.std.specs.Prelude.{◌≡◌, ℕ, ◌+◌, ◌-◌, ◌<◌, ◌≤◌, true, false, List, [], ◌∷◌, ◌++◌, length, get_or, min, Option, Some, None, IfSome, IsSomeAnd}
use Rattle.pathspec_glob.specs.Bytes.{begins_with}
use Rattle.pathspec_glob.specs.GlobCells.{has}
use Rattle.std.specs.Ordering.{nat_cmp, ordering_then, is_lt}
use Rattle.std.specs.declared.cmp.Ordering.{Ordering}
use Rattle.std.specs.Cmp.Lexicographic.{slice_cmp}
use Rattle.pathspec_heads.specs.Heads.{head_at, IsRising, ends_with_head}

-- a head and the place that has it
abbrev pub Placed : Type 0
Placed = List ℕ × ℕ

-- the entry at an index
abbrev pub entry_at : List Placed → ℕ → Placed
entry_at entries j = get_or entries j ([], 0)

-- entries are ordered by their heads, and those of one head by their places
abbrev pub placed_cmp : Placed → Placed → Ordering
placed_cmp x y = ordering_then (slice_cmp nat_cmp x.0 y.0) (nat_cmp x.1 y.1)

-- no entry stands before a lesser one
abbrev pub IsAscending : List Placed → Type 0
IsAscending entries = (i j : ℕ) → i ≤ j → j < length entries → is_lt (placed_cmp (entry_at entries j) (entry_at entries i)) ≡ false

-- each text with its place, in the order of the texts
pub record IsSortedPlaces (texts : List (List ℕ)) (entries : List Placed) : Type 0 where
  pub count : length entries ≡ length texts
  pub ascending : IsAscending entries
  pub listed : (p : ℕ) → p < length texts → (j : ℕ) × (j < length entries) × (entry_at entries j ≡ (head_at texts p, p))
  pub meant : (j : ℕ) → j < length entries → ((entry_at entries j).1 < length texts) × ((entry_at entries j).0 ≡ head_at texts (entry_at entries j).1)

-- where a group begins in the order of the places
abbrev pub start_of : List ℕ → ℕ → ℕ
start_of starts k = get_or starts k 0

-- and where it ends: where the next one begins, or at the end
abbrev pub end_of : List ℕ → List ℕ → ℕ → ℕ
end_of starts order k = get_or starts (k + 1) (length order)

-- how many places a group has
abbrev pub group_size : List ℕ → List ℕ → ℕ → ℕ
group_size starts order k = end_of starts order k - start_of starts k

-- the place stands in the group of the head with this number
pub record IsInGroup (starts order : List ℕ) (k place : ℕ) : Type 0 where
  pub at : ℕ
  pub from : start_of starts k ≤ at
  pub before : at < end_of starts order k
  pub is : get_or order at 0 ≡ place

-- Each group is a part of the order, in which places ascend.
pub record IsOrder (heads : List (List ℕ)) (starts order : List ℕ) : Type 0 where
  pub rising : IsRising heads
  pub all : length starts ≡ length heads
  pub part : (k : ℕ) → k < length heads → (start_of starts k ≤ end_of starts order k) × (end_of starts order k ≤ length order)
  pub ascending : (k i j : ℕ) → k < length heads → start_of starts k ≤ i → i ≤ j → j < end_of starts order k → get_or order i 0 ≤ get_or order j 0

-- The groups have each place of the texts, with the head that stands there; there are no more heads than texts.
pub record IsGrouped (texts heads : List (List ℕ)) (starts order : List ℕ) : Type 0 where
  pub few : length heads ≤ length texts
  pub stands : (k : ℕ) → k < length heads → (p : ℕ) × (p < length texts) × (head_at heads k ≡ head_at texts p)
  pub listed : (p : ℕ) → p < length texts → (k : ℕ) × (k < length heads) × (head_at heads k ≡ head_at texts p) × IsInGroup starts order k p
  pub meant : (k p : ℕ) → k < length heads → IsInGroup starts order k p → (p < length texts) × (head_at heads k ≡ head_at texts p)

-- the place stands in a group whose head begins that of the one with this number
abbrev pub IsInChain : List (List ℕ) → List ℕ → List ℕ → ℕ → ℕ → Type 0
IsInChain heads starts order j place = (k : ℕ) × (k < length heads) × (begins_with (head_at heads j) (head_at heads k) ≡ true) × IsInGroup starts order k place

-- what places by head are seen as: their groups
pub record GroupedPlaces : Type 0 where
  pub heads : List (List ℕ)
  pub starts : List ℕ
  pub order : List ℕ

-- no group has more places than this, and unless there are none some has as many
pub record IsLargestGroup (places : GroupedPlaces) (largest : ℕ) : Type 0 where
  pub all : (k : ℕ) → k < length places.heads → group_size places.starts places.order k ≤ largest
  pub some : 0 < largest → (k : ℕ) × (k < length places.heads) × (group_size places.starts places.order k ≡ largest)

-- the bits of the word are just the numbers with this property
pub record HasBitsOf (word : ℕ) (is_in : ℕ → Type 0) : Type 0 where
  pub only : (p : ℕ) → has word p ≡ true → is_in p
  pub all : (p : ℕ) → is_in p → has word p ≡ true

-- the words have the places in the chains of the first heads
abbrev pub AreWords : GroupedPlaces → List ℕ → Type 0
AreWords places words = (k : ℕ) → k < length words → HasBitsOf (get_or words k 0) (IsInChain places.heads places.starts places.order k)

-- groups of places, and their words
pub record ArePlaces (heads : List (List ℕ)) (starts order words : List ℕ) : Type 0 where
  pub grouped : IsOrder heads starts order
  pub known : AreWords (record { heads = heads; starts = starts; order = order }) words

-- the lesser of two numbers, of those that are there
abbrev pub earlier : Option ℕ → Option ℕ → Option ℕ
earlier None right = right
earlier (Some p) None = Some p
earlier (Some p) (Some q) = Some (min p q)

-- the least number from one on that has this property, where some has
pub record IsLeastFrom (has : ℕ → Type 0) (from : ℕ) (next : Option ℕ) : Type 0 where
  pub found : IfSome next (λ p. (from ≤ p) × has p)
  pub first : (p : ℕ) → from ≤ p → has p → IsSomeAnd next (λ q. q ≤ p)

-- entry by entry, the groups of the first so many entries
pub record IsGroupedFront (entries : List Placed) (count : ℕ) (heads : List (List ℕ)) (starts order : List ℕ) : Type 0 where
  pub few : length heads ≤ count
  pub all : length starts ≡ length heads
  pub counted : length order ≡ count
  pub places : (j : ℕ) → j < count → get_or order j 0 ≡ (entry_at entries j).1
  pub part : (k : ℕ) → k < length heads → (start_of starts k < end_of starts order k) × (end_of starts order k ≤ count)
  pub headed : (k j : ℕ) → k < length heads → start_of starts k ≤ j → j < end_of starts order k → (entry_at entries j).0 ≡ head_at heads k
  pub covered : (j : ℕ) → j < count → (k : ℕ) × (k < length heads) × (start_of starts k ≤ j) × (j < end_of starts order k)
  pub rising : IsRising heads

-- The place is put behind the others, and where its head isn't the last one, a group of that head is begun.
pub record AddsPlace (heads : List (List ℕ)) (starts order : List ℕ) (heads' : List (List ℕ)) (starts' order' : List ℕ) (head : List ℕ) (place : ℕ) : Type 0 where
  pub behind : order' ≡ order ++ place ∷ []
  pub known : ends_with_head heads head ≡ true → (heads' ≡ heads) × (starts' ≡ starts)
  pub begun : ends_with_head heads head ≡ false → (heads' ≡ heads ++ head ∷ []) × (starts' ≡ starts ++ length order ∷ [])
