-- Rows on walks over the tree of a listing, and why it counts that the paths of a tree are bytes.
use Rattle.std.proofs.Common.{◌≡◌, ℕ, ◌<◌, true, false, refl, List, [], ◌∷◌, Some, arith, inl, inr, subst}
use Rattle.std.specs.Prelude.{codes, map}
use Rattle.pathspec_pattern.specs.declared.SearchMode.TheVariants.{Literal}
use Rattle.pathspec_parts.specs.Bytes.{slash}
use Rattle.pathspec_parts.specs.Paths.{IsBytes}
use Rattle.pathspec_parts.specs.Attributes.{Table}
use Rattle.pathspec_parts.specs.Entries.{Entry, entries_where}
use Rattle.pathspec_parts.specs.Cursors.{next_seen}
use Rattle.gix_pathspec.specs.Specs.{Spec}
use Rattle.gix_pathspec.specs.Matching.{spec_matches, fit, has_attributes, is_chosen}
use Rattle.gix_pathspec.specs.Prefixes.{common_prefix}
use Rattle.gix_pathspec.specs.Plain.{is_plain}
use Rattle.gix_pathspec.specs.Tables.{stem_reaches}
use Rattle.gix_pathspec.specs.Pruning.{can_match, reaches}
use Rattle.gix_pathspec.specs.Skipping.{may_skip, holds_nothing, takes_whole, takes_rest, shadows}
use Rattle.gix_pathspec.specs.PruningLaws.{TakesAtOrBelow}
use Rattle.pathspec_parts.specs.Records.{listing_entries}
use Rattle.pathspec_parts.specs.AttributeRows.{table_of}
use Rattle.pathspec_walk.specs.Walks.{can_hold, chosen_entries}

-- the spec of a path, compared byte for byte
abbrev literal : List ℕ → Spec
literal path = record { path = path; signature = 0; mode = Literal; attributes = []; nil = false; prefix_length = 0 }

-- ---- a walk

abbrev es : List Entry
es = listing_entries (codes "a/" ∷ codes "a/b" ∷ codes "c/" ∷ codes "c/d" ∷ [])

abbrev specs : List Spec
specs = literal (codes "a/b") ∷ []

which_can_hold : map (λ e. can_hold specs e.path) es ≡ (true ∷ true ∷ false ∷ false ∷ [])
unfolding may_skip holds_nothing takes_whole takes_rest shadows can_match reaches stem_reaches common_prefix
which_can_hold = refl

which_are_chosen : chosen_entries (table_of []) specs es ≡ (1 ∷ [])
unfolding entries_where is_chosen spec_matches fit has_attributes
which_are_chosen = refl

after_first : next_seen (0 ∷ []) 1 es ≡ Some 1
after_first = refl

over_what_is_not_entered : next_seen [] 1 es ≡ Some 2
over_what_is_not_entered = refl

-- ---- a number that is no byte would be entered, and no path of bytes lies at or below it

abbrev no_byte : List ℕ
no_byte = 300 ∷ []

is_plain_include : is_plain (literal no_byte) ≡ true
is_plain_include = refl

is_entered : can_hold (literal no_byte ∷ []) no_byte ≡ true
unfolding may_skip holds_nothing takes_whole takes_rest shadows can_match reaches stem_reaches common_prefix
is_entered = refl

not_bytes : (path rest : List ℕ) → path ≡ 300 ∷ rest → IsBytes path → ⊥
not_bytes path rest e b = let w : 300 < 256 = subst IsBytes e b 0 0 (omega arith) in omega (arith, w)

nothing_there : (table : Table) → TakesAtOrBelow (spec_matches table) (literal no_byte ∷ []) no_byte → ⊥
nothing_there table t = elim t.6 [
  | inl q ↦ not_bytes t.3 [] q.0 t.5
  | inr q ↦ not_bytes t.3 (slash ∷ q.0) q.1 t.5
]
