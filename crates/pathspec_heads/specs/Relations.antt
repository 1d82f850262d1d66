-- How a path is related to a stem, as a search for stems asks it.
use Rattle.std.specs.Prelude.{ℕ, Bool, true, false, List, Option, Some, None}
use Rattle.pathspec_heads.specs.declared.stems.Relation.{Relation}
use Rattle.pathspec_heads.specs.declared.stems.Relation.TheVariants.{Below, AtOrBelow, LeadsTo, LeadsToWild}
use Rattle.pathspec_heads.specs.Stems.{leads_to, lies_below, lies_at_or_below}

abbrev pub relates : Relation → List ℕ → List ℕ → Bool
relates Below stem path = lies_below stem path
relates AtOrBelow stem path = lies_at_or_below stem path
relates LeadsTo stem path = leads_to stem false path
relates LeadsToWild stem path = leads_to stem true path

-- where there is a relation
abbrev pub is_related : Option Relation → List ℕ → List ℕ → Bool
is_related None stem path = false
is_related (Some relation) stem path = relates relation stem path
