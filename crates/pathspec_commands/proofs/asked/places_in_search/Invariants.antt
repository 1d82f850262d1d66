-- The places so far, and those of the next exclude and the next include.
use Rattle.pathspec_commands.proofs.SpecPlaceProofs.{HasPlaced}
use Rattle.pathspec_commands.proofs.asked.places_in_search.Given as goal

abbrev pub invariant-loop-is_exclude : goal.invariant-loop-is_exclude
invariant-loop-is_exclude l = HasPlaced l.excludes l.is_exclude-index l.initial.included l.places.items l.excluded l.included
