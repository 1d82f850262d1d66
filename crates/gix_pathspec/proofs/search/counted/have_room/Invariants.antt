use Rattle.std.proofs.Common.{map, take}
use Rattle.pathspec_parts.specs.Outcomes.{names_of}
use Rattle.gix_pathspec.specs.Room.{HasGlobRoom}
use Rattle.gix_pathspec.proofs.search.counted.have_room.Given as goal

abbrev pub invariant-loop-place : goal.invariant-loop-place
invariant-loop-place l = HasGlobRoom (take l.place l.specs) l.globs.tokens (map names_of (take l.place l.outcomes))
