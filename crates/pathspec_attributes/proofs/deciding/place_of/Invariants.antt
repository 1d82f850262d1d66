use Rattle.std.proofs.Common.{◌≡◌, map, reverse, take}
use Rattle.std.specs.Option.{option_map}
use Rattle.pathspec_attributes.specs.Deciding.{body_of}
use Rattle.pathspec_attributes.specs.Leading.{body_of_place}
use Rattle.pathspec_attributes.specs.Views.{macro_view}
use Rattle.pathspec_attributes.proofs.deciding.place_of.Given as goal

abbrev pub invariant-loop-place : goal.invariant-loop-place
invariant-loop-place l = option_map (body_of_place l.macros) l.found ≡ body_of (reverse (map macro_view (take l.place l.macros))) l.name
