-- The patterns so far are made ready for matching, or the first fault is known.
use Rattle.std.proofs.Common.{map}
use Rattle.bstr.specs.BStr.{bstr_bytes}
use Rattle.gix_pathspec.specs.Patterns.{pattern_spec}
use Rattle.gix_pathspec.specs.Search.{specs_of, numbered_from}
use Rattle.gix_pathspec.specs.Building.{AreMade}
use Rattle.gix_pathspec.specs.SelectionLaws.{SpecPathsAreBytes}
use Rattle.gix_pathspec.proofs.search.compiling.compile_all.Given as goal

abbrev pub invariant-loop-pattern : goal.invariant-loop-pattern
invariant-loop-pattern g l =
    AreMade l.specs.items l.fault (numbered_from 0 (bstr_bytes l.prefix) (bstr_bytes l.root) (map pattern_spec l.yielded))
    × SpecPathsAreBytes (specs_of l.specs.items)
