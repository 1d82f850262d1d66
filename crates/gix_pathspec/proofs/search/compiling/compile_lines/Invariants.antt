-- The lines so far have been read.
use Rattle.bstr.specs.BStr.{bstr_bytes}
use Rattle.gix_pathspec.specs.Search.{specs_of}
use Rattle.gix_pathspec.specs.SelectionLaws.{SpecPathsAreBytes}
use Rattle.gix_pathspec.specs.Lines.{spec_lines}
use Rattle.gix_pathspec.proofs.LineProofs.{AreRead}
use Rattle.gix_pathspec.proofs.search.compiling.compile_lines.Given as goal

abbrev pub invariant-loop-number : goal.invariant-loop-number
invariant-loop-number l =
    AreRead l.defaults (bstr_bytes l.prefix) (bstr_bytes l.root) (spec_lines l.fn.text) l.number-iterator.count l.number-iterator.iter l.specs.items l.fault
    × SpecPathsAreBytes (specs_of l.specs.items)
