use Rattle.std.proofs.Common.{◌≡◌, ◌+◌, ◌≤◌, ◌++◌, map, length}
use Rattle.std.specs.Str.Lines.{lines}
use Rattle.pathspec_attributes.specs.Lines.{before_nul}
use Rattle.pathspec_attributes.specs.Readings.{reading}
use Rattle.pathspec_attributes.specs.Files.{left_out, left_out_from, lines_from, macros_in, readings_of, rules_in}
use Rattle.pathspec_attributes.specs.Views.{left_out_view, line_in, macro_view, rule_in}
use Rattle.pathspec_attributes.proofs.file.read_file.Given as goal

abbrev pub invariant-loop-line : goal.invariant-loop-line
invariant-loop-line l = record {
  rules : rules_in (readings_of l.may_define l.fn.text) ≡ map rule_in l.read.file.rules.items ++ rules_in (map (reading l.may_define) (map before_nul (lines l.rest)));
  numbers : lines_from 1 (readings_of l.may_define l.fn.text) ≡ map line_in l.read.file.rules.items ++ lines_from (l.number + 1) (map (reading l.may_define) (map before_nul (lines l.rest)));
  macros : macros_in (readings_of l.may_define l.fn.text) ≡ map macro_view l.read.file.macros.items ++ macros_in (map (reading l.may_define) (map before_nul (lines l.rest)));
  left_out : left_out l.may_define l.fn.text ≡ map left_out_view l.read.left_out.items ++ left_out_from (l.number + 1) (map (reading l.may_define) (map before_nul (lines l.rest)));
  few : l.number + length l.rest ≤ length l.fn.text;
}

abbrev pub decreases-loop-line : goal.decreases-loop-line
decreases-loop-line l = length l.rest
