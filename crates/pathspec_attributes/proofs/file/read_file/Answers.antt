-- Each line says what it says, and the lines behind it are to come.
use Rattle.std.proofs.Common.{map, arith, ◌+◌}
use Rattle.pathspec_attributes.specs.Files.{left_out, lines_from, macros_in, readings_of, rules_in}
use Rattle.pathspec_attributes.specs.Views.{left_out_view, line_in, macro_view, reading_view, rule_in}
use Rattle.pathspec_attributes.proofs.FileProofs.{line-rules, line-lines, line-macros, line-left_out}
use Rattle.pathspec_attributes.proofs.file.read_file.Goals as goal

pub loop-line-preserved : goal.loop-line-preserved
loop-line-preserved c =
    let may = c.args.may_define in
    let rest = c.loop-line.rest.now in
    let line = c.in-Some.line.now in
    let behind = c.in-Some.behind.now in
    let text = c.before_nul.result.now in
    let said = reading_view c.in_ok-reading.reading in
    let here = c.in-Some.ensures.0 in
    let old = c.loop-line.read in
    let new = c.keep.new.read in
    record {
      rules = line-rules may rest line behind text said here c.before_nul.ensures c.in_ok-reading.ensures (rules_in (readings_of may c.args.text.now)) (map rule_in old.file.rules.items) (map rule_in new.file.rules.items) c.loop-line.invariant.rules c.in_ok-keep.ensures.rules;
      numbers = line-lines may rest line behind text said here c.before_nul.ensures c.in_ok-reading.ensures (c.loop-line.number + 1) (lines_from 1 (readings_of may c.args.text.now)) (map line_in old.file.rules.items) (map line_in new.file.rules.items) c.loop-line.invariant.numbers c.in_ok-keep.ensures.lines;
      macros = line-macros may rest line behind text said here c.before_nul.ensures c.in_ok-reading.ensures (macros_in (readings_of may c.args.text.now)) (map macro_view old.file.macros.items) (map macro_view new.file.macros.items) c.loop-line.invariant.macros c.in_ok-keep.ensures.macros;
      left_out = line-left_out may rest line behind text said here c.before_nul.ensures c.in_ok-reading.ensures (c.loop-line.number + 1) (left_out may c.args.text.now) (map left_out_view old.left_out.items) (map left_out_view new.left_out.items) c.loop-line.invariant.left_out c.in_ok-keep.ensures.left_out;
      few = omega (arith, c.loop-line.invariant.few, c.in-Some.ensures.1);
    }
