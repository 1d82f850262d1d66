use Rattle.std.proofs.Common.{◌∙◌, sym, arith}
use Rattle.pathspec_glob_set.specs.Questions.{answer_of}
use Rattle.pathspec_glob_set.specs.Sets.{IsAt}
use Rattle.pathspec_glob_set.proofs.SetProofs.{enough}
use Rattle.pathspec_glob_set.proofs.ColumnProofs.{column-more}
use Rattle.pathspec_glob_set.proofs.columns.column.Goals as goal

pub add-requires : goal.add-requires
add-requires c =
    let globs = c.args.globs.now in
    let ends = c.args.ends.now in
    let number = c.loop-number.number in
    let at : IsAt globs number c.index-globs-number.result = record { within = c.loop-number-test.true; is = sym c.index-globs-number.is } in
    record {
      begin = enough globs ends number c.index-globs-number.result c.requires.ends at;
      end = omega (arith, c.requires.places number (omega (arith, c.loop-number-test.true, c.requires.ends.len)), c.loop-number.invariant.len);
    }

pub loop-number-preserved : goal.loop-number-preserved
loop-number-preserved c =
    let globs = c.args.globs.now in
    let number = c.loop-number.number in
    let was = c.loop-number.invariant in
    let at : IsAt globs number c.index-globs-number.result = record { within = c.loop-number-test.true; is = sym c.index-globs-number.is } in
    record {
      len = c.add.ensures.len ∙ was.len;
      column = column-more globs c.args.ends.now (answer_of c.args.question) c.loop-number.column c.add.new.column number c.index-globs-number.result c.requires.ends at
          was.column c.add.ensures.there c.add.ensures.others;
    }
