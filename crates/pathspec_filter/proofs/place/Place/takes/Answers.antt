-- Nothing below a directory that may be skipped is selected.
use Rattle.std.proofs.Common.{◌∙◌, sym, ap}
use Rattle.pathspec_filter.specs.Selections.{taken_if}
use Rattle.pathspec_filter.proofs.PlaceProofs.{skipped-chosen}
use Rattle.pathspec_filter.proofs.place.Place.takes.Goals as goal

pub returns-then-self-ne0-clause-taken : goal.returns-then-self-ne0-clause-taken
returns-then-self-ne0-clause-taken g c =
    c.takes_if.ensures ∙ ap (taken_if c.args.questions.now.selection) (sym (skipped-chosen (g.L.LookUp.table c.args.look_up.now) c.args.questions.now c.args.self.now.directory.items c.args.path.now c.args.self.now.skipped c.args.is_dir c.requires.skipped c.if-self-ne0.true c.requires.inside))
