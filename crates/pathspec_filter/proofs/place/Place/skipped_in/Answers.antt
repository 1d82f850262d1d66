-- Below a directory that is skipped nothing is asked.
use Rattle.pathspec_filter.proofs.PlaceProofs.{skipped-inside, skipped-shared}
use Rattle.pathspec_filter.proofs.place.Place.skipped_in.Goals as goal

pub skips-requires : goal.skips-requires
skips-requires c = skipped-inside c.args.questions.now c.args.self.now.directory.items c.args.self.now.skipped c.requires

pub returns-then-skips-clause-skipped : goal.returns-then-skips-clause-skipped
returns-then-skips-clause-skipped c =
    let shared = c.skips.ensures c.if-skips.true in
    skipped-shared c.args.questions.now c.args.self.now.directory.items c.args.wanted.now c.args.self.now.skipped c.requires shared.inside shared.same
