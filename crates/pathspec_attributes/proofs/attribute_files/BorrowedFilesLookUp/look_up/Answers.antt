-- What the borrowed files say is what the table says, whatever case is asked for.
use Rattle.pathspec_attributes.proofs.attribute_files.BorrowedFilesLookUp.look_up.Goals as goal

pub returns-in-Ok-clause-answer : goal.returns-in-Ok-clause-answer
returns-in-Ok-clause-answer c = λ reset. c.in-Ok.ensures.ok c.args._case reset
