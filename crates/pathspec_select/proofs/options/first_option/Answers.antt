-- No word is left.
use Rattle.std.proofs.Common.{refl}
use Rattle.std.proofs.lemmas.List.{nil_from_length}
use Rattle.pathspec_select.proofs.options.first_option.Goals as goal

pub returns-in_default : goal.returns-in_default
returns-in_default c = λ options. rw (nil_from_length c.args.words.now c.in_default.ensures.cases) refl
