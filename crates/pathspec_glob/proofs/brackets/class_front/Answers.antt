-- What stands between `[:` and the next `]`.
use Rattle.std.proofs.Common.{◌∙◌, sym}
use Rattle.pathspec_glob.proofs.BracketProofs.{class_item-none, class_item-named, class_item-lone}
use Rattle.pathspec_glob.proofs.brackets.class_front.Goals as goal

pub returns-in_default : goal.returns-in_default
returns-in_default c = class_item-none c.args.bytes.now (sym c.requires ∙ c.in_default.is)

pub returns-in-Some-name_before_colon : goal.returns-in-Some-name_before_colon
returns-in-Some-name_before_colon c = c.named_front.ensures ∙ class_item-named c.args.bytes.now c.in-Some.end c.in-Some-name_before_colon.name.now (sym c.requires ∙ c.in-Some.is) c.in-Some-name_before_colon.ensures

pub returns-in-None : goal.returns-in-None
returns-in-None c = class_item-lone c.args.bytes.now c.in-Some.end (sym c.requires ∙ c.in-Some.is) c.in-None.ensures
