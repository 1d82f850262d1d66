-- std reads a path just where it is UTF-8; each call after that is refused for memory alone.
use Rattle.std.proofs.Common.{rules, refl, inl, inr}
use Rattle.std.proofs.lemmas.Bool.{cases_Bool}
use Rattle.std.proofs.lemmas.Str.{IsUtf8-from_is_utf8, is_utf8-from_IsUtf8}
use Rattle.std.specs.Str.{is_utf8}
use Rattle.pathspec_list.proofs.disk.Disk.turn_to.Goals as goal

pub returns-in_default-clause-reason : goal.returns-in_default-clause-reason
returns-in_default-clause-reason g c =
    elim (cases_Bool (is_utf8 c.args.path.now)) [
      | inl valid ↦ absurd (c.in_default.ensures.cases.0 (IsUtf8-from_is_utf8 _ valid))
      | inr invalid ↦ rw invalid refl
    ]

pub returns-in_err-push_str-clause-reason : goal.returns-in_err-push_str-clause-reason
returns-in_err-push_str-clause-reason g c = rw (is_utf8-from_IsUtf8 c.args.path.now c.in-Ok.ensures.cases.1) (search rules)

pub returns-in_err-push-clause-reason : goal.returns-in_err-push-clause-reason
returns-in_err-push-clause-reason g c = rw (is_utf8-from_IsUtf8 c.args.path.now c.in-Ok.ensures.cases.1) (search rules)

pub returns-in_err-push_str-2-clause-reason : goal.returns-in_err-push_str-2-clause-reason
returns-in_err-push_str-2-clause-reason g c = rw (is_utf8-from_IsUtf8 c.args.path.now c.in-Ok.ensures.cases.1) (search rules)

pub returns-clause-utf8 : goal.returns-clause-utf8
returns-clause-utf8 g c = is_utf8-from_IsUtf8 c.args.path.now c.in-Ok.ensures.cases.1
