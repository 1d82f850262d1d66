-- `..` pops a name, and a name is pushed.
use Rattle.std.proofs.Common.{sym, ◌∙◌}
use Rattle.bstr.specs.BStr.{bstr_bytes}
use Rattle.pathspec_pattern.proofs.StackProofs.{push-pushed, pop-pushed}
use Rattle.pathspec_pattern.proofs.pattern.normalize.push_component.Goals as goal

pub returns-then-is_parent_dir : goal.returns-then-is_parent_dir
returns-then-is_parent_dir c = pop-pushed c.args.stack.now c.pop.new.self (bstr_bytes c.args.component) c.requires.names c.requires.least c.pop.result (sym c.is_parent_dir.ensures ∙ c.if-is_parent_dir.true) c.pop.ensures.popped c.pop.ensures.names c.pop.ensures.least

pub returns : goal.returns
returns c = push-pushed c.args.stack.now c.push.new.self (bstr_bytes c.args.component) c.requires.names c.requires.least (sym c.is_parent_dir.ensures ∙ c.if-is_parent_dir.false) c.in_ok-push.ensures.ok
