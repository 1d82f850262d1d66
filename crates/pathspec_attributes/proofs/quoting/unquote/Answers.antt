use Rattle.std.proofs.Common.{get_or}
use Rattle.std.proofs.lemmas.Bool.{ne_eqb}
use Rattle.pathspec_attributes.specs.Quoting.{quote, unquoted}
use Rattle.pathspec_attributes.proofs.QuotingProofs.{unquote-goes}
use Rattle.pathspec_attributes.proofs.quoting.unquote.Goals as goal

pub loop-rest-preserved : goal.loop-rest-preserved
loop-rest-preserved c =
    unquote-goes (unquoted c.args.text.now) c.loop-rest.bytes.items c.push.new.self.items c.loop-rest.rest.now c.in-Some.byte c.in-Some.size c.loop-rest.invariant c.in-len1-up.len_at_least (ne_eqb (get_or c.loop-rest.rest.now 0 0) quote c.if-first-eq34.false) c.in-Some.ensures.unit c.in_ok-push.ensures.items
