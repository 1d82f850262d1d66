use Rattle.std.proofs.Common.{◌∙◌, sym}
use Rattle.pathspec_glob.proofs.ClosureProofs.{follow-includes, follow-least}
use Rattle.pathspec_glob.proofs.state_set.closure.Goals as goal

pub loop-more-preserved : goal.loop-more-preserved
loop-more-preserved c =
    let staying = c.args.staying in
    let wide = c.args.wide in
    let skippable = c.args.skippable in
    let states = c.loop-more.states in
    let invariant = c.loop-more.invariant in
    record {
      includes = λ i h come. invariant.follows i h ∙ follow-includes states staying wide skippable i (invariant.includes i h come);
      follows = c.follow-more-in-loop-more.ensures.follow;
      below = c.follow-more-in-loop-more.ensures.more;
      least = λ all come closed i h held. follow-least states staying wide skippable all closed (invariant.least all come closed) i h (sym (invariant.follows i h) ∙ held);
    }
