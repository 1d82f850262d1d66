use Rattle.std.proofs.Common.{◌∙◌, ap}
use Rattle.pathspec_glob.specs.ByteSets.{listed_tokens}
use Rattle.pathspec_glob.specs.GlobParts.{head_of}
use Rattle.pathspec_glob.proofs.HeadProofs.{front-is-head}
use Rattle.pathspec_glob.proofs.matcher.split_head.Goals as goal

pub returns-in_ok-of_bytes-in-Some-clause-head : goal.returns-in_ok-of_bytes-in-Some-clause-head
returns-in_ok-of_bytes-in-Some-clause-head c =
    let mode = c.args.mode in
    c.in_ok-of_bytes-in-Some.ensures
    ∙ ap (λ ts. record { mode = mode; tokens = ts }) (front-is-head mode c.in-Some.head.now c.in-Some.rest.now c.in-Some.ensures.plain c.in-Some.ensures.wide)
    ∙ ap (λ pattern. record { mode = mode; tokens = head_of (listed_tokens mode pattern) }) c.in-Some.ensures.whole
