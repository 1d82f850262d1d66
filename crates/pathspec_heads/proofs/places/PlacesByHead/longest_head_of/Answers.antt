-- The heads that begin the text begin the last of them.
use Rattle.std.proofs.Common.{subst}
use Rattle.std.specs.Option.{IfSome}
use Rattle.pathspec_heads.specs.Heads.{IsRising, IsChainOf}
use Rattle.pathspec_heads.specs.Groups.{GroupedPlaces}
use Rattle.pathspec_heads.proofs.HeadProofs.{chained_last}
use Rattle.pathspec_heads.proofs.places.PlacesByHead.longest_head_of.Goals as goal

pub returns-in-1-clause-chain : goal.returns-in-1-clause-chain
returns-in-1-clause-chain c =
    let rising : IsRising c.args.self.now.heads = subst (λ (v : GroupedPlaces). IsRising v.heads) c.self.view_is c.len.ensures.rising in
    chained_last c.args.self.now.heads rising c.args.text.now c.only_head_of.result.head c.only_head_of.ensures.found

pub returns-in_default-clause-chain : goal.returns-in_default-clause-chain
returns-in_default-clause-chain c =
    let head = c.longest_head_of-found.result.head in
    subst (λ (v : GroupedPlaces). IfSome head (IsChainOf v.heads c.args.text.now)) c.self.view_is
    (chained_last c.self.inside.heads c.len.ensures.rising c.args.text.now head c.longest_head_of-found.ensures.found)
