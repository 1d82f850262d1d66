-- One comparison says whether the only head begins the text.
use Rattle.std.proofs.Common.{◌≡◌, ap, subst, arith, length, Some, None}
use Rattle.pathspec_heads.specs.Heads.{IsLastFront}
use Rattle.pathspec_heads.specs.Groups.{GroupedPlaces}
use Rattle.pathspec_heads.proofs.HeadProofs.{only-found, only-none}
use Rattle.pathspec_heads.proofs.places.PlacesByHead.only_head_of.Goals as goal

pub returns-then-comparison-text_len-clause-found : goal.returns-then-comparison-text_len-clause-found
returns-then-comparison-text_len-clause-found c =
    let same : c.self.inside.heads ≡ c.args.self.now.heads = ap (λ (v : GroupedPlaces). v.heads) c.self.view_is in
    subst (λ h. IsLastFront h (length h) c.args.text.now None) same
    (only-none c.self.inside.heads c.args.text.now (omega (arith, ap length same, c.requires)) (omega (arith, c.compare-comparison.ensures.compared.agrees, c.text_len.ensures, c.if-comparison-text_len.true)))

pub returns-else-comparison-text_len-clause-found : goal.returns-else-comparison-text_len-clause-found
returns-else-comparison-text_len-clause-found c =
    let same : c.self.inside.heads ≡ c.args.self.now.heads = ap (λ (v : GroupedPlaces). v.heads) c.self.view_is in
    subst (λ h. IsLastFront h (length h) c.args.text.now (Some 0)) same
    (only-found c.self.inside.heads c.args.text.now (omega (arith, ap length same, c.requires)) (omega (arith, c.compare-comparison.ensures.compared.agrees, c.text_len.ensures, c.if-comparison-text_len.false)))
