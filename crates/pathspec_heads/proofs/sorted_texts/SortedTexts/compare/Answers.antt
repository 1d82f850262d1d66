use Rattle.std.proofs.Common.{◌≡◌, ◌<◌, ◌≤◌, ◌∙◌, ap, arith, get_or, length, ltb, nat_eq}
use Rattle.std.proofs.lemmas.Bool.{eq-eqb, le-ltb}
use Rattle.std.proofs.lemmas.List.{take_rest}
use Rattle.std.proofs.lemmas.List.Sums.{common_prefix_len-le}
use Rattle.pathspec_heads.specs.Agreement.{agreement}
use Rattle.pathspec_heads.specs.Heads.{head_at}
use Rattle.pathspec_heads.proofs.AgreementProofs.{agreement-text_ends, agreement-head_ends, agreement-apart}
use Rattle.pathspec_heads.proofs.LaneProofs.{agreement-differs}
use Rattle.pathspec_heads.proofs.SpanProofs.{text-is, length-is}
use Rattle.pathspec_heads.proofs.sorted_texts.SortedTexts.compare.Goals as goal
use Rattle.pathspec_heads.proofs.sorted_texts.SortedTexts.compare.Goals.{After-agreement-agreed, then-agreed-len+then-agreed-len-2, then-agreed-len+else-agreed-len-2, else-agreed-len}

-- how far the text agrees with the probe
agrees : (g : _) → (c : After-agreement-agreed g) → c.agreement-agreed.result ≡ agreement (head_at c.args.self.now c.args.index) (g.P.Probe.text c.args.probe.now)
agrees g c =
    let seen = simp (take_rest, c.deref.ensures.value) at c.agreement-agreed.ensures in
    seen ∙ ap (λ x. agreement x (g.P.Probe.text c.args.probe.now)) (text-is c.self.inside.bytes.items c.self.inside.spans.items c.self.invariant c.args.self.now c.self.view_is c.args.index c.requires c.index.result.now c.index.ensures)

-- how long it is
goes_to : (g : _) → (c : After-agreement-agreed g) → c.index.result.now.len ≡ length (head_at c.args.self.now c.args.index)
goes_to g c = length-is c.self.inside.bytes.items c.self.inside.spans.items c.self.invariant c.args.self.now c.self.view_is c.args.index c.requires c.index.result.now c.index.ensures

pub byte_at-requires : goal.byte_at-requires
byte_at-requires g c =
    let same = agrees g (goal.at.byte_at-requires g c).After-agreement-agreed in
    let most = common_prefix_len-le nat_eq (head_at c.args.self.now c.args.index) (g.P.Probe.text c.args.probe.now) in
    omega (arith, same, most.1, c.len.ensures, c.if-agreed-len-2.false)

pub returns-clause-compared : goal.returns-clause-compared
returns-clause-compared g c =
    let head = head_at c.args.self.now c.args.index in
    let text = g.P.Probe.text c.args.probe.now in
    let n = c.agreement-agreed.result in
    let same = agrees g (goal.at.returns-clause-compared g c).After-agreement-agreed in
    let long = goes_to g (goal.at.returns-clause-compared g c).After-agreement-agreed in
    let most = common_prefix_len-le nat_eq head text in
    record {
      agrees = same;
      stands = elim c.if-agreed-len.branch [
        | then-agreed-len+then-agreed-len-2 w ↦
            let ends : length text ≤ agreement head text = omega (arith, same, w.len.ensures, w.if-agreed-len-2.true) in
            w.result-is ∙ eq-eqb _ _ w.if-agreed-len-2.true ∙ (agreement-text_ends head text ends (omega (arith, w.if-agreed-len.true, long, w.len.ensures, w.if-agreed-len-2.true))).1
        | then-agreed-len+else-agreed-len-2 w ↦
            let in_head : n < length head = omega (arith, w.if-agreed-len.true, long) in
            let in_text : n < length text = omega (arith, same, most.1, w.len.ensures, w.if-agreed-len-2.false) in
            w.result-is
            ∙ (ap (λ b. ltb b (get_or w.text.result.now n 0)) w.byte_at.ensures
            ∙ (ap (λ bytes. ltb (get_or text n 0) (get_or bytes n 0)) w.text.ensures
            ∙ (agreement-apart head text n (omega (arith, same)) in_head in_text (agreement-differs head text n same in_head in_text)).1))
        | else-agreed-len w ↦ w.result-is ∙ le-ltb _ _ w.if-agreed-len.false ∙ (agreement-head_ends head text (omega (arith, same, w.if-agreed-len.false, long))).1
      ];
    }
