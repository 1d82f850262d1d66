use Rattle.std.proofs.Common.{◌-◌, ◌∙◌, ap, subst, sym, arith, leb, length}
use Rattle.pathspec_heads.specs.Heads.{IsLastFront}
use Rattle.pathspec_heads.proofs.HeadProofs.{none-found, last-found, front-told}
use Rattle.pathspec_heads.proofs.sorted_texts.SortedTexts.found_at.Goals as goal
use Rattle.pathspec_heads.proofs.sorted_texts.SortedTexts.found_at.Goals.{then-range-eq0, else-range-eq0}

pub returns-clause-found : goal.returns-clause-found
returns-clause-found g c =
    let h = c.args.self.now in
    let t = g.P.Probe.text c.args.probe.now in
    let r = c.args.range in
    elim c.if-range-eq0.branch [
      | then-range-eq0 w ↦ subst (IsLastFront h (length h) t) (sym w.head-is) (none-found h t r.low r.high r.agreed c.requires.some c.requires.ended c.requires.so_far w.if-range-eq0.true)
      | else-range-eq0 w ↦ subst (IsLastFront h (length h) t) (sym w.head-is) (last-found h t r.low r.high r.agreed c.requires.some c.requires.ended c.requires.so_far (r.low - 1) w.front_of-head.result (omega (arith, w.if-range-eq0.false)) w.front_of-head.ensures)
    ]

pub returns-clause-front : goal.returns-clause-front
returns-clause-front g c =
    let r = c.args.range in
    ap (λ n. leb n r.agreed) c.len.ensures ∙ front-told c.args.self.now (g.P.Probe.text c.args.probe.now) r.low r.high r.agreed c.requires.some c.requires.ended c.requires.so_far
