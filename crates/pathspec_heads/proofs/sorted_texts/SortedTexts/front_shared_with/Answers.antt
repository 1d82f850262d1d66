use Rattle.std.proofs.Common.{◌≡◌, ◌+◌, ◌-◌, ◌∙◌, take, arith, ap, subst, length}
use Rattle.pathspec_heads.specs.Agreement.{agreement}
use Rattle.pathspec_heads.specs.Heads.{head_at, IsLastFront}
use Rattle.pathspec_heads.proofs.HeadProofs.{last-agreed, last-not_behind}
use Rattle.pathspec_heads.proofs.sorted_texts.SortedTexts.front_shared_with.Goals as goal

pub returns-clause-linked : goal.returns-clause-linked
returns-clause-linked c =
    let h = c.args.self.now in
    let t = c.args.text.now in
    let p = c.len-count.result - 1 in
    let r = c.front_of.result in
    let count : p + 1 ≡ length h = omega (arith, c.len-count.ensures.count, c.if-count-eq0.false) in
    let shared : c.agreement-shared.result ≡ agreement (head_at h p) t = c.agreement-shared.ensures ∙ ap (λ x. agreement x t) c.text.ensures in
    let front : IsLastFront h (p + 1) (take (agreement (head_at h p) t) (head_at h p)) r = subst (λ n. IsLastFront h (p + 1) (take n (head_at h p)) r) shared c.front_of.ensures in
    subst (λ n. IsLastFront h n t r) count
    (last-agreed h c.len-count.ensures.rising t p r (omega (arith, count)) (last-not_behind h t c.requires p (omega (arith, count))) front)
