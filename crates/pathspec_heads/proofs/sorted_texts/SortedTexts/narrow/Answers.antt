-- What neighbours agree in says where the next one stands.
use Rattle.std.proofs.Common.{◌≡◌, ◌∙◌, ◌+◌, ◌-◌, ◌<◌, sym, ap, subst, arith, false, length}
use Rattle.pathspec_heads.specs.Agreement.{agreement, is_behind}
use Rattle.pathspec_heads.specs.Heads.{head_at}
use Rattle.pathspec_heads.proofs.AgreementProofs.{agreement-passed}
use Rattle.pathspec_heads.proofs.HeadProofs.{before-not_behind, after-behind}
use Rattle.pathspec_heads.proofs.sorted_texts.SortedTexts.narrow.Goals as goal

pub returns-then-shared_len-comparison-clause-so_far : goal.returns-then-shared_len-comparison-clause-so_far
returns-then-shared_len-comparison-clause-so_far c = λ t so_far compared short.
    let h = c.args.self.now in
    let k = c.args.index - 1 in
    let is : k + 1 ≡ c.args.index = omega arith in
    let shared : c.shared_len.result ≡ agreement (head_at h k) (head_at h (k + 1)) = c.shared_len.ensures in
    let further : c.args.comparison.agreed ≡ agreement (head_at h (k + 1)) t = compared.agrees ∙ ap (λ i. agreement (head_at h i) t) (sym is) in
    let inside : k + 1 < length h = omega (arith, is, c.requires.index.1, c.requires.within) in
    let now = before-not_behind h so_far.rising t k inside (omega (arith, shared, further, c.if-shared_len-comparison.true)) in
    let told : c.shared_len-then-shared_len-comparison.result ≡ agreement (head_at h k) t = c.shared_len-then-shared_len-comparison.ensures ∙ now.1 in
    record {
      rising = so_far.rising;
      order = omega arith;
      within = omega (arith, c.requires.index.1, c.requires.within);
      first = λ e. absurd (omega (arith, e));
      below = λ j e.
          let same : k ≡ j = omega (arith, e, is) in (
            subst (λ i. is_behind (head_at h i) t ≡ false) same now.0,
            subst (λ i. c.shared_len-then-shared_len-comparison.result ≡ agreement (head_at h i) t) same told,
            omega (arith, told, now.1, shared, c.if-shared_len-comparison.true, short),
          );
      above = λ _. (sym compared.stands ∙ c.if-comparison.true, omega (arith, compared.agrees, short));
    }

pub returns-then-shared_len-agreed-clause-so_far : goal.returns-then-shared_len-agreed-clause-so_far
returns-then-shared_len-agreed-clause-so_far c = λ t so_far compared short.
    let h = c.args.self.now in
    let i = c.args.index in
    let further : agreement (head_at h i) (head_at h (i + 1)) < agreement (head_at h i) t = omega (arith, c.shared_len-then-next-high.ensures, compared.agrees, c.if-shared_len-agreed.true) in
    record {
      rising = so_far.rising;
      order = omega arith;
      within = omega (arith, c.requires.index.1, c.requires.within);
      first = λ e. absurd (omega (arith, e));
      below = λ k is.
          let same : i ≡ k = omega (arith, is) in (
            subst (λ x. is_behind (head_at h x) t ≡ false) same (sym compared.stands ∙ c.if-comparison.false),
            subst (λ x. c.args.comparison.agreed ≡ agreement (head_at h x) t) same compared.agrees,
            short,
          );
      above = λ inside. (
        after-behind h so_far.rising t i inside further,
        omega (arith, compared.agrees, short, agreement-passed (head_at h i) (head_at h (i + 1)) t further),
      );
    }
