use Rattle.std.proofs.Common.{◌≡◌, ◌<◌, ◌∙◌, ap, arith, length, false, true, refl, sym, get_or, Some, None, Option, ℕ}
use Rattle.std.proofs.lemmas.Bool.{false≢true, false_from_ne_true}
use Rattle.pathspec_glob.specs.Bytes.{fold_case, begins_with}
use Rattle.pathspec_heads.specs.Heads.{head_at}
use Rattle.pathspec_heads.specs.Stems.{with_slash, is_boundary}
use Rattle.pathspec_heads.proofs.AnyProofs.{any-some, any-none}
use Rattle.pathspec_heads.proofs.HeadProofs.{walk-begun, walk-goes, walk-here, walk-ends}
use Rattle.pathspec_heads.proofs.StemProofs.{boundary-is, is-boundary}
use Rattle.pathspec_heads.proofs.sorted_texts.SortedTexts.has_boundary.Invariants.{left}
use Rattle.pathspec_heads.proofs.sorted_texts.SortedTexts.has_boundary.Goals as goal
use Rattle.pathspec_heads.proofs.sorted_texts.SortedTexts.has_boundary.Goals.{In-Some, else-len-limit-via-then-len-limit+else-byte_at-eq47, else-len-limit-via-else-len-limit}

pub loop-next-init : goal.loop-next-init
loop-next-init c =
    let t = with_slash c.args.probe.now.ignore_case c.args.probe.now.path.now in
    walk-begun c.args.self.now t (is_boundary t c.args.limit) (length c.args.self.now) c.args.first c.requires.first

-- the stem is one, and begins the path and a slash
here : (c : In-Some) → (c.in-Some.stem < length c.args.self.now) × (begins_with (with_slash c.args.probe.now.ignore_case c.args.probe.now.path.now) (head_at c.args.self.now c.in-Some.stem) ≡ true)
here c =
    let t = with_slash c.args.probe.now.ignore_case c.args.probe.now.path.now in
    walk-here c.args.self.now t (is_boundary t c.args.limit) (length c.args.self.now) c.loop-next.next c.in-Some.stem c.loop-next.invariant c.in-Some.is

pub text_len-len-requires : goal.text_len-len-requires
text_len-len-requires c = (here (goal.at.text_len-len-requires c).In-Some).0

pub loop-next-smaller : goal.loop-next-smaller
loop-next-smaller c = smaller c.loop-next.next c.link-next.result c.in-Some.stem c.in-Some.is (λ j e. (c.link-next.ensures.last.begins j e).0)
  where
    smaller : (next link : Option ℕ) (at : ℕ) → next ≡ Some at → ((j : ℕ) → link ≡ Some j → j < at) → left link < left next
    smaller None link at e b = cc
    smaller (Some n) None at e b = omega arith
    smaller (Some n) (Some j) at e b = let same : n ≡ at = cc in omega (arith, same, b j refl)

pub loop-next-preserved : goal.loop-next-preserved
loop-next-preserved c =
    let h = c.args.self.now in
    let d = fold_case c.args.probe.now.ignore_case c.args.probe.now.path.now in
    let t = with_slash c.args.probe.now.ignore_case c.args.probe.now.path.now in
    let x = head_at h c.in-Some.stem in
    let fails : is_boundary t c.args.limit x ≡ false = false_from_ne_true (is_boundary t c.args.limit x) (λ e.
    let b = boundary-is d x c.args.limit e in
    elim c.else-len-limit.branch [
      | else-len-limit-via-then-len-limit+else-byte_at-eq47 w ↦ w.if-byte_at-eq47.false (w.byte_at.ensures ∙ (ap (λ n. get_or t n 0) c.text_len-len.ensures ∙ b.2))
      | else-len-limit-via-else-len-limit w ↦ omega (arith, w.if-len-limit.false, c.text_len-len.ensures, b.1)
    ]) in
    walk-goes h c.link-next.ensures.rising t (is_boundary t c.args.limit) (length h) (omega arith) c.loop-next.next c.in-Some.stem c.link-next.result c.loop-next.invariant c.in-Some.is fails c.link-next.ensures.last

pub returns-then-byte_at-eq47 : goal.returns-then-byte_at-eq47
returns-then-byte_at-eq47 c =
    let h = c.args.self.now in
    let d = fold_case c.args.probe.now.ignore_case c.args.probe.now.path.now in
    let t = with_slash c.args.probe.now.ignore_case c.args.probe.now.path.now in
    let is = here (goal.at.returns-then-byte_at-eq47 c).In-Some in
    let slash_at : get_or t (length (head_at h c.in-Some.stem)) 0 ≡ 47 = ap (λ n. get_or t n 0) (sym c.text_len-len.ensures) ∙ (sym c.byte_at.ensures ∙ c.if-byte_at-eq47.true) in
    sym (any-some (is_boundary t c.args.limit) h c.in-Some.stem is.0 (is-boundary d (head_at h c.in-Some.stem) c.args.limit is.1 (omega (arith, c.if-len-limit.true, c.text_len-len.ensures)) slash_at))

pub returns : goal.returns
returns c =
    let h = c.args.self.now in
    let d = fold_case c.args.probe.now.ignore_case c.args.probe.now.path.now in
    let t = with_slash c.args.probe.now.ignore_case c.args.probe.now.path.now in
    sym (any-none (is_boundary t c.args.limit) h (λ k l. false_from_ne_true (is_boundary t c.args.limit (head_at h k)) (λ e.
    false≢true (sym (walk-ends h t (is_boundary t c.args.limit) (length h) c.loop-next.next c.loop-next.invariant c.in_default.is k l (boundary-is d (head_at h k) c.args.limit e).0) ∙ e))))
