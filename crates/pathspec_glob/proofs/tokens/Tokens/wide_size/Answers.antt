use Rattle.std.proofs.Common.{◌≡◌, ◌+◌, ◌<◌, ◌∙◌, ◌∷◌, ap, sym, arith, add-one, length, drop, get_or, if◌then◌else◌}
use Rattle.pathspec_glob.proofs.Words.{Star, is_wide_at, may_pass_over_at}
use Rattle.pathspec_glob.specs.GlobParts.{wide_size}
use Rattle.pathspec_glob.proofs.AcceptProofs.{from-place}
use Rattle.pathspec_glob.proofs.PartProofs.{so_far, size-step}
use Rattle.pathspec_glob.proofs.tokens.Tokens.wide_size.Goals.{then-is_wide+then-may_pass_over, then-is_wide+else-may_pass_over, else-is_wide}
use Rattle.pathspec_glob.proofs.tokens.Tokens.wide_size.Goals as goal

pub loop-place-preserved : goal.loop-place-preserved
loop-place-preserved c =
    let mode = c.args.self.now.mode in
    let tokens = c.args.self.now.tokens in
    let place = c.loop-place.place in
    let size = c.loop-place.size in
    let within : place < length tokens = omega (arith, c.loop-place-test.true, c.len-place-end.ensures) in
    let at : drop place tokens ≡ get_or tokens place Star ∷ drop (place + 1) tokens = rw (add-one place) (from-place tokens place within) in
    let chosen : c.if-is_wide.size ≡ (if is_wide_at (drop place tokens) then (if may_pass_over_at mode (drop place tokens) then place + 2 else place + 1) else size) =
    elim c.if-is_wide.branch [
      | then-is_wide+then-may_pass_over w ↦ rw (sym c.is_wide.ensures, w.if-is_wide.true, sym w.may_pass_over.ensures.over, w.if-may_pass_over.true) w.size-is
      | then-is_wide+else-may_pass_over w ↦ rw (sym c.is_wide.ensures, w.if-is_wide.true, sym w.may_pass_over.ensures.over, w.if-may_pass_over.false) w.size-is
      | else-is_wide w ↦ rw (sym c.is_wide.ensures, w.if-is_wide.false) w.size-is
    ] in
    record {
      size = c.loop-place.invariant.size ∙ ap (λ ts. so_far size place (wide_size mode ts)) at ∙ size-step mode (get_or tokens place Star) (drop (place + 1) tokens) place size
          ∙ ap (λ n. so_far n (place + 1) (wide_size mode (drop (place + 1) tokens))) (sym (rw at at chosen));
      within = elim c.if-is_wide.branch [
        | then-is_wide+then-may_pass_over w ↦ let next = w.may_pass_over.ensures.next w.if-may_pass_over.true in omega (arith, next, w.size-is)
        | then-is_wide+else-may_pass_over w ↦ omega (arith, within, w.size-is)
        | else-is_wide w ↦ omega (arith, c.loop-place.invariant.within, w.size-is)
      ];
    }
