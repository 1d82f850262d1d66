use Rattle.std.proofs.Common.{◌<◌, ◌∙◌, sym, [], ◌∷◌, length, nat_eq, arith, take, length-take}
use Rattle.std.proofs.lemmas.List.{get_or-take}
use Rattle.std.proofs.lemmas.List.Sums.{common_prefix_len-le}
use Rattle.pathspec_glob.specs.Bytes.{slash}
use Rattle.pathspec_heads.specs.Stems.{with_slash}
use Rattle.pathspec_heads.proofs.AgreementProofs.{agreement-more, agreement-apart, agreement-longer}
use Rattle.pathspec_heads.proofs.probe.PathAndSlashProbe.agreement.Goals as goal
use Rattle.pathspec_heads.proofs.probe.PathAndSlashProbe.agreement.Goals.{then-self, else-self}

pub loop-at-init : goal.loop-at-init
loop-at-init c =
    let longer = agreement-longer (take c.args.len c.args.bytes.now) c.args.self.now.path.now (slash ∷ []) in
    elim c.if-self.branch [
      | then-self w ↦ omega (arith, w.from-is)
      | else-self w ↦ rw w.if-self.false (omega (arith, w.from-is, w.agreement-from.ensures, longer))
    ]

pub returns-then-bytes-at : goal.returns-then-bytes-at
returns-then-bytes-at c =
    let x = take c.args.len c.args.bytes.now in
    let t = with_slash c.args.self.now.ignore_case c.args.self.now.path.now in
    let long : c.loop-at.at < length x = omega (arith, length-take c.args.len c.args.bytes.now) in
    let same = get_or-take c.args.len c.args.bytes.now c.loop-at.at 0 (omega arith) in
    (agreement-apart x t c.loop-at.at c.loop-at.invariant long (omega arith) (λ e. c.if-bytes-at.true (sym same ∙ (e ∙ sym c.byte_at.ensures)))).0

pub loop-at-preserved : goal.loop-at-preserved
loop-at-preserved c =
    let x = take c.args.len c.args.bytes.now in
    let t = with_slash c.args.self.now.ignore_case c.args.self.now.path.now in
    let long : c.loop-at.at < length x = omega (arith, length-take c.args.len c.args.bytes.now) in
    let same = get_or-take c.args.len c.args.bytes.now c.loop-at.at 0 (omega arith) in
    agreement-more x t c.loop-at.at c.loop-at.invariant long (omega arith) (same ∙ (c.if-bytes-at.false ∙ c.byte_at.ensures))

pub returns : goal.returns
returns c =
    let x = take c.args.len c.args.bytes.now in
    let within = common_prefix_len-le nat_eq x (with_slash c.args.self.now.ignore_case c.args.self.now.path.now) in
    omega (arith, c.loop-at.invariant, within.0, within.1, length-take c.args.len c.args.bytes.now)
