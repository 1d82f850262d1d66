use Rattle.std.proofs.Common.{ap, sym, ◌∙◌}
use Rattle.pathspec_glob.proofs.PlaceProofs.{tokens-from}
use Rattle.pathspec_glob.proofs.tokens.Tokens.bytes_from.Goals.{in-Some, in-None}
use Rattle.pathspec_glob.proofs.tokens.Tokens.bytes_from.Goals as goal

pub returns : goal.returns
returns c =
    let tokens = tokens-from c.self.inside.all.items c.deref.result.now c.args.self.now.tokens c.args.place (ap (λ p. p.tokens) c.self.view_is) c.deref.ensures.value in
    elim c.match-branch-2.branch [
      | in-Some w ↦ rw (w.result-is, w.new.ensures) (sym tokens ∙ (rw w.in-Some.is at c.in_ok-bytes.ensures))
      | in-None w ↦ rw w.result-is tt
    ]
