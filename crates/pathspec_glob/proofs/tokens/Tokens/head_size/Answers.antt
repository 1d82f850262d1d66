use Rattle.std.proofs.Common.{◌∙◌, ap, sym}
use Rattle.pathspec_glob.specs.GlobParts.{head_size}
use Rattle.pathspec_glob.proofs.PartProofs.{head_size-view}
use Rattle.pathspec_glob.proofs.tokens.Tokens.head_size.Goals as goal

pub returns-clause-size : goal.returns-clause-size
returns-clause-size c =
    (rw c.deref.ensures.value at c.head_size.ensures.size) ∙ sym (head_size-view c.self.inside.all.items) ∙ ap (λ p. head_size p.tokens) c.self.view_is
