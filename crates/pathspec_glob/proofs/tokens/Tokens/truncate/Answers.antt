use Rattle.std.proofs.Common.{ap, take}
use Rattle.std.proofs.lemmas.List.{take-map}
use Rattle.pathspec_glob.specs.GlobForms.{token_view}
use Rattle.pathspec_glob.proofs.tokens.Tokens.truncate.Goals as goal

pub returns : goal.returns
returns c = rw (c.truncate.ensures.items, ← take-map token_view c.args.place c.self.inside.all.items) (ap (λ p. record { mode = p.mode; tokens = take c.args.place p.tokens }) c.self.view_is)
