use Rattle.std.proofs.Common.{ap, take, drop}
use Rattle.std.proofs.lemmas.List.{take-map, drop-map}
use Rattle.pathspec_glob.specs.GlobForms.{token_view}
use Rattle.pathspec_glob.proofs.tokens.Tokens.split_off.Goals as goal

pub returns-clause-front : goal.returns-clause-front
returns-clause-front c = rw (c.in_ok-behind.ensures.items, ← take-map token_view c.args.place c.self.inside.all.items) (ap (λ p. record { mode = p.mode; tokens = take c.args.place p.tokens }) c.self.view_is)

pub returns-clause-behind : goal.returns-clause-behind
returns-clause-behind c = rw (c.in_ok-behind.ensures.tail, ← drop-map token_view c.args.place c.self.inside.all.items) (ap (λ p. record { mode = p.mode; tokens = drop c.args.place p.tokens }) c.self.view_is)
