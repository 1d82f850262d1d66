use Rattle.std.proofs.Common.{◌≡◌, ℕ, ◌+◌, ◌*◌, ◌≤◌, List, ◌++◌, length, drop}
use Rattle.pathspec_glob.specs.Counts.{KeepsCount}
use Rattle.pathspec_glob.specs.StateSets.{states_accept, IsBounded, KeepsRoom}
use Rattle.pathspec_glob.proofs.state_set.StateSet.take_text.Given as goal

abbrev pub invariant-loop-position : goal.invariant-loop-position
invariant-loop-position l = record {
  accepts : (rest : List ℕ) → states_accept l.tokens l.case l.self (drop l.position l.text ++ rest) ≡ states_accept l.tokens l.case l.fn.self (l.text ++ rest);
  bounds : IsBounded (length l.tokens.tokens) l.self;
  least : l.fn.steps.last + l.position ≤ l.steps.last;
  most : l.steps.last ≤ l.fn.steps.last + length l.tokens.tokens * l.position;
  counted : KeepsCount l.fn.steps l.steps;
  room : KeepsRoom l.fn.self l.self;
}
