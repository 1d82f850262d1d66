-- The answers so far are written.
use Rattle.std.proofs.Common.{◌≡◌, ◌+◌, ◌≤◌, true, length}
use Rattle.std.specs.Option.{IsSomeAnd}
use Rattle.pathspec_c.specs.Searchers.{KeepsSearcher, has_attributes}
use Rattle.pathspec_c.specs.Calls.{texts_in}
use Rattle.pathspec_c.proofs.ManyProofs.{Answered}
use Rattle.pathspec_c.proofs.many.ps_search_match_all.Given as goal

abbrev pub invariant-loop-rest : goal.invariant-loop-rest
invariant-loop-rest l = record {
  keeps : KeepsSearcher l.fn.search.searcher l.search.searcher;
  answered : Answered l.fn.search.searcher (texts_in l.paths) l.fn.answers l.rest l.number l.failed l.answers;
  fits : l.number + length l.rest ≤ length l.paths;
  given : l.failed ≡ true → IsSomeAnd l.fn.search.searcher (λ searcher. has_attributes searcher.attributes ≡ true);
}

abbrev pub decreases-loop-rest : goal.decreases-loop-rest
decreases-loop-rest l = length l.rest
