-- A path that needs no look at the specs, and the first spec that matches.
use Rattle.std.proofs.Common.{◌≡◌, ℕ, Bool, false, List, length, ap, subst, sym, ◌∙◌}
use Rattle.std.proofs.lemmas.Bool.{both_ways}
use Rattle.std.proofs.lemmas.Result.{IfOk-weaker}
use Rattle.bstr.specs.BStr.{bstr_bytes}
use Rattle.gix_pathspec.specs.Search.{Numbered}
use Rattle.gix_pathspec.specs.Members.{AreMembersOf}
use Rattle.gix_pathspec.specs.SetSources.{all_sources, has_any_set}
use Rattle.gix_pathspec.specs.Effort.{AreFewCompared, is_settled_early}
use Rattle.gix_pathspec.proofs.FoundProofs.{answer-unasked, asked-parts, answer-found, found-within}
use Rattle.gix_pathspec.proofs.EffortProofs.{little-from}
use Rattle.gix_pathspec.proofs.by_head.SpecsByHead.find_match.Goals as goal

-- the test, said of the path itself
test_of : (ns : List Numbered) (path : List ℕ) {bytes : List ℕ} {told is : Bool} → told ≡ is_settled_early ns bytes → bytes ≡ path → told ≡ is → is_settled_early ns path ≡ is
test_of ns path test same is = cc

pub returns-then-is_settled_early-clause-answer : goal.returns-then-is_settled_early-clause-answer
returns-then-is_settled_early-clause-answer g c = answer-unasked _ c.args.self.now _ _ (test_of _ (bstr_bytes c.args.path) c.is_settled_early.ensures c.as_bytes.ensures c.if-is_settled_early.true)

-- the set is that of the specs as they are seen
pub first_match-requires-clause-members : goal.first_match-requires-clause-members
first_match-requires-clause-members g c = λ m e. subst (λ (ns : List Numbered). AreMembersOf ns m.now) (sym c.self.view_is) (c.members.ensures.members m e)

pub first_match-requires-clause-made : goal.first_match-requires-clause-made
first_match-requires-clause-made g c = c.members.ensures.made ∙ ap (λ (ns : List Numbered). has_any_set (all_sources ns)) (sym c.self.view_is)

pub first_match-requires-clause-late : goal.first_match-requires-clause-late
first_match-requires-clause-late g c =
    let asked = test_of _ (bstr_bytes c.args.path) c.is_settled_early.ensures c.as_bytes.ensures c.if-is_settled_early.false in
    subst (λ (ns : List Numbered). is_settled_early ns (bstr_bytes c.args.path) ≡ false) (sym c.self.view_is) asked

pub returns-clause-answer : goal.returns-clause-answer
returns-clause-answer g c =
    let asked = test_of _ (bstr_bytes c.args.path) c.is_settled_early.ensures c.as_bytes.ensures c.if-is_settled_early.false in
    IfOk-weaker c.first_match.result _ _ (answer-found _ c.args.self.now _ _ asked _ _ c.self.view_is c.unwrap_or-is_dir.ensures) c.first_match.ensures.first

pub returns-clause-within : goal.returns-clause-within
returns-clause-within g c = IfOk-weaker c.first_match.result _ _ (found-within _ c.args.self.now _ _ _ c.self.view_is) c.first_match.ensures.first

-- ---- what was looked at

pub returns-clause-little_compared : goal.returns-clause-little_compared
returns-clause-little_compared g c =
    let asked = test_of _ (bstr_bytes c.args.path) c.is_settled_early.ensures c.as_bytes.ensures c.if-is_settled_early.false in
    little-from _ _ _ (asked-parts c.args.self.now (bstr_bytes c.args.path) asked).0 (subst (λ (ns : List Numbered). AreFewCompared (length ns) c.first_match.new.scratch.counts.last_compared) c.self.view_is c.first_match.ensures.counted.few_compared)

pub returns-clause-unasked : goal.returns-clause-unasked
returns-clause-unasked g c = λ unasked. absurd (both_ways (is_settled_early c.args.self.now (bstr_bytes c.args.path)) (test_of _ (bstr_bytes c.args.path) c.is_settled_early.ensures c.as_bytes.ensures c.if-is_settled_early.false) unasked)
