-- The function gives what the loop has found.
use Rattle.std.proofs.Common.{◌≡◌, ◌∙◌, ap, List, [], take, arith, unwrap_or}
use Rattle.std.specs.List.{reduce}
use Rattle.std.proofs.lemmas.Result.{IfOk-weaker}
use Rattle.std.proofs.lemmas.Grind.{common_steps}
use Rattle.gix_pathspec.specs.Prefixes.{common_front, heads}
use Rattle.gix_pathspec.specs.Search.{Numbered, specs_of}
use Rattle.gix_pathspec.proofs.BuildingProofs.{read-or, common_prefix-is}
use Rattle.gix_pathspec.proofs.search.init.common_prefix.Goals as goal

pub returns : goal.returns
returns c =
    let read : c.unwrap_or.result.now ≡ unwrap_or (reduce common_front (heads (specs_of (take c.loop-spec.spec-index c.args.specs.now)))) [] =
    ap (λ b. b.now) c.unwrap_or.ensures ∙ (read-or c.loop-spec.common _ ∙ ap (λ o. unwrap_or o []) c.loop-spec.invariant) in
    let whole : take c.loop-spec.spec-index c.args.specs.now ≡ c.args.specs.now = grind (arith, common_steps) in
    IfOk-weaker c.from_slice.result _ _ (λ v e. e ∙ (read ∙ (ap (λ (ns : List Numbered). unwrap_or (reduce common_front (heads (specs_of ns))) []) whole ∙ common_prefix-is (specs_of c.args.specs.now)))) c.from_slice.ensures.items
