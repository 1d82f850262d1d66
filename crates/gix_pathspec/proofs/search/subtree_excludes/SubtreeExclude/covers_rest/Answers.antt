-- The glob's answer is the exclude's.
use Rattle.std.proofs.Common.{◌≡◌, ◌∙◌, sym, subst, ◌&&◌, ◌++◌, ◌∷◌, []}
use Rattle.bstr.specs.BStr.{bstr_bytes}
use Rattle.gix_pathspec.specs.Reach.{can_take_rest}
use Rattle.gix_pathspec.specs.Bytes.{slash}
use Rattle.gix_pathspec.specs.Specs.{Spec}
use Rattle.gix_pathspec.specs.Patterns.{pattern_spec}
use Rattle.pathspec_glob.specs.Globs.{AnswersGlob}
use Rattle.gix_pathspec.specs.Matching.{case_of, glob_matches}
use Rattle.gix_pathspec.proofs.SubtreeExcludeProofs.{glob-takes}
use Rattle.gix_pathspec.proofs.search.subtree_excludes.SubtreeExclude.covers_rest.Goals as goal

pub returns-in-Some-clause-answer : goal.returns-in-Some-clause-answer
returns-in-Some-clause-answer c =
    let text = bstr_bytes c.args.directory ++ slash ∷ [] in
    let glob = c.in-Some.glob in
    let s = pattern_spec c.self.inside.pattern in
    let answers = subst (λ t. AnswersGlob glob.mode (case_of s) glob.pattern (t ++ slash ∷ []) c.matches.result c.matches.new.scratch.steps) c.as_bytes.ensures (subst (λ k. AnswersGlob glob.mode k glob.pattern (c.as_bytes.result.now ++ slash ∷ []) c.matches.result c.matches.new.scratch.steps) c.case_of.ensures c.matches.ensures.answer) in
    subst (λ (t : Spec). c.matches.result ≡ (can_take_rest t && glob_matches t.mode t text)) c.self.view_is
    (glob-takes s glob text c.matches.result c.matches.new.scratch.steps (sym c.in-Some.is ∙ c.self.invariant.is_glob) c.matches.ensures.function answers)
