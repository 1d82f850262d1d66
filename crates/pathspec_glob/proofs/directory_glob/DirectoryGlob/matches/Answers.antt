use Rattle.std.proofs.Common.{◌≡◌, ℕ, zero, suc, ◌+◌, ◌<◌, List, [], ◌∷◌, ◌++◌, ◌∙◌, ap, arith, length, get_or, length-append}
use Rattle.std.proofs.Math.Nat.{mul-le-mul}
use Rattle.pathspec_glob.proofs.Words.{slash, tokens, matches, TokenList}
use Rattle.pathspec_glob.proofs.AnswerProofs.{glob-answers}
use Rattle.pathspec_glob.proofs.ByteSetProofs.{matches-listed}
use Rattle.pathspec_glob.proofs.GlobProofs.{glob_is_relation}
use Rattle.pathspec_glob.proofs.TokenProofs.{few_listed}
use Rattle.pathspec_glob.proofs.directory_glob.DirectoryGlob.matches.Goals as goal

-- a text of bytes is one with a byte more behind it
fits-behind : (text : List ℕ) (b : ℕ) → ((k : ℕ) → get_or text k 0 < 256) → b < 256 → (k : ℕ) → get_or (text ++ b ∷ []) k 0 < 256
fits-behind [] b fit small zero = small
fits-behind [] b fit small (suc k) = omega arith
fits-behind (x ∷ xs) b fit small zero = fit 0
fits-behind (x ∷ xs) b fit small (suc k) = fits-behind xs b (λ j. fit (suc j)) small k

pub returns-clause-answer : goal.returns-clause-answer
returns-clause-answer c =
    let directory = c.args.directory.now in
    let text = directory ++ slash ∷ [] in
    let mode = c.self.inside.tokens.mode in
    let pattern = c.self.inside.source.pattern in
    let parts_is = c.self.invariant.parts_is in
    let fit = fits-behind directory slash (λ k. omega (arith, c.type_inv.directory k)) (omega arith) in
    let run = c.matches_directory.ensures in
    let longer : length text ≡ length directory + 1 = length-append directory (slash ∷ []) in
    let read = ap (λ (parts : TokenList). length parts.tokens) parts_is in
    let few = few_listed mode pattern in
    let wider = mul-le-mul {n₁ = length c.self.inside.tokens.tokens} {m₁ = length directory + 1} {n₂ = length pattern + 1} {m₂ = length text} (omega arith) (omega arith) in
    glob-answers mode pattern c.args.self.now c.args.case text c.matches_directory.result c.matches_directory.new.steps.last c.self.view_is
    (run.answer ∙ ap (λ (parts : TokenList). matches mode c.args.case parts.tokens text) parts_is ∙ matches-listed mode c.args.case (tokens mode pattern) text fit)
    (omega (arith, run.most, wider, c.begin.ensures.last))
    (λ found. omega (arith, run.least found, longer))

pub returns-clause-function : goal.returns-clause-function
returns-clause-function c = glob_is_relation
