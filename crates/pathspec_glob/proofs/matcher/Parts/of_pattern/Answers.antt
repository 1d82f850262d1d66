-- What stands between head and tail is a part of the pattern's tokens.
use Rattle.std.proofs.Common.{◌≡◌, ◌∙◌, ap, take}
use Rattle.pathspec_glob.proofs.Words.{listed_tokens, TokenList}
use Rattle.pathspec_glob.specs.GlobParts.{behind_head, head_size, middle_of, wide_size}
use Rattle.pathspec_glob.proofs.RunProofs.{part-alternates}
use Rattle.pathspec_glob.proofs.matcher.Parts.of_pattern.Goals as goal

pub of_tokens-requires : goal.of_tokens-requires
of_tokens-requires c =
    let tokens = listed_tokens c.args.mode c.args.pattern.now in
    let size = c.wide_size-middle_size.ensures.size ∙ ap (λ (t : TokenList). wide_size t.mode t.tokens) c.in_ok-head.ensures.behind in
    let middle : c.split_off.new.tokens.tokens ≡ middle_of c.args.mode tokens =
    ap (λ (t : TokenList). t.tokens) c.in_ok-tail.ensures.front ∙ ap (λ n. take n c.in_ok-head.behind.tokens) size
    ∙ ap (λ (t : TokenList). take (wide_size c.args.mode (behind_head tokens)) t.tokens) c.in_ok-head.ensures.behind in
    rw middle (part-alternates c.args.mode c.args.pattern.now (head_size tokens) (wide_size c.args.mode (behind_head tokens)))
