use Rattle.std.proofs.Common.{◌≡◌, ◌∙◌, ap, subst, map, IfOk}
use Rattle.pathspec_glob.proofs.Words.{tokens_from, listed, tokens_view}
use Rattle.pathspec_glob.proofs.HeadProofs.{slash_before_rest-ends, rest-is-behind}
use Rattle.pathspec_glob.proofs.reading.behind_head.Goals as goal

pub returns : goal.returns
returns c =
    let front = c.args.head.now in
    let rest = c.args.rest.now in
    let after_slash = c.is_after_slash.ensures ∙ slash_before_rest-ends front in
    let behind = ap (λ after. map listed (tokens_from c.args.mode 0 after rest)) after_slash ∙ rest-is-behind c.args.mode front rest c.requires.plain c.requires.wide in
    subst (λ ts. IfOk c.tokens_from.result (λ read. tokens_view read.items ≡ ts)) behind c.tokens_from.ensures
