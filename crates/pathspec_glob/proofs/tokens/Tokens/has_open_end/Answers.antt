use Rattle.std.proofs.Common.{◌≡◌, ◌-◌, ◌≤◌, List, [], ◌∷◌, refl, ◌∙◌, ap, arith, length, get_or}
use Rattle.std.proofs.Math.Numerals.{sub-one}
use Rattle.pathspec_glob.specs.declared.tokens.Token.{Token as Part}
use Rattle.pathspec_glob.proofs.Words.{token_view, tokens_view, TokenList, is_any_run, is_open}
use Rattle.pathspec_glob.proofs.tokens.Tokens.has_open_end.Goals as goal

-- tokens are open where the last takes any bytes
last-opens : (parts : List Part) (other : Part) → 1 ≤ length parts → is_any_run (token_view (get_or parts (length parts - 1) other)) ≡ is_open (tokens_view parts)
last-opens [] other some = absurd (let no : ⊥ = omega arith in no)
last-opens (t ∷ []) other some = refl
last-opens (t ∷ u ∷ ts) other some = rw sub-one (rw sub-one at (last-opens (u ∷ ts) other (omega arith)))

pub returns-in-len1-up : goal.returns-in-len1-up
returns-in-len1-up c =
    c.is_deep.ensures ∙ last-opens c.as_slice.result.now _ c.in-len1-up.len_at_least
    ∙ ap (λ parts. is_open (tokens_view parts)) c.as_slice.ensures.value ∙ ap (λ (t : TokenList). is_open t.tokens) c.self.view_is
