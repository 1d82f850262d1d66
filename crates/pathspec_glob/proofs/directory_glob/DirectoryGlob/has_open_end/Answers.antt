use Rattle.std.proofs.Common.{◌≡◌, refl, ◌∙◌, ap, List, [], ◌∷◌, map}
use Rattle.pathspec_glob.proofs.Words.{glob_tokens, TokenList, Token, tokens, One, Star, Deep, listed, is_open}
use Rattle.pathspec_glob.proofs.directory_glob.DirectoryGlob.has_open_end.Goals as goal

-- brackets that list each byte leave the end as it is
is_open-listed : (ts : List Token) → is_open (map listed ts) ≡ is_open ts
is_open-listed [] = refl
is_open-listed (One single ∷ []) = refl
is_open-listed (Star ∷ []) = refl
is_open-listed (Deep ∷ []) = refl
is_open-listed (t ∷ u ∷ ts) = is_open-listed (u ∷ ts)

pub returns : goal.returns
returns c =
    let inside = c.self.inside in
    c.self.invariant.open_is ∙ ap (λ (parts : TokenList). is_open parts.tokens) c.self.invariant.parts_is
    ∙ is_open-listed (tokens inside.tokens.mode inside.source.pattern) ∙ ap (λ g. is_open (glob_tokens g)) c.self.view_is
