-- What is read at a place of a list of tokens, and at a position of a text.
use Rattle.std.proofs.Common.{◌≡◌, ℕ, ◌+◌, ◌<◌, sym, ◌∙◌, ap, subst, arith, ◌-◌, true, List, [], ◌∷◌, length, get_or, take, drop, map}
use Rattle.std.proofs.lemmas.List.{drop_more, drop-map, length-map, length-drop, take_all}
use Rattle.pathspec_glob.specs.declared.tokens.Token.{Token as Part}
use Rattle.pathspec_glob.proofs.Words.{Token, token_view, tokens_view, is_wide_at}
use Rattle.pathspec_glob.specs.GlobCells.{cell_count}

-- where the first takes any number of bytes there is one
pub some-token : (ts : List Token) → is_wide_at ts ≡ true → 0 < length ts
some-token [] h = cc
some-token (t ∷ ts) h = omega arith

-- tokens are as many as their parts
pub length-view : (parts : List Part) (tokens : List Token) → tokens_view parts ≡ tokens → length tokens ≡ length parts
length-view parts tokens view = ap length (sym view) ∙ length-map parts token_view

-- from a place on stand the token there and those after it
pub tokens-at : (parts : List Part) (tokens : List Token) (place : ℕ) (part : Part) → tokens_view parts ≡ tokens → place < length tokens → part ≡ get_or parts place part
    → drop place tokens ≡ token_view part ∷ drop (place + 1) tokens
tokens-at parts tokens place part view within read =
    let h : place < length parts = subst (λ n. place < n) (length-view parts tokens view) within in
    let e : drop place parts ≡ part ∷ drop (place + 1) parts = drop_more parts place part h ∙ ap (λ x. x ∷ drop (place + 1) parts) (sym read) in
    let f : drop place (tokens_view parts) ≡ token_view part ∷ drop (place + 1) (tokens_view parts) = drop-map token_view place parts ∙ ap (map token_view) e ∙ ap (λ ts. token_view part ∷ ts) (sym (drop-map token_view (place + 1) parts)) in
    subst (λ ts. drop place ts ≡ token_view part ∷ drop (place + 1) ts) view f

-- the tokens from a place on
pub tokens-from : (parts all : List Part) (tokens : List Token) (place : ℕ) → tokens_view parts ≡ tokens → all ≡ parts → tokens_view (take (length all - place) (drop place all)) ≡ drop place tokens
tokens-from parts all tokens place view same =
    ap tokens_view (take_all (length all - place) (drop place all) (omega (arith, length-drop place all)))
    ∙ ap (λ ps. tokens_view (drop place ps)) same ∙ sym (drop-map token_view place parts) ∙ ap (drop place) view

-- where a token takes one byte there is one
pub some-cell : (ts : List Token) → 0 < cell_count ts → 0 < length ts
some-cell [] h = absurd (let no : ⊥ = omega arith in no)
some-cell (t ∷ ts) h = omega arith
