-- Tokens match what their cells match.
use Rattle.std.proofs.Common.{◌≡◌, ℕ, Bool, true, not, ◌&&◌, ◌||◌, refl, sym, ◌∙◌, ap, List, [], ◌∷◌, ◌==◌}
use Rattle.std.proofs.Math.Bool.{or-false}
use Rattle.std.specs.List.{list_all}
use Rattle.pathspec_glob.proofs.Words.{Mode, Case, slash, OneByte, Token, One, Star, Deep, takes, matches, some_suffix, passes_over}
use Rattle.pathspec_glob.specs.GlobCells.{SelfLoop, keeps, after_kept, cells_match, cells_of, loop_behind, alternates, looped, over_at}
use Rattle.pathspec_glob.specs.GlobCells.SelfLoop.{Nothing, Names, Anything}

-- the same rest behind the same cell
pub after_kept-same : (keep take : ℕ → Bool) (f g : List ℕ → Bool) → ((v : List ℕ) → f v ≡ g v) → (text : List ℕ) → after_kept keep take f text ≡ after_kept keep take g text
after_kept-same keep take f g same [] = refl
after_kept-same keep take f g same (b ∷ bs) = rw (same bs, after_kept-same keep take f g same bs) refl

-- a loop and then one token
end-within : (mode : Mode) (case : Case) (keep : ℕ → Bool) (single : OneByte) (ts : List Token) (text : List ℕ)
    → some_suffix keep (matches mode case (One single ∷ ts)) text ≡ after_kept keep (takes mode case single) (matches mode case ts) text
unfolding matches
end-within mode case keep single ts [] = refl
end-within mode case keep single ts (b ∷ bs) = rw (end-within mode case keep single ts bs) refl

-- nothing kept: one token takes the first byte
nothing-within : (take : ℕ → Bool) (rest : List ℕ → Bool) (b : ℕ) (bs : List ℕ) → after_kept (keeps Nothing) take rest (b ∷ bs) ≡ (take b && rest bs)
nothing-within take rest b bs = or-false (take b && rest bs)

-- a loop at the end
end-all : (mode : Mode) (case : Case) (keep : ℕ → Bool) (text : List ℕ) → some_suffix keep (matches mode case []) text ≡ list_all keep text
unfolding matches
end-all mode case keep [] = refl
end-all mode case keep (b ∷ bs) = rw (end-all mode case keep bs) refl

all-true : (text : List ℕ) → list_all (λ b. true) text ≡ true
all-true [] = refl
all-true (b ∷ bs) = all-true bs

-- what a loop and then one token match is a cell, before what follows
pub looped-one : (mode : Mode) (case : Case) (loop : SelfLoop) (single : OneByte) (ts : List Token) (text : List ℕ)
    → looped mode case loop (One single ∷ ts) text ≡ (after_kept (keeps loop) (takes mode case single) (matches mode case ts) text || (over_at mode loop single && matches mode case ts text))
unfolding matches
looped-one mode case Nothing single ts [] = refl
looped-one mode case Nothing single ts (b ∷ bs) = sym (or-false _ ∙ nothing-within (takes mode case single) (matches mode case ts) b bs)
looped-one mode case Names single ts text = end-within mode case (λ b. not (b == slash)) single ts text ∙ sym (or-false _)
looped-one mode case Anything single ts text = ap (λ x. x || (passes_over mode (One single) && matches mode case ts text)) (end-within mode case (λ b. true) single ts text)

-- a loop at the end of all
pub looped-end : (mode : Mode) (case : Case) (loop : SelfLoop) (text : List ℕ) → looped mode case loop [] text ≡ list_all (keeps loop) text
unfolding matches
looped-end mode case Nothing [] = refl
looped-end mode case Nothing (b ∷ bs) = refl
looped-end mode case Names text = end-all mode case (λ b. not (b == slash)) text
looped-end mode case Anything text = sym (all-true text)

-- Tokens match what their cells match.
pub cells-match : (mode : Mode) (case : Case) (loop : SelfLoop) (ts : List Token) → alternates loop ts ≡ true → (text : List ℕ)
    → looped mode case loop ts text ≡ cells_match mode case (cells_of mode loop ts) (loop_behind loop ts) text
cells-match mode case loop [] h text = looped-end mode case loop text
cells-match mode case loop (One single ∷ ts) h text =
    let ih : (v : List ℕ) → matches mode case ts v ≡ cells_match mode case (cells_of mode Nothing ts) (loop_behind Nothing ts) v = cells-match mode case Nothing ts h in
    rw (looped-one mode case loop single ts text, after_kept-same (keeps loop) (takes mode case single) (matches mode case ts) (cells_match mode case (cells_of mode Nothing ts) (loop_behind Nothing ts)) ih text, ih text) refl
cells-match mode case Nothing (Star ∷ ts) h text = cells-match mode case Names ts h text
cells-match mode case Nothing (Deep ∷ ts) h text = cells-match mode case Anything ts h text
cells-match mode case Names (Star ∷ ts) h text = cc
cells-match mode case Names (Deep ∷ ts) h text = cc
cells-match mode case Anything (Star ∷ ts) h text = cc
cells-match mode case Anything (Deep ∷ ts) h text = cc
