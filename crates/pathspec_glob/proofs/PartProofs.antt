-- The sizes of a glob's parts, and what stands in them.
use Rattle.std.proofs.Common.{◌≡◌, ℕ, zero, suc, ◌+◌, ◌≤◌, ◌==◌, Bool, true, false, not, refl, sym, ◌∙◌, ap, arith, inl, inr, List, [], ◌∷◌, ◌++◌, length, take, drop, map, length-append, if◌then◌else◌}
use Rattle.std.proofs.Math.Numerals.{one-add}
use Rattle.std.proofs.lemmas.Bool.{cases_Bool, and_parts, eqb-true, ne_eqb}
use Rattle.std.proofs.lemmas.List.{take-append-drop}
use Rattle.std.specs.List.{list_all, prefix_len}
use Rattle.pathspec_glob.proofs.Words.{Mode, Shell, PathAware, Token, Byte, One, Star, Deep, passes_over, token_view, tokens_view, is_wide, may_pass_over_at}
use Rattle.pathspec_glob.specs.GlobParts.{head_size, own_size, wide_size, head_of, behind_head, middle_of, tail_of}
use Rattle.pathspec_glob.specs.declared.tokens.Token.{Token as Part}

-- the size of a head, read off the parts
pub head_size-view : (parts : List Part) → head_size (tokens_view parts) ≡ prefix_len (λ t. not (is_wide (token_view t))) parts
head_size-view [] = refl
head_size-view (t ∷ ts) = rw (head_size-view ts) refl

-- ---- the tokens of head and tail take one byte each

abbrev pub is_single : Token → Bool
is_single t = not (is_wide t)

pub head-singles : (ts : List Token) → list_all is_single (head_of ts) ≡ true
head-singles [] = refl
head-singles (One s ∷ ts) = rw one-add (head-singles ts)
head-singles (Star ∷ ts) = refl
head-singles (Deep ∷ ts) = refl

own-tail : (mode : Mode) (t : Token) (ts : List Token) → list_all is_single ts ≡ true → list_all is_single (drop (own_size mode (t ∷ ts)) (t ∷ ts)) ≡ true
own-tail mode (One s) ts all = all
own-tail mode Star [] all = refl
own-tail mode Star (u ∷ us) all = all
own-tail mode Deep [] all = refl
own-tail mode Deep (u ∷ us) all = elim (cases_Bool (passes_over mode u)) [
  | inl e ↦ rw e (and_parts (is_single u) (list_all is_single us) all).1
  | inr e ↦ rw e all
]

-- where no token takes any number of bytes, all take one
all-singles : (mode : Mode) (ts : List Token) → wide_size mode ts == 0 ≡ true → list_all is_single (drop (wide_size mode ts) ts) ≡ true → list_all is_single ts ≡ true
all-singles mode ts none all = rw (eqb-true (wide_size mode ts) 0 none) at all

wide-singles : (mode : Mode) (ts : List Token) → list_all is_single (drop (wide_size mode ts) ts) ≡ true
wide-singles mode [] = refl
wide-singles mode (t ∷ ts) = elim (cases_Bool (wide_size mode ts == 0)) [
  | inl z ↦ rw z (own-tail mode t ts (all-singles mode ts z (wide-singles mode ts)))
  | inr n ↦ rw n (wide-singles mode ts)
]

pub tail-singles : (mode : Mode) (ts : List Token) → list_all is_single (tail_of mode ts) ≡ true
tail-singles mode ts = wide-singles mode (behind_head ts)

-- ---- sizes

own_size-within : (mode : Mode) (t : Token) (ts : List Token) → own_size mode (t ∷ ts) ≤ suc (length ts)
own_size-within mode (One s) ts = omega arith
own_size-within mode Star [] = omega arith
own_size-within mode Star (t ∷ ts) = omega arith
own_size-within mode Deep [] = omega arith
own_size-within mode Deep (t ∷ ts) = elim (cases_Bool (passes_over mode t)) [ inl e ↦ rw e (omega arith) | inr e ↦ rw e (omega arith) ]

pub wide_size-within : (mode : Mode) (ts : List Token) → wide_size mode ts ≤ length ts
wide_size-within mode [] = omega arith
wide_size-within mode (t ∷ ts) = elim (cases_Bool (wide_size mode ts == 0)) [
  | inl z ↦ rw z (own_size-within mode t ts)
  | inr n ↦ rw n (let few = wide_size-within mode ts in omega arith)
]

-- the parts are all of the tokens
pub parts-all : (mode : Mode) (ts : List Token) → head_of ts ++ (middle_of mode ts ++ tail_of mode ts) ≡ ts
parts-all mode ts = ap (λ x. head_of ts ++ x) (take-append-drop (wide_size mode (behind_head ts)) (behind_head ts)) ∙ take-append-drop (head_size ts) ts

-- ---- no token of the tail is left out with the one before it

-- the last of these tokens isn't left out with the first of those
abbrev pub stands : Mode → List Token → List Token → Bool
stands mode [] ss = true
stands mode (t ∷ []) ss = not (may_pass_over_at mode (t ∷ ss))
stands mode (t ∷ u ∷ ts) ss = stands mode (u ∷ ts) ss

stands-more : (mode : Mode) (t : Token) (n : ℕ) (ts : List Token) → n == 0 ≡ false → stands mode (take n ts) (drop n ts) ≡ true → stands mode (t ∷ take n ts) (drop n ts) ≡ true
stands-more mode t zero ts n h = cc
stands-more mode t (suc k) [] n h = refl
stands-more mode t (suc k) (u ∷ us) n h = h

slash-stands : (mode : Mode) (u : Token) (us : List Token) → is_single u ≡ true → not (may_pass_over_at mode (u ∷ us)) ≡ true
slash-stands mode (One s) [] h = refl
slash-stands mode (One s) (w ∷ ws) h = refl
slash-stands mode Star us h = cc
slash-stands mode Deep us h = cc

own-stands : (mode : Mode) (t : Token) (ts : List Token) → list_all is_single ts ≡ true
    → stands mode (take (own_size mode (t ∷ ts)) (t ∷ ts)) (drop (own_size mode (t ∷ ts)) (t ∷ ts)) ≡ true
own-stands mode (One s) ts all = refl
own-stands mode Star [] all = refl
own-stands mode Star (u ∷ us) all = refl
own-stands mode Deep [] all = refl
own-stands mode Deep (u ∷ us) all = elim (cases_Bool (passes_over mode u)) [
  | inl e ↦ rw e (slash-stands mode u us (and_parts (is_single u) (list_all is_single us) all).0)
  | inr e ↦ rw e (rw e refl)
]

wide-stands : (mode : Mode) (ts : List Token) → stands mode (take (wide_size mode ts) ts) (drop (wide_size mode ts) ts) ≡ true
wide-stands mode [] = refl
wide-stands mode (t ∷ ts) = elim (cases_Bool (wide_size mode ts == 0)) [
  | inl z ↦ rw z (own-stands mode t ts (all-singles mode ts z (wide-singles mode ts)))
  | inr n ↦ rw n (stands-more mode t (wide_size mode ts) ts n (wide-stands mode ts))
]

pub tail-stands : (mode : Mode) (ts : List Token) → stands mode (middle_of mode ts) (tail_of mode ts) ≡ true
tail-stands mode ts = wide-stands mode (behind_head ts)

-- ---- a token for any number of bytes before others for one byte each

pub wide_size-plain : (mode : Mode) (rest : List ℕ) → wide_size mode (map (λ b. One (Byte b)) rest) ≡ 0
wide_size-plain mode [] = refl
wide_size-plain mode (b ∷ rest) = rw (wide_size-plain mode rest) refl

pub middle-deep : (rest : List ℕ) → middle_of Shell (Deep ∷ map (λ b. One (Byte b)) rest) ≡ Deep ∷ []
middle-deep [] = refl
middle-deep (b ∷ rest) = rw (wide_size-plain Shell rest) refl

pub middle-star : (rest : List ℕ) → middle_of PathAware (Star ∷ map (λ b. One (Byte b)) rest) ≡ Star ∷ []
middle-star [] = refl
middle-star (b ∷ rest) = rw (wide_size-plain PathAware rest) refl

-- ---- sizes in a loop

-- the size where no such token stands behind the place, and else that of the last
abbrev pub so_far : ℕ → ℕ → ℕ → ℕ
so_far size place more = if more == 0 then size else place + more

pub size-step : (mode : Mode) (t : Token) (ts : List Token) (place size : ℕ)
    → so_far size place (wide_size mode (t ∷ ts)) ≡ so_far (if is_wide t then (if may_pass_over_at mode (t ∷ ts) then place + 2 else place + 1) else size) (place + 1) (wide_size mode ts)
size-step mode t ts place size = elim (cases_Bool (wide_size mode ts == 0)) [
  | inr n ↦ let some : suc (wide_size mode ts) == 0 ≡ false = ne_eqb (suc (wide_size mode ts)) 0 (λ e. omega arith) in rw (n, some) (omega arith)
  | inl z ↦ rw z (elim (cases_Bool (is_wide t)) [
    | inr e ↦ rw e refl
    | inl e ↦ rw e (elim (cases_Bool (may_pass_over_at mode (t ∷ ts))) [ inl o ↦ rw o refl | inr o ↦ rw o refl ])
  ])
]

-- the parts have as many tokens as all
pub length-parts : (mode : Mode) (ts : List Token) → length (head_of ts) + length (middle_of mode ts) + length (tail_of mode ts) ≡ length ts
length-parts mode ts =
    let all : length (head_of ts) + (length (middle_of mode ts) + length (tail_of mode ts)) ≡ length ts =
    sym (length-append (head_of ts) (middle_of mode ts ++ tail_of mode ts) ∙ ap (λ n. length (head_of ts) + n) (length-append (middle_of mode ts) (tail_of mode ts))) ∙ ap length (parts-all mode ts) in
    omega arith

pub middle-few : (mode : Mode) (ts : List Token) → length (middle_of mode ts) ≤ length ts
middle-few mode ts = let all = length-parts mode ts in omega arith
