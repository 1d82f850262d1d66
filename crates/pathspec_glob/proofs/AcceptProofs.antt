-- A set of places leads to the same texts, however it is gone on from.
use Rattle.std.proofs.Common.{◌≡◌, ℕ, zero, suc, ◌<◌, ◌≤◌, Bool, true, false, not, ◌&&◌, ◌||◌, inl, inr, refl, sym, ◌∙◌, arith, List, [], ◌∷◌, length, get_or, drop, if◌then◌else◌}
use Rattle.std.specs.Cmp.{both_ways}
use Rattle.std.proofs.lemmas.Bool.{and_parts, and_from, or_left, or_right, or_cases, cases_Bool, not_from_false}
use Rattle.std.proofs.Math.Bool.{or-false, and-true}
use Rattle.pathspec_glob.proofs.Words.{Mode, Case, is_empty, Token, One, Star, Deep, matches, some_suffix, is_wide, is_wide_at, may_pass_over_at, takes_at, takes_byte}
use Rattle.pathspec_glob.specs.StateSets.{matches_within, accepts_at, accepts, Includes, IsClosed, IsLeast}

-- deep alone takes any text
any_end : (mode : Mode) (case : Case) (text : List ℕ) → some_suffix (λ b. true) (matches mode case []) text ≡ true
unfolding matches
any_end mode case [] = refl
any_end mode case (b ∷ bs) = any_end mode case bs

-- A token that is come to is within; or it may be left out with the next.
pub comes : (mode : Mode) (case : Case) (t : Token) (ts : List Token) (text : List ℕ)
    → matches mode case (t ∷ ts) text ≡ (matches_within mode case (t ∷ ts) text || (may_pass_over_at mode (t ∷ ts) && matches mode case (drop 1 ts) text))
unfolding matches
comes mode case (One s) [] text = sym (or-false _)
comes mode case (One s) (t ∷ ts) text = sym (or-false _)
comes mode case Star [] text = sym (or-false _)
comes mode case Star (t ∷ ts) text = sym (or-false _)
comes mode case Deep [] text = sym (or-false _ ∙ any_end mode case text)
comes mode case Deep (t ∷ ts) text = refl

-- From within a token, one that takes any number of bytes leads to the next, or takes a byte; any other takes a byte and leads to the next.
pub matches_within-byte : (mode : Mode) (case : Case) (t : Token) (ts : List Token) (b : ℕ) (bs : List ℕ)
    → matches_within mode case (t ∷ ts) (b ∷ bs)
    ≡ ((is_wide t && matches mode case ts (b ∷ bs)) || (takes_byte mode case t b && (if is_wide t then matches_within mode case (t ∷ ts) bs else matches mode case ts bs)))
matches_within-byte mode case (One s) ts b bs = refl
matches_within-byte mode case Star ts b bs = refl
matches_within-byte mode case Deep ts b bs = refl

-- at a text's end only those that take any number of bytes lead on
pub matches_within-end : (mode : Mode) (case : Case) (t : Token) (ts : List Token) → matches_within mode case (t ∷ ts) [] ≡ (is_wide t && matches mode case ts [])
matches_within-end mode case (One s) ts = refl
matches_within-end mode case Star ts = refl
matches_within-end mode case Deep ts = refl

-- what a place leads to at the end, come to or within
end-cases : (e s w p m mo : Bool) → ((e && ((w && m) || (p && mo))) || (s && (w && m))) ≡ ((((e || s) && w) && m) || ((e && p) && mo))
end-cases e s w p m mo = grind (arith, or-false)

-- what a place leads to by a byte: by staying, by the next with the byte or without it, or by what is left out
byte-cases : (e s w k p m st mt mo : Bool)
    → ((e && (((w && m) || (k && (if w then st else mt))) || (p && mo))) || (s && ((w && m) || (k && (if w then st else mt)))))
    ≡ (((((e || s) && k) && w) && st) || (((((e || s) && k) && not w) && mt) || ((((e || s) && w) && m) || ((e && p) && mo))))
byte-cases e s w k p m st mt mo = grind (arith, or-false)

pub drop-one : {X : Type 0} (xs : List X) (n : ℕ) → drop 1 (drop n xs) ≡ drop (suc n) xs
drop-one xs zero = refl
drop-one [] (suc n) = refl
drop-one (x ∷ xs) (suc n) = drop-one xs n

-- what stands from a place on
pub from-place : (ts : List Token) (place : ℕ) → place < length ts → drop place ts ≡ get_or ts place Star ∷ drop (suc place) ts
from-place [] place h = absurd (let no : ⊥ = omega arith in no)
from-place (t ∷ ts) zero h = refl
from-place (t ∷ ts) (suc place) h = from-place ts place (omega arith)

-- what leads to what is reached anyhow adds nothing
absorbed : (a k n x y r : Bool) → (x ≡ true → r ≡ true) → (y ≡ true → r ≡ true) → ((a || k) || (n || r)) ≡ (a || ((k || (n || (x || y))) || r))
absorbed a k n x y true f g = grind (arith, or-false)
absorbed a k n true y false f g = cc (f refl)
absorbed a k n false true false f g = cc (g refl)
absorbed a k n false false false f g = grind (arith, or-false)

absorbed-end : (x y r : Bool) → (x ≡ true → r ≡ true) → (y ≡ true → r ≡ true) → ((x || y) || r) ≡ r
absorbed-end x y true f g = grind (arith, or-false)
absorbed-end true y false f g = cc (f refl)
absorbed-end false true false f g = cc (g refl)
absorbed-end false false false f g = refl

-- what may be passed over stands before a token
over-some : (mode : Mode) (t : Token) (ts : List Token) → may_pass_over_at mode (t ∷ ts) ≡ true → 0 < length ts
over-some mode t [] h = cc
over-some mode t (next ∷ ts) h = omega arith

pub over-next : (mode : Mode) (place : ℕ) (ts : List Token) → may_pass_over_at mode (drop place ts) ≡ true → suc place < length ts
over-next mode zero [] h = cc
over-next mode zero (t ∷ ts) h = let some = over-some mode t ts h in omega arith
over-next mode (suc place) [] h = cc
over-next mode (suc place) (t ∷ ts) h = let next = over-next mode place ts h in omega arith

-- what follows without a byte is closed behind the first place too
closed-behind : (mode : Mode) (t : Token) (ts : List Token) (e s : ℕ → Bool) → IsClosed mode (t ∷ ts) e s → IsClosed mode ts (λ i. e (suc i)) (λ i. s (suc i))
closed-behind mode t ts e s closed = record {
  next = λ i h. closed.next (suc i) (omega arith);
  over = λ i h. closed.over (suc i) (omega arith);
}

module _ (mode : Mode) (case : Case) where
  -- A token that takes any number of bytes leads on without one.
  within-next : (t : Token) (ts : List Token) (text : List ℕ) → is_wide t ≡ true → matches mode case ts text ≡ true → matches_within mode case (t ∷ ts) text ≡ true
  within-next t ts [] wide match = matches_within-end mode case t ts ∙ and_from _ _ wide match
  within-next t ts (b ∷ bs) wide match = matches_within-byte mode case t ts b bs ∙ or_left _ _ (and_from _ _ wide match)

  -- What is come to leads to what the tokens from there match.
  pub there : (i : ℕ) (ts : List Token) (e s : ℕ → Bool) (text : List ℕ) → i ≤ length ts → e i ≡ true → matches mode case (drop i ts) text ≡ true
      → accepts mode case ts e s text ≡ true
  unfolding matches
  there zero [] e s text h on match = and_from (e 0) (is_empty text) on match
  there zero (t ∷ ts) e s text h on match = rw (on, match) refl
  there (suc i) [] e s text h on match = absurd (let no : ⊥ = omega arith in no)
  there (suc i) (t ∷ ts) e s text h on match =
      or_right (accepts_at mode case (t ∷ ts) (e 0) (s 0) text) _ (there i ts (λ j. e (suc j)) (λ j. s (suc j)) text (omega arith) on match)

  -- what stays leads to what the tokens match from within there
  pub there-within : (i : ℕ) (ts : List Token) (e s : ℕ → Bool) (text : List ℕ) → i < length ts → s i ≡ true → matches_within mode case (drop i ts) text ≡ true
      → accepts mode case ts e s text ≡ true
  there-within i [] e s text h on match = absurd (let no : ⊥ = omega arith in no)
  there-within zero (t ∷ ts) e s text h on match =
      or_left _ (accepts mode case ts (λ i. e (suc i)) (λ i. s (suc i)) text) (or_right (e 0 && matches mode case (t ∷ ts) text) _ (and_from (s 0) _ on match))
  there-within (suc i) (t ∷ ts) e s text h on match =
      or_right (accepts_at mode case (t ∷ ts) (e 0) (s 0) text) _ (there-within i ts (λ j. e (suc j)) (λ j. s (suc j)) text (omega arith) on match)

  -- what follows from each place that leads to a text follows where one does
  pub led : (ts : List Token) (e s : ℕ → Bool) (text : List ℕ) (q : Bool)
      → ((i : ℕ) → i ≤ length ts → e i ≡ true → matches mode case (drop i ts) text ≡ true → q ≡ true)
      → ((i : ℕ) → i < length ts → s i ≡ true → matches_within mode case (drop i ts) text ≡ true → q ≡ true)
      → accepts mode case ts e s text ≡ true → q ≡ true
  unfolding matches
  led [] e s text q come stay leads = let parts = and_parts (e 0) (is_empty text) leads in come 0 (omega arith) parts.0 parts.1
  led (t ∷ ts) e s text q come stay leads = elim (or_cases (accepts_at mode case (t ∷ ts) (e 0) (s 0) text) _ leads) [
    | inl here ↦ elim (or_cases (e 0 && matches mode case (t ∷ ts) text) _ here) [
      | inl on ↦ let parts = and_parts (e 0) _ on in come 0 (omega arith) parts.0 parts.1
      | inr on ↦ let parts = and_parts (s 0) _ on in stay 0 (omega arith) parts.0 parts.1
    ]
    | inr rest ↦ led ts (λ i. e (suc i)) (λ i. s (suc i)) text q (λ i h. come (suc i) (omega arith)) (λ i h. stay (suc i) (omega arith)) rest
  ]

  -- what a place leads to without a byte leads on from it
  next-within : (ts : List Token) (text : List ℕ) (i : ℕ) → i < length ts → is_wide_at (drop i ts) ≡ true → matches mode case (drop (suc i) ts) text ≡ true → matches_within mode case (drop i ts) text ≡ true
  next-within ts text i h wide match =
      let here = from-place ts i h in
      let is : is_wide (get_or ts i Star) ≡ true = rw here at wide in
      rw here (within-next (get_or ts i Star) (drop (suc i) ts) text is match)

  next-match : (ts : List Token) (text : List ℕ) (i : ℕ) → i < length ts → is_wide_at (drop i ts) ≡ true → matches mode case (drop (suc i) ts) text ≡ true → matches mode case (drop i ts) text ≡ true
  next-match ts text i h wide match =
      let within = next-within ts text i h wide match in
      let here = from-place ts i h in
      let inside : matches_within mode case (get_or ts i Star ∷ drop (suc i) ts) text ≡ true = rw here at within in
      rw here (comes mode case (get_or ts i Star) (drop (suc i) ts) text ∙ or_left _ _ inside)

  over-match : (ts : List Token) (text : List ℕ) (i : ℕ) → i < length ts → may_pass_over_at mode (drop i ts) ≡ true → matches mode case (drop (suc (suc i)) ts) text ≡ true → matches mode case (drop i ts) text ≡ true
  over-match ts text i h over match =
      let here = from-place ts i h in
      let may : may_pass_over_at mode (get_or ts i Star ∷ drop (suc i) ts) ≡ true = rw here at over in
      rw here (comes mode case (get_or ts i Star) (drop (suc i) ts) text ∙ or_right _ _ (and_from _ _ may (rw (drop-one ts (suc i)) match)))

  -- A set with what follows without a byte, and nothing else, leads to the same.
  pub closure-accepts : (ts : List Token) (e s f : ℕ → Bool) (text : List ℕ) → Includes (length ts) f e → IsLeast mode ts e s f
      → accepts mode case ts f s text ≡ accepts mode case ts e s text
  closure-accepts ts e s f text includes least = both_ways (accepts mode case ts f s text) q
      (λ leads. led ts f s text q (λ i h on match. taken i on match (least all held closed i h on)) (λ i h on match. there-within i ts e s text h on match) leads)
      (λ leads. led ts e s text (accepts mode case ts f s text) (λ i h on match. there i ts f s text h (includes i h on) match) (λ i h on match. there-within i ts f s text h on match) leads)
    where
      q : Bool
      q = accepts mode case ts e s text

      -- the places that lead to no more than the set does
      all : ℕ → Bool
      all i = not (matches mode case (drop i ts) text) || q

      taken : (i : ℕ) → f i ≡ true → matches mode case (drop i ts) text ≡ true → all i ≡ true → q ≡ true
      taken i on match only = rw match at only

      from : (i : ℕ) → (matches mode case (drop i ts) text ≡ true → q ≡ true) → all i ≡ true
      from i leads = elim (cases_Bool (matches mode case (drop i ts) text)) [
        | inl leading ↦ or_right (not (matches mode case (drop i ts) text)) q (leads leading)
        | inr off ↦ or_left (not (matches mode case (drop i ts) text)) q (not_from_false _ off)
      ]

      held : Includes (length ts) all e
      held i h on = from i (λ match. there i ts e s text h on match)

      closed : IsClosed mode ts all s
      closed = record {
        next = λ i h on wide. from (suc i) (λ match. elim (or_cases (all i) (s i) on) [
          | inl only ↦ rw (next-match ts text i h wide match) at only
          | inr stays ↦ there-within i ts e s text h stays (next-within ts text i h wide match)
        ]);
        over = λ i h on over. from (suc (suc i)) (λ match. rw (over-match ts text i h over match) at on);
      }

  -- what a place leads to at the end
  here-end : (t : Token) (ts : List Token) (e s : Bool)
      → accepts_at mode case (t ∷ ts) e s [] ≡ ((((e || s) && is_wide t) && matches mode case ts []) || ((e && may_pass_over_at mode (t ∷ ts)) && matches mode case (drop 1 ts) []))
  here-end t ts e s =
      rw (comes mode case t ts [], matches_within-end mode case t ts)
      (end-cases e s (is_wide t) (may_pass_over_at mode (t ∷ ts)) (matches mode case ts []) (matches mode case (drop 1 ts) []))

  -- what a place leads to by a byte
  here-byte : (t : Token) (ts : List Token) (e s : Bool) (b : ℕ) (bs : List ℕ)
      → accepts_at mode case (t ∷ ts) e s (b ∷ bs)
      ≡ (((((e || s) && takes_byte mode case t b) && is_wide t) && matches_within mode case (t ∷ ts) bs)
      || (((((e || s) && takes_byte mode case t b) && not (is_wide t)) && matches mode case ts bs)
      || ((((e || s) && is_wide t) && matches mode case ts (b ∷ bs)) || ((e && may_pass_over_at mode (t ∷ ts)) && matches mode case (drop 1 ts) (b ∷ bs)))))
  here-byte t ts e s b bs =
      rw (comes mode case t ts (b ∷ bs), matches_within-byte mode case t ts b bs)
      (byte-cases e s (is_wide t) (takes_byte mode case t b) (may_pass_over_at mode (t ∷ ts)) (matches mode case ts (b ∷ bs)) (matches_within mode case (t ∷ ts) bs) (matches mode case ts bs) (matches mode case (drop 1 ts) (b ∷ bs)))

  -- Where what follows without a byte is come to, the places that a byte leads to lead to what the old ones lead to before it.
  pub step-accepts : (ts : List Token) (e s f g : ℕ → Bool) (b : ℕ) (bs : List ℕ) → IsClosed mode ts e s
      → ((i : ℕ) → i < length ts → f (suc i) ≡ (((e i || s i) && takes_at mode case (drop i ts) b) && not (is_wide_at (drop i ts))))
      → ((i : ℕ) → i < length ts → g i ≡ (((e i || s i) && takes_at mode case (drop i ts) b) && is_wide_at (drop i ts)))
      → accepts mode case ts f g bs ≡ ((f 0 && matches mode case ts bs) || accepts mode case ts e s (b ∷ bs))
  unfolding matches
  step-accepts [] e s f g b bs closed moves stays = grind (arith, or-false)
  step-accepts (t ∷ ts) e s f g b bs closed moves stays =
      let rest = step-accepts ts (λ i. e (suc i)) (λ i. s (suc i)) (λ i. f (suc i)) (λ i. g (suc i)) b bs (closed-behind mode t ts e s closed)
      (λ i h. moves (suc i) (omega arith)) (λ i h. stays (suc i) (omega arith)) in
      rw (rest, moves 0 (omega arith), stays 0 (omega arith), here-byte t ts (e 0) (s 0) b bs)
      (absorbed (f 0 && matches mode case (t ∷ ts) bs) _ _ _ _ (accepts mode case ts (λ i. e (suc i)) (λ i. s (suc i)) (b ∷ bs))
      (λ on. let parts = and_parts ((e 0 || s 0) && is_wide t) (matches mode case ts (b ∷ bs)) on in
      let held = and_parts (e 0 || s 0) (is_wide t) parts.0 in
      there 0 ts (λ i. e (suc i)) (λ i. s (suc i)) (b ∷ bs) (omega arith) (closed.next 0 (omega arith) held.0 held.1) parts.1)
      (λ on. let parts = and_parts (e 0 && may_pass_over_at mode (t ∷ ts)) (matches mode case (drop 1 ts) (b ∷ bs)) on in
      let held = and_parts (e 0) (may_pass_over_at mode (t ∷ ts)) parts.0 in
      there 1 ts (λ i. e (suc i)) (λ i. s (suc i)) (b ∷ bs) (let some = over-some mode t ts held.1 in omega arith) (closed.over 0 (omega arith) held.0 held.1) parts.1))

  -- Where what follows without a byte is come to, places lead to the end where the last is come to.
  pub end-accepts : (ts : List Token) (e s : ℕ → Bool) → IsClosed mode ts e s → accepts mode case ts e s [] ≡ e (length ts)
  end-accepts [] e s closed = and-true (e 0)
  end-accepts (t ∷ ts) e s closed =
      let rest = end-accepts ts (λ i. e (suc i)) (λ i. s (suc i)) (closed-behind mode t ts e s closed) in
      rw (here-end t ts (e 0) (s 0))
      (absorbed-end _ _ (accepts mode case ts (λ i. e (suc i)) (λ i. s (suc i)) [])
      (λ on. let parts = and_parts ((e 0 || s 0) && is_wide t) (matches mode case ts []) on in
      let held = and_parts (e 0 || s 0) (is_wide t) parts.0 in
      there 0 ts (λ i. e (suc i)) (λ i. s (suc i)) [] (omega arith) (closed.next 0 (omega arith) held.0 held.1) parts.1)
      (λ on. let parts = and_parts (e 0 && may_pass_over_at mode (t ∷ ts)) (matches mode case (drop 1 ts) []) on in
      let held = and_parts (e 0) (may_pass_over_at mode (t ∷ ts)) parts.0 in
      there 1 ts (λ i. e (suc i)) (λ i. s (suc i)) [] (let some = over-some mode t ts held.1 in omega arith) (closed.over 0 (omega arith) held.0 held.1) parts.1)
      ∙ rest)

  -- where no place is active, none leads to a text
  pub none-accepts : (ts : List Token) (e s : ℕ → Bool) (text : List ℕ) → ((i : ℕ) → i ≤ length ts → e i ≡ false) → ((i : ℕ) → i < length ts → s i ≡ false)
      → accepts mode case ts e s text ≡ false
  none-accepts [] e s text none stays = rw (none 0 (omega arith)) refl
  none-accepts (t ∷ ts) e s text none stays =
      rw (none 0 (omega arith), stays 0 (omega arith), none-accepts ts (λ i. e (suc i)) (λ i. s (suc i)) text (λ i h. none (suc i) (omega arith)) (λ i h. stays (suc i) (omega arith))) refl

  -- Where the first place alone is come to, it leads to what the tokens match.
  pub begin-accepts : (ts : List Token) (e s : ℕ → Bool) (text : List ℕ) → e 0 ≡ true → ((i : ℕ) → 0 < i → i ≤ length ts → e i ≡ false)
      → ((i : ℕ) → i < length ts → s i ≡ false) → accepts mode case ts e s text ≡ matches mode case ts text
  unfolding matches
  begin-accepts [] e s text on none stays = rw on refl
  begin-accepts (t ∷ ts) e s text on none stays =
      rw (on, stays 0 (omega arith), none-accepts ts (λ i. e (suc i)) (λ i. s (suc i)) text (λ i h. none (suc i) (omega arith) (omega arith)) (λ i h. stays (suc i) (omega arith)))
      (or-false _ ∙ or-false (matches mode case (t ∷ ts) text))
