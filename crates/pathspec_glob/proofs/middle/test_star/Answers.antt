use Rattle.std.proofs.Common.{◌≡◌, ◌+◌, ◌∙◌, ◌&&◌, ◌==◌, ℕ, suc, true, refl, sym, ap, arith, inl, inr, List, [], ◌∷◌, drop, get_or, if◌then◌else◌}
use Rattle.std.proofs.lemmas.Bool.{cases_Bool}
use Rattle.std.proofs.lemmas.List.{drop_more}
use Rattle.std.proofs.Math.ListN.{drop_of_length-le}
use Rattle.pathspec_glob.proofs.Words.{Mode, Case, Sensitive, slash, Token, One, Star, Deep, is_wide_at, takes_at}
use Rattle.pathspec_glob.specs.GlobParts.{first_token_takes, first_token_tests}
use Rattle.pathspec_glob.proofs.middle.test_star.Goals.{After-test}
use Rattle.pathspec_glob.proofs.middle.test_star.Goals as goal

-- a token for any number of bytes and one byte
takes-one : (mode : Mode) (case : Case) (ts : List Token) (b : ℕ) (bs : List ℕ) → is_wide_at ts ≡ true → first_token_takes ts (b ∷ bs) ≡ (takes_at mode case ts b && first_token_takes ts bs)
takes-one mode case [] b bs h = absurd (let no : ⊥ = cc in no)
takes-one mode case (One single ∷ ts) b bs h = absurd (let no : ⊥ = cc in no)
takes-one mode case (Star ∷ ts) b bs h = refl
takes-one mode case (Deep ∷ ts) b bs h = refl

tests-one : (mode : Mode) (case : Case) (ts : List Token) (b : ℕ) (bs : List ℕ) → is_wide_at ts ≡ true → first_token_tests ts (b ∷ bs) ≡ suc (if takes_at mode case ts b then first_token_tests ts bs else 0)
tests-one mode case [] b bs h = absurd (let no : ⊥ = cc in no)
tests-one mode case (One single ∷ ts) b bs h = absurd (let no : ⊥ = cc in no)
tests-one mode case (Star ∷ ts) b bs h = elim (cases_Bool (b == slash)) [ inl e ↦ rw e refl | inr e ↦ rw e refl ]
tests-one mode case (Deep ∷ ts) b bs h = refl

-- and no byte
takes-none : (ts : List Token) → is_wide_at ts ≡ true → first_token_takes ts [] ≡ true
takes-none [] h = absurd (let no : ⊥ = cc in no)
takes-none (One single ∷ ts) h = absurd (let no : ⊥ = cc in no)
takes-none (Star ∷ ts) h = refl
takes-none (Deep ∷ ts) h = refl

tests-none : (ts : List Token) → first_token_tests ts [] ≡ 0
tests-none [] = refl
tests-none (One single ∷ ts) = refl
tests-none (Star ∷ ts) = refl
tests-none (Deep ∷ ts) = refl

-- the byte at a place, and those behind it
byte : (c : After-test) → drop c.loop-place.place c.args.text.now ≡ get_or c.args.text.now c.loop-place.place 0 ∷ drop (c.loop-place.place + 1) c.args.text.now
byte c = drop_more c.args.text.now c.loop-place.place 0 c.loop-place-test.true

tested : (c : After-test) → first_token_takes c.args.tokens.now.tokens (drop c.loop-place.place c.args.text.now) ≡ (c.test.result && first_token_takes c.args.tokens.now.tokens (drop (c.loop-place.place + 1) c.args.text.now))
tested c =
    let ts = c.args.tokens.now.tokens in
    let behind = drop (c.loop-place.place + 1) c.args.text.now in
    ap (first_token_takes ts) (byte c) ∙ takes-one c.args.tokens.now.mode Sensitive ts _ behind c.requires.wide ∙ ap (λ x. x && first_token_takes ts behind) (sym (c.test.ensures.answer Sensitive))

counted : (c : After-test) → first_token_tests c.args.tokens.now.tokens (drop c.loop-place.place c.args.text.now) ≡ suc (if c.test.result then first_token_tests c.args.tokens.now.tokens (drop (c.loop-place.place + 1) c.args.text.now) else 0)
counted c =
    let ts = c.args.tokens.now.tokens in
    let behind = drop (c.loop-place.place + 1) c.args.text.now in
    ap (first_token_tests ts) (byte c) ∙ tests-one c.args.tokens.now.mode Sensitive ts _ behind c.requires.wide ∙ ap (λ x. suc (if x then first_token_tests ts behind else 0)) (sym (c.test.ensures.answer Sensitive))

pub loop-place-preserved : goal.loop-place-preserved
loop-place-preserved c =
    let test = (goal.at.loop-place-preserved c).After-test in
    record {
      answer = sym (tested test ∙ rw c.if-not-test.false refl) ∙ c.loop-place.invariant.answer;
      tests = let one = rw c.if-not-test.false at (counted test) in omega (arith, one, c.loop-place.invariant.tests);
      count = omega (arith, c.test.ensures.count, c.loop-place.invariant.count);
      alone = c.test.ensures.tokens;
      steps = c.loop-place.invariant.steps;
    }

pub returns-then-not-test-clause-answer : goal.returns-then-not-test-clause-answer
returns-then-not-test-clause-answer c =
    sym (sym c.loop-place.invariant.answer ∙ (tested (goal.at.returns-then-not-test-clause-answer c).After-test ∙ rw c.if-not-test.true refl))

pub returns-then-not-test-clause-tests : goal.returns-then-not-test-clause-tests
returns-then-not-test-clause-tests c =
    let one = rw c.if-not-test.true at (counted (goal.at.returns-then-not-test-clause-tests c).After-test) in
    let same = ap (λ s. s.last) c.loop-place.invariant.steps in
    let told = rw c.test.ensures.tokens at c.add.ensures.steps in
    omega (arith, one, same, told, c.test.ensures.count, c.loop-place.invariant.count, c.loop-place.invariant.tests)

pub returns-clause-answer : goal.returns-clause-answer
returns-clause-answer c =
    let text = c.args.text.now in
    let ended : drop c.loop-place.place text ≡ [] = drop_of_length-le text {i = c.loop-place.place} c.loop-place-test.false in
    sym (sym c.loop-place.invariant.answer ∙ ap (first_token_takes c.args.tokens.now.tokens) ended ∙ takes-none c.args.tokens.now.tokens c.requires.wide)

pub returns-clause-tests : goal.returns-clause-tests
returns-clause-tests c =
    let text = c.args.text.now in
    let ended : drop c.loop-place.place text ≡ [] = drop_of_length-le text {i = c.loop-place.place} c.loop-place-test.false in
    let none = ap (first_token_tests c.args.tokens.now.tokens) ended ∙ tests-none c.args.tokens.now.tokens in
    let same = ap (λ s. s.last) c.loop-place.invariant.steps in
    let told = rw c.loop-place.invariant.alone at c.add-2.ensures.steps in
    omega (arith, none, same, told, c.loop-place.invariant.count, c.loop-place.invariant.tests, c.loop-place-test.false)
