-- Specs numbered, put in search order, and their common prefix.
use Rattle.std.proofs.Common.{◌≡◌, ℕ, ◌+◌, arith, refl, sym, ◌∙◌, ap, subst, List, [], ◌∷◌, ◌++◌, length, map, Some, None, Option, Ok, Err, Result, IfOk, IfErr, IfSome, MatchOption, unwrap_or, append_assoc}
use Rattle.std.specs.Borrow.{Bor}
use Rattle.std.specs.Option.{option_copied}
use Rattle.std.specs.List.{filter, reduce}
use Rattle.std.proofs.lemmas.List.{map-append}
use Rattle.pathspec_pattern.specs.declared.error.Error.{Error}
use Rattle.pathspec_pattern.specs.declared.pattern.Pattern.{Pattern}
use Rattle.gix_pathspec.specs.declared.search.init.BuildError.{BuildError}
use Rattle.gix_pathspec.specs.declared.search.init.BuildError.TheVariants as told
use Rattle.gix_pathspec.specs.Results.{◌>>=◌}
use Rattle.gix_pathspec.specs.Faults.{Fault}
use Rattle.gix_pathspec.specs.Errors.{fault_of, IsMemoryOr}
use Rattle.gix_pathspec.specs.Specs.{Spec, is_exclude, is_include, must_be_dir}
use Rattle.gix_pathspec.specs.Reading.{literal_spec}
use Rattle.gix_pathspec.specs.Patterns.{pattern_spec}
use Rattle.gix_pathspec.specs.NormalForm.{normal_form}
use Rattle.gix_pathspec.specs.Prefixes.{heads, common_front, common_prefix}
use Rattle.gix_pathspec.specs.Search.{Numbered, at_number, numbered_from, in_search_order, search_of}
use Rattle.gix_pathspec.specs.Building.{numbered_normal_form, with_next, default_numbered_to_prefix, search_of_numbered, AreMade, AddsNext, AreNumbered, TellsFault, Builds, IsErrorAt}

-- ---- faults

-- an error that tells one fault tells another where the one is the other
pub tells-on : (e : BuildError) (P Q : ℕ × Fault → Type 0) → ((fault : ℕ × Fault) → P fault → Q fault) → TellsFault e P → TellsFault e Q
tells-on (told.Spec number error) P Q f h = (h.0, h.1, f (number, h.0) h.2)
tells-on told.Memory P Q f h = h

-- the error for a refusal tells its fault
pub tells-refused : {A : Type 0} (number : ℕ) (error : Error) (e : BuildError) (x : Result A Fault) → IsMemoryOr error (λ fault. x ≡ Err fault) → IsErrorAt number error e → TellsFault e (λ fault. at_number number x ≡ Err fault)
tells-refused number error e x h m = by_fault (fault_of error) refl h m
  where
    by_fault : (o : Option Fault) → fault_of error ≡ o → IfSome o (λ fault. x ≡ Err fault) → MatchOption o (e ≡ told.Memory) (λ fault. e ≡ told.Spec number error) → TellsFault e (λ fault. at_number number x ≡ Err fault)
    by_fault None q h m = rw m tt
    by_fault (Some fault) q h m = rw m (fault, q, rw h refl)

-- ---- one after the other

-- values and those that are still to come
abbrev pub onto : {B E : Type 0} → List B → Result (List B) E → Result (List B) E
onto ys (Ok zs) = Ok (ys ++ zs)
onto ys (Err e) = Err e

pub onto-snoc : {B E : Type 0} (ys : List B) (y : B) (r : Result (List B) E) → onto ys (r >>= λ zs. Ok (y ∷ zs)) ≡ onto (ys ++ y ∷ []) r
onto-snoc ys y (Ok zs) = ap Ok (sym (append_assoc ys (y ∷ []) zs))
onto-snoc ys y (Err e) = refl

-- ---- numbers

-- a spec with its number
abbrev numbered : ℕ → Spec → Numbered
numbered number s = record { number = number; spec = s }

-- a spec without a normal form isn't added
pub next-refused : (prefix root : List ℕ) (s : Spec) (ns : List Numbered) (k : ℕ) (fault : ℕ × Fault) → k ≡ length ns → at_number k (normal_form prefix root s) ≡ Err fault → with_next prefix root s ns ≡ Err fault
next-refused prefix root s ns k fault e h =
    let refused : at_number (length ns) (normal_form prefix root s) ≡ Err fault = subst (λ (j : ℕ). at_number j (normal_form prefix root s) ≡ Err fault) e h in
    ap (λ r. (r >>= λ normal. Ok (numbered (length ns) normal)) >>= λ n. Ok (ns ++ n ∷ [])) refused

-- the first spec
first-number : (n : ℕ) (r : Result Spec (ℕ × Fault)) → (r >>= λ s. Ok (numbered n s ∷ [])) ≡ ((r >>= λ s. Ok (numbered n s)) >>= λ m. Ok (m ∷ []))
first-number n (Ok s) = refl
first-number n (Err fault) = refl

-- a spec in front and one at the end
both-ends : (ns : List Numbered) (n : Numbered) (last : Result Numbered (ℕ × Fault)) → ((last >>= λ m. Ok (ns ++ m ∷ [])) >>= λ ms. Ok (n ∷ ms)) ≡ (last >>= λ m. Ok ((n ∷ ns) ++ m ∷ []))
both-ends ns n (Ok m) = refl
both-ends ns n (Err fault) = refl

-- one more spec at the end, where the first has the number n
abbrev next_from : ℕ → List ℕ → List ℕ → Spec → List Numbered → Result (List Numbered) (ℕ × Fault)
next_from n prefix root s ns = numbered_normal_form (n + length ns) prefix root s >>= λ m. Ok (ns ++ m ∷ [])

next_from-cons : (n : ℕ) (prefix root : List ℕ) (s : Spec) (r : Result Spec (ℕ × Fault)) (others : Result (List Numbered) (ℕ × Fault))
    → (r >>= λ x. (others >>= next_from (n + 1) prefix root s) >>= λ ms. Ok (numbered n x ∷ ms)) ≡ ((r >>= λ x. others >>= λ ms. Ok (numbered n x ∷ ms)) >>= next_from n prefix root s)
next_from-cons n prefix root s (Ok x) (Ok ns) =
    let same : (n + 1) + length ns ≡ n + length (numbered n x ∷ ns) = omega arith in
    both-ends ns (numbered n x) (numbered_normal_form ((n + 1) + length ns) prefix root s) ∙ ap (λ k. numbered_normal_form k prefix root s >>= λ m. Ok ((numbered n x ∷ ns) ++ m ∷ [])) same
next_from-cons n prefix root s (Ok x) (Err fault) = refl
next_from-cons n prefix root s (Err fault) others = refl

numbered_from-snoc : (n : ℕ) (prefix root : List ℕ) (specs : List Spec) (s : Spec) → numbered_from n prefix root (specs ++ s ∷ []) ≡ (numbered_from n prefix root specs >>= next_from n prefix root s)
numbered_from-snoc n prefix root [] s =
    let same : n ≡ n + length {A = Numbered} [] = omega arith in
    first-number n (at_number n (normal_form prefix root s)) ∙ ap (λ k. numbered_normal_form k prefix root s >>= λ m. Ok (m ∷ [])) same
numbered_from-snoc n prefix root (x ∷ specs) s =
    ap (λ r. at_number n (normal_form prefix root x) >>= λ normal. r >>= λ others. Ok (numbered n normal ∷ others)) (numbered_from-snoc (n + 1) prefix root specs s)
    ∙ next_from-cons n prefix root s (at_number n (normal_form prefix root x)) (numbered_from (n + 1) prefix root specs)

-- numbers from 0 on
next_from-zero : (prefix root : List ℕ) (s : Spec) (r : Result (List Numbered) (ℕ × Fault)) → (r >>= next_from 0 prefix root s) ≡ (r >>= with_next prefix root s)
next_from-zero prefix root s (Ok ns) = let same : 0 + length ns ≡ length ns = omega arith in ap (λ k. numbered_normal_form k prefix root s >>= λ m. Ok (ns ++ m ∷ [])) same
next_from-zero prefix root s (Err fault) = refl

-- one more spec at the end
pub numbered_with-next : (prefix root : List ℕ) (specs : List Spec) (s : Spec) → numbered_from 0 prefix root (specs ++ s ∷ []) ≡ (numbered_from 0 prefix root specs >>= with_next prefix root s)
numbered_with-next prefix root specs s = numbered_from-snoc 0 prefix root specs s ∙ next_from-zero prefix root s (numbered_from 0 prefix root specs)

-- one more pattern is made ready for matching, or its fault is the first
pub made-more : (prefix root : List ℕ) (patterns : List Pattern) (p : Pattern) (ns more : List Numbered) (fault next : Option BuildError) → AreMade ns fault (numbered_from 0 prefix root (map pattern_spec patterns)) → AddsNext prefix root (pattern_spec p) ns fault more next
    → AreMade more next (numbered_from 0 prefix root (map pattern_spec (patterns ++ p ∷ [])))
made-more prefix root patterns p ns more fault next made adds =
    let step : numbered_from 0 prefix root (map pattern_spec (patterns ++ p ∷ [])) ≡ (numbered_from 0 prefix root (map pattern_spec patterns) >>= with_next prefix root (pattern_spec p)) =
    ap (numbered_from 0 prefix root) (map-append pattern_spec patterns (p ∷ [])) ∙ numbered_with-next prefix root (map pattern_spec patterns) (pattern_spec p) in
    subst (λ c. AreMade more next c) (sym step) (adds (numbered_from 0 prefix root (map pattern_spec patterns)) made)

-- ---- search order

-- of all specs these are the excludes and the includes before the rest
abbrev pub Splits : List Numbered → List Numbered → List Numbered → List Numbered → Type 0
Splits all excludes includes rest = in_search_order all ≡ (excludes ++ filter (λ n. is_exclude n.spec) rest) ++ (includes ++ filter (λ n. is_include n.spec) rest)

-- where there is a first spec, the prefix isn't asked for
search-cons : (prefix root : List ℕ) (n : ℕ) (r : Result Spec (ℕ × Fault)) (others : Result (List Numbered) (ℕ × Fault)) → ((r >>= λ s. others >>= λ ns. Ok (numbered n s ∷ ns)) >>= λ ns. Ok (in_search_order ns)) ≡ ((r >>= λ s. others >>= λ ns. Ok (numbered n s ∷ ns)) >>= search_of_numbered prefix root)
search-cons prefix root n (Ok s) (Ok ns) = refl
search-cons prefix root n (Ok s) (Err fault) = refl
search-cons prefix root n (Err fault) others = refl

-- the search of specs is that of their normal forms
pub search_of-numbered_first : (prefix root : List ℕ) (specs : List Spec) → search_of prefix root specs ≡ (numbered_from 0 prefix root specs >>= search_of_numbered prefix root)
unfolding search_of
search_of-numbered_first [] root [] = refl
search_of-numbered_first (b ∷ prefix) root [] = ap (λ r. r >>= λ given. Ok (in_search_order given)) (numbered_with-next (b ∷ prefix) root [] (literal_spec must_be_dir []))
search_of-numbered_first prefix root (s ∷ specs) = search-cons prefix root 0 (at_number 0 (normal_form prefix root s)) (numbered_from 1 prefix root specs)

module _ (prefix root : List ℕ) (specs : List Spec) where
  -- each spec has a normal form
  pub search-normal : (ns : List Numbered) → numbered_from 0 prefix root specs ≡ Ok ns → search_of prefix root specs ≡ search_of_numbered prefix root ns
  search-normal ns h = search_of-numbered_first prefix root specs ∙ ap (λ r. r >>= search_of_numbered prefix root) h

  -- a spec has none
  pub search-fails : (fault : ℕ × Fault) → numbered_from 0 prefix root specs ≡ Err fault → search_of prefix root specs ≡ Err fault
  search-fails fault h = search_of-numbered_first prefix root specs ∙ ap (λ r. r >>= search_of_numbered prefix root) h

  -- what is built of their normal forms is the search of the specs
  pub search-built : {A : Type 0} (r : Result A BuildError) (view : A → List Numbered) (ns : List Numbered) → numbered_from 0 prefix root specs ≡ Ok ns → Builds view (search_of_numbered prefix root ns) r → IfOk r (λ x. search_of prefix root specs ≡ Ok (view x))
  search-built (Ok x) view ns h b = search-normal ns h ∙ b
  search-built (Err e) view ns h b = tt

  -- and its fault is that of the search
  pub search-told : {A : Type 0} (r : Result A BuildError) (view : A → List Numbered) (ns : List Numbered) → numbered_from 0 prefix root specs ≡ Ok ns → Builds view (search_of_numbered prefix root ns) r → IfErr r (λ e. TellsFault e (λ fault. search_of prefix root specs ≡ Err fault))
  search-told (Ok x) view ns h b = tt
  search-told (Err e) view ns h b = tells-on e _ _ (λ fault f. search-normal ns h ∙ f) b

-- the search of normal forms is one of specs
pub search-given : (prefix root : List ℕ) (ns given search : List Numbered) (are : AreNumbered prefix root ns) → default_numbered_to_prefix prefix root ns ≡ Ok given → search ≡ in_search_order given → search_of prefix root are.0 ≡ Ok search
search-given prefix root ns given search are g s = search-normal prefix root are.0 ns are.1 ∙ (rw g (ap Ok (sym s)))

-- ---- the common prefix

-- what is read behind a reference, where there is one
pub read-or : (found : Option (Bor (List ℕ))) (other : Bor (List ℕ)) → (unwrap_or found other).now ≡ unwrap_or (option_copied found) other.now
read-or None other = refl
read-or (Some x) other = refl

-- the function
pub common_prefix-is : (specs : List Spec) → unwrap_or (reduce common_front (heads specs)) [] ≡ common_prefix specs
unfolding common_prefix
common_prefix-is specs = refl
