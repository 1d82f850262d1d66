-- What a text says, by the tests that its reader makes.
use Rattle.std.proofs.Common.{◌≡◌, ◌≢◌, ℕ, true, false, refl, sym, ◌∙◌, ap, List, [], ◌∷◌, length, arith, ◌==◌, Some, None, Option, Ok, Err, Result, IfOk, IfErr, IfSome, MatchResult}
use Rattle.std.proofs.lemmas.Bool.{eqb-true}
use Rattle.std.proofs.lemmas.Option.{IfSome_then}
use Rattle.std.specs.Prelude.{bytes_eq}
use Rattle.pathspec_parts.specs.Bytes.{colon, first_is}
use Rattle.pathspec_pattern.specs.declared.defaults.Defaults.{Defaults}
use Rattle.pathspec_pattern.specs.declared.pattern.Pattern.{Pattern}
use Rattle.pathspec_pattern.specs.declared.error.Error.{Error}
use Rattle.pathspec_pattern.specs.Faults.{Fault}
use Rattle.pathspec_pattern.specs.Faults.Fault.{Empty}
use Rattle.pathspec_pattern.specs.Errors.{fault_of, IsMemory, IsMemoryOr}
use Rattle.pathspec_pattern.specs.Signatures.{signature_bits}
use Rattle.pathspec_pattern.specs.Specs.{Spec}
use Rattle.pathspec_pattern.specs.Patterns.{pattern_spec}
use Rattle.pathspec_pattern.specs.Reading.{reading, magic_reading, Reads, IsRefused, spec_of, nil_spec, literal_spec, no_magic, is_colon}
use Rattle.pathspec_pattern.proofs.ReadingProofs.{reading_is_exact, reading_at, plain_alone}

-- ---- errors

-- memory ran out, whatever is said of faults
pub memory-or_any : (e : Error) (P : Fault → Type 0) → IsMemory e → IsMemoryOr e P
memory-or_any e P m = IfSome_then (fault_of e) m (λ fault none. absurd none)

-- a reader that gives the spec of a reading, or wants memory
pub exact-from : (d : Defaults) (text : List ℕ) (s : Spec) (r : Result Pattern Error) → reading d text ≡ Ok s → IfOk r (λ p. pattern_spec p ≡ s) → IfErr r IsMemory
    → MatchResult r (λ p. reading d text ≡ Ok (pattern_spec p)) (λ e. IsMemoryOr e (λ fault. reading d text ≡ Err fault))
exact-from d text s (Ok p) h ok err = h ∙ ap Ok (sym ok)
exact-from d text s (Err e) h ok err = memory-or_any e (λ fault. reading d text ≡ Err fault) err

-- the relation, from the function
pub reads-from : (d : Defaults) (text : List ℕ) (r : Result Pattern Error) → MatchResult r (λ p. reading d text ≡ Ok (pattern_spec p)) (λ e. IsMemoryOr e (λ fault. reading d text ≡ Err fault)) → IfOk r (λ p. Reads d text (pattern_spec p))
reads-from d text (Ok p) h = ((reading_is_exact d text).0 (pattern_spec p)).1 h
reads-from d text (Err e) h = tt

refused_by : (d : Defaults) (text : List ℕ) (o : Option Fault) → IfSome o (λ fault. reading d text ≡ Err fault) → IfSome o (IsRefused d text)
refused_by d text None h = tt
refused_by d text (Some fault) h = ((reading_is_exact d text).1 fault).1 h

pub refused-from : (d : Defaults) (text : List ℕ) (r : Result Pattern Error) → MatchResult r (λ p. reading d text ≡ Ok (pattern_spec p)) (λ e. IsMemoryOr e (λ fault. reading d text ≡ Err fault)) → IfErr r (λ e. IsMemoryOr e (λ fault. IsRefused d text fault))
refused-from d text (Ok p) h = tt
refused-from d text (Err e) h = refused_by d text (fault_of e) h

-- ---- the tests

pub nothing_there : (text : List ℕ) → (length text == 0) ≡ true → text ≡ []
nothing_there [] h = refl
nothing_there (b ∷ bs) h = let e : length (b ∷ bs) ≡ 0 = eqb-true (length (b ∷ bs)) 0 h in absurd (omega (arith, e))

pub something_there : (text : List ℕ) → (length text == 0) ≡ false → text ≢ []
something_there text h e = let no : (length text == 0) ≡ true = rw e refl in let clash : ⊥ = cc in clash

pub reading-empty : (d : Defaults) (text : List ℕ) → (length text == 0) ≡ true → reading d text ≡ Err Empty
unfolding reading
reading-empty d text h = rw (nothing_there text h) refl

module _ (d : Defaults) (text : List ℕ) (filled : (length text == 0) ≡ false) where
  pub reading-literal : d.literal ≡ true → reading d text ≡ Ok (literal_spec (signature_bits d.signature) text)
  reading-literal l = reading_at d text true (bytes_eq text (colon ∷ [])) (first_is is_colon text) (something_there text filled) l refl refl

  pub reading-plain : d.literal ≡ false → first_is is_colon text ≡ false → reading d text ≡ spec_of d no_magic text
  reading-plain l p = reading_at d text false false false (something_there text filled) l (plain_alone text p) p

  pub reading-nil : d.literal ≡ false → bytes_eq text (colon ∷ []) ≡ true → first_is is_colon text ≡ true → reading d text ≡ Ok nil_spec
  reading-nil l a p = reading_at d text false true true (something_there text filled) l a p

  reading-magic : d.literal ≡ false → bytes_eq text (colon ∷ []) ≡ false → first_is is_colon text ≡ true → reading d text ≡ magic_reading d text
  reading-magic l a p = reading_at d text false false true (something_there text filled) l a p

  pub exact-from_magic : (r : Result Pattern Error) → d.literal ≡ false → bytes_eq text (colon ∷ []) ≡ false → first_is is_colon text ≡ true
      → MatchResult r (λ p. magic_reading d text ≡ Ok (pattern_spec p)) (λ e. IsMemoryOr e (λ fault. magic_reading d text ≡ Err fault)) → MatchResult r (λ p. reading d text ≡ Ok (pattern_spec p)) (λ e. IsMemoryOr e (λ fault. reading d text ≡ Err fault))
  exact-from_magic r l a p h = rw (reading-magic l a p) h
