-- What the environment says where a closure is asked for its words.
use Rattle.std.proofs.Common.{◌≡◌, ◌∙◌, refl, sym, ap, subst, if◌then◌else◌, ℕ, Bool, true, false, List, [], ◌∷◌, Option, Some, None, IsErrAnd, IsTrue, MatchOption, Ok, Err, Result}
use Rattle.std.specs.Prelude.{codes}
use Rattle.std.specs.Option.{option_copied}
use Rattle.std.specs.Borrow.{Bor}
use Rattle.std.specs.Fn.{CalledAt}
use Rattle.gix_pathspec.specs.Faults.{Fault}
use Rattle.gix_pathspec.specs.Errors.{fault_of, carries_text, Tells}
use Rattle.pathspec_pattern.specs.declared.error.Error.{Error}
use Rattle.pathspec_pattern.specs.declared.defaults.Defaults.{Defaults}
use Rattle.pathspec_pattern.specs.Environment.{Words, flag_of, Variable, Asker, Asks, asked_after, asked_globs, asked_variables}
use Rattle.pathspec_select.specs.declared.refusal.Refusal.{Refusal}
use Rattle.pathspec_select.specs.declared.refusal.Refusal.TheVariants as refusal
use Rattle.pathspec_select.specs.Refusals.{TellsRequestFault, RefusesEnvironment}
use Rattle.pathspec_select.specs.Environment.{word_of}
use Rattle.pathspec_select.specs.Requests.{environment_result}

-- the variables have the environment's words
abbrev AreWordsOf : Words → List Variable → Type 0
AreWordsOf environment [] = Unit {0}
AreWordsOf environment (variable ∷ others) = (variable.1 ≡ word_of environment variable.0) × AreWordsOf environment others

-- a closure that answers with the environment's words, and stays as it is, has them asked of it
asked_words : {F : Type 0} (environment : Words) (g : Asker F) (f : F) → ((name : List ℕ) (word : Option (Bor (List ℕ))) (f' : F) → CalledAt g f name word f' → (f' ≡ f) × (option_copied word ≡ word_of environment name))
    → (variables : List Variable) (last : F) → Asks g f variables last → AreWordsOf environment variables
asked_words environment g f answers [] last h = tt
asked_words {F} environment g f answers (variable ∷ others) last h =
    let told = answers variable.0 h.0 h.1 h.2 in
    (sym h.3 ∙ told.1, asked_words environment g f answers others last (subst (λ (x : F). Asks g x others last) told.0 h.4))

-- what is asked for after a word is the same, if it is after the same flag
same_after : (environment : Words) (flag : Result Bool Fault) (after others : Bool → List Variable) → ((b : Bool) → AreWordsOf environment (after b) → after b ≡ others b) → AreWordsOf environment (asked_after flag after) → asked_after flag after ≡ asked_after flag others
same_after environment (Err fault) after others same h = refl
same_after environment (Ok b) after others same h = same b h

-- a variable and what is asked for after it
same_word : (environment : Words) (name : List ℕ) {word other : Option (List ℕ)} (after others : Bool → List Variable) → word ≡ other → ((b : Bool) → AreWordsOf environment (after b) → after b ≡ others b) → AreWordsOf environment (asked_after (flag_of word) after)
    → (name, word) ∷ asked_after (flag_of word) after ≡ (name, other) ∷ asked_after (flag_of other) others
same_word environment name {word} after others e same h = rw (← e) (ap (λ rest. (name, word) ∷ rest) (same_after environment (flag_of word) after others same h))

module _ (environment words : Words) where
  globs : AreWordsOf environment (asked_globs words) → asked_globs words ≡ asked_globs environment
  globs h = same_word environment _ _ _ h.0 (λ b k. ap (λ word. (codes "GIT_NOGLOB_PATHSPECS", word) ∷ []) k.0) h.1

  after_icase : (literal : Bool) → AreWordsOf environment (if literal then [] else asked_globs words) → (if literal then [] else asked_globs words) ≡ (if literal then [] else asked_globs environment)
  after_icase true h = refl
  after_icase false h = globs h

  same_variables : AreWordsOf environment (asked_variables words) → asked_variables words ≡ asked_variables environment
  same_variables h = same_word environment _ _ _ h.0 (λ literal k. same_word environment _ _ _ k.0 (λ b. after_icase literal) k.1) h.1

-- such a closure is asked for the environment's variables
pub asks_environment : {F : Type 0} (environment words : Words) (g : Asker F) (f last : F) → ((name : List ℕ) (word : Option (Bor (List ℕ))) (f' : F) → CalledAt g f name word f' → (f' ≡ f) × (option_copied word ≡ word_of environment name))
    → Asks g f (asked_variables words) last → asked_variables words ≡ asked_variables environment
asks_environment environment words g f last answers h = same_variables environment words (asked_words environment g f answers (asked_variables words) last h)

-- the refusal for an error of the environment tells its fault
pub tells-environment : (e : Error) (r : Refusal) (said own : Result Defaults Fault) → said ≡ own → IsErrAnd said (Tells e) → RefusesEnvironment e r → TellsRequestFault r (λ fault. environment_result own ≡ Err fault)
tells-environment e r (Ok defaults) own same h m = absurd h
tells-environment e r (Err fault) own same h m = by_fault (fault_of e) refl h m
  where
    by_fault : (o : Option Fault) → fault_of e ≡ o → MatchOption o (IsTrue (carries_text fault)) (λ told_fault. told_fault ≡ fault) → MatchOption o (r ≡ refusal.Memory) (λ fault. r ≡ refusal.Environment e) → TellsRequestFault r (λ fault. environment_result own ≡ Err fault)
    by_fault None q h m = rw m tt
    by_fault (Some f) q h m = rw m (f, q, rw (← same, h) refl)
