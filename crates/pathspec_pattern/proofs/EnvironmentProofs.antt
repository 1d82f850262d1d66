-- What was asked for, one variable after the other, and what it says.
use Rattle.std.proofs.Common.{◌≡◌, ℕ, Bool, true, false, refl, sym, ◌∙◌, ap, subst, cond, List, [], ◌∷◌, ◌++◌, Option, None, Result, Ok, Err}
use Rattle.std.specs.Prelude.{codes, IsErrAnd, ⊤}
use Rattle.pathspec_pattern.specs.declared.SearchMode.{SearchMode}
use Rattle.pathspec_pattern.specs.declared.SearchMode.TheVariants.{Literal}
use Rattle.pathspec_pattern.specs.declared.defaults.Defaults.{Defaults}
use Rattle.pathspec_pattern.specs.declared.error.Error.{Error}
use Rattle.pathspec_pattern.specs.Results.{◌>>=◌}
use Rattle.pathspec_pattern.specs.Faults.{Fault}
use Rattle.pathspec_pattern.specs.Errors.{Tells, IsAnswerOrFault}
use Rattle.pathspec_pattern.specs.Environment.{Words, flag_of, mode_of, mode_of_words, case_signature, defaults_after, defaults_of, Variable, Asker, asked_after, asked_globs, asked_variables, Asks, HasAsked, AnswersBy, words_of}

-- ---- one variable after the other

-- the questions are asked one after the other
Asks-append : {F : Type 0} (g : Asker F) (f m f' : F) (xs ys : List Variable) → Asks g f xs m → Asks g m ys f' → Asks g f (xs ++ ys) f'
Asks-append {F} g f m f' [] ys a b = subst (λ (x : F). Asks g x ys f') a b
Asks-append g f m f' (x ∷ xs) ys a b = (a.0, a.1, a.2, a.3, Asks-append g a.1 m f' xs ys a.4 b)

-- a fault of the first step is that of all
IsErrAnd-then : {A B : Type 0} (r : Result A Fault) (next : A → Result B Fault) (P : Fault → Type 0) → IsErrAnd r P → IsErrAnd (r >>= next) P
IsErrAnd-then (Ok x) next P h = absurd h
IsErrAnd-then (Err fault) next P h = h

-- the one variable with this name
abbrev pub one_variable : List ℕ → Option (List ℕ) → List Variable
one_variable name word = (name, word) ∷ []

-- nothing is asked for after a fault
after_fault : {F : Type 0} (g : Asker F) (f f' : F) (name : List ℕ) (word : Option (List ℕ)) (after : Bool → List Variable) (P : Fault → Type 0) → (r : Result Bool Fault) → IsErrAnd r P → Asks g f (one_variable name word) f'
    → Asks g f ((name, word) ∷ asked_after r after) f'
after_fault g f f' name word after P (Ok flag) h a = absurd h
after_fault g f f' name word after P (Err fault) h a = a

-- after a word of truth the others are asked for
after_truth : {F : Type 0} (g : Asker F) (f m f' : F) (name : List ℕ) (word : Option (List ℕ)) (after : Bool → List Variable) (flag : Bool) → flag_of word ≡ Ok flag → Asks g f (one_variable name word) m → Asks g m (after flag) f'
    → Asks g f ((name, word) ∷ asked_after (flag_of word) after) f'
after_truth g f m f' name word after flag said a b = subst (λ (r : Result Bool Fault). Asks g f ((name, word) ∷ asked_after r after) f') (sym said) (Asks-append g f m f' (one_variable name word) (after flag) a b)

-- ---- the mode

-- the words of globs
abbrev glob_words : Option (List ℕ) → Option (List ℕ) → Words
glob_words glob noglob = record { literal = None; icase = None; glob = glob; noglob = noglob }

-- the first word is none of truth
pub glob_fails : {F : Type 0} (g : Asker F) (f f' : F) (e : Error) → HasAsked g (one_variable (codes "GIT_GLOB_PATHSPECS")) flag_of f (Err e) f' → HasAsked g asked_globs mode_of_words f (Err e) f'
glob_fails g f f' e h = record {
  words = glob_words h.words None;
  asked = after_fault g f f' _ h.words _ (Tells e) (flag_of h.words) h.answer h.asked;
  answer = IsErrAnd-then (flag_of h.words) _ (Tells e) h.answer;
}

-- the second is
pub noglob_fails : {F : Type 0} (g : Asker F) (f m f' : F) (glob : Bool) (e : Error) → HasAsked g (one_variable (codes "GIT_GLOB_PATHSPECS")) flag_of f (Ok glob) m → HasAsked g (one_variable (codes "GIT_NOGLOB_PATHSPECS")) flag_of m (Err e) f'
    → HasAsked g asked_globs mode_of_words f (Err e) f'
noglob_fails g f m f' glob e h k =
    let said : flag_of h.words ≡ Ok glob = h.answer in
    record {
      words = glob_words h.words k.words;
      asked = after_truth g f m f' _ h.words (λ _. (codes "GIT_NOGLOB_PATHSPECS", k.words) ∷ []) glob said h.asked k.asked;
      answer = rw said (IsErrAnd-then (flag_of k.words) _ (Tells e) k.answer);
    }

-- both are words of truth
pub mode_said : {F : Type 0} (g : Asker F) (f m f' : F) (glob noglob : Bool) (result : Result SearchMode Error) → HasAsked g (one_variable (codes "GIT_GLOB_PATHSPECS")) flag_of f (Ok glob) m
    → HasAsked g (one_variable (codes "GIT_NOGLOB_PATHSPECS")) flag_of m (Ok noglob) f' → IsAnswerOrFault (mode_of glob noglob) result → HasAsked g asked_globs mode_of_words f result f'
mode_said g f m f' glob noglob result h k answer =
    let said : flag_of h.words ≡ Ok glob = h.answer in
    let other : flag_of k.words ≡ Ok noglob = k.answer in
    record {
      words = glob_words h.words k.words;
      asked = after_truth g f m f' _ h.words (λ _. (codes "GIT_NOGLOB_PATHSPECS", k.words) ∷ []) glob said h.asked k.asked;
      answer = rw (said, other) answer;
    }

-- ---- the defaults

-- the first word is none of truth
pub literal_fails : {F : Type 0} (g : Asker F) (f f' : F) (e : Error) → HasAsked g (one_variable (codes "GIT_LITERAL_PATHSPECS")) flag_of f (Err e) f' → HasAsked g asked_variables defaults_of f (Err e) f'
literal_fails g f f' e h = record {
  words = record { literal = h.words; icase = None; glob = None; noglob = None };
  asked = after_fault g f f' _ h.words _ (Tells e) (flag_of h.words) h.answer h.asked;
  answer = IsErrAnd-then (flag_of h.words) _ (Tells e) h.answer;
}

-- what is asked for where the first word says a flag
first_asked : {F : Type 0} (g : Asker F) (f m f' : F) (literal : Bool) (words : Words) → flag_of words.literal ≡ Ok literal → Asks g f (one_variable (codes "GIT_LITERAL_PATHSPECS") words.literal) m
    → Asks g m ((codes "GIT_ICASE_PATHSPECS", words.icase) ∷ asked_after (flag_of words.icase) (λ _. cond literal [] (asked_globs words))) f' → Asks g f (asked_variables words) f'
first_asked g f m f' literal words said a b =
    after_truth g f m f' _ words.literal (λ flag. (codes "GIT_ICASE_PATHSPECS", words.icase) ∷ asked_after (flag_of words.icase) (λ _. cond flag [] (asked_globs words))) literal said a b

-- the second word is none of truth
pub icase_fails : {F : Type 0} (g : Asker F) (f m f' : F) (literal : Bool) (e : Error) → HasAsked g (one_variable (codes "GIT_LITERAL_PATHSPECS")) flag_of f (Ok literal) m
    → HasAsked g (one_variable (codes "GIT_ICASE_PATHSPECS")) flag_of m (Err e) f' → HasAsked g asked_variables defaults_of f (Err e) f'
icase_fails g f m f' literal e h k =
    let said : flag_of h.words ≡ Ok literal = h.answer in
    let words : Words = record { literal = h.words; icase = k.words; glob = None; noglob = None } in
    record {
      words = words;
      asked = first_asked g f m f' literal words said h.asked (after_fault g m f' _ k.words _ (Tells e) (flag_of k.words) k.answer k.asked);
      answer = rw said (IsErrAnd-then (flag_of k.words) _ (Tells e) k.answer);
    }

-- literal specs are asked for
pub literal_said : {F : Type 0} (g : Asker F) (f m f' : F) (ignore_case : Bool) → HasAsked g (one_variable (codes "GIT_LITERAL_PATHSPECS")) flag_of f (Ok true) m → HasAsked g (one_variable (codes "GIT_ICASE_PATHSPECS")) flag_of m (Ok ignore_case) f'
    → HasAsked g asked_variables defaults_of f (Ok (record { signature = case_signature ignore_case; search_mode = Literal; literal = true })) f'
literal_said g f m f' ignore_case h k =
    let said : flag_of h.words ≡ Ok true = h.answer in
    let other : flag_of k.words ≡ Ok ignore_case = k.answer in
    let words : Words = record { literal = h.words; icase = k.words; glob = None; noglob = None } in
    record {
      words = words;
      asked = first_asked g f m f' true words said h.asked (after_truth g m f' f' _ k.words (λ _. []) ignore_case other k.asked refl);
      answer = rw (said, other) refl;
    }

-- the mode is asked for
mode_asked : {F : Type 0} (g : Asker F) (f m n f' : F) (ignore_case : Bool) (words : Words) → flag_of words.literal ≡ Ok false → flag_of words.icase ≡ Ok ignore_case → Asks g f (one_variable (codes "GIT_LITERAL_PATHSPECS") words.literal) m
    → Asks g m (one_variable (codes "GIT_ICASE_PATHSPECS") words.icase) n → Asks g n (asked_globs words) f' → Asks g f (asked_variables words) f'
mode_asked g f m n f' ignore_case words said other a b d = first_asked g f m f' false words said a (after_truth g m n f' _ words.icase (λ _. asked_globs words) ignore_case other b d)

-- and has a fault
pub mode_fails : {F : Type 0} (g : Asker F) (f m n f' : F) (ignore_case : Bool) (e : Error) → HasAsked g (one_variable (codes "GIT_LITERAL_PATHSPECS")) flag_of f (Ok false) m
    → HasAsked g (one_variable (codes "GIT_ICASE_PATHSPECS")) flag_of m (Ok ignore_case) n → HasAsked g asked_globs mode_of_words n (Err e) f' → HasAsked g asked_variables defaults_of f (Err e) f'
mode_fails g f m n f' ignore_case e h k d =
    let said : flag_of h.words ≡ Ok false = h.answer in
    let other : flag_of k.words ≡ Ok ignore_case = k.answer in
    let words : Words = record { literal = h.words; icase = k.words; glob = d.words.glob; noglob = d.words.noglob } in
    record {
      words = words;
      asked = mode_asked g f m n f' ignore_case words said other h.asked k.asked d.asked;
      answer = rw (said, other) (IsErrAnd-then (mode_of_words d.words) _ (Tells e) d.answer);
    }

-- and is there
pub all_said : {F : Type 0} (g : Asker F) (f m n f' : F) (ignore_case : Bool) (mode : SearchMode) → HasAsked g (one_variable (codes "GIT_LITERAL_PATHSPECS")) flag_of f (Ok false) m
    → HasAsked g (one_variable (codes "GIT_ICASE_PATHSPECS")) flag_of m (Ok ignore_case) n → HasAsked g asked_globs mode_of_words n (Ok mode) f'
    → HasAsked g asked_variables defaults_of f (Ok (record { signature = case_signature ignore_case; search_mode = mode; literal = false })) f'
all_said g f m n f' ignore_case mode h k d =
    let said : flag_of h.words ≡ Ok false = h.answer in
    let other : flag_of k.words ≡ Ok ignore_case = k.answer in
    let modes : mode_of_words d.words ≡ Ok mode = d.answer in
    let words : Words = record { literal = h.words; icase = k.words; glob = d.words.glob; noglob = d.words.noglob } in
    record {
      words = words;
      asked = mode_asked g f m n f' ignore_case words said other h.asked k.asked d.asked;
      answer = rw (said, other) (ap (λ x. x >>= λ m. Ok (record { signature = case_signature ignore_case; search_mode = m; literal = false })) modes);
    }

-- ---- a table

-- the variables have the words of a table
abbrev HasWords : (List ℕ → Option (List ℕ)) → List Variable → Type 0
HasWords table [] = ⊤
HasWords table (variable ∷ others) = (variable.1 ≡ table variable.0) × HasWords table others

-- what answers by a table was asked for variables with its words
HasWords-from : {F : Type 0} (g : Asker F) (table : List ℕ → Option (List ℕ)) → AnswersBy g table → (f f' : F) (variables : List Variable) → Asks g f variables f' → HasWords table variables
HasWords-from g table by f f' [] a = tt
HasWords-from g table by f f' (variable ∷ others) a = (sym a.3 ∙ by f a.1 variable.0 a.0 a.2, HasWords-from g table by a.1 f' others a.4)

-- the mode of the words is that of the table
table_mode : (table : List ℕ → Option (List ℕ)) (words : Words) → HasWords table (asked_globs words) → (r : Result Bool Fault) → flag_of words.glob ≡ r → mode_of_words words ≡ mode_of_words (words_of table)
table_mode table words h (Err fault) e =
    let k : flag_of (table (codes "GIT_GLOB_PATHSPECS")) ≡ Err fault = rw h.0 at e in
    rw (e, k) refl
table_mode table words h (Ok glob) e =
    let k : flag_of (table (codes "GIT_GLOB_PATHSPECS")) ≡ Ok glob = rw h.0 at e in
    let rest : words.noglob ≡ table (codes "GIT_NOGLOB_PATHSPECS") = (rw e at h).1.0 in
    rw (e, k, rest) refl

-- so are the defaults where the first two words were read
table_after : (table : List ℕ → Option (List ℕ)) (words : Words) (literal ignore_case : Bool) → HasWords table (cond literal [] (asked_globs words)) → defaults_after literal ignore_case words ≡ defaults_after literal ignore_case (words_of table)
table_after table words true ignore_case h = refl
table_after table words false ignore_case h = rw (table_mode table words h (flag_of words.glob) refl) refl

-- and all defaults
table_icase : (table : List ℕ → Option (List ℕ)) (words : Words) (literal : Bool) → flag_of words.literal ≡ Ok literal → flag_of (table (codes "GIT_LITERAL_PATHSPECS")) ≡ Ok literal → HasWords table (asked_variables words)
    → (r : Result Bool Fault) → flag_of words.icase ≡ r → defaults_of words ≡ defaults_of (words_of table)
table_icase table words literal first other h (Err fault) e =
    let k : flag_of (table (codes "GIT_ICASE_PATHSPECS")) ≡ Err fault = rw (rw first at h).1.0 at e in
    rw (first, other, e, k) refl
table_icase table words literal first other h (Ok ignore_case) e =
    let second = rw first at h in
    let k : flag_of (table (codes "GIT_ICASE_PATHSPECS")) ≡ Ok ignore_case = rw second.1.0 at e in
    let rest = rw e at second.1.1 in
    rw (first, other, e, k) (table_after table words literal ignore_case rest)

table_defaults : (table : List ℕ → Option (List ℕ)) (words : Words) → HasWords table (asked_variables words) → (r : Result Bool Fault) → flag_of words.literal ≡ r → defaults_of words ≡ defaults_of (words_of table)
table_defaults table words h (Err fault) e =
    let k : flag_of (table (codes "GIT_LITERAL_PATHSPECS")) ≡ Err fault = rw h.0 at e in
    rw (e, k) refl
table_defaults table words h (Ok literal) e =
    let k : flag_of (table (codes "GIT_LITERAL_PATHSPECS")) ≡ Ok literal = rw h.0 at e in
    table_icase table words literal e k h (flag_of words.icase) refl

-- What answers by a table gets the defaults of its words.
pub table_said : {F : Type 0} (g : Asker F) (f f' : F) (result : Result Defaults Error) → HasAsked g asked_variables defaults_of f result f' → (table : List ℕ → Option (List ℕ)) → AnswersBy g table → IsAnswerOrFault (defaults_of (words_of table)) result
table_said g f f' result h table by =
    subst (λ (said : Result Defaults Fault). IsAnswerOrFault said result) (table_defaults table h.words (HasWords-from g table by f f' (asked_variables h.words) h.asked) (flag_of h.words.literal) refl) h.answer
