-- Which variables are asked for, one after the other.
use Rattle.std.proofs.Common.{◌≡◌, ℕ, Bool, true, false, not, refl, inl, inr, if◌then◌else◌, List, [], ◌∷◌, Option, Some, None, Ok, Err, MatchOption, Result}
use Rattle.std.specs.Prelude.{codes, is_some}
use Rattle.pathspec_parts.specs.Truth.{truth_of}
use Rattle.gix_pathspec.specs.Faults.{Fault}
use Rattle.gix_pathspec.specs.Faults.Fault.{NotTruth}
use Rattle.pathspec_pattern.specs.Environment.{Words, truth_or_fault, flag_of, Variable, asked_after, asked_globs, asked_variables}
use Rattle.pathspec_select.specs.declared.refusal.Refusal.{Refusal}
use Rattle.pathspec_select.specs.Variables.{VariableAsker, IsNoTruth, HasTold, HasToldAll, HasRefused, HasRefusedOne}

-- ---- what a word says

by_truth : (word : List ℕ) (found : Option Bool) → MatchOption found (IsNoTruth (truth_or_fault word found)) (λ flag. truth_or_fault word found ≡ Ok flag)
by_truth word None = (NotTruth word, refl)
by_truth word (Some flag) = refl

-- a word says what was found of its bytes
pub says-found : (word bytes : List ℕ) (found : Option Bool) → bytes ≡ word → found ≡ truth_of bytes → MatchOption found (IsNoTruth (flag_of (Some word))) (λ flag. flag_of (Some word) ≡ Ok flag)
says-found word bytes found same told = rw (told, same) (by_truth word (truth_of word))

-- where something was found, it is a flag
pub flag-found : (found : Option Bool) (none : Bool) (P : Type 0) (Q : Bool → Type 0) → is_some found ≡ not none → none ≡ false → MatchOption found P Q → (flag : Bool) × Q flag
flag-found None true P Q e f h = cc
flag-found None false P Q e f h = cc
flag-found (Some flag) none P Q e f h = (flag, h)

-- where nothing was found, there is none
pub flag-none : (found : Option Bool) (none : Bool) (P : Type 0) (Q : Bool → Type 0) → is_some found ≡ not none → none ≡ true → MatchOption found P Q → P
flag-none None none P Q e f h = h
flag-none (Some flag) true P Q e f h = cc
flag-none (Some flag) false P Q e f h = cc

-- ---- one variable after the other

module _ {F : Type 0} (g : VariableAsker F) (f m f' : F) (name : List ℕ) (word : Option (List ℕ)) (after : Bool → List Variable) (flag : Bool) where
  -- after a word of truth the others are asked for
  told-on : HasTold g f name (Ok word) m → flag_of word ≡ Ok flag → HasToldAll g m (after flag) f' → HasToldAll g f ((name, word) ∷ asked_after (flag_of word) after) f'
  told-on told said others = (m, told, rw said others)

  -- one of which may be refused
  refused-on : (refused : Refusal) → HasTold g f name (Ok word) m → flag_of word ≡ Ok flag → HasRefused g m (after flag) f' refused → HasRefused g f ((name, word) ∷ asked_after (flag_of word) after) f' refused
  refused-on refused told said others = inr (m, told, rw said others)

-- after a word that is none no more are
told-off : {F : Type 0} (g : VariableAsker F) (f f' : F) (name : List ℕ) (word : Option (List ℕ)) (after : Bool → List Variable) → HasTold g f name (Ok word) f' → IsNoTruth (flag_of word) → HasToldAll g f ((name, word) ∷ asked_after (flag_of word) after) f'
told-off g f f' name word after told fault = (f', told, rw fault.1 refl)

-- nor where there are no others
told-last : {F : Type 0} (g : VariableAsker F) (f : F) (said : Result Bool Fault) → HasToldAll g f (asked_after said (λ flag. [])) f
told-last g f (Ok flag) = refl
told-last g f (Err fault) = refl

-- what is asked for after the first word, after the second and after the third
abbrev after_icase : Words → Bool → Bool → List Variable
after_icase words literal flag = if literal then [] else asked_globs words

abbrev after_literal : Words → Bool → List Variable
after_literal words literal = (codes "GIT_ICASE_PATHSPECS", words.icase) ∷ asked_after (flag_of words.icase) (after_icase words literal)

abbrev after_glob : Words → Bool → List Variable
after_glob words flag = (codes "GIT_NOGLOB_PATHSPECS", words.noglob) ∷ []

-- the first variable is refused
pub literal_refused : {F : Type 0} (g : VariableAsker F) (f f' : F) (r : Refusal) → HasTold g f (codes "GIT_LITERAL_PATHSPECS") (Err r) f' → HasRefusedOne g f f' r
literal_refused g f f' r refused = (record { literal = None; icase = None; glob = None; noglob = None }, inl refused)

-- the second is
pub icase_refused : {F : Type 0} (g : VariableAsker F) (f m f' : F) (literal : Option (List ℕ)) (flag : Bool) → HasTold g f (codes "GIT_LITERAL_PATHSPECS") (Ok literal) m → flag_of literal ≡ Ok flag → (r : Refusal)
    → HasTold g m (codes "GIT_ICASE_PATHSPECS") (Err r) f' → HasRefusedOne g f f' r
icase_refused g f m f' literal flag told said r refused =
    let words : Words = record { literal = literal; icase = None; glob = None; noglob = None } in
    (words, refused-on g f m f' (codes "GIT_LITERAL_PATHSPECS") literal (after_literal words) flag r told said (inl refused))

-- the first word is none of truth
pub literal_ends : {F : Type 0} (g : VariableAsker F) (f f' : F) (literal : Option (List ℕ)) → HasTold g f (codes "GIT_LITERAL_PATHSPECS") (Ok literal) f' → IsNoTruth (flag_of literal)
    → HasToldAll g f (asked_variables (record { literal = literal; icase = None; glob = None; noglob = None })) f'
literal_ends g f f' literal told fault =
    let words : Words = record { literal = literal; icase = None; glob = None; noglob = None } in
    told-off g f f' (codes "GIT_LITERAL_PATHSPECS") literal (after_literal words) told fault

module _ {F : Type 0} (g : VariableAsker F) (f m f' : F) (literal icase : Option (List ℕ)) (flag : Bool) (told : HasTold g f (codes "GIT_LITERAL_PATHSPECS") (Ok literal) m) (said : flag_of literal ≡ Ok flag)
    (told_icase : HasTold g m (codes "GIT_ICASE_PATHSPECS") (Ok icase) f') where
  -- the first word says true
  pub icase_is_last : flag ≡ true → HasToldAll g f (asked_variables (record { literal = literal; icase = icase; glob = None; noglob = None })) f'
  icase_is_last on =
      let words : Words = record { literal = literal; icase = icase; glob = None; noglob = None } in
      told-on g f m f' (codes "GIT_LITERAL_PATHSPECS") literal (after_literal words) flag told said (f', told_icase, rw on (told-last g f' (flag_of icase)))

  -- the second is none of truth
  pub icase_ends : IsNoTruth (flag_of icase) → HasToldAll g f (asked_variables (record { literal = literal; icase = icase; glob = None; noglob = None })) f'
  icase_ends fault =
      let words : Words = record { literal = literal; icase = icase; glob = None; noglob = None } in
      told-on g f m f' (codes "GIT_LITERAL_PATHSPECS") literal (after_literal words) flag told said
      (told-off g m f' (codes "GIT_ICASE_PATHSPECS") icase (after_icase words flag) told_icase fault)

module _ {F : Type 0} (g : VariableAsker F) (f m n f' : F) (literal icase : Option (List ℕ)) (flag : Bool) (told : HasTold g f (codes "GIT_LITERAL_PATHSPECS") (Ok literal) m) (said : flag_of literal ≡ Ok false)
    (told_icase : HasTold g m (codes "GIT_ICASE_PATHSPECS") (Ok icase) n) (said_icase : flag_of icase ≡ Ok flag) where
  -- the variables of globs are asked for, and one is refused
  globs_refused : (glob noglob : Option (List ℕ)) (r : Refusal) → HasRefused g n (asked_globs (record { literal = literal; icase = icase; glob = glob; noglob = noglob })) f' r → HasRefusedOne g f f' r
  globs_refused glob noglob r refused =
      let words : Words = record { literal = literal; icase = icase; glob = glob; noglob = noglob } in
      (words, refused-on g f m f' (codes "GIT_LITERAL_PATHSPECS") literal (after_literal words) false r told said (refused-on g m n f' (codes "GIT_ICASE_PATHSPECS") icase (after_icase words false) flag r told_icase said_icase refused))

  -- the third is
  pub glob_refused : (r : Refusal) → HasTold g n (codes "GIT_GLOB_PATHSPECS") (Err r) f' → HasRefusedOne g f f' r
  glob_refused r refused = globs_refused None None r (inl refused)

  -- the third word is none of truth
  pub glob_ends : (glob : Option (List ℕ)) → HasTold g n (codes "GIT_GLOB_PATHSPECS") (Ok glob) f' → IsNoTruth (flag_of glob)
      → HasToldAll g f (asked_variables (record { literal = literal; icase = icase; glob = glob; noglob = None })) f'
  glob_ends glob told_glob fault =
      let words : Words = record { literal = literal; icase = icase; glob = glob; noglob = None } in
      told-on g f m f' (codes "GIT_LITERAL_PATHSPECS") literal (after_literal words) false told said
      (told-on g m n f' (codes "GIT_ICASE_PATHSPECS") icase (after_icase words false) flag told_icase said_icase
      (told-off g n f' (codes "GIT_GLOB_PATHSPECS") glob (after_glob words) told_glob fault))

  module _ (o : F) (glob : Option (List ℕ)) (flag_glob : Bool) (told_glob : HasTold g n (codes "GIT_GLOB_PATHSPECS") (Ok glob) o) (said_glob : flag_of glob ≡ Ok flag_glob) where
    -- the last is
    pub noglob_refused : (r : Refusal) → HasTold g o (codes "GIT_NOGLOB_PATHSPECS") (Err r) f' → HasRefusedOne g f f' r
    noglob_refused r refused =
        let words : Words = record { literal = literal; icase = icase; glob = glob; noglob = None } in
        globs_refused glob None r (refused-on g n o f' (codes "GIT_GLOB_PATHSPECS") glob (after_glob words) flag_glob r told_glob said_glob (inl refused))

    -- all are told
    pub all_told : (noglob : Option (List ℕ)) → HasTold g o (codes "GIT_NOGLOB_PATHSPECS") (Ok noglob) f' → HasToldAll g f (asked_variables (record { literal = literal; icase = icase; glob = glob; noglob = noglob })) f'
    all_told noglob told_noglob =
        let words : Words = record { literal = literal; icase = icase; glob = glob; noglob = noglob } in
        told-on g f m f' (codes "GIT_LITERAL_PATHSPECS") literal (after_literal words) false told said
        (told-on g m n f' (codes "GIT_ICASE_PATHSPECS") icase (after_icase words false) flag told_icase said_icase
        (told-on g n o f' (codes "GIT_GLOB_PATHSPECS") glob (after_glob words) flag_glob told_glob said_glob (f', told_noglob, refl)))
