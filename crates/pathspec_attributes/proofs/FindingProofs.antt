-- The rules that fit are found in the order in which they count.
use Rattle.std.proofs.Common.{◌≡◌, ◌∙◌, refl, sym, ap, subst, ℕ, suc, ◌+◌, ◌<◌, Bool, true, false, List, [], ◌∷◌, ◌++◌, length, map, take, drop, get_or, reverse, append_assoc, drop-cons}
use Rattle.std.proofs.lemmas.List.{append-nil, take_more, take-append-drop}
use Rattle.std.proofs.lemmas.List.Folds.{flat_map-map}
use Rattle.std.specs.List.{flat_map}
use Rattle.std.specs.Prelude.{Option}
use Rattle.pathspec_attributes.specs.Files.{Files, macros_of}
use Rattle.pathspec_glob.specs.declared.Case.{Case}
use Rattle.pathspec_attributes.specs.declared.file.File.{File}
use Rattle.pathspec_attributes.specs.declared.file.RuleLine.{RuleLine}
use Rattle.pathspec_attributes.specs.Deciding.{Macro, knows}
use Rattle.pathspec_attributes.specs.Rules.{Rule}
use Rattle.pathspec_attributes.specs.Sayings.{FilePlace, FirstDecides, IsDecider, RuleAt, Saying, sayings, all_said, decided_in, numbered, saying_of, sayings_of_file}
use Rattle.pathspec_attributes.specs.Views.{file_view, line_in, rule_in}
use Rattle.pathspec_attributes.proofs.SayingProofs.{map-reverse, said-append}

-- a rule with its number
abbrev pub pair : RuleLine → ℕ × Rule
pair own = (own.line, own.rule)

paired : (rules : List RuleLine) → numbered (map line_in rules) (map rule_in rules) ≡ map pair rules
paired [] = refl
paired (own ∷ rules) = ap (λ xs. pair own ∷ xs) (paired rules)

module _ (case : Case) (path : List ℕ) (is_dir : Bool) (place : FilePlace) where
  -- what a rule of a file says
  abbrev pub line_says : RuleLine → List Saying
  line_says own = saying_of case path is_dir place (pair own)

  pub by-lines : (file : File) → sayings_of_file case path is_dir place (file_view file) ≡ flat_map line_says (reverse file.rules.items)
  by-lines file =
      ap (λ xs. flat_map (saying_of case path is_dir place) (reverse xs)) (paired file.rules.items)
      ∙ (ap (flat_map (saying_of case path is_dir place)) (sym (map-reverse pair file.rules.items))
      ∙ flat_map-map (saying_of case path is_dir place) pair (reverse file.rules.items))

-- what was found, where nothing is left
module _ {X : Type 0} (old now more whole : List X) where
  pub found-all : old ++ whole ≡ now ++ more → more ≡ [] → now ≡ old ++ whole
  found-all h none = sym (h ∙ (ap (λ xs. now ++ xs) none ∙ append-nil now))

-- ---- the rule that decides

module _ (all : List Saying) (i : ℕ) (s : Saying) (below : i < length all) (is : s ≡ get_or all i s) where
  one-more : take (i + 1) all ≡ take i all ++ s ∷ []
  one-more = take_more all i s below ∙ ap (λ x. take i all ++ x ∷ []) (sym is)

  pub said-more : all_said (take (i + 1) all) ≡ all_said (take i all) ++ s.said
  said-more = ap all_said one-more ∙ (said-append (take i all) (s ∷ []) ∙ ap (λ xs. all_said (take i all) ++ xs) (append-nil s.said))

  -- it is the first after which a name is decided
  pub first-at : (macros : List Macro) (name : List ℕ) → knows (decided_in macros (take i all)) name ≡ false → knows (decided_in macros (take (i + 1) all)) name ≡ true → FirstDecides macros all name s.at
  first-at macros name unknown known = record {
    before = take i all;
    said = s.said;
    behind = drop (suc i) all;
    among = sym (take-append-drop i all) ∙ ap (λ xs. take i all ++ xs) (drop-cons all i s below ∙ ap (λ x. x ∷ drop (suc i) all) (sym is));
    undecided = unknown;
    decided = subst (λ (xs : List Saying). knows (decided_in macros xs) name ≡ true) one-more known;
  }

-- ---- one file after another

pub in-order : {X : Type 0} (f0 f1 f2 f3 info middle between global : List X) → f0 ≡ [] → f1 ≡ f0 ++ info → f2 ≡ f1 ++ middle → f3 ≡ f2 ++ global → middle ≡ between → f3 ≡ info ++ (between ++ global)
in-order f0 f1 f2 f3 info middle between global e0 e1 e2 e3 m =
    e3 ∙ (ap (λ xs. xs ++ global) (e2 ∙ (ap (λ xs. xs ++ middle) (e1 ∙ ap (λ xs. xs ++ info) e0) ∙ ap (λ xs. info ++ xs) m)) ∙ append_assoc info between global)

-- the same where the files, the path and its kind are equal
pub same-decider : (fs gs : Files) (p q : List ℕ) (x y : Bool) (name : List ℕ) (at : Option RuleAt) → fs ≡ gs → p ≡ q → x ≡ y → IsDecider (macros_of fs) (sayings fs p x) name at → IsDecider (macros_of gs) (sayings gs q y) name at
same-decider fs gs p q x y name at e h k d =
    subst (λ (z : Bool). IsDecider (macros_of gs) (sayings gs q z) name at) k
    (subst (λ (r : List ℕ). IsDecider (macros_of gs) (sayings gs r x) name at) h
    (subst (λ (f : Files). IsDecider (macros_of f) (sayings f p x) name at) e d))
