-- The entries that a record adds to a tree, by one name after the other.
use Rattle.std.proofs.Common.{◌≡◌, ℕ, ◌+◌, ◌-◌, suc, Bool, true, false, not, ◌||◌, cond, refl, sym, ◌∙◌, ap, subst, inl, inr, List, [], ◌∷◌, ◌++◌, length, drop, map, fold, replicate, ◌==◌, arith, append_assoc, Option, None, Result, Ok, Err}
use Rattle.std.proofs.lemmas.Bool.{cases_Bool, both_ways, eqb-true, eq-eqb, or_right, or_parts, not-true, not-false}
use Rattle.std.proofs.lemmas.List.{take-append-drop, drop_all, nil_from_length}
use Rattle.std.proofs.lemmas.List.Folds.{list_any-append}
use Rattle.std.proofs.lemmas.Slice.Eq.{bytes_eq-Decides}
use Rattle.std.specs.Prelude.{◌≢◌, bytes_eq}
use Rattle.std.specs.List.{before_first, after_first}
use Rattle.pathspec_select.specs.declared.listing.entries.RecordError.{RecordError}
use Rattle.pathspec_select.specs.declared.listing.entries.RecordError.TheVariants.{EmptyName, Memory}
use Rattle.pathspec_parts.specs.Bytes.{slash, is_empty}
use Rattle.pathspec_parts.specs.Entries.Call.{Open, Close}
use Rattle.pathspec_parts.specs.Trees.{TreeContents, tree_after}
use Rattle.pathspec_parts.specs.Records.{record_names, parent_names, own_names, shared_depth, implied_names, directory_calls, directory_names, has_empty_name}
use Rattle.pathspec_select.specs.ListingAnswers.{AnswersNames, RefusesNames}
use Rattle.pathspec_parts.proofs.RecordProofs.{records-first}
use Rattle.pathspec_select.proofs.SharedProofs.{unshared}

is_empty-some : (name : List ℕ) → name ≢ [] → is_empty name ≡ false
is_empty-some [] h = absurd (h refl)
is_empty-some (b ∷ bs) h = refl

-- ---- closing

pub close_one : (t t0 u : TreeContents) (path rest first after : List ℕ) → (length rest == 0) ≡ false → first ≡ before_first (λ b. b == slash) rest → after ≡ after_first (λ b. b == slash) rest → u ≡ tree_after t Close
    → fold tree_after t (replicate (length (directory_names rest)) Close) ≡ fold tree_after t0 (replicate (length (directory_names path)) Close)
    → fold tree_after u (replicate (length (directory_names after)) Close) ≡ fold tree_after t0 (replicate (length (directory_names path)) Close)
close_one t t0 u path rest first after some f a e h =
    let names = records-first slash rest first after some f a in
    ap (λ (x : TreeContents). fold tree_after x (replicate (length (directory_names after)) Close)) e ∙ (sym (ap (λ (ns : List (List ℕ)). fold tree_after t (replicate (length ns) Close)) names) ∙ h)

-- a name by the test whether it has bytes
pub some_name : (name : List ℕ) → (length name == 0) ≡ false → name ≢ []
some_name name f e = let t : length name ≡ 0 = ap length e in both_ways (length name == 0) f (eq-eqb (length name) 0 t)

pub no_name : (name : List ℕ) → (length name == 0) ≡ true → name ≡ []
no_name name h = nil_from_length name (eqb-true (length name) 0 h)

-- ---- opening the first of some names

module _ (names : List (List ℕ)) (name : List ℕ) (more : List (List ℕ)) (first : names ≡ name ∷ more) where
  pub open_one : (t u all : TreeContents) → u ≡ tree_after t (Open name) → fold tree_after t (map Open names) ≡ all → fold tree_after u (map Open more) ≡ all
  open_one t u all e h = ap (λ (x : TreeContents). fold tree_after x (map Open more)) e ∙ (sym (ap (λ (ns : List (List ℕ)). fold tree_after t (map Open ns)) first) ∙ h)

  pub mark_one : (marks new all : List (Option (List ℕ))) → new ≡ marks ++ None ∷ [] → marks ++ replicate (length names) None ≡ all → new ++ replicate (length more) None ≡ all
  mark_one marks new all e h =
      ap (λ t. t ++ replicate (length more) None) e ∙ (append_assoc marks (None ∷ []) (replicate (length more) None) ∙ (sym (ap (λ (ns : List (List ℕ)). marks ++ replicate (length ns) None) first) ∙ h))

  pub named_one : (b : Bool) → name ≢ [] → has_empty_name names ≡ b → has_empty_name more ≡ b
  named_one b n h = sym (ap (λ t. t || has_empty_name more) (is_empty-some name n)) ∙ (sym (ap has_empty_name first) ∙ h)

  pub refused_one : (b : Bool) → name ≡ [] → has_empty_name names ≡ b → b ≡ true
  refused_one b n h = sym h ∙ (ap has_empty_name first ∙ ap (λ x. is_empty x || has_empty_name more) n)

-- ---- names that are shared

pub shared_one : (left missing name left_after wanted_name missing_after : List ℕ) (all : List (List ℕ) × List (List ℕ)) → (length left == 0) ≡ false → (length missing == 0) ≡ false
    → name ≡ before_first (λ b. b == slash) left → left_after ≡ after_first (λ b. b == slash) left → wanted_name ≡ before_first (λ b. b == slash) missing → missing_after ≡ after_first (λ b. b == slash) missing
    → not (bytes_eq name wanted_name) ≡ false → unshared (directory_names left) (directory_names missing) ≡ all → unshared (directory_names left_after) (directory_names missing_after) ≡ all
shared_one left missing name left_after wanted_name missing_after all some more f a g b same h =
    let names = records-first slash left name left_after some f a in
    let wanted = records-first slash missing wanted_name missing_after more g b in
    let xs = directory_names left_after in
    let ys = directory_names missing_after in
    sym (ap (λ (ns : List (List ℕ)). unshared ns (directory_names missing)) names ∙ (ap (unshared (name ∷ xs)) wanted ∙ ap (λ t. cond t (unshared xs ys) (name ∷ xs, wanted_name ∷ ys)) (not-false (bytes_eq name wanted_name) same))) ∙ h

unshared-none : (names : List (List ℕ)) → unshared names [] ≡ (names, [])
unshared-none [] = refl
unshared-none (x ∷ xs) = refl

pub unshared-no_left : (left missing : List ℕ) → (length left == 0) ≡ true → unshared (directory_names left) (directory_names missing) ≡ (directory_names left, directory_names missing)
unshared-no_left left missing h = let P : List ℕ → Type 0 = λ t. unshared (directory_names t) (directory_names missing) ≡ (directory_names t, directory_names missing) in subst P (sym (no_name left h)) refl

pub unshared-no_missing : (left missing : List ℕ) → (length missing == 0) ≡ true → unshared (directory_names left) (directory_names missing) ≡ (directory_names left, directory_names missing)
unshared-no_missing left missing h = let P : List ℕ → Type 0 = λ t. unshared (directory_names left) (directory_names t) ≡ (directory_names left, directory_names t) in subst P (sym (no_name missing h)) (unshared-none (directory_names left))

pub unshared-other : (left missing name left_after wanted_name missing_after : List ℕ) → (length left == 0) ≡ false → (length missing == 0) ≡ false
    → name ≡ before_first (λ b. b == slash) left → left_after ≡ after_first (λ b. b == slash) left → wanted_name ≡ before_first (λ b. b == slash) missing → missing_after ≡ after_first (λ b. b == slash) missing
    → not (bytes_eq name wanted_name) ≡ true → unshared (directory_names left) (directory_names missing) ≡ (directory_names left, directory_names missing)
unshared-other left missing name left_after wanted_name missing_after some more f a g b other =
    let names = records-first slash left name left_after some f a in
    let wanted = records-first slash missing wanted_name missing_after more g b in
    let xs = directory_names left_after in
    let ys = directory_names missing_after in
    let P : List (List ℕ) → List (List ℕ) → Type 0 = λ ns ws. unshared ns ws ≡ (ns, ws) in
    subst (λ (ns : List (List ℕ)). P ns (directory_names missing)) (sym names) (subst (P (name ∷ xs)) (sym wanted)
    (ap (λ t. cond t (unshared xs ys) (name ∷ xs, wanted_name ∷ ys)) (not-true (bytes_eq name wanted_name) other)))

-- ---- another directory

implied-same : (names : List (List ℕ)) → (shared_depth names names ≡ length names) × (implied_names names names ≡ [])
implied-same [] = (refl, refl)
implied-same (x ∷ xs) =
    let r = implied-same xs in
    let t : bytes_eq x x ≡ true = (bytes_eq-Decides x x).1 refl in
    let e : shared_depth (x ∷ xs) (x ∷ xs) ≡ length (x ∷ xs) = rw t (omega (arith, r.0)) in
    (e, ap (λ k. drop k (x ∷ xs)) e ∙ drop_all (length (x ∷ xs)) (x ∷ xs) (omega arith))

pub implied_none : (directory wanted : List ℕ) → bytes_eq directory wanted ≡ true → implied_names (directory_names directory) (directory_names wanted) ≡ []
implied_none directory wanted t = let same : directory ≡ wanted = (bytes_eq-Decides directory wanted).0 t in ap (λ x. implied_names (directory_names directory) (directory_names x)) (sym same) ∙ (implied-same (directory_names directory)).1

pub no_calls : (directory wanted : List ℕ) → bytes_eq directory wanted ≡ true → directory_calls (directory_names directory) (directory_names wanted) ≡ []
no_calls directory wanted t =
    let same : directory ≡ wanted = (bytes_eq-Decides directory wanted).0 t in
    let names = directory_names directory in
    let r = implied-same names in
    let k : length names - shared_depth names names ≡ 0 = omega (arith, r.0) in
    ap (λ x. directory_calls names (directory_names x)) (sym same) ∙ (ap (λ n. replicate n Close ++ map Open (implied_names names names)) k ∙ ap (map Open) r.1)

has_empty_name-implied : (names wanted : List (List ℕ)) → has_empty_name names ≡ false → has_empty_name (implied_names names wanted) ≡ has_empty_name wanted
has_empty_name-implied [] [] h = refl
has_empty_name-implied [] (y ∷ ys) h = refl
has_empty_name-implied (x ∷ xs) [] h = refl
has_empty_name-implied (x ∷ xs) (y ∷ ys) h = elim (cases_Bool (bytes_eq x y)) [
  | inl t ↦
      let same : x ≡ y = (bytes_eq-Decides x y).0 t in
      let p = or_parts (is_empty x) (has_empty_name xs) h in
      let e : 1 + shared_depth xs ys ≡ suc (shared_depth xs ys) = omega arith in
      rw (t, e) (has_empty_name-implied xs ys p.1 ∙ sym (ap (λ b. b || has_empty_name ys) (ap is_empty (sym same) ∙ p.0)))
  | inr f ↦ rw f refl
]

-- names are refused as the missing ones are
pub answers_all : (names wanted : List (List ℕ)) (missing : List ℕ) (r : Result (Unit {0}) RecordError) → has_empty_name names ≡ false → directory_names missing ≡ implied_names names wanted → AnswersNames (directory_names missing) r → AnswersNames wanted r
answers_all names wanted missing (Ok done) n m h = sym (has_empty_name-implied names wanted n) ∙ (sym (ap has_empty_name m) ∙ h)
answers_all names wanted missing (Err EmptyName) n m h = sym (has_empty_name-implied names wanted n) ∙ (sym (ap has_empty_name m) ∙ h)
answers_all names wanted missing (Err Memory) n m h = tt

-- ---- a record

has_empty_name-parts : (text path name : List ℕ) → directory_names path ≡ parent_names text → own_names text ≡ name ∷ [] → has_empty_name (record_names text) ≡ (has_empty_name (directory_names path) || (is_empty name || false))
has_empty_name-parts text path name p o =
    ap has_empty_name (sym (take-append-drop (length (record_names text) - 1) (record_names text)))
    ∙ (list_any-append is_empty (parent_names text) (own_names text) ∙ (ap (λ (ns : List (List ℕ)). has_empty_name ns || has_empty_name (own_names text)) (sym p) ∙ ap (λ (ns : List (List ℕ)). has_empty_name (directory_names path) || has_empty_name ns) o))

pub refused_parents : (text path name : List ℕ) (e : RecordError) → directory_names path ≡ parent_names text → own_names text ≡ name ∷ [] → RefusesNames (directory_names path) e → RefusesNames (record_names text) e
refused_parents text path name EmptyName p o h = has_empty_name-parts text path name p o ∙ ap (λ b. b || (is_empty name || false)) h
refused_parents text path name Memory p o h = tt

pub refused_own : (text path name : List ℕ) → directory_names path ≡ parent_names text → own_names text ≡ name ∷ [] → name ≡ [] → has_empty_name (record_names text) ≡ true
refused_own text path name p o h = has_empty_name-parts text path name p o ∙ (ap (λ n. has_empty_name (directory_names path) || (is_empty n || false)) h ∙ or_right (has_empty_name (directory_names path)) true refl)

pub good_names : (text path name : List ℕ) → directory_names path ≡ parent_names text → own_names text ≡ name ∷ [] → has_empty_name (directory_names path) ≡ false → name ≢ [] → has_empty_name (record_names text) ≡ false
good_names text path name p o h n = has_empty_name-parts text path name p o ∙ (ap (λ b. b || (is_empty name || false)) h ∙ ap (λ b. b || false) (is_empty-some name n))
