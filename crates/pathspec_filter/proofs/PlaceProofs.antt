-- A record's directory and name, and what a directory that is skipped tells of it.
use Rattle.std.proofs.Common.{◌≡◌, ◌≢◌, ℕ, zero, suc, ◌+◌, ◌-◌, ◌<◌, ◌≤◌, Bool, true, false, ◌&&◌, ◌||◌, not, cond, refl, sym, ◌∙◌, ap, subst, inl, inr, List, [], ◌∷◌, ◌++◌, ◌==◌, length, get_or, take, drop, arith, append_assoc, Some, None}
use Rattle.std.proofs.lemmas.Bool.{cases_Bool, eqb-true, false_from_ne_true}
use Rattle.std.proofs.lemmas.List.{length-append, length_push, length-take-le, length-drop, take-append-drop, drop_more, take_more, get_or-take, get_or-drop, get_or_push, take_at, take_rest, nil_from_length}
use Rattle.std.proofs.lemmas.List.Elements.{All-nil, All-head, All-tail, All-get_or, All-from_get_or, All-take}
use Rattle.std.proofs.lemmas.List.Sums.{passes_at_first, prefix_len-le-length, split_at_first}
use Rattle.std.proofs.lemmas.Slice.Eq.{bytes_eq-Decides}
use Rattle.std.specs.Prelude.{bytes_eq}
use Rattle.std.specs.List.{position_or_len}
use Rattle.memchr.specs.Find.{IsFirstByte, is_byte}
use Rattle.pathspec_parts.specs.Bytes.{slash, first_is}
use Rattle.pathspec_parts.specs.Paths.{is_slash}
use Rattle.pathspec_parts.specs.Attributes.{Table}
use Rattle.pathspec_parts.specs.Records.{record_path, record_is_dir, is_bad, holds_two_slashes}
use Rattle.pathspec_parts.specs.RecordParts.{IsFreeOf, IsFirstRecord, BeginsWithFile}
use Rattle.pathspec_parts.proofs.RecordProofs.{last_cases, ends_with_slash-push, without_last_slash-push, begins_with-slash}
use Rattle.pathspec_parts.proofs.RecordPartProofs.{free_before}
use Rattle.pathspec_filter.specs.Places.{Asked, is_chosen_in, is_taken, HoldsNoneChosen, IsSkippedAt, SharesFront, LiesIn, TakesNames, IsPlace}
use Rattle.pathspec_filter.specs.Passes.{BeginsBad}
use Rattle.pathspec_filter.specs.FoundRecords.{BeginsGood}

-- ---- names after a directory

either : (a b : Bool) → (a || b) ≡ false → (a ≡ false) × (b ≡ false)
either false false h = (refl, refl)
either false true h = cc
either true b h = cc

both_false : (a b : Bool) → a ≡ false → b ≡ false → (a || b) ≡ false
both_false false b p q = q
both_false true b p q = cc

free-first : (name : List ℕ) → IsFreeOf slash name → first_is is_slash name ≡ false
free-first [] free = refl
free-first (b ∷ bs) free = All-head (λ b. (b == slash) ≡ false) b bs free

free-two : (name : List ℕ) → IsFreeOf slash name → holds_two_slashes name ≡ false
free-two [] free = refl
free-two (b ∷ bs) free =
    let here : is_slash b ≡ false = All-head (λ b. (b == slash) ≡ false) b bs free in
    rw here (free-two bs (All-tail (λ b. (b == slash) ≡ false) b bs free))

two-front : (front other name : List ℕ) → holds_two_slashes (front ++ other) ≡ false → IsFreeOf slash name → holds_two_slashes (front ++ name) ≡ false
two-front [] other name h free = free-two name free
two-front (b ∷ []) other name h free = elim (cases_Bool (is_slash b)) [
  | inl t ↦ rw (t, free-first name free) (free-two name free)
  | inr f ↦ rw f (free-two name free)
]
two-front (b ∷ c ∷ front) other name h free =
    let parts = either (is_slash b && is_slash c) (holds_two_slashes ((c ∷ front) ++ other)) h in
    rw parts.0 (two-front (c ∷ front) other name parts.1 free)

-- a record without a slash at its front
bad-cons : (b : ℕ) (bs : List ℕ) → is_bad (b ∷ bs) ≡ (is_slash b || holds_two_slashes (b ∷ bs))
bad-cons b bs = ap (λ t. t || holds_two_slashes (b ∷ bs)) (begins_with-slash (b ∷ bs))

-- what any good record begins with takes names
pub takes_names : (front other : List ℕ) → is_bad (front ++ other) ≡ false → TakesNames front
takes_names [] other h [] some free = absurd (some refl)
takes_names [] other h (b ∷ bs) some free = bad-cons b bs ∙ both_false (is_slash b) (holds_two_slashes (b ∷ bs)) (free-first (b ∷ bs) free) (free-two (b ∷ bs) free)
takes_names (b ∷ front) other h name some free =
    let parts = either (is_slash b) (holds_two_slashes ((b ∷ front) ++ other)) (sym (bad-cons b (front ++ other)) ∙ h) in
    bad-cons b (front ++ name) ∙ both_false (is_slash b) (holds_two_slashes ((b ∷ front) ++ name)) parts.0 (two-front (b ∷ front) other name parts.1 free)

pub takes_names-top : TakesNames []
takes_names-top [] some free = absurd (some refl)
takes_names-top (b ∷ bs) some free = bad-cons b bs ∙ both_false (is_slash b) (holds_two_slashes (b ∷ bs)) (free-first (b ∷ bs) free) (free-two (b ∷ bs) free)

-- ---- paths

-- a list that isn't empty has a last element
last_of : (name : List ℕ) → name ≢ [] → (front : List ℕ) × (b : ℕ) × (name ≡ front ++ b ∷ [])
last_of [] some = absurd (some refl)
last_of (x ∷ xs) some = last_cases (x ∷ xs) (omega arith)

-- the record of a file right in a directory is its path
pub file-is : (directory name : List ℕ) → name ≢ [] → IsFreeOf slash name → (record_path (directory ++ name) ≡ directory ++ name) × (record_is_dir (directory ++ name) ≡ false)
file-is directory name some free =
    let c = last_of name some in
    let whole : directory ++ name ≡ (directory ++ c.0) ++ c.1 ∷ [] = ap (λ t. directory ++ t) c.2 ∙ sym (append_assoc directory c.0 (c.1 ∷ [])) in
    let inside : length c.0 < length name = omega (arith, ap length c.2, length_push c.0 c.1) in
    let here : get_or name (length c.0) 0 ≡ c.1 = ap (λ t. get_or t (length c.0) 0) c.2 ∙ get_or_push c.0 c.1 0 (length c.0) refl in
    let none : is_slash c.1 ≡ false = ap is_slash (sym here) ∙ All-get_or (λ b. (b == slash) ≡ false) name (length c.0) 0 inside free in (
      ap record_path whole ∙ (without_last_slash-push (directory ++ c.0) c.1 ∙ (ap (λ b. cond b (directory ++ c.0) ((directory ++ c.0) ++ c.1 ∷ [])) none ∙ sym whole)),
      ap record_is_dir whole ∙ (ends_with_slash-push (directory ++ c.0) c.1 ∙ none),
    )

-- the path of a record lies in its directory
pub path-inside : (text directory name : List ℕ) → text ≡ directory ++ name → name ≢ [] → LiesIn directory (record_path text)
path-inside text directory name e some =
    let c = last_of name some in
    let whole : text ≡ (directory ++ c.0) ++ c.1 ∷ [] = e ∙ (ap (λ t. directory ++ t) c.2 ∙ sym (append_assoc directory c.0 (c.1 ∷ []))) in
    let path = ap record_path whole ∙ without_last_slash-push (directory ++ c.0) c.1 in
    elim (cases_Bool (is_slash c.1)) [
      | inl t ↦ (c.0, path ∙ ap (λ b. cond b (directory ++ c.0) ((directory ++ c.0) ++ c.1 ∷ [])) t)
      | inr f ↦ (c.0 ++ c.1 ∷ [], path ∙ (ap (λ b. cond b (directory ++ c.0) ((directory ++ c.0) ++ c.1 ∷ [])) f ∙ append_assoc directory c.0 (c.1 ∷ [])))
    ]

-- the path of a good record isn't empty
pub path-some : (text : List ℕ) → is_bad text ≡ false → record_path text ≢ []
path-some [] good none = let e : true ≡ false = good in cc
path-some (b ∷ []) good none =
    let parts = either (is_slash b) (holds_two_slashes (b ∷ [])) (sym (bad-cons b []) ∙ good) in
    let path : record_path (b ∷ []) ≡ b ∷ [] = without_last_slash-push [] b ∙ ap (λ t. cond t [] (b ∷ [])) parts.0 in
    let e : b ∷ [] ≡ [] = sym path ∙ none in
    cc
path-some (b ∷ x ∷ xs) good none =
    let c = last_cases (x ∷ xs) (omega arith) in
    let whole : b ∷ x ∷ xs ≡ (b ∷ c.0) ++ c.1 ∷ [] = ap (λ t. b ∷ t) c.2 in
    let path = ap record_path whole ∙ without_last_slash-push (b ∷ c.0) c.1 in
    elim (cases_Bool (is_slash c.1)) [
      | inl t ↦ let e : b ∷ c.0 ≡ [] = sym (path ∙ ap (λ k. cond k (b ∷ c.0) ((b ∷ c.0) ++ c.1 ∷ [])) t) ∙ none in cc
      | inr f ↦ let e : (b ∷ c.0) ++ c.1 ∷ [] ≡ [] = sym (path ∙ ap (λ k. cond k (b ∷ c.0) ((b ∷ c.0) ++ c.1 ∷ [])) f) ∙ none in cc
    ]

-- ---- skipped

pub skipped-none : (asked : Asked) (directory : List ℕ) → IsSkippedAt asked directory 0
skipped-none asked directory some = absurd (some refl)

-- nothing in a directory that is skipped is chosen
pub skipped-chosen : (table : Table) (asked : Asked) (directory path : List ℕ) (n : ℕ) (is_dir : Bool) → IsSkippedAt asked directory n → n ≢ 0 → LiesIn directory path → is_chosen_in table asked path is_dir ≡ false
skipped-chosen table asked directory path n is_dir skipped some inside =
    let s = skipped some in
    let d = s.1 in
    let behind = drop n directory ++ inside.0 in
    let whole : path ≡ d ++ slash ∷ behind =
    inside.1 ∙ (ap (λ t. t ++ inside.0) (sym (take-append-drop n directory) ∙ ap (λ t. t ++ drop n directory) s.2)
    ∙ (append_assoc (d ++ slash ∷ []) (drop n directory) inside.0 ∙ append_assoc d (slash ∷ []) behind)) in
    s.3 table path is_dir (behind, whole)

-- another directory lies in it, too
pub skipped-shared : (asked : Asked) (directory wanted : List ℕ) (n : ℕ) → IsSkippedAt asked directory n → n ≤ length wanted → take n wanted ≡ take n directory → IsSkippedAt asked wanted n
skipped-shared asked directory wanted n skipped within same some = let s = skipped some in (within, s.1, same ∙ s.2, s.3)

pub skipped-inside : (asked : Asked) (directory : List ℕ) (n : ℕ) → IsSkippedAt asked directory n → n ≤ length directory
skipped-inside asked directory zero skipped = omega arith
skipped-inside asked directory (suc n) skipped = let some : suc n ≢ 0 = λ e. absurd (omega (arith, e)) in (skipped some).0

-- a path that begins with it lies there, too
pub shares-front : (directory wanted : List ℕ) (n : ℕ) → n ≤ length directory → bytes_eq (take n directory) (take (length (take n directory)) wanted) ≡ true → length (take n directory) ≤ length wanted → SharesFront directory wanted n
shares-front directory wanted n inside same long =
    let count = length-take-le n directory inside in
    record {
      inside = omega (arith, count, long);
      same = ap (λ k. take k wanted) (sym count) ∙ sym ((bytes_eq-Decides (take n directory) (take (length (take n directory)) wanted)).0 same);
    }

-- a directory that ends at a slash
pub skipped-found : (asked : Asked) (directory : List ℕ) (end : ℕ) → end < length directory → get_or directory end 0 ≡ slash → HoldsNoneChosen asked (take end directory) → IsSkippedAt asked directory (end + 1)
skipped-found asked directory end inside here none some = (
  omega (arith, inside),
  take end directory,
  take_more directory end 0 inside ∙ ap (λ b. take end directory ++ b ∷ []) here,
  none,
)

-- the first slash behind an offset
pub slash_within : (directory : List ℕ) (known n : ℕ) → IsFirstByte (is_byte slash) (take (length directory - known) (drop known directory)) (Some n) → known ≤ length directory → known + n < length directory
slash_within directory known n h inside =
    let less : n < length (take (length directory - known) (drop known directory)) = h.0.high in
    omega (arith, less, ap length (take_rest directory known), length-drop known directory)

pub skipped-at : (asked : Asked) (directory : List ℕ) (known n : ℕ) → IsFirstByte (is_byte slash) (take (length directory - known) (drop known directory)) (Some n) → known ≤ length directory → HoldsNoneChosen asked (take (known + n) directory)
    → IsSkippedAt asked directory ((known + n) + 1)
skipped-at asked directory known n h inside none =
    let here : get_or (take (length directory - known) (drop known directory)) n 0 ≡ slash = eqb-true (get_or (take (length directory - known) (drop known directory)) n 0) slash h.1 in
    let there : get_or directory (known + n) 0 ≡ slash = sym (get_or-drop known directory n 0) ∙ (ap (λ t. get_or t n 0) (sym (take_rest directory known)) ∙ here) in
    skipped-found asked directory (known + n) (slash_within directory known n h inside) there none

-- ---- places

pub place-top : (asked : Asked) (separator : ℕ) (directory : List ℕ) (skipped : ℕ) → directory ≡ [] → IsSkippedAt asked directory skipped → IsPlace asked separator directory skipped
place-top asked separator directory skipped e s = record {
  free = subst (IsFreeOf separator) (sym e) (All-nil (λ b. (b == separator) ≡ false));
  names = subst TakesNames (sym e) takes_names-top;
  skipped_is = s;
}

-- the directory of a good record
pub place-of : (asked : Asked) (separator : ℕ) (text parents name directory : List ℕ) (skipped : ℕ) → text ≡ parents ++ name → is_bad text ≡ false → IsFreeOf separator text → directory ≡ parents → IsSkippedAt asked directory skipped
    → IsPlace asked separator directory skipped
place-of asked separator text parents name directory skipped e good free d s =
    let front : take (length parents) text ≡ directory = ap (take (length parents)) e ∙ (take_at parents name (length parents) refl ∙ sym d) in
    record {
      free = subst (IsFreeOf separator) front (All-take (λ b. (b == separator) ≡ false) (length parents) text free);
      names = subst TakesNames (sym d) (takes_names parents name (ap is_bad (sym e) ∙ good));
      skipped_is = s;
    }

-- ---- the first record

-- it ends at the first separator
pub first-at : (separator : ℕ) (rest : List ℕ) (n : ℕ) → IsFirstByte (is_byte separator) rest (Some n) → IsFirstRecord separator rest (take n rest)
first-at separator rest n h =
    let inside : n < length rest = h.0.high in
    let here : get_or rest n 0 ≡ separator = eqb-true (get_or rest n 0) separator h.1 in
    let short = length-take-le n rest (omega (arith, inside)) in
    record {
      behind = drop (n + 1) rest;
      whole = sym (take-append-drop n rest) ∙ ap (λ t. take n rest ++ t) (drop_more rest n 0 inside ∙ ap (λ b. b ∷ drop (n + 1) rest) here);
      free = All-from_get_or (λ b. (b == separator) ≡ false) (take n rest) 0 (λ k low.
          let less : k < n = omega (arith, low, short) in
          ap (λ b. b == separator) (get_or-take n rest k 0 less) ∙ false_from_ne_true _ (h.0.before k (omega arith) less));
    }

-- a file right in the directory
pub first-file : (separator : ℕ) (directory rest : List ℕ) (n : ℕ) → BeginsWithFile separator directory rest n → IsFirstRecord separator rest (take n rest)
first-file separator directory rest n f =
    let p : ℕ → Bool = λ b. b == separator in
    let at = position_or_len p rest in
    let within = prefix_len-le-length (λ x. not (p x)) rest in
    let same : at ≡ n = sym (length-take-le at rest within) ∙ (ap length (sym f.record_is) ∙ length-take-le n rest (omega (arith, f.fits))) in
    let inside : at < length rest = omega (arith, same, f.fits) in
    let here : get_or rest at 0 ≡ separator = eqb-true (get_or rest at 0) separator (passes_at_first p rest 0 inside) in
    record {
      behind = drop (at + 1) rest;
      whole = split_at_first p rest 0 inside ∙ (ap (λ t. t ++ get_or rest at 0 ∷ drop (at + 1) rest) (sym f.record_is) ∙ ap (λ b. take n rest ++ b ∷ drop (at + 1) rest) here);
      free = subst (IsFreeOf separator) (sym f.record_is) (free_before separator rest);
    }

-- what was found: such a file
pub found-file : (table : Table) (asked : Asked) (separator : ℕ) (directory rest : List ℕ) (n : ℕ) (is_selected : Bool) → BeginsWithFile separator directory rest n → TakesNames directory → is_selected ≡ is_taken table asked (take n rest) false
    → BeginsGood (is_taken table asked) separator rest n is_selected
found-file table asked separator directory rest n is_selected f names s =
    let is = file-is directory f.name f.some f.no_slash in
    let path : record_path (take n rest) ≡ take n rest = ap record_path f.whole ∙ (is.0 ∙ sym f.whole) in
    let kind : record_is_dir (take n rest) ≡ false = ap record_is_dir f.whole ∙ is.1 in
    record {
      fits = f.fits;
      first = first-file separator directory rest n f;
      good = ap is_bad f.whole ∙ names f.name f.some f.no_slash;
      selected = s ∙ (ap (λ t. is_taken table asked t false) (sym path) ∙ ap (is_taken table asked (record_path (take n rest))) (sym kind));
    }

-- any other good record
pub found-record : (takes : List ℕ → Bool → Bool) (separator : ℕ) (rest : List ℕ) (n : ℕ) (is_selected : Bool) → IsFirstByte (is_byte separator) rest (Some n) → is_bad (take n rest) ≡ false
    → is_selected ≡ takes (record_path (take n rest)) (record_is_dir (take n rest)) → BeginsGood takes separator rest n is_selected
found-record takes separator rest n is_selected h good s = record { fits = h.0.high; first = first-at separator rest n h; good = good; selected = s }

-- a bad one
pub found-bad : (separator : ℕ) (rest : List ℕ) (n : ℕ) → IsFirstByte (is_byte separator) rest (Some n) → is_bad (take n rest) ≡ true → BeginsBad separator rest
found-bad separator rest n h bad = record { text = take n rest; first = first-at separator rest n h; bad = bad }
