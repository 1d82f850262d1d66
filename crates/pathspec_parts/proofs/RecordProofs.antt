-- Records one after the other, which names they have, and which of them are bad.
use Rattle.std.proofs.Common.{◌≡◌, ℕ, suc, ◌+◌, ◌-◌, ◌<◌, Bool, false, ◌||◌, ◌&&◌, cond, ◌⊎◌, inl, inr, refl, sym, ◌∙◌, ap, subst, List, [], ◌∷◌, ◌++◌, ◌==◌, length, take, drop, arith}
use Rattle.std.proofs.lemmas.Bool.{cases_Bool, eqb-true, ne_eqb}
use Rattle.std.proofs.lemmas.Bool.Decides.{nat_tests}
use Rattle.std.proofs.lemmas.List.{length-take, take-take, length_push}
use Rattle.std.proofs.lemmas.Slice.Eq.{bytes_eq-Decides}
use Rattle.std.proofs.Math.Numerals.{one-add, add-one}
use Rattle.std.proofs.Math.Seq.{take-append_seam, drop-append_seam}
use Rattle.std.specs.Prelude.{bytes_eq}
use Rattle.std.specs.List.{slice_split, onto_first, before_first, after_first, common_prefix_len}
use Rattle.pathspec_glob.specs.Bytes.{slash, is_empty, first_is, begins_with}
use Rattle.pathspec_parts.specs.Paths.{is_slash, pieces, ends_with_slash, without_last_slash}
use Rattle.pathspec_parts.specs.Records.{without_empty_end, records, record_path, record_names, is_bad, holds_two_slashes, has_empty_name}

-- ---- lists

-- of a list without its last element, and then without k more, what is left
pub take-less : {X : Type 0} (k : ℕ) (xs : List X) → take (length (take (length xs - 1) xs) - k) (take (length xs - 1) xs) ≡ take (length xs - suc k) xs
take-less k xs =
    let long : length (take (length xs - 1) xs) ≡ length xs - 1 = length-take (length xs - 1) xs ∙ omega arith in
    let same : length (take (length xs - 1) xs) - k ≡ length xs - suc k = omega (arith, long) in
    ap (λ n. take n (take (length xs - 1) xs)) same ∙ take-take (length xs - suc k) (length xs - 1) xs (omega arith)

-- as far as two lists are the same, they are
pub take-common_prefix_len : (xs ys : List (List ℕ)) → take (common_prefix_len bytes_eq xs ys) xs ≡ take (common_prefix_len bytes_eq xs ys) ys
take-common_prefix_len [] [] = refl
take-common_prefix_len [] (y ∷ ys) = refl
take-common_prefix_len (x ∷ xs) [] = refl
take-common_prefix_len (x ∷ xs) (y ∷ ys) = elim (cases_Bool (bytes_eq x y)) [
  | inl t ↦
      let same : x ≡ y = (bytes_eq-Decides x y).0 t in
      let e : 1 + common_prefix_len bytes_eq xs ys ≡ suc (common_prefix_len bytes_eq xs ys) = omega arith in
      rw (t, e) (ap (λ z. z ∷ take (common_prefix_len bytes_eq xs ys) xs) same ∙ ap (λ t. y ∷ t) (take-common_prefix_len xs ys))
  | inr f ↦ rw f refl
]

-- a list with a last element
pub last_cases : {X : Type 0} (xs : List X) → 0 < length xs → (front : List X) × (x : X) × (xs ≡ front ++ x ∷ [])
last_cases [] l = absurd (omega (arith, l))
last_cases (x ∷ []) l = ([], x, refl)
last_cases (x ∷ y ∷ xs) l = let r = last_cases (y ∷ xs) (omega arith) in (x ∷ r.0, r.1, ap (λ t. x ∷ t) r.2)

-- ---- the first record

module _ (p : ℕ → Bool) where
  -- the parts after the first
  pub others : List ℕ → List (List ℕ)
  others [] = []
  others (b ∷ bs) = cond (p b) (slice_split p bs) (others bs)

  pub split-first : (bytes : List ℕ) → slice_split p bytes ≡ before_first p bytes ∷ others bytes
  unfolding others
  split-first [] = refl
  split-first (b ∷ bs) = elim (cases_Bool (p b)) [
    | inl h ↦ rw h refl
    | inr h ↦ rw (h, one-add) (ap (onto_first b) (split-first bs))
  ]

  -- the parts of what stands after the first separator; without one there are none, and the first part is all
  others-rest : (bytes : List ℕ) → (others bytes ≡ slice_split p (after_first p bytes)) ⊎ ((others bytes ≡ []) × (after_first p bytes ≡ []) × (before_first p bytes ≡ bytes))
  unfolding others
  others-rest [] = inr (refl, refl, refl)
  others-rest (b ∷ bs) = elim (cases_Bool (p b)) [
    | inl h ↦ inl (rw h refl)
    | inr h ↦ elim (others-rest bs) [
      | inl e ↦ inl (rw (h, one-add, add-one) (rw add-one at e))
      | inr e ↦ inr (rw h e.0, rw (h, one-add, add-one) (rw add-one at e.1), rw (h, one-add) (ap (λ front. b ∷ front) e.2))
    ]
  ]

  with_more : (first : List ℕ) (parts more : List (List ℕ)) (second : List ℕ) → parts ≡ second ∷ more → without_empty_end (first ∷ parts) ≡ first ∷ without_empty_end parts
  with_more first parts more second e = rw e refl

  with_none : (first : List ℕ) → is_empty first ≡ false → without_empty_end (first ∷ []) ≡ first ∷ without_empty_end ([] ∷ [])
  with_none first f = rw f refl

  pub split-record : (bytes : List ℕ) → is_empty bytes ≡ false → without_empty_end (slice_split p bytes) ≡ before_first p bytes ∷ without_empty_end (slice_split p (after_first p bytes))
  split-record bytes f = ap without_empty_end (split-first bytes) ∙ elim (others-rest bytes) [
    | inl e ↦ rw e (with_more (before_first p bytes) (slice_split p (after_first p bytes)) (others (after_first p bytes)) (before_first p (after_first p bytes)) (split-first (after_first p bytes)))
    | inr e ↦ rw (e.0, e.1, e.2) (with_none bytes f)
  ]

is_empty-length : (xs : List ℕ) → is_empty xs ≡ (length xs == 0)
is_empty-length [] = refl
is_empty-length (x ∷ xs) = sym (ne_eqb (length (x ∷ xs)) 0 (λ e. omega (arith, e)))

-- the first record and those of the rest
pub records-first : (separator : ℕ) (bytes first rest : List ℕ) → (length bytes == 0) ≡ false → first ≡ before_first (λ b. b == separator) bytes → rest ≡ after_first (λ b. b == separator) bytes → records separator bytes ≡ first ∷ records separator rest
records-first separator bytes first rest f r t = rw (r, t) (split-record (λ b. b == separator) bytes (is_empty-length bytes ∙ f))

-- ---- a last byte

pub ends_with_slash-push : (front : List ℕ) (b : ℕ) → ends_with_slash (front ++ b ∷ []) ≡ is_slash b
ends_with_slash-push front b =
    let at : length (front ++ b ∷ []) - 1 ≡ length front = omega (arith, length_push front b) in
    rw (at, drop-append_seam front (b ∷ [])) (grind (arith, nat_tests))

pub without_last_slash-push : (front : List ℕ) (b : ℕ) → without_last_slash (front ++ b ∷ []) ≡ cond (is_slash b) front (front ++ b ∷ [])
without_last_slash-push front b =
    let at : length (front ++ b ∷ []) - 1 ≡ length front = omega (arith, length_push front b) in
    ap (λ t. cond t (take (length (front ++ b ∷ []) - 1) (front ++ b ∷ [])) (front ++ b ∷ [])) (ends_with_slash-push front b)
    ∙ ap (λ t. cond (is_slash b) t (front ++ b ∷ [])) (ap (λ n. take n (front ++ b ∷ [])) at ∙ take-append_seam front (b ∷ []))

-- ---- bad records

-- the first part is empty where a slash begins the text with a slash after it
first_part : (text : List ℕ) → is_empty (before_first is_slash text) ≡ first_is is_slash (text ++ slash ∷ [])
first_part [] = refl
first_part (b ∷ bs) = elim (cases_Bool (is_slash b)) [
  | inl t ↦ rw t refl
  | inr f ↦ rw (f, one-add) refl
]

has_empty_name-first : (text : List ℕ) → has_empty_name (pieces text) ≡ (first_is is_slash (text ++ slash ∷ []) || has_empty_name (drop 1 (pieces text)))
has_empty_name-first text =
    let parts = split-first is_slash text in
    ap has_empty_name parts ∙ (ap (λ t. t || has_empty_name (others is_slash text)) (first_part text) ∙ ap (λ t. first_is is_slash (text ++ slash ∷ []) || has_empty_name (drop 1 t)) (sym parts))

-- a later one, where it holds two in a row
has_empty_name-later : (text : List ℕ) → has_empty_name (drop 1 (pieces text)) ≡ holds_two_slashes (text ++ slash ∷ [])
has_empty_name-later [] = refl
has_empty_name-later (b ∷ bs) = elim (cases_Bool (is_slash b)) [
  | inl t ↦ rw t (has_empty_name-first bs ∙ ap (λ t. first_is is_slash (bs ++ slash ∷ []) || t) (has_empty_name-later bs))
  | inr f ↦ rw f (ap has_empty_name (same_later (pieces bs)) ∙ has_empty_name-later bs)
]
  where
    same_later : (parts : List (List ℕ)) → drop 1 (onto_first b parts) ≡ drop 1 parts
    same_later [] = refl
    same_later (part ∷ parts) = refl

has_empty_name-pieces : (text : List ℕ) → has_empty_name (pieces text) ≡ (first_is is_slash (text ++ slash ∷ []) || holds_two_slashes (text ++ slash ∷ []))
has_empty_name-pieces text = has_empty_name-first text ∙ ap (λ t. first_is is_slash (text ++ slash ∷ []) || t) (has_empty_name-later text)

pub begins_with-slash : (text : List ℕ) → begins_with text (slash ∷ []) ≡ first_is is_slash text
begins_with-slash [] = refl
begins_with-slash (b ∷ bs) = grind (arith, nat_tests)

first_is-push : (front : List ℕ) (b : ℕ) (more : List ℕ) → first_is is_slash ((front ++ b ∷ []) ++ more) ≡ first_is is_slash (front ++ b ∷ [])
first_is-push [] b more = refl
first_is-push (x ∷ front) b more = refl

-- a slash after a last byte that is none
holds_two_slashes-push : (front : List ℕ) (b : ℕ) → is_slash b ≡ false → holds_two_slashes ((front ++ b ∷ []) ++ slash ∷ []) ≡ holds_two_slashes (front ++ b ∷ [])
holds_two_slashes-push [] b f = rw f refl
holds_two_slashes-push (x ∷ front) b f =
    ap (λ t. is_slash x && first_is is_slash ((front ++ b ∷ []) ++ slash ∷ []) || t) (holds_two_slashes-push front b f)
    ∙ ap (λ t. is_slash x && t || holds_two_slashes (front ++ b ∷ [])) (first_is-push front b (slash ∷ []))

is_bad-push : (front : List ℕ) (b : ℕ) → is_bad (front ++ b ∷ []) ≡ (first_is is_slash (front ++ b ∷ []) || holds_two_slashes (front ++ b ∷ []))
is_bad-push [] b = ap (λ t. t || holds_two_slashes (b ∷ [])) (begins_with-slash (b ∷ []))
is_bad-push (x ∷ front) b = ap (λ t. t || holds_two_slashes (x ∷ front ++ b ∷ [])) (begins_with-slash (x ∷ front ++ b ∷ []))

has_empty_name-push : (front : List ℕ) (b : ℕ) → has_empty_name (record_names (front ++ b ∷ [])) ≡ is_bad (front ++ b ∷ [])
has_empty_name-push front b = elim (cases_Bool (is_slash b)) [
  | inl t ↦
      let path : record_path (front ++ b ∷ []) ≡ front = without_last_slash-push front b ∙ ap (λ t. cond t front (front ++ b ∷ [])) t in
      let same : slash ≡ b = sym (eqb-true b slash t) in
      ap (λ x. has_empty_name (pieces x)) path ∙ (has_empty_name-pieces front ∙ (ap (λ x. first_is is_slash (front ++ x ∷ []) || holds_two_slashes (front ++ x ∷ [])) same ∙ sym (is_bad-push front b)))
  | inr f ↦
      let path : record_path (front ++ b ∷ []) ≡ front ++ b ∷ [] = without_last_slash-push front b ∙ ap (λ t. cond t front (front ++ b ∷ [])) f in
      ap (λ x. has_empty_name (pieces x)) path ∙ (has_empty_name-pieces (front ++ b ∷ [])
      ∙ (ap (λ t. t || holds_two_slashes ((front ++ b ∷ []) ++ slash ∷ [])) (first_is-push front b (slash ∷ []))
      ∙ (ap (λ t. first_is is_slash (front ++ b ∷ []) || t) (holds_two_slashes-push front b f) ∙ sym (is_bad-push front b))))
]

-- A record is bad just where one of its names is empty.
pub has_empty_name-record : (text : List ℕ) → has_empty_name (record_names text) ≡ is_bad text
has_empty_name-record [] = refl
has_empty_name-record (b ∷ bs) =
    let c = last_cases (b ∷ bs) (omega arith) in
    subst (λ t. has_empty_name (record_names t) ≡ is_bad t) (sym c.2) (has_empty_name-push c.0 c.1)
