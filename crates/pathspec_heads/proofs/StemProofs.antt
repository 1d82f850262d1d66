-- How a stem and a path are related, by the path and a slash.
use Rattle.std.proofs.Common.{◌≡◌, ℕ, ◌+◌, ◌<◌, ◌≤◌, Bool, true, false, ◌&&◌, ◌||◌, inl, inr, refl, sym, ◌∙◌, ap, subst, List, [], ◌∷◌, ◌++◌, length, get_or, arith, Option, Some, None, bytes_eq, length-append, nat_eq, nat_lt, ◌==◌}
use Rattle.std.specs.List.{list_any}
use Rattle.std.specs.Char.{to_ascii_lowercase}
use Rattle.std.proofs.lemmas.Bool.{cases_lt, and_parts, and_from, or_cases, or_left, or_right, eqb-true, eq-eqb, ltb-true, lt-ltb}
use Rattle.std.proofs.lemmas.Bool.Decides.{nat_tests}
use Rattle.std.specs.Option.{is_some}
use Rattle.std.proofs.lemmas.List.{length-map}
use Rattle.std.proofs.lemmas.Slice.Eq.{bytes_eq-Decides}
use Rattle.std.proofs.Math.ListN.{get_or-append}
use Rattle.std.proofs.Math.Seq.{get_or-append_seam}
use Rattle.pathspec_glob.specs.Bytes.{slash, fold_case, begins_with}
use Rattle.pathspec_heads.specs.Heads.{IsLastFront}
use Rattle.pathspec_heads.specs.Groups.{IsGrouped}
use Rattle.pathspec_heads.specs.Stems.{with_slash, leads_to, lies_below, lies_at_or_below, HasSameTexts, is_boundary}
use Rattle.pathspec_heads.proofs.AgreementProofs.{both}
use Rattle.pathspec_heads.proofs.AnyProofs.{any-some, any-none, any-ext, any-or}
use Rattle.pathspec_heads.proofs.HeadProofs.{le_split, begins-itself}

-- ---- texts

-- a front of a text with one more byte
pub snoc-begins : (t x : List ℕ) (b : ℕ) → begins_with t x ≡ true → length x < length t → get_or t (length x) 0 ≡ b → begins_with t (x ++ b ∷ []) ≡ true
snoc-begins [] x b h l e = absurd (omega (arith, l))
snoc-begins (c ∷ t) [] b h l e = grind (arith, nat_tests)
snoc-begins (c ∷ t) (d ∷ x) b h l e = grind (arith, nat_tests, snoc-begins t x b)

pub begins-snoc : (t x : List ℕ) (b : ℕ) → begins_with t (x ++ b ∷ []) ≡ true → (begins_with t x ≡ true) × (length x < length t) × (get_or t (length x) 0 ≡ b)
begins-snoc [] [] b h = cc
begins-snoc [] (d ∷ x) b h = cc
begins-snoc (c ∷ t) [] b h = (refl, omega arith, grind (arith, nat_tests))
begins-snoc (c ∷ t) (d ∷ x) b h =
    let parts = and_parts (nat_eq d c) (begins_with t (x ++ b ∷ [])) h in
    let r = begins-snoc t x b parts.1 in
    (begins-cons c d t x parts.0 r.0, omega (arith, r.1), r.2)
  where
    begins-cons : (c d : ℕ) (t x : List ℕ) → nat_eq d c ≡ true → begins_with t x ≡ true → begins_with (c ∷ t) (d ∷ x) ≡ true
    begins-cons c d t x e h = grind (arith, nat_tests)

pub front-more : (d y x : List ℕ) → begins_with d x ≡ true → begins_with (d ++ y) x ≡ true
front-more d y [] h = refl
front-more [] y (b ∷ x) h = cc
front-more (c ∷ d) y (b ∷ x) h = grind (arith, nat_tests, front-more d y x)

pub front-less : (d y x : List ℕ) → begins_with (d ++ y) x ≡ true → length x ≤ length d → begins_with d x ≡ true
front-less d y [] h l = refl
front-less [] y (b ∷ x) h l = absurd (omega (arith, l))
front-less (c ∷ d) y (b ∷ x) h l = grind (arith, nat_tests, front-less d y x)

-- a front that is as long as the text is the text
pub front-all : (t x : List ℕ) → begins_with t x ≡ true → length t ≤ length x → begins_with x t ≡ true
front-all [] x h l = refl
front-all (c ∷ t) [] h l = absurd (omega (arith, l))
front-all (c ∷ t) (d ∷ x) h l = grind (arith, nat_tests, front-all t x)

front-same : (d x : List ℕ) → begins_with d x ≡ true → length x ≡ length d → d ≡ x
front-same [] [] h l = refl
front-same [] (b ∷ x) h l = absurd (omega (arith, l))
front-same (c ∷ d) [] h l = absurd (omega (arith, l))
front-same (c ∷ d) (b ∷ x) h l = grind (arith, nat_tests, front-same d x)

-- ---- one stem and a path

module _ (d x : List ℕ) where
  abbrev T : List ℕ
  T = d ++ slash ∷ []

  pub boundary-is : (limit : ℕ) → is_boundary (d ++ slash ∷ []) limit x ≡ true → (begins_with (d ++ slash ∷ []) x ≡ true) × (length x < limit) × (get_or (d ++ slash ∷ []) (length x) 0 ≡ slash)
  boundary-is limit h =
      let r = and_parts (begins_with T x) (nat_lt (length x) limit && get_or T (length x) 0 == slash) h in
      let s = and_parts (nat_lt (length x) limit) (get_or T (length x) 0 == slash) r.1 in
      (r.0, ltb-true (length x) limit s.0, eqb-true (get_or T (length x) 0) slash s.1)

  pub is-boundary : (limit : ℕ) → begins_with (d ++ slash ∷ []) x ≡ true → length x < limit → get_or (d ++ slash ∷ []) (length x) 0 ≡ slash → is_boundary (d ++ slash ∷ []) limit x ≡ true
  is-boundary limit h l e =
      and_from (begins_with T x) (nat_lt (length x) limit && get_or T (length x) 0 == slash) h
      (and_from (nat_lt (length x) limit) (get_or T (length x) 0 == slash) (lt-ltb (length x) limit l) (eq-eqb (get_or T (length x) 0) slash e))

  -- the path lies below the stem
  above-boundary : lies_below x d ≡ true → (begins_with (d ++ slash ∷ []) x ≡ true) × (length x < length d) × (get_or (d ++ slash ∷ []) (length x) 0 ≡ slash)
  above-boundary h = let r = begins-snoc d x slash h in (front-more d (slash ∷ []) x r.0, r.1, get_or-append d (slash ∷ []) 0 (length x) r.1 ∙ r.2)

  boundary-above : begins_with (d ++ slash ∷ []) x ≡ true → length x < length d → get_or (d ++ slash ∷ []) (length x) 0 ≡ slash → lies_below x d ≡ true
  boundary-above h l e = snoc-begins d x slash (front-less d (slash ∷ []) x h (omega (arith, l))) l (sym (get_or-append d (slash ∷ []) 0 (length x) l) ∙ e)

  -- such a boundary before the path ends is a directory above it
  pub below-boundary : is_boundary (d ++ slash ∷ []) (length d) x ≡ lies_below x d
  below-boundary = both (is_boundary T (length d) x) (lies_below x d)
      (λ h. let b = boundary-is (length d) h in boundary-above b.0 b.1 b.2)
      (λ h. let r = above-boundary h in is-boundary (length d) r.0 r.1 r.2)

  -- and one up to its end is that or the path
  pub at_or_below-boundary : is_boundary (d ++ slash ∷ []) (length d + 1) x ≡ lies_at_or_below x d
  at_or_below-boundary = both (is_boundary T (length d + 1) x) (lies_at_or_below x d)
      (λ h.
      let b = boundary-is (length d + 1) h in
      elim (le_split (length x) (length d) (omega (arith, b.1))) [
        | inl e ↦ or_left (bytes_eq d x) (lies_below x d) ((bytes_eq-Decides d x).1 (front-same d x (front-less d (slash ∷ []) x b.0 (omega (arith, e))) e))
        | inr s ↦ or_right (bytes_eq d x) (lies_below x d) (boundary-above b.0 s b.2)
      ])
      (λ h. elim (or_cases (bytes_eq d x) (lies_below x d) h) [
        | inl e ↦
            let same : d ≡ x = (bytes_eq-Decides d x).0 e in
            is-boundary (length d + 1) (front-more d (slash ∷ []) x (subst (λ y. begins_with d y ≡ true) same (begins-itself d))) (omega (arith, ap length same)) (ap (λ n. get_or T n 0) (sym (ap length same)) ∙ get_or-append_seam d slash [] 0)
        | inr s ↦ let r = above-boundary s in is-boundary (length d + 1) r.0 (omega (arith, r.1)) r.2
      ])

  -- a stem leads to the path where it lies below it, or at such a boundary
  pub leads-literally : leads_to x false d ≡ (begins_with x (d ++ slash ∷ []) || is_boundary (d ++ slash ∷ []) (length d + 1) x)
  leads-literally = rw at_or_below-boundary (apart (begins_with x T) (bytes_eq d x) (lies_below x d) (begins_with d x))
    where
      apart : (a b c e : Bool) → (a || b || c || false && e) ≡ (a || (b || c))
      apart true b c e = refl
      apart false true c e = refl
      apart false false true e = refl
      apart false false false e = refl

  -- before a wildcard, also where it begins it
  pub leads-wildly : leads_to x true d ≡ (begins_with x (d ++ slash ∷ []) || begins_with (d ++ slash ∷ []) x)
  leads-wildly = both (leads_to x true d) (begins_with x T || begins_with T x)
      (λ h. elim (or_cases (begins_with x T || bytes_eq d x || lies_below x d) (begins_with d x) h) [
        | inl r ↦ elim (or_cases (begins_with x T || bytes_eq d x) (lies_below x d) r) [
          | inl q ↦ elim (or_cases (begins_with x T) (bytes_eq d x) q) [
            | inl a ↦ or_left (begins_with x T) (begins_with T x) a
            | inr e ↦ or_right (begins_with x T) (begins_with T x) (front-more d (slash ∷ []) x (subst (λ y. begins_with d y ≡ true) ((bytes_eq-Decides d x).0 e) (begins-itself d)))
          ]
          | inr b ↦ or_right (begins_with x T) (begins_with T x) (above-boundary b).0
        ]
        | inr w ↦ or_right (begins_with x T) (begins_with T x) (front-more d (slash ∷ []) x w)
      ])
      (λ h. elim (or_cases (begins_with x T) (begins_with T x) h) [
        | inl a ↦ below a
        | inr b ↦ elim (cases_lt (length d) (length x)) [
          | inl l ↦ below (front-all T x b (omega (arith, l, length-append d (slash ∷ []))))
          | inr s ↦ or_right (begins_with x T || bytes_eq d x || lies_below x d) (begins_with d x) (front-less d (slash ∷ []) x b s)
        ]
      ])
    where
      below : begins_with x (d ++ slash ∷ []) ≡ true → leads_to x true d ≡ true
      below a =
          or_left (begins_with x T || bytes_eq d x || lies_below x d) (begins_with d x)
          (or_left (begins_with x T || bytes_eq d x) (lies_below x d) (or_left (begins_with x T) (bytes_eq d x) a))

-- ---- the stems of a list

module _ (d : List ℕ) (stems : List (List ℕ)) where
  pub some-below : list_any (is_boundary (d ++ slash ∷ []) (length d)) stems ≡ list_any (λ x. lies_below x d) stems
  some-below = any-ext (is_boundary (d ++ slash ∷ []) (length d)) (λ x. lies_below x d) (λ x. below-boundary d x) stems

  pub some-at_or_below : list_any (is_boundary (d ++ slash ∷ []) (length d + 1)) stems ≡ list_any (λ x. lies_at_or_below x d) stems
  some-at_or_below = any-ext (is_boundary (d ++ slash ∷ []) (length d + 1)) (λ x. lies_at_or_below x d) (λ x. at_or_below-boundary d x) stems

  pub some-leads : (list_any (λ x. begins_with x (d ++ slash ∷ [])) stems || list_any (is_boundary (d ++ slash ∷ []) (length d + 1)) stems) ≡ list_any (λ x. leads_to x false d) stems
  some-leads =
      sym (any-ext (λ x. leads_to x false d) (λ x. begins_with x (d ++ slash ∷ []) || is_boundary (d ++ slash ∷ []) (length d + 1) x) (λ x. leads-literally d x) stems
      ∙ any-or (λ x. begins_with x (d ++ slash ∷ [])) (is_boundary (d ++ slash ∷ []) (length d + 1)) stems)

  pub some-leads-wildly : (list_any (λ x. begins_with x (d ++ slash ∷ [])) stems || list_any (λ x. begins_with (d ++ slash ∷ []) x) stems) ≡ list_any (λ x. leads_to x true d) stems
  some-leads-wildly =
      sym (any-ext (λ x. leads_to x true d) (λ x. begins_with x (d ++ slash ∷ []) || begins_with (d ++ slash ∷ []) x) (λ x. leads-wildly d x) stems
      ∙ any-or (λ x. begins_with x (d ++ slash ∷ [])) (λ x. begins_with (d ++ slash ∷ []) x) stems)

-- the last front says whether there is one
pub front-is : (stems : List (List ℕ)) (t : List ℕ) (last : Option ℕ) → IsLastFront stems (length stems) t last → is_some last ≡ list_any (λ x. begins_with t x) stems
front-is stems t None l = sym (any-none (λ x. begins_with t x) stems (l.none refl))
front-is stems t (Some j) l = let b = l.begins j refl in sym (any-some (λ x. begins_with t x) stems j b.0 b.1)

-- the same texts as a list and as the heads of its groups
pub texts-stay : (texts heads : List (List ℕ)) (starts order : List ℕ) → IsGrouped texts heads starts order → HasSameTexts texts heads
texts-stay texts heads starts order g = record {
  there = λ i l. let f = g.listed i l in (f.0, f.1, f.2);
  back = λ k l. g.stands k l;
}

-- ---- as the code has them

pub fold-length : (ignore_case : Bool) (path : List ℕ) → length (fold_case ignore_case path) ≡ length path
fold-length true path = length-map path to_ascii_lowercase
fold-length false path = refl

pub length-with_slash : (ignore_case : Bool) (path : List ℕ) → length (with_slash ignore_case path) ≡ length path + 1
length-with_slash ignore_case path = omega (arith, length-append (fold_case ignore_case path) (slash ∷ []), fold-length ignore_case path)
