-- A map by the bytes of its keys, after a change.
use Rattle.std.proofs.Common.{◌≡◌, ◌∙◌, sym, subst, true, false, cond, ℕ, List, Vec, Ordering, Option, ⊎_elim}
use Rattle.std.proofs.lemmas.Bool.{cases_Bool, cond-true, cond-false}
use Rattle.std.proofs.lemmas.Map.Text.{is_eq-slice_cmp}
use Rattle.std.specs.Prelude.{bytes_eq}
use Rattle.std.specs.Ordering.{nat_cmp, is_eq, eq_by_cmp}
use Rattle.std.specs.Cmp.{eq_by_cmp_equiv}
use Rattle.std.specs.Cmp.Lexicographic.{slice_cmp, bytes_decides, nat_list_cmp_total, nat_list_eq_equiv}
use Rattle.std.specs.Global.{Global}
use Rattle.std.specs.BTreeMap.{BTreeMap, get_by, UpdatesBy}
use Rattle.std.specs.Map.{lookup, KeepsOthers}

-- keys in the order of their bytes
abbrev pub key_cmp : Vec ℕ Global → Vec ℕ Global → Ordering
key_cmp x y = slice_cmp nat_cmp x.items y.items

-- what the map has at these bytes
abbrev pub value_at : {X : Type 0} → BTreeMap (Vec ℕ Global) X → List ℕ → Option X
value_at values path = get_by (λ key. slice_cmp nat_cmp path key.items) values

apart : (path other key : List ℕ) → bytes_eq path other ≡ false → is_eq (slice_cmp nat_cmp path key) ≡ true → is_eq (slice_cmp nat_cmp other key) ≡ false
apart path other key n y =
    let at : bytes_eq path key ≡ true = sym (is_eq-slice_cmp path key) ∙ y in
    is_eq-slice_cmp other key ∙ (nat_list_eq_equiv.symm other key ∙ (sym (nat_list_eq_equiv.congr path key other at) ∙ n))

other_values : {X : Type 0} (old new : List (Vec ℕ Global × X)) (path other : List ℕ) → KeepsOthers (eq_by_cmp key_cmp) (λ key. is_eq (slice_cmp nat_cmp path key.items)) old new → bytes_eq path other ≡ false
    → lookup (λ key. is_eq (slice_cmp nat_cmp other key.items)) new ≡ lookup (λ key. is_eq (slice_cmp nat_cmp other key.items)) old
unfolding KeepsOthers
other_values old new path other h n = h (λ key. is_eq (slice_cmp nat_cmp other key.items)) (λ x y. (eq_by_cmp_equiv nat_list_cmp_total).congr other x.items y.items) (λ key. apart path other key.items n)

-- after a change at a path
pub value-updates : {X : Type 0} (old new : BTreeMap (Vec ℕ Global) X) (path : List ℕ) (w : Option X) → UpdatesBy key_cmp (λ key. slice_cmp nat_cmp path key.items) old new w → (other : List ℕ) → value_at new other ≡ cond (bytes_eq path other) w (value_at old other)
value-updates old new path w h other =
    ⊎_elim
    (λ y. subst (λ l. value_at new l ≡ w) ((bytes_decides path other).0 y) h.1 ∙ sym (cond-true (bytes_eq path other) w (value_at old other) y))
    (λ n. other_values old.entries new.entries path other h.3 n ∙ sym (cond-false (bytes_eq path other) w (value_at old other) n))
    (cases_Bool (bytes_eq path other))
