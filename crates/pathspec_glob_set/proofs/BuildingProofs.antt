-- A set of globs is made: its places and the classes of bytes.
use Rattle.std.proofs.Common.{◌≡◌, ℕ, zero, suc, ◌+◌, ◌<◌, Bool, refl, sym, ◌∙◌, ap, subst, arith, inl, inr, List, [], ◌∷◌, ◌++◌, length, get_or, set, take}
use Rattle.std.proofs.lemmas.Bool.{cases_eq, cases_lt}
use Rattle.std.proofs.lemmas.List.{get_or_default, get_or_append_left, get_or_push, get_or-set_other, get_or-set_same, length_push, take_all}
use Rattle.std.proofs.lemmas.List.Sums.{sum_by_more}
use Rattle.std.specs.List.{sum_by}
use Rattle.pathspec_glob_set.specs.declared.member.Member.{Member}
use Rattle.pathspec_glob_set.specs.declared.table.building.Classes.{Classes}
use Rattle.pathspec_glob_set.specs.Meanings.{takes_before}
use Rattle.pathspec_glob_set.specs.Questions.{AddsClass, AreClasses, AreTakenAlike}
use Rattle.pathspec_glob_set.specs.Sets.{count_places, size_of, AreEnds, IsAt, IsColumn}
use Rattle.pathspec_glob_set.specs.Sizes.{row_at}
use Rattle.pathspec_glob_set.proofs.ColumnProofs.{later}

-- ---- places

-- the places of a glob and of those before it
counted-upto : (globs : List Member) (ends : List ℕ) → AreEnds globs ends → (g : ℕ) (glob : Member) → IsAt globs g glob → suc (get_or ends g 0) ≡ sum_by (λ m. size_of m + 1) (take (g + 1) globs)
counted-upto globs ends are zero glob at =
    let more = sum_by_more (λ m. size_of m + 1) globs 0 glob at.within in
    omega (arith, are.first glob at, more, ap (λ m. size_of m) at.is)
counted-upto globs ends are (suc g) glob at =
    let more = sum_by_more (λ m. size_of m + 1) globs (suc g) glob at.within in
    let prev : IsAt globs g (get_or globs g glob) = record { within = omega (arith, at.within); is = get_or_default globs g _ _ (omega (arith, at.within)) } in
    let front = counted-upto globs ends are g (get_or globs g glob) prev in
    let next : suc g + 1 ≡ g + 1 + 1 = omega arith in
    let same : g + 1 ≡ suc g = omega arith in
    omega (arith, are.next g glob at, more, front, ap (λ m. size_of m) at.is, ap (λ k. sum_by (λ m. size_of m + 1) (take k globs)) same)

-- one more than the last place is the count of places
pub all-places : (globs : List Member) (ends : List ℕ) (places : ℕ) → AreEnds globs ends → (length ends ≡ 0 → places ≡ 0)
    → ((g : ℕ) → suc g ≡ length ends → places ≡ suc (get_or ends g 0)) → places ≡ count_places globs
all-places [] ends places are none last = none are.len
all-places (glob ∷ rest) ends places are none last =
    let globs : List Member = glob ∷ rest in
    let g = length rest in
    let within : g < length globs = omega arith in
    let at : IsAt globs g (get_or globs g glob) = record { within = within; is = get_or_default globs g _ _ within } in
    let all : take (g + 1) globs ≡ globs = take_all (g + 1) globs (omega arith) in
    last g (omega (arith, are.len)) ∙ counted-upto globs ends are g (get_or globs g glob) at ∙ ap (λ m. sum_by (λ k. size_of k + 1) m) all

-- each glob's last place is one of the places
pub ends-within : (globs : List Member) (ends : List ℕ) (places : ℕ) → AreEnds globs ends → ((g : ℕ) → suc g ≡ length ends → places ≡ suc (get_or ends g 0))
    → (g : ℕ) → g < length ends → get_or ends g 0 < places
ends-within globs [] places are last g within = absurd (let no : ⊥ = omega (arith, within) in no)
ends-within globs (e ∷ ends) places are last g within =
    omega (arith, last (length ends) (omega arith), later globs (e ∷ ends) are g (length ends) (omega (arith, are.len)) (omega (arith, within)))

-- the same of a list that equals that of the last places
pub within-places : (globs : List Member) (ends others : List ℕ) (places : ℕ) → others ≡ ends → AreEnds globs ends → ((g : ℕ) → suc g ≡ length ends → places ≡ suc (get_or ends g 0))
    → (g : ℕ) → g < length others → get_or others g 0 < places
within-places globs ends others places same are last = subst (λ k. (g : ℕ) → g < length k → get_or k g 0 < places) (sym same) (ends-within globs ends places are last)

-- ---- classes

-- a column that a class has
pub there-already : (classes : List (List Bool)) (column : List Bool) (class : ℕ) → class < length classes → row_at classes class ≡ column → AddsClass classes classes column class
there-already classes column class within is = record {
  within = within;
  is = is;
  few = omega arith;
  more = omega arith;
  others = λ c h. refl;
  added = λ c low high. absurd (let no : ⊥ = omega (arith, low, high) in no);
}

-- a column behind the classes
pub one-behind : (classes : List (List Bool)) (column : List Bool) (class : ℕ) → class ≡ length classes → AddsClass classes (classes ++ column ∷ []) column class
one-behind classes column class e =
    let long : length (classes ++ column ∷ []) ≡ length classes + 1 = length_push classes column in
    record {
      within = omega (arith, e, long);
      is = get_or_push classes column [] class (sym e);
      few = omega (arith, long);
      more = omega (arith, long);
      others = λ c h. get_or_append_left classes (column ∷ []) [] c h;
      added = λ c low high. get_or_push classes column [] c (omega (arith, low, high, long));
    }

-- the class of one byte more
pub more-classes : (globs : List Member) (ends : List ℕ) (places byte : ℕ) (old new : Classes) (column : List Bool) (class : ℕ)
    → AreClasses globs ends places byte old → AddsClass old.takes.items new.takes.items column class → length column ≡ places
    → IsColumn globs ends (λ glob i. takes_before glob.tokens glob.case i byte) column
    → get_or new.of_byte byte 0 ≡ class → ((b : ℕ) → b < byte → get_or new.of_byte b 0 ≡ get_or old.of_byte b 0)
    → AreClasses globs ends places (byte + 1) new
more-classes globs ends places byte old new column class are adds size is here others = record {
  few = omega (arith, are.few, adds.few);
  sizes = λ c h. elim (cases_lt c (length old.takes.items)) [
    | inl l ↦ ap length (adds.others c l) ∙ are.sizes c l
    | inr g ↦ ap length (adds.added c g h) ∙ size
  ];
  within = λ b h. elim (cases_eq b byte) [
    | inl e ↦ omega (arith, ap (λ k. get_or new.of_byte k 0) e, here, adds.within)
    | inr n ↦ let low : b < byte = omega (arith, h, n) in omega (arith, others b low, are.within b low, adds.more)
  ];
  takes = λ b h. elim (cases_eq b byte) [
    | inl e ↦
        let there : row_at new.takes.items (get_or new.of_byte b 0) ≡ column = ap (λ k. row_at new.takes.items (get_or new.of_byte k 0)) e ∙ ap (row_at new.takes.items) here ∙ adds.is in
        subst (IsColumn globs ends (λ glob i. takes_before glob.tokens glob.case i b)) (sym there) (subst (λ k. IsColumn globs ends (λ glob i. takes_before glob.tokens glob.case i k) column) (sym e) is)
    | inr n ↦
        let low : b < byte = omega (arith, h, n) in
        let there : row_at new.takes.items (get_or new.of_byte b 0) ≡ row_at old.takes.items (get_or old.of_byte b 0) =
        ap (row_at new.takes.items) (others b low) ∙ adds.others (get_or old.of_byte b 0) (are.within b low) in
        subst (IsColumn globs ends (λ glob i. takes_before glob.tokens glob.case i b)) (sym there) (are.takes b low)
  ];
}

-- one byte more, of the class of the byte before
pub same-class : (globs : List Member) (ends : List ℕ) (places byte b : ℕ) (old : Classes) → AreClasses globs ends places byte old → suc b ≡ byte → AreTakenAlike globs byte b → byte < length old.of_byte
    → AreClasses globs ends places (byte + 1) (record { of_byte = set old.of_byte byte (get_or old.of_byte b 0); takes = old.takes })
same-class globs ends places byte b old are e alike long =
    let class = get_or old.of_byte b 0 in
    let new : Classes = record { of_byte = set old.of_byte byte class; takes = old.takes } in
    let low : b < byte = omega (arith, e) in
    let column = row_at old.takes.items class in
    more-classes globs ends places byte old new column class are (there-already old.takes.items column class (are.within b low) refl) (are.sizes class (are.within b low))
    (λ g glob i k at few stands. are.takes b low g glob i k at few stands ∙ sym (alike g glob at i few))
    (get_or-set_same old.of_byte byte class 0 long) (λ k h. get_or-set_other old.of_byte byte k class 0 (λ same. omega (arith, same, h)))
