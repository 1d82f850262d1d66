-- Each spec's place in search order.
use Rattle.std.proofs.Common.{◌≡◌, ℕ, zero, suc, ◌+◌, ◌<◌, ◌≤◌, Bool, true, false, not, cond, refl, sym, ◌∙◌, ap, subst, List, [], ◌∷◌, ◌++◌, length, get_or, take, map, filter, arith, Option, Some, ◌⊎◌, inl, inr}
use Rattle.std.proofs.lemmas.List.{take_more, length-take-le}
use Rattle.std.proofs.lemmas.List.Sums.{length-filter, count_by-le-length}
use Rattle.std.proofs.lemmas.List.Filters.{length-filter_more, length-filter_both}
use Rattle.std.specs.List.{slice_get}
use Rattle.gix_pathspec.specs.Specs.{is_exclude}
use Rattle.gix_pathspec.specs.Search.{Numbered}
use Rattle.pathspec_commands.specs.SpecPlaces.{ArePlaces}

-- the places of specs of which these are excludes, where the next exclude has one place and the next include another
abbrev pub places_from : ℕ → ℕ → List Bool → List ℕ
places_from x y [] = []
places_from x y (true ∷ bs) = x ∷ places_from (x + 1) y bs
places_from x y (false ∷ bs) = y ∷ places_from x (y + 1) bs

-- one spec more
pub place_pushed : (x y : ℕ) (bs : List Bool) (b : Bool) → places_from x y (bs ++ b ∷ []) ≡ places_from x y bs ++ cond b (x + length (filter (λ c. c) bs)) (y + length (filter not bs)) ∷ []
place_pushed x y [] true = let e : x ≡ x + 0 = omega arith in ap (λ n. n ∷ []) e
place_pushed x y [] false = let e : y ≡ y + 0 = omega arith in ap (λ n. n ∷ []) e
place_pushed x y (true ∷ bs) true =
    let t = length (filter (λ c. c) bs) in
    let e : (x + 1) + t ≡ x + suc t = omega arith in
    ap (λ ns. x ∷ ns) (place_pushed (x + 1) y bs true) ∙ ap (λ n. x ∷ (places_from (x + 1) y bs ++ n ∷ [])) e
place_pushed x y (true ∷ bs) false = ap (λ ns. x ∷ ns) (place_pushed (x + 1) y bs false)
place_pushed x y (false ∷ bs) true = ap (λ ns. y ∷ ns) (place_pushed x (y + 1) bs true)
place_pushed x y (false ∷ bs) false =
    let t = length (filter not bs) in
    let e : (y + 1) + t ≡ y + suc t = omega arith in
    ap (λ ns. y ∷ ns) (place_pushed x (y + 1) bs false) ∙ ap (λ n. y ∷ (places_from x (y + 1) bs ++ n ∷ [])) e

-- ---- what stands at a place

module _ {X : Type 0} where
  get_front : (xs ys : List X) (j : ℕ) (v : X) → slice_get xs j ≡ Some v → slice_get (xs ++ ys) j ≡ Some v
  get_front [] ys j v h = let no : ⊥ = cc in absurd no
  get_front (x ∷ xs) ys zero v h = h
  get_front (x ∷ xs) ys (suc j) v h = get_front xs ys j v h

  get_behind : (xs ys : List X) (j : ℕ) → slice_get (xs ++ ys) (length xs + j) ≡ slice_get ys j
  get_behind [] ys j = let e : 0 + j ≡ j = omega arith in ap (slice_get ys) e
  get_behind (x ∷ xs) ys j = let e : suc (length xs) + j ≡ suc (length xs + j) = omega arith in ap (slice_get (x ∷ (xs ++ ys))) e ∙ get_behind xs ys j

  -- the value stands at a place of the first list, counted from one number, or of the second, counted from another
  abbrev StandsAt : List X → List X → ℕ → ℕ → ℕ → Option X → Type 0
  StandsAt xs ys x y n v = (j : ℕ) × (((n ≡ x + j) × (slice_get xs j ≡ v)) ⊎ ((n ≡ y + j) × (slice_get ys j ≡ v)))

  stands-by : (xs ys : List X) (n : ℕ) (v : X) → StandsAt xs ys 0 (length xs) n (Some v) → slice_get (xs ++ ys) n ≡ Some v
  stands-by xs ys n v (j, inl h) = let e : n ≡ j = omega (arith, h.0) in ap (slice_get (xs ++ ys)) e ∙ get_front xs ys j v h.1
  stands-by xs ys n v (j, inr h) = ap (slice_get (xs ++ ys)) h.0 ∙ (get_behind xs ys j ∙ h.1)

  some_at : (xs : List X) (k : ℕ) → k < length xs → (v : X) × (slice_get xs k ≡ Some v)
  some_at [] k l = absurd (omega (arith, l))
  some_at (x ∷ xs) zero l = (x, refl)
  some_at (x ∷ xs) (suc k) l = some_at xs k (omega (arith, l))

  -- one more of either
  more_first : (a : X) (xs ys : List X) (x y n : ℕ) (v : Option X) → StandsAt xs ys (x + 1) y n v → StandsAt (a ∷ xs) ys x y n v
  more_first a xs ys x y n v (j, inl h) = (suc j, inl (omega (arith, h.0), h.1))
  more_first a xs ys x y n v (j, inr h) = (j, inr h)

  more_second : (a : X) (xs ys : List X) (x y n : ℕ) (v : Option X) → StandsAt xs ys x (y + 1) n v → StandsAt xs (a ∷ ys) x y n v
  more_second a xs ys x y n v (j, inl h) = (j, inl h)
  more_second a xs ys x y n v (j, inr h) = (suc j, inr (omega (arith, h.0), h.1))

  module _ (p : X → Bool) where
    stands_from : (xs : List X) (x y k : ℕ) → k < length xs → StandsAt (filter p xs) (filter (λ a. not (p a)) xs) x y (get_or (places_from x y (map p xs)) k 0) (slice_get xs k)
    stands_from [] x y k l = absurd (omega (arith, l))
    stands_from (a ∷ xs) x y zero l = elim (p a) as (λ b. StandsAt (cond b (a ∷ filter p xs) (filter p xs)) (cond (not b) (a ∷ filter (λ c. not (p c)) xs) (filter (λ c. not (p c)) xs)) x y (get_or (places_from x y (b ∷ map p xs)) 0 0) (Some a))
        [ true ↦ (0, inl (omega arith, refl)) | false ↦ (0, inr (omega arith, refl)) ]
    stands_from (a ∷ xs) x y (suc k) l = elim (p a) as (λ b. StandsAt (cond b (a ∷ filter p xs) (filter p xs)) (cond (not b) (a ∷ filter (λ c. not (p c)) xs) (filter (λ c. not (p c)) xs)) x y (get_or (places_from x y (b ∷ map p xs)) (suc k) 0) (slice_get xs k)) [
      | true ↦ more_first a (filter p xs) (filter (λ c. not (p c)) xs) x y (get_or (places_from (x + 1) y (map p xs)) k 0) (slice_get xs k) (stands_from xs (x + 1) y k (omega (arith, l)))
      | false ↦ more_second a (filter p xs) (filter (λ c. not (p c)) xs) x y (get_or (places_from x (y + 1) (map p xs)) k 0) (slice_get xs k) (stands_from xs x (y + 1) k (omega (arith, l)))
    ]

    stands : (xs : List X) (k : ℕ) → k < length xs → slice_get (filter p xs ++ filter (λ a. not (p a)) xs) (get_or (places_from 0 (length (filter p xs)) (map p xs)) k 0) ≡ slice_get xs k
    stands xs k l =
        let v = some_at xs k l in
        let n = get_or (places_from 0 (length (filter p xs)) (map p xs)) k 0 in
        stands-by (filter p xs) (filter (λ a. not (p a)) xs) n v.0 (subst (StandsAt (filter p xs) (filter (λ a. not (p a)) xs) 0 (length (filter p xs)) n) v.1 (stands_from xs 0 (length (filter p xs)) k l)) ∙ sym v.1

    excludes_counted : (xs : List X) → length (filter (λ b. b) (map p xs)) ≡ length (filter p xs)
    excludes_counted [] = refl
    excludes_counted (a ∷ xs) = elim (p a) as (λ b. length (cond b (b ∷ filter (λ c. c) (map p xs)) (filter (λ c. c) (map p xs))) ≡ length (cond b (a ∷ filter p xs) (filter p xs)))
        [ true ↦ ap suc (excludes_counted xs) | false ↦ excludes_counted xs ]

-- ---- all places

places_count : (x y : ℕ) (bs : List Bool) → length (places_from x y bs) ≡ length bs
places_count x y [] = refl
places_count x y (true ∷ bs) = ap suc (places_count (x + 1) y bs)
places_count x y (false ∷ bs) = ap suc (places_count x (y + 1) bs)

pub are_places : (excludes : List Bool) (places : List ℕ) (total : ℕ) → total ≡ length (filter (λ b. b) excludes) → places ≡ places_from 0 total excludes → ArePlaces excludes places
are_places excludes places total t e = record {
  each = ap length e ∙ places_count 0 total excludes;
  stands = λ specs number h l.
      let q = λ (n : Numbered). is_exclude n.spec in
      let same : places ≡ places_from 0 (length (filter q specs)) (map q specs) =
      e ∙ (ap (λ m. places_from 0 m excludes) t
      ∙ (ap (λ bs. places_from 0 (length (filter (λ b. b) bs)) bs) (sym h) ∙ ap (λ m. places_from 0 m (map q specs)) (excludes_counted q specs))) in
      ap (λ ps. slice_get (filter q specs ++ filter (λ n. not (q n)) specs) (get_or ps number 0)) same ∙ stands q specs number l;
}

-- ---- a loop over what is exclude and what isn't

-- the places of the first specs, and those of the next exclude and the next include
pub record HasPlaced (excludes : List Bool) (count total : ℕ) (places : List ℕ) (excluded included : ℕ) : Type 0 where
  pub places_are : places ≡ places_from 0 total (take count excludes)
  pub excluded_is : excluded ≡ length (filter (λ b. b) (take count excludes))
  pub included_is : included ≡ total + length (filter not (take count excludes))

pub few : (p : Bool → Bool) (excludes : List Bool) (count : ℕ) → count ≤ length excludes → length (filter p (take count excludes)) ≤ count
few p excludes count l = omega (arith, length-filter p (take count excludes), count_by-le-length p (take count excludes), length-take-le count excludes l)

pub placed_none : (excludes : List Bool) (total : ℕ) → HasPlaced excludes 0 total [] 0 total
placed_none excludes total = record { places_are = refl; excluded_is = refl; included_is = omega arith }

pub placed_exclude : (excludes : List Bool) (count total : ℕ) (places : List ℕ) (excluded included : ℕ) → count < length excludes → get_or excludes count false ≡ true → HasPlaced excludes count total places excluded included → HasPlaced excludes (count + 1) total (places ++ excluded ∷ []) (excluded + 1) included
placed_exclude excludes count total places excluded included l b h =
    let at = take count excludes in
    let more : take (count + 1) excludes ≡ at ++ true ∷ [] = take_more excludes count false l ∙ ap (λ c. at ++ c ∷ []) b in
    record {
      places_are = ap (λ ns. ns ++ excluded ∷ []) h.places_are ∙ (ap (λ n. places_from 0 total at ++ n ∷ []) (h.excluded_is ∙ (let e : length (filter (λ c. c) at) ≡ 0 + length (filter (λ c. c) at) = omega arith in e)) ∙ (sym (place_pushed 0 total at true) ∙ ap (places_from 0 total) (sym more)));
      excluded_is = omega (arith, h.excluded_is, length-filter_more (λ c. c) excludes count false l, ap {B = ℕ} (λ c. cond c 1 0) b);
      included_is = omega (arith, h.included_is, length-filter_more not excludes count false l, ap {B = ℕ} (λ c. cond (not c) 1 0) b);
    }

pub placed_include : (excludes : List Bool) (count total : ℕ) (places : List ℕ) (excluded included : ℕ) → count < length excludes → get_or excludes count false ≡ false → HasPlaced excludes count total places excluded included → HasPlaced excludes (count + 1) total (places ++ included ∷ []) excluded (included + 1)
placed_include excludes count total places excluded included l b h =
    let at = take count excludes in
    let more : take (count + 1) excludes ≡ at ++ false ∷ [] = take_more excludes count false l ∙ ap (λ c. at ++ c ∷ []) b in
    record {
      places_are = ap (λ ns. ns ++ included ∷ []) h.places_are ∙ (ap (λ n. places_from 0 total at ++ n ∷ []) h.included_is ∙ (sym (place_pushed 0 total at false) ∙ ap (places_from 0 total) (sym more)));
      excluded_is = omega (arith, h.excluded_is, length-filter_more (λ c. c) excludes count false l, ap {B = ℕ} (λ c. cond c 1 0) b);
      included_is = omega (arith, h.included_is, length-filter_more not excludes count false l, ap {B = ℕ} (λ c. cond (not c) 1 0) b);
    }

filter_take_le : (p : Bool → Bool) (bs : List Bool) (k : ℕ) → length (filter p (take k bs)) ≤ length (filter p bs)
filter_take_le p [] zero = omega arith
filter_take_le p [] (suc k) = omega arith
filter_take_le p (b ∷ bs) zero = omega arith
filter_take_le p (b ∷ bs) (suc k) = elim (p b) as (λ t. length (cond t (b ∷ filter p (take k bs)) (filter p (take k bs))) ≤ length (cond t (b ∷ filter p bs) (filter p bs)))
    [ true ↦ omega (arith, filter_take_le p bs k) | false ↦ filter_take_le p bs k ]

-- the next include's place is below the number of specs
pub room_include : (excludes : List Bool) (count total : ℕ) (places : List ℕ) (excluded included : ℕ) → count < length excludes → get_or excludes count false ≡ false → total ≡ length (filter (λ b. b) excludes) → HasPlaced excludes count total places excluded included → included + 1 ≤ length excludes
room_include excludes count total places excluded included l b t h =
    omega (arith, h.included_is, t, length-filter_more not excludes count false l, ap {B = ℕ} (λ c. cond (not c) 1 0) b, filter_take_le not excludes (count + 1), length-filter_both (λ c. c) not (λ _. refl) excludes)
