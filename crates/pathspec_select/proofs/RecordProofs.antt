-- The tree of a listing has its records as entries, so what is written for it is told by the entries that a walk gives.
use Rattle.std.proofs.Common.{◌≡◌, ℕ, zero, suc, ◌+◌, ◌-◌, ◌<◌, Bool, true, false, cond, refl, sym, ◌∙◌, ap, subst, List, [], ◌∷◌, ◌++◌, length, take, drop, map, replicate, ◌==◌, arith, inl, inr, Option, Some, None, append_assoc}
use Rattle.std.proofs.lemmas.Bool.{cases_Bool}
use Rattle.std.proofs.lemmas.List.{append-nil, map-append, length-map, length-take, take-take, take_all, take_at, drop_at, length_push, take-map, take-append-drop}
use Rattle.std.proofs.lemmas.List.Sums.{common_prefix_len-le}
use Rattle.std.proofs.lemmas.List.Splits.{join_with_byte-slice_split, length-slice_split}
use Rattle.std.proofs.lemmas.Slice.Eq.{bytes_eq-Decides}
use Rattle.std.specs.Prelude.{slice_get, filter, filter_map, flat_map, bytes_eq, option_and_then}
use Rattle.std.specs.List.{common_prefix_len, AllZip}
use Rattle.pathspec_parts.specs.Bytes.{slash}
use Rattle.pathspec_parts.specs.Paths.{join_names}
use Rattle.pathspec_parts.specs.Attributes.{Table}
use Rattle.pathspec_parts.specs.Entries.{Call, OpenDirectory, Entry, own_call, names_of, entries_from, entries_where}
use Rattle.pathspec_parts.specs.Entries.Call.{Open, Close}
use Rattle.pathspec_parts.proofs.RecordProofs.{take-less, take-common_prefix_len, last_cases}
use Rattle.pathspec_parts.proofs.EntryProofs.{numbers_from, numbers_from-yes, numbers_from-no}
use Rattle.gix_pathspec.specs.Specs.{Spec}
use Rattle.gix_pathspec.specs.Matching.{is_chosen}
use Rattle.pathspec_parts.specs.Records.{record_path, record_is_dir, record_names, parent_names, own_names, open_after, shared_depth, implied_names, calls_from, listing_entries}
use Rattle.pathspec_select.specs.Listing.{marks_from, written_of, output, IsEntryOf, RecordsAreEntries, OutputByWalk}
use Rattle.pathspec_walk.specs.Walks.{chosen_entries}
use Rattle.pathspec_walk.proofs.EnteredProofs.{given_is_one}

-- ---- calls in a row

-- directories that are closed
entries_from-closes : (n : ℕ) (directories : List OpenDirectory) (k : ℕ) (calls : List Call) → entries_from n directories (replicate k Close ++ calls) ≡ entries_from n (take (length directories - k) directories) calls
entries_from-closes n directories zero calls = ap (λ o. entries_from n o calls) (sym (take_all (length directories - 0) directories (omega arith)))
entries_from-closes n directories (suc k) calls = entries_from-closes n (take (length directories - 1) directories) k calls ∙ ap (λ o. entries_from n o calls) (take-less k directories)

-- directories that are opened, from number n on
abbrev opened_from : ℕ → List (List ℕ) → List OpenDirectory
opened_from n [] = []
opened_from n (name ∷ names) = record { number = n; name = name } ∷ opened_from (n + 1) names

names_of-opened_from : (n : ℕ) (names : List (List ℕ)) → names_of (opened_from n names) ≡ names
names_of-opened_from n [] = refl
names_of-opened_from n (name ∷ names) = ap (λ t. name ∷ t) (names_of-opened_from (n + 1) names)

-- they are only implied
zip-implied : (n : ℕ) (directories : List OpenDirectory) (names : List (List ℕ)) (calls : List Call) (marks : List (Option (List ℕ)))
    → AllZip IsEntryOf (entries_from (n + length names) (directories ++ opened_from n names) calls) marks → AllZip IsEntryOf (entries_from n directories (map Open names ++ calls)) (replicate (length names) None ++ marks)
zip-implied n directories [] calls marks h =
    let e : n + 0 ≡ n = omega arith in
    subst (λ k. AllZip IsEntryOf (entries_from k directories calls) marks) e (subst (λ o. AllZip IsEntryOf (entries_from (n + 0) o calls) marks) (append-nil directories) h)
zip-implied n directories (name ∷ names) calls marks h =
    let d : OpenDirectory = record { number = n; name = name } in
    let e : n + suc (length names) ≡ (n + 1) + length names = omega arith in (
      refl,
      zip-implied (n + 1) (directories ++ d ∷ []) names calls marks (subst (λ k. AllZip IsEntryOf (entries_from k ((directories ++ d ∷ []) ++ opened_from (n + 1) names) calls) marks) e
          (subst (λ o. AllZip IsEntryOf (entries_from (n + suc (length names)) o calls) marks) (sym (append_assoc directories (d ∷ []) (opened_from (n + 1) names))) h)),
    )

-- ---- one record

-- the directories that are open after an entry of either kind
abbrev directories_after : Bool → List OpenDirectory → ℕ → List ℕ → List OpenDirectory
directories_after is_dir directories n name = cond is_dir (directories ++ record { number = n; name = name } ∷ []) directories

zip-own : (is_dir : Bool) (n : ℕ) (directories : List OpenDirectory) (name : List ℕ) (calls : List Call) (marks : List (Option (List ℕ))) (r : List ℕ) → record_is_dir r ≡ is_dir → join_names (names_of directories ++ name ∷ []) ≡ record_path r
    → AllZip IsEntryOf (entries_from (n + 1) (directories_after is_dir directories n name) calls) marks → AllZip IsEntryOf (entries_from n directories (own_call is_dir name ∷ calls)) (Some r ∷ marks)
zip-own true n directories name calls marks r d p h = ((p, sym d), h)
zip-own false n directories name calls marks r d p h = ((p, sym d), h)

names_of-directories_after : (is_dir : Bool) (directories : List OpenDirectory) (n : ℕ) (name : List ℕ) (front : List (List ℕ)) → names_of directories ≡ front → names_of (directories_after is_dir directories n name) ≡ cond is_dir (front ++ name ∷ []) front
names_of-directories_after true directories n name front e = map-append (λ d. d.name) directories (record { number = n; name = name } ∷ []) ∙ ap (λ t. t ++ name ∷ []) e
names_of-directories_after false directories n name front e = e

-- the names of a record: those of its parents, and its own
record IsNamed (r : List ℕ) (name : List ℕ) : Type 0 where
  own : own_names r ≡ name ∷ []
  path : join_names (parent_names r ++ name ∷ []) ≡ record_path r
  after : open_after r ≡ cond (record_is_dir r) (parent_names r ++ name ∷ []) (parent_names r)

named : (r : List ℕ) → (name : List ℕ) × IsNamed r name
named r =
    let names = record_names r in
    let some : 0 < length names = omega (arith, length-slice_split (λ b. b == slash) (record_path r)) in
    let c = last_cases names some in
    let front = c.0 in
    let name = c.1 in
    let k : length front ≡ length names - 1 = omega (arith, ap length c.2, length_push front name) in
    let parents : parent_names r ≡ front = ap (take (length names - 1)) c.2 ∙ take_at front (name ∷ []) (length names - 1) k in
    let all : parent_names r ++ name ∷ [] ≡ names = ap (λ t. t ++ name ∷ []) parents ∙ sym c.2 in (
      name,
      record {
        own = ap (drop (length names - 1)) c.2 ∙ drop_at front (name ∷ []) (length names - 1) k;
        path = ap join_names all ∙ join_with_byte-slice_split slash (record_path r);
        after = ap (λ t. cond (record_is_dir r) t (parent_names r)) (sym all);
      },
    )

-- ---- all records

zip-records : (rs : List (List ℕ)) (n : ℕ) (directories : List OpenDirectory) → AllZip IsEntryOf (entries_from n directories (calls_from (names_of directories) rs)) (marks_from (names_of directories) rs)
zip-records [] n directories = tt
zip-records (r ∷ rs) n directories =
    let names = names_of directories in
    let shared = shared_depth names (parent_names r) in
    let implied = implied_names names (parent_names r) in
    let q = named r in
    let name = q.0 in
    let is_dir = record_is_dir r in
    let kept = take shared directories in
    let parents = kept ++ opened_from n implied in
    let k = n + length implied in
    let kept_names : names_of kept ≡ take shared (parent_names r) = sym (take-map (λ d. d.name) shared directories) ∙ take-common_prefix_len names (parent_names r) in
    let parents_names : names_of parents ≡ parent_names r =
    map-append (λ d. d.name) kept (opened_from n implied) ∙ (ap (λ t. t ++ names_of (opened_from n implied)) kept_names ∙ (ap (λ t. take shared (parent_names r) ++ t) (names_of-opened_from n implied) ∙ take-append-drop shared (parent_names r))) in
    let after = directories_after is_dir parents k name in
    let after_names : names_of after ≡ open_after r = names_of-directories_after is_dir parents k name (parent_names r) parents_names ∙ sym q.1.after in
    let later_calls = calls_from (open_after r) rs in
    let later_marks = marks_from (open_after r) rs in
    let rest : AllZip IsEntryOf (entries_from (k + 1) after later_calls) later_marks =
    subst (λ (t : List (List ℕ)). AllZip IsEntryOf (entries_from (k + 1) after (calls_from t rs)) (marks_from t rs)) after_names (zip-records rs (k + 1) after) in
    let own : AllZip IsEntryOf (entries_from k parents (own_call is_dir name ∷ later_calls)) (Some r ∷ later_marks) =
    zip-own is_dir k parents name later_calls later_marks r refl (ap (λ t. join_names (t ++ name ∷ [])) parents_names ∙ q.1.path) rest in
    let all = zip-implied n kept implied (own_call is_dir name ∷ later_calls) (Some r ∷ later_marks) own in
    let closes : List Call = replicate (length names - shared) Close in
    let count : length directories - (length names - shared) ≡ shared = omega (arith, length-map directories (λ d. d.name), common_prefix_len-le bytes_eq names (parent_names r)) in
    let calls_are : calls_from names (r ∷ rs) ≡ closes ++ (map Open implied ++ own_call is_dir name ∷ later_calls) =
    ap (λ t. ((closes ++ map Open implied) ++ map (own_call is_dir) t) ++ later_calls) q.1.own
    ∙ (append_assoc (closes ++ map Open implied) (own_call is_dir name ∷ []) later_calls ∙ append_assoc closes (map Open implied) (own_call is_dir name ∷ later_calls)) in
    let entries_are : entries_from n directories (calls_from names (r ∷ rs)) ≡ entries_from n kept (map Open implied ++ own_call is_dir name ∷ later_calls) =
    ap (entries_from n directories) calls_are ∙ (entries_from-closes n directories (length names - shared) (map Open implied ++ own_call is_dir name ∷ later_calls)
    ∙ ap (λ j. entries_from n (take j directories) (map Open implied ++ own_call is_dir name ∷ later_calls)) count) in
    let marks_are : marks_from names (r ∷ rs) ≡ replicate (length implied) None ++ Some r ∷ later_marks = append_assoc (replicate (length implied) None) (Some r ∷ []) later_marks in
    subst (λ (marks : List (Option (List ℕ))). AllZip IsEntryOf (entries_from n directories (calls_from names (r ∷ rs))) marks) (sym marks_are)
    (subst (λ (es : List Entry). AllZip IsEntryOf es (replicate (length implied) None ++ Some r ∷ later_marks)) (sym entries_are) all)

-- directories that are only implied have no record
filter_map-implied : (k : ℕ) (marks : List (Option (List ℕ))) → filter_map (λ mark. mark) (replicate k None ++ marks) ≡ filter_map (λ mark. mark) marks
filter_map-implied zero marks = refl
filter_map-implied (suc k) marks = filter_map-implied k marks

filter_map-marks_from : (names rs : List (List ℕ)) → filter_map (λ mark. mark) (marks_from names rs) ≡ rs
filter_map-marks_from names [] = refl
filter_map-marks_from names (r ∷ rs) =
    let k = length (implied_names names (parent_names r)) in
    ap (filter_map (λ mark. mark)) (append_assoc (replicate k None) (Some r ∷ []) (marks_from (open_after r) rs))
    ∙ (filter_map-implied k (Some r ∷ marks_from (open_after r) rs) ∙ ap (λ t. r ∷ t) (filter_map-marks_from (open_after r) rs))

pub records_are_entries : (rs : List (List ℕ)) → RecordsAreEntries rs
records_are_entries rs = record { each = zip-records rs 0 []; all = filter_map-marks_from [] rs }

-- ---- what is written

get-seam : {X : Type 0} (before : List X) (x : X) (rest : List X) → slice_get (before ++ x ∷ rest) (length before) ≡ Some x
get-seam [] x rest = refl
get-seam (y ∷ before) x rest = get-seam before x rest

module _ (takes : List ℕ → Bool → Bool) (separator : ℕ) where
  abbrev passes : Entry → Bool
  passes e = takes e.path e.is_dir

  -- what is written for the entry with a number
  abbrev written_at : List (Option (List ℕ)) → ℕ → List ℕ
  written_at marks n = written_of separator (option_and_then (λ mark. mark) (slice_get marks n))

  -- what is written for the records among these marks
  abbrev written : List (Option (List ℕ)) → List ℕ
  written marks = flat_map (λ r. r ++ separator ∷ []) (filter (λ r. takes (record_path r) (record_is_dir r)) (filter_map (λ mark. mark) marks))

  written-yes : (e : Entry) (mark : Option (List ℕ)) (marks : List (Option (List ℕ))) → IsEntryOf e mark → passes e ≡ true → written_of separator mark ++ written marks ≡ written (mark ∷ marks)
  written-yes e None marks h y = refl
  written-yes e (Some r) marks h y =
      let same : takes (record_path r) (record_is_dir r) ≡ true = ap (λ x. takes x (record_is_dir r)) (sym h.0) ∙ (ap (takes e.path) (sym h.1) ∙ y) in
      rw same refl

  written-no : (e : Entry) (mark : Option (List ℕ)) (marks : List (Option (List ℕ))) → IsEntryOf e mark → passes e ≡ false → written marks ≡ written (mark ∷ marks)
  written-no e None marks h f = refl
  written-no e (Some r) marks h f =
      let same : takes (record_path r) (record_is_dir r) ≡ false = ap (λ x. takes x (record_is_dir r)) (sym h.0) ∙ (ap (takes e.path) (sym h.1) ∙ f) in
      rw same refl

  written-from : (es : List Entry) (before marks : List (Option (List ℕ))) → AllZip IsEntryOf es marks → flat_map (written_at (before ++ marks)) (numbers_from passes (length before) es) ≡ written marks
  written-from [] before [] h = refl
  written-from [] before (mark ∷ marks) h = absurd h
  written-from (e ∷ es) before [] h = absurd h
  written-from (e ∷ es) before (mark ∷ marks) h =
      let all = before ++ mark ∷ marks in
      let more = written-from es (before ++ mark ∷ []) marks h.1 in
      let rest : flat_map (written_at all) (numbers_from passes (length before + 1) es) ≡ written marks =
      subst (λ k. flat_map (written_at all) (numbers_from passes k es) ≡ written marks) (length_push before mark) (subst (λ t. flat_map (written_at t) (numbers_from passes (length (before ++ mark ∷ [])) es) ≡ written marks) (append_assoc before (mark ∷ []) marks) more) in
      elim (cases_Bool (passes e)) [
        | inl y ↦ ap (flat_map (written_at all)) (numbers_from-yes passes (length before) e es y)
            ∙ (ap (λ o. written_of separator (option_and_then (λ mark. mark) o) ++ flat_map (written_at all) (numbers_from passes (length before + 1) es)) (get-seam before mark marks)
            ∙ (ap (λ t. written_of separator mark ++ t) rest ∙ written-yes e mark marks h.0 y))
        | inr f ↦ ap (flat_map (written_at all)) (numbers_from-no passes (length before) e es f) ∙ (rest ∙ written-no e mark marks h.0 f)
      ]

-- by the chosen entries
written_by_chosen : (table : Table) (specs : List Spec) (separator : ℕ) (rs : List (List ℕ)) → flat_map (written_at (is_chosen table specs) separator (marks_from [] rs)) (chosen_entries table specs (listing_entries rs)) ≡ output table specs separator rs
unfolding output entries_where
written_by_chosen table specs separator rs =
    written-from (is_chosen table specs) separator (listing_entries rs) [] (marks_from [] rs) (records_are_entries rs).each
    ∙ ap (λ t. flat_map (λ r. r ++ separator ∷ []) (filter (λ r. is_chosen table specs (record_path r) (record_is_dir r)) t)) (filter_map-marks_from [] rs)

pub output_by_walk : (table : Table) (specs : List Spec) → OutputByWalk table specs
output_by_walk table specs separator rs given entered walk =
    sym (written_by_chosen table specs separator rs) ∙ ap (flat_map (written_at (is_chosen table specs) separator (marks_from [] rs))) (sym (given_is_one table specs (listing_entries rs) given entered walk))
