-- A walk that enters each directory that it sees and that can hold a chosen path sees each chosen entry.
use Rattle.std.proofs.Common.{◌≡◌, ℕ, zero, suc, ◌<◌, ◌≤◌, Bool, true, sym, ◌∙◌, ap, subst, List, length, get_or, arith, Some}
use Rattle.std.proofs.lemmas.Bool.{true_from_ne_false, false_from_ne_true, not_from_false, not-true, both_ways}
use Rattle.std.proofs.lemmas.List.{take_all}
use Rattle.std.proofs.lemmas.List.Elements.{All-from_get_or, Contains-get_or}
use Rattle.std.proofs.lemmas.Option.{slice_get_within}
use Rattle.std.specs.Prelude.{◌↔◌, slice_get, Contains, IsTrue, All}
use Rattle.pathspec_parts.specs.Attributes.{Table}
use Rattle.pathspec_parts.specs.Entries.{Entry, entries_where}
use Rattle.pathspec_parts.specs.Trees.{IsNested, HasBytePaths}
use Rattle.pathspec_parts.proofs.EntryProofs.{Contains-entries_where, entries_where-rising}
use Rattle.pathspec_parts.proofs.SeenProofs.{seen_from, from_seen}
use Rattle.gix_pathspec.specs.Specs.{Spec}
use Rattle.gix_pathspec.specs.Matching.{IsChosen, is_chosen, spec_matches}
use Rattle.gix_pathspec.specs.Plain.{is_plain}
use Rattle.gix_pathspec.specs.Pruning.{can_match}
use Rattle.gix_pathspec.specs.Skipping.{may_skip}
use Rattle.gix_pathspec.specs.SkipLaws.{ArePlain, CaseAgrees}
use Rattle.gix_pathspec.specs.PruningLaws.{HasOnlyIncludes, CanTake}
use Rattle.gix_pathspec.specs.SelectionLaws.{NoNilPrefix, SpecPathsAreBytes}
use Rattle.gix_pathspec.proofs.ChosenProofs.{chosen_is_test}
use Rattle.gix_pathspec.proofs.SkipProofs.{skipped_is_not_chosen, skips_more}
use Rattle.gix_pathspec.proofs.SkipExactProofs.{skip_is_exact}
use Rattle.gix_pathspec.proofs.SharpPruningProofs.{pruning_is_sharp}
use Rattle.pathspec_walk.specs.Walks.{Enters, IsSafePruning, TakenIsSeen, IsEntryWith, IsDirectoryWith, LiesWithin, IsWalk, can_hold, HoldsSome, chosen_entries, HasWalked, WalkHolds}

-- P of each element, from P of what the list contains
All-from_Contains : (P : ℕ → Type 0) (xs : List ℕ) → ((x : ℕ) → Contains xs x → P x) → All P xs
All-from_Contains P xs h = All-from_get_or P xs 0 (λ i l. h (get_or xs i 0) (Contains-get_or xs i 0 l))

-- ---- each directory above an entry that is taken is entered

-- by the numbers above the entry, the outermost first
above_entered : (can_enter : List ℕ → Bool) (takes : List ℕ → Bool → Bool) → IsSafePruning can_enter takes → (es : List Entry) (end : ℕ) (entered : List ℕ) → IsNested es → Enters can_enter es end entered
    → (n : ℕ) (e : Entry) → n ≤ end → slice_get es n ≡ Some e → IsTrue (takes e.path e.is_dir) → (k m : ℕ) → m < k → Contains e.above m → Contains entered m
above_entered can_enter takes safe es end entered nested enters n e le stands taken zero m lt above = absurd (omega (arith, lt))
above_entered can_enter takes safe es end entered nested enters n e le stands taken (suc k) m lt above =
    let r = nested.above n m e stands above in
    let d = r.directory in
    enters.all m (record {
      entry = d;
      stands = r.stands;
      before = omega (arith, r.before, le);
      is_dir = r.is_dir;
      can_be_entered = safe e.path d.path e.is_dir taken r.below;
      seen = seen_from entered d (λ j b.
          let q = nested.above m j d r.stands b in
          above_entered can_enter takes safe es end entered nested enters n e le stands taken k j (omega (arith, q.before, lt)) (r.through j b));
    })

pub taken_is_seen : (can_enter : List ℕ → Bool) (takes : List ℕ → Bool → Bool) → TakenIsSeen can_enter takes
taken_is_seen can_enter takes safe es end entered nested enters n e le stands taken =
    seen_from entered e (λ m above. above_entered can_enter takes safe es end entered nested enters n e le stands taken (suc m) m (omega arith) above)

-- Pruning is safe in this sense.
pub can_hold_is_safe : (table : Table) (specs : List Spec) → NoNilPrefix specs → IsSafePruning (can_hold specs) (is_chosen table specs)
can_hold_is_safe table specs none path d is_dir taken below =
    not_from_false (may_skip specs d) (false_from_ne_true (may_skip specs d) (λ skipped. skipped_is_not_chosen table specs none d skipped path is_dir below ((chosen_is_test table specs path is_dir).0 taken)))

-- ---- a walk to the end

module _ (table : Table) (specs : List Spec) (none : NoNilPrefix specs) (spec_bytes : SpecPathsAreBytes specs) (es : List Entry) (entered : List ℕ) (nested : IsNested es) (bytes : HasBytePaths es) (walked : HasWalked specs es (length es) entered) where
  -- of the chosen entries
  chosen_holds : (n : ℕ) → Contains (chosen_entries table specs es) n → IsEntryWith es (λ e. IsChosen table specs e.path e.is_dir) n
  chosen_holds n c = let r = (Contains-entries_where (is_chosen table specs) es n).0 c in (r.0, r.1, (chosen_is_test table specs r.0.path r.0.is_dir).0 r.2)

  chosen_contains : (n : ℕ) → IsEntryWith es (λ e. IsChosen table specs e.path e.is_dir) n → Contains (chosen_entries table specs es) n
  chosen_contains n h = (Contains-entries_where (is_chosen table specs) es n).1 (h.0, h.1, (chosen_is_test table specs h.0.path h.0.is_dir).1 h.2)

  chosen_within : (n : ℕ) → Contains (chosen_entries table specs es) n → IsEntryWith es (LiesWithin entered) n
  chosen_within n c =
      let r = (Contains-entries_where (is_chosen table specs) es n).0 c in
      let inside : n < length es = slice_get_within es n r.0 r.1 in
      let seen = taken_is_seen (can_hold specs) (is_chosen table specs) (can_hold_is_safe table specs none) es (length es) entered nested walked n r.0 (omega (arith, inside)) r.1 r.2 in
      (r.0, r.1, λ m above. from_seen entered r.0 m seen above)

  -- of the entered ones
  entered_holds : (n : ℕ) → Contains entered n → IsDirectoryWith es (λ d. IsTrue (can_hold specs d)) n
  entered_holds n c = let r = walked.are n c in (r.entry, r.stands, (r.is_dir, r.can_be_entered))

  entered_within : (n : ℕ) → Contains entered n → IsEntryWith es (LiesWithin entered) n
  entered_within n c = let r = walked.are n c in (r.entry, r.stands, λ m above. from_seen entered r.entry m r.seen above)

  entered_takes : HasOnlyIncludes is_plain specs → (n : ℕ) → Contains entered n → IsDirectoryWith es (CanTake (spec_matches table) specs) n
  entered_takes plain n c =
      let r = walked.are n c in
      let sharp = pruning_is_sharp table specs spec_bytes plain r.entry.path (Some true) (nested.paths n r.entry r.stands) (bytes n r.entry r.stands) (λ e. cc) in
      let can = true_from_ne_false (can_match specs r.entry.path (Some true)) (λ pruned. both_ways (may_skip specs r.entry.path) (not-true (may_skip specs r.entry.path) r.can_be_entered) (skips_more specs r.entry.path pruned)) in
      (r.entry, r.stands, (r.is_dir, sharp.0 can))

  -- exactly those at or below which something is chosen
  entered_exact : ArePlain specs → CaseAgrees specs → (m : ℕ) → Contains entered m ↔ HoldsSome table specs es entered m
  entered_exact plain agrees m =
      let exact = λ (e : Entry) (stands : slice_get es m ≡ Some e). skip_is_exact table specs none spec_bytes plain agrees e.path (nested.paths m e stands) (bytes m e stands) in (
        λ c.
            let r = walked.are m c in
            record { entry = r.entry; stands = r.stands; is_dir = r.is_dir; seen = r.seen; holds = (exact r.entry r.stands).0 (not-true (may_skip specs r.entry.path) r.can_be_entered) },
        λ h. walked.all m (record {
          entry = h.entry;
          stands = h.stands;
          before = slice_get_within es m h.entry h.stands;
          is_dir = h.is_dir;
          can_be_entered = not_from_false (may_skip specs h.entry.path) ((exact h.entry h.stands).1 h.holds);
          seen = h.seen;
        }),
      )

  walk_of_chosen : IsWalk table specs es (chosen_entries table specs es) entered
  walk_of_chosen = record {
    given_rising = entries_where-rising (is_chosen table specs) es;
    given_chosen = λ n. (chosen_holds n, chosen_contains n);
    entered_rising = walked.rising;
    entered_can_hold = All-from_Contains (IsDirectoryWith es (λ d. IsTrue (can_hold specs d))) entered entered_holds;
    above_given = All-from_Contains (IsEntryWith es (LiesWithin entered)) (chosen_entries table specs es) chosen_within;
    above_entered = All-from_Contains (IsEntryWith es (LiesWithin entered)) entered entered_within;
    entered_exact = entered_exact;
    entered_sharp = λ plain. All-from_Contains (IsDirectoryWith es (CanTake (spec_matches table) specs)) entered (entered_takes plain);
  }

pub walk_holds : (table : Table) (specs : List Spec) → WalkHolds table specs
walk_holds table specs none spec_bytes es given entered nested bytes h =
    let same : given ≡ chosen_entries table specs es = h.given_is ∙ ap (entries_where (is_chosen table specs)) (take_all (length es) es (omega arith)) in
    subst (λ (ns : List ℕ). IsWalk table specs es ns entered) (sym same) (walk_of_chosen table specs none spec_bytes es entered nested bytes h.enters)
