-- A directory that holds nothing is passed over, one whose match takes it whole may be skipped, and the law of skipping holds of the specs of each search.
use Rattle.std.proofs.Common.{◌≡◌, ◌∙◌, ◌&&◌, not, ap, ℕ, Bool, IsTrue, List, true, false, subst, sym}
use Rattle.std.specs.Prelude.{MatchBool}
use Rattle.std.proofs.lemmas.Bool.{and_parts, both_ways}
use Rattle.std.specs.Option.{option_map}
use Rattle.bstr.specs.BStr.{bstr_bytes}
use Rattle.gix_pathspec.specs.Found.{match_view}
use Rattle.gix_pathspec.specs.Room.{ScratchContents}
use Rattle.gix_pathspec.specs.Search.{answer, specs_of, in_search_order, MatchCounts, SearchContents}
use Rattle.gix_pathspec.specs.SkipCounts.{IsSkipCounted}
use Rattle.gix_pathspec.specs.SelectionLaws.{NoNilPrefix}
use Rattle.gix_pathspec.specs.Skipping.{answer_takes_whole, holds_nothing, HaveOneCase}
use Rattle.gix_pathspec.specs.SkipTables.{holds_nothing_by_tables}
use Rattle.gix_pathspec.specs.Specs.{Spec}
use Rattle.gix_pathspec.proofs.SkipProofs.{skipped_is_not_chosen}
use Rattle.gix_pathspec.proofs.VisitProofs.{passed-counted, passed-not-chosen, passed-not-entered, passed-not-selected, visit-counted, visit-skipped}
use Rattle.gix_pathspec.proofs.SkipTableProofs.{held-by-tables}
use Rattle.gix_pathspec.proofs.search.Search.visit.Goals.{else-is_dir-via-then-is_dir+else-holds_nothing_by_tables, else-is_dir-via-else-is_dir}
use Rattle.gix_pathspec.proofs.search.Search.visit.Goals as goal

pub enters-is_entered-requires-clause-skipped : goal.enters-is_entered-requires-clause-skipped
enters-is_entered-requires-clause-skipped g c =
    λ k t. visit-skipped (g.L.LookUp.table c.args.look_up.now) c.args.self.now.specs (bstr_bytes c.args.path) c.args.is_dir (option_map match_view c.in_ok-found.found) c.in_ok-found.ensures.answer k (sym c.takes_whole-is_skipped.ensures ∙ t)

-- tables tell that the directory holds nothing
told : (specs : List Spec) (d : List ℕ) {told : Bool} → told ≡ holds_nothing_by_tables specs d → told ≡ true → holds_nothing_by_tables specs d ≡ true
told specs d answer is = sym answer ∙ is

pub returns-then-holds_nothing_by_tables-clause-answer :
    goal.returns-then-holds_nothing_by_tables-clause-answer
returns-then-holds_nothing_by_tables-clause-answer g c =
    let no_nil = subst (λ (s : SearchContents). NoNilPrefix (specs_of s.specs)) c.self.view_is c.self.invariant.has_no_nil_prefix in
    let ordered = subst (λ (s : SearchContents). in_search_order s.specs ≡ s.specs) c.self.view_is c.self.invariant.is_ordered in
    passed-not-selected (g.L.LookUp.table c.args.look_up.now) c.args.self.now.specs (bstr_bytes c.args.path) c.args.is_dir ordered no_nil c.if-is_dir.true (told _ (bstr_bytes c.args.path) c.holds_nothing_by_tables.ensures.answer c.if-holds_nothing_by_tables.true)

pub returns-then-holds_nothing_by_tables-clause-selected :
    goal.returns-then-holds_nothing_by_tables-clause-selected
returns-then-holds_nothing_by_tables-clause-selected g c some =
    let no_nil = subst (λ (s : SearchContents). NoNilPrefix (specs_of s.specs)) c.self.view_is c.self.invariant.has_no_nil_prefix in
    passed-not-chosen (g.L.LookUp.table c.args.look_up.now) (specs_of c.args.self.now.specs) (bstr_bytes c.args.path) c.args.is_dir no_nil c.if-is_dir.true (told _ (bstr_bytes c.args.path) c.holds_nothing_by_tables.ensures.answer c.if-holds_nothing_by_tables.true)

pub returns-then-holds_nothing_by_tables-clause-entered :
    goal.returns-then-holds_nothing_by_tables-clause-entered
returns-then-holds_nothing_by_tables-clause-entered g c = passed-not-entered (specs_of c.args.self.now.specs) (bstr_bytes c.args.path) c.args.is_dir (told _ (bstr_bytes c.args.path) c.holds_nothing_by_tables.ensures.answer c.if-holds_nothing_by_tables.true)

pub returns-then-holds_nothing_by_tables-clause-safe :
    goal.returns-then-holds_nothing_by_tables-clause-safe
returns-then-holds_nothing_by_tables-clause-safe g c table = rw (← c.self.view_is) (skipped_is_not_chosen table _ c.self.invariant.has_no_nil_prefix)

pub returns-then-holds_nothing_by_tables-clause-counted :
    goal.returns-then-holds_nothing_by_tables-clause-counted
returns-then-holds_nothing_by_tables-clause-counted g c = passed-counted c.args.self.now.specs (bstr_bytes c.args.path) c.args.is_dir _ c.args.scratch.now.counts c.holds_nothing_by_tables.new.scratch.counts c.if-is_dir.true
    (told _ (bstr_bytes c.args.path) c.holds_nothing_by_tables.ensures.answer c.if-holds_nothing_by_tables.true) c.holds_nothing_by_tables.ensures.begun

pub returns-in_err-found-clause-safe : goal.returns-in_err-found-clause-safe
returns-in_err-found-clause-safe g c table = rw (← c.self.view_is) (skipped_is_not_chosen table _ c.self.invariant.has_no_nil_prefix)

pub returns-clause-safe : goal.returns-clause-safe
returns-clause-safe g c table = rw (← c.self.view_is) (skipped_is_not_chosen table _ c.self.invariant.has_no_nil_prefix)

-- tables tell of each directory that holds nothing, where all excludes have one case
not_passed : {A : Type 0} (specs : List Spec) (d : List ℕ) (is_dir : Bool) → (is_dir ≡ true → holds_nothing_by_tables specs d ≡ false) → HaveOneCase specs → IsTrue (is_dir && holds_nothing specs d) → A
not_passed specs d is_dir none one h =
    let p = and_parts is_dir (holds_nothing specs d) h in
    absurd (both_ways (holds_nothing_by_tables specs d) (none p.0) (held-by-tables specs d one p.1))

pub returns-in_err-found-clause-passed_over : goal.returns-in_err-found-clause-passed_over
returns-in_err-found-clause-passed_over g c =
    let none : c.args.is_dir ≡ true → holds_nothing_by_tables (specs_of c.args.self.now.specs) (bstr_bytes c.args.path) ≡ false = elim c.else-is_dir.branch [
      | else-is_dir-via-then-is_dir+else-holds_nothing_by_tables w ↦ λ k. sym w.holds_nothing_by_tables.ensures.answer ∙ w.if-holds_nothing_by_tables.false
      | else-is_dir-via-else-is_dir w ↦ λ k. absurd (both_ways c.args.is_dir w.if-is_dir.false k)
    ] in
    not_passed (specs_of c.args.self.now.specs) (bstr_bytes c.args.path) c.args.is_dir none

pub returns-clause-passed_over : goal.returns-clause-passed_over
returns-clause-passed_over g c =
    let none : c.args.is_dir ≡ true → holds_nothing_by_tables (specs_of c.args.self.now.specs) (bstr_bytes c.args.path) ≡ false = elim c.else-is_dir.branch [
      | else-is_dir-via-then-is_dir+else-holds_nothing_by_tables w ↦ λ k. sym w.holds_nothing_by_tables.ensures.answer ∙ w.if-holds_nothing_by_tables.false
      | else-is_dir-via-else-is_dir w ↦ λ k. absurd (both_ways c.args.is_dir w.if-is_dir.false k)
    ] in
    not_passed (specs_of c.args.self.now.specs) (bstr_bytes c.args.path) c.args.is_dir none

pub returns-clause-counted : goal.returns-clause-counted
returns-clause-counted g c =
    let specs = c.args.self.now.specs in
    let path = bstr_bytes c.args.path in
    let old = c.args.scratch.now.counts in
    let mid = c.else-is_dir.scratch.counts in
    let none : c.args.is_dir ≡ true → holds_nothing_by_tables (specs_of specs) path ≡ false = elim c.else-is_dir.branch [
      | else-is_dir-via-then-is_dir+else-holds_nothing_by_tables w ↦ λ k. sym w.holds_nothing_by_tables.ensures.answer ∙ w.if-holds_nothing_by_tables.false
      | else-is_dir-via-else-is_dir w ↦ λ k. absurd (both_ways c.args.is_dir w.if-is_dir.false k)
    ] in
    let kept : (mid.tested ≡ old.tested) × (mid.compared ≡ old.compared) × (mid.stepped ≡ old.stepped) = elim c.else-is_dir.branch [
      | else-is_dir-via-then-is_dir+else-holds_nothing_by_tables w ↦
          let is = ap (λ (s : ScratchContents). s.counts) w.scratch-is in
          let begun = w.holds_nothing_by_tables.ensures.begun in
          (ap (λ (k : MatchCounts). k.tested) is ∙ begun.tested, ap (λ (k : MatchCounts). k.compared) is ∙ begun.compared, ap (λ (k : MatchCounts). k.stepped) is ∙ begun.stepped)
      | else-is_dir-via-else-is_dir w ↦
          let is = ap (λ (s : ScratchContents). s.counts) w.scratch-is in
          (ap (λ (k : MatchCounts). k.tested) is, ap (λ (k : MatchCounts). k.compared) is, ap (λ (k : MatchCounts). k.stepped) is)
    ] in
    let between = c.settle.new.scratch.counts in
    let new = c.enters-is_entered.new.scratch.counts in
    let whole : c.takes_whole-is_skipped.result ≡ answer_takes_whole (answer (g.L.LookUp.table c.args.look_up.now) specs path c.args.is_dir) = c.takes_whole-is_skipped.ensures ∙ ap answer_takes_whole c.in_ok-found.ensures.answer in
    let skipped = subst (λ b. MatchBool (c.args.is_dir && not b) (IsSkipCounted (specs_of specs) path between new) (new ≡ between)) whole c.enters-is_entered.ensures.counted in
    visit-counted specs path c.args.is_dir _ old mid between new kept.0 kept.1 kept.2 none c.in_ok-found.ensures.counted c.in_ok-found.ensures.by_set skipped
