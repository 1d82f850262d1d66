-- The next place leaves out only specs that don't match; one that matches is the first, and one that doesn't leaves it to the rest.
use Rattle.std.proofs.Common.{◌≡◌, ◌+◌, ◌≤◌, ◌∙◌, true, refl, sym, subst, arith}
use Rattle.std.specs.Prelude.{is_some, IfSome}
use Rattle.bstr.specs.BStr.{bstr_bytes}
use Rattle.pathspec_heads.proofs.SearchProofs.{counts-more}
use Rattle.gix_pathspec.specs.Prefixes.{head}
use Rattle.gix_pathspec.specs.Effort.{is_unsettled_candidate}
use Rattle.gix_pathspec.specs.Room.{HasRoom}
use Rattle.gix_pathspec.specs.Beside.{IsHit}
use Rattle.gix_pathspec.specs.Sets.{any_spec, IsNext, IsNextAt}
use Rattle.gix_pathspec.proofs.EffortProofs.{match-here, match-later, same-table}
use Rattle.gix_pathspec.proofs.HeadSearchProofs.{few-more, few-test}
use Rattle.gix_pathspec.proofs.CandidateProofs.{from-next, none-after, none-next, unsettled-there}
use Rattle.gix_pathspec.proofs.BeginProofs.{head-within, kept-candidates, next-on}
use Rattle.gix_pathspec.proofs.KeptSetsProofs.{kept-self, kept-trans}
use Rattle.gix_pathspec.specs.SetSources.{all_sources}
use Rattle.gix_pathspec.proofs.by_head.first_candidate.Goals as goal

pub loop-from-init : goal.loop-from-init
loop-from-init g c = record {
  room = refl;
  within = omega arith;
  rest = refl;
  same_table = refl;
  same_count = refl;
  counted = omega (arith, c.requires.none);
  few = omega (arith, c.requires.none);
  once = λ e. omega (arith, c.requires.none);
  steps = omega (arith, c.requires.none);
  asked = c.requires.candidates;
  kept = kept-self c.args.sets.now;
  idle = λ all. all;
  none = λ p n l is. absurd (let no : ⊥ = omega (arith, l) in no);
  next = c.requires.next;
}

pub next-requires : goal.next-requires
next-requires g c = record {
  head = head-within c.args.specs.now (bstr_bytes c.args.path) c.args.candidates.now.heads.now c.args.candidates.now.head _ c.loop-from.invariant.asked.beside;
  set_head = c.requires.set_head;
  grouped = λ e. (c.loop-from.invariant.asked.begun e).grouped;
}

pub returns-in-None-clause-first : goal.returns-in-None-clause-first
returns-in-None-clause-first g c =
    let i = c.loop-from.invariant in
    let said = c.next.ensures.next c.args.specs.now (bstr_bytes c.args.path) (g.L.LookUp.table c.args.look_up.now) c.args.is_dir c.requires.bytes i.asked i.none i.next in
    sym i.rest ∙ none-next (g.L.LookUp.table c.args.look_up.now) c.args.specs.now (bstr_bytes c.args.path) c.args.is_dir c.loop-from.from (subst (IsNext any_spec c.args.specs.now (bstr_bytes c.args.path) c.loop-from.from) c.in-None.is said.0) i.within

pub returns-in-None-clause-idle : goal.returns-in-None-clause-idle
returns-in-None-clause-idle g c all = c.next.ensures.idle c.args.specs.now (bstr_bytes c.args.path) c.loop-from.invariant.asked (c.loop-from.invariant.idle all)

pub returns-in-None-clause-kept : goal.returns-in-None-clause-kept
returns-in-None-clause-kept g c = kept-trans c.args.sets.now c.loop-from.sets c.next.new.sets c.loop-from.invariant.kept c.next.ensures.kept

pub matches-requires-clause-room : goal.matches-requires-clause-room
matches-requires-clause-room g c = subst (HasRoom c.args.specs.now) (sym c.loop-from.invariant.room) c.requires.room

pub matches-requires-clause-place : goal.matches-requires-clause-place
matches-requires-clause-place g c =
    let i = c.loop-from.invariant in
    let said = c.next.ensures.next c.args.specs.now (bstr_bytes c.args.path) (g.L.LookUp.table c.args.look_up.now) c.args.is_dir c.requires.bytes i.asked i.none i.next in
    let is : IsNextAt any_spec c.args.specs.now (bstr_bytes c.args.path) c.loop-from.from c.in-Some.place = subst (IsNext any_spec c.args.specs.now (bstr_bytes c.args.path) c.loop-from.from) c.in-Some.is said.0 in
    (from-next (g.L.LookUp.table c.args.look_up.now) c.args.specs.now (bstr_bytes c.args.path) c.args.is_dir c.loop-from.from c.in-Some.place is).0

pub returns-in_err-kind-clause-few : goal.returns-in_err-kind-clause-few
returns-in_err-kind-clause-few g c =
    let i = c.loop-from.invariant in
    let said = c.next.ensures.next c.args.specs.now (bstr_bytes c.args.path) (g.L.LookUp.table c.args.look_up.now) c.args.is_dir c.requires.bytes i.asked i.none i.next in
    let is : IsNextAt any_spec c.args.specs.now (bstr_bytes c.args.path) c.loop-from.from c.in-Some.place = subst (IsNext any_spec c.args.specs.now (bstr_bytes c.args.path) c.loop-from.from) c.in-Some.is said.0 in
    let n = from-next (g.L.LookUp.table c.args.look_up.now) c.args.specs.now (bstr_bytes c.args.path) c.args.is_dir c.loop-from.from c.in-Some.place is in
    omega (arith, few-more (λ n. head n.spec) (bstr_bytes c.args.path) c.args.specs.now c.loop-from.from c.in-Some.place c.loop-from.tested is.behind n.0 n.1 i.few)

pub returns-in_err-kind-clause-idle : goal.returns-in_err-kind-clause-idle
returns-in_err-kind-clause-idle g c all = c.next.ensures.idle c.args.specs.now (bstr_bytes c.args.path) c.loop-from.invariant.asked (c.loop-from.invariant.idle all)

pub returns-in_err-kind-clause-kept : goal.returns-in_err-kind-clause-kept
returns-in_err-kind-clause-kept g c = kept-trans c.args.sets.now c.loop-from.sets c.next.new.sets c.loop-from.invariant.kept c.next.ensures.kept

pub returns-in-Some-2-clause-first : goal.returns-in-Some-2-clause-first
returns-in-Some-2-clause-first g c =
    let i = c.loop-from.invariant in
    let said = c.next.ensures.next c.args.specs.now (bstr_bytes c.args.path) (g.L.LookUp.table c.args.look_up.now) c.args.is_dir c.requires.bytes i.asked i.none i.next in
    let is : IsNextAt any_spec c.args.specs.now (bstr_bytes c.args.path) c.loop-from.from c.in-Some.place = subst (IsNext any_spec c.args.specs.now (bstr_bytes c.args.path) c.loop-from.from) c.in-Some.is said.0 in
    let n = from-next (g.L.LookUp.table c.args.look_up.now) c.args.specs.now (bstr_bytes c.args.path) c.args.is_dir c.loop-from.from c.in-Some.place is in
    match-here _ c.args.specs.now _ _ c.in-Some.place n.0 (sym n.2 ∙ i.rest) c.in-Some-2.kind
    (sym (same-table _ _ c.args.specs.now _ _ c.in-Some.place i.same_table) ∙ (sym c.in_ok-kind.ensures.answer ∙ c.in-Some-2.is))

pub returns-in-Some-2-clause-few : goal.returns-in-Some-2-clause-few
returns-in-Some-2-clause-few g c =
    let i = c.loop-from.invariant in
    let said = c.next.ensures.next c.args.specs.now (bstr_bytes c.args.path) (g.L.LookUp.table c.args.look_up.now) c.args.is_dir c.requires.bytes i.asked i.none i.next in
    let is : IsNextAt any_spec c.args.specs.now (bstr_bytes c.args.path) c.loop-from.from c.in-Some.place = subst (IsNext any_spec c.args.specs.now (bstr_bytes c.args.path) c.loop-from.from) c.in-Some.is said.0 in
    let n = from-next (g.L.LookUp.table c.args.look_up.now) c.args.specs.now (bstr_bytes c.args.path) c.args.is_dir c.loop-from.from c.in-Some.place is in
    omega (arith, few-more (λ n. head n.spec) (bstr_bytes c.args.path) c.args.specs.now c.loop-from.from c.in-Some.place c.loop-from.tested is.behind n.0 n.1 i.few)

pub returns-in-Some-2-clause-idle : goal.returns-in-Some-2-clause-idle
returns-in-Some-2-clause-idle g c all = c.next.ensures.idle c.args.specs.now (bstr_bytes c.args.path) c.loop-from.invariant.asked (c.loop-from.invariant.idle all)

pub returns-in-Some-2-clause-kept : goal.returns-in-Some-2-clause-kept
returns-in-Some-2-clause-kept g c = kept-trans c.args.sets.now c.loop-from.sets c.next.new.sets c.loop-from.invariant.kept c.next.ensures.kept

pub overflow_add-from : goal.overflow_add-from
overflow_add-from g c =
    let i = c.loop-from.invariant in
    let said = c.next.ensures.next c.args.specs.now (bstr_bytes c.args.path) (g.L.LookUp.table c.args.look_up.now) c.args.is_dir c.requires.bytes i.asked i.none i.next in
    let is : IsNextAt any_spec c.args.specs.now (bstr_bytes c.args.path) c.loop-from.from c.in-Some.place = subst (IsNext any_spec c.args.specs.now (bstr_bytes c.args.path) c.loop-from.from) c.in-Some.is said.0 in
    let n = from-next (g.L.LookUp.table c.args.look_up.now) c.args.specs.now (bstr_bytes c.args.path) c.args.is_dir c.loop-from.from c.in-Some.place is in
    omega (arith, n.0, c.len-count.ensures, c.len-count.type_inv)

pub loop-from-smaller : goal.loop-from-smaller
loop-from-smaller g c =
    let i = c.loop-from.invariant in
    let said = c.next.ensures.next c.args.specs.now (bstr_bytes c.args.path) (g.L.LookUp.table c.args.look_up.now) c.args.is_dir c.requires.bytes i.asked i.none i.next in
    let is : IsNextAt any_spec c.args.specs.now (bstr_bytes c.args.path) c.loop-from.from c.in-Some.place = subst (IsNext any_spec c.args.specs.now (bstr_bytes c.args.path) c.loop-from.from) c.in-Some.is said.0 in
    omega (arith, is.behind)

pub loop-from-preserved : goal.loop-from-preserved
loop-from-preserved g c =
    let i = c.loop-from.invariant in
    let said = c.next.ensures.next c.args.specs.now (bstr_bytes c.args.path) (g.L.LookUp.table c.args.look_up.now) c.args.is_dir c.requires.bytes i.asked i.none i.next in
    let is : IsNextAt any_spec c.args.specs.now (bstr_bytes c.args.path) c.loop-from.from c.in-Some.place = subst (IsNext any_spec c.args.specs.now (bstr_bytes c.args.path) c.loop-from.from) c.in-Some.is said.0 in
    let n = from-next (g.L.LookUp.table c.args.look_up.now) c.args.specs.now (bstr_bytes c.args.path) c.args.is_dir c.loop-from.from c.in-Some.place is in
    let away = sym (same-table _ _ c.args.specs.now _ _ c.in-Some.place i.same_table) ∙ (sym c.in_ok-kind.ensures.answer ∙ c.in_default.is) in
    let further : c.loop-from.from ≤ c.in-Some.place + 1 = omega (arith, is.behind) in
    let unsettled = λ (e : is_some c.args.candidates.now.members ≡ true).
    let hit = c.next.ensures.hit c.args.specs.now (bstr_bytes c.args.path) (g.L.LookUp.table c.args.look_up.now) c.args.is_dir c.requires.bytes i.asked i.none i.next e in
    unsettled-there (g.L.LookUp.table c.args.look_up.now) c.args.specs.now (bstr_bytes c.args.path) c.args.is_dir c.in-Some.place is.headed.0 is.headed.1 is.headed.2
    (subst (λ found. IfSome found (IsHit c.args.specs.now (bstr_bytes c.args.path))) c.in-Some.is hit) away in
    record {
      room = c.matches.ensures.room ∙ i.room;
      within = omega (arith, n.0);
      rest = match-later _ c.args.specs.now _ _ c.in-Some.place n.0 (sym n.2 ∙ i.rest) away;
      same_table = c.matches.ensures.look_up.0 ∙ i.same_table;
      same_count = c.in_ok-kind.ensures.look_up.1 ∙ i.same_count;
      counted = counts-more c.args.scratch.now.tested c.loop-from.tested c.loop-from.scratch.tested c.matches.new.scratch.tested i.counted c.matches.ensures.counted;
      few = few-more (λ n. head n.spec) (bstr_bytes c.args.path) c.args.specs.now c.loop-from.from c.in-Some.place c.loop-from.tested is.behind n.0 n.1 i.few;
      once = λ e. few-test (is_unsettled_candidate (all_sources c.args.specs.now) (bstr_bytes c.args.path)) c.args.specs.now c.loop-from.from c.in-Some.place c.loop-from.tested is.headed.0 is.behind is.headed.1 (unsettled e) (i.once e);
      steps = omega (arith, is.behind, i.steps);
      asked = kept-candidates c.args.specs.now (bstr_bytes c.args.path) c.args.candidates.now c.loop-from.sets c.next.new.sets c.next.ensures.kept i.asked;
      kept = kept-trans c.args.sets.now c.loop-from.sets c.next.new.sets i.kept c.next.ensures.kept;
      idle = λ all. c.next.ensures.idle c.args.specs.now (bstr_bytes c.args.path) i.asked (i.idle all);
      none = none-after (g.L.LookUp.table c.args.look_up.now) c.args.specs.now (bstr_bytes c.args.path) c.args.is_dir c.loop-from.from c.in-Some.place is i.none away;
      next = next-on c.args.specs.now (bstr_bytes c.args.path) c.args.candidates.now c.next.new.sets c.loop-from.from (c.in-Some.place + 1) further said.1;
    }

pub returns-clause-kept : goal.returns-clause-kept
returns-clause-kept g c = c.loop-from.invariant.kept

pub returns-clause-idle : goal.returns-clause-idle
returns-clause-idle g c = c.loop-from.invariant.idle
