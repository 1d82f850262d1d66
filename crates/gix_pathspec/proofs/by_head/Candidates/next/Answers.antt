-- Of the next spec beside the sets and their next member the first is next.
use Rattle.std.proofs.Common.{◌∙◌, sym, ap, subst}
use Rattle.std.specs.Prelude.{is_some, IfSome}
use Rattle.gix_pathspec.specs.Beside.{is_beside, IsHit}
use Rattle.gix_pathspec.specs.Sets.{any_spec, IsKindAt, IsNext}
use Rattle.gix_pathspec.specs.SetSources.{all_sources}
use Rattle.gix_pathspec.proofs.CandidateProofs.{all-beside, both-hit, both-next}
use Rattle.gix_pathspec.proofs.KeptSetsProofs.{kept-own, kept-self}
use Rattle.gix_pathspec.proofs.by_head.Candidates.next.Goals as goal

pub returns-in_default-clause-next : goal.returns-in_default-clause-next
returns-in_default-clause-next c specs path table is_dir bytes are none next =
    let other = c.next_beside-other.result in
    let beside = subst (λ b. IsNext (is_beside b (all_sources specs)) specs path c.args.from other) (ap is_some c.in_default.is) (c.next_beside-other.ensures.next specs path _ are.beside) in
    (all-beside specs path c.args.from other beside, next)

pub returns-in_default-clause-kept : goal.returns-in_default-clause-kept
returns-in_default-clause-kept c = kept-self c.args.sets.now

pub returns-clause-next : goal.returns-clause-next
returns-clause-next c specs path table is_dir bytes are none next =
    let other = c.next_beside-other.result in
    let is_asked = ap is_some c.in-Some.is in
    let places = c.places.ensures ∙ (are.are c.in-Some.members c.in-Some.is).places in
    let beside = subst (λ b. IsNext (is_beside b (all_sources specs)) specs path c.args.from other) is_asked (c.next_beside-other.ensures.next specs path _ are.beside) in
    let said = c.next_of_sets.ensures.next specs path table is_dir (are.begun is_asked) bytes places none (next is_asked) in
    (subst (IsNext any_spec specs path c.args.from) (sym c.earlier.ensures) (both-next specs path c.args.from c.args.sets.now are.own other c.next_of_sets.result beside said.0), λ e. said.1)

pub returns-clause-hit : goal.returns-clause-hit
returns-clause-hit c specs path table is_dir bytes are none next is_asked =
    let other = c.next_beside-other.result in
    let places = c.places.ensures ∙ (are.are c.in-Some.members c.in-Some.is).places in
    let beside = subst (λ b. IfSome other (IsKindAt (is_beside b (all_sources specs)) specs)) (ap is_some c.in-Some.is) (c.next_beside-other.ensures.beside specs path _ are.beside) in
    let said = c.next_of_sets.ensures.next specs path table is_dir (are.begun is_asked) bytes places none (next is_asked) in
    subst (λ found. IfSome found (IsHit specs path)) (sym c.earlier.ensures) (both-hit specs path other c.next_of_sets.result beside said.2)

pub returns-clause-kept : goal.returns-clause-kept
returns-clause-kept c = record {
  own = λ sources own. kept-own sources c.args.sets.now c.next_of_sets.new.sets c.next_of_sets.ensures.heads (c.next_of_sets.ensures.own sources) own;
  few = c.next_of_sets.ensures.few;
  heads = c.next_of_sets.ensures.heads;
  begun = c.next_of_sets.ensures.begun;
}

pub returns-clause-idle : goal.returns-clause-idle
returns-clause-idle c specs path are idle = c.next_of_sets.ensures.idle path (are.begun (ap is_some c.in-Some.is)) idle

pub next_of_sets-requires-clause-grouped : goal.next_of_sets-requires-clause-grouped
next_of_sets-requires-clause-grouped c = c.requires.grouped (ap is_some c.in-Some.is)
