-- The next place leaves out only excludes that cover nothing beside the set; one that covers the directory is enough, and one that doesn't leaves it to the rest.
use Rattle.std.proofs.Common.{◌∙◌, sym, arith}
use Rattle.bstr.specs.BStr.{bstr_bytes}
use Rattle.pathspec_heads.proofs.SearchProofs.{counts-more}
use Rattle.gix_pathspec.specs.ExcludeSets.{covers_beside, is_headed_beside}
use Rattle.gix_pathspec.proofs.ExcludeBesideProofs.{fewer-beside, next-exclude, no-exclude}
use Rattle.gix_pathspec.proofs.HeadSearchProofs.{few-test}
use Rattle.gix_pathspec.proofs.SubtreeExcludeProofs.{passes-at, fails-at, none-passes, none-left-passes}
use Rattle.gix_pathspec.proofs.by_head.subtree_excludes.candidate_covers.Goals as goal

pub next_place-requires : goal.next_place-requires
next_place-requires c = c.requires.beside.1.within

pub returns-in-None-clause-answer : goal.returns-in-None-clause-answer
returns-in-None-clause-answer c asked beside =
    let i = c.loop-from.invariant in
    let d = bstr_bytes c.args.directory in
    let excludes = c.args.excludes.now in
    none-passes (covers_beside asked d) excludes (sym (i.rest asked beside) ∙ no-exclude asked excludes d c.args.heads.now c.args.head c.loop-from.from beside c.next_place.result c.next_place.ensures c.in-None.is i.within)

pub covers-requires-clause-place : goal.covers-requires-clause-place
covers-requires-clause-place c =
    let own = c.requires.beside in
    (next-exclude own.0 c.args.excludes.now (bstr_bytes c.args.directory) c.args.heads.now c.args.head c.loop-from.from own.1 c.next_place.result c.next_place.ensures c.in-Some.place c.in-Some.is).within

pub returns-then-covers-clause-answer : goal.returns-then-covers-clause-answer
returns-then-covers-clause-answer c asked beside =
    let d = bstr_bytes c.args.directory in
    let excludes = c.args.excludes.now in
    let n = next-exclude asked excludes d c.args.heads.now c.args.head c.loop-from.from beside c.next_place.result c.next_place.ensures c.in-Some.place c.in-Some.is in
    passes-at (covers_beside asked d) excludes c.in-Some.place n.spec n.there (sym c.if-covers.true ∙ (c.covers.ensures.answer n.spec n.there ∙ n.own))

pub returns-in-None-clause-few : goal.returns-in-None-clause-few
returns-in-None-clause-few c =
    let own = c.requires.beside in
    omega (arith, c.loop-from.invariant.few own.0 own.1, fewer-beside own.0 (bstr_bytes c.args.directory) c.args.excludes.now)

pub returns-in-None-clause-few_beside : goal.returns-in-None-clause-few_beside
returns-in-None-clause-few_beside c asked beside = omega (arith, c.loop-from.invariant.few asked beside)

pub returns-then-covers-clause-few : goal.returns-then-covers-clause-few
returns-then-covers-clause-few c =
    let own = c.requires.beside in
    let d = bstr_bytes c.args.directory in
    let excludes = c.args.excludes.now in
    let n = next-exclude own.0 excludes d c.args.heads.now c.args.head c.loop-from.from own.1 c.next_place.result c.next_place.ensures c.in-Some.place c.in-Some.is in
    omega (arith, few-test (is_headed_beside own.0 d) excludes c.loop-from.from c.in-Some.place c.loop-from.tested n.spec n.behind n.there n.headed (c.loop-from.invariant.few own.0 own.1), fewer-beside own.0 d excludes)

pub returns-then-covers-clause-few_beside : goal.returns-then-covers-clause-few_beside
returns-then-covers-clause-few_beside c asked beside =
    let d = bstr_bytes c.args.directory in
    let excludes = c.args.excludes.now in
    let n = next-exclude asked excludes d c.args.heads.now c.args.head c.loop-from.from beside c.next_place.result c.next_place.ensures c.in-Some.place c.in-Some.is in
    omega (arith, few-test (is_headed_beside asked d) excludes c.loop-from.from c.in-Some.place c.loop-from.tested n.spec n.behind n.there n.headed (c.loop-from.invariant.few asked beside))

pub returns-clause-few : goal.returns-clause-few
returns-clause-few c =
    let own = c.requires.beside in
    omega (arith, c.loop-from.invariant.few own.0 own.1, fewer-beside own.0 (bstr_bytes c.args.directory) c.args.excludes.now)

pub returns-clause-few_beside : goal.returns-clause-few_beside
returns-clause-few_beside c asked beside = omega (arith, c.loop-from.invariant.few asked beside)

pub overflow_add-from : goal.overflow_add-from
overflow_add-from c =
    let own = c.requires.beside in
    let n = next-exclude own.0 c.args.excludes.now (bstr_bytes c.args.directory) c.args.heads.now c.args.head c.loop-from.from own.1 c.next_place.result c.next_place.ensures c.in-Some.place c.in-Some.is in
    omega (arith, n.within, c.len-count.ensures, c.len-count.type_inv)

pub loop-from-preserved : goal.loop-from-preserved
loop-from-preserved c =
    let i = c.loop-from.invariant in
    let own = c.requires.beside in
    let d = bstr_bytes c.args.directory in
    let excludes = c.args.excludes.now in
    let places = c.args.heads.now in
    let n = next-exclude own.0 excludes d places c.args.head c.loop-from.from own.1 c.next_place.result c.next_place.ensures c.in-Some.place c.in-Some.is in
    record {
      room = c.covers.ensures.room ∙ i.room;
      within = omega (arith, n.within);
      rest = λ asked beside.
          let m = next-exclude asked excludes d places c.args.head c.loop-from.from beside c.next_place.result c.next_place.ensures c.in-Some.place c.in-Some.is in
          sym (fails-at (covers_beside asked d) excludes c.in-Some.place m.spec m.there (sym c.if-covers.false ∙ (c.covers.ensures.answer m.spec m.there ∙ m.own))) ∙ (sym m.rest ∙ i.rest asked beside);
      counted = counts-more c.args.scratch.now.tested c.loop-from.tested c.loop-from.scratch.tested c.covers.new.scratch.tested i.counted c.covers.ensures.counted;
      few = λ asked beside.
          let m = next-exclude asked excludes d places c.args.head c.loop-from.from beside c.next_place.result c.next_place.ensures c.in-Some.place c.in-Some.is in
          few-test (is_headed_beside asked d) excludes c.loop-from.from c.in-Some.place c.loop-from.tested m.spec m.behind m.there m.headed (i.few asked beside);
      steps = omega (arith, n.behind, i.steps);
    }

pub returns-clause-answer : goal.returns-clause-answer
returns-clause-answer c asked beside =
    let i = c.loop-from.invariant in
    none-left-passes (covers_beside asked (bstr_bytes c.args.directory)) c.args.excludes.now c.loop-from.from (omega (arith, c.loop-from-test.false, c.len-count.ensures)) (i.rest asked beside)
