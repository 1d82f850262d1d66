-- The heads by which specs are looked for, and the sets where they told, tell which specs may match.
use Rattle.std.proofs.Common.{◌≡◌, ◌+◌, ◌%◌, ◌^◌, ◌≤◌, ◌∙◌, ℕ, true, false, sym, ap, subst, arith, length, All, List, rules}
use Rattle.std.specs.Prelude.{◌&&◌, is_some}
use Rattle.std.specs.List.{sum_by}
use Rattle.std.proofs.Math.Nat.{mod-le, mod-mod}
use Rattle.std.proofs.lemmas.Bool.{and_from, and_parts}
use Rattle.std.proofs.lemmas.List.{length-map}
use Rattle.bstr.specs.BStr.{bstr_bytes}
use Rattle.pathspec_glob.specs.Counts.{Counts}
use Rattle.pathspec_heads.specs.Groups.{IsGrouped}
use Rattle.gix_pathspec.specs.declared.by_head.head_set.HeadSet.{HeadSet}
use Rattle.gix_pathspec.specs.Beside.{head_beside}
use Rattle.gix_pathspec.specs.Bytes.{begins_with}
use Rattle.gix_pathspec.specs.EndBytes.{has_wildcard_at}
use Rattle.gix_pathspec.specs.HeadSets.{most_effort, set_heads, total_of, AreHeadSetsOf, IsAtRest, IsHeadSetOf, IsIdleBeside, IsLongestOf, IsNextOf, NoneBarred}
use Rattle.gix_pathspec.specs.Paths.{IsBytes}
use Rattle.gix_pathspec.specs.Room.{Room, ScratchContents}
use Rattle.gix_pathspec.specs.Members.{IsSetIn}
use Rattle.gix_pathspec.specs.Search.{MatchCounts}
use Rattle.gix_pathspec.specs.SetCounts.{set_total, sets_total}
use Rattle.gix_pathspec.specs.SetSources.{all_sources, head_set_sources}
use Rattle.gix_pathspec.proofs.BeginProofs.{beside-heads, candidates-of, few-compared, found-looked, longest-of, longest-within}
use Rattle.gix_pathspec.proofs.HeadCountsProofs.{total-after}
use Rattle.gix_pathspec.proofs.KeptSetsProofs.{begin-own, few-efforts, kept-own, none-barred, set-at, unbarred, written}
use Rattle.gix_pathspec.proofs.SetCountsProofs.{counts-beside}
use Rattle.gix_pathspec.proofs.SetProofs.{all-bytes}
use Rattle.gix_pathspec.proofs.by_head.first_match.Goals as goal

pub first_candidate-found-requires-clause-candidates : goal.first_candidate-found-requires-clause-candidates
first_candidate-found-requires-clause-candidates g c =
    let specs = c.args.specs.now in
    let bytes = c.as_bytes-bytes.result.now in
    let asked = c.ask_sets-tells in
    let given = c.as_mut_slice-sets.result.now in
    let now = asked.new.sets in
    let members = c.scratch.inside.specs.room.members in
    let room : members ≡ head_set_sources specs = cc (ap (λ (s : ScratchContents). s.room.members) c.scratch.view_is, c.requires.fits.members) in
    let own = begin-own specs members given now room (subst (AreHeadSetsOf members) (sym c.as_mut_slice-sets.ensures.value) c.scratch.invariant.of_specs) asked.ensures.heads asked.ensures.own in
    let places = c.scratch.inside.set_heads in
    let grouped : IsGrouped (set_heads given) places.heads places.starts places.order = subst (λ ss. IsGrouped (set_heads ss) places.heads places.starts places.order) (sym c.as_mut_slice-sets.ensures.value) c.scratch.invariant.grouped in
    let longest = longest-of (set_heads given) bytes places c.longest_head_of-begun.result.head grouped c.longest_head_of-begun.ensures.found c.longest_head_of-begun.ensures.chain in
    candidates-of specs bytes (bstr_bytes c.args.path) _ now c.as_bytes-bytes.ensures
    (record {
      beside = beside-heads specs bytes c.heads_beside-heads.result.now c.longest_head_of-head.result.head (is_some c.told_members-members.result)
          (c.heads_beside-heads.ensures specs c.requires.grouped (λ m e. c.requires.members m (c.told_members-members.ensures.same m e)))
          c.longest_head_of-head.ensures.found c.longest_head_of-head.ensures.chain
          (λ e. unbarred specs bytes given own.0 (asked.ensures.unbarred (and_parts asked.result (is_some c.args.members) (sym c.told_members-members.ensures.told ∙ e)).0));
      are = λ m e. c.requires.members m (c.told_members-members.ensures.same m e);
      own = own.1;
      begun = λ e. subst (λ hs. IsLongestOf hs bytes places c.longest_head_of-begun.result.head) (sym asked.ensures.heads) longest;
    })

pub first_candidate-found-requires-clause-set_head : goal.first_candidate-found-requires-clause-set_head
first_candidate-found-requires-clause-set_head g c =
    let bytes = c.as_bytes-bytes.result.now in
    let given = c.as_mut_slice-sets.result.now in
    let places = c.scratch.inside.set_heads in
    let grouped : IsGrouped (set_heads given) places.heads places.starts places.order = subst (λ ss. IsGrouped (set_heads ss) places.heads places.starts places.order) (sym c.as_mut_slice-sets.ensures.value) c.scratch.invariant.grouped in
    let longest = longest-of (set_heads given) bytes places c.longest_head_of-begun.result.head grouped c.longest_head_of-begun.ensures.found c.longest_head_of-begun.ensures.chain in
    longest-within (set_heads given) bytes places c.longest_head_of-begun.result.head longest

pub first_candidate-found-requires-clause-next : goal.first_candidate-found-requires-clause-next
first_candidate-found-requires-clause-next g c = λ e.
    let specs = c.args.specs.now in
    let bytes = c.as_bytes-bytes.result.now in
    let asked = c.ask_sets-tells in
    let given = c.as_mut_slice-sets.result.now in
    let now = asked.new.sets in
    let members = c.scratch.inside.specs.room.members in
    let room : members ≡ head_set_sources specs = cc (ap (λ (s : ScratchContents). s.room.members) c.scratch.view_is, c.requires.fits.members) in
    let own = begin-own specs members given now room (subst (AreHeadSetsOf members) (sym c.as_mut_slice-sets.ensures.value) c.scratch.invariant.of_specs) asked.ensures.heads asked.ensures.own in
    let tells = (and_parts asked.result (is_some c.args.members) (sym c.told_members-members.ensures.told ∙ e)).0 in
    subst (λ t. All (IsNextOf specs t 0) now) c.as_bytes-bytes.ensures (asked.ensures.next specs own.0.each (all-bytes bytes (λ k. search rules)) tells)

pub first_candidate-found-requires-clause-bytes : goal.first_candidate-found-requires-clause-bytes
first_candidate-found-requires-clause-bytes g c =
    subst IsBytes c.as_bytes-bytes.ensures (all-bytes c.as_bytes-bytes.result.now (λ k. search rules))

pub rest_sets-steps-requires-clause-longest : goal.rest_sets-steps-requires-clause-longest
rest_sets-steps-requires-clause-longest g c =
    let bytes = c.as_bytes-bytes.result.now in
    let given = c.as_mut_slice-sets.result.now in
    let places = c.scratch.inside.set_heads in
    let grouped : IsGrouped (set_heads given) places.heads places.starts places.order = subst (λ ss. IsGrouped (set_heads ss) places.heads places.starts places.order) (sym c.as_mut_slice-sets.ensures.value) c.scratch.invariant.grouped in
    let longest = longest-of (set_heads given) bytes places c.longest_head_of-begun.result.head grouped c.longest_head_of-begun.ensures.found c.longest_head_of-begun.ensures.chain in
    subst (λ hs. IsLongestOf hs bytes places c.longest_head_of-begun.result.head) (sym (c.first_candidate-found.ensures.kept.heads ∙ c.ask_sets-tells.ensures.heads)) longest

pub rest_sets-steps-requires-clause-idle : goal.rest_sets-steps-requires-clause-idle
rest_sets-steps-requires-clause-idle g c =
    let idle = subst (λ t. All (IsIdleBeside t) c.ask_sets-tells.new.sets) c.as_bytes-bytes.ensures c.ask_sets-tells.ensures.idle in
    subst (λ t. All (IsIdleBeside t) c.first_candidate-found.new.sets) (sym c.as_bytes-bytes.ensures) (c.first_candidate-found.ensures.idle idle)

pub returns-clause-counted : goal.returns-clause-counted
returns-clause-counted g c =
    let specs = c.args.specs.now in
    let seen = ap (λ (s : ScratchContents). s.counts) c.scratch.view_is in
    let grouped = c.heads_beside-heads.ensures specs c.requires.grouped (λ m e. c.requires.members m (c.told_members-members.ensures.same m e)) in
    let longest = c.longest_head_of-head in
    record {
      tested = subst (λ (k : MatchCounts). Counts k.tested c.first_candidate-found.new.tested c.first_candidate-found.new.scratch.tested) seen c.first_candidate-found.ensures.counted;
      compared = subst (λ (k : MatchCounts). Counts k.compared longest.result.compared longest.new.scratch) seen longest.ensures.counted;
      few_tested = c.first_candidate-found.ensures.few;
      few_compared = λ b small. longest.ensures.cost b (omega (arith, small, grouped.few, length-map specs (λ n. head_beside (is_some c.told_members-members.result) (all_sources specs) n.spec)));
    }

pub returns-clause-looked : goal.returns-clause-looked
returns-clause-looked g c =
    found-looked (g.L.LookUp.table c.args.look_up.now) c.args.specs.now (bstr_bytes c.args.path) c.args.is_dir c.heads_beside-heads.result.now (is_some c.told_members-members.result)
    c.first_candidate-found.new.tested c.longest_head_of-head.result.compared c.first_candidate-found.result
    (c.heads_beside-heads.ensures c.args.specs.now c.requires.grouped (λ m e. c.requires.members m (c.told_members-members.ensures.same m e)))
    c.longest_head_of-head.ensures.asked c.first_candidate-found.ensures.first c.first_candidate-found.ensures.asked

pub returns-clause-by_set : goal.returns-clause-by_set
returns-clause-by_set g c =
    let path = bstr_bytes c.args.path in
    let excludes = c.scratch.inside.exclude_set in
    let specs = c.args.specs.now in
    let bytes = c.as_bytes-bytes.result.now in
    let asked = c.ask_sets-tells in
    let given = c.as_mut_slice-sets.result.now in
    let now = asked.new.sets in
    let members = c.scratch.inside.specs.room.members in
    let room : members ≡ head_set_sources specs = cc (ap (λ (s : ScratchContents). s.room.members) c.scratch.view_is, c.requires.fits.members) in
    let own = begin-own specs members given now room (subst (AreHeadSetsOf members) (sym c.as_mut_slice-sets.ensures.value) c.scratch.invariant.of_specs) asked.ensures.heads asked.ensures.own in
    let places = c.scratch.inside.set_heads in
    let grouped : IsGrouped (set_heads given) places.heads places.starts places.order = subst (λ ss. IsGrouped (set_heads ss) places.heads places.starts places.order) (sym c.as_mut_slice-sets.ensures.value) c.scratch.invariant.grouped in
    let longest = longest-of (set_heads given) bytes places c.longest_head_of-begun.result.head grouped c.longest_head_of-begun.ensures.found c.longest_head_of-begun.ensures.chain in
    let begun : sets_total c.scratch.inside.stepped excludes ≡ c.args.scratch.now.counts.stepped = ap (λ (s : ScratchContents). s.counts.stepped) c.scratch.view_is in
    let last = c.first_candidate-found.new.sets in
    let kept = c.first_candidate-found.ensures.kept in
    let steps = c.rest_sets-steps.result in
    let compared = c.longest_head_of-begun.result.compared in
    let effort = (steps + compared) % 2 ^ 128 in
    let total = (c.scratch.inside.stepped + effort) % 2 ^ 128 in
    let counted : Counts c.scratch.inside.stepped effort total = mod-mod (c.scratch.inside.stepped + effort) (2 ^ 128) in
    let few : steps ≤ sum_by (most_effort path) last = subst (λ t. steps ≤ sum_by (most_effort t) last) c.as_bytes-bytes.ensures (c.rest_sets-steps.ensures.few (kept.few bytes asked.ensures.few)) in
    let size : length (set_heads given) ≡ length last = sym (ap (λ (hs : List (List ℕ)). length hs) (kept.heads ∙ asked.ensures.heads)) ∙ length-map last (λ (s : HeadSet). s.head) in
    let seldom = few-compared (set_heads given) places.heads compared grouped.few c.longest_head_of-begun.ensures.cost c.longest_head_of-begun.ensures.none in
    let all = few-efforts specs path last steps compared (kept.own (head_set_sources specs) own.2) few (omega (arith, seldom.0, size)) (λ e. seldom.1 (omega (arith, e, size))) in
    record {
      stepped = subst (λ k. Counts k effort (sets_total total excludes)) begun (counts-beside c.scratch.inside.stepped effort total (set_total excludes) counted);
      few_stepped = omega (arith, all, mod-le (steps + compared) (2 ^ 128));
      once = λ e. c.first_candidate-found.ensures.once (sym c.is_some.ensures ∙ e);
      told = λ made late plain went_on.
          let barred : NoneBarred path (set_heads given) = none-barred specs path given own.0 plain in
          let tells = asked.ensures.told (subst (λ t. NoneBarred t (set_heads given)) (sym c.as_bytes-bytes.ensures) barred) went_on in
          c.is_some.ensures ∙ c.told_members-members.ensures.told ∙ and_from asked.result (is_some c.args.members) tells (c.requires.made ∙ made);
      gave_up = λ e.
          let given = asked.ensures.gave_up e in
          let which = given.1 in
          let its : IsHeadSetOf (all_sources specs) which.1 = set-at (IsHeadSetOf (all_sources specs)) asked.new.sets which.0 which.1 own.1.each which.2 in
          record {
            head = which.1.head;
            enough = its.enough;
            begins = subst (λ t. begins_with t which.1.head ≡ true) c.as_bytes-bytes.ensures which.3.begins;
            plain = subst (λ t. has_wildcard_at t (length which.1.head) ≡ false) c.as_bytes-bytes.ensures which.3.plain;
            late = c.requires.late;
            silent = c.is_some.ensures ∙ c.told_members-members.ensures.told ∙ ap (λ b. b && is_some c.args.members) given.0;
          };
    }

pub invariant_of-scratch : goal.invariant_of-scratch
invariant_of-scratch g c =
    let members = c.scratch.inside.specs.room.members in
    let stepped = c.scratch.inside.stepped in
    let steps = c.rest_sets-steps.result in
    let compared = c.longest_head_of-begun.result.compared in
    let compares = c.longest_head_of-begun.new.scratch in
    let total = (stepped + (steps + compared) % 2 ^ 128) % 2 ^ 128 in
    let asked = c.ask_sets-tells in
    let kept = c.first_candidate-found.ensures.kept in
    let rest = c.rest_sets-steps in
    let value = c.as_mut_slice-sets.ensures.value in
    let given = c.as_mut_slice-sets.result.now in
    let places = c.scratch.inside.set_heads in
    let items = c.scratch.inside.sets.items in
    let back = written c.scratch.inside.sets.len rest.new.sets items c.scratch.inside.sets.ok.0 (rest.auto.sets ∙ c.first_candidate-found.auto.sets ∙ asked.auto.sets ∙ ap length value) in
    let heads : set_heads rest.new.sets ≡ set_heads items = rest.ensures.heads ∙ kept.heads ∙ asked.ensures.heads ∙ ap set_heads value in
    let all = rest.ensures.own members (kept.own members (kept-own members given asked.new.sets asked.ensures.heads (asked.ensures.own members) (subst (AreHeadSetsOf members) (sym value) c.scratch.invariant.of_specs))).each in
    let after = total-after given asked.new.sets c.first_candidate-found.new.sets c.scratch.inside.set_compares compared compares stepped steps total
    (subst (λ ss. Counts 0 (sum_by total_of ss + c.scratch.inside.set_compares) stepped) (sym value) c.scratch.invariant.counted)
    asked.ensures.begun kept.begun c.longest_head_of-begun.ensures.counted rest.ensures.counted (mod-mod (stepped + (steps + compared) % 2 ^ 128) (2 ^ 128)) in
    record {
      of_specs = subst (AreHeadSetsOf c.first_candidate-found.new.scratch.room.members) (sym back) (subst (λ (r : Room). AreHeadSetsOf r.members rest.new.sets) (sym c.first_candidate-found.ensures.room)
          (kept-own members items rest.new.sets heads (λ _. all) c.scratch.invariant.of_specs));
      grouped = subst (λ ss. IsGrouped (set_heads ss) places.heads places.starts places.order) (sym back) (subst (λ hs. IsGrouped hs places.heads places.starts places.order) (sym heads) c.scratch.invariant.grouped);
      at_rest = subst (All IsAtRest) (sym back) rest.ensures.at_rest;
      counted = subst (λ ss. Counts 0 (sum_by total_of ss + compares) total) (sym back) (subst (λ k. Counts 0 (k + compares) total) (sym rest.ensures.total) after);
      of_excludes =
          let old = subst (λ (r : Room). IsSetIn r.excludes c.scratch.inside.exclude_set c.scratch.inside.effort.excludes_gave_up) (sym c.first_candidate-found.ensures.room) c.scratch.invariant.of_excludes in
          record { own = old.own; made = old.made; told = λ e. cc };
    }
