-- What each rule says is decided behind what the rules before it said.
use Rattle.std.proofs.Common.{◌≡◌, ◌∙◌, ℕ, ◌+◌, ◌<◌, sym, ap, subst, false, List, [], length, map, take, get_or, arith}
use Rattle.std.proofs.Math.ListN.{get_or-map}
use Rattle.std.proofs.Math.Seq.{take-length}
use Rattle.std.proofs.lemmas.List.{length-map, take_min}
use Rattle.std.specs.Prelude.{min}
use Rattle.pathspec_attributes.specs.Deciding.{Macro, knows}
use Rattle.pathspec_attributes.specs.Sayings.{Saying, all_said, decided_in, saying_view}
use Rattle.pathspec_attributes.specs.Views.{macros_view, marked}
use Rattle.pathspec_attributes.proofs.FindingProofs.{first-at, said-more}
use Rattle.pathspec_attributes.proofs.LeadingProofs.{leads-behind, leads-marks}
use Rattle.pathspec_attributes.proofs.sayings.decider.Goals as goal

pub loop-saying-preserved : goal.loop-saying-preserved
loop-saying-preserved c =
    let macros : List Macro = macros_view c.args.macros.now in
    let all : List Saying = map saying_view c.args.sayings.now in
    let i : ℕ = c.loop-saying.saying-index in
    let s : Saying = saying_view c.saying-item.result in
    let size : length all ≡ length c.args.sayings.now = length-map c.args.sayings.now saying_view in
    let at : s ≡ get_or all i s = ap saying_view c.saying-item.is ∙ sym (get_or-map saying_view c.args.sayings.now i c.saying-item.result) in
    let below : i < length all = omega (arith, size, c.loop-saying-test.true) in
    record {
      leads = leads-behind macros (all_said (take (i + 1) all)) (said-more all i s below at) c.loop-saying.invariant.leads c.in_ok-decide.ensures.leads;
      undecided = sym c.is_marked.ensures ∙ c.if-is_marked.false;
    }

pub returns-then-is_marked : goal.returns-then-is_marked
returns-then-is_marked c =
    let macros : List Macro = macros_view c.args.macros.now in
    let all : List Saying = map saying_view c.args.sayings.now in
    let i : ℕ = c.loop-saying.saying-index in
    let s : Saying = saying_view c.saying-item.result in
    let size : length all ≡ length c.args.sayings.now = length-map c.args.sayings.now saying_view in
    let at : s ≡ get_or all i s = ap saying_view c.saying-item.is ∙ sym (get_or-map saying_view c.args.sayings.now i c.saying-item.result) in
    let below : i < length all = omega (arith, size, c.loop-saying-test.true) in
    let was = leads-marks macros (all_said (take i all)) (marked c.forget.new.self) (marked c.loop-saying.room.marks) c.in_ok-nothing.nothing c.loop-saying.nothing c.forget.ensures c.loop-saying.invariant.leads c.args.name.now in
    let one = leads-behind macros (all_said (take (i + 1) all)) (said-more all i s below at) c.loop-saying.invariant.leads c.in_ok-decide.ensures.leads in
    let now = leads-marks macros (all_said (take (i + 1) all)) (marked c.forget.new.self) (marked c.decide.new.room.marks) c.in_ok-nothing.nothing c.decide.new.out c.forget.ensures one c.args.name.now in
    first-at all i s below at macros c.args.name.now (sym was ∙ c.loop-saying.invariant.undecided) (sym now ∙ (sym c.is_marked.ensures ∙ c.if-is_marked.true))

pub returns : goal.returns
returns c =
    let macros : List Macro = macros_view c.args.macros.now in
    let all : List Saying = map saying_view c.args.sayings.now in
    let i : ℕ = c.loop-saying.saying-index in
    let size : length all ≡ length c.args.sayings.now = length-map c.args.sayings.now saying_view in
    let full : min i (length all) ≡ length all = omega (arith, size, c.loop-saying-test.false) in
    let whole : take i all ≡ all = sym (take_min i all) ∙ (ap (λ n. take n all) full ∙ take-length all) in
    let was = leads-marks macros (all_said (take i all)) (marked c.forget.new.self) (marked c.loop-saying.room.marks) c.in_ok-nothing.nothing c.loop-saying.nothing c.forget.ensures c.loop-saying.invariant.leads c.args.name.now in
    subst (λ (list : List Saying). knows (decided_in macros list) c.args.name.now ≡ false) whole (sym was ∙ c.loop-saying.invariant.undecided)
