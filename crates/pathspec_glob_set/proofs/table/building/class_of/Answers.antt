use Rattle.std.proofs.Common.{◌≡◌, ◌<◌, ◌∙◌, sym, subst, arith, length, get_or, []}
use Rattle.std.proofs.lemmas.List.{get_or_default}
use Rattle.pathspec_glob_set.specs.Questions.{AddsClass}
use Rattle.pathspec_glob_set.proofs.BuildingProofs.{one-behind, there-already}
use Rattle.pathspec_glob_set.proofs.table.building.class_of.Goals as goal

pub returns-in_ok-push : goal.returns-in_ok-push
returns-in_ok-push c =
    let classes = c.args.classes.now.items in
    let class = c.place_of-class.result in
    subst (λ k. AddsClass classes k c.args.column class) (sym c.in_ok-push.ensures.items) (one-behind classes c.args.column class (omega arith))

pub returns-else-class-len : goal.returns-else-class-len
returns-else-class-len c =
    let classes = c.args.classes.now.items in
    let class = c.place_of-class.result in
    let within : class < length classes = omega arith in
    let found : class < length classes → get_or classes class c.args.column ≡ c.args.column =
    subst (λ k. class < length k → get_or k class c.args.column ≡ c.args.column) c.deref.ensures.value c.place_of-class.ensures.found in
    there-already classes c.args.column class within (get_or_default classes class [] c.args.column within ∙ found within)
