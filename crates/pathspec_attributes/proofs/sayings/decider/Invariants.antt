use Rattle.std.proofs.Common.{◌≡◌, ◌≤◌, [], false, length, map, take}
use Rattle.pathspec_attributes.specs.Leading.{Leads}
use Rattle.pathspec_attributes.specs.Sayings.{all_said, saying_view}
use Rattle.pathspec_attributes.specs.Views.{macros_view, marked}
use Rattle.pathspec_attributes.proofs.sayings.decider.Given as goal

abbrev pub invariant-loop-saying : goal.invariant-loop-saying
invariant-loop-saying l = record {
  leads : Leads (macros_view l.macros)
      (all_said (take l.saying-index (map saying_view l.sayings))) (marked l.initial.room.marks) l.initial.nothing
      [] (marked l.room.marks) l.nothing;
  undecided : marked l.room.marks l.name ≡ false;
}
