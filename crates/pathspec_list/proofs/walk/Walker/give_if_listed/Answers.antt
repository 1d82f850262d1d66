-- To give a path asks the look-up no more.
use Rattle.pathspec_list.proofs.LookProofs.{asked_before}
use Rattle.pathspec_list.proofs.walk.Walker.give_if_listed.Goals as goal

pub returns-clause-look_up : goal.returns-clause-look_up
returns-clause-look_up g c = let l = c.in_ok-listed.ensures.look_up in asked_before _ _ _ _ _ l.0 l.1 c.give_if.ensures.look_up
