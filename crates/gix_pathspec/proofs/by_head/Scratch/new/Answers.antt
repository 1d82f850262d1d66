-- No set read anything yet, and no head was compared, so the count of steps is 0.
use Rattle.std.proofs.Common.{◌≡◌, ◌+◌, refl, sym, subst, arith}
use Rattle.std.specs.List.{sum_by}
use Rattle.std.proofs.lemmas.List.Elements.{All-weaker}
use Rattle.pathspec_glob.specs.Counts.{Counts}
use Rattle.gix_pathspec.specs.declared.by_head.head_set.HeadSet.{HeadSet}
use Rattle.gix_pathspec.specs.HeadSets.{total_of, IsAtRest, IsUnread}
use Rattle.gix_pathspec.proofs.HeadCountsProofs.{unread-total}
use Rattle.gix_pathspec.proofs.by_head.Scratch.new.Goals as goal

pub invariant_of-result : goal.invariant_of-result
invariant_of-result c =
    let none : sum_by total_of c.args.sets.items + c.args.set_compares ≡ 0 = omega (arith, unread-total c.args.sets.items c.requires.sets_unread, c.requires.heads_unasked.1) in
    record {
      of_specs = c.requires.sets;
      grouped = c.requires.grouped;
      at_rest = All-weaker IsUnread IsAtRest (λ (set : HeadSet) (u : IsUnread set). u.at_rest) c.args.sets.items c.requires.sets_unread;
      counted = subst (λ k. Counts 0 k 0) (sym none) refl;
      of_excludes = c.requires.exclude_set;
    }
