-- The sets in a new scratch are those of the specs and of their subtree excludes.
use Rattle.std.proofs.Common.{◌≡◌, sym, ◌∙◌, ap, subst, List}
use Rattle.std.specs.Option.{ForSome}
use Rattle.gix_pathspec.specs.HeadSets.{AreHeadSetsOf}
use Rattle.gix_pathspec.specs.Members.{IsScratchOf}
use Rattle.gix_pathspec.specs.Room.{exclude_set_sources, made_sources, MemberSource}
use Rattle.gix_pathspec.specs.Search.{Numbered}
use Rattle.gix_pathspec.specs.Sets.{IsSetMade}
use Rattle.gix_pathspec.specs.SetSources.{all_sources, has_any_set, head_set_sources, SetSource}
use Rattle.gix_pathspec.proofs.ExcludeSetProofs.{excludes-made}
use Rattle.gix_pathspec.proofs.KeptSetsProofs.{own-room}
use Rattle.gix_pathspec.proofs.search.matching.scratch_for.Goals as goal

-- a scratch has sets where the specs have members
pub for_specs-requires : goal.for_specs-requires
for_specs-requires c = c.is_some-has_sets.ensures ∙ c.members.ensures.made ∙ ap (λ (ns : List Numbered). has_any_set (all_sources ns)) (sym c.counted.ensures)

pub new-requires-clause-sets : goal.new-requires-clause-sets
new-requires-clause-sets c =
    let specs = c.args.specs.now in
    let is : c.in_ok-room.room.room.members ≡ head_set_sources specs = c.in_ok-room.ensures.room.members ∙ ap head_set_sources c.counted.ensures in
    subst (λ (sources : List SetSource). AreHeadSetsOf sources c.args.sets.items) (sym is) (own-room specs c.args.sets.items c.requires.sets)

pub new-requires-clause-exclude_set : goal.new-requires-clause-exclude_set
new-requires-clause-exclude_set c =
    let own : c.in_ok-room.room.room.excludes ≡ made_sources c.args.specs.now = c.in_ok-room.ensures.room.excludes ∙ ap made_sources c.counted.ensures in
    let is : c.in_ok-room.room.room.excludes ≡ exclude_set_sources c.args.excludes.now = own ∙ sym (excludes-made c.args.specs.now) ∙ ap exclude_set_sources (sym c.requires.excludes) in
    record {
      own = subst (λ (sources : List MemberSource). ForSome c.in_ok-exclude_set.exclude_set (IsScratchOf sources)) (sym is) c.in_ok-exclude_set.ensures.own;
      made = λ made. c.in_ok-exclude_set.ensures.made (subst (λ (sources : List MemberSource). IsSetMade sources) is made);
      told = λ e. cc;
    }

pub new-requires-clause-sets_unread : goal.new-requires-clause-sets_unread
new-requires-clause-sets_unread c = c.requires.unread
