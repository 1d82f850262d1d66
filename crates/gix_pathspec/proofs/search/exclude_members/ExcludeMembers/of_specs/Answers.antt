-- The set is made of the sources that the specs give as excludes.
use Rattle.std.proofs.Common.{rules, ◌≡◌, ◌<◌, sym, ◌∙◌, ap, subst, map}
use Rattle.pathspec_glob_set.specs.Answers.{IsSetOf}
use Rattle.pathspec_glob_set.specs.Sets.{count_places}
use Rattle.pathspec_glob_set.specs.Sizes.{most_places}
use Rattle.gix_pathspec.specs.ExcludeMembers.{AreExcludeMembersOf}
use Rattle.gix_pathspec.specs.Reach.{subtree_excludes_of}
use Rattle.gix_pathspec.specs.Room.{exclude_sources}
use Rattle.gix_pathspec.specs.Search.{specs_of}
use Rattle.gix_pathspec.specs.Sets.{member_from}
use Rattle.gix_pathspec.proofs.ExcludeSetProofs.{excludes-are}
use Rattle.gix_pathspec.proofs.search.exclude_members.ExcludeMembers.of_specs.Goals as goal

pub returns-in_default-clause-none : goal.returns-in_default-clause-none
returns-in_default-clause-none c = λ e.
    let excludes = subtree_excludes_of (specs_of c.args.specs.now) in
    let globs : c.deref-2.result.now ≡ map member_from (exclude_sources excludes) =
    c.deref-2.ensures.value ∙ c.in_ok-globs.ensures ∙ ap (map member_from) (c.deref.ensures.value ∙ c.in_ok-sources.ensures ∙ sym (excludes-are c.args.specs.now)) in
    subst (λ xs. most_places < count_places xs) globs (c.in_ok-set.ensures.none c.in_default.is)

pub returns-clause-members : goal.returns-clause-members
returns-clause-members c =
    let excludes = subtree_excludes_of (specs_of c.args.specs.now) in
    let globs : c.deref-2.result.now ≡ map member_from (exclude_sources excludes) =
    c.deref-2.ensures.value ∙ c.in_ok-globs.ensures ∙ ap (map member_from) (c.deref.ensures.value ∙ c.in_ok-sources.ensures ∙ sym (excludes-are c.args.specs.now)) in
    let set = c.in-Some.set in
    let of : IsSetOf c.deref-2.result.now set = search rules in
    subst (AreExcludeMembersOf excludes) (sym c.in_ok-new.ensures.ok) (record {
      enough = c.requires.enough;
      set = subst (λ xs. IsSetOf xs set) globs of;
      beside = c.requires.beside;
    })
