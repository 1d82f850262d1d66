-- What the set tells of its excludes, and what those beside it tell, is told of all.
use Rattle.std.proofs.Common.{◌≡◌, true, false, rules, sym, ◌∙◌, ap, subst, List}
use Rattle.std.specs.Prelude.{is_some, IfSome}
use Rattle.std.specs.List.{list_any}
use Rattle.bstr.specs.BStr.{bstr_bytes}
use Rattle.gix_pathspec.specs.ExcludeSets.{member_covers}
use Rattle.gix_pathspec.specs.Specs.{Spec}
use Rattle.gix_pathspec.specs.SubtreeExcludes.{AreExcludePlaces}
use Rattle.gix_pathspec.proofs.ExcludeBesideProofs.{heads-alone, heads-beside-set, told-all, told-rest}
use Rattle.gix_pathspec.proofs.ExcludeMadeProofs.{asked-sources}
use Rattle.gix_pathspec.proofs.SetProofs.{all-bytes}
use Rattle.gix_pathspec.proofs.by_head.subtree_excludes.ExcludesByHead.covers.Goals as goal

pub covers_by_heads-requires-clause-beside : goal.covers_by_heads-requires-clause-beside
covers_by_heads-requires-clause-beside c =
    let places = c.deref-heads.result.now in
    let grouped = subst (λ (s : List Spec). AreExcludePlaces s places) c.self.view_is (subst (λ p. AreExcludePlaces c.self.inside.excludes p) (sym c.deref-heads.ensures) c.self.invariant.are_grouped) in
    (false, heads-alone c.args.self.now (bstr_bytes c.args.directory) places grouped)

pub returns-in_default-clause-answer : goal.returns-in_default-clause-answer
returns-in_default-clause-answer c =
    let places = c.deref-heads.result.now in
    let grouped = subst (λ (s : List Spec). AreExcludePlaces s places) c.self.view_is (subst (λ p. AreExcludePlaces c.self.inside.excludes p) (sym c.deref-heads.ensures) c.self.invariant.are_grouped) in
    c.covers_by_heads.ensures.answer false (heads-alone c.args.self.now (bstr_bytes c.args.directory) places grouped)

pub returns-then-is_covered-clause-answer : goal.returns-then-is_covered-clause-answer
returns-then-is_covered-clause-answer c =
    let d = bstr_bytes c.args.directory in
    let excludes = c.args.self.now in
    let asked = c.ask_set.ensures.asked (ap is_some c.in-Some.is) in
    let sources = c.requires.set ∙ asked-sources excludes c.members-members.result c.members-members.ensures.members asked in
    let bytes = all-bytes c.as_bytes-path.result.now (λ k. search rules) in
    let told : c.in-Some.is_covered ≡ list_any (member_covers d) excludes = subst (λ t. c.in-Some.is_covered ≡ list_any (member_covers t) excludes) c.as_bytes-path.ensures
    (subst (λ o. IfSome o (λ is_covered. is_covered ≡ list_any (member_covers c.as_bytes-path.result.now) excludes)) c.in-Some.is (c.ask_set.ensures.answer excludes sources bytes)) in
    c.if-is_covered.true ∙ told-all d excludes (sym told ∙ c.if-is_covered.true)

pub covers_by_heads-requires-else-is_covered-clause-beside : goal.covers_by_heads-requires-else-is_covered-clause-beside
covers_by_heads-requires-else-is_covered-clause-beside c =
    let some = ap is_some c.in-Some.is in
    let grouped = subst (λ (s : List Spec). AreExcludePlaces s c.deref-heads.result.now) c.self.view_is (subst (λ p. AreExcludePlaces c.self.inside.excludes p) (sym c.deref-heads.ensures) c.self.invariant.are_grouped) in (
      true,
      heads-beside-set (is_some c.members-members.result) c.args.self.now (bstr_bytes c.args.directory) c.as_bytes-path.result.now c.heads_beside.result.now (c.ask_set.ensures.asked some)
          (c.heads_beside.ensures c.args.self.now grouped c.members-members.ensures.members) c.as_bytes-path.ensures (c.ask_set.ensures.plain some),
    )

pub returns-else-is_covered-clause-answer : goal.returns-else-is_covered-clause-answer
returns-else-is_covered-clause-answer c =
    let d = bstr_bytes c.args.directory in
    let excludes = c.args.self.now in
    let some = ap is_some c.in-Some.is in
    let asked = c.ask_set.ensures.asked some in
    let sources = c.requires.set ∙ asked-sources excludes c.members-members.result c.members-members.ensures.members asked in
    let bytes = all-bytes c.as_bytes-path.result.now (λ k. search rules) in
    let told : c.in-Some.is_covered ≡ list_any (member_covers d) excludes = subst (λ t. c.in-Some.is_covered ≡ list_any (member_covers t) excludes) c.as_bytes-path.ensures
    (subst (λ o. IfSome o (λ is_covered. is_covered ≡ list_any (member_covers c.as_bytes-path.result.now) excludes)) c.in-Some.is (c.ask_set.ensures.answer excludes sources bytes)) in
    let grouped = subst (λ (s : List Spec). AreExcludePlaces s c.deref-heads.result.now) c.self.view_is (subst (λ p. AreExcludePlaces c.self.inside.excludes p) (sym c.deref-heads.ensures) c.self.invariant.are_grouped) in
    let beside = heads-beside-set (is_some c.members-members.result) excludes d c.as_bytes-path.result.now c.heads_beside.result.now asked
    (c.heads_beside.ensures excludes grouped c.members-members.ensures.members) c.as_bytes-path.ensures (c.ask_set.ensures.plain some) in
    c.covers_by_heads-else-is_covered.ensures.answer true beside ∙ told-rest d excludes (sym told ∙ c.if-is_covered.false)
