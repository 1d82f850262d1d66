-- The longest head that begins the directory leads to all excludes that may cover it; where none does, no exclude covers it.
use Rattle.std.proofs.Common.{◌≡◌, ◌≤◌, sym, subst, List, length, map, None}
use Rattle.std.specs.List.{list_any}
use Rattle.bstr.specs.BStr.{bstr_bytes}
use Rattle.pathspec_heads.specs.Heads.{IsLastFront}
use Rattle.pathspec_heads.proofs.CandidateProofs.{no-candidates}
use Rattle.gix_pathspec.specs.Specs.{Spec}
use Rattle.gix_pathspec.specs.ExcludeSets.{covers_beside, exclude_count_beside, exclude_head_beside, AreHeadsBeside}
use Rattle.gix_pathspec.proofs.ExcludeBesideProofs.{headless-beside, longest-beside}
use Rattle.gix_pathspec.proofs.HeadSearchProofs.{none-begins}
use Rattle.gix_pathspec.proofs.SubtreeExcludeProofs.{none-passes}
use Rattle.gix_pathspec.proofs.by_head.subtree_excludes.ExcludesByHead.covers_by_heads.Goals as goal

pub candidate_covers-requires-clause-beside : goal.candidate_covers-requires-clause-beside
candidate_covers-requires-clause-beside c =
    let own = c.requires.beside in
    let places = c.args.heads.now in
    let d = bstr_bytes c.args.directory in
    let longest = c.longest_head_of-longest in
    let are = subst (λ (xs : List Spec). AreHeadsBeside own.0 xs d places) (sym c.self.view_is) own.1 in
    (own.0, longest-beside own.0 c.self.inside.excludes d c.as_bytes.result.now places longest.result.head c.in-Some.head c.in-Some.is c.as_bytes.ensures are longest.ensures.found longest.ensures.chain)

pub returns-in-Some-clause-answer : goal.returns-in-Some-clause-answer
returns-in-Some-clause-answer c asked are =
    let places = c.args.heads.now in
    let d = bstr_bytes c.args.directory in
    let longest = c.longest_head_of-longest in
    let inside = subst (λ (xs : List Spec). AreHeadsBeside asked xs d places) (sym c.self.view_is) are in
    let beside = longest-beside asked c.self.inside.excludes d c.as_bytes.result.now places longest.result.head c.in-Some.head c.in-Some.is c.as_bytes.ensures inside longest.ensures.found longest.ensures.chain in
    subst (λ (xs : List Spec). c.candidate_covers.result ≡ list_any (covers_beside asked d) xs) c.self.view_is (c.candidate_covers.ensures.answer asked beside)

pub returns-in-Some-clause-few_beside : goal.returns-in-Some-clause-few_beside
returns-in-Some-clause-few_beside c asked are =
    let places = c.args.heads.now in
    let d = bstr_bytes c.args.directory in
    let longest = c.longest_head_of-longest in
    let inside = subst (λ (xs : List Spec). AreHeadsBeside asked xs d places) (sym c.self.view_is) are in
    let beside = longest-beside asked c.self.inside.excludes d c.as_bytes.result.now places longest.result.head c.in-Some.head c.in-Some.is c.as_bytes.ensures inside longest.ensures.found longest.ensures.chain in
    subst (λ (xs : List Spec). c.candidate_covers.new.tested ≤ exclude_count_beside asked xs d) c.self.view_is (c.candidate_covers.ensures.few_beside asked beside)

pub returns-in-None-clause-answer : goal.returns-in-None-clause-answer
returns-in-None-clause-answer c asked are =
    let excludes = c.args.self.now in
    let places = c.args.heads.now in
    let d = bstr_bytes c.args.directory in
    let found = subst (λ o. IsLastFront places.heads (length places.heads) c.as_bytes.result.now o) c.in-None.is c.longest_head_of-longest.ensures.found in
    let last = subst (λ t. IsLastFront places.heads (length places.heads) t None) c.as_bytes.ensures found in
    let none = no-candidates (map (exclude_head_beside asked) excludes) places.heads places.starts places.order are.grouped d last in
    none-passes (covers_beside asked d) excludes (none-begins (exclude_head_beside asked) (covers_beside asked d) d (headless-beside asked d) excludes none)
