use Rattle.std.proofs.Common.{◌≡◌, ◌∙◌, ◌||◌, ◌+◌, ap, sym, subst, length, arith, true, false, refl, ℕ, Bool, List}
use Rattle.std.specs.List.{list_any}
use Rattle.pathspec_glob.specs.Bytes.{fold_case, begins_with}
use Rattle.std.proofs.lemmas.Bool.{false≢true}
use Rattle.pathspec_heads.specs.declared.stems.Relation.{Relation}
use Rattle.pathspec_heads.specs.declared.stems.Relation.TheVariants.{Below, AtOrBelow, LeadsTo, LeadsToWild}
use Rattle.pathspec_heads.specs.Stems.{with_slash, is_boundary}
use Rattle.pathspec_heads.specs.Relations.{relates}
use Rattle.pathspec_heads.proofs.StemProofs.{some-below, some-at_or_below, some-leads, some-leads-wildly, front-is, fold-length, length-with_slash}
use Rattle.pathspec_heads.proofs.sorted_texts.SortedTexts.some_related.Goals as goal
use Rattle.pathspec_heads.proofs.sorted_texts.SortedTexts.some_related.Goals.{After-longest_head_of-found}

module _ (c : After-longest_head_of-found) where
  abbrev stems : List (List ℕ)
  stems = c.args.self.now

  abbrev d : List ℕ
  d = fold_case c.args.probe.now.ignore_case c.args.probe.now.path.now

  abbrev t : List ℕ
  t = with_slash c.args.probe.now.ignore_case c.args.probe.now.path.now

  -- what the relation asks for
  asked : (r : Relation) (b : Bool) → c.args.relation ≡ r → b ≡ list_any (λ x. relates r x d) stems → b ≡ list_any (λ x. relates c.args.relation x d) stems
  asked r b is e = subst (λ q. b ≡ list_any (λ x. relates q x d) stems) (sym is) e

  -- a boundary up to the path's end
  up_to_end : (n : ℕ) (b : Bool) → n ≡ length t → b ≡ list_any (is_boundary t n) stems → b ≡ list_any (is_boundary t (length d + 1)) stems
  up_to_end n b is e = e ∙ ap (λ m. list_any (is_boundary t m) stems) (omega (arith, is, length-with_slash c.args.probe.now.ignore_case c.args.probe.now.path.now, fold-length c.args.probe.now.ignore_case c.args.probe.now.path.now))

  -- one of two lists of tests, by the first
  by_first : (f e : Bool) (p q r : List ℕ → Bool) → f ≡ list_any p stems → (list_any p stems || list_any q stems) ≡ list_any r stems → (f ≡ true → e ≡ true) → (f ≡ false → e ≡ list_any q stems) → e ≡ list_any r stems
  by_first true e p q r is all first second = first refl ∙ (ap (λ x. x || list_any q stems) is ∙ all)
  by_first false e p q r is all first second = second refl ∙ (ap (λ x. x || list_any q stems) is ∙ all)

  -- one of those that lie below the path, or a boundary up to its end
  leads : (b : Bool) → (c.longest_head_of-found.result.is_front ≡ true → b ≡ true) → (c.longest_head_of-found.result.is_front ≡ false → b ≡ list_any (is_boundary t (length d + 1)) stems) → b ≡ list_any (λ x. relates LeadsTo x d) stems
  leads b first second = by_first c.longest_head_of-found.result.is_front b (λ x. begins_with x t) (is_boundary t (length d + 1)) (λ x. relates LeadsTo x d) c.longest_head_of-found.ensures.front (some-leads d stems) first second

  -- one of those that lie below the path, or that begin it
  leads_wildly : (b : Bool) → (c.longest_head_of-found.result.is_front ≡ true → b ≡ true) → (c.longest_head_of-found.result.is_front ≡ false → b ≡ list_any (λ x. begins_with t x) stems) → b ≡ list_any (λ x. relates LeadsToWild x d) stems
  leads_wildly b first second = by_first c.longest_head_of-found.result.is_front b (λ x. begins_with x t) (λ x. begins_with t x) (λ x. relates LeadsToWild x d) c.longest_head_of-found.ensures.front (some-leads-wildly d stems) first second

pub returns-in-Below : goal.returns-in-Below
returns-in-Below c =
    let found = (goal.at.returns-in-Below c).After-longest_head_of-found in
    asked found Below c.has_boundary.result c.in-Below.is
    (c.has_boundary.ensures ∙ (ap (λ n. list_any (is_boundary (t found) n) (stems found)) (sym (fold-length c.args.probe.now.ignore_case c.args.probe.now.path.now)) ∙ some-below (d found) (stems found)))

pub returns-in-AtOrBelow : goal.returns-in-AtOrBelow
returns-in-AtOrBelow c =
    let found = (goal.at.returns-in-AtOrBelow c).After-longest_head_of-found in
    asked found AtOrBelow c.has_boundary-in-AtOrBelow.result c.in-AtOrBelow.is
    (up_to_end found c.len.result c.has_boundary-in-AtOrBelow.result c.len.ensures c.has_boundary-in-AtOrBelow.ensures ∙ some-at_or_below (d found) (stems found))

pub returns-then-found : goal.returns-then-found
returns-then-found c =
    let found = (goal.at.returns-then-found c).After-longest_head_of-found in
    asked found LeadsTo c.longest_head_of-found.result.is_front c.in-LeadsTo.is (leads found c.longest_head_of-found.result.is_front (λ e. e) (λ e. absurd (false≢true (sym e ∙ c.if-found.true))))

pub returns-else-found : goal.returns-else-found
returns-else-found c =
    let found = (goal.at.returns-else-found c).After-longest_head_of-found in
    asked found LeadsTo c.has_boundary-else-found.result c.in-LeadsTo.is
    (leads found c.has_boundary-else-found.result (λ e. absurd (false≢true (sym c.if-found.false ∙ e))) (λ _. up_to_end found c.len-else-found.result c.has_boundary-else-found.result c.len-else-found.ensures c.has_boundary-else-found.ensures))

pub returns-then-found-2 : goal.returns-then-found-2
returns-then-found-2 c =
    let found = (goal.at.returns-then-found-2 c).After-longest_head_of-found in
    asked found LeadsToWild c.longest_head_of-found.result.is_front c.in-LeadsToWild.is (leads_wildly found c.longest_head_of-found.result.is_front (λ e. e) (λ e. absurd (false≢true (sym e ∙ c.if-found-2.true))))

pub returns-else-found-2 : goal.returns-else-found-2
returns-else-found-2 c =
    let found = (goal.at.returns-else-found-2 c).After-longest_head_of-found in
    asked found LeadsToWild c.is_some.result c.in-LeadsToWild.is
    (leads_wildly found c.is_some.result (λ e. absurd (false≢true (sym c.if-found-2.false ∙ e))) (λ _. c.is_some.ensures ∙ front-is (stems found) (t found) c.longest_head_of-found.result.head c.longest_head_of-found.ensures.found))
