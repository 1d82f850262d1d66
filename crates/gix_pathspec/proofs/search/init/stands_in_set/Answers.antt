-- A spec stands in a set where it has a source, and its head has a set.
use Rattle.std.proofs.Common.{◌≡◌, ◌∙◌, Bool, true, false, ◌&&◌, List, ℕ, sym, ap}
use Rattle.std.proofs.Math.Bool.{and-true, and-false}
use Rattle.gix_pathspec.specs.Prefixes.{head}
use Rattle.gix_pathspec.specs.Specs.{Spec}
use Rattle.gix_pathspec.specs.SetSources.{has_set_behind, has_source, stands_in_set, SetSource}
use Rattle.gix_pathspec.proofs.search.init.stands_in_set.Goals as goal

-- a spec with a source
stands-by-head : (sources : List SetSource) (s : Spec) (h : List ℕ) (found : Bool) → found ≡ has_set_behind sources h → h ≡ head s → has_source s ≡ true → found ≡ stands_in_set sources s
stands-by-head sources s h found told same has =
    told ∙ ap (has_set_behind sources) same ∙ sym (and-true (has_set_behind sources (head s))) ∙ ap (λ b. has_set_behind sources (head s) && b) (sym has)

-- and one without
stands-nowhere : (sources : List SetSource) (s : Spec) → has_source s ≡ false → false ≡ stands_in_set sources s
stands-nowhere sources s none = sym (and-false (has_set_behind sources (head s))) ∙ ap (λ b. has_set_behind sources (head s) && b) (sym none)

pub returns-then-has_headed_member : goal.returns-then-has_headed_member
returns-then-has_headed_member c sources own =
    stands-by-head sources c.args.spec.now.spec c.head.result.now c.has_head.result (c.has_head.ensures sources own) c.head.ensures (sym c.has_headed_member.ensures ∙ c.if-has_headed_member.true)

pub returns-else-has_headed_member : goal.returns-else-has_headed_member
returns-else-has_headed_member c sources own = c.if-has_headed_member.false ∙ stands-nowhere sources c.args.spec.now.spec (sym c.has_headed_member.ensures ∙ c.if-has_headed_member.false)
