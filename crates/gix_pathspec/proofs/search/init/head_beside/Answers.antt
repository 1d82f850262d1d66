-- The head of a spec in a set has a star behind it.
use Rattle.std.proofs.Common.{◌≡◌, ◌∙◌, Bool, true, false, List, [], ◌∷◌, ◌++◌, ℕ, sym, ap, cond}
use Rattle.pathspec_glob.specs.Bytes.{star}
use Rattle.gix_pathspec.specs.Beside.{head_beside}
use Rattle.gix_pathspec.specs.Prefixes.{head}
use Rattle.gix_pathspec.specs.Specs.{Spec}
use Rattle.gix_pathspec.specs.SetSources.{ended, stands_in_set, SetSource}
use Rattle.gix_pathspec.proofs.search.init.head_beside.Goals as goal
use Rattle.gix_pathspec.proofs.search.init.head_beside.Goals.{then-stands_in_set+in_ok-push, else-stands_in_set}

beside-is : (sources : List SetSource) (s : Spec) (stands : Bool) → stands ≡ stands_in_set sources s → cond stands (ended (head s)) (head s) ≡ head_beside true sources s
beside-is sources s stands is = ap (λ b. cond b (ended (head s)) (head s)) is

in-set : (sources : List SetSource) (s : Spec) (stands : Bool) (old new : List ℕ) → stands ≡ stands_in_set sources s → stands ≡ true → old ≡ head s → new ≡ old ++ star ∷ [] → new ≡ head_beside true sources s
in-set sources s stands old new is on same more =
    more ∙ ap (λ h. h ++ star ∷ []) same ∙ ap (λ b. cond b (ended (head s)) (head s)) (sym on) ∙ beside-is sources s stands is

in-none : (sources : List SetSource) (s : Spec) (stands : Bool) (old : List ℕ) → stands ≡ stands_in_set sources s → stands ≡ false → old ≡ head s → old ≡ head_beside true sources s
in-none sources s stands old is off same = same ∙ ap (λ b. cond b (ended (head s)) (head s)) (sym off) ∙ beside-is sources s stands is

pub returns : goal.returns
returns c sources own =
    let s = c.args.spec.now.spec in
    let same = c.in_ok-head.ensures.items ∙ c.head.ensures in
    elim c.if-stands_in_set.branch [
      | then-stands_in_set+in_ok-push w ↦
          ap (λ v. v.items) w.head-is ∙ in-set sources s c.stands_in_set.result c.in_ok-head.head.items _ (c.stands_in_set.ensures sources own) w.if-stands_in_set.true same w.in_ok-push.ensures.items
      | else-stands_in_set w ↦
          ap (λ v. v.items) w.head-is ∙ in-none sources s c.stands_in_set.result c.in_ok-head.head.items (c.stands_in_set.ensures sources own) w.if-stands_in_set.false same
    ]
