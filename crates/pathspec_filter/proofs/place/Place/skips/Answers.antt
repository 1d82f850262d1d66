-- The other one begins with it.
use Rattle.std.proofs.Common.{◌≤◌, ◌∙◌, sym, subst, length, List, ℕ}
use Rattle.pathspec_filter.specs.Places.{SharesFront}
use Rattle.pathspec_filter.proofs.PlaceProofs.{shares-front}
use Rattle.pathspec_filter.proofs.place.Place.skips.Goals as goal

pub returns : goal.returns
returns c = λ h.
    let n = c.args.self.now.skipped in
    let wanted = c.args.wanted.now in
    let inside = subst (λ (xs : List ℕ). n ≤ length xs) (sym c.deref.ensures.value) c.requires in
    subst (λ (xs : List ℕ). SharesFront xs wanted n) c.deref.ensures.value (shares-front c.deref.result.now wanted n inside (sym c.starts_with.ensures.value ∙ h) (c.starts_with.ensures.bound h))
