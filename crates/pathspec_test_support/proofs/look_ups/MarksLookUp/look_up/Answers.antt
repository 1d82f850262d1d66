-- The mark that goes on a reset outcome is what the table says.
use Rattle.std.proofs.Common.{◌≡◌, ℕ, true, cond, ap, ◌∙◌, List, bytes_eq, codes}
use Rattle.pathspec_parts.specs.Attributes.State.{Set}
use Rattle.pathspec_parts.specs.Outcomes.{NamedState, unspecified, names_of, reset_states, reply_of, set_state}
use Rattle.pathspec_parts.proofs.OutcomeProofs.{reset_places}
use Rattle.pathspec_test_support.proofs.look_ups.MarksLookUp.look_up.Goals as goal

-- the places of this path once they are marked
abbrev marked : List ℕ → List NamedState → List NamedState
marked path places = cond (bytes_eq path (codes "x")) (set_state places (codes "gen") Set) places

replied : (path question_path : List ℕ) (places new : List NamedState) → new ≡ marked path places → path ≡ question_path → places ≡ reset_states places → reply_of true new ≡ reply_of true (marked question_path (unspecified (names_of places)))
replied path question_path places new made same reset = ap (reply_of true) (made ∙ ap (λ p. marked p places) same ∙ ap (marked question_path) (reset_places places reset))

pub returns-in-Ok-clause-answer : goal.returns-in-Ok-clause-answer
returns-in-Ok-clause-answer c = λ reset. replied _ _ _ _ c.in-Ok.ensures.ok c.as_bytes.ensures reset
