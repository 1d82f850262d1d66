-- Rows that go on from a reset outcome reply as their table says.
use Rattle.std.proofs.Common.{◌≡◌, ℕ, true, ap, ◌∙◌, List}
use Rattle.pathspec_parts.specs.Outcomes.{NamedState, names_of, states_of, unspecified, reset_states, reply_of}
use Rattle.pathspec_parts.specs.AttributeRows.{Row, apply_rows, rows_of}
use Rattle.pathspec_parts.proofs.OutcomeProofs.{reset_places}
use Rattle.pathspec_parts.specs.AttributeRows.{RowsContents}
use Rattle.pathspec_parts.proofs.attributes.rows.RowsLookUp.look_up.Goals as goal

replied : (rows given : List Row) (path question_of : List ℕ) (places new : List NamedState) → new ≡ apply_rows path places given → path ≡ question_of → given ≡ rows → places ≡ reset_states places
    → reply_of true new ≡ record { found = true; states = states_of (apply_rows question_of (unspecified (names_of places)) rows) }
replied rows given path question_of places new applied same_path same_rows reset =
    ap (reply_of true) (applied ∙ ap (λ p. apply_rows p places given) same_path ∙ ap (apply_rows question_of places) same_rows ∙ ap (λ ps. apply_rows question_of ps rows) (reset_places places reset))

pub returns-in-Ok-clause-answer : goal.returns-in-Ok-clause-answer
returns-in-Ok-clause-answer c = λ reset.
    replied _ _ _ _ _ _ c.in-Ok.ensures.ok c.as_bytes-2.ensures (ap rows_of c.deref.ensures.value ∙ ap (λ (held : RowsContents). held.rows) c.self.view_is) reset
