-- What the items leave is shorter than the bytes that they are read from.
use Rattle.std.proofs.Common.{◌≡◌, if◌then◌else◌, drop, ◌<◌, length, sym, refl, ap, ◌∙◌, true, None, arith, length-drop}
use Rattle.std.proofs.lemmas.List.{take_rest}
use Rattle.std.specs.Option.{option_map}
use Rattle.pathspec_glob.proofs.Words.{bracket_view, items_view, items_hold}
use Rattle.pathspec_glob.specs.BitVecs.{words_hold}
use Rattle.pathspec_glob.proofs.TokenProofs.{items-shorter, bracket-listed}
use Rattle.pathspec_glob.proofs.reading.bracket_piece.Goals.{then-negated, else-negated}
use Rattle.pathspec_glob.proofs.reading.bracket_piece.Goals as goal

pub overflow_sub-result : goal.overflow_sub-result
overflow_sub-result c =
    let read = ap (option_map bracket_view) (sym c.in-Some.is) ∙ c.in_ok-read_items.ensures in
    let shorter : length c.in-Some.read.rest.now < length c.if-negated.listed.now = items-shorter 0 true None c.if-negated.listed.now (bracket_view c.in-Some.read) (sym read) in
    elim c.if-negated.branch [
      | then-negated w ↦ omega (arith, ap (λ listed. length listed.now) w.listed-is, length-drop 1 c.args.rest.now)
      | else-negated w ↦ omega (arith, ap (λ listed. length listed.now) w.listed-is)
    ]

pub returns-in-Some : goal.returns-in-Some
returns-in-Some c =
    let rest = c.args.rest.now in
    let negated = c.is_negated-negated.result in
    let read = ap (option_map bracket_view) (sym c.in-Some.is) ∙ c.in_ok-read_items.ensures in
    let listed : c.if-negated.listed.now ≡ (if negated then drop 1 rest else rest) = elim c.if-negated.branch [
      | then-negated w ↦ rw w.if-negated.true (ap (λ l. l.now) w.listed-is ∙ rw take_rest refl)
      | else-negated w ↦ rw w.if-negated.false (ap (λ l. l.now) w.listed-is)
    ] in
    bracket-listed rest c.if-negated.listed.now negated (bracket_view c.in-Some.read) (words_hold c.of_items.result.words) c.is_negated-negated.ensures listed read
    (λ b h. c.of_items.ensures b h ∙ ap (λ items. items_hold (items_view items) b) c.deref.ensures.value)
