-- The new row has the number that its path gets.
use Rattle.std.proofs.Common.{◌≡◌, ◌∙◌, sym, ap, subst, map, List, [], ◌∷◌, ◌++◌, length, rules}
use Rattle.std.proofs.lemmas.List.{map-append, length-map}
use Rattle.pathspec_parts.specs.AttributeStates.{assignment_view}
use Rattle.pathspec_parts.specs.AttributeRows.{Row, rows_of}
use Rattle.pathspec_parts.specs.RowNumbers.{HaveRowNumbers, AddsNumber}
use Rattle.pathspec_parts.proofs.RowNumberProofs.{numbers-more}
use Rattle.pathspec_parts.proofs.attributes.rows.Rows.push.Goals as goal

pub invariant_of-self-2 : goal.invariant_of-self-2
invariant_of-self-2 c =
    let rows = rows_of c.self.inside.rows.items in
    let row : Row = record { path = c.args.path.now; assignments = map assignment_view c.args.assignments.items } in
    let new = c.add_number.new.numbers in
    let is : rows_of c.push.new.self.items ≡ rows ++ row ∷ [] =
    ap rows_of (c.in_ok-push.ensures.items ∙ ap (λ t. t ++ (c.in_ok-from_slice.field-0, c.args.assignments) ∷ []) c.reserve.ensures.items)
    ∙ (map-append _ c.self.inside.rows.items ((c.in_ok-from_slice.field-0, c.args.assignments) ∷ []) ∙ ap (λ p. rows ++ record { path = p; assignments = map assignment_view c.args.assignments.items } ∷ []) c.in_ok-from_slice.ensures.items) in
    let all : c.len.result ≡ length c.reserve.new.self.items = search rules in
    let count : c.len.result ≡ length rows = all ∙ (ap length c.reserve.ensures.items ∙ sym (length-map c.self.inside.rows.items _)) in
    let added : AddsNumber c.self.inside.numbers new c.args.path.now (length rows) = subst (AddsNumber c.self.inside.numbers new c.args.path.now) count c.in_ok-add_number.ensures.ok in
    subst (λ (rs : List Row). HaveRowNumbers rs new) (sym is) (numbers-more rows row c.self.inside.numbers new c.self.invariant added)
