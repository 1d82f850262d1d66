-- All rules of the file are looked at.
use Rattle.std.proofs.Common.{◌≡◌, ◌∙◌, ℕ, sym, ap, List, [], ◌++◌, map, reverse, take, arith}
use Rattle.std.specs.List.{flat_map}
use Rattle.pathspec_attributes.specs.declared.file.RuleLine.{RuleLine}
use Rattle.pathspec_attributes.specs.Sayings.{Saying, place_view, saying_view}
use Rattle.pathspec_attributes.proofs.FindingProofs.{by-lines, found-all, line_says}
use Rattle.pathspec_attributes.proofs.sayings.push_file.Goals as goal

pub returns : goal.returns
returns c =
    let asked = c.args.asked.now in
    let rules : List RuleLine = c.args.file.now.rules.items in
    let says : RuleLine → List Saying = line_says asked.case asked.path.now asked.is_dir (place_view c.args.place) in
    let old : List Saying = map saying_view c.args.found.now.items in
    let now : List Saying = map saying_view c.loop-left.found.items in
    let none : c.loop-left.left ≡ 0 = omega (arith, c.loop-left-test.false) in
    let more : List Saying = flat_map says (reverse (take c.loop-left.left rules)) in
    let nothing : more ≡ [] = ap (λ (k : ℕ). flat_map says (reverse (take k rules))) none in
    found-all old now more (flat_map says (reverse rules)) c.loop-left.invariant.found nothing
    ∙ ap (λ xs. old ++ xs) (sym (by-lines asked.case asked.path.now asked.is_dir (place_view c.args.place) c.args.file.now))
