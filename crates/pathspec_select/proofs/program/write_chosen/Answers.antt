-- The walk over the listing's tree gives just the entries whose records are to be written.
use Rattle.std.proofs.Common.{ℕ, List, ◌∙◌, ap, subst, rules}
use Rattle.std.proofs.lemmas.List.{map-id}
use Rattle.pathspec_parts.specs.Cursors.{CursorContents}
use Rattle.pathspec_select.specs.declared.refusal.Refusal.{Refusal}
use Rattle.pathspec_select.specs.Listing.{written_entries, ListingContents}
use Rattle.pathspec_walk.specs.Walks.{IsWalk}
use Rattle.gix_pathspec.specs.Search.{specs_of}
use Rattle.pathspec_select.proofs.ProgramProofs.{mapped_ok, output-is, ends-output, refuses-listing}
use Rattle.pathspec_select.proofs.program.write_chosen.Goals as goal

pub returns-in-Err-clause-ends : goal.returns-in-Err-clause-ends
returns-in-Err-clause-ends g c = refuses-listing (g.L.LookUp.table c.args.look_up.now) c.args.search.now.specs c.args.separator (g.W.Write.contents c.args.writer.now) _ c.args.listing.now c.in-Err.error _ c.refused_listing.ensures c.in-Err.ensures.answers (search rules)

pub returns-clause-ends : goal.returns-clause-ends
returns-clause-ends g c =
    let table = g.L.LookUp.table c.args.look_up.now in
    let ns = c.args.search.now.specs in
    let separator = c.args.separator in
    let bytes = c.args.listing.now in
    let listing = c.in-Ok.listing in
    let given = c.in_ok-given.given.items in
    let walked = mapped_ok Refusal c.select.result c.in_ok-given.given c.in_ok-given.ensures.cases in
    let walk = subst (λ (numbers : List ℕ). IsWalk table (specs_of ns) c.in_ok-cursor.cursor.entries numbers c.select.new.cursor.entered) (map-id given) (rw walked at c.select.ensures.walk) in
    let es = ap (λ (l : CursorContents). l.entries) c.in_ok-cursor.ensures ∙ ap (λ (l : ListingContents). l.entries) c.in-Ok.ensures.contents in
    let marks = ap (λ (l : ListingContents). l.marks) c.in-Ok.ensures.contents in
    let written = ap (written_entries separator listing.marks) c.as_slice.ensures.value ∙ output-is table ns separator bytes listing.marks _ given _ marks es walk in
    ends-output table ns separator (g.W.Write.contents c.args.writer.now) (g.W.Write.contents c.write_records.new.writer) bytes _ c.in-Ok.ensures.answers written c.write_records.result c.write_records.ensures
