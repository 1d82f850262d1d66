use Rattle.std.proofs.Common.{◌≡◌, ◌<◌, ◌∙◌, subst, ap, arith, get_or}
use Rattle.std.proofs.lemmas.List.{get_or_default}
use Rattle.pathspec_glob_set.specs.Moves.{IsStep}
use Rattle.pathspec_glob_set.specs.Sizes.{row_at}
use Rattle.pathspec_glob_set.specs.Tables.{cell_of, row_of, unknown}
use Rattle.pathspec_glob_set.proofs.TableProofs.{lead-row}
use Rattle.pathspec_glob_set.proofs.table.Table.lead.Goals as goal

pub returns-else-next-2-clause-leads : goal.returns-else-next-2-clause-leads
returns-else-next-2-clause-leads c =
    let table = c.args.self.now in
    let class = c.class-class.result in
    let cell = c.index-next.result.now in
    let cells = table.cells.items in
    let here : cell ≡ cell_of table.moves cells c.args.row class =
    c.index-next.ensures ∙ get_or_default cells c.place.result _ unknown c.place.ensures.within ∙ ap (λ k. get_or cells k unknown) c.place.ensures.place in
    subst (λ k. (cell < table.used) × IsStep table.moves (row_at table.moves.takes.items k) (row_of table c.args.row) (row_of table cell)) c.class-class.ensures.class
    (lead-row table c.args.row class cell c.requires.table c.class-class.ensures.within here (λ h. omega (arith, h, c.if-next.false)) (λ h. omega (arith, h, c.if-next-2.false)))
