-- What a walk gives is the list of the definition.
use Rattle.std.proofs.Common.{◌≡◌, ◌∙◌, ap, map, sym}
use Rattle.std.proofs.lemmas.List.{map-id}
use Rattle.std.proofs.lemmas.Result.{IfOk-weaker}
use Rattle.pathspec_parts.specs.Cursors.{CursorContents}
use Rattle.gix_pathspec.specs.Search.{specs_of}
use Rattle.pathspec_walk.specs.Walks.{IsWalk, chosen_entries}
use Rattle.pathspec_callers.proofs.select.chosen_entries.Goals as goal

pub returns : goal.returns
returns g c =
    let table = g.L.LookUp.table c.args.look_up.now in
    let specs = specs_of c.args.search.now.specs in
    let es = c.in-Ok.cursor.entries in
    let entered = c.select.new.cursor.entered in
    let same = ap (λ (x : CursorContents). x.entries) c.in-Ok.ensures in
    IfOk-weaker c.select.result (λ given. IsWalk table specs es (map (λ n. n) given.items) entered) (λ given. given.items ≡ chosen_entries table specs c.args.tree.now.entries)
    (λ given walk. sym (map-id given.items) ∙ c.select.ensures.given es (map (λ n. n) given.items) entered walk ∙ ap (chosen_entries table specs) same) c.select.ensures.walk
