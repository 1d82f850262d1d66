use Rattle.std.proofs.Common.{map}
use Rattle.pathspec_heads.proofs.StemProofs.{texts-stay}
use Rattle.pathspec_heads.proofs.sorted_texts.SortedTexts.of_stems.Goals as goal

pub returns : goal.returns
returns c =
    let groups = c.in_ok-grouped.field-0 in
    texts-stay (map (λ text. text.now) c.args.stems.now) groups.heads groups.starts.items groups.order.items c.in_ok-grouped.ensures.grouped
