-- A sort moves the names, and so their texts.
use Rattle.std.proofs.Common.{subst}
use Rattle.std.specs.List.Sorted.{IsPermutation}
use Rattle.std.proofs.lemmas.List.Sorted.{IsPermutation-map}
use Rattle.pathspec_list.specs.Names.{texts_of}
use Rattle.pathspec_list.proofs.disk.names.names_of.Goals as goal

pub returns-clause-kept : goal.returns-clause-kept
returns-clause-kept c =
    subst (λ texts. IsPermutation texts (texts_of c.sort_unstable.new.self.items)) c.in_ok-names.ensures
    (IsPermutation-map (λ name. name.items) c.in_ok-names.names.items c.sort_unstable.new.self.items c.sort_unstable.ensures.permutation)
