-- The names so far are those of the pieces so far.
use Rattle.std.proofs.Common.{◌≡◌, map}
use Rattle.std.specs.List.{filter}
use Rattle.pathspec_list.specs.Names.{is_kept, texts_of}
use Rattle.pathspec_list.proofs.disk.names.kept_names.Given as goal

abbrev pub invariant-loop-name : goal.invariant-loop-name
invariant-loop-name l = texts_of l.names.items ≡ filter is_kept (map (λ piece. piece.now) l.yielded)
