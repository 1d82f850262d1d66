-- The names so far are the bytes that the directory has given.
use Rattle.std.proofs.Common.{◌-◌, ◌^◌, ◌≤◌, vec_len, vec_capacity}
use Rattle.std.specs.Io.KnownBytes.{Consumes}
use Rattle.pathspec_list.proofs.disk.reading.read_names.Given as goal

abbrev pub invariant-loop-count : goal.invariant-loop-count
invariant-loop-count g l = record {
  given : Consumes (g.D.Read.remaining l.fn.directory) (g.D.Read.remaining l.directory) l.names.items;
  room : vec_capacity l.fn.names ≤ vec_capacity l.names;
}

abbrev pub decreases-loop-count : goal.decreases-loop-count
decreases-loop-count g l = 2 ^ 64 - vec_len l.names
