-- What a clause reads of what is looked for.
use Rattle.pathspec_faults.specs.declared.wanted.Wanted.{Wanted}
use Rattle.pathspec_faults.specs.declared.wanted.Wanted.TheVariants as told
use Rattle.pathspec_faults.specs.Places.{Wanted as Sought}

-- what is looked for
abbrev pub wanted_view : Wanted → Sought
wanted_view (told.Piece piece) = Sought.Piece piece.now
wanted_view (told.Name name) = Sought.Name name.now
wanted_view (told.Value value) = Sought.Value value.now
wanted_view (told.ValueByte byte) = Sought.ValueByte byte
