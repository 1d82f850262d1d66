-- The attributes that a searcher holds.
use Rattle.pathspec_c.specs.declared.searcher.Attributes.{Attributes}
use Rattle.pathspec_c.specs.declared.searcher.Attributes.TheVariants as held
use Rattle.pathspec_c.specs.Searchers.{GivenAttributes}
use Rattle.pathspec_c.specs.Searchers.GivenAttributes.{NoneGiven, RowsGiven, FilesGiven}

-- the attributes that an `Attributes` is
abbrev pub given_in : Attributes → GivenAttributes
given_in held.Nothing = NoneGiven
given_in (held.Rows rows) = RowsGiven rows.rows
given_in (held.Files files room) = FilesGiven files.files
