-- The attributes of paths, as the table of a look-up.
use Rattle.std.specs.Prelude.{ℕ}
use Rattle.pathspec_parts.specs.Attributes.{Table}
use Rattle.pathspec_parts.specs.AttributeRows as rows_of_paths
use Rattle.pathspec_attributes.specs.Files as attribute_files
use Rattle.pathspec_commands.specs.declared.attributes.Attributes.{Attributes}
use Rattle.pathspec_commands.specs.declared.attributes.Attributes.TheVariants.{Rows, Directory}

-- the answer to each question, by the rows or by the attribute files that were read
abbrev pub table_in : Attributes → Table
table_in (Rows rows) = rows_of_paths.table_of rows.rows
table_in (Directory directory) = attribute_files.table_of directory.files.files

-- the count of failed questions
abbrev pub failures_in : Attributes → ℕ
failures_in (Rows rows) = rows.failures
failures_in (Directory directory) = directory.files.failures
