-- What a clause reads of a `Name`.
use Rattle.std.specs.Prelude.{ℕ, List}
use Rattle.pathspec_parts.specs.declared.attributes.name.Name.{Name}

-- the bytes of a name
abbrev pub name_bytes : Name → List ℕ
name_bytes n = n.bytes.items
