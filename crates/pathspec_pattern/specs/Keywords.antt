-- What a clause reads of a `Keyword`.
use Rattle.pathspec_pattern.specs.declared.parse.magic.Keyword.{Keyword}
use Rattle.pathspec_pattern.specs.declared.parse.magic.Keyword.TheVariants as told
use Rattle.pathspec_pattern.specs.Reading.{Keyword as Asked}
use Rattle.pathspec_pattern.specs.Signatures.{signature_bits}

-- what a keyword asks for
abbrev pub keyword_view : Keyword → Asked
keyword_view (told.Flag flag) = Asked.Flag (signature_bits flag)
keyword_view (told.Mode mode) = Asked.Mode mode
keyword_view told.Ignored = Asked.Ignored
keyword_view (told.Attributes list) = Asked.Attributes list.now
keyword_view (told.PrefixLength digits) = Asked.PrefixLength digits.now
keyword_view told.Unknown = Asked.Unknown
