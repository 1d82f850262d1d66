-- The public definitions of globs, which proofs name in one line.
pub use Rattle.pathspec_glob.specs.declared.Case.{Case}
pub use Rattle.pathspec_glob.specs.declared.Case.TheVariants.{Fold, Sensitive}
pub use Rattle.pathspec_glob.specs.declared.Mode.{Mode}
pub use Rattle.pathspec_glob.specs.declared.Mode.TheVariants.{PathAware, Shell}
pub use Rattle.pathspec_glob.specs.ByteSets.{listed, listed_piece, listed_single, listed_tokens, literals, ReadsOn}
unfoldable pub use Rattle.pathspec_glob.specs.ByteSets.{literals_below}
pub use Rattle.pathspec_glob.specs.Bytes.{backslash, begins_with, close_bracket, colon, dash, first_is, fold_case, is_empty, is_one_of, is_wildcard, open_bracket, question_mark, slash, star}
pub use Rattle.pathspec_glob.specs.GlobForms.{bracket_view, class_name, item_view, items_view, piece_view, token_view, tokens_view}
pub use Rattle.pathspec_glob.specs.GlobRelation.{bracket_holds, is_same_byte, IsPassedOver, items_hold, Matches, passes, passes_over, some_suffix, takes, takes_first}
unfoldable pub use Rattle.pathspec_glob.specs.GlobRelation.{matches}
pub use Rattle.pathspec_glob.specs.GlobSteps.{is_wide, is_wide_at, may_pass_over_at, takes_at, takes_byte, token_takes, TokenList}
pub use Rattle.pathspec_glob.specs.Globs.{AnswersGlob, AnswersTail, folds, glob_tokens, GlobIsRelation, GlobSource, is_tail_pattern, MatchBeginsStem}
pub use Rattle.pathspec_glob.specs.LastBytes.{ends_with_byte, is_own_end, last_byte, MatchHasOwnEnd, own_end}
pub use Rattle.pathspec_glob.specs.OpenEnds.{is_any_run, is_open}
pub use Rattle.pathspec_glob.specs.Tokens.{bracket_piece, bracket_with, bytes_of, class_item, class_of, escaped_item, escaped_piece, Front, front_of, is_deep, Item, item_before, Items, items_from, items_with, makes_range, OneByte, Piece, piece_of, range_from, range_item, run_piece, run_token, single_of, StandsBefore, Token, token_before, tokens}
unfoldable pub use Rattle.pathspec_glob.specs.Tokens.{tokens_from}
pub use Rattle.pathspec_glob.specs.Tokens.Front.{Broken, Closed, Listed}
pub use Rattle.pathspec_glob.specs.Tokens.Item.{Class, Literal, Range}
pub use Rattle.pathspec_glob.specs.Tokens.OneByte.{Any, Bracket, Byte, Dead, Quoted}
pub use Rattle.pathspec_glob.specs.Tokens.Token.{Deep, One, Star}
