-- The words are read, then the prefix is looked at, and then where the specs stand.
use Rattle.std.proofs.Common.{map, string_bytes}
use Rattle.std.proofs.lemmas.Result.{err_from_is_err_and}
use Rattle.pathspec_select.proofs.OptionProofs.{options-fault, options-unclean, options-read}
use Rattle.pathspec_select.proofs.options.options_from_words.Goals as goal

pub returns-in_err-unchecked_options-clause-options : goal.returns-in_err-unchecked_options-clause-options
returns-in_err-unchecked_options-clause-options c =
    let p = err_from_is_err_and c.from_residual.result c.from_residual.ensures.1 in
    let e = c.in_err-unchecked_options.ensures in
    rw (p.1, p.2) (e.0, options-fault (map string_bytes c.args.words.now) _ e.1)

pub returns-in_err-with_clean_prefix-clause-options : goal.returns-in_err-with_clean_prefix-clause-options
returns-in_err-with_clean_prefix-clause-options c =
    let p = err_from_is_err_and c.from_residual-in_err-with_clean_prefix.result c.from_residual-in_err-with_clean_prefix.ensures.1 in
    let read = c.in_ok-unchecked_options.ensures in
    let e = c.in_err-with_clean_prefix.ensures.options read.0 read.2 in
    rw (p.1, p.2) (e.0, options-unclean (map string_bytes c.args.words.now) read.0 read.1 _ e.1)

pub returns-clause-options : goal.returns-clause-options
returns-clause-options c =
    let read = c.in_ok-unchecked_options.ensures in
    let clean = c.in_ok-with_clean_prefix.ensures.options read.0 read.2 in
    rw (options-read (map string_bytes c.args.words.now) read.0 read.1 clean.0 clean.1) (c.with_specs_once.ensures.options clean.0 clean.2)
