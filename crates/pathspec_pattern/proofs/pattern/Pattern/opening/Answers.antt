-- The groups of words, one after the other.
use Rattle.std.proofs.Common.{[]}
use Rattle.pathspec_pattern.specs.LongText.{HoldsPieces}
use Rattle.pathspec_pattern.proofs.LongTextProofs.{no_words}
use Rattle.pathspec_pattern.proofs.pattern.Pattern.opening.Goals as goal

pub returns : goal.returns
returns c =
    let none : HoldsPieces c.in_ok-text.text.items [] = rw c.in_ok-text.ensures.items no_words in
    let tops = c.in_ok-write_bit.ensures [] none in
    let excludes = c.in_ok-write_bit-2.ensures _ tops in
    let icases = c.in_ok-write_bit-3.ensures _ excludes in
    let modes = c.in_ok-write_mode.ensures _ icases in
    let prefixes = c.in_ok-write_prefix.ensures _ modes in
    let lists = c.in_ok-write_attributes.ensures _ prefixes in
    let all = rw c.as_slice.ensures.value at lists in
    all.join_names
