-- A byte is written just where a record is taken.
use Rattle.std.proofs.Common.{◌≡◌, refl, sym, ◌∙◌, true, false, [], Some, None, Ok}
use Rattle.std.specs.Option.{option_to_list, is_some}
use Rattle.pathspec_commands.specs.declared.failure.Failure.{Failure}
use Rattle.pathspec_commands.specs.declared.filtering.Ended.{Ended}
use Rattle.pathspec_commands.specs.Filters.{separator_of, takes_of, EndsWriting, TellsFirst}
use Rattle.pathspec_commands.proofs.FilterProofs.{with-table, tells-met, tells-none}
use Rattle.pathspec_commands.proofs.filtering.Filter.find_first.Goals as goal

pub returns-then-is_some : goal.returns-then-is_some
returns-then-is_some g c =
    let filter = c.args.self.now in
    let byte = c.write-ended.new.writer.byte in
    let listing = g.R.Read.remaining filter.reader.reader.now in
    let met : is_some byte ≡ true = sym c.is_some.ensures ∙ c.if-is_some.true in
    let done : Ended = record { counts = None; status = 0 } in
    with-table filter.attributes
    (λ table. EndsWriting (takes_of filter.options filter.search.now.specs table) (separator_of filter.options) listing (Some []) (Some (option_to_list byte)) c.write-ended.result)
    (λ table. TellsFirst {F = Failure} (takes_of filter.options filter.search.now.specs table) (separator_of filter.options) listing (Ok done))
    (λ table h. tells-met (takes_of filter.options filter.search.now.specs table) (separator_of filter.options) Failure listing byte c.write-ended.result done met refl h)
    c.write-ended.ensures.ends

pub returns : goal.returns
returns g c =
    let filter = c.args.self.now in
    let byte = c.write-ended.new.writer.byte in
    let listing = g.R.Read.remaining filter.reader.reader.now in
    let unmet : is_some byte ≡ false = sym c.is_some.ensures ∙ c.if-is_some.false in
    let done : Ended = record { counts = c.in_ok-ended.ended.counts; status = 1 } in
    with-table filter.attributes
    (λ table. EndsWriting {F = Failure} (takes_of filter.options filter.search.now.specs table) (separator_of filter.options) listing (Some []) (Some (option_to_list byte)) (Ok c.in_ok-ended.ended))
    (λ table. TellsFirst {F = Failure} (takes_of filter.options filter.search.now.specs table) (separator_of filter.options) listing (Ok done))
    (λ table h. tells-none (takes_of filter.options filter.search.now.specs table) (separator_of filter.options) Failure listing byte c.in_ok-ended.ended done unmet refl h)
    c.in_ok-ended.ensures.ends
