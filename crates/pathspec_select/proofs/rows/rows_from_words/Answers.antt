-- A list that can't be read is a fault of all words.
use Rattle.std.proofs.Common.{◌≡◌, ◌∙◌, sym, map, rules, string_bytes}
use Rattle.std.proofs.lemmas.Result.{err_from_is_err_and}
use Rattle.pathspec_select.specs.Options.{with_setting}
use Rattle.pathspec_select.specs.Options.Awaited.{AnyWord}
use Rattle.pathspec_select.specs.OptionWords.{setting_view, options_from}
use Rattle.pathspec_select.proofs.RowProofs.{fault-of, rows-fault, usage-then}
use Rattle.pathspec_select.proofs.rows.rows_from_words.Goals as goal

pub returns-in_err-add_setting-in-After-clause-rows :
    goal.returns-in_err-add_setting-in-After-clause-rows
returns-in_err-add_setting-in-After-clause-rows c =
    let p = err_from_is_err_and c.from_residual-in_err-add_setting-in-After.result c.from_residual-in_err-add_setting-in-After.ensures.1 in
    let i = c.loop-rows.invariant in
    let next = with_setting (setting_view c.in-After.setting) i.options in
    let e : options_from i.options (map string_bytes c.loop-rows.left.now) ≡ options_from (with_setting (setting_view c.in-After.setting) i.options) (map string_bytes c.in-After.others.now) = search rules in
    rw (p.1, p.2)
    (usage-then c.in_err-add_setting-in-After.field-0.0 _ _ (λ u. fault-of (options_from next (map string_bytes c.in-After.others.now)) (sym i.so_far ∙ e) (rows-fault AnyWord next (map string_bytes c.in-After.others.now) u)) (c.in_err-add_setting-in-After.ensures.row i.options i.read))
