-- The long text of the pattern stores it; that of the empty path, with the same magic, a nil one.
use Rattle.std.proofs.Common.{◌∙◌, sym, ap, map, Vec}
use Rattle.std.specs.Global.{Global}
use Rattle.pathspec_parts.specs.declared.attributes.state.Assignment.{Assignment}
use Rattle.pathspec_parts.specs.AttributeStates.{assignment_view}
use Rattle.std.proofs.lemmas.Result.{IfOk-weaker}
use Rattle.gix_pathspec.specs.LongText.{long_text}
use Rattle.gix_pathspec.specs.Specs.{Spec}
use Rattle.gix_pathspec.specs.Patterns.{pattern_spec}
use Rattle.pathspec_callers.proofs.StoreProofs.{always-is, stores-named, stores-nil}
use Rattle.pathspec_callers.proofs.store.stored_text.Goals as goal

pub returns-then-not-is_nil : goal.returns-then-not-is_nil
returns-then-not-is_nil c =
    let laws = c.to_bstring.ensures.laws in
    IfOk-weaker c.to_bstring.result _ _
    (λ text e. stores-named laws.0 laws.2 c.to_bstring.ensures.normal.1 (pattern_spec c.args.pattern.now) _ (sym c.is_nil.ensures ∙ c.if-not-is_nil.true) e)
    c.to_bstring.ensures.text

pub returns : goal.returns
returns c =
    let laws = c.to_bstring-2.ensures.laws in
    let n = pattern_spec c.args.pattern.now in
    let list = ap (λ (v : Vec Assignment Global). map assignment_view v.items) c.swap.ensures.x_after ∙ ap (λ (s : Spec). s.attributes) c.in_ok-copy.ensures.ok in
    let always = always-is (pattern_spec c.in_ok-always.always) n (map assignment_view c.swap.new.x.items) c.in_ok-always.ensures.ok list in
    IfOk-weaker c.to_bstring-2.result _ _
    (λ text e. stores-nil laws.0 laws.2 c.to_bstring-2.ensures.normal.0 n _ (sym c.is_nil.ensures ∙ c.if-not-is_nil.false) (e ∙ ap long_text always))
    c.to_bstring-2.ensures.text
