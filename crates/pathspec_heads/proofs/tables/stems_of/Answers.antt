use Rattle.std.proofs.Common.{◌≡◌, ap, ◌∙◌, subst, map, true, IfOk}
use Rattle.pathspec_glob.specs.Bytes.{fold_case}
use Rattle.pathspec_heads.specs.Stems.{HasSameTexts}
use Rattle.pathspec_heads.specs.Tables.{texts_of}
use Rattle.pathspec_heads.proofs.TableProofs.{folded-texts}
use Rattle.pathspec_heads.proofs.tables.stems_of.Goals as goal

pub returns : goal.returns
returns c =
    let lower : map (λ copy. copy.items) c.in_ok-copies.copies.items ≡ texts_of c.args.ignore_case c.args.kind c.args.stems.now =
    c.in_ok-copies.ensures
    ∙ (ap (λ texts. map (fold_case true) (map (λ text. text.now) texts)) c.deref-2.ensures.value
    ∙ (ap (map (fold_case true)) c.in_ok-texts.ensures ∙ folded-texts c.args.ignore_case c.args.kind c.args.stems.now c.if-not-ignore_case.false)) in
    let slices : map (λ slice. slice.now) c.deref-4.result.now ≡ texts_of c.args.ignore_case c.args.kind c.args.stems.now =
    ap (map (λ slice. slice.now)) c.deref-4.ensures.value ∙ (c.in_ok-slices.ensures ∙ (ap (map (λ text. text.items)) c.deref-3.ensures.value ∙ lower)) in
    subst (λ texts. IfOk c.of_stems-2.result (HasSameTexts texts)) slices c.of_stems-2.ensures
