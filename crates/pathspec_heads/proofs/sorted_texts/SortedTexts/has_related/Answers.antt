use Rattle.std.proofs.Common.{◌≡◌, false, refl, sym, subst, Option}
use Rattle.std.specs.List.{list_any}
use Rattle.pathspec_glob.specs.Bytes.{fold_case}
use Rattle.pathspec_heads.specs.declared.stems.Relation.{Relation}
use Rattle.pathspec_heads.specs.Relations.{is_related}
use Rattle.pathspec_heads.proofs.AnyProofs.{any-none}
use Rattle.pathspec_heads.proofs.sorted_texts.SortedTexts.has_related.Goals as goal

pub returns-in-Some : goal.returns-in-Some
returns-in-Some c =
    let d = fold_case c.args.ignore_case c.args.path.now in
    subst (λ (r : Option Relation). c.some_related.result ≡ list_any (λ x. is_related r x d) c.args.self.now) (sym c.in-Some.is) c.some_related.ensures

pub returns-in-None : goal.returns-in-None
returns-in-None c =
    let d = fold_case c.args.ignore_case c.args.path.now in
    subst (λ (r : Option Relation). false ≡ list_any (λ x. is_related r x d) c.args.self.now) (sym c.in-None.is) (sym (any-none (λ x. false) c.args.self.now (λ k l. refl)))
