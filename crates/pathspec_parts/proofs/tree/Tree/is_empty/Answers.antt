use Rattle.std.proofs.Common.{◌≡◌, List, [], ◌∷◌, length, refl, sym, ap, ◌∙◌, arith}
use Rattle.std.proofs.lemmas.Bool.{eqb-true, eq-eqb}
use Rattle.pathspec_parts.proofs.NodeProofs.{entries_count}
use Rattle.pathspec_parts.proofs.tree.Tree.is_empty.Goals as goal

none : {X : Type 0} (xs : List X) → length xs ≡ 0 → xs ≡ []
none [] e = refl
none (x ∷ xs) e = absurd (omega (arith, e))

pub returns : goal.returns
returns c =
    let s = c.self.inside in
    let count = entries_count s.names.items s.nodes.items s.nested s.longest c.self.invariant c.args.self.now c.self.view_is in (
      λ t. let z = eqb-true _ 0 (sym c.is_empty.ensures ∙ t) in none c.args.self.now.entries (omega (arith, z, count, s.nodes.ok.0)),
      λ e. let z = ap length e in c.is_empty.ensures ∙ eq-eqb _ 0 (omega (arith, z, count, s.nodes.ok.0)),
    )
