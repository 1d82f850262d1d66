-- The names at a place agree or not, and with them the lists.
use Rattle.std.proofs.Common.{◌≡◌, ◌∙◌, ℕ, sym, ap, refl, arith, List, map, Bool, true, false, not}
use Rattle.std.proofs.lemmas.List.{take_all}
use Rattle.std.proofs.lemmas.Simd.{map-map}
use Rattle.std.proofs.lemmas.Slice.Eq.{bytes_eq-Decides}
use Rattle.std.specs.Prelude.{bytes_eq}
use Rattle.pathspec_parts.specs.declared.attributes.state.Assignment.{Assignment}
use Rattle.pathspec_parts.specs.AttributeStates.{assignment_view}
use Rattle.pathspec_parts.proofs.ListProofs.{map-at, map-more}
use Rattle.pathspec_parts.proofs.attributes.outcome.have_names.Goals as goal

abbrev name : Assignment → List ℕ
name a = (assignment_view a).name

from_not : (b r : Bool) → r ≡ not b → r ≡ false → b ≡ true
from_not true r e f = refl
from_not false r e f = cc

differ : (x y : List ℕ) (r : Bool) → r ≡ not (bytes_eq x y) → r ≡ true → x ≡ y → ⊥
differ x y r h g e = let no : false ≡ true = sym (h ∙ ap not ((bytes_eq-Decides x y).1 e)) ∙ g in cc

agree : (x y : List ℕ) (r : Bool) → r ≡ not (bytes_eq x y) → r ≡ false → x ≡ y
agree x y r h g = (bytes_eq-Decides x y).0 (from_not _ r h g)

pub returns-then-ne : goal.returns-then-ne
returns-then-ne c = (
  λ t. let no : false ≡ true = t in cc,
  λ e.
      let names : map name c.args.left.now ≡ map name c.args.right.now = simp map-map at e in
      let same = map-at name name c.args.left.now c.args.right.now c.loop-place.place c.index-left-place.result c.index-right-place.result names (omega arith) c.index-left-place.is c.index-right-place.is in
      absurd (differ _ _ _ c.ne.ensures c.if-ne.true ((c.as_bytes-in-loop-place.ensures ∙ c.as_bytes.ensures.bytes) ∙ same ∙ sym (c.as_bytes-in-loop-place-3.ensures ∙ c.as_bytes-in-loop-place-2.ensures.bytes ∙ ap name (sym c.index-right-place.is)))),
)

pub loop-place-preserved : goal.loop-place-preserved
loop-place-preserved c =
    let same = sym (c.as_bytes-in-loop-place.ensures ∙ c.as_bytes.ensures.bytes) ∙ agree _ _ _ c.ne.ensures c.if-ne.false ∙ (c.as_bytes-in-loop-place-3.ensures ∙ c.as_bytes-in-loop-place-2.ensures.bytes ∙ ap name (sym c.index-right-place.is)) in
    map-more name name c.args.left.now c.args.right.now c.loop-place.place c.index-left-place.result c.index-right-place.result (omega arith) (omega arith) c.index-left-place.is c.index-right-place.is same c.loop-place.invariant

pub returns : goal.returns
returns c =
    let left = take_all c.loop-place.place c.args.left.now (omega arith) in
    let right = take_all c.loop-place.place c.args.right.now (omega arith) in
    let whole : map name c.args.left.now ≡ map name c.args.right.now = sym (ap (map name) left) ∙ c.loop-place.invariant ∙ ap (map name) right in
    (λ _. simp map-map whole, λ _. refl)
