-- Two patterns are equal just where their specs are, field by field.
use Rattle.std.proofs.Common.{◌≡◌, ℕ, Bool, true, false, ◌&&◌, refl, sym, ◌∙◌, ap, subst, List, [], ◌∷◌, map, nat_eq}
use Rattle.std.proofs.lemmas.Bool.{and_parts, and_from, eqb-true, eq-eqb}
use Rattle.std.proofs.lemmas.Cmp.{nat_list_eq_equiv}
use Rattle.std.proofs.Math.Bool.{beq}
use Rattle.std.specs.Cmp.Lexicographic.{same_text}
use Rattle.std.specs.List.{each_same}
use Rattle.pathspec_parts.specs.declared.attributes.state.State.{State as Owned}
use Rattle.pathspec_parts.specs.declared.attributes.state.State.TheVariants as owned
use Rattle.pathspec_parts.specs.declared.attributes.state.Assignment.{Assignment as Whole}
use Rattle.pathspec_parts.specs.contracts.attributes.state.StatePartialEq.TheImpl as states
use Rattle.pathspec_parts.specs.contracts.attributes.state.AssignmentPartialEq.TheImpl as assignments
use Rattle.pathspec_parts.specs.AttributeStates.{assignment_view, state_view}
use Rattle.pathspec_pattern.specs.declared.SearchMode.{SearchMode}
use Rattle.pathspec_pattern.specs.declared.SearchMode.TheVariants.{ShellGlob, Literal, PathAwareGlob}
use Rattle.pathspec_pattern.specs.contracts.SearchMode.{the_type}
use Rattle.pathspec_pattern.specs.contracts.pattern.PatternPartialEq.TheImpl as patterns
use Rattle.pathspec_pattern.specs.Patterns.{ComparesSpecs}
use Rattle.pathspec_pattern.proofs.pattern.Pattern.try_clone.Goals as goal
use lib.Pointwise.{pointwise}
use denote.Enum.Bare.{sameb}

-- ---- the fields

text_from : (xs ys : List ℕ) → xs ≡ ys → pointwise nat_eq xs ys ≡ true
text_from xs ys e = subst (λ zs. pointwise nat_eq xs zs ≡ true) e (nat_list_eq_equiv.refl xs)

state_same : (a b : Owned) → (states.eq-value).it a b ≡ true → state_view a ≡ state_view b
state_same owned.Set owned.Set h = refl
state_same owned.Unset owned.Unset h = refl
state_same (owned.Value x) (owned.Value y) h = let e = same_text x.items y.items (sym h) in cc
state_same owned.Unspecified owned.Unspecified h = refl
state_same _ _ h = cc

state_from : (a b : Owned) → state_view a ≡ state_view b → (states.eq-value).it a b ≡ true
state_from owned.Set owned.Set h = refl
state_from owned.Unset owned.Unset h = refl
state_from (owned.Value x) (owned.Value y) h = text_from x.items y.items (let e : x.items ≡ y.items = cc in e)
state_from owned.Unspecified owned.Unspecified h = refl
state_from _ _ h = cc

assignment_same : (a b : Whole) → (assignments.eq-value).it a b ≡ true → assignment_view a ≡ assignment_view b
assignment_same a b h =
    let p = and_parts (pointwise nat_eq a.name.bytes.items b.name.bytes.items) ((states.eq-value).it a.state b.state) h in
    let name = same_text a.name.bytes.items b.name.bytes.items (sym p.0) in
    let state = state_same a.state b.state p.1 in
    cc

assignment_from : (a b : Whole) → assignment_view a ≡ assignment_view b → (assignments.eq-value).it a b ≡ true
assignment_from a b h =
    and_from (pointwise nat_eq a.name.bytes.items b.name.bytes.items) ((states.eq-value).it a.state b.state)
    (text_from a.name.bytes.items b.name.bytes.items (ap (λ x. x.name) h)) (state_from a.state b.state (ap (λ x. x.state) h))

list_same : (xs ys : List Whole) → pointwise (assignments.eq-value).it xs ys ≡ true → map assignment_view xs ≡ map assignment_view ys
list_same [] [] h = refl
list_same (a ∷ xs) (b ∷ ys) h =
    let p = and_parts ((assignments.eq-value).it a b) (pointwise (assignments.eq-value).it xs ys) h in
    let first = assignment_same a b p.0 in
    let rest = list_same xs ys p.1 in
    cc
list_same _ _ h = cc

list_from : (xs ys : List Whole) → map assignment_view xs ≡ map assignment_view ys → pointwise (assignments.eq-value).it xs ys ≡ true
list_from [] [] h = refl
list_from (a ∷ xs) (b ∷ ys) h =
    let first : assignment_view a ≡ assignment_view b = cc in
    let rest : map assignment_view xs ≡ map assignment_view ys = cc in
    and_from ((assignments.eq-value).it a b) (pointwise (assignments.eq-value).it xs ys) (assignment_from a b first) (list_from xs ys rest)
list_from _ _ h = cc

mode_same : (m n : SearchMode) → sameb the_type m n ≡ true → m ≡ n
mode_same ShellGlob ShellGlob h = refl
mode_same Literal Literal h = refl
mode_same PathAwareGlob PathAwareGlob h = refl
mode_same _ _ h = cc

mode_from : (m n : SearchMode) → m ≡ n → sameb the_type m n ≡ true
mode_from m n e = subst (λ k. sameb the_type m k ≡ true) e (itself m)
  where
    itself : (m : SearchMode) → sameb the_type m m ≡ true
    itself ShellGlob = refl
    itself Literal = refl
    itself PathAwareGlob = refl

nil_same : (x y : Bool) → beq x y ≡ true → x ≡ y
nil_same true true h = refl
nil_same false false h = refl
nil_same _ _ h = cc

nil_from : (x y : Bool) → x ≡ y → beq x y ≡ true
nil_from true true h = refl
nil_from false false h = refl
nil_from _ _ h = cc

-- ---- the patterns

compares_specs : ComparesSpecs ((patterns.eq-value).it)
compares_specs p q =
    let path = pointwise nat_eq p.path.items q.path.items in
    let signature = nat_eq p.signature.0 q.signature.0 in
    let mode = sameb the_type p.search_mode q.search_mode in
    let list = pointwise (assignments.eq-value).it p.attributes.items q.attributes.items in
    let nil = beq p.nil q.nil in
    let len = nat_eq p.prefix_length q.prefix_length in (
      λ h.
          let a = and_parts path (signature && (mode && (list && (nil && len)))) h in
          let b = and_parts signature (mode && (list && (nil && len))) a.1 in
          let d = and_parts mode (list && (nil && len)) b.1 in
          let e = and_parts list (nil && len) d.1 in
          let f = and_parts nil len e.1 in
          let path_is = same_text p.path.items q.path.items (sym a.0) in
          let signature_is = eqb-true p.signature.0 q.signature.0 b.0 in
          let mode_is = mode_same p.search_mode q.search_mode d.0 in
          let list_is = list_same p.attributes.items q.attributes.items e.0 in
          let nil_is = nil_same p.nil q.nil f.0 in
          let len_is = eqb-true p.prefix_length q.prefix_length f.1 in
          cc,
      λ h.
          and_from path (signature && (mode && (list && (nil && len)))) (text_from p.path.items q.path.items (ap (λ s. s.path) h))
          (and_from signature (mode && (list && (nil && len))) (eq-eqb p.signature.0 q.signature.0 (ap (λ s. s.signature) h))
          (and_from mode (list && (nil && len)) (mode_from p.search_mode q.search_mode (ap (λ s. s.mode) h))
          (and_from list (nil && len) (list_from p.attributes.items q.attributes.items (ap (λ s. s.attributes) h))
          (and_from nil len (nil_from p.nil q.nil (ap (λ s. s.nil) h)) (eq-eqb p.prefix_length q.prefix_length (ap (λ s. s.prefix_length) h)))))),
    )

pub invariant_of-result : goal.invariant_of-result
invariant_of-result c = record {
  boundary = rw (each_same c.args.self.now.path.items c.in_ok-clone.field-0.items c.in_ok-clone.ensures.cases.0) c.args.self.now.boundary;
  nil_has_none = c.args.self.now.nil_has_none;
}

pub returns-in_err-clone-clause-equal : goal.returns-in_err-clone-clause-equal
returns-in_err-clone-clause-equal c = compares_specs

pub returns-in_err-cloned-clause-equal : goal.returns-in_err-cloned-clause-equal
returns-in_err-cloned-clause-equal c = compares_specs

pub returns-clause-ok : goal.returns-clause-ok
returns-clause-ok c =
    let path = each_same c.args.self.now.path.items c.in_ok-clone.field-0.items c.in_ok-clone.ensures.cases.0 in
    let list = c.in_ok-cloned.ensures ∙ ap (map assignment_view) c.as_slice.ensures.value in
    rw (path, list) refl

pub returns-clause-equal : goal.returns-clause-equal
returns-clause-equal c = compares_specs
