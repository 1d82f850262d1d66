-- The four lists are asked one after another.
use Rattle.std.proofs.Common.{◌≡◌, ◌∙◌, ℕ, List, sym, ap, map, reverse, Some, None}
use Rattle.std.specs.Option.{option_map}
use Rattle.pathspec_parts.specs.Attributes.{Assignment}
use Rattle.pathspec_attributes.specs.declared.deciding.Macros.{Macros}
use Rattle.pathspec_attributes.specs.declared.reading.Macro.{Macro as Own}
use Rattle.pathspec_attributes.specs.Deciding.{Macro, body_of}
use Rattle.pathspec_attributes.specs.Leading.{body_of_place, pending_of}
use Rattle.pathspec_attributes.specs.Views.{macro_view, macros_view}
use Rattle.pathspec_attributes.proofs.DecidingProofs.{in-first, in-second, in-third, fourth}
use Rattle.pathspec_attributes.proofs.LeadingProofs.{found-pending}
use Rattle.pathspec_attributes.proofs.deciding.macro_of.Goals as goal

-- in the order in which they count
abbrev counted : List Own → List Macro
counted own = reverse (map macro_view own)

module _ (m : Macros) (name : List ℕ) where
  first : (body : List Assignment) → Some body ≡ body_of (counted m.info.now) name → Some body ≡ body_of (macros_view m) name
  first = in-first (counted m.info.now) (counted m.top.now) (counted m.global.now) (counted m.built_in.now) name

  second : (body : List Assignment) → None ≡ body_of (counted m.info.now) name → Some body ≡ body_of (counted m.top.now) name → Some body ≡ body_of (macros_view m) name
  second = in-second (counted m.info.now) (counted m.top.now) (counted m.global.now) (counted m.built_in.now) name

  third : (body : List Assignment) → None ≡ body_of (counted m.info.now) name → None ≡ body_of (counted m.top.now) name → Some body ≡ body_of (counted m.global.now) name → Some body ≡ body_of (macros_view m) name
  third = in-third (counted m.info.now) (counted m.top.now) (counted m.global.now) (counted m.built_in.now) name

  last : None ≡ body_of (counted m.info.now) name → None ≡ body_of (counted m.top.now) name → None ≡ body_of (counted m.global.now) name → body_of (macros_view m) name ≡ body_of (counted m.built_in.now) name
  last = fourth (counted m.info.now) (counted m.top.now) (counted m.global.now) (counted m.built_in.now) name

pub returns-in-Some : goal.returns-in-Some
returns-in-Some c =
    let m = c.args.macros.now in
    let name : List ℕ = c.args.name.now in
    let body : List Assignment = body_of_place m.info.now c.in-Some.place in
    found-pending (pending_of m c.whole.result) body (body_of (macros_view m) name) c.whole.ensures (first m name body c.in-Some.ensures)

pub returns-in-Some-place_of : goal.returns-in-Some-place_of
returns-in-Some-place_of c =
    let m = c.args.macros.now in
    let name : List ℕ = c.args.name.now in
    let body : List Assignment = body_of_place m.top.now c.in-Some-place_of.place in
    found-pending (pending_of m c.whole-in-Some-place_of.result) body (body_of (macros_view m) name) c.whole-in-Some-place_of.ensures (second m name body c.in_default.ensures c.in-Some-place_of.ensures)

pub returns-in-Some-place_of-2 : goal.returns-in-Some-place_of-2
returns-in-Some-place_of-2 c =
    let m = c.args.macros.now in
    let name : List ℕ = c.args.name.now in
    let body : List Assignment = body_of_place m.global.now c.in-Some-place_of-2.place in
    found-pending (pending_of m c.whole-in-Some-place_of-2.result) body (body_of (macros_view m) name) c.whole-in-Some-place_of-2.ensures (third m name body c.in_default.ensures c.in_default-place_of.ensures c.in-Some-place_of-2.ensures)

pub returns-in-Some-place_of-3 : goal.returns-in-Some-place_of-3
returns-in-Some-place_of-3 c =
    let m = c.args.macros.now in
    let name : List ℕ = c.args.name.now in
    let body : List Assignment = body_of_place m.built_in.now c.in-Some-place_of-3.place in
    found-pending (pending_of m c.whole-in-Some-place_of-3.result) body (body_of (macros_view m) name) c.whole-in-Some-place_of-3.ensures (c.in-Some-place_of-3.ensures ∙ sym (last m name c.in_default.ensures c.in_default-place_of.ensures c.in_default-place_of-2.ensures))

pub returns-in-None : goal.returns-in-None
returns-in-None c =
    let m = c.args.macros.now in
    let name : List ℕ = c.args.name.now in
    ap (option_map reverse) (c.in-None.ensures ∙ sym (last m name c.in_default.ensures c.in_default-place_of.ensures c.in_default-place_of-2.ensures))
