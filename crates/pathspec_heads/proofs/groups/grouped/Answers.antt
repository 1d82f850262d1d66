use Rattle.std.proofs.Common.{◌≡◌, ℕ, List, [], ◌∷◌, ◌++◌, false, map, subst, sym, arith, length}
use Rattle.std.specs.Borrow.{Bor}
use Rattle.std.proofs.lemmas.List.{length-map}
use Rattle.pathspec_heads.specs.Heads.{ends_with_head, IsRising}
use Rattle.pathspec_heads.specs.Groups.{Placed, IsGroupedFront, AddsPlace}
use Rattle.pathspec_heads.proofs.GroupProofs.{grouped-next, add-rises, ordered, all-grouped}
use Rattle.pathspec_heads.proofs.groups.grouped.Goals as goal

-- an entry as it is seen
abbrev view : Bor (List ℕ) × ℕ → Placed
view entry = (entry.0.now, entry.1)

pub add-requires : goal.add-requires
add-requires c =
    subst (λ (x : Bor (List ℕ) × ℕ). ends_with_head c.loop-index.groups.heads x.0.now ≡ false → IsRising (c.loop-index.groups.heads ++ x.0.now ∷ [])) (sym c.index.ensures)
    (add-rises view c.in_ok-entries.entries.items c.index.result.now c.in_ok-entries.ensures.ascending c.loop-index.index c.loop-index.groups.heads c.loop-index.groups.starts.items c.loop-index.groups.order.items c.loop-index.invariant
    (omega (arith, c.loop-index-test.true, c.len-index-end.ensures, c.in_ok-entries.entries.ok.0)))

pub loop-index-preserved : goal.loop-index-preserved
loop-index-preserved c =
    let old = c.loop-index.groups in
    let new = c.add.new.self in
    grouped-next view c.in_ok-entries.entries.items c.index.result.now c.in_ok-entries.ensures.ascending c.loop-index.index old.heads old.starts.items old.order.items c.loop-index.invariant
    (omega (arith, c.loop-index-test.true, c.len-index-end.ensures, c.in_ok-entries.entries.ok.0)) new.heads new.starts.items new.order.items
    (subst (λ (x : Bor (List ℕ) × ℕ). AddsPlace old.heads old.starts.items old.order.items new.heads new.starts.items new.order.items x.0.now x.1) c.index.ensures c.in_ok-add.ensures)

pub returns : goal.returns
returns c =
    let g = c.loop-index.groups in
    let entries : List Placed = map (λ entry. (entry.0.now, entry.1)) c.in_ok-entries.entries.items in
    let whole : IsGroupedFront entries (length entries) g.heads g.starts.items g.order.items =
    subst (λ n. IsGroupedFront entries n g.heads g.starts.items g.order.items) (omega (arith, c.loop-index-test.false, c.loop-index.auto.index-end, c.len-index-end.ensures, c.in_ok-entries.entries.ok.0, length-map {B = Placed} c.in_ok-entries.entries.items (λ entry. (entry.0.now, entry.1)))) c.loop-index.invariant in
    record {
      order = ordered (map (λ head. head.now) c.args.heads.now) entries c.in_ok-entries.ensures g.heads g.starts.items g.order.items whole;
      grouped = all-grouped (map (λ head. head.now) c.args.heads.now) entries c.in_ok-entries.ensures g.heads g.starts.items g.order.items whole;
    }
