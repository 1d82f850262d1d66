-- The front of the rest says what the items are.
use Rattle.std.proofs.Common.{◌<◌, ◌≤◌, sym, length, arith}
use Rattle.pathspec_glob.specs.GlobForms.{item_view}
use Rattle.pathspec_glob.proofs.BracketProofs.{Listed-sized, so_far-Listed, so_far-Closed, so_far-Broken}
use Rattle.pathspec_glob.proofs.brackets.read_items.Goals as goal

pub closing_after-closing-requires-clause-size : goal.closing_after-closing-requires-clause-size
closing_after-closing-requires-clause-size c = (Listed-sized c.is_empty.result c.loop-item.last c.loop-item.rest.now (item_view c.in-Listed.item) c.in-Listed.size (sym c.in-Listed.ensures)).1

pub split_at-requires : goal.split_at-requires
split_at-requires c = (Listed-sized c.is_empty.result c.loop-item.last c.loop-item.rest.now (item_view c.in-Listed.item) c.in-Listed.size (sym c.in-Listed.ensures)).1

pub loop-item-smaller : goal.loop-item-smaller
loop-item-smaller c =
    let sized : (0 < c.in-Listed.size) × (c.in-Listed.size ≤ length c.loop-item.rest.now) = Listed-sized c.is_empty.result c.loop-item.last c.loop-item.rest.now (item_view c.in-Listed.item) c.in-Listed.size (sym c.in-Listed.ensures) in
    omega (arith, c.split_at.ensures.back_len)

pub loop-item-preserved : goal.loop-item-preserved
loop-item-preserved c = record {
  so_far = so_far-Listed c.loop-item.items.items c.push.new.self.items c.in-Listed.item c.in-Listed.size c.loop-item.items.len c.is_empty.result c.loop-item.last c.single-last.result c.loop-item.rest.now c.split_at.result.1.now _ c.loop-item.invariant.so_far c.loop-item.items.ok.0 c.is_empty.ensures c.in-Listed.ensures c.in_ok-push-in-Listed.ensures.items (c.single-last.ensures c.in-Listed.size) c.split_at.ensures.back;
  closing = rw c.split_at.ensures.back c.closing_after-closing.ensures;
}

pub returns-in-Closed : goal.returns-in-Closed
returns-in-Closed c = so_far-Closed c.loop-item.items.items c.loop-item.items.len c.is_empty.result c.loop-item.last c.loop-item.rest.now c.split_at-in-Closed.result.1.now _ c.loop-item.invariant.so_far c.loop-item.items.ok.0 c.is_empty.ensures c.in-Closed.ensures c.split_at-in-Closed.ensures.back

pub returns-in-Broken : goal.returns-in-Broken
returns-in-Broken c = so_far-Broken c.loop-item.items.items c.loop-item.items.len c.is_empty.result c.loop-item.last c.loop-item.rest.now _ c.loop-item.invariant.so_far c.loop-item.items.ok.0 c.is_empty.ensures c.in-Broken.ensures
