use Rattle.std.proofs.Common.{◌≡◌, ◌∷◌, [], inl, inr, arith}
use Rattle.std.proofs.lemmas.Bool.{cases_lt}
use Rattle.std.proofs.lemmas.List.{get_or_append_left, get_or_push}
use Rattle.pathspec_heads.specs.Groups.{HasBitsOf, IsInChain}
use Rattle.pathspec_heads.proofs.places.PlacesByHead.all_words.Goals as goal

pub loop-head-preserved : goal.loop-head-preserved
loop-head-preserved c =
    let v = c.args.self.now in
    let i = c.loop-head.invariant in
    let words = c.loop-head.words.items in
    let word = c.in-Some.word in
    let pushed = c.in_ok-push-in-Some.ensures.items in
    let found : HasBitsOf word (IsInChain v.heads v.starts v.order c.loop-head.head) = rw c.in-Some.is at c.word_of.ensures in
    record {
      count = omega (arith, c.in_ok-push-in-Some.ensures.len, i.count);
      are = λ k below. rw pushed (elim (cases_lt k c.loop-head.head) [
        | inl l ↦ rw (get_or_append_left words (word ∷ []) 0 k (omega (arith, l, i.count))) (i.are k (omega (arith, l, i.count)))
        | inr g ↦
            let same : k ≡ c.loop-head.head = omega (arith, g, below, c.in_ok-push-in-Some.ensures.len, i.count) in
            rw (same, get_or_push words word 0 c.loop-head.head i.count) found
      ]);
    }
