-- Each head so far has its word.
use Rattle.std.proofs.Common.{◌≡◌, length}
use Rattle.pathspec_heads.specs.Groups.{AreWords}
use Rattle.pathspec_heads.proofs.places.PlacesByHead.all_words.Given as goal

abbrev pub invariant-loop-head : goal.invariant-loop-head
invariant-loop-head l = record {
  count : length l.words.items ≡ l.head;
  are : AreWords l.self l.words.items;
}
