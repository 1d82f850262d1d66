-- One more of the search's specs is stored.
use Rattle.std.proofs.Common.{◌∙◌, ap, map}
use Rattle.std.proofs.lemmas.List.{map-append}
use Rattle.bstr.specs.Owned.{bstring_bytes}
use Rattle.gix_pathspec.specs.Patterns.{pattern_spec}
use Rattle.gix_pathspec.specs.Search.{specs_of}
use Rattle.pathspec_callers.proofs.StoreProofs.{stores-next}
use Rattle.pathspec_callers.proofs.store.stored_texts.Goals as goal

pub loop-pattern-preserved : goal.loop-pattern-preserved
loop-pattern-preserved c =
    let held = c.loop-pattern.invariant in
    let more = ap (map bstring_bytes) c.in_ok-push.ensures.items ∙ map-append bstring_bytes c.loop-pattern.texts.items _ in
    stores-next (specs_of c.args.search.now.specs) held.0 c.loop-pattern.patterns c.next.new.self (pattern_spec c.in-Some.pattern.now) (map bstring_bytes c.loop-pattern.texts.items) (map bstring_bytes c.push.new.self.items) (bstring_bytes c.in_ok-stored_text.field-0) held.1 c.in-Some.ensures.steps held.2 c.in_ok-stored_text.ensures more
