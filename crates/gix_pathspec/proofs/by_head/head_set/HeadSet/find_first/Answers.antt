-- The set leaves out no member before the first that it finds.
use Rattle.std.proofs.Common.{◌≡◌, ◌≤◌, ◌∙◌, ap, arith, length, refl}
use Rattle.std.specs.Prelude.{unwrap_or}
use Rattle.gix_pathspec.specs.SetSources.{behind}
use Rattle.gix_pathspec.proofs.HeadSetProofs.{first-known, within-found}
use Rattle.gix_pathspec.proofs.by_head.head_set.HeadSet.find_first.Goals as goal

pub returns-clause-next : goal.returns-clause-next
returns-clause-next c specs path own bytes read =
    let old = c.args.self.now in
    let text = behind old.head path in
    let found = c.next_of-found.result in
    let count : c.len.result ≡ length old.numbers.items = omega arith in
    let is : c.unwrap_or-self.result ≡ unwrap_or found (length old.numbers.items) = c.unwrap_or-self.ensures ∙ ap (unwrap_or found) count in
    let within : c.unwrap_or-self.result ≤ length old.numbers.items = omega (arith, is, within-found old.set 0 (length old.numbers.items) found old.alike c.next_of-found.ensures.number) in
    first-known specs path bytes old _ (record { head = refl; numbers = refl; begun = refl; steps = refl; kept = c.next_of-found.ensures.kept }) found within is own read
    (c.next_of-found.ensures.no_other text read.read) (c.next_of-found.ensures.matches text read.read)
