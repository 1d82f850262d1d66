-- The set leaves out no member between the one that is passed and the next that it finds.
use Rattle.std.proofs.Common.{◌≡◌, ◌+◌, ◌≤◌, ◌∙◌, ap, arith, length, refl}
use Rattle.std.specs.Prelude.{unwrap_or}
use Rattle.gix_pathspec.specs.SetSources.{behind}
use Rattle.gix_pathspec.proofs.HeadSetProofs.{next-known, within-found}
use Rattle.gix_pathspec.proofs.by_head.head_set.HeadSet.pass.Goals as goal

pub returns-clause-next : goal.returns-clause-next
returns-clause-next c specs path table is_dir from bytes none passed next =
    let old = c.args.self.now in
    let text = behind old.head path in
    let found = c.next_of-found.result in
    let read = next.read c.requires in
    let count : c.len.result ≡ length old.numbers.items = omega arith in
    let is : c.unwrap_or-self.result ≡ unwrap_or found (length old.numbers.items) = c.unwrap_or-self.ensures ∙ ap (unwrap_or found) count in
    let within : c.unwrap_or-self.result ≤ length old.numbers.items = omega (arith, is, within-found old.set (old.next + 1) (length old.numbers.items) found old.alike c.next_of-found.ensures.number) in
    next-known specs path bytes old _ (record { head = refl; numbers = refl; begun = refl; steps = refl; kept = c.next_of-found.ensures.kept }) found within is next.are read
    table is_dir from c.requires passed none next.ahead (c.next_of-found.ensures.no_other text read.read) (c.next_of-found.ensures.matches text read.read)
