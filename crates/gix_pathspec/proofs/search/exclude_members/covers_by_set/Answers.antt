-- The set answers by its first glob that matches.
use Rattle.std.proofs.Common.{◌≡◌, ◌+◌, ◌*◌, ◌++◌, false, [], ◌∷◌, sym, ◌∙◌, subst, arith, length, map}
use Rattle.std.specs.Prelude.{IfSome}
use Rattle.pathspec_glob_set.specs.Answers.{set_in, IsMatch}
use Rattle.pathspec_glob_set.specs.Sets.{AreMovesOf}
use Rattle.gix_pathspec.specs.Room.{exclude_sources}
use Rattle.gix_pathspec.specs.Bytes.{slash}
use Rattle.gix_pathspec.specs.EndBytes.{has_wildcard_at}
use Rattle.gix_pathspec.specs.SetCounts.{GrowsBy}
use Rattle.gix_pathspec.specs.Sets.{member_from}
use Rattle.gix_pathspec.proofs.ExcludeMemberProofs.{found-covers}
use Rattle.gix_pathspec.proofs.SetCountsProofs.{few-read, grows-few, grows-then, one-look}
use Rattle.gix_pathspec.proofs.search.exclude_members.covers_by_set.Goals as goal

pub returns-clause-answer : goal.returns-clause-answer
returns-clause-answer c excludes own bytes =
    let d = c.args.directory.now in
    let read = c.read_directory.new.self in
    let text = d ++ slash ∷ [] in
    let are = subst (λ m. AreMovesOf (map member_from (exclude_sources excludes)) m) (sym c.read_directory.ensures.room) own in
    let plain : has_wildcard_at d 0 ≡ false = cc (c.has_wildcard_at.ensures, c.if-has_wildcard_at.false) in
    let went_on : read.gave_up ≡ false = cc (c.gave_up.ensures, c.if-gave_up.false) in
    c.is_some.ensures
    ∙ found-covers d bytes excludes (set_in read) c.next_of.result plain are (c.next_of.ensures.no_other text c.read_directory.ensures.read)
    (subst (λ g. IfSome c.next_of.result (IsMatch (set_in read) text 0 g)) went_on (c.next_of.ensures.matches text c.read_directory.ensures.read)) c.next_of.ensures.number

pub returns-then-gave_up-clause-few : goal.returns-then-gave_up-clause-few
returns-then-gave_up-clause-few c =
    let old = c.args.scratch.now in
    let most = (length c.args.directory.now + 1) * (length old.table.moves.wide + 2) in
    grows-few most (most + length old.table.moves.ends.items) old.total c.read_directory.new.self.total (omega arith)
    (few-read (length old.table.moves.wide) c.args.directory.now old.total c.read_directory.new.self c.read_directory.ensures.steps c.read_directory.ensures.total)

pub returns-clause-few : goal.returns-clause-few
returns-clause-few c =
    let old = c.args.scratch.now in
    let read = c.read_directory.new.self in
    let globs = length old.table.moves.ends.items in
    let most = (length c.args.directory.now + 1) * (length old.table.moves.wide + 2) in
    let steps = few-read (length old.table.moves.wide) c.args.directory.now old.total read c.read_directory.ensures.steps c.read_directory.ensures.total in
    let looks : GrowsBy globs read.total c.next_of.new.self.total =
    subst (λ m. GrowsBy (length m.ends.items) read.total c.next_of.new.self.total) c.read_directory.ensures.room (one-look read c.next_of.new.self c.next_of.result c.next_of.ensures.total) in
    grows-then most globs old.total read.total c.next_of.new.self.total steps looks
