use Rattle.pathspec_parts.specs.Paths.{without_last_slash}
use Rattle.pathspec_parts.proofs.NameProofs.{NamesAre, from_form, names_at_none, names_at_some, names_moved}
use Rattle.pathspec_parts.proofs.records.split_name.Goals as goal
use Rattle.pathspec_parts.proofs.records.split_name.Goals.{After-split_at, in-Some, in-None}

-- what the two parts are
parts : (c : After-split_at) → NamesAre c.args.text.now c.split_at.result.0.now (without_last_slash c.split_at.result.1.now)
parts c =
    let s = c.split_at.ensures in
    let text = c.args.text.now in
    elim c.match-rfind_byte.branch [
      | in-Some w ↦ names_moved text _ _ c.match-rfind_byte.length _ w.length-is s.front s.back (names_at_some text w.in-Some.slash c.requires w.in-Some.ensures)
      | in-None w ↦ names_moved text _ _ c.match-rfind_byte.length 0 w.length-is s.front s.back (names_at_none text c.requires w.in-None.ensures)
    ]

pub returns-clause-parents : goal.returns-clause-parents
returns-clause-parents c = (parts c).parents

pub returns-clause-name : goal.returns-clause-name
returns-clause-name c = (parts c).own

pub returns-clause-closed : goal.returns-clause-closed
returns-clause-closed c = from_form c.split_at.result.0.now (parts c).closed
