use Rattle.pathspec_pattern.proofs.pattern.long_text.+write_number.Given as goal

abbrev pub decreases-write_number : goal.decreases-write_number
decreases-write_number l = l.number
