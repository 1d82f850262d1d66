-- Where no directory ends, nothing is found.
use Rattle.std.proofs.Common.{◌≡◌, ◌∙◌, ℕ, ◌-◌, ◌&&◌, false, get_or, List, ◌++◌, map, ap, arith}
use Rattle.std.specs.Prelude.{nat_lt}
use Rattle.pathspec_parts.specs.Paths.{is_slash}
use Rattle.pathspec_attributes.specs.Sayings.{Saying, saying_view, sayings_of_file}
use Rattle.pathspec_attributes.specs.Sayings.FilePlace.{DirectoryFile}
use Rattle.pathspec_attributes.specs.Views.{file_in}
use Rattle.pathspec_attributes.proofs.AskingProofs.{at-front, not-slash, directory-passes}
use Rattle.pathspec_attributes.proofs.sayings.push_directories.Goals as goal
use Rattle.pathspec_attributes.proofs.sayings.push_directories.Goals.{else-end-gt0-via-then-end-gt0+else-path-end-eq47, else-end-gt0-via-else-end-gt0}

pub loop-end-preserved : goal.loop-end-preserved
loop-end-preserved c =
    let asked = c.args.asked.now in
    let path : List ℕ = asked.path.now in
    let say : List ℕ → List Saying = λ base. sayings_of_file asked.case path asked.is_dir (DirectoryFile base) (file_in c.args.directories.now base) in
    let end : ℕ = c.loop-end.end in
    let k : ℕ = end - 1 in
    let passes : (is_slash (get_or path k 0) && nat_lt 0 k) ≡ false = elim c.else-end-gt0.branch [
      | else-end-gt0-via-then-end-gt0+else-path-end-eq47 w ↦ not-slash path k w.if-path-end-eq47.false
      | else-end-gt0-via-else-end-gt0 w ↦ at-front path k w.if-end-gt0.false
    ] in
    record {
      within = omega (arith, c.loop-end.invariant.within);
      found = c.loop-end.invariant.found ∙ ap (λ (xs : List Saying). map saying_view c.loop-end.found.items ++ xs) (directory-passes say path end c.loop-end-test.true passes);
    }
