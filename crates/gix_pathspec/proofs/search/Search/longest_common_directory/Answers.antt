-- By the first include, if there is one; the law holds of all specs.
use Rattle.std.proofs.Common.{◌∙◌, ap}
use Rattle.gix_pathspec.specs.Directories.{non_empty}
use Rattle.gix_pathspec.specs.Search.{specs_of}
use Rattle.gix_pathspec.proofs.DirectoryCalls.{common_directory-some, common_directory-none}
use Rattle.gix_pathspec.proofs.DirectoryProofs.{common_directory_holds_all}
use Rattle.gix_pathspec.proofs.search.Search.longest_common_directory.Goals as goal

pub returns-in-Some-clause-answer : goal.returns-in-Some-clause-answer
returns-in-Some-clause-answer c = c.non_empty.ensures ∙ ap non_empty c.common_directory_from.ensures ∙ common_directory-some _ _ c.in-Some.ensures

pub returns-in-Some-clause-holds_all : goal.returns-in-Some-clause-holds_all
returns-in-Some-clause-holds_all c table = common_directory_holds_all table (specs_of c.args.self.now.specs)

pub returns-in-None-clause-answer : goal.returns-in-None-clause-answer
returns-in-None-clause-answer c = common_directory-none _ c.in-None.ensures

pub returns-in-None-clause-holds_all : goal.returns-in-None-clause-holds_all
returns-in-None-clause-holds_all c table = common_directory_holds_all table (specs_of c.args.self.now.specs)
