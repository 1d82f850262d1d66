use Rattle.std.proofs.Common.{None}
use Rattle.pathspec_attributes.proofs.DirectoryProofs.{view-updates}
use Rattle.pathspec_attributes.proofs.attribute_files.remove_file.Goals as goal

pub returns : goal.returns
returns c = view-updates c.args.directories.now c.remove.new.self c.args.path.now None c.remove.ensures.updates
