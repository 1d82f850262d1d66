use Rattle.pathspec_attributes.specs.Files.{built_in}
use Rattle.pathspec_attributes.proofs.attribute_files.built_in.Goals as goal

pub returns : goal.returns
unfolding built_in
returns c = c.in_ok-file.ensures.file
