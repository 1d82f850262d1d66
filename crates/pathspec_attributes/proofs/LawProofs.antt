-- The laws of all attribute files.
use Rattle.pathspec_attributes.specs.Laws.{LawsOfFiles}
use Rattle.pathspec_attributes.proofs.DecidingProofs.{decides_once}
use Rattle.pathspec_attributes.proofs.FileProofs.{own_directories}
use Rattle.pathspec_attributes.proofs.RuleProofs.{fits_is_relation}

pub laws_of_files : LawsOfFiles
laws_of_files = record { own_directories = own_directories; fits = fits_is_relation; once = decides_once }
