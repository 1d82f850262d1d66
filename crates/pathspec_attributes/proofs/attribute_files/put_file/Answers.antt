use Rattle.std.proofs.Common.{subst, List, ℕ, Vec, Some}
use Rattle.std.specs.Global.{Global}
use Rattle.std.specs.Ordering.{nat_cmp}
use Rattle.std.specs.Cmp.Lexicographic.{slice_cmp}
use Rattle.std.specs.BTreeMap.{UpdatesBy}
use Rattle.pathspec_attributes.proofs.DirectoryProofs.{view-updates}
use Rattle.pathspec_attributes.proofs.KeyProofs.{key_cmp}
use Rattle.pathspec_attributes.proofs.attribute_files.put_file.Goals as goal

pub returns-clause-ok : goal.returns-clause-ok
returns-clause-ok c =
    let changed : UpdatesBy key_cmp (λ (key : Vec ℕ Global). slice_cmp nat_cmp c.args.path.now key.items) c.args.directories.now c.insert.new.self (Some c.args.file) =
    subst (λ (p : List ℕ). UpdatesBy key_cmp (λ (key : Vec ℕ Global). slice_cmp nat_cmp p key.items) c.args.directories.now c.insert.new.self (Some c.args.file)) c.in_ok-from_slice.ensures.items c.in_ok-insert.ensures.updates in
    view-updates c.args.directories.now c.insert.new.self c.args.path.now (Some c.args.file) changed
