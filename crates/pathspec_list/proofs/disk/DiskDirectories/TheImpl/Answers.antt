-- No tree is known, and no path that was opened.
use Rattle.std.proofs.Common.{◌≡◌, ℕ, refl, List, Option, Some, None, Result, Ok, Err}
use Rattle.pathspec_list.specs.Directories.{opened_after}
use Rattle.pathspec_list.proofs.disk.DiskDirectories.TheImpl.Goals as goal

not_known : {X : Type 0} (x : X) (P : Type 0) → None ≡ Some x → P
not_known x P e = absurd cc

none_opened : {N F : Type 0} (path : List ℕ) (r : Result (Option N) F) → None ≡ opened_after None path r
none_opened path (Ok (Some names)) = refl
none_opened path (Ok None) = refl
none_opened path (Err fault) = refl

pub open-tells : goal.open-tells
open-tells g x c = record {
  found = λ es. not_known es _;
  opened = none_opened c.args.path.now c.result;
  asked = refl;
  tree = λ es. not_known es _;
  tree_stays = refl;
}
