-- The search is made again from what is stored of it.
use Rattle.std.proofs.Common.{map}
use Rattle.bstr.specs.BStr.{bstr_bytes}
use Rattle.bstr.specs.Owned.{bstring_bytes}
use Rattle.pathspec_callers.proofs.StoredProofs.{stored-alike}
use Rattle.pathspec_callers.proofs.store.search_and_stored.Goals as goal

pub returns : goal.returns
returns c =
    let first = c.in_ok-search.ensures in
    let remade = rw (c.new.ensures, c.as_slice.ensures.value) at c.in_ok-again.ensures.search in
    stored-alike (map bstring_bytes c.args.texts.now) (map bstring_bytes c.in-Ok.stored.items) (bstr_bytes c.args.prefix) (bstr_bytes c.args.root) c.in_ok-search.search.specs c.in_ok-again.again.specs first.laws.0 first.laws.1 c.nil_specs_lack_a_prefix.ensures first.search c.in-Ok.ensures remade
