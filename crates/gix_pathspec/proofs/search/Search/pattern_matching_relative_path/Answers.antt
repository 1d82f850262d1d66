-- What is selected follows from the answer, since the specs stand in search order.
use Rattle.std.proofs.Common.{◌≡◌, ap}
use Rattle.bstr.specs.BStr.{bstr_bytes}
use Rattle.std.specs.Option.{option_map}
use Rattle.gix_pathspec.specs.Found.{is_directory, match_view}
use Rattle.gix_pathspec.specs.Search.{SearchContents}
use Rattle.gix_pathspec.proofs.FoundProofs.{selected-found}
use Rattle.gix_pathspec.proofs.search.Search.pattern_matching_relative_path.Goals as goal

pub returns-clause-selected : goal.returns-clause-selected
returns-clause-selected g c =
    let same : c.self.inside.specs ≡ c.args.self.now.specs = ap (λ (s : SearchContents). s.specs) c.self.view_is in
    (selected-found (g.L.LookUp.table c.args.look_up.now) c.self.inside.specs c.args.self.now.specs (bstr_bytes c.args.path) (is_directory c.args.is_dir) c.in_ok-found.found (option_map match_view c.match_found.result) same c.self.invariant.is_ordered c.in_ok-found.ensures.answer
    (c.match_found.ensures)).0

pub returns-clause-begins : goal.returns-clause-begins
returns-clause-begins g c =
    let same : c.self.inside.specs ≡ c.args.self.now.specs = ap (λ (s : SearchContents). s.specs) c.self.view_is in
    (selected-found (g.L.LookUp.table c.args.look_up.now) c.self.inside.specs c.args.self.now.specs (bstr_bytes c.args.path) (is_directory c.args.is_dir) c.in_ok-found.found (option_map match_view c.match_found.result) same c.self.invariant.is_ordered c.in_ok-found.ensures.answer
    (c.match_found.ensures)).1
