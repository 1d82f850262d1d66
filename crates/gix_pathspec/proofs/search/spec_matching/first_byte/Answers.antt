use Rattle.std.proofs.Common.{◌≡◌, ◌∙◌, sym, ap, subst, false, IfSome, List, ℕ, slice_get, take}
use Rattle.gix_pathspec.specs.EndBytes.{BeginsPaths}
use Rattle.gix_pathspec.specs.Patterns.{pattern_spec}
use Rattle.gix_pathspec.proofs.EndByteProofs.{begins-paths, stem-front}
use Rattle.gix_pathspec.proofs.search.spec_matching.first_byte.Goals as goal

pub returns : goal.returns
returns c =
    let s = pattern_spec c.args.pattern.now in
    let nil : s.nil ≡ false = sym c.is_nil.ensures ∙ c.if-is_nil.false in
    let front : take c.args.stem_length c.as_bytes.result.now ≡ _ = stem-front s nil c.args.stem_length c.as_bytes.result.now c.requires (c.as_bytes.ensures ∙ c.path.ensures.path) in
    let first = ap (λ (t : List ℕ). slice_get t 0) (sym front) ∙ sym c.first.ensures.value ∙ sym c.copied.ensures in
    subst (λ o. IfSome o (BeginsPaths s)) first (begins-paths s nil)
