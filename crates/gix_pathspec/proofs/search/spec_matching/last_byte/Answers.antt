use Rattle.std.proofs.Common.{◌≡◌, ◌∙◌, sym, ap, subst, true, IfSome}
use Rattle.pathspec_glob.specs.LastBytes.{own_end}
use Rattle.gix_pathspec.specs.EndBytes.{EndsPaths}
use Rattle.gix_pathspec.specs.Patterns.{pattern_spec}
use Rattle.gix_pathspec.specs.Specs.{has_wildcard}
use Rattle.gix_pathspec.proofs.EndByteProofs.{ends-known}
use Rattle.gix_pathspec.proofs.search.spec_matching.last_byte.Goals as goal

pub returns : goal.returns
returns c =
    let s = pattern_spec c.args.pattern.now in
    let wild : has_wildcard s ≡ true = sym c.requires ∙ c.if-not-is_wild.false in
    let own = c.last_byte.ensures.byte ∙ ap own_end (c.as_bytes.ensures ∙ c.path.ensures.path) in
    subst (λ o. IfSome o (EndsPaths s)) (sym own) (ends-known s wild)
