-- The pattern without case has the same glob.
use Rattle.std.proofs.Common.{◌≤◌, sym, ◌∙◌, ap, subst}
use Rattle.bstr.specs.BStr.{bstr_bytes}
use Rattle.gix_pathspec.specs.Specs.{Spec}
use Rattle.gix_pathspec.specs.Patterns.{pattern_spec}
use Rattle.gix_pathspec.specs.Room.{glob_of, tokens_of}
use Rattle.pathspec_explain.proofs.ReasonProofs.{cased}
use Rattle.pathspec_explain.proofs.why.kind_without_case.Goals as goal

pub match_kind-requires-clause-glob : goal.match_kind-requires-clause-glob
match_kind-requires-clause-glob c = c.requires.glob ∙ ap glob_of (sym c.requires.folded)

pub match_kind-requires-clause-room : goal.match_kind-requires-clause-room
match_kind-requires-clause-room c = subst (λ (s : Spec). tokens_of s ≤ c.args.globs.now.tokens) (sym c.requires.folded) c.requires.room

pub returns-else-ignores_case-clause-kind : goal.returns-else-ignores_case-clause-kind
returns-else-ignores_case-clause-kind c = cased (pattern_spec c.args.pattern.now) (pattern_spec c.args.folded.now) (bstr_bytes c.args.path) c.args.is_dir _ c.requires.folded (sym c.if-ignores_case.ensures) c.match_kind.ensures.kind
