-- The directory's names are written, and then the others, so all are.
use Rattle.std.proofs.Common.{◌≡◌, ◌≢◌, ℕ, refl, ◌∙◌, ap, List, [], ◌∷◌, length, take, arith}
use Rattle.std.proofs.Math.Seq.{take-length}
use Rattle.pathspec_parts.specs.Paths.{join_names}
use Rattle.pathspec_pattern.specs.Specs.{Spec}
use Rattle.pathspec_pattern.specs.NormalForm.{Base, new_prefix_length, resolved}
use Rattle.pathspec_pattern.specs.Patterns.{pattern_spec}
use Rattle.pathspec_pattern.specs.Resolving.{base_of}
use Rattle.pathspec_parts.specs.Components.{remaining_components}
use Rattle.pathspec_pattern.proofs.pattern.Pattern.with_names.Goals as goal

resolved-some : (b : Base) (s : Spec) (own left : List (List ℕ)) (path : List ℕ) (len : ℕ) → left ≢ [] → path ≡ join_names left → len ≡ new_prefix_length b s own left → record s { path = path; prefix_length = len } ≡ resolved b s own left
resolved-some b s own [] path len some e l = absurd (some refl)
resolved-some b s own (name ∷ more) path len some e l = rw (e, l) refl

pub write_names-requires : goal.write_names-requires
write_names-requires c = record { order = omega arith; within = c.directory_count-count.ensures.within; before = c.in_ok-path.ensures.items }

pub write_names-requires-2 : goal.write_names-requires-2
write_names-requires-2 c =
    let within = c.directory_count-count.ensures.within in
    let all = c.len-2.ensures in
    record { order = rw all within; within = omega (arith, all); before = c.in_ok-write_names.ensures }

pub new_prefix_length-prefix_length-requires : goal.new_prefix_length-prefix_length-requires
new_prefix_length-prefix_length-requires c =
    let names = c.args.walk.now.stack.names in
    record {
      path = c.as_slice.ensures.value ∙ (c.in_ok-write_names-2.ensures ∙ ap join_names (ap (λ n. take n names) c.len-2.ensures ∙ take-length names));
      front = c.len-front.ensures ∙ (c.write_names.new.path.ok.0 ∙ (ap length c.in_ok-write_names.ensures ∙ ap (λ n. length (join_names (take n names))) c.directory_count-count.ensures.count));
    }

pub returns-clause-ok : goal.returns-clause-ok
returns-clause-ok c =
    let names = c.args.walk.now.stack.names in
    resolved-some (base_of c.args.walk.now.base) (pattern_spec c.args.self.now) (remaining_components c.args.walk.now.own) names c.write_names-2.new.path.items c.new_prefix_length-prefix_length.result c.requires
    (c.in_ok-write_names-2.ensures ∙ ap join_names (ap (λ n. take n names) c.len-2.ensures ∙ take-length names))
    c.new_prefix_length-prefix_length.ensures
