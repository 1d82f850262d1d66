use Rattle.std.proofs.Common.{◌≡◌, ◌+◌, ◌∙◌, cond, length, refl, sym, ap, subst, arith}
use Rattle.std.proofs.lemmas.List.Sums.{count_by-le-length}
use Rattle.pathspec_parts.specs.Entries.{Entry}
use Rattle.pathspec_parts.specs.Cursors.{append_if}
use Rattle.pathspec_parts.proofs.NestingProofs.{entries_count}
use Rattle.pathspec_select.specs.Outlines.{OutlineContents, part, name_of_span, end_of_span, tree_of_spans, outline_after, outline_of_spans, LiesInRecord, LiesOpen, IsOutline}
use Rattle.pathspec_select.specs.declared.listing.spans.Span.{Span}
use Rattle.pathspec_select.proofs.ListingProofs.{part-fits}
use Rattle.pathspec_select.proofs.OutlineProofs.{added, kept, last_name-some}
use Rattle.pathspec_select.proofs.listing.outline.Outline.add.Goals as goal

pub add-requires-clause-few : goal.add-requires-clause-few
add-requires-clause-few c =
    let s = c.self.inside in
    let less = count_by-le-length (λ (e : Entry). e.is_dir) (tree_of_spans s.bytes.now s.spans).entries in
    let long = entries_count (name_of_span s.bytes.now s.spans) (end_of_span s.spans) (length s.spans) s.nested.stack s.nested.directories c.self.invariant.nesting (tree_of_spans s.bytes.now s.spans) refl in
    omega (arith, less, long, c.self.invariant.nesting.directories_are, c.reserve.ensures.same.directories, c.self.invariant.room)

-- the span of the new entry
abbrev new_span : goal.After-add → Span
new_span c = record { start = c.args.start; length = c.args.count; end = c.first_end.result }

both : (c : goal.After-add) → IsOutline c.self.inside.bytes.now c.self.inside.separator c.push.new.self c.add.new.self
    × (outline_of_spans c.self.inside.bytes.now c.self.inside.separator c.push.new.self ≡ outline_after c.args.self.now c.args.start c.args.count c.args.is_dir)
both c =
    let s = c.self.inside in
    let o = outline_of_spans s.bytes.now s.separator s.spans in
    let within = subst (λ (x : OutlineContents). LiesInRecord x.separator x.bytes c.args.start c.args.count c.args.is_dir) (sym c.self.view_is) c.requires.record in
    let lies : LiesOpen o.tree (part s.bytes.now c.args.start c.args.count) = subst (λ (x : OutlineContents). LiesOpen x.tree (part x.bytes c.args.start c.args.count)) (sym c.self.view_is) c.requires.lies in
    let fits = part-fits s.separator s.bytes.now c.args.start c.args.count c.args.is_dir within (last_name-some (part s.bytes.now c.args.start c.args.count) lies.name_some) in
    let stack = c.add.ensures.stack ∙ (ap (append_if c.args.is_dir c.len-number.result) c.reserve.ensures.same.stack ∙ ap (λ n. append_if c.args.is_dir n s.nested.stack) c.len-number.ensures) in
    let directories = c.add.ensures.directories ∙ ap (λ k. k + cond c.args.is_dir 1 0) c.reserve.ensures.same.directories in
    let r = added s.bytes.now s.separator s.spans s.nested c.self.invariant c.args.is_dir (new_span c) c.first_end.ensures fits within lies c.add.new.self stack directories c.push.new.self c.in_ok-push.ensures.ok c.in_ok-push.ensures.room in
    (r.0, r.1 ∙ ap (λ (x : OutlineContents). outline_after x c.args.start c.args.count c.args.is_dir) c.self.view_is)

pub invariant_of-self-in_err-push : goal.invariant_of-self-in_err-push
invariant_of-self-in_err-push c =
    let s = c.self.inside in
    subst (λ xs. IsOutline s.bytes.now s.separator xs c.reserve.new.self) (sym c.in_err-push.ensures.err) (kept s.bytes.now s.separator s.spans s.nested c.self.invariant c.reserve.new.self c.reserve.ensures.same)

pub invariant_of-self-2 : goal.invariant_of-self-2
invariant_of-self-2 c = (both c).0

pub returns-clause-ok : goal.returns-clause-ok
returns-clause-ok c = (both c).1
