-- The next entry is added by what its path has behind that of the open directory.
use Rattle.std.proofs.Common.{◌∙◌, ◌-◌, ◌≤◌, ◌++◌, ◌∷◌, [], cond, sym, ap, subst, rules, List, ℕ, length}
use Rattle.std.specs.Prelude.{slice_get}
use Rattle.pathspec_select.specs.TreeCopies.{IsLengthAbove}
use Rattle.pathspec_select.proofs.TreeCopyProofs.{last-within, above-fits, adds-next}
use Rattle.pathspec_select.proofs.listing.copy.add_entry.Goals as goal

pub length_above-above-requires : goal.length_above-above-requires
length_above-above-requires c =
    let es = c.args.outline.now.tree.entries in
    λ x s. last-within es c.args.tree.now c.args.opened.now.items c.requires.next x (sym (ap (λ (t : List ℕ). slice_get t (length t - 1)) c.deref.ensures.value) ∙ s)

pub slice_bounds-add-count : goal.slice_bounds-add-count
slice_bounds-add-count c =
    let es = c.args.outline.now.tree.entries in
    let front : IsLengthAbove es c.args.opened.now.items c.length_above-above.result = subst (λ (t : List ℕ). IsLengthAbove es t c.length_above-above.result) c.deref.ensures.value c.length_above-above.ensures in
    above-fits es c.args.tree.now c.args.opened.now.items c.requires.next c.args.number c.requires.number c.is_dir-is_dir.result c.is_dir-is_dir.ensures c.path.result.now c.path.ensures c.length_above-above.result front

pub slice_bounds-add-start : goal.slice_bounds-add-start
slice_bounds-add-start c =
    let es = c.args.outline.now.tree.entries in
    let front : IsLengthAbove es c.args.opened.now.items c.length_above-above.result = subst (λ (t : List ℕ). IsLengthAbove es t c.length_above-above.result) c.deref.ensures.value c.length_above-above.ensures in
    let fits : c.length_above-above.result ≤ length c.path.result.now = above-fits es c.args.tree.now c.args.opened.now.items c.requires.next c.args.number c.requires.number c.is_dir-is_dir.result c.is_dir-is_dir.ensures c.path.result.now c.path.ensures c.length_above-above.result front in
    search (rules, fits)

pub returns-in_ok-push-clause-copy : goal.returns-in_ok-push-clause-copy
returns-in_ok-push-clause-copy c =
    let es = c.args.outline.now.tree.entries in
    let opened = c.args.opened.now.items in
    let front : IsLengthAbove es opened c.length_above-above.result = subst (λ (t : List ℕ). IsLengthAbove es t c.length_above-above.result) c.deref.ensures.value c.length_above-above.ensures in
    adds-next es c.args.tree.now opened c.requires.next c.args.number c.requires.number c.is_dir-is_dir.result c.is_dir-is_dir.ensures c.path.result.now c.path.ensures c.length_above-above.result front c.add.new.tree c.in_ok-add.ensures c.push.new.self.items
    (c.in_ok-push.ensures.items ∙ ap (λ b. cond b (opened ++ c.args.number ∷ []) opened) (sym c.if-is_dir.true))

pub returns-else-is_dir-clause-copy : goal.returns-else-is_dir-clause-copy
returns-else-is_dir-clause-copy c =
    let es = c.args.outline.now.tree.entries in
    let opened = c.args.opened.now.items in
    let front : IsLengthAbove es opened c.length_above-above.result = subst (λ (t : List ℕ). IsLengthAbove es t c.length_above-above.result) c.deref.ensures.value c.length_above-above.ensures in
    adds-next es c.args.tree.now opened c.requires.next c.args.number c.requires.number c.is_dir-is_dir.result c.is_dir-is_dir.ensures c.path.result.now c.path.ensures c.length_above-above.result front c.add.new.tree c.in_ok-add.ensures opened
    (ap (λ b. cond b (opened ++ c.args.number ∷ []) opened) (sym c.if-is_dir.false))
