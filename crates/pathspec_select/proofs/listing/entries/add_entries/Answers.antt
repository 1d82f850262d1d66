use Rattle.std.proofs.Common.{◌≡◌, ℕ, ◌+◌, Bool, true, false, cond, refl, sym, ◌∙◌, ap, subst, List, [], ◌∷◌, ◌++◌, length, take, arith, append_assoc, replicate, Some, None, ◌==◌}
use Rattle.std.proofs.lemmas.List.{take_all}
use Rattle.std.proofs.lemmas.Result.{err_from_is_err_and}
use Rattle.std.proofs.Math.Seq.{take-append_seam}
use Rattle.pathspec_parts.specs.Paths.{without_last_slash}
use Rattle.pathspec_parts.specs.Entries.{own_call}
use Rattle.pathspec_parts.specs.Trees.{TreeContents, tree_after}
use Rattle.pathspec_parts.specs.Records.{record_names, parent_names, record_is_dir, implied_names, directory_names}
use Rattle.pathspec_select.specs.Outlines.{OutlineContents, LiesOpen, HasOpen}
use Rattle.pathspec_select.proofs.NameProofs.{directory_names-record}
use Rattle.pathspec_select.proofs.AddingProofs.{some_name, no_name, refused_parents, refused_own, good_names}
use Rattle.pathspec_select.proofs.OpenProofs.{lies_own, has_open-own, tree_own}
use Rattle.pathspec_select.proofs.OwnProofs.{own_path, After, after_own}
use Rattle.pathspec_select.proofs.listing.entries.add_entries.Goals as goal
use Rattle.pathspec_select.proofs.listing.entries.add_entries.Goals.{Joined-is_dir, then-is_dir, else-is_dir}

pub returns-in_err-go_to-clause-answers : goal.returns-in_err-go_to-clause-answers
returns-in_err-go_to-clause-answers c =
    let p = err_from_is_err_and c.from_residual.result c.from_residual.ensures.1 in
    let n = c.split_name.ensures in
    rw (p.1, p.2) (refused_parents c.args.text.now c.split_name.result.0.now (without_last_slash c.split_name.result.1.now) _ n.parents n.name c.in_err-go_to.ensures.answers)

pub returns-then-is_empty-2-clause-answers : goal.returns-then-is_empty-2-clause-answers
returns-then-is_empty-2-clause-answers c =
    let n = c.split_name.ensures in
    let own = without_last_slash c.split_name.result.1.now in
    refused_own c.args.text.now c.split_name.result.0.now own n.parents n.name (no_name own (ap (λ (x : List ℕ). length x == 0) (sym c.strip_last_slash-is_dir.ensures.path) ∙ (sym c.is_empty-2.ensures ∙ c.if-is_empty-2.true)))

pub add-requires-clause-lies : goal.add-requires-clause-lies
add-requires-clause-lies c =
    let n = c.split_name.ensures in
    let text = c.args.text.now in
    let parents = c.split_name.result.0.now in
    let name = c.split_name.result.1.now in
    let o = c.go_to.new.outline in
    let g = c.in_ok-go_to.ensures in
    let path = own_path c.args.outline.now o c.args.start text parents name c.strip_last_slash-is_dir.result.0.now g.kept c.requires.record n.whole n.some n.kind c.strip_last_slash-is_dir.ensures.path in
    let some = some_name (without_last_slash name) (ap (λ (x : List ℕ). length x == 0) (sym c.strip_last_slash-is_dir.ensures.path) ∙ (sym c.is_empty-2.ensures ∙ c.if-is_empty-2.false)) in
    subst (LiesOpen o.tree) (sym path) (lies_own text parents name n.whole n.some n.kind n.parents n.name o.tree g.there some)

-- what the last entry is
added : (c : Joined-is_dir)
    → After c.go_to.new.outline c.args.start c.args.text.now c.split_name.result.0.now c.split_name.result.1.now (length c.split_name.result.0.now + length c.strip_last_slash-is_dir.result.0.now) c.strip_last_slash-is_dir.result.1
added c =
    let n = c.split_name.ensures in
    let s = c.strip_last_slash-is_dir in
    after_own c.args.outline.now c.go_to.new.outline c.args.start c.args.text.now c.split_name.result.0.now c.split_name.result.1.now s.result.0.now s.result.1 c.in_ok-go_to.ensures.kept c.requires.record n.whole n.some n.kind n.parents n.name s.ensures.path
    s.ensures.slash

pub returns-clause-tree : goal.returns-clause-tree
returns-clause-tree c =
    let n = c.split_name.ensures in
    let text = c.args.text.now in
    let parents = c.split_name.result.0.now in
    let name = c.split_name.result.1.now in
    let o = c.go_to.new.outline in
    let g = c.in_ok-go_to.ensures in
    let a = added c in
    ap (λ (x : OutlineContents). x.tree) c.in_ok-add.ensures.ok ∙ (a.tree ∙ tree_own text parents name n.whole n.some n.kind n.parents n.name o.tree g.there c.args.outline.now.tree (directory_names c.args.directory.now) g.tree)

pub returns-clause-marks : goal.returns-clause-marks
returns-clause-marks c =
    let n = c.split_name.ensures in
    let text = c.args.text.now in
    let o = c.go_to.new.outline in
    let g = c.in_ok-go_to.ensures in
    let a = added c in
    let names = directory_names c.args.directory.now in
    ap (λ (x : OutlineContents). x.marks) c.in_ok-add.ensures.ok
    ∙ (ap (λ m. o.marks ++ m ∷ []) a.mark
    ∙ (ap (λ ms. ms ++ Some text ∷ []) (g.marks ∙ ap (λ (ns : List (List ℕ)). c.args.outline.now.marks ++ replicate (length (implied_names names ns)) None) n.parents)
    ∙ append_assoc c.args.outline.now.marks (replicate (length (implied_names names (parent_names text))) None) (Some text ∷ [])))

-- the names of the directory that is open after a record
opened : (text parents : List ℕ) → directory_names parents ≡ parent_names text → (b : Bool) → record_is_dir text ≡ b → directory_names (cond b text parents) ≡ cond b (record_names text) (parent_names text)
opened text parents p true t = directory_names-record text t
opened text parents p false f = p

-- which of the two paths it is
path_is : (c : Joined-is_dir) → c.if-is_dir.result.now ≡ cond (record_is_dir c.args.text.now) c.args.text.now c.split_name.result.0.now
path_is c =
    let text = c.args.text.now in
    let parents = c.split_name.result.0.now in
    let d : c.strip_last_slash-is_dir.result.1 ≡ record_is_dir text = c.strip_last_slash-is_dir.ensures.slash ∙ c.split_name.ensures.kind in
    elim c.if-is_dir.branch [
      | then-is_dir w ↦ ap (λ x. x.now) w.result-is ∙ sym (ap (λ b. cond b text parents) (sym d ∙ w.if-is_dir.true))
      | else-is_dir w ↦ ap (λ x. x.now) w.result-is ∙ sym (ap (λ b. cond b text parents) (sym d ∙ w.if-is_dir.false))
    ]

pub returns-clause-there : goal.returns-clause-there
returns-clause-there c =
    let n = c.split_name.ensures in
    let text = c.args.text.now in
    let parents = c.split_name.result.0.now in
    let name = c.split_name.result.1.now in
    let o = c.go_to.new.outline in
    let g = c.in_ok-go_to.ensures in
    let a = added c in
    subst (λ (t : TreeContents). HasOpen t c.if-is_dir.result.now) (sym (ap (λ (x : OutlineContents). x.tree) c.in_ok-add.ensures.ok ∙ a.tree))
    (subst (HasOpen (tree_after o.tree (own_call (record_is_dir text) (without_last_slash name)))) (sym (path_is c)) (has_open-own text parents name n.whole n.some n.kind n.parents n.name o.tree g.there (record_is_dir text) refl))

pub returns-clause-names : goal.returns-clause-names
returns-clause-names c = ap directory_names (path_is c) ∙ opened c.args.text.now c.split_name.result.0.now c.split_name.ensures.parents (record_is_dir c.args.text.now) refl

pub returns-clause-answers : goal.returns-clause-answers
returns-clause-answers c =
    let n = c.split_name.ensures in
    let own = without_last_slash c.split_name.result.1.now in
    let some = some_name own (ap (λ (x : List ℕ). length x == 0) (sym c.strip_last_slash-is_dir.ensures.path) ∙ (sym c.is_empty-2.ensures ∙ c.if-is_empty-2.false)) in
    good_names c.args.text.now c.split_name.result.0.now own n.parents n.name c.in_ok-go_to.ensures.answers some

-- it is a front of the record
front_is : (text parents name : List ℕ) → text ≡ parents ++ name → (b : Bool) → cond b text parents ≡ take (length (cond b text parents)) text
front_is text parents name w true = sym (take_all (length text) text (omega arith))
front_is text parents name w false = sym (ap (take (length parents)) w ∙ take-append_seam parents name)

pub returns-clause-front : goal.returns-clause-front
returns-clause-front c =
    let text = c.args.text.now in
    let parents = c.split_name.result.0.now in
    path_is c ∙ (front_is text parents c.split_name.result.1.now c.split_name.ensures.whole (record_is_dir text) ∙ ap (λ (x : List ℕ). take (length x) text) (sym (path_is c)))
