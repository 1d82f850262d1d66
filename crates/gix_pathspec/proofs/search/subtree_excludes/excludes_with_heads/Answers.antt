-- A spec that is such an exclude comes last, and its head.
use Rattle.std.proofs.Common.{◌≡◌, ◌∙◌, sym, ap, Bool, List, [], ◌∷◌, ◌++◌, ℕ, map, take, arith}
use Rattle.std.proofs.lemmas.List.{append-nil, map-append}
use Rattle.gix_pathspec.specs.Reach.{subtree_excludes_of}
use Rattle.gix_pathspec.specs.Specs.{Spec}
use Rattle.gix_pathspec.specs.Search.{specs_of}
use Rattle.gix_pathspec.specs.ExcludeSets.{exclude_head_beside}
use Rattle.gix_pathspec.proofs.SubtreeExcludeProofs.{option_list, excludes-more, exclude-same}
use Rattle.gix_pathspec.proofs.search.subtree_excludes.excludes_with_heads.Goals as goal
use Rattle.gix_pathspec.proofs.search.subtree_excludes.excludes_with_heads.Goals.{in-Some+in_ok-push+in_ok-push-2, in_default}

-- one more head stands for one more exclude
head-more : (asked : Bool) (heads : List (List ℕ)) (excludes : List Spec) (head : List ℕ) (s : Spec) → heads ≡ map (exclude_head_beside asked) excludes → head ≡ exclude_head_beside asked s
    → heads ++ head ∷ [] ≡ map (exclude_head_beside asked) (excludes ++ s ∷ [])
head-more asked heads excludes head s e h = rw (e, h) (sym (map-append (exclude_head_beside asked) excludes (s ∷ [])))

pub loop-spec-preserved : goal.loop-spec-preserved
loop-spec-preserved c =
    let i = c.loop-spec.invariant in
    let n = c.spec-item.result in
    let before = subtree_excludes_of (specs_of (take c.loop-spec.spec-index c.args.specs.now)) in
    let more = excludes-more c.args.specs.now c.loop-spec.spec-index n c.in_ok-exclude.field-0 (omega arith) c.spec-item.is c.in_ok-exclude.ensures in
    elim c.match-branch-2.branch [
      | in-Some+in_ok-push+in_ok-push-2 w ↦
          let s = w.in-Some.exclude in
          let excludes : c.match-branch-2.excludes.items ≡ c.loop-spec.excludes.items ++ s ∷ [] = ap (λ v. v.items) w.excludes-is ∙ w.in_ok-push.ensures.items in
          let heads : c.match-branch-2.heads.items ≡ c.loop-spec.heads.items ++ w.head_beside.result ∷ [] = ap (λ v. v.items) w.heads-is ∙ w.in_ok-push-2.ensures.items in
          let same : s ≡ n.spec = exclude-same n.spec s (sym c.in_ok-exclude.ensures ∙ w.in-Some.is) in
          let head = w.head_beside.ensures ∙ ap (exclude_head_beside c.args.is_set_asked) (sym same) in
          record {
            excludes = excludes ∙ (ap (λ ts. ts ++ s ∷ []) i.excludes ∙ sym (more ∙ ap (λ o. before ++ option_list o) w.in-Some.is));
            heads = rw (heads, excludes) (map-append (λ h. h.now) c.loop-spec.heads.items (w.head_beside.result ∷ []) ∙ head-more c.args.is_set_asked _ c.loop-spec.excludes.items _ s i.heads head);
          }
      | in_default w ↦ record {
        excludes = ap (λ v. v.items) w.excludes-is ∙ (i.excludes ∙ sym (more ∙ (ap (λ o. before ++ option_list o) w.in_default.is ∙ append-nil before)));
        heads = rw (w.excludes-is, w.heads-is) i.heads;
      }
    ]
