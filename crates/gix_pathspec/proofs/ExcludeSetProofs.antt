-- What a set of globs says of the subtree excludes in it.
use Rattle.std.proofs.Common.{◌≡◌, ℕ, zero, suc, ◌<◌, Bool, true, false, not, ◌&&◌, inl, inr, refl, sym, ◌∙◌, ap, arith, cond, List, [], ◌∷◌, ◌++◌, length, get_or, Some, None}
use Rattle.std.proofs.lemmas.Bool.{and_parts, or_left, or_right, cases_Bool, both_ways, not-true, false_from_ne_true}
use Rattle.std.specs.Prelude.{ltb}
use Rattle.std.specs.List.{cons_option, list_any}
use Rattle.pathspec_glob_set.specs.Sets.{member_matches}
use Rattle.gix_pathspec.specs.Bytes.{slash, is_empty, is_wildcard}
use Rattle.gix_pathspec.specs.Paths.{IsBytes}
use Rattle.gix_pathspec.specs.Specs.{Spec, has_wildcard, ignores_case, prefix_directory}
use Rattle.gix_pathspec.specs.Plain.{has_one_case}
use Rattle.gix_pathspec.specs.Matching.{glob_matches, is_in_prefix_directory, is_prefix_match, is_verbatim_match}
use Rattle.gix_pathspec.specs.Prefixes.{head, stem}
use Rattle.gix_pathspec.specs.EndBytes.{has_wildcard_at}
use Rattle.gix_pathspec.specs.Room.{exclude_set_sources, exclude_source_of, exclude_sources, has_exclude_set, has_members, made_sources, member_sources, source_of, MemberSource}
use Rattle.gix_pathspec.specs.Reach.{can_take_rest, is_subtree_exclude, subtree_excludes_of}
use Rattle.gix_pathspec.specs.Search.{Numbered, specs_of}
use Rattle.gix_pathspec.specs.Sets.{member_from}
use Rattle.gix_pathspec.specs.ExcludeSets.{ExcludeSetCuts, ExcludeSetLeavesOut}
use Rattle.gix_pathspec.proofs.EndByteProofs.{prefix-wild, verbatim-wild}
use Rattle.gix_pathspec.proofs.SubtreeExcludeProofs.{exclude-lost, exclude-rest, exclude-whole}
use Rattle.gix_pathspec.proofs.SetProofs.{all-bytes, bytes-at, kept, length-none, member-is-glob, source-parts, IsSource}

-- ---- the source of an exclude

-- an exclude of the set can take the rest of a directory, and its source is that of a spec which begins with a wildcard
pub record IsExcludeSource (s : Spec) (source : MemberSource) : Type 0 where
  pub is_one : is_subtree_exclude s ≡ true
  pub takes_rest : can_take_rest s ≡ true
  pub is : IsSource s source

pub exclude-source-parts : (s : Spec) (source : MemberSource) → exclude_source_of s ≡ Some source → IsExcludeSource s source
exclude-source-parts s source e = at (is_subtree_exclude s) (can_take_rest s) refl refl e
  where
    at : (x r : Bool) → is_subtree_exclude s ≡ x → can_take_rest s ≡ r → cond (x && r) (source_of s) None ≡ Some source → IsExcludeSource s source
    at true true p q is = record { is_one = p; takes_rest = q; is = source-parts s source is }
    at true false p q is = cc
    at false r p q is = cc

-- a directory and a slash are bytes where the directory is
bytes-behind : (d : List ℕ) → ((k : ℕ) → get_or d k 0 < 256) → (k : ℕ) → get_or (d ++ slash ∷ []) k 0 < 256
bytes-behind [] h zero = omega arith
bytes-behind [] h (suc k) = omega arith
bytes-behind (b ∷ d) h zero = h 0
bytes-behind (b ∷ d) h (suc k) = bytes-behind d (λ j. h (suc j)) k

pub with-slash : (d : List ℕ) → IsBytes d → IsBytes (d ++ slash ∷ [])
with-slash d bytes = all-bytes (d ++ slash ∷ []) (bytes-behind d (bytes-at d bytes))

-- its glob is that of the member
exclude-is-glob : (s : Spec) (source : MemberSource) (d : List ℕ) → IsSource s source → IsBytes d → member_matches (member_from source) (d ++ slash ∷ []) ≡ glob_matches s.mode s (d ++ slash ∷ [])
exclude-is-glob s source d is bytes = member-is-glob s source (d ++ slash ∷ []) is (with-slash d bytes)

-- ---- what the set leaves out

off-behind : (a b : Bool) → b ≡ false → (a && b) ≡ false
off-behind true b h = h
off-behind false b h = refl

pub exclude-set-leaves-out : ExcludeSetLeavesOut
exclude-set-leaves-out s source d e bytes plain off =
    let p = exclude-source-parts s source e in
    let wild = p.is.wild in
    let here : has_wildcard_at d (length (stem s)) ≡ false = ap (has_wildcard_at d) (length-none (stem s) p.is.no_stem) ∙ plain in
    let glob : glob_matches s.mode s (d ++ slash ∷ []) ≡ false = sym (exclude-is-glob s source d p.is bytes) ∙ off in
    let verbatim : is_verbatim_match s d true ≡ false = false_from_ne_true (is_verbatim_match s d true) (λ h. both_ways (has_wildcard_at d (length (stem s))) here (verbatim-wild s wild d true h)) in
    let below : is_prefix_match s d ≡ false = false_from_ne_true (is_prefix_match s d) (λ h. both_ways (has_wildcard_at d (length (stem s))) here (prefix-wild s wild d h)) in
    elim (cases_Bool (is_in_prefix_directory s d true)) [
      | inl k ↦ sym (exclude-rest s d p.is_one k verbatim below) ∙ off-behind (can_take_rest s) (glob_matches s.mode s (d ++ slash ∷ [])) glob
      | inr k ↦ sym (exclude-lost s d p.is_one k)
    ]

-- ---- what cuts

twice : (b : Bool) → b ≡ true → not (not b) ≡ true
twice true h = refl
twice false h = cc

-- without a head, case counts in all of the path or nowhere
no-head-one-case : (s : Spec) → has_wildcard s ≡ true → is_empty (head s) ≡ true → has_one_case s ≡ true
no-head-one-case s wild none = at s.nil (ignores_case s) (prefix_directory s) (not-true s.nil (and_parts (not s.nil) (list_any is_wildcard s.path) wild).0) none
  where
    at : (n i : Bool) (x : List ℕ) → n ≡ false → is_empty (cond n [] (cond i x (stem s))) ≡ true → not (i && not (is_empty x)) ≡ true
    at true i x e h = cc
    at false true x e h = twice (is_empty x) h
    at false false x e h = refl

both-true : (a b : Bool) → a ≡ true → b ≡ true → (a && b) ≡ true
both-true a b p q = rw (p, q) refl

pub exclude-set-cuts : ExcludeSetCuts
exclude-set-cuts s source d e bytes on =
    let p = exclude-source-parts s source e in
    let glob : glob_matches s.mode s (d ++ slash ∷ []) ≡ true = sym (exclude-is-glob s source d p.is bytes) ∙ on in
    let k : is_in_prefix_directory s d true ≡ true = kept (ignores_case s) (is_empty (prefix_directory s)) _ _ true (no-head-one-case s p.is.wild p.is.no_head) in
    elim (cases_Bool (is_verbatim_match s d true)) [
      | inl v ↦ sym (exclude-whole s d p.is_one k (or_left (is_verbatim_match s d true) (is_prefix_match s d) v))
      | inr v ↦ elim (cases_Bool (is_prefix_match s d)) [
        | inl w ↦ sym (exclude-whole s d p.is_one k (or_right (is_verbatim_match s d true) (is_prefix_match s d) w))
        | inr w ↦ sym (exclude-rest s d p.is_one k v w) ∙ both-true (can_take_rest s) (glob_matches s.mode s (d ++ slash ∷ [])) p.takes_rest glob
      ]
    ]

-- ---- all specs

-- the sources of the subtree excludes are gathered of all specs
pub excludes-are : (specs : List Numbered) → exclude_sources (subtree_excludes_of (specs_of specs)) ≡ member_sources specs
excludes-are [] = refl
excludes-are (n ∷ specs) = at (is_subtree_exclude n.spec) refl (excludes-are specs)
  where
    at : (b : Bool) → is_subtree_exclude n.spec ≡ b → exclude_sources (subtree_excludes_of (specs_of specs)) ≡ member_sources specs
        → exclude_sources (cond b (n.spec ∷ subtree_excludes_of (specs_of specs)) (subtree_excludes_of (specs_of specs))) ≡ cons_option (exclude_source_of n.spec) (member_sources specs)
    at true h more = ap (λ xs. cons_option (exclude_source_of n.spec) xs) more
    at false h more = more ∙ ap (λ b. cons_option (cond (b && can_take_rest n.spec) (source_of n.spec) None) (member_sources specs)) (sym h)

-- and so they are enough for a set or not
pub excludes-enough : (specs : List Numbered) → has_exclude_set (subtree_excludes_of (specs_of specs)) ≡ has_members specs
excludes-enough specs = ap (λ (xs : List MemberSource). not (ltb (length xs) 4)) (excludes-are specs)

pub excludes-made : (specs : List Numbered) → exclude_set_sources (subtree_excludes_of (specs_of specs)) ≡ made_sources specs
excludes-made specs = ap (λ (xs : List MemberSource). cond (not (ltb (length xs) 4)) xs []) (excludes-are specs)
