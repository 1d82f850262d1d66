-- What the tables of a search and the excludes that are asked one by one say of a directory is whether a walk may skip it.
use Rattle.std.proofs.Common.{◌≡◌, ℕ, Bool, true, false, not, ◌&&◌, ◌||◌, cond, inl, inr, refl, sym, ◌∙◌, ap, List, [], ◌∷◌, ◌++◌, Option, Some, filter}
use Rattle.std.proofs.lemmas.Bool.{and_parts, and_from, or_cases, or_left, or_right, not-true}
use Rattle.std.proofs.lemmas.List.Elements.{Contains-push, Contains-append_left, Contains-append_right}
use Rattle.std.specs.List.{list_any}
use Rattle.gix_pathspec.specs.Bytes.{slash, is_empty}
use Rattle.gix_pathspec.specs.Tables.{StemParts, path_takes}
use Rattle.gix_pathspec.specs.Tables.{stem_reaches}
use Rattle.gix_pathspec.specs.Specs.{Spec, is_exclude, is_include, ignores_case, wants_directory, always_matches, has_wildcard, prefix_directory}
use Rattle.gix_pathspec.specs.Matching.{is_in_prefix_directory, glob_matches, is_verbatim_match, is_prefix_match}
use Rattle.gix_pathspec.specs.Plain.{has_one_case}
use Rattle.gix_pathspec.specs.Prefixes.{common_prefix}
use Rattle.gix_pathspec.specs.Pruning.{stem_of, reaches, agree, is_total_exclude, can_match}
use Rattle.gix_pathspec.specs.Reach.{has_stem, is_shadowed, is_subtree_exclude, is_tabled, path_of, reaches_unshadowed, stems_of, subtree_excludes_of, taken_paths}
use Rattle.gix_pathspec.specs.Skipping.{takes_whole, takes_rest, has_open_end, shadows, is_unshadowed, holds_nothing, may_skip, HaveOneCase}
use Rattle.gix_pathspec.specs.SkipTables.{holds_nothing_by_tables, skips_by_tables}
use Rattle.gix_pathspec.specs.SubtreeExcludes.{covers}
use Rattle.gix_pathspec.proofs.ReachProofs.{reached-by-stems}
use Rattle.pathspec_heads.proofs.AnyProofs.{any-ext, any-or, any-kept}

-- ---- tests of lists

-- a test of the elements that another test keeps
any-filter : {X : Type 0} (keep p : X → Bool) (xs : List X) → list_any p (filter keep xs) ≡ list_any (λ x. keep x && p x) xs
any-filter keep p [] = refl
any-filter keep p (x ∷ xs) = here (keep x) (any-filter keep p xs)
  where
    here : (b : Bool) → list_any p (filter keep xs) ≡ list_any (λ y. keep y && p y) xs → list_any p (cond b (x ∷ filter keep xs) (filter keep xs)) ≡ ((b && p x) || list_any (λ y. keep y && p y) xs)
    here true later = ap (λ c. p x || c) later
    here false later = later

-- a test that also asks what each element shares
any-and : {X : Type 0} (b : Bool) (p : X → Bool) (xs : List X) → list_any (λ x. b && p x) xs ≡ (b && list_any p xs)
any-and true p xs = refl
any-and false p [] = refl
any-and false p (x ∷ xs) = any-and false p xs

-- three tests of lists
any-three : {X : Type 0} (p q r : X → Bool) (xs : List X) → list_any (λ x. p x || q x || r x) xs ≡ (list_any p xs || list_any q xs || list_any r xs)
any-three p q r xs = any-or (λ x. p x || q x) r xs ∙ ap (λ b. b || list_any r xs) (any-or p q xs)

-- where case counts in all of the path or nowhere, no prefix directory is asked for
one_case-prefix : (s : Spec) (path : List ℕ) (is_dir : Bool) → has_one_case s ≡ true → is_in_prefix_directory s path is_dir ≡ true
one_case-prefix s path is_dir h = here (ignores_case s) (is_empty (prefix_directory s)) _ _ h
  where
    here : (i e b c : Bool) → not (i && not e) ≡ true → (not i || e || b || c) ≡ true
    here false e b c h = refl
    here true true b c h = refl
    here true false b c h = cc

-- ---- what excludes take

module _ (d : List ℕ) where
  -- an exclude takes every path, or stands in the table and takes this one, or is asked and takes it, just where it takes every path, or this one whole, or its rest
  taken-one : (s : Spec) → (is_total_exclude s || is_tabled s && path_takes (path_of s) d true || is_subtree_exclude s && covers s d)
      ≡ (is_total_exclude s || is_exclude s && takes_whole s d || is_exclude s && takes_rest s d)
  unfolding takes_whole takes_rest covers
  taken-one s = here (is_exclude s) (is_empty s.attributes) (always_matches s) (has_one_case s) (not (wants_directory s)) (has_wildcard s) (has_open_end s.mode s) (is_in_prefix_directory s d true) (glob_matches s.mode s (d ++ slash ∷ [])) (is_verbatim_match s d true) (is_prefix_match s d) (one_case-prefix s d true)
    where
      with_case : (v p f w o g : Bool) → ((v || p) || (f && w && o || false) && ((f && w && o || false) && ((v || p) || f && w && true && o && g))) ≡ ((v || p) || f && w && true && o && g)
      with_case true p f w o g = refl
      with_case false true f w o g = refl
      with_case false false false w o g = refl
      with_case false false true false o g = refl
      with_case false false true true false g = refl
      with_case false false true true true g = refl

      without_case : (k v p f w o g : Bool) → (f && w && o || true) && ((f && w && o || true) && (k && (v || p) || f && w && k && o && g)) ≡ (k && (v || p) || f && w && k && o && g)
      without_case k v p false w o g = refl
      without_case k v p true false o g = refl
      without_case k v p true true false g = refl
      without_case k v p true true true g = refl

      here : (x e m c f w o k g v p : Bool) → (c ≡ true → k ≡ true)
          → (x && m && e || (x && e && not m && c) && (v || p) || (x && e && not m && (e && f && w && o || not c)) && ((x && e && not m && (e && f && w && o || not c)) && (e && (k && (m || v || p)) || e && f && w && k && o && g)))
          ≡ (x && m && e || x && (e && (k && (m || v || p))) || x && (e && f && w && k && o && g))
      here false e m c f w o k g v p h = refl
      here true false true c f w o k g v p h = refl
      here true false false c f w o k g v p h = refl
      here true true true c f w o k g v p h = refl
      here true true false true f w o k g v p h = rw (h refl) (with_case v p f w o g)
      here true true false false f w o k g v p h = without_case k v p f w o g

  -- so of lists
  taken-all : (specs : List Spec) → (list_any is_total_exclude specs || list_any (λ p. path_takes p d true) (taken_paths specs) || list_any (λ s. covers s d) (subtree_excludes_of specs))
      ≡ (list_any is_total_exclude specs || list_any (λ e. is_exclude e && takes_whole e d) specs || list_any (λ e. is_exclude e && takes_rest e d) specs)
  taken-all specs =
      let tabled = any-kept (λ p. path_takes p d true) path_of is_tabled (λ s. path_takes (path_of s) d true) (λ s h. refl) specs in
      let asked = any-filter is_subtree_exclude (λ s. covers s d) specs in
      rw (tabled, asked)
      (sym (any-three is_total_exclude (λ s. is_tabled s && path_takes (path_of s) d true) (λ s. is_subtree_exclude s && covers s d) specs)
      ∙ (any-ext (λ s. is_total_exclude s || is_tabled s && path_takes (path_of s) d true || is_subtree_exclude s && covers s d) (λ s. is_total_exclude s || is_exclude s && takes_whole s d || is_exclude s && takes_rest s d) taken-one specs
      ∙ any-three is_total_exclude (λ e. is_exclude e && takes_whole e d) (λ e. is_exclude e && takes_rest e d) specs))

-- ---- what excludes bury

module _ (i : Spec) where
  -- the path of an include is taken, as what the include wants, by one that ignores case where the include does
  abbrev hides : StemParts → Bool
  hides p = (not (ignores_case i) || p.ignores_case) && path_takes p i.path (wants_directory i)

  -- an exclude takes every path or shadows the include just where it takes every path, or stands in the table and takes the include's
  shadowed-one : (e : Spec) → (is_total_exclude e || is_exclude e && shadows e i) ≡ (is_total_exclude e || not (always_matches i || has_wildcard i) && (is_tabled e && hides (path_of e)))
  unfolding shadows
  shadowed-one e = here (is_exclude e) (is_empty e.attributes) (always_matches e) (has_one_case e) (always_matches i) (has_wildcard i) (not (ignores_case i) || ignores_case e) (is_in_prefix_directory e i.path (wants_directory i)) (is_verbatim_match e i.path (wants_directory i)) (is_prefix_match e i.path) (one_case-prefix e i.path (wants_directory i))
    where
      none : (n : Bool) → false ≡ (n && false)
      none true = refl
      none false = refl

      here : (x a m c n w f k v p : Bool) → (c ≡ true → k ≡ true)
          → (x && m && a || x && (a && not n && not w && (c && f) && (k && (m || v || p)))) ≡ (x && m && a || not (n || w) && ((x && a && not m && c) && (f && (v || p))))
      here false a m c n w f k v p h = none (not (n || w))
      here true false true c n w f k v p h = none (not (n || w))
      here true false false c n w f k v p h = none (not (n || w))
      here true true true c n w f k v p h = refl
      here true true false c true w f k v p h = refl
      here true true false c false true f k v p h = refl
      here true true false false false false f k v p h = refl
      here true true false true false false true k v p h = rw (h refl) refl
      here true true false true false false false k v p h = refl

  -- where no exclude takes every path, one shadows the include just where the table says so
  shadowed-all : (specs : List Spec) → list_any is_total_exclude specs ≡ false → list_any (λ e. is_exclude e && shadows e i) specs ≡ is_shadowed specs i
  shadowed-all specs none =
      let plain = not (always_matches i || has_wildcard i) in
      let tabled = any-kept hides path_of is_tabled (λ e. hides (path_of e)) (λ e h. refl) specs in
      let by_all : (list_any is_total_exclude specs || list_any (λ e. is_exclude e && shadows e i) specs) ≡ (list_any is_total_exclude specs || plain && list_any hides (taken_paths specs)) =
      sym (any-or is_total_exclude (λ e. is_exclude e && shadows e i) specs)
      ∙ (any-ext (λ e. is_total_exclude e || is_exclude e && shadows e i) (λ e. is_total_exclude e || plain && (is_tabled e && hides (path_of e))) shadowed-one specs
      ∙ (any-or is_total_exclude (λ e. plain && (is_tabled e && hides (path_of e))) specs
      ∙ ap (λ b. list_any is_total_exclude specs || b) (any-and plain (λ e. is_tabled e && hides (path_of e)) specs ∙ ap (λ b. plain && b) (sym tabled)))) in
      without (list_any is_total_exclude specs) _ _ none by_all
    where
      without : (t a b : Bool) → t ≡ false → (t || a) ≡ (t || b) → a ≡ b
      without true a b n e = cc
      without false a b n e = e

-- ---- what includes reach

module _ (d : List ℕ) (is_dir : Option Bool) where
  -- an include that the table doesn't call shadowed reaches d just where it always matches, or its stem reaches d
  reachable-one : (all : List Spec) (i : Spec) → ((is_include i && not (is_shadowed all i)) && reaches i d is_dir) ≡ (is_include i && always_matches i || has_stem false all i && stem_reaches (stem_of i) d is_dir)
  unfolding reaches
  reachable-one all i = here (is_include i) (always_matches i) (has_wildcard i) (list_any (hides i) (taken_paths all)) (stem_reaches (stem_of i) d is_dir)
    where
      here : (i m w b r : Bool) → ((i && not (not (m || w) && b)) && (m || r)) ≡ (i && m || (i && not m && not (not (m || w) && b)) && r)
      here false m w b r = refl
      here true true w b r = refl
      here true false w b r = refl

  -- where no exclude takes every path, an include that isn't shadowed reaches d just where the table says so
  reachable-all : (specs : List Spec) → list_any is_total_exclude specs ≡ false → list_any (λ i. is_unshadowed specs i && reaches i d is_dir) specs ≡ reaches_unshadowed specs d is_dir
  reachable-all specs none =
      any-ext (λ i. is_unshadowed specs i && reaches i d is_dir) (λ i. is_include i && always_matches i || has_stem false specs i && stem_reaches (stem_of i) d is_dir) one specs
      ∙ (any-or (λ i. is_include i && always_matches i) (λ i. has_stem false specs i && stem_reaches (stem_of i) d is_dir) specs
      ∙ ap (λ b. list_any (λ s. is_include s && always_matches s) specs || b) (sym (any-kept (λ t. stem_reaches t d is_dir) stem_of (has_stem false specs) (λ i. stem_reaches (stem_of i) d is_dir) (λ i h. refl) specs)))
    where
      one : (i : Spec) → (is_unshadowed specs i && reaches i d is_dir) ≡ (is_include i && always_matches i || has_stem false specs i && stem_reaches (stem_of i) d is_dir)
      one i = ap (λ b. (is_include i && not b) && reaches i d is_dir) (shadowed-all i specs none) ∙ reachable-one specs i

-- ---- what may be skipped

-- from what each part says to what all of them do
by_parts : (no_specs at_top agrees total by_path asked whole rest has_include reachable unshadowed reached shadowed : Bool) → no_specs ≡ false → at_top ≡ false → (total || by_path || asked) ≡ (total || whole || rest) → (total ≡ false → unshadowed ≡ reachable) → reached ≡ (reachable || shadowed)
    → (not agrees || total || by_path || has_include && not reachable || asked)
    ≡ (not at_top && (not (no_specs || at_top || agrees && not total && (reached || not has_include)) || whole || has_include && not unshadowed) || not at_top && rest)
by_parts true at_top agrees total by_path asked whole rest has_include reachable unshadowed reached shadowed e f taken same by = cc
by_parts false true agrees total by_path asked whole rest has_include reachable unshadowed reached shadowed e f taken same by = cc
by_parts false false false total by_path asked whole rest has_include reachable unshadowed reached shadowed e f taken same by = refl
by_parts false false true true by_path asked whole rest has_include reachable unshadowed reached shadowed e f taken same by = refl
by_parts false false true false by_path asked whole rest has_include reachable unshadowed reached shadowed e f taken same by = here has_include reachable taken (same refl) by
  where
    always : (a b c d : Bool) → (a || true || b) ≡ (c || true || d)
    always true b true d = refl
    always true b false d = refl
    always false b true d = refl
    always false b false d = refl

    never : (a b c d : Bool) → (a || b) ≡ (c || d) → (a || false || b) ≡ (c || false || d)
    never true b true d t = t
    never true b false d t = t
    never false b true d t = t
    never false b false d t = t

    either : (r : Bool) → (by_path || asked) ≡ (whole || rest) → (by_path || false || asked) ≡ (not (r || true) || whole || false || rest)
    either true t = never by_path asked whole rest t
    either false t = never by_path asked whole rest t

    here : (i l : Bool) → (by_path || asked) ≡ (whole || rest) → unshadowed ≡ l → reached ≡ (l || shadowed)
        → (by_path || i && not l || asked) ≡ (not (reached || not i) || whole || i && not unshadowed || rest)
    here false l t u r = either reached t
    here true true t u r = rw (u, r) (never by_path asked whole rest t)
    here true false t u r = rw u (always by_path asked (not (reached || false) || whole) rest)

-- the same where there are specs
skips-some : (specs : List Spec) (d : List ℕ) → is_empty specs ≡ false → is_empty d ≡ false → (skips_by_tables specs d || list_any (λ s. covers s d) (subtree_excludes_of specs)) ≡ may_skip specs d
unfolding may_skip holds_nothing can_match
skips-some specs d some filled =
    by_parts (is_empty specs) (is_empty d) (agree d (common_prefix specs)) (list_any is_total_exclude specs) (list_any (λ p. path_takes p d true) (taken_paths specs)) (list_any (λ s. covers s d) (subtree_excludes_of specs))
    (list_any (λ e. is_exclude e && takes_whole e d) specs) (list_any (λ e. is_exclude e && takes_rest e d) specs) (list_any is_include specs) (reaches_unshadowed specs d (Some true)) (list_any (λ i. is_unshadowed specs i && reaches i d (Some true)) specs)
    (list_any (λ s. is_include s && reaches s d (Some true)) specs) (list_any (λ t. stem_reaches t d (Some true)) (stems_of true specs specs)) some filled (taken-all d specs) (reachable-all d (Some true) specs) (reached-by-stems d (Some true) specs)

-- What the tables of a search and its excludes that are asked one by one say is whether a walk may skip the directory.
pub skips-as-defined : (specs : List Spec) (d : List ℕ) → is_empty d ≡ false → (skips_by_tables specs d || list_any (λ s. covers s d) (subtree_excludes_of specs)) ≡ may_skip specs d
unfolding common_prefix may_skip holds_nothing can_match
skips-as-defined [] d filled = rw filled refl
skips-as-defined (s ∷ ss) d filled = skips-some (s ∷ ss) d refl filled

-- To the empty path the answer is no.
pub skips-no-empty : (specs : List Spec) (d : List ℕ) → is_empty d ≡ true → false ≡ may_skip specs d
unfolding may_skip holds_nothing
skips-no-empty specs d e = rw e refl

-- ---- what tables say alone

-- an exclude in the table that takes a directory takes it whole
tabled-whole : (d : List ℕ) (s : Spec) → (is_tabled s && path_takes (path_of s) d true) ≡ true → (is_exclude s && takes_whole s d) ≡ true
unfolding takes_whole
tabled-whole d s h = here (is_exclude s) (is_empty s.attributes) (always_matches s) (has_one_case s) (is_in_prefix_directory s d true) (is_verbatim_match s d true) (is_prefix_match s d) (one_case-prefix s d true) h
  where
    here : (x e m c k v p : Bool) → (c ≡ true → k ≡ true) → ((x && e && not m && c) && (v || p)) ≡ true → (x && (e && (k && (m || v || p)))) ≡ true
    here true true false true k v p f h = rw (f refl) h
    here true true false false k v p f h = cc
    here true true true c k v p f h = cc
    here true false m c k v p f h = cc
    here false e m c k v p f h = cc

-- so do those of a list
tabled-all : (d : List ℕ) (specs : List Spec) → list_any (λ p. path_takes p d true) (taken_paths specs) ≡ true → list_any (λ e. is_exclude e && takes_whole e d) specs ≡ true
tabled-all d specs h = any-weaker (λ s. is_tabled s && path_takes (path_of s) d true) (λ e. is_exclude e && takes_whole e d) (tabled-whole d) specs (sym (any-kept (λ p. path_takes p d true) path_of is_tabled (λ s. path_takes (path_of s) d true) (λ s e. refl) specs) ∙ h)
  where
    any-weaker : {X : Type 0} (p q : X → Bool) → ((x : X) → p x ≡ true → q x ≡ true) → (xs : List X) → list_any p xs ≡ true → list_any q xs ≡ true
    any-weaker p q f [] t = cc
    any-weaker p q f (x ∷ xs) t = elim (or_cases (p x) (list_any p xs) t) [
      | inl e ↦ or_left (q x) (list_any q xs) (f x e)
      | inr e ↦ or_right (q x) (list_any q xs) (any-weaker p q f xs e)
    ]

-- from what tables say to what a directory holds, where there are specs
held-by_parts : (agrees total by_path whole has_include reachable unshadowed reached : Bool) → (by_path ≡ true → whole ≡ true) → (total ≡ false → unshadowed ≡ reachable) → (not agrees || total || by_path || has_include && not reachable) ≡ true
    → (not (agrees && not total && reached) || whole || has_include && not unshadowed) ≡ true
held-by_parts false total by_path whole i l u r w same h = refl
held-by_parts true true by_path whole i l u r w same h = refl
held-by_parts true false true whole i l u r w same h = or_left (not r || whole) (i && not u) (or_right (not r) whole (w refl))
held-by_parts true false false whole i l u r w same h = or_right (not r || whole) (i && not u) (rw (same refl) h)

-- A directory that tables call empty holds nothing.
pub tables-hold_nothing : (specs : List Spec) (d : List ℕ) → holds_nothing_by_tables specs d ≡ true → holds_nothing specs d ≡ true
unfolding holds_nothing can_match common_prefix
tables-hold_nothing specs d h =
    let p = and_parts (not (is_empty d)) (skips_by_tables specs d) h in
    held specs p.0 p.1
  where
    held : (ss : List Spec) → not (is_empty d) ≡ true → skips_by_tables ss d ≡ true → holds_nothing ss d ≡ true
    held [] some t = cc
    held (s ∷ ss) some t =
        let all = s ∷ ss in
        let parts = held-by_parts (agree d (common_prefix all)) (list_any is_total_exclude all) (list_any (λ p. path_takes p d true) (taken_paths all)) (list_any (λ e. is_exclude e && takes_whole e d) all) (list_any is_include all) (reaches_unshadowed all d (Some true)) (list_any (λ i. is_unshadowed all i && reaches i d (Some true)) all) _ (tabled-all d all) (reachable-all d (Some true) all) t in
        rw (not-true (is_empty d) some) parts

-- So a walk may skip it.
pub tables-skip : (specs : List Spec) (d : List ℕ) → holds_nothing_by_tables specs d ≡ true → may_skip specs d ≡ true
unfolding may_skip
tables-skip specs d h = or_left (holds_nothing specs d) (not (is_empty d) && list_any (λ e. is_exclude e && takes_rest e d) specs) (tables-hold_nothing specs d h)

-- where all excludes have one case, one that takes a directory whole takes every path, or stands in the table and takes this one
whole-tabled : (d : List ℕ) (s : Spec) → (is_exclude s ≡ true → has_one_case s ≡ true) → (is_exclude s && takes_whole s d) ≡ true → (is_total_exclude s || is_tabled s && path_takes (path_of s) d true) ≡ true
unfolding takes_whole
whole-tabled d s one h = here (is_exclude s) (is_empty s.attributes) (always_matches s) (has_one_case s) (is_in_prefix_directory s d true) (is_verbatim_match s d true) (is_prefix_match s d) one h
  where
    here : (x e m c k v p : Bool) → (x ≡ true → c ≡ true) → (x && (e && (k && (m || v || p)))) ≡ true → (x && m && e || (x && e && not m && c) && (v || p)) ≡ true
    here false e m c k v p f h = cc
    here true false m c k v p f h = cc
    here true true m c false v p f h = cc
    here true true true c true v p f h = refl
    here true true false c true v p f h = rw (f refl) h

whole-all : (d : List ℕ) (specs : List Spec) → HaveOneCase specs → list_any (λ e. is_exclude e && takes_whole e d) specs ≡ true
    → (list_any is_total_exclude specs || list_any (λ p. path_takes p d true) (taken_paths specs)) ≡ true
whole-all d specs one h =
    let tabled = any-kept (λ p. path_takes p d true) path_of is_tabled (λ s. path_takes (path_of s) d true) (λ s e. refl) specs in
    rw tabled (sym (any-or is_total_exclude (λ s. is_tabled s && path_takes (path_of s) d true) specs) ∙ some specs one h)
  where
    some : (ss : List Spec) → HaveOneCase ss → list_any (λ e. is_exclude e && takes_whole e d) ss ≡ true → list_any (λ s. is_total_exclude s || is_tabled s && path_takes (path_of s) d true) ss ≡ true
    some [] one t = cc
    some (s ∷ ss) one t = elim (or_cases (is_exclude s && takes_whole s d) (list_any (λ e. is_exclude e && takes_whole e d) ss) t) [
      | inl e ↦ or_left (is_total_exclude s || is_tabled s && path_takes (path_of s) d true) _ (whole-tabled d s (one s (Contains-append_left (s ∷ []) ss s (Contains-push [] s))) e)
      | inr e ↦ or_right (is_total_exclude s || is_tabled s && path_takes (path_of s) d true) _ (some ss (λ x c. one x (Contains-append_right (s ∷ []) ss x c)) e)
    ]

-- from what a directory holds to what tables say, where there are specs
tables-by_parts : (agrees total by_path whole has_include reachable unshadowed reached shadowed : Bool) → (whole ≡ true → (total || by_path) ≡ true) → (total ≡ false → unshadowed ≡ reachable) → reached ≡ (reachable || shadowed)
    → (not (agrees && not total && (reached || not has_include)) || whole || has_include && not unshadowed) ≡ true → (not agrees || total || by_path || has_include && not reachable) ≡ true
tables-by_parts false total by_path whole i l u r b w same by h = refl
tables-by_parts true true by_path whole i l u r b w same by h = refl
tables-by_parts true false true whole i l u r b w same by h = refl
tables-by_parts true false false true i l u r b w same by h = let no : false ≡ true = w refl in cc
tables-by_parts true false false false false l u true b w same by h = cc
tables-by_parts true false false false false l u false b w same by h = cc
tables-by_parts true false false false true false u r b w same by h = refl
tables-by_parts true false false false true true u r b w same by h =
    let reached : r ≡ true = by in
    let unshadowed : u ≡ true = same refl in
    let no : false ≡ true = rw (reached, unshadowed) at h in cc

-- Where all excludes have one case, tables tell of each directory that it holds nothing.
pub held-by-tables : (specs : List Spec) (d : List ℕ) → HaveOneCase specs → holds_nothing specs d ≡ true → holds_nothing_by_tables specs d ≡ true
unfolding holds_nothing can_match
held-by-tables specs d one h =
    let p = and_parts (not (is_empty d)) _ h in
    and_from (not (is_empty d)) (skips_by_tables specs d) p.0 (held specs one p.0 p.1)
  where
    held : (ss : List Spec) → HaveOneCase ss → not (is_empty d) ≡ true
        → (not (can_match ss d (Some true)) || list_any (λ e. is_exclude e && takes_whole e d) ss || list_any is_include ss && not (list_any (λ i. is_unshadowed ss i && reaches i d (Some true)) ss)) ≡ true → skips_by_tables ss d ≡ true
    held [] one some t = cc
    held (s ∷ ss) one some t =
        let all = s ∷ ss in
        tables-by_parts (agree d (common_prefix all)) (list_any is_total_exclude all) (list_any (λ p. path_takes p d true) (taken_paths all)) (list_any (λ e. is_exclude e && takes_whole e d) all) (list_any is_include all) (reaches_unshadowed all d (Some true)) (list_any (λ i. is_unshadowed all i && reaches i d (Some true)) all)
        (list_any (λ s. is_include s && reaches s d (Some true)) all) (list_any (λ t. stem_reaches t d (Some true)) (stems_of true all all)) (whole-all d all one) (reachable-all d (Some true) all) (reached-by-stems d (Some true) all) (rw (not-true (is_empty d) some) at t)
