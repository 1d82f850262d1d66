-- What a set of globs says of the specs in it.
use Rattle.std.proofs.Common.{◌≡◌, ℕ, zero, suc, ◌<◌, Bool, true, false, not, ◌&&◌, ◌||◌, refl, sym, ◌∙◌, ap, subst, arith, List, [], ◌∷◌, cond, length, get_or, Option, Some, None}
use Rattle.std.specs.Prelude.{is_some}
use Rattle.std.specs.Option.{option_map}
use Rattle.std.proofs.lemmas.List.{get_or_default}
use Rattle.pathspec_glob.specs.Globs.{GlobSource}
use Rattle.pathspec_glob.specs.Tokens.{tokens}
use Rattle.pathspec_glob.proofs.ByteSetProofs.{matches-listed}
use Rattle.pathspec_glob_set.specs.Sets.{member_matches}
use Rattle.gix_pathspec.specs.declared.search.MatchKind.{MatchKind}
use Rattle.gix_pathspec.specs.declared.search.MatchKind.TheVariants.{Always, WildcardMatch}
use Rattle.gix_pathspec.specs.Bytes.{is_empty}
use Rattle.gix_pathspec.specs.Paths.{IsBytes}
use Rattle.gix_pathspec.specs.Attributes.{Table}
use Rattle.gix_pathspec.specs.Specs.{Spec, always_matches, has_wildcard, wants_directory}
use Rattle.gix_pathspec.specs.Plain.{has_one_case}
use Rattle.gix_pathspec.specs.Matching.{case_of, fit, fits, glob_matches, has_attributes, is_glob_match, is_in_prefix_directory, spec_matches, text_way}
use Rattle.gix_pathspec.specs.Prefixes.{head, stem}
use Rattle.gix_pathspec.specs.Room.{asks_no_more, glob_in_mode, source_of, source_with, MemberSource}
use Rattle.gix_pathspec.specs.Sets.{member_from}
use Rattle.gix_pathspec.proofs.SubtreeExcludeProofs.{in-mode}

-- ---- the source of a member

-- a member has neither a stem nor a head, and its source is its glob
pub record IsSource (s : Spec) (source : MemberSource) : Type 0 where
  pub no_stem : is_empty (stem s) ≡ true
  pub no_head : is_empty (head s) ≡ true
  pub wild : has_wildcard s ≡ true
  pub glob : glob_in_mode s.mode s.path ≡ Some source.glob
  pub is : source ≡ source_with s source.glob

pub source-parts : (s : Spec) (source : MemberSource) → source_of s ≡ Some source → IsSource s source
source-parts s source e = at (is_empty (stem s)) (is_empty (head s)) (has_wildcard s) (glob_in_mode s.mode s.path) refl refl refl refl e
  where
    at : (t h w : Bool) (g : Option GlobSource) → is_empty (stem s) ≡ t → is_empty (head s) ≡ h → has_wildcard s ≡ w → glob_in_mode s.mode s.path ≡ g
        → cond (t && h) (option_map (source_with s) (cond w g None)) None ≡ Some source → IsSource s source
    at true true true (Some glob) p q r k is =
        let same : source_with s glob ≡ source = cc in
        record { no_stem = p; no_head = q; wild = r; glob = k ∙ ap Some (ap (λ (x : MemberSource). x.glob) same); is = sym same ∙ ap (λ g. source_with s g) (ap (λ (x : MemberSource). x.glob) same) }
    at true true true None p q r k is = cc
    at true true false g p q r k is = cc
    at true false w g p q r k is = cc
    at false h w g p q r k is = cc

pub bytes-at : (text : List ℕ) → IsBytes text → (k : ℕ) → get_or text k 0 < 256
bytes-at [] h k = omega arith
bytes-at (b ∷ text) h zero = h 0 0 (omega arith)
bytes-at (b ∷ text) h (suc k) = bytes-at text (λ j d l. h (suc j) d (omega (arith, l))) k

pub all-bytes : (text : List ℕ) → ((k : ℕ) → get_or text k 0 < 256) → IsBytes text
all-bytes text h k d l = subst (λ b. b < 256) (get_or_default text k 0 d l) (h k)

-- the member matches where the spec's glob does
pub member-is-glob : (s : Spec) (source : MemberSource) (path : List ℕ) → IsSource s source → IsBytes path → member_matches (member_from source) path ≡ glob_matches s.mode s path
member-is-glob s source path is bytes =
    let glob = source.glob in
    ap (λ (x : MemberSource). member_matches (member_from x) path) is.is
    ∙ matches-listed glob.mode (case_of s) (tokens glob.mode glob.pattern) path (bytes-at path bytes)
    ∙ in-mode s.mode s glob path (sym is.glob)

pub length-none : {X : Type 0} (xs : List X) → is_empty xs ≡ true → length xs ≡ 0
length-none [] h = refl
length-none (x ∷ xs) h = cc

-- ---- what cuts

pub kept : (i b c d e : Bool) → not (i && not b) ≡ true → (not i || b || c || d && e) ≡ true
kept false b c d e h = refl
kept true true c d e h = refl
kept true false c d e h = cc

pub taken : (w d : Bool) → not w ≡ true → (not w || d) ≡ true
taken false d h = refl
taken true d h = cc

pub all-three : (a b c : Bool) → a ≡ true → b ≡ true → c ≡ true → (a && b && c) ≡ true
all-three a b c p q r = rw (p, q, r) refl

some-way : (k a g : Bool) (t : Option MatchKind) → k ≡ true → g ≡ true → is_some (cond k (cond a (Some Always) (cond g (Some WildcardMatch) t)) None) ≡ true
some-way true true true t p q = refl
some-way true false true t p q = refl
some-way k a false t p q = cc
some-way false a g t p q = cc

unasked : (a b : Bool) → a ≡ true → (a || b) ≡ true
unasked true b h = refl
unasked false b h = cc

-- what asks no more has no attribute, wants no directory, and keeps no prefix directory
pub no-more : (s : Spec) → asks_no_more s ≡ true → (is_empty s.attributes ≡ true) × (not (wants_directory s) ≡ true) × (has_one_case s ≡ true)
no-more s h = at (is_empty s.attributes) (not (wants_directory s)) (has_one_case s) h
  where
    at : (a b c : Bool) → (a && b && c) ≡ true → (a ≡ true) × (b ≡ true) × (c ≡ true)
    at true true true e = (refl, refl, refl)
    at true true false e = cc
    at true false c e = cc
    at false b c e = cc

pub fits-by-glob : (s : Spec) (path : List ℕ) (is_dir : Bool) → is_in_prefix_directory s path is_dir ≡ true → is_glob_match s path is_dir ≡ true → fits s path is_dir ≡ true
unfolding fit
fits-by-glob s path is_dir k g = some-way (is_in_prefix_directory s path is_dir) (always_matches s) (is_glob_match s path is_dir) (text_way s path is_dir) k g

attributes-unasked : (table : Table) (s : Spec) (path : List ℕ) (is_dir : Bool) → is_empty s.attributes ≡ true → has_attributes table s path is_dir ≡ true
unfolding has_attributes
attributes-unasked table s path is_dir h = unasked (is_empty s.attributes) _ h

both-true : (a b : Bool) → a ≡ true → b ≡ true → (a && b) ≡ true
both-true a b p q = rw (p, q) refl

pub matches-by-glob : (table : Table) (s : Spec) (path : List ℕ) (is_dir : Bool) → fits s path is_dir ≡ true → is_empty s.attributes ≡ true → spec_matches table s path is_dir ≡ true
unfolding spec_matches
matches-by-glob table s path is_dir f a = both-true (fits s path is_dir) (has_attributes table s path is_dir) f (attributes-unasked table s path is_dir a)
