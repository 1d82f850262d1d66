-- What lies below a path, byte by byte, and the ways in which a spec fits.
use Rattle.std.proofs.Common.{◌≡◌, ◌≢◌, ℕ, ◌+◌, ◌<◌, ◌≤◌, Bool, true, false, ◌&&◌, inl, inr, refl, sym, ◌∙◌, ap, List, [], ◌∷◌, length, take, get_or, arith, ◌==◌, Some, None, Option, is_some}
use Rattle.std.proofs.lemmas.Bool.{ne_eqb, cases_lt, lt-ltb, le-ltb}
use Rattle.std.proofs.lemmas.List.{length-map, take-map, get_or-map}
use Rattle.std.proofs.Math.Bool.{and-false, and-true}
use Rattle.std.specs.Prelude.{bytes_eq}
use Rattle.std.specs.Char.{to_ascii_lowercase}
use Rattle.pathspec_parts.specs.Bytes.{slash, fold_case, is_empty}
use Rattle.pathspec_parts.specs.Attributes.{Table}
use Rattle.pathspec_pattern.specs.declared.SearchMode.{SearchMode}
use Rattle.pathspec_pattern.specs.declared.SearchMode.TheVariants.{ShellGlob, Literal, PathAwareGlob}
use Rattle.pathspec_glob.specs.Globs.{GlobSource}
use Rattle.gix_pathspec.specs.declared.search.MatchKind.{MatchKind}
use Rattle.gix_pathspec.specs.declared.search.MatchKind.TheVariants.{Always, WildcardMatch}
use Rattle.gix_pathspec.specs.Specs.{Spec, always_matches, has_wildcard}
use Rattle.gix_pathspec.specs.Room.{glob_of}
use Rattle.gix_pathspec.specs.SelectionLaws.{FittedMatches}
use Rattle.gix_pathspec.specs.Matching.{fit, match_way, text_way, spec_matches, has_attributes, is_in_prefix_directory, is_glob_match}
use Rattle.pathspec_parts.specs.Paths.{is_below}

-- ---- below a path

-- the front of a pair of lists that begin alike
below-cons : (b c : ℕ) (x d : List ℕ) → is_below (b ∷ x) (c ∷ d) ≡ ((c == b) && is_below x d)
below-cons b c x d = refl

-- a path that goes on after d with a slash
below-slash : (x d : List ℕ) → length d < length x → get_or x (length d) 0 ≡ slash → is_below x d ≡ bytes_eq d (take (length d) x)
below-slash [] [] l h = absurd (omega (arith, l))
below-slash (b ∷ x) [] l h = rw h refl
below-slash [] (c ∷ d) l h = absurd (omega (arith, l))
below-slash (b ∷ x) (c ∷ d) l h = below-cons b c x d ∙ ap (λ t. (c == b) && t) (below-slash x d (omega (arith, l)) h)

-- one that goes on with another byte
below-other : (x d : List ℕ) → length d < length x → get_or x (length d) 0 ≢ slash → is_below x d ≡ false
below-other [] d l h = absurd (omega (arith, l))
below-other (b ∷ x) [] l h = rw (ne_eqb slash b (λ e. h (sym e))) refl
below-other (b ∷ x) (c ∷ d) l h = below-cons b c x d ∙ (rw (below-other x d (omega (arith, l)) h) (and-false (c == b)))

-- one that doesn't go on
below-short : (x d : List ℕ) → length x ≤ length d → is_below x d ≡ false
below-short [] [] l = refl
below-short (b ∷ x) [] l = absurd (omega (arith, l))
below-short [] (c ∷ d) l = refl
below-short (b ∷ x) (c ∷ d) l = below-cons b c x d ∙ (rw (below-short x d (omega (arith, l))) (and-false (c == b)))

-- ---- the same without case

-- no other byte becomes a slash
pub lower-slash : (b : ℕ) → to_ascii_lowercase b ≡ slash → b ≡ slash
lower-slash b h = elim (cases_lt b 65) [
  | inl small ↦ let t : to_ascii_lowercase b ≡ b = rw (lt-ltb b 65 small) refl in sym t ∙ h
  | inr large ↦ elim (cases_lt b 91) [
    | inl upper ↦ let t : to_ascii_lowercase b ≡ b + 32 = rw (le-ltb b 65 large, lt-ltb b 91 upper) refl in let sum : b + 32 ≡ slash = sym t ∙ h in absurd (omega (arith, sum))
    | inr beyond ↦ let t : to_ascii_lowercase b ≡ b = rw (le-ltb b 65 large, le-ltb b 91 beyond) refl in sym t ∙ h
  ]
]

-- case aside, a path that goes on after d with a slash
pub below-folded_slash : (f : Bool) (x d : List ℕ) → length d < length x → get_or x (length d) 0 ≡ slash → bytes_eq (fold_case f d) (fold_case f (take (length d) x)) ≡ is_below (fold_case f x) (fold_case f d)
below-folded_slash false x d l h = sym (below-slash x d l h)
below-folded_slash true x d l h =
    let size : length (fold_case true d) ≡ length d = length-map d to_ascii_lowercase in
    let longer : length (fold_case true d) < length (fold_case true x) = rw (size, length-map x to_ascii_lowercase) l in
    let at : get_or (fold_case true x) (length (fold_case true d)) 0 ≡ slash = rw size (get_or-map to_ascii_lowercase x (length d) 0 0 l ∙ ap to_ascii_lowercase h) in
    sym (below-slash (fold_case true x) (fold_case true d) longer at ∙ (rw (size, take-map to_ascii_lowercase (length d) x) refl))

-- one that goes on with another byte
pub below-folded_other : (f : Bool) (x d : List ℕ) → length d < length x → get_or x (length d) 0 ≢ slash → false ≡ is_below (fold_case f x) (fold_case f d)
below-folded_other false x d l h = sym (below-other x d l h)
below-folded_other true x d l h =
    let size : length (fold_case true d) ≡ length d = length-map d to_ascii_lowercase in
    let longer : length (fold_case true d) < length (fold_case true x) = rw (size, length-map x to_ascii_lowercase) l in
    let at : get_or (fold_case true x) (length (fold_case true d)) 0 ≢ slash = λ e. h (lower-slash _ (sym (get_or-map to_ascii_lowercase x (length d) 0 0 l) ∙ (rw size at e))) in
    sym (below-other (fold_case true x) (fold_case true d) longer at)

-- one that doesn't go on
pub below-folded_short : (f : Bool) (x d : List ℕ) → length x ≤ length d → false ≡ is_below (fold_case f x) (fold_case f d)
below-folded_short false x d l = sym (below-short x d l)
below-folded_short true x d l = sym (below-short (fold_case true x) (fold_case true d) (rw (length-map x to_ascii_lowercase, length-map d to_ascii_lowercase) l))

-- ---- the ways to fit

-- where the prefix directory isn't kept
pub fit-lost : (s : Spec) (path : List ℕ) (is_dir : Bool) → is_in_prefix_directory s path is_dir ≡ false → None ≡ fit s path is_dir
unfolding fit
fit-lost s path is_dir lost = rw lost refl

-- a spec that has a glob has a wildcard, so it doesn't match always
glob-asks : (s : Spec) (g : GlobSource) → glob_of s ≡ Some g → always_matches s ≡ false
glob-asks s g h = asks s.nil refl s.path refl
  where
    asks : (nil : Bool) → s.nil ≡ nil → (path : List ℕ) → s.path ≡ path → always_matches s ≡ false
    asks true n path p = let no : false ≡ true = sym (rw n refl) ∙ ap is_some h in cc
    asks false n [] p = let no : false ≡ true = sym (rw (n, p) refl) ∙ ap is_some h in cc
    asks false n (b ∷ rest) p = rw (n, p) refl

-- one that has none matches by no glob
glob-lacks : (s : Spec) (path : List ℕ) (is_dir : Bool) → glob_of s ≡ None → is_glob_match s path is_dir ≡ false
glob-lacks s path is_dir h = lacks (has_wildcard s) refl s.mode refl
  where
    lacks : (w : Bool) → has_wildcard s ≡ w → (mode : SearchMode) → s.mode ≡ mode → is_glob_match s path is_dir ≡ false
    lacks false w mode m = rw w refl
    lacks true w ShellGlob m = let no : true ≡ false = sym (rw (w, m) refl) ∙ ap is_some h in cc
    lacks true w Literal m = rw (w, m) refl
    lacks true w PathAwareGlob m = let no : true ≡ false = sym (rw (w, m) refl) ∙ ap is_some h in cc

-- where it is kept
module _ (s : Spec) (path : List ℕ) (is_dir : Bool) (kept : is_in_prefix_directory s path is_dir ≡ true) where
  fit-kept : fit s path is_dir ≡ match_way s path is_dir
  unfolding fit
  fit-kept = rw kept refl

  pub fit-always : always_matches s ≡ true → Some Always ≡ fit s path is_dir
  fit-always a = sym (fit-kept ∙ (rw a refl))

  pub fit-globbed : (g : GlobSource) → glob_of s ≡ Some g → is_glob_match s path is_dir ≡ true → Some WildcardMatch ≡ fit s path is_dir
  fit-globbed g h m = sym (fit-kept ∙ (rw (glob-asks s g h, m) refl))

  fit-text : always_matches s ≡ false → is_glob_match s path is_dir ≡ false → text_way s path is_dir ≡ fit s path is_dir
  fit-text a m = sym (fit-kept ∙ (rw (a, m) refl))

  pub fit-text_beside : (g : GlobSource) → glob_of s ≡ Some g → is_glob_match s path is_dir ≡ false → text_way s path is_dir ≡ fit s path is_dir
  fit-text_beside g h = fit-text (glob-asks s g h)

  pub fit-text_alone : glob_of s ≡ None → always_matches s ≡ false → text_way s path is_dir ≡ fit s path is_dir
  fit-text_alone h a = fit-text a (glob-lacks s path is_dir h)

-- a spec that lists no attributes means what it fits
pub spec_matches-fits : (s : Spec) (path : List ℕ) (is_dir : Bool) (kind : Option MatchKind) → is_empty s.attributes ≡ true → kind ≡ fit s path is_dir → (table : Table) → is_some kind ≡ spec_matches table s path is_dir
unfolding spec_matches has_attributes
spec_matches-fits s path is_dir kind none is table = rw (is, none) (sym (and-true (is_some (fit s path is_dir))))

pub fitted_matches : FittedMatches
fitted_matches s none table path is_dir = spec_matches-fits s path is_dir (fit s path is_dir) none refl table
