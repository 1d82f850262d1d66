-- How stems and the path of a directory lead to one another.
use Rattle.std.specs.Prelude.{◌≡◌, ℕ, ◌<◌, Bool, ◌&&◌, ◌||◌, List, [], ◌∷◌, ◌++◌, length, get_or, nat_lt, ◌==◌, bytes_eq}
use Rattle.pathspec_glob.specs.Bytes.{slash, fold_case, begins_with}
use Rattle.pathspec_heads.specs.Heads.{head_at}

-- the path and a slash, in lower case where case doesn't count
abbrev pub with_slash : Bool → List ℕ → List ℕ
with_slash ignore_case path = fold_case ignore_case path ++ slash ∷ []

-- the stem lies below the path, or is it, or the path lies below it, or begins with it where a wildcard follows it
abbrev pub leads_to : List ℕ → Bool → List ℕ → Bool
leads_to stem wild path = begins_with stem (path ++ slash ∷ []) || bytes_eq path stem || begins_with path (stem ++ slash ∷ []) || wild && begins_with path stem

-- the path lies below the stem
abbrev pub lies_below : List ℕ → List ℕ → Bool
lies_below stem path = begins_with path (stem ++ slash ∷ [])

-- the path is the stem or lies below it
abbrev pub lies_at_or_below : List ℕ → List ℕ → Bool
lies_at_or_below stem path = bytes_eq path stem || begins_with path (stem ++ slash ∷ [])

-- the two lists have the same elements
pub record HasSameTexts (texts others : List (List ℕ)) : Type 0 where
  pub there : (i : ℕ) → i < length texts → (k : ℕ) × (k < length others) × (head_at others k ≡ head_at texts i)
  pub back : (k : ℕ) → k < length others → (i : ℕ) × (i < length texts) × (head_at others k ≡ head_at texts i)

-- the stem begins the path and a slash, is shorter than this, and a slash stands there where it ends
abbrev pub is_boundary : List ℕ → ℕ → List ℕ → Bool
is_boundary path limit stem = begins_with path stem && (nat_lt (length stem) limit && get_or path (length stem) 0 == slash)
