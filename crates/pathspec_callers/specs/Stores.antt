-- Searches that are stored as the long texts of their specs, and made again from what is stored.
use Rattle.std.specs.Prelude.{◌≡◌, ◌↔◌, ℕ, Bool, false, List, [], ◌∷◌, map, if◌then◌else◌, Ok}
use Rattle.pathspec_pattern.specs.declared.SearchMode.TheVariants.{Literal}
use Rattle.gix_pathspec.specs.Attributes.{Table}
use Rattle.gix_pathspec.specs.Specs.{Spec}
use Rattle.gix_pathspec.specs.Reading.{reading, no_defaults}
use Rattle.gix_pathspec.specs.NormalForm.{normal_form}
use Rattle.gix_pathspec.specs.Matching.{IsChosen}
use Rattle.gix_pathspec.specs.Search.{Numbered, search_of}

-- What is stored of a spec. The long text of a nil spec is `:`, which doesn't say its magic; the spec of the empty path with the same magic matches the same.
abbrev pub stored_spec : Spec → Spec
stored_spec s = if s.nil then record s { path = []; mode = Literal; nil = false; prefix_length = 0 } else s

-- the spec is the normal form of what some text says
pub record IsNormalFormOfText (n : Spec) : Type 0 where
  pub text : List ℕ
  pub prefix : List ℕ
  pub root : List ℕ
  pub spec : Spec
  pub says : reading no_defaults text ≡ Ok spec
  pub form : normal_form prefix root spec ≡ Ok n

-- the text says what is stored of the spec, if that is such a form
abbrev pub Stores : Spec → List ℕ → Type 0
Stores n text = IsNormalFormOfText n → reading no_defaults text ≡ Ok (stored_spec n)

-- texts store specs, one by one
abbrev pub StoreEach : List Spec → List (List ℕ) → Type 0
StoreEach [] [] = Unit {0}
StoreEach (n ∷ specs) (text ∷ texts) = Stores n text × StoreEach specs texts
StoreEach _ _ = ⊥

-- the search of what texts say
abbrev pub IsSearchOfTexts : List ℕ → List ℕ → List (List ℕ) → List Numbered → Type 0
IsSearchOfTexts prefix root texts search =
    (specs : List Spec) × (map (reading no_defaults) texts ≡ map Ok specs) × (search_of prefix root specs ≡ Ok search)

-- The specs choose the same paths as the others, whatever a look-up says.
abbrev pub ChooseAlike : List Spec → List Spec → Type 0
ChooseAlike specs others = (table : Table) (path : List ℕ) (is_dir : Bool) → IsChosen table specs path is_dir ↔ IsChosen table others path is_dir
