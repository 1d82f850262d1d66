-- What the stem of a spec reaches and takes, and the lists of stems that a table keeps.
use Rattle.std.specs.Prelude.{ℕ, Bool, true, false, not, ◌&&◌, ◌||◌, List, map, filter, if◌then◌else◌, Option, Some, None, bytes_eq}
use Rattle.std.specs.List.{list_any}
use Rattle.pathspec_glob.specs.Bytes.{fold_case}
use Rattle.pathspec_heads.specs.declared.tables.Kind.{Kind}
use Rattle.pathspec_heads.specs.declared.tables.Kind.TheVariants.{Wild, Literal, Directory}
use Rattle.pathspec_heads.specs.declared.tables.Question.{Question}
use Rattle.pathspec_heads.specs.declared.tables.Question.TheVariants.{Reaches, Takes}
use Rattle.pathspec_heads.specs.declared.stems.Relation.{Relation}
use Rattle.pathspec_heads.specs.declared.stems.Relation.TheVariants.{Below, AtOrBelow, LeadsTo, LeadsToWild}
use Rattle.pathspec_heads.specs.Stems.{leads_to, lies_below, HasSameTexts}
use Rattle.pathspec_heads.specs.Relations.{is_related}

-- a stem, and what its spec says
pub record StemParts : Type 0 where
  pub text : List ℕ
  pub ignores_case : Bool
  pub has_wildcard : Bool
  pub wants_directory : Bool

-- asked of a file: a stem that wants a directory and that no wildcard follows takes only what lies below it
abbrev pub stem_takes_only_below : StemParts → Option Bool → Bool
stem_takes_only_below s (Some false) = s.wants_directory && not s.has_wildcard
stem_takes_only_below s (Some true) = false
stem_takes_only_below s None = false

-- A stem reaches a path where they lead to one another, without case where the stem has none; a stem that takes only what lies below it, where the path does.
unfoldable pub stem_reaches : StemParts → List ℕ → Option Bool → Bool
stem_reaches s path is_dir =
    if stem_takes_only_below s is_dir then lies_below (fold_case s.ignores_case s.text) (fold_case s.ignores_case path)
    else leads_to (fold_case s.ignores_case s.text) s.has_wildcard (fold_case s.ignores_case path)

-- A stem takes a path where no wildcard follows it and it is the path, which is a directory where one is wanted, or the path lies below it; without case where the stem has none.
abbrev pub path_takes : StemParts → List ℕ → Bool → Bool
path_takes s path is_dir =
    not s.has_wildcard && (bytes_eq (fold_case s.ignores_case path) (fold_case s.ignores_case s.text) && (not s.wants_directory || is_dir) || lies_below (fold_case s.ignores_case s.text) (fold_case s.ignores_case path))

-- the stem's answer to a question about the path
abbrev pub stem_answers : Question → StemParts → List ℕ → Bool
stem_answers (Reaches is_dir) s path = stem_reaches s path is_dir
stem_answers (Takes is_dir) s path = path_takes s path is_dir

-- how a path is related to a text of a kind that answers yes
abbrev pub relation_of : Kind → Question → Option Relation
relation_of Wild (Reaches is_dir) = Some LeadsToWild
relation_of Wild (Takes is_dir) = None
relation_of Literal (Reaches is_dir) = Some LeadsTo
relation_of Literal (Takes is_dir) = Some AtOrBelow
relation_of Directory (Reaches (Some false)) = Some Below
relation_of Directory (Reaches (Some true)) = Some LeadsTo
relation_of Directory (Reaches None) = Some LeadsTo
relation_of Directory (Takes false) = Some Below
relation_of Directory (Takes true) = Some AtOrBelow

-- a wildcard follows the stem; or none does, and it wants a directory or not
abbrev pub has_kind : Kind → StemParts → Bool
has_kind Wild s = s.has_wildcard
has_kind Literal s = not s.has_wildcard && not s.wants_directory
has_kind Directory s = not s.has_wildcard && s.wants_directory

-- the stem has this kind, and case counts or not
abbrev pub is_of_kind : Bool → Kind → StemParts → Bool
is_of_kind ignore_case kind s = (if ignore_case then s.ignores_case else not s.ignores_case) && has_kind kind s

-- the texts of these stems, in lower case where case doesn't count
abbrev pub texts_of : Bool → Kind → List StemParts → List (List ℕ)
texts_of ignore_case kind stems = map (λ s. fold_case ignore_case s.text) (filter (is_of_kind ignore_case kind) stems)

-- the texts of the stems of each kind
pub record TextLists : Type 0 where
  pub wild : List (List ℕ)
  pub literal : List (List ℕ)
  pub directory : List (List ℕ)

-- the lists have the texts of the stems with case, or of those without
pub record IsListed (ignore_case : Bool) (stems : List StemParts) (lists : TextLists) : Type 0 where
  pub wild : HasSameTexts (texts_of ignore_case Wild stems) lists.wild
  pub literal : HasSameTexts (texts_of ignore_case Literal stems) lists.literal
  pub directory : HasSameTexts (texts_of ignore_case Directory stems) lists.directory

-- what a table of stems is seen as: the texts of those with case, and of those without
pub record TextTable : Type 0 where
  pub exact : TextLists
  pub folded : TextLists

-- the table has the texts of these stems
pub record IsTableOf (stems : List StemParts) (table : TextTable) : Type 0 where
  pub exact : IsListed false stems table.exact
  pub folded : IsListed true stems table.folded

-- a text of a kind answers yes
abbrev pub text_answers : Kind → Question → List ℕ → List ℕ → Bool
text_answers kind question text path = is_related (relation_of kind question) text path

-- a text of the lists does
abbrev pub lists_answer : Bool → TextLists → Question → List ℕ → Bool
lists_answer ignore_case lists question path =
    let d = fold_case ignore_case path in
    list_any (λ t. text_answers Wild question t d) lists.wild || list_any (λ t. text_answers Literal question t d) lists.literal || list_any (λ t. text_answers Directory question t d) lists.directory
