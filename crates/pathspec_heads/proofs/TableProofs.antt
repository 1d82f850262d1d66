-- What the lists of a table answer is what the stems do.
use Rattle.std.proofs.Common.{◌≡◌, ℕ, Bool, true, false, not, ◌&&◌, ◌||◌, refl, sym, ◌∙◌, ap, List, Some, None, map, filter, if◌then◌else◌, bytes_eq}
use Rattle.std.specs.List.{list_any}
use Rattle.std.proofs.lemmas.Bool.{and_parts, not-true}
use Rattle.std.proofs.lemmas.Simd.{map-map}
use Rattle.pathspec_glob.specs.Bytes.{fold_case}
use Rattle.pathspec_heads.specs.declared.tables.Kind.{Kind}
use Rattle.pathspec_heads.specs.declared.tables.Kind.TheVariants.{Wild, Literal, Directory}
use Rattle.pathspec_heads.specs.declared.tables.Question.{Question}
use Rattle.pathspec_heads.specs.declared.tables.Question.TheVariants.{Reaches, Takes}
use Rattle.pathspec_heads.specs.Stems.{lies_below}
use Rattle.pathspec_heads.specs.Tables.{StemParts, TextLists, TextTable, stem_reaches, stem_answers, text_answers, has_kind, is_of_kind, texts_of, IsListed, IsTableOf, lists_answer}
use Rattle.pathspec_heads.proofs.AnyProofs.{any-ext, any-same, any-or, any-kept}

pub folded-texts : (ignore_case : Bool) (kind : Kind) (stems : List StemParts) → ignore_case ≡ true → map (fold_case true) (map (λ (s : StemParts). s.text) (filter (is_of_kind ignore_case kind) stems)) ≡ texts_of ignore_case kind stems
folded-texts false kind stems e = cc
folded-texts true kind stems e = map-map (fold_case true) (λ (s : StemParts). s.text) (filter (is_of_kind true kind) stems)

-- ---- what the kind of a stem says

case-is : (b : Bool) (kind : Kind) (s : StemParts) → is_of_kind b kind s ≡ true → s.ignores_case ≡ b
case-is true kind s h = (and_parts s.ignores_case (has_kind kind s) h).0
case-is false kind s h = not-true s.ignores_case (and_parts (not s.ignores_case) (has_kind kind s) h).0

kind-is : (b : Bool) (kind : Kind) (s : StemParts) → is_of_kind b kind s ≡ true → has_kind kind s ≡ true
kind-is b kind s h = (and_parts (if b then s.ignores_case else not s.ignores_case) (has_kind kind s) h).1

-- ---- one stem

module _ (d : List ℕ) where
  -- what a stem of a text answers, by what else it says
  abbrev says : Question → List ℕ → Bool → Bool → Bool → Bool
  says question text ignores wild wants = stem_answers question (record { text = text; ignores_case = ignores; has_wildcard = wild; wants_directory = wants }) d

  always : (a b : Bool) → (a || b) ≡ (a && true || b)
  always true b = refl
  always false b = refl

  never : (a b : Bool) → b ≡ (a && false || b)
  never true b = refl
  never false b = refl

  wild-says : (q : Question) (text : List ℕ) (b wants : Bool) → text_answers Wild q (fold_case b text) (fold_case b d) ≡ says q text b true wants
  unfolding stem_reaches
  wild-says (Reaches None) text b wants = refl
  wild-says (Reaches (Some true)) text b wants = refl
  wild-says (Reaches (Some false)) text b true = refl
  wild-says (Reaches (Some false)) text b false = refl
  wild-says (Takes is_dir) text b wants = refl

  literal-says : (q : Question) (text : List ℕ) (b : Bool) → text_answers Literal q (fold_case b text) (fold_case b d) ≡ says q text b false false
  unfolding stem_reaches
  literal-says (Reaches None) text b = refl
  literal-says (Reaches (Some true)) text b = refl
  literal-says (Reaches (Some false)) text b = refl
  literal-says (Takes is_dir) text b = always (bytes_eq (fold_case b d) (fold_case b text)) (lies_below (fold_case b text) (fold_case b d))

  directory-says : (q : Question) (text : List ℕ) (b : Bool) → text_answers Directory q (fold_case b text) (fold_case b d) ≡ says q text b false true
  unfolding stem_reaches
  directory-says (Reaches None) text b = refl
  directory-says (Reaches (Some true)) text b = refl
  directory-says (Reaches (Some false)) text b = refl
  directory-says (Takes true) text b = always (bytes_eq (fold_case b d) (fold_case b text)) (lies_below (fold_case b text) (fold_case b d))
  directory-says (Takes false) text b = never (bytes_eq (fold_case b d) (fold_case b text)) (lies_below (fold_case b text) (fold_case b d))

  -- a text of a kind answers as its stem does
  kind-answers : (q : Question) (b : Bool) (kind : Kind) (s : StemParts) → is_of_kind b kind s ≡ true → text_answers kind q (fold_case b s.text) (fold_case b d) ≡ stem_answers q s d
  kind-answers q b Wild s h = wild-says q s.text b s.wants_directory ∙ sym (rw (case-is b Wild s h, kind-is b Wild s h) refl)
  kind-answers q b Literal s h =
      let k = kind-is b Literal s h in
      literal-says q s.text b ∙ sym (rw (case-is b Literal s h, not-true s.has_wildcard (and_parts (not s.has_wildcard) (not s.wants_directory) k).0, not-true s.wants_directory (and_parts (not s.has_wildcard) (not s.wants_directory) k).1) refl)
  kind-answers q b Directory s h =
      let k = kind-is b Directory s h in
      directory-says q s.text b ∙ sym (rw (case-is b Directory s h, not-true s.has_wildcard (and_parts (not s.has_wildcard) s.wants_directory k).0, (and_parts (not s.has_wildcard) s.wants_directory k).1) refl)

-- ---- the lists of stems

module _ (d : List ℕ) (q : Question) where
  -- it stands in the lists without case, or in those with case
  abbrev pub stands_in : Bool → StemParts → Bool
  stands_in b s = if b then s.ignores_case else not s.ignores_case

  -- the stem has this kind, and answers yes
  abbrev part : Bool → Kind → StemParts → Bool
  part b kind s = is_of_kind b kind s && stem_answers q s d

  part-texts : (b : Bool) (kind : Kind) (stems : List StemParts) → list_any (λ s. part b kind s) stems ≡ list_any (λ t. text_answers kind q t (fold_case b d)) (texts_of b kind stems)
  part-texts b kind stems = sym (any-kept (λ t. text_answers kind q t (fold_case b d)) (λ s. fold_case b s.text) (λ s. is_of_kind b kind s) (λ s. stem_answers q s d) (kind-answers d q b kind) stems)

  -- each stem has one kind
  three : (c w k p : Bool) → (c && p) ≡ ((c && w) && p || (c && (not w && not k)) && p || (c && (not w && k)) && p)
  three false w k p = refl
  three true true k true = refl
  three true true k false = refl
  three true false true p = refl
  three true false false true = refl
  three true false false false = refl

  pub listed : (b : Bool) (stems : List StemParts) (lists : TextLists) → IsListed b stems lists → list_any (λ s. (if b then s.ignores_case else not s.ignores_case) && stem_answers q s d) stems ≡ lists_answer b lists q d
  listed b stems lists l =
      let wild = part-texts b Wild stems ∙ sym (any-same (λ t. text_answers Wild q t (fold_case b d)) (texts_of b Wild stems) lists.wild l.wild) in
      let literal = part-texts b Literal stems ∙ sym (any-same (λ t. text_answers Literal q t (fold_case b d)) (texts_of b Literal stems) lists.literal l.literal) in
      let directory = part-texts b Directory stems ∙ sym (any-same (λ t. text_answers Directory q t (fold_case b d)) (texts_of b Directory stems) lists.directory l.directory) in
      any-ext (λ s. stands_in b s && stem_answers q s d) (λ s. part b Wild s || part b Literal s || part b Directory s) (λ s. three (stands_in b s) s.has_wildcard s.wants_directory (stem_answers q s d)) stems
      ∙ (any-or (λ s. part b Wild s || part b Literal s) (λ s. part b Directory s) stems
      ∙ (ap (λ r. r || list_any (λ s. part b Directory s) stems) (any-or (λ s. part b Wild s) (λ s. part b Literal s) stems)
      ∙ rw (wild, literal, directory) refl))

  -- and case counts for it or not
  either-case : (c p : Bool) → p ≡ ((not c && p) || (c && p))
  either-case true p = refl
  either-case false true = refl
  either-case false false = refl

  -- the lists of a table answer what its stems do
  pub table-answers : (stems : List StemParts) (table : TextTable) → IsTableOf stems table → (lists_answer false table.exact q d || lists_answer true table.folded q d) ≡ list_any (λ s. stem_answers q s d) stems
  table-answers stems table t =
      sym (any-ext (λ s. stem_answers q s d) (λ s. (stands_in false s && stem_answers q s d) || (stands_in true s && stem_answers q s d)) (λ s. either-case s.ignores_case (stem_answers q s d)) stems
      ∙ (any-or (λ s. stands_in false s && stem_answers q s d) (λ s. stands_in true s && stem_answers q s d) stems
      ∙ rw (listed false stems table.exact t.exact, listed true stems table.folded t.folded) refl))
