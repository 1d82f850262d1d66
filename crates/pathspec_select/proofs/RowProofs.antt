-- Rows that lists of attributes make, one after the other.
use Rattle.std.proofs.Common.{◌≡◌, ◌∙◌, refl, ap, true, false, not, ◌&&◌, is_some, Bool, List, ℕ, [], ◌∷◌, ◌++◌, map, if◌then◌else◌, Ok, Err, Result}
use Rattle.std.proofs.lemmas.List.{map-append}
use Rattle.pathspec_parts.specs.Bytes.{is_empty}
use Rattle.pathspec_parts.specs.Paths.{is_clean_prefix}
use Rattle.pathspec_parts.specs.Attributes.{Assignment}
use Rattle.pathspec_parts.specs.AttributeRows.{Row, RowsContents}
use Rattle.gix_pathspec.specs.Results.{◌>>=◌, all_ok}
use Rattle.pathspec_pattern.specs.AttributeLists.{assignments_of}
use Rattle.pathspec_select.specs.declared.refusal.Refusal.{Refusal}
use Rattle.pathspec_select.specs.declared.refusal.Refusal.TheVariants as refusal
use Rattle.pathspec_select.specs.RequestFaults.{RequestFault}
use Rattle.pathspec_select.specs.RequestFaults.RequestFault.{Usage}
use Rattle.pathspec_select.specs.Options.{Options, OptionWord, Awaited, option_word, with_setting, options_after, no_options, prefix_of, with_clean_prefix, with_specs_once, options_of}
use Rattle.pathspec_select.specs.Options.Setting.{EndsByNul, HasPrefix, HasRoot, HasList, HasSource}
use Rattle.pathspec_select.specs.Options.OptionWord.{EndsOptions, SaysNul, NamesPrefix, NamesRoot, NamesList, NamesSource, IsUnknown, BeginsSpecs}
use Rattle.pathspec_select.specs.Options.Awaited.{AnyWord, PrefixPath, RootPath, ListPath, ListOf, SourceName}
use Rattle.pathspec_select.specs.OptionWords.{options_from}
use Rattle.pathspec_select.specs.Rows.{list_result, row_of, rows_of_options, rows_of_words, IsUsageOrMemory}

-- ---- one row more

-- the rows and then one, where it can be read
abbrev with_last : Result (List Row) RequestFault → Result Row RequestFault → Result (List Row) RequestFault
with_last rows last = rows >>= λ xs. last >>= λ x. Ok (xs ++ x ∷ [])

after_first : (first : Row) (rows : Result (List Row) RequestFault) (last : Result Row RequestFault) → (with_last rows last >>= λ xs. Ok (first ∷ xs)) ≡ with_last (rows >>= λ xs. Ok (first ∷ xs)) last
after_first first (Err e) last = refl
after_first first (Ok xs) (Err e) = refl
after_first first (Ok xs) (Ok x) = refl

all_ok-snoc : (rows : List (Result Row RequestFault)) (last : Result Row RequestFault) → all_ok (rows ++ last ∷ []) ≡ with_last (all_ok rows) last
all_ok-snoc [] (Ok x) = refl
all_ok-snoc [] (Err e) = refl
all_ok-snoc (Err e ∷ rows) last = refl
all_ok-snoc (Ok x ∷ rows) last = ap (λ r. r >>= λ xs. Ok (x ∷ xs)) (all_ok-snoc rows last) ∙ after_first x (all_ok rows) last

module _ (options : Options) (path list : List ℕ) (rows : List Row) (so_far : rows_of_options options ≡ Ok rows) where
  all_rows : rows_of_options (with_setting (HasList path list) options) ≡ with_last (Ok rows) (row_of (record { path = path; list = list }))
  all_rows = rw map-append (all_ok-snoc (map row_of options.lists) (row_of (record { path = path; list = list })) ∙ ap (λ r. with_last r (row_of (record { path = path; list = list }))) so_far)

  -- the list can be read
  pub rows-more : (assignments : List Assignment) → list_result (assignments_of list) ≡ Ok assignments → rows_of_options (with_setting (HasList path list) options) ≡ Ok (rows ++ record { path = path; assignments = assignments } ∷ [])
  rows-more assignments a = all_rows ∙ (rw a refl)

  -- it can't
  pub rows-refused : list_result (assignments_of list) ≡ Err Usage → rows_of_options (with_setting (HasList path list) options) ≡ Err Usage
  rows-refused a = all_rows ∙ (rw a refl)

-- ---- among the options

-- a list that can't be read among what words say
pub fault-of : {all : Result Options RequestFault} (said : Result Options RequestFault) → all ≡ said → (said >>= rows_of_options) ≡ Err Usage → (all >>= rows_of_options) ≡ Err Usage
fault-of said e h = ap (λ r. r >>= rows_of_options) e ∙ h

-- where an option may stand, by what the first word says
fault-at_word : (options : Options) (word : List ℕ) (words : List (List ℕ)) → rows_of_options options ≡ Err Usage
    → ((awaited : Awaited) (later : Options) → rows_of_options later ≡ Err Usage → (options_after awaited later words >>= rows_of_options) ≡ Err Usage)
    → (meaning : OptionWord) → option_word word ≡ meaning → (options_after AnyWord options (word ∷ words) >>= rows_of_options) ≡ Err Usage
fault-at_word options word words h later EndsOptions e = fault-of (Ok (record options { texts = words })) (rw (e, options_after) refl) h
fault-at_word options word words h later SaysNul e = fault-of (options_after AnyWord (with_setting EndsByNul options) words) (rw (e, options_after) refl) (later AnyWord (with_setting EndsByNul options) h)
fault-at_word options word words h later NamesPrefix e = fault-of (options_after PrefixPath options words) (rw (e, options_after) refl) (later PrefixPath options h)
fault-at_word options word words h later NamesRoot e = fault-of (options_after RootPath options words) (rw (e, options_after) refl) (later RootPath options h)
fault-at_word options word words h later NamesList e = fault-of (options_after ListPath options words) (rw (e, options_after) refl) (later ListPath options h)
fault-at_word options word words h later NamesSource e = fault-of (options_after SourceName options words) (rw (e, options_after) refl) (later SourceName options h)
fault-at_word options word words h later IsUnknown e = fault-of (Err Usage) (rw (e, options_after) refl) refl
fault-at_word options word words h later BeginsSpecs e = fault-of (Ok (record options { texts = word ∷ words })) (rw (e, options_after) refl) h

-- once a list can't be read, no later word mends that
pub rows-fault : (awaited : Awaited) (options : Options) (words : List (List ℕ)) → rows_of_options options ≡ Err Usage → (options_after awaited options words >>= rows_of_options) ≡ Err Usage
rows-fault AnyWord options [] h = h
rows-fault PrefixPath options [] h = refl
rows-fault RootPath options [] h = refl
rows-fault ListPath options [] h = refl
rows-fault (ListOf path) options [] h = refl
rows-fault SourceName options [] h = refl
rows-fault PrefixPath options (word ∷ words) h = rows-fault AnyWord (with_setting (HasPrefix word) options) words h
rows-fault RootPath options (word ∷ words) h = rows-fault AnyWord (with_setting (HasRoot word) options) words h
rows-fault ListPath options (word ∷ words) h = rows-fault (ListOf word) options words h
rows-fault SourceName options (word ∷ words) h = rows-fault AnyWord (with_setting (HasSource word) options) words h
rows-fault (ListOf path) options (word ∷ words) h =
    rows-fault AnyWord (with_setting (HasList path word) options) words
    (rw map-append (all_ok-snoc (map row_of options.lists) (row_of (record { path = path; list = word })) ∙ ap (λ r. with_last r (row_of (record { path = path; list = word }))) h))
rows-fault AnyWord options (word ∷ words) h = fault-at_word options word words h (λ awaited later k. rows-fault awaited later words k) (option_word word) refl

-- The rows so far and the words that are left give what all words ask for.
pub record RowsTo (all : Result Options RequestFault) (rows : RowsContents) (left : List (List ℕ)) : Type 0 where
  pub options : Options
  pub so_far : options_from options left ≡ all
  pub read : rows_of_options options ≡ Ok rows.rows
  pub fresh : rows.failures ≡ 0

-- a refusal of the usage, for another cause
pub usage-then : (r : Refusal) (P Q : Type 0) → (P → Q) → IsUsageOrMemory r P → IsUsageOrMemory r Q
usage-then refusal.Usage P Q f h = f h
usage-then (refusal.Environment error) P Q f h = h
usage-then (refusal.Spec number error) P Q f h = h
usage-then refusal.Read P Q f h = h
usage-then refusal.Specs P Q f h = h
usage-then (refusal.Line number) P Q f h = h
usage-then refusal.Write P Q f h = h
usage-then refusal.Memory P Q f h = h

-- the prefix and where the specs stand have no part in the rows
rows-once : (options others : Options) → with_specs_once options ≡ Ok others → rows_of_options options ≡ rows_of_options others
rows-once options others e = by_test (is_some options.source && not (is_empty options.texts)) e
  where
    by_test : (twice : Bool) → (if twice then Err Usage else Ok options) ≡ Ok others → rows_of_options options ≡ rows_of_options others
    by_test true e = absurd (let q : ⊥ = cc in q)
    by_test false e = let same : options ≡ others = cc in ap rows_of_options same

rows-cleaned : (read : Result Options RequestFault) (options : Options) → read >>= with_clean_prefix >>= with_specs_once ≡ Ok options → (read >>= rows_of_options) ≡ rows_of_options options
rows-cleaned (Err e) options h = absurd (let q : ⊥ = cc in q)
rows-cleaned (Ok read) options h = by_test (is_clean_prefix (prefix_of read.prefix)) h
  where
    by_test : (clean : Bool) → ((if clean then Ok (record read { prefix = prefix_of read.prefix }) else Err Usage) >>= with_specs_once) ≡ Ok options → rows_of_options read ≡ rows_of_options options
    by_test true e = rows-once (record read { prefix = prefix_of read.prefix }) options e
    by_test false e = absurd (let q : ⊥ = cc in q)

-- the rows that right options ask for are those of the words
pub rows-words : (words : List (List ℕ)) (options : Options) → options_of words ≡ Ok options → rows_of_words words ≡ rows_of_options options
unfolding options_of
rows-words words options h = rows-cleaned (options_from no_options words) options h
