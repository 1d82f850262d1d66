-- Rows on what words ask for.
use Rattle.std.proofs.Common.{◌≡◌, ℕ, refl, List, [], ◌∷◌, map, Some, None, Result, Ok, Err}
use Rattle.std.specs.Prelude.{codes}
use Rattle.pathspec_select.specs.RequestFaults.{RequestFault}
use Rattle.pathspec_select.specs.RequestFaults.RequestFault.{Usage}
use Rattle.pathspec_select.specs.Options.{Options, ListAt, line_feed, options_of}

-- a prefix, a root and the words of the specs
abbrev asked : List ℕ → List ℕ → List (List ℕ) → Result Options RequestFault
asked prefix root texts = Ok (record { prefix = prefix; root = root; separator = line_feed; lists = []; source = None; texts = texts })

-- a separator, lists of attributes and the words of the specs
abbrev asked_with : ℕ → List ListAt → List (List ℕ) → Result Options RequestFault
asked_with separator lists texts = Ok (record { prefix = []; root = []; separator = separator; lists = lists; source = None; texts = texts })

abbrev listed : List ℕ → List ℕ → ListAt
listed path list = record { path = path; list = list }

-- what the source of specs that stand first in the input is called
abbrev asked_first : List ℕ → Result Options RequestFault
asked_first name = Ok (record { prefix = []; root = []; separator = line_feed; lists = []; source = Some name; texts = [] })

-- words with a prefix and a root
abbrev words : List (List (List ℕ) × Result Options RequestFault)
words =
    ([], asked [] [] [])
    -- one last slash of a prefix is no part of it, and the last prefix counts
    ∷ (codes "--prefix" ∷ codes "a" ∷ codes "b" ∷ [], asked (codes "a") [] (codes "b" ∷ []))
    ∷ (codes "--prefix" ∷ codes "a/" ∷ codes "b" ∷ [], asked (codes "a") [] (codes "b" ∷ []))
    ∷ (codes "--prefix" ∷ codes "a" ∷ codes "--prefix" ∷ codes "b" ∷ [], asked (codes "b") [] [])
    ∷ (codes "--prefix" ∷ codes ".." ∷ codes "--prefix" ∷ codes "b" ∷ codes "c" ∷ [], asked (codes "b") [] (codes "c" ∷ []))
    -- of roots, too, the last counts
    ∷ (codes "--root" ∷ codes "/r" ∷ codes "/r/a" ∷ [], asked [] (codes "/r") (codes "/r/a" ∷ []))
    ∷ (codes "--root" ∷ codes "/r" ∷ codes "--prefix" ∷ codes "a" ∷ codes "--root" ∷ codes "/s/" ∷ [], asked (codes "a") (codes "/s/") [])
    -- what follows an option is its argument
    ∷ (codes "--prefix" ∷ codes "--" ∷ codes "x" ∷ [], asked (codes "--") [] (codes "x" ∷ []))
    -- all after a spec, or after `--`, are specs
    ∷ (codes "a" ∷ codes "--" ∷ codes "b" ∷ [], asked [] [] (codes "a" ∷ codes "--" ∷ codes "b" ∷ []))
    ∷ (codes "--" ∷ codes "--prefix" ∷ codes "a" ∷ [], asked [] [] (codes "--prefix" ∷ codes "a" ∷ []))
    ∷ (codes "--prefix" ∷ [] ∷ codes "x" ∷ [], asked [] [] (codes "x" ∷ []))
    -- `-- --specs-first f`
    ∷ (codes "--" ∷ codes "--specs-first" ∷ codes "f" ∷ [], asked [] [] (codes "--specs-first" ∷ codes "f" ∷ []))
    ∷ []

words_are_read : map (λ r. options_of r.0) words ≡ map (λ r. r.1) words
unfolding options_of
words_are_read = refl

-- words with a separator and lists of attributes
abbrev words_with_lists : List (List (List ℕ) × Result Options RequestFault)
words_with_lists =
    (codes "-z" ∷ codes "y z" ∷ [], asked_with 0 [] (codes "y z" ∷ []))
    ∷ (codes "-z" ∷ codes "-z" ∷ [], asked_with 0 [] [])
    -- lists count in their order
    ∷ (codes "--attr" ∷ codes "x" ∷ codes "gen" ∷ codes "--attr" ∷ codes "x" ∷ codes "-gen" ∷ codes "x" ∷ [], asked_with line_feed (listed (codes "x") (codes "gen") ∷ listed (codes "x") (codes "-gen") ∷ []) (codes "x" ∷ []))
    ∷ (codes "--attr" ∷ codes "--" ∷ codes "-z" ∷ codes "--" ∷ codes "a" ∷ [], asked_with line_feed (listed (codes "--") (codes "-z") ∷ []) (codes "a" ∷ []))
    ∷ []

words_with_lists_are_read : map (λ r. options_of r.0) words_with_lists ≡ map (λ r. r.1) words_with_lists
unfolding options_of
words_with_lists_are_read = refl

-- words with a source of specs that stand first in the input
abbrev words_with_a_source : List (List (List ℕ) × Result Options RequestFault)
words_with_a_source =
    (codes "--specs-first" ∷ codes "f" ∷ [], asked_first (codes "f"))
    ∷ (codes "--specs-first" ∷ codes "f" ∷ codes "--specs-first" ∷ codes "g" ∷ codes "--" ∷ [], asked_first (codes "g"))
    -- it may be any word
    ∷ (codes "--specs-first" ∷ [] ∷ [], asked_first [])
    ∷ (codes "--specs-first" ∷ codes "--" ∷ [], asked_first (codes "--"))
    ∷ []

words_with_a_source_are_read : map (λ r. options_of r.0) words_with_a_source ≡ map (λ r. r.1) words_with_a_source
unfolding options_of
words_with_a_source_are_read = refl

-- words that are refused
abbrev refused : List (List (List ℕ))
refused =
    -- a prefix that is no clean path
    (codes "--prefix" ∷ codes "a//" ∷ codes "b" ∷ [])
    ∷ (codes "--prefix" ∷ codes "../a" ∷ [])
    ∷ (codes "--prefix" ∷ codes "/" ∷ codes "x" ∷ [])
    -- options that lack an argument
    ∷ (codes "--prefix" ∷ [])
    ∷ (codes "--prefix" ∷ codes "a" ∷ codes "--root" ∷ [])
    ∷ (codes "--attr" ∷ codes "x" ∷ [])
    ∷ (codes "--attr" ∷ [])
    ∷ (codes "-z" ∷ codes "--specs-first" ∷ [])
    -- unknown options
    ∷ (codes "-y" ∷ [])
    ∷ (codes "-" ∷ codes "a" ∷ [])
    ∷ (codes "--prefix=a" ∷ codes "b" ∷ [])
    ∷ (codes "-zz" ∷ [])
    -- a spec beside a source
    ∷ (codes "--specs-first" ∷ codes "f" ∷ codes "x" ∷ [])
    ∷ (codes "--specs-first" ∷ codes "f" ∷ codes "--" ∷ [] ∷ [])
    ∷ []

these_are_refused : map options_of refused ≡ map (λ words. Err Usage) refused
unfolding options_of
these_are_refused = refl
