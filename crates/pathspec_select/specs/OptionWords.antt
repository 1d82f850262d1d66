-- What a clause reads of a word among the options, and of an option with its arguments.
use Rattle.std.specs.Prelude.{◌≡◌, ◌<◌, ℕ, List, length, map, string_bytes, Result, Ok, Err, MatchResult}
use Rattle.std.specs.Option.{option_copied}
use Rattle.pathspec_select.specs.declared.options.Options.{Options as Shown}
use Rattle.pathspec_select.specs.declared.options.OptionWord.{OptionWord as Word}
use Rattle.pathspec_select.specs.declared.options.OptionWord.TheVariants as word
use Rattle.pathspec_select.specs.declared.options.Setting.{Setting as Lent}
use Rattle.pathspec_select.specs.declared.options.Setting.TheVariants as lent
use Rattle.pathspec_select.specs.declared.options.Words.{Words}
use Rattle.pathspec_select.specs.declared.options.Words.TheVariants as words
use Rattle.pathspec_select.specs.declared.refusal.Refusal.{Refusal}
use Rattle.pathspec_select.specs.declared.refusal.Refusal.TheVariants as refusal
use Rattle.pathspec_select.specs.RequestFaults.{RequestFault}
use Rattle.pathspec_select.specs.Options.{Options, OptionWord, Setting, Awaited, with_setting, options_after}

-- what the word says
abbrev pub option_view : Word → OptionWord
option_view word.EndsOptions = OptionWord.EndsOptions
option_view word.SaysNul = OptionWord.SaysNul
option_view word.NamesPrefix = OptionWord.NamesPrefix
option_view word.NamesRoot = OptionWord.NamesRoot
option_view word.NamesList = OptionWord.NamesList
option_view word.NamesSource = OptionWord.NamesSource
option_view word.IsUnknown = OptionWord.IsUnknown
option_view word.BeginsSpecs = OptionWord.BeginsSpecs

-- what the option says
abbrev pub setting_view : Lent → Setting
setting_view lent.EndsByNul = Setting.EndsByNul
setting_view (lent.HasPrefix path) = Setting.HasPrefix path.now
setting_view (lent.HasRoot path) = Setting.HasRoot path.now
setting_view (lent.HasList path list) = Setting.HasList path.now list.now
setting_view (lent.HasSource name) = Setting.HasSource name.now

-- what words say whose first may be an option
abbrev pub options_from : Options → List (List ℕ) → Result Options RequestFault
options_from options words = options_after Awaited.AnyWord options words

-- An option stands first in the words, or their specs begin.
abbrev pub IsFirst : List (List ℕ) → Words → Type 0
IsFirst all (words.After setting others) =
    ((options : Options) → options_from options all ≡ options_from (with_setting (setting_view setting) options) (map string_bytes others.now))
    × length others.now < length all
IsFirst all (words.Specs texts) = (options : Options) → options_from options all ≡ Ok (record options { texts = map string_bytes texts.now })

-- The words are at fault before their specs begin.
abbrev pub AreWrong : List (List ℕ) → Refusal → Type 0
AreWrong all e = (e ≡ refusal.Usage) × ((options : Options) → options_from options all ≡ Err RequestFault.Usage)

-- the options that were given, but for lists of attributes
pub record HasSettings (shown : Shown) (options : Options) : Type 0 where
  pub prefix : options.prefix ≡ shown.prefix.now
  pub root : options.root ≡ shown.root.now
  pub separator : options.separator ≡ shown.separator
  pub source : options.source ≡ option_copied shown.source

-- these, with the words of the specs
pub record ShowsOptions (shown : Shown) (options : Options) : Type 0 where
  pub settings : HasSettings shown options
  pub texts : options.texts ≡ map string_bytes shown.specs.now

-- The result shows what is computed; the only fault and the only refusal is of the usage.
abbrev pub ComputesOptions : Result Options RequestFault → Result Shown Refusal → Type 0
ComputesOptions computed result =
    MatchResult result (λ shown. (options : Options) × (computed ≡ Ok options) × ShowsOptions shown options) (λ e. (e ≡ refusal.Usage) × (computed ≡ Err RequestFault.Usage))
