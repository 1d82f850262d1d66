-- Options read one after the other.
use Rattle.std.proofs.Common.{◌≡◌, refl, ◌∙◌, sym, ap, true, false, List, ℕ, Ok, Err, Result, Bor}
use Rattle.pathspec_parts.specs.Paths.{is_clean_prefix}
use Rattle.pathspec_select.specs.RequestFaults.{RequestFault}
use Rattle.pathspec_select.specs.declared.options.Options.{Options as Shown}
use Rattle.pathspec_select.specs.Options.{Options, no_options, prefix_of, with_clean_prefix, with_specs_once, options_of}
use Rattle.pathspec_select.specs.OptionWords.{options_from, HasSettings, ShowsOptions}

-- The options so far and the words that are left give what all words ask for.
pub record ReadTo (all : Result Options RequestFault) (shown : Shown) (left : List (List ℕ)) : Type 0 where
  pub options : Options
  pub so_far : options_from options left ≡ all
  pub settings : HasSettings shown options

module _ (words : List (List ℕ)) where
  -- the options are at fault before the prefix is looked at
  pub options-fault : (fault : RequestFault) → options_from no_options words ≡ Err fault → options_of words ≡ Err fault
  unfolding options_of
  options-fault fault e = rw e refl

  module _ (options : Options) (e : options_from no_options words ≡ Ok options) where
    -- the prefix isn't clean
    pub options-unclean : (fault : RequestFault) → with_clean_prefix options ≡ Err fault → options_of words ≡ Err fault
    unfolding options_of
    options-unclean fault c = rw (e, c) refl

    -- it is
    pub options-read : (clean : Options) → with_clean_prefix options ≡ Ok clean → options_of words ≡ with_specs_once clean
    unfolding options_of
    options-read clean c = rw (e, c) refl

module _ (shown : Shown) (options : Options) (h : ShowsOptions shown options) (prefix : Bor (List ℕ)) (named : prefix.now ≡ prefix_of shown.prefix.now) where
  same_prefix : prefix_of options.prefix ≡ prefix.now
  same_prefix = ap prefix_of h.settings.prefix ∙ sym named

  -- the prefix is clean
  pub cleaned : is_clean_prefix prefix.now ≡ true → (clean : Options) × (with_clean_prefix options ≡ Ok clean) × ShowsOptions (record shown { prefix = prefix }) clean
  cleaned c =
      (record options { prefix = prefix_of options.prefix }, rw (same_prefix, c) refl, record { settings = record { prefix = same_prefix; root = h.settings.root; separator = h.settings.separator; source = h.settings.source }; texts = h.texts })

  -- it isn't
  pub unclean : is_clean_prefix prefix.now ≡ false → with_clean_prefix options ≡ Err RequestFault.Usage
  unclean c = rw (same_prefix, c) refl
