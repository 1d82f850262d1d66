-- What words and the environment ask for, by how far they are read.
use Rattle.std.proofs.Common.{◌≡◌, refl, List, ℕ, Ok, Err}
use Rattle.pathspec_parts.specs.AttributeRows.{Row}
use Rattle.pathspec_pattern.specs.declared.defaults.Defaults.{Defaults}
use Rattle.pathspec_pattern.specs.Environment.{Words, defaults_of}
use Rattle.gix_pathspec.specs.declared.search.init.BuildError.{BuildError}
use Rattle.gix_pathspec.specs.declared.search.init.BuildError.TheVariants as build
use Rattle.gix_pathspec.specs.Faults.{Fault}
use Rattle.gix_pathspec.specs.Building.{TellsFault}
use Rattle.gix_pathspec.specs.Search.{Numbered}
use Rattle.pathspec_select.specs.declared.refusal.Refusal.{Refusal}
use Rattle.pathspec_select.specs.declared.refusal.Refusal.TheVariants as refusal
use Rattle.pathspec_select.specs.RequestFaults.{RequestFault}
use Rattle.pathspec_select.specs.RequestFaults.RequestFault.{Usage}
use Rattle.pathspec_select.specs.Options.{Options, options_of}
use Rattle.pathspec_select.specs.Refusals.{TellsRequestFault, RefusesBuild}
use Rattle.pathspec_select.specs.Rows.{IsUsageOrMemory, rows_of_options}
use Rattle.pathspec_select.specs.Requests.{JobSpecs, environment_result, asked_specs, request_of}

-- a refusal of the usage tells that fault
pub tells-usage : (P : RequestFault → Type 0) (Q : Type 0) (r : Refusal) → (Q → P Usage) → IsUsageOrMemory r Q → TellsRequestFault r P
tells-usage P Q refusal.Usage f h = f h
tells-usage P Q (refusal.Environment error) f h = absurd h
tells-usage P Q (refusal.Spec number error) f h = absurd h
tells-usage P Q refusal.Read f h = absurd h
tells-usage P Q refusal.Specs f h = absurd h
tells-usage P Q (refusal.Line number) f h = absurd h
tells-usage P Q refusal.Write f h = absurd h
tells-usage P Q refusal.Memory f h = tt

-- a refusal for an error of a search tells the fault and its number
pub tells-build : (e : BuildError) (r : Refusal) (P : ℕ × Fault → Type 0) (Q : RequestFault → Type 0) → RefusesBuild e r → TellsFault e P → ((fault : ℕ × Fault) → P fault → Q (RequestFault.BadSpec fault.0 fault.1)) → TellsRequestFault r Q
tells-build (build.Spec number error) r P Q m h f = rw m (h.0, h.1, f (number, h.0) h.2)
tells-build build.Memory r P Q m h f = rw m tt

module _ (words : List (List ℕ)) (environment : Words) where
  -- the options are at fault
  pub request-options : (fault : RequestFault) → options_of words ≡ Err fault → request_of words environment ≡ Err fault
  unfolding request_of
  request-options fault e = rw e refl

  module _ (options : Options) (o : options_of words ≡ Ok options) where
    -- a list of attributes is
    pub request-rows : (fault : RequestFault) → rows_of_options options ≡ Err fault → request_of words environment ≡ Err fault
    unfolding request_of
    request-rows fault e = rw (o, e) refl

    module _ (rows : List Row) (r : rows_of_options options ≡ Ok rows) where
      -- the environment is
      pub request-environment : (fault : RequestFault) → environment_result (defaults_of environment) ≡ Err fault → request_of words environment ≡ Err fault
      unfolding request_of
      request-environment fault e = rw (o, r, e) refl

      module _ (defaults : Defaults) (d : environment_result (defaults_of environment) ≡ Ok defaults) where
        -- a spec in the words is
        pub request-specs : (fault : RequestFault) → asked_specs options defaults ≡ Err fault → request_of words environment ≡ Err fault
        unfolding request_of
        request-specs fault e = rw (o, r, d, e) refl

        -- nothing is at fault
        pub request-done : (specs : JobSpecs (List Numbered)) → asked_specs options defaults ≡ Ok specs → request_of words environment ≡ Ok (record { separator = options.separator; rows = rows; specs = specs })
        unfolding request_of
        request-done specs e = rw (o, r, d, e) refl
