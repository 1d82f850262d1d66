-- A walk looks only at paths that it has to look at.
use Rattle.std.proofs.Common.{◌≡◌, ◌≢◌, ℕ, Bool, true, false, ◌||◌, not, refl, sym, ◌∙◌, ap, List, [], ◌∷◌, ◌++◌, arith, inl, inr, Option}
use Rattle.std.proofs.lemmas.List.Elements.{All-push}
use Rattle.std.specs.Prelude.{IsTrue}
use Rattle.gix_pathspec.specs.Specs.{Spec}
use Rattle.gix_pathspec.specs.Skipping.{holds_nothing, may_skip}
use Rattle.pathspec_list.specs.Directories.{append_known}
use Rattle.pathspec_list.specs.Listings.{matters, AllMatter, IsMore}
use Rattle.pathspec_list.specs.Courses.{MayAsk}
use Rattle.pathspec_list.proofs.CourseProofs.{more_append, no_more}

-- The top may not be skipped.
top_stays : (specs : List Spec) → may_skip specs [] ≡ false
unfolding may_skip holds_nothing
top_stays specs = refl

top_matters : (takes : List ℕ → Bool → Bool) (specs : List Spec) → IsTrue (matters takes specs [])
top_matters takes specs = ap (λ b. not b || takes [] false || takes [] true) (top_stays specs)

matters_there : (takes : List ℕ → Bool → Bool) (specs : List Spec) (path : List ℕ) → (path ≢ [] → IsTrue (matters takes specs path)) → IsTrue (matters takes specs path)
matters_there takes specs [] h = top_matters takes specs
matters_there takes specs (b ∷ bs) h = h (λ e. cc)

-- nothing was asked
pub asks_nothing : (takes : List ℕ → Bool → Bool) (specs : List Spec) (asked asked' : Option (List (List ℕ))) → asked' ≡ asked → IsMore asked asked' (AllMatter takes specs)
asks_nothing takes specs asked asked' h = ([], h ∙ sym (no_more asked), λ k d lt. absurd (omega (arith, lt)))

module _ (takes : List ℕ → Bool → Bool) (specs : List Spec) (start asked asked' : Option (List (List ℕ))) (h : IsMore start asked (AllMatter takes specs)) where
  -- a path more
  asks_path : (path : List ℕ) → (path ≢ [] → IsTrue (matters takes specs path)) → asked' ≡ append_known asked (path ∷ []) → IsMore start asked' (AllMatter takes specs)
  asks_path path m e = (
    h.0 ++ path ∷ [],
    e ∙ (ap (λ ps. append_known ps (path ∷ [])) h.1 ∙ more_append start h.0 (path ∷ [])),
    All-push (λ p. IsTrue (matters takes specs p)) h.0 path h.2 (matters_there takes specs path m),
  )

  -- the top
  pub asks_top : asked' ≡ append_known asked ([] ∷ []) → IsMore start asked' (AllMatter takes specs)
  asks_top e = asks_path [] (λ n. top_matters takes specs) e

  -- a visit to a path
  pub asks_on : (path : List ℕ) → MayAsk (matters takes specs path) path asked asked' → IsMore start asked' (AllMatter takes specs)
  asks_on path m = elim m [
    | inl e ↦ (h.0, e ∙ h.1, h.2)
    | inr q ↦ asks_path path q.1 q.0
  ]
