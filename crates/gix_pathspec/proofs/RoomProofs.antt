-- The room of matches has what each spec wants.
use Rattle.std.proofs.Common.{◌≡◌, ℕ, ◌+◌, ◌<◌, ◌≤◌, All, List, [], ◌∷◌, ◌++◌, length, map, take, get_or, sym, ap, subst, ◌∙◌, arith}
use Rattle.std.proofs.lemmas.List.{take_all, take_more}
use Rattle.std.proofs.lemmas.List.Elements.{All-get_or, All-push}
use Rattle.pathspec_parts.specs.Outcomes.{NamedState, names_of}
use Rattle.pathspec_parts.proofs.ListProofs.{map-at, map-more}
use Rattle.gix_pathspec.specs.Search.{Numbered}
use Rattle.gix_pathspec.specs.Room.{HasGlobRoom, HasRoom, ScratchContents, Fits, attribute_names, tokens_of, names_in_order}

-- a scratch that fits goes on to, as long as its room stays
pub fits-kept : (specs : List Numbered) (a b : ScratchContents) → Fits specs a → b.room ≡ a.room → Fits specs b
fits-kept specs a b h same = subst (HasRoom specs) (sym same) h

-- the outcome at a place has the names of the spec there
pub names-at : (outcomes : List (List NamedState)) (ns : List Numbered) (i : ℕ) (o : List NamedState) (n : Numbered) → map names_of outcomes ≡ names_in_order ns → i < length ns → o ≡ get_or outcomes i o → n ≡ get_or ns i n → names_of o ≡ attribute_names n.spec
names-at outcomes ns i o n e l p q = map-at names_of (λ m. attribute_names m.spec) outcomes ns i o n e l p q

-- ---- spec by spec

module _ (specs : List Numbered) (outcomes : List (List NamedState)) (tokens i : ℕ) (n : Numbered) (o : List NamedState) (l : i < length specs) (read : n ≡ get_or specs i n) (got : o ≡ get_or outcomes i o) where
  -- where all have room, the spec at a place has
  pub room-at : HasGlobRoom specs tokens (map names_of outcomes) → (tokens_of n.spec ≤ tokens) × (names_of o ≡ attribute_names n.spec)
  room-at h = (subst (λ (m : Numbered). tokens_of m.spec ≤ tokens) (sym read) (All-get_or (λ m. tokens_of m.spec ≤ tokens) specs i n l h.globs), names-at outcomes specs i o n h.outcomes l got read)

  -- one more spec has room
  pub room-more : length outcomes ≡ length specs → (tokens_of n.spec ≤ tokens) × (names_of o ≡ attribute_names n.spec) → HasGlobRoom (take i specs) tokens (map names_of (take i outcomes)) → HasGlobRoom (take (i + 1) specs) tokens (map names_of (take (i + 1) outcomes))
  room-more same fits h =
      let front : take (i + 1) specs ≡ take i specs ++ n ∷ [] = take_more specs i n l ∙ ap (λ m. take i specs ++ m ∷ []) (sym read) in
      record {
        globs = subst (All (λ m. tokens_of m.spec ≤ tokens)) (sym front) (All-push (λ m. tokens_of m.spec ≤ tokens) (take i specs) n h.globs fits.0);
        outcomes = map-more names_of (λ m. attribute_names m.spec) outcomes specs i o n (omega (arith, same)) l got read fits.1 h.outcomes;
      }

-- the last spec was seen
pub room-whole : (specs : List Numbered) (outcomes : List (List NamedState)) (tokens i : ℕ) → length outcomes ≡ length specs → length specs ≤ i → HasGlobRoom (take i specs) tokens (map names_of (take i outcomes)) → HasGlobRoom specs tokens (map names_of outcomes)
room-whole specs outcomes tokens i same l h =
    subst (λ os. HasGlobRoom specs tokens (map names_of os)) (take_all i outcomes (omega (arith, same)))
    (subst (λ ns. HasGlobRoom ns tokens (map names_of (take i outcomes))) (take_all i specs l) h)
