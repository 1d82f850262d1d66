-- Rows on paths.
use Rattle.std.proofs.Common.{◌≡◌, true, false, refl, [], ◌∷◌, map}
use Rattle.std.specs.Prelude.{codes}
use Rattle.pathspec_parts.specs.Paths.{components, is_at_or_below, is_clean_prefix}

components_of : components (codes "/a//./b/../") ≡ ((codes "a") ∷ (codes "b") ∷ (codes "..") ∷ [])
components_of = refl

below : is_at_or_below (codes "dir/a") (codes "dir") ≡ true
below = refl

not_below : is_at_or_below (codes "dirt") (codes "dir") ≡ false
not_below = refl

clean_prefixes : map is_clean_prefix ([] ∷ codes "a/b" ∷ []) ≡ (true ∷ true ∷ [])
clean_prefixes = refl

other_prefixes : map is_clean_prefix (codes "../a" ∷ codes "a//" ∷ codes "a/" ∷ codes ".." ∷ codes "/a" ∷ codes "." ∷ []) ≡ (false ∷ false ∷ false ∷ false ∷ false ∷ false ∷ [])
other_prefixes = refl
