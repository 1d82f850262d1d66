-- The places whose heads begin a text, from groups back to the list that they were made from.
use Rattle.std.proofs.Common.{◌≡◌, ℕ, ◌<◌, true, false, sym, ◌∙◌, subst, List, length, Option, None, refl}
use Rattle.pathspec_glob.specs.Bytes.{begins_with}
use Rattle.pathspec_heads.specs.Heads.{head_at, IsLastFront, IsChainOf}
use Rattle.pathspec_heads.specs.Groups.{IsGrouped, IsInChain, IsLeastFrom}
use Rattle.pathspec_heads.proofs.NextProofs.{next-map}

-- the place has a head that begins the text
abbrev pub IsCandidate : List (List ℕ) → List ℕ → ℕ → Type 0
IsCandidate texts text p = (p < length texts) × (begins_with text (head_at texts p) ≡ true)

module _ (texts heads : List (List ℕ)) (starts order : List ℕ) (g : IsGrouped texts heads starts order) (text : List ℕ) where
  pub candidates-next : (j from : ℕ) (next : Option ℕ) → IsChainOf heads text j → IsLeastFrom (IsInChain heads starts order j) from next → IsLeastFrom (IsCandidate texts text) from next
  candidates-next j from next chain n = next-map (IsInChain heads starts order j) (IsCandidate texts text) from next
      (λ p c.
      let m = g.meant c.0 p c.1 c.3 in
      (m.0, subst (λ h. begins_with text h ≡ true) m.1 (chain c.0 c.1 ∙ c.2)))
      (λ p c.
      let f = g.listed p c.0 in
      (f.0, f.1, sym (chain f.0 f.1) ∙ subst (λ h. begins_with text h ≡ true) (sym f.2) c.1, f.3))
      n

  pub no-candidates : IsLastFront heads (length heads) text None → (p : ℕ) → p < length texts → begins_with text (head_at texts p) ≡ false
  no-candidates last p l = let f = g.listed p l in subst (λ h. begins_with text h ≡ false) f.2 (last.none refl f.0 f.1)
