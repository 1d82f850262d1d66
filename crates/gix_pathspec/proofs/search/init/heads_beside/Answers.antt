-- A spec more gives its head.
use Rattle.std.proofs.Common.{◌≡◌, ◌∙◌, ◌+◌, ◌<◌, ℕ, List, [], ◌∷◌, ◌++◌, length, map, take, get_or, sym, ap, true}
use Rattle.std.proofs.lemmas.List.{map-append, take_all, take_more}
use Rattle.gix_pathspec.specs.Beside.{head_beside}
use Rattle.gix_pathspec.specs.Search.{Numbered}
use Rattle.gix_pathspec.proofs.search.init.heads_beside.Goals as goal

one-more : {X : Type 0} (f : Numbered → List ℕ) (g : X → List ℕ) (specs : List Numbered) (i : ℕ) (n : Numbered) (x : X) (old new : List X) → i < length specs → n ≡ get_or specs i n
    → new ≡ old ++ x ∷ [] → g x ≡ f n → map g old ≡ map f (take i specs) → map g new ≡ map f (take (i + 1) specs)
one-more f g specs i n x old new l is more own so_far =
    let whole : take (i + 1) specs ≡ take i specs ++ n ∷ [] = take_more specs i n l ∙ ap (λ m. take i specs ++ m ∷ []) (sym is) in
    ap (map g) more ∙ map-append g old (x ∷ []) ∙ ap (λ hs. hs ++ g x ∷ []) so_far ∙ ap (λ h. map f (take i specs) ++ h ∷ []) own
    ∙ sym (map-append f (take i specs) (n ∷ [])) ∙ ap (map f) (sym whole)

pub loop-spec-preserved : goal.loop-spec-preserved
loop-spec-preserved c sources own =
    one-more (λ (n : Numbered). head_beside true sources n.spec) (λ head. head.items) c.args.specs.now c.loop-spec.spec-index c.spec-item.result c.in_ok-head_beside.field-0 c.loop-spec.heads.items _ c.loop-spec-test.true c.spec-item.is
    c.in_ok-push.ensures.items (c.in_ok-head_beside.ensures sources own) (c.loop-spec.invariant sources own)

pub returns : goal.returns
returns c sources own =
    c.loop-spec.invariant sources own ∙ ap (map (λ (n : Numbered). head_beside true sources n.spec)) (take_all c.loop-spec.spec-index c.args.specs.now c.loop-spec-test.false)
