-- How a match begins, and what it knows as it goes on.
use Rattle.std.proofs.Common.{◌≡◌, ℕ, zero, suc, ◌+◌, ◌^◌, ◌<◌, ◌≤◌, Bool, true, refl, sym, subst, arith, List, length, Option, Some, None, Result, Ok, Err, IfOk}
use Rattle.std.specs.Prelude.{is_some, IfSome}
use Rattle.std.proofs.Math.Pow.{pow-lt}
use Rattle.std.proofs.lemmas.List.{length-map}
use Rattle.std.proofs.lemmas.List.Elements.{All-weaker}
use Rattle.pathspec_heads.specs.Groups.{GroupedPlaces, IsGrouped}
use Rattle.pathspec_heads.specs.Heads.{IsChainOf, IsLastFront}
use Rattle.gix_pathspec.specs.Attributes.{Table}
use Rattle.gix_pathspec.specs.declared.by_head.Candidates.{Candidates}
use Rattle.gix_pathspec.specs.declared.search.MatchKind.{MatchKind}
use Rattle.gix_pathspec.specs.declared.by_head.head_set.HeadSet.{HeadSet}
use Rattle.gix_pathspec.specs.Beside.{head_beside, ArePlacesBeside, IsUnbarred}
use Rattle.gix_pathspec.specs.Candidates.{AreBeside, AreCandidates, AreNext, KeepsSets}
use Rattle.gix_pathspec.specs.Found.{IsFirstFound}
use Rattle.gix_pathspec.specs.HeadSets.{IsLongestOf, IsNextOf}
use Rattle.gix_pathspec.specs.Search.{Numbered}
use Rattle.gix_pathspec.specs.SetSources.{all_sources}
use Rattle.std.specs.Box.{box_value}
use Rattle.std.specs.Global.{Box}
use Rattle.std.specs.Option.{option_map, ForSome}
use Rattle.gix_pathspec.specs.declared.search.members.Members.{Members}
use Rattle.gix_pathspec.specs.Members.{AreMembersOf}

-- the heads by which specs are looked for, and the longest of them that begins the path
pub beside-heads : (specs : List Numbered) (path : List ℕ) (places : GroupedPlaces) (head : Option ℕ) (is_set_asked : Bool) → ArePlacesBeside is_set_asked specs places
    → IsLastFront places.heads (length places.heads) path head → IfSome head (IsChainOf places.heads path) → (is_set_asked ≡ true → IsUnbarred specs path) → AreBeside specs path places head is_set_asked
beside-heads specs path places head is_set_asked grouped last chain plain = record {
  grouped = grouped;
  chain = λ j e. ((last.begins j e).0, subst (λ o. IfSome o (IsChainOf places.heads path)) e chain);
  none = λ e k l. last.none e k l;
  plain = plain;
}

-- the heads of texts, and the longest of them that begins the path
pub longest-of : (texts : List (List ℕ)) (path : List ℕ) (places : GroupedPlaces) (head : Option ℕ) → IsGrouped texts places.heads places.starts places.order
    → IsLastFront places.heads (length places.heads) path head → IfSome head (IsChainOf places.heads path) → IsLongestOf texts path places head
longest-of texts path places head grouped last chain = record {
  grouped = grouped;
  chain = λ j e. ((last.begins j e).0, subst (λ o. IfSome o (IsChainOf places.heads path)) e chain);
  none = λ e k l. last.none e k l;
}

-- it is one of them
pub longest-within : (texts : List (List ℕ)) (path : List ℕ) (places : GroupedPlaces) (head : Option ℕ) → IsLongestOf texts path places head → IfSome head (λ j. j < length places.heads)
longest-within texts path places None is = tt
longest-within texts path places (Some j) is = (is.chain j refl).0

-- few heads are compared, and without a head none
pub few-compared : (texts heads : List (List ℕ)) (compared : ℕ) → length heads ≤ length texts → ((b : ℕ) → length heads < 2 ^ b → compared ≤ b + 2) → (length heads ≡ 0 → compared ≡ 0)
    → (compared ≤ length texts + 2) × (length texts ≡ 0 → compared ≡ 0)
few-compared texts heads compared few cost none = (cost (length texts) (omega (arith, few, below (length texts))), λ e. none (omega (arith, few, e)))
  where
    below : (n : ℕ) → n < 2 ^ n
    below zero = omega arith
    below (suc n) =
        let more : 2 ^ n < 2 ^ suc n = pow-lt (omega arith) in
        omega (arith, below n, more)

-- the longest head that begins the path is one of them
pub head-within : (specs : List Numbered) (path : List ℕ) (grouped : GroupedPlaces) (head : Option ℕ) (is_set_asked : Bool) → AreBeside specs path grouped head is_set_asked → IfSome head (λ j. j < length grouped.heads)
head-within specs path grouped None is_set_asked are = tt
head-within specs path grouped (Some j) is_set_asked are = (are.chain j refl).0

-- where a spec is found, there is a head, and so one was compared
pub found-looked : {F : Type 0} (table : Table) (specs : List Numbered) (path : List ℕ) (is_dir : Bool) (places : GroupedPlaces) (is_set_asked : Bool) (tested compared : ℕ) (result : Result (Option (ℕ × MatchKind)) F)
    → ArePlacesBeside is_set_asked specs places → (0 < length places.heads → 1 ≤ compared) → IfOk result (IsFirstFound table specs path is_dir) → IfOk result (λ found. is_some found ≡ true → 1 ≤ tested)
    → IfOk result (λ found. is_some found ≡ true → (1 ≤ tested) × (1 ≤ compared))
found-looked table specs path is_dir places is_set_asked tested compared (Err fault) grouped asked first looked = tt
found-looked table specs path is_dir places is_set_asked tested compared (Ok None) grouped asked first looked = λ e. cc
found-looked table specs path is_dir places is_set_asked tested compared (Ok (Some found)) grouped asked first looked = λ e.
    let there = grouped.listed found.0 (omega (arith, first.within, length-map specs (λ (n : Numbered). head_beside is_set_asked (all_sources specs) n.spec))) in
    (looked e, asked (omega (arith, there.1)))

-- the candidates of the bytes of a path
pub candidates-of : (specs : List Numbered) (bytes path : List ℕ) (candidates : Candidates) (sets : List HeadSet) → bytes ≡ path → AreCandidates specs bytes candidates sets → AreCandidates specs path candidates sets
candidates-of specs bytes path candidates sets same are = subst (λ t. AreCandidates specs t candidates sets) same are

-- ---- as a match goes on

pub kept-candidates : (specs : List Numbered) (path : List ℕ) (candidates : Candidates) (a b : List HeadSet) → KeepsSets a b → AreCandidates specs path candidates a → AreCandidates specs path candidates b
kept-candidates specs path candidates a b kept h = record {
  beside = h.beside;
  are = h.are;
  own = kept.own (all_sources specs) h.own;
  begun = λ e. subst (λ hs. IsLongestOf hs path candidates.set_heads.now candidates.set_head) (sym kept.heads) (h.begun e);
}

-- what is known of the next members stays so further on
pub next-on : (specs : List Numbered) (path : List ℕ) (candidates : Candidates) (sets : List HeadSet) (from further : ℕ) → from ≤ further → AreNext specs path candidates sets from → AreNext specs path candidates sets further
next-on specs path candidates sets from further low next = λ e. All-weaker (IsNextOf specs path from) (IsNextOf specs path further) one sets (next e)
  where
    one : (set : HeadSet) → IsNextOf specs path from set → IsNextOf specs path further set
    one set n = record { are = n.are; read = n.read; ahead = λ k m less at is. n.ahead k m less (omega (arith, low, at)) is; hit = n.hit }

-- ---- the members of a search

-- members in a box are members of the specs
pub boxed-members : (specs : List Numbered) (members : Option (Box Members)) → ForSome members (λ set. AreMembersOf specs (box_value set)) → ForSome (option_map box_value members) (AreMembersOf specs)
boxed-members specs None are m e = cc
boxed-members specs (Some boxed) are m e =
    let same : box_value boxed ≡ m = cc in
    subst (AreMembersOf specs) same (are boxed refl)

pub boxed-some : (members : Option (Box Members)) → is_some (option_map box_value members) ≡ is_some members
boxed-some None = refl
boxed-some (Some boxed) = refl
