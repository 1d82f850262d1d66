-- What a set of globs says of a text.
use Rattle.std.proofs.Common.{◌≡◌, ℕ, ◌<◌, ◌≤◌, Bool, true, false, refl, sym, ◌∙◌, ap, subst, arith, inl, inr, List, [], length, get_or, Option, Some, None, IfSome}
use Rattle.std.proofs.lemmas.Bool.{true≢false, cases_lt}
use Rattle.pathspec_glob_set.specs.declared.table.moves.Moves.{Moves}
use Rattle.pathspec_glob_set.specs.declared.member.Member.{Member}
use Rattle.pathspec_glob_set.specs.declared.set.GlobSet.{GlobSet}
use Rattle.pathspec_glob_set.specs.declared.table.Lead.{Lead}
use Rattle.pathspec_glob_set.specs.declared.table.Lead.TheVariants.{Row, Nowhere, Unknown}
use Rattle.pathspec_glob_set.specs.Moves.{AreAlike, LeadsNowhere, LeadsTo}
use Rattle.pathspec_glob_set.specs.Sizes.{row_at, IsFirst}
use Rattle.pathspec_glob_set.specs.Sets.{member_matches, AreEnds, AreMovesOf, IsAt, IsColumn}
use Rattle.pathspec_glob_set.specs.Meanings.{is_over_before, is_wide_before, may_cut, stands, takes_before}
use Rattle.pathspec_glob_set.specs.Answers.{IsFound, IsMatch, LeavesOutNone, MemberMatches, NoneCuts}
use Rattle.pathspec_glob.proofs.GlobProofs.{glob_is_relation}
use Rattle.pathspec_glob_set.specs.Tables.{is_unknown, IsKnown}
use Rattle.pathspec_glob.specs.BitVecs.{holds}
use Rattle.pathspec_glob_set.proofs.CutProofs.{free-or, says-matches, settled-cuts, settled-matches, IsFirstSettled}

-- moves that are the same are those of the same globs
pub alike-moves : (globs : List Member) (some others : Moves) → AreAlike some others → AreMovesOf globs others → AreMovesOf globs some
alike-moves globs some others alike are =
    let ends = sym alike.ends in
    record {
      ends = subst (AreEnds globs) ends are.ends;
      places = ap length alike.wide ∙ are.places;
      wide = subst (λ e. IsColumn globs e (λ glob i. is_wide_before glob.tokens i) some.wide) ends (subst (λ w. IsColumn globs others.ends.items (λ glob i. is_wide_before glob.tokens i) w) (sym alike.wide) are.wide);
      over = subst (λ e. IsColumn globs e (λ glob i. is_over_before glob.tokens i) some.over) ends (subst (λ w. IsColumn globs others.ends.items (λ glob i. is_over_before glob.tokens i) w) (sym alike.over) are.over);
      takes = λ b fits. subst (λ e. IsColumn globs e (λ glob i. takes_before glob.tokens glob.case i b) (row_at some.takes.items (get_or some.classes b 0))) ends
          (subst (λ t. IsColumn globs others.ends.items (λ glob i. takes_before glob.tokens glob.case i b) (row_at t (get_or some.classes b 0))) (sym alike.takes)
          (subst (λ k. IsColumn globs others.ends.items (λ glob i. takes_before glob.tokens glob.case i b) (row_at others.takes.items (get_or k b 0))) (sym alike.classes) (are.takes b fits)));
      cuts = subst (λ e. IsColumn globs e may_cut some.cuts) ends (subst (λ w. IsColumn globs others.ends.items may_cut w) (sym alike.cuts) are.cuts);
      start = subst (λ e. IsColumn globs e (λ glob i. stands glob.tokens glob.case i []) some.start) ends (subst (λ w. IsColumn globs others.ends.items (λ glob i. stands glob.tokens glob.case i []) w) (sym alike.start) are.start);
    }

-- ---- by the relation of all globs

matches-true : (glob : Member) (text : List ℕ) → MemberMatches glob text → member_matches glob text ≡ true
matches-true glob text matched = (glob_is_relation glob.tokens.mode glob.case glob.tokens.tokens text).1 matched

true-matches : (glob : Member) (text : List ℕ) → member_matches glob text ≡ true → MemberMatches glob text
true-matches glob text e = (glob_is_relation glob.tokens.mode glob.case glob.tokens.tokens text).0 e

-- ---- what is found

-- no glob is settled before what is found in the row that a text leads to, where none before the number cuts
none-settled : (globs : List Member) (moves : Moves) → AreMovesOf globs moves → (text : List ℕ) (row : List Bool) → LeadsTo moves text row → (from found : ℕ) → NoneCuts globs text from
    → ((c : ℕ) → from ≤ c → c < found → holds row (get_or moves.ends.items c 0) ≡ false)
    → (g c : ℕ) (cutter : Member) → IsFirstSettled globs text g c cutter → g ≤ found → ⊥
none-settled globs moves are text row leads from found cutless none g c cutter is low = elim (cases_lt c from) [
  | inl l ↦ cutless c cutter l is.at (settled-cuts cutter text is.settled) (true-matches cutter text (settled-matches cutter text is.settled))
  | inr n ↦
      true≢false (sym (settled-matches cutter text is.settled) ∙ sym (says-matches globs moves are text row leads c cutter is.at is.free) ∙ none c n (omega (arith, is.less, low)))
]

-- what the row says of a glob that comes no later than what is found
row-says : (globs : List Member) (moves : Moves) → AreMovesOf globs moves → (text : List ℕ) (row : List Bool) → LeadsTo moves text row → (from found : ℕ) → NoneCuts globs text from
    → ((c : ℕ) → from ≤ c → c < found → holds row (get_or moves.ends.items c 0) ≡ false)
    → (g : ℕ) (glob : Member) → IsAt globs g glob → g ≤ found → member_matches glob text ≡ holds row (get_or moves.ends.items g 0)
row-says globs moves are text row leads from found cutless none g glob at low = elim (free-or globs text glob g) [
  | inl free ↦ sym (says-matches globs moves are text row leads g glob at free)
  | inr is ↦ absurd (none-settled globs moves are text row leads from found cutless none g is.0 is.1.0 is.1.1 low)
]

-- what is found in the row that a text leads to
pub found-in-row : (set : GlobSet) (moves : Moves) (text : List ℕ) (row : List Bool) (from found : ℕ) (lead : Lead) → AreAlike moves set.moves → LeadsTo moves text row
    → IsFirst moves.ends.items row from found → IsFound set text from lead found
found-in-row set moves text row from found lead alike leads first = record {
  behind = first.behind;
  within = subst (λ e. found ≤ length e) alike.ends first.within;
  none = λ globs are cutless g glob at after before.
      row-says globs moves (alike-moves globs moves set.moves alike are) text row leads from found cutless first.none g glob at (omega (arith, before)) ∙ first.none g after before;
  match_there = λ known globs are cutless glob at.
      let mine = alike-moves globs moves set.moves alike are in
      row-says globs moves mine text row leads from found cutless first.none found glob at (omega arith) ∙ first.stands (omega (arith, at.within, mine.ends.len));
}

-- where a text leads to no place, nothing is found
pub found-nowhere : (set : GlobSet) (moves : Moves) (text : List ℕ) (from : ℕ) (lead : Lead) → AreAlike moves set.moves → LeadsNowhere moves text → from ≤ length set.moves.ends.items
    → IsFound set text from lead (length set.moves.ends.items)
found-nowhere set moves text from lead alike nowhere low = record {
  behind = low;
  within = omega arith;
  none = λ globs are cutless g glob at after before.
      row-says globs moves (alike-moves globs moves set.moves alike are) text nowhere.0 nowhere.1.0 from (length set.moves.ends.items) cutless
      (λ c low less. nowhere.1.1 (get_or moves.ends.items c 0)) g glob at (omega (arith, before))
      ∙ nowhere.1.1 (get_or moves.ends.items g 0);
  match_there = λ known globs are cutless glob at. absurd (let no : ⊥ = omega (arith, at.within, are.ends.len) in no);
}

-- where a walk gave up, nothing is left out
pub found-unknown : (set : GlobSet) (text : List ℕ) (from : ℕ) → from ≤ length set.moves.ends.items → IsFound set text from Unknown from
found-unknown set text from low = record {
  behind = omega arith;
  within = low;
  none = λ globs are cutless g glob at after before. absurd (let no : ⊥ = omega (arith, after, before) in no);
  match_there = λ known. absurd known;
}

-- no glob that matches comes before what was found
pub left-none : (set : GlobSet) (text : List ℕ) (from : ℕ) (lead : Lead) (found : ℕ) → IsFound set text from lead found → LeavesOutNone set text from (Some found)
left-none set text from lead found is globs are cutless g glob at after matched = elim (cases_lt g found) [
  | inl l ↦ absurd (true≢false (sym (matches-true glob text matched) ∙ is.none globs are cutless g glob at after l))
  | inr n ↦ n
]

-- where nothing is found, no glob matches
pub left-all : (set : GlobSet) (text : List ℕ) (from : ℕ) (lead : Lead) (found : ℕ) → IsFound set text from lead found → length set.moves.ends.items ≤ found → LeavesOutNone set text from None
left-all set text from lead found is none globs are cutless g glob at after matched =
    true≢false (sym (matches-true glob text matched) ∙ is.none globs are cutless g glob at after (omega (arith, none, at.within, are.ends.len)))

-- what is found matches, unless the search gave up
pub found-matches : (set : GlobSet) (text : List ℕ) (from : ℕ) (lead : Lead) (found : ℕ) (gave_up : Bool) → IsFound set text from lead found → gave_up ≡ is_unknown lead → IsMatch set text from gave_up found
found-matches set text from lead found gave_up is e went_on globs are cutless glob at = true-matches glob text (is.match_there (known lead (sym e ∙ went_on)) globs are cutless glob at)
  where
    known : (l : Lead) → is_unknown l ≡ false → IsKnown l
    known (Row r) h = tt
    known Nowhere h = tt
    known Unknown h = absurd (true≢false h)

-- ---- of a set whose moves are the same

-- what is left out of one is left out of the other
pub left-alike : (some others : GlobSet) (text : List ℕ) (from : ℕ) (found : Option ℕ) → AreAlike some.moves others.moves → LeavesOutNone some text from found → LeavesOutNone others text from found
left-alike some others text from found alike left globs are = left globs (alike-moves globs some.moves others.moves alike are)

-- what matches by one matches by the other
pub match-alike : (some others : GlobSet) (text : List ℕ) (from : ℕ) (gave_up : Bool) (found : ℕ) → AreAlike some.moves others.moves → IsMatch some text from gave_up found → IsMatch others text from gave_up found
match-alike some others text from gave_up found alike is went_on globs are = is went_on globs (alike-moves globs some.moves others.moves alike are)

pub some-match-alike : (some others : GlobSet) (text : List ℕ) (from : ℕ) (gave_up later : Bool) (found : Option ℕ) → AreAlike some.moves others.moves → later ≡ gave_up
    → IfSome found (IsMatch some text from gave_up) → IfSome found (IsMatch others text from later)
some-match-alike some others text from gave_up later None alike e is = is
some-match-alike some others text from gave_up later (Some number) alike e is = λ went_on. match-alike some others text from gave_up number alike is (sym e ∙ went_on)

-- moves are those that they are
pub alike-self : (moves : Moves) → AreAlike moves moves
alike-self moves = record { wide = refl; over = refl; cuts = refl; start = refl; classes = refl; takes = refl; ends = refl }
