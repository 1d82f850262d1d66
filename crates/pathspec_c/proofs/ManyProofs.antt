-- Answers that are written one after the other.
use Rattle.std.proofs.Common.{◌≡◌, ℕ, suc, ◌+◌, ◌≤◌, Bool, true, false, not, ◌||◌, ◌⊎◌, inl, inr, refl, sym, ◌∙◌, ap, subst, List, [], ◌∷◌, ◌++◌, length, take, drop, get_or, arith, Option, Some, None, length-append, append_assoc}
use Rattle.std.proofs.lemmas.Bool.{cases_lt, false≢true}
use Rattle.std.proofs.lemmas.List.{take-append-le, take_all, drop_all, set_past, length-take-le, map-append}
use Rattle.std.proofs.lemmas.List.Elements.{AllZip-push}
use Rattle.std.proofs.Math.Seq.{set-append_seam, drop-cons}
use Rattle.std.specs.List.{slice_set}
use Rattle.std.specs.Option.{IsSomeAnd}
use Rattle.pathspec_c.specs.Calls.{texts_in}
use Rattle.pathspec_c.specs.Many.{LosesNone, answer_to, answers_to}
use Rattle.pathspec_c.specs.Searchers.{SearcherContents, GivenAttributes, KeepsGiven, KeepsSearcher, has_attributes, table_in}
use Rattle.pathspec_c.specs.Searchers.GivenAttributes.{NoneGiven, RowsGiven, FilesGiven}
use Rattle.pathspec_c.specs.Texts.{copied}

-- ---- bytes at the front of room

-- one byte more
pub copied-push : (given room : List ℕ) (b : ℕ) → slice_set (copied given room) (length given) b ≡ copied (given ++ b ∷ []) room
copied-push given room b =
    let long : length (given ++ b ∷ []) ≡ suc (length given) = omega (arith, length-append given (b ∷ [])) in
    elim (cases_lt (length given) (length room)) [
      | inl short ↦
          let before : take (length room) given ≡ given = take_all (length room) given (omega (arith, short)) in
          let after : take (length room) (given ++ b ∷ []) ≡ given ++ b ∷ [] = take_all (length room) (given ++ b ∷ []) (omega (arith, short, long)) in
          ap (λ xs. slice_set (xs ++ drop (length given) room) (length given) b) before
          ∙ (ap (λ ys. slice_set (given ++ ys) (length given) b) (drop-cons room (length given) 0 short)
          ∙ (set-append_seam given (get_or room (length given) 0) (drop (suc (length given)) room) b
          ∙ (sym (append_assoc given (b ∷ []) (drop (suc (length given)) room))
          ∙ sym (ap (λ xs. xs ++ drop (length (given ++ b ∷ [])) room) after ∙ ap (λ n. (given ++ b ∷ []) ++ drop n room) long))))
      | inr past ↦
          let none : drop (length given) room ≡ [] = drop_all (length given) room past in
          let after : drop (length (given ++ b ∷ [])) room ≡ [] = drop_all (length (given ++ b ∷ [])) room (omega (arith, past, long)) in
          let size : length (copied given room) ≤ length given = omega (arith, length-append (take (length room) given) (drop (length given) room), length-take-le (length room) given past, ap length none, past) in
          set_past (copied given room) (length given) b size
          ∙ (ap (λ ys. take (length room) given ++ ys) none
          ∙ sym (ap (λ xs. xs ++ drop (length (given ++ b ∷ [])) room) (take-append-le (length room) given (b ∷ []) past) ∙ ap (λ ys. take (length room) given ++ ys) after))
    ]

-- ---- a handle that keeps what it holds

-- attributes that are kept once and again
given-same : (a : GivenAttributes) → KeepsGiven a a
given-same NoneGiven = refl
given-same (RowsGiven rows) = (rows, refl, refl)
given-same (FilesGiven files) = refl

given-on : (a b c : GivenAttributes) → KeepsGiven a b → KeepsGiven b c → KeepsGiven a c
given-on NoneGiven b c k l = subst (λ x. KeepsGiven x c) k l
given-on (RowsGiven rows) b c k l = let m = subst (λ x. KeepsGiven x c) k.1 l in (m.0, m.1, m.2 ∙ k.2)
given-on (FilesGiven files) b c k l = subst (λ x. KeepsGiven x c) k l

-- answer as before
given-table : (a b : GivenAttributes) → KeepsGiven a b → table_in b ≡ table_in a
given-table NoneGiven b k = ap table_in k
given-table (RowsGiven rows) b k = ap table_in k.1 ∙ k.2
given-table (FilesGiven files) b k = ap table_in k

given-some : (a b : GivenAttributes) → KeepsGiven a b → has_attributes b ≡ has_attributes a
given-some NoneGiven b k = ap has_attributes k
given-some (RowsGiven rows) b k = ap has_attributes k.1
given-some (FilesGiven files) b k = ap has_attributes k

pub keeps-same : (a : Option SearcherContents) → KeepsSearcher a a
keeps-same None = refl
keeps-same (Some a) = record { specs = refl; attributes = given-same a.attributes }

pub keeps-on : (a b c : Option SearcherContents) → KeepsSearcher a b → KeepsSearcher b c → KeepsSearcher a c
keeps-on None b c k l = subst (λ x. KeepsSearcher x c) k l
keeps-on (Some a) None c k l = absurd k
keeps-on (Some a) (Some b) None k l = absurd l
keeps-on (Some a) (Some b) (Some c) k l = record { specs = l.specs ∙ k.specs; attributes = given-on a.attributes b.attributes c.attributes k.attributes l.attributes }

pub keeps-answer : (a b : Option SearcherContents) → KeepsSearcher a b → (text : List ℕ) → answer_to b text ≡ answer_to a text
keeps-answer None b k text = rw k refl
keeps-answer (Some a) None k text = absurd k
keeps-answer (Some a) (Some b) k text = rw (k.specs, given-table a.attributes b.attributes k.attributes) refl

pub keeps-given : (a b : Option SearcherContents) → KeepsSearcher a b → IsSomeAnd b (λ searcher. has_attributes searcher.attributes ≡ true) → IsSomeAnd a (λ searcher. has_attributes searcher.attributes ≡ true)
keeps-given None b k h = subst (λ x. IsSomeAnd x (λ searcher. has_attributes searcher.attributes ≡ true)) k h
keeps-given (Some a) None k h = absurd k
keeps-given (Some a) (Some b) k h = sym (given-some a.attributes b.attributes k.attributes) ∙ h

-- ---- answers

-- The answers to the texts before the rest are at the front of the room. Where memory ran out, some may be 1.
pub record Answered (held : Option SearcherContents) (texts : List (List ℕ)) (room rest : List ℕ) (number : ℕ) (failed : Bool) (now : List ℕ) : Type 0 where
  pub before : List (List ℕ)
  pub given : List ℕ
  pub whole : texts ≡ before ++ texts_in rest
  pub count : number ≡ length before
  pub long : length given ≡ length before
  pub written : now ≡ copied given room
  pub none : LosesNone (answers_to held before) given
  pub known : failed ≡ false → given ≡ answers_to held before

-- before the first
pub answered-none : (held : Option SearcherContents) (rest room : List ℕ) → Answered held (texts_in rest) room rest 0 false room
answered-none held rest room = record { before = []; given = []; whole = refl; count = refl; long = refl; written = sym (ap (λ xs. xs ++ room) (take_all (length room) [] (omega arith))); none = tt; known = λ f. refl }

-- one more, which is known or 1
answered-by : (held : Option SearcherContents) (texts : List (List ℕ)) (room rest : List ℕ) (number : ℕ) (failed : Bool) (now : List ℕ) → Answered held texts room rest number failed now
    → (text others : List ℕ) → texts_in rest ≡ text ∷ texts_in others
    → (b : ℕ) → (b ≡ answer_to held text) ⊎ (b ≡ 1) → (now_failed : Bool) → (now_failed ≡ false → (failed ≡ false) × (b ≡ answer_to held text))
    → Answered held texts room others (number + 1) now_failed (slice_set now number b)
answered-by held texts room rest number failed now a text others cut b good now_failed exact = record {
  before = a.before ++ text ∷ [];
  given = a.given ++ b ∷ [];
  whole = a.whole ∙ (ap (λ ts. a.before ++ ts) cut ∙ sym (append_assoc a.before (text ∷ []) (texts_in others)));
  count = omega (arith, a.count, length-append a.before (text ∷ []));
  long = omega (arith, a.long, length-append a.given (b ∷ []), length-append a.before (text ∷ []));
  written = ap (λ xs. slice_set xs number b) a.written ∙ (ap (λ n. slice_set (copied a.given room) n b) (a.count ∙ sym a.long) ∙ copied-push a.given room b);
  none = subst (λ ws. LosesNone ws (a.given ++ b ∷ [])) (sym (map-append (answer_to held) a.before (text ∷ []))) (AllZip-push (λ w g. (g ≡ w) ⊎ (g ≡ 1)) (answers_to held a.before) a.given (answer_to held text) b a.none good);
  known = λ f. ap (λ xs. xs ++ b ∷ []) (a.known (exact f).0) ∙ (ap (λ x. answers_to held a.before ++ x ∷ []) (exact f).1 ∙ sym (map-append (answer_to held) a.before (text ∷ [])));
}

or-not : (x y : Bool) → (x || not y) ≡ false → (x ≡ false) × (y ≡ true)
or-not false true h = (refl, refl)
or-not false false h = absurd (false≢true (sym h))
or-not true y h = absurd (false≢true (sym h))

pub answered-more : (held : Option SearcherContents) (texts : List (List ℕ)) (room rest : List ℕ) (number : ℕ) (failed : Bool) (now : List ℕ) → Answered held texts room rest number failed now
    → (text others : List ℕ) → texts_in rest ≡ text ∷ texts_in others
    → (known : Bool) (new : List ℕ) → (known ≡ true → new ≡ slice_set now number (answer_to held text)) → (known ≡ false → new ≡ slice_set now number 1)
    → Answered held texts room others (number + 1) (failed || not known) new
answered-more held texts room rest number failed now a text others cut true new k u =
    subst (Answered held texts room others (number + 1) (failed || not true)) (sym (k refl))
    (answered-by held texts room rest number failed now a text others cut (answer_to held text) (inl refl) (failed || not true) (λ f. ((or-not failed true f).0, refl)))
answered-more held texts room rest number failed now a text others cut false new k u =
    subst (Answered held texts room others (number + 1) (failed || not false)) (sym (u refl))
    (answered-by held texts room rest number failed now a text others cut 1 (inr refl) (failed || not false) (λ f. absurd (false≢true (or-not failed false f).1)))
