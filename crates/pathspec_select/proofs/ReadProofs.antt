-- A listing that is read record by record.
use Rattle.std.proofs.Common.{◌≡◌, ℕ, ◌+◌, ◌-◌, ◌<◌, ◌≤◌, Bool, true, false, cond, refl, sym, ◌∙◌, ap, subst, List, [], ◌∷◌, ◌++◌, length, take, drop, fold, ◌==◌, arith, append_assoc, Some, None}
use Rattle.std.proofs.lemmas.Bool.{or_parts}
use Rattle.std.proofs.lemmas.Bool.Decides.{nat_tests}
use Rattle.std.proofs.lemmas.List.{append-nil, take-append-drop, length-append, length-drop}
use Rattle.std.proofs.lemmas.List.Elements.{All-nil}
use Rattle.std.proofs.lemmas.List.Folds.{list_any-append}
use Rattle.std.proofs.lemmas.List.Sums.{fold-append}
use Rattle.std.proofs.Math.Seq.{drop-append_seam}
use Rattle.std.specs.List.{before_first, after_first, position_from, position_or_len}
use Rattle.pathspec_select.specs.declared.listing.entries.RecordError.{RecordError}
use Rattle.pathspec_select.specs.declared.listing.entries.RecordError.TheVariants.{EmptyName, Memory}
use Rattle.pathspec_parts.specs.Bytes.{is_empty}
use Rattle.pathspec_parts.specs.Trees.{TreeContents, tree_after, tree_of_calls}
use Rattle.pathspec_parts.proofs.TreeProofs.{tree_has_entries}
use Rattle.pathspec_parts.specs.Records.{records, first_bad, is_bad, record_is_dir, record_names, parent_names, open_after, record_calls, calls_from, directory_names, has_empty_name}
use Rattle.pathspec_select.specs.Listing.{marks_of_record, marks_from, ListingContents, listing_of}
use Rattle.pathspec_parts.specs.RecordParts.{IsFreeOf}
use Rattle.pathspec_select.specs.ListingAnswers.{RefusesNames, RefusesRecords, refusal_of}
use Rattle.pathspec_select.specs.Outlines.{OutlineContents, empty_outline, record_from, listing_of_outline, HasOpen, KeepsListing, IsRecordAt}
use Rattle.pathspec_parts.proofs.RecordProofs.{records-first, has_empty_name-record}
use Rattle.pathspec_select.proofs.AddingProofs.{no_name}

-- what has been read before the rest
pub record IsReadUpTo (bytes : List ℕ) (separator : ℕ) (rest directory : List ℕ) (outline : OutlineContents) (number : ℕ) : Type 0 where
  pub front : List ℕ
  pub whole : bytes ≡ front ++ rest
  pub counted : number + length rest ≤ length bytes
  pub bytes_are : outline.bytes ≡ bytes
  pub separator_is : outline.separator ≡ separator
  pub here : HasOpen outline.tree directory
  pub named : has_empty_name (directory_names directory) ≡ false
  pub free : IsFreeOf separator directory
  pub calls_are : fold tree_after outline.tree (calls_from (directory_names directory) (records separator rest)) ≡ tree_of_calls (calls_from [] (records separator bytes))
  pub marks_are : outline.marks ++ marks_from (directory_names directory) (records separator rest) ≡ marks_from [] (records separator bytes)
  pub found : position_from is_bad (number + 1) (records separator rest) ≡ first_bad (records separator bytes)

-- nothing has been read
pub read_none : (bytes : List ℕ) (separator : ℕ) (directory : List ℕ) (outline : OutlineContents) → directory ≡ [] → outline ≡ empty_outline bytes separator → IsReadUpTo bytes separator bytes directory outline 0
read_none bytes separator directory outline d o =
    let P : List ℕ → OutlineContents → Type 0 = λ d o. IsReadUpTo bytes separator bytes d o 0 in
    subst (λ x. P x outline) (sym d) (subst (λ (x : OutlineContents). P [] x) (sym o) (record {
      front = [];
      whole = refl;
      counted = omega arith;
      bytes_are = refl;
      separator_is = refl;
      here = record { names = refl; path = refl };
      named = refl;
      free = All-nil (λ b. (b == separator) ≡ false);
      calls_are = refl;
      marks_are = refl;
      found = refl;
    }))

-- ---- one more record

has_empty_name-take : (n : ℕ) (names : List (List ℕ)) → has_empty_name names ≡ false → has_empty_name (take n names) ≡ false
has_empty_name-take n names h = (or_parts (has_empty_name (take n names)) (has_empty_name (drop n names)) (sym (list_any-append is_empty (take n names) (drop n names)) ∙ (ap has_empty_name (take-append-drop n names) ∙ h))).0

named-after : (text : List ℕ) → has_empty_name (record_names text) ≡ false → has_empty_name (open_after text) ≡ false
named-after text h = by_kind (record_is_dir text)
  where
    by_kind : (b : Bool) → has_empty_name (cond b (record_names text) (parent_names text)) ≡ false
    by_kind true = h
    by_kind false = has_empty_name-take (length (record_names text) - 1) (record_names text) h

module _ (bytes : List ℕ) (separator : ℕ) (rest directory : List ℕ) (outline : OutlineContents) (number : ℕ) (read : IsReadUpTo bytes separator rest directory outline number)
    (text after : List ℕ) (some : (length rest == 0) ≡ false) (before : text ≡ before_first (λ b. b == separator) rest) (behind : after ≡ after_first (λ b. b == separator) rest) where
  abbrev names : List (List ℕ)
  names = directory_names directory

  records_are : records separator rest ≡ text ∷ records separator after
  records_are = records-first separator rest text after some before behind

  rest_some : 0 < length rest
  rest_some = grind (arith, nat_tests)

  -- the record begins where the rest does
  pub record_at : (start : ℕ) → start ≡ length bytes - length rest → IsRecordAt outline start text
  record_at start s =
      let long = length-append read.front rest in
      let all = ap length read.whole in
      let at : start ≡ length read.front = omega (arith, s, all, long) in
      let d : drop start bytes ≡ rest = ap (λ n. drop n bytes) at ∙ (ap (drop (length read.front)) read.whole ∙ drop-append_seam read.front rest) in
      before ∙ (ap (λ x. before_first (λ b. b == separator) x) (sym d) ∙ (ap (λ x. record_from separator x start) (sym read.bytes_are) ∙ ap (λ s. record_from s outline.bytes start) (sym read.separator_is)))

  -- a record that is good
  pub read_one : (now_open : List ℕ) (u : OutlineContents) (next : ℕ) → next ≡ number + 1 → KeepsListing outline u → HasOpen u.tree now_open
      → u.tree ≡ fold tree_after outline.tree (record_calls names text) → u.marks ≡ outline.marks ++ marks_of_record names text → directory_names now_open ≡ open_after text → IsFreeOf separator now_open → has_empty_name (record_names text) ≡ false
      → IsReadUpTo bytes separator after now_open u next
  read_one now_open u next k kept opens t m o f good =
      let p = position_or_len (λ b. b == separator) rest + 1 in
      let later = records separator after in
      let shorter : length after ≡ length rest - p = ap length behind ∙ length-drop p rest in
      let good_text : is_bad text ≡ false = sym (has_empty_name-record text) ∙ good in
      record {
        front = read.front ++ take p rest;
        whole = read.whole ∙ (ap (λ x. read.front ++ x) (sym (take-append-drop p rest) ∙ ap (λ x. take p rest ++ x) (sym behind)) ∙ sym (append_assoc read.front (take p rest) after));
        counted = omega (arith, k, shorter, rest_some, read.counted);
        bytes_are = kept.bytes ∙ read.bytes_are;
        separator_is = kept.separator ∙ read.separator_is;
        here = opens;
        named = ap has_empty_name o ∙ named-after text good;
        free = f;
        calls_are =
            ap (λ (x : TreeContents). fold tree_after x (calls_from (directory_names now_open) later)) t
            ∙ (ap (λ x. fold tree_after (fold tree_after outline.tree (record_calls names text)) (calls_from x later)) o
            ∙ (sym (fold-append tree_after outline.tree (record_calls names text) (calls_from (open_after text) later)) ∙ (sym (ap (λ x. fold tree_after outline.tree (calls_from names x)) records_are) ∙ read.calls_are)));
        marks_are =
            ap (λ x. x ++ marks_from (directory_names now_open) later) m
            ∙ (ap (λ x. (outline.marks ++ marks_of_record names text) ++ marks_from x later) o
            ∙ (append_assoc outline.marks (marks_of_record names text) (marks_from (open_after text) later) ∙ (sym (ap (λ x. outline.marks ++ marks_from names x) records_are) ∙ read.marks_are)));
        found =
            ap (λ j. position_from is_bad (j + 1) later) k
            ∙ (sym (ap (position_from is_bad (number + 1)) records_are ∙ ap (λ b. cond b (Some (number + 1)) (position_from is_bad ((number + 1) + 1) later)) good_text) ∙ read.found);
      }

  -- one that is refused
  pub read_refused : (e : RecordError) (next : ℕ) → next ≡ number + 1 → RefusesNames (record_names text) e → RefusesRecords (records separator bytes) (refusal_of e next)
  read_refused EmptyName next k h =
      let bad : is_bad text ≡ true = sym (has_empty_name-record text) ∙ h in
      sym read.found ∙ (ap (position_from is_bad (number + 1)) records_are ∙ (ap (λ b. cond b (Some (number + 1)) (position_from is_bad ((number + 1) + 1) (records separator after))) bad ∙ ap Some (sym k)))
  read_refused Memory next k h = tt

-- ---- all records

-- what is read in the end
pub read_all : (bytes : List ℕ) (separator : ℕ) (rest directory : List ℕ) (outline : OutlineContents) (number : ℕ) → IsReadUpTo bytes separator rest directory outline number → (length rest == 0) ≡ true
    → (listing_of_outline outline ≡ listing_of (records separator bytes)) × (first_bad (records separator bytes) ≡ None)
read_all bytes separator rest directory outline number read end =
    let none = no_name rest end in
    let rs = records separator bytes in
    let es : outline.tree.entries ≡ (listing_of rs).entries =
    ap (λ (t : TreeContents). t.entries) (ap (λ x. fold tree_after outline.tree (calls_from (directory_names directory) (records separator x))) (sym none) ∙ read.calls_are) ∙ tree_has_entries (calls_from [] rs) in
    let ms : outline.marks ≡ (listing_of rs).marks = sym (append-nil outline.marks) ∙ (ap (λ x. outline.marks ++ marks_from (directory_names directory) (records separator x)) (sym none) ∙ read.marks_are) in (
      ap (λ x. let l : ListingContents = record { entries = x; marks = outline.marks } in l) es ∙ ap (λ x. let l : ListingContents = record { entries = (listing_of rs).entries; marks = x } in l) ms,
      sym (ap (λ x. position_from is_bad (number + 1) (records separator x)) (sym none) ∙ read.found),
    )
