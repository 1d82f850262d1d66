-- The directories that are open, by a path with a slash after each name.
use Rattle.std.proofs.Common.{◌≡◌, ◌≢◌, ℕ, zero, suc, ◌+◌, ◌-◌, ◌<◌, ◌≤◌, Bool, true, false, cond, refl, sym, ◌∙◌, ap, subst, inl, inr, List, [], ◌∷◌, ◌++◌, length, get_or, take, drop, map, fold, replicate, ◌==◌, arith, append_assoc, Some, None}
use Rattle.std.proofs.lemmas.Bool.{cases_Bool, cases_lt, eqb-true, eq-eqb, ne_eqb}
use Rattle.std.proofs.lemmas.List.{append-nil, map-append, length-map, length-append, length-drop, take-append-drop, take_at, take_rest, take-map, take_more, drop_all, take_all, drop-drop, drop-append-le, get_or-drop, get_or-take, length_push}
use Rattle.std.proofs.lemmas.List.Folds.{position_or_len_push}
use Rattle.std.proofs.lemmas.List.Splits.{length-slice_split, slice_split_none}
use Rattle.std.proofs.lemmas.List.Elements.{All-from_get_or}
use Rattle.std.proofs.lemmas.List.Sums.{fold-append, fails_before_first, passes_at_first, split_at_first, prefix_len-le-length, common_prefix_len-le}
use Rattle.std.proofs.Math.Seq.{take-append_seam, drop-append_seam, take-add, take-take}
use Rattle.std.specs.Prelude.{flat_map, All, bytes_eq, not}
use Rattle.std.specs.List.{onto_first, before_first, after_first, position_or_len}
use Rattle.pathspec_parts.specs.Bytes.{slash}
use Rattle.pathspec_parts.specs.Paths.{is_slash, pieces, ends_with_slash, without_last_slash}
use Rattle.pathspec_parts.specs.Entries.{OpenDirectory, names_of, own_call}
use Rattle.pathspec_parts.specs.Entries.Call.{Open, Close}
use Rattle.pathspec_parts.specs.Trees.{TreeContents, tree_after}
use Rattle.pathspec_parts.specs.TreeLayout.{path_above}
use Rattle.pathspec_parts.specs.Records.{record_path, record_names, parent_names, own_names, record_is_dir, shared_depth, implied_names, directory_calls, record_calls, directory_names}
use Rattle.pathspec_parts.specs.RecordParts.{IsClosed}
use Rattle.pathspec_select.specs.ListingAnswers.{IsRestOf}
use Rattle.pathspec_select.specs.Outlines.{OutlineContents, part, record_from, mark_of, record_length, IsRecordAt, last_of, last_name, HasOpen, LiesOpen, KeepsListing, BeginsRecord}
use Rattle.pathspec_parts.proofs.RecordProofs.{records-first, ends_with_slash-push, without_last_slash-push, take-less, take-common_prefix_len, last_cases}
use Rattle.pathspec_select.proofs.ListingProofs.{length-before_first}
use Rattle.pathspec_parts.proofs.NameProofs.{ClosedForm, empty, after_slash, to_form, names-closed, pieces-closed, directory_names-append}
use Rattle.pathspec_select.proofs.NameProofs.{directory_names-record}

-- ---- the rest of a path

pub rest_at : (path : List ℕ) (n : ℕ) → IsClosed (take n path) → IsRestOf path (take (length path - n) (drop n path))
rest_at path n closed = record {
  front = take n path;
  whole = sym (take-append-drop n path) ∙ ap (λ t. take n path ++ t) (sym (take_rest path n));
  closed = closed;
}

-- after one more name
pub rest_after : (path rest after : List ℕ) → IsClosed path → IsRestOf path rest → after ≡ after_first is_slash rest → IsRestOf path after
rest_after path rest after closed r e =
    let at = position_or_len is_slash rest in
    let within = prefix_len-le-length (λ x. not (is_slash x)) rest in
    elim (cases_lt at (length rest)) [
      | inl l ↦
          let here : get_or rest at 0 ≡ slash = eqb-true (get_or rest at 0) slash (passes_at_first is_slash rest 0 l) in
          let parts : rest ≡ before_first is_slash rest ++ (get_or rest at 0 ∷ after_first is_slash rest) = split_at_first is_slash rest 0 l in
          let front = r.front ++ (before_first is_slash rest ++ slash ∷ []) in
          let front_is : front ≡ (r.front ++ before_first is_slash rest) ++ slash ∷ [] = sym (append_assoc r.front (before_first is_slash rest) (slash ∷ [])) in
          record {
            front = front;
            whole = r.whole ∙ (ap (λ t. r.front ++ t) (parts ∙ (ap (λ x. before_first is_slash rest ++ (x ∷ after_first is_slash rest)) here
                ∙ (sym (append_assoc (before_first is_slash rest) (slash ∷ []) (after_first is_slash rest)) ∙ ap (λ t. (before_first is_slash rest ++ slash ∷ []) ++ t) (sym e)))) ∙ sym (append_assoc r.front (before_first is_slash rest ++ slash ∷ []) after));
            closed = inr (ap ends_with_slash front_is ∙ ends_with_slash-push (r.front ++ before_first is_slash rest) slash);
          }
      | inr g ↦
          let none : after ≡ [] = e ∙ drop_all (at + 1) rest (omega (arith, g)) in
          record { front = path; whole = sym (append-nil path) ∙ ap (λ t. path ++ t) (sym none); closed = closed }
    ]

-- ---- names and their path

-- names with a slash after each
abbrev path_of_names : List (List ℕ) → List ℕ
path_of_names names = flat_map (λ n. n ++ slash ∷ []) names

path_of_names-append : (xs ys : List (List ℕ)) → path_of_names (xs ++ ys) ≡ path_of_names xs ++ path_of_names ys
path_of_names-append [] ys = refl
path_of_names-append (x ∷ xs) ys = ap (λ t. (x ++ slash ∷ []) ++ t) (path_of_names-append xs ys) ∙ sym (append_assoc (x ++ slash ∷ []) (path_of_names xs) (path_of_names ys))

pub path_above-names : (ds : List OpenDirectory) → path_above ds ≡ path_of_names (names_of ds)
path_above-names [] = refl
path_above-names (d ∷ ds) = ap (λ t. (d.name ++ slash ∷ []) ++ t) (path_above-names ds)

path_of_names-onto : (b : ℕ) (parts : List (List ℕ)) → 0 < length parts → path_of_names (onto_first b parts) ≡ b ∷ path_of_names parts
path_of_names-onto b [] l = absurd (omega (arith, l))
path_of_names-onto b (part ∷ parts) l = refl

path_of_pieces : (path : List ℕ) → path_of_names (pieces path) ≡ path ++ slash ∷ []
path_of_pieces [] = refl
path_of_pieces (b ∷ bs) =
    let more = path_of_pieces bs in
    elim (cases_Bool (is_slash b)) [
      | inl t ↦ let same : slash ≡ b = sym (eqb-true b slash t) in rw t (ap (λ t. slash ∷ t) more ∙ ap (λ x. x ∷ (bs ++ slash ∷ [])) same)
      | inr f ↦ rw f (path_of_names-onto b (pieces bs) (omega (arith, length-slice_split is_slash bs)) ∙ ap (λ t. b ∷ t) more)
    ]

pub path_of_directory_names : (path : List ℕ) → ClosedForm path → path_of_names (directory_names path) ≡ path
path_of_directory_names _ empty = refl
path_of_directory_names _ (after_slash front) =
    let names : directory_names (front ++ slash ∷ []) ≡ pieces front = names-closed front in
    ap path_of_names names ∙ path_of_pieces front

-- ---- directories that are closed

pub open-closed : (t : TreeContents) (k : ℕ) → (fold tree_after t (replicate k Close)).open_directories ≡ take (length t.open_directories - k) t.open_directories
open-closed t zero = sym (take_all (length t.open_directories - 0) t.open_directories (omega arith))
open-closed t (suc k) = open-closed (tree_after t Close) k ∙ take-less k t.open_directories

-- the directories that stay open are the first of the wanted ones
pub has_open-closed : (t u : TreeContents) (directory wanted left missing : List ℕ) → HasOpen t directory → IsClosed wanted → IsRestOf wanted missing
    → directory_names left ≡ drop (shared_depth (directory_names directory) (directory_names wanted)) (directory_names directory)
    → directory_names missing ≡ implied_names (directory_names directory) (directory_names wanted)
    → u ≡ fold tree_after t (replicate (length (directory_names left)) Close) → HasOpen u (take (length wanted - length missing) wanted)
has_open-closed t u directory wanted left missing opens closed rest l m c =
    let names = directory_names directory in
    let theirs = directory_names wanted in
    let d = shared_depth names theirs in
    let most = common_prefix_len-le bytes_eq names theirs in
    let long = ap length rest.whole ∙ length-append rest.front missing in
    let front_is : take (length wanted - length missing) wanted ≡ rest.front =
    ap (λ n. take n wanted) (omega (arith, long)) ∙ (ap (take (length rest.front)) rest.whole ∙ take-append_seam rest.front missing) in
    let form = to_form rest.front rest.closed in
    let parts : theirs ≡ directory_names rest.front ++ directory_names missing = ap directory_names rest.whole ∙ directory_names-append rest.front missing form in
    let count : length (directory_names missing) ≡ length theirs - d = ap length m ∙ length-drop d theirs in
    let all : length theirs ≡ length (directory_names rest.front) + length (directory_names missing) = ap length parts ∙ length-append (directory_names rest.front) (directory_names missing) in
    let fronts : take d theirs ≡ directory_names rest.front = ap (take d) parts ∙ take_at (directory_names rest.front) (directory_names missing) d (omega (arith, count, all, most.1)) in
    let closes : length (directory_names left) ≡ length names - d = ap length l ∙ length-drop d names in
    let depth : length (names_of t.open_directories) ≡ length t.open_directories = length-map t.open_directories (λ x. x.name) in
    let names_are : names_of u.open_directories ≡ directory_names rest.front =
    ap (λ (x : TreeContents). names_of x.open_directories) c ∙ (ap names_of (open-closed t (length (directory_names left)))
    ∙ (sym (take-map (λ (x : OpenDirectory). x.name) (length t.open_directories - length (directory_names left)) t.open_directories)
    ∙ (ap (take (length t.open_directories - length (directory_names left))) opens.names
    ∙ (ap (λ n. take n names) (omega (arith, closes, depth, ap length opens.names, most.0)) ∙ (take-common_prefix_len names theirs ∙ fronts))))) in
    record {
      names = names_are ∙ ap directory_names (sym front_is);
      path = path_above-names u.open_directories ∙ (ap path_of_names names_are ∙ (path_of_directory_names rest.front form ∙ sym front_is));
    }

-- ---- directories that are opened

pub closed-path_above : (ds : List OpenDirectory) → ClosedForm (path_above ds)
closed-path_above [] = empty
closed-path_above (d ∷ []) = subst ClosedForm (sym (append-nil (d.name ++ slash ∷ []))) (after_slash d.name)
closed-path_above (d ∷ e ∷ ds) = in_front (path_above (e ∷ ds)) (closed-path_above (e ∷ ds))
  where
    in_front : (path : List ℕ) → ClosedForm path → ClosedForm ((d.name ++ slash ∷ []) ++ path)
    in_front _ empty = subst ClosedForm (sym (append-nil (d.name ++ slash ∷ []))) (after_slash d.name)
    in_front _ (after_slash front) = subst ClosedForm (append_assoc (d.name ++ slash ∷ []) front (slash ∷ [])) (after_slash ((d.name ++ slash ∷ []) ++ front))

last_of-push : (xs : List (List ℕ)) (x : List ℕ) → last_of (xs ++ x ∷ []) ≡ x
last_of-push [] x = refl
last_of-push (y ∷ []) x = refl
last_of-push (y ∷ z ∷ xs) x = last_of-push (z ∷ xs) x

-- a slash at the end is found
slash_found : (xs : List ℕ) → position_or_len is_slash (xs ++ slash ∷ []) < length (xs ++ slash ∷ [])
slash_found xs =
    let long = length_push xs slash in
    let within = prefix_len-le-length (λ x. not (is_slash x)) xs in
    let e = position_or_len_push is_slash xs slash in
    elim (cases_Bool (position_or_len is_slash xs == length xs)) [
      | inl t ↦ let k : position_or_len is_slash (xs ++ slash ∷ []) ≡ length xs + 0 = e ∙ ap (λ b. cond b (length xs + 0) (position_or_len is_slash xs)) t in omega (arith, k, long)
      | inr f ↦ let k : position_or_len is_slash (xs ++ slash ∷ []) ≡ position_or_len is_slash xs = e ∙ ap (λ b. cond b (length xs + 0) (position_or_len is_slash xs)) f in omega (arith, k, long, within)
    ]

found_in_rest : (path : List ℕ) (end : ℕ) → ClosedForm path → end < length path → position_or_len is_slash (drop end path) < length (drop end path)
found_in_rest _ end empty l = absurd (omega (arith, l))
found_in_rest _ end (after_slash front) l =
    let e : drop end (front ++ slash ∷ []) ≡ drop end front ++ slash ∷ [] = drop-append-le end front (slash ∷ []) (omega (arith, l, length_push front slash)) in
    subst (λ (xs : List ℕ). position_or_len is_slash xs < length xs) (sym e) (slash_found (drop end front))

module _ (path : List ℕ) (closed : IsClosed path) (end : ℕ) (inside : end < length path) (name : List ℕ) (first : name ≡ before_first is_slash (take (length path - end) (drop end path))) where
  abbrev rest : List ℕ
  rest = drop end path

  abbrev at : ℕ
  at = position_or_len is_slash rest

  found : at < length rest
  found = found_in_rest path end (to_form path closed) inside

  name_is : name ≡ before_first is_slash rest
  name_is = first ∙ ap (before_first is_slash) (take_rest path end)

  pub long : length name ≡ at
  long = ap length name_is ∙ length-before_first is_slash rest

  pub before_end : end + length name < length path
  before_end = omega (arith, long, found, length-drop end path)

  front_is : take (end + length name) path ≡ take end path ++ name
  front_is = take-add end (length name) path ∙ ap (λ t. take end path ++ t) (ap (λ n. take n rest) long ∙ sym name_is)

  next_is : take (end + length name + 1) path ≡ (take end path ++ name) ++ slash ∷ []
  next_is =
      let here : get_or path (end + length name) 0 ≡ slash = ap (λ n. get_or path (end + n) 0) long ∙ (sym (get_or-drop end path at 0) ∙ eqb-true (get_or rest at 0) slash (passes_at_first is_slash rest 0 found)) in
      take_more path (end + length name) 0 before_end ∙ (ap (λ x. take (end + length name) path ++ x ∷ []) here ∙ ap (λ t. t ++ slash ∷ []) front_is)

  no_slash : All (λ b. is_slash b ≡ false) name
  no_slash =
      let each : (k : ℕ) → k < length (before_first is_slash rest) → is_slash (get_or (before_first is_slash rest) k 0) ≡ false = λ k low.
      let less : k < at = omega (arith, low, length-before_first is_slash rest) in ap is_slash (get_or-take at rest k 0 less) ∙ fails_before_first is_slash rest k 0 less in
      subst (All (λ b. is_slash b ≡ false)) (sym name_is) (All-from_get_or (λ b. is_slash b ≡ false) (before_first is_slash rest) 0 each)

  pub names_are : directory_names rest ≡ name ∷ directory_names (drop (end + length name + 1) path)
  names_are =
      let some : (length rest == 0) ≡ false = ne_eqb (length rest) 0 (λ e. omega (arith, e, found)) in
      let after : drop (end + length name + 1) path ≡ after_first is_slash rest = ap (λ n. drop n path) (omega (arith, long)) ∙ sym (drop-drop (at + 1) end path) in
      records-first slash rest name (drop (end + length name + 1) path) some name_is after

  module _ (t : TreeContents) (opens : HasOpen t (take end path)) where
    above_closed : ClosedForm (take end path)
    above_closed = subst ClosedForm opens.path (closed-path_above t.open_directories)

    pub last_is : last_name (take (end + length name) path) ≡ name
    last_is = ap last_name front_is ∙ (ap last_of (pieces-closed (take end path) name above_closed no_slash) ∙ last_of-push (directory_names (take end path)) name)

    pub lies : name ≢ [] → LiesOpen t (take (end + length name) path)
    lies some = record {
      path_is = front_is ∙ (ap (λ x. x ++ name) (sym opens.path) ∙ ap (λ x. path_above t.open_directories ++ x) (sym last_is));
      name_some = λ e. some (sym last_is ∙ e);
    }

    pub has_open-next : HasOpen (tree_after t (Open name)) (take (end + length name + 1) path)
    has_open-next =
        let one : directory_names (name ++ slash ∷ []) ≡ name ∷ [] = names-closed name ∙ slice_split_none is_slash name no_slash in
        let whole : take (end + length name + 1) path ≡ take end path ++ (name ++ slash ∷ []) = next_is ∙ append_assoc (take end path) name (slash ∷ []) in
        record {
          names =
              map-append (λ (d : OpenDirectory). d.name) t.open_directories (record { number = length t.entries; name = name } ∷ [])
              ∙ (ap (λ x. x ++ name ∷ []) opens.names ∙ (sym (directory_names-append (take end path) (name ++ slash ∷ []) above_closed ∙ ap (λ x. directory_names (take end path) ++ x) one) ∙ ap directory_names (sym whole)));
          path =
              path_above-names (t.open_directories ++ record { number = length t.entries; name = name } ∷ [])
              ∙ (ap path_of_names (map-append (λ (d : OpenDirectory). d.name) t.open_directories (record { number = length t.entries; name = name } ∷ []))
              ∙ (path_of_names-append (names_of t.open_directories) (name ∷ [])
              ∙ (ap (λ x. x ++ ((name ++ slash ∷ []) ++ [])) (sym (path_above-names t.open_directories) ∙ opens.path) ∙ (ap (λ x. take end path ++ x) (append-nil (name ++ slash ∷ [])) ∙ sym whole))));
        }

-- ---- the record that a path begins

pub some_bytes : (xs : List ℕ) → xs ≢ [] → 0 < length xs
some_bytes [] n = absurd (n refl)
some_bytes (x ∷ xs) n = omega arith

pub begins-kept : (o u : OutlineContents) (start : ℕ) (path : List ℕ) → KeepsListing o u → BeginsRecord o start path → BeginsRecord u start path
begins-kept o u start path k b =
    let same : record_from u.separator u.bytes start ≡ record_from o.separator o.bytes start = ap (λ s. record_from s u.bytes start) k.separator ∙ ap (λ x. record_from o.separator x start) k.bytes in
    record {
      closed = b.closed;
      front = ap (take (length path)) same ∙ b.front;
      shorter = subst (λ (x : List ℕ). length path < length x) (sym same) b.shorter;
    }

-- a front of it is so many bytes of the listing
pub part_is : (o : OutlineContents) (start : ℕ) (path : List ℕ) (n : ℕ) → BeginsRecord o start path → n ≤ length path → part o.bytes start n ≡ take n path
part_is o start path n b le =
    let rest = drop start o.bytes in
    let k = position_or_len (λ x. x == o.separator) rest in
    let long = length-before_first (λ x. x == o.separator) rest in
    let shorter = b.shorter in
    sym (ap (take n) (sym b.front) ∙ (take-take n (length path) (take k rest) le ∙ take-take n k rest (omega (arith, le, long, shorter))))

-- such a front has no record
pub no_mark : (o : OutlineContents) (start : ℕ) (path : List ℕ) (n : ℕ) → BeginsRecord o start path → n < length path → mark_of o.separator o.bytes start n true ≡ None
no_mark o start path n b l =
    let r = record_from o.separator o.bytes start in
    let shorter = b.shorter in
    ap (λ t. cond t (Some r) None) (ne_eqb (length r) (n + 1) (λ e. omega (arith, e, l, shorter)))

-- what it is behind its front
pub rest_is : (path rest : List ℕ) → IsRestOf path rest → drop (length path - length rest) path ≡ rest
rest_is path rest r =
    let long = ap length r.whole ∙ length-append r.front rest in
    ap (λ n. drop n path) (omega (arith, long)) ∙ (ap (drop (length r.front)) r.whole ∙ drop-append_seam r.front rest)

-- the path of a record is so many bytes of the listing
pub part_of_record : (o : OutlineContents) (start : ℕ) (text : List ℕ) (n : ℕ) → IsRecordAt o start text → n ≤ length text → part o.bytes start n ≡ take n text
part_of_record o start text n r le =
    let rest = drop start o.bytes in
    let k = position_or_len (λ x. x == o.separator) rest in
    let long = length-before_first (λ x. x == o.separator) rest in
    let same = ap length r in
    sym (ap (take n) r ∙ take-take n k rest (omega (arith, le, long, same)))

pub record-kept : (o u : OutlineContents) (start : ℕ) (text : List ℕ) → KeepsListing o u → IsRecordAt o start text → IsRecordAt u start text
record-kept o u start text k r = r ∙ sym (ap (λ s. record_from s u.bytes start) k.separator ∙ ap (λ x. record_from o.separator x start) k.bytes)

-- its mark is the record
pub own_mark : (o : OutlineContents) (start : ℕ) (text : List ℕ) (n : ℕ) (b : Bool) → IsRecordAt o start text → length text ≡ record_length n b → mark_of o.separator o.bytes start n b ≡ Some text
own_mark o start text n b r e =
    let x = record_from o.separator o.bytes start in
    ap (λ t. cond t (Some x) None) (eq-eqb (length x) (record_length n b) (ap length (sym r) ∙ e)) ∙ ap Some (sym r)

-- ---- the own entry of a record

-- a text with a last byte, without a slash there
last_slash : (text : List ℕ) → text ≢ [] → text ≡ without_last_slash text ++ cond (ends_with_slash text) (slash ∷ []) []
last_slash text some =
    let c = last_cases text (some_bytes text some) in
    let e = ap ends_with_slash c.2 ∙ ends_with_slash-push c.0 c.1 in
    let w = ap without_last_slash c.2 ∙ without_last_slash-push c.0 c.1 in
    elim (cases_Bool (is_slash c.1)) [
      | inl y ↦
          let is : without_last_slash text ≡ c.0 = w ∙ ap (λ b. cond b c.0 (c.0 ++ c.1 ∷ [])) y in
          c.2 ∙ (ap (λ x. c.0 ++ x ∷ []) (eqb-true c.1 slash y) ∙ (ap (λ x. x ++ slash ∷ []) (sym is) ∙ ap (λ b. without_last_slash text ++ cond b (slash ∷ []) []) (sym (e ∙ y))))
      | inr n ↦
          let is : without_last_slash text ≡ c.0 ++ c.1 ∷ [] = w ∙ ap (λ b. cond b c.0 (c.0 ++ c.1 ∷ [])) n in
          c.2 ∙ (sym is ∙ (sym (append-nil (without_last_slash text)) ∙ ap (λ b. without_last_slash text ++ cond b (slash ∷ []) []) (sym (e ∙ n))))
    ]

module _ (text parents name : List ℕ) (whole : text ≡ parents ++ name) (some : name ≢ []) (kind : ends_with_slash name ≡ record_is_dir text) where
  abbrev own : List ℕ
  own = without_last_slash name

  ending : text ≡ (parents ++ own) ++ cond (record_is_dir text) (slash ∷ []) []
  ending = whole ∙ (ap (λ x. parents ++ x) (last_slash name some ∙ ap (λ b. own ++ cond b (slash ∷ []) []) kind) ∙ sym (append_assoc parents own (cond (record_is_dir text) (slash ∷ []) [])))

  pub path_front : take (length parents + length own) text ≡ parents ++ own
  path_front = ap (λ n. take n text) (sym (length-append parents own)) ∙ (ap (take (length (parents ++ own))) ending ∙ take-append_seam (parents ++ own) (cond (record_is_dir text) (slash ∷ []) []))

  -- how long its record is
  pub record_is : length text ≡ record_length (length parents + length own) (record_is_dir text)
  record_is =
      let a = ap length ending ∙ length-append (parents ++ own) (cond (record_is_dir text) (slash ∷ []) []) in
      let b = length-append parents own in
      by_kind (record_is_dir text) (a ∙ ap (λ n. n + length (cond (record_is_dir text) (slash ∷ []) [])) b)
    where
      by_kind : (b : Bool) → length text ≡ (length parents + length own) + length (cond b (slash ∷ []) []) → length text ≡ record_length (length parents + length own) b
      by_kind true e = e
      by_kind false e = omega (arith, e)

  module _ (above : directory_names parents ≡ parent_names text) (names : own_names text ≡ own ∷ []) where
    all_names : record_names text ≡ directory_names parents ++ own ∷ []
    all_names = sym (take-append-drop (length (record_names text) - 1) (record_names text)) ∙ (ap (λ x. x ++ own_names text) (sym above) ∙ ap (λ x. directory_names parents ++ x) names)

    path_text : record_path text ≡ parents ++ own
    path_text = by_kind (record_is_dir text) refl
      where
        by_kind : (b : Bool) → record_is_dir text ≡ b → record_path text ≡ parents ++ own
        by_kind true t =
            let e = ending ∙ ap (λ b. (parents ++ own) ++ cond b (slash ∷ []) []) t in
            ap without_last_slash e ∙ (without_last_slash-push (parents ++ own) slash)
        by_kind false f =
            ap (λ b. cond b (take (length text - 1) text) text) f ∙ (ending ∙ (ap (λ b. (parents ++ own) ++ cond b (slash ∷ []) []) f ∙ append-nil (parents ++ own)))

    pub last_own : last_name (parents ++ own) ≡ own
    last_own = ap last_name (sym path_text) ∙ (ap last_of all_names ∙ last_of-push (directory_names parents) own)

    module _ (t : TreeContents) (opens : HasOpen t parents) where
      pub lies_own : own ≢ [] → LiesOpen t (parents ++ own)
      lies_own n = record {
        path_is = ap (λ x. x ++ own) (sym opens.path) ∙ ap (λ x. path_above t.open_directories ++ x) (sym last_own);
        name_some = λ e. n (sym last_own ∙ e);
      }

      -- the directories that are open after it
      pub has_open-own : (b : Bool) → record_is_dir text ≡ b → HasOpen (tree_after t (own_call b own)) (cond b text parents)
      has_open-own false f = record { names = opens.names; path = opens.path }
      has_open-own true y =
          let e : text ≡ parents ++ (own ++ slash ∷ []) = ending ∙ (ap (λ b. (parents ++ own) ++ cond b (slash ∷ []) []) y ∙ append_assoc parents own (slash ∷ [])) in
          record {
            names =
                map-append (λ (d : OpenDirectory). d.name) t.open_directories (record { number = length t.entries; name = own } ∷ [])
                ∙ (ap (λ x. x ++ own ∷ []) opens.names ∙ (sym all_names ∙ sym (directory_names-record text y)));
            path =
                path_above-names (t.open_directories ++ record { number = length t.entries; name = own } ∷ [])
                ∙ (ap path_of_names (map-append (λ (d : OpenDirectory). d.name) t.open_directories (record { number = length t.entries; name = own } ∷ []))
                ∙ (path_of_names-append (names_of t.open_directories) (own ∷ [])
                ∙ (ap (λ x. x ++ ((own ++ slash ∷ []) ++ [])) (sym (path_above-names t.open_directories) ∙ opens.path) ∙ (ap (λ x. parents ++ x) (append-nil (own ++ slash ∷ [])) ∙ sym e))));
          }

      pub tree_own : (t0 : TreeContents) (names0 : List (List ℕ)) → t ≡ fold tree_after t0 (directory_calls names0 (directory_names parents)) → tree_after t (own_call (record_is_dir text) own) ≡ fold tree_after t0 (record_calls names0 text)
      tree_own t0 names0 e =
          ap (λ (x : TreeContents). tree_after x (own_call (record_is_dir text) own)) (e ∙ ap (λ ns. fold tree_after t0 (directory_calls names0 ns)) above)
          ∙ (sym (fold-append tree_after t0 (directory_calls names0 (parent_names text)) (own_call (record_is_dir text) own ∷ []))
          ∙ ap (λ ns. fold tree_after t0 (directory_calls names0 (parent_names text) ++ map (own_call (record_is_dir text)) ns)) (sym names))
