-- The numbers of an outline stand for a tree: what is done to them, calls of the tree do to it.
use Rattle.std.proofs.Common.{◌≡◌, ◌≢◌, ℕ, ◌+◌, ◌-◌, ◌<◌, ◌≤◌, Bool, true, false, cond, ◌==◌, refl, sym, ◌∙◌, ap, subst, List, [], ◌∷◌, ◌++◌, length, map, set, take, drop, get_or, arith, inl, inr, Option, Some, None, length-set}
use Rattle.std.proofs.lemmas.Bool.{eqb-true, ne_eqb, cases_eq}
use Rattle.std.proofs.lemmas.List.{map-append, length_push, take_more, drop-drop, length-drop}
use Rattle.std.proofs.lemmas.List.Sums.{passes_at_first}
use Rattle.std.proofs.lemmas.List.Elements.{All-take, All-drop}
use Rattle.std.proofs.lemmas.Option.{same_Some, get_or_from_slice_get, slice_get-map, slice_get_within}
use Rattle.std.proofs.Math.Seq.{drop-append_seam, take-add, map-set_same}
use Rattle.std.specs.Prelude.{slice_get, unwrap_or, option_map, option_and_then}
use Rattle.std.specs.List.{position_or_len}
use Rattle.pathspec_parts.specs.Paths.{IsBytes}
use Rattle.pathspec_parts.specs.Entries.{Entry, entry_in, own_call}
use Rattle.pathspec_parts.specs.Entries.Call.{Close}
use Rattle.pathspec_parts.specs.Trees.{TreeContents, tree_after, IsTreeName}
use Rattle.pathspec_parts.specs.Cursors.{append_if}
use Rattle.pathspec_parts.specs.Nesting.{Nesting, KeepsNesting, open_end, AreNested}
use Rattle.pathspec_parts.specs.TreeLayout.{path_above}
use Rattle.pathspec_parts.proofs.LayoutProofs.{path_of_entry, entry_after}
use Rattle.pathspec_parts.proofs.ListProofs.{get-front, get-set_same, get-set_other}
use Rattle.pathspec_parts.proofs.NestingProofs.{nested-push, nested-none, nested-close, nested_of_none, top_is, entries_count}
use Rattle.pathspec_parts.proofs.TreeProofs.{get-last, get-cases}
use Rattle.pathspec_select.specs.Listing.{mark_at, written_of}
use Rattle.pathspec_select.specs.Outlines.{OutlineContents, part, empty_outline, mark_of, last_name, record_from, record_length, outline_after, outline_closed, LiesInRecord, LiesOpen, path_of_span, name_of_span, end_of_span, tree_of_spans, is_dir_span, mark_of_span, outline_of_spans, IsSpan, AreSpans, IsOutline, IsPiece, IsRecordPiece, bytes_of}
use Rattle.pathspec_select.specs.declared.listing.outline.Piece.{Piece}
use Rattle.pathspec_select.specs.declared.listing.spans.Span.{Span}
use Rattle.pathspec_select.proofs.ListingProofs.{length-before_first}

-- a path with a name isn't empty
pub last_name-some : (path : List ℕ) → last_name path ≢ [] → path ≢ []
last_name-some path n e = n (ap last_name e)

module _ (bytes : List ℕ) (separator : ℕ) (spans : List Span) (nested : Nesting) (h : IsOutline bytes separator spans nested) where
  abbrev tree : TreeContents
  tree = tree_of_spans bytes spans

  abbrev count : ℕ
  count = length spans

  -- room for more leaves them
  pub kept : (new : Nesting) → KeepsNesting nested new → IsOutline bytes separator spans new
  kept new k = record {
    all_bytes = h.all_bytes;
    nesting = subst (λ x. AreNested (name_of_span bytes spans) (end_of_span spans) count x new.directories) (sym k.stack) (subst (AreNested (name_of_span bytes spans) (end_of_span spans) count nested.stack) (sym k.directories) h.nesting);
    spans_are = h.spans_are;
    room = h.room;
  }

  -- ---- one more entry

  module _ (is_dir : Bool) (span : Span) (end : span.end ≡ cond is_dir open_end 0) (fits : span.start + span.length ≤ length bytes) (within : LiesInRecord separator bytes span.start span.length is_dir) (lies : LiesOpen tree (path_of_span bytes span)) where
    abbrev path : List ℕ
    path = path_of_span bytes span

    abbrev name : List ℕ
    name = last_name path

    abbrev more : List Span
    more = spans ++ span ∷ []

    abbrev entry : Entry
    entry = entry_in tree.open_directories name is_dir

    named : IsTreeName name
    named =
        let rest : drop (length (path_above tree.open_directories)) path ≡ name = ap (drop (length (path_above tree.open_directories))) lies.path_is ∙ drop-append_seam (path_above tree.open_directories) name in
        (lies.name_some, subst IsBytes rest (All-drop (λ b. b < 256) (length (path_above tree.open_directories)) path (All-take (λ b. b < 256) span.length (drop span.start bytes) (All-drop (λ b. b < 256) span.start bytes h.all_bytes))))

    kind : is_dir_span span ≡ is_dir
    kind = ap (λ e. cond (e == 0) false true) end ∙ by_kind is_dir
      where
        by_kind : (b : Bool) → cond (cond b open_end 0 == 0) false true ≡ b
        by_kind true = refl
        by_kind false = refl

    module _ (new : Nesting) (stack : new.stack ≡ append_if is_dir count nested.stack) (directories : new.directories ≡ nested.directories + cond is_dir 1 0) where
      nesting : AreNested (name_of_span bytes more) (end_of_span more) (length more) new.stack new.directories × (tree_of_spans bytes more ≡ tree_after tree (own_call is_dir name))
      nesting =
          nested-push (name_of_span bytes spans) (end_of_span spans) count nested.stack nested.directories h.nesting (name_of_span bytes more) (end_of_span more) name is_dir named h.room
          (λ i l. ap (λ (o : Option Span). last_name (unwrap_or (option_map (path_of_span bytes) o) [])) (get-front spans (span ∷ []) i l))
          (ap (λ (o : Option Span). last_name (unwrap_or (option_map (path_of_span bytes) o) [])) (get-last spans span))
          (λ i l. ap (λ (o : Option Span). unwrap_or (option_map (λ x. x.end) o) 0) (get-front spans (span ∷ []) i l))
          (ap (λ (o : Option Span). unwrap_or (option_map (λ x. x.end) o) 0) (get-last spans span) ∙ end)
          (length more) new.directories new.stack (length_push spans span) stack directories

      entries_are : (tree_of_spans bytes more).entries ≡ tree.entries ++ entry ∷ []
      entries_are = ap (λ (t : TreeContents). t.entries) nesting.1 ∙ entry_after tree is_dir name

      entries_long : length tree.entries ≡ count
      entries_long = entries_count (name_of_span bytes spans) (end_of_span spans) count nested.stack nested.directories h.nesting tree refl

      more_spans : AreSpans bytes separator (tree.entries ++ entry ∷ []) more
      more_spans i s at = elim (get-cases spans span i s at) [
        | inl q ↦ let r = h.spans_are i s q in record {
          fits = r.fits;
          path = λ e there. elim (get-cases tree.entries entry i e there) [
            | inl p ↦ r.path e p
            | inr p ↦ let w = slice_get_within spans i s q in absurd (omega (arith, w, p.0, entries_long))
          ];
          in_record = r.in_record;
        }
        | inr q ↦ subst (IsSpan bytes separator (tree.entries ++ entry ∷ []) i) q.1 (record {
          fits = fits;
          path = λ e there. elim (get-cases tree.entries entry i e there) [
            | inl p ↦ let w = slice_get_within tree.entries i e p in absurd (omega (arith, w, q.0, entries_long))
            | inr p ↦ lies.path_is ∙ (sym (path_of_entry tree.open_directories name) ∙ ap (λ (x : Entry). x.path) p.1)
          ];
          in_record = subst (LiesInRecord separator bytes span.start span.length) (sym kind) within;
        })
      ]

      -- So they are the numbers of an outline, by the answer of the call that put the span after the others.
      pub added : (new_spans : List Span) → new_spans ≡ more → length new_spans + 1 < open_end
          → IsOutline bytes separator new_spans new × (outline_of_spans bytes separator new_spans ≡ outline_after (outline_of_spans bytes separator spans) span.start span.length is_dir)
      added new_spans is roomy =
          let marks_are : map (mark_of_span separator bytes) more ≡ map (mark_of_span separator bytes) spans ++ mark_of separator bytes span.start span.length is_dir ∷ [] =
          map-append (mark_of_span separator bytes) spans (span ∷ []) ∙ ap (λ b. map (mark_of_span separator bytes) spans ++ mark_of separator bytes span.start span.length b ∷ []) kind in
          subst (λ x. IsOutline bytes separator x new × (outline_of_spans bytes separator x ≡ outline_after (outline_of_spans bytes separator spans) span.start span.length is_dir)) (sym is) (
            record {
              all_bytes = h.all_bytes;
              nesting = nesting.0;
              spans_are = subst (λ es. AreSpans bytes separator es more) (sym entries_are) more_spans;
              room = subst (λ x. length x + 1 < open_end) is roomy;
            },
            ap (λ x. record { bytes = bytes; separator = separator; tree = x; marks = map (mark_of_span separator bytes) more }) nesting.1
                ∙ ap (λ x. record { bytes = bytes; separator = separator; tree = tree_after tree (own_call is_dir name); marks = x }) marks_are,
          )

  -- ---- the open directory closed

  -- where none is open, nothing is closed
  pub closed_none : nested.stack ≡ [] → outline_of_spans bytes separator spans ≡ outline_closed (outline_of_spans bytes separator spans)
  closed_none e =
      ap (λ x. record { bytes = bytes; separator = separator; tree = x; marks = map (mark_of_span separator bytes) spans }) (nested-none (name_of_span bytes spans) (end_of_span spans) count nested.stack nested.directories h.nesting e)

  module _ (below : List ℕ) (place : ℕ) (last : nested.stack ≡ below ++ place ∷ []) (span : Span) (at : slice_get spans place ≡ Some span) where
    -- its span is that of an open directory
    pub top_open : (place < count) × (span.end ≡ open_end)
    top_open =
        let top = top_is (name_of_span bytes spans) (end_of_span spans) count nested.stack nested.directories h.nesting below place last in
        (top.0, sym (ap (λ (o : Option Span). unwrap_or (option_map (λ x. x.end) o) 0) at) ∙ top.1)

    module _ (k : ℕ) (is_count : k ≡ count) where
      abbrev ended : Span
      ended = record span { end = k }

      abbrev shut : List Span
      shut = set spans place ended

      here : slice_get shut place ≡ Some ended
      here = get-set_same spans place ended top_open.0

      -- what the end has no part in is as before
      module _ {X : Type 0} (f : Span → X) (none : X) (same : f ended ≡ f span) where
        value-shut : (i : ℕ) → unwrap_or (option_map f (slice_get shut i)) none ≡ unwrap_or (option_map f (slice_get spans i)) none
        value-shut i = elim (cases_eq i place) [
          | inl e ↦
              let P : ℕ → Type 0 = λ j. unwrap_or (option_map f (slice_get shut j)) none ≡ unwrap_or (option_map f (slice_get spans j)) none in
              subst P (sym e) (ap (λ (o : Option Span). unwrap_or (option_map f o) none) here ∙ (same ∙ sym (ap (λ (o : Option Span). unwrap_or (option_map f o) none) at)))
          | inr n ↦ ap (λ (o : Option Span). unwrap_or (option_map f o) none) (get-set_other spans place i ended n)
        ]

      kind_closed : is_dir_span ended ≡ is_dir_span span
      kind_closed =
          let a : (k == 0) ≡ false = ne_eqb k 0 (λ z. omega (arith, z, is_count, top_open.0)) in
          let b : (span.end == 0) ≡ false = ne_eqb span.end 0 (λ z. omega (arith, z, top_open.1)) in
          ap (λ x. cond x false true) (a ∙ sym b)

      long : length shut ≡ count
      long = length-set spans place ended

      marks_are : map (mark_of_span separator bytes) shut ≡ map (mark_of_span separator bytes) spans
      marks_are = map-set_same (mark_of_span separator bytes) spans place ended span (ap (mark_of separator bytes span.start span.length) kind_closed ∙ ap (mark_of_span separator bytes) (sym (get_or_from_slice_get spans place span span at)))

      shut_spans : AreSpans bytes separator tree.entries shut
      shut_spans i s q = elim (cases_eq i place) [
        | inl e ↦
            let r = h.spans_are place span at in
            let same : ended ≡ s = same_Some ended s (sym here ∙ (ap (slice_get shut) (sym e) ∙ q)) in
            subst (IsSpan bytes separator tree.entries i) same (record { fits = r.fits; path = λ x there. r.path x (ap (slice_get tree.entries) (sym e) ∙ there); in_record = subst (LiesInRecord separator bytes span.start span.length) (sym kind_closed) r.in_record })
        | inr n ↦ h.spans_are i s (sym (get-set_other spans place i ended n) ∙ q)
      ]

      pub closed : (new : Nesting) → new.stack ≡ below → new.directories ≡ nested.directories → IsOutline bytes separator shut new × (outline_of_spans bytes separator shut ≡ outline_closed (outline_of_spans bytes separator spans))
      closed new s d =
          let room = h.room in
          let r = nested-close (name_of_span bytes spans) (end_of_span spans) count nested.stack nested.directories h.nesting below place last (name_of_span bytes shut) (end_of_span shut)
          (λ i. ap last_name (value-shut (path_of_span bytes) [] refl i))
          (ap (λ (o : Option Span). unwrap_or (option_map (λ x. x.end) o) 0) here ∙ is_count)
          (λ i n. ap (λ (o : Option Span). unwrap_or (option_map (λ x. x.end) o) 0) (get-set_other spans place i ended n))
          (omega (arith, room)) (length shut) long in
          let entries_are : (tree_of_spans bytes shut).entries ≡ tree.entries = ap (λ (t : TreeContents). t.entries) r.1 in (
            record {
              all_bytes = h.all_bytes;
              nesting = subst (λ x. AreNested (name_of_span bytes shut) (end_of_span shut) (length shut) x new.directories) (sym s) (subst (AreNested (name_of_span bytes shut) (end_of_span shut) (length shut) below) (sym d) r.0);
              spans_are = subst (λ es. AreSpans bytes separator es shut) (sym entries_are) shut_spans;
              room = omega (arith, room, long);
            },
            ap (λ x. record { bytes = bytes; separator = separator; tree = x; marks = map (mark_of_span separator bytes) shut }) r.1
                ∙ ap (λ x. record { bytes = bytes; separator = separator; tree = tree_after tree Close; marks = x }) marks_are,
          )

-- ---- the record of an entry

-- the record of an entry is its mark
pub mark-is : (bytes : List ℕ) (separator : ℕ) (spans : List Span) (o : OutlineContents) (view : outline_of_spans bytes separator spans ≡ o) (n : ℕ) (s : Span) → slice_get spans n ≡ Some s → mark_of_span separator bytes s ≡ mark_at o.marks n
mark-is bytes separator spans o view n s at =
    sym (ap (option_and_then (λ mark. mark)) (slice_get-map (mark_of_span separator bytes) spans n ∙ ap (option_map (mark_of_span separator bytes)) at)) ∙ ap (λ (x : OutlineContents). mark_at x.marks n) view

-- where the record of an entry stands with its separator
pub record-piece : (bytes : List ℕ) (separator : ℕ) (spans : List Span) (o : OutlineContents) (view : outline_of_spans bytes separator spans ≡ o) (n : ℕ) (s : Span) (at : slice_get spans n ≡ Some s) (r : List ℕ) → Some r ≡ mark_at o.marks n → s.start + length r < length bytes
    → IsRecordPiece o separator n (record { start = s.start; end = s.start + length r + 1 })
record-piece bytes separator spans o view n s at r m l =
    let rest = drop s.start bytes in
    let p : ℕ → Bool = λ b. b == separator in
    let k = position_or_len p rest in
    let whole = record_from separator bytes s.start in
    let is : Some r ≡ mark_of_span separator bytes s = m ∙ sym (mark-is bytes separator spans o view n s at) in
    let same : r ≡ whole = by_test (length whole == record_length s.length (is_dir_span s)) is in
    let long : length r ≡ k = ap length same ∙ length-before_first p rest in
    let d = length-drop s.start bytes in
    let inside : k < length rest = omega (arith, l, long, d) in
    let here : get_or rest k 0 ≡ separator = eqb-true (get_or rest k 0) separator (passes_at_first p rest 0 inside) in
    let count : (s.start + length r + 1) - s.start ≡ k + 1 = omega (arith, long) in
    subst (λ (x : OutlineContents). IsRecordPiece x separator n (record { start = s.start; end = s.start + length r + 1 })) view (record {
      lies = record { rises = omega arith; fits = omega (arith, l) };
      written =
          ap (λ j. take j rest) count ∙ (take_more rest k 0 inside ∙ (ap (λ x. take k rest ++ x ∷ []) here ∙ (ap (λ x. x ++ separator ∷ []) (sym same)
          ∙ ap (written_of separator) (m ∙ ap (λ (x : OutlineContents). mark_at x.marks n) (sym view)))));
    })
  where
    by_test : (b : Bool) → Some r ≡ cond b (Some (record_from separator bytes s.start)) None → r ≡ record_from separator bytes s.start
    by_test true e = same_Some r (record_from separator bytes s.start) e
    by_test false e = cc

-- two parts of a listing that meet are one
part-more : (bytes : List ℕ) (start end next : ℕ) → start ≤ end → end ≤ next → part bytes start (next - start) ≡ part bytes start (end - start) ++ part bytes end (next - end)
part-more bytes start end next a b =
    ap (λ n. take n (drop start bytes)) (omega (arith, a, b))
    ∙ (take-add (end - start) (next - end) (drop start bytes) ∙ ap (λ t. part bytes start (end - start) ++ take (next - end) t) (drop-drop (end - start) start bytes ∙ ap (λ n. drop n bytes) (omega (arith, a))))

-- a piece, and the one that follows it
pub piece-more : (bytes : List ℕ) (p q : Piece) → IsPiece bytes p → IsPiece bytes q → q.start ≡ p.end → bytes_of bytes p ++ bytes_of bytes q ≡ bytes_of bytes (record { start = p.start; end = q.end })
piece-more bytes p q a b e = ap (λ s. part bytes p.start (p.end - p.start) ++ part bytes s (q.end - s)) e ∙ sym (part-more bytes p.start p.end q.end a.rises (omega (arith, b.rises, e)))

-- ---- none

-- No spans are the numbers of an outline of which nothing was read.
pub outline_of_none : (bytes : List ℕ) (separator : ℕ) → IsBytes bytes → (spans : List Span) (nested : Nesting) → spans ≡ [] → nested.stack ≡ [] → nested.directories ≡ 0
    → IsOutline bytes separator spans nested × (outline_of_spans bytes separator spans ≡ empty_outline bytes separator)
outline_of_none bytes separator all spans nested e s d =
    let r = nested_of_none (name_of_span bytes []) (end_of_span []) in
    subst (λ x. IsOutline bytes separator x nested × (outline_of_spans bytes separator x ≡ empty_outline bytes separator)) (sym e) (
      record {
        all_bytes = all;
        nesting = subst (λ x. AreNested (name_of_span bytes []) (end_of_span []) 0 x nested.directories) (sym s) (subst (AreNested (name_of_span bytes []) (end_of_span []) 0 []) (sym d) r.0);
        spans_are = λ i x at. cc;
        room = omega arith;
      },
      ap (λ x. record { bytes = bytes; separator = separator; tree = x; marks = [] }) r.1,
    )
