-- Entries in numbers, of a file mostly in four bytes.
use Rattle.std.proofs.Common.{◌≡◌, ◌≢◌, ℕ, ◌+◌, ◌-◌, ◌*◌, ◌/◌, ◌^◌, ◌<◌, ◌≤◌, refl, sym, ◌∙◌, ap, subst, cond, inl, inr, List, [], ◌∷◌, ◌++◌, length, get_or, map, set, arith, Some, length-set}
use Rattle.std.proofs.lemmas.Bool.{cases_lt, cases_eq, lt-ltb, le-ltb}
use Rattle.std.proofs.lemmas.List.{length_push, get_or_append_left, get_or-set_same, get_or-set_other, ext_get_or}
use Rattle.std.proofs.lemmas.List.FromFn.{length-map-range_with_len, get_or-map-range_with_len, map-range_with_len_more}
use Rattle.std.proofs.lemmas.Option.{slice_get-get_or, slice_get_within, slice_get_read, get_or_from_slice_get}
use Rattle.std.proofs.Math.Seq.{get_or-append_seam}
use Rattle.std.specs.Prelude.{◌⊎◌, slice_get}
use Rattle.std.specs.List.{range_with_len}
use Rattle.pathspec_parts.proofs.ListProofs.{map_range-same}
use Rattle.pathspec_parts.proofs.TreeProofs.{get-cases}
use Rattle.pathspec_select.specs.PackedSpans.{no_span, no_anchor, no_entry, anchor_of, span_of, span_at, unpacked, IsFile, anchors_with, BeginsBlock, ArePacked}
use Rattle.pathspec_select.specs.declared.listing.spans.Span.{Span}
use Rattle.pathspec_select.specs.declared.listing.spans.Anchor.{Anchor}
use Rattle.pathspec_select.specs.declared.listing.spans.Packed.{Packed}
use Rattle.pathspec_select.specs.declared.listing.spans.Packed.TheVariants.{File, Other}

-- ---- all numbers

module _ (packed : List Packed) (anchors : List Anchor) (others : List Span) where
  pub length-unpacked : length (unpacked packed anchors others) ≡ length packed
  unfolding unpacked
  length-unpacked = length-map-range_with_len (span_at packed anchors others) 0 (length packed)

  -- the numbers at a place
  pub span-at : (i : ℕ) (x : Packed) → slice_get packed i ≡ Some x → get_or (unpacked packed anchors others) i no_span ≡ span_of (anchor_of anchors i) others x
  unfolding unpacked
  span-at i x e =
      get_or-map-range_with_len (span_at packed anchors others) 0 (length packed) i i no_span (slice_get_within packed i x e) (omega arith)
      ∙ ap (span_of (anchor_of anchors i) others) (get_or_from_slice_get packed i x no_entry e)

  -- anchors and spans that say the same of each entry
  pub unpacked-same : (new_anchors : List Anchor) (new_others : List Span) → ((i : ℕ) (x : Packed) → slice_get packed i ≡ Some x → span_of (anchor_of new_anchors i) new_others x ≡ span_of (anchor_of anchors i) others x)
      → unpacked packed new_anchors new_others ≡ unpacked packed anchors others
  unfolding unpacked
  unpacked-same new_anchors new_others same =
      map_range-same (span_at packed new_anchors new_others) (span_at packed anchors others) 0 (length packed) (λ i le lt. same i (get_or packed i no_entry) (slice_get-get_or packed i no_entry (omega (arith, lt))))

  -- one more entry
  unpacked-more : (x : Packed) (new_others : List Span) (span : Span) → ((i : ℕ) (y : Packed) → slice_get packed i ≡ Some y → span_of (anchor_of anchors i) new_others y ≡ span_of (anchor_of anchors i) others y)
      → span_of (anchor_of anchors (length packed)) new_others x ≡ span → unpacked (packed ++ x ∷ []) anchors new_others ≡ unpacked packed anchors others ++ span ∷ []
  unfolding unpacked
  unpacked-more x new_others span kept is =
      let more = packed ++ x ∷ [] in
      let old : map (span_at more anchors new_others) (range_with_len 0 (length packed)) ≡ map (span_at packed anchors others) (range_with_len 0 (length packed)) =
      map_range-same (span_at more anchors new_others) (span_at packed anchors others) 0 (length packed) (λ i le lt.
      let inside : i < length packed = omega (arith, lt) in
      ap (span_of (anchor_of anchors i) new_others) (get_or_append_left packed (x ∷ []) no_entry i inside) ∙ kept i (get_or packed i no_entry) (slice_get-get_or packed i no_entry inside)) in
      let last : span_at more anchors new_others (length packed) ≡ span = ap (span_of (anchor_of anchors (length packed)) new_others) (get_or-append_seam packed x [] no_entry) ∙ is in
      ap (λ n. map (span_at more anchors new_others) (range_with_len 0 n)) (length_push packed x)
      ∙ (map-range_with_len_more (span_at more anchors new_others) 0 (length packed) (length packed) (omega arith)
      ∙ (ap (λ t. t ++ span_at more anchors new_others (length packed) ∷ []) old ∙ ap (λ s. map (span_at packed anchors others) (range_with_len 0 (length packed)) ++ s ∷ []) last))

  -- what the numbers are known as
  pub inside-of : (view : List Span) → unpacked packed anchors others ≡ view → (i : ℕ) → i < length view → i < length packed
  inside-of view is i l = let long = length-unpacked in let same = ap length is in omega (arith, l, long, same)

-- ---- one entry

-- what a look-up by number tells of an element
pub read_at : (spans : List Span) (number : ℕ) (span : Span) → number < length spans → span ≡ get_or spans number no_span → slice_get spans number ≡ Some span
read_at spans number span inside is = slice_get-get_or spans number no_span inside ∙ ap Some (sym is)

-- what a look-up tells of an anchor
pub block_anchor : (anchors : List Anchor) (block : ℕ) (anchor : Anchor) → block < length anchors → anchor ≡ get_or anchors block anchor → anchor ≡ get_or anchors block no_anchor
block_anchor anchors block anchor l is = sym (get_or_from_slice_get anchors block anchor no_anchor (slice_get_read anchors (length anchors) block anchor refl l is))

other_same : (m n : ℕ) → Other m ≡ Other n → m ≡ n
other_same m n e = cc

no_other : (count start n : ℕ) → File count start ≡ Other n → ⊥
no_other count start n e = cc

file_same : (a b c d : ℕ) → File a b ≡ File c d → b ≡ d
file_same a b c d e = cc

module _ (packed : List Packed) (anchors : List Anchor) (others : List Span) (h : ArePacked packed anchors others) where
  -- an entry's block has an anchor
  pub anchor_inside : (i : ℕ) → i < length packed → i / 256 < length anchors
  anchor_inside i l = let a = h.anchored in omega (arith, l, a)

  -- what a look-up tells of an entry's anchor
  pub anchor-read : (i : ℕ) (anchor : Anchor) → i < length packed → anchor ≡ get_or anchors (i / 256) anchor → anchor ≡ anchor_of anchors i
  anchor-read i anchor l = block_anchor anchors (i / 256) anchor (anchor_inside i l)

  -- what look-ups of an entry and of its anchor tell
  module _ (i : ℕ) (inside : i < length packed) (entry : Packed) (found : entry ≡ get_or packed i entry) where
    pub entry-read : (x : Packed) → entry ≡ x → slice_get packed i ≡ Some x
    entry-read x is = slice_get_read packed (length packed) i entry refl inside found ∙ ap Some is

    -- the span stands among the others
    pub other-place : (from : Anchor) → from ≡ get_or anchors (i / 256) from → (n : ℕ) → entry ≡ Other n
        → (from.others ≡ (anchor_of anchors i).others) × (from.others + n < length others)
    other-place from from_found n is =
        let same = ap (λ (a : Anchor). a.others) (anchor-read i from inside from_found) in
        let there = h.other_inside i n (entry-read (Other n) is) in
        (same, omega (arith, same, there))

  -- ---- one more anchor

  module _ (first : Anchor) (is_first : first.others ≡ length others) where
    abbrev block : ℕ
    block = length packed / 256

    abbrev more_anchors : List Anchor
    more_anchors = anchors ++ first ∷ []

    anchor-old : (i : ℕ) → i < length packed → anchor_of more_anchors i ≡ anchor_of anchors i
    anchor-old i l = get_or_append_left anchors (first ∷ []) no_anchor (i / 256) (anchor_inside i l)

    old_or_first : (b : ℕ) → b < length more_anchors → (get_or more_anchors b no_anchor ≡ get_or anchors b no_anchor) × (b < length anchors) ⊎ (get_or more_anchors b no_anchor ≡ first) × (b ≡ length anchors)
    old_or_first b l = elim (cases_lt b (length anchors)) [
      | inl lt ↦ inl (get_or_append_left anchors (first ∷ []) no_anchor b lt, lt)
      | inr ge ↦
          let e : b ≡ length anchors = omega (arith, l, ge, length_push anchors first) in
          inr (ap (λ k. get_or more_anchors k no_anchor) e ∙ get_or-append_seam anchors first [] no_anchor, e)
    ]

    added : length anchors ≤ block → ArePacked packed more_anchors others
    added none = record {
      anchored = let a = h.anchored in omega (arith, a, length_push anchors first);
      start_fits = λ i count start e. subst (λ (a : Anchor). a.start + start < 2 ^ 64) (sym (anchor-old i (slice_get_within packed i (File count start) e))) (h.start_fits i count start e);
      other_inside = λ i n e. subst (λ (a : Anchor). a.others + n < length others) (sym (anchor-old i (slice_get_within packed i (Other n) e))) (h.other_inside i n e);
      other_once = λ i j m n e f same.
          let p = ap (λ (a : Anchor). a.others + m) (anchor-old i (slice_get_within packed i (Other m) e)) in
          let q = ap (λ (a : Anchor). a.others + n) (anchor-old j (slice_get_within packed j (Other n) f)) in
          h.other_once i j m n e f (sym p ∙ (same ∙ q));
      others_before = λ b l. elim (old_or_first b l) [
        | inl r ↦ subst (λ (a : Anchor). a.others ≤ length others) (sym r.0) (h.others_before b r.1)
        | inr r ↦ subst (λ (a : Anchor). a.others ≤ length others) (sym r.0) (omega (arith, is_first))
      ];
      others_few = λ b l. elim (old_or_first b l) [
        | inl r ↦ subst (λ (a : Anchor). length others + b * 256 ≤ a.others + length packed) (sym r.0) (h.others_few b r.1)
        | inr r ↦ let at = r.1 in subst (λ (a : Anchor). length others + b * 256 ≤ a.others + length packed) (sym r.0) (omega (arith, is_first, at, none))
      ];
    }

    same : unpacked packed more_anchors others ≡ unpacked packed anchors others
    same = unpacked-same packed anchors others more_anchors others (λ i x e. ap (λ a. span_of a others x) (anchor-old i (slice_get_within packed i x e)))

    -- the next entry's block has an anchor now, and all stays
    pub with_anchor : ArePacked packed (anchors_with anchors block first) others × (block < length (anchors_with anchors block first)) × (unpacked packed (anchors_with anchors block first) others ≡ unpacked packed anchors others)
    with_anchor =
        let P : List Anchor → Type 0 = λ xs. ArePacked packed xs others × (block < length xs) × (unpacked packed xs others ≡ unpacked packed anchors others) in
        elim (cases_lt block (length anchors)) [
          | inl l ↦ subst P (sym (ap (λ b. cond b anchors more_anchors) (lt-ltb block (length anchors) l))) (h, l, refl)
          | inr g ↦ subst P (sym (ap (λ b. cond b anchors more_anchors) (le-ltb block (length anchors) g))) (added g, let a = h.anchored in omega (arith, a, length_push anchors first), same)
        ]

  -- ---- one more entry

  abbrev anchor : Anchor
  anchor = anchor_of anchors (length packed)

  module _ (room : length packed / 256 < length anchors) where
    -- the number of the next span is small
    pub number_fits : (anchor.others ≤ length others) × (length others - anchor.others < 256)
    number_fits = let b = h.others_before (length packed / 256) room in let f = h.others_few (length packed / 256) room in (b, omega (arith, b, f))

    -- what is added has no span of an entry before it
    record IsNew (x : Packed) (new_others : List Span) : Type 0 where
      fewer : length others ≤ length new_others
      few : length new_others ≤ length others + 1
      file : (count start : ℕ) → x ≡ File count start → anchor.start + start < 2 ^ 64
      other : (n : ℕ) → x ≡ Other n → (anchor.others + n ≡ length others) × (length others < length new_others)

    are_more : (x : Packed) (new_others : List Span) → IsNew x new_others → ArePacked (packed ++ x ∷ []) anchors new_others
    are_more x new_others new = record {
      anchored = omega (arith, room, length_push packed x);
      start_fits = λ i count start e. elim (get-cases packed x i (File count start) e) [
        | inl q ↦ h.start_fits i count start q
        | inr q ↦ subst (λ k. (anchor_of anchors k).start + start < 2 ^ 64) (sym q.0) (new.file count start q.1)
      ];
      other_inside = λ i n e. elim (get-cases packed x i (Other n) e) [
        | inl q ↦ let l = h.other_inside i n q in let f = new.fewer in omega (arith, l, f)
        | inr q ↦ let r = new.other n q.1 in subst (λ k. (anchor_of anchors k).others + n < length new_others) (sym q.0) (omega (arith, r))
      ];
      other_once = λ i j m n e f same. elim (get-cases packed x i (Other m) e) [
        | inl q ↦ elim (get-cases packed x j (Other n) f) [
          | inl r ↦ h.other_once i j m n q r same
          | inr r ↦
              let last = ap (λ k. (anchor_of anchors k).others + n) r.0 in
              absurd (let l = h.other_inside i m q in let s = (new.other n r.1).0 in omega (arith, l, s, same, last))
        ]
        | inr q ↦
            let last = ap (λ k. (anchor_of anchors k).others + m) q.0 in
            elim (get-cases packed x j (Other n) f) [
              | inl r ↦ absurd (let l = h.other_inside j n r in let s = (new.other m q.1).0 in omega (arith, l, s, same, last))
              | inr r ↦ q.0 ∙ sym r.0
            ]
      ];
      others_before = λ b l. let o = h.others_before b l in let f = new.fewer in omega (arith, o, f);
      others_few = λ b l. let o = h.others_few b l in let f = new.few in omega (arith, o, f, length_push packed x);
    }

  -- ---- a file more

  module _ (block_start : ℕ) (starts : BeginsBlock packed anchors block_start) (span : Span) (x : Packed) (is : IsFile (length packed) block_start span x) where
    begins : anchor.start + is.behind ≡ span.start
    begins = ap (λ n. n + is.behind) (sym (starts is.later)) ∙ is.begins

    pub more-file : ArePacked (packed ++ x ∷ []) anchors others
    more-file = are_more (let a = h.anchored in let l = is.later in omega (arith, a, l)) x others (record {
      fewer = omega arith;
      few = omega arith;
      file = λ count start e. let s = file_same span.length is.behind count start (sym is.is ∙ e) in let f = is.fits in omega (arith, s, begins, f);
      other = λ n e. absurd (no_other span.length is.behind n (sym is.is ∙ e));
    })

    pub starts-file : BeginsBlock (packed ++ x ∷ []) anchors block_start
    starts-file later =
        let same : length (packed ++ x ∷ []) / 256 ≡ length packed / 256 = omega (arith, later, length_push packed x) in
        starts is.later ∙ ap (λ b. (get_or anchors b no_anchor).start) (sym same)

    pub view-file : unpacked (packed ++ x ∷ []) anchors others ≡ unpacked packed anchors others ++ span ∷ []
    view-file = unpacked-more packed anchors others x others span (λ i y e. refl) (
        ap (span_of anchor others) is.is ∙ (ap (λ n. record { start = n; length = span.length; end = 0 }) begins ∙ ap (λ n. record { start = span.start; length = span.length; end = n }) (sym is.ends))
        )

  -- ---- any other more

  module _ (room : length packed / 256 < length anchors) (span : Span) where
    abbrev more_others : List Span
    more_others = others ++ span ∷ []

    module _ (n : ℕ) (is : anchor.others + n ≡ length others) where
      pub more-other : ArePacked (packed ++ Other n ∷ []) anchors more_others
      more-other =
          let long = length_push others span in
          are_more room (Other n) more_others (record {
            fewer = omega (arith, long);
            few = omega (arith, long);
            file = λ count start e. absurd (no_other count start n (sym e));
            other = λ m e. let s = other_same n m e in (omega (arith, s, is), omega (arith, long));
          })

      pub starts-other : BeginsBlock (packed ++ Other n ∷ []) anchors anchor.start
      starts-other later =
          let same : length packed / 256 ≡ length (packed ++ Other n ∷ []) / 256 = omega (arith, later, length_push packed (Other n)) in
          ap (λ b. (get_or anchors b no_anchor).start) same

      pub view-other : unpacked (packed ++ Other n ∷ []) anchors more_others ≡ unpacked packed anchors others ++ span ∷ []
      view-other = unpacked-more packed anchors others (Other n) more_others span kept (ap (λ k. get_or more_others k no_span) is ∙ get_or-append_seam others span [] no_span)
        where
          kept : (i : ℕ) (y : Packed) → slice_get packed i ≡ Some y → span_of (anchor_of anchors i) more_others y ≡ span_of (anchor_of anchors i) others y
          kept i (File count start) e = refl
          kept i (Other m) e = get_or_append_left others (span ∷ []) no_span ((anchor_of anchors i).others + m) (h.other_inside i m e)

  -- ---- an end that changes

  module _ (number n : ℕ) (at : slice_get packed number ≡ Some (Other n)) (span : Span) where
    abbrev place : ℕ
    place = (anchor_of anchors number).others + n

    pub view-set_other : unpacked packed anchors (set others place span) ≡ set (unpacked packed anchors others) number span
    view-set_other = ext_get_or no_span (unpacked packed anchors (set others place span)) (set (unpacked packed anchors others) number span) long (λ i l. let inside : i < length packed = omega (arith, l, length-unpacked packed anchors (set others place span)) in at_place i (get_or packed i no_entry) (slice_get-get_or packed i no_entry inside))
      where
        long : length (unpacked packed anchors (set others place span)) ≡ length (set (unpacked packed anchors others) number span)
        long = omega (arith, length-unpacked packed anchors (set others place span), length-unpacked packed anchors others, length-set (unpacked packed anchors others) number span)

        kept : (i : ℕ) (x : Packed) → slice_get packed i ≡ Some x → i ≢ number → span_of (anchor_of anchors i) (set others place span) x ≡ span_of (anchor_of anchors i) others x
        kept i (File count start) e ne = refl
        kept i (Other m) e ne = get_or-set_other others place ((anchor_of anchors i).others + m) span no_span (λ q. ne (h.other_once i number m n e at q))

        here : get_or (unpacked packed anchors (set others place span)) number no_span ≡ get_or (set (unpacked packed anchors others) number span) number no_span
        here =
            let inside : number < length (unpacked packed anchors others) = omega (arith, slice_get_within packed number (Other n) at, length-unpacked packed anchors others) in
            span-at packed anchors (set others place span) number (Other n) at
            ∙ (get_or-set_same others place span no_span (h.other_inside number n at) ∙ sym (get_or-set_same (unpacked packed anchors others) number span no_span inside))

        at_place : (i : ℕ) (x : Packed) → slice_get packed i ≡ Some x → get_or (unpacked packed anchors (set others place span)) i no_span ≡ get_or (set (unpacked packed anchors others) number span) i no_span
        at_place i x e = elim (cases_eq i number) [
          | inl same ↦ subst (λ k. get_or (unpacked packed anchors (set others place span)) k no_span ≡ get_or (set (unpacked packed anchors others) number span) k no_span) (sym same) here
          | inr ne ↦
              span-at packed anchors (set others place span) i x e
              ∙ (kept i x e ne ∙ (sym (span-at packed anchors others i x e) ∙ sym (get_or-set_other (unpacked packed anchors others) number i span no_span ne)))
        ]
