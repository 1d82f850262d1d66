-- Texts in one buffer, put there one behind the other, each with what it shares with the one before and its link.
use Rattle.std.proofs.Common.{◌≡◌, ℕ, suc, ◌+◌, ◌-◌, ◌<◌, ◌≤◌, refl, sym, ◌∙◌, ap, subst, inl, inr, List, [], ◌∷◌, ◌++◌, length, get_or, arith, take, drop, length-append, length-drop, length-take, Option}
use Rattle.std.proofs.lemmas.List.{get_or_push, get_or-map, length-map, map-append, drop-append-le, take-append-le}
use Rattle.std.proofs.Math.ListN.{get_or-append}
use Rattle.std.proofs.Math.Seq.{drop-append_seam, take-length}
use Rattle.pathspec_heads.specs.Agreement.{agreement}
use Rattle.pathspec_heads.specs.Heads.{head_at, span_text, span_texts, IsRising, IsLastFront, IsSpan, AreSpans}
use Rattle.pathspec_heads.specs.declared.sorted_texts.Span.{Span}
use Rattle.pathspec_heads.specs.declared.probe.TheConstants.{ROOM}
use Rattle.pathspec_heads.proofs.HeadProofs.{le_split, last_front-stays}

-- ---- the text of a span

module _ (bytes : List ℕ) (spans : List Span) (known : AreSpans bytes spans) (heads : List (List ℕ)) (view : span_texts bytes spans ≡ heads) (i : ℕ) (inside : i < length heads) (span : Span) (is : span ≡ get_or spans i span) where
  in-spans : i < length spans
  in-spans = omega (arith, inside, ap length view, length-map spans (span_text bytes))

  pub span-at : IsSpan bytes heads i span
  span-at = subst (λ (s : Span). IsSpan bytes heads i s) (sym is) (subst (λ hs. IsSpan bytes hs i (get_or spans i span)) view (known.each i span in-spans))

  pub text-is : take span.len (drop span.start bytes) ≡ head_at heads i
  text-is =
      ap (λ n. take n (drop span.start bytes)) (omega arith)
      ∙ (ap (span_text bytes) is ∙ (sym (get_or-map (span_text bytes) spans i span [] in-spans) ∙ ap (λ hs. head_at hs i) view))

  pub length-is : span.len ≡ length (head_at heads i)
  length-is = omega (arith, ap length text-is, length-take span.len (drop span.start bytes), length-drop span.start bytes, span-at.within)

-- ---- bytes are put behind others

text-stays : (bytes more : List ℕ) (span : Span) → span.start + span.len ≤ length bytes → span_text (bytes ++ more) span ≡ span_text bytes span
text-stays bytes more span h =
    let n = span.start + span.len - span.start in
    ap (take n) (drop-append-le span.start bytes more (omega (arith, h)))
    ∙ take-append-le n (drop span.start bytes) more (omega (arith, h, length-drop span.start bytes))

span_texts-stay : (bytes more : List ℕ) (spans : List Span) → ((i : ℕ) (d : Span) → i < length spans → (get_or spans i d).start + (get_or spans i d).len ≤ length bytes) → span_texts (bytes ++ more) spans ≡ span_texts bytes spans
span_texts-stay bytes more [] h = refl
span_texts-stay bytes more (span ∷ spans) h =
    let here : span_text (bytes ++ more) span ≡ span_text bytes span = text-stays bytes more span (h 0 span (omega arith)) in
    let rest : span_texts (bytes ++ more) spans ≡ span_texts bytes spans = span_texts-stay bytes more spans (λ k d l. h (suc k) d (omega (arith, l))) in
    ap (λ x. x ∷ span_texts (bytes ++ more) spans) here ∙ ap (λ xs. span_text bytes span ∷ xs) rest

span-stays : (bytes more : List ℕ) (texts : List (List ℕ)) (i : ℕ) (span : Span) → IsSpan bytes texts i span → IsSpan (bytes ++ more) texts i span
span-stays bytes more texts i span s = record { within = omega (arith, s.within, length-append bytes more); room = omega (arith, s.room, length-append bytes more); shared = s.shared; linked = s.linked }

-- bytes behind all texts change nothing
module _ (bytes more : List ℕ) (spans : List Span) (s : AreSpans bytes spans) where
  pub texts-stay : span_texts (bytes ++ more) spans ≡ span_texts bytes spans
  texts-stay = span_texts-stay bytes more spans (λ i d l. (s.each i d l).within)

  pub spans-stay : AreSpans (bytes ++ more) spans
  spans-stay = record {
    rising = subst IsRising (sym texts-stay) s.rising;
    each = λ i d l. span-stays bytes more (span_texts (bytes ++ more) spans) i (get_or spans i d) (subst (λ hs. IsSpan bytes hs i (get_or spans i d)) (sym texts-stay) (s.each i d l));
  }

-- ---- one more text

module _ (bytes : List ℕ) (spans : List Span) (known : AreSpans bytes spans) (new : Span) (text : List ℕ) (is : span_text bytes new ≡ text) where
  abbrev heads : List (List ℕ)
  heads = span_texts bytes spans

  count : length (span_texts bytes spans) ≡ length spans
  count = length-map spans (span_text bytes)

  pub texts-push : span_texts bytes (spans ++ new ∷ []) ≡ span_texts bytes spans ++ text ∷ []
  texts-push = map-append (span_text bytes) spans (new ∷ []) ∙ ap (λ x. heads ++ x ∷ []) is

  old-head : (i : ℕ) → i < length spans → head_at heads i ≡ head_at (heads ++ text ∷ []) i
  old-head i l = sym (get_or-append heads (text ∷ []) [] i (omega (arith, l, count)))

  new-head : (i : ℕ) → i ≡ length spans → text ≡ head_at (heads ++ text ∷ []) i
  new-head i e = sym (get_or_push heads text [] i (count ∙ sym e))

  old-span : (i : ℕ) (span : Span) → i < length spans → IsSpan bytes (span_texts bytes spans) i span → IsSpan bytes (span_texts bytes spans ++ text ∷ []) i span
  old-span i span l s = record {
    within = s.within;
    room = s.room;
    shared = λ k e. s.shared k e ∙ (ap (λ x. agreement x (head_at heads i)) (old-head k (omega (arith, e, l))) ∙ ap (agreement (head_at (heads ++ text ∷ []) k)) (old-head i l));
    linked = subst (λ x. IsLastFront (heads ++ text ∷ []) i x span.link) (old-head i l) (last_front-stays heads (text ∷ []) i (head_at heads i) span.link (omega (arith, l, count)) s.linked);
  }

  module _ (within : new.start + new.len ≤ length bytes) (room : new.start + ROOM ≤ length bytes) (rising : IsRising (span_texts bytes spans ++ text ∷ []))
      (shared : (k : ℕ) → k + 1 ≡ length (span_texts bytes spans) → new.shared ≡ agreement (head_at (span_texts bytes spans) k) text) (linked : IsLastFront (span_texts bytes spans) (length (span_texts bytes spans)) text new.link) where
    new-span : (i : ℕ) → i ≡ length spans → IsSpan bytes (span_texts bytes spans ++ text ∷ []) i new
    new-span i e = record {
      within = within;
      room = room;
      shared = λ k f. shared k (omega (arith, e, f, count)) ∙ (ap (λ x. agreement x text) (old-head k (omega (arith, e, f))) ∙ ap (agreement (head_at (heads ++ text ∷ []) k)) (new-head i e));
      linked = subst (λ x. IsLastFront (heads ++ text ∷ []) i x new.link) (new-head i e)
          (last_front-stays heads (text ∷ []) i text new.link (omega (arith, e, count)) (subst (λ n. IsLastFront heads n text new.link) (omega (arith, e, count)) linked));
    }

    pub spans-push : AreSpans bytes (spans ++ new ∷ [])
    spans-push = record {
      rising = subst IsRising (sym texts-push) rising;
      each = λ i d l. subst (λ hs. IsSpan bytes hs i (get_or (spans ++ new ∷ []) i d)) (sym texts-push) (elim (le_split i (length spans) (omega (arith, l, length-append spans (new ∷ [])))) [
        | inl e ↦ subst (λ (s : Span). IsSpan bytes (heads ++ text ∷ []) i s) (sym (get_or_push spans new d i (sym e))) (new-span i e)
        | inr s ↦ subst (λ (x : Span). IsSpan bytes (heads ++ text ∷ []) i x) (sym (get_or-append spans (new ∷ []) d i s)) (old-span i (get_or spans i d) s (known.each i d s))
      ]);
    }

-- one more text, with bytes behind it
module _ (old text pad : List ℕ) (spans : List Span) (known : AreSpans old spans) (start len shared : ℕ) (link : Option ℕ) (starts : start ≡ length old) (ends : len ≡ length text) where
  abbrev last : Span
  last = record { start = start; len = len; shared = shared; link = link }

  abbrev all : List ℕ
  all = (old ++ text) ++ pad

  kept : AreSpans ((old ++ text) ++ pad) spans
  kept = spans-stay (old ++ text) pad spans (spans-stay old text spans known)

  same : span_texts ((old ++ text) ++ pad) spans ≡ span_texts old spans
  same = texts-stay (old ++ text) pad spans (spans-stay old text spans known) ∙ texts-stay old text spans known

  last-text : span_text ((old ++ text) ++ pad) (record { start = start; len = len; shared = shared; link = link }) ≡ text
  last-text =
      text-stays (old ++ text) pad last (omega (arith, starts, ends, length-append old text))
      ∙ (ap (λ n. take (n + len - n) (drop n (old ++ text))) starts
      ∙ (ap (λ n. take n (drop (length old) (old ++ text))) (omega (arith, ends))
      ∙ (ap (take (length text)) (drop-append_seam old text) ∙ take-length text)))

  pub texts-more : span_texts ((old ++ text) ++ pad) (spans ++ record { start = start; len = len; shared = shared; link = link } ∷ []) ≡ span_texts old spans ++ text ∷ []
  texts-more = texts-push all spans kept last text last-text ∙ ap (λ hs. hs ++ text ∷ []) same

  pub spans-more : ROOM ≤ length text + length pad → IsRising (span_texts old spans ++ text ∷ []) → ((k : ℕ) → k + 1 ≡ length (span_texts old spans) → shared ≡ agreement (head_at (span_texts old spans) k) text)
      → IsLastFront (span_texts old spans) (length (span_texts old spans)) text link → AreSpans ((old ++ text) ++ pad) (spans ++ record { start = start; len = len; shared = shared; link = link } ∷ [])
  spans-more enough rising agrees linked =
      let long : length all ≡ length old + length text + length pad = omega (arith, length-append (old ++ text) pad, length-append old text) in
      spans-push all spans kept last text last-text (omega (arith, starts, ends, long)) (omega (arith, starts, enough, long))
      (subst (λ hs. IsRising (hs ++ text ∷ [])) (sym same) rising)
      (subst (λ hs. (k : ℕ) → k + 1 ≡ length hs → shared ≡ agreement (head_at hs k) text) (sym same) agrees)
      (subst (λ hs. IsLastFront hs (length hs) text link) (sym same) linked)
