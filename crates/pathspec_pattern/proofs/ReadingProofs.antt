-- The reading as a function is the relation, and a text has at most one cut.
use Rattle.std.proofs.Common.{◌≡◌, ◌≢◌, ℕ, ◌+◌, Bool, true, false, not, ◌||◌, ◌⊎◌, inl, inr, refl, sym, ◌∙◌, ap, subst, List, [], ◌∷◌, ◌++◌, length, take, drop, Option, Some, None, Result, Ok, Err, ◌==◌, cond, append_assoc}
use Rattle.std.proofs.lemmas.Bool.{and_parts, and_from, or_parts, or_from, cases_Bool, cond-true, cond-false, eqb-true, not_from_false, not_from_true, not-true, not-false, or_cases, false_from_ne_true, both_ways}
use Rattle.std.proofs.lemmas.List.{take-append-drop}
use Rattle.std.proofs.Math.Seq.{take-append_seam, drop-append_seam}
use Rattle.std.proofs.Math.Numerals.{one-add, add-one}
use Rattle.std.specs.Prelude.{bytes_eq}
use Rattle.std.proofs.lemmas.Slice.Eq.{bytes_eq-Decides}
use Rattle.std.specs.List.{list_any, list_all, prefix_len, before_first, after_first}
use Rattle.pathspec_pattern.specs.declared.defaults.Defaults.{Defaults}
use Rattle.pathspec_parts.specs.Bytes.{slash, bang, colon, open_paren, close_paren, first_is, is_empty}
use Rattle.pathspec_pattern.specs.Results.{◌>>=◌}
use Rattle.pathspec_pattern.specs.Faults.{Fault}
use Rattle.pathspec_pattern.specs.Faults.Fault.{Empty, UnimplementedShort, MissingParen, InvalidPrefix}
use Rattle.pathspec_pattern.specs.Signatures.{signature_bits}
use Rattle.pathspec_pattern.specs.Specs.{Spec, is_boundary, has_boundary}
use Rattle.pathspec_parts.specs.Paths.{without_last_slash}
use Rattle.pathspec_pattern.specs.Reading.{Cut, IsCut, text_of, cut_of, cut_end, cut_long, cut_paren, is_short, is_unimplemented, is_colon, end_mark, in_parentheses, holds_close, may_begin, magic_of, magic_reading, Magic, Reads, IsRefused, reading, spec_of, body_spec, prefix_length_of, piece_number, no_magic, nil_spec, literal_spec, OneCut, ReadingIsExact, ReadHasBoundary}
use Rattle.pathspec_pattern.specs.Reading.Reads.{verbatim, nothing, plain, magic}
use Rattle.pathspec_pattern.specs.Reading.IsRefused.{empty, short as short_fault, paren, piece, boundary}
use Rattle.pathspec_pattern.proofs.ResultProofs.{bind_ok}
use Rattle.pathspec_pattern.proofs.AttributeTextProofs.{list_any-append_hit, before-append, after-append}

-- ---- the front that passes a test

prefix_len-whole : (p : ℕ → Bool) (xs ys : List ℕ) → list_all p xs ≡ true → first_is p ys ≡ false → prefix_len p (xs ++ ys) ≡ length xs
prefix_len-whole p [] [] a f = refl
prefix_len-whole p [] (y ∷ ys) a f = cond-false (p y) (1 + prefix_len p ys) 0 f
prefix_len-whole p (x ∷ xs) ys a f =
    let h = and_parts (p x) (list_all p xs) a in
    cond-true (p x) (1 + prefix_len p (xs ++ ys)) 0 h.0 ∙ (ap (λ n. 1 + n) (prefix_len-whole p xs ys h.1 f) ∙ one-add (length xs))

front_passes : (p : ℕ → Bool) (xs : List ℕ) → list_all p (take (prefix_len p xs) xs) ≡ true
front_passes p [] = refl
front_passes p (x ∷ xs) = elim (cases_Bool (p x)) [
  | inl h ↦ rw (h, one-add) (and_from (p x) (list_all p (take (prefix_len p xs) xs)) h (front_passes p xs))
  | inr h ↦ rw h refl
]

rest_fails : (p : ℕ → Bool) (xs : List ℕ) → first_is p (drop (prefix_len p xs) xs) ≡ false
rest_fails p [] = refl
rest_fails p (x ∷ xs) = elim (cases_Bool (p x)) [
  | inl h ↦ rw (h, one-add) (rest_fails p xs)
  | inr h ↦ rw h h
]

-- ---- a text after its short magic

pub record After (short rest : List ℕ) : Type 0 where
  pub all : list_all is_short short ≡ true
  pub stops : first_is is_short rest ≡ false

after : (m : List ℕ) → After (take (prefix_len is_short m) m) (drop (prefix_len is_short m) m)
after m = record { all = front_passes is_short m; stops = rest_fails is_short m }

-- the cut of a text goes by its short magic and what follows
cut_of-after : (short rest : List ℕ) → After short rest → cut_of (colon ∷ short ++ rest) ≡ cut_end (colon ∷ short ++ rest) short rest
unfolding cut_of
cut_of-after short rest h = rw (prefix_len-whole is_short short rest h.all h.stops, take-append_seam short rest, drop-append_seam short rest) refl

-- ---- the first `)`

abbrev is_close : ℕ → Bool
is_close b = b == close_paren

pub record AtClose (bs : List ℕ) : Type 0 where
  pub whole : bs ≡ before_first is_close bs ++ close_paren ∷ after_first is_close bs
  pub none : list_any is_close (before_first is_close bs) ≡ false

at_close : (bs : List ℕ) → list_any is_close bs ≡ true → AtClose bs
at_close [] h = cc
at_close (b ∷ bs) h = elim (cases_Bool (b == close_paren)) [
  | inl c ↦ record { whole = rw c (ap (λ x. x ∷ bs) (eqb-true b close_paren c)); none = rw c refl }
  | inr n ↦
      let ih = at_close bs (rw n at h) in
      record { whole = rw (n, one-add, add-one) (ap (λ x. b ∷ x) (rw add-one at ih.whole)); none = rw (n, one-add) (or_from (b == close_paren) _ n ih.none) }
]

-- ---- what a cut is

text_regrouped : (cut : Cut) → text_of cut ≡ colon ∷ cut.short ++ (end_mark cut.ended ++ (in_parentheses cut.long ++ cut.body))
text_regrouped cut = simp append_assoc

-- ---- a cut is found

-- the facts on a byte that may begin a bare body
pub record Bare (b : ℕ) : Type 0 where
  pub short : is_short b ≡ false
  pub free : is_unimplemented b ≡ false
  pub colon : (b == colon) ≡ false
  pub paren : (b == open_paren) ≡ false

bare : (b : ℕ) → may_begin false None b ≡ true → Bare b
bare b h =
    let p = or_parts (((is_short b || is_unimplemented b) || b == colon)) (b == open_paren) (not-true _ h) in
    let q = or_parts (is_short b || is_unimplemented b) (b == colon) p.0 in
    let r = or_parts (is_short b) (is_unimplemented b) q.0 in
    record { short = r.0; free = r.1; colon = q.1; paren = p.1 }

paren_found : (text short : List ℕ) (ended : Bool) (long body : List ℕ) → list_any is_close long ≡ false
    → cut_paren text short ended (long ++ close_paren ∷ body) ≡ Ok (record { short = short; ended = ended; long = Some long; body = body })
paren_found text short ended long body h =
    rw (list_any-append_hit is_close long close_paren body refl, before-append is_close long close_paren body h refl, after-append is_close long close_paren body h refl) refl

end_found : (text short : List ℕ) (ended : Bool) (long : Option (List ℕ)) (body : List ℕ) → holds_close long ≡ false → first_is (λ b. not (may_begin ended long b)) body ≡ false
    → cut_end text short (end_mark ended ++ (in_parentheses long ++ body)) ≡ Ok (record { short = short; ended = ended; long = long; body = body })
unfolding is_unimplemented
end_found text short true None [] h f = refl
end_found text short true None (b ∷ bs) h f = let n = not-true (b == open_paren) (not-false (not (b == open_paren)) f) in rw n refl
end_found text short false None [] h f = refl
end_found text short false None (b ∷ bs) h f = let n = bare b (not-false _ f) in rw (n.free, n.colon, n.paren) refl
end_found text short true (Some long) body h f = rw (append_assoc long (close_paren ∷ []) body) (paren_found text short true long body h)
end_found text short false (Some long) body h f = rw (append_assoc long (close_paren ∷ []) body) (paren_found text short false long body h)

stops_at : (ended : Bool) (long : Option (List ℕ)) (body : List ℕ) → first_is (λ b. not (may_begin ended long b)) body ≡ false → first_is is_short (end_mark ended ++ (in_parentheses long ++ body)) ≡ false
stops_at true long body f = refl
stops_at false (Some long) body f = refl
stops_at false None [] f = refl
stops_at false None (b ∷ bs) f = (bare b (not-false _ f)).short

pub cut_found : (cut : Cut) → IsCut cut → cut_of (text_of cut) ≡ Ok cut
cut_found cut h =
    rw (text_regrouped cut) (cut_of-after cut.short (end_mark cut.ended ++ (in_parentheses cut.long ++ cut.body)) (record { all = h.short; stops = stops_at cut.ended cut.long cut.body h.body })
    ∙ end_found _ cut.short cut.ended cut.long cut.body h.long h.body)

pub one_cut : OneCut
one_cut a b p q e = let h = sym (cut_found a p) ∙ (ap cut_of e ∙ cut_found b q) in cc

-- ---- what is found is a cut

-- the cut has this short magic and end mark, and the rest of this text
pub record Cuts (short : List ℕ) (ended : Bool) (rest : List ℕ) (cut : Cut) : Type 0 where
  pub is_cut : IsCut cut
  pub short_is : cut.short ≡ short
  pub ended_is : cut.ended ≡ ended
  pub rest_is : rest ≡ in_parentheses cut.long ++ cut.body

none_first : (xs : List ℕ) → first_is (λ b. false) xs ≡ false
none_first [] = refl
none_first (x ∷ xs) = refl

paren_sound : (text short : List ℕ) (ended : Bool) (rest : List ℕ) (cut : Cut) → list_all is_short short ≡ true → cut_paren text short ended rest ≡ Ok cut → Cuts short ended (open_paren ∷ rest) cut
paren_sound text short ended rest cut s e = elim (cases_Bool (list_any is_close rest)) [
  | inl y ↦
      let c : Cut = record { short = short; ended = ended; long = Some (before_first is_close rest); body = after_first is_close rest } in
      let a = at_close rest y in
      let made : Cuts short ended (open_paren ∷ rest) c = record {
        is_cut = record { short = s; long = a.none; body = none_first (after_first is_close rest) };
        short_is = refl;
        ended_is = refl;
        rest_is = ap (λ x. open_paren ∷ x) (a.whole ∙ sym (append_assoc (before_first is_close rest) (close_paren ∷ []) (after_first is_close rest)));
      } in
      let same : c ≡ cut = let f = rw y at e in cc in
      subst (Cuts short ended (open_paren ∷ rest)) same made
  | inr n ↦ let f = rw n at e in absurd (let no : ⊥ = cc in no)
]

long_sound : (text short : List ℕ) (ended : Bool) (rest : List ℕ) (cut : Cut) → list_all is_short short ≡ true → ((b : ℕ) (bs : List ℕ) → rest ≡ b ∷ bs → (b == open_paren) ≡ false → may_begin ended None b ≡ true)
    → cut_long text short ended rest ≡ Ok cut → Cuts short ended rest cut
long_sound text short ended [] cut s m e =
    let same : record { short = short; ended = ended; long = None; body = [] } ≡ cut = cc in
    subst (Cuts short ended []) same (record { is_cut = record { short = s; long = refl; body = refl }; short_is = refl; ended_is = refl; rest_is = refl })
long_sound text short ended (b ∷ bs) cut s m e = elim (cases_Bool (b == open_paren)) [
  | inl y ↦ rw (eqb-true b open_paren y) (paren_sound text short ended bs cut s (rw y at e))
  | inr n ↦
      let f = rw n at e in
      let c : Cut = record { short = short; ended = ended; long = None; body = b ∷ bs } in
      let same : c ≡ cut = cc in
      subst (Cuts short ended (b ∷ bs)) same (record { is_cut = record { short = s; long = refl; body = not_from_true (may_begin ended None b) (m b bs refl n) }; short_is = refl; ended_is = refl; rest_is = refl })
]

may_begin_ended : (b : ℕ) → (b == open_paren) ≡ false → may_begin true None b ≡ true
may_begin_ended b n = not_from_false (b == open_paren) n

may_begin_bare : (b : ℕ) → is_short b ≡ false → is_unimplemented b ≡ false → (b == colon) ≡ false → (b == open_paren) ≡ false → may_begin false None b ≡ true
may_begin_bare b s u c o = rw (s, u, c, o) refl

-- the cut is one of this text after its short magic
pub record CutsAfter (short rest : List ℕ) (cut : Cut) : Type 0 where
  pub is_cut : IsCut cut
  pub short_is : cut.short ≡ short
  pub rest_is : rest ≡ end_mark cut.ended ++ (in_parentheses cut.long ++ cut.body)

after_end : (short rest : List ℕ) (ended : Bool) (cut : Cut) → Cuts short ended rest cut → CutsAfter short (end_mark ended ++ rest) cut
after_end short rest ended cut h = record { is_cut = h.is_cut; short_is = h.short_is; rest_is = ap (λ x. end_mark ended ++ x) h.rest_is ∙ ap (λ x. end_mark x ++ (in_parentheses cut.long ++ cut.body)) (sym h.ended_is) }

end_sound : (text short rest : List ℕ) (cut : Cut) → After short rest → cut_end text short rest ≡ Ok cut → CutsAfter short rest cut
end_sound text short [] cut h e =
    let same : record { short = short; ended = false; long = None; body = [] } ≡ cut = cc in
    subst (CutsAfter short []) same (record { is_cut = record { short = h.all; long = refl; body = refl }; short_is = refl; rest_is = refl })
end_sound text short (b ∷ bs) cut h e = elim (cases_Bool (is_unimplemented b)) [
  | inl u ↦ let f = rw u at e in absurd (let no : ⊥ = cc in no)
  | inr u ↦ elim (cases_Bool (b == colon)) [
    | inl c ↦ rw (eqb-true b colon c) (after_end short bs true cut (long_sound text short true bs cut h.all (λ d ds q. may_begin_ended d) (rw (u, c) at e)))
    | inr c ↦ after_end short (b ∷ bs) false cut (long_sound text short false (b ∷ bs) cut h.all
        (λ d ds q n. let e : b ≡ d = cc in subst (λ x. may_begin false None x ≡ true) e (may_begin_bare b h.stops u c (subst (λ x. (x == open_paren) ≡ false) (sym e) n))) (rw (u, c) at e))
  ]
]

-- ---- a text without a cut

-- the faults of short and of long magic, after short magic
pub data NoCut (text rest : List ℕ) (fault : Fault) : Type 0 where
  free : (b : ℕ) (bs : List ℕ) → rest ≡ b ∷ bs → is_unimplemented b ≡ true → fault ≡ UnimplementedShort b → NoCut text rest fault
  unclosed : (ended : Bool) (bs : List ℕ) → rest ≡ end_mark ended ++ open_paren ∷ bs → list_any is_close bs ≡ false → fault ≡ MissingParen text → NoCut text rest fault

paren_refused : (text short : List ℕ) (ended : Bool) (rest : List ℕ) (fault : Fault) → cut_paren text short ended rest ≡ Err fault → (list_any is_close rest ≡ false) × (fault ≡ MissingParen text)
paren_refused text short ended rest fault e = elim (cases_Bool (list_any is_close rest)) [
  | inl y ↦ let f = rw y at e in absurd (let no : ⊥ = cc in no)
  | inr n ↦ let f = rw n at e in (n, cc)
]

long_refused : (text short : List ℕ) (ended : Bool) (rest : List ℕ) (fault : Fault) → cut_long text short ended rest ≡ Err fault → NoCut text (end_mark ended ++ rest) fault
long_refused text short ended [] fault e = absurd (let no : ⊥ = cc in no)
long_refused text short ended (b ∷ bs) fault e = elim (cases_Bool (b == open_paren)) [
  | inl y ↦ let p = paren_refused text short ended bs fault (rw y at e) in unclosed ended bs (ap (λ x. end_mark ended ++ x ∷ bs) (eqb-true b open_paren y)) p.0 p.1
  | inr n ↦ let f = rw n at e in absurd (let no : ⊥ = cc in no)
]

end_refused : (text short rest : List ℕ) (fault : Fault) → cut_end text short rest ≡ Err fault → NoCut text rest fault
end_refused text short [] fault e = absurd (let no : ⊥ = cc in no)
end_refused text short (b ∷ bs) fault e = elim (cases_Bool (is_unimplemented b)) [
  | inl u ↦ let f = rw u at e in free b bs refl u (let g : fault ≡ UnimplementedShort b = cc in g)
  | inr u ↦ elim (cases_Bool (b == colon)) [
    | inl c ↦ rw (eqb-true b colon c) (long_refused text short true bs fault (rw (u, c) at e))
    | inr c ↦ long_refused text short false (b ∷ bs) fault (rw (u, c) at e)
  ]
]

not_free : (is_unimplemented colon ≡ false) × (is_unimplemented open_paren ≡ false)
unfolding is_unimplemented
not_free = (refl, refl)

refused_end : (text short rest : List ℕ) (fault : Fault) → NoCut text rest fault → cut_end text short rest ≡ Err fault
refused_end text short rest fault (free b bs e u f) = rw e (rw u (ap Err (sym f)))
refused_end text short rest fault (unclosed true bs e n f) = rw (e, not_free.0, n) (ap Err (sym f))
refused_end text short rest fault (unclosed false bs e n f) = rw (e, not_free.1, n) (ap Err (sym f))

-- ---- a whole text

abbrev caret : ℕ
caret = 94

pub cut_of_sound : (m : List ℕ) (cut : Cut) → cut_of (colon ∷ m) ≡ Ok cut → IsCut cut × (colon ∷ m ≡ text_of cut)
unfolding cut_of
cut_of_sound m cut e =
    let n = prefix_len is_short m in
    let h = end_sound (colon ∷ m) (take n m) (drop n m) cut (after m) e in
    (h.is_cut, ap (λ x. colon ∷ x) (sym (take-append-drop n m) ∙ (ap (λ x. x ++ drop n m) (sym h.short_is) ∙ ap (λ x. cut.short ++ x) h.rest_is)) ∙ sym (text_regrouped cut))

cut_of_refused : (m : List ℕ) (fault : Fault) → cut_of (colon ∷ m) ≡ Err fault → (short : List ℕ) × (rest : List ℕ) × (m ≡ short ++ rest) × (list_all is_short short ≡ true) × NoCut (colon ∷ m) rest fault
unfolding cut_of
cut_of_refused m fault e =
    let n = prefix_len is_short m in
    (take n m, drop n m, sym (take-append-drop n m), front_passes is_short m, end_refused (colon ∷ m) (take n m) (drop n m) fault e)

short_not_free : (is_unimplemented slash ≡ false) × (is_unimplemented caret ≡ false) × (is_unimplemented bang ≡ false)
unfolding is_unimplemented
short_not_free = (refl, refl, refl)

not_free_at : (x b : ℕ) → b ≡ x → is_unimplemented x ≡ false → is_unimplemented b ≡ true → ⊥
not_free_at x b e h u = both_ways (is_unimplemented x) h (subst (λ (y : ℕ). is_unimplemented y ≡ true) e u)

free_not_short : (b : ℕ) → is_unimplemented b ≡ true → is_short b ≡ false
free_not_short b u = false_from_ne_true (is_short b) (λ s. elim (or_cases (b == slash) ((b == caret) || ((b == bang) || false)) s) [
  | inl e ↦ not_free_at slash b (eqb-true b slash e) short_not_free.0 u
  | inr t ↦ elim (or_cases (b == caret) ((b == bang) || false) t) [
    | inl e ↦ not_free_at caret b (eqb-true b caret e) short_not_free.1 u
    | inr w ↦ elim (or_cases (b == bang) false w) [ inl e ↦ not_free_at bang b (eqb-true b bang e) short_not_free.2 u | inr f ↦ both_ways false refl f ]
  ]
])

no_cut_stops : (text rest : List ℕ) (fault : Fault) → NoCut text rest fault → first_is is_short rest ≡ false
no_cut_stops text rest fault (free b bs e u f) = rw e (free_not_short b u)
no_cut_stops text rest fault (unclosed true bs e n f) = rw e refl
no_cut_stops text rest fault (unclosed false bs e n f) = rw e refl

refused_cut_of : (short rest : List ℕ) (fault : Fault) → list_all is_short short ≡ true → NoCut (colon ∷ short ++ rest) rest fault → cut_of (colon ∷ short ++ rest) ≡ Err fault
refused_cut_of short rest fault a h = cut_of-after short rest (record { all = a; stops = no_cut_stops (colon ∷ short ++ rest) rest fault h }) ∙ refused_end (colon ∷ short ++ rest) short rest fault h

bind_err : {A B E : Type 0} (r : Result A E) (f : A → Result B E) (e : E) → (r >>= f) ≡ Err e → (r ≡ Err e) ⊎ ((x : A) × (r ≡ Ok x) × (f x ≡ Err e))
bind_err (Ok x) f e h = inr (x, refl, h)
bind_err (Err d) f e h = inl (let p : d ≡ e = cc in ap Err p)

-- ---- the reading

not_empty : (text : List ℕ) → text ≢ [] → is_empty text ≡ false
not_empty [] h = absurd (h refl)
not_empty (b ∷ bs) h = refl

pub not_colon : (text : List ℕ) → text ≢ colon ∷ [] → bytes_eq text (colon ∷ []) ≡ false
not_colon text h = false_from_ne_true (bytes_eq text (colon ∷ [])) (λ e. h ((bytes_eq-Decides text (colon ∷ [])).0 e))

pub same_ok : {A E : Type 0} (x y : A) → ◌≡◌ {A = Result A E} (Ok x) (Ok y) → x ≡ y
same_ok x y h = cc

same_err : {A E : Type 0} (x y : E) → ◌≡◌ {A = Result A E} (Err x) (Err y) → x ≡ y
same_err x y h = cc

ok_err : {A E : Type 0} (x : A) (e : E) → Ok x ≡ Err e → ⊥
ok_err x e h = cc

err_ok : {A E : Type 0} (x : A) (e : E) → Err e ≡ Ok x → ⊥
err_ok x e h = cc

reads_cut : (d : Defaults) (m : List ℕ) (s : Spec) (cut : Cut) (said : Magic) → d.literal ≡ false → colon ∷ m ≢ colon ∷ [] → cut_of (colon ∷ m) ≡ Ok cut → magic_of cut ≡ Ok said → spec_of d said cut.body ≡ Ok s → Reads d (colon ∷ m) s
reads_cut d m s cut said l n c g e = let q = cut_of_sound m cut c in magic l n cut q.0 q.1 said g e

reads_magic : (d : Defaults) (m : List ℕ) (s : Spec) → d.literal ≡ false → colon ∷ m ≢ colon ∷ [] → magic_reading d (colon ∷ m) ≡ Ok s → Reads d (colon ∷ m) s
reads_magic d m s l n h =
    let g = bind_ok (cut_of (colon ∷ m)) (λ cut. magic_of cut >>= λ said. spec_of d said cut.body) s h in
    let k = bind_ok (magic_of g.0) (λ said. spec_of d said g.0.body) s g.2 in
    reads_cut d m s g.0 k.0 l n g.1 k.1 k.2

-- the reading by the tests that it makes
abbrev pub chosen_reading : Bool → Bool → Bool → Defaults → List ℕ → Result Spec Fault
chosen_reading literal alone marked d text =
    cond literal (Ok (literal_spec (signature_bits d.signature) text)) (cond alone (Ok nil_spec) (cond marked (magic_reading d text) (spec_of d no_magic text)))

pub reading_at : (d : Defaults) (text : List ℕ) (literal alone marked : Bool) → text ≢ [] → d.literal ≡ literal → bytes_eq text (colon ∷ []) ≡ alone → first_is is_colon text ≡ marked → reading d text ≡ chosen_reading literal alone marked d text
unfolding reading
reading_at d text literal alone marked n l a m = rw (not_empty text n, l, a, m) refl

pub not_nil : (b : ℕ) (m : List ℕ) → b ∷ m ≢ []
not_nil b m e = cc

reads_at : (d : Defaults) (b : ℕ) (m : List ℕ) (s : Spec) (literal alone marked : Bool) → d.literal ≡ literal → bytes_eq (b ∷ m) (colon ∷ []) ≡ alone → (b == colon) ≡ marked → chosen_reading literal alone marked d (b ∷ m) ≡ Ok s → Reads d (b ∷ m) s
reads_at d b m s true alone marked l a c h = verbatim l (not_nil b m) (sym (same_ok (literal_spec (signature_bits d.signature) (b ∷ m)) s h))
reads_at d b m s false true marked l a c h = nothing l ((bytes_eq-Decides (b ∷ m) (colon ∷ [])).0 a) (sym (same_ok nil_spec s h))
reads_at d b m s false false true l a c h =
    let e = eqb-true b colon c in
    subst (λ x. Reads d (x ∷ m) s) (sym e) (reads_magic d m s l (λ q. both_ways (bytes_eq (b ∷ m) (colon ∷ [])) a ((bytes_eq-Decides (b ∷ m) (colon ∷ [])).1 (ap (λ x. x ∷ m) e ∙ q))) (ap (λ x. magic_reading d (x ∷ m)) (sym e) ∙ h))
reads_at d b m s false false false l a c h = plain l (not_nil b m) c h

reads : (d : Defaults) (text : List ℕ) (s : Spec) → reading d text ≡ Ok s → Reads d text s
unfolding reading
reads d [] s h = absurd (err_ok s Empty h)
reads d (b ∷ m) s h = reads_at d b m s d.literal (bytes_eq (b ∷ m) (colon ∷ [])) (b == colon) refl refl refl (sym (reading_at d (b ∷ m) d.literal (bytes_eq (b ∷ m) (colon ∷ [])) (b == colon) (not_nil b m) refl refl refl) ∙ h)

pub plain_alone : (text : List ℕ) → first_is is_colon text ≡ false → bytes_eq text (colon ∷ []) ≡ false
plain_alone text f = not_colon text (λ e. both_ways (first_is is_colon text) f (ap (first_is is_colon) e))

said_by : (d : Defaults) (text : List ℕ) (s : Spec) → Reads d text s → reading d text ≡ Ok s
said_by d text s (verbatim l n e) = reading_at d text true (bytes_eq text (colon ∷ [])) (first_is is_colon text) n l refl refl ∙ ap Ok (sym e)
said_by d text s (nothing l t e) = reading_at d text false true (first_is is_colon text) (λ q. not_nil colon [] (sym t ∙ q)) l (ap (λ x. bytes_eq x (colon ∷ [])) t) refl ∙ ap Ok (sym e)
said_by d text s (plain l n f e) = reading_at d text false false false n l (plain_alone text f) f ∙ e
said_by d text s (magic l n cut c t said g e) =
    reading_at d text false false true (λ q. not_nil colon _ (sym t ∙ q)) l (not_colon text n) (ap (first_is is_colon) t)
    ∙ (rw (t, cut_found cut c, g) e)

-- ---- the refusals

-- a text without magic says a spec
pub plain_says : (d : Defaults) (text : List ℕ) → spec_of d no_magic text ≡ Ok (body_spec d no_magic text 0)
unfolding spec_of
plain_says d text = refl

-- where one of a value and a fault is a fault, the test failed
cond_err : (t : Bool) (x : ℕ) (e fault : Fault) → cond t (Ok x) (Err e) ≡ Err fault → (t ≡ false) × (fault ≡ e)
cond_err true x e fault h = absurd (let q : ⊥ = cc in q)
cond_err false x e fault h = (refl, let q : fault ≡ e = cc in q)

outside_by : (prefix : Option (List ℕ)) (path : List ℕ) (fault : Fault) → prefix_length_of prefix path ≡ Err fault
    → (word : List ℕ) × (prefix ≡ Some word) × (is_boundary path (piece_number word) ≡ false) × (fault ≡ InvalidPrefix word)
outside_by None path fault h = absurd (ok_err 0 fault h)
outside_by (Some word) path fault h = let c = cond_err (is_boundary path (piece_number word)) (piece_number word) (InvalidPrefix word) fault h in (word, refl, c.0, c.1)

-- magic and a body say no spec where the prefix length is no boundary of the path
outside : (d : Defaults) (said : Magic) (body : List ℕ) (fault : Fault) → spec_of d said body ≡ Err fault
    → (word : List ℕ) × (said.prefix ≡ Some word) × (is_boundary (without_last_slash body) (piece_number word) ≡ false) × (fault ≡ InvalidPrefix word)
unfolding spec_of
outside d said body fault h = elim (bind_err (prefix_length_of said.prefix (without_last_slash body)) (λ n. Ok (body_spec d said body n)) fault h) [
  | inl e ↦ outside_by said.prefix (without_last_slash body) fault e
  | inr k ↦ absurd (ok_err (body_spec d said body k.0) fault k.2)
]

-- and there alone
outside_says : (d : Defaults) (said : Magic) (body word : List ℕ) → said.prefix ≡ Some word → is_boundary (without_last_slash body) (piece_number word) ≡ false → spec_of d said body ≡ Err (InvalidPrefix word)
unfolding spec_of
outside_says d said body word e h = rw (e, h) refl

refused_cut : (d : Defaults) (m : List ℕ) (fault : Fault) → d.literal ≡ false → cut_of (colon ∷ m) ≡ Err fault → IsRefused d (colon ∷ m) fault
refused_cut d m fault l e = let r = cut_of_refused m fault e in by_cut r.0 r.1 r.2 r.3 r.4
  where
    by_cut : (front rest : List ℕ) → m ≡ front ++ rest → list_all is_short front ≡ true → NoCut (colon ∷ m) rest fault → IsRefused d (colon ∷ m) fault
    by_cut front rest w a (free b bs q u f) = short_fault l front b bs (ap (λ x. colon ∷ x) (w ∙ ap (λ x. front ++ x) q)) a u f
    by_cut front rest w a (unclosed ended bs q n f) =
        paren l front ended bs (ap (λ x. colon ∷ x) (w ∙ (ap (λ x. front ++ x) q ∙ sym (append_assoc front (end_mark ended) (open_paren ∷ bs))))) a n f

refused_magic : (d : Defaults) (m : List ℕ) (fault : Fault) → d.literal ≡ false → magic_reading d (colon ∷ m) ≡ Err fault → IsRefused d (colon ∷ m) fault
refused_magic d m fault l h = elim (bind_err (cut_of (colon ∷ m)) (λ cut. magic_of cut >>= λ said. spec_of d said cut.body) fault h) [
  | inl e ↦ refused_cut d m fault l e
  | inr g ↦ let q = cut_of_sound m g.0 g.1 in elim (bind_err (magic_of g.0) (λ said. spec_of d said g.0.body) fault g.2) [
    | inl e ↦ piece l g.0 q.0 q.1 e
    | inr k ↦ let o = outside d k.0 g.0.body fault k.2 in boundary l g.0 q.0 q.1 k.0 k.1 o.0 o.1 o.2 o.3
  ]
]

refused_at : (d : Defaults) (b : ℕ) (m : List ℕ) (fault : Fault) (literal alone marked : Bool) → d.literal ≡ literal → (b == colon) ≡ marked → chosen_reading literal alone marked d (b ∷ m) ≡ Err fault → IsRefused d (b ∷ m) fault
refused_at d b m fault true alone marked l c h = absurd (ok_err (literal_spec (signature_bits d.signature) (b ∷ m)) fault h)
refused_at d b m fault false true marked l c h = absurd (ok_err nil_spec fault h)
refused_at d b m fault false false true l c h =
    let e = eqb-true b colon c in subst (λ x. IsRefused d (x ∷ m) fault) (sym e) (refused_magic d m fault l (ap (λ x. magic_reading d (x ∷ m)) (sym e) ∙ h))
refused_at d b m fault false false false l c h = absurd (ok_err (body_spec d no_magic (b ∷ m) 0) fault (sym (plain_says d (b ∷ m)) ∙ h))

refused : (d : Defaults) (text : List ℕ) (fault : Fault) → reading d text ≡ Err fault → IsRefused d text fault
unfolding reading
refused d [] fault h = empty refl (sym (same_err Empty fault h))
refused d (b ∷ m) fault h = refused_at d b m fault d.literal (bytes_eq (b ∷ m) (colon ∷ [])) (b == colon) refl refl (sym (reading_at d (b ∷ m) d.literal (bytes_eq (b ∷ m) (colon ∷ [])) (b == colon) (not_nil b m) refl refl refl) ∙ h)

-- a text with magic that is not `:` alone says what its cut says
marked_reading : (d : Defaults) (m : List ℕ) (fault : Fault) → d.literal ≡ false → colon ∷ m ≢ colon ∷ [] → magic_reading d (colon ∷ m) ≡ Err fault → reading d (colon ∷ m) ≡ Err fault
marked_reading d m fault l n h = reading_at d (colon ∷ m) false false true (not_nil colon m) l (not_colon (colon ∷ m) n) refl ∙ h

longer : (front : List ℕ) (b : ℕ) (rest : List ℕ) → colon ∷ (front ++ b ∷ rest) ≢ colon ∷ []
longer [] b rest e = cc
longer (x ∷ front) b rest e = cc

alone_says : (cut : Cut) → IsCut cut → text_of cut ≡ colon ∷ [] → (fault : Fault) → magic_of cut ≡ Err fault → ⊥
unfolding cut_of magic_of
alone_says cut c t fault e =
    let only : Cut = record { short = []; ended = false; long = None; body = [] } in
    let same : only ≡ cut = same_ok only cut (sym (ap cut_of t) ∙ cut_found cut c) in
    ok_err (record { signature = 0; mode = None; attributes = []; prefix = None }) fault (ap magic_of same ∙ e)

paren_longer : (front : List ℕ) (ended : Bool) (rest : List ℕ) → colon ∷ (front ++ (end_mark ended ++ open_paren ∷ rest)) ≢ colon ∷ []
paren_longer front true rest = longer front colon (open_paren ∷ rest)
paren_longer front false rest = longer front open_paren rest

paren_says : (d : Defaults) (front : List ℕ) (ended : Bool) (rest : List ℕ) → d.literal ≡ false → list_all is_short front ≡ true → list_any is_close rest ≡ false
    → reading d (colon ∷ (front ++ (end_mark ended ++ open_paren ∷ rest))) ≡ Err (MissingParen (colon ∷ (front ++ (end_mark ended ++ open_paren ∷ rest))))
paren_says d front ended rest l a n =
    let text : List ℕ = colon ∷ (front ++ (end_mark ended ++ open_paren ∷ rest)) in
    marked_reading d (front ++ (end_mark ended ++ open_paren ∷ rest)) (MissingParen text) l (paren_longer front ended rest)
    (rw (refused_cut_of front (end_mark ended ++ open_paren ∷ rest) (MissingParen text) a (unclosed ended rest refl n refl)) refl)

piece_says : (d : Defaults) (cut : Cut) (fault : Fault) → d.literal ≡ false → IsCut cut → magic_of cut ≡ Err fault → reading d (text_of cut) ≡ Err fault
piece_says d cut fault l c e =
    reading_at d (text_of cut) false false true (not_nil colon _) l (not_colon (text_of cut) (λ q. alone_says cut c q fault e)) refl ∙ (rw (cut_found cut c, e) refl)

-- the same where magic is asked for
alone_asks : (d : Defaults) (cut : Cut) → IsCut cut → text_of cut ≡ colon ∷ [] → (said : Magic) → magic_of cut ≡ Ok said → (word : List ℕ) → said.prefix ≡ Some word → ⊥
unfolding cut_of magic_of
alone_asks d cut c t said g word p =
    let only : Cut = record { short = []; ended = false; long = None; body = [] } in
    let same : only ≡ cut = same_ok only cut (sym (ap cut_of t) ∙ cut_found cut c) in
    let none : no_magic ≡ said = same_ok no_magic said (ap magic_of same ∙ g) in
    let no : None ≡ Some word = ap (λ m. m.prefix) none ∙ p in cc

boundary_says : (d : Defaults) (cut : Cut) (said : Magic) (word : List ℕ) → d.literal ≡ false → IsCut cut → magic_of cut ≡ Ok said → said.prefix ≡ Some word → is_boundary (without_last_slash cut.body) (piece_number word) ≡ false
    → reading d (text_of cut) ≡ Err (InvalidPrefix word)
boundary_says d cut said word l c g p h =
    reading_at d (text_of cut) false false true (not_nil colon _) l (not_colon (text_of cut) (λ q. alone_asks d cut c q said g word p)) refl ∙ (rw (cut_found cut c, g) (outside_says d said cut.body word p h))

empty_says : (d : Defaults) → reading d [] ≡ Err Empty
unfolding reading
empty_says d = refl

fault_of : (d : Defaults) (text : List ℕ) (fault : Fault) → IsRefused d text fault → reading d text ≡ Err fault
fault_of d text fault (empty t f) = ap (reading d) t ∙ (empty_says d ∙ ap Err (sym f))
fault_of d text fault (short_fault l front b rest t a u f) =
    ap (reading d) t ∙ marked_reading d (front ++ b ∷ rest) fault l (longer front b rest) (rw (refused_cut_of front (b ∷ rest) fault a (free b rest refl u f)) refl)
fault_of d text fault (paren l front ended rest t a n f) =
    let w : text ≡ colon ∷ (front ++ (end_mark ended ++ open_paren ∷ rest)) = t ∙ ap (λ x. colon ∷ x) (append_assoc front (end_mark ended) (open_paren ∷ rest)) in
    ap (reading d) w ∙ (paren_says d front ended rest l a n ∙ ap Err (ap MissingParen (sym w) ∙ sym f))
fault_of d text fault (piece l cut c t e) = ap (reading d) t ∙ piece_says d cut fault l c e
fault_of d text fault (boundary l cut c t said g word p h f) = ap (reading d) t ∙ (boundary_says d cut said word l c g p h ∙ ap Err (sym f))

pub reading_is_exact : ReadingIsExact
reading_is_exact d text = (λ s. (said_by d text s, reads d text s), λ fault. (fault_of d text fault, refused d text fault))

-- ---- the prefix length

-- a length that is given is a boundary
pub given : (prefix : Option (List ℕ)) (path : List ℕ) (n : ℕ) → prefix_length_of prefix path ≡ Ok n → is_boundary path n ≡ true
given None path n h = subst (λ k. is_boundary path k ≡ true) (same_ok 0 n h) refl
given (Some word) path n h = elim (cases_Bool (is_boundary path (piece_number word))) [
  | inl y ↦ let e : piece_number word ≡ n = (let k = rw y at h in cc) in subst (λ k. is_boundary path k ≡ true) e y
  | inr out ↦ let k = rw out at h in absurd (let q : ⊥ = cc in q)
]

-- so the spec of magic and a body has such a length
pub said_boundary : (d : Defaults) (said : Magic) (body : List ℕ) (s : Spec) → spec_of d said body ≡ Ok s → has_boundary s ≡ true
unfolding spec_of
said_boundary d said body s h =
    let k = bind_ok (prefix_length_of said.prefix (without_last_slash body)) (λ n. Ok (body_spec d said body n)) s h in
    subst (λ t. has_boundary t ≡ true) (same_ok (body_spec d said body k.0) s k.2) (given said.prefix (without_last_slash body) k.0 k.1)

read_boundary : (d : Defaults) (text : List ℕ) (s : Spec) → Reads d text s → has_boundary s ≡ true
read_boundary d text s (verbatim l n e) = subst (λ t. has_boundary t ≡ true) (sym e) refl
read_boundary d text s (nothing l t e) = subst (λ t. has_boundary t ≡ true) (sym e) refl
read_boundary d text s (plain l n f e) = said_boundary d no_magic text s e
read_boundary d text s (magic l n cut c t said g e) = said_boundary d said cut.body s e

-- The prefix length of what a text says is a boundary of its path.
pub read_has_boundary : ReadHasBoundary
read_has_boundary d text s h = read_boundary d text s (reads d text s h)
