-- A set of places goes on by a byte.
use Rattle.std.proofs.Common.{◌≡◌, ℕ, zero, suc, ◌<◌, ◌≤◌, Bool, true, false, ◌&&◌, ◌||◌, refl, sym, ◌∙◌, arith, List, [], ◌∷◌, length}
use Rattle.std.proofs.Math.Bool.{or-false, and-false, and-true, not-not}
use Rattle.std.specs.List.{list_all}
use Rattle.pathspec_glob.proofs.Words.{Mode, Case, takes, slash}
use Rattle.pathspec_glob.specs.GlobCells.{SelfLoop, Cell, keeps, after_kept, cells_match, set_leads, further, not_free, Rules, LoopAtEnds, has}
use Rattle.std.proofs.Common.{◌*◌, ◌^◌, ◌%◌, ◌/◌, ◌==◌, ap, drop, inl, inr, not, w64, if◌then◌else◌}
use Rattle.std.proofs.lemmas.Bool.{cases_Bool, cases_lt, eqb-true, eqb-false, ne_eqb}
use Rattle.std.proofs.Math.ListN.{drop_of_length-le}
use Rattle.std.proofs.lemmas.Nat.Bits.{bit_at-suc}
use Rattle.std.specs.Int.{bit_at, bit_not}
use Rattle.std.specs.Int.Bits.{bit_and}
use Rattle.std.specs.Int.RustNames.{bit_or}
use Rattle.pathspec_glob.proofs.BitProofs.{has-zero, has-and, has_not, has-or, has-shl, has-shl_first, alone}

-- what the place behind all cells leads to by a byte
end-cases : (a f k m : Bool) → ((a || (f && k)) && m) ≡ ((a && m) || (f && (k && m)))
end-cases a f k m = grind (arith, or-false)

-- what a place leads to by a byte
byte-cases : (a f t k o s m l : Bool)
    → (((a || (f && k)) && s) || ((((f && t) || (a && o)) && m) || l)) ≡ ((a && (s || (o && m))) || ((f && ((t && m) || (k && s))) || l))
byte-cases a f t k o s m l = grind (arith, or-false)

-- what is come to at the next place: what was taken here, or passed over
next-cases : (n m p d t : Bool) → (m && p) ≡ false → ((d && t) || ((n || m) && p)) ≡ ((d && t) || (n && p))
next-cases n m p d t h = grind (arith, or-false, h)

-- where a set holds what is come to and what stays, it leads to what the set before led to
pub follows : (mode : Mode) (case : Case) (cs : List Cell) (last : SelfLoop) (a : Bool) (d t l p n m g : ℕ → Bool) (b : ℕ) (bs : List ℕ)
    → Rules mode case cs last t l p b
    → ((i : ℕ) → i ≤ length cs → g i ≡ ((n i || m i) || (d i && l i)))
    → ((i : ℕ) → i < length cs → n (suc i) ≡ (d i && t i))
    → ((i : ℕ) → i < length cs → m (suc i) ≡ (n i && p i))
    → ((i : ℕ) → i < length cs → (m i && p i) ≡ false)
    → a ≡ (n 0 || m 0)
    → set_leads mode case cs last g bs ≡ ((a && cells_match mode case cs last bs) || set_leads mode case cs last d (b ∷ bs))
follows mode case [] last a d t l p n m g b bs rules held taken passed once come =
    rw (held 0 (omega arith), sym come, rules) (end-cases a (d 0) (keeps last b) (list_all (keeps last) bs))
follows mode case (c ∷ cs) last a d t l p n m g b bs rules held taken passed once come =
    let ih = follows mode case cs last ((d 0 && t 0) || (a && p 0)) (λ i. d (suc i)) (λ i. t (suc i)) (λ i. l (suc i)) (λ i. p (suc i)) (λ i. n (suc i)) (λ i. m (suc i)) (λ i. g (suc i)) b bs
    rules.3
    (λ i h. held (suc i) (omega arith))
    (λ i h. taken (suc i) (omega arith))
    (λ i h. passed (suc i) (omega arith))
    (λ i h. once (suc i) (omega arith))
    (rw (taken 0 (omega arith), passed 0 (omega arith), come) (next-cases (n 0) (m 0) (p 0) (d 0) (t 0) (once 0 (omega arith)))) in
    rw (ih, held 0 (omega arith), sym come, rules.0, rules.1, rules.2)
    (byte-cases a (d 0) (takes mode case c.single b) (keeps c.loop b) c.over (after_kept (keeps c.loop) (takes mode case c.single) (cells_match mode case cs last) bs) (cells_match mode case cs last bs) (set_leads mode case cs last (λ i. d (suc i)) (b ∷ bs)))

-- where none is passed over to, since only the first may be and no byte leads to it
pub follows-plain : (mode : Mode) (case : Case) (cs : List Cell) (last : SelfLoop) (d t l p g : ℕ → Bool) (b : ℕ) (bs : List ℕ)
    → Rules mode case cs last t l p b
    → g 0 ≡ (d 0 && l 0)
    → ((i : ℕ) → i < length cs → g (suc i) ≡ ((d i && t i) || (d (suc i) && l (suc i))))
    → ((i : ℕ) → i < length cs → p (suc i) ≡ false)
    → set_leads mode case cs last g bs ≡ set_leads mode case cs last d (b ∷ bs)
follows-plain mode case cs last d t l p g b bs rules first next none =
    follows mode case cs last false d t l p (further false (λ i. d i && t i)) (λ i. false) g b bs rules held (λ i h. refl) passed (λ i h. refl) refl
  where
    held : (i : ℕ) → i ≤ length cs → g i ≡ ((further false (λ i. d i && t i) i || false) || (d i && l i))
    held zero h = first
    held (suc i) h = next i (omega arith) ∙ ap (λ x. x || (d (suc i) && l (suc i))) (sym (or-false (d i && t i)))

    passed : (i : ℕ) → i < length cs → false ≡ (further false (λ i. d i && t i) i && p i)
    passed zero h = refl
    passed (suc i) h = rw (none i (omega arith)) (sym (and-false (d i && t i)))

-- the same places lead to the same
pub leads-same : (mode : Mode) (case : Case) (cs : List Cell) (last : SelfLoop) (f g : ℕ → Bool) (text : List ℕ) → ((i : ℕ) → i ≤ length cs → f i ≡ g i)
    → set_leads mode case cs last f text ≡ set_leads mode case cs last g text
leads-same mode case [] last f g text same = rw (same 0 (omega arith)) refl
leads-same mode case (c ∷ cs) last f g text same =
    rw (same 0 (omega arith), leads-same mode case cs last (λ i. f (suc i)) (λ i. g (suc i)) text (λ i h. same (suc i) (omega arith))) refl

-- rules say the same of the same places
pub rules-same : (mode : Mode) (case : Case) (cs : List Cell) (last : SelfLoop) (t u l p : ℕ → Bool) (b : ℕ) → ((i : ℕ) → i < length cs → t i ≡ u i)
    → Rules mode case cs last t l p b → Rules mode case cs last u l p b
rules-same mode case [] last t u l p b same rules = rules
rules-same mode case (c ∷ cs) last t u l p b same rules = (
  sym (same 0 (omega arith)) ∙ rules.0,
  rules.1,
  rules.2,
  rules-same mode case cs last (λ i. t (suc i)) (λ i. u (suc i)) (λ i. l (suc i)) (λ i. p (suc i)) b (λ i h. same (suc i) (omega arith)) rules.3,
)

-- ---- words

apart-cases : (n p q : Bool) → (p && q) ≡ false → ((n && p) && q) ≡ false
apart-cases n p q h = grind (arith, or-false, h)

-- no place that is passed over to is passed over
once : (skippable come over : ℕ) (cs : List Cell) → has over 0 ≡ false → ((i : ℕ) → i < length cs → has over (suc i) ≡ (has come i && has skippable i))
    → ((i : ℕ) → i < length cs → (has skippable i && has skippable (suc i)) ≡ false) → (i : ℕ) → i < length cs → (has over i && has skippable i) ≡ false
once skippable come over cs first passed apart zero h = rw first refl
once skippable come over cs first passed apart (suc i) h =
    rw (passed i (omega arith)) (apart-cases (has come i) (has skippable i) (has skippable (suc i)) (apart i (omega arith)))

-- what comes by a byte never holds the first place, so it makes no difference whether this one may be passed over
come-passed : (n skippable all i : ℕ) → i < 64 → skippable / 2 ≡ all / 2
    → (has (n * 2 ^ 1 % 2 ^ 64) i && has skippable i) ≡ (has (n * 2 ^ 1 % 2 ^ 64) i && has all i)
come-passed n skippable all zero h same = rw (has-shl_first n) refl
come-passed n skippable all (suc i) h same =
    let next : has skippable (suc i) ≡ has all (suc i) = ap (λ x. x == 1) (bit_at-suc skippable i ∙ ap (λ x. bit_at x i) same ∙ sym (bit_at-suc all i)) in
    ap (λ x. has (n * 2 ^ 1 % 2 ^ 64) (suc i) && x) next

-- a word goes on by a byte
pub word-follows : (mode : Mode) (case : Case) (cs : List Cell) (last : SelfLoop) (states taken kept skippable all come over result : ℕ) (b : ℕ) (bs : List ℕ)
    → length cs < 64 → Rules mode case cs last (has taken) (has kept) (has all) b → ((i : ℕ) → i < length cs → (has all i && has all (suc i)) ≡ false)
    → skippable / 2 ≡ all / 2
    → come ≡ bit_and states taken * 2 ^ 1 % 2 ^ 64 → over ≡ bit_and come skippable * 2 ^ 1 % 2 ^ 64 → result ≡ bit_or (bit_or come over) (bit_and states kept)
    → set_leads mode case cs last (has result) bs ≡ set_leads mode case cs last (has states) (b ∷ bs)
word-follows mode case cs last states taken kept skippable all come over result b bs few rules apart same is_come is_over is_result =
    let same_come : (i : ℕ) → i < length cs → (has come i && has skippable i) ≡ (has come i && has all i) =
    λ i h. rw is_come (come-passed (bit_and states taken) skippable all i (omega arith) same) in
    let passed : (i : ℕ) → i < length cs → has over (suc i) ≡ (has come i && has all i) =
    λ i h. rw is_over (has-shl (bit_and come skippable) i (omega arith) ∙ has-and come skippable i ∙ same_come i h) in
    let first : has over 0 ≡ false = rw is_over (has-shl_first (bit_and come skippable)) in
    follows mode case cs last false (has states) (has taken) (has kept) (has all) (has come) (has over) (has result) b bs rules
    (λ i h. rw (is_result, has-or (bit_or come over) (bit_and states kept) i, has-or come over i, has-and states kept i) refl)
    (λ i h. rw is_come (has-shl (bit_and states taken) i (omega arith) ∙ has-and states taken i))
    passed
    (once all come over cs first passed apart)
    (rw (is_come, has-shl_first (bit_and states taken), first) refl)

-- ---- a word of the places that aren't active, and one of the last

drop-cases : (x y : Bool) → not (x || y) ≡ ((not x && not y) || false)
drop-cases true y = refl
drop-cases false true = refl
drop-cases false false = refl

stay-cases : (e x y : Bool) → not (e && (x || y)) ≡ ((not x && not y) || not e)
stay-cases true x y = drop-cases x y
stay-cases false true y = refl
stay-cases false false true = refl
stay-cases false false false = refl

-- the first place is active after a byte, since no bit is shifted in
pub first-held : (end freed last : ℕ) (stay : Bool) → not_free (freed * 2 ^ 1 % 2 ^ 64) (if stay then bit_and end (freed * 2 ^ 1 % 2 ^ 64) else freed * 2 ^ 1 % 2 ^ 64) last 0 ≡ true
first-held end freed last stay =
    let none : has (freed * 2 ^ 1 % 2 ^ 64) 0 ≡ false = has-shl_first freed in
    elim (cases_Bool (0 == last)) [
      | inl e ↦ elim (cases_Bool stay) [
        | inl s ↦ rw (e, s, has-and end (freed * 2 ^ 1 % 2 ^ 64) 0, none, and-false (has end 0)) refl
        | inr s ↦ rw (e, s, none) refl
      ]
      | inr e ↦ rw (e, none) refl
    ]

-- each other place is active after a byte where the one before was and takes it, and the last besides where it was and stays
pub next-held : (free end row last : ℕ) (stay : Bool) (l : ℕ → Bool) → last < 64
    → ((i : ℕ) → 0 < i → i < last → l i ≡ false) → stay ≡ l last → (i : ℕ) → i < last
    → not_free (bit_or free row * 2 ^ 1 % 2 ^ 64) (if stay then bit_and end (bit_or free row * 2 ^ 1 % 2 ^ 64) else bit_or free row * 2 ^ 1 % 2 ^ 64) last (suc i)
    ≡ ((not_free free end last i && not (has row i)) || (not_free free end last (suc i) && l (suc i)))
next-held free end row last stay l fits between self_loops i h =
    let freed = bit_or free row * 2 ^ 1 % 2 ^ 64 in
    let here : (i == last) ≡ false = ne_eqb i last (λ e. omega (arith, h, e)) in
    let moved : has freed (suc i) ≡ (has free i || has row i) = has-shl (bit_or free row) i (omega (arith, h, fits)) ∙ has-or free row i in
    elim (cases_Bool (suc i == last)) [
      | inl e ↦
          let is : stay ≡ l (suc i) = self_loops ∙ ap l (sym (eqb-true (suc i) last e)) in
          elim (cases_Bool stay) [
            | inl s ↦ rw (here, e, sym is, s, has-and end freed (suc i), moved, and-true (not (has end (suc i)))) (stay-cases (has end (suc i)) (has free i) (has row i))
            | inr s ↦ rw (here, e, sym is, s, moved, and-false (not (has end (suc i)))) (drop-cases (has free i) (has row i))
          ]
      | inr e ↦
          let less : suc i < last = omega (arith, h, eqb-false (suc i) last e) in
          rw (here, e, moved, between (suc i) (omega arith) less, and-false (not (has free (suc i)))) (drop-cases (has free i) (has row i))
    ]

-- at the start both words are the complement of the places
pub begins-held : (states last i : ℕ) → states < 2 ^ 64 → i < 64 → not_free (bit_not w64 states) (bit_not w64 states) last i ≡ has states i
begins-held states last i fits h =
    let same : not (has (bit_not w64 states) i) ≡ has states i = ap not (has_not states i fits h) ∙ not-not (has states i) in
    elim (cases_Bool (i == last)) [ inl e ↦ rw e same | inr e ↦ rw e same ]

-- what stays at a byte, by the places that stay at a slash and at any other
pub first-self_loops : (self_loops slash_loops skippable last b : ℕ) (last_loops last_loops_at_slash : Bool) → LoopAtEnds self_loops slash_loops skippable last last_loops last_loops_at_slash
    → has (if b == slash then slash_loops else self_loops) 0 ≡ true
first-self_loops self_loops slash_loops skippable last b last_loops last_loops_at_slash ends = elim (cases_Bool (b == slash)) [ inl e ↦ rw e ends.first_at_slash | inr e ↦ rw e ends.first ]

pub none-self_loops : (self_loops slash_loops skippable last b : ℕ) (last_loops last_loops_at_slash : Bool) → LoopAtEnds self_loops slash_loops skippable last last_loops last_loops_at_slash
    → (i : ℕ) → 0 < i → i < last → has (if b == slash then slash_loops else self_loops) i ≡ false
none-self_loops self_loops slash_loops skippable last b last_loops last_loops_at_slash ends i some below =
    elim (cases_Bool (b == slash)) [ inl e ↦ rw e (ends.between_at_slash i some below) | inr e ↦ rw e (ends.between i some below) ]

pub last-self_loops : (self_loops slash_loops skippable last b : ℕ) (last_loops last_loops_at_slash : Bool) → LoopAtEnds self_loops slash_loops skippable last last_loops last_loops_at_slash
    → (if b == slash then last_loops_at_slash else last_loops) ≡ has (if b == slash then slash_loops else self_loops) last
last-self_loops self_loops slash_loops skippable last b last_loops last_loops_at_slash ends =
    elim (cases_Bool (b == slash)) [ inl e ↦ rw e ends.at_last_at_slash | inr e ↦ rw e ends.at_last ]

-- no place behind the first may be passed over
pub none-passed : (skippable i : ℕ) → skippable / 2 ≡ 0 → has skippable (suc i) ≡ false
none-passed skippable i none = ap (λ x. x == 1) (bit_at-suc skippable i ∙ ap (λ n. bit_at n i) none) ∙ has-zero i

-- the end of a text leads on from the last place alone
pub leads-end : (mode : Mode) (case : Case) (cs : List Cell) (last : SelfLoop) (f : ℕ → Bool) → set_leads mode case cs last f [] ≡ f (length cs)
leads-end mode case [] last f = and-true (f 0)
leads-end mode case (c ∷ cs) last f = rw (and-false (f 0)) (leads-end mode case cs last (λ i. f (suc i)))

-- no place leads to no text
pub leads-none : (mode : Mode) (case : Case) (cs : List Cell) (last : SelfLoop) (f : ℕ → Bool) (text : List ℕ) → ((i : ℕ) → f i ≡ false) → set_leads mode case cs last f text ≡ false
leads-none mode case [] last f text none = rw (none 0) refl
leads-none mode case (c ∷ cs) last f text none = rw (none 0) (leads-none mode case cs last (λ i. f (suc i)) text (λ i. none (suc i)))

-- where a text was read, or no place is active, the places lead to what is left just where the last is active
pub leads-rest : (mode : Mode) (case : Case) (cs : List Cell) (last : SelfLoop) (states read : ℕ) (text : List ℕ) → (read < length text → states ≡ 0)
    → set_leads mode case cs last (has states) (drop read text) ≡ has states (length cs)
leads-rest mode case cs last states read text halted = elim (cases_lt read (length text)) [
  | inl h ↦
      let none : (i : ℕ) → has states i ≡ false = λ i. rw (halted h) (has-zero i) in
      leads-none mode case cs last (has states) (drop read text) none ∙ sym (none (length cs))
  | inr h ↦
      let ended : drop read text ≡ [] = drop_of_length-le text {i = read} h in
      rw ended (leads-end mode case cs last (has states))
]

-- The first place, with the one that it may be passed over to, leads to what the cells match.
pub set-begins : (mode : Mode) (case : Case) (cs : List Cell) (last : SelfLoop) (t : ℕ → Bool) (kept skippable over result : ℕ) (b : ℕ) (bs : List ℕ)
    → length cs < 64 → Rules mode case cs last t (has kept) (has skippable) b → ((i : ℕ) → i < length cs → (has skippable i && has skippable (suc i)) ≡ false)
    → over ≡ bit_and 1 skippable * 2 ^ 1 % 2 ^ 64 → result ≡ bit_or 1 over
    → set_leads mode case cs last (has result) bs ≡ cells_match mode case cs last bs
set-begins mode case cs last t kept skippable over result b bs few rules apart is_over is_result =
    let passed : (i : ℕ) → i < length cs → has over (suc i) ≡ (has 1 i && has skippable i) =
    λ i h. rw is_over (has-shl (bit_and 1 skippable) i (omega arith) ∙ has-and 1 skippable i) in
    let first : has over 0 ≡ false = rw is_over (has-shl_first (bit_and 1 skippable)) in
    follows mode case cs last true (λ i. false) t (has kept) (has skippable) (has 1) (has over) (has result) b bs rules
    (λ i h. rw (is_result, has-or 1 over i) (sym (or-false _)))
    (λ i h. alone i)
    passed
    (once skippable 1 over cs first passed apart)
    refl
    ∙ rw (leads-none mode case cs last (λ i. false) (b ∷ bs) (λ i. refl)) (or-false _)
