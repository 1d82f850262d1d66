-- Tokens whose brackets list each byte that they hold match what the tokens of the pattern match.
use Rattle.std.proofs.Common.{◌≡◌, ◌<◌, ◌≤◌, ℕ, zero, suc, Bool, true, false, not, ◌||◌, ◌==◌, inl, inr, refl, sym, ap, ◌∙◌, arith, List, [], ◌∷◌, map, get_or}
use Rattle.std.proofs.lemmas.Bool.{cases_Bool, eq-eqb, ne_eqb, cases_lt, lt-ltb, le-ltb}
use Rattle.std.specs.Char.{to_ascii_lowercase, to_ascii_uppercase}
use Rattle.pathspec_glob.proofs.Words.{Mode, Shell, PathAware, Case, Sensitive, Fold, slash, Item, OneByte, Token, Byte, Quoted, Any, Bracket, Dead, One, Star, Deep, bracket_holds, items_hold, matches, passes_over, some_suffix, takes, takes_first, literals_below, literals, listed_single, listed}

-- no item is at or above the end
none-above : (end : ℕ) (holds : ℕ → Bool) (b : ℕ) → end ≤ b → items_hold (literals_below end holds) b ≡ false
unfolding literals_below
none-above zero holds b h = refl
none-above (suc end) holds b h =
    let other : (end == b) ≡ false = ne_eqb end b (λ e. let no : ⊥ = omega (arith, e, h) in no) in
    elim (cases_Bool (holds end)) [
      | inl e ↦ rw (e, other) (none-above end holds b (omega arith))
      | inr e ↦ rw e (none-above end holds b (omega arith))
    ]

-- The items of a set hold what the set does.
pub literals-hold : (end : ℕ) (holds : ℕ → Bool) (b : ℕ) → b < end → items_hold (literals_below end holds) b ≡ holds b
unfolding literals_below
literals-hold zero holds b h = absurd (omega arith)
literals-hold (suc end) holds b h = elim (cases_lt b end) [
  | inl below ↦
      let other : (end == b) ≡ false = ne_eqb end b (λ e. let no : ⊥ = omega (arith, e, below) in no) in
      elim (cases_Bool (holds end)) [
        | inl e ↦ rw (e, other) (literals-hold end holds b below)
        | inr e ↦ rw e (literals-hold end holds b below)
      ]
  | inr above ↦
      let here : b ≡ end = omega (arith, above, h) in
      rw here (elim (cases_Bool (holds end)) [
        | inl e ↦ rw (e, eq-eqb end end refl) refl
        | inr e ↦ rw e (none-above end holds end (omega arith))
      ])
]

-- sets that hold the same bytes have the same items
pub literals-same : (end : ℕ) (f g : ℕ → Bool) → ((b : ℕ) → b < end → f b ≡ g b) → literals_below end f ≡ literals_below end g
unfolding literals_below
literals-same zero f g same = refl
literals-same (suc end) f g same =
    rw (same end (omega arith), literals-same end f g (λ b h. same b (omega arith))) refl

lower-fits : (b : ℕ) → b < 256 → to_ascii_lowercase b < 256
lower-fits b h = elim (cases_lt b 65) [
  | inl l ↦ rw (lt-ltb b 65 l) h
  | inr g ↦ rw (le-ltb b 65 g) (elim (cases_lt b 91) [ inl l ↦ rw (lt-ltb b 91 l) (omega arith) | inr k ↦ rw (le-ltb b 91 k) h ])
]

upper-fits : (b : ℕ) → b < 256 → to_ascii_uppercase b < 256
upper-fits b h = elim (cases_lt b 97) [
  | inl l ↦ rw (lt-ltb b 97 l) h
  | inr g ↦ rw (le-ltb b 97 g) (elim (cases_lt b 123) [ inl l ↦ rw (lt-ltb b 123 l) (omega arith) | inr k ↦ rw (le-ltb b 123 k) h ])
]

-- a bracket that lists its bytes holds the same
bracket-listed : (case : Case) (items : List Item) (b : ℕ) → b < 256 → bracket_holds case (literals (items_hold items)) b ≡ bracket_holds case items b
bracket-listed Sensitive items b h = literals-hold 256 (items_hold items) b h
bracket-listed Fold items b h =
    rw (literals-hold 256 (items_hold items) (to_ascii_lowercase b) (lower-fits b h), literals-hold 256 (items_hold items) (to_ascii_uppercase b) (upper-fits b h)) refl

-- what a set holds, with case and without
pub holds-Sensitive : (case : Case) (set : ℕ → Bool) (b : ℕ) (r : Bool) → b < 256 → case ≡ Sensitive → r ≡ set b → r ≡ bracket_holds case (literals set) b
holds-Sensitive case set b r fits is e = rw is (e ∙ sym (literals-hold 256 set b fits))

pub holds-Fold : (case : Case) (set : ℕ → Bool) (b low up : ℕ) (r : Bool) → b < 256 → case ≡ Fold → low ≡ to_ascii_lowercase b → up ≡ to_ascii_uppercase b → r ≡ (set low || set up) → r ≡ bracket_holds case (literals set) b
holds-Fold case set b low up r fits is l u e =
    rw (is, literals-hold 256 set (to_ascii_lowercase b) (lower-fits b fits), literals-hold 256 set (to_ascii_uppercase b) (upper-fits b fits)) (e ∙ rw (l, u) refl)

takes-listed : (mode : Mode) (case : Case) (single : OneByte) (b : ℕ) → b < 256 → takes mode case (listed_single single) b ≡ takes mode case single b
takes-listed mode case (Byte x) b h = refl
takes-listed mode case (Quoted x) b h = refl
takes-listed mode case Any b h = refl
takes-listed mode case (Bracket negated items) b h = rw (bracket-listed case items b h) refl
takes-listed mode case Dead b h = refl

-- the bytes of a text fit
abbrev Fit : List ℕ → Type 0
Fit text = (k : ℕ) → get_or text k 0 < 256

one-listed : (mode : Mode) (case : Case) (single : OneByte) (f g : List ℕ → Bool) (text : List ℕ) → Fit text → ((v : List ℕ) → Fit v → f v ≡ g v)
    → takes_first (takes mode case (listed_single single)) f text ≡ takes_first (takes mode case single) g text
one-listed mode case single f g [] fit same = refl
one-listed mode case single f g (b ∷ bs) fit same = rw (takes-listed mode case single b (fit 0), same bs (λ k. fit (suc k))) refl

suffix-same : (keep : ℕ → Bool) (f g : List ℕ → Bool) (text : List ℕ) → Fit text → ((v : List ℕ) → Fit v → f v ≡ g v) → some_suffix keep f text ≡ some_suffix keep g text
suffix-same keep f g [] fit same = same [] fit
suffix-same keep f g (b ∷ bs) fit same = rw (same (b ∷ bs) fit, suffix-same keep f g bs (λ k. fit (suc k)) same) refl

pub passes-listed : (mode : Mode) (t : Token) → passes_over mode (listed t) ≡ passes_over mode t
passes-listed Shell t = refl
passes-listed PathAware (One (Byte b)) = refl
passes-listed PathAware (One (Quoted b)) = refl
passes-listed PathAware (One Any) = refl
passes-listed PathAware (One (Bracket negated items)) = refl
passes-listed PathAware (One Dead) = refl
passes-listed PathAware Star = refl
passes-listed PathAware Deep = refl

-- Tokens match what they match with brackets that list each byte.
pub matches-listed : (mode : Mode) (case : Case) (ts : List Token) (text : List ℕ) → Fit text → matches mode case (map listed ts) text ≡ matches mode case ts text
unfolding matches
matches-listed mode case [] text fit = refl
matches-listed mode case (One single ∷ ts) text fit =
    one-listed mode case single (matches mode case (map listed ts)) (matches mode case ts) text fit (λ v f. matches-listed mode case ts v f)
matches-listed mode case (Star ∷ ts) text fit =
    suffix-same (λ b. not (b == slash)) (matches mode case (map listed ts)) (matches mode case ts) text fit (λ v f. matches-listed mode case ts v f)
matches-listed mode case (Deep ∷ []) text fit = refl
matches-listed mode case (Deep ∷ t ∷ ts) text fit =
    let rest : matches mode case (map listed ts) text ≡ matches mode case ts text = matches-listed mode case ts text fit in
    rw (suffix-same (λ b. true) (matches mode case (map listed (t ∷ ts))) (matches mode case (t ∷ ts)) text fit (λ v f. matches-listed mode case (t ∷ ts) v f), passes-listed mode t, rest) refl

-- bytes that stand for themselves list nothing
pub plain-listed : (bytes : List ℕ) → map listed (map (λ b. One (Byte b)) bytes) ≡ map (λ b. One (Byte b)) bytes
plain-listed [] = refl
plain-listed (b ∷ bs) = ap (λ ts. One (Byte b) ∷ ts) (plain-listed bs)
