-- What was written so far, and what a buffer holds back.
use Rattle.std.proofs.Common.{◌≡◌, ℕ, ◌-◌, arith, List, [], ◌++◌, Option, Some, None, Result, Ok, Err, sym, ◌∙◌, ap, subst, append_assoc, take, drop, length}
use Rattle.std.proofs.lemmas.List.{append-nil, take-append-drop, take_all, length-drop}
use Rattle.std.specs.Prelude.{OnOk, OnErr}
use Rattle.std.specs.Io.KnownBytes.{Appends}
use Rattle.pathspec_parts.specs.Writing.{AppendsUpTo, AppendsFront}

-- one write after another
pub appends-append : (old between new : Option (List ℕ)) (xs ys : List ℕ) → Appends old between xs → Appends between new ys → Appends old new (xs ++ ys)
appends-append None between new xs ys p q = tt
appends-append (Some a) None new xs ys p q = absurd p
appends-append (Some a) (Some b) None xs ys p q = absurd q
appends-append (Some a) (Some b) (Some c) xs ys p q = q ∙ (ap (λ t. t ++ ys) p ∙ append_assoc a xs ys)

-- the next n bytes are written
pub appends-more : (old between new : Option (List ℕ)) (bs rest left : List ℕ) (n : ℕ) → AppendsUpTo old between bs rest → Appends between new (take n rest) → left ≡ drop n rest → AppendsUpTo old new bs left
appends-more old between new bs rest left n p q l =
    let whole : bs ≡ (p.0 ++ take n rest) ++ left = p.1 ∙ (ap (λ t. p.0 ++ t) (sym (take-append-drop n rest) ∙ ap (λ t. take n rest ++ t) (sym l)) ∙ sym (append_assoc p.0 (take n rest) left)) in
    (p.0 ++ take n rest, whole, appends-append old between new p.0 (take n rest) p.2 q)

-- all that stands after the first n bytes
pub rest-whole : (n : ℕ) (xs : List ℕ) → take (length xs - n) (drop n xs) ≡ drop n xs
rest-whole n xs = take_all (length xs - n) (drop n xs) (omega (arith, length-drop n xs))

-- ---- fronts

-- nothing
pub appends-none : (held : Option (List ℕ)) → Appends held held []
appends-none None = tt
appends-none (Some xs) = sym (append-nil xs)

-- all that a buffer holds
pub upto-all : (old new : Option (List ℕ)) (bs : List ℕ) → Appends old new bs → AppendsUpTo old new bs []
upto-all old new bs h = (bs, sym (append-nil bs), h)

-- more bytes, put after those that a buffer holds
pub upto-more : (old between new : Option (List ℕ)) (bs buffered more left : List ℕ) → AppendsUpTo old between bs buffered → AppendsUpTo between new (buffered ++ more) left → AppendsUpTo old new (bs ++ more) left
upto-more old between new bs buffered more left p q =
    (p.0 ++ q.0, ap (λ t. t ++ more) p.1 ∙ (append_assoc p.0 buffered more ∙ (ap (λ t. p.0 ++ t) q.1 ∙ sym (append_assoc p.0 q.0 left))), appends-append old between new p.0 q.0 p.2 q.2)

-- the bytes of a buffer, put on
pub upto-on : (old between new : Option (List ℕ)) (bs buffered left : List ℕ) → AppendsUpTo old between bs buffered → AppendsUpTo between new buffered left → AppendsUpTo old new bs left
upto-on old between new bs buffered left p q = (p.0 ++ q.0, p.1 ∙ (ap (λ t. p.0 ++ t) q.1 ∙ sym (append_assoc p.0 q.0 left)), appends-append old between new p.0 q.0 p.2 q.2)

-- more bytes, kept back
pub upto-longer : (old new : Option (List ℕ)) (bs left more : List ℕ) → AppendsUpTo old new bs left → AppendsUpTo old new (bs ++ more) (left ++ more)
upto-longer old new bs left more p = (p.0, ap (λ t. t ++ more) p.1 ∙ append_assoc p.0 left more, p.2)

-- a failed write of them
pub front-more : (old between new : Option (List ℕ)) (bs buffered more : List ℕ) → AppendsUpTo old between bs buffered → AppendsFront between new (buffered ++ more) → AppendsFront old new (bs ++ more)
front-more old between new bs buffered more p q = (q.0, upto-more old between new bs buffered more q.0 p q.1)

-- a front of some bytes is one of these and more
pub front-longer : (old new : Option (List ℕ)) (bs more : List ℕ) → AppendsFront old new bs → AppendsFront old new (bs ++ more)
front-longer old new bs more q = (q.0 ++ more, (q.1.0, ap (λ t. t ++ more) q.1.1 ∙ append_assoc q.1.0 q.0 more, q.1.2))

-- ---- a further write

module _ {A E : Type 0} (old between new : Option (List ℕ)) (bs buffered more : List ℕ) (before : AppendsUpTo old between bs buffered) where
  pub then-put : (left : List ℕ) (result : Result A E) → OnOk result (AppendsUpTo between new (buffered ++ more) left) → OnOk result (AppendsUpTo old new (bs ++ more) left)
  then-put left (Ok done) h = upto-more old between new bs buffered more left before h
  then-put left (Err e) h = tt

  pub then-front : (result : Result A E) → OnErr result (AppendsFront between new (buffered ++ more)) → OnErr result (AppendsFront old new (bs ++ more))
  then-front (Ok done) h = tt
  then-front (Err e) h = front-more old between new bs buffered more before h

-- the last write, of which more is kept back
module _ {A E : Type 0} (old new : Option (List ℕ)) (bs more : List ℕ) where
  pub longer-put : (left : List ℕ) (result : Result A E) → OnOk result (AppendsUpTo old new bs left) → OnOk result (AppendsUpTo old new (bs ++ more) (left ++ more))
  longer-put left (Ok done) h = upto-longer old new bs left more h
  longer-put left (Err e) h = tt

  pub longer-front : (result : Result A E) → OnErr result (AppendsFront old new bs) → OnErr result (AppendsFront old new (bs ++ more))
  longer-front (Ok done) h = tt
  longer-front (Err e) h = front-longer old new bs more h

pub all-put : {A E : Type 0} (old new : Option (List ℕ)) (bs left : List ℕ) → left ≡ [] → (result : Result A E) → OnOk result (Appends old new bs) → OnOk result (AppendsUpTo old new bs left)
all-put old new bs left e (Ok done) h = rw e (upto-all old new bs h)
all-put old new bs left e (Err x) h = tt

-- what is buffered is written
pub written-buffered : (old between new : Option (List ℕ)) (bs buffered : List ℕ) → AppendsUpTo old between bs buffered → Appends between new buffered → Appends old new bs
written-buffered old between new bs buffered p w = subst (Appends old new) (sym p.1) (appends-append old between new p.0 buffered p.2 w)

-- a front of it is
pub front-buffered : (old between new : Option (List ℕ)) (bs buffered : List ℕ) → AppendsUpTo old between bs buffered → AppendsFront between new buffered → AppendsFront old new bs
front-buffered old between new bs buffered p q = (q.0, upto-on old between new bs buffered q.0 p q.1)
