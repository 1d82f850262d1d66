-- A normal form keeps its spec's magic, and comes back from its long text.
use Rattle.std.proofs.Common.{◌≡◌, ℕ, ◌-◌, ◌<◌, Bool, true, false, refl, sym, ◌∙◌, ap, subst, List, [], ◌∷◌, ◌++◌, length, arith, ◌==◌, inl, inr, append_assoc, Option, Some, None, Ok}
use Rattle.std.proofs.lemmas.Bool.{cases_Bool, both_ways, or_parts, ne_eqb, eqb-false, cond-true, cond-false}
use Rattle.std.proofs.Math.Seq.{drop-append_seam}
use Rattle.std.proofs.lemmas.List.{length-append}
use Rattle.std.specs.List.{list_all, list_any, AllByRecursion}
use Rattle.pathspec_pattern.specs.declared.defaults.Defaults.{Defaults}
use Rattle.pathspec_parts.specs.Bytes.{slash}
use Rattle.pathspec_parts.specs.Paths.{join_names, ends_with_slash}
use Rattle.pathspec_pattern.specs.Signatures.{signature_bits}
use Rattle.pathspec_pattern.specs.Specs.{Spec}
use Rattle.pathspec_pattern.specs.Reading.{reading, nil_spec, no_defaults, Reads}
use Rattle.pathspec_pattern.specs.LongText.{long_text}
use Rattle.pathspec_pattern.specs.NormalForm.{Base, base, own_components, is_inside, survivors, components_to_resolve, resolved, resolve, normal_form, stays_empty, KeepsMagic, NormalFormKeepsMagic, NilHasNoDirectory}
use Rattle.pathspec_pattern.specs.RoundTrips.{is_expressible_assignment, NormalFormIsExpressible, NormalFormRoundTrips}
use Rattle.pathspec_pattern.proofs.StaysProofs.{IsWholeName, IsSettled, normal_form-settled}
use Rattle.pathspec_pattern.proofs.StaysProofs.IsSettled.{empty, here, named}
use Rattle.pathspec_pattern.proofs.BoundaryProofs.{normal_form_has_boundary}
use Rattle.pathspec_pattern.proofs.ReadingProofs.{reading_is_exact, read_has_boundary}
use Rattle.pathspec_pattern.proofs.ParsedProofs.{parsed_is_expressible}
use Rattle.pathspec_pattern.proofs.RoundTripProofs.{round_trip}

-- ---- the magic stays

resolved-keeps : (b : Base) (s : Spec) (own left : List (List ℕ)) → KeepsMagic s (resolved b s own left)
resolved-keeps b s own [] = elim (cases_Bool (stays_empty b s own)) [
  | inl y ↦ rw y (record { signature = refl; mode = refl; attributes = refl })
  | inr n ↦ rw n (record { signature = refl; mode = refl; attributes = refl })
]
resolved-keeps b s own (x ∷ more) = record { signature = refl; mode = refl; attributes = refl }

resolve-keeps : (b : Base) (s n : Spec) (found : Option (List (List ℕ))) → resolve b s found ≡ Ok n → KeepsMagic s n
resolve-keeps b s n None h = cc
resolve-keeps b s n (Some own) h = elim (cases_Bool (is_inside b own)) [
  | inl y ↦
      let e : resolved b s own (survivors (components_to_resolve b own)) ≡ n = (let k = rw y at h in cc) in
      subst (KeepsMagic s) e (resolved-keeps b s own (survivors (components_to_resolve b own)))
  | inr up ↦ let k = rw up at h in cc
]

-- A normal form has the signature, the mode and the attributes of its spec.
pub normal_form_keeps_magic : NormalFormKeepsMagic
unfolding normal_form
normal_form_keeps_magic prefix root s n h = resolve-keeps (base prefix s) s n (own_components (base prefix s) root s.path) h

-- ---- nil has no directory

settled-nil : (n : Spec) → IsSettled n → n.nil ≡ true → n.prefix_length ≡ 0
settled-nil n (empty e z) y = z
settled-nil n (here e nil z) y = z
settled-nil n (named name more a e z) y = z y

-- A nil normal form has no prefix directory.
pub nil_has_no_directory : NilHasNoDirectory
nil_has_no_directory prefix root s n h = settled-nil n (normal_form-settled prefix root s n h)

-- ---- the path has no slash at its end

-- the text ends with a byte other than a slash
abbrev EndsPlain : List ℕ → Type 0
EndsPlain text = (front : List ℕ) × (b : ℕ) × (text ≡ front ++ b ∷ []) × ((b == slash) ≡ false)

uncut-end : (b : ℕ) (bs : List ℕ) → list_any (λ b. b == slash) (b ∷ bs) ≡ false → EndsPlain (b ∷ bs)
uncut-end b [] h = ([], b, refl, (or_parts (b == slash) false h).0)
uncut-end b (c ∷ bs) h = let r = uncut-end c bs (or_parts (b == slash) (list_any (λ b. b == slash) (c ∷ bs)) h).1 in (b ∷ r.0, r.1, ap (λ t. b ∷ t) r.2, r.3)

name-end : (name : List ℕ) → IsWholeName name → EndsPlain name
name-end [] a = let clash : false ≡ true = a.1.0 in cc
name-end (b ∷ bs) a = uncut-end b bs a.1.1

names-end : (name : List ℕ) (more : List (List ℕ)) → AllByRecursion IsWholeName (name ∷ more) → EndsPlain (join_names (name ∷ more))
names-end name [] a = name-end name a.0
names-end name (x ∷ more) a =
    let r = names-end x more a.1 in
    (name ++ slash ∷ r.0, r.1, ap (λ t. name ++ slash ∷ t) r.2 ∙ sym (append_assoc name (slash ∷ r.0) (r.1 ∷ [])), r.3)

last_at : (front : List ℕ) (b : ℕ) → length (front ++ b ∷ []) - 1 ≡ length front
last_at front b = let l = length-append front (b ∷ []) in omega (arith, l)

plain-end : (text : List ℕ) → EndsPlain text → ends_with_slash text ≡ false
plain-end text (front, b, e, p) =
    let q : (slash == b) ≡ false = ne_eqb slash b (λ same. eqb-false b slash p (sym same)) in
    rw (e, last_at front b, drop-append_seam front (b ∷ []), q) refl

settled-end : (n : Spec) → IsSettled n → ends_with_slash n.path ≡ false
settled-end n (empty e z) = ap ends_with_slash e
settled-end n (here e nil z) = ap ends_with_slash e
settled-end n (named name more a e z) = ap ends_with_slash e ∙ plain-end (join_names (name ∷ more)) (names-end name more a)

-- ---- it comes back

-- A normal form is expressible unless it is nil.
pub normal_form_is_expressible : NormalFormIsExpressible
normal_form_is_expressible prefix root s n bits assignments boundary h present =
    let keeps = normal_form_keeps_magic prefix root s n h in
    record {
      parts = record {
        bits = subst (λ k. k < 16) (sym keeps.signature) bits;
        assignments = ap (list_all is_expressible_assignment) keeps.attributes ∙ assignments;
        path = inr (settled-end n (normal_form-settled prefix root s n h));
        nil = λ y. absurd (both_ways n.nil present y);
      };
      prefix = normal_form_has_boundary prefix root s n boundary h;
    }

-- what a text says, under whatever defaults of known bits, has magic that a text can say
said_magic : (d : Defaults) (text : List ℕ) (s : Spec) (literal : Bool) → d.literal ≡ literal → signature_bits d.signature < 16 → reading d text ≡ Ok s → (s.signature < 16) × (list_all is_expressible_assignment s.attributes ≡ true)
said_magic d text s false l k h = let w = parsed_is_expressible d text s l k h in (w.parts.bits, w.parts.assignments)
said_magic d text s true l k h = literal_magic (((reading_is_exact d text).0 s).1 h)
  where
    literal_magic : Reads d text s → (s.signature < 16) × (list_all is_expressible_assignment s.attributes ≡ true)
    literal_magic (Reads.verbatim v n e) = (subst (λ t. t.signature < 16) (sym e) k, ap (λ t. list_all is_expressible_assignment t.attributes) e)
    literal_magic (Reads.nothing v t e) = absurd (both_ways d.literal v l)
    literal_magic (Reads.plain v n f e) = absurd (both_ways d.literal v l)
    literal_magic (Reads.magic v n cut c t said g e) = absurd (both_ways d.literal v l)

nil_says : (n : Spec) → n.nil ≡ true → reading no_defaults (long_text n) ≡ Ok nil_spec
unfolding long_text reading
nil_says n y = rw y refl

-- The normal form of what a text says comes back from its long text.
pub normal_form_round_trips : NormalFormRoundTrips
normal_form_round_trips d text prefix root s n k r h = elim (cases_Bool n.nil) [
  | inl y ↦ nil_says n y ∙ ap Ok (sym (cond-true n.nil nil_spec n y))
  | inr present ↦
      let m = said_magic d text s d.literal refl k r in
      let e = normal_form_is_expressible prefix root s n m.0 m.1 (read_has_boundary d text s r) h present in
      round_trip n e ∙ ap Ok (sym (cond-false n.nil nil_spec n present))
]
