-- What a buffer holds back of what is written.
use Rattle.std.proofs.Common.{◌≡◌, ℕ, ◌+◌, ◌<◌, ◌≤◌, List, [], ◌∷◌, ◌++◌, length, take, drop, get_or, Option, Some, None, Result, Ok, Err, sym, ◌∙◌, ap, subst, append_assoc, arith}
use Rattle.std.proofs.lemmas.List.{append-nil, take_all, take_more, take-append-drop}
use Rattle.std.proofs.lemmas.Grind.{flat_map-append}
use Rattle.std.specs.Option.{option_map}
use Rattle.bstr.specs.declared.bstr.BStr.{BStr}
use Rattle.bstr.specs.BStr.{bstr_bytes}
use Rattle.pathspec_select.specs.Listing.{mark_at, written_of, written_entries}
use Rattle.pathspec_parts.specs.Writing.{AppendsUpTo, AppendsFront}
use Rattle.pathspec_parts.proofs.WritingProofs.{front-longer}

-- a record and its separator after what is buffered
pub written-some : (buffered bytes : List ℕ) (separator : ℕ) (o : Option BStr) (r : BStr) → o ≡ Some r → bytes ≡ bstr_bytes r → (buffered ++ bytes) ++ separator ∷ [] ≡ buffered ++ written_of separator (option_map bstr_bytes o)
written-some buffered bytes separator o r is e = append_assoc buffered bytes (separator ∷ []) ∙ (ap (λ t. buffered ++ (t ++ separator ∷ [])) e ∙ ap (λ x. buffered ++ written_of separator (option_map bstr_bytes x)) (sym is))

-- ---- all entries

-- what is written for one more entry
pub written-more : (separator : ℕ) (marks : List (Option (List ℕ))) (entries : List ℕ) (n : ℕ) (mark : Option (List ℕ)) → n < length entries → mark ≡ mark_at marks (get_or entries n 0)
    → written_entries separator marks (take n entries) ++ written_of separator mark ≡ written_entries separator marks (take (n + 1) entries)
written-more separator marks entries n mark inside is =
    let f : ℕ → List ℕ = λ m. written_of separator (mark_at marks m) in
    let entry = get_or entries n 0 in
    ap (λ m. written_entries separator marks (take n entries) ++ written_of separator m) is
    ∙ sym (ap (written_entries separator marks) (take_more entries n 0 inside)
    ∙ (flat_map-append f (take n entries) (entry ∷ []) ∙ ap (λ t. written_entries separator marks (take n entries) ++ t) (append-nil (f entry))))

-- the output for the entries after these
pub written-rest : (separator : ℕ) (marks : List (Option (List ℕ))) (entries : List ℕ) (n : ℕ) → written_entries separator marks entries ≡ written_entries separator marks (take n entries) ++ written_entries separator marks (drop n entries)
written-rest separator marks entries n =
    let f : ℕ → List ℕ = λ m. written_of separator (mark_at marks m) in
    ap (written_entries separator marks) (sym (take-append-drop n entries)) ∙ flat_map-append f (take n entries) (drop n entries)

-- a front of what is written for the first of some entries is one of what is written for all
pub front-count : (old new : Option (List ℕ)) (bytes : List ℕ) (separator : ℕ) (marks : List (Option (List ℕ))) (entries : List ℕ) (count : ℕ) → bytes ≡ written_entries separator marks (take count entries)
    → AppendsFront old new bytes → AppendsFront old new (written_entries separator marks entries)
front-count old new bytes separator marks entries count e h =
    let more = written_entries separator marks (drop count entries) in
    subst (AppendsFront old new) (ap (λ t. t ++ more) e ∙ sym (written-rest separator marks entries count)) (front-longer old new bytes more h)

-- what is buffered where no entry is left
pub upto-end : (old between : Option (List ℕ)) (separator : ℕ) (marks : List (Option (List ℕ))) (entries : List ℕ) (n : ℕ) (buffered bytes : List ℕ) → length entries ≤ n
    → AppendsUpTo old between (written_entries separator marks (take n entries)) buffered → bytes ≡ buffered → AppendsUpTo old between (written_entries separator marks entries) bytes
upto-end old between separator marks entries n buffered bytes past before is = rw is (subst (λ (ns : List ℕ). AppendsUpTo old between (written_entries separator marks ns) buffered) (take_all n entries (omega (arith, past))) before)
