-- The names in a record, before and after its last slash.
use Rattle.std.proofs.Common.{◌≡◌, ◌≢◌, ℕ, ◌+◌, ◌-◌, ◌<◌, Bool, true, false, cond, refl, sym, ◌∙◌, ap, subst, inl, inr, List, [], ◌∷◌, ◌++◌, length, get_or, take, drop, arith, append_assoc, Some, None}
use Rattle.std.proofs.lemmas.Bool.{cases_Bool, eqb-true, false_from_ne_true}
use Rattle.std.proofs.lemmas.List.{take_at, drop_at, length_push, length-drop, take-append-drop, take-append-le, drop-append-le, take_more, get_or-drop}
use Rattle.std.proofs.lemmas.List.Elements.{All-push, All-from_get_or}
use Rattle.std.proofs.lemmas.List.Splits.{slice_split_none}
use Rattle.std.proofs.Math.Seq.{take-append_seam}
use Rattle.std.specs.Prelude.{All}
use Rattle.std.specs.List.{slice_split, before_first}
use Rattle.bstr.specs.Find.{IsLastByte, is_byte}
use Rattle.pathspec_glob.specs.Bytes.{slash}
use Rattle.pathspec_parts.specs.Paths.{is_slash, pieces, ends_with_slash, without_last_slash}
use Rattle.pathspec_parts.specs.Records.{without_empty_end, record_path, record_names, parent_names, own_names, directory_names}
use Rattle.pathspec_parts.specs.RecordParts.{IsClosed}
use Rattle.pathspec_parts.proofs.TextProofs.{slice_split-seam, without_empty_end-append}
use Rattle.pathspec_parts.proofs.RecordProofs.{others, split-first, last_cases, ends_with_slash-push, without_last_slash-push}

-- ---- parts

without_empty_end-push : (parts : List (List ℕ)) → without_empty_end (parts ++ [] ∷ []) ≡ parts
without_empty_end-push [] = refl
without_empty_end-push (x ∷ []) = refl
without_empty_end-push (x ∷ y ∷ xs) = ap (λ parts. x ∷ parts) (without_empty_end-push (y ∷ xs))

-- a path that is empty, or has a slash at its end, by its parts
pub data ClosedForm : List ℕ → Type 0 where
  empty : ClosedForm []
  after_slash : (front : List ℕ) → ClosedForm (front ++ slash ∷ [])

-- the names of a path and a slash
pub names-closed : (front : List ℕ) → directory_names (front ++ slash ∷ []) ≡ pieces front
names-closed front = ap without_empty_end (slice_split-seam is_slash front slash [] refl) ∙ without_empty_end-push (pieces front)

-- the parts of such a path and a name
pub pieces-closed : (path name : List ℕ) → ClosedForm path → All (λ b. is_slash b ≡ false) name → pieces (path ++ name) ≡ directory_names path ++ name ∷ []
pieces-closed _ name empty none = slice_split_none is_slash name none
pieces-closed _ name (after_slash front) none =
    let names : directory_names (front ++ slash ∷ []) ≡ pieces front = names-closed front in
    ap pieces (append_assoc front (slash ∷ []) name) ∙ (slice_split-seam is_slash front slash name refl ∙ (ap (λ t. pieces front ++ t) (slice_split_none is_slash name none) ∙ ap (λ t. t ++ name ∷ []) (sym names)))

-- the names of such a path and another
pub directory_names-append : (path more : List ℕ) → ClosedForm path → directory_names (path ++ more) ≡ directory_names path ++ directory_names more
directory_names-append _ more empty = refl
directory_names-append _ more (after_slash front) =
    let names : directory_names (front ++ slash ∷ []) ≡ pieces front = names-closed front in
    let later = split-first is_slash more in
    ap directory_names (append_assoc front (slash ∷ []) more)
    ∙ (ap without_empty_end (slice_split-seam is_slash front slash more refl ∙ ap (λ t. pieces front ++ t) later)
    ∙ (without_empty_end-append (pieces front) (before_first is_slash more) (others is_slash more)
    ∙ (ap (λ t. pieces front ++ without_empty_end t) (sym later) ∙ ap (λ t. t ++ directory_names more) (sym names))))

-- ---- closed paths

pub from_form : (path : List ℕ) → ClosedForm path → IsClosed path
from_form _ empty = inl refl
from_form _ (after_slash front) = inr (ends_with_slash-push front slash)

pub to_form : (path : List ℕ) → IsClosed path → ClosedForm path
to_form path (inl e) = subst ClosedForm (sym e) empty
to_form [] (inr t) = empty
to_form (b ∷ bs) (inr t) =
    let c = last_cases (b ∷ bs) (omega arith) in
    let end : is_slash c.1 ≡ true = sym (ends_with_slash-push c.0 c.1) ∙ (ap ends_with_slash (sym c.2) ∙ t) in
    let same : slash ≡ c.1 = sym (eqb-true c.1 slash end) in
    subst ClosedForm (sym c.2) (subst (λ x. ClosedForm (c.0 ++ x ∷ [])) same (after_slash c.0))

-- ---- a record that is cut

-- its path is that of its directory and its name
pub record NamesAre (text path name : List ℕ) : Type 0 where
  pub closed : ClosedForm path
  pub parents : directory_names path ≡ parent_names text
  pub own : own_names text ≡ name ∷ []

pub names_are : (text path name : List ℕ) → ClosedForm path → All (λ b. is_slash b ≡ false) name → record_path text ≡ path ++ name → NamesAre text path name
names_are text path name closed none h =
    let names = record_names text in
    let e : names ≡ directory_names path ++ name ∷ [] = ap pieces h ∙ pieces-closed path name closed none in
    let k : length (directory_names path) ≡ length names - 1 = omega (arith, ap length e, length_push (directory_names path) name) in
    record {
      closed = closed;
      parents = sym (ap (take (length names - 1)) e ∙ take_at (directory_names path) (name ∷ []) (length names - 1) k);
      own = ap (drop (length names - 1)) e ∙ drop_at (directory_names path) (name ∷ []) (length names - 1) k;
    }

-- a record that is cut at its last slash before its last byte
pub cut_names : (path middle : List ℕ) (b : ℕ) → ClosedForm path → All (λ x. is_slash x ≡ false) middle → NamesAre ((path ++ middle) ++ b ∷ []) path (without_last_slash (middle ++ b ∷ []))
cut_names path middle b closed none =
    let text = (path ++ middle) ++ b ∷ [] in
    let whole = without_last_slash-push (path ++ middle) b in
    let last = without_last_slash-push middle b in
    elim (cases_Bool (is_slash b)) [
      | inl t ↦
          let name : without_last_slash (middle ++ b ∷ []) ≡ middle = last ∙ ap (λ t. cond t middle (middle ++ b ∷ [])) t in
          subst (NamesAre text path) (sym name) (names_are text path middle closed none (whole ∙ ap (λ t. cond t (path ++ middle) text) t))
      | inr f ↦
          let name : without_last_slash (middle ++ b ∷ []) ≡ middle ++ b ∷ [] = last ∙ ap (λ t. cond t middle (middle ++ b ∷ [])) f in
          subst (NamesAre text path) (sym name) (names_are text path (middle ++ b ∷ []) closed (All-push (λ x. is_slash x ≡ false) middle b none f)
          (whole ∙ (ap (λ t. cond t (path ++ middle) text) f ∙ append_assoc path middle (b ∷ []))))
    ]

-- ---- the last slash before the last byte

cut_none : (within : List ℕ) (b : ℕ) → IsLastByte (is_byte slash) within None → NamesAre (within ++ b ∷ []) [] (without_last_slash (within ++ b ∷ []))
cut_none within b h = cut_names [] within b empty (All-from_get_or (λ x. is_slash x ≡ false) within 0 (λ k low. false_from_ne_true _ (h k (omega arith) low)))

cut_some : (within : List ℕ) (b i : ℕ) → IsLastByte (is_byte slash) within (Some i) → NamesAre (within ++ b ∷ []) (take (i + 1) within) (without_last_slash (drop (i + 1) within ++ b ∷ []))
cut_some within b i h =
    let inside : i < length within = h.0.high in
    let here : get_or within i 0 ≡ slash = eqb-true (get_or within i 0) slash h.1 in
    let closed : take (i + 1) within ≡ take i within ++ slash ∷ [] = take_more within i 0 inside ∙ ap (λ x. take i within ++ x ∷ []) here in
    let none : All (λ x. is_slash x ≡ false) (drop (i + 1) within) = All-from_get_or (λ x. is_slash x ≡ false) (drop (i + 1) within) 0 (λ k low.
    let there : get_or (drop (i + 1) within) k 0 ≡ get_or within ((i + 1) + k) 0 = get_or-drop (i + 1) within k 0 in
    rw there (false_from_ne_true _ (h.0.after ((i + 1) + k) (omega arith) (omega (arith, low, length-drop (i + 1) within))))) in
    subst (λ t. NamesAre (t ++ b ∷ []) (take (i + 1) within) (without_last_slash (drop (i + 1) within ++ b ∷ []))) (take-append-drop (i + 1) within)
    (cut_names (take (i + 1) within) (drop (i + 1) within) b (subst ClosedForm (sym closed) (after_slash (take i within))) none)

-- a text is what stands before its last byte, and that byte
with_last : (text : List ℕ) → text ≢ [] → (b : ℕ) × (take (length text - 1) text ++ b ∷ [] ≡ text)
with_last [] h = absurd (h refl)
with_last (x ∷ xs) h =
    let c = last_cases (x ∷ xs) (omega arith) in
    let at : length (x ∷ xs) - 1 ≡ length c.0 = omega (arith, ap length c.2, length_push c.0 c.1) in
    (c.1, ap (λ t. t ++ c.1 ∷ []) (ap (λ n. take n (x ∷ xs)) at ∙ (ap (take (length c.0)) c.2 ∙ take-append_seam c.0 (c.1 ∷ []))) ∙ sym c.2)

pub names_at_none : (text : List ℕ) → text ≢ [] → IsLastByte (is_byte slash) (take (length text - 1) text) None → NamesAre text (take 0 text) (without_last_slash (drop 0 text))
names_at_none text some h =
    let w = with_last text some in
    subst (λ t. NamesAre t [] (without_last_slash t)) w.1 (cut_none (take (length text - 1) text) w.0 h)

pub names_at_some : (text : List ℕ) (i : ℕ) → text ≢ [] → IsLastByte (is_byte slash) (take (length text - 1) text) (Some i) → NamesAre text (take (i + 1) text) (without_last_slash (drop (i + 1) text))
names_at_some text i some h =
    let w = with_last text some in
    let within = take (length text - 1) text in
    let inside : i < length within = h.0.high in
    let path : take (i + 1) text ≡ take (i + 1) within = ap (take (i + 1)) (sym w.1) ∙ take-append-le (i + 1) within (w.0 ∷ []) (omega (arith, inside)) in
    let name : drop (i + 1) text ≡ drop (i + 1) within ++ w.0 ∷ [] = ap (drop (i + 1)) (sym w.1) ∙ drop-append-le (i + 1) within (w.0 ∷ []) (omega (arith, inside)) in
    subst (λ t. NamesAre text t (without_last_slash (drop (i + 1) text))) (sym path) (subst (λ t. NamesAre text (take (i + 1) within) (without_last_slash t)) (sym name)
    (subst (λ t. NamesAre t (take (i + 1) within) (without_last_slash (drop (i + 1) within ++ w.0 ∷ []))) w.1 (cut_some within w.0 i h)))

-- the same of the two parts
pub names_moved : (text front back : List ℕ) (n m : ℕ) → n ≡ m → front ≡ take n text → back ≡ drop n text → NamesAre text (take m text) (without_last_slash (drop m text)) → NamesAre text front (without_last_slash back)
names_moved text front back n m e f b h =
    let there : take m text ≡ front = sym (f ∙ ap (λ k. take k text) e) in
    let rest : drop m text ≡ back = sym (b ∙ ap (λ k. drop k text) e) in
    subst (λ t. NamesAre text t (without_last_slash back)) there (subst (λ t. NamesAre text (take m text) (without_last_slash t)) rest h)
