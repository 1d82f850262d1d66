-- Names that two paths share, and those of a directory's record.
use Rattle.std.proofs.Common.{◌≡◌, ℕ, ◌+◌, ◌-◌, ◌<◌, ◌≤◌, Bool, true, false, cond, refl, sym, ◌∙◌, ap, subst, inl, inr, List, [], ◌∷◌, ◌++◌, length, get_or, take, drop, arith, Some}
use Rattle.std.proofs.lemmas.Bool.{eqb-true}
use Rattle.std.proofs.lemmas.List.{length-drop, length-take-le, take-append-drop, take_more, take_rest, get_or-take}
use Rattle.std.proofs.Math.Seq.{take-take, take-add}
use Rattle.bstr.specs.Find.{IsLastByte, is_byte}
use Rattle.pathspec_parts.specs.Bytes.{slash}
use Rattle.pathspec_parts.specs.Paths.{is_slash, pieces, ends_with_slash, without_last_slash}
use Rattle.pathspec_parts.specs.Records.{record_path, record_names, directory_names}
use Rattle.pathspec_select.specs.ListingAnswers.{HasCommonFront, IsAfterName, SharesNames}
use Rattle.pathspec_parts.proofs.NameProofs.{ClosedForm, after_slash, names-closed, directory_names-append}
use Rattle.pathspec_parts.proofs.RecordProofs.{last_cases, ends_with_slash-push, without_last_slash-push}

-- ---- the path of a directory's record

directory_names-push : (front : List ℕ) (b : ℕ) → is_slash b ≡ true → directory_names (front ++ b ∷ []) ≡ record_names (front ++ b ∷ [])
directory_names-push front b t =
    let same : slash ≡ b = sym (eqb-true b slash t) in
    let path : record_path (front ++ b ∷ []) ≡ front = without_last_slash-push front b ∙ ap (λ t. cond t front (front ++ b ∷ [])) t in
    subst (λ x. directory_names (front ++ x ∷ []) ≡ pieces front) same (names-closed front) ∙ ap pieces (sym path)

-- It names the directories that are open after it.
pub directory_names-record : (text : List ℕ) → ends_with_slash text ≡ true → directory_names text ≡ record_names text
directory_names-record [] t = let no_end : false ≡ true = t in cc
directory_names-record (b ∷ bs) t =
    let c = last_cases (b ∷ bs) (omega arith) in
    let end : is_slash c.1 ≡ true = sym (ends_with_slash-push c.0 c.1) ∙ (ap ends_with_slash (sym c.2) ∙ t) in
    subst (λ x. directory_names x ≡ record_names x) (sym c.2) (directory_names-push c.0 c.1 end)

-- ---- names that two paths share

-- a path can be cut after a slash
pub after_slash_at : (path : List ℕ) (i : ℕ) → i < length path → get_or path i 0 ≡ slash → IsAfterName path (i + 1)
after_slash_at path i inside here =
    let closed : take (i + 1) path ≡ take i path ++ slash ∷ [] = take_more path i 0 inside ∙ ap (λ x. take i path ++ x ∷ []) here in
    ap directory_names (sym (take-append-drop (i + 1) path)) ∙ directory_names-append (take (i + 1) path) (drop (i + 1) path) (subst ClosedForm (sym closed) (after_slash (take i path)))

-- fewer bytes are the same where more are
fewer_alike : (left right : List ℕ) (n m : ℕ) → m ≤ n → HasCommonFront left right n → HasCommonFront left right m
fewer_alike left right n m less h = record {
  in_left = omega (arith, less, h.in_left);
  in_right = omega (arith, less, h.in_right);
  same = sym (take-take m n left less) ∙ (ap (take m) h.same ∙ take-take m n right less);
}

-- more bytes are the same where those after them are
pub more_alike : (left right : List ℕ) (n m : ℕ) → HasCommonFront left right n → HasCommonFront (take (length left - n) (drop n left)) (take (length right - n) (drop n right)) m → HasCommonFront left right (n + m)
more_alike left right n m h rests =
    let more : HasCommonFront (drop n left) (drop n right) m = subst (λ t. HasCommonFront t (drop n right) m) (take_rest left n) (subst (λ t. HasCommonFront (take (length left - n) (drop n left)) t m) (take_rest right n) rests) in
    record {
      in_left = omega (arith, h.in_left, more.in_left, length-drop n left);
      in_right = omega (arith, h.in_right, more.in_right, length-drop n right);
      same = take-add n m left ∙ (ap (λ t. t ++ take m (drop n left)) h.same ∙ (ap (λ t. take n right ++ t) more.same ∙ sym (take-add n m right)));
    }

pub shares_none : (directory wanted : List ℕ) → SharesNames directory wanted 0
shares_none directory wanted = record {
  front = record { in_left = omega arith; in_right = omega arith; same = refl };
  in_directory = refl;
  in_wanted = refl;
  closed = inl refl;
}

pub shares_up_to : (directory wanted : List ℕ) (n i : ℕ) → HasCommonFront directory wanted n → IsLastByte (is_byte slash) (take n directory) (Some i) → SharesNames directory wanted (i + 1)
shares_up_to directory wanted n i h last =
    let less : i < n = omega (arith, last.0.high, h.in_left, length-take-le n directory h.in_left) in
    let here : get_or (take n directory) i 0 ≡ slash = eqb-true (get_or (take n directory) i 0) slash last.1 in
    let there : get_or wanted i 0 ≡ slash = sym (get_or-take n wanted i 0 less) ∙ (ap (λ t. get_or t i 0) (sym h.same) ∙ here) in
    record {
      front = fewer_alike directory wanted n (i + 1) (omega (arith, less)) h;
      in_directory = after_slash_at directory i (omega (arith, less, h.in_left)) (sym (get_or-take n directory i 0 less) ∙ here);
      in_wanted = after_slash_at wanted i (omega (arith, less, h.in_right)) there;
      closed = inr (ap ends_with_slash (take_more wanted i 0 (omega (arith, less, h.in_right)) ∙ ap (λ x. take i wanted ++ x ∷ []) there) ∙ ends_with_slash-push (take i wanted) slash);
    }
