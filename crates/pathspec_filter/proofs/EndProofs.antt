-- What is known of the whole input when a filter ends.
use Rattle.std.proofs.Common.{◌≡◌, ◌≢◌, ℕ, ◌+◌, ◌-◌, ◌^◌, ◌<◌, ◌≤◌, Bool, true, false, refl, sym, ◌∙◌, ap, subst, List, [], ◌∷◌, ◌++◌, ◌==◌, length, get_or, take, arith, append_assoc, Option, Some, None, Result, Err}
use Rattle.std.proofs.lemmas.Bool.{eq-eqb}
use Rattle.std.proofs.lemmas.List.{append-nil, length-append, length_push, take_at, nil_from_length, same_from_push, get_or_push}
use Rattle.std.proofs.lemmas.List.Elements.{All-nil, All-get_or}
use Rattle.pathspec_parts.proofs.RecordProofs.{last_cases}
use Rattle.std.specs.Prelude.{IfSome}
use Rattle.std.specs.List.{position_from}
use Rattle.std.specs.Io.KnownBytes.{Appends, Consumes, IsAtEnd}
use Rattle.pathspec_parts.specs.Records.{records, is_bad}
use Rattle.pathspec_parts.specs.RecordParts.{IsFreeOf}
use Rattle.pathspec_parts.specs.Writing.{AppendsUpTo, AppendsFront}
use Rattle.pathspec_parts.specs.Outputs.{text_of, output_where, good_records, full_output}
use Rattle.pathspec_parts.proofs.TextProofs.{records-ended, records-text_of, records-cons, good_records-append, good_records-bad, position_from-good, position_from-bad, output_where-append}
use Rattle.pathspec_parts.proofs.WritingProofs.{front-longer}
use Rattle.pathspec_parts.specs.Attributes.{Table}
use Rattle.pathspec_filter.specs.Places.{Asked, is_taken}
use Rattle.pathspec_filter.specs.declared.answers.Counts.{Counts}
use Rattle.pathspec_filter.specs.declared.answers.FilterError.{FilterError}
use Rattle.pathspec_filter.specs.declared.answers.FilterError.TheVariants as error
use Rattle.pathspec_filter.specs.FilterAnswers.{CountsRecords, EndsWell, EndsAtBad, EndsEarly, EndsFilter, IsEarly}
use Rattle.pathspec_filter.specs.Passes.{AreGoodRecords, HasTaken, HasStopped, HasTakenAll, HasMetBad, EndsTaking, with_end}
use Rattle.pathspec_filter.specs.Chunks.{HasRead}
use Rattle.pathspec_filter.proofs.PassProofs.{taken-none, taken-few, taken-fewer, taken-joined, stopped-none, stopped-here, stopped-joined, met_bad-joined}

-- all that was put is written
upto-whole : (old new : Option (List ℕ)) (bs : List ℕ) → AppendsUpTo old new bs [] → Appends old new bs
upto-whole old new bs p = subst (Appends old new) (sym (p.1 ∙ append-nil p.0)) p.2

module _ (takes : List ℕ → Bool → Bool) (separator : ℕ) where
  -- the known input has the records of these bytes, and of more behind them
  abbrev pub Begins : Option (List ℕ) → List ℕ → Type 0
  Begins known bytes = IfSome known (λ input. (more : List ℕ) × (records separator input ≡ records separator (bytes ++ more)))

  -- it has just those
  abbrev pub HasSame : Option (List ℕ) → List ℕ → Type 0
  HasSame known bytes = IfSome known (λ input. records separator input ≡ records separator bytes)

  pub begins-consumed : (known left : Option (List ℕ)) (bytes : List ℕ) → Consumes known left bytes → Begins known bytes
  begins-consumed None left bytes c = tt
  begins-consumed (Some input) None bytes c = absurd c
  begins-consumed (Some input) (Some more) bytes c = (more, ap (records separator) c)

  pub begins-same : (known : Option (List ℕ)) (bytes : List ℕ) → HasSame known bytes → Begins known bytes
  begins-same None bytes c = tt
  begins-same (Some input) bytes c = ([], c ∙ ap (records separator) (sym (append-nil bytes)))

  -- the last record lacks its separator
  same-ended : (taken rest : List ℕ) (rs : List (List ℕ)) → AreGoodRecords separator rs taken → IsFreeOf separator rest → records separator (taken ++ rest) ≡ records separator (taken ++ with_end separator rest)
  same-ended taken [] rs are free = refl
  same-ended taken (b ∷ bs) rs are free =
      let some : b ∷ bs ≢ [] = λ e. let no : ⊥ = cc in no in
      ap (λ t. records separator (t ++ (b ∷ bs))) are.whole
      ∙ (records-text_of separator rs (b ∷ bs) are.free
      ∙ (ap (λ t. rs ++ t) (sym (records-ended separator (b ∷ bs) free some))
      ∙ (sym (records-text_of separator rs ((b ∷ bs) ++ separator ∷ []) are.free) ∙ ap (λ t. records separator (t ++ ((b ∷ bs) ++ separator ∷ []))) (sym are.whole))))

  pub same-consumed : (known left : Option (List ℕ)) (taken rest : List ℕ) (rs : List (List ℕ)) → Consumes known left (taken ++ rest) → IsAtEnd left → AreGoodRecords separator rs taken → IsFreeOf separator rest → HasSame known (taken ++ with_end separator rest)
  same-consumed None left taken rest rs c e are free = tt
  same-consumed (Some input) None taken rest rs c e are free = absurd c
  same-consumed (Some input) (Some more) taken rest rs c e are free =
      ap (records separator) (c ∙ (ap (λ t. (taken ++ rest) ++ t) e ∙ append-nil (taken ++ rest))) ∙ same-ended taken rest rs are free

  -- ---- the records of bytes that begin with good ones

  records-of : (bytes taken behind more : List ℕ) (rs : List (List ℕ)) → bytes ≡ taken ++ behind → AreGoodRecords separator rs taken → records separator (bytes ++ more) ≡ rs ++ records separator (behind ++ more)
  records-of bytes taken behind more rs e are =
      ap (λ t. records separator (t ++ more)) (e ∙ ap (λ t. t ++ behind) are.whole)
      ∙ (ap (records separator) (append_assoc (text_of separator rs) behind more) ∙ records-text_of separator rs (behind ++ more) are.free)

  module _ (old new : Option (List ℕ)) where
    -- a stop
    early-known : (input bytes more : List ℕ) → records separator input ≡ records separator (bytes ++ more) → HasStopped takes separator bytes old new → EndsEarly takes separator old new input
    early-known input bytes more same h =
        let later = records separator (h.behind ++ more) in
        let all : full_output takes separator input ≡ output_where takes separator h.rs ++ output_where takes separator (good_records later) =
        ap (λ t. output_where takes separator (good_records t)) (same ∙ records-of bytes h.taken h.behind more h.rs h.whole h.are)
        ∙ (ap (output_where takes separator) (good_records-append h.rs later h.are.good) ∙ output_where-append separator takes h.rs (good_records later)) in
        subst (AppendsFront old new) (sym all) (front-longer old new (output_where takes separator h.rs) (output_where takes separator (good_records later)) h.written)

    -- a bad record
    bad-known : (input bytes more : List ℕ) (before : Counts) (number : ℕ) → records separator input ≡ records separator (bytes ++ more) → before.records ≡ 0 → HasMetBad takes separator bytes old new before number → EndsAtBad takes separator old new number input
    bad-known input bytes more before number same zero h =
        let rs = h.done.rs in
        let text = h.bad.text in
        let behind = h.bad.first.behind in
        let later = records separator (behind ++ more) in
        let after : records separator (h.behind ++ more) ≡ text ∷ later =
        ap (λ t. records separator (t ++ more)) h.bad.first.whole ∙ (ap (records separator) (append_assoc text (separator ∷ behind) more) ∙ records-cons separator text (behind ++ more) h.bad.first.free) in
        let all : records separator input ≡ rs ++ text ∷ later = same ∙ (records-of bytes h.taken h.behind more rs h.whole h.done.are ∙ ap (λ t. rs ++ t) after) in
        let at : 1 + length rs ≡ number = omega (arith, h.number_is, h.done.records, zero) in
        let front : good_records (records separator input) ≡ rs =
        ap good_records all ∙ (good_records-append rs (text ∷ later) h.done.are.good ∙ (ap (λ t. rs ++ t) (good_records-bad text later h.bad.bad) ∙ append-nil rs)) in
        record {
          bad = ap (position_from is_bad 1) all ∙ (position_from-good 1 rs (text ∷ later) h.done.are.good ∙ (position_from-bad (1 + length rs) text later h.bad.bad ∙ ap Some at));
          written = subst (Appends old new) (ap (output_where takes separator) (sym front)) (upto-whole old new (output_where takes separator rs) h.done.written);
        }

    -- all records
    well-known : (input taken : List ℕ) (before counts : Counts) → records separator input ≡ records separator taken → before.records ≡ 0 → before.selected ≡ 0 → HasTaken takes separator taken old new [] before counts → EndsWell takes separator old new counts input
    well-known input taken before counts same zero none h =
        let rs = h.rs in
        let all : records separator input ≡ rs =
        same ∙ (ap (records separator) (sym (append-nil taken)) ∙ (records-of taken taken [] [] rs (sym (append-nil taken)) h.are ∙ append-nil rs)) in
        record {
          good = ap (position_from is_bad 1) (all ∙ sym (append-nil rs)) ∙ position_from-good 1 rs [] h.are.good;
          written = subst (Appends old new) (ap (output_where takes separator) (sym all)) (upto-whole old new (output_where takes separator rs) h.written);
          counted = subst (λ (t : List (List ℕ)). CountsRecords takes t counts) (sym all) (record { records = omega (arith, h.records, zero); selected = omega (arith, h.selected, none) });
        }

    -- ---- the same of an input that may be known

    pub ends-early : (known : Option (List ℕ)) (bytes : List ℕ) → Begins known bytes → HasStopped takes separator bytes old new → IfSome known (EndsEarly takes separator old new)
    ends-early None bytes b h = tt
    ends-early (Some input) bytes b h = early-known input bytes b.0 b.1 h

    pub ends-bad : (known : Option (List ℕ)) (bytes : List ℕ) (before : Counts) (number : ℕ) → Begins known bytes → before.records ≡ 0 → HasMetBad takes separator bytes old new before number → IfSome known (EndsAtBad takes separator old new number)
    ends-bad None bytes before number b zero h = tt
    ends-bad (Some input) bytes before number b zero h = bad-known input bytes b.0 before number b.1 zero h

    pub ends-well : (known : Option (List ℕ)) (taken : List ℕ) (before counts : Counts) → HasSame known taken → before.records ≡ 0 → before.selected ≡ 0 → HasTaken takes separator taken old new [] before counts → IfSome known (EndsWell takes separator old new counts)
    ends-well None taken before counts b zero none h = tt
    ends-well (Some input) taken before counts b zero none h = well-known input taken before counts b zero none h

    -- an error that tells of no record
    pub ends-refused : {F : Type 0} (known : Option (List ℕ)) (bytes : List ℕ) → Begins known bytes → HasStopped takes separator bytes old new → (e : FilterError F) → IsEarly e → EndsFilter takes separator known old new (Err e)
    ends-refused known bytes b h error.Read early = ends-early known bytes b h
    ends-refused known bytes b h (error.Line number) early = absurd early
    ends-refused known bytes b h (error.LookUp fault) early = ends-early known bytes b h
    ends-refused known bytes b h error.Memory early = ends-early known bytes b h
    ends-refused known bytes b h error.Write early = ends-early known bytes b h

  -- an error of taking more
  pub ends-taking : {F : Type 0} (old between new known : Option (List ℕ)) (first bytes left : List ℕ) (before middle after : Counts) → before.records ≡ 0 → HasTaken takes separator first old between [] before middle → Begins known (first ++ bytes)
      → (e : FilterError F) → EndsTaking {A = Unit {0}} takes separator bytes left between new middle after (Err e) → EndsFilter takes separator known old new (Err e)
  ends-taking old between new known first bytes left before middle after zero h b error.Read k = ends-early old new known (first ++ bytes) b (stopped-joined takes separator first bytes old between new before middle h k)
  ends-taking old between new known first bytes left before middle after zero h b (error.Line number) k =
      ends-bad old new known (first ++ bytes) before number b zero (met_bad-joined takes separator first bytes old between new before middle number h k)
  ends-taking old between new known first bytes left before middle after zero h b (error.LookUp fault) k = ends-early old new known (first ++ bytes) b (stopped-joined takes separator first bytes old between new before middle h k)
  ends-taking old between new known first bytes left before middle after zero h b error.Memory k = ends-early old new known (first ++ bytes) b (stopped-joined takes separator first bytes old between new before middle h k)
  ends-taking old between new known first bytes left before middle after zero h b error.Write k = ends-early old new known (first ++ bytes) b (stopped-joined takes separator first bytes old between new before middle h k)

-- ---- the whole filter

-- what is known before a read
pub record IsFiltered (takes : List ℕ → Bool → Bool) (separator : ℕ) (known remaining : Option (List ℕ)) (old new : Option (List ℕ)) (chunk : List ℕ) (counts : Counts) (room : ℕ) : Type 0 where
  pub taken : List ℕ
  pub before : Counts
  pub no_records : before.records ≡ 0
  pub none_selected : before.selected ≡ 0
  pub done : HasTaken takes separator taken old new [] before counts
  pub consumed : Consumes known remaining (taken ++ chunk)
  pub free : IsFreeOf separator chunk
  pub room_is : (length taken + length chunk) + room ≡ 2 ^ 64 - 2

consumes-none : (known : Option (List ℕ)) → Consumes known known []
consumes-none None = tt
consumes-none (Some input) = refl

consumes-more : (known between remaining : Option (List ℕ)) (first second : List ℕ) → Consumes known between first → Consumes between remaining second → Consumes known remaining (first ++ second)
consumes-more None between remaining first second p q = tt
consumes-more (Some x) None remaining first second p q = absurd p
consumes-more (Some x) (Some y) None first second p q = absurd q
consumes-more (Some x) (Some y) (Some z) first second p q = p ∙ (ap (λ t. first ++ t) q ∙ sym (append_assoc first second z))

with_end-length : (separator : ℕ) (bytes : List ℕ) → length (with_end separator bytes) ≤ length bytes + 1
with_end-length separator [] = omega arith
with_end-length separator (b ∷ bs) = omega (arith, length_push (b ∷ bs) separator)

module _ (takes : List ℕ → Bool → Bool) (separator : ℕ) (known : Option (List ℕ)) where
  -- before anything was read
  pub ends-none : (old : Option (List ℕ)) → IfSome known (EndsEarly takes separator old old)
  ends-none old =
      let counts : Counts = record { records = 0; selected = 0; skipped = 0 } in
      ends-early takes separator old old known [] (begins-consumed takes separator known known [] (consumes-none known)) (stopped-none takes separator old counts [])

  pub filtered-start : (old : Option (List ℕ)) (chunk : List ℕ) (counts : Counts) (room : ℕ) → chunk ≡ [] → counts.records ≡ 0 → counts.selected ≡ 0 → room ≡ 2 ^ 64 - 2 → IsFiltered takes separator known known old old chunk counts room
  filtered-start old chunk counts room e zero none r =
      let begin : IsFiltered takes separator known known old old [] counts room = record {
        taken = [];
        before = counts;
        no_records = zero;
        none_selected = none;
        done = taken-none takes separator old [] counts refl;
        consumed = consumes-none known;
        free = All-nil (λ b. (b == separator) ≡ false);
        room_is = omega (arith, r);
      } in
      subst (λ (t : List ℕ). IsFiltered takes separator known known old old t counts room) (sym e) begin

  module _ (remaining old new : Option (List ℕ)) (chunk : List ℕ) (counts : Counts) (room : ℕ) (s : IsFiltered takes separator known remaining old new chunk counts room) where
    -- it stops before the next record
    pub filtered-early : IfSome known (EndsEarly takes separator old new)
    filtered-early =
        ends-early takes separator old new known (s.taken ++ chunk) (begins-consumed takes separator known remaining (s.taken ++ chunk) s.consumed)
        (stopped-here takes separator (s.taken ++ chunk) s.taken chunk old new [] s.before counts refl s.done)

    few-records : counts.records ≤ length s.taken
    few-records = omega (arith, taken-few takes separator s.taken old new [] s.before counts s.done, s.no_records)

    pub filtered-few : counts.selected ≤ counts.records
    filtered-few = taken-fewer takes separator s.taken old new [] s.before counts s.done (omega (arith, s.no_records, s.none_selected))

    -- more bytes were read
    module _ (after : Option (List ℕ)) (read : List ℕ) (count : ℕ) (r : HasRead remaining after chunk read count) where
      longer : length read ≡ length chunk + count
      longer = omega (arith, ap length r.whole, length-append chunk r.given, r.counted)

      pub filtered-counted : count ≤ length read
      filtered-counted = omega (arith, longer)

      pub filtered-room : count ≤ room → counts.records + length read < 2 ^ 64
      filtered-room less = omega (arith, few-records, longer, s.room_is)

      pub filtered-room_last : count ≡ 0 → counts.records + length (with_end separator read) < 2 ^ 64
      filtered-room_last none = omega (arith, few-records, longer, s.room_is, with_end-length separator read)

      pub filtered-free : IsFreeOf separator (take (length read - count) read)
      filtered-free =
          let at : length chunk ≡ length read - count = omega (arith, longer) in
          subst (IsFreeOf separator) (sym (ap (take (length read - count)) r.whole ∙ take_at chunk r.given (length read - count) at)) s.free

      consumed : Consumes known after (s.taken ++ read)
      consumed =
          subst (λ (t : List ℕ). Consumes known after t) (append_assoc s.taken chunk r.given ∙ ap (λ t. s.taken ++ t) (sym r.whole))
          (consumes-more known remaining after (s.taken ++ chunk) r.given s.consumed r.consumed)

      module _ (later : Option (List ℕ)) (left : List ℕ) (more : Counts) where
        -- and taken
        pub filtered-taken : (less : ℕ) → less + count ≡ room → HasTakenAll takes separator read left new later counts more → IsFiltered takes separator known after old later left more less
        filtered-taken less e h =
            let parts : s.taken ++ read ≡ (s.taken ++ h.taken) ++ left = ap (λ t. s.taken ++ t) h.whole ∙ sym (append_assoc s.taken h.taken left) in
            record {
              taken = s.taken ++ h.taken;
              before = s.before;
              no_records = s.no_records;
              none_selected = s.none_selected;
              done = taken-joined takes separator s.taken h.taken old new later s.before counts more s.done h.done;
              consumed = subst (λ (t : List ℕ). Consumes known after t) parts consumed;
              free = h.free;
              room_is = omega (arith, s.room_is, longer, e, ap length h.whole, length-append h.taken left, length-append s.taken h.taken);
            }

        -- an error of taking them
        pub filtered-refused : {F : Type 0} (e : FilterError F) → EndsTaking {A = Unit {0}} takes separator read left new later counts more (Err e) → EndsFilter takes separator known old later (Err e)
        filtered-refused e h = ends-taking takes separator old new later known s.taken read left s.before counts more s.no_records s.done (begins-consumed takes separator known after (s.taken ++ read) consumed) e h

        module _ (none : count ≡ 0) where
          given-none : r.given ≡ []
          given-none = nil_from_length r.given (omega (arith, r.counted, none))

          rest-free : IsFreeOf separator read
          rest-free = subst (IsFreeOf separator) (sym (r.whole ∙ (ap (λ t. chunk ++ t) given-none ∙ append-nil chunk))) s.free

          same : HasSame takes separator known (s.taken ++ with_end separator read)
          same = same-consumed takes separator known after s.taken read s.done.rs consumed (r.ended none) s.done.are rest-free

          -- the last record
          pub filtered-refused_last : {F : Type 0} (e : FilterError F) → EndsTaking {A = Unit {0}} takes separator (with_end separator read) left new later counts more (Err e) → EndsFilter takes separator known old later (Err e)
          filtered-refused_last e h =
              ends-taking takes separator old new later known s.taken (with_end separator read) left s.before counts more s.no_records s.done (begins-same takes separator known (s.taken ++ with_end separator read) same) e h

          -- nothing is left behind it
          left-none : (bytes taken rest : List ℕ) → with_end separator bytes ≡ taken ++ rest → IsFreeOf separator rest → rest ≡ []
          left-none [] taken rest e free = nil_from_length rest (omega (arith, ap length e, length-append taken rest))
          left-none (b ∷ bs) taken [] e free = refl
          left-none (b ∷ bs) taken (x ∷ xs) e free =
              let c = last_cases (x ∷ xs) (omega arith) in
              let ends : (b ∷ bs) ++ separator ∷ [] ≡ (taken ++ c.0) ++ c.1 ∷ [] = e ∙ (ap (λ t. taken ++ t) c.2 ∙ sym (append_assoc taken c.0 (c.1 ∷ []))) in
              let last : separator ≡ c.1 = (same_from_push (b ∷ bs) (taken ++ c.0) separator c.1 ends).1 in
              let at : get_or (x ∷ xs) (length c.0) 0 ≡ c.1 = ap (λ t. get_or t (length c.0) 0) c.2 ∙ get_or_push c.0 c.1 0 (length c.0) refl in
              let inside : length c.0 < length (x ∷ xs) = omega (arith, ap length c.2, length_push c.0 c.1) in
              let no : (c.1 == separator) ≡ false = ap (λ b. b == separator) (sym at) ∙ All-get_or (λ b. (b == separator) ≡ false) (x ∷ xs) (length c.0) 0 inside free in
              let clash : true ≡ false = sym (eq-eqb c.1 separator (sym last)) ∙ no in
              cc

          pub filtered-well : HasTakenAll takes separator (with_end separator read) left new later counts more → IfSome known (EndsWell takes separator old later more)
          filtered-well h =
              let empty = left-none read h.taken left h.whole h.free in
              let all : with_end separator read ≡ h.taken = h.whole ∙ (ap (λ t. h.taken ++ t) empty ∙ append-nil h.taken) in
              ends-well takes separator old later known (s.taken ++ h.taken) s.before more (subst (λ (t : List ℕ). HasSame takes separator known (s.taken ++ t)) all same) s.no_records s.none_selected
              (taken-joined takes separator s.taken h.taken old new later s.before counts more s.done h.done)

-- by the table and what was asked that a filter began with
pub moved-taking : {F : Type 0} (table others : Table) (asked first : Asked) (separator other : ℕ) (bytes left : List ℕ) (old new : Option (List ℕ)) (before after : Counts) (r : Result (Unit {0}) (FilterError F)) → others ≡ table → first ≡ asked → other ≡ separator
    → EndsTaking (is_taken others first) other bytes left old new before after r → EndsTaking (is_taken table asked) separator bytes left old new before after r
moved-taking table others asked first separator other bytes left old new before after r t n s h =
    subst (λ (x : Table). EndsTaking (is_taken x asked) separator bytes left old new before after r) t
    (subst (λ (x : Asked). EndsTaking (is_taken others x) separator bytes left old new before after r) n (subst (λ (x : ℕ). EndsTaking (is_taken others first) x bytes left old new before after r) s h))

-- of counts, only those of records and of selected ones matter
pub well-counted : (takes : List ℕ → Bool → Bool) (separator : ℕ) (known old new : Option (List ℕ)) (counts others : Counts) → others.records ≡ counts.records → others.selected ≡ counts.selected
    → IfSome known (EndsWell takes separator old new counts) → IfSome known (EndsWell takes separator old new others)
well-counted takes separator None old new counts others r s h = h
well-counted takes separator (Some input) old new counts others r s h = record { good = h.good; written = h.written; counted = record { records = r ∙ h.counted.records; selected = s ∙ h.counted.selected } }
