-- What was taken of bytes, record by record.
use Rattle.std.proofs.Common.{◌≡◌, ℕ, ◌+◌, ◌-◌, ◌≤◌, Bool, true, false, cond, refl, sym, ◌∙◌, ap, subst, List, [], ◌∷◌, ◌++◌, length, take, drop, ◌==◌, arith, append_assoc, Option, Err}
use Rattle.std.proofs.lemmas.List.{append-nil, take_at, drop_at, length_push, length-append, length-drop, length-take-le, take-append-drop, drop-drop}
use Rattle.std.proofs.lemmas.List.Elements.{All-nil, All-push, All-append}
use Rattle.std.proofs.lemmas.Bool.Decides.{nat_tests}
use Rattle.std.proofs.Math.Seq.{take-add}
use Rattle.std.specs.Prelude.{MatchBool}
use Rattle.pathspec_parts.specs.Records.{record_path, record_is_dir, is_bad}
use Rattle.pathspec_parts.specs.RecordParts.{IsFreeOf}
use Rattle.pathspec_parts.specs.Writing.{AppendsUpTo, AppendsFront}
use Rattle.pathspec_parts.specs.Outputs.{records_where, text_of, output_where}
use Rattle.pathspec_parts.proofs.TextProofs.{text_of-append, text_of-one, text_of-longer, records_where-append, records_where-shorter, output_where-append, output_where-yes, output_where-no}
use Rattle.pathspec_parts.proofs.WritingProofs.{appends-none, upto-more, upto-on, upto-longer, front-more, front-buffered}
use Rattle.pathspec_filter.specs.declared.answers.Counts.{Counts}
use Rattle.pathspec_filter.specs.declared.answers.FilterError.{FilterError}
use Rattle.pathspec_filter.specs.declared.answers.FilterError.TheVariants as error
use Rattle.pathspec_filter.specs.FilterAnswers.{IsEarly}
use Rattle.pathspec_filter.specs.Passes.{BeginsBad, AreGoodRecords, HasTaken, HasStopped, IsWithin, HasPassed, HasTakenAll, HasMetBad, EndsTaking, with_end}
use Rattle.pathspec_parts.specs.Attributes.{Table}
use Rattle.pathspec_filter.specs.declared.choice.Found.{Found}
use Rattle.pathspec_filter.specs.declared.choice.Found.TheVariants as found
use Rattle.pathspec_filter.specs.declared.choice.Record.{Record}
use Rattle.pathspec_filter.specs.Places.{Choice, chooses}
use Rattle.pathspec_filter.specs.FoundRecords.{BeginsGood, IsFound}

module _ (takes : List ℕ → Bool → Bool) (separator : ℕ) where
  abbrev output : List (List ℕ) → List ℕ
  output rs = output_where takes separator rs

  -- ---- taken

  pub taken-none : (old : Option (List ℕ)) (left : List ℕ) (counts : Counts) → left ≡ [] → HasTaken takes separator [] old old left counts counts
  taken-none old left counts e = record {
    rs = [];
    are = record { whole = refl; free = All-nil (IsFreeOf separator); good = All-nil (λ r. is_bad r ≡ false) };
    written = ([], sym e, appends-none old);
    records = omega arith;
    selected = omega arith;
  }

  -- one record more
  pub taken-push : (taken : List ℕ) (old new : Option (List ℕ)) (left : List ℕ) (before after : Counts) → HasTaken takes separator taken old new left before after
      → (r more : List ℕ) → IsFreeOf separator r → is_bad r ≡ false → output_where takes separator (r ∷ []) ≡ more
      → (later : Counts) → later.records ≡ after.records + 1 → later.selected ≡ after.selected + length (records_where takes (r ∷ [])) → HasTaken takes separator (taken ++ (r ++ separator ∷ [])) old new (left ++ more) before later
  taken-push taken old new left before after h r more free good e later n s =
      let rs = h.rs in
      let whole : output rs ++ more ≡ output (rs ++ r ∷ []) = ap (λ t. output rs ++ t) (sym e) ∙ sym (output_where-append separator takes rs (r ∷ [])) in
      record {
        rs = rs ++ r ∷ [];
        are = record {
          whole = ap (λ t. t ++ (r ++ separator ∷ [])) h.are.whole ∙ (ap (λ t. text_of separator rs ++ t) (sym (text_of-one separator r)) ∙ sym (text_of-append separator rs (r ∷ [])));
          free = All-push (IsFreeOf separator) rs r h.are.free free;
          good = All-push (λ r. is_bad r ≡ false) rs r h.are.good good;
        };
        written = subst (λ (t : List ℕ). AppendsUpTo old new t (left ++ more)) whole (upto-longer old new (output rs) left more h.written);
        records = omega (arith, n, h.records, length_push rs r);
        selected = omega (arith, s, h.selected, ap length (records_where-append separator takes rs (r ∷ [])), length-append (records_where takes rs) (records_where takes (r ∷ [])));
      }

  -- some of what is left was written
  pub taken-moved : (taken : List ℕ) (old between new : Option (List ℕ)) (left less : List ℕ) (before after : Counts) → HasTaken takes separator taken old between left before after → AppendsUpTo between new left less
      → HasTaken takes separator taken old new less before after
  taken-moved taken old between new left less before after h w = record {
    rs = h.rs;
    are = h.are;
    written = upto-on old between new (output h.rs) left less h.written w;
    records = h.records;
    selected = h.selected;
  }

  are-joined : (first second : List ℕ) (rs qs : List (List ℕ)) → AreGoodRecords separator rs first → AreGoodRecords separator qs second → AreGoodRecords separator (rs ++ qs) (first ++ second)
  are-joined first second rs qs p q = record {
    whole = ap (λ t. t ++ second) p.whole ∙ (ap (λ t. text_of separator rs ++ t) q.whole ∙ sym (text_of-append separator rs qs));
    free = All-append (IsFreeOf separator) rs qs p.free q.free;
    good = All-append (λ r. is_bad r ≡ false) rs qs p.good q.good;
  }

  -- more bytes, of which all output is written, too
  pub taken-joined : (first second : List ℕ) (old between new : Option (List ℕ)) (before middle after : Counts) → HasTaken takes separator first old between [] before middle → HasTaken takes separator second between new [] middle after
      → HasTaken takes separator (first ++ second) old new [] before after
  taken-joined first second old between new before middle after h k = record {
    rs = h.rs ++ k.rs;
    are = are-joined first second h.rs k.rs h.are k.are;
    written = subst (λ (t : List ℕ). AppendsUpTo old new t []) (sym (output_where-append separator takes h.rs k.rs)) (upto-more old between new (output h.rs) [] (output k.rs) [] h.written k.written);
    records = omega (arith, h.records, k.records, length-append h.rs k.rs);
    selected = omega (arith, h.selected, k.selected, ap length (records_where-append separator takes h.rs k.rs), length-append (records_where takes h.rs) (records_where takes k.rs));
  }

  -- no more records than bytes, and no more of them selected
  pub taken-few : (taken : List ℕ) (old new : Option (List ℕ)) (left : List ℕ) (before after : Counts) → HasTaken takes separator taken old new left before after → after.records ≤ before.records + length taken
  taken-few taken old new left before after h = omega (arith, h.records, text_of-longer separator h.rs, ap length h.are.whole)

  pub taken-fewer : (taken : List ℕ) (old new : Option (List ℕ)) (left : List ℕ) (before after : Counts) → HasTaken takes separator taken old new left before after → before.selected ≤ before.records → after.selected ≤ after.records
  taken-fewer taken old new left before after h few = omega (arith, few, h.records, h.selected, records_where-shorter takes h.rs)

  -- ---- stopped

  -- a front of what is left was written
  pub stopped-at : (bytes taken behind : List ℕ) (old between new : Option (List ℕ)) (left : List ℕ) (before after : Counts) → bytes ≡ taken ++ behind → HasTaken takes separator taken old between left before after → AppendsFront between new left
      → HasStopped takes separator bytes old new
  stopped-at bytes taken behind old between new left before after e h w = record {
    rs = h.rs;
    taken = taken;
    behind = behind;
    whole = e;
    are = h.are;
    written = front-buffered old between new (output h.rs) left h.written w;
  }

  -- nothing of it was
  pub stopped-here : (bytes taken behind : List ℕ) (old new : Option (List ℕ)) (left : List ℕ) (before after : Counts) → bytes ≡ taken ++ behind → HasTaken takes separator taken old new left before after → HasStopped takes separator bytes old new
  stopped-here bytes taken behind old new left before after e h = record {
    rs = h.rs;
    taken = taken;
    behind = behind;
    whole = e;
    are = h.are;
    written = (left, h.written);
  }

  pub stopped-joined : (first bytes : List ℕ) (old between new : Option (List ℕ)) (before middle : Counts) → HasTaken takes separator first old between [] before middle → HasStopped takes separator bytes between new → HasStopped takes separator (first ++ bytes) old new
  stopped-joined first bytes old between new before middle h k = record {
    rs = h.rs ++ k.rs;
    taken = first ++ k.taken;
    behind = k.behind;
    whole = ap (λ t. first ++ t) k.whole ∙ sym (append_assoc first k.taken k.behind);
    are = are-joined first k.taken h.rs k.rs h.are k.are;
    written = subst (λ (t : List ℕ). AppendsFront old new t) (sym (output_where-append separator takes h.rs k.rs)) (front-more old between new (output h.rs) [] (output k.rs) h.written k.written);
  }

  pub met_bad-joined : (first bytes : List ℕ) (old between new : Option (List ℕ)) (before middle : Counts) (number : ℕ) → HasTaken takes separator first old between [] before middle → HasMetBad takes separator bytes between new middle number
      → HasMetBad takes separator (first ++ bytes) old new before number
  met_bad-joined first bytes old between new before middle number h k = record {
    taken = first ++ k.taken;
    behind = k.behind;
    after = k.after;
    whole = ap (λ t. first ++ t) k.whole ∙ sym (append_assoc first k.taken k.behind);
    bad = k.bad;
    done = taken-joined first k.taken old between new before middle k.after h k.done;
    number_is = k.number_is;
  }

  -- ---- within a pass

  pub within-start : (bytes held : List ℕ) (old : Option (List ℕ)) (counts : Counts) → held ≡ [] → IsWithin takes separator bytes bytes 0 old old held counts counts
  within-start bytes held old counts e = record {
    taken = [];
    whole = refl;
    inside = omega arith;
    long = omega arith;
    done = taken-none old (held ++ []) counts (append-nil held ∙ e);
  }

  module _ (bytes rest : List ℕ) (run : ℕ) (old between : Option (List ℕ)) (held : List ℕ) (before after : Counts) (w : IsWithin takes separator bytes rest run old between held before after) where
    -- the counts of one record more fit
    pub within-room : (n : ℕ) (is_selected : Bool) → BeginsGood takes separator (drop run rest) n is_selected → after.records + 1 ≤ before.records + length bytes
    within-room n is_selected f =
        let few = taken-few w.taken old between (held ++ take run rest) before after w.done in
        omega (arith, few, f.fits, ap length w.whole, length-append w.taken (drop run rest))

    -- and so does the end of the record
    pub within-fits : (n : ℕ) (is_selected : Bool) → BeginsGood takes separator (drop run rest) n is_selected → (run + n) + 1 ≤ length bytes
    within-fits n is_selected f = omega (arith, f.fits, length-drop run rest, w.long)

    pub within-few : before.selected ≤ before.records → after.selected ≤ after.records
    within-few few = taken-fewer w.taken old between (held ++ take run rest) before after w.done few

    module _ (n : ℕ) (is_selected : Bool) (f : BeginsGood takes separator (drop run rest) n is_selected) (later : Counts) (more : later.records ≡ after.records + 1) (selected : later.selected ≡ cond is_selected (after.selected + 1) after.selected) where
      abbrev r : List ℕ
      r = take n (drop run rest)

      abbrev ended : List ℕ
      ended = r ++ separator ∷ []

      long : length ended ≡ n + 1
      long = omega (arith, length_push r separator, length-take-le n (drop run rest) (omega (arith, f.fits)))

      parts : drop run rest ≡ ended ++ f.first.behind
      parts = f.first.whole ∙ sym (append_assoc r (separator ∷ []) f.first.behind)

      behind-is : drop ((run + n) + 1) rest ≡ f.first.behind
      behind-is =
          let e : (run + n) + 1 ≡ run + (n + 1) = omega arith in
          ap (λ k. drop k rest) e ∙ (sym (drop-drop (n + 1) run rest) ∙ (ap (drop (n + 1)) parts ∙ drop_at ended f.first.behind (n + 1) long))

      run-is : take ((run + n) + 1) rest ≡ take run rest ++ ended
      run-is =
          let e : (run + n) + 1 ≡ run + (n + 1) = omega arith in
          ap (λ k. take k rest) e ∙ (take-add run (n + 1) rest ∙ ap (λ t. take run rest ++ t) (ap (take (n + 1)) parts ∙ take_at ended f.first.behind (n + 1) long))

      whole-is : bytes ≡ (w.taken ++ ended) ++ drop ((run + n) + 1) rest
      whole-is = w.whole ∙ (ap (λ t. w.taken ++ t) (parts ∙ ap (λ t. ended ++ t) (sym behind-is)) ∙ sym (append_assoc w.taken ended (drop ((run + n) + 1) rest)))

      pub within-inside : (run + n) + 1 ≤ length rest
      within-inside = omega (arith, f.fits, length-drop run rest)

      -- the record is selected: the run has it, too
      pub within-yes : is_selected ≡ true → IsWithin takes separator bytes rest ((run + n) + 1) old between held before later
      within-yes y =
          let passes : takes (record_path r) (record_is_dir r) ≡ true = sym f.selected ∙ y in
          let one : later.selected ≡ after.selected + length (records_where takes (r ∷ [])) = rw passes (selected ∙ ap (λ b. cond b (after.selected + 1) after.selected) y) in
          let left : (held ++ take run rest) ++ ended ≡ held ++ take ((run + n) + 1) rest = append_assoc held (take run rest) ended ∙ ap (λ t. held ++ t) (sym run-is) in
          record {
            taken = w.taken ++ ended;
            whole = whole-is;
            inside = within-inside;
            long = w.long;
            done = subst (λ (t : List ℕ). HasTaken takes separator (w.taken ++ ended) old between t before later) left
                (taken-push w.taken old between (held ++ take run rest) before after w.done r ended f.first.free f.good (output_where-yes separator takes r passes) later more one);
          }

      -- it isn't: the run is put away, and a new one begins behind it
      pub within-no : is_selected ≡ false → (new : Option (List ℕ)) (kept : List ℕ) → AppendsUpTo between new (held ++ take run rest) kept → IsWithin takes separator bytes (drop ((run + n) + 1) rest) 0 old new kept before later
      within-no f0 new kept put =
          let fails : takes (record_path r) (record_is_dir r) ≡ false = sym f.selected ∙ f0 in
          let none : later.selected ≡ after.selected + length (records_where takes (r ∷ [])) = rw fails (selected ∙ (ap (λ b. cond b (after.selected + 1) after.selected) f0 ∙ omega arith)) in
          record {
            taken = w.taken ++ ended;
            whole = whole-is;
            inside = omega arith;
            long = omega (arith, w.long, length-drop ((run + n) + 1) rest);
            done = taken-push w.taken old new kept before after (taken-moved w.taken old between new (held ++ take run rest) kept before after w.done put) r [] f.first.free f.good (output_where-no separator takes r fails) later more none;
          }

    -- where it stops
    pub within-stopped : HasStopped takes separator bytes old between
    within-stopped = stopped-here bytes w.taken (drop run rest) old between (held ++ take run rest) before after w.whole w.done

    pub within-front : (new : Option (List ℕ)) → AppendsFront between new (held ++ take run rest) → HasStopped takes separator bytes old new
    within-front new front = stopped-at bytes w.taken (drop run rest) old between new (held ++ take run rest) before after w.whole w.done front

    -- where it ends
    pub within-passed : (new : Option (List ℕ)) → AppendsUpTo between new (held ++ take run rest) [] → (count : ℕ) → count ≡ length bytes - (length rest - run)
        → (meets_bad : Bool) → MatchBool meets_bad (BeginsBad separator (drop run rest)) (IsFreeOf separator (drop run rest)) → HasPassed takes separator bytes count meets_bad old new before after
    within-passed new put count c meets_bad behind =
        let all = ap length w.whole in
        let at : length w.taken ≡ count = omega (arith, c, all, length-append w.taken (drop run rest), length-drop run rest, w.inside) in
        let front : take count bytes ≡ w.taken = ap (take count) w.whole ∙ take_at w.taken (drop run rest) count at in
        let left : drop count bytes ≡ drop run rest = ap (drop count) w.whole ∙ drop_at w.taken (drop run rest) count at in
        record {
          inside = omega (arith, c);
          done = subst (λ (t : List ℕ). HasTaken takes separator t old new [] before after) (sym front) (taken-moved w.taken old between new (held ++ take run rest) [] before after w.done put);
          behind = subst (λ (t : List ℕ). MatchBool meets_bad (BeginsBad separator t) (IsFreeOf separator t)) (sym left) behind;
        }

  -- ---- a chunk

  module _ (bytes : List ℕ) (count : ℕ) (old new : Option (List ℕ)) (before after : Counts) where
    pub passed-all : HasPassed takes separator bytes count false old new before after → (left : List ℕ) → left ≡ drop count bytes → HasTakenAll takes separator bytes left old new before after
    passed-all p left e = record {
      taken = take count bytes;
      whole = sym (take-append-drop count bytes) ∙ ap (λ t. take count bytes ++ t) (sym e);
      free = subst (IsFreeOf separator) (sym e) p.behind;
      done = p.done;
    }

    pub passed-bad : HasPassed takes separator bytes count true old new before after → (number : ℕ) → number ≡ after.records + 1 → HasMetBad takes separator bytes old new before number
    passed-bad p number e = record {
      taken = take count bytes;
      behind = drop count bytes;
      after = after;
      whole = sym (take-append-drop count bytes);
      bad = p.behind;
      done = p.done;
      number_is = e;
    }

    -- the number of a bad record fits
    pub passed-room : HasPassed takes separator bytes count true old new before after → after.records + 1 ≤ before.records + length bytes
    passed-room p =
        let few = taken-few (take count bytes) old new [] before after p.done in
        let some = ap length p.behind.first.whole in
        omega (arith, few, some, length-append p.behind.text (separator ∷ p.behind.first.behind), length-drop count bytes, length-take-le count bytes p.inside, p.inside)

  -- no bytes were taken, and nothing is left
  pub all-none : (old : Option (List ℕ)) (counts : Counts) (chunk : List ℕ) → chunk ≡ [] → HasTakenAll takes separator (with_end separator chunk) chunk old old counts counts
  all-none old counts [] e = record { taken = []; whole = refl; free = All-nil (λ b. (b == separator) ≡ false); done = taken-none old [] counts refl }
  all-none old counts (b ∷ bs) e = let no : ⊥ = cc in absurd no

  -- no bytes were taken, and what is left has no separator
  pub all-partial : (old : Option (List ℕ)) (counts : Counts) (chunk last : List ℕ) (count : ℕ) → IsFreeOf separator (take count chunk) → last ≡ drop count chunk → IsFreeOf separator last → HasTakenAll takes separator chunk chunk old old counts counts
  all-partial old counts chunk last count front e back =
      let free : IsFreeOf separator (take count chunk ++ drop count chunk) =
      All-append (λ b. (b == separator) ≡ false) (take count chunk) (drop count chunk) front (subst (IsFreeOf separator) e back) in
      record { taken = []; whole = refl; free = subst (IsFreeOf separator) (take-append-drop count chunk) free; done = taken-none old [] counts refl }

  -- nothing was taken
  pub stopped-none : (old : Option (List ℕ)) (counts : Counts) (bytes : List ℕ) → HasStopped takes separator bytes old old
  stopped-none old counts bytes = stopped-here bytes [] bytes old old [] counts counts refl (taken-none old [] counts refl)

-- ---- what was found, in other words

module _ (table others : Table) (choice other : Choice) (rest part : List ℕ) (run : ℕ) (x : Found) (t : others ≡ table) (k : other ≡ choice) (p : part ≡ drop run rest) (h : IsFound (chooses others other) other.separator part x) where
  moved : IsFound (chooses table choice) choice.separator (drop run rest) x
  moved =
      subst (λ (y : Table). IsFound (chooses y choice) choice.separator (drop run rest) x) t
      (subst (λ (y : Choice). IsFound (chooses others y) y.separator (drop run rest) x) k (subst (λ (y : List ℕ). IsFound (chooses others other) other.separator y x) p h))

  pub found-good : (r : Record) → x ≡ found.Record r → BeginsGood (chooses table choice) choice.separator (drop run rest) r.length r.is_taken
  found-good r e = subst (λ (y : Found). IsFound (chooses table choice) choice.separator (drop run rest) y) e moved

  pub found-none : x ≡ found.Partial → IsFreeOf choice.separator (drop run rest)
  found-none e = subst (λ (y : Found). IsFound (chooses table choice) choice.separator (drop run rest) y) e moved

  pub found-one_bad : x ≡ found.Bad → BeginsBad choice.separator (drop run rest)
  found-one_bad e = subst (λ (y : Found). IsFound (chooses table choice) choice.separator (drop run rest) y) e moved

pub empty-is : (bytes chunk : List ℕ) → (length bytes == 0) ≡ true → bytes ≡ chunk → chunk ≡ []
empty-is [] chunk h e = sym e
empty-is (b ∷ bs) chunk h e = let no : length (b ∷ bs) ≡ 0 = grind (arith, nat_tests) in absurd (omega (arith, no))
