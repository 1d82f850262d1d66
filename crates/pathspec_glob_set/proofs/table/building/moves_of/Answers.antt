use Rattle.std.proofs.Common.{◌≡◌, ℕ, suc, ◌==◌, ◌∙◌, sym, subst, arith, length, get_or}
use Rattle.pathspec_glob_set.specs.Meanings.{is_over_before, is_wide_before, may_cut}
use Rattle.pathspec_glob_set.specs.Questions.{AreClasses}
use Rattle.pathspec_glob_set.specs.Sets.{size_of, IsColumn}
use Rattle.pathspec_glob_set.proofs.BuildingProofs.{all-places, ends-within, within-places}
use Rattle.pathspec_glob_set.proofs.StartProofs.{start-row}
use Rattle.pathspec_glob_set.proofs.table.building.moves_of.Goals as goal

pub column-requires-clause-places : goal.column-requires-clause-places
column-requires-clause-places c =
    let ends = c.in_ok-ends.ends.items in
    let places = c.places_of-places.result in
    let last : (g : ℕ) → suc g ≡ length ends → places ≡ suc (get_or ends g 0) =
    subst (λ e. (g : ℕ) → suc g ≡ length e → places ≡ suc (get_or e g 0)) c.deref.ensures.value c.places_of-places.ensures.last in
    within-places c.args.globs.now ends c.deref-2.result.now places c.deref-2.ensures.value c.in_ok-ends.ensures.ends last

pub column-requires-2-clause-places : goal.column-requires-2-clause-places
column-requires-2-clause-places c =
    let ends = c.in_ok-ends.ends.items in
    let places = c.places_of-places.result in
    let last : (g : ℕ) → suc g ≡ length ends → places ≡ suc (get_or ends g 0) =
    subst (λ e. (g : ℕ) → suc g ≡ length e → places ≡ suc (get_or e g 0)) c.deref.ensures.value c.places_of-places.ensures.last in
    within-places c.args.globs.now ends c.deref-3.result.now places c.deref-3.ensures.value c.in_ok-ends.ensures.ends last

pub column-requires-3-clause-places : goal.column-requires-3-clause-places
column-requires-3-clause-places c =
    let ends = c.in_ok-ends.ends.items in
    let places = c.places_of-places.result in
    let last : (g : ℕ) → suc g ≡ length ends → places ≡ suc (get_or ends g 0) =
    subst (λ e. (g : ℕ) → suc g ≡ length e → places ≡ suc (get_or e g 0)) c.deref.ensures.value c.places_of-places.ensures.last in
    within-places c.args.globs.now ends c.deref-4.result.now places c.deref-4.ensures.value c.in_ok-ends.ensures.ends last

pub column-requires-4-clause-places : goal.column-requires-4-clause-places
column-requires-4-clause-places c =
    let ends = c.in_ok-ends.ends.items in
    let places = c.places_of-places.result in
    let last : (g : ℕ) → suc g ≡ length ends → places ≡ suc (get_or ends g 0) =
    subst (λ e. (g : ℕ) → suc g ≡ length e → places ≡ suc (get_or e g 0)) c.deref.ensures.value c.places_of-places.ensures.last in
    within-places c.args.globs.now ends c.deref-5.result.now places c.deref-5.ensures.value c.in_ok-ends.ensures.ends last

pub classes_of-requires-clause-places : goal.classes_of-requires-clause-places
classes_of-requires-clause-places c =
    let ends = c.in_ok-ends.ends.items in
    let places = c.places_of-places.result in
    let last : (g : ℕ) → suc g ≡ length ends → places ≡ suc (get_or ends g 0) =
    subst (λ e. (g : ℕ) → suc g ≡ length e → places ≡ suc (get_or e g 0)) c.deref.ensures.value c.places_of-places.ensures.last in
    within-places c.args.globs.now ends c.deref-6.result.now places c.deref-6.ensures.value c.in_ok-ends.ensures.ends last

pub invariant_of-result : goal.invariant_of-result
invariant_of-result c =
    let ends = c.in_ok-ends.ends.items in
    let places = c.places_of-places.result in
    let wide = c.in_ok-wide.ensures.len in
    let last : (g : ℕ) → suc g ≡ length ends → places ≡ suc (get_or ends g 0) =
    subst (λ e. (g : ℕ) → suc g ≡ length e → places ≡ suc (get_or e g 0)) c.deref.ensures.value c.places_of-places.ensures.last in
    let classes : AreClasses c.args.globs.now c.deref-6.result.now places 256 c.in_ok-classes.classes = c.in_ok-classes.ensures in
    record {
      sizes = record {
        small = omega (arith, c.in_ok-wide.ensures.small, wide);
        over_alike = c.in_ok-over.ensures.len ∙ sym wide;
        cuts_alike = c.in_ok-cuts.ensures.len ∙ sym wide;
        start_alike = c.close.ensures.len ∙ c.in_ok-start.ensures.len ∙ sym wide;
        each_byte = classes.within;
        each_class = λ k h. classes.sizes k h ∙ sym wide;
        each_glob = λ g h. omega (arith, wide, ends-within c.args.globs.now ends places c.in_ok-ends.ensures.ends last g h);
      };
    }

pub returns : goal.returns
returns c =
    let globs = c.args.globs.now in
    let ends = c.in_ok-ends.ends.items in
    let places = c.places_of-places.result in
    let are = c.in_ok-ends.ensures.ends in
    let none : length ends ≡ 0 → places ≡ 0 = subst (λ e. length e ≡ 0 → places ≡ 0) c.deref.ensures.value c.places_of-places.ensures.none in
    let last : (g : ℕ) → suc g ≡ length ends → places ≡ suc (get_or ends g 0) =
    subst (λ e. (g : ℕ) → suc g ≡ length e → places ≡ suc (get_or e g 0)) c.deref.ensures.value c.places_of-places.ensures.last in
    let wide : IsColumn globs ends (λ glob i. is_wide_before glob.tokens i) c.in_ok-wide.wide =
    subst (λ e. IsColumn globs e (λ glob i. is_wide_before glob.tokens i) c.in_ok-wide.wide) c.deref-2.ensures.value c.in_ok-wide.ensures.column in
    let over : IsColumn globs ends (λ glob i. is_over_before glob.tokens i) c.in_ok-over.over =
    subst (λ e. IsColumn globs e (λ glob i. is_over_before glob.tokens i) c.in_ok-over.over) c.deref-3.ensures.value c.in_ok-over.ensures.column in
    let cuts : IsColumn globs ends may_cut c.in_ok-cuts.cuts = subst (λ e. IsColumn globs e may_cut c.in_ok-cuts.cuts) c.deref-4.ensures.value c.in_ok-cuts.ensures.column in
    let behind : IsColumn globs ends (λ glob i. i == size_of glob) c.in_ok-start.start =
    subst (λ e. IsColumn globs e (λ glob i. i == size_of glob) c.in_ok-start.start) c.deref-5.ensures.value c.in_ok-start.ensures.column in
    let classes : AreClasses globs ends places 256 c.in_ok-classes.classes =
    subst (λ e. AreClasses globs e places 256 c.in_ok-classes.classes) c.deref-6.ensures.value c.in_ok-classes.ensures in
    record {
      ends = are;
      places = c.in_ok-wide.ensures.len ∙ all-places globs ends places are none last;
      wide = wide;
      over = over;
      cuts = cuts;
      takes = λ b fits. classes.takes b fits;
      start = start-row globs ends c.in_ok-wide.wide c.in_ok-over.over c.in_ok-start.start c.close.new.row are wide over behind c.close.ensures.closed
          (λ g h. omega (arith, ends-within globs ends places are last g h, c.in_ok-start.ensures.len));
    }
