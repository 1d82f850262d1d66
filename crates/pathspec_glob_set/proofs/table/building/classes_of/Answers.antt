use Rattle.std.proofs.Common.{◌≡◌, ℕ, suc, ◌+◌, ◌-◌, ◌<◌, ◌∙◌, false, sym, ap, subst, arith, List, length, set, get_or}
use Rattle.std.proofs.lemmas.Grind.{get_or-set_at}
use Rattle.std.proofs.lemmas.List.{get_or-set_same, get_or-set_other, length-set}
use Rattle.pathspec_glob_set.specs.declared.table.building.Classes.{Classes}
use Rattle.pathspec_glob_set.specs.declared.member.Member.{Member}
use Rattle.pathspec_glob_set.specs.Questions.{AreClasses, AreTakenAlike}
use Rattle.pathspec_glob_set.proofs.BuildingProofs.{more-classes, same-class}
use Rattle.pathspec_glob_set.proofs.table.building.classes_of.Goals.{then-byte-eq0+in_ok-takes+in_ok-found, else-byte-eq0+else-borders-byte}
use Rattle.pathspec_glob_set.proofs.table.building.classes_of.Goals as goal

-- classes with the class of one byte more, said of what they equal
of-equal : (globs : List Member) (ends : List ℕ) (places next byte : ℕ) (here there : Classes) (mine yours : ℕ) → here ≡ there → mine ≡ yours
    → AreClasses globs ends places next (record { of_byte = set there.of_byte byte yours; takes = there.takes })
    → AreClasses globs ends places next (record { of_byte = set here.of_byte byte mine; takes = here.takes })
of-equal globs ends places next byte here there mine yours same equal are =
    subst (λ (k : Classes). AreClasses globs ends places next (record { of_byte = set k.of_byte byte mine; takes = k.takes })) (sym same)
    (subst (λ (k : ℕ). AreClasses globs ends places next (record { of_byte = set there.of_byte byte k; takes = there.takes })) (sym equal) are)

-- the class of the last byte is the one that was written
last-class : (classes : List ℕ) (byte class : ℕ) → byte < length classes → (b : ℕ) → suc b ≡ byte + 1 → class ≡ get_or (set classes byte class) b 0
last-class classes byte class within b e =
    let same : b ≡ byte = omega (arith, e) in
    sym (get_or-set_at classes byte b class 0 same within)

pub loop-byte-preserved : goal.loop-byte-preserved
loop-byte-preserved c =
    let globs = c.args.globs.now in
    let ends = c.args.ends.now in
    let places = c.args.places in
    let was = c.loop-byte.invariant in
    let old = c.loop-byte.classes in
    let byte = c.loop-byte.byte in
    let here = c.if-byte-eq0.classes in
    let class = c.if-byte-eq0.class in
    let low = c.loop-byte-test.true in
    let long : byte < length old.of_byte = omega (arith, was.all, low) in
    elim c.if-byte-eq0.branch [
      | then-byte-eq0+in_ok-takes+in_ok-found w ↦
          let own = w.in_ok-found.found in
          let there : Classes = record { of_byte = old.of_byte; takes = w.class_of.new.classes } in
          let new : Classes = record { of_byte = set old.of_byte byte own; takes = w.class_of.new.classes } in
          let all : length here.of_byte ≡ 256 = ap (λ (k : Classes). length k.of_byte) w.classes-is ∙ was.all in
          let within : byte < length here.of_byte = omega (arith, all, low) in
          let are : AreClasses globs ends places (byte + 1) new =
          more-classes globs ends places byte old new w.in_ok-takes.takes own was.classes w.in_ok-found.ensures w.in_ok-takes.ensures.len w.in_ok-takes.ensures.column
          (get_or-set_same old.of_byte byte own 0 long) (λ b h. get_or-set_other old.of_byte byte b own 0 (λ e. omega (arith, e, h))) in
          record {
            classes = of-equal globs ends places (byte + 1) byte here there class own w.classes-is w.class-is are;
            all = length-set here.of_byte byte class ∙ all;
            class = last-class here.of_byte byte class within;
          }
      | else-byte-eq0+else-borders-byte w ↦
          let b : ℕ = byte - 1 in
          let is : suc b ≡ byte = omega (arith, w.if-byte-eq0.false) in
          let less : suc b < 256 = omega (arith, is, low) in
          let marks = c.borders_of-borders.result in
          let all : length here.of_byte ≡ 256 = ap (λ (k : Classes). length k.of_byte) w.classes-is ∙ was.all in
          let within : byte < length here.of_byte = omega (arith, all, low) in
          let alike : AreTakenAlike globs byte b =
          subst (λ (k : ℕ). AreTakenAlike globs k b) is (c.borders_of-borders.ensures.marked b less (ap (λ (k : ℕ). get_or marks k false) is ∙ w.if-borders-byte.false)) in
          record {
            classes = of-equal globs ends places (byte + 1) byte here old class (get_or old.of_byte b 0) w.classes-is (w.class-is ∙ was.class b is)
                (same-class globs ends places byte b old was.classes is alike long);
            all = length-set here.of_byte byte class ∙ all;
            class = last-class here.of_byte byte class within;
          }
    ]
