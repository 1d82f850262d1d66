-- Each rule that fits says its assignments, before those in front of it.
use Rattle.std.proofs.Common.{◌≡◌, ◌∙◌, ℕ, ◌-◌, sym, ap, subst, cond, Bool, true, false, List, [], ◌++◌, map, length, get_or, reverse, take, arith}
use Rattle.std.proofs.Math.ListN.{get_or-map}
use Rattle.std.proofs.lemmas.List.{length-map}
use Rattle.std.specs.List.{flat_map}
use Rattle.pathspec_parts.specs.Attributes.{Assignment}
use Rattle.pathspec_parts.specs.AttributeStates.{assignment_view}
use Rattle.pathspec_attributes.specs.declared.file.RuleLine.{RuleLine}
use Rattle.pathspec_attributes.specs.Deciding.{Macro}
use Rattle.pathspec_attributes.specs.Files.{said_by_rule}
use Rattle.pathspec_attributes.specs.Leading.{Leads}
use Rattle.pathspec_attributes.specs.Rules.{Rule, fits}
use Rattle.pathspec_attributes.specs.Views.{macros_view, marked, rule_in}
use Rattle.pathspec_attributes.proofs.AskingProofs.{rule-says}
use Rattle.pathspec_attributes.proofs.LeadingProofs.{leads-behind, leads-nowhere, leads-on}
use Rattle.pathspec_attributes.proofs.asking.ask_file.Goals as goal

pub loop-left-preserved-in-Continue-branch-2 : goal.loop-left-preserved-in-Continue-branch-2
loop-left-preserved-in-Continue-branch-2 c =
    let macros : List Macro = macros_view c.args.macros.now in
    let asked = c.args.asked.now in
    let say : Rule → List Assignment = said_by_rule asked.case c.args.base.now asked.path.now asked.is_dir in
    let own : RuleLine = c.index.result.now in
    let rule : Rule = own.rule in
    let lines = c.args.file.now.rules.items in
    let rules : List Rule = map rule_in lines in
    let left : ℕ = c.loop-left.left in
    let size : length rules ≡ length lines = length-map lines rule_in in
    let at : rule ≡ get_or rules (left - 1) rule = ap rule_in c.index.ensures ∙ sym (get_or-map rule_in lines (left - 1) own) in
    let fit : fits asked.case c.args.base.now rule asked.path.now asked.is_dir ≡ true = sym c.in_ok-fits.ensures.fits ∙ c.if-branch.true in
    let says : reverse (map assignment_view c.assignments.result.now) ≡ say rule = ap reverse c.assignments.ensures ∙ sym (ap (λ (b : Bool). cond b (reverse rule.assignments) []) fit) in
    let here = subst (λ (list : List Assignment). Leads macros list (marked c.loop-left.room.marks) c.loop-left.out [] (marked c.decide.new.room.marks) c.decide.new.out) says c.in_ok-decide.ensures.leads in
    let rest : List Assignment = flat_map say (reverse (take (left - 1) rules)) in
    let step = leads-behind macros (flat_map say (reverse (take left rules))) (rule-says say rules left rule c.loop-left-test.true (omega (arith, size, c.loop-left.invariant.within)) at) here (leads-nowhere macros rest (marked c.decide.new.room.marks) c.decide.new.out) in
    record {
      within = omega (arith, c.loop-left.invariant.within);
      leads = leads-on macros c.loop-left.invariant.leads step;
      names = c.decide.ensures.names ∙ c.loop-left.invariant.names;
    }

pub returns-clause-leads : goal.returns-clause-leads
returns-clause-leads c =
    let macros : List Macro = macros_view c.args.macros.now in
    let asked = c.args.asked.now in
    let say : Rule → List Assignment = said_by_rule asked.case c.args.base.now asked.path.now asked.is_dir in
    let none : c.loop-left.left ≡ 0 = omega (arith, c.loop-left-test.false) in
    subst (λ (k : ℕ). Leads macros (flat_map say (reverse (map rule_in c.args.file.now.rules.items))) (marked c.args.room.now.marks) c.args.out.now (flat_map say (reverse (take k (map rule_in c.args.file.now.rules.items)))) (marked c.loop-left.room.marks) c.loop-left.out) none c.loop-left.invariant.leads

pub loop-left-preserved : goal.loop-left-preserved
loop-left-preserved c =
    let macros : List Macro = macros_view c.args.macros.now in
    let asked = c.args.asked.now in
    let say : Rule → List Assignment = said_by_rule asked.case c.args.base.now asked.path.now asked.is_dir in
    let own : RuleLine = c.index.result.now in
    let rule : Rule = own.rule in
    let lines = c.args.file.now.rules.items in
    let rules : List Rule = map rule_in lines in
    let left : ℕ = c.loop-left.left in
    let size : length rules ≡ length lines = length-map lines rule_in in
    let at : rule ≡ get_or rules (left - 1) rule = ap rule_in c.index.ensures ∙ sym (get_or-map rule_in lines (left - 1) own) in
    let fit : fits asked.case c.args.base.now rule asked.path.now asked.is_dir ≡ false = sym c.in_ok-fits.ensures.fits ∙ c.if-branch.false in
    let nothing : say rule ≡ [] = ap (λ (b : Bool). cond b (reverse rule.assignments) []) fit in
    let rest : List Assignment = flat_map say (reverse (take (left - 1) rules)) in
    let passes : flat_map say (reverse (take left rules)) ≡ rest = rule-says say rules left rule c.loop-left-test.true (omega (arith, size, c.loop-left.invariant.within)) at ∙ ap (λ (xs : List Assignment). xs ++ rest) nothing in
    record {
      within = omega (arith, c.loop-left.invariant.within);
      leads = subst (λ (list : List Assignment). Leads macros (flat_map say (reverse rules)) (marked c.args.room.now.marks) c.args.out.now list (marked c.loop-left.room.marks) c.loop-left.out) passes c.loop-left.invariant.leads;
      names = c.loop-left.invariant.names;
    }
