-- A path that is not to be opened is looked at, and to tell of a fault asks no look-up.
use Rattle.std.proofs.Common.{◌≡◌, ℕ, true, false, refl, sym, ◌∙◌, ap, subst, not, Option, Vec, Global}
use Rattle.std.specs.Option.{option_map}
use Rattle.gix_pathspec.specs.Search.{specs_of}
use Rattle.gix_pathspec.specs.Skipping.{may_skip}
use Rattle.pathspec_walk.specs.Walks.{can_hold}
use Rattle.pathspec_list.specs.Directories.{IsFoundAt}
use Rattle.pathspec_list.specs.Listings.{is_listed}
use Rattle.pathspec_list.proofs.StepProofs.{texts}
use Rattle.pathspec_list.proofs.VisitProofs.{file_visits, follows_on_err, follows_on_ok, gives_one_kind, look_visits, none_opened, on_err}
use Rattle.pathspec_list.proofs.walk.Walker.visit.Goals as goal

pub returns-then-may_skip-clause-visited : goal.returns-then-may_skip-clause-visited
returns-then-may_skip-clause-visited g c = λ es known.
    let specs = specs_of c.args.self.now.search.now.specs in
    let takes = is_listed c.args.self.now.with_directories (g.L.LookUp.table c.args.look_up.now) specs in
    let path = c.args.path.now in
    let stack = texts c.args.pending.now.items in
    let before = c.args.visitor.now in
    let after = c.visit_skipped.new.visitor in
    follows_on_ok c.visit_skipped.result _ _
    (look_visits (g.V.Visitor.given before) (g.V.Visitor.told before) (g.D.Directories.opened c.args.directories.now) stack (g.V.Visitor.given after) (g.V.Visitor.told after) (g.D.Directories.opened c.visit_skipped.new.directories) stack
    takes (can_hold specs) es path (ap not (ap (may_skip specs) (sym c.new.ensures) ∙ (sym c.may_skip.ensures.answer ∙ c.if-may_skip.true))) c.visit_skipped.ensures.opened refl) (c.visit_skipped.ensures.visited es known)

pub returns-in-Err-clause-look_up : goal.returns-in-Err-clause-look_up
returns-in-Err-clause-look_up g c = (refl, c.tell.ensures.look_up (g.L.LookUp.failures c.args.look_up.now))

pub returns-in_err-give_if_listed-in-Ok-Some-clause-ended :
    goal.returns-in_err-give_if_listed-in-Ok-Some-clause-ended
returns-in_err-give_if_listed-in-Ok-Some-clause-ended g c = λ es known.
    let takes = is_listed c.args.self.now.with_directories (g.L.LookUp.table c.args.look_up.now) (specs_of c.args.self.now.search.now.specs) in
    let path = c.args.path.now in
    let found = subst (λ (o : Option (Vec (Vec ℕ Global) Global)). IsFoundAt es path (option_map (λ v. texts v.items) o)) c.in-Ok-Some.field-0-is (c.in-Ok-Some.ensures.found es known) in
    on_err c.from_residual.result _
    (gives_one_kind takes es path true (g.V.Visitor.given c.args.visitor.now) (g.V.Visitor.given c.give_if_listed.new.visitor) found.0 c.in_err-give_if_listed-in-Ok-Some.ensures.ended)

pub returns-in-Ok-None-clause-visited : goal.returns-in-Ok-None-clause-visited
returns-in-Ok-None-clause-visited g c = λ es known.
    let specs = specs_of c.args.self.now.search.now.specs in
    let takes = is_listed c.args.self.now.with_directories (g.L.LookUp.table c.args.look_up.now) specs in
    let path = c.args.path.now in
    let stack = texts c.args.pending.now.items in
    let before = c.args.visitor.now in
    let after = c.give_if_listed-in-Ok-None.new.visitor in
    let opened = g.D.Directories.opened c.args.directories.now in
    let opened' = g.D.Directories.opened c.open.new.self in
    let kind = subst (λ (o : Option (Vec (Vec ℕ Global) Global)). IsFoundAt es path (option_map (λ v. texts v.items) o)) c.in-Ok-None.field-0-is (c.in-Ok-None.ensures.found es known) in
    let same : opened' ≡ opened = c.open.ensures.opened ∙ none_opened opened path c.open.result c.in-Ok-None.field-0 c.in-Ok-None.is c.in-Ok-None.field-0-is in
    follows_on_ok c.give_if_listed-in-Ok-None.result _ _
    (λ gives. file_visits (g.V.Visitor.given before) (g.V.Visitor.told before) opened stack (g.V.Visitor.given after) (g.V.Visitor.told after) opened' stack takes (can_hold specs) es path kind same refl gives c.give_if_listed-in-Ok-None.ensures.told)
    c.give_if_listed-in-Ok-None.ensures.given

pub returns-in-Ok-None-clause-ended : goal.returns-in-Ok-None-clause-ended
returns-in-Ok-None-clause-ended g c = λ es known.
    let takes = is_listed c.args.self.now.with_directories (g.L.LookUp.table c.args.look_up.now) (specs_of c.args.self.now.search.now.specs) in
    let path = c.args.path.now in
    let kind = subst (λ (o : Option (Vec (Vec ℕ Global) Global)). IsFoundAt es path (option_map (λ v. texts v.items) o)) c.in-Ok-None.field-0-is (c.in-Ok-None.ensures.found es known) in
    follows_on_err c.give_if_listed-in-Ok-None.result _ _
    (gives_one_kind takes es path false (g.V.Visitor.given c.args.visitor.now) (g.V.Visitor.given c.give_if_listed-in-Ok-None.new.visitor) kind) c.give_if_listed-in-Ok-None.ensures.ended
