-- What was opened is the top, with its names on the stack.
use Rattle.std.proofs.Common.{◌≡◌, ℕ, refl, subst, List, [], ◌∷◌, Option, Some, Ok}
use Rattle.pathspec_list.specs.Directories.{append_known, opened_after}
use Rattle.pathspec_list.proofs.StepProofs.{texts, found_names}
use Rattle.pathspec_list.proofs.VisitProofs.{top_opened}
use Rattle.pathspec_list.proofs.walk.open_top.Goals as goal

-- a directory that was found is one that was opened
found_opened : {N : Type 0} (opened opened' : Option (List (List ℕ))) (path : List ℕ) (found : Option N) (names : N) → found ≡ Some names → opened' ≡ opened_after {F = ℕ} opened path (Ok found) → opened' ≡ append_known opened (path ∷ [])
found_opened {N} opened opened' path found names e h = subst (λ (o : Option N). opened' ≡ opened_after {F = ℕ} opened path (Ok o)) e h

pub returns-in-Ok-clause-visited : goal.returns-in-Ok-clause-visited
returns-in-Ok-clause-visited g c = λ es known.
    let found = found_names es [] c.in-Ok-Some.field-0 c.in-Ok-Some.names c.in-Ok-Some.field-0-is (c.in-Ok-Some.ensures.found es known) in
    let given = g.V.Visitor.given c.args.visitor.now in
    let told = g.V.Visitor.told c.args.visitor.now in
    top_opened given told (g.D.Directories.opened c.args.directories.now) (texts c.args.pending.now.items) given told (g.D.Directories.opened c.open.new.self) (texts c.push_names.new.pending.items) es
    _ found refl refl (found_opened (g.D.Directories.opened c.args.directories.now) (g.D.Directories.opened c.open.new.self) [] c.in-Ok-Some.field-0 c.in-Ok-Some.names c.in-Ok-Some.field-0-is c.in-Ok-Some.ensures.opened) c.in-Ok.ensures
