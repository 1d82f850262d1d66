-- The walk begins behind the text, with the byte that stands there if there is one.
use Rattle.std.proofs.Common.{◌+◌, ◌<◌, ◌≤◌, [], ◌∷◌, sym, ◌∙◌, ap, subst, append-nil, arith, length, length-append}
use Rattle.pathspec_glob_set.specs.Moves.{LeadsNowhere, LeadsTo}
use Rattle.pathspec_glob_set.specs.Moves.LeadsTo.{empty}
use Rattle.pathspec_glob_set.specs.Tables.{row_of, text_with, AreFewSteps, Finds, KeepsRoom}
use Rattle.pathspec_glob_set.proofs.TableProofs.{clears-begun, clears-on, few-begun, few-for_more, few-more, leads-more, lost-behind, lost-step}
use Rattle.pathspec_glob_set.proofs.table.Table.walk.Goals as goal

pub returns-in_default-clause-found : goal.returns-in_default-clause-found
returns-in_default-clause-found c =
    let text = c.args.text.now in
    let begun = c.begin.new.self in
    let leads = subst (λ r. LeadsTo begun.moves [] r) (sym c.begin.ensures.table.rows.first) empty in
    subst (λ b. Finds c.walk_on.new.self (text_with text b) c.walk_on.result) (sym c.in_default.is)
    (subst (λ t. Finds c.walk_on.new.self t c.walk_on.result) (append-nil text) (c.walk_on.ensures.found [] leads))

pub returns-in_default-clause-steps : goal.returns-in_default-clause-steps
returns-in_default-clause-steps c =
    let text = c.args.text.now in
    let begun = c.begin.new.self in
    let places = length begun.moves.wide in
    let few = c.walk_on.ensures.steps 0 (few-begun places begun c.begin.ensures.begun) in
    let low : 0 + length text ≤ length (text_with text c.args.behind) = subst (λ b. 0 + length text ≤ length (text_with text b)) (sym c.in_default.is) (omega arith) in
    subst (λ m. AreFewSteps (length m.wide) (length (text_with text c.args.behind)) c.walk_on.new.self) c.begin.ensures.room.moves
    (few-for_more places (0 + length text) (length (text_with text c.args.behind)) c.walk_on.new.self low few)

pub returns-in-Row-clause-found : goal.returns-in-Row-clause-found
returns-in-Row-clause-found c =
    let text = c.args.text.now in
    let begun = c.begin.new.self in
    let new = c.lead.new.self in
    let first = subst (λ r. LeadsTo begun.moves [] r) (sym c.begin.ensures.table.rows.first) empty in
    let fits : c.in-Some.byte < 256 = omega arith in
    let leads = leads-more begun.moves new.moves [] c.in-Some.byte (row_of begun 0) (row_of new c.in-Row.row) c.lead.ensures.room.moves fits first c.in-Row.ensures.leads.1 in
    subst (λ b. Finds c.walk_on-in-Row.new.self (text_with text b) c.walk_on-in-Row.result) (sym c.in-Some.is) (c.walk_on-in-Row.ensures.found (c.in-Some.byte ∷ []) leads)

pub returns-in-Row-clause-steps : goal.returns-in-Row-clause-steps
returns-in-Row-clause-steps c =
    let text = c.args.text.now in
    let begun = c.begin.new.self in
    let new = c.lead.new.self in
    let walked = c.walk_on-in-Row.new.self in
    let places = length new.moves.wide in
    let one = few-more places 0 begun new (ap (λ m. length m.wide) (sym c.lead.ensures.room.moves)) c.lead.ensures.table.misses c.lead.ensures.counted (few-begun places begun c.begin.ensures.begun) in
    let few = c.walk_on-in-Row.ensures.steps (0 + 1) one in
    let low : 0 + 1 + length text ≤ length (text_with text c.args.behind) =
    subst (λ b. 0 + 1 + length text ≤ length (text_with text b)) (sym c.in-Some.is) (omega (arith, length-append text (c.in-Some.byte ∷ []))) in
    subst (λ m. AreFewSteps (length m.wide) (length (text_with text c.args.behind)) walked) c.begin.ensures.room.moves
    (subst (λ m. AreFewSteps (length m.wide) (length (text_with text c.args.behind)) walked) c.lead.ensures.room.moves
    (few-for_more places (0 + 1 + length text) (length (text_with text c.args.behind)) walked low few))

pub returns-in-Nowhere-clause-found : goal.returns-in-Nowhere-clause-found
returns-in-Nowhere-clause-found c =
    let text = c.args.text.now in
    let begun = c.begin.new.self in
    let new = c.lead.new.self in
    let first = subst (λ r. LeadsTo begun.moves [] r) (sym c.begin.ensures.table.rows.first) empty in
    let fits : c.in-Some.byte < 256 = omega arith in
    let lost = lost-step begun.moves new.moves [] c.in-Some.byte (row_of begun 0) c.lead.ensures.room.moves fits first c.in-Nowhere.ensures.leads in
    subst (λ b. LeadsNowhere new.moves (text_with text b)) (sym c.in-Some.is) (lost-behind new.moves text (c.in-Some.byte ∷ []) (λ k. (c.type_inv.text k).fits) lost)

pub returns-in_default-clause-cleared : goal.returns-in_default-clause-cleared
returns-in_default-clause-cleared c = c.walk_on.ensures.cleared c.args.self.now c.begin.ensures.room (clears-begun c.args.self.now c.begin.new.self c.begin.ensures.begun c.begin.ensures.cleared)

pub returns-in-Row-clause-cleared : goal.returns-in-Row-clause-cleared
returns-in-Row-clause-cleared c =
    let was = c.args.self.now in
    let begun = c.begin.new.self in
    let new = c.lead.new.self in
    let room : KeepsRoom was new = record { moves = c.lead.ensures.room.moves ∙ c.begin.ensures.room.moves; rows = c.lead.ensures.room.rows ∙ c.begin.ensures.room.rows } in
    let begins = clears-begun was begun c.begin.ensures.begun c.begin.ensures.cleared in
    c.walk_on-in-Row.ensures.cleared was room (clears-on was begun new c.begin.ensures.room.rows c.lead.ensures.counted c.lead.ensures.cleared begins)

pub returns-in-Nowhere-clause-cleared : goal.returns-in-Nowhere-clause-cleared
returns-in-Nowhere-clause-cleared c =
    let was = c.args.self.now in
    let begun = c.begin.new.self in
    clears-on was begun c.lead.new.self c.begin.ensures.room.rows c.lead.ensures.counted c.lead.ensures.cleared (clears-begun was begun c.begin.ensures.begun c.begin.ensures.cleared)

pub returns-in-Unknown-clause-cleared : goal.returns-in-Unknown-clause-cleared
returns-in-Unknown-clause-cleared c =
    let was = c.args.self.now in
    let begun = c.begin.new.self in
    clears-on was begun c.lead.new.self c.begin.ensures.room.rows c.lead.ensures.counted c.lead.ensures.cleared (clears-begun was begun c.begin.ensures.begun c.begin.ensures.cleared)
