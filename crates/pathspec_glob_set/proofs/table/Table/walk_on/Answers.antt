use Rattle.std.proofs.Common.{◌≡◌, ◌+◌, ◌-◌, ◌++◌, [], refl, sym, ◌∙◌, subst, ap, arith, length, drop, get_or}
use Rattle.std.proofs.Math.ListN.{drop_of_length-le}
use Rattle.pathspec_glob_set.specs.Moves.{LeadsNowhere, LeadsTo}
use Rattle.pathspec_glob_set.specs.Tables.{row_of}
use Rattle.pathspec_glob_set.proofs.TableProofs.{before-read, clears-on, few-for_more, few-more, leads-more, lost-front, lost-step, sink-front, steps-fit}
use Rattle.pathspec_glob_set.proofs.table.Table.walk_on.Goals as goal

pub loop-back-init : goal.loop-back-init
loop-back-init c =
    let table = c.args.self.now in
    let text = c.args.text.now in
    let none : drop (length text - 0) text ≡ [] = drop_of_length-le text {i = length text - 0} (omega arith) in
    record {
      table = c.requires.table;
      row = c.requires.row;
      leads = λ behind leads. subst (λ t. LeadsTo table.moves (t ++ behind) (row_of table c.args.from)) (sym none) leads;
      steps = λ before few. few-for_more (length table.moves.wide) before (before + 0) table (omega arith) few;
      room = record { moves = refl; rows = refl };
      cleared = λ before room clears. clears;
    }

pub lead-requires : goal.lead-requires
lead-requires c =
    let was = c.loop-back.invariant in
    let moves = c.args.self.now.moves in
    record {
      table = was.table;
      row = was.row;
      steps = steps-fit c.loop-back.self.steps c.loop-back.self.misses c.loop-back.back (length moves.wide) (was.steps 1 c.requires.steps).steps was.table.misses moves.sizes.small (omega arith);
    }

pub loop-back-preserved : goal.loop-back-preserved
loop-back-preserved c =
    let was = c.loop-back.invariant in
    let said = c.in-Row.ensures in
    let old = c.loop-back.self in
    let new = c.lead.new.self in
    let text = c.args.text.now in
    let back = c.loop-back.back in
    let i = length text - 1 - back in
    let places = length c.args.self.now.moves.wide in
    record {
      table = said.table;
      row = said.leads.0;
      leads = λ behind leads. subst (λ t. LeadsTo new.moves (t ++ behind) (row_of new c.in-Row.next)) (sym (before-read text back c.loop-back-test.true))
          (leads-more old.moves new.moves (drop (length text - back) text ++ behind) (get_or text i 0) (row_of old c.loop-back.row) (row_of new c.in-Row.next) said.room.moves (c.type_inv.text i).fits (was.leads behind leads) said.leads.1);
      steps = λ before few. few-for_more places (before + back + 1) (before + (back + 1)) new (omega arith)
          (few-more places (before + back) old new (ap (λ m. length m.wide) was.room.moves) said.table.misses said.counted (was.steps before few));
      room = record { moves = said.room.moves ∙ was.room.moves; rows = said.room.rows ∙ was.room.rows };
      cleared = λ before room clears. clears-on before old new (was.room.rows ∙ room.rows) said.counted said.cleared (was.cleared before room clears);
    }

pub returns-then-is_sink : goal.returns-then-is_sink
returns-then-is_sink c =
    let was = c.loop-back.invariant in
    let said = c.in-Row.ensures in
    let old = c.loop-back.self in
    let new = c.lead.new.self in
    let text = c.args.text.now in
    let back = c.loop-back.back in
    let i = length text - 1 - back in
    let next = row_of new c.in-Row.next in
    let places = length c.args.self.now.moves.wide in
    record {
      table = said.table;
      found = λ behind leads.
          let more = subst (λ t. LeadsTo new.moves (t ++ behind) next) (sym (before-read text back c.loop-back-test.true))
          (leads-more old.moves new.moves (drop (length text - back) text ++ behind) (get_or text i 0) (row_of old c.loop-back.row) next said.room.moves (c.type_inv.text i).fits (was.leads behind leads) said.leads.1) in
          (said.leads.0, sink-front new.moves (length text - (back + 1)) text behind next (λ k. (c.type_inv.text k).fits) (c.if-is_sink.ensures.sink refl) more);
      steps = λ before few. few-for_more places (before + back + 1) (before + length text) new (omega (arith, c.loop-back-test.true))
          (few-more places (before + back) old new (ap (λ m. length m.wide) was.room.moves) said.table.misses said.counted (was.steps before few));
      room = record { moves = said.room.moves ∙ was.room.moves; rows = said.room.rows ∙ was.room.rows };
      cleared = λ before room clears. clears-on before old new (was.room.rows ∙ room.rows) said.counted said.cleared (was.cleared before room clears);
    }

pub returns-in-Nowhere : goal.returns-in-Nowhere
returns-in-Nowhere c =
    let was = c.loop-back.invariant in
    let said = c.in-Nowhere.ensures in
    let old = c.loop-back.self in
    let new = c.lead.new.self in
    let text = c.args.text.now in
    let back = c.loop-back.back in
    let i = length text - 1 - back in
    let places = length c.args.self.now.moves.wide in
    record {
      table = said.table;
      found = λ behind leads. lost-front new.moves (length text - (back + 1)) text behind (λ k. (c.type_inv.text k).fits)
          (subst (λ t. LeadsNowhere new.moves (t ++ behind)) (sym (before-read text back c.loop-back-test.true))
          (lost-step old.moves new.moves (drop (length text - back) text ++ behind) (get_or text i 0) (row_of old c.loop-back.row) said.room.moves (c.type_inv.text i).fits (was.leads behind leads) said.leads));
      steps = λ before few. few-for_more places (before + back + 1) (before + length text) new (omega (arith, c.loop-back-test.true))
          (few-more places (before + back) old new (ap (λ m. length m.wide) was.room.moves) said.table.misses said.counted (was.steps before few));
      room = record { moves = said.room.moves ∙ was.room.moves; rows = said.room.rows ∙ was.room.rows };
      cleared = λ before room clears. clears-on before old new (was.room.rows ∙ room.rows) said.counted said.cleared (was.cleared before room clears);
    }

pub returns-in-Unknown : goal.returns-in-Unknown
returns-in-Unknown c =
    let was = c.loop-back.invariant in
    let said = c.in-Unknown.ensures in
    let old = c.loop-back.self in
    let new = c.lead.new.self in
    let back = c.loop-back.back in
    let places = length c.args.self.now.moves.wide in
    record {
      table = said.table;
      found = λ behind leads. said.leads;
      steps = λ before few. few-for_more places (before + back + 1) (before + length c.args.text.now) new (omega (arith, c.loop-back-test.true))
          (few-more places (before + back) old new (ap (λ m. length m.wide) was.room.moves) said.table.misses said.counted (was.steps before few));
      room = record { moves = said.room.moves ∙ was.room.moves; rows = said.room.rows ∙ was.room.rows };
      cleared = λ before room clears. clears-on before old new (was.room.rows ∙ room.rows) said.counted said.cleared (was.cleared before room clears);
    }

pub returns : goal.returns
returns c =
    let was = c.loop-back.invariant in
    let text = c.args.text.now in
    let table = c.loop-back.self in
    let all : length text - c.loop-back.back ≡ 0 = omega (arith, c.loop-back-test.false) in
    record {
      table = was.table;
      found = λ behind leads. (was.row, subst (λ k. LeadsTo table.moves (drop k text ++ behind) (row_of table c.loop-back.row)) all (was.leads behind leads));
      steps = λ before few. few-for_more (length c.args.self.now.moves.wide) (before + c.loop-back.back) (before + length text) table (omega arith) (was.steps before few);
      room = was.room;
      cleared = was.cleared;
    }
