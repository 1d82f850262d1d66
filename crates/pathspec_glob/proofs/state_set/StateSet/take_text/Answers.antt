use Rattle.std.proofs.Common.{ℕ, ◌≡◌, ◌+◌, ◌*◌, ◌≤◌, ◌<◌, List, ◌∷◌, ◌++◌, sym, ◌∙◌, ap, arith, add-one, length, get_or, drop}
use Rattle.std.proofs.lemmas.List.{drop_more}
use Rattle.std.proofs.Math.Nat.{mul-suc}
use Rattle.pathspec_glob.specs.StateSets.{states_accept}
use Rattle.pathspec_glob.proofs.state_set.StateSet.take_text.Goals as goal

-- a row of tests more
more-steps : (tokens position first old new : ℕ) → old ≤ first + tokens * position → new ≤ old + tokens → new ≤ first + tokens * (position + 1)
more-steps tokens position first old new most more = rw (add-one position, mul-suc tokens position) (omega arith)

-- the byte at a place, and those behind it
next : (text rest : List ℕ) (position : ℕ) → position < length text → drop position text ++ rest ≡ get_or text position 0 ∷ (drop (position + 1) text ++ rest)
next text rest position within = ap (λ behind. behind ++ rest) (drop_more text position 0 within)

pub loop-position-preserved : goal.loop-position-preserved
loop-position-preserved c =
    let position = c.loop-position.position in
    let text = c.args.text.now in
    let tokens = c.args.tokens.now in
    let advance = c.advance.ensures in
    let invariant = c.loop-position.invariant in
    let tested = advance.tested c.if-not-advance.false in
    record {
      accepts = λ rest. advance.accepts (drop (position + 1) text ++ rest) ∙ ap (states_accept tokens c.args.case c.loop-position.self) (sym (next text rest position c.loop-position-test.true)) ∙ invariant.accepts rest;
      bounds = advance.bounds;
      least = omega (arith, tested, invariant.least);
      most = more-steps (length tokens.tokens) position c.args.steps.now.last c.loop-position.steps.last c.advance.new.steps.last invariant.most advance.steps;
      counted = record {
        goes_on = λ before was. advance.counted.goes_on before (invariant.counted.goes_on before was);
        rises = omega (arith, invariant.counted.rises, advance.counted.rises);
      };
      room = record { entered = advance.room.entered ∙ invariant.room.entered; staying = advance.room.staying ∙ invariant.room.staying };
    }

-- where no place is active, no text that begins so matches
pub returns-then-not-advance-clause-accepts : goal.returns-then-not-advance-clause-accepts
returns-then-not-advance-clause-accepts c rest =
    let position = c.loop-position.position in
    let text = c.args.text.now in
    let behind = drop (position + 1) text ++ rest in
    let advance = c.advance.ensures in
    sym (c.loop-position.invariant.accepts rest) ∙ ap (states_accept c.args.tokens.now c.args.case c.loop-position.self) (next text rest position c.loop-position-test.true) ∙ sym (advance.accepts behind) ∙ advance.none c.if-not-advance.true behind
