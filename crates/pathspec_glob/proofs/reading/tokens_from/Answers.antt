-- Each token that is read goes after those before it.
use Rattle.std.proofs.Common.{◌≡◌, ◌≤◌, ◌∙◌, ◌∷◌, List, [], ℕ, refl, arith, length, drop, get_or, subst}
use Rattle.std.proofs.lemmas.List.{take_rest}
use Rattle.pathspec_glob.proofs.Words.{ReadsOn, tokens_view}
use Rattle.pathspec_glob.proofs.TokenProofs.{tokens-all}
use Rattle.pathspec_glob.proofs.reading.tokens_from.Goals.{In_ok-size}
use Rattle.pathspec_glob.proofs.reading.tokens_from.Goals as goal

-- the first byte and the others are the whole
whole : (text : List ℕ) → 1 ≤ length text → get_or text 0 0 ∷ drop 1 text ≡ text
whole [] some = absurd (omega arith)
whole (b ∷ bs) some = refl

-- so the front of the whole is read
reads : (c : In_ok-size) → ReadsOn c.args.mode c.loop-rest.after_slash c.loop-rest.rest.now (tokens_view c.loop-rest.all.items) (tokens_view c.push_front.new.all.items) c.in_ok-size.size
reads c =
    let text = c.loop-rest.rest.now in
    subst (λ t. ReadsOn c.args.mode c.loop-rest.after_slash t (tokens_view c.loop-rest.all.items) (tokens_view c.push_front.new.all.items) c.in_ok-size.size)
    (whole text c.in-len1-up.len_at_least) (rw take_rest at c.in_ok-size.ensures)

pub loop-rest-preserved : goal.loop-rest-preserved
loop-rest-preserved c = rw take_rest ((reads (goal.at.loop-rest-preserved c).In_ok-size).goes_on ∙ c.loop-rest.invariant)

pub returns : goal.returns
returns c = tokens-all c.args.mode c.loop-rest.after_slash (tokens_view c.loop-rest.all.items) _ c.loop-rest.rest.now c.loop-rest.invariant c.in_default.len_below
