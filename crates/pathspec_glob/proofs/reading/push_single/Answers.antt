use Rattle.std.proofs.Common.{◌≡◌, ◌++◌, ◌∷◌, [], Bool, List, ℕ, refl}
use Rattle.std.proofs.lemmas.List.{map-append}
use Rattle.pathspec_glob.proofs.Words.{Mode, listed_piece, ReadsOn, piece_view, token_view, tokens_view, Token, piece_of}
use Rattle.pathspec_glob.proofs.TokenProofs.{reads-all, reads-on}
use Rattle.pathspec_glob.proofs.reading.push_single.Goals.{In_ok-push}
use Rattle.pathspec_glob.proofs.reading.push_single.Goals as goal

-- what a token reads on, it reads on where it is pushed
pushed : (c : In_ok-push) (mode : Mode) (after_slash : Bool) (size : ℕ)
    → ((old : List Token) → piece_view c.in_ok-token.field-0 ≡ listed_piece (piece_of mode after_slash c.args.byte c.args.rest.now)
    → ReadsOn mode after_slash (c.args.byte ∷ c.args.rest.now) old (old ++ token_view c.in_ok-token.field-0.token ∷ []) size)
    → ReadsOn mode after_slash (c.args.byte ∷ c.args.rest.now) (tokens_view c.args.all.now.items) (tokens_view c.push.new.self.items) size
pushed c mode after_slash size reads =
    let items : c.push.new.self.items ≡ c.args.all.now.items ++ c.in_ok-token.field-0.token ∷ [] = c.in_ok-push.ensures.items in
    rw (items, map-append) (reads (tokens_view c.args.all.now.items) (rw c.in_ok-token.was at (c.single_piece.ensures mode after_slash)))

pub returns-then-ends : goal.returns-then-ends
returns-then-ends c mode after_slash =
    pushed (goal.at.returns-then-ends c).In_ok-push mode after_slash _ (λ old is. reads-all mode after_slash _ _ old _ _ is (c.if-ends.ensures.last refl))

pub returns-else-ends : goal.returns-else-ends
returns-else-ends c mode after_slash =
    pushed (goal.at.returns-else-ends c).In_ok-push mode after_slash _ (λ old is. reads-on mode after_slash _ _ old _ _ is (c.if-ends.ensures.more refl))
