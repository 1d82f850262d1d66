use Rattle.std.proofs.Common.{◌≡◌, ◌+◌, ◌++◌, ◌∷◌, [], refl, sym, ap, ◌∙◌, subst}
use Rattle.std.proofs.lemmas.List.{map-append, take_rest}
use Rattle.pathspec_glob.specs.declared.tokens.OneByte.TheVariants.{Byte as Own}
use Rattle.pathspec_glob.specs.declared.tokens.Token.TheVariants.{One as Alone}
use Rattle.pathspec_glob.proofs.Words.{listed_piece, token_view, tokens_view, Piece, StandsBefore, piece_of, Byte, One}
use Rattle.pathspec_glob.proofs.TailProofs.{plain_piece}
use Rattle.pathspec_glob.proofs.TokenProofs.{reads-on, run-read, run-listed, run-stands}
use Rattle.pathspec_glob.proofs.reading.push_front.Goals as goal

pub returns-then-not-is_wildcard : goal.returns-then-not-is_wildcard
returns-then-not-is_wildcard c =
    let byte = c.args.byte in
    let items : c.push.new.self.items ≡ c.args.all.now.items ++ Alone (Own byte) ∷ [] = c.in_ok-push.ensures.items in
    let plain = plain_piece c.args.mode c.args.after_slash byte c.args.rest.now (sym c.is_wildcard.ensures ∙ c.if-not-is_wildcard.true) in
    rw (items, map-append) (reads-on c.args.mode c.args.after_slash byte c.args.rest.now (tokens_view c.args.all.now.items) 1 (One (Byte byte)) (sym (ap listed_piece plain)) (λ others. refl))

pub returns-then-byte-eq42 : goal.returns-then-byte-eq42
returns-then-byte-eq42 c =
    let mode = c.args.mode in
    let after_slash = c.args.after_slash in
    let rest = c.args.rest.now in
    let token = c.run_token.result in
    let size = c.count_stars-more.result + 1 in
    let items : c.push-then-byte-eq42.new.self.items ≡ c.args.all.now.items ++ token ∷ [] = c.in_ok-push-2.ensures.items in
    let read = run-read mode after_slash rest _ _ c.count_stars-more.ensures.count (rw take_rest at c.run_token.ensures) ∙ run-listed mode after_slash _ _ in
    let is : record { token = token_view token; size = size } ≡ listed_piece (piece_of mode after_slash c.args.byte rest) = rw c.if-byte-eq42.true read in
    rw (items, map-append) (reads-on mode after_slash c.args.byte rest (tokens_view c.args.all.now.items) size (token_view token) is
    (subst (λ (p : Piece). StandsBefore p.token) (sym read) (run-stands mode after_slash _ _)))
