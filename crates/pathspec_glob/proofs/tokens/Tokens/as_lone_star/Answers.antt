use Rattle.std.proofs.Common.{◌≡◌, true, false, refl, sym, ◌∙◌, ap, List, [], ◌∷◌}
use Rattle.std.proofs.lemmas.Bool.{and_parts}
use Rattle.pathspec_glob.proofs.Words.{Mode, Shell, PathAware, slash, Token, Byte, One, Star, Deep, may_pass_over_at, is_any_run}
use Rattle.pathspec_glob.specs.Matchers.{IsLoneStar}
use Rattle.pathspec_glob.proofs.EndProofs.{deep-slash_star, wide-alone}
use Rattle.pathspec_glob.proofs.tokens.Tokens.as_lone_star.Goals.{in-len1, in-len1-2, in-len3}
use Rattle.pathspec_glob.proofs.tokens.Tokens.as_lone_star.Goals as goal

deep-alone : (mode : Mode) → IsLoneStar (record { mode = mode; tokens = Deep ∷ [] })
deep-alone mode = record { wide = refl; same = λ case text. wide-alone mode case (Deep ∷ []) text refl refl }

star-alone : (mode : Mode) → IsLoneStar (record { mode = mode; tokens = Star ∷ [] })
star-alone mode = record { wide = refl; same = λ case text. wide-alone mode case (Star ∷ []) text refl refl }

deep-and-slash_star : (mode : Mode) (ts : List Token) → may_pass_over_at mode ts ≡ true → IsLoneStar (record { mode = mode; tokens = Deep ∷ One (Byte slash) ∷ Star ∷ [] })
deep-and-slash_star PathAware ts over = record { wide = refl; same = λ case text. deep-slash_star PathAware case (Deep ∷ One (Byte slash) ∷ Star ∷ []) text refl refl refl }
deep-and-slash_star Shell [] over = cc
deep-and-slash_star Shell (t ∷ []) over = cc
deep-and-slash_star Shell (t ∷ u ∷ ts) over = let none = (and_parts (is_any_run t) false over).1 in cc

pub returns-clause-alone : goal.returns-clause-alone
returns-clause-alone c =
    rw c.new.ensures (elim c.if-this-lt2.branch [
      | in-len1 w ↦ rw w.form-is (deep-alone c.self.inside.mode)
      | in-len1-2 w ↦ rw w.form-is (star-alone c.self.inside.mode)
      | in-len3 w ↦ rw w.form-is (deep-and-slash_star c.self.inside.mode c.args.self.now.tokens (ap (λ p. may_pass_over_at p.mode c.args.self.now.tokens) c.self.view_is ∙ sym w.may_pass_over.ensures.over ∙ w.if-may_pass_over.true))
    ])
