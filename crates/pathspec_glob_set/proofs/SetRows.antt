-- Worked examples, which the checker computes.
use Rattle.std.proofs.Common.{◌≡◌, ℕ, ◌+◌, true, false, refl, ap, arith, List, [], ◌∷◌, get_or, map, replicate, nat_eq, Some}
use Rattle.pathspec_glob.specs.declared.Case.TheVariants.{Fold, Sensitive}
use Rattle.pathspec_glob.specs.declared.Mode.TheVariants.{PathAware, Shell}
use Rattle.pathspec_glob.proofs.Words.{Deep, matches, One, Star, TokenList}
use Rattle.pathspec_glob.specs.Tokens.OneByte.{Byte, Dead}
use Rattle.pathspec_glob.specs.BitVecs.{holds}
use Rattle.pathspec_glob_set.specs.Meanings.{is_over_before, is_wide_before, stands, takes_before}
use Rattle.pathspec_glob_set.specs.Rows.{leads_on, taken_of}
use Rattle.pathspec_glob_set.specs.declared.member.Member.{Member}
use Rattle.pathspec_glob_set.specs.declared.table.Lead.TheVariants.{Row, Nowhere, Unknown}
use Rattle.pathspec_glob_set.specs.Answers.{losses_after, ComesBy}
use Rattle.pathspec_glob_set.specs.Sets.{count_places, member_matches, size_of, AreEnds}
use Rattle.pathspec_glob_set.specs.Tables.{is_unknown}

-- `*a`
abbrev tail : TokenList
tail = record { mode = Shell; tokens = Deep ∷ One (Byte 97) ∷ [] }

-- `**/a` of `:(glob)`
abbrev below : TokenList
below = record { mode = PathAware; tokens = Deep ∷ One (Byte 47) ∷ One (Byte 97) ∷ [] }

-- no token stands before the first place
first-place : is_wide_before tail 0 ≡ false
first-place = refl

wide-place : is_wide_before tail 1 ≡ true
wide-place = refl

byte-place : is_wide_before tail 2 ≡ false
byte-place = refl

takes-own : takes_before tail Sensitive 2 97 ≡ true
takes-own = refl

takes-other : takes_before tail Sensitive 2 65 ≡ false
takes-other = refl

takes-folded : takes_before tail Fold 2 65 ≡ true
takes-folded = refl

wide-takes-all : takes_before tail Sensitive 1 47 ≡ true
wide-takes-all = refl

-- `**/` may stand for nothing, and no other two tokens here
over-both : is_over_before below 2 ≡ true
over-both = refl

over-not-one : is_over_before below 1 ≡ false
over-not-one = refl

over-not-last : is_over_before below 3 ≡ false
over-not-last = refl

-- `*a` matches the text `a`, and from within its star the star takes a byte before it
stands-whole : stands tail Sensitive 0 (97 ∷ []) ≡ true
unfolding matches
stands-whole = refl

stands-behind : stands tail Sensitive 2 (97 ∷ []) ≡ false
unfolding matches
stands-behind = refl

stands-within : stands tail Sensitive 1 (98 ∷ 97 ∷ []) ≡ true
unfolding matches
stands-within = refl

-- `**/a` doesn't match `ba`: what was passed over with its slash doesn't take bytes
not-within-name : stands below Sensitive 0 (98 ∷ 97 ∷ []) ≡ false
unfolding matches
not-within-name = refl

-- a wide place leads to the next, and one that is passed over to the second next
leads-next : leads_on (holds (true ∷ false ∷ [])) (λ i. false) (holds (true ∷ false ∷ [])) 1 ≡ true
leads-next = refl

leads-second : leads_on (λ i. false) (holds (true ∷ false ∷ false ∷ [])) (holds (true ∷ false ∷ false ∷ [])) 2 ≡ true
leads-second = refl

leads-no-further : leads_on (λ i. false) (holds (true ∷ false ∷ false ∷ [])) (holds (true ∷ false ∷ false ∷ [])) 1 ≡ false
leads-no-further = refl

-- a place takes a byte where it stands and its token takes it
takes-where-held : taken_of (true ∷ true ∷ []) (false ∷ true ∷ []) 0 ≡ false
takes-where-held = refl

-- ---- sets of globs

-- `*`, `?`, `**/a`, `A` in any case, and a bracket that isn't closed
abbrev lone : Member
lone = record { tokens = record { mode = Shell; tokens = Deep ∷ [] }; case = Sensitive; cuts = false }

abbrev any_name : Member
any_name = record { tokens = record { mode = PathAware; tokens = Star ∷ [] }; case = Sensitive; cuts = false }

abbrev below_all : Member
below_all = record { tokens = below; case = Fold; cuts = true }

abbrev folded : Member
folded = record { tokens = record { mode = Shell; tokens = One (Byte 65) ∷ [] }; case = Fold; cuts = true }

abbrev dead : Member
dead = record { tokens = record { mode = PathAware; tokens = One Dead ∷ [] }; case = Fold; cuts = true }

abbrev nothing : Member
nothing = record { tokens = record { mode = Shell; tokens = [] }; case = Sensitive; cuts = false }

abbrev mixed : List Member
mixed = lone ∷ any_name ∷ below_all ∷ folded ∷ dead ∷ nothing ∷ []

-- which of them match `x/a`
mixed-below : map (λ glob. member_matches glob (120 ∷ 47 ∷ 97 ∷ [])) mixed ≡ true ∷ false ∷ true ∷ false ∷ false ∷ false ∷ []
unfolding matches
mixed-below = refl

-- which match `a`
mixed-name : map (λ glob. member_matches glob (97 ∷ [])) mixed ≡ true ∷ true ∷ true ∷ true ∷ false ∷ false ∷ []
unfolding matches
mixed-name = refl

-- which match the empty text
mixed-empty : map (λ glob. member_matches glob []) mixed ≡ true ∷ true ∷ false ∷ false ∷ false ∷ true ∷ []
unfolding matches
mixed-empty = refl

-- how many places they have
mixed-places : count_places mixed ≡ 13
mixed-places = refl

places-none : count_places [] ≡ 0
places-none = refl

places-one : count_places (lone ∷ []) ≡ 2
places-one = refl

-- with 31 globs of one token all but two places are a word's, with 32 all, and with 33 the first two of the next word are theirs
places-31 : count_places (replicate 31 lone) ≡ 62
places-31 = refl

places-32 : count_places (replicate 32 lone) ≡ 64
places-32 = refl

places-33 : count_places (replicate 33 lone) ≡ 66
places-33 = refl

-- globs without a token have a place each
places-63 : count_places (replicate 63 nothing) ≡ 63
places-63 = refl

places-64 : count_places (replicate 64 nothing) ≡ 64
places-64 = refl

places-65 : count_places (replicate 65 nothing) ≡ 65
places-65 = refl

-- the last places of globs that stand from a place on
abbrev ends_from : ℕ → List Member → List ℕ
ends_from p [] = []
ends_from p (glob ∷ globs) = (p + size_of glob) ∷ ends_from (p + size_of glob + 1) globs

mixed-ends : ends_from 0 mixed ≡ 1 ∷ 3 ∷ 7 ∷ 9 ∷ 11 ∷ 12 ∷ []
mixed-ends = refl

ends-63 : get_or (ends_from 0 (replicate 63 nothing)) 62 0 ≡ 62
ends-63 = refl

ends-64 : get_or (ends_from 0 (replicate 64 nothing)) 63 0 ≡ 63
ends-64 = refl

ends-65 : get_or (ends_from 0 (replicate 65 nothing)) 64 0 ≡ 64
ends-65 = refl

-- no glob has an end, and a lone star the second of its two places
no-ends : AreEnds [] []
no-ends = record {
  len = refl;
  first = λ glob at. absurd (let impossible : ⊥ = omega (arith, at.within) in impossible);
  next = λ g glob at. absurd (let impossible : ⊥ = omega (arith, at.within) in impossible);
}

one-end : AreEnds (lone ∷ []) (1 ∷ [])
one-end = record {
  len = refl;
  first = λ glob at. ap size_of at.is;
  next = λ g glob at. absurd (let impossible : ⊥ = omega (arith, at.within) in impossible);
}

-- the places of the lone star: it stands at both where the text is empty, and from within it at the first where a byte was read
star-empty : stands lone.tokens Sensitive 1 [] ≡ true
unfolding matches
star-empty = refl

star-takes : takes_before lone.tokens Sensitive 1 47 ≡ true
star-takes = refl

-- a dead token takes no byte, whatever the case
dead-takes : takes_before dead.tokens Fold 1 97 ≡ false
dead-takes = refl

dead-stands : stands dead.tokens Fold 0 (97 ∷ []) ≡ false
unfolding matches
dead-stands = refl

-- a place at a word's last bit leads to the next word's first, and to no other
over-edge-next : leads_on (holds (replicate 65 true)) (λ i. false) (λ i. nat_eq i 63) 64 ≡ true
over-edge-next = refl

over-edge-not-second : leads_on (holds (replicate 66 true)) (λ i. false) (λ i. nat_eq i 63) 65 ≡ false
over-edge-not-second = refl

over-edge-second : leads_on (λ i. false) (holds (replicate 66 true)) (λ i. nat_eq i 63) 65 ≡ true
over-edge-second = refl

-- ---- what a search tells

comes-by-itself : ComesBy (Some 64) 64
comes-by-itself = omega arith

gave-up-last : losses_after true true 255 ≡ 256
gave-up-last = refl

spent-stays : losses_after true true 256 ≡ 256
spent-stays = refl

never-full : losses_after true false 7 ≡ 7
never-full = refl

won-back : losses_after false true 7 ≡ 6
won-back = refl

none-to-win : losses_after false true 0 ≡ 0
none-to-win = refl

row-is-known : is_unknown (Row 0) ≡ false
row-is-known = refl

nowhere-is-known : is_unknown Nowhere ≡ false
nowhere-is-known = refl

given-up-is-unknown : is_unknown Unknown ≡ true
given-up-is-unknown = refl
