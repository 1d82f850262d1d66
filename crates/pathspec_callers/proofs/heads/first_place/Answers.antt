-- The head that was found is one of the heads; what begins the path is what begins that head, or nothing does.
use Rattle.std.proofs.Common.{◌≡◌, arith, subst, length, true, false, None}
use Rattle.std.specs.Option.{IfSome}
use Rattle.pathspec_glob.specs.Bytes.{begins_with}
use Rattle.pathspec_heads.specs.Heads.{head_at, IsLastFront, IsChainOf}
use Rattle.pathspec_heads.proofs.CandidateProofs.{candidates-next, no-candidates}
use Rattle.pathspec_callers.proofs.heads.first_place.Goals as goal

pub next_place-requires : goal.next_place-requires
next_place-requires c = omega (arith, (c.longest_head_of.ensures.found.begins c.in-Some.head c.in-Some.is).0)

pub returns-in-Some : goal.returns-in-Some
returns-in-Some c =
    let v = c.args.places.now in
    let chain : IsChainOf v.heads c.args.path.now c.in-Some.head = subst (λ o. IfSome o (IsChainOf v.heads c.args.path.now)) c.in-Some.is c.longest_head_of.ensures.chain in
    λ heads grouped. candidates-next heads v.heads v.starts v.order grouped c.args.path.now c.in-Some.head 0 c.next_place.result chain c.next_place.ensures

pub returns-in-None : goal.returns-in-None
returns-in-None c =
    let v = c.args.places.now in
    let last : IsLastFront v.heads (length v.heads) c.args.path.now None = subst (IsLastFront v.heads (length v.heads) c.args.path.now) c.in-None.is c.longest_head_of.ensures.found in
    λ heads grouped. record {
      found = tt;
      first = λ p _ has.
          let begins : begins_with c.args.path.now (head_at heads p) ≡ true = has.1 in
          let begins_not : begins_with c.args.path.now (head_at heads p) ≡ false = no-candidates heads v.heads v.starts v.order grouped c.args.path.now last p has.0 in
          cc;
    }
