-- The outcome at a place has the names of the spec there, and keeps them.
use Rattle.std.proofs.Common.{◌≡◌, ◌∙◌, ◌<◌, sym, ap, subst, List, length, map}
use Rattle.std.proofs.Math.Seq.{map-set_same}
use Rattle.std.proofs.lemmas.Result.{IfOk-weaker}
use Rattle.bstr.specs.BStr.{bstr_bytes}
use Rattle.pathspec_parts.specs.Outcomes.{names_of}
use Rattle.gix_pathspec.specs.EndBytes.{NeverMatches}
use Rattle.gix_pathspec.specs.Search.{Numbered}
use Rattle.gix_pathspec.specs.Room.{SpecRoom, names_in_order}
use Rattle.gix_pathspec.proofs.EffortProofs.{kind_at-read}
use Rattle.gix_pathspec.proofs.FoundProofs.{matched_kind-never}
use Rattle.gix_pathspec.proofs.RoomProofs.{names-at}
use Rattle.gix_pathspec.proofs.search.counted.CountedSpecs.matches.Goals as goal

pub matches-requires-clause-names : goal.matches-requires-clause-names
matches-requires-clause-names g c =
    let ns = c.self.inside.all.items in
    let same : map names_of c.scratch.inside.outcomes.items ≡ names_in_order ns = ap (λ (s : SpecRoom). s.room.names) c.scratch.view_is ∙ (c.requires.room.outcomes ∙ ap names_in_order (sym c.self.view_is)) in
    names-at _ ns c.args.place _ _ same (subst (λ (ms : List Numbered). c.args.place < length ms) (sym c.self.view_is) c.requires.place) c.index_mut-outcome.ensures.value c.index-spec.ensures

pub returns-clause-answer : goal.returns-clause-answer
returns-clause-answer g c =
    let ns = c.self.inside.all.items in
    let inside = subst (λ (ms : List Numbered). c.args.place < length ms) (sym c.self.view_is) c.requires.place in
    IfOk-weaker c.matches.result _ _ (λ kind e. e ∙ kind_at-read _ _ _ _ c.args.place c.index-spec.result.now ns inside c.index-spec.ensures c.self.view_is) c.matches.ensures.answer

pub returns-clause-room : goal.returns-clause-room
returns-clause-room g c =
    let outcomes = c.scratch.inside.outcomes.items in
    let names = map-set_same names_of outcomes c.args.place c.matches.new.outcome c.index_mut-outcome.result.now (c.matches.ensures.names ∙ ap names_of c.index_mut-outcome.ensures.value) in
    rw (c.matches.ensures.room, names) (ap (λ (s : SpecRoom). s.room) c.scratch.view_is)

-- a spec that is ruled out doesn't match
pub returns-then-is_ruled_out-clause-answer : goal.returns-then-is_ruled_out-clause-answer
returns-then-is_ruled_out-clause-answer g c =
    let ns = c.self.inside.all.items in
    let spec = c.index-spec.result.now.spec in
    let table = g.L.LookUp.table c.args.look_up.now in
    let path = bstr_bytes c.args.path in
    let inside = subst (λ (ms : List Numbered). c.args.place < length ms) (sym c.self.view_is) c.requires.place in
    let never = subst (NeverMatches spec) c.as_bytes.ensures (c.is_ruled_out.ensures c.if-is_ruled_out.true) in
    matched_kind-never table spec path c.args.is_dir (never table c.args.is_dir) ∙ kind_at-read table c.args.self.now path c.args.is_dir c.args.place c.index-spec.result.now ns inside c.index-spec.ensures c.self.view_is
