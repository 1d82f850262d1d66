-- The text reads back, since a pattern's attributes have valid names; and the laws hold of all long texts.
use Rattle.std.proofs.Common.{◌≡◌, true, not, ◌&&◌, refl, sym, ◌∙◌, subst, List, [], ◌∷◌, map}
use Rattle.std.proofs.lemmas.Bool.{and_parts, and_from}
use Rattle.std.proofs.lemmas.Str.{utf8_lossy-IsUtf8}
use Rattle.std.specs.List.{list_all}
use Rattle.std.specs.Str.{IsUtf8}
use Rattle.bstr.proofs.lemmas.LossyLemmas.{lossy_chars-utf8_lossy}
use Rattle.pathspec_parts.specs.Bytes.{is_empty}
use Rattle.pathspec_parts.specs.Attributes.{is_attribute_name}
use Rattle.pathspec_parts.specs.AttributeStates.{assignment_view}
use Rattle.pathspec_parts.specs.declared.attributes.state.Assignment.{Assignment}
use Rattle.pathspec_pattern.specs.Patterns.{pattern_spec}
use Rattle.pathspec_pattern.specs.LongText.{long_text}
use Rattle.pathspec_pattern.specs.RoundTrips.{is_expressible_state, is_set, is_expressible_assignment, has_expressible_state, IsExpressible}
use Rattle.pathspec_pattern.proofs.RoundTripProofs.{long_text_reads, long_text_is_injective}
use Rattle.pathspec_pattern.proofs.ParsedProofs.{round_trip_is_exact, parsed_is_expressible, parsed_round_trips}
use Rattle.pathspec_pattern.proofs.NormalTextProofs.{normal_form_keeps_magic, normal_form_is_expressible, normal_form_round_trips}
use Rattle.pathspec_pattern.proofs.pattern.Pattern.to_bstring.Goals as goal

-- a name is valid by its type
expressible-named : (assignments : List Assignment) → list_all has_expressible_state (map assignment_view assignments) ≡ true → list_all is_expressible_assignment (map assignment_view assignments) ≡ true
expressible-named [] h = refl
expressible-named (a ∷ rest) h =
    let name = (assignment_view a).name in
    let state = (assignment_view a).state in
    let fits = not (is_set state && is_empty name) in
    let p = and_parts (is_expressible_state state && fits) (list_all has_expressible_state (map assignment_view rest)) h in
    let q = and_parts (is_expressible_state state) fits p.0 in
    and_from (is_expressible_assignment (assignment_view a)) (list_all is_expressible_assignment (map assignment_view rest))
    (and_from (is_attribute_name name && is_expressible_state state) fits (and_from (is_attribute_name name) (is_expressible_state state) a.name.is_name q.0) q.1)
    (expressible-named rest p.1)

pub returns-in_err-long_text-clause-laws : goal.returns-in_err-long_text-clause-laws
returns-in_err-long_text-clause-laws c = (round_trip_is_exact, long_text_is_injective, parsed_is_expressible, parsed_round_trips)

pub returns-in_err-long_text-clause-normal : goal.returns-in_err-long_text-clause-normal
returns-in_err-long_text-clause-normal c = (normal_form_keeps_magic, normal_form_is_expressible, normal_form_round_trips)

pub returns-clause-round_trip : goal.returns-clause-round_trip
returns-clause-round_trip c expressible =
    let named : IsExpressible (pattern_spec c.args.self.now) = record { parts = record { bits = expressible.bits; assignments = expressible-named c.args.self.now.attributes.items expressible.assignments; path = expressible.path; nil = expressible.nil }; prefix = c.args.self.now.boundary } in
    rw (c.new.ensures, c.in_ok-long_text.ensures) (long_text_reads (pattern_spec c.args.self.now) named)

pub returns-clause-printed : goal.returns-clause-printed
returns-clause-printed c utf8 =
    let text = c.new.ensures ∙ c.in_ok-long_text.ensures in
    let is_text = subst IsUtf8 text utf8 in
    lossy_chars-utf8_lossy (long_text (pattern_spec c.args.self.now)) ∙ (utf8_lossy-IsUtf8 (long_text (pattern_spec c.args.self.now)) is_text ∙ sym text)

pub returns-clause-laws : goal.returns-clause-laws
returns-clause-laws c = (round_trip_is_exact, long_text_is_injective, parsed_is_expressible, parsed_round_trips)

pub returns-clause-normal : goal.returns-clause-normal
returns-clause-normal c = (normal_form_keeps_magic, normal_form_is_expressible, normal_form_round_trips)
