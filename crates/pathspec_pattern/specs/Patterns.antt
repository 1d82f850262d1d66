-- What a clause reads of a `Pattern`.
use Rattle.std.specs.Prelude.{◌≡◌, ◌↔◌, Bool, IsTrue, map, Result}
use Rattle.bstr.specs.declared.BStr.{BStr}
use Rattle.bstr.specs.BStr.{bstr_bytes}
use Rattle.pathspec_parts.specs.AttributeStates.{assignment_view}
use Rattle.pathspec_pattern.specs.declared.pattern.Pattern.{Pattern}
use Rattle.pathspec_pattern.specs.Signatures.{signature_bits}
use Rattle.pathspec_pattern.specs.Specs.{Spec}
use Rattle.pathspec_pattern.specs.Faults.{Fault}
use Rattle.pathspec_pattern.specs.NormalForm.{normal_form}

-- the spec that a pattern is
abbrev pub pattern_spec : Pattern → Spec
pattern_spec p =
    record {
      path = p.path.items;
      signature = signature_bits p.signature;
      mode = p.search_mode;
      attributes = map assignment_view p.attributes.items;
      nil = p.nil;
      prefix_length = p.prefix_length;
    }

-- the normal form of a pattern under a prefix, in a repository with this root
abbrev pub pattern_normal_form : BStr → BStr → Pattern → Result Spec Fault
pattern_normal_form prefix root p = normal_form (bstr_bytes prefix) (bstr_bytes root) (pattern_spec p)

-- A test of two patterns holds just where their specs are equal.
abbrev pub ComparesSpecs : (Pattern → Pattern → Bool) → Type 0
ComparesSpecs eq = (p q : Pattern) → IsTrue (eq p q) ↔ (pattern_spec p ≡ pattern_spec q)
