-- An exclude takes the rest of a directory where its glob has an open end.
use Rattle.std.proofs.Common.{rules, arith, map, ◌≡◌, Bool, true, false, not, ◌&&◌, inl, inr, refl, sym, ◌∙◌, ap, subst, Option, Some, None}
use Rattle.std.proofs.lemmas.Bool.{cases_Bool}
use Rattle.std.specs.Option.{option_map}
use Rattle.std.proofs.lemmas.List.{length-map}
use Rattle.pathspec_parts.specs.AttributeStates.{assignment_view}
use Rattle.gix_pathspec.proofs.FoundProofs.{is_empty-counted}
use Rattle.pathspec_glob.specs.declared.Mode.{Mode}
use Rattle.pathspec_glob.specs.declared.Mode.TheVariants.{Shell, PathAware}
use Rattle.pathspec_glob.specs.Globs.{GlobSource, glob_tokens}
use Rattle.pathspec_glob.specs.OpenEnds.{is_open}
use Rattle.pathspec_pattern.specs.declared.SearchMode.{SearchMode}
use Rattle.pathspec_pattern.specs.declared.SearchMode.TheVariants.{ShellGlob, Literal, PathAwareGlob}
use Rattle.gix_pathspec.specs.Bytes.{is_empty}
use Rattle.gix_pathspec.specs.Patterns.{pattern_spec}
use Rattle.gix_pathspec.specs.Reach.{can_take_rest}
use Rattle.gix_pathspec.specs.Room.{glob_in_mode, glob_of}
use Rattle.gix_pathspec.specs.Skipping.{has_open_end}
use Rattle.gix_pathspec.specs.Specs.{Spec, has_wildcard, is_exclude, wants_directory}
use Rattle.gix_pathspec.proofs.search.spec.takes_rest.Goals as goal

abbrev glob-with : Spec → Mode → GlobSource
glob-with s mode = record { mode = mode; pattern = s.path }

abbrev mode-of : Option GlobSource → Mode
mode-of None = Shell
mode-of (Some g) = g.mode

open-in-mode : (s : Spec) (way : SearchMode) (mode : Mode) → Some (glob-with s mode) ≡ glob_in_mode way s.path → is_open (glob_tokens (glob-with s mode)) ≡ has_open_end way s
open-in-mode s ShellGlob mode same = let is : mode ≡ Shell = ap mode-of same in rw is refl
open-in-mode s Literal mode same = cc
open-in-mode s PathAwareGlob mode same = let is : mode ≡ PathAware = ap mode-of same in rw is refl

all-four : (e a d w o : Bool) → e ≡ true → a ≡ true → d ≡ false → w ≡ true → o ≡ (e && (a && not d && w && o))
all-four true true false true o p q r t = refl
all-four true true false false o p q r t = cc
all-four true true true w o p q r t = cc
all-four true false d w o p q r t = cc
all-four false a d w o p q r t = cc

takes : (s : Spec) (mode : Mode) → is_exclude s ≡ true → is_empty s.attributes ≡ true → wants_directory s ≡ false → Some (glob-with s mode) ≡ glob_of s
    → is_open (glob_tokens (glob-with s mode)) ≡ (is_exclude s && can_take_rest s)
takes s mode exclude none any same = elim (cases_Bool (has_wildcard s)) [
  | inl wild ↦ open-in-mode s s.mode mode (rw wild at same) ∙ all-four (is_exclude s) (is_empty s.attributes) (wants_directory s) (has_wildcard s) (has_open_end s.mode s) exclude none any wild
  | inr plain ↦ let no = rw plain at same in cc
]

pub returns-in_ok-glob-in-Some : goal.returns-in_ok-glob-in-Some
returns-in_ok-glob-in-Some c =
    let s = pattern_spec c.args.pattern.now in
    let mode = c.in-Some.mode in
    let same : Some (glob-with s mode) ≡ glob_of s = subst (λ o. option_map (glob-with s) o ≡ glob_of s) c.in-Some.is c.glob_mode.ensures in
    let exclude : is_exclude s ≡ true = cc (c.is_excluded.ensures, c.if-not-is_excluded.false) in
    let v = c.args.pattern.now.attributes in
    let none : is_empty (map assignment_view v.items) ≡ true = is_empty-counted (map assignment_view v.items) v.len (omega (arith, length-map v.items assignment_view)) ∙ sym c.is_empty.ensures ∙ c.if-not-is_empty.false in
    let any : wants_directory s ≡ false = search rules in
    let source : c.in_ok-glob-in-Some.glob ≡ glob-with s mode = c.in_ok-glob-in-Some.ensures ∙ ap (λ p. record { mode = mode; pattern = p }) (c.as_bytes.ensures ∙ c.path.ensures.path) in
    c.has_open_end.ensures ∙ ap (λ g. is_open (glob_tokens g)) source ∙ takes s mode exclude none any same
