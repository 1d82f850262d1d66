-- The empty path, and the excludes that are asked one by one, where tables say no.
use Rattle.std.proofs.Common.{◌≡◌, ◌≤◌, ◌∙◌, ◌==◌, ◌||◌, ◌&&◌, not, true, ℕ, Bool, List, All, length, sym, ap, subst, false}
use Rattle.std.specs.List.{list_any}
use Rattle.bstr.specs.BStr.{bstr_bytes}
use Rattle.gix_pathspec.specs.SkipCounts.{IsExcludeCounted, IsExcludeSetCounted}
use Rattle.gix_pathspec.specs.Reach.{subtree_excludes_of}
use Rattle.gix_pathspec.specs.Bytes.{is_empty}
use Rattle.gix_pathspec.specs.Specs.{Spec}
use Rattle.gix_pathspec.specs.Room.{exclude_set_sources, made_sources, tokens_of, Room}
use Rattle.gix_pathspec.specs.Search.{Numbered, SearchContents, specs_of}
use Rattle.gix_pathspec.specs.SkipTables.{holds_nothing_by_tables, skips_by_tables}
use Rattle.gix_pathspec.specs.Skipping.{may_skip}
use Rattle.gix_pathspec.specs.SubtreeExcludes.{covers}
use Rattle.gix_pathspec.proofs.FoundProofs.{is_empty-counted}
use Rattle.gix_pathspec.proofs.SkipTableProofs.{skips-as-defined, skips-no-empty}
use Rattle.gix_pathspec.proofs.SubtreeExcludeProofs.{skip-counted, skip-unasked, excludes-fit}
use Rattle.gix_pathspec.proofs.ExcludeSetProofs.{excludes-made}
use Rattle.gix_pathspec.proofs.search.Search.is_skipped_by_excludes.Goals as goal

-- whether the path is empty, as its bytes were counted
test-empty : (path : List ℕ) {bytes : List ℕ} {told is : Bool} → bytes ≡ path → told ≡ (length bytes == 0) → told ≡ is → is_empty path ≡ is
test-empty path {bytes} same told is = is_empty-counted path (length bytes) (ap length same) ∙ sym told ∙ is

-- where tables say no, the excludes that are asked have the last word
by-excludes : (specs : List Spec) (d : List ℕ) {answer : Bool} → is_empty d ≡ false → holds_nothing_by_tables specs d ≡ false → answer ≡ list_any (λ s. covers s d) (subtree_excludes_of specs) → answer ≡ may_skip specs d
by-excludes specs d some none a =
    let no : skips_by_tables specs d ≡ false = rw some at none in
    a ∙ (sym (ap (λ b. b || list_any (λ s. covers s d) (subtree_excludes_of specs)) no) ∙ skips-as-defined specs d some)

pub returns-then-is_empty-clause-answer : goal.returns-then-is_empty-clause-answer
returns-then-is_empty-clause-answer c = skips-no-empty _ (bstr_bytes c.args.directory) (test-empty (bstr_bytes c.args.directory) c.as_bytes.ensures c.is_empty.ensures c.if-is_empty.true)

pub covers-requires-clause-room : goal.covers-requires-clause-room
covers-requires-clause-room c =
    let same : c.self.inside.specs ≡ c.args.self.now.specs = ap (λ (s : SearchContents). s.specs) c.self.view_is in
    let fits = excludes-fit c.self.inside.specs c.args.scratch.now.room.tokens (subst (λ (ns : List Numbered). All (λ n. tokens_of n.spec ≤ c.args.scratch.now.room.tokens) ns) (sym same) c.requires.fits.globs) in
    rw (c.begin.ensures.room, c.self.invariant.are_excludes) fits

pub returns-clause-answer : goal.returns-clause-answer
returns-clause-answer c =
    let same : c.self.inside.specs ≡ c.args.self.now.specs = ap (λ (s : SearchContents). s.specs) c.self.view_is in
    let excludes = c.self.invariant.are_excludes ∙ ap (λ (ns : List Numbered). subtree_excludes_of (specs_of ns)) same in
    by-excludes _ (bstr_bytes c.args.directory) (test-empty (bstr_bytes c.args.directory) c.as_bytes.ensures c.is_empty.ensures c.if-is_empty.false) c.requires.tables (c.covers.ensures.answer ∙ ap (λ ts. list_any (λ s. covers s (bstr_bytes c.args.directory)) ts) excludes)

pub returns-then-is_empty-clause-counted : goal.returns-then-is_empty-clause-counted
returns-then-is_empty-clause-counted c =
    let d = bstr_bytes c.args.directory in
    skip-unasked d (specs_of c.args.self.now.specs) c.args.scratch.now.counts c.begin.new.self.counts c.begin.ensures.begun
    (ap (λ b. not b && not (holds_nothing_by_tables (specs_of c.args.self.now.specs) d)) (test-empty d c.as_bytes.ensures c.is_empty.ensures c.if-is_empty.true))

-- the room is that of the excludes
pub covers-requires-clause-set : goal.covers-requires-clause-set
covers-requires-clause-set c =
    let same : c.self.inside.specs ≡ c.args.self.now.specs = ap (λ (s : SearchContents). s.specs) c.self.view_is in
    ap (λ (r : Room). r.excludes) c.begin.ensures.room ∙ c.requires.fits.excludes ∙ ap made_sources (sym same) ∙ sym (excludes-made c.self.inside.specs)
    ∙ ap exclude_set_sources (sym c.self.invariant.are_excludes)

pub returns-clause-counted : goal.returns-clause-counted
returns-clause-counted c =
    let d = bstr_bytes c.args.directory in
    let same : c.self.inside.specs ≡ c.args.self.now.specs = ap (λ (s : SearchContents). s.specs) c.self.view_is in
    let excludes = c.self.invariant.are_excludes ∙ ap (λ (ns : List Numbered). subtree_excludes_of (specs_of ns)) same in
    skip-counted d (specs_of c.args.self.now.specs) c.args.scratch.now.counts c.begin.new.self.counts c.covers.new.scratch.counts c.begin.ensures.begun
    (subst (λ ts. IsExcludeCounted ts d c.begin.new.self.counts c.covers.new.scratch.counts) excludes c.covers.ensures.counted)
    (subst (λ ts. IsExcludeSetCounted true ts d c.begin.new.self.counts c.covers.new.scratch.counts) excludes c.covers.ensures.by_set)
