-- What the member of a set says of its spec: the glob behind the head matches what stands in a path behind the head.
use Rattle.std.proofs.Common.{◌≡◌, ℕ, zero, suc, ◌<◌, Bool, true, false, refl, sym, ◌∙◌, ap, List, [], ◌∷◌, ◌++◌, cond, length, drop, map, get_or, Option, Some, None}
use Rattle.std.specs.Prelude.{bytes_eq}
use Rattle.std.specs.List.{before_first, list_any, position_or_len}
use Rattle.std.specs.Option.{option_map}
use Rattle.std.proofs.Math.Seq.{drop-append_seam}
use Rattle.std.proofs.lemmas.List.{drop-map, length-map}
use Rattle.std.proofs.lemmas.Slice.Eq.{bytes_eq-Decides}
use Rattle.std.proofs.lemmas.Bool.{eq-eqb}
use Rattle.std.specs.Char.{to_ascii_lowercase}
use Rattle.pathspec_pattern.specs.declared.SearchMode.{SearchMode}
use Rattle.pathspec_pattern.specs.declared.SearchMode.TheVariants.{ShellGlob, Literal, PathAwareGlob}
use Rattle.pathspec_glob.specs.declared.Mode.{Mode}
use Rattle.pathspec_glob.specs.declared.Case.{Case}
use Rattle.pathspec_glob.specs.declared.Case.TheVariants.{Sensitive, Fold}
use Rattle.pathspec_glob.specs.Globs.{GlobSource}
use Rattle.pathspec_glob.specs.Tokens.{Token, tokens, tokens_from}
use Rattle.pathspec_glob.specs.Tokens.OneByte.{Byte}
use Rattle.pathspec_glob.specs.Tokens.Token.{One}
use Rattle.pathspec_glob.specs.ByteSets.{listed}
use Rattle.pathspec_glob.specs.GlobParts.{plain_tokens}
use Rattle.pathspec_glob.specs.GlobRelation.{is_same_byte, matches}
use Rattle.pathspec_glob.proofs.ByteSetProofs.{matches-listed}
use Rattle.pathspec_glob.proofs.StemProofs.{before_first-front, before_first-none}
use Rattle.pathspec_glob.proofs.TailProofs.{slash_before_rest, tokens_from-plain}
use Rattle.gix_pathspec.specs.Bytes.{is_wildcard}
use Rattle.gix_pathspec.specs.Paths.{IsBytes}
use Rattle.gix_pathspec.specs.Specs.{Spec, has_wildcard, ignores_case, wants_directory}
use Rattle.gix_pathspec.specs.Matching.{case_of, glob_matches, takes_kind}
use Rattle.gix_pathspec.specs.Prefixes.{head, stem}
use Rattle.gix_pathspec.specs.EndBytes.{has_wildcard_at}
use Rattle.gix_pathspec.specs.Room.{glob_in_mode, source_with}
use Rattle.gix_pathspec.specs.SetSources.{behind, set_source_of, MatchedAlwaysMatches, MemberIsGlob, SetSource, UnmatchedNeverMatches}
use Rattle.gix_pathspec.proofs.BeginsProofs.{front-from_begins_with}
use Rattle.gix_pathspec.proofs.EndByteProofs.{never-behind, parts}
use Rattle.gix_pathspec.proofs.HeadProofs.{stem-at_false}
use Rattle.gix_pathspec.proofs.SetProofs.{all-three, bytes-at, fits-by-glob, kept, matches-by-glob, no-more, taken}
use Rattle.gix_pathspec.proofs.SubtreeExcludeProofs.{in-mode}

-- ---- the source of a member

-- the head is the stem, and the source is the glob behind it
pub record IsSetSource (s : Spec) (source : SetSource) : Type 0 where
  pub same : stem s ≡ head s
  pub wild : has_wildcard s ≡ true
  pub glob : glob_in_mode s.mode s.path ≡ Some source.member.glob
  pub is_head : source.head ≡ head s
  pub is : source.member ≡ source_with s source.member.glob

pub set-source-parts : (s : Spec) (source : SetSource) → set_source_of s ≡ Some source → IsSetSource s source
set-source-parts s source e = at (bytes_eq (stem s) (head s)) (has_wildcard s) (glob_in_mode s.mode s.path) refl refl refl e
  where
    made : GlobSource → SetSource
    made glob = record { head = head s; member = source_with s glob }

    at : (t w : Bool) (g : Option GlobSource) → bytes_eq (stem s) (head s) ≡ t → has_wildcard s ≡ w → glob_in_mode s.mode s.path ≡ g
        → cond t (option_map (λ glob. record { head = head s; member = source_with s glob }) (cond w g None)) None ≡ Some source → IsSetSource s source
    at true true (Some glob) p r k is =
        let whole : SetSource = record { head = head s; member = source_with s glob } in
        let same : whole ≡ source = cc in
        let same_glob : glob ≡ source.member.glob = ap (λ (x : SetSource). x.member.glob) same in
        record {
          same = (bytes_eq-Decides (stem s) (head s)).0 p;
          wild = r;
          glob = k ∙ ap Some same_glob;
          is_head = sym (ap (λ (x : SetSource). x.head) same);
          is = sym (ap (λ (x : SetSource). x.member) same) ∙ ap (λ g. source_with s g) same_glob;
        }
    at true true None p r k is = cc
    at true false g p r k is = cc
    at false w g p r k is = cc

-- ---- bytes that stand for themselves

same-byte : (case : Case) (b : ℕ) → is_same_byte case b b ≡ true
same-byte Sensitive b = eq-eqb b b refl
same-byte Fold b = eq-eqb (to_ascii_lowercase b) (to_ascii_lowercase b) refl

-- they match themselves, and the other tokens what stands behind
front-off : (mode : Mode) (case : Case) (front : List ℕ) (ts : List Token) (rest : List ℕ) → matches mode case (plain_tokens front ++ ts) (front ++ rest) ≡ matches mode case ts rest
unfolding matches
front-off mode case [] ts rest = refl
front-off mode case (b ∷ front) ts rest = rw (same-byte case b) (front-off mode case front ts rest)

fit-drop : (n : ℕ) (text : List ℕ) → ((k : ℕ) → get_or text k 0 < 256) → (k : ℕ) → get_or (drop n text) k 0 < 256
fit-drop zero text fit = fit
fit-drop (suc n) [] fit = fit
fit-drop (suc n) (b ∷ bs) fit = fit-drop n bs (λ k. fit (suc k))

-- the tokens behind such bytes, of a pattern that begins with them
pub tokens-behind : (mode : Mode) (case : Case) (front rest text : List ℕ) (fit : (k : ℕ) → get_or text k 0 < 256) → (ts : List Token)
    → tokens mode (front ++ rest) ≡ plain_tokens front ++ ts
    → matches mode case (drop (length front) (map listed (tokens mode (front ++ rest)))) text ≡ matches mode case ts text
tokens-behind mode case front rest text fit ts is =
    let plain = length-map front (λ b. One (Byte b)) in
    let off : drop (length front) (plain_tokens front ++ ts) ≡ ts = ap (λ n. drop n (plain_tokens front ++ ts)) (sym plain) ∙ drop-append_seam (plain_tokens front) ts in
    ap (λ us. matches mode case us text) (drop-map listed (length front) (tokens mode (front ++ rest)))
    ∙ matches-listed mode case (drop (length front) (tokens mode (front ++ rest))) text fit
    ∙ ap (λ us. matches mode case us text) (ap (drop (length front)) is ∙ off)

pattern-is : (m : SearchMode) (path : List ℕ) (g : GlobSource) → glob_in_mode m path ≡ Some g → g.pattern ≡ path
pattern-is ShellGlob path g e = cc
pattern-is Literal path g e = cc
pattern-is PathAwareGlob path g e = cc

-- ---- the laws

-- the pattern is the head and a rest
module _ (s : Spec) (source : SetSource) (e : set_source_of s ≡ Some source) where
  abbrev is : IsSetSource s source
  is = set-source-parts s source e

  abbrev glob : GlobSource
  glob = source.member.glob

  own-head : source.head ≡ before_first is_wildcard glob.pattern
  own-head = is.is_head ∙ sym is.same ∙ stem-at_false s (parts s is.wild).0 ∙ ap (before_first is_wildcard) (sym (pattern-is s.mode s.path glob is.glob))

  pub stem-length : length (stem s) ≡ length source.head
  stem-length = ap (λ (t : List ℕ). length t) (is.same ∙ sym is.is_head)

  -- behind the front of the pattern, what stands behind that front in a path
  front-matches : (front : List ℕ) → front ≡ before_first is_wildcard glob.pattern → (path rest : List ℕ) → IsBytes path → path ≡ front ++ rest
      → matches glob.mode (case_of s) (drop (length front) (map listed (tokens glob.mode glob.pattern))) (drop (length front) path) ≡ matches glob.mode (case_of s) (tokens glob.mode glob.pattern) path
  front-matches front own path rest bytes split =
      let pattern = glob.pattern in
      let last = drop (position_or_len is_wildcard pattern) pattern in
      let whole : pattern ≡ front ++ last = before_first-front is_wildcard pattern ∙ ap (λ t. t ++ last) (sym own) in
      let plain = ap (λ t. list_any is_wildcard t) own ∙ before_first-none is_wildcard pattern in
      let ts = tokens_from glob.mode 0 (slash_before_rest true front) last in
      let read : tokens glob.mode (front ++ last) ≡ plain_tokens front ++ ts = tokens_from-plain glob.mode true front last plain in
      let off : drop (length front) path ≡ rest = ap (drop (length front)) split ∙ drop-append_seam front rest in
      ap (λ t. matches glob.mode (case_of s) (drop (length front) (map listed (tokens glob.mode t))) (drop (length front) path)) whole
      ∙ tokens-behind glob.mode (case_of s) front last (drop (length front) path) (fit-drop (length front) path (bytes-at path bytes)) ts read
      ∙ ap (matches glob.mode (case_of s) ts) off
      ∙ sym (front-off glob.mode (case_of s) front ts rest)
      ∙ ap (λ us. matches glob.mode (case_of s) us (front ++ rest)) (sym read ∙ ap (tokens glob.mode) (sym whole))
      ∙ ap (matches glob.mode (case_of s) (tokens glob.mode pattern)) (sym split)

pub member-is-glob-behind : MemberIsGlob
member-is-glob-behind s source path e bytes begins =
    let is = set-source-parts s source e in
    let split = front-from_begins_with source.head path begins in
    ap (λ (c : Case). matches source.member.glob.mode c (drop (length source.head) (map listed (tokens source.member.glob.mode source.member.glob.pattern))) (behind source.head path)) (ap (λ m. m.case) is.is)
    ∙ front-matches s source e source.head (own-head s source e) path split.0 bytes split.1
    ∙ in-mode s.mode s source.member.glob path (sym is.glob)

pub unmatched-never-matches : UnmatchedNeverMatches
unmatched-never-matches s source path e plain off =
    never-behind s path (set-source-parts s source e).wild (ap (has_wildcard_at path) (stem-length s source e) ∙ plain) off

pub matched-always-matches : MatchedAlwaysMatches
matched-always-matches s source path e asks glob table is_dir =
    let no = no-more s asks in
    matches-by-glob table s path is_dir
    (fits-by-glob s path is_dir (kept (ignores_case s) _ _ _ is_dir no.2)
    (all-three (has_wildcard s) (glob_matches s.mode s path) (takes_kind s is_dir) (set-source-parts s source e).wild glob (taken (wants_directory s) is_dir no.1)))
    no.0
