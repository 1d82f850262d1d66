-- The own entry of a record, and records that are files right in the open directory.
use Rattle.std.proofs.Common.{◌≡◌, ◌≢◌, ℕ, ◌+◌, ◌-◌, ◌≤◌, Bool, true, false, cond, refl, sym, ◌∙◌, ap, subst, List, [], ◌∷◌, ◌++◌, length, get_or, take, fold, replicate, arith, append_assoc, Some, None}
use Rattle.std.proofs.lemmas.List.{length-append, length-take-le, length_push}
use Rattle.std.proofs.lemmas.List.Elements.{All-get_or}
use Rattle.std.proofs.lemmas.Slice.Eq.{bytes_eq-Decides}
use Rattle.std.proofs.Math.Seq.{get_or-append_seam}
use Rattle.pathspec_parts.specs.Paths.{is_slash, ends_with_slash, without_last_slash}
use Rattle.pathspec_parts.specs.Entries.{own_call}
use Rattle.pathspec_parts.specs.Trees.{tree_after}
use Rattle.pathspec_parts.specs.Records.{record_names, parent_names, own_names, open_after, record_is_dir, implied_names, directory_calls, record_calls, directory_names, has_empty_name}
use Rattle.pathspec_select.specs.Listing.{marks_of_record}
use Rattle.pathspec_parts.specs.RecordParts.{first_record, BeginsWithFile}
use Rattle.pathspec_select.specs.Outlines.{OutlineContents, part, last_name, mark_of, record_from, record_length, outline_after, LiesOpen, HasOpen, KeepsListing, IsRecordAt}
use Rattle.pathspec_parts.proofs.RecordProofs.{last_cases, ends_with_slash-push}
use Rattle.pathspec_parts.proofs.NameProofs.{ClosedForm, NamesAre, names_are}
use Rattle.pathspec_select.proofs.AddingProofs.{implied_none, no_calls, good_names}
use Rattle.pathspec_select.proofs.OpenProofs.{closed-path_above, some_bytes, part_of_record, record-kept, own_mark, path_front, record_is, last_own, lies_own, tree_own}

-- the path of the record, by its parts
pub own_path : (o u : OutlineContents) (start : ℕ) (text parents name own : List ℕ) → KeepsListing o u → IsRecordAt o start text → text ≡ parents ++ name → name ≢ [] → ends_with_slash name ≡ record_is_dir text → own ≡ without_last_slash name
    → part u.bytes start (length parents + length own) ≡ parents ++ without_last_slash name
own_path o u start text parents name own k r w some kind e =
    let rec = record_is text parents name w some kind in
    let le : length parents + length (without_last_slash name) ≤ length text = at_most (record_is_dir text) rec in
    ap (λ (x : List ℕ). part u.bytes start (length parents + length x)) e ∙ (part_of_record u start text (length parents + length (without_last_slash name)) (record-kept o u start text k r) le ∙ path_front text parents name w some kind)
  where
    at_most : (b : Bool) → length text ≡ record_length (length parents + length (without_last_slash name)) b → length parents + length (without_last_slash name) ≤ length text
    at_most true q = omega (arith, q)
    at_most false q = omega (arith, q)

-- the tree after the record, and its mark
pub record After (o : OutlineContents) (start : ℕ) (text parents name : List ℕ) (count : ℕ) (is_dir : Bool) : Type 0 where
  pub tree : (outline_after o start count is_dir).tree ≡ tree_after o.tree (own_call (record_is_dir text) (without_last_slash name))
  pub mark : mark_of o.separator o.bytes start count is_dir ≡ Some text

pub after_own : (o u : OutlineContents) (start : ℕ) (text parents name own : List ℕ) (is_dir : Bool) → KeepsListing o u → IsRecordAt o start text → text ≡ parents ++ name → name ≢ [] → ends_with_slash name ≡ record_is_dir text → directory_names parents ≡ parent_names text → own_names text ≡ without_last_slash name ∷ []
    → own ≡ without_last_slash name → is_dir ≡ ends_with_slash name → After u start text parents name (length parents + length own) is_dir
after_own o u start text parents name own is_dir k r w some kind above names e d =
    let b = d ∙ kind in
    let path = own_path o u start text parents name own k r w some kind e in
    let last : last_name (part u.bytes start (length parents + length own)) ≡ without_last_slash name = ap last_name path ∙ last_own text parents name w some kind above names in
    record {
      tree = ap (λ x. tree_after u.tree (own_call is_dir x)) last ∙ ap (λ x. tree_after u.tree (own_call x (without_last_slash name))) b;
      mark =
          own_mark u start text (length parents + length own) is_dir (record-kept o u start text k r)
          (record_is text parents name w some kind ∙ (ap (λ (x : List ℕ). record_length (length parents + length x) (record_is_dir text)) (sym e) ∙ ap (record_length (length parents + length own)) (sym b)));
    }

-- ---- a file right in the open directory

module _ (o : OutlineContents) (start separator : ℕ) (directory rest : List ℕ) (count : ℕ) (file : BeginsWithFile separator directory rest count) (at : IsRecordAt o start (first_record separator rest)) (opens : HasOpen o.tree directory) where
  abbrev text : List ℕ
  text = first_record separator rest

  abbrev name : List ℕ
  name = file.name

  whole : text ≡ directory ++ name
  whole = sym file.record_is ∙ file.whole

  long : length text ≡ count
  long = ap length (sym file.record_is) ∙ length-take-le count rest (let l = file.fits in omega (arith, l))

  pub fits : count ≤ length (record_from o.separator o.bytes start)
  fits = omega (arith, long, ap length at)

  -- the last byte is no slash
  record Last : Type 0 where
    front : List ℕ
    byte : ℕ
    is : name ≡ front ++ byte ∷ []
    none : is_slash byte ≡ false

  last : Last
  last =
      let c = last_cases name (some_bytes name file.some) in
      let at_end : get_or (c.0 ++ c.1 ∷ []) (length c.0) 0 ≡ c.1 = get_or-append_seam c.0 c.1 [] 0 in
      record {
        front = c.0;
        byte = c.1;
        is = c.2;
        none =
            ap is_slash (sym at_end ∙ ap (λ xs. get_or xs (length c.0) 0) (sym c.2))
            ∙ All-get_or (λ b. is_slash b ≡ false) name (length c.0) 0 (omega (arith, ap length c.2, length_push c.0 c.1)) file.no_slash;
      }

  file_name : ends_with_slash name ≡ false
  file_name = ap ends_with_slash last.is ∙ (ends_with_slash-push last.front last.byte ∙ last.none)

  is_file : record_is_dir text ≡ false
  is_file =
      let e : text ≡ (directory ++ last.front) ++ last.byte ∷ [] = whole ∙ (ap (λ x. directory ++ x) last.is ∙ sym (append_assoc directory last.front (last.byte ∷ []))) in
      ap ends_with_slash e ∙ (ends_with_slash-push (directory ++ last.front) last.byte ∙ last.none)

  own_name : without_last_slash name ≡ name
  own_name = ap (λ b. cond b (take (length name - 1) name) name) file_name

  kind : ends_with_slash name ≡ record_is_dir text
  kind = file_name ∙ sym is_file

  named : NamesAre text directory name
  named = names_are text directory name (subst ClosedForm opens.path (closed-path_above o.tree.open_directories)) file.no_slash (ap (λ b. cond b (take (length text - 1) text) text) is_file ∙ whole)

  own_is : own_names text ≡ without_last_slash name ∷ []
  own_is = named.own ∙ ap (λ x. x ∷ []) (sym own_name)

  same : KeepsListing o o
  same = record { bytes = refl; separator = refl }

  counted : length directory + length name ≡ count
  counted = sym (length-append directory name) ∙ (ap length (sym whole) ∙ long)

  after : After o start text directory name count false
  after = subst (λ n. After o start text directory name n false) counted (after_own o o start text directory name name false same at whole file.some kind named.parents own_is (sym own_name) (sym file_name))

  pub lies : LiesOpen o.tree (part o.bytes start count)
  lies =
      let path : part o.bytes start count ≡ directory ++ without_last_slash name = ap (part o.bytes start) (sym counted) ∙ own_path o o start text directory name name same at whole file.some kind (sym own_name) in
      subst (LiesOpen o.tree) (sym path) (lies_own text directory name whole file.some kind named.parents own_is o.tree opens (λ e. file.some (sym own_name ∙ e)))

  pub tree_is : (outline_after o start count false).tree ≡ fold tree_after o.tree (record_calls (directory_names directory) text)
  tree_is =
      let none : o.tree ≡ fold tree_after o.tree (directory_calls (directory_names directory) (directory_names directory)) = sym (ap (fold tree_after o.tree) (no_calls directory directory ((bytes_eq-Decides directory directory).1 refl))) in
      after.tree ∙ tree_own text directory name whole file.some kind named.parents own_is o.tree opens o.tree (directory_names directory) none

  pub marks_are : (outline_after o start count false).marks ≡ o.marks ++ marks_of_record (directory_names directory) text
  marks_are =
      let none : implied_names (directory_names directory) (parent_names text) ≡ [] = ap (implied_names (directory_names directory)) (sym named.parents) ∙ implied_none directory directory ((bytes_eq-Decides directory directory).1 refl) in
      ap (λ m. o.marks ++ m ∷ []) after.mark ∙ sym (ap (λ (ns : List (List ℕ)). o.marks ++ (replicate (length ns) None ++ Some text ∷ [])) none)

  pub still_open : HasOpen (outline_after o start count false).tree directory
  still_open = record { names = opens.names; path = opens.path }

  pub names_are_open : directory_names directory ≡ open_after text
  names_are_open = named.parents ∙ sym (ap (λ b. cond b (record_names text) (parent_names text)) is_file)

  pub good : has_empty_name (directory_names directory) ≡ false → has_empty_name (record_names text) ≡ false
  good h = good_names text directory name named.parents named.own h file.some
