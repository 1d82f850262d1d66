-- The answer for a path depends only on the files above it.
use Rattle.std.proofs.Common.{◌≡◌, ℕ, zero, suc, ◌+◌, Bool, ◌||◌, ◌&&◌, cond, refl, sym, ◌∙◌, ap, List, [], ◌∷◌, ◌++◌, map, reverse, length, take, get_or, true, false, append_assoc}
use Rattle.std.specs.Prelude.{nat_lt}
use Rattle.std.specs.List.{flat_map}
use Rattle.pathspec_parts.specs.Attributes.{Assignment, Question, Reply}
use Rattle.pathspec_parts.specs.Outcomes.{apply_assignments, states_of, unspecified}
use Rattle.pathspec_parts.specs.Paths.{is_slash, ends_with_slash, without_last_slash}
use Rattle.std.specs.Str.Lines.{lines}
use Rattle.pathspec_attributes.specs.Lines.{before_nul}
use Rattle.pathspec_attributes.specs.Rules.{Rule}
use Rattle.pathspec_attributes.specs.Deciding.{Macro, decided_by}
use Rattle.pathspec_attributes.specs.Readings.{Reading, reading}
use Rattle.pathspec_attributes.specs.Readings.Reading.{Nothing, Ruling, Defining, Refused}
use Rattle.pathspec_attributes.specs.Files.{AttributeFile, Files, LeftOut, built_in, file_at, macros_of, said, directories_of, directories_to, left_out_from, lines_from, macros_in, rules_in, said_by_file, AnswersByOwnDirectories}

-- what the files of directories say, by their files
same-files : (say : List ℕ → AttributeFile → List Assignment) (one other : List ℕ → AttributeFile) (bases : List (List ℕ)) → map one bases ≡ map other bases → flat_map (λ base. say base (one base)) bases ≡ flat_map (λ base. say base (other base)) bases
same-files say one other [] e = refl
same-files say one other (base ∷ bases) e =
    let here : one base ≡ other base = cc in
    let rest : map one bases ≡ map other bases = cc in
    ap (λ file. say base file ++ flat_map (λ b. say b (one b)) bases) here ∙ ap (λ more. say base (other base) ++ more) (same-files say one other bases rest)

-- the top is among the directories of each path
same-top : (one other : List ℕ → AttributeFile) (n : ℕ) (path : List ℕ) → map one (directories_to n path) ≡ map other (directories_to n path) → one [] ≡ other []
same-top one other zero path e = cc
same-top one other (suc n) path e = same-top one other n path (below (is_slash (get_or path n 0) && nat_lt 0 n) e)
  where
    below : (b : Bool) → map one (cond b (take n path ∷ directories_to n path) (directories_to n path)) ≡ map other (cond b (take n path ∷ directories_to n path) (directories_to n path)) → map one (directories_to n path) ≡ map other (directories_to n path)
    below true e = cc
    below false e = e

-- the reply by macros and by what is said
abbrev reply : Question → List Macro → List Assignment → Reply
reply q macros all = record { found = true; states = states_of (apply_assignments (unspecified q.names) (decided_by macros all [])) }

pub own_directories : AnswersByOwnDirectories
own_directories files directories q e =
    let path : List ℕ = without_last_slash q.path in
    let is_dir : Bool = q.is_dir || ends_with_slash q.path in
    let other : Files = record files { directories = directories } in
    let between = same-files (said_by_file files.case path is_dir) (file_at directories) (file_at files.directories) (directories_of path) e in
    let top : file_at directories [] ≡ file_at files.directories [] = same-top (file_at directories) (file_at files.directories) (length path) path e in
    let macros : macros_of other ≡ macros_of files = ap (λ (file : AttributeFile). reverse files.info.macros ++ (reverse file.macros ++ (reverse files.global.macros ++ reverse built_in.macros))) top in
    let all : said other path is_dir ≡ said files path is_dir = ap (λ (middle : List Assignment). said_by_file files.case path is_dir [] files.info ++ (middle ++ said_by_file files.case path is_dir [] files.global)) between in
    ap (λ (ms : List Macro). reply q ms (said other path is_dir)) macros ∙ ap (λ (list : List Assignment). reply q (macros_of files) list) all

-- ---- one line more

pub rules-one : (reading : Reading) (others : List Reading) → rules_in (reading ∷ others) ≡ rules_in (reading ∷ []) ++ rules_in others
rules-one Nothing others = refl
rules-one (Ruling rule) others = refl
rules-one (Defining name body) others = refl
rules-one (Refused reason) others = refl

pub macros-one : (reading : Reading) (others : List Reading) → macros_in (reading ∷ others) ≡ macros_in (reading ∷ []) ++ macros_in others
macros-one Nothing others = refl
macros-one (Ruling rule) others = refl
macros-one (Defining name body) others = refl
macros-one (Refused reason) others = refl

pub lines-one : (n : ℕ) (reading : Reading) (others : List Reading) → lines_from n (reading ∷ others) ≡ lines_from n (reading ∷ []) ++ lines_from (n + 1) others
lines-one n Nothing others = refl
lines-one n (Ruling rule) others = refl
lines-one n (Defining name body) others = refl
lines-one n (Refused reason) others = refl

pub left_out-one : (n : ℕ) (reading : Reading) (others : List Reading) → left_out_from n (reading ∷ others) ≡ left_out_from n (reading ∷ []) ++ left_out_from (n + 1) others
left_out-one n Nothing others = refl
left_out-one n (Ruling rule) others = refl
left_out-one n (Defining name body) others = refl
left_out-one n (Refused reason) others = refl

-- what is kept so far, one line more, and what is to come
module _ {X : Type 0} (whole so_far one coming kept : List X) where
  pub kept-more : (rest : List X) → whole ≡ so_far ++ rest → rest ≡ one ++ coming → kept ≡ so_far ++ one → whole ≡ kept ++ coming
  kept-more rest h e k = h ∙ (ap (λ xs. so_far ++ xs) e ∙ (sym (append_assoc so_far one coming) ∙ ap (λ xs. xs ++ coming) (sym k)))

-- the next line of a text, of which `rest` is left
module _ (may_define : Bool) (rest line behind text : List ℕ) (said : Reading) (here : lines rest ≡ line ∷ lines behind) (cut : text ≡ before_nul line) (read : said ≡ reading may_define text) where
  -- what the lines of a rest say
  abbrev coming : List ℕ → List Reading
  coming left = map (reading may_define) (map before_nul (lines left))

  next-reading : coming rest ≡ said ∷ coming behind
  next-reading = ap (λ ls. map (reading may_define) (map before_nul ls)) here ∙ ap (λ r. r ∷ coming behind) (sym (read ∙ ap (reading may_define) cut))

  pub line-rules : (whole so_far kept : List Rule) → whole ≡ so_far ++ rules_in (coming rest) → kept ≡ so_far ++ rules_in (said ∷ []) → whole ≡ kept ++ rules_in (coming behind)
  line-rules whole so_far kept h k = kept-more whole so_far (rules_in (said ∷ [])) (rules_in (coming behind)) kept (rules_in (coming rest)) h (ap rules_in next-reading ∙ rules-one said (coming behind)) k

  pub line-macros : (whole so_far kept : List Macro) → whole ≡ so_far ++ macros_in (coming rest) → kept ≡ so_far ++ macros_in (said ∷ []) → whole ≡ kept ++ macros_in (coming behind)
  line-macros whole so_far kept h k = kept-more whole so_far (macros_in (said ∷ [])) (macros_in (coming behind)) kept (macros_in (coming rest)) h (ap macros_in next-reading ∙ macros-one said (coming behind)) k

  pub line-lines : (n : ℕ) (whole so_far kept : List ℕ) → whole ≡ so_far ++ lines_from n (coming rest) → kept ≡ so_far ++ lines_from n (said ∷ []) → whole ≡ kept ++ lines_from (n + 1) (coming behind)
  line-lines n whole so_far kept h k = kept-more whole so_far (lines_from n (said ∷ [])) (lines_from (n + 1) (coming behind)) kept (lines_from n (coming rest)) h (ap (lines_from n) next-reading ∙ lines-one n said (coming behind)) k

  pub line-left_out : (n : ℕ) (whole so_far kept : List LeftOut) → whole ≡ so_far ++ left_out_from n (coming rest) → kept ≡ so_far ++ left_out_from n (said ∷ []) → whole ≡ kept ++ left_out_from (n + 1) (coming behind)
  line-left_out n whole so_far kept h k = kept-more whole so_far (left_out_from n (said ∷ [])) (left_out_from (n + 1) (coming behind)) kept (left_out_from n (coming rest)) h (ap (left_out_from n) next-reading ∙ left_out-one n said (coming behind)) k
