-- What all files decide of a path, one after another.
use Rattle.std.proofs.Common.{◌≡◌, ◌∙◌, ℕ, Bool, false, ◌||◌, refl, ap, subst, List, [], ◌++◌, reverse, true}
use Rattle.std.proofs.Math.Path.{fun_ext}
use Rattle.std.specs.List.{flat_map}
use Rattle.pathspec_glob.specs.declared.Case.{Case}
use Rattle.pathspec_parts.specs.Attributes.{Assignment}
use Rattle.pathspec_parts.specs.Outcomes.{NamedState, apply_assignments, names_of, reset_states, reply_of}
use Rattle.pathspec_parts.specs.Paths.{ends_with_slash, without_last_slash}
use Rattle.pathspec_parts.proofs.OutcomeProofs.{reset_places}
use Rattle.pathspec_attributes.specs.Deciding.{Macro, decided_by}
use Rattle.pathspec_attributes.specs.Files.{AttributeFile, Files, decided, directories_of, file_at, macros_of, said, said_by_file, table_of}
use Rattle.pathspec_attributes.specs.Leading.{Leads}
use Rattle.pathspec_attributes.proofs.LeadingProofs.{leads-all, leads-behind}

-- the macros in the order in which they count
pub same-macros : (info top global own info' top' global' own' : List Macro) → info ≡ info' → top ≡ top' → global ≡ global' → own ≡ own' → reverse info ++ (reverse top ++ (reverse global ++ reverse own)) ≡ reverse info' ++ (reverse top' ++ (reverse global' ++ reverse own'))
same-macros info top global own info' top' global' own' i t g o = cc

module _ (files : Files) (macros : List Macro) (look : List ℕ → AttributeFile) (path : List ℕ) (is_dir : Bool) (m0 m1 m2 m3 : List ℕ → Bool) (out0 out1 out2 out3 : List NamedState) where
  -- what the files of the path's directories say
  abbrev between : (List ℕ → AttributeFile) → List Assignment
  between files_at = flat_map (λ base. said_by_file files.case path is_dir base (files_at base)) (directories_of path)

  pub answered : macros ≡ macros_of files → ((base : List ℕ) → look base ≡ file_at files.directories base) → ((name : List ℕ) → m0 name ≡ false)
      → Leads macros (said_by_file files.case path is_dir [] files.info) m0 out0 [] m1 out1
      → Leads macros (between look) m1 out1 [] m2 out2
      → Leads macros (said_by_file files.case path is_dir [] files.global) m2 out2 [] m3 out3
      → out3 ≡ apply_assignments out0 (decided files path is_dir)
  answered m same none info middle global =
      let held : look ≡ file_at files.directories = fun_ext same in
      let all : Leads macros (said files path is_dir) m0 out0 [] m3 out3 =
      leads-behind macros (said files path is_dir) refl info
      (leads-behind macros (between (file_at files.directories) ++ said_by_file files.case path is_dir [] files.global) refl
      (subst (λ (f : List ℕ → AttributeFile). Leads macros (between f) m1 out1 [] m2 out2) held middle) global) in
      leads-all macros (said files path is_dir) m0 m3 out0 out3 none all ∙ ap (λ (ms : List Macro). apply_assignments out0 (decided_by ms (said files path is_dir) [])) m

-- an outcome that was reset replies as the table says
pub replied : (given files : Files) (given_path text path : List ℕ) (given_dir is_dir : Bool) (case : Case) (places new : List NamedState) → new ≡ apply_assignments places (decided given given_path given_dir)
    → given ≡ files → given_path ≡ without_last_slash text → given_dir ≡ (is_dir || ends_with_slash text) → text ≡ path → places ≡ reset_states places
    → reply_of true new ≡ table_of files (record { path = path; case = case; is_dir = is_dir; names = names_of places })
replied given files given_path text path given_dir is_dir case places new applied held stripped kind same reset =
    let body : List ℕ = without_last_slash path in
    let all : decided given given_path given_dir ≡ decided files body (is_dir || ends_with_slash path) =
    ap (λ (fs : Files). decided fs given_path given_dir) held
    ∙ (ap (λ (p : List ℕ). decided files p given_dir) (stripped ∙ ap without_last_slash same)
    ∙ ap (decided files body) (kind ∙ ap (λ (t : List ℕ). is_dir || ends_with_slash t) same)) in
    ap (reply_of true) (applied ∙ (ap (apply_assignments places) all ∙ ap (λ (ps : List NamedState). apply_assignments ps (decided files body (is_dir || ends_with_slash path))) (reset_places places reset)))
