-- `into_raw_box` compares the pointer with null: then the handle is empty, and else it has a box.
use Rattle.std.proofs.Common.{◌≡◌, List, [], ◌∷◌, ◌++◌, refl, sym, subst, lit<}
use seplogic.Ra.Ura.{Ura}
use mir.Raw.{raw as bare}
use mir.Val.{Val, vptr, vcons, vnil}
use base.Logic.{SProp, ent, emp, id⊢, via, snd∗, guard, guard_i, never, fst∗}
use base.Fml.{ftrue, fsep}
use prog.Wp.{WpFn}
use types.Logic.{Logic, sem}
use types.Kit.{Item, Goal, Seq, ‵, raw, ◌⊛◌, given, learn, at_ret, ◌$◌, ◌∵◌, !, qed, by, move, keep, drop, split, fsplit, fjoin, fpick, suffices, use0, use1}
use types.Run.{stop, fld, lit, of_opd, bin, no_more, and_then, first, branches, exec, returns, enter}
use types.ByLocal.{alloc_all, pass_all, free_all, look_at, get, get_in, sets, sets_last, env}
use types.Part.{agg, sub, whole}
use types.Match.{live}
use contract.Monad.{fact, fact_i, fact_use}
use contract.Running.{tables}
use denote.Exit.{yes}
use denote.RattleType.{RattleType}
use denote.Memory.{lone}
use denote.Signature.{type_at, plain}
use denote.RawPtr.{Ptr, block_ptr, null_ptr, ptr_val, lies_at, Testable, tests_null, in_a_block}
use denote.Steps.{nothing}
use denote.Param.{layout}
use denote.Triple.Walked.{Stays, stay_dropped, walk_of, Goes-dropped}
use Rattle.std.specs.declared.option.Option.{Option}
use Rattle.std.specs.declared.option.Option.TheVariants.{None, Some}
use Rattle.std.proofs.alloc.Shapes.{after}
use Rattle.std.proofs.alloc.Calls.{Al, handle_tells}
use Rattle.std.proofs.cell.Inside.{Good}
use Rattle.std.proofs.option.Made.{Some-of, none_of}
use Rattle.std.specs.contracts.alloc.Global as heap
use Rattle.std.proofs.alloc.Global.TheLaws as heap_laws
use Rattle.std.specs.contracts.impls.GlobalAllocator.TheImpl.{ghosts}
use Rattle.std.proofs.GlobalToken.{dealloc_token-Testable}
use Rattle.std.proofs.raw_atomic.Walks.{proved_at, leaves}
use Rattle.std.proofs.ResultValues.{and_tt}
use Rattle.std.specs.Box.Ownership.{box_owns}
use Rattle.pathspec_c.specs.contracts.searcher.Searcher.{the_row as R}
use Rattle.pathspec_c.specs.Handle.{searcher_at, heap_token}
use Rattle.pathspec_c.proofs.RawBoxValues.{Row, word, word_good, raw_box_in}
use Rattle.pathspec_c.proofs.HandleValues.{Handle, single, handle_out}
use Rattle.pathspec_c.specs.contracts.handle.PsSearch.into_raw_box.{ended, clauses}
use Rattle.pathspec_c.specs.contracts.handle.PsSearch.into_raw_box.Key.{name as #self}
use Rattle.pathspec_c.proofs.handle.PsSearch.into_raw_box.Statement.{statement}
use Rattle.pathspec_c.proofs.handle.PsSearch.into_raw_box.Code as code

-- a pointer that a box is owned at may be compared with null
module _ {M : Type 1} {𝓤 : Ura M} (𝓛 : Logic 𝓤) (a : heap.the_row.Denot) (p : Ptr) (x : R.Denot) where
  tested : ent 𝓤 (sem 𝓛 (box_owns heap_token R p x)) (guard 𝓤 (Testable p) (sem 𝓛 (box_owns heap_token R p x)))
  tested = let B : SProp 𝓤 = sem 𝓛 (box_owns heap_token R p x) in
      fact_use 𝓤 (Testable p) (via 𝓤 _ (snd∗ 𝓤 (sem 𝓛 (lies_at R base.Fraction.full_share p x)) (sem 𝓛 (heap_token (bare (lone R.mir)) p))) (dealloc_token-Testable 𝓛 a (bare (lone R.mir)) p)) (guard_i 𝓤 (Testable p) B)

-- the two cases of a handle
module _ {M : Type 1} {𝓤 : Ura M} {𝓛 : Logic 𝓤} {K : Type 0} {Γ : List (Item 𝓤)} {G : Goal 𝓤 𝓛.H} where
  either : K → (a : heap.the_row.Denot) (p : Ptr) (searcher : Option R.Denot)
      → (p ≡ null_ptr → searcher ≡ None → Seq K 𝓛 Γ G)
      → ((b o : Prim.Native.Nat.ℕ) (x : R.Denot) → p ≡ block_ptr b o → searcher ≡ Some x → Testable (block_ptr b o) → Seq K 𝓛 (‵ (box_owns heap_token R (block_ptr b o) x) ∷ Γ) G)
      → Seq K 𝓛 (‵ (searcher_at p searcher) ∷ Γ) G
  either t a p None none one = fpick t (λ e. drop t $ none e refl)
  either t a p (Some x) none one = in_a_block t p (λ q. box_owns heap_token R q x) (fst∗ 𝓤 (never 𝓤) (sem 𝓛 (heap_token (bare (lone R.mir)) null_ptr)))
      (λ b o e. use1 𝓛 (given (Testable (block_ptr b o)) (‵ (box_owns heap_token R (block_ptr b o) x))) (tested 𝓛 a (block_ptr b o) x) $ learn t (λ s. one b o x e refl s))

pub into_raw_box_spec : {M : Type 1} → statement M
into_raw_box_spec 𝓤 𝓛 𝓜 𝓡 wired =
    let H = 𝓛.H in let 𝓣 = tables 𝓤 H 𝓜 𝓡 𝓡.env in let c = clauses 𝓛 𝓜.mem 𝓡.returns in
    let Z : RattleType = heap.the_row in let LZ = heap_laws.the_row_laws in let Lr : RattleType = Row R Z LZ ghosts in
    let al : Al = record { row = Z; laws = LZ; g = ghosts; d = mir.Syntax.impl [] mir.Syntax.tnil mir.Syntax.dnil; drops = mir.Syntax.impl [] mir.Syntax.tnil mir.Syntax.dnil } in
    let hs : Stays ended.signature.params ended.kept = (stay_dropped (plain (λ _. Handle)) yes, (stay_dropped (plain (λ _. Z)) yes, tt)) in
    let fn = code.function in
    proved_at 𝓛 ended hs c 𝓜 𝓡 (Goes-dropped 𝓛 0 (plain (λ _. Handle)) yes (λ κs x f. refl), (Goes-dropped 𝓛 0 (plain (λ _. Z)) yes (λ κs x f. refl), tt)) #self fn (code.unfolded 𝓤 H 𝓜 𝓡 wired) (λ z are.
    let d = z.0.3.0 in let a = z.0.3.1.0 in let p : Ptr = d.at in
    let Post : Val → SProp 𝓤 = (walk_of 𝓛 ended hs c).post z in let Run : List Val → SProp 𝓤 = λ ws. WpFn 𝓤 H 𝓣.C 𝓣.Λ fn ws Post in let Out : RattleType = type_at ended.signature.result tt in
    qed 𝓛 ((‵ ftrue ⊛ ‵ (fsep (Handle.own_val d z.0.4.0) (fsep (Z.own_val a z.0.4.1.0) ftrue))) ∷ raw (emp 𝓤) ∷ []) ∵ split ! $ drop ! $ fsplit ! $
    handle_out ! d z.0.4.0 (λ ws. move ! (1 ∷ []) $ fsplit ! $ handle_tells al ! a z.0.4.1.0 (λ h eh gh.
    -- [the allocator; nothing; the searcher; nothing]
    move ! (1 ∷ []) $ drop ! $ move ! (2 ∷ []) $ drop ! $
    let w : Val = single (ptr_val p) in
    suffices ! (Run (w ∷ h ∷ [])) (subst (λ (us : List Val). ent 𝓤 (Run (w ∷ h ∷ [])) (Run (us ++ (z.0.4.1.0 ++ [])))) (sym ws) (subst (λ (us : List Val). ent 𝓤 (Run (w ∷ h ∷ [])) (Run (w ∷ (us ++ [])))) (sym eh) (id⊢ 𝓤 (Run (w ∷ h ∷ []))))) $
    move ! (1 ∷ []) $ either ! a p d.searcher
    (λ is none. let w₀ : Val = single (ptr_val null_ptr) in let good : Good (layout Out) (live 0 vnil) = (tt, (record { fits = lit< tt }, tt)) in
    suffices ! (Run (w₀ ∷ h ∷ [])) (subst (λ (q : Ptr). ent 𝓤 (Run (w₀ ∷ h ∷ [])) (Run (single (ptr_val q) ∷ h ∷ []))) (sym is) (id⊢ 𝓤 (Run (w₀ ∷ h ∷ [])))) $ drop ! $
    enter ! 𝓣.C 𝓣.Λ fn (w₀ ∷ h ∷ []) Post $ alloc_all ! (λ l. pass_all ! refl ((tt, (record { fits = lit< tt }, tt)), (gh, tt)) $ let Ev = env fn.locals l in
    sets ! (of_opd ! (get_in ! (fld ! refl (stop !)) (sub ! 0 refl (whole !)))) refl (tt, record { fits = lit< tt }) $ sets ! (bin ! (get ! refl) (lit ! tt) tt) refl (tt, tt) $ first ! $ branches ! (get ! refl)
    (λ _. sets_last ! (agg ! (and_then ! (lit ! tt) (no_more !))) refl good $ exec ! 𝓣.C 𝓣.Λ Ev (after 3 fn.body) (at_ret Ev Post) $ sets ! (of_opd ! (get ! refl)) refl good $
    use0 𝓛 (raw (fact 𝓤 (None ≡ d.searcher))) (fact_i 𝓤 (None ≡ d.searcher) (emp 𝓤) (sym none)) $ use0 𝓛 (‵ (Out.own_val None (live 0 vnil ∷ []))) (none_of 𝓛 Lr) $
    nothing ! $ nothing ! $ fjoin ! $ nothing ! $ fjoin ! $ nothing ! $
    returns ! (look_at ! 0 refl) $ free_all ! refl $ keep ! (0 ∷ 1 ∷ 2 ∷ 3 ∷ []) $ by ! (leaves 𝓛 ended hs c z (live 0 vnil) None (tt, (tt, tt)) (tt, (tt, tt)))) (λ wrong. absurd wrong)))
    (λ b o x is some t. let w₁ : Val = single (vptr b o) in let made : Val = word R Z LZ ghosts b o h in let typed = word_good R Z LZ ghosts b o h gh in let v₁ : Val = live 1 (vcons made vnil) in let l₁ : Lr.Denot = record { at = block_ptr b o; alloc = a; value = x } in
    let good : Good (layout Out) v₁ = (and_tt _ typed.0, (record { fits = lit< tt }, (typed.1, tt))) in
    suffices ! (Run (w₁ ∷ h ∷ [])) (subst (λ (q : Ptr). ent 𝓤 (Run (w₁ ∷ h ∷ [])) (Run (single (ptr_val q) ∷ h ∷ []))) (sym is) (id⊢ 𝓤 (Run (w₁ ∷ h ∷ [])))) $
    -- [what the box owns; the allocator]
    enter ! 𝓣.C 𝓣.Λ fn (w₁ ∷ h ∷ []) Post $ alloc_all ! (λ l. pass_all ! refl ((tt, (tt, tt)), (gh, tt)) $ let Ev = env fn.locals l in
    sets ! (of_opd ! (get_in ! (fld ! refl (stop !)) (sub ! 0 refl (whole !)))) refl (tt, tt) $ sets ! (bin ! (get ! refl) (lit ! tt) (tests_null (block_ptr b o) t)) refl (tt, tt) $ first ! $ branches ! (get ! refl) (λ wrong. absurd wrong) (λ _.
    sets ! (of_opd ! (get ! refl)) refl (tt, tt) $
    sets ! (agg ! (and_then ! (get ! refl) (and_then ! (get ! refl) (no_more !)))) refl typed $ sets_last ! (agg ! (and_then ! (lit ! tt) (and_then ! (get ! refl) (no_more !)))) refl good $
    exec ! 𝓣.C 𝓣.Λ Ev (after 3 fn.body) (at_ret Ev Post) $ sets ! (of_opd ! (get ! refl)) refl good $
    use1 𝓛 (‵ (box_owns (ghosts.dealloc_token a) R (block_ptr b o) x)) (id⊢ 𝓤 _) $ raw_box_in R Z LZ ghosts ! b o h a x $
    use1 𝓛 (‵ (Out.own_val (Some l₁) (v₁ ∷ []))) (Some-of 𝓛 Lr l₁ made) $
    use0 𝓛 (raw (fact 𝓤 (Some x ≡ d.searcher))) (fact_i 𝓤 (Some x ≡ d.searcher) (emp 𝓤) (sym some)) $ nothing ! $ nothing ! $ fjoin ! $ nothing ! $ fjoin ! $ nothing ! $
    returns ! (look_at ! 0 refl) $ free_all ! refl $ keep ! (0 ∷ 1 ∷ 3 ∷ 2 ∷ []) $ by ! (leaves 𝓛 ended hs c z v₁ (Some l₁) (tt, (tt, tt)) (tt, (tt, tt)))))))))
