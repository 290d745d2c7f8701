-- Slots give up their places.
use Rattle.std.proofs.Common.{◌≡◌, ℕ, ◌<◌, Bool, List, [], ◌∷◌, ◌++◌, length, sym, refl, subst, ◌∙◌}
use mir.Syntax.{a_type}
use mir.MapTy.{inst_fn}
use mir.Val.{Val, WT}
use prog.Wp.{WpFn}
use base.Logic.{SProp, ent, emp, id⊢}
use base.Fml.{Lft, Share, ftrue, flft}
use types.Kit.{‵, raw, ◌⊛◌, mean, at_ret, ◌$◌, ◌∵◌, !, qed, by, move, keep, drop, split, join, fsplit, fjoin, learn, use0, use2, await, suffices}
use types.Run.{stop, fld, of_opd, no_more, and_then, first, blocks, exec, Calls-last, returns, enter}
use types.ByLocal.{alloc_all, pass_all, free_all, look_at, get, get_in, sets, lands_last, is, env}
use types.Part.{agg, sub, whole}
use contract.Running.{tables}
use contract.BorrowLft.{◌⊑◌}
use contract.Monad.{fact, fact_i}
use denote.Exit.{no}
use denote.RattleType.{RattleType, owns}
use denote.Signature.{types_at, plain}
use denote.Builtin.{usize, RawPtr}
use denote.RawPtr.{Ptr, block_ptr}
use denote.Struct.Tuple.{Tuple}
use denote.Steps.{nothing, heard}
use denote.Param.{param, layouts}
use denote.Triple.Walked.{Stays, stay_dropped, walk_of, Goes-dropped}
use Rattle.core.proofs.atomic.Steps.{tail}
use Rattle.core.specs.Mem.Slots.{slots_items, slots_filled, slots_ptr, slots_len, slots_counts, IsFull}
use Rattle.core.specs.Mem.Slots.Ownership.{Filled}
use Rattle.core.proofs.mem.Param.{El}
use Rattle.core.proofs.slots.Opens.{Sr, row_val, row_had, row_made}
use Rattle.std.proofs.raw_atomic.Walks.{proved_at, leaves}
use Rattle.std.proofs.raw_atomic.Calls.{fm}
use Rattle.seize_seats.specs.Seats.Plots.{AreEmpty}
use Rattle.seize_seats.specs.contracts.row.Row as row
use Rattle.seize_seats.proofs.Plots.Fields.{one_of, Places, places_made}
use Rattle.seize_seats.proofs.Plots.Placing.{is_pair, parted, parts}
use Rattle.seize_seats.specs.contracts.row.Row.of.{ended, clauses}
use Rattle.seize_seats.specs.contracts.row.Row.of.Key.{name as #self}
use Rattle.seize_seats.proofs.row.Row.of.Statement.{statement}
use Rattle.seize_seats.proofs.row.Row.of.Code as code

pub of_spec : {M : Type 1} → statement M
of_spec 𝓤 𝓛 𝓜 𝓡 wired X L =
    let H = 𝓛.H in let 𝓣 = tables 𝓤 H 𝓜 𝓡 𝓡.env in let R : RattleType = param 0 X in let E : El = record { row = X; laws = L } in let En = ended X in
    let c = clauses X 𝓛 𝓜.mem 𝓡.returns in
    let inst = layouts (a_type ∷ []) (X, tt) in let fn = inst_fn inst code.function in let Rw : RattleType = row.the_row R in
    let hs : Stays En.signature.params En.kept = (stay_dropped (plain (λ _. Sr E)) no, tt) in
    proved_at 𝓛 En hs c 𝓜 𝓡 (Goes-dropped 𝓛 1 (plain (λ _. Sr E)) no (λ κs x f. refl), tt) (#self inst) fn (code.unfolded 𝓤 H 𝓜 𝓡 wired (X, tt)) (λ y are.
    let κ : Lft = y.0.0.0 in let q : Share = y.0.1.0 in let r : (Sr E).Denot = y.0.3.0 in let vss = y.0.4 in let xs : List X.Denot = slots_items r in
    let n : ℕ = slots_len r in let fs : List Bool = slots_filled r in let lx : n ≡ length xs = (slots_counts r).0 in let lf : n ≡ length fs = (slots_counts r).1 in
    let Post : Val → SProp 𝓤 = (walk_of 𝓛 En hs c).post y in let Begun : List Val → SProp 𝓤 = λ ws. WpFn 𝓤 H 𝓣.C 𝓣.Λ fn ws Post in
    qed 𝓛 (((‵ (flft κ q) ⊛ ‵ ftrue) ⊛ ‵ (owns (types_at En.signature.params y.0.0) y.0.3 vss)) ∷ raw (fact 𝓤 (κ ⊑ X.lives)) ∷ raw (emp 𝓤) ∷ []) ∵
    move ! (2 ∷ 1 ∷ []) $ drop ! $ heard ! (κ ⊑ X.lives) (λ le. split ! $ split ! $ move ! (2 ∷ []) $ fsplit ! $
    -- [the slots; nothing; the token; nothing]
    row_had E ! r vss.0 (λ b o at vs_are fits room. row_made E ! r b o at fits room $ keep ! (0 ∷ 2 ∷ []) $
    let p : Ptr = block_ptr b o in let v : Val = row_val b o n in let well : WT v = (tt, (record { fits = fits }, tt)) in
    suffices ! (Begun (v ∷ [])) (subst (λ (ws : List Val). ent 𝓤 (Begun (v ∷ [])) (Begun (ws ++ []))) (sym vs_are) (id⊢ 𝓤 (Begun (v ∷ [])))) $
    enter ! 𝓣.C 𝓣.Λ fn (v ∷ []) Post $ alloc_all ! (λ l. pass_all ! refl ((tt, well), tt) $ let Ev = env fn.locals l in
    first ! $ blocks ! $ sets ! (of_opd ! (get ! refl)) refl (tt, well) $
    use2 𝓛 (raw (𝓣.C _ (v ∷ []) (λ u. mean 𝓛 (parted E b o xs fs κ q u))))
    (parts E 𝓛 𝓜 𝓡 κ q le b o (code.calls-core::slots::Slots::into_raw_parts 𝓡.env wired) r at) $
    Calls-last ! (fm 𝓛 𝓜 𝓡) (parted E b o xs fs κ q) (and_then ! (get ! refl) (no_more !)) (λ u. await ! tt $ learn ! (λ u_is. split ! $
    let same : u ≡ v = u_is ∙ (λ i. row_val b o (sym lx i)) in
    lands_last ! refl (is_pair (Tuple (RawPtr ∷ usize ∷ [])) u b o n tt fits same) $ exec ! 𝓣.C 𝓣.Λ Ev (tail fn.body) (at_ret Ev Post) $
    sets ! (is ! (of_opd ! (get ! refl)) same) refl (tt, well) $
    sets ! (agg ! (and_then ! (get_in ! (fld ! refl (stop !)) (sub ! 0 refl (whole !))) (no_more !))) refl (tt, (tt, tt)) $
    let new : Rw.Denot = record { at = p; items = xs; filled = fs; even = sym lf ∙ lx } in
    let Told : Type 0 = (p ≡ slots_ptr r) × (xs ≡ xs) × (length xs ≡ n) × (IsFull r → Filled fs 0 (length xs)) × (AreEmpty fs n → AreEmpty fs (length xs)) in
    use0 𝓛 (‵ ((Places R).own_val (p, tt) (one_of p ∷ []))) (places_made R 𝓛 p) $ fjoin ! $
    use0 𝓛 (raw (fact 𝓤 Told)) (fact_i 𝓤 Told (emp 𝓤) (sym at, refl, sym lx, λ f k low lt. f k low (subst (λ (j : ℕ). k < j) (sym lx) lt), λ f k lt. f k (subst (λ (j : ℕ). k < j) (sym lx) lt))) $ nothing ! $ move ! (3 ∷ 0 ∷ []) $ join ! $ nothing ! $ nothing ! $ fjoin ! $
    returns ! (look_at ! 0 refl) $ free_all ! refl $ keep ! (1 ∷ 0 ∷ 3 ∷ 2 ∷ []) $ by ! (leaves 𝓛 En hs c y (one_of p) new (tt, tt) (tt, tt))))))))
