-- Places are slots again.
use Rattle.std.proofs.Common.{◌≡◌, ℕ, ◌^◌, ◌<◌, Bool, false, get_or, ap, List, [], ◌∷◌, length, sym, refl, subst, ◌∙◌, w64}
use mir.Syntax.{a_type}
use mir.MapTy.{inst_fn}
use mir.Val.{Val, WT, vint, vptr}
use prog.Wp.{WpFn}
use base.Logic.{SProp, emp, id⊢, never}
use base.Fml.{Lft, Share, ftrue, flft}
use types.Kit.{‵, raw, ◌⊛◌, mean, at_ret, prop, ◌$◌, ◌∵◌, !, qed, by, move, keep, split, join, fsplit, fjoin, pick, learn, use0, use2, await, regoal}
use types.Run.{stop, fld, of_opd, no_more, and_then, first, blocks, exec, Calls-last, returns, enter}
use types.ByLocal.{alloc_all, pass_all, free_all, look_at, get, get_in, sets, lands_last, is, env}
use types.Part.{sub, whole}
use contract.Running.{tables}
use contract.BorrowLft.{◌⊑◌}
use contract.Monad.{fact, fact_i}
use denote.Exit.{yes, no}
use denote.RattleType.{RattleType, owns}
use denote.Signature.{types_at, plain}
use denote.RawPtr.{Ptr, block_ptr, in_block, in_a_block}
use denote.Steps.{nothing, heard}
use denote.Param.{param, layouts}
use denote.Builtin.{usize}
use denote.Plain.{uint_vals, uint_Tells}
use denote.Triple.Walked.{Stays, stay_dropped, walk_of, Goes-dropped}
use Rattle.core.proofs.atomic.Steps.{tail}
use Rattle.core.specs.Mem.Slots.{slots_items, slots_ptr, slots_len, IsFull}
use Rattle.core.specs.Mem.Slots.Ownership.{slots, Filled}
use Rattle.core.proofs.mem.Param.{El}
use Rattle.core.proofs.slots.Opens.{Sr, row_val}
use Rattle.std.proofs.raw_atomic.Walks.{proved, leaves}
use Rattle.std.proofs.raw_atomic.Calls.{fm}
use Rattle.seize_seats.specs.contracts.row.Row as row
use Rattle.seize_seats.proofs.Plots.Fields.{one_of, places_told}
use Rattle.seize_seats.proofs.Plots.Placing.{is_pair, joined, joins}
use Rattle.seize_seats.specs.contracts.row.Row.into_slots.{ended, clauses}
use Rattle.seize_seats.specs.contracts.row.Row.into_slots.Key.{name as #self}
use Rattle.seize_seats.proofs.row.Row.into_slots.Statement.{statement}
use Rattle.seize_seats.proofs.row.Row.into_slots.Code as code

pub into_slots_spec : {M : Type 1} → statement M
into_slots_spec 𝓤 𝓛 𝓜 𝓡 wired X L =
    let H = 𝓛.H in let 𝓣 = tables 𝓤 H 𝓜 𝓡 𝓡.env in let R : RattleType = param 0 X in let E : El = record { row = X; laws = L } in let En = ended X in
    let c = clauses X 𝓛 𝓜.mem 𝓡.returns in
    let inst = layouts (a_type ∷ []) (X, tt) in let fn = inst_fn inst code.function in let Rw : RattleType = row.the_row R in let num = plain (λ _. usize) in
    let hs : Stays En.signature.params En.kept = (stay_dropped (plain (λ _. Rw)) no, (stay_dropped num yes, tt)) in
    proved 𝓛 En hs c 𝓜 𝓡 (
      Goes-dropped 𝓛 1 (plain (λ _. Rw)) no (λ κs x f. refl),
      (
        Goes-dropped 𝓛 1 num yes (λ κs x f. refl),
        tt,
      ),
    ) (#self inst) fn (code.unfolded 𝓤 H 𝓜 𝓡 wired (X, tt))
    (λ κs. ((λ x. one_of x.at ∷ []), (uint_vals w64, tt))) (λ κs. ((λ x vs so. places_told R x.at vs so.0), (uint_Tells w64, tt))) (λ κs qs bounds a gh are.
    let κ : Lft = κs.0 in let q : Share = qs.0 in let p : Ptr = a.0.at in let xs : List X.Denot = a.0.items in
    let fs : List Bool = a.0.filled in let m : ℕ = a.1.0 in
    let fits : m < 2 ^ 64 = are.1.0.1 in let n : ℕ = length xs in
    let y : (walk_of 𝓛 En hs c).Ghost = ((κs, qs, bounds, a, (one_of p ∷ [], (vint w64 m ∷ [], tt))), gh) in
    let Post : Val → SProp 𝓤 = (walk_of 𝓛 En hs c).post y in
    qed 𝓛 (((‵ (flft κ q) ⊛ ‵ ftrue) ⊛ ‵ (owns (types_at En.signature.params κs) a y.0.4)) ∷ raw (fact 𝓤 (κ ⊑ X.lives)) ∷ raw (fact 𝓤 (m ≡ n)) ∷ []) ∵
    move ! (2 ∷ 1 ∷ []) $ heard ! (m ≡ n) (λ long. heard ! (κ ⊑ X.lives) (λ le. split ! $ split ! $ move ! (2 ∷ []) $ fsplit ! $ fsplit ! $ move ! (1 ∷ []) $
    fsplit ! $ move ! (1 ∷ []) $
    -- [the places; the bound; the fields; the number; the token; nothing]
    in_a_block ! p (λ (t : Ptr). in_block t (slots R t xs fs)) (id⊢ 𝓤 (never 𝓤)) (λ b o at. move ! (1 ∷ 0 ∷ []) $ fjoin ! $ keep ! (0 ∷ 3 ∷ []) $
    let v : Val = row_val b o n in let small : n < 2 ^ 64 = subst (λ (j : ℕ). j < 2 ^ 64) long fits in let well : WT v = (tt, (record { fits = small }, tt)) in
    regoal ! (λ (t : Ptr × ℕ). prop (WpFn 𝓤 H 𝓣.C 𝓣.Λ fn (one_of t.0 ∷ vint w64 t.1 ∷ []) Post)) (λ i. (at i, long i)) refl $
    enter ! 𝓣.C 𝓣.Λ fn (one_of (block_ptr b o) ∷ vint w64 n ∷ []) Post $
    alloc_all ! (λ l. pass_all ! refl ((tt, (tt, tt)), ((tt, record { fits = small }), tt)) $ let Ev = env fn.locals l in
    sets ! (of_opd ! (get_in ! (fld ! refl (stop !)) (sub ! 0 refl (whole !)))) refl (tt, tt) $ first ! $ blocks ! $
    use2 𝓛 (raw (𝓣.C _ (vptr b o ∷ vint w64 n ∷
    []) (λ u. mean 𝓛 (joined E b o xs fs κ q u)))) (joins E 𝓛 𝓜 𝓡 κ q le b o (code.calls-core::slots::Slots::from_raw_parts 𝓡.env wired) xs fs a.0.even small) $
    Calls-last ! (fm 𝓛 𝓜 𝓡) (joined E b o xs fs κ q) (and_then ! (get ! refl) (and_then ! (get ! refl) (no_more !))) (λ u. await ! tt $
    pick ! (λ r. learn ! (λ is_so. split ! $
    lands_last ! refl (is_pair (Sr E) u b o n tt small is_so.0) $ exec ! 𝓣.C 𝓣.Λ Ev (tail (tail fn.body)) (at_ret Ev Post) $
    sets ! (is ! (of_opd ! (get ! refl)) is_so.0) refl (tt, well) $
    let so = is_so.1 in let Told : Type 0 = (slots_ptr r ≡ p) × (slots_len r ≡ m) × (slots_items r ≡ xs) × (Filled fs 0 n → IsFull r) in
    let full : Filled fs 0 n → IsFull r =
    λ f k low lt. ap (λ (gs : List Bool). get_or gs k false) so.3 ∙ f k low (subst (λ (j : ℕ). k < j) so.1 lt) in
    use0 𝓛 (raw (fact 𝓤 Told)) (fact_i 𝓤 Told (emp 𝓤) (so.0 ∙ sym at, so.1 ∙ sym long, so.2, full)) $ nothing ! $ move ! (3 ∷ 0 ∷ []) $ join ! $ nothing ! $
    nothing ! $ fjoin ! $ nothing ! $ fjoin ! $
    returns ! (look_at ! 0 refl) $ free_all ! refl $ keep ! (1 ∷ 0 ∷ 3 ∷ 2 ∷ []) $ by ! (leaves 𝓛 En hs c y v r (tt, (tt, tt)) (tt, (tt, tt)))))))))))
