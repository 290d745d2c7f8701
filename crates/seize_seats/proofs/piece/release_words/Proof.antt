-- `release_words` gives up words and gives their memory back.
use Rattle.std.proofs.Common.{◌≡◌, ℕ, ◌*◌, ◌^◌, ◌<◌, Bool, T, List, [], ◌∷◌, length, sym, refl, subst, lit<, w64}
use mir.Syntax.{Ty, ty_int, ty_array, a_type, ty_unit, dcons, dnil, named}
use mir.MapTy.{inst_fn}
use mir.Val.{Val, WT, vunit, vint, vptr, has_ty}
use prog.Wp.{WpFn}
use base.Logic.{SProp, ent, id⊢, never}
use base.Fml.{Lft, Share, Fml, ftrue, fsep, flft, froom, Incl-trans}
use types.Kit.{‵, raw, ◌⊛◌, given, later, at_ret, ◌$◌, ◌∵◌, !, qed, by, move, keep, split, join, fjoin, feq_i, flt_i, flt_l, learn, suffices, await, use1, use3, rewrite, fsplit}
use types.Run.{stop, fld, lit, unit_lit, of_opd, no_more, and_then, first, blocks, exec, returns, enter}
use types.ByLocal.{alloc_all, pass_all, free_all, look_at, get, get_in, sets, lands_last, env}
use types.Part.{sub, whole}
use contract.BorrowLft.{◌⊑◌}
use contract.Running.{tables}
use contract.Monad.{fact}
use denote.Exit.{yes, no}
use denote.RattleType.{RattleType, owns}
use denote.Signature.{types_at, plain}
use denote.RawPtr.{Ptr, block_ptr, in_block, in_a_block}
use denote.Steps.{nothing, heard}
use denote.Param.{param, bounded}
use denote.Builtin.{RefOf, u64, usize}
use denote.Plain.{uint_vals, uint_Tells}
use denote.Ref.{shr_vals, shr_Tells}
use denote.Triple.Call.{calls_at_last}
use denote.Triple.Walked.{Stays, stay_dropped, walk_of, Goes-dropped}
use Rattle.core.specs.Mem.Slots.Ownership.{owned, slots, Filled}
use Rattle.core.specs.Allocator.{HasLayout}
use Rattle.core.proofs.atomic.Steps.{tail}
use Rattle.core.proofs.alloc.Calls.{Al as Handle, Gives, at_gives, Gives-goes, Gives-Gives}
use Rattle.std.proofs.raw_atomic.Walks.{proved, leaves}
use Rattle.std.proofs.raw_atomic.Calls.{fm}
use Rattle.seize_seats.specs.Plots.Pieces.{words_held}
use Rattle.seize_seats.proofs.Plots.Room.{laid_out, given_up}
use Rattle.seize_seats.specs.contracts.row.Row as row
use Rattle.seize_seats.specs.contracts.piece.Right as right_of
use Rattle.seize_seats.proofs.Plots.Fields.{token, mark_told, one_of, places_told}
use Rattle.seize_seats.proofs.Seats.Places.Slotted.{full_is}
use Rattle.seize_seats.specs.Seats.Plots.{all_full}
use Rattle.seize_seats.specs.contracts.piece.release_words.{ended, clauses}
use Rattle.seize_seats.specs.contracts.piece.release_words.Key.{name as #self}
use Rattle.seize_seats.proofs.piece.release_words.Statement.{statement}
use Rattle.seize_seats.proofs.piece.release_words.Code as code

pub release_words_spec : {M : Type 1} → statement M
release_words_spec 𝓤 𝓛 𝓜 𝓡 wired Al LA ga da dd met _ =
    let H = 𝓛.H in let 𝓣 = tables 𝓤 H 𝓜 𝓡 𝓡.env in let Z : RattleType = param 0 Al in
    let Rw : RattleType = row.the_row u64 in let Rt : RattleType = right_of.the_row Z ga in
    let En = ended Al ga da dd in let c = clauses Al ga da dd 𝓛 𝓜.mem 𝓡.returns in
    let inst = bounded (a_type ∷ []) (Al, tt) (dcons da (dcons dd dnil)) in let fn = inst_fn inst code.function in
    let Hd : Handle = record { row = Al; laws = LA; g = ga; d = da; drops = dd } in
    let handle = RefOf (0 ∷ []) tt (plain (λ _. Z)) (λ _. tt) in let num = plain (λ _. usize) in
    let words = plain (λ _. Rw) in let right = plain (λ _. Rt) in
    let hs : Stays En.signature.params En.kept = (stay_dropped handle yes, (stay_dropped words yes, (stay_dropped right no, (stay_dropped num yes, tt)))) in
    proved 𝓛 En hs c 𝓜 𝓡 (
      Goes-dropped 𝓛 2 handle yes (λ κs x f. refl),
      (Goes-dropped 𝓛 2 words yes (λ κs x f. refl), (Goes-dropped 𝓛 2 right no (λ κs x f. refl), (Goes-dropped 𝓛 2 num yes (λ κs x f. refl), tt))),
    ) (#self inst) fn (code.unfolded 𝓤 H 𝓜 𝓡 wired (Al, tt) da dd)
    (λ κs. (shr_vals, ((λ x. one_of x.at ∷ []), ((λ _. token ∷ []), (uint_vals w64, tt)))))
    (λ κs. (
      shr_Tells (named 0) κs.0 Z,
      ((λ x vs so. places_told u64 x.at vs so.0), ((λ x vs so. mark_told Z vs so.0), (uint_Tells w64, tt))),
    )) (λ κs qs bounds a gh are.
    let hp : ℕ × ℕ = a.0.ref_ptr in let heap : Al.Denot = a.0.now in let p : Ptr = a.1.0.at in let ws : List ℕ = a.1.0.items in
    let gs : List Bool = a.1.0.filled in let d : Rt.Denot = a.1.1.0 in let n : ℕ = d.count in let s : ℕ = a.1.1.1.0 in
    let τ : Ty = ty_array (ty_int w64) n in let κ : Lft = κs.0 in let q : Share = qs.0 in let holds : Ty → Ptr → Fml = ga.dealloc_token heap in
    let us : Ptr → List Val = λ r. vptr hp.0 hp.1 ∷ one_of r ∷ token ∷ vint w64 s ∷ [] in
    let y : (walk_of 𝓛 En hs c).Ghost = ((κs, qs, bounds, a, (vptr hp.0 hp.1 ∷ [], (one_of p ∷ [], (token ∷ [], (vint w64 s ∷ [], tt))))), gh) in
    let Post : Val → SProp 𝓤 = (walk_of 𝓛 En hs c).post y in let Run : List Val → SProp 𝓤 = λ vs. WpFn 𝓤 H 𝓣.C 𝓣.Λ fn vs Post in
    let others : Fml = fsep (flft κs.1.0 qs.1.0) ftrue in
    let Asked : Type 0 = (d.heap ≡ heap) × (d.at ≡ p) × (length ws ≡ n) × Filled gs 0 (length ws) × (s ≡ n * 8) × (s < 2 ^ 63) in
    qed 𝓛 (((‵ (flft κ q) ⊛ ‵ others) ⊛ ‵ (owns (types_at En.signature.params κs) a y.0.4)) ∷ raw (fact 𝓤 (κs.1.0 ⊑ Al.lives)) ∷ raw (fact 𝓤 Asked) ∷ []) ∵
    keep ! (1 ∷ 2 ∷ 0 ∷ []) $ heard ! (κs.1.0 ⊑ Al.lives) (λ inside. heard ! Asked (λ asked. split ! $ split ! $ move ! (2 ∷ []) $
    -- [what is owned; the token; the others]
    fsplit ! $ fsplit ! $ move ! (2 ∷ []) $ fsplit ! $ fsplit ! $ move ! (2 ∷ []) $ fsplit ! $ fsplit ! $
    -- [a mark; the right; the size; an address; the words; the handle's address; the handle; the token; the others]
    keep ! (4 ∷ 1 ∷ 6 ∷ 7 ∷ 8 ∷ []) $
    let s_is = asked.4 in let low = asked.5 in let small : n * 8 < 2 ^ 63 = subst (λ (k : ℕ). k < 2 ^ 63) s_is low in
    let layout : HasLayout τ s 8 = subst (λ (i : ℕ). HasLayout τ i 8) (sym s_is) (laid_out n small) in
    -- [the words; the right; the handle; the token; the others]
    rewrite ! 1 (λ (t : Al.Denot × Ptr). ‵ (words_held (ga.dealloc_token t.0) n t.1)) (λ i. (asked.0 i, asked.1 i)) refl $
    rewrite ! 0 (λ (t : List Bool). ‵ (owned u64 p (length ws) ws t)) (full_is (length ws) gs a.1.0.even asked.3) refl $
    fsplit ! $ flt_l ! (λ bound. in_a_block ! p (λ (r : Ptr). in_block r (slots u64 r ws (all_full (length ws)))) (id⊢ 𝓤 (never 𝓤)) (λ pb po at.
    let p' : Ptr = block_ptr pb po in
    flt_i ! (length ws * 8) (2 ^ 63) bound $ fjoin ! $ rewrite ! 1 (λ (r : Ptr). ‵ (words_held holds n r)) at refl $
    use1 𝓛 (‵ (froom τ pb po)) (given_up 𝓛 n pb po ws asked.2) $
    -- [the room; the right; the handle; the token; the others]
    suffices ! (Run (us p')) (subst (λ (r : Ptr). ent 𝓤 (Run (us p')) (Run (us r))) (sym at) (id⊢ 𝓤 (Run (us p')))) $
    enter ! 𝓣.C 𝓣.Λ fn (us p') Post $
    alloc_all ! (λ l. pass_all ! refl ((tt, tt), ((tt, (tt, tt)), ((tt, (tt, tt)), ((tt, record { fits = are.1.1.1.0.1 }), tt)))) $
    let Ev = env fn.locals l in let Asks = Gives Hd 𝓛 𝓜.mem 𝓡.returns in let z : Asks.Ghost = at_gives Hd 𝓛 𝓜.mem 𝓡.returns κ q hp heap pb po s 8 τ in
    sets ! (of_opd ! (get_in ! (fld ! refl (stop !)) (sub ! 0 refl (whole !)))) refl (tt, tt) $ first ! $ blocks ! $ sets ! (of_opd ! (get ! refl)) refl (tt, tt) $
    move ! (2 ∷ 3 ∷ []) $ join ! $ move ! (1 ∷ 2 ∷ 0 ∷ []) $
    use3 𝓛 (raw (Asks.pre z))
    (Gives-goes Hd 𝓛 𝓜.mem 𝓡.returns κ q hp heap (Incl-trans bounds.0 inside) pb po s 8 τ layout.0 layout.1 are.1.1.1.0.1 (lit< tt)) $
    calls_at_last ! (fm 𝓛 𝓜 𝓡) Asks (met.deallocate dd) z (and_then ! (get ! refl) (and_then ! (get ! refl) (and_then ! (get ! refl) (and_then ! (lit ! tt) (no_more !))))) (λ u.
    use1 𝓛 (later (given (u ≡ vunit) (‵ (flft κ q)))) (Gives-Gives Hd 𝓛 𝓜.mem 𝓡.returns κ q hp heap pb po s 8 τ u) $ await ! tt $ learn ! (λ e.
    lands_last ! refl (subst (λ (v : Val). T (has_ty ty_unit v) × WT v) (sym e) (tt, tt)) $
    exec ! 𝓣.C 𝓣.Λ Ev (tail (tail fn.body)) (at_ret Ev Post) $ sets ! (of_opd ! (unit_lit !)) refl (tt, tt) $ join ! $ nothing ! $
    feq_i ! (List Val) (vunit ∷ []) (vunit ∷ []) refl $ nothing ! $ nothing ! $ fjoin ! $ nothing ! $ fjoin ! $ nothing ! $ fjoin ! $ nothing ! $ fjoin ! $
    returns ! (look_at ! 0 refl) $ free_all ! refl $ keep ! (3 ∷ 0 ∷ 1 ∷ 2 ∷ []) $
    by ! (leaves 𝓛 En hs c y vunit tt (tt, (tt, (tt, (tt, tt)))) (tt, (tt, (tt, (tt, tt)))))))))))))
