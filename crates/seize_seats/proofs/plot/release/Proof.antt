-- `release` puts the parts of a block together and gives it back.
use Rattle.std.proofs.Common.{◌≡◌, ℕ, ◌*◌, ◌^◌, ◌<◌, Bool, T, List, [], ◌∷◌, length, sym, refl, subst, lit<, w64, Option}
use mir.Syntax.{Ty, a_type, ty_unit, dcons, dnil, named}
use mir.MapTy.{inst_fn}
use mir.Val.{Val, WT, vunit, vint, vptr, has_ty}
use prog.Wp.{WpFn}
use base.Logic.{SProp, ent, id⊢, never}
use base.Fml.{Lft, Share, Fml, ftrue, fsep, flft, froom, Incl-trans}
use types.Kit.{‵, raw, ◌⊛◌, given, later, at_ret, ◌$◌, ◌∵◌, !, qed, by, move, keep, split, join, fjoin, feq_i, flt_i, flt_l, learn, suffices, await, use1, use3, rewrite, fsplit}
use types.Run.{stop, fld, lit, unit_lit, of_opd, no_more, and_then, first, blocks, exec, returns, enter}
use types.ByLocal.{alloc_all, pass_all, free_all, look_at, get, get_in, sets, lands_last, env}
use types.Part.{sub, whole}
use contract.BorrowLft.{◌⊑◌}
use contract.Running.{tables}
use contract.Monad.{fact}
use denote.Exit.{yes, no}
use denote.RattleType.{RattleType, owns}
use denote.Signature.{types_at, plain}
use denote.RawPtr.{Ptr, block_ptr, in_block, in_a_block}
use denote.Steps.{nothing, heard}
use denote.Param.{param, bounded}
use denote.Builtin.{RefOf, u64, usize}
use denote.Plain.{uint_vals, uint_Tells}
use denote.Ref.{shr_vals, shr_Tells}
use denote.Struct.Tuple.{Tuple}
use denote.Triple.Call.{calls_at_last}
use denote.Triple.Walked.{Stays, stay_dropped, walk_of, Goes-dropped}
use Rattle.core.specs.Mem.Slots.Ownership.{owned, slots, Filled}
use Rattle.core.specs.contracts.option.Option.{the_row as OptionOf}
use Rattle.core.specs.Allocator.{HasLayout}
use Rattle.core.proofs.atomic.Steps.{tail}
use Rattle.core.proofs.alloc.Calls.{Al as Handle, Gives, at_gives, Gives-goes, Gives-Gives}
use Rattle.std.proofs.raw_atomic.Walks.{proved, leaves}
use Rattle.std.proofs.raw_atomic.Calls.{fm}
use Rattle.seize_seats.specs.Seats.Doors.{block_type, block_bytes, words_from, deed}
use Rattle.seize_seats.proofs.Seats.Places.Plots.{laid_out}
use Rattle.seize_seats.specs.Seats.Plots.{AreEmpty}
use Rattle.seize_seats.specs.contracts.row.Row as row
use Rattle.seize_seats.specs.contracts.plot.StripRight as deed_of
use Rattle.seize_seats.proofs.Plots.Fields.{token, mark_told, one_of, one_good, places_told}
use Rattle.seize_seats.specs.Seats.Owned.{stride}
use Rattle.seize_seats.proofs.Seats.Places.Slotted.{full_is, Whole}
use Rattle.seize_seats.proofs.Seats.Places.Plotted.{whole as whole_again}
use Rattle.seize_seats.specs.contracts.plot.release.{ended, clauses}
use Rattle.seize_seats.specs.contracts.plot.release.Key.{name as #self}
use Rattle.seize_seats.proofs.plot.release.Statement.{statement}
use Rattle.seize_seats.proofs.plot.release.Code as code

pub release_spec : {M : Type 1} → statement M
release_spec 𝓤 𝓛 𝓜 𝓡 wired X Al L LA ga da dd met _ =
    let H = 𝓛.H in let 𝓣 = tables 𝓤 H 𝓜 𝓡 𝓡.env in let R : RattleType = param 0 X in let Z : RattleType = param 1 Al in let O : RattleType = OptionOf R in
    let Rv : RattleType = row.the_row O in let Rw : RattleType = row.the_row u64 in let Dd : RattleType = deed_of.the_row R Z ga in
    let En = ended X Al ga da dd in let c = clauses X Al ga da dd 𝓛 𝓜.mem 𝓡.returns in
    let inst = bounded (a_type ∷ a_type ∷ []) (X, (Al, tt)) (dcons da (dcons dd dnil)) in let fn = inst_fn inst code.function in
    let Hd : Handle = record { row = Al; laws = LA; g = ga; d = da; drops = dd } in
    let handle = RefOf (0 ∷ []) tt (plain (λ _. Z)) (λ _. tt) in let num = plain (λ _. usize) in
    let kept = plain (λ _. Rv) in let words = plain (λ _. Rw) in let right = plain (λ _. Dd) in
    let hs : Stays En.signature.params En.kept =
    (stay_dropped handle yes, (stay_dropped kept no, (stay_dropped words yes, (stay_dropped right no, (stay_dropped num yes, tt))))) in
    proved 𝓛 En hs c 𝓜 𝓡 (
      Goes-dropped 𝓛 3 handle yes (λ κs x f. refl),
      (
        Goes-dropped 𝓛 3 kept no (λ κs x f. refl),
        (Goes-dropped 𝓛 3 words yes (λ κs x f. refl), (Goes-dropped 𝓛 3 right no (λ κs x f. refl), (Goes-dropped 𝓛 3 num yes (λ κs x f. refl), tt))),
      ),
    ) (#self inst) fn (code.unfolded 𝓤 H 𝓜 𝓡 wired (X, (Al, tt)) da dd)
    (λ κs. (shr_vals, ((λ x. one_of x.at ∷ []), ((λ x. one_of x.at ∷ []), ((λ _. token ∷ []), (uint_vals w64, tt))))))
    (λ κs. (
      shr_Tells (named 0) κs.0 Z,
      (
        (λ x vs so. places_told O x.at vs so.0),
        (
          (λ x vs so. places_told u64 x.at vs so.0),
          ((λ x vs so. mark_told (Tuple (R ∷ Z ∷ [])) vs so.0), (uint_Tells w64, tt)),
        ),
      ),
    )) (λ κs qs bounds a gh are.
    let hp : ℕ × ℕ = a.0.ref_ptr in let heap : Al.Denot = a.0.now in let p : Ptr = a.1.0.at in let xs : List (Option X.Denot) = a.1.0.items in
    let fs : List Bool = a.1.0.filled in let w : Ptr = a.1.1.0.at in let ws : List ℕ = a.1.1.0.items in let gs : List Bool = a.1.1.0.filled in
    let d : Dd.Denot = a.1.1.1.0 in let n : ℕ = d.count in let s : ℕ = a.1.1.1.1.0 in
    let τ : Ty = block_type R n in let κ : Lft = κs.0 in let q : Share = qs.0 in let holds : Ty → Ptr → Fml = ga.dealloc_token heap in
    let us : Ptr → List Val = λ r. vptr hp.0 hp.1 ∷ one_of r ∷ one_of w ∷ token ∷ vint w64 s ∷ [] in
    let y : (walk_of 𝓛 En hs c).Ghost = ((κs, qs, bounds, a, (vptr hp.0 hp.1 ∷ [], (one_of p ∷ [], (one_of w ∷ [], (token ∷ [], (vint w64 s ∷ [], tt)))))), gh) in
    let Post : Val → SProp 𝓤 = (walk_of 𝓛 En hs c).post y in let Run : List Val → SProp 𝓤 = λ vs. WpFn 𝓤 H 𝓣.C 𝓣.Λ fn vs Post in
    let others : Fml = fsep (flft κs.1.0 qs.1.0) (fsep (flft κs.1.1.0 qs.1.1.0) ftrue) in
    let Asked : Type 0 = (d.heap ≡ heap) × (d.at ≡ p) × (w ≡ words_from R n p) × (length xs ≡ n) × (length ws ≡ n * 5)
    × AreEmpty fs (length xs) × Filled gs 0 (length ws) × (s ≡ block_bytes R n) × (block_bytes R n < 2 ^ 63) in
    qed 𝓛 (((‵ (flft κ q) ⊛ ‵ others) ⊛ ‵ (owns (types_at En.signature.params κs) a y.0.4)) ∷ raw (fact 𝓤 _) ∷ raw (fact 𝓤 (κs.1.1.0 ⊑ Al.lives)) ∷
    raw (fact 𝓤 Asked) ∷ []) ∵
    keep ! (2 ∷ 3 ∷ 0 ∷ []) $ heard ! (κs.1.1.0 ⊑ Al.lives) (λ inside. heard ! Asked (λ asked. split ! $ split ! $ move ! (2 ∷ []) $
    -- [what is owned; the token; the others]
    fsplit ! $ fsplit ! $ move ! (2 ∷ []) $ fsplit ! $ fsplit ! $ move ! (2 ∷ []) $ fsplit ! $ fsplit ! $ move ! (2 ∷ []) $ fsplit ! $ fsplit ! $
    -- [a mark; the deed; the size; an address; the words; an address; the places; the handle's address; the handle; the token; the others]
    keep ! (6 ∷ 4 ∷ 1 ∷ 8 ∷ 9 ∷ 10 ∷ []) $
    let layout : HasLayout τ s 16 = subst (λ (i : ℕ). HasLayout τ i 16) (sym asked.7) (laid_out R n asked.8) in
    rewrite ! 2 (λ (t : Al.Denot × Ptr). ‵ (deed R (ga.dealloc_token t.0) n t.1)) (λ i. (asked.0 i, asked.1 i)) refl $
    rewrite ! 1 (λ (t : Ptr × List Bool). ‵ (owned u64 t.0 (length ws) ws t.1)) (λ i. (asked.2 i, full_is (length ws) gs a.1.1.0.even asked.6 i)) refl $
    fsplit ! $ flt_l ! (λ bound. in_a_block ! p (λ (r : Ptr). in_block r (slots O r xs fs)) (id⊢ 𝓤 (never 𝓤)) (λ pb po at.
    let p' : Ptr = block_ptr pb po in
    flt_i ! (length xs * stride R) (2 ^ 63) bound $ fjoin ! $
    rewrite ! 1 (λ (r : Ptr). ‵ (Whole 𝓛 (words_from R n r) ws)) at refl $ rewrite ! 2 (λ (r : Ptr). ‵ (deed R holds n r)) at refl $
    use3 𝓛 (‵ (froom τ pb po) ⊛ ‵ (holds τ p')) (whole_again 𝓛 R holds n pb po xs fs ws asked.3 a.1.0.even asked.5 asked.4) $ split ! $
    -- [the room; the right; the handle; the token; the others]
    suffices ! (Run (us p')) (subst (λ (r : Ptr). ent 𝓤 (Run (us p')) (Run (us r))) (sym at) (id⊢ 𝓤 (Run (us p')))) $
    enter ! 𝓣.C 𝓣.Λ fn (us p') Post $
    alloc_all ! (λ l. pass_all ! refl ((tt, tt), ((tt, (tt, tt)), (one_good w, ((tt, (tt, tt)), ((tt, record { fits = are.1.1.1.1.0.1 }), tt))))) $
    let Ev = env fn.locals l in let Asks = Gives Hd 𝓛 𝓜.mem 𝓡.returns in let z : Asks.Ghost = at_gives Hd 𝓛 𝓜.mem 𝓡.returns κ q hp heap pb po s 16 τ in
    sets ! (of_opd ! (get_in ! (fld ! refl (stop !)) (sub ! 0 refl (whole !)))) refl (tt, tt) $ first ! $ blocks ! $ sets ! (of_opd ! (get ! refl)) refl (tt, tt) $
    move ! (2 ∷ 3 ∷ []) $ join ! $ move ! (1 ∷ 2 ∷ 0 ∷ []) $
    use3 𝓛 (raw (Asks.pre z))
    (Gives-goes Hd 𝓛 𝓜.mem 𝓡.returns κ q hp heap (Incl-trans bounds.0 inside) pb po s 16 τ layout.0 layout.1 are.1.1.1.1.0.1 (lit< tt)) $
    calls_at_last ! (fm 𝓛 𝓜 𝓡) Asks (met.deallocate dd) z (and_then ! (get ! refl) (and_then ! (get ! refl) (and_then ! (get ! refl) (and_then ! (lit ! tt) (no_more !))))) (λ u.
    use1 𝓛 (later (given (u ≡ vunit) (‵ (flft κ q)))) (Gives-Gives Hd 𝓛 𝓜.mem 𝓡.returns κ q hp heap pb po s 16 τ u) $ await ! tt $ learn ! (λ e.
    lands_last ! refl (subst (λ (v : Val). T (has_ty ty_unit v) × WT v) (sym e) (tt, tt)) $
    exec ! 𝓣.C 𝓣.Λ Ev (tail (tail fn.body)) (at_ret Ev Post) $ sets ! (of_opd ! (unit_lit !)) refl (tt, tt) $ join ! $ nothing ! $
    feq_i ! (List Val) (vunit ∷ []) (vunit ∷ []) refl $ nothing ! $ nothing ! $ fjoin ! $ nothing ! $ fjoin ! $ nothing ! $ fjoin ! $ nothing ! $ fjoin ! $
    nothing ! $ fjoin ! $ returns ! (look_at ! 0 refl) $ free_all ! refl $ keep ! (3 ∷ 0 ∷ 1 ∷ 2 ∷ []) $
    by ! (leaves 𝓛 En hs c y vunit tt (tt, (tt, (tt, (tt, (tt, tt))))) (tt, (tt, (tt, (tt, (tt, tt))))))))))))))
