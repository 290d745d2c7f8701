-- `reserve_words` asks the allocator for memory, and makes a row of its room.
use Rattle.std.proofs.Common.{◌≡◌, ℕ, ◌*◌, ◌^◌, ◌<◌, true, false, List, [], ◌∷◌, length, replicate, sym, refl, subst, lit<, w64}
use Rattle.std.proofs.lemmas.List.{length-replicate}
use mir.Syntax.{Ty, Body, ty_int, ty_array, a_type, dcons, dnil, named}
use mir.MapTy.{inst_fn}
use mir.Val.{Val, WT, vint, vptr, vstruct, vcons, vnil}
use prog.Wp.{Wp, after_seq, at_return}
use base.Logic.{SProp, emp}
use base.Fml.{Lft, Share, Fml, ftrue, fsep, flft, Incl-trans}
use types.Kit.{‵, raw, ◌⊛◌, later, at_ret, any_q, ◌$◌, ◌∵◌, !, qed, by, move, keep, split, join, fsplit, fjoin, fpack, feq_i, await, use0, use1, use2}
use types.Match.{live, vrt, in_variant}
use types.Run.{stop, fld, lit, of_opd, no_more, and_then, first, switches_on, exec, returns, enter}
use types.ByLocal.{alloc_all, pass_all, free_all, look_at, get, get_in, get_tag, sets, sets_last, lands_as, env}
use types.Part.{agg, whole}
use contract.BorrowLft.{◌⊑◌}
use contract.Running.{tables}
use contract.Monad.{fact, fact_i}
use denote.Exit.{yes}
use denote.RattleType.{RattleType, Valss, owns}
use denote.Shadow.{makes_shadow}
use denote.Signature.{types_at, plain}
use denote.Struct.Struct.{within}
use denote.Struct.Declared as declared
use denote.Struct.Tuple.{Tuple, tuple_type}
use denote.RawPtr.{Ptr, block_ptr, InBlock}
use denote.Steps.{nothing, heard}
use denote.Param.{param, bounded}
use denote.Builtin.{RefOf, u64, usize}
use denote.Plain.{uint_vals, uint_Tells}
use denote.Ref.{shr_vals, shr_Tells}
use denote.Triple.Call.{calls_at}
use denote.Triple.Walked.{Stays, stay_dropped, walk_of, Goes-dropped}
use Rattle.core.specs.declared.result.Result.TheVariants.{Ok, Err}
use Rattle.core.specs.contracts.result.Result as answer
use Rattle.core.specs.contracts.alloc.AllocError as refusal
use Rattle.core.proofs.once.Made.{ok_of, err_of}
use Rattle.core.proofs.slots.Bodies.{after, head, arm_body}
use Rattle.core.proofs.alloc.Calls.{Al as Handle, Answer-typed, Takes, at_takes, Answered, Takes-goes, Takes-gives, answers}
use Rattle.core.specs.Allocator.{HasLayout}
use Rattle.std.proofs.raw_atomic.Walks.{proved, leaves}
use Rattle.std.proofs.raw_atomic.Calls.{fm}
use Rattle.seize_seats.specs.contracts.row.Row as row
use Rattle.seize_seats.specs.contracts.piece.Right as right_of
use Rattle.seize_seats.proofs.Plots.Fields.{token, Mark, mark_made, one_of, Places, places_made}
use Rattle.seize_seats.proofs.Plots.Room.{laid_out, laid, naughts, Empty}
use Rattle.seize_seats.specs.contracts.piece.reserve_words.{ended, clauses}
use Rattle.seize_seats.specs.contracts.piece.reserve_words.Key.{name as #self}
use Rattle.seize_seats.proofs.piece.reserve_words.Statement.{statement}
use Rattle.seize_seats.proofs.piece.reserve_words.Code as code

pub reserve_words_spec : {M : Type 1} → statement M
reserve_words_spec 𝓤 𝓛 𝓜 𝓡 wired Al LA ga da dd met _ =
    let H = 𝓛.H in let 𝓣 = tables 𝓤 H 𝓜 𝓡 𝓡.env in let Z : RattleType = param 0 Al in
    let Rw : RattleType = row.the_row u64 in let Rt : RattleType = right_of.the_row Z ga in
    let En = ended Al ga da dd in let c = clauses Al ga da dd 𝓛 𝓜.mem 𝓡.returns in
    let inst = bounded (a_type ∷ []) (Al, tt) (dcons da (dcons dd dnil)) in let fn = inst_fn inst code.function in
    let Hd : Handle = record { row = Al; laws = LA; g = ga; d = da; drops = dd } in
    let handle = RefOf (0 ∷ []) tt (plain (λ _. Z)) (λ _. tt) in let num = plain (λ _. usize) in
    let hs : Stays En.signature.params En.kept = (stay_dropped handle yes, (stay_dropped num yes, (stay_dropped num yes, tt))) in
    let Two : RattleType = Tuple (Rw ∷ Rt ∷ []) in let Out : RattleType = answer.the_row Two refusal.the_row in
    proved 𝓛 En hs c 𝓜 𝓡
    (Goes-dropped 𝓛 2 handle yes (λ κs x f. refl), (Goes-dropped 𝓛 2 num yes (λ κs x f. refl), (Goes-dropped 𝓛 2 num yes (λ κs x f. refl), tt)))
    (#self inst) fn (code.unfolded 𝓤 H 𝓜 𝓡 wired (Al, tt) da dd)
    (λ κs. (shr_vals, (uint_vals w64, (uint_vals w64, tt))))
    (λ κs. (shr_Tells (named 0) κs.0 Z, (uint_Tells w64, (uint_Tells w64, tt)))) (λ κs qs bounds a gh are.
    let hp : ℕ × ℕ = a.0.ref_ptr in let heap : Al.Denot = a.0.now in let n : ℕ = a.1.0 in let s : ℕ = a.1.1.0 in
    let τ : Ty = ty_array (ty_int w64) n in let κ : Lft = κs.0 in let q : Share = qs.0 in let holds : Ty → Ptr → Fml = ga.dealloc_token heap in
    let us : List Val = vptr hp.0 hp.1 ∷ vint w64 n ∷ vint w64 s ∷ [] in
    let y : (walk_of 𝓛 En hs c).Ghost = ((κs, qs, bounds, a, (vptr hp.0 hp.1 ∷ [], (vint w64 n ∷ [], (vint w64 s ∷ [], tt)))), gh) in
    let Post : Val → SProp 𝓤 = (walk_of 𝓛 En hs c).post y in let others : Fml = fsep (flft κs.1.0 qs.1.0) ftrue in
    let Asked : Type 0 = (0 < n) × (s ≡ n * 8) × (s < 2 ^ 63) in
    qed 𝓛 (((‵ (flft κ q) ⊛ ‵ others) ⊛ ‵ (owns (types_at En.signature.params κs) a y.0.4)) ∷ raw (fact 𝓤 (κs.1.0 ⊑ Al.lives)) ∷ raw (fact 𝓤 Asked) ∷ []) ∵
    keep ! (1 ∷ 2 ∷ 0 ∷ []) $ heard ! (κs.1.0 ⊑ Al.lives) (λ inside. heard ! Asked (λ asked. split ! $ split ! $ move ! (2 ∷ []) $ fsplit ! $ fsplit ! $
    keep ! (1 ∷ 3 ∷ 4 ∷ []) $
    let s_is = asked.1 in let low = asked.2 in let small : n * 8 < 2 ^ 63 = subst (λ (k : ℕ). k < 2 ^ 63) s_is low in
    let layout : HasLayout τ s 8 = subst (λ (i : ℕ). HasLayout τ i 8) (sym s_is) (laid_out n small) in
    enter ! 𝓣.C 𝓣.Λ fn us Post $
    alloc_all ! (λ l. pass_all ! refl ((tt, tt), ((tt, record { fits = are.1.0.1 }), ((tt, record { fits = are.1.1.0.1 }), tt))) $
    let Ev = env fn.locals l in let both : Body = head (after 1 fn.body) in
    let Then = any_q (after_seq 𝓤 H (Wp 𝓤 H 𝓣.C 𝓣.Λ Ev (after 2 fn.body) (at_return 𝓤 H Ev Post)) (at_return 𝓤 H Ev Post)) in
    let Asks = Takes Hd 𝓛 𝓜.mem 𝓡.returns in let w : Asks.Ghost = at_takes Hd 𝓛 𝓜.mem 𝓡.returns κ q hp heap s 8 τ in
    use2 𝓛 (raw (Asks.pre w))
    (Takes-goes Hd 𝓛 𝓜.mem 𝓡.returns κ q hp heap (Incl-trans bounds.0 inside) s 8 τ layout.0 layout.1 are.1.1.0.1 (lit< tt)) $
    calls_at ! (fm 𝓛 𝓜 𝓡) Asks (met.allocate dd) w (and_then ! (get ! refl) (and_then ! (get ! refl) (and_then ! (lit ! tt) (no_more !)))) (λ u.
    use1 𝓛 (later (raw (Answered Hd 𝓛 𝓜.mem 𝓡.returns heap τ u) ⊛ ‵ (flft κ q))) (Takes-gives Hd 𝓛 𝓜.mem 𝓡.returns κ q hp heap s 8 τ u) $ await ! tt $
    split ! $ move ! (1 ∷ 2 ∷ []) $ join ! $ move ! (1 ∷ []) $
    answers Hd ! 𝓜.mem 𝓡.returns heap τ u
    (λ b o e. let p : Ptr = block_ptr b o in let ws : List ℕ = naughts 𝓛 n b o in
    let r₁ : Rw.Denot = record { at = p; items = ws; filled = replicate (length ws) false; even = length-replicate (length ws) false } in
    let r₂ : Rt.Denot = record { marker = record {}; heap = heap; at = p; count = n } in
    let two : Val = vstruct (vcons (one_of p) (vcons token vnil)) in
    let v : Val = live 0 (vcons two vnil) in let good : WT v = (record { fits = lit< tt }, (((tt, tt), ((tt, tt), tt)), tt)) in
    let Told : Type 0 = (heap ≡ heap) × (p ≡ p) × (n ≡ n) × InBlock p × (length ws ≡ n) in
    -- [the room; the right; the tokens]
    use1 𝓛 (‵ (Empty 𝓛 n b o)) (laid 𝓛 n b o small) $
    lands_as ! e refl (Answer-typed true b o) $ first ! $ switches_on ! (get_tag ! (vrt ! refl (fld ! refl (stop !))) (whole !)) $ exec ! 𝓣.C 𝓣.Λ Ev (arm_body 0 both) Then $
    sets ! (of_opd ! (get_in ! (vrt ! refl (fld ! refl (stop !))) (in_variant ! 0 0 refl refl (whole !)))) refl (tt, tt) $ sets ! (of_opd ! (get ! refl)) refl (tt, tt) $
    sets ! (agg ! (and_then ! (get ! refl) (no_more !))) refl (tt, (tt, tt)) $
    sets ! (agg ! (no_more !)) refl (tt, tt) $ sets ! (agg ! (and_then ! (get ! refl) (no_more !))) refl (tt, (tt, tt)) $
    sets ! (agg ! (and_then ! (get ! refl) (and_then ! (get ! refl) (no_more !)))) refl (tt, ((tt, tt), ((tt, tt), tt))) $
    sets_last ! (agg ! (and_then ! (lit ! tt) (and_then ! (get ! refl) (no_more !)))) refl (tt, good) $ exec ! 𝓣.C 𝓣.Λ Ev (after 2 fn.body) (at_ret Ev Post) $
    sets ! (of_opd ! (get ! refl)) refl (tt, good) $
    use0 𝓛 (‵ ((Places u64).own_val (p, tt) (one_of p ∷ []))) (places_made u64 𝓛 p) $ fjoin ! $ move ! (1 ∷ []) $
    use0 𝓛 (‵ ((Mark Z).own_val (record {}, tt) (token ∷ []))) (mark_made Z 𝓛) $ fjoin ! $
    -- [the right; the words; the tokens]
    nothing ! $ move ! (1 ∷ 0 ∷ []) $ fjoin ! $ move ! (1 ∷ 0 ∷ []) $ fjoin ! $ feq_i ! (List Val) (two ∷ []) (two ∷ []) refl $ fjoin ! $
    fpack ! (Valss (Rw ∷ Rt ∷ [])) (within (declared.shape (tuple_type (Rw ∷ Rt ∷ []))) (r₁, (r₂, tt)) (two ∷ [])) (one_of p ∷ [], (token ∷ [], tt)) $
    use1 𝓛 (‵ (Out.own_val (Ok (r₁, r₂)) (v ∷ []))) (ok_of 𝓛 Two refusal.the_row (r₁, r₂) two) $
    use0 𝓛 (raw (fact 𝓤 Told)) (fact_i 𝓤 Told (emp 𝓤) (refl, refl, refl, tt, length-replicate n 0)) $
    nothing ! $ nothing ! $ fjoin ! $ nothing ! $ fjoin ! $ nothing ! $ fjoin ! $
    returns ! (look_at ! 0 refl) $ free_all ! refl $ keep ! (3 ∷ 0 ∷ 2 ∷ 1 ∷ []) $
    by ! (leaves 𝓛 En hs c y v (Ok (r₁, r₂)) (tt, (tt, (tt, tt))) (tt, (tt, (tt, tt)))))
    (λ e. let v : Val = live 1 (vcons (vstruct vnil) vnil) in let good : WT v = (record { fits = lit< tt }, (tt, tt)) in
    let F : Fml = refusal.the_row.own_val (record {}) (vstruct vnil ∷ []) in
    lands_as ! e refl (Answer-typed false 0 0) $ first ! $ switches_on ! (get_tag ! (vrt ! refl (fld ! refl (stop !))) (whole !)) $ exec ! 𝓣.C 𝓣.Λ Ev (arm_body 1 both) Then $
    sets ! (of_opd ! (get_in ! (vrt ! refl (fld ! refl (stop !))) (in_variant ! 1 0 refl refl (whole !)))) refl (tt, tt) $
    sets_last ! (agg ! (and_then ! (lit ! tt) (and_then ! (get ! refl) (no_more !)))) refl (tt, good) $ exec ! 𝓣.C 𝓣.Λ Ev (after 2 fn.body) (at_ret Ev Post) $
    sets ! (of_opd ! (get ! refl)) refl (tt, good) $
    use0 𝓛 (‵ F) (makes_shadow 𝓛 F (λ uss. (tt, tt)) (tt, (refl, tt))) $
    use1 𝓛 (‵ (Out.own_val (Err (record {})) (v ∷ []))) (err_of 𝓛 Two refusal.the_row (record {}) (vstruct vnil)) $
    use0 𝓛 (raw (fact 𝓤 (Unit {0}))) (fact_i 𝓤 (Unit {0}) (emp 𝓤) tt) $
    nothing ! $ nothing ! $ fjoin ! $ nothing ! $ fjoin ! $ nothing ! $ fjoin ! $
    returns ! (look_at ! 0 refl) $ free_all ! refl $ keep ! (3 ∷ 0 ∷ 2 ∷ 1 ∷ []) $
    by ! (leaves 𝓛 En hs c y v (Err (record {})) (tt, (tt, (tt, tt))) (tt, (tt, (tt, tt))))))))))
