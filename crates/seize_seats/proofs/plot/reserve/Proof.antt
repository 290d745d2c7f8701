-- `reserve` asks the allocator for a block, and makes rows of its room.
use Rattle.std.proofs.Common.{◌≡◌, ℕ, ◌+◌, ◌*◌, ◌^◌, ◌<◌, true, false, List, [], ◌∷◌, length, replicate, sym, refl, ap, subst, arith, lit<, w64, Option, None}
use Rattle.std.proofs.lemmas.List.{length-replicate}
use mir.Syntax.{Ty, Body, a_type, dcons, dnil, named}
use mir.MapTy.{inst_fn}
use mir.Val.{Val, WT, vint, vptr, vstruct, vcons, vnil}
use prog.Wp.{Wp, after_seq, at_return}
use base.Logic.{SProp, emp}
use base.Fml.{Lft, Share, Fml, ftrue, fsep, flft, Incl-trans}
use types.Kit.{‵, raw, ◌⊛◌, later, at_ret, any_q, ◌$◌, ◌∵◌, !, qed, by, move, keep, split, join, fsplit, fjoin, fjoin3, fpack, feq_i, await, use0, use1, use2, rewrite}
use types.Match.{live, vrt, in_variant}
use types.Run.{stop, fld, lit, of_opd, bin, no_more, and_then, first, blocks, switches_on, exec, returns, enter}
use types.ByLocal.{alloc_all, pass_all, free_all, look_at, get, get_in, get_tag, sets, sets_last, lands_as, env}
use types.Part.{agg, whole}
use contract.BorrowLft.{◌⊑◌}
use contract.Running.{tables}
use contract.Monad.{fact, fact_i}
use denote.Exit.{yes}
use denote.RattleType.{RattleType, Valss, owns}
use denote.Shadow.{makes_shadow}
use denote.Signature.{types_at, plain}
use denote.Struct.Struct.{within}
use denote.Struct.Declared as declared
use denote.Struct.Tuple.{Tuple, tuple_type}
use denote.RawPtr.{Ptr, block_ptr, InBlock}
use denote.Steps.{nothing, heard}
use denote.Param.{param, bounded}
use denote.Builtin.{RefOf, u64, usize}
use denote.Plain.{uint_vals, uint_Tells}
use denote.Ref.{shr_vals, shr_Tells}
use denote.Triple.Call.{calls_at}
use denote.Triple.Walked.{Stays, stay_dropped, walk_of, Goes-dropped}
use Rattle.core.specs.declared.result.Result.TheVariants.{Ok, Err}
use Rattle.core.specs.contracts.result.Result as answer
use Rattle.core.specs.contracts.alloc.AllocError as refusal
use Rattle.core.specs.contracts.option.Option.{the_row as OptionOf}
use Rattle.core.proofs.once.Made.{ok_of, err_of}
use Rattle.core.proofs.slots.Bodies.{after, head, arm_body}
use Rattle.core.proofs.alloc.Calls.{Al as Handle, Answer-typed, Takes, at_takes, Answered, Takes-goes, Takes-gives, answers}
use Rattle.core.specs.Allocator.{HasLayout}
use Rattle.std.proofs.raw_atomic.Walks.{proved, leaves}
use Rattle.std.proofs.raw_atomic.Calls.{fm}
use Rattle.seize_seats.specs.Seats.Doors.{block_type, before, block_bytes, words_from, deed}
use Rattle.seize_seats.proofs.Seats.Places.Plots.{fits, laid_out}
use Rattle.seize_seats.specs.contracts.row.Row as row
use Rattle.seize_seats.specs.contracts.plot.StripRight as deed_of
use Rattle.seize_seats.proofs.Plots.Fields.{token, Mark, mark_made, one_of, Places, places_made}
use Rattle.seize_seats.proofs.Seats.Places.Plotted as plotted
use Rattle.seize_seats.specs.contracts.plot.reserve.{ended, clauses}
use Rattle.seize_seats.specs.contracts.plot.reserve.Key.{name as #self}
use Rattle.seize_seats.proofs.plot.reserve.Statement.{statement}
use Rattle.seize_seats.proofs.plot.reserve.Code as code

pub reserve_spec : {M : Type 1} → statement M
reserve_spec 𝓤 𝓛 𝓜 𝓡 wired T Al L LA ga da dd met _ =
    let H = 𝓛.H in let 𝓣 = tables 𝓤 H 𝓜 𝓡 𝓡.env in let R : RattleType = param 0 T in let Z : RattleType = param 1 Al in let O : RattleType = OptionOf R in
    let Rv : RattleType = row.the_row O in let Rw : RattleType = row.the_row u64 in let Dd : RattleType = deed_of.the_row R Z ga in
    let En = ended T Al ga da dd in let c = clauses T Al ga da dd 𝓛 𝓜.mem 𝓡.returns in
    let inst = bounded (a_type ∷ a_type ∷ []) (T, (Al, tt)) (dcons da (dcons dd dnil)) in let fn = inst_fn inst code.function in
    let Hd : Handle = record { row = Al; laws = LA; g = ga; d = da; drops = dd } in
    let handle = RefOf (0 ∷ []) tt (plain (λ _. Z)) (λ _. tt) in let num = plain (λ _. usize) in
    let hs : Stays En.signature.params En.kept = (stay_dropped handle yes, (stay_dropped num yes, (stay_dropped num yes, (stay_dropped num yes, tt)))) in
    let Three : RattleType = Tuple (Rv ∷ Rw ∷ Dd ∷ []) in let Out : RattleType = answer.the_row Three refusal.the_row in
    proved 𝓛 En hs c 𝓜 𝓡 (
      Goes-dropped 𝓛 3 handle yes (λ κs x f. refl),
      (Goes-dropped 𝓛 3 num yes (λ κs x f. refl), (Goes-dropped 𝓛 3 num yes (λ κs x f. refl), (Goes-dropped 𝓛 3 num yes (λ κs x f. refl), tt))),
    ) (#self inst) fn (code.unfolded 𝓤 H 𝓜 𝓡 wired (T, (Al, tt)) da dd)
    (λ κs. (shr_vals, (uint_vals w64, (uint_vals w64, (uint_vals w64, tt)))))
    (λ κs. (shr_Tells (named 0) κs.0 Z, (uint_Tells w64, (uint_Tells w64, (uint_Tells w64, tt))))) (λ κs qs bounds a gh are.
    let hp : ℕ × ℕ = a.0.ref_ptr in let heap : Al.Denot = a.0.now in let n : ℕ = a.1.0 in let k : ℕ = a.1.1.0 in let s : ℕ = a.1.1.1.0 in
    let τ : Ty = block_type R n in let κ : Lft = κs.0 in let q : Share = qs.0 in let holds : Ty → Ptr → Fml = ga.dealloc_token heap in
    let us : List Val = vptr hp.0 hp.1 ∷ vint w64 n ∷ vint w64 k ∷ vint w64 s ∷ [] in
    let y : (walk_of 𝓛 En hs c).Ghost = ((κs, qs, bounds, a, (vptr hp.0 hp.1 ∷ [], (vint w64 n ∷ [], (vint w64 k ∷ [], (vint w64 s ∷ [], tt))))), gh) in
    let Post : Val → SProp 𝓤 = (walk_of 𝓛 En hs c).post y in
    let others : Fml = fsep (flft κs.1.0 qs.1.0) (fsep (flft κs.1.1.0 qs.1.1.0) ftrue) in
    let Asked : Type 0 = (k ≡ before R n) × (s ≡ block_bytes R n) × (block_bytes R n < 2 ^ 63) in
    qed 𝓛 (((‵ (flft κ q) ⊛ ‵ others) ⊛ ‵ (owns (types_at En.signature.params κs) a y.0.4)) ∷ raw (fact 𝓤 _) ∷ raw (fact 𝓤 (κs.1.1.0 ⊑ Al.lives)) ∷
    raw (fact 𝓤 Asked) ∷ []) ∵
    keep ! (2 ∷ 3 ∷ 0 ∷ []) $ heard ! (κs.1.1.0 ⊑ Al.lives) (λ inside. heard ! Asked (λ asked. split ! $ split ! $ move ! (2 ∷ []) $ fsplit ! $ fsplit ! $
    keep ! (1 ∷ 3 ∷ 4 ∷ []) $
    let k_is = asked.0 in let s_is = asked.1 in let bound = asked.2 in let fit = fits R n bound in let words_fit = fit.0 in
    let layout : HasLayout τ s 16 = subst (λ (i : ℕ). HasLayout τ i 16) (sym s_is) (laid_out R n bound) in
    let small : k * 8 < 2 ^ 64 = omega (arith, k_is, words_fit) in
    enter ! 𝓣.C 𝓣.Λ fn us Post $
    alloc_all ! (λ l. pass_all ! refl ((tt, tt), ((tt, record { fits = are.1.0.1 }), ((tt, record { fits = are.1.1.0.1 }), ((tt, record { fits = are.1.1.1.0.1 }), tt)))) $
    let Ev = env fn.locals l in let both : Body = head (after 1 fn.body) in
    let Then = any_q (after_seq 𝓤 H (Wp 𝓤 H 𝓣.C 𝓣.Λ Ev (after 2 fn.body) (at_return 𝓤 H Ev Post)) (at_return 𝓤 H Ev Post)) in
    let Asks = Takes Hd 𝓛 𝓜.mem 𝓡.returns in let w : Asks.Ghost = at_takes Hd 𝓛 𝓜.mem 𝓡.returns κ q hp heap s 16 τ in
    use2 𝓛 (raw (Asks.pre w))
    (Takes-goes Hd 𝓛 𝓜.mem 𝓡.returns κ q hp heap (Incl-trans bounds.0 inside) s 16 τ layout.0 layout.1 are.1.1.1.0.1 (lit< tt)) $
    calls_at ! (fm 𝓛 𝓜 𝓡) Asks (met.allocate dd) w (and_then ! (get ! refl) (and_then ! (get ! refl) (and_then ! (lit ! tt) (no_more !)))) (λ u.
    use1 𝓛 (later (raw (Answered Hd 𝓛 𝓜.mem 𝓡.returns heap τ u) ⊛ ‵ (flft κ q))) (Takes-gives Hd 𝓛 𝓜.mem 𝓡.returns κ q hp heap s 16 τ u) $ await ! tt $
    split ! $ move ! (1 ∷ 2 ∷ []) $ join ! $ move ! (1 ∷ []) $
    answers Hd ! 𝓜.mem 𝓡.returns heap τ u
    (λ b o e. let p : Ptr = block_ptr b o in let w : Ptr = words_from R n p in
    let xs : List (Option T.Denot) = plotted.nones 𝓛 R holds n b o bound in let ws : List ℕ = plotted.naughts 𝓛 R holds n b o bound in
    let at_w : block_ptr b (k * 8 + o) ≡ w = (λ i. block_ptr b (k_is i * 8 + o)) in
    let r₁ : Rv.Denot = record { at = p; items = xs; filled = replicate (length xs) false; even = length-replicate (length xs) false } in
    let r₂ : Rw.Denot = record { at = w; items = ws; filled = replicate (length ws) false; even = length-replicate (length ws) false } in
    let r₃ : Dd.Denot = record { marker = record {}; heap = heap; at = p; count = n } in
    let three : Val = vstruct (vcons (one_of p) (vcons (one_of (block_ptr b (k * 8 + o))) (vcons token vnil))) in
    let v : Val = live 0 (vcons three vnil) in let good : WT v = (record { fits = lit< tt }, (((tt, tt), ((tt, tt), ((tt, tt), tt))), tt)) in
    let Told : Type 0 = (heap ≡ heap) × (p ≡ p) × (n ≡ n) × InBlock p × (w ≡ w) × (length xs ≡ n) × (length ws ≡ n * 5) in
    use2 𝓛 (‵ (plotted.Places 𝓛 R holds n b o bound) ⊛ (‵ (plotted.Words 𝓛 R holds n b o bound) ⊛ ‵ (deed R holds n p)))
    (plotted.parts 𝓛 R holds n b o bound) $ split ! $ move ! (1 ∷ []) $ split ! $
    -- [the words; the deed; the places; the tokens]
    lands_as ! e refl (Answer-typed true b o) $ first ! $ switches_on ! (get_tag ! (vrt ! refl (fld ! refl (stop !))) (whole !)) $ exec ! 𝓣.C 𝓣.Λ Ev (arm_body 0 both) Then $
    sets ! (of_opd ! (get_in ! (vrt ! refl (fld ! refl (stop !))) (in_variant ! 0 0 refl refl (whole !)))) refl (tt, tt) $ sets ! (of_opd ! (get ! refl)) refl (tt, tt) $
    first ! $ blocks ! $ sets ! (of_opd ! (get ! refl)) refl (tt, tt) $
    sets ! (bin ! (get ! refl) (lit ! tt) (record { fits = small })) refl (tt, record { fits = small }) $
    sets_last ! (bin ! (get ! refl) (get ! refl) tt) refl (tt, tt) $ exec ! 𝓣.C 𝓣.Λ Ev (after 3 (arm_body 0 both)) Then $ sets ! (of_opd ! (get ! refl)) refl (tt, tt) $
    sets ! (agg ! (and_then ! (get ! refl) (no_more !))) refl (tt, (tt, tt)) $ sets ! (agg ! (and_then ! (get ! refl) (no_more !))) refl (tt, (tt, tt)) $
    sets ! (agg ! (no_more !)) refl (tt, tt) $ sets ! (agg ! (and_then ! (get ! refl) (no_more !))) refl (tt, (tt, tt)) $
    sets ! (agg ! (and_then ! (get ! refl) (and_then ! (get ! refl) (and_then ! (get ! refl) (no_more !))))) refl (tt, ((tt, tt), ((tt, tt), ((tt, tt), tt)))) $
    sets_last ! (agg ! (and_then ! (lit ! tt) (and_then ! (get ! refl) (no_more !)))) refl (tt, good) $ exec ! 𝓣.C 𝓣.Λ Ev (after 2 fn.body) (at_ret Ev Post) $
    sets ! (of_opd ! (get ! refl)) refl (tt, good) $
    use0 𝓛 (‵ ((Places u64).own_val (w, tt) (one_of w ∷ []))) (places_made u64 𝓛 w) $ fjoin ! $
    rewrite ! 0 (λ (t : Val). ‵ (Rw.own_val r₂ (t ∷ []))) (ap one_of (sym at_w)) refl $ move ! (1 ∷ []) $
    use0 𝓛 (‵ ((Mark R).own_val (record {}, tt) (token ∷ []))) (mark_made R 𝓛) $ fjoin ! $ move ! (2 ∷ []) $
    use0 𝓛 (‵ ((Places O).own_val (p, tt) (one_of p ∷ []))) (places_made O 𝓛 p) $ fjoin ! $
    -- [the places; the deed; the words; the tokens]
    nothing ! $ move ! (2 ∷ 0 ∷ []) $ fjoin ! $ move ! (1 ∷ 2 ∷ 0 ∷ []) $ fjoin3 ! $ feq_i ! (List Val) (three ∷ []) (three ∷ []) refl $ fjoin ! $
    fpack ! (Valss (Rv ∷ Rw ∷ Dd ∷ [])) (within (declared.shape (tuple_type (Rv ∷ Rw ∷ Dd ∷ []))) (r₁, (r₂, (r₃, tt))) (three ∷ [])) (one_of p ∷ [], (one_of (block_ptr b (k * 8 + o)) ∷ [], (token ∷ [], tt))) $
    use1 𝓛 (‵ (Out.own_val (Ok (r₁, r₂, r₃)) (v ∷ []))) (ok_of 𝓛 Three refusal.the_row (r₁, r₂, r₃) three) $
    use0 𝓛 (raw (fact 𝓤 Told)) (fact_i 𝓤 Told (emp 𝓤) (refl, refl, refl, tt, refl, length-replicate n None, length-replicate (n * 5) 0)) $
    nothing ! $ nothing ! $ fjoin ! $ nothing ! $ fjoin ! $ nothing ! $ fjoin ! $ nothing ! $ fjoin ! $
    returns ! (look_at ! 0 refl) $ free_all ! refl $ keep ! (3 ∷ 0 ∷ 2 ∷ 1 ∷ []) $
    by ! (leaves 𝓛 En hs c y v (Ok (r₁, r₂, r₃)) (tt, (tt, (tt, (tt, tt)))) (tt, (tt, (tt, (tt, tt))))))
    (λ e. let v : Val = live 1 (vcons (vstruct vnil) vnil) in let good : WT v = (record { fits = lit< tt }, (tt, tt)) in
    let F : Fml = refusal.the_row.own_val (record {}) (vstruct vnil ∷ []) in
    lands_as ! e refl (Answer-typed false 0 0) $ first ! $ switches_on ! (get_tag ! (vrt ! refl (fld ! refl (stop !))) (whole !)) $ exec ! 𝓣.C 𝓣.Λ Ev (arm_body 1 both) Then $
    sets ! (of_opd ! (get_in ! (vrt ! refl (fld ! refl (stop !))) (in_variant ! 1 0 refl refl (whole !)))) refl (tt, tt) $
    sets_last ! (agg ! (and_then ! (lit ! tt) (and_then ! (get ! refl) (no_more !)))) refl (tt, good) $ exec ! 𝓣.C 𝓣.Λ Ev (after 2 fn.body) (at_ret Ev Post) $
    sets ! (of_opd ! (get ! refl)) refl (tt, good) $
    use0 𝓛 (‵ F) (makes_shadow 𝓛 F (λ uss. (tt, tt)) (tt, (refl, tt))) $
    use1 𝓛 (‵ (Out.own_val (Err (record {})) (v ∷ []))) (err_of 𝓛 Three refusal.the_row (record {}) (vstruct vnil)) $
    use0 𝓛 (raw (fact 𝓤 (Unit {0}))) (fact_i 𝓤 (Unit {0}) (emp 𝓤) tt) $
    nothing ! $ nothing ! $ fjoin ! $ nothing ! $ fjoin ! $ nothing ! $ fjoin ! $ nothing ! $ fjoin ! $
    returns ! (look_at ! 0 refl) $ free_all ! refl $ keep ! (3 ∷ 0 ∷ 2 ∷ 1 ∷ []) $
    by ! (leaves 𝓛 En hs c y v (Err (record {})) (tt, (tt, (tt, (tt, tt)))) (tt, (tt, (tt, (tt, tt)))))))))))
