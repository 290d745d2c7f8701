-- `exchange` is one step on the word, and the seat goes with it.
use Rattle.seize_atoms.specs.Visiting.{Seen, HoldsHere, HoldsSince, keeps_here, seat_coded}
use Rattle.seize_seats.specs.Seats.Errands.{coded_of, then_away}
use Rattle.seize_atoms.proofs.Allowed.{word_allowed, place_here}
use Rattle.seize_seats.specs.Seats.Visits.{then_kept}
use Rattle.std.proofs.Common.{◌≡◌, ℕ, List, [], ◌∷◌, ◌+◌, ◌*◌, ◌^◌, ◌<◌, ◌==◌, subst, sym, refl, lit<, w64, arith}
use mir.Syntax.{dcons, dnil, a_type, named}
use mir.MapTy.{inst_fn}
use mir.Val.{Val, vint, vptr}
use prog.Wp.{WpFn}
use base.Logic.{SProp, ent, emp, id⊢, via}
use base.Fml.{Lft, Fml, ftrue, fsep, flft, fhide}
use prog.Atomic.{either}
use types.Kit.{‵, raw, ◌⊛◌, given, mean, pick, await, at_ret, ◌$◌, ◌∵◌, !, qed, by, move, keep, drop, split, split3, join, fsplit, fsplit3, fjoin, fjoin3, fpick, learn, use0, use1, use3, rewrite, feq_i, some as items, later, suffices}
use types.Run.{lit, of_opd, bin, no_more, and_then, first, blocks, exec, Calls-last, returns, enter}
use types.ByLocal.{alloc_all, pass_all, free_all, look_at, get, sets, env, lands_last}
use types.Part.{agg}
use types.Tokens.{shr_bor-open, obor_close}
use types.Within.{tokens_halve}
use contract.Running.{tables}
use contract.Monad.{fact, fact_i}
use denote.Exit.{yes}
use denote.RattleType.{RattleType, owns}
use denote.Signature.{types_at, plain}
use denote.RawPtr.{Ptr, block_ptr, block_of, count_of, at_block, ptr_val, rawptr_vals, rawptr_Tells}
use denote.Steps.{nothing, peeks, heard, opens, closes}
use denote.Opens.{unhide}
use denote.Laws.{Is, shows}
use denote.Memory.{hidden_shr}
use denote.Param.{param, bounded}
use denote.Builtin.{RefOf, RawPtr, u64}
use denote.Plain.{uint_vals, uint_Tells}
use denote.Ref.{shr_vals, shr_Tells, mut_vals, mut_Tells}
use denote.Struct.Tuple.{Tuple}
use denote.Struct.Lending.{lent_out}
use denote.Triple.Walked.{Stays, stay_dropped, stay_ref, walk_of, Goes-dropped, Goes-ref}
use Rattle.core.proofs.atomic.Steps.{tail, Ptr-Good}
use Rattle.core.specs.Sync.RawAtomic.{word_found}
use Rattle.std.specs.Prelude.{Result}
use Rattle.core.proofs.result.Result.TheLaws.{the_row_laws as result_laws}
use Rattle.std.specs.contracts.marker.PhantomData as marker
use Rattle.std.proofs.raw_atomic.Walks.{proved, leaves}
use Rattle.std.proofs.raw_atomic.Calls.{fm, seq_cst}
use Rattle.seize_seats.proofs.Seats.Stepping.Exchanged.{Res, answered, exchanges}
use Rattle.seize_seats.specs.Seats.Steps.{exchanged}
use Rattle.seize_words.specs.OneMemory.Op.{Out, Exchange, Exchanged}
use Rattle.seize_words.specs.declared.at.At.{At}
use Rattle.seize_words.specs.contracts.at.At as at
use Rattle.seize_seats.specs.Seats.State.{Allows}
use Rattle.seize_seats.specs.Seats.Owned.{BaseId, IsPlaced, age, common, words_share}
use Rattle.seize_seats.proofs.Seats.Views.Shown.{placed}
use Rattle.seize_seats.proofs.Seats.Stepping.Steps as Steps
use Rattle.seize_seats.proofs.Seats.Stepping.Moves.{seat as seat_of, gone_on}
use Rattle.seize_seats.proofs.Seats.Stepping.OwnWords.{reached}
use Rattle.seize_atoms.specs.Placed.{IsItsPlace}
use Rattle.seize_atoms.specs.contracts.words.StripWords as words
use Rattle.seize_atoms.specs.contracts.seat.Seat as seat
use Rattle.seize_seats.specs.contracts.kept.Kept as kept_of
use Rattle.seize_seats.specs.Plots.Pieces.{kept_words, value_of}
use Rattle.seize_atoms.proofs.Fields.{Data, word_laws}
use Rattle.seize_atoms.specs.contracts.words.StripWords.exchange.{ended, clauses}
use Rattle.seize_atoms.specs.contracts.words.StripWords.exchange.Key.{name as #self}
use Rattle.seize_atoms.proofs.words.StripWords.exchange.Statement.{statement}
use Rattle.seize_atoms.proofs.words.StripWords.exchange.Code as code
use Rattle.seize_seats.specs.Seats.Stretches.{seat_owns}
use Rattle.seize_seats.proofs.Seats.Views.Stretches.{ends, begins}

pub exchange_spec : {M : Type 1} → statement M
exchange_spec 𝓤 𝓛 𝓜 𝓡 wired X P U F LX LP LU LF g d _ =
    let H = 𝓛.H in let 𝓣 = tables 𝓤 H 𝓜 𝓡 𝓡.env in let R₀ : RattleType = param 0 X in let K₀ : RattleType = kept_of.the_row R₀ in let R₁ : RattleType = param 1 P in let R₂ : RattleType = param 2 U in
    let R₃ : RattleType = param 3 F in
    let En = ended X P U F g d in let c = clauses X P U F g d 𝓛 𝓜.mem 𝓡.returns in
    let inst = bounded (a_type ∷ a_type ∷ a_type ∷ a_type ∷ []) (X, (P, (U, (F, tt)))) (dcons d dnil) in let fn = inst_fn inst code.function in
    let Row : RattleType = words.the_row R₀ R₁ R₂ R₃ g in let Sr : RattleType = seat.the_row R₀ R₁ R₂ R₃ g in let D : RattleType = Data R₀ R₁ R₂ R₃ g in
    let self = RefOf (0 ∷ []) tt (plain (λ _. Row)) (λ _. tt) in let sitter = plain (λ _. Sr) in let num = plain (λ _. u64) in let addr = plain (λ _. RawPtr) in
    let name = RefOf (2 ∷ []) tt (plain (λ _. at.the_row)) (λ _. tt) in
    let hs : Stays En.signature.params En.kept =
    (stay_dropped self yes, (stay_ref (1 ∷ []) tt sitter, (stay_dropped name yes, (stay_dropped addr yes, (stay_dropped num yes, (stay_dropped num yes, (stay_dropped num yes, tt))))))) in
    proved 𝓛 En hs c 𝓜 𝓡
    (Goes-dropped 𝓛 7 self yes (λ κs x f. refl), (Goes-ref 𝓛 7 1 tt sitter, (Goes-dropped 𝓛 7 name yes (λ κs x f. refl), (Goes-dropped 𝓛 7 addr yes (λ κs x f. refl), (Goes-dropped 𝓛 7 num yes (λ κs x f. refl), (Goes-dropped 𝓛 7 num yes (λ κs x f. refl), (Goes-dropped 𝓛 7 num yes (λ κs x f. refl), tt)))))))
    (#self inst) fn (code.unfolded 𝓤 H 𝓜 𝓡 wired (X, (P, (U, (F, tt)))) d)
    (λ κs. (shr_vals, (mut_vals, (shr_vals, (rawptr_vals, (uint_vals w64, (uint_vals w64, (uint_vals w64, tt))))))))
    (λ κs. (shr_Tells (named 0) κs.0 Row, (mut_Tells (named 1) κs.1.0 Sr, (shr_Tells (named 2) κs.1.1.0 at.the_row, (rawptr_Tells, (uint_Tells w64, (uint_Tells w64, (uint_Tells w64, tt)))))))) (λ κs qs bounds a gh are.
    let b : ℕ = a.0.ref_ptr.0 in let o : ℕ = a.0.ref_ptr.1 in let b' : ℕ = a.1.0.ref_ptr.0 in let o' : ℕ = a.1.0.ref_ptr.1 in let κ : Lft = κs.0 in
    let t : Row.Denot = a.0.now in let p : Ptr = t.words in let z : BaseId = t.id in let h : Sr.Denot = a.1.0.now in let nm : At = a.1.1.0.now in
    let b₂ : ℕ = a.1.1.0.ref_ptr.0 in let o₂ : ℕ = a.1.1.0.ref_ptr.1 in let pv : Ptr = a.1.1.1.0 in let i : ℕ = a.1.1.1.1.0 in let old : ℕ = a.1.1.1.1.1.0 in let new : ℕ = a.1.1.1.1.1.1.0 in
    let pb : ℕ = block_of pv in let po : ℕ = count_of pv in let id : ℕ = h.id in let v : Seen U.Denot = ((h.view, h.visit), h.away) in let cv = seat_coded R₂.coded in let α : Lft = age z in
    let rule = g.holds t.fixed in let ruled = HoldsHere g.rests g.leans rule in let holds = HoldsSince g.rests g.leans t.start rule g.keeps in let keeps = keeps_here g.keeps in let so : Out K₀.Denot → Seen U.Denot → Type 0 = then_away h.away (then_kept value_of h.visit (g.then h.view (Exchange nm old new))) in let f : ℕ → ℕ = λ n. either (n == old) new n in let says : ℕ → Out K₀.Denot = λ n. Exchanged (exchanged old n) in
    let others : Fml = fsep (flft κs.1.1.0 qs.1.1.0) (fsep (flft κs.1.1.1.0 qs.1.1.1.0) (fsep (flft κs.1.1.1.1.0 qs.1.1.1.1.0)
    (fsep (flft κs.1.1.1.1.1.0 qs.1.1.1.1.1.0) (fsep (flft κs.1.1.1.1.1.1.0 qs.1.1.1.1.1.1.0) ftrue)))) in
    let Asked : Type 0 = (h.base ≡ z.views_name) × IsItsPlace ruled id v p z nm pv i × Allows rule g.keeps id h.view (Exchange nm old new) (g.then h.view (Exchange nm old new)) in
    let p' : Ptr = block_ptr pb po in let us : Ptr → List Val = λ r. vptr b o ∷ vptr b' o' ∷ vptr b₂ o₂ ∷ ptr_val r ∷ vint w64 i ∷ vint w64 old ∷ vint w64 new ∷ [] in
    let y : (walk_of 𝓛 En hs c).Ghost =
    ((κs, qs, bounds, a, (vptr b o ∷ [], (vptr b' o' ∷ [], (vptr b₂ o₂ ∷ [], (ptr_val pv ∷ [], (vint w64 i ∷ [], (vint w64 old ∷ [], (vint w64 new ∷ [], tt)))))))), gh) in
    let Post : Val → SProp 𝓤 = (walk_of 𝓛 En hs c).post y in let Run : List Val → SProp 𝓤 = λ ws. WpFn 𝓤 H 𝓣.C 𝓣.Λ fn ws Post in
    qed 𝓛 (((‵ (flft κs.0 qs.0) ⊛ ‵ (flft κs.1.0 qs.1.0) ⊛ ‵ others) ⊛ ‵ (owns (types_at En.signature.params κs) a y.0.4)) ∷ raw (fact 𝓤 _) ∷
    raw (fact 𝓤 _) ∷ raw (fact 𝓤 _) ∷ raw (fact 𝓤 _) ∷ raw (fact 𝓤 Asked) ∷ []) ∵
    keep ! (5 ∷ 0 ∷ []) $ heard ! Asked (λ asked. split ! $ split3 ! $ move ! (3 ∷ []) $ fsplit3 ! $ fsplit ! $ move ! (2 ∷ []) $ fsplit3 ! $
    keep ! (4 ∷ 6 ∷ 1 ∷ 2 ∷ 7 ∷ 8 ∷ []) $
    use1 𝓛 (‵ (hidden_shr D κ (p, (tt, tt)) b o) ⊛ ‵ (fhide (words_share K₀ kept_words cv holds p z κ)))
    (lent_out 𝓛 (words.struct R₀ R₁ R₂ R₃ g)
    (words.the_codes X.Denot P.Denot U.Denot F.Denot R₀.coded R₁.coded R₂.coded R₃.coded (marker.the_row (Tuple (R₀ ∷ R₁ ∷
    []))).coded) (words.the_heap R₀ R₁ R₂ R₃ g) (words.the_lent R₀ R₁ R₂ R₃ g) κ t b o) $
    split ! $ drop ! $ unhide ! $ fsplit ! $ move ! (1 ∷ []) $
    use1 𝓛 (given (IsPlaced K₀ p z) (‵ (common K₀ kept_words cv holds p z))) (placed K₀ kept_words cv holds p z 𝓛) $ learn ! (λ there. fsplit ! $ drop ! $
    let low = asked.1.1 in let small : i * 8 < 2 ^ 64 = omega (arith, low) in let at_v : pv ≡ p' = at_block pv asked.1.0 in
    suffices ! (Run (us p')) (subst (λ (r : Ptr). ent 𝓤 (Run (us p')) (Run (us r))) (sym at_v) (id⊢ 𝓤 (Run (us p')))) $
    enter ! 𝓣.C 𝓣.Λ fn (us p') Post $ alloc_all ! (λ l. pass_all ! refl ((tt, tt), ((tt, tt), ((tt, tt), (Ptr-Good p', ((tt, record { fits = are.1.1.1.1.0.1 }), ((tt, record { fits = are.1.1.1.1.1.0.1 }), ((tt, record { fits = are.1.1.1.1.1.1.0.1 }), tt))))))) $
    let Ev = env fn.locals l in
    -- [the invariant; its lifetime lasts; the token; the seat, by two; its token; the others]
    first ! $ blocks ! $ sets ! (of_opd ! (get ! refl)) refl (tt, record { fits = are.1.1.1.1.0.1 }) $
    sets ! (bin ! (get ! refl) (lit ! tt) (record { fits = small })) refl (tt, record { fits = small }) $
    sets ! (bin ! (get ! refl) (get ! refl) tt) refl (tt, tt) $ move ! (1 ∷ 2 ∷ []) $
    let e : ℕ = i * 8 + po in
    shr_bor-open ! tt (tokens_halve 𝓛 α) (λ s. let out : ℕ
    → Fml = λ n. fsep (flft α s) (gone_on 𝓛 K₀ kept_words cv holds keeps p z id (so (says n))) in
    move ! (3 ∷ 4 ∷ 5 ∷ []) $ opens ! tt Sr b' o' (λ ts. move ! (1 ∷ []) $ fsplit ! $
    rewrite ! 1 (λ (u : ℕ). ‵ (seat_owns cv.code u id v h.stretch h.mark)) asked.0 refl $ move ! (1 ∷ []) $
    use1 𝓛 (later (‵ (seat_of 𝓛 K₀ kept_words cv holds keeps p z id v))) (ends 𝓛 (coded_of cv) z.views_name id v h.stretch h.mark) $ await ! tt $ move ! (1 ∷ 0 ∷ []) $ move ! (8 ∷ 7 ∷ 1 ∷ []) $
    use3 𝓛 (raw (𝓣.C _ (vptr pb e ∷ vint w64 old ∷ vint w64 new ∷ seq_cst ∷ seq_cst ∷ []) (λ u. mean 𝓛 (answered out old u))))
    (via 𝓤 _ (reached 𝓛 K₀ kept_words cv holds keeps p z id v (Exchange nm old new) f says so (λ out w told. told.1) (word_allowed g.rests g.leans g.upright rule g.keeps t.start g.then g.resting_stay g.leaning_stay id h.view h.visit h.away (Exchange nm old new) tt asked.2) nm pv i (Steps.exchanges K₀.Denot nm old new) (place_here g.rests g.leans g.upright rule g.keeps t.start id v p z nm pv i asked.1).2 s) (exchanges 𝓛 𝓜 𝓡 (code.calls-core::raw_atomic::compare_exchange 𝓡.env wired) (block_ptr pb e) old new are.1.1.1.1.1.0.1 are.1.1.1.1.1.1.0.1 out)) $
    sets ! (agg ! (and_then ! (lit ! tt) (no_more !))) refl (tt, (record { fits = lit< tt }, tt)) $
    sets ! (agg ! (and_then ! (lit ! tt) (no_more !))) refl (tt, (record { fits = lit< tt }, tt)) $
    Calls-last ! (fm 𝓛 𝓜 𝓡) (answered out old) (and_then ! (get ! refl) (and_then ! (get ! refl) (and_then ! (get ! refl) (and_then ! (get ! refl)
    (and_then ! (get ! refl) (no_more !))))))
    (λ u. await ! tt $ pick ! (λ r. learn ! (λ fits. split ! $ move ! (1 ∷ []) $
    peeks ! Res (Is Res) (shows 𝓛 Res) r (u ∷ []) (λ is. let gv = (((result_laws u64 u64 word_laws word_laws).lawful 𝓛).typed r (u ∷ []) is).0 in
    let n : ℕ = word_found r in
    lands_last ! refl gv $ exec ! 𝓣.C 𝓣.Λ Ev (tail fn.body) (at_ret Ev Post) $ sets ! (of_opd ! (get ! refl)) refl gv $
    move ! (1 ∷ 2 ∷ 3 ∷ 4 ∷ 5 ∷ 6 ∷ 7 ∷ 8 ∷ 0 ∷ []) $
    fsplit ! $ move ! (7 ∷ 0 ∷ []) $ obor_close ! tt $ drop ! $ move ! (1 ∷ []) $ fpick ! (λ v'. fsplit ! $ fpick ! (λ such. drop ! $
    use1 𝓛 (later (items (λ (st : ℕ × ℕ). ‵ (seat_owns cv.code z.views_name id v' st.0 st.1)))) (begins 𝓛 (coded_of cv) z.views_name id v') $ await ! tt $
    pick ! (λ st.
    let h' : Sr.Denot = record { marker = h.marker; base = z.views_name; id = id; view = v'.0.0; visit = v'.0.1; away = v'.1; stretch = st.0; mark = st.1 } in
    let Told : Type 0 = (z.views_name ≡ h.base) × (id ≡ id) × (v'.1 ≡ h.away) × g.then h.view (Exchange nm old new) (Exchanged r) v'.0.0 in
    let is_so : so (Exchanged r) v' = subst (λ (q' : Result ℕ ℕ). so (Exchanged q') v') (Steps.answered old r fits) such in
    move ! (2 ∷ 0 ∷ []) $ fjoin ! $ move ! (2 ∷ 0 ∷ 3 ∷ 4 ∷ 5 ∷ []) $ closes ! tt Sr h' ts b' o' $
    feq_i ! (List Val) (vptr b' o' ∷ []) (vptr b' o' ∷ []) refl $ fjoin3 ! $
    nothing ! $ nothing ! $ fjoin ! $ nothing ! $ fjoin ! $ nothing ! $ fjoin ! $ nothing ! $ fjoin ! $ nothing ! $ fjoin ! $ move ! (1 ∷ 0 ∷ []) $ fjoin ! $ nothing ! $ fjoin ! $
    move ! (1 ∷ 3 ∷ []) $ join ! $ move ! (2 ∷ 0 ∷ []) $ join ! $
    use0 𝓛 (raw (fact 𝓤 Told)) (fact_i 𝓤 Told (emp 𝓤) (sym asked.0, refl, is_so.1, is_so.0.0)) $
    returns ! (look_at ! 0 refl) $ free_all ! refl $ keep ! (1 ∷ 2 ∷ 3 ∷ 0 ∷ []) $
    by ! (leaves 𝓛 En hs c y u r (tt, (h', (tt, (tt, (tt, (tt, (tt, tt))))))) (tt, (tt, (tt, (tt, (tt, (tt, (tt, tt)))))))))))))))))))))
