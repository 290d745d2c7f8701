-- `offer_room` exchanges null at a door for the address of a bucket's words: the bucket joins, or they come back; in both cases the seat goes with it.
use Rattle.seize_atoms.specs.Visiting.{Seen, HoldsSince, keeps_here, seat_coded}
use Rattle.seize_seats.specs.Seats.Errands.{coded_of, then_away}
use Rattle.seize_atoms.proofs.Allowed.{word_allowed}
use Rattle.seize_seats.specs.Seats.Visits.{then_kept}
use Rattle.std.proofs.Common.{◌≡◌, ℕ, suc, replicate, ◌-◌, ◌≤◌, ◌∙◌, ap, List, [], ◌∷◌, ◌+◌, ◌*◌, ◌^◌, ◌<◌, sym, refl, w64, arith, subst}
use mir.Syntax.{dcons, dnil, a_type, named}
use mir.MapTy.{inst_fn}
use mir.Val.{Val, vint, vnull, vptr, vstruct, vcons, vnil}
use prog.Wp.{WpFn}
use base.Logic.{SProp, ent, emp, id⊢, via}
use base.Fml.{Lft, Fml, ftrue, fsep, flft, fhide}
use Rattle.seize_seats.proofs.Seats.Places.Grounds.{capacity_least}
use types.Kit.{group, fpack, ‵, raw, ◌⊛◌, given, mean, at_ret, ◌$◌, ◌∵◌, !, qed, by, move, keep, drop, split, split3, join, fsplit, fsplit3, fjoin, fjoin3, fpick, learn, use0, use1, rewrite, feq_i, some as items, later, pick, await, suffices}
use types.Run.{lit, of_opd, bin, no_more, and_then, first, blocks, exec, Calls-last, returns, enter}
use types.ByLocal.{alloc_all, pass_all, free_all, look_at, get, sets, env, lands_last}
use types.Part.{agg}
use types.Tokens.{shr_bor-open, obor_close}
use types.Within.{tokens_halve}
use contract.Running.{tables}
use contract.Monad.{fact, fact_i}
use denote.Exit.{yes}
use denote.RattleType.{RattleType, Valss, owns}
use denote.Struct.Struct.{within}
use denote.Struct.Declared as declared
use denote.Signature.{types_at, plain}
use denote.RawPtr.{Ptr, InBlock, Testable, null_ptr, block_ptr, block_of, count_of, at_block, ptr_val, rawptr_vals, rawptr_Tells}
use denote.Steps.{nothing, heard, opens, closes}
use denote.Opens.{unhide}
use denote.Memory.{hidden_shr}
use denote.Param.{param, bounded}
use denote.Builtin.{RefOf, RawPtr, u64}
use denote.Plain.{uint_vals, uint_Tells}
use denote.Ref.{shr_vals, shr_Tells, mut_vals, mut_Tells}
use denote.Struct.Tuple.{Tuple, tuple_type}
use denote.Struct.Lending.{lent_out}
use denote.Triple.Walked.{Stays, stay_dropped, stay_ref, walk_of, Goes-dropped, Goes-ref}
use Rattle.core.proofs.atomic.Steps.{tail, Ptr-Good}
use Rattle.std.specs.contracts.marker.PhantomData as marker
use Rattle.std.proofs.raw_atomic.Walks.{proved, leaves}
use Rattle.std.proofs.raw_atomic.Calls.{fm, seq_cst}
use Rattle.std.proofs.raw_atomic.PtrCalls.{Answer, answer_val, answer_good, answered, hears, exchanges, seq_cst_good}
use Rattle.std.specs.Prelude.{Ok, Err}
use Rattle.seize_words.specs.OneMemory.Op.{Out, Room, Roomed}
use Rattle.seize_words.specs.OneMemory.Place.{capacity}
use Rattle.core.specs.Result.{MatchResult}
use Rattle.core.specs.declared.result.Result.{Result}
use Rattle.seize_seats.specs.Seats.Owned.{words_right, BaseId, IsPlaced, age, common, words_share}
use Rattle.seize_seats.specs.Plots.Pieces.{AreAt, piece_at, kept_words, value_of}
use Rattle.seize_seats.specs.Seats.State.{Allows}
use Rattle.seize_seats.proofs.Seats.Views.Shown.{placed}
use Rattle.seize_seats.proofs.Seats.Stepping.Moves.{seat as seat_of}
use Rattle.seize_seats.proofs.Seats.Growing.RoomSteps.{won, lost, offers}
use Rattle.seize_seats.proofs.Seats.Places.Plots.{words_tested}
use Rattle.seize_atoms.specs.contracts.words.StripWords as words
use Rattle.seize_atoms.specs.contracts.seat.Seat as seat
use Rattle.seize_seats.specs.contracts.kept.Kept as kept_of
use Rattle.seize_seats.specs.contracts.piece.Piece as piece_of
use Rattle.seize_seats.specs.contracts.pieces.Pieces as pieces_of
use Rattle.seize_atoms.proofs.Fields.{token, mark_told, mark_made, Mark, word_laws, Data, offered_good, answer_made}
use Rattle.seize_atoms.specs.contracts.words.StripWords.offer_room.{ended, clauses}
use Rattle.seize_atoms.specs.contracts.words.StripWords.offer_room.Key.{name as #self}
use Rattle.seize_atoms.proofs.words.StripWords.offer_room.Statement.{statement}
use Rattle.seize_atoms.proofs.words.StripWords.offer_room.Code as code
use Rattle.seize_seats.specs.Seats.Stretches.{seat_owns}
use Rattle.seize_seats.proofs.Seats.Views.Stretches.{ends, begins}

pub offer_room_spec : {M : Type 1} → statement M
offer_room_spec 𝓤 𝓛 𝓜 𝓡 wired X P U F LX LP LU LF g d _ =
    let H = 𝓛.H in let 𝓣 = tables 𝓤 H 𝓜 𝓡 𝓡.env in let R₀ : RattleType = param 0 X in let K₀ : RattleType = kept_of.the_row R₀ in let R₁ : RattleType = param 1 P in let R₂ : RattleType = param 2 U in
    let R₃ : RattleType = param 3 F in
    let En = ended X P U F g d in let c = clauses X P U F g d 𝓛 𝓜.mem 𝓡.returns in
    let inst = bounded (a_type ∷ a_type ∷ a_type ∷ a_type ∷ []) (X, (P, (U, (F, tt)))) (dcons d dnil) in let fn = inst_fn inst code.function in
    let Row : RattleType = words.the_row R₀ R₁ R₂ R₃ g in let Sr : RattleType = seat.the_row R₀ R₁ R₂ R₃ g in let D : RattleType = Data R₀ R₁ R₂ R₃ g in
    let Pc : RattleType = piece_of.the_row in let Ps : RattleType = pieces_of.the_row in
    let self = RefOf (0 ∷ []) tt (plain (λ _. Row)) (λ _. tt) in let sitter = plain (λ _. Sr) in let num = plain (λ _. u64) in let addr = plain (λ _. RawPtr) in
    let offered = plain (λ _. Pc) in
    let hs : Stays En.signature.params En.kept =
    (stay_dropped self yes, (stay_ref (1 ∷ []) tt sitter, (stay_dropped addr yes, (stay_dropped num yes, (stay_dropped addr yes, (stay_dropped offered yes, tt)))))) in
    proved 𝓛 En hs c 𝓜 𝓡 (
      Goes-dropped 𝓛 6 self yes (λ κs x f. refl),
      (
        Goes-ref 𝓛 6 1 tt sitter,
        (
          Goes-dropped 𝓛 6 addr yes (λ κs x f. refl),
          (
            Goes-dropped 𝓛 6 num yes (λ κs x f. refl),
            (Goes-dropped 𝓛 6 addr yes (λ κs x f. refl), (Goes-dropped 𝓛 6 offered yes (λ κs x f. refl), tt)),
          ),
        ),
      ),
    )
    (#self inst) fn (code.unfolded 𝓤 H 𝓜 𝓡 wired (X, (P, (U, (F, tt)))) d)
    (λ κs. (shr_vals, (mut_vals, (rawptr_vals, (uint_vals w64, (rawptr_vals, ((λ _. token ∷ []), tt)))))))
    (λ κs. (shr_Tells (named 0) κs.0 Row, (mut_Tells (named 1) κs.1.0 Sr, (rawptr_Tells, (uint_Tells w64, (rawptr_Tells, ((λ x vs so. mark_told u64 vs so.0), tt))))))) (λ κs qs bounds a gh are.
    let b : ℕ = a.0.ref_ptr.0 in let o : ℕ = a.0.ref_ptr.1 in let b' : ℕ = a.1.0.ref_ptr.0 in let o' : ℕ = a.1.0.ref_ptr.1 in let κ : Lft = κs.0 in
    let t : Row.Denot = a.0.now in let p : Ptr = t.words in let z : BaseId = t.id in let h : Sr.Denot = a.1.0.now in
    let pd : Ptr = a.1.1.0 in let k : ℕ = a.1.1.1.0 in let pa : Ptr = a.1.1.1.1.0 in let dd : Pc.Denot = a.1.1.1.1.1.0 in let n : ℕ = dd.count in let ws : List ℕ = dd.words in
    let j : ℕ = k - 32 in
    let id : ℕ = h.id in let v : Seen U.Denot = ((h.view, h.visit), h.away) in let cv = seat_coded R₂.coded in let α : Lft = age z in
    let rule = g.holds t.fixed in let holds = HoldsSince g.rests g.leans t.start rule g.keeps in let keeps = keeps_here g.keeps in
    let told : ℕ → Out K₀.Denot → Seen U.Denot → Type 0 = λ m. then_away h.away (then_kept value_of h.visit (g.then h.view (Room m))) in let so = told (suc j) in
    let db : ℕ = block_of z.doors in let d₀ : ℕ = count_of z.doors in let e : ℕ = k * 8 + d₀ in let pd' : Ptr = block_ptr db d₀ in
    let pb : ℕ = block_of pa in let po : ℕ = count_of pa in let pa' : Ptr = block_ptr pb po in
    let others : Fml = fsep (flft κs.1.1.0 qs.1.1.0) (fsep (flft κs.1.1.1.0 qs.1.1.1.0) (fsep (flft κs.1.1.1.1.0 qs.1.1.1.1.0)
    (fsep (flft κs.1.1.1.1.1.0 qs.1.1.1.1.1.0) ftrue))) in
    let Law : ℕ → Type 0 = λ m. Allows rule g.keeps id h.view (Room m) (g.then h.view (Room m)) in
    let Asked : Type 0 = (h.base ≡ z.views_name) × (pd ≡ z.doors) × (32 ≤ k) × (k < 64) × InBlock pa × (dd.at ≡ pa) × (n ≡ capacity (k - 31) * 16) × (ws ≡ replicate n 0)
    × Law (k - 31) in
    let us : Ptr × Ptr → List Val = λ r. vptr b o ∷ vptr b' o' ∷ ptr_val r.0 ∷ vint w64 k ∷ ptr_val r.1 ∷ token ∷ [] in
    let y : (walk_of 𝓛 En hs c).Ghost =
    ((κs, qs, bounds, a, (vptr b o ∷ [], (vptr b' o' ∷ [], (ptr_val pd ∷ [], (vint w64 k ∷ [], (ptr_val pa ∷ [], (token ∷ [], tt))))))), gh) in
    let Post : Val → SProp 𝓤 = (walk_of 𝓛 En hs c).post y in let Run : List Val → SProp 𝓤 = λ vs. WpFn 𝓤 H 𝓣.C 𝓣.Λ fn vs Post in
    qed 𝓛 (((‵ (flft κs.0 qs.0) ⊛ ‵ (flft κs.1.0 qs.1.0) ⊛ ‵ others) ⊛ ‵ (owns (types_at En.signature.params κs) a y.0.4)) ∷ raw (fact 𝓤 _) ∷
    raw (fact 𝓤 _) ∷ raw (fact 𝓤 _) ∷ raw (fact 𝓤 _) ∷ raw (fact 𝓤 Asked) ∷ []) ∵
    keep ! (5 ∷ 0 ∷ []) $ heard ! Asked (λ asked. split ! $ split3 ! $ move ! (3 ∷ []) $ fsplit3 ! $ fsplit ! $ move ! (2 ∷ []) $ fsplit3 ! $
    -- [the seat, by three; self, by two; the rest; the two tokens; the others]
    move ! (5 ∷ []) $ fsplit3 ! $ move ! (2 ∷ []) $ fsplit3 ! $ move ! (1 ∷ []) $ fsplit ! $
    keep ! (10 ∷ 11 ∷ 7 ∷ 8 ∷ 12 ∷ 13 ∷ 1 ∷ []) $
    use1 𝓛 (‵ (hidden_shr D κ (p, (tt, tt)) b o) ⊛ ‵ (fhide (words_share K₀ kept_words cv holds p z κ)))
    (lent_out 𝓛 (words.struct R₀ R₁ R₂ R₃ g)
    (words.the_codes X.Denot P.Denot U.Denot F.Denot R₀.coded R₁.coded R₂.coded R₃.coded (marker.the_row (Tuple (R₀ ∷ R₁ ∷
    []))).coded) (words.the_heap R₀ R₁ R₂ R₃ g) (words.the_lent R₀ R₁ R₂ R₃ g) κ t b o) $
    split ! $ drop ! $ unhide ! $ fsplit ! $ move ! (1 ∷ []) $
    use1 𝓛 (given (IsPlaced K₀ p z) (‵ (common K₀ kept_words cv holds p z))) (placed K₀ kept_words cv holds p z 𝓛) $ learn ! (λ there. fsplit ! $ drop ! $
    let at_d : pd ≡ pd' = asked.1 ∙ at_block z.doors there.4 in let at_a : pa ≡ pa' = at_block pa asked.4 in let low = asked.2 in let high = asked.3 in
    let few : j < 32 = omega (arith, low, high) in
    let small : k * 8 < 2 ^ 64 = omega (arith, high) in let lies : e ≡ j * 8 + (256 + d₀) = omega (arith, low) in let which : k - 31 ≡ suc j = omega (arith, low) in
    let law = word_allowed g.rests g.leans g.upright rule g.keeps t.start g.then g.resting_stay g.leaning_stay id h.view h.visit h.away (Room (suc j)) tt (subst Law which asked.8) in
    let many : n ≡ capacity (suc j) * 16 = asked.6 ∙ ap (λ (m : ℕ). capacity m * 16) which in let c₁ : ℕ = capacity (suc j) * 16 in let zs : List ℕ = replicate c₁ 0 in
    let least = capacity_least (suc j) in let some : 0 < c₁ = omega (arith, least) in
    -- [the invariant; its lifetime lasts; the token; the seat, by two; its token; the others; the words]
    move ! (7 ∷ []) $ rewrite ! 0 (λ (r : Ptr × (ℕ × List ℕ)). ‵ (piece_at r.0 r.1.0 r.1.1)) (λ i. ((asked.5 ∙ at_a) i, (many i, (asked.7 ∙ ap (λ (m : ℕ). replicate m 0) many) i))) refl $
    fsplit ! $ fpick ! (λ laid. drop ! $ fsplit ! $ move ! (1 ∷ []) $
    use1 𝓛 (given (Testable pa') (‵ (words_right c₁ pa'))) (words_tested 𝓛 c₁ pa' some) $ learn ! (λ test. move ! (1 ∷ 0 ∷ []) $ fjoin ! $
    -- [one's own; the invariant; its lifetime lasts; the token; the seat, by two; its token; the others]
    move ! (1 ∷ 2 ∷ 3 ∷ 4 ∷ 5 ∷ 6 ∷ 7 ∷ 0 ∷ []) $
    suffices ! (Run (us (pd', pa'))) (subst (λ (r : Ptr × Ptr). ent 𝓤 (Run (us (pd', pa'))) (Run (us r))) (λ i. (sym at_d i, sym at_a i)) (id⊢ 𝓤 (Run (us (pd', pa'))))) $
    enter ! 𝓣.C 𝓣.Λ fn (us (pd', pa')) Post $
    alloc_all ! (λ l. pass_all ! refl ((tt, tt), ((tt, tt), (Ptr-Good pd', ((tt, record { fits = are.1.1.1.0.1 }), (Ptr-Good pa', ((tt, (tt, tt)), tt)))))) $
    let Ev = env fn.locals l in
    first ! $ blocks ! $ sets ! (of_opd ! (get ! refl)) refl (tt, record { fits = are.1.1.1.0.1 }) $
    sets ! (bin ! (get ! refl) (lit ! tt) (record { fits = small })) refl (tt, record { fits = small }) $
    sets ! (bin ! (get ! refl) (get ! refl) tt) refl (tt, tt) $ move ! (1 ∷ 2 ∷ []) $
    shr_bor-open ! tt (tokens_halve 𝓛 α) (λ s. let kept = λ (out : Out K₀.Denot) (w : Seen U.Denot) (such : so out w). such.1 in
    let own : Ptr → Fml = λ r. fsep (flft α s) (won 𝓛 K₀ kept_words cv holds keeps p z id v j e few lies so kept law s pa' tt test r) in
    let back : Ptr → Fml = λ r. fsep (flft α s) (lost 𝓛 K₀ kept_words cv holds keeps p z id v j e few lies so kept law s pa' tt test r) in
    -- [open; its token; the invariant; the seat, by two; its token; the others; one's own]
    move ! (3 ∷ 4 ∷ 5 ∷ []) $ opens ! tt Sr b' o' (λ ts. move ! (1 ∷ []) $ fsplit ! $
    rewrite ! 1 (λ (u : ℕ). ‵ (seat_owns cv.code u id v h.stretch h.mark)) asked.0 refl $ move ! (1 ∷ []) $
    use1 𝓛 (later (‵ (seat_of 𝓛 K₀ kept_words cv holds keeps p z id v))) (ends 𝓛 (coded_of cv) z.views_name id v h.stretch h.mark) $ await ! tt $ move ! (1 ∷ 0 ∷ []) $
    move ! (8 ∷ 7 ∷ 1 ∷ 10 ∷ []) $ group ! 4 $
    use1 𝓛 (raw (𝓣.C _ (vptr db e ∷ vnull ∷ vptr pb po ∷ seq_cst ∷ seq_cst ∷ []) (λ u. mean 𝓛 (answered 𝓛 own back u))))
    (via 𝓤 _ (offers 𝓛 K₀ kept_words cv holds keeps p z id v j e few lies so kept law s pa' tt test)
    (exchanges 𝓛 𝓜 𝓡 (code.calls-core::raw_atomic::ptr::compare_exchange 𝓡.env wired) u64 word_laws (block_ptr db e) null_ptr pa' own back)) $
    sets ! (agg ! (and_then ! (lit ! tt) (no_more !))) refl seq_cst_good $ sets ! (agg ! (and_then ! (lit ! tt) (no_more !))) refl seq_cst_good $
    Calls-last ! (fm 𝓛 𝓜 𝓡) (answered 𝓛 own back) (and_then ! (get ! refl) (and_then ! (lit ! tt) (and_then ! (get ! refl) (and_then ! (get ! refl)
    (and_then ! (get ! refl) (no_more !)))))) (λ u. hears ! own back
    (λ r. let found : Val = answer_val (Ok r) in let good = offered_good (Ok r) in let pair : Val = vstruct (vcons found (vcons token vnil)) in
    lands_last ! refl (answer_good (Ok r)) $ exec ! 𝓣.C 𝓣.Λ Ev (tail fn.body) (at_ret Ev Post) $
    sets ! (of_opd ! (get ! refl)) refl (answer_good (Ok r)) $ sets ! (agg ! (no_more !)) refl (tt, tt) $ sets ! (agg ! (and_then ! (get ! refl) (no_more !))) refl (tt, (tt, tt)) $
    sets ! (agg ! (and_then ! (get ! refl) (and_then ! (get ! refl) (no_more !)))) refl good $
    fsplit ! $ move ! (7 ∷ 0 ∷ []) $ obor_close ! tt $ drop ! $ move ! (1 ∷ []) $ fpick ! (λ v'. fsplit ! $ fpick ! (λ such. drop ! $
    use1 𝓛 (later (items (λ (st : ℕ × ℕ). ‵ (seat_owns cv.code z.views_name id v' st.0 st.1)))) (begins 𝓛 (coded_of cv) z.views_name id v') $ await ! tt $
    pick ! (λ st.
    let h' : Sr.Denot = record { marker = h.marker; base = z.views_name; id = id; view = v'.0.0; visit = v'.0.1; away = v'.1; stretch = st.0; mark = st.1 } in
    let r₂ : Ps.Denot = record { marker = record {}; spots = [] } in let M : Result Ptr Ptr → Type 0 = λ x. MatchResult x (λ _. r₂.spots ≡ []) (λ _. r₂.spots ≡ (pa, n) ∷ []) in
    let Told : Type 0 = (z.views_name ≡ h.base) × (id ≡ id) × (v'.1 ≡ h.away) × g.then h.view (Room (k - 31)) (Roomed (Ok tt)) v'.0.0 × M (Ok r) in
    move ! (2 ∷ 0 ∷ []) $ fjoin ! $ move ! (2 ∷ 0 ∷ 3 ∷ 4 ∷ 5 ∷ []) $ closes ! tt Sr h' ts b' o' $
    feq_i ! (List Val) (vptr b' o' ∷ []) (vptr b' o' ∷ []) refl $ fjoin3 ! $
    nothing ! $ nothing ! $ fjoin ! $ nothing ! $ fjoin ! $ nothing ! $ fjoin ! $ nothing ! $ fjoin ! $ move ! (1 ∷ 0 ∷ []) $ fjoin ! $ nothing ! $ fjoin ! $ move ! (1 ∷ 3 ∷ []) $ join ! $
    move ! (2 ∷ 0 ∷ []) $ join ! $
    use0 𝓛 (raw (fact 𝓤 Told)) (fact_i 𝓤 Told (emp 𝓤) (sym asked.0, refl, such.1, (subst (λ (m : ℕ). told m (Roomed (Ok tt)) v') (sym which) such).0.0, refl)) $
    nothing ! $ use0 𝓛 (‵ ((Mark u64).own_val (record {}, tt) (token ∷ []))) (mark_made u64 𝓛) $ fjoin ! $
    nothing ! $ move ! (1 ∷ 0 ∷ []) $ fjoin ! $ use0 𝓛 (‵ (Answer.own_val (Ok r) (found ∷ []))) (answer_made 𝓛 (Ok r)) $ fjoin ! $
    feq_i ! (List Val) (pair ∷ []) (pair ∷ []) refl $ fjoin ! $
    fpack ! (Valss (Answer ∷ Ps ∷ [])) (within (declared.shape (tuple_type (Answer ∷ Ps ∷ []))) (Ok r, (r₂, tt)) (pair ∷ [])) (found ∷ [], (token ∷ [], tt)) $
    returns ! (look_at ! 0 refl) $ free_all ! refl $ keep ! (2 ∷ 3 ∷ 0 ∷ 1 ∷ []) $
    by ! (leaves 𝓛 En hs c y pair (Ok r, r₂) (tt, (h', (tt, (tt, (tt, (tt, tt)))))) (tt, (tt, (tt, (tt, (tt, (tt, tt)))))))))))
    (λ r. let found : Val = answer_val (Err r) in let good = offered_good (Err r) in let pair : Val = vstruct (vcons found (vcons token vnil)) in
    lands_last ! refl (answer_good (Err r)) $ exec ! 𝓣.C 𝓣.Λ Ev (tail fn.body) (at_ret Ev Post) $
    sets ! (of_opd ! (get ! refl)) refl (answer_good (Err r)) $ sets ! (agg ! (no_more !)) refl (tt, tt) $ sets ! (agg ! (and_then ! (get ! refl) (no_more !))) refl (tt, (tt, tt)) $
    sets ! (agg ! (and_then ! (get ! refl) (and_then ! (get ! refl) (no_more !)))) refl good $
    fsplit ! $ move ! (7 ∷ 0 ∷ []) $ obor_close ! tt $ drop ! $ move ! (1 ∷ []) $ fsplit ! $ move ! (1 ∷ []) $ fpick ! (λ v'. fsplit ! $ fpick ! (λ such. drop ! $
    use1 𝓛 (later (items (λ (st : ℕ × ℕ). ‵ (seat_owns cv.code z.views_name id v' st.0 st.1)))) (begins 𝓛 (coded_of cv) z.views_name id v') $ await ! tt $
    pick ! (λ st.
    let h' : Sr.Denot = record { marker = h.marker; base = z.views_name; id = id; view = v'.0.0; visit = v'.0.1; away = v'.1; stretch = st.0; mark = st.1 } in
    let ss : List (Ptr × ℕ) = (pa, n) ∷ [] in
    let r₂ : Ps.Denot = record { marker = record {}; spots = ss } in let M : Result Ptr Ptr → Type 0 = λ x. MatchResult x (λ _. r₂.spots ≡ []) (λ _. r₂.spots ≡ (pa, n) ∷ []) in
    let Told : Type 0 = (z.views_name ≡ h.base) × (id ≡ id) × (v'.1 ≡ h.away) × g.then h.view (Room (k - 31)) (Roomed (Ok tt)) v'.0.0 × M (Err r) in
    -- [the seat; one's own; self's token; ..]
    move ! (1 ∷ []) $ fsplit ! $ fjoin ! $ nothing ! $ fpack ! (AreAt pa' c₁ zs) (λ _. ftrue) laid $ fjoin ! $
    rewrite ! 0 (λ (u : Ptr × (ℕ × List ℕ)). ‵ (piece_at u.0 u.1.0 u.1.1)) (λ i. (sym at_a i, (sym many i, zs))) refl $
    fpack ! (List ℕ) (λ l. piece_at pa n l) zs $ nothing ! $ move ! (1 ∷ 0 ∷ []) $ fjoin ! $
    -- [what comes back; the seat; self's token; ..]
    use0 𝓛 (‵ ((Mark u64).own_val (record {}, tt) (token ∷ []))) (mark_made u64 𝓛) $ fjoin ! $
    nothing ! $ move ! (1 ∷ 0 ∷ []) $ fjoin ! $ use0 𝓛 (‵ (Answer.own_val (Err r) (found ∷ []))) (answer_made 𝓛 (Err r)) $ fjoin ! $
    feq_i ! (List Val) (pair ∷ []) (pair ∷ []) refl $ fjoin ! $
    fpack ! (Valss (Answer ∷ Ps ∷ [])) (within (declared.shape (tuple_type (Answer ∷ Ps ∷ []))) (Err r, (r₂, tt)) (pair ∷ [])) (found ∷ [], (token ∷ [], tt)) $
    move ! (1 ∷ 2 ∷ 3 ∷ 4 ∷ 5 ∷ 6 ∷ 7 ∷ 8 ∷ 0 ∷ []) $
    move ! (2 ∷ 0 ∷ []) $ fjoin ! $ move ! (2 ∷ 0 ∷ 3 ∷ 4 ∷ 5 ∷ []) $ closes ! tt Sr h' ts b' o' $
    feq_i ! (List Val) (vptr b' o' ∷ []) (vptr b' o' ∷ []) refl $ fjoin3 ! $
    nothing ! $ nothing ! $ fjoin ! $ nothing ! $ fjoin ! $ nothing ! $ fjoin ! $ nothing ! $ fjoin ! $ move ! (1 ∷ 0 ∷ []) $ fjoin ! $ nothing ! $ fjoin ! $ move ! (1 ∷ 3 ∷ []) $ join ! $
    move ! (2 ∷ 0 ∷ []) $ join ! $
    use0 𝓛 (raw (fact 𝓤 Told)) (fact_i 𝓤 Told (emp 𝓤) (sym asked.0, refl, such.1, (subst (λ (m : ℕ). told m (Roomed (Ok tt)) v') (sym which) such).0.0, refl)) $
    returns ! (look_at ! 0 refl) $ free_all ! refl $ keep ! (1 ∷ 2 ∷ 3 ∷ 0 ∷ []) $
    by ! (leaves 𝓛 En hs c y pair (Err r, r₂) (tt, (h', (tt, (tt, (tt, (tt, tt)))))) (tt, (tt, (tt, (tt, (tt, (tt, tt))))))))))))))))))))
