-- `take` takes a block away with its place, moves the value out, and frees the number.
use Rattle.seize_atoms.specs.Visiting.{Seen, HoldsSince, keeps_here, seat_coded}
use Rattle.seize_seats.specs.Seats.Errands.{coded_of, then_away}
use Rattle.seize_atoms.proofs.Allowed.{take_allowed}
use Rattle.seize_seats.specs.Seats.Visits.{then_kept}
use Rattle.std.proofs.Common.{◌≡◌, ℕ, List, [], ◌∷◌, ◌+◌, ◌-◌, ◌*◌, ◌^◌, ◌<◌, sym, refl, ap, ◌∙◌, subst, lit<, w64, arith, None, Some}
use mir.Syntax.{Ty, dcons, dnil, a_type, named, ty_int}
use mir.MapTy.{inst_fn}
use mir.Raw.{raw as unnamed}
use mir.Val.{Val, vint, vptr, vstruct, vcons, vnil, of_list}
use prog.Wp.{WpFn}
use base.Fraction.{full_share}
use base.Share
use base.Share.{three_quarters}
use base.Logic.{SProp, ent, sep, emp, id⊢, via}
use types.Logic.{sem}
use base.Fml.{Lft, Share, Fml, ftrue, fsep, fex, flft, fhide, froom, fat}
use types.Kit.{‵, raw, ◌⊛◌, given, later, mean, at_ret, ◌$◌, ◌∵◌, !, qed, by, move, keep, drop, split, split3, join, fsplit, fsplit3, fjoin, fjoin3, fpick, fpack, learn, use0, use1, use2, use3, await, suffices, rewrite, feq_i, some as items, pick, group}
use types.Run.{stop, fld, load, look_raw, lit, size_word, of_opd, bin, no_more, and_then, first, blocks, exec, calls, returns, enter, init, assigns}
use types.ByLocal.{alloc_all, pass_all, free_all, look_at, get, through, sets, sets_last, is, env, lands_as}
use types.Part.{agg, sub, whole, look_in}
use types.Tokens.{shr_bor-open, obor_close}
use types.Within.{tokens_halve}
use contract.Running.{tables}
use contract.Monad.{fact, fact_i}
use denote.Exit.{yes}
use denote.RattleType.{RattleType, Valss, owns}
use denote.Signature.{types_at, plain}
use denote.RawPtr.{Ptr, InBlock, block_ptr, block_of, count_of, at_block, ptr_val, rawptr_vals, rawptr_Tells}
use denote.Plain.{uint_vals, uint_Tells}
use denote.Ref.{shr_vals, shr_Tells, mut_vals, mut_Tells}
use denote.Steps.{nothing, peeks, heard, looks, shuts, opens, closes}
use denote.Laws.{Is, shows}
use denote.Opens.{unhide}
use denote.Memory.{lone, cell_at, hidden_shr}
use denote.Param.{param, bounded}
use denote.Param.Laws.{Laws, param_laws}
use denote.Builtin.{RefOf, RawPtr, u64}
use denote.Struct.Members.{Member}
use denote.Struct.Struct.{within, as_fields}
use denote.Struct.Declared as declared
use denote.Struct.Tuple.{Tuple, tuple_type}
use denote.Struct.Lending.{lent_out}
use denote.Triple.Walked.{Stays, stay_dropped, stay_ref, walk_of, Goes-dropped, Goes-ref}
use Rattle.core.proofs.atomic.Steps.{tail, Ptr-Good}
use Rattle.core.proofs.cell.Inside.{spread, gather}
use Rattle.core.proofs.option.Made.{none_of}
use types.Match.{live}
use Rattle.core.proofs.option.Option.TheLaws.{the_row_laws as option_laws}
use Rattle.core.specs.contracts.option.Option.{the_row as OptionOf}
use Rattle.std.specs.contracts.marker.PhantomData as marker
use Rattle.std.proofs.raw_atomic.Walks.{proved, leaves}
use Rattle.std.proofs.raw_atomic.Calls.{fm, seq_cst, stored, stores}
use Rattle.core.specs.Sync.RawAtomic.{word}
use Rattle.seize_words.specs.OneMemory.Op.{Out, Take, Taken}
use Rattle.seize_seats.specs.Seats.State.{Allows}
use Rattle.seize_seats.specs.Seats.Owned.{BaseId, IsPlaced, age, common, told as told_to_all, place, row, stride, words_share, busy}
use Rattle.seize_seats.proofs.Seats.Views.Shown.{placed}
use Rattle.seize_seats.proofs.Seats.Stepping.Moves.{reach, seat as seat_of}
use Rattle.seize_seats.proofs.Seats.Blocks.Makings.{leaves as goes_out, Taking, frees, hands}
use Rattle.seize_atoms.specs.Placed.{IsItsIndex}
use Rattle.seize_atoms.specs.contracts.words.StripWords as words
use Rattle.seize_atoms.specs.contracts.seat.Seat as seat
use Rattle.seize_atoms.proofs.Fields.{Data, told, opened, token, Mark, mark_made}
use Rattle.seize_seats.proofs.Seats.Places.Values.{uncapped, indexed, four_of}
use Rattle.seize_atoms.specs.contracts.words.StripWords.take.{ended, clauses}
use Rattle.seize_atoms.specs.contracts.words.StripWords.take.Key.{name as #self}
use Rattle.seize_atoms.proofs.words.StripWords.take.Statement.{statement}
use Rattle.seize_atoms.proofs.words.StripWords.take.Code as code
use Rattle.seize_seats.specs.Seats.Stretches.{seat_owns}
use Rattle.seize_seats.proofs.Seats.Views.Stretches.{ends, begins}
use Rattle.seize_seats.proofs.Seats.Views.Known.{twice}
use Rattle.seize_seats.specs.Seats.Cells.{Body}
use Rattle.seize_seats.proofs.Seats.Blocks.Regains.{regains}
use Rattle.seize_seats.specs.contracts.kept.Kept as kept_of
use Rattle.seize_seats.proofs.kept.Kept.TheLaws.{the_row_laws as kept_laws}
use Rattle.seize_seats.specs.Plots.Pieces.{kept_words, value_of, piece_at}
use Rattle.seize_seats.specs.contracts.piece.Piece as piece_of
use Rattle.seize_words.proofs.OneMemory.Stored.{hand_of}

pub take_spec : {M : Type 1} → statement M
take_spec 𝓤 𝓛 𝓜 𝓡 wired X P U F LX LP LU LF g d _ =
    let H = 𝓛.H in let 𝓣 = tables 𝓤 H 𝓜 𝓡 𝓡.env in let R₀ : RattleType = param 0 X in let K₀ : RattleType = kept_of.the_row R₀ in let R₁ : RattleType = param 1 P in let R₂ : RattleType = param 2 U in
    let R₃ : RattleType = param 3 F in
    let En = ended X P U F g d in let c = clauses X P U F g d 𝓛 𝓜.mem 𝓡.returns in
    let inst = bounded (a_type ∷ a_type ∷ a_type ∷ a_type ∷ []) (X, (P, (U, (F, tt)))) (dcons d dnil) in let fn = inst_fn inst code.function in
    let Row : RattleType = words.the_row R₀ R₁ R₂ R₃ g in let Sr : RattleType = seat.the_row R₀ R₁ R₂ R₃ g in let D : RattleType = Data R₀ R₁ R₂ R₃ g in
    let O : RattleType = OptionOf K₀ in let LO : Laws O = option_laws K₀ (kept_laws R₀ (param_laws 0 X LX)) in
    let LR = LO.lawful 𝓛 in let m : Member = record { row = O; ty = lone O.mir } in
    let self = RefOf (0 ∷ []) tt (plain (λ _. Row)) (λ _. tt) in let sitter = plain (λ _. Sr) in let num = plain (λ _. u64) in
    let hs : Stays En.signature.params En.kept = (stay_dropped self yes, (stay_ref (1 ∷ []) tt sitter, (stay_dropped num yes, (stay_dropped num yes, (stay_dropped (plain (λ _. RawPtr)) yes, (stay_dropped num yes, (stay_dropped num yes, (stay_dropped num yes, (stay_dropped num yes, (stay_dropped num yes, tt)))))))))) in
    proved 𝓛 En hs c 𝓜 𝓡 (Goes-dropped 𝓛 6 self yes (λ κs x f. refl), (Goes-ref 𝓛 6 1 tt sitter, (Goes-dropped 𝓛 6 num yes (λ κs x f. refl), (Goes-dropped 𝓛 6 num yes (λ κs x f. refl), (Goes-dropped 𝓛 6 (plain (λ _. RawPtr)) yes (λ κs x f. refl), (Goes-dropped 𝓛 6 num yes (λ κs x f. refl), (Goes-dropped 𝓛 6 num yes (λ κs x f. refl), (Goes-dropped 𝓛 6 num yes (λ κs x f. refl), (Goes-dropped 𝓛 6 num yes (λ κs x f. refl), (Goes-dropped 𝓛 6 num yes (λ κs x f. refl), tt))))))))))
    (#self inst) fn (code.unfolded 𝓤 H 𝓜 𝓡 wired (X, (P, (U, (F, tt)))) d)
    (λ κs. (shr_vals, (mut_vals, (uint_vals w64, (uint_vals w64, (rawptr_vals, (uint_vals w64, (uint_vals w64, (uint_vals w64, (uint_vals w64, (uint_vals w64, tt)))))))))))
    (λ κs. (shr_Tells (named 0) κs.0 Row, (mut_Tells (named 1) κs.1.0 Sr, (uint_Tells w64, (uint_Tells w64, (rawptr_Tells, (uint_Tells w64, (uint_Tells w64, (uint_Tells w64, (uint_Tells w64, (uint_Tells w64, tt))))))))))) (λ κs qs bounds a gh are.
    let b : ℕ = a.0.ref_ptr.0 in let o : ℕ = a.0.ref_ptr.1 in let b' : ℕ = a.1.0.ref_ptr.0 in let o' : ℕ = a.1.0.ref_ptr.1 in let κ : Lft = κs.0 in
    let t : Row.Denot = a.0.now in let p : Ptr = t.words in let z : BaseId = t.id in let h : Sr.Denot = a.1.0.now in let nr : ℕ = a.1.1.0 in
    let j : ℕ = a.1.1.1.0 in let pv : Ptr = a.1.1.1.1.0 in let i₀ : ℕ = a.1.1.1.1.1.0 in let i₁ : ℕ = a.1.1.1.1.1.1.0 in let i₂ : ℕ = a.1.1.1.1.1.1.1.0 in
    let i₃ : ℕ = a.1.1.1.1.1.1.1.1.0 in
    let i₄ : ℕ = a.1.1.1.1.1.1.1.1.1.0 in
    let id : ℕ = h.id in let v : Seen U.Denot = ((h.view, h.visit), h.away) in let cv = seat_coded R₂.coded in let α : Lft = age z in let rule = g.holds t.fixed in let holds = HoldsSince g.rests g.leans t.start rule g.keeps in let keeps = keeps_here g.keeps in
    let pb : ℕ = block_of p in let po : ℕ = count_of p in
    let bv : ℕ = block_of pv in let ov : ℕ = count_of pv in let sz : ℕ = stride K₀ in let e : ℕ = j * sz + ov in
    let d : ℕ = nr - 1 - z.first in let f : ℕ = d * 40 + (z.skip * 8 + po) in
    let others : Fml = fsep (flft κs.1.1.0 qs.1.1.0) (fsep (flft κs.1.1.1.0 qs.1.1.1.0) (fsep (flft κs.1.1.1.1.0 qs.1.1.1.1.0)
    (fsep (flft κs.1.1.1.1.1.0 qs.1.1.1.1.1.0) ftrue))) in
    let Asked : Type 0 = (h.base ≡ z.views_name) × IsItsIndex z nr j × (pv ≡ z.values) × (i₀ ≡ j * 5 + z.skip) ×
    (i₁ ≡ i₀ + 1) × (i₂ ≡ i₀ + 2) × (i₃ ≡ i₀ + 3) × (i₄ ≡ i₀ + 4) × (i₄ < 2 ^ 60) × Allows rule g.keeps id h.view (Take nr) (g.then h.view (Take nr)) in
    let y : (walk_of 𝓛 En hs c).Ghost = ((κs, qs, bounds, a, (vptr b o ∷ [], (vptr b' o' ∷ [], (vint w64 nr ∷ [], (vint w64 j ∷ [], (ptr_val pv ∷ [], (vint w64 i₀ ∷ [], (vint w64 i₁ ∷ [], (vint w64 i₂ ∷ [], (vint w64 i₃ ∷ [], (vint w64 i₄ ∷ [], tt))))))))))), gh) in
    let Post : Val → SProp 𝓤 = (walk_of 𝓛 En hs c).post y in
    qed 𝓛 (((‵ (flft κs.0 qs.0) ⊛ ‵ (flft κs.1.0 qs.1.0) ⊛ ‵ others) ⊛ ‵ (owns (types_at En.signature.params κs) a y.0.4)) ∷ raw (fact 𝓤 _) ∷
    raw (fact 𝓤 _) ∷ raw (fact 𝓤 _) ∷ raw (fact 𝓤 _) ∷ raw (fact 𝓤 Asked) ∷ []) ∵
    keep ! (5 ∷ 0 ∷ []) $ heard ! Asked (λ asked. split ! $ split3 ! $ move ! (3 ∷ []) $ fsplit3 ! $ fsplit ! $ move ! (2 ∷ []) $ fsplit3 ! $
    -- [the seat's address; the seat, by two; the address of self; self; the rest; the tokens; the others]
    keep ! (4 ∷ 6 ∷ 1 ∷ 2 ∷ 7 ∷ 8 ∷ []) $
    let Pc : RattleType = piece_of.the_row in let so : Out K₀.Denot → Seen U.Denot → Type 0 = then_away h.away (then_kept value_of h.visit (g.then h.view (Take nr))) in let allowed = take_allowed g.rests g.leans g.upright rule g.keeps t.start g.then g.resting_stay g.leaning_stay id h.view h.visit h.away nr asked.9 in let mine = asked.1.0 in
    let p' : Ptr = block_ptr bv ov in let us : Ptr
    → List Val = λ r. vptr b o ∷ vptr b' o' ∷ vint w64 nr ∷ vint w64 j ∷ ptr_val r ∷ vint w64 i₀ ∷ vint w64 i₁ ∷ vint w64 i₂ ∷ vint w64 i₃ ∷ vint w64 i₄ ∷ [] in
    let Run : List Val → SProp 𝓤 = λ ws. WpFn 𝓤 H 𝓣.C 𝓣.Λ fn ws Post in
    use1 𝓛 (‵ (hidden_shr D κ (p, (tt, tt)) b o) ⊛ ‵ (fhide (words_share K₀ kept_words cv holds p z κ)))
    (lent_out 𝓛 (words.struct R₀ R₁ R₂ R₃ g)
    (words.the_codes X.Denot P.Denot U.Denot F.Denot R₀.coded R₁.coded R₂.coded R₃.coded (marker.the_row (Tuple (R₀ ∷ R₁ ∷
    []))).coded) (words.the_heap R₀ R₁ R₂ R₃ g) (words.the_lent R₀ R₁ R₂ R₃ g) κ t b o) $
    split ! $ move ! (1 ∷ []) $ unhide ! $ fsplit ! $ move ! (1 ∷ []) $
    use1 𝓛 (given (IsPlaced K₀ p z) (‵ (common K₀ kept_words cv holds p z))) (placed K₀ kept_words cv holds p z 𝓛) $ learn ! (λ there. fsplit ! $ drop ! $
    let at_v : pv ≡ p' = at_block pv (subst InBlock (sym asked.2) there.2) in let at_p : p ≡ block_ptr pb po = at_block p there.0 in
    suffices ! (Run (us p')) (subst (λ (r : Ptr). ent 𝓤 (Run (us p')) (Run (us r))) (sym at_v) (id⊢ 𝓤 (Run (us p')))) $
    enter ! 𝓣.C 𝓣.Λ fn (us p') Post $
    alloc_all ! (λ l. pass_all ! refl ((tt, tt), ((tt, tt), ((tt, record { fits = are.1.1.0.1 }), ((tt, record { fits = are.1.1.1.0.1 }), (Ptr-Good p', ((tt, record { fits = are.1.1.1.1.1.0.1 }), ((tt, record { fits = are.1.1.1.1.1.1.0.1 }), ((tt, record { fits = are.1.1.1.1.1.1.1.0.1 }), ((tt, record { fits = are.1.1.1.1.1.1.1.1.0.1 }), ((tt, record { fits = are.1.1.1.1.1.1.1.1.1.0.1 }), tt)))))))))) $
    let Ev = env fn.locals l in let Inv : Fml = told_to_all K₀ kept_words cv holds p z in
    let low = asked.8 in let at₀ = asked.3 in let a₁ = asked.4 in let a₂ = asked.5 in let a₃ = asked.6 in let a₄ = asked.7 in
    -- [the invariant; its lifetime lasts; the fields; the token; the seat, by two; its token; the others]
    move ! (2 ∷ 3 ∷ []) $ looks ! tt D (opened R₀ R₁ R₂ R₃ g 𝓛) (p, (tt, tt)) b o (λ q vs. move ! (1 ∷ []) $
    peeks ! D (Is D) (shows 𝓛 D) (p, (tt, tt)) vs (λ is_so.
    let ev : vs ≡ hand_of (block_ptr pb po) ∷ [] = told R₀ R₁ R₂ R₃ g p vs is_so ∙ ap (λ (r : Ptr). hand_of r ∷ []) at_p in
    rewrite ! 1 (λ (ws : List Val). ‵ (cell_at q D.mir ws b o)) ev refl $ first ! $ blocks ! $
    sets ! (of_opd ! (load ! (through ! refl (fld ! refl (stop !))) (look_in ! 1 (sub ! 0 refl (whole !))))) refl (tt, tt) $
    rewrite ! 1 (λ (ws : List Val). ‵ (cell_at q D.mir ws b o)) (sym ev) refl $ move ! (1 ∷ 0 ∷ 2 ∷ []) $ shuts ! tt D q (p, (tt, tt)) vs b o $
    move ! (3 ∷ 0 ∷ []) $ shr_bor-open ! tt (tokens_halve 𝓛 α) (λ s. let q₁ : Share = Share.left s in let q₂ : Share = Share.right s in
    move ! (2 ∷ []) $ drop ! $ move ! (1 ∷ []) $ use1 𝓛 (‵ (flft α q₁) ⊛ ‵ (flft α q₂)) (𝓛.lfts.lft_split α s) $ split ! $ move ! (3 ∷ []) $
    use1 𝓛 (‵ Inv ⊛ ‵ Inv) (twice 𝓛 K₀ kept_words cv holds p z) $ split ! $
    -- [the invariant, twice; its token, by two; open; the seat, by two; its token; the others]
    move ! (5 ∷ 6 ∷ 7 ∷ []) $ opens ! tt Sr b' o' (λ ts. move ! (1 ∷ []) $ fsplit ! $
    rewrite ! 1 (λ (u : ℕ). ‵ (seat_owns cv.code u id v h.stretch h.mark)) asked.0 refl $ move ! (1 ∷ []) $
    use1 𝓛 (later (‵ (seat_of 𝓛 K₀ kept_words cv holds keeps p z id v))) (ends 𝓛 (coded_of cv) z.views_name id v h.stretch h.mark) $ await ! tt $ move ! (1 ∷ 0 ∷ []) $ move ! (1 ∷ 9 ∷ []) $ join ! $ move ! (6 ∷ 8 ∷ 0 ∷ []) $
    use3 𝓛 (later (‵ (fex (Body K₀.Denot × List ℕ) (Taking 𝓛 K₀ kept_words cv holds keeps p z id v nr q₂ so (λ out w told. told.1) allowed mine)) ⊛ ‵ (flft α q₁)))
    (reach 𝓛 K₀ kept_words cv holds keeps p z q₁ (sep 𝓤 (sem 𝓛 (seat_of 𝓛 K₀ kept_words cv holds keeps p z id v)) (sem 𝓛 (flft α q₂)))
    (sem 𝓛 (fex (Body K₀.Denot × List ℕ) (Taking 𝓛 K₀ kept_words cv holds keeps p z id v nr q₂ so (λ out w told. told.1) allowed mine))) (goes_out 𝓛 K₀ kept_words cv holds keeps p z id v nr q₂ so (λ out w told. told.1) allowed mine)) $
    await ! tt $ split ! $
    fpick ! (λ u. fsplit ! $ fpick ! (λ facts. drop ! $ fsplit3 ! $ move ! (2 ∷ []) $ fsplit ! $ move ! (1 ∷ []) $ fsplit ! $
    move ! (1 ∷ 2 ∷ 3 ∷ 4 ∷ 5 ∷ 6 ∷ 7 ∷ 8 ∷ 9 ∷ 10 ∷ 11 ∷ 12 ∷ 13 ∷ []) $
    let few = facts.1 in let high = few.1 in let low_is = few.0 in let j_is : j ≡ d = asked.1.1 facts.0 few in let room : z.size * sz < 2 ^ 63 = there.3 in
    let small : j * sz < 2 ^ 64 = indexed j z.size sz (omega (arith, high, low_is, j_is)) room in let nv : Val = live 0 (of_list []) in
    let four = four_of u.1 facts.2 in let w₀ : ℕ = four.0 in let w₁ : ℕ = four.1 in let w₂ : ℕ = four.2 in let w₃ : ℕ = four.3 in
    -- [the value; the entry; the seat; the hand; its token; the fields; four; the invariant; open; the others; the own words, which stay last]
    let Here : Fml = place K₀ α z.hands_name (block_of z.values) (d * sz + count_of z.values) (Some u.0.0) in
    let Hd : Fml = hands 𝓛 K₀ kept_words cv holds keeps p z three_quarters (nr - 1) (busy q₂) in
    move ! (10 ∷ 4 ∷ 3 ∷ []) $ group ! 3 $ move ! (0 ∷ 1 ∷ []) $
    use2 𝓛 (later ((‵ Inv ⊛ ‵ (flft α q₁) ⊛ ‵ Hd) ⊛ ‵ Here))
    (regains 𝓛 K₀ kept_words cv holds keeps p z (nr - 1) q₂ few q₁ u.0.0 (block_of z.values) (d * sz + count_of z.values)) $ await ! tt $ split ! $ split3 ! $
    move ! (3 ∷ 4 ∷ 5 ∷ 2 ∷ 1 ∷ 6 ∷ 7 ∷ 8 ∷ 9 ∷ 10 ∷ 0 ∷ []) $
    rewrite ! 0 (λ (r : Ptr × ℕ). ‵ (place K₀ α z.hands_name (block_of r.0) (r.1 * sz + count_of r.0) (Some u.0.0))) (λ i. (sym asked.2 i, sym j_is i)) refl $
    spread m ! LR (Some u.0.0) bv e (λ w good.
    -- [the place; what it holds; the entry; the seat; the hand; its token; the fields; four; the invariant; open; what is written; the others]
    sets ! (of_opd ! (get ! refl)) refl (tt, record { fits = are.1.1.1.0.1 }) $
    sets ! (is ! (bin ! (get ! refl) (size_word !) (record { fits = subst (λ (k : ℕ). k < 2 ^ 64) (sym (uncapped j sz small)) small })) (ap (vint w64)
    (uncapped j sz small))) refl (tt, record { fits = small }) $
    sets ! (bin ! (get ! refl) (get ! refl) tt) refl (tt, tt) $
    sets ! (of_opd ! (load ! (through ! refl (stop !)) (look_raw ! 0 refl))) refl good $
    use1 𝓛 (‵ (froom (unnamed (lone O.mir)) bv e)) (𝓛.laws.at_room (unnamed (lone O.mir)) bv e w) $
    use1 𝓛 (‵ (froom (lone O.mir) bv e)) (𝓛.laws.raw-room (lone O.mir) bv e) $
    use0 𝓛 (‵ (O.own_val None (nv ∷ []))) (none_of 𝓛 K₀) $
    peeks ! O (Is O) (shows 𝓛 O) None (nv ∷ []) (λ none_so. let fine = (LR.typed None (nv ∷ []) none_so).0 in move ! (1 ∷ []) $
    sets ! (agg ! (and_then ! (lit ! tt) (no_more !))) refl fine $
    assigns ! (of_opd ! (get ! refl)) (through ! refl (stop !)) (init ! 0 refl fine) $
    use1 𝓛 (‵ (fat full_share (unnamed (lone O.mir)) bv e nv)) (𝓛.laws.at_raw full_share (lone O.mir) bv e nv) $ gather m ! None nv bv e $
    rewrite ! 0 (λ (r : Ptr × ℕ). ‵ (place K₀ α z.hands_name (block_of r.0) (r.1 * sz + count_of r.0) None)) (λ i. (asked.2 i, j_is i)) refl $
    -- [the place; the value; the entry; the seat; the hand; its token; the fields; four; the invariant; open; the others]
    move ! (2 ∷ []) $ rewrite ! 0 (λ (ws : List ℕ). ‵ (row pb f ws)) four.4 refl $
    fsplit ! $ move ! (1 ∷ []) $ fsplit ! $ move ! (1 ∷ []) $ fsplit ! $ move ! (1 ∷ []) $ fsplit ! $
    -- [the last word; nothing; the others, last first; the place; ..]
    let τ : Ty = ty_int w64 in let e₀ : ℕ = i₀ * 8 + po in let e₁ : ℕ = i₁ * 8 + po in let e₂ : ℕ = i₂ * 8 + po in let e₃ : ℕ = i₃ * 8 + po in
    let e₄ : ℕ = i₄ * 8 + po in
    let at₁ : f ≡ e₀ = omega (arith, at₀, j_is) in let at₂ : f + 8 ≡ e₁ = omega (arith, at₀, j_is, a₁) in
    let at₃ : f + 8 + 8 ≡ e₂ = omega (arith, at₀, j_is, a₂) in let at₄ : f + 8 + 8 + 8 ≡ e₃ = omega (arith, at₀, j_is, a₃) in
    let at : f + 32 ≡ e₄ = omega (arith, at₀, j_is, a₄) in
    let small₀ : i₀ * 8 < 2 ^ 64 = omega (arith, low, a₄) in let small₁ : i₁ * 8 < 2 ^ 64 = omega (arith, low, a₁, a₄) in
    let small₂ : i₂ * 8 < 2 ^ 64 = omega (arith, low, a₂, a₄) in let small₃ : i₃ * 8 < 2 ^ 64 = omega (arith, low, a₃, a₄) in
    let small₄ : i₄ * 8 < 2 ^ 64 = omega (arith, low) in
    move ! (4 ∷ []) $ rewrite ! 0 (λ (k : ℕ). ‵ (word pb k w₀)) at₁ refl $ use1 𝓛 (‵ (froom τ pb e₀)) (𝓛.laws.at_room τ pb e₀ (vint w64 w₀)) $
    sets ! (of_opd ! (get ! refl)) refl (tt, record { fits = are.1.1.1.1.1.0.1 }) $
    sets ! (bin ! (get ! refl) (lit ! tt) (record { fits = small₀ })) refl (tt, record { fits = small₀ }) $
    sets ! (bin ! (get ! refl) (get ! refl) tt) refl (tt, tt) $
    assigns ! (of_opd ! (lit ! tt)) (through ! refl (stop !)) (init ! 0 refl (tt, record { fits = lit< tt })) $
    move ! (4 ∷ []) $ rewrite ! 0 (λ (k : ℕ). ‵ (word pb k w₁)) at₂ refl $ use1 𝓛 (‵ (froom τ pb e₁)) (𝓛.laws.at_room τ pb e₁ (vint w64 w₁)) $
    sets ! (of_opd ! (get ! refl)) refl (tt, record { fits = are.1.1.1.1.1.1.0.1 }) $
    sets ! (bin ! (get ! refl) (lit ! tt) (record { fits = small₁ })) refl (tt, record { fits = small₁ }) $
    sets ! (bin ! (get ! refl) (get ! refl) tt) refl (tt, tt) $
    assigns ! (of_opd ! (lit ! tt)) (through ! refl (stop !)) (init ! 0 refl (tt, record { fits = lit< tt })) $
    move ! (4 ∷ []) $ rewrite ! 0 (λ (k : ℕ). ‵ (word pb k w₂)) at₃ refl $ use1 𝓛 (‵ (froom τ pb e₂)) (𝓛.laws.at_room τ pb e₂ (vint w64 w₂)) $
    sets ! (of_opd ! (get ! refl)) refl (tt, record { fits = are.1.1.1.1.1.1.1.0.1 }) $
    sets ! (bin ! (get ! refl) (lit ! tt) (record { fits = small₂ })) refl (tt, record { fits = small₂ }) $
    sets ! (bin ! (get ! refl) (get ! refl) tt) refl (tt, tt) $
    assigns ! (of_opd ! (lit ! tt)) (through ! refl (stop !)) (init ! 0 refl (tt, record { fits = lit< tt })) $
    move ! (3 ∷ []) $ rewrite ! 0 (λ (k : ℕ). ‵ (word pb k w₃)) at₄ refl $ use1 𝓛 (‵ (froom τ pb e₃)) (𝓛.laws.at_room τ pb e₃ (vint w64 w₃)) $
    sets ! (of_opd ! (get ! refl)) refl (tt, record { fits = are.1.1.1.1.1.1.1.1.0.1 }) $
    sets ! (bin ! (get ! refl) (lit ! tt) (record { fits = small₃ })) refl (tt, record { fits = small₃ }) $
    sets ! (bin ! (get ! refl) (get ! refl) tt) refl (tt, tt) $
    assigns ! (of_opd ! (lit ! tt)) (through ! refl (stop !)) (init ! 0 refl (tt, record { fits = lit< tt })) $
    -- [the words, last first; nothing; the place; the value; the seat; the hand; its token; the fields; four; the invariant; open; the others]
    rewrite ! 0 (λ (k : ℕ). ‵ (word pb k 0)) (sym at₄) refl $ rewrite ! 1 (λ (k : ℕ). ‵ (word pb k 0)) (sym at₃) refl $
    rewrite ! 2 (λ (k : ℕ). ‵ (word pb k 0)) (sym at₂) refl $ rewrite ! 3 (λ (k : ℕ). ‵ (word pb k 0)) (sym at₁) refl $
    move ! (0 ∷ 4 ∷ []) $ fjoin ! $ move ! (1 ∷ 0 ∷ []) $ fjoin ! $ move ! (1 ∷ 0 ∷ []) $ fjoin ! $ move ! (1 ∷ 0 ∷ []) $ fjoin ! $ fjoin ! $
    -- [the contents; the value; the seat; the hand; its token; the fields; four; the invariant; open; the others]
    move ! (3 ∷ 0 ∷ []) $ join ! $
    sets ! (of_opd ! (get ! refl)) refl (tt, record { fits = are.1.1.1.1.1.1.1.1.1.0.1 }) $
    sets ! (bin ! (get ! refl) (lit ! tt) (record { fits = small₄ })) refl (tt, record { fits = small₄ }) $
    sets ! (bin ! (get ! refl) (get ! refl) tt) refl (tt, tt) $ let out : Fml = fsep (flft α q₁) (flft α q₂) in
    move ! (9 ∷ 3 ∷ 0 ∷ []) $
    use3 𝓛 (raw (𝓣.C _ (vptr pb e₄ ∷ vint w64 0 ∷ seq_cst ∷ []) (λ u. mean 𝓛 (stored out u))))
    (via 𝓤 _ (frees 𝓛 K₀ kept_words cv holds keeps p z q₁ (nr - 1) q₂ e₄ few at)
    (stores 𝓛 𝓜 𝓡 (code.calls-core::raw_atomic::store 𝓡.env wired) (block_ptr pb e₄) 0 (lit< tt) out)) $
    sets ! (agg ! (and_then ! (lit ! tt) (no_more !))) refl (tt, (record { fits = lit< tt }, tt)) $
    calls ! (fm 𝓛 𝓜 𝓡) (stored out) (and_then ! (get ! refl) (and_then ! (lit ! tt) (and_then ! (get ! refl) (no_more !)))) (λ r. await ! tt $
    learn ! (λ is_unit. lands_as ! (sym is_unit) refl (tt, tt) $
    sets ! (of_opd ! (get ! refl)) refl good $ sets ! (agg ! (no_more !)) refl (tt, tt) $
    sets ! (agg ! (and_then ! (get ! refl) (no_more !))) refl (tt, (tt, tt)) $
    let pair : Val = vstruct (vcons w (vcons token vnil)) in let pair_good = as_fields (lone O.mir ∷ lone Pc.mir ∷ []) (w ∷ token ∷ []) (good, ((tt, (tt, tt)), tt)) in
    sets_last ! (agg ! (and_then ! (get ! refl) (and_then ! (get ! refl) (no_more !)))) refl pair_good $
    exec ! 𝓣.C 𝓣.Λ Ev (tail fn.body) (at_ret Ev Post) $ sets ! (of_opd ! (get ! refl)) refl pair_good $
    -- [the token, in two; the value; the seat; the fields; four; open; the others]
    fsplit ! $ use2 𝓛 (‵ (flft α s)) (𝓛.lfts.lft_join α s) $ move ! (8 ∷ 0 ∷ []) $ obor_close ! tt $ drop ! $
    move ! (2 ∷ []) $ fpick ! (λ v'. fsplit ! $ fpick ! (λ such. drop ! $
    use1 𝓛 (later (items (λ (st : ℕ × ℕ). ‵ (seat_owns cv.code z.views_name id v' st.0 st.1)))) (begins 𝓛 (coded_of cv) z.views_name id v') $ await ! tt $
    pick ! (λ st.
    let h' : Sr.Denot = record { marker = h.marker; base = z.views_name; id = id; view = v'.0.0; visit = v'.0.1; away = v'.1; stretch = st.0; mark = st.1 } in
    let Told : Type 0 = (z.views_name ≡ h.base) × (id ≡ id) × (v'.1 ≡ h.away) × ((x : K₀.Denot) × (Some u.0.0 ≡ Some x) × (u.0.0.at ≡ x.at) × (u.0.0.count ≡ x.count)
    × g.then h.view (Take nr) (Taken x.value) v'.0.0) in
    -- [the seat; the token; the value; the fields; four; its token; the others]
    move ! (3 ∷ 0 ∷ []) $ fjoin ! $ move ! (3 ∷ 0 ∷ 4 ∷ 5 ∷ 6 ∷ []) $ closes ! tt Sr h' ts b' o' $
    feq_i ! (List Val) (vptr b' o' ∷ []) (vptr b' o' ∷ []) refl $ fjoin3 ! $
    nothing ! $ nothing ! $ fjoin ! $ nothing ! $ fjoin ! $ nothing ! $ fjoin ! $ nothing ! $ fjoin ! $ nothing ! $ fjoin ! $ nothing ! $ fjoin ! $
    nothing ! $ fjoin ! $ nothing ! $ fjoin ! $ move ! (1 ∷ 0 ∷ []) $ fjoin ! $ nothing ! $ fjoin ! $
    move ! (1 ∷ 4 ∷ []) $ join ! $ move ! (2 ∷ 0 ∷ []) $ join ! $
    -- [alive; what is left; the value; the own words]
    let pc : Pc.Denot = record { marker = record {}; at = u.0.0.at; count = u.0.0.count; words = u.0.1 } in
    move ! (3 ∷ []) $ use1 𝓛 (‵ (piece_at u.0.0.at u.0.0.count u.0.1)) (id⊢ 𝓤 _) $
    use0 𝓛 (‵ ((Mark u64).own_val (record {}, tt) (token ∷ []))) (mark_made u64 𝓛) $ fjoin ! $ move ! (0 ∷ 3 ∷ []) $
    nothing ! $ move ! (1 ∷ 0 ∷ []) $ fjoin ! $ move ! (1 ∷ 0 ∷ []) $ fjoin ! $ feq_i ! (List Val) (pair ∷ []) (pair ∷ []) refl $ fjoin ! $
    fpack ! (Valss (O ∷ Pc ∷ [])) (within (declared.shape (tuple_type (O ∷ Pc ∷ []))) (Some u.0.0, (pc, tt)) (pair ∷ [])) (w ∷ [], (token ∷ [], tt)) $
    use0 𝓛 (raw (fact 𝓤 Told)) (fact_i 𝓤 Told (emp 𝓤) (sym asked.0, refl, such.1, (u.0.0, refl, refl, refl, such.0.0))) $
    returns ! (look_at ! 0 refl) $ free_all ! refl $ keep ! (2 ∷ 3 ∷ 1 ∷ 0 ∷ []) $
    by ! (leaves 𝓛 En hs c y pair (Some u.0.0, pc) (tt, (h', (tt, (tt, (tt, (tt, (tt, (tt, (tt, (tt, tt)))))))))) (tt, (tt, (tt, (tt, (tt, (tt, (tt, (tt, (tt, (tt, tt))))))))))))))))))))))))))))
