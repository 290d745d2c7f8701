-- `rewrite` takes the value of a block in the hand, moves it out, puts another one in its place, and gives it back as the block's.
use Rattle.seize_atoms.specs.Visiting.{Seen, HoldsHere, HoldsSince, keeps_here, seat_coded}
use Rattle.seize_seats.specs.Seats.Errands.{coded_of, then_away}
use Rattle.seize_atoms.proofs.Allowed.{rewrite_allowed, owned_here, value_one}
use Rattle.seize_seats.specs.Seats.Visits.{then_kept}
use Rattle.std.proofs.Common.{◌≡◌, ℕ, List, [], ◌∷◌, ◌++◌, ◌+◌, ◌-◌, ◌*◌, ◌^◌, ◌<◌, sym, refl, ap, ◌∙◌, subst, w64, arith, Some}
use mir.Syntax.{dcons, dnil, a_type}
use mir.MapTy.{inst_fn}
use mir.Raw.{raw as unnamed}
use mir.Val.{Val, vint, vptr, of_list}
use prog.Wp.{WpFn}
use base.Fraction.{full_share}
use base.Share
use base.Share.{three_quarters}
use base.Logic.{SProp, ent, sep, emp, id⊢}
use types.Logic.{sem}
use base.Fml.{Lft, Share, Fml, ftrue, fsep, fex, flft, fhide, froom, fat, Incl-trans}
use types.Kit.{‵, raw, ◌⊛◌, given, later, at_ret, ◌$◌, ◌∵◌, !, qed, by, move, keep, drop, split, split3, join, group, fsplit, fsplit3, fjoin, fjoin3, fpick, learn, use0, use1, use2, use3, await, suffices, rewrite, feq_i, some as items, pick}
use types.Match.{live}
use types.Part.{agg}
use types.Run.{stop, load, look_raw, lit, no_more, and_then, size_word, of_opd, bin, first, blocks, exec, returns, enter, init, assigns}
use types.ByLocal.{alloc_all, pass_all, free_all, look_at, get, through, sets, sets_last, is, env}
use types.Tokens.{shr_bor-open, obor_close}
use types.Within.{tokens_halve}
use contract.Running.{tables}
use contract.Monad.{fact, fact_i}
use denote.Exit.{yes, no}
use denote.RattleType.{RattleType, owns}
use denote.Signature.{types_at, plain}
use denote.RawPtr.{Ptr, InBlock, block_ptr, block_of, count_of, at_block, ptr_val}
use denote.Laws.{Is, shows}
use denote.Steps.{nothing, peeks, heard, opens, closes}
use denote.Opens.{unhide}
use denote.Memory.{lone, hidden_shr}
use denote.Param.{param, bounded}
use denote.Param.Laws.{Laws, param_laws}
use denote.Builtin.{RefOf, RawPtr, u64}
use denote.Struct.Members.{Member}
use denote.Struct.Tuple.{Tuple}
use denote.Struct.Lending.{lent_out}
use denote.Triple.Walked.{Stays, stay_dropped, stay_ref, walk_of, Goes-dropped, Goes-ref}
use Rattle.core.proofs.atomic.Steps.{tail, Ptr-Good}
use Rattle.core.proofs.cell.Inside.{one, spread, gather}
use Rattle.core.proofs.option.Made.{Some-of}
use Rattle.core.proofs.option.Option.TheLaws.{the_row_laws as option_laws}
use Rattle.core.specs.contracts.option.Option.{the_row as OptionOf}
use Rattle.std.specs.contracts.marker.PhantomData as marker
use Rattle.std.proofs.raw_atomic.Walks.{proved_at, leaves}
use Rattle.seize_words.specs.OneMemory.Op.{Out, Rewrite, Taken}
use Rattle.seize_seats.specs.Seats.State.{Allows, Owns}
use Rattle.seize_seats.specs.Seats.Owned.{BaseId, IsPlaced, age, common, held, told as told_to_all, place, stride, words_share}
use Rattle.seize_seats.proofs.Seats.Views.Shown.{placed}
use Rattle.seize_seats.proofs.Seats.Stepping.Moves.{reach, seat as seat_of, gone_on}
use Rattle.seize_seats.proofs.Seats.Blocks.Makings.{hands}
use Rattle.seize_seats.proofs.Seats.Blocks.Regains.{regains_held}
use Rattle.seize_seats.proofs.Seats.Blocks.Rewrites.{Note, Holding, takes_up, puts_back, value as value_at}
use Rattle.seize_atoms.specs.Placed.{IsItsIndex}
use Rattle.seize_atoms.specs.contracts.words.StripWords as words
use Rattle.seize_atoms.specs.contracts.seat.Seat as seat
use Rattle.seize_atoms.proofs.Fields.{Data}
use Rattle.seize_seats.proofs.Seats.Places.Values.{uncapped, indexed}
use Rattle.seize_atoms.specs.contracts.words.StripWords.rewrite.{ended, clauses}
use Rattle.seize_atoms.specs.contracts.words.StripWords.rewrite.Key.{name as #self}
use Rattle.seize_atoms.proofs.words.StripWords.rewrite.Statement.{statement}
use Rattle.seize_atoms.proofs.words.StripWords.rewrite.Code as code
use Rattle.seize_seats.specs.Seats.Stretches.{seat_owns}
use Rattle.seize_seats.proofs.Seats.Views.Stretches.{ends, begins}
use Rattle.seize_seats.proofs.Seats.Views.Known.{twice}
use Rattle.seize_seats.proofs.Seats.Blocks.Lendings.{offers}
use contract.BorrowLft.{◌⊑◌}
use Rattle.core.proofs.once.Steps.{option_lives}
use Rattle.seize_seats.specs.contracts.kept.Kept as kept_of
use Rattle.seize_seats.proofs.kept.Kept.TheLaws.{the_row_laws as kept_laws}
use Rattle.seize_seats.specs.Plots.Pieces.{kept_words, value_of, lies}
use Rattle.seize_seats.specs.Seats.Lendings.{IsValueOf}
use Rattle.seize_atoms.proofs.Lives.{kept_lives, kept_goes}

pub rewrite_spec : {M : Type 1} → statement M
rewrite_spec 𝓤 𝓛 𝓜 𝓡 wired X P U F LX LP LU LF g d _ =
    let H = 𝓛.H in let 𝓣 = tables 𝓤 H 𝓜 𝓡 𝓡.env in let R₀ : RattleType = param 0 X in let K₀ : RattleType = kept_of.the_row R₀ in let R₁ : RattleType = param 1 P in let R₂ : RattleType = param 2 U in
    let R₃ : RattleType = param 3 F in
    let En = ended X P U F g d in let c = clauses X P U F g d 𝓛 𝓜.mem 𝓡.returns in
    let inst = bounded (a_type ∷ a_type ∷ a_type ∷ a_type ∷ []) (X, (P, (U, (F, tt)))) (dcons d dnil) in let fn = inst_fn inst code.function in
    let Row : RattleType = words.the_row R₀ R₁ R₂ R₃ g in let Sr : RattleType = seat.the_row R₀ R₁ R₂ R₃ g in let D : RattleType = Data R₀ R₁ R₂ R₃ g in
    let O : RattleType = OptionOf K₀ in let LO : Laws O = option_laws K₀ (kept_laws R₀ (param_laws 0 X LX)) in
    let LR = LO.lawful 𝓛 in let LK₀ = (kept_laws R₀ (param_laws 0 X LX)).lawful 𝓛 in let m : Member = record { row = O; ty = lone O.mir } in
    let self = RefOf (0 ∷ []) tt (plain (λ _. Row)) (λ _. tt) in let sitter = plain (λ _. Sr) in let num = plain (λ _. u64) in
    let hs : Stays En.signature.params En.kept = (
      stay_dropped self yes,
      (
        stay_ref (1 ∷ []) tt sitter,
        (stay_dropped num yes, (stay_dropped num yes, (stay_dropped (plain (λ _. RawPtr)) yes, (stay_dropped (plain (λ _. K₀)) no, tt)))),
      ),
    ) in
    proved_at 𝓛 En hs c 𝓜 𝓡 (
      Goes-dropped 𝓛 6 self yes (λ κs x f. refl),
      (
        Goes-ref 𝓛 6 1 tt sitter,
        (
          Goes-dropped 𝓛 6 num yes (λ κs x f. refl),
          (
            Goes-dropped 𝓛 6 num yes (λ κs x f. refl),
            (
              Goes-dropped 𝓛 6 (plain (λ _. RawPtr)) yes (λ κs x f. refl),
              (kept_goes 𝓛 6 X, tt),
            ),
          ),
        ),
      ),
    )
    (#self inst) fn (code.unfolded 𝓤 H 𝓜 𝓡 wired (X, (P, (U, (F, tt)))) d) (λ y are.
    let κs = y.0.0 in let qs = y.0.1 in let a = y.0.3 in let vss = y.0.4 in let Post : Val → SProp 𝓤 = (walk_of 𝓛 En hs c).post y in
    let b : ℕ = a.0.ref_ptr.0 in let o : ℕ = a.0.ref_ptr.1 in let b' : ℕ = a.1.0.ref_ptr.0 in let o' : ℕ = a.1.0.ref_ptr.1 in let κ : Lft = κs.0 in
    let t : Row.Denot = a.0.now in let p : Ptr = t.words in let z : BaseId = t.id in let h : Sr.Denot = a.1.0.now in let nr : ℕ = a.1.1.0 in
    let j : ℕ = a.1.1.1.0 in let pv : Ptr = a.1.1.1.1.0 in let new : K₀.Denot = a.1.1.1.1.1.0 in
    let id : ℕ = h.id in let v : Seen U.Denot = ((h.view, h.visit), h.away) in let cv = seat_coded R₂.coded in let α : Lft = age z in let rule = g.holds t.fixed in let ruled = HoldsHere g.rests g.leans rule in let holds = HoldsSince g.rests g.leans t.start rule g.keeps in let keeps = keeps_here g.keeps in
    let bv : ℕ = block_of pv in let ov : ℕ = count_of pv in let sz : ℕ = stride K₀ in let e : ℕ = j * sz + ov in
    let others : Fml = fsep (flft κs.1.1.0 qs.1.1.0) (fsep (flft κs.1.1.1.0 qs.1.1.1.0) (fsep (flft κs.1.1.1.1.0 qs.1.1.1.1.0)
    (fsep (flft κs.1.1.1.1.1.0 qs.1.1.1.1.1.0) ftrue))) in
    let Asked : Type 0 = (h.base ≡ z.views_name) × IsItsIndex z nr j × (pv ≡ z.values)
    × ((x : K₀.Denot) → IsValueOf ruled id v nr x → lies x ≡ lies new) × Owns rule g.keeps id h.view nr
    × Allows rule g.keeps id h.view (Rewrite nr new.value) (g.then h.view (Rewrite nr new.value)) in
    let got = one (lone K₀.mir) vss.1.1.1.1.1.0 (LK₀.typed new vss.1.1.1.1.1.0 are.1.1.1.1.1.0) in let vy : Val = got.0 in
    let sv : Val = live 1 (of_list (vy ∷ [])) in
    qed 𝓛 (((‵ (flft κs.0 qs.0) ⊛ ‵ (flft κs.1.0 qs.1.0) ⊛ ‵ others) ⊛ ‵ (owns (types_at En.signature.params κs) a vss)) ∷ raw (fact 𝓤 (κs.1.1.0 ⊑ X.lives)) ∷
    raw (fact 𝓤 _) ∷ raw (fact 𝓤 _) ∷ raw (fact 𝓤 _) ∷ raw (fact 𝓤 Asked) ∷ []) ∵
    keep ! (5 ∷ 1 ∷ 0 ∷ []) $ heard ! Asked (λ asked. heard ! (κs.1.1.0 ⊑ X.lives) (λ inc. split ! $ split3 ! $ move ! (3 ∷ []) $ fsplit3 ! $ fsplit ! $ move ! (2 ∷ []) $ fsplit3 ! $
    -- [the seat's address; the seat, by two; the address of self; self; the rest; the tokens; the others]
    keep ! (4 ∷ 6 ∷ 1 ∷ 2 ∷ 7 ∷ 8 ∷ 5 ∷ []) $ move ! (6 ∷ []) $ fsplit3 ! $ move ! (2 ∷ []) $ fsplit3 ! $ keep ! (1 ∷ 5 ∷ 6 ∷ 7 ∷ 8 ∷ 9 ∷ 10 ∷ []) $
    -- [the value; self; its token; the seat, by two; its token; the others]
    rewrite ! 0 (λ (ws : List Val). ‵ (K₀.own_val new ws)) got.1 refl $
    let so : Out K₀.Denot → Seen U.Denot → Type 0 = then_away h.away (then_kept value_of h.visit (g.then h.view (Rewrite nr new.value))) in
    let own = owned_here g.rests g.leans g.upright rule g.keeps t.start id h.view h.visit h.away nr asked.4 in
    let allowed = rewrite_allowed g.rests g.leans g.upright rule g.keeps t.start g.then g.resting_stay g.leaning_stay id h.view h.visit h.away nr new asked.4 asked.5 in let mine = asked.1.0 in let d : ℕ = nr - 1 - z.first in
    let p' : Ptr = block_ptr bv ov in let us : List Val = vptr b o ∷ vptr b' o' ∷ vint w64 nr ∷ vint w64 j ∷ ptr_val p' ∷ vy ∷ [] in
    let Run : List Val → SProp 𝓤 = λ ws. WpFn 𝓤 H 𝓣.C 𝓣.Λ fn ws Post in
    move ! (1 ∷ []) $
    use1 𝓛 (‵ (hidden_shr D κ (p, (tt, tt)) b o) ⊛ ‵ (fhide (words_share K₀ kept_words cv holds p z κ)))
    (lent_out 𝓛 (words.struct R₀ R₁ R₂ R₃ g)
    (words.the_codes X.Denot P.Denot U.Denot F.Denot R₀.coded R₁.coded R₂.coded R₃.coded (marker.the_row (Tuple (R₀ ∷ R₁ ∷
    []))).coded) (words.the_heap R₀ R₁ R₂ R₃ g) (words.the_lent R₀ R₁ R₂ R₃ g) κ t b o) $
    split ! $ drop ! $ unhide ! $ fsplit ! $ move ! (1 ∷ []) $
    use1 𝓛 (given (IsPlaced K₀ p z) (‵ (common K₀ kept_words cv holds p z))) (placed K₀ kept_words cv holds p z 𝓛) $ learn ! (λ there. fsplit ! $ drop ! $
    let at_v : pv ≡ p' = at_block pv (subst InBlock (sym asked.2) there.2) in
    let linked : vss.1.1.1.1.0 ≡ ptr_val p' ∷ [] = are.1.1.1.1.0 ∙ ap (λ (u : Ptr). ptr_val u ∷ []) at_v in
    suffices ! (Run us) (subst (λ (ws : List Val). ent 𝓤 (Run us) (Run ws))
    (sym (λ i. are.0.0 i ++ (are.1.0.0 i ++ (are.1.1.0.0 i ++ (are.1.1.1.0.0 i ++ (linked i ++ (got.1 i ++ []))))))) (id⊢ 𝓤 (Run us))) $
    enter ! 𝓣.C 𝓣.Λ fn us Post $ alloc_all ! (λ l. pass_all ! refl (
      (tt, tt),
      ((tt, tt), ((tt, record { fits = are.1.1.0.1 }), ((tt, record { fits = are.1.1.1.0.1 }), (Ptr-Good p', (got.2, tt))))),
    ) $ let Ev = env fn.locals l in let Inv : Fml = told_to_all K₀ kept_words cv holds p z in
    -- [the invariant; its lifetime lasts; the value; the token; the seat, by two; its token; the others]
    use1 𝓛 (‵ Inv ⊛ ‵ Inv) (twice 𝓛 K₀ kept_words cv holds p z) $ split ! $ move ! (2 ∷ 4 ∷ []) $
    shr_bor-open ! tt (tokens_halve 𝓛 α) (λ s. let q₁ : Share = Share.left s in let q₂ : Share = Share.right s in move ! (1 ∷ []) $
    use1 𝓛 (‵ (flft α q₁) ⊛ ‵ (flft α q₂)) (𝓛.lfts.lft_split α s) $ split ! $
    -- [its token, by two; open; the invariant, twice; the value; the seat, by two; its token; the others]
    move ! (6 ∷ 7 ∷ 8 ∷ []) $ opens ! tt Sr b' o' (λ ts. move ! (1 ∷ []) $ fsplit ! $
    rewrite ! 1 (λ (u : ℕ). ‵ (seat_owns cv.code u id v h.stretch h.mark)) asked.0 refl $ move ! (1 ∷ []) $
    use1 𝓛 (later (‵ (seat_of 𝓛 K₀ kept_words cv holds keeps p z id v))) (ends 𝓛 (coded_of cv) z.views_name id v h.stretch h.mark) $ await ! tt $ move ! (1 ∷ 0 ∷ []) $
    -- [the seat's fields; the seat; four of it; the token, by two; open; the invariant, twice; the value; the others]
    move ! (1 ∷ 7 ∷ []) $ join ! $ move ! (8 ∷ 6 ∷ 0 ∷ []) $
    let Held : ℕ × K₀.Denot → Fml = Holding 𝓛 K₀ kept_words cv holds keeps p z id v nr q₂ mine own in
    use3 𝓛 (later (‵ (fex (ℕ × K₀.Denot) Held) ⊛ ‵ (flft α q₁)))
    (reach 𝓛 K₀ kept_words cv holds keeps p z q₁ (sep 𝓤 (sem 𝓛 (seat_of 𝓛 K₀ kept_words cv holds keeps p z id v)) (sem 𝓛 (flft α q₂)))
    (sem 𝓛 (fex (ℕ × K₀.Denot) Held)) (takes_up 𝓛 K₀ kept_words cv holds keeps p z id v nr q₂ mine own)) $ await ! tt $ split ! $
    fpick ! (λ u. fsplit ! $ fpick ! (λ facts. drop ! $ fsplit3 ! $
    let few = facts.1 in let high = few.1 in let low_is = few.0 in let j_is : j ≡ d = asked.1.1 facts.0 few in let room : z.size * sz < 2 ^ 63 = there.3 in
    let small : j * sz < 2 ^ 64 = indexed j z.size sz (omega (arith, high, low_is, j_is)) room in let ρ : ℕ = u.0 in let x : K₀.Denot = u.1 in let same : lies x ≡ lies new = asked.3 x (value_one g.rests g.leans g.upright rule g.keeps t.start id v nr x facts.2) in
    -- [the note; the hand; the value that is there; the token; the fields; four; open; the invariant; the new value; the others]
    let Here : Fml = place K₀ α z.hands_name (block_of z.values) (d * sz + count_of z.values) (Some x) in
    let Hd : Fml = hands 𝓛 K₀ kept_words cv holds keeps p z three_quarters (nr - 1) (held ρ q₂) in
    move ! (10 ∷ 3 ∷ 1 ∷ []) $ group ! 3 $ move ! (0 ∷ 2 ∷ []) $
    use2 𝓛 (later ((‵ Inv ⊛ ‵ (flft α q₁) ⊛ ‵ Hd) ⊛ ‵ Here))
    (regains_held 𝓛 K₀ kept_words cv holds keeps p z (nr - 1) ρ q₂ few q₁ x (block_of z.values) (d * sz + count_of z.values)) $ await ! tt $ split ! $ split3 ! $
    -- [the invariant; the token; the hand; the place; the note; the fields; four; open; the new value; the others]
    move ! (3 ∷ []) $
    rewrite ! 0 (λ (r : Ptr × ℕ). ‵ (place K₀ α z.hands_name (block_of r.0) (r.1 * sz + count_of r.0) (Some x))) (λ i. (sym asked.2 i, sym j_is i)) refl $
    spread m ! LR (Some x) bv e (λ w good. first ! $ blocks ! $
    sets ! (of_opd ! (get ! refl)) refl (tt, record { fits = are.1.1.1.0.1 }) $
    sets ! (is ! (bin ! (get ! refl) (size_word !) (record { fits = subst (λ (k : ℕ). k < 2 ^ 64) (sym (uncapped j sz small)) small })) (ap (vint w64)
    (uncapped j sz small))) refl (tt, record { fits = small }) $
    sets ! (bin ! (get ! refl) (get ! refl) tt) refl (tt, tt) $
    sets ! (of_opd ! (load ! (through ! refl (stop !)) (look_raw ! 0 refl))) refl good $
    use1 𝓛 (‵ (froom (unnamed (lone O.mir)) bv e)) (𝓛.laws.at_room (unnamed (lone O.mir)) bv e w) $
    use1 𝓛 (‵ (froom (lone O.mir) bv e)) (𝓛.laws.raw-room (lone O.mir) bv e) $
    sets ! (of_opd ! (get ! refl)) refl (tt, record { fits = are.1.1.1.0.1 }) $
    sets ! (is ! (bin ! (get ! refl) (size_word !) (record { fits = subst (λ (k : ℕ). k < 2 ^ 64) (sym (uncapped j sz small)) small })) (ap (vint w64)
    (uncapped j sz small))) refl (tt, record { fits = small }) $
    sets ! (bin ! (get ! refl) (get ! refl) tt) refl (tt, tt) $
    -- [room; what it held; the invariant; the token; the hand; the note; the fields; four; open; the new value; the others]
    move ! (12 ∷ []) $ use1 𝓛 (‵ (O.own_val (Some new) (sv ∷ []))) (Some-of 𝓛 K₀ new vy) $
    peeks ! O (Is O) (shows 𝓛 O) (Some new) (sv ∷ []) (λ is_so. let fine = (LR.typed (Some new) (sv ∷ []) is_so).0 in move ! (1 ∷ []) $
    sets ! (of_opd ! (get ! refl)) refl got.2 $ sets ! (agg ! (and_then ! (lit ! tt) (and_then ! (get ! refl) (no_more !)))) refl fine $
    assigns ! (of_opd ! (get ! refl)) (through ! refl (stop !)) (init ! 0 refl fine) $
    use1 𝓛 (‵ (fat full_share (unnamed (lone O.mir)) bv e sv)) (𝓛.laws.at_raw full_share (lone O.mir) bv e sv) $
    gather m ! (Some new) sv bv e $
    rewrite ! 0 (λ (r : Ptr × ℕ). ‵ (place K₀ α z.hands_name (block_of r.0) (r.1 * sz + count_of r.0) (Some new))) (λ i. (asked.2 i, j_is i)) refl $
    -- [the place; what it held; the invariant; the token; the hand; the note; the fields; four; open; the others]
    sets_last ! (of_opd ! (get ! refl)) refl good $ exec ! 𝓣.C 𝓣.Λ Ev (tail fn.body) (at_ret Ev Post) $ sets ! (of_opd ! (get ! refl)) refl good $
    let Value : Fml = value_at 𝓛 K₀ kept_words cv holds keeps p z (nr - 1) new in
    move ! (12 ∷ []) $ fsplit ! $ move ! (2 ∷ 0 ∷ []) $
    use2 𝓛 (later (‵ Value ⊛ ‵ (flft κs.1.1.0 qs.1.1.0)))
    (offers 𝓛 K₀ α (coded_of cv) z.views_name holds (LO.shares 𝓛) (nr - 1) new (block_of z.values) (d * sz + count_of z.values) κs.1.1.0 qs.1.1.0
    (Incl-trans inc (Incl-trans (kept_lives R₀) (option_lives K₀)))) $ await ! tt $ split ! $ move ! (1 ∷ 2 ∷ []) $ fjoin ! $
    -- [the others; the value; what it held; the invariant; the token; the hand; the note; the fields; four; open]
    move ! (5 ∷ 6 ∷ 1 ∷ []) $ group ! 3 $ move ! (3 ∷ 4 ∷ 0 ∷ []) $
    use3 𝓛 (later ((‵ (gone_on 𝓛 K₀ kept_words cv holds keeps p z id (so (Taken x))) ⊛ ‵ (flft α q₂)) ⊛ ‵ (flft α q₁)))
    (reach 𝓛 K₀ kept_words cv holds keeps p z q₁
    (sep 𝓤 (sem 𝓛 Hd) (sep 𝓤 (sem 𝓛 (Note 𝓛 K₀ kept_words cv holds keeps p z ρ three_quarters x id v)) (sem 𝓛 Value)))
    (sep 𝓤 (sem 𝓛 (gone_on 𝓛 K₀ kept_words cv holds keeps p z id (so (Taken x)))) (sem 𝓛 (flft α q₂)))
    (puts_back 𝓛 K₀ kept_words cv holds keeps p z id v nr q₂ mine ρ x new (ap (λ (s : Ptr × ℕ). s.0) same) (ap (λ (s : Ptr × ℕ). s.1) same) so (λ out w told. told.1) allowed facts.0 few)) $ await ! tt $ split ! $ split ! $
    -- [the seat; the token, by two; the others; what it held; the fields; four; open]
    move ! (2 ∷ 1 ∷ []) $ use2 𝓛 (‵ (flft α s)) (𝓛.lfts.lft_join α s) $ move ! (9 ∷ 0 ∷ []) $ obor_close ! tt $ drop ! $
    move ! (1 ∷ []) $ fpick ! (λ v'. fsplit ! $ fpick ! (λ such. drop ! $
    use1 𝓛 (later (items (λ (st : ℕ × ℕ). ‵ (seat_owns cv.code z.views_name id v' st.0 st.1)))) (begins 𝓛 (coded_of cv) z.views_name id v') $ await ! tt $
    pick ! (λ st.
    let h' : Sr.Denot = record { marker = h.marker; base = z.views_name; id = id; view = v'.0.0; visit = v'.0.1; away = v'.1; stretch = st.0; mark = st.1 } in
    let Told : Type 0 = (z.views_name ≡ h.base) × (id ≡ id) × (v'.1 ≡ h.away) × ((y : K₀.Denot) × (Some x ≡ Some y) × g.then h.view (Rewrite nr new.value) (Taken y.value) v'.0.0) in
    -- [the seat; its token; the others; what it held; the fields; four]
    move ! (4 ∷ 0 ∷ []) $ fjoin ! $ move ! (4 ∷ 0 ∷ 5 ∷ 6 ∷ 7 ∷ []) $ closes ! tt Sr h' ts b' o' $
    feq_i ! (List Val) vss.1.0 (vptr b' o' ∷ []) are.1.0.0 $ fjoin3 ! $
    nothing ! $ nothing ! $ fjoin ! $ nothing ! $ fjoin ! $ nothing ! $ fjoin ! $ nothing ! $ fjoin ! $ move ! (1 ∷ 0 ∷ []) $
    fjoin ! $ nothing ! $ fjoin ! $
    -- [what is left; its token; the token; the others; what it held]
    move ! (1 ∷ 3 ∷ []) $ join ! $ move ! (2 ∷ 0 ∷ []) $ join ! $
    use0 𝓛 (raw (fact 𝓤 Told)) (fact_i 𝓤 Told (emp 𝓤) (sym asked.0, refl, such.1, (x, refl, such.0.0))) $
    returns ! (look_at ! 0 refl) $ free_all ! refl $ keep ! (1 ∷ 2 ∷ 3 ∷ 0 ∷ []) $
    by ! (leaves 𝓛 En hs c y w (Some x) (tt, (h', (tt, (tt, (tt, ((tt, tt), tt)))))) (tt, (tt, (tt, (tt, (tt, (tt, tt)))))))))))))))))))))
