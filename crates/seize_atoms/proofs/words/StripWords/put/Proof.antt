-- `put` takes the place of a claimed number out, writes the value there, and gives it back as a block.
use Rattle.seize_atoms.specs.Visiting.{Seen, HoldsSince, keeps_here, seat_coded}
use Rattle.seize_seats.specs.Seats.Errands.{coded_of, then_away}
use Rattle.seize_atoms.proofs.Allowed.{make_allowed}
use Rattle.seize_seats.specs.Seats.Visits.{then_kept}
use Rattle.std.proofs.Common.{◌≡◌, ℕ, List, [], ◌∷◌, ◌++◌, ◌+◌, ◌-◌, ◌*◌, ◌^◌, ◌<◌, sym, refl, ap, ◌∙◌, subst, arith, w64, replicate, Option, None, Some, Ok}
use mir.Syntax.{dcons, dnil, a_type}
use mir.MapTy.{inst_fn}
use mir.Raw.{raw as unnamed}
use mir.Val.{Val, vint, vptr, vunit, of_list}
use prog.Wp.{WpFn}
use base.Fraction.{full_share}
use base.Share
use base.Share.{three_quarters}
use base.Logic.{SProp, ent, sep, emp, id⊢}
use types.Logic.{sem}
use base.Fml.{Lft, Share, Fml, ftrue, fsep, flft, fhide, froom, fat, Incl-trans}
use types.Kit.{‵, raw, ◌⊛◌, given, later, at_ret, ◌$◌, ◌∵◌, !, qed, by, move, keep, drop, split, split3, join, fsplit, fsplit3, fjoin, fjoin3, fpick, learn, use0, use1, use2, use3, await, suffices, rewrite, feq_i, some as items, pick}
use types.Match.{live}
use types.Part.{agg}
use types.Run.{stop, lit, unit_lit, no_more, and_then, size_word, of_opd, bin, first, blocks, exec, returns, enter, init, assigns_last}
use types.ByLocal.{alloc_all, pass_all, free_all, look_at, get, through, sets, is, env}
use types.Tokens.{shr_bor-open, obor_close}
use types.Within.{tokens_halve}
use contract.Running.{tables}
use contract.Monad.{fact, fact_i}
use denote.Exit.{yes, no}
use denote.RattleType.{RattleType, owns}
use denote.Signature.{types_at, plain}
use denote.RawPtr.{Ptr, InBlock, block_ptr, block_of, count_of, at_block, ptr_val}
use denote.Laws.{Is, shows}
use denote.Steps.{nothing, peeks, heard, opens, closes}
use denote.Opens.{unhide}
use denote.Memory.{lone, hidden_shr}
use denote.Param.{param, bounded}
use denote.Param.Laws.{Laws, param_laws}
use denote.Builtin.{RefOf, RawPtr, u64}
use denote.Struct.Members.{Member}
use denote.Struct.Tuple.{Tuple}
use denote.Struct.Lending.{lent_out}
use denote.Triple.Walked.{Stays, stay_dropped, stay_ref, walk_of, Goes-dropped, Goes-ref}
use Rattle.core.proofs.atomic.Steps.{tail, Ptr-Good}
use Rattle.core.proofs.cell.Inside.{one, spread, gather}
use Rattle.core.proofs.option.Made.{Some-of}
use Rattle.core.proofs.option.Option.TheLaws.{the_row_laws as option_laws}
use Rattle.core.specs.contracts.option.Option.{the_row as OptionOf}
use Rattle.std.specs.contracts.marker.PhantomData as marker
use Rattle.std.proofs.raw_atomic.Walks.{proved_at, leaves}
use Rattle.seize_words.specs.OneMemory.Op.{Out, Make, Made}
use Rattle.seize_seats.specs.Seats.State.{Allows}
use Rattle.seize_seats.specs.Seats.Owned.{piece, BaseId, IsPlaced, Hand, age, common, told as told_to_all, IsIts, claim_owns, resting, busy, zeros, place, stride, words_share}
use Rattle.seize_seats.proofs.Seats.Views.Shown.{placed}
use Rattle.seize_seats.proofs.Seats.Stepping.Moves.{reach, seat as seat_of, gone_on}
use Rattle.seize_seats.proofs.Seats.Blocks.Makings.{hands, contents, withdraws, publishes, offers as offered_at}
use Rattle.seize_atoms.specs.contracts.words.StripWords as words
use Rattle.seize_atoms.specs.contracts.seat.Seat as seat
use Rattle.seize_atoms.specs.contracts.claim.Claim as claim
use Rattle.seize_atoms.proofs.Fields.{Data, token, mark_told, claim_of, claim_told}
use Rattle.seize_seats.proofs.Seats.Places.Values.{uncapped, indexed}
use Rattle.seize_atoms.specs.contracts.words.StripWords.put.{ended, clauses}
use Rattle.seize_atoms.specs.contracts.words.StripWords.put.Key.{name as #self}
use Rattle.seize_atoms.proofs.words.StripWords.put.Statement.{statement}
use Rattle.seize_atoms.proofs.words.StripWords.put.Code as code
use Rattle.seize_seats.specs.Seats.Stretches.{seat_owns}
use Rattle.seize_seats.proofs.Seats.Views.Stretches.{ends, begins}
use Rattle.seize_seats.proofs.Seats.Views.Known.{twice}
use Rattle.seize_seats.specs.Seats.Lendings.{lendable}
use Rattle.seize_seats.proofs.Seats.Blocks.Lendings.{offers}
use contract.BorrowLft.{◌⊑◌}
use Rattle.core.proofs.once.Steps.{option_lives}
use Rattle.seize_seats.specs.contracts.kept.Kept as kept_of
use Rattle.seize_seats.proofs.kept.Kept.TheLaws.{the_row_laws as kept_laws}
use Rattle.seize_seats.specs.Plots.Pieces.{kept_words, value_of, piece_at}
use Rattle.seize_atoms.proofs.Lives.{kept_lives, kept_goes}
use Rattle.seize_seats.specs.contracts.piece.Piece as piece_of

pub put_spec : {M : Type 1} → statement M
put_spec 𝓤 𝓛 𝓜 𝓡 wired X P U F LX LP LU LF g d _ =
    let H = 𝓛.H in let 𝓣 = tables 𝓤 H 𝓜 𝓡 𝓡.env in let R₀ : RattleType = param 0 X in let K₀ : RattleType = kept_of.the_row R₀ in let R₁ : RattleType = param 1 P in let R₂ : RattleType = param 2 U in
    let R₃ : RattleType = param 3 F in
    let En = ended X P U F g d in let c = clauses X P U F g d 𝓛 𝓜.mem 𝓡.returns in
    let inst = bounded (a_type ∷ a_type ∷ a_type ∷ a_type ∷ []) (X, (P, (U, (F, tt)))) (dcons d dnil) in let fn = inst_fn inst code.function in
    let Row : RattleType = words.the_row R₀ R₁ R₂ R₃ g in let Sr : RattleType = seat.the_row R₀ R₁ R₂ R₃ g in let D : RattleType = Data R₀ R₁ R₂ R₃ g in
    let Cl : RattleType = claim.the_row in let O : RattleType = OptionOf K₀ in let LO : Laws O = option_laws K₀ (kept_laws R₀ (param_laws 0 X LX)) in
    let LR = LO.lawful 𝓛 in let LK₀ = (kept_laws R₀ (param_laws 0 X LX)).lawful 𝓛 in let Pc : RattleType = piece_of.the_row in let m : Member = record { row = O; ty = lone O.mir } in
    let self = RefOf (0 ∷ []) tt (plain (λ _. Row)) (λ _. tt) in let sitter = plain (λ _. Sr) in let num = plain (λ _. u64) in
    let hs : Stays En.signature.params En.kept = (
      stay_dropped self yes,
      (
        stay_ref (1 ∷ []) tt sitter,
        (
          stay_dropped (plain (λ _. Cl)) yes,
          (stay_dropped num yes, (stay_dropped (plain (λ _. RawPtr)) yes, (stay_dropped (plain (λ _. K₀)) no, (stay_dropped (plain (λ _. Pc)) yes, tt)))),
        ),
      ),
    ) in
    proved_at 𝓛 En hs c 𝓜 𝓡 (
      Goes-dropped 𝓛 6 self yes (λ κs x f. refl),
      (
        Goes-ref 𝓛 6 1 tt sitter,
        (
          Goes-dropped 𝓛 6 (plain (λ _. Cl)) yes (λ κs x f. refl),
          (
            Goes-dropped 𝓛 6 num yes (λ κs x f. refl),
            (
              Goes-dropped 𝓛 6 (plain (λ _. RawPtr)) yes (λ κs x f. refl),
              (kept_goes 𝓛 6 X, (Goes-dropped 𝓛 6 (plain (λ _. Pc)) yes (λ κs x f. refl), tt)),
            ),
          ),
        ),
      ),
    )
    (#self inst) fn (code.unfolded 𝓤 H 𝓜 𝓡 wired (X, (P, (U, (F, tt)))) d) (λ y are.
    let κs = y.0.0 in let qs = y.0.1 in let a = y.0.3 in let vss = y.0.4 in let Post : Val → SProp 𝓤 = (walk_of 𝓛 En hs c).post y in
    let b : ℕ = a.0.ref_ptr.0 in let o : ℕ = a.0.ref_ptr.1 in let b' : ℕ = a.1.0.ref_ptr.0 in let o' : ℕ = a.1.0.ref_ptr.1 in let κ : Lft = κs.0 in
    let t : Row.Denot = a.0.now in let p : Ptr = t.words in let z : BaseId = t.id in let h : Sr.Denot = a.1.0.now in let cl : Cl.Denot = a.1.1.0 in
    let j : ℕ = a.1.1.1.0 in let pv : Ptr = a.1.1.1.1.0 in let new : K₀.Denot = a.1.1.1.1.1.0 in let pc : Pc.Denot = a.1.1.1.1.1.1.0 in let many : ℕ = new.count in
    let id : ℕ = h.id in let v : Seen U.Denot = ((h.view, h.visit), h.away) in let cv = seat_coded R₂.coded in let α : Lft = age z in let rule = g.holds t.fixed in let holds = HoldsSince g.rests g.leans t.start rule g.keeps in let keeps = keeps_here g.keeps in
    let bv : ℕ = block_of pv in let ov : ℕ = count_of pv in let sz : ℕ = stride K₀ in let e : ℕ = j * sz + ov in
    let others : Fml = fsep (flft κs.1.1.0 qs.1.1.0) (fsep (flft κs.1.1.1.0 qs.1.1.1.0) (fsep (flft κs.1.1.1.1.0 qs.1.1.1.1.0)
    (fsep (flft κs.1.1.1.1.1.0 qs.1.1.1.1.1.0) ftrue))) in
    let Asked : Type 0 = (h.base ≡ z.views_name) × (cl.base ≡ z.hands_name) × (cl.found ≡ 0) × (cl.index ≡ z.first + j) × (j < z.size) × (z.first + j + 1 < 2 ^ 53) ×
    (pv ≡ z.values) × (pc.at ≡ new.at) × (pc.count ≡ many) × (pc.words ≡ replicate many 0)
    × Allows rule g.keeps id h.view (Make new.value many) (g.then h.view (Make new.value many)) in
    let n : ℕ = z.first + j in let d : ℕ = n - z.first in let nth_is : d ≡ j = omega arith in
    let got = one (lone K₀.mir) vss.1.1.1.1.1.0 (LK₀.typed new vss.1.1.1.1.1.0 are.1.1.1.1.1.0) in let vy : Val = got.0 in
    let sv : Val = live 1 (of_list (vy ∷ [])) in
    let ct = claim_told cl.found vss.1.1.0 are.1.1.0.0 in let pt : vss.1.1.1.1.1.1.0 ≡ token ∷ [] = mark_told u64 vss.1.1.1.1.1.1.0 are.1.1.1.1.1.1.0.0 in
    qed 𝓛 (((‵ (flft κs.0 qs.0) ⊛ ‵ (flft κs.1.0 qs.1.0) ⊛ ‵ others) ⊛ ‵ (owns (types_at En.signature.params κs) a vss)) ∷ raw (fact 𝓤 (κs.1.1.0 ⊑ X.lives)) ∷
    raw (fact 𝓤 _) ∷ raw (fact 𝓤 _) ∷ raw (fact 𝓤 _) ∷ raw (fact 𝓤 Asked) ∷ []) ∵
    keep ! (5 ∷ 1 ∷ 0 ∷ []) $ heard ! Asked (λ asked. heard ! (κs.1.1.0 ⊑ X.lives) (λ inc. split ! $ split3 ! $ move ! (3 ∷ []) $ fsplit3 ! $ fsplit ! $ move ! (2 ∷ []) $ fsplit3 ! $
    -- [the seat's address; the seat, by two; the address of self; self; the rest; the tokens; the others]
    keep ! (4 ∷ 6 ∷ 1 ∷ 2 ∷ 7 ∷ 8 ∷ 5 ∷ []) $ move ! (6 ∷ []) $ fsplit3 ! $ move ! (2 ∷ []) $ fsplit3 ! $ move ! (2 ∷ []) $ fsplit ! $ fsplit ! $
    keep ! (5 ∷ 4 ∷ 7 ∷ 8 ∷ 9 ∷ 10 ∷ 11 ∷ 12 ∷ 1 ∷ []) $
    -- [the claim; the value; self; its token; the seat, by two; its token; the others; the own words, which stay last]
    fsplit ! $ drop ! $ rewrite ! 0 (λ (u : ℕ × ℕ × ℕ). ‵ (claim_owns u.0 u.1 u.2)) (λ i. (asked.1 i, asked.3 i, asked.2 i)) refl $
    rewrite ! 1 (λ (ws : List Val). ‵ (K₀.own_val new ws)) got.1 refl $
    let so : Out K₀.Denot → Seen U.Denot → Type 0 = then_away h.away (then_kept value_of h.visit (g.then h.view (Make new.value many))) in
    let allowed = make_allowed g.rests g.leans g.upright rule g.keeps t.start g.then g.resting_stay g.leaning_stay id h.view h.visit h.away new many asked.10 in
    let p' : Ptr = block_ptr bv ov in let us : List Val = vptr b o ∷ vptr b' o' ∷ claim_of cl.found ∷ vint w64 j ∷ ptr_val p' ∷ vy ∷ token ∷ [] in
    let Run : List Val → SProp 𝓤 = λ ws. WpFn 𝓤 H 𝓣.C 𝓣.Λ fn ws Post in
    move ! (2 ∷ []) $
    use1 𝓛 (‵ (hidden_shr D κ (p, (tt, tt)) b o) ⊛ ‵ (fhide (words_share K₀ kept_words cv holds p z κ)))
    (lent_out 𝓛 (words.struct R₀ R₁ R₂ R₃ g)
    (words.the_codes X.Denot P.Denot U.Denot F.Denot R₀.coded R₁.coded R₂.coded R₃.coded (marker.the_row (Tuple (R₀ ∷ R₁ ∷
    []))).coded) (words.the_heap R₀ R₁ R₂ R₃ g) (words.the_lent R₀ R₁ R₂ R₃ g) κ t b o) $
    split ! $ drop ! $ unhide ! $ fsplit ! $ move ! (1 ∷ []) $
    use1 𝓛 (given (IsPlaced K₀ p z) (‵ (common K₀ kept_words cv holds p z))) (placed K₀ kept_words cv holds p z 𝓛) $ learn ! (λ there. fsplit ! $ drop ! $
    let room : z.size * sz < 2 ^ 63 = there.3 in let small : j * sz < 2 ^ 64 = indexed j z.size sz asked.4 room in
    let lt = asked.4 in let of : IsIts z n = (omega arith, omega (arith, lt)) in
    let at_v : pv ≡ p' = at_block pv (subst InBlock (sym asked.6) there.2) in
    let linked : vss.1.1.1.1.0 ≡ ptr_val p' ∷ [] = are.1.1.1.1.0 ∙ ap (λ (u : Ptr). ptr_val u ∷ []) at_v in
    suffices ! (Run us) (subst (λ (ws : List Val). ent 𝓤 (Run us) (Run ws))
    (sym (λ i. are.0.0 i ++ (are.1.0.0 i ++ (ct.0 i ++ (are.1.1.1.0.0 i ++ (linked i ++ (got.1 i ++ (pt i ++ [])))))))) (id⊢ 𝓤 (Run us))) $
    enter ! 𝓣.C 𝓣.Λ fn us Post $ alloc_all ! (λ l. pass_all ! refl (
      (tt, tt),
      (
        (tt, tt),
        (
          (tt, (record { fits = ct.1 }, tt)),
          ((tt, record { fits = are.1.1.1.0.1 }), (Ptr-Good p', (got.2, ((tt, (tt, tt)), tt)))),
        ),
      ),
    ) $ let Ev = env fn.locals l in let Inv : Fml = told_to_all K₀ kept_words cv holds p z in
    -- [the invariant; its lifetime lasts; the claim; the value; the token; the seat, by two; its token; the others]
    use1 𝓛 (‵ Inv ⊛ ‵ Inv) (twice 𝓛 K₀ kept_words cv holds p z) $ split ! $ move ! (2 ∷ 5 ∷ []) $
    shr_bor-open ! tt (tokens_halve 𝓛 α) (λ s. let q₁ : Share = Share.left s in let q₂ : Share = Share.right s in move ! (1 ∷ []) $
    use1 𝓛 (‵ (flft α q₁) ⊛ ‵ (flft α q₂)) (𝓛.lfts.lft_split α s) $ split ! $
    let Hs : Hand → Fml = λ u. hands 𝓛 K₀ kept_words cv holds keeps p z three_quarters n u in
    let Cs : Option K₀.Denot → Fml = λ u. contents 𝓛 K₀ kept_words cv holds keeps p z n zeros u in let Os : Fml = offered_at 𝓛 K₀ kept_words cv holds keeps p z n zeros (new, replicate many 0) in
    -- [its token, by two; open; the invariant, twice; the claim; the value; the seat, by two; its token; the others]
    move ! (5 ∷ 1 ∷ []) $ join ! $ move ! (3 ∷ 1 ∷ 0 ∷ []) $
    use3 𝓛 (later ((‵ (Hs (busy q₂)) ⊛ ‵ (Cs None)) ⊛ ‵ (flft α q₁)))
    (reach 𝓛 K₀ kept_words cv holds keeps p z q₁ (sep 𝓤 (sem 𝓛 (Hs resting)) (sem 𝓛 (flft α q₂))) (sep 𝓤 (sem 𝓛 (Hs (busy q₂))) (sem 𝓛 (Cs None))) (withdraws 𝓛 K₀ kept_words cv holds keeps p z n q₂ of)) $ await ! tt $ split ! $ split ! $ move ! (1 ∷ []) $ fsplit ! $
    -- [the entry; the place; the hand; its token; open; the invariant; the value; the seat, by two; its token; the others]
    move ! (1 ∷ []) $ rewrite ! 0 (λ (r : Ptr × ℕ). ‵ (place K₀ α z.hands_name (block_of r.0) (r.1 * sz + count_of r.0) None)) (λ i. (sym asked.6 i, nth_is i)) refl $
    spread m ! LR None bv e (λ w good.
    use1 𝓛 (‵ (froom (unnamed (lone O.mir)) bv e)) (𝓛.laws.at_room (unnamed (lone O.mir)) bv e w) $
    use1 𝓛 (‵ (froom (lone O.mir) bv e)) (𝓛.laws.raw-room (lone O.mir) bv e) $ first ! $ blocks ! $
    sets ! (of_opd ! (get ! refl)) refl (tt, record { fits = are.1.1.1.0.1 }) $
    sets ! (is ! (bin ! (get ! refl) (size_word !) (record { fits = subst (λ (k : ℕ). k < 2 ^ 64) (sym (uncapped j sz small)) small })) (ap (vint w64)
    (uncapped j sz small))) refl (tt, record { fits = small }) $
    sets ! (bin ! (get ! refl) (get ! refl) tt) refl (tt, tt) $
    move ! (7 ∷ []) $ use1 𝓛 (‵ (O.own_val (Some new) (sv ∷ []))) (Some-of 𝓛 K₀ new vy) $
    peeks ! O (Is O) (shows 𝓛 O) (Some new) (sv ∷ []) (λ is_so. let fine = (LR.typed (Some new) (sv ∷ []) is_so).0 in move ! (1 ∷ []) $
    -- [room for it; the value; what the place held; the entry; the hand; its token; open; the invariant; the seat, by two; its token; the others]
    sets ! (of_opd ! (get ! refl)) refl got.2 $ sets ! (agg ! (and_then ! (lit ! tt) (and_then ! (get ! refl) (no_more !)))) refl fine $
    assigns_last ! (of_opd ! (get ! refl)) (through ! refl (stop !)) (init ! 0 refl fine) $
    exec ! 𝓣.C 𝓣.Λ Ev (tail fn.body) (at_ret Ev Post) $ sets ! (of_opd ! (unit_lit !)) refl (tt, tt) $
    use1 𝓛 (‵ (fat full_share (unnamed (lone O.mir)) bv e sv)) (𝓛.laws.at_raw full_share (lone O.mir) bv e sv) $
    gather m ! (Some new) sv bv e $
    rewrite ! 0 (λ (r : Ptr × ℕ). ‵ (place K₀ α z.hands_name (block_of r.0) (r.1 * sz + count_of r.0) (Some new))) (λ i. (asked.6 i, sym nth_is i)) refl $
    -- [the place; what it held; the entry; the hand; its token; open; the invariant; the seat, by two; its token; the others]
    let Value : Fml = lendable K₀ α cv.code z.views_name holds n new (block_of z.values) (d * sz + count_of z.values) in
    move ! (10 ∷ []) $ fsplit ! $ move ! (2 ∷ 0 ∷ []) $
    use2 𝓛 (later (‵ Value ⊛ ‵ (flft κs.1.1.0 qs.1.1.0)))
    (offers 𝓛 K₀ α (coded_of cv) z.views_name holds (LO.shares 𝓛) n new (block_of z.values) (d * sz + count_of z.values) κs.1.1.0 qs.1.1.0
    (Incl-trans inc (Incl-trans (kept_lives R₀) (option_lives K₀)))) $ await ! tt $ split ! $ move ! (1 ∷ 2 ∷ []) $ fjoin ! $
    move ! (1 ∷ 2 ∷ 3 ∷ 4 ∷ 5 ∷ 6 ∷ 7 ∷ 8 ∷ 9 ∷ 10 ∷ []) $
    move ! (11 ∷ []) $ rewrite ! 0 (λ (u : Ptr × ℕ × List ℕ). ‵ (piece_at u.0 u.1 u.2)) (λ i. (asked.7 i, asked.8 i, asked.9 i)) refl $
    use1 𝓛 (‵ (piece kept_words (new, replicate many 0))) (id⊢ 𝓤 _) $ fjoin ! $
    move ! (2 ∷ 0 ∷ []) $ fjoin ! $ move ! (2 ∷ 0 ∷ []) $ join ! $
    -- [hand and contents; what it held; its token; open; the invariant; the seat, by two; its token; the others]
    move ! (5 ∷ 6 ∷ 7 ∷ []) $ opens ! tt Sr b' o' (λ ts. move ! (1 ∷ []) $ fsplit ! $
    rewrite ! 1 (λ (u : ℕ). ‵ (seat_owns cv.code u id v h.stretch h.mark)) asked.0 refl $ move ! (1 ∷ []) $
    use1 𝓛 (later (‵ (seat_of 𝓛 K₀ kept_words cv holds keeps p z id v))) (ends 𝓛 (coded_of cv) z.views_name id v h.stretch h.mark) $ await ! tt $ move ! (1 ∷ 0 ∷ []) $
    -- [the seat's fields; the seat; four of it; hand and contents; what it held; its token; open; the invariant; ..]
    move ! (1 ∷ 6 ∷ []) $ join ! $ move ! (9 ∷ 7 ∷ 0 ∷ []) $
    use3 𝓛 (later ((‵ (gone_on 𝓛 K₀ kept_words cv holds keeps p z id (so (Made (Ok (n + 1))))) ⊛ ‵ (flft α q₂)) ⊛ ‵ (flft α q₁)))
    (reach 𝓛 K₀ kept_words cv holds keeps p z q₁
    (sep 𝓤 (sem 𝓛 (seat_of 𝓛 K₀ kept_words cv holds keeps p z id v)) (sep 𝓤 (sem 𝓛 (Hs (busy q₂))) (sem 𝓛 Os)))
    (sep 𝓤 (sem 𝓛 (gone_on 𝓛 K₀ kept_words cv holds keeps p z id (so (Made (Ok (n + 1)))))) (sem 𝓛 (flft α q₂))) (publishes 𝓛 K₀ kept_words cv holds keeps p z id v n q₂ new many so (λ out w told. told.1) of asked.5 allowed)) $ await ! tt $ split ! $ split ! $
    -- [the seat; the two parts of the token; the fields; four; what it held; open; its token; the others]
    move ! (2 ∷ 1 ∷ []) $ use2 𝓛 (‵ (flft α s)) (𝓛.lfts.lft_join α s) $ move ! (8 ∷ 0 ∷ []) $ obor_close ! tt $ drop ! $
    move ! (1 ∷ []) $ fpick ! (λ v'. fsplit ! $ fpick ! (λ such. drop ! $
    use1 𝓛 (later (items (λ (st : ℕ × ℕ). ‵ (seat_owns cv.code z.views_name id v' st.0 st.1)))) (begins 𝓛 (coded_of cv) z.views_name id v') $ await ! tt $
    pick ! (λ st.
    let h' : Sr.Denot = record { marker = h.marker; base = z.views_name; id = id; view = v'.0.0; visit = v'.0.1; away = v'.1; stretch = st.0; mark = st.1 } in
    let Told : Type 0 = (z.views_name ≡ h.base) × (id ≡ id) × (v'.1 ≡ h.away) × g.then h.view (Make new.value many) (Made (Ok (n + 1))) v'.0.0 in
    -- [the seat; the token; the fields; four; what it held; its token; the others]
    move ! (2 ∷ 0 ∷ []) $ fjoin ! $ move ! (2 ∷ 0 ∷ 3 ∷ 4 ∷ 5 ∷ []) $ closes ! tt Sr h' ts b' o' $
    feq_i ! (List Val) vss.1.0 (vptr b' o' ∷ []) are.1.0.0 $ fjoin3 ! $
    nothing ! $ nothing ! $ fjoin ! $ nothing ! $ fjoin ! $ nothing ! $ fjoin ! $ nothing ! $ fjoin ! $ nothing ! $ fjoin ! $ move ! (1 ∷ 0 ∷ []) $
    fjoin ! $ nothing ! $ fjoin ! $
    -- [what is left; its token; the token; what it held; the others]
    move ! (1 ∷ 4 ∷ []) $ join ! $ move ! (2 ∷ 0 ∷ []) $ join ! $
    use0 𝓛 (raw (fact 𝓤 Told)) (fact_i 𝓤 Told (emp 𝓤) (sym asked.0, refl, such.1, such.0.0)) $ feq_i ! (List Val) (vunit ∷ []) (vunit ∷ []) refl $
    returns ! (look_at ! 0 refl) $ free_all ! refl $ keep ! (2 ∷ 3 ∷ 0 ∷ 1 ∷ []) $
    by ! (leaves 𝓛 En hs c y vunit tt (tt, (h', (tt, (tt, (tt, ((tt, tt), (tt, tt))))))) (tt, (tt, (tt, (tt, (tt, (tt, (tt, tt))))))))))))))))))))
