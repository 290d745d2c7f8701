-- `refuse` opens the invariant once, and takes no step of the machine.
use Rattle.seize_atoms.specs.Visiting.{Seen, HoldsSince, keeps_here, seat_coded}
use Rattle.seize_seats.specs.Seats.Errands.{coded_of, then_away}
use Rattle.seize_atoms.proofs.Allowed.{make_allowed}
use Rattle.seize_seats.specs.Seats.Visits.{then_kept}
use Rattle.std.proofs.Common.{◌≡◌, ℕ, List, [], ◌∷◌, sym, refl, w64, arith}
use mir.Syntax.{dcons, dnil, a_type, named}
use mir.MapTy.{inst_fn}
use mir.Val.{Val, vint, vptr, vunit}
use base.Logic.{SProp, emp}
use base.Fml.{Lft, Fml, ftrue, fsep, flft, fhide}
use types.Kit.{‵, raw, ◌⊛◌, later, ◌$◌, ◌∵◌, !, qed, by, move, keep, drop, split, split3, join, fsplit, fsplit3, fjoin, fjoin3, fpick, use0, use1, use3, await, rewrite, feq_i, some as items, pick}
use types.Run.{of_opd, unit_lit, returns, enter}
use types.ByLocal.{alloc_all, pass_all, free_all, look_at, sets, env}
use contract.Running.{tables}
use contract.Monad.{fact, fact_i}
use denote.Exit.{yes}
use denote.RattleType.{RattleType, owns}
use denote.Signature.{types_at, plain}
use denote.RawPtr.{Ptr, null_ptr}
use denote.Steps.{nothing, heard, opens, closes}
use denote.Opens.{unhide}
use denote.Memory.{hidden_shr}
use denote.Param.{param, bounded}
use denote.Builtin.{RefOf, u64}
use denote.Plain.{uint_vals, uint_Tells}
use denote.Ref.{shr_vals, shr_Tells, mut_vals, mut_Tells}
use denote.Struct.Tuple.{Tuple}
use denote.Struct.Lending.{lent_out}
use denote.Triple.Walked.{Stays, stay_dropped, stay_ref, walk_of, Goes-dropped, Goes-ref}
use Rattle.std.specs.contracts.marker.PhantomData as marker
use Rattle.std.proofs.raw_atomic.Walks.{proved, leaves}
use Rattle.std.specs.Prelude.{Err}
use Rattle.seize_words.specs.OneMemory.Op.{Out, Make, Made}
use Rattle.seize_seats.specs.Seats.State.{Allows}
use Rattle.seize_seats.specs.Seats.Owned.{BaseId, words_share}
use Rattle.seize_seats.proofs.Seats.Stepping.Moves.{refuses, gone_on, seat as seat_of}
use Rattle.seize_atoms.specs.contracts.words.StripWords as words
use Rattle.seize_atoms.specs.contracts.seat.Seat as seat
use Rattle.seize_seats.specs.contracts.kept.Kept as kept_of
use Rattle.seize_seats.specs.Plots.Pieces.{kept_words, value_of}
use Rattle.seize_atoms.proofs.Fields.{Data}
use Rattle.seize_atoms.specs.contracts.words.StripWords.refuse.{ended, clauses}
use Rattle.seize_atoms.specs.contracts.words.StripWords.refuse.Key.{name as #self}
use Rattle.seize_atoms.proofs.words.StripWords.refuse.Statement.{statement}
use Rattle.seize_atoms.proofs.words.StripWords.refuse.Code as code
use Rattle.seize_seats.specs.Seats.Stretches.{seat_owns}
use Rattle.seize_seats.proofs.Seats.Views.Stretches.{ends, begins}

pub refuse_spec : {M : Type 1} → statement M
refuse_spec 𝓤 𝓛 𝓜 𝓡 wired X P U F LX LP LU LF g d _ =
    let H = 𝓛.H in let 𝓣 = tables 𝓤 H 𝓜 𝓡 𝓡.env in let R₀ : RattleType = param 0 X in let K₀ : RattleType = kept_of.the_row R₀ in let R₁ : RattleType = param 1 P in let R₂ : RattleType = param 2 U in
    let R₃ : RattleType = param 3 F in
    let En = ended X P U F g d in let c = clauses X P U F g d 𝓛 𝓜.mem 𝓡.returns in
    let inst = bounded (a_type ∷ a_type ∷ a_type ∷ a_type ∷ []) (X, (P, (U, (F, tt)))) (dcons d dnil) in let fn = inst_fn inst code.function in
    let Row : RattleType = words.the_row R₀ R₁ R₂ R₃ g in let Sr : RattleType = seat.the_row R₀ R₁ R₂ R₃ g in let D : RattleType = Data R₀ R₁ R₂ R₃ g in
    let self = RefOf (0 ∷ []) tt (plain (λ _. Row)) (λ _. tt) in let sitter = plain (λ _. Sr) in
    let back = RefOf (2 ∷ []) tt (plain (λ _. R₀)) (λ _. tt) in let num = plain (λ _. u64) in
    let hs : Stays En.signature.params En.kept = (stay_dropped self yes, (stay_ref (1 ∷ []) tt sitter, (stay_dropped back yes, (stay_dropped num yes, tt)))) in
    proved 𝓛 En hs c 𝓜 𝓡 (
      Goes-dropped 𝓛 7 self yes (λ κs x f. refl),
      (
        Goes-ref 𝓛 7 1 tt sitter,
        (
          Goes-dropped 𝓛 7 back yes (λ κs x f. refl),
          (
            Goes-dropped 𝓛 7 num yes (λ κs x f. refl),
            tt,
          ),
        ),
      ),
    )
    (#self inst) fn (code.unfolded 𝓤 H 𝓜 𝓡 wired (X, (P, (U, (F, tt)))) d)
    (λ κs. (shr_vals, (mut_vals, (shr_vals, (uint_vals w64, tt))))) (λ κs. (
      shr_Tells (named 0) κs.0 Row,
      (
        mut_Tells (named 1) κs.1.0 Sr,
        (
          shr_Tells (named 2) κs.1.1.0 R₀,
          (uint_Tells w64, tt),
        ),
      ),
    )) (λ κs qs bounds a gh are.
    let b : ℕ = a.0.ref_ptr.0 in let o : ℕ = a.0.ref_ptr.1 in let b' : ℕ = a.1.0.ref_ptr.0 in let o' : ℕ = a.1.0.ref_ptr.1 in let κ : Lft = κs.0 in
    let t : Row.Denot = a.0.now in let p : Ptr = t.words in let z : BaseId = t.id in let h : Sr.Denot = a.1.0.now in
    let id : ℕ = h.id in let v : Seen U.Denot = ((h.view, h.visit), h.away) in let cv = seat_coded R₂.coded in let rule = g.holds t.fixed in let holds = HoldsSince g.rests g.leans t.start rule g.keeps in let keeps = keeps_here g.keeps in let b₂ : ℕ = a.1.1.0.ref_ptr.0 in
    let o₂ : ℕ = a.1.1.0.ref_ptr.1 in
    let x : X.Denot = a.1.1.0.now in let count : ℕ = a.1.1.1.0 in
    let so : Out K₀.Denot → Seen U.Denot → Type 0 = then_away h.away (then_kept value_of h.visit (g.then h.view (Make x count))) in
    let kept : K₀.Denot = record { value = x; at = null_ptr; count = 0; beside = (refl, omega arith) } in let out : Out K₀.Denot = Made (Err kept) in
    let others : Fml = fsep (flft κs.1.1.0 qs.1.1.0) (fsep (flft κs.1.1.1.0 qs.1.1.1.0) (fsep (flft κs.1.1.1.1.0 qs.1.1.1.1.0)
    (fsep (flft κs.1.1.1.1.1.0 qs.1.1.1.1.1.0) (fsep (flft κs.1.1.1.1.1.1.0 qs.1.1.1.1.1.1.0) ftrue)))) in
    let Asked : Type 0 = (h.base ≡ z.views_name) × Allows rule g.keeps id h.view (Make x count) (g.then h.view (Make x count)) in
    let y : (walk_of 𝓛 En hs c).Ghost = ((κs, qs, bounds, a, (vptr b o ∷ [], (vptr b' o' ∷ [], (vptr b₂ o₂ ∷ [], (vint w64 count ∷ [], tt))))), gh) in
    let Post : Val → SProp 𝓤 = (walk_of 𝓛 En hs c).post y in
    qed 𝓛 (((‵ (flft κs.0 qs.0) ⊛ ‵ (flft κs.1.0 qs.1.0) ⊛ ‵ others) ⊛ ‵ (owns (types_at En.signature.params κs) a y.0.4)) ∷ raw (fact 𝓤 _) ∷
    raw (fact 𝓤 _) ∷ raw (fact 𝓤 _) ∷ raw (fact 𝓤 _) ∷ raw (fact 𝓤 Asked) ∷ []) ∵
    keep ! (5 ∷ 0 ∷ []) $ heard ! Asked (λ asked. split ! $ split3 ! $ move ! (3 ∷ []) $ fsplit3 ! $ fsplit ! $ move ! (2 ∷ []) $ fsplit3 ! $
    keep ! (4 ∷ 6 ∷ 1 ∷ 2 ∷ 7 ∷ 8 ∷ []) $
    enter ! 𝓣.C 𝓣.Λ fn (vptr b o ∷ vptr b' o' ∷ vptr b₂ o₂ ∷ vint w64 count ∷ []) Post $
    alloc_all ! (λ l. pass_all ! refl ((tt, tt), ((tt, tt), ((tt, tt), ((tt, record { fits = are.1.1.1.0.1 }), tt)))) $ let Ev = env fn.locals l in
    use1 𝓛 (‵ (hidden_shr D κ (p, (tt, tt)) b o) ⊛ ‵ (fhide (words_share K₀ kept_words cv holds p z κ)))
    (lent_out 𝓛 (words.struct R₀ R₁ R₂ R₃ g)
    (words.the_codes X.Denot P.Denot U.Denot F.Denot R₀.coded R₁.coded R₂.coded R₃.coded (marker.the_row (Tuple (R₀ ∷ R₁ ∷
    []))).coded) (words.the_heap R₀ R₁ R₂ R₃ g) (words.the_lent R₀ R₁ R₂ R₃ g) κ t b o) $
    split ! $ drop ! $ unhide ! $ move ! (2 ∷ 3 ∷ 4 ∷ []) $ opens ! tt Sr b' o' (λ ts. move ! (1 ∷ []) $ fsplit ! $
    rewrite ! 1 (λ (u : ℕ). ‵ (seat_owns cv.code u id v h.stretch h.mark)) asked.0 refl $ move ! (1 ∷ []) $
    use1 𝓛 (later (‵ (seat_of 𝓛 K₀ kept_words cv holds keeps p z id v))) (ends 𝓛 (coded_of cv) z.views_name id v h.stretch h.mark) $ await ! tt $ move ! (1 ∷ 0 ∷ []) $
    -- [the seat's fields; the seat; four of it; what the words share; the token; the others]
    move ! (6 ∷ 7 ∷ 1 ∷ []) $ use3 𝓛 (later (‵ (gone_on 𝓛 K₀ kept_words cv holds keeps p z id (so out)) ⊛
    ‵ (flft κ qs.0))) (refuses 𝓛 K₀ kept_words cv holds keeps p z κ qs.0 id v kept count so (λ out w told. told.1) (make_allowed g.rests g.leans g.upright rule g.keeps t.start g.then g.resting_stay g.leaning_stay id h.view h.visit h.away kept count asked.1)) $
    await ! tt $ split ! $ fpick ! (λ v'. fsplit ! $ fpick ! (λ such. drop ! $
    use1 𝓛 (later (items (λ (st : ℕ × ℕ). ‵ (seat_owns cv.code z.views_name id v' st.0 st.1)))) (begins 𝓛 (coded_of cv) z.views_name id v') $ await ! tt $
    pick ! (λ st.
    let h' : Sr.Denot = record { marker = h.marker; base = z.views_name; id = id; view = v'.0.0; visit = v'.0.1; away = v'.1; stretch = st.0; mark = st.1 } in
    let Told : Type 0 = (z.views_name ≡ h.base) × (id ≡ id) × (v'.1 ≡ h.away) × g.then h.view (Make x count) (Made (Err x)) v'.0.0 in
    move ! (2 ∷ 0 ∷ []) $ fjoin ! $ move ! (2 ∷ 0 ∷ 3 ∷ 4 ∷ 5 ∷ []) $ closes ! tt Sr h' ts b' o' $
    feq_i ! (List Val) (vptr b' o' ∷ []) (vptr b' o' ∷ []) refl $ fjoin3 ! $
    nothing ! $ nothing ! $ fjoin ! $ nothing ! $ fjoin ! $ move ! (1 ∷ 0 ∷ []) $ fjoin ! $ nothing ! $ fjoin ! $ move ! (1 ∷ 3 ∷ []) $ join ! $
    move ! (2 ∷ 0 ∷ []) $ join ! $
    sets ! (of_opd ! (unit_lit !)) refl (tt, tt) $ feq_i ! (List Val) (vunit ∷ []) (vunit ∷ []) refl $
    use0 𝓛 (raw (fact 𝓤 Told)) (fact_i 𝓤 Told (emp 𝓤) (sym asked.0, refl, such.1, such.0.0)) $
    returns ! (look_at ! 0 refl) $ free_all ! refl $ keep ! (2 ∷ 3 ∷ 1 ∷ 0 ∷ []) $
    by ! (leaves 𝓛 En hs c y vunit tt (tt, (h', (tt, (tt, tt)))) (tt, (tt, (tt, (tt, tt))))))))))))
