-- `errand` lends half of what it has of the borrow of the words on, and by the other half sends the seat on its way, for which nobody is lent.
use Rattle.std.specs.Prelude.{◌≢◌, None}
use Rattle.std.proofs.Common.{◌≡◌, ℕ, List, [], ◌∷◌, ◌++◌, sym, refl, ap, subst}
use mir.Syntax.{dcons, dnil, a_type}
use mir.MapTy.{inst_fn}
use mir.Val.{Val, vptr}
use prog.Wp.{WpFn}
use base.Share
use base.Logic.{SProp, ent, emp, id⊢}
use base.Fml.{Lft, Share, Fml, ftrue, fsep, flft, fhide}
use types.Kit.{‵, raw, ◌⊛◌, later, ◌$◌, ◌∵◌, !, qed, by, move, keep, drop, split, split3, join, fsplit, fsplit3, fjoin, fjoin3, group, suffices, use0, use1, use2, await, rewrite, feq_i, some as items, pick}
use types.Run.{of_opd, addr, stop, no_more, and_then, returns, enter}
use types.ByLocal.{alloc_all, pass_all, free_all, look_at, get, through, sets, lands_as, env}
use contract.BorrowLft.{◌⊑◌, ⊑_trans, meet_⊑_right}
use contract.Lifetimes.{Lfts, Shares}
use contract.Running.{tables}
use contract.Monad.{fact, fact_i}
use denote.Exit.{yes, no}
use denote.RattleType.{RattleType, owns}
use denote.Signature.{types_at, plain}
use denote.RawPtr.{Ptr}
use denote.Steps.{nothing, heard, only, peeks}
use denote.Opens.{unhide, shr_dup}
use denote.Memory.{hidden_shr}
use denote.Laws.{Is, shows}
use denote.Param.{param, bounded, layout}
use denote.Param.Laws.{Laws, param_laws}
use denote.Builtin.{RefOf}
use denote.SharingLaws.{contraction}
use denote.Struct.Tuple.{Tuple}
use denote.Struct.Lending.{lent_out}
use denote.Triple.Call.{calls_at}
use denote.Triple.Entry.{Args}
use denote.Triple.Clauses.{Ended, Lasts, lasts}
use denote.Triple.Spec.{triple_of}
use denote.Triple.Walked.{Stays, stay_dropped, stay_ref, walk_of, Goes-dropped, Goes-ref}
use Rattle.core.proofs.cell.Inside.{one}
use Rattle.std.specs.contracts.marker.PhantomData as marker
use Rattle.std.proofs.raw_atomic.Walks.{proved_at, leaves}
use Rattle.std.proofs.raw_atomic.Calls.{fm}
use Rattle.seize_seats.specs.contracts.kept.Kept as kept_of
use Rattle.seize_seats.specs.Plots.Pieces.{kept_words}
use Rattle.seize_seats.specs.Seats.Errands.{Aided, These}
use Rattle.seize_seats.specs.Seats.Owned.{BaseId, words_share}
use Rattle.seize_seats.proofs.Seats.Views.Shown.{words_laws}
use Rattle.seize_atoms.specs.Visiting.{HoldsSince, seat_coded}
use Rattle.seize_atoms.specs.contracts.words.StripWords as words
use Rattle.seize_atoms.specs.contracts.seat.Seat as seat
use Rattle.seize_atoms.proofs.Sending.{trip, gone, back, under_way, departs, at_home, arrives}
use Rattle.seize_atoms.proofs.Fields.{Data}
use Rattle.seize_atoms.proofs.words.StripWords.TheLaws.{the_row_laws as words_row_laws}
use Rattle.seize_atoms.specs.contracts.words.StripWords.sent as sent
use Rattle.seize_atoms.proofs.words.StripWords.sent.Met as sent_is
use Rattle.seize_atoms.specs.contracts.words.StripWords.errand.{ended, clauses}
use Rattle.seize_atoms.specs.contracts.words.StripWords.errand.Key.{name as #self}
use Rattle.seize_atoms.proofs.words.StripWords.errand.Statement.{statement}
use Rattle.seize_atoms.proofs.words.StripWords.errand.Code as code

pub errand_spec : {M : Type 1} → statement M
errand_spec 𝓤 𝓛 𝓜 𝓡 wired X P U F N Y LX LP LU LF LN LY g d g' d' met met' =
    let H = 𝓛.H in let 𝓣 = tables 𝓤 H 𝓜 𝓡 𝓡.env in let R₀ : RattleType = param 0 X in let K₀ : RattleType = kept_of.the_row R₀ in let R₁ : RattleType = param 1 P in
    let R₂ : RattleType = param 2 U in let R₃ : RattleType = param 3 F in let R₄ : RattleType = param 4 N in let R₅ : RattleType = param 5 Y in
    let En = ended X P U F N Y g d g' d' in let c = clauses X P U F N Y g d g' d' 𝓛 𝓜.mem 𝓡.returns in
    let inst = bounded (a_type ∷ a_type ∷ a_type ∷ a_type ∷ a_type ∷ a_type ∷ []) (X, (P, (U, (F, (N, (Y, tt)))))) (dcons d (dcons d' dnil)) in
    let fn = inst_fn inst code.function in
    let Row : RattleType = words.the_row R₀ R₁ R₂ R₃ g in let Sr : RattleType = seat.the_row R₀ R₁ R₂ R₃ g in let D : RattleType = Data R₀ R₁ R₂ R₃ g in
    let LW : Laws Row = words_row_laws R₀ R₁ R₂ R₃ g (param_laws 0 X LX) (param_laws 1 P LP) (param_laws 2 U LU) (param_laws 3 F LF) in
    let LN₀ = (param_laws 4 N LN).lawful 𝓛 in let LY₀ = (param_laws 5 Y LY).lawful 𝓛 in
    let self = RefOf (0 ∷ []) tt (plain (λ _. Row)) (λ _. tt) in let sitter = plain (λ _. Sr) in let task = plain (λ _. R₄) in
    let hs : Stays En.signature.params En.kept = (stay_dropped self yes, (stay_ref (1 ∷ []) tt sitter, (stay_dropped task no, tt))) in
    proved_at 𝓛 En hs c 𝓜 𝓡 (Goes-dropped 𝓛 8 self yes (λ κs x f. refl), (Goes-ref 𝓛 8 1 tt sitter, (Goes-dropped 𝓛 8 task no (λ κs x f. refl), tt)))
    (#self inst) fn (code.unfolded 𝓤 H 𝓜 𝓡 wired (X, (P, (U, (F, (N, (Y, tt)))))) d d') (λ y are.
    let κs = y.0.0 in let qs = y.0.1 in let bounds = y.0.2 in let a = y.0.3 in let vss = y.0.4 in let Post : Val → SProp 𝓤 = (walk_of 𝓛 En hs c).post y in
    let b : ℕ = a.0.ref_ptr.0 in let o : ℕ = a.0.ref_ptr.1 in let b' : ℕ = a.1.0.ref_ptr.0 in let o' : ℕ = a.1.0.ref_ptr.1 in let γ : ℕ = a.1.0.ghost_name in
    let κ : Lft = κs.0 in let κ₁ : Lft = κs.1.0 in let ql : Share = Share.left qs.0 in let qr : Share = Share.right qs.0 in
    let t : Row.Denot = a.0.now in let p : Ptr = t.words in let z : BaseId = t.id in let h : Sr.Denot = a.1.0.now in let e : N.Denot = a.1.1.0 in
    let id : ℕ = h.id in let cv = seat_coded R₂.coded in let holds = HoldsSince g.rests g.leans t.start (g.holds t.fixed) g.keeps in
    let rest : Fml = fsep (flft κs.1.1.1.1.0 qs.1.1.1.1.0) (fsep (flft κs.1.1.1.1.1.0 qs.1.1.1.1.1.0)
    (fsep (flft κs.1.1.1.1.1.1.0 qs.1.1.1.1.1.1.0) (fsep (flft κs.1.1.1.1.1.1.1.0 qs.1.1.1.1.1.1.1.0) ftrue))) in
    let others : Fml = fsep (flft κs.1.1.0 qs.1.1.0) (fsep (flft κs.1.1.1.0 qs.1.1.1.0) rest) in
    let Asked : Type 0 = (h.base ≡ z.views_name) × (h.away ≡ None) × g'.asks e h.base h.view
    × ((r : Y.Denot) (w : U.Denot) → g'.did e h.view r w → g.rests w) in
    let got = one (layout N) vss.1.1.0 (LN₀.typed e vss.1.1.0 are.1.1.0) in let ve : Val = got.0 in
    let us : List Val = vptr b o ∷ vptr b' o' ∷ ve ∷ [] in let Run : List Val → SProp 𝓤 = λ ws. WpFn 𝓤 H 𝓣.C 𝓣.Λ fn ws Post in
    let Ws : Fml = words_share K₀ kept_words cv holds p z κ in let lent : Aided = These [] in
    let I₂ : Type 0 = κs.1.1.0 ⊑ X.lives in let I₃ : Type 0 = κs.1.1.1.0 ⊑ P.lives in let I₄ : Type 0 = κs.1.1.1.1.0 ⊑ U.lives in
    let I₅ : Type 0 = κs.1.1.1.1.1.0 ⊑ F.lives in let I₆ : Type 0 = κs.1.1.1.1.1.1.0 ⊑ N.lives in let I₇ : Type 0 = κs.1.1.1.1.1.1.1.0 ⊑ Y.lives in
    qed 𝓛 (((‵ (flft κs.0 qs.0) ⊛ ‵ (flft κ₁ qs.1.0) ⊛ ‵ others) ⊛ ‵ (owns (types_at En.signature.params κs) a vss)) ∷ raw (fact 𝓤 I₂) ∷ raw (fact 𝓤 I₃) ∷
    raw (fact 𝓤 I₄) ∷ raw (fact 𝓤 I₅) ∷ raw (fact 𝓤 I₆) ∷ raw (fact 𝓤 I₇) ∷ raw (fact 𝓤 Asked) ∷ []) ∵
    move ! (1 ∷ 2 ∷ 3 ∷ 4 ∷ 5 ∷ 6 ∷ 7 ∷ []) $ heard ! I₂ (λ i₂. heard ! I₃ (λ i₃. heard ! I₄ (λ i₄. heard ! I₅ (λ i₅. heard ! I₆ (λ i₆. heard ! I₇ (λ i₇. heard ! Asked (λ asked.
    split ! $ split3 ! $ move ! (3 ∷ []) $ fsplit3 ! $ fsplit ! $ move ! (3 ∷ []) $ fsplit ! $ move ! (4 ∷ []) $ fsplit3 ! $
    -- [self; its token; the seat, by two; its token; the errand; the others]
    keep ! (6 ∷ 7 ∷ 1 ∷ 2 ∷ 8 ∷ 3 ∷ 9 ∷ []) $ move ! (5 ∷ []) $ rewrite ! 0 (λ (ws : List Val). ‵ (R₄.own_val e ws)) got.1 refl $ move ! (1 ∷ 2 ∷ 3 ∷ 4 ∷ 5 ∷ 0 ∷ 6 ∷ []) $
    suffices ! (Run us) (subst (λ (ws : List Val). ent 𝓤 (Run us) (Run ws)) (sym (λ i. are.0.0 i ++ (are.1.0.0 i ++ (got.1 i ++ [])))) (id⊢ 𝓤 (Run us))) $
    enter ! 𝓣.C 𝓣.Λ fn us Post $ alloc_all ! (λ l. pass_all ! refl ((tt, tt), ((tt, tt), (got.2, tt))) $ let Ev = env fn.locals l in
    shr_dup ! Row LW.shr_laws t b o κ $ use1 𝓛 (‵ (hidden_shr D κ (p, (tt, tt)) b o) ⊛ ‵ (fhide Ws))
    (lent_out 𝓛 (words.struct R₀ R₁ R₂ R₃ g)
    (words.the_codes X.Denot P.Denot U.Denot F.Denot R₀.coded R₁.coded R₂.coded R₃.coded (marker.the_row (Tuple (R₀ ∷ R₁ ∷
    []))).coded) (words.the_heap R₀ R₁ R₂ R₃ g) (words.the_lent R₀ R₁ R₂ R₃ g) κ t b o) $
    split ! $ drop ! $ unhide ! $ use1 𝓛 (‵ Ws ⊛ ‵ Ws) (contraction 𝓛 (words_share K₀ kept_words cv holds p z) (words_laws K₀ kept_words cv holds p z) κ) $ split ! $
    -- [what the words share, twice; self; its token; the seat, by two; its token; the errand; the others]
    move ! (3 ∷ []) $ use1 𝓛 (‵ (flft κ ql) ⊛ ‵ (flft κ qr)) (𝓛.lfts.lft_split κ qs.0) $ split ! $
    nothing ! $ move ! (3 ∷ 1 ∷ 6 ∷ 7 ∷ 8 ∷ 0 ∷ []) $ group ! 6 $
    use1 𝓛 (under_way 𝓛 R₀ R₁ R₂ R₃ g t κ ql κ₁ qs.1.0 γ b' o' lent h)
    (departs 𝓛 R₀ R₁ R₂ R₃ g t κ ql κ₁ qs.1.0 γ b' o' lent h asked.0 asked.1) $ await ! tt $ pick ! (λ x. split3 ! $ move ! (2 ∷ []) $ split3 ! $
    let β : Lft = trip 𝓛 R₀ R₁ R₂ R₃ g t κ ql κ₁ qs.1.0 γ b' o' lent x in let h₁ : Sr.Denot = gone 𝓛 R₀ R₁ R₂ R₃ g t κ ql κ₁ qs.1.0 γ b' o' lent h x in
    let δ : ℕ = x.name in
    let κs' : Lfts 8 = (κ, (β, κs.1.1)) in let qs' : Shares 8 = (qr, (x.token, qs.1.1)) in
    let a' : Args (sent.signature X P U F N Y g d g' d') κs' = (a.0, (record { ref_ptr = (b', o'); ghost_name = δ; now = h₁ }, (e, tt))) in
    let in₂ = ⊑_trans β κ₁ κs.1.1.0 (meet_⊑_right (x.atom ∷ []) κ₁) bounds.1.1.0 in let in₃ = ⊑_trans β κ₁ κs.1.1.1.0 (meet_⊑_right (x.atom ∷ []) κ₁) bounds.1.1.1.0 in
    let Se : Ended = sent.ended X P U F N Y g d g' d' in
    let G = triple_of 𝓛 (sent.signature X P U F N Y g d g' d') (sent.spec X P U F N Y g d g' d' 𝓛 𝓜.mem 𝓡.returns) in
    let y' : G.Ghost = ((κs', qs', (bounds.0, (bounds.1.0, (in₂, (in₃, tt)))), a', (vptr b o ∷ [], (vptr b' o' ∷ [], (ve ∷ [], tt)))), tt) in
    let Asked' : Type 0 = (h₁.away ≢ None) × g'.asks e z.views_name h.view in
    -- [the new token; how it ends; the pledge; the loan; what its lender has; self's token; what the words share; self; the errand; the others]
    move ! (3 ∷ 4 ∷ 0 ∷ 1 ∷ 2 ∷ []) $
    nothing ! $ move ! (9 ∷ 0 ∷ []) $ fjoin ! $ move ! (1 ∷ 0 ∷ []) $ fjoin ! $ move ! (7 ∷ []) $ feq_i ! (List Val) (vptr b o ∷ []) (vptr b o ∷ []) refl $ fjoin ! $ fjoin ! $
    move ! (2 ∷ 7 ∷ []) $ join ! $ move ! (5 ∷ 0 ∷ []) $ join ! $ join ! $
    use0 𝓛 (raw (fact 𝓤 Asked')) (fact_i 𝓤 Asked' (emp 𝓤) ((λ none. absurd (cc none)), subst (λ (k : ℕ). g'.asks e k h.view) asked.0 asked.2)) $
    use0 𝓛 (raw (fact 𝓤 I₇)) (fact_i 𝓤 I₇ (emp 𝓤) i₇) $ join ! $ use0 𝓛 (raw (fact 𝓤 I₆)) (fact_i 𝓤 I₆ (emp 𝓤) i₆) $ join ! $
    use0 𝓛 (raw (fact 𝓤 I₅)) (fact_i 𝓤 I₅ (emp 𝓤) i₅) $ join ! $ use0 𝓛 (raw (fact 𝓤 I₄)) (fact_i 𝓤 I₄ (emp 𝓤) i₄) $ join ! $
    use0 𝓛 (raw (fact 𝓤 I₃)) (fact_i 𝓤 I₃ (emp 𝓤) i₃) $ join ! $ use0 𝓛 (raw (fact 𝓤 I₂)) (fact_i 𝓤 I₂ (emp 𝓤) i₂) $ join ! $ move ! (1 ∷ 0 ∷ []) $ join ! $
    use1 𝓛 (raw (G.pre y')) (id⊢ 𝓤 (G.pre y')) $
    -- [what it asks for; what the lender has; how the new token ends; the pledge; what the words share]
    sets ! (addr ! (through ! refl (stop !))) refl (tt, tt) $ sets ! (of_opd ! (get ! refl)) refl got.2 $
    calls_at ! (fm 𝓛 𝓜 𝓡) G (sent_is.met 𝓤 𝓛 𝓜 𝓡 (code.calls-seize_atoms::words::StripWords::sent 𝓡.env wired) X P U F N Y LX LP LU LF LN LY g d g' d' met met') y'
    (and_then ! (get ! refl) (and_then ! (get ! refl) (and_then ! (get ! refl) (no_more !)))) (λ w.
    let Did : Y.Denot → Sr.Denot → Type 0 = λ r u. (u.base ≡ h₁.base) × (u.id ≡ h₁.id) × (u.away ≡ h₁.away) × g'.did e h₁.view r u.view in
    use1 𝓛 (later (items (λ (r : Y.Denot). ((‵ (flft κ qr) ⊛ ‵ (flft β x.token) ⊛ ‵ others) ⊛ ‵ (R₅.own_val r (w ∷ [])))
    ⊛ items (λ (ws : Lasts Se κs' a'). ‵ (lasts Se κs' a' ws) ⊛ raw (fact 𝓤 (Did r ws.1.0)))))) (id⊢ 𝓤 (G.post y' w)) $
    await ! tt $ pick ! (λ r. split ! $ split ! $ move ! (2 ∷ []) $ pick ! (λ ws. let h₂ : Sr.Denot = ws.1.0 in split ! $ move ! (1 ∷ []) $ heard ! (Did r h₂) (λ did.
    -- [what is left; the tokens; the answer; what the lender has; how the new token ends; the pledge; what the words share]
    fsplit ! $ drop ! $ fsplit ! $ fsplit ! $ move ! (3 ∷ []) $ split3 ! $
    -- [self's token; the new one; the others; the last value; its borrow; nothing; the answer; what the lender has; how the new token ends; the pledge; ..]
    move ! (10 ∷ 9 ∷ 1 ∷ 8 ∷ 7 ∷ 3 ∷ []) $ group ! 6 $
    use1 𝓛 (at_home 𝓛 R₀ R₁ R₂ R₃ g t κ ql κ₁ qs.1.0 γ b' o' lent h x h₂ did.0 did.1 did.2 (asked.3 r h₂.view did.3))
    (arrives 𝓛 R₀ R₁ R₂ R₃ g t κ ql κ₁ qs.1.0 γ b' o' lent h x h₂ did.0 did.1 did.2 (asked.3 r h₂.view did.3)) $ await ! tt $ pick ! (λ su. split3 ! $
    move ! (2 ∷ []) $ split3 ! $ let h₃ : Sr.Denot = back 𝓛 R₀ R₁ R₂ R₃ g t κ ql κ₁ qs.1.0 γ b' o' lent h₂ id su in
    -- [the seat's token; half of self's; nothing; the seat, by two; the other half; the others; the borrow; nothing; the answer]
    move ! (2 ∷ []) $ drop ! $ move ! (1 ∷ 4 ∷ []) $ use2 𝓛 (‵ (flft κ qs.0)) (𝓛.lfts.lft_join κ qs.0) $
    move ! (1 ∷ 4 ∷ []) $ join ! $ move ! (1 ∷ 0 ∷ []) $ join ! $
    -- [the tokens; the seat, by two; the borrow; nothing; the answer]
    move ! (5 ∷ []) $ peeks ! R₅ (Is R₅) (shows 𝓛 R₅) r (w ∷ []) (λ is. let ret = one (layout Y) (w ∷ []) (LY₀.typed r (w ∷ []) is) in
    rewrite ! 0 (λ (ws : List Val). ‵ (R₅.own_val r ws)) ret.1 refl $ lands_as ! (ap only ret.1) refl ret.2 $
    move ! (2 ∷ 3 ∷ []) $ feq_i ! (List Val) vss.1.0 (vptr b' o' ∷ []) are.1.0.0 $ fjoin3 ! $
    -- [the seat; the answer; the tokens; ..]
    nothing ! $ nothing ! $ fjoin ! $ move ! (1 ∷ 0 ∷ []) $ fjoin ! $ nothing ! $ fjoin ! $
    let Told : Type 0 = (z.views_name ≡ h.base) × (id ≡ id) × (h₃.away ≡ None) × g'.did e h.view r h₂.view in
    use0 𝓛 (raw (fact 𝓤 Told)) (fact_i 𝓤 Told (emp 𝓤) (sym asked.0, refl, refl, did.3)) $
    returns ! (look_at ! 0 refl) $ free_all ! refl $ keep ! (3 ∷ 1 ∷ 2 ∷ 0 ∷ []) $
    by ! (leaves 𝓛 En hs c y ret.0 r (tt, (h₃, (tt, tt))) (tt, (tt, (tt, tt))))))))))))))))))))
