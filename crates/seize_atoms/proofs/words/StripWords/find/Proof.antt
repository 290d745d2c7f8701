-- `find` loads a door behind which there is a strip, since it has the number of a block that three views show.
use Rattle.seize_atoms.specs.Visiting.{Seen, HoldsSince, keeps_here, seat_coded}
use Rattle.seize_seats.specs.Seats.Errands.{coded_of}
use Rattle.seize_atoms.proofs.Allowed.{shown_all_here}
use Rattle.std.proofs.Common.{◌≡◌, ℕ, List, [], ◌∷◌, ◌+◌, ◌-◌, ◌*◌, ◌^◌, ◌<◌, ◌≤◌, sym, refl, ◌∙◌, subst, w64, arith}
use mir.Syntax.{dcons, dnil, a_type, named}
use mir.MapTy.{inst_fn}
use mir.Val.{Val, vint, vptr}
use prog.Wp.{WpFn}
use base.Logic.{SProp, ent, emp, via, id⊢}
use base.Fml.{Lft, Fml, ftrue, fsep, flft, fhide}
use types.Kit.{‵, raw, ◌⊛◌, given, mean, at_ret, ◌$◌, ◌∵◌, !, qed, by, move, keep, drop, split, split3, join, fsplit, fsplit3, fjoin, fpick, fpack, learn, suffices, rewrite, use0, use1, use3}
use types.Run.{lit, of_opd, bin, no_more, and_then, first, blocks, exec, Calls-last, returns, enter}
use types.ByLocal.{alloc_all, pass_all, free_all, look_at, get, sets, env, lands_last}
use types.Part.{agg}
use types.Tokens.{shr_bor-open, obor_close}
use types.Within.{tokens_halve}
use contract.Running.{tables}
use contract.Monad.{fact, fact_i}
use denote.Exit.{yes}
use denote.RattleType.{RattleType, owns}
use denote.Signature.{types_at, plain}
use denote.RawPtr.{Ptr, InBlock, block_ptr, block_of, count_of, at_block, ptr_val, rawptr_vals, rawptr_Tells}
use denote.Steps.{nothing, heard}
use denote.Opens.{unhide}
use denote.Memory.{hidden_shr}
use denote.Param.{param, bounded}
use denote.Builtin.{RefOf, RawPtr, u64}
use denote.Plain.{uint_vals, uint_Tells}
use denote.Ref.{shr_vals, shr_Tells}
use denote.Struct.Tuple.{Tuple}
use denote.Struct.Lending.{lent_out}
use denote.Triple.Walked.{Stays, stay_dropped, walk_of, Goes-dropped}
use Rattle.core.proofs.atomic.Steps.{tail, Ptr-Good}
use Rattle.std.specs.contracts.marker.PhantomData as marker
use Rattle.std.proofs.raw_atomic.Walks.{proved, leaves}
use Rattle.std.proofs.raw_atomic.Calls.{fm, seq_cst}
use Rattle.std.proofs.raw_atomic.PtrCalls.{found, finds, loads, seq_cst_good}
use Rattle.seize_seats.specs.Seats.Doors.{before}
use Rattle.seize_seats.specs.Seats.Owned.{BaseId, IsPlaced, age, core_of, common, stride, strip_known, words_share}
use Rattle.seize_seats.proofs.Seats.Views.Shown.{placed, told_there}
use Rattle.seize_seats.specs.Seats.Lendings.{VisibleToThree}
use Rattle.seize_seats.specs.Seats.Stretches.{seat_shares}
use Rattle.seize_seats.proofs.Seats.Views.Ledgers.{view_halves}
use Rattle.seize_seats.proofs.Seats.Growing.Looks.{at_door, tells_strip}
use Rattle.seize_seats.proofs.Seats.Growing.Finds.{met, finds as finds_strip}
use Rattle.seize_atoms.specs.contracts.words.StripWords as words
use Rattle.seize_atoms.specs.contracts.seat.Seat as seat
use Rattle.seize_atoms.specs.contracts.strip.Strip as strip
use Rattle.seize_atoms.proofs.Fields.{word_laws, hand_good, Data, Token, StripData, strip_made}
use Rattle.seize_atoms.specs.contracts.words.StripWords.find.{ended, clauses}
use Rattle.seize_atoms.specs.contracts.words.StripWords.find.Key.{name as #self}
use Rattle.seize_atoms.proofs.words.StripWords.find.Statement.{statement}
use Rattle.seize_atoms.proofs.words.StripWords.find.Code as code
use Rattle.seize_seats.specs.contracts.kept.Kept as kept_of
use Rattle.seize_seats.specs.Plots.Pieces.{kept_words}
use Rattle.seize_words.proofs.OneMemory.Stored.{hand_of}

pub find_spec : {M : Type 1} → statement M
find_spec 𝓤 𝓛 𝓜 𝓡 wired X P U F LX LP LU LF g d _ =
    let H = 𝓛.H in let 𝓣 = tables 𝓤 H 𝓜 𝓡 𝓡.env in let R₀ : RattleType = param 0 X in let K₀ : RattleType = kept_of.the_row R₀ in let R₁ : RattleType = param 1 P in let R₂ : RattleType = param 2 U in
    let R₃ : RattleType = param 3 F in
    let En = ended X P U F g d in let c = clauses X P U F g d 𝓛 𝓜.mem 𝓡.returns in
    let inst = bounded (a_type ∷ a_type ∷ a_type ∷ a_type ∷ []) (X, (P, (U, (F, tt)))) (dcons d dnil) in let fn = inst_fn inst code.function in
    let Row : RattleType = words.the_row R₀ R₁ R₂ R₃ g in let St : RattleType = strip.the_row R₀ in let D : RattleType = Data R₀ R₁ R₂ R₃ g in
    let Sr : RattleType = seat.the_row R₀ R₁ R₂ R₃ g in let Ds : RattleType = Token R₀ R₁ R₂ R₃ g in
    let self = RefOf (0 ∷ []) tt (plain (λ _. Row)) (λ _. tt) in let one = RefOf (1 ∷ []) tt (plain (λ _. Sr)) (λ _. tt) in
    let other = RefOf (2 ∷ []) tt (plain (λ _. Sr)) (λ _. tt) in let last = RefOf (3 ∷ []) tt (plain (λ _. Sr)) (λ _. tt) in let addr = plain (λ _. RawPtr) in let num = plain (λ _. u64) in
    let hs : Stays En.signature.params En.kept = (stay_dropped self yes, (stay_dropped one yes, (stay_dropped other yes, (stay_dropped last yes, (stay_dropped num yes, (stay_dropped addr yes, (stay_dropped num yes, tt))))))) in
    proved 𝓛 En hs c 𝓜 𝓡 (Goes-dropped 𝓛 8 self yes (λ κs x f. refl), (Goes-dropped 𝓛 8 one yes (λ κs x f. refl), (Goes-dropped 𝓛 8 other yes (λ κs x f. refl), (Goes-dropped 𝓛 8 last yes (λ κs x f. refl), (Goes-dropped 𝓛 8 num yes (λ κs x f. refl), (Goes-dropped 𝓛 8 addr yes (λ κs x f. refl), (Goes-dropped 𝓛 8 num yes (λ κs x f. refl), tt)))))))
    (#self inst) fn (code.unfolded 𝓤 H 𝓜 𝓡 wired (X, (P, (U, (F, tt)))) d)
    (λ κs. (shr_vals, (shr_vals, (shr_vals, (shr_vals, (uint_vals w64, (rawptr_vals, (uint_vals w64, tt))))))))
    (λ κs. (shr_Tells (named 0) κs.0 Row, (shr_Tells (named 1) κs.1.0 Sr, (shr_Tells (named 2) κs.1.1.0 Sr, (shr_Tells (named 3) κs.1.1.1.0 Sr, (uint_Tells w64, (rawptr_Tells, (uint_Tells w64, tt)))))))) (λ κs qs bounds a gh are.
    let b : ℕ = a.0.ref_ptr.0 in let o : ℕ = a.0.ref_ptr.1 in let b₁ : ℕ = a.1.0.ref_ptr.0 in let o₁ : ℕ = a.1.0.ref_ptr.1 in
    let b₂ : ℕ = a.1.1.0.ref_ptr.0 in let o₂ : ℕ = a.1.1.0.ref_ptr.1 in let b₃ : ℕ = a.1.1.1.0.ref_ptr.0 in let o₃ : ℕ = a.1.1.1.0.ref_ptr.1 in
    let κ : Lft = κs.0 in let κ₁ : Lft = κs.1.0 in let κ₂ : Lft = κs.1.1.0 in let κ₃ : Lft = κs.1.1.1.0 in
    let t : Row.Denot = a.0.now in let p : Ptr = t.words in let z : BaseId = t.id in let r₁ : Sr.Denot = a.1.0.now in let h : Sr.Denot = a.1.1.0.now in let k : Sr.Denot = a.1.1.1.0.now in
    let nr : ℕ = a.1.1.1.1.0 in let pd : Ptr = a.1.1.1.1.1.0 in let j : ℕ = a.1.1.1.1.1.1.0 in let v₁ : Seen U.Denot = ((r₁.view, r₁.visit), r₁.away) in
    let cv = seat_coded R₂.coded in let α : Lft = age z in let rule = g.holds t.fixed in let holds = HoldsSince g.rests g.leans t.start rule g.keeps in let keeps = keeps_here g.keeps in
    let db : ℕ = block_of z.doors in let d₀ : ℕ = count_of z.doors in let e : ℕ = j * 8 + d₀ in let p' : Ptr = block_ptr db d₀ in
    let others : Fml = fsep (flft κs.1.1.1.1.0 qs.1.1.1.1.0) (fsep (flft κs.1.1.1.1.1.0 qs.1.1.1.1.1.0) (fsep (flft κs.1.1.1.1.1.1.0 qs.1.1.1.1.1.1.0)
    (fsep (flft κs.1.1.1.1.1.1.1.0 qs.1.1.1.1.1.1.1.0) ftrue))) in
    let Asked : Type 0 = (r₁.base ≡ z.views_name) × (h.base ≡ z.views_name) × (k.base ≡ z.views_name) × (pd ≡ z.doors) × (j < 32) × (z.place ≡ 0) × (z.size ≡ z.least)
    × (0 < nr → z.least * 2 ^ j ≤ nr - 1) × VisibleToThree rule r₁.id r₁.view h.id h.view k.id k.view nr in
    let us : Ptr → List Val = λ r. vptr b o ∷ vptr b₁ o₁ ∷ vptr b₂ o₂ ∷ vptr b₃ o₃ ∷ vint w64 nr ∷ ptr_val r ∷ vint w64 j ∷ [] in
    let y : (walk_of 𝓛 En hs c).Ghost = ((κs, qs, bounds, a, (vptr b o ∷ [], (vptr b₁ o₁ ∷ [], (vptr b₂ o₂ ∷ [], (vptr b₃ o₃ ∷ [], (vint w64 nr ∷ [], (ptr_val pd ∷ [], (vint w64 j ∷ [], tt)))))))), gh) in
    let Post : Val → SProp 𝓤 = (walk_of 𝓛 En hs c).post y in let Run : List Val → SProp 𝓤 = λ ws. WpFn 𝓤 H 𝓣.C 𝓣.Λ fn ws Post in
    qed 𝓛 (((‵ (flft κs.0 qs.0) ⊛ ‵ (flft κs.1.0 qs.1.0) ⊛ ‵ (flft κs.1.1.0 qs.1.1.0) ⊛ ‵ (flft κs.1.1.1.0 qs.1.1.1.0) ⊛ ‵ others) ⊛ ‵ (owns (types_at En.signature.params κs) a y.0.4)) ∷ raw (fact 𝓤 _) ∷ raw (fact 𝓤 _) ∷ raw (fact 𝓤 _) ∷
    raw (fact 𝓤 _) ∷ raw (fact 𝓤 Asked) ∷ []) ∵
    keep ! (5 ∷ 0 ∷ []) $ heard ! Asked (λ asked. split ! $ split3 ! $ move ! (2 ∷ []) $ split3 ! $ move ! (5 ∷ 3 ∷ 4 ∷ 0 ∷ 1 ∷ 2 ∷ []) $
    fsplit3 ! $ fsplit ! $ move ! (2 ∷ []) $ fsplit ! $ move ! (4 ∷ []) $ fsplit3 ! $ fsplit ! $ move ! (2 ∷ []) $ fsplit ! $
    -- [self; the one; the guard; the owner; the four tokens; the others]
    keep ! (8 ∷ 6 ∷ 3 ∷ 1 ∷ 9 ∷ 10 ∷ 11 ∷ 12 ∷ 13 ∷ []) $
    use1 𝓛 (‵ (hidden_shr D κ (p, (tt, tt)) b o) ⊛ ‵ (fhide (words_share K₀ kept_words cv holds p z κ)))
    (lent_out 𝓛 (words.struct R₀ R₁ R₂ R₃ g)
    (words.the_codes X.Denot P.Denot U.Denot F.Denot R₀.coded R₁.coded R₂.coded R₃.coded (marker.the_row (Tuple (R₀ ∷ R₁ ∷
    []))).coded) (words.the_heap R₀ R₁ R₂ R₃ g) (words.the_lent R₀ R₁ R₂ R₃ g) κ t b o) $
    split ! $ drop ! $ unhide ! $ fsplit ! $ move ! (1 ∷ []) $
    use1 𝓛 (given (IsPlaced K₀ p z) (‵ (common K₀ kept_words cv holds p z))) (placed K₀ kept_words cv holds p z 𝓛) $ learn ! (λ there. fsplit ! $ drop ! $
    -- [the invariant; its lifetime lasts; the one; the guard; the owner; the four tokens; the others]
    move ! (2 ∷ []) $ use1 𝓛 (‵ (hidden_shr Ds κ₁ (tt, tt) b₁ o₁) ⊛ ‵ (fhide (seat_shares cv.code r₁.base r₁.id v₁ r₁.stretch r₁.mark κ₁)))
    (lent_out 𝓛 (seat.struct R₀ R₁ R₂ R₃ g)
    (seat.the_codes X.Denot P.Denot U.Denot F.Denot R₀.coded R₁.coded R₂.coded R₃.coded (marker.the_row (Tuple (R₀ ∷ R₁ ∷
    []))).coded) (seat.the_heap R₀ R₁ R₂ R₃ g) (seat.the_lent R₀ R₁ R₂ R₃ g) κ₁ r₁ b₁ o₁) $
    split ! $ drop ! $ unhide ! $ rewrite ! 0 (λ (u : ℕ). ‵ (seat_shares cv.code u r₁.id v₁ r₁.stretch r₁.mark κ₁)) asked.0 refl $
    fsplit ! $ drop ! $ fsplit ! $ move ! (1 ∷ []) $ drop ! $
    move ! (3 ∷ []) $ use1 𝓛 (‵ (hidden_shr Ds κ₂ (tt, tt) b₂ o₂) ⊛ ‵ (fhide (seat_shares cv.code h.base h.id ((h.view, h.visit), h.away) h.stretch h.mark κ₂)))
    (lent_out 𝓛 (seat.struct R₀ R₁ R₂ R₃ g)
    (seat.the_codes X.Denot P.Denot U.Denot F.Denot R₀.coded R₁.coded R₂.coded R₃.coded (marker.the_row (Tuple (R₀ ∷ R₁ ∷
    []))).coded) (seat.the_heap R₀ R₁ R₂ R₃ g) (seat.the_lent R₀ R₁ R₂ R₃ g) κ₂ h b₂ o₂) $
    split ! $ drop ! $ unhide ! $ rewrite ! 0 (λ (u : ℕ). ‵ (seat_shares cv.code u h.id ((h.view, h.visit), h.away) h.stretch h.mark κ₂)) asked.1 refl $
    fsplit ! $ drop ! $ fsplit ! $ move ! (1 ∷ []) $ drop ! $
    move ! (4 ∷ []) $ use1 𝓛 (‵ (hidden_shr Ds κ₃ (tt, tt) b₃ o₃) ⊛ ‵ (fhide (seat_shares cv.code k.base k.id ((k.view, k.visit), k.away) k.stretch k.mark κ₃)))
    (lent_out 𝓛 (seat.struct R₀ R₁ R₂ R₃ g)
    (seat.the_codes X.Denot P.Denot U.Denot F.Denot R₀.coded R₁.coded R₂.coded R₃.coded (marker.the_row (Tuple (R₀ ∷ R₁ ∷
    []))).coded) (seat.the_heap R₀ R₁ R₂ R₃ g) (seat.the_lent R₀ R₁ R₂ R₃ g) κ₃ k b₃ o₃) $
    split ! $ drop ! $ unhide ! $ rewrite ! 0 (λ (u : ℕ). ‵ (seat_shares cv.code u k.id ((k.view, k.visit), k.away) k.stretch k.mark κ₃)) asked.2 refl $
    fsplit ! $ drop ! $ fsplit ! $ move ! (1 ∷ []) $ drop ! $
    -- [the owner's view; the guard's; the one's; the invariant; its lifetime lasts; the four tokens; the others]
    let at_d : pd ≡ p' = asked.3 ∙ at_block z.doors there.4 in let few = asked.4 in let small : j * 8 < 2 ^ 64 = omega (arith, few) in
    suffices ! (Run (us p')) (subst (λ (r : Ptr). ent 𝓤 (Run (us p')) (Run (us r))) (sym at_d) (id⊢ 𝓤 (Run (us p')))) $
    enter ! 𝓣.C 𝓣.Λ fn (us p') Post $ alloc_all ! (λ l. pass_all ! refl ((tt, tt), ((tt, tt), ((tt, tt), ((tt, tt), ((tt, record { fits = are.1.1.1.1.0.1 }), (Ptr-Good p', ((tt, record { fits = are.1.1.1.1.1.1.0.1 }), tt))))))) $
    let Ev = env fn.locals l in
    let all = shown_all_here g.rests g.leans g.upright rule g.keeps t.start r₁.id r₁.view r₁.visit r₁.away h.id h.view h.visit h.away k.id k.view k.visit k.away nr asked.8 in
    move ! (2 ∷ 6 ∷ []) $ shr_bor-open ! tt (view_halves 𝓛 (coded_of cv) z.views_name r₁.id v₁) (λ f₀.
    move ! (3 ∷ 7 ∷ []) $ shr_bor-open ! tt (view_halves 𝓛 (coded_of cv) z.views_name h.id ((h.view, h.visit), h.away)) (λ f.
    move ! (4 ∷ 8 ∷ []) $ shr_bor-open ! tt (view_halves 𝓛 (coded_of cv) z.views_name k.id ((k.view, k.visit), k.away)) (λ f'.
    move ! (7 ∷ 8 ∷ []) $ shr_bor-open ! tt (tokens_halve 𝓛 α) (λ s.
    let out : Ptr → Fml = λ r. fsep (flft α s) (met 𝓛 K₀ kept_words cv holds keeps p z asked.5 asked.6 s j e asked.4 refl r₁.id v₁ h.id ((h.view, h.visit), h.away) k.id ((k.view, k.visit), k.away) nr all asked.7 f₀ f f' r) in
    -- [open; the token; the owner's, open; its view; the guard's, open; its view; the one's, open; its view; the invariant; the others]
    move ! (5 ∷ 3 ∷ []) $ fjoin ! $ move ! (6 ∷ 0 ∷ []) $ fjoin ! $ move ! (6 ∷ 2 ∷ 0 ∷ []) $
    first ! $ blocks ! $ sets ! (of_opd ! (get ! refl)) refl (tt, record { fits = are.1.1.1.1.1.1.0.1 }) $
    sets ! (bin ! (get ! refl) (lit ! tt) (record { fits = small })) refl (tt, record { fits = small }) $
    sets ! (bin ! (get ! refl) (get ! refl) tt) refl (tt, tt) $
    use3 𝓛 (raw (𝓣.C _ (vptr db e ∷ seq_cst ∷ []) (λ u. mean 𝓛 (found 𝓛 out u))))
    (via 𝓤 _ (finds_strip 𝓛 K₀ kept_words cv holds keeps p z asked.5 asked.6 s j e asked.4 refl r₁.id v₁ h.id ((h.view, h.visit), h.away) k.id ((k.view, k.visit), k.away) nr all asked.7 f₀ f f')
    (loads 𝓛 𝓜 𝓡 (code.calls-core::raw_atomic::ptr::load 𝓡.env wired) u64 word_laws (block_ptr db e) out)) $
    sets ! (agg ! (and_then ! (lit ! tt) (no_more !))) refl seq_cst_good $
    Calls-last ! (fm 𝓛 𝓜 𝓡) (found 𝓛 out) (and_then ! (get ! refl) (and_then ! (get ! refl) (no_more !))) (λ u. finds ! out (λ w.
    lands_last ! refl (Ptr-Good w) $ exec ! 𝓣.C 𝓣.Λ Ev (tail fn.body) (at_ret Ev Post) $
    sets ! (of_opd ! (get ! refl)) refl (Ptr-Good w) $ sets ! (agg ! (no_more !)) refl (tt, tt) $
    sets ! (agg ! (and_then ! (get ! refl) (and_then ! (get ! refl) (no_more !)))) refl (hand_good w) $
    fsplit ! $ move ! (2 ∷ 0 ∷ []) $ obor_close ! tt $ drop ! $ move ! (1 ∷ []) $ fsplit ! $ fpick ! (λ found_one. drop ! $ fsplit ! $ move ! (1 ∷ []) $ fsplit3 ! $
    -- [the one's view; the guard's; the owner's; what is told; the token; the owner's, open; the guard's, open; the one's, open; the others]
    move ! (7 ∷ 0 ∷ []) $ obor_close ! tt $ drop ! $ move ! (6 ∷ 1 ∷ []) $ obor_close ! tt $ drop ! $ move ! (5 ∷ 2 ∷ []) $ obor_close ! tt $ drop ! $ move ! (3 ∷ []) $
    let y' : BaseId = at_door 𝓛 K₀ kept_words cv holds p z s j e asked.4 refl w in let r : St.Denot = record { words = w; marker = record {}; id = y' } in
    let n : ℕ = z.least * 2 ^ j in
    let Told : Type 0 = (core_of y' ≡ core_of z) × (before K₀ n ≡ before K₀ n) × (w ≡ w)
    × (n ≡ n) × (n ≡ n) × InBlock w × ((before K₀ n + n * 5) * 8 < 2 ^ 63) × (n * stride K₀ < 2 ^ 63) in
    -- [what is told; the four tokens, last first; the others]
    use1 𝓛 (‵ (strip_known K₀ w y')) (tells_strip 𝓛 K₀ kept_words cv holds p z s j e asked.4 refl there.4 w) $
    rewrite ! 0 (λ (f₁ : Fml). ‵ f₁) (told_there K₀ w y' found_one) refl $ fsplit ! $ fpick ! (λ lies. drop ! $
    nothing ! $ fpack ! (IsPlaced K₀ w y') (λ _. ftrue) lies $ fjoin ! $ rewrite ! 0 (λ (f₁ : Fml). ‵ f₁) (sym (told_there K₀ w y' found_one)) refl $
    nothing ! $ move ! (1 ∷ 0 ∷ []) $ fjoin ! $ use0 𝓛 (‵ ((StripData R₀).own_val (w, (tt, tt)) (hand_of w ∷ []))) (strip_made 𝓛 R₀ w) $ fjoin ! $
    nothing ! $ nothing ! $ fjoin ! $ nothing ! $ fjoin ! $ nothing ! $ fjoin ! $ nothing ! $ fjoin ! $ nothing ! $ fjoin ! $ nothing ! $ fjoin ! $ nothing ! $ fjoin ! $
    move ! (2 ∷ 6 ∷ []) $ join ! $ move ! (3 ∷ 0 ∷ []) $ join ! $ move ! (3 ∷ 0 ∷ []) $ join ! $ move ! (3 ∷ 0 ∷ []) $ join ! $
    use0 𝓛 (raw (fact 𝓤 Told)) (fact_i 𝓤 Told (emp 𝓤) (refl, refl, refl, refl, refl, found_one, lies.1, lies.3)) $
    returns ! (look_at ! 0 refl) $ free_all ! refl $ keep ! (1 ∷ 2 ∷ 3 ∷ 0 ∷ []) $
    by ! (leaves 𝓛 En hs c y (hand_of w) r (tt, (tt, (tt, (tt, (tt, (tt, (tt, tt))))))) (tt, (tt, (tt, (tt, (tt, (tt, (tt, tt))))))))))))))))))))
