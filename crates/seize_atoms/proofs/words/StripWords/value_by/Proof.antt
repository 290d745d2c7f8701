-- `value_by` lends the value of a block as `value` does, by what a third seat knows now: a seat comes to bear witness of that, and stays with the lending.
use Rattle.seize_atoms.specs.Visiting.{Seen, HoldsSince, keeps_here, seat_coded}
use Rattle.seize_atoms.proofs.Allowed.{bears_witness, testifies_here, shown_by_here, value_by_here}
use Rattle.std.proofs.Common.{◌≡◌, ℕ, List, [], ◌∷◌, ◌+◌, ◌-◌, ◌*◌, ◌^◌, ◌<◌, sym, refl, ap, ◌∙◌, subst, w64, arith, Some}
use mir.Syntax.{dcons, dnil, a_type, named}
use mir.MapTy.{inst_fn}
use mir.Val.{Val, vint, vptr}
use prog.Wp.{WpFn}
use base.Logic.{SProp, ent, emp, id⊢}
use base.Fml.{Lft, Fml, ftrue, fsep, flft, fhide, fbor, fshr_bor}
use types.Kit.{‵, raw, ◌⊛◌, some as items, given, later, at_ret, ◌$◌, ◌∵◌, !, qed, by, move, keep, drop, split, split3, join, fsplit, group, fsplit3, fjoin, pick, learn, use0, use1, await, suffices, rewrite, feq_i}
use types.Run.{stop, addr, of_opd, bin, size_word, first, blocks, exec, returns, enter}
use types.ByLocal.{alloc_all, pass_all, free_all, look_at, get, through, sets, sets_last, is, env}
use contract.Running.{tables}
use contract.Monad.{fact, fact_i}
use denote.Exit.{yes}
use denote.RattleType.{RattleType, owns}
use denote.Signature.{types_at, plain}
use denote.RawPtr.{Ptr, InBlock, block_ptr, block_of, count_of, at_block, ptr_val, rawptr_vals, rawptr_Tells}
use denote.Plain.{uint_vals, uint_Tells}
use denote.Ref.{shr_vals, shr_Tells}
use denote.Steps.{nothing, heard}
use denote.Opens.{unhide}
use denote.Memory.{hidden_shr, shared_of}
use denote.Param.{param, bounded}
use denote.Param.Laws.{Laws, param_laws}
use denote.Builtin.{RefOf, RawPtr, u64}
use denote.Struct.Struct.{Struct}
use denote.Struct.Owning.{shape}
use denote.Struct.Tuple.{Tuple}
use denote.Struct.Lending.{lent_out}
use denote.Triple.Walked.{Stays, stay_dropped, walk_of, Goes-dropped}
use Rattle.core.proofs.atomic.Steps.{tail, Ptr-Good}
use Rattle.core.proofs.option.Option.TheLaws.{the_row_laws as option_laws}
use Rattle.core.specs.contracts.option.Option.{the_row as OptionOf}
use Rattle.std.specs.contracts.marker.PhantomData as marker
use Rattle.std.proofs.raw_atomic.Walks.{proved, leaves}
use Rattle.seize_seats.specs.Seats.State.{KeptByTwo, AreThere, Comes}
use Rattle.seize_seats.specs.Seats.Errands.{coded_of}
use Rattle.seize_seats.specs.Seats.Lendings.{Holder, IsValueBy}
use types.Tokens.{shr_bor-open, obor_close}
use Rattle.seize_seats.specs.Seats.Owned.{Core, BaseId, core_of, IsPlaced, common, everything, strip_known, stride, words_share}
use Rattle.seize_seats.specs.Seats.Stretches.{IsEven, invariant, seat_shares}
use Rattle.seize_seats.proofs.Seats.Views.Shown.{placed, told_there}
use Rattle.seize_seats.proofs.Seats.Blocks.Testifying.{By, So, lent_by}
use Rattle.seize_seats.proofs.Seats.Views.Ledgers.{view_halves}
use Rattle.seize_atoms.specs.Placed.{IsItsIndex}
use Rattle.seize_atoms.specs.contracts.words.StripWords as words
use Rattle.seize_atoms.specs.contracts.seat.Seat as seat
use Rattle.seize_atoms.specs.contracts.strip.Strip as strip
use Rattle.seize_atoms.proofs.Fields.{Data, Token}
use Rattle.seize_seats.proofs.Seats.Places.Values.{uncapped, indexed}
use Rattle.seize_atoms.specs.contracts.words.StripWords.value_by.{ended, clauses}
use Rattle.seize_atoms.specs.contracts.words.StripWords.value_by.Key.{name as #self}
use Rattle.seize_atoms.proofs.words.StripWords.value_by.Statement.{statement}
use Rattle.seize_atoms.proofs.words.StripWords.value_by.Code as code
use Rattle.seize_seats.specs.contracts.kept.Kept as kept_of
use Rattle.seize_seats.proofs.kept.Kept.TheLaws.{the_row_laws as kept_laws}
use Rattle.seize_seats.specs.Plots.Pieces.{kept_words}

pub value_by_spec : {M : Type 1} → statement M
value_by_spec 𝓤 𝓛 𝓜 𝓡 wired X P U F LX LP LU LF g d _ =
    let H = 𝓛.H in let 𝓣 = tables 𝓤 H 𝓜 𝓡 𝓡.env in let R₀ : RattleType = param 0 X in let K₀ : RattleType = kept_of.the_row R₀ in let R₁ : RattleType = param 1 P in let R₂ : RattleType = param 2 U in
    let R₃ : RattleType = param 3 F in
    let En = ended X P U F g d in let c = clauses X P U F g d 𝓛 𝓜.mem 𝓡.returns in
    let inst = bounded (a_type ∷ a_type ∷ a_type ∷ a_type ∷ []) (X, (P, (U, (F, tt)))) (dcons d dnil) in let fn = inst_fn inst code.function in
    let Row : RattleType = words.the_row R₀ R₁ R₂ R₃ g in let Sr : RattleType = seat.the_row R₀ R₁ R₂ R₃ g in let D : RattleType = Data R₀ R₁ R₂ R₃ g in
    let Ds : RattleType = Token R₀ R₁ R₂ R₃ g in let Dst : RattleType = Struct (shape (strip.the_type R₀)) in let O : RattleType = OptionOf K₀ in let LO : Laws O = option_laws K₀ (kept_laws R₀ (param_laws 0 X LX)) in
    let St : RattleType = strip.the_row R₀ in let other = RefOf (1 ∷ []) tt (plain (λ _. St)) (λ _. tt) in let shows = RefOf (2 ∷ []) tt (plain (λ _. Sr)) (λ _. tt) in
    let self = RefOf (0 ∷ []) tt (plain (λ _. Row)) (λ _. tt) in let sitter = RefOf (0 ∷ []) tt (plain (λ _. Sr)) (λ _. tt) in let num = plain (λ _. u64) in
    let hs : Stays En.signature.params En.kept = (stay_dropped self yes, (stay_dropped other yes, (stay_dropped shows yes, (stay_dropped sitter yes, (stay_dropped sitter yes, (stay_dropped num yes, (stay_dropped num yes, (stay_dropped (plain (λ _. RawPtr)) yes, tt)))))))) in
    proved 𝓛 En hs c 𝓜 𝓡 (Goes-dropped 𝓛 7 self yes (λ κs x f. refl), (Goes-dropped 𝓛 7 other yes (λ κs x f. refl), (Goes-dropped 𝓛 7 shows yes (λ κs x f. refl), (Goes-dropped 𝓛 7 sitter yes (λ κs x f. refl), (Goes-dropped 𝓛 7 sitter yes (λ κs x f. refl), (Goes-dropped 𝓛 7 num yes (λ κs x f. refl), (Goes-dropped 𝓛 7 num yes (λ κs x f. refl), (Goes-dropped 𝓛 7 (plain (λ _. RawPtr)) yes (λ κs x f. refl), tt))))))))
    (#self inst) fn (code.unfolded 𝓤 H 𝓜 𝓡 wired (X, (P, (U, (F, tt)))) d)
    (λ κs. (shr_vals, (shr_vals, (shr_vals, (shr_vals, (shr_vals, (uint_vals w64, (uint_vals w64, (rawptr_vals, tt)))))))))
    (λ κs. (shr_Tells (named 0) κs.0 Row, (shr_Tells (named 1) κs.1.0 St, (shr_Tells (named 2) κs.1.1.0 Sr, (shr_Tells (named 0) κs.0 Sr, (shr_Tells (named 0) κs.0 Sr, (uint_Tells w64, (uint_Tells w64, (rawptr_Tells, tt))))))))) (λ κs qs bounds a gh are.
    let b : ℕ = a.0.ref_ptr.0 in let o : ℕ = a.0.ref_ptr.1 in let b₁ : ℕ = a.1.0.ref_ptr.0 in let o₁ : ℕ = a.1.0.ref_ptr.1 in
    let b₃ : ℕ = a.1.1.0.ref_ptr.0 in let o₃ : ℕ = a.1.1.0.ref_ptr.1 in
    let b' : ℕ = a.1.1.1.0.ref_ptr.0 in let o' : ℕ = a.1.1.1.0.ref_ptr.1 in let b₂ : ℕ = a.1.1.1.1.0.ref_ptr.0 in let o₂ : ℕ = a.1.1.1.1.0.ref_ptr.1 in
    let κ : Lft = κs.0 in let κ₁ : Lft = κs.1.0 in let κ₂ : Lft = κs.1.1.0 in
    let t : Row.Denot = a.0.now in let p₀ : Ptr = t.words in let z₀ : BaseId = t.id in let s : St.Denot = a.1.0.now in let p : Ptr = s.words in let z : BaseId = s.id in
    let q : Sr.Denot = a.1.1.0.now in let h : Sr.Denot = a.1.1.1.0.now in let k : Sr.Denot = a.1.1.1.1.0.now in
    let nr : ℕ = a.1.1.1.1.1.0 in let j : ℕ = a.1.1.1.1.1.1.0 in let pv : Ptr = a.1.1.1.1.1.1.1.0 in let vq : Seen U.Denot = ((q.view, q.visit), q.away) in
    let hg : Holder (Seen U.Denot) = record { seat = h.id; view = ((h.view, h.visit), h.away); stretch = h.stretch; mark = h.mark } in
    let ho : Holder (Seen U.Denot) = record { seat = k.id; view = ((k.view, k.visit), k.away); stretch = k.stretch; mark = k.mark } in let cv = seat_coded R₂.coded in let rule = g.holds t.fixed in let holds = HoldsSince g.rests g.leans t.start rule g.keeps in let keeps = keeps_here g.keeps in
    let bv : ℕ = block_of pv in let ov : ℕ = count_of pv in let sz : ℕ = stride K₀ in let e : ℕ = j * sz + ov in
    let others : Fml = fsep (flft κs.1.1.1.0 qs.1.1.1.0) (fsep (flft κs.1.1.1.1.0 qs.1.1.1.1.0) (fsep (flft κs.1.1.1.1.1.0 qs.1.1.1.1.1.0) (fsep (flft κs.1.1.1.1.1.1.0 qs.1.1.1.1.1.1.0) ftrue))) in
    let Asked : Type 0 = (core_of z ≡ core_of z₀) × InBlock p × (q.base ≡ z₀.views_name) × (h.base ≡ z₀.views_name) × (k.base ≡ z₀.views_name) × IsItsIndex z nr j
    × (pv ≡ z.values) × KeptByTwo rule g.keeps q.id q.view h.id h.view k.id k.view nr × AreThere rule g.keeps × Comes rule g.keeps (g.newcomer t.fixed) in
    let Inv : Core → Fml = λ k. invariant IsEven (fbor (k.atom ∷ []) (everything K₀ kept_words cv holds k)) in
    let Last : Core → Fml = λ k. fshr_bor κ (λ u. flft (k.atom ∷ []) u) in
    let y : (walk_of 𝓛 En hs c).Ghost = ((κs, qs, bounds, a, (vptr b o ∷ [], (vptr b₁ o₁ ∷ [], (vptr b₃ o₃ ∷ [], (vptr b' o' ∷ [], (vptr b₂ o₂ ∷ [], (vint w64 nr ∷ [], (vint w64 j ∷ [], (ptr_val pv ∷ [], tt))))))))), gh) in
    let Post : Val → SProp 𝓤 = (walk_of 𝓛 En hs c).post y in
    qed 𝓛 (((‵ (flft κs.0 qs.0) ⊛ ‵ (flft κs.1.0 qs.1.0) ⊛ ‵ (flft κs.1.1.0 qs.1.1.0) ⊛ ‵ others) ⊛ ‵ (owns (types_at En.signature.params κs) a y.0.4)) ∷ raw (fact 𝓤 _) ∷
    raw (fact 𝓤 _) ∷ raw (fact 𝓤 _) ∷ raw (fact 𝓤 _) ∷ raw (fact 𝓤 Asked) ∷ []) ∵
    keep ! (5 ∷ 0 ∷ []) $ heard ! Asked (λ asked.
    let name = sym (ap (λ (k : Core). k.views_name) asked.0) in let of_pass : q.base ≡ z.views_name = asked.2 ∙ name in
    let of_guard : h.base ≡ z.views_name = asked.3 ∙ name in let of_owner : k.base ≡ z.views_name = asked.4 ∙ name in
    split ! $ split3 ! $ move ! (2 ∷ []) $ split ! $ move ! (4 ∷ 2 ∷ 3 ∷ 0 ∷ 1 ∷ []) $ fsplit3 ! $ fsplit ! $ move ! (2 ∷ []) $ fsplit ! $
    move ! (4 ∷ []) $ fsplit3 ! $ fsplit ! $ move ! (2 ∷ []) $ fsplit ! $ move ! (4 ∷ []) $ fsplit ! $ fsplit ! $
    -- [self; the strip; the guard; the owner; the token; the third seat; its token; the strip's; the others]
    keep ! (10 ∷ 8 ∷ 4 ∷ 1 ∷ 11 ∷ 6 ∷ 13 ∷ 12 ∷ 14 ∷ []) $
    let p' : Ptr = block_ptr bv ov in let us : Ptr → List Val = λ r. vptr b o ∷ vptr b₁ o₁ ∷ vptr b₃ o₃ ∷ vptr b' o' ∷ vptr b₂ o₂ ∷ vint w64 nr ∷ vint w64 j ∷ ptr_val r ∷ [] in
    let Run : List Val → SProp 𝓤 = λ ws. WpFn 𝓤 H 𝓣.C 𝓣.Λ fn ws Post in
    use1 𝓛 (‵ (hidden_shr D κ (p₀, (tt, tt)) b o) ⊛ ‵ (fhide (words_share K₀ kept_words cv holds p₀ z₀ κ)))
    (lent_out 𝓛 (words.struct R₀ R₁ R₂ R₃ g)
    (words.the_codes X.Denot P.Denot U.Denot F.Denot R₀.coded R₁.coded R₂.coded R₃.coded (marker.the_row (Tuple (R₀ ∷ R₁ ∷
    []))).coded) (words.the_heap R₀ R₁ R₂ R₃ g) (words.the_lent R₀ R₁ R₂ R₃ g) κ t b o) $
    split ! $ drop ! $ unhide ! $ fsplit ! $ move ! (1 ∷ []) $ fsplit ! $ drop ! $ fsplit ! $ drop ! $
    -- [the invariant; its lifetime lasts; the strip; the guard; the owner; the token; the others]
    rewrite ! 0 (λ (k : Core). ‵ (Inv k)) (sym asked.0) refl $ rewrite ! 1 (λ (k : Core). ‵ (Last k)) (sym asked.0) refl $ move ! (2 ∷ []) $
    use1 𝓛 (‵ (hidden_shr Dst κ₁ (p, (tt, tt)) b₁ o₁) ⊛ ‵ (fhide (strip_known K₀ p z)))
    (lent_out 𝓛 (strip.struct R₀) (strip.the_codes X.Denot R₀.coded (marker.the_row R₀).coded) (strip.the_heap R₀) (strip.the_lent R₀) κ₁ s b₁ o₁) $
    split ! $ drop ! $ unhide ! $ rewrite ! 0 (λ (f : Fml). ‵ f) (told_there K₀ p z asked.1) refl $
    fsplit ! $ move ! (1 ∷ 2 ∷ []) $ fjoin ! $ move ! (1 ∷ 0 ∷ []) $ fjoin ! $
    use1 𝓛 (given (IsPlaced K₀ p z) (‵ (common K₀ kept_words cv holds p z))) (placed K₀ kept_words cv holds p z 𝓛) $ learn ! (λ there. move ! (1 ∷ 0 ∷ []) $ fjoin ! $
    move ! (1 ∷ []) $
    use1 𝓛 (‵ (hidden_shr Ds κ (tt, tt) b' o') ⊛ ‵ (fhide (seat_shares cv.code h.base h.id ((h.view, h.visit), h.away) h.stretch h.mark κ)))
    (lent_out 𝓛 (seat.struct R₀ R₁ R₂ R₃ g)
    (seat.the_codes X.Denot P.Denot U.Denot F.Denot R₀.coded R₁.coded R₂.coded R₃.coded (marker.the_row (Tuple (R₀ ∷ R₁ ∷
    []))).coded) (seat.the_heap R₀ R₁ R₂ R₃ g) (seat.the_lent R₀ R₁ R₂ R₃ g) κ h b' o') $
    split ! $ drop ! $ unhide ! $ rewrite ! 0 (λ (u : ℕ). ‵ (seat_shares cv.code u h.id ((h.view, h.visit), h.away) h.stretch h.mark κ)) of_guard refl $
    move ! (2 ∷ []) $
    use1 𝓛 (‵ (hidden_shr Ds κ (tt, tt) b₂ o₂) ⊛ ‵ (fhide (seat_shares cv.code k.base k.id ((k.view, k.visit), k.away) k.stretch k.mark κ)))
    (lent_out 𝓛 (seat.struct R₀ R₁ R₂ R₃ g)
    (seat.the_codes X.Denot P.Denot U.Denot F.Denot R₀.coded R₁.coded R₂.coded R₃.coded (marker.the_row (Tuple (R₀ ∷ R₁ ∷
    []))).coded) (seat.the_heap R₀ R₁ R₂ R₃ g) (seat.the_lent R₀ R₁ R₂ R₃ g) κ k b₂ o₂) $
    split ! $ drop ! $ unhide ! $ rewrite ! 0 (λ (u : ℕ). ‵ (seat_shares cv.code u k.id ((k.view, k.visit), k.away) k.stretch k.mark κ)) of_owner refl $
    let at_v : pv ≡ p' = at_block pv (subst InBlock (sym asked.6) there.2) in
    suffices ! (Run (us p')) (subst (λ (r : Ptr). ent 𝓤 (Run (us p')) (Run (us r))) (sym at_v) (id⊢ 𝓤 (Run (us p')))) $
    enter ! 𝓣.C 𝓣.Λ fn (us p') Post $
    alloc_all ! (λ l. pass_all ! refl ((tt, tt), ((tt, tt), ((tt, tt), ((tt, tt), ((tt, tt), ((tt, record { fits = are.1.1.1.1.1.0.1 }), ((tt, record { fits = are.1.1.1.1.1.1.0.1 }), (Ptr-Good p', tt)))))))) $
    let Ev = env fn.locals l in
    -- [the owner; the guard; the words; the token; the third seat; its token; the strip's; the others]
    move ! (4 ∷ []) $ use1 𝓛 (‵ (hidden_shr Ds κ₂ (tt, tt) b₃ o₃) ⊛ ‵ (fhide (seat_shares cv.code q.base q.id vq q.stretch q.mark κ₂)))
    (lent_out 𝓛 (seat.struct R₀ R₁ R₂ R₃ g)
    (seat.the_codes X.Denot P.Denot U.Denot F.Denot R₀.coded R₁.coded R₂.coded R₃.coded (marker.the_row (Tuple (R₀ ∷ R₁ ∷
    []))).coded) (seat.the_heap R₀ R₁ R₂ R₃ g) (seat.the_lent R₀ R₁ R₂ R₃ g) κ₂ q b₃ o₃) $
    split ! $ drop ! $ unhide ! $ rewrite ! 0 (λ (u : ℕ). ‵ (seat_shares cv.code u q.id vq q.stretch q.mark κ₂)) of_pass refl $
    fsplit ! $ drop ! $ fsplit ! $ move ! (1 ∷ []) $ drop ! $
    move ! (0 ∷ 5 ∷ []) $ shr_bor-open ! tt (view_halves 𝓛 (coded_of cv) z.views_name q.id vq) (λ r.
    -- [open; a share of what it knows; the owner; the guard; the words; the token; the strip's; the others]
    move ! (4 ∷ 3 ∷ 2 ∷ 5 ∷ 1 ∷ []) $ group ! 5 $
    let d : ℕ = nr - 1 - z.first in let here : ℕ = d * sz + count_of z.values in let mine = asked.5.0 in let new : U.Denot = g.newcomer t.fixed in
    let x₀ : Seen U.Denot = bears_witness g.rests g.leans g.upright rule g.keeps t.start q.id q.view q.visit q.away h.id h.view h.visit h.away k.id k.view k.visit k.away nr new in
    let law = testifies_here g.rests g.leans g.upright rule g.keeps t.start q.id q.view q.visit q.away h.id h.view h.visit h.away k.id k.view k.visit k.away nr new (g.newcomers_rest t.fixed) asked.9 asked.7 in
    let shown = shown_by_here g.rests g.leans g.upright rule g.keeps t.start q.id q.view q.visit q.away h.id h.view h.visit h.away k.id k.view k.visit k.away nr new asked.8 in
    use1 𝓛 (later (items (λ (x : K₀.Denot). given (So 𝓛 K₀ LO.shr_laws kept_words cv holds keeps p z q.id vq hg ho x₀ refl law nr shown mine κ x)
    (‵ (shared_of O (Some x) (block_of z.values) here κ))) ⊛ ‵ (flft κ qs.0) ⊛ ‵ (By 𝓛 K₀ LO.shr_laws kept_words cv holds keeps p z q.id vq hg ho x₀ refl law r)))
    (lent_by 𝓛 K₀ LO.shr_laws kept_words cv holds keeps p z q.id vq hg ho x₀ refl law nr shown mine κ qs.0 r) $ await ! tt $ split3 ! $
    -- [the value; the token; the share; open; the strip's token; the others]
    move ! (3 ∷ 2 ∷ []) $ obor_close ! tt $ drop ! $ move ! (1 ∷ []) $ pick ! (λ x. learn ! (λ so.
    let few = so.2 in let low = so.1 in let high = few.1 in let low_is = few.0 in let j_is : j ≡ d = asked.5.1 low few in let room : z.size * sz < 2 ^ 63 = there.3 in
    let small : j * sz < 2 ^ 64 = indexed j z.size sz (omega (arith, high, low_is, j_is)) room in
    rewrite ! 0 (λ (r : Ptr × ℕ). ‵ (shared_of O (Some x) (block_of r.0) (r.1 * sz + count_of r.0) κ)) (λ i. (sym asked.6 i, sym j_is i)) refl $
    use1 𝓛 (‵ (hidden_shr O κ (Some x) bv e)) (id⊢ 𝓤 _) $
    -- [the value; the third seat's token; the token; the strip's; the others]
    first ! $ blocks ! $
    sets ! (of_opd ! (get ! refl)) refl (tt, record { fits = are.1.1.1.1.1.1.0.1 }) $
    sets ! (is ! (bin ! (get ! refl) (size_word !) (record { fits = subst (λ (k : ℕ). k < 2 ^ 64) (sym (uncapped j sz small)) small })) (ap (vint w64)
    (uncapped j sz small))) refl (tt, record { fits = small }) $
    sets ! (bin ! (get ! refl) (get ! refl) tt) refl (tt, tt) $
    sets_last ! (addr ! (through ! refl (stop !))) refl (tt, tt) $ exec ! 𝓣.C 𝓣.Λ Ev (tail fn.body) (at_ret Ev Post) $
    sets ! (of_opd ! (get ! refl)) refl (tt, tt) $
    move ! (1 ∷ 4 ∷ []) $ join ! $ move ! (3 ∷ 0 ∷ []) $ join ! $ move ! (2 ∷ 0 ∷ []) $ join ! $ move ! (1 ∷ []) $ feq_i ! (List Val) (vptr bv e ∷ []) (vptr bv e ∷ []) refl $ fjoin ! $
    let Told : Type 0 = (y : K₀.Denot) × (Some x ≡ Some y) × IsValueBy rule q.id q.view h.id h.view k.id k.view nr y.value in
    use0 𝓛 (raw (fact 𝓤 Told)) (fact_i 𝓤 Told (emp 𝓤) (
      x,
      refl,
      value_by_here g.rests g.leans g.upright rule g.keeps t.start q.id q.view q.visit q.away h.id h.view h.visit h.away k.id k.view k.visit k.away nr new x so.0,
    )) $
    nothing ! $ nothing ! $ fjoin ! $ nothing ! $ fjoin ! $ nothing ! $ fjoin ! $ nothing ! $ fjoin ! $ nothing ! $ fjoin ! $ nothing ! $ fjoin ! $ nothing ! $ fjoin ! $ nothing ! $ fjoin ! $
    returns ! (look_at ! 0 refl) $ free_all ! refl $ keep ! (3 ∷ 0 ∷ 2 ∷ 1 ∷ []) $
    by ! (leaves 𝓛 En hs c y (vptr bv e) (record { ref_ptr = (bv, e); now = Some x }) (tt, (tt, (tt, (tt, (tt, (tt, (tt, (tt, tt)))))))) (tt, (tt, (tt, (tt, (tt, (tt, (tt, (tt, tt))))))))))))))))
