-- `find_room` loads a door behind which there is a bucket, since it has a slot of which a view shows a word; and it copies the address of the words.
use Rattle.seize_atoms.specs.Visiting.{Seen, HoldsSince, keeps_here, seat_coded}
use Rattle.seize_seats.specs.Seats.Errands.{coded_of}
use Rattle.seize_atoms.proofs.Allowed.{slot_here}
use Rattle.std.proofs.Common.{◌≡◌, ℕ, suc, List, [], ◌∷◌, ◌+◌, ◌-◌, ◌*◌, ◌^◌, ◌<◌, ◌≤◌, sym, refl, ap, ◌∙◌, subst, w64, arith}
use mir.Syntax.{dcons, dnil, a_type, named}
use mir.MapTy.{inst_fn}
use mir.Val.{Val, vint, vptr, vstruct, vcons, vnil}
use prog.Wp.{WpFn}
use base.Logic.{SProp, ent, emp, via, id⊢}
use base.Fml.{Lft, Fml, ftrue, fsep, flft, fhide}
use types.Kit.{‵, raw, ◌⊛◌, given, mean, at_ret, ◌$◌, ◌∵◌, !, qed, by, move, keep, drop, split, split3, join, fsplit, fsplit3, fjoin, fpick, fpack, feq_i, learn, suffices, rewrite, use0, use1, use3}
use types.Run.{stop, fld, load, lit, of_opd, bin, no_more, and_then, first, blocks, exec, Calls-last, returns, enter}
use types.ByLocal.{alloc_all, pass_all, free_all, look_at, get, through, sets, env, lands_last}
use types.Part.{agg, sub, whole, look_in}
use types.Tokens.{shr_bor-open, obor_close}
use types.Within.{tokens_halve}
use contract.Running.{tables}
use contract.Monad.{fact, fact_i}
use denote.Exit.{yes}
use denote.RattleType.{RattleType, Valss, owns}
use denote.Struct.Struct.{within}
use denote.Struct.Declared as declared
use denote.Signature.{types_at, plain}
use denote.RawPtr.{Ptr, InBlock, block_ptr, block_of, count_of, at_block, ptr_val, rawptr_vals, rawptr_Tells}
use denote.Steps.{nothing, heard, peeks, looks, shuts}
use denote.Laws.{Is, shows}
use denote.Opens.{unhide}
use denote.Memory.{cell_at, hidden_shr}
use denote.Param.{param, bounded}
use denote.Builtin.{RefOf, RawPtr, u64}
use denote.Plain.{uint_vals, uint_Tells}
use denote.Ref.{shr_vals, shr_Tells}
use denote.Struct.Tuple.{Tuple, tuple_type}
use denote.Struct.Lending.{lent_out}
use denote.Triple.Walked.{Stays, stay_dropped, walk_of, Goes-dropped}
use Rattle.core.proofs.atomic.Steps.{tail, Ptr-Good}
use Rattle.std.specs.contracts.marker.PhantomData as marker
use Rattle.std.proofs.raw_atomic.Walks.{proved, leaves}
use Rattle.std.proofs.raw_atomic.Calls.{fm, seq_cst}
use Rattle.std.proofs.raw_atomic.PtrCalls.{found, finds, loads, seq_cst_good}
use Rattle.seize_words.specs.OneMemory.Place.{capacity}
use Rattle.seize_words.specs.declared.at.At.TheVariants.{Slot}
use Rattle.seize_seats.specs.Seats.Strips.{Strip}
use Rattle.seize_seats.specs.Seats.Buckets.{bucket_at, IsBucket}
use Rattle.seize_seats.specs.Seats.Owned.{BaseId, IsPlaced, age, core_of, common, told as told_to_all, words_share}
use Rattle.seize_seats.proofs.Seats.Views.Known as Known
use Rattle.seize_seats.proofs.Seats.Views.Shown.{placed, told_there}
use Rattle.seize_atoms.specs.Placed.{HasWord}
use Rattle.seize_seats.specs.Seats.Stretches.{seat_shares}
use Rattle.seize_seats.proofs.Seats.Views.Ledgers.{view_halves}
use Rattle.seize_seats.proofs.Seats.Growing.Gates.{met, finds as finds_bucket}
use Rattle.seize_atoms.specs.contracts.words.StripWords as words
use Rattle.seize_atoms.specs.contracts.seat.Seat as seat
use Rattle.seize_atoms.specs.contracts.strip.Strip as strip
use Rattle.seize_seats.specs.contracts.place.Address as address
use Rattle.seize_atoms.proofs.Fields.{word_laws, hand_good, one_of, one_good, Data, told as stored, opened, Token, StripData, strip_made, address_made, found_room_good}
use Rattle.seize_atoms.specs.contracts.words.StripWords.find_room.{ended, clauses}
use Rattle.seize_atoms.specs.contracts.words.StripWords.find_room.Key.{name as #self}
use Rattle.seize_atoms.proofs.words.StripWords.find_room.Statement.{statement}
use Rattle.seize_atoms.proofs.words.StripWords.find_room.Code as code
use Rattle.seize_seats.specs.contracts.kept.Kept as kept_of
use Rattle.seize_seats.specs.Plots.Pieces.{kept_words}
use Rattle.seize_words.proofs.OneMemory.Stored.{hand_of}

pub find_room_spec : {M : Type 1} → statement M
find_room_spec 𝓤 𝓛 𝓜 𝓡 wired X P U F LX LP LU LF g d _ =
    let H = 𝓛.H in let 𝓣 = tables 𝓤 H 𝓜 𝓡 𝓡.env in let R₀ : RattleType = param 0 X in let K₀ : RattleType = kept_of.the_row R₀ in let R₁ : RattleType = param 1 P in let R₂ : RattleType = param 2 U in
    let R₃ : RattleType = param 3 F in
    let En = ended X P U F g d in let c = clauses X P U F g d 𝓛 𝓜.mem 𝓡.returns in
    let inst = bounded (a_type ∷ a_type ∷ a_type ∷ a_type ∷ []) (X, (P, (U, (F, tt)))) (dcons d dnil) in let fn = inst_fn inst code.function in
    let Row : RattleType = words.the_row R₀ R₁ R₂ R₃ g in let St : RattleType = strip.the_row R₀ in let D : RattleType = Data R₀ R₁ R₂ R₃ g in
    let Sr : RattleType = seat.the_row R₀ R₁ R₂ R₃ g in let Ds : RattleType = Token R₀ R₁ R₂ R₃ g in let Ad : RattleType = address.the_row in
    let self = RefOf (0 ∷ []) tt (plain (λ _. Row)) (λ _. tt) in let one = RefOf (1 ∷ []) tt (plain (λ _. Sr)) (λ _. tt) in
    let addr = plain (λ _. RawPtr) in let num = plain (λ _. u64) in
    let hs : Stays En.signature.params En.kept = (stay_dropped self yes, (stay_dropped one yes, (stay_dropped num yes, (stay_dropped num yes, (stay_dropped addr yes, (stay_dropped num yes, tt)))))) in
    proved 𝓛 En hs c 𝓜 𝓡 (
      Goes-dropped 𝓛 6 self yes (λ κs x f. refl),
      (
        Goes-dropped 𝓛 6 one yes (λ κs x f. refl),
        (
          Goes-dropped 𝓛 6 num yes (λ κs x f. refl),
          (Goes-dropped 𝓛 6 num yes (λ κs x f. refl), (Goes-dropped 𝓛 6 addr yes (λ κs x f. refl), (Goes-dropped 𝓛 6 num yes (λ κs x f. refl), tt))),
        ),
      ),
    )
    (#self inst) fn (code.unfolded 𝓤 H 𝓜 𝓡 wired (X, (P, (U, (F, tt)))) d)
    (λ κs. (shr_vals, (shr_vals, (uint_vals w64, (uint_vals w64, (rawptr_vals, (uint_vals w64, tt)))))))
    (λ κs. (shr_Tells (named 0) κs.0 Row, (shr_Tells (named 1) κs.1.0 Sr, (uint_Tells w64, (uint_Tells w64, (rawptr_Tells, (uint_Tells w64, tt))))))) (λ κs qs bounds a gh are.
    let b : ℕ = a.0.ref_ptr.0 in let o : ℕ = a.0.ref_ptr.1 in let b₁ : ℕ = a.1.0.ref_ptr.0 in let o₁ : ℕ = a.1.0.ref_ptr.1 in
    let κ : Lft = κs.0 in let κ₁ : Lft = κs.1.0 in
    let t : Row.Denot = a.0.now in let p : Ptr = t.words in let z : BaseId = t.id in let h : Sr.Denot = a.1.0.now in
    let n : ℕ = a.1.1.0 in let i : ℕ = a.1.1.1.0 in let pd : Ptr = a.1.1.1.1.0 in let k : ℕ = a.1.1.1.1.1.0 in let j : ℕ = k - 32 in
    let cv = seat_coded R₂.coded in let α : Lft = age z in let rule = g.holds t.fixed in let holds = HoldsSince g.rests g.leans t.start rule g.keeps in let keeps = keeps_here g.keeps in
    let db : ℕ = block_of z.doors in let d₀ : ℕ = count_of z.doors in let e : ℕ = k * 8 + d₀ in let p' : Ptr = block_ptr db d₀ in
    let others : Fml = fsep (flft κs.1.1.0 qs.1.1.0) (fsep (flft κs.1.1.1.0 qs.1.1.1.0) (fsep (flft κs.1.1.1.1.0 qs.1.1.1.1.0)
    (fsep (flft κs.1.1.1.1.1.0 qs.1.1.1.1.1.0) ftrue))) in
    let Asked : Type 0 = (h.base ≡ z.views_name) × (pd ≡ z.doors) × (32 ≤ k) × (k < 64) × (capacity (k - 31) ≤ n + 32) × HasWord rule h.id h.view (Slot n i) in
    let us : Ptr → List Val = λ r. vptr b o ∷ vptr b₁ o₁ ∷ vint w64 n ∷ vint w64 i ∷ ptr_val r ∷ vint w64 k ∷ [] in
    let y : (walk_of 𝓛 En hs c).Ghost = ((κs, qs, bounds, a, (vptr b o ∷ [], (vptr b₁ o₁ ∷ [], (vint w64 n ∷ [], (vint w64 i ∷ [], (ptr_val pd ∷ [], (vint w64 k ∷ [], tt))))))), gh) in
    let Post : Val → SProp 𝓤 = (walk_of 𝓛 En hs c).post y in let Run : List Val → SProp 𝓤 = λ ws. WpFn 𝓤 H 𝓣.C 𝓣.Λ fn ws Post in
    qed 𝓛 (((‵ (flft κs.0 qs.0) ⊛ ‵ (flft κs.1.0 qs.1.0) ⊛ ‵ others) ⊛ ‵ (owns (types_at En.signature.params κs) a y.0.4)) ∷ raw (fact 𝓤 _) ∷ raw (fact 𝓤 _) ∷ raw (fact 𝓤 _) ∷
    raw (fact 𝓤 _) ∷ raw (fact 𝓤 Asked) ∷ []) ∵
    keep ! (5 ∷ 0 ∷ []) $ heard ! Asked (λ asked. split ! $ split3 ! $ move ! (3 ∷ []) $ fsplit3 ! $ fsplit ! $ move ! (2 ∷ []) $ fsplit ! $
    -- [self; the seat; the two tokens; the others]
    keep ! (3 ∷ 1 ∷ 5 ∷ 6 ∷ 7 ∷ []) $
    use1 𝓛 (‵ (hidden_shr D κ (p, (tt, tt)) b o) ⊛ ‵ (fhide (words_share K₀ kept_words cv holds p z κ)))
    (lent_out 𝓛 (words.struct R₀ R₁ R₂ R₃ g)
    (words.the_codes X.Denot P.Denot U.Denot F.Denot R₀.coded R₁.coded R₂.coded R₃.coded (marker.the_row (Tuple (R₀ ∷ R₁ ∷
    []))).coded) (words.the_heap R₀ R₁ R₂ R₃ g) (words.the_lent R₀ R₁ R₂ R₃ g) κ t b o) $
    split ! $ move ! (1 ∷ []) $ unhide ! $ fsplit ! $ move ! (1 ∷ []) $
    use1 𝓛 (given (IsPlaced K₀ p z) (‵ (common K₀ kept_words cv holds p z))) (placed K₀ kept_words cv holds p z 𝓛) $ learn ! (λ there. fsplit ! $ drop ! $
    let Inv : Fml = told_to_all K₀ kept_words cv holds p z in
    use1 𝓛 (‵ Inv ⊛ ‵ Inv) (Known.twice 𝓛 K₀ kept_words cv holds p z) $ split ! $ fsplit ! $ fsplit ! $
    -- [it stays listed; a bucket; the invariant; all that is told; its lifetime lasts; the fields; the seat; the two tokens; the others]
    keep ! (0 ∷ 3 ∷ 4 ∷ 5 ∷ 6 ∷ 7 ∷ 8 ∷ 9 ∷ []) $
    move ! (4 ∷ []) $ use1 𝓛 (‵ (hidden_shr Ds κ₁ (tt, tt) b₁ o₁) ⊛ ‵ (fhide (seat_shares cv.code h.base h.id ((h.view, h.visit), h.away) h.stretch h.mark κ₁)))
    (lent_out 𝓛 (seat.struct R₀ R₁ R₂ R₃ g)
    (seat.the_codes X.Denot P.Denot U.Denot F.Denot R₀.coded R₁.coded R₂.coded R₃.coded (marker.the_row (Tuple (R₀ ∷ R₁ ∷
    []))).coded) (seat.the_heap R₀ R₁ R₂ R₃ g) (seat.the_lent R₀ R₁ R₂ R₃ g) κ₁ h b₁ o₁) $
    split ! $ drop ! $ unhide ! $ rewrite ! 0 (λ (u : ℕ). ‵ (seat_shares cv.code u h.id ((h.view, h.visit), h.away) h.stretch h.mark κ₁)) asked.0 refl $
    fsplit ! $ drop ! $ fsplit ! $ move ! (1 ∷ []) $ drop ! $
    -- [the seat's view; it stays listed; all that is told; its lifetime lasts; the fields; the two tokens; the others]
    let at_d : pd ≡ p' = asked.1 ∙ at_block z.doors there.4 in let low = asked.2 in let high = asked.3 in let few : j < 32 = omega (arith, low, high) in
    let small : k * 8 < 2 ^ 64 = omega (arith, high) in let lies : e ≡ j * 8 + (256 + d₀) = omega (arith, low) in let which : k - 31 ≡ suc j = omega (arith, low) in
    let most : capacity (suc j) ≤ n + 32 = subst (λ (m : ℕ). capacity m ≤ n + 32) which asked.4 in let v : Seen U.Denot = ((h.view, h.visit), h.away) in
    let shown = slot_here g.rests g.leans g.upright rule g.keeps t.start h.id h.view h.visit h.away n i asked.5 in
    suffices ! (Run (us p')) (subst (λ (r : Ptr). ent 𝓤 (Run (us p')) (Run (us r))) (sym at_d) (id⊢ 𝓤 (Run (us p')))) $
    enter ! 𝓣.C 𝓣.Λ fn (us p') Post $
    alloc_all ! (λ l. pass_all ! refl ((tt, tt), ((tt, tt), ((tt, record { fits = are.1.1.0.1 }), ((tt, record { fits = are.1.1.1.0.1 }), (Ptr-Good p', ((tt, record { fits = are.1.1.1.1.1.0.1 }), tt)))))) $
    let Ev = env fn.locals l in
    move ! (0 ∷ 6 ∷ []) $ shr_bor-open ! tt (view_halves 𝓛 (coded_of cv) z.views_name h.id v) (λ f. move ! (4 ∷ 6 ∷ []) $ shr_bor-open ! tt (tokens_halve 𝓛 α) (λ s.
    let out : Ptr → Fml = λ r. fsep (flft α s) (met 𝓛 K₀ kept_words cv holds p z j e few lies h.id v n i most shown s f r) in
    -- [open; the token; the seat's, open; its view; it stays listed; all that is told; the fields; the others]
    move ! (5 ∷ 1 ∷ 3 ∷ []) $
    first ! $ blocks ! $ sets ! (of_opd ! (get ! refl)) refl (tt, record { fits = are.1.1.1.1.1.0.1 }) $
    sets ! (bin ! (get ! refl) (lit ! tt) (record { fits = small })) refl (tt, record { fits = small }) $
    sets ! (bin ! (get ! refl) (get ! refl) tt) refl (tt, tt) $
    use3 𝓛 (raw (𝓣.C _ (vptr db e ∷ seq_cst ∷ []) (λ u. mean 𝓛 (found 𝓛 out u))))
    (via 𝓤 _ (finds_bucket 𝓛 K₀ kept_words cv holds p z j e few lies h.id v n i most shown s f)
    (loads 𝓛 𝓜 𝓡 (code.calls-core::raw_atomic::ptr::load 𝓡.env wired) u64 word_laws (block_ptr db e) out)) $
    sets ! (agg ! (and_then ! (lit ! tt) (no_more !))) refl seq_cst_good $
    Calls-last ! (fm 𝓛 𝓜 𝓡) (found 𝓛 out) (and_then ! (get ! refl) (and_then ! (get ! refl) (no_more !))) (λ u. finds ! out (λ w.
    lands_last ! refl (Ptr-Good w) $ exec ! 𝓣.C 𝓣.Λ Ev (tail fn.body) (at_ret Ev Post) $
    sets ! (of_opd ! (get ! refl)) refl (Ptr-Good w) $
    fsplit ! $ move ! (2 ∷ 0 ∷ []) $ obor_close ! tt $ drop ! $ move ! (1 ∷ []) $ fsplit ! $ move ! (3 ∷ 1 ∷ []) $ obor_close ! tt $ drop ! $
    -- [the seat's token; the bucket; self's token; it stays listed; the fields; the others]
    move ! (1 ∷ []) $ fsplit ! $ fpick ! (λ isb. drop ! $ move ! (4 ∷ 2 ∷ []) $
    -- [the fields; self's token; the bucket stays; the seat's token; it stays listed; the others]
    looks ! tt D (opened R₀ R₁ R₂ R₃ g 𝓛) (p, (tt, tt)) b o (λ q vs. move ! (1 ∷ []) $
    peeks ! D (Is D) (shows 𝓛 D) (p, (tt, tt)) vs (λ is_so.
    let ev : vs ≡ hand_of p ∷ [] = stored R₀ R₁ R₂ R₃ g p vs is_so in
    rewrite ! 1 (λ (ws : List Val). ‵ (cell_at q D.mir ws b o)) ev refl $
    sets ! (of_opd ! (load ! (through ! refl (fld ! refl (stop !))) (look_in ! 1 (sub ! 0 refl (whole !))))) refl (Ptr-Good p) $
    rewrite ! 1 (λ (ws : List Val). ‵ (cell_at q D.mir ws b o)) (sym ev) refl $ move ! (1 ∷ 0 ∷ 2 ∷ []) $ shuts ! tt D q (p, (tt, tt)) vs b o $
    -- [self's token; the fields; the bucket stays; the seat's token; it stays listed; the others]
    sets ! (agg ! (no_more !)) refl (tt, tt) $ sets ! (agg ! (and_then ! (get ! refl) (and_then ! (get ! refl) (no_more !)))) refl (hand_good p) $
    sets ! (agg ! (and_then ! (get ! refl) (no_more !))) refl (one_good w) $
    sets ! (agg ! (and_then ! (get ! refl) (and_then ! (get ! refl) (no_more !)))) refl (found_room_good p w) $
    let s' : Strip = bucket_at (suc j) w in let y' : BaseId = record z { bucket = suc j; slots = s' } in
    let r : St.Denot = record { words = p; marker = record {}; id = y' } in let r' : Ad.Denot = record { at = w } in
    let pair : Val = vstruct (vcons (hand_of p) (vcons (one_of w) vnil)) in
    let Told : Type 0 = (core_of y' ≡ core_of z) × (p ≡ p) × InBlock p × InBlock w × (0 < suc j) × (s' ≡ bucket_at (k - 31) w) in
    move ! (2 ∷ []) $ nothing ! $ fpack ! (IsBucket j s') (λ _. ftrue) isb $ fjoin ! $ move ! (4 ∷ 0 ∷ []) $ fjoin ! $
    nothing ! $ fpack ! (IsPlaced K₀ p y') (λ _. ftrue) there $ fjoin ! $ rewrite ! 0 (λ (f₁ : Fml). ‵ f₁) (sym (told_there K₀ p y' there.0)) refl $
    -- [the strip; self's token; the fields; the seat's token; the others]
    nothing ! $ move ! (1 ∷ 0 ∷ []) $ fjoin ! $ use0 𝓛 (‵ ((StripData R₀).own_val (p, (tt, tt)) (hand_of p ∷ []))) (strip_made 𝓛 R₀ p) $ fjoin ! $
    use0 𝓛 (‵ (Ad.own_val r' (one_of w ∷ []))) (address_made 𝓛 w) $
    nothing ! $ move ! (1 ∷ 0 ∷ []) $ fjoin ! $ move ! (1 ∷ 0 ∷ []) $ fjoin ! $ feq_i ! (List Val) (pair ∷ []) (pair ∷ []) refl $ fjoin ! $
    fpack ! (Valss (St ∷ Ad ∷ [])) (within (declared.shape (tuple_type (St ∷ Ad ∷ []))) (r, (r', tt)) (pair ∷ [])) (hand_of p ∷ [], (one_of w ∷ [], tt)) $
    nothing ! $ nothing ! $ fjoin ! $ nothing ! $ fjoin ! $ nothing ! $ fjoin ! $ nothing ! $ fjoin ! $ nothing ! $ fjoin ! $ nothing ! $ fjoin ! $
    -- [what stays; what is answered; self's token; the fields; the seat's token; the others]
    move ! (4 ∷ 5 ∷ []) $ join ! $ move ! (3 ∷ 0 ∷ []) $ join ! $
    use0 𝓛 (raw (fact 𝓤 Told)) (fact_i 𝓤 Told (emp 𝓤) (refl, refl, there.0, isb.0, omega arith, ap (λ (m : ℕ). bucket_at m w) (sym which))) $
    returns ! (look_at ! 0 refl) $ free_all ! refl $ keep ! (1 ∷ 2 ∷ 3 ∷ 0 ∷ []) $
    by ! (leaves 𝓛 En hs c y pair (r, r') (tt, (tt, (tt, (tt, (tt, (tt, tt)))))) (tt, (tt, (tt, (tt, (tt, (tt, tt))))))))))))))))))
