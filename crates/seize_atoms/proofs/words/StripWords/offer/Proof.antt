-- `offer` exchanges null at a door for the address of a strip: the strip joins, or it comes back.
use Rattle.seize_atoms.specs.Visiting.{HoldsSince, seat_coded}
use Rattle.std.specs.Prelude.{slice_index, slice_index_or}
use Rattle.std.proofs.Common.{◌≡◌, ℕ, ◌+◌, ◌*◌, ◌^◌, ◌<◌, ◌≤◌, Bool, true, List, [], ◌∷◌, length, replicate, sym, refl, ap, ◌∙◌, subst, w64, arith, Option, None}
use Rattle.std.proofs.lemmas.List.{length-replicate}
use mir.Syntax.{dcons, dnil, a_type, named}
use mir.MapTy.{inst_fn}
use mir.Val.{Val, vint, vptr, vnull, vstruct, vcons, vnil}
use prog.Wp.{WpFn}
use base.Logic.{SProp, ent, emp, via, id⊢}
use base.Fml.{Lft, Share, Fml, ftrue, fsep, fex, flft, fhide}
use types.Kit.{‵, raw, ◌⊛◌, given, mean, at_ret, ◌$◌, ◌∵◌, !, qed, by, move, keep, drop, split, split3, join, group, fsplit, fsplit3, fjoin, fpack, feq_i, learn, suffices, use0, use1, rewrite}
use types.Run.{stop, fld, lit, of_opd, bin, no_more, and_then, first, blocks, exec, Calls-last, returns, enter}
use types.ByLocal.{alloc_all, pass_all, free_all, look_at, get, get_in, sets, env, lands_last}
use types.Part.{agg, sub, whole}
use types.Tokens.{shr_bor-open, obor_close}
use types.Within.{tokens_halve}
use contract.Running.{tables}
use contract.Monad.{fact, fact_i}
use denote.Exit.{yes, no}
use denote.RattleType.{RattleType, Valss, owns}
use denote.Struct.Struct.{Struct, within}
use denote.Struct.Owning.{shape}
use denote.Struct.Declared as declared
use denote.Struct.Tuple.{Tuple, tuple_type}
use denote.Struct.Lending.{lent_out}
use denote.Signature.{types_at, plain}
use denote.RawPtr.{Ptr, InBlock, Testable, block_ptr, null_ptr, block_of, count_of, at_block, ptr_val, rawptr_vals, rawptr_Tells}
use denote.Steps.{nothing, heard}
use denote.Opens.{unhide}
use denote.Memory.{hidden_shr}
use denote.Param.{param, bounded}
use denote.Builtin.{RefOf, RawPtr, u64}
use denote.Plain.{uint_vals, uint_Tells}
use denote.Ref.{shr_vals, shr_Tells}
use denote.Triple.Walked.{Stays, stay_dropped, walk_of, Goes-dropped}
use Rattle.core.specs.Mem.Slots.Ownership.{owned, Filled}
use Rattle.core.specs.contracts.option.Option.{the_row as OptionOf}
use Rattle.core.specs.declared.result.Result.TheVariants.{Ok, Err}
use Rattle.core.proofs.atomic.Steps.{tail, Ptr-Good}
use Rattle.std.specs.contracts.marker.PhantomData as marker
use Rattle.std.specs.contracts.alloc.Global as heap
use Rattle.std.specs.contracts.impls.GlobalAllocator.TheImpl.{ghosts}
use Rattle.std.proofs.raw_atomic.Walks.{proved, leaves}
use Rattle.std.proofs.raw_atomic.Calls.{fm, seq_cst}
use Rattle.std.proofs.raw_atomic.PtrCalls.{Answer, answer_val, answer_good, answered, hears, exchanges, seq_cst_good}
use Rattle.seize_seats.specs.Seats.Seen.{fact as so, seen}
use Rattle.seize_seats.specs.Seats.Strips.{Strip, strip_coded}
use Rattle.seize_seats.specs.Seats.Doors.{before, block_bytes, words_from, IsFurther, right_to}
use Rattle.seize_seats.specs.Seats.Owned.{pieces, BaseId, IsPlaced, AreOf, age, core_of, common, strip_of, strip_known, words_share}
use Rattle.seize_seats.specs.Seats.Owned as Owned
use Rattle.seize_seats.proofs.Seats.Views.Shown.{placed, told_there}
use Rattle.seize_seats.proofs.Seats.Opening.{fives, fives_are, fives_long}
use Rattle.seize_seats.proofs.Seats.Places.Plots.{tested}
use Rattle.seize_seats.proofs.Seats.Growing.Offers as Offers
use Rattle.seize_seats.specs.Seats.Plots.{HasFirst}
use Rattle.seize_atoms.specs.contracts.words.StripWords as words
use Rattle.seize_atoms.specs.contracts.strip.Strip as strip
use Rattle.seize_seats.specs.contracts.row.Row as row
use Rattle.seize_seats.specs.contracts.plot.StripRight as deed_of
use Rattle.seize_seats.specs.contracts.plot.OwnedStrips as alone_of
use Rattle.seize_seats.specs.contracts.place.ValuePlaces as place
use Rattle.seize_atoms.proofs.Fields.{token, word_laws, Data, Mark, mark_told, mark_made, one_of, one_good, places_told, place_made, found_good, answer_made}
use Rattle.seize_seats.proofs.Seats.Places.Slotted.{full_is, Fits, whole_out, Roomy, values_out, nones_are}
use Rattle.seize_seats.proofs.Seats.Places.Plotted.{plot}
use Rattle.seize_atoms.specs.contracts.words.StripWords.offer.{ended, clauses}
use Rattle.seize_atoms.specs.contracts.words.StripWords.offer.Key.{name as #self}
use Rattle.seize_atoms.proofs.words.StripWords.offer.Statement.{statement}
use Rattle.seize_seats.proofs.Seats.Places.Pieces.{no_pieces}
use Rattle.seize_atoms.proofs.words.StripWords.offer.Code as code
use Rattle.seize_seats.specs.contracts.kept.Kept as kept_of
use Rattle.seize_seats.specs.Plots.Pieces.{kept_words}

pub offer_spec : {M : Type 1} → statement M
offer_spec 𝓤 𝓛 𝓜 𝓡 wired X P U F LX LP LU LF g d _ =
    let H = 𝓛.H in let 𝓣 = tables 𝓤 H 𝓜 𝓡 𝓡.env in let R₀ : RattleType = param 0 X in let K₀ : RattleType = kept_of.the_row R₀ in let R₁ : RattleType = param 1 P in let R₂ : RattleType = param 2 U in
    let R₃ : RattleType = param 3 F in
    let En = ended X P U F g d in let c = clauses X P U F g d 𝓛 𝓜.mem 𝓡.returns in
    let inst = bounded (a_type ∷ a_type ∷ a_type ∷ a_type ∷ []) (X, (P, (U, (F, tt)))) (dcons d dnil) in let fn = inst_fn inst code.function in
    let Row : RattleType = words.the_row R₀ R₁ R₂ R₃ g in let St : RattleType = strip.the_row R₀ in let D : RattleType = Data R₀ R₁ R₂ R₃ g in
    let Ds : RattleType = Struct (shape (strip.the_type R₀)) in let O : RattleType = OptionOf K₀ in let Gl : RattleType = heap.the_row in
    let Rv : RattleType = row.the_row O in let Rw : RattleType = row.the_row u64 in let Dd : RattleType = deed_of.the_row K₀ Gl ghosts in
    let Lo : RattleType = alone_of.the_row R₀ in let Pl : RattleType = place.the_row R₀ in
    let self = RefOf (0 ∷ []) tt (plain (λ _. Row)) (λ _. tt) in let other = RefOf (1 ∷ []) tt (plain (λ _. St)) (λ _. tt) in
    let addr = plain (λ _. RawPtr) in let num = plain (λ _. u64) in let kept = plain (λ _. Rv) in let sixty = plain (λ _. Rw) in let right = plain (λ _. Dd) in
    let hs : Stays En.signature.params En.kept = (
      stay_dropped self yes,
      (stay_dropped other yes, (stay_dropped addr yes, (stay_dropped num yes, (stay_dropped kept no, (stay_dropped sixty yes, (stay_dropped right no, tt)))))),
    ) in
    proved 𝓛 En hs c 𝓜 𝓡 (
      Goes-dropped 𝓛 6 self yes (λ κs x f. refl),
      (
        Goes-dropped 𝓛 6 other yes (λ κs x f. refl),
        (
          Goes-dropped 𝓛 6 addr yes (λ κs x f. refl),
          (
            Goes-dropped 𝓛 6 num yes (λ κs x f. refl),
            (
              Goes-dropped 𝓛 6 kept no (λ κs x f. refl),
              (Goes-dropped 𝓛 6 sixty yes (λ κs x f. refl), (Goes-dropped 𝓛 6 right no (λ κs x f. refl), tt)),
            ),
          ),
        ),
      ),
    )
    (#self inst) fn (code.unfolded 𝓤 H 𝓜 𝓡 wired (X, (P, (U, (F, tt)))) d)
    (λ κs. (shr_vals, (shr_vals, (rawptr_vals, (uint_vals w64, ((λ x. one_of x.at ∷ []), ((λ x. one_of x.at ∷ []), ((λ _. token ∷ []), tt))))))))
    (λ κs. (
      shr_Tells (named 0) κs.0 Row,
      (
        shr_Tells (named 1) κs.1.0 St,
        (
          rawptr_Tells,
          (
            uint_Tells w64,
            (
              (λ x vs is. places_told O x.at vs is.0),
              ((λ x vs is. places_told u64 x.at vs is.0), ((λ x vs is. mark_told (Tuple (K₀ ∷ Gl ∷ [])) vs is.0), tt)),
            ),
          ),
        ),
      ),
    )) (λ κs qs bounds a gh are.
    let b : ℕ = a.0.ref_ptr.0 in let o : ℕ = a.0.ref_ptr.1 in let b₁ : ℕ = a.1.0.ref_ptr.0 in let o₁ : ℕ = a.1.0.ref_ptr.1 in let κ : Lft = κs.0 in let κ₁ : Lft = κs.1.0 in
    let t : Row.Denot = a.0.now in let z : BaseId = t.id in let last : St.Denot = a.1.0.now in let q : Ptr = last.words in let y : BaseId = last.id in
    let pd : Ptr = a.1.1.0 in let j : ℕ = a.1.1.1.0 in let p : Ptr = a.1.1.1.1.0.at in let xs : List (Option K₀.Denot) = a.1.1.1.1.0.items in
    let w : Ptr = a.1.1.1.1.1.0.at in let ws : List ℕ = a.1.1.1.1.1.0.items in let dd : Dd.Denot = a.1.1.1.1.1.1.0 in let n : ℕ = dd.count in
    let fs : List Bool = a.1.1.1.1.0.filled in let gs : List Bool = a.1.1.1.1.1.0.filled in
    let cv = seat_coded R₂.coded in let α : Lft = age z in let rule = g.holds t.fixed in let holds = HoldsSince g.rests g.leans t.start rule g.keeps in
    let db : ℕ = block_of z.doors in let d₀ : ℕ = count_of z.doors in let e : ℕ = j * 8 + d₀ in let pd' : Ptr = block_ptr db d₀ in
    let pb : ℕ = block_of p in let po : ℕ = count_of p in let p' : Ptr = block_ptr pb po in
    let others : Fml = fsep (flft κs.1.1.0 qs.1.1.0) (fsep (flft κs.1.1.1.0 qs.1.1.1.0) (fsep (flft κs.1.1.1.1.0 qs.1.1.1.1.0)
    (fsep (flft κs.1.1.1.1.1.0 qs.1.1.1.1.1.0) ftrue))) in
    let Asked : Type 0 = (core_of y ≡ core_of z) × InBlock q × (y.place ≡ j) × (y.first + y.size ≡ n) × (n ≡ z.least * 2 ^ j) × (n + n ≤ z.count)
    × (pd ≡ z.doors) × (j < 32) × (dd.at ≡ p) × InBlock p × (w ≡ words_from K₀ n p) × (length xs ≡ n) × (length ws ≡ n * 5)
    × Filled fs 0 (length xs) × Filled gs 0 (length ws) × ((i : ℕ) → slice_index_or xs i None ≡ None) × ((i : ℕ) → slice_index ws i ≡ 0)
    × (block_bytes K₀ n < 2 ^ 63) in
    let us : Ptr × Ptr → List Val = λ r. vptr b o ∷ vptr b₁ o₁ ∷ ptr_val r.0 ∷ vint w64 j ∷ one_of r.1 ∷ one_of w ∷ token ∷ [] in
    let y' : (walk_of 𝓛 En hs c).Ghost = ((κs, qs, bounds, a, (vptr b o ∷ [], (vptr b₁ o₁ ∷ [], (ptr_val pd ∷ [], (vint w64 j ∷ [], (one_of p ∷ [], (one_of w ∷ [], (token ∷ [], tt)))))))), gh) in
    let Post : Val → SProp 𝓤 = (walk_of 𝓛 En hs c).post y' in let Run : List Val → SProp 𝓤 = λ vs. WpFn 𝓤 H 𝓣.C 𝓣.Λ fn vs Post in
    qed 𝓛 (((‵ (flft κs.0 qs.0) ⊛ ‵ (flft κs.1.0 qs.1.0) ⊛ ‵ others) ⊛ ‵ (owns (types_at En.signature.params κs) a y'.0.4)) ∷ raw (fact 𝓤 _) ∷ raw (fact 𝓤 _) ∷
    raw (fact 𝓤 _) ∷ raw (fact 𝓤 _) ∷ raw (fact 𝓤 Asked) ∷ []) ∵
    keep ! (5 ∷ 0 ∷ []) $ heard ! Asked (λ asked. split ! $ split3 ! $ move ! (3 ∷ []) $
    fsplit3 ! $ fsplit ! $ move ! (2 ∷ []) $ fsplit ! $ move ! (4 ∷ []) $ fsplit3 ! $ move ! (2 ∷ []) $ fsplit3 ! $ fsplit ! $ move ! (2 ∷ []) $ fsplit ! $
    move ! (4 ∷ []) $ fsplit ! $ fsplit ! $
    -- [self; the strip before; the places; the words; the deed; the two tokens; the others]
    keep ! (12 ∷ 10 ∷ 6 ∷ 4 ∷ 1 ∷ 13 ∷ 14 ∷ 15 ∷ []) $
    use1 𝓛 (‵ (hidden_shr D κ (t.words, (tt, tt)) b o) ⊛ ‵ (fhide (words_share K₀ kept_words cv holds t.words z κ)))
    (lent_out 𝓛 (words.struct R₀ R₁ R₂ R₃ g)
    (words.the_codes X.Denot P.Denot U.Denot F.Denot R₀.coded R₁.coded R₂.coded R₃.coded (marker.the_row (Tuple (R₀ ∷ R₁ ∷
    []))).coded) (words.the_heap R₀ R₁ R₂ R₃ g) (words.the_lent R₀ R₁ R₂ R₃ g) κ t b o) $
    split ! $ drop ! $ unhide ! $ fsplit ! $ move ! (1 ∷ []) $
    use1 𝓛 (given (IsPlaced K₀ t.words z) (‵ (common K₀ kept_words cv holds t.words z))) (placed K₀ kept_words cv holds t.words z 𝓛) $ learn ! (λ there. fsplit ! $ drop ! $
    -- [the invariant; its lifetime lasts; the strip before; the places; ..]
    move ! (2 ∷ []) $
    use1 𝓛 (‵ (hidden_shr Ds κ₁ (q, (tt, tt)) b₁ o₁) ⊛ ‵ (fhide (strip_known K₀ q y)))
    (lent_out 𝓛 (strip.struct R₀) (strip.the_codes X.Denot R₀.coded (marker.the_row R₀).coded) (strip.the_heap R₀) (strip.the_lent R₀) κ₁ last b₁ o₁) $
    split ! $ drop ! $ unhide ! $ rewrite ! 0 (λ (f : Fml). ‵ f) (told_there K₀ q y asked.1) refl $ fsplit ! $ drop ! $ fsplit ! $ move ! (1 ∷ []) $ drop ! $
    let name : y.strips_name ≡ z.strips_name = ap (λ (k : Owned.Core). k.strips_name) asked.0 in
    let Before : ℕ → ℕ → Fml = λ σ k. fex Share (λ r. seen strip_coded.code σ r k (strip_of q y)) in
    rewrite ! 0 (λ (k : ℕ × ℕ). ‵ (Before k.0 k.1)) (λ i. (name i, asked.2 i)) refl $
    -- [the strip before; the invariant; its lifetime lasts; the places; the words; the deed; the two tokens; the others]
    move ! (3 ∷ []) $ rewrite ! 0 (λ (hs : List Bool). ‵ (owned O p (length xs) xs hs)) (full_is (length xs) fs a.1.1.1.1.0.even asked.13) refl $
    use1 𝓛 (given (Roomy 𝓛 K₀ p xs) (‵ (Owned.places K₀ pb po xs))) (values_out 𝓛 K₀ p xs) $ learn ! (λ _.
    rewrite ! 0 (λ (vs : List (Option K₀.Denot)). ‵ (Owned.places K₀ pb po vs)) (nones_are n xs asked.11 asked.15) refl $
    move ! (4 ∷ []) $ let w₁ : Ptr = words_from K₀ n p in
    rewrite ! 0 (λ (k : Ptr × List Bool). ‵ (owned u64 k.0 (length ws) ws k.1)) (λ i. (asked.10 i, full_is (length ws) gs a.1.1.1.1.1.0.even asked.14 i)) refl $
    use1 𝓛 (given (Fits 𝓛 w₁ ws) (‵ (Owned.row pb (before K₀ n * 8 + po) ws))) (whole_out 𝓛 w₁ ws) $ learn ! (λ _.
    rewrite ! 0 (λ (vs : List ℕ). ‵ (Owned.row pb (before K₀ n * 8 + po) vs)) (fives_are n ws asked.12 asked.16) refl $
    let s : Strip = plot K₀ p' n n in let at_p : p ≡ p' = at_block p asked.9 in
    -- [the words; the places; the strip before; the invariant; its lifetime lasts; the deed; the two tokens; the others]
    move ! (5 ∷ []) $ rewrite ! 0 (λ (r : Ptr). ‵ (right_to K₀ (plot K₀ r n n))) (asked.8 ∙ at_p) refl $
    use1 𝓛 (given (Testable p') (‵ (right_to K₀ s))) (tested 𝓛 K₀ n p') $ learn ! (λ test.
    move ! (2 ∷ 0 ∷ []) $ fjoin ! $ move ! (1 ∷ 0 ∷ []) $ fjoin ! $
    -- [the strip; the strip before; the invariant; its lifetime lasts; the two tokens; the others]
    let is : IsFurther K₀ z.least j s = (tt, test, refl, refl, asked.4, refl, asked.17) in
    let prior : Strip = strip_of q y in let r₁ : Pl.Denot = record { at = p' } in
    let at_d : pd ≡ pd' = asked.6 ∙ at_block z.doors there.4 in let few = asked.7 in let small : j * 8 < 2 ^ 64 = omega (arith, few) in
    suffices ! (Run (us (pd', p'))) (subst (λ (r : Ptr × Ptr). ent 𝓤 (Run (us (pd', p'))) (Run (us r))) (λ i. (sym at_d i, sym at_p i)) (id⊢ 𝓤 (Run (us (pd', p'))))) $
    enter ! 𝓣.C 𝓣.Λ fn (us (pd', p')) Post $
    alloc_all ! (λ l. pass_all ! refl ((tt, tt), ((tt, tt), (Ptr-Good pd', ((tt, record { fits = are.1.1.1.0.1 }), ((tt, (tt, tt)), (one_good w, ((tt, (tt, tt)), tt))))))) $
    let Ev = env fn.locals l in
    sets ! (of_opd ! (get_in ! (fld ! refl (stop !)) (sub ! 0 refl (whole !)))) refl (tt, tt) $
    move ! (3 ∷ 4 ∷ []) $ shr_bor-open ! tt (tokens_halve 𝓛 α) (λ u.
    let won : Ptr → Fml = λ r. fsep (flft α u) (Offers.won 𝓛 K₀ kept_words cv holds t.words z u j e few refl s is prior asked.3 asked.5 r) in
    let lost : Ptr → Fml = λ r. fsep (flft α u) (Offers.lost 𝓛 K₀ kept_words cv holds t.words z u j e few refl s is prior asked.3 asked.5 r) in
    -- [open; its token; the strip; the strip before; the invariant; the other token; the others]
    first ! $ blocks ! $ sets ! (of_opd ! (get ! refl)) refl (tt, record { fits = are.1.1.1.0.1 }) $
    sets ! (bin ! (get ! refl) (lit ! tt) (record { fits = small })) refl (tt, record { fits = small }) $
    sets ! (bin ! (get ! refl) (get ! refl) tt) refl (tt, tt) $
    sets ! (of_opd ! (get ! refl)) refl (tt, tt) $
    move ! (4 ∷ 1 ∷ 3 ∷ 2 ∷ []) $ group ! 4 $
    use1 𝓛 (raw (𝓣.C _ (vptr db e ∷ vnull ∷ vptr pb po ∷ seq_cst ∷ seq_cst ∷ []) (λ v. mean 𝓛 (answered 𝓛 won lost v))))
    (via 𝓤 _ (Offers.offers 𝓛 K₀ kept_words cv holds t.words z u j e few refl s is prior asked.3 asked.5)
    (exchanges 𝓛 𝓜 𝓡 (code.calls-core::raw_atomic::ptr::compare_exchange 𝓡.env wired) u64 word_laws (block_ptr db e) null_ptr p' won lost)) $
    sets ! (agg ! (and_then ! (lit ! tt) (no_more !))) refl seq_cst_good $ sets ! (agg ! (and_then ! (lit ! tt) (no_more !))) refl seq_cst_good $
    Calls-last ! (fm 𝓛 𝓜 𝓡) (answered 𝓛 won lost) (and_then ! (get ! refl) (and_then ! (lit ! tt) (and_then ! (get ! refl) (and_then ! (get ! refl)
    (and_then ! (get ! refl) (no_more !)))))) (λ v. hears ! won lost
    (λ r. let found : Val = answer_val (Ok r) in let good = found_good (Ok r) pb po in let pair : Val = vstruct (vcons found (vcons (one_of p') (vcons token vnil))) in
    lands_last ! refl (answer_good (Ok r)) $ exec ! 𝓣.C 𝓣.Λ Ev (tail (tail fn.body)) (at_ret Ev Post) $
    sets ! (of_opd ! (get ! refl)) refl (answer_good (Ok r)) $ sets ! (agg ! (and_then ! (get ! refl) (no_more !))) refl (tt, (tt, tt)) $ sets ! (agg ! (no_more !)) refl (tt, tt) $
    sets ! (agg ! (and_then ! (get ! refl) (no_more !))) refl (tt, (tt, tt)) $
    sets ! (agg ! (and_then ! (get ! refl) (and_then ! (get ! refl) (and_then ! (get ! refl) (no_more !))))) refl good $
    fsplit ! $ move ! (2 ∷ 0 ∷ []) $ obor_close ! tt $ drop ! $ move ! (1 ∷ []) $ drop ! $
    -- [the two tokens; the others]
    let r₂ : Lo.Denot = record { marker = record {}; fresh = true; strips = [] } in let Told : Type 0 = Unit {0} in
    move ! (0 ∷ 1 ∷ 2 ∷ []) $ nothing ! $ use0 𝓛 (‵ ((Mark R₀).own_val (record {}, tt) (token ∷ []))) (mark_made R₀ 𝓛) $ fjoin ! $
    nothing ! $ move ! (1 ∷ 0 ∷ []) $ fjoin ! $ use0 𝓛 (‵ (Pl.own_val r₁ (one_of p' ∷ []))) (place_made R₀ 𝓛 p') $ fjoin ! $
    use0 𝓛 (‵ (Answer.own_val (Ok r) (found ∷ []))) (answer_made 𝓛 (Ok r)) $ fjoin ! $
    feq_i ! (List Val) (pair ∷ []) (pair ∷ []) refl $ fjoin ! $
    fpack ! (Valss (Answer ∷ Pl ∷ Lo ∷ [])) (within (declared.shape (tuple_type (Answer ∷ Pl ∷ Lo ∷ []))) (Ok r, (r₁, (r₂, tt))) (pair ∷ []))
    (found ∷ [], (one_of p' ∷ [], (token ∷ [], tt))) $
    nothing ! $ nothing ! $ fjoin ! $ nothing ! $ fjoin ! $ nothing ! $ fjoin ! $ nothing ! $ fjoin ! $ nothing ! $ fjoin ! $ nothing ! $ fjoin ! $
    nothing ! $ fjoin ! $
    -- [what stays; what is answered; the two tokens; the others]
    move ! (3 ∷ 4 ∷ []) $ join ! $ move ! (3 ∷ 0 ∷ []) $ join ! $ use0 𝓛 (raw (fact 𝓤 Told)) (fact_i 𝓤 Told (emp 𝓤) tt) $
    returns ! (look_at ! 0 refl) $ free_all ! refl $ keep ! (1 ∷ 2 ∷ 3 ∷ 0 ∷ []) $
    by ! (leaves 𝓛 En hs c y' pair (Ok r, r₁, r₂) (tt, (tt, (tt, (tt, (tt, (tt, (tt, tt))))))) (tt, (tt, (tt, (tt, (tt, (tt, (tt, tt)))))))))
    (λ r. let found : Val = answer_val (Err r) in let good = found_good (Err r) pb po in let pair : Val = vstruct (vcons found (vcons (one_of p') (vcons token vnil))) in
    lands_last ! refl (answer_good (Err r)) $ exec ! 𝓣.C 𝓣.Λ Ev (tail (tail fn.body)) (at_ret Ev Post) $
    sets ! (of_opd ! (get ! refl)) refl (answer_good (Err r)) $ sets ! (agg ! (and_then ! (get ! refl) (no_more !))) refl (tt, (tt, tt)) $ sets ! (agg ! (no_more !)) refl (tt, tt) $
    sets ! (agg ! (and_then ! (get ! refl) (no_more !))) refl (tt, (tt, tt)) $
    sets ! (agg ! (and_then ! (get ! refl) (and_then ! (get ! refl) (and_then ! (get ! refl) (no_more !))))) refl good $
    fsplit ! $ move ! (2 ∷ 0 ∷ []) $ obor_close ! tt $ drop ! $ move ! (1 ∷ []) $ fsplit ! $ move ! (1 ∷ []) $ drop ! $ fsplit3 ! $ move ! (2 ∷ []) $
    -- [the right; the words; the places; the two tokens; the others]
    let r₂ : Lo.Denot = record { marker = record {}; fresh = true; strips = s ∷ [] } in let Told : Type 0 = HasFirst K₀ p' n (s ∷ []) × (true ≡ true) in
    let u₁ : List ℕ × List (Option K₀.Denot) = (fives n, replicate n None) in
    let Parts : List ℕ × List (Option K₀.Denot) → Fml = λ f. fsep (so (AreOf K₀ kept_words true s f)) (fsep (Owned.row pb (before K₀ n * 8 + po) f.0) (fsep (Owned.places K₀ pb po f.1) (pieces kept_words f.1))) in
    use0 𝓛 (‵ (pieces kept_words (replicate n None))) (no_pieces 𝓛 kept_words n) $ move ! (3 ∷ 0 ∷ []) $ fjoin ! $ move ! (2 ∷ 0 ∷ []) $ fjoin ! $ nothing ! $ fpack ! (AreOf K₀ kept_words true s u₁) (λ _. ftrue) (fives_long n, length-replicate n None, λ _. refl) $ fjoin ! $
    fpack ! (List ℕ × List (Option K₀.Denot)) Parts u₁ $ fjoin ! $ nothing ! $ move ! (1 ∷ 0 ∷ []) $ fjoin ! $
    -- [all that come back; the two tokens; the others]
    use0 𝓛 (‵ ((Mark R₀).own_val (record {}, tt) (token ∷ []))) (mark_made R₀ 𝓛) $ fjoin ! $
    nothing ! $ move ! (1 ∷ 0 ∷ []) $ fjoin ! $ use0 𝓛 (‵ (Pl.own_val r₁ (one_of p' ∷ []))) (place_made R₀ 𝓛 p') $ fjoin ! $
    use0 𝓛 (‵ (Answer.own_val (Err r) (found ∷ []))) (answer_made 𝓛 (Err r)) $ fjoin ! $
    feq_i ! (List Val) (pair ∷ []) (pair ∷ []) refl $ fjoin ! $
    fpack ! (Valss (Answer ∷ Pl ∷ Lo ∷ [])) (within (declared.shape (tuple_type (Answer ∷ Pl ∷ Lo ∷ []))) (Err r, (r₁, (r₂, tt))) (pair ∷ []))
    (found ∷ [], (one_of p' ∷ [], (token ∷ [], tt))) $
    nothing ! $ nothing ! $ fjoin ! $ nothing ! $ fjoin ! $ nothing ! $ fjoin ! $ nothing ! $ fjoin ! $ nothing ! $ fjoin ! $ nothing ! $ fjoin ! $
    nothing ! $ fjoin ! $
    move ! (3 ∷ 4 ∷ []) $ join ! $ move ! (3 ∷ 0 ∷ []) $ join ! $
    use0 𝓛 (raw (fact 𝓤 Told)) (fact_i 𝓤 Told (emp 𝓤) ((refl, tt, refl, refl, refl), refl)) $
    returns ! (look_at ! 0 refl) $ free_all ! refl $ keep ! (1 ∷ 2 ∷ 3 ∷ 0 ∷ []) $
    by ! (leaves 𝓛 En hs c y' pair (Err r, r₁, r₂) (tt, (tt, (tt, (tt, (tt, (tt, (tt, tt))))))) (tt, (tt, (tt, (tt, (tt, (tt, (tt, tt))))))))))))))))))
