-- `open` puts the words under a new invariant.
use Rattle.seize_atoms.specs.Visiting.{HoldsSince, seat_coded}
use Rattle.seize_atoms.proofs.Allowed.{starts_allowed}
use Rattle.std.proofs.Common.{◌≡◌, ℕ, Bool, List, [], ◌∷◌, length, ◌*◌, ◌^◌, ◌<◌, ◌≤◌, refl, sym, ◌∙◌, subst, w64}
use Rattle.std.proofs.lemmas.List.{replicate-append-replicate}
use Rattle.std.specs.Prelude.{slice_index, slice_index_or, Option, None}
use mir.Syntax.{dcons, dnil, a_type, named}
use mir.MapTy.{inst_fn}
use mir.Val.{Val, vint, vptr, vstruct, vcons, vnil}
use base.Logic.{SProp, emp}
use base.Fml.{Fml, ftrue, fsep, flft}
use types.Kit.{‵, raw, ◌⊛◌, some as items, given, later, ◌$◌, ◌∵◌, !, qed, by, move, keep, split, join, fsplit, fjoin, fjoin3, fpack, feq_i, pick, learn, use0, use1, use3, rewrite, await}
use types.Run.{stop, fld, of_opd, no_more, and_then, returns, enter}
use types.ByLocal.{alloc_all, pass_all, free_all, look_at, get, get_in, sets}
use types.Part.{agg, sub, whole}
use contract.Running.{tables}
use contract.Monad.{fact, fact_i}
use denote.Exit.{yes, no}
use denote.RattleType.{RattleType, Valss, owns}
use denote.Struct.Struct.{within}
use denote.Struct.Declared as declared
use denote.Struct.Tuple.{tuple_type}
use denote.Signature.{types_at, plain}
use denote.RawPtr.{Ptr, InBlock, null_ptr, block_of, count_of}
use denote.Steps.{nothing, heard}
use denote.Param.{param, bounded}
use denote.Builtin.{RefOf, RawPtr, u64}
use denote.Plain.{uint_vals, uint_Tells}
use denote.Ref.{shr_vals, shr_Tells}
use denote.Triple.Walked.{Stays, stay_dropped, walk_of, Goes-dropped}
use Rattle.core.proofs.atomic.Steps.{Ptr-Good}
use Rattle.std.proofs.raw_atomic.Walks.{proved, leaves}
use Rattle.seize_seats.specs.Seats.Visits.{fresh}
use Rattle.seize_seats.specs.Seats.Lines.{whole as all_words}
use Rattle.core.specs.contracts.option.Option.{the_row as OptionOf}
use Rattle.seize_seats.specs.Seats.Owned.{BaseId, IsFirst, words_own, stride, places}
use Rattle.seize_seats.specs.Seats.Owned as Owned
use Rattle.seize_seats.specs.Seats.Doors.{pointers}
use Rattle.seize_atoms.specs.contracts.words.StripWords as words
use Rattle.seize_seats.specs.contracts.row.Row as row
use Rattle.seize_seats.specs.contracts.place.ValuePlaces as place
use Rattle.seize_seats.specs.contracts.place.Doors as doors
use Rattle.seize_atoms.proofs.Fields.{hand_good, hand_made, one_of, one_good, places_told, place_made, doors_made, opened_good, Data}
use Rattle.core.specs.Mem.Slots.Ownership.{owned, Filled}
use Rattle.seize_seats.proofs.Seats.Places.Slotted.{full_is, Fits, whole_out, Roomy, values_out, nones_are, doorway_out, nulls_are}
use Rattle.seize_seats.specs.Seats.State.{Starts}
use Rattle.seize_seats.specs.Seats.Start.{bare}
use Rattle.seize_seats.proofs.Seats.Opening.{opens}
use Rattle.seize_atoms.specs.contracts.words.StripWords.open.{ended, clauses}
use Rattle.seize_atoms.specs.contracts.words.StripWords.open.Key.{name as #self}
use Rattle.seize_atoms.proofs.words.StripWords.open.Statement.{statement}
use Rattle.seize_atoms.proofs.words.StripWords.open.Code as code
use Rattle.seize_seats.specs.contracts.kept.Kept as kept_of
use Rattle.seize_seats.specs.Plots.Pieces.{kept_words}
use Rattle.seize_words.proofs.OneMemory.Stored.{hand_of}

pub open_spec : {M : Type 1} → statement M
open_spec 𝓤 𝓛 𝓜 𝓡 wired X P U F LX LP LU LF g d _ =
    let H = 𝓛.H in let 𝓣 = tables 𝓤 H 𝓜 𝓡 𝓡.env in let R₀ : RattleType = param 0 X in let K₀ : RattleType = kept_of.the_row R₀ in let R₁ : RattleType = param 1 P in let R₂ : RattleType = param 2 U in
    let R₃ : RattleType = param 3 F in
    let En = ended X P U F g d in let c = clauses X P U F g d 𝓛 𝓜.mem 𝓡.returns in
    let inst = bounded (a_type ∷ a_type ∷ a_type ∷ a_type ∷ []) (X, (P, (U, (F, tt)))) (dcons d dnil) in let fn = inst_fn inst code.function in
    let Row : RattleType = words.the_row R₀ R₁ R₂ R₃ g in let Rw : RattleType = row.the_row u64 in let Ro : RattleType = row.the_row (OptionOf K₀) in
    let Rd : RattleType = row.the_row RawPtr in let Pl : RattleType = place.the_row R₀ in let Dd : RattleType = doors.the_row in
    let about = RefOf (0 ∷ []) tt (plain (λ _. R₃)) (λ _. tt) in let num = plain (λ _. u64) in
    let hs : Stays En.signature.params En.kept = (
      stay_dropped (plain (λ _. Rw)) yes,
      (
        stay_dropped (plain (λ _. Ro)) no,
        (stay_dropped (plain (λ _. Rd)) yes, (stay_dropped num yes, (stay_dropped num yes, (stay_dropped num yes, (stay_dropped about yes, tt))))),
      ),
    ) in
    proved 𝓛 En hs c 𝓜 𝓡 (
      Goes-dropped 𝓛 5 (plain (λ _. Rw)) yes (λ κs x f. refl),
      (
        Goes-dropped 𝓛 5 (plain (λ _. Ro)) no (λ κs x f. refl),
        (
          Goes-dropped 𝓛 5 (plain (λ _. Rd)) yes (λ κs x f. refl),
          (
            Goes-dropped 𝓛 5 num yes (λ κs x f. refl),
            (Goes-dropped 𝓛 5 num yes (λ κs x f. refl), (Goes-dropped 𝓛 5 num yes (λ κs x f. refl), (Goes-dropped 𝓛 5 about yes (λ κs x f. refl), tt))),
          ),
        ),
      ),
    )
    (#self inst) fn (code.unfolded 𝓤 H 𝓜 𝓡 wired (X, (P, (U, (F, tt)))) d)
    (λ κs. ((λ x. one_of x.at ∷ []), ((λ x. one_of x.at ∷ []), ((λ x. one_of x.at ∷ []), (uint_vals w64, (uint_vals w64, (uint_vals w64, (shr_vals, tt)))))))) (λ κs. (
      (λ x vs so. places_told u64 x.at vs so.0),
      (
        (λ x vs so. places_told (OptionOf K₀) x.at vs so.0),
        ((λ x vs so. places_told RawPtr x.at vs so.0), (uint_Tells w64, (uint_Tells w64, (uint_Tells w64, (shr_Tells (named 0) κs.0 R₃, tt))))),
      ),
    )) (λ κs qs bounds a gh are.
    let p : Ptr = a.0.at in let ws : List ℕ = a.0.items in let pv : Ptr = a.1.0.at in let xs : List (Option K₀.Denot) = a.1.0.items in
    let dp : Ptr = a.1.1.0.at in let ds : List Ptr = a.1.1.0.items in
    let roots : ℕ = a.1.1.1.0 in
    let count : ℕ = a.1.1.1.1.0 in let most : ℕ = a.1.1.1.1.1.0 in let b : ℕ = a.1.1.1.1.1.1.0.ref_ptr.0 in let o : ℕ = a.1.1.1.1.1.1.0.ref_ptr.1 in
    let about_is : F.Denot = a.1.1.1.1.1.1.0.now in
    let cv = seat_coded R₂.coded in let rule = g.holds about_is in let holds = HoldsSince g.rests g.leans (bare roots) rule g.keeps in
    let others : Fml = fsep (flft κs.1.0 qs.1.0) (fsep (flft κs.1.1.0 qs.1.1.0) (fsep (flft κs.1.1.1.0 qs.1.1.1.0)
    (fsep (flft κs.1.1.1.1.0 qs.1.1.1.1.0) ftrue))) in
    let Asked : Type 0 = ((k : ℕ) → slice_index ws k ≡ 0) × (length ws ≡ all_words roots count) × Starts rule roots ×
    ((k : ℕ) → slice_index_or xs k None ≡ None) × (length xs ≡ count) × ((k : ℕ) → slice_index_or ds k null_ptr ≡ null_ptr) × (length ds ≡ 64) × (count ≤ most)
    × Filled a.0.filled 0 (length ws) × Filled a.1.0.filled 0 (length xs) × Filled a.1.1.0.filled 0 (length ds) in
    let y : (walk_of 𝓛 En hs c).Ghost = (
      (
        κs,
        qs,
        bounds,
        a,
        (
          one_of p ∷ [],
          (
            one_of pv ∷ [],
            (
              one_of dp ∷ [],
              (vint w64 roots ∷ [], (vint w64 count ∷ [], (vint w64 most ∷ [], (vptr b o ∷ [], tt)))),
            ),
          ),
        ),
      ),
      gh,
    ) in
    let Post : Val → SProp 𝓤 = (walk_of 𝓛 En hs c).post y in
    qed 𝓛 (((‵ (flft κs.0 qs.0) ⊛ ‵ others) ⊛ ‵ (owns (types_at En.signature.params κs) a y.0.4)) ∷ raw (fact 𝓤 _) ∷ raw (fact 𝓤 _) ∷ raw (fact 𝓤 _) ∷
    raw (fact 𝓤 _) ∷ raw (fact 𝓤 Asked) ∷ []) ∵
    keep ! (5 ∷ 0 ∷ []) $ heard ! Asked (λ asked. split ! $ split ! $ move ! (2 ∷ []) $ fsplit ! $ fsplit ! $ move ! (1 ∷ []) $
    rewrite ! 0 (λ (fs : List Bool). ‵ (owned u64 p (length ws) ws fs)) (full_is (length ws) a.0.filled a.0.even asked.8) refl $
    use1 𝓛 (given (Fits 𝓛 p ws) (‵ (Owned.row (block_of p) (count_of p) ws))) (whole_out 𝓛 p ws) $ learn ! (λ fits. keep ! (0 ∷ 2 ∷ 3 ∷ 4 ∷ []) $
    move ! (1 ∷ []) $ fsplit ! $ fsplit ! $ move ! (1 ∷ []) $
    rewrite ! 0 (λ (fs : List Bool). ‵ (owned (OptionOf K₀) pv (length xs) xs fs)) (full_is (length xs) a.1.0.filled a.1.0.even asked.9) refl $
    use1 𝓛 (given (Roomy 𝓛 K₀ pv xs) (‵ (places K₀ (block_of pv) (count_of pv) xs))) (values_out 𝓛 K₀ pv xs) $ learn ! (λ roomy. keep ! (2 ∷ 3 ∷ 0 ∷ 4 ∷ 5 ∷ []) $
    -- [what comes behind; the words; the places; the token; the others]
    fsplit ! $ fsplit ! $ move ! (1 ∷ []) $
    rewrite ! 0 (λ (fs : List Bool). ‵ (owned RawPtr dp (length ds) ds fs)) (full_is (length ds) a.1.1.0.filled a.1.1.0.even asked.10) refl $
    use1 𝓛 (given (InBlock dp) (‵ (pointers (block_of dp) (count_of dp) ds))) (doorway_out 𝓛 dp ds) $ learn ! (λ shut. keep ! (3 ∷ 4 ∷ 0 ∷ 5 ∷ 6 ∷ []) $
    -- [the words; the places; the doors; the token; the others]
    rewrite ! 2 (λ (qs : List Ptr). ‵ (pointers (block_of dp) (count_of dp) qs)) (nulls_are 64 ds asked.6 asked.5 ∙ sym (replicate-append-replicate 32 32 null_ptr)) refl $
    rewrite ! 1 (λ (ys : List (Option K₀.Denot)). ‵ (places K₀ (block_of pv) (count_of pv) ys)) (nones_are count xs asked.4 asked.3) refl $
    enter ! 𝓣.C 𝓣.Λ fn (one_of p ∷ one_of pv ∷ one_of dp ∷ vint w64 roots ∷ vint w64 count ∷ vint w64 most ∷ vptr b o ∷ []) Post $
    alloc_all ! (λ l. pass_all ! refl (
      one_good p,
      (
        one_good pv,
        (one_good dp, ((tt, record { fits = are.1.1.1.0.1 }), ((tt, record { fits = are.1.1.1.1.0.1 }), ((tt, record { fits = are.1.1.1.1.1.0.1 }), ((tt, tt), tt))))),
      ),
    ) $
    let small : all_words roots count * 8 < 2 ^ 63 = subst (λ (n : ℕ). n * 8 < 2 ^ 63) asked.1 fits.1 in
    let room : count * stride K₀ < 2 ^ 63 = subst (λ (n : ℕ). n * stride K₀ < 2 ^ 63) asked.4 roomy.1 in
    use3 𝓛 (later (items (λ (z : BaseId). given ((z.roots ≡ roots) × (z.count ≡ most) × (z.values ≡ pv) × (z.size ≡ count) × (z.least ≡ count) × (z.doors ≡ dp)
    × IsFirst p z) (‵ (words_own K₀ kept_words cv holds p z)))))
    (opens 𝓛 K₀ kept_words cv holds p pv dp roots count most asked.7 ((g.newcomer about_is, fresh), None) ws asked.0 asked.1 (fits.0, small, roomy.0, room, shut) (starts_allowed g.rests g.leans g.upright rule g.keeps (bare roots) roots asked.2)) $
    await ! tt $ pick ! (λ z. learn ! (λ is.
    sets ! (of_opd ! (get_in ! (fld ! refl (stop !)) (sub ! 0 refl (whole !)))) refl (Ptr-Good p) $
    sets ! (of_opd ! (get_in ! (fld ! refl (stop !)) (sub ! 0 refl (whole !)))) refl (Ptr-Good pv) $
    sets ! (of_opd ! (get_in ! (fld ! refl (stop !)) (sub ! 0 refl (whole !)))) refl (Ptr-Good dp) $ sets ! (agg ! (no_more !)) refl (tt, tt) $
    sets ! (agg ! (and_then ! (get ! refl) (and_then ! (get ! refl) (no_more !)))) refl (hand_good p) $
    sets ! (agg ! (and_then ! (get ! refl) (no_more !))) refl (one_good pv) $ sets ! (agg ! (and_then ! (get ! refl) (no_more !))) refl (one_good dp) $
    sets ! (agg ! (and_then ! (get ! refl) (and_then ! (get ! refl) (and_then ! (get ! refl) (no_more !))))) refl (opened_good p pv dp) $
    let t : Row.Denot = record { words = p; marker = record {}; id = z; fixed = about_is; start = bare roots } in let q : Pl.Denot = record { at = pv } in let dd : Dd.Denot = record { at = dp } in
    let pair : Val = vstruct (vcons (hand_of p) (vcons (one_of pv) (vcons (one_of dp) vnil))) in
    let Told : Type 0 = (p ≡ p) × (z.roots ≡ roots) × (z.count ≡ most) × (z.values ≡ pv) × (z.size ≡ count) × (z.least ≡ count) × (z.doors ≡ dp)
    × IsFirst p z × (about_is ≡ about_is) × (pv ≡ pv) × (dp ≡ dp) × (t.start ≡ bare roots) in
    use0 𝓛 (‵ ((Data R₀ R₁ R₂ R₃ g).own_val (p, (tt, tt)) (hand_of p ∷ []))) (hand_made R₀ R₁ R₂ R₃ g 𝓛 p) $ fjoin ! $
    use0 𝓛 (‵ (Pl.own_val q (one_of pv ∷ []))) (place_made R₀ 𝓛 pv) $ use0 𝓛 (‵ (Dd.own_val dd (one_of dp ∷ []))) (doors_made 𝓛 dp) $
    nothing ! $ move ! (1 ∷ 0 ∷ []) $ fjoin ! $ move ! (2 ∷ 1 ∷ 0 ∷ []) $ fjoin3 ! $ feq_i ! (List Val) (pair ∷ []) (pair ∷ []) refl $ fjoin ! $
    fpack ! (Valss (Row ∷ Pl ∷ Dd ∷ [])) (within (declared.shape (tuple_type (Row ∷ Pl ∷ Dd ∷ []))) (t, (q, (dd, tt))) (pair ∷ []))
    (hand_of p ∷ [], (one_of pv ∷ [], (one_of dp ∷ [], tt))) $
    nothing ! $ nothing ! $ fjoin ! $ nothing ! $ fjoin ! $ nothing ! $ fjoin ! $ nothing ! $ fjoin ! $ nothing ! $ fjoin ! $
    nothing ! $ fjoin ! $ nothing ! $ fjoin ! $ move ! (2 ∷ 3 ∷ []) $ join ! $
    use0 𝓛 (raw (fact 𝓤 Told)) (fact_i 𝓤 Told (emp 𝓤) (refl, is.0, is.1, is.2, is.3, is.4, is.5, is.6, refl, refl, refl, refl)) $
    returns ! (look_at ! 0 refl) $ free_all ! refl $ keep ! (1 ∷ 2 ∷ 3 ∷ 0 ∷ []) $
    by ! (leaves 𝓛 En hs c y pair (t, q, dd) (tt, (tt, (tt, (tt, (tt, (tt, (tt, tt))))))) (tt, (tt, (tt, (tt, (tt, (tt, (tt, tt))))))))))))))))
