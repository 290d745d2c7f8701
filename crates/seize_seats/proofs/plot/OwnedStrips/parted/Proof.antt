-- `parted` takes the first of the strips: its places and its words are rows, and the right to its block is a deed.
use Rattle.std.specs.Prelude.{slice_index_or, map}
use Rattle.std.proofs.Common.{◌≡◌, ℕ, ◌+◌, ◌*◌, ◌^◌, ◌<◌, Bool, true, None, List, [], ◌∷◌, length, sym, refl, ap, ◌∙◌, subst, w64, arith, Option}
use Rattle.std.proofs.lemmas.List.{length-replicate}
use mir.Syntax.{a_type, named}
use mir.MapTy.{inst_fn}
use mir.Val.{Val, vint, vptr, vstruct, vcons, vnil}
use prog.Wp.{WpFn}
use base.Logic.{SProp, ent, emp, id⊢}
use types.Kit.{‵, raw, ◌⊛◌, at_ret, ◌$◌, ◌∵◌, !, qed, by, move, keep, drop, split, fsplit, fjoin, fjoin3, fpick, fpack, feq_i, suffices, use0, use1, rewrite}
use types.Run.{lit, of_opd, bin, no_more, and_then, first, blocks, exec, returns, enter}
use types.ByLocal.{alloc_all, pass_all, free_all, look_at, get, sets, sets_last, env}
use types.Part.{agg}
use contract.Running.{tables}
use contract.Monad.{fact, fact_i}
use denote.Exit.{yes, no}
use denote.RattleType.{RattleType, Valss, owns}
use denote.Struct.Struct.{within}
use denote.Struct.Declared as declared
use denote.Struct.Tuple.{tuple_type}
use denote.Signature.{types_at, plain}
use denote.RawPtr.{Ptr, block_ptr, block_of, count_of, at_block, ptr_val, rawptr_vals, rawptr_Tells}
use denote.Steps.{nothing, heard}
use denote.Param.{param, layouts}
use denote.Builtin.{RefOf, RawPtr, u64, usize}
use denote.Plain.{uint_vals, uint_Tells}
use denote.Ref.{shr_vals, shr_Tells}
use denote.Triple.Entry.{alive}
use denote.Triple.Walked.{Stays, stay_dropped, walk_of, Goes-dropped}
use Rattle.core.proofs.atomic.Steps.{tail, Ptr-Good}
use Rattle.core.specs.contracts.option.Option.{the_row as OptionOf}
use Rattle.core.specs.Mem.Slots.Ownership.{Filled}
use Rattle.std.specs.contracts.alloc.Global as heap
use Rattle.std.specs.contracts.impls.GlobalAllocator.TheImpl.{ghosts}
use Rattle.std.proofs.raw_atomic.Walks.{proved, leaves}
use Rattle.seize_seats.specs.Seats.Strips.{Strip, further}
use Rattle.seize_seats.specs.Seats.Doors.{before, block_bytes, words_from}
use Rattle.seize_seats.specs.Plots.Pieces.{all_pieces, kept_words, spot_of}
use Rattle.seize_seats.proofs.Plots.Spots.{spots}
use Rattle.seize_seats.specs.contracts.kept.Kept as kept_of
use Rattle.seize_seats.specs.contracts.pieces.Pieces as pieces_of
use Rattle.seize_seats.specs.Seats.Owned.{stride, all_alone}
use Rattle.seize_seats.proofs.Seats.Places.Plots.{fits}
use Rattle.seize_seats.specs.Seats.Plots.{HasFirst, all_full}
use Rattle.seize_seats.specs.contracts.row.Row as row_of
use Rattle.seize_seats.specs.contracts.plot.StripRight as deed_of
use Rattle.seize_seats.specs.contracts.plot.OwnedStrips as alone_of
use Rattle.seize_seats.proofs.Plots.Fields.{token, Mark, mark_told, mark_made, one_of, Places, places_made}
use Rattle.seize_seats.proofs.Seats.Places.Slotted.{nones_of, Whole, whole_in, Values, values_in, are_full}
use Rattle.seize_seats.proofs.Seats.Places.Plotted.{plot, first_is}
use Rattle.seize_seats.specs.contracts.plot.OwnedStrips.parted.{ended, clauses}
use Rattle.seize_seats.specs.contracts.plot.OwnedStrips.parted.Key.{name as #self}
use Rattle.seize_seats.proofs.plot.OwnedStrips.parted.Statement.{statement}
use Rattle.seize_seats.proofs.plot.OwnedStrips.parted.Code as code

pub parted_spec : {M : Type 1} → statement M
parted_spec 𝓤 𝓛 𝓜 𝓡 wired T L =
    let H = 𝓛.H in let 𝓣 = tables 𝓤 H 𝓜 𝓡 𝓡.env in let R₀ : RattleType = param 0 T in let R : RattleType = kept_of.the_row R₀ in let O : RattleType = OptionOf R in let Gl : RattleType = heap.the_row in
    let Rv : RattleType = row_of.the_row O in let Rw : RattleType = row_of.the_row u64 in let Dd : RattleType = deed_of.the_row R Gl ghosts in
    let Lo : RattleType = alone_of.the_row R₀ in let Ps : RattleType = pieces_of.the_row in
    let En = ended T in let c = clauses T 𝓛 𝓜.mem 𝓡.returns in let inst = layouts (a_type ∷ []) (T, tt) in let fn = inst_fn inst code.function in
    let self = plain (λ _. Lo) in let handle = RefOf (0 ∷ []) tt (plain (λ _. Gl)) (λ _. tt) in let addr = plain (λ _. RawPtr) in let num = plain (λ _. usize) in
    let hs : Stays En.signature.params En.kept =
    (stay_dropped self no, (stay_dropped handle yes, (stay_dropped addr yes, (stay_dropped num yes, (stay_dropped num yes, tt))))) in
    proved 𝓛 En hs c 𝓜 𝓡 (
      Goes-dropped 𝓛 2 self no (λ κs x f. refl),
      (
        Goes-dropped 𝓛 2 handle yes (λ κs x f. refl),
        (Goes-dropped 𝓛 2 addr yes (λ κs x f. refl), (Goes-dropped 𝓛 2 num yes (λ κs x f. refl), (Goes-dropped 𝓛 2 num yes (λ κs x f. refl), tt))),
      ),
    ) (#self inst) fn (code.unfolded 𝓤 H 𝓜 𝓡 wired (T, tt))
    (λ κs. ((λ _. token ∷ []), (shr_vals, (rawptr_vals, (uint_vals w64, (uint_vals w64, tt))))))
    (λ κs. ((λ x vs so. mark_told R₀ vs so.0), (shr_Tells (named 0) κs.0 Gl, (rawptr_Tells, (uint_Tells w64, (uint_Tells w64, tt)))))) (λ κs qs bounds a gh are.
    let l : List Strip = a.0.strips in let fr : Bool = a.0.fresh in let gb : ℕ = a.1.0.ref_ptr.0 in let go : ℕ = a.1.0.ref_ptr.1 in let p : Ptr = a.1.1.0 in let n : ℕ = a.1.1.1.0 in
    let k : ℕ = a.1.1.1.1.0 in
    let Asked : Type 0 = HasFirst R p n l × (k ≡ before R n) × (block_bytes R n < 2 ^ 63) in
    let b : ℕ = block_of p in let o : ℕ = count_of p in let p' : Ptr = block_ptr b o in let w : Ptr = words_from R n p in
    let us : Ptr → List Val = λ r. token ∷ vptr gb go ∷ ptr_val r ∷ vint w64 n ∷ vint w64 k ∷ [] in
    let y : (walk_of 𝓛 En hs c).Ghost = ((κs, qs, bounds, a, (token ∷ [], (vptr gb go ∷ [], (ptr_val p ∷ [], (vint w64 n ∷ [], (vint w64 k ∷ [], tt)))))), gh) in
    let Post : Val → SProp 𝓤 = (walk_of 𝓛 En hs c).post y in let Run : List Val → SProp 𝓤 = λ ws. WpFn 𝓤 H 𝓣.C 𝓣.Λ fn ws Post in
    qed 𝓛 ((raw (alive 𝓛 En.signature κs qs) ⊛ ‵ (owns (types_at En.signature.params κs) a y.0.4)) ∷ raw (fact 𝓤 _) ∷ raw (fact 𝓤 Asked) ∷ []) ∵
    keep ! (2 ∷ 0 ∷ []) $ heard ! Asked (λ asked. split ! $ move ! (1 ∷ []) $ fsplit ! $ fsplit ! $ keep ! (1 ∷ 3 ∷ []) $
    let has = first_is R p n l asked.0 in let f : ℕ = has.0 in let ss : List Strip = has.1 in let s : Strip = plot R p n f in
    let fit = fits R n asked.2 in let words_fit = fit.0 in let k_is = asked.1 in
    let at_p : p ≡ p' = at_block p has.4 in let small : k * 8 < 2 ^ 64 = omega (arith, k_is, words_fit) in
    let w' : Ptr = block_ptr b (k * 8 + o) in let at_w : w' ≡ w = (λ i. block_ptr b (k_is i * 8 + o)) in
    -- [the strips; alive]
    rewrite ! 0 (λ (q : List Strip). ‵ (all_alone R kept_words fr q)) has.2 refl $ fsplit ! $ fsplit ! $ fpick ! (λ u. fsplit ! $ fpick ! (λ long. drop ! $ fsplit ! $ move ! (1 ∷ []) $ fsplit ! $ move ! (1 ∷ []) $
    let ws : List ℕ = u.0 in let xs : List (Option R.Denot) = u.1 in
    use1 𝓛 (‵ (all_pieces (map spot_of xs))) (spots 𝓛 xs) $ move ! (2 ∷ 1 ∷ 3 ∷ 4 ∷ 0 ∷ []) $
    let many = long.1 in let more = long.0 in
    -- [the words; the places; the right; the others; alive]
    use1 𝓛 (‵ (Whole 𝓛 w ws)) (whole_in 𝓛 w ws (tt, omega (arith, more, words_fit))) $ move ! (1 ∷ []) $
    use1 𝓛 (‵ (Values 𝓛 R p xs)) (values_in 𝓛 R p xs (has.4, subst (λ (i : ℕ). i * stride R < 2 ^ 63) (sym many) fit.1)) $
    -- [the places; the words; the right; the others; alive]
    suffices ! (Run (us p')) (subst (λ (r : Ptr). ent 𝓤 (Run (us p')) (Run (us r))) (sym at_p) (id⊢ 𝓤 (Run (us p')))) $
    enter ! 𝓣.C 𝓣.Λ fn (us p') Post $ alloc_all ! (λ l'. pass_all ! refl ((tt, (tt, tt)), ((tt, tt), (Ptr-Good p', ((tt, record { fits = are.1.1.1.0.1 }), ((tt, record { fits = are.1.1.1.1.0.1 }), tt))))) $
    let Ev = env fn.locals l' in
    first ! $ blocks ! $ sets ! (of_opd ! (get ! refl)) refl (tt, tt) $ sets ! (bin ! (get ! refl) (lit ! tt) (record { fits = small })) refl (tt, record { fits = small }) $
    sets_last ! (bin ! (get ! refl) (get ! refl) tt) refl (tt, tt) $ exec ! 𝓣.C 𝓣.Λ Ev (tail fn.body) (at_ret Ev Post) $ sets ! (of_opd ! (get ! refl)) refl (tt, tt) $
    sets ! (agg ! (and_then ! (get ! refl) (no_more !))) refl (tt, (tt, tt)) $
    sets ! (agg ! (and_then ! (get ! refl) (no_more !))) refl (tt, (tt, tt)) $
    sets ! (agg ! (no_more !)) refl (tt, tt) $ sets ! (agg ! (and_then ! (get ! refl) (no_more !))) refl (tt, (tt, tt)) $
    sets ! (agg ! (no_more !)) refl (tt, tt) $ sets ! (agg ! (and_then ! (get ! refl) (no_more !))) refl (tt, (tt, tt)) $
    sets ! (agg ! (no_more !)) refl (tt, tt) $ sets ! (agg ! (and_then ! (get ! refl) (no_more !))) refl (tt, (tt, tt)) $
    sets ! (agg ! (and_then ! (get ! refl) (and_then ! (get ! refl) (and_then ! (get ! refl) (and_then ! (get ! refl) (and_then ! (get ! refl) (no_more !))))))) refl (tt, ((tt, tt), ((tt, tt), ((tt, tt), ((tt, tt), ((tt, tt), tt)))))) $
    let r₁ : Rv.Denot = record { at = p; items = xs; filled = all_full (length xs); even = length-replicate (length xs) true } in
    let r₂ : Rw.Denot = record { at = w; items = ws; filled = all_full (length ws); even = length-replicate (length ws) true } in
    let r₃ : Dd.Denot = record { marker = record {}; heap = a.1.0.now; at = p; count = n } in let r₄ : Lo.Denot = record { marker = record {}; fresh = fr; strips = ss } in
    let r₅ : Ps.Denot = record { marker = record {}; spots = map spot_of xs } in
    let pair : Val = vstruct (vcons (one_of p') (vcons (one_of w') (vcons token (vcons token (vcons token vnil))))) in
    let Told : Type 0 = (p ≡ p) × (w ≡ w) × (length xs ≡ n) × (length ws ≡ n * 5) × Filled (all_full (length xs)) 0 (length xs)
    × Filled (all_full (length ws)) 0 (length ws) × (a.1.0.now ≡ a.1.0.now) × (p ≡ p) × (n ≡ n) × (ss ≡ further l) × (fr ≡ true → (i : ℕ) → slice_index_or xs i None ≡ None) × (map spot_of xs ≡ map spot_of xs) in
    let none_is : fr ≡ true → (i : ℕ) → slice_index_or xs i None ≡ None = λ e i. ap (λ (ys : List (Option R.Denot)). slice_index_or ys i None) (long.2 e) ∙ nones_of n i in
    use0 𝓛 (‵ ((Places O).own_val (p, tt) (one_of p ∷ []))) (places_made O 𝓛 p) $ fjoin ! $
    rewrite ! 0 (λ (v : Val). ‵ (Rv.own_val r₁ (v ∷ []))) (ap one_of at_p) refl $ move ! (1 ∷ []) $
    use0 𝓛 (‵ ((Places u64).own_val (w, tt) (one_of w ∷ []))) (places_made u64 𝓛 w) $ fjoin ! $
    rewrite ! 0 (λ (v : Val). ‵ (Rw.own_val r₂ (v ∷ []))) (ap one_of (sym at_w)) refl $ move ! (2 ∷ []) $
    use0 𝓛 (‵ ((Mark R).own_val (record {}, tt) (token ∷ []))) (mark_made R 𝓛) $ fjoin ! $ move ! (3 ∷ []) $
    use0 𝓛 (‵ ((Mark R).own_val (record {}, tt) (token ∷ []))) (mark_made R 𝓛) $ fjoin ! $ move ! (4 ∷ []) $
    use0 𝓛 (‵ ((Mark u64).own_val (record {}, tt) (token ∷ []))) (mark_made u64 𝓛) $ fjoin ! $
    -- [the own words; the others; the right; the words; the places; alive]
    nothing ! $ move ! (1 ∷ 0 ∷ []) $ fjoin ! $ move ! (1 ∷ 0 ∷ []) $ fjoin ! $ move ! (1 ∷ 0 ∷ []) $ fjoin ! $ move ! (2 ∷ 1 ∷ 0 ∷ []) $ fjoin3 ! $ feq_i ! (List Val) (pair ∷ []) (pair ∷ []) refl $ fjoin ! $
    fpack ! (Valss (Rv ∷ Rw ∷ Dd ∷ Lo ∷ Ps ∷ [])) (within (declared.shape (tuple_type (Rv ∷ Rw ∷ Dd ∷ Lo ∷ Ps ∷ []))) (r₁, (r₂, (r₃, (r₄, (r₅, tt))))) (pair ∷ []))
    (one_of p' ∷ [], (one_of w' ∷ [], (token ∷ [], (token ∷ [], (token ∷ [], tt))))) $
    use0 𝓛 (raw (fact 𝓤 Told)) (fact_i 𝓤 Told (emp 𝓤) (refl, refl, many, more, are_full (length xs), are_full (length ws), refl, refl, refl, sym has.3, none_is, refl)) $
    nothing ! $ nothing ! $ fjoin ! $ nothing ! $ fjoin ! $ nothing ! $ fjoin ! $ nothing ! $ fjoin ! $ nothing ! $ fjoin ! $
    returns ! (look_at ! 0 refl) $ free_all ! refl $ keep ! (3 ∷ 0 ∷ 2 ∷ 1 ∷ []) $
    by ! (leaves 𝓛 En hs c y pair (r₁, r₂, r₃, r₄, r₅) (tt, (tt, (tt, (tt, (tt, tt))))) (tt, (tt, (tt, (tt, (tt, tt)))))))))))
