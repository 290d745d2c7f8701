-- `close` ends the lifetime of the words, and they come back.
use Rattle.seize_atoms.specs.Visiting.{HoldsSince, seat_coded}
use Rattle.std.proofs.Common.{◌≡◌, ℕ, true, false, List, [], ◌∷◌, length, ◌+◌, ◌*◌, ◌^◌, ◌<◌, sym, refl, ap, ◌∙◌, subst, lit<, Option}
use mir.Syntax.{dcons, dnil, a_type}
use mir.MapTy.{inst_fn}
use mir.Val.{Val, vstruct, vcons, vnil}
use base.Logic.{SProp, emp}
use types.Kit.{‵, raw, ◌⊛◌, some as items, given, later, ◌$◌, ◌∵◌, !, qed, by, move, keep, split3, split, fsplit, fjoin, fjoin3, fpack, feq_i, pick, learn, use0, use1, rewrite, await}
use types.Run.{stop, fld, of_opd, no_more, and_then, returns, enter}
use types.ByLocal.{alloc_all, pass_all, free_all, look_at, get, get_in, sets}
use types.Part.{agg, sub, whole}
use contract.Running.{tables}
use contract.Monad.{fact, fact_i}
use denote.Exit.{yes, no}
use denote.RattleType.{RattleType, Valss, owns}
use denote.Struct.Struct.{within}
use denote.Struct.Declared as declared
use denote.Struct.Tuple.{tuple_type}
use denote.Signature.{types_at, plain}
use denote.RawPtr.{Ptr, block_of, count_of, ptr_val, rawptr_vals, rawptr_Tells}
use denote.Steps.{nothing, heard}
use denote.Param.{param, bounded}
use denote.Builtin.{u64, RawPtr}
use denote.Triple.Walked.{Stays, stay_dropped, walk_of, Goes-dropped}
use denote.Triple.Entry.{alive}
use Rattle.core.proofs.atomic.Steps.{Ptr-Good}
use Rattle.std.proofs.raw_atomic.Walks.{proved, leaves}
use Rattle.seize_seats.specs.Seats.Lines.{whole as all_words}
use Rattle.core.specs.contracts.option.Option.{the_row as OptionOf}
use Rattle.core.specs.Mem.Slots.Ownership.{Filled}
use Rattle.std.proofs.lemmas.List.{length-replicate}
use Rattle.seize_seats.specs.Seats.Strips.{Strip}
use Rattle.seize_seats.specs.Seats.Owned.{bucket_pieces, pieces, BaseId, IsFirst, stride, places, all_alone}
use Rattle.seize_seats.specs.Seats.Plots.{all_full}
use Rattle.seize_seats.specs.Seats.Owned as Owned
use Rattle.seize_seats.specs.Seats.Doors.{pointers, IsFurther, AreBehind}
use Rattle.seize_atoms.specs.contracts.words.StripWords as words
use Rattle.seize_seats.specs.contracts.row.Row as row
use Rattle.seize_seats.specs.contracts.plot.OwnedStrips as alone
use Rattle.seize_seats.specs.contracts.pieces.Pieces as pieces_of
use Rattle.seize_atoms.proofs.Fields.{token, told, hand_good, one_of, one_good, closed_good, Mark, mark_made, Places, places_made}
use Rattle.seize_seats.proofs.Seats.Places.Slotted.{are_full, whole_in, Values, values_in, doorway_in}
use Rattle.seize_seats.proofs.Seats.Places.Slotted as Placing
use Rattle.seize_seats.proofs.Seats.Opening.{AreClosed, closes}
use Rattle.seize_atoms.specs.contracts.words.StripWords.close.{ended, clauses}
use Rattle.seize_atoms.specs.contracts.words.StripWords.close.Key.{name as #self}
use Rattle.seize_atoms.proofs.words.StripWords.close.Statement.{statement}
use Rattle.seize_atoms.proofs.words.StripWords.close.Code as code
use Rattle.seize_seats.specs.contracts.kept.Kept as kept_of
use Rattle.std.specs.Prelude.{map, Some, take}
use Rattle.seize_seats.specs.Plots.Pieces.{kept_words, all_pieces, spot_of, bucket_spot, AreBucketsBehind}
use Rattle.seize_seats.proofs.Plots.Spots.{spots, bucket_spots}
use Rattle.seize_words.proofs.OneMemory.Stored.{hand_of}

pub close_spec : {M : Type 1} → statement M
close_spec 𝓤 𝓛 𝓜 𝓡 wired X P U F LX LP LU LF g d _ =
    let H = 𝓛.H in let 𝓣 = tables 𝓤 H 𝓜 𝓡 𝓡.env in let R₀ : RattleType = param 0 X in let K₀ : RattleType = kept_of.the_row R₀ in let R₁ : RattleType = param 1 P in let R₂ : RattleType = param 2 U in
    let R₃ : RattleType = param 3 F in
    let En = ended X P U F g d in let c = clauses X P U F g d 𝓛 𝓜.mem 𝓡.returns in
    let inst = bounded (a_type ∷ a_type ∷ a_type ∷ a_type ∷ []) (X, (P, (U, (F, tt)))) (dcons d dnil) in let fn = inst_fn inst code.function in
    let Row : RattleType = words.the_row R₀ R₁ R₂ R₃ g in let Rw : RattleType = row.the_row u64 in let O : RattleType = OptionOf K₀ in
    let Ro : RattleType = row.the_row O in let Rd : RattleType = row.the_row RawPtr in let Lo : RattleType = alone.the_row R₀ in let Ps : RattleType = pieces_of.the_row in
    let hs : Stays En.signature.params En.kept = (stay_dropped (plain (λ _. Row)) no, (stay_dropped (plain (λ _. RawPtr)) yes, (stay_dropped (plain (λ _. RawPtr)) yes, tt))) in
    proved 𝓛 En hs c 𝓜 𝓡 (
      Goes-dropped 𝓛 4 (plain (λ _. Row)) no (λ κs x f. refl),
      (
        Goes-dropped 𝓛 4 (plain (λ _. RawPtr)) yes (λ κs x f. refl),
        (Goes-dropped 𝓛 4 (plain (λ _. RawPtr)) yes (λ κs x f. refl), tt),
      ),
    )
    (#self inst) fn (code.unfolded 𝓤 H 𝓜 𝓡 wired (X, (P, (U, (F, tt)))) d)
    (λ κs. ((λ x. hand_of x.words ∷ []), (rawptr_vals, (rawptr_vals, tt))))
    (λ κs. ((λ x vs so. told R₀ R₁ R₂ R₃ g x.words vs so.0), (rawptr_Tells, (rawptr_Tells, tt)))) (λ κs qs bounds a gh are.
    let p : Ptr = a.0.words in let z : BaseId = a.0.id in let pv : Ptr = a.1.0 in let dp : Ptr = a.1.1.0 in let cv = seat_coded R₂.coded in let rule = g.holds a.0.fixed in let holds = HoldsSince g.rests g.leans a.0.start rule g.keeps in
    let Asked : Type 0 = (pv ≡ z.values) × (dp ≡ z.doors) × IsFirst p z in
    let y : (walk_of 𝓛 En hs c).Ghost = ((κs, qs, bounds, a, (hand_of p ∷ [], (ptr_val pv ∷ [], (ptr_val dp ∷ [], tt)))), gh) in
    let Post : Val → SProp 𝓤 = (walk_of 𝓛 En hs c).post y in
    qed 𝓛 ((raw (alive 𝓛 En.signature κs qs) ⊛ ‵ (owns (types_at En.signature.params κs) a y.0.4)) ∷ raw (fact 𝓤 _) ∷ raw (fact 𝓤 _) ∷ raw (fact 𝓤 _) ∷
    raw (fact 𝓤 _) ∷ raw (fact 𝓤 Asked) ∷ []) ∵
    keep ! (5 ∷ 0 ∷ []) $ heard ! Asked (λ asked. split ! $ move ! (1 ∷ []) $ fsplit ! $ fsplit ! $ keep ! (1 ∷ 3 ∷ []) $
    let is_first : IsFirst p z = asked.2 in
    enter ! 𝓣.C 𝓣.Λ fn (hand_of p ∷ ptr_val pv ∷ ptr_val dp ∷ []) Post $ alloc_all ! (λ l. pass_all ! refl (hand_good p, (Ptr-Good pv, (Ptr-Good dp, tt))) $
    use1 𝓛 (later (items (λ (u : List ℕ × List (Option K₀.Denot) × List Ptr × List Strip × List Strip). given (AreClosed 𝓛 K₀ kept_words cv holds p z.values z.doors z is_first u)
    (‵ (Owned.row (block_of p) (count_of p) u.0) ⊛ ‵ (places K₀ (block_of z.values) (count_of z.values) u.1) ⊛
    ‵ (pointers (block_of z.doors) (count_of z.doors) u.2) ⊛ ‵ (all_alone K₀ kept_words false u.3) ⊛ ‵ (pieces kept_words u.1) ⊛ ‵ (pieces bucket_pieces (map Some u.4))))))
    (closes 𝓛 K₀ kept_words cv holds p z.values z.doors z is_first) $ await ! tt $ pick ! (λ u. learn ! (λ is. split3 ! $
    let ws : List ℕ = u.0 in let bs : List Strip = u.4 in let xs : List (Option K₀.Denot) = u.1 in let ds : List Ptr = u.2 in let placed = is.3 in
    use1 𝓛 (‵ (Placing.Whole 𝓛 p ws)) (whole_in 𝓛 p ws (placed.0, subst (λ (n : ℕ). n * 8 < 2 ^ 63) (sym (is.0 ∙ ap (λ (k : ℕ). k + z.size * 5) (sym is_first.1))) placed.1)) $ move ! (1 ∷ []) $
    use1 𝓛 (‵ (Values 𝓛 K₀ z.values xs)) (values_in 𝓛 K₀ z.values xs (placed.2, subst (λ (n : ℕ). n * stride K₀ < 2 ^ 63) (sym is.1) placed.3)) $
    rewrite ! 0 (λ (r : Ptr). ‵ (Values 𝓛 K₀ r xs)) (sym asked.0) refl $ move ! (2 ∷ []) $ split3 ! $
    use1 𝓛 (‵ (Placing.Doorway 𝓛 z.doors ds)) (doorway_in 𝓛 z.doors ds placed.4 (subst (λ (n : ℕ). n * 8 < 2 ^ 63) (sym is.2) (lit< tt))) $
    rewrite ! 0 (λ (r : Ptr). ‵ (Placing.Doorway 𝓛 r ds)) (sym asked.1) refl $ move ! (2 ∷ []) $ split ! $ use1 𝓛 (‵ (all_pieces (map spot_of xs))) (spots 𝓛 xs) $ move ! (1 ∷ []) $
    use1 𝓛 (‵ (all_pieces (map bucket_spot bs))) (bucket_spots 𝓛 bs) $ move ! (4 ∷ 5 ∷ 2 ∷ 3 ∷ 1 ∷ 0 ∷ []) $
    -- [the values; the words; the doors; the other strips; the own words; the buckets; alive]
    let ss : List Strip = u.3 in
    let r₁ : Rw.Denot = record { at = p; items = ws; filled = all_full (length ws); even = length-replicate (length ws) true } in
    let r₂ : Ro.Denot = record { at = pv; items = xs; filled = all_full (length xs); even = length-replicate (length xs) true } in
    let r₃ : Rd.Denot = record { at = dp; items = ds; filled = all_full (length ds); even = length-replicate (length ds) true } in
    let r₄ : Lo.Denot = record { marker = record {}; fresh = false; strips = ss } in let r₅ : Ps.Denot = record { marker = record {}; spots = map spot_of xs } in
    let r₆ : Ps.Denot = record { marker = record {}; spots = map bucket_spot bs } in
    let pair : Val = vstruct (vcons (one_of p) (vcons (one_of pv) (vcons (one_of dp) (vcons token (vcons token (vcons token vnil)))))) in
    sets ! (of_opd ! (get_in ! (fld ! refl (stop !)) (sub ! 0 refl (whole !)))) refl (Ptr-Good p) $
    sets ! (agg ! (and_then ! (get ! refl) (no_more !))) refl (one_good p) $
    sets ! (agg ! (and_then ! (get ! refl) (no_more !))) refl (one_good pv) $
    sets ! (agg ! (and_then ! (get ! refl) (no_more !))) refl (one_good dp) $
    sets ! (agg ! (no_more !)) refl (tt, tt) $ sets ! (agg ! (and_then ! (get ! refl) (no_more !))) refl (tt, (tt, tt)) $
    sets ! (agg ! (no_more !)) refl (tt, tt) $ sets ! (agg ! (and_then ! (get ! refl) (no_more !))) refl (tt, (tt, tt)) $
    sets ! (agg ! (no_more !)) refl (tt, tt) $ sets ! (agg ! (and_then ! (get ! refl) (no_more !))) refl (tt, (tt, tt)) $
    sets ! (agg ! (and_then ! (get ! refl) (and_then ! (get ! refl) (and_then ! (get ! refl) (and_then ! (get ! refl) (and_then ! (get ! refl) (and_then ! (get ! refl) (no_more !)))))))) refl (closed_good p pv dp) $
    let Told : Type 0 = (p ≡ p) × (length ws ≡ all_words z.roots z.size) × (pv ≡ pv) × (length xs ≡ z.size) × (dp ≡ dp) × (length ds ≡ 64)
    × Filled (all_full (length ws)) 0 (length ws) × Filled (all_full (length xs)) 0 (length xs) × Filled (all_full (length ds)) 0 (length ds)
    × AreBehind (IsFurther K₀ z.least) 0 ss (take 32 ds) × (map spot_of xs ≡ map spot_of xs) × AreBucketsBehind 32 (map bucket_spot bs) ds in
    use0 𝓛 (‵ ((Places O).own_val (pv, tt) (one_of pv ∷ []))) (places_made O 𝓛 pv) $ fjoin ! $ move ! (1 ∷ []) $
    use0 𝓛 (‵ ((Places u64).own_val (p, tt) (one_of p ∷ []))) (places_made u64 𝓛 p) $ fjoin ! $ move ! (2 ∷ []) $
    use0 𝓛 (‵ ((Places RawPtr).own_val (dp, tt) (one_of dp ∷ []))) (places_made RawPtr 𝓛 dp) $ fjoin ! $
    -- [the doors; the words; the values; the other strips; the own words; the buckets; alive]
    move ! (3 ∷ []) $ use0 𝓛 (‵ ((Mark R₀).own_val (record {}, tt) (token ∷ []))) (mark_made R₀ 𝓛) $ fjoin ! $ move ! (4 ∷ []) $
    use0 𝓛 (‵ ((Mark u64).own_val (record {}, tt) (token ∷ []))) (mark_made u64 𝓛) $ fjoin ! $ move ! (5 ∷ []) $
    use0 𝓛 (‵ ((Mark u64).own_val (record {}, tt) (token ∷ []))) (mark_made u64 𝓛) $ fjoin ! $
    -- [the buckets; the own words; the other strips; the doors; the words; the values; alive]
    nothing ! $ move ! (1 ∷ 0 ∷ []) $ fjoin ! $ move ! (1 ∷ 0 ∷ []) $ fjoin ! $ move ! (1 ∷ 0 ∷ []) $ fjoin ! $ move ! (1 ∷ 0 ∷ []) $ fjoin ! $ move ! (1 ∷ 2 ∷ 0 ∷ []) $ fjoin3 ! $ feq_i ! (List Val) (pair ∷ []) (pair ∷ []) refl $ fjoin ! $
    fpack ! (Valss (Rw ∷ Ro ∷ Rd ∷ Lo ∷ Ps ∷ Ps ∷ [])) (within (declared.shape (tuple_type (Rw ∷ Ro ∷ Rd ∷ Lo ∷ Ps ∷ Ps ∷ []))) (r₁, (r₂, (r₃, (r₄, (r₅, (r₆, tt)))))) (pair ∷ [])) (one_of p ∷ [], (one_of pv ∷ [], (one_of dp ∷ [], (token ∷ [], (token ∷ [], (token ∷ [], tt)))))) $
    use0 𝓛 (raw (fact 𝓤 Told)) (fact_i 𝓤 Told (emp 𝓤) (refl, is.0, refl, is.1, refl, is.2, are_full (length ws), are_full (length xs), are_full (length ds), is.4, refl, (bs, refl, is.5))) $ nothing ! $ nothing ! $ fjoin ! $ nothing ! $ fjoin ! $ nothing ! $ fjoin ! $
    returns ! (look_at ! 0 refl) $ free_all ! refl $ keep ! (3 ∷ 0 ∷ 2 ∷ 1 ∷ []) $
    by ! (leaves 𝓛 En hs c y pair (r₁, r₂, r₃, r₄, r₅, r₆) (tt, (tt, (tt, tt))) (tt, (tt, (tt, tt)))))))))
