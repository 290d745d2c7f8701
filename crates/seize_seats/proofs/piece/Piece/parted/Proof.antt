-- `parted` takes a piece for a row of words, with the right to their memory.
use Rattle.std.proofs.Common.{◌≡◌, ℕ, zero, suc, ◌*◌, ◌^◌, ◌<◌, true, List, [], ◌∷◌, length, sym, refl, ap, subst, arith}
use Rattle.std.proofs.lemmas.List.{length-replicate}
use mir.Syntax.{named}
use mir.Val.{Val, vptr, vstruct, vcons, vnil}
use prog.Wp.{WpFn}
use base.Logic.{SProp, ent, emp, id⊢}
use seplogic.Ra.Ura.{Ura}
use types.Logic.{Logic, sem}
use types.Kit.{‵, raw, ◌⊛◌, ◌$◌, ◌∵◌, !, qed, by, move, keep, drop, split, fsplit, fjoin, fpick, fpack, feq_i, suffices, use0, use1, rewrite}
use types.Run.{no_more, and_then, returns, enter}
use types.ByLocal.{alloc_all, pass_all, free_all, look_at, get, sets}
use types.Part.{agg}
use contract.Running.{tables}
use contract.Monad.{fact, fact_i}
use denote.Exit.{yes}
use denote.RattleType.{RattleType, Valss, owns}
use denote.Struct.Struct.{within}
use denote.Struct.Declared as declared
use denote.Struct.Tuple.{tuple_type}
use denote.Signature.{types_at, plain}
use denote.RawPtr.{Ptr, block_ptr, block_of, count_of, at_block, ptr_val, rawptr_vals, rawptr_Tells}
use denote.Steps.{nothing, heard}
use denote.Builtin.{RefOf, RawPtr, u64}
use denote.Ref.{shr_vals, shr_Tells}
use denote.Triple.Entry.{alive}
use denote.Triple.Walked.{Stays, stay_dropped, walk_of, Goes-dropped}
use Rattle.core.proofs.atomic.Steps.{Ptr-Good}
use Rattle.core.specs.Mem.Slots.Ownership.{Filled}
use Rattle.std.specs.contracts.alloc.Global as heap
use Rattle.std.specs.contracts.impls.GlobalAllocator.TheImpl.{ghosts}
use Rattle.std.proofs.raw_atomic.Walks.{proved, leaves}
use Rattle.seize_seats.specs.Seats.Owned.{words_right}
use Rattle.seize_seats.specs.Seats.Doors.{frees}
use Rattle.seize_seats.specs.Seats.Plots.{all_full}
use Rattle.seize_seats.proofs.Seats.Places.Slotted.{Whole, whole_in, are_full}
use Rattle.seize_seats.specs.Plots.Pieces.{piece_at, words_held}
use Rattle.seize_seats.specs.contracts.row.Row as row
use Rattle.seize_seats.specs.contracts.piece.Right as right_of
use Rattle.seize_seats.specs.contracts.piece.Piece as piece_of
use Rattle.seize_seats.proofs.Plots.Fields.{token, Mark, mark_told, mark_made, one_of, Places, places_made}
use Rattle.seize_seats.specs.contracts.piece.Piece.parted.{ended, clauses}
use Rattle.seize_seats.specs.contracts.piece.Piece.parted.Key.{name as #self}
use Rattle.seize_seats.proofs.piece.Piece.parted.Statement.{statement}
use Rattle.seize_seats.proofs.piece.Piece.parted.Code as code

-- of one word or more the right is had
pub had : {M : Type 1} {𝓤 : Ura M} (n : ℕ) (p : Ptr) → 0 < n → (𝓛 : Logic 𝓤) → ent 𝓤 (sem 𝓛 (words_right n p)) (sem 𝓛 (words_held frees n p))
had zero p low 𝓛 = absurd (omega (arith, low))
had {𝓤 = 𝓤} (suc n) p low 𝓛 = id⊢ 𝓤 _

pub parted_spec : {M : Type 1} → statement M
parted_spec 𝓤 𝓛 𝓜 𝓡 wired =
    let H = 𝓛.H in let 𝓣 = tables 𝓤 H 𝓜 𝓡 𝓡.env in let Pc : RattleType = piece_of.the_row in let c = clauses 𝓛 𝓜.mem 𝓡.returns in
    let Gl : RattleType = heap.the_row in let Rw : RattleType = row.the_row u64 in let Rt : RattleType = right_of.the_row Gl ghosts in
    let self = plain (λ _. Pc) in let handle = RefOf (0 ∷ []) tt (plain (λ _. Gl)) (λ _. tt) in let addr = plain (λ _. RawPtr) in
    let hs : Stays ended.signature.params ended.kept = (stay_dropped self yes, (stay_dropped handle yes, (stay_dropped addr yes, tt))) in
    proved 𝓛 ended hs c 𝓜 𝓡
    (Goes-dropped 𝓛 1 self yes (λ κs x f. refl), (Goes-dropped 𝓛 1 handle yes (λ κs x f. refl), (Goes-dropped 𝓛 1 addr yes (λ κs x f. refl), tt)))
    #self code.function (code.unfolded 𝓤 H 𝓜 𝓡 wired)
    (λ κs. ((λ _. token ∷ []), (shr_vals, (rawptr_vals, tt))))
    (λ κs. ((λ x vs so. mark_told u64 vs so.0), (shr_Tells (named 0) κs.0 Gl, (rawptr_Tells, tt)))) (λ κs qs bounds a gh are.
    let d : Pc.Denot = a.0 in let n : ℕ = d.count in let ws : List ℕ = d.words in let gb : ℕ = a.1.0.ref_ptr.0 in let go : ℕ = a.1.0.ref_ptr.1 in let p : Ptr = a.1.1.0 in
    let b : ℕ = block_of p in let o : ℕ = count_of p in let p' : Ptr = block_ptr b o in
    let Asked : Type 0 = (0 < n) × (p ≡ d.at) in
    let us : Ptr → List Val = λ r. token ∷ vptr gb go ∷ ptr_val r ∷ [] in
    let y : (walk_of 𝓛 ended hs c).Ghost = ((κs, qs, bounds, a, (token ∷ [], (vptr gb go ∷ [], (ptr_val p ∷ [], tt)))), gh) in
    let Post : Val → SProp 𝓤 = (walk_of 𝓛 ended hs c).post y in let Run : List Val → SProp 𝓤 = λ vs. WpFn 𝓤 H 𝓣.C 𝓣.Λ code.function vs Post in
    qed 𝓛 ((raw (alive 𝓛 ended.signature κs qs) ⊛ ‵ (owns (types_at ended.signature.params κs) a y.0.4)) ∷ raw (fact 𝓤 Asked) ∷ []) ∵
    move ! (1 ∷ 0 ∷ []) $ heard ! Asked (λ asked. split ! $ move ! (1 ∷ []) $ fsplit ! $ fsplit ! $ keep ! (1 ∷ 3 ∷ []) $
    -- [the piece; alive]
    rewrite ! 0 (λ (t : Ptr). ‵ (piece_at t n ws)) (sym asked.1) refl $ fsplit ! $ fpick ! (λ laid. drop ! $ fsplit ! $ move ! (1 ∷ []) $
    -- [the right; the words; alive]
    use1 𝓛 (‵ (words_held frees n p)) (had n p asked.0 𝓛) $ move ! (1 ∷ []) $
    let many = laid.0 in let there = laid.1 asked.0 in let few = there.1 in let at_p : p ≡ p' = at_block p there.0 in
    use1 𝓛 (‵ (Whole 𝓛 p ws)) (whole_in 𝓛 p ws (there.0, omega (arith, many, few))) $
    -- [the words; the right; alive]
    suffices ! (Run (us p')) (subst (λ (r : Ptr). ent 𝓤 (Run (us p')) (Run (us r))) (sym at_p) (id⊢ 𝓤 (Run (us p')))) $
    enter ! 𝓣.C 𝓣.Λ code.function (us p') Post $ alloc_all ! (λ l. pass_all ! refl ((tt, (tt, tt)), ((tt, tt), (Ptr-Good p', tt))) $
    sets ! (agg ! (and_then ! (get ! refl) (no_more !))) refl (tt, (tt, tt)) $
    sets ! (agg ! (no_more !)) refl (tt, tt) $ sets ! (agg ! (and_then ! (get ! refl) (no_more !))) refl (tt, (tt, tt)) $
    sets ! (agg ! (and_then ! (get ! refl) (and_then ! (get ! refl) (no_more !)))) refl (tt, ((tt, tt), ((tt, tt), tt))) $
    let r₁ : Rw.Denot = record { at = p; items = ws; filled = all_full (length ws); even = length-replicate (length ws) true } in
    let r₂ : Rt.Denot = record { marker = record {}; heap = a.1.0.now; at = p; count = n } in
    let pair : Val = vstruct (vcons (one_of p') (vcons token vnil)) in
    let Told : Type 0 = (p ≡ p) × (length ws ≡ n) × Filled (all_full (length ws)) 0 (length ws) × (a.1.0.now ≡ a.1.0.now) × (p ≡ p) × (n ≡ n) × (n * 8 < 2 ^ 63) in
    use0 𝓛 (‵ ((Places u64).own_val (p, tt) (one_of p ∷ []))) (places_made u64 𝓛 p) $ fjoin ! $
    rewrite ! 0 (λ (v : Val). ‵ (Rw.own_val r₁ (v ∷ []))) (ap one_of at_p) refl $ move ! (1 ∷ []) $
    use0 𝓛 (‵ ((Mark Gl).own_val (record {}, tt) (token ∷ []))) (mark_made Gl 𝓛) $ fjoin ! $
    -- [the right; the words; alive]
    nothing ! $ move ! (1 ∷ 0 ∷ []) $ fjoin ! $ move ! (1 ∷ 0 ∷ []) $ fjoin ! $ feq_i ! (List Val) (pair ∷ []) (pair ∷ []) refl $ fjoin ! $
    fpack ! (Valss (Rw ∷ Rt ∷ [])) (within (declared.shape (tuple_type (Rw ∷ Rt ∷ []))) (r₁, (r₂, tt)) (pair ∷ [])) (one_of p' ∷ [], (token ∷ [], tt)) $
    use0 𝓛 (raw (fact 𝓤 Told)) (fact_i 𝓤 Told (emp 𝓤) (refl, many, are_full (length ws), refl, refl, refl, few)) $
    nothing ! $ nothing ! $ fjoin ! $ nothing ! $ fjoin ! $ nothing ! $ fjoin ! $
    returns ! (look_at ! 0 refl) $ free_all ! refl $ keep ! (3 ∷ 0 ∷ 2 ∷ 1 ∷ []) $
    by ! (leaves 𝓛 ended hs c y pair (r₁, r₂) (tt, (tt, (tt, tt))) (tt, (tt, (tt, tt))))))))
