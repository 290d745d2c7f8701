-- `join_words` takes a row of words, with the right to their memory, for a piece.
use Rattle.std.proofs.Common.{◌≡◌, ℕ, zero, suc, ◌<◌, Bool, List, [], ◌∷◌, length, sym, refl, ap, subst, arith}
use mir.Val.{Val, vstruct, vcons, vnil}
use prog.Wp.{WpFn}
use base.Logic.{SProp, ent, emp, id⊢}
use seplogic.Ra.Ura.{Ura}
use types.Logic.{Logic, sem}
use base.Fml.{ftrue}
use types.Kit.{‵, raw, ◌⊛◌, given, ◌$◌, ◌∵◌, !, qed, by, move, keep, split, fsplit, fjoin, fpack, feq_i, learn, suffices, use0, use1, rewrite}
use types.Run.{stop, fld, of_opd, no_more, and_then, returns, enter}
use types.ByLocal.{alloc_all, pass_all, free_all, look_at, get, get_in, sets}
use types.Part.{agg, sub, whole}
use contract.Running.{tables}
use contract.Monad.{fact, fact_i}
use denote.Exit.{yes}
use denote.RattleType.{RattleType, Valss, owns}
use denote.Struct.Struct.{within}
use denote.Struct.Declared as declared
use denote.Signature.{types_at, plain}
use denote.RawPtr.{Ptr, block_ptr, block_of, count_of, at_block, ptr_val, InBlock}
use denote.Steps.{nothing, heard}
use denote.Builtin.{RawPtr, u64}
use denote.Triple.Entry.{alive}
use denote.Triple.Walked.{Stays, stay_dropped, walk_of, Goes-dropped}
use Rattle.core.specs.Mem.Slots.Ownership.{owned, Filled}
use Rattle.std.specs.contracts.alloc.Global as heap
use Rattle.std.specs.contracts.impls.GlobalAllocator.TheImpl.{ghosts}
use Rattle.std.proofs.raw_atomic.Walks.{proved, leaves}
use Rattle.seize_seats.specs.Seats.Owned.{row as word_row, words_right}
use Rattle.seize_seats.specs.Seats.Doors.{frees}
use Rattle.seize_seats.proofs.Seats.Places.Slotted.{Fits, whole_out, full_is}
use Rattle.seize_seats.specs.Plots.Pieces.{AreAt, words_held}
use Rattle.seize_seats.specs.contracts.row.Row as row
use Rattle.seize_seats.specs.contracts.piece.Right as right_of
use Rattle.seize_seats.specs.contracts.piece.Piece as piece_of
use Rattle.seize_seats.specs.contracts.piece.Laid as laid_of
use Rattle.seize_seats.proofs.Plots.Fields.{token, Mark, mark_told, mark_made, one_of, places_told}
use Rattle.seize_seats.specs.contracts.piece.join_words.{ended, clauses}
use Rattle.seize_seats.specs.contracts.piece.join_words.Key.{name as #self}
use Rattle.seize_seats.proofs.piece.join_words.Statement.{statement}
use Rattle.seize_seats.proofs.piece.join_words.Code as code

-- of one word or more the right is held
held : {M : Type 1} {𝓤 : Ura M} (n : ℕ) (p : Ptr) → 0 < n → (𝓛 : Logic 𝓤) → ent 𝓤 (sem 𝓛 (words_held frees n p)) (sem 𝓛 (words_right n p))
held zero p low 𝓛 = absurd (omega (arith, low))
held {𝓤 = 𝓤} (suc n) p low 𝓛 = id⊢ 𝓤 _

pub join_words_spec : {M : Type 1} → statement M
join_words_spec 𝓤 𝓛 𝓜 𝓡 wired =
    let H = 𝓛.H in let 𝓣 = tables 𝓤 H 𝓜 𝓡 𝓡.env in let Pc : RattleType = piece_of.the_row in let Ld : RattleType = laid_of.the_row in let c = clauses 𝓛 𝓜.mem 𝓡.returns in
    let Rw : RattleType = row.the_row u64 in let Rt : RattleType = right_of.the_row heap.the_row ghosts in
    let words = plain (λ _. Rw) in let right = plain (λ _. Rt) in
    let hs : Stays ended.signature.params ended.kept = (stay_dropped words yes, (stay_dropped right yes, tt)) in
    proved 𝓛 ended hs c 𝓜 𝓡 (Goes-dropped 𝓛 0 words yes (λ κs x f. refl), (Goes-dropped 𝓛 0 right yes (λ κs x f. refl), tt))
    #self code.function (code.unfolded 𝓤 H 𝓜 𝓡 wired)
    (λ κs. ((λ x. one_of x.at ∷ []), ((λ _. token ∷ []), tt)))
    (λ κs. ((λ x vs so. places_told u64 x.at vs so.0), ((λ x vs so. mark_told heap.the_row vs so.0), tt))) (λ κs qs bounds a gh are.
    let p : Ptr = a.0.at in let ws : List ℕ = a.0.items in let gs : List Bool = a.0.filled in let d : Rt.Denot = a.1.0 in let n : ℕ = d.count in
    let y : (walk_of 𝓛 ended hs c).Ghost = ((κs, qs, bounds, a, (one_of p ∷ [], (token ∷ [], tt))), gh) in
    let b : ℕ = block_of p in let o : ℕ = count_of p in let p' : Ptr = block_ptr b o in let us : Ptr → List Val = λ r. one_of r ∷ token ∷ [] in
    let Post : Val → SProp 𝓤 = (walk_of 𝓛 ended hs c).post y in let Run : List Val → SProp 𝓤 = λ vs. WpFn 𝓤 H 𝓣.C 𝓣.Λ code.function vs Post in
    let Asked : Type 0 = (d.at ≡ p) × (length ws ≡ n) × Filled gs 0 (length ws) × (0 < n) in
    qed 𝓛 ((raw (alive 𝓛 ended.signature κs qs) ⊛ ‵ (owns (types_at ended.signature.params κs) a y.0.4)) ∷ raw (fact 𝓤 Asked) ∷ []) ∵
    move ! (1 ∷ 0 ∷ []) $ heard ! Asked (λ asked. split ! $ move ! (1 ∷ []) $ fsplit ! $ fsplit ! $ move ! (2 ∷ []) $ fsplit ! $ fsplit ! $
    -- [a mark; the right; nothing; an address; the words; alive]
    keep ! (4 ∷ 1 ∷ 5 ∷ []) $
    rewrite ! 0 (λ (t : List Bool). ‵ (owned u64 p (length ws) ws t)) (full_is (length ws) gs a.0.even asked.2) refl $
    use1 𝓛 (given (Fits 𝓛 p ws) (‵ (word_row (block_of p) (count_of p) ws))) (whole_out 𝓛 p ws) $ learn ! (λ fit.
    -- [the words; the right; alive]
    let at_p : p ≡ p' = at_block p fit.0 in
    suffices ! (Run (us p')) (subst (λ (r : Ptr). ent 𝓤 (Run (us p')) (Run (us r))) (sym at_p) (id⊢ 𝓤 (Run (us p')))) $
    enter ! 𝓣.C 𝓣.Λ code.function (us p') Post $ alloc_all ! (λ l. pass_all ! refl ((tt, (tt, tt)), ((tt, (tt, tt)), tt)) $
    sets ! (of_opd ! (get_in ! (fld ! refl (stop !)) (sub ! 0 refl (whole !)))) refl (tt, tt) $
    sets ! (agg ! (no_more !)) refl (tt, tt) $ sets ! (agg ! (and_then ! (get ! refl) (no_more !))) refl (tt, (tt, tt)) $
    sets ! (agg ! (and_then ! (get ! refl) (and_then ! (get ! refl) (no_more !)))) refl (tt, (tt, ((tt, tt), tt))) $
    let r : Pc.Denot = record { marker = record {}; at = d.at; count = n; words = ws } in let r' : Ld.Denot = record { at = p; piece = r } in
    let pair : Ptr → Val = λ q. vstruct (vcons (ptr_val q) (vcons token vnil)) in
    let Told : Type 0 = (p ≡ d.at) × (d.at ≡ d.at) × (n ≡ n) × (ws ≡ ws) in let many = asked.1 in let few = fit.1 in
    rewrite ! 0 (λ (t : Ptr). ‵ (word_row (block_of t) (count_of t) ws)) (sym asked.0) refl $
    move ! (1 ∷ []) $ use1 𝓛 (‵ (words_right n d.at)) (held n d.at asked.3 𝓛) $ move ! (1 ∷ 0 ∷ []) $ fjoin ! $ nothing ! $
    fpack ! (AreAt d.at n ws) (λ _. ftrue) (many, λ low. (subst InBlock (sym asked.0) fit.0, omega (arith, many, few))) $ fjoin ! $
    use0 𝓛 (‵ ((Mark u64).own_val (record {}, tt) (token ∷ []))) (mark_made u64 𝓛) $ fjoin ! $
    nothing ! $ move ! (1 ∷ 0 ∷ []) $ fjoin ! $ feq_i ! (List Val) (ptr_val p ∷ []) (ptr_val p ∷ []) refl $ fjoin ! $
    feq_i ! (List Val) (pair p ∷ []) (pair p ∷ []) refl $ fjoin ! $
    fpack ! (Valss (RawPtr ∷ Pc ∷ [])) (within (declared.shape laid_of.the_type) (p, (r, tt)) (pair p ∷ [])) (ptr_val p ∷ [], (token ∷ [], tt)) $
    rewrite ! 0 (λ (v : Val). ‵ (Ld.own_val r' (v ∷ []))) (ap pair at_p) refl $
    use0 𝓛 (raw (fact 𝓤 Told)) (fact_i 𝓤 Told (emp 𝓤) (sym asked.0, refl, refl, refl)) $
    nothing ! $ nothing ! $ fjoin ! $ nothing ! $ fjoin ! $
    returns ! (look_at ! 0 refl) $ free_all ! refl $ keep ! (3 ∷ 0 ∷ 2 ∷ 1 ∷ []) $
    by ! (leaves 𝓛 ended hs c y (pair p') r' (tt, (tt, tt)) (tt, (tt, tt)))))))
