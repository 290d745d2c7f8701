-- `next` takes the words in the first spot.
use Rattle.std.proofs.Common.{◌≡◌, ℕ, List, [], ◌∷◌, refl}
use mir.Val.{Val, vstruct, vcons, vnil}
use base.Logic.{SProp, emp}
use types.Kit.{‵, raw, ◌⊛◌, ◌$◌, ◌∵◌, !, qed, by, move, keep, split, fsplit, fjoin, fpick, fpack, feq_i, use0, use1}
use types.Run.{no_more, and_then, returns, enter}
use types.ByLocal.{alloc_all, pass_all, free_all, look_at, get, sets}
use types.Part.{agg}
use contract.Running.{tables}
use contract.Monad.{fact, fact_i}
use denote.Exit.{yes}
use denote.RattleType.{RattleType, Valss, owns}
use denote.Struct.Struct.{within}
use denote.Struct.Declared as declared
use denote.Struct.Tuple.{tuple_type}
use denote.Signature.{types_at, plain}
use denote.RawPtr.{Ptr}
use denote.Steps.{nothing}
use denote.Builtin.{u64}
use denote.Triple.Entry.{alive}
use denote.Triple.Walked.{Stays, stay_dropped, walk_of, Goes-dropped}
use Rattle.std.proofs.raw_atomic.Walks.{proved, leaves}
use Rattle.seize_seats.specs.Plots.Pieces.{some_piece, all_pieces, first_spot, other_spots}
use Rattle.seize_seats.specs.contracts.piece.Piece as piece_of
use Rattle.seize_seats.specs.contracts.pieces.Pieces as pieces_of
use Rattle.seize_seats.proofs.Plots.Spots.{first}
use Rattle.seize_seats.proofs.Plots.Fields.{token, Mark, mark_told, mark_made}
use Rattle.seize_seats.specs.contracts.pieces.Pieces.next.{ended, clauses}
use Rattle.seize_seats.specs.contracts.pieces.Pieces.next.Key.{name as #self}
use Rattle.seize_seats.proofs.pieces.Pieces.next.Statement.{statement}
use Rattle.seize_seats.proofs.pieces.Pieces.next.Code as code

pub next_spec : {M : Type 1} → statement M
next_spec 𝓤 𝓛 𝓜 𝓡 wired =
    let H = 𝓛.H in let 𝓣 = tables 𝓤 H 𝓜 𝓡 𝓡.env in let Pc : RattleType = piece_of.the_row in let Ps : RattleType = pieces_of.the_row in
    let c = clauses 𝓛 𝓜.mem 𝓡.returns in let self = plain (λ _. Ps) in
    let hs : Stays ended.signature.params ended.kept = (stay_dropped self yes, tt) in
    proved 𝓛 ended hs c 𝓜 𝓡 (Goes-dropped 𝓛 0 self yes (λ κs x f. refl), tt) #self code.function (code.unfolded 𝓤 H 𝓜 𝓡 wired)
    (λ κs. ((λ _. token ∷ []), tt)) (λ κs. ((λ x vs so. mark_told u64 vs so.0), tt)) (λ κs qs bounds a gh are.
    let ss : List (Ptr × ℕ) = a.0.spots in let s : Ptr × ℕ = first_spot ss in let rest : List (Ptr × ℕ) = other_spots ss in
    let y : (walk_of 𝓛 ended hs c).Ghost = ((κs, qs, bounds, a, (token ∷ [], tt)), gh) in let Post : Val → SProp 𝓤 = (walk_of 𝓛 ended hs c).post y in
    qed 𝓛 ((raw (alive 𝓛 ended.signature κs qs) ⊛ ‵ (owns (types_at ended.signature.params κs) a y.0.4)) ∷ raw (emp 𝓤) ∷ []) ∵
    keep ! (0 ∷ []) $ split ! $ move ! (1 ∷ []) $ fsplit ! $ fsplit ! $ keep ! (1 ∷ 3 ∷ []) $
    use1 𝓛 (‵ (some_piece s) ⊛ ‵ (all_pieces rest)) (first 𝓛 ss) $ split ! $ fpick ! (λ ws.
    -- [the first; the others; alive]
    enter ! 𝓣.C 𝓣.Λ code.function (token ∷ []) Post $ alloc_all ! (λ l. pass_all ! refl ((tt, (tt, tt)), tt) $
    sets ! (agg ! (no_more !)) refl (tt, tt) $ sets ! (agg ! (and_then ! (get ! refl) (no_more !))) refl (tt, (tt, tt)) $
    sets ! (agg ! (no_more !)) refl (tt, tt) $ sets ! (agg ! (and_then ! (get ! refl) (no_more !))) refl (tt, (tt, tt)) $
    sets ! (agg ! (and_then ! (get ! refl) (and_then ! (get ! refl) (no_more !)))) refl (tt, ((tt, tt), ((tt, tt), tt))) $
    let r₁ : Pc.Denot = record { marker = record {}; at = s.0; count = s.1; words = ws } in
    let r₂ : Ps.Denot = record { marker = record {}; spots = rest } in let pair : Val = vstruct (vcons token (vcons token vnil)) in
    let Told : Type 0 = (s.0 ≡ s.0) × (s.1 ≡ s.1) × (rest ≡ rest) in
    use0 𝓛 (‵ ((Mark u64).own_val (record {}, tt) (token ∷ []))) (mark_made u64 𝓛) $ fjoin ! $ move ! (1 ∷ []) $
    use0 𝓛 (‵ ((Mark u64).own_val (record {}, tt) (token ∷ []))) (mark_made u64 𝓛) $ fjoin ! $
    -- [the others; the first; alive]
    nothing ! $ move ! (1 ∷ 0 ∷ []) $ fjoin ! $ move ! (1 ∷ 0 ∷ []) $ fjoin ! $ feq_i ! (List Val) (pair ∷ []) (pair ∷ []) refl $ fjoin ! $
    fpack ! (Valss (Pc ∷ Ps ∷ [])) (within (declared.shape (tuple_type (Pc ∷ Ps ∷ []))) (r₁, (r₂, tt)) (pair ∷ [])) (token ∷ [], (token ∷ [], tt)) $
    use0 𝓛 (raw (fact 𝓤 Told)) (fact_i 𝓤 Told (emp 𝓤) (refl, refl, refl)) $ nothing ! $ nothing ! $ fjoin ! $
    returns ! (look_at ! 0 refl) $ free_all ! refl $ keep ! (3 ∷ 0 ∷ 2 ∷ 1 ∷ []) $
    by ! (leaves 𝓛 ended hs c y pair (r₁, r₂) (tt, tt) (tt, tt)))))
