-- `none` makes no words.
use Rattle.std.proofs.Common.{◌≡◌, [], ◌∷◌, refl, arith}
use mir.Val.{Val}
use base.Logic.{SProp, emp}
use base.Fml.{ftrue}
use types.Kit.{‵, raw, ◌⊛◌, ◌$◌, ◌∵◌, !, qed, by, keep, split, fjoin, fpack, use0}
use types.Run.{no_more, and_then, returns, enter}
use types.ByLocal.{alloc_all, pass_all, free_all, look_at, get, sets}
use types.Part.{agg}
use contract.Running.{tables}
use contract.Monad.{fact, fact_i}
use denote.RattleType.{RattleType, owns}
use denote.Signature.{types_at}
use denote.RawPtr.{null_ptr}
use denote.Steps.{nothing}
use denote.Builtin.{u64}
use denote.Triple.Entry.{alive}
use denote.Triple.Walked.{Stays, walk_of}
use Rattle.std.proofs.raw_atomic.Walks.{proved, leaves}
use Rattle.seize_seats.specs.Plots.Pieces.{AreAt}
use Rattle.seize_seats.specs.contracts.piece.Piece as piece_of
use Rattle.seize_seats.proofs.Plots.Fields.{token, Mark, mark_made}
use Rattle.seize_seats.specs.contracts.piece.Piece.none.{ended, clauses}
use Rattle.seize_seats.specs.contracts.piece.Piece.none.Key.{name as #self}
use Rattle.seize_seats.proofs.piece.Piece.none.Statement.{statement}
use Rattle.seize_seats.proofs.piece.Piece.none.Code as code

pub none_spec : {M : Type 1} → statement M
none_spec 𝓤 𝓛 𝓜 𝓡 wired =
    let H = 𝓛.H in let 𝓣 = tables 𝓤 H 𝓜 𝓡 𝓡.env in let Pc : RattleType = piece_of.the_row in let c = clauses 𝓛 𝓜.mem 𝓡.returns in
    let hs : Stays ended.signature.params ended.kept = tt in
    proved 𝓛 ended hs c 𝓜 𝓡 tt #self code.function (code.unfolded 𝓤 H 𝓜 𝓡 wired) (λ κs. tt) (λ κs. tt) (λ κs qs bounds a gh are.
    let y : (walk_of 𝓛 ended hs c).Ghost = ((κs, qs, bounds, a, tt), gh) in let Post : Val → SProp 𝓤 = (walk_of 𝓛 ended hs c).post y in
    qed 𝓛 ((raw (alive 𝓛 ended.signature κs qs) ⊛ ‵ (owns (types_at ended.signature.params κs) a y.0.4)) ∷ raw (emp 𝓤) ∷ []) ∵
    keep ! (0 ∷ []) $ split ! $ keep ! (0 ∷ []) $ enter ! 𝓣.C 𝓣.Λ code.function [] Post $ alloc_all ! (λ l. pass_all ! refl tt $
    sets ! (agg ! (no_more !)) refl (tt, tt) $ sets ! (agg ! (and_then ! (get ! refl) (no_more !))) refl (tt, (tt, tt)) $
    let r : Pc.Denot = record { marker = record {}; at = null_ptr; count = 0; words = [] } in
    let Told : Type 0 = (r.at ≡ null_ptr) × (r.count ≡ 0) × (r.words ≡ []) in
    nothing ! $ nothing ! $ fjoin ! $ nothing ! $ fpack ! (AreAt null_ptr 0 []) (λ _. ftrue) (refl, λ low. absurd (omega (arith, low))) $ fjoin ! $
    use0 𝓛 (‵ ((Mark u64).own_val (record {}, tt) (token ∷ []))) (mark_made u64 𝓛) $ fjoin ! $
    use0 𝓛 (raw (fact 𝓤 Told)) (fact_i 𝓤 Told (emp 𝓤) (refl, refl, refl)) $ nothing ! $
    returns ! (look_at ! 0 refl) $ free_all ! refl $ keep ! (3 ∷ 0 ∷ 2 ∷ 1 ∷ []) $
    by ! (leaves 𝓛 ended hs c y token r tt tt)))
