-- `stride_of` asks for the size of a place.
use Rattle.std.proofs.Common.{◌≡◌, ℕ, ◌^◌, ◌<◌, List, [], ◌∷◌, refl, w64}
use mir.Syntax.{a_type}
use mir.MapTy.{inst_fn}
use mir.Val.{Val, vint}
use prog.Memory.{capped}
use prog.Capped.{capped_fits}
use base.Logic.{SProp, emp}
use base.Fml.{ftrue}
use types.Kit.{‵, raw, ◌⊛◌, ◌$◌, ◌∵◌, !, qed, by, keep, use0, split, fjoin, feq_i, flt_i}
use types.Run.{size_word, of_opd, returns, enter}
use types.ByLocal.{alloc_all, pass_all, free_all, look_at, sets}
use contract.Running.{tables}
use contract.Monad.{fact, fact_i}
use denote.RattleType.{RattleType}
use denote.Param.{param, layouts}
use denote.Steps.{nothing}
use denote.Triple.Entry.{alive}
use denote.Triple.Walked.{walk_of}
use Rattle.std.proofs.raw_atomic.Walks.{proved, leaves}
use Rattle.seize_seats.specs.Seats.Owned.{stride}
use Rattle.seize_seats.specs.contracts.plot.stride_of.{ended, clauses}
use Rattle.seize_seats.specs.contracts.plot.stride_of.Key.{name as #self}
use Rattle.seize_seats.proofs.plot.stride_of.Statement.{statement}
use Rattle.seize_seats.proofs.plot.stride_of.Code as code

pub stride_of_spec : {M : Type 1} → statement M
stride_of_spec 𝓤 𝓛 𝓜 𝓡 wired T L =
    let H = 𝓛.H in let 𝓣 = tables 𝓤 H 𝓜 𝓡 𝓡.env in let R : RattleType = param 0 T in let En = ended T in let c = clauses T 𝓛 𝓜.mem 𝓡.returns in
    let inst = layouts (a_type ∷ []) (T, tt) in let fn = inst_fn inst code.function in
    proved 𝓛 En tt c 𝓜 𝓡 tt (#self inst) fn (code.unfolded 𝓤 H 𝓜 𝓡 wired (T, tt)) (λ κs. tt) (λ κs. tt) (λ κs qs bounds a gh are.
    let y : (walk_of 𝓛 En tt c).Ghost = ((κs, qs, bounds, a, tt), gh) in let Post : Val → SProp 𝓤 = (walk_of 𝓛 En tt c).post y in
    qed 𝓛 ((raw (alive 𝓛 En.signature κs qs) ⊛ ‵ ftrue) ∷ raw ((c κs a).requires gh) ∷ []) ∵ split ! $ keep ! (0 ∷ []) $
    enter ! 𝓣.C 𝓣.Λ fn [] Post $ alloc_all ! (λ l. pass_all ! refl tt $
    let n : ℕ = capped (stride R) in let fits : n < 2 ^ 64 = capped_fits (stride R) in let Told : Type 0 = n ≡ n in
    sets ! (of_opd ! (size_word !)) refl (tt, record { fits = fits }) $
    use0 𝓛 (raw (fact 𝓤 Told)) (fact_i 𝓤 Told (emp 𝓤) refl) $ flt_i ! n (2 ^ 64) fits $ feq_i ! (List Val) (vint w64 n ∷ []) (vint w64 n ∷ []) refl $ fjoin ! $
    nothing ! $ returns ! (look_at ! 0 refl) $ free_all ! refl $ keep ! (3 ∷ 0 ∷ 1 ∷ 2 ∷ []) $ by ! (leaves 𝓛 En tt c y (vint w64 n) n tt tt)))
