-- `into_inner` takes the value out. Assumes `Logic`.
use Rattle.std.proofs.Common.{ℕ, List, [], ◌∷◌, ◌++◌, refl}
use mir.Syntax.{Args, Fn, a_type, dcons, dnil}
use mir.Val.{Val}
use mir.MapTy.{inst_fn}
use base.Logic.{SProp, emp}
use prog.Wp.{WpFn}
use contract.Monad.{fact, fact_i}
use contract.Running.{tables}
use types.Kit.{‵, raw, ◌⊛◌, prop, ◌$◌, ◌∵◌, !, qed, by, move, keep, drop, use0, split, regoal, fsplit, fjoin}
use types.Part.{whole, sub}
use types.Run.{stop, fld, of_opd, returns, enter}
use types.ByLocal.{alloc_all, pass_all, free_all, look_at, get, get_in, sets}
use denote.Exit.{no}
use denote.RattleType.{owns}
use denote.Param.{bounded, layout}
use denote.Signature.{plain, types_at}
use denote.Steps.{nothing}
use denote.Triple.Entry.{alive}
use denote.Triple.Walked.{Stays, stay_dropped, walk_of, Goes-dropped}
use Rattle.core.proofs.cell.Inside.{round, Good-round}
use Rattle.std.proofs.raw_atomic.Walks.{proved_at, leaves}
use Rattle.seize_guards.proofs.Drawers.{R, Held, Is, held_is_lawful, takes_out}
use Rattle.seize_guards.specs.contracts.drawer.Drawer as drawer
use Rattle.seize_guards.specs.contracts.drawer.Drawer.into_inner.{ended, clauses}
use Rattle.seize_guards.specs.contracts.drawer.Drawer.into_inner.Key.{name as #self}
use Rattle.seize_guards.proofs.drawer.Drawer.into_inner.Statement.{statement}
use Rattle.seize_guards.proofs.drawer.Drawer.into_inner.Code as compiled

pub into_inner_spec : {M : Type 1} → statement M
into_inner_spec 𝓤 𝓛 𝓜 𝓡 wired Y laws g d met =
    let H = 𝓛.H in
    let ends = ended Y g d in
    let says = clauses Y g d 𝓛 𝓜.mem 𝓡.returns in
    let args : Args = bounded (a_type ∷ []) (Y, tt) (dcons d dnil) in
    let fn : Fn = inst_fn args compiled.function in
    let whole_of = plain (λ _. drawer.the_row (R Y g) g) in
    let stays : Stays ends.signature.params ends.kept = (stay_dropped whole_of no, tt) in
    let t = tables 𝓤 H 𝓜 𝓡 𝓡.env in
    proved_at 𝓛 ends stays says 𝓜 𝓡 (Goes-dropped 𝓛 1 whole_of no (λ κs x f. refl), tt) (#self args) fn (compiled.unfolded 𝓤 H 𝓜 𝓡 wired (Y, tt) d) (λ z are.
    let Post : Val → SProp 𝓤 = (walk_of 𝓛 ends stays says).post z in
    let n : ℕ = z.0.3.0 in
    let vs : List Val = z.0.4.0 in
    qed 𝓛 ((raw (alive 𝓛 ends.signature z.0.0 z.0.1) ⊛ ‵ (owns (types_at ends.signature.params z.0.0) z.0.3 z.0.4)) ∷ raw ((says z.0.0 z.0.3).requires z.1) ∷ []) ∵
    keep ! (0 ∷ []) $ split ! $ move ! (1 ∷ []) $ fsplit ! $ move ! (1 ∷ []) $ drop ! $ fsplit ! $ drop ! $
    takes_out Y g n ! (held_is_lawful Y g laws 𝓛) vs (λ x v is good e.
    regoal ! (λ (us : List Val). prop (WpFn 𝓤 H t.C t.Λ fn us Post)) (λ i. e i ++ []) refl $
    enter ! t.C t.Λ fn (round v ∷ []) Post $
    alloc_all ! (λ l. pass_all ! refl (Good-round [] (layout (Held Y g)) v good, tt) $
    sets ! (of_opd ! (get_in ! (fld ! refl (stop !)) (sub ! 0 refl (whole !)))) refl good $
    sets ! (of_opd ! (get ! refl)) refl good $
    returns ! (look_at ! 0 refl) $ free_all ! refl $
    use0 𝓛 (raw (fact 𝓤 (Is Y g n x))) (fact_i 𝓤 (Is Y g n x) (emp 𝓤) is) $ nothing ! $ nothing ! $ fjoin ! $ move ! (3 ∷ 0 ∷ 2 ∷ 1 ∷ []) $
    by ! (leaves 𝓛 ends stays says z v x (tt, tt) (tt, tt)))))
