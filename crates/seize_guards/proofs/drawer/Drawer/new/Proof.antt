-- `new` lays the value in the drawer. Assumes `Logic`.
use Rattle.std.proofs.Common.{Some, lit<, ◌≡◌, ℕ, List, [], ◌∷◌, ◌++◌, refl}
use mir.Syntax.{Args, Fn, a_type, dcons, dnil}
use mir.Val.{Val, vcons, vnil}
use mir.MapTy.{inst_fn}
use base.Logic.{SProp, emp}
use base.Fml.{ftrue}
use prog.Wp.{WpFn}
use contract.Monad.{fact, fact_i}
use contract.Running.{tables}
use types.Kit.{‵, raw, ◌⊛◌, prop, ◌$◌, ◌∵◌, !, qed, by, move, keep, drop, use0, use1, split, rewrite, regoal, fsplit, fjoin, fpack}
use types.Part.{agg}
use types.Match.{live}
use types.Run.{lit, of_opd, no_more, and_then, returns, enter}
use types.ByLocal.{alloc_all, pass_all, free_all, look_at, get, sets}
use denote.Exit.{no}
use denote.Laws.{Typed}
use denote.RattleType.{owns}
use denote.Param.{bounded, layout}
use denote.Param.Laws.{param_laws}
use denote.Signature.{plain, types_at}
use denote.Steps.{nothing}
use denote.Triple.Entry.{alive}
use denote.Triple.Walked.{Stays, stay_dropped, walk_of, Goes-dropped}
use Rattle.core.proofs.cell.Inside.{Good, one, round, Good-round}
use Rattle.core.proofs.option.Made.{Some-of}
use Rattle.std.proofs.ResultValues.{and_tt}
use Rattle.std.proofs.raw_atomic.Walks.{proved_at, leaves}
use Rattle.seize_guards.proofs.Drawers.{R, Held, F, puts_in}
use Rattle.seize_guards.specs.contracts.drawer.Drawer.new.{ended, clauses}
use Rattle.seize_guards.specs.contracts.drawer.Drawer.new.Key.{name as #self}
use Rattle.seize_guards.proofs.drawer.Drawer.new.Statement.{statement}
use Rattle.seize_guards.proofs.drawer.Drawer.new.Code as compiled

pub new_spec : {M : Type 1} → statement M
new_spec 𝓤 𝓛 𝓜 𝓡 wired Y laws g d met =
    let H = 𝓛.H in
    let ends = ended Y g d in
    let says = clauses Y g d 𝓛 𝓜.mem 𝓡.returns in
    let args : Args = bounded (a_type ∷ []) (Y, tt) (dcons d dnil) in
    let fn : Fn = inst_fn args compiled.function in
    let value = plain (λ _. R Y g) in
    let stays : Stays ends.signature.params ends.kept = (stay_dropped value no, tt) in
    let t = tables 𝓤 H 𝓜 𝓡 𝓡.env in
    proved_at 𝓛 ends stays says 𝓜 𝓡 (Goes-dropped 𝓛 1 value no (λ κs x f. refl), tt) (#self args) fn (compiled.unfolded 𝓤 H 𝓜 𝓡 wired (Y, tt) d) (λ z are.
    let Post : Val → SProp 𝓤 = (walk_of 𝓛 ends stays says).post z in
    let x : Y.Denot = z.0.3.0 in
    let n : ℕ = g.label x in
    let vs : List Val = z.0.4.0 in
    let got = one (layout Y) vs (((param_laws 0 Y laws).lawful 𝓛).typed x vs are.0) in
    let v : Val = got.0 in
    let u : Val = live 1 (vcons v vnil) in
    let some : Good (layout (Held Y g)) u = (and_tt _ got.2.0, (record { fits = lit< tt }, (got.2.1, tt))) in
    qed 𝓛 ((raw (alive 𝓛 ends.signature z.0.0 z.0.1) ⊛ ‵ (owns (types_at ends.signature.params z.0.0) z.0.3 z.0.4)) ∷ raw ((says z.0.0 z.0.3).requires z.1) ∷ []) ∵
    keep ! (0 ∷ []) $ split ! $ move ! (1 ∷ []) $ fsplit ! $ move ! (1 ∷ []) $ drop ! $
    rewrite ! 0 (λ (us : List Val). ‵ ((R Y g).own_val x us)) got.1 refl $
    regoal ! (λ (us : List Val). prop (WpFn 𝓤 H t.C t.Λ fn us Post)) (λ i. got.1 i ++ []) refl $
    enter ! t.C t.Λ fn (v ∷ []) Post $
    alloc_all ! (λ l. pass_all ! refl (got.2, tt) $
    sets ! (of_opd ! (get ! refl)) refl got.2 $
    sets ! (agg ! (and_then ! (lit ! tt) (and_then ! (get ! refl) (no_more !)))) refl some $
    sets ! (agg ! (and_then ! (get ! refl) (no_more !))) refl (Good-round [] (layout (Held Y g)) u some) $
    returns ! (look_at ! 0 refl) $ free_all ! refl $
    use1 𝓛 (‵ ((Held Y g).own_val (Some x) (u ∷ []))) (Some-of 𝓛 (R Y g) x v) $ puts_in Y g n ! (Some x) u refl $ nothing ! $ fpack ! (Typed (F Y g).mir (round u ∷ [])) (λ _. ftrue) (Good-round [] (layout (Held Y g)) u some, tt) $ fjoin ! $
    use0 𝓛 (raw (fact 𝓤 (n ≡ n))) (fact_i 𝓤 (n ≡ n) (emp 𝓤) refl) $ nothing ! $ nothing ! $ fjoin ! $ move ! (3 ∷ 0 ∷ 2 ∷ 1 ∷ []) $
    by ! (leaves 𝓛 ends stays says z (round u) n (tt, tt) (tt, tt))))
