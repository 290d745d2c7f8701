-- `replace` opens the drawer with the thread's token, reads what lies there, writes the other, and shuts it. Assumes `Logic`.
use Rattle.std.proofs.Common.{ℕ, List, [], ◌∷◌, ◌++◌, refl, subst}
use mir.Syntax.{Args, Fn, a_type, dcons, dnil}
use mir.Val.{Val, vptr}
use mir.MapTy.{inst_fn}
use base.Logic.{SProp, emp, via, fst∗, snd∗}
use base.Fml.{Lft, Share, ftrue, flft, ftok}
use base.Mask.{every}
use prog.Wp.{Env, WpFn, Tables}
use contract.Beside.{Carries}
use contract.BorrowLft.{◌⊑◌}
use contract.Monad.{fact, fact_i, fact_use}
use contract.Named.{bare_unfolds}
use contract.Running.{tables_of, bare_tables}
use sound.WpLaws.{WpFn-mono}
use types.Logic.{sem}
use types.Kit.{‵, raw, ◌⊛◌, prop, at_ret, ◌$◌, ◌∵◌, !, qed, by, move, keep, use0, split, split3, join, rewrite, regoal, fsplit, fjoin}
use types.Part.{whole, sub, look_in, store_in}
use types.Run.{stop, fld, load, addr, of_opd, assigns, first, blocks, exec, returns, enter}
use types.ByLocal.{alloc_all, pass_all, free_all, look_at, get, through, sets, sets_last, env}
use denote.Exit.{rest, yes, no}
use denote.Builtin.{RefOf}
use denote.Laws.{Are, Ises, owns_show, showss}
use denote.RattleType.{RattleType, owns}
use denote.Param.{bounded, layout}
use denote.Signature.{plain, types_at}
use denote.Steps.{nothing, heard}
use denote.Triple.Clauses.{closing}
use denote.Triple.Entry.{on_entry, alive}
use denote.Triple.Handed.{holding, hands}
use denote.Triple.Spec.{triple_of}
use denote.Triple.Table.{entered}
use denote.Triple.Walked.{Stays, stay_dropped, walk_of, walk_Meets, Goes-dropped}
use Rattle.core.proofs.alloc.Calls.{Goes-blank}
use Rattle.core.proofs.alloc.Shapes.{after}
use Rattle.core.proofs.cell.Inside.{one}
use Rattle.std.proofs.raw_atomic.Walks.{leaves}
use Rattle.seize_guards.proofs.Drawers.{R, Held, Is, is_gone, held_is_lawful, opens, shuts}
use Rattle.seize_guards.specs.contracts.drawer.Drawer as drawer
use Rattle.seize_guards.specs.contracts.drawer.Drawer.replace.{ended, clauses}
use Rattle.seize_guards.specs.contracts.drawer.Drawer.replace.Key.{name as #self}
use Rattle.seize_guards.proofs.drawer.Drawer.replace.Statement.{statement}
use Rattle.seize_guards.proofs.drawer.Drawer.replace.Code as compiled
use Rattle.seize_guards.proofs.drawer.Drawer.replace.Code.{code}

pub replace_spec : {M : Type 1} → statement M
unfolding tables_of code
replace_spec 𝓤 𝓛 𝓜 𝓡 wired Y laws g d met =
    let H = 𝓛.H in
    let A = 𝓛.A in
    let ends = ended Y g d in
    let told = clauses Y g d 𝓛 𝓜.mem 𝓡.returns in
    let args : Args = bounded (a_type ∷ []) (Y, tt) (dcons d dnil) in
    let fn : Fn = inst_fn args compiled.function in
    let self = RefOf (0 ∷ []) tt (plain (λ _. drawer.the_row (R Y g) g)) (λ _. tt) in
    let value = plain (λ _. Held Y g) in
    let stays : Stays ends.signature.params ends.kept = (stay_dropped self yes, (stay_dropped value no, tt)) in
    let says = holding 𝓤 ends (A.tok every) told in
    let carried : Carries 𝓤 H 𝓜 (A.tok every) = subst (Carries 𝓤 H 𝓜) 𝓛.turn_is 𝓡.carries in
    let t : Tables 𝓤 H = tables_of 𝓤 H carried.inner (bare_tables 𝓤 H carried.inner 𝓡.allowed 𝓡.how 𝓡.env) in
    let L = held_is_lawful Y g laws 𝓛 in
    hands 𝓛 ends (A.tok every) told 𝓜 carried 𝓡 (𝓡.env (#self args))
    (entered 𝓤 H (triple_of 𝓛 ends.signature (closing 𝓛 ends says)) t.C t.Λ (#self args) fn (bare_unfolds 𝓤 H carried.inner 𝓡.allowed 𝓡.how 𝓡.env (#self args) fn (wired.0.0 (#self args) refl))
    (walk_Meets 𝓛 ends stays (Goes-dropped 𝓛 2 self yes (λ κs x f. refl), (Goes-blank 𝓛 2 value no (λ κs. is_gone Y g), tt)) says (WpFn 𝓤 H t.C t.Λ fn) (WpFn-mono 𝓤 H 𝓛.laws t fn) (λ z.
    let a = z.0.3 in
    let vss = z.0.4 in
    let Rs : List RattleType = types_at ends.signature.params z.0.0 in
    let Own : SProp 𝓤 = sem 𝓛 (owns Rs a vss) in
    fact_use 𝓤 (Are Rs (Ises Rs) a vss)
    (via 𝓤 Own (via 𝓤 (on_entry 𝓛 ends.signature z.0.0 z.0.1 a vss) (fst∗ 𝓤 (on_entry 𝓛 ends.signature z.0.0 z.0.1 a vss) ((says z.0.0 a).requires z.1))
    (snd∗ 𝓤 (alive 𝓛 ends.signature z.0.0 z.0.1) Own)) (owns_show 𝓛 Rs (Ises Rs) (showss 𝓛 Rs) a vss)) (λ are.
    let Post : Val → SProp 𝓤 = (walk_of 𝓛 ends stays says).post z in
    let κ : Lft = z.0.0.0 in
    let q : Share = z.0.1.0 in
    let b : ℕ = a.0.ref_ptr.0 in
    let o : ℕ = a.0.ref_ptr.1 in
    let n : ℕ = a.0.now in
    let new : (Held Y g).Denot = a.1.0 in
    let got = one (layout (Held Y g)) vss.1.0 (L.typed new vss.1.0 are.1.0) in
    let w : Val = got.0 in
    let good = got.2 in
    let Same : Type 0 = Is Y g n new in
    qed 𝓛 (((‵ (flft κ q) ⊛ ‵ (flft z.0.0.1.0 z.0.1.1.0) ⊛ ‵ ftrue) ⊛ ‵ (owns Rs a vss)) ∷ (‵ (ftok every) ⊛ raw (fact 𝓤 (z.0.0.1.0 ⊑ Y.lives)) ⊛ raw (fact 𝓤 Same)) ∷ []) ∵
    move ! (1 ∷ []) $ split3 ! $ move ! (2 ∷ []) $ heard ! Same (λ same.
    move ! (2 ∷ []) $ split ! $ split3 ! $ move ! (3 ∷ []) $ fsplit ! $ fsplit ! $ move ! (2 ∷ []) $ fsplit ! $
    rewrite ! 0 (λ (us : List Val). ‵ ((Held Y g).own_val new us)) got.1 refl $ keep ! (3 ∷ 4 ∷ 7 ∷ 0 ∷ 5 ∷ []) $
    regoal ! (λ (us : List Val). prop (WpFn 𝓤 H t.C t.Λ fn us Post)) (λ i. are.0.0 i ++ (got.1 i ++ [])) refl $
    enter ! t.C t.Λ fn (vptr b o ∷ w ∷ []) Post $
    alloc_all ! (λ l. pass_all ! refl ((tt, tt), (good, tt)) $ let En : Env 𝓤 H = env fn.locals l in
    opens Y g n b o ! tt L (λ x v is typed.
    sets ! (addr ! (through ! refl (fld ! refl (stop !)))) refl (tt, tt) $
    first ! $ blocks ! $
    sets ! (of_opd ! (load ! (through ! refl (stop !)) (look_in ! 0 (sub ! 0 refl (whole !))))) refl typed $
    sets ! (of_opd ! (get ! refl)) refl good $
    assigns ! (of_opd ! (get ! refl)) (through ! refl (stop !)) (store_in ! 0 (sub ! 0 refl (whole !)) good) $
    sets_last ! (of_opd ! (get ! refl)) refl typed $
    exec ! t.C t.Λ En (after 2 fn.body) (at_ret En Post) $
    sets ! (of_opd ! (get ! refl)) refl typed $
    move ! (0 ∷ 3 ∷ 2 ∷ []) $ shuts Y g n b o ! tt new w same $
    returns ! (look_at ! 0 refl) $ free_all ! refl $
    use0 𝓛 (raw (fact 𝓤 (Is Y g n x))) (fact_i 𝓤 (Is Y g n x) (emp 𝓤) is) $ move ! (2 ∷ 0 ∷ []) $ join ! $
    nothing ! $ nothing ! $ fjoin ! $ nothing ! $ fjoin ! $ nothing ! $ move ! (5 ∷ 0 ∷ []) $ join ! $ move ! (3 ∷ 0 ∷ []) $ join ! $ move ! (0 ∷ 1 ∷ 3 ∷ []) $
    by ! (leaves 𝓛 ends stays says z v x (tt, (rest ((Held Y g).exit no) new, tt)) (tt, (tt, tt))))))))))
