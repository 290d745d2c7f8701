use Rattle.std.proofs.Common.{◌≡◌, sym, subst, ◌∙◌}
use Rattle.map_tables.specs.declared.lent.Lent.{Lent}
use Rattle.papaya_raw.specs.CallAsks.{removing_if}
use Rattle.papaya_raw.specs.declared.machines.call.KeyCall.{KeyCall}
use Rattle.papaya_raw.specs.declared.machines.machine.Machine.TheVariants.{Key}
use Rattle.threads_steps.specs.Given.ActsActs.{RemoveIf, Wanted}
use Rattle.threads_steps.specs.Given.ByKey.{key_call}
use Rattle.threads_steps.specs.Given.ViewsDeclared.view.View.{View}
use Rattle.threads_steps.specs.Asking.{HasAnswered, MayTest, TestSays, removes_if}
use Rattle.threads_steps.specs.Given.ErrandsCalling.{MayDoAs, wanted_of}
use Rattle.threads_steps.proofs.Given.Keeping.{kept_same}
use Rattle.threads_errands.proofs.errands.RemovesIfErrandNodeOfMaps.run.Goals as goal

-- asked with what stands for a key, lent, it is the call by that key
pub removes_if-requires-clause-may : goal.removes_if-requires-clause-may
removes_if-requires-clause-may g c =
    let asks = c.requires.2 in let x = c.args.self in let was = c.new-within.ensures.seat in
    let before : c.args.seat.now.view ≡ c.new-within.result.seat.now.view = cc was in (
      asks.0,
      subst
          (λ (call : KeyCall g.row.K.Denot g.row.V.Denot (Lent g.row.K.Denot g.row.Q.Denot)).
          MayDoAs g.K.PartialEq.eq g.S.Hashes.hash removes_if asks.0 x.hasher.now (Key (key_call (λ (q : Lent g.row.K.Denot g.row.Q.Denot). g.Q.Equivalent.stands_for q.asked.now) call)) c.new-within.result.seat.now.view)
          (sym c.remove_if-call.ensures)
          (subst (λ (v : View g.row.K.Denot g.row.V.Denot g.row.S.Denot). MayDoAs g.K.PartialEq.eq g.S.Hashes.hash removes_if asks.0 x.hasher.now (Key (removing_if x.setting x.hash (g.Q.Equivalent.stands_for x.key.now))) v) before asks.1),
    )

-- the seat is the one that was lent
pub returns : goal.returns
returns g c =
    let says = TestSays (MayTest g.F.Fn c.args.self.test.now) in
    let s = kept_same _ _ _ _ _ _ _ _ c.removes_if.ensures.same in
    let blocks = s.0 in let name = s.1 in let id = s.2 in let away = s.3 in
    let is = c.seat-1.given.1 (sym (name ∙ c.new-within.ensures.name)) in
    let was = c.new-within.ensures.seat in let own = c.removes_if.new.self.own in let first = c.new-within.result.own in
    let before : c.new-within.result.seat.now.view ≡ c.args.seat.now.view = cc was in
    let after : c.removes_if.new.self.seat.now.view ≡ c.seat-1.given.0.view = cc is in
    let answered =
    subst
    (λ (x : KeyCall g.row.K.Denot g.row.V.Denot (Lent g.row.K.Denot g.row.Q.Denot)).
    HasAnswered g.K.PartialEq.eq g.S.Hashes.hash says (wanted_of (Key (key_call (λ (q : Lent g.row.K.Denot g.row.Q.Denot). g.Q.Equivalent.stands_for q.asked.now) x))) c.removes_if.result.told c.new-within.result.seat.now.view c.removes_if.new.self.seat.now.view)
    c.remove_if-call.ensures c.removes_if.ensures.answered in
    let wanted : Wanted g.row.K.Denot g.row.V.Denot = RemoveIf (g.Q.Equivalent.stands_for c.args.self.key.now) in (
      cc (is, own, blocks, first, was),
      cc (is, id, was),
      cc (is, away, was),
      subst (λ (v : View g.row.K.Denot g.row.V.Denot g.row.S.Denot). HasAnswered g.K.PartialEq.eq g.S.Hashes.hash says wanted c.removes_if.result.told v c.seat-1.given.0.view) before
          (subst (λ (w : View g.row.K.Denot g.row.V.Denot g.row.S.Denot). HasAnswered g.K.PartialEq.eq g.S.Hashes.hash says wanted c.removes_if.result.told c.new-within.result.seat.now.view w) after answered),
    )
