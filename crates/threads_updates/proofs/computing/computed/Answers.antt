use Rattle.std.proofs.Common.{◌≡◌, refl, sym, subst, ap, ◌∙◌}
use Rattle.papaya_raw.specs.declared.machines.machine.Machine.TheVariants as kinds
use Rattle.threads_calls.specs.Given.ErrandsCalling.{MayDoAs}
use Rattle.threads_calls.specs.Given.ActsActs.{Compute}
use Rattle.threads_calls.specs.Given.ViewsDeclared.view.View.{View}
use Rattle.threads_updates.specs.Computing.{Once, computes}
use Rattle.threads_updates.proofs.Asked.{first, may_compute, once_by}
use Rattle.threads_updates.proofs.computing.computed.Goals as goal

pub sends-once-requires-clause-asks : goal.sends-once-requires-clause-asks
sends-once-requires-clause-asks g c =
    let x = c.args.session.now in let v = x.caller.seat.view in let its = c.hasher-hasher.ensures in (
      first,
      refl,
      subst (λ (h : g.row.S.Denot). MayDoAs g.K.PartialEq.eq g.S.Hashes.hash computes first h (kinds.Key c.compute-call.result) v) (sym its)
          (may_compute g.K.PartialEq.eq g.S.Hashes.hash v x.setting c.setting.result x.hasher.now c.args.key c.hash_of-hash.result x.slot c.compute-call.result x.caller.lone c.requires.inside x.free
          x.knows c.setting.ensures (c.hash_of-hash.ensures ∙ ap (λ (h : g.row.S.Denot). g.S.Hashes.hash h c.args.key) its) c.compute-call.ensures),
      c.requires.may,
    )

pub sends-once-requires-clause-ends : goal.sends-once-requires-clause-ends
sends-once-requires-clause-ends g c = λ answer w did. (did.answered.free, did.answered.stays)

pub returns-clause-came : goal.returns-clause-came
returns-clause-came g c =
    let came = once_by g.K.PartialEq.eq g.S.Hashes.hash (g.D.Decides.gives c.args.decider.now) c.args.session.now.caller.seat.view c.sends-once.new.self.caller.seat.view c.compute-call.ensures
    c.sends-once.result c.sends-once.ensures.did in
    let same : c.sends-once.new.self.caller.seat.view ≡ c.looks_near.new.self.caller.seat.view = cc c.looks_near.ensures.seat in
    subst (λ (w : View g.row.K.Denot g.row.V.Denot g.row.S.Denot). Once g.K.PartialEq.eq g.S.Hashes.hash (g.D.Decides.gives c.args.decider.now) (Compute c.args.key) c.sends-once.result c.args.session.now.caller.seat.view w)
    same came

pub returns-clause-inside : goal.returns-clause-inside
returns-clause-inside g c = cc (c.looks_near.ensures.seat, c.looks_near.ensures.slot, c.sends-once.ensures.inside)

pub returns-clause-slot : goal.returns-clause-slot
returns-clause-slot g c = c.looks_near.ensures.slot ∙ c.sends-once.ensures.slot

pub returns-clause-map : goal.returns-clause-map
returns-clause-map g c = cc (c.looks_near.ensures.seat, c.sends-once.ensures.map)

pub returns-clause-blocks : goal.returns-clause-blocks
returns-clause-blocks g c = c.looks_near.ensures.blocks ∙ c.sends-once.ensures.blocks
