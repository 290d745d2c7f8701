-- The steps of the retirement are those of the call.
use Rattle.std.proofs.Common.{sym, ap, subst, ◌∙◌}
use Rattle.map_straight.specs.Given.ResizeDeclared.dispose.Disposing.{Disposing}
use Rattle.papaya_raw.specs.declared.machines.call.Calling.{Calling}
use Rattle.papaya_raw.specs.declared.machines.call.Calling.TheVariants as at
use Rattle.seize.specs.declared.advance.Advance.TheVariants as progress
use Rattle.owner_whole.specs.Strides.Ending.{Ends, Strides}
use Rattle.owner_calls.specs.Owned.Inside.{answered, retiring}
use Rattle.owner_calls.specs.declared.machines.Stop.TheVariants as stop
use Rattle.owner_calls.specs.Owned.Machines.{on_key_plan}
use Rattle.owner_calls.proofs.machines.OnKey.disposes.Goals as goal

pub retires-requires : goal.retires-requires
retires-requires g c =
    let r = c.requires in (
      c.args.self.now,
      c.args.answer,
      c.args.dispose,
      subst (λ (stands : Calling). Ends (on_key_plan {V = g.row.V.Denot} g.Q.Equivalent.equivalent g.K.PartialEq.eq g.S.Hashes.hash) (record c.args.self.now { call = record c.args.self.now.call { stands = stands } }) c.args.memory.now)
          (r.disposing ∙ ap (λ (d : Disposing). at.Disposes (record c.args.dispose { stands = d }) c.args.answer) r.retiring) r.ends,
    )

pub returns-then-retires : goal.returns-then-retires
returns-then-retires g c =
    let r = c.requires in
    subst (λ (stands : Calling). Strides (on_key_plan {V = g.row.V.Denot} g.Q.Equivalent.equivalent g.K.PartialEq.eq g.S.Hashes.hash) (record c.args.self.now { call = record c.args.self.now.call { stands = stands } })
    c.args.memory.now c.retires.new.memory (answered c.args.self.now c.args.answer, progress.Done (stop.Answered c.args.answer))) (sym (r.disposing ∙ ap (λ (d : Disposing). at.Disposes (record c.args.dispose { stands = d }) c.args.answer) r.retiring))
    (c.retires.ensures.over c.args.self.now c.args.answer c.args.dispose c.if-retires.true)

pub returns : goal.returns
returns g c =
    let r = c.requires in
    subst (λ (stands : Calling). Strides (on_key_plan {V = g.row.V.Denot} g.Q.Equivalent.equivalent g.K.PartialEq.eq g.S.Hashes.hash) (record c.args.self.now { call = record c.args.self.now.call { stands = stands } })
    c.args.memory.now c.retires.new.memory (retiring c.args.self.now c.args.answer c.args.dispose c.retires.new.settle, progress.Goes)) (sym (r.disposing ∙ ap (λ (d : Disposing). at.Disposes (record c.args.dispose { stands = d }) c.args.answer) r.retiring))
    (c.retires.ensures.on c.args.self.now c.args.answer c.args.dispose c.if-retires.false)
