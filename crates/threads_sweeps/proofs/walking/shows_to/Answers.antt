use Rattle.std.proofs.Common.{ap}
use Rattle.papaya_raw.specs.Given.ReservesDeclared.sweep.Purpose.TheVariants.{Walks}
use Rattle.papaya_raw.specs.declared.machines.machine.Machine.TheVariants as kinds
use Rattle.threads_sweeps.proofs.Gone.{may_go_over}
use Rattle.threads_sweeps.proofs.walking.shows_to.Goals as goal

pub sends-requires-clause-asks : goal.sends-requires-clause-asks
sends-requires-clause-asks g c =
    let x = c.args.session.now in (
      rw (c.hasher-hasher.ensures)
          (may_go_over g.K.PartialEq.eq g.S.Hashes.hash Walks x.caller.seat.view x.setting c.setting.result x.hasher.now x.slot (kinds.Sweep c.walk-sweep.result) x.caller.lone c.requires.inside x.free
          x.knows c.setting.ensures (ap kinds.Sweep c.walk-sweep.ensures)),
      c.requires.may,
    )

pub sends-requires-clause-ends : goal.sends-requires-clause-ends
sends-requires-clause-ends g c = λ answer w did. (did.0.free, did.0.stays)

pub returns-clause-gone : goal.returns-clause-gone
returns-clause-gone g c = c.sends.ensures.did.0.ran

pub returns-clause-shown : goal.returns-clause-shown
returns-clause-shown g c = c.sends.ensures.did.1
