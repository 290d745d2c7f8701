use Rattle.papaya_raw.specs.CallPoints.{removing}
use Rattle.papaya_raw.specs.declared.machines.machine.Machine.TheVariants.{Key}
use Rattle.threads_rule.proofs.Errands.Beginnings.{is_begun}
use Rattle.threads_steps.proofs.within.Within.begins_to_remove.Goals as goal

pub begins_on_as-requires : goal.begins_on_as-requires
begins_on_as-requires g c = let m = c.requires.may.may in record { inside = (m.slot, m.inside); knows = (m.map, m.knows, m.only); free = m.free }

pub returns-clause-begun : goal.returns-clause-begun
returns-clause-begun g c = c.begins_on_as.ensures.begins

pub returns-clause-calls : goal.returns-clause-calls
returns-clause-calls g c =
    let x = c.args in let m = c.requires.may in record {
      at =
          is_begun g.K.PartialEq.eq g.S.Hashes.hash x._hasher.now (Key (removing x._setting x._hash (g.Q.Equivalent.stands_for x.key.now))) x.self.now.seat.now.view c.begins_on_as.new.self.seat.now.view m.may
          c.begins_on_as.ensures.begins;
      none = m.none;
    }
