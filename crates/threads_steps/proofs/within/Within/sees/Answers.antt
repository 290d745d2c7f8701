use Rattle.map_machines.specs.Lookup.{looking}
use Rattle.threads_rule.proofs.Errands.Beginnings.{looks_for}
use Rattle.threads_steps.proofs.Straight.{seen_since}
use Rattle.threads_steps.proofs.within.Within.sees.Goals as goal

pub begins_to_look-requires : goal.begins_to_look-requires
begins_to_look-requires g c = let m = c.requires.may in record { inside = (m.slot, m.inside); knows = (m.map, m.knows); free = m.free }

pub looks_up-requires : goal.looks_up-requires
looks_up-requires g c = record {
  looks =
      looks_for g.K.PartialEq.eq g.S.Hashes.hash (g.Q.Equivalent.stands_for c.args.key.now) (looking c.args.root c.args.mode c.args.hash) c.args.self.now.seat.now.view
      c.begins_to_look.new.self.seat.now.view c.requires.may c.begins_to_look.ensures.begins;
}

pub returns-clause-seen : goal.returns-clause-seen
returns-clause-seen g c =
    seen_since g.K.PartialEq.eq g.S.Hashes.hash (g.Q.Equivalent.stands_for c.args.key.now) c.args.root c.args.mode c.args.hash c.looks_up.result c.args.self.now.seat.now.view
    c.begins_to_look.new.self.seat.now.view c.looks_up.new.self.seat.now.view c.begins_to_look.ensures.begins c.looks_up.ensures.come c.looks_up.ensures.stays
