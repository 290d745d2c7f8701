use Rattle.threads_rule.specs.Errands.Making.{IsThis}
use Rattle.threads_rule.proofs.Errands.Beginnings.{came_from, makes_it}
use Rattle.threads_steps.proofs.within.Within.makes_map.Goals as goal

pub goes_on-requires : goal.goes_on-requires
goes_on-requires g c = record {
  makes =
      makes_it c.args.own c.args.hasher.now c.args.opening c.args.self.now.seat.now.view c.begins_to_make.new.self.seat.now.view c.begins_to_make.ensures.begins c.args.self.now.blocks.now.words.fixed
      c.requires.may c.requires.yet;
}

pub returns-clause-made : goal.returns-clause-made
returns-clause-made g c =
    came_from (IsThis c.args.own c.args.hasher.now c.args.opening) c.args.hasher.now c.args.opening c.args.self.now.seat.now.view c.begins_to_make.new.self.seat.now.view
    c.goes_on.new.self.seat.now.view c.begins_to_make.ensures.begins c.args.own c.goes_on.result c.goes_on.ensures.made
