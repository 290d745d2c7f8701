-- Nothing is left behind a table.
use Rattle.std.proofs.Common.{not, rules}
use Rattle.std.proofs.lemmas.Fn.{filter_same}
use Rattle.run_schedules.specs.Schedules.Things.{same_table}
use Rattle.run_effects.proofs.tally.without.Goals as goal

pub returns : goal.returns
returns c = filter_same _ (λ w. not (same_table w.table c.args.table)) _ (λ x b f' k. search rules) c.args.behind.now.items c.retain.new.self.items c.retain.ensures.filtered
