use Rattle.std.proofs.Common.{sym, ◌∙◌}
use Rattle.threads_callers.proofs.answers.came_of.Goals as goal

pub pair_of-key-requires : goal.pair_of-key-requires
pair_of-key-requires g c = record { back = (c.requires.back.0, c.requires.back.1, c.requires.back.2.0 (sym c.is_put.ensures ∙ c.if-is_put.false)) }
