use Rattle.std.proofs.Common.{ap, ◌∙◌}
use Rattle.seize_callers.proofs.caller.Caller.new.Goals as goal

pub seat-seat-requires : goal.seat-seat-requires
seat-seat-requires g c = (c.goes_on.ensures.come c.args.blocks.now.words.fixed).0

pub returns-clause-rests : goal.returns-clause-rests
returns-clause-rests g c = ap (λ v. (g.C.Content.notes v).knows) c.seat-seat.ensures.1 ∙ ap (λ n. n.knows) (c.goes_on.ensures.come c.args.blocks.now.words.fixed).1

pub returns-clause-guards : goal.returns-clause-guards
returns-clause-guards g c = ap (λ v. (g.C.Content.notes v).guards) c.seat-seat.ensures.1 ∙ ap (λ n. n.guards) (c.goes_on.ensures.come c.args.blocks.now.words.fixed).1
