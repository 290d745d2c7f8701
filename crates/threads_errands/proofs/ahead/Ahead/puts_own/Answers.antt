use Rattle.std.specs.Prelude.{Ok}
use Rattle.std.proofs.Common.{◌∙◌}
use Rattle.papaya_raw.specs.declared.machines.progress.Answer.TheVariants.{Key as OfKey}
use Rattle.threads_steps.proofs.Given.ErrandsBeginnings.{stays_on}
use Rattle.threads_steps.proofs.Pausing.{ended_on}
use Rattle.threads_errands.proofs.ahead.Ahead.puts_own.Goals as goal

-- the code has ended the call, and the seat takes the turns with which that ends
pub ends-requires : goal.ends-requires
ends-requires g c = record { ends = c.in-Answered.ensures.put.0 }

pub returns-in-Answered-clause-stored : goal.returns-in-Answered-clause-stored
returns-in-Answered-clause-stored g c =
    let v = c.args.self.now.seat.now.view in let w = c.puts.new.self.seat.now.view in let u = c.ends.new.self.seat.now.view in
    let p = c.in-Answered.ensures.put in let e = c.ends.ensures.ended in
    (ended_on (Ok (OfKey c.in-Answered.answer)) v w u p.2 e.ended, stays_on v w u p.1 e.stays, p.3)

pub returns-in-Answered-clause-same : goal.returns-in-Answered-clause-same
returns-in-Answered-clause-same g c = c.ends.ensures.same ∙ c.in-Answered.ensures.same

-- or the code stands at a point of it
pub returns-in-Stands-clause-stored : goal.returns-in-Stands-clause-stored
returns-in-Stands-clause-stored g c = c.in-Stands.ensures.put

pub returns-in-Stands-clause-same : goal.returns-in-Stands-clause-same
returns-in-Stands-clause-same g c = c.in-Stands.ensures.same
