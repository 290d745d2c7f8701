-- What a walk is asked for.
use Rattle.std.proofs.Common.{length, refl, ap}
use Rattle.run_executor.proofs.executor.Executor.next.Goals as goal
use Rattle.run_executor.proofs.Executing.Replies.{ask_leads}
use Rattle.run_executor.proofs.Executing.Taken.{has_place}

pub take_call-slot-requires : goal.take_call-slot-requires
take_call-slot-requires g c = has_place _ _ _ _ c.requires.3 c.args.caller c.requires.4

pub returns-clause-leads : goal.returns-clause-leads
returns-clause-leads g c = λ same hash s at.
    ask_leads same hash _ s at c.args.caller _ _ refl c.take_call-slot.ensures.after refl refl refl refl refl _ _ _ c.take_call-slot.ensures.before _ c.put_back.ensures
    c.next-ready.result c.next-ready.ensures

pub returns-clause-given : goal.returns-clause-given
returns-clause-given g c = (c.put_back.ensures.1.hasher, c.put_back.ensures.1.batch_size, c.put_back.ensures.1.roots, ap length c.put_back.ensures.1.maps)
