-- Each act leads where a step of its kind does, whichever it is.
use Rattle.std.specs.Prelude.{ℕ, Bool}
use Rattle.many_acts.specs.Acts.Acts.{BeginsCall, StepsCall, TellsCall, AsksCall, StopsCall, BeginsMaking, StepsMaking, BeginsEnding, StepsEnding, BeginsRow, StepsRow}
use Rattle.many_acts.specs.Acts.AsSteps.{ActsLeadAsSteps}
use Rattle.many_acts.proofs.Acts.AsSteps.Calls.{begins_as, steps_as, told_as, asked_as, stopped_as}
use Rattle.many_acts.proofs.Acts.AsSteps.Others.{making_begins_as, making_steps_as, ending_begins_as, ending_steps_as}
use Rattle.many_acts.proofs.Acts.AsSteps.Rows.{row_begins_as, row_steps_as}

pub acts_lead_as_steps : {K S : Type 0} (V : Type 0) (same : K → K → Bool) (by_hasher : S → K → ℕ) (hash : ℕ → K → ℕ) (batch_size roots : ℕ) → ActsLeadAsSteps V same by_hasher hash batch_size roots
acts_lead_as_steps V same by_hasher hash batch_size roots s n before at all (BeginsCall i m wanted) own may told led =
    begins_as same by_hasher hash batch_size roots s n before at all i m wanted told led
acts_lead_as_steps V same by_hasher hash batch_size roots s n before at all (StepsCall i m g) own may told led = steps_as same by_hasher hash batch_size roots s n before at all i m g told led
acts_lead_as_steps V same by_hasher hash batch_size roots s n before at all (TellsCall i m reply) own may told led =
    told_as same by_hasher hash batch_size roots s n before at all i m reply told led
acts_lead_as_steps V same by_hasher hash batch_size roots s n before at all (AsksCall i m) own may told led = asked_as same by_hasher hash batch_size roots s n before at all i m told led
acts_lead_as_steps V same by_hasher hash batch_size roots s n before at all (StopsCall i m) own may told led = stopped_as same by_hasher hash batch_size roots s n before at all i m told led
acts_lead_as_steps V same by_hasher hash batch_size roots s n before at all (BeginsMaking i map hasher given places) own may told led =
    making_begins_as same by_hasher hash batch_size roots s n before at all i map places hasher given own told led
acts_lead_as_steps V same by_hasher hash batch_size roots s n before at all (StepsMaking i g) own may told (b, makes, m2, machine, end, computed, told_is, did, came) =
    making_steps_as same by_hasher hash batch_size roots s n before at all i b makes g m2 machine end computed did came told told_is
acts_lead_as_steps V same by_hasher hash batch_size roots s n before at all (BeginsEnding i m) own may told led =
    ending_begins_as same by_hasher hash batch_size roots s n before at all i m may told led
acts_lead_as_steps V same by_hasher hash batch_size roots s n before at all (StepsEnding i g) own may told (f, ends, m2, machine, end, computed, told_is, did, came) =
    ending_steps_as same by_hasher hash batch_size roots s n before at all i f ends g m2 machine end computed did came told told_is
acts_lead_as_steps V same by_hasher hash batch_size roots s n before at all (BeginsRow i request) (called, own) may told led =
    row_begins_as same by_hasher hash batch_size roots s n before at all i request called own may told led
acts_lead_as_steps V same by_hasher hash batch_size roots s n before at all (StepsRow i g) own may told led = row_steps_as same by_hasher hash batch_size roots s n before at all i g told led
