-- Acts lead where steps of their kinds do.
use Rattle.many_acts.proofs.Acts.AsSteps.All.{acts_lead_as_steps}
use Rattle.many_acts.proofs.Acts.AsSteps.Reclaiming.{reclaiming_leads_as_steps}
use Rattle.many_acts.proofs.law.acts.acts_lead_as_steps.Goals as goal

pub returns : goal.returns
returns c d = record { leads = acts_lead_as_steps _; all = reclaiming_leads_as_steps _ }
