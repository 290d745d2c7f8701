use Rattle.std.proofs.Common.{inr}
use Rattle.std.proofs.lemmas.Result.{IfErr-weaker, IfOk-weaker}
use Rattle.map_forms.proofs.Read.{refused_too}
use Rattle.map_forms.proofs.reading.put_member.Goals as goal

pub returns-in-Ok-clause-put : goal.returns-in-Ok-clause-put
returns-in-Ok-clause-put g c = IfOk-weaker c.put.result _ _ (λ done put. (c.in-Ok.pair, c.in-Ok.ensures.pair, put)) c.put.ensures.put

pub returns-in-Ok-clause-fault : goal.returns-in-Ok-clause-fault
returns-in-Ok-clause-fault g c = IfErr-weaker c.put.result _ _ (λ why refused. inr refused) c.put.ensures.fault

pub returns-in-Err-clause-fault : goal.returns-in-Err-clause-fault
returns-in-Err-clause-fault g c = refused_too c.in-Err.why c.in-Err.ensures.fault
