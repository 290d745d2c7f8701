use Rattle.std.proofs.Common.{inr, refl}
use Rattle.std.proofs.lemmas.Result.{IfOk-weaker}
use Rattle.serde_json.specs.View.{members_view}
use Rattle.papaya_json.proofs.Written.{puts_all}
use Rattle.papaya.specs.Given.SessionsExtended.{PutsPair}
use Rattle.papaya_json.proofs.maps.fill.Goals as goal

pub returns-in-Ok-clause-filled : goal.returns-in-Ok-clause-filled
returns-in-Ok-clause-filled g c =
    IfOk-weaker c.put_members.result _ _
    (λ done it. record {
      members = members_view c.args.members.now.entries;
      is = refl;
      pairs = it.0;
      each = it.1;
      first = c.in-Ok.session.base.caller;
      its = (c.in-Ok.ensures.memory, c.in-Ok.ensures.map);
      none = c.in-Ok.ensures.none;
      last = c.put_members.new.into.session.base.caller;
      stored = puts_all (λ f. f.session.base.caller) (PutsPair g.K.PartialEq.eq g.S.Hashes.hash) it.0 _ c.put_members.new.into it.2;
    }) c.put_members.ensures.put

pub returns-in-Err-clause-fault : goal.returns-in-Err-clause-fault
returns-in-Err-clause-fault g c = inr (c.in-Err.fault, refl)
