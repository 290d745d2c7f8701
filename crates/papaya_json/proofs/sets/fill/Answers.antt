use Rattle.std.proofs.Common.{inr, refl}
use Rattle.std.proofs.lemmas.Result.{IfOk-weaker}
use Rattle.serde_json.specs.View.{items_view}
use Rattle.papaya.specs.OneSet.{PutsKey}
use Rattle.papaya_json.proofs.Written.{puts_all}
use Rattle.papaya_json.proofs.sets.fill.Goals as goal

pub returns-in-Ok-clause-filled : goal.returns-in-Ok-clause-filled
returns-in-Ok-clause-filled g c =
    IfOk-weaker c.put_items.result _ _
    (λ done it. record {
      elements = it.0;
      each = (items_view c.args.items.now, refl, it.1);
      first = c.in-Ok.session.session.base.caller;
      its = (c.in-Ok.ensures.memory, c.in-Ok.ensures.map);
      none = c.in-Ok.ensures.none;
      last = c.put_items.new.into.session.session.base.caller;
      stored = puts_all (λ f. f.session.session.base.caller) (PutsKey g.K.PartialEq.eq g.S.Hashes.hash) it.0 _ c.put_items.new.into it.2;
    }) c.put_items.ensures.put

pub returns-in-Err-clause-fault : goal.returns-in-Err-clause-fault
returns-in-Err-clause-fault g c = inr (c.in-Err.fault, refl)
