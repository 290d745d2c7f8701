use Rattle.std.proofs.lemmas.Result.{IfOk-weaker}
use Rattle.papaya_map.proofs.cloning.fill.Goals as goal

pub returns-in-Ok : goal.returns-in-Ok
returns-in-Ok g c = record {
  cloned = IfOk-weaker c.clone_into.result _ _ (λ done it. (c.in-Ok.into.base.caller, (c.in-Ok.ensures.memory, c.in-Ok.ensures.map), c.in-Ok.ensures.none, it)) c.clone_into.ensures.cloned;
}
