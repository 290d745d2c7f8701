use Rattle.std.specs.Prelude.{Ok}
use Rattle.std.proofs.Common.{◌∙◌, ap, sym}
use Rattle.std.proofs.lemmas.Result.{IfOk-weaker}
use Rattle.map_tables.specs.declared.resize_mode.ResizeMode.TheVariants.{Incremental}
use Rattle.papaya_map.proofs.Cloned.{asked_or_not}
use Rattle.papaya_map.specs.Builders.{first_fault}
use Rattle.papaya_map.proofs.cloning.cloned_with.Goals as goal

pub returns-in-Ok-clause-cloned : goal.returns-in-Ok-clause-cloned
returns-in-Ok-clause-cloned g c = IfOk-weaker c.filled.result _ _ (λ map it. (c.len-count.result, c.len-count.new.self.base.caller, c.len-count.ensures.counted, it)) c.filled.ensures.cloned

pub returns-in-Ok-clause-number : goal.returns-in-Ok-clause-number
returns-in-Ok-clause-number g c = IfOk-weaker c.filled.result _ _ (λ it is. c.in-Ok.ensures.number ∙ ap (λ m. Ok m.collector.number) (sym is)) c.filled.ensures.same

pub returns-in-Ok-clause-hasher : goal.returns-in-Ok-clause-hasher
returns-in-Ok-clause-hasher g c = IfOk-weaker c.filled.result _ _ (λ it is. ap (λ m. m.hasher) is ∙ c.in-Ok.ensures.hasher) c.filled.ensures.same

pub returns-in-Ok-clause-mode : goal.returns-in-Ok-clause-mode
returns-in-Ok-clause-mode g c = IfOk-weaker c.filled.result _ _ (λ it is. ap (λ m. m.setting.mode) is ∙ c.in-Ok.ensures.mode) c.filled.ensures.same

pub returns-in-Ok-clause-ids : goal.returns-in-Ok-clause-ids
returns-in-Ok-clause-ids g c = asked_or_not (first_fault (Incremental 64) c.len-count.result) c.args.ids.now c.with_capacity_and_hasher.new.ids c.in-Ok.ensures.ids

pub returns-in-Err-clause-ids : goal.returns-in-Err-clause-ids
returns-in-Err-clause-ids g c = asked_or_not (first_fault (Incremental 64) c.len-count.result) c.args.ids.now c.with_capacity_and_hasher.new.ids c.in-Err.ensures.ids
