-- Nothing was counted on a number that no map has had yet.
use Rattle.std.specs.Prelude.{◌≡◌, ◌≢◌, ℕ, Bool, List, Some}
use Rattle.std.proofs.Common.{refl}
use Rattle.run_debts.specs.Given.TablesDeclared.node.Node.{Node}
use Rattle.run_debts.specs.Given.RawDeclared.machines.progress.Progress.{Progress}
use Rattle.run_debts.specs.Given.SchedulesEffects.{with_effects}
use Rattle.run_debts.specs.Given.SchedulesMoment.{Moment}
use Rattle.owner_calls.specs.Given.CallersTogether.{UnderWay, OnKey, ForRoom, Counting, OverAll}
use Rattle.run_debts.specs.Given.EffectsEffects.{effects_of}
use Rattle.run_debts.specs.Given.EffectsKnown.{Known}
use Rattle.run_debts.specs.Given.EffectsDeclared.acting.Acting.TheVariants as acts
use Rattle.run_debts.specs.Given.MomentsWhole.{RefinesWhole}
use Rattle.run_debts.specs.Counts.{RefinesCounts}
use Rattle.run_blocks.specs.Shards.ShardWords.{RefinesCounters}
use Rattle.run_blocks.proofs.Shards.KeyAdds.{key_adds}
use Rattle.run_blocks.proofs.Shards.RestAdds.{room_adds, sum_adds, sweep_adds}
use Rattle.run_blocks.proofs.Shards.ShardCalls.{others_then}
use Rattle.run_debts.specs.Given.ScenesHeld.{Held, IsAt}
use Rattle.run_debts.specs.Given.ScenesScene.{Scene}
use Rattle.run_debts.specs.Given.ScenesStepping.{StepLeads}

-- a step of a call counts on its map alone
pub calls_spare_others : {K V : Type 0} (same : K → K → Bool) (hash : ℕ → K → ℕ) (name : ℕ → List ℕ) (m : Moment K V) (known : Known) (s : Scene K V) (old new : Held K V) → IsAt same hash old s
    → RefinesWhole same name m known s → RefinesCounts name m s → RefinesCounters name m s
    → (map i : ℕ) (u : UnderWay K V K) (here : s.calls map i ≡ Some u) (said : Progress (Node K V)) (leads : StepLeads same hash i said s old new)
    → (n : ℕ) → n ≢ map → (with_effects (Some (name i)) (Some map) (effects_of (acts.Call i map) known new.changed) m).shards n ≡ m.shards n
calls_spare_others same hash name m known s old new at_old whole counts counters map i (OnKey x) here said leads =
    others_then same hash name m known s old new at_old whole counts counters map i (OnKey x) here said leads
    (key_adds same hash name m known s old new at_old whole.all.shown map i x here said leads (leads map (OnKey x) here).4.did)
calls_spare_others same hash name m known s old new at_old whole counts counters map i (ForRoom x) here said leads =
    others_then same hash name m known s old new at_old whole counts counters map i (ForRoom x) here said leads
    (room_adds same hash name m known s old new at_old whole.all.shown map i (ForRoom x) here said leads x refl (leads map (ForRoom x) here).4.did)
calls_spare_others same hash name m known s old new at_old whole counts counters map i (Counting x) here said leads =
    others_then same hash name m known s old new at_old whole counts counters map i (Counting x) here said leads
    (sum_adds same hash name m known s old new at_old whole.all.shown map i (Counting x) here said leads x refl (leads map (Counting x) here).4.did)
calls_spare_others same hash name m known s old new at_old whole counts counters map i (OverAll x) here said leads =
    others_then same hash name m known s old new at_old whole counts counters map i (OverAll x) here said leads
    (sweep_adds same hash name m known s old new at_old whole.all.shown map i (OverAll x) here said leads x refl (leads map (OverAll x) here).4.did)
