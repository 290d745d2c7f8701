-- A call takes a reply only where the step before has said that it asks: none as it begins, none once it took one, and none as a walk goes on.
use Rattle.std.specs.Prelude.{◌≡◌, ℕ, ◌==◌, Bool, true, false, nat_lt, ◌&&◌, Option, Ok, if◌then◌else◌}
use Rattle.std.proofs.Common.{refl, sym, subst}
use Rattle.run_schedules.specs.Given.SeizeWordsPlan.{plan_as}
use Rattle.run_schedules.specs.Given.SeizeWordsDeclared.fault.Fault.TheVariants.{RemoveNothing}
use Rattle.play_lists.specs.Given.TablesDeclared.marks.TheConstants.{TOMBSTONE}
use Rattle.play_lists.specs.Given.TablesDeclared.node.Node.{Node}
use Rattle.play_lists.specs.Given.TablesDeclared.setting.Setting.{Setting}
use Rattle.run_logged.specs.Given.ResizeSum.{sum_plan}
use Rattle.run_logged.specs.Given.ReservesReserve.{reserve_plan}
use Rattle.run_logged.specs.Given.SweepsSweep.{plan_at as sweep_at}
use Rattle.run_logged.specs.Given.SweepsSweepPoints.{further, next_at, past, removes, reply_at}
use Rattle.run_logged.specs.Given.ReservesDeclared.sweep.Sweep.{Sweep}
use Rattle.run_logged.specs.Given.ReservesDeclared.sweep.Sweeping.{Sweeping}
use Rattle.run_logged.specs.Given.ReservesDeclared.sweep.Sweeping.TheVariants as sweeping
use Rattle.run_logged.specs.Given.ReservesDeclared.sweep.Swept.{Swept}
use Rattle.run_logged.specs.Given.ReservesDeclared.sweep.Swept.TheVariants as swept_as
use Rattle.run_logged.specs.Given.RawCall.{plan_at}
use Rattle.run_logged.specs.Given.RawCallAsks.{absent_replied, present_replied, replied_at, with_absent, with_present}
use Rattle.run_logged.specs.Given.RawCallPoints.{at_gap, burying, ending, going, over}
use Rattle.run_logged.specs.Given.RawMachine.{called, counted, machine_asked, machine_replied, reserved, swept, sweep_with_reply}
use Rattle.run_logged.specs.Given.RawDeclared.machines.answer.Called.{Called}
use Rattle.run_logged.specs.Given.RawDeclared.machines.answer.Called.TheVariants as says
use Rattle.run_logged.specs.Given.RawDeclared.machines.answer.End.{End}
use Rattle.run_logged.specs.Given.RawDeclared.machines.answer.End.TheVariants as ends
use Rattle.run_logged.specs.Given.RawDeclared.machines.answer.KeyAnswer.TheVariants as answers
use Rattle.run_logged.specs.Given.RawDeclared.machines.asking.Asking.TheVariants as asking
use Rattle.run_logged.specs.Given.RawDeclared.machines.asking.Gap.{Gap}
use Rattle.run_logged.specs.Given.RawDeclared.machines.asking.Gap.TheVariants as gaps
use Rattle.run_logged.specs.Given.RawDeclared.machines.asking.MachineReply.{MachineReply}
use Rattle.run_logged.specs.Given.RawDeclared.machines.asking.MachineReply.TheVariants as reply
use Rattle.run_logged.specs.Given.RawDeclared.machines.asking.Takes.{Takes}
use Rattle.run_logged.specs.Given.RawDeclared.machines.asking.Takes.TheVariants as takes
use Rattle.run_logged.specs.Given.RawDeclared.machines.asking.Told.TheVariants as tells
use Rattle.run_logged.specs.Given.RawDeclared.machines.call.Calling.{Calling}
use Rattle.run_logged.specs.Given.RawDeclared.machines.call.Calling.TheVariants as at
use Rattle.run_logged.specs.Given.RawDeclared.machines.call.KeyCall.{KeyCall}
use Rattle.run_logged.specs.Given.RawDeclared.machines.machine.Machine.{Machine}
use Rattle.run_logged.specs.Given.RawDeclared.machines.machine.Machine.TheVariants as kinds
use Rattle.run_logged.specs.Given.RawDeclared.machines.progress.Progress.{Progress}
use Rattle.run_logged.specs.Given.RawDeclared.machines.progress.Progress.TheVariants as progress
use Rattle.play_lists.specs.Given.EffectsDeclared.changed.Changed.TheVariants.{Nothing}
use Rattle.run_schedules.specs.declared.call.Call.{Call}
use Rattle.run_schedules.specs.declared.call.Call.TheVariants as calls
use Rattle.run_schedules.specs.declared.call.OneKey.{OneKey}
use Rattle.run_schedules.specs.declared.call.OneKey.TheVariants as one
use Rattle.play_lists.specs.Given.ScenesHeld.{Held}
use Rattle.play_lists.specs.Given.ScenesStepping.{StepsFrom}
use Rattle.play_lists.proofs.Given.RuleKeys.Always.{always_plan_as}
use Rattle.play_lists.proofs.Given.HistoriesAsking.{always_told, always_turned}
use Rattle.run_logged.specs.Given.NamedMachines.{machine_for}
use Rattle.play_linear.proofs.Linear.Aloud as keys
use Rattle.play_linear.proofs.Linear.AloudSweeps as sweeps

module _ {K V : Type 0} where
  -- it takes no reply
  abbrev pub TakesNone : Machine K V K → Type 0
  TakesNone (kinds.Key p) = keys.TakesNone p.stands
  TakesNone (kinds.Sweep p) = sweeps.TakesNone p.stands
  TakesNone _ = Unit {0}

  -- or its step has said that it asks
  abbrev pub AsksAloud : Machine K V K × Progress (Node K V) → Type 0
  AsksAloud (kinds.Key p, progress.Asks about) = Unit {0}
  AsksAloud (kinds.Key p, _) = keys.TakesNone p.stands
  AsksAloud (kinds.Sweep p, progress.Asks about) = Unit {0}
  AsksAloud (kinds.Sweep p, _) = sweeps.TakesNone p.stands
  AsksAloud (_, _) = Unit {0}

  as_key : (end : KeyCall K V K × Called (Node K V)) → keys.AsksAloud end → AsksAloud (called end)
  as_key (p, says.Goes) so = so
  as_key (p, says.Waits) so = so
  as_key (p, says.Gave value) so = so
  as_key (p, says.Unstored value) so = so
  as_key (p, says.Asks about) so = tt
  as_key (p, says.Done told) so = so
  as_key (p, says.Refused fault) so = so

  as_sweep : (p : Sweep) (end : Sweep × Swept (Node K V)) → sweeps.AsksAloud K V p end → AsksAloud (swept end)
  as_sweep p (q, swept_as.Goes) so = so
  as_sweep p (q, swept_as.Waits) so = so
  as_sweep p (q, swept_as.Gave value) so = so
  as_sweep p (q, swept_as.Ready) so = so
  as_sweep p (q, swept_as.Pair word) so = so
  as_sweep p (q, swept_as.Asks word) so = tt
  as_sweep p (q, swept_as.Done) so = so
  as_sweep p (q, swept_as.Refused fault) so = so

-- of sweeps
sweep_refuses : {V : Type 0} (stands : Sweeping) (c : Sweep) (said : MachineReply V) → sweeps.TakesNone stands → (sweep_with_reply stands c said).1 ≡ Ok tt → ⊥
sweep_refuses (sweeping.Asks word) c said none takes = none
sweep_refuses _ c said none takes = cc takes

further_none : (c : Sweep) → sweeps.TakesNone (further c).stands
further_none c = by (nat_lt (past c).place c.table.len) (removes c.purpose && c.met)
  where
    by : (b d : Bool) → sweeps.TakesNone (if b then sweeping.Words else (if d then sweeping.Follows else sweeping.Over))
    by true d = tt
    by false true = tt
    by false false = tt

sweep_none : {V : Type 0} (stands : Sweeping) (c : Sweep) → c.stands ≡ stands → (said : MachineReply V) → (sweep_with_reply stands c said).1 ≡ Ok tt → sweeps.TakesNone (sweep_with_reply stands c said).0.stands
sweep_none (sweeping.Asks word) c is reply.Yes e = subst (λ (x : Sweeping). sweeps.TakesNone (reply_at x c true).stands) (sym is) (further_none c)
sweep_none (sweeping.Asks word) c is reply.No e = subst (λ (x : Sweeping). sweeps.TakesNone (reply_at x c false).stands) (sym is) tt
sweep_none (sweeping.Asks word) c is _ e = absurd (cc e)
sweep_none _ c is said e = absurd (cc e)

next_none : (stands : Sweeping) (c : Sweep) → sweeps.TakesNone c.stands → sweeps.TakesNone (next_at stands c).stands
next_none sweeping.Ready c none = by (nat_lt c.place c.table.len)
  where
    by : (b : Bool) → sweeps.TakesNone (if b then sweeping.Words else sweeping.Over)
    by true = tt
    by false = tt
next_none _ c none = none

-- After a step a machine takes no reply, unless it was said that it asks.
module _ {K V : Type 0} (same : K → K → Bool) (hash : K → ℕ) (old new : Held K V) (after : Machine K V K) (said : Progress (Node K V)) where
  steps_aloud : (machine : Machine K V K) → StepsFrom same hash machine old new after said → AsksAloud (after, said)
  steps_aloud (kinds.Key p) steps =
      always_told AsksAloud old.memory new.memory Nothing new.changed (plan_as called (plan_at same same hash p p.stands)) (after, said)
      (always_turned keys.AsksAloud AsksAloud called as_key (plan_at same same hash p p.stands) (keys.asks_aloud p same same hash)) steps
  steps_aloud (kinds.Sweep p) steps =
      always_told AsksAloud old.memory new.memory Nothing new.changed (plan_as swept (sweep_at hash p p.stands)) (after, said)
      (always_turned (sweeps.AsksAloud K V p) AsksAloud swept (as_sweep p) (sweep_at hash p p.stands) (sweeps.from K V p hash p.stands refl)) steps
  steps_aloud (kinds.Reserve c) steps =
      always_told AsksAloud old.memory new.memory Nothing new.changed (plan_as reserved (reserve_plan hash c)) (after, said) (always_plan_as AsksAloud reserved (λ end. tt) (reserve_plan hash c)) steps
  steps_aloud (kinds.Count c) steps =
      always_told AsksAloud old.memory new.memory Nothing new.changed (plan_as counted (sum_plan c)) (after, said) (always_plan_as AsksAloud counted (λ end. tt) (sum_plan c)) steps

  pub steps_take_none : (machine : Machine K V K) → StepsFrom same hash machine old new after said → ((about : Option ℕ) → said ≡ progress.Asks about → ⊥) → TakesNone after
  steps_take_none machine steps never = by after said (steps_aloud machine steps) never
    where
      by : (x : Machine K V K) (y : Progress (Node K V)) → AsksAloud (x, y) → ((about : Option ℕ) → y ≡ progress.Asks about → ⊥) → TakesNone x
      by (kinds.Key p) (progress.Asks about) so none = absurd (none about refl)
      by (kinds.Key p) _ so none = so
      by (kinds.Sweep p) (progress.Asks about) so none = absurd (none about refl)
      by (kinds.Sweep p) _ so none = so
      by (kinds.Reserve c) y so none = tt
      by (kinds.Count c) y so none = tt

module _ {K V : Type 0} where
  -- One that takes none takes none;
  key_refuses : (stands : Calling) (c : KeyCall K V K) (said : MachineReply V) → keys.TakesNone stands → (replied_at stands c said).1 ≡ Ok tt → ⊥
  key_refuses (at.Asks (asking.Absent gap)) c said none takes = none
  key_refuses (at.Asks (asking.Present word)) c said none takes = none
  key_refuses _ c said none takes = cc takes

  pub refuses : (machine : Machine K V K) (said : MachineReply V) → TakesNone machine → (machine_replied machine said).1 ≡ Ok tt → ⊥
  refuses (kinds.Key c) said none takes = key_refuses c.stands c said none takes
  refuses (kinds.Sweep c) said none takes = sweep_refuses c.stands c said none takes
  refuses (kinds.Reserve c) said none takes = cc takes
  refuses (kinds.Count c) said none takes = cc takes

  -- one that has taken a reply takes no further one;
  ending_none : (end : End) (c : KeyCall K V K) → keys.TakesNone (ending c end).0.stands
  ending_none end c = by (c.own == 0) end
    where
      by : (b : Bool) (e : End) → keys.TakesNone (if b then over c e else going c (at.Drops e)).0.stands
      by true (ends.Answered answer) = tt
      by true (ends.Refused fault) = tt
      by false e = tt

  burying_none : (c : KeyCall K V K) (word : ℕ) → keys.TakesNone (burying c word).0.stands
  burying_none c word = by (c.own == 0)
    where
      by : (b : Bool) → keys.TakesNone (if b then going c (at.Tries word TOMBSTONE) else going c (at.Asks (asking.GivesUp word))).0.stands
      by true = tt
      by false = tt

  gap_none : (gap : Gap) (c : KeyCall K V K) (value : V) → keys.TakesNone (at_gap gap (with_absent c value)).0.stands
  gap_none gaps.NoTable c value = tt
  gap_none gaps.Free c value = tt
  gap_none gaps.Past c value = tt
  gap_none gaps.Last c value = tt

  absent_none : (its : Takes) (c : KeyCall K V K) (gap : Gap) (said : MachineReply V) → (absent_replied its c gap said).1 ≡ Ok tt → keys.TakesNone (absent_replied its c gap said).0.stands
  absent_none takes.Values c gap (reply.Insert value) e = gap_none gap c value
  absent_none takes.Changes c gap (reply.Insert value) e = gap_none gap c value
  absent_none takes.Changes c gap reply.Remove e = ending_none (ends.Refused RemoveNothing) c
  absent_none takes.Changes c gap reply.Abort e = ending_none (ends.Answered answers.Absent) c
  absent_none takes.Values c gap _ e = absurd (cc e)
  absent_none takes.Changes c gap _ e = absurd (cc e)
  absent_none takes.Choices c gap said e = absurd (cc e)
  absent_none takes.Nothing c gap said e = absurd (cc e)

  present_none : (its : Takes) (c : KeyCall K V K) (word : ℕ) (said : MachineReply V) → (present_replied its c word said).1 ≡ Ok tt → keys.TakesNone (present_replied its c word said).0.stands
  present_none takes.Values c word (reply.Insert value) e = tt
  present_none takes.Changes c word (reply.Insert value) e = tt
  present_none takes.Changes c word reply.Remove e = burying_none (with_present c word tells.Removes) word
  present_none takes.Changes c word reply.Abort e = ending_none (ends.Answered (answers.Found word)) c
  present_none takes.Choices c word reply.Yes e = burying_none c word
  present_none takes.Choices c word reply.No e = ending_none (ends.Answered (answers.Found word)) c
  present_none takes.Values c word _ e = absurd (cc e)
  present_none takes.Changes c word _ e = absurd (cc e)
  present_none takes.Choices c word _ e = absurd (cc e)
  present_none takes.Nothing c word said e = absurd (cc e)

  key_none : (stands : Calling) (c : KeyCall K V K) (said : MachineReply V) → (replied_at stands c said).1 ≡ Ok tt → keys.TakesNone (replied_at stands c said).0.stands
  key_none (at.Asks (asking.Absent gap)) c said e = absent_none c.replies.takes c gap said e
  key_none (at.Asks (asking.Present word)) c said e = present_none c.replies.takes c word said e
  key_none _ c said e = absurd (cc e)

  pub took_none : (machine : Machine K V K) (said : MachineReply V) → (machine_replied machine said).1 ≡ Ok tt → TakesNone (machine_replied machine said).0
  took_none (kinds.Key c) said e = key_none c.stands c said e
  took_none (kinds.Sweep c) said e = sweep_none c.stands c refl said e
  took_none (kinds.Reserve c) said e = tt
  took_none (kinds.Count c) said e = tt

  -- and so it is where a walk goes on, and as a call begins.
  pub asked_none : (machine : Machine K V K) → TakesNone machine → TakesNone (machine_asked machine).0
  asked_none (kinds.Key c) none = none
  asked_none (kinds.Sweep c) none = next_none c.stands c none
  asked_none (kinds.Reserve c) none = tt
  asked_none (kinds.Count c) none = tt

  one_begins : (setting : Setting) (hash : K → ℕ) (call : OneKey K V) → TakesNone (machine_for setting hash (calls.On call))
  one_begins setting hash (one.Get k) = tt
  one_begins setting hash (one.GetKeyValue k) = tt
  one_begins setting hash (one.ContainsKey k) = tt
  one_begins setting hash (one.Insert k v) = tt
  one_begins setting hash (one.TryInsert k v) = tt
  one_begins setting hash (one.TryInsertWith k) = tt
  one_begins setting hash (one.GetOrInsert k v) = tt
  one_begins setting hash (one.GetOrInsertWith k) = tt
  one_begins setting hash (one.Update k) = tt
  one_begins setting hash (one.UpdateOrInsert k v) = tt
  one_begins setting hash (one.UpdateOrInsertWith k) = tt
  one_begins setting hash (one.Compute k) = tt
  one_begins setting hash (one.Remove k) = tt
  one_begins setting hash (one.RemoveEntry k) = tt
  one_begins setting hash (one.RemoveIf k) = tt

  pub begins_none : (setting : Setting) (hash : K → ℕ) (call : Call K V) → TakesNone (machine_for setting hash call)
  begins_none setting hash (calls.On call) = one_begins setting hash call
  begins_none setting hash (calls.Reserve more) = tt
  begins_none setting hash calls.Clear = tt
  begins_none setting hash calls.Retain = tt
  begins_none setting hash calls.Len = tt
  begins_none setting hash calls.Walk = tt
