-- What a step of any call says that goes on, by what was called.
use Rattle.std.specs.Prelude.{◌≡◌, ℕ, Bool, List, Option, Some}
use Rattle.std.proofs.Common.{refl}
use Rattle.papaya_raw.specs.Given.TablesDeclared.node.Node.{Node}
use Rattle.papaya_raw.specs.declared.machines.progress.Progress.{Progress}
use Rattle.run_schedules.specs.declared.call.Call.{Call}
use Rattle.run_schedules.specs.declared.call.Call.TheVariants.{On, Reserve, Clear, Retain, Len, Walk}
use Rattle.run_schedules.specs.Schedules.Moment.{UnderWay as CallThere, Moment}
use Rattle.run_schedules.specs.Schedules.Views.{call_of}
use Rattle.owner_whole.specs.Given.CallersTogether.{UnderWay, OnKey, ForRoom, Counting, OverAll}
use Rattle.owner_whole.specs.Given.FinishesMachines.{machine_of}
use Rattle.run_executor.specs.Given.EffectsKnown.{Known}
use Rattle.play_scheduler.specs.Given.FollowsCalls.{IsCalled}
use Rattle.run_executor.specs.Given.MomentsWhole.{RefinesWhole}
use Rattle.run_executor.specs.Named.Machines.{IsAsFar, RefusedForRoom}
use Rattle.run_executor.specs.Named.Seen.{kind_of}
use Rattle.run_executor.specs.declared.caller.Stands.TheVariants as far
use Rattle.run_executor.specs.declared.kind.CallKind.{CallKind}
use Rattle.play_stepping.proofs.EventSteps.StepSays.{Says, is_called, key_says, room_says, sum_says}
use Rattle.play_stepping.proofs.EventSteps.SweepSteps.{clear_says, retain_says, walk_step_says}
use Rattle.run_executor.specs.Given.ScenesHeld.{Held, IsAt}
use Rattle.play_scheduler.specs.Given.ScenesScene.{Scene}
use Rattle.run_executor.specs.Given.ScenesStepping.{StepLeads}

module _ {K V : Type 0} (same : K → K → Bool) (hash : ℕ → K → ℕ) (name : ℕ → List ℕ) (m : Moment K V) (known : Known) (s : Scene K V) (old new : Held K V) (at_old : IsAt same hash old s)
    (whole : RefinesWhole same name m known s) (map i : ℕ) (c : CallThere K V) (c_is : call_of (name i) m ≡ Some c) (its : CallKind) (its_is : kind_of c.call ≡ its) (value : Option V)
    (said : Progress (Node K V)) (leads : StepLeads same hash i said s old new) where
  abbrev Its : (u : UnderWay K V K) → s.calls map i ≡ Some u → Type 0
  Its u under = Says same hash name m known s old new at_old whole map i c c_is its its_is value u under said leads

  by_call : (u : UnderWay K V K) (under : s.calls map i ≡ Some u) → IsAsFar its far.Goes (machine_of u) → RefusedForRoom (machine_of u) → (call : Call K V) → c.call ≡ call → IsCalled same u call → Its u under
  by_call (OnKey x) under now room (On one) is called = key_says same hash name m known s old new at_old whole map i c c_is its its_is value x under one is said leads
  by_call (ForRoom r) under now room (Reserve more) is called = room_says same hash name m known s old new at_old whole map i c c_is its its_is value r under room more is said leads
  by_call (Counting sum) under now room Len is called = sum_says same hash name m known s old new at_old whole map i c c_is its its_is value sum under is said leads
  by_call (OverAll o) under now room Clear is called = clear_says same hash name m known s old new at_old whole map i c c_is its its_is value o under said leads now room is
  by_call (OverAll o) under now room Retain is called = retain_says same hash name m known s old new at_old whole map i c c_is its its_is value o under said leads now room is
  by_call (OverAll o) under now room Walk is called = walk_step_says same hash name m known s old new at_old whole map i c c_is its its_is value o under said leads now room is
  by_call _ under now room _ is called = absurd called

  pub any_says : (u : UnderWay K V K) (under : s.calls map i ≡ Some u) → IsAsFar its far.Goes (machine_of u) → RefusedForRoom (machine_of u) → Its u under
  any_says u under now room = by_call u under now room c.call refl (is_called same hash name m known s old new at_old whole map i c c_is its its_is value u under)
