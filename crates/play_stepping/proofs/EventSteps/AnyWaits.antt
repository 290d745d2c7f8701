-- The call of a name whose machine has taken a step that waits, of whichever kind: the step has no effect, and it waits for one that it may wait for.
use Rattle.std.specs.Prelude.{List, [], Some}
use Rattle.std.specs.List.{list_any}
use Rattle.std.proofs.Common.{◌≡◌, ℕ, Bool, true, refl, ap, sym, subst, ◌∙◌}
use Rattle.seize_words.specs.OneMemory.Mem.{Mem}
use Rattle.papaya_raw.specs.Given.TablesDeclared.node.Node.{Node}
use Rattle.owner_whole.specs.Given.ResizeDeclared.yielding.Yielding.{Yielding}
use Rattle.owner_whole.specs.Given.ResizeDeclared.yielding.Yielding.TheVariants as outcome
use Rattle.papaya_raw.specs.Given.ReservesReserve.{reserve_plan}
use Rattle.papaya_raw.specs.Given.ReservesDeclared.reserve.Reserve.{Reserve}
use Rattle.papaya_raw.specs.Given.SweepsSweep.{sweep_plan}
use Rattle.papaya_raw.specs.Given.ReservesDeclared.sweep.Sweep.{Sweep}
use Rattle.papaya_raw.specs.Given.ReservesDeclared.sweep.Swept.{Swept}
use Rattle.papaya_raw.specs.Given.ReservesDeclared.sweep.Swept.TheVariants as swept
use Rattle.papaya_raw.specs.Call.{call_plan}
use Rattle.papaya_raw.specs.Machine.{called as of_key, reserved as of_room, swept as of_sweep}
use Rattle.papaya_raw.specs.declared.machines.answer.Called.{Called}
use Rattle.papaya_raw.specs.declared.machines.answer.Called.TheVariants as says
use Rattle.papaya_raw.specs.declared.machines.call.KeyCall.{KeyCall}
use Rattle.papaya_raw.specs.declared.machines.machine.Machine.{Machine}
use Rattle.papaya_raw.specs.declared.machines.progress.Progress.{Progress}
use Rattle.papaya_raw.specs.declared.machines.progress.Progress.TheVariants as progress
use Rattle.owner_whole.specs.Given.CallersOverAll.{CallOverAll}
use Rattle.owner_whole.specs.Given.CallersRooms.{CallForRoom}
use Rattle.owner_whole.specs.Given.CallersTogether.{CallOnKey, UnderWay, OnKey, ForRoom, Counting, OverAll}
use Rattle.run_schedules.specs.declared.effect.Effect.{Effect}
use Rattle.run_schedules.specs.Schedules.Moment.{UnderWay as CallThere, Moment}
use Rattle.run_schedules.specs.Schedules.Terms.{Terms}
use Rattle.run_schedules.specs.Schedules.Views.{call_of}
use Rattle.run_schedules.specs.Schedules.Waiting.{may_wait_for}
use Rattle.run_executor.specs.Given.EffectsEffects.{effects_of}
use Rattle.run_executor.specs.Given.EffectsKnown.{known}
use Rattle.run_executor.specs.Given.EffectsDeclared.acting.Acting.TheVariants as acts
use Rattle.run_executor.specs.Given.EffectsDeclared.changed.Changed.{Changed}
use Rattle.owner_whole.specs.Given.FinishesMachines.{machine_of}
use Rattle.owner_whole.specs.Given.FinishesMaps.{Standing}
use Rattle.play_scheduler.specs.Given.FollowsCalls.{IsCalled}
use Rattle.run_executor.proofs.Given.OthersOutcomes.{told_in}
use Rattle.play_scheduler.proofs.Given.OwesTables.Hosts.{Step}
use Rattle.play_scheduler.specs.Played.{RefinesFor}
use Rattle.play_scheduler.specs.declared.scheduler.Scheduler.{Scheduler}
use Rattle.run_sweeps.proofs.Quiet.LookSays.{key_waits, never_waits}
use Rattle.play_stepping.proofs.EventSteps.RoomsWait.{SaysWaits, room_says, sweep_says}
use Rattle.play_stepping.proofs.EventSteps.WaitsFor.{quiet, waits_so}
use Rattle.play_scheduler.proofs.Given.ScenesMay.{standing_is}
use Rattle.run_executor.specs.Given.ScenesStepping.{StepsFrom}
use Rattle.run_executor.specs.Executing.IsThere.{held_by}
use Rattle.run_executor.specs.Given.ScenesHeld.{Held}
use Rattle.owner_whole.proofs.Lowers.Waits.{swept_waits as sweep_waits, outcome_waits as room_waits}
use Rattle.seize_words.proofs.General.{same_some as the}

module _ {K V S : Type 0} (same : K → K → Bool) (hash : K → ℕ) (terms : Terms) (m : Moment K V) (p : Scheduler K V S) (stands : RefinesFor same hash terms m p) (own : List ℕ) (of i : ℕ)
    (x : UnderWay K V K) (under : stands.scene.calls of i ≡ Some x) (named : stands.name i ≡ own) (new : Held K V) (next : Machine K V K)
    (step : StepsFrom same hash (machine_of x) (held_by p.logged.executor) new next progress.Waits) (c : CallThere K V) (c_is : call_of own m ≡ Some c) where
  abbrev its : (d : CallThere K V) × (call_of (stands.name i) m ≡ Some d) × (d.map ≡ of) × IsCalled same x d.call
  its = stands.shown.shows.all.shown.calls of i x under

  same_call : (d : CallThere K V) → call_of (stands.name i) m ≡ Some d → d ≡ c
  same_call d d_is = the d c (sym d_is ∙ ap (λ (l : List ℕ). call_of l m) named ∙ c_is)

  abbrev st : Standing K
  st = (standing_is same (λ map. hash) (held_by p.logged.executor) stands.scene stands.shown.is_at.held of i x under).0

  st_is : stands.scene.maps of ≡ Some st
  st_is = (standing_is same (λ map. hash) (held_by p.logged.executor) stands.scene stands.shown.is_at.held of i x under).1

  abbrev before : Mem (Node K V)
  before = p.logged.executor.memory.memory

  abbrev after : Mem (Node K V)
  after = new.memory

  abbrev told : Changed
  told = new.changed

  abbrev did : List Effect
  did = effects_of (acts.Call i of) (known p.logged.notes) told

  abbrev Says : (y : UnderWay K V K) → stands.scene.calls of i ≡ Some y → Type 0
  Says y there = SaysWaits same hash terms m p stands of st st_is i y there told

  -- its own step, within that of its machine
  key_step : (u : CallOnKey K V K) → StepsFrom same hash (machine_of (OnKey u)) (held_by p.logged.executor) new next progress.Waits
      → (p2 : KeyCall K V K) × Step before after told (call_plan same same hash u.call) (p2, says.Waits)
  key_step u s =
      let it = told_in before after told of_key (call_plan same same hash u.call) (next, progress.Waits) s in
      by it.0 (key_waits it.0.1 (ap (λ (y : Machine K V K × Progress (Node K V)). y.1) (sym it.1))) it.2
    where
      by : (end : KeyCall K V K × Called (Node K V)) → end.1 ≡ says.Waits → Step before after told (call_plan same same hash u.call) end
          → (p2 : KeyCall K V K) × Step before after told (call_plan same same hash u.call) (p2, says.Waits)
      by (p2, said) e t = (p2, subst (λ (y : Called (Node K V)). Step before after told (call_plan same same hash u.call) (p2, y)) e t)

  room_step : (r : CallForRoom) → StepsFrom same hash (machine_of (ForRoom r)) (held_by p.logged.executor) new next progress.Waits
      → (p2 : Reserve) × Step before after told (reserve_plan hash r.reserve) (p2, outcome.Waits)
  room_step r s =
      let it = told_in before after told of_room (reserve_plan hash r.reserve) (next, progress.Waits) s in
      by it.0 (room_waits it.0.1 (ap (λ (y : Machine K V K × Progress (Node K V)). y.1) (sym it.1))) it.2
    where
      by : (end : Reserve × Yielding (Node K V) Unit) → end.1 ≡ outcome.Waits → Step before after told (reserve_plan hash r.reserve) end
          → (p2 : Reserve) × Step before after told (reserve_plan hash r.reserve) (p2, outcome.Waits)
      by (p2, said) e t = (p2, subst (λ (y : Yielding (Node K V) Unit). Step before after told (reserve_plan hash r.reserve) (p2, y)) e t)

  sweep_step : (o : CallOverAll) → StepsFrom same hash (machine_of (OverAll o)) (held_by p.logged.executor) new next progress.Waits
      → (p2 : Sweep) × Step before after told (sweep_plan hash o.sweep) (p2, swept.Waits)
  sweep_step o s =
      let it = told_in before after told of_sweep (sweep_plan hash o.sweep) (next, progress.Waits) s in
      by it.0 (sweep_waits it.0.1 (ap (λ (y : Machine K V K × Progress (Node K V)). y.1) (sym it.1))) it.2
    where
      by : (end : Sweep × Swept (Node K V)) → end.1 ≡ swept.Waits → Step before after told (sweep_plan hash o.sweep) end
          → (p2 : Sweep) × Step before after told (sweep_plan hash o.sweep) (p2, swept.Waits)
      by (p2, said) e t = (p2, subst (λ (y : Swept (Node K V)). Step before after told (sweep_plan hash o.sweep) (p2, y)) e t)

  by_kind : (y : UnderWay K V K) (there : stands.scene.calls of i ≡ Some y) → StepsFrom same hash (machine_of y) (held_by p.logged.executor) new next progress.Waits → Says y there
  by_kind (OnKey u) there s =
      let at = key_step u s in (
        ap (λ (y : Changed). effects_of (acts.Call i of) (known p.logged.notes) y) (quiet same hash terms m p stands of i u there st st_is after told at.0 at.1),
        waits_so same hash terms m p stands of i u there st st_is after told at.0 at.1,
      )
  by_kind (ForRoom r) there s = let at = room_step r s in room_says same hash terms m p stands of st st_is i r there after told at.0 at.1
  by_kind (OverAll o) there s = let at = sweep_step o s in sweep_says same hash terms m p stands of st st_is i o there after told at.0 at.1
  by_kind (Counting sum) there s = absurd (never_waits same hash (held_by p.logged.executor) new next progress.Waits (machine_of (Counting sum)) tt s refl)

  said : Says x under
  said = by_kind x under step

  pub any_quiet : did ≡ []
  any_quiet = said.0

  pub any_waits_for : list_any (may_wait_for same c m) m.calls ≡ true
  any_waits_for = subst (λ (d : CallThere K V). list_any (may_wait_for same d m) m.calls ≡ true) (same_call its.0 its.1) said.1
