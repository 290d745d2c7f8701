-- What calls on no key are refused for is room, whatever they are told; and of a call that goes on, or is ready.
use Rattle.std.specs.Prelude.{◌≡◌, ℕ, Bool, true, false, List, [], Option, Some}
use Rattle.std.proofs.Common.{refl, ap, sym, ◌∙◌, inl, inr}
use Rattle.run_legal.specs.Given.LateFaults.{RoomInSweeping}
use Rattle.run_legal.proofs.Given.LateKindsKept.Laws.{told_sweeps_refuse_room}
use Rattle.run_legal.specs.Given.TablesDeclared.node.Node.{Node}
use Rattle.run_schedules.specs.Given.ReservesDeclared.sweep.Sweeping.{Sweeping}
use Rattle.run_schedules.specs.Given.ReservesDeclared.sweep.Sweeping.TheVariants as sweeping
use Rattle.run_schedules.specs.Given.RawMachine.{machine_asked, machine_replied, sweep_with_reply}
use Rattle.run_schedules.specs.Given.RawDeclared.machines.asking.MachineReply.{MachineReply}
use Rattle.run_schedules.specs.Given.RawDeclared.machines.asking.MachineReply.TheVariants as reply
use Rattle.run_schedules.specs.Given.RawDeclared.machines.machine.Machine.{Machine}
use Rattle.run_schedules.specs.Given.RawDeclared.machines.machine.Machine.TheVariants as kinds
use Rattle.run_schedules.specs.Given.RawDeclared.machines.progress.Progress.{Progress}
use Rattle.run_schedules.specs.Given.RawDeclared.machines.progress.Progress.TheVariants as progress
use Rattle.run_legal.specs.Given.CallersTogether.{UnderWay}
use Rattle.run_legal.specs.Given.EffectsKnown.{Known}
use Rattle.run_legal.specs.Given.FinishesMachines.{ContinuesAs, machine_of}
use Rattle.run_legal.specs.Given.FinishesMaps.{with_call}
use Rattle.run_legal.specs.Given.NamedMachines.{RefusedForRoom}
use Rattle.run_legal.specs.Given.ScenesScene.{Scene}
use Rattle.run_legal.specs.Given.ScenesStepping.{has_ended}
use Rattle.run_legal.specs.Given.SettlesHand.{in_hand}
use Rattle.run_legal.proofs.Given.FollowsCalling.{is_same_refl}
use Rattle.run_legal.proofs.Given.HandsAsking.{which}
use Rattle.run_schedules.specs.Deeds.Deeds.{Entry, moment, named}
use Rattle.run_schedules.specs.Deeds.History.{past}
use Rattle.play_linear.specs.Linear.Shown.{RefinesAnswers}

module _ {K V : Type 0} where
  abbrev pub HasRoom : Scene K V → Type 0
  HasRoom s = (map i : ℕ) (u : UnderWay K V K) → s.calls map i ≡ Some u → RefusedForRoom (machine_of u)

  -- where the call of one caller is changed
  pub room_on : (s t : Scene K V) (map i : ℕ) (next : Option (UnderWay K V K)) → t.calls ≡ with_call s.calls map i next → ((x : UnderWay K V K) → next ≡ Some x → RefusedForRoom (machine_of x)) → HasRoom s → HasRoom t
  room_on s t map i next calls own room n j x is =
      elim (which s.calls map i next n j x (sym (ap (λ (f : ℕ → ℕ → Option (UnderWay K V K)). f n j) calls) ∙ is)) as (λ _. RefusedForRoom (machine_of x)) [
        | inl its ↦ own x its.2
        | inr was ↦ room n j x was.1
      ]

  pub room_still : (s t : Scene K V) → t.calls ≡ s.calls → HasRoom s → HasRoom t
  room_still s t calls room n j x is = room n j x (sym (ap (λ (f : ℕ → ℕ → Option (UnderWay K V K)). f n j) calls) ∙ is)

  -- once it is told something
  pub told_room : (machine : Machine K V K) (told : MachineReply V) → RefusedForRoom machine → RefusedForRoom (machine_replied machine told).0
  told_room (kinds.Key call) told room = tt
  told_room (kinds.Reserve c) told room = room
  told_room (kinds.Count c) told room = tt
  told_room (kinds.Sweep c) told room = by c.stands told
    where
      by : (stage : Sweeping) (told : MachineReply V) → RoomInSweeping (sweep_with_reply stage c told).0.stands
      by (sweeping.Asks word) reply.Yes = (told_sweeps_refuse_room c room).1 true
      by (sweeping.Asks word) reply.No = (told_sweeps_refuse_room c room).1 false
      by (sweeping.Asks word) (reply.Insert v) = room
      by (sweeping.Asks word) reply.Remove = room
      by (sweeping.Asks word) reply.Abort = room
      by _ told = room

  -- a walk that is ready has nothing in hand
  pub ready_has_none : (known : Known) (machine : Machine K V K) → true ≡ (machine_asked machine).1 → in_hand known machine ≡ []
  ready_has_none known (kinds.Key call) ready = absurd (cc ready)
  ready_has_none known (kinds.Reserve c) ready = absurd (cc ready)
  ready_has_none known (kinds.Count c) ready = absurd (cc ready)
  ready_has_none known (kinds.Sweep c) ready = by c.stands refl
    where
      by : (stage : Sweeping) → c.stands ≡ stage → in_hand {K = K} {V = V} {Q = K} known (kinds.Sweep c) ≡ []
      by sweeping.Ready is = ap (λ (p : Sweeping). in_hand {K = K} {V = V} {Q = K} known (kinds.Sweep (record c { stands = p }))) is
      by stage is = absurd (let never = ap (λ (p : Sweeping). (machine_asked {K = K} {V = V} {Q = K} (kinds.Sweep (record c { stands = p }))).1) is in cc (ready, never))

  -- one that has not ended goes on
  pub goes_on : (machine : Machine K V K) (said : Progress (Node K V)) (next : Option (UnderWay K V K)) → has_ended said ≡ false → ContinuesAs machine said next → (x : UnderWay K V K) × (next ≡ Some x)
  goes_on machine (progress.Done answer) next e goes = absurd (cc e)
  goes_on machine (progress.Refused fault) next e goes = absurd (cc e)
  goes_on machine progress.Goes next e goes = (goes.0, goes.1)
  goes_on machine (progress.Gave node) next e goes = (goes.0, goes.1)
  goes_on machine (progress.Unstored node) next e goes = (goes.0, goes.1)
  goes_on machine progress.Waits next e goes = (goes.0, goes.1)
  goes_on machine (progress.Asks word) next e goes = (goes.0, goes.1)
  goes_on machine progress.Ready next e goes = (goes.0, goes.1)
  goes_on machine (progress.Pair word) next e goes = (goes.0, goes.1)

  -- a caller has one call at most
  pub one_call : (same : K → K → Bool) (history : List (Entry K V)) (known : Known) (s : Scene K V) → RefinesAnswers same (past history) (moment history) known s → (map i : ℕ) (u : UnderWay K V K)
      → s.calls map i ≡ Some u → (n : ℕ) (y : UnderWay K V K) → s.calls n i ≡ Some y → n ≡ map
  one_call same history known s all map i u here n y is = (all.whole.all.asked.apart n i map i y u is here (is_same_refl (named i))).0
