-- What is promised of the obligations of calls: just what they have in hand, over the steps of calls, of which each hands over what its call owes first.
use Rattle.std.specs.Prelude.{◌≡◌, ℕ, Bool, true, List, [], Option, Some, None}
use Rattle.run_places.specs.Given.TablesDeclared.node.Node.{Node}
use Rattle.run_places.specs.Given.RawMachine.{machine_replied, machine_asked}
use Rattle.run_places.specs.Given.RawDeclared.machines.asking.MachineReply.{MachineReply}
use Rattle.run_places.specs.Given.RawDeclared.machines.machine.Machine.{Machine}
use Rattle.run_places.specs.Given.RawDeclared.machines.progress.Progress.{Progress}
use Rattle.run_places.specs.Given.RunsDeclared.call.Call.{Call}
use Rattle.run_places.specs.Given.RunsDeclared.call.Reply.{Reply}
use Rattle.run_places.specs.Given.RunsDeclared.effect.Effect.{Effect}
use Rattle.run_places.specs.Given.RunsDeclared.outcome.Outcome.{Outcome}
use Rattle.run_places.specs.Given.SchedulesBeginning.{with_call}
use Rattle.run_places.specs.Given.SchedulesEffects.{AtEachEffect, with_effects}
use Rattle.run_places.specs.Given.SchedulesEntry.{ByCall, acting, ends_call}
use Rattle.run_places.specs.Given.SchedulesMoment.{UnderWay as CallThere, Moment, start}
use Rattle.run_places.specs.Given.SchedulesViews.{call_of}
use Rattle.owner_facts.specs.Given.CallersTogether.{UnderWay}
use Rattle.run_places.specs.Given.EffectsEffects.{effects_of, known_after}
use Rattle.run_places.specs.Given.EffectsKnown.{Known, nothing_known}
use Rattle.run_places.specs.Given.EffectsDeclared.acting.Acting.TheVariants.{Call as OfCall}
use Rattle.owner_facts.specs.Given.FinishesMachines.{machine_of}
use Rattle.owner_facts.specs.Given.FinishesMaps.{with_call as with_in}
use Rattle.run_places.specs.Given.FollowsCalling.{NoneNamed, told, come_to}
use Rattle.run_places.specs.Given.FollowsShows.{Refines}
use Rattle.run_places.specs.Given.FollowsSteps.{IsOfNoRow}
use Rattle.run_places.specs.Hands.Rows.{RowsReclaimNone}
use Rattle.run_places.specs.Moments.Whole.{RefinesWhole}
use Rattle.run_places.specs.Given.OthersWalks.{given_up}
use Rattle.run_debts.specs.Due.{OwnAreMade}
use Rattle.run_debts.specs.Entries.{EntriesAreBlank}
use Rattle.run_debts.specs.Hand.{in_hand, NotesPending, SamePending, RefinesObligations}
use Rattle.run_debts.specs.Owing.{ObligationsGo, FindsObligation}
use Rattle.run_places.specs.Given.ScenesHeld.{Held, IsAt}
use Rattle.run_places.specs.Given.ScenesReplying.{AskLeads, StopLeads, scene_with, unless_stopped}
use Rattle.run_places.specs.Given.ScenesScene.{Scene, at_first}
use Rattle.run_places.specs.Given.ScenesStepping.{StepLeads, scene_after}

module _ (K V : Type 0) (same : K → K → Bool) (hash : ℕ → K → ℕ) where
  -- What a call has in hand goes with the effects of its step, and is noted after it; and it has none in hand once it has ended.
  abbrev pub PendingGoes : (m : Moment K V) (known : Known) (s : Scene K V) (old new : Held K V) (map i : ℕ) (u : UnderWay K V K) (said : Progress (Node K V))
      → s.calls map i ≡ Some u → StepLeads same hash i said s old new → Type 0
  PendingGoes m known s old new map i u said here leads =
      let to = leads map u here in
      ObligationsGo m (effects_of (OfCall i map) known new.changed) (in_hand known (machine_of u)) (in_hand known to.1) × NotesPending known to.1
      × (to.4.next ≡ None → in_hand known to.1 ≡ [])

  -- The promise, of a step of a row within a call: what the call has in hand goes so.
  abbrev pub RowsHandOver : Type 0
  RowsHandOver =
      (name : ℕ → List ℕ) (m : Moment K V) (known : Known) (s : Scene K V) (old new : Held K V)
      → IsAt same hash old s → Refines same name m known s → RowsReclaimNone s → EntriesAreBlank s → OwnAreMade known s.world
      → (map i : ℕ) (u : UnderWay K V K) (here : s.calls map i ≡ Some u) (said : Progress (Node K V)) (leads : StepLeads same hash i said s old new) → NotesPending known (machine_of u)
      → (let to = leads map u here in
      (IsOfNoRow same old.batch_size old.roots s.world s.maps s.calls s.makers s.enders map to.0 i new.memory to.4.w2 to.4.maps2 to.4.next u to.1 said to.4.did → ⊥)
      → PendingGoes m known s old new map i u said here leads)

  -- The promise, of each step of a call, whichever it is: what it has in hand goes so.
  abbrev pub CallsMovePending : Type 0
  CallsMovePending =
      (name : ℕ → List ℕ) (m : Moment K V) (known : Known) (s : Scene K V) (old new : Held K V)
      → IsAt same hash old s → Refines same name m known s → RowsReclaimNone s → EntriesAreBlank s → OwnAreMade known s.world
      → (map i : ℕ) (u : UnderWay K V K) (here : s.calls map i ≡ Some u) (said : Progress (Node K V)) (leads : StepLeads same hash i said s old new) → NotesPending known (machine_of u)
      → PendingGoes m known s old new map i u said here leads

  -- So, over each step of a call: its effects find what they hand over, each call owes after them what it has in hand, whoever's step it was, and a call that
  -- has ended has no obligation.
  abbrev pub CallsPreserveObligations : Type 0
  CallsPreserveObligations =
      (name : ℕ → List ℕ) (m : Moment K V) (known : Known) (s : Scene K V) (old new : Held K V)
      → IsAt same hash old s → RefinesWhole same name m known s → EntriesAreBlank s → OwnAreMade known s.world → RefinesObligations name m known s
      → (map i : ℕ) (u : UnderWay K V K) (here : s.calls map i ≡ Some u) (said : Progress (Node K V)) (leads : StepLeads same hash i said s old new)
      → (let to = leads map u here in
      let effects = effects_of (OfCall i map) known new.changed in
      let v = with_effects (Some (name i)) (Some map) effects m in
      AtEachEffect (λ w f. ByCall (FindsObligation w f) (acting (Some (name i)) w)) (Some (name i)) (Some map) effects m
      × RefinesObligations name v (known_after (OfCall i map) new.changed known) (scene_after same s old new map i to.0 u to.1 said to.4)
      × (to.4.next ≡ None → (c : CallThere K V) → call_of (name i) v ≡ Some c → c.owes ≡ []))

  -- A walk goes on to its next pair,
  abbrev pub WalksPreserveObligations : Type 0
  WalksPreserveObligations =
      (name : ℕ → List ℕ) (m : Moment K V) (known : Known) (s : Scene K V) (old new : Held K V) → RefinesObligations name m known s
      → (i : ℕ) (leads : AskLeads same hash i true s old new) (map : ℕ) (u : UnderWay K V K) (here : s.calls map i ≡ Some u) → RefinesObligations name m known (scene_with map i (leads map u here).0 s)

  -- or is given up: no call that is under way then has its name.
  abbrev pub WalksStopObligations : Type 0
  WalksStopObligations =
      (name : ℕ → List ℕ) (m : Moment K V) (known : Known) (s : Scene K V) (old new : Held K V) → Refines same name m known s → RefinesObligations name m known s
      → (i : ℕ) (stopped : Bool) → StopLeads same hash i stopped s old new → (map : ℕ) (u : UnderWay K V K) → s.calls map i ≡ Some u
      → (let after = record s { calls = with_in s.calls map i (unless_stopped stopped u) } in
      (stopped ≡ true → NoneNamed name (name i) after) → RefinesObligations name (given_up (name i) stopped m) known after)

module _ (K V : Type 0) where
  -- The promises: nobody has an obligation as a run begins,
  abbrev pub ObligationsBegin : Type 0
  ObligationsBegin = (roots : ℕ) (name : ℕ → List ℕ) → RefinesObligations {K = K} {V = V} name start nothing_known (at_first roots)

  -- Each owes what it has in hand as long as calls are as they were, and the blocks that they have in hand: where a row begins on a slot, where the making or the end
  -- of a map begins, and where a map is there by its number, or not any more;
  abbrev pub ObligationsStay : Type 0
  ObligationsStay =
      (name : ℕ → List ℕ) (m v : Moment K V) (known known2 : Known) (s t : Scene K V) → RefinesObligations name m known s → v.calls ≡ m.calls → t.calls ≡ s.calls
      → ((map i : ℕ) (u : UnderWay K V K) → s.calls map i ≡ Some u → SamePending known known2 (machine_of u)) → RefinesObligations name v known2 t

  -- and after any effects of what is no call: of a row on a slot, of the making of a map, and of the end of one.
  abbrev pub EffectsLeaveObligations : Type 0
  EffectsLeaveObligations =
      (name : ℕ → List ℕ) (m : Moment K V) (known known2 : Known) (s t : Scene K V) → RefinesObligations name m known s → t.calls ≡ s.calls
      → ((map i : ℕ) (u : UnderWay K V K) → s.calls map i ≡ Some u → SamePending known known2 (machine_of u))
      → (acted : Option ℕ) (effects : List Effect) → RefinesObligations name (with_effects None acted effects m) known2 t

  -- a machine has nothing in hand, whatever is noted
  abbrev pub HasNothing : Machine K V K → Type 0
  HasNothing machine = (known : Known) → (in_hand known machine ≡ []) × NotesPending known machine

  -- So it is where a call begins that has nothing in hand, by a name that no call under way has,
  abbrev pub CallsBeginObligations : Type 0
  CallsBeginObligations =
      (name : ℕ → List ℕ) (m : Moment K V) (known : Known) (s : Scene K V) → RefinesObligations name m known s
      → (map i : ℕ) (u : UnderWay K V K) (call : Call K V) (guard : List ℕ) → NoneNamed name (name i) s → HasNothing (machine_of u)
      → RefinesObligations name (with_call (name i) guard call (Some map) m) known (scene_with map i u s)

  -- where one that asks goes on by what it is told,
  abbrev pub CallsTakeObligations : Type 0
  CallsTakeObligations =
      (same : K → K → Bool) (name : ℕ → List ℕ) (m : Moment K V) (known : Known) (s : Scene K V) → RefinesWhole same name m known s → RefinesObligations name m known s
      → (map i : ℕ) (u : UnderWay K V K) → s.calls map i ≡ Some u → (reply : MachineReply V) (next : UnderWay K V K) → machine_of next ≡ (machine_replied (machine_of u) reply).0
      → (is_told : Reply V) → RefinesObligations name (told (name i) is_told m) known (scene_with map i next s)

  -- and where one comes to an outcome: where that is its end, no call under way has its name any more.
  abbrev pub OutcomesPreserveObligations : Type 0
  OutcomesPreserveObligations =
      (same : K → K → Bool) (name : ℕ → List ℕ) (m : Moment K V) (known : Known) (s : Scene K V) → RefinesWhole same name m known s → RefinesObligations name m known s
      → (own : List ℕ) (outcome : Outcome V) (steps : ℕ) → (ends_call outcome ≡ true → NoneNamed name own s) → RefinesObligations name (come_to own outcome steps m) known s

  -- A walk that is ready for its next pair has nothing in hand.
  abbrev pub WalksHaveNothing : Type 0
  WalksHaveNothing = (machine : Machine K V K) → (machine_asked machine).1 ≡ true → HasNothing machine
