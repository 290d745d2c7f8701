-- An event of a call, whole: after each of its steps the waiting sets of blocks are those of the model, by what the event has told so far, or the call is in the
-- midst of a row that has told its part; and once the event is over it is by the model.
use Rattle.std.specs.Prelude.{◌≡◌, ◌≢◌, ◌≤◌, ◌⊎◌, ℕ, Bool, List, [], ◌∷◌, ◌++◌, flat_map, Some}
use Rattle.seize.specs.WaitingSets.{Change, Sets}
use Rattle.seize.specs.World.{World, Rests, Request, Retire, Defer', Begin, Step, Happens}
use Rattle.run_executor.specs.Given.SeizeWaitingHeld.{count}
use Rattle.papaya_raw.specs.declared.machines.progress.Progress.{Progress}
use Rattle.papaya_raw.specs.Given.TablesNodes.{deferred_word}
use Rattle.papaya_raw.specs.Given.TablesDeclared.node.Node.{Node}
use Rattle.run_executor.specs.Given.CallersTogether.{UnderWay, HandsOver}
use Rattle.run_executor.specs.Given.EffectsEffects.{effects_of, known_after}
use Rattle.run_executor.specs.Given.EffectsKnown.{Known}
use Rattle.run_executor.specs.Given.EffectsDeclared.acting.Acting.TheVariants.{Call}
use Rattle.run_executor.specs.Given.MomentsWhole.{RefinesWhole}
use Rattle.run_schedules.specs.Schedules.After.{moment}
use Rattle.run_schedules.specs.Runs.Present.{slot_of_guard}
use Rattle.run_schedules.specs.Schedules.Beginning.{at_work}
use Rattle.run_schedules.specs.Schedules.Entry.{Entry, acting, caller_of}
use Rattle.run_schedules.specs.Schedules.Model.{IsByModel, came, handing, guard_or, things_in, sets_in, changes_of, left_last}
use Rattle.run_schedules.specs.Schedules.Moment.{Moment}
use Rattle.run_schedules.specs.Schedules.Terms.{Terms}
use Rattle.run_schedules.specs.declared.effect.Effect.{Effect}
use Rattle.run_schedules.specs.declared.effect.Thing.{Thing}
use Rattle.run_schedules.specs.declared.event.Event.{Event}
use Rattle.run_schedules.specs.declared.event.Event.TheVariants as event
use Rattle.run_kept.specs.Models.Calls.{sets_on, FollowsInCall}
use Rattle.run_kept.specs.Models.Defers.{AreNoted, HasReportedDefer}
use Rattle.run_kept.specs.Models.Follows.{FollowsSets, FollowsModel}
use Rattle.run_kept.specs.Models.Numbers.{HasNumber, EachIsOnce, AreOfThings, NoneBack}
use Rattle.run_kept.specs.Models.Retires.{HasReportedRetire}
use Rattle.run_executor.specs.Given.ScenesHeld.{Held, IsAt}
use Rattle.run_executor.specs.Given.ScenesScene.{Scene}
use Rattle.run_executor.specs.Given.ScenesStepping.{StepLeads}

module _ (things : List Thing) (known : Known) (slot : ℕ) where
  -- what a row is to hand over is noted as things that came into maps, and it retires under this slot
  abbrev pub IsNoted : Request → Type 0
  IsNoted (Retire s b) = (s ≡ slot) × (k : ℕ) × HasNumber known things b k
  IsNoted (Defer' s b t) = AreNoted things known b t
  IsNoted _ = ⊥

  -- and it has told its part so far
  abbrev pub HasReportedPart : {K V : Type 0} → ℕ → Request → List Change → World (Node K V) → Type 0
  HasReportedPart i (Retire s b) handed w = (s ≡ slot) × ((k : ℕ) × HasNumber known things b k) × HasReportedRetire things known i slot b handed w
  HasReportedPart i (Defer' s b t) handed w = AreNoted things known b t × HasReportedDefer things known i b t handed w
  HasReportedPart i _ handed w = ⊥

-- all things after these effects
abbrev pub things_then : List Thing → List Effect → List Thing
things_then things effects = things ++ flat_map came effects

module _ {K V : Type 0} (batch_size roots : ℕ) where
  -- Caller i is in the midst of a row, which has told its part.
  pub record IsInItsRow (things : List Thing) (sets : Sets) (slot i : ℕ) (known : Known) (w : World (Node K V)) : Type 0 where
    pub goes : w.row i ≢ Rests
    pub request : Request
    pub handed : List Change
    pub follows : FollowsInCall batch_size roots things sets known i request handed w
    pub told : HasReportedPart things known slot i request handed w

  -- In the midst of an event of a call of caller i under this slot, which has done this; as it began these were the things and the sets of the model.
  pub record FollowsInEvent (things : List Thing) (sets : Sets) (slot i : ℕ) (done : List Effect) (known : Known) (w : World (Node K V)) : Type 0 where
    pub come : AreOfThings (things_then things done) done
    pub back : NoneBack done
    pub so : FollowsSets batch_size roots (things_then things done) (sets_on batch_size (things_then things done) slot done sets) known w
        ⊎ IsInItsRow (things_then things done) (sets_on batch_size (things_then things done) slot done sets) slot i known w

module _ (K V : Type 0) where
  -- The promises: so it is where such an event begins,
  abbrev pub CallEventsBegin : Type 0
  CallEventsBegin =
      (batch_size roots : ℕ) (things : List Thing) (sets : Sets) (known : Known) (w : World (Node K V)) → FollowsSets batch_size roots things sets known w
      → (slot i : ℕ) → FollowsInEvent batch_size roots things sets slot i [] known w

  -- and once it is over it is by the model, if its slot was active as it began, and the sets are those of the model after it, or the call is in the midst of a row still,
  abbrev pub CallEventsPause : Type 0
  CallEventsPause =
      (terms : Terms) (log : List (Entry K V)) (e : Entry K V) (slot i : ℕ) (known : Known) (w : World (Node K V))
      → FollowsInEvent terms.batch_size terms.roots (things_in log) (sets_in terms.batch_size log) slot i e.effects known w
      → changes_of log e ≡ flat_map (handing (things_in (e ∷ log)) slot) e.effects → left_last e.event e.outcome (moment log) ≡ []
      → 1 ≤ count slot (sets_in terms.batch_size log).active
      → IsByModel terms log e
      × (FollowsModel terms.batch_size terms.roots (e ∷ log) known w ⊎ IsInItsRow terms.batch_size terms.roots (things_in (e ∷ log)) (sets_in terms.batch_size (e ∷ log)) slot i known w)

module _ (K V : Type 0) (same : K → K → Bool) (hash : ℕ → K → ℕ) where
  -- So it is after each step of the call, if what a row is to hand over that begins with it is noted.
  abbrev pub CallEventsContinue : Type 0
  CallEventsContinue =
      (name : ℕ → List ℕ) (m : Moment K V) (known : Known) (s : Scene K V) (old new : Held K V) → IsAt same hash old s → RefinesWhole same name m known s
      → (map i : ℕ) (u : UnderWay K V K) (here : s.calls map i ≡ Some u) (told : Progress (Node K V)) (leads : StepLeads same hash i told s old new)
      → EachIsOnce (known_after (Call i map) new.changed known)
      → (roots : ℕ) (things : List Thing) (sets : Sets) (slot : ℕ) (done : List Effect) → FollowsInEvent old.batch_size roots things sets slot i done known s.world
      → ((request : Request) (begun : World (Node K V)) → HandsOver (leads map u here).0.setting i s.world request → Happens deferred_word old.batch_size (Begin i request) s.world begun
      → Happens deferred_word old.batch_size (Step i) begun (leads map u here).4.w2 → IsNoted (things_then things done) known slot request)
      → FollowsInEvent old.batch_size roots things sets slot i (done ++ effects_of (Call i map) known new.changed) (known_after (Call i map) new.changed known)
      (leads map u here).4.w2

-- the event is none of a guard, of a registration, nor of the collector as a whole, that is a row on a slot
abbrev pub IsOfNoSlot : {K V : Type 0} → Event K V → Type 0
IsOfNoSlot (event.Enter guard registration) = ⊥
IsOfNoSlot (event.Own guard) = ⊥
IsOfNoSlot (event.DropGuard guard) = ⊥
IsOfNoSlot (event.Refresh guard) = ⊥
IsOfNoSlot (event.Flush guard) = ⊥
IsOfNoSlot event.ReclaimAll = ⊥
IsOfNoSlot event.Close = ⊥
IsOfNoSlot _ = Unit {0}

-- the slot of the guard under which the call acts
abbrev pub slot_of_call : {K V : Type 0} → Event K V → Moment K V → ℕ
slot_of_call e m = slot_of_guard (guard_or (acting (caller_of e) m)) m.there

-- The promise: such an event changes the sets by what it hands over, under that slot, and leaves nothing to be reclaimed last.
abbrev pub OthersHandOver : Type 0 → Type 0 → Type 0
OthersHandOver K V =
    (log : List (Entry K V)) (e : Entry K V) → IsOfNoSlot e.event
    → (changes_of log e ≡ flat_map (handing (things_in (e ∷ log)) (slot_of_call e.event (at_work e (moment log)))) e.effects) × (left_last e.event e.outcome (moment log) ≡ [])
