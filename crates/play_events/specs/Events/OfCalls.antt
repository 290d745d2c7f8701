-- What is so after each event of a run, of the scheduler and of the scene for which it stands; and what is promised of an event of a call: it keeps its promises, and the run goes on.
use Rattle.std.specs.Prelude.{◌≡◌, ◌<◌, ◌≤◌, ◌^◌, ◌+◌, ℕ, Bool, true, false, List, ◌∷◌, slice_index_or, Option, Some, None}
use Rattle.std.specs.List.{AllByRecursion}
use Rattle.seize_acts.specs.Given.SeizeWaitingHeld.{count}
use Rattle.play_stepping.specs.Given.SeizeWaitingSets.{Sets}
use Rattle.play_stepping.specs.Given.SeizeWorld.{World, IsInside, SlotsTaken}
use Rattle.play_lists.specs.Given.TablesDeclared.node.Node.{Node}
use Rattle.play_lists.specs.Given.TablesDeclared.setting.Setting.{Setting}
use Rattle.play_stepping.specs.Given.RawDeclared.machines.progress.Progress.{Progress}
use Rattle.run_schedules.specs.declared.effect.Effect.{Effect}
use Rattle.run_schedules.specs.declared.event.Event.{Event}
use Rattle.run_schedules.specs.Schedules.After.{moment}
use Rattle.run_schedules.specs.Schedules.Entry.{Entry}
use Rattle.run_schedules.specs.Schedules.InTurn.{HasRightOutcome}
use Rattle.run_schedules.specs.declared.effect.Thing.{Thing}
use Rattle.run_schedules.specs.Schedules.Model.{things_in}
use Rattle.run_schedules.specs.Schedules.Moment.{UnderWay as CallThere, Moment}
use Rattle.run_schedules.specs.Schedules.Terms.{Terms, shards_of}
use Rattle.run_schedules.specs.Schedules.Views.{call_of}
use Rattle.play_stepping.specs.Given.CallersTogether.{UnderWay}
use Rattle.play_lists.specs.Given.EffectsEffects.{known_after}
use Rattle.play_lists.specs.Given.EffectsKnown.{Known, known}
use Rattle.play_lists.specs.Given.EffectsDeclared.acting.Acting.TheVariants as acts
use Rattle.play_stepping.specs.Given.ExecutorDeclared.executor.Executor.{Executor}
use Rattle.play_lists.specs.Given.HistoriesInEvent.{HasOutcomeSo}
use Rattle.play_lists.specs.Given.FinishesMachines.{machine_of}
use Rattle.run_legal.specs.Given.ModelsCallEvents.{IsInItsRow}
use Rattle.play_lists.specs.Given.ValuesValues.{KeepsValue}
use Rattle.play_stepping.specs.Given.ExecutorDeclared.caller.NamedCaller.{NamedCaller}
use Rattle.run_legal.specs.CallEvents.{InCallEvent, IsLegalBut}
use Rattle.run_legal.specs.CallSwept.{OutcomeOf}
use Rattle.run_legal.specs.Carried.{RefinesRun}
use Rattle.run_legal.specs.Noted.{HaveCome}
use Rattle.play_events.specs.Folded.Folded.{HandsInOrder}
use Rattle.play_stepping.specs.Given.SchedulerPlayed.{IsPlayed, entry_of}
use Rattle.play_stepping.specs.Given.NamedSeen.{kind_of}
use Rattle.play_stepping.specs.Given.SchedulerDeclared.played.Played.{Played}
use Rattle.play_stepping.specs.Given.SchedulerDeclared.scheduler.Scheduler.{Scheduler}
use Rattle.play_stepping.specs.EventSteps.Stepping.{HasOutcomeOfKind}
use Rattle.play_stepping.specs.Given.Says.{outcome_of}
use Rattle.play_stepping.specs.Given.NeedsNeeds.{AreReached}
use Rattle.play_events.specs.Events.Asked.{FindsRight, is_of_calls}
use Rattle.play_lists.specs.Given.ScenesScene.{Scene}
use Rattle.play_lists.specs.Given.ScenesHeld.{Held, IsAt}
use Rattle.play_lists.specs.Given.ScenesStepping.{StepLeads}

-- each map has as many shards as the terms say
abbrev pub HaveShards : {K V S : Type 0} → Terms → Executor K V S → Type 0
HaveShards terms e = (n : ℕ) (setting : Setting) → slice_index_or e.maps.items n None ≡ Some setting → setting.mask + 1 ≡ shards_of terms

-- each caller keeps the value that it is to tell back, by its call and replies and its machine
abbrev pub IsWorth : {K V : Type 0} → Moment K V → Scene K V → NamedCaller V → Type 0
IsWorth {K} {V} m s d = (u : UnderWay K V K) → s.calls d.map d.number ≡ Some u → (c : CallThere K V) → call_of d.name m ≡ Some c → KeepsValue c.call c.replies (machine_of u) d.value

abbrev pub HaveValues : {K V : Type 0} → Moment K V → Scene K V → List (NamedCaller V) → Type 0
HaveValues m s calls = AllByRecursion (λ d. IsWorth m s d) calls

module _ {K V S : Type 0} (same : K → K → Bool) (hash : K → ℕ) where
  -- The scheduler has played the log, and in the scene for which it stands all is so by which the next event keeps its promises; all that was stored and linked came into a map by the log; callers keep
  -- the values that they are to tell back; as many slots were taken as the moment says; its executor has the size of batches that the terms say, and maps with as many shards as they say; and slots
  -- that were ever taken have their words, as is noted.
  pub record Runs (terms : Terms) (log : List (Entry K V)) (p : Scheduler K V S) : Type 0 where
    pub stands : IsPlayed same hash terms log p
    pub shows : RefinesRun same stands.name terms log (known p.logged.notes) stands.scene
    pub come : HaveCome (things_in log) (moment log)
    pub values : HaveValues (moment log) stands.scene p.calls
    pub taken : SlotsTaken stands.scene.world.memory (moment log).slots
    pub size : p.logged.executor.batch_size ≡ terms.batch_size
    pub shards : HaveShards terms p.logged.executor
    pub reached : AreReached (moment log).slots (known p.logged.notes)

  -- What is promised of an event: it is legal but for what it comes to, what it hands over it hands over in order, and a run goes on with it.
  pub record RunsOn (terms : Terms) (log : List (Entry K V)) (e : Entry K V) (p : Scheduler K V S) : Type 0 where
    pub legal : IsLegalBut same terms log e
    pub hands : HandsInOrder log e
    pub runs : Runs terms (e ∷ log) p

-- a slot is active in the sets of the model while a row of a call is under way
abbrev pub InsidesFollowInRows : Type 0 → Type 0 → Type 0
InsidesFollowInRows K V =
    (batch_size roots : ℕ) (things : List Thing) (sets : Sets) (known : Known) (w : World (Node K V)) → batch_size < 2 ^ 64
    → (row_slot slot i : ℕ) → IsInItsRow batch_size roots things sets row_slot i known w → IsInside (w.uses slot) → 1 ≤ count slot sets.active

module _ (K V : Type 0) (same : K → K → Bool) (hash : ℕ → K → ℕ) where
  -- what the last step of an event says is told so, if its caller keeps the value that it is to tell back, and it is told as such a call may be
  abbrev pub LastStepsTell : Type 0
  LastStepsTell =
      (name : ℕ → List ℕ) (terms : Terms) (log : List (Entry K V)) (event : Event K V) (beginning : Moment K V) (map i : ℕ) (c : CallThere K V) (steps : ℕ) (done : List Effect) (m : Moment K V) (known : Known)
      (s : Scene K V) (u : UnderWay K V K) → InCallEvent same name terms log event beginning map i c steps done m known s u
      → (old new : Held K V) → IsAt same hash old s → (said : Progress (Node K V)) → StepLeads same hash i said s old new
      → (d : CallThere K V) → call_of (name i) m ≡ Some d → d.call ≡ c.call → d.replies ≡ c.replies → (value : Option V)
      → (let known2 = known_after (acts.Call i map) new.changed known in
      let told = outcome_of known2 (kind_of c.call) value said in
      HasOutcomeOfKind c.call told → KeepsValue c.call c.replies (machine_of u) value → HasOutcomeSo known2 c.call c.replies said told × OutcomeOf same log m map known2 said told c.call)

module _ {K V S : Type 0} (same : K → K → Bool) (hash : K → ℕ) where
  -- What is promised of an event of a call that is in turn: it finds what it must to come to what is right; and if it does, it keeps its promises, and the run goes on.
  abbrev pub PreservesInTurn : Event K V → Played V → (old new : Scheduler K V S) → Type 0
  PreservesInTurn event played old new =
      (terms : Terms) (log : List (Entry K V)) → Runs same hash terms log old → (moment log).is_closed ≡ false
      → FindsRight terms log (entry_of event played) × (HasRightOutcome terms log (entry_of event played) → RunsOn same hash terms log (entry_of event played) new)

  -- And so it is of one that is kept out.
  abbrev pub PreservesAt : Event K V → Played V → (old new : Scheduler K V S) → Type 0
  PreservesAt event played old new =
      is_of_calls event ≡ true → (terms : Terms) (log : List (Entry K V)) → Runs same hash terms log old
      → FindsRight terms log (entry_of event played) × (HasRightOutcome terms log (entry_of event played) → RunsOn same hash terms log (entry_of event played) new)
