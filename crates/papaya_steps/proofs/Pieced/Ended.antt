-- An event by which a map ends: the list of acts goes on where the end begins, and by each of its steps.
use Rattle.std.specs.Prelude.{◌⊎◌, Some, if◌then◌else◌}
use Rattle.std.proofs.Common.{◌≡◌, ℕ, Bool, true, false, List, [], ◌∷◌, inl, inr, refl, sym, ap, subst, arith, ◌∙◌}
use Rattle.seize.specs.declared.rows.settle.Settled.{Settled}
use Rattle.seize.specs.declared.rows.settle.Settled.TheVariants as settled
use Rattle.map_tables.specs.declared.node.Node.{Node}
use Rattle.play_events.specs.Given.ScenesScene.{slot_of}
use Rattle.run_schedules.specs.declared.effect.Effect.{Effect}
use Rattle.run_schedules.specs.declared.event.Event.{Event}
use Rattle.run_schedules.specs.declared.event.Event.TheVariants as event
use Rattle.run_schedules.specs.declared.outcome.Outcome.{Outcome}
use Rattle.run_schedules.specs.declared.outcome.Outcome.TheVariants as outcome
use Rattle.run_schedules.specs.Schedules.After.{moment}
use Rattle.run_schedules.specs.Schedules.Entry.{Entry}
use Rattle.run_schedules.specs.Schedules.Terms.{shards_of}
use Rattle.run_schedules.specs.Schedules.Views.{number_of}
use Rattle.seize_words.specs.declared.fault.Fault.{Fault}
use Rattle.run_effects.specs.Effects.Known.{Known, known}
use Rattle.play_events.specs.Given.ExecutorIsThere.{PreservesSettings, work_of}
use Rattle.play_events.specs.Given.LoggedEnds.{is_done}
use Rattle.play_events.specs.Given.LoggedGoes.{EndGoes, EndGone, EndOn, Far, far}
use Rattle.play_events.specs.Given.LoggedDeclared.logged.Logged.{Logged}
use Rattle.play_events.proofs.Given.ExecutorFresh.{no_work}
use Rattle.play_events.specs.Given.SchedulerPlayed.{entry_of}
use Rattle.play_events.specs.Given.SchedulerWorks.{DidNothing, HasEndedMap, WorksOnEnd}
use Rattle.play_events.specs.Given.SchedulerDeclared.played.Played.{Played}
use Rattle.play_events.specs.Given.SchedulerDeclared.scheduler.Scheduler.{Scheduler}
use Rattle.play_events.proofs.Given.SchedulerMaps.{number_is}
use Rattle.play_events.proofs.Given.MappingMapsEnded.{no_call}
use Rattle.play_events.specs.Given.ExecutorDeclared.caller.NamedCaller.{NamedCaller}
use Rattle.play_events.specs.Given.ActsLists.{Course}
use Rattle.run_schedules.specs.Deeds.Deeds.{Ends, MapGoes}
use Rattle.play_events.specs.Given.PlayedPlay.{State, is_over, settled_outcome}
use Rattle.play_events.specs.Given.GroupedCalled.{PlaysSo}
use Rattle.play_events.specs.Given.GroupedGrouping.{MayHave, Names, refuses}
use Rattle.play_events.specs.Given.GroupedReach.{Reach}
use Rattle.play_events.proofs.Given.GroupedEndGoes.{EndsMap, end_begins, end_steps}
use Rattle.play_events.proofs.Given.GroupedMidst.{InEvent, event_begins, event_ends, at_rest}
use Rattle.play_events.proofs.Given.GroupedReached.{goes_at, reach_so}
use Rattle.papaya_steps.specs.Pieced.SoFar.{ActsSoFar, ContinuesByActs}
use Rattle.papaya_steps.proofs.Pieced.Chains.{goes_to}
use Rattle.papaya_steps.proofs.Pieced.Quiet.{did_nothing, later_by}

-- an end that is over has come to its end
pub over_is : {T : Type 0} (said : Settled T) → is_over said ≡ is_done said
over_is settled.Goes = refl
over_is settled.Waits = refl
over_is (settled.Gave value) = refl
over_is settled.Done = refl

pub done_outcome : {T : Type 0} (V : Type 0) (said : Settled T) → is_done said ≡ true → settled_outcome {V = V} said ≡ outcome.Done
done_outcome V settled.Goes is = absurd (cc is)
done_outcome V settled.Waits is = absurd (cc is)
done_outcome V (settled.Gave value) is = absurd (cc is)
done_outcome V settled.Done is = refl

module _ {K V S : Type 0} (same : K → K → Bool) (by_hasher : S → K → ℕ) (shards : ℕ) (log : List (Entry K V)) (event : Event K V) (calls : List (NamedCaller V)) (b r : ℕ) (any : Course V same by_hasher b r slot_of) (i map : ℕ)
    (may : (names : Names) (last : Bool) → MayHave names (moment log) event (if last then MapGoes map else Ends map)) where
  abbrev At : (State K V S → Type 0) → Logged K V S → Type 0
  At P l = Reach same by_hasher l.executor.hasher b r shards P l.executor (known l.notes)

  -- the end is under way, and has done this so far
  abbrev EndsSo : (did : List Effect) → Outcome V → State K V S → Type 0
  EndsSo did o x = InEvent log event did 0 o calls x × EndsMap i map x

  abbrev SoFar : Far K V S → Type 0
  SoFar x = (o : Outcome V) × At (λ s. EndsSo x.effects o s) x.logged

  -- it is, after a step
  abbrev Then : Settled (Node K V) → List Effect → State K V S → Type 0
  Then said did x = InEvent log event did 0 (settled_outcome said) calls x × (is_over said ≡ false → EndsMap i map x)

  step_so : (x y : Far K V S) → SoFar x → (step : EndGoes i map x y) → At (λ s. Then step.said y.effects s) y.logged
  step_so x y (o, at) step =
      goes_at same by_hasher shards (λ s. EndsSo x.effects o s) (λ s. Then step.said y.effects s) x.logged.executor y.logged.executor (known x.logged.notes) (known y.logged.notes)
      (λ course there. end_steps same by_hasher shards log event calls x.logged.executor y.logged.executor (step.is_noted.given.0, step.is_noted.given.1, step.is_noted.given.2) course i map step.under.0 step.under.1 step.said
      (λ s is. step.leads same (by_hasher x.logged.executor.hasher) s is) x.effects y.effects (known x.logged.notes) (known y.logged.notes) step.is_noted.did step.is_noted.noted o may there) b r any at

  goes_on : (x y : Far K V S) → SoFar x → EndOn i map x y → SoFar y
  goes_on x y at (step, on) = (
    settled_outcome step.said,
    reach_so same by_hasher y.logged.executor.hasher b r shards (λ s. Then step.said y.effects s) (λ s. EndsSo y.effects (settled_outcome step.said) s) (λ s so. (so.0, so.1 (over_is step.said ∙ on))) y.logged.executor (known y.logged.notes)
        (step_so x y at step),
  )

  -- from where it begins to where it is over
  pub ended_by : (effects : List Effect) (began new : Logged K V S) → EndGone i map [] effects began new → (o : Outcome V) → At (λ s. EndsSo [] o s) began
      → At (λ s. InEvent log event effects 0 outcome.Done calls s) new
  ended_by effects began new (prev, goes, step, over) o at =
      let done = step_so prev (far effects new) (goes_to (EndOn i map) SoFar goes_on (far [] began) prev goes (o, at)) step in
      reach_so same by_hasher new.executor.hasher b r shards (λ s. Then step.said effects s) (λ s. InEvent log event effects 0 outcome.Done calls s)
      (λ s so. subst (λ (p : Outcome V). InEvent log event effects 0 p calls s) (done_outcome V step.said over) so.0) new.executor (known new.notes) done

-- whose map is ended, by its name
may_end : {K V : Type 0} (log : List (Entry K V)) (own : List ℕ) (map : ℕ) → number_of own (moment log) ≡ Some map → (names : Names) (last : Bool)
    → MayHave names (moment log) (event.EndMap own) (if last then MapGoes map else Ends map)
may_end log own map is names true = is
may_end log own map is names false = is

module _ {K V S : Type 0} (same : K → K → Bool) (by_hasher : S → K → ℕ) (any : (batch_size roots : ℕ) → Course V same by_hasher batch_size roots slot_of) (own : List ℕ) (played : Played V) (old new : Scheduler K V S)
    (idle : played.steps ≡ 0) (works : WorksOnEnd played old new own) (given : PreservesSettings old.logged.executor new.logged.executor) where
  pub end_goes_on : ContinuesByActs same by_hasher (event.EndMap own) played old new
  end_goes_on terms log stands in_turn next next2 at = by works.1
    where
      ev : Event K V
      ev = event.EndMap own

      After : Type 0
      After = ActsSoFar same by_hasher terms (entry_of ev played ∷ log) new.logged new.calls

      its_hash : K → ℕ
      its_hash = by_hasher old.logged.executor.hasher

      ended : played.outcome ≡ outcome.Done → HasEndedMap played old new own → After
      ended done d =
          let l = old.logged in
          let free = no_call same its_hash terms log old own (record { played = stands; in_turn = in_turn }) d.number d.found d.free in
          let begins = reach_so same by_hasher l.executor.hasher terms.batch_size terms.roots (shards_of terms) (PlaysSo log old.calls) (λ (x : State K V S). InEvent log ev [] 0 at_rest old.calls x)
          (λ x so. event_begins log ev at_rest refl old.calls x so) l.executor (known l.notes) at in
          let began = goes_at same by_hasher (shards_of terms) (λ (x : State K V S). InEvent log ev [] 0 at_rest old.calls x) (λ x. InEvent log ev [] 0 at_rest old.calls x × EndsMap d.caller d.number x) l.executor
          d.began.executor (known l.notes) (known l.notes)
          (λ course there. end_begins same by_hasher (shards_of terms) log ev old.calls l.executor d.began.executor (d.stays.0, d.stays.1, d.stays.2) course d.caller d.number (λ s is. d.begun same its_hash s is)
          (ap (work_of l.executor) d.fresh ∙ no_work l.executor 0 (omega arith)) free [] at_rest (known l.notes) there) terms.batch_size terms.roots (any terms.batch_size terms.roots) begins in
          let over = ended_by same by_hasher (shards_of terms) log ev old.calls terms.batch_size terms.roots (any terms.batch_size terms.roots) d.caller d.number
          (may_end log own d.number (number_is same its_hash terms (moment log) old stands own ∙ d.found)) played.effects.items d.began new.logged d.gone at_rest
          (subst (λ (k : Known). Reach same by_hasher d.began.executor.hasher terms.batch_size terms.roots (shards_of terms) (λ x. InEvent log ev [] 0 at_rest old.calls x × EndsMap d.caller d.number x) d.began.executor k)
          (ap known (sym d.noted)) began) in
          reach_so same by_hasher new.logged.executor.hasher terms.batch_size terms.roots (shards_of terms) (λ (x : State K V S). InEvent log ev played.effects.items 0 outcome.Done old.calls x)
          (PlaysSo (entry_of ev played ∷ log) new.calls)
          (λ x so. event_ends log ev played.effects.items played.steps played.outcome new.calls x (later_by ev played old new log refl given next next2)
          (subst (λ (c : List (NamedCaller V)). InEvent log ev played.effects.items played.steps played.outcome c x) (sym works.0)
          (subst (λ (o : Outcome V). InEvent log ev played.effects.items played.steps o old.calls x) (sym done)
          (subst (λ (n : ℕ). InEvent log ev played.effects.items n outcome.Done old.calls x) (sym idle) so)))) new.logged.executor (known new.logged.notes) over

      by : ((fault : Fault) × (played.outcome ≡ outcome.Refused fault) × DidNothing played old new) ⊎ ((played.outcome ≡ outcome.Done) × HasEndedMap played old new own) → After
      by (inl (fault, says, nothing)) = did_nothing ev played old new same by_hasher idle nothing.0 nothing.1 works.0 (λ m there. inl (ap refuses says)) terms log stands in_turn next next2 at
      by (inr (done, d)) = ended done d
