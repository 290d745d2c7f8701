-- An event by which all is reclaimed: the list of acts goes on where that begins, by each of its steps, and where it is over.
use Rattle.std.specs.Prelude.{◌<◌, ◌⊎◌, ◌^◌, length, nat_lt, if◌then◌else◌}
use Rattle.std.proofs.Common.{◌≡◌, ℕ, Bool, true, false, List, [], ◌∷◌, inl, inr, refl, sym, ap, subst, arith, ◌∙◌}
use Rattle.std.proofs.lemmas.Bool.{ltb-false, ltb-true}
use Rattle.seize.specs.ReclaimAll.{clearing, reclaiming_all}
use Rattle.seize.specs.declared.rows.reclaim_all.ReclaimAll.{ReclaimAll}
use Rattle.seize.specs.declared.rows.settle.Settled.{Settled}
use Rattle.seize.specs.declared.rows.settle.Settled.TheVariants as settled
use Rattle.play_events.specs.Given.ScenesDeclared.callers.TheConstants.{SLOTS}
use Rattle.play_events.specs.Given.ScenesScene.{slot_of}
use Rattle.run_schedules.specs.declared.effect.Effect.{Effect}
use Rattle.run_schedules.specs.declared.event.Event.{Event}
use Rattle.run_schedules.specs.declared.event.Event.TheVariants as events
use Rattle.run_schedules.specs.declared.outcome.Outcome.{Outcome}
use Rattle.run_schedules.specs.declared.outcome.Outcome.TheVariants as outcome
use Rattle.run_schedules.specs.Schedules.After.{moment}
use Rattle.run_schedules.specs.Schedules.Entry.{Entry}
use Rattle.run_schedules.specs.Schedules.Terms.{shards_of}
use Rattle.seize_words.specs.declared.fault.Fault.TheVariants as fault
use Rattle.run_effects.specs.Effects.Known.{Known, known}
use Rattle.play_events.specs.Given.ExecutorIsThere.{PreservesSettings}
use Rattle.play_events.specs.Given.ExecutorDeclared.executor.Executor.{Executor}
use Rattle.play_events.specs.Given.LoggedEnds.{is_done}
use Rattle.play_events.specs.Given.LoggedGoes.{Far, ReclaimingGoes, ReclaimingGone, ReclaimingOn, far}
use Rattle.play_events.specs.Given.LoggedDeclared.logged.Logged.{Logged}
use Rattle.play_events.specs.Given.ReclaimingReclaiming.{NobodyHas}
use Rattle.play_events.specs.Given.SchedulerAllWorks.{WorksOnAll}
use Rattle.play_events.specs.Given.SchedulerPlayed.{entry_of}
use Rattle.play_events.specs.Given.SchedulerReclaiming.{NotesSlots, are_gone}
use Rattle.play_events.specs.Given.SchedulerWorks.{DidNothing}
use Rattle.play_events.specs.Given.SchedulerDeclared.played.Played.{Played}
use Rattle.play_events.specs.Given.SchedulerDeclared.scheduler.Scheduler.{Scheduler}
use Rattle.play_events.proofs.Given.MappingAllGiven.{nobody_has}
use Rattle.play_events.specs.Given.ExecutorDeclared.caller.NamedCaller.{NamedCaller}
use Rattle.play_events.specs.Given.ActsLists.{Course}
use Rattle.run_schedules.specs.Deeds.Deeds.{ReclaimsAll}
use Rattle.play_events.specs.Given.PlayedPlay.{State, settled_outcome}
use Rattle.play_events.specs.Given.GroupedCalled.{PlaysSo}
use Rattle.play_events.specs.Given.GroupedGrouping.{MayHave, Names, refuses}
use Rattle.play_events.specs.Given.GroupedReach.{LeadsTo, Reach}
use Rattle.play_events.proofs.Given.GroupedAllGoes.{IsAll, all_ends, all_steps, nobody_then, roots_begin, slots_begin}
use Rattle.play_events.proofs.Given.GroupedMidst.{InEvent, event_begins, event_ends, maps_of, at_rest}
use Rattle.play_events.proofs.Given.GroupedReached.{reach_so}
use Rattle.papaya_steps.specs.Pieced.SoFar.{ActsSoFar, ContinuesByActs}
use Rattle.papaya_steps.proofs.Pieced.Chains.{goes_to}
use Rattle.papaya_steps.proofs.Pieced.Ended.{done_outcome, over_is}
use Rattle.papaya_steps.proofs.Pieced.Quiet.{did_nothing, later_by}

-- what is so by what an executor was given is so by what that is
by_given : {K V S : Type 0} (F : S → ℕ → ℕ → Type 0) (e : Executor K V S) (h : S) (b r : ℕ) → e.hasher ≡ h → e.batch_size ≡ b → e.roots ≡ r → F e.hasher e.batch_size e.roots → F h b r
by_given {S = S} F e h b r hasher size roots so = subst (λ (x : S). F x b r) hasher (subst (λ (x : ℕ). F e.hasher x r) size (subst (λ (x : ℕ). F e.hasher e.batch_size x) roots so))

done_is : {T : Type 0} (said : Settled T) → is_done said ≡ true → said ≡ settled.Done
done_is settled.Goes is = absurd (cc is)
done_is settled.Waits is = absurd (cc is)
done_is (settled.Gave value) is = absurd (cc is)
done_is settled.Done is = refl

module _ {K V S : Type 0} (same : K → K → Bool) (by_hasher : S → K → ℕ) (shards : ℕ) (log : List (Entry K V)) (event : Event K V) (calls : List (NamedCaller V)) (may : (names : Names) (last : Bool) → MayHave names (moment log) event (ReclaimsAll last))
    (h : S) (b r : ℕ) (any : Course V same by_hasher b r slot_of) (small : b < 2 ^ 64) where
  abbrev In : (did : List Effect) → Outcome V → State K V S → Type 0
  In did o x = InEvent log event did 0 o calls x

  abbrev At : Executor K V S → ReclaimAll → (State K V S → Type 0) → Known → Type 0
  At e c P noted = LeadsTo same by_hasher h b r shards (IsAll same by_hasher h b r e 0 c) P noted

  -- so far all is reclaimed
  record SoFar (x : Far K V S × ReclaimAll) : Type 0 where
    nobody : NobodyHas x.0.logged.executor
    slots : length x.0.logged.executor.slots.items ≡ SLOTS
    hasher : x.0.logged.executor.hasher ≡ h
    size : x.0.logged.executor.batch_size ≡ b
    roots : x.0.logged.executor.roots ≡ r
    outcome : Outcome V
    at : At x.0.logged.executor x.1 (In x.0.effects outcome) (known x.0.logged.notes)

  goes_on : (x y : Far K V S × ReclaimAll) → SoFar x → ReclaimingOn x y → SoFar y
  goes_on x y so (step, on) =
      let e = x.0.logged.executor in
      let e2 = y.0.logged.executor in
      let said = step.1 in
      let over = over_is said ∙ on in
      let given = step.0.given in
      let small_there : e.batch_size < 2 ^ 64 = subst (λ (n : ℕ). n < 2 ^ 64) (sym so.size) small in
      let F : S → ℕ → ℕ → Type 0 = λ h2 b2 r2. Course V same by_hasher b2 r2 slot_of → LeadsTo same by_hasher h2 b2 r2 shards (IsAll same by_hasher h2 b2 r2 e 0 x.1) (In x.0.effects so.outcome) (known x.0.logged.notes)
      → LeadsTo same by_hasher h2 b2 r2 shards (IsAll same by_hasher h2 b2 r2 e2 0 y.1) (In y.0.effects (settled_outcome said)) (known y.0.logged.notes) in
      let N : S → ℕ → ℕ → Type 0 = λ h2 b2 r2. Course V same by_hasher b2 r2 slot_of → LeadsTo same by_hasher h2 b2 r2 shards (IsAll same by_hasher h2 b2 r2 e 0 x.1) (In x.0.effects so.outcome) (known x.0.logged.notes)
      → NobodyHas e2 × (length e2.slots.items ≡ SLOTS) in
      let next = by_given F e h b r so.hasher so.size so.roots
      (λ course at. all_steps same by_hasher shards log event calls may e course 0 e2 (given.0, given.1, given.2) so.nobody so.slots small_there x.1 y.1 said (λ s lists is. step.2 same (by_hasher e.hasher) s 0 lists is)
      x.0.effects y.0.effects (known x.0.logged.notes) (known y.0.logged.notes) step.0.did step.0.noted so.outcome over at) in
      let idle = by_given N e h b r so.hasher so.size so.roots
      (λ course at. nobody_then same by_hasher shards log event calls may e course 0 e2 (given.0, given.1, given.2) so.nobody so.slots small_there x.1 y.1 said (λ s lists is. step.2 same (by_hasher e.hasher) s 0 lists is)
      x.0.effects y.0.effects (known x.0.logged.notes) (known y.0.logged.notes) step.0.did step.0.noted so.outcome over at) any so.at in
      record {
        nobody = idle.0;
        slots = idle.1;
        hasher = given.0 ∙ so.hasher;
        size = given.1 ∙ so.size;
        roots = given.2 ∙ so.roots;
        outcome = settled_outcome said;
        at = next any so.at;
      }

  -- the last step
  ends : (x : Far K V S × ReclaimAll) (effects : List Effect) (new : Logged K V S) (last : ReclaimAll) → SoFar x → (step : ReclaimingGoes x (far effects new, last)) → is_done step.1 ≡ true
      → Reach same by_hasher h b r shards (In effects outcome.Done) new.executor (known new.notes)
  ends x effects new last so step done =
      let e = x.0.logged.executor in
      let said = step.1 in
      let given = step.0.given in
      let F : S → ℕ → ℕ → Type 0 = λ h2 b2 r2. Course V same by_hasher b2 r2 slot_of → LeadsTo same by_hasher h2 b2 r2 shards (IsAll same by_hasher h2 b2 r2 e 0 x.1) (In x.0.effects so.outcome) (known x.0.logged.notes)
      → Reach same by_hasher h2 b2 r2 shards (In effects (settled_outcome said)) new.executor (known new.notes) in
      let over = by_given F e h b r so.hasher so.size so.roots
      (λ course at. all_ends same by_hasher shards log event calls may e course 0 new.executor (given.0, given.1, given.2) so.nobody so.slots (subst (λ (n : ℕ). n < 2 ^ 64) (sym so.size) small) x.1 last said
      (λ s lists is. step.2 same (by_hasher e.hasher) s 0 lists is) x.0.effects effects (known x.0.logged.notes) (known new.notes) step.0.did step.0.noted so.outcome (done_is said done) at) any so.at in
      subst (λ (o : Outcome V). Reach same by_hasher h b r shards (In effects o) new.executor (known new.notes)) (done_outcome V said done) over

  all_gone : (taken : Bool) (effects : List Effect) (old new : Logged K V S) → (gone : ReclaimingGone taken [] effects old new) → SoFar (far [] old, gone.0) → Reach same by_hasher h b r shards (In effects outcome.Done) new.executor (known new.notes)
  all_gone taken effects old new (first, begins, mid, goes, last, step, done, first_is) so =
      ends mid effects new last (goes_to ReclaimingOn SoFar goes_on (far [] old, first) mid goes so) step done

-- The event by which it is, or is out of turn.
module _ {K V S : Type 0} (same : K → K → Bool) (by_hasher : S → K → ℕ) (any : (batch_size roots : ℕ) → Course V same by_hasher batch_size roots slot_of) (event : Event K V) (makes_none : maps_of event ≡ 0)
    (may : (names : Names) (log : List (Entry K V)) (last : Bool) → MayHave names (moment log) event (ReclaimsAll last)) (played : Played V) (old new : Scheduler K V S) (idle : played.steps ≡ 0)
    (works : WorksOnAll played old new) (notes : NotesSlots (known old.logged.notes) old.logged.executor.memory.memory) (given : PreservesSettings old.logged.executor new.logged.executor) where
  pub all_goes_on : ContinuesByActs same by_hasher event played old new
  all_goes_on terms log stands in_turn next next2 at = by works.1
    where
      After : Type 0
      After = ActsSoFar same by_hasher terms (entry_of event played ∷ log) new.logged new.calls

      l : Logged K V S
      l = old.logged

      e : Executor K V S
      e = old.logged.executor

      Start : ReclaimAll → Type 0
      Start c = LeadsTo same by_hasher e.hasher terms.batch_size terms.roots (shards_of terms) (IsAll same by_hasher e.hasher terms.batch_size terms.roots e 0 c) (λ x. InEvent log event [] 0 at_rest old.calls x) (known l.notes)

      begins : Reach same by_hasher e.hasher terms.batch_size terms.roots (shards_of terms) (λ x. InEvent log event [] 0 at_rest old.calls x) e (known l.notes)
      begins = reach_so same by_hasher e.hasher terms.batch_size terms.roots (shards_of terms) (PlaysSo log old.calls) (λ (x : State K V S). InEvent log event [] 0 at_rest old.calls x)
          (λ x so. event_begins log event at_rest refl old.calls x so) e (known l.notes) at

      starts : (taken : Bool) → nat_lt 0 (known l.notes).buckets ≡ taken → NobodyHas e → Start (if taken then reclaiming_all e.batch_size e.roots else clearing e.roots)
      starts true some nobody =
          let F : S → ℕ → ℕ → Type 0 = λ h b r. Course V same by_hasher b r slot_of → Reach same by_hasher h b r (shards_of terms) (λ x. InEvent log event [] 0 at_rest old.calls x) e (known l.notes)
          → LeadsTo same by_hasher h b r (shards_of terms) (IsAll same by_hasher h b r e 0 (reclaiming_all e.batch_size e.roots)) (λ x. InEvent log event [] 0 at_rest old.calls x) (known l.notes) in
          by_given F e e.hasher terms.batch_size terms.roots refl at.size at.roots_are
          (λ course there. slots_begin same by_hasher (shards_of terms) log event old.calls (λ names last. may names log last) e course 0 nobody [] at_rest (known l.notes) (notes.some (ltb-true 0 (known l.notes).buckets some)) there)
          (any terms.batch_size terms.roots) begins
      starts false none nobody =
          let F : S → ℕ → ℕ → Type 0 = λ h b r. Course V same by_hasher b r slot_of → Reach same by_hasher h b r (shards_of terms) (λ x. InEvent log event [] 0 at_rest old.calls x) e (known l.notes)
          → LeadsTo same by_hasher h b r (shards_of terms) (IsAll same by_hasher h b r e 0 (clearing e.roots)) (λ x. InEvent log event [] 0 at_rest old.calls x) (known l.notes) in
          let few = ltb-false 0 (known l.notes).buckets none in
          by_given F e e.hasher terms.batch_size terms.roots refl at.size at.roots_are
          (λ course there. roots_begin same by_hasher (shards_of terms) log event old.calls (λ names last. may names log last) e course 0 nobody [] at_rest (known l.notes) (notes.none (omega (arith, few))) there)
          (any terms.batch_size terms.roots) begins

      gone_so : played.outcome ≡ outcome.Done → are_gone old.there old.calls ≡ true → ReclaimingGone (nat_lt 0 (known l.notes).buckets) [] played.effects.items old.logged new.logged → After
      gone_so done gone g =
          let nobody = nobody_has same (by_hasher e.hasher) terms (moment log) old stands gone in
          let first_is : g.0 ≡ (if nat_lt 0 (known l.notes).buckets then reclaiming_all e.batch_size e.roots else clearing e.roots) = g.7 in
          let starts_there : Start g.0 = subst Start (sym first_is) (starts (nat_lt 0 (known l.notes).buckets) refl nobody) in
          let to = at.leads (any terms.batch_size terms.roots) in
          let small : terms.batch_size < 2 ^ 64 = subst (λ (n : ℕ). n < 2 ^ 64) at.size to.3.held.small in
          let over = all_gone same by_hasher (shards_of terms) log event old.calls (λ names last. may names log last) e.hasher terms.batch_size terms.roots (any terms.batch_size terms.roots) small
          (nat_lt 0 (known l.notes).buckets) played.effects.items old.logged new.logged g
          (record { nobody = nobody; slots = stands.shown.is_at.slots; hasher = refl; size = at.size; roots = at.roots_are; outcome = at_rest; at = starts_there }) in
          let ended = reach_so same by_hasher e.hasher terms.batch_size terms.roots (shards_of terms) (λ (x : State K V S). InEvent log event played.effects.items 0 outcome.Done old.calls x)
          (PlaysSo (entry_of event played ∷ log) new.calls)
          (λ x so. event_ends log event played.effects.items played.steps played.outcome new.calls x (later_by event played old new log makes_none given next next2)
          (subst (λ (c : List (NamedCaller V)). InEvent log event played.effects.items played.steps played.outcome c x) (sym works.0)
          (subst (λ (o : Outcome V). InEvent log event played.effects.items played.steps o old.calls x) (sym done)
          (subst (λ (n : ℕ). InEvent log event played.effects.items n outcome.Done old.calls x) (sym idle) so)))) new.logged.executor (known new.logged.notes) over in
          subst (λ (h : S). Reach same by_hasher h terms.batch_size terms.roots (shards_of terms) (PlaysSo (entry_of event played ∷ log) new.calls) new.logged.executor (known new.logged.notes)) (sym over.hasher_is) ended

      by : ((played.outcome ≡ outcome.Refused fault.Busy) × DidNothing played old new)
          ⊎ ((played.outcome ≡ outcome.Done) × (are_gone old.there old.calls ≡ true) × ReclaimingGone (nat_lt 0 (known old.logged.notes).buckets) [] played.effects.items old.logged new.logged) → After
      by (inl (says, nothing)) = did_nothing event played old new same by_hasher idle nothing.0 nothing.1 works.0 (λ m there. inl (ap refuses says)) terms log stands in_turn next next2 at
      by (inr (done, gone, g)) = gone_so done gone g

module _ {K V S : Type 0} (same : K → K → Bool) (by_hasher : S → K → ℕ) (any : (batch_size roots : ℕ) → Course V same by_hasher batch_size roots slot_of) (played : Played V) (old new : Scheduler K V S) (idle : played.steps ≡ 0)
    (works : WorksOnAll played old new) (notes : NotesSlots (known old.logged.notes) old.logged.executor.memory.memory) (given : PreservesSettings old.logged.executor new.logged.executor) where
  pub reclaim_goes_on : ContinuesByActs same by_hasher events.ReclaimAll played old new
  reclaim_goes_on = all_goes_on same by_hasher any events.ReclaimAll refl (λ names log last. tt) played old new idle works notes given

  pub close_goes_on : ContinuesByActs same by_hasher events.Close played old new
  close_goes_on = all_goes_on same by_hasher any events.Close refl (λ names log last. tt) played old new idle works notes given
