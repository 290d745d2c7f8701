-- An event by which a row runs on a slot: the list of acts goes on where the row begins, and by each of its steps.
use Rattle.std.specs.Prelude.{◌⊎◌, Option, Some}
use Rattle.std.proofs.Common.{◌≡◌, ℕ, Bool, true, false, List, [], ◌∷◌, inl, inr, refl, sym, ap, subst, ◌∙◌}
use Rattle.map_tables.specs.declared.node.Node.{Node}
use Rattle.play_events.specs.Given.CallersRows.{IsRowOn}
use Rattle.play_events.proofs.Given.ScenesNoCall.{none_is}
use Rattle.play_events.specs.Given.ScenesScene.{row_of, slot_of}
use Rattle.play_events.specs.Given.ScenesDeclared.row.RowTold.{RowTold}
use Rattle.play_events.specs.Given.ScenesDeclared.row.RowTold.TheVariants as told
use Rattle.play_events.specs.Given.ScenesDeclared.row.SlotCall.{SlotCall}
use Rattle.play_events.specs.Given.ScenesDeclared.row.SlotCall.TheVariants as call
use Rattle.play_events.specs.Given.ScenesDeclared.row.SlotRow.{SlotRow}
use Rattle.run_schedules.specs.declared.effect.Effect.{Effect}
use Rattle.run_schedules.specs.declared.event.Event.{Event}
use Rattle.run_schedules.specs.declared.event.Event.TheVariants as event
use Rattle.run_schedules.specs.declared.outcome.Outcome.{Outcome}
use Rattle.run_schedules.specs.declared.outcome.Outcome.TheVariants as outcome
use Rattle.run_schedules.specs.Schedules.After.{moment}
use Rattle.run_schedules.specs.Schedules.Entry.{Entry}
use Rattle.run_schedules.specs.Schedules.Terms.{Terms, shards_of}
use Rattle.seize_words.specs.declared.fault.Fault.{Fault}
use Rattle.seize_words.specs.declared.fault.Fault.TheVariants.{Memory, SlotsUsedUp}
use Rattle.run_effects.specs.Effects.Known.{Known, known}
use Rattle.play_events.specs.Given.ExecutorIsThere.{PreservesSettings, work_of}
use Rattle.play_events.specs.Given.ExecutorOnSlots.{MayBegin, row_on}
use Rattle.play_events.specs.Given.ExecutorDeclared.worker.Work.{Work}
use Rattle.play_events.specs.Given.ExecutorDeclared.worker.Work.TheVariants.{OnSlot}
use Rattle.play_events.specs.Given.LoggedGoes.{Far, RowGoes, RowGone, far}
use Rattle.play_events.specs.Given.LoggedDeclared.logged.Logged.{Logged}
use Rattle.play_events.specs.Given.SchedulerPlayed.{IsInTurn, IsPlayed, entry_of}
use Rattle.play_events.specs.Given.SchedulerWorks.{HasOutcomeBy, DidNothing, HasNoRow, IsAbout, IsItsRow, WorksOnSlot, outcome_of_row}
use Rattle.play_events.specs.Given.SchedulerDeclared.played.Played.{Played}
use Rattle.play_events.specs.Given.SchedulerDeclared.scheduler.Scheduler.{Scheduler}
use Rattle.play_events.proofs.Given.SchedulerDrops as drops
use Rattle.play_events.proofs.Given.SchedulerEnters as enters
use Rattle.play_events.proofs.Given.SchedulerFlushes as flushes
use Rattle.play_events.proofs.Given.SchedulerRefreshes as refreshes
use Rattle.play_events.proofs.Given.SchedulerSlotTaken as taking
use Rattle.play_events.proofs.Given.SchedulerUnregisters as unregisters
use Rattle.play_events.specs.Given.RowsRows.{RowRan}
use Rattle.play_events.proofs.Given.RowsNeverWaits.{done_alone}
use Rattle.play_events.proofs.Given.RowsRan.{done_once}
use Rattle.play_events.specs.Given.ExecutorDeclared.caller.NamedCaller.{NamedCaller}
use Rattle.play_events.specs.Given.ActsLists.{Course}
use Rattle.play_events.specs.Given.PlayedPlay.{State, row_outcome}
use Rattle.play_events.specs.Given.GroupedCalled.{PlaysSo}
use Rattle.play_events.specs.Given.GroupedReach.{Reach}
use Rattle.play_events.proofs.Given.GroupedMidst.{InEvent, event_begins, event_ends, maps_of, at_rest}
use Rattle.play_events.proofs.Given.GroupedReached.{goes_at, reach_so}
use Rattle.play_events.proofs.Given.GroupedRowGoes.{row_begins, row_steps}
use Rattle.papaya_steps.specs.Pieced.RowFor.{IsRowFor}
use Rattle.papaya_steps.specs.Pieced.SoFar.{ActsSoFar, ContinuesByActs}
use Rattle.papaya_steps.proofs.Pieced.Chains.{goes_to}
use Rattle.papaya_steps.proofs.Pieced.Quiet.{did_nothing, later_by}
use Rattle.papaya_steps.proofs.Pieced.RowKinds.{begins_row, keeps_row, may_row, shared}
use Rattle.play_events.specs.Given.GroupedGrouping.{refuses}

-- a row that goes on is the one that it is then
on_is : {K V : Type 0} (after row : SlotRow) (said : RowTold (Node K V)) → row_on {K = K} {V = V} after said ≡ Some (OnSlot row) → after ≡ row
on_is after row told.Goes is = cc is
on_is after row told.Waits is = cc is
on_is after row (told.Gave value) is = cc is
on_is after row told.Done is = absurd (cc is)
on_is after row (told.Registered slot) is = absurd (cc is)
on_is after row (told.Refused fault) is = absurd (cc is)

module _ {K V S : Type 0} (same : K → K → Bool) (by_hasher : S → K → ℕ) (shards : ℕ) (log : List (Entry K V)) (event : Event K V) (calls : List (NamedCaller V)) (b r : ℕ) (any : Course V same by_hasher b r slot_of)
    (p : Scheduler K V S) (there : (moment log).there ≡ p.there) (slot i : ℕ) (in_slot : slot_of i ≡ slot) (about : IsAbout event p slot) where
  abbrev At : (did : List Effect) → Outcome V → Logged K V S → Type 0
  At did o l = Reach same by_hasher l.executor.hasher b r shards (λ s. InEvent log event did 0 o calls s) l.executor (known l.notes)

  abbrev Kind : Logged K V S → Type 0
  Kind l = (row : SlotRow) → work_of l.executor i ≡ Some (OnSlot row) → IsRowFor event row

  abbrev SoFar : Far K V S → Type 0
  SoFar x = Kind x.logged × ((o : Outcome V) × At x.effects o x.logged)

  step_so : (x y : Far K V S) → SoFar x → (step : RowGoes i x y) → Kind y.logged × At y.effects (row_outcome step.said) y.logged
  step_so x y (kind, (o, at)) step =
      let row = step.under.0 in
      let to = at.leads any in
      let comes = step.leads same (by_hasher x.logged.executor.hasher) to.0.0.0 to.3 row step.under.1 in
      let its = kind row step.under.1 in
      let on : IsRowOn slot (row_of row) = subst (IsRowOn slot) comes.0.1 (subst (λ (t : ℕ). IsRowOn t (to.0.0.0.world.row i)) in_slot (to.3.held.on_slots i)) in (
        λ next is. (let one = on_is comes.1 next step.said (sym comes.3 ∙ is) in subst (IsRowFor event) one
            (keeps_row K V x.logged.executor.memory.memory y.logged.executor.memory.memory y.logged.executor.memory.changed comes.1 step.said event row its comes.2)),
        goes_at same by_hasher shards (λ s. InEvent log event x.effects 0 o calls s) (λ s. InEvent log event y.effects 0 (row_outcome step.said) calls s) x.logged.executor y.logged.executor (known x.logged.notes)
            (known y.logged.notes)
            (λ course here. row_steps same by_hasher shards log event calls x.logged.executor y.logged.executor (step.is_noted.given.0, step.is_noted.given.1, step.is_noted.given.2) course i row step.under.1 step.said
            (λ s is. step.leads same (by_hasher x.logged.executor.hasher) s is) x.effects y.effects (known x.logged.notes) (known y.logged.notes) step.is_noted.did step.is_noted.noted o
            (λ names. may_row names (moment log) p there slot event about row its on) here) b r any at,
      )

  goes_on : (x y : Far K V S) → SoFar x → RowGoes i x y → SoFar y
  goes_on x y at step = let done = step_so x y at step in (done.0, (row_outcome step.said, done.1))

  -- from where it begins to its last step
  pub ran_by : (said : RowTold (Node K V)) (effects : List Effect) (began new : Logged K V S) → RowGone i said [] effects began new → Kind began → (o : Outcome V) → At [] o began → At effects (row_outcome said) new
  ran_by said effects began new (prev, goes, step, says) kind o at =
      let done = step_so prev (far effects new) (goes_to (RowGoes i) SoFar goes_on (far [] began) prev goes (kind, (o, at))) step in
      subst (λ (t : RowTold (Node K V)). At effects (row_outcome t) new) says done.1

-- What is so of the row of each event: it may begin, and the event comes to what it has told.
module _ {K V S : Type 0} (same : K → K → Bool) (hash : K → ℕ) (terms : Terms) (log : List (Entry K V)) (old : Scheduler K V S) (stands : IsPlayed same hash terms log old) (in_turn : (moment log).is_closed ≡ false)
    (new : Logged K V S) (slot : ℕ) (effects : List Effect) where
  abbrev due : (event : Event K V) → IsInTurn same hash terms log event old
  due event = record { played = stands; in_turn = in_turn }

  abbrev Facts : Event K V → SlotCall → Outcome V → Type 0
  Facts event called o =
      MayBegin old.logged.executor slot called × ((said : RowTold (Node K V)) → HasOutcomeBy event said o → RowRan slot called said [] effects old.logged new → o ≡ row_outcome said)

  -- a registering tells a slot, or a fault
  took : (enters : Bool) (said : RowTold (Node K V)) (o : Outcome V) → o ≡ outcome_of_row said → RowRan 0 (call.Register enters) said [] effects old.logged new → o ≡ row_outcome said
  took enters said o is ran = by (taking.which same hash terms (moment log) old stands enters said [] effects new ran)
    where
      Fits : RowTold (Node K V) → Type 0
      Fits t = o ≡ outcome_of_row t → o ≡ row_outcome t

      by : ((at : ℕ) × (said ≡ told.Registered at)) ⊎ ((fault : Fault) × (said ≡ told.Refused fault) × ((fault ≡ Memory) ⊎ (fault ≡ SlotsUsedUp))) → o ≡ row_outcome said
      by (inl (at, says)) = subst Fits (sym says) (λ e. e) is
      by (inr (fault, says, why)) = subst Fits (sym says) (λ e. e) is

  done_so : (said : RowTold (Node K V)) (o : Outcome V) → o ≡ outcome.Done → said ≡ told.Done → o ≡ row_outcome said
  done_so said o is says = subst (λ (t : RowTold (Node K V)). o ≡ row_outcome t) (sym says) is

  pub row_facts : (event : Event K V) (called : SlotCall) (o : Outcome V) → IsAbout event old slot → IsItsRow event old slot called → Facts event called o
  row_facts (event.Register r) called o about its =
      subst (λ (c : SlotCall). Facts (event.Register r) c o) (sym its) (tt, λ said is ran. took false said o is (subst (λ (t : ℕ). RowRan t (call.Register false) said [] effects old.logged new) about.0 ran))
  row_facts (event.Own g) called o about its =
      subst (λ (c : SlotCall). Facts (event.Own g) c o) (sym its) (tt, λ said is ran. took true said o is (subst (λ (t : ℕ). RowRan t (call.Register true) said [] effects old.logged new) about.0 ran))
  row_facts (event.Unregister n) called o about its =
      let may = unregisters.may_free same hash terms log old n (due (event.Unregister n)) slot about.0 about.1 its.1 in
      subst (λ (c : SlotCall). Facts (event.Unregister n) c o) (sym its.0)
      (may, λ said is ran. done_so said o is (done_once same hash stands.name (moment log) stands.scene old.logged new stands.shown slot call.Unregister said [] effects ran may tt))
  row_facts (event.Enter g n) called o about its =
      let may = enters.may_enter same hash terms log old g n (due (event.Enter g n)) about.0 slot about.1 its.1 in
      subst (λ (c : SlotCall). Facts (event.Enter g n) c o) (sym its.0)
      (may, λ said is ran. done_so said o is (done_once same hash stands.name (moment log) stands.scene old.logged new stands.shown slot call.Enter said [] effects ran may tt))
  row_facts (event.Refresh g) called o about its =
      let may = refreshes.may_refresh same hash terms log old g (due (event.Refresh g)) slot about its.1 in
      subst (λ (c : SlotCall). Facts (event.Refresh g) c o) (sym its.0) (
        may,
        λ said is ran. done_so said o is (done_alone same hash stands.name (moment log) stands.scene old.logged new stands.shown slot call.Refresh said [] effects ran may tt
            (refreshes.alone same hash terms log old g (due (event.Refresh g)) slot about its.1)),
      )
  row_facts (event.DropGuard g) called o about its =
      let may = drops.may_leave same hash terms log old g (due (event.DropGuard g)) slot about its.1 in
      let how = drops.how same hash terms log old g (due (event.DropGuard g)) slot about its.1 in
      subst (λ (c : SlotCall). Facts (event.DropGuard g) c o) (sym its.0) (
        may,
        λ said is ran. done_so said o is (done_alone same hash stands.name (moment log) stands.scene old.logged new stands.shown slot how said [] effects ran may
            (drops.settles same hash terms log old g (due (event.DropGuard g)) slot about its.1) (drops.alone same hash terms log old g (due (event.DropGuard g)) slot about its.1)),
      )
  row_facts (event.Flush g) called o about its =
      let may = flushes.may_flush same hash terms log old g (due (event.Flush g)) slot about in
      subst (λ (c : SlotCall). Facts (event.Flush g) c o) (sym its.0) (
        may,
        λ said is ran. done_so said o is (done_alone same hash stands.name (moment log) stands.scene old.logged new stands.shown slot call.Flush said [] effects ran may tt
            (flushes.alone same hash terms log old g (due (event.Flush g)) slot about false its.1 refl)),
      )
  row_facts _ called o about its = absurd about

module _ {K V S : Type 0} (same : K → K → Bool) (by_hasher : S → K → ℕ) (any : (batch_size roots : ℕ) → Course V same by_hasher batch_size roots slot_of) (event : Event K V) (makes_none : maps_of event ≡ 0) (played : Played V)
    (old new : Scheduler K V S) (idle : played.steps ≡ 0) (works : WorksOnSlot played old new event) (given : PreservesSettings old.logged.executor new.logged.executor) where
  pub row_goes_on : ContinuesByActs same by_hasher event played old new
  row_goes_on terms log stands in_turn next next2 at = by works.1
    where
      After : Type 0
      After = ActsSoFar same by_hasher terms (entry_of event played ∷ log) new.logged new.calls

      its_hash : K → ℕ
      its_hash = by_hasher old.logged.executor.hasher

      l : Logged K V S
      l = old.logged

      ran_so : (slot : ℕ) → IsAbout event old slot → (called : SlotCall) → IsItsRow event old slot called → (said : RowTold (Node K V)) → HasOutcomeBy event said played.outcome
          → RowRan slot called said [] played.effects.items old.logged new.logged → After
      ran_so slot about called its said comes ran =
          let facts = row_facts same its_hash terms log old stands in_turn new.logged slot played.effects.items event called played.outcome about its in
          let may : MayBegin l.executor (slot_of ran.caller) called = subst (λ (t : ℕ). MayBegin l.executor t called) (sym ran.in_slot) facts.0 in
          let leads = ran.begun same its_hash stands.scene stands.shown.is_at may in
          let fresh = stands.rests ran.caller (λ n. none_is (stands.scene.calls n ran.caller) (leads.3.1 n)) in
          let begins = reach_so same by_hasher l.executor.hasher terms.batch_size terms.roots (shards_of terms) (PlaysSo log old.calls) (λ (x : State K V S). InEvent log event [] 0 at_rest old.calls x)
          (λ x so. event_begins log event at_rest refl old.calls x so) l.executor (known l.notes) at in
          let began = goes_at same by_hasher (shards_of terms) (λ (x : State K V S). InEvent log event [] 0 at_rest old.calls x) (λ (x : State K V S). InEvent log event [] 0 at_rest old.calls x) l.executor
          ran.began.executor (known l.notes) (known l.notes)
          (λ course there. row_begins same by_hasher (shards_of terms) log event old.calls l.executor ran.began.executor (ran.given.0, ran.given.1, ran.given.2) course ran.caller called
          (λ s is. ran.begun same its_hash s is) fresh may [] at_rest (known l.notes) there) terms.batch_size terms.roots (any terms.batch_size terms.roots) begins in
          let kind : (row : SlotRow) → work_of ran.began.executor ran.caller ≡ Some (OnSlot row) → IsRowFor event row = λ row is.
          (let one = same_row (sym leads.1 ∙ is) in subst (IsRowFor event) one (begins_row old (slot_of ran.caller) l.executor.batch_size event called (subst (λ (t : ℕ). IsItsRow event old t called) (sym ran.in_slot) its))) in
          let over = ran_by same by_hasher (shards_of terms) log event old.calls terms.batch_size terms.roots (any terms.batch_size terms.roots) old stands.there slot ran.caller ran.in_slot about said played.effects.items
          ran.began new.logged ran.gone kind at_rest
          (subst (λ (k : Known). Reach same by_hasher ran.began.executor.hasher terms.batch_size terms.roots (shards_of terms) (λ (x : State K V S). InEvent log event [] 0 at_rest old.calls x) ran.began.executor k)
          (ap known (sym ran.noted)) began) in
          reach_so same by_hasher new.logged.executor.hasher terms.batch_size terms.roots (shards_of terms) (λ (x : State K V S). InEvent log event played.effects.items 0 (row_outcome said) old.calls x)
          (PlaysSo (entry_of event played ∷ log) new.calls)
          (λ x so. event_ends log event played.effects.items played.steps played.outcome new.calls x (later_by event played old new log makes_none given next next2)
          (subst (λ (c : List (NamedCaller V)). InEvent log event played.effects.items played.steps played.outcome c x) (sym works.0)
          (subst (λ (o : Outcome V). InEvent log event played.effects.items played.steps o old.calls x) (sym (facts.1 said comes ran))
          (subst (λ (n : ℕ). InEvent log event played.effects.items n (row_outcome said) old.calls x) (sym idle) so)))) new.logged.executor (known new.logged.notes) over
        where
          same_row : {a b : SlotRow} → ◌≡◌ {A = Option (Work K V)} (Some (OnSlot a)) (Some (OnSlot b)) → a ≡ b
          same_row is = cc is

      by : ((fault : Fault) × (played.outcome ≡ outcome.Refused fault) × DidNothing played old new)
          ⊎ ((slot : ℕ) × IsAbout event old slot
          × (((played.outcome ≡ outcome.Done) × HasNoRow event old.there slot × DidNothing played old new)
          ⊎ ((called : SlotCall) × IsItsRow event old slot called × (said : RowTold (Node K V)) × HasOutcomeBy event said played.outcome
          × RowRan slot called said [] played.effects.items old.logged new.logged))) → After
      by (inl (fault, says, nothing)) = did_nothing event played old new same by_hasher idle nothing.0 nothing.1 works.0 (λ m there. inl (ap refuses says)) terms log stands in_turn next next2 at
      by (inr (slot, about, inl (done, no_row, nothing))) = did_nothing event played old new same by_hasher idle nothing.0 nothing.1 works.0 (λ m there. inr (inr (inr (shared [] m old there slot event about no_row)))) terms log stands in_turn next next2 at
      by (inr (slot, about, inr (called, its, said, comes, ran))) = ran_so slot about called its said comes ran
