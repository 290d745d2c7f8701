-- Events whose work is a row on a slot keep their promises, and a run goes on with them.
use Rattle.std.specs.Prelude.{◌≡◌, ◌≤◌, ◌&&◌, ◌||◌, ◌<◌, ◌^◌, ℕ, Bool, true, false, List, [], ◌∷◌, Some, None, Result, Ok, Err, IfOk, if◌then◌else◌}
use Rattle.std.specs.List.{list_all}
use Rattle.std.proofs.Common.{refl, ap, sym, subst, inl, inr, ◌∙◌, arith}
use Rattle.run_schedules.specs.Given.SeizeWordsMem.{Mem}
use Rattle.play_stepping.specs.Given.SeizeWorld.{Begin, IsInside, Rests, SlotsTaken}
use Rattle.play_stepping.specs.Given.SeizeDeclared.rows.register.Registering.TheVariants as registering
use Rattle.play_lists.specs.Given.TablesDeclared.node.Node.{Node}
use Rattle.play_lists.specs.Given.ScenesDeclared.row.RowTold.{RowTold}
use Rattle.play_lists.specs.Given.ScenesDeclared.row.SlotCall.{SlotCall}
use Rattle.play_lists.specs.Given.OthersRows.{scene_then}
use Rattle.run_schedules.specs.Given.SeizeWordsDeclared.fault.Fault.TheVariants.{Busy}
use Rattle.play_lists.specs.Given.ScenesDeclared.row.SlotCall.TheVariants as call
use Rattle.play_stepping.specs.Given.ExecutorDeclared.worker.Work.TheVariants.{OnSlot}
use Rattle.run_schedules.specs.Runs.Present.{has_registration, Present}
use Rattle.run_schedules.specs.declared.effect.Effect.{Effect}
use Rattle.run_schedules.specs.declared.event.Event.{Event}
use Rattle.run_schedules.specs.declared.event.Event.TheVariants.{DropGuard, Enter, Flush, Own, Refresh, Register, Unregister}
use Rattle.run_schedules.specs.declared.outcome.Outcome.{Outcome}
use Rattle.run_schedules.specs.declared.outcome.Outcome.TheVariants.{Done, Refused}
use Rattle.run_schedules.specs.Schedules.After.{moment, slots_on}
use Rattle.run_schedules.specs.Schedules.Beginning.{begun}
use Rattle.run_schedules.specs.Schedules.Effects.{AtEachEffect}
use Rattle.run_schedules.specs.Schedules.Entry.{Entry, speaker}
use Rattle.run_schedules.specs.Schedules.Handing.{asks_for_bucket, gives_all, is_only, is_reclaiming, may_do}
use Rattle.run_schedules.specs.Schedules.InTurn.{HasRightOutcome}
use Rattle.run_schedules.specs.Schedules.Lives.{Finds}
use Rattle.run_schedules.specs.Schedules.Moment.{Moment}
use Rattle.run_schedules.specs.Schedules.InUse.{used_slots}
use Rattle.run_schedules.specs.Schedules.Lists.{least_free}
use Rattle.run_schedules.specs.Schedules.Terms.{Terms}
use Rattle.play_lists.specs.Given.EffectsKnown.{known}
use Rattle.play_lists.specs.Given.EffectsDeclared.notes.Notes.{Notes}
use Rattle.play_lists.specs.Given.ScenesDeclared.row.RowTold.TheVariants as told
use Rattle.run_legal.specs.Given.PromisesOthers.{SparesGuards}
use Rattle.run_legal.specs.Given.PromisesProtected.{is_of_slots, there_in}
use Rattle.run_legal.specs.Given.ModelsOnSlots.{IsRowFor}
use Rattle.play_lists.specs.Given.FindsLittle.{ReclaimsAll}
use Rattle.run_legal.proofs.Heads.Registers.{IsOtherCall, ThenSo, other_begun, others_taken, registers_taken}
use Rattle.run_legal.specs.CallEvents.{IsLegalBut}
use Rattle.run_legal.specs.Carried.{RefinesRun}
use Rattle.run_legal.specs.Chains.{Chain as StepChain, RowSteps}
use Rattle.run_legal.specs.Found.{AsksInNeed}
use Rattle.run_legal.specs.SlotEvents.{InSlotEvent}
use Rattle.run_legal.proofs.Chains.{rows_run_to_their_ends}
use Rattle.run_legal.proofs.Found.{row_chains_find}
use Rattle.run_legal.proofs.Slots.{slot_events_begin_so}
use Rattle.play_stepping.specs.Given.LoggedGoes.{far}
use Rattle.run_legal.specs.Given.LogOnSlots.{has_come}
use Rattle.run_legal.specs.Given.RemainsSlots.{SlotsNoted}
use Rattle.run_legal.specs.Given.RowsRows.{RowRan, left_as}
use Rattle.play_stepping.proofs.Given.RowsFacts.{row_rests}
use Rattle.play_stepping.specs.Given.SchedulerPlayed.{IsPlayed, entry_of}
use Rattle.play_stepping.specs.Given.SchedulerWorks.{HasOutcomeBy, IsAbout, IsItsRow, WorksOnSlot, outcome_of_row}
use Rattle.play_stepping.specs.Given.SchedulerDeclared.played.Played.{Played}
use Rattle.play_stepping.specs.Given.SchedulerDeclared.scheduler.Scheduler.{Scheduler}
use Rattle.play_stepping.proofs.Given.SchedulerRights.{entry, entry_is}
use Rattle.play_events.specs.Events.OfCalls.{HaveShards, Runs, RunsOn}
use Rattle.play_events.specs.Events.OfRows.{PreservesRun, is_of_rows}
use Rattle.play_stepping.proofs.Given.SchedulerVacancies.{first_is, none_on_vacant}
use Rattle.run_legal.specs.Works.Rows.{may_row}
use Rattle.run_legal.proofs.Works.Mays.{rows_do_theirs}
use Rattle.run_legal.proofs.Works.Needs.{none_need, reclaiming_asks_none, registers_need}
use Rattle.run_legal.proofs.Works.Reached.{rows_note_more}
use Rattle.play_events.proofs.Events.OfRows.Over.{over_runs}
use Rattle.play_events.proofs.Events.OfRows.Chain.{RowComes, come_by, rows_come}
use Rattle.play_events.proofs.Events.OfRows.Facts.{RowFacts, facts}
use Rattle.play_events.proofs.Events.OfRows.Lone.{alone_follows}
use Rattle.play_events.proofs.Events.OfRows.May.{flush_inside, may_by}
use Rattle.play_events.proofs.Events.OfRows.Quiet.{none_still, refused_still, still_keeps}
use Rattle.play_stepping.specs.Given.ExecutorOnSlots.{MayBegin, RowBeginsThere}
use Rattle.play_lists.specs.Given.ScenesRows.{begun_row, request_of}
use Rattle.play_lists.specs.Given.ScenesScene.{Scene, slot_of}
use Rattle.play_lists.proofs.Given.ShedsHeld.{begun_held}
use Rattle.play_lists.specs.Given.ScenesOnSlots.{RowBegins}
use Rattle.play_stepping.specs.Given.ExecutorIsThere.{held_by}
use Rattle.play_stepping.proofs.Given.General.{both_true as and_both, or_second as or_right}
pub mod Chain
pub mod Over
pub mod Facts
pub mod Quiet
pub mod Kept
pub mod Lone
pub mod May

module _ {K V : Type 0} where
  -- such an event works on slots, speaks of no call, and does not reclaim everything
  all_facts_of : (event : Event K V) → is_of_rows event ≡ true → is_of_slots event ≡ true → (speaker event ≡ None) × (gives_all event ≡ false)
  all_facts_of (Register registration) of on = (refl, refl)
  all_facts_of (Unregister registration) of on = (refl, refl)
  all_facts_of (Enter guard registration) of on = (refl, refl)
  all_facts_of (Own guard) of on = (refl, refl)
  all_facts_of (Refresh guard) of on = (refl, refl)
  all_facts_of (Flush guard) of on = (refl, refl)
  all_facts_of (DropGuard guard) of on = (refl, refl)
  all_facts_of _ of on = absurd (cc (of, on))

  -- what it may do is to reclaim, or to ask for a bucket
  one_of_row : (event : Event K V) → is_of_rows event ≡ true → is_of_slots event ≡ true → (m : Moment K V) (f : Effect) → may_do event m f ≡ true → (is_reclaiming f || asks_for_bucket f) ≡ true
  one_of_row (Register registration) of on m f may = or_right (is_reclaiming f) (asks_for_bucket f) may
  one_of_row (Unregister registration) of on m f may = absurd (cc may)
  one_of_row (Enter guard registration) of on m f may = absurd (cc may)
  one_of_row (Own guard) of on m f may = or_right (is_reclaiming f) (asks_for_bucket f) may
  one_of_row (Refresh guard) of on m f may = ap (λ (q : Bool). q || asks_for_bucket f) (and_both (is_only guard m) (is_reclaiming f) may).1
  one_of_row (Flush guard) of on m f may = absurd (cc may)
  one_of_row (DropGuard guard) of on m f may = ap (λ (q : Bool). q || asks_for_bucket f) (and_both (is_only guard m) (is_reclaiming f) may).1
  one_of_row _ of on m f may = absurd (cc (of, on))

  all_of_row : (event : Event K V) → is_of_rows event ≡ true → is_of_slots event ≡ true → (m : Moment K V) (fs : List Effect) → list_all (may_do event m) fs ≡ true
      → list_all (λ f. is_reclaiming f || asks_for_bucket f) fs ≡ true
  all_of_row event of on m [] may = refl
  all_of_row event of on m (f ∷ fs) may =
      let each = and_both (may_do event m f) (list_all (may_do event m) fs) may in
      ap (λ (q : Bool). q && list_all (λ g. is_reclaiming g || asks_for_bucket g) fs) (one_of_row event of on m f each.0) ∙ all_of_row event of on m fs each.1

  reclaims_none : (log : List (Entry K V)) (e : Entry K V) → is_of_rows e.event ≡ true → is_of_slots e.event ≡ true → ReclaimsAll log e
  reclaims_none log e of on = by e.event of on
    where
      by : (event : Event K V) → is_of_rows event ≡ true → is_of_slots event ≡ true → ReclaimsAll log (record e { event = event })
      by (Register registration) of on = tt
      by (Unregister registration) of on = tt
      by (Enter guard registration) of on = tt
      by (Own guard) of on = tt
      by (Refresh guard) of on = tt
      by (Flush guard) of on = tt
      by (DropGuard guard) of on = tt
      by _ of on = absurd (cc (of, on))

module _ {K V S : Type 0} (same : K → K → Bool) (hash : K → ℕ) (terms : Terms) (log : List (Entry K V)) (event : Event K V) (played : Played V) (old new : Scheduler K V S)
    (of : is_of_rows event ≡ true) (on : is_of_slots event ≡ true) (run : Runs same hash terms log old) (turn : (moment log).is_closed ≡ false)
    (after : IsPlayed same hash terms (entry_of event played ∷ log) new) (right : HasRightOutcome terms log (entry_of event played)) where
  abbrev e : Entry K V
  e = entry_of event played

  abbrev m : Moment K V
  m = moment log

  abbrev name : ℕ → List ℕ
  name = run.stands.name

  abbrev s : Scene K V
  s = run.stands.scene

  small : terms.batch_size < 2 ^ 64
  small = subst (λ (n : ℕ). n < 2 ^ 64) run.size run.stands.shown.is_at.held.small

  -- its row has run to its end
  module _ (calls : new.calls ≡ old.calls) (slot : ℕ) (about : IsAbout event old slot) (called : SlotCall) (its : IsItsRow event old slot called) (said : RowTold (Node K V)) (comes : HasOutcomeBy event said played.outcome)
      (ran : RowRan slot called said [] played.effects.items old.logged new.logged) where
    f : RowFacts same hash terms log old run.stands said played.effects.items new.logged event slot called ran
    f = facts same hash terms log old run.stands said played.effects.items new.logged event turn slot about called its ran

    may : MayBegin old.logged.executor (slot_of ran.caller) called
    may = subst (λ (x : ℕ). MayBegin old.logged.executor x called) (sym ran.in_slot) f.may

    abbrev went : RowBeginsThere same hash called ran.caller s old.logged.executor ran.began.executor
    went = (ran.begins same hash name m s run.stands.shown may).0

    abbrev leads : RowBegins same (λ map. hash) called ran.caller s (held_by old.logged.executor) (held_by ran.began.executor)
    leads = begun_held same hash s old.logged.executor ran.began.executor ran.caller called may went

    abbrev s1 : Scene K V
    s1 = scene_then same (λ map. hash) (Begin ran.caller (request_of (slot_of ran.caller) called)) s (held_by old.logged.executor) (held_by ran.began.executor) leads.2

    y : RowComes same hash terms ran.caller ran.goes.0 (come_by (far [] ran.began) m s1) (far played.effects.items new.logged)
    y = rows_come same hash terms ran.caller ran.goes.0 (far [] ran.began) (far played.effects.items new.logged) m s1 (went may).3.2.4 (ran.given.1 ∙ run.size)
        (ran.begins same hash name m s run.stands.shown may).1.counted ran.goes.1

    chain : StepChain (RowSteps same (λ map. hash) terms ran.caller) ran.goes.0 (record { held = held_by ran.began.executor; did = []; now = m; notes = known old.logged.notes; scene = s1 })
        (come_by (far played.effects.items new.logged) y.now y.scene)
    chain =
        subst (λ (n : Notes). StepChain (RowSteps same (λ map. hash) terms ran.caller) ran.goes.0 (record { held = held_by ran.began.executor; did = []; now = m; notes = known n; scene = s1 })
        (come_by (far played.effects.items new.logged) y.now y.scene)) ran.noted y.chain

    rests : y.scene.world.row ran.caller ≡ Rests
    rests = row_rests same hash new.logged.executor y.scene y.is_at ran.caller f.over

    spares : SparesGuards called (slot_of ran.caller) (there_in event m.there)
    spares = subst (λ (x : ℕ). SparesGuards called x (there_in event m.there)) (sym ran.in_slot) f.spares

    is_row : IsRowFor (request_of (slot_of ran.caller) called) s.world.uses y.scene.world.uses event played.outcome (begun event played.outcome m)
    is_row =
        subst (λ (x : ℕ). IsRowFor (request_of x called) s.world.uses y.scene.world.uses event played.outcome (begun event played.outcome m)) (sym ran.in_slot)
        (f.is_row y.scene.world y.is_at.uses played.outcome comes)

    -- as it begins the event is in its midst; what all of it did it may do, and finds what it must
    begun_so : InSlotEvent same name terms log event ran.caller called (known old.logged.notes) s.world [] m (known old.logged.notes) s1
    begun_so =
        slot_events_begin_so K V same (λ map. hash) name terms log (known old.logged.notes) s (held_by old.logged.executor) (held_by ran.began.executor) run.stands.shown.is_at.held run.size run.shows event on ran.caller called leads spares
        (alone_follows same hash terms log old run event (all_facts_of event of on).0)

    done_by_row : list_all (may_row called) played.effects.items ≡ true
    done_by_row =
        rows_do_theirs K V same (λ map. hash) name terms log (known old.logged.notes) s (held_by old.logged.executor) (held_by ran.began.executor) run.stands.shown.is_at.held event ran.caller called leads
        (λ is. subst (λ (x : ℕ). IsInside (s.world.uses x)) (sym ran.in_slot) (flush_inside same hash terms log old run.stands event slot called about its is)) begun_so
        ran.goes.0 (come_by (far played.effects.items new.logged) y.now y.scene) chain

    allowed : list_all (may_do event m) played.effects.items ≡ true
    allowed = may_by same hash terms log old run.stands event slot called about its played.effects.items done_by_row

    -- slots are noted as it begins
    slots_noted : SlotsNoted (known old.logged.notes) ran.began.executor.memory.memory
    slots_noted =
        subst (λ (n : Notes). SlotsNoted (known n) ran.began.executor.memory.memory) ran.noted (ran.begins same hash name m s run.stands.shown may).1.counted.numbered.slots

    -- a registering asks for buckets in need, and others ask for none
    registers : (enters : Bool) → called ≡ call.Register enters → AtEachEffect AsksInNeed None None played.effects.items m
    registers enters is =
        let begun =
        subst (λ (c : SlotCall). (l : RowBegins same (λ map. hash) c ran.caller s (held_by old.logged.executor) (held_by ran.began.executor)) × (s1.world ≡ l.2.0)) is (leads, refl) in
        registers_need same (λ map. hash) terms m s (held_by old.logged.executor) ran.caller enters (none_on_vacant same hash terms m old run.stands ran.caller) (known old.logged.notes) run.reached
        (λ x vacant. ap (λ (there : Present). least_free (used_slots there)) run.stands.there ∙ (first_is same hash terms m old run.stands x vacant).least) (held_by ran.began.executor) run.stands.shown.is_at.held
        begun.0 slots_noted ran.goes.0 (record { held = held_by ran.began.executor; did = []; now = m; notes = known old.logged.notes; scene = s1 })
        (come_by (far played.effects.items new.logged) y.now y.scene) refl begun.1 refl refl chain

    in_need : (c : SlotCall) → called ≡ c → list_all (may_row c) played.effects.items ≡ true → AtEachEffect AsksInNeed None None played.effects.items m
    in_need (call.Register enters) is all = registers enters is
    in_need call.Leave is all = none_need (may_row call.Leave) reclaiming_asks_none played.effects.items m all
    in_need call.LeaveOwned is all = none_need (may_row call.LeaveOwned) reclaiming_asks_none played.effects.items m all
    in_need call.Refresh is all = none_need (may_row call.Refresh) reclaiming_asks_none played.effects.items m all
    in_need call.Enter is all = none_need (may_row call.Enter) (λ f may. absurd (cc may)) played.effects.items m all
    in_need call.Flush is all = none_need (may_row call.Flush) (λ f may. absurd (cc may)) played.effects.items m all
    in_need call.Unregister is all = none_need (may_row call.Unregister) (λ f may. absurd (cc may)) played.effects.items m all

    -- no bucket of slots is forgotten
    grows : (known old.logged.notes).buckets ≤ (known new.logged.notes).buckets
    grows =
        rows_note_more same (λ map. hash) terms (known old.logged.notes) ran.caller ran.goes.0 (record { held = held_by ran.began.executor; did = []; now = m; notes = known old.logged.notes; scene = s1 })
        (come_by (far played.effects.items new.logged) y.now y.scene) chain (omega arith)

    finds : AtEachEffect (Finds terms None None (gives_all event) []) None None played.effects.items m
    finds =
        subst (λ (q : Bool). AtEachEffect (Finds terms None None q []) None None played.effects.items m) (sym (all_facts_of event of on).1)
        (row_chains_find K V same (λ map. hash) name terms log event ran.caller called (known old.logged.notes) s.world ran.goes.0
        (record { held = held_by ran.began.executor; did = []; now = m; notes = known old.logged.notes; scene = s1 }) (come_by (far played.effects.items new.logged) y.now y.scene) chain begun_so refl
        (all_of_row event of on m played.effects.items allowed) (in_need called refl done_by_row))

    it : IsLegalBut same terms log e × RefinesRun same name terms (e ∷ log) (known new.logged.notes) y.scene
    it =
        rows_run_to_their_ends K V same (λ map. hash) name terms log (known old.logged.notes) s (held_by old.logged.executor) (held_by ran.began.executor) run.stands.shown.is_at.held run.size small run.shows e on ran.caller called
        leads spares (alone_follows same hash terms log old run event (all_facts_of event of on).0) ran.goes.0 (come_by (far played.effects.items new.logged) y.now y.scene) chain refl rests
        (f.inside y.scene.world y.is_at.uses played.outcome comes) (f.not_busy played.outcome comes) allowed finds (λ alone. is_row) right (reclaims_none log e of on)

    -- a row that does not register takes no slot, and one that does so takes the slot that it tells
    abbrev after_row : Mem (Node K V)
    after_row = new.logged.executor.memory.memory

    taken_begun : SlotsTaken ran.began.executor.memory.memory m.slots
    taken_begun =
        subst (λ (x : Mem (Node K V)). SlotsTaken x m.slots) (run.stands.shown.is_at.held.memory ∙ sym (ap (λ x. x.memory) (went may).0)) run.taken

    taken_other : IsOtherCall called → SlotsTaken after_row m.slots
    taken_other other =
        others_taken same hash ran.caller m.slots said ran.began.executor new.logged.executor ran.last (record {
          scene = s1;
          is_at = (went may).3.2.4;
          row = begun_row (slot_of ran.caller) old.logged.executor.batch_size called;
          here = (went may).1;
          other = other_begun (slot_of ran.caller) old.logged.executor.batch_size called other;
          taken = taken_begun;
        })

    taken_registered : (enters : Bool) → called ≡ call.Register enters → SlotsTaken after_row (slots_on (outcome_of_row {V = V} said) m.slots)
    taken_registered enters is =
        as_told said ran.come
        (registers_taken same hash ran.caller m.slots said ran.began.executor new.logged.executor ran.last (record {
          scene = s1;
          is_at = (went may).3.2.4;
          register = record { slot = 0; enters = enters; stands = registering.Begin };
          here = (went may).1 ∙ ap (λ (c : SlotCall). Some (OnSlot (begun_row (slot_of ran.caller) old.logged.executor.batch_size c))) is;
          taken = taken_begun;
        }))
      where
        as_told : (t : RowTold (Node K V)) → has_come t ≡ true → ThenSo m.slots after_row t → SlotsTaken after_row (slots_on (outcome_of_row {V = V} t) m.slots)
        as_told (told.Registered slot) come so = so
        as_told (told.Refused fault) come so = so
        as_told _ come so = so come

    taken : SlotsTaken y.scene.world.memory (slots_on played.outcome m.slots)
    taken = subst (λ (x : Mem (Node K V)). SlotsTaken x (slots_on played.outcome m.slots)) (sym y.is_at.held.memory) (by event its comes)
      where
        comes_to : (o : Outcome V) → played.outcome ≡ o → SlotsTaken after_row (slots_on o m.slots) → SlotsTaken after_row (slots_on played.outcome m.slots)
        comes_to o is = subst (λ (x : Outcome V). SlotsTaken after_row (slots_on x m.slots)) (sym is)

        other_as : (c : SlotCall) → called ≡ c → IsOtherCall c → SlotsTaken after_row m.slots
        other_as c is other = taken_other (subst IsOtherCall (sym is) other)

        left_other : (q : Bool) → IsOtherCall (if q then call.Leave else call.LeaveOwned)
        left_other true = tt
        left_other false = tt

        by : (x : Event K V) → IsItsRow x old slot called → HasOutcomeBy x said played.outcome → SlotsTaken after_row (slots_on played.outcome m.slots)
        by (Register registration) is to = comes_to (outcome_of_row said) to (taken_registered false is)
        by (Own guard) is to = comes_to (outcome_of_row said) to (taken_registered true is)
        by (Unregister registration) is to = comes_to Done to (other_as call.Unregister is.0 tt)
        by (Enter guard registration) is to = comes_to Done to (other_as call.Enter is.0 tt)
        by (Refresh guard) is to = comes_to Done to (other_as call.Refresh is.0 tt)
        by (Flush guard) is to = comes_to Done to (other_as call.Flush is.0 tt)
        by (DropGuard guard) is to = comes_to Done to (other_as (left_as slot old.there) is.0 (left_other (has_registration slot old.there.registrations)))
        by _ is to = absurd is

    shards : HaveShards terms new.logged.executor
    shards n setting is = run.shards n setting (sym (run.stands.shown.is_at.maps n) ∙ sym (f.led.settings n) ∙ f.led.at.maps n ∙ is)

    row_keeps : RunsOn same hash terms log e new
    row_keeps =
        over_runs same hash terms log e old new run (refused_still log s.world event of Busy 0).no_call y.scene y.is_at y.counted.remains.lists y.counted.remains.left calls y.calls after right it.0 it.1 taken y.size
        shards grows

  -- and so it is of one that has done nothing
  abbrev KeepsAs : Entry K V → Type 0
  KeepsAs x = IsPlayed same hash terms (x ∷ log) new → HasRightOutcome terms log x → RunsOn same hash terms log x new

  pub slot_keeps : WorksOnSlot played old new event → RunsOn same hash terms log e new
  slot_keeps (calls, inl (fault, is, (none, still))) =
      subst KeepsAs (sym (entry_is event played (Refused fault) played.steps [] is refl none))
      (λ so right. still_keeps same hash terms log old run (entry event (Refused fault) played.steps []) new refl (refused_still log s.world event of fault played.steps) still calls so right refl) after right
  slot_keeps (calls, inr (slot, about, inl (done, no_row, (none, still)))) =
      subst KeepsAs (sym (entry_is event played Done played.steps [] done refl none))
      (λ so right. still_keeps same hash terms log old run (entry event Done played.steps []) new refl
      (none_still same hash terms log old run.stands event turn played.steps slot about no_row) still calls so right refl) after right
  slot_keeps (calls, inr (slot, about, inr (called, its, said, comes, ran))) = row_keeps calls slot about called its said comes ran

-- So it is by what a function says of an event in this form.
module _ {K V S : Type 0} (same : K → K → Bool) (hash : K → ℕ) (event form : Event K V) (is : event ≡ form) (old new : Scheduler K V S) where
  pub rows_keep : {X : Type 0} → is_of_slots form ≡ true → (result : Result (Played V) X) → IfOk result (λ played. WorksOnSlot played old new form) → IfOk result (λ played. PreservesRun same hash event played old new)
  rows_keep on (Ok played) works =
      subst (λ (x : Event K V). PreservesRun same hash x played old new) (sym is) (λ of terms log holds run turn after right. slot_keeps same hash terms log form played old new of on run turn after right works)
  rows_keep on (Err x) works = tt

  -- of others nothing is said
  pub others_keep : is_of_rows form ≡ false → (played : Played V) → PreservesRun same hash event played old new
  others_keep none played = subst (λ (x : Event K V). PreservesRun same hash x played old new) (sym is) (λ of terms log holds run turn after right. absurd (cc (of, none)))

  pub others_keep_if : {X : Type 0} → is_of_rows form ≡ false → (result : Result (Played V) X) → IfOk result (λ played. PreservesRun same hash event played old new)
  others_keep_if none (Ok played) = others_keep none played
  others_keep_if none (Err x) = tt
