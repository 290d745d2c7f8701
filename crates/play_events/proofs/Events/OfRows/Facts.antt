-- What is so of the row that is an event's work: it might begin, it is over, it ends the section of no other guard, and it is the event's row to the waiting sets.
use Rattle.std.specs.Prelude.{◌≡◌, ◌==◌, ◌⊎◌, ℕ, Bool, true, false, List, [], Option, Some, None, if◌then◌else◌}
use Rattle.std.proofs.Common.{refl, sym, ap, subst, inl, inr, ◌∙◌}
use Rattle.run_schedules.specs.Given.SeizeWordsMem.{word_at}
use Rattle.run_schedules.specs.Given.SeizeWordsDeclared.at.At.TheVariants as at
use Rattle.run_schedules.specs.Given.SeizeWordsDeclared.fault.Fault.{Fault}
use Rattle.run_schedules.specs.Given.SeizeWordsDeclared.fault.Fault.TheVariants.{Memory, SlotsUsedUp}
use Rattle.play_stepping.specs.Given.SeizeDeclared.states.TheConstants.{BATCH, HELD}
use Rattle.play_stepping.specs.Given.SeizeSequence.{changes, entered_at, new_slot}
use Rattle.play_stepping.specs.Given.SeizeWaitingSets.{Change}
use Rattle.play_stepping.specs.Given.SeizeWorld.{World, IsInside, Use, Enter', Flush as Flush', Leave', LeaveOwned, Refresh as Refresh', Register'}
use Rattle.play_lists.specs.Given.TablesDeclared.node.Node.{Node}
use Rattle.run_schedules.specs.Runs.Present.{Present, drops, guard_of, guards_on, guards_slot_or, has_registration, living_slot, slot_of_guard, slot_of_registration}
use Rattle.run_schedules.specs.declared.effect.Effect.{Effect}
use Rattle.run_schedules.specs.declared.event.Event.{Event}
use Rattle.run_schedules.specs.declared.event.Event.TheVariants.{DropGuard, Enter, Flush, Own, Refresh, Register, Unregister}
use Rattle.run_schedules.specs.declared.outcome.Outcome.{Outcome}
use Rattle.run_schedules.specs.declared.outcome.Outcome.TheVariants.{Done, Refused, Slot}
use Rattle.run_schedules.specs.Schedules.After.{moment}
use Rattle.run_schedules.specs.Schedules.Beginning.{begun}
use Rattle.run_schedules.specs.Schedules.Entry.{Entry, is_busy}
use Rattle.run_schedules.specs.Schedules.Moment.{Moment}
use Rattle.run_schedules.specs.Schedules.Terms.{Terms}
use Rattle.play_lists.specs.Given.ScenesDeclared.row.RowTold.{RowTold}
use Rattle.play_lists.specs.Given.ScenesDeclared.row.RowTold.TheVariants as told
use Rattle.play_lists.specs.Given.ScenesDeclared.row.SlotCall.{SlotCall}
use Rattle.play_lists.specs.Given.ScenesDeclared.row.SlotCall.TheVariants as call
use Rattle.play_lists.specs.Given.ScenesDeclared.row.SlotUse.{SlotUse}
use Rattle.play_lists.specs.Given.ScenesDeclared.row.SlotUse.TheVariants as used
use Rattle.run_legal.specs.Given.PromisesOthers.{NobodyOn, SparesGuards}
use Rattle.run_legal.specs.Given.PromisesProtected.{EndsInside, there_in}
use Rattle.run_legal.proofs.Given.PromisesGuards.{only_guards_leave_nobody}
use Rattle.run_legal.specs.Given.ModelsOnSlots.{IsRowFor}
use Rattle.play_lists.specs.Given.ModelsRows.{RowsAre}
use Rattle.play_lists.proofs.Given.ModelsRows.{events_are_rows}
use Rattle.play_stepping.specs.Given.LoggedDeclared.logged.Logged.{Logged}
use Rattle.run_legal.specs.Given.RowsRows.{RowRan, left_as}
use Rattle.run_legal.proofs.Given.RowsNeverWaits.{led_alone, over_alone}
use Rattle.run_legal.proofs.Given.RowsRan.{Led, led_once, over_once}
use Rattle.play_stepping.specs.Given.SchedulerPlayed.{IsInTurn, RefinesFor}
use Rattle.play_stepping.specs.Given.SchedulerWorks.{HasOutcomeBy, IsAbout, IsItsRow, outcome_of_row}
use Rattle.play_stepping.specs.Given.SchedulerDeclared.scheduler.Scheduler.{Scheduler}
use Rattle.play_stepping.proofs.Given.SchedulerDropped.{free_lives, lives_on}
use Rattle.play_stepping.proofs.Given.SchedulerDrops as drops_so
use Rattle.play_stepping.proofs.Given.SchedulerEnters as enters_so
use Rattle.play_stepping.proofs.Given.SchedulerFlushes as flushes_so
use Rattle.play_stepping.proofs.Given.SchedulerRefreshes as refreshes_so
use Rattle.play_stepping.proofs.Given.SchedulerSlotTaken.{first_vacant, led_taking, over_taking, use_still, use_with, used_so, which}
use Rattle.play_stepping.proofs.Given.SchedulerUnregisters as unregisters_so
use Rattle.play_stepping.proofs.Given.SchedulerVacancies.{first_is}
use Rattle.play_stepping.specs.Given.ExecutorIsThere.{IsUsedAs, use_at, work_of}
use Rattle.play_stepping.specs.Given.ExecutorOnSlots.{MayBegin}
use Rattle.play_lists.specs.Given.ScenesRows.{request_of}

-- by how a slot is used it is within a section, or not
pub inside_by : (kind : SlotUse) (v : Use) → IsUsedAs kind v → kind ≡ used.Inside → IsInside v
inside_by kind v fits is = let so = subst (λ (x : SlotUse). IsUsedAs x v) is fits in subst (λ (x : Use). IsInside x) (sym so.1) tt

outside_by : (kind : SlotUse) (v : Use) → IsUsedAs kind v → kind ≡ used.Outside → IsInside v → ⊥
outside_by kind v fits is inside = let so = subst (λ (x : SlotUse). IsUsedAs x v) is fits in subst (λ (x : Use). IsInside x) so.1 inside

vacant_by : (kind : SlotUse) (v : Use) → IsUsedAs kind v → kind ≡ used.Vacant → IsInside v → ⊥
vacant_by kind v fits is inside = let so = subst (λ (x : SlotUse). IsUsedAs x v) is fits in subst (λ (x : Use). IsInside x) so inside

module _ {K V S : Type 0} (same : K → K → Bool) (hash : K → ℕ) (terms : Terms) (log : List (Entry K V)) (p : Scheduler K V S) (stands : RefinesFor same hash terms (moment log) p) where
  -- A guard that lives is there, on its slot
  module _ (guard : List ℕ) (slot : ℕ) (lives : living_slot (guard_of guard p.there.guards) ≡ Some slot) where
    pub slot_is : slot_of_guard guard (moment log).there ≡ slot
    slot_is = let g = lives_on (guard_of guard p.there.guards) slot lives in ap (slot_of_guard guard) stands.there ∙ ap guards_slot_or g.1 ∙ g.2

    pub one_on : guards_on slot p.there.guards ≡ 1 → guards_on (slot_of_guard guard (moment log).there) (moment log).there.guards ≡ 1
    one_on one = ap (λ (x : ℕ). guards_on x (moment log).there.guards) slot_is ∙ ap (λ (x : Present). guards_on slot x.guards) stands.there ∙ one

    nobody : guards_on slot p.there.guards ≡ 1 → NobodyOn slot (drops guard (moment log).there)
    nobody one =
        let g = lives_on (guard_of guard p.there.guards) slot lives in
        subst (λ (x : Present). NobodyOn slot (drops guard x)) (sym stands.there)
        (subst (λ (x : ℕ). NobodyOn x (drops guard p.there)) g.2
        (only_guards_leave_nobody p.there stands.names guard g.0 g.1 (subst (λ (x : ℕ). guards_on x p.there.guards ≡ 1) (sym g.2) one)))

module _ {K V S : Type 0} (same : K → K → Bool) (hash : K → ℕ) (terms : Terms) (log : List (Entry K V)) (p : Scheduler K V S) (stands : RefinesFor same hash terms (moment log) p) (said : RowTold (Node K V))
    (did : List Effect) (new : Logged K V S) where
  abbrev m : Moment K V
  m = moment log

  abbrev before : ℕ → Use
  before = stands.scene.world.uses

  -- What is so of the row, and of each world that has slots used as the executor says then.
  pub record RowFacts (event : Event K V) (slot : ℕ) (called : SlotCall) (ran : RowRan slot called said [] did p.logged new) : Type 0 where
    pub may : MayBegin p.logged.executor slot called
    pub over : work_of new.executor ran.caller ≡ None
    pub led : Led same hash ran.caller stands.scene new.executor
    pub spares : SparesGuards called slot (there_in event m.there)
    pub not_busy : (outcome : Outcome V) → HasOutcomeBy event said outcome → is_busy outcome ≡ false
    pub is_row : (w : World (Node K V)) → ((t : ℕ) → IsUsedAs (use_at new.executor t) (w.uses t)) → (outcome : Outcome V) → HasOutcomeBy event said outcome
        → IsRowFor (request_of slot called) before w.uses event outcome (begun event outcome m)
    pub inside : (w : World (Node K V)) → ((t : ℕ) → IsUsedAs (use_at new.executor t) (w.uses t)) → (outcome : Outcome V) → HasOutcomeBy event said outcome → EndsInside w event outcome m.there

  abbrev FactsAt : Event K V → ℕ → SlotCall → Type 0
  FactsAt event slot called = (ran : RowRan slot called said [] did p.logged new) → RowFacts event slot called ran

  abbrev rows : (after : ℕ → Use) → RowsAre {K = K} {V = V} m before after
  rows after = (events_are_rows K V m).0 before after

  -- an event that is done is as one that is done
  by_done : (P : Outcome V → Type 0) (outcome : Outcome V) → outcome ≡ Done → P Done → P outcome
  by_done P outcome is so = subst P (sym is) so

  module _ (guard registration : List ℕ) (turn : (moment log).is_closed ≡ false) where
    abbrev enter_due : IsInTurn same hash terms log (Enter guard registration) p
    enter_due = record { played = stands; in_turn = turn }

    enter_facts : (slot : ℕ) → IsAbout (Enter guard registration) p slot → guards_on slot p.there.guards ≡ 0 → FactsAt (Enter guard registration) slot call.Enter
    enter_facts slot (none, found) first ran = record {
      may = may;
      over = over_once same hash stands.name m stands.scene p.logged new stands.shown slot call.Enter said [] did ran may tt;
      led = led_once same hash stands.name m stands.scene p.logged new stands.shown slot call.Enter said [] did ran may tt;
      spares = tt;
      not_busy = λ outcome is. by_done (λ o. is_busy o ≡ false) outcome is refl;
      is_row = λ w fits outcome is. by_done (λ o. IsRowFor (Enter' slot) before w.uses (Enter guard registration) o m) outcome is
          (subst (λ (x : ℕ). IsRowFor (Enter' x) before w.uses (Enter guard registration) Done m) its_slot ((rows w.uses).enters guard registration none_on));
      inside = λ w fits outcome is. by_done (λ o. EndsInside w (Enter guard registration) o m.there) outcome is
          (subst (λ (x : ℕ). IsInside (w.uses x)) (sym its_slot)
          (inside_by (use_at new.executor slot) (w.uses slot) (fits slot) (enters_so.is_within same hash terms log p guard registration enter_due none slot found first said [] did new ran)));
    }
      where
        may : MayBegin p.logged.executor slot call.Enter
        may = enters_so.may_enter same hash terms log p guard registration enter_due none slot found first

        its_slot : slot_of_registration registration m.there ≡ slot
        its_slot = enters_so.its_slot same hash terms log p guard registration enter_due none slot found

        none_on : guards_on (slot_of_registration registration m.there) m.there.guards ≡ 0
        none_on = ap (λ (x : ℕ). guards_on x m.there.guards) its_slot ∙ ap (λ (x : Present). guards_on slot x.guards) stands.there ∙ first

  module _ (registration : List ℕ) (turn : (moment log).is_closed ≡ false) where
    abbrev unregister_due : IsInTurn same hash terms log (Unregister registration) p
    unregister_due = record { played = stands; in_turn = turn }

    unregister_facts : (slot : ℕ) → IsAbout (Unregister registration) p slot → guards_on slot p.there.guards ≡ 0 → FactsAt (Unregister registration) slot call.Unregister
    unregister_facts slot (found, none_live) last ran =
        let may = unregisters_so.may_free same hash terms log p registration unregister_due slot found none_live last in
        record {
          may = may;
          over = over_once same hash stands.name m stands.scene p.logged new stands.shown slot call.Unregister said [] did ran may tt;
          led = led_once same hash stands.name m stands.scene p.logged new stands.shown slot call.Unregister said [] did ran may tt;
          spares = tt;
          not_busy = λ outcome is. by_done (λ o. is_busy o ≡ false) outcome is refl;
          is_row = λ w fits outcome is. by_done (λ o. IsRowFor (request_of slot call.Unregister) before w.uses (Unregister registration) o m) outcome is ((rows w.uses).unregisters registration slot);
          inside = λ w fits outcome is. tt;
        }

  module _ (guard : List ℕ) (turn : (moment log).is_closed ≡ false) where
    abbrev refresh_due : IsInTurn same hash terms log (Refresh guard) p
    refresh_due = record { played = stands; in_turn = turn }

    refresh_facts : (slot : ℕ) → IsAbout (Refresh guard) p slot → guards_on slot p.there.guards ≡ 1 → FactsAt (Refresh guard) slot call.Refresh
    refresh_facts slot free one ran =
        let may = refreshes_so.may_refresh same hash terms log p guard refresh_due slot free one in
        let alone = refreshes_so.alone same hash terms log p guard refresh_due slot free one in
        record {
          may = may;
          over = over_alone same hash stands.name m stands.scene p.logged new stands.shown slot call.Refresh said [] did ran may tt alone;
          led = led_alone same hash stands.name m stands.scene p.logged new stands.shown slot call.Refresh said [] did ran may tt alone;
          spares = nobody same hash terms log p stands guard slot lives one;
          not_busy = λ outcome is. by_done (λ o. is_busy o ≡ false) outcome is refl;
          is_row = λ w fits outcome is. by_done (λ o. IsRowFor (Refresh' slot) before w.uses (Refresh guard) o m) outcome is
              (subst (λ (x : ℕ). IsRowFor (Refresh' x) before w.uses (Refresh guard) Done m) (slot_is same hash terms log p stands guard slot lives) ((rows w.uses).refreshes guard (one_on same hash terms log p stands guard slot lives one)));
          inside = λ w fits outcome is. by_done (λ o. EndsInside w (Refresh guard) o m.there) outcome is
              (let g = lives_on (guard_of guard p.there.guards) slot lives in (
                g.0,
                ap (λ (x : Present). guard_of guard x.guards) stands.there ∙ g.1,
                subst (λ (x : ℕ). IsInside (w.uses x)) (sym g.2)
                    (inside_by (use_at new.executor slot) (w.uses slot) (fits slot) (refreshes_so.is_within same hash terms log p guard refresh_due slot free one said [] did new ran)),
              ));
        }
      where
        lives : living_slot (guard_of guard p.there.guards) ≡ Some slot
        lives = free_lives same hash terms m p stands guard slot free

  module _ (guard : List ℕ) (turn : (moment log).is_closed ≡ false) where
    abbrev drop_due : IsInTurn same hash terms log (DropGuard guard) p
    drop_due = record { played = stands; in_turn = turn }

    drop_facts : (slot : ℕ) → IsAbout (DropGuard guard) p slot → guards_on slot p.there.guards ≡ 1 → FactsAt (DropGuard guard) slot (left_as slot p.there)
    drop_facts slot free one ran =
        let may = drops_so.may_leave same hash terms log p guard drop_due slot free one in
        let settles = drops_so.settles same hash terms log p guard drop_due slot free one in
        let alone = drops_so.alone same hash terms log p guard drop_due slot free one in
        record {
          may = may;
          over = over_alone same hash stands.name m stands.scene p.logged new stands.shown slot (left_as slot p.there) said [] did ran may settles alone;
          led = led_alone same hash stands.name m stands.scene p.logged new stands.shown slot (left_as slot p.there) said [] did ran may settles alone;
          spares = spares (has_registration slot p.there.registrations);
          not_busy = λ outcome is. by_done (λ o. is_busy o ≡ false) outcome is refl;
          is_row = λ w fits outcome is. by_done (λ o. IsRowFor (request_of slot (left_as slot p.there)) before w.uses (DropGuard guard) o m) outcome is
              (row w.uses (has_registration slot p.there.registrations));
          inside = λ w fits outcome is. by_done (λ o. EndsInside w (DropGuard guard) o m.there) outcome is tt;
        }
      where
        lives : living_slot (guard_of guard p.there.guards) ≡ Some slot
        lives = free_lives same hash terms m p stands guard slot free

        spares : (b : Bool) → SparesGuards (if b then call.Leave else call.LeaveOwned) slot (drops guard m.there)
        spares true = nobody same hash terms log p stands guard slot lives one
        spares false = nobody same hash terms log p stands guard slot lives one

        row : (after : ℕ → Use) (b : Bool) → IsRowFor (request_of slot (if b then call.Leave else call.LeaveOwned)) before after (DropGuard guard) Done m
        row after true = subst (λ (x : ℕ). IsRowFor (Leave' x) before after (DropGuard guard) Done m) (slot_is same hash terms log p stands guard slot lives) ((rows after).leaves guard (one_on same hash terms log p stands guard slot lives one))
        row after false = subst (λ (x : ℕ). IsRowFor (LeaveOwned x) before after (DropGuard guard) Done m) (slot_is same hash terms log p stands guard slot lives) ((rows after).leaves_owned guard (one_on same hash terms log p stands guard slot lives one))

  module _ (guard : List ℕ) (turn : (moment log).is_closed ≡ false) where
    abbrev flush_due : IsInTurn same hash terms log (Flush guard) p
    flush_due = record { played = stands; in_turn = turn }

    flush_facts : (slot : ℕ) → IsAbout (Flush guard) p slot
        → ((word : ℕ) → word_at p.logged.executor.memory.memory (at.Slot slot BATCH) ≡ Some word → false ≡ (word == HELD)) → FactsAt (Flush guard) slot call.Flush
    flush_facts slot lives reads ran =
        let may = flushes_so.may_flush same hash terms log p guard flush_due slot lives in
        let alone = flushes_so.alone same hash terms log p guard flush_due slot lives false reads refl in
        record {
          may = may;
          over = over_alone same hash stands.name m stands.scene p.logged new stands.shown slot call.Flush said [] did ran may tt alone;
          led = led_alone same hash stands.name m stands.scene p.logged new stands.shown slot call.Flush said [] did ran may tt alone;
          spares = tt;
          not_busy = λ outcome is. by_done (λ o. is_busy o ≡ false) outcome is refl;
          is_row = λ w fits outcome is. by_done (λ o. IsRowFor (Flush' slot) before w.uses (Flush guard) o m) outcome is
              (subst (λ (x : ℕ). IsRowFor (Flush' x) before w.uses (Flush guard) Done m) (slot_is same hash terms log p stands guard slot lives) ((rows w.uses).flushes guard));
          inside = λ w fits outcome is. tt;
        }

  abbrev ChangesNone : Bool → (ℕ → Use) → Type 0
  ChangesNone enters after = ◌≡◌ {A = List Change} [] (changes (Register' enters) before after)

  -- A registering has told a slot, which was the first vacant one, or a fault, which is not that it was out of turn.
  module _ (enters : Bool) (ran : RowRan 0 (call.Register enters) said [] did p.logged new) where
    registered_row : (w : World (Node K V)) → ((t : ℕ) → IsUsedAs (use_at new.executor t) (w.uses t)) → (slot : ℕ) → said ≡ told.Registered slot → enters ≡ false
        → (registration : List ℕ) → IsRowFor (Register' enters) before w.uses (Register registration) (Slot slot) m
    registered_row w fits slot is out registration =
        (rows w.uses).registers enters registration slot (first_vacant same hash terms m p stands enters said [] did new ran slot is)
        (outside_by (use_at new.executor slot) (w.uses slot) (fits slot) (used_so same hash terms m p stands enters said [] did new ran slot is ∙ ap use_with out))

    owned_row : (w : World (Node K V)) → ((t : ℕ) → IsUsedAs (use_at new.executor t) (w.uses t)) → (slot : ℕ) → said ≡ told.Registered slot → enters ≡ true
        → (guard : List ℕ) → IsRowFor (Register' enters) before w.uses (Own guard) (Slot slot) m × IsInside (w.uses slot)
    owned_row w fits slot is in_it guard =
        let inside = inside_by (use_at new.executor slot) (w.uses slot) (fits slot) (used_so same hash terms m p stands enters said [] did new ran slot is ∙ ap use_with in_it) in
        ((rows w.uses).owns enters guard slot (first_vacant same hash terms m p stands enters said [] did new ran slot is) inside, inside)

    none_changed : (w : World (Node K V)) → ((t : ℕ) → IsUsedAs (use_at new.executor t) (w.uses t)) → (fault : Fault) → said ≡ told.Refused fault → ChangesNone enters w.uses
    none_changed w fits fault is = by (new_slot before) refl
      where
        by : (o : Option ℕ) → new_slot before ≡ o → ChangesNone enters w.uses
        by None none = sym (ap (λ (x : Option ℕ). entered_at x w.uses) none)
        by (Some slot) first =
            (rows w.uses).registers enters [] slot first
            (vacant_by (use_at new.executor slot) (w.uses slot) (fits slot)
            (use_still same hash terms m p stands enters said [] did new ran fault is slot ∙ (first_is same hash terms m p stands slot first).vacant))

    over : work_of new.executor ran.caller ≡ None
    over = over_taking same hash terms m p stands enters said [] did new ran

    led : Led same hash ran.caller stands.scene new.executor
    led = led_taking same hash terms m p stands enters said [] did new ran

    abbrev Which : Type 0
    Which = ((slot : ℕ) × (said ≡ told.Registered slot)) ⊎ ((fault : Fault) × (said ≡ told.Refused fault) × ((fault ≡ Memory) ⊎ (fault ≡ SlotsUsedUp)))

    told_which : Which
    told_which = which same hash terms m p stands enters said [] did new ran

    not_out : (outcome : Outcome V) → outcome ≡ outcome_of_row said → is_busy outcome ≡ false
    not_out outcome is = by told_which
      where
        by : Which → is_busy outcome ≡ false
        by (inl (slot, so)) = ap is_busy (is ∙ ap outcome_of_row so)
        by (inr (fault, so, inl memory)) = ap is_busy (is ∙ ap outcome_of_row so ∙ ap Refused memory)
        by (inr (fault, so, inr used_up)) = ap is_busy (is ∙ ap outcome_of_row so ∙ ap Refused used_up)

  register_facts : (registration : List ℕ) → FactsAt (Register registration) 0 (call.Register false)
  register_facts registration ran = record {
    may = tt;
    over = over false ran;
    led = led false ran;
    spares = tt;
    not_busy = not_out false ran;
    is_row = λ w fits outcome is. row w fits outcome is (told_which false ran);
    inside = λ w fits outcome is. tt;
  }
    where
      row : (w : World (Node K V)) → ((t : ℕ) → IsUsedAs (use_at new.executor t) (w.uses t)) → (outcome : Outcome V) → outcome ≡ outcome_of_row said → Which false ran
          → IsRowFor (Register' false) before w.uses (Register registration) outcome m
      row w fits outcome is (inl (slot, so)) =
          subst (λ (o : Outcome V). IsRowFor (Register' false) before w.uses (Register registration) o m) (sym (is ∙ ap outcome_of_row so)) (registered_row false ran w fits slot so refl registration)
      row w fits outcome is (inr (fault, so, why)) =
          subst (λ (o : Outcome V). IsRowFor (Register' false) before w.uses (Register registration) o m) (sym (is ∙ ap outcome_of_row so)) (none_changed false ran w fits fault so)

  own_facts : (guard : List ℕ) → FactsAt (Own guard) 0 (call.Register true)
  own_facts guard ran = record {
    may = tt;
    over = over true ran;
    led = led true ran;
    spares = tt;
    not_busy = not_out true ran;
    is_row = λ w fits outcome is. row w fits outcome is (told_which true ran);
    inside = λ w fits outcome is. inside w fits outcome is (told_which true ran);
  }
    where
      row : (w : World (Node K V)) → ((t : ℕ) → IsUsedAs (use_at new.executor t) (w.uses t)) → (outcome : Outcome V) → outcome ≡ outcome_of_row said → Which true ran
          → IsRowFor (Register' true) before w.uses (Own guard) outcome m
      row w fits outcome is (inl (slot, so)) =
          subst (λ (o : Outcome V). IsRowFor (Register' true) before w.uses (Own guard) o m) (sym (is ∙ ap outcome_of_row so)) (owned_row true ran w fits slot so refl guard).0
      row w fits outcome is (inr (fault, so, why)) =
          subst (λ (o : Outcome V). IsRowFor (Register' true) before w.uses (Own guard) o m) (sym (is ∙ ap outcome_of_row so)) (none_changed true ran w fits fault so)

      inside : (w : World (Node K V)) → ((t : ℕ) → IsUsedAs (use_at new.executor t) (w.uses t)) → (outcome : Outcome V) → outcome ≡ outcome_of_row said → Which true ran → EndsInside w (Own guard) outcome m.there
      inside w fits outcome is (inl (slot, so)) = subst (λ (o : Outcome V). EndsInside w (Own guard) o m.there) (sym (is ∙ ap outcome_of_row so)) (owned_row true ran w fits slot so refl guard).1
      inside w fits outcome is (inr (fault, so, why)) = subst (λ (o : Outcome V). EndsInside w (Own guard) o m.there) (sym (is ∙ ap outcome_of_row so)) tt

  -- whichever event it is
  pub facts : (event : Event K V) → (moment log).is_closed ≡ false → (slot : ℕ) → IsAbout event p slot → (called : SlotCall) → IsItsRow event p slot called → FactsAt event slot called
  facts (Register registration) turn slot about called is =
      subst (λ (x : ℕ). FactsAt (Register registration) x called) (sym about.0) (subst (λ (c : SlotCall). FactsAt (Register registration) 0 c) (sym is) (register_facts registration))
  facts (Own guard) turn slot about called is =
      subst (λ (x : ℕ). FactsAt (Own guard) x called) (sym about.0) (subst (λ (c : SlotCall). FactsAt (Own guard) 0 c) (sym is) (own_facts guard))
  facts (Unregister registration) turn slot about called (is, last) =
      subst (λ (c : SlotCall). FactsAt (Unregister registration) slot c) (sym is) (unregister_facts registration turn slot about last)
  facts (Enter guard registration) turn slot about called (is, first) =
      subst (λ (c : SlotCall). FactsAt (Enter guard registration) slot c) (sym is) (enter_facts guard registration turn slot about first)
  facts (Refresh guard) turn slot about called (is, one) = subst (λ (c : SlotCall). FactsAt (Refresh guard) slot c) (sym is) (refresh_facts guard turn slot about one)
  facts (DropGuard guard) turn slot about called (is, one) = subst (λ (c : SlotCall). FactsAt (DropGuard guard) slot c) (sym is) (drop_facts guard turn slot about one)
  facts (Flush guard) turn slot about called (is, reads) = subst (λ (c : SlotCall). FactsAt (Flush guard) slot c) (sym is) (flush_facts guard turn slot about reads)
  facts _ turn slot about called its = absurd about
