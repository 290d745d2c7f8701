-- Events reclaim nothing in a critical section that they do not end, in which it left its map.
use Rattle.std.specs.Prelude.{◌&&◌, ◌≡◌, ℕ, nat_lt, Bool, true, false, List, [], ◌∷◌, ◌++◌, flat_map, Option, Some, None, if◌then◌else◌}
use Rattle.std.specs.List.{AllByRecursion}
use Rattle.std.proofs.Common.{refl, ap, sym, subst, ◌∙◌}
use Rattle.std.proofs.lemmas.Grind.{flat_map-append}
use Rattle.run_places.specs.Given.SeizeWordsDeclared.at.At.TheVariants.{Root, Used, Slot as SlotWord, Entry as EntryWord, Word}
use Rattle.run_places.specs.Given.SeizeWorld.{World}
use Rattle.run_places.specs.Given.TablesDeclared.node.Node.{Node}
use Rattle.run_places.specs.Given.RunsPresent.{Present, slot_of_registration}
use Rattle.run_places.specs.Given.RunsDeclared.call.Call.{Call}
use Rattle.run_places.specs.Given.RunsDeclared.effect.Effect.{Effect}
use Rattle.run_places.specs.Given.RunsDeclared.effect.Thing.{Thing}
use Rattle.run_places.specs.Given.RunsDeclared.event.Event.{Event}
use Rattle.run_places.specs.Given.RunsDeclared.event.Event.TheVariants.{Register, Unregister, Enter, Own, Refresh, Flush, DropGuard, Forget, ReclaimAll, Close, MakeMap, Begin, OneCall}
use Rattle.run_places.specs.Given.RunsDeclared.outcome.Outcome.{Outcome}
use Rattle.run_places.specs.Given.RunsDeclared.outcome.Outcome.TheVariants.{Done, Slot, Goes}
use Rattle.run_places.specs.Given.SchedulesAfter.{there_on, unsheltered, sheltered_on, after, moment}
use Rattle.run_places.specs.Given.SchedulesBeginning.{with_call, begun, at_work}
use Rattle.run_places.specs.Given.SchedulesEffects.{with_effect, with_effects, worked}
use Rattle.run_places.specs.Given.SchedulesEntry.{Entry, is_busy, nameless, caller_of, acted_on}
use Rattle.run_places.specs.Given.SchedulesLists.{is_in}
use Rattle.run_places.specs.Given.SchedulesModel.{thing_back}
use Rattle.run_places.specs.Given.SchedulesMoment.{Sheltered, Moment}
use Rattle.run_places.specs.Given.SchedulesThings.{same_thing}
use Rattle.run_places.specs.Given.SchedulesViews.{number_of}
use Rattle.run_places.specs.Given.EffectsDeclared.changed.Changed.{Changed}
use Rattle.run_places.specs.Given.EffectsDeclared.changed.Changed.TheVariants as changed
use Rattle.run_places.specs.Given.EffectsEffects.{names_same, taken_by, effects_of}
use Rattle.run_places.specs.Given.EffectsKnown.{Known}
use Rattle.run_places.specs.Given.EffectsDeclared.acting.Acting.TheVariants as acts
use Rattle.run_places.specs.Given.EffectsDeclared.role.Role.{Role}
use Rattle.run_places.specs.Given.EffectsDeclared.role.Role.TheVariants as role
use Rattle.run_places.proofs.Given.OthersRowPlans.{TellsRow, row_tells}
use Rattle.run_histories.specs.Promises.Guards.{EntersInside}
use Rattle.run_histories.specs.Promises.Protected.{is_of_slots, there_in, HasSpared, InMidst, EndsInside, EventsBeginProtected, EventsEndProtected, OtherEventsEndProtected, SlotEventsEndProtected, AllIsEndedProtected, IdleEventsAreProtected, CallsProtect, MakingsProtect, EndingsProtect, RowsBeginProtect, RowsProtect}
use Rattle.run_histories.specs.Promises.Sheltered.{GuardsAreInside, AreSheltered, SectionsHold}
use Rattle.run_histories.specs.Promises.Shelters.{NoneIsBack}
use Rattle.run_histories.proofs.Promises.Guards.{drops_stay, enters_stay, forgets_stay, no_guard, guards_come_and_go, one_is_inside_again}
use Rattle.run_histories.proofs.Promises.Shelters.Begins.{rows_begin_shelter}
use Rattle.run_histories.proofs.Promises.Shelters.Calls.{calls_shelter}
use Rattle.run_histories.proofs.Promises.Shelters.Ends.{endings_shelter}
use Rattle.run_histories.proofs.Promises.Shelters.Events.{steps_protect, events_are_protected}
use Rattle.run_histories.proofs.Promises.Shelters.Makings.{makings_shelter}
use Rattle.run_histories.proofs.Promises.Shelters.Outs.{KeepsIn, room_keeps, keep_all}
use Rattle.run_histories.proofs.Promises.Shelters.Rows.{none_back, rows_shelter}
use Rattle.run_places.specs.Given.SchedulesTransition.{transition}

-- what work begins, and what it does, leaves who is there

module _ {K V : Type 0} where
  pub same_there : (caller : Option (List ℕ)) (map : Option ℕ) (effects : List Effect) (m : Moment K V) → (with_effects caller map effects m).there ≡ m.there
  same_there caller map [] m = refl
  same_there caller map (f ∷ effects) m = same_there caller map effects (with_effect caller map f m)

  -- who is there, and what is sheltered
  abbrev IsAsBefore : Moment K V → Moment K V → Type 0
  IsAsBefore m v = (v.there ≡ m.there) × (v.sheltered ≡ m.sheltered)

  called_as : (own guard : List ℕ) (call : Call K V) (map : Option ℕ) (m : Moment K V) → IsAsBefore m (with_call own guard call map m)
  called_as own guard call None m = (refl, refl)
  called_as own guard call (Some map) m = (refl, refl)

  either_as : (q : Bool) (m v : Moment K V) → IsAsBefore m v → IsAsBefore m (if q then m else v)
  either_as true m v it = (refl, refl)
  either_as false m v it = it

  begun_as : (event : Event K V) (outcome : Outcome V) (m : Moment K V) → IsAsBefore m (begun event outcome m)
  begun_as (Begin caller guard map call) Goes m = called_as caller guard call (number_of map m) m
  begun_as (OneCall guard map call) outcome m =
      either_as (is_busy outcome) m (with_call nameless guard call (number_of map m) m) (called_as nameless guard call (number_of map m) m)
  begun_as (MakeMap map mode capacity) Done m = (refl, refl)
  begun_as _ _ m = (refl, refl)

  worked_there : (e : Entry K V) (m : Moment K V) → (worked e m).there ≡ m.there
  worked_there e m = same_there (caller_of e.event) (acted_on e.event (at_work e m)) e.effects (at_work e m) ∙ (begun_as e.event e.outcome m).0

-- what is reclaimed by nothing

spares_all : (things : List Thing) → things ≡ [] → (xs : List Sheltered) → AllByRecursion (λ (x : Sheltered). is_in same_thing x.thing things ≡ false) xs
spares_all things none [] = tt
spares_all things none (x ∷ xs) = (ap (λ (ys : List Thing). is_in same_thing x.thing ys) none, spares_all things none xs)

both_none : (done effects : List Effect) → flat_map thing_back done ≡ [] → flat_map thing_back effects ≡ [] → flat_map thing_back (done ++ effects) ≡ []
both_none done effects a b = flat_map-append thing_back done effects ∙ ap (λ (xs : List Thing). xs ++ flat_map thing_back effects) a ∙ b

nothing_spared : (q : Bool) (ys : List Sheltered) → HasSpared q [] ys
nothing_spared true ys = none_back ys
nothing_spared false ys = refl

spared_all : (q : Bool) (done : List Effect) (ys : List Sheltered) → HasSpared q done ys → NoneIsBack done ys
spared_all true done ys spared = spared
spared_all false done ys spared = spares_all (flat_map thing_back done) spared ys

-- a row takes nothing out of a map

taken_keeps : (r : Role) → AllByRecursion KeepsIn (taken_by acts.Row r)
taken_keeps role.Free = tt
taken_keeps (role.OwnPair c) = (tt, tt)
taken_keeps (role.OwnTable turn shape) = (tt, tt)
taken_keeps (role.Pair n) = (tt, tt)
taken_keeps (role.Table t len) = (tt, tt)
taken_keeps (role.Counter map) = tt

nothing_keeps : (q : Bool) → AllByRecursion KeepsIn (if q then [] else [])
nothing_keeps true = tt
nothing_keeps false = tt

row_keeps_in : (known : Known) (told : Changed) → TellsRow told → AllByRecursion KeepsIn (effects_of acts.Row known told)
row_keeps_in known changed.Nothing is = tt
row_keeps_in known (changed.Wrote (SlotWord t field) before now) is = tt
row_keeps_in known (changed.Wrote (EntryWord b field) before now) is = nothing_keeps (names_same before now)
row_keeps_in known (changed.Wrote (Root r) before now) is = absurd is
row_keeps_in known (changed.Wrote (Used r) before now) is = absurd is
row_keeps_in known (changed.Wrote (Word b field) before now) is = absurd is
row_keeps_in known (changed.Made kind b) is = absurd is
row_keeps_in known (changed.Unmade kind) is = absurd is
row_keeps_in known (changed.Took b) is = taken_keeps (known.roles b)
row_keeps_in known (changed.Roomed bucket had) is = room_keeps (had && nat_lt bucket known.buckets)

-- work that is none of rows ends no section
as_it_is : {K V : Type 0} (event : Event K V) → is_of_slots event ≡ false → (there : Present) (xs : List Sheltered) → (there_in event there ≡ there) × (sheltered_on event Done xs ≡ xs)
as_it_is (Register registration) out there xs = absurd (cc out)
as_it_is (Unregister registration) out there xs = absurd (cc out)
as_it_is (Enter guard registration) out there xs = absurd (cc out)
as_it_is (Own guard) out there xs = absurd (cc out)
as_it_is (Refresh guard) out there xs = absurd (cc out)
as_it_is (Flush guard) out there xs = absurd (cc out)
as_it_is (DropGuard guard) out there xs = absurd (cc out)
as_it_is ReclaimAll out there xs = absurd (cc out)
as_it_is Close out there xs = absurd (cc out)
as_it_is _ out there xs = (refl, refl)

module _ {K V : Type 0} (event : Event K V) (done : List Effect) (m : Moment K V) (known : Known) (w : World (Node K V)) (midst : InMidst event done m known w) where
  -- by work that reclaims nothing
  module _ (out : is_of_slots event ≡ false) where
    hold : SectionsHold m known w
    hold =
        let same = as_it_is event out m.there m.sheltered in (
          subst (λ (there : Present). GuardsAreInside there w) same.0 midst.inside,
          subst (λ (there : Present). AreSheltered there w known m.sheltered) same.0 (subst (AreSheltered (there_in event m.there) w known) same.1 midst.sheltered),
        )

    goes_on : (effects : List Effect) (v : Moment K V) (known2 : Known) (w2 : World (Node K V)) → v.there ≡ m.there
        → GuardsAreInside m.there w2 × AreSheltered m.there w2 known2 v.sheltered × (flat_map thing_back effects ≡ []) → InMidst event (done ++ effects) v known2 w2
    goes_on effects v known2 w2 there (inside, sheltered, none) =
        let same = as_it_is event out v.there v.sheltered in
        let here = same.0 ∙ there in
        record {
          inside = subst (λ (p : Present). GuardsAreInside p w2) (sym here) inside;
          sheltered = subst (AreSheltered (there_in event v.there) w2 known2) (sym same.1) (subst (λ (p : Present). AreSheltered p w2 known2 v.sheltered) (sym here) sheltered);
          spared = subst (λ (q : Bool). HasSpared q (done ++ effects) (sheltered_on event Done v.sheltered)) (sym out)
              (both_none done effects (subst (λ (q : Bool). HasSpared q done (sheltered_on event Done m.sheltered)) out midst.spared) none);
        }

  -- by rows
  abbrev xs : List Sheltered
  xs = sheltered_on event Done m.sheltered

  rows_go_on : is_of_slots event ≡ true → (effects : List Effect) (v : Moment K V) (known2 : Known) (w2 : World (Node K V)) → v.there ≡ m.there → v.sheltered ≡ m.sheltered
      → GuardsAreInside (there_in event m.there) w2 → AreSheltered (there_in event m.there) w2 known2 xs → NoneIsBack effects xs → InMidst event (done ++ effects) v known2 w2
  rows_go_on on effects v known2 w2 there sheltered inside all none = record {
    inside = subst (λ (p : Present). GuardsAreInside (there_in event p) w2) (sym there) inside;
    sheltered = subst (λ (ys : List Sheltered). AreSheltered (there_in event v.there) w2 known2 (sheltered_on event Done ys)) (sym sheltered)
        (subst (λ (p : Present). AreSheltered (there_in event p) w2 known2 xs) (sym there) all);
    spared = subst (λ (q : Bool). HasSpared q (done ++ effects) (sheltered_on event Done v.sheltered)) (sym on)
        (subst (λ (ys : List Sheltered). NoneIsBack (done ++ effects) (sheltered_on event Done ys)) (sym sheltered)
        (steps_protect done effects xs (subst (λ (q : Bool). HasSpared q done xs) on midst.spared) none));
  }

-- where an event begins, and ends

module _ {K V : Type 0} (w : World (Node K V)) (known : Known) (there : Present) (xs : List Sheltered) where
  abbrev In : Present → List Sheltered → Type 0
  In p ys = GuardsAreInside p w × AreSheltered p w known ys

  begins_in : (event : Event K V) → GuardsAreInside there w → AreSheltered there w known xs → In (there_in event there) (sheltered_on event Done xs)
  begins_in (Refresh guard) inside all = drops_stay w known there xs inside all guard
  begins_in (DropGuard guard) inside all = drops_stay w known there xs inside all guard
  begins_in ReclaimAll inside all = (λ own g is. no_guard g is, tt)
  begins_in Close inside all = (λ own g is. no_guard g is, tt)
  begins_in _ inside all = (inside, all)

  ends_in : (event : Event K V) (outcome : Outcome V) → EndsInside w event outcome there → GuardsAreInside (there_in event there) w
      → AreSheltered (there_in event there) w known (sheltered_on event Done xs) → In (there_on event outcome there) (sheltered_on event outcome xs)
  ends_in (Register registration) (Slot s) so inside all = (inside, all)
  ends_in (Unregister registration) Done so inside all = (inside, all)
  ends_in (Enter guard registration) Done so inside all = enters_stay w known there xs inside all guard (slot_of_registration registration there) so
  ends_in (Own guard) (Slot s) so inside all = enters_stay w known there xs inside all guard s so
  ends_in (Refresh guard) Done so inside all = one_is_inside_again K V w known there (unsheltered guard xs) guard so.0 so.1 so.2 inside all
  ends_in (Refresh guard) _ so inside all = absurd so
  ends_in (DropGuard guard) Done so inside all = (inside, all)
  ends_in (DropGuard guard) _ so inside all = absurd so
  ends_in (Forget guard) Done so inside all = forgets_stay w known there xs inside all guard
  ends_in ReclaimAll Done so inside all = (inside, all)
  ends_in ReclaimAll _ so inside all = absurd so
  ends_in Close Done so inside all = (inside, all)
  ends_in Close _ so inside all = absurd so
  ends_in _ _ so inside all = (inside, all)

  -- it ends the sections that it was to end
  same_left : (event : Event K V) (outcome : Outcome V) → EndsInside w event outcome there → sheltered_on event Done xs ≡ sheltered_on event outcome xs
  same_left (Refresh guard) Done so = refl
  same_left (Refresh guard) _ so = absurd so
  same_left (DropGuard guard) Done so = refl
  same_left (DropGuard guard) _ so = absurd so
  same_left ReclaimAll Done so = refl
  same_left ReclaimAll _ so = absurd so
  same_left Close Done so = refl
  same_left Close _ so = absurd so
  same_left _ _ so = refl

-- an event that is none of rows ends no section
of_others : {K V : Type 0} (w : World (Node K V)) (event : Event K V) (outcome : Outcome V) (there : Present) → is_of_slots event ≡ false → EndsInside w event outcome there
of_others w (Register registration) outcome there out = absurd (cc out)
of_others w (Unregister registration) outcome there out = absurd (cc out)
of_others w (Enter guard registration) outcome there out = absurd (cc out)
of_others w (Own guard) outcome there out = absurd (cc out)
of_others w (Refresh guard) outcome there out = absurd (cc out)
of_others w (Flush guard) outcome there out = absurd (cc out)
of_others w (DropGuard guard) outcome there out = absurd (cc out)
of_others w ReclaimAll outcome there out = absurd (cc out)
of_others w Close outcome there out = absurd (cc out)
of_others w _ outcome there out = tt

-- and one of rows begins nothing, and acts on no map
abbrev ActsOnNone : {K V : Type 0} → Event K V → Type 0
ActsOnNone {K} {V} event = (caller_of event ≡ None) × ((outcome : Outcome V) (m : Moment K V) → begun event outcome m ≡ m) × ((m : Moment K V) → acted_on event m ≡ None)

of_slots : {K V : Type 0} (event : Event K V) → is_of_slots event ≡ true → ActsOnNone event
of_slots (Register registration) is = (refl, λ outcome m. refl, λ m. refl)
of_slots (Unregister registration) is = (refl, λ outcome m. refl, λ m. refl)
of_slots (Enter guard registration) is = (refl, λ outcome m. refl, λ m. refl)
of_slots (Own guard) is = (refl, λ outcome m. refl, λ m. refl)
of_slots (Refresh guard) is = (refl, λ outcome m. refl, λ m. refl)
of_slots (Flush guard) is = (refl, λ outcome m. refl, λ m. refl)
of_slots (DropGuard guard) is = (refl, λ outcome m. refl, λ m. refl)
of_slots ReclaimAll is = (refl, λ outcome m. refl, λ m. refl)
of_slots Close is = (refl, λ outcome m. refl, λ m. refl)
of_slots _ is = absurd (cc is)

module _ (K V : Type 0) where
  pub events_begin_protected : EventsBeginProtected K V
  events_begin_protected m known w hold e =
      let b = at_work e m in
      let before = begun_as e.event e.outcome m in
      let it = begins_in w known b.there b.sheltered e.event (subst (λ (p : Present). GuardsAreInside p w) (sym before.0) hold.0)
      (subst (AreSheltered b.there w known) (sym before.1) (subst (λ (p : Present). AreSheltered p w known m.sheltered) (sym before.0) hold.1)) in
      record { inside = it.0; sheltered = it.1; spared = nothing_spared (is_of_slots e.event) (sheltered_on e.event Done b.sheltered) }

  pub all_is_ended_protected : AllIsEndedProtected K V
  all_is_ended_protected done m known w =
      (record { inside = λ own g is. no_guard g is; sheltered = tt; spared = tt }, record { inside = λ own g is. no_guard g is; sheltered = tt; spared = tt })

  pub events_end_protected : EventsEndProtected K V
  events_end_protected log e known w midst so =
      let v = worked e (moment log) in
      let ends = subst (EndsInside w e.event e.outcome) (sym (worked_there e (moment log))) so in (
        events_are_protected K V (transition log e)
            (subst (NoneIsBack e.effects) (same_left w known v.there v.sheltered e.event e.outcome ends)
            (spared_all (is_of_slots e.event) e.effects (sheltered_on e.event Done v.sheltered) midst.spared)),
        ends_in w known v.there v.sheltered e.event e.outcome ends midst.inside midst.sheltered,
      )

  pub other_events_end_protected : OtherEventsEndProtected K V
  other_events_end_protected log e begun_so m caller map known w out begins called acted is midst =
      events_end_protected log e known w (subst (λ (v : Moment K V). InMidst e.event e.effects v known w) (sym worked_is) midst) (of_others w e.event e.outcome (moment log).there out)
    where
      worked_is : worked e (moment log) ≡ m
      worked_is =
          ap (λ (b : Moment K V). with_effects (caller_of e.event) (acted_on e.event b) e.effects b) begins
          ∙ ap (λ (o : Option (List ℕ)). with_effects o (acted_on e.event begun_so) e.effects begun_so) called
          ∙ ap (λ (o : Option ℕ). with_effects caller o e.effects begun_so) acted ∙ sym is

  pub slot_events_end_protected : SlotEventsEndProtected K V
  slot_events_end_protected log e m known w on is midst so =
      events_end_protected log e known w (subst (λ (v : Moment K V). InMidst e.event e.effects v known w) (sym worked_is) midst) so
    where
      worked_is : worked e (moment log) ≡ m
      worked_is =
          let acts_on = of_slots e.event on in
          ap (λ (b : Moment K V). with_effects (caller_of e.event) (acted_on e.event b) e.effects b) (acts_on.1 e.outcome (moment log))
          ∙ ap (λ (o : Option (List ℕ)). with_effects o (acted_on e.event (moment log)) e.effects (moment log)) acts_on.0
          ∙ ap (λ (o : Option ℕ). with_effects None o e.effects (moment log)) (acts_on.2 (moment log)) ∙ sym is

  pub idle_events_are_protected : IdleEventsAreProtected K V
  idle_events_are_protected log e known w none hold so =
      let m = moment log in
      let b = at_work e m in
      let v = worked e m in
      let before = begun_as e.event e.outcome m in
      let there : v.there ≡ m.there = worked_there e m in
      let sheltered : v.sheltered ≡ m.sheltered = ap (λ (fs : List Effect). (with_effects (caller_of e.event) (acted_on e.event b) fs b).sheltered) none ∙ before.1 in (
        events_are_protected K V (transition log e) (spares_all (flat_map thing_back e.effects) (ap (flat_map thing_back) none) (after e m).sheltered),
        guards_come_and_go K V w known v.there v.sheltered (subst (λ (p : Present). GuardsAreInside p w) (sym there) hold.0)
            (subst (AreSheltered v.there w known) (sym sheltered) (subst (λ (p : Present). AreSheltered p w known m.sheltered) (sym there) hold.1)) e.event e.outcome
            (subst (EntersInside w e.event e.outcome) (sym there) so),
      )

module _ (K V : Type 0) (same : K → K → Bool) (hash : ℕ → K → ℕ) where
  pub calls_protect : CallsProtect K V same hash
  calls_protect name m known s old new at whole map i u here told leads event out done midst =
      let sections = hold event done m known s.world midst out in
      goes_on event done m known s.world midst out _ _ _ _ (same_there (Some (name i)) (Some map) (effects_of (acts.Call i map) known new.changed) m)
      (calls_shelter K V same hash name m known s old new at whole map i u here told leads sections.0 sections.1)

  pub makings_protect : MakingsProtect K V same hash
  makings_protect name m known s old new at whole i told leads b here of new_for event out done midst =
      goes_on event done m known s.world midst out _ _ _ _ (same_there None of (effects_of (acts.Making b.map) known new.changed) m)
      (makings_shelter K V same hash name m known s old new at whole i told leads b here of new_for (hold event done m known s.world midst out))

  pub endings_protect : EndingsProtect K V same hash
  endings_protect name m known s old new at whole i told leads f here map not_there event out done midst =
      goes_on event done m known s.world midst out _ _ _ _ (same_there None (Some map) (effects_of (acts.Ending map) known new.changed) m)
      (endings_shelter K V same hash name m known s old new at whole i told leads f here map not_there (hold event done m known s.world midst out))

  pub rows_begin_protect : RowsBeginProtect K V same hash
  rows_begin_protect m known s old new called i leads event spares done midst =
      let it = rows_begin_shelter K V same hash s old new called i leads (there_in event m.there) spares midst.inside known (sheltered_on event Done m.sheltered) midst.sheltered in
      record { inside = it.0; sheltered = it.1; spared = midst.spared }

  pub rows_protect : RowsProtect K V same hash
  rows_protect name m known s old new at whole i told leads row here event on done midst =
      let to = leads row here in
      let it = rows_shelter K V same hash name m known s old new at whole i told leads row here (there_in event m.there) (sheltered_on event Done m.sheltered) midst.sheltered in
      let effects = effects_of acts.Row known new.changed in
      let tells = row_tells old.memory new.memory new.changed (to.0, told) row to.1 in
      rows_go_on event done m known s.world midst on effects (with_effects None None effects m) _ _ (same_there None None effects m)
      (keep_all None None effects m (row_keeps_in known new.changed tells)) (it.0 midst.inside) it.1 it.2
