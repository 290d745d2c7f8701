-- An event whose work is a row on a slot, from its beginning on.
use Rattle.std.specs.Prelude.{◌≡◌, ℕ, Bool, true, List, [], ◌∷◌, ◌++◌, Option, None}
use Rattle.std.proofs.Common.{refl, ap, sym, subst, ◌∙◌}
use Rattle.run_grows.specs.Given.SeizeWorld.{World, Request, Begin, Step}
use Rattle.run_grows.specs.Given.TablesDeclared.node.Node.{Node}
use Rattle.run_grows.specs.Given.RunsDeclared.effect.Effect.{Effect}
use Rattle.run_grows.specs.Given.RunsDeclared.event.Event.{Event}
use Rattle.run_grows.specs.Given.RunsDeclared.event.Event.TheVariants.{Register, Unregister, Enter, Own, Refresh, Flush, DropGuard, ReclaimAll, Close}
use Rattle.run_grows.specs.Given.RunsDeclared.outcome.Outcome.TheVariants.{Done}
use Rattle.run_grows.specs.Given.SchedulesAfter.{moment}
use Rattle.run_grows.specs.Given.SchedulesEffects.{with_effect, with_effects, AtEachEffect}
use Rattle.run_grows.specs.Given.SchedulesModel.{sets_in, things_in}
use Rattle.run_grows.specs.Given.SchedulesMoment.{Moment}
use Rattle.run_grows.specs.Given.EffectsEffects.{effects_of, known_after}
use Rattle.run_grows.specs.Given.EffectsKnown.{Known}
use Rattle.run_grows.specs.Given.EffectsDeclared.acting.Acting.TheVariants as acts
use Rattle.run_grows.specs.Given.MomentsWhole.{RefinesWhole}
use Rattle.run_grows.proofs.Given.MomentsAfter.{effects_after}
use Rattle.run_grows.specs.Given.PromisesProtected.{InMidst, is_of_slots}
use Rattle.run_grows.specs.Given.PromisesSheltered.{SectionsHold}
use Rattle.run_grows.proofs.Given.PromisesBrief.Meanwhile.{rows_keep_readings}
use Rattle.run_grows.proofs.Given.PromisesProtected.{events_begin_protected, rows_begin_protect, rows_protect}
use Rattle.run_grows.proofs.Given.PromisesWeights.{grants_add_up, operations_are_single}
use Rattle.run_grows.specs.Given.ModelsFollows.{FollowsSets}
use Rattle.run_grows.specs.Given.ModelsOnSlots.{FollowsInRow}
use Rattle.run_grows.proofs.Given.ModelsMapEvents.{moments_note_once}
use Rattle.run_grows.proofs.Given.ModelsOnSlots.{slot_events_begin, slot_events_go_on}
use Rattle.run_legal.specs.SlotEvents.{SlotEventsBegin, SlotEventsContinue}
use Rattle.run_grows.specs.Given.ScenesRows.{request_of}
use Rattle.run_grows.specs.Given.ScenesScene.{slot_of}
use Rattle.run_grows.specs.Given.SchedulesTransition.{past}
use Rattle.run_legal.proofs.OneStep.{rows_begin, rows_step}
use Rattle.run_grows.proofs.Given.ExecutingOnSlotBegun.{of_slots}

-- what is so at each of the first effects, and at each of those behind them, is so at each
module _ {K V : Type 0} (P : Moment K V → Effect → Type 0) (caller : Option (List ℕ)) (acted : Option ℕ) where
  pub each_join : (xs ys : List Effect) (m : Moment K V) → AtEachEffect P caller acted xs m → AtEachEffect P caller acted ys (with_effects caller acted xs m) → AtEachEffect P caller acted (xs ++ ys) m
  each_join [] ys m first later = later
  each_join (f ∷ xs) ys m first later = (first.0, each_join xs ys (with_effect caller acted f m) first.1 later)

-- such an event begins nothing before its work
module _ {K V : Type 0} (m : Moment K V) (known : Known) (w : World (Node K V)) (hold : SectionsHold m known w) where
  slots_protected : (e : Event K V) → is_of_slots e ≡ true → InMidst e [] m known w
  slots_protected (Register registration) is = events_begin_protected K V m known w hold (record { event = Register registration; outcome = Done; steps = 0; effects = [] })
  slots_protected (Unregister registration) is = events_begin_protected K V m known w hold (record { event = Unregister registration; outcome = Done; steps = 0; effects = [] })
  slots_protected (Enter guard registration) is = events_begin_protected K V m known w hold (record { event = Enter guard registration; outcome = Done; steps = 0; effects = [] })
  slots_protected (Own guard) is = events_begin_protected K V m known w hold (record { event = Own guard; outcome = Done; steps = 0; effects = [] })
  slots_protected (Refresh guard) is = events_begin_protected K V m known w hold (record { event = Refresh guard; outcome = Done; steps = 0; effects = [] })
  slots_protected (Flush guard) is = events_begin_protected K V m known w hold (record { event = Flush guard; outcome = Done; steps = 0; effects = [] })
  slots_protected (DropGuard guard) is = events_begin_protected K V m known w hold (record { event = DropGuard guard; outcome = Done; steps = 0; effects = [] })
  slots_protected ReclaimAll is = events_begin_protected K V m known w hold (record { event = ReclaimAll; outcome = Done; steps = 0; effects = [] })
  slots_protected Close is = events_begin_protected K V m known w hold (record { event = Close; outcome = Done; steps = 0; effects = [] })
  slots_protected _ is = absurd (cc is)

pub slot_events_begin_so : (K V : Type 0) (same : K → K → Bool) (hash : ℕ → K → ℕ) → SlotEventsBegin K V same hash
slot_events_begin_so K V same hash name terms log known s old new at size run event on i called leads spares before =
    let m = moment log in
    let request = request_of (slot_of i) called in
    let to = leads.2 in
    record {
      of_slots = on;
      once = moments_note_once K V same name m known s run.calls.whole;
      calls = rows_begin K V same hash name (past log) m known s old new at run.calls called i leads;
      reading = rows_keep_readings K V same hash name (past log) (λ j. 0) m s old new (Begin i request) to [] run.reading;
      worked = refl;
      granted = refl;
      protects = rows_begin_protect K V same hash m known s old new called i leads event spares [] (slots_protected m known s.world run.sections event on);
      follows = λ alone.
          subst (λ (n : ℕ). FollowsInRow n terms.roots (things_in log) (sets_in terms.batch_size log) known i request s.world [] known to.0) size
          (slot_events_begin K V old.batch_size terms.roots (things_in log) (sets_in terms.batch_size log) known s.world to.0
          (subst (λ (n : ℕ). FollowsSets n terms.roots (things_in log) (sets_in terms.batch_size log) known s.world) (sym size) (before alone)) i request (of_slots (slot_of i) called) to.1.0 to.1.1);
    }

pub slot_events_go_on_so : (K V : Type 0) (same : K → K → Bool) (hash : ℕ → K → ℕ) → SlotEventsContinue K V same hash
slot_events_go_on_so K V same hash name terms log event i called first began done m known s midst old new at size said leads row here = record {
  of_slots = midst.of_slots;
  once = midst.once;
  calls = rows_step K V same hash name (past log) m known s old new at midst.calls i said leads row here;
  reading = rows_keep_readings K V same hash name (past log) (λ j. 0) m s old new (Step i) (leads row here).2 effects midst.reading;
  worked = ap (λ (x : Moment K V). with_effects None None effects x) midst.worked ∙ sym (effects_after None None done effects (moment log));
  granted = grants_add_up done effects midst.granted (operations_are_single acts.Row known new.changed).1;
  protects = rows_protect K V same hash name m known s old new at whole i said leads row here event midst.of_slots done midst.protects;
  follows = λ alone.
      subst (λ (n : ℕ). FollowsInRow n terms.roots (things_in log) (sets_in terms.batch_size log) first i request began (done ++ effects) (known_after acts.Row new.changed known) (leads row here).2.0) size
      (slot_events_go_on K V same hash m known s old new at whole.all.shown.blocks i said leads row here terms.roots (things_in log) (sets_in terms.batch_size log) first request began done
      (subst (λ (n : ℕ). FollowsInRow n terms.roots (things_in log) (sets_in terms.batch_size log) first i request began done known s.world) (sym size) (midst.follows alone)));
}
  where
    whole : RefinesWhole same name m known s
    whole = midst.calls.whole

    request : Request
    request = request_of (slot_of i) called

    effects : List Effect
    effects = effects_of acts.Row known new.changed
