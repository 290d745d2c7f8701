-- The moment after an event of a slot shows what the next event needs.
use Rattle.std.specs.Prelude.{◌≡◌, ℕ, Bool, true, List, [], ◌∷◌, Option, None}
use Rattle.std.specs.List.{list_all}
use Rattle.std.proofs.Common.{refl, sym, subst, inl}
use Rattle.run_grows.specs.Given.RunsDeclared.effect.Effect.{Effect}
use Rattle.run_grows.specs.Given.RunsDeclared.effect.Effect.TheVariants.{Asked, Reclaimed}
use Rattle.run_grows.specs.Given.RunsDeclared.effect.Growth.TheVariants.{ABucket}
use Rattle.run_grows.specs.Given.RunsDeclared.event.Event.{Event}
use Rattle.run_grows.specs.Given.RunsDeclared.event.Event.TheVariants.{Register, Unregister, Enter, Own, Refresh, Flush, DropGuard, ReclaimAll, Close}
use Rattle.run_grows.specs.Given.RunsDeclared.outcome.Outcome.{Outcome}
use Rattle.run_grows.specs.Given.SchedulesAfter.{after, moment}
use Rattle.run_grows.specs.Given.SchedulesBeginning.{at_work}
use Rattle.run_grows.specs.Given.SchedulesEffects.{with_effect, with_effects, AtEachEffect}
use Rattle.run_grows.specs.Given.SchedulesEntry.{Entry, acted_on, caller_of}
use Rattle.run_grows.specs.Given.SchedulesHanding.{asks_for_bucket, is_only, is_reclaiming, may_do}
use Rattle.run_grows.specs.Given.SchedulesMoment.{Moment}
use Rattle.run_grows.specs.Given.PromisesProtected.{is_of_slots}
use Rattle.run_grows.specs.Given.FindsLife.{StoresOne}
use Rattle.run_legal.specs.Between.{IsLike}
use Rattle.run_legal.specs.SlotEvents.{SlotEventsEnd}
use Rattle.run_legal.proofs.Between.{likes_show}
use Rattle.run_legal.proofs.Over.{reading_like, runs_go_on}
use Rattle.run_grows.specs.Given.SchedulesTransition.{past}
use Rattle.run_grows.proofs.Given.General.{both_true as and_both}

-- Its effects store nothing.

module _ {K V : Type 0} where
  asks_stores : (f : Effect) → asks_for_bucket f ≡ true → (who : Option (List ℕ)) (v : Moment K V) → StoresOne who v f
  asks_stores (Asked ABucket) is who v = tt
  asks_stores _ is who v = absurd (cc is)

  reclaiming_stores : (f : Effect) → is_reclaiming f ≡ true → (who : Option (List ℕ)) (v : Moment K V) → StoresOne who v f
  reclaiming_stores (Reclaimed x) is who v = tt
  reclaiming_stores _ is who v = absurd (cc is)

  stores_none : (event : Event K V) (m : Moment K V) (f : Effect) → is_of_slots event ≡ true → may_do event m f ≡ true → (who : Option (List ℕ)) (v : Moment K V) → StoresOne who v f
  stores_none (Register registration) m f on may who v = asks_stores f may who v
  stores_none (Unregister registration) m f on may who v = absurd (cc may)
  stores_none (Enter guard registration) m f on may who v = absurd (cc may)
  stores_none (Own guard) m f on may who v = asks_stores f may who v
  stores_none (Refresh guard) m f on may who v = reclaiming_stores f (and_both (is_only guard m) (is_reclaiming f) may).1 who v
  stores_none (Flush guard) m f on may who v = absurd (cc may)
  stores_none (DropGuard guard) m f on may who v = reclaiming_stores f (and_both (is_only guard m) (is_reclaiming f) may).1 who v
  stores_none ReclaimAll m f on may who v = reclaiming_stores f may who v
  stores_none Close m f on may who v = reclaiming_stores f may who v
  stores_none _ m f on may who v = absurd (cc on)

  pub each_stores : (event : Event K V) (m : Moment K V) → is_of_slots event ≡ true → (who : Option (List ℕ)) (acted : Option ℕ) (effects : List Effect) (v : Moment K V)
      → list_all (may_do event m) effects ≡ true → AtEachEffect (StoresOne who) who acted effects v
  each_stores event m on who acted [] v may = tt
  each_stores event m on who acted (f ∷ effects) v may =
      let each = and_both (may_do event m f) (list_all (may_do event m) effects) may in
      (stores_none event m f on each.0 who v, each_stores event m on who acted effects (with_effect who acted f v) each.1)

-- The moment after it is like the moment after its effects.

module _ {K V : Type 0} (log : List (Entry K V)) (outcome : Outcome V) (steps : ℕ) (effects : List Effect) where
  abbrev done : Moment K V
  done = with_effects None None effects (moment log)

  abbrev at_end : Event K V → Moment K V
  at_end event = after (record { event = event; outcome = outcome; steps = steps; effects = effects }) (moment log)

  pub like : (event : Event K V) → is_of_slots event ≡ true → IsLike done (at_end event)
  like (Register registration) on = refl
  like (Unregister registration) on = refl
  like (Enter guard registration) on = refl
  like (Own guard) on = refl
  like (Refresh guard) on = refl
  like (Flush guard) on = refl
  like (DropGuard guard) on = refl
  like ReclaimAll on = refl
  like Close on = refl
  like _ on = absurd (cc on)

pub slot_events_end_so : (K V : Type 0) (same : K → K → Bool) → SlotEventsEnd K V same
slot_events_end_so K V same name terms log i called first began m known before s e midst run right but sections follows reclaims =
    runs_go_on K V same name name terms log first known before s run e right but.life
    (each_stores e.event (moment log) midst.of_slots (caller_of e.event) (acted_on e.event (at_work e (moment log))) e.effects (at_work e (moment log)) but.life.may) reclaims
    (likes_show K V same name (past log) m (moment (e ∷ log)) known s midst.calls is_like) (reading_like name log (λ j. 0) m (moment (e ∷ log)) s midst.reading is_like) sections (λ alone. inl (follows alone))
  where
    is_like : IsLike m (moment (e ∷ log))
    is_like = subst (λ (x : Moment K V). IsLike x (moment (e ∷ log))) (sym midst.worked) (like log e.outcome e.steps e.effects e.event midst.of_slots)
