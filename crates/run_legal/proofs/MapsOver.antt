-- An event that makes a map, or ends one, begins, is by the model, and once it is over a run goes on.
use Rattle.std.specs.Prelude.{◌≡◌, ℕ, Bool, true, List, [], ◌∷◌, flat_map, Option, Some, None}
use Rattle.std.specs.List.{list_all}
use Rattle.std.proofs.Common.{refl, ap, sym, subst, ◌∙◌, inl, inr}
use Rattle.std.proofs.lemmas.Bool.{cases_eq}
use Rattle.run_grows.specs.Given.RunsDeclared.effect.Effect.{Effect}
use Rattle.run_grows.specs.Given.RunsDeclared.effect.Effect.TheVariants.{Asked, TableMade, Linked, Ended, Taken}
use Rattle.run_grows.specs.Given.RunsDeclared.effect.Growth.TheVariants.{ABlock}
use Rattle.run_grows.specs.Given.RunsDeclared.event.Event.TheVariants.{MakeMap, EndMap}
use Rattle.run_grows.specs.Given.RunsDeclared.outcome.Outcome.TheVariants.{Done}
use Rattle.run_grows.specs.Given.SchedulesAfter.{moment, remains_on}
use Rattle.run_grows.specs.Given.SchedulesBeginning.{at_work, with_map}
use Rattle.run_grows.specs.Given.SchedulesEffects.{with_effect, with_effects, AtEachEffect, worked}
use Rattle.run_grows.specs.Given.SchedulesEntry.{Entry, acted_on}
use Rattle.run_grows.specs.Given.SchedulesHanding.{is_ending, is_first_making, may_do}
use Rattle.run_grows.specs.Given.SchedulesModel.{changes_of, handing, left_last, sets_in, things_in}
use Rattle.run_grows.specs.Given.SchedulesMoment.{Moment}
use Rattle.run_grows.proofs.Given.CallersTogether.At.{at_other, at_same}
use Rattle.run_grows.specs.Given.FinishesMaps.{Standing}
use Rattle.run_grows.specs.Given.OthersEndings.{without_map}
use Rattle.run_grows.specs.Given.PromisesReading.{HasStood, RefinesReadings}
use Rattle.run_grows.specs.Given.PromisesSheltered.{SectionsHold}
use Rattle.run_grows.proofs.Given.PromisesBrief.Meanwhile.{other_work_keeps_readings, stands_so}
use Rattle.run_grows.proofs.Given.PromisesShelters.Begins.{sections_go_on}
use Rattle.run_grows.specs.Given.ModelsCallEvents.{slot_of_call}
use Rattle.run_grows.specs.Given.ModelsFollows.{IsFollowed}
use Rattle.run_grows.proofs.Given.ModelsCallEvents.{others_hand_over}
use Rattle.run_grows.proofs.Given.ModelsEnds.{ends_begin as sets_begin}
use Rattle.run_grows.proofs.Given.LivesLeftTables.{none_is_left_to}
use Rattle.run_grows.proofs.Given.ModelsMapEvents.{end_events_end as sets_end, making_events_begin as making_sets_begin, making_events_end as making_sets_end}
use Rattle.run_grows.specs.Given.ShardsShardWords.{IsUncounted}
use Rattle.run_grows.specs.Given.FindsLife.{StoresOne}
use Rattle.run_legal.specs.Between.{IsLike}
use Rattle.run_legal.specs.Carried.{IsSequential, RefinesAllCalls}
use Rattle.run_legal.specs.Over.{EndEventsBegin, EndEventsEnd, EndEventsFollow, MakingEventsBegin, MakingEventsEnd, MakingEventsFollow}
use Rattle.run_legal.proofs.Between.{likes_show}
use Rattle.run_legal.proofs.BetweenMaps.{ends_begin, makings_begin, maps_come, maps_gone}
use Rattle.run_legal.proofs.CallFollows.{by_model_so, of_no_slot, was_alone}
use Rattle.run_grows.specs.Sources.Stays.{NoneBorn}
use Rattle.run_legal.proofs.Sourced.{none_born}
use Rattle.run_legal.proofs.Over.{reading_like, runs_go_on}
use Rattle.run_grows.specs.Given.ScenesEnding.{ending_begun}
use Rattle.run_grows.specs.Given.SchedulesTransition.{past}
use Rattle.run_grows.proofs.Given.General.{both_true as and_both}

-- The beginnings.

module _ (K V : Type 0) (same : K → K → Bool) (hash : ℕ → K → ℕ) where
  pub making_events_begin_so : MakingEventsBegin K V same hash
  making_events_begin_so name terms log known s old new at run own mode capacity there number i b idle map_is not_made before at2 = (
    record {
      of_maps = refl;
      calls = makings_begin K V same hash name (past log) (with_map there (moment log)) known s old new at come.0 i b idle not_made
          (subst (λ (n : ℕ). IsUncounted n (with_map there (moment log))) (sym map_is) come.1) at2;
      reading = record { past = run.reading.past; begun = run.reading.begun; reads = run.reading.reads };
      worked = refl;
      granted = refl;
      protects = record { inside = hold.0; sheltered = hold.1; spared = refl };
    },
    λ alone. making_sets_begin K V terms.batch_size terms.roots (things_in log) (sets_in terms.batch_size log) known s.world (before alone),
    subst (λ (n : ℕ). NoneBorn n (with_map there (moment log))) (sym map_is) (none_born K V (moment log) run.order.0 run.calls.numbers.0 there number),
  )
    where
      come : RefinesAllCalls same name (past log) (with_map there (moment log)) known s × IsUncounted there.number (with_map there (moment log))
      come = maps_come K V same hash name (past log) (moment log) known s old at run.calls there number

      hold : SectionsHold (with_map there (moment log)) known s.world
      hold = (sections_go_on K V (moment log) known s.world run.sections).1.comes there

  pub end_events_begin_so : EndEventsBegin K V same hash
  end_events_begin_so name terms log known s old new at run small own map i standing there idle at2 before = (
    record {
      of_maps = refl;
      calls = ends_begin K V same hash name (past log) (moment log) known s old new at run.calls map i standing there idle at2;
      reading = other_work_keeps_readings K V name (past log) (λ j. 0) (moment log) s (ending_begun map i standing s) (Some map) [] (λ n j x is. is) (λ n j x is st stands. stood n st stands) run.reading;
      worked = refl;
      granted = refl;
      protects = record { inside = hold.0; sheltered = hold.1; spared = refl };
    },
    λ alone. sets_begin K V terms.batch_size terms.roots (things_in log) (sets_in terms.batch_size log) known s.world small (before alone) (moment log) run.calls.whole.all.shown.blocks i
        standing.setting.counter,
  )
    where
      hold : SectionsHold (moment log) known (ending_begun map i standing s).world
      hold = (sections_go_on K V (moment log) known s.world run.sections).1.ends standing.setting.counter

      -- each map that stands still stood as it does
      stood : (n : ℕ) (st : Standing K) → (ending_begun map i standing s).maps n ≡ Some st → HasStood s.maps n st
      stood n st stands = elim (cases_eq n map) as (λ _. HasStood s.maps n st) [
        | inl e ↦ absurd (let gone = at_same s.maps map None n e in cc (gone, stands))
        | inr ne ↦ stands_so s.maps n st (sym (at_other s.maps map None n ne) ∙ stands)
      ]

module _ (K V : Type 0) (same : K → K → Bool) where
  pub making_events_follow : MakingEventsFollow K V same
  making_events_follow name terms log map beginning m known s e midst busy =
      (by_model_so terms log e busy (λ alone. (over alone).0), λ alone. (over (was_alone terms log e busy alone)).1)
    where
      hands : (changes_of log e ≡ flat_map (handing (things_in (e ∷ log)) (slot_of_call e.event (at_work e (moment log)))) e.effects) × (left_last e.event e.outcome (moment log) ≡ [])
      hands = others_hand_over K V log e (of_no_slot e.event midst.0.of_maps)

      over : IsSequential e.event log → IsFollowed terms log e known s.world
      over alone = making_sets_end K V terms log e (slot_of_call e.event (at_work e (moment log))) known s.world (midst.1 alone) hands.0 hands.1

  pub end_events_follow : EndEventsFollow K V same
  end_events_follow name terms log map beginning m first known i s e midst small once ended busy =
      (by_model_so terms log e busy (λ alone. (over alone).0), λ alone. (over (was_alone terms log e busy alone)).1)
    where
      hands : (changes_of log e ≡ flat_map (handing (things_in (e ∷ log)) (slot_of_call e.event (at_work e (moment log)))) e.effects) × (left_last e.event e.outcome (moment log) ≡ [])
      hands = others_hand_over K V log e (of_no_slot e.event midst.0.of_maps)

      over : IsSequential e.event log → IsFollowed terms log e known s.world
      over alone = sets_end K V terms log e (slot_of_call e.event (at_work e (moment log))) i first known s.world small once (midst.1 alone) m midst.0.calls.whole.all.shown.blocks
          (none_is_left_to K V known s midst.0.calls.kept.left i ended) hands.0 hands.1

-- Their effects store nothing.

module _ {K V : Type 0} (who : Option (List ℕ)) (acted : Option ℕ) where
  making_stores : (f : Effect) → is_first_making f ≡ true → (v : Moment K V) → StoresOne who v f
  making_stores (Asked ABlock) is v = tt
  making_stores (TableMade t) is v = tt
  making_stores (Linked t shape) is v = tt
  making_stores _ is v = absurd (cc is)

  ending_stores : (f : Effect) → is_ending f ≡ true → (v : Moment K V) → StoresOne who v f
  ending_stores (Ended n) is v = tt
  ending_stores (Taken t) is v = tt
  ending_stores _ is v = absurd (cc is)

  each_store : (may : Effect → Bool) → ((f : Effect) → may f ≡ true → (v : Moment K V) → StoresOne who v f) → (effects : List Effect) (v : Moment K V) → list_all may effects ≡ true
      → AtEachEffect (StoresOne who) who acted effects v
  each_store may one [] v all = tt
  each_store may one (f ∷ effects) v all =
      let both = and_both (may f) (list_all may effects) all in (one f both.0 v, each_store may one effects (with_effect who acted f v) both.1)

module _ (K V : Type 0) (same : K → K → Bool) where
  pub making_events_end_so : MakingEventsEnd K V same
  making_events_end_so name terms log map beginning m first known before s own mode capacity outcome steps effects midst begins acted run right life sections follows =
      runs_go_on K V same name name terms log first known before s run e right life
      (each_store None (acted_on e.event (at_work e (moment log))) (may_do e.event (moment log)) (making_stores None (acted_on e.event (at_work e (moment log)))) effects (at_work e (moment log)) life.may) tt
      (likes_show K V same name (past log) m (moment (e ∷ log)) known s midst.calls like) (reading_like name log (λ j. 0) m (moment (e ∷ log)) s midst.reading like) sections (λ alone. inl (follows alone))
    where
      e : Entry K V
      e = record { event = MakeMap own mode capacity; outcome = outcome; steps = steps; effects = effects }

      worked_is : worked e (moment log) ≡ m
      worked_is = ap (λ (b : Moment K V). with_effects None (acted_on e.event b) effects b) begins ∙ ap (λ (o : Option ℕ). with_effects None o effects beginning) acted ∙ sym midst.worked

      like : IsLike m (moment (e ∷ log))
      like = subst (λ (x : Moment K V). IsLike x (moment (e ∷ log))) worked_is refl

module _ (K V : Type 0) (same : K → K → Bool) (hash : ℕ → K → ℕ) where
  pub end_events_end_so : EndEventsEnd K V same hash
  end_events_end_so name terms log map m first known before s x at own steps effects midst number apart run right life sections follows =
      runs_go_on K V same name name terms log first known before s run e right life
      (each_store None (acted_on e.event (moment log)) (may_do e.event (moment log)) (ending_stores None (acted_on e.event (moment log))) effects (moment log) life.may) tt
      (likes_show K V same name (past log) gone (moment (e ∷ log)) known s shown like) (reading_like name log (λ j. 0) gone (moment (e ∷ log)) s reading like) sections (λ alone. inl (follows alone))
    where
      e : Entry K V
      e = record { event = EndMap own; outcome = Done; steps = steps; effects = effects }

      gone : Moment K V
      gone = without_map own (remains_on e.event Done effects (moment log)) m

      shown : RefinesAllCalls same name (past log) gone known s
      shown = maps_gone K V same hash name (past log) m known s x at midst.calls own (remains_on e.event Done effects (moment log)) apart

      reading : RefinesReadings name (past log) (λ j. 0) gone s
      reading = record { past = midst.reading.past; begun = midst.reading.begun; reads = midst.reading.reads }

      worked_is : worked e (moment log) ≡ m
      worked_is = ap (λ (o : Option ℕ). with_effects None o effects (moment log)) number ∙ sym midst.worked

      like : IsLike gone (moment (e ∷ log))
      like = subst (λ (y : Moment K V). IsLike (without_map own (remains_on e.event Done effects (moment log)) y) (moment (e ∷ log))) worked_is refl
