-- The waiting sets of the collector are those of the model at first, and stay so by an event that does nothing to them.
use Rattle.std.specs.Prelude.{flat_map, map, MatchBool}
use Rattle.std.proofs.Common.{◌≡◌, Bool, true, false, List, [], ◌∷◌, ◌++◌, ap, sym, ◌∙◌}
use Rattle.std.proofs.lemmas.List.{append-nil}
use Rattle.seize.specs.WaitingSets.{Change, all_changed}
use Rattle.run_schedules.specs.Schedules.After.{after, moment}
use Rattle.run_schedules.specs.Schedules.Entry.{Entry}
use Rattle.run_schedules.specs.Schedules.Model.{IsByModel, came, thing_back, number_in, things_in, sets_in, changes_of, left_last, back_by_model}
use Rattle.run_schedules.specs.Schedules.Terms.{Terms}
use Rattle.run_schedules.specs.declared.effect.Effect.{Effect}
use Rattle.run_schedules.specs.declared.effect.Thing.{Thing}
use Rattle.run_kept.specs.Models.Follows.{IdleEventsFollow}

-- what is so is so in each case
pub if_alone : (q : Bool) (A : Type 0) → A → MatchBool q A (Unit {0})
if_alone true A a = a
if_alone false A a = tt

module _ {K V : Type 0} (terms : Terms) (log : List (Entry K V)) (e : Entry K V) where
  -- an event by which nothing came leaves things as they were
  pub same_things : flat_map came e.effects ≡ [] → things_in (e ∷ log) ≡ things_in log
  same_things none = ap (λ (xs : List Thing). things_in log ++ xs) none ∙ append-nil (things_in log)

  -- It is by the model, if it reclaimed so, by the changes that it is.
  pub by_model : (changes : List Change) → changes_of log e ≡ changes → left_last e.event e.outcome (moment log) ≡ []
      → map (number_in (things_in (e ∷ log))) (flat_map thing_back e.effects) ≡ (all_changed terms.batch_size changes (sets_in terms.batch_size log)).reclaimed → IsByModel terms log e
  by_model changes are none_left back = if_alone (after e (moment log)).is_alone _ (back ∙ sym model)
    where
      model : back_by_model terms.batch_size log e ≡ (all_changed terms.batch_size changes (sets_in terms.batch_size log)).reclaimed
      model =
          ap (λ (cs : List Change). (all_changed terms.batch_size cs (sets_in terms.batch_size log)).reclaimed ++ map (number_in (things_in (e ∷ log))) (left_last e.event e.outcome (moment log))) are
          ∙ ap (λ (xs : List Thing). (all_changed terms.batch_size changes (sets_in terms.batch_size log)).reclaimed ++ map (number_in (things_in (e ∷ log))) xs) none_left
          ∙ append-nil (all_changed terms.batch_size changes (sets_in terms.batch_size log)).reclaimed

  -- and these are the sets then
  pub sets_then : (changes : List Change) → changes_of log e ≡ changes → (all_changed terms.batch_size changes (sets_in terms.batch_size log)).sets ≡ sets_in terms.batch_size (e ∷ log)
  sets_then changes are = ap (λ (cs : List Change). (all_changed terms.batch_size cs (sets_in terms.batch_size log)).sets) (sym are)

pub idle_events_follow : (K V : Type 0) → IdleEventsFollow K V
idle_events_follow K V terms log e idle none none_left = (
  by_model terms log e [] none none_left (ap (λ (xs : List Effect). map (number_in (things_in (e ∷ log))) (flat_map thing_back xs)) idle),
  same_things terms log e (ap (flat_map came) idle),
  sym (sets_then terms log e [] none),
)
