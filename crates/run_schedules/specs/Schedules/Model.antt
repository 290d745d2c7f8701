-- What is reclaimed by the waiting-set model, where calls come one after another. The model knows pairs and tables by the order in which they came.
use Rattle.std.specs.Prelude.{◌≡◌, ℕ, suc, List, [], ◌∷◌, ◌++◌, map, flat_map, Option, Some, None, if◌then◌else◌, MatchBool}
use Rattle.papaya_raw.specs.Given.SeizeWaitingSets.{Change, Enters, Leaves, Refreshes, Retires, Flushes, Defers, Ends, ReclaimsAll, Sets, at_start, all_changed}
use Rattle.run_schedules.specs.Runs.Log.{if_first, if_only}
use Rattle.run_schedules.specs.Runs.Present.{slot_of_registration, slot_of_guard}
use Rattle.run_schedules.specs.declared.event.Event.{Event}
use Rattle.run_schedules.specs.declared.event.Event.TheVariants.{Enter, Own, Refresh, Flush, DropGuard, ReclaimAll, Close}
use Rattle.run_schedules.specs.declared.outcome.Outcome.{Outcome}
use Rattle.run_schedules.specs.declared.outcome.Outcome.TheVariants.{Done, Slot}
use Rattle.run_schedules.specs.declared.effect.Effect.{Effect}
use Rattle.run_schedules.specs.declared.effect.Effect.TheVariants.{Stored, Linked, Deferred, Retired, Reclaimed, Taken}
use Rattle.run_schedules.specs.declared.effect.Thing.{Thing}
use Rattle.run_schedules.specs.declared.effect.Thing.TheVariants.{APair, ATable}
use Rattle.run_schedules.specs.Schedules.Things.{same_thing}
use Rattle.run_schedules.specs.Schedules.Terms.{Terms}
use Rattle.run_schedules.specs.Schedules.Moment.{UnderWay, Moment}
use Rattle.run_schedules.specs.Schedules.Entry.{Entry, caller_of, acting}
use Rattle.run_schedules.specs.Schedules.Beginning.{at_work}
use Rattle.run_schedules.specs.Schedules.After.{after, moment}

-- pairs and tables that came into maps
abbrev pub came : Effect → List Thing
came (Stored n s) = APair n ∷ []
came (Linked t shape) = ATable t ∷ []
came _ = []

-- what an effect reclaims that was handed to the collector
abbrev pub thing_back : Effect → List Thing
thing_back (Reclaimed x) = x ∷ []
thing_back _ = []

-- the how manieth of these things it is
abbrev pub number_in : List Thing → Thing → ℕ
number_in [] x = 0
number_in (y ∷ things) x = if same_thing x y then 0 else suc (number_in things x)

-- what an effect hands over, under this slot
abbrev pub handing : List Thing → ℕ → Effect → List Change
handing things slot (Retired x) = Retires slot (number_in things x) ∷ []
handing things slot (Deferred n t) = Defers (number_in things (APair n)) (number_in things (ATable t)) ∷ []
handing things slot (Taken t) = Ends (number_in things (ATable t)) ∷ []
handing things slot _ = []

module _ {K V : Type 0} where
  -- all that ever came into maps, in order
  abbrev pub things_in : List (Entry K V) → List Thing
  things_in [] = []
  things_in (e ∷ log) = things_in log ++ flat_map came e.effects

  abbrev pub guard_or : Option (UnderWay K V) → List ℕ
  guard_or None = []
  guard_or (Some c) = c.guard

  -- what an event is to the waiting sets: a slot is entered by the first guard there, and left and refreshed by the only one
  abbrev pub changes_by : List Thing → Event K V → Outcome V → List Effect → Moment K V → List Change
  changes_by things (Enter guard registration) Done effects m = let s = slot_of_registration registration m.there in if_first s m.there (Enters s ∷ [])
  changes_by things (Own guard) (Slot s) effects m = Enters s ∷ []
  changes_by things (DropGuard guard) Done effects m = let s = slot_of_guard guard m.there in if_only s m.there (Leaves s ∷ [])
  changes_by things (Refresh guard) Done effects m = let s = slot_of_guard guard m.there in if_only s m.there (Refreshes s ∷ [])
  changes_by things (Flush guard) Done effects m = Flushes (slot_of_guard guard m.there) ∷ []
  changes_by things ReclaimAll Done effects m = ReclaimsAll ∷ []
  changes_by things Close Done effects m = ReclaimsAll ∷ []
  changes_by things event outcome effects m = flat_map (handing things (slot_of_guard (guard_or (acting (caller_of event) m)) m.there)) effects

  abbrev pub changes_of : List (Entry K V) → Entry K V → List Change
  changes_of log e = changes_by (things_in (e ∷ log)) e.event e.outcome e.effects (at_work e (moment log))

  abbrev pub sets_in : ℕ → List (Entry K V) → Sets
  sets_in batch_size [] = at_start
  sets_in batch_size (e ∷ log) = (all_changed batch_size (changes_of log e) (sets_in batch_size log)).sets

  -- where everything is reclaimed, what ended maps left over comes last, by root
  abbrev pub all_left : Moment K V → List Thing
  all_left m = flat_map (λ r. map APair r.pairs) m.remains

  abbrev pub left_last : Event K V → Outcome V → Moment K V → List Thing
  left_last ReclaimAll Done m = all_left m
  left_last Close Done m = all_left m
  left_last _ _ m = []

  -- the numbers of the things that an event reclaims by the model
  abbrev pub back_by_model : ℕ → List (Entry K V) → Entry K V → List ℕ
  back_by_model batch_size log e =
      (all_changed batch_size (changes_of log e) (sets_in batch_size log)).reclaimed
      ++ map (number_in (things_in (e ∷ log))) (left_last e.event e.outcome (moment log))

module _ {K V : Type 0} (terms : Terms) where
  -- As long as calls come one after another, an event reclaims what the model reclaims, in that order.
  abbrev pub IsByModel : List (Entry K V) → Entry K V → Type 0
  IsByModel log e =
      MatchBool (after e (moment log)).is_alone
      (map (number_in (things_in (e ∷ log))) (flat_map thing_back e.effects) ≡ back_by_model terms.batch_size log e)
      (Unit {0})
