-- What was given back at a moment, and what an event gives back, are what was given back at the moment after it.
use Rattle.std.specs.Prelude.{◌≡◌, ℕ, zero, suc, Bool, true, false, List, [], ◌∷◌, ◌++◌, flat_map, Option, Some, None, if◌then◌else◌}
use Rattle.std.specs.List.{AllByRecursion}
use Rattle.std.proofs.Common.{refl, sym, ap, ◌∙◌, append_assoc}
use Rattle.std.proofs.lemmas.List.{append-nil}
use Rattle.run_schedules.specs.declared.ended.Pair.{Pair}
use Rattle.run_schedules.specs.Runs.Log.{pair_at}
use Rattle.run_schedules.specs.Runs.Pairs.{numbers}
use Rattle.run_schedules.specs.Runs.Runs.{IsStored}
use Rattle.run_schedules.proofs.Runs.Pairs.Held.{numbers-append}
use Rattle.run_schedules.specs.declared.call.Call.{Call}
use Rattle.run_schedules.specs.declared.effect.Effect.{Effect}
use Rattle.run_schedules.specs.declared.effect.Effect.TheVariants as effect
use Rattle.run_schedules.specs.declared.event.Event.{Event}
use Rattle.run_schedules.specs.declared.event.Event.TheVariants.{Begin, MakeMap, OneCall}
use Rattle.run_schedules.specs.declared.outcome.Outcome.{Outcome}
use Rattle.run_schedules.specs.declared.outcome.Outcome.TheVariants.{Done, Goes}
use Rattle.run_schedules.specs.Schedules.After.{after}
use Rattle.run_schedules.specs.Schedules.Beginning.{begun, with_call}
use Rattle.run_schedules.specs.Schedules.Effects.{new_pair, pairs_back, stored_by, with_effect, with_effects}
use Rattle.run_schedules.specs.Schedules.Entry.{Entry, acted_on, acting, caller_of, is_busy, nameless}
use Rattle.run_schedules.specs.Schedules.Moment.{UnderWay, Moment}
use Rattle.run_schedules.specs.Schedules.Views.{number_of}
use Rattle.run_effects.specs.Tallies.Told.{AreBack}
use Rattle.run_schedules.proofs.Given.General.{all_append as joined}

module _ {K V : Type 0} where
  -- a pair that was stored stays what it is as further ones are
  grown : (stored more : List (K × V)) (n : ℕ) (x : K × V) → pair_at stored n ≡ Some x → pair_at (stored ++ more) n ≡ Some x
  grown stored more zero x is = is
  grown [] more (suc k) x is = absurd (cc is)
  grown (y ∷ stored) more (suc zero) x is = is
  grown (y ∷ stored) more (suc (suc k)) x is = grown stored more (suc k) x is

  -- of the second moment all pairs are as they were stored that are so of the first
  abbrev pub StoresMore : List (K × V) → List (K × V) → Type 0
  StoresMore stored stored2 = (n : ℕ) (x : K × V) → pair_at stored n ≡ Some x → pair_at stored2 n ≡ Some x

  by_effect : (o : Option (UnderWay K V)) (f : Effect) (stored : List (K × V)) → StoresMore stored (stored_by o f stored)
  by_effect (Some c) (effect.Stored n s) stored k x is = grown stored (new_pair c.call c n) k x is
  by_effect None (effect.Stored n s) stored k x is = is
  by_effect None _ stored k x is = is
  by_effect (Some c) _ stored k x is = is

  by_effects : (caller : Option (List ℕ)) (map : Option ℕ) (effects : List Effect) (m : Moment K V) → StoresMore m.stored (with_effects caller map effects m).stored
  by_effects caller map [] m n x is = is
  by_effects caller map (f ∷ effects) m n x is = by_effects caller map effects (with_effect caller map f m) n x (by_effect (acting caller m) f m.stored n x is)

  -- what effects give back follows what was given back
  back_by : (caller : Option (List ℕ)) (map : Option ℕ) (effects : List Effect) (m : Moment K V) → (with_effects caller map effects m).given_back ≡ m.given_back ++ flat_map pairs_back effects
  back_by caller map [] m = sym (append-nil m.given_back)
  back_by caller map (f ∷ effects) m = back_by caller map effects (with_effect caller map f m) ∙ append_assoc m.given_back (pairs_back f) (flat_map pairs_back effects)

  -- what begins has no part in it
  abbrev pub Same : Moment K V → Moment K V → Type 0
  Same v m = (v.stored ≡ m.stored) × (v.given_back ≡ m.given_back)

  called : (own guard : List ℕ) (call : Call K V) (number : Option ℕ) (m : Moment K V) → Same (with_call own guard call number m) m
  called own guard call None m = (refl, refl)
  called own guard call (Some k) m = (refl, refl)

  begins : (event : Event K V) (o : Outcome V) (m : Moment K V) → Same (begun event o m) m
  begins (Begin caller guard map call) Goes m = called caller guard call (number_of map m) m
  begins (MakeMap map mode capacity) Done m = (refl, refl)
  begins (OneCall guard map call) o m = by (is_busy o)
    where
      by : (b : Bool) → Same (if b then m else with_call nameless guard call (number_of map m) m) m
      by true = (refl, refl)
      by false = called nameless guard call (number_of map m) m
  begins _ o m = (refl, refl)

  module _ (e : Entry K V) (m : Moment K V) where
    abbrev b : Moment K V
    b = begun e.event e.outcome m

    stores_more : StoresMore m.stored (after e m).stored
    stores_more n x is =
        by_effects (caller_of e.event) (acted_on e.event b) e.effects b n x (ap (λ (l : List (K × V)). pair_at l n) (begins e.event e.outcome m).0 ∙ is)

    still_stored : (pairs : List (Pair K V)) → AllByRecursion (IsStored m.stored) pairs → AllByRecursion (IsStored (after e m).stored) pairs
    still_stored [] all = tt
    still_stored (p ∷ pairs) all = (stores_more p.number (p.key, p.value) all.0, still_stored pairs all.1)

    -- these pairs, and then those that come back by the event
    pub back_then : (pairs more : List (Pair K V)) → AreBack m pairs → numbers more ≡ flat_map pairs_back e.effects → AllByRecursion (IsStored m.stored) more → AreBack (after e m) (pairs ++ more)
    back_then pairs more back reclaimed contents = record {
      told =
          numbers-append pairs more ∙ ap (λ (l : List ℕ). l ++ numbers more) (back.told ∙ sym (begins e.event e.outcome m).1)
          ∙ ap (λ (l : List ℕ). b.given_back ++ l) reclaimed ∙ sym (back_by (caller_of e.event) (acted_on e.event b) e.effects b);
      contents = still_stored (pairs ++ more) (joined (IsStored m.stored) pairs more back.contents contents);
    }
