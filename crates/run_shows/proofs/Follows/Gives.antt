-- What a step of a call has to store, by what it has changed of the pairs of its map; and that what moves no pair stores none.
use Rattle.std.specs.Prelude.{◌≡◌, ℕ, suc, ◌<◌, true, false, List, [], ◌∷◌, Option, Some}
use Rattle.seize_words.specs.OneMemory.Mem.{Mem, value_at}
use Rattle.run_effects.specs.Given.TablesDeclared.node.Node.{Node}
use Rattle.run_effects.specs.Given.RunsDeclared.effect.Effect.{Effect}
use Rattle.run_effects.specs.Given.RunsDeclared.effect.Effect.TheVariants.{Asked, PairMade, PairGivenUp, TableMade, TableGivenUp, Linked, Promoted, Copied, Stored, Replaced, Removed, Counted, Deferred, Retired, Reclaimed, Ended, Taken}
use Rattle.run_effects.specs.Given.SchedulesEntry.{acting}
use Rattle.run_effects.specs.Given.SchedulesEffects.{with_effect, AtEachEffect}
use Rattle.run_effects.specs.Given.SchedulesMoment.{UnderWay, Moment}
use Rattle.run_effects.specs.Given.RuleChart.{Chart}
use Rattle.run_shows.specs.Follows.Steps.{HasToStore, HasPair}
use Rattle.run_shows.proofs.Follows.Alike.{is_still, AllStill}

module _ {K V : Type 0} (map : ℕ) (name : Option (List ℕ)) (number : ℕ → ℕ) (c c2 : Chart K) (new : ℕ) (m : Moment K V) (memory memory2 : Mem (Node K V)) where
  -- Where one pair more has come, which this block holds, the call has to store it: none of the others has left, or one has, in whose place it stands.
  pub record Gives : Type 0 where
    pub stored : c2.stored ≡ suc c.stored → c2.current c.stored ≡ true → ((o : ℕ) → o < c.stored → c2.current o ≡ c.current o)
        → ((b : ℕ) → value_at memory2 b ≡ value_at memory b) → (n : ℕ) → HasToStore memory new (acting name m) n
    pub replaced : c2.stored ≡ suc c.stored → c2.current c.stored ≡ true → (p : ℕ) → p < c.stored → c.current p ≡ true → c2.current p ≡ false
        → ((b : ℕ) → value_at memory2 b ≡ value_at memory b) → (n : ℕ) → HasToStore memory new (acting name (with_effect name (Some map) (Replaced (number p)) m)) n

module _ {K V : Type 0} (memory : Mem (Node K V)) (b : ℕ) where
  still_none : (o : Option (UnderWay K V)) (f : Effect) → is_still f ≡ true → HasPair memory b o f
  still_none o (Asked growth) e = tt
  still_none o PairMade e = tt
  still_none o PairGivenUp e = tt
  still_none o (TableMade t) e = tt
  still_none o (TableGivenUp t) e = tt
  still_none o (Linked t shape) e = tt
  still_none o (Promoted t) e = tt
  still_none o (Copied n s) e = tt
  still_none o (Stored n s) e = absurd (cc e)
  still_none o (Replaced n) e = tt
  still_none o (Removed n) e = tt
  still_none o (Counted s) e = tt
  still_none o (Deferred n t) e = tt
  still_none o (Retired x) e = tt
  still_none o (Reclaimed x) e = tt
  still_none o (Ended n) e = tt
  still_none o (Taken t) e = tt

  -- such effects store none
  pub stores_none : (name : Option (List ℕ)) (map : Option ℕ) (effects : List Effect) (m : Moment K V) → AllStill effects → AtEachEffect (λ v f. HasPair memory b (acting name v) f) name map effects m
  stores_none name map [] m all = tt
  stores_none name map (f ∷ effects) m all = (still_none (acting name m) f all.0, stores_none name map effects (with_effect name map f m) all.1)
