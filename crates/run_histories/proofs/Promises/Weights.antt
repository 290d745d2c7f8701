-- An operation does one thing at most, and what it makes it has asked for.
use Rattle.std.specs.Prelude.{◌≡◌, ℕ, Bool, true, false, List, [], ◌∷◌, ◌++◌}
use Rattle.std.proofs.Common.{refl, arith}
use Rattle.std.proofs.lemmas.List.Sums.{sum_by-append}
use Rattle.run_places.specs.Given.RunsDeclared.effect.Effect.{Effect}
use Rattle.run_places.specs.Given.RunsDeclared.effect.Effect.TheVariants.{Asked, PairMade, PairGivenUp, TableMade, TableGivenUp, Linked, Promoted, Copied, Stored, Replaced, Removed, Counted, Deferred, Retired, Reclaimed, Ended, Taken}
use Rattle.run_places.specs.Given.RunsDeclared.effect.TableId.{TableId}
use Rattle.run_places.specs.Given.SchedulesHanding.{is_granted}
use Rattle.run_places.specs.Given.SchedulesSteps.{weight}
use Rattle.run_places.specs.Given.EffectsEffects.{pair_taken, table_taken}
use Rattle.run_places.specs.Given.EffectsKnown.{Known}
use Rattle.run_places.specs.Given.EffectsDeclared.acting.Acting.{Acting}
use Rattle.run_places.specs.Given.EffectsDeclared.acting.Acting.TheVariants.{Ending}
use Rattle.run_histories.specs.Promises.Weights.{AreDoneBy, OperationsAreSingle, PartsAddUp, GrantsAddUp}
use Rattle.run_places.proofs.Given.FollowsOfEach.{OfEach, each_operation_so}

abbrev IsOne : List Effect → Type 0
IsOne effects = AreDoneBy 1 effects × (is_granted false effects ≡ true)

each_one : (acting : Acting) (known : Known) → OfEach acting known IsOne
each_one acting known = record {
  nothing = (omega arith, refl);
  linked = λ turn shape. (omega arith, refl);
  deferred = λ n t. (omega arith, refl);
  stored = λ s. (omega arith, refl);
  replaced = λ old s. (omega arith, refl);
  removed = λ n. (omega arith, refl);
  copied = λ n s. (omega arith, refl);
  retired = λ x. (omega arith, refl);
  asked = (omega arith, refl);
  pair_made = (omega arith, refl);
  table_made = λ turn. (omega arith, refl);
  pair_given_up = (omega arith, refl);
  table_given_up = λ turn. (omega arith, refl);
}

pair_one : (acting : Acting) (n : ℕ) → IsOne (pair_taken acting n ∷ [])
pair_one (Ending map) n = (omega arith, refl)
pair_one _ n = (omega arith, refl)

table_one : (acting : Acting) (t : TableId) → IsOne (table_taken acting t ∷ [])
table_one (Ending map) t = (omega arith, refl)
table_one _ t = (omega arith, refl)

pub operations_are_single : OperationsAreSingle
operations_are_single acting known told =
    each_operation_so acting known IsOne (each_one acting known) (λ t. (omega arith, refl)) (λ field. (omega arith, refl)) (pair_one acting) (table_one acting) (omega arith, refl) told

pub parts_add_up : PartsAddUp
parts_add_up steps further effects more few others = let e = sum_by-append weight effects more in omega (arith, e, few, others)

-- what was asked for is granted still where more was asked for
more_asked : (effects : List Effect) → is_granted false effects ≡ true → is_granted true effects ≡ true
more_asked [] e = refl
more_asked (Asked growth ∷ effects) e = e
more_asked (PairMade ∷ effects) e = absurd (cc e)
more_asked (TableMade t ∷ effects) e = absurd (cc e)
more_asked (_ ∷ effects) e = e

pub grants_add_up : GrantsAddUp
grants_add_up effects more one other = both false effects one
  where
    both : (asked : Bool) (effects : List Effect) → is_granted asked effects ≡ true → is_granted asked (effects ++ more) ≡ true
    both true [] e = more_asked more other
    both false [] e = other
    both asked (Asked growth ∷ effects) e = both true effects e
    both true (PairMade ∷ effects) e = both false effects e
    both false (PairMade ∷ effects) e = absurd (cc e)
    both true (TableMade t ∷ effects) e = both false effects e
    both false (TableMade t ∷ effects) e = absurd (cc e)
    both asked (PairGivenUp ∷ effects) e = both false effects e
    both asked (TableGivenUp t ∷ effects) e = both false effects e
    both asked (Linked t shape ∷ effects) e = both false effects e
    both asked (Promoted t ∷ effects) e = both false effects e
    both asked (Copied n s ∷ effects) e = both false effects e
    both asked (Stored n s ∷ effects) e = both false effects e
    both asked (Replaced n ∷ effects) e = both false effects e
    both asked (Removed n ∷ effects) e = both false effects e
    both asked (Counted s ∷ effects) e = both false effects e
    both asked (Deferred n t ∷ effects) e = both false effects e
    both asked (Retired x ∷ effects) e = both false effects e
    both asked (Reclaimed x ∷ effects) e = both false effects e
    both asked (Ended n ∷ effects) e = both false effects e
    both asked (Taken t ∷ effects) e = both false effects e
