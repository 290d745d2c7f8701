-- What effects find by the promise of their event's life is what they have to find for pairs to be in their places.
use Rattle.std.specs.Prelude.{◌≡◌, ℕ, ◌+◌, Bool, true, false, List, [], ◌∷◌, length, Option, Some, None}
use Rattle.std.proofs.Common.{refl, ap, sym, ◌∙◌}
use Rattle.run_executor.specs.Given.RunsDeclared.effect.Effect.{Effect}
use Rattle.run_executor.specs.Given.RunsDeclared.effect.Effect.TheVariants as effect
use Rattle.run_executor.specs.Given.RunsDeclared.effect.Thing.TheVariants.{APair, ATable}
use Rattle.run_executor.specs.Given.SchedulesEffects.{with_effect, AtEachEffect}
use Rattle.run_executor.specs.Given.SchedulesEntry.{ByCall, acting}
use Rattle.run_executor.specs.Given.SchedulesGrowing.{only_looks}
use Rattle.run_executor.specs.Given.SchedulesLists.{is_in}
use Rattle.run_executor.specs.Given.SchedulesLives.{MayReclaim, CallFinds, EventFinds, Finds}
use Rattle.run_executor.specs.Given.SchedulesMoment.{Place, Unborn, InMap, Out, Handed, Behind, Left, GivenBack, UnderWay, Moment}
use Rattle.run_executor.specs.Given.SchedulesTerms.{Terms}
use Rattle.run_executor.specs.Given.SchedulesThings.{same_thing}
use Rattle.run_executor.specs.Given.SchedulesViews.{is_in_a_map}
use Rattle.run_finds.specs.Life.{StoresOne, LifeFindsPlaced}
use Rattle.run_finds.specs.Waiting.{is_let_go, FindsPlaced}

let_go : (everything : Bool) (p : Place) → MayReclaim everything p → is_let_go p ≡ true
let_go everything Handed may = refl
let_go everything Left may = refl
let_go everything Unborn may = absurd may
let_go everything (InMap map) may = absurd may
let_go everything Out may = absurd may
let_go everything Behind may = absurd may
let_go everything GivenBack may = absurd may

-- there is such a call, of which less is asked
by_call : {K V : Type 0} (P Q : UnderWay K V → Type 0) → ((c : UnderWay K V) → P c → Q c) → (o : Option (UnderWay K V)) → ByCall P o → ByCall Q o
by_call P Q so None is = is
by_call P Q so (Some c) is = so c is

module _ {K V : Type 0} (terms : Terms) (everything : Bool) (moments : List (Moment K V)) (m : Moment K V) where
  abbrev Its : Effect → UnderWay K V → Type 0
  Its f c = (only_looks c.call ≡ false) × CallFinds terms moments m f c

  -- the next number is that of the pair that is stored
  next_is : (f : Effect) (n : ℕ) (o : Option (UnderWay K V)) → ByCall (Its f) o → ((c : UnderWay K V) → CallFinds terms moments m f c → n ≡ length m.stored + 1) → n ≡ length m.stored + 1
  next_is f n None is so = absurd is
  next_is f n (Some c) is so = so c is.1

  -- no call has such an effect
  none_has : (f : Effect) (o : Option (UnderWay K V)) → ByCall (Its f) o → ((c : UnderWay K V) → CallFinds terms moments m f c → ⊥) → ⊥
  none_has f None is so = is
  none_has f (Some c) is so = so c is.1

  by_calls : (own : List ℕ) (acted : Option ℕ) (f : Effect) → Finds terms (Some own) acted everything moments m f → StoresOne (Some own) m f → FindsPlaced (Some own) m f
  by_calls own acted (effect.Stored n s) finds one = let next = next_is (effect.Stored n s) n (acting (Some own) m) finds (λ c its. its.0) in (next, one ∙ sym next)
  by_calls own acted (effect.Replaced n) finds one = by_call (Its (effect.Replaced n)) (λ c. is_in_a_map (m.place n) ≡ true) (λ c its. ap is_in_a_map its.1) (acting (Some own) m) finds
  by_calls own acted (effect.Removed n) finds one = by_call (Its (effect.Removed n)) (λ c. is_in_a_map (m.place n) ≡ true) (λ c its. ap is_in_a_map its.1) (acting (Some own) m) finds
  by_calls own acted (effect.Deferred n t) finds one = by_call (Its (effect.Deferred n t)) (λ c. is_in same_thing (APair n) c.owes ≡ true) (λ c its. its.1.0) (acting (Some own) m) finds
  by_calls own acted (effect.Retired (APair n)) finds one = by_call (Its (effect.Retired (APair n))) (λ c. is_in same_thing (APair n) c.owes ≡ true) (λ c its. its.1.0) (acting (Some own) m) finds
  by_calls own acted (effect.Reclaimed (APair n)) finds one = absurd (none_has (effect.Reclaimed (APair n)) (acting (Some own) m) finds (λ c its. its))
  by_calls own acted (effect.Ended n) finds one = absurd (none_has (effect.Ended n) (acting (Some own) m) finds (λ c its. its))
  by_calls own acted (effect.Retired (ATable t)) finds one = tt
  by_calls own acted (effect.Reclaimed (ATable t)) finds one = tt
  by_calls own acted _ finds one = tt

module _ {K V : Type 0} (everything : Bool) (m : Moment K V) where
  by_event : (acted : Option ℕ) (f : Effect) → EventFinds acted everything m f → StoresOne None m f → FindsPlaced None m f
  by_event acted (effect.Reclaimed (APair n)) finds one = let_go everything (m.place n) (reclaimed acted finds)
    where
      reclaimed : (o : Option ℕ) → EventFinds o everything m (effect.Reclaimed (APair n)) → MayReclaim everything (m.place n)
      reclaimed None its = its
      reclaimed (Some map) its = its
  by_event None (effect.Ended n) finds one = absurd finds
  by_event (Some map) (effect.Ended n) finds one = ap is_in_a_map finds
  by_event acted (effect.Stored n s) finds one = absurd (none acted finds)
    where
      none : (o : Option ℕ) → EventFinds o everything m (effect.Stored n s) → ⊥
      none None its = its
      none (Some map) its = its
  by_event acted (effect.Replaced n) finds one = absurd (none acted finds)
    where
      none : (o : Option ℕ) → EventFinds o everything m (effect.Replaced n) → ⊥
      none None its = its
      none (Some map) its = its
  by_event acted (effect.Removed n) finds one = absurd (none acted finds)
    where
      none : (o : Option ℕ) → EventFinds o everything m (effect.Removed n) → ⊥
      none None its = its
      none (Some map) its = its
  by_event acted (effect.Deferred n t) finds one = absurd (none acted finds)
    where
      none : (o : Option ℕ) → EventFinds o everything m (effect.Deferred n t) → ⊥
      none None its = its
      none (Some map) its = its
  by_event acted (effect.Retired (APair n)) finds one = absurd (none acted finds)
    where
      none : (o : Option ℕ) → EventFinds o everything m (effect.Retired (APair n)) → ⊥
      none None its = its
      none (Some map) its = its
  by_event acted (effect.Retired (ATable t)) finds one = tt
  by_event acted (effect.Reclaimed (ATable t)) finds one = tt
  by_event acted _ finds one = tt

pub life_finds_placed : (K V : Type 0) → LifeFindsPlaced K V
life_finds_placed K V terms None acted everything moments m f finds one = by_event everything m acted f finds one
life_finds_placed K V terms (Some own) acted everything moments m f finds one = by_calls terms everything moments m own acted f finds one

-- what each effect finds follows from what it found
pub each_so : {K V : Type 0} (P Q : Moment K V → Effect → Type 0) → ((m : Moment K V) (f : Effect) → P m f → Q m f) → (caller : Option (List ℕ)) (acted : Option ℕ) (effects : List Effect) (m : Moment K V)
    → AtEachEffect P caller acted effects m → AtEachEffect Q caller acted effects m
each_so P Q so caller acted [] m all = tt
each_so P Q so caller acted (f ∷ effects) m all = (so m f all.0, each_so P Q so caller acted effects (with_effect caller acted f m) all.1)
