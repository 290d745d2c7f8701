-- What is promised of an event, by its steps: it reclaims nothing that is sheltered after it.
use Rattle.std.specs.Prelude.{◌≡◌, Bool, true, false, ◌||◌, List, [], ◌∷◌, ◌++◌, flat_map}
use Rattle.std.specs.List.{list_any}
use Rattle.std.proofs.Common.{refl, sym, subst, ap, ◌∙◌}
use Rattle.std.proofs.lemmas.Grind.{flat_map-append}
use Rattle.run_places.specs.Given.RunsDeclared.effect.Effect.{Effect}
use Rattle.run_places.specs.Given.RunsDeclared.effect.Thing.{Thing}
use Rattle.run_places.specs.Given.SchedulesLists.{is_in}
use Rattle.run_places.specs.Given.SchedulesModel.{thing_back}
use Rattle.run_places.specs.Given.SchedulesMoment.{Sheltered}
use Rattle.run_places.specs.Given.SchedulesThings.{same_thing}
use Rattle.run_histories.specs.Promises.Shelters.{NoneIsBack, StepsProtect, EventsAreProtected}

-- it is in none of two lists
none_then : (q : Bool) (rest both : Bool) → (q || rest) ≡ false → (rest ≡ false → both ≡ false) → (q || both) ≡ false
none_then true rest both e further = absurd (cc e)
none_then false rest both e further = further e

in_none : (x : Thing) (things more : List Thing) → is_in same_thing x things ≡ false → is_in same_thing x more ≡ false → is_in same_thing x (things ++ more) ≡ false
in_none x [] more none other = other
in_none x (y ∷ things) more none other = none_then (same_thing x y) (is_in same_thing x things) (is_in same_thing x (things ++ more)) none (λ rest. in_none x things more rest other)

pub steps_protect : StepsProtect
steps_protect effects more [] none other = tt
steps_protect effects more (x ∷ xs) none other = (
  subst (λ (things : List Thing). is_in same_thing x.thing things ≡ false) (sym (flat_map-append thing_back effects more))
      (in_none x.thing (flat_map thing_back effects) (flat_map thing_back more) none.0 other.0),
  steps_protect effects more xs none.1 other.1,
)

none_any : (effects : List Effect) (xs : List Sheltered) → NoneIsBack effects xs → list_any (λ s. is_in same_thing s.thing (flat_map thing_back effects)) xs ≡ false
none_any effects [] none = refl
none_any effects (x ∷ xs) none =
    ap (λ (q : Bool). q || list_any (λ s. is_in same_thing s.thing (flat_map thing_back effects)) xs) none.0 ∙ none_any effects xs none.1

pub events_are_protected : (K V : Type 0) → EventsAreProtected K V
events_are_protected K V t none = none_any t.effects t.left.sheltered none
