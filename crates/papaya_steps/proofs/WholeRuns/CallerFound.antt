-- Who stands at the place of a name is who is found by it.
use Rattle.std.specs.Prelude.{◌≡◌, ℕ, false, List, find, position, is_some, Option, Some, None}
use Rattle.std.proofs.Common.{refl, sym, ◌∙◌}
use Rattle.play_events.proofs.Given.RowsLists.{is_found, place_found, place_some}
use Rattle.play_events.specs.Given.NamedRoll.{at_place, called}
use Rattle.play_events.specs.Given.NamedSeen.{is_named}
use Rattle.play_events.specs.Given.ExecutorDeclared.caller.NamedCaller.{NamedCaller}

none_is : {X : Type 0} (o : Option X) → is_some o ≡ false → None ≡ o
none_is None e = refl
none_is (Some x) e = absurd (cc e)

module _ {V : Type 0} (own : List ℕ) (calls : List (NamedCaller V)) where
  pub called_found : called own calls ≡ find (is_named own) calls
  called_found = by (position (is_named own) calls) refl
    where
      by : (o : Option ℕ) → o ≡ position (is_named own) calls → at_place calls o ≡ find (is_named own) calls
      by (Some place) e = place_found (is_named own) calls place e
      by None e = none_is (find (is_named own) calls) (is_found (is_named own) calls ∙ sym (place_some (is_named own) calls None e))
