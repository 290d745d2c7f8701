-- A seat that leans on the owner of a map doesn't rest; who knows no map keeps no block; and who makes a map for itself has one of its own at most.
use Rattle.std.specs.Prelude.{ℕ, [], Some, None, true}
use Rattle.std.proofs.Common.{◌≡◌, inl, inr, refl}
use Rattle.threads_rule.specs.Views.Begun.{lent_map, returned_map}
use Rattle.threads_rule.specs.Views.Notes.{SeatIsQuiescent}
use Rattle.threads_rule.specs.Views.Rule.{MapsWorld, KeepsFor, Leans, at_rest}
use Rattle.threads_rule.specs.Views.Told.{with_made}
use Rattle.threads_rule.specs.declared.view.Map.{Map}
use Rattle.threads_rule.specs.declared.view.View.{View}

module _ (K V : Type 0) {S : Type 0} (map other : Map S) where
  rests_not : SeatIsQuiescent (lent_map {K = K} {V = V} at_rest 7 map) → ⊥
  rests_not rests = rests

  leans : Leans (lent_map {K = K} {V = V} at_rest 7 map) 7
  leans = inr refl

  leans_no_more : Leans (returned_map {K = K} {V = V} (lent_map at_rest 7 map)) 7 → ⊥
  leans_no_more (inl on) = on
  leans_no_more (inr by) = by

  keeps_none : (u : View K V S) (w : MapsWorld K V S) (b : ℕ) → KeepsFor u at_rest w b → ⊥
  keeps_none u w b (t, has, is, held, inl of) = of
  keeps_none u w b (t, has, is, held, inr of) = of

  -- the first one is its own,
  abbrev founded : View K V S
  founded = with_made at_rest true None map []

  is_own : founded.own ≡ Some map
  is_own = refl

  -- and a second one stands for good
  second : (with_made founded true (Some map) other []).own ≡ Some map
  second = refl
