-- What the rules of history and of what is left to others refuse, in tables of one place and one pair.
use Rattle.std.proofs.Common.{◌≡◌, ℕ, true, false, refl, ap, inl, inr, eqb, arith}
use Rattle.map_machines.specs.Given.TablesDeclared.status.TheConstants.Status.{ABORTED, PROMOTED}
use Rattle.map_rule.specs.Chart.{Chart, put, put_in, Empty}
use Rattle.map_rule.specs.Moves.{Removes, Promotes, Announces, after}
use Rattle.map_rule.specs.Moments.{Moments}
use Rattle.map_rule.specs.Leaves.{Leaves}
use Rattle.map_rule.proofs.Samples.SampleResizes.{spot, stored, marked, counted_blocking}

abbrev removed : Chart ℕ
removed = after spot true (Removes 0 0) stored

-- a pair that left the map comes back
a_pair_comes_back : Leaves eqb spot true 5 removed (record removed { current = put removed.current 0 true }) → ⊥
a_pair_comes_back leaves = let back : true ≡ false = leaves.gone 0 (omega arith) refl in grind arith

-- the root goes on while caller 5 is copying its one place
a_root_goes_on : Leaves eqb spot true 5 marked (after spot true (Promotes 1) marked) → ⊥
a_root_goes_on leaves = elim (leaves.root_stays 1 0 (omega arith) (omega arith) (omega arith) refl) [
  | inl stays ↦ absurd (omega (arith, stays))
  | inr out ↦ absurd (cc out.0)
]

-- the place that caller 5 is copying is emptied by another one
a_place_is_emptied : Leaves eqb spot true 5 marked (record marked { place = put_in marked.place 0 0 (Empty true) }) → ⊥
a_place_is_emptied leaves = grind (arith, (leaves.my_place refl 0 0 false (omega arith) (omega arith) refl refl).0)

abbrev announced : Chart ℕ
announced = after spot false (Announces 1) (after spot false (Promotes 1) counted_blocking)

-- a table that was promoted is given up
a_root_is_given_up : Leaves eqb spot false 5 announced (record announced { status = put announced.status 1 ABORTED }) → ⊥
a_root_is_given_up leaves = let still : ABORTED ≡ PROMOTED = leaves.promoted 1 refl in grind arith

-- a lower root is written
a_lower_root : Leaves eqb spot false 5 announced (record announced { first = 0 }) → ⊥
a_lower_root leaves = absurd (omega (arith, leaves.lasts.first))

-- what the map had is forgotten
the_past_changes : Leaves eqb spot false 5 announced (record announced { was = put announced.was 1 (λ n. false) }) → ⊥
the_past_changes leaves = let had : false ≡ true = ap (λ f. f 0) (leaves.remembers.was 1 (omega arith)) in absurd (cc had)

-- a table that the root has left names a pair that the map did not have then
too_early : Moments false (record announced { passed = λ t. 0 }) → ⊥
too_early moments = let had : false ≡ true = (moments.frozen refl 0 0 (omega arith) (grind arith)).1 (0, _, false, refl) in absurd (cc had)

-- a table stands behind the root of its time, which is said to have been another one
from_elsewhere : Moments false (record announced { from = λ t. 5 }) → ⊥
from_elsewhere moments = absurd (let was = moments.next_from refl 0 (omega arith) (λ e. cc e) in omega (arith, was))
