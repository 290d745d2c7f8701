-- As the root comes to a table it leaves no pair behind: after that each pair of the map lies there or behind it, and so it did before, or had its copy there.
use Rattle.std.specs.Prelude.{◌≡◌, ℕ, zero, suc, ◌≤◌, ◌==◌, nat_le, Bool, true, false, not, ◌&&◌, ◌||◌, List, [], ◌∷◌, length, Some, if◌then◌else◌}
use Rattle.std.specs.List.{list_all}
use Rattle.std.proofs.Common.{refl, ap, sym, subst, ◌∙◌}
use Rattle.run_executor.specs.Given.RunsDeclared.effect.Effect.TheVariants as effect
use Rattle.run_executor.specs.Given.RunsDeclared.effect.Spot.{Spot}
use Rattle.run_executor.specs.Given.RunsDeclared.effect.TableId.{TableId}
use Rattle.run_executor.specs.Given.SchedulesEffects.{spot_by, is_chunked, with_effects}
use Rattle.run_executor.specs.Given.SchedulesGrowing.{is_ahead, none_before}
use Rattle.run_executor.specs.Given.SchedulesLists.{numbers_from}
use Rattle.run_executor.specs.Given.SchedulesMoment.{Place, MapThere, Moment}
use Rattle.run_executor.specs.Given.SchedulesViews.{is_in_map, map_at, first_or, first_of}
use Rattle.run_executor.proofs.Given.FollowsLinked.{own_found}
use Rattle.run_executor.proofs.Given.FollowsStored.{in_map_true}
use Rattle.run_executor.specs.Given.EffectsKnown.{Known}
use Rattle.run_executor.specs.Given.FinishesMaps.{Standing}
use Rattle.run_executor.specs.Given.FollowsShows.{Refines}
use Rattle.run_executor.specs.Given.SpotsSpots.{RefinesPlaces}
use Rattle.run_finds.proofs.FromRoot.{root_is, from_root}
use Rattle.run_executor.specs.Given.ScenesHeld.{Held, IsAt}
use Rattle.run_executor.specs.Given.ScenesScene.{Scene}
use Rattle.run_executor.proofs.Given.General.{at_most_true as at_most, or_second as or_right}

-- what passes at each number does so at all of them
all_numbers : (test : ℕ → Bool) → ((n : ℕ) → test n ≡ true) → (first many : ℕ) → list_all test (numbers_from first many) ≡ true
all_numbers test each first zero = refl
all_numbers test each first (suc many) = ap (λ (q : Bool). q && list_all test (numbers_from (suc first) many)) (each first) ∙ all_numbers test each (suc first) many

-- Where a pair lies then no further up than there, it did before, or its copy is there.
ahead_or_copied : (q : Bool) (place : ℕ → Place) (copy spot : ℕ → Spot) (t : TableId) (n : ℕ) → t.turn ≤ (spot_by q place copy (effect.Promoted t) spot n).turn
    → (nat_le t.turn (spot n).turn || ((copy n).turn == t.turn)) ≡ true
ahead_or_copied true place copy spot t n l = ap (λ (z : Bool). z || ((copy n).turn == t.turn)) (at_most t.turn (spot n).turn l)
ahead_or_copied false place copy spot t n l = by ((copy n).turn == t.turn) refl (is_in_map t.map (place n)) refl
  where
    by : (x : Bool) → ((copy n).turn == t.turn) ≡ x → (y : Bool) → is_in_map t.map (place n) ≡ y → (nat_le t.turn (spot n).turn || ((copy n).turn == t.turn)) ≡ true
    by true copied y e = or_right (nat_le t.turn (spot n).turn) ((copy n).turn == t.turn) copied
    by false copied true e =
        let stays : (spot_by false place copy (effect.Promoted t) spot n) ≡ spot n =
        ap (λ (z : Bool). if z && ((copy n).turn == t.turn) then copy n else spot n) e ∙ ap (λ (z : Bool). if z then copy n else spot n) copied in
        let there : t.turn ≤ (spot n).turn = subst (λ (x : Spot). t.turn ≤ x.turn) stays l in
        ap (λ (z : Bool). z || ((copy n).turn == t.turn)) (at_most t.turn (spot n).turn there)
    by false copied false e =
        let stays : (spot_by false place copy (effect.Promoted t) spot n) ≡ spot n = ap (λ (z : Bool). if z && ((copy n).turn == t.turn) then copy n else spot n) e in
        let there : t.turn ≤ (spot n).turn = subst (λ (x : Spot). t.turn ≤ x.turn) stays l in
        ap (λ (z : Bool). z || ((copy n).turn == t.turn)) (at_most t.turn (spot n).turn there)

module _ {K V : Type 0} (same : K → K → Bool) (hash : ℕ → K → ℕ) (name : ℕ → List ℕ) (own : List ℕ) (map : ℕ) (t : TableId) (on : t.map ≡ map) (m : Moment K V) (was : MapThere)
    (was_there : map_at map m ≡ Some was) (known2 : Known) (s2 : Scene K V) (new : Held K V) (at2 : IsAt same hash new s2) where
  abbrev v : Moment K V
  v = with_effects (Some own) (Some map) (effect.Promoted t ∷ []) m

  module _ (shown2 : Refines same name v known2 s2) (lying2 : RefinesPlaces v known2 s2.maps) (standing2 : Standing K) (there2 : s2.maps map ≡ Some standing2) where
    -- the map's root is that table then
    came : first_of map v ≡ t.turn
    came = ap first_or (subst (λ (x : ℕ). map_at x v ≡ Some (record was { first = t.turn })) on (own_found t m.maps was (subst (λ (x : ℕ). map_at x m ≡ Some was) (sym on) was_there)))

    root_then : standing2.chart.first ≡ t.turn
    root_then = sym (root_is same hash name v known2 s2 new at2 shown2 lying2 map standing2 there2) ∙ came

    each_ahead : (n : ℕ) → is_ahead map t.turn m n ≡ true
    each_ahead n = by (is_in_map map (m.place n)) refl
      where
        by : (q : Bool) → is_in_map map (m.place n) ≡ q → is_ahead map t.turn m n ≡ true
        by false e = ap (λ (z : Bool). not z || nat_le t.turn (m.spot n).turn || ((m.copy n).turn == t.turn)) e
        by true e =
            let lies = from_root same hash name v known2 s2 new at2 shown2 lying2 map standing2 there2 n (in_map_true map (m.place n) e) in
            let there = subst (λ (x : ℕ). x ≤ (v.spot n).turn) root_then lies in
            ap (λ (z : Bool). not z || nat_le t.turn (m.spot n).turn || ((m.copy n).turn == t.turn)) e ∙ ahead_or_copied (is_chunked (Some map) m) m.place m.copy m.spot t n there

    pub none_behind : none_before map t.turn m ≡ true
    none_behind = all_numbers (is_ahead map t.turn m) each_ahead 1 (length m.stored)
