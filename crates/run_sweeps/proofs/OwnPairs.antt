-- Each pair that is in a map is the one of its class there.
use Rattle.std.specs.Prelude.{◌≡◌, ℕ, Bool, true, List, Some}
use Rattle.std.proofs.Common.{ap, sym, ◌∙◌}
use Rattle.run_schedules.specs.Runs.Log.{pair_at}
use Rattle.run_schedules.specs.Schedules.Moment.{Moment, Place}
use Rattle.run_schedules.specs.Schedules.Views.{finite_map, is_in_map}
use Rattle.run_finds.specs.Given.EffectsKnown.{Known}
use Rattle.run_finds.specs.Given.FinishesMaps.{Standing}
use Rattle.run_finds.proofs.Given.FollowsStored.{in_map_true}
use Rattle.run_finds.specs.Given.MomentsWhole.{RefinesWhole}
use Rattle.run_finds.proofs.Given.ChangesFound.{map_alike}
use Rattle.run_finds.proofs.Given.ChangesHad.{had_pair}
use Rattle.run_finds.proofs.Given.ChangesNow.{now_had, pair_is}
use Rattle.run_sweeps.specs.OwnPairs.{EachIsItsOwn}
use Rattle.run_finds.specs.Given.ScenesHeld.{Held, IsAt}
use Rattle.run_finds.specs.Given.ScenesScene.{Scene}

-- so it is at a moment that shows the map
pub each_is_its_own : {K V : Type 0} (same : K → K → Bool) (hash : ℕ → K → ℕ) (name : ℕ → List ℕ) (m : Moment K V) (known : Known) (s : Scene K V) (e : Held K V) → IsAt same hash e s
    → RefinesWhole same name m known s → (map : ℕ) (st : Standing K) → s.maps map ≡ Some st → EachIsItsOwn same map m
each_is_its_own same hash name m known s e at whole map st there q is =
    let number = whole.all.shown.number map in
    let pairs = (whole.all.shown.maps map st there).pairs in
    let lawful = (at.together.makings.standing.fit map st there).0 in
    let each = at.together.makings.standing.each map st there in
    let it = pairs.all q (in_map_true map (m.place q) is) in
    let current : st.chart.current it.0 ≡ true = sym (pairs.here it.0 it.1) ∙ ap (λ (x : ℕ). is_in_map map (m.place x)) (sym it.2) ∙ is in
    let pair = pair_is same map number st m known s.world (s.calls map) lawful each pairs whole.all.shown.blocks it.0 current in
    let now = now_had same map number st m known s.world (s.calls map) lawful each pairs whole.all.shown.blocks pair.0 in (
      (pair.0, pair.1),
      ap (pair_at m.stored) it.2 ∙ pair.3,
      had_pair same st number st.chart.now pair.0 (finite_map same map m pair.0) now it.0 (it.1, each.ground.moments.now_is it.0 ∙ current, pair.0, pair.2, lawful.lawful.classes.refl pair.0)
          ∙ ap Some (sym it.2),
    )

-- and at one that has the same pairs
pub own_alike : {K V : Type 0} (same : K → K → Bool) (map : ℕ) (m v : Moment K V) → m.place ≡ v.place → m.stored ≡ v.stored → EachIsItsOwn same map m → EachIsItsOwn same map v
own_alike {K} {V} same map m v place stored own q is =
    let its = own q (ap (λ (f : ℕ → Place). is_in_map map (f q)) place ∙ is) in
    (its.0, ap (λ (xs : List (K × V)). pair_at xs q) (sym stored) ∙ its.1, sym (map_alike same map its.0.0 v m place stored) ∙ its.2)
