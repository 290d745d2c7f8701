-- How the scene refines a moment after a step: the pairs of each map that stood have the numbers that they had.
use Rattle.std.specs.Prelude.{◌≡◌, ℕ, Bool, List, Some}
use Rattle.run_effects.specs.Given.SchedulesMoment.{Moment}
use Rattle.many_maps.specs.Maps.{Standing}
use Rattle.run_effects.specs.Effects.Known.{Known}
use Rattle.run_shows.specs.Follows.Shows.{Refines}
use Rattle.run_shows.specs.Scenes.Scene.{Scene}

pub record RefinesAfter {K V : Type 0} (same : K → K → Bool) (name : ℕ → List ℕ) (m : Moment K V) (known : Known) (s : Scene K V) (shown : Refines same name m known s)
    (m2 : Moment K V) (known2 : Known) (s2 : Scene K V) : Type 0 where
  pub shows : Refines same name m2 known2 s2
  pub numbers : (map : ℕ) (standing : Standing K) → s.maps map ≡ Some standing → shows.number map ≡ shown.number map
