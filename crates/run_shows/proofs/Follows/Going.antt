-- What a step of a call leaves as it was, where the moment after its effects shows the scene after it.
use Rattle.std.specs.Prelude.{◌≡◌, ℕ, suc, ◌+◌, ◌<◌, ◌≤◌, Bool, List, Some, None, ◌⊎◌}
use Rattle.run_effects.specs.Given.SchedulesMoment.{Moment}
use Rattle.run_effects.specs.Given.SchedulesViews.{map_at}
use Rattle.many_maps.specs.Maps.{Standing}
use Rattle.run_effects.specs.Effects.Known.{Known}
use Rattle.run_effects.specs.declared.role.Role.{Role}
use Rattle.run_effects.specs.declared.role.Role.TheVariants as role
use Rattle.run_shows.specs.Follows.Shows.{Refines}
use Rattle.run_shows.proofs.Follows.Alike.{AlikePairs}
use Rattle.run_shows.proofs.Follows.Onward.{IsOfMap, KeepsRoles}
use Rattle.run_shows.specs.Scenes.Scene.{Scene}

-- a map that stands does so on: no pair or table of it is forgotten, and its tables stand in their blocks
pub record StoodOn {K : Type 0} (s s2 : Standing K) : Type 0 where
  pub setting : s2.setting ≡ s.setting
  pub stored : s.chart.stored ≤ s2.chart.stored
  pub past : s.chart.past ≤ s2.chart.past
  pub first : s.chart.first ≤ s2.chart.first
  pub tables : (t : ℕ) → t < s.chart.past → s2.blocks.table t ≡ s.blocks.table t

module _ {K V : Type 0} (known : Known) (s s2 : Scene K V) where
  -- what a block may come to be: the pair that is stored next, or the table of a map that is linked next
  abbrev pub ComesToBe : ℕ → Role → Type 0
  ComesToBe b (role.Pair n) = n ≡ known.stored + 1
  ComesToBe b (role.Table t len) =
      (before : Standing K) × (after : Standing K) × (s.maps t.map ≡ Some before) × (s2.maps t.map ≡ Some after)
      × (t.turn ≡ before.chart.past) × (after.chart.past ≡ suc before.chart.past) × (b ≡ after.blocks.table before.chart.past)
  ComesToBe b _ = ⊥

module _ {K V : Type 0} (same : K → K → Bool) (name : ℕ → List ℕ) (m : Moment K V) (known : Known) (s : Scene K V) (shown : Refines same name m known s)
    (m2 : Moment K V) (known2 : Known) (s2 : Scene K V) where
  -- It shows it, and pairs that had numbers have them still. Blocks that were linked are what they were, and no other one becomes a pair or a table but as it
  -- comes to a map. Maps that stood do so on; those that did not have the pairs and the root that they had.
  pub record ShowsOn : Type 0 where
    pub shows : Refines same name m2 known2 s2
    pub numbers : (of : ℕ) (standing : Standing K) → s.maps of ≡ Some standing → (n : ℕ) → n < standing.chart.stored → shows.number of n ≡ shown.number of n
    pub keeps : KeepsRoles known known2
    pub back : (b : ℕ) → IsOfMap (known2.roles b) → (known.roles b ≡ known2.roles b) ⊎ ComesToBe known s s2 b (known2.roles b)
    pub stood : (of : ℕ) (standing : Standing K) → s.maps of ≡ Some standing → (after : Standing K) × (s2.maps of ≡ Some after) × StoodOn standing after
    pub none : (of : ℕ) → s.maps of ≡ None → (s2.maps of ≡ None) × AlikePairs of m m2 × (map_at of m2 ≡ map_at of m)
