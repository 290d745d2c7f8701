-- At a moment that shows a scene each pair of a map lies in the root's table or behind it.
use Rattle.std.specs.Prelude.{◌≡◌, ℕ, ◌<◌, ◌≤◌, Bool, true, List, Some}
use Rattle.std.proofs.Common.{refl, ap, sym, ◌∙◌}
use Rattle.std.proofs.lemmas.Bool.{eq-eqb}
use Rattle.run_blocks.specs.Given.TablesChunks.{is_incremental}
use Rattle.run_executor.specs.Given.SchedulesMoment.{InMap, Moment}
use Rattle.run_executor.specs.Given.SchedulesViews.{is_in_map, first_of}
use Rattle.run_executor.proofs.Given.RuleLaws.{current_is_known}
use Rattle.run_executor.specs.Given.CallersTogether.{Together}
use Rattle.run_executor.specs.Given.EffectsKnown.{Known}
use Rattle.run_executor.specs.Given.EffectsDeclared.role.Role.TheVariants as role
use Rattle.run_executor.specs.Given.FinishesMaps.{Standing}
use Rattle.run_executor.specs.Given.FollowsMaps.{RefinesMap}
use Rattle.run_executor.specs.Given.FollowsShows.{Refines}
use Rattle.run_executor.proofs.Given.FollowsFinds.{first_is}
use Rattle.run_executor.specs.Given.SpotsSpots.{RefinesPlaces}
use Rattle.run_executor.proofs.Given.SpotsPlaced.{lies_named}
use Rattle.run_executor.specs.Given.ScenesHeld.{Held, IsAt}
use Rattle.run_executor.specs.Given.ScenesScene.{Scene, slot_of}

module _ {K V : Type 0} (same : K → K → Bool) (hash : ℕ → K → ℕ) (name : ℕ → List ℕ) (m : Moment K V) (known : Known) (s : Scene K V) (e : Held K V) (at : IsAt same hash e s)
    (shown : Refines same name m known s) (lying : RefinesPlaces m known s.maps) (map : ℕ) (standing : Standing K) (there : s.maps map ≡ Some standing) where
  shown_map : RefinesMap map (shown.number map) standing m known
  shown_map = shown.maps map standing there

  together : Together V same standing.hash same standing.setting slot_of s.world standing.chart standing.blocks standing.sights (s.calls map)
  together = at.together.makings.standing.each map standing there

  pub root_is : first_of map m ≡ standing.chart.first
  root_is = first_is map (shown.number map) standing m known shown_map

  module _ (k : ℕ) (in_map : m.place k ≡ InMap map) where
    stored : (n : ℕ) × (n < standing.chart.stored) × (k ≡ shown.number map n)
    stored = shown_map.pairs.all k in_map

    abbrev n : ℕ
    n = stored.0

    current : standing.chart.current n ≡ true
    current = sym (shown_map.pairs.here n stored.1) ∙ ap (λ (x : ℕ). is_in_map map (m.place x)) (sym stored.2) ∙ ap (is_in_map map) in_map ∙ eq-eqb map map refl

    known_pair : standing.blocks.pair_known n ≡ true
    known_pair = (current_is_known same standing.hash standing.setting s.world.memory standing.chart standing.blocks together.ground.map.map.rule together.ground.map.map.shows n current).1

    pub from_root : standing.chart.first ≤ (m.spot k).turn
    from_root = (lies_named standing.chart (is_incremental standing.setting.mode) n (m.spot k) (m.born k).turn
        ((lying.each map standing there).lies n k (stored.1, known_pair, shown_map.pairs.roles n stored.1 known_pair ∙ ap role.Pair (sym stored.2)) current)).0
