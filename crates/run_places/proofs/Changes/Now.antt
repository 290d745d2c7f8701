-- What a map has now, the finite map of the moment has.
use Rattle.std.specs.Prelude.{◌≡◌, ℕ, ◌<◌, Bool, true, ◌&&◌, length, Option, Some, None}
use Rattle.std.proofs.Common.{ap, sym, subst, ◌∙◌}
use Rattle.run_shows.specs.Given.SeizeWorld.{World}
use Rattle.run_shows.specs.Given.TablesChunks.{is_incremental}
use Rattle.run_shows.specs.Given.TablesDeclared.node.Node.{Node}
use Rattle.run_shows.specs.Given.RunsLog.{pair_at, is_key}
use Rattle.run_shows.specs.Given.SchedulesMoment.{Moment}
use Rattle.run_shows.specs.Given.SchedulesViews.{is_in_map, finite_map}
use Rattle.run_shows.specs.Given.RuleChart.{Chart}
use Rattle.run_shows.specs.Given.RuleMaps.{spot_of}
use Rattle.run_shows.specs.Given.RuleRule.{is_of}
use Rattle.run_shows.proofs.Given.RuleLaws.{current_is_known}
use Rattle.run_shows.specs.Given.PointsSteps.{AreLawful}
use Rattle.run_shows.specs.Given.CallersTogether.{UnderWay, Together}
use Rattle.run_shows.proofs.Given.CallersAsked.OneCurrent.{one_current}
use Rattle.run_shows.specs.Given.FinishesMaps.{Standing}
use Rattle.run_shows.specs.Given.EffectsKnown.{Known}
use Rattle.run_shows.specs.Follows.Blocks.{HasRole, RefinesBlocks}
use Rattle.run_shows.specs.Follows.Maps.{RefinesPairs}
use Rattle.run_shows.proofs.Follows.Stored.{in_map_true}
use Rattle.run_places.specs.Changes.Had.{Had, HadJust, HadThen}
use Rattle.run_places.proofs.Changes.Found.{is_its, FoundIn, found}
use Rattle.run_shows.specs.Scenes.Scene.{slot_of}
use Rattle.run_shows.proofs.Given.General.{both_true}

module _ {K V : Type 0} (same : K → K → Bool) (map : ℕ) (number : ℕ → ℕ) (s : Standing K) (m : Moment K V) (known : Known) (w : World (Node K V)) (calls : ℕ → Option (UnderWay K V K))
    (lawful : AreLawful same s.hash) (each : Together V same s.hash same s.setting slot_of w s.chart s.blocks s.sights calls)
    (pairs : RefinesPairs map number s m known) (blocks : RefinesBlocks m known w) where
  abbrev c : Chart K
  c = s.chart

  there : (n : ℕ) → c.current n ≡ true → (n < c.stored) × (s.blocks.pair_known n ≡ true)
  there n is = current_is_known same s.hash s.setting w.memory c s.blocks each.ground.map.map.rule each.ground.map.map.shows n is

  -- a pair of the map is the one that was stored under its number
  pub pair_is : (n : ℕ) → c.current n ≡ true → (key : K) × (value : V) × (c.key n ≡ Some key) × (pair_at m.stored (number n) ≡ Some (key, value))
  pair_is n is =
      let known_too = there n is in
      let has = subst (HasRole w m.stored (s.blocks.pair n)) (pairs.roles n known_too.0 known_too.1) (blocks.roles (s.blocks.pair n)) in
      let shown = each.ground.map.map.shows.pairs n known_too.0 known_too.1 in
      let one : shown.0 ≡ has.0 = (let a = shown.2 in let b = has.3 in cc (a, b)) in
      (has.0, has.1, shown.3 ∙ ap Some one, has.2)

  module _ (k : K) where
    had_its : (n : ℕ) → Had same s number c.now k n → is_its same map k m (number n) ≡ true
    had_its n h =
        let is : c.current n ≡ true = sym (each.ground.moments.now_is n) ∙ h.1 in
        let pair = pair_is n is in
        let one : pair.0 ≡ h.2 = (let a = pair.2 in let b = h.3 in cc (a, b)) in
        let key : same pair.0 k ≡ true = lawful.lawful.classes.symm pair.0 k ∙ ap (same k) one ∙ h.4 in
        ap (λ q. q && is_key same (pair_at m.stored (number n)) k) (pairs.here n h.0 ∙ is)
        ∙ ap (λ (p : Option (K × V)). is_key same p k) pair.3 ∙ key

    now_just : (o : Option ℕ) → FoundIn same map k m (length m.stored) o → HadJust same s number c.now k o
    now_just None none = λ n had. none (number n) (pairs.numbered n had.0).0 (pairs.numbered n had.0).1 (had_its n had)
    now_just (Some q) its =
        let two = both_true (is_in_map map (m.place q)) (is_key same (pair_at m.stored q) k) its.2 in
        let it = pairs.all q (in_map_true map (m.place q) two.0) in
        let is : c.current it.0 ≡ true = sym (pairs.here it.0 it.1) ∙ ap (λ (x : ℕ). is_in_map map (m.place x)) (sym it.2) ∙ two.0 in
        let pair = pair_is it.0 is in
        let key : same pair.0 k ≡ true = sym (ap (λ (p : Option (K × V)). is_key same p k) (ap (pair_at m.stored) it.2 ∙ pair.3)) ∙ two.1 in
        let its_key : same k pair.0 ≡ true = lawful.lawful.classes.symm k pair.0 ∙ key in
        let of_class : is_of same (spot_of s.hash) (is_incremental s.setting.mode) k (c.key it.0) ≡ true = ap (is_of same (spot_of s.hash) (is_incremental s.setting.mode) k) pair.2 ∙ its_key in (
          it.0,
          (it.1, each.ground.moments.now_is it.0 ∙ is, pair.0, pair.2, its_key),
          sym it.2,
          λ o other. one_current same (spot_of s.hash) lawful.lawful.classes c (is_incremental s.setting.mode) each.ground.map.map.rule k o it.0
              (sym (each.ground.moments.now_is o) ∙ other.1) is (ap (is_of same (spot_of s.hash) (is_incremental s.setting.mode) k) other.3 ∙ other.4) of_class,
        )

    pub now_had : HadThen same s number c.now k (finite_map same map m k)
    now_had = record {
      stored = λ n was. (there n (sym (each.ground.moments.now_is n) ∙ was)).0;
      just = now_just (finite_map same map m k) (found same map k m (length m.stored));
    }
