-- A retaining asks about a pair that the map has at a moment of the call.
use Rattle.std.specs.Prelude.{◌≡◌, ℕ, ◌≤◌, Bool, true, List, ◌∷◌, length, Option, Some, None, ◌⊎◌}
use Rattle.std.proofs.Common.{refl, ap, sym, subst, ◌∙◌, arith, inl, inr}
use Rattle.run_places.specs.Given.ReservesDeclared.sweep.Sweeping.TheVariants as at
use Rattle.run_places.specs.Given.RunsLog.{pair_at, is_key}
use Rattle.run_places.specs.Given.SchedulesLists.{OneOf}
use Rattle.run_places.specs.Given.SchedulesMoment.{UnderWay as CallThere, Moment}
use Rattle.run_places.specs.Given.SchedulesViews.{call_of, is_in_map, finite_map}
use Rattle.run_places.specs.Given.RuleWords.{Blocks}
use Rattle.run_places.specs.Given.PointsSteps.{AreLawful}
use Rattle.run_places.specs.Given.LateCovers.{CoversAt}
use Rattle.run_places.specs.Given.LateToldSweeps.{IsRowOfSweep}
use Rattle.run_places.specs.Given.CallersOverAll.{CallOverAll}
use Rattle.run_places.specs.Given.CallersSights.{IsVisibility, seen_by}
use Rattle.run_places.specs.Given.CallersTogether.{OverAll, KnowsSweep, Together}
use Rattle.run_places.specs.Given.FinishesMaps.{Standing}
use Rattle.run_places.specs.Given.EffectsKnown.{Known}
use Rattle.run_places.specs.Given.EffectsDeclared.role.Role.TheVariants as role
use Rattle.run_places.specs.Given.FollowsShows.{Refines}
use Rattle.run_histories.specs.Histories.Answers.{NamesPair}
use Rattle.run_places.specs.Changes.Had.{HadThen}
use Rattle.run_places.specs.Changes.Histories.{RefinesHistory}
use Rattle.run_histories.specs.Histories.Retaining.{RetainingsMayAsk}
use Rattle.run_places.proofs.Changes.Found.{FoundIn, found}
use Rattle.run_places.proofs.Changes.Had.{had_pair}
use Rattle.run_places.proofs.Changes.Logs.{each_of, now_there}
use Rattle.run_histories.proofs.Histories.Roles.{named_by}
use Rattle.run_histories.proofs.Histories.Several.{stands}
use Rattle.run_places.specs.Given.ScenesHeld.{Held, IsAt}
use Rattle.run_places.specs.Given.ScenesScene.{Scene, slot_of}
use Rattle.run_places.specs.Given.SchedulesTransition.{Past}
use Rattle.run_places.proofs.Given.General.{both_true, same_some as one_of}

-- what the finite map has of a class is in the map
pub found_there : {K V : Type 0} (same : K → K → Bool) (map : ℕ) (m : Moment K V) (k : K) (q : ℕ) → finite_map same map m k ≡ Some q → is_in_map map (m.place q) ≡ true
found_there same map m k q is =
    let it : FoundIn same map k m (length m.stored) (Some q) = subst (FoundIn same map k m (length m.stored)) is (found same map k m (length m.stored)) in
    (both_true (is_in_map map (m.place q)) (is_key same (pair_at m.stored q) k) it.2).0

module _ {K V : Type 0} (same : K → K → Bool) (hash : ℕ → K → ℕ) (name : ℕ → List ℕ) (log : Past K V) (m : Moment K V) (known : Known) (s : Scene K V) (e : Held K V)
    (at_e : IsAt same hash e s) (history : RefinesHistory same name log m known s) (map i : ℕ) (o : CallOverAll) (here : s.calls map i ≡ Some (OverAll o))
    (c : CallThere K V) (c_is : call_of (name i) m ≡ Some c)
    (fewer : (k : K) → (finite_map same map m k ≡ finite_map same map log.now k) ⊎ (finite_map same map m k ≡ None))
    (word q : ℕ) (stands_at : o.sweep.stands ≡ at.Asks word) (names : NamesPair known word q) where
  abbrev shown : Refines same name m known s
  shown = history.shown

  abbrev st : Standing K
  st = (stands same hash s e at_e map i (OverAll o) here).0

  st_is : s.maps map ≡ Some st
  st_is = (stands same hash s e at_e map i (OverAll o) here).1

  each : Together V same st.hash same st.setting slot_of s.world st.chart st.blocks st.sights (s.calls map)
  each = at_e.together.makings.standing.each map st st_is

  lawful : AreLawful same st.hash
  lawful = (at_e.together.makings.standing.fit map st st_is).0

  abbrev seen : Blocks
  seen = seen_by st.blocks (st.sights (slot_of i))

  abbrev number : ℕ → ℕ
  number = shown.number map

  its_sight : IsVisibility st.chart st.blocks (st.sights (slot_of i))
  its_sight = (each.ground.sight (slot_of i) (each.inside i (OverAll o) here)).0

  knows : KnowsSweep V same st.hash same st.setting slot_of s.world st.chart seen i o o.sweep
  knows = elim (each.stand i (OverAll o) here) as (λ _. KnowsSweep V same st.hash same st.setting slot_of s.world st.chart seen i o o.sweep) [
    | inl k ↦ k.1
    | inr k ↦ absurd (subst IsRowOfSweep stands_at k.1)
  ]

  on_map : c.map ≡ map
  on_map = let it = shown.calls map i (OverAll o) here in ap (λ (z : CallThere K V). z.map) (sym (one_of it.0 c (sym it.1 ∙ c_is))) ∙ it.2

  abbrev InMap : Moment K V → Type 0
  InMap y = is_in_map c.map (y.place q) ≡ true

  -- what a class of its map had, that pair alone, is there at one of these moments
  there_then : (k : K) (time : ℕ) → o.began ≤ time → time ≤ st.chart.now → ((p : Option ℕ) → HadThen same st number time k p → p ≡ Some q) → OneOf InMap (log.since c.begun)
  there_then k time from to is = by (history.within map i (OverAll o) here st st_is c c_is o.began refl time from to k)
    where
      so : (y : Moment K V) → finite_map same map y k ≡ Some q → InMap y
      so y has = ap (λ (z : ℕ). is_in_map z (y.place q)) on_map ∙ found_there same map y k q has

      before : finite_map same map m k ≡ Some q → (finite_map same map m k ≡ finite_map same map log.now k) ⊎ (finite_map same map m k ≡ None) → InMap log.now
      before has (inl kept) = so log.now (sym kept ∙ has)
      before has (inr gone) = absurd (cc (has, gone))

      by : OneOf (λ (y : Moment K V). HadThen same st number time k (finite_map same map y k)) (m ∷ log.since c.begun) → OneOf InMap (log.since c.begun)
      by (inl had) = now_there log history.past InMap c.begun (history.begun map i (OverAll o) here c c_is) (before (is (finite_map same map m k) had) (fewer k))
      by (inr had) = each_of (λ (y : Moment K V). HadThen same st number time k (finite_map same map y k)) InMap (log.since c.begun) (λ y h. so y (is (finite_map same map y k) h)) had

  asks : OneOf InMap (log.since c.begun)
  asks = by (subst (CoversAt st.hash st.chart seen o.sweep o.entered o.done) stands_at knows.covers)
    where
      by : CoversAt st.hash st.chart seen o.sweep o.entered o.done (at.Asks word) → OneOf InMap (log.since c.begun)
      by (covers, n, (l, known_too, phase, borrowed, word_is), about) =
          let was = about.was in
          let pair_known = its_sight.pairs n l known_too in
          let pair = each.ground.map.map.shows.pairs n l pair_known in
          let same_pair : role.Pair q ≡ role.Pair (number n) =
          sym names ∙ ap known.roles (named_by same st.hash lawful st.chart seen word n phase borrowed word_is) ∙ (shown.maps map st st_is).pairs.roles n l pair_known in
          let q_is : q ≡ number n = cc same_pair in
          there_then pair.0 was.0 (let began = knows.from in let entered = was.1 in omega (arith, began, entered)) was.2
          (λ p h. had_pair same st number was.0 pair.0 p h n (l, was.3, pair.0, pair.3, lawful.lawful.classes.refl pair.0) ∙ ap Some (sym q_is))

pub retainings_may_ask : (K V : Type 0) (same : K → K → Bool) (hash : ℕ → K → ℕ) → RetainingsMayAsk K V same hash
retainings_may_ask K V same hash name log m known s e at_e history map i o here c c_is fewer word q stands_at names =
    asks same hash name log m known s e at_e history map i o here c c_is fewer word q stands_at names
