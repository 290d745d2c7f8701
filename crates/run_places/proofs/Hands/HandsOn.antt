-- After a step of a call, what the moment has in maps is in use there, or left over.
use Rattle.std.specs.Prelude.{◌≡◌, ℕ, ◌<◌, ◌≤◌, Bool, true, List, length, Option, Some, None}
use Rattle.std.proofs.Common.{refl, ap, sym, subst, ◌∙◌, arith, inl, inr}
use Rattle.std.proofs.lemmas.Bool.{eq-eqb}
use Rattle.run_shows.specs.Given.SeizeWorld.{Hand, InUse}
use Rattle.run_shows.specs.Given.RunsDeclared.effect.TableId.{TableId}
use Rattle.run_shows.specs.Given.SchedulesMoment.{Place, Unborn, InMap, Out, Handed, Behind, Left, GivenBack, MapThere, UnderWay as CallThere, Moment}
use Rattle.run_shows.specs.Given.SchedulesViews.{is_in_map, is_in_a_map, map_at}
use Rattle.run_shows.specs.Given.RuleInWorld.{IsMapIn}
use Rattle.run_shows.proofs.Given.RuleLaws.{current_is_known}
use Rattle.run_shows.specs.Given.CallersTogether.{UnderWay}
use Rattle.run_shows.specs.Given.EffectsKnown.{Known}
use Rattle.run_shows.specs.Given.EffectsDeclared.role.Role.TheVariants as role
use Rattle.run_shows.specs.Given.FinishesMaps.{Standing}
use Rattle.run_shows.specs.Follows.Shows.{Refines}
use Rattle.run_shows.proofs.Follows.Going.{ComesToBe, ShowsOn}
use Rattle.run_shows.proofs.Follows.Onward.{IsOfMap}
use Rattle.run_places.specs.Hands.Hands.{IsInUse, RefinesHands}
use Rattle.run_shows.specs.Scenes.Held.{Held, IsAt}
use Rattle.run_shows.specs.Scenes.Scene.{Scene}
use Rattle.run_shows.proofs.Given.General.{same_some as one_of}

pub used_as : (h h2 : Hand) → h2 ≡ h → IsInUse h → IsInUse h2
used_as h h2 e used = subst IsInUse (sym e) used

pub in_use : (h : Hand) (o : ℕ) → h ≡ InUse o → IsInUse h
in_use h o e = subst IsInUse (sym e) tt

-- in some map is in one of a number
pub in_one : (p : Place) → is_in_a_map p ≡ true → (map : ℕ) × (p ≡ InMap map)
in_one (InMap map) e = (map, refl)
in_one Unborn e = absurd (cc e)
in_one Out e = absurd (cc e)
in_one Handed e = absurd (cc e)
in_one Behind e = absurd (cc e)
in_one Left e = absurd (cc e)
in_one GivenBack e = absurd (cc e)

-- so it is where nothing but calls has changed
pub hands_with : {K V : Type 0} (m : Moment K V) (known : Known) (s : Scene K V) (calls : List (CallThere K V)) (calls2 : ℕ → ℕ → Option (UnderWay K V K)) → RefinesHands m known s
    → RefinesHands (record m { calls = calls }) known (record s { calls = calls2 })
hands_with m known s calls calls2 h = record { pairs = h.pairs; tables = h.tables; born = h.born; stand = h.stand }

module _ {K V : Type 0} (same : K → K → Bool) (hash : ℕ → K → ℕ) (name : ℕ → List ℕ) (m : Moment K V) (known : Known) (s : Scene K V) (shown : Refines same name m known s) (hands : RefinesHands m known s)
    (m2 : Moment K V) (known2 : Known) (s2 : Scene K V) (on : ShowsOn same name m known s shown m2 known2 s2) (new : Held K V) (at : IsAt same hash new s2)
    (pairs : (b n map : ℕ) → known.roles b ≡ role.Pair n → m.place n ≡ InMap map → s.maps map ≡ None → IsInUse (s.world.hand b) → IsInUse (s2.world.hand b))
    (tables : (b len : ℕ) (t : TableId) → known.roles b ≡ role.Table t len → s.maps t.map ≡ None → IsInUse (s.world.hand b) → IsInUse (s2.world.hand b)) where
  abbrev MapThen : Standing K → Type 0
  MapThen st = IsMapIn same st.hash st.setting s2.world st.chart st.blocks

  map_then : (map : ℕ) (st : Standing K) → s2.maps map ≡ Some st → MapThen st
  map_then map st there = (at.together.makings.standing.each map st there).ground.map

  -- a map that does not stand then did not before
  not_before : (map : ℕ) → s2.maps map ≡ None → s.maps map ≡ None
  not_before map gone = by (s.maps map) refl
    where
      by : (o : Option (Standing K)) → s.maps map ≡ o → s.maps map ≡ None
      by None e = e
      by (Some st) e = absurd (let stood = on.stood map st e in let there = stood.1 in cc (gone, there))

  -- the pair of a map that stands is in use
  pair_stands : (b n map : ℕ) (st : Standing K) → s2.maps map ≡ Some st → known2.roles b ≡ role.Pair n → m2.place n ≡ InMap map → IsInUse (s2.world.hand b)
  pair_stands b n map st there is at_map =
      let pairs_then = (on.shows.maps map st there).pairs in
      let it = pairs_then.all n at_map in
      let current : st.chart.current it.0 ≡ true = sym (pairs_then.here it.0 it.1) ∙ ap (λ (x : ℕ). is_in_map map (m2.place x)) (sym it.2) ∙ ap (is_in_map map) at_map ∙ eq-eqb map map refl in
      let seen = current_is_known same st.hash st.setting s2.world.memory st.chart st.blocks (map_then map st there).map.rule (map_then map st there).map.shows it.0 current in
      let its_role : known2.roles (st.blocks.pair it.0) ≡ role.Pair n = pairs_then.roles it.0 seen.0 seen.1 ∙ ap role.Pair (sym it.2) in
      let one = on.shows.blocks.once b (st.blocks.pair it.0) n is its_role in
      used_as (s2.world.hand (st.blocks.pair it.0)) (s2.world.hand b) (ap s2.world.hand one) (in_use (s2.world.hand (st.blocks.pair it.0)) st.setting.counter ((map_then map st there).pairs it.0 current))

  -- a pair that was stored before had its role
  role_before : (b n : ℕ) → n ≤ length m.stored → known2.roles b ≡ role.Pair n → known.roles b ≡ role.Pair n
  role_before b n few is = elim (on.back b (subst IsOfMap (sym is) tt)) as (λ _. known.roles b ≡ role.Pair n) [
    | inl was ↦ was ∙ is
    | inr new_one ↦ absurd (let next = subst (ComesToBe known s s2 b) is new_one in let many = shown.blocks.stored in omega (arith, next, few, many))
  ]

  pair_on : (b n map : ℕ) → known2.roles b ≡ role.Pair n → m2.place n ≡ InMap map → IsInUse (s2.world.hand b)
  pair_on b n map is at_map = by (s2.maps map) refl
    where
      by : (o : Option (Standing K)) → s2.maps map ≡ o → IsInUse (s2.world.hand b)
      by (Some st) there = pair_stands b n map st there is at_map
      by None gone =
          let alike = on.none map (not_before map gone) in
          let was_there = alike.1.all n at_map in
          let was_role = role_before b n (hands.born n map was_there).0 is in
          pairs b n map was_role was_there (not_before map gone) (hands.pairs b n was_role (ap is_in_a_map was_there))

  pub stand_on : (b len : ℕ) (t : TableId) (st : Standing K) → known2.roles b ≡ role.Table t len → s2.maps t.map ≡ Some st → (t.turn < st.chart.past) × (st.chart.first ≤ t.turn → b ≡ st.blocks.table t.turn)
  stand_on b len t st is there = by (s.maps t.map) refl
    where
      Goal : Standing K → Type 0
      Goal x = (t.turn < x.chart.past) × (x.chart.first ≤ t.turn → b ≡ x.blocks.table t.turn)

      by : (o : Option (Standing K)) → s.maps t.map ≡ o → Goal st
      by None gone = absurd (let none = (on.none t.map gone).0 in cc (none, there))
      by (Some before) was =
          let stood = on.stood t.map before was in
          let is_st : stood.0 ≡ st = one_of stood.0 st (sym stood.1 ∙ there) in
          subst Goal is_st (elim (on.back b (subst IsOfMap (sym is) tt)) as (λ _. Goal stood.0) [
            | inl old ↦
                let had = hands.stand b len t before (old ∙ is) was in
                let l = had.0 in let more = stood.2.past in let later = stood.2.first in
                (omega (arith, l, more), λ from. had.1 (omega (arith, from, later)) ∙ sym (stood.2.tables t.turn l))
            | inr new_one ↦
                let k = subst (ComesToBe known s s2 b) is new_one in
                let after_is : k.1 ≡ stood.0 = one_of k.1 stood.0 (sym k.3 ∙ stood.1) in
                subst Goal after_is (let turn = k.4 in let next = k.5 in omega (arith, turn, next), λ from. k.6 ∙ ap k.1.blocks.table (sym k.4))
          ])

  table_on : (b len : ℕ) (t : TableId) (there : MapThere) → known2.roles b ≡ role.Table t len → map_at t.map m2 ≡ Some there → there.first ≤ t.turn → IsInUse (s2.world.hand b)
  table_on b len t there is at_map from = by (s2.maps t.map) refl
    where
      by : (o : Option (Standing K)) → s2.maps t.map ≡ o → IsInUse (s2.world.hand b)
      by (Some st) stands =
          let shows = (on.shows.maps t.map st stands).there in
          let same_one : shows.there ≡ there = one_of shows.there there (sym shows.is ∙ at_map) in
          let first : there.first ≡ st.chart.first = ap (λ (x : MapThere). x.first) (sym same_one) ∙ shows.first in
          let had = stand_on b len t st is stands in
          let home : st.chart.first ≤ t.turn = omega (arith, from, first) in
          used_as (s2.world.hand (st.blocks.table t.turn)) (s2.world.hand b) (ap s2.world.hand (had.1 home))
          (in_use (s2.world.hand (st.blocks.table t.turn)) st.setting.counter ((map_then t.map st stands).tables t.turn home had.0))
      by None gone =
          let alike = on.none t.map (not_before t.map gone) in
          let was_role : known.roles b ≡ role.Table t len = elim (on.back b (subst IsOfMap (sym is) tt)) as (λ _. known.roles b ≡ role.Table t len) [
            | inl old ↦ old ∙ is
            | inr new_one ↦ absurd (let k = subst (ComesToBe known s s2 b) is new_one in let stood = k.2 in let none = not_before t.map gone in cc (stood, none))
          ] in
          tables b len t was_role (not_before t.map gone) (hands.tables b len t there was_role (sym alike.2 ∙ at_map) from)

  born_on : (n map : ℕ) → m2.place n ≡ InMap map → (n ≤ length m2.stored) × ((m2.born n).map ≡ map)
  born_on n map at_map = by (s2.maps map) refl
    where
      by : (o : Option (Standing K)) → s2.maps map ≡ o → (n ≤ length m2.stored) × ((m2.born n).map ≡ map)
      by (Some st) there =
          let pairs_then = (on.shows.maps map st there).pairs in
          let it = pairs_then.all n at_map in
          let few = (pairs_then.numbered it.0 it.1).1 in let e = it.2 in
          (omega (arith, few, e), ap (λ (x : ℕ). (m2.born x).map) it.2 ∙ pairs_then.born it.0 it.1)
      by None gone =
          let alike = (on.none map (not_before map gone)).1 in
          let was = hands.born n map (alike.all n at_map) in
          let few = was.0 in let more = alike.stored in
          (omega (arith, few, more), alike.born n was.0 ∙ was.1)

  pub hands_on : RefinesHands m2 known2 s2
  hands_on = record {
    pairs = λ b n is there. (let it = in_one (m2.place n) there in pair_on b n it.0 is it.1);
    tables = table_on;
    born = born_on;
    stand = stand_on;
  }
