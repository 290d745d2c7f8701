-- Where pairs were copied from is so still wherever tables are as they were, and pairs lie where they lay: as others than calls take steps, or an event begins, or is over.
use Rattle.std.specs.Prelude.{◌≡◌, ℕ, suc, ◌-◌, ◌<◌, ◌≤◌, true, length, Some}
use Rattle.std.proofs.Common.{ap, sym, subst, ◌∙◌, arith, inl, inr}
use Rattle.run_finds.specs.Given.TablesChunks.{is_incremental}
use Rattle.run_finds.specs.Given.RunsDeclared.effect.Spot.{Spot}
use Rattle.run_finds.specs.Given.RunsDeclared.effect.TableId.{TableId}
use Rattle.run_finds.specs.Given.SchedulesMoment.{Moment}
use Rattle.run_finds.specs.Given.EffectsKnown.{Known}
use Rattle.run_finds.specs.Given.FinishesMaps.{Standing}
use Rattle.run_finds.specs.Given.FollowsMaps.{RefinesMap}
use Rattle.run_finds.specs.Given.RuleChart.{Chart}
use Rattle.run_grows.specs.Sources.Sources.{AreNumbered, CameFromPlaces, HasSource, WereLeft}
use Rattle.run_grows.specs.Sources.Stays.{MapIsAsBefore, PairsStay, SourcesStay}
use Rattle.run_grows.proofs.Sources.Rising.{same_numbers}

module _ {K V : Type 0} (map : ℕ) (number number2 : ℕ → ℕ) (st st2 : Standing K) (m v : Moment K V) (known known2 : Known) (pairs : PairsStay m v) (same_chart : st2.chart ≡ st.chart)
    (shown : RefinesMap map number st m known) (shown2 : RefinesMap map number2 st2 v known2) (numbered : AreNumbered map number st m) where
  as_many : st2.chart.stored ≡ st.chart.stored
  as_many = ap (λ (c : Chart K). c.stored) same_chart

  -- each pair has the number that it had
  pub numbers_stay : (n : ℕ) → n < st.chart.stored → number2 n ≡ number n
  numbers_stay n l =
      same_numbers number number2 st.chart.stored shown.pairs.rising (λ x y less l2. shown2.pairs.rising x y less (omega (arith, l2, as_many))) among n (st.chart.stored - suc n) l (omega (arith, l))
    where
      among : (n : ℕ) → n < st.chart.stored → (x : ℕ) × (x < st.chart.stored) × (number x ≡ number2 n)
      among n l =
          let here : n < st2.chart.stored = omega (arith, l, as_many) in
          let there = shown2.pairs.numbered n here in
          let old : number2 n ≤ length m.stored = (let most = there.1 in let more = pairs.stored in omega (arith, most, more)) in
          numbered (number2 n) there.0 old (ap (λ (t : TableId). t.map) (sym (pairs.born (number2 n) old)) ∙ shown2.pairs.born n here)

  numbered_still : AreNumbered map number2 st2 v
  numbered_still k some most is =
      let old : k ≤ length m.stored = (let more = pairs.stored in omega (arith, most, more)) in
      let it = numbered k some old (ap (λ (t : TableId). t.map) (sym (pairs.born k old)) ∙ is) in
      (it.0, (let l = it.1 in omega (arith, l, as_many)), numbers_stay it.0 it.1 ∙ it.2)

  came_still : CameFromPlaces st.chart number m → CameFromPlaces st2.chart number2 v
  came_still came n l ahead =
      let here : n < st.chart.stored = omega (arith, l, as_many) in
      let is = numbers_stay n here in
      let old : number n ≤ length m.stored = (shown.pairs.numbered n here).1 in
      let born : v.born (number2 n) ≡ m.born (number n) = ap v.born is ∙ pairs.born (number n) old in
      let spot : v.spot (number2 n) ≡ m.spot (number n) = ap v.spot is ∙ pairs.spot (number n) old in
      subst (λ (c : Chart K). HasSource c n (v.spot (number2 n)).turn) (sym same_chart)
      (subst (λ (x : Spot). HasSource st.chart n x.turn) (sym spot)
      (came n here (subst (λ (x : TableId). x.turn < (m.spot (number n)).turn) born (subst (λ (x : Spot). (v.born (number2 n)).turn < x.turn) spot ahead))))

-- what was removed lay where it lies
left_still : {K V : Type 0} (map : ℕ) (m v : Moment K V) → PairsStay m v → (c : Chart K) → WereLeft c map m → WereLeft c map v
left_still map m v pairs c left x i mark is =
    let it = left x i mark is in
    (it.0, it.1, (let most = it.2 in let more = pairs.stored in omega (arith, most, more)), ap (λ (y : TableId). y.map) (pairs.born it.0 it.2) ∙ it.3, pairs.spot it.0 it.2 ∙ it.4)

pub sources_stay : (K V : Type 0) → SourcesStay K V
sources_stay K V same name m v known known2 s t sources shown2 pairs stands = record {
  shown = shown2;
  numbered = λ map st2 there. by_numbers map st2 there (stands map st2 there);
  came = λ map st2 there chunks. by_came map st2 there chunks (stands map st2 there);
  left = λ map st2 there. by_left map st2 there (stands map st2 there);
}
  where
    by_numbers : (map : ℕ) (st2 : Standing K) (there : t.maps map ≡ Some st2) → MapIsAsBefore m v s map st2 → AreNumbered map (shown2.number map) st2 v
    by_numbers map st2 there (inl (st, was, is, mode)) =
        numbered_still map (sources.shown.number map) (shown2.number map) st st2 m v known known2 pairs is (sources.shown.maps map st was) (shown2.maps map st2 there) (sources.numbered map st was)
    by_numbers map st2 there (inr (none, nobody, bare)) = λ k some most is. absurd (nobody k some most is)

    by_came : (map : ℕ) (st2 : Standing K) (there : t.maps map ≡ Some st2) → is_incremental st2.setting.mode ≡ true → MapIsAsBefore m v s map st2 → CameFromPlaces st2.chart (shown2.number map) v
    by_came map st2 there chunks (inl (st, was, is, mode)) =
        came_still map (sources.shown.number map) (shown2.number map) st st2 m v known known2 pairs is (sources.shown.maps map st was) (shown2.maps map st2 there) (sources.numbered map st was)
        (sources.came map st was (mode ∙ chunks))
    by_came map st2 there chunks (inr (none, nobody, bare)) = λ n l ahead. absurd (omega (arith, l, none))

    by_left : (map : ℕ) (st2 : Standing K) (there : t.maps map ≡ Some st2) → MapIsAsBefore m v s map st2 → WereLeft st2.chart map v
    by_left map st2 there (inl (st, was, is, mode)) = left_still map m v pairs st2.chart (subst (λ (c : Chart K). WereLeft c map m) (sym is) (sources.left map st was))
    by_left map st2 there (inr (none, nobody, bare)) = λ x i mark is. absurd (bare x i mark is)
