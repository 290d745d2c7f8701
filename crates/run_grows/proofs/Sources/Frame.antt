-- Numbers and sources of a map's pairs after a step: of those that were there, and of one that is new.
use Rattle.std.specs.Prelude.{◌≡◌, ℕ, ◌+◌, ◌<◌, ◌≤◌, length}
use Rattle.std.proofs.Common.{ap, sym, subst, ◌∙◌, arith, inl, inr}
use Rattle.std.proofs.lemmas.Bool.{cases_lt}
use Rattle.run_finds.specs.Given.RunsDeclared.effect.TableId.{TableId}
use Rattle.run_finds.specs.Given.SchedulesMoment.{Moment}
use Rattle.run_finds.specs.Given.EffectsKnown.{Known}
use Rattle.run_finds.specs.Given.FinishesMaps.{Standing}
use Rattle.run_finds.specs.Given.FollowsMaps.{RefinesMap}
use Rattle.run_grows.specs.Sources.Sources.{AreNumbered, CameFromPlaces, HasSource}

module _ {K V : Type 0} (map : ℕ) (number number2 : ℕ → ℕ) (st st2 : Standing K) (m v : Moment K V) (known known2 : Known) (shown : RefinesMap map number st m known) (shown2 : RefinesMap map number2 st2 v known2)
    (numbered : AreNumbered map number st m) (same_numbers : (n : ℕ) → n < st.chart.stored → number2 n ≡ number n) (born : (k : ℕ) → k ≤ length m.stored → v.born k ≡ m.born k)
    (more : st.chart.stored ≤ st2.chart.stored)
    (news : (k : ℕ) → length m.stored < k → k ≤ length v.stored → (v.born k).map ≡ map → ((v.born k).turn ≡ (v.spot k).turn) × (st.chart.stored < st2.chart.stored) × (k ≡ length m.stored + 1)) where
  -- a number that is later in the map is that of a new pair
  later_is_new : (n : ℕ) → st.chart.stored ≤ n → n < st2.chart.stored → length m.stored < number2 n
  later_is_new n late l = elim (cases_lt (length m.stored) (number2 n)) as (λ _. length m.stored < number2 n) [
    | inl new ↦ new
    | inr not_less ↦ absurd
        (let there = shown2.pairs.numbered n l in
        let old : number2 n ≤ length m.stored = omega (arith, not_less) in
        let it = numbered (number2 n) there.0 old (ap (λ (t : TableId). t.map) (sym (born (number2 n) old)) ∙ shown2.pairs.born n l) in
        let is : number2 it.0 ≡ number2 n = same_numbers it.0 it.1 ∙ it.2 in
        let its = it.1 in
        let up = shown2.pairs.rising it.0 n (omega (arith, its, late)) l in
        omega (arith, is, up))
  ]

  news_at : (n : ℕ) → st.chart.stored ≤ n → (l : n < st2.chart.stored) → ((v.born (number2 n)).turn ≡ (v.spot (number2 n)).turn) × (st.chart.stored < st2.chart.stored) × (number2 n ≡ length m.stored + 1)
  news_at n late l = news (number2 n) (later_is_new n late l) (shown2.pairs.numbered n l).1 (shown2.pairs.born n l)

  pub numbered_then : AreNumbered map number2 st2 v
  numbered_then k some most is = elim (cases_lt (length m.stored) k) as (λ _. (n : ℕ) × (n < st2.chart.stored) × (number2 n ≡ k)) [
    | inl new ↦
        let it = news k new most is in
        let one = news_at st.chart.stored (omega arith) it.1 in
        (st.chart.stored, it.1, one.2 ∙ sym it.2)
    | inr not_less ↦
        let old : k ≤ length m.stored = omega (arith, not_less) in
        let it = numbered k some old (ap (λ (t : TableId). t.map) (sym (born k old)) ∙ is) in
        (it.0, (let l = it.1 in omega (arith, l, more)), same_numbers it.0 it.1 ∙ it.2)
  ]

  pub came_then : ((n : ℕ) → n < st.chart.stored → (v.born (number n)).turn < (v.spot (number n)).turn → HasSource st2.chart n (v.spot (number n)).turn) → CameFromPlaces st2.chart number2 v
  came_then old n l ahead = elim (cases_lt n st.chart.stored) as (λ _. HasSource st2.chart n (v.spot (number2 n)).turn) [
    | inl was ↦
        subst (λ (k : ℕ). HasSource st2.chart n (v.spot k).turn) (sym (same_numbers n was))
        (old n was (subst (λ (k : ℕ). (v.born k).turn < (v.spot k).turn) (same_numbers n was) ahead))
    | inr not_less ↦ absurd (let is = (news_at n (omega (arith, not_less)) l).0 in omega (arith, is, ahead))
  ]
