-- A map that has the pairs that it had has the same numbers at both moments.
use Rattle.std.specs.Prelude.{◌≡◌, ℕ, ◌<◌, Bool, true, false}
use Rattle.std.proofs.Common.{refl, ap, sym, subst, ◌∙◌}
use Rattle.run_finds.specs.Given.SchedulesMoment.{Moment}
use Rattle.run_finds.specs.Given.SchedulesViews.{is_in_map}
use Rattle.run_finds.specs.Given.FinishesMaps.{Standing}
use Rattle.run_finds.specs.Given.EffectsKnown.{Known}
use Rattle.run_finds.specs.Given.FollowsMaps.{RefinesPairs}
use Rattle.run_finds.proofs.Given.FollowsStored.{in_map_true}

module _ {K V : Type 0} (of : ℕ) where
  -- what one of them has, the other has
  there_too : (m m2 : Moment K V) (known known2 : Known) (st st2 : Standing K) (number number2 : ℕ → ℕ) → RefinesPairs of number st m known → RefinesPairs of number2 st2 m2 known2
      → st2.chart.stored ≡ st.chart.stored → st2.chart.current ≡ st.chart.current → ((n : ℕ) → n < st.chart.stored → number2 n ≡ number n)
      → (q : ℕ) → is_in_map of (m2.place q) ≡ true → is_in_map of (m.place q) ≡ true
  there_too m m2 known known2 st st2 number number2 pairs pairs2 stored current numbers q is =
      let it = pairs2.all q (in_map_true of (m2.place q) is) in
      let l : it.0 < st.chart.stored = subst (λ (x : ℕ). it.0 < x) stored it.1 in
      let now = sym (pairs2.here it.0 it.1) ∙ ap (λ (x : ℕ). is_in_map of (m2.place x)) (sym it.2) ∙ is in
      ap (λ (x : ℕ). is_in_map of (m.place x)) (it.2 ∙ numbers it.0 l) ∙ pairs.here it.0 l ∙ ap (λ (f : ℕ → Bool). f it.0) (sym current) ∙ now

  -- so both have the same
  pub alike : (m m2 : Moment K V) (known known2 : Known) (st st2 : Standing K) (number number2 : ℕ → ℕ) → RefinesPairs of number st m known → RefinesPairs of number2 st2 m2 known2
      → st2.chart.stored ≡ st.chart.stored → st2.chart.current ≡ st.chart.current → ((n : ℕ) → n < st.chart.stored → number2 n ≡ number n)
      → (q : ℕ) → is_in_map of (m2.place q) ≡ is_in_map of (m.place q)
  alike m m2 known known2 st st2 number number2 pairs pairs2 stored current numbers q =
      by (is_in_map of (m2.place q)) (is_in_map of (m.place q))
      (there_too m m2 known known2 st st2 number number2 pairs pairs2 stored current numbers q)
      (there_too m2 m known2 known st2 st number2 number pairs2 pairs (sym stored) (sym current) (λ n l. sym (numbers n (subst (λ (x : ℕ). n < x) stored l))) q)
    where
      by : (a b : Bool) → (a ≡ true → b ≡ true) → (b ≡ true → a ≡ true) → a ≡ b
      by true b forth back = sym (forth refl)
      by false true forth back = back refl
      by false false forth back = refl
