-- What a call has come to lasts where its map goes on, and the run with it.
use Rattle.std.specs.Prelude.{◌≡◌, ℕ, Bool, ◌<◌, ◌≤◌, true, false, List, ◌∷◌}
use Rattle.std.specs.List.{AllByRecursion}
use Rattle.std.proofs.Common.{refl, sym, subst, arith}
use Rattle.run_finds.specs.Given.SchedulesMoment.{UnderWay as CallThere, Moment}
use Rattle.run_finds.specs.Given.SchedulesViews.{is_in_map}
use Rattle.run_finds.specs.Given.ReservesDeclared.sweep.Purpose.TheVariants.{Walks}
use Rattle.run_finds.specs.Given.CallersOverAll.{CallOverAll}
use Rattle.run_finds.specs.Given.CallersTogether.{UnderWay, OnKey, ForRoom, Counting, OverAll}
use Rattle.run_finds.specs.Given.FinishesMaps.{Standing}
use Rattle.run_finds.specs.Given.ChangesHistories.{since, IsPast, IsWithin}
use Rattle.run_finds.proofs.Given.ChangesLater.{IsLater}
use Rattle.run_sweeps.specs.Purposes.Kept.{PairsChangeFirst}
use Rattle.run_finds.specs.Purposes.Purposes.{PairsWithin, HasAdded, HasMet, KeysOf, HasSwept, HasCome}
use Rattle.run_sweeps.proofs.Purposes.Done.{tells_kept}
use Rattle.run_sweeps.proofs.Purposes.Lists.{all_on}
use Rattle.run_sweeps.proofs.Purposes.Shown.{IsStill}
use Rattle.run_sweeps.proofs.Purposes.Within.{pairs_within_on}
use Rattle.run_finds.specs.Given.SchedulesTransition.{Past}

module _ {K V : Type 0} (same : K → K → Bool) (of : ℕ) (st st2 : Standing K) (number number2 : ℕ → ℕ) (later : IsLater st.chart st2.chart) (first : st.chart.first ≤ st2.chart.first) (numbers : (n : ℕ) → n < st.chart.stored → number2 n ≡ number n)
    (log : Past K V) (is_past : IsPast log) (m v : Moment K V) (c d : CallThere K V) (still : IsStill c d) (begun : c.begun ≤ log.entries) (changes : PairsChangeFirst log m of v)
    (now_stored : (n : ℕ) → st2.chart.was st2.chart.now n ≡ true → n < st2.chart.stored)
    (now_there : (n : ℕ) → n < st2.chart.stored → is_in_map of (v.place (number2 n)) ≡ st2.chart.was st2.chart.now n)
    (absent : (n : ℕ) → st.chart.stored ≤ n → n < st2.chart.stored → is_in_map of (m.place (number2 n)) ≡ false) where
  pub within_over : (began : ℕ) → PairsWithin of st number (since log m c) began → PairsWithin of st2 number2 (since log v d) began
  within_over began within =
      subst (λ (b : ℕ). PairsWithin of st2 number2 (v ∷ log.since b) began) (sym still.begun)
      (pairs_within_on of st st2 number number2 later numbers log is_past m v c.begun begun changes now_stored now_there absent began within)

  pub below_over : (done : List ℕ) → AllByRecursion (λ k. k < st.chart.stored) done → AllByRecursion (λ k. k < st2.chart.stored) done
  below_over done below = all_on (λ k. k < st.chart.stored) (λ k. k < st2.chart.stored) (λ k l. (let g = later.stored in omega (arith, l, g))) done below

  pub come_over : (u : UnderWay K V K)
      → ((o : CallOverAll) → u ≡ OverAll o → HasSwept same of st number (since log m c) o c → o.sweep.purpose ≡ Walks → KeysOf same st2 o)
      → ((began : ℕ) → IsWithin same of st number (since log m c) began → IsWithin same of st2 number2 (since log v d) began) → HasCome same of st number log m u c → HasCome same of st2 number2 log v u d
  come_over (OnKey u) carries on h = tt
  come_over (ForRoom r) carries on h =
      subst (λ (b : ℕ). HasMet of st2 (log.since b) r) (sym still.begun)
      (record { low = h.low; was = h.was; root = (let l = h.root in omega (arith, l, first)); point = h.point; reserves = h.reserves; needs = h.needs })
  come_over (Counting sum) carries on h = subst (λ (b : ℕ). HasAdded of (log.since b) sum.setting.mask sum.stands) (sym still.begun) h
  come_over (OverAll o) carries on h = record {
    within = within_over o.began h.within;
    stored = below_over o.done h.stored;
    tells = tells_kept number number2 st.chart.stored numbers c d still o.done h.stored h.tells;
    none = h.none;
    keys = λ walks. carries o refl h walks;
    classes = on o.began h.classes;
  }
