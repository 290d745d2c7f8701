-- At each moment of a run all is in order, and each map is counted.
use Rattle.std.specs.Prelude.{◌≡◌, ℕ, ◌+◌, ◌%◌, ◌^◌, ◌==◌, Bool, is_some, List, [], ◌∷◌, sum_by, Option, if◌then◌else◌}
use Rattle.std.specs.List.{AllByRecursion}
use Rattle.std.proofs.Common.{refl, ap, ◌∙◌, arith}
use Rattle.run_finds.specs.Given.SchedulesAfter.{moment}
use Rattle.run_finds.specs.Given.SchedulesEntry.{Entry}
use Rattle.run_finds.specs.Given.SchedulesMoment.{MapThere, UnderWay, Moment}
use Rattle.run_finds.specs.Given.SchedulesRuns.{IsLegalLog}
use Rattle.run_finds.specs.Given.SchedulesTerms.{Terms, shards_of}
use Rattle.run_finds.specs.Given.SchedulesViews.{size_of}
use Rattle.run_finds.specs.Waiting.{once_if}
use Rattle.run_finds.proofs.Lists.{all_so}
use Rattle.run_finds.proofs.Runs.{all_in_order_at_first}
use Rattle.run_sweeps.specs.Sizes.Sizes.{ShardsSaySize, ShardsComeToSize, lost_on}
use Rattle.run_sweeps.proofs.Sizes.Balance.{minus_of}
use Rattle.run_sweeps.proofs.Sizes.Beginning.{Counted}
use Rattle.run_sweeps.proofs.Sizes.Events.{IsSo, then_so}
use Rattle.run_sweeps.proofs.Sizes.Settled.{IsSettled}
use Rattle.run_sweeps.proofs.Sizes.Sums.{sums_same}

module _ {K V : Type 0} where
  -- between events what is missing is what was taken out and not counted
  pub minus_is_lost : (k : ℕ) (m : Moment K V) → AllByRecursion IsSettled m.calls → sum_by (minus_of k) m.calls ≡ lost_on k m.calls
  minus_is_lost k m settled = sums_same (minus_of k) (λ c. if k == c.map then c.lost else 0) m.calls (all_so IsSettled (λ c. minus_of k c ≡ (if k == c.map then c.lost else 0)) one m.calls settled)
    where
      one : (c : UnderWay K V) → IsSettled c → minus_of k c ≡ (if k == c.map then c.lost else 0)
      one c its =
          let none : c.lost + once_if (is_some c.replacing) ≡ c.lost = (let nothing : once_if (is_some c.replacing) ≡ 0 = ap (λ (o : Option ℕ). once_if (is_some o)) its.replacing in omega (arith, nothing)) in
          ap (λ (n : ℕ). if k == c.map then n else 0) none

  pub all_so_far : (eq : K → K → Bool) (terms : Terms) (log : List (Entry K V)) → IsLegalLog eq terms log → IsSo (shards_of terms) (moment log)
  all_so_far eq terms [] legal = let first = all_in_order_at_first K V in record { order = first; owes = tt; settled = tt; words = record { small = λ k s. omega arith; blank = λ k s past. refl }; counted = tt }
  all_so_far eq terms (e ∷ log) legal = then_so eq terms log e legal.0 (all_so_far eq terms log legal.1)

pub shards_say_size : (K V : Type 0) → ShardsSaySize K V
shards_say_size K V eq terms log legal =
    let so = all_so_far eq terms log legal in
    all_so (λ (f : MapThere). Counted (shards_of terms) (moment log) f.number) (ShardsComeToSize (shards_of terms) (moment log))
    (λ f its. its ∙ ap (λ (n : ℕ). (size_of f.number (moment log) + n) % 2 ^ 64) (minus_is_lost f.number (moment log) so.settled)) (moment log).maps so.counted
