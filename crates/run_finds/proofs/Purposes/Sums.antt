-- A step of a counting adds the shard that it reads, as it was at the last moment of the run.
use Rattle.std.specs.Prelude.{◌≡◌, ℕ, zero, suc, ◌+◌, ◌%◌, ◌^◌, ◌≤◌, false, nat_lt, List, Some}
use Rattle.std.proofs.Common.{refl, ap, sym, subst, ◌∙◌, arith, inl, inr}
use Rattle.run_finds.specs.Given.SeizeWordsMem.{Mem, Took, value_at, word_at}
use Rattle.run_finds.specs.Given.SeizeWordsPlan.{Now, Steps}
use Rattle.run_finds.specs.Given.SeizeWordsDeclared.at.At.TheVariants.{Word}
use Rattle.run_finds.proofs.Given.SeizeWordsOneOwner.Operations.{loaded}
use Rattle.run_finds.proofs.Given.SeizeWordsPlans.{ends_if}
use Rattle.run_finds.specs.Given.SeizeDeclared.advance.Advance.{Advance}
use Rattle.run_finds.specs.Given.SeizeDeclared.advance.Advance.TheVariants as progress
use Rattle.run_finds.specs.Given.TablesCounts.{count_in}
use Rattle.run_finds.specs.Given.TablesDeclared.node.Node.{Node}
use Rattle.run_finds.specs.Given.ResizeSum.{sum_plan, plan_at, added, summed, standing}
use Rattle.run_finds.specs.Given.ResizeDeclared.sum.Sum.{Sum}
use Rattle.run_finds.specs.Given.ResizeDeclared.sum.Summing.{Summing}
use Rattle.run_finds.specs.Given.ResizeDeclared.sum.Summing.TheVariants as sums
use Rattle.run_finds.specs.Given.SchedulesCounts.{AddsUp, Counts}
use Rattle.run_finds.specs.Given.SchedulesLists.{OneOf}
use Rattle.run_finds.specs.Given.SchedulesMoment.{Moment}
use Rattle.run_finds.specs.Given.PointsFactsTables.{CountsShards}
use Rattle.run_finds.proofs.Given.ChangesLogs.{each_of}
use Rattle.run_finds.specs.Purposes.Purposes.{HasAdded}
use Rattle.run_finds.proofs.Given.General.{same_some as same_word, less_not as past}

module _ {K V : Type 0} (of : ℕ) (moments : List (Moment K V)) (mem : Mem (Node K V)) (c : Sum) (now : Moment K V)
    (last : (P : Moment K V → Type 0) → P now → OneOf P moments)
    (reads : (shard : ℕ) → shard ≤ c.setting.mask → word_at mem (Word c.setting.counter shard) ≡ Some (now.shards of shard)) where
  -- it has one shard more, or the count of all
  abbrev pub After : Sum × Advance ℕ → Type 0
  After (c2, progress.Goes) = (c2.setting ≡ c.setting) × HasAdded of moments c.setting.mask c2.stands
  After (c2, progress.Done count) = Counts (suc c.setting.mask) of moments count
  After (c2, _) = ⊥

  both : (a b x y : ℕ) → a ≡ b → x ≡ y → sums.Adds a x ≡ sums.Adds b y
  both a b x y e f = cc (e, f)

  module _ (shard total sum : ℕ) (few : shard ≤ c.setting.mask) (up : AddsUp of moments shard sum) (is : total ≡ sum % 2 ^ 64) (word : ℕ) (word_is : word ≡ now.shards of shard) where
    more : AddsUp of moments (suc shard) (sum + word)
    more = last (λ m. (rest : ℕ) × AddsUp of moments shard rest × (sum + word ≡ rest + m.shards of shard)) (sum, up, ap (λ (x : ℕ). sum + x) word_is)

    total_is : (total + word) % 2 ^ 64 ≡ (sum + word) % 2 ^ 64
    total_is = omega (arith, is)

    goes : HasAdded of moments c.setting.mask (sums.Adds (shard + 1) ((total + word) % 2 ^ 64))
    goes = subst (HasAdded of moments c.setting.mask) (both (suc shard) (shard + 1) ((total + word) % 2 ^ 64) ((total + word) % 2 ^ 64) (omega arith) refl) (sum + word, more, total_is)

    counts : nat_lt shard c.setting.mask ≡ false → Counts (suc c.setting.mask) of moments (count_in ((total + word) % 2 ^ 64))
    counts e =
        let l = past shard c.setting.mask e in
        let last_is : shard ≡ c.setting.mask = omega (arith, l, few) in
        (sum + word, subst (λ (x : ℕ). AddsUp of moments (suc x) (sum + word)) last_is more, ap count_in total_is)

  adds : (shard total : ℕ) → shard ≤ c.setting.mask → HasAdded of moments c.setting.mask (sums.Adds shard total) → (mem2 : Mem (Node K V)) (end : Sum × Advance ℕ)
      → Steps Took value_at mem (plan_at c (sums.Adds shard total)) mem2 end → After end
  adds shard total few (sum, up, is) mem2 end s =
      let d = loaded mem (added c shard total) (Word c.setting.counter shard) mem2 end s in
      let word_is = same_word d.0 (now.shards of shard) (sym d.1 ∙ reads shard few) in
      elim (ends_if (value_at mem) (nat_lt shard c.setting.mask) (Now (standing c (sums.Adds (shard + 1) ((total + d.0) % 2 ^ 64)), progress.Goes))
      (Now (summed c (count_in ((total + d.0) % 2 ^ 64)))) end d.3) as (λ _. After end) [
        | inl h ↦ subst (λ (x : Sum × Advance ℕ). After x) (sym h.1) (refl, goes shard total sum few up is d.0 word_is)
        | inr h ↦ subst (λ (x : Sum × Advance ℕ). After x) (sym h.1) (counts shard total sum few up is d.0 word_is h.0)
      ]

  at_point : (p : Summing) → CountsShards c.setting p → HasAdded of moments c.setting.mask p → (mem2 : Mem (Node K V)) (end : Sum × Advance ℕ) → Steps Took value_at mem (plan_at c p) mem2 end → After end
  at_point (sums.Adds shard total) few has mem2 end s = adds shard total few has mem2 end s
  at_point (sums.Over count) few has mem2 end s = subst (λ (x : Sum × Advance ℕ). After x) (sym s.1) has

  pub counting_on : CountsShards c.setting c.stands → HasAdded of moments c.setting.mask c.stands → (mem2 : Mem (Node K V)) (end : Sum × Advance ℕ)
      → Steps Took value_at mem (sum_plan c) mem2 end → After end
  counting_on few has mem2 end s = at_point c.stands few has mem2 end s

-- what was so with some moments is so with more
module _ {K V : Type 0} (of : ℕ) (moments moments2 : List (Moment K V)) (wider : (P : Moment K V → Type 0) → OneOf P moments → OneOf P moments2) where
  adds_wider : (shard sum : ℕ) → AddsUp of moments shard sum → AddsUp of moments2 shard sum
  adds_wider zero sum up = up
  adds_wider (suc shard) sum up =
      each_of (λ (m : Moment K V). (rest : ℕ) × AddsUp of moments shard rest × (sum ≡ rest + m.shards of shard))
      (λ (m : Moment K V). (rest : ℕ) × AddsUp of moments2 shard rest × (sum ≡ rest + m.shards of shard)) moments2
      (λ m it. (it.0, adds_wider shard it.0 it.1, it.2)) (wider (λ m. (rest : ℕ) × AddsUp of moments shard rest × (sum ≡ rest + m.shards of shard)) up)

  pub added_wider : (mask : ℕ) (p : Summing) → HasAdded of moments mask p → HasAdded of moments2 mask p
  added_wider mask (sums.Adds shard total) (sum, up, is) = (sum, adds_wider shard sum up, is)
  added_wider mask (sums.Over count) (sum, up, is) = (sum, adds_wider (suc mask) sum up, is)

  pub counts_wider : (shards n : ℕ) → Counts shards of moments n → Counts shards of moments2 n
  counts_wider shards n (sum, up, is) = (sum, adds_wider shards sum up, is)
