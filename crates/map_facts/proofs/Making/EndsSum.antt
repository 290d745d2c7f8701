-- A counting comes to an end: each step that goes on leaves fewer shards.
use Rattle.std.specs.Prelude.{◌≡◌, ℕ, suc, ◌+◌, ◌-◌, ◌<◌, true, nat_lt}
use Rattle.std.proofs.Common.{sym, subst, inl, inr, arith}
use Rattle.std.proofs.lemmas.Bool.{ltb-true}
use Rattle.map_rule.specs.Given.SeizeWordsMem.{Mem, Took, value_at}
use Rattle.map_rule.specs.Given.SeizeWordsPlan.{Steps}
use Rattle.map_rule.specs.Given.SeizeWordsDeclared.at.At.TheVariants.{Word}
use Rattle.map_rule.proofs.Given.SeizeWordsOneOwner.Operations.{loaded}
use Rattle.map_rule.proofs.Given.SeizeWordsPlans.{ends_if}
use Rattle.papaya_raw.specs.Given.SeizeDeclared.advance.Advance.{Advance}
use Rattle.papaya_raw.specs.Given.SeizeDeclared.advance.Advance.TheVariants as progress
use Rattle.map_rule.specs.Given.ResizeDeclared.sum.Sum.{Sum}
use Rattle.map_rule.specs.Given.ResizeDeclared.sum.Summing.{Summing}
use Rattle.map_rule.specs.Given.ResizeDeclared.sum.Summing.TheVariants as sums
use Rattle.map_rule.specs.Given.ResizeSum.{added, plan_at, sum_plan}
use Rattle.map_facts.specs.Measures.{IsBelow}
use Rattle.map_facts.specs.MeasuresTables.{shards_left, number_of_sum}

module _ {T : Type 0} (m : Mem T) (c : Sum) where
  -- if the step goes on, fewer shards are left than where it stood
  abbrev Lowers : Summing → Sum × Advance ℕ → Type 0
  Lowers stands end = end.1 ≡ progress.Goes → shards_left end.0.setting.mask end.0.stands < shards_left c.setting.mask stands

  lowers_at : (stands : Summing) (m2 : Mem T) (end : Sum × Advance ℕ) → Steps Took value_at m (plan_at c stands) m2 end → Lowers stands end
  lowers_at (sums.Adds shard total) m2 end s =
      let d = loaded m (added c shard total) (Word c.setting.counter shard) m2 end s in
      elim (ends_if (value_at m) (nat_lt shard c.setting.mask) _ _ end d.3) as (λ _. Lowers (sums.Adds shard total) end) [
        | inl more ↦ subst (λ e. Lowers (sums.Adds shard total) e) (sym more.1) (λ goes. below c.setting.mask more.0)
        | inr last ↦ subst (λ e. Lowers (sums.Adds shard total) e) (sym last.1) (λ goes. absurd (cc goes))
      ]
    where
      below : (mask : ℕ) → nat_lt shard mask ≡ true → suc (mask - (shard + 1)) < suc (mask - shard)
      below mask is = let l = ltb-true shard mask is in omega (arith, l)
  lowers_at (sums.Over count) m2 end s = subst (λ e. Lowers (sums.Over count) e) (sym s.1) (λ goes. absurd (cc goes))

pub sum_lowers : {T : Type 0} (m : Mem T) (sum : Sum) (m2 : Mem T) (end : Sum × Advance ℕ) → Steps Took value_at m (sum_plan sum) m2 end
    → end.1 ≡ progress.Goes → IsBelow (number_of_sum end.0) (number_of_sum sum)
sum_lowers m sum m2 end s goes = inl (lowers_at m sum sum.stands m2 end s goes)
