-- The steps of a counting: each reads one shard.
use Rattle.std.specs.Prelude.{◌≡◌, ℕ, ◌+◌, ◌≤◌, true, nat_lt, IsSome}
use Rattle.std.proofs.Common.{refl, ap, sym, subst, inl, inr, arith}
use Rattle.map_rule.specs.Given.SeizeWordsMem.{Mem, Can, Took, value_at, word_at}
use Rattle.map_rule.specs.Given.SeizeWordsPlan.{May, Steps}
use Rattle.map_rule.specs.Given.SeizeWordsDeclared.at.At.TheVariants.{Word}
use Rattle.map_rule.proofs.Given.SeizeWordsOneOwner.Operations.{may_load, loaded}
use Rattle.map_rule.proofs.Given.SeizeWordsPlans.{see_if, ends_if}
use Rattle.papaya_raw.specs.Given.SeizeDeclared.advance.Advance.{Advance}
use Rattle.papaya_raw.specs.Given.TablesDeclared.node.Node.{Node}
use Rattle.papaya_raw.specs.Given.TablesDeclared.setting.Setting.{Setting}
use Rattle.map_rule.specs.Given.ResizeDeclared.sum.Sum.{Sum}
use Rattle.map_rule.specs.Given.ResizeDeclared.sum.Summing.{Summing}
use Rattle.map_rule.specs.Given.ResizeDeclared.sum.Summing.TheVariants as sums
use Rattle.map_rule.specs.Given.ResizeSum.{added, plan_at, sum_plan}
use Rattle.map_facts.specs.FactsTables.{CountsShards, SumFacts}
use Rattle.map_facts.specs.Told.{SumOutcome}
use Rattle.map_rule.proofs.World.WentWrote.{HasCounter}

module _ {K V : Type 0} (setting : Setting) (m : Mem (Node K V)) (counter : HasCounter setting m) where
  shard_there : (c : Sum) → c.setting ≡ setting → (shard : ℕ) → shard ≤ setting.mask → IsSome (word_at m (Word c.setting.counter shard))
  shard_there c is shard l =
      subst (λ (s : Setting). IsSome (word_at m (Word s.counter shard))) (sym is) (let w = counter.shards shard l in subst (λ o. IsSome o) (sym w.1) refl)

  may_at : (c : Sum) (stands : Summing) → c.setting ≡ setting → CountsShards setting stands → May Can Took value_at m (plan_at c stands)
  may_at c (sums.Adds shard total) is l =
      may_load m (added c shard total) (Word c.setting.counter shard) (shard_there c is shard l)
      (λ w read. see_if (value_at m) (nat_lt shard c.setting.mask) _ _ (λ e. tt) (λ e. tt))
  may_at c (sums.Over count) is l = tt

  pub may_sum : (sum : Sum) → SumFacts setting sum → May Can Took value_at m (sum_plan sum)
  may_sum sum facts = may_at sum sum.stands facts.0 facts.1

  told_at : (c : Sum) (stands : Summing) → c.setting ≡ setting → CountsShards setting stands → (m2 : Mem (Node K V)) (end : Sum × Advance ℕ)
      → Steps Took value_at m (plan_at c stands) m2 end → (m2 ≡ m) × SumOutcome setting end
  told_at c (sums.Adds shard total) is l m2 end s =
      let d = loaded m (added c shard total) (Word c.setting.counter shard) m2 end s in (
        d.2,
        elim (ends_if (value_at m) (nat_lt shard c.setting.mask) _ _ end d.3) as (λ _. SumOutcome setting end) [
          | inl more ↦ subst (λ (e : Sum × Advance ℕ). SumOutcome setting e) (sym more.1) (is, (let at = ap (λ (s : Setting). s.mask) is in let b = more.0 in below c.setting.mask at b))
          | inr last ↦ subst (λ (e : Sum × Advance ℕ). SumOutcome setting e) (sym last.1) tt
        ],
      )
    where
      below : (mask : ℕ) → mask ≡ setting.mask → nat_lt shard mask ≡ true → shard + 1 ≤ setting.mask
      below mask at b = grind arith
  told_at c (sums.Over count) is l m2 end s = (s.0, subst (λ (e : Sum × Advance ℕ). SumOutcome setting e) (sym s.1) tt)

  -- a step of it changes nothing
  pub told_sum : (sum : Sum) → SumFacts setting sum → (m2 : Mem (Node K V)) (end : Sum × Advance ℕ) → Steps Took value_at m (sum_plan sum) m2 end → (m2 ≡ m) × SumOutcome setting end
  told_sum sum facts m2 end s = told_at sum sum.stands facts.0 facts.1 m2 end s
