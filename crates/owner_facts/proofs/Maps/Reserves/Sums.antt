-- A counting comes to what the shards of the counter say, as long as they stay as they are.
use Rattle.std.specs.Prelude.{◌≡◌, ℕ, suc, ◌+◌, ◌-◌, ◌%◌, ◌^◌, ◌<◌, ◌≤◌, false, nat_lt, Some}
use Rattle.std.proofs.Common.{refl, ap, sym, subst, ◌∙◌, arith, inl, inr}
use Rattle.std.proofs.lemmas.Bool.{ltb-true}
use Rattle.many_maps.specs.Given.SeizeWordsDeclared.at.At.TheVariants.{Word}
use Rattle.many_maps.specs.Given.SeizeWordsMem.{Mem, Took, word_at, value_at}
use Rattle.many_maps.specs.Given.SeizeWordsPlan.{Steps}
use Rattle.many_maps.proofs.Given.SeizeWordsOneOwner.Operations.{loaded}
use Rattle.many_maps.proofs.Given.SeizeWordsPlans.{ends_if}
use Rattle.many_maps.specs.Given.SeizeDeclared.advance.Advance.{Advance}
use Rattle.many_maps.specs.Given.SeizeDeclared.advance.Advance.TheVariants as progress
use Rattle.many_maps.specs.Given.TablesCounts.{count_in}
use Rattle.many_maps.specs.Given.ResizeSum.{sum_plan, added, plan_at as sum_at}
use Rattle.many_maps.specs.Given.TablesDeclared.setting.Setting.{Setting}
use Rattle.many_maps.specs.Given.ResizeDeclared.sum.Sum.{Sum}
use Rattle.many_maps.specs.Given.ResizeDeclared.sum.Summing.{Summing}
use Rattle.many_maps.specs.Given.ResizeDeclared.sum.Summing.TheVariants as sums
use Rattle.many_maps.specs.Given.PointsFactsTables.{CountsShards}
use Rattle.owner_facts.specs.Alone.Counting.{count_ahead, number_in, shards_sum}
use Rattle.owner_facts.proofs.Alone.Shards.Sums.{total_more}

-- a remainder of a part
mod_part : (a b : ℕ) → (a % 2 ^ 64 + b) % 2 ^ 64 ≡ (a + b) % 2 ^ 64
mod_part a b = omega arith

module _ {T : Type 0} (setting : Setting) (m : Mem T) (sum : Sum) (is : sum.setting ≡ setting) where
  -- what it will come to, or came to
  abbrev pub Ahead : Summing → Sum × Advance ℕ → Type 0
  Ahead stands (sum2, progress.Goes) = count_ahead setting m sum2.stands ≡ count_ahead setting m stands
  Ahead stands (sum2, progress.Done count) = count ≡ count_ahead setting m stands
  Ahead stands _ = Unit {0}

  sum_ahead_at : (stands : Summing) → CountsShards setting stands → (m2 : Mem T) (end : Sum × Advance ℕ) → Steps Took value_at m (sum_at sum stands) m2 end → Ahead stands end
  sum_ahead_at (sums.Over count) low m2 end s = subst (λ (e : Sum × Advance ℕ). Ahead (sums.Over count) e) (sym s.1) refl
  sum_ahead_at (sums.Adds shard so_far) low m2 end s =
      let d = loaded m (added sum shard so_far) (Word sum.setting.counter shard) m2 end s in
      elim (ends_if (value_at m) (nat_lt shard sum.setting.mask) _ _ end d.3) as (λ _. Ahead (sums.Adds shard so_far) end) [
        | inl more ↦ subst (λ (e : Sum × Advance ℕ). Ahead (sums.Adds shard so_far) e) (sym more.1) (further d.0 d.1 (ltb-true shard sum.setting.mask more.0))
        | inr last ↦ subst (λ (e : Sum × Advance ℕ). Ahead (sums.Adds shard so_far) e) (sym last.1) (ended d.0 d.1 last.0)
      ]
    where
      here : (word : ℕ) → word_at m (Word sum.setting.counter shard) ≡ Some word → number_in (word_at m (Word setting.counter shard)) ≡ word
      here word read = ap number_in (subst (λ (x : Setting). word_at m (Word x.counter shard) ≡ Some word) is read)

      further : (word : ℕ) → word_at m (Word sum.setting.counter shard) ≡ Some word → shard < sum.setting.mask
          → count_in (((so_far + word) % 2 ^ 64 + (shards_sum m setting.counter (suc setting.mask) - shards_sum m setting.counter (shard + 1))) % 2 ^ 64)
          ≡ count_in ((so_far + (shards_sum m setting.counter (suc setting.mask) - shards_sum m setting.counter shard)) % 2 ^ 64)
      further word read l =
          let w = here word read in
          let at : shard + 1 ≡ suc shard = omega arith in
          let next : shards_sum m setting.counter (shard + 1) ≡ shards_sum m setting.counter shard + word =
          ap (shards_sum m setting.counter) at ∙ ap (λ (x : ℕ). shards_sum m setting.counter shard + x) w in
          let most : shards_sum m setting.counter (shard + 1) ≤ shards_sum m setting.counter (suc setting.mask) = total_more number_in (λ (x : ℕ). word_at m (Word setting.counter x)) (shard + 1) (suc setting.mask) (omega (arith, low)) in
          ap count_in (mod_part (so_far + word) (shards_sum m setting.counter (suc setting.mask) - shards_sum m setting.counter (shard + 1)) ∙ ap (λ (x : ℕ). x % 2 ^ 64) (omega (arith, next, most)))

      ended : (word : ℕ) → word_at m (Word sum.setting.counter shard) ≡ Some word → nat_lt shard sum.setting.mask ≡ false
          → count_in ((so_far + word) % 2 ^ 64) ≡ count_in ((so_far + (shards_sum m setting.counter (suc setting.mask) - shards_sum m setting.counter shard)) % 2 ^ 64)
      ended word read none =
          let w = here word read in
          let mask_is = ap (λ (x : Setting). x.mask) is in
          let at : shard ≡ setting.mask = grind (arith, low, none, mask_is) in
          let next : shards_sum m setting.counter (suc setting.mask) ≡ shards_sum m setting.counter shard + word =
          ap (λ (x : ℕ). shards_sum m setting.counter (suc x)) (sym at) ∙ ap (λ (x : ℕ). shards_sum m setting.counter shard + x) w in
          ap (λ (x : ℕ). count_in ((so_far + x) % 2 ^ 64)) (omega (arith, next))

  pub sum_ahead : CountsShards setting sum.stands → (m2 : Mem T) (end : Sum × Advance ℕ) → Steps Took value_at m (sum_plan sum) m2 end → Ahead sum.stands end
  sum_ahead low m2 end s = sum_ahead_at sum.stands low m2 end s
