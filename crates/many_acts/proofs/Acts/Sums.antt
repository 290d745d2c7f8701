-- A step of a counting adds what its next shard says.
use Rattle.std.specs.Prelude.{◌≡◌, ℕ, suc, ◌+◌, ◌%◌, ◌^◌, ◌≤◌, List, ◌∷◌, ◌++◌, length, nat_lt, Option}
use Rattle.std.proofs.Common.{inl, inr, refl, sym, ap, subst, ◌∙◌, arith}
use Rattle.std.proofs.lemmas.List.Sums.{sum_by-cons}
use Rattle.std.specs.List.{sum}
use Rattle.run_shows.specs.Given.SeizeWordsMem.{Mem, Took, value_at}
use Rattle.run_shows.specs.Given.SeizeWordsPlan.{Now, Steps}
use Rattle.run_shows.specs.Given.SeizeWordsDeclared.at.At.TheVariants.{Word}
use Rattle.run_shows.proofs.Given.SeizeWordsOneOwner.Operations.{loaded}
use Rattle.run_shows.proofs.Given.SeizeWordsPlans.{ends_if}
use Rattle.run_shows.specs.Given.SeizeDeclared.advance.Advance.{Advance}
use Rattle.run_shows.specs.Given.SeizeDeclared.advance.Advance.TheVariants as progress
use Rattle.run_shows.specs.Given.TablesCounts.{count_in}
use Rattle.run_shows.specs.Given.TablesDeclared.node.Node.{Node}
use Rattle.run_shows.specs.Given.ResizeSum.{sum_plan, plan_at, added, summed, standing}
use Rattle.run_shows.specs.Given.ResizeDeclared.sum.Sum.{Sum}
use Rattle.run_shows.specs.Given.ResizeDeclared.sum.Summing.{Summing}
use Rattle.run_shows.specs.Given.ResizeDeclared.sum.Summing.TheVariants as sums
use Rattle.many_acts.specs.Acts.Counts.{HasRead, listed, next_shard}
use Rattle.run_shows.proofs.Given.General.{less_not as past}

module _ {K V : Type 0} (m : Mem (Node K V)) (c : Sum) (words : List ℕ) where
  -- by what it says: it goes on with one word more, or has answered their sum once it has read the last shard
  abbrev pub Added : List ℕ → Sum × Advance ℕ → Type 0
  Added more (c2, progress.Goes) = HasRead c2 more × (c2.setting ≡ c.setting)
  Added more (c2, progress.Done count) = (c.setting.mask ≤ length words) × (length more ≡ suc (length words)) × (count ≡ count_in (sum more % 2 ^ 64))
  Added more (c2, _) = ⊥

  one_more : (word : ℕ) → (sum words % 2 ^ 64 + word) % 2 ^ 64 ≡ sum (word ∷ words) % 2 ^ 64
  one_more word = by (sum words) ∙ ap (λ (x : ℕ). x % 2 ^ 64) (sym (sum_by-cons (λ x. x) word words))
    where
      by : (a : ℕ) → (a % 2 ^ 64 + word) % 2 ^ 64 ≡ (word + a) % 2 ^ 64
      by a = omega arith

  goes : (word : ℕ) → Added (word ∷ words) (standing c (sums.Adds (length words + 1) ((sum words % 2 ^ 64 + word) % 2 ^ 64)), progress.Goes)
  goes word = (both (length words + 1) (suc (length words)) _ _ (omega arith) (one_more word), refl)
    where
      both : (a b x y : ℕ) → a ≡ b → x ≡ y → sums.Adds a x ≡ sums.Adds b y
      both a b x y e f = cc (e, f)

  pub adds : (m2 : Mem (Node K V)) (end : Sum × Advance ℕ) → Steps Took value_at m (plan_at c (sums.Adds (length words) (sum words % 2 ^ 64))) m2 end
      → Added (next_shard m c (sums.Adds (length words) (sum words % 2 ^ 64)) ++ words) end
  adds m2 end s =
      let d = loaded m (added c (length words) (sum words % 2 ^ 64)) (Word c.setting.counter (length words)) m2 end s in
      subst (λ (o : Option ℕ). Added (listed o ++ words) end) (sym d.1)
      (elim (ends_if (value_at m) (nat_lt (length words) c.setting.mask)
      (Now (standing c (sums.Adds (length words + 1) ((sum words % 2 ^ 64 + d.0) % 2 ^ 64)), progress.Goes)) (Now (summed c (count_in ((sum words % 2 ^ 64 + d.0) % 2 ^ 64)))) end d.3)
      as (λ _. Added (d.0 ∷ words) end) [
        | inl h ↦ subst (λ (x : Sum × Advance ℕ). Added (d.0 ∷ words) x) (sym h.1) (goes d.0)
        | inr h ↦ subst (λ (x : Sum × Advance ℕ). Added (d.0 ∷ words) x) (sym h.1) (past (length words) c.setting.mask h.0, refl, ap count_in (one_more d.0))
      ])

-- so it is with a step of a counting that has read these words
module _ {K V : Type 0} (m : Mem (Node K V)) (c : Sum) (words : List ℕ) (read : HasRead c words) where
  pub adds_on : (m2 : Mem (Node K V)) (end : Sum × Advance ℕ) → Steps Took value_at m (sum_plan c) m2 end → Added m c words (next_shard m c c.stands ++ words) end
  adds_on m2 end s =
      subst (λ (x : Summing). Added m c words (next_shard m c x ++ words) end) (sym read)
      (adds m c words m2 end (subst (λ (x : Summing). Steps Took value_at m (plan_at c x) m2 end) read s))
