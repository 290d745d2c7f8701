-- What the shards of a counter say, added up: where their words are the same, and where one of them changes.
use Rattle.std.specs.Prelude.{◌==◌, bit_and}
use Rattle.std.proofs.Common.{◌≡◌, ◌≢◌, ℕ, zero, suc, ◌+◌, ◌%◌, ◌^◌, ◌<◌, ◌≤◌, Bool, cond, inl, inr, refl, ap, sym, subst, ◌∙◌, arith, Option, Some}
use Rattle.std.proofs.lemmas.Bool.{cases_lt, cases_eq, eq-eqb, ne_eqb}
use Rattle.std.proofs.lemmas.Nat.{and_le_r}
use Rattle.many_maps.specs.Given.SeizeWordsDeclared.at.At.{At}
use Rattle.many_maps.specs.Given.SeizeWordsDeclared.at.At.TheVariants.{Word}
use Rattle.many_maps.specs.Given.SeizeWordsMem.{Mem, same_at, word_at, with_word}
use Rattle.many_maps.proofs.Given.SeizeWordsOneOwner.AfterWrites.{word_at-with_word}
use Rattle.many_maps.specs.Given.TablesDeclared.setting.Setting.{Setting}
use Rattle.many_maps.specs.Given.RuleRule.{total}
use Rattle.many_maps.proofs.Given.RuleMoves.Totals.{total_same}
use Rattle.owner_facts.specs.Alone.Counting.{number_in, shards_sum}
use Rattle.owner_facts.specs.Alone.Counted.{HasAdded}
use Rattle.many_maps.proofs.Given.General.{and_true, and_false, some_is as is_some_of}

-- a sum in which one item is another one
one_step : {X : Type 0} (g : X → ℕ) (d e : ℕ → X) (k n : ℕ) → k < suc n → ((j : ℕ) → j < suc n → j ≢ k → g (e j) ≡ g (d j))
    → (k < n → ((j : ℕ) → j < n → j ≢ k → g (e j) ≡ g (d j)) → total g e n + g (d k) ≡ total g d n + g (e k)) → total g e (suc n) + g (d k) ≡ total g d (suc n) + g (e k)
one_step g d e k n l h ih = elim (cases_eq n k) as (λ _. total g e (suc n) + g (d k) ≡ total g d (suc n) + g (e k)) [
  | inl is ↦ (let rest = total_same g d e n (λ j m. h j (omega (arith, m)) (λ q. omega (arith, q, m, is))) in
      let x = ap (λ (i : ℕ). g (e i)) is in let y = ap (λ (i : ℕ). g (d i)) is in omega (arith, rest, x, y))
  | inr ne ↦ (let rest = ih (omega (arith, l, ne)) (λ j m. h j (omega (arith, m))) in let here = h n (omega arith) ne in omega (arith, rest, here))
]

pub total_one_else : {X : Type 0} (g : X → ℕ) (d e : ℕ → X) (k n : ℕ) → k < n → ((j : ℕ) → j < n → j ≢ k → g (e j) ≡ g (d j)) → total g e n + g (d k) ≡ total g d n + g (e k)
total_one_else g d e k zero l h = absurd (omega (arith, l))
total_one_else g d e k (suc n) l h = one_step g d e k n l h (total_one_else g d e k n)

-- sums grow
pub total_more : {X : Type 0} (f : X → ℕ) (d : ℕ → X) (a b : ℕ) → a ≤ b → total f d a ≤ total f d b
total_more f d a zero l = let e : a ≡ 0 = omega (arith, l) in subst (λ (x : ℕ). total f d x ≤ total f d 0) (sym e) (omega arith)
total_more f d a (suc b) l =
    elim (cases_lt a (suc b)) as (λ _. total f d a ≤ total f d (suc b)) [
      | inl low ↦ (let ih = total_more f d a b (omega (arith, low)) in omega (arith, ih))
      | inr high ↦ (let e : a ≡ suc b = omega (arith, l, high) in subst (λ (x : ℕ). total f d x ≤ total f d (suc b)) (sym e) (omega arith))
    ]

mod_added : (s2 s old by : ℕ) → s2 + old ≡ s + (old + by) % 2 ^ 64 → s2 % 2 ^ 64 ≡ (s + by) % 2 ^ 64
mod_added s2 s old by e = omega (arith, e)

mod_more : (s2 s s0 by : ℕ) → s2 % 2 ^ 64 ≡ (s + by) % 2 ^ 64 → s % 2 ^ 64 ≡ (s0 + 0) % 2 ^ 64 → s2 % 2 ^ 64 ≡ (s0 + by) % 2 ^ 64
mod_more s2 s s0 by e h = omega (arith, e, h)

pub added_none : {T : Type 0} (setting : Setting) (m : Mem T) → HasAdded setting m 0 m
added_none setting m = ap (λ (x : ℕ). x % 2 ^ 64) (plus_none (shards_sum m setting.counter (suc setting.mask)))
  where
    plus_none : (s : ℕ) → s ≡ s + 0
    plus_none s = omega arith

module _ {T : Type 0} (m m2 : Mem T) where
  -- the words are the same
  pub shards_words : (counter shards : ℕ) → ((shard : ℕ) → shard < shards → word_at m2 (Word counter shard) ≡ word_at m (Word counter shard))
      → shards_sum m2 counter shards ≡ shards_sum m counter shards
  shards_words counter shards words =
      total_same number_in (λ shard. word_at m (Word counter shard)) (λ shard. word_at m2 (Word counter shard)) shards (λ shard l. ap number_in (words shard l))

  -- so much is added to one of them
  pub shards_added : (counter shards k by old : ℕ) → k < shards → word_at m (Word counter k) ≡ Some old → word_at m2 (Word counter k) ≡ Some ((old + by) % 2 ^ 64)
      → ((shard : ℕ) → shard ≢ k → word_at m2 (Word counter shard) ≡ word_at m (Word counter shard)) → shards_sum m2 counter shards % 2 ^ 64 ≡ (shards_sum m counter shards + by) % 2 ^ 64
  shards_added counter shards k by old l was now others =
      let e = total_one_else number_in (λ shard. word_at m (Word counter shard)) (λ shard. word_at m2 (Word counter shard)) k shards l (λ j low ne. ap number_in (others j ne)) in
      mod_added (shards_sum m2 counter shards) (shards_sum m counter shards) old by
      (sym (ap (λ (x : Option ℕ). shards_sum m2 counter shards + number_in x) was) ∙ e ∙ ap (λ (x : Option ℕ). shards_sum m counter shards + number_in x) now)

  -- so much is added to the shard of a slot
  module _ (setting : Setting) where
    abbrev shard : ℕ
    shard = bit_and setting.slot setting.mask

    pub shard_added : (by old : ℕ) → word_at m (Word setting.counter shard) ≡ Some old → m2 ≡ with_word m (Word setting.counter shard) ((old + by) % 2 ^ 64)
        → shards_sum m2 setting.counter (suc setting.mask) % 2 ^ 64 ≡ (shards_sum m setting.counter (suc setting.mask) + by) % 2 ^ 64
    shard_added by old was memory_is =
        shards_added setting.counter (suc setting.mask) shard by old (let low = and_le_r setting.slot setting.mask in omega (arith, low)) was now others
      where
        word_then : (x : At) → word_at m2 x ≡ cond (same_at x (Word setting.counter shard)) (Some ((old + by) % 2 ^ 64)) (word_at m x)
        word_then x = ap (λ (n : Mem T). word_at n x) memory_is ∙ word_at-with_word m (Word setting.counter shard) ((old + by) % 2 ^ 64) x (is_some_of _ _ was)

        now : word_at m2 (Word setting.counter shard) ≡ Some ((old + by) % 2 ^ 64)
        now =
            word_then (Word setting.counter shard)
            ∙ ap (λ (b : Bool). cond b (Some ((old + by) % 2 ^ 64)) (word_at m (Word setting.counter shard)))
            (and_true (setting.counter == setting.counter) (shard == shard) (eq-eqb setting.counter setting.counter refl) (eq-eqb shard shard refl))

        others : (other : ℕ) → other ≢ shard → word_at m2 (Word setting.counter other) ≡ word_at m (Word setting.counter other)
        others other ne =
            word_then (Word setting.counter other)
            ∙ ap (λ (b : Bool). cond b (Some ((old + by) % 2 ^ 64)) (word_at m (Word setting.counter other)))
            (and_false (setting.counter == setting.counter) (other == shard) (ne_eqb other shard ne))

  module _ (setting : Setting) (m0 : Mem T) where
    -- they say what they did
    pub added_same : (more : ℕ) → HasAdded setting m0 more m → shards_sum m2 setting.counter (suc setting.mask) ≡ shards_sum m setting.counter (suc setting.mask) → HasAdded setting m0 more m2
    added_same more had e = ap (λ (x : ℕ). x % 2 ^ 64) e ∙ had

    -- or so much more
    pub added_more : (by : ℕ) → HasAdded setting m0 0 m → shards_sum m2 setting.counter (suc setting.mask) % 2 ^ 64 ≡ (shards_sum m setting.counter (suc setting.mask) + by) % 2 ^ 64
        → HasAdded setting m0 by m2
    added_more by had e =
        mod_more (shards_sum m2 setting.counter (suc setting.mask)) (shards_sum m setting.counter (suc setting.mask)) (shards_sum m0 setting.counter (suc setting.mask)) by e had
