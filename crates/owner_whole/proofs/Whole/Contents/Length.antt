-- The list of a map's pairs is as long as the map has pairs, and a counting comes to that.
use Rattle.std.specs.Prelude.{◌≡◌, ℕ, zero, suc, ◌+◌, ◌-◌, ◌%◌, ◌^◌, ◌≤◌, List, [], ◌∷◌, ◌++◌, length, Bool}
use Rattle.std.proofs.Common.{refl, ap, sym, ◌∙◌, inl, inr, arith}
use Rattle.seize_words.specs.OneMemory.Mem.{Mem}
use Rattle.map_tables.specs.Counts.{count_in}
use Rattle.map_tables.specs.declared.node.Node.{Node}
use Rattle.map_measures.specs.Given.RuleChart.{Chart}
use Rattle.map_measures.specs.Given.RuleRule.{total}
use Rattle.map_measures.specs.Given.RuleWords.{Blocks}
use Rattle.owner_facts.specs.Alone.Counting.{one_if, pairs_in, shards_sum}
use Rattle.owner_facts.proofs.Alone.Shards.PairsChanged.{few_pairs_there}
use Rattle.owner_whole.specs.Whole.Contents.{ContentsBelow}
use Rattle.owner_whole.specs.Whole.WholeRooms.{CountingsComeTo}
use Rattle.owner_whole.proofs.Whole.Contents.Below.{ends_with, as_before}
use Rattle.seize_words.proofs.General.{true_or_false as decided}

length_last : {X : Type 0} (xs : List X) (x : X) → length (xs ++ (x ∷ [])) ≡ suc (length xs)
length_last [] x = refl
length_last (y ∷ ys) x = ap suc (length_last ys x)

module _ {K V : Type 0} (m : Mem (Node K V)) (c : Chart K) (blocks : Blocks) where
  pub length_below : (n : ℕ) (xs : List (K × V)) → ContentsBelow m c blocks n xs → length xs ≡ total one_if c.current n
  length_below zero xs h = ap length h
  length_below (suc n) xs h = elim (decided (c.current n)) as (λ _. length xs ≡ total one_if c.current (suc n)) [
    | inl e ↦ (
        let d = ends_with m c blocks n xs e h in let ih = length_below n d.before d.below in let here = ap one_if e in let l = ap length d.is ∙ length_last d.before (d.key, d.value) in
        omega (arith, ih, here, l)
        )
    | inr e ↦ (let ih = length_below n xs (as_before m c blocks n xs e h) in let here = ap one_if e in omega (arith, ih, here))
  ]

small : (n : ℕ) → n ≤ 2 ^ 53 → count_in n ≡ n
small n l = grind (arith, l)

none_yet : (s : ℕ) → 0 + (s - 0) ≡ s
none_yet s = omega arith

pub countings_come_to : {K V : Type 0} (same : K → K → Bool) (hash : K → ℕ) → CountingsComeTo V same hash
countings_come_to same hash setting w c blocks map counted xs are =
    ap (λ (x : ℕ). count_in (x % 2 ^ 64)) (none_yet (shards_sum w.memory setting.counter (suc setting.mask))) ∙ ap count_in counted
    ∙ small (pairs_in c) (few_pairs_there same hash setting w c blocks map) ∙ sym (length_below w.memory c blocks c.stored xs are)
