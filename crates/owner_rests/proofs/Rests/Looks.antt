-- Lookups of a map for one owner, and the counting of its pairs.
use Rattle.std.specs.Prelude.{◌≡◌, ℕ, suc, ◌+◌, ◌-◌, ◌%◌, ◌^◌, ◌<◌, Bool, List, length, Option, Some}
use Rattle.std.proofs.Common.{sym, ◌∙◌, ap, subst, arith}
use Rattle.seize_words.specs.OneMemory.Mem.{Mem, word_at}
use Rattle.seize_words.specs.declared.at.At.TheVariants.{Word}
use Rattle.map_tables.specs.Counts.{count_in}
use Rattle.map_tables.specs.declared.node.Node.{Node}
use Rattle.map_tables.specs.declared.setting.Setting.{Setting}
use Rattle.map_machines.specs.Lookup.{looking}
use Rattle.map_machines.specs.declared.lookup.Lookup.{Lookup}
use Rattle.map_straight.specs.Given.RuleMaps.{IsClass}
use Rattle.owner_calls.specs.Given.AloneCounting.{shards_sum, number_in}
use Rattle.owner_calls.proofs.Given.WholeContents.Length.{countings_come_to}
use Rattle.owner_calls.specs.Given.StridesLooking.{LooksIn, Finds}
use Rattle.owner_calls.specs.Owned.Owned.{Holds, IsWordOf}
use Rattle.owner_calls.proofs.Owned.Owned.Lookups.{look_in, finds_word}

module _ {K V : Type 0} (same : K → K → Bool) (hash : K → ℕ) (setting : Setting) (m : Mem (Node K V)) (xs : List (K × V)) (h : Holds same hash setting m xs) where
  pub look_ready : (keys : K → Bool) (code : ℕ) → IsClass same hash keys code → (l : Lookup) → l ≡ looking setting.root setting.mode code → LooksIn same hash keys m h.chart h.blocks l l
  look_ready keys code class l is = subst (λ (x : Lookup). LooksIn same hash keys m h.chart h.blocks x x) (sym is) (look_in same hash setting m xs h keys code class)

  pub look_found : (keys : K → Bool) (code : ℕ) → IsClass same hash keys code → (l : Lookup) → l ≡ looking setting.root setting.mode code → (found : Option ℕ) → Finds same hash keys h.chart h.blocks l found → IsWordOf keys m xs found
  look_found keys code class l is found so =
      finds_word same hash setting m xs h keys code class found (subst (λ (x : Lookup). Finds same hash keys h.chart h.blocks x found) is so)

  pub counted_so : (total : ℕ) → total < 2 ^ 64 → word_at m (Word setting.counter 0) ≡ Some total → count_in total ≡ length xs
  counted_so total fits is =
      ap count_in (one_word total fits (ap (shards_sum h.world.memory setting.counter) (ap suc h.one_shard) ∙ one_sum)) ∙ countings_come_to same hash setting h.world h.chart h.blocks h.rests.together.ground.map h.counted xs h.are
    where
      one_sum : shards_sum h.world.memory setting.counter 1 ≡ total + shards_sum h.world.memory setting.counter 0
      one_sum = let e = ap number_in (ap (λ (x : Mem (Node K V)). word_at x (Word setting.counter 0)) h.memory ∙ is) in omega (arith, e)

      one_word : (total : ℕ) → total < 2 ^ 64 → shards_sum h.world.memory setting.counter (suc setting.mask) ≡ total + shards_sum h.world.memory setting.counter 0
          → total ≡ (0 + (shards_sum h.world.memory setting.counter (suc setting.mask) - shards_sum h.world.memory setting.counter 0)) % 2 ^ 64
      one_word total fits sum = omega (arith, fits, sum)
