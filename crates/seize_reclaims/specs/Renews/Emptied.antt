-- A memory in which nothing waits.
use Rattle.std.specs.Prelude.{◌≡◌, ◌≤◌, ◌⊎◌, ℕ, Option, Some, length}
use Rattle.seize_words.specs.OneMemory.Mem.{Mem, word_at}
use Rattle.seize_words.specs.declared.at.At.TheVariants.{Slot}
use Rattle.seize.specs.declared.states.TheConstants.{HEAD, BATCH, NEVER, FREE, LAST_SLOT}
use Rattle.seize.specs.World.{World}
use Rattle.seize_acts.specs.Acts.Reclaimed.{HasNothingLeft}
use Rattle.seize_views.specs.Views.Chains.{all_roots, IsChainRoot, Chain}
use Rattle.seize_views.specs.Views.Rows.{IsFound, RootsNameLinked, Came}
use Rattle.seize_views.specs.declared.view.Fixed.{Fixed}

-- every slot is free, and no word of a slot names a block
pub record AreFree {T : Type 0} (m : Mem T) : Type 0 where
  pub head : (s word : ℕ) → word_at m (Slot s HEAD) ≡ Some word → (word ≡ NEVER) ⊎ (word ≡ FREE)
  pub batch : (s word : ℕ) → s ≤ LAST_SLOT → word_at m (Slot s BATCH) ≡ Some word → word ≡ 0

-- It is the memory of a world that came about from the start, and there no row is under way, no block is retired, no slot is in use, and none has a batch; what a
-- root names is linked there, and what is linked at a root it names, or stands in the chain there.
pub record IsEmptied {T : Type 0} (defers : T → Option ℕ) (fixed : Fixed) (m : Mem T) : Type 0 where
  pub world : World T
  pub came : Came defers fixed world
  pub memory : m ≡ world.memory
  pub nothing : HasNothingLeft defers world
  pub free : AreFree m
  pub roots : RootsNameLinked m world.hand
  pub found : (b : ℕ) → IsFound fixed m b (λ k. Unit {0}) (world.hand b)
  pub chains : (r : ℕ) → IsChainRoot fixed r → Chain defers m world.hand r
  pub rooted : length m.roots ≡ all_roots fixed
