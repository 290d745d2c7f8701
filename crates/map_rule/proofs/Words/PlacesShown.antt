-- What a memory that shows a map says of the words of its places.
use Rattle.std.specs.Prelude.{◌≡◌, ℕ, ◌^◌, ◌<◌, Bool, true, Option, Some, None}
use Rattle.std.proofs.Common.{arith}
use Rattle.map_machines.specs.Given.SeizeWordsMem.{Mem}
use Rattle.map_machines.specs.Given.TablesDeclared.node.Node.{Node}
use Rattle.map_rule.specs.Chart.{Phase, Place, Holds, Chart}
use Rattle.map_rule.specs.Words.{Blocks, byte_of, Represents}
use Rattle.map_rule.specs.Rule.{Common}
use Rattle.map_rule.proofs.Words.PlaceWords.{HasBlock, HasByte, IsApart}

-- each pair that stands in a table was stored
abbrev pub AreStored : {K : Type 0} → Chart K → Type 0
AreStored c = (t i n : ℕ) (phase : Phase) (borrowed : Bool) → c.place t i ≡ Holds n phase borrowed → n < c.stored

pub are_stored : {K : Type 0} (same : K → K → Bool) (spot : ℕ → K → ℕ → ℕ) (incremental : Bool) (c : Chart K) → Common same spot incremental c → AreStored c
are_stored same spot incremental c rule t i n phase borrowed e = (rule.keyed t i n phase borrowed e).0

module _ {K : Type 0} (hash : K → ℕ) where
  -- the byte of a key is below 128, as hashes have 64 bits
  pub byte_of-few : ((k : K) → hash k < 2 ^ 64) → (key : Option K) → byte_of hash key < 128
  byte_of-few fits None = omega arith
  byte_of-few fits (Some k) = let small = fits k in omega arith

  pub shown_byte : ((k : K) → hash k < 2 ^ 64) → (keys : ℕ → Option K) (place : Place) → HasByte (λ n. byte_of hash (keys n)) place
  shown_byte fits keys place n phase borrowed is = byte_of-few fits (keys n)

  module _ {V : Type 0} (m : Mem (Node K V)) (c : Chart K) (blocks : Blocks) (root : ℕ) (shows : Represents hash m c blocks root) where
    module _ (stored : AreStored c) (t i : ℕ) (made : t < c.past) (known : blocks.table_known t ≡ true) where
      -- the pair of a place of a known table can be looked at
      pub shown_known : (n : ℕ) (phase : Phase) (borrowed : Bool) → c.place t i ≡ Holds n phase borrowed → blocks.pair_known n ≡ true
      shown_known n phase borrowed is = shows.named t i n phase borrowed made known is

      pub shown_block : HasBlock blocks.pair (c.place t i)
      shown_block n phase borrowed is = (shows.pair_numbers n (stored t i n phase borrowed is) (shows.named t i n phase borrowed made known is)).0

      pub shown_apart : (n : ℕ) → n < c.stored → blocks.pair_known n ≡ true → IsApart blocks.pair n (c.place t i)
      shown_apart n was seen o phase borrowed is same =
          shows.pairs_apart n o was (stored t i o phase borrowed is) seen (shows.named t i o phase borrowed made known is) same
