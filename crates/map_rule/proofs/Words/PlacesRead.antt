-- What a machine sees of the pair of a place, whose word it has read.
use Rattle.std.specs.Prelude.{◌==◌, ◌/◌, ◌^◌, IsSome}
use Rattle.std.proofs.Common.{◌≡◌, ℕ, ◌<◌, Bool, true, false, Some, refl, ap, sym, ◌∙◌}
use Rattle.std.proofs.lemmas.Bool.{eq-eqb}
use Rattle.map_machines.specs.Given.SeizeWordsMem.{Mem, value_at}
use Rattle.map_machines.specs.Given.TablesFinding.{may_name}
use Rattle.map_machines.specs.Lookup.{names_pair}
use Rattle.map_machines.specs.Given.TablesDeclared.node.Node.{Node}
use Rattle.map_machines.specs.Given.TablesDeclared.node.Node.TheVariants as node
use Rattle.map_rule.specs.Chart.{Phase, Place, Empty, Tombstone, Holds, Chart}
use Rattle.map_rule.specs.Words.{Blocks, byte_of, place_word, Represents}
use Rattle.map_rule.specs.Maps.{IsClass}
use Rattle.map_rule.proofs.Words.PlaceWords.{pair_block}
use Rattle.map_rule.proofs.Words.PlaceWordsFinding.{may_name-empty, may_name-tombstone, may_name-pair}
use Rattle.map_rule.proofs.Words.PlacesShown.{AreStored, byte_of-few}
use Rattle.map_rule.proofs.Words.WordsSeen.{HasKey, Tells}
use Rattle.map_machines.proofs.Given.General.{some_is as is_some_of}

module _ {K V : Type 0} (same : K → K → Bool) (hash : K → ℕ) (fits : (k : K) → hash k < 2 ^ 64) (m : Mem (Node K V)) (c : Chart K) (blocks : Blocks) (root : ℕ)
    (shows : Represents hash m c blocks root) (stored : AreStored c) (t i : ℕ) (made : t < c.past) (known : blocks.table_known t ≡ true) where
  -- the word of the place
  abbrev word : ℕ
  word = place_word hash c blocks (c.place t i)

  -- the block of its pair has the pair
  pub pair_value : (n : ℕ) (phase : Phase) (borrowed : Bool) → c.place t i ≡ Holds n phase borrowed
      → (k : K) × (v : V) × (value_at m (place_word hash c blocks (c.place t i) / 2048) ≡ Some (node.Pair k v)) × (c.key n ≡ Some k)
  pair_value n phase borrowed holds =
      let there = shows.pairs n (stored t i n phase borrowed holds) (shows.named t i n phase borrowed made known holds) in
      let block : word / 2048 ≡ blocks.pair n =
      ap (λ (p : Place). place_word hash c blocks p / 2048) holds ∙ pair_block blocks.pair (λ o. byte_of hash (c.key o)) n phase borrowed (byte_of-few hash fits (c.key n)) in
      (there.0, there.1, ap (value_at m) block ∙ there.2, there.3)

  -- each pair has its key
  pub place_keyed : (keys : K → Bool) → HasKey keys c.key (c.place t i)
  place_keyed keys n phase borrowed holds = let there = pair_value n phase borrowed holds in (there.0, there.3)

  -- a word that may name a pair is that of one
  holds_pair : (code : ℕ) (place : Place) → may_name code (place_word hash c blocks place) ≡ true → (n : ℕ) × (phase : Phase) × (borrowed : Bool) × (place ≡ Holds n phase borrowed)
  holds_pair code (Empty mark) may = absurd (cc (may_name-empty blocks.pair (λ n. byte_of hash (c.key n)) code mark))
  holds_pair code (Tombstone mark) may = absurd (cc (may_name-tombstone blocks.pair (λ n. byte_of hash (c.key n)) code mark))
  holds_pair code (Holds n phase borrowed) may = (n, phase, borrowed, refl)

  -- so its block is there
  pub pair_seen : (code : ℕ) → may_name code (place_word hash c blocks (c.place t i)) ≡ true → IsSome (value_at m (place_word hash c blocks (c.place t i) / 2048))
  pair_seen code may =
      let p = holds_pair code (c.place t i) may in
      let there = pair_value p.0 p.1 p.2 p.3 in
      is_some_of _ _ there.2

  -- its value tells whether it is one of the keys
  pub value_tells : (keys asked : K → Bool) → ((k : K) → asked k ≡ keys k) → (value : Node K V) → value_at m (place_word hash c blocks (c.place t i) / 2048) ≡ Some value
      → Tells keys c.key (c.place t i) (names_pair asked value)
  value_tells keys asked agree value seen n phase borrowed k holds has =
      let there = pair_value n phase borrowed holds in
      let is : value ≡ node.Pair there.0 there.1 = cc (there.2) in
      let key : there.0 ≡ k = cc (there.3) in
      ap (names_pair asked) is ∙ agree there.0 ∙ ap keys key

  -- and where the byte is that of another hash, it is none of them
  pub byte_tells : (keys : K → Bool) (code : ℕ) → IsClass same hash keys code → may_name code (place_word hash c blocks (c.place t i)) ≡ false
      → Tells keys c.key (c.place t i) false
  byte_tells keys code class may n phase borrowed k holds has = by_key (keys k) refl
    where
      byte : byte_of hash (c.key n) ≡ hash k / 2 ^ 57
      byte = ap (byte_of hash) has

      some : 0 < blocks.pair n
      some = (shows.pair_numbers n (stored t i n phase borrowed holds) (shows.named t i n phase borrowed made known holds)).0

      says : may_name code (place_word hash c blocks (c.place t i)) ≡ (byte_of hash (c.key n) == code / 2 ^ 57)
      says =
          ap (λ (p : Place). may_name code (place_word hash c blocks p)) holds
          ∙ may_name-pair blocks.pair (λ o. byte_of hash (c.key o)) code n phase borrowed (byte_of-few hash fits (c.key n)) some

      by_key : (b : Bool) → keys k ≡ b → false ≡ keys k
      by_key false e = sym e
      by_key true e = absurd (
          let same_byte : byte_of hash (c.key n) ≡ code / 2 ^ 57 = byte ∙ ap (λ h. h / 2 ^ 57) (class.hashes k e) in
          let yes = eq-eqb (byte_of hash (c.key n)) (code / 2 ^ 57) same_byte in
          cc (says, yes))
