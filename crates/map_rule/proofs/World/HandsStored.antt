-- Who has the blocks of a map after a pair was stored in it, and after one was taken out.
use Rattle.std.specs.Prelude.{◌≡◌, ◌≢◌, ℕ, suc, ◌<◌, ◌≤◌, Bool, true, false, cond, eqb, ◌⊎◌}
use Rattle.std.proofs.Common.{refl, ap, sym, subst, inl, inr, arith, eqb-true}
use Rattle.std.proofs.lemmas.Bool.{eqb-false}
use Rattle.seize_rule.specs.Given.SeizeLaw.{With, Unlinked, where_is}
use Rattle.seize_rule.specs.Given.SeizeWorld.{World, InUse, Parting, Cutting, Handed, with_hand, with_effect}
use Rattle.map_machines.specs.Given.SeizeWordsMem.{Mem, value_at}
use Rattle.map_machines.specs.Given.TablesChunks.{is_incremental}
use Rattle.map_machines.specs.Given.TablesDeclared.node.Node.{Node}
use Rattle.map_machines.specs.Given.TablesDeclared.setting.Setting.{Setting}
use Rattle.map_rule.specs.Chart.{Phase, Still, Place, Empty, Tombstone, Holds, Chart, put_in}
use Rattle.map_rule.specs.Rule.{Rule}
use Rattle.map_rule.specs.Moves.{Removes, after, with_pair, without}
use Rattle.map_rule.specs.Words.{Blocks, Represents}
use Rattle.map_rule.specs.Maps.{spot_of}
use Rattle.map_rule.specs.InWorld.{IsOut, StandsIn, IsReached}
use Rattle.map_rule.proofs.Moves.Writes.{stands_new}
use Rattle.map_rule.proofs.Words.WritesStored.{with_pair_block}
use Rattle.map_rule.proofs.World.Hands.{Hands, hands_kept, hands_unlinked, hands_parted, current_known, named_known}

-- the map without the pair of a place has no further ones
pub without_less : {K : Type 0} (spot : ℕ → K → ℕ → ℕ) (incremental : Bool) (place : Place) (current : ℕ → Bool) (n : ℕ) → without spot incremental place current n ≡ true → current n ≡ true
without_less spot incremental (Empty mark) current n is = is
without_less spot incremental (Tombstone mark) current n is = is
without_less spot incremental (Holds o phase borrowed) current n is = at (eqb n o) is
  where
    at : (b : Bool) → cond b false (current n) ≡ true → current n ≡ true
    at true e = absurd (cc)
    at false e = e

module _ {K V : Type 0} (same : K → K → Bool) (hash : K → ℕ) (setting : Setting) (w : World (Node K V)) (c : Chart K) (blocks : Blocks)
    (rule : Rule same (spot_of hash) (is_incremental setting.mode) c) where
  module _ (t i b : ℕ) (k : K) (used : w.hand b ≡ InUse setting.counter) (h : Hands same hash setting w c blocks) where
    pair_used : (n : ℕ) (q : Bool) → cond q true (without (spot_of hash) (is_incremental setting.mode) (c.place t i) c.current n) ≡ true → w.hand (cond q b (blocks.pair n)) ≡ InUse setting.counter
    pair_used n true is = used
    pair_used n false is = h.pairs n (without_less (spot_of hash) (is_incremental setting.mode) (c.place t i) c.current n is)

    pair_out : (n : ℕ) (q : Bool) → (q ≡ false → n ≢ c.stored) → n < suc c.stored → cond q true (blocks.pair_known n) ≡ true → IsOut (w.hand (cond q b (blocks.pair n)))
    pair_out n true other was known = subst IsOut (sym used) tt
    pair_out n false other was known = let ne = other refl in h.pairs_out n (omega arith) known

    reached : (u j n : ℕ) (phase : Phase) (borrowed : Bool) → c.first ≤ u → u < c.past → put_in c.place t i (Holds c.stored Still false) u j ≡ Holds n phase borrowed
        → IsReached same hash setting w (with_pair (spot_of hash) (is_incremental setting.mode) c t i k) (with_pair_block blocks c.stored b) u n
    reached u j n phase borrowed l made e = at (eqb n c.stored) (eqb-true n c.stored) (eqb-false n c.stored)
      where
        at : (q : Bool) → (q ≡ true → n ≡ c.stored) → (q ≡ false → n ≢ c.stored)
            → StandsIn setting.counter (w.hand (cond q b (blocks.pair n)))
            ⊎ ((x : ℕ) × (u ≤ x) × (x < c.past) × (w.hand (cond q b (blocks.pair n)) ≡ Handed) × (where_is (cond q b (blocks.pair n)) w.log ≡ With (blocks.table x)))
        at true is other = inl (inl used)
        at false is other =
            elim (stands_new c.place t i (Holds c.stored Still false) (Holds n phase borrowed) u j e)
            as (λ _. StandsIn setting.counter (w.hand (blocks.pair n))
            ⊎ ((x : ℕ) × (u ≤ x) × (x < c.past) × (w.hand (blocks.pair n) ≡ Handed) × (where_is (blocks.pair n) w.log ≡ With (blocks.table x)))) [
              | inl new ↦ (let ne = other refl in let f = new.2 in let same_pair : c.stored ≡ n = cc f in absurd (ne (sym same_pair)))
              | inr old ↦ h.named u j n phase borrowed l made old.1
            ]

    -- a pair was stored whose block is linked
    pub hands_stored : Hands same hash setting w (with_pair (spot_of hash) (is_incremental setting.mode) c t i k) (with_pair_block blocks c.stored b)
    hands_stored = record {
      tables = h.tables;
      pairs = λ n is. pair_used n (eqb n c.stored) is;
      named = reached;
      tables_out = h.tables_out;
      pairs_out = λ n was known. pair_out n (eqb n c.stored) (eqb-false n c.stored) was known;
    }

  -- a pair was taken out
  pub hands_tombstone : (t i : ℕ) → Hands same hash setting w c blocks → Hands same hash setting w (after (spot_of hash) (is_incremental setting.mode) (Removes t i) c) blocks
  hands_tombstone t i h =
      hands_kept same hash setting w c blocks (after (spot_of hash) (is_incremental setting.mode) (Removes t i) c) (omega arith) refl refl
      (λ n is. without_less (spot_of hash) (is_incremental setting.mode) (c.place t i) c.current n is)
      (λ u j n phase borrowed l made e. elim (stands_new c.place t i (Tombstone false) (Holds n phase borrowed) u j e) as (λ _. IsReached same hash setting w c blocks u n) [
        | inl new ↦ (let f = new.2 in absurd (cc f))
        | inr old ↦ h.named u j n phase borrowed l made old.1
      ]) h

-- a pair that no linked table names is unlinked
module _ {K V : Type 0} (same : K → K → Bool) (hash : K → ℕ) (setting : Setting) (w : World (Node K V)) (c : Chart K) (blocks : Blocks)
    (rule : Rule same (spot_of hash) (is_incremental setting.mode) c) where
  module _ (n : ℕ) (was : n < c.stored) (known : blocks.pair_known n ≡ true) where
    no_table : {m : Mem (Node K V)} → Represents hash m c blocks setting.root → (t : ℕ) → c.first ≤ t → t < c.past → blocks.table t ≢ blocks.pair n
    no_table {m} shows t l made e =
        let table = (shows.tables t made (shows.linked t l made)).value in
        let pair = shows.pairs n was known in
        let value = pair.2 in
        absurd (cc (ap (value_at m) e))

    no_pair : {m : Mem (Node K V)} → Represents hash m c blocks setting.root → c.current n ≡ false → (o : ℕ) → c.current o ≡ true → blocks.pair o ≢ blocks.pair n
    no_pair {m} shows left o is e =
        let k = current_known same hash setting w c blocks rule shows o is in
        let same_pair = shows.pairs_apart o n k.0 was k.1 known e in
        absurd (cc)

  pub hands_left : {m : Mem (Node K V)} → Represents hash m c blocks setting.root → (caller n : ℕ) → n < c.stored → blocks.pair_known n ≡ true → c.current n ≡ false
      → ((u j : ℕ) (phase : Phase) (borrowed : Bool) → c.first ≤ u → u < c.past → c.place u j ≢ Holds n phase borrowed)
      → Hands same hash setting w c blocks
      → Hands same hash setting (with_effect (with_hand w (blocks.pair n) (Cutting caller)) (Unlinked (blocks.pair n))) c blocks
  hands_left {m} shows caller n was known left nowhere h =
      hands_unlinked same hash setting w c blocks (blocks.pair n) caller (no_table n was known shows) (no_pair n was known shows left)
      (λ t i o phase borrowed l made at e.
      let k = named_known same hash setting w c blocks rule shows t i o phase borrowed l at in
      let same_pair = shows.pairs_apart o n k.0 was k.1 known e in
      nowhere t i phase borrowed l made (subst (λ (x : ℕ). c.place t i ≡ Holds x phase borrowed) same_pair at))
      h

  -- a pair was taken out that older tables name
  pub hands_parting : {m : Mem (Node K V)} → Represents hash m c blocks setting.root → (caller n : ℕ) → n < c.stored → blocks.pair_known n ≡ true → c.current n ≡ false
      → w.hand (blocks.pair n) ≡ InUse setting.counter → Hands same hash setting w c blocks → Hands same hash setting (with_hand w (blocks.pair n) (Parting caller)) c blocks
  hands_parting {m} shows caller n was known left used h =
      hands_parted same hash setting w c blocks (blocks.pair n) caller (no_table n was known shows) (no_pair n was known shows left) (λ e. absurd (cc (used, e))) h
