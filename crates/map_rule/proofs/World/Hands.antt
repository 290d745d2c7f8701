-- Who has the blocks of a map: what of it lasts while its users make blocks, take them away, link and unlink them.
use Rattle.std.specs.Prelude.{◌≡◌, ◌≢◌, ℕ, ◌<◌, ◌≤◌, Bool, true, false, cond, List, ◌∷◌, ◌⊎◌}
use Rattle.std.proofs.Common.{refl, sym, subst, ◌∙◌, inl, inr, arith}
use Rattle.std.proofs.lemmas.Bool.{cases_eq, eq-eqb, ne_eqb}
use Rattle.map_machines.specs.Given.SeizeWordsMem.{Mem}
use Rattle.seize_rule.specs.Given.SeizeLaw.{Effect, Linked, Unlinked, With, where_is}
use Rattle.seize_rule.specs.Given.SeizeWorld.{World, Hand, Making, InUse, Parting, Cutting, Handed, with_at, with_hand, with_effect}
use Rattle.map_machines.specs.Given.TablesChunks.{is_incremental}
use Rattle.map_machines.specs.Given.TablesDeclared.node.Node.{Node}
use Rattle.map_machines.specs.Given.TablesDeclared.setting.Setting.{Setting}
use Rattle.map_rule.specs.Chart.{Phase, Holds, Chart}
use Rattle.map_rule.specs.Rule.{Rule}
use Rattle.map_rule.specs.Words.{Blocks, Represents}
use Rattle.map_rule.specs.Maps.{spot_of}
use Rattle.map_rule.specs.InWorld.{IsOut, StandsIn, IsReached, IsMapIn}
use Rattle.map_rule.proofs.World.FramedSteps.{IsOutside}
use Rattle.map_rule.proofs.Moves.Links.{linked_there}

-- what is said of one place of an array, after another value was put at some place
pub at_cases : {X : Type 0} (P : X → Type 0) (f : ℕ → X) (k : ℕ) (v : X) (j : ℕ) → (j ≡ k → P v) → (j ≢ k → P (f j)) → P (with_at f k v j)
at_cases P f k v j here elsewhere =
    elim (cases_eq j k) as (λ _. P (with_at f k v j)) [
      | inl e ↦ subst (λ (b : Bool). P (cond b v (f j))) (sym (eq-eqb j k e)) (here e)
      | inr ne ↦ subst (λ (b : Bool). P (cond b v (f j))) (sym (ne_eqb j k ne)) (elsewhere ne)
    ]

-- the hand of another block
pub hand_kept : (f : ℕ → Hand) (k : ℕ) (v h : Hand) (j : ℕ) → j ≢ k → f j ≡ h → with_at f k v j ≡ h
hand_kept f k v h j ne is = at_cases (λ (x : Hand). x ≡ h) f k v j (λ e. absurd (ne e)) (λ _. is)

-- another block stands still
pub standing_kept : (f : ℕ → Hand) (k : ℕ) (v : Hand) (j : ℕ) → {o : ℕ} → j ≢ k → StandsIn o (f j) → StandsIn o (with_at f k v j)
standing_kept f k v j {o} ne is = at_cases (StandsIn o) f k v j (λ e. absurd (ne e)) (λ _. is)

-- a block that one caller has is not in another hand
pub in_use_apart : (f : ℕ → Hand) (a b i : ℕ) → f b ≡ Making i → {o : ℕ} → f a ≡ InUse o → a ≢ b
in_use_apart f a b i making {o} used e = let h : f b ≡ InUse o = subst (λ (x : ℕ). f x ≡ InUse o) e used in absurd (cc)

pub handed_apart : (f : ℕ → Hand) (a b i : ℕ) → f b ≡ Making i → f a ≡ Handed → a ≢ b
handed_apart f a b i making handed e = let h : f b ≡ Handed = subst (λ (x : ℕ). f x ≡ Handed) e handed in absurd (cc)

pub out_apart : (f : ℕ → Hand) (a b i : ℕ) → f b ≡ Making i → IsOut (f a) → a ≢ b
out_apart f a b i making out e = let h : IsOut (Making i) = subst IsOut making (subst (λ (x : ℕ). IsOut (f x)) e out) in absurd h

module _ {K V : Type 0} (same : K → K → Bool) (hash : K → ℕ) (setting : Setting) where
  -- what a map in the collector's world says of hands
  pub record Hands (w : World (Node K V)) (c : Chart K) (blocks : Blocks) : Type 0 where
    pub tables : (t : ℕ) → c.first ≤ t → t < c.past → w.hand (blocks.table t) ≡ InUse setting.counter
    pub pairs : (n : ℕ) → c.current n ≡ true → w.hand (blocks.pair n) ≡ InUse setting.counter
    pub named : (t i n : ℕ) (phase : Phase) (borrowed : Bool) → c.first ≤ t → t < c.past → c.place t i ≡ Holds n phase borrowed
        → IsReached same hash setting w c blocks t n
    pub tables_out : (t : ℕ) → t < c.past → blocks.table_known t ≡ true → IsOut (w.hand (blocks.table t))
    pub pairs_out : (n : ℕ) → n < c.stored → blocks.pair_known n ≡ true → IsOut (w.hand (blocks.pair n))

  pub hands_of : (w : World (Node K V)) (c : Chart K) (blocks : Blocks) → IsMapIn same hash setting w c blocks → Hands w c blocks
  hands_of w c blocks map = record { tables = map.tables; pairs = map.pairs; named = map.named; tables_out = map.tables_out; pairs_out = map.pairs_out }

  module _ (w : World (Node K V)) (c : Chart K) (blocks : Blocks) where
    -- no place names a pair that none of the old ones named, and no table is there that wasn't
    pub hands_kept : (c2 : Chart K) → c.first ≤ c2.first → c2.past ≡ c.past → c2.stored ≡ c.stored
        → ((n : ℕ) → c2.current n ≡ true → c.current n ≡ true)
        → ((t i n : ℕ) (phase : Phase) (borrowed : Bool) → c2.first ≤ t → t < c2.past → c2.place t i ≡ Holds n phase borrowed
        → IsReached same hash setting w c blocks t n)
        → Hands w c blocks → Hands w c2 blocks
    hands_kept c2 first past stored current named h = record {
      tables = λ t l m. h.tables t (omega arith) (omega arith);
      pairs = λ n is. h.pairs n (current n is);
      named = λ t i n phase borrowed l m e. subst (λ (p : ℕ). StandsIn setting.counter (w.hand (blocks.pair n))
          ⊎ ((u : ℕ) × (t ≤ u) × (u < p) × (w.hand (blocks.pair n) ≡ Handed) × (where_is (blocks.pair n) w.log ≡ With (blocks.table u))))
          (sym past) (named t i n phase borrowed l m e);
      tables_out = λ t m known. h.tables_out t (omega arith) known;
      pairs_out = λ n m known. h.pairs_out n (omega arith) known;
    }

    -- a caller's own block is no known one
    pub own_outside : (b i : ℕ) → w.hand b ≡ Making i → Hands w c blocks → IsOutside c blocks b
    own_outside b i making h = record {
      tables = λ t made known. out_apart w.hand (blocks.table t) b i making (h.tables_out t made known);
      pairs = λ n was known. out_apart w.hand (blocks.pair n) b i making (h.pairs_out n was known);
    }

    -- a pair of a linked table can be looked at, and so can one of the map
    module _ (rule : Rule same (spot_of hash) (is_incremental setting.mode) c) {m : Mem (Node K V)} (shows : Represents hash m c blocks setting.root) where
      pub named_known : (t i n : ℕ) (phase : Phase) (borrowed : Bool) → c.first ≤ t → c.place t i ≡ Holds n phase borrowed → (n < c.stored) × (blocks.pair_known n ≡ true)
      named_known t i n phase borrowed l e =
          let made : t < c.past = linked_there same (spot_of hash) (is_incremental setting.mode) c rule.common t i n phase borrowed e in
          ((rule.common.keyed t i n phase borrowed e).0, shows.named t i n phase borrowed made (shows.linked t l made) e)

      home_first : (b : Bool) (t : ℕ) → cond b (c.first ≤ t) (t ≡ c.first) → c.first ≤ t
      home_first true t l = l
      home_first false t e = omega arith

      pub current_known : (n : ℕ) → c.current n ≡ true → (n < c.stored) × (blocks.pair_known n ≡ true)
      current_known n is =
          let at = rule.common.stands n is in
          named_known at.0 at.1 n at.2 at.3 (home_first (is_incremental setting.mode) at.0 at.6) at.4

      -- a block that is not known changes hands
      module _ (b : ℕ) (hand : Hand) (log : List Effect) (outside : IsOutside c blocks b) (reach : (x : ℕ) → x ≢ b → where_is x log ≡ where_is x w.log) (h : Hands w c blocks) where
        pub hands_beside : Hands (record w { hand = with_at w.hand b hand; log = log }) c blocks
        hands_beside = record {
          tables = λ t l made. hand_kept w.hand b hand (InUse setting.counter) (blocks.table t) (outside.tables t made (shows.linked t l made)) (h.tables t l made);
          pairs = λ n is. let k = current_known n is in hand_kept w.hand b hand (InUse setting.counter) (blocks.pair n) (outside.pairs n k.0 k.1) (h.pairs n is);
          named = λ t i n phase borrowed l made e. let k = named_known t i n phase borrowed l e in
              moved t n (outside.pairs n k.0 k.1) (h.named t i n phase borrowed l made e);
          tables_out = λ t made known. at_cases IsOut w.hand b hand (blocks.table t) (λ e. absurd (outside.tables t made known e)) (λ _. h.tables_out t made known);
          pairs_out = λ n was known. at_cases IsOut w.hand b hand (blocks.pair n) (λ e. absurd (outside.pairs n was known e)) (λ _. h.pairs_out n was known);
        }
          where
            moved : (t n : ℕ) → blocks.pair n ≢ b → IsReached same hash setting w c blocks t n
                → IsReached same hash setting (record w { hand = with_at w.hand b hand; log = log }) c blocks t n
            moved t n ne (inl used) = inl (standing_kept w.hand b hand (blocks.pair n) ne used)
            moved t n ne (inr r) = inr (r.0, r.1, r.2, hand_kept w.hand b hand Handed (blocks.pair n) ne r.3, reach (blocks.pair n) ne ∙ r.4)

    -- a caller links its block
    module _ (b i : ℕ) (making : w.hand b ≡ Making i) (h : Hands w c blocks) where
      pub hands_linked : Hands (with_effect (with_hand w b (InUse setting.counter)) (Linked b setting.counter)) c blocks
      hands_linked = record {
        tables = λ t l made. used (blocks.table t) (h.tables t l made);
        pairs = λ n is. used (blocks.pair n) (h.pairs n is);
        named = λ t i n phase borrowed l made e. moved t n (h.named t i n phase borrowed l made e);
        tables_out = λ t made known. at_cases IsOut w.hand b (InUse setting.counter) (blocks.table t) (λ e. tt) (λ _. h.tables_out t made known);
        pairs_out = λ n was known. at_cases IsOut w.hand b (InUse setting.counter) (blocks.pair n) (λ e. tt) (λ _. h.pairs_out n was known);
      }
        where
          used : (x : ℕ) → w.hand x ≡ InUse setting.counter → with_at w.hand b (InUse setting.counter) x ≡ InUse setting.counter
          used x is = hand_kept w.hand b (InUse setting.counter) (InUse setting.counter) x (in_use_apart w.hand x b i making is) is

          moved : (t n : ℕ) → IsReached same hash setting w c blocks t n → IsReached same hash setting (with_effect (with_hand w b (InUse setting.counter)) (Linked b setting.counter)) c blocks t n
          moved t n (inl is) = inl (at_cases (StandsIn setting.counter) w.hand b (InUse setting.counter) (blocks.pair n) (λ e. inl refl) (λ _. is))
          moved t n (inr r) =
              let ne : blocks.pair n ≢ b = handed_apart w.hand (blocks.pair n) b i making r.3 in
              inr (r.0, r.1, r.2, hand_kept w.hand b (InUse setting.counter) Handed (blocks.pair n) ne r.3, rw (ne_eqb (blocks.pair n) b ne) r.4)

    -- a caller takes a pair out of the map, and older tables may name it still
    module _ (b i : ℕ)
        (no_table : (t : ℕ) → c.first ≤ t → t < c.past → blocks.table t ≢ b)
        (no_pair : (n : ℕ) → c.current n ≡ true → blocks.pair n ≢ b)
        (carried : w.hand b ≢ Handed)
        (h : Hands w c blocks) where
      pub hands_parted : Hands (with_hand w b (Parting i)) c blocks
      hands_parted = record {
        tables = λ t l made. hand_kept w.hand b (Parting i) (InUse setting.counter) (blocks.table t) (no_table t l made) (h.tables t l made);
        pairs = λ n is. hand_kept w.hand b (Parting i) (InUse setting.counter) (blocks.pair n) (no_pair n is) (h.pairs n is);
        named = λ t i2 n phase borrowed l made e. moved t n (h.named t i2 n phase borrowed l made e);
        tables_out = λ t made known. at_cases IsOut w.hand b (Parting i) (blocks.table t) (λ e. tt) (λ _. h.tables_out t made known);
        pairs_out = λ n was known. at_cases IsOut w.hand b (Parting i) (blocks.pair n) (λ e. tt) (λ _. h.pairs_out n was known);
      }
        where
          moved : (t n : ℕ) → IsReached same hash setting w c blocks t n → IsReached same hash setting (with_hand w b (Parting i)) c blocks t n
          moved t n (inl is) = inl (at_cases (StandsIn setting.counter) w.hand b (Parting i) (blocks.pair n) (λ e. inr (i, refl)) (λ _. is))
          moved t n (inr r) =
              inr (r.0, r.1, r.2, hand_kept w.hand b (Parting i) Handed (blocks.pair n) (λ e. carried (subst (λ (x : ℕ). w.hand x ≡ Handed) e r.3)) r.3, r.4)

    -- a caller unlinks a block that no linked table is, and that none names
    module _ (b i : ℕ)
        (no_table : (t : ℕ) → c.first ≤ t → t < c.past → blocks.table t ≢ b)
        (no_pair : (n : ℕ) → c.current n ≡ true → blocks.pair n ≢ b)
        (no_name : (t i n : ℕ) (phase : Phase) (borrowed : Bool) → c.first ≤ t → t < c.past → c.place t i ≡ Holds n phase borrowed → blocks.pair n ≢ b)
        (h : Hands w c blocks) where
      pub hands_unlinked : Hands (with_effect (with_hand w b (Cutting i)) (Unlinked b)) c blocks
      hands_unlinked = record {
        tables = λ t l made. hand_kept w.hand b (Cutting i) (InUse setting.counter) (blocks.table t) (no_table t l made) (h.tables t l made);
        pairs = λ n is. hand_kept w.hand b (Cutting i) (InUse setting.counter) (blocks.pair n) (no_pair n is) (h.pairs n is);
        named = λ t i n phase borrowed l made e. moved t n l (no_name t i n phase borrowed l made e) (h.named t i n phase borrowed l made e);
        tables_out = λ t made known. at_cases IsOut w.hand b (Cutting i) (blocks.table t) (λ e. tt) (λ _. h.tables_out t made known);
        pairs_out = λ n was known. at_cases IsOut w.hand b (Cutting i) (blocks.pair n) (λ e. tt) (λ _. h.pairs_out n was known);
      }
        where
          moved : (t n : ℕ) → c.first ≤ t → blocks.pair n ≢ b → IsReached same hash setting w c blocks t n
              → IsReached same hash setting (with_effect (with_hand w b (Cutting i)) (Unlinked b)) c blocks t n
          moved t n l ne (inl is) = inl (standing_kept w.hand b (Cutting i) (blocks.pair n) ne is)
          moved t n l ne (inr r) =
              let apart : blocks.table r.0 ≢ b = no_table r.0 (omega (arith, r.1)) r.2 in
              inr (r.0, r.1, r.2, hand_kept w.hand b (Cutting i) Handed (blocks.pair n) ne r.3, cut (blocks.pair n) (blocks.table r.0) ne apart r.4)
            where
              cut : (x y : ℕ) → x ≢ b → y ≢ b → where_is x w.log ≡ With y → where_is x (Unlinked b ∷ w.log) ≡ With y
              cut x y ne apart is = rw (ne_eqb x b ne, is, ne_eqb y b apart) refl
