-- Where a pair still stands that was taken out of the map: in incremental mode in older tables alone, copied, and nowhere if it wasn't borrowed;
-- at once in aborted tables alone, and in those before the root.
use Rattle.std.proofs.Common.{◌≡◌, ◌≢◌, ℕ, ◌<◌, ◌≤◌, Bool, true, false, ◌⊎◌, inl, inr, refl, sym, subst, eq-or-lt_of_le, arith}
use Rattle.map_machines.specs.Given.TablesDeclared.status.TheConstants.Status.{ABORTED}
use Rattle.map_rule.specs.Chart.{Phase, Still, Copied, Place, Tombstone, Holds, Chart, put_in}
use Rattle.map_rule.specs.Rule.{IsLawful, is_of, Rule}
use Rattle.map_rule.specs.Moves.{Replaces, Removes, after, MayChange}
use Rattle.map_rule.proofs.Stores.Exchanges.{StoodStill}
use Rattle.map_rule.proofs.Moves.StoodAlone.{alone_incremental, alone_blocking, nowhere_later}
use Rattle.map_rule.proofs.Moves.Writes.{stands_new}

module _ {K : Type 0} (same : K → K → Bool) (spot : ℕ → K → ℕ → ℕ) where
  -- in incremental mode, what stands there afterwards is not the pair
  module _ (c : Chart K) (lawful : IsLawful same spot) (rule : Rule same spot true c) (t i n : ℕ) (borrowed : Bool) (k : K)
      (h : StoodStill same spot true c t i n borrowed k) (v : Place) (other : (phase : Phase) (borrowed2 : Bool) → v ≢ Holds n phase borrowed2) where
    left_older : (u j : ℕ) (phase : Phase) (borrowed2 : Bool) → put_in c.place t i v u j ≡ Holds n phase borrowed2
        → (u < t) × (phase ≡ Copied) × (c.place u j ≡ Holds n Copied borrowed2)
    left_older u j phase borrowed2 e = at (stands_new c.place t i v _ u j e)
      where
        older : c.place u j ≡ Holds n phase borrowed2 → ((u ≡ t) → (j ≡ i) → ⊥) → ((u ≡ t) × (j ≡ i)) ⊎ ((u < t) × (phase ≡ Copied))
            → (u < t) × (phase ≡ Copied) × (c.place u j ≡ Holds n Copied borrowed2)
        older f away (inl there) = absurd (away there.0 there.1)
        older f away (inr w) = (w.0, w.1, subst (λ (y : Phase). c.place u j ≡ Holds n y borrowed2) w.1 f)

        at : ((u ≡ t) × (j ≡ i) × (v ≡ Holds n phase borrowed2)) ⊎ (((u ≡ t) → (j ≡ i) → ⊥) × (c.place u j ≡ Holds n phase borrowed2))
            → (u < t) × (phase ≡ Copied) × (c.place u j ≡ Holds n Copied borrowed2)
        at (inl new) = absurd (other phase borrowed2 new.2)
        at (inr old) = older old.1 old.0 (alone_incremental same spot lawful c rule.common rule.in_mode t i n borrowed k h u j phase borrowed2 old.1)

    left_nowhere : borrowed ≡ false → (u j : ℕ) (phase : Phase) (borrowed2 : Bool) → put_in c.place t i v u j ≡ Holds n phase borrowed2 → ⊥
    left_nowhere own u j phase borrowed2 e =
        let w = left_older u j phase borrowed2 e in
        let stood : c.place t i ≡ Holds n Still false = subst (λ (y : Bool). c.place t i ≡ Holds n Still y) own h.stood in
        let l = rule.in_mode.lent t u i j n Still Copied borrowed2 stood w.2 in
        absurd (omega (arith, l, w.0))

  -- at once
  module _ (c : Chart K) (lawful : IsLawful same spot) (rule : Rule same spot false c) (t i n : ℕ) (borrowed : Bool) (k : K)
      (h : StoodStill same spot false c t i n borrowed k) (v : Place) (other : (phase : Phase) (borrowed2 : Bool) → v ≢ Holds n phase borrowed2) where
    left_aborted : (u j : ℕ) (phase : Phase) (borrowed2 : Bool) → c.first ≤ u → c.status u ≢ ABORTED → put_in c.place t i v u j ≡ Holds n phase borrowed2 → ⊥
    left_aborted u j phase borrowed2 far live e = at (stands_new c.place t i v _ u j e) (eq-or-lt_of_le far)
      where
        at : ((u ≡ t) × (j ≡ i) × (v ≡ Holds n phase borrowed2)) ⊎ (((u ≡ t) → (j ≡ i) → ⊥) × (c.place u j ≡ Holds n phase borrowed2))
            → (c.first ≡ u) ⊎ (c.first < u) → ⊥
        at (inl new) far = other phase borrowed2 new.2
        at (inr old) (inl root) =
            let w = alone_blocking same spot lawful c rule.common t i n borrowed k h u j phase borrowed2 old.1 (sym root) in old.0 w.0 w.1
        at (inr old) (inr later) = nowhere_later same spot lawful c rule.common rule.in_mode t i n borrowed k h u j phase borrowed2 later live old.1

  -- a new pair is another one
  new_is_other : (incremental : Bool) (c : Chart K) → Rule same spot incremental c → (t i n : ℕ) (borrowed : Bool) → c.place t i ≡ Holds n Still borrowed
      → (phase : Phase) (borrowed2 : Bool) → Holds c.stored Still false ≢ Holds n phase borrowed2
  new_is_other incremental c rule t i n borrowed e phase borrowed2 f =
      let same_pair : c.stored ≡ n = cc f in
      absurd (omega (arith, same_pair, (rule.common.keyed t i n Still borrowed e).0))

  -- In incremental mode, a pair that was replaced stands in tables before its own alone, copied.
  pub replaced_left_older : IsLawful same spot → (c : Chart K) → Rule same spot true c → (t i n : ℕ) (borrowed : Bool) (k : K)
      → c.place t i ≡ Holds n Still borrowed → is_of same spot true k (c.key n) ≡ true → MayChange same spot true c t k
      → (u j : ℕ) (phase : Phase) (borrowed2 : Bool) → (after spot true (Replaces t i k) c).place u j ≡ Holds n phase borrowed2 → (u < t) × (phase ≡ Copied)
  replaced_left_older lawful c rule t i n borrowed k e own may u j phase borrowed2 f =
      let w = left_older c lawful rule t i n borrowed k (record { stood = e; of_class = own; may = may }) (Holds c.stored Still false)
      (new_is_other true c rule t i n borrowed e) u j phase borrowed2 f in
      (w.0, w.1)

  -- One that was not borrowed stands nowhere.
  pub replaced_left_nowhere : IsLawful same spot → (c : Chart K) → Rule same spot true c → (t i n : ℕ) (k : K)
      → c.place t i ≡ Holds n Still false → is_of same spot true k (c.key n) ≡ true → MayChange same spot true c t k
      → (u j : ℕ) (phase : Phase) (borrowed : Bool) → (after spot true (Replaces t i k) c).place u j ≢ Holds n phase borrowed
  replaced_left_nowhere lawful c rule t i n k e own may =
      left_nowhere c lawful rule t i n false k (record { stood = e; of_class = own; may = may }) (Holds c.stored Still false) (new_is_other true c rule t i n false e) refl

  -- At once, it stands neither in the root nor in a later table that was not aborted.
  pub replaced_left_aborted : IsLawful same spot → (c : Chart K) → Rule same spot false c → (t i n : ℕ) (borrowed : Bool) (k : K)
      → c.place t i ≡ Holds n Still borrowed → is_of same spot false k (c.key n) ≡ true → MayChange same spot false c t k
      → (u j : ℕ) (phase : Phase) (borrowed2 : Bool) → c.first ≤ u → c.status u ≢ ABORTED
      → (after spot false (Replaces t i k) c).place u j ≢ Holds n phase borrowed2
  replaced_left_aborted lawful c rule t i n borrowed k e own may =
      left_aborted c lawful rule t i n borrowed k (record { stood = e; of_class = own; may = may }) (Holds c.stored Still false) (new_is_other false c rule t i n borrowed e)

  -- The same of a pair that was removed.
  pub tombstone_left_older : IsLawful same spot → (c : Chart K) → Rule same spot true c → (t i n : ℕ) (borrowed : Bool) (k : K)
      → c.place t i ≡ Holds n Still borrowed → is_of same spot true k (c.key n) ≡ true → MayChange same spot true c t k
      → (u j : ℕ) (phase : Phase) (borrowed2 : Bool) → (after spot true (Removes t i) c).place u j ≡ Holds n phase borrowed2 → (u < t) × (phase ≡ Copied)
  tombstone_left_older lawful c rule t i n borrowed k e own may u j phase borrowed2 f =
      let w = left_older c lawful rule t i n borrowed k (record { stood = e; of_class = own; may = may }) (Tombstone false) (λ p b z. cc z) u j phase borrowed2 f in
      (w.0, w.1)

  pub tombstone_left_nowhere : IsLawful same spot → (c : Chart K) → Rule same spot true c → (t i n : ℕ) (k : K)
      → c.place t i ≡ Holds n Still false → is_of same spot true k (c.key n) ≡ true → MayChange same spot true c t k
      → (u j : ℕ) (phase : Phase) (borrowed : Bool) → (after spot true (Removes t i) c).place u j ≢ Holds n phase borrowed
  tombstone_left_nowhere lawful c rule t i n k e own may =
      left_nowhere c lawful rule t i n false k (record { stood = e; of_class = own; may = may }) (Tombstone false) (λ p b z. cc z) refl

  pub tombstone_left_aborted : IsLawful same spot → (c : Chart K) → Rule same spot false c → (t i n : ℕ) (borrowed : Bool) (k : K)
      → c.place t i ≡ Holds n Still borrowed → is_of same spot false k (c.key n) ≡ true → MayChange same spot false c t k
      → (u j : ℕ) (phase : Phase) (borrowed2 : Bool) → c.first ≤ u → c.status u ≢ ABORTED
      → (after spot false (Removes t i) c).place u j ≢ Holds n phase borrowed2
  tombstone_left_aborted lawful c rule t i n borrowed k e own may =
      left_aborted c lawful rule t i n borrowed k (record { stood = e; of_class = own; may = may }) (Tombstone false) (λ p b z. cc z)
