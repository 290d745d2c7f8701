-- Where pairs move in incremental mode, the rule holds after a pair was exchanged.
use Rattle.std.proofs.Common.{◌≡◌, ◌≢◌, ℕ, suc, ◌<◌, ◌≤◌, Bool, true, false, Option, Some, ◌⊎◌, inl, inr, refl, sym, ◌∙◌, subst, arith}
use Rattle.map_rule.specs.Chart.{Phase, Still, Copied, Place, Holds, Share, Free, Claimed, Done, Counted, Lost, Chart, is_marked}
use Rattle.map_rule.specs.Rule.{IsLawful, Agrees, Shut, IsMoving, Common, Incremental, Rule}
use Rattle.map_rule.specs.Lasts.{Lasts}
use Rattle.map_rule.proofs.Stores.Exchanges.{StoodStill, Exchanges, exchanged}
use Rattle.map_rule.proofs.Stores.ExchangesCommon.{common_stays}
use Rattle.map_rule.proofs.Stores.ExchangesLasting.{shut_lasts, exchange_lasts}
use Rattle.map_rule.proofs.Moves.StoodAlone.{home_incremental, alone_incremental}
use Rattle.map_rule.proofs.Moves.Writes.{stands_new, stood_elsewhere}

-- a share that goes with a pair that is not marked goes with any place that isn't
agrees_free : (share : Share) (n : ℕ) (borrowed : Bool) (v : Place) → is_marked v ≡ false → Agrees share (Holds n Still borrowed) → Agrees share v
agrees_free Free n borrowed v u h = u
agrees_free (Claimed caller) n borrowed v u h = absurd (cc h.2)
agrees_free (Done caller) n borrowed v u h = absurd (cc h)
agrees_free Counted n borrowed v u h = absurd (cc h)
agrees_free Lost n borrowed v u h = h

module _ {K : Type 0} (same : K → K → Bool) (spot : ℕ → K → ℕ → ℕ) where
  module _ (lawful : IsLawful same spot) (c : Chart K) (inv : Common same spot true c) (bit : Incremental same spot true c) (t i n : ℕ) (borrowed : Bool) (k : K)
      (h : StoodStill same spot true c t i n borrowed k) (v : Place) (stored : ℕ) (key : ℕ → Option K) (current : ℕ → Bool)
      (x : Exchanges same spot true c n k v stored key current) where
    abbrev after : Chart K
    after = exchanged same spot c t i v stored key current

    abbrev lasts : Lasts same spot true c after
    lasts = exchange_lasts same spot true lawful c inv t i n borrowed k h v stored key current x

    abbrev still_shut : (u : ℕ) (other : K) → Shut same spot true c u other → Shut same spot true after u other
    still_shut = shut_lasts same spot true lawful c inv t i n borrowed k h v stored key current x

    moving_stays : (m : ℕ) → IsMoving same spot true c m → IsMoving same spot true after m
    moving_stays m w = (w.0, w.1, stood_elsewhere c.place t i v _ c.first w.0 w.2 (λ z. let s = h.stood in cc (s, z)))

    chain_stays : (t2 u j m : ℕ) (phase : Phase) (borrowed2 : Bool) (other : K) → after.place u j ≡ Holds m phase borrowed2 → key m ≡ Some other → t2 < u → c.first ≤ t2
        → Shut same spot true after t2 other ⊎ ((t2 ≡ c.first) × (borrowed2 ≡ true) × IsMoving same spot true after m)
    chain_stays t2 u j m phase borrowed2 other e own l far = at (stands_new c.place t i v _ u j e)
      where
        older : Shut same spot true c t2 other ⊎ ((t2 ≡ c.first) × (borrowed2 ≡ true) × IsMoving same spot true c m)
            → Shut same spot true after t2 other ⊎ ((t2 ≡ c.first) × (borrowed2 ≡ true) × IsMoving same spot true after m)
        older (inl shut) = inl (still_shut t2 other shut)
        older (inr w) = inr (w.0, w.1, moving_stays m w.2)

        at : ((u ≡ t) × (j ≡ i) × (v ≡ Holds m phase borrowed2)) ⊎ (((u ≡ t) → (j ≡ i) → ⊥) × (c.place u j ≡ Holds m phase borrowed2))
            → Shut same spot true after t2 other ⊎ ((t2 ≡ c.first) × (borrowed2 ≡ true) × IsMoving same spot true after m)
        at (inl new) =
            let w = x.holds m phase borrowed2 new.2 in
            let same_keys : k ≡ other = cc (own, w.4) in
            let before : t2 < t = omega (arith, new.0, l) in
            inl (still_shut t2 other (subst (λ (y : K). Shut same spot true c t2 y) same_keys (h.may t2 before)))
        at (inr old) =
            older (bit.chain t2 u j m phase borrowed2 other old.1 (sym (x.keys m (inv.keyed u j m phase borrowed2 old.1).0) ∙ own) l far)

    shares_stay : (j : ℕ) → j < c.len c.first → Agrees (c.share (suc c.first) j) (after.place c.first j)
    shares_stay j l = at (stands_new c.place t i v _ c.first j refl)
      where
        at : ((c.first ≡ t) × (j ≡ i) × (v ≡ after.place c.first j)) ⊎ (((c.first ≡ t) → (j ≡ i) → ⊥) × (c.place c.first j ≡ after.place c.first j))
            → Agrees (c.share (suc c.first) j) (after.place c.first j)
        at (inl new) =
            let e : c.place c.first j ≡ Holds n Still borrowed = grind (arith, h.stood, new.0, new.1) in
            subst (λ (y : Place). Agrees (c.share (suc c.first) j) y) new.2
            (agrees_free _ n borrowed v x.unmarked (subst (λ (y : Place). Agrees (c.share (suc c.first) j) y) e (bit.shares j l)))
        at (inr old) = subst (λ (y : Place). Agrees (c.share (suc c.first) j) y) old.1 (bit.shares j l)

    lent_stays : (t2 u j j2 m : ℕ) (phase phase2 : Phase) (borrowed2 : Bool) → after.place t2 j ≡ Holds m phase false → after.place u j2 ≡ Holds m phase2 borrowed2 → t2 ≤ u
    lent_stays t2 u j j2 m phase phase2 borrowed2 e f = at (stands_new c.place t i v _ t2 j e) (stands_new c.place t i v _ u j2 f)
      where
        at : ((t2 ≡ t) × (j ≡ i) × (v ≡ Holds m phase false)) ⊎ (((t2 ≡ t) → (j ≡ i) → ⊥) × (c.place t2 j ≡ Holds m phase false))
            → ((u ≡ t) × (j2 ≡ i) × (v ≡ Holds m phase2 borrowed2)) ⊎ (((u ≡ t) → (j2 ≡ i) → ⊥) × (c.place u j2 ≡ Holds m phase2 borrowed2)) → t2 ≤ u
        at (inl a) (inl b) = omega (arith, a.0, b.0)
        at (inl a) (inr b) = absurd (omega (arith, (x.holds m phase false a.2).0, (inv.keyed u j2 m phase2 borrowed2 b.1).0))
        at (inr a) (inl b) = absurd (omega (arith, (x.holds m phase2 borrowed2 b.2).0, (inv.keyed t2 j m phase false a.1).0))
        at (inr a) (inr b) = bit.lent t2 u j j2 m phase phase2 borrowed2 a.1 b.1

    alone : (u j : ℕ) (phase : Phase) (borrowed2 : Bool) → c.place u j ≡ Holds n phase borrowed2 → phase ≢ Copied → c.first ≤ u → (u ≡ t) × (j ≡ i)
    alone u j phase borrowed2 e still home = at (alone_incremental same spot lawful c inv bit t i n borrowed k h u j phase borrowed2 e)
      where
        at : ((u ≡ t) × (j ≡ i)) ⊎ ((u < t) × (phase ≡ Copied)) → (u ≡ t) × (j ≡ i)
        at (inl there) = there
        at (inr older) = absurd (still older.1)

    pub exchange_incremental : Rule same spot true after × Lasts same spot true c after
    exchange_incremental = (
      record {
        common = common_stays same spot true lawful c inv t i n borrowed k h v stored key current x (home_incremental same spot c inv bit t i n borrowed h.stood) alone;
        in_mode = record {
          settled = λ u j l far. lasts.settled u j (bit.settled u j l far);
          chain = chain_stays;
          shares = shares_stay;
          only_next = bit.only_next;
          lent = lent_stays;
          never_aborted = bit.never_aborted;
        };
      },
      lasts,
    )
