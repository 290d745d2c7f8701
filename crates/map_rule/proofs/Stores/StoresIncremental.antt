-- A pair of a class is stored, where pairs move in incremental mode.
use Rattle.std.proofs.Common.{◌≡◌, ℕ, suc, ◌<◌, ◌≤◌, Bool, true, false, Some, ◌⊎◌, inl, inr, refl, ap, sym, ◌∙◌, arith}
use Rattle.map_rule.specs.Chart.{Phase, Still, Copying, Copied, Place, Empty, Holds, Share, Free, Claimed, Done, Counted, Lost, Chart, is_marked, is_settled}
use Rattle.map_rule.specs.Rule.{IsLawful, is_of, Agrees, Passed, WasCopied, Full, Shut, ShutBefore, IsMoving, Incremental, Rule}
use Rattle.map_rule.specs.Moves.{Stores, Allowed}
use Rattle.map_rule.specs.Lasts.{MoveKeeps}
use Rattle.map_rule.proofs.Moves.Shuts.{key_class, shut_class, shut_not_open}
use Rattle.map_rule.proofs.Moves.Writes.{put_in_cases, put_in_elsewhere}
use Rattle.map_rule.proofs.Stores.Stored.{stored, IsNew, IsOld, new_key, old_key, new_or_old, stored_taken, stored_stays}
use Rattle.map_rule.proofs.Stores.StoredCommon.{stored_common}
use Rattle.map_rule.proofs.Stores.StoredLasts.{stored_lasts}

-- what a share says of an empty place it says of one with a pair that is not marked
agrees_still : (share : Share) (p q : Place) → p ≡ Empty false → is_marked q ≡ false → Agrees share p → Agrees share q
agrees_still Free p q e f a = f
agrees_still (Claimed caller) p q e f a = absurd (let h = a.2 in cc)
agrees_still (Done caller) p q e f a = absurd (grind arith)
agrees_still Counted p q e f a = absurd (grind arith)
agrees_still Lost p q e f a = absurd a

module _ {K : Type 0} (same : K → K → Bool) (spot : ℕ → K → ℕ → ℕ) where
  module _ (c : Chart K) (t : ℕ) (k : K) (j : ℕ) where
    abbrev i : ℕ
    i = spot (c.len t) k j

    abbrev c2 : Chart K
    c2 = stored same spot true c t (spot (c.len t) k j) k

    abbrev New : ℕ → ℕ → ℕ → Phase → Bool → Type 0
    New u a n phase borrowed = IsNew same spot true c t (spot (c.len t) k j) k u a n phase borrowed

    abbrev Old : ℕ → ℕ → ℕ → Phase → Bool → Type 0
    Old u a n phase borrowed = IsOld same spot true c t (spot (c.len t) k j) k u a n phase borrowed

    module _ (lawful : IsLawful same spot) (inv : Rule same spot true c) (l : t < c.past) (home : c.first ≤ t) (may : j ≤ c.limit t) (empty : c.place t i ≡ Empty false)
        (passed : Passed same spot true c t k j) (before : ShutBefore same spot true c t k) where
      cases : (u a n : ℕ) (phase : Phase) (borrowed : Bool) → c2.place u a ≡ Holds n phase borrowed → New u a n phase borrowed ⊎ Old u a n phase borrowed
      cases = new_or_old same spot true c t i k inv.common

      stays : (u a n : ℕ) (phase : Phase) (borrowed : Bool) → c.place u a ≡ Holds n phase borrowed → c2.place u a ≡ Holds n phase borrowed
      stays = stored_stays same spot true c t i k lawful inv.common empty

      -- the table was not shut for the class
      was_open : (o : K) → same o k ≡ true → Shut same spot true c t o → ⊥
      was_open o e shut =
          shut_not_open same spot true lawful c inv.common t k j (inv.in_mode.never_aborted t) (shut_class same spot true lawful c t o k e shut) passed may empty

      -- what is shut stays shut
      shut_stays : (u : ℕ) (o : K) → Shut same spot true c u o → Shut same spot true c2 u o
      shut_stays u o shut = (λ a n phase borrowed at is. held a n phase borrowed is (cases u a n phase borrowed at), either shut.1)
        where
          held : (a n : ℕ) (phase : Phase) (borrowed : Bool) → is_of same spot true o (c2.key n) ≡ true → New u a n phase borrowed ⊎ Old u a n phase borrowed → phase ≡ Copied
          held a n phase borrowed is (inl new) =
              absurd (was_open o (key_class same spot true o k (c2.key n) (ap c2.key new.2 ∙ new_key same spot true c t i k) is) (at_table new.0))
            where
              at_table : u ≡ t → Shut same spot true c t o
              at_table e = rw e at shut
          held a n phase borrowed is (inr old) = shut.0 a n phase borrowed old.0 (ap (is_of same spot true o) (sym old.2) ∙ is)

          either : WasCopied same spot true c u o ⊎ Full same spot true c u o → WasCopied same spot true c2 u o ⊎ Full same spot true c2 u o
          either (inl w) =
              inl (
                w.0,
                w.1,
                w.2,
                stays u w.0 w.1 Copied w.2 w.3,
                ap (is_of same spot true o) (old_key same spot true c t i k w.1 (inv.common.keyed u w.0 w.1 Copied w.2 w.3).0) ∙ w.4,
              )
          either (inr full) = inr (λ g h. stored_taken same spot true c t i k lawful inv.common empty u (spot (c.len u) o g) (full g h))

      settled : (u a : ℕ) → u < c.first → a < c.len u → is_settled (c2.place u a) ≡ true
      settled u a h m = ap is_settled (put_in_elsewhere c.place t i (Holds c.stored Still false) u a (λ e. omega arith)) ∙ inv.in_mode.settled u a h m

      chain : (u v a n : ℕ) (phase : Phase) (borrowed : Bool) (o : K) → c2.place v a ≡ Holds n phase borrowed → c2.key n ≡ Some o → u < v → c.first ≤ u
          → Shut same spot true c2 u o ⊎ ((u ≡ c.first) × (borrowed ≡ true) × IsMoving same spot true c2 n)
      chain u v a n phase borrowed o at e h past = either (cases v a n phase borrowed at)
        where
          chained : Shut same spot true c u o ⊎ ((u ≡ c.first) × (borrowed ≡ true) × IsMoving same spot true c n)
              → Shut same spot true c2 u o ⊎ ((u ≡ c.first) × (borrowed ≡ true) × IsMoving same spot true c2 n)
          chained (inl shut) = inl (shut_stays u o shut)
          chained (inr m) = inr (m.0, m.1, (m.2.0, m.2.1, stays c.first m.2.0 n Copying m.2.1 m.2.2))

          either : New v a n phase borrowed ⊎ Old v a n phase borrowed → Shut same spot true c2 u o ⊎ ((u ≡ c.first) × (borrowed ≡ true) × IsMoving same spot true c2 n)
          either (inl new) = inl (shut_stays u o (rw same_key at (before u (rw new.0 at h))))
            where
              same_key : k ≡ o
              same_key = let f = ap c2.key new.2 in let g = new_key same spot true c t i k in cc
          either (inr old) = chained (inv.in_mode.chain u v a n phase borrowed o old.0 (sym old.2 ∙ e) h past)

      shares : (a : ℕ) → a < c.len c.first → Agrees (c.share (suc c.first) a) (c2.place c.first a)
      shares a h = either (put_in_cases c.place t i (Holds c.stored Still false) c.first a)
        where
          either : ((c.first ≡ t) × (a ≡ i) × (c2.place c.first a ≡ Holds c.stored Still false)) ⊎ (c2.place c.first a ≡ c.place c.first a)
              → Agrees (c.share (suc c.first) a) (c2.place c.first a)
          either (inl e) =
              agrees_still (c.share (suc c.first) a) (c.place c.first a) (c2.place c.first a) (let f = e.0 in let g = e.1 in cc) (ap is_marked e.2) (inv.in_mode.shares a h)
          either (inr e) = rw e (inv.in_mode.shares a h)

      lent : (u v a b n : ℕ) (phase phase2 : Phase) (borrowed : Bool) → c2.place u a ≡ Holds n phase false → c2.place v b ≡ Holds n phase2 borrowed → u ≤ v
      lent u v a b n phase phase2 borrowed at at2 = either (cases u a n phase false at) (cases v b n phase2 borrowed at2)
        where
          either : New u a n phase false ⊎ Old u a n phase false → New v b n phase2 borrowed ⊎ Old v b n phase2 borrowed → u ≤ v
          either (inl new) (inl new2) = let e = new.0 in let f = new2.0 in omega (arith, e, f)
          either (inl new) (inr old) = absurd (let e = new.2 in let f = old.1 in omega (arith, e, f))
          either (inr old) (inl new) = absurd (let e = new.2 in let f = old.1 in omega (arith, e, f))
          either (inr old) (inr old2) = inv.in_mode.lent u v a b n phase phase2 borrowed old.0 old2.0

      pub stored_incremental : Incremental same spot true c2
      stored_incremental = record {
        settled = settled;
        chain = chain;
        shares = shares;
        only_next = inv.in_mode.only_next;
        lent = lent;
        never_aborted = inv.in_mode.never_aborted;
      }

      pub stored_keeps_incremental : MoveKeeps same spot true (Stores t k j) c
      stored_keeps_incremental = (
        record { common = stored_common same spot true c t k j lawful inv.common l may empty passed (inv.in_mode.never_aborted t) home; in_mode = stored_incremental },
        stored_lasts same spot true c t i k lawful inv.common empty (λ u o e h shut. shut_stays u o shut),
        λ a u b not_by mine. refl,
      )

  pub kept_stores_incremental : (t : ℕ) (k : K) (j : ℕ) (c : Chart K) → IsLawful same spot → Rule same spot true c → Allowed same spot true (Stores t k j) c
      → MoveKeeps same spot true (Stores t k j) c
  kept_stores_incremental t k j c lawful inv allowed =
      stored_keeps_incremental c t k j lawful inv allowed.0 allowed.1 allowed.2 allowed.3 allowed.4 allowed.5
