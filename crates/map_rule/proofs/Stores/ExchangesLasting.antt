-- What lasts when a pair is exchanged.
use Rattle.std.proofs.Common.{◌≡◌, ℕ, Bool, true, false, Option, ◌⊎◌, inl, inr, refl, ap, sym, ◌∙◌, arith}
use Rattle.map_rule.specs.Chart.{Phase, Still, Copied, Place, Empty, Tombstone, Holds, Chart, is_marked, is_settled, is_taken}
use Rattle.map_rule.specs.Rule.{IsLawful, is_of, names, Full, WasCopied, Shut, Common}
use Rattle.map_rule.specs.Lasts.{Lasts}
use Rattle.map_rule.proofs.Stores.Exchanges.{StoodStill, Exchanges, exchanged, of_new}
use Rattle.map_rule.proofs.Stores.ExchangesCommon.{same_key}
use Rattle.map_rule.proofs.Moves.Writes.{stands_new, stood_elsewhere, stays_taken}

module _ {K : Type 0} (same : K → K → Bool) (spot : ℕ → K → ℕ → ℕ) where
  module _ (incremental : Bool) (lawful : IsLawful same spot) (c : Chart K) (inv : Common same spot incremental c) (t i n : ℕ) (borrowed : Bool) (k : K)
      (h : StoodStill same spot incremental c t i n borrowed k) (v : Place) (stored : ℕ) (key : ℕ → Option K) (current : ℕ → Bool)
      (x : Exchanges same spot incremental c n k v stored key current) where
    abbrev after : Chart K
    after = exchanged same spot c t i v stored key current

    abbrev key_stays : (u j m : ℕ) (phase : Phase) (borrowed2 : Bool) → c.place u j ≡ Holds m phase borrowed2 → key m ≡ c.key m
    key_stays = same_key same spot incremental lawful c inv t i n borrowed k h v stored key current x

    -- what names no pair of a class names none by the keys after
    names_none : (u j : ℕ) (other : K) (p : Place) → c.place u j ≡ p → names same spot incremental c.key other p ≡ false → names same spot incremental key other p ≡ false
    names_none u j other (Empty mark) e f = refl
    names_none u j other (Tombstone mark) e f = refl
    names_none u j other (Holds m phase borrowed2) e f = ap (is_of same spot incremental other) (key_stays u j m phase borrowed2 e) ∙ f

    -- the new pair is of no class that the old one wasn't of
    new_names_none : (other : K) (p : Place) → v ≡ p → is_of same spot incremental other (c.key n) ≡ false → names same spot incremental key other p ≡ false
    new_names_none other (Empty mark) e f = refl
    new_names_none other (Tombstone mark) e f = refl
    new_names_none other (Holds m phase borrowed2) e f =
        ap (is_of same spot incremental other) (x.holds m phase borrowed2 e).4 ∙ of_new same spot incremental lawful c inv t i n borrowed k h other ∙ f

    others_last : (u j : ℕ) (other : K) → is_taken incremental (c.place u j) ≡ true → names same spot incremental c.key other (c.place u j) ≡ false
        → names same spot incremental key other (after.place u j) ≡ false
    others_last u j other taken none = at (stands_new c.place t i v _ u j refl)
      where
        at : ((u ≡ t) × (j ≡ i) × (v ≡ after.place u j)) ⊎ (((u ≡ t) → (j ≡ i) → ⊥) × (c.place u j ≡ after.place u j))
            → names same spot incremental key other (after.place u j) ≡ false
        at (inl new) =
            let e : c.place u j ≡ Holds n Still borrowed = grind (arith, h.stood, new.0, new.1) in
            new_names_none other (after.place u j) new.2 (sym (ap (names same spot incremental c.key other) e) ∙ none)
        at (inr old) = names_none u j other (after.place u j) old.1 (sym (ap (names same spot incremental c.key other) old.1) ∙ none)

    copied_lasts : (u j m : ℕ) (borrowed2 : Bool) → c.place u j ≡ Holds m Copied borrowed2 → after.place u j ≡ Holds m Copied borrowed2
    copied_lasts u j m borrowed2 e = stood_elsewhere c.place t i v _ u j e (λ z. let s = h.stood in cc (s, z))

    settled_lasts : (u j : ℕ) → is_settled (c.place u j) ≡ true → is_settled (after.place u j) ≡ true
    settled_lasts u j e = grind (arith, e, h.stood)

    frozen_lasts : (u j : ℕ) → is_marked (c.place u j) ≡ true → after.place u j ≡ c.place u j
    frozen_lasts u j e = grind (arith, e, h.stood)

    -- a table that is shut for a class is not the one of the pair, or the class isn't
    pub shut_lasts : (u : ℕ) (other : K) → Shut same spot incremental c u other → Shut same spot incremental after u other
    shut_lasts u other shut = (copied_only, either shut.1)
      where
        copied_only : (j m : ℕ) (phase : Phase) (borrowed2 : Bool) → after.place u j ≡ Holds m phase borrowed2 → is_of same spot incremental other (key m) ≡ true → phase ≡ Copied
        copied_only j m phase borrowed2 e own = at (stands_new c.place t i v _ u j e)
          where
            at : ((u ≡ t) × (j ≡ i) × (v ≡ Holds m phase borrowed2)) ⊎ (((u ≡ t) → (j ≡ i) → ⊥) × (c.place u j ≡ Holds m phase borrowed2)) → phase ≡ Copied
            at (inl new) =
                let f : is_of same spot incremental other (c.key n) ≡ true =
                sym (of_new same spot incremental lawful c inv t i n borrowed k h other) ∙ ap (is_of same spot incremental other) (sym (x.holds m phase borrowed2 new.2).4) ∙ own in
                let e2 : c.place u i ≡ Holds n Still borrowed = ap (λ (y : ℕ). c.place y i) new.0 ∙ h.stood in
                let p = shut.0 i n Still borrowed e2 f in
                cc p
            at (inr old) = shut.0 j m phase borrowed2 old.1 (ap (is_of same spot incremental other) (sym (key_stays u j m phase borrowed2 old.1)) ∙ own)

        either : WasCopied same spot incremental c u other ⊎ Full same spot incremental c u other → WasCopied same spot incremental after u other ⊎ Full same spot incremental after u other
        either (inl w) = inl (w.0, w.1, w.2, copied_lasts u w.0 w.1 w.2 w.3, ap (is_of same spot incremental other) (key_stays u w.0 w.1 Copied w.2 w.3) ∙ w.4)
        either (inr full) = inr (λ g l. stays_taken incremental c.place t i v u (spot (c.len u) other g) x.taken (full g l))

    pub exchange_lasts : Lasts same spot incremental c after
    exchange_lasts = record {
      past = omega arith;
      first = omega arith;
      lens = λ u l. (refl, refl);
      stored = x.more;
      keys = x.keys;
      taken = λ u j e. stays_taken incremental c.place t i v u j x.taken e;
      others = others_last;
      copied = copied_lasts;
      settled = settled_lasts;
      shut = λ u other e l. shut_lasts u other;
      frozen = λ u j e. frozen_lasts u j;
    }
