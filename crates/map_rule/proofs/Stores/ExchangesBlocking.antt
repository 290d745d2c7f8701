-- Where pairs move in blocking mode, the rule holds after a pair was exchanged.
use Rattle.std.proofs.Common.{◌≡◌, ◌≢◌, ℕ, suc, ◌<◌, Bool, true, false, Option, ◌⊎◌, inl, inr, refl, ap, sym, ◌∙◌, arith}
use Rattle.map_machines.specs.Given.TablesDeclared.status.TheConstants.Status.{ABORTED}
use Rattle.map_rule.specs.Chart.{Phase, Still, Copying, Copied, Place, Holds, Chart, is_marked}
use Rattle.map_rule.specs.Rule.{IsLawful, is_past, is_over, Common, Blocking, Rule}
use Rattle.map_rule.specs.Lasts.{Lasts}
use Rattle.map_rule.proofs.Stores.Exchanges.{StoodStill, Exchanges, exchanged}
use Rattle.map_rule.proofs.Stores.ExchangesCommon.{common_stays}
use Rattle.map_rule.proofs.Stores.ExchangesLasting.{exchange_lasts}
use Rattle.map_rule.proofs.Moves.StoodAlone.{alone_blocking}
use Rattle.map_rule.proofs.Moves.Writes.{stands_new, stood_elsewhere}

module _ {K : Type 0} (same : K → K → Bool) (spot : ℕ → K → ℕ → ℕ) where
  module _ (lawful : IsLawful same spot) (c : Chart K) (inv : Common same spot false c) (once : Blocking same spot false c) (t i n : ℕ) (borrowed : Bool) (k : K)
      (h : StoodStill same spot false c t i n borrowed k) (v : Place) (stored : ℕ) (key : ℕ → Option K) (current : ℕ → Bool)
      (x : Exchanges same spot false c n k v stored key current) where
    abbrev after : Chart K
    after = exchanged same spot c t i v stored key current

    abbrev lasts : Lasts same spot false c after
    lasts = exchange_lasts same spot false lawful c inv t i n borrowed k h v stored key current x

    marked_stays : (j : ℕ) → is_marked (after.place c.first j) ≡ true → suc c.first < c.past
    marked_stays j e = once.marked_has_next j (grind (arith, e, x.unmarked))

    plain_stays : (u j m : ℕ) (phase : Phase) (borrowed2 : Bool) → after.place u j ≡ Holds m phase borrowed2 → (phase ≢ Copied) × (borrowed2 ≡ false)
    plain_stays u j m phase borrowed2 e = at (stands_new c.place t i v _ u j e)
      where
        at : ((u ≡ t) × (j ≡ i) × (v ≡ Holds m phase borrowed2)) ⊎ (((u ≡ t) → (j ≡ i) → ⊥) × (c.place u j ≡ Holds m phase borrowed2)) → (phase ≢ Copied) × (borrowed2 ≡ false)
        at (inl new) = let w = x.holds m phase borrowed2 new.2 in ((λ z. cc (w.2, z)), w.3)
        at (inr old) = once.plain u j m phase borrowed2 old.1

    targets_stay : (u j m : ℕ) (phase : Phase) (borrowed2 : Bool) → c.first < u → c.status u ≢ ABORTED → after.place u j ≡ Holds m phase borrowed2
        → (g : ℕ) × (g < c.len c.first) × (after.place c.first g ≡ Holds m Copying false) × (is_over (c.share u g) ≡ true)
    targets_stay u j m phase borrowed2 later live e = at (stands_new c.place t i v _ u j e)
      where
        at : ((u ≡ t) × (j ≡ i) × (v ≡ Holds m phase borrowed2)) ⊎ (((u ≡ t) → (j ≡ i) → ⊥) × (c.place u j ≡ Holds m phase borrowed2))
            → (g : ℕ) × (g < c.len c.first) × (after.place c.first g ≡ Holds m Copying false) × (is_over (c.share u g) ≡ true)
        at (inl new) = absurd (omega (arith, new.0, h.may, later))
        at (inr old) =
            let w = once.targets u j m phase borrowed2 later live old.1 in
            (w.0, w.1, stood_elsewhere c.place t i v _ c.first w.0 w.2 (λ z. let s = h.stood in cc (s, z)), w.3)

    -- a later table is another one than that of the pair
    later_stays : (u j : ℕ) (p : Place) → c.first < u → c.place u j ≡ p → after.place u j ≡ p
    later_stays u j p later e = at (stands_new c.place t i v _ u j refl)
      where
        at : ((u ≡ t) × (j ≡ i) × (v ≡ after.place u j)) ⊎ (((u ≡ t) → (j ≡ i) → ⊥) × (c.place u j ≡ after.place u j)) → after.place u j ≡ p
        at (inl new) = absurd (omega (arith, new.0, h.may, later))
        at (inr old) = sym old.1 ∙ e

    copies_stay : (u j : ℕ) → c.first < u → c.status u ≢ ABORTED → is_past (c.share u j) ≡ true
        → (is_marked (after.place c.first j) ≡ true)
        × ((m : ℕ) (phase : Phase) (borrowed2 : Bool) → after.place c.first j ≡ Holds m phase borrowed2 → (g : ℕ) × (after.place u g ≡ Holds m Still false))
    copies_stay u j later live over =
        let w = once.copies u j later live over in
        let same_place : after.place c.first j ≡ c.place c.first j = lasts.frozen c.first j refl w.0 in
        (ap is_marked same_place ∙ w.0, λ m phase borrowed2 e. let there = w.1 m phase borrowed2 (sym same_place ∙ e) in (there.0, later_stays u there.0 _ later there.1))

    pub exchange_blocking : Rule same spot false after × Lasts same spot false c after
    exchange_blocking = (
      record {
        common = common_stays same spot false lawful c inv t i n borrowed k h v stored key current x h.may
            (λ u j phase borrowed2 e still home. alone_blocking same spot lawful c inv t i n borrowed k h u j phase borrowed2 e home);
        in_mode = record {
          marked_has_next = marked_stays;
          plain = plain_stays;
          targets = targets_stay;
          copies = copies_stay;
          claims = once.claims;
          sources = λ u j m phase borrowed2 l e. let w = once.sources u j m phase borrowed2 l (grind (arith, e)) in (w.0, lasts.frozen c.first w.0 refl (ap is_marked w.1) ∙ w.1);
          left = λ u j m s l. let k = once.left u j m s l in ap is_marked (lasts.frozen u j refl k) ∙ k;
          no_tombstone = λ u j mark l e. once.no_tombstone u j mark l (grind (arith, e, h.may));
          aborted = once.aborted;
          given_up = once.given_up;
        };
      },
      lasts,
    )
