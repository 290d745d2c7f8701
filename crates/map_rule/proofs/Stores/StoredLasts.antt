-- After a pair of a class was stored at a try behind those that are passed: what lasts, in both modes.
use Rattle.std.proofs.Common.{◌≡◌, ℕ, ◌<◌, Bool, true, false, refl, ap, ◌∙◌, arith}
use Rattle.map_rule.specs.Chart.{Still, Copied, Place, Empty, Tombstone, Holds, Chart, is_settled, is_taken}
use Rattle.map_rule.specs.Rule.{IsLawful, is_of, names, Shut, Common}
use Rattle.map_rule.specs.Lasts.{Lasts}
use Rattle.map_rule.proofs.Moves.Writes.{taken_stays, marked_stays, settled_stays}
use Rattle.map_rule.proofs.Stores.Stored.{stored, old_key, stored_taken, stored_stays}

module _ {K : Type 0} (same : K → K → Bool) (spot : ℕ → K → ℕ → ℕ) where
  module _ (incremental : Bool) (c : Chart K) (t i : ℕ) (k : K) (lawful : IsLawful same spot) (inv : Common same spot incremental c) (empty : c.place t i ≡ Empty false) where
    abbrev c2 : Chart K
    c2 = stored same spot incremental c t i k

    -- what a place names is as it was
    names_as_before : (u j : ℕ) (o : K) (p : Place) → c.place u j ≡ p → names same spot incremental c2.key o p ≡ names same spot incremental c.key o p
    names_as_before u j o (Empty marked) at = refl
    names_as_before u j o (Tombstone marked) at = refl
    names_as_before u j o (Holds n phase borrowed) at =
        ap (is_of same spot incremental o) (old_key same spot incremental c t i k n (inv.keyed u j n phase borrowed at).0)

    others : (u j : ℕ) (o : K) → is_taken incremental (c.place u j) ≡ true → names same spot incremental c.key o (c.place u j) ≡ false
        → names same spot incremental c2.key o (c2.place u j) ≡ false
    others u j o taken none =
        ap (names same spot incremental c2.key o) (taken_stays incremental c.place t i (Holds c.stored Still false) u j empty taken)
        ∙ (names_as_before u j o (c.place u j) refl ∙ none)

    pub stored_lasts : ((u : ℕ) (o : K) → incremental ≡ true → u < c.past → Shut same spot incremental c u o → Shut same spot incremental c2 u o) → Lasts same spot incremental c c2
    stored_lasts shut = record {
      past = omega arith;
      first = omega arith;
      lens = λ u l. (refl, refl);
      stored = omega arith;
      keys = old_key same spot incremental c t i k;
      taken = stored_taken same spot incremental c t i k lawful inv empty;
      others = others;
      copied = λ u j n borrowed at. stored_stays same spot incremental c t i k lawful inv empty u j n Copied borrowed at;
      settled = λ u j h. ap is_settled (settled_stays c.place t i (Holds c.stored Still false) u j empty h) ∙ h;
      shut = shut;
      frozen = λ u j e h. marked_stays c.place t i (Holds c.stored Still false) u j empty h;
    }
