-- After a pair of a class was stored at a try behind those that are passed: the rule of both modes.
use Rattle.std.proofs.Common.{◌≡◌, ◌≢◌, ℕ, ◌<◌, ◌≤◌, Bool, true, false, Some, ◌⊎◌, inl, inr, ap, sym, ◌∙◌, subst}
use Rattle.map_machines.specs.Given.TablesDeclared.status.TheConstants.Status.{ABORTED}
use Rattle.map_rule.specs.Chart.{Phase, Empty, Holds, Chart}
use Rattle.map_rule.specs.Rule.{IsLawful, is_of, Passed, OnPath, IsHome, Common}
use Rattle.map_rule.proofs.Moves.Shuts.{of_class, key_class, none_at_open}
use Rattle.map_rule.proofs.Stores.Stored.{stored, IsNew, IsOld, new_key, new_or_old, stored_unmade, stored_outside, stored_keyed, stored_unstored, stored_taken, stored_stands, stored_is_current, stored_unmarked}

module _ {K : Type 0} (same : K → K → Bool) (spot : ℕ → K → ℕ → ℕ) where
  module _ (incremental : Bool) (c : Chart K) (t : ℕ) (k : K) (j : ℕ) where
    abbrev i : ℕ
    i = spot (c.len t) k j

    abbrev c2 : Chart K
    c2 = stored same spot incremental c t (spot (c.len t) k j) k

    abbrev New : ℕ → ℕ → ℕ → Phase → Bool → Type 0
    New u a n phase borrowed = IsNew same spot incremental c t (spot (c.len t) k j) k u a n phase borrowed

    abbrev Old : ℕ → ℕ → ℕ → Phase → Bool → Type 0
    Old u a n phase borrowed = IsOld same spot incremental c t (spot (c.len t) k j) k u a n phase borrowed

    module _ (lawful : IsLawful same spot) (inv : Common same spot incremental c) (l : t < c.past) (may : j ≤ c.limit t) (empty : c.place t i ≡ Empty false)
        (passed : Passed same spot incremental c t k j) (live : c.status t ≢ ABORTED) (home : IsHome same spot incremental c t) where
      cases : (u a n : ℕ) (phase : Phase) (borrowed : Bool) → c2.place u a ≡ Holds n phase borrowed → New u a n phase borrowed ⊎ Old u a n phase borrowed
      cases = new_or_old same spot incremental c t i k inv

      on_path : (u a n : ℕ) (phase : Phase) (borrowed : Bool) (o : K) → c.status u ≢ ABORTED → c2.place u a ≡ Holds n phase borrowed → c2.key n ≡ Some o
          → OnPath same spot incremental c2 u a o
      on_path u a n phase borrowed o alive at e = either (cases u a n phase borrowed at)
        where
          either : New u a n phase borrowed ⊎ Old u a n phase borrowed → OnPath same spot incremental c2 u a o
          either (inl new) = subst (λ (x : ℕ). OnPath same spot incremental c2 x a o) (sym new.0)
              (subst (λ (x : K). OnPath same spot incremental c2 t a x) same_key (j, may, sym new.1, λ g h. stored_taken same spot incremental c t i k lawful inv empty t (spot (c.len t) k g) (passed g h).0))
            where
              same_key : k ≡ o
              same_key = let f = ap c2.key new.2 in let h = new_key same spot incremental c t i k in cc
          either (inr old) =
              let path = inv.on_path u a n phase borrowed o alive old.0 (sym old.2 ∙ e) in
              (path.0, path.1, path.2, λ g h. stored_taken same spot incremental c t i k lawful inv empty u (spot (c.len u) o g) (path.3 g h))

      -- a pair of the class of the new one stood in no place of its table
      none_there : (o : K) → same o k ≡ true → (a n : ℕ) (phase : Phase) (borrowed : Bool) → c.place t a ≡ Holds n phase borrowed → is_of same spot incremental o (c.key n) ≡ true → ⊥
      none_there o e a n phase borrowed at is =
          none_at_open same spot incremental lawful c inv t k j live passed empty a n phase borrowed at (sym (of_class same spot incremental lawful o k (c.key n) e) ∙ is)

      -- nor in one with it
      not_beside : (u a b n m : ℕ) (phase phase2 : Phase) (borrowed borrowed2 : Bool) (o : K)
          → New u a n phase borrowed → Old u b m phase2 borrowed2 → is_of same spot incremental o (c2.key n) ≡ true → is_of same spot incremental o (c2.key m) ≡ true → ⊥
      not_beside u a b n m phase phase2 borrowed borrowed2 o new old is is2 =
          none_there o
          (key_class same spot incremental o k (c2.key n) (ap c2.key new.2 ∙ new_key same spot incremental c t i k) is)
          b m phase2 borrowed2 (ap (λ (x : ℕ). c.place x b) (sym new.0) ∙ old.0) (ap (is_of same spot incremental o) (sym old.2) ∙ is2)

      once : (u a b n m : ℕ) (phase phase2 : Phase) (borrowed borrowed2 : Bool) (o : K) → c.status u ≢ ABORTED
          → c2.place u a ≡ Holds n phase borrowed → c2.place u b ≡ Holds m phase2 borrowed2 → is_of same spot incremental o (c2.key n) ≡ true → is_of same spot incremental o (c2.key m) ≡ true → a ≡ b
      once u a b n m phase phase2 borrowed borrowed2 o alive at at2 is is2 = either (cases u a n phase borrowed at) (cases u b m phase2 borrowed2 at2)
        where
          either : New u a n phase borrowed ⊎ Old u a n phase borrowed → New u b m phase2 borrowed2 ⊎ Old u b m phase2 borrowed2 → a ≡ b
          either (inl new) (inl new2) = new.1 ∙ sym new2.1
          either (inl new) (inr old) = absurd (not_beside u a b n m phase phase2 borrowed borrowed2 o new old is is2)
          either (inr old) (inl new) = absurd (not_beside u b a m n phase2 phase borrowed2 borrowed o new old is2 is)
          either (inr old) (inr old2) =
              inv.once u a b n m phase phase2 borrowed borrowed2 o alive old.0 old2.0 (ap (is_of same spot incremental o) (sym old.2) ∙ is) (ap (is_of same spot incremental o) (sym old2.2) ∙ is2)

      pub stored_common : Common same spot incremental c2
      stored_common = record {
        rooted = inv.rooted;
        rootless = inv.rootless;
        lens = inv.lens;
        unmade = stored_unmade same spot incremental c t i k lawful inv empty l;
        unshared = inv.unshared;
        uncounted = inv.uncounted;
        outside = stored_outside same spot incremental c t i k lawful inv empty l (lawful.within (c.len t) j k (inv.lens t l).0);
        keyed = stored_keyed same spot incremental c t i k lawful inv empty;
        unstored = stored_unstored same spot incremental c t i k lawful inv empty;
        on_path = on_path;
        once = once;
        unmarked = stored_unmarked same spot incremental c t i k lawful inv empty;
        pending = inv.pending;
        live = inv.live;
        counts = inv.counts;
        stands = stored_stands same spot incremental c t i k lawful inv empty home;
        is_current = stored_is_current same spot incremental c t i k lawful inv empty;
      }
