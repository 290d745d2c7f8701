-- When a map has no pair of a class.
use Rattle.std.proofs.Common.{◌≡◌, ◌≢◌, ℕ, suc, ◌<◌, ◌≤◌, Bool, true, false, Some, ◌⊎◌, inl, inr, ap, sym, ◌∙◌}
use Rattle.std.proofs.lemmas.Bool.{cases_lt, cases_order}
use Rattle.map_rule.specs.Chart.{Phase, Copying, Copied, Empty, Holds, Chart}
use Rattle.map_rule.specs.Rule.{IsLawful, is_of, tried, Passed, Shut, ShutBefore, IsMoving, Rule}
use Rattle.map_rule.proofs.Moves.Shuts.{keyed_class, shut_class, none_at_open, none_at_end, shut_not_open}

module _ {K : Type 0} (same : K → K → Bool) (spot : ℕ → K → ℕ → ℕ) where
  -- no pair of the class is in the map
  abbrev pub NoCurrent : Chart K → K → Type 0
  NoCurrent c k = (n : ℕ) → c.current n ≡ true → is_of same spot true k (c.key n) ≡ true → ⊥

  -- in blocking mode: the root has no pair of the class
  pub no_current_in_root : (c : Chart K) → Rule same spot false c → (k : K)
      → ((i n : ℕ) (phase : Phase) (borrowed : Bool) → c.place c.first i ≡ Holds n phase borrowed → is_of same spot false k (c.key n) ≡ true → ⊥)
      → NoCurrent c k
  no_current_in_root c inv k none n current is =
      let s = inv.common.stands n current in
      none s.1 n s.2 s.3 (ap (λ (u : ℕ). c.place u s.1) (sym s.6) ∙ s.4) is

  -- in blocking mode: behind all tries of the root
  pub no_current_blocking_past : IsLawful same spot → (c : Chart K) → Rule same spot false c → (k : K)
      → Passed same spot false c c.first k (suc (c.limit c.first)) → NoCurrent c k
  no_current_blocking_past lawful c inv k passed =
      no_current_in_root c inv k (none_at_end same spot false lawful c inv.common c.first k inv.common.live passed)

  -- in incremental mode: tables before t are shut for the class, t has no pair of it that is not copied, and no later table has one
  pub no_current_along : (c : Chart K) → Rule same spot true c → (t : ℕ) (k : K) → ShutBefore same spot true c t k
      → ((i n : ℕ) (phase : Phase) (borrowed : Bool) → c.place t i ≡ Holds n phase borrowed → is_of same spot true k (c.key n) ≡ true → phase ≢ Copied → ⊥)
      → ((u i n : ℕ) (phase : Phase) (borrowed : Bool) → t < u → c.place u i ≡ Holds n phase borrowed → is_of same spot true k (c.key n) ≡ true → ⊥)
      → NoCurrent c k
  no_current_along c inv t k shut here later n current is =
      let s = inv.common.stands n current in by_table s.0 s.1 s.2 s.3 s.4 s.5 (cases_order s.0 t)
    where
      by_table : (u i : ℕ) (phase : Phase) (borrowed : Bool) → c.place u i ≡ Holds n phase borrowed → phase ≢ Copied → (u ≡ t) ⊎ ((u < t) ⊎ (t < u)) → ⊥
      by_table u i phase borrowed at still (inl e) = here i n phase borrowed (ap (λ (x : ℕ). c.place x i) (sym e) ∙ at) is still
      by_table u i phase borrowed at still (inr (inl l)) = still ((shut u l).0 i n phase borrowed at is)
      by_table u i phase borrowed at still (inr (inr l)) = later u i n phase borrowed l at is

  -- in incremental mode: behind tables that are shut for the class and tries that are passed, at an empty place
  pub no_current_incremental : IsLawful same spot → (c : Chart K) → Rule same spot true c → (t : ℕ) (k : K) (j : ℕ)
      → ShutBefore same spot true c t k → Passed same spot true c t k j → tried same spot true c t k j ≡ Empty false → j ≤ c.limit t → c.first ≤ t → NoCurrent c k
  no_current_incremental lawful c inv t k j shut passed empty l past = no_current_along c inv t k shut (λ i n phase borrowed at is still. none i n phase borrowed at is) later
    where
      none : (i n : ℕ) (phase : Phase) (borrowed : Bool) → c.place t i ≡ Holds n phase borrowed → is_of same spot true k (c.key n) ≡ true → ⊥
      none = none_at_open same spot true lawful c inv.common t k j (inv.in_mode.never_aborted t) passed empty

      later : (u i n : ℕ) (phase : Phase) (borrowed : Bool) → t < u → c.place u i ≡ Holds n phase borrowed → is_of same spot true k (c.key n) ≡ true → ⊥
      later u i n phase borrowed h at is = by_chain kept.0 kept.2 (inv.in_mode.chain t u i n phase borrowed kept.0 at kept.1 h past)
        where
          kept : (owner : K) × (c.key n ≡ Some owner) × (same k owner ≡ true)
          kept = keyed_class same spot true c inv.common k u i n phase borrowed at is

          by_chain : (owner : K) → same k owner ≡ true → Shut same spot true c t owner ⊎ ((t ≡ c.first) × (borrowed ≡ true) × IsMoving same spot true c n) → ⊥
          by_chain owner e (inl s) =
              shut_not_open same spot true lawful c inv.common t k j (inv.in_mode.never_aborted t)
              (shut_class same spot true lawful c t owner k (lawful.classes.symm owner k ∙ e) s) passed l empty
          by_chain owner e (inr m) = none m.2.0 n Copying m.2.1 (ap (λ (x : ℕ). c.place x m.2.0) m.0 ∙ m.2.2) is

  -- in incremental mode: behind tables that are shut for the class up to the last one
  pub no_current_past_shut : IsLawful same spot → (c : Chart K) → Rule same spot true c → (k : K) → ShutBefore same spot true c c.past k → NoCurrent c k
  no_current_past_shut lawful c inv k shut n current is =
      let s = inv.common.stands n current in by_table s.0 s.1 s.2 s.3 s.4 s.5 (cases_lt s.0 c.past)
    where
      by_table : (u i : ℕ) (phase : Phase) (borrowed : Bool) → c.place u i ≡ Holds n phase borrowed → phase ≢ Copied → (u < c.past) ⊎ (c.past ≤ u) → ⊥
      by_table u i phase borrowed at still (inl l) = still ((shut u l).0 i n phase borrowed at is)
      by_table u i phase borrowed at still (inr l) = cc (inv.common.unmade u i l)
