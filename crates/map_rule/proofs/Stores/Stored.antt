-- After a pair of a class was stored in an empty place: what holds in both modes.
use Rattle.std.proofs.Common.{◌≡◌, ◌≢◌, ℕ, ◌<◌, ◌≤◌, Bool, true, false, Some, None, ◌⊎◌, inl, inr, ap, sym, ◌∙◌, arith}
use Rattle.map_rule.specs.Chart.{Phase, Still, Copied, Place, Empty, Holds, Chart, is_marked, is_taken}
use Rattle.map_rule.specs.Rule.{IsLawful, IsHome, Common}
use Rattle.map_rule.specs.Moves.{with_pair, without}
use Rattle.map_rule.proofs.Moves.Writes.{put_here, put_elsewhere, put_cases, put_in_cases, put_in_here, put_in_elsewhere, holds_cases, stays_held, taken_stays}

module _ {K : Type 0} (same : K → K → Bool) (spot : ℕ → K → ℕ → ℕ) where
  module _ (incremental : Bool) (c : Chart K) (t i : ℕ) (k : K) where
    abbrev pub stored : Chart K
    stored = with_pair spot incremental c t i k

    pub new_key : stored.key c.stored ≡ Some k
    new_key = put_here c.key c.stored (Some k)

    pub old_key : (n : ℕ) → n < c.stored → stored.key n ≡ c.key n
    old_key n l = put_elsewhere c.key c.stored (Some k) n (λ e. omega arith)

    -- where a pair stands now: where the new one was put, or where it stood
    abbrev pub IsNew : ℕ → ℕ → ℕ → Phase → Bool → Type 0
    IsNew u j n phase borrowed = (u ≡ t) × (j ≡ i) × (n ≡ c.stored) × (phase ≡ Still) × (borrowed ≡ false)

    abbrev pub IsOld : ℕ → ℕ → ℕ → Phase → Bool → Type 0
    IsOld u j n phase borrowed = (c.place u j ≡ Holds n phase borrowed) × (n < c.stored) × (stored.key n ≡ c.key n)

    pub new_or_old : Common same spot incremental c → (u j n : ℕ) (phase : Phase) (borrowed : Bool) → stored.place u j ≡ Holds n phase borrowed
        → IsNew u j n phase borrowed ⊎ IsOld u j n phase borrowed
    new_or_old inv u j n phase borrowed e = either (holds_cases c.place t i c.stored Still false u j n phase borrowed e)
      where
        either : IsNew u j n phase borrowed ⊎ (c.place u j ≡ Holds n phase borrowed)
            → IsNew u j n phase borrowed ⊎ IsOld u j n phase borrowed
        either (inl new) = inl new
        either (inr at) = let l = (inv.keyed u j n phase borrowed at).0 in inr (at, l, old_key n l)

    pub old_current : c.place t i ≡ Empty false → (n : ℕ) → n ≢ c.stored → stored.current n ≡ c.current n
    old_current empty n h = put_elsewhere (without spot incremental (c.place t i) c.current) c.stored true n h ∙ ap (λ (p : Place). without spot incremental p c.current n) empty

    pub new_current : stored.current c.stored ≡ true
    new_current = put_here (without spot incremental (c.place t i) c.current) c.stored true

    module _ (lawful : IsLawful same spot) (inv : Common same spot incremental c) (empty : c.place t i ≡ Empty false) where
      pub stored_unmade : t < c.past → (u j : ℕ) → c.past ≤ u → stored.place u j ≡ Empty false
      stored_unmade l u j h = put_in_elsewhere c.place t i (Holds c.stored Still false) u j (λ e. omega arith) ∙ inv.unmade u j h

      pub stored_outside : t < c.past → i < c.len t → (u j : ℕ) → u < c.past → c.len u ≤ j → stored.place u j ≡ Empty false
      stored_outside l within u j h far = either (put_in_cases c.place t i (Holds c.stored Still false) u j)
        where
          either : ((u ≡ t) × (j ≡ i) × (stored.place u j ≡ Holds c.stored Still false)) ⊎ (stored.place u j ≡ c.place u j) → stored.place u j ≡ Empty false
          either (inl e) = absurd (let f = ap c.len e.0 in let g = e.1 in omega (arith, f, g))
          either (inr e) = e ∙ inv.outside u j h far

      pub stored_keyed : (u j n : ℕ) (phase : Phase) (borrowed : Bool) → stored.place u j ≡ Holds n phase borrowed → (n < stored.stored) × (o : K) × (stored.key n ≡ Some o)
      stored_keyed u j n phase borrowed at = either (new_or_old inv u j n phase borrowed at)
        where
          either : IsNew u j n phase borrowed ⊎ IsOld u j n phase borrowed → (n < stored.stored) × (o : K) × (stored.key n ≡ Some o)
          either (inl new) = (let e = new.2 in omega (arith, e), k, ap stored.key new.2 ∙ new_key)
          either (inr old) = let kept = inv.keyed u j n phase borrowed old.0 in (let l = old.1 in omega (arith, l), kept.1, old.2 ∙ kept.2)

      pub stored_unstored : (n : ℕ) → stored.stored ≤ n → stored.key n ≡ None
      stored_unstored n l = put_elsewhere c.key c.stored (Some k) n (λ e. omega arith) ∙ inv.unstored n (omega arith)

      pub stored_taken : (u j : ℕ) → is_taken incremental (c.place u j) ≡ true → is_taken incremental (stored.place u j) ≡ true
      stored_taken u j h = ap (is_taken incremental) (taken_stays incremental c.place t i (Holds c.stored Still false) u j empty h) ∙ h

      pub stored_stays : (u j n : ℕ) (phase : Phase) (borrowed : Bool) → c.place u j ≡ Holds n phase borrowed → stored.place u j ≡ Holds n phase borrowed
      stored_stays u j n phase borrowed at = stays_held c.place t i (Holds c.stored Still false) empty u j n phase borrowed at

      -- where pairs of the map stand
      pub stored_stands : IsHome same spot incremental c t → (n : ℕ) → stored.current n ≡ true
          → (u : ℕ) × (j : ℕ) × (phase : Phase) × (borrowed : Bool) × (stored.place u j ≡ Holds n phase borrowed) × (phase ≢ Copied) × IsHome same spot incremental stored u
      stored_stands home n current = either (put_cases (without spot incremental (c.place t i) c.current) c.stored true n)
        where
          either : ((n ≡ c.stored) × (stored.current n ≡ true)) ⊎ ((n ≢ c.stored) × (stored.current n ≡ without spot incremental (c.place t i) c.current n))
              → (u : ℕ) × (j : ℕ) × (phase : Phase) × (borrowed : Bool) × (stored.place u j ≡ Holds n phase borrowed) × (phase ≢ Copied) × IsHome same spot incremental stored u
          either (inl new) = (
            t,
            i,
            Still,
            false,
            put_in_here c.place t i (Holds c.stored Still false) ∙ ap (λ (m : ℕ). Holds m Still false) (sym new.0),
            λ e. cc,
            home,
          )
          either (inr old) =
              let s = inv.stands n (sym (old_current empty n old.0) ∙ current) in
              (s.0, s.1, s.2, s.3, stored_stays s.0 s.1 n s.2 s.3 s.4, s.5, s.6)

      pub stored_is_current : (u j n : ℕ) (phase : Phase) (borrowed : Bool) → stored.place u j ≡ Holds n phase borrowed → phase ≢ Copied → IsHome same spot incremental stored u → stored.current n ≡ true
      stored_is_current u j n phase borrowed at still home = either (new_or_old inv u j n phase borrowed at)
        where
          either : IsNew u j n phase borrowed ⊎ IsOld u j n phase borrowed → stored.current n ≡ true
          either (inl new) = ap stored.current new.2 ∙ new_current
          either (inr old) = let l = old.1 in old_current empty n (λ e. omega arith) ∙ inv.is_current u j n phase borrowed old.0 still home

      pub stored_unmarked : (u j : ℕ) → c.first < u → is_marked (stored.place u j) ≡ false
      stored_unmarked u j l = either (put_in_cases c.place t i (Holds c.stored Still false) u j)
        where
          either : ((u ≡ t) × (j ≡ i) × (stored.place u j ≡ Holds c.stored Still false)) ⊎ (stored.place u j ≡ c.place u j) → is_marked (stored.place u j) ≡ false
          either (inl e) = ap is_marked e.2
          either (inr e) = ap is_marked e ∙ inv.unmarked u j l
