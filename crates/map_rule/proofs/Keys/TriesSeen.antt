-- The tries of a hash at a table: the first one, and the one after each.
use Rattle.std.proofs.Common.{◌≡◌, ℕ, suc, ◌+◌, ◌-◌, ◌%◌, ◌^◌, ◌<◌, ◌≤◌, Bool, true, false, Option, Some, None, ◌⊎◌, inl, inr, refl, ap, sym, ◌∙◌, arith, add-one}
use Rattle.std.proofs.Math.Nat.{mod-lt}
use Rattle.std.proofs.Math.Pow.{pow_mono}
use Rattle.std.specs.Prelude.{nat_lt, if◌then◌else◌}
use Rattle.std.proofs.lemmas.Bool.{cases_lt, ltb-true, ltb-false}
use Rattle.map_machines.specs.Given.TablesLengths.{IsTableLen}
use Rattle.map_machines.specs.Given.TablesProbes.{triangular, probe_from, probe_after, place_at}
use Rattle.map_machines.specs.Given.TablesTrials.{first_trial, trial_on, next_trial}
use Rattle.map_machines.specs.Given.TablesDeclared.probe.Probe.{Probe}
use Rattle.map_machines.specs.Given.TablesDeclared.table.Table.{Table}
use Rattle.map_machines.specs.Given.TablesDeclared.trial.Trial.{Trial}
use Rattle.map_machines.proofs.Given.TablesPlaces.{place-start, place-next}
use Rattle.map_rule.specs.Chart.{Chart}
use Rattle.map_rule.specs.Words.{Blocks}
use Rattle.map_rule.specs.Maps.{spot_at, IsTable, IsTrial}

-- the length of a table is a power of two below 2 ^ 64
few_bits : (len : ℕ) (is_len : IsTableLen len) → is_len.power.0 < 64
few_bits len is_len = by_order (cases_lt is_len.power.0 64)
  where
    by_order : (is_len.power.0 < 64) ⊎ (64 ≤ is_len.power.0) → is_len.power.0 < 64
    by_order (inl l) = l
    by_order (inr l) = let more : 2 ^ 64 ≤ 2 ^ is_len.power.0 = pow_mono l in let is = is_len.power.1 in let most = is_len.most in absurd (omega (arith, more, is, most))

module _ (len code : ℕ) (is_len : IsTableLen len) where
  -- the place of the first try
  pub first_spot : (probe_from code (len - 1)).i ≡ spot_at len code 0
  first_spot =
      place-start code (len - 1) is_len.power.0 (ap (λ n. n - 1) is_len.power.1) ∙ ap (λ n. spot_at n code 0) (sym is_len.power.1)

  -- the place of the try after one
  pub next_spot : (probe : Probe) (j : ℕ) → probe.len ≡ j → probe.i ≡ spot_at len code j → j < 2 ^ 64 - 1
      → ((probe_after probe (len - 1)).i ≡ spot_at len code (suc j)) × ((probe_after probe (len - 1)).len ≡ suc j)
  next_spot probe j try place few =
      let fits : probe.len < 2 ^ 64 = omega arith in
      let here : probe.i ≡ place_at code is_len.power.0 probe.len = place ∙ ap (λ n. spot_at n code j) is_len.power.1 ∙ ap (place_at code is_len.power.0) (sym try) in
      let next : (probe.len + 1) % 2 ^ 64 ≡ suc j = omega (arith, add-one j) in (
        place-next code (len - 1) is_len.power.0 probe.i probe.len (few_bits len is_len) fits (ap (λ n. n - 1) is_len.power.1) here
            ∙ ap (place_at code is_len.power.0) next ∙ ap (λ n. spot_at n code (suc j)) (sym is_len.power.1),
        next,
      )

-- a place that is tried is one of the table
pub spot_inside : (len code j : ℕ) → 0 < len → spot_at len code j < len
spot_inside len code j some = mod-lt (code + triangular j) some

module _ {K : Type 0} (c : Chart K) (blocks : Blocks) (code t : ℕ) where
  -- the first try
  pub first_is : (table : Table) → IsTable c blocks table t → IsTableLen (c.len t) → IsTrial c blocks (first_trial table code) code t 0
  first_is table entered is_len = record {
    table = entered;
    place = ap (λ (x : Table). (probe_from code (x.len - 1)).i) entered.is ∙ first_spot (c.len t) code is_len;
    try = refl;
    most = omega arith;
  }

  -- whatever was met at tables before
  pub on_is : (trial : Trial) (table : Table) → IsTable c blocks table t → IsTableLen (c.len t) → IsTrial c blocks (trial_on trial table code) code t 0
  on_is trial table entered is_len = let first = first_is table entered is_len in record { table = first.table; place = first.place; try = first.try; most = first.most }

  -- whatever was counted of it and those before
  pub trial_met : (trial : Trial) (j met : ℕ) → IsTrial c blocks trial code t j → IsTrial c blocks (record trial { met = met }) code t j
  trial_met trial j met at = record { table = at.table; place = at.place; try = at.try; most = at.most }

  -- What is behind a try: a further one, or none, where it was the last.
  abbrev pub IsNext : Option Trial → ℕ → Type 0
  IsNext (Some trial) j = IsTrial c blocks trial code t (suc j)
  IsNext None j = j ≡ c.limit t

  pub next_is : (trial : Trial) (j : ℕ) → IsTrial c blocks trial code t j → IsTableLen (c.len t) → c.limit t < c.len t → IsNext (next_trial trial) j
  next_is trial j at is_len low = by_test (nat_lt trial.probe.len trial.table.limit) refl
    where
      limits : trial.table.limit ≡ c.limit t
      limits = ap (λ (x : Table). x.limit) at.table.is

      before_last : j < 2 ^ 64 - 1
      before_last = let most = is_len.most in let upto = at.most in omega (arith, most, upto)

      goes : ((probe_after trial.probe (c.len t - 1)).i ≡ spot_at (c.len t) code (suc j)) × ((probe_after trial.probe (c.len t - 1)).len ≡ suc j)
      goes = next_spot (c.len t) code is_len trial.probe j at.try at.place before_last

      by_test : (b : Bool) → nat_lt trial.probe.len trial.table.limit ≡ b
          → IsNext (if b then Some record { table = trial.table; probe = probe_after trial.probe (trial.table.len - 1); met = trial.met; most = trial.most } else None) j
      by_test true e =
          let l = ltb-true trial.probe.len trial.table.limit e in
          record {
            table = at.table;
            place = ap (λ (x : Table). (probe_after trial.probe (x.len - 1)).i) at.table.is ∙ goes.0;
            try = goes.1;
            most = (let try = at.try in omega (arith, limits, try, l));
          }
      by_test false e =
          let l = ltb-false trial.probe.len trial.table.limit e in
          let try = at.try in
          let most = at.most in
          omega (arith, limits, try, l, most)

  pub next_met : (trial : Trial) (j met : ℕ) → IsNext (next_trial trial) j → IsNext (next_trial (record trial { met = met })) j
  next_met trial j met = by_test (nat_lt trial.probe.len trial.table.limit)
    where
      by_test : (b : Bool) → IsNext (if b then Some record { table = trial.table; probe = probe_after trial.probe (trial.table.len - 1); met = trial.met; most = trial.most } else None) j
          → IsNext (if b then Some record { table = trial.table; probe = probe_after trial.probe (trial.table.len - 1); met = met; most = trial.most } else None) j
      by_test true next = record { table = next.table; place = next.place; try = next.try; most = next.most }
      by_test false last = last
