-- With which places a map may be made: with sixteen as so many pairs need; and wrong ones.
mod Own
use Rattle.std.specs.Prelude.{◌≡◌, ℕ}
use Rattle.std.proofs.Common.{refl, arith}
use Rattle.run_legal.specs.Given.TablesDeclared.resize_mode.ResizeMode.{ResizeMode}
use Rattle.run_legal.specs.Given.TablesDeclared.resize_mode.ResizeMode.TheVariants.{Blocking, Incremental}
use Rattle.threads_rule.specs.Given.ActsActs.{Act, BeginsMaking}
use Rattle.play_linear.specs.Given.AgreesPlaces.{AsksPlaces}

-- a making of a map, by caller 1, with number 7 and hasher 0
abbrev makes : ResizeMode → ℕ → ℕ → Act ℕ ℕ ℕ
makes mode initial places = BeginsMaking 1 7 0 (record { slot = 0; batch_size = 1; root = 0; mode = mode; counter = 0; mask = 0; initial = initial }) places

with_sixteen : AsksPlaces (makes Blocking 16 16)
unfolding lib.Count.count_leading_zeros
with_sixteen = (refl, refl, refl)

-- one that begins with no table
with_none : AsksPlaces (makes (Incremental 64) 1 0)
unfolding lib.Count.count_leading_zeros
with_none = (refl, refl, refl)

-- Wrong: twelve places, where nine pairs need sixteen; sixteen, where no table is to have fewer than thirty-two; and a chunk of no places.
with_twelve : AsksPlaces (makes Blocking 12 12) → ⊥
unfolding lib.Count.count_leading_zeros
with_twelve asks = (let places : 12 ≡ 16 = asks.1 in omega (arith, places))

with_others : AsksPlaces (makes Blocking 32 16) → ⊥
unfolding lib.Count.count_leading_zeros
with_others asks = (let initial : 32 ≡ 16 = asks.2 in omega (arith, initial))

with_no_chunk : AsksPlaces (makes (Incremental 0) 16 16) → ⊥
unfolding lib.Count.count_leading_zeros
with_no_chunk asks = (let fault = asks.0 in cc fault)
