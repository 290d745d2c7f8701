-- What items weigh together, where one comes, changes or leaves.
use Rattle.std.specs.Prelude.{slice_set, Option, Some, None}
use Rattle.std.proofs.Common.{◌≡◌, ℕ, zero, suc, ◌+◌, ◌≤◌, List, [], ◌∷◌, ◌++◌, length, refl, ap, arith}
use Rattle.run_names.specs.Presence.Crowd.{StandsAt, kept, weigh}

module _ {T : Type 0} (weight : T → ℕ) where
  pub weigh_more : (items : List T) (t : T) → weigh weight (items ++ t ∷ []) ≡ weight t + weigh weight items
  weigh_more [] t = refl
  weigh_more (u ∷ items) t = omega (arith, weigh_more items t)

  pub weigh_left : (comers : List (Option T)) (place : ℕ) (t : T) → StandsAt comers place t
      → weight t + weigh weight (kept (slice_set comers place None)) ≡ weigh weight (kept comers)
  weigh_left [] place t s = absurd (cc s)
  weigh_left (None ∷ comers) zero t s = absurd (cc s)
  weigh_left (Some u ∷ comers) zero t s = let same : t ≡ u = cc s in ap (λ (x : T). weight x + weigh weight (kept comers)) same
  weigh_left (None ∷ comers) (suc place) t s = weigh_left comers place t s
  weigh_left (Some u ∷ comers) (suc place) t s = omega (arith, weigh_left comers place t s)

  pub weigh_changed : (comers : List (Option T)) (place : ℕ) (t n : T) → StandsAt comers place t
      → weight t + weigh weight (kept (slice_set comers place (Some n))) ≡ weight n + weigh weight (kept comers)
  weigh_changed [] place t n s = absurd (cc s)
  weigh_changed (None ∷ comers) zero t n s = absurd (cc s)
  weigh_changed (Some u ∷ comers) zero t n s = let same : weight t ≡ weight u = cc s in omega (arith, same)
  weigh_changed (None ∷ comers) (suc place) t n s = weigh_changed comers place t n s
  weigh_changed (Some u ∷ comers) (suc place) t n s = omega (arith, weigh_changed comers place t n s)

  -- where no item weighs more than 1, no list weighs more than its length
  pub weigh_few : ((t : T) → weight t ≤ 1) → (items : List T) → weigh weight items ≤ length items
  weigh_few one [] = omega arith
  weigh_few one (t ∷ items) = omega (arith, one t, weigh_few one items)

pub counted_left : {T : Type 0} (comers : List (Option T)) (place : ℕ) (t : T) → StandsAt comers place t
    → 1 + length (kept (slice_set comers place None)) ≡ length (kept comers)
counted_left [] place t s = absurd (cc s)
counted_left (None ∷ comers) zero t s = absurd (cc s)
counted_left (Some u ∷ comers) zero t s = omega arith
counted_left (None ∷ comers) (suc place) t s = counted_left comers place t s
counted_left (Some u ∷ comers) (suc place) t s = omega (arith, counted_left comers place t s)

pub counted_changed : {T : Type 0} (comers : List (Option T)) (place : ℕ) (t n : T) → StandsAt comers place t
    → length (kept (slice_set comers place (Some n))) ≡ length (kept comers)
counted_changed [] place t n s = absurd (cc s)
counted_changed (None ∷ comers) zero t n s = absurd (cc s)
counted_changed (Some u ∷ comers) zero t n s = omega arith
counted_changed (None ∷ comers) (suc place) t n s = counted_changed comers place t n s
counted_changed (Some u ∷ comers) (suc place) t n s = omega (arith, counted_changed comers place t n s)

pub counted_more : {T : Type 0} (comers : List (Option T)) (t : T) → length (kept (comers ++ (Some t ∷ []))) ≡ length (kept comers) + 1
counted_more [] t = refl
counted_more (None ∷ comers) t = counted_more comers t
counted_more (Some u ∷ comers) t = omega (arith, counted_more comers t)
