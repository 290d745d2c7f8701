-- Guards on slots, where one is forgotten.
use Rattle.std.specs.Prelude.{◌==◌, ◌&&◌, not, slice_set, Option, Some, None, if◌then◌else◌}
use Rattle.std.proofs.Common.{◌≡◌, ℕ, ◌+◌, Bool, true, false, List, [], ◌∷◌, refl, sym, ap, arith}
use Rattle.run_schedules.specs.declared.holders.NamedGuard.{NamedGuard}
use Rattle.run_schedules.specs.Runs.Present.{guards_on, living_on, living_slot}
use Rattle.run_names.specs.Presence.Crowd.{StandsAt, count_of, count_some, is_living, kept, weigh}
use Rattle.run_names.proofs.Presence.Crowds.Weights.{weigh_changed}

abbrev pub is_on : ℕ → NamedGuard → ℕ
is_on slot g = if g.slot == slot then 1 else 0

abbrev pub lives_on : ℕ → NamedGuard → ℕ
lives_on slot g = if (g.slot == slot) && not g.forgotten then 1 else 0

pub on_weighed : (slot : ℕ) (guards : List NamedGuard) → guards_on slot guards ≡ weigh (is_on slot) guards
on_weighed slot [] = refl
on_weighed slot (g ∷ guards) = ap (λ n. is_on slot g + n) (on_weighed slot guards)

pub living_weighed : (slot : ℕ) (guards : List NamedGuard) → living_on slot guards ≡ weigh (lives_on slot) guards
living_weighed slot [] = refl
living_weighed slot (g ∷ guards) = ap (λ n. lives_on slot g + n) (living_weighed slot guards)

abbrev pub forgotten : NamedGuard → NamedGuard
forgotten g = record g { forgotten = true }

-- what a guard weighs that is on a slot or not, and was forgotten or not
abbrev pub lives : Bool → Bool → ℕ
lives same was = if same && not was then 1 else 0

living_weight : (same was : Bool) (mine slot : ℕ) → (mine == slot) ≡ same → lives same was ≡ count_of slot (if was then None else Some mine)
living_weight true true mine slot e = refl
living_weight false true mine slot e = refl
living_weight true false mine slot e = ap (λ (b : Bool). if b then 1 else 0) (sym e)
living_weight false false mine slot e = ap (λ (b : Bool). if b then 1 else 0) (sym e)

no_weight : (same : Bool) → lives same true ≡ 0
no_weight true = refl
no_weight false = refl

all_weight : (was : Bool) (slot : ℕ) → (if was then 0 else 1) ≡ count_some (if was then None else Some slot)
all_weight true slot = refl
all_weight false slot = refl

module _ (comers : List (Option NamedGuard)) (place : ℕ) (g : NamedGuard) (here : StandsAt comers place g) where
  abbrev after : List NamedGuard
  after = kept (slice_set comers place (Some (forgotten g)))

  pub forgotten_on : (slot : ℕ) → guards_on slot after ≡ guards_on slot (kept comers)
  forgotten_on slot =
      omega (arith, on_weighed slot after, on_weighed slot (kept comers), weigh_changed (is_on slot) comers place g (forgotten g) here)

  pub forgotten_living : (slot : ℕ) → count_of slot (living_slot (Some g)) + living_on slot after ≡ living_on slot (kept comers)
  forgotten_living slot =
      omega (
        arith,
        living_weighed slot after,
        living_weighed slot (kept comers),
        weigh_changed (lives_on slot) comers place g (forgotten g) here,
        living_weight (g.slot == slot) g.forgotten g.slot slot refl,
        no_weight (g.slot == slot),
      )

  pub forgotten_all : count_some (living_slot (Some g)) + weigh is_living after ≡ weigh is_living (kept comers)
  forgotten_all = omega (arith, weigh_changed is_living comers place g (forgotten g) here, all_weight g.forgotten g.slot)
