-- What the definitions refuse: maps whose count says another size than they have, and runs that lose a pair, or have one twice.
use Rattle.std.specs.Prelude.{◌≡◌, ℕ, ◌+◌, ◌%◌, ◌^◌, ◌&&◌, nat_le, false, List, [], ◌∷◌, ◌++◌, if◌then◌else◌}
use Rattle.std.proofs.Common.{refl, ap, ◌∙◌, inl, inr}
use Rattle.run_finds.specs.Given.RunsDeclared.ended.Pair.{Pair}
use Rattle.run_finds.specs.Given.RunsLifeCycle.{times}
use Rattle.run_finds.specs.Given.RunsPairs.{numbers}
use Rattle.run_finds.specs.Given.TablesDeclared.resize_mode.ResizeMode.TheVariants.{Blocking}
use Rattle.run_finds.specs.Given.RunsDeclared.call.Response.TheVariants.{Absent}
use Rattle.run_finds.specs.Given.RunsDeclared.call.Call.TheVariants.{On}
use Rattle.run_finds.specs.Given.RunsDeclared.call.OneKey.TheVariants.{Insert}
use Rattle.run_finds.specs.Given.RunsDeclared.effect.Effect.{Effect}
use Rattle.run_finds.specs.Given.RunsDeclared.effect.Effect.TheVariants.{Counted, Stored}
use Rattle.run_finds.specs.Given.RunsDeclared.event.Event.TheVariants.{Begin, MakeMap, Step}
use Rattle.run_finds.specs.Given.RunsDeclared.outcome.Outcome.{Outcome}
use Rattle.run_finds.specs.Given.RunsDeclared.outcome.Outcome.TheVariants.{Answered, Done, Goes}
use Rattle.run_finds.specs.Given.RunsDeclared.record.Run.{Run}
use Rattle.run_finds.specs.Given.TablesCounts.{count_in}
use Rattle.run_finds.specs.Given.SchedulesAfter.{moment}
use Rattle.run_finds.specs.Given.SchedulesCounts.{Counts}
use Rattle.run_finds.specs.Given.SchedulesMoment.{Moment}
use Rattle.run_finds.specs.Given.SchedulesTerms.{Terms}
use Rattle.run_sweeps.specs.Sizes.Once.{HasEachOnce}
use Rattle.run_sweeps.specs.Sizes.Sizes.{IsCounted, StaysCounted}

no_one : ◌≡◌ {A = ℕ} 0 1 → ⊥
no_one e = cc e

one_too_many : ◌≡◌ {A = ℕ} 2 1 → ⊥
one_too_many e = cc e

one_from_nowhere : ◌≡◌ {A = ℕ} 1 0 → ⊥
one_from_nowhere e = cc e

abbrev terms : Terms
terms = record { batch_size = 1; processors = 1; roots = 1 }

abbrev name : List ℕ
name = 1 ∷ []

-- a map is made, a call begins, and does so much
abbrev after_one : Outcome ℕ → List Effect → Moment ℕ ℕ
after_one outcome effects =
    moment (
    record { event = Step name false; outcome = outcome; steps = 1; effects = effects }
    ∷ record { event = Begin name name name (On (Insert 5 6)); outcome = Goes; steps = 0; effects = [] }
    ∷ record { event = MakeMap name Blocking 0; outcome = Done; steps = 1; effects = [] } ∷ []
    )

abbrev stores : Effect
stores = Stored 1 (record { turn = 0; place = 0 })

-- It stores a pair, and counts it before it ends;
abbrev counted : Moment ℕ ℕ
counted = after_one (Answered Absent) (stores ∷ Counted 0 ∷ [])

is_counted : IsCounted terms counted
is_counted = (refl, tt)

-- until then it has it to count.
is_to_be_counted : IsCounted terms (after_one Goes (stores ∷ []))
is_to_be_counted = (refl, tt)

-- One that ends with a pair that it has not counted is refused,
ends_uncounted : IsCounted terms (after_one (Answered Absent) (stores ∷ [])) → ⊥
ends_uncounted all = no_one all.0

-- and so is a shard to which the pair was added twice,
counts_twice : IsCounted terms (record counted { shards = λ map shard. 2 }) → ⊥
counts_twice all = one_too_many all.0

-- or before it was stored.
counts_before : IsCounted terms (record (after_one Goes []) { shards = λ map shard. 1 }) → ⊥
counts_before all = one_from_nowhere all.0

-- A `len` tells the size of a map where nobody has a pair of it still to count.
stays : StaysCounted 0 1 (counted ∷ [])
stays = ((refl, refl), tt)

stays_not : StaysCounted 0 1 (after_one Goes (stores ∷ []) ∷ []) → ⊥
stays_not all = one_from_nowhere all.0.0

-- And it tells no other number.
tells_another : Counts 1 0 (counted ∷ []) 2 → ⊥
tells_another (sum, inl (rest, none, all), is) = one_too_many (is ∙ ap (λ (n : ℕ). count_in (n % 2 ^ 64)) (all ∙ ap (λ (n : ℕ). n + 1) none))
tells_another (sum, inr none, is) = none

-- where pairs are at the end of a run

abbrev pair : ℕ → Pair ℕ ℕ
pair n = record { number = n; key = 5; value = 6 }

abbrev Ends : (back kept : List (Pair ℕ ℕ)) → ℕ → Type 0
Ends back kept stored = (n : ℕ) → times n (numbers (back ++ kept)) ≡ (if nat_le 1 n && nat_le n stored then 1 else 0)

ends_so : (run : Run ℕ ℕ) → HasEachOnce run → Ends run.given_back run.kept run.stored
ends_so run each = each

-- A pair that is neither given back nor kept is refused,
loses_one : Ends [] [] 1 → ⊥
loses_one each = no_one (each 1)

-- and so is one that is both, and one that was never stored.
keeps_one_that_is_back : Ends (pair 1 ∷ []) (pair 1 ∷ []) 1 → ⊥
keeps_one_that_is_back each = one_too_many (each 1)

keeps_another : Ends [] (pair 1 ∷ pair 2 ∷ []) 1 → ⊥
keeps_another each = one_from_nowhere (each 2)
