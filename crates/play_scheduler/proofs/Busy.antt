-- What is refused as busy did nothing: whatever did nothing is so, and who gets no slot is refused for something else.
use Rattle.std.specs.Prelude.{◌≡◌, ◌⊎◌, Bool, true, false, nat_lt, List, [], MatchBool}
use Rattle.std.proofs.Common.{sym, subst, inl, inr}
use Rattle.seize_words.specs.declared.fault.Fault.{Fault}
use Rattle.seize_words.specs.declared.fault.Fault.TheVariants.{Busy, SlotsUsedUp}
use Rattle.run_schedules.specs.Runs.Present.{Present}
use Rattle.run_schedules.specs.declared.effect.Effect.{Effect}
use Rattle.run_schedules.specs.declared.outcome.Outcome.{Outcome}
use Rattle.run_schedules.specs.declared.outcome.Outcome.TheVariants.{Refused, Slot}
use Rattle.run_schedules.specs.Schedules.InTurn.{GetsSlot, IsShort, most_slots}
use Rattle.run_schedules.specs.Schedules.InUse.{used_slots}
use Rattle.run_schedules.specs.Schedules.Lists.{least_free}
use Rattle.play_scheduler.specs.Quiet.{BusyIsSilent}

pub none_quiet : {V : Type 0} (o : Outcome V) (effects : List Effect) → effects ≡ [] → BusyIsSilent o effects
none_quiet (Refused Busy) effects none = none
none_quiet _ effects none = tt

pub slot_quiet : (V : Type 0) (there : Present) (did effects : List Effect) (fault : Fault) → GetsSlot {V = V} there did (Refused fault) → BusyIsSilent {V = V} (Refused fault) effects
slot_quiet V there did effects fault gets = by (nat_lt (least_free (used_slots there)) most_slots) gets
  where
    by : (b : Bool) → MatchBool b ((◌≡◌ {A = Outcome V} (Refused fault) (Slot (least_free (used_slots there)))) ⊎ IsShort {V = V} did (Refused fault)) (◌≡◌ {A = Outcome V} (Refused fault) (Refused SlotsUsedUp)) → BusyIsSilent {V = V} (Refused fault) effects
    by true (inl slot) = absurd (cc slot)
    by true (inr short) = subst (λ (o : Outcome V). BusyIsSilent o effects) (sym short.0) tt
    by false used = subst (λ (o : Outcome V). BusyIsSilent o effects) (sym used) tt
