-- The next step of a call of any kind may be taken, and one that asks nothing goes on as such a call, or ends with an answer of its kind.
use Rattle.std.specs.Prelude.{Option, Some, None}
use Rattle.std.proofs.Common.{◌≡◌, ℕ, Bool, refl, sym, subst}
use Rattle.seize.specs.declared.advance.Advance.{Advance as Counting}
use Rattle.seize.specs.declared.advance.Advance.TheVariants as counting
use Rattle.map_tables.specs.declared.node.Node.{Node}
use Rattle.map_machines.specs.Sum.{sum_plan}
use Rattle.map_machines.specs.declared.yielding.Yielding.{Yielding}
use Rattle.map_machines.specs.declared.yielding.Yielding.TheVariants as outcome
use Rattle.map_machines.specs.declared.sum.Sum.{Sum}
use Rattle.papaya_raw.specs.Call.{call_plan}
use Rattle.papaya_raw.specs.Given.ReservesDeclared.reserve.Reserve.{Reserve}
use Rattle.papaya_raw.specs.Given.ReservesReserve.{reserve_plan}
use Rattle.papaya_raw.specs.Given.ReservesDeclared.sweep.Purpose.TheVariants.{Clears}
use Rattle.papaya_raw.specs.Given.ReservesDeclared.sweep.Sweep.{Sweep}
use Rattle.papaya_raw.specs.Given.ReservesDeclared.sweep.Swept.{Swept}
use Rattle.papaya_raw.specs.Given.ReservesDeclared.sweep.Swept.TheVariants as swept
use Rattle.papaya_raw.specs.Given.SweepsSweep.{sweep_plan}
use Rattle.papaya_raw.specs.Machine.{machine_plan, called as of_key, reserved as of_reserve, swept as of_sweep, counted as of_count}
use Rattle.papaya_raw.specs.declared.machines.answer.Called.{Called}
use Rattle.papaya_raw.specs.declared.machines.answer.Called.TheVariants as tells
use Rattle.papaya_raw.specs.declared.machines.call.KeyCall.{KeyCall}
use Rattle.papaya_raw.specs.declared.machines.machine.Machine.{Machine}
use Rattle.papaya_raw.specs.declared.machines.machine.Machine.TheVariants as kinds
use Rattle.papaya_raw.specs.declared.machines.progress.Progress.{Progress}
use Rattle.papaya_raw.specs.declared.machines.progress.Progress.TheVariants as progress
use Rattle.threads_rule.specs.Errands.Calling.{AsksNone, AsksNothing, IsAnswerBy, IsKnownMissing, IsKnownThere, IsSteady, sort_of}
use Rattle.threads_kinds.specs.CallKinds.Kinds.{Kind, Stage, SaysSo}
use Rattle.threads_kinds.specs.CallKinds.Leads.{Leads}
use Rattle.threads_kinds.specs.CallKinds.Sweeps.{IsFor, OutcomeAgreesBy}
use Rattle.threads_kinds.proofs.CallKinds.Asking.{call_is, says}
use Rattle.threads_kinds.proofs.CallKinds.Leads.{leads_as}
use Rattle.threads_kinds.proofs.CallKinds.Quiet.{IsQuiet, quiet_as, reserve_is, sum_is, sweep_is}
use Rattle.threads_kinds.proofs.CallKinds.Sweeps.{sweep_says}

module _ {K V : Type 0} where
  -- what a step of such a call tells
  abbrev pub TellsOn : Machine K V K → Progress (Node K V) → Type 0
  TellsOn machine (progress.Asks pair) = ⊥
  TellsOn machine progress.Ready = ⊥
  TellsOn machine (progress.Pair pair) = ⊥
  TellsOn machine (progress.Done answer) = IsAnswerBy machine answer
  TellsOn machine (progress.Refused fault) = Unit {0}
  TellsOn machine told = AsksNone machine

  -- and as what it goes on
  abbrev pub GoesAs : Machine K V K → Machine K V K × Progress (Node K V) → Type 0
  GoesAs machine end = TellsOn end.0 end.1 × (sort_of end.0 ≡ sort_of machine)

  pub none_steady : (machine : Machine K V K) → AsksNone machine → IsSteady machine
  none_steady (kinds.Key c) is = (is.0, is.1, is.3)
  none_steady (kinds.Reserve c) is = tt
  none_steady (kinds.Sweep c) is = tt
  none_steady (kinds.Count c) is = tt

  key_tells : (k : Kind) (s : Stage) (none : AsksNothing k) (shown : ℕ → Option (Node K V)) (c d : KeyCall K V K) (told : Called (Node K V)) → SaysSo k s shown (d, told)
      → GoesAs (kinds.Key c) (of_key (d, told))
  key_tells k s none shown c d tells.Goes is = ((k, s, none, is), refl)
  key_tells k s none shown c d tells.Waits is = ((k, s, none, is), refl)
  key_tells k s none shown c d (tells.Gave value) is = ((k, s, none, is), refl)
  key_tells k s none shown c d (tells.Unstored value) is = ((k, s, none, is), refl)
  key_tells k s none shown c d (tells.Asks None) is = absurd (subst IsKnownMissing is.1.asks none.absent)
  key_tells k s none shown c d (tells.Asks (Some word)) is = absurd (subst IsKnownThere is.1.asks none.present)
  key_tells k s none shown c d (tells.Done answer) is = (tt, refl)
  key_tells k s none shown c d (tells.Refused fault) is = (tt, refl)

  room_tells : (c d : Reserve) (told : Yielding (Node K V) Unit) → GoesAs (kinds.Reserve c) (of_reserve (d, told))
  room_tells c d outcome.Goes = (tt, refl)
  room_tells c d outcome.Waits = (tt, refl)
  room_tells c d (outcome.Gave value) = (tt, refl)
  room_tells c d (outcome.Done end) = (tt, refl)
  room_tells c d (outcome.Refused fault) = (tt, refl)

  clear_tells : (c d : Sweep) (told : Swept (Node K V)) → IsFor Clears d → OutcomeAgreesBy Clears d told → GoesAs (kinds.Sweep c) (of_sweep (d, told))
  clear_tells c d swept.Goes is tells = (is, refl)
  clear_tells c d swept.Waits is tells = (is, refl)
  clear_tells c d (swept.Gave value) is tells = (is, refl)
  clear_tells c d swept.Ready is tells = absurd tells
  clear_tells c d (swept.Pair word) is tells = absurd tells
  clear_tells c d (swept.Asks word) is tells = absurd tells
  clear_tells c d swept.Done is tells = (tt, refl)
  clear_tells c d (swept.Refused fault) is tells = (tt, refl)

count_tells : (K V : Type 0) (c d : Sum) (told : Counting ℕ) → GoesAs {K = K} {V = V} (kinds.Count c) (of_count {K = K} {V = V} {Q = K} (d, told))
count_tells K V c d counting.Goes = (tt, refl)
count_tells K V c d counting.Waits = (tt, refl)
count_tells K V c d (counting.Done count) = (tt, refl)
count_tells K V c d (counting.Refused fault) = (tt, refl)

module _ {K V : Type 0} (same : K → K → Bool) (hashes : K → ℕ) where
  pub quiet_machine : (machine : Machine K V K) → IsSteady machine → IsQuiet (machine_plan same same hashes machine)
  quiet_machine (kinds.Key c) is = quiet_as of_key (call_plan same same hashes c) (call_is is.0 is.1 same same hashes c is.2)
  quiet_machine (kinds.Reserve c) is = quiet_as of_reserve (reserve_plan hashes c) (reserve_is K V hashes c)
  quiet_machine (kinds.Sweep c) is = quiet_as of_sweep (sweep_plan hashes c) (sweep_is K V hashes c)
  quiet_machine (kinds.Count c) is = quiet_as of_count (sum_plan c) (sum_is K V c)

  pub tells_on : (machine : Machine K V K) → AsksNone machine → (shown : ℕ → Option (Node K V)) (end : Machine K V K × Progress (Node K V))
      → Leads shown (machine_plan same same hashes machine) end → GoesAs machine end
  tells_on (kinds.Key c) is shown end leads =
      let l = leads_as of_key shown (call_plan same same hashes c) end leads in
      subst (GoesAs (kinds.Key c)) (sym l.2) (key_tells is.0 is.1 is.2 shown c l.0.0 l.0.1 (says is.0 is.1 same same hashes c is.3 shown l.0 l.1))
  tells_on (kinds.Reserve c) is shown end leads =
      let l = leads_as of_reserve shown (reserve_plan hashes c) end leads in subst (GoesAs (kinds.Reserve c)) (sym l.2) (room_tells c l.0.0 l.0.1)
  tells_on (kinds.Sweep c) is shown end leads =
      let l = leads_as of_sweep shown (sweep_plan hashes c) end leads in
      let so = sweep_says hashes Clears c is shown l.0 l.1 in subst (GoesAs (kinds.Sweep c)) (sym l.2) (clear_tells c l.0.0 l.0.1 so.0 so.1)
  tells_on (kinds.Count c) is shown end leads =
      let l = leads_as of_count shown (sum_plan c) end leads in subst (GoesAs (kinds.Count c)) (sym l.2) (count_tells K V c l.0.0 l.0.1)
