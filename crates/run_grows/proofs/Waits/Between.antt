-- Between the steps of calls, and as others take steps, each pair that a call has in hand lies as it lay.
use Rattle.std.specs.Prelude.{◌≡◌, false, cond, find, Some, None}
use Rattle.std.proofs.Common.{ap, sym, subst, ◌∙◌, inl, inr}
use Rattle.run_schedules.specs.Runs.Same.{is_same}
use Rattle.papaya_raw.specs.declared.machines.machine.Machine.{Machine}
use Rattle.run_schedules.specs.Schedules.Beginning.{fresh_call, with_call}
use Rattle.run_schedules.specs.Schedules.Moment.{UnderWay as CallThere}
use Rattle.run_schedules.specs.Schedules.Views.{call_of}
use Rattle.run_finds.specs.Given.CallersTogether.{UnderWay}
use Rattle.run_finds.specs.Given.FinishesMachines.{machine_of}
use Rattle.run_finds.proofs.Given.HandsAsking.{which}
use Rattle.run_finds.specs.Given.SettlesHand.{in_hand}
use Rattle.run_finds.proofs.Given.SettlesHand.Roles.{hand_same}
use Rattle.run_finds.specs.Waits.{waits_in, pair_in, IsHeldPast, PreservesPending, WaitsStay, WaitsFollowObligations, CallsBeginWaits}
use Rattle.run_finds.proofs.Given.General.{same_some as one_of}

pub waits_stay : (K V : Type 0) → WaitsStay K V
waits_stay K V name m v s t waits leaves keeps map i u is word some d d_is k owed =
    let was = keeps map i u is word some d d_is in
    let had : pair_in (machine_of was.0) ≡ Some word = ap (λ (z : Machine K V K). pair_in z) was.2 ∙ some in
    let held = waits map i was.0 was.1 word had was.3 was.4 k (was.5 ∙ owed) in
    leaves map i u is k (waits_in (machine_of u)) (subst (λ (z : Machine K V K). IsHeldPast map m k (waits_in z)) was.2 held)

pub calls_begin_waits : (K V : Type 0) → CallsBeginWaits K V
calls_begin_waits K V name m s waits of i u call guard apart none n j x is word some c c_is k owed = elim (which s.calls of i (Some u) n j x is) as (λ _. IsHeldPast n m k (waits_in (machine_of x))) [
  | inl it ↦ absurd (let one : u ≡ x = one_of u x it.2 in let nothing : pair_in (machine_of x) ≡ None = ap (λ (z : UnderWay K V K). pair_in (machine_of z)) (sym one) ∙ none in cc (nothing, some))
  | inr was ↦ waits n j x was.1 word some c (sym (beside (apart n j x was.1)) ∙ c_is) k owed
]
  where
    fresh : CallThere K V
    fresh = fresh_call (name i) guard call of m.events

    -- another one is found as before
    beside : is_same (name i) (name j) ≡ false → call_of (name j) (with_call (name i) guard call (Some of) m) ≡ call_of (name j) m
    beside e = ap (λ z. cond z (Some fresh) (find (λ y. is_same y.caller (name j)) m.calls)) e

-- what a call owes is what it has in hand, before and after
pub waits_follow_owed : (K V : Type 0) → WaitsFollowObligations K V
waits_follow_owed K V same name m v known known2 s t calls owes owes2 waits leaves keeps = waits_stay K V name m v s t waits leaves kept
  where
    kept : PreservesPending name m s v t
    kept map i u is word some d d_is =
        let was = keeps map i u is word some in
        let c = calls map i was.0 was.1 in
        (was.0, was.1, was.2, c.0, c.1, owes.owed map i was.0 was.1 c.0 c.1 ∙ sym (hand_same known known2 (machine_of was.0) was.3) ∙ ap (in_hand known2) was.2 ∙ sym (owes2.owed map i u is d d_is))
