-- What a sweep has done, over its steps, and by other numbers of the same pairs.
use Rattle.std.specs.Prelude.{◌≡◌, ℕ, ◌<◌, true, List, [], map, Option, Some, ◌⊎◌}
use Rattle.std.specs.List.{AllByRecursion}
use Rattle.std.proofs.Common.{ap, sym, subst, ◌∙◌, inl, inr}
use Rattle.run_finds.specs.Given.ReservesDeclared.sweep.Purpose.TheVariants.{Walks}
use Rattle.run_finds.specs.Given.ReservesDeclared.sweep.Sweeping.{Sweeping}
use Rattle.run_finds.specs.Given.ReservesDeclared.sweep.Sweeping.TheVariants as at
use Rattle.run_finds.specs.Given.ReservesDeclared.sweep.Swept.{Swept}
use Rattle.run_finds.specs.Given.ReservesDeclared.sweep.Swept.TheVariants as swept
use Rattle.run_finds.specs.Given.RawProgress.{of_swept}
use Rattle.run_finds.specs.Given.RunsDeclared.call.Call.{Call}
use Rattle.run_finds.specs.Given.RunsDeclared.call.Call.TheVariants as call
use Rattle.run_finds.specs.Given.RunsDeclared.call.Reply.{Reply}
use Rattle.run_finds.specs.Given.SchedulesMoment.{UnderWay as CallThere}
use Rattle.run_finds.specs.Given.SchedulesSweeps.{is_yes}
use Rattle.run_finds.specs.Given.SchedulesViews.{reply_to}
use Rattle.run_finds.specs.Given.RuleChart.{Chart}
use Rattle.run_finds.specs.Given.RuleWords.{Blocks}
use Rattle.run_finds.specs.Given.LateCoversSweeps.{DoneBy, DoneAt}
use Rattle.run_finds.specs.Given.CallersOverAll.{CallOverAll}
use Rattle.run_finds.specs.Given.CallersTogether.{OverAll}
use Rattle.run_sweeps.specs.Purposes.Kept.{ShowsNone}
use Rattle.run_finds.specs.Purposes.Purposes.{IsFor, ShowsDone}
use Rattle.run_finds.specs.Given.NamedMachines.{IsBefore}
use Rattle.run_sweeps.proofs.Purposes.Lists.{all_on, all_both, maps_alike}
use Rattle.run_sweeps.proofs.Purposes.Shown.{IsStill}

module _ {K : Type 0} (hash : K → ℕ) (c : Chart K) (blocks : Blocks) (done done2 : List ℕ) where
  by_none : {T : Type 0} (end : Swept T) → ShowsNone (of_swept end) → DoneBy hash c blocks done done2 end → done2 ≡ done
  by_none swept.Goes none is = is
  by_none swept.Waits none is = is
  by_none (swept.Gave value) none is = is
  by_none swept.Ready none is = is
  by_none (swept.Pair word) none is = absurd none
  by_none (swept.Asks word) none is = is
  by_none swept.Done none is = is
  by_none (swept.Refused fault) none is = is

  -- before it goes over a table nothing is done, and then what was done, unless a pair is shown
  pub done_is : {T : Type 0} (entered entered2 : ℕ) (end : Swept T) → ShowsNone (of_swept end) → (stands : Sweeping) → DoneAt hash c blocks done done2 entered entered2 end stands
      → (IsBefore stands × (done2 ≡ [])) ⊎ ((entered2 ≡ entered) × (done2 ≡ done))
  done_is entered entered2 end none at.Reads is = inl (tt, is)
  done_is entered entered2 end none at.Follows is = inl (tt, is)
  done_is entered entered2 end none (at.Copies copier) is = inl (tt, is)
  done_is entered entered2 end none _ is = inr (is.0, by_none end none is.1)

-- the same pairs by other numbers, and a call that tells the same
module _ {K V : Type 0} (number number2 : ℕ → ℕ) (stored : ℕ) (numbers : (n : ℕ) → n < stored → number2 n ≡ number n) (c d : CallThere K V) (still : IsStill c d) (done : List ℕ)
    (below : AllByRecursion (λ n. n < stored) done) where
  yes_kept : AllByRecursion (λ n. is_yes (reply_to (Some (number n)) c.replies) ≡ true) done → AllByRecursion (λ n. is_yes (reply_to (Some (number2 n)) d.replies) ≡ true) done
  yes_kept said_yes =
      all_on (λ n. (n < stored) × (is_yes (reply_to (Some (number n)) c.replies) ≡ true)) (λ n. is_yes (reply_to (Some (number2 n)) d.replies) ≡ true)
      (λ n h. ap (λ (q : ℕ). is_yes (reply_to (Some q) d.replies)) (numbers n h.0) ∙ ap (λ (r : List (Option ℕ × Reply V)). is_yes (reply_to (Some (number n)) r)) still.replies ∙ h.1) done
      (all_both (λ n. n < stored) (λ n. is_yes (reply_to (Some (number n)) c.replies) ≡ true) done below said_yes)

  pub maps_kept : map number2 done ≡ map number done
  maps_kept = maps_alike number2 number done (all_on (λ n. n < stored) (λ n. number2 n ≡ number n) numbers done below)

  tells_by : (its : Call K V) → ShowsDone its number done c → ShowsDone its number2 done d
  tells_by (call.On one) tells = tt
  tells_by (call.Reserve n) tells = tt
  tells_by call.Clear tells = tt
  tells_by call.Retain tells = yes_kept tells
  tells_by call.Len tells = tt
  tells_by call.Walk tells = still.shown ∙ tells ∙ sym maps_kept

  pub tells_kept : ShowsDone c.call number done c → ShowsDone d.call number2 done d
  tells_kept tells = subst (λ (x : Call K V). ShowsDone x number2 done d) (sym still.call) (tells_by c.call tells)

-- after a step by which it is as before, or nothing is done
module _ {K V : Type 0} (o : CallOverAll) (done2 : List ℕ) (number : ℕ → ℕ) (c : CallThere K V) where
  abbrev pub Comes : Type 0
  Comes = (IsBefore o.sweep.stands × (done2 ≡ [])) ⊎ (done2 ≡ o.done)

  pub next_tells : (its : Call K V) → IsFor (OverAll o) its → (o.sweep.purpose ≡ Walks → IsBefore o.sweep.stands → o.done ≡ []) → Comes → ShowsDone its number o.done c
      → ShowsDone its number done2 c
  next_tells its is_for none (inr kept) tells = subst (λ (l : List ℕ). ShowsDone its number l c) (sym kept) tells
  next_tells (call.On one) is_for none (inl at_first) tells = tt
  next_tells (call.Reserve n) is_for none (inl at_first) tells = tt
  next_tells call.Clear is_for none (inl at_first) tells = tt
  next_tells call.Retain is_for none (inl at_first) tells = subst (λ (l : List ℕ). ShowsDone call.Retain number l c) (sym at_first.1) tt
  next_tells call.Len is_for none (inl at_first) tells = tt
  next_tells call.Walk is_for none (inl at_first) tells = subst (λ (l : List ℕ). ShowsDone call.Walk number l c) (none is_for at_first.0 ∙ sym at_first.1) tells

  pub next_below : (stored : ℕ) → Comes → AllByRecursion (λ n. n < stored) o.done → AllByRecursion (λ n. n < stored) done2
  next_below stored (inl at_first) below = subst (AllByRecursion (λ n. n < stored)) (sym at_first.1) tt
  next_below stored (inr kept) below = subst (AllByRecursion (λ n. n < stored)) (sym kept) below
