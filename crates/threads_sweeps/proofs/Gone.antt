-- A session that goes over the pairs of its map may begin to, and what its call has come to.
use Rattle.std.specs.Prelude.{[], Some, None, Result}
use Rattle.std.proofs.Common.{◌≡◌, ℕ, Bool, refl, subst, ap}
use Rattle.seize_words.specs.declared.fault.Fault.{Fault}
use Rattle.map_tables.specs.declared.setting.Setting.{Setting}
use Rattle.papaya_raw.specs.Given.ReservesDeclared.sweep.Purpose.{Purpose}
use Rattle.papaya_raw.specs.Given.SweepsSweepPoints.{sweeping}
use Rattle.papaya_raw.specs.declared.machines.machine.Machine.{Machine}
use Rattle.papaya_raw.specs.declared.machines.machine.Machine.TheVariants as kinds
use Rattle.threads_calls.specs.Given.SeizeViewsDeclared.view.Has.TheVariants.{Nothing as NoBlock}
use Rattle.threads_calls.specs.Given.SeizeViewsDeclared.view.SlotView.TheVariants.{Inside}
use Rattle.threads_calls.specs.Given.CallersStanding.{known_by}
use Rattle.threads_calls.proofs.Sessions.{may_do_all}
use Rattle.threads_calls.specs.Given.ActsActs.{GoOver, Wanted}
use Rattle.threads_calls.specs.Given.ViewsRule.{stand_of}
use Rattle.threads_calls.specs.Given.ViewsTold.{newest_progress}
use Rattle.threads_calls.specs.Given.ViewsDeclared.view.View.{View}
use Rattle.threads_calls.specs.Given.ViewsDeclared.view.SeatWork.{SeatWork}
use Rattle.threads_calls.specs.Given.ViewsDeclared.view.SeatWork.TheVariants.{Nothing}
use Rattle.threads_calls.specs.Given.ErrandsCalling.{outcome_of, wanted_of}
use Rattle.threads_calls.specs.Given.ErrandsLooking.{Begins, HasProgressed, IsOfThem, StaysThere}
use Rattle.threads_calls.specs.Given.ErrandsSweeping.{HasGoneOver, MayGoOver, swept_by}
use Rattle.threads_calls.proofs.Given.ErrandsBeginnings.{stays_begun, stays_on}
use Rattle.threads_calls.proofs.Given.ErrandsRuns.{has_run, told_last}

module _ {K V S : Type 0} where
  -- with this under way in its place
  abbrev with_work : View K V S → SeatWork K V S → View K V S
  with_work v work = record { slot = v.slot; under = v.under; map = v.map; by = v.by; own = v.own; work = work; looks = []; held = []; began = v.began; calls = v.calls }

  -- one that was asked, or told something, stands where it stood, and its calls are those of before
  pub work_stays : (v w : View K V S) (work : SeatWork K V S) → w ≡ with_work v work → StaysThere v w
  work_stays v w work is = record { slot = ap (λ (u : View K V S). stand_of u) is; map = ap (λ (u : View K V S). u.map) is }

  pub work_of_them : (v w : View K V S) (work : SeatWork K V S) → w ≡ with_work v work → IsOfThem v w
  work_of_them v w work is = λ told. ap (λ (u : View K V S). newest_progress told u.calls) is

  module _ (same : K → K → Bool) (hash : S → K → ℕ) (purpose : Purpose) where
    -- what it has come to, from where it began
    pub gone_over : (machine : Machine K V K) (setting : Setting) (u begun v w : View K V S) (end : Result Unit Fault) → machine ≡ kinds.Sweep (sweeping setting purpose)
        → Begins same hash (wanted_of machine) u begun → StaysThere begun w → IsOfThem begun v → HasProgressed (outcome_of (swept_by end)) v w → w.work ≡ Nothing → HasGoneOver same hash purpose end u w
    gone_over machine setting u begun v w end is begins stays them told free =
        let its = subst (λ (x : Wanted K V). Begins same hash x u begun) (ap wanted_of is) begins in record {
          free = free;
          stays = stays_on u begun w (stays_begun same hash (GoOver purpose) u begun its) stays;
          ran = has_run same hash (GoOver purpose) (outcome_of (swept_by end)) u begun w its (told_last begun v w (outcome_of (swept_by end)) them told);
        }

    -- it may begin
    pub may_go_over : (v : View K V S) (setting its : Setting) (hasher : S) (t : ℕ) (machine : Machine K V K) → v.under ≡ None → v.slot ≡ Inside t NoBlock → v.work ≡ Nothing
        → known_by v ≡ Some (setting, hasher) → its ≡ record setting { slot = t } → machine ≡ kinds.Sweep (sweeping its purpose)
        → MayGoOver same hash purpose hasher machine v
    may_go_over v setting its hasher t machine lone inside free knows is made = record {
      may =
          may_do_all same hash (GoOver purpose) (λ x. kinds.Sweep (sweeping x purpose)) (λ map s. refl) (λ x. refl) v setting its hasher t machine lone inside free knows is made;
      setting = its;
      is = made;
    }
