-- What calls on whole maps have come to stays so where anything else happens than a step of a call.
use Rattle.std.specs.Prelude.{◌≡◌, ℕ, Bool, List, find, Option, Some}
use Rattle.std.proofs.Common.{ap, sym, subst, ◌∙◌}
use Rattle.run_finds.specs.Given.SeizeWordsDeclared.fault.Fault.TheVariants.{Memory}
use Rattle.run_finds.specs.Given.RunsSame.{is_same}
use Rattle.run_finds.specs.Given.RunsDeclared.outcome.Outcome.TheVariants.{Refused}
use Rattle.run_finds.specs.Given.SchedulesMoment.{UnderWay as CallThere, Moment}
use Rattle.run_finds.specs.Given.SchedulesViews.{call_of}
use Rattle.run_finds.specs.Given.CallersTogether.{UnderWay}
use Rattle.run_finds.specs.Given.EffectsKnown.{Known}
use Rattle.run_finds.specs.Given.FinishesMaps.{Standing}
use Rattle.run_finds.proofs.Given.HistoriesAside.Elsewhere.{stays_elsewhere}
use Rattle.run_finds.specs.Given.OthersAfter.{RefinesAfter}
use Rattle.run_sweeps.specs.Purposes.Elsewhere.{PurposesStay}
use Rattle.run_finds.specs.Purposes.Purposes.{HasCome, RefinesPurposes}
use Rattle.run_sweeps.proofs.Purposes.Between.{calls_come_to_purposes, walks_go_on_purposes}
use Rattle.run_sweeps.proofs.Purposes.Rows.{beside_purposes}
use Rattle.run_sweeps.proofs.Purposes.Shown.{same_still}
use Rattle.run_sweeps.proofs.Purposes.Still.{come_still}
use Rattle.run_finds.specs.Given.ScenesScene.{Scene}
use Rattle.run_finds.specs.Given.SchedulesTransition.{Past}
use Rattle.run_finds.proofs.Given.FollowsContents.{lasts_same}
use Rattle.run_sweeps.proofs.Purposes.Stored.{numbers_last}

-- the same pairs were stored and lie where they lay, and no call comes
module _ {K V : Type 0} (same : K → K → Bool) (name : ℕ → List ℕ) (log : Past K V) (m m2 : Moment K V) (known : Known) (s s2 : Scene K V) (purposes : RefinesPurposes same name log m known s)
    (place : m2.place ≡ m.place) (stored : m2.stored ≡ m.stored) (calls : m2.calls ≡ m.calls) (after : RefinesAfter same name m known s purposes.shown m2 known s2)
    (fewer : (n j : ℕ) (x : UnderWay K V K) → s2.calls n j ≡ Some x → s.calls n j ≡ Some x) (maps : s2.maps ≡ s.maps) where
  was_called : (j : ℕ) (c : CallThere K V) → call_of (name j) m2 ≡ Some c → call_of (name j) m ≡ Some c
  was_called j c found = ap (λ (cs : List (CallThere K V)). find (λ x. is_same x.caller (name j)) cs) (sym calls) ∙ found

  stood : (n : ℕ) (st : Standing K) → s2.maps n ≡ Some st → s.maps n ≡ Some st
  stood n st is = subst (λ (f : ℕ → Option (Standing K)). f n ≡ Some st) maps is

  between_purposes : RefinesPurposes same name log m2 known s2
  between_purposes = record {
    past = purposes.past;
    lasts = numbers_last log m m2 (lasts_same m.stored m2.stored stored) purposes.lasts;
    shown = after.shows;
    begun = λ n j x is c found. purposes.begun n j x (fewer n j x is) c (was_called j c found);
    is_for = λ n j x is c found. purposes.is_for n j x (fewer n j x is) c (was_called j c found);
    come = λ n j x is st there c found.
        subst (λ (f : ℕ → ℕ). HasCome same n st f log m2 x c) (sym (after.numbers n st (stood n st there)))
        (come_still same n st (purposes.shown.number n) log m m2 place stored c c (same_still c) x
        (purposes.come n j x (fewer n j x is) st (stood n st there) c (was_called j c found)));
  }

pub purposes_stay : (K V : Type 0) (same : K → K → Bool) (hash : ℕ → K → ℕ) → PurposesStay K V same hash
purposes_stay K V same hash name log = stays_elsewhere same hash name (RefinesPurposes same name log)
    (λ m m2 known known2 s s2 old new at_old at_new purposes after beside.
    beside_purposes same hash name log m m2 known known2 s s2 old new at_old at_new purposes (after purposes.shown) beside)
    (λ m m2 known s s2 purposes place stored calls after fewer maps. between_purposes same name log m m2 known s s2 purposes place stored calls (after purposes.shown) fewer maps)
    (λ m known s purposes map i o here ready. walks_go_on_purposes K V same name log m known s purposes map i o here ready)
    (λ m known s purposes own none. calls_come_to_purposes K V same name log m known s purposes own (Refused Memory) 0 tt (λ ends. none))
