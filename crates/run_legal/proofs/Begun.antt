-- An event that begins a call, tells it a reply, or gives a walk up, is legal, and a run goes on with it.
use Rattle.std.specs.Prelude.{◌≡◌, ℕ, ◌+◌, Bool, true, false, not, ◌&&◌, List, [], ◌∷◌, Option, Some, None, Ok}
use Rattle.std.proofs.Common.{refl, ap, sym, subst, ◌∙◌, inl, inr}
use Rattle.run_grows.specs.Given.RawCallAsks.{replied_at}
use Rattle.run_grows.specs.Given.RawMachine.{machine_replied}
use Rattle.run_grows.specs.Given.RawDeclared.machines.asking.MachineReply.{MachineReply}
use Rattle.run_grows.specs.Given.RawDeclared.machines.call.Calling.{Calling}
use Rattle.run_grows.specs.Given.RunsSame.{is_same}
use Rattle.run_grows.specs.Given.RunsDeclared.event.Event.TheVariants as event
use Rattle.run_grows.specs.Given.RunsDeclared.outcome.Outcome.TheVariants.{Done, Goes}
use Rattle.run_grows.specs.Given.SchedulesAfter.{is_alone_on, moment, moments_from}
use Rattle.run_grows.specs.Given.SchedulesBeginning.{with_call}
use Rattle.run_grows.specs.Given.SchedulesEntry.{Entry}
use Rattle.run_grows.specs.Given.SchedulesMoment.{UnderWay as CallThere, Moment}
use Rattle.run_grows.specs.Given.SchedulesViews.{call_of, number_of}
use Rattle.run_grows.specs.Given.TablesChunks.{is_incremental}
use Rattle.run_grows.specs.Given.RuleChart.{Chart}
use Rattle.run_grows.specs.Given.CallersTogether.{UnderWay, OnKey, ForRoom, Counting, OverAll}
use Rattle.run_grows.specs.Given.FinishesMachines.{machine_of}
use Rattle.run_grows.specs.Given.FinishesMaps.{with_call as with_call_of}
use Rattle.run_grows.specs.Given.FollowsCalling.{told}
use Rattle.run_grows.specs.Given.HandsAsked.{reply_to_machine}
use Rattle.run_grows.specs.Given.OthersWalks.{given_up}
use Rattle.run_grows.proofs.Given.FollowsCalling.{apart_back, found_kept}
use Rattle.run_grows.proofs.Given.HandsAsking.{which}
use Rattle.run_grows.proofs.Given.HandsCalling.{caller_is}
use Rattle.run_grows.proofs.Given.ChangesLogs.{events_are}
use Rattle.run_sweeps.proofs.Purposes.Nothing.{no_calls_are_swept}
use Rattle.run_grows.specs.Given.PromisesReading.{HasLooked, LookupsStay, RefinesReadings, looks}
use Rattle.run_grows.specs.Given.PromisesSheltered.{SectionsHold}
use Rattle.run_grows.proofs.Given.PromisesBrief.Meanwhile.{calls_begin_readings, calls_take_readings, stands_so}
use Rattle.run_grows.proofs.Given.PromisesBrief.Stays.{readings_stay}
use Rattle.run_grows.proofs.Given.PromisesShelters.Begins.{sections_go_on}
use Rattle.run_legal.specs.Between.{IsLike}
use Rattle.run_legal.specs.CallEvents.{IsLegalBut}
use Rattle.run_legal.specs.Carried.{RefinesAllCalls}
use Rattle.run_legal.specs.Over.{BegunEventsEnd, StoppedEventsEnd, RepliedEventsEnd}
use Rattle.run_legal.proofs.Between.{calls_begin, calls_take, walks_stop}
use Rattle.run_legal.proofs.Idle.{idle_events_are_legal}
use Rattle.run_legal.proofs.Over.{quiet_events_end}
use Rattle.run_grows.specs.Given.ScenesReplying.{scene_with, unless_stopped}
use Rattle.run_grows.specs.Given.ScenesScene.{Scene}
use Rattle.run_grows.specs.Given.SchedulesTransition.{past, transition}

module _ (K V : Type 0) (same : K → K → Bool) (hash : ℕ → K → ℕ) where
  pub begun_events_end : BegunEventsEnd K V same hash
  begun_events_end name terms log known s old new at run map i standing there u call guard begins right none rests at2 on number steps comes = (
    legal,
    quiet_events_end K V same name terms log known s (scene_with map i u s) run e comes legal.life refl refl refl tt (with_call (name i) guard call (Some map) (moment log)) shown reading
        like refl sections,
  )
    where
      e : Entry K V
      e = record { event = event.Begin (name i) guard on call; outcome = Goes; steps = steps; effects = [] }

      legal : IsLegalBut same terms log e
      legal = (idle_events_are_legal K V same terms log known s.world e refl tt run.sections tt refl refl tt (no_calls_are_swept K V same terms (past log) (transition log e) refl) tt tt).0

      shown : RefinesAllCalls same name (past log) (with_call (name i) guard call (Some map) (moment log)) known (scene_with map i u s)
      shown = calls_begin K V same hash name (past log) known s old new at run.calls map i standing there u call guard begins right none rests at2

      reading : RefinesReadings name (past log) (λ j. 0) (with_call (name i) guard call (Some map) (moment log)) (scene_with map i u s)
      reading = calls_begin_readings K V same name (past log) (moment log) known s run.calls.whole run.reading map i u call guard none right.looks (events_are log)

      -- the moment after it, by which map has that name
      named : Option ℕ → Moment K V
      named o =
          let w = with_call (name i) guard call o (moment log) in
          record w {
            events = (moment log).events + 1;
            is_mapped = (moment log).is_mapped;
            is_closed = (moment log).is_closed;
            is_alone = (moment log).is_alone && is_alone_on e (moment log);
            there = w.there;
            slots = (moment log).slots;
            sheltered = w.sheltered;
            remains = (moment log).remains;
          }

      like : IsLike (with_call (name i) guard call (Some map) (moment log)) (moment (e ∷ log))
      like = subst (λ (o : Option ℕ). IsLike (with_call (name i) guard call (Some map) (moment log)) (named o)) (sym number) refl

      sections : SectionsHold (moment (e ∷ log)) known s.world
      sections = (sections_go_on K V (moment log) known s.world run.sections).0.begins (name i) guard call (number_of on (moment log))

-- a lookup takes no reply
module _ {K V : Type 0} (incremental : Bool) (map : ℕ) (c : Chart K) (moments : List (Moment K V)) (steps : ℕ) (reply : MachineReply V) where
  takes_none : (u : UnderWay K V K) → HasLooked incremental map c moments steps u → (machine_replied (machine_of u) reply).1 ≡ Ok tt → ⊥
  takes_none (OnKey k) looked takes = let refused = ap (λ (x : Calling). (replied_at x k.call reply).1) looked.1 in cc (refused, takes)
  takes_none (ForRoom r) looked takes = looked
  takes_none (Counting sum) looked takes = looked
  takes_none (OverAll o) looked takes = looked

module _ (K V : Type 0) (same : K → K → Bool) (hash : ℕ → K → ℕ) where
  pub told_events_end : RepliedEventsEnd K V same hash
  told_events_end name terms log known s old new at run map i u here c c_is question asks standing there is_told next next_is takes told_kind taken at2 steps comes =
      (legal, quiet_events_end K V same name terms log known s (scene_with map i next s) run e comes legal.life refl refl refl tt (told (name i) is_told (moment log)) shown reading refl refl run.sections)
    where
      e : Entry K V
      e = record { event = event.Replied (name i) is_told; outcome = Goes; steps = steps; effects = [] }

      legal : IsLegalBut same terms log e
      legal = (idle_events_are_legal K V same terms log known s.world e refl tt run.sections tt refl refl tt (no_calls_are_swept K V same terms (past log) (transition log e) refl) tt tt).0

      shown : RefinesAllCalls same name (past log) (told (name i) is_told (moment log)) known (scene_with map i next s)
      shown = calls_take K V same hash name (past log) (moment log) known s old new at run.calls map i u here c c_is question asks standing there is_told next next_is takes told_kind taken at2

      no_look : looks c.call ≡ false
      no_look = by (looks c.call) refl
        where
          by : (q : Bool) → looks c.call ≡ q → looks c.call ≡ false
          by false is = is
          by true is = absurd (takes_none (is_incremental standing.setting.mode) map standing.chart (moments_from c.begun log) (c.steps + 0) (reply_to_machine is_told) u
              (run.reading.reads map i u here c c_is is standing there) takes)

      reading : RefinesReadings name (past log) (λ j. 0) (told (name i) is_told (moment log)) (scene_with map i next s)
      reading = calls_take_readings K V name (past log) (λ j. 0) (moment log) s run.reading (λ n j x is. (let d = run.calls.whole.all.shown.calls n j x is in (d.0, d.1))) map i c c_is no_look is_told next

  pub stopped_events_end : StoppedEventsEnd K V same hash
  stopped_events_end name terms log known s old new at run i leads map u here steps none comes = (
    legal,
    quiet_events_end K V same name terms log known s (record s { calls = with_call_of s.calls map i (unless_stopped true u) }) run e comes legal.life refl refl refl tt
        (given_up (name i) true (moment log)) shown reading refl refl run.sections,
  )
    where
      e : Entry K V
      e = record { event = event.Stop (name i); outcome = Done; steps = steps; effects = [] }

      legal : IsLegalBut same terms log e
      legal = (idle_events_are_legal K V same terms log known s.world e refl tt run.sections tt refl refl tt (no_calls_are_swept K V same terms (past log) (transition log e) refl) tt tt).0

      at_end : Scene K V
      at_end = record s { calls = with_call_of s.calls map i (unless_stopped true u) }

      shown : RefinesAllCalls same name (past log) (given_up (name i) true (moment log)) known at_end
      shown = walks_stop K V same hash name (past log) (moment log) known s old new at run.calls i true leads map u here (λ e. none)

      -- the calls that are left were there, as they were
      left : (n j : ℕ) (x : UnderWay K V K) → at_end.calls n j ≡ Some x → s.calls n j ≡ Some x
      left n j x is = elim (which s.calls map i None n j x is) as (λ _. s.calls n j ≡ Some x) [
        | inl own ↦ absurd (let gone = own.2 in cc gone)
        | inr was ↦ was.1
      ]

      found : (n j : ℕ) (x : UnderWay K V K) → at_end.calls n j ≡ Some x → (d : CallThere K V) → call_of (name j) (given_up (name i) true (moment log)) ≡ Some d → call_of (name j) (moment log) ≡ Some d
      found n j x is d d_is =
          let had = run.calls.whole.all.shown.calls n j x (left n j x is) in
          let named = caller_is (name j) (moment log) had.0 had.1 in
          let kept : not (is_same had.0.caller (name i)) ≡ true =
          ap (λ (l : List ℕ). not (is_same l (name i))) named ∙ ap not (apart_back (name i) (name j) (none n j x is)) in
          let now = found_kept (λ (y : CallThere K V). is_same y.caller (name j)) (λ (y : CallThere K V). not (is_same y.caller (name i))) (moment log).calls had.0 had.1 kept in
          had.1 ∙ sym now ∙ d_is

      stay : LookupsStay name (λ j. 0) (moment log) s (λ j. 0) (given_up (name i) true (moment log)) at_end
      stay = record {
        calls = λ n j x is d d_is d_looks. (left n j x is, d, found n j x is d d_is, d_looks, refl, refl);
        maps = λ n j x is st stands. stands_so s.maps n st stands;
      }

      reading : RefinesReadings name (past log) (λ j. 0) (given_up (name i) true (moment log)) at_end
      reading = readings_stay K V name (past log) (λ j. 0) (λ j. 0) (moment log) (given_up (name i) true (moment log)) s at_end stay run.reading
