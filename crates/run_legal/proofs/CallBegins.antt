-- An event in which a whole call begins, or a walk is asked for its next pair, is in its midst.
use Rattle.std.specs.Prelude.{◌≡◌, ℕ, ◌+◌, Bool, true, List, cond, find, Option, Some}
use Rattle.std.proofs.Common.{refl, ap, sym, subst, ◌∙◌, inl, inr}
use Rattle.run_grows.specs.Given.RunsSame.{is_same}
use Rattle.run_grows.specs.Given.RunsDeclared.call.Call.{Call}
use Rattle.run_grows.specs.Given.RunsDeclared.call.Call.TheVariants.{On}
use Rattle.run_grows.specs.Given.RunsDeclared.event.Event.TheVariants.{OneCall, Next}
use Rattle.run_grows.specs.Given.SchedulesAfter.{moment}
use Rattle.run_grows.specs.Given.SchedulesBeginning.{fresh_call, with_call}
use Rattle.run_grows.specs.Given.SchedulesMoment.{UnderWay as CallThere}
use Rattle.run_grows.specs.Given.SchedulesViews.{call_of}
use Rattle.run_grows.specs.Given.SeizeWorld.{with_at}
use Rattle.run_grows.specs.Given.CallersOverAll.{CallOverAll, gone_on}
use Rattle.run_grows.specs.Given.CallersTogether.{UnderWay, OverAll}
use Rattle.run_grows.proofs.Given.CallersTogether.At.{at_same}
use Rattle.run_grows.specs.Given.SweepsSweepPoints.{after_next}
use Rattle.run_grows.specs.Given.FollowsCalls.{IsCalled}
use Rattle.run_grows.proofs.Given.FollowsCalling.{is_same_refl}
use Rattle.run_grows.proofs.Given.HandsAsking.{which}
use Rattle.run_grows.proofs.Given.ChangesLogs.{events_are}
use Rattle.run_grows.specs.Given.PromisesReading.{LookupsStay, RefinesReadings, looks}
use Rattle.run_grows.proofs.Given.PromisesBrief.Meanwhile.{calls_begin_readings, stands_so}
use Rattle.run_grows.proofs.Given.PromisesBrief.Stays.{readings_stay}
use Rattle.run_legal.specs.CallEvents.{NextsBegin, WholeCallsBegin}
use Rattle.run_legal.specs.Carried.{RefinesAllCalls}
use Rattle.run_legal.proofs.Between.{calls_begin, walks_go_on}
use Rattle.run_legal.proofs.Calls.{call_events_begin_so}
use Rattle.run_grows.specs.Given.ScenesReplying.{scene_with}
use Rattle.run_grows.specs.Given.ScenesScene.{Scene}
use Rattle.run_grows.specs.Given.SchedulesTransition.{past}
use Rattle.run_grows.proofs.Given.General.{same_some as one_of}

-- what a caller has under way is there on its map
pub now_there : {K V : Type 0} (s : Scene K V) (map i : ℕ) (u : UnderWay K V K) → (scene_with map i u s).calls map i ≡ Some u
now_there {K} {V} s map i u =
    ap (λ (f : ℕ → Option (UnderWay K V K)). f i) (at_same s.calls map (with_at (s.calls map) i (Some u)) map refl) ∙ at_same (s.calls map) i (Some u) i refl

pub whole_calls_begin : (K V : Type 0) (same : K → K → Bool) (hash : ℕ → K → ℕ) → WholeCallsBegin K V same hash
whole_calls_begin K V same hash name terms log known s old new at run map i standing there u call guard begins right none rests at2 named on only = (
  c_is,
  call_events_begin_so K V same hash name terms log (with_call (name i) guard call (Some map) (moment log)) (refl, refl) refl refl refl refl refl run.tableless known (scene_with map i u s) new at2
      (calls_begin K V same hash name (past log) known s old new at run.calls map i standing there u call guard begins right none rests at2)
      (calls_begin_readings K V same name (past log) (moment log) known s run.calls.whole run.reading map i u call guard none right.looks (events_are log))
      run.sections run.follows (OneCall guard on call) map i (ap (λ (own : List ℕ). Some own) (sym named)) u (now_there s map i u)
      (fresh_call (name i) guard call map (moment log).events) c_is only,
)
  where
    c_is : call_of (name i) (with_call (name i) guard call (Some map) (moment log)) ≡ Some (fresh_call (name i) guard call map (moment log).events)
    c_is =
        ap (λ (q : Bool). cond q (Some (fresh_call (name i) guard call map (moment log).events)) (find (λ (x : CallThere K V). is_same x.caller (name i)) (moment log).calls)) (is_same_refl (name i))

-- a call over a whole map is no lookup
over_all_looks : {K V : Type 0} (same : K → K → Bool) (o : CallOverAll) (call : Call K V) → IsCalled same (OverAll o) call → looks call ≡ true → ⊥
over_all_looks same o (On one) called e = called
over_all_looks same o _ called e = absurd (cc e)

pub nexts_begin : (K V : Type 0) (same : K → K → Bool) (hash : ℕ → K → ℕ) → NextsBegin K V same hash
nexts_begin K V same hash name terms log known s old new at run i leads map o here is c c_is only =
    call_events_begin_so K V same hash name terms log (moment log) (refl, refl) refl refl refl refl refl run.tableless known (scene_with map i next s) new (leads map (OverAll o) here).4 shown reading
    run.sections run.follows (Next (name i)) map i refl next (now_there s map i next) c c_is only
  where
    next : UnderWay K V K
    next = (leads map (OverAll o) here).0

    shown : RefinesAllCalls same name (past log) (moment log) known (scene_with map i next s)
    shown = walks_go_on K V same hash name (past log) (moment log) known s old new at run.calls i leads map o here is

    -- it is none, and all others are as they were
    no_lookup : (n j : ℕ) (x : UnderWay K V K) → (scene_with map i next s).calls n j ≡ Some x → ◌≡◌ {A = Option (UnderWay K V K)} (Some next) (Some x) → (d : CallThere K V)
        → call_of (name j) (moment log) ≡ Some d → looks d.call ≡ true → ⊥
    no_lookup n j x x_is e d d_is d_looks =
        let there = shown.whole.all.shown.calls n j x x_is in
        let same_call : there.0 ≡ d = one_of there.0 d (sym there.1 ∙ d_is) in
        let walk : x ≡ OverAll (gone_on o (after_next o.sweep)) = sym (one_of next x e) ∙ is in
        over_all_looks same (gone_on o (after_next o.sweep)) d.call
        (subst (λ (y : UnderWay K V K). IsCalled same y d.call) walk (subst (λ (z : CallThere K V). IsCalled same x z.call) same_call there.3)) d_looks

    stay : LookupsStay name (λ j. 0) (moment log) s (λ j. 0) (moment log) (scene_with map i next s)
    stay = record {
      calls = λ n j x x_is d d_is d_looks. elim (which s.calls map i (Some next) n j x x_is) as
          (λ _. (s.calls n j ≡ Some x) × (b : CallThere K V) × (call_of (name j) (moment log) ≡ Some b) × (looks b.call ≡ true) × (d.begun ≡ b.begun) × (d.steps + 0 ≡ b.steps + 0)) [
            | inl own ↦ absurd (no_lookup n j x x_is own.2 d d_is d_looks)
            | inr was ↦ (was.1, d, d_is, d_looks, refl, refl)
          ];
      maps = λ n j x x_is st there. stands_so s.maps n st there;
    }

    reading : RefinesReadings name (past log) (λ j. 0) (moment log) (scene_with map i next s)
    reading = readings_stay K V name (past log) (λ j. 0) (λ j. 0) (moment log) (moment log) s (scene_with map i next s) stay run.reading
