-- The events by which a call that is under way goes on: one step, or as many as it may take.
use Rattle.std.specs.Prelude.{◌≡◌, ◌+◌, ◌≤◌, ◌&&◌, ℕ, Bool, true, false, List, [], is_some, position, sum_by, Option, Some, option_map}
use Rattle.std.specs.List.{list_any}
use Rattle.std.proofs.Common.{refl, sym, ap, subst, ◌∙◌}
use Rattle.seize_words.specs.declared.fault.Fault.TheVariants.{Busy, Memory}
use Rattle.run_schedules.specs.Runs.Present.{Present}
use Rattle.run_schedules.specs.Runs.Stopped.{most_steps}
use Rattle.run_schedules.specs.declared.call.Call.{Call}
use Rattle.run_schedules.specs.declared.effect.Effect.{Effect}
use Rattle.run_schedules.specs.declared.event.Event.TheVariants.{Go, Step}
use Rattle.run_schedules.specs.declared.outcome.Outcome.{Outcome}
use Rattle.run_schedules.specs.declared.outcome.Outcome.TheVariants.{Refused, Waits}
use Rattle.run_schedules.specs.Schedules.After.{is_alone_on, moment, moments_from, slots_on}
use Rattle.run_schedules.specs.Schedules.Coming.{Progresses}
use Rattle.run_schedules.specs.Schedules.Effects.{with_effects}
use Rattle.run_schedules.specs.Schedules.Entry.{ByCall, Entry, IfCall}
use Rattle.run_schedules.specs.Schedules.Growing.{only_looks}
use Rattle.run_schedules.specs.Schedules.InTurn.{Continues}
use Rattle.run_schedules.specs.Schedules.Moment.{Remains, Sheltered, UnderWay as CallThere, Moment}
use Rattle.run_schedules.specs.Schedules.Steps.{state_or, weight}
use Rattle.run_schedules.specs.Schedules.Terms.{Terms}
use Rattle.run_schedules.specs.Schedules.Views.{call_of}
use Rattle.run_schedules.specs.Schedules.Waiting.{WaitsRight, may_wait_for}
use Rattle.run_executor.specs.Given.EffectsKnown.{known}
use Rattle.play_scheduler.specs.Given.FollowsCalling.{come_to}
use Rattle.run_executor.proofs.Given.HandsReplacing.{IsOn, calls_after}
use Rattle.play_scheduler.specs.Played.{IsInTurn, RefinesFor}
use Rattle.run_executor.specs.Named.Seen.{Seen, far_of, is_named}
use Rattle.play_stepping.specs.EventSteps.Stepping.{HasOutcomeOfKind, StepsHaveOutcome, IsInCase, PlaysOn, TakesUpTo}
use Rattle.run_executor.specs.declared.caller.Stands.TheVariants as far
use Rattle.play_scheduler.specs.declared.scheduler.Scheduler.{Scheduler}
use Rattle.play_stepping.proofs.EventSteps.AfterEffects.{closed_stays, mapped_stays}
use Rattle.play_scheduler.proofs.Given.RemainsStays.{remains_stay}
use Rattle.play_scheduler.proofs.Given.RowsElsewhere.{elsewhere, shown_elsewhere, kept_elsewhere, counted_elsewhere}
use Rattle.play_scheduler.proofs.Here.{Here, here_at}
use Rattle.play_stepping.proofs.EventSteps.RightSteps.{makes_many, makes_one, may_come, never_quiet, not_busy, progresses, waits_right}
use Rattle.play_scheduler.proofs.Rights.{entry, in_turn, plays}

-- it stands for a moment that is elsewhere as it says
pub stands_elsewhere : {K V S : Type 0} (same : K → K → Bool) (hash : K → ℕ) (terms : Terms) (m : Moment K V) (p : Scheduler K V S) → RefinesFor same hash terms m p
    → (events : ℕ) (is_mapped is_closed is_alone : Bool) (there : Present) (slots : ℕ) (sheltered : List Sheltered) (remains : List Remains) → is_mapped ≡ m.is_mapped → is_closed ≡ m.is_closed → there ≡ m.there → remains ≡ m.remains
    → RefinesFor same hash terms (elsewhere events is_mapped is_closed is_alone there slots sheltered remains m) p
stands_elsewhere same hash terms m p stands events is_mapped is_closed is_alone there slots sheltered remains mapped closed there_is alike = record {
  name = stands.name;
  scene = stands.scene;
  shown = record {
    is_at = stands.shown.is_at;
    shows = shown_elsewhere m (known p.logged.notes) events is_mapped is_closed is_alone there slots sheltered remains same stands.name stands.scene stands.shown.shows;
    kept = kept_elsewhere m (known p.logged.notes) events is_mapped is_closed is_alone there slots sheltered remains stands.name stands.scene stands.shown.kept;
    counted = counted_elsewhere m (known p.logged.notes) events is_mapped is_closed is_alone there slots sheltered remains p.logged stands.scene alike stands.shown.counted;
  };
  given = stands.given;
  there = there_is ∙ stands.there;
  mapped = mapped ∙ stands.mapped;
  closed = closed ∙ stands.closed;
  calls = let c = stands.calls in record { listed = c.listed; once = c.once; each = c.each; only = c.only };
  maps = let c = stands.maps in record { listed = c.listed; stand = c.stand };
  slots = stands.slots;
  rests = stands.rests;
  names = stands.names;
}

-- of the moment at which an event of the log has begun what it begins
module _ {K V S : Type 0} (same : K → K → Bool) (hash : K → ℕ) (terms : Terms) (log : List (Entry K V)) (m : Moment K V) (own : List ℕ) (old : Scheduler K V S) (stands : RefinesFor same hash terms m old) (place : ℕ)
    (placed : Some place ≡ position (is_named own) old.calls) (goes : (here_at same hash terms m old stands own place placed).caller.stands ≡ far.Goes)
    (steps : ℕ) (outcome : Outcome V) (effects : List Effect) (new : Scheduler K V S) (comes : StepsHaveOutcome same hash terms own place m steps outcome [] effects new) where
  abbrev here : Here same hash terms m old stands own place
  here = here_at same hash terms m old stands own place placed

  abbrev c : CallThere K V
  c = comes.call

  abbrev pub w : Moment K V
  w = with_effects (Some own) (option_map (λ x. x.map) (call_of own m)) effects m

  worked_is : with_effects (Some own) (Some c.map) comes.did m ≡ w
  worked_is = ap (λ (l : List Effect). with_effects (Some own) (Some c.map) l m) (sym comes.follows) ∙ ap (λ (o : Option (CallThere K V)). with_effects (Some own) (option_map (λ x. x.map) o) effects m) (sym comes.call_is)

  call_goes : far_of c.stands ≡ far.Goes
  call_goes =
      ap (λ (x : CallThere K V). far_of x.stands) (the c here.call (sym comes.call_is ∙ here.call_is)) ∙ ap (λ (z : Seen). z.far) here.as_seen ∙ goes
    where
      the : (a b : CallThere K V) → ◌≡◌ {A = Option (CallThere K V)} (Some a) (Some b) → a ≡ b
      the a b e = cc e

  -- the call once all this is done
  abbrev d : CallThere K V
  d = (calls_after own c.map own comes.did m c comes.call_is).0

  d_is : call_of own w ≡ Some d
  d_is = ap (λ (x : Moment K V). call_of own x) (sym worked_is) ∙ (calls_after own c.map own comes.did m c comes.call_is).1

  d_on : IsOn c d
  d_on = (calls_after own c.map own comes.did m c comes.call_is).2.0

  d_comes : HasOutcomeOfKind d.call outcome
  d_comes = subst (λ (x : Call K V). HasOutcomeOfKind x outcome) (sym d_on.call) comes.comes

  d_works : outcome ≡ Waits → only_looks d.call ≡ false
  d_works waits = subst (λ (x : Call K V). only_looks x ≡ false) (sym d_on.call) (comes.works waits)

  d_waits : outcome ≡ Waits → list_any (may_wait_for same d w) w.calls ≡ true
  d_waits waits = subst (λ (x : Moment K V). list_any (may_wait_for same d x) x.calls ≡ true) worked_is
      (comes.waits waits d (calls_after own c.map own comes.did m c comes.call_is).1)

  d_short : outcome ≡ Refused Memory → d.is_short ≡ true
  d_short refused = comes.memory refused d (calls_after own c.map own comes.did m c comes.call_is).1

  pub never_busy : outcome ≡ Refused Busy → ⊥
  never_busy = not_busy d.call outcome d_comes

  -- where it stands then
  pub stands_then : (events : ℕ) (is_mapped is_closed is_alone : Bool) (slots : ℕ) (remains : List Remains) → is_mapped ≡ m.is_mapped → is_closed ≡ m.is_closed → remains ≡ m.remains
      → RefinesFor same hash terms (elsewhere events is_mapped is_closed is_alone w.there slots w.sheltered remains (come_to own outcome steps w)) new
  stands_then events is_mapped is_closed is_alone slots remains mapped closed alike =
      stands_elsewhere same hash terms (come_to own outcome steps w) new (subst (λ (x : Moment K V). RefinesFor same hash terms (come_to own outcome steps x) new) worked_is (comes.stands never_busy steps))
      events is_mapped is_closed is_alone w.there slots w.sheltered remains (mapped ∙ sym (mapped_stays (Some own) (option_map (λ x. x.map) (call_of own m)) effects m))
      (closed ∙ sym (closed_stays (Some own) (option_map (λ x. x.map) (call_of own m)) effects m)) refl (alike ∙ sym (remains_stay (Some own) (option_map (λ x. x.map) (call_of own m)) effects m))

  module _ (within : IfCall (λ x. IsInCase terms x (moments_from x.begun log) w outcome) (call_of own w)) where
    case_of : IsInCase terms d (moments_from d.begun log) w outcome
    case_of = subst (λ (o : Option (CallThere K V)). IfCall (λ x. IsInCase terms x (moments_from x.begun log) w outcome) o) d_is within

    pub goes_right : ByCall (λ x. Progresses terms x.stands x (moments_from x.begun log) w outcome) (call_of own w)
    goes_right = subst (λ (o : Option (CallThere K V)). ByCall (λ x. Progresses terms x.stands x (moments_from x.begun log) w outcome) o) (sym d_is)
        (progresses terms d (moments_from d.begun log) w d.stands (ap far_of d_on.stands ∙ call_goes) outcome (may_come terms d (moments_from d.begun log) w outcome d_comes d_short case_of))

  pub waits_so : IfCall (λ x. WaitsRight same outcome x w) (call_of own w)
  waits_so = subst (λ (o : Option (CallThere K V)). IfCall (λ x. WaitsRight same outcome x w) o) (sym d_is) (waits_right same w d outcome d_works d_waits)

  pub few_steps : sum_by weight effects ≤ steps
  few_steps = subst (λ (l : List Effect). sum_by weight l ≤ steps) (sym comes.follows) comes.few

  pub in_place : is_some (call_of own m) ≡ true
  in_place = ap is_some here.call_is

  pub stand_is : far_of (state_or (call_of own m)) ≡ far.Goes
  stand_is = ap (λ (o : Option (CallThere K V)). far_of (state_or o)) comes.call_is ∙ call_goes

-- of a call that was under way before it
module _ {K V S : Type 0} (same : K → K → Bool) (hash : K → ℕ) (terms : Terms) (log : List (Entry K V)) (own : List ℕ) (old : Scheduler K V S) (stands : RefinesFor same hash terms (moment log) old) (place : ℕ)
    (placed : Some place ≡ position (is_named own) old.calls) (goes : (here_at same hash terms (moment log) old stands own place placed).caller.stands ≡ far.Goes)
    (steps : ℕ) (outcome : Outcome V) (effects : List Effect) (new : Scheduler K V S) (comes : StepsHaveOutcome same hash terms own place (moment log) steps outcome [] effects new) where
  abbrev m : Moment K V
  m = moment log

  -- one step
  pub plays_step : (refuse : Bool) → IsInTurn same hash terms log (Step own refuse) old → steps ≡ 1 → PlaysOn same hash terms log (entry (Step own refuse) outcome steps effects) new
  plays_step refuse due one =
      let e = entry (Step own refuse) outcome steps effects in record {
        played = stands_then same hash terms log m own old stands place placed goes steps outcome effects new comes (m.events + 1) m.is_mapped m.is_closed (m.is_alone && is_alone_on e m) (slots_on outcome m.slots) m.remains refl refl refl;
        plays = λ within. plays same hash terms log (Step own refuse) new due e refl (in_turn (λ o. Continues terms log e) (is_some (call_of own m)) outcome (in_place same hash terms log m own old stands place placed goes steps outcome effects new comes) (goes_right same hash terms log m own old stands place placed goes steps outcome effects new comes within))
            (stands_then same hash terms log m own old stands place placed goes steps outcome effects new comes (m.events + 1) m.is_mapped m.is_closed (m.is_alone && is_alone_on e m) (slots_on outcome m.slots) m.remains refl refl refl);
        makes = makes_one K V own refuse (state_or (call_of own m)) (stand_is same hash terms log m own old stands place placed goes steps outcome effects new comes) steps one outcome (never_busy same hash terms log m own old stands place placed goes steps outcome effects new comes);
        does = few_steps same hash terms log m own old stands place placed goes steps outcome effects new comes;
        waits = waits_so same hash terms log m own old stands place placed goes steps outcome effects new comes;
        is_quiet = never_quiet outcome effects (never_busy same hash terms log m own old stands place placed goes steps outcome effects new comes);
      }

  -- as many as it may take
  pub plays_go : (refuse : Bool) → IsInTurn same hash terms log (Go own refuse) old → TakesUpTo most_steps steps outcome → PlaysOn same hash terms log (entry (Go own refuse) outcome steps effects) new
  plays_go refuse due takes =
      let e = entry (Go own refuse) outcome steps effects in record {
        played = stands_then same hash terms log m own old stands place placed goes steps outcome effects new comes (m.events + 1) m.is_mapped m.is_closed (m.is_alone && is_alone_on e m) (slots_on outcome m.slots) m.remains refl refl refl;
        plays = λ within. plays same hash terms log (Go own refuse) new due e refl (in_turn (λ o. Continues terms log e) (is_some (call_of own m)) outcome (in_place same hash terms log m own old stands place placed goes steps outcome effects new comes) (goes_right same hash terms log m own old stands place placed goes steps outcome effects new comes within))
            (stands_then same hash terms log m own old stands place placed goes steps outcome effects new comes (m.events + 1) m.is_mapped m.is_closed (m.is_alone && is_alone_on e m) (slots_on outcome m.slots) m.remains refl refl refl);
        makes = makes_many K V own refuse (state_or (call_of own m)) (stand_is same hash terms log m own old stands place placed goes steps outcome effects new comes) steps outcome takes (never_busy same hash terms log m own old stands place placed goes steps outcome effects new comes);
        does = few_steps same hash terms log m own old stands place placed goes steps outcome effects new comes;
        waits = waits_so same hash terms log m own old stands place placed goes steps outcome effects new comes;
        is_quiet = never_quiet outcome effects (never_busy same hash terms log m own old stands place placed goes steps outcome effects new comes);
      }
