-- An event of a call that goes on is refused for the length of a table only in its case.
use Rattle.std.specs.Prelude.{◌≡◌, ℕ, suc, Bool, List, Option, Some, None}
use Rattle.std.proofs.Common.{refl, ap, sym, subst, ◌∙◌}
use Rattle.run_schedules.specs.Given.SeizeWordsDeclared.fault.Fault.{Fault}
use Rattle.run_schedules.specs.Given.SeizeWordsDeclared.fault.Fault.TheVariants.{Capacity}
use Rattle.play_lists.specs.Given.TablesDeclared.node.Node.{Node}
use Rattle.play_stepping.specs.Given.RawDeclared.machines.progress.Progress.{Progress}
use Rattle.play_stepping.specs.Given.RawDeclared.machines.progress.Progress.TheVariants as progress
use Rattle.run_schedules.specs.Runs.Same.{is_same}
use Rattle.run_schedules.specs.declared.effect.Effect.{Effect}
use Rattle.run_schedules.specs.declared.event.Event.{Event}
use Rattle.run_schedules.specs.declared.outcome.Outcome.{Outcome}
use Rattle.run_schedules.specs.declared.outcome.Outcome.TheVariants.{Refused}
use Rattle.run_schedules.specs.Schedules.After.{moment, moments_from}
use Rattle.run_schedules.specs.Schedules.Beginning.{at_work}
use Rattle.run_schedules.specs.Schedules.Effects.{with_effects, worked}
use Rattle.run_schedules.specs.Schedules.Entry.{Entry, IfCall, acted_on, acting, caller_of}
use Rattle.run_schedules.specs.Schedules.Moment.{UnderWay as CallThere, Moment}
use Rattle.run_schedules.specs.Schedules.Terms.{Terms, shards_of}
use Rattle.run_schedules.specs.Schedules.Views.{call_of}
use Rattle.play_stepping.specs.Given.CallersRooms.{CallForRoom}
use Rattle.play_stepping.specs.Given.CallersTogether.{ForRoom}
use Rattle.play_lists.specs.Given.EffectsKnown.{Known, known}
use Rattle.play_stepping.proofs.Given.ChangesBegun.{effects_begun}
use Rattle.play_stepping.proofs.Given.MomentsAfter.{effects_after}
use Rattle.run_legal.proofs.CallChanges.{reads_shards}
use Rattle.run_legal.proofs.Given.LimitsCases.{room_shards, steps_in_case}
use Rattle.play_stepping.specs.Given.NamedSeen.{Seen, seen}
use Rattle.play_stepping.specs.Given.ExecutorDeclared.kind.CallKind.{CallKind}
use Rattle.play_stepping.proofs.Given.RowsLists.{both_some, found_alike}
use Rattle.play_stepping.specs.Given.SchedulerPlayed.{entry_of}
use Rattle.play_stepping.specs.Given.SchedulerDeclared.played.Played.{Played}
use Rattle.play_stepping.specs.Given.SchedulerDeclared.scheduler.Scheduler.{Scheduler}
use Rattle.play_stepping.specs.EventSteps.Stepping.{OutcomeIsInCase, IsInCase, IsStepped}
use Rattle.play_stepping.specs.Given.Says.{outcome_of}
use Rattle.play_stepping.proofs.EventSteps.AfterEffects.{calls_seen}
use Rattle.play_events.proofs.Events.OfCalls.Found.{mask_is}
use Rattle.play_events.proofs.Events.OfCalls.Steps.{HasCome, IsStep, as_told, did, follows, its_here, leads}
use Rattle.play_events.proofs.Events.OfCalls.Worth.{effects_say}
use Rattle.play_stepping.specs.Given.ExecutorIsThere.{held_by}
use Rattle.run_schedules.specs.Schedules.Transition.{past}
use Rattle.play_stepping.proofs.Given.General.{same_some as the}

-- what is told as a refusal was said as one
refused_said : {K V : Type 0} (by : Known) (kind : CallKind) (value : Option V) (said : Progress (Node K V)) (fault : Fault) → outcome_of by kind value said ≡ Refused fault → said ≡ progress.Refused fault
refused_said by kind value (progress.Refused other) fault is = (let same : other ≡ fault = cc is in ap (λ (f : Fault). progress.Refused f) same)
refused_said by kind value progress.Goes fault is = absurd (cc is)
refused_said by kind value progress.Waits fault is = absurd (cc is)
refused_said by kind value (progress.Gave node) fault is = absurd (cc is)
refused_said by kind value (progress.Unstored node) fault is = absurd (cc is)
refused_said by kind value (progress.Asks word) fault is = absurd (cc is)
refused_said by kind value progress.Ready fault is = absurd (cc is)
refused_said by kind value (progress.Pair word) fault is = absurd (cc is)
refused_said by kind value (progress.Done answer) fault is = absurd (cc is)

-- whatever else it comes to, there is nothing to say
pub in_case_where : {K V : Type 0} (terms : Terms) (c : CallThere K V) (moments : List (Moment K V)) (now : Moment K V) (o : Outcome V) → (o ≡ Refused Capacity → IsInCase terms c moments now (Refused Capacity)) → IsInCase terms c moments now o
in_case_where terms c moments now (Refused Capacity) so = so refl
in_case_where terms c moments now _ so = tt

pub if_call : {K V : Type 0} (P : CallThere K V → Type 0) (o : Option (CallThere K V)) → ((d : CallThere K V) → o ≡ Some d → P d) → IfCall P o
if_call P None so = tt
if_call P (Some d) so = so d refl

module _ {K V S : Type 0} (same : K → K → Bool) (hash : K → ℕ) (name : ℕ → List ℕ) (terms : Terms) (log : List (Entry K V)) (event : Event K V) (beginning : Moment K V)
    (map i : ℕ) (c : CallThere K V) (place : ℕ) (c_is : call_of (name i) beginning ≡ Some c)
    (played : Played V) (n : ℕ) (mid : List Effect) (p new : Scheduler K V S) (come : HasCome same hash name terms log event beginning map i c place n mid p)
    (step : IsStepped same hash place played.outcome mid played.effects.items p new) where
  abbrev e : Entry K V
  e = entry_of event played

  abbrev its : IsStep same hash place mid played.effects.items p new
  its = as_told same hash step

  abbrev here : come.scene.calls map i ≡ Some come.under
  here = its_here same hash name terms log event beginning map i c place n mid played.effects.items p new come its

  abbrev its_did : List Effect
  its_did = did same hash name terms log event beginning map i c place n mid played.effects.items p new come its

  abbrev own : (d : CallThere K V) × (call_of (name i) come.now ≡ Some d)
  own = let there = come.midst.calls.whole.all.shown.calls map i come.under here in (there.0, there.1)

  -- the moment after what it did
  abbrev v : Moment K V
  v = with_effects (Some (name i)) (Some map) its_did come.now

  all_did : v ≡ with_effects (Some (name i)) (Some map) played.effects.items beginning
  all_did =
      ap (λ (x : Moment K V). with_effects (Some (name i)) (Some map) its_did x) come.midst.worked ∙ sym (effects_after (Some (name i)) (Some map) mid its_did beginning)
      ∙ ap (λ (fs : List Effect). with_effects (Some (name i)) (Some map) fs beginning) (sym (follows same hash name terms log event beginning map i c place n mid played.effects.items p new come its))

  module _ (begins : at_work e (moment log) ≡ beginning) (acted : acted_on event beginning ≡ Some map) where
    worked_is : worked e (moment log) ≡ v
    worked_is =
        ap (λ (b : Moment K V). with_effects (caller_of event) (acted_on event b) played.effects.items b) begins
        ∙ ap (λ (o : Option ℕ). with_effects (caller_of event) o played.effects.items beginning) acted
        ∙ ap (λ (who : Option (List ℕ)). with_effects who (Some map) played.effects.items beginning) come.midst.of_call ∙ sym all_did

    -- its call is then as it was before the last step
    module _ (d : CallThere K V) (d_is : call_of (name i) v ≡ Some d) where
      begun_then : d.begun ≡ own.0.begun
      begun_then =
          let kept = effects_begun (name i) map (name i) its_did come.now own.0 own.1 in ap (λ (x : CallThere K V). x.begun) (the d kept.0 (sym d_is ∙ kept.1)) ∙ kept.2

      call_then : d.call ≡ own.0.call
      call_then =
          let was = effects_say (Some (name i)) (Some map) its_did come.now (name i) d d_is in
          let one = the was.0 own.0 (sym was.1 ∙ own.1) in sym was.2 ∙ ap (λ (x : CallThere K V). x.call) one

      map_then : d.map ≡ map
      map_then =
          let alike = found_alike seen seen v.calls come.now.calls (calls_seen (name i) (Some map) its_did come.now) (λ (z : Seen). is_same z.name (name i)) in
          let was = both_some seen seen (call_of (name i) come.now) (call_of (name i) v) (sym alike) d d_is in
          ap (λ (z : Seen). z.map) (sym was.2 ∙ ap seen (the was.0 own.0 (sym was.1 ∙ own.1))) ∙ (come.midst.calls.whole.all.shown.calls map i come.under here).2

      mask : (r : CallForRoom) → come.under ≡ ForRoom r → suc r.reserve.setting.mask ≡ shards_of terms
      mask r is =
          let led = leads same hash name terms log event beginning map i c place n mid played.effects.items p new come its in
          let to = led map come.under here in
          room_shards same (λ map. hash) come.scene (held_by p.logged.executor) come.shown.is_at.held map i r (here ∙ ap Some is) to.0 to.2 (shards_of terms)
          (mask_is same hash name terms log event beginning map i c place n mid p come to.0 to.2)

      capacity_then : step.said ≡ progress.Refused Capacity → IsInCase terms d (moments_from d.begun log) v (Refused Capacity)
      capacity_then is =
          let led = leads same hash name terms log event beginning map i c place n mid played.effects.items p new come its in
          steps_in_case same (λ map. hash) name (past log) come.now (known p.logged.notes) come.scene (held_by p.logged.executor) (held_by new.logged.executor) come.shown.is_at.held come.midst.calls.whole map i step.said led come.midst.calls.limits
          come.midst.calls.finding.capacities come.midst.calls.purposes terms own.0 own.1 d call_then map_then begun_then come.under here mask
          (reads_shards K V same (λ map. hash) name log come.now (known p.logged.notes) come.scene (held_by p.logged.executor) (held_by new.logged.executor) come.shown.is_at.held come.midst.calls.whole come.midst.calls.counters map i come.under here
          step.said led come.midst.unadded) is

      its_case : IsInCase terms d (moments_from d.begun log) v played.outcome
      its_case =
          in_case_where terms d (moments_from d.begun log) v played.outcome (λ is. capacity_then
          (refused_said (known new.logged.notes) step.caller.kind step.caller.value step.said Capacity (sym step.outcome_is ∙ is)))

    -- So the event comes in its case.
    pub comes_in_case : OutcomeIsInCase terms log e
    comes_in_case =
        subst (λ (w : Moment K V). IfCall (λ (d : CallThere K V). IsInCase terms d (moments_from d.begun log) w played.outcome) (acting (caller_of event) w)) (sym worked_is)
        (subst (λ (who : Option (List ℕ)). IfCall (λ (d : CallThere K V). IsInCase terms d (moments_from d.begun log) v played.outcome) (acting who v)) (sym come.midst.of_call)
        (if_call (λ (d : CallThere K V). IsInCase terms d (moments_from d.begun log) v played.outcome) (call_of (name i) v) its_case))
