-- What one step of a call that goes on comes to.
use Rattle.std.specs.Prelude.{◌≡◌, ◌⊎◌, ◌+◌, ℕ, Bool, true, false, List, [], filter, find, map, not, position, slice_get, slice_set, Option, Some, None, if◌then◌else◌}
use Rattle.std.specs.List.{list_any, remove}
use Rattle.std.proofs.Common.{refl, sym, ap, subst, ◌∙◌, inl, inr}
use Rattle.seize_words.specs.declared.fault.Fault.{Fault}
use Rattle.seize_words.specs.declared.fault.Fault.TheVariants.{Busy, Memory}
use Rattle.papaya_raw.specs.Given.TablesDeclared.node.Node.{Node}
use Rattle.papaya_raw.specs.declared.machines.machine.Machine.{Machine}
use Rattle.papaya_raw.specs.declared.machines.progress.Progress.{Progress}
use Rattle.papaya_raw.specs.declared.machines.progress.Progress.TheVariants as progress
use Rattle.run_schedules.specs.Runs.Same.{is_same}
use Rattle.run_schedules.specs.declared.call.Call.{Call}
use Rattle.run_schedules.specs.declared.call.Call.TheVariants.{On}
use Rattle.run_schedules.specs.declared.effect.Effect.{Effect}
use Rattle.run_schedules.specs.declared.outcome.Outcome.{Outcome}
use Rattle.run_schedules.specs.declared.outcome.Outcome.TheVariants.{Refused, Waits}
use Rattle.run_schedules.specs.Schedules.After.{asks_on, with_outcome}
use Rattle.run_schedules.specs.Schedules.Effects.{with_effects}
use Rattle.run_schedules.specs.Schedules.Entry.{ends_call}
use Rattle.run_schedules.specs.Schedules.Growing.{only_looks}
use Rattle.run_schedules.specs.Schedules.Moment.{CallState, Going, Asking, Told, IsReady, UnderWay as CallThere, Moment}
use Rattle.run_schedules.specs.Schedules.Terms.{Terms}
use Rattle.run_schedules.specs.Schedules.Views.{call_of}
use Rattle.run_schedules.specs.Schedules.Waiting.{may_wait_for}
use Rattle.owner_whole.specs.Given.CallersTogether.{UnderWay}
use Rattle.owner_whole.specs.Given.FinishesMachines.{ContinuesAs, machine_of}
use Rattle.run_executor.specs.Given.EffectsKnown.{Known, known}
use Rattle.run_executor.specs.Given.EffectsEffects.{known_after}
use Rattle.run_executor.specs.Given.EffectsDeclared.acting.Acting.TheVariants as acts
use Rattle.play_scheduler.specs.Given.FollowsCalling.{come_to}
use Rattle.play_scheduler.proofs.Given.FollowsCalling.{apart_back}
use Rattle.run_executor.specs.Given.HandsCalling.{AsksJust}
use Rattle.play_scheduler.specs.Given.LoggedCalling.{CallContinues, step_did}
use Rattle.play_scheduler.specs.Given.LoggedShown.{IsShown}
use Rattle.play_scheduler.specs.Given.LoggedDeclared.logged.Logged.{Logged}
use Rattle.run_executor.proofs.Given.MomentsCalls.{calls_come_to_whole}
use Rattle.play_scheduler.proofs.Given.KeptStays.{calls_come_to_kept}
use Rattle.play_scheduler.proofs.Given.LoggedCounted.{counted_calls}
use Rattle.play_scheduler.proofs.Given.OwesGrown.Calls.{step_keeps_grown}
use Rattle.play_scheduler.proofs.Given.PromisesWeights.{operations_are_single}
use Rattle.run_executor.specs.Named.Machines.{IsAsFar}
use Rattle.play_scheduler.specs.Played.{AsFar, RefinesFor}
use Rattle.run_executor.specs.Named.Seen.{Seen, far_of, is_named, seen, seen_of}
use Rattle.play_stepping.specs.EventSteps.Stepping.{HasOutcomeOfKind, StepsHaveOutcome, GoesAt, IsStepped}
use Rattle.run_sweeps.specs.Says.{caller_then, callers_then, far_then, outcome_of}
use Rattle.run_executor.specs.Named.Telling.{continues, kept}
use Rattle.run_executor.specs.declared.caller.NamedCaller.{NamedCaller}
use Rattle.run_executor.specs.declared.caller.Stands.{Stands as HowFar}
use Rattle.run_executor.specs.declared.caller.Stands.TheVariants as far
use Rattle.run_executor.specs.declared.kind.CallKind.{CallKind}
use Rattle.play_scheduler.specs.declared.scheduler.Scheduler.{Scheduler}
use Rattle.play_stepping.proofs.EventSteps.AfterEffects.{calls_seen, closed_stays, mapped_stays}
use Rattle.play_stepping.proofs.EventSteps.AnySays.{any_says}
use Rattle.run_sweeps.proofs.Quiet.LookSays.{never_waits}
use Rattle.play_scheduler.proofs.Here.{Here, here_at}
use Rattle.play_scheduler.proofs.Given.RowsLists.{changed_at, removed_at, set_get, set_position, set_seen}
use Rattle.play_scheduler.proofs.RanOn.{maps_named, there_stays}
use Rattle.play_stepping.proofs.EventSteps.StepSays.{Says}
use Rattle.play_stepping.proofs.EventSteps.SteppedTo.{going_on, has_gone, here_then, name_is, next, none_named, s2}
use Rattle.play_stepping.proofs.EventSteps.AnyWaits.{any_quiet, any_waits_for}
use Rattle.play_scheduler.specs.Given.ScenesScene.{Scene}
use Rattle.run_executor.specs.Given.ScenesStepping.{StepLeads, StepsFrom, has_ended}
use Rattle.run_executor.specs.Executing.IsThere.{held_by}
use Rattle.seize_words.proofs.General.{true_or_false as ended_cases, same_some as the}

module _ {K V : Type 0} (by : Known) (its : CallKind) (value : Option V) where
  -- what a caller keeps
  abbrev pub value_then : Progress (Node K V) → Option V
  value_then (progress.Unstored node) = kept its node value
  value_then _ = value

  -- a call that has not ended goes on by itself just where it says so
  far_goes : (said : Progress (Node K V)) → continues (outcome_of by its value said) ≡ true → far_then by said ≡ far.Goes
  far_goes progress.Goes e = refl
  far_goes (progress.Gave node) e = refl
  far_goes (progress.Unstored node) e = refl
  far_goes progress.Waits e = refl
  far_goes (progress.Asks word) e = absurd (cc e)
  far_goes progress.Ready e = absurd (cc e)
  far_goes (progress.Pair word) e = absurd (cc e)
  far_goes (progress.Done said) e = refl
  far_goes (progress.Refused fault) e = refl

  pub going_not_ended : (said : Progress (Node K V)) → continues (outcome_of by its value said) ≡ true → has_ended said ≡ false
  going_not_ended progress.Goes e = refl
  going_not_ended (progress.Gave node) e = refl
  going_not_ended (progress.Unstored node) e = refl
  going_not_ended progress.Waits e = refl
  going_not_ended (progress.Asks word) e = refl
  going_not_ended progress.Ready e = refl
  going_not_ended (progress.Pair word) e = refl
  going_not_ended (progress.Done said) e = absurd (cc e)
  going_not_ended (progress.Refused fault) e = absurd (cc e)

  -- the moment has the call ended just where the machine has
  pub ends_as : (said : Progress (Node K V)) → (outcome_of by its value said ≡ Refused Busy → ⊥) → ends_call (outcome_of by its value said) ≡ has_ended said
  ends_as progress.Goes never = refl
  ends_as (progress.Gave node) never = refl
  ends_as (progress.Unstored node) never = refl
  ends_as progress.Waits never = refl
  ends_as (progress.Asks word) never = refl
  ends_as progress.Ready never = refl
  ends_as (progress.Pair word) never = refl
  ends_as (progress.Done said) never = refl
  ends_as (progress.Refused Busy) never = absurd (never refl)
  ends_as (progress.Refused fault) never = refl

  -- what is refused for want of memory has said so
  said_short : (said : Progress (Node K V)) → outcome_of by its value said ≡ Refused Memory → said ≡ progress.Refused Memory
  said_short (progress.Refused fault) e = let for_memory : fault ≡ Memory = cc e in ap (λ (x : Fault). progress.Refused x) for_memory
  said_short progress.Goes e = absurd (cc e)
  said_short (progress.Gave node) e = absurd (cc e)
  said_short (progress.Unstored node) e = absurd (cc e)
  said_short progress.Waits e = absurd (cc e)
  said_short (progress.Asks word) e = absurd (cc e)
  said_short progress.Ready e = absurd (cc e)
  said_short (progress.Pair word) e = absurd (cc e)
  said_short (progress.Done said) e = absurd (cc e)

  -- and what waits, so
  said_waits : (said : Progress (Node K V)) → outcome_of by its value said ≡ Waits → said ≡ progress.Waits
  said_waits progress.Waits e = refl
  said_waits progress.Goes e = absurd (cc e)
  said_waits (progress.Gave node) e = absurd (cc e)
  said_waits (progress.Unstored node) e = absurd (cc e)
  said_waits (progress.Asks word) e = absurd (cc e)
  said_waits progress.Ready e = absurd (cc e)
  said_waits (progress.Pair word) e = absurd (cc e)
  said_waits (progress.Done said) e = absurd (cc e)
  said_waits (progress.Refused fault) e = absurd (cc e)

  -- what is seen of it then
  asks_seen : (question : Option ℕ) (c : CallThere K V) (stand : CallState) → far_of stand ≡ far.Goes → seen (asks_on question c stand) ≡ record (seen c) { far = far.Asks question }
  asks_seen question c (Asking other) e = absurd (cc e)
  asks_seen question c Going e = refl
  asks_seen question c Told e = refl
  asks_seen question c IsReady e = absurd (cc e)

  comes_seen : (call : Call K V) (said : Progress (Node K V)) → HasOutcomeOfKind call (outcome_of by its value said) → has_ended said ≡ false → (c : CallThere K V) → far_of c.stands ≡ far.Goes
      → seen (with_outcome (outcome_of by its value said) c) ≡ record (seen c) { far = far_then by said }
  comes_seen call progress.Goes comes on c goes = refl
  comes_seen call (progress.Gave node) comes on c goes = refl
  comes_seen call (progress.Unstored node) comes on c goes = refl
  comes_seen call progress.Waits comes on c goes = refl
  comes_seen call (progress.Asks word) comes on c goes = asks_seen _ c c.stands goes
  comes_seen call progress.Ready comes on c goes = refl
  comes_seen (On one) (progress.Pair word) comes on c goes = absurd comes
  comes_seen _ (progress.Pair word) comes on c goes = absurd comes
  comes_seen call (progress.Done said) comes on c goes = absurd (cc on)
  comes_seen call (progress.Refused fault) comes on c goes = absurd (cc on)

module _ {K V : Type 0} where
  -- the caller then, by what it keeps and how far it is
  pub caller_as : (by : Known) (d : NamedCaller V) (said : Progress (Node K V)) → caller_then by d said ≡ record d { stands = far_then by said; value = value_then by d.kind d.value said }
  caller_as by d (progress.Unstored node) = refl
  caller_as by d _ = refl

  -- a machine that has not ended goes on, and one that has does not
  pub goes_next : (machine : Machine K V K) (said : Progress (Node K V)) (after : Option (UnderWay K V K)) → ContinuesAs machine said after → has_ended said ≡ false → (x : UnderWay K V K) × (after ≡ Some x)
  goes_next machine (progress.Done answer) after is on = absurd (cc on)
  goes_next machine (progress.Refused fault) after is on = absurd (cc on)
  goes_next machine _ after is on = (is.0, is.1)

  pub over_next : (machine : Machine K V K) (said : Progress (Node K V)) (after : Option (UnderWay K V K)) → ContinuesAs machine said after → has_ended said ≡ true → after ≡ None
  over_next machine (progress.Done answer) after is over = is
  over_next machine (progress.Refused fault) after is over = is
  over_next machine _ after is over = absurd (cc over)

module _ {K V S : Type 0} (same : K → K → Bool) (hash : K → ℕ) (terms : Terms) (m : Moment K V) (p : Scheduler K V S) (stands : RefinesFor same hash terms m p) (own : List ℕ) (place : ℕ)
    (at : GoesAt own place p) (said : Progress (Node K V)) (new : Logged K V S) (before after : List Effect) where
  abbrev here : Here same hash terms m p stands own place
  here = here_at same hash terms m p stands own place at.0

  abbrev d : NamedCaller V
  d = here.caller

  abbrev c : CallThere K V
  c = here.call

  abbrev calls : List (NamedCaller V)
  calls = p.calls

  goes : d.stands ≡ far.Goes
  goes = ap (λ (x : NamedCaller V). x.stands) (the d at.1 (sym here.at ∙ at.2)) ∙ at.3

  map_is : c.map ≡ d.map
  map_is = ap (λ (z : Seen). z.map) here.as_seen

  module _ (leads_so : CallContinues same hash stands.name m stands.scene d.number d.map said before after p.logged new) where
    abbrev leads : StepLeads same (λ map. hash) d.number said stands.scene (held_by p.logged.executor) (held_by new.executor)
    leads = (leads_so here.way.0 here.way.1).0

    abbrev did : List Effect
    did = step_did same hash stands.name m stands.scene d.number d.map p.logged new

    abbrev w : Moment K V
    w = with_effects (Some own) (Some d.map) did m

    abbrev then_at : Scene K V
    then_at = s2 AsFar AsFar own (λ x apart machine is. is) same hash terms m p stands place here said new leads

    its_name : stands.name d.number ≡ own
    its_name = name_is AsFar AsFar own (λ x apart machine is. is) same hash terms m p stands place here said new leads

    shown : IsShown same hash stands.name w new then_at
    shown = subst (λ (x : List ℕ). IsShown same hash stands.name (with_effects (Some x) (Some d.map) did m) new then_at) its_name (leads_so here.way.0 here.way.1).3

    its_call : call_of (stands.name d.number) m ≡ Some c
    its_call = ap (λ (x : List ℕ). call_of x m) its_name ∙ here.call_is

    abbrev by : Known
    by = known_after (acts.Call d.number d.map) new.executor.memory.changed (known p.logged.notes)

    noted : known new.notes ≡ by
    noted = (leads_so here.way.0 here.way.1).2

    abbrev outcome : Outcome V
    outcome = outcome_of by d.kind d.value said

    says : Says same (λ map. hash) stands.name m (known p.logged.notes) stands.scene (held_by p.logged.executor) (held_by new.executor) stands.shown.is_at.held stands.shown.shows d.map d.number c its_call d.kind (ap (λ (z : Seen). z.kind) here.as_seen)
        d.value here.way.0 here.way.1 said leads
    says =
        any_says same (λ map. hash) stands.name m (known p.logged.notes) stands.scene (held_by p.logged.executor) (held_by new.executor) stands.shown.is_at.held stands.shown.shows d.map d.number c its_call d.kind (ap (λ (z : Seen). z.kind) here.as_seen)
        d.value said leads here.way.0 here.way.1 (subst (λ (h : HowFar). IsAsFar d.kind h (machine_of here.way.0)) goes here.way.4.0) here.way.4.1

    abbrev then_next : Option (UnderWay K V K)
    then_next = next AsFar AsFar own (λ x apart machine is. is) same hash terms m p stands place here said new leads

    -- its caller then
    abbrev gone_on : NamedCaller V
    gone_on = record d { stands = far_then by said; value = value_then by d.kind d.value said }

    alike : map seen w.calls ≡ map seen_of calls
    alike = calls_seen own (Some d.map) did m ∙ stands.calls.listed

    module _ (callers : List (NamedCaller V)) (items : callers ≡ callers_then by place d said calls) where
      abbrev p2 : Scheduler K V S
      p2 = record p { logged = new; calls = callers }

      items_on : has_ended said ≡ false → callers ≡ slice_set calls place gone_on
      items_on on = items ∙ ap (λ (b : Bool). if b then remove calls place else slice_set calls place (caller_then by d said)) on ∙ ap (λ (x : NamedCaller V). slice_set calls place x) (caller_as by d said)

      items_gone : has_ended said ≡ true → callers ≡ remove calls place
      items_gone over = items ∙ ap (λ (b : Bool). if b then remove calls place else slice_set calls place (caller_then by d said)) over

      -- as it goes on by itself, before its outcome is told
      midst : continues outcome ≡ true → RefinesFor same hash terms w p2
      midst on =
          let more = goes_next (leads d.map here.way.0 here.way.1).1 said then_next (leads d.map here.way.0 here.way.1).4.goes_on (going_not_ended by d.kind d.value said on) in
          going_on AsFar AsFar own (λ x apart machine is. is) same hash terms m p stands place here said new leads w shown (there_stays (Some own) (Some d.map) did m) (mapped_stays (Some own) (Some d.map) did m)
          (closed_stays (Some own) (Some d.map) did m) (maps_named (Some own) (Some d.map) did m) more.0 more.1 (far_then by said) (value_then by d.kind d.value said) (says.far more.0 more.1, says.room more.0 more.1)
          (alike ∙ sym (set_seen seen_of calls place d gone_on here.at (ap (λ (h : HowFar). record (seen_of d) { far = h }) (far_goes by d.kind d.value said on ∙ sym goes))))
          callers (items_on (going_not_ended by d.kind d.value said on))

      going : continues outcome ≡ true → GoesAt own place p2
      going on =
          let set = items_on (going_not_ended by d.kind d.value said on) in (
            at.0 ∙ sym (ap (λ (l : List (NamedCaller V)). position (is_named own) l) set ∙ set_position (is_named own) calls place d gone_on here.at refl),
            gone_on,
            ap (λ (l : List (NamedCaller V)). slice_get l place) set ∙ set_get calls place d gone_on here.at,
            far_goes by d.kind d.value said on,
          )

      module _ (never : outcome ≡ Refused Busy → ⊥) (counted : ℕ) where
        abbrev told : Moment K V
        told = come_to own outcome counted w

        -- the moment at which it has come to that
        shown_told : (ends_call outcome ≡ true → has_ended said ≡ true) → IsShown same hash stands.name told new then_at
        shown_told ended = record {
          is_at = shown.is_at;
          shows = calls_come_to_whole K V same stands.name w (known new.notes) then_at shown.shows own outcome counted
              (λ e. none_named AsFar AsFar own (λ x apart machine is. is) same hash terms m p stands place here said new leads (over_next (leads d.map here.way.0 here.way.1).1 said then_next (leads d.map here.way.0 here.way.1).4.goes_on (ended e))) just;
          kept = calls_come_to_kept K V same stands.name w (known new.notes) then_at shown.shows shown.kept own outcome counted
              (λ e. none_named AsFar AsFar own (λ x apart machine is. is) same hash terms m p stands place here said new leads (over_next (leads d.map here.way.0 here.way.1).1 said then_next (leads d.map here.way.0 here.way.1).4.goes_on (ended e)));
          counted = counted_calls new w (come_to own outcome counted w) then_at shown.counted refl refl refl;
        }
          where
            -- no other call has its name
            just : (n j : ℕ) (x : UnderWay K V K) → then_at.calls n j ≡ Some x → is_same (stands.name j) own ≡ true → AsksJust (known new.notes) x outcome
            just n j x is named_so = subst (λ (k : Known). AsksJust k x outcome) (sym noted) (of (ended_cases (has_ended said)))
              where
                its : (y : UnderWay K V K) → then_at.calls d.map d.number ≡ Some y → x ≡ y
                its y here_y =
                    let two = shown.shows.all.asked.apart n j d.map d.number x y is here_y (ap (λ (l : List ℕ). is_same (stands.name j) l) its_name ∙ named_so) in
                    the x y (sym is ∙ ap (λ (a : ℕ). then_at.calls a j) two.0 ∙ ap (λ (a : ℕ). then_at.calls d.map a) two.1 ∙ here_y)

                of : (has_ended said ≡ true) ⊎ (has_ended said ≡ false) → AsksJust by x outcome
                of (inl over) = absurd (
                    let no = none_named AsFar AsFar own (λ x apart machine is. is) same hash terms m p stands place here said new leads (over_next (leads d.map here.way.0 here.way.1).1 said then_next (leads d.map here.way.0 here.way.1).4.goes_on over) n j x is in
                    let a = apart_back own (stands.name j) no in cc (a, named_so)
                    )
                of (inr on) =
                    let more = goes_next (leads d.map here.way.0 here.way.1).1 said then_next (leads d.map here.way.0 here.way.1).4.goes_on on in
                    subst (λ (y : UnderWay K V K). AsksJust by y outcome) (sym (its more.0 (here_then AsFar AsFar own (λ x apart machine is. is) same hash terms m p stands place here said new leads ∙ more.1))) (says.asks more.0 more.1)

        stands_told : RefinesFor same hash terms told p2
        stands_told = of (ended_cases (has_ended said))
          where
            ends_so : (b : Bool) → has_ended said ≡ b → ends_call outcome ≡ b
            ends_so b e = ends_as by d.kind d.value said never ∙ e

            ended : ends_call outcome ≡ true → has_ended said ≡ true
            ended e = sym (ends_as by d.kind d.value said never) ∙ e

            change : CallThere K V → CallThere K V
            change x = with_outcome outcome (record x { steps = x.steps + counted })

            branches : Bool → List (CallThere K V)
            branches b = if b then filter (λ x. not (is_same x.caller own)) w.calls else map (λ x. if is_same x.caller own then change x else x) w.calls

            listed_on : has_ended said ≡ false → map seen told.calls ≡ map seen_of (slice_set calls place gone_on)
            listed_on on =
                ap (λ (b : Bool). map seen (branches b)) (ends_so false on)
                ∙ changed_at seen seen_of (λ (z : Seen). is_same z.name own) change gone_on w.calls calls alike (stands.calls.once own) here.any so
                ∙ ap (λ (k : ℕ). map seen_of (slice_set calls k gone_on)) (sym here.first)
              where
                so : (x : CallThere K V) (y : NamedCaller V) → find (is_named own) calls ≡ Some y → seen x ≡ seen_of y → seen (change x) ≡ seen_of gone_on
                so x y found it =
                    let same_one : y ≡ d = (let h = sym found ∙ here.found in the y d h) in
                    let seen_x : seen x ≡ seen_of d = it ∙ ap seen_of same_one in
                    comes_seen by d.kind d.value c.call said says.comes on (record x { steps = x.steps + counted }) (ap (λ (z : Seen). z.far) seen_x ∙ goes)
                    ∙ ap (λ (z : Seen). record z { far = far_then by said }) seen_x

            listed_gone : has_ended said ≡ true → map seen told.calls ≡ map seen_of (remove calls place)
            listed_gone over =
                ap (λ (b : Bool). map seen (branches b)) (ends_so true over)
                ∙ removed_at seen seen_of (λ (z : Seen). is_same z.name own) w.calls calls alike (stands.calls.once own) here.any
                ∙ ap (λ (k : ℕ). map seen_of (remove calls k)) (sym here.first)

            of : (has_ended said ≡ true) ⊎ (has_ended said ≡ false) → RefinesFor same hash terms told p2
            of (inl over) =
                has_gone AsFar AsFar own (λ x apart machine is. is) same hash terms m p stands place here said new leads told (shown_told ended) (there_stays (Some own) (Some d.map) did m) (mapped_stays (Some own) (Some d.map) did m)
                (closed_stays (Some own) (Some d.map) did m) (maps_named (Some own) (Some d.map) did m)
                (over_next (leads d.map here.way.0 here.way.1).1 said then_next (leads d.map here.way.0 here.way.1).4.goes_on over) (listed_gone over) callers (items_gone over)
            of (inr on) =
                let more = goes_next (leads d.map here.way.0 here.way.1).1 said then_next (leads d.map here.way.0 here.way.1).4.goes_on on in
                going_on AsFar AsFar own (λ x apart machine is. is) same hash terms m p stands place here said new leads told (shown_told ended) (there_stays (Some own) (Some d.map) did m) (mapped_stays (Some own) (Some d.map) did m)
                (closed_stays (Some own) (Some d.map) did m) (maps_named (Some own) (Some d.map) did m) more.0 more.1 (far_then by said) (value_then by d.kind d.value said) (says.far more.0 more.1, says.room more.0 more.1)
                (listed_on on) callers (items_on on)

      pub one_comes : StepsHaveOutcome same hash terms own place m 1 outcome before after p2
      one_comes = record {
        call = c;
        call_is = here.call_is;
        did = did;
        follows = (leads_so here.way.0 here.way.1).1;
        few = (operations_are_single (acts.Call d.number d.map) (known p.logged.notes) new.executor.memory.changed).0;
        comes = says.comes;
        works = λ waits. by_looking (only_looks c.call) refl waits;
        waits = λ waits x x_is. by_waits (said_waits by d.kind d.value said waits) x x_is;
        memory = λ refused x x_is.
            (step_keeps_grown same (λ map. hash) stands.name m (known p.logged.notes) stands.scene (held_by p.logged.executor) (held_by new.executor) stands.shown.is_at.held stands.shown.shows stands.shown.kept.short stands.shown.kept.grown
            d.map d.number here.way.0 here.way.1 said leads).1 (said_short by d.kind d.value said refused) x
            (subst (λ (l : List ℕ). call_of l (with_effects (Some l) (Some d.map) did m) ≡ Some x) (sym its_name)
            (subst (λ (k : ℕ). call_of own (with_effects (Some own) (Some k) did m) ≡ Some x) map_is x_is));
        goes = λ on. (subst (λ (x : ℕ). RefinesFor same hash terms (with_effects (Some own) (Some x) did m) p2) (sym map_is) (midst on), going on);
        stands = λ never counted. subst (λ (x : ℕ). RefinesFor same hash terms (come_to own outcome counted (with_effects (Some own) (Some x) did m)) p2) (sym map_is) (stands_told never counted);
      }
        where
          -- one that only looks never waits
          by_looking : (looks : Bool) → only_looks c.call ≡ looks → outcome ≡ Waits → only_looks c.call ≡ false
          by_looking false e waits = e
          by_looking true e waits = absurd (never_waits same (leads d.map here.way.0 here.way.1).0.hash (held_by p.logged.executor) (held_by new.executor) (leads d.map here.way.0 here.way.1).1 said (machine_of here.way.0)
              (stands.shown.kept.looking d.map d.number here.way.0 here.way.1 c its_call e) (leads d.map here.way.0 here.way.1).3 (said_waits by d.kind d.value said waits))

          -- one that waits has done nothing, and waits for one that it may wait for
          by_waits : said ≡ progress.Waits → (x : CallThere K V) → call_of own (with_effects (Some own) (Some c.map) did m) ≡ Some x
              → list_any (may_wait_for same x (with_effects (Some own) (Some c.map) did m)) (with_effects (Some own) (Some c.map) did m).calls ≡ true
          by_waits waits x x_is = subst Right (sym nothing) right x x_is
            where
              Right : List Effect → Type 0
              Right l =
                  (y : CallThere K V) → call_of own (with_effects (Some own) (Some c.map) l m) ≡ Some y
                  → list_any (may_wait_for same y (with_effects (Some own) (Some c.map) l m)) (with_effects (Some own) (Some c.map) l m).calls ≡ true

              its_step : StepsFrom same hash (machine_of here.way.0) (held_by p.logged.executor) (held_by new.executor) (leads d.map here.way.0 here.way.1).1 progress.Waits
              its_step =
                  let to = leads d.map here.way.0 here.way.1 in
                  subst (λ (h : K → ℕ). StepsFrom same h (machine_of here.way.0) (held_by p.logged.executor) (held_by new.executor) to.1 progress.Waits) (stands.shown.is_at.held.hashes d.map to.0 to.2)
                  (subst (λ (y : Progress (Node K V)). StepsFrom same to.0.hash (machine_of here.way.0) (held_by p.logged.executor) (held_by new.executor) to.1 y) waits to.3)

              nothing : did ≡ []
              nothing = any_quiet same hash terms m p stands own d.map d.number here.way.0 here.way.1 its_name (held_by new.executor) (leads d.map here.way.0 here.way.1).1 its_step c here.call_is

              right : Right []
              right y y_is = any_waits_for same hash terms m p stands own d.map d.number here.way.0 here.way.1 its_name (held_by new.executor) (leads d.map here.way.0 here.way.1).1 its_step y y_is

module _ {K V S : Type 0} (same : K → K → Bool) (hash : K → ℕ) (terms : Terms) (m : Moment K V) (p new : Scheduler K V S) (stands : RefinesFor same hash terms m p) (own : List ℕ) (place : ℕ)
    (at : GoesAt own place p) (outcome : Outcome V) (before after : List Effect) (step : IsStepped same hash place outcome before after p new) where
  abbrev its : Here same hash terms m p stands own place
  its = here_at same hash terms m p stands own place at.0

  caller_is : step.caller ≡ its.caller
  caller_is = the step.caller its.caller (sym step.at ∙ its.at)

  leads_is : CallContinues same hash stands.name m stands.scene its.caller.number its.caller.map step.said before after p.logged new.logged
  leads_is = subst (λ (x : NamedCaller V). CallContinues same hash stands.name m stands.scene x.number x.map step.said before after p.logged new.logged) caller_is
      (step.leads stands.name m stands.scene stands.shown)

  abbrev then_known : Known
  then_known = known_after (acts.Call its.caller.number its.caller.map) new.logged.executor.memory.changed (known p.logged.notes)

  known_is : known new.logged.notes ≡ then_known
  known_is = (leads_is its.way.0 its.way.1).2

  outcome_so : outcome_of then_known its.caller.kind its.caller.value step.said ≡ outcome
  outcome_so = ap (λ (k : Known). outcome_of k its.caller.kind its.caller.value step.said) (sym known_is)
      ∙ ap (λ (x : NamedCaller V). outcome_of (known new.logged.notes) x.kind x.value step.said) (sym caller_is) ∙ sym step.outcome_is

  items_so : new.calls ≡ callers_then then_known place its.caller step.said p.calls
  items_so = step.calls ∙ ap (λ (x : NamedCaller V). callers_then (known new.logged.notes) place x step.said p.calls) caller_is
      ∙ ap (λ (k : Known). callers_then k place its.caller step.said p.calls) known_is

  pub step_comes : StepsHaveOutcome same hash terms own place m 1 outcome before after new
  step_comes =
      subst (λ (x : Scheduler K V S). StepsHaveOutcome same hash terms own place m 1 outcome before after x) (sym step.rest)
      (subst (λ (o : Outcome V). StepsHaveOutcome same hash terms own place m 1 o before after (record p { logged = new.logged; calls = new.calls })) outcome_so
      (one_comes same hash terms m p stands own place at step.said new.logged before after leads_is new.calls items_so))
