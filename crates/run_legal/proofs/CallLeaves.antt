-- A call that has ended with its last step, or is ready, leaves nothing behind.
use Rattle.std.specs.Prelude.{◌≡◌, ◌⊎◌, ℕ, ◌+◌, Bool, true, false, List, [], Option, Some, None, if◌then◌else◌}
use Rattle.std.proofs.Common.{refl, ap, sym, subst, ◌∙◌, inl, inr}
use Rattle.run_grows.specs.Given.TablesDeclared.node.Node.{Node}
use Rattle.run_grows.specs.Given.RawMachine.{is_ready, machine_asked}
use Rattle.run_grows.specs.Given.RawDeclared.machines.machine.Machine.{Machine}
use Rattle.run_grows.specs.Given.RawDeclared.machines.machine.Machine.TheVariants as kinds
use Rattle.run_grows.specs.Given.RawDeclared.machines.progress.Progress.{Progress}
use Rattle.run_grows.specs.Given.RawDeclared.machines.progress.Progress.TheVariants as progress
use Rattle.run_grows.specs.Given.ReservesDeclared.sweep.Sweeping.{Sweeping}
use Rattle.run_grows.specs.Given.ReservesDeclared.sweep.Sweeping.TheVariants as sweeping
use Rattle.run_grows.specs.Given.RunsDeclared.outcome.Outcome.{Outcome}
use Rattle.run_grows.specs.Given.RunsDeclared.outcome.Outcome.TheVariants as outcome
use Rattle.run_grows.specs.Given.SchedulesAfter.{moment}
use Rattle.run_grows.specs.Given.SchedulesEffects.{with_effects, worked}
use Rattle.run_grows.specs.Given.SchedulesEntry.{IfCall, acting, caller_of}
use Rattle.run_grows.specs.Given.SchedulesHanding.{LeavesOf, is_clear_outcome}
use Rattle.run_grows.specs.Given.SchedulesMoment.{UnderWay as CallThere, Moment}
use Rattle.run_grows.specs.Given.SchedulesViews.{call_of}
use Rattle.run_grows.specs.Given.CallersTogether.{UnderWay}
use Rattle.run_grows.specs.Given.EffectsEffects.{effects_of, known_after}
use Rattle.run_grows.specs.Given.EffectsKnown.{Known}
use Rattle.run_grows.specs.Given.EffectsDeclared.acting.Acting.TheVariants as acts
use Rattle.run_grows.specs.Given.FinishesMachines.{machine_of}
use Rattle.run_grows.specs.Given.KeptKept.{RefinesKept}
use Rattle.run_grows.proofs.Given.KeptCalls.{calls_keep_kept, own_made}
use Rattle.run_grows.specs.Given.OwesEvents.{LeavesNothingMade}
use Rattle.run_grows.proofs.Given.OwesEvents.{events_leave_nothing_made}
use Rattle.run_grows.proofs.Given.OwesKept.{calls_its}
use Rattle.run_grows.proofs.Given.OwesReady.{ready_so}
use Rattle.run_grows.specs.Given.SettlesCounts.{HasToCount, counts_in_sweeping, is_to_count}
use Rattle.run_grows.proofs.Given.SettlesCalls.{calls_keep_counts, goes_as_one}
use Rattle.run_grows.proofs.Given.SettlesHand.Asked.{walks_have_nothing}
use Rattle.run_grows.proofs.Given.SettlesHand.Calls.{calls_keep_owed}
use Rattle.run_legal.specs.CallRuns.{CallsLeaveNothing, OutcomeEndsAsStep}
use Rattle.run_grows.proofs.Given.ScenesGoes.{goes_as}
use Rattle.run_grows.specs.Given.ScenesScene.{Scene}
use Rattle.run_grows.specs.Given.ScenesStepping.{has_ended, scene_after}
use Rattle.run_grows.proofs.Given.General.{none_mapped as none_of}

-- a walk that is ready has nothing to count
none_ready : (p : Sweeping) → is_ready p ≡ true → counts_in_sweeping p ≡ false
none_ready sweeping.Ready is = refl
none_ready _ is = absurd (cc is)

pub none_asked : {K V : Type 0} (y : Machine K V K) → (machine_asked y).1 ≡ true → is_to_count y ≡ false
none_asked (kinds.Sweep c) is = none_ready c.stands is
none_asked (kinds.Key p) is = absurd (cc is)
none_asked (kinds.Reserve r) is = absurd (cc is)
none_asked (kinds.Count sum) is = absurd (cc is)

-- it is clear where its call has ended, or is ready
module _ {K V : Type 0} (said : Progress (Node K V)) where
  over_so : (told : Outcome V) → OutcomeEndsAsStep said told → is_clear_outcome told ≡ true → (has_ended said ≡ true) ⊎ (said ≡ progress.Ready)
  over_so outcome.Ready tells clear = inr (tells.ready refl)
  over_so told tells clear = inl (sym tells.ends ∙ clear)

module _ (K V : Type 0) (same : K → K → Bool) (hash : ℕ → K → ℕ) where
  pub calls_leave_nothing : CallsLeaveNothing K V same hash
  calls_leave_nothing name log m known s old new at whole kept map i u here said leads e caller worked_is tells =
      subst (λ (o : Option (CallThere K V)). IfCall (LeavesOf (is_clear_outcome e.outcome) e.outcome) o) (sym acts_by) (by (call_of (name i) v) refl)
    where
      v : Moment K V
      v = with_effects (Some (name i)) (Some map) (effects_of (acts.Call i map) known new.changed) m

      then_known : Known
      then_known = known_after (acts.Call i map) new.changed known

      s2 : Scene K V
      s2 = scene_after same s old new map i (leads map u here).0 u (leads map u here).1 said (leads map u here).4

      acts_by : acting (caller_of e.event) (worked e (moment log)) ≡ call_of (name i) v
      acts_by = ap (λ (who : Option (List ℕ)). acting who (worked e (moment log))) caller ∙ ap (λ (x : Moment K V). call_of (name i) x) worked_is

      after : RefinesKept name v then_known s2
      after = calls_keep_kept K V same hash name m known s old new at whole kept map i u here said leads

      -- its call is under way no more, or it is ready
      gone : has_ended said ≡ true → (leads map u here).4.next ≡ None
      gone ended = none_of machine_of (leads map u here).4.next
          (goes_as (leads map u here).1 said (leads map u here).4.next (leads map u here).4.goes_on ∙ ap (λ (q : Bool). if q then None else Some (leads map u here).1) ended)

      ready_then : said ≡ progress.Ready → (x : UnderWay K V K) → (leads map u here).4.next ≡ Some x → (machine_asked (machine_of x)).1 ≡ true
      ready_then ready x goes =
          ap (λ (y : Machine K V K). (machine_asked y).1) (goes_as_one (leads map u here).1 said (leads map u here).4.next (leads map u here).4.goes_on x goes)
          ∙ ready_so same same (leads map u here).0.hash old.memory new.memory new.changed (leads map u here).1 said ready (machine_of u) (leads map u here).3

      Clear : CallThere K V → Type 0
      Clear d = (d.owes ≡ []) × (d.gained + d.lost ≡ 0)

      when_gone : (leads map u here).4.next ≡ None → (d : CallThere K V) → call_of (name i) v ≡ Some d → Clear d
      when_gone none d d_is = (
        (calls_keep_owed K V same hash name m known s old new at whole kept.entries (own_made K V same hash name m known s old at whole kept) kept.owed map i u here said leads).2 none d d_is,
        (calls_keep_counts K V same hash name m known s old new at whole kept.counts map i u here said leads).2 none d d_is,
      )

      when_ready : said ≡ progress.Ready → (next : Option (UnderWay K V K)) → (leads map u here).4.next ≡ next → (d : CallThere K V) → call_of (name i) v ≡ Some d → Clear d
      when_ready ready None none d d_is = when_gone none d d_is
      when_ready ready (Some x) goes d d_is =
          let asked = ready_then ready x goes in
          let there = calls_its s.calls map i (leads map u here).4.next ∙ goes in (
            after.owed.owed map i x there d d_is ∙ (walks_have_nothing K V (machine_of x) asked then_known).0,
            subst (λ (q : Bool). HasToCount q (d.gained + d.lost)) (none_asked (machine_of x) asked) (after.counts.counts map i x there d d_is),
          )

      clear_then : (has_ended said ≡ true) ⊎ (said ≡ progress.Ready) → (d : CallThere K V) → call_of (name i) v ≡ Some d → Clear d
      clear_then (inl ended) d d_is = when_gone (gone ended) d d_is
      clear_then (inr ready) d d_is = when_ready ready (leads map u here).4.next refl d d_is

      over : (has_ended said ≡ true) ⊎ (said ≡ progress.Ready) → ((leads map u here).4.next ≡ None) ⊎ (said ≡ progress.Ready)
      over (inl ended) = inl (gone ended)
      over (inr ready) = inr ready

      made_none : (has_ended said ≡ true) ⊎ (said ≡ progress.Ready) → (d : CallThere K V) → call_of (name i) v ≡ Some d → LeavesNothingMade e.outcome d
      made_none so d d_is = subst (λ (o : Option (CallThere K V)). IfCall (LeavesNothingMade e.outcome) o) (acts_by ∙ d_is)
          (events_leave_nothing_made K V same hash name m known s old new at whole kept.made kept.tables kept.short map i u here said leads (over so) log e caller tells.memory worked_is)

      leaves : (q : Bool) → is_clear_outcome e.outcome ≡ q → (d : CallThere K V) → call_of (name i) v ≡ Some d → LeavesOf q e.outcome d
      leaves false none d d_is = tt
      leaves true clear d d_is =
          let so = over_so said e.outcome tells clear in
          let none = made_none so d d_is in
          let its = clear_then so d d_is in
          (record { owes = its.0; block = none.0; table = none.1; counted = its.1 }, none.2)

      by : (found : Option (CallThere K V)) → call_of (name i) v ≡ found → IfCall (LeavesOf (is_clear_outcome e.outcome) e.outcome) found
      by None none = tt
      by (Some d) d_is = leaves (is_clear_outcome e.outcome) refl d d_is
