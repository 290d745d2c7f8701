-- A call that has ended with its step, or is ready, leaves nothing behind: neither what it made, nor what it owes, nor what it has to count.
use Rattle.std.specs.Prelude.{◌≡◌, ◌⊎◌, ℕ, ◌+◌, Bool, true, false, List, [], Option, Some, None, if◌then◌else◌}
use Rattle.std.proofs.Common.{refl, ap, sym, subst, ◌∙◌, inl, inr}
use Rattle.run_schedules.specs.Given.SeizeWordsDeclared.fault.Fault.TheVariants.{Memory}
use Rattle.run_legal.specs.Given.TablesDeclared.node.Node.{Node}
use Rattle.run_schedules.specs.Given.RawMachine.{machine_asked}
use Rattle.run_schedules.specs.Given.RawDeclared.machines.machine.Machine.{Machine}
use Rattle.run_schedules.specs.Given.RawDeclared.machines.progress.Progress.{Progress}
use Rattle.run_schedules.specs.Given.RawDeclared.machines.progress.Progress.TheVariants as progress
use Rattle.run_schedules.specs.declared.outcome.Outcome.{Outcome}
use Rattle.run_schedules.specs.declared.outcome.Outcome.TheVariants as outcome
use Rattle.run_schedules.specs.Schedules.Effects.{with_effects}
use Rattle.run_schedules.specs.Schedules.Entry.{IfCall}
use Rattle.run_schedules.specs.Schedules.Handing.{HasGrown, LeavesOf, is_clear_outcome}
use Rattle.run_schedules.specs.Schedules.Moment.{UnderWay as CallThere, Moment}
use Rattle.run_schedules.specs.Schedules.Views.{call_of}
use Rattle.run_legal.specs.Given.CallersTogether.{UnderWay}
use Rattle.run_legal.specs.Given.EffectsEffects.{effects_of, known_after}
use Rattle.run_legal.specs.Given.EffectsKnown.{Known}
use Rattle.run_legal.specs.Given.EffectsDeclared.acting.Acting.TheVariants as acts
use Rattle.run_legal.specs.Given.FinishesMachines.{machine_of}
use Rattle.run_legal.specs.Given.KeptKept.{RefinesKept}
use Rattle.run_legal.specs.Given.MomentsWhole.{RefinesWhole}
use Rattle.run_legal.specs.Given.OwesEvents.{LeavesNothingMade}
use Rattle.run_legal.specs.Given.ScenesHeld.{Held, IsAt}
use Rattle.run_legal.specs.Given.ScenesScene.{Scene}
use Rattle.run_legal.specs.Given.ScenesStepping.{StepLeads, has_ended, scene_after}
use Rattle.run_legal.specs.Given.SettlesCounts.{HasToCount}
use Rattle.run_legal.proofs.CallLeaves.{none_asked}
use Rattle.run_legal.proofs.Given.KeptCalls.{calls_keep_kept, own_made}
use Rattle.run_legal.proofs.Given.OwesCalls.{step_keeps_made}
use Rattle.run_legal.proofs.Given.OwesClear.{walks_are_clear}
use Rattle.run_legal.proofs.Given.OwesKept.{calls_its}
use Rattle.run_legal.proofs.Given.OwesReady.{ready_so}
use Rattle.run_legal.proofs.Given.OwesShort.Calls.{step_keeps_short}
use Rattle.run_legal.proofs.Given.OwesTables.Calls.{step_keeps_tables}
use Rattle.run_legal.proofs.Given.ScenesGoes.{goes_as}
use Rattle.run_legal.proofs.Given.SettlesCalls.{calls_keep_counts, goes_as_one}
use Rattle.run_legal.proofs.Given.SettlesHand.Asked.{walks_have_nothing}
use Rattle.run_legal.proofs.Given.SettlesHand.Calls.{calls_keep_owed}
use Rattle.run_schedules.proofs.Given.General.{none_mapped as none_of}
use Rattle.run_legal.proofs.Given.OwesEvents.{has_grown}

module _ {K V : Type 0} (same : K → K → Bool) (hash : ℕ → K → ℕ) (name : ℕ → List ℕ) (m : Moment K V) (known : Known) (s : Scene K V) (old new : Held K V) (at : IsAt same hash old s)
    (whole : RefinesWhole same name m known s) (kept : RefinesKept name m known s) (map i : ℕ) (u : UnderWay K V K) (here : s.calls map i ≡ Some u) (said : Progress (Node K V))
    (leads : StepLeads same hash i said s old new) where
  abbrev v : Moment K V
  v = with_effects (Some (name i)) (Some map) (effects_of (acts.Call i map) known new.changed) m

  abbrev then_known : Known
  then_known = known_after (acts.Call i map) new.changed known

  abbrev next : Option (UnderWay K V K)
  next = (leads map u here).4.next

  abbrev then_at : Scene K V
  then_at = scene_after same s old new map i (leads map u here).0 u (leads map u here).1 said (leads map u here).4

  after : RefinesKept name v then_known then_at
  after = calls_keep_kept K V same hash name m known s old new at whole kept map i u here said leads

  -- its call is under way no more, or it is ready
  gone : has_ended said ≡ true → next ≡ None
  gone ended =
      none_of machine_of next (goes_as (leads map u here).1 said next (leads map u here).4.goes_on ∙ ap (λ (q : Bool). if q then None else Some (leads map u here).1) ended)

  ready_then : said ≡ progress.Ready → (x : UnderWay K V K) → next ≡ Some x → (machine_asked (machine_of x)).1 ≡ true
  ready_then ready x goes =
      ap (λ (y : Machine K V K). (machine_asked y).1) (goes_as_one (leads map u here).1 said next (leads map u here).4.goes_on x goes)
      ∙ ready_so same same (leads map u here).0.hash old.memory new.memory new.changed (leads map u here).1 said ready (machine_of u) (leads map u here).3

  module _ (o : Outcome V) (refused : said ≡ progress.Refused Memory → o ≡ outcome.Refused Memory) (d : CallThere K V) (d_is : call_of (name i) v ≡ Some d) where
    abbrev Clear : Type 0
    Clear = (d.owes ≡ []) × (d.gained + d.lost ≡ 0) × LeavesNothingMade o d

    when_gone : next ≡ None → Clear
    when_gone none = (
      (calls_keep_owed K V same hash name m known s old new at whole kept.entries (own_made K V same hash name m known s old at whole kept) kept.owed map i u here said leads).2 none d d_is,
      (calls_keep_counts K V same hash name m known s old new at whole kept.counts map i u here said leads).2 none d d_is,
      (
        (step_keeps_made same hash name m known s old new at whole kept.made map i u here said leads).2 none d d_is,
        (step_keeps_tables same hash name m known s old new at whole kept.tables map i u here said leads).2 none d d_is,
        elim ((step_keeps_short same hash name m known s old new at whole kept.short map i u here said leads).2 none d d_is) as (λ _. HasGrown o d) [
          | inl is ↦ subst (λ (x : Outcome V). HasGrown x d) (sym (refused is)) tt
          | inr e ↦ has_grown o d e
        ],
      ),
    )

    when_ready : said ≡ progress.Ready → (x : Option (UnderWay K V K)) → next ≡ x → Clear
    when_ready ready None none = when_gone none
    when_ready ready (Some x) goes =
        let asked = ready_then ready x goes in
        let there = calls_its s.calls map i next ∙ goes in
        let clear = walks_are_clear K V name v then_known then_at after.made after.tables after.short map i x there asked d d_is in (
          after.owed.owed map i x there d d_is ∙ (walks_have_nothing K V (machine_of x) asked then_known).0,
          subst (λ (q : Bool). HasToCount q (d.gained + d.lost)) (none_asked (machine_of x) asked) (after.counts.counts map i x there d d_is),
          (clear.0, clear.1, has_grown o d clear.2),
        )

    clear_then : (has_ended said ≡ true) ⊎ (said ≡ progress.Ready) → Clear
    clear_then (inl ended) = when_gone (gone ended)
    clear_then (inr ready) = when_ready ready next refl

    leaves_by : (is_clear_outcome o ≡ true → (has_ended said ≡ true) ⊎ (said ≡ progress.Ready)) → (q : Bool) → is_clear_outcome o ≡ q → LeavesOf q o d
    leaves_by over false is = tt
    leaves_by over true is = let clear = clear_then (over is) in (record { owes = clear.0; block = clear.2.0; table = clear.2.1; counted = clear.1 }, clear.2.2)

  pub leaves_nothing : (o : Outcome V) → (said ≡ progress.Refused Memory → o ≡ outcome.Refused Memory) → (is_clear_outcome o ≡ true → (has_ended said ≡ true) ⊎ (said ≡ progress.Ready))
      → IfCall (LeavesOf (is_clear_outcome o) o) (call_of (name i) v)
  leaves_nothing o refused over = by (call_of (name i) v) refl
    where
      by : (found : Option (CallThere K V)) → call_of (name i) v ≡ found → IfCall (LeavesOf (is_clear_outcome o) o) found
      by None none = tt
      by (Some d) is = leaves_by o refused d is over (is_clear_outcome o) refl
