-- The effects of an event of a call find what it has made as they must, and at the end of one at which a call has ended, or a walk is ready, the call has made nothing that it has not stored, linked or given up.
use Rattle.std.specs.Prelude.{◌≡◌, ℕ, Bool, true, false, List, ◌++◌, Option, Some, None, ◌⊎◌, [], ◌∷◌}
use Rattle.std.proofs.Common.{refl, ap, sym, subst, ◌∙◌, inl, inr}
use Rattle.run_debts.specs.Given.SeizeWordsDeclared.fault.Fault.TheVariants.{Memory}
use Rattle.run_debts.specs.Given.TablesDeclared.node.Node.{Node}
use Rattle.run_debts.specs.Given.RawMachine.{machine_asked}
use Rattle.run_debts.specs.Given.RawDeclared.machines.machine.Machine.{Machine}
use Rattle.run_debts.specs.Given.RawDeclared.machines.progress.Progress.{Progress}
use Rattle.run_debts.specs.Given.RawDeclared.machines.progress.Progress.TheVariants as progress
use Rattle.run_debts.specs.Given.RunsDeclared.outcome.Outcome.{Outcome}
use Rattle.run_debts.specs.Given.RunsDeclared.outcome.Outcome.TheVariants as outcome
use Rattle.run_debts.specs.Given.SchedulesEffects.{with_effects, worked, with_effect, AtEachEffect}
use Rattle.run_debts.specs.Given.SchedulesEntry.{IfCall, acting, ByCall}
use Rattle.run_debts.specs.Given.SchedulesHanding.{HasGrown}
use Rattle.run_debts.specs.Given.SchedulesMoment.{UnderWay as CallThere, Moment}
use Rattle.run_debts.specs.Given.SchedulesViews.{call_of}
use Rattle.run_debts.specs.Given.SchedulesAfter.{moment}
use Rattle.run_debts.specs.Given.RunsDeclared.effect.Effect.{Effect}
use Rattle.run_debts.specs.Given.RunsDeclared.effect.Effect.TheVariants as effect
use Rattle.run_debts.specs.Given.SchedulesTerms.{Terms}
use Rattle.owner_calls.specs.Given.CallersTogether.{UnderWay}
use Rattle.run_debts.specs.Given.EffectsEffects.{effects_of}
use Rattle.run_debts.specs.Given.EffectsKnown.{Known}
use Rattle.run_debts.specs.Given.EffectsDeclared.acting.Acting.TheVariants as acts
use Rattle.run_debts.proofs.Given.FollowsSteps.{WentTo, went_to}
use Rattle.run_debts.specs.Given.MomentsWhole.{RefinesWhole}
use Rattle.run_blocks.specs.Owes.Events.{LeavesNothingMade, EventsLeaveNothingMade, FindsMade, FindMade, StepsFindMade}
use Rattle.run_blocks.specs.Owes.Made.{RefinesMade}
use Rattle.run_blocks.specs.Owes.Short.{RefinesShort, FindsGrown, FindGrown}
use Rattle.run_blocks.specs.Owes.Tables.{RefinesOwnTables, FindsTable, FindTables}
use Rattle.run_blocks.proofs.Owes.Calls.{step_keeps_made}
use Rattle.run_blocks.proofs.Owes.Clear.{walks_are_clear}
use Rattle.run_blocks.proofs.Owes.Kept.{calls_its}
use Rattle.run_blocks.proofs.Owes.Short.Calls.{step_keeps_short}
use Rattle.run_blocks.proofs.Owes.Tables.Calls.{step_keeps_tables}
use Rattle.run_blocks.specs.Owes.Keeping.{FindsBlock, FindBlocks}
use Rattle.run_blocks.proofs.Owes.Ready.{ready_so}
use Rattle.run_debts.specs.Given.FinishesMachines.{machine_of}
use Rattle.run_debts.specs.Given.ScenesHeld.{Held, IsAt}
use Rattle.run_debts.specs.Given.ScenesScene.{Scene}
use Rattle.run_debts.specs.Given.ScenesStepping.{StepLeads}
use Rattle.run_debts.proofs.Calls.{goes_as_one}

-- what an effect finds of blocks, tables and growths it finds of all that the call has made
finds_made : {K V : Type 0} (terms : Terms) (moments : List (Moment K V)) (m : Moment K V) (f : Effect) (c : CallThere K V) → FindsBlock f c → FindsTable m f c → FindsGrown f c → FindsMade terms moments m f c
finds_made terms moments m effect.PairMade c block table grown = block
finds_made terms moments m effect.PairGivenUp c block table grown = block
finds_made terms moments m (effect.TableMade t) c block table grown = table
finds_made terms moments m (effect.TableGivenUp t) c block table grown = table
finds_made terms moments m (effect.Stored n s) c block table grown = block
finds_made terms moments m (effect.Linked t shape) c block table grown = table
finds_made terms moments m (effect.Asked growth) c block table grown = grown
finds_made terms moments m _ c block table grown = tt

module _ {K V : Type 0} (terms : Terms) (moments : List (Moment K V)) (own : List ℕ) (map : ℕ) where
  by_call : (m : Moment K V) (f : Effect) (o : Option (CallThere K V)) → ByCall (FindsBlock f) o → ByCall (FindsTable m f) o → ByCall (FindsGrown f) o → ByCall (FindsMade terms moments m f) o
  by_call m f None block table grown = block
  by_call m f (Some c) block table grown = finds_made terms moments m f c block table grown

  pub all_find : (effects : List Effect) (m : Moment K V) → FindBlocks own map effects m → FindTables own map effects m → FindGrown own map effects m → FindMade terms moments own map effects m
  all_find [] m blocks tables grown = tt
  all_find (f ∷ effects) m blocks tables grown = (
    by_call m f (call_of own m) blocks.0 tables.0 grown.0,
    all_find effects (with_effect (Some own) (Some map) f m) blocks.1 tables.1 grown.1,
  )

-- what each of some effects finds, and each of those after them, each of all finds
pub several_find : {K V : Type 0} (P : Moment K V → Effect → Type 0) (own : List ℕ) (map : ℕ) (done effects : List Effect) (m : Moment K V)
    → AtEachEffect P (Some own) (Some map) done m → AtEachEffect P (Some own) (Some map) effects (with_effects (Some own) (Some map) done m)
    → AtEachEffect P (Some own) (Some map) (done ++ effects) m
several_find P own map [] effects m before after = after
several_find P own map (f ∷ done) effects m before after = (before.0, several_find P own map done effects (with_effect (Some own) (Some map) f m) before.1 after)

-- who is short of no growth has grown, whatever the outcome
pub has_grown : {K V : Type 0} (o : Outcome V) (c : CallThere K V) → c.is_short ≡ false → HasGrown o c
has_grown (outcome.Refused Memory) c e = tt
has_grown _ c e = e

module _ {K V : Type 0} (same : K → K → Bool) (hash : ℕ → K → ℕ) (name : ℕ → List ℕ) (m : Moment K V) (known : Known) (s : Scene K V) (old new : Held K V) (at : IsAt same hash old s)
    (whole : RefinesWhole same name m known s) (made : RefinesMade name m known s) (tables : RefinesOwnTables name m known s) (short : RefinesShort name m s) (map i : ℕ) (u : UnderWay K V K)
    (here : s.calls map i ≡ Some u) (said : Progress (Node K V)) (leads : StepLeads same hash i said s old new) where
  abbrev to : WentTo same hash name m known s old new at whole.all.shown map i u here said leads
  to = went_to same hash name m known s old new at whole.all.shown map i u here said leads

  abbrev v : Moment K V
  v = with_effects (Some (name i)) (Some map) (effects_of (acts.Call i map) known new.changed) m

  module _ (o : Outcome V) (refused : said ≡ progress.Refused Memory → o ≡ outcome.Refused Memory) (c : CallThere K V) (c_is : call_of (name i) v ≡ Some c) where
    when_ended : to.4.next ≡ None → LeavesNothingMade o c
    when_ended none = (
      (step_keeps_made same hash name m known s old new at whole made map i u here said leads).2 none c c_is,
      (step_keeps_tables same hash name m known s old new at whole tables map i u here said leads).2 none c c_is,
      elim ((step_keeps_short same hash name m known s old new at whole short map i u here said leads).2 none c c_is) as (λ _. HasGrown o c) [
        | inl is ↦ subst (λ (x : Outcome V). HasGrown x c) (sym (refused is)) tt
        | inr e ↦ has_grown o c e
      ],
    )

    when_ready : (machine_asked to.1).1 ≡ true → (x : UnderWay K V K) → to.4.next ≡ Some x → LeavesNothingMade o c
    when_ready ready x next =
        let after_made = (step_keeps_made same hash name m known s old new at whole made map i u here said leads).1 in
        let after_tables = (step_keeps_tables same hash name m known s old new at whole tables map i u here said leads).1 in
        let after_short = (step_keeps_short same hash name m known s old new at whole short map i u here said leads).1 in
        let is_machine = goes_as_one to.1 said to.4.next to.4.goes_on x next in
        let clear =
        walks_are_clear K V name v _ _ after_made after_tables after_short map i x (calls_its s.calls map i to.4.next ∙ next)
        (ap (λ (y : Machine K V K). (machine_asked y).1) is_machine ∙ ready) c c_is in (clear.0, clear.1, has_grown o c clear.2)

    leaves_none : (to.4.next ≡ None) ⊎ (said ≡ progress.Ready) → LeavesNothingMade o c
    leaves_none (inl none) = when_ended none
    leaves_none (inr ready) = by to.4.next refl
      where
        by : (next : Option (UnderWay K V K)) → to.4.next ≡ next → LeavesNothingMade o c
        by None none = when_ended none
        by (Some x) is = when_ready (ready_so same same to.0.hash old.memory new.memory new.changed to.1 said ready (machine_of u) to.3) x is

  event_leaves : (to.4.next ≡ None) ⊎ (said ≡ progress.Ready) → (o : Outcome V) → (said ≡ progress.Refused Memory → o ≡ outcome.Refused Memory) → IfCall (LeavesNothingMade o) (call_of (name i) v)
  event_leaves over o refused = by (call_of (name i) v) refl
    where
      by : (found : Option (CallThere K V)) → call_of (name i) v ≡ found → IfCall (LeavesNothingMade o) found
      by None none = tt
      by (Some c) is = leaves_none o refused c is over

pub events_leave_nothing_made : (K V : Type 0) (same : K → K → Bool) (hash : ℕ → K → ℕ) → EventsLeaveNothingMade K V same hash
events_leave_nothing_made K V same hash name m known s old new at whole made tables short map i u here said leads over log e caller refused worked_is =
    subst (λ (who : Option (List ℕ)). IfCall (LeavesNothingMade {K = K} e.outcome) (acting who (worked e (moment log)))) (sym caller)
    (subst (λ (x : Moment K V). IfCall (LeavesNothingMade e.outcome) (call_of (name i) x)) (sym worked_is)
    (event_leaves same hash name m known s old new at whole made tables short map i u here said leads over e.outcome refused))

pub steps_find_made : (K V : Type 0) (same : K → K → Bool) (hash : ℕ → K → ℕ) → StepsFindMade K V same hash
steps_find_made K V same hash name m known s old new at whole made tables short map i u here said leads terms moments =
    all_find terms moments (name i) map (effects_of (acts.Call i map) known new.changed) m (step_keeps_made same hash name m known s old new at whole made map i u here said leads).0
    (step_keeps_tables same hash name m known s old new at whole tables map i u here said leads).0 (step_keeps_short same hash name m known s old new at whole short map i u here said leads).0
