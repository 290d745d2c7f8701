-- How far a call on one key has come by a step: it goes on as one of its kind, asks, or has ended.
use Rattle.std.specs.Prelude.{Option}
use Rattle.std.proofs.Common.{◌≡◌, ℕ, Bool, sym, subst, ap, ◌∙◌}
use Rattle.map_tables.specs.declared.node.Node.{Node}
use Rattle.papaya_raw.specs.Call.{call_plan}
use Rattle.papaya_raw.specs.Machine.{machine_plan, called as as_machine}
use Rattle.papaya_raw.specs.declared.machines.answer.Called.{Called}
use Rattle.papaya_raw.specs.declared.machines.answer.Called.TheVariants as tells
use Rattle.papaya_raw.specs.declared.machines.call.KeyCall.{KeyCall}
use Rattle.papaya_raw.specs.declared.machines.machine.Machine.{Machine}
use Rattle.papaya_raw.specs.declared.machines.machine.Machine.TheVariants as kinds
use Rattle.papaya_raw.specs.declared.machines.progress.Progress.{Progress}
use Rattle.threads_rule.specs.Views.Looks.{shown_in}
use Rattle.threads_rule.specs.Views.Told.{call_after}
use Rattle.threads_rule.specs.declared.view.View.{View}
use Rattle.threads_rule.specs.Errands.Calling.{IsUnderWay, MachineContinues, MayStep, StepsTo, StepOutcome}
use Rattle.threads_kinds.specs.CallKinds.Kinds.{Kind, Stage, SaysSo}
use Rattle.threads_kinds.specs.CallKinds.Leads.{Leads}
use Rattle.threads_kinds.proofs.CallKinds.Asking.{says}
use Rattle.threads_kinds.proofs.CallKinds.Leads.{leads_as}
use Rattle.threads_rule.proofs.Errands.Stepping.{works_so}

module _ {K V S : Type 0} (same : K → K → Bool) (k : Kind) (s : Stage) (hasher : S) where
  says_machine : (hashes : K → ℕ) (machine : Machine K V K) → MachineContinues k s machine → (shown : ℕ → Option (Node K V)) (end : Machine K V K × Progress (Node K V))
      → Leads shown (machine_plan same same hashes machine) end → (e : KeyCall K V K × Called (Node K V)) × (end ≡ as_machine e) × SaysSo k s shown e
  says_machine hashes (kinds.Key c) goes shown end leads =
      let l = leads_as as_machine shown (call_plan same same hashes c) end leads in (l.0, l.2, says k s same same hashes c goes shown l.0 l.1)
  says_machine hashes (kinds.Reserve r) goes shown end leads = absurd goes
  says_machine hashes (kinds.Sweep r) goes shown end leads = absurd goes
  says_machine hashes (kinds.Count r) goes shown end leads = absurd goes

  -- its next step may be taken
  pub may_go : (machine : Machine K V K) (v : View K V S) → IsUnderWay k s hasher machine v → MayStep hasher machine v
  may_go (kinds.Key c) v is = record { at = is.at; steady = (k, s, is.goes) }
  may_go (kinds.Reserve r) v is = absurd is.goes
  may_go (kinds.Sweep r) v is = absurd is.goes
  may_go (kinds.Count r) v is = absurd is.goes

  module _ (hash : S → K → ℕ) (machine next : Machine K V K) (told : Progress (Node K V)) (v w : View K V S) (is : IsUnderWay k s hasher machine v)
      (stepped : StepsTo same hash hasher machine next told v w) where
    -- by what the step tells
    so_far : (c : KeyCall K V K) (then_ : Called (Node K V)) → w.work ≡ call_after (as_machine (c, then_)).0 (as_machine (c, then_)).1 → SaysSo k s (shown_in w.held) (c, then_)
        → StepOutcome k s hasher (as_machine (c, then_)).0 (as_machine (c, then_)).1 w
    so_far c tells.Goes work goes = record { at = works_so hasher machine (kinds.Key c) v w is.at stepped.stays work; goes = goes }
    so_far c tells.Waits work goes = record { at = works_so hasher machine (kinds.Key c) v w is.at stepped.stays work; goes = goes }
    so_far c (tells.Gave value) work goes = record { at = works_so hasher machine (kinds.Key c) v w is.at stepped.stays work; goes = goes }
    so_far c (tells.Unstored value) work goes = record { at = works_so hasher machine (kinds.Key c) v w is.at stepped.stays work; goes = goes }
    so_far c (tells.Asks pair) work asks = record { at = works_so hasher machine (kinds.Key c) v w is.at stepped.stays work; asks = asks }
    so_far c (tells.Done answer) work goes = work
    so_far c (tells.Refused fault) work goes = work

    pub tells_so : StepOutcome k s hasher next told w
    tells_so =
        let e = says_machine (hash hasher) machine is.goes (shown_in w.held) (next, told) stepped.leads in
        subst (λ (x : Machine K V K × Progress (Node K V)). StepOutcome k s hasher x.0 x.1 w) (sym e.1)
        (so_far e.0.0 e.0.1 (stepped.work ∙ ap (λ (x : Machine K V K × Progress (Node K V)). call_after x.0 x.1) e.1) e.2)
