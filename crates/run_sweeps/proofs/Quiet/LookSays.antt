-- A call that only looks does not wait: a lookup goes on or is over, and so does a counting.
use Rattle.std.specs.Prelude.{◌≡◌, ℕ, Bool}
use Rattle.std.proofs.Common.{refl, sym, ap, ◌∙◌}
use Rattle.run_schedules.specs.Given.SeizeWordsMem.{Mem, Took, value_at}
use Rattle.run_schedules.specs.Given.SeizeWordsPlan.{Steps, plan_as}
use Rattle.papaya_raw.specs.Given.SeizeDeclared.advance.Advance.{Advance as Counted}
use Rattle.papaya_raw.specs.Given.SeizeDeclared.advance.Advance.TheVariants as counts
use Rattle.run_finds.proofs.Given.SeizeRuleRows.Leaving.{steps_back}
use Rattle.papaya_raw.specs.Given.TablesDeclared.node.Node.{Node}
use Rattle.run_finds.specs.Given.ResizeSum.{sum_plan}
use Rattle.run_finds.specs.Given.ResizeDeclared.sum.Sum.{Sum}
use Rattle.papaya_raw.specs.Answers.{ended}
use Rattle.papaya_raw.specs.Call.{call_plan, plan_at}
use Rattle.papaya_raw.specs.Machine.{called, counted}
use Rattle.papaya_raw.specs.Progress.{of_called, of_counting}
use Rattle.papaya_raw.specs.declared.machines.answer.Called.{Called}
use Rattle.papaya_raw.specs.declared.machines.answer.Called.TheVariants as says
use Rattle.papaya_raw.specs.declared.machines.answer.End.{End}
use Rattle.papaya_raw.specs.declared.machines.answer.End.TheVariants as ends
use Rattle.papaya_raw.specs.declared.machines.call.Calling.{Calling}
use Rattle.papaya_raw.specs.declared.machines.call.Calling.TheVariants as at
use Rattle.papaya_raw.specs.declared.machines.call.KeyCall.{KeyCall}
use Rattle.papaya_raw.specs.declared.machines.machine.Machine.{Machine}
use Rattle.papaya_raw.specs.declared.machines.machine.Machine.TheVariants as kinds
use Rattle.papaya_raw.specs.declared.machines.progress.Progress.{Progress}
use Rattle.papaya_raw.specs.declared.machines.progress.Progress.TheVariants as progress
use Rattle.run_finds.proofs.Given.RuleKeys.Always.{always_steps}
use Rattle.run_finds.specs.Given.LateKinds.{LooksAt}
use Rattle.run_finds.specs.Given.EffectsDeclared.changed.Changed.TheVariants.{Nothing}
use Rattle.run_kept.proofs.Given.WaitsLaws.{lookups_never_wait}
use Rattle.run_kept.proofs.Given.WaitsNever.{Advances, sum_goes}
use Rattle.run_kept.specs.Given.OwesLooking.{IsLooking}
use Rattle.run_finds.proofs.Given.ScenesTold.{as_step}
use Rattle.run_finds.specs.Given.ScenesHeld.{Held}
use Rattle.run_finds.specs.Given.ScenesStepping.{StepsFrom}

abbrev SumOn : Sum × Counted ℕ → Type 0
SumOn end = Advances end

module _ {K V : Type 0} where
  -- what waits has said so
  pub key_waits : (x : Called (Node K V)) → of_called x ≡ progress.Waits → x ≡ says.Waits
  key_waits says.Waits e = refl
  key_waits says.Goes e = absurd (cc e)
  key_waits (says.Gave value) e = absurd (cc e)
  key_waits (says.Unstored value) e = absurd (cc e)
  key_waits (says.Asks about) e = absurd (cc e)
  key_waits (says.Done answer) e = absurd (cc e)
  key_waits (says.Refused fault) e = absurd (cc e)

  -- one that is over has an end to tell
  over_tells : (end : End) → ended {T = Node K V} end ≡ says.Waits → ⊥
  over_tells (ends.Answered answer) e = cc e
  over_tells (ends.Refused fault) e = cc e

  sum_advances : (end : Sum × Counted ℕ) → SumOn end → of_counting {T = Node K V} end.1 ≡ progress.Waits → ⊥
  sum_advances (sum, counts.Waits) on e = on
  sum_advances (sum, counts.Goes) on e = cc e
  sum_advances (sum, counts.Done count) on e = cc e
  sum_advances (sum, counts.Refused fault) on e = cc e

module _ {K V : Type 0} (same : K → K → Bool) (hash : K → ℕ) (old new : Held K V) (next : Machine K V K) (said : Progress (Node K V)) where
  abbrev m : Mem (Node K V)
  m = old.memory

  abbrev m2 : Mem (Node K V)
  m2 = new.memory

  lookup_never : (p : KeyCall K V K) (q : Calling) → p.stands ≡ q → LooksAt q → (d : KeyCall K V K × Called (Node K V)) → Steps Took value_at m (plan_at same same hash p q) m2 d
      → Steps Took value_at m (call_plan same same hash p) m2 d → d.1 ≡ says.Waits → ⊥
  lookup_never p (at.Looks lookup) is looks (after, x) there steps e = lookups_never_wait V same hash same p lookup is m m2 after x steps e
  lookup_never p (at.Over end) is looks d there steps e = over_tells end (ap (λ (x : KeyCall K V K × Called (Node K V)). x.1) (sym there.1) ∙ e)
  lookup_never p _ is looks d there steps e = absurd looks

  pub never_waits : (machine : Machine K V K) → IsLooking machine → StepsFrom same hash machine old new next said → said ≡ progress.Waits → ⊥
  never_waits (kinds.Key p) looks steps waits =
      let d = steps_back called m m2 (call_plan same same hash p) (next, said) (as_step m Nothing (plan_as called (call_plan same same hash p)) m2 new.changed (next, said) steps) in
      lookup_never p p.stands refl looks.1 d.0 d.1 d.1
      (key_waits d.0.1 (ap (λ (x : Machine K V K × Progress (Node K V)). x.1) (sym d.2) ∙ waits))
  never_waits (kinds.Count sum) looks steps waits =
      let d = steps_back counted m m2 (sum_plan sum) (next, said) (as_step m Nothing (plan_as counted (sum_plan sum)) m2 new.changed (next, said) steps) in
      sum_advances d.0 (always_steps SumOn m m2 (sum_plan sum) d.0 (sum_goes (Node K V) sum) d.1)
      (ap (λ (x : Machine K V K × Progress (Node K V)). x.1) (sym d.2) ∙ waits)
  never_waits (kinds.Reserve r) looks steps waits = absurd looks
  never_waits (kinds.Sweep c) looks steps waits = absurd looks
