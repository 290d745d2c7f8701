-- All steps of a making, of an end, and of reclaiming all leave the slots taken that were.
use Rattle.std.specs.Prelude.{ℕ, zero, suc, Bool}
use Rattle.std.proofs.Common.{refl, sym, subst}
use Rattle.run_grows.specs.Given.SeizeWordsMem.{Mem}
use Rattle.run_grows.specs.Given.SeizeDeclared.advance.Advance.{Advance}
use Rattle.run_grows.specs.Given.SeizeDeclared.advance.Advance.TheVariants as progress
use Rattle.run_grows.specs.Given.SeizeDeclared.rows.settle.Settled.{Settled}
use Rattle.run_grows.specs.Given.SeizeDeclared.rows.settle.Settled.TheVariants as settled
use Rattle.run_grows.specs.Given.TablesDeclared.node.Node.{Node}
use Rattle.run_grows.specs.Given.TablesDeclared.setting.Setting.{Setting}
use Rattle.run_grows.specs.Given.SchedulesTerms.{Terms}
use Rattle.run_grows.specs.Given.OthersEndings.{ending_after}
use Rattle.run_grows.specs.Given.OthersMakings.{making_after}
use Rattle.run_legal.specs.AllEvents.{AllCome, AllSteps}
use Rattle.run_legal.specs.Chains.{Chain, Come, EndSteps, MakingSteps}
use Rattle.run_legal.proofs.Heads.Rows.{KeepsTaken, by_memory, taken_then}
use Rattle.run_legal.proofs.Heads.Steps.{ending_taken, making_taken, reclaiming_taken}
use Rattle.run_grows.specs.Given.ScenesEnding.{EndingHasOutcome}
use Rattle.run_grows.specs.Given.ScenesMaking.{MakingHasOutcome}

-- what each step leaves, all of them do
chain_taken : {X : Type 0} {K V : Type 0} (memory : X → Mem (Node K V)) (Steps : X → X → Type 0) → ((from to : X) → Steps from to → KeepsTaken (memory from) (memory to)) → (n : ℕ) (from to : X) → Chain Steps n from to
    → KeepsTaken (memory from) (memory to)
chain_taken memory Steps each zero from to chain = subst (λ x. KeepsTaken (memory from) (memory x)) chain (λ s. refl)
chain_taken memory Steps each (suc n) from to (mid, chain, step) =
    taken_then (memory from) (memory mid) (memory to) (chain_taken memory Steps each n from mid chain) (each mid to step)

module _ {K V : Type 0} (same : K → K → Bool) (hash : ℕ → K → ℕ) (terms : Terms) where
  abbrev memory_at : Come K V → Mem (Node K V)
  memory_at c = c.scene.world.memory

  abbrev memory_all : AllCome K V → Mem (Node K V)
  memory_all c = c.come.scene.world.memory

  module _ (i map : ℕ) (from to : Come K V) where
    making_step : MakingSteps same hash terms i map from to → KeepsTaken (memory_at from) (memory_at to)
    making_step step =
        let led = step.leads step.making step.here in
        subst (λ (c : Come K V). KeepsTaken (memory_at from) (memory_at c)) (sym step.comes) (by step.said led.3)
      where
        kept : KeepsTaken (memory_at from) (step.leads step.making step.here).2.step.w2.memory
        kept =
            by_memory (memory_at from) to.held.memory (step.leads step.making step.here).2.step.w2.memory (step.leads step.making step.here).2.step.memory
            (making_taken same hash from.scene from.held to.held i step.said step.leads step.making step.here)

        by : (said : Advance Setting)
            → (comes : MakingHasOutcome same hash from.scene from.held to.held i step.making (step.leads step.making step.here).0 (step.leads step.making step.here).2.step.w2 said)
            → KeepsTaken (memory_at from)
            (making_after same hash from.scene from.held to.held i step.making (step.leads step.making step.here).0 (step.leads step.making step.here).2.step.w2 said comes).world.memory
        by progress.Goes comes = kept
        by progress.Waits comes = absurd comes
        by (progress.Done setting) comes = kept
        by (progress.Refused fault) comes = kept

    ending_step : EndSteps same hash terms i map from to → KeepsTaken (memory_at from) (memory_at to)
    ending_step step =
        let led = step.leads step.ending step.here in
        subst (λ (c : Come K V). KeepsTaken (memory_at from) (memory_at c)) (sym step.comes) (by step.said led.3)
      where
        kept : KeepsTaken (memory_at from) (step.leads step.ending step.here).2.w2.memory
        kept =
            by_memory (memory_at from) to.held.memory (step.leads step.ending step.here).2.w2.memory (step.leads step.ending step.here).2.memory
            (ending_taken same hash from.scene from.held to.held i step.said step.leads step.ending step.here)

        by : (said : Settled (Node K V))
            → (comes : EndingHasOutcome same hash from.scene to.held i step.ending (step.leads step.ending step.here).0 (step.leads step.ending step.here).2.w2 (step.leads step.ending step.here).2.deed said)
            → KeepsTaken (memory_at from)
            (ending_after same hash from.scene to.held i step.ending (step.leads step.ending step.here).0 (step.leads step.ending step.here).2.w2 (step.leads step.ending step.here).2.deed said comes).world.memory
        by settled.Goes comes = kept
        by settled.Waits comes = absurd comes
        by (settled.Gave value) comes = kept
        by settled.Done comes = kept

  pub makings_taken : (i map n : ℕ) (from to : Come K V) → Chain (MakingSteps same hash terms i map) n from to → KeepsTaken (memory_at from) (memory_at to)
  makings_taken i map n from to chain = chain_taken memory_at (MakingSteps same hash terms i map) (making_step i map) n from to chain

  pub endings_taken : (i map n : ℕ) (from to : Come K V) → Chain (EndSteps same hash terms i map) n from to → KeepsTaken (memory_at from) (memory_at to)
  endings_taken i map n from to chain = chain_taken memory_at (EndSteps same hash terms i map) (ending_step i map) n from to chain

  pub all_step : (i : ℕ) (from to : AllCome K V) → AllSteps same hash terms i from to → KeepsTaken (memory_all from) (memory_all to)
  all_step i from to step =
      subst (λ (c : AllCome K V). KeepsTaken (memory_all from) (memory_all c)) (sym step.comes)
      (reclaiming_taken same hash from.come.scene from.come.held to.come.held i from.lists from.all to.all step.said step.under_way step.leads)

  pub all_taken : (i n : ℕ) (from to : AllCome K V) → Chain (AllSteps same hash terms i) n from to → KeepsTaken (memory_all from) (memory_all to)
  all_taken i n from to chain = chain_taken memory_all (AllSteps same hash terms i) (all_step i) n from to chain
