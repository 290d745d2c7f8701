use Rattle.std.specs.Prelude.{Option, IsSome, false}
use Rattle.std.proofs.Common.{ℕ, [], refl, arith, subst, sym}
use Rattle.seize.specs.Given.SeizeWordsDeclared.at.At.TheVariants.{Slot}
use Rattle.seize.specs.Given.SeizeWordsMem.{Mem}
use Rattle.seize.specs.declared.states.TheConstants.{HEAD, IDLE}
use Rattle.seize_model.specs.Alone.Alone.{IsHistory, Spares, SameLinks, registered}
use Rattle.seize_model.proofs.Alone.Whole.Retake.{retake_history}
use Rattle.seize_model.proofs.Alone.Spared.Operations.{spares_written}
use Rattle.seize_model.proofs.calls.retake.Goals as goal

pub returns-clause-history : goal.returns-clause-history
returns-clause-history g c = λ batch_size roots h had idle.
    subst (λ (m : Mem g.row.T.Denot). IsHistory g.T.Defers.defers batch_size roots m (registered false c.args.slot h)) (sym c.store.ensures.1)
    (retake_history g.T.Defers.defers batch_size roots c.args.memory.now h had c.args.slot c.requires.slot c.requires.free idle)

pub returns-clause-spares : goal.returns-clause-spares
returns-clause-spares g c =
    subst (λ (m : Mem g.row.T.Denot). Spares c.args.memory.now m []) (sym c.store.ensures.1)
    (spares_written c.args.memory.now (Slot c.args.slot HEAD) IDLE (subst (λ (o : Option ℕ). IsSome o) (sym c.requires.free) refl) (λ e. omega arith))

pub returns-clause-links : goal.returns-clause-links
returns-clause-links g c = subst (λ (m : Mem g.row.T.Denot). SameLinks c.args.memory.now m) (sym c.store.ensures.1) (λ b. refl)
