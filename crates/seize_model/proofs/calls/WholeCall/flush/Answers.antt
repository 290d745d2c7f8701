use Rattle.std.proofs.Common.{subst, sym, arith, []}
use Rattle.seize.specs.declared.rows.settle.Settle.{Settle}
use Rattle.seize.specs.World.{Settles, Flush}
use Rattle.seize_model.specs.Alone.Alone.{IsMidway}
use Rattle.seize_model.proofs.Alone.Whole.Begins.{flush_begins}
use Rattle.seize_model.proofs.calls.WholeCall.flush.Goals as goal

pub returns : goal.returns
returns g c = λ roots h had taken.
    subst (λ (q : Settle). IsMidway g.T.Defers.defers c.args.batch_size roots c.args._memory.now h (Flush c.args.slot) (Settles q) c.args._memory.now []) (sym c.flush.ensures)
    (flush_begins g.T.Defers.defers c.args.batch_size roots (omega (arith, c.ranges.batch_size.fits)) c.args._memory.now h had c.args.slot taken)
