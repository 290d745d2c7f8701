use Rattle.std.proofs.Common.{subst, sym, arith, []}
use Rattle.seize.specs.declared.rows.leave.Leave.{Leave}
use Rattle.seize.specs.World.{Leaves, Leave'}
use Rattle.seize_model.specs.Alone.Alone.{IsMidway}
use Rattle.seize_model.proofs.Alone.Whole.Begins.{leave_begins}
use Rattle.seize_model.proofs.calls.WholeCall.leave.Goals as goal

pub returns : goal.returns
returns g c = λ roots h had inside.
    subst (λ (q : Leave). IsMidway g.T.Defers.defers c.args.batch_size roots c.args._memory.now h (Leave' c.args.slot) (Leaves q) c.args._memory.now []) (sym c.leave.ensures)
    (leave_begins g.T.Defers.defers c.args.batch_size roots (omega (arith, c.ranges.batch_size.fits)) c.args._memory.now h had c.args.slot inside)
