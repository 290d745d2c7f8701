use Rattle.std.proofs.Common.{◌≡◌, ℕ, subst, sym, arith, []}
use Rattle.std.specs.Prelude.{◌*◌}
use Rattle.seize.specs.declared.rows.settle.Settle.{Settle}
use Rattle.seize.specs.Settle.{retiring}
use Rattle.seize.specs.World.{Settles, Retire}
use Rattle.seize_model.specs.Alone.Alone.{IsMidway}
use Rattle.seize_model.proofs.Alone.Whole.Begins.{retire_begins}
use Rattle.seize_model.proofs.calls.WholeCall.retire.Goals as goal

pub returns : goal.returns
returns g c = λ roots h had taken cutting.
    let whole : c.to.result ≡ c.args.block * 2048 = omega (arith, c.to.ensures, c.requires.block) in
    subst (λ (q : Settle). IsMidway g.T.Defers.defers c.args.batch_size roots c.args._memory.now h (Retire c.args.slot c.args.block) (Settles q) c.args._memory.now []) (sym c.retire.ensures)
    (subst (λ (word : ℕ). IsMidway g.T.Defers.defers c.args.batch_size roots c.args._memory.now h (Retire c.args.slot c.args.block) (Settles (retiring c.args.slot c.args.batch_size word)) c.args._memory.now []) (sym whole)
    (retire_begins g.T.Defers.defers c.args.batch_size roots (omega (arith, c.ranges.batch_size.fits)) c.args._memory.now h had c.args.slot c.args.block taken cutting))
