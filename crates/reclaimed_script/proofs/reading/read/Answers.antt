use Rattle.std.proofs.Common.{sym, subst, arith, take}
use Rattle.std.proofs.lemmas.Result.{err_from_is_err_and}
use Rattle.reclaimed_script.specs.declared.parser.Parser.{Parser}
use Rattle.reclaimed_script.proofs.ReadingLemmas.{ReadTo, ReadTo-bytes, ReadTo-keeps, Reads-stop, Reads-end, Reads-failed, Keeps-same}
use Rattle.reclaimed_script.proofs.reading.read.Goals as goal
use Rattle.reclaimed_script.proofs.reading.read.Goals.{in-Bytes+in_ok-feed-in-Bytes, in-Interrupted+else-idle-ge-IDLE_TURNS}

pub returns-in_err-feed-in-Bytes : goal.returns-in_err-feed-in-Bytes
returns-in_err-feed-in-Bytes g c =
    let p = err_from_is_err_and c.from_residual.result c.from_residual.ensures.1 in
    rw (p.1, p.2) (Reads-stop (g.R.Read.remaining c.args.input.now) (g.R.Read.remaining c.loop.input) (g.R.Read.remaining c.next_bytes.new.input) c.loop.parser (take c.in-Bytes.count c.next_bytes.new.buffer) c.in_err-feed-in-Bytes.field-0.0 c.in-Bytes.ensures.bytes c.in_err-feed-in-Bytes.ensures.err c.loop.invariant.reads)

pub returns-in-End : goal.returns-in-End
returns-in-End g c = Reads-end (g.R.Read.remaining c.args.input.now) (g.R.Read.remaining c.loop.input) (g.R.Read.remaining c.next_bytes.new.input) c.loop.parser c.finish.result c.in-End.ensures.bytes.1 c.finish.ensures c.loop.invariant.reads

pub returns-then-idle-ge-IDLE_TURNS : goal.returns-then-idle-ge-IDLE_TURNS
returns-then-idle-ge-IDLE_TURNS g c = Reads-failed (g.R.Read.remaining c.args.input.now) (g.R.Read.remaining c.loop.input) (g.R.Read.remaining c.next_bytes.new.input) c.loop.parser c.read_failed.result c.read_failed.ensures c.in-Interrupted.ensures.bytes c.loop.invariant.reads

pub returns-in-Failed : goal.returns-in-Failed
returns-in-Failed g c = Reads-failed (g.R.Read.remaining c.args.input.now) (g.R.Read.remaining c.loop.input) (g.R.Read.remaining c.next_bytes.new.input) c.loop.parser c.read_failed-in-Failed.result c.read_failed-in-Failed.ensures c.in-Failed.ensures.bytes c.loop.invariant.reads

pub loop-preserved : goal.loop-preserved
loop-preserved g c =
    let To : Parser → Type 0 = λ p. ReadTo (g.R.Read.remaining c.args.input.now) (g.R.Read.remaining c.next_bytes.new.input) p in
    elim c.match-next_bytes.branch [
      | in-Bytes+in_ok-feed-in-Bytes w ↦ record {
        idle_few = rw w.idle-is c.loop.invariant.idle_few;
        reads = subst To (sym w.parser-is) (ReadTo-bytes (g.R.Read.remaining c.args.input.now) (g.R.Read.remaining c.loop.input) (g.R.Read.remaining c.next_bytes.new.input) c.loop.parser w.feed.new.self (take w.in-Bytes.count c.next_bytes.new.buffer) w.in-Bytes.ensures.bytes w.in_ok-feed-in-Bytes.ensures.ok c.loop.invariant.reads);
      }
      | in-Interrupted+else-idle-ge-IDLE_TURNS w ↦ record {
        idle_few = omega (arith, w.idle-is, w.if-idle-ge-IDLE_TURNS.false);
        reads = subst To (sym w.parser-is) (ReadTo-keeps (g.R.Read.remaining c.args.input.now) (g.R.Read.remaining c.loop.input) (g.R.Read.remaining c.next_bytes.new.input) c.loop.parser w.in-Interrupted.ensures.bytes c.loop.invariant.reads);
      }
    ]

pub returns : goal.returns
returns g c = Reads-failed (g.R.Read.remaining c.args.input.now) (g.R.Read.remaining c.loop.input) (g.R.Read.remaining c.loop.input) c.loop.parser c.read_failed-2.result c.read_failed-2.ensures (Keeps-same (g.R.Read.remaining c.loop.input)) c.loop.invariant.reads
