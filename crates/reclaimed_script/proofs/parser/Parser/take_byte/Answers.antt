use Rattle.reclaimed_script.proofs.ParserLemmas.{feed_ok, feed_err}
use Rattle.reclaimed_script.proofs.parser.Parser.take_byte.Goals as goal

pub returns-then-byte-eq10-clause-ok : goal.returns-then-byte-eq10-clause-ok
returns-then-byte-eq10-clause-ok c = feed_ok c.end_line.result c.args.self.now.events.items c.end_line.new.self.events.items c.args.self.now.lines c.end_line.new.self.lines c.args.self.now.line.items c.end_line.new.self.line.items c.args.byte c.if-byte-eq10.true c.end_line.ensures.events c.end_line.ensures.lines c.end_line.ensures.line

pub returns-then-byte-eq10-clause-err : goal.returns-then-byte-eq10-clause-err
returns-then-byte-eq10-clause-err c = feed_err c.end_line.result c.args.self.now.events.items c.args.self.now.lines c.args.self.now.line.items c.args.byte c.if-byte-eq10.true c.end_line.ensures.err
