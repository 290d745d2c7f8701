use Rattle.std.proofs.Common.{arith}
use Rattle.std.proofs.lemmas.Bool.{ne_eqb}
use Rattle.reclaimed_script.proofs.ParserLemmas.{stops_long}
use Rattle.reclaimed_script.proofs.parser.Parser.extend_line.Goals as goal

pub returns-then-len-ge-LINE_BYTES-clause-err : goal.returns-then-len-ge-LINE_BYTES-clause-err
returns-then-len-ge-LINE_BYTES-clause-err c = λ read rest at.
    let v = c.args.self.now.line.ok.0 in
    stops_long read c.args.self.now.events.items c.args.self.now.lines c.args.self.now.line.items rest c.args.byte (ne_eqb _ _ c.requires) (omega arith) at
