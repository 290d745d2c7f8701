use Rattle.reclaimed_script.proofs.ParserLemmas.{IsAt-new}
use Rattle.reclaimed_script.proofs.parser.Parser.new.Goals as goal

pub returns : goal.returns
returns c = rw (c.new.ensures.items, c.new-2.ensures.items) IsAt-new
