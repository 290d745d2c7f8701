use Rattle.std.proofs.Common.{◌∙◌, sym, ap}
use Rattle.std.specs.Option.{option_copied}
use Rattle.reclaimed_engine.proofs.PrintedText.PairLemmas.{pair_of-first, pair_of-second}
use Rattle.reclaimed_engine.proofs.pieces.pair_of.Goals as goal

pub returns-in-Some : goal.returns-in-Some
returns-in-Some c = sym (pair_of-first c.args.run.now c.args.number c.in-Some.pair.now (sym c.find.ensures ∙ ap option_copied c.in-Some.is))

pub returns-in-None : goal.returns-in-None
returns-in-None c =
    c.find-in-None.ensures ∙ sym (pair_of-second c.args.run.now c.args.number (sym c.find.ensures ∙ ap option_copied c.in-None.is))
