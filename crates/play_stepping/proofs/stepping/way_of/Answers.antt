-- The number of a call and that of its map are told.
use Rattle.std.specs.Prelude.{option_copied}
use Rattle.std.proofs.Common.{sym, ap, ◌∙◌}
use Rattle.play_stepping.proofs.EventSteps.ByName.{called_so, is_called}
use Rattle.play_stepping.proofs.stepping.way_of.Goals as goal
use Rattle.seize_words.proofs.General.{same_some as the}

pub unreachable-requires : goal.unreachable-requires
unreachable-requires g c = is_called c.args.caller.now c.args.calls.now c.requires (sym c.get.ensures ∙ ap option_copied c.in_default.is)

pub returns : goal.returns
returns g c = λ place called is.
    ap (λ d. (d.number, d.map)) (the c.in-Some.called.now called (c.in-Some.ensures ∙ called_so c.args.caller.now c.args.calls.now place called is))
