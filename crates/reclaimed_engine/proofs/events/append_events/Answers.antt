use Rattle.std.proofs.Common.{◌++◌, sym, ap, ◌∙◌}
use Rattle.std.proofs.lemmas.Iterator.{YieldsList-from_slice, YieldsList-from_zip}
use Rattle.std.proofs.lemmas.Iterator.Consumers.{YieldsList-end}
use Rattle.std.proofs.lemmas.List.Folds.{flat_map-map}
use Rattle.reclaimed_engine.specs.PrintedText.Text.{event_lines}
use Rattle.reclaimed_engine.proofs.events.append_events.Goals as goal

pub returns : goal.returns
returns c =
    let both = YieldsList-from_zip (YieldsList-from_slice c.args.run.now.outcomes.items cc) (YieldsList-from_slice c.args.run.now.effects.items cc) in
    let end = YieldsList-end both c.loop-outcome.yielded c.loop-outcome.outcome-iterator c.loop-outcome.yielded_by c.next.result c.next.new.self c.in-None.is c.next.ensures.steps in
    let read = flat_map-map (event_lines c.args.run.now) (λ event. (event.0.now, event.1.now)) c.loop-outcome.yielded in
    rw (sym end.0) (c.loop-outcome.invariant ∙ ap (λ lines. c.args.out.now.items ++ lines) (sym read))
