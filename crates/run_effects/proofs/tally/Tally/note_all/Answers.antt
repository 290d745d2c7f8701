-- All effects of an event are noted.
use Rattle.std.proofs.lemmas.List.{get_or_default}
use Rattle.run_effects.proofs.Tallies.Tallies.{notes_all, notes_first, notes_next}
use Rattle.run_effects.proofs.tally.Tally.note_all.Goals as goal

pub loop-effect-init : goal.loop-effect-init
loop-effect-init c = notes_first c.args.map c.args.self.now c.args.effects.now

pub loop-effect-preserved : goal.loop-effect-preserved
loop-effect-preserved c =
    notes_next c.args.map c.args.self.now c.args.effects.now c.loop-effect.effect-index _ c.loop-effect-test.true
    (get_or_default c.args.effects.now c.loop-effect.effect-index _ _ c.loop-effect-test.true) c.loop-effect.self c.note.new.self c.loop-effect.invariant c.in_ok-note.ensures

pub returns : goal.returns
returns c = notes_all c.args.map c.args.self.now c.args.effects.now c.loop-effect.effect-index c.loop-effect-test.false c.loop-effect.self c.loop-effect.invariant
