use Rattle.seize.specs.World.{at_start}
use Rattle.seize_model.proofs.Given.SeizeRuleWorld.Kept.{rows_sound, rows_may}
use Rattle.seize_model.proofs.Given.SeizeRuleWorld.Bounded.{garbage_bounded}
use Rattle.seize_acts.proofs.Acts.Fine.{all_fine}
use Rattle.seize_acts.proofs.Acts.Slots.{slots_are_first}
use Rattle.seize_acts.proofs.Acts.Steps.{steps_are_acts}
use Rattle.seize_acts.proofs.law.acts.acts_are_sound.Goals as goal

pub returns-clause-sound : goal.returns-clause-sound
returns-clause-sound c d defers size roots acts w h = let f = all_fine defers size acts (at_start defers roots) w h in rows_sound defers size roots f.0 w f.1

pub returns-clause-may : goal.returns-clause-may
returns-clause-may c d defers size roots acts w h i = let f = all_fine defers size acts (at_start defers roots) w h in rows_may defers size roots f.0 w f.1 i

pub returns-clause-bound : goal.returns-clause-bound
returns-clause-bound c d defers size roots acts w word h = let f = all_fine defers size acts (at_start defers roots) w h in garbage_bounded defers size roots f.0 w word f.1

pub returns-clause-all : goal.returns-clause-all
returns-clause-all c d = steps_are_acts

pub returns-clause-slots : goal.returns-clause-slots
returns-clause-slots c d = slots_are_first
