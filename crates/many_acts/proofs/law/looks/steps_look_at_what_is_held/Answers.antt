-- Each block that a step looks at.
use Rattle.seize_acts.proofs.Acts.Stays.{held_stay}
use Rattle.many_acts.proofs.Looks.Looks.{steps_look}
use Rattle.many_acts.proofs.Looks.Lookups.{lookups_look}
use Rattle.many_acts.proofs.Looks.Makings.{makings_look}
use Rattle.many_acts.proofs.law.looks.steps_look_at_what_is_held.Goals as goal

pub returns : goal.returns
returns c d = record { held = steps_look _; lookups = lookups_look _; stays = held_stay; makings = makings_look _ }
