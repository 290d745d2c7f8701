-- The word is that of a pair.
use Rattle.owner_rests.proofs.Rests.Lasts.{can_show, shows_in}
use Rattle.owner_rests.proofs.last.shown.Goals as goal

pub shown_at-requires : goal.shown_at-requires
shown_at-requires g c = can_show c.args.memory.now c.args.word c.requires

pub returns : goal.returns
returns g c = shows_in c.args.memory.now c.args.word _ c.shown_at.ensures
