-- It was just made.
use Rattle.papaya_seq.proofs.Stored.{made_first}
use Rattle.papaya_seq.proofs.set.json.HashSetGathers.none.Goals as goal

pub returns-in-Ok-clause-made : goal.returns-in-Ok-clause-made
returns-in-Ok-clause-made g c = let fresh = c.in-Ok.ensures in made_first g.K.PartialEq.eq c.in-Ok.set fresh.elements fresh.held fresh.last
