-- No key has two pairs in a map.
use Rattle.papaya_steps.proofs.WholeRuns.Classes.{keys_have_one_pair}
use Rattle.papaya_steps.proofs.law.keys_have_one_pair.Goals as goal

pub returns : goal.returns
returns g c = record { own = λ terms log legal. keys_have_one_pair g.K.PartialEq.eq g.met.K.Eq.laws terms log legal }
