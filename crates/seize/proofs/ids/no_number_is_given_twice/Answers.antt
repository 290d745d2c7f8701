use Rattle.seize.proofs.Numbers.{never_twice}
use Rattle.seize.proofs.ids.no_number_is_given_twice.Goals as goal

pub returns : goal.returns
returns c = never_twice
