use Rattle.seize_blocks.proofs.Digits.{is_power}
use Rattle.seize_blocks.proofs.home.power.Goals as goal

pub returns : goal.returns
returns g = is_power g.args.digits g.requires
