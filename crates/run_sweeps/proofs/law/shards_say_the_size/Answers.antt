-- Each map is counted, and a `len` tells its size.
use Rattle.run_sweeps.proofs.Sizes.Lens.{lens_tell_size}
use Rattle.run_sweeps.proofs.Sizes.Sizes.{shards_say_size}
use Rattle.run_sweeps.proofs.Sizes.WholeLens.{whole_lens_tell_size}
use Rattle.run_sweeps.proofs.law.shards_say_the_size.Goals as goal

pub returns : goal.returns
returns c d = record { sizes = shards_say_size _ _; lens = lens_tell_size _ _; whole = whole_lens_tell_size _ _ }
