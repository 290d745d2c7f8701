-- Something has happened still, whatever registering tells.
use Rattle.std.specs.Prelude.{None}
use Rattle.std.proofs.Common.{true}
use Rattle.seize_tests.proofs.Tests.Slots.{told_still}
use Rattle.seize_tests.proofs.registering.asked.Goals as goal

pub returns : goal.returns
returns c =
    told_still (λ _. None) 0 0 c.register.new.memory true c.requires.0 c.register.result (c.register.ensures.told 0 0 c.requires.0 c.requires.1)
