use Rattle.std.proofs.Common.{◌≡◌, ◌≤◌}
use Rattle.seize_tests.proofs.lending.make_and_lend.Given as goal

-- the seats are of this memory, and no more blocks are made than there are turns
abbrev pub invariant-loop-turn : goal.invariant-loop-turn
invariant-loop-turn l = (l.owner.base ≡ l.blocks.words.id.views_name) × (l.pass.base ≡ l.blocks.words.id.views_name) × (l.made ≤ l.turn)
