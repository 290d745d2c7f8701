use Rattle.seize_words.specs.OneMemory.Op.{Rewrite}
use Rattle.threads_errands.proofs.Standing.{leaves}
use Rattle.threads_errands.proofs.ahead.memory.AheadMemoryNode.rewrite.Goals as goal

-- no operation of a call replaces a value
pub unreachable-requires : goal.unreachable-requires
unreachable-requires g c = let can = c.requires in
    absurd (leaves g.K.PartialEq.eq g.S.Hashes.hash can.hasher can.point c.args.self.now can.ahead (Rewrite c.args._block c.args._value) can.makes)
