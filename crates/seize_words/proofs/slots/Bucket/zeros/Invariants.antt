use Rattle.std.proofs.Common.{◌≡◌, replicate}
use Rattle.seize_words.specs.declared.slots.TheConstants.{SLOT_WORDS}
use Rattle.seize_words.proofs.slots.Bucket.zeros.Given as goal

-- as many slots so far, each word 0
abbrev pub invariant-loop-index : goal.invariant-loop-index
invariant-loop-index l = l.slots.items ≡ replicate l.index (replicate SLOT_WORDS 0)
