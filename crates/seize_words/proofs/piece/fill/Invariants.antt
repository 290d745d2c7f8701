use Rattle.std.proofs.Common.{◌≡◌, replicate}
use Rattle.core.specs.Mem.Slots.{slots_items, slots_filled, slots_ptr, slots_len}
use Rattle.core.specs.Mem.Slots.Ownership.{Filled}
use Rattle.seize_words.proofs.piece.fill.Given as goal

-- the words before this one are written
abbrev pub invariant-loop-index : goal.invariant-loop-index
invariant-loop-index l = record {
  written : Filled (slots_filled l.words) 0 l.index;
  zeros : slots_items l.words ≡ replicate l.fn.count 0;
  same : (slots_ptr l.words ≡ slots_ptr l.initial.words) × (slots_len l.words ≡ slots_len l.initial.words);
}
