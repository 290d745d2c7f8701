-- Where each value is, between any two steps: none is lost.
use Rattle.std.specs.Prelude.{◌≡◌, ◌⊎◌, ℕ, Option, Some, IsSome}
use Rattle.seize_words.specs.OneMemory.Mem.{Mem, value_at}
use Rattle.seize.specs.World.{World}
use Rattle.seize_seats.specs.Seats.State.{State, view_of}
use Rattle.seize_views.specs.Reaches.Reached.{words_of_row, OneLeadsTo, IsOfASlot, IsOfABlock}
use Rattle.seize_views.specs.Views.Chains.{IsBelow}
use Rattle.seize_views.specs.Views.Rows.{row_of, IsSomeones, IsNamedAt, Holds}
use Rattle.seize_views.specs.declared.view.SlotView.{SlotView}
use Rattle.seize_views.specs.declared.view.Fixed.{Fixed}

module _ {T : Type 0} where
  -- some root names the block, or one that it stands so many links below
  abbrev pub IsAtARoot : Mem T → ℕ → Type 0
  IsAtARoot m b = (r n c : ℕ) × IsNamedAt m r c × IsBelow m n c b

  -- a word leads to it that some seat's row has at hand
  abbrev pub IsOfASeat : State T (SlotView T) (World T) → ℕ → Type 0
  IsOfASeat s b = (j : ℕ) × (v : SlotView T) × (view_of s j ≡ Some v) × OneLeadsTo s.memory b (words_of_row (row_of v))

  -- the collector has it: a word leads to it that is one of a slot, or of a seat's row, or of a block that is there
  abbrev pub IsReached : State T (SlotView T) (World T) → ℕ → Type 0
  IsReached s b = IsOfASlot s.memory b ⊎ IsOfASeat s b ⊎ IsOfABlock s.memory b

  -- it is in the hand that it was in as the present lifetime of the memory began: a seat of an earlier lifetime has kept it
  abbrev pub WasKept : World T → World T → ℕ → Type 0
  WasKept began w b = w.hand b ≡ began.hand b

module _ (T : Type 0) (defers : T → Option ℕ) where
  -- The promise: each value that is there, which is each one that was not reclaimed, some seat has in its hand, or a root names, or a chain has, or words lead to it from a
  -- slot, from what a seat has at hand, or from a block; but for those that seats of an earlier lifetime have kept.
  abbrev pub ValuesAreFound : Type 0
  ValuesAreFound =
      (fixed : Fixed) (s : State T (SlotView T) (World T)) (h : Holds defers fixed s) (b : ℕ) → IsSome (value_at s.memory b)
      → IsSomeones s b ⊎ IsAtARoot s.memory b ⊎ IsReached s b ⊎ WasKept h.life.began s.world b
