-- What is promised of the waiting sets by themselves.
use Rattle.std.specs.Prelude.{◌≡◌, ℕ, ◌+◌, ◌≤◌, List, [], ◌++◌, length, map}
use Rattle.seize.specs.WaitingSets.{Sets, Change, Retires, Defers, Ends, at_start, quietly, then_also, further_of_all, opened, size, emptied, all_reclaimed, changed, all_changed}
use Rattle.seize_moves.specs.Waiting.Held.{same, count, weight_put, held, Tidy, bare, all_held}
use Rattle.seize_moves.specs.Waiting.Changes.{numbers_of, active_after, MayChange, kept, with_further, Keeps}
use Rattle.seize_moves.specs.Waiting.Following.{numbers_of_all, active_after_all, MayChangeAll, LeavesAlone}
use Rattle.seize_moves.specs.Waiting.Handed.{HandOverBy, WaitsNow}

-- before the first change the sets are tidy
abbrev pub TidyAtStart : Type 0
TidyAtStart = Tidy at_start

-- what stands in a slot's open batch stands in the sets, beside what waits behind others
abbrev pub OpenIsHeld : Type 0
OpenIsHeld = (n s : ℕ) (w : Sets) → Tidy (bare w) → count n (w.open_batch s) + weight_put (same n) w.further ≤ all_held n w

module _ (batch_size : ℕ) where
  -- a change that may come keeps every number, where none stands twice, nor comes to by what it retires
  abbrev pub ChangesKeep : Type 0
  ChangesKeep =
      (c : Change) (w : Sets) → Tidy (bare w) → ((n : ℕ) → all_held n w + count n (numbers_of c) ≤ 1) → MayChange c w
      → Keeps w (numbers_of c) (active_after c w.active) (changed batch_size c w)

  -- and so do changes that may come one after another, each where it does
  abbrev pub AllChangesKeep : Type 0
  AllChangesKeep =
      (changes : List Change) (w : Sets) → Tidy (bare w) → ((n : ℕ) → all_held n w + count n (numbers_of_all changes) ≤ 1) → MayChangeAll batch_size changes w
      → Keeps w (numbers_of_all changes) (active_after_all changes w.active) (all_changed batch_size changes w)

  -- changes, and others behind them, are these and then those
  abbrev pub ChangesFollow : Type 0
  ChangesFollow =
      (first second : List Change) (w : Sets)
      → all_changed batch_size (first ++ second) w ≡ then_also (all_changed batch_size first w) (all_changed batch_size second)

  -- a number that is put behind another is in the sets once more, and each other one as often as before
  abbrev pub DeferredIsHeld : Type 0
  DeferredIsHeld = (n behind m : ℕ) (w : Sets) → all_held m (changed batch_size (Defers n behind) w).sets ≡ all_held m w + same m n

  -- a change leaves alone the open batch of each slot that it isn't of
  abbrev pub OthersAreLeftAlone : Type 0
  OthersAreLeftAlone = (c : Change) (t : ℕ) (w : Sets) → LeavesAlone t c → (changed batch_size c w).sets.open_batch t ≡ w.open_batch t

  -- what an active slot hands over is in the sets then, and nothing was reclaimed
  abbrev pub HandedWaits : Type 0
  HandedWaits =
      (slot : ℕ) (changes : List Change) (w : Sets) → HandOverBy slot changes → Tidy (bare w) → 1 ≤ count slot w.active
      → WaitsNow changes w (all_changed batch_size changes w)

  -- a slot that is active reclaims nothing by what it retires
  abbrev pub ActiveSlotsWait : Type 0
  ActiveSlotsWait = (s n : ℕ) (w : Sets) → 1 ≤ count s w.active → (changed batch_size (Retires s n) w).reclaimed ≡ []

  -- with no slot active, one flush of each slot takes away at least as many numbers as stood in open batches
  abbrev pub RoundsTakeAway : Type 0
  RoundsTakeAway =
      (w : Sets) → Tidy (bare w) → ((n : ℕ) → all_held n w ≤ 1) → w.active ≡ []
      → size (emptied batch_size w.slots w).sets + length (opened w.slots w) ≤ size w

  -- after everything is reclaimed, no number stands in a batch
  abbrev pub NothingIsLeft : Type 0
  NothingIsLeft = (w : Sets) → Tidy (bare w) → ((n : ℕ) → all_held n w ≤ 1) → (n : ℕ) → held n (all_reclaimed batch_size w).sets ≡ 0

  -- These numbers end, one after another: nothing is reclaimed, what is behind them leaves the sets, each as often as it was there where no number
  -- ends twice, and all else stays.
  abbrev pub EndsLeave : Type 0
  EndsLeave =
      (numbers : List ℕ) (w : Sets)
      → let v = with_further w (kept numbers w.further) in
      (all_changed batch_size (map (λ t. Ends t) numbers) w ≡ quietly v)
      × ((n : ℕ) → held n v ≡ held n w)
      × (((c : ℕ) → count c numbers ≤ 1) → (n : ℕ) → weight_put (same n) v.further + count n (further_of_all numbers w.further) ≡ weight_put (same n) w.further)
