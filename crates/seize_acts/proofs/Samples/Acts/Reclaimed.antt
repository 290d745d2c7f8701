-- What waits in the batch of a slot that was given up is left still, and is reclaimed once the slot was taken again and flushed.
use Rattle.std.specs.Prelude.{Some, None}
use Rattle.std.proofs.Common.{◌≡◌, ℕ, true, false, [], ◌∷◌, ◌++◌, refl}
use Rattle.seize_words.specs.declared.at.At.TheVariants.{Root, Slot}
use Rattle.seize_words.specs.OneMemory.Mem.{word_at}
use Rattle.seize_words.specs.OneMemory.Op.{Store}
use Rattle.seize.specs.declared.states.TheConstants.{BATCH}
use Rattle.seize.specs.Law.{is_retired}
use Rattle.seize.specs.World.{World, Rests, Vacant, Leave', Retire, Flush, Register', Unregister', at_start}
use Rattle.seize_acts.specs.Acts.Acts.{Act, Begin, Operate, Unlinks}
use Rattle.seize_acts.specs.Acts.Reclaimed.{HasNothingLeft}
use Rattle.seize_acts.proofs.Samples.Acts.Base.{plain, after, on, enters, links}

-- Batches are of two. Caller 0 retires block 1, leaves slot 0 and gives it up: block 1 waits in its batch.
abbrev begun : Act ℕ → World ℕ → World ℕ
begun act w = on plain 2 30 0 (after plain 2 (act ∷ []) w)

abbrev given_up : World ℕ
given_up =
    begun (Begin 0 (Unregister' 0) None) (begun (Begin 0 (Leave' 0) None)
    (begun (Begin 0 (Retire 0 1) None) (after plain 2 (enters ++ links ++ Operate 0 (Store (Root 0) 0) None (Unlinks 1 ∷ []) ∷ []) (at_start plain 1))))

waits : (given_up.row 0 ≡ Rests) × (given_up.uses 0 ≡ Vacant) × (is_retired 1 given_up.log ≡ true)
waits = (refl, refl, refl)

-- wrong: nothing is left there
left_is_refused : HasNothingLeft plain given_up → ⊥
left_is_refused h = let k = h.1 1 in cc k

-- The slot is taken again, flushed and given up.
abbrev cleared : World ℕ
cleared = begun (Begin 0 (Unregister' 0) None) (begun (Begin 0 (Flush 0) None) (begun (Begin 0 (Register' false) (Some 0)) given_up))

is_reclaimed : (cleared.row 0 ≡ Rests) × (cleared.uses 0 ≡ Vacant) × (is_retired 1 cleared.log ≡ false) × (word_at cleared.memory (Slot 0 BATCH) ≡ Some 0)
is_reclaimed = (refl, refl, refl, refl)
