-- Acts worked by hand, acts that can't be, and worlds that the laws refuse.
use Rattle.std.specs.Prelude.{Option, Some, None, IsSome}
use Rattle.std.proofs.Common.{◌≡◌, ℕ, true, false, List, [], ◌∷◌, ◌++◌, refl, inl, inr}
use Rattle.seize_words.specs.OneMemory.Word.{link_to}
use Rattle.seize_words.specs.declared.at.At.TheVariants.{Root, Slot}
use Rattle.seize_words.specs.OneMemory.Mem.{value_at, with_block, with_value}
use Rattle.seize_words.specs.OneMemory.Op.{Load, Store, Make, Take}
use Rattle.seize.specs.declared.states.TheConstants.{HEAD, IDLE}
use Rattle.seize.specs.Law.{Effect, Entered, Left, Linked, Unlinked, is_retired, holds, IsSound}
use Rattle.seize.specs.Law as law
use Rattle.seize.specs.Further.{FurtherAre}
use Rattle.seize.specs.World.{World, Rests, Handed, Enter', Leave', Retire, Flush, with_row, at_start}
use Rattle.seize.specs.WaitingSets.{is_one_of}
use Rattle.seize_acts.specs.Acts.Answers.{then_on}
use Rattle.seize_acts.specs.Acts.Acts.{Act, Begin, Step, Operate, Links, Parts, Unlinks, Ends, LeavesOver, MayTake}
use Rattle.seize_acts.specs.Acts.Laws.{IsNotLost}
use Rattle.seize_acts.specs.Acts.Stays.{how_many, is_making_of}
use Rattle.seize_acts.specs.Acts.Waits.{Waits}
use Rattle.seize_acts.proofs.Samples.Acts.Base.{all as all_acts, or_start, plain, enters, links}
use Rattle.seize_model.specs.Ends.Holders.{has_batch}
use Rattle.seize.specs.Settle.{flushing}

abbrev all : List (Act ℕ) → World ℕ → Option (World ℕ)
all = all_acts plain 1

abbrev log_after : List (Act ℕ) → Option (List Effect)
log_after acts = then_on (all acts (at_start plain 1)) (λ w. Some w.log)

-- it takes it off the root, and begins to retire it
abbrev cuts : List (Act ℕ)
cuts = Operate 0 (Store (Root 0) 0) None (Unlinks 1 ∷ []) ∷ Begin 0 (Retire 0 1) None ∷ []

-- the rest of the retirement: each is one operation
abbrev retires : List (Act ℕ)
retires = Step 0 None ∷ Step 0 None ∷ Step 0 None ∷ Step 0 None ∷ Step 0 None ∷ Step 0 None ∷ Step 0 None ∷ Step 0 None ∷ Step 0 None ∷ Step 0 None ∷ Step 0 None ∷ Step 0 None ∷ Step 0 None ∷ Step 0 None ∷ Step 0 None ∷ []

abbrev leaves : List (Act ℕ)
leaves = Begin 0 (Leave' 0) None ∷ Step 0 None ∷ Step 0 None ∷ Step 0 None ∷ Step 0 None ∷ Step 0 None ∷ []

-- the block is reclaimed as the only section ends
reclaimed : log_after (enters ++ links ++ cuts ++ retires ++ leaves) ≡ Some (law.Taken 1 ∷ Left 0 ∷ law.Retired 1 ∷ Unlinked 1 ∷ Linked 1 3 ∷ law.Made 1 ∷ Entered 0 ∷ [])
reclaimed = refl

-- wrong: while the section is open, the retirement has no further step
no_more : log_after (enters ++ links ++ cuts ++ retires ++ Step 0 None ∷ []) ≡ None
no_more = refl

-- wrong: a number is granted that isn't free
taken_number : log_after (links ++ Operate 0 (Make 8 0) (Some 1) [] ∷ []) ≡ None
taken_number = refl

-- a block gets any free number, also one far behind the table, and the numbers between stay free
abbrev far_numbers : List (Act ℕ)
far_numbers = Operate 0 (Make 8 0) (Some 6) [] ∷ Operate 0 (Make 9 0) (Some 4) [] ∷ []

made_far : then_on {Y = List (Option ℕ)} (all far_numbers (at_start plain 1)) (λ w. Some (value_at w.memory 4 ∷ value_at w.memory 5 ∷ value_at w.memory 6 ∷ [])) ≡ Some (Some 9 ∷ None ∷ Some 8 ∷ [])
made_far = refl

-- wrong: a block gets the number 0
number_0 : log_after (Operate 0 (Make 8 0) (Some 0) [] ∷ []) ≡ None
number_0 = refl

-- another caller than the one who made a block may hold it, and link it
handed_on : log_after (Operate 0 (Make 7 0) (Some 1) [] ∷ Operate 1 (Store (Root 0) (link_to 1)) None (Links 1 3 ∷ []) ∷ []) ≡ Some (Linked 1 3 ∷ law.Made 1 ∷ [])
handed_on = refl

-- wrong: a block is unlinked that is not linked
not_linked : log_after (Operate 0 (Make 7 0) (Some 1) [] ∷ Operate 0 (Store (Root 0) 0) None (Unlinks 1 ∷ []) ∷ []) ≡ None
not_linked = refl

-- a block is taken out of what it was in, and unlinked later
parts : log_after (links ++ Operate 0 (Load (Root 0)) None (Parts 1 ∷ []) ∷ Operate 0 (Store (Root 0) 0) None (Unlinks 1 ∷ []) ∷ []) ≡ Some (Unlinked 1 ∷ Linked 1 3 ∷ law.Made 1 ∷ [])
parts = refl

-- wrong: it is unlinked by another caller
parts_of_another : log_after (links ++ Operate 0 (Load (Root 0)) None (Parts 1 ∷ []) ∷ Operate 1 (Store (Root 0) 0) None (Unlinks 1 ∷ []) ∷ []) ≡ None
parts_of_another = refl

-- wrong: it is taken out once more
parts_twice : log_after (links ++ Operate 0 (Load (Root 0)) None (Parts 1 ∷ []) ∷ Operate 1 (Load (Root 0)) None (Parts 1 ∷ []) ∷ []) ≡ None
parts_twice = refl

-- wrong: a block is retired that is in use
in_use : log_after (enters ++ links ++ Begin 0 (Retire 0 1) None ∷ []) ≡ None
in_use = refl

-- wrong: a user takes a block that is in use, and writes a word of a slot
takes_in_use : log_after (links ++ Operate 0 (Take 1) None [] ∷ []) ≡ None
takes_in_use = refl

writes_slot : log_after (enters ++ Operate 0 (Store (Slot 0 HEAD) IDLE) None [] ∷ []) ≡ None
writes_slot = refl

-- wrong: a slot that nobody has registered is entered
not_registered : log_after (Begin 0 (Enter' 0) None ∷ []) ≡ None
not_registered = refl

-- owner 3 ends, and then its block is taken off the root and left over, in one act
abbrev ends : List (Act ℕ)
ends = Operate 0 (Load (Root 0)) None (Ends 3 ∷ []) ∷ Operate 0 (Store (Root 0) 0) None (Unlinks 1 ∷ LeavesOver 1 [] ∷ []) ∷ []

-- block 1 was in use until its owner ended: it may be taken away at once, while slot 0 is inside
taken_at_once : MayTake plain (Take 1) (or_start (all (enters ++ links ++ ends) (at_start plain 1)))
taken_at_once left = inl refl

-- wrong: it was unlinked before, and the section that held it is still open
taken_inside :
    MayTake plain (Take 1) (or_start (all (enters ++ links ++ Operate 0 (Store (Root 0) 0) None (Unlinks 1 ∷ []) ∷ Operate 0 (Load (Root 0)) None (Ends 3 ∷ LeavesOver 1 [] ∷ []) ∷ []) (at_start plain 1))) → ⊥
taken_inside may = elim (may refl) as (λ _. ⊥) [
  | inl over ↦ cc over
  | inr free ↦ let a = free 0 in cc a
]

-- wrong: a block is left over whose owner has not ended
left_by_another : log_after (links ++ Operate 0 (Load (Root 0)) None (Ends 4 ∷ []) ∷ Operate 0 (Store (Root 0) 0) None (Unlinks 1 ∷ LeavesOver 1 [] ∷ []) ∷ []) ≡ None
left_by_another = refl

-- A wrong row: its retirement forgets the block after the first operation, and rests. What it leaves is refused by the law.
abbrev forgotten : World ℕ
forgotten = with_row (or_start (all (enters ++ links ++ cuts) (at_start plain 1))) 0 Rests

has_it : (forgotten.hand 1 ≡ Handed) × (is_retired 1 forgotten.log ≡ false)
has_it = (refl, refl)

none_behind : (t : ℕ) (further : List ℕ) → FurtherAre plain forgotten.memory t further → is_one_of 1 further ≡ true → ⊥
none_behind t [] are e = absurd (cc e)
none_behind t (c ∷ further) are e = absurd (cc are.2)

forgets_its_block : IsNotLost plain forgotten 1 → ⊥
forgets_its_block (inl e) = absurd (cc e)
forgets_its_block (inr e) = none_behind e.0 e.1 e.2 e.3

-- through the retirement the section of slot 0 holds block 1, with its value, and no block was made under its number but itself
abbrev retired : World ℕ
retired = or_start (all (enters ++ links ++ cuts ++ retires) (at_start plain 1))

held_on : (holds 0 1 retired.log ≡ true) × (value_at retired.memory 1 ≡ Some 7) × (how_many (is_making_of 1) retired.log ≡ 1)
held_on = (refl, refl, refl)

-- A wrong row: it takes the block away while that section is open.
abbrev taken_early : World ℕ
taken_early = record retired { memory = with_block retired.memory 1 None }

takes_what_is_held : holds 0 1 taken_early.log ≡ true → IsSome (value_at taken_early.memory 1) → ⊥
takes_what_is_held held there = cc there

-- A wrong memory: it gives the number to another block while the section is open.
abbrev number_used : World ℕ
number_used = record retired { memory = with_value retired.memory 1 8; log = law.Made 1 ∷ retired.log }

uses_what_is_held : how_many (is_making_of 1) number_used.log ≡ how_many (is_making_of 1) retired.log → ⊥
uses_what_is_held same = cc same

made_while_held : IsSound number_used.log → ⊥
made_while_held sound = let free = sound.0 0 in cc free

-- caller 0 has taken hold of the batch of slot 0, and caller 1, which begins to flush it, waits
abbrev waiting : World ℕ
waiting = or_start (all (enters ++ links ++ cuts ++ Step 0 None ∷ Begin 1 (Flush 0) None ∷ []) (at_start plain 1))

waits_for : (has_batch 0 (waiting.row 0) ≡ true) × (has_batch 0 (waiting.row 1) ≡ false) × Waits plain (waiting.row 1) None waiting.memory
waits_for = (refl, refl, (waiting.memory, flushing 0 1, refl))

-- A wrong row: it rests, and never gave the batch up. Caller 1 waits for nobody.
abbrev left_held : World ℕ
left_held = with_row waiting 0 Rests

waits_for_nobody : (has_batch 0 (left_held.row 0) ≡ false) × (has_batch 0 (left_held.row 1) ≡ false) × Waits plain (left_held.row 1) None left_held.memory
waits_for_nobody = (refl, refl, (left_held.memory, flushing 0 1, refl))
