-- The numbers and names of the faults.
use Rattle.std.specs.Prelude.{ℕ, List, codes}
use Rattle.seize_words.specs.declared.fault.Fault.{Fault}
use Rattle.seize_words.specs.declared.fault.Fault.TheVariants.{ForeignGuard, ZeroChunk, Capacity, SlotsUsedUp, CollectorsUsedUp, RootsUsedUp, GuardsFull, RemoveNothing, Busy, Memory}

abbrev pub number_of : Fault → ℕ
number_of ForeignGuard = 1
number_of ZeroChunk = 2
number_of Capacity = 3
number_of SlotsUsedUp = 4
number_of CollectorsUsedUp = 5
number_of RootsUsedUp = 6
number_of GuardsFull = 7
number_of RemoveNothing = 8
number_of Busy = 9
number_of Memory = 10

-- the name that is printed
abbrev pub name_of : Fault → List ℕ
name_of ForeignGuard = codes "ForeignGuard"
name_of ZeroChunk = codes "ZeroChunk"
name_of Capacity = codes "Capacity"
name_of SlotsUsedUp = codes "SlotsUsedUp"
name_of CollectorsUsedUp = codes "CollectorsUsedUp"
name_of RootsUsedUp = codes "RootsUsedUp"
name_of GuardsFull = codes "GuardsFull"
name_of RemoveNothing = codes "RemoveNothing"
name_of Busy = codes "Busy"
name_of Memory = codes "Memory"

-- its name, and what it says in a few words
abbrev pub text_of : Fault → List ℕ
text_of ForeignGuard = codes "ForeignGuard: a guard, registration or pass of another collector"
text_of ZeroChunk = codes "ZeroChunk: a chunk has no places"
text_of Capacity = codes "Capacity: a table would be too long, or a count too great"
text_of SlotsUsedUp = codes "SlotsUsedUp: each slot is in use"
text_of CollectorsUsedUp = codes "CollectorsUsedUp: each number of a collector was given"
text_of RootsUsedUp = codes "RootsUsedUp: each root is in use"
text_of GuardsFull = codes "GuardsFull: the registration can count no further guard"
text_of RemoveNothing = codes "RemoveNothing: nothing is there to be removed"
text_of Busy = codes "Busy: out of turn, or of an unknown name"
text_of Memory = codes "Memory: memory was refused"
