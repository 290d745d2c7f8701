-- Which answers an operation may have.
use Rattle.seize_words.specs.OneMemory.Op.{Op, Out, Load, Store, Swap, Add, Or, Exchange, Make, Take, Rewrite, Room, Found, Stored, Exchanged, Made, Taken, Roomed}

-- an answer of the kind that the operation has
abbrev pub IsAnswer : {T : Type 0} → Op T → Out T → Type 0
IsAnswer (Load at) (Found word) = Unit {0}
IsAnswer (Store at word) Stored = Unit {0}
IsAnswer (Swap at word) (Found old) = Unit {0}
IsAnswer (Add at by) (Found old) = Unit {0}
IsAnswer (Or at bits) (Found old) = Unit {0}
IsAnswer (Exchange at old new) (Exchanged found) = Unit {0}
IsAnswer (Make value words) (Made block) = Unit {0}
IsAnswer (Take block) (Taken value) = Unit {0}
IsAnswer (Rewrite block value) (Taken before) = Unit {0}
IsAnswer (Room bucket) (Roomed done) = Unit {0}
IsAnswer op out = ⊥
