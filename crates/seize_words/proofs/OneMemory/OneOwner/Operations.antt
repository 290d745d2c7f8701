-- A step on a memory of one owner, by its operation: when it may be taken, and what it leaves.
use Rattle.std.specs.Prelude.{◌≡◌, ◌≢◌, ℕ, ◌+◌, ◌<◌, ◌^◌, ◌%◌, length, Some, None, Ok, Err, IsSome, ◌⊎◌, bit_or}
use Rattle.std.proofs.Common.{sym, subst, inl, inr}
use Rattle.seize_words.specs.declared.at.At.{At}
use Rattle.seize_words.specs.OneMemory.Op.{Op, Out, Load, Store, Swap, Add, Or, Exchange, Make, Take, Rewrite, Room, Found, Stored, Exchanged, Made, Taken, Roomed}
use Rattle.seize_words.specs.OneMemory.Mem.{Mem, word_at, with_word, with_block, with_value, with_room, value_at, IsFreeNumber, Can, Gives, after, Took}
use Rattle.seize_words.specs.declared.fault.Fault.{Fault}
use Rattle.seize_words.specs.declared.fault.Fault.TheVariants.{Memory}
use Rattle.seize_words.specs.OneMemory.Place.{capacity}
use Rattle.seize_words.specs.OneMemory.Plan.{Then, Do, May, MaySee, Steps, Ends}

module _ {T R : Type 0} where
  module _ (m : Mem T) (op : Op T) (rest : Out T → Then T R) where
    -- an operation may be made, if the rest may see whatever it answers
    may_do : Can m op → ((out : Out T) → Gives m op out → MaySee (value_at (after m op out)) (rest out)) → May Can Took value_at m (Do op rest)
    may_do can see = (can, λ out n t. subst (λ (x : Mem T). MaySee (value_at x) (rest out)) (sym t.1) (see out t.0))

    -- the answer, the memory after it, and how the rest ended there
    abbrev Did : Mem T → R → Type 0
    Did n end = (out : Out T) × Gives m op out × (n ≡ after m op out) × Ends (value_at (after m op out)) (rest out) end

    did : (n : Mem T) (end : R) → Steps Took value_at m (Do op rest) n end → Did n end
    did n end s = (s.0, s.1.0, s.1.1, subst (λ (x : Mem T). Ends (value_at x) (rest s.0) end) s.1.1 s.2)

  module _ (m : Mem T) (rest : Out T → Then T R) where
    -- a load changes nothing
    see_load : (at : At) → ((w : ℕ) → word_at m at ≡ Some w → MaySee (value_at (m)) (rest (Found w))) → (out : Out T) → Gives m (Load at) out → MaySee (value_at (after m (Load at) out)) (rest out)
    see_load at see (Found w) g = see w g
    see_load at see Stored g = absurd g
    see_load at see (Exchanged (Ok _)) g = absurd g
    see_load at see (Exchanged (Err _)) g = absurd g
    see_load at see (Made (Ok _)) g = absurd g
    see_load at see (Made (Err _)) g = absurd g
    see_load at see (Taken _) g = absurd g
    see_load at see (Roomed (Ok _)) g = absurd g
    see_load at see (Roomed (Err _)) g = absurd g

    pub may_load : (at : At) → IsSome (word_at m at) → ((w : ℕ) → word_at m at ≡ Some w → MaySee (value_at (m)) (rest (Found w))) → May Can Took value_at m (Do (Load at) rest)
    may_load at can see = may_do m (Load at) rest can (see_load at see)

    out_load : (at : At) (n : Mem T) (end : R) (out : Out T) → Gives m (Load at) out → n ≡ after m (Load at) out → Ends (value_at (after m (Load at) out)) (rest out) end
        → (w : ℕ) × (word_at m at ≡ Some w) × (n ≡ m) × Ends (value_at (m)) (rest (Found w)) end
    out_load at n end (Found w) g e ends = (w, g, e, ends)
    out_load at n end Stored g e ends = absurd g
    out_load at n end (Exchanged (Ok _)) g e ends = absurd g
    out_load at n end (Exchanged (Err _)) g e ends = absurd g
    out_load at n end (Made (Ok _)) g e ends = absurd g
    out_load at n end (Made (Err _)) g e ends = absurd g
    out_load at n end (Taken _) g e ends = absurd g
    out_load at n end (Roomed (Ok _)) g e ends = absurd g
    out_load at n end (Roomed (Err _)) g e ends = absurd g

    pub loaded : (at : At) (n : Mem T) (end : R) → Steps Took value_at m (Do (Load at) rest) n end
        → (w : ℕ) × (word_at m at ≡ Some w) × (n ≡ m) × Ends (value_at (m)) (rest (Found w)) end
    loaded at n end s = let d = did m (Load at) rest n end s in out_load at n end d.0 d.1 d.2 d.3

    -- a store
    see_store : (at : At) (new : ℕ) → MaySee (value_at (with_word m at new)) (rest Stored) → (out : Out T) → Gives m (Store at new) out → MaySee (value_at (after m (Store at new) out)) (rest out)
    see_store at new see (Found _) g = absurd g
    see_store at new see Stored g = see
    see_store at new see (Exchanged (Ok _)) g = absurd g
    see_store at new see (Exchanged (Err _)) g = absurd g
    see_store at new see (Made (Ok _)) g = absurd g
    see_store at new see (Made (Err _)) g = absurd g
    see_store at new see (Taken _) g = absurd g
    see_store at new see (Roomed (Ok _)) g = absurd g
    see_store at new see (Roomed (Err _)) g = absurd g

    pub may_store : (at : At) (new : ℕ) → IsSome (word_at m at) → MaySee (value_at (with_word m at new)) (rest Stored) → May Can Took value_at m (Do (Store at new) rest)
    may_store at new can see = may_do m (Store at new) rest can (see_store at new see)

    out_store : (at : At) (new : ℕ) (n : Mem T) (end : R) (out : Out T) → Gives m (Store at new) out → n ≡ after m (Store at new) out → Ends (value_at (after m (Store at new) out)) (rest out) end
        → (n ≡ with_word m at new) × Ends (value_at (with_word m at new)) (rest Stored) end
    out_store at new n end (Found _) g e ends = absurd g
    out_store at new n end Stored g e ends = (e, ends)
    out_store at new n end (Exchanged (Ok _)) g e ends = absurd g
    out_store at new n end (Exchanged (Err _)) g e ends = absurd g
    out_store at new n end (Made (Ok _)) g e ends = absurd g
    out_store at new n end (Made (Err _)) g e ends = absurd g
    out_store at new n end (Taken _) g e ends = absurd g
    out_store at new n end (Roomed (Ok _)) g e ends = absurd g
    out_store at new n end (Roomed (Err _)) g e ends = absurd g

    pub stored : (at : At) (new : ℕ) (n : Mem T) (end : R) → Steps Took value_at m (Do (Store at new) rest) n end
        → (n ≡ with_word m at new) × Ends (value_at (with_word m at new)) (rest Stored) end
    stored at new n end s = let d = did m (Store at new) rest n end s in out_store at new n end d.0 d.1 d.2 d.3

    -- a swap
    see_swap : (at : At) (new : ℕ) → ((w : ℕ) → word_at m at ≡ Some w → MaySee (value_at (with_word m at new)) (rest (Found w))) → (out : Out T) → Gives m (Swap at new) out → MaySee (value_at (after m (Swap at new) out)) (rest out)
    see_swap at new see (Found w) g = see w g
    see_swap at new see Stored g = absurd g
    see_swap at new see (Exchanged (Ok _)) g = absurd g
    see_swap at new see (Exchanged (Err _)) g = absurd g
    see_swap at new see (Made (Ok _)) g = absurd g
    see_swap at new see (Made (Err _)) g = absurd g
    see_swap at new see (Taken _) g = absurd g
    see_swap at new see (Roomed (Ok _)) g = absurd g
    see_swap at new see (Roomed (Err _)) g = absurd g

    pub may_swap : (at : At) (new : ℕ) → IsSome (word_at m at) → ((w : ℕ) → word_at m at ≡ Some w → MaySee (value_at (with_word m at new)) (rest (Found w))) → May Can Took value_at m (Do (Swap at new) rest)
    may_swap at new can see = may_do m (Swap at new) rest can (see_swap at new see)

    out_swap : (at : At) (new : ℕ) (n : Mem T) (end : R) (out : Out T) → Gives m (Swap at new) out → n ≡ after m (Swap at new) out → Ends (value_at (after m (Swap at new) out)) (rest out) end
        → (w : ℕ) × (word_at m at ≡ Some w) × (n ≡ with_word m at new) × Ends (value_at (with_word m at new)) (rest (Found w)) end
    out_swap at new n end (Found w) g e ends = (w, g, e, ends)
    out_swap at new n end Stored g e ends = absurd g
    out_swap at new n end (Exchanged (Ok _)) g e ends = absurd g
    out_swap at new n end (Exchanged (Err _)) g e ends = absurd g
    out_swap at new n end (Made (Ok _)) g e ends = absurd g
    out_swap at new n end (Made (Err _)) g e ends = absurd g
    out_swap at new n end (Taken _) g e ends = absurd g
    out_swap at new n end (Roomed (Ok _)) g e ends = absurd g
    out_swap at new n end (Roomed (Err _)) g e ends = absurd g

    pub swapped : (at : At) (new : ℕ) (n : Mem T) (end : R) → Steps Took value_at m (Do (Swap at new) rest) n end
        → (w : ℕ) × (word_at m at ≡ Some w) × (n ≡ with_word m at new) × Ends (value_at (with_word m at new)) (rest (Found w)) end
    swapped at new n end s = let d = did m (Swap at new) rest n end s in out_swap at new n end d.0 d.1 d.2 d.3

    -- an add
    see_add : (at : At) (by : ℕ) → ((w : ℕ) → word_at m at ≡ Some w → MaySee (value_at (with_word m at ((w + by) % 2 ^ 64))) (rest (Found w))) → (out : Out T) → Gives m (Add at by) out → MaySee (value_at (after m (Add at by) out)) (rest out)
    see_add at by see (Found w) g = see w g
    see_add at by see Stored g = absurd g
    see_add at by see (Exchanged (Ok _)) g = absurd g
    see_add at by see (Exchanged (Err _)) g = absurd g
    see_add at by see (Made (Ok _)) g = absurd g
    see_add at by see (Made (Err _)) g = absurd g
    see_add at by see (Taken _) g = absurd g
    see_add at by see (Roomed (Ok _)) g = absurd g
    see_add at by see (Roomed (Err _)) g = absurd g

    pub may_add : (at : At) (by : ℕ) → IsSome (word_at m at) → ((w : ℕ) → word_at m at ≡ Some w → MaySee (value_at (with_word m at ((w + by) % 2 ^ 64))) (rest (Found w))) → May Can Took value_at m (Do (Add at by) rest)
    may_add at by can see = may_do m (Add at by) rest can (see_add at by see)

    out_add : (at : At) (by : ℕ) (n : Mem T) (end : R) (out : Out T) → Gives m (Add at by) out → n ≡ after m (Add at by) out → Ends (value_at (after m (Add at by) out)) (rest out) end
        → (w : ℕ) × (word_at m at ≡ Some w) × (n ≡ with_word m at ((w + by) % 2 ^ 64)) × Ends (value_at (with_word m at ((w + by) % 2 ^ 64))) (rest (Found w)) end
    out_add at by n end (Found w) g e ends = (w, g, e, ends)
    out_add at by n end Stored g e ends = absurd g
    out_add at by n end (Exchanged (Ok _)) g e ends = absurd g
    out_add at by n end (Exchanged (Err _)) g e ends = absurd g
    out_add at by n end (Made (Ok _)) g e ends = absurd g
    out_add at by n end (Made (Err _)) g e ends = absurd g
    out_add at by n end (Taken _) g e ends = absurd g
    out_add at by n end (Roomed (Ok _)) g e ends = absurd g
    out_add at by n end (Roomed (Err _)) g e ends = absurd g

    pub added : (at : At) (by : ℕ) (n : Mem T) (end : R) → Steps Took value_at m (Do (Add at by) rest) n end
        → (w : ℕ) × (word_at m at ≡ Some w) × (n ≡ with_word m at ((w + by) % 2 ^ 64)) × Ends (value_at (with_word m at ((w + by) % 2 ^ 64))) (rest (Found w)) end
    added at by n end s = let d = did m (Add at by) rest n end s in out_add at by n end d.0 d.1 d.2 d.3

    -- an or
    see_or : (at : At) (bits : ℕ) → ((w : ℕ) → word_at m at ≡ Some w → MaySee (value_at (with_word m at (bit_or w bits))) (rest (Found w))) → (out : Out T) → Gives m (Or at bits) out → MaySee (value_at (after m (Or at bits) out)) (rest out)
    see_or at bits see (Found w) g = see w g
    see_or at bits see Stored g = absurd g
    see_or at bits see (Exchanged (Ok _)) g = absurd g
    see_or at bits see (Exchanged (Err _)) g = absurd g
    see_or at bits see (Made (Ok _)) g = absurd g
    see_or at bits see (Made (Err _)) g = absurd g
    see_or at bits see (Taken _) g = absurd g
    see_or at bits see (Roomed (Ok _)) g = absurd g
    see_or at bits see (Roomed (Err _)) g = absurd g

    pub may_or : (at : At) (bits : ℕ) → IsSome (word_at m at) → ((w : ℕ) → word_at m at ≡ Some w → MaySee (value_at (with_word m at (bit_or w bits))) (rest (Found w))) → May Can Took value_at m (Do (Or at bits) rest)
    may_or at bits can see = may_do m (Or at bits) rest can (see_or at bits see)

    out_or : (at : At) (bits : ℕ) (n : Mem T) (end : R) (out : Out T) → Gives m (Or at bits) out → n ≡ after m (Or at bits) out → Ends (value_at (after m (Or at bits) out)) (rest out) end
        → (w : ℕ) × (word_at m at ≡ Some w) × (n ≡ with_word m at (bit_or w bits)) × Ends (value_at (with_word m at (bit_or w bits))) (rest (Found w)) end
    out_or at bits n end (Found w) g e ends = (w, g, e, ends)
    out_or at bits n end Stored g e ends = absurd g
    out_or at bits n end (Exchanged (Ok _)) g e ends = absurd g
    out_or at bits n end (Exchanged (Err _)) g e ends = absurd g
    out_or at bits n end (Made (Ok _)) g e ends = absurd g
    out_or at bits n end (Made (Err _)) g e ends = absurd g
    out_or at bits n end (Taken _) g e ends = absurd g
    out_or at bits n end (Roomed (Ok _)) g e ends = absurd g
    out_or at bits n end (Roomed (Err _)) g e ends = absurd g

    pub ored : (at : At) (bits : ℕ) (n : Mem T) (end : R) → Steps Took value_at m (Do (Or at bits) rest) n end
        → (w : ℕ) × (word_at m at ≡ Some w) × (n ≡ with_word m at (bit_or w bits)) × Ends (value_at (with_word m at (bit_or w bits))) (rest (Found w)) end
    ored at bits n end s = let d = did m (Or at bits) rest n end s in out_or at bits n end d.0 d.1 d.2 d.3

    -- a take
    see_take : (b : ℕ) → ((value : T) → value_at m b ≡ Some value → MaySee (value_at (with_block m b None)) (rest (Taken value))) → (out : Out T) → Gives m (Take b) out → MaySee (value_at (after m (Take b) out)) (rest out)
    see_take b see (Found _) g = absurd g
    see_take b see Stored g = absurd g
    see_take b see (Exchanged (Ok _)) g = absurd g
    see_take b see (Exchanged (Err _)) g = absurd g
    see_take b see (Made (Ok _)) g = absurd g
    see_take b see (Made (Err _)) g = absurd g
    see_take b see (Taken value) g = see value g
    see_take b see (Roomed (Ok _)) g = absurd g
    see_take b see (Roomed (Err _)) g = absurd g

    pub may_take : (b : ℕ) → IsSome (value_at m b) → ((value : T) → value_at m b ≡ Some value → MaySee (value_at (with_block m b None)) (rest (Taken value))) → May Can Took value_at m (Do (Take b) rest)
    may_take b can see = may_do m (Take b) rest can (see_take b see)

    out_take : (b : ℕ) (n : Mem T) (end : R) (out : Out T) → Gives m (Take b) out → n ≡ after m (Take b) out → Ends (value_at (after m (Take b) out)) (rest out) end
        → (value : T) × (value_at m b ≡ Some value) × (n ≡ with_block m b None) × Ends (value_at (with_block m b None)) (rest (Taken value)) end
    out_take b n end (Found _) g e ends = absurd g
    out_take b n end Stored g e ends = absurd g
    out_take b n end (Exchanged (Ok _)) g e ends = absurd g
    out_take b n end (Exchanged (Err _)) g e ends = absurd g
    out_take b n end (Made (Ok _)) g e ends = absurd g
    out_take b n end (Made (Err _)) g e ends = absurd g
    out_take b n end (Taken value) g e ends = (value, g, e, ends)
    out_take b n end (Roomed (Ok _)) g e ends = absurd g
    out_take b n end (Roomed (Err _)) g e ends = absurd g

    pub taken : (b : ℕ) (n : Mem T) (end : R) → Steps Took value_at m (Do (Take b) rest) n end
        → (value : T) × (value_at m b ≡ Some value) × (n ≡ with_block m b None) × Ends (value_at (with_block m b None)) (rest (Taken value)) end
    taken b n end s = let d = did m (Take b) rest n end s in out_take b n end d.0 d.1 d.2 d.3

    out_rewrite : (b : ℕ) (new : T) (n : Mem T) (end : R) (out : Out T) → Gives m (Rewrite b new) out → n ≡ after m (Rewrite b new) out
        → Ends (value_at (after m (Rewrite b new) out)) (rest out) end
        → (value : T) × (value_at m b ≡ Some value) × (n ≡ with_value m b new) × Ends (value_at (with_value m b new)) (rest (Taken value)) end
    out_rewrite b new n end (Found _) g e ends = absurd g
    out_rewrite b new n end Stored g e ends = absurd g
    out_rewrite b new n end (Exchanged (Ok _)) g e ends = absurd g
    out_rewrite b new n end (Exchanged (Err _)) g e ends = absurd g
    out_rewrite b new n end (Made (Ok _)) g e ends = absurd g
    out_rewrite b new n end (Made (Err _)) g e ends = absurd g
    out_rewrite b new n end (Taken value) g e ends = (value, g, e, ends)
    out_rewrite b new n end (Roomed (Ok _)) g e ends = absurd g
    out_rewrite b new n end (Roomed (Err _)) g e ends = absurd g

    pub rewritten : (b : ℕ) (new : T) (n : Mem T) (end : R) → Steps Took value_at m (Do (Rewrite b new) rest) n end
        → (value : T) × (value_at m b ≡ Some value) × (n ≡ with_value m b new) × Ends (value_at (with_value m b new)) (rest (Taken value)) end
    rewritten b new n end s = let d = did m (Rewrite b new) rest n end s in out_rewrite b new n end d.0 d.1 d.2 d.3

    -- an exchange writes where it found the old word, and else changes nothing
    see_exchange : (at : At) (old new : ℕ) → ((w : ℕ) → (word_at m at ≡ Some w) × (w ≡ old) → MaySee (value_at (with_word m at new)) (rest (Exchanged (Ok w))))
        → ((w : ℕ) → (word_at m at ≡ Some w) × (w ≢ old) → MaySee (value_at (m)) (rest (Exchanged (Err w))))
        → (out : Out T) → Gives m (Exchange at old new) out → MaySee (value_at (after m (Exchange at old new) out)) (rest out)
    see_exchange at old new done refused (Found _) g = absurd g
    see_exchange at old new done refused Stored g = absurd g
    see_exchange at old new done refused (Exchanged (Ok w)) g = done w g
    see_exchange at old new done refused (Exchanged (Err w)) g = refused w g
    see_exchange at old new done refused (Made (Ok _)) g = absurd g
    see_exchange at old new done refused (Made (Err _)) g = absurd g
    see_exchange at old new done refused (Taken _) g = absurd g
    see_exchange at old new done refused (Roomed (Ok _)) g = absurd g
    see_exchange at old new done refused (Roomed (Err _)) g = absurd g

    pub may_exchange : (at : At) (old new : ℕ) → IsSome (word_at m at) → ((w : ℕ) → (word_at m at ≡ Some w) × (w ≡ old) → MaySee (value_at (with_word m at new)) (rest (Exchanged (Ok w))))
        → ((w : ℕ) → (word_at m at ≡ Some w) × (w ≢ old) → MaySee (value_at (m)) (rest (Exchanged (Err w))))
        → May Can Took value_at m (Do (Exchange at old new) rest)
    may_exchange at old new can done refused = may_do m (Exchange at old new) rest can (see_exchange at old new done refused)

    out_exchange : (at : At) (old new : ℕ) (n : Mem T) (end : R) (out : Out T) → Gives m (Exchange at old new) out → n ≡ after m (Exchange at old new) out → Ends (value_at (after m (Exchange at old new) out)) (rest out) end
        → ((w : ℕ) × ((word_at m at ≡ Some w) × (w ≡ old)) × (n ≡ with_word m at new) × Ends (value_at (with_word m at new)) (rest (Exchanged (Ok w))) end)
        ⊎ ((w : ℕ) × ((word_at m at ≡ Some w) × (w ≢ old)) × (n ≡ m) × Ends (value_at (m)) (rest (Exchanged (Err w))) end)
    out_exchange at old new n end (Found _) g e ends = absurd g
    out_exchange at old new n end Stored g e ends = absurd g
    out_exchange at old new n end (Exchanged (Ok w)) g e ends = inl (w, g, e, ends)
    out_exchange at old new n end (Exchanged (Err w)) g e ends = inr (w, g, e, ends)
    out_exchange at old new n end (Made (Ok _)) g e ends = absurd g
    out_exchange at old new n end (Made (Err _)) g e ends = absurd g
    out_exchange at old new n end (Taken _) g e ends = absurd g
    out_exchange at old new n end (Roomed (Ok _)) g e ends = absurd g
    out_exchange at old new n end (Roomed (Err _)) g e ends = absurd g

    pub exchanged : (at : At) (old new : ℕ) (n : Mem T) (end : R) → Steps Took value_at m (Do (Exchange at old new) rest) n end
        → ((w : ℕ) × ((word_at m at ≡ Some w) × (w ≡ old)) × (n ≡ with_word m at new) × Ends (value_at (with_word m at new)) (rest (Exchanged (Ok w))) end)
        ⊎ ((w : ℕ) × ((word_at m at ≡ Some w) × (w ≢ old)) × (n ≡ m) × Ends (value_at (m)) (rest (Exchanged (Err w))) end)
    exchanged at old new n end s = let d = did m (Exchange at old new) rest n end s in out_exchange at old new n end d.0 d.1 d.2 d.3

    -- a make gives a new number, or the value back
    see_make : (value : T) (words : ℕ) → ((b : ℕ) → IsFreeNumber m b × (b < 2 ^ 53) → MaySee (value_at (after m (Make value words) (Made (Ok b)))) (rest (Made (Ok b))))
        → ((back : T) → back ≡ value → MaySee (value_at (m)) (rest (Made (Err back))))
        → (out : Out T) → Gives m (Make value words) out → MaySee (value_at (after m (Make value words) out)) (rest out)
    see_make value words done refused (Found _) g = absurd g
    see_make value words done refused Stored g = absurd g
    see_make value words done refused (Exchanged (Ok _)) g = absurd g
    see_make value words done refused (Exchanged (Err _)) g = absurd g
    see_make value words done refused (Made (Ok b)) g = done b g
    see_make value words done refused (Made (Err back)) g = refused back g
    see_make value words done refused (Taken _) g = absurd g
    see_make value words done refused (Roomed (Ok _)) g = absurd g
    see_make value words done refused (Roomed (Err _)) g = absurd g

    pub may_make : (value : T) (words : ℕ) → ((b : ℕ) → IsFreeNumber m b × (b < 2 ^ 53) → MaySee (value_at (after m (Make value words) (Made (Ok b)))) (rest (Made (Ok b))))
        → ((back : T) → back ≡ value → MaySee (value_at (m)) (rest (Made (Err back))))
        → May Can Took value_at m (Do (Make value words) rest)
    may_make value words done refused = may_do m (Make value words) rest tt (see_make value words done refused)

    out_make : (value : T) (words : ℕ) (n : Mem T) (end : R) (out : Out T) → Gives m (Make value words) out → n ≡ after m (Make value words) out → Ends (value_at (after m (Make value words) out)) (rest out) end
        → ((b : ℕ) × (IsFreeNumber m b × (b < 2 ^ 53)) × (n ≡ after m (Make value words) (Made (Ok b))) × Ends (value_at (after m (Make value words) (Made (Ok b)))) (rest (Made (Ok b))) end)
        ⊎ ((back : T) × (back ≡ value) × (n ≡ m) × Ends (value_at (m)) (rest (Made (Err back))) end)
    out_make value words n end (Found _) g e ends = absurd g
    out_make value words n end Stored g e ends = absurd g
    out_make value words n end (Exchanged (Ok _)) g e ends = absurd g
    out_make value words n end (Exchanged (Err _)) g e ends = absurd g
    out_make value words n end (Made (Ok b)) g e ends = inl (b, g, e, ends)
    out_make value words n end (Made (Err back)) g e ends = inr (back, g, e, ends)
    out_make value words n end (Taken _) g e ends = absurd g
    out_make value words n end (Roomed (Ok _)) g e ends = absurd g
    out_make value words n end (Roomed (Err _)) g e ends = absurd g

    pub made : (value : T) (words : ℕ) (n : Mem T) (end : R) → Steps Took value_at m (Do (Make value words) rest) n end
        → ((b : ℕ) × (IsFreeNumber m b × (b < 2 ^ 53)) × (n ≡ after m (Make value words) (Made (Ok b))) × Ends (value_at (after m (Make value words) (Made (Ok b)))) (rest (Made (Ok b))) end)
        ⊎ ((back : T) × (back ≡ value) × (n ≡ m) × Ends (value_at (m)) (rest (Made (Err back))) end)
    made value words n end s = let d = did m (Make value words) rest n end s in out_make value words n end d.0 d.1 d.2 d.3

    -- room is made, or refused for want of memory, and then nothing has changed, and the bucket is not there
    see_room : (bucket : ℕ) → MaySee (value_at (with_room m bucket)) (rest (Roomed (Ok tt))) → MaySee (value_at (m)) (rest (Roomed (Err Memory)))
        → (out : Out T) → Gives m (Room bucket) out → MaySee (value_at (after m (Room bucket) out)) (rest out)
    see_room bucket done refused (Found _) g = absurd g
    see_room bucket done refused Stored g = absurd g
    see_room bucket done refused (Exchanged (Ok _)) g = absurd g
    see_room bucket done refused (Exchanged (Err _)) g = absurd g
    see_room bucket done refused (Made (Ok _)) g = absurd g
    see_room bucket done refused (Made (Err _)) g = absurd g
    see_room bucket done refused (Taken _) g = absurd g
    see_room bucket done refused (Roomed (Ok tt)) g = done
    see_room bucket done refused (Roomed (Err fault)) g = subst (λ (x : Fault). MaySee (value_at m) (rest (Roomed (Err x)))) (sym g.0) refused

    pub may_room : (bucket : ℕ) → Can m (Room bucket) → MaySee (value_at (with_room m bucket)) (rest (Roomed (Ok tt))) → MaySee (value_at (m)) (rest (Roomed (Err Memory)))
        → May Can Took value_at m (Do (Room bucket) rest)
    may_room bucket can done refused = may_do m (Room bucket) rest can (see_room bucket done refused)

    out_room : (bucket : ℕ) (n : Mem T) (end : R) (out : Out T) → Gives m (Room bucket) out → n ≡ after m (Room bucket) out → Ends (value_at (after m (Room bucket) out)) (rest out) end
        → ((n ≡ with_room m bucket) × Ends (value_at (with_room m bucket)) (rest (Roomed (Ok tt))) end)
        ⊎ ((n ≡ m) × Ends (value_at (m)) (rest (Roomed (Err Memory))) end × (length m.slots + 32 ≡ capacity bucket))
    out_room bucket n end (Found _) g e ends = absurd g
    out_room bucket n end Stored g e ends = absurd g
    out_room bucket n end (Exchanged (Ok _)) g e ends = absurd g
    out_room bucket n end (Exchanged (Err _)) g e ends = absurd g
    out_room bucket n end (Made (Ok _)) g e ends = absurd g
    out_room bucket n end (Made (Err _)) g e ends = absurd g
    out_room bucket n end (Taken _) g e ends = absurd g
    out_room bucket n end (Roomed (Ok tt)) g e ends = inl (e, ends)
    out_room bucket n end (Roomed (Err fault)) g e ends = inr (e, subst (λ (x : Fault). Ends (value_at m) (rest (Roomed (Err x))) end) g.0 ends, g.1)

    pub roomed : (bucket : ℕ) (n : Mem T) (end : R) → Steps Took value_at m (Do (Room bucket) rest) n end
        → ((n ≡ with_room m bucket) × Ends (value_at (with_room m bucket)) (rest (Roomed (Ok tt))) end)
        ⊎ ((n ≡ m) × Ends (value_at (m)) (rest (Roomed (Err Memory))) end × (length m.slots + 32 ≡ capacity bucket))
    roomed bucket n end s = let d = did m (Room bucket) rest n end s in out_room bucket n end d.0 d.1 d.2 d.3
