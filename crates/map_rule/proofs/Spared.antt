-- Which words a step leaves as they are: all but the one that its operation is made on.
use Rattle.std.specs.Prelude.{◌≡◌, ◌≢◌, ℕ, ◌+◌, ◌%◌, ◌^◌, Bool, false, cond, Option, Some, None, Ok, Err, IsSome, bit_or, if◌then◌else◌}
use Rattle.std.proofs.Common.{refl, ap, ◌∙◌}
use Rattle.std.proofs.lemmas.Bool.{ne_eqb}
use Rattle.map_machines.specs.Given.SeizeWordsDeclared.at.At.{At}
use Rattle.map_machines.specs.Given.SeizeWordsDeclared.at.At.TheVariants.{Root, Used, Slot, Entry, Word}
use Rattle.map_machines.specs.Given.SeizeWordsDeclared.block.Block.{Block}
use Rattle.map_machines.specs.Given.SeizeWordsOp.{Op, Out, Load, Store, Swap, Add, Or, Exchange, Make, Take, Rewrite, Room, Found, Stored, Exchanged, Made, Taken, Roomed}
use Rattle.map_machines.specs.Given.SeizeWordsMem.{Mem, same_at, block_of, value_in, word_in, word_at, with_word, with_block, value_at, IsFreeNumber, Can, Gives, after, Took, fresh}
use Rattle.map_machines.specs.Given.SeizeWordsPlan.{Plan, Turn, Do, May, Steps, plan_as}
use Rattle.map_machines.proofs.Given.SeizeWordsOneOwner.AfterWrites.{word_at-with_word, word_at-with_value, block_of-made, block_of-with_block}

-- a word of the root, or of a block
abbrev pub IsFixed : At → Type 0
IsFixed (Root r) = Unit {0}
IsFixed (Word b i) = Unit {0}
IsFixed _ = ⊥

-- it is in no block of this number
abbrev pub IsBeside : At → ℕ → Type 0
IsBeside (Word b i) taken = b ≢ taken
IsBeside _ taken = Unit {0}

module _ {T : Type 0} (x : At) where
  -- an operation is made on another word, or on a value
  abbrev pub Spares : Op T → Type 0
  Spares (Load at) = Unit {0}
  Spares (Store at new) = same_at x at ≡ false
  Spares (Swap at new) = same_at x at ≡ false
  Spares (Add at by) = same_at x at ≡ false
  Spares (Or at bits) = same_at x at ≡ false
  Spares (Exchange at old new) = same_at x at ≡ false
  Spares (Make value words) = Unit {0}
  Spares (Take b) = IsBeside x b
  Spares (Rewrite b new) = Unit {0}
  Spares (Room bucket) = Unit {0}

  abbrev pub PlanSpares : {R : Type 0} → Plan T R → Type 0
  PlanSpares (Turn rest) = Unit {0}
  PlanSpares (Do op rest) = Spares op

  pub spares_as : {A B : Type 0} (f : A → B) (plan : Plan T A) → PlanSpares plan → PlanSpares (plan_as f plan)
  spares_as f (Turn rest) s = tt
  spares_as f (Do op rest) s = s

  module _ (fixed : IsFixed x) (m : Mem T) (old : ℕ) (is : word_at m x ≡ Some old) where
    other_word : (at : At) (new : ℕ) → IsSome (word_at m at) → same_at x at ≡ false → word_at (with_word m at new) x ≡ Some old
    other_word at new some other = word_at-with_word m at new x some ∙ ap (λ (b : Bool). cond b (Some new) (word_at m x)) other ∙ is

    made_beside : (value : T) (words b : ℕ) → IsFreeNumber m b → (y : At) → IsFixed y → word_at m y ≡ Some old → word_at (after m (Make value words) (Made (Ok b))) y ≡ Some old
    made_beside value words b free (Root r) f there = there
    made_beside value words b free (Word k i) f there =
        ap (λ (o : Option (Block T)). word_in o i) (block_of-made m value words b k free ∙ ap (λ (q : Bool). if q then Some (fresh value words) else block_of m k) (ne_eqb k b apart)) ∙ there
      where
        apart : k ≢ b
        apart e =
            let none : word_at m (Word k i) ≡ None = ap (λ (o : Option (Block T)). word_in o i) (ap (block_of m) e ∙ free.0) in cc (none, there)
    made_beside value words b free (Used r) f there = absurd f
    made_beside value words b free (Slot s i) f there = absurd f
    made_beside value words b free (Entry k i) f there = absurd f

    -- the block of a value
    of_value : (o : Option (Block T)) (value : T) → value_in o ≡ Some value → (block : Block T) × (o ≡ Some block)
    of_value None value e = absurd (cc e)
    of_value (Some block) value e = (block, refl)

    taken_beside : (b : ℕ) (value : T) → value_at m b ≡ Some value → (y : At) → IsFixed y → IsBeside y b → word_at m y ≡ Some old → word_at (with_block m b None) y ≡ Some old
    taken_beside b value there (Root r) f other now = now
    taken_beside b value there (Word k i) f other now =
        let block = of_value (block_of m b) value there in
        ap (λ (o : Option (Block T)). word_in o i) (block_of-with_block m b k block.0 None block.1 ∙ ap (λ (q : Bool). if q then None else block_of m k) (ne_eqb k b other)) ∙ now
    taken_beside b value there (Used r) f other now = absurd f
    taken_beside b value there (Slot s i) f other now = absurd f
    taken_beside b value there (Entry k i) f other now = absurd f

    roomed : (bucket : ℕ) (out : Out T) (y : At) → IsFixed y → Gives m (Room bucket) out → word_at (after m (Room bucket) out) y ≡ word_at m y
    roomed bucket (Roomed (Ok made)) (Root r) f g = refl
    roomed bucket (Roomed (Ok made)) (Word k i) f g = refl
    roomed bucket (Roomed (Ok made)) (Used r) f g = absurd f
    roomed bucket (Roomed (Ok made)) (Slot s i) f g = absurd f
    roomed bucket (Roomed (Ok made)) (Entry k i) f g = absurd f
    roomed bucket (Roomed (Err fault)) y f g = refl
    roomed bucket (Found w) y f g = absurd g
    roomed bucket Stored y f g = absurd g
    roomed bucket (Exchanged (Ok w)) y f g = absurd g
    roomed bucket (Exchanged (Err w)) y f g = absurd g
    roomed bucket (Made (Ok b)) y f g = absurd g
    roomed bucket (Made (Err back)) y f g = absurd g
    roomed bucket (Taken value) y f g = absurd g

    added : (at : At) (by : ℕ) (out : Out T) → IsSome (word_at m at) → same_at x at ≡ false → Gives m (Add at by) out → word_at (after m (Add at by) out) x ≡ Some old
    added at by (Found w) can other g = other_word at ((w + by) % 2 ^ 64) can other
    added at by Stored can other g = absurd g
    added at by (Exchanged (Ok w)) can other g = absurd g
    added at by (Exchanged (Err w)) can other g = absurd g
    added at by (Made (Ok b)) can other g = absurd g
    added at by (Made (Err back)) can other g = absurd g
    added at by (Taken value) can other g = absurd g
    added at by (Roomed (Ok made)) can other g = absurd g
    added at by (Roomed (Err fault)) can other g = absurd g

    ored : (at : At) (bits : ℕ) (out : Out T) → IsSome (word_at m at) → same_at x at ≡ false → Gives m (Or at bits) out → word_at (after m (Or at bits) out) x ≡ Some old
    ored at bits (Found w) can other g = other_word at (bit_or w bits) can other
    ored at bits Stored can other g = absurd g
    ored at bits (Exchanged (Ok w)) can other g = absurd g
    ored at bits (Exchanged (Err w)) can other g = absurd g
    ored at bits (Made (Ok b)) can other g = absurd g
    ored at bits (Made (Err back)) can other g = absurd g
    ored at bits (Taken value) can other g = absurd g
    ored at bits (Roomed (Ok made)) can other g = absurd g
    ored at bits (Roomed (Err fault)) can other g = absurd g

    exchanged : (at : At) (old_word new : ℕ) (out : Out T) → IsSome (word_at m at) → same_at x at ≡ false → Gives m (Exchange at old_word new) out
        → word_at (after m (Exchange at old_word new) out) x ≡ Some old
    exchanged at old_word new (Exchanged (Ok w)) can other g = other_word at new can other
    exchanged at old_word new (Exchanged (Err w)) can other g = is
    exchanged at old_word new (Found w) can other g = absurd g
    exchanged at old_word new Stored can other g = absurd g
    exchanged at old_word new (Made (Ok b)) can other g = absurd g
    exchanged at old_word new (Made (Err back)) can other g = absurd g
    exchanged at old_word new (Taken value) can other g = absurd g
    exchanged at old_word new (Roomed (Ok made)) can other g = absurd g
    exchanged at old_word new (Roomed (Err fault)) can other g = absurd g

    made : (value : T) (words : ℕ) (out : Out T) → Gives m (Make value words) out → word_at (after m (Make value words) out) x ≡ Some old
    made value words (Made (Ok b)) g = made_beside value words b g.0 x fixed is
    made value words (Made (Err back)) g = is
    made value words (Found w) g = absurd g
    made value words Stored g = absurd g
    made value words (Exchanged (Ok w)) g = absurd g
    made value words (Exchanged (Err w)) g = absurd g
    made value words (Taken w) g = absurd g
    made value words (Roomed (Ok b)) g = absurd g
    made value words (Roomed (Err fault)) g = absurd g

    taken : (b : ℕ) (out : Out T) → IsBeside x b → Gives m (Take b) out → word_at (after m (Take b) out) x ≡ Some old
    taken b (Taken value) other g = taken_beside b value g x fixed other is
    taken b (Found w) other g = absurd g
    taken b Stored other g = absurd g
    taken b (Exchanged (Ok w)) other g = absurd g
    taken b (Exchanged (Err w)) other g = absurd g
    taken b (Made (Ok w)) other g = absurd g
    taken b (Made (Err back)) other g = absurd g
    taken b (Roomed (Ok w)) other g = absurd g
    taken b (Roomed (Err fault)) other g = absurd g

    spared : (op : Op T) (out : Out T) → Can m op → Gives m op out → Spares op → word_at (after m op out) x ≡ Some old
    spared (Load at) out can g s = is
    spared (Store at new) out can g s = other_word at new can s
    spared (Swap at new) out can g s = other_word at new can s
    spared (Add at by) out can g s = added at by out can s g
    spared (Or at bits) out can g s = ored at bits out can s g
    spared (Exchange at old_word new) out can g s = exchanged at old_word new out can s g
    spared (Make value words) out can g s = made value words out g
    spared (Take b) out can g s = taken b out s g
    spared (Rewrite b new) out can g s = word_at-with_value m b new x can ∙ is
    spared (Room bucket) out can g s = roomed bucket out x fixed g ∙ is

    -- a step leaves the word as it is
    pub step_spares : {R : Type 0} (plan : Plan T R) (m2 : Mem T) (end : R) → PlanSpares plan → May Can Took value_at m plan → Steps Took value_at m plan m2 end → word_at m2 x ≡ Some old
    step_spares (Turn rest) m2 end s may st = ap (λ (n : Mem T). word_at n x) st.0 ∙ is
    step_spares (Do op rest) m2 end s may st = ap (λ (n : Mem T). word_at n x) st.1.1 ∙ spared op st.0 may.0 st.1.0 s
