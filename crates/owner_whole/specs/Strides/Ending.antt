-- Runs of a machine over the memory of one owner.
use Rattle.std.specs.Prelude.{◌≡◌, Result, Ok, Err}
use Rattle.seize_words.specs.OneMemory.Mem.{Mem, Can, Took, value_at}
use Rattle.seize_words.specs.OneMemory.Plan.{Plan, May, Steps}
use Rattle.seize_words.specs.declared.fault.Fault.{Fault}
use Rattle.seize.specs.declared.advance.Advance.{Advance}
use Rattle.seize.specs.declared.advance.Advance.TheVariants as progress

module _ {A : Type 0} where
  -- a machine that tells this takes a further step
  abbrev pub Continues : Advance A → Type 0
  Continues progress.Goes = Unit {0}
  Continues progress.Waits = Unit {0}
  Continues _ = ⊥

  -- it tells this answer, or this fault
  abbrev pub EndsWith : Advance A → Result A Fault → Type 0
  EndsWith (progress.Done a) (Ok b) = b ≡ a
  EndsWith (progress.Refused f) (Err g) = g ≡ f
  EndsWith _ _ = ⊥

module _ {T X A : Type 0} (plan : X → Plan T (X × Advance A)) where
  -- From here on the machine may take each of its steps, and each run of them terminates.
  pub data Ends : X → Mem T → Type 0 where
    all_end : (x : X) (m : Mem T) → May Can Took value_at m (plan x)
        → ((m2 : Mem T) (x2 : X) (told : Advance A) → Continues told → Steps Took value_at m (plan x) m2 (x2, told) → Ends x2 m2) → Ends x m

  -- a run from there has ended here, with this result
  pub data RunsTo : X → Mem T → X → Mem T → Result A Fault → Type 0 where
    stops : (x : X) (m : Mem T) (x2 : X) (m2 : Mem T) (told : Advance A) (result : Result A Fault)
        → Steps Took value_at m (plan x) m2 (x2, told) → EndsWith told result → RunsTo x m x2 m2 result
    goes : (x : X) (m : Mem T) (x1 : X) (m1 : Mem T) (told : Advance A) → Continues told → Steps Took value_at m (plan x) m1 (x1, told)
        → (x2 : X) (m2 : Mem T) (result : Result A Fault) → RunsTo x1 m1 x2 m2 result → RunsTo x m x2 m2 result

  -- Some steps that go on lead from the one to the other, and from this memory to that.
  pub data Leads : X → Mem T → X → Mem T → Type 0 where
    none_taken : (x : X) (m : Mem T) → Leads x m x m
    one_more : (x : X) (m : Mem T) (y : X) (n : Mem T) → Leads x m y n → (told : Advance A) → Continues told → (z : X) (k : Mem T) → Steps Took value_at n (plan y) k (z, told) → Leads x m z k

  -- some steps that go on lead to one that comes to this
  abbrev pub Strides : X → Mem T → Mem T → X × Advance A → Type 0
  Strides x m m2 end = (y : X) × (n : Mem T) × Leads x m y n × Steps Took value_at n (plan y) m2 end

  -- It was run to its end, from this memory on.
  abbrev pub HasEnded : Mem T → Mem T → Type 0
  HasEnded m m2 = (x : X) × (y : X) × (result : Result A Fault) × Ends x m × RunsTo x m y m2 result

  -- So it was from this machine on, and this came of it.
  abbrev pub HasCome : X → Mem T → Mem T → Result A Fault → Type 0
  HasCome x m m2 result = (y : X) × Ends x m × RunsTo x m y m2 result
