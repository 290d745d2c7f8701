-- What a memory of one owner tells of a step that is taken in it.
use Rattle.std.specs.Prelude.{◌≡◌, true, false, is_ok}
use Rattle.run_schedules.specs.Given.SeizeWordsMem.{Mem, Can, Took, value_at}
use Rattle.run_schedules.specs.Given.SeizeWordsOp.{Op, Out, Room, Roomed}
use Rattle.run_schedules.specs.Given.SeizeWordsPlan.{Plan, Turn, Do, May, Steps, Ends}
use Rattle.run_schedules.specs.Given.TablesDeclared.node.Node.{Node}
use Rattle.run_effects.specs.Tells.Seen.{Seen, Unseen, Wrote, MadeOne, HadNoRoom, TookAway, NewValue, seen_of}
use Rattle.run_effects.specs.declared.changed.Changed.{Changed}
use Rattle.run_effects.specs.declared.changed.Changed.TheVariants as changed
use Rattle.run_effects.specs.declared.teller.Teller.{Teller}
use Rattle.run_effects.specs.ReportingMemory.Changed.{is_made, kind_of, made_as, MadeSo, RefusesSo}

module _ {K V : Type 0} where
  -- what is told of what is seen: what a block holds by its kind alone, and of a value that was rewritten nothing; but a bucket that was asked for, too
  abbrev pub observed_of : Op (Node K V) → Out (Node K V) → Seen (Node K V) → Changed
  observed_of op out (Wrote at old new) = changed.Wrote at old new
  observed_of op out (MadeOne value b) = changed.Made (kind_of value) b
  observed_of op out (HadNoRoom value) = changed.Unmade (kind_of value)
  observed_of op out (TookAway b) = changed.Took b
  observed_of op out (NewValue b value) = changed.Nothing
  observed_of (Room bucket) (Roomed roomed) Unseen = changed.Roomed bucket (is_ok roomed)
  observed_of op out Unseen = changed.Nothing

module _ (K V R : Type 0) where
  -- what an operation on a memory of one owner was, and is told as
  abbrev pub ObservedAs : Mem (Node K V) → Op (Node K V) → Out (Node K V) → Mem (Node K V) → Changed → Type 0
  ObservedAs m op out n told = Took m op out n × (told ≡ observed_of op out (seen_of m op out))

  -- the step was taken, and what its one operation has changed is told, or what was told before, if it made none
  abbrev pub StepsObserved : Mem (Node K V) → Changed → Plan (Node K V) R → Mem (Node K V) → Changed → R → Type 0
  StepsObserved m before (Turn rest) n told end = (n ≡ m) × Ends (value_at n) rest end × (told ≡ before)
  StepsObserved m before (Do op rest) n told end = (out : Out (Node K V)) × ObservedAs m op out n told × Ends (value_at n) (rest out) end

  -- the same of a memory that tells, with one of one owner inside
  abbrev pub Telling : Type 0
  Telling = Teller (Mem (Node K V))

  abbrev pub CanTell : Telling → Op (Node K V) → Type 0
  CanTell t op = Can t.memory (made_as op)

  abbrev pub TookObserved : Telling → Op (Node K V) → Out (Node K V) → Telling → Type 0
  TookObserved t op out n = MadeSo Took t.memory op out n.memory n.changed × RefusesSo t.refuses n.changed n.refuses

  -- The promise: a step may be taken in the memory that tells where it may be taken in the one inside,
  abbrev pub MayWithTeller : Type 0
  MayWithTeller = (t : Telling) (plan : Plan (Node K V) R) → May Can Took value_at t.memory plan → May CanTell TookObserved (λ t. value_at t.memory) t plan

  -- and is the step of the same plan there, of which this is told.
  abbrev pub StepsWithTeller : Type 0
  StepsWithTeller =
      (t n : Telling) (plan : Plan (Node K V) R) (end : R)
      → Steps TookObserved (λ t. value_at t.memory) t plan n end → StepsObserved t.memory t.changed plan n.memory n.changed end

  -- Where it refuses blocks, it goes on to do so, and if no block was told to be made before, none is after the step.
  abbrev pub RefusesWithTeller : Type 0
  RefusesWithTeller =
      (t n : Telling) (plan : Plan (Node K V) R) (end : R) → Steps TookObserved (λ t. value_at t.memory) t plan n end
      → (n.refuses ≡ t.refuses) × (t.refuses ≡ true → is_made t.changed ≡ false → is_made n.changed ≡ false)
