-- To which end a step comes, with an answer of the kind of its operation, or without an operation.
use Rattle.std.specs.Prelude.{ℕ, Option}
use Rattle.seize_words.specs.OneMemory.Op.{Out}
use Rattle.seize_words.specs.OneMemory.Plan.{Plan, Turn, Do, Ends}
use Rattle.threads_kinds.specs.CallKinds.Answers.{IsAnswer}

abbrev pub Leads : {T R : Type 0} → (ℕ → Option T) → Plan T R → R → Type 0
Leads shown (Turn rest) end = Ends shown rest end
Leads {T} shown (Do op rest) end = (out : Out T) × IsAnswer op out × Ends shown (rest out) end
