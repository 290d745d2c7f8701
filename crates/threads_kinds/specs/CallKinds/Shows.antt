-- The pairs that a call tells: a step of a sweep that reads the word of a place tells that of the place, and a call on one key names in its answer those that it has
-- found, stored, replaced or removed.
use Rattle.std.specs.Prelude.{◌≡◌, ◌⊎◌, ℕ, Option, Some}
use Rattle.map_tables.specs.declared.node.Node.{Node}
use Rattle.papaya_raw.specs.Given.ReservesDeclared.sweep.Sweeping.{Sweeping}
use Rattle.papaya_raw.specs.Given.ReservesDeclared.sweep.Sweeping.TheVariants as at
use Rattle.papaya_raw.specs.declared.machines.answer.KeyAnswer.{KeyAnswer}
use Rattle.papaya_raw.specs.declared.machines.answer.KeyAnswer.TheVariants as answers
use Rattle.papaya_raw.specs.declared.machines.machine.Machine.{Machine}
use Rattle.papaya_raw.specs.declared.machines.machine.Machine.TheVariants as kinds
use Rattle.papaya_raw.specs.declared.machines.progress.Answer.TheVariants.{Key as OfKey}
use Rattle.papaya_raw.specs.declared.machines.progress.Progress.{Progress}
use Rattle.papaya_raw.specs.declared.machines.progress.Progress.TheVariants as progress
use Rattle.threads_kinds.specs.CallKinds.Kinds.{PairIsVisible}

-- its next step reads the word of its place
abbrev pub ReadsWord : Sweeping → Type 0
ReadsWord at.Words = Unit {0}
ReadsWord (at.Tries word) = Unit {0}
ReadsWord stands = ⊥

-- a pair is told by this word
abbrev pub ProgressNamesPair : {T : Type 0} → Progress T → ℕ → Type 0
ProgressNamesPair (progress.Pair other) word = other ≡ word
ProgressNamesPair (progress.Asks (Some other)) word = other ≡ word
ProgressNamesPair told word = ⊥

-- an answer names a pair by this word,
abbrev pub AnswerNames : KeyAnswer → ℕ → Type 0
AnswerNames answers.Absent word = ⊥
AnswerNames (answers.Found found) word = found ≡ word
AnswerNames (answers.Stored new) word = new ≡ word
AnswerNames (answers.Replaced old new) word = (old ≡ word) ⊎ (new ≡ word)
AnswerNames (answers.Removed old) word = old ≡ word

-- and a call has answered with that pair
abbrev pub AnswersWith : {T : Type 0} → Progress T → ℕ → Type 0
AnswersWith (progress.Done (OfKey answer)) word = AnswerNames answer word
AnswersWith told word = ⊥

-- each pair with which a call has answered is shown
abbrev pub AnsweredAreVisible : {K V : Type 0} → Progress (Node K V) → (ℕ → Option (Node K V)) → Type 0
AnsweredAreVisible told shown = (word : ℕ) → AnswersWith told word → PairIsVisible shown word

module _ {K V Q : Type 0} where
  abbrev pub ReadsPlaces : Machine K V Q → Type 0
  ReadsPlaces (kinds.Sweep c) = ReadsWord c.stands
  ReadsPlaces machine = ⊥

  -- where the step of this call has told a pair that it has read, that is shown
  abbrev pub ReadPairIsVisible : Machine K V Q → Progress (Node K V) → (ℕ → Option (Node K V)) → Type 0
  ReadPairIsVisible machine told shown = ReadsPlaces machine → (word : ℕ) → ProgressNamesPair told word → PairIsVisible shown word

  -- what the step of this call has told is shown: such a pair, and those with which it has answered
  abbrev pub ToldAreVisible : Machine K V Q → Progress (Node K V) → (ℕ → Option (Node K V)) → Type 0
  ToldAreVisible machine told shown = ReadPairIsVisible machine told shown × AnsweredAreVisible told shown
