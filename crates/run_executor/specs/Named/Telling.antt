-- What a call is told to answer, by what its machine says.
use Rattle.std.specs.Prelude.{ℕ, Bool, true, false, Option, Some, None}
use Rattle.seize_words.specs.OneMemory.Word.{block_in}
use Rattle.papaya_raw.specs.Given.TablesDeclared.node.Node.{Node}
use Rattle.papaya_raw.specs.Given.TablesDeclared.node.Node.TheVariants as node
use Rattle.papaya_raw.specs.declared.machines.answer.KeyAnswer.{KeyAnswer}
use Rattle.papaya_raw.specs.declared.machines.answer.KeyAnswer.TheVariants as says
use Rattle.papaya_raw.specs.declared.machines.progress.Answer.{Answer as Said}
use Rattle.papaya_raw.specs.declared.machines.progress.Answer.TheVariants as said
use Rattle.run_schedules.specs.declared.call.Response.{Response}
use Rattle.run_schedules.specs.declared.call.Response.TheVariants as answer
use Rattle.run_schedules.specs.declared.outcome.Outcome.{Outcome}
use Rattle.run_schedules.specs.declared.outcome.Outcome.TheVariants as outcome
use Rattle.run_places.specs.Given.EffectsKnown.{Known}
use Rattle.run_places.specs.Given.EffectsDeclared.role.Role.{Role}
use Rattle.run_places.specs.Given.EffectsDeclared.role.Role.TheVariants as role
use Rattle.run_executor.specs.declared.kind.CallKind.{CallKind}
use Rattle.run_executor.specs.declared.kind.CallKind.TheVariants as kind
use Rattle.run_executor.specs.declared.callers.Keeps.{Keeps}
use Rattle.run_executor.specs.declared.callers.Keeps.TheVariants as keeps

-- the number of the pair that a word links to
abbrev pub number_in : Role → ℕ
number_in (role.Pair n) = n
number_in _ = 0

abbrev pub number_by : Known → ℕ → ℕ
number_by known word = number_in (known.roles (block_in word))

-- the value of a pair
abbrev pub value_of : {K V : Type 0} → Node K V → Option V
value_of (node.Pair k v) = Some v
value_of _ = None

-- the value that a call keeps once its pair was not stored: one that tells it
abbrev pub kept : {K V : Type 0} → CallKind → Node K V → Option V → Option V
kept kind.TriesToInsert unstored value = value_of unstored
kept _ unstored value = value

-- what becomes of the value that a call keeps
abbrev pub kept_by : {V : Type 0} → Keeps V → CallKind → Option V → Option V
kept_by keeps.Same kind value = value
kept_by (keeps.Is other) kind value = other
kept_by (keeps.Unstored unstored) kind.TriesToInsert value = unstored
kept_by (keeps.Unstored unstored) _ value = value

-- whether a call goes on by itself
abbrev pub continues : {V : Type 0} → Outcome V → Bool
continues outcome.Goes = true
continues _ = false

module _ {V : Type 0} where
  -- the pair is there, and this value was not stored
  abbrev pub occupied_by : ℕ → Option V → Response V
  occupied_by there (Some value) = answer.Occupied there value
  occupied_by there None = answer.Found there

  -- a closure aborted with this
  abbrev pub aborted_with : Option V → Response V
  aborted_with (Some value) = answer.Aborted value
  aborted_with None = answer.Absent

  module _ (known : Known) where
    -- what a call on one key answers, where it kept this value
    abbrev pub answer_on : CallKind → Option V → KeyAnswer → Response V
    answer_on kind.Computes value says.Absent = aborted_with value
    answer_on kind.Computes value (says.Found word) = aborted_with value
    answer_on kind.Computes value (says.Stored new) = answer.Inserted (number_by known new)
    answer_on kind.Computes value (says.Replaced old new) = answer.Updated (number_by known old) (number_by known new)
    answer_on kind.Computes value (says.Removed old) = answer.Removed (number_by known old)
    answer_on kind.Inserts value (says.Stored new) = answer.Absent
    answer_on kind.TriesToInsert value (says.Found there) = occupied_by (number_by known there) value
    answer_on kind.TriesToInsertWith value (says.Found there) = answer.Kept (number_by known there)
    answer_on kind.RemovesIf value (says.Found there) = answer.Kept (number_by known there)
    answer_on kind.Updates value (says.Replaced old new) = answer.Stored (number_by known new)
    answer_on _ value says.Absent = answer.Absent
    answer_on _ value (says.Stored new) = answer.Stored (number_by known new)
    answer_on _ value (says.Found old) = answer.Found (number_by known old)
    answer_on _ value (says.Removed old) = answer.Found (number_by known old)
    answer_on _ value (says.Replaced old new) = answer.Found (number_by known old)

    -- a sweep that is over
    abbrev pub swept : CallKind → Response V
    swept kind.Walks = answer.Absent
    swept _ = answer.Completed

    -- what any call answers
    abbrev pub answer_of : CallKind → Option V → Said → Response V
    answer_of kind value (said.Key a) = answer_on kind value a
    answer_of kind value said.Reserved = answer.Completed
    answer_of kind value said.Swept = swept kind
    answer_of kind value (said.Count count) = answer.Counted count
