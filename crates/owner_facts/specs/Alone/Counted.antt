-- What calls count in the shards of a map's counter.
use Rattle.std.specs.Prelude.{◌≡◌, ℕ, suc, ◌+◌, ◌-◌, ◌%◌, ◌^◌}
use Rattle.many_maps.specs.Given.SeizeWordsMem.{Mem}
use Rattle.many_maps.specs.Given.TablesDeclared.setting.Setting.{Setting}
use Rattle.many_maps.specs.Given.RawDeclared.machines.answer.KeyAnswer.{KeyAnswer}
use Rattle.many_maps.specs.Given.RawDeclared.machines.answer.KeyAnswer.TheVariants as answers
use Rattle.many_maps.specs.Given.RawDeclared.machines.answer.End.{End}
use Rattle.many_maps.specs.Given.RawDeclared.machines.answer.End.TheVariants as ends
use Rattle.many_maps.specs.Given.RawDeclared.machines.call.Calling.{Calling}
use Rattle.many_maps.specs.Given.RawDeclared.machines.call.Calling.TheVariants as at
use Rattle.owner_facts.specs.Alone.Counting.{shards_sum}

-- added up, the shards say so much more than they did
abbrev pub HasAdded : {T : Type 0} → Setting → Mem T → ℕ → Mem T → Type 0
HasAdded setting m0 more m =
    shards_sum m setting.counter (suc setting.mask) % 2 ^ 64 ≡ (shards_sum m0 setting.counter (suc setting.mask) + more) % 2 ^ 64

-- how much more that is by what a call answers: one more for a pair that it has stored where none was, one less for one that it has removed
abbrev pub counted_for : KeyAnswer → ℕ
counted_for (answers.Stored word) = 1
counted_for (answers.Removed word) = 2 ^ 64 - 1
counted_for _ = 0

abbrev pub counted_end : End → ℕ
counted_end (ends.Answered answer) = counted_for answer
counted_end (ends.Refused fault) = 0

-- and where it stands: nothing, before it knows its answer
abbrev pub counted_at : Calling → ℕ
counted_at (at.Disposes dispose answer) = counted_for answer
counted_at (at.Drops end) = counted_end end
counted_at (at.Over end) = counted_end end
counted_at _ = 0
