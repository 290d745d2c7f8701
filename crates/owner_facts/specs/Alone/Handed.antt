-- The word of the pair that a call has taken out of the map, and whether it has unlinked a table.
use Rattle.std.specs.Prelude.{ℕ, Bool, false}
use Rattle.many_maps.specs.Given.RawDeclared.machines.answer.KeyAnswer.{KeyAnswer}
use Rattle.many_maps.specs.Given.RawDeclared.machines.answer.KeyAnswer.TheVariants as answers
use Rattle.many_maps.specs.Given.RawDeclared.machines.call.Calling.{Calling}
use Rattle.many_maps.specs.Given.RawDeclared.machines.call.Calling.TheVariants as at
use Rattle.many_maps.specs.Given.PointsUnlinked.{has_unlinked}
use Rattle.many_maps.specs.Given.PointsFactsCalls.{Replaced, Removed}

-- the word of the pair that an answer tells as taken out
abbrev pub word_out : KeyAnswer → ℕ
word_out (answers.Replaced old new) = old
word_out (answers.Removed word) = word
word_out _ = 0

abbrev pub call_has_unlinked : Calling → Bool
call_has_unlinked (at.Helps copier goal) = has_unlinked copier.stands
call_has_unlinked (at.Copies copier) = has_unlinked copier.stands
call_has_unlinked _ = false
