-- A call on one key that asks: how it begins, and how it goes on by what it is told.
use Rattle.std.specs.Prelude.{ℕ, Some, None, Result, Ok, Err}
use Rattle.map_sweeps.specs.Given.SeizeWordsWord.{block_in}
use Rattle.map_sweeps.specs.Given.SeizeWordsDeclared.fault.Fault.TheVariants.{RemoveNothing}
use Rattle.map_sweeps.specs.Given.TablesDeclared.setting.Setting.{Setting}
use Rattle.papaya_raw.specs.CallPoints.{calling, standing, ending, answering, burying, at_gap}
use Rattle.papaya_raw.specs.Replies.{untold}
use Rattle.papaya_raw.specs.declared.machines.answer.There.TheVariants as there
use Rattle.papaya_raw.specs.declared.machines.answer.Missing.TheVariants as missing
use Rattle.papaya_raw.specs.declared.machines.answer.KeyAnswer.TheVariants as answers
use Rattle.papaya_raw.specs.declared.machines.answer.End.TheVariants as ends
use Rattle.papaya_raw.specs.declared.machines.asking.Asking.TheVariants as asking
use Rattle.papaya_raw.specs.declared.machines.asking.Gap.{Gap}
use Rattle.papaya_raw.specs.declared.machines.asking.MachineReply.{MachineReply}
use Rattle.papaya_raw.specs.declared.machines.asking.MachineReply.TheVariants as reply
use Rattle.papaya_raw.specs.declared.machines.asking.Takes.{Takes}
use Rattle.papaya_raw.specs.declared.machines.asking.Takes.TheVariants as takes
use Rattle.papaya_raw.specs.declared.machines.asking.Told.{Told}
use Rattle.papaya_raw.specs.declared.machines.asking.Told.TheVariants as tells
use Rattle.papaya_raw.specs.declared.machines.call.KeyCall.{KeyCall}
use Rattle.papaya_raw.specs.declared.machines.call.Calling.{Calling}
use Rattle.papaya_raw.specs.declared.machines.call.Calling.TheVariants as at

module _ {K V Q : Type 0} where
  abbrev pub computing : Setting → ℕ → K → KeyCall K V Q
  computing setting hash key = calling setting hash there.Asks missing.Asks None None (untold takes.Changes (Some key) tells.Nothing) at.Roots

  abbrev pub updating : Setting → ℕ → K → KeyCall K V Q
  updating setting hash key = calling setting hash there.Asks missing.Answers None None (untold takes.Values (Some key) tells.Nothing) at.Roots

  -- it may know from the beginning what to store where the key is missing
  abbrev pub updating_or_inserting : Setting → ℕ → K → Told V → KeyCall K V Q
  updating_or_inserting setting hash key absent = calling setting hash there.Asks missing.Asks None None (untold takes.Values (Some key) absent) at.Roots

  abbrev pub trying_to_insert_with : Setting → ℕ → K → KeyCall K V Q
  trying_to_insert_with setting hash key = calling setting hash there.Answers missing.Asks None None (untold takes.Values (Some key) tells.Nothing) at.Roots

  abbrev pub removing_if : Setting → ℕ → Q → KeyCall K V Q
  removing_if setting hash asked = calling setting hash there.Asks missing.Answers (Some asked) None (untold takes.Choices None tells.Nothing) at.Roots

  -- it remembers what it was told, for a missing key, or for the pair of a word
  abbrev pub with_absent : KeyCall K V Q → V → KeyCall K V Q
  with_absent c value = record c { replies = record c.replies { absent = tells.Value value } }

  abbrev pub with_present : KeyCall K V Q → ℕ → Told V → KeyCall K V Q
  with_present c word told = record c { replies = record c.replies { pair = block_in word; present = told } }

  -- a reply that it does not take comes back, and it goes on asking
  abbrev pub refusing : KeyCall K V Q → MachineReply V → KeyCall K V Q × Result Unit (MachineReply V)
  refusing c told = (c, Err told)

  -- what to do where the key is missing
  abbrev pub absent_replied : Takes → KeyCall K V Q → Gap → MachineReply V → KeyCall K V Q × Result Unit (MachineReply V)
  absent_replied takes.Values c gap (reply.Insert value) = ((at_gap gap (with_absent c value)).0, Ok tt)
  absent_replied takes.Changes c gap (reply.Insert value) = ((at_gap gap (with_absent c value)).0, Ok tt)
  absent_replied takes.Changes c gap reply.Remove = ((ending c (ends.Refused RemoveNothing)).0, Ok tt)
  absent_replied takes.Changes c gap reply.Abort = ((answering c answers.Absent).0, Ok tt)
  absent_replied _ c gap told = refusing c told

  -- What to do with the pair of a word. Yes and no are not remembered: it asks again for a pair that it meets again.
  abbrev pub present_replied : Takes → KeyCall K V Q → ℕ → MachineReply V → KeyCall K V Q × Result Unit (MachineReply V)
  present_replied takes.Values c word (reply.Insert value) = (standing (with_present c word (tells.Value value)) (at.Asks (asking.Fills word)), Ok tt)
  present_replied takes.Changes c word (reply.Insert value) = (standing (with_present c word (tells.Value value)) (at.Asks (asking.Fills word)), Ok tt)
  present_replied takes.Changes c word reply.Remove = ((burying (with_present c word tells.Removes) word).0, Ok tt)
  present_replied takes.Changes c word reply.Abort = ((answering c (answers.Found word)).0, Ok tt)
  present_replied takes.Choices c word reply.Yes = ((burying c word).0, Ok tt)
  present_replied takes.Choices c word reply.No = ((answering c (answers.Found word)).0, Ok tt)
  present_replied _ c word told = refusing c told

  abbrev pub replied_at : Calling → KeyCall K V Q → MachineReply V → KeyCall K V Q × Result Unit (MachineReply V)
  replied_at (at.Asks (asking.Absent gap)) c told = absent_replied c.replies.takes c gap told
  replied_at (at.Asks (asking.Present word)) c told = present_replied c.replies.takes c word told
  replied_at _ c told = refusing c told

  -- how it goes on by a reply, and whether it has taken it
  abbrev pub replied : KeyCall K V Q → MachineReply V → KeyCall K V Q × Result Unit (MachineReply V)
  replied c told = replied_at c.stands c told
