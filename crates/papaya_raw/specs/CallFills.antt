-- A call on one key puts what it was told into its own block, or gives that block up: what the operation is, and what follows its answer.
use Rattle.std.specs.Prelude.{ℕ, ◌==◌, Bool, true, false, Option, Some, None, Ok, Err}
use Rattle.map_sweeps.specs.Given.SeizeWordsWord.{block_in}
use Rattle.map_sweeps.specs.Given.SeizeWordsDeclared.fault.Fault.TheVariants.{Memory}
use Rattle.map_sweeps.specs.Given.SeizeWordsOp.{Out, Make, Take, Rewrite, Made, Taken}
use Rattle.map_sweeps.specs.Given.SeizeWordsPlan.{Plan, Then, Turn, Do, Now}
use Rattle.map_sweeps.specs.Given.TablesNodes.{vacant}
use Rattle.map_sweeps.specs.Given.TablesDeclared.marks.TheConstants.{TOMBSTONE}
use Rattle.map_sweeps.specs.Given.TablesDeclared.node.Node.{Node}
use Rattle.map_sweeps.specs.Given.TablesDeclared.node.Node.TheVariants as nodes
use Rattle.papaya_raw.specs.CallPoints.{word_to, standing, going}
use Rattle.papaya_raw.specs.Replies.{value_for, as_own, with_back}
use Rattle.papaya_raw.specs.declared.machines.answer.End.TheVariants as ends
use Rattle.papaya_raw.specs.declared.machines.answer.Called.{Called}
use Rattle.papaya_raw.specs.declared.machines.answer.Called.TheVariants.{Goes, Unstored, Asks}
use Rattle.papaya_raw.specs.declared.machines.asking.Asking.{Asking}
use Rattle.papaya_raw.specs.declared.machines.asking.Asking.TheVariants as asking
use Rattle.papaya_raw.specs.declared.machines.call.KeyCall.{KeyCall}
use Rattle.papaya_raw.specs.declared.machines.call.Calling.TheVariants as at

module _ {K V Q : Type 0} where
  -- the key and the value of its own block are taken back
  abbrev pub taken_back : KeyCall K V Q → K → V → KeyCall K V Q
  taken_back c key value = record c { replies = with_back c.replies key value }

  -- its own block has its pair, or the pair comes back
  abbrev pub filled : KeyCall K V Q → ℕ → Out (Node K V) → Then (Node K V) (KeyCall K V Q × Called (Node K V))
  filled c word (Made (Ok block)) = Now (going (record c { own = word_to block c.hash }) (at.Tries word (word_to block c.hash)))
  filled c word (Made (Err node)) = Now (standing c (at.Over (ends.Refused Memory)), Unstored node)
  filled c word (Taken node) = Now (going c (at.Tries word c.own))
  filled c word _ = Now (c, Goes)

  -- a pair of its key and this value goes into a block that is made, or into its own one
  abbrev pub putting_by : Bool → KeyCall K V Q → ℕ → K → V → Plan (Node K V) (KeyCall K V Q × Called (Node K V))
  putting_by true c word key value = Do (Make (nodes.Pair key value) 0) (filled c word)
  putting_by false c word key value = Do (Rewrite (block_in c.own) (nodes.Pair key value)) (filled c word)

  abbrev pub putting : KeyCall K V Q → ℕ → K → V → Plan (Node K V) (KeyCall K V Q × Called (Node K V))
  putting c word key value = putting_by (c.own == 0) c word key value

  abbrev pub fill_by : Option V → KeyCall K V Q → ℕ → K → Plan (Node K V) (KeyCall K V Q × Called (Node K V))
  fill_by (Some value) c word key = putting (record c { replies = record c.replies { key = None } }) word key value
  fill_by None c word key = Turn (Now (going c at.Probes))

  -- a value that was not stored is out of its own block, with the key
  abbrev pub emptied : KeyCall K V Q → ℕ → Out (Node K V) → Then (Node K V) (KeyCall K V Q × Called (Node K V))
  emptied c word (Taken (nodes.Pair key value)) = Now (going (taken_back c key value) (at.Asks (asking.Fills word)))
  emptied c word _ = Now (going c at.Probes)

  -- Puts the value that it was told into its own block. Where one that was not stored is there, it is taken out first.
  abbrev pub fills_with : Option K → KeyCall K V Q → ℕ → Plan (Node K V) (KeyCall K V Q × Called (Node K V))
  fills_with (Some key) c word = fill_by (value_for c.replies word) (record c { replies = as_own c.replies word }) word key
  fills_with None c word = Do (Rewrite (block_in c.own) vacant) (emptied c word)

  abbrev pub fills : KeyCall K V Q → ℕ → Plan (Node K V) (KeyCall K V Q × Called (Node K V))
  fills c word = fills_with c.replies.key c word

  -- its own block is gone, and it may remove the pair of a word
  abbrev pub given_up : KeyCall K V Q → ℕ → Out (Node K V) → Then (Node K V) (KeyCall K V Q × Called (Node K V))
  given_up c word (Taken (nodes.Pair key value)) = Now (going (taken_back (record c { own = 0 }) key value) (at.Tries word TOMBSTONE))
  given_up c word (Taken _) = Now (going (record c { own = 0 }) (at.Tries word TOMBSTONE))
  given_up c word _ = Now (c, Goes)

  -- gives its own block up
  abbrev pub gives_up : KeyCall K V Q → ℕ → Plan (Node K V) (KeyCall K V Q × Called (Node K V))
  gives_up c word = Do (Take (block_in c.own)) (given_up c word)

  -- each point of a call that asks
  abbrev pub asks_at : KeyCall K V Q → Asking → Plan (Node K V) (KeyCall K V Q × Called (Node K V))
  asks_at c (asking.Absent gap) = Turn (Now (c, Asks None))
  asks_at c (asking.Present word) = Turn (Now (c, Asks (Some word)))
  asks_at c (asking.Fills word) = fills c word
  asks_at c (asking.GivesUp word) = gives_up c word
