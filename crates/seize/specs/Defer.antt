-- How a block is put in front of the further values of another block.
use Rattle.std.specs.Prelude.{ℕ, Ok, Err}
use Rattle.seize_words.specs.OneMemory.Word.{block_in}
use Rattle.seize_words.specs.declared.at.At.{At}
use Rattle.seize_words.specs.declared.at.At.TheVariants.{Entry}
use Rattle.seize_words.specs.OneMemory.Op.{Out, Load, Store, Exchange, Found, Exchanged}
use Rattle.seize_words.specs.OneMemory.Plan.{Plan, Then, Turn, Do, Now}
use Rattle.seize.specs.declared.states.TheConstants.{NEXT}
use Rattle.seize.specs.declared.advance.Advance.{Advance}
use Rattle.seize.specs.declared.advance.Advance.TheVariants.{Goes, Done}
use Rattle.seize.specs.declared.rows.defer.Defer.{Defer}
use Rattle.seize.specs.declared.rows.defer.Deferring.{Deferring}
use Rattle.seize.specs.declared.rows.defer.Deferring.TheVariants as at

-- a block is to be deferred to the list whose head stands in this word
abbrev pub deferring : ℕ → At → Defer
deferring block word = record { block = block; table_word = word; stands = at.Reads }

-- standing elsewhere
abbrev pub standing : Defer → Deferring → Defer
standing c stands = record c { stands = stands }

module _ {T : Type 0} where
  -- further steps are needed
  abbrev pub goes : Defer → Deferring → Then T (Defer × Advance Unit)
  goes c stands = Now (standing c stands, Goes)

  -- the head that the block is to follow is known
  abbrev pub head_read : Defer → Out T → Then T (Defer × Advance Unit)
  head_read c (Found head) = goes c (at.Links head)
  head_read c _ = Now (c, Goes)

  -- where the list has changed, the block is linked anew
  abbrev pub after_push : Defer → Out T → Then T (Defer × Advance Unit)
  after_push c (Exchanged (Ok _)) = goes c at.Over
  after_push c (Exchanged (Err head)) = goes c (at.Links head)
  after_push c _ = Now (c, Goes)

  -- each point: the head is read, the block is linked to it, and it takes the place of the head
  abbrev pub plan_at : Defer → Deferring → Plan T (Defer × Advance Unit)
  plan_at c at.Reads = Do (Load c.table_word) (head_read c)
  plan_at c (at.Links head) = Do (Store (Entry (block_in c.block) NEXT) head) (λ out. goes c (at.Pushes head))
  plan_at c (at.Pushes head) = Do (Exchange c.table_word head c.block) (after_push c)
  plan_at c at.Over = Turn (Now (c, Done tt))

  -- what its next step does
  abbrev pub defer_plan : Defer → Plan T (Defer × Advance Unit)
  defer_plan c = plan_at c c.stands
