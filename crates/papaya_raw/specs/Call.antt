-- A call on one key: what each step's operation is, and what follows its answer.
use Rattle.std.specs.Prelude.{ℕ, ◌==◌, Bool, true, false, bit_and, if◌then◌else◌, Option, Some, None, Ok, Err}
use Rattle.map_sweeps.specs.Given.SeizeWordsWord.{block_in}
use Rattle.map_sweeps.specs.Given.SeizeWordsDeclared.at.At.TheVariants.{Root, Word}
use Rattle.map_sweeps.specs.Given.SeizeWordsDeclared.fault.Fault.TheVariants.{Memory}
use Rattle.map_sweeps.specs.Given.SeizeWordsOp.{Out, Load, Add, Exchange, Make, Take, Found, Exchanged, Made, Taken}
use Rattle.map_sweeps.specs.Given.SeizeWordsPlan.{Plan, Then, Turn, Do, Now, Seeing, plan_as}
use Rattle.map_sweeps.specs.Given.SeizeDeclared.advance.Advance.{Advance}
use Rattle.map_sweeps.specs.Given.SeizeDeclared.advance.Advance.TheVariants as progress
use Rattle.map_sweeps.specs.Given.SeizeDeclared.rows.settle.Settled.{Settled}
use Rattle.map_sweeps.specs.Given.SeizeDeclared.rows.settle.Settled.TheVariants as settling
use Rattle.map_sweeps.specs.Given.TablesCounts.{count_change}
use Rattle.map_sweeps.specs.Given.TablesNodes.{table_seen}
use Rattle.map_sweeps.specs.Given.TablesTablePlaces.{at_word}
use Rattle.map_sweeps.specs.Given.TablesTrials.{place_tried}
use Rattle.map_sweeps.specs.Given.TablesFinding.{may_name}
use Rattle.map_sweeps.specs.Given.ResizeLookup.{names_pair, lookup_plan}
use Rattle.map_sweeps.specs.Given.ResizeNewTable.{new_table_plan}
use Rattle.map_sweeps.specs.Given.ResizeDispose.{dispose_plan}
use Rattle.map_sweeps.specs.Given.ResizeCopier.{copier_plan}
use Rattle.papaya_raw.specs.Answers.{ended}
use Rattle.papaya_raw.specs.CallFills.{asks_at}
use Rattle.papaya_raw.specs.CallPoints.{word_to, standing, going, over, answered_with, ending, tableless, at_last, told, entering, continued_in, changed, counted}
use Rattle.map_sweeps.specs.Given.TablesDeclared.table_words.TheConstants.{NEXT}
use Rattle.map_sweeps.specs.Given.TablesDeclared.node.Node.{Node}
use Rattle.map_sweeps.specs.Given.TablesDeclared.node.Node.TheVariants as nodes
use Rattle.map_sweeps.specs.Given.ResizeDeclared.yielding.Yielding.{Yielding}
use Rattle.map_sweeps.specs.Given.ResizeDeclared.yielding.Yielding.TheVariants as outcome
use Rattle.map_sweeps.specs.Given.TablesDeclared.table.Table.{Table}
use Rattle.map_sweeps.specs.Given.ResizeDeclared.lookup.Lookup.{Lookup}
use Rattle.map_sweeps.specs.Given.ResizeDeclared.new_table.NewTable.{NewTable}
use Rattle.map_sweeps.specs.Given.ResizeDeclared.copier.Copier.{Copier}
use Rattle.map_sweeps.specs.Given.ResizeDeclared.dispose.Dispose.{Dispose}
use Rattle.papaya_raw.specs.declared.machines.answer.KeyAnswer.{KeyAnswer}
use Rattle.papaya_raw.specs.declared.machines.answer.KeyAnswer.TheVariants as answers
use Rattle.papaya_raw.specs.declared.machines.answer.End.{End}
use Rattle.papaya_raw.specs.declared.machines.answer.End.TheVariants as ends
use Rattle.papaya_raw.specs.declared.machines.answer.Called.{Called}
use Rattle.papaya_raw.specs.declared.machines.answer.Called.TheVariants.{Goes, Waits, Gave, Unstored}
use Rattle.papaya_raw.specs.declared.machines.call.KeyCall.{KeyCall}
use Rattle.papaya_raw.specs.declared.machines.call.Calling.{Calling}
use Rattle.papaya_raw.specs.declared.machines.call.Calling.TheVariants as at

module _ {K V : Type 0} where
  -- two nodes are pairs of one key
  abbrev pub have_one_key : (K → K → Bool) → Node K V → Node K V → Bool
  have_one_key eq (nodes.Pair key value) other = names_pair (eq key) other
  have_one_key eq _ other = false

module _ {K V Q : Type 0} where
  -- the own block is made, or the pair comes back
  abbrev pub made : KeyCall K V Q → Out (Node K V) → Then (Node K V) (KeyCall K V Q × Called (Node K V))
  made c (Made (Ok block)) = Now (going (record c { unmade = None; own = word_to block c.hash }) at.Roots)
  made c (Made (Err node)) = Now (standing (record c { unmade = None }) (at.Over (ends.Refused Memory)), Unstored node)
  made c _ = Now (c, Goes)

  abbrev pub makes_of : KeyCall K V Q → Option (Node K V) → Plan (Node K V) (KeyCall K V Q × Called (Node K V))
  makes_of c (Some node) = Do (Make node 0) (made c)
  makes_of c None = Turn (Now (going c at.Roots))

  -- makes the own block
  abbrev pub makes : KeyCall K V Q → Plan (Node K V) (KeyCall K V Q × Called (Node K V))
  makes c = makes_of c c.unmade

  -- the root names the first table, or there is none
  abbrev pub root_read : KeyCall K V Q → ℕ → Then (Node K V) (KeyCall K V Q × Called (Node K V))
  root_read c link =
      if link == 0 then Now (tableless c.missing c)
      else Seeing (block_in link) (λ value. Now (entering c (table_seen link value)))

  abbrev pub root_found : KeyCall K V Q → Out (Node K V) → Then (Node K V) (KeyCall K V Q × Called (Node K V))
  root_found c (Found link) = root_read c link
  root_found c _ = Now (c, Goes)

  -- reads the root
  abbrev pub roots : KeyCall K V Q → Plan (Node K V) (KeyCall K V Q × Called (Node K V))
  roots c = Do (Load (Root c.setting.root)) (root_found c)

  -- a table follows, or the one that was tried is the last
  abbrev pub next_read : KeyCall K V Q → ℕ → Then (Node K V) (KeyCall K V Q × Called (Node K V))
  next_read c link =
      if link == 0 then Now (at_last c.missing c)
      else Seeing (block_in link) (λ value. Now (continued_in c (table_seen link value)))

  abbrev pub next_found : KeyCall K V Q → Out (Node K V) → Then (Node K V) (KeyCall K V Q × Called (Node K V))
  next_found c (Found link) = next_read c link
  next_found c _ = Now (c, Goes)

  -- reads the link to the next table
  abbrev pub nexts : KeyCall K V Q → Plan (Node K V) (KeyCall K V Q × Called (Node K V))
  nexts c = Do (Load (at_word c.trial.table NEXT)) (next_found c)

  -- takes the own block away
  abbrev pub dropped : KeyCall K V Q → End → Out (Node K V) → Then (Node K V) (KeyCall K V Q × Called (Node K V))
  dropped c end (Taken node) = Now (standing (record c { own = 0 }) (at.Over end), Unstored node)
  dropped c end _ = Now (c, Goes)

  abbrev pub drops : KeyCall K V Q → End → Plan (Node K V) (KeyCall K V Q × Called (Node K V))
  drops c end = Do (Take (block_in c.own)) (dropped c end)

  -- counts the change
  abbrev pub counts : KeyCall K V Q → ℕ → Plan (Node K V) (KeyCall K V Q × Called (Node K V))
  counts c removed =
      Do (Add (Word c.setting.counter (bit_and c.setting.slot c.setting.mask)) (count_change removed)) (λ out. Now (counted c removed))

-- what is found by what a call is asked with, and by the key of its own pair
module _ {K V Q : Type 0} (asks : Q → K → Bool) (eq : K → K → Bool) where
  -- The pair of a word is looked at. A call that is asked with no key has it by itself, or in its own block.
  abbrev pub key_read : Bool → KeyCall K V Q → ℕ → Option K → Then (Node K V) (KeyCall K V Q × Called (Node K V))
  key_read loaded c word (Some key) = Seeing (block_in word) (λ value. Now (told loaded c word (names_pair (eq key) value)))
  key_read loaded c word None =
      Seeing (block_in c.own) (λ own. Seeing (block_in word) (λ value. Now (told loaded c word (have_one_key eq own value))))

  abbrev pub pair_read : Bool → KeyCall K V Q → ℕ → Option Q → Then (Node K V) (KeyCall K V Q × Called (Node K V))
  pair_read loaded c word (Some asked) = Seeing (block_in word) (λ value. Now (told loaded c word (names_pair (asks asked) value)))
  pair_read loaded c word None = key_read loaded c word c.replies.key

  -- the word of the try was read, or found by an exchange that failed
  abbrev pub word_read : Bool → KeyCall K V Q → ℕ → Then (Node K V) (KeyCall K V Q × Called (Node K V))
  word_read loaded c word = if may_name c.hash word then pair_read loaded c word c.asked else Now (told loaded c word false)

  abbrev pub word_found : KeyCall K V Q → Out (Node K V) → Then (Node K V) (KeyCall K V Q × Called (Node K V))
  word_found c (Found word) = word_read true c word
  word_found c _ = Now (c, Goes)

  -- reads the word of the try
  abbrev pub probes : KeyCall K V Q → Plan (Node K V) (KeyCall K V Q × Called (Node K V))
  probes c = Do (Load (place_tried c.trial)) (word_found c)

  -- the map is changed, or another call was faster
  abbrev pub tried : KeyCall K V Q → ℕ → ℕ → Out (Node K V) → Then (Node K V) (KeyCall K V Q × Called (Node K V))
  tried c word new (Exchanged (Ok found)) = Now (changed c word new)
  tried c word new (Exchanged (Err found)) = word_read false c found
  tried c word new _ = Now (c, Goes)

  -- replaces the word
  abbrev pub tries : KeyCall K V Q → ℕ → ℕ → Plan (Node K V) (KeyCall K V Q × Called (Node K V))
  tries c word new = Do (Exchange (place_tried c.trial) word new) (tried c word new)

module _ {K V Q : Type 0} where
  -- a step of its lookup, as a step of its own
  abbrev pub looked : KeyCall K V Q → Lookup × Advance (Option ℕ) → KeyCall K V Q × Called (Node K V)
  looked c (lookup, progress.Goes) = going c (at.Looks lookup)
  looked c (lookup, progress.Waits) = (standing c (at.Looks lookup), Waits)
  looked c (lookup, progress.Done (Some found)) = answered_with c (answers.Found found)
  looked c (lookup, progress.Done None) = answered_with c answers.Absent
  looked c (lookup, progress.Refused fault) = over c (ends.Refused fault)

  abbrev pub looks_for : (Q → K → Bool) → KeyCall K V Q → Lookup → Option Q → Plan (Node K V) (KeyCall K V Q × Called (Node K V))
  looks_for asks c lookup (Some asked) = plan_as (looked c) (lookup_plan (asks asked) lookup)
  looks_for asks c lookup None = Turn (Now (answered_with c answers.Absent))

  -- looks for the key
  abbrev pub looks : (Q → K → Bool) → KeyCall K V Q → Lookup → Plan (Node K V) (KeyCall K V Q × Called (Node K V))
  looks asks c lookup = looks_for asks c lookup c.asked

  -- a step of the making of the first table, as a step of its own
  abbrev pub first_made : KeyCall K V Q → NewTable × Advance Table → KeyCall K V Q × Called (Node K V)
  first_made c (making, progress.Goes) = going c (at.Firsts making)
  first_made c (making, progress.Waits) = (standing c (at.Firsts making), Waits)
  first_made c (making, progress.Done table) = entering c table
  first_made c (making, progress.Refused fault) = ending c (ends.Refused fault)

  abbrev pub firsts : KeyCall K V Q → NewTable → Plan (Node K V) (KeyCall K V Q × Called (Node K V))
  firsts c making = plan_as (first_made c) (new_table_plan making)

  -- a step of the making of the next table, as a step of its own
  abbrev pub next_made : KeyCall K V Q → NewTable × Advance Table → KeyCall K V Q × Called (Node K V)
  next_made c (making, progress.Goes) = going c (at.Allocs making)
  next_made c (making, progress.Waits) = (standing c (at.Allocs making), Waits)
  next_made c (making, progress.Done table) = continued_in c table
  next_made c (making, progress.Refused fault) = ending c (ends.Refused fault)

  abbrev pub allocs : KeyCall K V Q → NewTable → Plan (Node K V) (KeyCall K V Q × Called (Node K V))
  allocs c making = plan_as (next_made c) (new_table_plan making)

  -- a step of the disposal of the pair that was there, as a step of its own
  abbrev pub disposed : KeyCall K V Q → KeyAnswer → Dispose × Settled (Node K V) → KeyCall K V Q × Called (Node K V)
  disposed c answer (dispose, settling.Goes) = going c (at.Disposes dispose answer)
  disposed c answer (dispose, settling.Waits) = (standing c (at.Disposes dispose answer), Waits)
  disposed c answer (dispose, settling.Gave value) = (standing c (at.Disposes dispose answer), Gave value)
  disposed c answer (dispose, settling.Done) = answered_with c answer

  abbrev pub disposes : KeyCall K V Q → Dispose → KeyAnswer → Plan (Node K V) (KeyCall K V Q × Called (Node K V))
  disposes c dispose answer = plan_as (disposed c answer) (dispose_plan dispose)

  -- a step of its help with a resize, as a step of its own
  abbrev pub helped : KeyCall K V Q → Table → Copier × Yielding (Node K V) Table → KeyCall K V Q × Called (Node K V)
  helped c goal (copier, outcome.Goes) = going c (at.Helps copier goal)
  helped c goal (copier, outcome.Waits) = (standing c (at.Helps copier goal), Waits)
  helped c goal (copier, outcome.Gave value) = (standing c (at.Helps copier goal), Gave value)
  helped c goal (copier, outcome.Done table) = entering c goal
  helped c goal (copier, outcome.Refused fault) = ending c (ends.Refused fault)

  abbrev pub helps : (K → ℕ) → KeyCall K V Q → Copier → Table → Plan (Node K V) (KeyCall K V Q × Called (Node K V))
  helps hashes c copier goal = plan_as (helped c goal) (copier_plan hashes copier)

  -- a step of the copying of a whole table, as a step of its own
  abbrev pub copied : KeyCall K V Q → Copier × Yielding (Node K V) Table → KeyCall K V Q × Called (Node K V)
  copied c (copier, outcome.Goes) = going c (at.Copies copier)
  copied c (copier, outcome.Waits) = (standing c (at.Copies copier), Waits)
  copied c (copier, outcome.Gave value) = (standing c (at.Copies copier), Gave value)
  copied c (copier, outcome.Done table) = entering c table
  copied c (copier, outcome.Refused fault) = ending c (ends.Refused fault)

  abbrev pub copies : (K → ℕ) → KeyCall K V Q → Copier → Plan (Node K V) (KeyCall K V Q × Called (Node K V))
  copies hashes c copier = plan_as (copied c) (copier_plan hashes copier)

  -- each point
  abbrev pub plan_at : (Q → K → Bool) → (K → K → Bool) → (K → ℕ) → KeyCall K V Q → Calling → Plan (Node K V) (KeyCall K V Q × Called (Node K V))
  plan_at asks eq hashes c at.Makes = makes c
  plan_at asks eq hashes c (at.Looks lookup) = looks asks c lookup
  plan_at asks eq hashes c at.Roots = roots c
  plan_at asks eq hashes c at.Probes = probes asks eq c
  plan_at asks eq hashes c (at.Tries word new) = tries asks eq c word new
  plan_at asks eq hashes c (at.Counts removed) = counts c removed
  plan_at asks eq hashes c at.Nexts = nexts c
  plan_at asks eq hashes c (at.Firsts making) = firsts c making
  plan_at asks eq hashes c (at.Allocs making) = allocs c making
  plan_at asks eq hashes c (at.Helps copier goal) = helps hashes c copier goal
  plan_at asks eq hashes c (at.Copies copier) = copies hashes c copier
  plan_at asks eq hashes c (at.Asks asking) = asks_at c asking
  plan_at asks eq hashes c (at.Disposes dispose answer) = disposes c dispose answer
  plan_at asks eq hashes c (at.Drops end) = drops c end
  plan_at asks eq hashes c (at.Over end) = Turn (Now (c, ended end))

  -- What its next step does: whether what it is asked with stands for a key, whether two keys are equal, and the hash of each key
  -- that is copied.
  abbrev pub call_plan : (Q → K → Bool) → (K → K → Bool) → (K → ℕ) → KeyCall K V Q → Plan (Node K V) (KeyCall K V Q × Called (Node K V))
  call_plan asks eq hashes c = plan_at asks eq hashes c c.stands
