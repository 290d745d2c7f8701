-- How a map ends: its pairs are reclaimed, then the pairs that its tables carry, its tables and its counter.
use Rattle.std.specs.Prelude.{ℕ, ◌+◌, ◌-◌, ◌%◌, ◌^◌, ◌==◌, ◌&&◌, not, Bool, nat_lt, if◌then◌else◌}
use Rattle.map_sweeps.specs.Given.SeizeWordsWord.{block_in}
use Rattle.map_sweeps.specs.Given.SeizeWordsDeclared.at.At.TheVariants.{Root, Used, Entry, Word}
use Rattle.map_sweeps.specs.Given.SeizeWordsOp.{Out, Load, Store, Take, Found, Taken}
use Rattle.map_sweeps.specs.Given.SeizeWordsPlan.{Plan, Then, Turn, Do, Now, Seeing}
use Rattle.map_sweeps.specs.Given.SeizeDeclared.states.TheConstants as state
use Rattle.map_sweeps.specs.Given.SeizeDeclared.rows.settle.Settled.{Settled}
use Rattle.map_sweeps.specs.Given.SeizeDeclared.rows.settle.Settled.TheVariants.{Goes, Gave, Done}
use Rattle.map_sweeps.specs.Given.TablesDeclared.setting.Setting.{Setting}
use Rattle.map_sweeps.specs.Given.TablesDeclared.node.Node.{Node}
use Rattle.map_sweeps.specs.Given.TablesDeclared.table_words.TheConstants.{NEXT, DEFERRED, PLACES}
use Rattle.map_sweeps.specs.Given.TablesDeclared.marks.TheConstants.{COPYING}
use Rattle.papaya_raw.specs.declared.machines.end_map.EndMap.{EndMap}
use Rattle.papaya_raw.specs.declared.machines.end_map.Ending.{Ending}
use Rattle.papaya_raw.specs.declared.machines.end_map.Ending.TheVariants as at
use Rattle.map_sweeps.specs.Given.TablesChunks.{is_incremental}
use Rattle.map_sweeps.specs.Given.ResizeCopierStates.{no_table}
use Rattle.map_sweeps.specs.Given.TablesMarks.{has_mark}
use Rattle.map_sweeps.specs.Given.TablesNodes.{table_seen}

-- a map that is to end
abbrev pub ending : Setting → Bool → EndMap
ending setting owns =
    record { setting = setting; owns = owns; root = no_table; table = no_table; place = 0; first = 0; last = 0; stands = at.Reads }

-- a word that names a pair of the map: where it grows in incremental mode, a marked pair is one of a later table, too
abbrev pub is_current : EndMap → ℕ → Bool
is_current c word = not (block_in word == 0) && not (is_incremental c.setting.mode && has_mark word COPYING)

-- standing elsewhere
abbrev pub standing : EndMap → Ending → EndMap
standing c stands = record c { stands = stands }

-- the next place, or the next table
abbrev pub next_place : EndMap → EndMap
next_place c = if nat_lt c.place (c.table.len - 1) then record c { place = c.place + 1; stands = at.Words } else standing c at.Nexts

module _ {T : Type 0} where
  -- further steps are needed
  abbrev pub to : EndMap → Then T (EndMap × Settled T)
  to c = Now (c, Goes)

  abbrev pub goes : EndMap → Ending → Then T (EndMap × Settled T)
  goes c stands = to (standing c stands)

  -- the place is known
  abbrev pub word_read : EndMap → Out T → Then T (EndMap × Settled T)
  word_read c (Found word) = if is_current c word then goes c (at.Takes word) else to (next_place c)
  word_read c _ = to c

  -- reads a place
  abbrev pub words : EndMap → Plan T (EndMap × Settled T)
  words c = Do (Load (Word (block_in c.table.link) ((c.place + PLACES) % 2 ^ 64))) (word_read c)

  -- the block is gone, and its value is handed out
  abbrev pub given_back : EndMap → EndMap → Out T → Then T (EndMap × Settled T)
  given_back c further (Taken value) = Now (further, Gave value)
  given_back c further _ = to c

  -- reclaims a pair
  abbrev pub takes : EndMap → ℕ → Plan T (EndMap × Settled T)
  takes c pair = Do (Take (block_in pair)) (given_back c (next_place c))

  -- the list that the table carries is known
  abbrev pub list_read : EndMap → Out T → Then T (EndMap × Settled T)
  list_read c (Found pair) =
      if pair == 0 then goes c at.Afters else
      (if c.owns then goes c (at.Follows pair) else
      (if c.first == 0 then to (record c { first = pair; last = pair; stands = at.Follows pair }) else goes c (at.Joins pair)))
  list_read c _ = to c

  -- reads the list that the table carries
  abbrev pub carries : EndMap → Plan T (EndMap × Settled T)
  carries c = Do (Load (Word (block_in c.table.link) DEFERRED)) (list_read c)

  -- puts the list behind those before
  abbrev pub joins : EndMap → ℕ → Plan T (EndMap × Settled T)
  joins c pair = Do (Store (Entry (block_in c.last) state.NEXT) pair) (λ out. to (record c { last = pair; stands = at.Follows pair }))

  -- the pair behind one of the list is known
  abbrev pub follower_read : EndMap → ℕ → Out T → Then T (EndMap × Settled T)
  follower_read c pair (Found next) =
      if c.owns then goes c (at.Gives pair next) else
      (if next == 0 then goes c at.Afters else to (record c { last = next; stands = at.Follows next }))
  follower_read c pair _ = to c

  -- reads which pair follows one of the list
  abbrev pub follows : EndMap → ℕ → Plan T (EndMap × Settled T)
  follows c pair = Do (Load (Entry (block_in pair) state.NEXT)) (follower_read c pair)

  -- reclaims a pair that was deferred
  abbrev pub gives : EndMap → ℕ → ℕ → Plan T (EndMap × Settled T)
  gives c pair next = Do (Take (block_in pair)) (given_back c (standing c (if next == 0 then at.Afters else at.Follows next)))

  -- the table after one is known
  abbrev pub after_read : EndMap → Out T → Then T (EndMap × Settled T)
  after_read c (Found next) = goes c (at.Drops next)
  after_read c _ = to c

  -- reads which table comes after one
  abbrev pub afters : EndMap → Plan T (EndMap × Settled T)
  afters c = Do (Load (Word (block_in c.table.link) NEXT)) (after_read c)

  -- reclaims the shards
  abbrev pub shards : EndMap → Plan T (EndMap × Settled T)
  shards c = Do (Take c.setting.counter) (given_back c (standing c at.Sets))

  -- writes the list of the pairs that were deferred to the root: without them the root is free
  abbrev pub sets : EndMap → Plan T (EndMap × Settled T)
  sets c = Do (Store (Root c.setting.root) c.first) (λ out. if c.first == 0 then goes c at.Frees else Now (standing c at.Over, Done))

  -- gives the root up
  abbrev pub frees : EndMap → Plan T (EndMap × Settled T)
  frees c = Do (Store (Used c.setting.root) 0) (λ out. Now (standing c at.Over, Done))

module _ {K V : Type 0} where
  -- the root is known, and looked at
  abbrev pub root_read : EndMap → Out (Node K V) → Then (Node K V) (EndMap × Settled (Node K V))
  root_read c (Found root) =
      if root == 0 then goes c at.Shards else
      Seeing (block_in root) (λ value. to (record c { root = table_seen root value; table = table_seen root value; stands = at.Words }))
  root_read c _ = to c

  -- reads the root
  abbrev pub reads : EndMap → Plan (Node K V) (EndMap × Settled (Node K V))
  reads c = Do (Load (Root c.setting.root)) (root_read c)

  -- where the map grows in incremental mode the next table has pairs of its own
  abbrev pub next_read : EndMap → Out (Node K V) → Then (Node K V) (EndMap × Settled (Node K V))
  next_read c (Found link) =
      if not (link == 0) && is_incremental c.setting.mode
      then Seeing (block_in link) (λ value. to (record c { table = table_seen link value; place = 0; stands = at.Words }))
      else to (record c { table = c.root; stands = at.Carries })
  next_read c _ = to c

  -- reads which table comes next
  abbrev pub nexts : EndMap → Plan (Node K V) (EndMap × Settled (Node K V))
  nexts c = Do (Load (Word (block_in c.table.link) NEXT)) (next_read c)

  -- the table is gone, and the one behind it is looked at
  abbrev pub dropped : EndMap → ℕ → Out (Node K V) → Then (Node K V) (EndMap × Settled (Node K V))
  dropped c next (Taken value) =
      if next == 0 then Now (standing c at.Shards, Gave value) else
      Seeing (block_in next) (λ other. Now (record c { table = table_seen next other; stands = at.Carries }, Gave value))
  dropped c next _ = to c

  -- reclaims the table
  abbrev pub drops : EndMap → ℕ → Plan (Node K V) (EndMap × Settled (Node K V))
  drops c next = Do (Take (block_in c.table.link)) (dropped c next)

  -- each point
  abbrev pub plan_at : EndMap → Ending → Plan (Node K V) (EndMap × Settled (Node K V))
  plan_at c at.Reads = reads c
  plan_at c at.Words = words c
  plan_at c (at.Takes pair) = takes c pair
  plan_at c at.Nexts = nexts c
  plan_at c at.Carries = carries c
  plan_at c (at.Joins pair) = joins c pair
  plan_at c (at.Follows pair) = follows c pair
  plan_at c (at.Gives pair next) = gives c pair next
  plan_at c at.Afters = afters c
  plan_at c (at.Drops next) = drops c next
  plan_at c at.Shards = shards c
  plan_at c at.Sets = sets c
  plan_at c at.Frees = frees c
  plan_at c at.Over = Turn (Now (c, Done))

  -- what its next step does
  abbrev pub end_map_plan : EndMap → Plan (Node K V) (EndMap × Settled (Node K V))
  end_map_plan c = plan_at c c.stands
