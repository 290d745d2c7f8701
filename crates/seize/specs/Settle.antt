-- What a slot does with its batch, step by step: what each step's operation is, and what follows its answer.
use Rattle.std.specs.Prelude.{ℕ, ◌%◌, ◌+◌, ◌-◌, ◌^◌, ◌==◌, ◌||◌, not, Bool, true, false, nat_lt, if◌then◌else◌, Option, Some, None, Ok, Err}
use Rattle.seize_words.specs.OneMemory.Word.{block_in}
use Rattle.seize_words.specs.declared.at.At.TheVariants.{Slot, Entry, Word}
use Rattle.seize_words.specs.OneMemory.Op.{Out, Load, Store, Add, Exchange, Take, Found, Exchanged, Taken}
use Rattle.seize_words.specs.OneMemory.Plan.{Plan, Then, Turn, Do, Now, Seeing}
use Rattle.seize.specs.declared.states.TheConstants.{HEAD, BATCH, NEVER, ACTIVE, HELD, NEXT, LINK, FIRST, COUNT, LAST_SLOT, MOST_LOST}
use Rattle.seize.specs.declared.rows.settle.Settle.{Settle}
use Rattle.seize.specs.declared.rows.settle.Settling.{Settling}
use Rattle.seize.specs.declared.rows.settle.Settling.TheVariants as at
use Rattle.seize.specs.declared.rows.settle.Settled.{Settled}
use Rattle.seize.specs.declared.rows.settle.Settled.TheVariants.{Goes, Waits, Gave, Done}

-- with nothing to do, standing somewhere
abbrev pub resting : ℕ → ℕ → Settling → Settle
resting slot size stands = record {
  slot = slot;
  batch_size = size;
  list = 0;
  pending = 0;
  reclaiming = 0;
  flushing = false;
  held = false;
  last = 0;
  first = 0;
  put_first = 0;
  put_last = 0;
  lost = 0;
  stands = stands;
}

-- a block is to be retired
abbrev pub retiring : ℕ → ℕ → ℕ → Settle
retiring slot size block = record (resting slot size at.Sees) { pending = block }

-- the batch is to be tried at any length
abbrev pub flushing : ℕ → ℕ → Settle
flushing slot size = record (resting slot size at.Sees) { flushing = true }

-- a list is to be counted down
abbrev pub counting_down : ℕ → ℕ → ℕ → Settle
counting_down slot size list = record (resting slot size at.Lists) { list = list }

-- standing elsewhere
abbrev pub standing : Settle → Settling → Settle
standing c stands = record c { stands = stands }

-- where it goes on with the batch, which it holds or not: a flush of no batch has nothing to try
abbrev pub with_batch : Settle → Settle
with_batch c =
    if c.held
    then (if c.flushing then (if c.last == 0 then record c { flushing = false; stands = at.Gives } else record c { flushing = false; stands = at.Firsts 0 }) else standing c at.Pops)
    else standing c at.Sees

-- where it goes on after a piece of work: with what is being reclaimed, else with what is to be retired or tried, else with the list, else it gives the batch up
abbrev pub onward : Settle → Settle
onward c =
    if c.reclaiming == 0
    then (if c.pending == 0 then (if c.flushing then with_batch c else (if nat_lt ACTIVE c.list then standing c at.Lists else (if c.held then standing c at.Gives else standing c at.Over))) else with_batch c)
    else standing c at.Nexts

-- the block is counted once it stands behind the last one, if there is one
abbrev pub ended : Settle → ℕ → Settling
ended c block = if c.last == 0 then at.Counts block else at.Appends block

-- the batch is closed: none is open
abbrev pub closed : Settle → ℕ → Settle
closed c marks = if marks == 0 then record c { last = 0; stands = at.Sums 0 } else record c { last = 0; stands = at.Reads c.first marks 0 }

-- the first slot is scanned, with the first block of the batch
abbrev pub scanning : Settle → Settle
scanning c = standing c (at.Scans 0 c.first 0)

-- the slot behind one is scanned, or the last one was
abbrev pub behind : ℕ → ℕ → ℕ → Settling
behind slot block marks = if nat_lt slot LAST_SLOT then at.Scans (slot + 1) block marks else at.Closes marks

-- a block less is left to be pushed
abbrev pub pushed_of : ℕ → ℕ → ℕ → Settling
pushed_of block left pushed = if nat_lt 1 left then at.Pushed block (left - 1) pushed else at.Sums pushed

-- The slot with this head needs no entry: it is no longer active; or its list has changed as often as there are numbers of blocks, so it was taken since the
-- slot was found active.
abbrev pub needs_none : Settle → ℕ → Bool
needs_none c head = nat_lt head ACTIVE || not (nat_lt c.lost MOST_LOST)

-- further values stand behind those that the batch had put: all that a batch put is to be retired first
abbrev pub with_put : Settle → Settle
with_put c = onward (record c { pending = c.put_first; put_first = 0; put_last = 0 })

-- a block was reclaimed, and `next` comes after it
abbrev pub without_block : Settle → ℕ → Settle
without_block c next =
    if next == 0
    then (if c.put_first == 0 then onward (record c { reclaiming = next }) else (if c.pending == 0 then with_put (record c { reclaiming = next }) else record c { reclaiming = next; stands = at.Puts }))
    else onward (record c { reclaiming = next })

module _ {T : Type 0} where
  -- further steps are needed
  abbrev pub to : Settle → Then T (Settle × Settled T)
  to c = Now (c, Goes)

  -- further steps are needed, from this point on
  abbrev pub goes : Settle → Settling → Then T (Settle × Settled T)
  goes c stands = to (standing c stands)

  -- the batch word was read: another row holds the batch, or it is to be held as it was seen
  abbrev pub seen : Settle → Out T → Then T (Settle × Settled T)
  seen c (Found word) = if word == HELD then Now (c, Waits) else to (record c { last = word; stands = at.Holds })
  seen c _ = to c

  -- reads the batch word
  abbrev pub sees : Settle → Plan T (Settle × Settled T)
  sees c = Do (Load (Slot c.slot BATCH)) (seen c)

  -- the batch is held, unless its word has changed since it was seen
  abbrev pub taken_hold : Settle → Out T → Then T (Settle × Settled T)
  taken_hold c (Exchanged (Ok _)) = to (onward (record c { held = true }))
  taken_hold c (Exchanged (Err _)) = to (record c { last = 0; stands = at.Sees })
  taken_hold c _ = to c

  -- takes hold of the batch that was seen
  abbrev pub holds : Settle → Plan T (Settle × Settled T)
  holds c = Do (Exchange (Slot c.slot BATCH) c.last HELD) (taken_hold c)

  -- the block that was popped is the first of its batch where no batch is open
  abbrev pub popped : Settle → Out T → Then T (Settle × Settled T)
  popped c (Found next) =
      if c.last == 0 then to (record c { pending = next; first = c.pending; stands = at.Batches c.pending })
      else to (record c { pending = next; stands = at.Firsts c.pending })
  popped c _ = to c

  -- takes the first of the pending blocks
  abbrev pub pops : Settle → Plan T (Settle × Settled T)
  pops c = Do (Load (Entry (block_in c.pending) NEXT)) (popped c)

  -- the first block of the batch is known: a block is appended to it, or there is none and the batch is tried
  abbrev pub first_read : Settle → ℕ → Out T → Then T (Settle × Settled T)
  first_read c block (Found first) =
      if block == 0 then to (scanning (record c { first = first })) else to (record c { first = first; stands = at.Batches block })
  first_read c block _ = to c

  -- reads the first block of the open batch, in the entry of its last one
  abbrev pub firsts : Settle → ℕ → Plan T (Settle × Settled T)
  firsts c block = Do (Load (Entry (block_in c.last) FIRST)) (first_read c block)

  -- writes into the block which batch it is of
  abbrev pub batches : Settle → ℕ → Plan T (Settle × Settled T)
  batches c block = Do (Store (Entry (block_in block) FIRST) c.first) (λ out. goes c (at.Ends block))

  -- makes the block the end of its batch
  abbrev pub ends : Settle → ℕ → Plan T (Settle × Settled T)
  ends c block = Do (Store (Entry (block_in block) NEXT) 0) (λ out. goes c (ended c block))

  -- puts the block behind the last one
  abbrev pub appends : Settle → ℕ → Plan T (Settle × Settled T)
  appends c block = Do (Store (Entry (block_in c.last) NEXT) block) (λ out. goes c (at.Counts block))

  -- the block is retired: the batch is tried where it is long enough now
  abbrev pub counted : Settle → ℕ → Out T → Then T (Settle × Settled T)
  counted c block (Found count) =
      if nat_lt ((count + 1) % 2 ^ 64) c.batch_size then to (onward (record c { last = block })) else to (scanning (record c { last = block }))
  counted c block _ = to c

  -- counts the block into the batch
  abbrev pub counts : Settle → ℕ → Plan T (Settle × Settled T)
  counts c block = Do (Add (Entry (block_in c.first) COUNT) 1) (counted c block)

  -- an active slot is marked with the next block of the batch; where none is left, the try is given up
  abbrev pub scanned : Settle → ℕ → ℕ → ℕ → Out T → Then T (Settle × Settled T)
  scanned c slot block marks (Found head) =
      if head == NEVER then goes c (at.Closes marks) else
      (if nat_lt head ACTIVE then goes c (behind slot block marks) else
      (if block == 0 then to (onward c) else goes c (at.Marks slot block marks)))
  scanned c slot block marks _ = to c

  -- reads the head of a slot
  abbrev pub scans : Settle → ℕ → ℕ → ℕ → Plan T (Settle × Settled T)
  scans c slot block marks = Do (Load (Slot slot HEAD)) (scanned c slot block marks)

  -- marks a block with a slot
  abbrev pub marks_block : Settle → ℕ → ℕ → ℕ → Plan T (Settle × Settled T)
  marks_block c slot block marks = Do (Store (Entry (block_in block) LINK) slot) (λ out. goes c (at.Marked slot block marks))

  -- one more block is marked
  abbrev pub marked_next : Settle → ℕ → ℕ → Out T → Then T (Settle × Settled T)
  marked_next c slot marks (Found next) = goes c (behind slot next ((marks + 1) % 2 ^ 64))
  marked_next c slot marks _ = to c

  -- reads the next block that can be marked
  abbrev pub marked : Settle → ℕ → ℕ → ℕ → Plan T (Settle × Settled T)
  marked c slot block marks = Do (Load (Entry (block_in block) NEXT)) (marked_next c slot marks)

  -- turns the length of the batch into its counter
  abbrev pub closes : Settle → ℕ → Plan T (Settle × Settled T)
  closes c marks = Do (Store (Entry (block_in c.first) COUNT) 0) (λ out. to (closed c marks))

  -- the block is to follow no entry, until its push finds one
  abbrev pub slot_read : Settle → ℕ → ℕ → ℕ → Out T → Then T (Settle × Settled T)
  slot_read c block left pushed (Found slot) = to (record c { lost = 0; stands = at.Links block left pushed slot ACTIVE })
  slot_read c block left pushed _ = to c

  -- reads the slot that the block is marked with
  abbrev pub reads : Settle → ℕ → ℕ → ℕ → Plan T (Settle × Settled T)
  reads c block left pushed = Do (Load (Entry (block_in block) LINK)) (slot_read c block left pushed)

  -- links the block to the head that it is to follow
  abbrev pub links : Settle → ℕ → ℕ → ℕ → ℕ → ℕ → Plan T (Settle × Settled T)
  links c block left pushed slot head = Do (Store (Entry (block_in block) LINK) head) (λ out. goes c (at.Pushes block left pushed slot head))

  -- Where only the slot's list has changed, the block is linked anew.
  abbrev pub after_push : Settle → ℕ → ℕ → ℕ → ℕ → Out T → Then T (Settle × Settled T)
  after_push c block left pushed slot (Exchanged (Ok _)) = goes c (pushed_of block left ((pushed + 1) % 2 ^ 64))
  after_push c block left pushed slot (Exchanged (Err head)) =
      if needs_none c head then goes c (pushed_of block left pushed) else to (record c { lost = c.lost + 1; stands = at.Links block left pushed slot head })
  after_push c block left pushed slot _ = to c

  -- pushes the block on the slot's list
  abbrev pub pushes : Settle → ℕ → ℕ → ℕ → ℕ → ℕ → Plan T (Settle × Settled T)
  pushes c block left pushed slot head = Do (Exchange (Slot slot HEAD) head block) (after_push c block left pushed slot)

  -- the next block is to be pushed
  abbrev pub next_pushed : Settle → ℕ → ℕ → Out T → Then T (Settle × Settled T)
  next_pushed c left pushed (Found next) = goes c (at.Reads next left pushed)
  next_pushed c left pushed _ = to c

  -- reads the next block that is to be pushed
  abbrev pub pushed_next : Settle → ℕ → ℕ → ℕ → Plan T (Settle × Settled T)
  pushed_next c block left pushed = Do (Load (Entry (block_in block) NEXT)) (next_pushed c left pushed)

  -- the batch is reclaimed where its counter is 0 after the addition
  abbrev pub summed : Settle → ℕ → Out T → Then T (Settle × Settled T)
  summed c pushed (Found count) =
      if (count + pushed) % 2 ^ 64 == 0 then to (onward (record c { reclaiming = c.first; first = 0 })) else to (onward (record c { first = 0 }))
  summed c pushed _ = to c

  -- adds the number of blocks pushed to the counter
  abbrev pub sums : Settle → ℕ → Plan T (Settle × Settled T)
  sums c pushed = Do (Add (Entry (block_in c.first) COUNT) pushed) (summed c pushed)

  -- a block that holds further values is drained before it is reclaimed
  abbrev pub drained_first : Settle → ℕ → Option ℕ → Then T (Settle × Settled T)
  drained_first c next (Some word) = goes c (at.Drains next word)
  drained_first c next None = goes c (at.Takes next)

  -- the block to be reclaimed next is known
  abbrev pub next_read : (T → Option ℕ) → Settle → Out T → Then T (Settle × Settled T)
  next_read defers c (Found next) = Seeing (block_in c.reclaiming) (λ value. drained_first c next (defers value))
  next_read defers c _ = to c

  -- reads which block is to be reclaimed next, and looks at the value of this one
  abbrev pub nexts : (T → Option ℕ) → Settle → Plan T (Settle × Settled T)
  nexts defers c = Do (Load (Entry (block_in c.reclaiming) NEXT)) (next_read defers c)

  -- the further values are the first that the batch puts, or stand behind those that it has put
  abbrev pub drained : Settle → ℕ → Out T → Then T (Settle × Settled T)
  drained c next (Found head) =
      if head == 0 then goes c (at.Takes next) else
      (if c.put_first == 0 then to (record c { put_first = head; put_last = head; stands = at.Tails next }) else goes c (at.Joins next head))
  drained c next _ = to c

  -- reads the head of the further values, in a word of the block
  abbrev pub drains : Settle → ℕ → ℕ → Plan T (Settle × Settled T)
  drains c next word = Do (Load (Word (block_in c.reclaiming) word)) (drained c next)

  -- puts further values behind those that the batch has put
  abbrev pub joins : Settle → ℕ → ℕ → Plan T (Settle × Settled T)
  joins c next more = Do (Store (Entry (block_in c.put_last) NEXT) more) (λ out. to (record c { put_last = more; stands = at.Tails next }))

  -- the last value put is known, or one behind it
  abbrev pub tail_read : Settle → ℕ → Out T → Then T (Settle × Settled T)
  tail_read c next (Found further) = if further == 0 then goes c (at.Takes next) else to (record c { put_last = further; stands = at.Tails next })
  tail_read c next _ = to c

  -- reads what comes after a value put
  abbrev pub tails : Settle → ℕ → Plan T (Settle × Settled T)
  tails c next = Do (Load (Entry (block_in c.put_last) NEXT)) (tail_read c next)

  -- the value of the block was reclaimed
  abbrev pub given_back : Settle → ℕ → Out T → Then T (Settle × Settled T)
  given_back c next (Taken value) = Now (without_block c next, Gave value)
  given_back c next _ = to c

  -- takes the block away
  abbrev pub takes : Settle → ℕ → Plan T (Settle × Settled T)
  takes c next = Do (Take (block_in c.reclaiming)) (given_back c next)

  -- puts the pending blocks behind the values that the batch has put
  abbrev pub puts : Settle → Plan T (Settle × Settled T)
  puts c = Do (Store (Entry (block_in c.put_last) NEXT) c.pending) (λ out. to (with_put c))

  -- the entry after the first one of the list is known
  abbrev pub entry_read : Settle → Out T → Then T (Settle × Settled T)
  entry_read c (Found next) = goes c (at.Owns next)
  entry_read c _ = to c

  -- reads which entry comes after the first one of the list
  abbrev pub lists : Settle → Plan T (Settle × Settled T)
  lists c = Do (Load (Entry (block_in c.list) LINK)) (entry_read c)

  -- the batch of the entry is known, by its first block
  abbrev pub batch_read : Settle → ℕ → Out T → Then T (Settle × Settled T)
  batch_read c next (Found batch) = goes c (at.Downs next batch)
  batch_read c next _ = to c

  -- reads the batch of the first entry of the list
  abbrev pub owns : Settle → ℕ → Plan T (Settle × Settled T)
  owns c next = Do (Load (Entry (block_in c.list) FIRST)) (batch_read c next)

  -- the batch is reclaimed where its counter was 1, and is 0 now
  abbrev pub counted_down : Settle → ℕ → ℕ → Out T → Then T (Settle × Settled T)
  counted_down c next batch (Found count) =
      if count == 1 then to (onward (record c { list = next; reclaiming = batch })) else to (onward (record c { list = next }))
  counted_down c next batch _ = to c

  -- takes one off the batch's counter
  abbrev pub downs : Settle → ℕ → ℕ → Plan T (Settle × Settled T)
  downs c next batch = Do (Add (Entry (block_in batch) COUNT) (2 ^ 64 - 1)) (counted_down c next batch)

  -- gives the batch up: its last block, or no batch
  abbrev pub gives : Settle → Plan T (Settle × Settled T)
  gives c = Do (Store (Slot c.slot BATCH) c.last) (λ out. to (record c { held = false; stands = at.Over }))

  -- each point
  abbrev pub plan_at : (T → Option ℕ) → Settle → Settling → Plan T (Settle × Settled T)
  plan_at defers c at.Sees = sees c
  plan_at defers c at.Holds = holds c
  plan_at defers c at.Pops = pops c
  plan_at defers c (at.Firsts block) = firsts c block
  plan_at defers c (at.Batches block) = batches c block
  plan_at defers c (at.Ends block) = ends c block
  plan_at defers c (at.Appends block) = appends c block
  plan_at defers c (at.Counts block) = counts c block
  plan_at defers c (at.Scans slot block marks) = scans c slot block marks
  plan_at defers c (at.Marks slot block marks) = marks_block c slot block marks
  plan_at defers c (at.Marked slot block marks) = marked c slot block marks
  plan_at defers c (at.Closes marks) = closes c marks
  plan_at defers c (at.Reads block left pushed) = reads c block left pushed
  plan_at defers c (at.Links block left pushed slot head) = links c block left pushed slot head
  plan_at defers c (at.Pushes block left pushed slot head) = pushes c block left pushed slot head
  plan_at defers c (at.Pushed block left pushed) = pushed_next c block left pushed
  plan_at defers c (at.Sums pushed) = sums c pushed
  plan_at defers c at.Nexts = nexts defers c
  plan_at defers c (at.Drains next word) = drains c next word
  plan_at defers c (at.Joins next more) = joins c next more
  plan_at defers c (at.Tails next) = tails c next
  plan_at defers c (at.Takes next) = takes c next
  plan_at defers c at.Puts = puts c
  plan_at defers c at.Lists = lists c
  plan_at defers c (at.Owns next) = owns c next
  plan_at defers c (at.Downs next batch) = downs c next batch
  plan_at defers c at.Gives = gives c
  plan_at defers c at.Over = Turn (Now (c, Done))

  -- what its next step does
  abbrev pub settle_plan : (T → Option ℕ) → Settle → Plan T (Settle × Settled T)
  settle_plan defers c = plan_at defers c c.stands
