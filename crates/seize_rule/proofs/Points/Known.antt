-- What each row knows at each of its program points.
use Rattle.std.specs.Prelude.{Some}
use Rattle.std.proofs.Common.{◌≡◌, ℕ, ◌+◌, ◌<◌, ◌≤◌, Bool, true, false, cond, eqb, ltb, List, [], ◌∷◌, ◌++◌, length}
use Rattle.seize_moves.specs.Given.SeizeDeclared.rows.settle.Settle.{Settle}
use Rattle.seize_moves.specs.Given.SeizeDeclared.rows.settle.Settling.{Settling}
use Rattle.seize_moves.specs.Given.SeizeDeclared.rows.settle.Settling.TheVariants as at
use Rattle.seize_moves.specs.Waiting.Held.{count}
use Rattle.seize_moves.proofs.Moves.State.Ghost.{Entry, Head, Marked as MarkedDebt, Closing, State, list_of, is_never, was_put, total}
use Rattle.seize_moves.proofs.Memory.Words.Named.{link}
use Rattle.seize_moves.proofs.Memory.Words.Chains.{first_or, last_of, blocks_of}
use Rattle.seize_moves.proofs.Memory.Words.View.{View}
use Rattle.seize_moves.proofs.Memory.Words.Shows.{Extra}
use Rattle.seize_moves.proofs.Memory.Written.Append.{awaits}

-- the word that a list ends with stands for a list that was never taken
abbrev pub list_word : ℕ → ℕ
list_word w = cond (ltb 3 w) w 3

-- all these slots were taken
abbrev pub AllTaken : (ℕ → Head) → List ℕ → Type 0
AllTaken head [] = Unit {0}
AllTaken head (t ∷ ts) = (is_never (head t) ≡ false) × AllTaken head ts

-- and all below
abbrev pub TakenBelow : (ℕ → Head) → ℕ → Type 0
TakenBelow head k = (t : ℕ) → t < k → is_never (head t) ≡ false

-- a row that has no list in its hands
pub record Empty (i : ℕ) (m : State) (x : Extra) : Type 0 where
  pub loose : m.loose i ≡ []
  pub left : m.left i ≡ []
  pub pending : m.pending i ≡ []
  pub puts : m.puts i ≡ []
  pub closing : m.closing i ≡ 0
  pub hand : x.hand i ≡ 3
  pub pends : x.pends i ≡ 0
  pub lefts : x.lefts i ≡ 0
  pub put_first : x.put_first i ≡ 0
  pub popped : x.popped i ≡ false

-- no section and no block on its way
pub record Outside (i : ℕ) (m : State) : Type 0 where
  pub section : m.section i ≡ 0
  pub defers : m.defers i ≡ 0

-- what a row that settles knows everywhere: its words are those of its lists
pub record CommonOf (n i : ℕ) (m : State) (x : Extra) (slot list pend back puts : ℕ) : Type 0 where
  pub slot_lt : slot < n
  pub taken : is_never (m.head slot) ≡ false
  pub outside : Outside i m
  pub hand : x.hand i ≡ list_word list
  pub pends : x.pends i ≡ pend
  pub lefts : x.lefts i ≡ back
  pub put_first : x.put_first i ≡ puts

abbrev pub Common : ℕ → ℕ → State → Extra → Settle → Type 0
Common n i m x c = CommonOf n i m x c.slot c.list c.pending c.reclaiming c.put_first

-- the slot's open batch while the row holds it: the word behind its last block, how many slots are scanned, and which are marked
pub record HoldingOf (i : ℕ) (m : State) (x : Extra) (slot end e k : ℕ) (ts : List ℕ) : Type 0 where
  pub holder : m.holder slot ≡ i + 1
  pub last : end ≡ link (last_of (m.blocks (m.open_batch slot)))
  pub behind : x.behind (m.open_batch slot) ≡ e
  pub seen : m.seen (m.open_batch slot) ≡ k
  pub todo : m.todo (m.open_batch slot) ≡ ts

abbrev pub Holding : ℕ → State → Extra → Settle → ℕ → ℕ → List ℕ → Type 0
Holding i m x c e k ts = HoldingOf i m x c.slot c.last e k ts

abbrev pub MayHold : Bool → ℕ → State → Extra → Settle → Type 0
MayHold true i m x c = Holding i m x c 0 0 []
MayHold false i m x c = Unit {0}

abbrev pub open_blocks : State → Settle → List ℕ
open_blocks m c = m.blocks (m.open_batch c.slot)

-- where nothing was begun that is not ended
pub record Rest (n i : ℕ) (m : State) (x : Extra) (c : Settle) : Type 0 where
  pub common : Common n i m x c
  pub popped : x.popped i ≡ false
  pub closing : m.closing i ≡ 0
  pub put : c.reclaiming ≡ 0 → c.put_first ≡ 0
  pub put_last : c.put_last ≡ link (last_of (m.puts i))
  pub batch : MayHold c.held i m x c
  pub tries : c.flushing ≡ true → (c.pending ≡ 0) × (c.list ≡ 0) × (c.reclaiming ≡ 0)

-- and it works on its batch, or is to
pub record Retiring (n i : ℕ) (m : State) (x : Extra) (c : Settle) (held : Bool) : Type 0 where
  pub rest : Rest n i m x c
  pub holds : c.held ≡ held
  pub none_left : c.reclaiming ≡ 0

pub record Sees (n i : ℕ) (m : State) (x : Extra) (c : Settle) : Type 0 where
  pub retiring : Retiring n i m x c false

-- the slot's word was seen not to say that another row holds its batch
pub record Holds (n i : ℕ) (m : State) (x : Extra) (c : Settle) : Type 0 where
  pub retiring : Retiring n i m x c false
  pub free : c.last ≡ 1 → ⊥

pub record Pops (n i : ℕ) (m : State) (x : Extra) (c : Settle) : Type 0 where
  pub retiring : Retiring n i m x c true
  pub some : c.pending ≡ 0 → ⊥

pub record Flushes (n i : ℕ) (m : State) (x : Extra) (c : Settle) : Type 0 where
  pub retiring : Retiring n i m x c true
  pub some : c.last ≡ 0 → ⊥
  pub once : c.flushing ≡ false
  pub none_pending : c.pending ≡ 0

-- Block b is on its way into the batch, the blocks bs are behind it.
pub record Putting (n i : ℕ) (m : State) (x : Extra) (c : Settle) (block b : ℕ) (bs : List ℕ) (e : ℕ) : Type 0 where
  pub common : Common n i m x c
  pub popped : x.popped i ≡ true
  pub closing : m.closing i ≡ 0
  pub put : c.put_first ≡ 0
  pub put_last : c.put_last ≡ link (last_of (m.puts i))
  pub batch : Holding i m x c e 0 []
  pub holds : c.held ≡ true
  pub once : c.flushing ≡ false
  pub none_left : c.reclaiming ≡ 0
  pub pending : m.pending i ≡ b ∷ bs
  pub block_is : block ≡ link b
  pub some_block : 0 < b

pub record Firsts (n i : ℕ) (m : State) (x : Extra) (c : Settle) (block : ℕ) : Type 0 where
  pub b : ℕ
  pub bs : List ℕ
  pub putting : Putting n i m x c block b bs 0
  pub some : c.last ≡ 0 → ⊥

pub record Batches (n i : ℕ) (m : State) (x : Extra) (c : Settle) (block : ℕ) : Type 0 where
  pub b : ℕ
  pub bs : List ℕ
  pub putting : Putting n i m x c block b bs 0
  pub first : c.first ≡ first_or (link b) (open_blocks m c)

pub record Ends (n i : ℕ) (f : View) (m : State) (x : Extra) (c : Settle) (block : ℕ) : Type 0 where
  pub batches : Batches n i m x c block
  pub firsts : f.firsts batches.b ≡ c.first

pub record Appends (n i : ℕ) (f : View) (m : State) (x : Extra) (c : Settle) (block : ℕ) : Type 0 where
  pub ends : Ends n i f m x c block
  pub next : f.nexts ends.batches.b ≡ 0
  pub some : c.last ≡ 0 → ⊥

pub record Counts (n i : ℕ) (f : View) (m : State) (x : Extra) (c : Settle) (block : ℕ) : Type 0 where
  pub b : ℕ
  pub bs : List ℕ
  pub putting : Putting n i m x c block b bs (awaits b (open_blocks m c))
  pub first : c.first ≡ first_or (link b) (open_blocks m c)
  pub firsts : f.firsts b ≡ c.first
  pub next : f.nexts b ≡ 0

-- A try of the open batch: the blocks us of it are marked with the slots ts, those behind are not; the slots below are scanned.
pub record Tries (n i : ℕ) (m : State) (x : Extra) (c : Settle) (slot marks : ℕ) (us vs ts : List ℕ) : Type 0 where
  pub common : Common n i m x c
  pub popped : x.popped i ≡ false
  pub closing : m.closing i ≡ 0
  pub put : c.put_first ≡ 0
  pub put_last : c.put_last ≡ link (last_of (m.puts i))
  pub batch : Holding i m x c 0 slot ts
  pub holds : c.held ≡ true
  pub once : c.flushing ≡ false
  pub none_left : c.reclaiming ≡ 0
  pub first : c.first ≡ first_or 0 (open_blocks m c)
  pub some : c.last ≡ 0 → ⊥
  pub blocks : open_blocks m c ≡ us ++ vs
  pub marked : length ts ≡ marks
  pub marks_le : marks ≤ slot
  pub active : AllTaken m.head ts

pub record Scans (n i : ℕ) (m : State) (x : Extra) (c : Settle) (slot block marks : ℕ) : Type 0 where
  pub us : List ℕ
  pub vs : List ℕ
  pub ts : List ℕ
  pub tries : Tries n i m x c slot marks us vs ts
  pub used : length us ≡ marks
  pub block_is : block ≡ first_or 0 vs
  pub lt : slot < n
  pub below : TakenBelow m.head slot

pub record Marks (n i : ℕ) (m : State) (x : Extra) (c : Settle) (slot block marks : ℕ) : Type 0 where
  pub us : List ℕ
  pub d : ℕ
  pub vs : List ℕ
  pub ts : List ℕ
  pub tries : Tries n i m x c slot marks us (d ∷ vs) ts
  pub used : length us ≡ marks
  pub block_is : block ≡ link d
  pub lt : slot < n
  pub below : TakenBelow m.head (slot + 1)

pub record Marked (n i : ℕ) (m : State) (x : Extra) (c : Settle) (slot block marks : ℕ) : Type 0 where
  pub us : List ℕ
  pub d : ℕ
  pub vs : List ℕ
  pub ts : List ℕ
  pub tries : Tries n i m x c (slot + 1) (marks + 1) us (d ∷ vs) ts
  pub used : length us ≡ marks
  pub block_is : block ≡ link d
  pub lt : slot < n
  pub below : TakenBelow m.head (slot + 1)

-- all slots are scanned, those behind the last one ever taken too
pub record Closes (n i : ℕ) (m : State) (x : Extra) (c : Settle) (marks : ℕ) : Type 0 where
  pub us : List ℕ
  pub vs : List ℕ
  pub ts : List ℕ
  pub tries : Tries n i m x c n marks us vs ts
  pub used : length us ≡ marks

-- It closes batch y: the slots ts are still to be given an entry, the entries of the blocks rs are not used yet.
pub record Shuts (n i : ℕ) (m : State) (x : Extra) (c : Settle) (y : ℕ) (rs ts : List ℕ) (aimed : Bool) (left pushed : ℕ) : Type 0 where
  pub common : Common n i m x c
  pub popped : x.popped i ≡ false
  pub closing : m.closing i ≡ y + 1
  pub put : c.put_first ≡ 0
  pub put_last : c.put_last ≡ link (last_of (m.puts i))
  pub batch : Holding i m x c 0 0 []
  pub holds : c.held ≡ true
  pub once : c.flushing ≡ false
  pub none_left : c.reclaiming ≡ 0
  pub stage : m.stage y ≡ Closing i
  pub first : c.first ≡ first_or 0 (m.blocks y)
  pub rest_is : x.rest y ≡ rs
  pub aimed_is : x.aimed y ≡ aimed
  pub todo : m.todo y ≡ ts
  pub done : total was_put (m.debt y) n ≡ pushed
  pub left_is : length ts ≡ left
  pub active : AllTaken m.head ts
  pub some : m.blocks y ≡ [] → ⊥

pub record Reads (n i : ℕ) (m : State) (x : Extra) (c : Settle) (block left pushed : ℕ) (aimed : Bool) : Type 0 where
  pub y : ℕ
  pub before : List ℕ
  pub d : ℕ
  pub rs : List ℕ
  pub t : ℕ
  pub ts : List ℕ
  pub shuts : Shuts n i m x c y (d ∷ rs) (t ∷ ts) aimed left pushed
  pub blocks : m.blocks y ≡ before ++ d ∷ rs
  pub block_is : block ≡ link d
  pub room : length ts ≤ length rs

-- At least so many of the entries stand from this word on, which is the link of the first of them, or ends the list.
pub record Behind (es : List Entry) (head k : ℕ) : Type 0 where
  pub front : List Entry
  pub back : List Entry
  pub split : es ≡ front ++ back
  pub from : first_or 3 (blocks_of back) ≡ head
  pub many : k ≤ length back

-- As long as the slot that the batch has marked has not left, its list has had a further entry with each exchange that the push has lost.
abbrev pub Lost : State → ℕ → ℕ → ℕ → ℕ → Type 0
Lost m y t head k = m.debt y t ≡ MarkedDebt → Behind (list_of (m.head t)) head k

pub record Links (n i : ℕ) (m : State) (x : Extra) (c : Settle) (block left pushed slot head : ℕ) : Type 0 where
  pub reads : Reads n i m x c block left pushed true
  pub slot_is : slot ≡ reads.t
  pub active : 2 < head
  pub lost : Lost m reads.y reads.t head c.lost

pub record Pushes (n i : ℕ) (f : View) (m : State) (x : Extra) (c : Settle) (block left pushed slot head : ℕ) : Type 0 where
  pub links : Links n i m x c block left pushed slot head
  pub linked : f.links links.reads.d ≡ head

pub record Pushed (n i : ℕ) (m : State) (x : Extra) (c : Settle) (block left pushed : ℕ) : Type 0 where
  pub y : ℕ
  pub before : List ℕ
  pub d : ℕ
  pub e : ℕ
  pub rs : List ℕ
  pub t : ℕ
  pub ts : List ℕ
  pub shuts : Shuts n i m x c y (e ∷ rs) (t ∷ ts) false left pushed
  pub blocks : m.blocks y ≡ before ++ d ∷ e ∷ rs
  pub block_is : block ≡ link d
  pub room : length ts ≤ length rs

pub record Sums (n i : ℕ) (m : State) (x : Extra) (c : Settle) (pushed : ℕ) : Type 0 where
  pub y : ℕ
  pub rs : List ℕ
  pub shuts : Shuts n i m x c y rs [] false 0 pushed

-- the lists of these blocks were not taken over yet
abbrev pub AllFresh : (ℕ → Bool) → List ℕ → Type 0
AllFresh drained l = (c : ℕ) → 0 < count c l → drained c ≡ false

-- A batch is reclaimed, block b first and then the blocks bs.
pub record Backs (n i : ℕ) (m : State) (x : Extra) (c : Settle) (b : ℕ) (bs : List ℕ) (next : ℕ) : Type 0 where
  pub common : Common n i m x c
  pub popped : x.popped i ≡ false
  pub closing : m.closing i ≡ 0
  pub batch : MayHold c.held i m x c
  pub once : c.flushing ≡ false
  pub left : m.left i ≡ b ∷ bs
  pub next_is : next ≡ first_or 0 bs
  pub fresh : AllFresh x.drained bs

pub record Nexts (n i : ℕ) (m : State) (x : Extra) (c : Settle) : Type 0 where
  pub rest : Rest n i m x c
  pub some : c.reclaiming ≡ 0 → ⊥
  pub fresh : AllFresh x.drained (m.left i)

pub record Drains (n i : ℕ) (f : View) (m : State) (x : Extra) (c : Settle) (next word : ℕ) : Type 0 where
  pub b : ℕ
  pub bs : List ℕ
  pub backs : Backs n i m x c b bs next
  pub lists : f.lists b ≡ Some word
  pub drained : x.drained b ≡ false
  pub put_last : c.put_last ≡ link (last_of (m.puts i))

pub record Joins (n i : ℕ) (f : View) (m : State) (x : Extra) (c : Settle) (next more : ℕ) : Type 0 where
  pub word : ℕ
  pub drains : Drains n i f m x c next word
  pub more_is : more ≡ first_or 0 (m.deferred drains.b)
  pub more_some : more ≡ 0 → ⊥
  pub some : c.put_first ≡ 0 → ⊥

pub record Tails (n i : ℕ) (m : State) (x : Extra) (c : Settle) (next : ℕ) : Type 0 where
  pub b : ℕ
  pub bs : List ℕ
  pub backs : Backs n i m x c b bs next
  pub none : m.deferred b ≡ []
  pub before : List ℕ
  pub d : ℕ
  pub behind : List ℕ
  pub puts : m.puts i ≡ before ++ d ∷ behind
  pub put_last : c.put_last ≡ link d

pub record Takes (n i : ℕ) (m : State) (x : Extra) (c : Settle) (next : ℕ) : Type 0 where
  pub b : ℕ
  pub bs : List ℕ
  pub backs : Backs n i m x c b bs next
  pub none : m.deferred b ≡ []
  pub put_last : c.put_last ≡ link (last_of (m.puts i))

-- the batch is reclaimed, and what it put is to be retired before the rest
pub record Puts (n i : ℕ) (m : State) (x : Extra) (c : Settle) : Type 0 where
  pub common : Common n i m x c
  pub popped : x.popped i ≡ false
  pub closing : m.closing i ≡ 0
  pub batch : MayHold c.held i m x c
  pub once : c.flushing ≡ false
  pub none_left : c.reclaiming ≡ 0
  pub put_last : c.put_last ≡ link (last_of (m.puts i))
  pub some : c.put_first ≡ 0 → ⊥

-- nothing is left before the next entry is counted down
pub record Lists (n i : ℕ) (m : State) (x : Extra) (c : Settle) : Type 0 where
  pub rest : Rest n i m x c
  pub once : c.flushing ≡ false
  pub none_left : c.reclaiming ≡ 0
  pub none_pending : c.pending ≡ 0
  pub some : 3 < c.list

pub record Owns (n i : ℕ) (f : View) (m : State) (x : Extra) (c : Settle) (next : ℕ) : Type 0 where
  pub lists : Lists n i m x c
  pub e : Entry
  pub es : List Entry
  pub loose : m.loose i ≡ e ∷ es
  pub next_is : f.links e.block ≡ next

pub record Downs (n i : ℕ) (f : View) (m : State) (x : Extra) (c : Settle) (next batch : ℕ) : Type 0 where
  pub owns : Owns n i f m x c next
  pub batch_is : f.firsts owns.e.block ≡ batch

-- all is done, save that the batch is to be given up
pub record Over (n i : ℕ) (m : State) (x : Extra) (c : Settle) (held : Bool) : Type 0 where
  pub rest : Rest n i m x c
  pub once : c.flushing ≡ false
  pub none_left : c.reclaiming ≡ 0
  pub none_pending : c.pending ≡ 0
  pub none_listed : c.list ≤ 3
  pub holds : c.held ≡ held

-- by the block that is to be retired; 0 for none
abbrev pub FirstsOf : Bool → ℕ → ℕ → State → Extra → Settle → ℕ → Type 0
FirstsOf true n i m x c block = Flushes n i m x c
FirstsOf false n i m x c block = Firsts n i m x c block

abbrev pub FitsAt : ℕ → ℕ → View → State → Extra → Settle → Settling → Type 0
FitsAt n i f m x c at.Sees = Sees n i m x c
FitsAt n i f m x c at.Holds = Holds n i m x c
FitsAt n i f m x c at.Pops = Pops n i m x c
FitsAt n i f m x c (at.Firsts block) = FirstsOf (eqb block 0) n i m x c block
FitsAt n i f m x c (at.Batches block) = Batches n i m x c block
FitsAt n i f m x c (at.Ends block) = Ends n i f m x c block
FitsAt n i f m x c (at.Appends block) = Appends n i f m x c block
FitsAt n i f m x c (at.Counts block) = Counts n i f m x c block
FitsAt n i f m x c (at.Scans slot block marks) = Scans n i m x c slot block marks
FitsAt n i f m x c (at.Marks slot block marks) = Marks n i m x c slot block marks
FitsAt n i f m x c (at.Marked slot block marks) = Marked n i m x c slot block marks
FitsAt n i f m x c (at.Closes marks) = Closes n i m x c marks
FitsAt n i f m x c (at.Reads block left pushed) = Reads n i m x c block left pushed false
FitsAt n i f m x c (at.Links block left pushed slot head) = Links n i m x c block left pushed slot head
FitsAt n i f m x c (at.Pushes block left pushed slot head) = Pushes n i f m x c block left pushed slot head
FitsAt n i f m x c (at.Pushed block left pushed) = Pushed n i m x c block left pushed
FitsAt n i f m x c (at.Sums pushed) = Sums n i m x c pushed
FitsAt n i f m x c at.Nexts = Nexts n i m x c
FitsAt n i f m x c (at.Drains next word) = Drains n i f m x c next word
FitsAt n i f m x c (at.Joins next more) = Joins n i f m x c next more
FitsAt n i f m x c (at.Tails next) = Tails n i m x c next
FitsAt n i f m x c (at.Takes next) = Takes n i m x c next
FitsAt n i f m x c at.Puts = Puts n i m x c
FitsAt n i f m x c at.Lists = Lists n i m x c
FitsAt n i f m x c (at.Owns next) = Owns n i f m x c next
FitsAt n i f m x c (at.Downs next batch) = Downs n i f m x c next batch
FitsAt n i f m x c at.Gives = Over n i m x c true
FitsAt n i f m x c at.Over = Over n i m x c false

-- standing nowhere in particular
abbrev pub bare : Settle → Settle
bare c = record c { stands = at.Over }

abbrev pub Fits : ℕ → ℕ → View → State → Extra → Settle → Type 0
Fits n i f m x c = FitsAt n i f m x (bare c) c.stands
