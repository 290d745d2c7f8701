-- What each row knows at each of its points.
use Rattle.std.specs.Prelude.{Some, ◌+◌}
use Rattle.std.proofs.Common.{◌≡◌, ℕ, ◌<◌, Bool, true, false, cond, []}
use Rattle.seize_moves.specs.Given.SeizeWordsDeclared.at.At.{At}
use Rattle.seize_moves.specs.Given.SeizeWordsDeclared.at.At.TheVariants.{Word}
use Rattle.seize_moves.specs.Given.SeizeDeclared.rows.settle.Settle.{Settle}
use Rattle.seize_moves.specs.Given.SeizeDeclared.rows.leave.Leaving.{Leaving}
use Rattle.seize_moves.specs.Given.SeizeDeclared.rows.leave.Leaving.TheVariants as leaving
use Rattle.seize_moves.specs.Given.SeizeDeclared.rows.defer.Deferring.{Deferring}
use Rattle.seize_moves.specs.Given.SeizeDeclared.rows.defer.Deferring.TheVariants as deferring
use Rattle.seize_moves.specs.Given.SeizeDeclared.rows.register.Registering.{Registering}
use Rattle.seize_moves.specs.Given.SeizeDeclared.rows.register.Registering.TheVariants as registering
use Rattle.seize_moves.specs.Given.SeizeRegister.{can_be_taken, bucket_needed}
use Rattle.seize_moves.specs.Given.SeizeWorld.{Row, Rests, Registers, Enters, Settles, Leaves, Defers, Frees}
use Rattle.seize_moves.proofs.Moves.State.Ghost.{Head, Idle, Active, IsDeferring, State, emptied, is_never}
use Rattle.seize_moves.proofs.Memory.Words.Named.{link}
use Rattle.seize_moves.proofs.Memory.Words.View.{View}
use Rattle.seize_moves.proofs.Memory.Words.Shows.{Extra}
use Rattle.seize_rule.proofs.Points.Known.{TakenBelow, Empty, Outside, Fits}

-- The slot that a row works on, and one; 0 for none.

abbrev pub registering_on : ℕ → Registering → ℕ
registering_on s registering.Begin = 0
registering_on s registering.Look = 0
registering_on s (registering.Widen bucket seen) = 0
registering_on s (registering.Take seen) = 0
registering_on s registering.Enter = s + 1
registering_on s registering.Registered = 0
registering_on s (registering.Refused fault) = 0

-- a slot that was freed is nobody's
abbrev pub leaving_on : ℕ → Bool → Leaving → ℕ
leaving_on s frees leaving.Swaps = s + 1
leaving_on s frees (leaving.Settles settle) = s + 1
leaving_on s frees leaving.Frees = s + 1
leaving_on s frees leaving.Over = cond frees 0 (s + 1)

abbrev pub works_on : Row → ℕ
works_on Rests = 0
works_on (Registers c) = registering_on c.slot c.stands
works_on (Enters c) = c.slot + 1
works_on (Settles c) = c.slot + 1
works_on (Leaves c) = leaving_on c.slot c.frees c.stands
works_on (Defers s c) = s + 1
works_on (Frees c) = c.slot + 1

-- nothing under way
pub record Idles (i : ℕ) (m : State) (x : Extra) : Type 0 where
  pub empty : Empty i m x
  pub outside : Outside i m

-- nothing in its hands, and the slot's head, without its list, is this
pub record OnSlot (n i : ℕ) (m : State) (x : Extra) (s : ℕ) (h : Head) : Type 0 where
  pub idles : Idles i m x
  pub slot_lt : s < n
  pub head : emptied (m.head s) ≡ h

-- The slots below are taken; k slots have words.
pub record Looks (n i : ℕ) (m : State) (x : Extra) (k s : ℕ) : Type 0 where
  pub idles : Idles i m x
  pub slot_lt : s < n
  pub here : s < k
  pub below : TakenBelow m.head s

-- and the slot was seen so
pub record Seen (n i : ℕ) (m : State) (x : Extra) (k s seen : ℕ) : Type 0 where
  pub looks : Looks n i m x k s
  pub free : can_be_taken seen ≡ true
  pub taken : (seen ≡ 0 → ⊥) → is_never (m.head s) ≡ false

pub record Widens (n i : ℕ) (m : State) (x : Extra) (k s bucket seen : ℕ) : Type 0 where
  pub sees : Seen n i m x k s seen
  pub needed : bucket_needed s ≡ Some bucket

pub record Takes (n i : ℕ) (m : State) (x : Extra) (k s seen : ℕ) : Type 0 where
  pub sees : Seen n i m x k s seen
  pub behind : s + 1 < n → s + 1 < k

pub record Begins (n i : ℕ) (m : State) (x : Extra) (s : ℕ) : Type 0 where
  pub idles : Idles i m x
  pub first : s ≡ 0
  pub slot_lt : s < n

abbrev pub FitsRegister : ℕ → ℕ → State → Extra → ℕ → ℕ → Registering → Type 0
FitsRegister n i m x k s registering.Begin = Begins n i m x s
FitsRegister n i m x k s registering.Look = Looks n i m x k s
FitsRegister n i m x k s (registering.Widen bucket seen) = Widens n i m x k s bucket seen
FitsRegister n i m x k s (registering.Take seen) = Takes n i m x k s seen
FitsRegister n i m x k s registering.Enter = OnSlot n i m x s Idle
FitsRegister n i m x k s registering.Registered = ⊥
FitsRegister n i m x k s (registering.Refused fault) = ⊥

-- what a slot that is left becomes, or one that is refreshed
abbrev pub head_of : Bool → Head
head_of true = Active []
head_of false = Idle

abbrev pub word_of : Bool → ℕ
word_of true = 3
word_of false = 2

-- whether it is a refresh, which frees no slot
pub record Becomes (becomes : ℕ) (frees again : Bool) : Type 0 where
  pub word : becomes ≡ word_of again
  pub stays : again ≡ true → frees ≡ false

pub record Swaps (n i : ℕ) (m : State) (x : Extra) (s becomes : ℕ) (frees : Bool) : Type 0 where
  pub on : OnSlot n i m x s (Active [])
  pub again : Bool
  pub ends : Becomes becomes frees again

pub record Settles_on (n i : ℕ) (f : View) (m : State) (x : Extra) (s becomes : ℕ) (frees : Bool) (settle : Settle) : Type 0 where
  pub slot_is : settle.slot ≡ s
  pub slot_lt : s < n
  pub again : Bool
  pub ends : Becomes becomes frees again
  pub head : emptied (m.head s) ≡ head_of again
  pub settles : Fits n i f m x settle

pub record Freeing (n i : ℕ) (m : State) (x : Extra) (s becomes : ℕ) (frees : Bool) : Type 0 where
  pub on : OnSlot n i m x s Idle
  pub ends : Becomes becomes frees false
  pub really : frees ≡ true

abbrev pub OverIs : Bool → ℕ → ℕ → State → Extra → ℕ → ℕ → Type 0
OverIs true n i m x s becomes = Idles i m x × (becomes ≡ 2)
OverIs false n i m x s becomes = (again : Bool) × (becomes ≡ word_of again) × OnSlot n i m x s (head_of again)

abbrev pub FitsLeave : ℕ → ℕ → View → State → Extra → ℕ → ℕ → Bool → Leaving → Type 0
FitsLeave n i f m x s becomes frees leaving.Swaps = Swaps n i m x s becomes frees
FitsLeave n i f m x s becomes frees (leaving.Settles settle) = Settles_on n i f m x s becomes frees settle
FitsLeave n i f m x s becomes frees leaving.Frees = Freeing n i m x s becomes frees
FitsLeave n i f m x s becomes frees leaving.Over = OverIs frees n i m x s becomes

-- block b is on its way to the list of block t, whose first link is word d
pub record OnWay (n i : ℕ) (f : View) (m : State) (x : Extra) (s block : ℕ) (at : At) : Type 0 where
  pub empty : Empty i m x
  pub slot_lt : s < n
  pub b : ℕ
  pub t : ℕ
  pub d : ℕ
  pub block_is : block ≡ link b
  pub some : 0 < b
  pub life : m.life b ≡ IsDeferring i s t
  pub at_is : at ≡ Word t d
  pub list : f.lists t ≡ Some d

pub record Linked_to (n i : ℕ) (f : View) (m : State) (x : Extra) (s block : ℕ) (at : At) (head : ℕ) : Type 0 where
  pub on : OnWay n i f m x s block at
  pub next : f.nexts on.b ≡ head

pub record Deferred_to (n i : ℕ) (m : State) (x : Extra) (s : ℕ) : Type 0 where
  pub empty : Empty i m x
  pub slot_lt : s < n
  pub section : m.section i ≡ s + 1
  pub none : m.defers i ≡ 0

abbrev pub FitsDefer : ℕ → ℕ → View → State → Extra → ℕ → ℕ → At → Deferring → Type 0
FitsDefer n i f m x s block at deferring.Reads = OnWay n i f m x s block at
FitsDefer n i f m x s block at (deferring.Links head) = OnWay n i f m x s block at
FitsDefer n i f m x s block at (deferring.Pushes head) = Linked_to n i f m x s block at head
FitsDefer n i f m x s block at deferring.Over = Deferred_to n i m x s

-- k slots have words
abbrev pub FitsRow : ℕ → ℕ → View → State → Extra → ℕ → Row → Type 0
FitsRow n i f m x k Rests = Idles i m x
FitsRow n i f m x k (Registers c) = FitsRegister n i m x k c.slot c.stands
FitsRow n i f m x k (Enters c) = OnSlot n i m x c.slot Idle
FitsRow n i f m x k (Settles c) = Fits n i f m x c
FitsRow n i f m x k (Leaves c) = FitsLeave n i f m x c.slot c.becomes c.frees c.stands
FitsRow n i f m x k (Defers s c) = FitsDefer n i f m x s c.block c.table_word c.stands
FitsRow n i f m x k (Frees c) = OnSlot n i m x c.slot Idle

-- What lists blocks begin with lasts as long as they live.
abbrev pub ListsLast : View → View → Type 0
ListsLast f g = (c d : ℕ) → f.lists c ≡ Some d → g.live c ≡ true → g.lists c ≡ Some d
