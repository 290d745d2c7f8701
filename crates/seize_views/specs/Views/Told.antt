-- What an operation tells its seat.
use Rattle.std.specs.Prelude.{◌≡◌, ◌≢◌, ◌<◌, ◌^◌, ℕ, ◌==◌, Option, Some, None, Ok, Err, nat_lt, if◌then◌else◌}
use Rattle.seize_words.specs.OneMemory.Mem.{Mem, Took, value_at}
use Rattle.seize_words.specs.OneMemory.Word.{block_in}
use Rattle.seize_words.specs.OneMemory.Op.{Op, Out, Load, Store, Swap, Or, Exchange, Make, Take, Rewrite, Found, Stored, Made as OutMade, Taken, Exchanged}
use Rattle.seize_words.specs.OneMemory.Plan.{Plan, Turn, Do, Ends}
use Rattle.seize_words.specs.declared.at.At.TheVariants.{Root, Word}
use Rattle.seize.specs.declared.states.TheConstants.{ACTIVE}
use Rattle.seize.specs.declared.advance.Advance.{Advance}
use Rattle.seize.specs.declared.advance.Advance.TheVariants as progress
use Rattle.seize.specs.declared.rows.register.Register.{Register}
use Rattle.seize.specs.declared.rows.settle.Settle.{Settle}
use Rattle.seize.specs.declared.rows.settle.Settled.{Settled}
use Rattle.seize.specs.Defer.{defer_plan}
use Rattle.seize.specs.declared.rows.defer.Defer.{Defer}
use Rattle.seize.specs.Register.{register_plan}
use Rattle.seize.specs.Settle.{counting_down, settle_plan}
use Rattle.seize_straight.specs.Going.{DropGoes}
use Rattle.seize_views.specs.Views.Rows.{IsShort}
use Rattle.seize_views.specs.declared.view.SlotView.{SlotView}
use Rattle.seize_views.specs.declared.view.Becomes.{Becomes}
use Rattle.seize_views.specs.declared.view.SlotView.TheVariants.{Rests, Registers, Outside, Owes, Enters, Inside, Settles, Leaves, Left, Frees, Brings, Bears, Watches, Under, Joins, Defers}
use Rattle.seize_views.specs.declared.view.Deferral.TheVariants.{Takes, Parts, Puts}
use Rattle.seize_views.specs.declared.view.Has.{Has}
use Rattle.seize_views.specs.declared.view.Has.TheVariants.{Nothing, Made, Seen, Both, Cut, Walks}
use Rattle.seize_views.specs.declared.view.Why.{Why}
use Rattle.seize_views.specs.declared.view.Why.TheVariants.{Ending}

-- what a seat within a section knows that has seen this block, or unlinked it, or made the first one, of this value, and seen the second one; 0 is none
abbrev pub seen_as : {T : Type 0} → ℕ → Has T
seen_as b = if b == 0 then Nothing else Seen b

abbrev pub cut_as : {T : Type 0} → ℕ → Has T
cut_as b = if b == 0 then Nothing else Cut b

abbrev pub made_beside : {T : Type 0} → ℕ → T → ℕ → Has T
made_beside b x a = if a == 0 then Made b x else Both b x a

-- the block that a word of a root names, if it names one, as it was seen, or unlinked
abbrev pub seen_in : {T : Type 0} → ℕ → Has T
seen_in word = seen_as (block_in word)

abbrev pub cut_in : {T : Type 0} → ℕ → Has T
cut_in word = cut_as (block_in word)

-- what a seat within a section comes to know: it makes a block, takes it away again, gives it another value, or puts it at a root, whatever is there or only in
-- place of this word; sees what a root names, marks that or not, or takes it from there
abbrev pub has_observed : {T : Type 0} → Has T → Op T → Out T → Has T → Type 0
has_observed Nothing (Make value words) (OutMade (Ok b)) after = (b < 2 ^ 53) × (after ≡ Made b value)
has_observed Nothing (Make value words) (OutMade (Err back)) after = (back ≡ value) × (after ≡ Nothing)
has_observed (Seen a) (Make value words) (OutMade (Ok b)) after = (b < 2 ^ 53) × (after ≡ Both b value a)
has_observed (Seen a) (Make value words) (OutMade (Err back)) after = (back ≡ value) × (after ≡ Seen a)
has_observed (Made b x) (Take c) (Taken value) after = (value ≡ x) × (after ≡ Nothing)
has_observed (Both b x a) (Take c) (Taken value) after = (value ≡ x) × (after ≡ Seen a)
has_observed (Made b x) (Rewrite c y) (Taken value) after = (value ≡ x) × (after ≡ Made b y)
has_observed (Made b x) (Swap (Root r) word) (Found old) after = after ≡ cut_in old
has_observed Nothing (Swap (Root r) word) (Found old) after = after ≡ cut_in old
has_observed (Made b x) (Exchange (Root r) old new) (Exchanged (Ok was)) after = after ≡ cut_in old
has_observed (Made b x) (Exchange (Root r) old new) (Exchanged (Err word)) after = (word ≢ old) × (after ≡ made_beside b x (block_in word))
has_observed (Both b x a) (Exchange (Root r) old new) (Exchanged (Ok was)) after = after ≡ cut_in old
has_observed (Both b x a) (Exchange (Root r) old new) (Exchanged (Err word)) after = (word ≢ old) × (after ≡ made_beside b x (block_in word))
has_observed Nothing (Load (Root r)) (Found word) after = after ≡ seen_in word
has_observed (Seen b) (Load (Root r)) (Found word) after = after ≡ seen_in word
has_observed Nothing (Or (Root r) bits) (Found word) after = after ≡ seen_in word
has_observed (Seen b) (Or (Root r) bits) (Found word) after = after ≡ seen_in word
has_observed (Walks b next) (Load (Root r)) (Found word) after = after ≡ Walks (block_in word) None
has_observed (Walks b next) (Load (Word c field)) (Found word) after = after ≡ Walks b (Some (block_in word))
has_observed (Walks b next) (Exchange (Root r) old new) (Exchanged (Ok was)) after = after ≡ cut_in old
has_observed (Walks b next) (Exchange (Root r) old new) (Exchanged (Err word)) after = (word ≢ old) × (after ≡ Walks (block_in word) None)
has_observed _ op out after = ⊥

-- what one without a slot comes to know that makes a block for a chain, writes its link, takes it away again, or puts it at the root of a chain, in place of
-- this word alone
abbrev pub has_joined : {T : Type 0} → Option (ℕ × T × ℕ) → Op T → Out T → Option (ℕ × T × ℕ) → Type 0
has_joined None (Make value words) (OutMade (Ok b)) after = (b < 2 ^ 53) × (after ≡ Some (b, value, 0))
has_joined None (Make value words) (OutMade (Err back)) after = (back ≡ value) × (after ≡ None)
has_joined (Some made) (Store (Word c field) word) Stored after = after ≡ Some (made.0, made.1, block_in word)
has_joined (Some made) (Take c) (Taken value) after = (value ≡ made.1) × (after ≡ None)
has_joined (Some made) (Exchange (Root r) old new) (Exchanged (Ok was)) after = after ≡ None
has_joined (Some made) (Exchange (Root r) old new) (Exchanged (Err word)) after = (word ≢ old) × (after ≡ Some made)
has_joined _ op out after = ⊥

-- how a seat stands that has no slot, and knows so of a block
abbrev pub alone_with : {T : Type 0} → Has T → SlotView T
alone_with Nothing = Rests
alone_with (Made b x) = Brings b x
alone_with (Seen b) = Rests
alone_with (Both b x a) = Brings b x
alone_with (Cut b) = Bears b
alone_with (Walks b next) = Rests

-- or has made this block for a chain
abbrev pub joined_as : {T : Type 0} → Option (ℕ × T × ℕ) → SlotView T
joined_as None = Rests
joined_as (Some made) = Joins (Some made)

-- and what one outside of a section knows that has taken from a root what this word names
abbrev pub owes_in : {T : Type 0} → ℕ → ℕ → SlotView T
owes_in t word = if block_in word == 0 then Outside t else Owes t (block_in word)

-- what one knows that has seen the first block, of this value, and has taken out what this word names, of the other value
abbrev pub parted_in : {T : Type 0} → ℕ → ℕ → T → T → ℕ → SlotView T
parted_in t a y x word = if block_in word == 0 then Inside t (Seen a) else Defers t (Parts a y (block_in word) x)

-- what was looked at
abbrev pub shown_by : {T : Type 0} → Option (ℕ × T) → ℕ → Option T
shown_by None b = None
shown_by (Some seen) b = if b == seen.0 then Some seen.1 else None

module _ {T R : Type 0} where
  -- the step that makes an operation comes, in some memory, to this outcome after this answer
  abbrev pub HasOutcome : Plan T R → Out T → R → Type 0
  HasOutcome (Turn rest) out end = ⊥
  HasOutcome (Do op rest) out end = (m n : Mem T) × Took m op out n × Ends (value_at n) (rest out) end

  -- or by what it looked at
  abbrev pub FollowsBy : (ℕ → Option T) → Plan T R → Out T → R → Type 0
  FollowsBy shown (Turn rest) out end = ⊥
  FollowsBy shown (Do op rest) out end = Ends shown (rest out) end

-- what a seat knows once registering has come so far
abbrev pub left_by : {T : Type 0} → Register × Advance ℕ → SlotView T
left_by (c, progress.Done t) = Outside t
left_by (c, progress.Refused fault) = Rests
left_by (c, _) = Registers c

-- and once the list of its slot was taken, with this head
abbrev pub list_taken : {T : Type 0} → ℕ → ℕ → Becomes → ℕ → ℕ → SlotView T
list_taken t size way head left = if nat_lt ACTIVE head then Settles (counting_down t size head) (Ending size way) None left else Left t size way

module _ {T : Type 0} (defers : T → Option ℕ) where
  -- a settling goes on, further steps are needed, with the same slot, and fewer are left
  pub record Continues (c : Settle) (why : Why) (left : ℕ) (out : Out T) (w : SlotView T) : Type 0 where
    pub end : Settle × Settled T
    pub seen : Option (ℕ × T)
    pub now : ℕ
    pub follows : FollowsBy (shown_by seen) (settle_plan defers c) out end
    pub further : DropGoes end.1
    pub slot : end.0.slot ≡ c.slot
    pub falls : now < left
    pub view : w ≡ Settles end.0 why seen now

  abbrev pub told : SlotView T → Op T → Out T → SlotView T → Type 0
  told (Registers c) op out w = (end : Register × Advance ℕ) × HasOutcome (register_plan {T = T} c) out end × (w ≡ left_by end) × IsShort w
  told (Outside t) (Swap (Root r) word) (Found old) w = w ≡ owes_in t old
  told (Enters t) op out w = w ≡ Inside t Nothing
  told Rests op out w = (after : Has T) × has_observed Nothing op out after × (w ≡ alone_with after)
  told (Brings b x) op out w = (after : Has T) × has_observed (Made b x) op out after × (w ≡ alone_with after)
  told (Inside t has) op out w = (after : Has T) × has_observed has op out after × (w ≡ Inside t after)
  told (Settles c why seen left) op out w = Continues c why left out w
  told (Leaves t size way) op (Found head) w = (left : ℕ) × (w ≡ list_taken t size way head left)
  told (Frees t) op out w = w ≡ Rests
  told (Watches t b) (Load (Root r)) (Found word) w = w ≡ Watches t (block_in word)
  told (Under n t b) (Load (Root r)) (Found word) w = w ≡ Under n t (block_in word)
  told (Joins block) op out w = (after : Option (ℕ × T × ℕ)) × has_joined block op out after × (w ≡ joined_as after)
  told (Under n t b) (Or (Root r) bits) (Found word) w = w ≡ Under n t (block_in word)
  told (Defers t (Takes a y made)) (Swap (Root r) word) (Found old) w = (x : T) × (w ≡ parted_in t a y x old)
  told (Defers t (Puts a c)) op out w = (end : Defer × Advance Unit) × HasOutcome (defer_plan {T = T} c) out end × (w ≡ Defers t (Puts a end.0))
  told _ op out w = ⊥
