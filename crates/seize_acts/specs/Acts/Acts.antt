-- An act is what one caller does at once: one operation on the memory, and what belongs to it. A list of acts, the newest last, determines the world after it.
use Rattle.std.specs.Prelude.{◌≡◌, ℕ, zero, suc, ◌==◌, ◌&&◌, ◌||◌, ◌++◌, not, Bool, true, false, List, [], ◌∷◌, Option, Some, None, Ok, if◌then◌else◌, nat_lt}
use Rattle.seize_words.specs.OneMemory.Word.{link_to, block_in}
use Rattle.seize_words.specs.declared.at.At.{At}
use Rattle.seize_words.specs.declared.at.At.TheVariants.{Root, Used, Slot, Entry, Word}
use Rattle.seize_words.specs.OneMemory.Op.{Op, Out, Load, Store, Swap, Add, Or, Exchange, Make, Take, Rewrite, Room, Made}
use Rattle.seize_words.specs.OneMemory.Mem.{Mem, after, value_at, word_at}
use Rattle.seize_words.specs.OneMemory.Plan.{Plan}
use Rattle.seize.specs.declared.states.TheConstants.{IDLE, ACTIVE, NEXT}
use Rattle.seize.specs.declared.rows.register.Registering.TheVariants as registering
use Rattle.seize.specs.Law.{Entered, Made as MadeBlock, Linked, Unlinked, Dropped, Deferred, Ended, LeftOver, holds, is_orphan}
use Rattle.seize.specs.Further.{FurtherAre}
use Rattle.seize.specs.Settle.{retiring, flushing, settle_plan}
use Rattle.seize.specs.Leave.{leaving as leaving_slot, leave_plan}
use Rattle.seize.specs.Defer.{deferring, defer_plan}
use Rattle.seize.specs.Register.{register_plan}
use Rattle.seize.specs.Enter.{enter_plan, unregister_plan}
use Rattle.seize.specs.World.{World, Row, Rests, Registers, Enters, Settles, Leaves, Defers, Frees, Use, Vacant, Outside, Inside, Changing, Hand, NoBlock, Making, InUse, Parting, Cutting, Handed, LeftTo, Request, Register', Enter', Leave', LeaveOwned, Refresh, Unregister', Retire, Flush, Defer', IsOnto, MayClear, with_row, with_use, with_hand, with_effect, one_more, all_left_to, after_step, settles_on, leaves_on, registers_on, defers_on}
use Rattle.seize_acts.specs.Acts.Answers.{Grant, then_on, given, answer, stepped, answered, is_turn}

-- what an operation of a user does beside its word
pub data Change : Type 0 where
  Links : ℕ → ℕ → Change  -- from now on the block can be reached, and is this owner's
  Parts : ℕ → Change  -- the block is taken out of what it was in: this caller alone may unlink it from now on
  Unlinks : ℕ → Change  -- and from now on not any more
  Ends : ℕ → Change  -- this owner ends
  LeavesOver : ℕ → List ℕ → Change  -- the block's owner has ended: it and its further values can only be taken away

pub data Act (T : Type 0) : Type 0 where
  Begin : ℕ → Request → Grant → Act T  -- this caller begins a row, with its first operation
  Step : ℕ → Grant → Act T  -- its row makes its next one
  Operate : ℕ → Op T → Grant → List Change → Act T  -- this caller makes an operation of its own
  Choose : ℕ → Act T  -- a choice more is there, by which the memory of one owner picks the number of a block to come

abbrev pub rests : Row → Bool
rests Rests = true
rests _ = false

abbrev pub is_outside : Use → Bool
is_outside (Outside zero) = true
is_outside _ = false

abbrev pub is_inside : Use → Bool
is_inside (Inside zero) = true
is_inside _ = false

abbrev pub is_within : Use → Bool
is_within (Inside n) = true
is_within _ = false

abbrev pub is_taken : Use → Bool
is_taken (Outside n) = true
is_taken (Inside n) = true
is_taken _ = false

-- it was made and is not linked, was unlinked, or was left over: somebody holds it, who need not be who came to it
abbrev pub is_making : Hand → Bool
is_making (Making h) = true
is_making _ = false

abbrev pub is_cutting : Hand → Bool
is_cutting (Cutting h) = true
is_cutting _ = false

abbrev pub is_left : Hand → Bool
is_left (LeftTo h) = true
is_left _ = false

abbrev pub is_in_use : Hand → Bool
is_in_use (InUse o) = true
is_in_use _ = false

-- this caller may unlink it, or defer it
abbrev pub may_cut : ℕ → Hand → Bool
may_cut i (InUse o) = true
may_cut i (Parting h) = h == i
may_cut i _ = false

-- no root names the block
abbrev pub NoRootNames : {T : Type 0} → Mem T → ℕ → Type 0
NoRootNames m b = (r word : ℕ) → word_at m (Root r) ≡ Some word → block_in word ≡ b → ⊥

module _ {T : Type 0} (defers : T → Option ℕ) where
  -- a caller's row takes its next step
  abbrev pub row_steps : ℕ → Row → Grant → World T → Option (World T)
  row_steps i Rests g w = None
  row_steps i (Registers c) g w = then_on (stepped w.memory g (register_plan c)) (λ p. Some (registers_on w i c p.0 p.1))
  row_steps i (Enters c) g w = then_on (stepped w.memory g (enter_plan c)) (λ p. Some (with_use (after_step w i p.0 Rests (Entered c.slot ∷ [])) c.slot (Inside 0)))
  row_steps i (Settles c) g w = then_on (stepped w.memory g (settle_plan defers c)) (λ p. Some (settles_on w i c p.0 p.1))
  row_steps i (Leaves c) g w = then_on (stepped w.memory g (leave_plan defers c)) (λ p. Some (leaves_on w i c p.0 p.1))
  row_steps i (Defers s c) g w = then_on (stepped w.memory g (defer_plan c)) (λ p. Some (defers_on w i s p.0 p.1))
  row_steps i (Frees c) g w = then_on (stepped w.memory g (unregister_plan c)) (λ p. Some (with_use (after_step w i p.0 Rests []) c.slot Vacant))

  abbrev pub plain : {R : Type 0} → Plan T R → Plan T R
  plain plan = plan

  -- its next step makes no operation
  abbrev pub turns : Row → Bool
  turns Rests = false
  turns (Registers c) = is_turn (plain (register_plan c))
  turns (Enters c) = is_turn (plain (enter_plan c))
  turns (Settles c) = is_turn (settle_plan defers c)
  turns (Leaves c) = is_turn (leave_plan defers c)
  turns (Defers s c) = is_turn (plain (defer_plan c))
  turns (Frees c) = is_turn (plain (unregister_plan c))

  -- how its next operation is answered
  abbrev pub row_answered : Row → Grant → Mem T → Option (Out T)
  row_answered Rests g m = None
  row_answered (Registers c) g m = answered m g (register_plan c)
  row_answered (Enters c) g m = answered m g (enter_plan c)
  row_answered (Settles c) g m = answered m g (settle_plan defers c)
  row_answered (Leaves c) g m = answered m g (leave_plan defers c)
  row_answered (Defers s c) g m = answered m g (defer_plan c)
  row_answered (Frees c) g m = answered m g (unregister_plan c)

  -- Steps without an operation belong to the step before them: no row has more than two in a row.
  abbrev pub turned : ℕ → ℕ → World T → Option (World T)
  turned zero i w = Some w
  turned (suc more) i w = if turns (w.row i) then then_on (row_steps i (w.row i) None w) (turned more i) else Some w

  abbrev pub steps : ℕ → Grant → World T → Option (World T)
  steps i g w = then_on (row_steps i (w.row i) g w) (turned 2 i)

  -- the word of a block that holds its list of further values, if it has one; None where there is no block
  abbrev pub list_field : Option T → Option (Option ℕ)
  list_field None = None
  list_field (Some value) = Some (defers value)

  abbrev pub no_list : Option (Option ℕ) → Bool
  no_list (Some None) = true
  no_list _ = false

  -- the two have the same such word, or none
  abbrev pub same_list : Option ℕ → Option (Option ℕ) → Bool
  same_list None (Some None) = true
  same_list (Some field) (Some (Some other)) = field == other
  same_list _ _ = false

  abbrev pub is_own_word : Option (Option ℕ) → ℕ → Bool
  is_own_word None field = false
  is_own_word (Some None) field = true
  is_own_word (Some (Some list)) field = if field == list then false else true

  -- a word that users write: of roots, and of blocks, save the words that hold further values
  abbrev pub is_own : Mem T → At → Bool
  is_own m (Root r) = true
  is_own m (Used r) = true
  is_own m (Slot s field) = false
  is_own m (Entry b field) = false
  is_own m (Word b field) = is_own_word (list_field (value_at m b)) field

  -- the word that links a block which is left over to the next one
  abbrev pub is_left_link : (ℕ → Hand) → At → Bool
  is_left_link hand (Entry b field) = (field == NEXT) && is_left (hand b)
  is_left_link hand _ = false

  abbrev pub has_list_word : Option ℕ → ℕ → Bool
  has_list_word None words = true
  has_list_word (Some field) words = nat_lt field words

  -- A user reads and writes its own words, makes blocks, and takes away what was made and not linked, or what is left over. The value of a
  -- block that was made and not linked may be replaced by one whose list is at the same word.
  abbrev pub may_operate : World T → Op T → Bool
  may_operate w (Load at) = is_own w.memory at
  may_operate w (Store at word) = is_own w.memory at || is_left_link w.hand at
  may_operate w (Swap at word) = is_own w.memory at
  may_operate w (Add at by) = is_own w.memory at
  may_operate w (Or at bits) = is_own w.memory at
  may_operate w (Exchange at old new) = is_own w.memory at
  may_operate w (Make value words) = has_list_word (defers value) words
  may_operate w (Take b) = is_making (w.hand b) || is_left (w.hand b)
  may_operate w (Rewrite b value) = is_making (w.hand b) && same_list (defers value) (list_field (value_at w.memory b))
  may_operate w (Room bucket) = false

  abbrev pub operated : ℕ → World T → Op T → Out T → World T
  operated i w (Make value words) (Made (Ok b)) = with_effect (with_hand (record w { memory = after w.memory (Make value words) (Made (Ok b)) }) b (Making i)) (MadeBlock b)
  operated i w (Take b) out = with_effect (with_hand (record w { memory = after w.memory (Take b) out }) b NoBlock) (Dropped b)
  operated i w op out = record w { memory = after w.memory op out }

  -- A block is linked that was made, taken out while it is in use, unlinked while it is
  -- linked and nobody else has taken it out, and left over once it is unlinked and its owner has ended.
  abbrev pub change : ℕ → Change → World T → Option (World T)
  change i (Links b o) w = given (is_making (w.hand b)) (with_effect (with_hand w b (InUse o)) (Linked b o))
  change i (Parts b) w = given (is_in_use (w.hand b)) (with_hand w b (Parting i))
  change i (Unlinks b) w = given (may_cut i (w.hand b)) (with_effect (with_hand w b (Cutting i)) (Unlinked b))
  change i (Ends o) w = Some (with_effect w (Ended o))
  change i (LeavesOver b further) w = given (is_cutting (w.hand b) && is_orphan b w.log)
      (with_effect (record w { hand = all_left_to i (b ∷ further) w.hand }) (LeftOver b further))

  abbrev pub changed : ℕ → List Change → World T → Option (World T)
  changed i [] w = Some w
  changed i (c ∷ changes) w = then_on (change i c w) (changed i changes)

  -- What an act may do that is no test of the world before it: a block that is left over is taken away once it is over, or no section
  -- holds it.
  abbrev pub MayTake : Op T → World T → Type 0
  MayTake (Take b) w = is_left (w.hand b) ≡ true → MayClear b w.log
  MayTake _ w = Unit {0}

  -- And in the world that the act leaves: no root names a block that was unlinked, unless its owner has ended, whose root may lead there until it is taken
  -- away. A block is left over while no row is putting another one on its list, and with just the blocks that are on it.
  abbrev pub MayChange : World T → Change → Type 0
  MayChange w (Unlinks b) = is_orphan b w.log ≡ false → NoRootNames w.memory b
  MayChange w (LeavesOver b further) = ((j : ℕ) → IsOnto b (w.row j) → ⊥) × FurtherAre defers w.memory b further
  MayChange w _ = Unit {0}

  abbrev pub AllMayChange : World T → List Change → Type 0
  AllMayChange w [] = Unit {0}
  AllMayChange w (c ∷ changes) = MayChange w c × AllMayChange w changes

module _ {T : Type 0} (defers : T → Option ℕ) (batch_size : ℕ) where
  abbrev pub deferred_by : ℕ → ℕ → ℕ → ℕ → World T → Option (Option ℕ) → Option (World T)
  deferred_by i s b t w (Some (Some field)) =
      Some (with_effect (with_hand (with_use (with_row w i (Defers s (deferring (link_to b) (Word t field)))) s (one_more (w.uses s))) b Handed) (Deferred b t))
  deferred_by i s b t w _ = None

  -- A caller begins a row. A slot enters, leaves, refreshes and is given up while no row works on it. A block is retired that was unlinked.
  -- It is deferred within a section that could reach the block that it goes to, which is left to nobody.
  abbrev pub begun : ℕ → Request → World T → Option (World T)
  begun i (Register' enters) w = Some (with_row w i (Registers (record { slot = 0; enters = enters; stands = registering.Begin })))
  begun i (Enter' s) w = given (is_outside (w.uses s)) (with_use (with_row w i (Enters (record { slot = s }))) s Changing)
  begun i (Leave' s) w = given (is_inside (w.uses s)) (with_use (with_row w i (Leaves (leaving_slot s batch_size IDLE false))) s Changing)
  begun i (LeaveOwned s) w = given (is_inside (w.uses s)) (with_use (with_row w i (Leaves (leaving_slot s batch_size IDLE true))) s Changing)
  begun i (Refresh s) w = given (is_inside (w.uses s)) (with_use (with_row w i (Leaves (leaving_slot s batch_size ACTIVE false))) s Changing)
  begun i (Unregister' s) w = given (is_outside (w.uses s)) (with_use (with_row w i (Frees (record { slot = s }))) s Changing)
  begun i (Retire s b) w =
      given (is_taken (w.uses s) && is_cutting (w.hand b))
      (with_hand (with_use (with_row w i (Settles (retiring s batch_size (link_to b)))) s (one_more (w.uses s))) b Handed)
  begun i (Flush s) w = given (is_taken (w.uses s)) (with_use (with_row w i (Settles (flushing s batch_size))) s (one_more (w.uses s)))
  begun i (Defer' s b t) w =
      if is_within (w.uses s) && (may_cut i (w.hand b) && (no_list defers (list_field defers (value_at w.memory b)) && (holds s t w.log && not (is_left (w.hand t)))))
      then deferred_by i s b t w (list_field defers (value_at w.memory t)) else None

  -- The world after an act: None where it can't be.
  abbrev pub became : Act T → World T → Option (World T)
  became (Begin i request g) w = if rests (w.row i) then then_on (begun i request w) (steps defers i g) else None
  became (Step i g) w = steps defers i g w
  became (Operate i op g changes) w =
      if may_operate defers w op then then_on (answer w.memory g op) (λ out. changed defers i changes (operated defers i w op out)) else None
  became (Choose choice) w = Some (record w { memory = record w.memory { choices = w.memory.choices ++ choice ∷ [] } })

  -- how its operation is answered
  abbrev pub told : Act T → World T → Option (Out T)
  told (Begin i request g) w = then_on (begun i request w) (λ v. row_answered defers (v.row i) g v.memory)
  told (Step i g) w = row_answered defers (w.row i) g w.memory
  told (Operate i op g changes) w = answer w.memory g op
  told (Choose choice) w = None

  abbrev pub Allows : Act T → World T → World T → Type 0
  Allows (Operate i op g changes) w n = MayTake defers op w × AllMayChange defers n changes
  Allows _ w n = Unit {0}

  -- the act was made in the first world, and came to the second one
  abbrev pub Did : Act T → World T → World T → Type 0
  Did act w n = (became act w ≡ Some n) × Allows act w n

  -- these acts were made, one after another: the newest stands last
  abbrev pub AllDid : List (Act T) → World T → World T → Type 0
  AllDid [] w n = n ≡ w
  AllDid (act ∷ acts) w n = (v : World T) × Did act w v × AllDid acts v n
