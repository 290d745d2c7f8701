-- What operations of rows leave of a memory beside the word that they write: slots have their words, and blocks that live have theirs.
use Rattle.std.specs.Prelude.{Option, Some, None, IsSome, is_some, Ok, Err, ◌++◌, bit_or}
use Rattle.std.proofs.Common.{◌≡◌, ℕ, ◌+◌, ◌%◌, ◌^◌, Bool, true, false, cond, eqb, List, refl, arith, subst, sym, ap}
use Rattle.seize_moves.specs.Given.SeizeWordsDeclared.at.At.{At}
use Rattle.seize_moves.specs.Given.SeizeWordsOp.{Op, Out, Load, Store, Swap, Add, Or, Exchange, Make, Take, Rewrite, Room, Found, Stored, Exchanged, Made, Taken, Roomed}
use Rattle.seize_moves.specs.Given.SeizeWordsMem.{Mem, value_at, word_at, with_word, with_block, Can, Took, Gives, after}
use Rattle.seize_moves.specs.Given.SeizeWordsPlan.{Plan, Turn, Do, May, Steps, plan_as}
use Rattle.seize_moves.specs.Given.SeizeDeclared.rows.settle.Settle.{Settle}
use Rattle.seize_moves.specs.Given.SeizeDeclared.rows.settle.Settling.{Settling}
use Rattle.seize_moves.specs.Given.SeizeDeclared.rows.settle.Settling.TheVariants as at
use Rattle.seize_moves.specs.Given.SeizeSettle.{plan_at}
use Rattle.seize_moves.specs.Given.SeizeLaw.{Effect, is_open}
use Rattle.seize_moves.specs.Given.SeizeWorld.{settle_effects}
use Rattle.seize_moves.proofs.Moves.State.Ghost.{Head}
use Rattle.seize_moves.proofs.Memory.Words.Named.{taken_one}
use Rattle.seize_moves.proofs.Memory.Words.View.{list_in}
use Rattle.seize_moves.proofs.Memory.Words.There.{Stocked, stocked_taken}
use Rattle.seize_moves.proofs.Memory.Words.Room.{HasRoom, room_written, room_taken_block}
use Rattle.seize_rule.proofs.World.Good.{Stays}
use Rattle.seize_rule.proofs.Rows.Slots.{stays_written, stays_same}

-- no make, no rewriting of a value and no asking for room
abbrev pub IsQuiet : {T : Type 0} → Op T → Type 0
IsQuiet (Make value words) = ⊥
IsQuiet (Rewrite b new) = ⊥
IsQuiet (Room bucket) = ⊥
IsQuiet (Load name) = Unit {0}
IsQuiet (Store name v) = Unit {0}
IsQuiet (Swap name v) = Unit {0}
IsQuiet (Add name v) = Unit {0}
IsQuiet (Or name v) = Unit {0}
IsQuiet (Exchange name old new) = Unit {0}
IsQuiet (Take b) = Unit {0}

module _ {T : Type 0} where
  abbrev pub IsQuietPlan : {R : Type 0} → Plan T R → Type 0
  IsQuietPlan (Turn rest) = Unit {0}
  IsQuietPlan (Do op rest) = IsQuiet op

  pub quiet_as : {A B : Type 0} (f : A → B) (plan : Plan T A) → IsQuietPlan plan → IsQuietPlan (plan_as f plan)
  quiet_as f (Turn rest) q = tt
  quiet_as f (Do op rest) q = q

module _ {T : Type 0} (defers : T → Option ℕ) (n : ℕ) (head : ℕ → Head) (mem : Mem T) (st : Stocked defers mem) (room : HasRoom n head mem) where
  -- what stays, and the room for slots
  abbrev pub Lasts : Mem T → Type 0
  Lasts mem2 = Stays defers mem mem2 × HasRoom n head mem2

  lasts_written : (name : At) (v : ℕ) → IsSome (word_at mem name) → Lasts (with_word mem name v)
  lasts_written name v some = (stays_written defers mem name v some st, room_written n head mem name v some room)

  lasts_same : Lasts mem
  lasts_same = (stays_same defers mem st, room)

  lasts_taken : (b : ℕ) → IsSome (value_at mem b) → Lasts (with_block mem b None)
  lasts_taken b some =
      let t = taken_one mem b some in (
        record {
          stocked = stocked_taken defers mem b (with_block mem b None) t st;
          lists = λ c d h k. one c d (eqb c b) (subst (λ (values : ℕ → Option T). is_some (values c) ≡ true) t.values k) h (sym (ap (λ (values : ℕ → Option T). values c) t.values)) refl;
          more = omega arith;
        },
        room_taken_block n head mem b room,
      )
    where
      one : (c d : ℕ) (z : Bool) → is_some (cond z None (value_at mem c)) ≡ true → list_in defers (value_at mem c) ≡ Some d
          → cond (eqb c b) None (value_at mem c) ≡ value_at (with_block mem b None) c → eqb c b ≡ z → list_in defers (value_at (with_block mem b None) c) ≡ Some d
      one c d true k h e z = absurd (cc k)
      one c d false k h e z = subst (λ (o : Option T). list_in defers o ≡ Some d) (rw z at e) h

  op_lasts : (op : Op T) (out : Out T) → IsQuiet op → Can mem op → Gives mem op out → Lasts (after mem op out)
  op_lasts (Load name) out q can g = lasts_same
  op_lasts (Store name v) out q can g = lasts_written name v can
  op_lasts (Swap name v) out q can g = lasts_written name v can
  op_lasts (Add name v) (Found a) q can g = lasts_written name ((a + v) % 2 ^ 64) can
  op_lasts (Add name v) Stored q can g = absurd g
  op_lasts (Add name v) (Exchanged (Ok a)) q can g = absurd g
  op_lasts (Add name v) (Exchanged (Err a)) q can g = absurd g
  op_lasts (Add name v) (Made (Ok a)) q can g = absurd g
  op_lasts (Add name v) (Made (Err a)) q can g = absurd g
  op_lasts (Add name v) (Taken a) q can g = absurd g
  op_lasts (Add name v) (Roomed (Ok a)) q can g = absurd g
  op_lasts (Add name v) (Roomed (Err a)) q can g = absurd g
  op_lasts (Or name v) (Found a) q can g = lasts_written name (bit_or a v) can
  op_lasts (Or name v) Stored q can g = absurd g
  op_lasts (Or name v) (Exchanged (Ok a)) q can g = absurd g
  op_lasts (Or name v) (Exchanged (Err a)) q can g = absurd g
  op_lasts (Or name v) (Made (Ok a)) q can g = absurd g
  op_lasts (Or name v) (Made (Err a)) q can g = absurd g
  op_lasts (Or name v) (Taken a) q can g = absurd g
  op_lasts (Or name v) (Roomed (Ok a)) q can g = absurd g
  op_lasts (Or name v) (Roomed (Err a)) q can g = absurd g
  op_lasts (Exchange name old new) (Exchanged (Ok a)) q can g = lasts_written name new can
  op_lasts (Exchange name old new) (Exchanged (Err a)) q can g = lasts_same
  op_lasts (Exchange name old new) (Found a) q can g = absurd g
  op_lasts (Exchange name old new) Stored q can g = absurd g
  op_lasts (Exchange name old new) (Made (Ok a)) q can g = absurd g
  op_lasts (Exchange name old new) (Made (Err a)) q can g = absurd g
  op_lasts (Exchange name old new) (Taken a) q can g = absurd g
  op_lasts (Exchange name old new) (Roomed (Ok a)) q can g = absurd g
  op_lasts (Exchange name old new) (Roomed (Err a)) q can g = absurd g
  op_lasts (Take b) out q can g = lasts_taken b can
  op_lasts (Make value words) out q can g = absurd q
  op_lasts (Rewrite b new) out q can g = absurd q
  op_lasts (Room bucket) out q can g = absurd q

  pub plan_lasts : {R : Type 0} (plan : Plan T R) (mem2 : Mem T) (end : R) → IsQuietPlan plan → May Can Took value_at mem plan → Steps Took value_at mem plan mem2 end
      → Lasts mem2
  plan_lasts (Turn rest) mem2 end q may s = subst (λ (k : Mem T). Lasts k) (sym s.0) lasts_same
  plan_lasts (Do op rest) mem2 end q may s = subst (λ (k : Mem T). Lasts k) (sym s.1.1) (op_lasts op s.0 q may.0 s.1.0)

module _ {T : Type 0} (defers : T → Option ℕ) where
  pub settle_quiet : (c : Settle) (p : Settling) → IsQuietPlan (plan_at defers c p)
  settle_quiet c at.Sees = tt
  settle_quiet c at.Holds = tt
  settle_quiet c at.Pops = tt
  settle_quiet c (at.Firsts block) = tt
  settle_quiet c (at.Batches block) = tt
  settle_quiet c (at.Ends block) = tt
  settle_quiet c (at.Appends block) = tt
  settle_quiet c (at.Counts block) = tt
  settle_quiet c (at.Scans slot block marks) = tt
  settle_quiet c (at.Marks slot block marks) = tt
  settle_quiet c (at.Marked slot block marks) = tt
  settle_quiet c (at.Closes marks) = tt
  settle_quiet c (at.Reads block left pushed) = tt
  settle_quiet c (at.Links block left pushed slot head) = tt
  settle_quiet c (at.Pushes block left pushed slot head) = tt
  settle_quiet c (at.Pushed block left pushed) = tt
  settle_quiet c (at.Sums pushed) = tt
  settle_quiet c at.Nexts = tt
  settle_quiet c (at.Drains next word) = tt
  settle_quiet c (at.Joins next more) = tt
  settle_quiet c (at.Tails next) = tt
  settle_quiet c (at.Takes next) = tt
  settle_quiet c at.Puts = tt
  settle_quiet c at.Lists = tt
  settle_quiet c (at.Owns next) = tt
  settle_quiet c (at.Downs next batch) = tt
  settle_quiet c at.Gives = tt
  settle_quiet c at.Over = tt

  -- what a settling step does begins and ends no section
  pub settle_open : (c : Settle) (p : Settling) (log : List Effect) (t : ℕ) → is_open t (settle_effects c p ++ log) ≡ is_open t log
  settle_open c at.Sees log t = refl
  settle_open c at.Holds log t = refl
  settle_open c at.Pops log t = refl
  settle_open c (at.Firsts block) log t = refl
  settle_open c (at.Batches block) log t = refl
  settle_open c (at.Ends block) log t = refl
  settle_open c (at.Appends block) log t = refl
  settle_open c (at.Counts block) log t = refl
  settle_open c (at.Scans slot block marks) log t = refl
  settle_open c (at.Marks slot block marks) log t = refl
  settle_open c (at.Marked slot block marks) log t = refl
  settle_open c (at.Closes marks) log t = refl
  settle_open c (at.Reads block left pushed) log t = refl
  settle_open c (at.Links block left pushed slot head) log t = refl
  settle_open c (at.Pushes block left pushed slot head) log t = refl
  settle_open c (at.Pushed block left pushed) log t = refl
  settle_open c (at.Sums pushed) log t = refl
  settle_open c at.Nexts log t = refl
  settle_open c (at.Drains next word) log t = refl
  settle_open c (at.Joins next more) log t = refl
  settle_open c (at.Tails next) log t = refl
  settle_open c (at.Takes next) log t = refl
  settle_open c at.Puts log t = refl
  settle_open c at.Lists log t = refl
  settle_open c (at.Owns next) log t = refl
  settle_open c (at.Downs next batch) log t = refl
  settle_open c at.Gives log t = refl
  settle_open c at.Over log t = refl
