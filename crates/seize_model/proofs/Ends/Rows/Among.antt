-- Whatever rows others have under way: a row that goes on, and does not wait, has less to go after each of its steps, as the row and the memory tell.
use Rattle.std.specs.Prelude.{Option}
use Rattle.std.proofs.Common.{◌≡◌, ℕ, suc, ◌+◌, ◌<◌, true, length, refl}
use Rattle.seize.specs.Given.SeizeWordsMem.{Mem, Took, value_at}
use Rattle.seize.specs.Given.SeizeWordsPlan.{Steps}
use Rattle.seize.specs.declared.states.TheConstants.{LAST_SLOT}
use Rattle.seize.specs.declared.rows.settle.Settle.{Settle}
use Rattle.seize.specs.declared.rows.settle.Settled.{Settled}
use Rattle.seize.specs.declared.rows.leave.Leave.{Leave}
use Rattle.seize.specs.Settle.{settle_plan}
use Rattle.seize.specs.Leave.{leave_plan}
use Rattle.seize.specs.World.{World, Row, Rests, Registers, Enters, Settles, Leaves, Defers, Frees, Step}
use Rattle.seize_rule.proofs.Rows.Sizes.{AllSized}
use Rattle.seize_rule.proofs.Rows.SizesKept.{happens_sized}
use Rattle.seize_rule.proofs.World.Good.{Good}
use Rattle.seize_rule.proofs.World.Kept.{happens_good}
use Rattle.seize_model.proofs.Ends.Settling.Among.{Among}
use Rattle.seize_model.proofs.Ends.Settling.Most.{among_lowers, goes_further, settle_steps_left, settle_falls}
use Rattle.seize_model.proofs.Ends.Rows.Defer.{defer_to_go}
use Rattle.seize_model.proofs.Ends.Rows.Leaving.{LastsSo, leave_steps_left, leave_falls}
use Rattle.seize_model.proofs.Ends.Rows.Lone.{settles_among, leaves_among}
use Rattle.seize_model.proofs.Ends.Rows.Register.{register_to_go}

-- how many steps a row takes at most until it ends, or waits, while nobody else steps
abbrev pub row_steps_left : {T : Type 0} → (T → Option ℕ) → Mem T → Row → ℕ
row_steps_left defers m Rests = 0
row_steps_left defers m (Registers c) = suc (register_to_go c)
row_steps_left defers m (Enters c) = 1
row_steps_left defers m (Settles c) = suc (settle_steps_left defers goes_further m c)
row_steps_left defers m (Leaves c) = suc (leave_steps_left defers goes_further m c)
row_steps_left defers m (Defers s c) = suc (defer_to_go m c)
row_steps_left defers m (Frees c) = 1

module _ {T : Type 0} (defers : T → Option ℕ) (size i : ℕ) where
  -- what is so of any world that has come about from the start
  pub record Came (w : World T) : Type 0 where
    pub good : Good defers (LAST_SLOT + 1) size w
    pub sized : AllSized size w.row

  came_lasts : LastsSo defers i (λ bound. Among defers (LAST_SLOT + 1) bound i) Came
  came_lasts = record {
    steps = λ w v came st. record {
      good = happens_good defers (LAST_SLOT + 1) size refl w v came.good came.sized (Step i) st;
      sized = happens_sized defers size w v came.sized (Step i) st;
    };
    settles = λ w came c settle is e. (came.good.state, came.good.extra, leaves_among defers size i w came.good c settle is e);
  }

  -- a settling row
  pub settles_go_lower : (w : World T) → Came w → (c : Settle) → w.row i ≡ Settles c
      → (mem2 : Mem T) (end : Settle × Settled T) → Steps Took value_at w.memory (settle_plan defers c) mem2 end → goes_further end.1 ≡ true
      → settle_steps_left defers goes_further mem2 end.0 < settle_steps_left defers goes_further w.memory c
  settles_go_lower w came c is mem2 end st going =
      settle_falls defers i goes_further (λ bound. Among defers (LAST_SLOT + 1) bound i) (among_lowers defers (LAST_SLOT + 1) i refl) (length w.memory.blocks + 1) w.memory mem2
      came.good.state came.good.extra c end (settles_among defers size i w came.good c is) st going

  -- and a leaving row
  pub leaves_go_lower : (w : World T) → Came w → (c : Leave) → w.row i ≡ Leaves c
      → (mem2 : Mem T) (d : Leave) (o : Settled T) → Steps Took value_at w.memory (leave_plan defers c) mem2 (d, o) → goes_further o ≡ true
      → leave_steps_left defers goes_further mem2 d < leave_steps_left defers goes_further w.memory c
  leaves_go_lower w came c is mem2 d o st going =
      leave_falls defers i goes_further (λ bound. Among defers (LAST_SLOT + 1) bound i) (among_lowers defers (LAST_SLOT + 1) i refl) Came came_lasts w came c is mem2 d o st going
