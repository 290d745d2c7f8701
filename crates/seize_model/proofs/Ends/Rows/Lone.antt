-- In a world where one row alone is under way: one that settles ends, and so does one that leaves.
use Rattle.std.specs.Prelude.{Option}
use Rattle.std.proofs.Common.{◌≡◌, ℕ, ◌+◌, ◌<◌, true, length, refl, subst}
use Rattle.seize.specs.Given.SeizeWordsMem.{Mem, Took, value_at}
use Rattle.seize.specs.Given.SeizeWordsPlan.{Steps}
use Rattle.seize.specs.declared.states.TheConstants.{LAST_SLOT}
use Rattle.seize.specs.declared.rows.settle.Settle.{Settle}
use Rattle.seize.specs.declared.rows.settle.Settled.{Settled}
use Rattle.seize.specs.declared.rows.leave.Leave.{Leave}
use Rattle.seize.specs.declared.rows.leave.Leaving.{Leaving}
use Rattle.seize.specs.declared.rows.leave.Leaving.TheVariants as leaving
use Rattle.seize.specs.Settle.{settle_plan}
use Rattle.seize.specs.Leave.{leave_plan}
use Rattle.seize.specs.World.{World, Row, Settles, Leaves, Step}
use Rattle.seize_rule.proofs.Given.SeizeMemoryWords.View.{view}
use Rattle.seize_rule.proofs.Rows.Known.{FitsRow, FitsLeave}
use Rattle.seize_rule.proofs.World.Good.{Good}
use Rattle.seize_rule.proofs.World.Rested.{Lone, steps_lone}
use Rattle.seize_model.proofs.Ends.Batches.Held.{HoldsAlone}
use Rattle.seize_model.proofs.Ends.Batches.Rows.{HeldByRows, happens_held, leaves_alone}
use Rattle.seize_model.proofs.Ends.Settling.Among.{Among}
use Rattle.seize_model.proofs.Ends.Settling.Alone.{Alone, alone_lowers}
use Rattle.seize_model.proofs.Ends.Settling.Most.{is_going, settle_to_go, settle_falls}
use Rattle.seize_model.proofs.Ends.Rows.Leaving.{LastsSo, leave_steps_left, leave_falls}

-- how many steps a leaving row takes where it runs alone
abbrev pub leave_to_go : {T : Type 0} → (T → Option ℕ) → Mem T → Leave → ℕ
leave_to_go defers mem c = leave_steps_left defers is_going mem c

module _ {T : Type 0} (defers : T → Option ℕ) (size i : ℕ) where
  -- in any world a settling row has what it relies on
  pub settles_among : (w : World T) (good : Good defers (LAST_SLOT + 1) size w) (c : Settle) → w.row i ≡ Settles c
      → Among defers (LAST_SLOT + 1) (length w.memory.blocks + 1) i w.memory good.state good.extra c
  settles_among w good c is = record {
    inv = good.inv;
    shows = good.shows;
    fits = subst (λ (r : Row). FitsRow (LAST_SLOT + 1) i (view defers w.memory) good.state good.extra (length w.memory.slots) r) is (good.rows i);
    room = good.room;
    stocked = good.stocked;
    bounded = refl;
  }

  fits_at : (w : World T) (good : Good defers (LAST_SLOT + 1) size w) (c : Leave) → w.row i ≡ Leaves c → (p : Leaving) → c.stands ≡ p
      → FitsLeave (LAST_SLOT + 1) i (view defers w.memory) good.state good.extra c.slot c.becomes c.frees p
  fits_at w good c is p e =
      subst (λ (q : Leaving). FitsLeave (LAST_SLOT + 1) i (view defers w.memory) good.state good.extra c.slot c.becomes c.frees q) e
      (subst (λ (r : Row). FitsRow (LAST_SLOT + 1) i (view defers w.memory) good.state good.extra (length w.memory.slots) r) is (good.rows i))

  -- and so has one that settles as it leaves
  pub leaves_among : (w : World T) (good : Good defers (LAST_SLOT + 1) size w) (c : Leave) (settle : Settle) → w.row i ≡ Leaves c → c.stands ≡ leaving.Settles settle
      → Among defers (LAST_SLOT + 1) (length w.memory.blocks + 1) i w.memory good.state good.extra settle
  leaves_among w good c settle is e = record {
    inv = good.inv;
    shows = good.shows;
    fits = (fits_at w good c is (leaving.Settles settle) e).settles;
    room = good.room;
    stocked = good.stocked;
    bounded = refl;
  }

  -- at a world where row i alone is under way

  -- a settling row that goes on has less to go
  pub settles_lower : (w : World T) → Lone defers (LAST_SLOT + 1) size i w → (c : Settle) → w.row i ≡ Settles c → HoldsAlone (view defers w.memory) c
      → (mem2 : Mem T) (end : Settle × Settled T) → Steps Took value_at w.memory (settle_plan defers c) mem2 end → is_going end.1 ≡ true
      → settle_to_go defers mem2 end.0 < settle_to_go defers w.memory c
  settles_lower w lone c is h mem2 end st going =
      settle_falls defers i is_going (λ bound. Alone defers (LAST_SLOT + 1) bound i) (alone_lowers defers (LAST_SLOT + 1) i refl) (length w.memory.blocks + 1) w.memory mem2
      lone.good.state lone.good.extra c end (record { among = settles_among w lone.good c is; alone = h }) st going

  -- and no other row has a batch
  pub record LoneSo (w : World T) : Type 0 where
    pub lone : Lone defers (LAST_SLOT + 1) size i w
    pub held : HeldByRows w

  lone_lasts : LastsSo defers i (λ bound. Alone defers (LAST_SLOT + 1) bound i) LoneSo
  lone_lasts = record {
    steps = λ w v so st. record {
      lone = steps_lone defers (LAST_SLOT + 1) size refl i w v so.lone st;
      held = happens_held defers size (Step i) w v so.lone.good st so.held;
    };
    settles = λ w so c settle is e. (
      so.lone.good.state,
      so.lone.good.extra,
      record { among = leaves_among w so.lone.good c settle is e; alone = leaves_alone w i so.lone.others so.held defers c settle is e },
    );
  }

  -- a leaving row that goes on has less to go
  pub leaves_lower : (w : World T) → Lone defers (LAST_SLOT + 1) size i w → HeldByRows w → (c : Leave) → w.row i ≡ Leaves c
      → (mem2 : Mem T) (d : Leave) (o : Settled T) → Steps Took value_at w.memory (leave_plan defers c) mem2 (d, o) → is_going o ≡ true
      → leave_to_go defers mem2 d < leave_to_go defers w.memory c
  leaves_lower w lone held c is mem2 d o st going =
      leave_falls defers i is_going (λ bound. Alone defers (LAST_SLOT + 1) bound i) (alone_lowers defers (LAST_SLOT + 1) i refl) LoneSo lone_lasts w (record { lone = lone; held = held })
      c is mem2 d o st going
