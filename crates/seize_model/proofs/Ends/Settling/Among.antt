-- A settling row, whatever rows others have under way, step by step: where it does not wait, what it relies on is there again, and less is left.
use Rattle.std.specs.Prelude.{Option}
use Rattle.std.proofs.Common.{◌≡◌, ℕ, ◌+◌, ◌<◌, false, length, refl, arith, ap, sym, subst, ◌∙◌}
use Rattle.seize.specs.Given.SeizeWordsMem.{Mem, Can, Took, value_at}
use Rattle.seize.specs.Given.SeizeWordsPlan.{Steps, May}
use Rattle.seize.specs.declared.states.TheConstants.{LAST_SLOT}
use Rattle.seize.specs.declared.rows.settle.Settle.{Settle}
use Rattle.seize.specs.declared.rows.settle.Settled.{Settled}
use Rattle.seize.specs.Settle.{settle_plan}
use Rattle.seize_rule.proofs.Given.SeizeMovesState.Ghost.{State, is_never}
use Rattle.seize_rule.proofs.Given.SeizeMovesState.Rule.{Inv}
use Rattle.seize_rule.proofs.Given.SeizeMemoryWords.View.{view}
use Rattle.seize_rule.proofs.Given.SeizeMemoryWords.Shows.{Extra, Shows}
use Rattle.seize_rule.proofs.Points.Stepped.{HasWords, IsGoing}
use Rattle.seize_rule.proofs.Points.Known.{Fits}
use Rattle.seize_rule.proofs.Given.SeizeMemoryWords.There.{Stocked}
use Rattle.seize_rule.proofs.Given.SeizeMemoryWords.Room.{HasRoom, room_heads}
use Rattle.seize_rule.proofs.Words.Kept.{plan_lasts, settle_quiet}
use Rattle.seize_rule.proofs.Points.May.{may_at}
use Rattle.seize_rule.proofs.Points.Settle.{is_over, settle_steps}
use Rattle.seize_rule.proofs.Rows.Settled.{never_emptied}
use Rattle.seize_model.proofs.Ends.Settling.Measure.{ends}
use Rattle.seize_model.proofs.Ends.Settling.Moves.{Below}
use Rattle.seize_model.proofs.Ends.Settling.Steps.{settle_ends}
use Rattle.seize_model.proofs.Ends.Batches.Free.{plan_long, live_below}
use Rattle.seize_model.proofs.Ends.Batches.Held.{GoesOn}

-- what a settling row relies on in a memory
pub record Among {T : Type 0} (defers : T → Option ℕ) (n bound i : ℕ) (mem : Mem T) (m : State) (x : Extra) (c : Settle) : Type 0 where
  pub inv : Inv n m
  pub shows : Shows n (view defers mem) m x
  pub fits : Fits n i (view defers mem) m x c
  pub room : HasRoom n m.head mem
  pub stocked : Stocked defers mem
  pub bounded : bound ≡ length mem.blocks + 1  -- above the blocks that live

module _ {T : Type 0} (defers : T → Option ℕ) (n bound i : ℕ) (last : n ≡ LAST_SLOT + 1) (mem : Mem T) (m : State) (x : Extra) (c : Settle) (r : Among defers n bound i mem m x c) where
  words : HasWords defers n mem m.head
  words = record {
    entries = λ b k l live. r.stocked.entries b k live l;
    lists = r.stocked.lists;
    slots = λ t k l h. r.room.bucketed.there t k (r.room.enough t t h (omega arith) (taken t h)) l;
    behind = λ t k l h lt. r.room.bucketed.there (t + 1) k (r.room.enough t (t + 1) h (omega arith) lt) l;
    few = r.stocked.few;
  }
    where
      taken : (t : ℕ) → is_never (m.head t) ≡ false → t < n
      taken t h = grind (arith, r.inv.slots.outside t)

  pub may_step : May Can Took value_at mem (settle_plan defers c)
  may_step = may_at defers n i mem m x c r.inv r.shows words c.stands r.fits

  pub below_lives : Below bound m.life
  below_lives b h = subst (λ (k : ℕ). b < k) (sym r.bounded) (live_below mem b (r.shows.lists.lived b ∙ h))

  -- after a step that is not its last, and does not wait
  pub record AfterStep (mem2 : Mem T) (end : Settle × Settled T) : Type 0 where
    pub m2 : State
    pub x2 : Extra
    pub among : Among defers n bound i mem2 m2 x2 end.0
    pub less : ends n bound i m2 (view defers mem2) end.0 < ends n bound i m (view defers mem) c
    pub going : IsGoing end.1
    pub slot_is : end.0.slot ≡ c.slot

  pub among_on : (mem2 : Mem T) (end : Settle × Settled T) → is_over c.stands ≡ false → GoesOn end.1 → Steps Took value_at mem (settle_plan defers c) mem2 end → AfterStep mem2 end
  among_on mem2 end o further st =
      let w = settle_steps defers n i mem mem2 m x c end last words r.inv r.shows c.stands refl o r.fits st in
      let lasts = plan_lasts defers n m.head mem r.stocked r.room (settle_plan defers c) mem2 end (settle_quiet defers c c.stands) may_step st in
      record {
        m2 = w.0.m2;
        x2 = w.0.x2;
        among = record {
          inv = w.0.moved.inv;
          shows = w.0.written.shows;
          fits = w.0.fits;
          room = room_heads n m.head w.0.m2.head mem2 (λ u e. never_emptied (w.0.m2.head u) (m.head u) (w.0.aside.heads u) e) lasts.1;
          stocked = lasts.0.stocked;
          bounded = r.bounded ∙ ap (λ k. k + 1) (sym (plan_long mem (settle_plan defers c) mem2 end (settle_quiet defers c c.stands) st));
        };
        less = settle_ends defers n bound i mem mem2 m x c end r.inv r.shows below_lives further w o r.fits st;
        going = w.1;
        slot_is = w.0.slot_is;
      }
