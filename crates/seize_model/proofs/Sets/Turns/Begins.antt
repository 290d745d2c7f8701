-- A whole call begins: what it comes to in the waiting sets, and what holds after its beginning.
use Rattle.std.specs.Prelude.{Option}
use Rattle.std.proofs.Common.{◌≡◌, ℕ, ◌+◌, ◌*◌, true, false, List, length, refl, subst, sym, ap, ◌∙◌}
use Rattle.seize.specs.declared.states.TheConstants.{LAST_SLOT}
use Rattle.seize.specs.Sequence.{taken_in}
use Rattle.seize.specs.Settle.{retiring, flushing}
use Rattle.seize.specs.WaitingSets.{Sets, After, Enters as EntersSet, Leaves as LeavesSet, Refreshes, Retires, Flushes, Defers as DefersSet, quietly, changed}
use Rattle.seize.specs.World.{World, Row, Request, Register', Enter', Leave', LeaveOwned, Refresh, Unregister', Retire, Flush, Defer', Settles, Begins, Begin, with_at}
use Rattle.seize_rule.proofs.Given.SeizeMovesState.Ghost.{State}
use Rattle.seize_rule.proofs.Given.SeizeMemoryWords.View.{view}
use Rattle.seize_rule.proofs.Rows.Known.{FitsRow}
use Rattle.seize_rule.proofs.Given.SeizeMovesSets.Shown.{Models}
use Rattle.seize_rule.proofs.Rows.SizesKept.{happens_sized}
use Rattle.seize_rule.proofs.Rows.Others.{begins_others, with_here}
use Rattle.seize_rule.proofs.World.Rested.{Lone, Rested, resting_sized}
use Rattle.seize_rule.proofs.Given.SeizeMovesSets.Unmoved.{Unmoved}
use Rattle.seize_rule.proofs.Rows.Told.{BeginTold}
use Rattle.seize_rule.proofs.World.Begins.{begins_next}
use Rattle.seize_model.proofs.Sets.Follows.Begins.{AtRest, at_rest, retire_begins, flush_begins}
use Rattle.seize_model.proofs.Sets.Turns.Middle.{Ended, ended_unmoved, Mid}

-- it takes no slot
abbrev pub NoNewSlot : Request → Type 0
NoNewSlot (Register' enters) = ⊥
NoNewSlot _ = Unit {0}

-- what it comes to
abbrev pub target_of : ℕ → Request → Sets → After
target_of size (Register' enters) sets = quietly sets
target_of size (Enter' s) sets = changed size (EntersSet s) sets
target_of size (Leave' s) sets = changed size (LeavesSet s) sets
target_of size (LeaveOwned s) sets = changed size (LeavesSet s) sets
target_of size (Refresh s) sets = changed size (Refreshes s) sets
target_of size (Unregister' s) sets = quietly sets
target_of size (Retire s b) sets = changed size (Retires s b) sets
target_of size (Flush s) sets = changed size (Flushes s) sets
target_of size (Defer' s b t) sets = changed size (DefersSet b t) sets

-- all rows rest, and the state shows these sets
pub record Shown {T : Type 0} (defers : T → Option ℕ) (n size : ℕ) (w : World T) (sets : Sets) : Type 0 where
  pub rested : Rested defers n size w
  pub order : List ℕ
  pub models : Models n rested.good.state order sets

module _ {T : Type 0} (defers : T → Option ℕ) (n size : ℕ) (last : n ≡ LAST_SLOT + 1) (i : ℕ) (w : World T) (sets : Sets) (shown : Shown defers n size w sets) where
  abbrev pub m : State
  m = shown.rested.good.state

  pub rest : AtRest i m
  rest =
      at_rest i m shown.rested.good.extra
      (subst (λ (q : Row). FitsRow n i (view defers w.memory) m shown.rested.good.extra (length w.memory.slots) q) (shown.rested.rests i) (shown.rested.good.rows i)).empty

  -- the beginning of a call, with its row alone under way
  pub record Started (request : Request) (v : World T) : Type 0 where
    pub lone : Lone defers n size i v
    pub told : BeginTold n i request m lone.good.state

  pub starts : (request : Request) (v : World T) → Begins defers size i request w v → Started request v
  starts request v h =
      let g = begins_next defers n size last w v shown.rested.good i (shown.rested.rests i) request h in
      record {
        lone = record {
          good = g.0;
          sized = happens_sized defers size w v (resting_sized defers n size last w shown.rested.rests) (Begin i request) (shown.rested.rests i, h);
          others = λ j ne. begins_others defers size w v i j ne request h ∙ shown.rested.rests j;
        };
        told = g.1;
      }

  -- the sets are those from before
  pub as_before : (m2 : State) → Unmoved n m m2 → Ended n m2 (taken_in m.log) sets
  as_before m2 u = ended_unmoved n m m2 (taken_in m.log) sets u (record { order = shown.order; models = shown.models; taken = refl })

  module _ (v : World T) where
    abbrev pub MidThen : Request → State → Row → Type 0
    MidThen request m2 r = Mid size n i (taken_in m.log) sets (target_of size request sets) r m2

    -- the row of i is this one
    row_is : (request : Request) (m2 : State) (r : Row) → v.row i ≡ r → MidThen request m2 r → MidThen request m2 (v.row i)
    row_is request m2 r e h = subst (λ (q : Row). MidThen request m2 q) (sym e) h

    here : (r : Row) → (u : World T) → (u.row ≡ with_at w.row i r) → v ≡ u → v.row i ≡ r
    here r u e k = ap (λ (x : World T). x.row i) k ∙ ap (λ (f : ℕ → Row). f i) e ∙ with_here w.row i r

    pub begins_mid : (request : Request) → NoNewSlot request → Begins defers size i request w v → (st : Started request v) → MidThen request st.lone.good.state (v.row i)
    begins_mid (Register' enters) k h st = absurd k
    begins_mid (Enter' s) k h st = row_is (Enter' s) st.lone.good.state _ (here _ _ refl h.1) (as_before st.lone.good.state st.told, refl)
    begins_mid (Leave' s) k h st = row_is (Leave' s) st.lone.good.state _ (here _ _ refl h.1) (as_before st.lone.good.state st.told, (false, refl, refl))
    begins_mid (LeaveOwned s) k h st = row_is (LeaveOwned s) st.lone.good.state _ (here _ _ refl h.1) (as_before st.lone.good.state st.told, (false, refl, refl))
    begins_mid (Refresh s) k h st = row_is (Refresh s) st.lone.good.state _ (here _ _ refl h.1) (as_before st.lone.good.state st.told, (true, refl, refl))
    begins_mid (Unregister' s) k h st = row_is (Unregister' s) st.lone.good.state _ (here _ _ refl h.1) (as_before st.lone.good.state st.told, refl)
    begins_mid (Retire s b) k h st =
        row_is (Retire s b) st.lone.good.state _ (here _ _ refl h.2)
        (subst (λ (m2 : State). MidThen (Retire s b) m2 (Settles (retiring s size (b * 2048)))) (sym st.told) (retire_begins size n i s b m shown.order sets rest shown.models))
    begins_mid (Flush s) k h st =
        row_is (Flush s) st.lone.good.state _ (here _ _ refl h.1)
        (subst (λ (m2 : State). MidThen (Flush s) m2 (Settles (flushing s size))) (sym st.told) (flush_begins size n i s m shown.order sets rest shown.models))
    begins_mid (Defer' s b t) k h st =
        row_is (Defer' s b t) st.lone.good.state _ (here _ _ refl h.7) (as_before st.lone.good.state st.told, (b, t, h.0, refl, refl, refl))
