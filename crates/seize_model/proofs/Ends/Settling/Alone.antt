-- A settling row that runs alone never waits.
use Rattle.std.specs.Prelude.{Option}
use Rattle.std.proofs.Common.{◌≡◌, ℕ, ◌+◌, true, false, refl, subst}
use Rattle.seize.specs.Given.SeizeWordsMem.{Mem, Can, Took, value_at}
use Rattle.seize.specs.Given.SeizeWordsPlan.{Steps, May}
use Rattle.seize.specs.declared.states.TheConstants.{LAST_SLOT}
use Rattle.seize.specs.declared.rows.settle.Settle.{Settle}
use Rattle.seize.specs.declared.rows.settle.Settling.{Settling}
use Rattle.seize.specs.declared.rows.settle.Settled.{Settled}
use Rattle.seize.specs.declared.rows.settle.Settled.TheVariants.{Goes, Waits, Gave, Done}
use Rattle.seize.specs.Settle.{plan_at, settle_plan}
use Rattle.seize_rule.proofs.Given.SeizeMovesState.Ghost.{State}
use Rattle.seize_rule.proofs.Given.SeizeMemoryWords.View.{view}
use Rattle.seize_rule.proofs.Given.SeizeMemoryWords.Shows.{Extra}
use Rattle.seize_rule.proofs.Points.Known.{FitsAt, bare}
use Rattle.seize_rule.proofs.Points.Settle.{is_over}
use Rattle.seize_model.proofs.Ends.Settling.Among.{Among, AfterStep, may_step, among_on}
use Rattle.seize_model.proofs.Ends.Settling.Most.{Lowers, is_going}
use Rattle.seize_model.proofs.Ends.Batches.Held.{GoesOn, HoldsAlone, holds_alone, waits_held}

-- what a settling row relies on in a memory, and nobody else holds a batch
pub record Alone {T : Type 0} (defers : T → Option ℕ) (n bound i : ℕ) (mem : Mem T) (m : State) (x : Extra) (c : Settle) : Type 0 where
  pub among : Among defers n bound i mem m x c
  pub alone : HoldsAlone (view defers mem) c

module _ {T : Type 0} (defers : T → Option ℕ) (n bound i : ℕ) (last : n ≡ LAST_SLOT + 1) (mem : Mem T) (m : State) (x : Extra) (c : Settle) (r : Alone defers n bound i mem m x c) where
  -- it sees no batch that is held
  goes_further : (mem2 : Mem T) (d : Settle) (o : Settled T) → Steps Took value_at mem (settle_plan defers c) mem2 (d, o) → GoesOn o
  goes_further mem2 d Goes st = tt
  goes_further mem2 d Waits st =
      let k = waits_held defers mem mem2 c d c.stands st in
      not_held (subst (λ (p : Settling). FitsAt n i (view defers mem) m x (bare c) p) k.1 r.among.fits).retiring.holds (r.alone c.slot k.0).1
    where
      not_held : c.held ≡ false → c.held ≡ true → ⊥
      not_held a b = cc (a, b)
  goes_further mem2 d (Gave value) st = tt
  goes_further mem2 d Done st = tt

  -- after a step that is not its last
  pub alone_on : (mem2 : Mem T) (end : Settle × Settled T) → is_over c.stands ≡ false → Steps Took value_at mem (settle_plan defers c) mem2 end
      → (after : AfterStep defers n bound i last mem m x c r.among mem2 end) × Alone defers n bound i mem2 after.m2 after.x2 end.0
  alone_on mem2 end o st =
      let after = among_on defers n bound i last mem m x c r.among mem2 end o (goes_further mem2 end.0 end.1 st) st in
      let may : (p : Settling) → c.stands ≡ p → May Can Took value_at mem (plan_at defers c p) =
      (λ p e. subst (λ (q : Settling). May Can Took value_at mem (plan_at defers c q)) e (may_step defers n bound i last mem m x c r.among)) in (
        after,
        record { among = after.among; alone = holds_alone defers n i mem mem2 m x c end may r.alone after.slot_is c.stands refl r.among.fits st },
      )

-- so it lasts, whatever its steps say that are not its last
pub alone_lowers : {T : Type 0} (defers : T → Option ℕ) (n i : ℕ) → n ≡ LAST_SLOT + 1 → Lowers defers n i is_going (λ bound. Alone defers n bound i)
alone_lowers defers n i last = record {
  stops = refl;
  among = λ bound mem m x c r. r.among;
  on = λ bound mem m x c r mem2 end o st going. (let h = alone_on defers n bound i last mem m x c r mem2 end o st in (h.0.m2, h.0.x2, h.1, h.0.less));
}
