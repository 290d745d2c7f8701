-- What a step of a leaving row tells, and what stays of the row: its slot, and what its head becomes.
use Rattle.std.specs.Prelude.{Option, if◌then◌else◌, nat_lt, ◌==◌}
use Rattle.std.proofs.Common.{◌≡◌, ℕ, Bool, true, false, List, [], ◌∷◌, refl, ap, sym, subst, ◌∙◌}
use Rattle.seize_moves.specs.Given.SeizeWordsDeclared.at.At.TheVariants as name
use Rattle.seize_moves.specs.Given.SeizeWordsMem.{Mem, Took, value_at, with_word}
use Rattle.seize_moves.specs.Given.SeizeWordsPlan.{Steps, Ends, Now}
use Rattle.seize_moves.proofs.Given.SeizeWordsOneOwner.Operations.{swapped, stored}
use Rattle.seize_moves.specs.Given.SeizeDeclared.states.TheConstants.{HEAD, FREE, ACTIVE}
use Rattle.seize_moves.specs.Given.SeizeDeclared.rows.settle.Settle.{Settle}
use Rattle.seize_moves.specs.Given.SeizeDeclared.rows.settle.Settled.{Settled}
use Rattle.seize_moves.specs.Given.SeizeDeclared.rows.settle.Settled.TheVariants.{Goes, Waits, Gave, Done}
use Rattle.seize_moves.specs.Given.SeizeDeclared.rows.leave.Leave.{Leave}
use Rattle.seize_moves.specs.Given.SeizeDeclared.rows.leave.Leaving.{Leaving}
use Rattle.seize_moves.specs.Given.SeizeDeclared.rows.leave.Leaving.TheVariants as leaving
use Rattle.seize_moves.specs.Given.SeizeSettle.{settle_plan, counting_down}
use Rattle.seize_moves.specs.Given.SeizeLeave.{standing, counted_down, settled, list_taken, plan_at, leave_plan}
use Rattle.seize_moves.specs.Given.SeizeLaw.{Effect, Entered, Left}
use Rattle.seize_moves.specs.Given.SeizeWorld.{Use, Vacant, Changing, leave_effects, settle_effects, left_as}
use Rattle.seize_moves.specs.Given.SeizeSequence.{taken_in}
use Rattle.seize_rule.proofs.Rows.Leaving.{steps_back}
use Rattle.seize_rule.proofs.Words.Kept.{IsQuietPlan, quiet_as, settle_quiet}
use Rattle.seize_rule.proofs.Rows.Taken.{TellsTaken, settle_tells}

-- how the slot is used meanwhile
abbrev pub UsedAs : Bool → Leaving → Use → Type 0
UsedAs f leaving.Swaps u = u ≡ Changing
UsedAs f (leaving.Settles settle) u = u ≡ Changing
UsedAs f leaving.Frees u = (u ≡ Changing) × (f ≡ true)
UsedAs f leaving.Over u = u ≡ (if f then Vacant else Changing)

-- the row leaves this slot, whose head becomes k, and which is free after it or not
pub record LeaveIs (s k : ℕ) (f : Bool) (c : Leave) (u : Use) : Type 0 where
  pub slot : c.slot ≡ s
  pub becomes : c.becomes ≡ k
  pub frees : c.frees ≡ f
  pub used : UsedAs f c.stands u

-- it is still under way, or stood at its end
abbrev pub IsStill : {T : Type 0} → ℕ → ℕ → Bool → Leave → Use → Leave × Settled T → Type 0
IsStill s k f c u (d, Done) = c.stands ≡ leaving.Over
IsStill s k f c u (d, _) = LeaveIs s k f d u

counted_is : (s k : ℕ) (f : Bool) (c : Leave) (t : Bool) → c.slot ≡ s → c.becomes ≡ k → c.frees ≡ f → c.frees ≡ t → LeaveIs s k f (if t then standing c leaving.Frees else standing c leaving.Over) Changing
counted_is s k f c true a b d e = record { slot = a; becomes = b; frees = d; used = (refl, sym d ∙ e) }
counted_is s k f c false a b d e = record { slot = a; becomes = b; frees = d; used = ap (λ (t : Bool). if t then Vacant else Changing) (sym (sym d ∙ e)) }

module _ {T : Type 0} (defers : T → Option ℕ) (mem mem2 : Mem T) (c : Leave) (end : Leave × Settled T) where
  -- what it tells

  tells_as : (effects : List Effect) (r : Leave × Settled T) → end ≡ r → TellsTaken mem mem2 effects r.1 → TellsTaken mem mem2 effects end.1
  tells_as effects r e h = subst (λ (q : Leave × Settled T). TellsTaken mem mem2 effects q.1) (sym e) h

  settled_tells : (effects : List Effect) (d : Settle) (p : Settled T) → TellsTaken mem mem2 effects p → TellsTaken mem mem2 effects (settled c (d, p)).1
  settled_tells effects d Goes h = h
  settled_tells effects d Waits h = h
  settled_tells effects d (Gave value) h = h
  settled_tells effects d Done h = h

  over_taken : (t : Bool) → taken_in (if t then Entered c.slot ∷ [] else []) ≡ []
  over_taken true = refl
  over_taken false = refl

  tells_at : (p : Leaving) → Steps Took value_at mem (plan_at defers c p) mem2 end → TellsTaken mem mem2 (leave_effects c p) end.1
  tells_at leaving.Swaps s =
      let d = swapped mem (list_taken c) (name.Slot c.slot HEAD) c.becomes mem2 end s in
      by (value_at (with_word mem (name.Slot c.slot HEAD) c.becomes)) d.0 (nat_lt ACTIVE d.0) d.3
    where
      by : (shown : ℕ → Option T) (head : ℕ) (t : Bool) → Ends shown (if t then Now (standing c (leaving.Settles (counting_down c.slot c.batch_size head)), Goes) else Now (counted_down c, Goes)) end
          → TellsTaken mem mem2 (Left c.slot ∷ []) end.1
      by shown head true e = tells_as (Left c.slot ∷ []) (standing c (leaving.Settles (counting_down c.slot c.batch_size head)), Goes) e refl
      by shown head false e = tells_as (Left c.slot ∷ []) (counted_down c, Goes) e refl
  tells_at (leaving.Settles settle) s =
      let k = steps_back (settled c) mem mem2 (settle_plan defers settle) end s in
      tells_as (settle_effects settle settle.stands) (settled c k.0) k.2 (settled_tells (settle_effects settle settle.stands) k.0.0 k.0.1 (settle_tells defers mem mem2 settle k.0 k.1))
  tells_at leaving.Frees s =
      let d = stored mem (λ out. Now (standing c leaving.Over, Goes)) (name.Slot c.slot HEAD) FREE mem2 end s in
      tells_as [] (standing c leaving.Over, Goes) d.1 refl
  tells_at leaving.Over s = tells_as (leave_effects c leaving.Over) (c, Done) s.1 (over_taken (c.becomes == ACTIVE))

  pub leave_tells : Steps Took value_at mem (leave_plan defers c) mem2 end → TellsTaken mem mem2 (leave_effects c c.stands) end.1
  leave_tells s = tells_at c.stands s

  -- what stays

  module _ (s k : ℕ) (f : Bool) (slot : c.slot ≡ s) (becomes : c.becomes ≡ k) (frees : c.frees ≡ f) where
    still_as : (u : Use) (r : Leave × Settled T) → end ≡ r → IsStill s k f c u r → IsStill s k f c u end
    still_as u r e h = subst (λ (q : Leave × Settled T). IsStill s k f c u q) (sym e) h

    counted : LeaveIs s k f (counted_down c) Changing
    counted = counted_is s k f c c.frees slot becomes frees refl

    settled_still : (d : Settle) (p : Settled T) → IsStill s k f c Changing (settled c (d, p))
    settled_still d Goes = record { slot = slot; becomes = becomes; frees = frees; used = refl }
    settled_still d Waits = record { slot = slot; becomes = becomes; frees = frees; used = refl }
    settled_still d (Gave value) = record { slot = slot; becomes = becomes; frees = frees; used = refl }
    settled_still d Done = counted

    still_at : (p : Leaving) (u : Use) → c.stands ≡ p → UsedAs f p u → Steps Took value_at mem (plan_at defers c p) mem2 end → IsStill s k f c (left_as c p u) end
    still_at leaving.Swaps u is used st =
        let d = swapped mem (list_taken c) (name.Slot c.slot HEAD) c.becomes mem2 end st in
        subst (λ (v : Use). IsStill s k f c v end) (sym used)
        (by (value_at (with_word mem (name.Slot c.slot HEAD) c.becomes)) d.0 (nat_lt ACTIVE d.0) d.3)
      where
        by : (shown : ℕ → Option T) (head : ℕ) (t : Bool) → Ends shown (if t then Now (standing c (leaving.Settles (counting_down c.slot c.batch_size head)), Goes) else Now (counted_down c, Goes)) end
            → IsStill s k f c Changing end
        by shown head true e =
            still_as Changing (standing c (leaving.Settles (counting_down c.slot c.batch_size head)), Goes) e (record { slot = slot; becomes = becomes; frees = frees; used = refl })
        by shown head false e = still_as Changing (counted_down c, Goes) e counted
    still_at (leaving.Settles settle) u is used st =
        let b = steps_back (settled c) mem mem2 (settle_plan defers settle) end st in
        subst (λ (v : Use). IsStill s k f c v end) (sym used) (still_as Changing (settled c b.0) b.2 (settled_still b.0.0 b.0.1))
    still_at leaving.Frees u is used st =
        let d = stored mem (λ out. Now (standing c leaving.Over, Goes)) (name.Slot c.slot HEAD) FREE mem2 end st in
        still_as Vacant (standing c leaving.Over, Goes) d.1
        (record { slot = slot; becomes = becomes; frees = frees; used = ap (λ (t : Bool). if t then Vacant else Changing) (sym used.1) })
    still_at leaving.Over u is used st = still_as (left_as c leaving.Over u) (c, Done) st.1 is

  pub leave_still : (s k : ℕ) (f : Bool) (u : Use) → LeaveIs s k f c u → Steps Took value_at mem (leave_plan defers c) mem2 end → IsStill s k f c (left_as c c.stands u) end
  leave_still s k f u is st = still_at s k f is.slot is.becomes is.frees c.stands u refl is.used st

  -- it makes no block

  pub leave_quiet : (p : Leaving) → IsQuietPlan (plan_at defers c p)
  leave_quiet leaving.Swaps = tt
  leave_quiet (leaving.Settles settle) = quiet_as (settled c) (settle_plan defers settle) (settle_quiet defers settle settle.stands)
  leave_quiet leaving.Frees = tt
  leave_quiet leaving.Over = tt
