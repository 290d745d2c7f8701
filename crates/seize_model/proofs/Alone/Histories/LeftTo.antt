-- A block that is left to a caller has the link that it had, whoever takes a step of a row; and of no block a row ends the owner.
use Rattle.std.specs.Prelude.{Option}
use Rattle.std.proofs.Common.{◌≡◌, ℕ, ◌+◌, List, [], ◌∷◌, ◌++◌, length, refl, ap, subst, ◌∙◌}
use Rattle.seize.specs.Given.SeizeWordsDeclared.at.At.TheVariants.{Entry}
use Rattle.seize.specs.Given.SeizeWordsMem.{Mem, word_at}
use Rattle.seize.specs.declared.advance.Advance.{Advance}
use Rattle.seize.specs.declared.advance.Advance.TheVariants as progress
use Rattle.seize.specs.declared.rows.settle.Settle.{Settle}
use Rattle.seize.specs.declared.rows.settle.Settled.{Settled}
use Rattle.seize.specs.declared.rows.settle.Settled.TheVariants.{Goes, Waits, Gave, Done}
use Rattle.seize.specs.declared.rows.register.Register.{Register}
use Rattle.seize.specs.declared.rows.defer.Defer.{Defer}
use Rattle.seize.specs.declared.states.TheConstants.{LAST_SLOT, NEXT}
use Rattle.seize.specs.Law.{Effect, Entered, Left, Linked, Unlinked, Deferred, Retired, Taken, Dropped, Ended, Made, LeftOver, is_orphan, is_over}
use Rattle.seize.specs.World.{World, Row, Rests, Registers, Enters, Settles, Leaves, Defers, Frees, Hand, LeftTo, Steps', settles_on, registers_on, defers_on}
use Rattle.seize_rule.proofs.Given.SeizeMovesState.Ghost.{IsLeft}
use Rattle.seize_rule.proofs.Points.Aside.{HandFits}
use Rattle.seize_rule.proofs.Rows.Effects.{IsOneStep}
use Rattle.seize_rule.proofs.Rows.Known.{FitsRow}
use Rattle.seize_rule.proofs.Given.SeizeMemoryWords.View.{view}
use Rattle.seize_rule.proofs.World.Kept.{row_may}
use Rattle.seize_model.proofs.Alone.Spared.Links.{SameNext, settle_next, leave_next, defer_next, register_links, enter_links, unregister_links}
use Rattle.seize_model.proofs.Alone.Histories.NotTaken.{did}
use Rattle.seize_model.proofs.Alone.Histories.Reached.{Reached}

-- a step of a row says nothing of owners that end
orphan_kept : (b : ℕ) (effects log : List Effect) → IsOneStep effects → is_orphan b (effects ++ log) ≡ is_orphan b log
orphan_kept b [] log one = refl
orphan_kept b (Entered c ∷ []) log one = refl
orphan_kept b (Left c ∷ []) log one = refl
orphan_kept b (Made c ∷ []) log one = absurd one
orphan_kept b (Linked c w ∷ []) log one = absurd one
orphan_kept b (Unlinked c ∷ []) log one = absurd one
orphan_kept b (Deferred c t ∷ []) log one = absurd one
orphan_kept b (Retired c ∷ []) log one = refl
orphan_kept b (Taken c ∷ []) log one = refl
orphan_kept b (Dropped c ∷ []) log one = absurd one
orphan_kept b (Ended w ∷ []) log one = absurd one
orphan_kept b (LeftOver c further ∷ []) log one = absurd one
orphan_kept b (e ∷ f ∷ effects) log one = absurd one

pub over_kept : (b : ℕ) (effects log : List Effect) → IsOneStep effects → is_over b (effects ++ log) ≡ is_over b log
over_kept b [] log one = refl
over_kept b (Entered c ∷ []) log one = refl
over_kept b (Left c ∷ []) log one = refl
over_kept b (Made c ∷ []) log one = absurd one
over_kept b (Linked c w ∷ []) log one = absurd one
over_kept b (Unlinked c ∷ []) log one = absurd one
over_kept b (Deferred c t ∷ []) log one = absurd one
over_kept b (Retired c ∷ []) log one = refl
over_kept b (Taken c ∷ []) log one = refl
over_kept b (Dropped c ∷ []) log one = absurd one
over_kept b (Ended w ∷ []) log one = absurd one
over_kept b (LeftOver c further ∷ []) log one = absurd one
over_kept b (e ∷ f ∷ effects) log one = absurd one

module _ {T : Type 0} (defers : T → Option ℕ) (size : ℕ) (w : World T) (r : Reached defers size w) (i : ℕ) (w2 : World T) (step : Steps' defers i (w.row i) w w2) where
  pub still_orphan : (b : ℕ) → is_orphan b w2.log ≡ is_orphan b w.log
  still_orphan b = let d = did defers size w r i w2 step in ap (is_orphan b) d.logged ∙ orphan_kept b d.effects w.log d.one

  pub still_over : (b : ℕ) → is_over b w2.log ≡ is_over b w.log
  still_over b = let d = did defers size w r i w2 step in ap (is_over b) d.logged ∙ over_kept b d.effects w.log d.one

  -- the memory that it came to
  settles_memory : (c d : Settle) (m : Mem T) (p : Settled T) → (settles_on w i c m (d, p)).memory ≡ m
  settles_memory c d m Goes = refl
  settles_memory c d m Waits = refl
  settles_memory c d m (Gave value) = refl
  settles_memory c d m Done = refl

  registers_memory : (c d : Register) (m : Mem T) (p : Advance ℕ) → (registers_on w i c m (d, p)).memory ≡ m
  registers_memory c d m progress.Goes = refl
  registers_memory c d m progress.Waits = refl
  registers_memory c d m (progress.Done s) = refl
  registers_memory c d m (progress.Refused fault) = refl

  defers_memory : (s : ℕ) (d : Defer) (m : Mem T) (p : Advance Unit) → (defers_on w i s m (d, p)).memory ≡ m
  defers_memory s d m progress.Goes = refl
  defers_memory s d m progress.Waits = refl
  defers_memory s d m (progress.Done u) = refl
  defers_memory s d m (progress.Refused fault) = refl

  module _ (b j : ℕ) (left : w.hand b ≡ LeftTo j) where
    life : r.good.state.life b ≡ IsLeft j
    life = subst (λ (h : Hand). HandFits h (r.good.state.life b)) left (r.good.hands b)

    fits : (row : Row) → w.row i ≡ row → FitsRow (LAST_SLOT + 1) i (view defers w.memory) r.good.state r.good.extra (length w.memory.slots) row
    fits row is = subst (λ (q : Row). FitsRow (LAST_SLOT + 1) i (view defers w.memory) r.good.state r.good.extra (length w.memory.slots) q) is (r.good.rows i)

    at_memory : (v : World T) (m : Mem T) → w2 ≡ v → v.memory ≡ m → SameNext b w.memory m → SameNext b w.memory w2.memory
    at_memory v m e is same = ap (λ (k : Mem T). word_at k (Entry b NEXT)) (ap (λ (u : World T). u.memory) e ∙ is) ∙ same

    by_row : (row : Row) → w.row i ≡ row → Steps' defers i row w w2 → SameNext b w.memory w2.memory
    by_row Rests is h = absurd h
    by_row (Registers c) is h =
        at_memory _ h.0 h.3 (registers_memory c h.1.0 h.0 h.1.1) (register_links w.memory h.0 c h.1 (row_may defers (LAST_SLOT + 1) size refl w r.good i (Registers c) is) h.2 b)
    by_row (Enters c) is h = at_memory _ h.0 h.3 refl (enter_links w.memory h.0 c h.1 (row_may defers (LAST_SLOT + 1) size refl w r.good i (Enters c) is) h.2 b)
    by_row (Settles c) is h =
        at_memory _ h.0 h.3 (settles_memory c h.1.0 h.0 h.1.1)
        (settle_next defers (LAST_SLOT + 1) i w.memory h.0 r.good.state r.good.extra r.good.inv r.good.shows b j life c h.1 (fits (Settles c) is)
        (row_may defers (LAST_SLOT + 1) size refl w r.good i (Settles c) is) h.2 w.hand).1
    by_row (Leaves c) is h =
        at_memory _ h.0 h.3 refl
        (leave_next defers (LAST_SLOT + 1) i w.memory h.0 r.good.state r.good.extra r.good.inv r.good.shows b j life c h.1 (fits (Leaves c) is)
        (row_may defers (LAST_SLOT + 1) size refl w r.good i (Leaves c) is) h.2 w.hand).1
    by_row (Defers s c) is h =
        at_memory _ h.0 h.3 (defers_memory s h.1.0 h.0 h.1.1)
        (defer_next defers (LAST_SLOT + 1) i w.memory h.0 r.good.state r.good.extra r.good.inv r.good.shows b j life s c h.1 (fits (Defers s c) is)
        (row_may defers (LAST_SLOT + 1) size refl w r.good i (Defers s c) is) h.2)
    by_row (Frees c) is h = at_memory _ h.0 h.3 refl (unregister_links w.memory h.0 c h.1 (row_may defers (LAST_SLOT + 1) size refl w r.good i (Frees c) is) h.2 b)

    -- its link
    pub still_linked : SameNext b w.memory w2.memory
    still_linked = by_row (w.row i) refl step
