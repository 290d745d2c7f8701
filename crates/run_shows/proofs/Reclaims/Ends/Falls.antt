-- Each step of reclaiming all on roots leaves fewer points before it, or fewer blocks.
use Rattle.std.specs.Prelude.{Option, None, nat_lt, ◌==◌, if◌then◌else◌}
use Rattle.std.proofs.Common.{◌≡◌, ℕ, ◌+◌, ◌-◌, ◌*◌, ◌<◌, ◌≤◌, Bool, true, false, ◌⊎◌, inl, inr, refl, arith, ap, sym, subst}
use Rattle.seize_words.specs.declared.at.At.TheVariants as name
use Rattle.seize_words.specs.OneMemory.Mem.{Mem, Took, value_at, with_block}
use Rattle.seize_words.specs.OneMemory.Plan.{Ends, Steps, Now, Seeing}
use Rattle.seize_words.specs.OneMemory.Word.{block_in}
use Rattle.seize_words.proofs.OneMemory.OneOwner.Operations.{loaded, stored, taken}
use Rattle.seize.specs.declared.states.TheConstants.{NEXT}
use Rattle.seize.specs.declared.rows.settle.Settled.{Settled}
use Rattle.seize.specs.declared.rows.settle.Settled.TheVariants as settled
use Rattle.seize.specs.declared.rows.reclaim_all.ReclaimAll.{ReclaimAll}
use Rattle.seize.specs.declared.rows.reclaim_all.Reclaiming.{Reclaiming}
use Rattle.seize.specs.declared.rows.reclaim_all.Reclaiming.TheVariants as at
use Rattle.seize.specs.ReclaimAll.{standing, next_root, to, left_there, root_read, next_read, given_back, plan_at}
use Rattle.seize_acts.specs.Given.SeizeAloneAlone.{blocks_in}
use Rattle.seize_acts.proofs.Given.SeizeAloneSpared.Fewer.{take_fewer}
use Rattle.seize_acts.specs.Reclaims.AllReclaimed.{weight_at}
use Rattle.seize_acts.proofs.Reclaims.AllReclaimed.Weights.{weight}
use Rattle.run_effects.specs.Given.TablesNodes.{deferred_word, was_left}
use Rattle.run_effects.specs.Given.TablesDeclared.node.Node.{Node}
use Rattle.seize_words.proofs.General.{some_is as some_of}

-- it works on this root, or is over
abbrev pub IsOnRoots : ℕ → Reclaiming → Type 0
IsOnRoots roots (at.Roots root) = root < roots
IsOnRoots roots (at.Nexts root block) = root < roots
IsOnRoots roots (at.Takes root block next) = root < roots
IsOnRoots roots (at.Empties root) = root < roots
IsOnRoots roots (at.Unuses root) = root < roots
IsOnRoots roots at.Over = Unit {0}
IsOnRoots roots _ = ⊥

next_lower : (c : ReclaimAll) (root k : ℕ) → root < c.roots → 6 * (c.roots - root) - 5 ≤ k → IsOnRoots (next_root c root).roots (next_root c root).stands × (weight (next_root c root) < k)
next_lower c root k lt le = by (nat_lt root (c.roots - 1)) refl
  where
    by : (b : Bool) → nat_lt root (c.roots - 1) ≡ b
        → IsOnRoots (if b then standing c (at.Roots (root + 1)) else standing c at.Over).roots (if b then standing c (at.Roots (root + 1)) else standing c at.Over).stands
        × (weight (if b then standing c (at.Roots (root + 1)) else standing c at.Over) < k)
    by true e = let l : root < c.roots - 1 = grind (arith, e) in (omega (arith, l), omega (arith, l, le))
    by false e = (tt, omega (arith, lt, le))

module _ {K V : Type 0} (c : ReclaimAll) (m m3 : Mem (Node K V)) (end : ReclaimAll × Settled (Node K V)) where
  -- how many points lie before it now, or how many blocks there are
  abbrev pub Falls : ℕ → Type 0
  Falls k = IsOnRoots end.0.roots end.0.stands × ((blocks_in m3 < blocks_in m) ⊎ ((blocks_in m3 ≤ blocks_in m) × (weight end.0 < k)))

  went : (k : ℕ) (c2 : ReclaimAll) (told : Settled (Node K V)) → end ≡ (c2, told) → blocks_in m3 ≤ blocks_in m → IsOnRoots c2.roots c2.stands × (weight c2 < k) → Falls k
  went k c2 told e le (on, lt) = (
    subst (λ (p : ReclaimAll × Settled (Node K V)). IsOnRoots p.0.roots p.0.stands) (sym e) on,
    inr (le, subst (λ (p : ReclaimAll × Settled (Node K V)). weight p.0 < k) (sym e) lt),
  )

  same_blocks : m3 ≡ m → blocks_in m3 ≤ blocks_in m
  same_blocks e = subst (λ (x : Mem (Node K V)). blocks_in x ≤ blocks_in m) (sym e) (omega arith)

  at_root : (root a : ℕ) → root < c.roots → m3 ≡ m → (b : Bool) → Ends (value_at m) (if b then to (next_root c root) else Seeing (block_in a) (λ value. left_there c root a (was_left value))) end
      → Falls (6 * (c.roots - root))
  at_root root a lt e true k = went _ (next_root c root) settled.Goes k (same_blocks e) (next_lower c root _ lt (omega arith))
  at_root root a lt e false (value, is, k) = seen (was_left value) k
    where
      seen : (b : Bool) → Ends (value_at m) (left_there c root a b) end → Falls (6 * (c.roots - root))
      seen true q = went _ (standing c (at.Nexts root a)) settled.Goes q (same_blocks e) (lt, omega (arith, lt))
      seen false q = went _ (next_root c root) settled.Goes q (same_blocks e) (next_lower c root _ lt (omega arith))

  given : (root next : ℕ) (value : Node K V) → root < c.roots → (b : Bool) (shown : ℕ → Option (Node K V))
      → Ends shown (if b then Now (standing c (at.Empties root), settled.Gave value) else Now (standing c (at.Nexts root next), settled.Gave value)) end → IsOnRoots end.0.roots end.0.stands
  given root next value lt true shown e = subst (λ (p : ReclaimAll × Settled (Node K V)). IsOnRoots p.0.roots p.0.stands) (sym e) lt
  given root next value lt false shown e = subst (λ (p : ReclaimAll × Settled (Node K V)). IsOnRoots p.0.roots p.0.stands) (sym e) lt

  pub root_falls : (p : Reclaiming) → IsOnRoots c.roots p → Steps Took value_at m (plan_at deferred_word was_left c p) m3 end → (end.1 ≡ settled.Done → ⊥) → Falls (weight_at c p)
  root_falls (at.Roots root) lt st on = let d = loaded m (root_read was_left c root) (name.Root root) m3 end st in at_root root d.0 lt d.2 (d.0 == 0) d.3
  root_falls (at.Nexts root block) lt st on =
      let d = loaded m (next_read c root block) (name.Entry (block_in block) NEXT) m3 end st in
      went _ (standing c (at.Takes root block d.0)) settled.Goes d.3 (same_blocks d.2) (lt, omega (arith, lt))
  root_falls (at.Takes root block next) lt st on =
      let d = taken m (given_back c root next) (block_in block) m3 end st in (
        given root next d.0 lt (next == 0) (value_at (with_block m (block_in block) None)) d.3,
        inl (subst (λ (x : Mem (Node K V)). blocks_in x < blocks_in m) (sym d.2) (take_fewer m (block_in block) (some_of (value_at m (block_in block)) d.0 d.1))),
      )
  root_falls (at.Empties root) lt st on =
      let d = stored m (λ out. to (standing c (at.Unuses root))) (name.Root root) 0 m3 end st in
      went _ (standing c (at.Unuses root)) settled.Goes d.1 (subst (λ (x : Mem (Node K V)). blocks_in x ≤ blocks_in m) (sym d.0) (omega arith)) (lt, omega (arith, lt))
  root_falls (at.Unuses root) lt st on =
      let d = stored m (λ out. to (next_root c root)) (name.Used root) 0 m3 end st in
      went _ (next_root c root) settled.Goes d.1 (subst (λ (x : Mem (Node K V)). blocks_in x ≤ blocks_in m) (sym d.0) (omega arith)) (next_lower c root _ lt (omega (arith, lt)))
  root_falls at.Over lt st on = absurd (on (ap (λ (p : ReclaimAll × Settled (Node K V)). p.1) st.1))
  root_falls (at.Heads s) lt st on = absurd lt
  root_falls (at.Retakes s) lt st on = absurd lt
  root_falls (at.Leaves s l) lt st on = absurd lt
  root_falls (at.Batches s) lt st on = absurd lt
  root_falls (at.Flushes s l) lt st on = absurd lt
  root_falls (at.Frees s) lt st on = absurd lt
