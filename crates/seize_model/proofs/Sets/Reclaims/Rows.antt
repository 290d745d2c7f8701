-- The rows that run within reclaiming all: from any of their points on they take the steps of the row in the world, and then it goes on.
use Rattle.std.specs.Prelude.{Option}
use Rattle.std.proofs.Common.{◌≡◌, ℕ, zero, suc, ◌<◌, Bool, true, refl, arith, subst, sym}
use Rattle.seize.specs.Given.SeizeWordsMem.{Mem, Took, value_at}
use Rattle.seize.specs.Given.SeizeWordsPlan.{Steps}
use Rattle.seize.specs.declared.rows.settle.Settle.{Settle}
use Rattle.seize.specs.declared.rows.settle.Settled.{Settled}
use Rattle.seize.specs.declared.rows.settle.Settled.TheVariants.{Goes, Waits, Gave, Done}
use Rattle.seize.specs.declared.rows.leave.Leave.{Leave}
use Rattle.seize.specs.declared.rows.reclaim_all.ReclaimAll.{ReclaimAll}
use Rattle.seize.specs.declared.rows.reclaim_all.Reclaiming.TheVariants as at
use Rattle.seize.specs.Settle.{settle_plan}
use Rattle.seize.specs.Leave.{leave_plan}
use Rattle.seize.specs.ReclaimAll.{standing, next_head, next_batch, within}
use Rattle.seize.specs.World.{World, Row, Rests, Settles, Leaves, Steps', leaves_on, settles_on}
use Rattle.seize.specs.Sequence.{RunsOn}
use Rattle.seize_model.specs.Sets.Reclaims.{RunsOnSlots}
use Rattle.seize_rule.proofs.Rows.Leaving.{steps_back}
use Rattle.seize_rule.proofs.Rows.Others.{with_here}

module _ {T : Type 0} (defers : T → Option ℕ) (left_over : T → Bool) (i : ℕ) (last_memory : Mem T) where
  -- the row runs to its end, and fewer steps are left, in which the machine goes on
  abbrev pub Within : ReclaimAll → ℕ → World T → Type 0
  Within c steps v = (rest : ℕ) × (k : ℕ) × (u : World T) × (rest < steps) × RunsOn defers k i v u × RunsOnSlots defers left_over rest c u.memory last_memory

  more : (c : ReclaimAll) (steps : ℕ) (v v2 : World T) → Steps' defers i (v.row i) v v2 → Within c steps v2 → Within c (suc steps) v
  more c steps v v2 st h = (h.0, suc h.1, h.2, (let l = h.3 in omega (arith, l)), (v2, st, h.4), h.5)

  ends : (c : ReclaimAll) (steps : ℕ) (v v2 : World T) → Steps' defers i (v.row i) v v2 → v2.row i ≡ Rests → RunsOnSlots defers left_over steps c v2.memory last_memory → Within c (suc steps) v
  ends c steps v v2 st rests h = (steps, 1, v2, omega arith, (v2, st, (rests, refl)), h)

  -- leaving

  module _ (c : ReclaimAll) (s : ℕ) where
    abbrev leaving_at : Leave → ReclaimAll
    leaving_at l = standing c (at.Leaves s l)

    leave_step : (v : World T) (l : Leave) (m2 : Mem T) (e : Leave × Settled T) → v.row i ≡ Leaves l → Steps Took value_at v.memory (leave_plan defers l) m2 e
        → Steps' defers i (v.row i) v (leaves_on v i l m2 e)
    leave_step v l m2 e is st = subst (λ (row : Row). Steps' defers i row v (leaves_on v i l m2 e)) (sym is) (m2, e, st, refl)

    moved : (steps : ℕ) (m2 : Mem T) (end want : ReclaimAll × Settled T) → end ≡ want → RunsOnSlots defers left_over steps end.0 m2 last_memory
        → RunsOnSlots defers left_over steps want.0 m2 last_memory
    moved steps m2 end want e h = subst (λ (q : ReclaimAll × Settled T). RunsOnSlots defers left_over steps q.0 m2 last_memory) e h

    leaves_once : (steps : ℕ) (v : World T) (l : Leave) → v.row i ≡ Leaves l
        → ((l2 : Leave) (v2 : World T) → v2.row i ≡ Leaves l2 → RunsOnSlots defers left_over steps (leaving_at l2) v2.memory last_memory → Within (next_head c s) steps v2)
        → (m2 : Mem T) (end : ReclaimAll × Settled T) (e : Leave × Settled T) → Steps Took value_at v.memory (leave_plan defers l) m2 e
        → end ≡ within leaving_at (next_head c s) e → RunsOnSlots defers left_over steps end.0 m2 last_memory → Within (next_head c s) (suc steps) v
    leaves_once steps v l is rest m2 end (l2, Goes) st q h =
        more (next_head c s) steps v (leaves_on v i l m2 (l2, Goes)) (leave_step v l m2 (l2, Goes) is st)
        (rest l2 (leaves_on v i l m2 (l2, Goes)) (with_here v.row i (Leaves l2)) (moved steps m2 end (leaving_at l2, Goes) q h))
    leaves_once steps v l is rest m2 end (l2, Waits) st q h =
        more (next_head c s) steps v (leaves_on v i l m2 (l2, Waits)) (leave_step v l m2 (l2, Waits) is st)
        (rest l2 (leaves_on v i l m2 (l2, Waits)) (with_here v.row i (Leaves l2)) (moved steps m2 end (leaving_at l2, Waits) q h))
    leaves_once steps v l is rest m2 end (l2, Gave value) st q h =
        more (next_head c s) steps v (leaves_on v i l m2 (l2, Gave value)) (leave_step v l m2 (l2, Gave value) is st)
        (rest l2 (leaves_on v i l m2 (l2, Gave value)) (with_here v.row i (Leaves l2)) (moved steps m2 end (leaving_at l2, Gave value) q h))
    leaves_once steps v l is rest m2 end (l2, Done) st q h =
        ends (next_head c s) steps v (leaves_on v i l m2 (l2, Done)) (leave_step v l m2 (l2, Done) is st) (with_here v.row i Rests) (moved steps m2 end (next_head c s, Goes) q h)

    pub leaves_within : (steps : ℕ) (v : World T) (l : Leave) → v.row i ≡ Leaves l → RunsOnSlots defers left_over steps (leaving_at l) v.memory last_memory
        → Within (next_head c s) steps v
    leaves_within zero v l is h = absurd (let e = h.0 in cc e)
    leaves_within (suc steps) v l is h =
        let back = steps_back (within leaving_at (next_head c s)) v.memory h.1 (leave_plan defers l) h.2 h.3 in
        leaves_once steps v l is (λ l2 v2 is2 h2. leaves_within steps v2 l2 is2 h2) h.1 h.2 back.0 back.1 back.2 h.4

  -- flushing

  module _ (c : ReclaimAll) (s : ℕ) where
    abbrev flushing_at : Settle → ReclaimAll
    flushing_at d = standing c (at.Flushes s d)

    abbrev behind : ReclaimAll
    behind = next_batch (record c { again = true }) s

    settle_step : (v : World T) (d : Settle) (m2 : Mem T) (e : Settle × Settled T) → v.row i ≡ Settles d → Steps Took value_at v.memory (settle_plan defers d) m2 e
        → Steps' defers i (v.row i) v (settles_on v i d m2 e)
    settle_step v d m2 e is st = subst (λ (row : Row). Steps' defers i row v (settles_on v i d m2 e)) (sym is) (m2, e, st, refl)

    flushes_once : (steps : ℕ) (v : World T) (d : Settle) → v.row i ≡ Settles d
        → ((d2 : Settle) (v2 : World T) → v2.row i ≡ Settles d2 → RunsOnSlots defers left_over steps (flushing_at d2) v2.memory last_memory → Within behind steps v2)
        → (m2 : Mem T) (end : ReclaimAll × Settled T) (e : Settle × Settled T) → Steps Took value_at v.memory (settle_plan defers d) m2 e
        → end ≡ within flushing_at behind e → RunsOnSlots defers left_over steps end.0 m2 last_memory → Within behind (suc steps) v
    flushes_once steps v d is rest m2 end (d2, Goes) st q h =
        more behind steps v (settles_on v i d m2 (d2, Goes)) (settle_step v d m2 (d2, Goes) is st)
        (rest d2 (settles_on v i d m2 (d2, Goes)) (with_here v.row i (Settles d2)) (moved c s steps m2 end (flushing_at d2, Goes) q h))
    flushes_once steps v d is rest m2 end (d2, Waits) st q h =
        more behind steps v (settles_on v i d m2 (d2, Waits)) (settle_step v d m2 (d2, Waits) is st)
        (rest d2 (settles_on v i d m2 (d2, Waits)) (with_here v.row i (Settles d2)) (moved c s steps m2 end (flushing_at d2, Waits) q h))
    flushes_once steps v d is rest m2 end (d2, Gave value) st q h =
        more behind steps v (settles_on v i d m2 (d2, Gave value)) (settle_step v d m2 (d2, Gave value) is st)
        (rest d2 (settles_on v i d m2 (d2, Gave value)) (with_here v.row i (Settles d2)) (moved c s steps m2 end (flushing_at d2, Gave value) q h))
    flushes_once steps v d is rest m2 end (d2, Done) st q h =
        ends behind steps v (settles_on v i d m2 (d2, Done)) (settle_step v d m2 (d2, Done) is st) (with_here v.row i Rests) (moved c s steps m2 end (behind, Goes) q h)

    pub flushes_within : (steps : ℕ) (v : World T) (d : Settle) → v.row i ≡ Settles d → RunsOnSlots defers left_over steps (flushing_at d) v.memory last_memory
        → Within behind steps v
    flushes_within zero v d is h = absurd (let e = h.0 in cc e)
    flushes_within (suc steps) v d is h =
        let back = steps_back (within flushing_at behind) v.memory h.1 (settle_plan defers d) h.2 h.3 in
        flushes_once steps v d is (λ d2 v2 is2 h2. flushes_within steps v2 d2 is2 h2) h.1 h.2 back.0 back.1 back.2 h.4
