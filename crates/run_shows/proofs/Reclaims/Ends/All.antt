-- From each point, reclaiming all comes to its end.
use Rattle.std.specs.Prelude.{Option}
use Rattle.std.proofs.Common.{◌≡◌, ℕ, ◌<◌, ◌^◌, Bool, List, refl, arith, sym, subst}
use Rattle.seize_words.specs.OneMemory.Mem.{Mem}
use Rattle.seize.specs.declared.rows.reclaim_all.ReclaimAll.{ReclaimAll}
use Rattle.seize.specs.declared.rows.reclaim_all.Reclaiming.{Reclaiming}
use Rattle.seize.specs.declared.rows.reclaim_all.Reclaiming.TheVariants as at
use Rattle.seize.specs.World.{World}
use Rattle.run_effects.specs.Given.TablesNodes.{deferred_word, was_left}
use Rattle.run_effects.specs.Given.TablesDeclared.node.Node.{Node}
use Rattle.many_maps.specs.Given.CallersTogether.{UnderWay}
use Rattle.many_maps.specs.Endings.{Finishing}
use Rattle.many_maps.specs.Makings.{Beginning}
use Rattle.many_maps.specs.Maps.{Standing}
use Rattle.run_shows.specs.Reclaims.Reclaims.{LeftBehind, ReclaimingAt, ReclaimingTogether}
use Rattle.run_shows.specs.Reclaims.Ends.{Terminates, Comes, ReclaimingEnds}
use Rattle.run_shows.proofs.Reclaims.Promised.{slots_stand}
use Rattle.run_shows.proofs.Reclaims.Ends.Falls.{IsOnRoots}
use Rattle.run_shows.proofs.Reclaims.Ends.Roots.{roots_end}
use Rattle.seize_acts.specs.Quiet.Slots.{StageAt}
use Rattle.seize_acts.specs.Quiet.Promises.{IsOnSlots}
use Rattle.seize_acts.proofs.Quiet.Ends.Frees.{Backward}
use Rattle.seize_acts.proofs.Quiet.Ends.All.{all_end}

module _ {K Q : Type 0} (V : Type 0) (same : K → K → Bool) (asks : Q → K → Bool) (batch_size roots : ℕ) (slot : ℕ → ℕ)
    (calls : ℕ → ℕ → Option (UnderWay K V Q)) (makers : ℕ → Option (Beginning K)) (enders : ℕ → Option (Finishing K V)) (i : ℕ) (word : batch_size < 2 ^ 64) where
  abbrev All : (ℕ → Option (Standing K)) → World (Node K V) → (ℕ → List ℕ) → ReclaimAll → Type 0
  All maps w lists c = ReclaimingTogether V same asks batch_size roots slot maps calls makers enders w i lists c

  -- it comes to its end, whichever maps there are
  abbrev IsSure : World (Node K V) → ReclaimAll → Type 0
  IsSure w c = (maps : ℕ → Option (Standing K)) (lists : ℕ → List ℕ) → All maps w lists c → Terminates w.memory c

  module _ (maps : ℕ → Option (Standing K)) (w : World (Node K V)) (lists : ℕ → List ℕ) (c : ReclaimAll) (rs : c.roots ≡ roots) where
    -- what is so on slots, and behind the roots meanwhile
    on_slots : (p : Reclaiming) → IsOnSlots p → ReclaimingAt batch_size roots i c w maps lists p
        → (c.batch_size ≡ batch_size) × LeftBehind roots w maps lists × StageAt deferred_word batch_size i c w p
    on_slots (at.Heads s) on h = h
    on_slots (at.Retakes s) on h = h
    on_slots (at.Leaves s l) on h = h
    on_slots (at.Batches s) on h = h
    on_slots (at.Flushes s l) on h = h
    on_slots (at.Frees s) on h = h
    on_slots (at.Roots root) on h = absurd on
    on_slots (at.Nexts root block) on h = absurd on
    on_slots (at.Takes root block next) on h = absurd on
    on_slots (at.Empties root) on h = absurd on
    on_slots (at.Unuses root) on h = absurd on
    on_slots at.Over on h = absurd on

    below : (root : ℕ) → root < roots → root < c.roots
    below root lt = omega (arith, lt, rs)

    on_roots : (p : Reclaiming) → (IsOnSlots p → ⊥) → ReclaimingAt batch_size roots i c w maps lists p → IsOnRoots c.roots p
    on_roots (at.Heads s) off h = absurd (off tt)
    on_roots (at.Retakes s) off h = absurd (off tt)
    on_roots (at.Leaves s l) off h = absurd (off tt)
    on_roots (at.Batches s) off h = absurd (off tt)
    on_roots (at.Flushes s l) off h = absurd (off tt)
    on_roots (at.Frees s) off h = absurd (off tt)
    on_roots (at.Roots root) off h = below root h.2
    on_roots (at.Nexts root block) off h = below root h.1.below
    on_roots (at.Takes root block next) off h = below root h.1.below
    on_roots (at.Empties root) off h = below root h.1.below
    on_roots (at.Unuses root) off h = below root h.1.below
    on_roots at.Over off h = tt

  sure_back : Backward deferred_word was_left batch_size roots i word IsSure
  sure_back = record {
    past = λ x off maps lists all.
        roots_end V same asks batch_size roots slot calls makers enders i word (record { maps = maps; w = x.w; lists = lists; c = x.c; all = all })
        (on_roots maps x.w lists x.c all.roots_are x.c.stands off all.point);
    step = λ x on next maps lists all. Comes x.w.memory x.c (λ m2 c2 told st going.
        let k = next m2 c2 told st in
        let h = on_slots maps x.w lists x.c all.roots_are x.c.stands on all.point in
        let two = slots_stand V same asks batch_size roots slot maps calls makers enders x.w i word lists all.stand h.1 x.c.stands m2 (c2, told) k.0 in
        subst (λ (m : Mem (Node K V)). Terminates m c2) k.0.memory (k.1 two.0 lists two.2));
  }

  ends_at : (maps : ℕ → Option (Standing K)) (w : World (Node K V)) (lists : ℕ → List ℕ) (c : ReclaimAll) → All maps w lists c → ((IsOnSlots c.stands → ⊥) → Terminates w.memory c)
      → (IsOnSlots c.stands → Terminates w.memory c) → (p : Reclaiming) → c.stands ≡ p → Terminates w.memory c
  ends_at maps w lists c all off on (at.Heads s) is = on (subst IsOnSlots (sym is) tt)
  ends_at maps w lists c all off on (at.Retakes s) is = on (subst IsOnSlots (sym is) tt)
  ends_at maps w lists c all off on (at.Leaves s l) is = on (subst IsOnSlots (sym is) tt)
  ends_at maps w lists c all off on (at.Batches s) is = on (subst IsOnSlots (sym is) tt)
  ends_at maps w lists c all off on (at.Flushes s l) is = on (subst IsOnSlots (sym is) tt)
  ends_at maps w lists c all off on (at.Frees s) is = on (subst IsOnSlots (sym is) tt)
  ends_at maps w lists c all off on (at.Roots root) is = off (λ k. subst IsOnSlots is k)
  ends_at maps w lists c all off on (at.Nexts root block) is = off (λ k. subst IsOnSlots is k)
  ends_at maps w lists c all off on (at.Takes root block next) is = off (λ k. subst IsOnSlots is k)
  ends_at maps w lists c all off on (at.Empties root) is = off (λ k. subst IsOnSlots is k)
  ends_at maps w lists c all off on (at.Unuses root) is = off (λ k. subst IsOnSlots is k)
  ends_at maps w lists c all off on at.Over is = off (λ k. subst IsOnSlots is k)

  all_ends : (maps : ℕ → Option (Standing K)) (w : World (Node K V)) (lists : ℕ → List ℕ) (c : ReclaimAll) → All maps w lists c → Terminates w.memory c
  all_ends maps w lists c all =
      ends_at maps w lists c all
      (λ off. roots_end V same asks batch_size roots slot calls makers enders i word (record { maps = maps; w = w; lists = lists; c = c; all = all })
      (on_roots maps w lists c all.roots_are c.stands off all.point))
      (λ on. let h = on_slots maps w lists c all.roots_are c.stands on all.point in
      all_end deferred_word was_left batch_size roots i word IsSure sure_back
      (record { w = w; c = c; came = all.stand.together.makings.standing.came; stage = record { size_is = h.0; roots_are = all.roots_are; here = h.2 } }) maps lists all)
      c.stands refl

pub reclaiming_ends : {K Q : Type 0} (V : Type 0) (same : K → K → Bool) (asks : Q → K → Bool) (batch_size roots : ℕ) (slot : ℕ → ℕ) (maps : ℕ → Option (Standing K))
    (calls : ℕ → ℕ → Option (UnderWay K V Q)) (makers : ℕ → Option (Beginning K)) (enders : ℕ → Option (Finishing K V)) (w : World (Node K V)) (i : ℕ)
    → ReclaimingEnds V same asks batch_size roots slot maps calls makers enders w i
reclaiming_ends V same asks batch_size roots slot maps calls makers enders w i lists c word all =
    all_ends V same asks batch_size roots slot calls makers enders i word maps w lists c all
