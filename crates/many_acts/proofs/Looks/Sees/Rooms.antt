-- A reservation, a walk, a clearing or a retaining that stands at no row has seen what its section holds.
use Rattle.std.specs.Prelude.{◌/◌, ◌^◌, ◌<◌, Some, cond}
use Rattle.std.proofs.Common.{◌≡◌, ℕ, suc, Bool, true, false, inl, inr, sym, ap, ◌∙◌}
use Rattle.run_shows.specs.Given.SeizeWordsDeclared.at.At.TheVariants.{Root, Word}
use Rattle.run_shows.specs.Given.SeizeWordsMem.{Mem, value_at, word_at}
use Rattle.run_shows.specs.Given.SeizeWorld.{World}
use Rattle.run_shows.specs.Given.TablesChunks.{is_incremental}
use Rattle.run_shows.specs.Given.TablesNodes.{table_seen}
use Rattle.run_shows.specs.Given.TablesTablePlaces.{at_word, at_place}
use Rattle.run_shows.specs.Given.TablesDeclared.marks.TheConstants.{TOMBSTONE}
use Rattle.run_shows.specs.Given.TablesDeclared.node.Node.{Node}
use Rattle.run_shows.specs.Given.TablesDeclared.setting.Setting.{Setting}
use Rattle.run_shows.specs.Given.TablesDeclared.table.Table.{Table}
use Rattle.run_shows.specs.Given.TablesDeclared.table_words.TheConstants.{NEXT}
use Rattle.run_shows.specs.Given.ResizeCopier.{copier_plan}
use Rattle.run_shows.specs.Given.ResizeDispose.{dispose_plan}
use Rattle.run_shows.specs.Given.ResizeCopierStates.{copying_all}
use Rattle.run_shows.specs.Given.ResizeNewTable.{new_table_plan}
use Rattle.run_shows.specs.Given.ResizeSum.{sum_plan}
use Rattle.run_shows.specs.Given.ResizeDeclared.copier.Copier.{Copier}
use Rattle.run_shows.specs.Given.ResizeDeclared.yielding.Yielding.{Yielding}
use Rattle.run_shows.specs.Given.ResizeDeclared.yielding.Yielding.TheVariants.{Goes}
use Rattle.run_shows.specs.Given.ReservesReserve as reserve
use Rattle.run_shows.specs.Given.ReservesReserve.{reserve_plan}
use Rattle.run_shows.specs.Given.ReservesDeclared.reserve.Reserve.{Reserve}
use Rattle.run_shows.specs.Given.ReservesDeclared.reserve.Reserving.{Reserving}
use Rattle.run_shows.specs.Given.ReservesDeclared.reserve.Reserving.TheVariants as reserving
use Rattle.run_shows.specs.Given.SweepsSweep as sweep
use Rattle.run_shows.specs.Given.SweepsSweep.{sweep_plan}
use Rattle.run_shows.specs.Given.SweepsSweepPoints as sweep_points
use Rattle.run_shows.specs.Given.ReservesDeclared.sweep.Sweep.{Sweep}
use Rattle.run_shows.specs.Given.ReservesDeclared.sweep.Sweeping.{Sweeping}
use Rattle.run_shows.specs.Given.ReservesDeclared.sweep.Sweeping.TheVariants as sweeping
use Rattle.run_shows.specs.Given.ReservesDeclared.sweep.Swept.{Swept}
use Rattle.run_shows.specs.Given.RuleChart.{Chart}
use Rattle.run_shows.specs.Given.RuleWords.{Blocks}
use Rattle.run_shows.specs.Given.RuleInWorld.{IsMapIn}
use Rattle.owner_facts.specs.Given.PointsFactsCopies.{CopierFacts}
use Rattle.owner_facts.specs.Given.PointsFactsCopiesBlocking.{CopierFactsBlocking}
use Rattle.owner_facts.specs.Given.PointsTold.{IsRowOfCopier}
use Rattle.owner_facts.specs.Given.LateFactsReserves.{IsEnding, CopiesWhole, ReservingFacts, ReserveFacts}
use Rattle.owner_facts.specs.Given.LateFactsSweeps.{CopiesTable, SweepingFacts, SweepFacts}
use Rattle.owner_facts.specs.Given.LateLateCopies.{SupersededCopierFacts}
use Rattle.owner_facts.specs.Given.LateLateReserves.{SupersededReserving, SupersededReserveFacts}
use Rattle.owner_facts.specs.Given.LateToldReserves.{IsRowOfReserve}
use Rattle.owner_facts.specs.Given.LateToldSweeps.{IsRowOfSweep}
use Rattle.many_acts.specs.Looks.Sees.{HasSeen}
use Rattle.many_acts.proofs.Looks.Sees.Copiers.{root_link, next_link, copier_sees, copier_sees_at_once, left_copier_sees}
use Rattle.many_acts.proofs.Looks.Sees.Disposals.{dispose_sees}
use Rattle.many_acts.proofs.Looks.Sees.Held.{AllSeen, sees_link}
use Rattle.many_acts.proofs.Looks.Sees.Operations.{loads, exchanges}
use Rattle.many_acts.proofs.Looks.Sees.Plans.{seen_as}
use Rattle.many_acts.proofs.Looks.Sees.Tables.{new_table_sees, sum_sees_none, left_first_sees}

module _ {K V : Type 0} (same : K → K → Bool) (hash : K → ℕ) (fits : (k : K) → hash k < 2 ^ 64) (w : World (Node K V)) (slot caller : ℕ) (c : Chart K) (seen : Blocks)
    (setting : Setting) (Held : ℕ → Type 0) (within : AllSeen Held c seen) (map : IsMapIn same hash setting w c seen)
    (b : ℕ) (n : Mem (Node K V)) where
  abbrev IsHeld : Type 0
  IsHeld = Held b

  -- the copier of a whole table
  whole_sees : (p : Copier) → CopiesWhole same hash w caller setting c seen p → (IsRowOfCopier p.stands → ⊥) → (end : Yielding (Node K V) Table) (to : Copier)
      → HasSeen b w.memory (copier_plan hash p) n (to, end) → IsHeld
  whole_sees p facts none end to saw = by (is_incremental setting.mode) facts
    where
      by : (incremental : Bool) → cond incremental ((p.whole ≡ true) × CopierFacts same hash w caller setting c seen p × IsEnding same hash w caller setting c seen p p.stands)
          (CopierFactsBlocking same hash w caller setting c seen p) → IsHeld
      by true whole = copier_sees same hash fits w slot caller c seen setting Held within map p whole.1 none b n (to, end) saw
      by false at_once = copier_sees_at_once same hash fits w slot caller c seen setting Held within map p at_once none b n (to, end) saw

  -- and that of a table that the root has left
  left_sees : (began : ℕ) (p : Copier) → SupersededCopierFacts same hash w caller setting c seen began p → (IsRowOfCopier p.stands → ⊥) → (end : Yielding (Node K V) Table) (to : Copier)
      → HasSeen b w.memory (copier_plan hash p) n (to, end) → IsHeld
  left_sees began p facts none end to saw = left_copier_sees same hash fits w slot caller c seen setting Held within map began p facts none b n (to, end) saw

  module _ (p : Reserve) (facts : ReserveFacts same hash w caller setting c seen p) (end : Reserve × Yielding (Node K V) Unit) where
    root_at : (root : ℕ) → word_at w.memory (Root p.setting.root) ≡ Some root → word_at w.memory (Root setting.root) ≡ Some root
    root_at root read = ap (λ (x : Setting). word_at w.memory (Root x.root)) (sym facts.setting_is) ∙ read

    reserve_at : (stands : Reserving) → ReservingFacts same hash w caller setting c seen stands → (IsRowOfReserve stands → ⊥) → HasSeen b w.memory (reserve.plan_at hash p stands) n end → IsHeld
    reserve_at reserving.Reads point none saw =
        let l = loads b w.memory n (Root p.setting.root) end (reserve.root_read p) saw in
        sees_link w slot c seen Held within (value_at n) l.0 c.first (root_link same hash fits w slot caller c seen setting Held within map l.0 (root_at l.0 l.1)) _
        (λ value. (reserve.counting p (table_seen l.0 value), Goes)) b l.3.1
    reserve_at (reserving.Makes making) point none saw =
        let s = seen_as (reserve.made p) b w.memory (new_table_plan making) n end saw in
        new_table_sees w slot caller c seen setting Held within (Root setting.root) 0 making b n s.0 point s.2
    reserve_at (reserving.Sums table sum) point none saw =
        let s = seen_as (reserve.summed p table) b w.memory (sum_plan sum) n end saw in absurd (sum_sees_none b w.memory n sum s.0 s.2)
    reserve_at (reserving.Follows table need) ((t, entered, root), fit) none saw =
        let l = loads b w.memory n (Word (table.link / 2048) NEXT) end (reserve.next_read p table need) saw in
        sees_link w slot c seen Held within (value_at n) l.0 (suc t)
        (next_link same hash fits w slot caller c seen setting Held within map table t entered l.0 l.1) _
        (λ value. (reserve.copying p table (table_seen l.0 value), Goes)) b l.3.1
    reserve_at (reserving.Grows table making) (t, entered, root, making_facts) none saw =
        let s = seen_as (reserve.grown p table) b w.memory (new_table_plan making) n end saw in
        new_table_sees w slot caller c seen setting Held within (Word (seen.table t) NEXT) (suc t) making b n s.0 making_facts s.2
    reserve_at (reserving.Copies copier) point none saw =
        let s = seen_as (reserve.copied p) b w.memory (copier_plan hash copier) n end saw in whole_sees copier point none s.0.1 s.0.0 s.2
    reserve_at reserving.Over point none saw = absurd saw.2
    reserve_at (reserving.Refused fault) point none saw = absurd saw.2

    pub reserve_sees : (IsRowOfReserve p.stands → ⊥) → HasSeen b w.memory (reserve_plan hash p) n end → IsHeld
    reserve_sees none saw = reserve_at p.stands facts.point none saw

  -- a reservation in a table that the root has left
  module _ (began : ℕ) (p : Reserve) (facts : SupersededReserveFacts same hash w caller setting c seen began p) (end : Reserve × Yielding (Node K V) Unit) where
    left_at : (stands : Reserving) → SupersededReserving same hash w caller setting c seen began stands → (IsRowOfReserve stands → ⊥) → HasSeen b w.memory (reserve.plan_at hash p stands) n end → IsHeld
    left_at (reserving.Makes making) point none saw =
        let s = seen_as (reserve.made p) b w.memory (new_table_plan making) n end saw in left_first_sees w slot caller c seen setting Held within began making b n s.0 point s.2
    left_at (reserving.Sums table sum) point none saw =
        let s = seen_as (reserve.summed p table) b w.memory (sum_plan sum) n end saw in absurd (sum_sees_none b w.memory n sum s.0 s.2)
    left_at (reserving.Follows table need) (t, entered, left) none saw =
        let l = loads b w.memory n (Word (table.link / 2048) NEXT) end (reserve.next_read p table need) saw in
        sees_link w slot c seen Held within (value_at n) l.0 (suc t)
        (next_link same hash fits w slot caller c seen setting Held within map table t entered l.0 l.1) _
        (λ value. (reserve.copying p table (table_seen l.0 value), Goes)) b l.3.1
    left_at (reserving.Grows table making) (t, entered, left, making_facts) none saw =
        let s = seen_as (reserve.grown p table) b w.memory (new_table_plan making) n end saw in
        new_table_sees w slot caller c seen setting Held within (Word (seen.table t) NEXT) (suc t) making b n s.0 making_facts s.2
    left_at (reserving.Copies copier) point none saw =
        let s = seen_as (reserve.copied p) b w.memory (copier_plan hash copier) n end saw in left_sees began copier point none s.0.1 s.0.0 s.2
    left_at _ point none saw = absurd point

    pub left_reserve_sees : (IsRowOfReserve p.stands → ⊥) → HasSeen b w.memory (reserve_plan hash p) n end → IsHeld
    left_reserve_sees none saw = left_at p.stands facts.point none saw

  module _ (began : ℕ) (p : Sweep) (facts : SweepFacts same hash w caller setting c seen began p) (end : Sweep × Swept (Node K V)) where
    sweep_root : (root : ℕ) → word_at w.memory (Root p.setting.root) ≡ Some root → word_at w.memory (Root setting.root) ≡ Some root
    sweep_root root read = ap (λ (x : Setting). word_at w.memory (Root x.root)) (sym facts.setting_is) ∙ read

    table_sees : (p2 : Copier) → CopiesTable same hash w caller setting c seen began p2 → (IsRowOfCopier p2.stands → ⊥) → (to : Yielding (Node K V) Table) (next : Copier)
        → HasSeen b w.memory (copier_plan hash p2) n (next, to) → IsHeld
    table_sees p2 (inl whole) none to next saw = whole_sees p2 whole none to next saw
    table_sees p2 (inr (blocking, late)) none to next saw = left_sees began p2 late none to next saw

    sweep_at : (stands : Sweeping) → SweepingFacts same hash w caller setting c seen began p stands → (IsRowOfSweep stands → ⊥) → HasSeen b w.memory (sweep.plan_at hash p stands) n end → IsHeld
    sweep_at sweeping.Reads point none saw =
        let l = loads b w.memory n (Root p.setting.root) end (sweep.root_read p) saw in
        sees_link w slot c seen Held within (value_at n) l.0 c.first (root_link same hash fits w slot caller c seen setting Held within map l.0 (sweep_root l.0 l.1)) _
        (λ value. sweep_points.telling (sweep_points.entering p (table_seen l.0 value))) b l.3.1
    sweep_at sweeping.Follows (t, entered, root) none saw =
        let l = loads b w.memory n (at_word p.table NEXT) end (sweep.next_read p) saw in
        sees_link w slot c seen Held within (value_at n) l.0 (suc t)
        (next_link same hash fits w slot caller c seen setting Held within map p.table t entered l.0 l.1) _
        (λ value. sweep_points.going p (sweeping.Copies (copying_all p.setting p.table (table_seen l.0 value)))) b l.3.1
    sweep_at (sweeping.Copies copier) point none saw =
        let s = seen_as (sweep.copied p) b w.memory (copier_plan hash copier) n end saw in table_sees copier point none s.0.1 s.0.0 s.2
    sweep_at sweeping.Words point none saw =
        let l = loads b w.memory n (at_place p.table p.place) end (sweep.word_found p) saw in absurd l.3.1
    sweep_at (sweeping.Tries word) point none saw = elim (exchanges b w.memory n (at_place p.table p.place) end (sweep.tried p word) word TOMBSTONE saw) as (λ _. IsHeld) [
      | inl made ↦ absurd made.1.1
      | inr found ↦ absurd found.3.1
    ]
    sweep_at (sweeping.Counts removed) point none saw = absurd saw.3
    sweep_at (sweeping.Disposes dispose) (removes, t, at_place, dispose_facts) none saw =
        let s = seen_as (sweep.disposed p) b w.memory (dispose_plan dispose) n end saw in
        dispose_sees same hash fits w slot caller c seen setting Held within map dispose dispose_facts b n s.0 none s.2
    sweep_at sweeping.Ready point none saw = absurd saw.2
    sweep_at (sweeping.Asks word) point none saw = absurd saw.2
    sweep_at sweeping.Over point none saw = absurd saw.2
    sweep_at (sweeping.Refused fault) point none saw = absurd saw.2

    pub sweep_sees : (IsRowOfSweep p.stands → ⊥) → HasSeen b w.memory (sweep_plan hash p) n end → IsHeld
    sweep_sees none saw = sweep_at p.stands facts.point none saw
