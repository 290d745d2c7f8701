-- A step that waits, and is none of a row, has written nothing, or a word as it was.
use Rattle.std.specs.Prelude.{◌+◌, ◌%◌, ◌^◌, ◌==◌, not, Some, bit_and, bit_or}
use Rattle.std.proofs.Common.{◌≡◌, ℕ, Bool, true, false, refl, ap, sym, ◌∙◌, arith}
use Rattle.std.proofs.lemmas.Bool.{eqb-false}
use Rattle.seize_words.specs.OneMemory.Word.{block_in}
use Rattle.seize_words.specs.OneMemory.Mem.{Mem, Took, value_at, with_word}
use Rattle.seize_words.specs.OneMemory.Plan.{Steps}
use Rattle.seize_words.proofs.OneMemory.OneOwner.Operations.{loaded, ored}
use Rattle.map_measures.proofs.Given.SeizeRuleRows.Leaving.{steps_back}
use Rattle.map_tables.specs.Marks.{has_mark}
use Rattle.map_tables.specs.TablePlaces.{at_word, at_place}
use Rattle.map_tables.specs.Trials.{place_tried}
use Rattle.map_tables.specs.declared.marks.TheConstants.{COPYING}
use Rattle.map_tables.specs.declared.node.Node.{Node}
use Rattle.map_tables.specs.declared.table.Table.{Table}
use Rattle.map_tables.specs.declared.table_words.TheConstants.{STATUS, PLACES}
use Rattle.map_measures.specs.Given.ResizeCopier as copier
use Rattle.map_measures.specs.Given.ResizeCopierClaims.{status_read}
use Rattle.map_measures.specs.Given.ResizeCopierMarks.{marked}
use Rattle.map_measures.specs.Given.ResizeDeclared.copier.Copier.{Copier}
use Rattle.map_measures.specs.Given.ResizeDeclared.copier.Copying.{Copying}
use Rattle.map_measures.specs.Given.ResizeDeclared.copier.Copying.TheVariants as copies
use Rattle.map_measures.specs.Given.ResizeDeclared.yielding.Yielding.{Yielding}
use Rattle.map_measures.specs.Given.ResizeDeclared.yielding.Yielding.TheVariants as outcome
use Rattle.papaya_raw.specs.Call as call
use Rattle.papaya_raw.specs.declared.machines.answer.Called.TheVariants as called
use Rattle.papaya_raw.specs.declared.machines.call.KeyCall.{KeyCall}
use Rattle.papaya_raw.specs.declared.machines.call.Calling.{Calling}
use Rattle.papaya_raw.specs.declared.machines.call.Calling.TheVariants as at
use Rattle.papaya_raw.specs.Given.ReservesReserve as reserve
use Rattle.papaya_raw.specs.Given.ReservesDeclared.reserve.Reserve.{Reserve}
use Rattle.papaya_raw.specs.Given.ReservesDeclared.reserve.Reserving.{Reserving}
use Rattle.papaya_raw.specs.Given.ReservesDeclared.reserve.Reserving.TheVariants as reserves
use Rattle.papaya_raw.specs.Given.SweepsSweep as sweep
use Rattle.papaya_raw.specs.Given.ReservesDeclared.sweep.Sweep.{Sweep}
use Rattle.papaya_raw.specs.Given.ReservesDeclared.sweep.Sweeping.{Sweeping}
use Rattle.papaya_raw.specs.Given.ReservesDeclared.sweep.Sweeping.TheVariants as sweeps
use Rattle.papaya_raw.specs.Given.ReservesDeclared.sweep.Swept.TheVariants as swept
use Rattle.map_measures.proofs.Given.RuleWords.PlaceWordsMarks.{and_copying}
use Rattle.map_measures.proofs.Given.RuleWords.PlaceWordsWritten.{or_copying}
use Rattle.map_measures.proofs.Given.RuleWords.WrittenAgain.{written_again}
use Rattle.owner_facts.specs.Given.PointsTold.{IsRowOfCall}
use Rattle.owner_facts.specs.Given.LateToldReserves.{IsRowOfReserve}
use Rattle.owner_facts.specs.Given.LateToldSweeps.{IsRowOfSweep}
use Rattle.map_measures.proofs.Waits.Calls.{CallSees, call_waits}
use Rattle.map_measures.proofs.Waits.Copiers.{Sees}
use Rattle.map_measures.proofs.Waits.Copyings.{RoomSees, room_waits, SweepSees, sweep_waits}

-- a word that has the mark is as it was once that is set
marked_word : (word : ℕ) → has_mark word COPYING ≡ true → bit_or word COPYING ≡ word
marked_word word mark = by (bit_and word COPYING == 0) refl mark
  where
    by : (b : Bool) → (bit_and word COPYING == 0) ≡ b → not b ≡ true → bit_or word COPYING ≡ word
    by true e set = absurd (cc set)
    by false e set = let odd = eqb-false (bit_and word COPYING) 0 e in omega (arith, or_copying word, and_copying word, odd)

same_word : (a b : ℕ) → Some a ≡ Some b → b ≡ a
same_word a b e = cc e

module _ {K V : Type 0} (m m2 : Mem (Node K V)) (hash : K → ℕ) where
  -- a copier: it has read a status, or has set a mark that was set
  pub copier_unwritten : (p : Copier) → Sees p m p.stands → (e : Copier × Yielding (Node K V) Table) → Steps Took value_at m (copier.copier_plan hash p) m2 e → m2 ≡ m
  copier_unwritten p sees e st = by p.stands sees st
    where
      by : (x : Copying) → Sees p m x → Steps Took value_at m (copier.plan_at hash p x) m2 e → m2 ≡ m
      by copies.Asks (spent, seen) s = (loaded m (status_read p) (at_word p.target STATUS) m2 e s).2
      by copies.Marks (whole, seen) s =
          let d = ored m (marked hash p) (at_place p.source p.place) COPYING m2 e s in
          let is : seen.0 ≡ d.0 = same_word d.0 seen.0 (sym d.1 ∙ seen.1) in
          d.2 ∙ ap (with_word m (at_place p.source p.place)) (marked_word d.0 (ap (λ (word : ℕ). has_mark word COPYING) (sym is) ∙ seen.4))
          ∙ written_again m (block_in p.source.link) ((p.place + PLACES) % 2 ^ 64) d.0 d.1
      by _ seen s = absurd seen

  pub key_unwritten : {Q : Type 0} (same : K → K → Bool) (asks : Q → K → Bool) (p : KeyCall K V Q) → (IsRowOfCall p.stands → ⊥) → (q : KeyCall K V Q)
      → Steps Took value_at m (call.call_plan asks same hash p) m2 (q, called.Waits) → m2 ≡ m
  key_unwritten same asks p none q st = by p.stands (call_waits p m same hash asks m2 q none st).1 st
    where
      by : (x : Calling) → CallSees p m x → Steps Took value_at m (call.plan_at asks same hash p x) m2 (q, called.Waits) → m2 ≡ m
      by at.Probes sees s = (loaded m (call.word_found asks same p) (place_tried p.trial) m2 (q, called.Waits) s).2
      by (at.Helps copy goal) sees s = let b = steps_back (call.helped p goal) m m2 (copier.copier_plan hash copy) (q, called.Waits) s in copier_unwritten copy sees b.0 b.1
      by (at.Copies copy) sees s = let b = steps_back (call.copied p) m m2 (copier.copier_plan hash copy) (q, called.Waits) s in copier_unwritten copy sees b.0 b.1
      by _ sees s = absurd sees

  pub room_unwritten : (p : Reserve) → (IsRowOfReserve p.stands → ⊥) → (q : Reserve) → Steps Took value_at m (reserve.reserve_plan hash p) m2 (q, outcome.Waits) → m2 ≡ m
  room_unwritten p none q st = by p.stands (room_waits K V p hash m m2 q none st).1 st
    where
      by : (x : Reserving) → RoomSees m x → Steps Took value_at m (reserve.plan_at hash p x) m2 (q, outcome.Waits) → m2 ≡ m
      by (reserves.Copies copy) sees s = let b = steps_back (reserve.copied p) m m2 (copier.copier_plan hash copy) (q, outcome.Waits) s in copier_unwritten copy sees b.0 b.1
      by _ sees s = absurd sees

  pub sweep_unwritten : (p : Sweep) → (IsRowOfSweep p.stands → ⊥) → (q : Sweep) → Steps Took value_at m (sweep.sweep_plan hash p) m2 (q, swept.Waits) → m2 ≡ m
  sweep_unwritten p none q st = by p.stands (sweep_waits K V p hash m m2 q none st).1 st
    where
      by : (x : Sweeping) → SweepSees m x → Steps Took value_at m (sweep.plan_at hash p x) m2 (q, swept.Waits) → m2 ≡ m
      by (sweeps.Copies copy) sees s = let b = steps_back (sweep.copied p) m m2 (copier.copier_plan hash copy) (q, swept.Waits) s in copier_unwritten copy sees b.0 b.1
      by _ sees s = absurd sees
