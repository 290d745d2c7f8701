-- Who has the batch of a slot in hand, wherever the executor is: its row works on that slot, and the slot's word says that the batch is held.
use Rattle.std.specs.Prelude.{◌≡◌, ◌<◌, ◌+◌, ◌⊎◌, ℕ, Bool, true, IsSome}
use Rattle.std.proofs.Common.{refl, sym, ap, subst, ◌∙◌, arith}
use Rattle.seize.specs.Settle.{flushing}
use Rattle.seize.specs.World.{World, Row, Rests, Registers, Enters, Settles, Leaves, Defers, Frees, Begin, Flush, at_start, one_more, with_row, with_use}
use Rattle.seize.specs.declared.states.TheConstants.{BATCH, HELD, LAST_SLOT}
use Rattle.run_schedules.specs.Given.SeizeWordsMem.{Mem, word_at}
use Rattle.run_schedules.specs.Given.SeizeWordsDeclared.at.At.TheVariants.{Slot}
use Rattle.run_effects.proofs.Given.SeizeRuleRows.Others.{with_here}
use Rattle.run_effects.proofs.Given.SeizeMemoryWords.Named.{words_of}
use Rattle.run_shows.proofs.Given.SeizeRuleWorld.Good.{Good}
use Rattle.run_shows.proofs.Given.SeizeRuleWorld.Kept.{happens_good, row_may}
use Rattle.run_shows.proofs.Given.SeizeRuleWorld.Start.{start_good}
use Rattle.run_shows.specs.Given.SeizeEndsHolders.{has_batch}
use Rattle.run_shows.proofs.Given.SeizeEndsBatches.Rows.{HeldByRows, runs_held, start_held}
use Rattle.run_shows.specs.Given.SeizeActsWaits.{SettlesOn}
use Rattle.run_shows.proofs.Given.SeizeActsWaits.{has_its, held_while}
use Rattle.papaya_raw.specs.Given.TablesNodes.{deferred_word}
use Rattle.papaya_raw.specs.Given.TablesDeclared.node.Node.{Node}
use Rattle.run_shows.specs.Given.CallersRows.{IsRowOn}
use Rattle.run_shows.specs.Given.CallersTogether.{CameAbout}
use Rattle.run_executor.specs.declared.executor.Executor.{Executor}
use Rattle.run_shows.specs.declared.row.SlotUse.TheVariants as used
use Rattle.run_shows.specs.declared.callers.TheConstants.{SLOTS}
use Rattle.run_logged.proofs.Rows.Facts.{row_rests}
use Rattle.run_executor.proofs.Executing.Fresh.{caller_in, resting}
use Rattle.run_executor.proofs.Executing.Uses.{reached, taken_now}
use Rattle.run_executor.specs.Executing.IsThere.{IsThere, use_at}
use Rattle.run_executor.specs.Executing.OnSlots.{NobodyIn}
use Rattle.run_shows.specs.Scenes.Scene.{Scene, slot_of}

-- a row that settles on a slot is on that one alone
its_slot : (slot t : ℕ) (row : Row) → SettlesOn slot row → IsRowOn t row → t ≡ slot
its_slot slot t (Settles c) settles on = sym on ∙ settles
its_slot slot t (Leaves c) settles on = sym on ∙ settles
its_slot slot t Rests settles on = absurd settles
its_slot slot t (Registers c) settles on = absurd settles
its_slot slot t (Enters c) settles on = absurd settles
its_slot slot t (Defers u c) settles on = absurd settles
its_slot slot t (Frees c) settles on = absurd settles

module _ {K V S : Type 0} (same : K → K → Bool) (hash : K → ℕ) (e : Executor K V S) (s : Scene K V) (at : IsThere same hash e s) where
  abbrev pub good : Good deferred_word (LAST_SLOT + 1) e.batch_size s.world
  good = (reached same hash e s at).good

  pub held : HeldByRows s.world
  held = by at.held.together.makings.standing.came
    where
      by : CameAbout {K = K} {V = V} e.batch_size s.world → HeldByRows s.world
      by (roots, events, runs) =
          runs_held (deferred_word {K = K} {V = V}) e.batch_size events (at_start deferred_word roots) s.world (start_good (deferred_word {K = K} {V = V}) (LAST_SLOT + 1) e.batch_size roots) (λ i. tt) runs
          (start_held (deferred_word {K = K} {V = V}) e.batch_size roots)

  pub works_there : (j slot : ℕ) → has_batch slot (s.world.row j) ≡ true → slot_of j ≡ slot
  works_there j slot has = its_slot slot (slot_of j) (s.world.row j) (has_its deferred_word s.world good held j slot (s.world.row j) refl has) (at.held.on_slots j)

  pub word_says : (j slot : ℕ) → slot < SLOTS → has_batch slot (s.world.row j) ≡ true → words_of s.world.memory (Slot slot BATCH) ≡ HELD
  word_says j slot fits has = held_while deferred_word s.world good held j slot (omega (arith, fits)) has

  -- nobody has it of a slot in which nobody has anything under way
  pub none_has : (slot : ℕ) → NobodyIn e slot → (j : ℕ) → has_batch slot (s.world.row j) ≡ true → ⊥
  none_has slot nobody j has =
      let rests = ap (has_batch slot) (row_rests same hash e s at j (nobody j (works_there j slot has))) in
      cc (rests, has)

  -- The word of a slot that is registered is there: a row that flushed it could read it.
  pub word_there : (slot : ℕ) → slot < SLOTS → (use_at e slot ≡ used.Outside) ⊎ (use_at e slot ≡ used.Inside) → IsSome (word_at e.memory.memory (Slot slot BATCH))
  word_there slot fits may =
      let can = row_may deferred_word (LAST_SLOT + 1) e.batch_size refl begun good_then (caller_in e slot) (Settles (flushing slot e.batch_size))
      (with_here s.world.row (caller_in e slot) (Settles (flushing slot e.batch_size))) in
      subst (λ (m : Mem (Node K V)). IsSome (word_at m (Slot slot BATCH))) at.held.memory can.0
    where
      begun : World (Node K V)
      begun = with_use (with_row s.world (caller_in e slot) (Settles (flushing slot e.batch_size))) slot (one_more (s.world.uses slot))

      good_then : Good deferred_word (LAST_SLOT + 1) e.batch_size begun
      good_then =
          happens_good deferred_word (LAST_SLOT + 1) e.batch_size refl s.world begun good (reached same hash e s at).sized (Begin (caller_in e slot) (Flush slot))
          (resting same hash e s at slot fits, (taken_now same hash e s at slot may, refl))
