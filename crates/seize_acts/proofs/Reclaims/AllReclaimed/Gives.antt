-- A flush that begins while everything is reclaimed reclaims at least a value: its batch is there, and no slot is active.
use Rattle.std.specs.Prelude.{Option, Some, ◌==◌, if◌then◌else◌}
use Rattle.std.proofs.Common.{◌≡◌, ℕ, zero, suc, ◌+◌, ◌<◌, ◌≤◌, Bool, true, false, not, cond, eqb, List, [], ◌∷◌, ◌++◌, length, refl, arith, ap, sym, subst, ◌∙◌}
use Rattle.seize_words.specs.declared.at.At.TheVariants as name
use Rattle.seize_words.specs.OneMemory.Mem.{Mem, word_at}
use Rattle.seize.specs.declared.states.TheConstants.{BATCH, LAST_SLOT}
use Rattle.seize.specs.declared.rows.settle.Settle.{Settle}
use Rattle.seize.specs.declared.rows.reclaim_all.ReclaimAll.{ReclaimAll}
use Rattle.seize.specs.declared.rows.reclaim_all.Reclaiming.{Reclaiming}
use Rattle.seize.specs.declared.rows.reclaim_all.Reclaiming.TheVariants as at
use Rattle.seize.specs.Settle.{flushing}
use Rattle.seize.specs.WaitingSets.{Sets, flushed, given, with_open, is_enough, quietly, closing, at_start as sets_at_start}
use Rattle.seize.specs.World.{Settles, Use, Vacant, Outside, Flush, IsTaken, at_start}
use Rattle.seize_model.specs.Alone.Alone.{History, IsHistory, IsMidway, at_rest, given_back}
use Rattle.seize_acts.specs.Reclaims.AllReclaimed.{MayReclaimAll, sets_in}
use Rattle.seize_model.proofs.Given.SeizeMovesSets.Shown.{ascending}
use Rattle.seize_model.proofs.Given.SeizeRuleWorld.Rested.{start_rested}
use Rattle.seize_model.proofs.Ends.Batches.Rows.{none_held, start_held, turns_held}
use Rattle.seize_model.proofs.Given.SeizeMemoryWords.Chains.{last_of}
use Rattle.seize_model.proofs.Given.SeizeMemoryWords.Named.{word_found, link}
use Rattle.seize_model.proofs.Sets.Reclaims.Sets.{is_inside}
use Rattle.seize_model.proofs.Sets.Reclaims.Stages.{StageAt, IsFresh, others_vacant}
use Rattle.seize_model.proofs.Sets.Turns.All.{turns_shown, start_shown}
use Rattle.seize_model.proofs.Sets.Turns.Begins.{Shown}
use Rattle.seize_acts.proofs.Reclaims.AllReclaimed.Steps.{Arrived}
use Rattle.seize_model.proofs.Alone.Histories.Calls.{history_rested}
use Rattle.seize_model.proofs.Alone.Histories.Sets.{active_now}
use Rattle.seize_model.proofs.Alone.Whole.Begins.{flush_begins}
use Rattle.seize_words.proofs.General.{no_length}

first_none : (a c : List ℕ) → a ++ c ≡ [] → a ≡ []
first_none [] c e = refl
first_none (x ∷ a) c e = absurd (cc e)

none_so : (p : ℕ → Bool) (k : ℕ) → ((t : ℕ) → t < k → p t ≡ false) → ascending p k ≡ []
none_so p zero h = refl
none_so p (suc k) h =
    ap (λ (l : List ℕ). l ++ cond (p k) (k ∷ []) []) (none_so p k (λ t l. h t (omega (arith, l)))) ∙ ap {A = Bool} (λ (b : Bool). [] ++ cond b (k ∷ []) []) (h k (omega arith))

-- with no slot active a batch that is flushed is reclaimed
flush_gives : (size s : ℕ) (w : Sets) → w.active ≡ [] → (flushed size s w).reclaimed ≡ [] → w.open_batch s ≡ []
flush_gives size s w none e = by (length (w.open_batch s) == 0) refl (is_enough s w) enough (length w.active == 0) (ap (λ (l : List ℕ). length l == 0) none) e
  where
    enough : is_enough s w ≡ true
    enough = let z = ap (λ (l : List ℕ). length l) none in grind (arith, z)

    by : (a : Bool) → (length (w.open_batch s) == 0) ≡ a → (b : Bool) → b ≡ true → (d : Bool) → d ≡ true
        → (if a then quietly w else (if not b then quietly w else (if d then given size s (w.open_batch s) (with_open w s []) else quietly (closing s w)))).reclaimed ≡ [] → w.open_batch s ≡ []
    by true q b f d g k = no_length (w.open_batch s) (grind (arith, q))
    by false q true f true g k = first_none (w.open_batch s) _ k
    by false q false f d g k = absurd (cc f)
    by false q true f false g k = absurd (cc g)

module _ {T : Type 0} (defers : T → Option ℕ) (left_over : T → Bool) (batch_size roots : ℕ) (m : Mem T) (h : History) (lists : ℕ → List ℕ)
    (may : MayReclaimAll defers left_over batch_size roots m h lists) where
  -- a slot with a batch has an open batch in the waiting sets
  module _ (m1 : Mem T) (h1 : History) (had : IsHistory defers batch_size roots m1 h1) where
    shown : Shown defers (LAST_SLOT + 1) batch_size (at_rest defers m1 h1) (sets_in batch_size h1)
    shown =
        turns_shown defers (LAST_SLOT + 1) batch_size refl may.size had.0 (at_start defers roots) (at_rest defers m1 h1) h1.before sets_at_start
        (start_shown defers (LAST_SLOT + 1) batch_size refl may.size roots) had.1

    some_open : (s word : ℕ) → s < LAST_SLOT + 1 → word_at m1 (name.Slot s BATCH) ≡ Some (suc word) → (sets_in batch_size h1).open_batch s ≡ [] → ⊥
    some_open s word lt is none =
        let rested = shown.rested in
        let g = rested.good in
        let by_rows = turns_held defers batch_size had.0 (at_start defers roots) (at_rest defers m1 h1) h1.before (start_rested defers (LAST_SLOT + 1) batch_size refl roots) had.1 (start_held defers batch_size roots) in
        let held = none_held (at_rest defers m1 h1) 0 (λ j ne. rested.rests j) by_rows (rested.rests 0) in
        let empty : last_of (g.state.blocks (g.state.open_batch s)) ≡ 0 = ap last_of (shown.models.opened s lt ∙ none) in
        let found = word_found m1 (name.Slot s BATCH) (suc word) is in
        by (eqb (g.state.holder s) 0) (sym found ∙ g.shows.linkage.batched s lt ∙ ap (λ (k : ℕ). cond (eqb (g.state.holder s) 0) (link k) 1) empty) (λ e. held s (found ∙ e))
      where
        by : (b : Bool) → suc word ≡ cond b (link 0) 1 → (suc word ≡ 1 → ⊥) → ⊥
        by true e not = absurd (omega (arith, e))
        by false e not = not e

    -- it has just begun
    flush_some : (slots s : ℕ) → slots ≤ LAST_SLOT + 1 → s < slots → ((t : ℕ) → t < slots → h1.uses t ≡ Outside 0) → ((t : ℕ) → slots ≤ t → h1.uses t ≡ Vacant)
        → (word : ℕ) → word_at m1 (name.Slot s BATCH) ≡ Some (suc word) → given_back batch_size (Flush s) h1 ≡ [] → ⊥
    flush_some slots s le lt idle past word is e =
        let none : (sets_in batch_size h1).active ≡ [] =
        sym (active_now defers batch_size roots m1 h1 had may.size slots le past) ∙ none_so (λ t. is_inside (h1.uses t)) slots (λ t l. ap is_inside (idle t l)) in
        some_open s word (omega (arith, le, lt)) is (flush_gives batch_size s (sets_in batch_size h1) none (first_none (flushed batch_size s (sets_in batch_size h1)).reclaimed [] e))

  -- where a flush begins
  pub begins_flush : (c : ReclaimAll) (m4 : Mem T) (given : List T) (a : Arrived defers left_over batch_size roots m h lists may c m4 given) (s : ℕ) (d : Settle) → c.stands ≡ at.Flushes s d
      → IsMidway defers batch_size roots m4 a.h4 (Flush s) (Settles d) m4 [] × (given_back batch_size (Flush s) a.h4 ≡ [] → ⊥)
  begins_flush c m4 given a s d e =
      let here = subst (λ (p : Reclaiming). StageAt defers (LAST_SLOT + 1) batch_size roots refl 0 (at_rest defers m h) p c (at_rest defers m4 a.h4)) e a.stage.here in
      let fresh : d ≡ flushing s batch_size = subst (λ (p : Reclaiming). IsFresh defers (LAST_SLOT + 1) batch_size roots refl 0 (at_rest defers m h) p) e a.stage.fresh in
      let f = here.1 in (
        subst (λ (x : Settle). IsMidway defers batch_size roots m4 a.h4 (Flush s) (Settles x) m4 []) (sym fresh)
            (flush_begins defers batch_size roots may.size m4 a.h4 a.so_far.now s (subst (λ (u : Use). IsTaken u) (sym (f.idle s here.0)) tt)),
        flush_some m4 a.h4 a.so_far.now c.slots s f.le here.0 f.idle
            (others_vacant defers (LAST_SLOT + 1) batch_size roots refl 0 (at_rest defers m h) c.slots s c.again (at_rest defers m4 a.h4)
            (history_rested defers batch_size roots m h may.happened) f) here.2 here.3,
      )
