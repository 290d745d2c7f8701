-- A row leaves the open batch of a slot as it is, on which it doesn't settle.
use Rattle.std.proofs.Common.{◌≡◌, ℕ, ◌+◌, ◌<◌, Bool, true, false, cond, List, [], ◌∷◌, ◌++◌, length, refl, ap, sym, subst, ◌∙◌}
use Rattle.std.proofs.lemmas.Bool.{ne_eqb}
use Rattle.seize.specs.declared.states.TheConstants.{LAST_SLOT}
use Rattle.seize.specs.declared.rows.settle.Settle.{Settle}
use Rattle.seize.specs.declared.rows.leave.Leaving.{Leaving}
use Rattle.seize.specs.declared.rows.leave.Leaving.TheVariants as leaving
use Rattle.seize.specs.World.{World, Row, Rests, Registers, Enters, Settles, Leaves, Defers, Frees, Use}
use Rattle.std.specs.Prelude.{Option}
use Rattle.seize_model.proofs.Given.SeizeMovesState.Ghost.{State, Entry, Open}
use Rattle.seize_model.proofs.Given.SeizeMovesState.Rule.{Inv}
use Rattle.seize_model.proofs.Given.SeizeMovesState.Moves
use Rattle.seize_model.proofs.Given.SeizeMemoryWords.View.{view}
use Rattle.seize_model.proofs.Given.SeizeRulePoints.Passed.{passed_rest}
use Rattle.seize_model.proofs.Given.SeizeRulePoints.Told.{Part, part, batch_now, Told, Stays, Holds, HoldsNone, Gives, Begins, Appends, Fills, Skips, Passes, Finds, Marks, GivesUp, Closes, Pushes, Misses, Sums, SumsLast, Drains, DrainsNone, Takes, TakesLast, Joins, Counts, CountsLast}
use Rattle.seize_model.proofs.Given.SeizeRuleRows.Known.{FitsRow, FitsLeave}
use Rattle.seize_model.proofs.Given.SeizeRuleRows.Told.{RowTold, SettleGoes, SettleEnds, LeaveSwaps, LeaveGoes, LeaveSettled, LeaveEnds, RegisterLooks, RegisterRefused, RegisterTakes, RegisterEnters, EntersSlot, FreesSlot, DeferGoes, DeferPushes, DeferEnds, list_off}
use Rattle.seize_model.proofs.Given.SeizeRuleWorld.Good.{Good}
use Rattle.seize_acts.specs.Acts.Waits.{SettlesOn}
use Rattle.seize_acts.proofs.Bounds.Bounds.Knows.{known_at}

same_slot : (a b : ℕ) → Open a ≡ Open b → a ≡ b
same_slot a b e = cc e

-- it settles on a slot that there is, and as it leaves on the one that it leaves
abbrev pub WorksThere : ℕ → Row → Type 0
WorksThere n (Settles c) = c.slot < n
WorksThere n (Leaves c) = (settle : Settle) → c.stands ≡ leaving.Settles settle → (settle.slot ≡ c.slot) × (settle.slot < n)
WorksThere n _ = Unit {0}

module _ {T : Type 0} (defers : T → Option ℕ) (size : ℕ) (w : World T) (good : Good defers (LAST_SLOT + 1) size w) (i : ℕ) where
  pub works_there : WorksThere (LAST_SLOT + 1) (w.row i)
  works_there = by (w.row i) (good.rows i)
    where
      by : (row : Row) → FitsRow (LAST_SLOT + 1) i (view defers w.memory) good.state good.extra (length w.memory.slots) row → WorksThere (LAST_SLOT + 1) row
      by (Settles c) f = (known_at (LAST_SLOT + 1) i (view defers w.memory) good.state good.extra c c.stands f).common.slot_lt
      by (Leaves c) f = λ settle e.
          let k = subst (λ (p : Leaving). FitsLeave (LAST_SLOT + 1) i (view defers w.memory) good.state good.extra c.slot c.becomes c.frees p) e f in
          (k.slot_is, (known_at (LAST_SLOT + 1) i (view defers w.memory) good.state good.extra settle settle.stands k.settles).common.slot_lt)
      by Rests f = tt
      by (Registers c) f = tt
      by (Enters c) f = tt
      by (Defers s c) f = tt
      by (Frees c) f = tt

module _ (n i s : ℕ) (m m2 : State) (inv : Inv n m) (lt : s < n) where
  abbrev Same : State → Type 0
  Same q = q.blocks (q.open_batch s) ≡ m.blocks (m.open_batch s)

  to : (q : State) → m2 ≡ q → Same q → Same m2
  to q e so = subst Same (sym e) so

  module _ (c : Settle) (p : Part) (c2 : Settle) (there : c.slot < n) (ne : c.slot ≡ s → ⊥) where
    -- another slot's open batch is another one
    other : m.open_batch s ≡ batch_now c m → ⊥
    other e = ne (same_slot c.slot s (sym (inv.batches.mine c.slot there) ∙ ap m.stage (sym e) ∙ inv.batches.mine s lt))

    appended_same : (b : ℕ) (bs : List ℕ) → Same (Moves.appended m i b bs (batch_now c m))
    appended_same b bs =
        ap (λ (t : Bool). cond t (m.blocks (batch_now c m) ++ b ∷ []) (m.blocks (m.open_batch s))) (ne_eqb (m.open_batch s) (batch_now c m) other)

    closed_same : Same (Moves.closed n m i c.slot (batch_now c m))
    closed_same = ap (λ (t : Bool). m.blocks (cond t m.next (m.open_batch s))) (ne_eqb s c.slot (λ e. ne (sym e)))

    told_opened : Told n i c p m c2 m2 → Same m2
    told_opened (Stays e q) = to m e refl
    told_opened (Holds e q) = to (Moves.held m i c.slot) e refl
    told_opened (HoldsNone e q r s t u) = to (Moves.held m i c.slot) e refl
    told_opened (Gives e q r) = to (Moves.gave m c.slot) e refl
    told_opened (Begins e q r s t u v) = to m e refl
    told_opened (Appends b bs pd e q r s t) = to (Moves.appended m i b bs (batch_now c m)) e (appended_same b bs)
    told_opened (Fills b bs pd e q r s t u) = to (Moves.appended m i b bs (batch_now c m)) e (appended_same b bs)
    told_opened (Skips t l s a e q r) = to (Moves.skipped m (batch_now c m) t) e refl
    told_opened (Passes a e q r) = to (passed_rest n m (batch_now c m)) e refl
    told_opened (Finds t l s a e q r) = to m e refl
    told_opened (Marks t l s e q r) = to (Moves.marked m (batch_now c m) t) e refl
    told_opened (GivesUp t l s a k e q r u) = to (Moves.given_up m (batch_now c m)) e refl
    told_opened (Closes s k b e q r u) = to (Moves.closed n m i c.slot (batch_now c m)) e closed_same
    told_opened (Pushes y t f es rest a b k e q r) = to (Moves.pushed m y t f es rest) e refl
    told_opened (Misses y t rest a b k e q r) = to (Moves.missed m y t rest) e refl
    told_opened (Sums y a b k e q r u) = to (Moves.summed n m i y) e refl
    told_opened (SumsLast y a b k e q r u) = to (Moves.gives_up (Moves.summed n m i y) i y) e refl
    told_opened (Drains b bs l e q r) = to (Moves.drained m i b) e refl
    told_opened (DrainsNone b bs l d e q r) = to m e refl
    told_opened (Takes b bs l d e q r) = to (Moves.taken m i b bs) e refl
    told_opened (TakesLast b l d e q r) = to (Moves.joined (Moves.taken m i b []) i) e refl
    told_opened (Joins l e q r) = to (Moves.joined m i) e refl
    told_opened (Counts x xs l d k e q r u v w) = to (Moves.counted m i x xs) e refl
    told_opened (CountsLast x xs l d k e q r u v w) = to (Moves.gives_up (Moves.counted m i x xs) i x.batch) e refl

  list_opened : (again : Bool) (t : ℕ) (es : List Entry) → m2 ≡ list_off again m i t es → Same m2
  list_opened true t es e = to (Moves.refreshed m i t es) e refl
  list_opened false t es e = to (Moves.has_left m i t es) e refl

  pub row_opened : (row row2 : Row) (uses uses2 : ℕ → Use) → WorksThere n row → (SettlesOn s row → ⊥) → RowTold n i row m uses row2 m2 uses2 → Same m2
  row_opened row row2 uses uses2 works off (SettleGoes c c2 a b d t) =
      told_opened c (part c) c2 (subst (WorksThere n) a works) (λ e. off (subst (SettlesOn s) (sym a) e)) t
  row_opened row row2 uses uses2 works off (SettleEnds c a b d e) = to m e refl
  row_opened row row2 uses uses2 works off (LeaveSwaps c again es p a b d f g h e k) = list_opened again c.slot es e
  row_opened row row2 uses uses2 works off (LeaveGoes c settle settle2 a b d f t) =
      let k = (subst (WorksThere n) a works) settle d in
      told_opened settle (part settle) settle2 k.1 (λ e. off (subst (SettlesOn s) (sym a) (sym k.0 ∙ e))) t
  row_opened row row2 uses uses2 works off (LeaveSettled c settle a b d f e) = to m e refl
  row_opened row row2 uses uses2 works off (LeaveEnds c a b d u) = u.alike.opened s lt
  row_opened row row2 uses uses2 works off (RegisterLooks c c2 a b d f g h e) = to m e refl
  row_opened row row2 uses uses2 works off (RegisterRefused c a b d f e) = to m e refl
  row_opened row row2 uses uses2 works off (RegisterTakes c a b d f u) = u.alike.opened s lt
  row_opened row row2 uses uses2 works off (RegisterEnters c a b d f g e h) = to (Moves.entered m c.slot) e refl
  row_opened row row2 uses uses2 works off (EntersSlot c a b d f e) = to (Moves.entered m c.slot) e refl
  row_opened row row2 uses uses2 works off (FreesSlot c a b u) = u.alike.opened s lt
  row_opened row row2 uses uses2 works off (DeferGoes t c p a b d f e) = to m e refl
  row_opened row row2 uses uses2 works off (DeferPushes t b k d c a f g h l e) = to (Moves.deferred_to m i b k) e refl
  row_opened row row2 uses uses2 works off (DeferEnds t c a b d u) = u.alike.opened s lt
