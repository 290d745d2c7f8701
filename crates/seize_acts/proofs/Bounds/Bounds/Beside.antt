-- What the step of a row leaves to another one that settles: what that one has in hand. Where a move says less, no entry was written.
use Rattle.std.proofs.Common.{◌≡◌, ℕ, ◌+◌, ◌<◌, Bool, true, false, cond, List, [], ◌∷◌, ◌++◌, ◌⊎◌, inl, inr, refl, arith, ap, sym, subst, ◌∙◌}
use Rattle.std.proofs.lemmas.Bool.{ne_eqb}
use Rattle.seize.specs.declared.rows.settle.Settle.{Settle}
use Rattle.seize.specs.declared.rows.defer.Deferring.TheVariants as deferring
use Rattle.seize.specs.World.{Row, Registers, Leaves, Defers, Frees, Use}
use Rattle.seize_model.proofs.Given.SeizeMovesState.Ghost.{State, Entry, Open, Closing, put}
use Rattle.seize_model.proofs.Given.SeizeMovesState.Rule.{Inv}
use Rattle.seize_model.proofs.Given.SeizeMovesState.Moves
use Rattle.seize_model.proofs.Given.SeizeMovesSets.Unmoved.{Unmoved}
use Rattle.seize_model.proofs.Given.SeizeRulePoints.Passed.{passed_rest}
use Rattle.seize_model.proofs.Given.SeizeRulePoints.Told.{Part, part, batch_now, Told, Stays, Holds, HoldsNone, Gives, Begins, Appends, Fills, Skips, Passes, Finds, Marks, GivesUp, Closes, Pushes, Misses, Sums, SumsLast, Drains, DrainsNone, Takes, TakesLast, Joins, Counts, CountsLast}
use Rattle.seize_model.proofs.Given.SeizeRuleRows.Told.{RowTold, SettleGoes, SettleEnds, LeaveSwaps, LeaveGoes, LeaveSettled, LeaveEnds, RegisterLooks, RegisterRefused, RegisterTakes, RegisterEnters, EntersSlot, FreesSlot, DeferGoes, DeferPushes, DeferEnds, IsSettled, IsLooking, list_off}
use Rattle.seize_acts.proofs.Bounds.Bounds.Opened.{WorksThere}

-- what a row has in hand is the same, and the batch that it closes
pub record SameHand (j : ℕ) (m m2 : State) : Type 0 where
  pub loose : m2.loose j ≡ m.loose j
  pub left : m2.left j ≡ m.left j
  pub pending : m2.pending j ≡ m.pending j
  pub puts : m2.puts j ≡ m.puts j
  pub closing : m2.closing j ≡ m.closing j
  pub shut : (b : ℕ) → m.stage b ≡ Closing j → m2.blocks b ≡ m.blocks b

-- a step of this row writes no entry
abbrev pub IsAsideRow : Row → Type 0
IsAsideRow (Registers c) = IsLooking c.stands
IsAsideRow (Leaves c) = IsSettled c.stands
IsAsideRow (Frees c) = Unit {0}
IsAsideRow (Defers s c) = c.stands ≡ deferring.Over
IsAsideRow _ = ⊥

-- what it still has to take is the same, and no entry is written
pub record HandAside (j : ℕ) (row : Row) (m m2 : State) : Type 0 where
  pub left : m2.left j ≡ m.left j
  pub aside : IsAsideRow row

module _ (n i j : ℕ) (ne : j ≡ i → ⊥) (m m2 : State) where
  -- what stands at another place
  pub beside : {X : Type 0} (f : ℕ → X) (x : X) → put f i x j ≡ f j
  beside f x = grind (arith, ne)

  to : (q : State) → m2 ≡ q → SameHand j m q → SameHand j m m2
  to q e so = subst (λ (s : State). SameHand j m s) (sym e) so

  -- where nothing of it is touched
  aside : (q : State) → m2 ≡ q → q.loose j ≡ m.loose j → q.left j ≡ m.left j → q.pending j ≡ m.pending j → q.puts j ≡ m.puts j → q.closing j ≡ m.closing j
      → q.blocks ≡ m.blocks → SameHand j m m2
  aside q e loose left pending puts closing blocks = to q e (record {
    loose = loose;
    left = left;
    pending = pending;
    puts = puts;
    closing = closing;
    shut = λ b z. ap (λ (f : ℕ → List ℕ). f b) blocks;
  })

  module _ (inv : Inv n m) (c : Settle) (there : c.slot < n) (p : Part) (c2 : Settle) where
    -- a block goes into an open batch
    grown : (b : ℕ) (bs : List ℕ) → m2 ≡ Moves.appended m i b bs (batch_now c m) → SameHand j m m2
    grown b bs e = to (Moves.appended m i b bs (batch_now c m)) e (record {
      loose = refl;
      left = refl;
      pending = beside m.pending bs;
      puts = refl;
      closing = refl;
      shut = λ y z.
          ap (λ (t : Bool). cond t (m.blocks (batch_now c m) ++ b ∷ []) (m.blocks y))
          (ne_eqb y (batch_now c m) (λ q. let k : Open c.slot ≡ Closing j = sym (inv.batches.mine c.slot there) ∙ ap m.stage (sym q) ∙ z in cc k));
    })

    pub told_same : Told n i c p m c2 m2 → SameHand j m m2
    told_same (Stays e q) = aside m e refl refl refl refl refl refl
    told_same (Holds e q) = aside (Moves.held m i c.slot) e refl refl refl refl refl refl
    told_same (HoldsNone e q r s t u) = aside (Moves.held m i c.slot) e refl refl refl refl refl refl
    told_same (Gives e q r) = aside (Moves.gave m c.slot) e refl refl refl refl refl refl
    told_same (Begins e q r s t u v) = aside m e refl refl refl refl refl refl
    told_same (Appends b bs pd e q r s t) = grown b bs e
    told_same (Fills b bs pd e q r s t u) = grown b bs e
    told_same (Skips t l s a e q r) = aside (Moves.skipped m (batch_now c m) t) e refl refl refl refl refl refl
    told_same (Passes a e q r) = aside (passed_rest n m (batch_now c m)) e refl refl refl refl refl refl
    told_same (Finds t l s a e q r) = aside m e refl refl refl refl refl refl
    told_same (Marks t l s e q r) = aside (Moves.marked m (batch_now c m) t) e refl refl refl refl refl refl
    told_same (GivesUp t l s a k e q r u) = aside (Moves.given_up m (batch_now c m)) e refl refl refl refl refl refl
    told_same (Closes s k b e q r u) = aside (Moves.closed n m i c.slot (batch_now c m)) e refl refl refl refl (beside m.closing (batch_now c m + 1)) refl
    told_same (Pushes y t f es rest a b k e q r) = aside (Moves.pushed m y t f es rest) e refl refl refl refl refl refl
    told_same (Misses y t rest a b k e q r) = aside (Moves.missed m y t rest) e refl refl refl refl refl refl
    told_same (Sums y a b k e q r u) = aside (Moves.summed n m i y) e refl refl refl refl (beside m.closing 0) refl
    told_same (SumsLast y a b k e q r u) = aside (Moves.gives_up (Moves.summed n m i y) i y) e refl (beside m.left (m.blocks y)) refl refl (beside m.closing 0) refl
    told_same (Drains b bs l e q r) = aside (Moves.drained m i b) e refl refl refl (beside m.puts (m.puts i ++ m.deferred b)) refl refl
    told_same (DrainsNone b bs l d e q r) = aside m e refl refl refl refl refl refl
    told_same (Takes b bs l d e q r) = aside (Moves.taken m i b bs) e refl (beside m.left bs) refl refl refl refl
    told_same (TakesLast b l d e q r) =
        aside (Moves.joined (Moves.taken m i b []) i) e refl (beside m.left []) (beside m.pending (m.puts i ++ m.pending i)) (beside m.puts []) refl refl
    told_same (Joins l e q r) = aside (Moves.joined m i) e refl refl (beside m.pending (m.puts i ++ m.pending i)) (beside m.puts []) refl refl
    told_same (Counts x xs l d k e q r u v w) = aside (Moves.counted m i x xs) e (beside m.loose xs) refl refl refl refl refl
    told_same (CountsLast x xs l d k e q r u v w) =
        aside (Moves.gives_up (Moves.counted m i x xs) i x.batch) e (beside m.loose xs) (beside m.left (m.blocks x.batch)) refl refl refl refl

  taken_off : (again : Bool) (s : ℕ) (es : List Entry) → m2 ≡ list_off again m i s es → SameHand j m m2
  taken_off true s es e = aside (Moves.refreshed m i s es) e (beside m.loose es) refl refl refl refl refl
  taken_off false s es e = aside (Moves.has_left m i s es) e (beside m.loose es) refl refl refl refl refl

  unmoved_aside : (row r : Row) → row ≡ r → IsAsideRow r → Unmoved n m m2 → HandAside j row m m2
  unmoved_aside row r is aside u = record { left = ap (λ (f : ℕ → List ℕ). f j) u.left; aside = subst IsAsideRow (sym is) aside }

  -- by the step of a row
  pub row_same : Inv n m → (row row2 : Row) (uses uses2 : ℕ → Use) → WorksThere n row → RowTold n i row m uses row2 m2 uses2
      → SameHand j m m2 ⊎ HandAside j row m m2
  row_same inv row row2 uses uses2 works (SettleGoes c c2 a b d t) = inl (told_same inv c (subst (WorksThere n) a works) (part c) c2 t)
  row_same inv row row2 uses uses2 works (SettleEnds c a b d e) = inl (aside m e refl refl refl refl refl refl)
  row_same inv row row2 uses uses2 works (LeaveSwaps c again es p a b d f g h e k) = inl (taken_off again c.slot es e)
  row_same inv row row2 uses uses2 works (LeaveGoes c settle settle2 a b d f t) = inl (told_same inv settle ((subst (WorksThere n) a works) settle d).1 (part settle) settle2 t)
  row_same inv row row2 uses uses2 works (LeaveSettled c settle a b d f e) = inl (aside m e refl refl refl refl refl refl)
  row_same inv row row2 uses uses2 works (LeaveEnds c a b d u) = inr (unmoved_aside row (Leaves c) a b u)
  row_same inv row row2 uses uses2 works (RegisterLooks c c2 a b d f g h e) = inl (aside m e refl refl refl refl refl refl)
  row_same inv row row2 uses uses2 works (RegisterRefused c a b d f e) = inl (aside m e refl refl refl refl refl refl)
  row_same inv row row2 uses uses2 works (RegisterTakes c a b d f u) = inr (unmoved_aside row (Registers c) a b u)
  row_same inv row row2 uses uses2 works (RegisterEnters c a b d f g e h) = inl (aside (Moves.entered m c.slot) e refl refl refl refl refl refl)
  row_same inv row row2 uses uses2 works (EntersSlot c a b d f e) = inl (aside (Moves.entered m c.slot) e refl refl refl refl refl refl)
  row_same inv row row2 uses uses2 works (FreesSlot c a b u) = inr (unmoved_aside row (Frees c) a tt u)
  row_same inv row row2 uses uses2 works (DeferGoes s c p a b d f e) = inl (aside m e refl refl refl refl refl refl)
  row_same inv row row2 uses uses2 works (DeferPushes s b t d c a f g h k e) = inl (aside (Moves.deferred_to m i b t) e refl refl refl refl refl refl)
  row_same inv row row2 uses uses2 works (DeferEnds s c a b d u) = inr (unmoved_aside row (Defers s c) a d u)
