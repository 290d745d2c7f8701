-- What a row is to retire, or is putting behind another block: it has it as its call's machine says; what was retired no row has so; and a row begins with it.
use Rattle.std.specs.Prelude.{◌≡◌, ℕ, Bool, true, false, length, Option, if◌then◌else◌}
use Rattle.std.proofs.Common.{◌+◌, refl, ap, sym, subst, ◌∙◌, inl, inr}
use Rattle.std.proofs.lemmas.Bool.{eq-eqb}
use Rattle.run_debts.specs.Given.SeizeWordsOp.{Found, Stored, Exchanged, Made, Taken, Roomed}
use Rattle.run_debts.specs.Given.SeizeWordsWord.{block_in, link_to}
use Rattle.run_debts.specs.Given.SeizeWordsDeclared.at.At.TheVariants.{Word}
use Rattle.run_debts.specs.Given.SeizeDefer.{deferring}
use Rattle.run_debts.specs.Given.SeizeLaw.{is_retired as was_retired}
use Rattle.run_debts.specs.Given.SeizeDeclared.rows.defer.Defer.{Defer}
use Rattle.run_debts.specs.Given.SeizeDeclared.rows.defer.Deferring.{Deferring}
use Rattle.run_debts.specs.Given.SeizeDeclared.rows.defer.Deferring.TheVariants as puts
use Rattle.run_debts.specs.Given.SeizeDeclared.rows.settle.Settle.{Settle}
use Rattle.run_debts.specs.Given.SeizeDeclared.rows.settle.Settling.{Settling}
use Rattle.run_debts.specs.Given.SeizeDeclared.rows.settle.Settling.TheVariants as settling
use Rattle.run_debts.specs.Given.SeizeDeclared.states.TheConstants.{LAST_SLOT}
use Rattle.run_debts.specs.Given.SeizeWorld.{World, Row, Rests, Registers, Enters, Settles, Leaves, Defers, Frees, Defer', Begins, Steps', defers_on, with_at}
use Rattle.run_debts.proofs.Given.SeizeMovesState.Ghost.{State, is_given}
use Rattle.run_debts.proofs.Given.SeizeRuleRows.Known.{FitsRow, FitsDefer}
use Rattle.run_debts.proofs.Given.SeizeRuleRows.Told.{IsOnWay, RowTold, SettleGoes, SettleEnds, LeaveSwaps, LeaveGoes, LeaveSettled, LeaveEnds, RegisterLooks, RegisterRefused, RegisterTakes, RegisterEnters, EntersSlot, FreesSlot, DeferGoes, DeferPushes, DeferEnds}
use Rattle.run_debts.proofs.Given.SeizeMemoryWords.Named.{link-block}
use Rattle.run_debts.proofs.Given.SeizeMemoryWords.View.{view}
use Rattle.run_debts.proofs.Given.SeizeRuleWorld.Kept.{steps_next}
use Rattle.run_debts.proofs.Given.SeizeAloneHistories.Reached.{Reached}
use Rattle.run_debts.specs.Given.TablesDeclared.node.Node.{Node}
use Rattle.run_debts.specs.Given.TablesDeclared.setting.Setting.{Setting}
use Rattle.run_debts.specs.Given.ResizeDeclared.copier.Copying.{Copying}
use Rattle.run_debts.specs.Given.ResizeDeclared.copier.Copying.TheVariants as copying
use Rattle.run_debts.specs.Given.ResizeDeclared.dispose.Disposing.{Disposing}
use Rattle.run_debts.specs.Given.ResizeDeclared.dispose.Disposing.TheVariants as disposing
use Rattle.run_debts.specs.Given.ReservesDeclared.reserve.Reserving.{Reserving}
use Rattle.run_debts.specs.Given.ReservesDeclared.reserve.Reserving.TheVariants as reserving
use Rattle.run_debts.specs.Given.ReservesDeclared.sweep.Sweeping.{Sweeping}
use Rattle.run_debts.specs.Given.ReservesDeclared.sweep.Sweeping.TheVariants as sweeping
use Rattle.run_debts.specs.Given.RawDeclared.machines.call.Calling.{Calling}
use Rattle.run_debts.specs.Given.RawDeclared.machines.call.Calling.TheVariants as calling
use Rattle.run_debts.specs.Given.RuleChart.{Chart}
use Rattle.run_debts.specs.Given.RuleWords.{Blocks}
use Rattle.run_debts.specs.Given.CallersRows.{row_of, row_of_disposal, row_of_copier}
use Rattle.run_debts.specs.Given.CallersRooms.{row_of_room}
use Rattle.run_debts.specs.Given.CallersOverAll.{row_of_sweep}
use Rattle.run_debts.specs.Given.CallersTogether.{UnderWay, OnKey, ForRoom, Counting, OverAll, IsAtPoint}
use Rattle.run_debts.specs.Given.FinishesMachines.{machine_of}
use Rattle.run_debts.specs.Due.{due_in_settle, due_in_defer, due_in_disposing, due_in_copying, due_in_calling, due_in_reserving, due_in_sweeping, due_in_row}
use Rattle.run_waiting.specs.Lives.Handed.{IsMeant, IsToHand}
use Rattle.run_waiting.specs.Lives.Retired.{IsPendingRetirement, IsToRetire}
use Rattle.run_waiting.proofs.Lives.Reclaimed.{none_to_retire}
use Rattle.run_waiting.proofs.Lives.Rows.{on_the_way}
use Rattle.run_waiting.proofs.Lives.Worlds.{Kept}
use Rattle.run_debts.specs.Given.ScenesScene.{slot_of}

-- a settling row retires what it is meant to hand over
pub settle_due : (b : ℕ) (c : Settle) (p : Settling) → IsMeant b (due_in_settle c p) → IsPendingRetirement b (due_in_settle c p)
settle_due b c settling.Sees meant = meant
settle_due b c settling.Holds meant = meant
settle_due b c settling.Pops meant = meant
settle_due b c (settling.Firsts block) meant = meant
settle_due b c (settling.Batches block) meant = meant
settle_due b c _ meant = absurd meant

-- what was retired no row is to retire, nor is one putting it behind another block
module _ {T : Type 0} (defers : T → Option ℕ) (size : ℕ) (w : World T) (k : Kept defers size w) (j b : ℕ) (retired : was_retired b w.log ≡ true) where
  given : is_given (k.good.state.life b) ≡ true
  given = sym (k.good.inv.logged.given b) ∙ ap (was_retired b) k.good.logged ∙ retired

  on_way_none : (s : ℕ) (c : Defer) (p : Deferring) → IsOnWay p → FitsDefer (LAST_SLOT + 1) j (view defers w.memory) k.good.state k.good.extra s c.block c.table_word p → block_in c.block ≡ b → ⊥
  on_way_none s c p on fits meant =
      let way = on_the_way (LAST_SLOT + 1) j (view defers w.memory) k.good.state k.good.extra s c.block c.table_word p on fits in
      let one : way.b ≡ b = sym (link-block way.b) ∙ ap block_in (sym way.block_is) ∙ meant in
      let none : is_given (k.good.state.life b) ≡ false = ap is_given (ap k.good.state.life (sym one) ∙ way.life) in
      let some = given in
      cc (some, none)

  putting : (s : ℕ) (c : Defer) (p : Deferring) → FitsDefer (LAST_SLOT + 1) j (view defers w.memory) k.good.state k.good.extra s c.block c.table_word p → IsMeant b (due_in_defer c p) → ⊥
  putting s c puts.Over fits meant = meant
  putting s c puts.Reads fits meant = on_way_none s c puts.Reads tt fits meant
  putting s c (puts.Links head) fits meant = on_way_none s c (puts.Links head) tt fits meant
  putting s c (puts.Pushes head) fits meant = on_way_none s c (puts.Pushes head) tt fits meant

  by_row : (row : Row) → w.row j ≡ row → FitsRow (LAST_SLOT + 1) j (view defers w.memory) k.good.state k.good.extra (length w.memory.slots) row → IsToHand b row → ⊥
  by_row (Settles c) is fits meant = none_to_retire defers size w k j b retired (subst (IsToRetire b) (sym is) (settle_due b c c.stands meant))
  by_row (Defers s c) is fits meant = putting s c c.stands fits meant
  by_row Rests is fits meant = meant
  by_row (Registers c) is fits meant = meant
  by_row (Enters c) is fits meant = meant
  by_row (Leaves c) is fits meant = meant
  by_row (Frees c) is fits meant = meant

  pub none_to_hand : IsToHand b (w.row j) → ⊥
  none_to_hand meant = by_row (w.row j) refl (k.good.rows j) meant

-- what a row has in hand its call's machine has, and the other way round
module _ (b slot : ℕ) where
  disposing_meant : (p : Disposing) → IsToHand b (row_of_disposal slot p) → IsMeant b (due_in_disposing p)
  disposing_meant (disposing.Settles settle) meant = meant
  disposing_meant (disposing.Defers defer) meant = meant
  disposing_meant _ meant = absurd meant

  copying_meant : (p : Copying) → IsToHand b (row_of_copier p) → IsMeant b (due_in_copying p)
  copying_meant (copying.Retires settle rest) meant = meant
  copying_meant _ meant = absurd meant

  row_disposing : (p : Disposing) → IsMeant b (due_in_disposing p) → IsToHand b (row_of_disposal slot p)
  row_disposing (disposing.Settles settle) meant = meant
  row_disposing (disposing.Defers defer) meant = meant
  row_disposing _ meant = absurd meant

  row_copying : (p : Copying) → IsMeant b (due_in_copying p) → IsToHand b (row_of_copier p)
  row_copying (copying.Retires settle rest) meant = meant
  row_copying _ meant = absurd meant

  calling_meant : (p : Calling) → IsToHand b (row_of slot p) → IsMeant b (due_in_calling p)
  calling_meant (calling.Disposes dispose answer) meant = disposing_meant dispose.stands meant
  calling_meant (calling.Helps copier goal) meant = copying_meant copier.stands meant
  calling_meant (calling.Copies copier) meant = copying_meant copier.stands meant
  calling_meant _ meant = absurd meant

  row_calling : (p : Calling) → IsMeant b (due_in_calling p) → IsToHand b (row_of slot p)
  row_calling (calling.Disposes dispose answer) meant = row_disposing dispose.stands meant
  row_calling (calling.Helps copier goal) meant = row_copying copier.stands meant
  row_calling (calling.Copies copier) meant = row_copying copier.stands meant
  row_calling _ meant = absurd meant

  reserving_meant : (p : Reserving) → IsToHand b (row_of_room p) → IsMeant b (due_in_reserving p)
  reserving_meant (reserving.Copies copier) meant = copying_meant copier.stands meant
  reserving_meant _ meant = absurd meant

  row_reserving : (p : Reserving) → IsMeant b (due_in_reserving p) → IsToHand b (row_of_room p)
  row_reserving (reserving.Copies copier) meant = row_copying copier.stands meant
  row_reserving _ meant = absurd meant

  sweeping_meant : (p : Sweeping) → IsToHand b (row_of_sweep slot p) → IsMeant b (due_in_sweeping p)
  sweeping_meant (sweeping.Copies copier) meant = copying_meant copier.stands meant
  sweeping_meant (sweeping.Disposes dispose) meant = disposing_meant dispose.stands meant
  sweeping_meant _ meant = absurd meant

  row_sweeping : (p : Sweeping) → IsMeant b (due_in_sweeping p) → IsToHand b (row_of_sweep slot p)
  row_sweeping (sweeping.Copies copier) meant = row_copying copier.stands meant
  row_sweeping (sweeping.Disposes dispose) meant = row_disposing dispose.stands meant
  row_sweeping _ meant = absurd meant

module _ {K V : Type 0} (same : K → K → Bool) (hash : K → ℕ) (setting : Setting) (w : World (Node K V)) (c : Chart K) (blocks : Blocks) (i b : ℕ) where
  abbrev StandsAt : UnderWay K V K → Type 0
  StandsAt u = IsAtPoint V same hash same setting slot_of w c blocks i u

  -- by its row
  pub meant_of : (u : UnderWay K V K) → StandsAt u → IsToHand b (w.row i) → IsMeant b (due_in_row (machine_of u))
  meant_of (OnKey x) (inl (rests, knows)) meant = absurd (subst (IsToHand b) rests meant)
  meant_of (OnKey x) (inr (row, is_row, knows)) meant = calling_meant b (slot_of i) x.call.stands (subst (IsToHand b) row meant)
  meant_of (ForRoom r) (inl (rests, knows)) meant = absurd (subst (IsToHand b) rests meant)
  meant_of (ForRoom r) (inr (row, is_row, knows)) meant = reserving_meant b (slot_of i) r.reserve.stands (subst (IsToHand b) row meant)
  meant_of (Counting sum) (rests, facts, idle) meant = absurd (subst (IsToHand b) rests meant)
  meant_of (OverAll o) (inl (rests, knows)) meant = absurd (subst (IsToHand b) rests meant)
  meant_of (OverAll o) (inr (row, is_row, knows)) meant = sweeping_meant b (slot_of i) o.sweep.stands (subst (IsToHand b) row meant)

  -- by its machine, unless it has no row under way
  pub to_hand : (u : UnderWay K V K) → StandsAt u → (w.row i ≡ Rests → ⊥) → IsMeant b (due_in_row (machine_of u)) → IsToHand b (w.row i)
  to_hand (OnKey x) (inl (rests, knows)) goes meant = absurd (goes rests)
  to_hand (OnKey x) (inr (row, is_row, knows)) goes meant = subst (IsToHand b) (sym row) (row_calling b (slot_of i) x.call.stands meant)
  to_hand (ForRoom r) (inl (rests, knows)) goes meant = absurd (goes rests)
  to_hand (ForRoom r) (inr (row, is_row, knows)) goes meant = subst (IsToHand b) (sym row) (row_reserving b (slot_of i) r.reserve.stands meant)
  to_hand (Counting sum) (rests, facts, idle) goes meant = absurd (goes rests)
  to_hand (OverAll o) (inl (rests, knows)) goes meant = absurd (goes rests)
  to_hand (OverAll o) (inr (row, is_row, knows)) goes meant = subst (IsToHand b) (sym row) (row_sweeping b (slot_of i) o.sweep.stands meant)

-- a row begins to put a block behind another one, and takes its first step
module _ {T : Type 0} (defers : T → Option ℕ) (size i : ℕ) (w v w2 : World T) where
  here : (f : ℕ → Row) (x : Row) → with_at f i x i ≡ x
  here f x = ap (λ (q : Bool). if q then x else f i) (eq-eqb i i refl)

  pub begun_put : (s b t : ℕ) → Begins defers size i (Defer' s b t) w v → Steps' defers i (v.row i) v w2 → IsToHand b (w2.row i)
  begun_put s b t h steps = by (subst (λ (r : Row). Steps' defers i r v w2) row steps)
    where
      c : Defer
      c = deferring (link_to b) (Word t h.0)

      row : v.row i ≡ Defers s c
      row = ap (λ (z : World T). z.row i) h.7 ∙ here w.row (Defers s c)

      by : Steps' defers i (Defers s c) v w2 → IsToHand b (w2.row i)
      by (m2, end, (Found head, took, ends), is) =
          subst (λ (z : World T). IsToHand b (z.row i)) (sym is)
          (subst (λ x. IsToHand b ((defers_on v i s m2 x).row i)) (sym ends) (subst (IsToHand b) (sym (here v.row (Defers s (record c { stands = puts.Links head })))) (link-block b)))
      by (m2, end, (Stored, took, ends), is) = absurd took.0
      by (m2, end, (Exchanged r, took, ends), is) = absurd took.0
      by (m2, end, (Made r, took, ends), is) = absurd took.0
      by (m2, end, (Taken r, took, ends), is) = absurd took.0
      by (m2, end, (Roomed r, took, ends), is) = absurd took.0

-- what a row is to retire it is to hand over
pub retire_meant : (b : ℕ) (row : Row) → IsToRetire b row → IsToHand b row
retire_meant b (Settles c) due = by c.stands due
  where
    by : (p : Settling) → IsPendingRetirement b (due_in_settle c p) → IsMeant b (due_in_settle c p)
    by settling.Sees due = due
    by settling.Holds due = due
    by settling.Pops due = due
    by (settling.Firsts block) due = due
    by (settling.Batches block) due = due
    by _ due = absurd due
retire_meant b _ due = absurd due

-- a row that has something in hand still is not over with its step
module _ {T : Type 0} (defers : T → Option ℕ) (size : ℕ) (w w2 : World T) (r : Reached defers size w) (i : ℕ) (steps : Steps' defers i (w.row i) w w2) (b : ℕ) (meant : IsToHand b (w.row i)) where
  its : (row : Row) → w.row i ≡ row → IsToHand b row
  its row is = subst (IsToHand b) is meant

  pub not_over : w2.row i ≡ Rests → ⊥
  not_over over = by (steps_next defers (LAST_SLOT + 1) size refl w w2 r.good r.sized i (w.row i) refl steps).told
    where
      by : {m2 : State} → RowTold (LAST_SLOT + 1) i (w.row i) r.good.state w.uses (w2.row i) m2 w2.uses → ⊥
      by (SettleGoes c c2 is is2 slot goes) = (let both : Settles c2 ≡ Rests = sym is2 ∙ over in cc both)
      by (SettleEnds c is is2 stands e) = subst (λ (p : Settling). IsMeant b (due_in_settle c p)) stands (its (Settles c) is)
      by (LeaveSwaps c again es p is is2 stands lt becomes head e behind) = its (Leaves c) is
      by (LeaveGoes c settle settle2 is is2 stands slot goes) = its (Leaves c) is
      by (LeaveSettled c settle is stands over settled e) = its (Leaves c) is
      by (LeaveEnds c is settled settled2 u) = its (Leaves c) is
      by (RegisterLooks c c2 is is2 looks looks2 enters uses e) = its (Registers c) is
      by (RegisterRefused c is is2 looks uses e) = its (Registers c) is
      by (RegisterTakes c is looks vacant takes u) = its (Registers c) is
      by (RegisterEnters c is is2 stands lt head e uses) = its (Registers c) is
      by (EntersSlot c is is2 lt head e) = its (Enters c) is
      by (FreesSlot c is is2 u) = its (Frees c) is
      by (DeferGoes s c p is is2 on on2 e) = (let both : Defers s (record c { stands = p }) ≡ Rests = sym is2 ∙ over in cc both)
      by (DeferPushes s d u field c is is2 on block names e) = (let both : Defers s (record c { stands = puts.Over }) ≡ Rests = sym is2 ∙ over in cc both)
      by (DeferEnds s c is is2 stands u) = subst (λ (p : Deferring). IsMeant b (due_in_defer c p)) stands (its (Defers s c) is)
