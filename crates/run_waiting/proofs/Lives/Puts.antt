-- A row within a call that puts a block behind another one: which these are its call's machine says.
use Rattle.std.specs.Prelude.{◌≡◌, ℕ, Bool, Some}
use Rattle.std.proofs.Common.{refl, ap, sym, subst, ◌∙◌, inl, inr}
use Rattle.run_debts.specs.Given.SeizeWordsDeclared.at.At.{At}
use Rattle.run_debts.specs.Given.SeizeWordsWord.{block_in}
use Rattle.run_debts.specs.Given.SeizeDeclared.rows.defer.Defer.{Defer}
use Rattle.run_debts.specs.Given.SeizeDeclared.rows.defer.Deferring.{Deferring}
use Rattle.run_debts.specs.Given.SeizeDeclared.rows.defer.Deferring.TheVariants as deferring
use Rattle.run_debts.specs.Given.SeizeFurther.{IsWordOf}
use Rattle.run_debts.specs.Given.SeizeWorld.{World, Row, Rests, Registers, Enters, Settles, Leaves, Defers, Frees}
use Rattle.run_debts.proofs.Given.SeizeMovesState.Ghost.{State}
use Rattle.run_debts.proofs.Given.SeizeRuleRows.Known.{FitsDefer, FitsRow}
use Rattle.run_debts.proofs.Given.SeizeRuleRows.Told.{IsOnWay}
use Rattle.run_debts.proofs.Given.SeizeMemoryWords.Named.{link, link-block}
use Rattle.run_debts.proofs.Given.SeizeMemoryWords.Shows.{Extra}
use Rattle.run_debts.proofs.Given.SeizeMemoryWords.View.{View}
use Rattle.run_debts.specs.Given.TablesDeclared.node.Node.{Node}
use Rattle.run_debts.specs.Given.TablesDeclared.setting.Setting.{Setting}
use Rattle.run_debts.specs.Given.ResizeDeclared.dispose.Disposing.{Disposing}
use Rattle.run_debts.specs.Given.ResizeDeclared.dispose.Disposing.TheVariants as disposing
use Rattle.run_debts.specs.Given.ReservesDeclared.sweep.Sweeping.{Sweeping}
use Rattle.run_debts.specs.Given.ReservesDeclared.sweep.Sweeping.TheVariants as sweeping
use Rattle.run_debts.specs.Given.RawDeclared.machines.call.Calling.{Calling}
use Rattle.run_debts.specs.Given.RawDeclared.machines.call.Calling.TheVariants as calling
use Rattle.run_debts.specs.Given.RuleChart.{Chart}
use Rattle.run_debts.specs.Given.RuleWords.{Blocks}
use Rattle.run_debts.specs.Given.CallersRows.{row_of, row_of_disposal}
use Rattle.run_debts.specs.Given.CallersOverAll.{row_of_sweep}
use Rattle.run_debts.specs.Given.CallersTogether.{UnderWay, OnKey, ForRoom, Counting, OverAll, IsAtPoint}
use Rattle.run_debts.specs.Given.FinishesMachines.{machine_of}
use Rattle.run_debts.specs.Due.{ToPut, due_in_defer, due_in_disposing, due_in_calling, due_in_sweeping, due_in_row}
use Rattle.run_debts.proofs.Hand.Behind.{settle_puts, copying_puts, room_puts}
use Rattle.run_waiting.specs.Lives.Waiting.{IsPutting}
use Rattle.run_waiting.proofs.Lives.Rows.{on_the_way}
use Rattle.run_debts.specs.Given.ScenesScene.{slot_of}

-- the row is to put the block of this word behind the one that has that word
abbrev pub IsToPut : ℕ → At → Row → Type 0
IsToPut word place (Defers s c) = due_in_defer c c.stands ≡ Some (ToPut word place)
IsToPut word place _ = ⊥

-- what a call's machine is to put its row is to put
module _ (word : ℕ) (place : At) (slot : ℕ) where
  row_disposing : (p : Disposing) → due_in_disposing p ≡ Some (ToPut word place) → IsToPut word place (row_of_disposal slot p)
  row_disposing (disposing.Settles settle) due = absurd (settle_puts settle settle.stands word place due)
  row_disposing (disposing.Defers defer) due = due
  row_disposing disposing.Reads due = absurd (cc due)
  row_disposing (disposing.Walks table) due = absurd (cc due)
  row_disposing disposing.Over due = absurd (cc due)

  row_calling : (p : Calling) → due_in_calling p ≡ Some (ToPut word place) → IsToPut word place (row_of slot p)
  row_calling (calling.Disposes dispose answer) due = row_disposing dispose.stands due
  row_calling (calling.Helps copier goal) due = absurd (copying_puts copier.stands word place due)
  row_calling (calling.Copies copier) due = absurd (copying_puts copier.stands word place due)
  row_calling _ due = absurd (cc due)

  row_sweeping : (p : Sweeping) → due_in_sweeping p ≡ Some (ToPut word place) → IsToPut word place (row_of_sweep slot p)
  row_sweeping (sweeping.Disposes dispose) due = row_disposing dispose.stands due
  row_sweeping (sweeping.Copies copier) due = absurd (copying_puts copier.stands word place due)
  row_sweeping _ due = absurd (cc due)

-- unless it has no row under way
module _ {K V : Type 0} (same : K → K → Bool) (hash : K → ℕ) (setting : Setting) (w : World (Node K V)) (c : Chart K) (blocks : Blocks) (i word : ℕ) (place : At) where
  pub to_put : (u : UnderWay K V K) → IsAtPoint V same hash same setting slot_of w c blocks i u → (w.row i ≡ Rests → ⊥) → due_in_row (machine_of u) ≡ Some (ToPut word place) → IsToPut word place (w.row i)
  to_put (OnKey x) (inl (rests, knows)) goes due = absurd (goes rests)
  to_put (OnKey x) (inr (row, is_row, knows)) goes due = subst (IsToPut word place) (sym row) (row_calling word place (slot_of i) x.call.stands due)
  to_put (ForRoom r) stands goes due = absurd (room_puts r.reserve.stands word place due)
  to_put (Counting sum) stands goes due = absurd (cc due)
  to_put (OverAll o) (inl (rests, knows)) goes due = absurd (goes rests)
  to_put (OverAll o) (inr (row, is_row, knows)) goes due = subst (IsToPut word place) (sym row) (row_sweeping word place (slot_of i) o.sweep.stands due)

-- so it is putting the one behind the other
module _ (n i : ℕ) (f : View) (m : State) (x : Extra) (word block : ℕ) (place : At) (its : IsWordOf block place) where
  putting_at : (s : ℕ) (c : Defer) (p : Deferring) → c.stands ≡ p → IsOnWay p → FitsDefer n i f m x s c.block c.table_word p → c.block ≡ word → c.table_word ≡ place → IsPutting (block_in word) block (Defers s c)
  putting_at s c p is on fits word_same place_same =
      let way = on_the_way n i f m x s c.block c.table_word p on fits in
      let names : block_in word ≡ way.b = ap block_in (sym word_same ∙ way.block_is) ∙ link-block way.b in (
        λ over. subst IsOnWay (sym is ∙ over) on,
        way.block_is ∙ ap link (sym names),
        subst (IsWordOf block) (sym place_same) its,
      )

  put_on_way : (s : ℕ) (c : Defer) → FitsDefer n i f m x s c.block c.table_word c.stands → due_in_defer c c.stands ≡ Some (ToPut word place) → IsPutting (block_in word) block (Defers s c)
  put_on_way s c fits due = by c.stands refl fits due
    where
      by : (p : Deferring) → c.stands ≡ p → FitsDefer n i f m x s c.block c.table_word p → due_in_defer c p ≡ Some (ToPut word place) → IsPutting (block_in word) block (Defers s c)
      by deferring.Reads is g d = putting_at s c deferring.Reads is tt g (cc d) (cc d)
      by (deferring.Links head) is g d = putting_at s c (deferring.Links head) is tt g (cc d) (cc d)
      by (deferring.Pushes head) is g d = putting_at s c (deferring.Pushes head) is tt g (cc d) (cc d)
      by deferring.Over is g d = absurd (cc d)

  pub is_putting : (k : ℕ) (row : Row) → FitsRow n i f m x k row → IsToPut word place row → IsPutting (block_in word) block row
  is_putting k (Defers s c) fits due = put_on_way s c fits due
  is_putting k Rests fits due = absurd due
  is_putting k (Registers c) fits due = absurd due
  is_putting k (Enters c) fits due = absurd due
  is_putting k (Settles c) fits due = absurd due
  is_putting k (Leaves c) fits due = absurd due
  is_putting k (Frees c) fits due = absurd due
