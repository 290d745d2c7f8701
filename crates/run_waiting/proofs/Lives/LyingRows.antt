-- A row that puts a block behind another one goes on doing so with its step, or has put it there; it does so from its first step on, and it is as its call's machine says.
use Rattle.std.specs.Prelude.{◌≡◌, ◌≢◌, ◌⊎◌, ℕ, Bool, Option, Some, if◌then◌else◌}
use Rattle.std.proofs.Common.{refl, ap, sym, subst, ◌∙◌, inl, inr}
use Rattle.std.proofs.lemmas.Bool.{eq-eqb}
use Rattle.run_debts.specs.Given.SeizeWordsDeclared.at.At.{At}
use Rattle.run_debts.specs.Given.SeizeWordsDeclared.at.At.TheVariants.{Root, Used, Slot, Entry, Word}
use Rattle.run_debts.specs.Given.SeizeWordsOp.{Found, Stored, Exchanged, Made, Taken, Roomed}
use Rattle.run_debts.specs.Given.SeizeWordsWord.{link_to}
use Rattle.run_debts.specs.Given.SeizeDefer.{deferring}
use Rattle.run_debts.specs.Given.SeizeFurther.{IsWordOf}
use Rattle.run_debts.specs.Given.SeizeDeclared.advance.Advance.{Advance as Deferring}
use Rattle.run_debts.specs.Given.SeizeDeclared.rows.defer.Defer.{Defer}
use Rattle.run_debts.specs.Given.SeizeDeclared.rows.defer.Deferring.{Deferring as Point}
use Rattle.run_debts.specs.Given.SeizeDeclared.rows.defer.Deferring.TheVariants as at
use Rattle.run_debts.specs.Given.SeizeWorld.{World, Row, Rests, Registers, Enters, Settles, Leaves, Defers, Frees, Use, Defer', Begins, Steps', defers_on, with_at}
use Rattle.run_debts.proofs.Given.SeizeMovesState.Ghost.{State}
use Rattle.run_debts.proofs.Given.SeizeRuleRows.Told.{RowTold, SettleGoes, SettleEnds, LeaveSwaps, LeaveGoes, LeaveSettled, LeaveEnds, RegisterLooks, RegisterRefused, RegisterTakes, RegisterEnters, EntersSlot, FreesSlot, DeferGoes, DeferPushes, DeferEnds}
use Rattle.run_debts.specs.Given.TablesDeclared.node.Node.{Node}
use Rattle.run_debts.specs.Given.TablesDeclared.setting.Setting.{Setting}
use Rattle.run_debts.specs.Given.ResizeDeclared.copier.Copying.{Copying}
use Rattle.run_debts.specs.Given.ResizeDeclared.copier.Copying.TheVariants as copying
use Rattle.run_debts.specs.Given.ResizeDeclared.dispose.Disposing.{Disposing}
use Rattle.run_debts.specs.Given.ResizeDeclared.dispose.Disposing.TheVariants as disposing
use Rattle.run_debts.specs.Given.ReservesDeclared.reserve.Reserving.{Reserving}
use Rattle.run_debts.specs.Given.ReservesDeclared.reserve.Reserving.TheVariants as reserving
use Rattle.run_debts.specs.Given.ReservesDeclared.sweep.Sweeping.{Sweeping}
use Rattle.run_debts.specs.Given.ReservesDeclared.sweep.Sweeping.TheVariants as sweeping
use Rattle.run_debts.specs.Given.RawDeclared.machines.call.Calling.{Calling}
use Rattle.run_debts.specs.Given.RawDeclared.machines.call.Calling.TheVariants as calling
use Rattle.run_debts.specs.Given.RawDeclared.machines.machine.Machine.{Machine}
use Rattle.run_debts.specs.Given.RawDeclared.machines.machine.Machine.TheVariants as kinds
use Rattle.run_debts.specs.Given.RuleChart.{Chart}
use Rattle.run_debts.specs.Given.RuleWords.{Blocks}
use Rattle.run_debts.specs.Given.CallersRows.{row_of, row_of_disposal, row_of_copier}
use Rattle.run_debts.specs.Given.CallersRooms.{row_of_room}
use Rattle.run_debts.specs.Given.CallersOverAll.{row_of_sweep}
use Rattle.run_debts.specs.Given.CallersTogether.{UnderWay, OnKey, ForRoom, Counting, OverAll, IsAtPoint}
use Rattle.run_debts.specs.Given.EffectsEffects.{named}
use Rattle.run_debts.specs.Given.EffectsKnown.{Known}
use Rattle.run_debts.specs.Given.FinishesMachines.{machine_of}
use Rattle.run_debts.specs.Due.{ToPut, due_in_defer, due_in_disposing, due_in_copying, due_in_calling, due_in_reserving, due_in_sweeping, due_in_row}
use Rattle.run_debts.specs.Hand.{IsPairRole, NotesPending}
use Rattle.run_debts.proofs.Hand.Behind.{key_puts, room_puts, sweep_puts}
use Rattle.run_waiting.specs.Lives.Waiting.{IsPutting}
use Rattle.run_waiting.proofs.Lives.Putting.{not_over}
use Rattle.run_waiting.proofs.Lives.Puts.{IsToPut}
use Rattle.run_debts.specs.Given.ScenesScene.{slot_of}

-- it has put it there
abbrev pub HasPut : Row → Type 0
HasPut (Defers s c) = c.stands ≡ at.Over
HasPut _ = ⊥

-- its step
module _ (n i b t : ℕ) (row row2 : Row) (uses uses2 : ℕ → Use) (m m2 : State) (puts : IsPutting b t row) where
  as_row : (r : Row) → row ≡ r → IsPutting b t r
  as_row r is = subst (IsPutting b t) is puts

  abbrev Goes : Type 0
  Goes = IsPutting b t row2 ⊎ HasPut row2

  pub put_on : RowTold n i row m uses row2 m2 uses2 → Goes
  put_on (SettleGoes c c2 r r2 slot told) = absurd (as_row (Settles c) r)
  put_on (SettleEnds c r r2 stands e) = absurd (as_row (Settles c) r)
  put_on (LeaveSwaps c again es p r r2 stands lt becomes head e behind) = absurd (as_row (Leaves c) r)
  put_on (LeaveGoes c settle settle2 r r2 stands slot told) = absurd (as_row (Leaves c) r)
  put_on (LeaveSettled c settle r stands over settled e) = absurd (as_row (Leaves c) r)
  put_on (LeaveEnds c r settled settled2 u) = absurd (as_row (Leaves c) r)
  put_on (RegisterLooks c c2 r r2 looks looks2 enters same_uses e) = absurd (as_row (Registers c) r)
  put_on (RegisterRefused c r r2 looks same_uses e) = absurd (as_row (Registers c) r)
  put_on (RegisterTakes c r looks vacant takes u) = absurd (as_row (Registers c) r)
  put_on (RegisterEnters c r r2 stands lt head e uses_are) = absurd (as_row (Registers c) r)
  put_on (EntersSlot c r r2 lt head e) = absurd (as_row (Enters c) r)
  put_on (FreesSlot c r r2 u) = absurd (as_row (Frees c) r)
  put_on (DeferGoes s c p r r2 on on2 e) = (let its = as_row (Defers s c) r in inl (subst (IsPutting b t) (sym r2) (not_over p on2, its.1, its.2)))
  put_on (DeferPushes s d u field c r r2 on block names e) = inr (subst HasPut (sym r2) refl)
  put_on (DeferEnds s c r r2 over u) = absurd ((as_row (Defers s c) r).0 over)

-- one that begins is putting it there after its first step
module _ {T : Type 0} (defers : T → Option ℕ) (size i : ℕ) (w v w3 : World T) where
  here : {X : Type 0} (f : ℕ → X) (x : X) → with_at f i x i ≡ x
  here f x = ap (λ (q : Bool). if q then x else f i) (eq-eqb i i refl)

  pub begun_puts : (s b t : ℕ) → Begins defers size i (Defer' s b t) w v → Steps' defers i (v.row i) v w3 → IsPutting b t (w3.row i)
  begun_puts s b t h step = by (subst (λ (r : Row). Steps' defers i r v w3) (ap (λ (z : World T). z.row i) h.7 ∙ here w.row (Defers s c)) step)
    where
      c : Defer
      c = deferring (link_to b) (Word t h.0)

      linked : (head : ℕ) → IsPutting b t (with_at v.row i (Defers s (record c { stands = at.Links head })) i)
      linked head = subst (IsPutting b t) (sym (here v.row (Defers s (record c { stands = at.Links head })))) ((λ e. cc e), refl, refl)

      by : Steps' defers i (Defers s c) v w3 → IsPutting b t (w3.row i)
      by (m2, end, (Found head, took, ends), is) =
          subst (λ (z : World T). IsPutting b t (z.row i)) (sym is) (subst (λ (e : Defer × Deferring Unit). IsPutting b t ((defers_on v i s m2 e).row i)) (sym ends) (linked head))
      by (m2, end, (Stored, took, ends), is) = absurd took.0
      by (m2, end, (Exchanged r, took, ends), is) = absurd took.0
      by (m2, end, (Made r, took, ends), is) = absurd took.0
      by (m2, end, (Taken r, took, ends), is) = absurd took.0
      by (m2, end, (Roomed r, took, ends), is) = absurd took.0

-- what a row is putting there it is to put
pub record PutsSo (b c : ℕ) (row : Row) : Type 0 where
  pub word : ℕ
  pub place : At
  pub is : IsToPut word place row
  pub block : word ≡ link_to b
  pub its : IsWordOf c place

pub puts_so : (b c : ℕ) (row : Row) → IsPutting b c row → PutsSo b c row
puts_so b c (Defers s d) puts = record { word = d.block; place = d.table_word; is = by d.stands puts.0; block = puts.1; its = puts.2 }
  where
    by : (p : Point) → p ≢ at.Over → due_in_defer d p ≡ Some (ToPut d.block d.table_word)
    by at.Reads ne = refl
    by (at.Links head) ne = refl
    by (at.Pushes head) ne = refl
    by at.Over ne = absurd (ne refl)
puts_so b c Rests puts = absurd puts
puts_so b c (Registers r) puts = absurd puts
puts_so b c (Enters e) puts = absurd puts
puts_so b c (Settles e) puts = absurd puts
puts_so b c (Leaves e) puts = absurd puts
puts_so b c (Frees e) puts = absurd puts

-- one that has put a block there is to put none
pub put_none : (word : ℕ) (place : At) (row : Row) → HasPut row → IsToPut word place row → ⊥
put_none word place (Defers s d) over due = (let none = subst (λ (p : Point). due_in_defer d p ≡ Some (ToPut word place)) over due in cc none)
put_none word place Rests over due = over
put_none word place (Registers r) over due = over
put_none word place (Enters e) over due = over
put_none word place (Settles e) over due = over
put_none word place (Leaves e) over due = over
put_none word place (Frees e) over due = over

-- a word is that of one block
pub same_word : (b c : ℕ) (place : At) → IsWordOf b place → IsWordOf c place → b ≡ c
same_word b c (Word u field) first second = first ∙ sym second
same_word b c (Root r) first second = absurd first
same_word b c (Used r) first second = absurd first
same_word b c (Slot u field) first second = absurd first
same_word b c (Entry u field) first second = absurd first

-- what a call's row is to put its machine is
module _ (word : ℕ) (place : At) (slot : ℕ) where
  disposing_put : (p : Disposing) → IsToPut word place (row_of_disposal slot p) → due_in_disposing p ≡ Some (ToPut word place)
  disposing_put (disposing.Settles settle) due = absurd due
  disposing_put (disposing.Defers defer) due = due
  disposing_put _ due = absurd due

  copying_put : (p : Copying) → IsToPut word place (row_of_copier p) → due_in_copying p ≡ Some (ToPut word place)
  copying_put (copying.Retires settle rest) due = absurd due
  copying_put _ due = absurd due

  calling_put : (p : Calling) → IsToPut word place (row_of slot p) → due_in_calling p ≡ Some (ToPut word place)
  calling_put (calling.Disposes dispose answer) due = disposing_put dispose.stands due
  calling_put (calling.Helps copier goal) due = copying_put copier.stands due
  calling_put (calling.Copies copier) due = copying_put copier.stands due
  calling_put _ due = absurd due

  reserving_put : (p : Reserving) → IsToPut word place (row_of_room p) → due_in_reserving p ≡ Some (ToPut word place)
  reserving_put (reserving.Copies copier) due = copying_put copier.stands due
  reserving_put _ due = absurd due

  sweeping_put : (p : Sweeping) → IsToPut word place (row_of_sweep slot p) → due_in_sweeping p ≡ Some (ToPut word place)
  sweeping_put (sweeping.Copies copier) due = copying_put copier.stands due
  sweeping_put (sweeping.Disposes dispose) due = disposing_put dispose.stands due
  sweeping_put _ due = absurd due

module _ {K V : Type 0} (same : K → K → Bool) (hash : K → ℕ) (setting : Setting) (w : World (Node K V)) (c : Chart K) (blocks : Blocks) (i word : ℕ) (place : At) where
  pub put_due : (u : UnderWay K V K) → IsAtPoint V same hash same setting slot_of w c blocks i u → IsToPut word place (w.row i) → due_in_row (machine_of u) ≡ Some (ToPut word place)
  put_due (OnKey x) (inl (rests, knows)) due = absurd (subst (IsToPut word place) rests due)
  put_due (OnKey x) (inr (row, is_row, knows)) due = calling_put word place (slot_of i) x.call.stands (subst (IsToPut word place) row due)
  put_due (ForRoom r) (inl (rests, knows)) due = absurd (subst (IsToPut word place) rests due)
  put_due (ForRoom r) (inr (row, is_row, knows)) due = reserving_put word place (slot_of i) r.reserve.stands (subst (IsToPut word place) row due)
  put_due (Counting sum) (rests, facts, idle) due = absurd (subst (IsToPut word place) rests due)
  put_due (OverAll o) (inl (rests, knows)) due = absurd (subst (IsToPut word place) rests due)
  put_due (OverAll o) (inr (row, is_row, knows)) due = sweeping_put word place (slot_of i) o.sweep.stands (subst (IsToPut word place) row due)

-- what is put behind another block is noted as a pair
pub puts_pair : {K V : Type 0} (known : Known) (p : Machine K V K) → NotesPending known p → (word : ℕ) (place : At) → due_in_row p ≡ Some (ToPut word place) → IsPairRole (named known word)
puts_pair known (kinds.Key x) notes word place e = key_puts known x.stands notes word place e
puts_pair known (kinds.Reserve r) notes word place e = absurd (room_puts r.stands word place e)
puts_pair known (kinds.Sweep c) notes word place e = sweep_puts known c.stands notes word place e
puts_pair known (kinds.Count sum) notes word place e = absurd (cc e)
