-- A row that is putting a block behind another one was doing so before its step, and the other one is held in its section: so it is not taken.
use Rattle.std.specs.Prelude.{◌≢◌, ◌⊎◌, ◌++◌}
use Rattle.std.proofs.Common.{◌≡◌, ℕ, Bool, true, false, List, [], ◌∷◌, refl, ap, sym, subst, ◌∙◌, inl, inr}
use Rattle.std.proofs.lemmas.Bool.{cases_eq}
use Rattle.run_debts.specs.Given.SeizeWordsDeclared.at.At.{At}
use Rattle.run_debts.specs.Given.SeizeWordsDeclared.at.At.TheVariants.{Root, Used, Slot, Entry, Word}
use Rattle.run_debts.specs.Given.SeizeFurther.{IsWordOf}
use Rattle.run_debts.specs.Given.SeizeLaw.{Effect, Entered, Left, Retired, Taken, holds, IsSound}
use Rattle.run_debts.specs.Given.SeizeSequence.{taken_in}
use Rattle.run_debts.specs.Given.SeizeDeclared.rows.defer.Deferring.{Deferring}
use Rattle.run_debts.specs.Given.SeizeDeclared.rows.defer.Deferring.TheVariants as at
use Rattle.run_debts.specs.Given.SeizeDeclared.rows.register.Register.{Register}
use Rattle.run_debts.specs.Given.SeizeWorld.{Row, Rests, Registers, Enters, Settles, Leaves, Defers, Frees, Use, IsOnto, times}
use Rattle.run_debts.proofs.Given.SeizeMovesState.Ghost.{IsDeferring, State}
use Rattle.run_debts.proofs.Given.SeizeRuleRows.Effects.{IsOneStep}
use Rattle.run_debts.proofs.Given.SeizeRuleRows.Known.{FitsRow}
use Rattle.run_debts.proofs.Given.SeizeRuleRows.Told.{HasSettled, TakesFor, IsOnWay, RowTold, SettleGoes, SettleEnds, LeaveSwaps, LeaveGoes, LeaveSettled, LeaveEnds, RegisterLooks, RegisterRefused, RegisterTakes, RegisterEnters, EntersSlot, FreesSlot, DeferGoes, DeferPushes, DeferEnds}
use Rattle.run_debts.proofs.Given.SeizeMemoryWords.Shows.{Extra}
use Rattle.run_debts.proofs.Given.SeizeMemoryWords.View.{View}
use Rattle.run_waiting.specs.Lives.Waiting.{IsPutting}
use Rattle.run_waiting.proofs.Lives.Logs.{one_apart}
use Rattle.run_waiting.proofs.Lives.Rows.{its_life, on_the_way}

pub on_way : (p : Deferring) → p ≢ at.Over → IsOnWay p
on_way at.Reads ne = tt
on_way (at.Links head) ne = tt
on_way (at.Pushes head) ne = tt
on_way at.Over ne = absurd (ne refl)

pub not_over : (p : Deferring) → IsOnWay p → p ≢ at.Over
not_over p on e = subst IsOnWay e on

pub puts_onto : (b t : ℕ) (row : Row) → IsPutting b t row → IsOnto t row
puts_onto b t (Defers s c) puts = puts.2
puts_onto b t _ puts = absurd puts

-- its life
pub putting_life : (n i : ℕ) (f : View) (m : State) (x : Extra) (k b t : ℕ) (row : Row) → FitsRow n i f m x k row → IsPutting b t row → (s : ℕ) × (m.life b ≡ IsDeferring i s t)
putting_life n i f m x k b t (Defers s c) fits puts = (s, by c.table_word refl puts.2)
  where
    by : (word : At) → c.table_word ≡ word → IsWordOf t word → m.life b ≡ IsDeferring i s t
    by (Word u field) e same =
        its_life n i f m x s b u field c.block c.table_word puts.1 e (on_the_way n i f m x s c.block c.table_word c.stands (on_way c.stands puts.0) fits) ∙ ap (IsDeferring i s) (sym same)
    by (Root r) e same = absurd same
    by (Used r) e same = absurd same
    by (Slot u field) e same = absurd same
    by (Entry u field) e same = absurd same
putting_life n i f m x k b t Rests fits puts = absurd puts
putting_life n i f m x k b t (Registers c) fits puts = absurd puts
putting_life n i f m x k b t (Enters c) fits puts = absurd puts
putting_life n i f m x k b t (Settles c) fits puts = absurd puts
putting_life n i f m x k b t (Leaves c) fits puts = absurd puts
putting_life n i f m x k b t (Frees c) fits puts = absurd puts

-- what one step of a row takes no section holds
pub taken_free : (x : ℕ) (effects log : List Effect) → IsOneStep effects → IsSound (effects ++ log) → (times x (taken_in effects) ≡ 0 → ⊥) → (s : ℕ) → holds s x log ≡ false
taken_free x [] log one sound some = absurd (some refl)
taken_free x (Entered s ∷ []) log one sound some = absurd (some refl)
taken_free x (Left s ∷ []) log one sound some = absurd (some refl)
taken_free x (Retired c ∷ []) log one sound some = absurd (some refl)
taken_free x (Taken c ∷ []) log one sound some = by (cases_eq x c)
  where
    by : (x ≡ c) ⊎ (x ≢ c) → (s : ℕ) → holds s x log ≡ false
    by (inl e) s = ap (λ (k : ℕ). holds s k log) e ∙ sound.2 s
    by (inr ne) s = absurd (some (one_apart x c ne))
taken_free x (_ ∷ []) log one sound some = absurd one
taken_free x (e ∷ f ∷ effects) log one sound some = absurd one

-- its own step
module _ (n i b t : ℕ) (row row2 : Row) (uses uses2 : ℕ → Use) (m m2 : State) (puts : IsPutting b t row2) where
  as_row : (r : Row) → row2 ≡ r → IsPutting b t r
  as_row r is = subst (IsPutting b t) is puts

  settled_none : (r : Row) → HasSettled r → IsPutting b t r → ⊥
  settled_none Rests settled its = its
  settled_none (Leaves c) settled its = its
  settled_none _ settled its = settled

  takes_none : (q : Bool) (c : Register) → TakesFor q c uses row2 uses2 → ⊥
  takes_none true c takes = as_row (Registers _) takes.0
  takes_none false c takes = as_row Rests takes.0

  pub put_before : RowTold n i row m uses row2 m2 uses2 → IsPutting b t row
  put_before (SettleGoes c c2 r r2 slot told) = absurd (as_row (Settles c2) r2)
  put_before (SettleEnds c r r2 stands e) = absurd (as_row Rests r2)
  put_before (LeaveSwaps c again es p r r2 stands lt becomes head e behind) = absurd (as_row (Leaves _) r2)
  put_before (LeaveGoes c settle settle2 r r2 stands slot told) = absurd (as_row (Leaves _) r2)
  put_before (LeaveSettled c settle r stands over settled e) = absurd (settled_none row2 settled puts)
  put_before (LeaveEnds c r settled settled2 u) = absurd (settled_none row2 settled2 puts)
  put_before (RegisterLooks c c2 r r2 looks looks2 enters same_uses e) = absurd (as_row (Registers c2) r2)
  put_before (RegisterRefused c r r2 looks same_uses e) = absurd (as_row Rests r2)
  put_before (RegisterTakes c r looks vacant takes u) = absurd (takes_none c.enters c takes)
  put_before (RegisterEnters c r r2 stands lt head e uses_are) = absurd (as_row Rests r2)
  put_before (EntersSlot c r r2 lt head e) = absurd (as_row Rests r2)
  put_before (FreesSlot c r r2 u) = absurd (as_row Rests r2)
  put_before (DeferGoes s c p r r2 on on2 e) = (let its = as_row (Defers s (record c { stands = p })) r2 in subst (IsPutting b t) (sym r) (not_over c.stands on, its.1, its.2))
  put_before (DeferPushes s d u field c r r2 on block names e) = absurd ((as_row (Defers s (record c { stands = at.Over })) r2).0 refl)
  put_before (DeferEnds s c r r2 over u) = absurd (as_row Rests r2)
