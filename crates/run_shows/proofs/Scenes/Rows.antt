-- Rows on slots in the world: the one that begins is there, and no two of them are one row of the world.
use Rattle.std.specs.Prelude.{◌≡◌, ℕ, Option}
use Rattle.std.proofs.Common.{ap, ◌∙◌}
use Rattle.seize.specs.World.{World, Row, Rests, Begins, with_at}
use Rattle.seize_acts.proofs.Given.SeizeRuleRows.Others.{with_here}
use Rattle.run_shows.specs.Scenes.Rows.{begun_row, request_of}
use Rattle.run_shows.specs.Scenes.Scene.{row_of}
use Rattle.run_shows.specs.declared.row.SlotCall.{SlotCall}
use Rattle.run_shows.specs.declared.row.SlotCall.TheVariants as call
use Rattle.run_shows.specs.declared.row.SlotRow.{SlotRow}
use Rattle.run_shows.specs.declared.row.SlotRow.TheVariants as rows

-- a row under way does not rest
pub never_rests : (row : SlotRow) → row_of row ≡ Rests → ⊥
never_rests (rows.Registers register) e = cc e
never_rests (rows.Enters enter) e = cc e
never_rests (rows.Leaves leave) e = cc e
never_rests (rows.Flushes settle) e = cc e
never_rests (rows.Frees unregister) e = cc e

-- and it is the one that the world has
pub one_row : (row other : SlotRow) → row_of row ≡ row_of other → row ≡ other
one_row (rows.Registers c) (rows.Registers d) e = let one : c ≡ d = cc e in ap rows.Registers one
one_row (rows.Enters c) (rows.Enters d) e = let one : c ≡ d = cc e in ap rows.Enters one
one_row (rows.Leaves c) (rows.Leaves d) e = let one : c ≡ d = cc e in ap rows.Leaves one
one_row (rows.Flushes c) (rows.Flushes d) e = let one : c ≡ d = cc e in ap rows.Flushes one
one_row (rows.Frees c) (rows.Frees d) e = let one : c ≡ d = cc e in ap rows.Frees one
one_row _ _ e = absurd (cc e)

module _ {T : Type 0} (defers : T → Option ℕ) (size i : ℕ) (w v : World T) where
  here : (row : Row) → v.row ≡ with_at w.row i row → v.row i ≡ row
  here row is = ap (λ (f : ℕ → Row). f i) is ∙ with_here w.row i row

  -- a caller has the row under way that it has begun
  pub begun_there : (slot : ℕ) (called : SlotCall) → Begins defers size i (request_of slot called) w v → v.row i ≡ row_of (begun_row slot size called)
  begun_there slot (call.Register enters) begins = here (row_of (begun_row slot size (call.Register enters))) (ap (λ (x : World T). x.row) begins)
  begun_there slot call.Enter begins = here (row_of (begun_row slot size call.Enter)) (ap (λ (x : World T). x.row) begins.1)
  begun_there slot call.Leave begins = here (row_of (begun_row slot size call.Leave)) (ap (λ (x : World T). x.row) begins.1)
  begun_there slot call.LeaveOwned begins = here (row_of (begun_row slot size call.LeaveOwned)) (ap (λ (x : World T). x.row) begins.1)
  begun_there slot call.Refresh begins = here (row_of (begun_row slot size call.Refresh)) (ap (λ (x : World T). x.row) begins.1)
  begun_there slot call.Flush begins = here (row_of (begun_row slot size call.Flush)) (ap (λ (x : World T). x.row) begins.1)
  begun_there slot call.Unregister begins = here (row_of (begun_row slot size call.Unregister)) (ap (λ (x : World T). x.row) begins.1)
