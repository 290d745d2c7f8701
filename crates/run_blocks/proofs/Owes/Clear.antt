-- A walk that is ready has made nothing that it has not stored or linked, and is short of no growth.
use Rattle.std.specs.Prelude.{◌≡◌, ℕ, Bool, true, false, Option, None, option_map}
use Rattle.std.proofs.Common.{refl, ap, sym, ◌∙◌}
use Rattle.owner_calls.specs.Given.ResizeDeclared.new_table.NewTable.{NewTable}
use Rattle.run_debts.specs.Given.ReservesDeclared.sweep.Sweeping.{Sweeping}
use Rattle.run_debts.specs.Given.ReservesDeclared.sweep.Sweeping.TheVariants as sweeping
use Rattle.run_debts.specs.Given.RawMachine.{machine_asked, is_ready}
use Rattle.run_debts.specs.Given.RawDeclared.machines.machine.Machine.{Machine}
use Rattle.run_debts.specs.Given.RawDeclared.machines.machine.Machine.TheVariants as kinds
use Rattle.run_debts.specs.Given.FinishesMachines.{machine_of}
use Rattle.run_debts.specs.Given.EffectsKnown.{Known}
use Rattle.run_blocks.specs.Owes.Clear.{WalksAreClear}
use Rattle.run_blocks.specs.Owes.Made.{HasBlock, NamesBlock, own_word}
use Rattle.run_blocks.specs.Owes.Short.{fault_in_sweeping, fault_of}
use Rattle.run_blocks.specs.Owes.Tables.{of_map, table_made}
use Rattle.run_blocks.proofs.Owes.Between.{stopped_none}
use Rattle.run_blocks.proofs.Owes.Tables.Between.{ready_making}

-- who names no block has none
none_named : (known : Known) (i word : ℕ) → word ≡ 0 → NamesBlock known i word → (h : Bool) → HasBlock known i h → h ≡ false
none_named known i word none names true has = absurd ((names has.0 has.1).0 none)
none_named known i word none names false has = refl

ready_sweep : (q : Sweeping) → true ≡ is_ready q → fault_in_sweeping q ≡ None
ready_sweep sweeping.Ready e = refl
ready_sweep _ e = absurd (cc e)

ready_fault : {K V : Type 0} (y : Machine K V K) → true ≡ (machine_asked y).1 → fault_of y ≡ None
ready_fault (kinds.Sweep c) e = ready_sweep c.stands e
ready_fault (kinds.Key p) e = absurd (cc e)
ready_fault (kinds.Reserve r) e = absurd (cc e)
ready_fault (kinds.Count sum) e = refl

pub walks_are_clear : (K V : Type 0) → WalksAreClear K V
walks_are_clear K V name m known s made tables short map i u here ready c c_is = (
  none_named known i (own_word (machine_of u)) (stopped_none K V (machine_of u) (sym ready)) (made.named map i u here).1 c.has_block (made.has map i u here c c_is),
  tables.tables map i u here c c_is ∙ ap (λ (o : Option NewTable). option_map (of_map map) (table_made o)) (ready_making (machine_of u) (sym ready)),
  by c.is_short refl,
)
  where
    by : (q : Bool) → c.is_short ≡ q → q ≡ false
    by false e = refl
    by true e = absurd (let fault = short map i u here c c_is e in let none = ready_fault (machine_of u) (sym ready) in cc (fault, none))
