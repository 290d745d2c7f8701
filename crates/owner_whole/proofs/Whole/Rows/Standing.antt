-- Where a call stands at a row of the collector: it does not rest there, and once the row is over it knows what is to be known in the root's table.
use Rattle.std.specs.Prelude.{◌≡◌, ℕ, ◌==◌, Bool, true, false, if◌then◌else◌}
use Rattle.std.proofs.Common.{ap, arith}
use Rattle.seize.specs.World.{World, Rests}
use Rattle.map_tables.specs.declared.node.Node.{Node}
use Rattle.map_tables.specs.declared.setting.Setting.{Setting}
use Rattle.map_tables.specs.declared.table.Table.{Table}
use Rattle.map_measures.specs.Given.ResizeCopierStates.{standing}
use Rattle.map_measures.specs.Given.ResizeDeclared.copier.Copier.{Copier}
use Rattle.map_measures.specs.Given.ResizeDeclared.copier.Copying.{Copying}
use Rattle.map_measures.specs.Given.ResizeDeclared.copier.Copying.TheVariants as copies
use Rattle.map_measures.specs.Given.ResizeDeclared.dispose.Dispose.{Dispose}
use Rattle.map_measures.specs.Given.ResizeDeclared.dispose.Disposing.{Disposing}
use Rattle.seize.specs.declared.rows.settle.Settle.{Settle}
use Rattle.papaya_raw.specs.declared.machines.answer.KeyAnswer.{KeyAnswer}
use Rattle.map_measures.specs.Given.ResizeDeclared.dispose.Disposing.TheVariants as disposes
use Rattle.papaya_raw.specs.declared.machines.call.KeyCall.{KeyCall}
use Rattle.papaya_raw.specs.declared.machines.call.Calling.{Calling}
use Rattle.papaya_raw.specs.declared.machines.call.Calling.TheVariants as at
use Rattle.map_measures.specs.Given.RuleChart.{Chart}
use Rattle.map_measures.specs.Given.RuleMaps.{IsTable}
use Rattle.map_measures.specs.Given.RuleWords.{Blocks}
use Rattle.owner_facts.specs.Given.PointsFactsCalls.{Change, CallingFacts}
use Rattle.owner_facts.specs.Given.PointsFactsCopiesBlocking.{CopyingFactsBlocking}
use Rattle.owner_facts.specs.Given.PointsTold.{IsRowOf, IsRowOfCopier, IsRowOfCall}
use Rattle.owner_facts.specs.Given.LateLeft.{Left}
use Rattle.map_measures.specs.Given.LateLateCopies.{SupersededCopying}
use Rattle.owner_facts.specs.Given.LateLateCalls.{SupersededCalling}
use Rattle.map_measures.specs.Given.CallersRows.{row_of_disposal, row_of_copier, row_of, past_copying, past_row}
use Rattle.owner_facts.proofs.Given.CallersTogether.RowsOfCopiers.{at_retirement}
use Rattle.owner_whole.proofs.Whole.Rows.Account.{TargetIs}

-- the points of a call at which it stands at a row
pub at_row : (P : Calling → Type 0) → ((d : Dispose) (answer : KeyAnswer) → IsRowOf d.stands → P (at.Disposes d answer)) → ((copier : Copier) (goal : Table) → IsRowOfCopier copier.stands → P (at.Helps copier goal))
    → ((copier : Copier) → IsRowOfCopier copier.stands → P (at.Copies copier)) → (x : Calling) → IsRowOfCall x → P x
at_row P disposing helping copying (at.Disposes d answer) row = disposing d answer row
at_row P disposing helping copying (at.Helps copier goal) row = helping copier goal row
at_row P disposing helping copying (at.Copies copier) row = copying copier row
at_row P disposing helping copying at.Makes row = absurd row
at_row P disposing helping copying (at.Looks l) row = absurd row
at_row P disposing helping copying at.Roots row = absurd row
at_row P disposing helping copying at.Probes row = absurd row
at_row P disposing helping copying (at.Tries word new) row = absurd row
at_row P disposing helping copying (at.Counts removed) row = absurd row
at_row P disposing helping copying at.Nexts row = absurd row
at_row P disposing helping copying (at.Firsts making) row = absurd row
at_row P disposing helping copying (at.Allocs making) row = absurd row
at_row P disposing helping copying (at.Asks asks_at) row = absurd row
at_row P disposing helping copying (at.Drops end) row = absurd row
at_row P disposing helping copying (at.Over end) row = absurd row

-- a call that stands at a row does not rest within it
pub disposal_row : (slot : ℕ) (x : Disposing) → IsRowOf x → Rests ≡ row_of_disposal slot x → ⊥
disposal_row slot (disposes.Settles settle) row e = cc e
disposal_row slot (disposes.Defers defer) row e = cc e
disposal_row slot disposes.Reads row e = absurd row
disposal_row slot (disposes.Walks table) row e = absurd row
disposal_row slot disposes.Over row e = absurd row

pub copier_row : (x : Copying) → IsRowOfCopier x → Rests ≡ row_of_copier x → ⊥
copier_row x row = at_retirement (λ z. Rests ≡ row_of_copier z → ⊥) (λ settle rest e. cc e) x row

pub no_row_rests : (slot : ℕ) (x : Calling) → IsRowOfCall x → Rests ≡ row_of slot x → ⊥
no_row_rests slot =
    at_row (λ x. Rests ≡ row_of slot x → ⊥) (λ d answer row. disposal_row slot d.stands row) (λ copier goal row. copier_row copier.stands row) (λ copier row. copier_row copier.stands row)

module _ {K V : Type 0} (same : K → K → Bool) (hash : K → ℕ) (setting : Setting) (w : World (Node K V)) (caller : ℕ) (c : Chart K) (seen : Blocks) (p : Copier) where
  turn_is : (t : ℕ) → IsTable c seen p.target t → p.target.turn ≡ t
  turn_is t there = ap (λ (x : Table). x.turn) there.is

  abbrev retired_so : ℕ → Bool → Copier
  retired_so rest b = if b then standing p copies.Over else standing p (copies.Succeeds rest)

  -- a copier that retires a table, or has done so, has the root's as its target
  abbrev Facts : Copier → Copying → Type 0
  Facts q z = CopyingFactsBlocking same hash w caller setting c seen q z

  here_so : (settle : Settle) (rest : ℕ) → Facts p (copies.Retires settle rest) → p.target.turn ≡ c.first
  here_so settle rest f = turn_is c.first f.1.1

  over_so : (rest : ℕ) (b : Bool) → Facts (retired_so rest b) (retired_so rest b).stands → p.target.turn ≡ c.first
  over_so rest true f = turn_is c.first f.0
  over_so rest false f = turn_is c.first f.1.1

  pub target_here : (x : Copying) → IsRowOfCopier x → Facts p x → p.target.turn ≡ c.first
  target_here = at_retirement (λ z. Facts p z → p.target.turn ≡ c.first) here_so

  pub target_over : (x : Copying) → IsRowOfCopier x → Facts (past_copying p x) (past_copying p x).stands → p.target.turn ≡ c.first
  target_over = at_retirement (λ z. Facts (past_copying p z) (past_copying p z).stands → p.target.turn ≡ c.first) (λ settle rest. over_so rest (rest == 0))

  -- and so it is not late
  module _ (began : ℕ) (root : p.target.turn ≡ c.first) where
    abbrev Late : Copier → Copying → Type 0
    Late q z = SupersededCopying same hash w caller setting c seen began q z

    left_none : (t : ℕ) → IsTable c seen p.target t → Left c began t → ⊥
    left_none t there left = let l = left.behind in let e = turn_is t there in omega (arith, l, e, root)

    late_here : (settle : Settle) (rest : ℕ) → Late p (copies.Retires settle rest) → ⊥
    late_here settle rest late = left_none late.1 late.2.1 late.2.2

    late_then : (rest : ℕ) (b : Bool) → Late (retired_so rest b) (retired_so rest b).stands → ⊥
    late_then rest true late = left_none late.0 late.1 late.2
    late_then rest false late = left_none late.1 late.2.1 late.2.2

    pub late_now : (x : Copying) → IsRowOfCopier x → Late p x → ⊥
    late_now = at_retirement (λ z. Late p z → ⊥) late_here

    pub late_over : (x : Copying) → IsRowOfCopier x → Late (past_copying p x) (past_copying p x).stands → ⊥
    late_over = at_retirement (λ z. Late (past_copying p z) (past_copying p z).stands → ⊥) (λ settle rest. late_then rest (rest == 0))

module _ {K V Q : Type 0} (same : K → K → Bool) (hash : K → ℕ) (asks : Q → K → Bool) (setting : Setting) (w : World (Node K V)) (caller : ℕ) (c : Chart K) (seen : Blocks)
    (keys : K → Bool) (change : Change) (p : KeyCall K V Q) where
  abbrev Knowing : Calling → Type 0
  Knowing x = CallingFacts same hash asks w caller setting c seen keys change p x

  -- by what it knows, at the row or once that is over
  pub target_at : (x : Calling) → IsRowOfCall x → Knowing x → TargetIs c.first x
  target_at = at_row (λ x. Knowing x → TargetIs c.first x) (λ d answer row f. tt) (λ copier goal row f. tt) (λ copier row f. target_here same hash setting w caller c seen copier copier.stands row f.2.point)

  pub target_past : (x : Calling) → IsRowOfCall x → Knowing (past_row x) → TargetIs c.first x
  target_past =
      at_row (λ x. Knowing (past_row x) → TargetIs c.first x) (λ d answer row f. tt) (λ copier goal row f. tt) (λ copier row f. target_over same hash setting w caller c seen copier copier.stands row f.2.point)

  -- it is not late then
  module _ (began : ℕ) where
    abbrev Lately : Calling → Type 0
    Lately x = SupersededCalling same hash asks w caller setting c seen keys began p x

    pub never_late_at : (x : Calling) → IsRowOfCall x → TargetIs c.first x → Lately x → ⊥
    never_late_at = at_row (λ x. TargetIs c.first x → Lately x → ⊥) (λ d answer row root late. late) (λ copier goal row root late. late)
        (λ copier row root late. late_now same hash setting w caller c seen copier began root copier.stands row late.1.point)

    pub never_late_past : (x : Calling) → IsRowOfCall x → TargetIs c.first x → Lately (past_row x) → ⊥
    never_late_past = at_row (λ x. TargetIs c.first x → Lately (past_row x) → ⊥) (λ d answer row root late. late) (λ copier goal row root late. late)
        (λ copier row root late. late_over same hash setting w caller c seen copier began root copier.stands row late.1.point)
