-- Within a row of the collector, a sweep copies the root, and so it is not late; and it goes on so once the row is over.
use Rattle.std.specs.Prelude.{◌≡◌, ℕ, Bool, false}
use Rattle.std.proofs.Common.{inl, inr}
use Rattle.seize.specs.World.{World}
use Rattle.map_tables.specs.Chunks.{is_incremental}
use Rattle.map_tables.specs.declared.node.Node.{Node}
use Rattle.map_tables.specs.declared.setting.Setting.{Setting}
use Rattle.map_measures.specs.Given.ResizeDeclared.copier.Copier.{Copier}
use Rattle.papaya_raw.specs.Given.ReservesDeclared.sweep.Sweep.{Sweep}
use Rattle.papaya_raw.specs.Given.ReservesDeclared.sweep.Sweeping.{Sweeping}
use Rattle.papaya_raw.specs.Given.ReservesDeclared.sweep.Sweeping.TheVariants as at
use Rattle.map_measures.specs.Given.RuleChart.{Chart}
use Rattle.map_measures.specs.Given.RuleWords.{Blocks}
use Rattle.owner_facts.specs.Given.PointsTold.{IsRowOfCopier}
use Rattle.owner_facts.specs.Given.LateFactsSweeps.{CopiesPairs, CopiesTable, SweepingFacts}
use Rattle.owner_facts.specs.Given.LateToldSweeps.{IsRowOfSweep}
use Rattle.owner_facts.specs.Given.CallersOverAll.{past_sweeping}
use Rattle.map_measures.specs.Given.CallersRows.{past_copying}
use Rattle.owner_facts.specs.Given.CallersTogether.{in_slot}
use Rattle.owner_facts.proofs.Given.CallersTogether.SweepRows.{at_row}
use Rattle.owner_whole.specs.Whole.Owner.{IsFirst, CopiesOfRoot}
use Rattle.owner_whole.proofs.Whole.Fresh.Rooms.{whole_blocking}
use Rattle.owner_whole.proofs.Whole.Fresh.Sweeps.{CopiesRoot}
use Rattle.owner_whole.proofs.Whole.Rows.Standing.{target_here, target_over, late_now, late_over}
use Rattle.owner_whole.proofs.Whole.Sweeps.Account.{SweepTargetIs}

module _ {K V Q : Type 0} (same : K → K → Bool) (hash : K → ℕ) (asks : Q → K → Bool) (setting : Setting) (slot : ℕ → ℕ) (w : World (Node K V)) (c : Chart K) (seen : Blocks) (began : ℕ) where
  abbrev here : Setting
  here = in_slot setting (slot 0)

  abbrev b : Bool
  b = is_incremental setting.mode

  -- its target is the root
  pub sweep_target_at : b ≡ false → (x : Sweeping) → IsRowOfSweep x → CopiesRoot same hash here w c seen x → SweepTargetIs c.first x
  sweep_target_at blocking = at_row (λ x. CopiesRoot same hash here w c seen x → SweepTargetIs c.first x)
      (λ p row f. target_here same hash here w 0 c seen p p.stands row (whole_blocking same hash here w 0 c seen blocking p f).point) (λ d row f. tt)

  pub sweep_target_past : b ≡ false → (x : Sweeping) → IsRowOfSweep x → CopiesRoot same hash here w c seen (past_sweeping x) → SweepTargetIs c.first x
  sweep_target_past blocking = at_row (λ x. CopiesRoot same hash here w c seen (past_sweeping x) → SweepTargetIs c.first x)
      (λ p row f. target_over same hash here w 0 c seen p p.stands row (whole_blocking same hash here w 0 c seen blocking (past_copying p p.stands) f).point) (λ d row f. tt)

  -- and so it copies the root
  first_at : (p : Copier) → IsRowOfCopier p.stands → (b ≡ false → p.target.turn ≡ c.first) → (x : CopiesTable same hash w 0 here c seen began p) → IsFirst x
  first_at p row root (inl f) = tt
  first_at p row root (inr (blocking, late)) = late_now same hash here w 0 c seen p began (root blocking) p.stands row late.point

  first_past : (p : Copier) → IsRowOfCopier p.stands → (b ≡ false → p.target.turn ≡ c.first) → (x : CopiesTable same hash w 0 here c seen began (past_copying p p.stands)) → IsFirst x
  first_past p row root (inl f) = tt
  first_past p row root (inr (blocking, late)) = late_over same hash here w 0 c seen p began (root blocking) p.stands row late.point

  module _ (q : Sweep) where
    abbrev OfRoot : (x : Sweeping) → SweepingFacts same hash w 0 here c seen began q x → Type 0
    OfRoot x point = CopiesOfRoot same hash asks setting slot w c seen began q x point

    pub of_root_at : (x : Sweeping) → IsRowOfSweep x → (b ≡ false → SweepTargetIs c.first x) → (point : SweepingFacts same hash w 0 here c seen began q x) → OfRoot x point
    of_root_at = at_row (λ x. (b ≡ false → SweepTargetIs c.first x) → (point : SweepingFacts same hash w 0 here c seen began q x) → OfRoot x point)
        (λ p row root point. first_at p row root point) (λ d row root point. tt)

    pub of_root_past : (x : Sweeping) → IsRowOfSweep x → (b ≡ false → SweepTargetIs c.first x) → (point : SweepingFacts same hash w 0 here c seen began q (past_sweeping x)) → OfRoot (past_sweeping x) point
    of_root_past = at_row (λ x. (b ≡ false → SweepTargetIs c.first x) → (point : SweepingFacts same hash w 0 here c seen began q (past_sweeping x)) → OfRoot (past_sweeping x) point)
        (λ p row root point. first_past p row root point) (λ d row root point. tt)

    pub of_root_none : (x : Sweeping) → (CopiesPairs x → ⊥) → (point : SweepingFacts same hash w 0 here c seen began q x) → OfRoot x point
    of_root_none (at.Copies copier) other point = absurd (other tt)
    of_root_none at.Reads other point = tt
    of_root_none at.Follows other point = tt
    of_root_none at.Ready other point = tt
    of_root_none at.Words other point = tt
    of_root_none (at.Asks word) other point = tt
    of_root_none (at.Tries word) other point = tt
    of_root_none (at.Counts removed) other point = tt
    of_root_none (at.Disposes dispose) other point = tt
    of_root_none at.Over other point = tt
    of_root_none (at.Refused fault) other point = tt
