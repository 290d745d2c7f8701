-- No reservation knows both what its point says in the root's table, and what is to be known in one that the root has left.
use Rattle.std.specs.Prelude.{◌≡◌, ℕ, ◌≤◌, Bool, true, false, cond}
use Rattle.std.proofs.Common.{subst}
use Rattle.seize.specs.World.{World}
use Rattle.map_tables.specs.Chunks.{is_incremental}
use Rattle.map_tables.specs.declared.node.Node.{Node}
use Rattle.map_tables.specs.declared.setting.Setting.{Setting}
use Rattle.map_measures.specs.Given.ResizeDeclared.copier.Copier.{Copier}
use Rattle.papaya_raw.specs.Given.ReservesDeclared.reserve.Reserve.{Reserve}
use Rattle.papaya_raw.specs.Given.ReservesDeclared.reserve.Reserving.{Reserving}
use Rattle.papaya_raw.specs.Given.ReservesDeclared.reserve.Reserving.TheVariants as at
use Rattle.map_measures.specs.Given.RuleChart.{Chart}
use Rattle.map_measures.specs.Given.RuleWords.{Blocks}
use Rattle.map_measures.specs.Given.RuleInWorld.{IsMapIn}
use Rattle.owner_facts.specs.Given.PointsFactsCopies.{CopierFacts}
use Rattle.owner_facts.specs.Given.PointsFactsCopiesBlocking.{CopierFactsBlocking}
use Rattle.owner_facts.specs.Given.LateFactsReserves.{IsRoot, IsEnding, CopiesWhole, ReservingFacts, ReserveFacts}
use Rattle.owner_facts.specs.Given.LateLateReserves.{SupersededReserving, SupersededReserveFacts}
use Rattle.owner_whole.proofs.Whole.Fresh.Calls.{table_none, copying_none, making_none}

module _ {K V : Type 0} (same : K → K → Bool) (hash : K → ℕ) (setting : Setting) (w : World (Node K V)) (caller : ℕ) (c : Chart K) (blocks : Blocks) where
  pub root_blocking : is_incremental setting.mode ≡ false → (t : ℕ) → IsRoot same hash w caller setting c blocks t → t ≡ c.first
  root_blocking blocking t h = subst (λ (x : Bool). cond x (t ≤ c.first) (t ≡ c.first)) blocking h

  pub whole_blocking : is_incremental setting.mode ≡ false → (copier : Copier) → CopiesWhole same hash w caller setting c blocks copier → CopierFactsBlocking same hash w caller setting c blocks copier
  whole_blocking blocking copier h = subst (λ (x : Bool). cond x ((copier.whole ≡ true) × CopierFacts same hash w caller setting c blocks copier × IsEnding same hash w caller setting c blocks copier copier.stands)
      (CopierFactsBlocking same hash w caller setting c blocks copier)) blocking h

  module _ (seen : Blocks) (map : IsMapIn same hash setting w c blocks) (sees : IsMapIn same hash setting w c seen) (began : ℕ) (blocking : is_incremental setting.mode ≡ false) where
    reserving_none : (stands : Reserving) → ReservingFacts same hash w caller setting c blocks stands → SupersededReserving same hash w caller setting c seen began stands → ⊥
    reserving_none (at.Makes making) f late = making_none same hash setting blocking w caller c blocks seen map sees began making.stands f.point late.point
    reserving_none (at.Sums table sum) ((t, there, root), facts) ((u, late, left), more) =
        table_none same hash setting blocking w caller c blocks seen map sees began table t u (root_blocking blocking t root) there late left
    reserving_none (at.Follows table need) ((t, there, root), facts) (u, late, left) =
        table_none same hash setting blocking w caller c blocks seen map sees began table t u (root_blocking blocking t root) there late left
    reserving_none (at.Grows table making) (t, there, root, facts) (u, late, left, more) =
        table_none same hash setting blocking w caller c blocks seen map sees began table t u (root_blocking blocking t root) there late left
    reserving_none (at.Copies copier) f late =
        copying_none same hash setting blocking w caller c blocks seen map sees began copier copier.stands (whole_blocking blocking copier f).point late.point
    reserving_none at.Reads f late = late
    reserving_none at.Over f late = late
    reserving_none (at.Refused fault) f late = late

  pub never_both_rooms : (seen : Blocks) → IsMapIn same hash setting w c blocks → IsMapIn same hash setting w c seen → (began : ℕ) (p : Reserve)
      → ReserveFacts same hash w caller setting c blocks p → SupersededReserveFacts same hash w caller setting c seen began p → ⊥
  never_both_rooms seen map sees began p facts late = reserving_none seen map sees began late.blocking p.stands facts.point late.point
