-- No sweep knows both that it copies the root, and what is to be known of a table that the root has left.
use Rattle.std.specs.Prelude.{ℕ, Bool}
use Rattle.std.proofs.Common.{inl, inr}
use Rattle.seize.specs.World.{World}
use Rattle.map_tables.specs.declared.node.Node.{Node}
use Rattle.map_tables.specs.declared.setting.Setting.{Setting}
use Rattle.map_measures.specs.Given.ResizeDeclared.copier.Copier.{Copier}
use Rattle.papaya_raw.specs.Given.ReservesDeclared.sweep.Sweep.{Sweep}
use Rattle.papaya_raw.specs.Given.ReservesDeclared.sweep.Sweeping.{Sweeping}
use Rattle.papaya_raw.specs.Given.ReservesDeclared.sweep.Sweeping.TheVariants as at
use Rattle.map_measures.specs.Given.RuleChart.{Chart}
use Rattle.map_measures.specs.Given.RuleWords.{Blocks}
use Rattle.map_measures.specs.Given.RuleInWorld.{IsMapIn}
use Rattle.owner_facts.specs.Given.LateFactsReserves.{CopiesWhole}
use Rattle.owner_facts.specs.Given.LateFactsSweeps.{CopiesTable, SweepingFacts}
use Rattle.owner_facts.specs.Given.CallersTogether.{in_slot}
use Rattle.owner_whole.specs.Whole.Owner.{IsFirst, CopiesOfRoot}
use Rattle.owner_whole.proofs.Whole.Fresh.Calls.{copying_none}
use Rattle.owner_whole.proofs.Whole.Fresh.Rooms.{whole_blocking}

-- where it copies, it copies the root
abbrev pub CopiesRoot : {K V : Type 0} → (K → K → Bool) → (K → ℕ) → Setting → World (Node K V) → Chart K → Blocks → Sweeping → Type 0
CopiesRoot same hash setting w c blocks (at.Copies copier) = CopiesWhole same hash w 0 setting c blocks copier
CopiesRoot same hash setting w c blocks _ = Unit {0}

module _ {K V Q : Type 0} (same : K → K → Bool) (hash : K → ℕ) (asks : Q → K → Bool) (setting : Setting) (slot : ℕ → ℕ) (w : World (Node K V)) (c : Chart K) where
  abbrev here : Setting
  here = in_slot setting (slot 0)

  module _ (blocks seen : Blocks) (map : IsMapIn same hash here w c blocks) (sees : IsMapIn same hash here w c seen) (began : ℕ) where
    whole_first : (copier : Copier) → CopiesWhole same hash w 0 here c blocks copier → (x : CopiesTable same hash w 0 here c seen began copier) → IsFirst x
    whole_first copier whole (inl f) = tt
    whole_first copier whole (inr (blocking, late)) =
        copying_none same hash here blocking w 0 c blocks seen map sees began copier copier.stands (whole_blocking same hash here w 0 c blocks blocking copier whole).point late.point

    pub of_whole : (p : Sweep) (stands : Sweeping) → CopiesRoot same hash here w c blocks stands → (x : SweepingFacts same hash w 0 here c seen began p stands)
        → CopiesOfRoot same hash asks setting slot w c seen began p stands x
    of_whole p (at.Copies copier) whole x = whole_first copier whole x
    of_whole p at.Reads whole x = tt
    of_whole p at.Follows whole x = tt
    of_whole p at.Ready whole x = tt
    of_whole p at.Words whole x = tt
    of_whole p (at.Asks word) whole x = tt
    of_whole p (at.Tries word) whole x = tt
    of_whole p (at.Counts removed) whole x = tt
    of_whole p (at.Disposes dispose) whole x = tt
    of_whole p at.Over whole x = tt
    of_whole p (at.Refused fault) whole x = tt

  -- and so it knows it
  module _ (seen : Blocks) (began : ℕ) where
    first_whole : (copier : Copier) → (x : CopiesTable same hash w 0 here c seen began copier) → IsFirst x → CopiesWhole same hash w 0 here c seen copier
    first_whole copier (inl f) first = f
    first_whole copier (inr late) first = absurd first

    pub whole_of : (p : Sweep) (stands : Sweeping) → (x : SweepingFacts same hash w 0 here c seen began p stands) → CopiesOfRoot same hash asks setting slot w c seen began p stands x
        → CopiesRoot same hash here w c seen stands
    whole_of p (at.Copies copier) x first = first_whole copier x first
    whole_of p at.Reads x first = tt
    whole_of p at.Follows x first = tt
    whole_of p at.Ready x first = tt
    whole_of p at.Words x first = tt
    whole_of p (at.Asks word) x first = tt
    whole_of p (at.Tries word) x first = tt
    whole_of p (at.Counts removed) x first = tt
    whole_of p (at.Disposes dispose) x first = tt
    whole_of p at.Over x first = tt
    whole_of p (at.Refused fault) x first = tt
