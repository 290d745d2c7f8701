-- One owner of a map's memory, who is caller 0: where it has no call under way, and where it has one, alone.
use Rattle.std.specs.Prelude.{◌≡◌, ◌≢◌, ℕ, ◌⊎◌, Bool, Option, Some, None}
use Rattle.std.proofs.Common.{inl, inr}
use Rattle.seize.specs.World.{World, Rests, IsInside}
use Rattle.map_tables.specs.Chunks.{is_incremental}
use Rattle.map_tables.specs.declared.node.Node.{Node}
use Rattle.map_tables.specs.declared.setting.Setting.{Setting}
use Rattle.map_measures.specs.Given.RuleChart.{Chart}
use Rattle.map_measures.specs.Given.RuleWords.{Blocks}
use Rattle.owner_facts.specs.Alone.FactsAloneCalls.{IsLone, AloneBetweenCalls}
use Rattle.owner_facts.specs.Maps.FactsAloneReserves.{IsLoneReserve}
use Rattle.papaya_raw.specs.Given.ReservesDeclared.sweep.Sweep.{Sweep}
use Rattle.papaya_raw.specs.Given.ReservesDeclared.sweep.Sweeping.{Sweeping}
use Rattle.papaya_raw.specs.Given.ReservesDeclared.sweep.Sweeping.TheVariants as sweeps
use Rattle.owner_facts.specs.Given.LateFactsSweeps.{SweepingFacts}
use Rattle.owner_facts.specs.Given.CallersSights.{Visible, seen_by}
use Rattle.owner_facts.specs.Given.CallersOverAll.{sweep_once_over}
use Rattle.owner_facts.specs.Given.CallersTogether.{UnderWay, OnKey, ForRoom, Counting, OverAll, in_slot, IsAtPoint, Together}
use Rattle.owner_whole.specs.Whole.LoneSweeps.{IsLoneSweep, IsOverRoot}

-- it is the first of the two
abbrev pub IsFirst : {A B : Type 0} → A ⊎ B → Type 0
IsFirst (inl a) = Unit {0}
IsFirst (inr b) = ⊥

-- Nobody else has a part in a copying, nor is a table to be said promoted or given up but by the call itself.
abbrev pub LoneAt : {K V Q : Type 0} → Bool → Chart K → UnderWay K V Q → Type 0
LoneAt incremental c (OnKey u) = IsLone incremental 0 c u.call.stands
LoneAt incremental c (ForRoom r) = IsLoneReserve incremental 0 c r.reserve.stands
LoneAt incremental c (Counting sum) = AloneBetweenCalls incremental 0 c
LoneAt incremental c (OverAll o) = IsLoneSweep incremental 0 c o.sweep.stands

module _ {K V Q : Type 0} (same : K → K → Bool) (hash : K → ℕ) (asks : Q → K → Bool) (setting : Setting) (slot : ℕ → ℕ) where
  -- where a sweep copies a table, the root has not left that
  abbrev pub CopiesOfRoot : (w : World (Node K V)) (c : Chart K) (seen : Blocks) (began : ℕ) (p : Sweep) (stands : Sweeping)
      → SweepingFacts same hash w 0 (in_slot setting (slot 0)) c seen began p stands → Type 0
  CopiesOfRoot w c seen began p (sweeps.Copies copier) point = IsFirst point
  CopiesOfRoot w c seen began p _ point = Unit {0}

  -- A call knows what its point says, in the root's table: the root has left none that it works in.
  abbrev pub IsOfRoot : (w : World (Node K V)) (c : Chart K) (seen : Blocks) (u : UnderWay K V Q) → IsAtPoint V same hash asks setting slot w c seen 0 u → Type 0
  IsOfRoot w c seen (OnKey u) (inl (rests, knows)) = IsFirst knows.facts
  IsOfRoot w c seen (OnKey u) (inr (row, is_row, knows)) = IsFirst knows.facts
  IsOfRoot w c seen (ForRoom r) (inl (rests, knows)) = IsFirst knows.facts
  IsOfRoot w c seen (ForRoom r) (inr (row, is_row, knows)) = IsFirst knows.facts
  IsOfRoot w c seen (Counting sum) stands = Unit {0}
  IsOfRoot w c seen (OverAll o) (inl (rests, knows)) =
      CopiesOfRoot w c seen o.began o.sweep o.sweep.stands knows.facts.point × IsOverRoot hash (is_incremental setting.mode) c seen o.sweep o.done
  IsOfRoot w c seen (OverAll o) (inr (row, is_row, knows)) =
      CopiesOfRoot w c seen o.began (sweep_once_over o.sweep) (sweep_once_over o.sweep).stands knows.facts.point
      × IsOverRoot hash (is_incremental setting.mode) c seen o.sweep o.done

  -- It rests: no caller has a call or a row of the collector under way, nobody has a part in a copying, and its slot is within a section.
  pub record IsQuiescent (w : World (Node K V)) (c : Chart K) (blocks : Blocks) (sights : ℕ → Visible) : Type 0 where
    pub calls : ℕ → Option (UnderWay K V Q)
    pub none : (i : ℕ) → calls i ≡ None
    pub together : Together V same hash asks setting slot w c blocks sights calls
    pub rows : (i : ℕ) → w.row i ≡ Rests
    pub inside : IsInside (w.uses (slot 0))
    pub alone : AloneBetweenCalls (is_incremental setting.mode) 0 c

  -- This call of it is under way within its section, at a point of its own or within a row of the collector, and no other call or row is.
  pub record IsAlone (w : World (Node K V)) (c : Chart K) (blocks : Blocks) (sights : ℕ → Visible) (u : UnderWay K V Q) : Type 0 where
    pub calls : ℕ → Option (UnderWay K V Q)
    pub has : calls 0 ≡ Some u
    pub others : (i : ℕ) → i ≢ 0 → calls i ≡ None
    pub together : Together V same hash asks setting slot w c blocks sights calls
    pub rows : (i : ℕ) → i ≢ 0 → w.row i ≡ Rests
    pub inside : IsInside (w.uses (slot 0))
    pub lone : LoneAt (is_incremental setting.mode) c u
    pub of_root : IsOfRoot w c (seen_by blocks (sights (slot 0))) u (together.stand 0 u has)
