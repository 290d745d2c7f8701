-- Walks, clearings and retainings among the callers of a map: what is promised of each, whoever takes the next step.
use Rattle.std.specs.Prelude.{◌≡◌, ℕ, ◌≤◌, Bool, false, List, Option, None, Some}
use Rattle.std.specs.Int.{IsPowerOfTwo}
use Rattle.seize_model.specs.Given.SeizeWordsMem.{Mem, Can, Took, value_at}
use Rattle.seize_model.specs.Given.SeizeWordsPlan.{May, Steps}
use Rattle.seize_model.specs.Given.SeizeWorld.{World, Rests, IsInside, with_at}
use Rattle.map_facts_late.specs.Given.TablesChunks.{is_incremental}
use Rattle.map_facts_late.specs.Given.TablesDeclared.node.Node.{Node}
use Rattle.map_facts_late.specs.Given.TablesDeclared.setting.Setting.{Setting}
use Rattle.map_facts_late.specs.Given.SweepsSweep.{sweep_plan}
use Rattle.map_facts_late.specs.Given.SweepsSweepPoints.{after_next}
use Rattle.map_facts_late.specs.Given.ReservesDeclared.sweep.Purpose.{Purpose}
use Rattle.map_facts_late.specs.Given.ReservesDeclared.sweep.Sweep.{Sweep}
use Rattle.map_facts_late.specs.Given.ReservesDeclared.sweep.Sweeping.TheVariants as at
use Rattle.map_facts_late.specs.Given.ReservesDeclared.sweep.Swept.{Swept}
use Rattle.map_facts_late.specs.Given.ReservesDeclared.sweep.Swept.TheVariants as swept
use Rattle.map_facts_late.specs.Given.RuleChart.{Chart}
use Rattle.map_facts_late.specs.Given.RuleWords.{Blocks}
use Rattle.map_facts_late.specs.Given.RuleInWorld.{StepSpec}
use Rattle.map_facts_late.specs.Given.RuleMoments.{Remembers}
use Rattle.map_facts_late.specs.Given.PointsSteps.{AreLawful}
use Rattle.map_facts_late.specs.Covers.{WasSince, Came, NamesPair}
use Rattle.map_facts_late.specs.CoversSweeps.{DoneAt}
use Rattle.map_facts_late.specs.ToldSweeps.{IsRowOfSweep, word_shown, SweepOutcome}
use Rattle.many_calls.specs.OverAll.{CallOverAll, begun_over_all, gone_on, come_to, with_verdict, RemovesAsReplied}
use Rattle.many_calls.specs.Rows.{LeavesSlots}
use Rattle.many_calls.specs.Sights.{Visible, IsGrown, seen_by}
use Rattle.many_calls.specs.Together.{UnderWay, OverAll, FewWith, in_slot, next_over_all, IsOneStep, IsReclaimed, Together}

module _ {K : Type 0} (hash : K → ℕ) (c : Chart K) (seen : Blocks) (o : CallOverAll) where
  -- the word names a pair that the map had at a moment since the sweep began
  abbrev pub NamesPairSince : ℕ → Type 0
  NamesPairSince word = (n : ℕ) × NamesPair hash c seen word n × WasSince c o.began n

  -- Asked for the next pair, or told whether to keep the one that it asks about, it goes on so. It asks about one pair, which the map had at a moment
  -- since it began; and what it is told to keep it counts as done.
  pub record TakesReply (GoesOn : CallOverAll → Type 0) : Type 0 where
    pub next : GoesOn (gone_on o (after_next o.sweep))
    pub asks_about : (word : ℕ) → o.sweep.stands ≡ at.Asks word → NamesPairSince word
    pub replied : (word n : ℕ) → o.sweep.stands ≡ at.Asks word → NamesPair hash c seen word n → (keeps : Bool) → GoesOn (with_verdict o n keeps)

module _ {K Q : Type 0} (V : Type 0) (same : K → K → Bool) (hash : K → ℕ) (asks : Q → K → Bool) (setting : Setting) (slot : ℕ → ℕ) where
  -- A caller that has no call, and no row under way, begins a sweep within its section, of any purpose. In blocking mode, few that may write are under way with it.
  abbrev pub SweepsBeginTogether : Type 0
  SweepsBeginTogether =
      (w : World (Node K V)) (c : Chart K) (blocks : Blocks) (sights : ℕ → Visible) (calls : ℕ → Option (UnderWay K V Q)) (i : ℕ) → Together V same hash asks setting slot w c blocks sights calls → calls i ≡ None
      → w.row i ≡ Rests → IsInside (w.uses (slot i)) → (purpose : Purpose)
      → (is_incremental setting.mode ≡ false → FewWith calls i (OverAll (begun_over_all c.now (in_slot setting (slot i)) purpose))) → Together V same hash asks setting slot w c blocks sights (with_at calls i (Some (OverAll (begun_over_all c.now (in_slot setting (slot i)) purpose))))

  module _ (w : World (Node K V)) (c : Chart K) (blocks : Blocks) (sights : ℕ → Visible) (calls : ℕ → Option (UnderWay K V Q)) (i : ℕ) (o : CallOverAll) where
    -- Where a step of a sweep leads that is none of a row: one move at most was made, by this caller, which removes no pair but as it was told. A pair that it
    -- shows or asks about the map had since it began; and at its end it has come to what it comes to. The invariant of all calls holds.
    pub record SweepStepsTogether (m2 : Mem (Node K V)) (p2 : Sweep) (end : Swept (Node K V)) : Type 0 where
      pub inside : IsInside (w.uses (slot i))
      pub went : StepSpec same hash (in_slot setting (slot i)) i w c (seen_by blocks (sights (slot i))) m2
          (λ w2 c2 blocks2. SweepOutcome same hash i (in_slot setting (slot i)) o.began c (seen_by blocks (sights (slot i))) o.sweep w2 c2 blocks2 p2 end)
      pub remembers : Remembers (is_incremental setting.mode) c went.c2
      pub removes : RemovesAsReplied o c went.c2
      -- what it counts as done, and since when
      pub entered2 : ℕ
      pub done2 : List ℕ
      pub from : o.began ≤ entered2
      pub done : DoneAt hash went.c2 went.blocks2 o.done done2 o.entered entered2 end o.sweep.stands
      pub shows : (word : ℕ) → word_shown end ≡ Some word → NamesPairSince hash went.c2 went.blocks2 o word
      pub comes : end ≡ swept.Done → Came went.c2 entered2 o.sweep.purpose done2
      pub blocks2 : Blocks
      pub grown : IsGrown c blocks went.blocks2 blocks2
      pub sights2 : ℕ → Visible
      pub together : Together V same hash asks setting slot went.w2 went.c2 blocks2 sights2 (with_at calls i (next_over_all (come_to o entered2 done2 p2) end))

    -- Where a step of a row within a sweep leads: as within a call on one key. It shows no pair, and may end with it.
    pub record SweepRowsTogether (m2 : Mem (Node K V)) (p2 : Sweep) (end : Swept (Node K V)) : Type 0 where
      pub w2 : World (Node K V)
      pub memory : w2.memory ≡ m2
      pub happened : IsOneStep setting i w w2
      pub together : Together V same hash asks setting slot w2 c blocks sights (with_at calls i (next_over_all (gone_on o p2) end))
      pub silent : word_shown end ≡ None
      pub comes : end ≡ swept.Done → Came c o.entered o.sweep.purpose o.done
      pub gives : (value : Node K V) → end ≡ swept.Gave value → IsReclaimed w w2 value
      pub rests : next_over_all {K = K} {V = V} {Q = Q} (gone_on o p2) end ≡ None → w2.row i ≡ Rests
      pub slots : LeavesSlots (slot i) i w w2

  -- The promise: whichever caller takes a step of its sweep that is none of a row of the collector, it may take it, and the invariant of all holds again.
  abbrev pub SweepsPreserveTheInvariant : Type 0
  SweepsPreserveTheInvariant =
      AreLawful same hash → IsPowerOfTwo setting.initial
      → (w : World (Node K V)) (c : Chart K) (blocks : Blocks) (sights : ℕ → Visible) (calls : ℕ → Option (UnderWay K V Q)) → Together V same hash asks setting slot w c blocks sights calls
      → (i : ℕ) (o : CallOverAll) → calls i ≡ Some (OverAll o) → (IsRowOfSweep o.sweep.stands → ⊥)
      → May Can Took value_at w.memory (sweep_plan hash o.sweep)
      × ((m2 : Mem (Node K V)) (p2 : Sweep) (end : Swept (Node K V)) → Steps Took value_at w.memory (sweep_plan hash o.sweep) m2 (p2, end)
      → SweepStepsTogether w c blocks sights calls i o m2 p2 end)

  -- The promise of the steps of rows within sweeps.
  abbrev pub SweepRowsPreserveTheInvariant : Type 0
  SweepRowsPreserveTheInvariant =
      AreLawful same hash
      → (w : World (Node K V)) (c : Chart K) (blocks : Blocks) (sights : ℕ → Visible) (calls : ℕ → Option (UnderWay K V Q)) → Together V same hash asks setting slot w c blocks sights calls
      → (i : ℕ) (o : CallOverAll) → calls i ≡ Some (OverAll o) → IsRowOfSweep o.sweep.stands
      → May Can Took value_at w.memory (sweep_plan hash o.sweep)
      × ((m2 : Mem (Node K V)) (p2 : Sweep) (end : Swept (Node K V)) → Steps Took value_at w.memory (sweep_plan hash o.sweep) m2 (p2, end)
      → SweepRowsTogether w c blocks sights calls i o m2 p2 end)

  -- The promise of what sweeps are asked for, and told, at any moment, whatever others did meanwhile.
  abbrev pub SweepRepliesPreserveTheInvariant : Type 0
  SweepRepliesPreserveTheInvariant =
      AreLawful same hash
      → (w : World (Node K V)) (c : Chart K) (blocks : Blocks) (sights : ℕ → Visible) (calls : ℕ → Option (UnderWay K V Q)) → Together V same hash asks setting slot w c blocks sights calls
      → (i : ℕ) (o : CallOverAll) → calls i ≡ Some (OverAll o)
      → TakesReply hash c (seen_by blocks (sights (slot i))) o (λ told. Together V same hash asks setting slot w c blocks sights (with_at calls i (Some (OverAll told))))

  -- The promise of what is given up: a walk that is ready may be, at any moment. All others stand together, and its caller has no row under way.
  abbrev pub WalksStopTogether : Type 0
  WalksStopTogether =
      (w : World (Node K V)) (c : Chart K) (blocks : Blocks) (sights : ℕ → Visible) (calls : ℕ → Option (UnderWay K V Q)) → Together V same hash asks setting slot w c blocks sights calls
      → (i : ℕ) (o : CallOverAll) → calls i ≡ Some (OverAll o) → o.sweep.stands ≡ at.Ready
      → Together V same hash asks setting slot w c blocks sights (with_at calls i None) × (w.row i ≡ Rests)
