-- The end of a map that owns its collector: it ends while no other map stands, nothing else is under way, and nobody is inside of a slot. What its tables
-- carry is reclaimed, too.
use Rattle.std.specs.Prelude.{◌≡◌, ◌≢◌, ℕ, ◌<◌, ◌≤◌, Bool, true, List, [], ◌∷◌, ◌++◌, Option, Some, None}
use Rattle.many_calls.specs.Given.SeizeWordsMem.{Mem, Can, Took, value_at}
use Rattle.many_calls.specs.Given.SeizeWordsPlan.{May, Steps}
use Rattle.many_calls.specs.Given.SeizeWorld.{World, Ends, Happens, Runs, IsOutside, times, with_at}
use Rattle.many_calls.specs.Given.SeizeDeclared.rows.settle.Settled.{Settled}
use Rattle.many_calls.specs.Given.SeizeDeclared.rows.settle.Settled.TheVariants as settled
use Rattle.many_calls.specs.Given.TablesChunks.{is_incremental}
use Rattle.many_calls.specs.Given.TablesNodes.{deferred_word}
use Rattle.many_calls.specs.Given.TablesDeclared.node.Node.{Node}
use Rattle.many_calls.specs.Given.RawEndMap.{ending, end_map_plan}
use Rattle.many_calls.specs.Given.RawDeclared.machines.end_map.EndMap.{EndMap}
use Rattle.many_calls.specs.Given.PointsSteps.{AreLawful}
use Rattle.many_calls.specs.Together.{UnderWay}
use Rattle.many_maps.specs.Endings.{Finishing, finishing_of, AllPairsOnce, EndingsTogether}
use Rattle.many_maps.specs.FactsEnds.{Deed, events_of, taken_by, BeganIn, EndFacts, HasDeferred, back_of}
use Rattle.many_maps.specs.Makings.{Beginning, IsFreeRoot}
use Rattle.many_maps.specs.Maps.{Standing}

-- the end of a map that stands begins in this world; its collector is its own
abbrev pub owning_end_of : {K V : Type 0} → Standing K → World (Node K V) → Finishing K V
owning_end_of s w = record (finishing_of s w) { machine = ending s.setting true }

-- Caller i knows so of its end of a map, with what each table carried as that began.
pub record OwnEndFacts {K V : Type 0} (same : K → K → Bool) (batch_size : ℕ) (w : World (Node K V)) (i : ℕ) (f : Finishing K V) : Type 0 where
  pub lawful : AreLawful same f.hash
  pub batches : f.setting.batch_size ≡ batch_size
  pub lists : ℕ → List ℕ
  pub past : ℕ
  pub stood : BeganIn f.setting f.chart f.blocks lists true same f.hash f.began
  pub facts : EndFacts f.setting f.chart f.blocks lists true i f.hash f.began w f.machine past f.back

-- It has ended: it has reclaimed the map's pairs, and table by table what that carried and the table, and the counter, in this order, each once. Its root is
-- free.
pub record HasEndedWhole {K V : Type 0} (w : World (Node K V)) (f : Finishing K V) : Type 0 where
  pub lists : ℕ → List ℕ
  pub carried : (t : ℕ) → f.chart.first ≤ t → t < f.chart.past → HasDeferred f.began (f.blocks.table t) (lists t)
  pub back_is : f.back ≡ back_of f.setting f.chart f.blocks lists true
  pub once : (x : ℕ) → times x f.back ≤ 1
  pub free : IsFreeRoot w f.setting.root

module _ {K Q : Type 0} (V : Type 0) (same : K → K → Bool) (asks : Q → K → Bool) (batch_size roots : ℕ) (slot : ℕ → ℕ) where
  module _ (maps : ℕ → Option (Standing K)) (calls : ℕ → ℕ → Option (UnderWay K V Q)) (makers : ℕ → Option (Beginning K)) (enders : ℕ → Option (Finishing K V)) where
    -- Caller i ends a map that owns its collector: no map stands, none is made, and no other ends.
    pub record OwnEnding (w : World (Node K V)) (i : ℕ) (f : Finishing K V) : Type 0 where
      pub together : EndingsTogether V same asks batch_size roots slot w maps calls makers enders
      pub no_maps : (m : ℕ) → maps m ≡ None
      pub no_makers : (j : ℕ) → makers j ≡ None
      pub no_enders : (j : ℕ) → enders j ≡ None
      pub facts : OwnEndFacts same batch_size w i f

  module _ (maps : ℕ → Option (Standing K)) (calls : ℕ → ℕ → Option (UnderWay K V Q)) (makers : ℕ → Option (Beginning K)) (enders : ℕ → Option (Finishing K V)) (w : World (Node K V)) (i : ℕ) where
    -- It begins while this is the only map that stands, nobody has a call on it, none is made and none ends, and nobody is inside of a slot. Its pairs are to
    -- be reclaimed, each once, and no others.
    abbrev pub OwnEndingsBegin : Type 0
    OwnEndingsBegin =
        EndingsTogether V same asks batch_size roots slot w maps calls makers enders → ((m j : ℕ) → calls m j ≡ None) → ((j : ℕ) → makers j ≡ None) → ((j : ℕ) → enders j ≡ None)
        → ((s : ℕ) → IsOutside (w.uses s)) → (m : ℕ) (s : Standing K) → maps m ≡ Some s → ((n : ℕ) → n ≢ m → maps n ≡ None)
        → (w2 : World (Node K V)) → Happens deferred_word batch_size (Ends i s.setting.counter) w w2
        → OwnEnding (with_at maps m None) calls makers enders w2 i (owning_end_of s w) × AllPairsOnce (is_incremental s.setting.mode) s.chart

    -- The end goes on, and has taken no block away; or it has taken one, whose value it hands out; or it is over. It never waits.
    abbrev pub OwnEndingOutcome : Finishing K V → World (Node K V) → Deed → EndMap × Settled (Node K V) → Type 0
    OwnEndingOutcome f w2 deed (e, settled.Goes) = (taken_by deed ≡ []) × OwnEnding maps calls makers enders w2 i (record f { machine = e })
    OwnEndingOutcome f w2 deed (e, settled.Waits) = ⊥
    OwnEndingOutcome f w2 deed (e, settled.Gave value) =
        (b : ℕ) × (value_at w.memory b ≡ Some value) × (taken_by deed ≡ b ∷ []) × OwnEnding maps calls makers enders w2 i (record f { machine = e; back = f.back ++ b ∷ [] })
    OwnEndingOutcome f w2 deed (e, settled.Done) =
        (taken_by deed ≡ []) × HasEndedWhole w2 f × EndingsTogether V same asks batch_size roots slot w2 maps calls makers enders

    -- where a step of it leads, by what it did
    pub record StepsOfOwnEnding (f : Finishing K V) (m2 : Mem (Node K V)) (end : EndMap × Settled (Node K V)) : Type 0 where
      pub w2 : World (Node K V)
      pub deed : Deed
      pub runs : Runs deferred_word batch_size (events_of i deed) w w2
      pub memory : w2.memory ≡ m2
      pub told : OwnEndingOutcome f w2 deed end

    -- The promise: whoever ends such a map may take each step, while nobody else takes one.
    abbrev pub OwnEndingsStand : Type 0
    OwnEndingsStand =
        (f : Finishing K V) → OwnEnding maps calls makers enders w i f
        → May Can Took value_at w.memory (end_map_plan {K = K} {V = V} f.machine)
        × ((m2 : Mem (Node K V)) (end : EndMap × Settled (Node K V)) → Steps Took value_at w.memory (end_map_plan f.machine) m2 end → StepsOfOwnEnding f m2 end)
