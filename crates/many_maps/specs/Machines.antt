-- A call under way as the machine that it is, whichever its kind: one promise for all, whoever takes the next step among calls, makings and ends of maps.
use Rattle.std.specs.Prelude.{◌≡◌, ◌≢◌, ℕ, ◌⊎◌, Bool, true, false, Option, Some, None}
use Rattle.many_calls.specs.Given.SeizeWordsMem.{Mem, Can, Took, value_at}
use Rattle.many_calls.specs.Given.SeizeWordsPlan.{May, Steps}
use Rattle.many_calls.specs.Given.SeizeWorld.{World, Rests, with_at}
use Rattle.many_calls.specs.Given.SeizeDeclared.advance.Advance.{Advance as Counted}
use Rattle.many_calls.specs.Given.TablesChunks.{is_incremental}
use Rattle.many_calls.specs.Given.TablesDeclared.node.Node.{Node}
use Rattle.many_calls.specs.Given.ResizeDeclared.yielding.Yielding.{Yielding}
use Rattle.many_calls.specs.Given.ResizeDeclared.sum.Sum.{Sum}
use Rattle.many_calls.specs.Given.ReservesDeclared.reserve.Reserve.{Reserve}
use Rattle.many_calls.specs.Given.ReservesDeclared.sweep.Sweep.{Sweep}
use Rattle.many_calls.specs.Given.ReservesDeclared.sweep.Sweeping.TheVariants as sweeping
use Rattle.many_calls.specs.Given.ReservesDeclared.sweep.Swept.{Swept}
use Rattle.many_calls.specs.Given.RawMachine.{machine_plan, machine_replied, machine_asked}
use Rattle.many_calls.specs.Given.RawProgress.{of_called, of_outcome, of_swept, of_counting}
use Rattle.many_calls.specs.Given.RawDeclared.machines.answer.Called.{Called}
use Rattle.many_calls.specs.Given.RawDeclared.machines.asking.Asking.{Asking}
use Rattle.many_calls.specs.Given.RawDeclared.machines.asking.MachineReply.{MachineReply}
use Rattle.many_calls.specs.Given.RawDeclared.machines.asking.MachineReply.TheVariants as reply
use Rattle.many_calls.specs.Given.RawDeclared.machines.call.Calling.TheVariants as at
use Rattle.many_calls.specs.Given.RawDeclared.machines.call.KeyCall.{KeyCall}
use Rattle.many_calls.specs.Given.RawDeclared.machines.machine.Machine.{Machine}
use Rattle.many_calls.specs.Given.RawDeclared.machines.machine.Machine.TheVariants as kinds
use Rattle.many_calls.specs.Given.RawDeclared.machines.progress.Progress.{Progress}
use Rattle.many_calls.specs.Given.RawDeclared.machines.progress.Progress.TheVariants as progress
use Rattle.many_calls.specs.Given.RuleChart.{Chart}
use Rattle.many_calls.specs.Given.RuleWords.{Blocks}
use Rattle.many_calls.specs.Given.RuleMoments.{Remembers}
use Rattle.many_calls.specs.Given.LateCovers.{NamesPair}
use Rattle.many_calls.specs.OverAll.{with_verdict, come_to, gone_on}
use Rattle.many_calls.specs.Rows.{LeavesSlots}
use Rattle.many_calls.specs.Sights.{Visible, seen_by}
use Rattle.many_calls.specs.Together.{UnderWay, OnKey, ForRoom, Counting, OverAll, replied_about, AsksAbout, next_of, next_for_room, next_of_counting, next_over_all, change_observed}
use Rattle.many_maps.specs.Makings.{Beginning}
use Rattle.many_maps.specs.Maps.{Standing, IsSameMap, with_call}
use Rattle.many_maps.specs.Endings.{Finishing, EndingsTogether, StepsWithEndings, RowStepsWithEndings}
use Rattle.many_maps.specs.Rooms.{RoomStepsWithEndings, RoomRowsWithEndings}
use Rattle.many_maps.specs.Sweeps.{SweepStepsWithEndings, SweepRowsWithEndings}

-- the machine of a call that is under way
abbrev pub machine_of : {K V Q : Type 0} → UnderWay K V Q → Machine K V Q
machine_of (OnKey u) = kinds.Key u.call
machine_of (ForRoom r) = kinds.Reserve r.reserve
machine_of (Counting sum) = kinds.Count sum
machine_of (OverAll o) = kinds.Sweep o.sweep

-- it is under way on as this machine, or has ended
abbrev pub ContinuesAs : {K V Q : Type 0} → Machine K V Q → Progress (Node K V) → Option (UnderWay K V Q) → Type 0
ContinuesAs machine (progress.Done answer) next = next ≡ None
ContinuesAs machine (progress.Refused fault) next = next ≡ None
ContinuesAs {K} {V} {Q} machine _ next = (u : UnderWay K V Q) × (next ≡ Some u) × (machine_of u ≡ machine)

-- a map that stands does so on, with its setting, and nothing of its history is forgotten
abbrev pub MapContinues : {K : Type 0} → Standing K → Option (Standing K) → Type 0
MapContinues {K} s after =
    (chart : Chart K) × (blocks : Blocks) × (sights : ℕ → Visible) × Remembers (is_incremental s.setting.mode) s.chart chart
    × (after ≡ Some (record s { chart = chart; blocks = blocks; sights = sights }))

module _ {K Q : Type 0} (V : Type 0) (same : K → K → Bool) (asks : Q → K → Bool) (batch_size roots : ℕ) (slot : ℕ → ℕ) where
  module _ (w : World (Node K V)) (maps : ℕ → Option (Standing K)) (calls : ℕ → ℕ → Option (UnderWay K V Q))
      (makers : ℕ → Option (Beginning K)) (enders : ℕ → Option (Finishing K V))
      (m : ℕ) (s : Standing K) (i : ℕ) (m2 : Mem (Node K V)) where
    -- Where it has come: the tables of its map have moved on, and those of the others are as they were,
    abbrev pub HasMoved : World (Node K V) → (ℕ → Option (Standing K)) → Option (UnderWay K V Q)
        → World (Node K V) → Chart K → Blocks → (ℕ → Visible) → Option (UnderWay K V Q) → Type 0
    HasMoved w2 maps2 next v chart blocks sights it =
        (w2 ≡ v) × (maps2 ≡ with_at maps m (Some (record s { chart = chart; blocks = blocks; sights = sights }))) × (next ≡ it)

    -- or each map is as it was, but for what may be looked at.
    abbrev pub HasStayed : World (Node K V) → (ℕ → Option (Standing K)) → Option (UnderWay K V Q) → World (Node K V) → Option (UnderWay K V Q) → Type 0
    HasStayed w2 maps2 next v it = (w2 ≡ v) × ((n : ℕ) → IsSameMap (maps n) (maps2 n)) × (next ≡ it)

    module _ (w2 : World (Node K V)) (maps2 : ℕ → Option (Standing K)) (next : Option (UnderWay K V Q)) where
      -- what the step was, by its kind: one of a row of the collector within the call, or another one
      abbrev pub DidOfKind : UnderWay K V Q → Machine K V Q → Progress (Node K V) → Type 0
      DidOfKind (OnKey u) machine told =
          (p2 : KeyCall K V Q) × (end : Called (Node K V)) × (machine ≡ kinds.Key p2) × (told ≡ of_called end)
          × (((to : StepsWithEndings V same asks batch_size roots slot w maps calls makers enders m s i u m2 p2 end)
          × HasMoved w2 maps2 next to.step.went.w2 to.step.went.c2 to.step.blocks2 to.step.sights2
          (next_of (record { keys = u.keys; pair = u.pair; began = u.began; change = change_observed V same s.hash asks s.setting slot to.step.went.told; call = p2 }) end))
          ⊎ ((to : RowStepsWithEndings V same asks batch_size roots slot w maps calls makers enders m s i u m2 p2 end)
          × HasStayed w2 maps2 next to.step.w2 (next_of (record { keys = u.keys; pair = u.pair; began = u.began; change = u.change; call = p2 }) end)))
      DidOfKind (ForRoom r) machine told =
          (p2 : Reserve) × (end : Yielding (Node K V) Unit) × (machine ≡ kinds.Reserve p2) × (told ≡ of_outcome end)
          × (((to : RoomStepsWithEndings V same asks batch_size roots slot w maps calls makers enders m s i r m2 p2 end)
          × HasMoved w2 maps2 next to.step.went.w2 to.step.went.c2 to.step.blocks2 to.step.sights2 (next_for_room (record { began = r.began; reserve = p2 }) end))
          ⊎ ((to : RoomRowsWithEndings V same asks batch_size roots slot w maps calls makers enders m s i r m2 p2 end)
          × HasStayed w2 maps2 next to.step.w2 (next_for_room (record { began = r.began; reserve = p2 }) end)))
      DidOfKind (Counting sum) machine told =
          (sum2 : Sum) × (end : Counted ℕ) × (machine ≡ kinds.Count sum2) × (told ≡ of_counting end) × (m2 ≡ w.memory)
          × HasStayed w2 maps2 next w (next_of_counting sum2 end)
      DidOfKind (OverAll o) machine told =
          (p2 : Sweep) × (end : Swept (Node K V)) × (machine ≡ kinds.Sweep p2) × (told ≡ of_swept end)
          × (((to : SweepStepsWithEndings V same asks batch_size roots slot w maps calls makers enders m s i o m2 p2 end)
          × HasMoved w2 maps2 next to.step.went.w2 to.step.went.c2 to.step.blocks2 to.step.sights2 (next_over_all (come_to o to.step.entered2 to.step.done2 p2) end))
          ⊎ ((to : SweepRowsWithEndings V same asks batch_size roots slot w maps calls makers enders m s i o m2 p2 end)
          × HasStayed w2 maps2 next to.step.w2 (next_over_all (gone_on o p2) end)))

    -- Where a step of a machine leads: its map stands on, the others as they were, and all calls, makings and ends with them. No other caller's row has gone on,
    -- this one's has if it is within one, and none is under way once the machine has ended. Each slot is used as it was.
    pub record MachineStepsWithEndings (u : UnderWay K V Q) (machine : Machine K V Q) (told : Progress (Node K V)) : Type 0 where
      pub w2 : World (Node K V)
      pub memory : w2.memory ≡ m2
      pub rows : (j : ℕ) → j ≢ i → w2.row j ≡ w.row j
      pub slots : LeavesSlots (slot i) i w w2
      pub maps2 : ℕ → Option (Standing K)
      pub its_map : MapContinues s (maps2 m)
      pub others : (n : ℕ) → n ≢ m → IsSameMap (maps n) (maps2 n)
      pub next : Option (UnderWay K V Q)
      pub goes_on : ContinuesAs machine told next
      pub rests : next ≡ None → w2.row i ≡ Rests
      pub together : EndingsTogether V same asks batch_size roots slot w2 maps2 (with_call calls m i next) makers enders
      pub did : DidOfKind w2 maps2 next u machine told

  -- What is under way once it was told something. A call that asks goes on by that, with what it was told; one that takes no reply goes on as it was.
  abbrev pub RepliedOfKind : Standing K → ℕ → UnderWay K V Q → MachineReply V → UnderWay K V Q → Type 0
  RepliedOfKind s i (OnKey u) told next =
      ((asks_at : Asking) × (about : Option ℕ) × (u.call.stands ≡ at.Asks asks_at)
      × AsksAbout V same s.hash asks s.setting slot s.chart (seen_by s.blocks (s.sights (slot i))) asks_at about
      × (next ≡ OnKey (replied_about u about told)))
      ⊎ (next ≡ OnKey u)
  RepliedOfKind s i (OverAll o) told next =
      ((word n : ℕ) × (o.sweep.stands ≡ sweeping.Asks word) × NamesPair s.hash s.chart (seen_by s.blocks (s.sights (slot i))) word n
      × (((told ≡ reply.Yes) × (next ≡ OverAll (with_verdict o n true))) ⊎ ((told ≡ reply.No) × (next ≡ OverAll (with_verdict o n false)))))
      ⊎ (next ≡ OverAll o)
  RepliedOfKind s i u told next = next ≡ u

  -- The promise of what machines are told, and asked for, at any moment: the invariant of all holds then.
  abbrev pub MachinesRepliedWithEndings : Type 0
  MachinesRepliedWithEndings =
      (w : World (Node K V)) (maps : ℕ → Option (Standing K)) (calls : ℕ → ℕ → Option (UnderWay K V Q))
      (makers : ℕ → Option (Beginning K)) (enders : ℕ → Option (Finishing K V))
      → EndingsTogether V same asks batch_size roots slot w maps calls makers enders
      → (m : ℕ) (s : Standing K) → maps m ≡ Some s → (i : ℕ) (u : UnderWay K V Q) → calls m i ≡ Some u
      → ((told : MachineReply V) → (next : UnderWay K V Q) × (machine_of next ≡ (machine_replied (machine_of u) told).0) × RepliedOfKind s i u told next
      × EndingsTogether V same asks batch_size roots slot w maps (with_call calls m i (Some next)) makers enders)
      × ((next : UnderWay K V Q) × (machine_of next ≡ (machine_asked (machine_of u)).0)
      × EndingsTogether V same asks batch_size roots slot w maps (with_call calls m i (Some next)) makers enders)

  -- The promise: whichever caller takes the next step of the machine that it has under way on a map, it may take it, and the invariant of all holds again.
  abbrev pub MachinesPreserveWithEndings : Type 0
  MachinesPreserveWithEndings =
      (w : World (Node K V)) (maps : ℕ → Option (Standing K)) (calls : ℕ → ℕ → Option (UnderWay K V Q))
      (makers : ℕ → Option (Beginning K)) (enders : ℕ → Option (Finishing K V))
      → EndingsTogether V same asks batch_size roots slot w maps calls makers enders
      → (m : ℕ) (s : Standing K) → maps m ≡ Some s → (i : ℕ) (u : UnderWay K V Q) → calls m i ≡ Some u
      → May Can Took value_at w.memory (machine_plan asks same s.hash (machine_of u))
      × ((m2 : Mem (Node K V)) (machine : Machine K V Q) (told : Progress (Node K V))
      → Steps Took value_at w.memory (machine_plan asks same s.hash (machine_of u)) m2 (machine, told)
      → MachineStepsWithEndings w maps calls makers enders m s i m2 u machine told)
