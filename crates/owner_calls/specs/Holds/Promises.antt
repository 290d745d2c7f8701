-- What is promised of the memory of a map for one owner: what runs puts no pair there but the one that it stores, and what leaves the map waits there, or was given back.
use Rattle.std.specs.Prelude.{ℕ, Bool, List, [], Result}
use Rattle.seize_words.specs.OneMemory.Mem.{Mem, Can, Took, value_at}
use Rattle.seize_words.specs.OneMemory.Plan.{May, Steps}
use Rattle.seize_words.specs.declared.fault.Fault.{Fault}
use Rattle.seize.specs.Leave.{leave_plan}
use Rattle.seize.specs.Settle.{settle_plan}
use Rattle.seize.specs.declared.rows.leave.Leave.{Leave}
use Rattle.seize.specs.declared.rows.settle.Settle.{Settle}
use Rattle.seize.specs.declared.rows.settle.Settled.{Settled}
use Rattle.map_tables.specs.Nodes.{deferred_word}
use Rattle.map_tables.specs.declared.node.Node.{Node}
use Rattle.map_tables.specs.declared.setting.Setting.{Setting}
use Rattle.map_straight.specs.Given.ResizeNewMap.{new_map_plan}
use Rattle.map_straight.specs.Given.ResizeDeclared.new_map.NewMap.{NewMap}
use Rattle.papaya_raw.specs.CallAsks.{replied}
use Rattle.papaya_raw.specs.declared.machines.answer.KeyAnswer.{KeyAnswer}
use Rattle.papaya_raw.specs.declared.machines.asking.MachineReply.{MachineReply}
use Rattle.papaya_raw.specs.declared.machines.call.KeyCall.{KeyCall}
use Rattle.owner_whole.specs.Given.PointsSteps.{AreLawful}
use Rattle.owner_whole.specs.Given.CallersPairs.{Given}
use Rattle.owner_whole.specs.Given.CallersTogether.{IsBegun}
use Rattle.owner_whole.specs.Strides.Ending.{Ends, RunsTo}
use Rattle.owner_calls.specs.Owned.Machines.{on_key_plan, for_room_plan, refreshes_plan}
use Rattle.owner_calls.specs.Owned.Owned.{Holds}
use Rattle.owner_calls.specs.declared.machines.ForRoom.{ForRoom}
use Rattle.owner_calls.specs.declared.machines.OnKey.{OnKey}
use Rattle.owner_calls.specs.declared.machines.OwnerRefresh.{OwnerRefresh}
use Rattle.owner_calls.specs.declared.machines.Stop.{Stop}
use Rattle.owner_calls.specs.Sifts.Sweeping.{over_pairs_plan}
use Rattle.owner_calls.specs.declared.sweeping.OverPairs.{OverPairs}
use Rattle.owner_calls.specs.declared.sweeping.Pause.{Pause}
use Rattle.owner_calls.specs.Holds.Balances.{HasJust, Balances, HasStored}
use Rattle.owner_calls.specs.Holds.Came.{StandsAt, NoneCame, HandsOut, CameBy, HasCome, HasOutcome}

module _ (K V Q : Type 0) where
  -- A call on one key begins, and no pair has come.
  abbrev pub CallsBegin : Type 0
  CallsBegin =
      (same : K → K → Bool) (hash : K → ℕ) (asks : Q → K → Bool) (setting : Setting) (slot : ℕ → ℕ) (i : ℕ) → AreLawful same hash
      → (keys : K → Bool) (given : Given K V) (call : KeyCall K V Q) → IsBegun V same hash asks setting slot i keys given call → (m : Mem (Node K V)) → HasCome m m call

  -- It is run on, to its end or to a question, and no pair has come but the one that it tells as stored.
  abbrev pub CallsStoreAlone : Type 0 → Type 0
  CallsStoreAlone S =
      (asks : Q → K → Bool) (same : K → K → Bool) (hashes : S → K → ℕ) (m0 : Mem (Node K V)) (x : OnKey K V Q S) (m : Mem (Node K V)) → HasCome m0 m x.call → Ends (on_key_plan asks same hashes) x m
      → (x2 : OnKey K V Q S) (m2 : Mem (Node K V)) (result : Result Stop Fault) → RunsTo (on_key_plan asks same hashes) x m x2 m2 result → HasOutcome m0 m2 x2 result

  -- Told anything, it goes on so.
  abbrev pub RepliesPutNone : Type 0
  RepliesPutNone = (m0 m : Mem (Node K V)) (p : KeyCall K V Q) → HasCome m0 m p → (reply : MachineReply V) → HasCome m0 m (replied p reply).0

module _ (K V S : Type 0) where
  -- No pair comes by a reservation,
  abbrev pub RoomsPutNone : Type 0
  RoomsPutNone =
      (hashes : S → K → ℕ) (x : ForRoom S) (m : Mem (Node K V)) → Ends (for_room_plan {K = K} {V = V} hashes) x m
      → (x2 : ForRoom S) (m2 : Mem (Node K V)) (result : Result Unit Fault) → RunsTo (for_room_plan {K = K} {V = V} hashes) x m x2 m2 result → NoneCame m m2

  -- nor by a sweep, up to a question or to its end,
  abbrev pub SweepsPutNone : Type 0
  SweepsPutNone =
      (hashes : S → K → ℕ) (x : OverPairs S) (m : Mem (Node K V)) → Ends (over_pairs_plan {K = K} {V = V} hashes) x m
      → (x2 : OverPairs S) (m2 : Mem (Node K V)) (result : Result Pause Fault) → RunsTo (over_pairs_plan {K = K} {V = V} hashes) x m x2 m2 result → NoneCame m m2

module _ (K V : Type 0) where
  -- nor by a refresh of the section.
  abbrev pub RefreshesPutNone : Type 0
  RefreshesPutNone =
      (x : OwnerRefresh) (m : Mem (Node K V)) → Ends (refreshes_plan (deferred_word {K = K} {V = V})) x m
      → (x2 : OwnerRefresh) (m2 : Mem (Node K V)) (result : Result Unit Fault) → RunsTo (refreshes_plan (deferred_word {K = K} {V = V})) x m x2 m2 result → NoneCame m m2

  -- A step of a refresh, or of a retirement, leaves each pair where it stands, or hands it out.
  abbrev pub RowsHandOut : Type 0
  RowsHandOut =
      (m m2 : Mem (Node K V)) (told : Settled (Node K V))
      → ((c c2 : Leave) → May Can Took value_at m (leave_plan deferred_word c) → Steps Took value_at m (leave_plan deferred_word c) m2 (c2, told) → HandsOut m m2 told)
      × ((c c2 : Settle) → May Can Took value_at m (settle_plan deferred_word c) → Steps Took value_at m (settle_plan deferred_word c) m2 (c2, told) → HandsOut m m2 told)

  -- No pair comes by the making of the map: where the memory had none, it has none.
  abbrev pub MakingsPutNone : Type 0
  MakingsPutNone =
      (x : NewMap) (m : Mem (Node K V)) → Ends (new_map_plan {K = K} {V = V}) x m
      → (x2 : NewMap) (m2 : Mem (Node K V)) (result : Result Setting Fault) → RunsTo (new_map_plan {K = K} {V = V}) x m x2 m2 result → ((b : ℕ) (y : K × V) → StandsAt m b y → ⊥) → HasJust m2 []

  -- Where no pair has come to a memory that had these, and the map has those now, all are there still, wait, or were given back.
  abbrev pub WhatLeavesBalances : Type 0
  WhatLeavesBalances =
      (m0 m : Mem (Node K V)) (before : List (K × V)) → HasJust m0 before → NoneCame m0 m
      → (same : K → K → Bool) (hash : K → ℕ) (setting : Setting) (xs : List (K × V)) → Holds same hash setting m xs → Balances m before [] xs

  -- So it is with the one that a call has stored.
  abbrev pub AnswersBalance : Type 0
  AnswersBalance =
      (m0 m : Mem (Node K V)) (before : List (K × V)) → HasJust m0 before → (answer : KeyAnswer) → CameBy m0 m answer → (stored : List (K × V)) → HasStored m answer stored
      → (same : K → K → Bool) (hash : K → ℕ) (setting : Setting) (xs : List (K × V)) → Holds same hash setting m xs → Balances m before stored xs
