-- Calls on one key of one owner's map, from question to question, and how they stop.
use Rattle.std.specs.Prelude.{ℕ, Bool, Option, None, Result, Ok, Err}
use denote.Ref.{Bor}
use Rattle.seize_words.specs.OneMemory.Mem.{Mem}
use Rattle.seize_words.specs.declared.fault.Fault.{Fault}
use Rattle.map_tables.specs.declared.node.Node.{Node}
use Rattle.map_tables.specs.declared.setting.Setting.{Setting}
use Rattle.papaya_raw.specs.CallAsks.{replied}
use Rattle.papaya_raw.specs.declared.machines.answer.KeyAnswer.{KeyAnswer}
use Rattle.papaya_raw.specs.declared.machines.asking.MachineReply.{MachineReply}
use Rattle.papaya_raw.specs.declared.machines.call.KeyCall.{KeyCall}
use Rattle.owner_whole.specs.Given.CallersPairs.{Given}
use Rattle.owner_whole.specs.Given.CallersTogether.{IsBegun}
use Rattle.owner_whole.specs.Strides.Ending.{RunsTo}
use Rattle.owner_calls.specs.Owned.Machines.{on_key_plan}
use Rattle.owner_calls.specs.declared.machines.OnKey.{OnKey}
use Rattle.owner_calls.specs.declared.machines.Stop.{Stop}
use Rattle.owner_calls.specs.declared.machines.Stop.TheVariants as stop

module _ {K V Q S : Type 0} (asks : Q → K → Bool) (same : K → K → Bool) (hashes : S → K → ℕ) where
  -- Told this where it asks, a call has stopped so.
  abbrev pub StopsReplied : OnKey K V Q S → Mem (Node K V) → MachineReply V → Mem (Node K V) → Result Stop Fault → Type 0
  StopsReplied x n told m result = (y : OnKey K V Q S) × RunsTo (on_key_plan asks same hashes) (record x { call = (replied x.call told).0 }) n y m result

  module _ (b : Bor S) (setting : Setting) (m0 : Mem (Node K V)) (keys : K → Bool) (given : Given K V) where
    -- A call on one key of this class, begun so on this memory, has come here: it was run from question to question, and told something each time.
    pub data IsCalling : OnKey K V Q S → Mem (Node K V) → Type 0 where
      begun : (call : KeyCall K V Q) → IsBegun V same (hashes b.now) asks setting (λ i. setting.slot) 0 keys given call
          → IsCalling (record { call = call; hasher = b; unstored = None }) m0
      asked : (x : OnKey K V Q S) (m : Mem (Node K V)) → IsCalling x m → (x2 : OnKey K V Q S) (m2 : Mem (Node K V)) (about : Option ℕ) → RunsTo (on_key_plan asks same hashes) x m x2 m2 (Ok (stop.Asks about))
          → (told : MachineReply V) → IsCalling (record x2 { call = (replied x2.call told).0 }) m2

    -- It has stopped so.
    abbrev pub HasStopped : Mem (Node K V) → Result Stop Fault → Type 0
    HasStopped m result = (x : OnKey K V Q S) × (n : Mem (Node K V)) × IsCalling x n × (y : OnKey K V Q S) × RunsTo (on_key_plan asks same hashes) x n y m result

-- how a call has stopped, by its answer, or by what it was refused with
abbrev pub stop_by : {E : Type 0} → (E → Fault) → Result KeyAnswer E → Result Stop Fault
stop_by fault_of (Ok answer) = Ok (stop.Answered answer)
stop_by fault_of (Err e) = Err (fault_of e)
