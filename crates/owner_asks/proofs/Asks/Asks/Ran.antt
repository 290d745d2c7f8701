-- How calls on a key have stopped that one owner has run, from their beginning on.
use Rattle.std.specs.Prelude.{◌≡◌, ℕ, Bool, Option, None, Result, Ok, Err}
use Rattle.std.proofs.Common.{ap, ◌∙◌, subst}
use denote.Ref.{Bor}
use Rattle.seize_words.specs.OneMemory.Mem.{Mem}
use Rattle.seize_words.specs.declared.fault.Fault.{Fault}
use Rattle.map_tables.specs.declared.node.Node.{Node}
use Rattle.map_tables.specs.declared.setting.Setting.{Setting}
use Rattle.papaya_raw.specs.CallAsks.{replied}
use Rattle.papaya_raw.specs.declared.machines.answer.KeyAnswer.{KeyAnswer}
use Rattle.papaya_raw.specs.declared.machines.asking.MachineReply.{MachineReply}
use Rattle.papaya_raw.specs.declared.machines.call.KeyCall.{KeyCall}
use Rattle.owner_calls.specs.Given.CallersPairs.{Given}
use Rattle.owner_calls.specs.Given.CallersTogether.{IsBegun}
use Rattle.owner_calls.specs.Owned.Calling.{IsCalling, HasStopped, StopsReplied, begun, asked}
use Rattle.owner_calls.specs.Given.StridesEnding.{RunsTo}
use Rattle.owner_calls.specs.Owned.Machines.{on_key_plan}
use Rattle.owner_calls.specs.declared.machines.OnKey.{OnKey}
use Rattle.owner_calls.specs.declared.machines.Stop.{Stop}
use Rattle.owner_calls.specs.declared.machines.Stop.TheVariants as stop

-- it was told this where it asked, and run on
module _ {K V Q S : Type 0} (asks : Q → K → Bool) (same : K → K → Bool) (hashes : S → K → ℕ) (x : OnKey K V Q S) (m : Mem (Node K V)) (said : MachineReply V) (call : KeyCall K V Q) (r : Result Unit (MachineReply V))
    (is : (call, r) ≡ replied x.call said) (z : OnKey K V Q S) (m2 : Mem (Node K V)) (result : Result Stop Fault) (runs : RunsTo (on_key_plan asks same hashes) (record x { call = call }) m z m2 result) where
  stops_told : StopsReplied asks same hashes x m said m2 result
  stops_told =
      (z, subst (λ (n : KeyCall K V Q). RunsTo (on_key_plan asks same hashes) (record x { call = n }) m z m2 result) (ap (λ (e : KeyCall K V Q × Result Unit (MachineReply V)). e.0) is) runs)

  pub told_answered : (s : Stop) (answer : KeyAnswer) → result ≡ Ok s → s ≡ stop.Answered answer → StopsReplied asks same hashes x m said m2 (Ok (stop.Answered answer))
  told_answered s answer e f = subst (StopsReplied asks same hashes x m said m2) (e ∙ ap (λ (t : Stop). Ok t) f) stops_told

  pub told_refused : (fault : Fault) → result ≡ Err fault → StopsReplied asks same hashes x m said m2 (Err fault)
  told_refused fault e = subst (StopsReplied asks same hashes x m said m2) e stops_told

-- it was begun, and run to a question, or to its end
module _ {K V Q S : Type 0} (asks : Q → K → Bool) (same : K → K → Bool) (hashes : S → K → ℕ) (b : Bor S) (setting : Setting) (m0 : Mem (Node K V)) (keys : K → Bool) (given : Given K V) (call : KeyCall K V Q)
    (is : IsBegun V same (hashes b.now) asks setting (λ i. setting.slot) 0 keys given call) (x : OnKey K V Q S) (m : Mem (Node K V)) (result : Result Stop Fault)
    (runs : RunsTo (on_key_plan asks same hashes) (record { call = call; hasher = b; unstored = None }) m0 x m result) where
  begins : IsCalling asks same hashes b setting m0 keys given (record { call = call; hasher = b; unstored = None }) m0
  begins = begun call is

  pub stopped_there : HasStopped asks same hashes b setting m0 keys given m result
  stopped_there = (record { call = call; hasher = b; unstored = None }, m0, begins, x, runs)

  pub stopped_answered : (s : Stop) (answer : KeyAnswer) → result ≡ Ok s → s ≡ stop.Answered answer → HasStopped asks same hashes b setting m0 keys given m (Ok (stop.Answered answer))
  stopped_answered s answer e f = subst (HasStopped asks same hashes b setting m0 keys given m) (e ∙ ap (λ (t : Stop). Ok t) f) stopped_there

  pub stopped_refused : (fault : Fault) → result ≡ Err fault → HasStopped asks same hashes b setting m0 keys given m (Err fault)
  stopped_refused fault e = subst (HasStopped asks same hashes b setting m0 keys given m) e stopped_there

  -- told what it has asked, it has stopped so
  pub stopped_told : (s : Stop) (about : Option ℕ) → result ≡ Ok s → s ≡ stop.Asks about → (told : MachineReply V) (m2 : Mem (Node K V)) (end : Result Stop Fault) → StopsReplied asks same hashes x m told m2 end
      → HasStopped asks same hashes b setting m0 keys given m2 end
  stopped_told s about e f told m2 end ran = (
    record x { call = (replied x.call told).0 },
    m,
    asked (record { call = call; hasher = b; unstored = None }) m0 begins x m about
        (subst (RunsTo (on_key_plan asks same hashes) (record { call = call; hasher = b; unstored = None }) m0 x m) (e ∙ ap (λ (t : Stop). Ok t) f) runs) told,
    ran.0,
    ran.1,
  )
