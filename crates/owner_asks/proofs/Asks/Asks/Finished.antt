-- A call that has asked was told what to do, and was run to its end.
use Rattle.std.specs.Prelude.{◌≡◌, ℕ, Bool, List, Option, Some, None, Result, Ok, Err}
use Rattle.std.proofs.Common.{sym, ◌∙◌, ap, subst}
use Rattle.seize_words.specs.OneMemory.Mem.{Mem}
use Rattle.seize_words.specs.declared.fault.Fault.{Fault}
use Rattle.map_tables.specs.declared.node.Node.{Node}
use Rattle.map_tables.specs.declared.setting.Setting.{Setting}
use Rattle.papaya_raw.specs.CallAsks.{replied}
use Rattle.papaya_raw.specs.declared.machines.answer.KeyAnswer.{KeyAnswer}
use Rattle.papaya_raw.specs.declared.machines.asking.MachineReply.{MachineReply}
use Rattle.papaya_raw.specs.declared.machines.asking.MachineReply.TheVariants as reply
use Rattle.papaya_raw.specs.declared.machines.call.KeyCall.{KeyCall}
use Rattle.owner_calls.specs.Given.CallersKind.{Kind}
use Rattle.owner_asks.specs.Asks.Asking.{IsTaken, AnswersAs, RefusedAs, Pauses, RepliedThis, HasKeyBack, HasPairBack}
use Rattle.owner_calls.specs.Given.StridesEnding.{Ends, RunsTo}
use Rattle.owner_calls.specs.Owned.Machines.{on_key_plan}
use Rattle.owner_calls.specs.declared.machines.OnKey.{OnKey}
use Rattle.owner_calls.specs.declared.machines.Stop.{Stop}
use Rattle.owner_calls.specs.declared.machines.Stop.TheVariants as stop
use Rattle.owner_asks.proofs.Asks.Asks.Finishes.{told_ends, told_so, told_back, told_pair_back}

module _ {K V Q S : Type 0} (asks : Q → K → Bool) (same : K → K → Bool) (hashes : S → K → ℕ) (setting : Setting) (kind : Kind) (its : Option K) (keys : K → Bool) (xs : List (K × V))
    (x : OnKey K V Q S) (m : Mem (Node K V)) (asked : Option ℕ) (p : Pauses asks same hashes setting kind its keys xs x m asked) (said : MachineReply V) (taken : IsTaken kind.takes asked said)
    (call : KeyCall K V Q) (r : Result Unit (MachineReply V)) (is : (call, r) ≡ replied x.call said) where
  same_call : call ≡ (replied x.call said).0
  same_call = ap (λ (e : KeyCall K V Q × Result Unit (MachineReply V)). e.0) is

  abbrev Ran : OnKey K V Q S → Mem (Node K V) → Result Stop Fault → Type 0
  Ran z m2 result = RunsTo (on_key_plan asks same hashes) (record x { call = call }) m z m2 result

  pub finish_ends : Ends (on_key_plan asks same hashes) (record x { call = call }) m
  finish_ends =
      subst (λ (n : KeyCall K V Q). Ends (on_key_plan asks same hashes) (record x { call = n }) m) (sym same_call) (told_ends asks same hashes setting kind its keys xs x m asked p said taken)

  module _ (z : OnKey K V Q S) (m2 : Mem (Node K V)) where
    runs_so : (result : Result Stop Fault) → Ran z m2 result → RunsTo (on_key_plan asks same hashes) (record x { call = (replied x.call said).0 }) m z m2 result
    runs_so result runs = subst (λ (n : KeyCall K V Q). RunsTo (on_key_plan asks same hashes) (record x { call = n }) m z m2 result) same_call runs

    pub finish_answered : (result : Result Stop Fault) (s : Stop) (answer : KeyAnswer) → result ≡ Ok s → s ≡ stop.Answered answer → Ran z m2 result
        → AnswersAs same (hashes x.hasher.now) setting m2 keys xs its (RepliedThis keys xs said) answer
    finish_answered result s answer e f runs =
        told_so asks same hashes setting kind its keys xs x m asked p said taken z m2 (Ok (stop.Answered answer))
        (runs_so (Ok (stop.Answered answer)) (subst (Ran z m2) (e ∙ ap (λ (t : Stop). Ok t) f) runs))

    pub finish_asks : (result : Result Stop Fault) (s : Stop) (again : Option ℕ) → result ≡ Ok s → s ≡ stop.Asks again → Ran z m2 result → ⊥
    finish_asks result s again e f runs =
        told_so asks same hashes setting kind its keys xs x m asked p said taken z m2 (Ok (stop.Asks again))
        (runs_so (Ok (stop.Asks again)) (subst (Ran z m2) (e ∙ ap (λ (t : Stop). Ok t) f) runs))

    pub finish_refused : (result : Result Stop Fault) (fault : Fault) → result ≡ Err fault → Ran z m2 result → RefusedAs same (hashes x.hasher.now) setting m2 keys xs its (RepliedThis keys xs said) fault
    finish_refused result fault e runs = told_so asks same hashes setting kind its keys xs x m asked p said taken z m2 (Err fault) (runs_so (Err fault) (subst (Ran z m2) e runs))

    pub finish_key : (result : Result Stop Fault) (fault : Fault) → result ≡ Err fault → Ran z m2 result → (k : K) → its ≡ Some k → HasKeyBack z k
    finish_key result fault e runs = told_back asks same hashes setting kind its keys xs x m asked p said taken z m2 fault (runs_so (Err fault) (subst (Ran z m2) e runs))

    pub finish_pair : asked ≡ None → (v : V) → said ≡ reply.Insert v → (result : Result Stop Fault) (fault : Fault) → result ≡ Err fault → Ran z m2 result → (k : K) → its ≡ Some k → HasPairBack z k v
    finish_pair none v insert result fault e runs =
        told_pair_back asks same hashes setting kind its keys xs x m asked p said taken none v insert z m2 fault (runs_so (Err fault) (subst (Ran z m2) e runs))
