-- A removal by whatever stands for a key, for one owner.
use Rattle.std.specs.Prelude.{◌≡◌, ℕ, ◌^◌, ◌<◌, Bool, List, None, Result}
use Rattle.std.proofs.Common.{refl, sym, subst, inl, inr}
use denote.Ref.{Bor}
use Rattle.seize_words.specs.OneMemory.Mem.{Mem}
use Rattle.seize_words.specs.declared.fault.Fault.{Fault}
use Rattle.map_tables.specs.declared.node.Node.{Node}
use Rattle.map_tables.specs.declared.setting.Setting.{Setting}
use Rattle.papaya_raw.specs.CallPoints.{removing}
use Rattle.papaya_raw.specs.declared.machines.call.KeyCall.{KeyCall}
use Rattle.owner_calls.specs.Given.RuleMaps.{IsClass}
use Rattle.owner_calls.specs.Given.CallersKind.{removes}
use Rattle.owner_calls.specs.Given.CallersPairs.{Begun}
use Rattle.owner_calls.specs.Given.CallersTogether.{IsBegun, Removes}
use Rattle.owner_calls.specs.Owned.Calling.{HasStopped}
use Rattle.owner_calls.specs.Given.StridesEnding.{Ends, RunsTo}
use Rattle.owner_calls.specs.Owned.Machines.{on_key_plan}
use Rattle.owner_calls.specs.Owned.Owned.{Holds, EndsBy}
use Rattle.owner_calls.specs.declared.machines.OnKey.{OnKey}
use Rattle.owner_calls.specs.declared.machines.Stop.{Stop}
use Rattle.owner_calls.proofs.Owned.Owned.Answered as by
use Rattle.owner_calls.proofs.Owned.Owned.Calls.{ends_by_keys}
use Rattle.owner_calls.proofs.Owned.Owned.Keys.{under_ends, comes_to}
use Rattle.owner_asks.proofs.Asks.Asks.Ran.{stopped_there}

module _ {K V Q S : Type 0} (same : K → K → Bool) (asks : Q → K → Bool) (hashes : S → K → ℕ) (b : Bor S) (setting : Setting) (m : Mem (Node K V)) (xs : List (K × V)) (h : Holds same (hashes b.now) setting m xs)
    (q : Q) (code : ℕ) (class : IsClass same (hashes b.now) (asks q) code) (fits : code < 2 ^ 64) (call : KeyCall K V Q) (is : call ≡ removing setting code q) where
  under : by.UnderIt same asks hashes b setting m xs h (asks q) (Begun removes None) (record { call = call; hasher = b; unstored = None }) m
  under =
      subst (λ (c : KeyCall K V Q). by.UnderIt same asks hashes b setting m xs h (asks q) (Begun removes None) (record { call = c; hasher = b; unstored = None }) m) (sym is)
      (by.begins_it same asks hashes b setting m xs h (asks q) (Begun removes None) (removing setting code q) (Removes q code fits class) refl
      (refl, refl, record { takes_is = refl; removes = λ e. absurd (cc e); choices = λ e. absurd (cc e) }, (λ e. absurd (cc e)), (λ present absent. cc present)))

  pub remove_ends : Ends (on_key_plan asks same hashes) (record { call = call; hasher = b; unstored = None }) m
  remove_ends = under_ends same asks hashes b setting h.lawful h.initial h.world.memory h.chart h.blocks h.rests.together.ground.map.map.rule (asks q) (Begun removes None) _ m under

  pub remove_by : (x : OnKey K V Q S) (m2 : Mem (Node K V)) (result : Result Stop Fault) → RunsTo (on_key_plan asks same hashes) (record { call = call; hasher = b; unstored = None }) m x m2 result
      → EndsBy same (hashes b.now) setting m2 removes None (asks q) xs result
  remove_by x m2 result runs =
      ends_by_keys same asks hashes b setting m xs h (asks q) removes None class.one (λ may. absurd (elim may as (λ _. ⊥) [ inl p ↦ cc p | inr p ↦ cc p ])) m2 result
      (comes_to same asks hashes b setting h.lawful h.initial h.world.memory h.chart h.blocks h.rests.together.ground.map.map.rule (asks q) (Begun removes None) _ m x m2 result runs under)

  pub remove_stopped : (x : OnKey K V Q S) (m2 : Mem (Node K V)) (result : Result Stop Fault) → RunsTo (on_key_plan asks same hashes) (record { call = call; hasher = b; unstored = None }) m x m2 result
      → HasStopped asks same hashes b setting m (asks q) (Begun removes None) m2 result
  remove_stopped x m2 result runs =
      stopped_there asks same hashes b setting m (asks q) (Begun removes None) call
      (subst (IsBegun V same (hashes b.now) asks setting (λ i. setting.slot) 0 (asks q) (Begun removes None)) (sym is) (Removes q code fits class)) x m2 result runs
