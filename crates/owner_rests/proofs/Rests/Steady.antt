-- What stores nothing is done, where the map had one table at most before the refresh, and it has one at most then.
use Rattle.std.specs.Prelude.{◌≡◌, ℕ, Bool, true, List, Result, Ok, Err, IsOk}
use Rattle.std.proofs.Common.{refl, sym, subst}
use denote.Ref.{Bor}
use Rattle.seize_words.specs.OneMemory.Mem.{Mem}
use Rattle.seize_words.specs.declared.fault.Fault.{Fault}
use Rattle.map_tables.specs.declared.node.Node.{Node}
use Rattle.map_tables.specs.declared.setting.Setting.{Setting}
use Rattle.papaya_raw.specs.declared.machines.answer.KeyAnswer.{KeyAnswer}
use Rattle.owner_calls.specs.Given.CallersPairs.{Given, kind_of}
use Rattle.papaya_raw.specs.Given.SweepsSweepPoints.{removes}
use Rattle.papaya_raw.specs.Given.ReservesDeclared.sweep.Purpose.{Purpose}
use Rattle.owner_calls.specs.Sifts.Sweeping.{HasSwept}
use Rattle.owner_calls.specs.Owned.Calling.{HasStopped, stop_by}
use Rattle.owner_calls.specs.Owned.Owned.{Holds}
use Rattle.owner_calls.specs.declared.machines.Stop.{Stop}
use Rattle.owner_asks.specs.Steady.Steady.{HasOneTable, OnlyRemoves}
use Rattle.owner_asks.proofs.Steady.Calls.Runs.{removals_are_steady}
use Rattle.owner_asks.proofs.Steady.Refreshes.{refreshes_keep_one_table}
use Rattle.owner_asks.proofs.Steady.Sweeps.Runs.{sweeps_are_steady}
use Rattle.owner_rests.specs.Rests.Asking.{ended_by}
use Rattle.owner_rests.specs.Rests.Refreshed.{HasRefreshed}
use Rattle.owner_rests.specs.declared.change.Change.{Change}

-- from the map as it was, through the refresh
module _ {K V S : Type 0} (same : K → K → Bool) (hashes : S → K → ℕ) (b : Bor S) (setting : Setting) (m0 : Mem (Node K V)) (xs : List (K × V)) (h0 : Holds same (hashes b.now) setting m0 xs)
    (one : HasOneTable setting m0) (m1 : Mem (Node K V)) (refreshed : HasRefreshed setting m0 m1) (h1 : Holds same (hashes b.now) setting m1 xs) (m2 : Mem (Node K V)) where
  one_then : HasOneTable setting m1
  one_then = refreshes_keep_one_table K V same (hashes b.now) setting m0 xs h0 one refreshed.0 m1 refreshed.1 refreshed.2

  pub removal_steady : {Q : Type 0} (asks : Q → K → Bool) (keys : K → Bool) (given : Given K V) → OnlyRemoves (kind_of given) → (result : Result Stop Fault) → HasStopped asks same hashes b setting m1 keys given m2 result
      → IsOk result × HasOneTable setting m2
  removal_steady {Q} asks keys given only result ran = removals_are_steady K V Q S asks same hashes b setting m1 xs h1 one_then keys given only m2 result ran

  pub sweep_steady : (purpose : Purpose) → removes purpose ≡ true → (result : Result Unit Fault) → HasSwept hashes b setting purpose m1 m2 result → IsOk result × HasOneTable setting m2
  sweep_steady purpose removing result ran = sweeps_are_steady K V S same hashes b setting m1 xs h1 one_then purpose removing m2 result ran

-- a call that was not refused has done something, or nothing
ended_ok : (r : Result KeyAnswer Fault) → IsOk (stop_by (λ fault. fault) r) → IsOk (ended_by r)
ended_ok (Ok answer) ok = refl
ended_ok (Err fault) ok = absurd (cc ok)

pub done_ok : (r : Result KeyAnswer Fault) → IsOk (stop_by (λ fault. fault) r) → (d : Result Change Fault) → d ≡ ended_by r → IsOk d
done_ok r ok d is = subst (λ (x : Result Change Fault). IsOk x) (sym is) (ended_ok r ok)
