-- The tries at a table meet no more pairs than they are.
use Rattle.std.specs.Prelude.{◌==◌, nat_lt, if◌then◌else◌, IfSome}
use Rattle.std.proofs.Common.{◌≡◌, ◌+◌, ◌-◌, ◌%◌, ◌^◌, ◌≤◌, Bool, true, false, Some, None, refl, arith}
use Rattle.std.proofs.lemmas.Bool.{ltb-true}
use Rattle.seize_words.specs.OneMemory.Word.{block_in}
use Rattle.map_tables.specs.Probes.{probe_after}
use Rattle.map_tables.specs.Trials.{with_met, TriesMeetFew}
use Rattle.map_tables.specs.declared.trial.Trial.{Trial}

pub tries_meet_few : TriesMeetFew
tries_meet_few trial word low few = (counted (block_in word == 0), goes_on (nat_lt trial.probe.len trial.table.limit) refl)
  where
    counted : (b : Bool) → (if b then trial.met else (trial.met + 1) % 2 ^ 64) ≤ trial.probe.len + 1
    counted true = omega (arith, few)
    counted false = omega (arith, few)

    goes_on : (b : Bool) → nat_lt trial.probe.len trial.table.limit ≡ b
        → IfSome (if b then Some record { table = trial.table; probe = probe_after trial.probe (trial.table.len - 1); met = (with_met trial word).met; most = trial.most } else None)
        (λ (next : Trial). next.met ≤ next.probe.len)
    goes_on true e =
        let before = ltb-true trial.probe.len trial.table.limit e in
        let met = counted (block_in word == 0) in
        omega (arith, before, met, low)
    goes_on false e = tt
