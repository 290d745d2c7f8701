-- What the law of waiting forbids.
use Rattle.std.proofs.Common.{◌≡◌, ℕ, Bool, true, false}
use Rattle.map_tables.specs.declared.status.TheConstants.Status.{PROMOTED, ABORTED}
use Rattle.many_calls.specs.Given.RawDeclared.machines.call.KeyCall.{KeyCall}
use Rattle.many_calls.specs.Given.RawDeclared.machines.call.Calling.TheVariants as at
use Rattle.map_machines.specs.declared.copier.Copier.{Copier}
use Rattle.map_machines.specs.declared.copier.Copying.TheVariants as copies
use Rattle.map_machines.specs.declared.lookup.Lookup.{Lookup}
use Rattle.many_calls.specs.Given.RuleChart.{Still, Copied, Holds, Tombstone, Chart}
use Rattle.map_measures.specs.Waits.Waits.{IsUnfinished, IsBeingCopied, CopierAwaits, CallAwaits}

module _ {K : Type 0} (c : Chart K) (t i n : ℕ) (borrowed : Bool) where
  -- nobody waits for a pair that is copied, that is not marked, or that was removed
  not_copied : c.place t i ≡ Holds n Copied borrowed → IsBeingCopied c t i → ⊥
  not_copied e (o, lent, f) = cc (e, f)

  not_still : c.place t i ≡ Holds n Still borrowed → IsBeingCopied c t i → ⊥
  not_still e (o, lent, f) = cc (e, f)

  not_removed : c.place t i ≡ Tombstone true → IsBeingCopied c t i → ⊥
  not_removed e (o, lent, f) = cc (e, f)

  -- nor for a table that is promoted, or was given up
  not_promoted : c.status t ≡ PROMOTED → IsUnfinished c t → ⊥
  not_promoted e (promoted, aborted) = promoted e

  not_aborted : c.status t ≡ ABORTED → IsUnfinished c t → ⊥
  not_aborted e (promoted, aborted) = aborted e

module _ {K V Q : Type 0} (c : Chart K) (p : KeyCall K V Q) (copier : Copier) where
  -- in blocking mode, no call waits at a try, and in incremental mode none in a copying
  not_at_try : CallAwaits c false p at.Probes → ⊥
  not_at_try (mode, copied) = cc mode

  not_in_copying : CallAwaits c true p (at.Copies copier) → ⊥
  not_in_copying (mode, copied) = cc mode

  -- a lookup never waits, nor does one that is to change a word
  not_looking : (incremental : Bool) (lookup : Lookup) → CallAwaits c incremental p (at.Looks lookup) → ⊥
  not_looking incremental lookup h = h

  not_trying : (incremental : Bool) (word new : ℕ) → CallAwaits c incremental p (at.Tries word new) → ⊥
  not_trying incremental word new h = h

  -- a copier with a range to copy waits for no status
  not_while_claiming : (incremental : Bool) → copier.spent ≡ false → CopierAwaits c incremental copier copies.Asks → ⊥
  not_while_claiming incremental unspent (spent, pending) = cc (unspent, spent)
