-- The copying that a call helps with is part of that call.
use Rattle.std.specs.Prelude.{◌≡◌, ℕ, Bool, Option}
use Rattle.std.proofs.Common.{refl}
use Rattle.seize_words.specs.OneMemory.Op.{Op, Out}
use Rattle.map_tables.specs.declared.node.Node.{Node}
use Rattle.map_tables.specs.declared.table.Table.{Table}
use Rattle.map_machines.specs.Copier.{copier_plan}
use Rattle.map_machines.specs.declared.copier.Copier.{Copier}
use Rattle.map_machines.specs.declared.yielding.Yielding.{Yielding}
use Rattle.map_machines.specs.declared.yielding.Yielding.TheVariants as outcome
use Rattle.papaya_raw.specs.Call.{call_plan, helped}
use Rattle.papaya_raw.specs.declared.machines.call.Calling.TheVariants as at
use Rattle.papaya_raw.specs.declared.machines.call.KeyCall.{KeyCall}
use Rattle.map_straight.specs.Straight.Going.{CallGoes, CallLeads, CopyGoes, CopyLeads, MayCall, MayCopy}
use Rattle.map_straight.proofs.Straight.Inside.{leads_in, may_in}

module _ {K V Q M : Type 0} (can : M → Op (Node K V) → Type 0) (took : M → Op (Node K V) → Out (Node K V) → M → Type 0) (shown : M → ℕ → Option (Node K V))
    (asks : Q → K → Bool) (eq : K → K → Bool) (hashes : K → ℕ) (c : KeyCall K V Q) (goal : Table) where
  abbrev put_copier : Copier → KeyCall K V Q
  put_copier copier = record c { stands = at.Helps copier goal }

  copier_goes : (x y : Copier) (told : Yielding (Node K V) Table) → CopyGoes told → ((helped (put_copier x) goal (y, told)).0 ≡ put_copier y) × CallGoes (helped (put_copier x) goal (y, told)).1
  copier_goes x y outcome.Goes so = (refl, tt)
  copier_goes x y outcome.Waits so = (refl, tt)
  copier_goes x y (outcome.Gave value) so = absurd so
  copier_goes x y (outcome.Done table) so = absurd so
  copier_goes x y (outcome.Refused fault) so = absurd so

  pub may_copy : (copier : Copier) (m : M) → MayCall asks eq hashes took shown can (put_copier copier) m → MayCopy hashes took shown can copier m
  may_copy copier m h =
      may_in CopyGoes CallGoes can took shown (copier_plan hashes) (call_plan asks eq hashes) put_copier (λ x. helped (put_copier x) goal) (λ x. refl) copier_goes copier m h

  pub copies_on : (copier next : Copier) (m n : M) → CopyLeads hashes took shown copier m next n → CallLeads asks eq hashes took shown (put_copier copier) m (put_copier next) n
  copies_on copier next m n l =
      leads_in CopyGoes CallGoes can took shown (copier_plan hashes) (call_plan asks eq hashes) put_copier (λ x. helped (put_copier x) goal) (λ x. refl) copier_goes copier next m n l
