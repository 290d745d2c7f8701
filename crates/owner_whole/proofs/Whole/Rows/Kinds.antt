-- Whether a call, or a reservation, stands at a row of the collector.
use Rattle.std.specs.Prelude.{◌⊎◌}
use Rattle.std.proofs.Common.{inl, inr}
use Rattle.map_measures.specs.Given.ResizeDeclared.copier.Copying.{Copying}
use Rattle.map_measures.specs.Given.ResizeDeclared.copier.Copying.TheVariants as copies
use Rattle.map_measures.specs.Given.ResizeDeclared.dispose.Disposing.{Disposing}
use Rattle.map_measures.specs.Given.ResizeDeclared.dispose.Disposing.TheVariants as disposes
use Rattle.papaya_raw.specs.declared.machines.call.Calling.{Calling}
use Rattle.papaya_raw.specs.declared.machines.call.Calling.TheVariants as at
use Rattle.owner_facts.specs.Given.PointsTold.{IsRowOf, IsRowOfCopier, IsRowOfCall}

pub disposal_decided : (x : Disposing) → IsRowOf x ⊎ (IsRowOf x → ⊥)
disposal_decided (disposes.Settles settle) = inl tt
disposal_decided (disposes.Defers defer) = inl tt
disposal_decided disposes.Reads = inr (λ h. h)
disposal_decided (disposes.Walks table) = inr (λ h. h)
disposal_decided disposes.Over = inr (λ h. h)

pub copier_decided : (x : Copying) → IsRowOfCopier x ⊎ (IsRowOfCopier x → ⊥)
copier_decided (copies.Retires settle rest) = inl tt
copier_decided copies.Begins = inr (λ h. h)
copier_decided copies.Follows = inr (λ h. h)
copier_decided copies.Asks = inr (λ h. h)
copier_decided copies.Sees = inr (λ h. h)
copier_decided copies.Claims = inr (λ h. h)
copier_decided copies.Marks = inr (λ h. h)
copier_decided (copies.Probes word code table probe) = inr (λ h. h)
copier_decided (copies.Puts word code table probe) = inr (λ h. h)
copier_decided (copies.Covers word) = inr (λ h. h)
copier_decided (copies.Passes word code table) = inr (λ h. h)
copier_decided (copies.Grows word code making) = inr (λ h. h)
copier_decided copies.Aborts = inr (λ h. h)
copier_decided copies.Replaces = inr (λ h. h)
copier_decided (copies.Remakes making) = inr (λ h. h)
copier_decided copies.Counts = inr (λ h. h)
copier_decided (copies.Tallies word fault) = inr (λ h. h)
copier_decided (copies.Unmarks word fault) = inr (λ h. h)
copier_decided (copies.Unclaims fault) = inr (λ h. h)
copier_decided copies.Promotes = inr (λ h. h)
copier_decided copies.Announces = inr (λ h. h)
copier_decided (copies.Succeeds table) = inr (λ h. h)
copier_decided copies.Over = inr (λ h. h)
copier_decided (copies.Refused fault) = inr (λ h. h)

pub row_decided : (x : Calling) → IsRowOfCall x ⊎ (IsRowOfCall x → ⊥)
row_decided (at.Disposes d answer) = disposal_decided d.stands
row_decided (at.Helps copier goal) = copier_decided copier.stands
row_decided (at.Copies copier) = copier_decided copier.stands
row_decided at.Makes = inr (λ h. h)
row_decided (at.Looks l) = inr (λ h. h)
row_decided at.Roots = inr (λ h. h)
row_decided at.Probes = inr (λ h. h)
row_decided (at.Tries word new) = inr (λ h. h)
row_decided (at.Counts removed) = inr (λ h. h)
row_decided at.Nexts = inr (λ h. h)
row_decided (at.Firsts making) = inr (λ h. h)
row_decided (at.Allocs making) = inr (λ h. h)
row_decided (at.Asks asks_at) = inr (λ h. h)
row_decided (at.Drops end) = inr (λ h. h)
row_decided (at.Over end) = inr (λ h. h)
