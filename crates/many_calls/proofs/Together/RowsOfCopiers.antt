-- A copier that stands at a row of the collector retires a table.
use Rattle.std.specs.Prelude.{ℕ}
use Rattle.seize_model.specs.Given.SeizeDeclared.rows.settle.Settle.{Settle}
use Rattle.map_facts_late.specs.Given.ResizeDeclared.copier.Copying.{Copying}
use Rattle.map_facts_late.specs.Given.ResizeDeclared.copier.Copying.TheVariants as copies
use Rattle.map_facts_late.specs.Given.PointsTold.{IsRowOfCopier}

pub at_retirement : (P : Copying → Type 0) → ((settle : Settle) (rest : ℕ) → P (copies.Retires settle rest)) → (x : Copying) → IsRowOfCopier x → P x
at_retirement P r (copies.Retires settle rest) row = r settle rest
at_retirement P r copies.Begins row = absurd row
at_retirement P r copies.Follows row = absurd row
at_retirement P r copies.Asks row = absurd row
at_retirement P r copies.Sees row = absurd row
at_retirement P r copies.Claims row = absurd row
at_retirement P r copies.Marks row = absurd row
at_retirement P r (copies.Probes a b d e) row = absurd row
at_retirement P r (copies.Puts a b d e) row = absurd row
at_retirement P r (copies.Covers a) row = absurd row
at_retirement P r (copies.Passes a b d) row = absurd row
at_retirement P r (copies.Grows a b d) row = absurd row
at_retirement P r copies.Aborts row = absurd row
at_retirement P r copies.Replaces row = absurd row
at_retirement P r (copies.Remakes a) row = absurd row
at_retirement P r copies.Counts row = absurd row
at_retirement P r (copies.Tallies a b) row = absurd row
at_retirement P r (copies.Unmarks a b) row = absurd row
at_retirement P r (copies.Unclaims a) row = absurd row
at_retirement P r copies.Promotes row = absurd row
at_retirement P r copies.Announces row = absurd row
at_retirement P r (copies.Succeeds a) row = absurd row
at_retirement P r copies.Over row = absurd row
at_retirement P r (copies.Refused a) row = absurd row
