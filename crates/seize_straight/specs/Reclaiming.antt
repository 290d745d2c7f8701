-- The reclaiming of a block as straight code: what has come of it.
use Rattle.std.specs.Prelude.{ℕ, Option, Some, None}
use Rattle.seize_words.specs.OneMemory.Op.{Op, Out}
use Rattle.seize_words.specs.OneMemory.Plan.{Steps}
use Rattle.seize.specs.Settle.{settle_plan}
use Rattle.seize.specs.declared.rows.settle.Settle.{Settle}
use Rattle.seize.specs.declared.rows.settle.Settled.TheVariants as settled
use Rattle.seize_straight.specs.Going.{SettleLeads}

module _ {T M : Type 0} (defers : T → Option ℕ) (took : M → Op T → Out T → M → Type 0) (shown : M → ℕ → Option T) where
  -- steps that go on have led to a point, and from there it has given this value back and come to that one; or they have led to that point, and no more
  abbrev pub Reclaims : Settle → M → Settle → M → Option T → Type 0
  Reclaims x m z k None = SettleLeads defers took shown x m z k
  Reclaims x m z k (Some value) = (y : Settle) × (n : M) × SettleLeads defers took shown x m y n × Steps took shown n (settle_plan defers y) k (z, settled.Gave value)
