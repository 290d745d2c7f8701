-- Whether the end of a map has more to do.
use Rattle.many_maps.specs.Given.SeizeDeclared.rows.settle.Settled.{Settled}
use Rattle.many_maps.specs.Given.SeizeDeclared.rows.settle.Settled.TheVariants as settled

-- a map that tells this has not ended
abbrev pub HasMore : {T : Type 0} → Settled T → Type 0
HasMore settled.Done = ⊥
HasMore _ = Unit {0}
