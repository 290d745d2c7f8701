-- Sweeps by their purposes: where one of each may stand, and what its steps tell.
use Rattle.std.specs.Prelude.{◌≡◌}
use Rattle.papaya_raw.specs.Given.ReservesDeclared.sweep.Purpose.{Purpose}
use Rattle.papaya_raw.specs.Given.ReservesDeclared.sweep.Purpose.TheVariants.{Walks, Clears, Retains}
use Rattle.papaya_raw.specs.Given.ReservesDeclared.sweep.Sweep.{Sweep}
use Rattle.papaya_raw.specs.Given.ReservesDeclared.sweep.Sweeping.{Sweeping}
use Rattle.papaya_raw.specs.Given.ReservesDeclared.sweep.Sweeping.TheVariants as at
use Rattle.papaya_raw.specs.Given.ReservesDeclared.sweep.Swept.{Swept}
use Rattle.papaya_raw.specs.Given.ReservesDeclared.sweep.Swept.TheVariants as swept

-- A walk asks nothing, one that removes pairs is not to be asked for the next one, and only one that retains some asks.
abbrev pub MayBeAt : Purpose → Sweeping → Type 0
MayBeAt Walks (at.Asks word) = ⊥
MayBeAt Walks stands = Unit {0}
MayBeAt Clears at.Ready = ⊥
MayBeAt Clears (at.Asks word) = ⊥
MayBeAt Clears stands = Unit {0}
MayBeAt Retains at.Ready = ⊥
MayBeAt Retains stands = Unit {0}

-- a sweep of this purpose
pub record IsFor (purpose : Purpose) (c : Sweep) : Type 0 where
  pub is : c.purpose ≡ purpose
  pub here : MayBeAt purpose c.stands

-- What a step tells that has come to this sweep: a walk is ready once it has said so, or has shown a pair, and one that retains some pairs asks as it says.
abbrev pub OutcomeAgreesBy : {T : Type 0} → Purpose → Sweep → Swept T → Type 0
OutcomeAgreesBy Walks c swept.Ready = c.stands ≡ at.Ready
OutcomeAgreesBy Walks c (swept.Pair word) = c.stands ≡ at.Ready
OutcomeAgreesBy Walks c (swept.Asks word) = ⊥
OutcomeAgreesBy Walks c told = Unit {0}
OutcomeAgreesBy Clears c swept.Ready = ⊥
OutcomeAgreesBy Clears c (swept.Pair word) = ⊥
OutcomeAgreesBy Clears c (swept.Asks word) = ⊥
OutcomeAgreesBy Clears c told = Unit {0}
OutcomeAgreesBy Retains c swept.Ready = ⊥
OutcomeAgreesBy Retains c (swept.Pair word) = ⊥
OutcomeAgreesBy Retains c (swept.Asks word) = c.stands ≡ at.Asks word
OutcomeAgreesBy Retains c told = Unit {0}
