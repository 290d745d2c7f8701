-- What a session has done that has gone over the pairs of its map.
use Rattle.std.specs.Prelude.{ℕ, Bool, Result}
use Rattle.seize_words.specs.declared.fault.Fault.{Fault}
use Rattle.papaya_raw.specs.Given.ReservesDeclared.sweep.Purpose.{Purpose}
use Rattle.papaya_raw.specs.Given.ReservesDeclared.sweep.Purpose.TheVariants.{Retains, Walks}
use Rattle.threads_calls.specs.Given.ErrandsCalling.{outcome_of}
use Rattle.threads_calls.specs.Given.ErrandsLooking.{HasRun}
use Rattle.threads_calls.specs.Given.ErrandsSweeping.{swept_by}
use Rattle.threads_calls.specs.Given.ActsActs.{GoOver, Wanted}
use Rattle.threads_calls.specs.Given.ViewsDeclared.view.View.{View}

-- What is wanted of a map whose pairs are all to be shown,
abbrev pub walks : {K V : Type 0} → Wanted K V
walks = GoOver Walks

-- or of which those are to be kept of which a test says so.
abbrev pub retains : {K V : Type 0} → Wanted K V
retains = GoOver Retains

module _ {K V S : Type 0} where
  -- it has run a call that goes over all pairs for this, which is done, or was refused:
  abbrev pub HasGone : (K → K → Bool) → (S → K → ℕ) → Purpose → Result Unit Fault → View K V S → View K V S → Type 0
  HasGone same hash purpose end v w = HasRun same hash (GoOver purpose) (outcome_of (swept_by end)) v w

  -- it shows them,
  abbrev pub HasShown : (K → K → Bool) → (S → K → ℕ) → Result Unit Fault → View K V S → View K V S → Type 0
  HasShown same hash end v w = HasGone same hash Walks end v w

  -- or removes those that the test does not keep
  abbrev pub HasSifted : (K → K → Bool) → (S → K → ℕ) → Result Unit Fault → View K V S → View K V S → Type 0
  HasSifted same hash end v w = HasGone same hash Retains end v w
