-- Entries that make no operation, and what each operation is by itself: it was granted what it made, and where it was refused it made nothing.
use Rattle.std.specs.Prelude.{◌≡◌, Bool, true, false, ◌&&◌, List, [], ◌∷◌}
use Rattle.std.specs.List.{list_all}
use Rattle.std.proofs.Common.{refl, ap, ◌∙◌}
use Rattle.std.proofs.lemmas.Bool.{and_parts}
use Rattle.run_schedules.specs.declared.effect.Effect.{Effect}
use Rattle.run_schedules.specs.declared.outcome.Outcome.{Outcome}
use Rattle.run_schedules.specs.Schedules.Handing.{is_granted}
use Rattle.run_legal.specs.Given.EffectsDeclared.changed.Changed.{Changed}
use Rattle.run_legal.specs.Given.EffectsEffects.{effects_of}
use Rattle.run_legal.specs.Given.EffectsKnown.{Known}
use Rattle.run_legal.specs.Given.EffectsDeclared.acting.Acting.{Acting}
use Rattle.run_legal.proofs.Given.PromisesWeights.{operations_are_single}
use Rattle.run_schedules.specs.Deeds.Deeds.{Begins, Deed, Entry, Replies, Stops}
use Rattle.run_schedules.specs.Deeds.History.{may_do}
use Rattle.play_moves.specs.EachMoves.Parts.{DoesIts}

-- what all pass that pass another test
pub all_also : (p q : Effect → Bool) → ((f : Effect) → p f ≡ true → q f ≡ true) → (fs : List Effect) → list_all p fs ≡ true → list_all q fs ≡ true
all_also p q also [] all = refl
all_also p q also (f ∷ fs) all =
    let both = and_parts (p f) (list_all p fs) all in ap (λ (b : Bool). b && list_all q fs) (also f both.0) ∙ all_also p q also fs both.1

pub granted_so : (who : Acting) (known : Known) (changed : Changed) → is_granted false (effects_of who known changed) ≡ true
granted_so who known changed = (operations_are_single who known changed).1

module _ {K V : Type 0} where
  -- where nothing is done all of it may be
  pub none_may : (d : Deed K V) (fs : List Effect) → fs ≡ [] → list_all (may_do d) fs ≡ true
  none_may d fs none = ap (list_all (may_do d)) none

  -- a call begins, takes a reply, or is given up
  abbrev pub IsQuiet : Deed K V → Type 0
  IsQuiet (Begins i s map call) = Unit {0}
  IsQuiet (Replies i reply) = Unit {0}
  IsQuiet (Stops i) = Unit {0}
  IsQuiet _ = ⊥

  pub quiet_moves : (log : List (Entry K V)) (d : Deed K V) → IsQuiet d → (o : Outcome V) → DoesIts log (record { deed = d; outcome = o; effects = []; refused = false })
  quiet_moves log (Begins i s map call) is o = record { may = refl; granted = refl; refuses = tt; whole = tt; leaves = tt }
  quiet_moves log (Replies i reply) is o = record { may = refl; granted = refl; refuses = tt; whole = tt; leaves = tt }
  quiet_moves log (Stops i) is o = record { may = refl; granted = refl; refuses = tt; whole = tt; leaves = tt }
  quiet_moves log _ is o = absurd is
