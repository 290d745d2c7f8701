-- A row on a slot, a step by which all is reclaimed, the making of a map, and its end bring no pair into a map and take none out of it by a call.
use Rattle.std.specs.Prelude.{◌≡◌, ◌⊎◌, ◌&&◌, ℕ, Bool, true, false, List, [], ◌∷◌, ◌++◌, flat_map, nat_lt, if◌then◌else◌}
use Rattle.std.specs.List.{list_all}
use Rattle.std.proofs.Common.{refl, ap, ◌∙◌, inl, inr}
use Rattle.std.proofs.lemmas.Grind.{flat_map-append}
use Rattle.run_schedules.specs.Given.SeizeWordsDeclared.at.At.TheVariants.{Root, Used, Slot, Entry, Word}
use Rattle.run_schedules.specs.declared.effect.Effect.{Effect}
use Rattle.run_schedules.specs.declared.effect.Effect.TheVariants as effect
use Rattle.run_schedules.specs.declared.effect.Growth.TheVariants.{ABucket}
use Rattle.run_schedules.specs.Schedules.Handing.{is_first_making}
use Rattle.run_schedules.specs.Schedules.Linearizable.{shift_of}
use Rattle.run_schedules.specs.Schedules.Sequential.{Shift}
use Rattle.play_lists.specs.Given.EffectsDeclared.changed.Changed.{Changed}
use Rattle.play_lists.specs.Given.EffectsDeclared.changed.Changed.TheVariants as changed
use Rattle.play_lists.specs.Given.EffectsEffects.{effects_of, led_to, named, names_same, taken_by}
use Rattle.play_lists.specs.Given.EffectsKnown.{Known}
use Rattle.play_lists.specs.Given.EffectsDeclared.acting.Acting.{Acting}
use Rattle.play_lists.specs.Given.EffectsDeclared.acting.Acting.TheVariants as acts
use Rattle.play_lists.specs.Given.EffectsDeclared.role.Role.{Role}
use Rattle.play_lists.specs.Given.EffectsDeclared.role.Role.TheVariants as role
use Rattle.play_lists.proofs.Given.OthersRowPlans.{TellsRow}
use Rattle.run_sweeps.specs.Given.Ends.{ended_as}
use Rattle.play_lists.proofs.Given.ShedsReclaiming.Rows.{EmptiesRoot}
use Rattle.run_sweeps.proofs.Needs.Shifts.{making_none as first_shifts}

-- what takes a block away shifts nothing
taken_shifts : (who : Acting) (r : Role) → flat_map shift_of (taken_by who r) ≡ []
taken_shifts who role.Free = refl
taken_shifts who (role.OwnPair caller) = refl
taken_shifts who (role.OwnTable turn shape) = refl
taken_shifts who (role.Counter map) = refl
taken_shifts (acts.Ending map) (role.Pair n) = refl
taken_shifts (acts.Ending map) (role.Table t len) = refl
taken_shifts _ (role.Pair n) = refl
taken_shifts _ (role.Table t len) = refl

-- nor does what a root is led to
led_shifts : (who : Acting) (was is : Role) → flat_map shift_of (led_to who was is) ≡ []
led_shifts who was (role.OwnTable turn shape) = refl
led_shifts who (role.Table t len) (role.Table u other) = refl
led_shifts who _ (role.Table u other) = refl
led_shifts who was role.Free = refl
led_shifts who was (role.OwnPair caller) = refl
led_shifts who was (role.Counter map) = refl
led_shifts who was (role.Pair n) = refl

unless_shifts : (q : Bool) (effects : List Effect) → flat_map shift_of effects ≡ [] → flat_map shift_of (if q then [] else effects) ≡ []
unless_shifts true effects none = refl
unless_shifts false effects none = none

-- of rows, and of who reclaims all
pub rows_shift_none : (known : Known) (told : Changed) → TellsRow told ⊎ EmptiesRoot told → flat_map shift_of (effects_of acts.Row known told) ≡ []
rows_shift_none known changed.Nothing is = refl
rows_shift_none known (changed.Wrote (Root r) old new) is = unless_shifts (names_same old new) (led_to acts.Row (named known old) (named known new)) (led_shifts acts.Row (named known old) (named known new))
rows_shift_none known (changed.Wrote (Entry b field) old new) is = unless_shifts (names_same old new) [] refl
rows_shift_none known (changed.Wrote (Word b field) old new) (inl is) = absurd is
rows_shift_none known (changed.Wrote (Word b field) old new) (inr is) = absurd is
rows_shift_none known (changed.Wrote (Slot t field) old new) is = refl
rows_shift_none known (changed.Wrote (Used r) old new) is = refl
rows_shift_none known (changed.Made kind b) (inl is) = absurd is
rows_shift_none known (changed.Made kind b) (inr is) = absurd is
rows_shift_none known (changed.Unmade kind) is = refl
rows_shift_none known (changed.Took b) is = taken_shifts acts.Row (known.roles b)
rows_shift_none known (changed.Roomed bucket had) is = unless_shifts (had && nat_lt bucket known.buckets) (effect.Asked ABucket ∷ []) refl

pub firsts_shift_none : (effects : List Effect) → list_all is_first_making effects ≡ true → flat_map shift_of effects ≡ []
firsts_shift_none [] all = refl
firsts_shift_none (f ∷ effects) all = by (is_first_making f) refl (list_all is_first_making effects) (firsts_shift_none effects) all
  where
    by : (b : Bool) → is_first_making f ≡ b → (d : Bool) → (d ≡ true → flat_map shift_of effects ≡ []) → (b && d) ≡ true → shift_of f ++ flat_map shift_of effects ≡ []
    by true first true rest both = ap (λ (l : List Shift). l ++ flat_map shift_of effects) (first_shifts f first) ∙ rest refl
    by true first false rest both = absurd (cc both)
    by false first d rest both = absurd (cc both)

-- and of ends
pub ends_shift_none : (map : ℕ) (first : Known) (blocks : List ℕ) → flat_map shift_of (ended_as map first blocks) ≡ []
ends_shift_none map first [] = refl
ends_shift_none map first (b ∷ blocks) =
    flat_map-append shift_of (taken_by (acts.Ending map) (first.roles b)) (ended_as map first blocks)
    ∙ ap (λ (l : List Shift). l ++ flat_map shift_of (ended_as map first blocks)) (taken_shifts (acts.Ending map) (first.roles b)) ∙ ends_shift_none map first blocks
