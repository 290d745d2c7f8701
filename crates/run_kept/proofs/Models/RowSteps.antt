-- A step of a row on a slot: what is told of it, by the blocks that it takes away.
use Rattle.std.specs.Prelude.{◌&&◌, ◌==◌, ◌⊎◌, nat_lt, flat_map, if◌then◌else◌, Option, Some, None, IsSome}
use Rattle.std.proofs.Common.{◌≡◌, ℕ, ◌+◌, Bool, true, false, List, [], ◌∷◌, ◌++◌, inl, inr, refl, ap, sym, subst, arith, eqb-true, ◌∙◌}
use Rattle.std.proofs.lemmas.List.{append-nil}
use Rattle.std.proofs.lemmas.List.Concat.{flat_map-cons}
use Rattle.run_schedules.specs.Given.SeizeWordsMem.{value_at}
use Rattle.run_schedules.specs.Given.SeizeWordsDeclared.at.At.TheVariants.{Root, Used, Slot, Entry, Word}
use Rattle.seize.specs.Law.{Effect, Taken, is_retired, IsSound}
use Rattle.seize.specs.Sequence.{taken_in}
use Rattle.seize.specs.World.{World, Steps', times}
use Rattle.seize.specs.declared.states.TheConstants.{LAST_SLOT}
use Rattle.run_executor.proofs.Given.SeizeMovesState.Ghost.{is_given}
use Rattle.run_executor.proofs.Given.SeizeRuleRows.Effects.{IsOneStep}
use Rattle.run_executor.proofs.Given.SeizeMemoryWords.There.{value_there}
use Rattle.run_executor.proofs.Given.SeizeAloneHistories.NotTaken.{did, taken_gone}
use Rattle.run_executor.proofs.Given.SeizeAloneHistories.Reached.{Reached, steps_reached}
use Rattle.run_executor.proofs.Given.SeizeAloneSpared.Rows.{RowStepped}
use Rattle.papaya_raw.specs.Given.TablesDeclared.node.Node.{Node}
use Rattle.run_executor.specs.Given.EffectsDeclared.changed.Changed.{Changed}
use Rattle.run_executor.specs.Given.EffectsDeclared.changed.Changed.TheVariants as changed
use Rattle.run_schedules.specs.Schedules.Model.{thing_back}
use Rattle.run_schedules.specs.declared.effect.Effect.TheVariants as effect
use Rattle.run_schedules.specs.declared.effect.Growth.TheVariants.{ABucket}
use Rattle.run_schedules.specs.declared.effect.Thing.{Thing}
use Rattle.run_schedules.specs.declared.effect.Thing.TheVariants.{APair, ATable}
use Rattle.run_executor.specs.Given.EffectsEffects.{names_same, taken_by, effects_of, known_after}
use Rattle.run_executor.specs.Given.EffectsKnown.{Known}
use Rattle.run_executor.specs.Given.EffectsDeclared.acting.Acting.TheVariants.{Row}
use Rattle.run_executor.specs.Given.EffectsDeclared.role.Role.{Role}
use Rattle.run_executor.specs.Given.EffectsDeclared.role.Role.TheVariants as role
use Rattle.run_executor.proofs.Given.FollowsOperations.{LeavesBy, StaysThere}
use Rattle.run_executor.proofs.Given.FollowsTold.{roomed_as_many}
use Rattle.run_executor.proofs.Given.OthersRowPlans.{TellsRow}
use Rattle.run_executor.proofs.Given.MomentsOnSlots.{none_some}
use Rattle.run_kept.specs.Models.Numbers.{things_of, AreOfRow}
use Rattle.run_executor.proofs.Given.General.{some_there as some_value}
use Rattle.run_waiting.proofs.Lives.Reclaimed.{given_lives}

-- which blocks a step took away, as it is told
abbrev pub TakesSo : Changed → List ℕ → Type 0
TakesSo (changed.Took b) taken = taken ≡ b ∷ []
TakesSo _ taken = taken ≡ []

-- one step takes one block at most

one_taken : (b : ℕ) (effects : List Effect) → IsOneStep effects → (times b (taken_in effects) ≡ 0 → ⊥) → taken_in effects ≡ b ∷ []
one_taken b [] one some = absurd (some refl)
one_taken b (Taken c ∷ []) one some = by (b == c) refl
  where
    by : (t : Bool) → (b == c) ≡ t → (c ∷ []) ≡ (b ∷ [])
    by true e = ap (λ (x : ℕ). x ∷ []) (sym (eqb-true b c e))
    by false e = absurd (some (grind (arith, e)))
one_taken b (_ ∷ []) one some = absurd (some refl)
one_taken b (e ∷ f ∷ effects) one some = absurd one

none_taken : (effects : List Effect) → IsOneStep effects → ((c : ℕ) → effects ≡ Taken c ∷ [] → ⊥) → taken_in effects ≡ []
none_taken [] one none = refl
none_taken (Taken c ∷ []) one none = absurd (none c refl)
none_taken (_ ∷ []) one none = refl
none_taken (e ∷ f ∷ effects) one none = absurd one

module _ {K V : Type 0} (defers : Node K V → Option ℕ) (size : ℕ) (w : World (Node K V)) (r : Reached defers size w) (i : ℕ) (w2 : World (Node K V)) (step : Steps' defers i (w.row i) w w2) where
  abbrev pub it : RowStepped defers i w w2
  it = did defers size w r i w2 step

  -- what it takes away was there
  was_there : (c : ℕ) → it.effects ≡ Taken c ∷ [] → IsSome (value_at w.memory c)
  was_there c e =
      let good2 = (steps_reached defers size i w w2 r step).good in
      let sound = subst (λ (l : List Effect). IsSound l) (good2.logged ∙ it.logged ∙ ap (λ (l : List Effect). l ++ w.log) e) good2.inv.logged.sound in
      let retired = sound.0 in
      let same = ap (is_retired c) r.good.logged in
      let given : is_given (r.good.state.life c) ≡ true = cc (retired, same, r.good.inv.logged.given c) in
      value_there defers (LAST_SLOT + 1) w.memory r.good.state r.good.extra c r.good.shows (given_lives (r.good.state.life c) given)

  -- and is not any more
  is_gone : (c : ℕ) → it.effects ≡ Taken c ∷ [] → value_at w2.memory c ≡ None
  is_gone c e =
      taken_gone defers size w r i w2 step c
      (λ none.
      let z : times c (taken_in (Taken c ∷ [])) ≡ 0 = subst (λ (l : List Effect). times c (taken_in l) ≡ 0) e none in
      absurd (let one : times c (c ∷ []) ≡ 1 = grind arith in omega (arith, z, one)))

  -- where each block stays that was there, none is taken
  none_if_all_stay : ((c : ℕ) → StaysThere w.memory w2.memory c) → taken_in it.effects ≡ []
  none_if_all_stay stays =
      none_taken it.effects it.one
      (λ c e.
      let value = some_value (value_at w.memory c) (was_there c e) in
      let after = (stays c).there value.0 value.1 in
      some_none (value_at w2.memory c) after.0 after.1 (is_gone c e))
    where
      some_none : (o : Option (Node K V)) (value : Node K V) → o ≡ Some value → o ≡ None → ⊥
      some_none o value some none = cc (some, none)

  pub takes_so : (told : Changed) → LeavesBy w.memory w2.memory told → TellsRow told → TakesSo told (taken_in it.effects)
  takes_so (changed.Took b) left tells =
      one_taken b it.effects it.one (λ none. none_some (value_at w.memory b) left.0 (sym (it.frames.values b none) ∙ left.1))
  takes_so (changed.Wrote at old new) left tells =
      none_taken it.effects it.one (λ c e. none_some (value_at w.memory c) (was_there c e) (sym (left.2 c) ∙ is_gone c e))
  takes_so changed.Nothing left tells = none_if_all_stay left
  takes_so (changed.Made kind b) left tells = absurd tells
  takes_so (changed.Unmade kind) left tells = absurd tells
  takes_so (changed.Roomed bucket had) left tells = none_if_all_stay left

-- What is told of it as effects.

role_back : (r : Role) → flat_map thing_back (taken_by Row r) ≡ things_of r
role_back role.Free = refl
role_back (role.OwnPair caller) = flat_map-cons thing_back effect.PairGivenUp []
role_back (role.OwnTable turn shape) = flat_map-cons thing_back (effect.TableGivenUp (record { map = 0; turn = turn })) []
role_back (role.Counter of) = refl
role_back (role.Pair n) = flat_map-cons thing_back (effect.Reclaimed (APair n)) []
role_back (role.Table t len) = flat_map-cons thing_back (effect.Reclaimed (ATable t)) []

role_of_row : (r : Role) → AreOfRow (taken_by Row r)
role_of_row role.Free = tt
role_of_row (role.OwnPair caller) = (tt, tt)
role_of_row (role.OwnTable turn shape) = (tt, tt)
role_of_row (role.Counter of) = tt
role_of_row (role.Pair n) = (tt, tt)
role_of_row (role.Table t len) = (tt, tt)

module _ (known first : Known) where
  -- the things in the blocks that it took away, as they are noted at first
  abbrev Back : List ℕ → List Thing
  Back blocks = flat_map (λ b. things_of (first.roles b)) blocks

  pub step_back : (told : Changed) → TellsRow told → (taken : List ℕ) → TakesSo told taken → ((b : ℕ) → told ≡ changed.Took b → known.roles b ≡ first.roles b)
      → (flat_map thing_back (effects_of Row known told) ≡ Back taken) × AreOfRow (effects_of Row known told)
  step_back changed.Nothing tells taken so noted = (sym (ap Back so), tt)
  step_back (changed.Wrote (Slot t field) old new) tells taken so noted = (sym (ap Back so), tt)
  step_back (changed.Wrote (Entry b field) old new) tells taken so noted = by (names_same old new)
    where
      by : (q : Bool) → (flat_map thing_back (if q then [] else []) ≡ Back taken) × AreOfRow (if q then [] else [])
      by true = (sym (ap Back so), tt)
      by false = (sym (ap Back so), tt)
  step_back (changed.Wrote (Root r) old new) tells taken so noted = absurd tells
  step_back (changed.Wrote (Used r) old new) tells taken so noted = absurd tells
  step_back (changed.Wrote (Word b field) old new) tells taken so noted = absurd tells
  step_back (changed.Made kind b) tells taken so noted = absurd tells
  step_back (changed.Unmade kind) tells taken so noted = absurd tells
  step_back (changed.Took b) tells taken so noted = (
    role_back (known.roles b) ∙ ap things_of (noted b refl) ∙ sym (ap Back so ∙ flat_map-cons (λ (c : ℕ). things_of (first.roles c)) b [] ∙ append-nil (things_of (first.roles b))),
    role_of_row (known.roles b),
  )
  step_back (changed.Roomed bucket had) tells taken so noted = by (had && nat_lt bucket known.buckets)
    where
      by : (q : Bool) → (flat_map thing_back (if q then [] else effect.Asked ABucket ∷ []) ≡ Back taken) × AreOfRow (if q then [] else effect.Asked ABucket ∷ [])
      by true = (sym (ap Back so), tt)
      by false = (flat_map-cons thing_back (effect.Asked ABucket) [] ∙ sym (ap Back so), (tt, tt))

-- and what is noted of blocks then: as before, but that one is free
pub roles_after : (known : Known) (told : Changed) → TellsRow told → (b : ℕ) → ((known_after Row told known).roles b ≡ known.roles b) ⊎ ((known_after Row told known).roles b ≡ role.Free)
roles_after known changed.Nothing tells b = inl refl
roles_after known (changed.Wrote (Slot t field) old new) tells b = inl refl
roles_after known (changed.Wrote (Entry c field) old new) tells b = inl refl
roles_after known (changed.Wrote (Root r) old new) tells b = absurd tells
roles_after known (changed.Wrote (Used r) old new) tells b = absurd tells
roles_after known (changed.Wrote (Word c field) old new) tells b = absurd tells
roles_after known (changed.Made kind c) tells b = absurd tells
roles_after known (changed.Unmade kind) tells b = absurd tells
roles_after known (changed.Took c) tells b = by (b == c)
  where
    by : (q : Bool) → ((if q then role.Free else known.roles b) ≡ known.roles b) ⊎ ((if q then role.Free else known.roles b) ≡ role.Free)
    by true = inr refl
    by false = inl refl
roles_after known (changed.Roomed bucket had) tells b = inl (ap (λ (f : ℕ → Role). f b) (roomed_as_many Row known bucket had).0)
