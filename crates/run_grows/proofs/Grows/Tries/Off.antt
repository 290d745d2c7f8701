-- Where a call writes no root, and no word that says what stands in a table, pairs are where they were.
use Rattle.std.specs.Prelude.{◌≡◌, ◌&&◌, nat_lt, ℕ, Bool, true, false, List, [], ◌∷◌, Some, if◌then◌else◌}
use Rattle.std.specs.List.{list_all}
use Rattle.std.proofs.Common.{refl, subst, sym}
use Rattle.run_finds.specs.Given.SeizeWordsDeclared.at.At.TheVariants.{Entry, Root, Slot, Used, Word}
use Rattle.papaya_raw.specs.Given.TablesDeclared.table_words.TheConstants.{STATUS}
use Rattle.run_schedules.specs.declared.effect.Effect.{Effect}
use Rattle.run_schedules.specs.declared.effect.Effect.TheVariants as effect
use Rattle.run_schedules.specs.declared.effect.Growth.TheVariants.{ABucket}
use Rattle.run_schedules.specs.Schedules.Effects.{with_effects}
use Rattle.run_schedules.specs.Schedules.Handing.{is_call_effect}
use Rattle.run_schedules.specs.Schedules.Moment.{Moment}
use Rattle.run_finds.specs.Given.EffectsDeclared.changed.Changed.{Changed}
use Rattle.run_finds.specs.Given.EffectsDeclared.changed.Changed.TheVariants as changes
use Rattle.run_finds.specs.Given.EffectsDeclared.changed.Kind.{Kind}
use Rattle.run_finds.specs.Given.EffectsDeclared.changed.Kind.TheVariants as kind
use Rattle.run_finds.specs.Given.EffectsEffects.{effects_of, in_block, made_by, named, names_same, taken_by}
use Rattle.run_finds.specs.Given.EffectsKnown.{Known}
use Rattle.run_finds.specs.Given.EffectsDeclared.acting.Acting.{Acting}
use Rattle.run_finds.specs.Given.EffectsDeclared.acting.Acting.TheVariants as acts
use Rattle.run_finds.specs.Given.EffectsDeclared.role.Role.{Role}
use Rattle.run_finds.specs.Given.EffectsDeclared.role.Role.TheVariants as role
use Rattle.run_finds.proofs.Given.FollowsAlike.{AllCalm, calm_still, still_all}
use Rattle.run_finds.proofs.Given.SpotsEffects.{aside_all, calm_aside}
use Rattle.run_grows.proofs.Grows.Since.{HasSamePairs}
use Rattle.run_grows.proofs.Grows.Tries.Walk.{OffWords}

calm_if : (q : Bool) (a b : List Effect) → AllCalm a → AllCalm b → AllCalm (if q then a else b)
calm_if true a b h k = h
calm_if false a b h k = k

module _ (caller map : ℕ) (known : Known) where
  abbrev its : Acting
  its = acts.Call caller map

  made_calm : (k : Kind) → AllCalm (made_by its k)
  made_calm kind.Pair = (refl, tt)
  made_calm (kind.Table len limit turn) = (refl, tt)
  made_calm kind.Shards = tt

  taken_calm : (r : Role) → list_all is_call_effect (taken_by its r) ≡ true → AllCalm (taken_by its r)
  taken_calm role.Free all = tt
  taken_calm (role.OwnPair i) all = (refl, tt)
  taken_calm (role.OwnTable turn shape) all = (refl, tt)
  taken_calm (role.Pair n) all = absurd (cc all)
  taken_calm (role.Table t len) all = absurd (cc all)
  taken_calm (role.Counter of) all = tt

  status_calm : (r : Role) (stored : ℕ) (q : Bool) (was is : Role) → AllCalm (in_block its r STATUS stored q was is)
  status_calm role.Free stored q was is = tt
  status_calm (role.OwnPair i) stored q was is = tt
  status_calm (role.OwnTable turn shape) stored q was is = tt
  status_calm (role.Pair n) stored q was is = tt
  status_calm (role.Table t len) stored q was is = calm_if q [] [] tt tt
  status_calm (role.Counter of) stored q was is = (refl, tt)

  pub calm_off : (told : Changed) → OffWords told → list_all is_call_effect (effects_of its known told) ≡ true → AllCalm (effects_of its known told)
  calm_off changes.Nothing off all = tt
  calm_off (changes.Wrote (Root r) old new) off all = absurd off
  calm_off (changes.Wrote (Used r) old new) off all = tt
  calm_off (changes.Wrote (Slot s field) old new) off all = tt
  calm_off (changes.Wrote (Entry b field) old new) off all = absurd off
  calm_off (changes.Wrote (Word b field) old new) off all =
      subst (λ (f : ℕ). AllCalm (in_block its (known.roles b) f known.stored (names_same old new) (named known old) (named known new))) (sym off)
      (status_calm (known.roles b) known.stored (names_same old new) (named known old) (named known new))
  calm_off (changes.Made k b) off all = (refl, made_calm k)
  calm_off (changes.Unmade k) off all = (refl, tt)
  calm_off (changes.Took b) off all = taken_calm (known.roles b) all
  calm_off (changes.Roomed bucket had) off all = calm_if (had && nat_lt bucket known.buckets) [] (effect.Asked ABucket ∷ []) tt (refl, tt)

  pub same_pairs : {K V : Type 0} (own : List ℕ) (m : Moment K V) (told : Changed) → OffWords told → list_all is_call_effect (effects_of its known told) ≡ true
      → HasSamePairs m (with_effects (Some own) (Some map) (effects_of its known told) m)
  same_pairs own m told off all =
      let calm = calm_off told off all in
      let same = still_all (Some own) map (effects_of its known told) m (calm_still (effects_of its known told) calm) in
      record { stored = same.stored; place = same.place; born = same.born; spot = (aside_all (Some own) (Some map) (effects_of its known told) m (calm_aside (effects_of its known told) calm)).spot }
