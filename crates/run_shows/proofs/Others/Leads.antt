-- Where a step leads that is of no call, and leaves the blocks that are there as they are: its effects move nothing, or it takes one block away.
use Rattle.std.specs.Prelude.{◌≡◌, ◌≢◌, ℕ, Bool, true, false, List, [], ◌∷◌, Option, Some, None, if◌then◌else◌}
use Rattle.std.proofs.Common.{refl, ap, arith}
use Rattle.seize_words.specs.OneMemory.Mem.{value_at}
use Rattle.seize.specs.World.{World}
use Rattle.run_effects.specs.Given.TablesDeclared.node.Node.{Node}
use Rattle.run_effects.specs.Given.RunsDeclared.effect.Effect.{Effect}
use Rattle.run_effects.specs.Given.RunsDeclared.effect.Effect.TheVariants.{Asked}
use Rattle.run_effects.specs.Given.RunsDeclared.effect.Growth.TheVariants.{ABucket}
use Rattle.run_effects.specs.Given.RunsDeclared.effect.TableId.{TableId}
use Rattle.run_effects.specs.Given.SchedulesEffects.{with_effects}
use Rattle.run_effects.specs.Given.SchedulesMoment.{Moment}
use Rattle.run_effects.specs.Given.SchedulesThings.{same_table}
use Rattle.run_effects.specs.Given.RuleInWorld.{IsMapIn}
use Rattle.many_maps.specs.Maps.{Standing, IsSameMap}
use Rattle.run_effects.specs.Effects.Effects.{in_block, in_block_on}
use Rattle.run_effects.specs.Effects.Known.{Known, with_role}
use Rattle.run_effects.specs.declared.acting.Acting.{Acting}
use Rattle.run_effects.specs.declared.role.Role.{Role}
use Rattle.run_effects.specs.declared.role.Role.TheVariants as role
use Rattle.run_shows.specs.Follows.Blocks.{HasRole}
use Rattle.run_shows.specs.Follows.Calls.{RefinesCalls}
use Rattle.run_shows.specs.Follows.Shows.{Refines}
use Rattle.run_shows.proofs.Follows.Alike.{AllStill, AllCalm, calm_still, alike_same}
use Rattle.run_shows.proofs.Follows.Onward.{IsLasting}
use Rattle.run_shows.specs.Others.After.{RefinesAfter}
use Rattle.run_shows.proofs.Others.Quiet.{calls_none, stored_none, all_quiet, calls_shown}
use Rattle.run_shows.proofs.Others.Scenes.{all_stay, one_put, still_gone}
use Rattle.run_shows.proofs.Others.Stays.{StaysBlock}
use Rattle.run_shows.specs.Scenes.Scene.{Scene}
use Rattle.run_shows.proofs.Follows.Quiet.{DoneStill as DoesNothing}

-- tables that are the same have one map and one turn
pub same_parts : (t u : TableId) → same_table t u ≡ true → (t.map ≡ u.map) × (t.turn ≡ u.turn)
same_parts t u e = (grind (arith, e), grind (arith, e))

-- a bucket may have been asked for
pub roomed_calm : (q : Bool) → AllCalm (if q then [] else Asked ABucket ∷ [])
roomed_calm true = tt
roomed_calm false = (refl, tt)

pub roomed_still : (q : Bool) → AllStill (if q then [] else Asked ABucket ∷ [])
roomed_still true = tt
roomed_still false = (refl, tt)

-- what does nothing either way
pub either_calm : (q : Bool) → AllCalm (if q then [] else [])
either_calm true = tt
either_calm false = tt

pub either_still : (q : Bool) → AllStill (if q then [] else [])
either_still true = tt
either_still false = tt

-- a word of a block says nothing, if it is none of a table, or goes on naming what it named
pub word_says : (its : Acting) (known : Known) (field b : ℕ) (r : Role) (q : Bool) (was is : Role) → ((t : TableId) (len : ℕ) → r ≡ role.Table t len → q ≡ true)
    → DoesNothing known (in_block its r field known.stored q was is) (in_block_on its r field q b is known)
word_says its known field b role.Free q was is names = (tt, refl)
word_says its known field b (role.OwnPair caller) q was is names = (tt, refl)
word_says its known field b (role.OwnTable turn shape) q was is names = (tt, refl)
word_says its known field b (role.Pair n) q was is names = (tt, refl)
word_says its known field b (role.Counter map) q was is names = ((refl, tt), refl)
word_says its known field b (role.Table t len) true was is names = (tt, refl)
word_says its known field b (role.Table t len) false was is names = absurd (let e = names t len refl in cc e)

module _ {K V : Type 0} (same : K → K → Bool) (name : ℕ → List ℕ) (m : Moment K V) (known : Known) (s : Scene K V) (shown : Refines same name m known s)
    (w2 : World (Node K V)) (maps2 : ℕ → Option (Standing K)) (maps_same : (n : ℕ) → IsSameMap (s.maps n) (maps2 n)) (of : Option ℕ) (rest : Scene K V) (calls : RefinesCalls same name m rest.calls) where
  -- the moment after these effects shows the scene, by what is known then
  abbrev pub LedTo : List Effect → Known → Type 0
  LedTo effects after = RefinesAfter same name m known s shown (with_effects None of effects m) after (record rest { world = w2; maps = maps2 })

  pub calls_then : (effects : List Effect) → RefinesCalls same name (with_effects None of effects m) rest.calls
  calls_then effects = calls_shown same name m (with_effects None of effects m) rest.calls (calls_none of effects m) calls

  -- each block is as before
  pub quiet : (effects : List Effect) (after : Known) → AllStill effects → after.roles ≡ known.roles → after.stored ≡ known.stored → ((b : ℕ) → StaysBlock s.world w2 b) → LedTo effects after
  quiet effects after still roles as_many stays =
      all_stay same name m known s shown w2 maps2 maps_same (with_effects None of effects m) after (all_quiet of effects m still) roles as_many stays rest (calls_then effects)

  pub nothing : (effects : List Effect) (after : Known) → DoesNothing known effects after → ((b : ℕ) → StaysBlock s.world w2 b) → LedTo effects after
  nothing effects after does stays = quiet effects after (calm_still effects does.0) (ap (λ (k : Known). k.roles) does.1) (ap (λ (k : Known). k.stored) does.1) stays

  -- one was made, where none was
  pub made : (effects : List Effect) → AllStill effects → (x : ℕ) (r : Role) → (IsLasting (known.roles x) → ⊥) → HasRole w2 m.stored x r → ((n : ℕ) → r ≡ role.Pair n → ⊥)
      → ((b : ℕ) → b ≢ x → StaysBlock s.world w2 b) → LedTo effects (with_role x r known)
  made effects still x r none its no_pair stays =
      let alike = all_quiet of effects m still in
      one_put same name m known s shown w2 maps2 maps_same (with_effects None of effects m) (with_role x r known) (stored_none of effects m)
      (λ n before e. alike_same n m (with_effects None of effects m) alike) x r refl refl none its no_pair stays rest (calls_then effects)

  -- one is gone, and no pair and no table has moved
  pub gone_quiet : ((n : ℕ) (before : Standing K) → s.maps n ≡ Some before → IsMapIn same before.hash before.setting s.world before.chart before.blocks)
      → ((n : ℕ) (st : Standing K) → maps2 n ≡ Some st → IsMapIn same st.hash st.setting w2 st.chart st.blocks)
      → (effects : List Effect) → AllStill effects → (x : ℕ) → value_at w2.memory x ≡ None → ((b : ℕ) → b ≢ x → StaysBlock s.world w2 b) → LedTo effects (with_role x role.Free known)
  gone_quiet stood stand effects still x gone stays =
      still_gone same name m known s shown w2 maps2 maps_same stood stand x gone stays (with_role x role.Free known) refl refl rest (with_effects None of effects m) (stored_none of effects m)
      (calls_then effects) (all_quiet of effects m still)
