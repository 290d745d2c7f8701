-- A step of a row within a call leaves pairs where they lie: it hands over, or takes away, what has left its map.
use Rattle.std.specs.Prelude.{◌&&◌, ◌≡◌, ℕ, nat_lt, Bool, true, false, List, [], ◌∷◌, if◌then◌else◌}
use Rattle.std.proofs.Common.{refl, ap, sym, subst, ◌∙◌}
use Rattle.run_shows.specs.Given.SeizeWorld.{World}
use Rattle.run_shows.specs.Given.TablesDeclared.node.Node.{Node}
use Rattle.run_shows.specs.Given.RunsDeclared.effect.Effect.{Effect}
use Rattle.run_shows.specs.Given.RunsDeclared.effect.Effect.TheVariants.{Asked}
use Rattle.run_shows.specs.Given.RunsDeclared.effect.Growth.TheVariants.{ABucket}
use Rattle.run_shows.specs.Given.SchedulesMoment.{Moment}
use Rattle.run_shows.specs.Given.EffectsDeclared.changed.Changed.{Changed}
use Rattle.run_shows.specs.Given.EffectsDeclared.changed.Changed.TheVariants as changed
use Rattle.run_shows.specs.Given.EffectsEffects.{taken_by, effects_of, known_after}
use Rattle.run_shows.specs.Given.EffectsKnown.{Known}
use Rattle.run_shows.specs.Given.EffectsDeclared.acting.Acting.{Acting}
use Rattle.run_shows.specs.Given.EffectsDeclared.acting.Acting.TheVariants.{Call}
use Rattle.run_shows.specs.Given.EffectsDeclared.role.Role.{Role}
use Rattle.run_shows.specs.Given.EffectsDeclared.role.Role.TheVariants as role
use Rattle.run_shows.specs.Follows.Blocks.{RefinesBlocks}
use Rattle.run_shows.proofs.Follows.Onward.{IsOfMap}
use Rattle.run_shows.proofs.Follows.Operations.{LeavesBy}
use Rattle.run_shows.proofs.Follows.Rows.{HandsOn, IsStill, Puts, Retires, RowLeaves, row_written}
use Rattle.run_shows.proofs.Follows.Told.{roomed_as_many}
use Rattle.run_places.proofs.Spots.Calm.{put_back}
use Rattle.run_places.proofs.Spots.Effects.{AllAside, calm_aside}
use Rattle.run_places.proofs.Spots.Stays.{WerePairs}

-- what is handed over lies where it lay
pub hands_aside : (effects : List Effect) → HandsOn effects → AllAside effects
hands_aside effects (IsStill still all) = calm_aside still all
hands_aside effects (Puts n t) = (refl, tt)
hands_aside effects (Retires x) = (refl, tt)

-- and so does what is taken away
pub taken_aside : (caller map : ℕ) (r : Role) → AllAside (taken_by (Call caller map) r)
taken_aside caller map role.Free = tt
taken_aside caller map (role.OwnPair i) = (refl, tt)
taken_aside caller map (role.OwnTable turn shape) = (refl, tt)
taken_aside caller map (role.Pair n) = (refl, tt)
taken_aside caller map (role.Table t len) = (refl, tt)
taken_aside caller map (role.Counter of) = tt

pub roomed_aside : (q : Bool) → AllAside (if q then [] else Asked ABucket ∷ [])
roomed_aside true = tt
roomed_aside false = (refl, tt)

pub same_pairs : (known known2 : Known) → known2.roles ≡ known.roles → WerePairs known known2
same_pairs known known2 same b k is = ap (λ (f : ℕ → Role). f b) (sym same) ∙ is

module _ {K V : Type 0} (caller map : ℕ) (m : Moment K V) (known : Known) (w w2 : World (Node K V)) (shown : RefinesBlocks m known w) (leaves : RowLeaves w w2) where
  abbrev its : Acting
  its = Call caller map

  abbrev pub IsAside : Changed → Type 0
  IsAside told = AllAside (effects_of its known told) × WerePairs known (known_after its told known)

  pub row_aside : (told : Changed) → LeavesBy w.memory w2.memory told → IsAside told
  row_aside changed.Nothing left = (tt, same_pairs known known refl)
  row_aside (changed.Wrote at old new) left =
      let done = row_written caller map m.stored known w w2 shown.roles leaves left.2 at old new left.0 left.1 in
      (hands_aside (effects_of its known (changed.Wrote at old new)) done.0, same_pairs known (known_after its (changed.Wrote at old new) known) (ap (λ (k : Known). k.roles) done.1))
  row_aside (changed.Made k b) left = absurd (let gone = leaves.none b left.0 in let there = left.3 in cc (gone, there))
  row_aside (changed.Unmade k) left = ((refl, tt), same_pairs known known refl)
  row_aside (changed.Took b) left = (taken_aside caller map (known.roles b), λ x k is. sym (put_back known.roles b role.Free (λ of. of) x (subst IsOfMap (sym is) tt)) ∙ is)
  row_aside (changed.Roomed bucket had) left =
      (roomed_aside (had && nat_lt bucket known.buckets), same_pairs known (known_after its (changed.Roomed bucket had) known) (roomed_as_many its known bucket had).0)
