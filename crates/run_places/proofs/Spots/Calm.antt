-- A step of a call that moves no pair and no table neither stores, nor copies, nor links: blocks of a map are those that they were.
use Rattle.std.specs.Prelude.{◌&&◌, ◌≡◌, ℕ, ◌<◌, nat_lt, Bool, true, List, [], ◌∷◌}
use Rattle.std.proofs.Common.{refl, sym, subst, ◌∙◌, inl, inr}
use Rattle.std.proofs.lemmas.Bool.{cases_eq}
use Rattle.run_shows.specs.Given.SeizeWordsDeclared.at.At.{At}
use Rattle.run_shows.specs.Given.SeizeWordsMem.{Mem}
use Rattle.run_shows.specs.Given.SeizeWorld.{World}
use Rattle.run_shows.specs.Given.TablesDeclared.node.Node.{Node}
use Rattle.run_shows.specs.Given.TablesDeclared.setting.Setting.{Setting}
use Rattle.run_shows.specs.Given.RunsDeclared.effect.Effect.{Effect}
use Rattle.run_shows.specs.Given.RunsDeclared.effect.Effect.TheVariants.{Asked}
use Rattle.run_shows.specs.Given.RunsDeclared.effect.Growth.TheVariants.{ABlock}
use Rattle.run_shows.specs.Given.SchedulesLists.{put}
use Rattle.run_shows.specs.Given.EffectsDeclared.changed.Changed.{Changed}
use Rattle.run_shows.specs.Given.EffectsDeclared.changed.Changed.TheVariants as changed
use Rattle.run_shows.specs.Given.EffectsDeclared.changed.Kind.{Kind}
use Rattle.run_shows.specs.Given.EffectsDeclared.changed.Kind.TheVariants as kind
use Rattle.run_shows.specs.Given.TellsTells.{PreservesNames}
use Rattle.run_shows.specs.Given.RuleChart.{Chart}
use Rattle.run_shows.specs.Given.RuleWords.{Blocks}
use Rattle.run_shows.specs.Given.RuleInWorld.{IsMapIn, StepSpec}
use Rattle.run_shows.specs.Given.EffectsEffects.{made_by, taken_by, effects_of, known_after}
use Rattle.run_shows.specs.Given.EffectsKnown.{Known}
use Rattle.run_shows.specs.Given.EffectsDeclared.acting.Acting.{Acting}
use Rattle.run_shows.specs.Given.EffectsDeclared.acting.Acting.TheVariants.{Call}
use Rattle.run_shows.specs.Given.EffectsDeclared.role.Role.{Role}
use Rattle.run_shows.specs.Given.EffectsDeclared.role.Role.TheVariants as role
use Rattle.run_shows.specs.Follows.Blocks.{HasRole}
use Rattle.run_shows.specs.Follows.Maps.{table_of}
use Rattle.run_shows.proofs.Follows.Alike.{AllCalm, put_here, put_elsewhere}
use Rattle.run_shows.proofs.Follows.Onward.{IsLasting, IsOfMap, KeepsRoles}
use Rattle.run_shows.proofs.Follows.Operations.{LeavesBy}
use Rattle.run_shows.proofs.Follows.Quiet.{written_still}
use Rattle.run_shows.proofs.Follows.Told.{ArePairsOnce, IsQuiet, quiet_told}
use Rattle.run_shows.proofs.Others.Leads.{roomed_calm}

made_calm : (acting : Acting) (k : Kind) → AllCalm (Asked ABlock ∷ made_by acting k)
made_calm acting kind.Pair = (refl, (refl, tt))
made_calm acting (kind.Table len limit turn) = (refl, (refl, tt))
made_calm acting kind.Shards = (refl, tt)

-- of blocks one is none of a map from now on
pub put_back : (roles : ℕ → Role) (x : ℕ) (r : Role) → (IsOfMap r → ⊥) → (b : ℕ) → IsOfMap (put x r roles b) → put x r roles b ≡ roles b
put_back roles x r none b of = elim (cases_eq b x) as (λ _. put x r roles b ≡ roles b) [
  | inl e ↦ absurd (none (subst IsOfMap (put_here x r roles b e) of))
  | inr ne ↦ put_elsewhere x r roles b ne
]

-- blocks of a map are those that they were
pub record IsCalm (known : Known) (effects : List Effect) (known2 : Known) : Type 0 where
  pub calm : AllCalm effects
  pub keeps : KeepsRoles known known2
  pub back : (b : ℕ) → IsOfMap (known2.roles b) → known2.roles b ≡ known.roles b

module _ {K V : Type 0} (same : K → K → Bool) (hash : K → ℕ) (setting : Setting) (caller : ℕ) (w : World (Node K V)) (c : Chart K) (blocks : Blocks)
    (m2 : Mem (Node K V)) (Told : World (Node K V) → Chart K → Blocks → Type 0) (went : StepSpec same hash setting caller w c blocks m2 Told) (is_map : IsMapIn same hash setting w c blocks)
    (map : ℕ) (count : List (K × V)) (known : Known) (had : (b : ℕ) → HasRole w count b (known.roles b)) (single : ArePairsOnce known.roles)
    (tables : (t : ℕ) → t < c.past → blocks.table_known t ≡ true → known.roles (blocks.table t) ≡ role.Table (table_of map t) (c.len t))
    (told : Changed) (left : LeavesBy w.memory m2 told) (quiet : (at : At) (old new : ℕ) → told ≡ changed.Wrote at old new → PreservesNames setting c blocks at old new) where
  abbrev its : Acting
  its = Call caller map

  still : IsQuiet same hash setting caller w c blocks m2 Told went is_map map count known had single tables (effects_of its known told) (known_after its told known)
  still = quiet_told same hash setting caller w c blocks m2 Told went is_map map count known had single tables told left quiet

  abbrev Calm : Changed → Type 0
  Calm t = AllCalm (effects_of its known t)

  taken_calm : (r : Role) → (IsLasting r → ⊥) → AllCalm (taken_by its r)
  taken_calm role.Free none = tt
  taken_calm (role.OwnPair i) none = (refl, tt)
  taken_calm (role.OwnTable turn shape) none = (refl, tt)
  taken_calm (role.Pair n) none = absurd (none tt)
  taken_calm (role.Table t len) none = absurd (none tt)
  taken_calm (role.Counter of) none = tt

  calm_of : (t : Changed) → told ≡ t → Calm t
  calm_of changed.Nothing e = tt
  calm_of (changed.Wrote at old new) e =
      let words = subst (LeavesBy w.memory m2) e left in
      (written_still same hash setting caller w c blocks m2 Told went is_map map count known had tables at old new words.0 words.1 (quiet at old new e)).0
  calm_of (changed.Made k b) e = made_calm its k
  calm_of (changed.Unmade k) e = (refl, tt)
  calm_of (changed.Took b) e =
      let keeps = subst (λ (x : Changed). KeepsRoles known (known_after its x known)) e still.keeps in
      taken_calm (known.roles b) (λ last. (let one : role.Free ≡ known.roles b = sym (put_here b role.Free known.roles b refl) ∙ keeps b last in subst IsLasting (sym one) last))
  calm_of (changed.Roomed bucket had2) e = roomed_calm (had2 && nat_lt bucket known.buckets)

  pub calm_done : IsCalm known (effects_of its known told) (known_after its told known)
  calm_done = record { calm = calm_of told refl; keeps = still.keeps; back = λ b of. sym (still.back b of) }
