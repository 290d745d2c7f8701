-- Where a step writes no word of a map's count, and the moment counts nothing, shards are what they were.
use Rattle.std.specs.Prelude.{◌≡◌, ℕ, ◌≤◌, Bool, false, List, [], ◌∷◌, find, Option, Some, None}
use Rattle.std.proofs.Common.{refl, ap, sym, subst, ◌∙◌, inl, inr}
use Rattle.run_debts.specs.Given.SeizeWordsMem.{Mem, word_at}
use Rattle.run_debts.specs.Given.SeizeWordsDeclared.at.At.TheVariants.{Word}
use Rattle.run_debts.proofs.Given.SeizeMemoryWords.Named.{or_zero}
use Rattle.run_debts.specs.Given.TablesDeclared.node.Node.{Node}
use Rattle.run_debts.specs.Given.TablesDeclared.setting.Setting.{Setting}
use Rattle.run_debts.specs.Given.RunsSame.{is_same}
use Rattle.run_debts.specs.Given.RunsDeclared.effect.Effect.{Effect}
use Rattle.run_debts.specs.Given.RunsDeclared.effect.Effect.TheVariants as effect
use Rattle.run_debts.specs.Given.SchedulesEffects.{shards_by, with_effect, with_effects}
use Rattle.run_debts.specs.Given.SchedulesEntry.{acting}
use Rattle.run_debts.specs.Given.SchedulesMoment.{UnderWay as CallThere, Moment}
use Rattle.run_debts.specs.Given.EffectsDeclared.changed.Changed.{Changed}
use Rattle.owner_calls.specs.Given.CallersTogether.{UnderWay}
use Rattle.run_debts.specs.Given.EffectsKnown.{Known}
use Rattle.run_debts.specs.Given.EffectsDeclared.role.Role.TheVariants as role
use Rattle.run_debts.specs.Given.FinishesMakings.{Beginning, HasMade, HasOwnCounter}
use Rattle.run_debts.specs.Given.FinishesMaps.{Standing, IsSameMap}
use Rattle.run_debts.proofs.Given.FinishesBeside.Makings.Lasts.{made_counter}
use Rattle.run_debts.proofs.Given.FollowsOperations.{Operated}
use Rattle.run_blocks.specs.Shards.Adds.{RefinesAdds}
use Rattle.run_blocks.specs.Shards.ShardWords.{RefinesShards, IsUncounted, MakesUncounted}
use Rattle.run_debts.specs.Shards.{is_counting}
use Rattle.run_debts.proofs.Gains.{NoneCounts}
use Rattle.run_debts.proofs.Uncounted.{CountsNowhere}
use Rattle.run_blocks.proofs.Shards.WordOps.{word_lasts}
use Rattle.run_debts.specs.Given.ScenesHeld.{Held, IsAt}
use Rattle.run_debts.specs.Given.ScenesScene.{Scene}
use Rattle.run_debts.proofs.Given.General.{same_some as one_of}

-- effects of which none counts leave shards, and so do those of no call
module _ {K V : Type 0} where
  one_shards : (o : Option (CallThere K V)) (f : Effect) (shards : ℕ → ℕ → ℕ) → is_counting f ≡ false → shards_by o f shards ≡ shards
  one_shards None f shards none = refl
  one_shards (Some c) (effect.Counted s) shards none = absurd (cc none)
  one_shards (Some c) _ shards none = refl

  pub uncounted_shards : (caller : Option (List ℕ)) (acted : Option ℕ) (effects : List Effect) (m : Moment K V) → NoneCounts effects → (with_effects caller acted effects m).shards ≡ m.shards
  uncounted_shards caller acted [] m none = refl
  uncounted_shards caller acted (f ∷ fs) m none = uncounted_shards caller acted fs (with_effect caller acted f m) none.1 ∙ one_shards (acting caller m) f m.shards none.0

  pub none_shards : (acted : Option ℕ) (effects : List Effect) (m : Moment K V) → (with_effects None acted effects m).shards ≡ m.shards
  none_shards acted [] m = refl
  none_shards acted (f ∷ fs) m = none_shards acted fs (with_effect None acted f m)

-- a map that is as it was, but for what may be looked at, stood with its setting
pub same_setting : {K : Type 0} (o o2 : Option (Standing K)) → IsSameMap o o2 → (st : Standing K) → o2 ≡ Some st → (before : Standing K) × (o ≡ Some before) × (st.setting ≡ before.setting)
same_setting None o2 none st is = absurd (cc (none, is))
same_setting (Some before) o2 (blocks, sights, here, part) st is =
    (before, refl, ap (λ (x : Standing _). x.setting) (one_of st (record before { blocks = blocks; sights = sights }) (sym is ∙ here)))

-- a word of a count that was there, and is, is what it was, where no word of one is written
pub word_kept : {K V : Type 0} (known : Known) (m m2 : Mem (Node K V)) (told : Changed) → Operated m m2 told → CountsNowhere known told
    → (c f x y of : ℕ) → known.roles c ≡ role.Counter of → word_at m (Word c f) ≡ Some x → word_at m2 (Word c f) ≡ Some y → y ≡ x
word_kept known m m2 told made nowhere c f x y of counter was is = elim (word_lasts m m2 c f y is told made) as (λ _. y ≡ x) [
  | inl same ↦ same ∙ ap or_zero was
  | inr wrote ↦ absurd (nowhere c f wrote.0 wrote.1 of wrote.2 counter)
]

-- From one scene to the next, each that of what is held.
module _ {K V : Type 0} (same : K → K → Bool) (hash : ℕ → K → ℕ) (m v : Moment K V) (s t : Scene K V) (new : Held K V) (at_new : IsAt same hash new t) where
  -- the word of a shard is there
  pub shard_there : (n : ℕ) (st : Standing K) → t.maps n ≡ Some st → (shard : ℕ) → shard ≤ st.setting.mask → (y : ℕ) × (word_at t.world.memory (Word st.setting.counter shard) ≡ Some y)
  shard_there n st is shard few = (at_new.together.makings.standing.each n st is).ground.map.shards shard few

  own_there : (i : ℕ) (b : Beginning K) → t.makers i ≡ Some b → HasMade b.machine.stands → HasOwnCounter t.world i b.machine.setting
  own_there i b is made = made_counter same i t.world t.world new.roots b.machine b.machine.stands made (at_new.together.makings.facts i b is).point

  pub made_there : (i : ℕ) (b : Beginning K) → t.makers i ≡ Some b → HasMade b.machine.stands → (shard : ℕ) → shard ≤ b.machine.setting.mask
      → (y : ℕ) × (word_at t.world.memory (Word b.machine.setting.counter shard) ≡ Some y)
  made_there i b is made shard few = (own_there i b is made).shards shard few

  -- Each word of a counter that was there, and is, is what it was.
  module _ (IsCounter : ℕ → Type 0) (keeps : (c f x y : ℕ) → IsCounter c → word_at s.world.memory (Word c f) ≡ Some x → word_at t.world.memory (Word c f) ≡ Some y → y ≡ x) where
    -- so is a shard of a map that stood with its setting
    pub shard_kept : (n : ℕ) (st before : Standing K) → t.maps n ≡ Some st → st.setting ≡ before.setting → IsCounter before.setting.counter
        → (shard x : ℕ) → shard ≤ st.setting.mask → word_at s.world.memory (Word before.setting.counter shard) ≡ Some x → word_at t.world.memory (Word st.setting.counter shard) ≡ Some x
    shard_kept n st before is same_setting its shard x few was =
        let now = shard_there n st is shard few in
        let was_so : word_at s.world.memory (Word st.setting.counter shard) ≡ Some x = ap (λ (z : Setting). word_at s.world.memory (Word z.counter shard)) same_setting ∙ was in
        now.1 ∙ ap Some (keeps st.setting.counter shard x now.0 (subst (λ (z : Setting). IsCounter z.counter) (sym same_setting) its) was_so now.1)

    pub shards_kept : v.shards ≡ m.shards → ((n : ℕ) (st : Standing K) → s.maps n ≡ Some st → IsCounter st.setting.counter)
        → ((n : ℕ) (st : Standing K) → t.maps n ≡ Some st → (before : Standing K) × (s.maps n ≡ Some before) × (st.setting ≡ before.setting)) → RefinesShards m s → RefinesShards v t
    shards_kept shards its stood shows n st is shard few =
        let was = stood n st is in
        shard_kept n st was.0 is was.2 (its n was.0 was.1) shard (m.shards n shard) few (shows n was.0 was.1 shard (subst (λ (z : Setting). shard ≤ z.mask) was.2 few))
        ∙ ap (λ (f : ℕ → ℕ → ℕ). Some (f n shard)) (sym shards)

    -- and so is one that was made for a map to come
    pub made_kept : (i : ℕ) (b : Beginning K) → t.makers i ≡ Some b → s.makers i ≡ Some b → IsUncounted b.map v → (HasMade b.machine.stands → IsCounter b.machine.setting.counter) → MakesUncounted m s
        → IsUncounted b.map v
        × (HasMade b.machine.stands → (shard : ℕ) → shard ≤ b.machine.setting.mask → word_at t.world.memory (Word b.machine.setting.counter shard) ≡ Some 0)
    made_kept i b is was none its makes = (
      none,
      λ made shard few. (let now = made_there i b is made shard few in
          now.1 ∙ ap Some (keeps b.machine.setting.counter shard 0 now.0 (its made) ((makes i b was).1 made shard few) now.1)),
    )

    pub makes_kept : v.shards ≡ m.shards → t.makers ≡ s.makers → ((i : ℕ) (b : Beginning K) → s.makers i ≡ Some b → HasMade b.machine.stands → IsCounter b.machine.setting.counter)
        → MakesUncounted m s → MakesUncounted v t
    makes_kept shards makers its makes i b is =
        let was : s.makers i ≡ Some b = subst (λ (f : ℕ → Option (Beginning K)). f i ≡ Some b) makers is in
        made_kept i b is was (λ shard. ap (λ (f : ℕ → ℕ → ℕ). f b.map shard) shards ∙ (makes i b was).0 shard) (its i b was) makes

-- calls are as they were, of the moment and under way
pub adds_kept : {K V : Type 0} (name : ℕ → List ℕ) (m v : Moment K V) (s t : Scene K V) → v.calls ≡ m.calls → t.calls ≡ s.calls → RefinesAdds name m s → RefinesAdds name v t
adds_kept {K} {V} name m v s t calls under_way adds n i u is removed to_add c found =
    adds n i u (subst (λ (f : ℕ → ℕ → Option (UnderWay K V K)). f n i ≡ Some u) under_way is) removed to_add c
    (ap (λ (cs : List (CallThere K V)). find (λ x. is_same x.caller (name i)) cs) (sym calls) ∙ found)
