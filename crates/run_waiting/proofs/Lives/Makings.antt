-- A step of the making of a map leaves what waits behind tables there.
use Rattle.std.specs.Prelude.{◌≡◌, ℕ, Bool, true, false, List, [], ◌∷◌, Option, Some, None, IsSome, if◌then◌else◌}
use Rattle.std.proofs.Common.{refl, ap, sym, subst, ◌∙◌}
use Rattle.run_debts.specs.Given.SeizeWordsMem.{value_at, word_at}
use Rattle.run_debts.specs.Given.SeizeWordsWord.{block_in}
use Rattle.run_debts.specs.Given.SeizeWordsDeclared.at.At.TheVariants.{Root, Used, Slot, Entry, Word}
use Rattle.run_debts.specs.Given.SeizeDeclared.advance.Advance.{Advance}
use Rattle.run_debts.specs.Given.SeizeDeclared.advance.Advance.TheVariants as progress
use Rattle.run_debts.specs.Given.SeizeWorld.{World}
use Rattle.run_debts.specs.Given.TablesDeclared.node.Node.{Node}
use Rattle.run_debts.specs.Given.TablesDeclared.setting.Setting.{Setting}
use Rattle.run_debts.specs.Given.ResizeDeclared.new_map.NewMap.{NewMap}
use Rattle.run_debts.specs.Given.RunsDeclared.effect.Effect.{Effect}
use Rattle.run_debts.specs.Given.RunsDeclared.effect.Effect.TheVariants.{Asked}
use Rattle.run_debts.specs.Given.RunsDeclared.effect.Growth.TheVariants.{ABlock}
use Rattle.run_debts.specs.Given.RunsDeclared.effect.TableId.{TableId}
use Rattle.run_debts.specs.Given.SchedulesEffects.{with_effects}
use Rattle.run_debts.specs.Given.SchedulesMoment.{Place, Moment}
use Rattle.run_debts.specs.Given.EffectsDeclared.changed.Changed.{Changed}
use Rattle.run_debts.specs.Given.EffectsDeclared.changed.Changed.TheVariants as changed
use Rattle.run_debts.specs.Given.EffectsDeclared.changed.Kind.{Kind}
use Rattle.run_debts.specs.Given.EffectsDeclared.changed.Kind.TheVariants as kind
use Rattle.run_debts.specs.Given.FinishesMakings.{Beginning}
use Rattle.run_debts.specs.Given.EffectsEffects.{made_by, taken_by, led_to, in_block, named, names_same, effects_of, known_after}
use Rattle.run_debts.specs.Given.EffectsKnown.{Known}
use Rattle.run_debts.specs.Given.EffectsDeclared.acting.Acting.{Acting}
use Rattle.run_debts.specs.Given.EffectsDeclared.acting.Acting.TheVariants.{Making}
use Rattle.run_debts.specs.Given.EffectsDeclared.role.Role.{Role}
use Rattle.run_debts.specs.Given.EffectsDeclared.role.Role.TheVariants as role
use Rattle.run_debts.specs.Given.FollowsBlocks.{HasRole}
use Rattle.run_debts.proofs.Given.FollowsOnward.{IsOfMap}
use Rattle.run_debts.proofs.Given.FollowsOperations.{LeavesBy}
use Rattle.run_debts.proofs.Given.FollowsWrites.{nothing_free}
use Rattle.run_debts.specs.Given.OthersMakings.{making_after, WasNew}
use Rattle.run_debts.proofs.Given.OthersMakingPlans.{TellsMaking}
use Rattle.run_debts.proofs.Given.OthersMakes.{tells, left, linked_stays, no_table_word}
use Rattle.run_debts.specs.Given.MomentsWhole.{RefinesWhole}
use Rattle.run_debts.proofs.Given.MomentsMakingSteps.{makings_go_beside}
use Rattle.run_waiting.specs.Lives.Behind.{RefinesWaiting}
use Rattle.run_waiting.specs.Lives.Steps.{MakingsPreserveWaiting}
use Rattle.run_waiting.proofs.Lives.Stages.{NoneEnds}
use Rattle.run_waiting.proofs.Lives.Users.{users_keep_waiting}
use Rattle.run_debts.specs.Given.ScenesHeld.{Held, IsAt}
use Rattle.run_debts.specs.Given.ScenesMaking.{MakingHasOutcome, MakingLeads}
use Rattle.run_debts.specs.Given.ScenesScene.{Scene}

module _ {K V : Type 0} (map : ℕ) (of : Option ℕ) (m : Moment K V) (known : Known) where
  abbrev its : Acting
  its = Making map

  -- effects that neither put a pair behind a table nor move one, and end no table
  abbrev AreApart : List Effect → Type 0
  AreApart effects = ((with_effects None of effects m).deferred ≡ m.deferred) × ((with_effects None of effects m).place ≡ m.place) × ((t : TableId) → NoneEnds t effects)

  made_apart : (k : Kind) → AreApart (Asked ABlock ∷ made_by its k)
  made_apart kind.Pair = (refl, refl, λ t. (λ z. z, (λ z. z, tt)))
  made_apart (kind.Table len limit turn) = (refl, refl, λ t. (λ z. z, (λ z. z, tt)))
  made_apart kind.Shards = (refl, refl, λ t. (λ z. z, tt))

  taken_apart : (r : Role) → (IsOfMap r → ⊥) → AreApart (taken_by its r)
  taken_apart role.Free none = (refl, refl, λ t. tt)
  taken_apart (role.OwnPair i) none = (refl, refl, λ t. (λ z. z, tt))
  taken_apart (role.OwnTable turn shape) none = (refl, refl, λ t. (λ z. z, tt))
  taken_apart (role.Pair n) none = absurd (none tt)
  taken_apart (role.Table t len) none = absurd (none tt)
  taken_apart (role.Counter c) none = (refl, refl, λ t. tt)

  led_apart : (q : Bool) (is : Role) → AreApart (if q then [] else led_to its role.Free is)
  led_apart true is = (refl, refl, λ t. tt)
  led_apart false role.Free = (refl, refl, λ t. tt)
  led_apart false (role.OwnPair i) = (refl, refl, λ t. tt)
  led_apart false (role.OwnTable turn shape) = (refl, refl, λ t. (λ z. z, tt))
  led_apart false (role.Pair n) = (refl, refl, λ t. tt)
  led_apart false (role.Table t len) = (refl, refl, λ t. tt)
  led_apart false (role.Counter c) = (refl, refl, λ t. tt)

  word_apart : (field : ℕ) (r : Role) (q : Bool) (was is : Role) → ((t : TableId) (len : ℕ) → r ≡ role.Table t len → q ≡ true) → AreApart (in_block its r field known.stored q was is)
  word_apart field role.Free q was is names = (refl, refl, λ t. tt)
  word_apart field (role.OwnPair i) q was is names = (refl, refl, λ t. tt)
  word_apart field (role.OwnTable turn shape) q was is names = (refl, refl, λ t. tt)
  word_apart field (role.Pair n) q was is names = (refl, refl, λ t. tt)
  word_apart field (role.Counter c) q was is names = (refl, refl, λ t. (λ z. z, tt))
  word_apart field (role.Table t len) true was is names = (refl, refl, λ t. tt)
  word_apart field (role.Table t len) false was is names = absurd (let e = names t len refl in cc e)

  module _ (w w2 : World (Node K V)) (i root : ℕ) (free : known.roles 0 ≡ role.Free)
      (no_table : (x : ℕ) (q : Bool) → TellsMaking w i root (changed.Wrote (Word x 0) 0 0) → (t : TableId) (len : ℕ) → known.roles x ≡ role.Table t len → q ≡ true)
      (stays : (x : ℕ) → IsOfMap (known.roles x) → IsSome (value_at w2.memory x)) where
    making_apart : (told : Changed) → TellsMaking w i root told → LeavesBy w.memory w2.memory told → AreApart (effects_of its known told)
    making_apart changed.Nothing so l = (refl, refl, λ t. tt)
    making_apart (changed.Wrote (Root r) before after) so l =
        subst (λ (x : Role). AreApart (if names_same before after then [] else led_to its x (named known after))) (sym was_free) (led_apart (names_same before after) (named known after))
      where
        nothing_before : before ≡ 0
        nothing_before = let there : word_at w.memory (Root r) ≡ Some 0 = ap (λ (x : ℕ). word_at w.memory (Root x)) so.0 ∙ so.1 in let words = l.0 in cc (there, words)

        was_free : named known before ≡ role.Free
        was_free = ap (λ (x : ℕ). known.roles (block_in x)) nothing_before ∙ free
    making_apart (changed.Wrote (Used r) before after) so l = (refl, refl, λ t. tt)
    making_apart (changed.Wrote (Slot t field) before after) so l = absurd so
    making_apart (changed.Wrote (Entry x field) before after) so l = absurd so
    making_apart (changed.Wrote (Word x field) before after) so l =
        word_apart field (known.roles x) (names_same before after) (named known before) (named known after) (no_table x (names_same before after) so)
    making_apart (changed.Made k x) so l = made_apart k
    making_apart (changed.Unmade k) so l = (refl, refl, λ t. (λ z. z, tt))
    making_apart (changed.Took x) so l = taken_apart (known.roles x) (λ its_map. gone (value_at w2.memory x) (stays x its_map) l.1)
      where
        gone : (o : Option (Node K V)) → IsSome o → o ≡ None → ⊥
        gone o some is = (let it : IsSome {T = Node K V} None = subst (λ (q : Option (Node K V)). IsSome q) is some in cc it)
    making_apart (changed.Roomed bucket had) so l = absurd so

-- the world that a step of a making leads to
module _ {K V : Type 0} (same : K → K → Bool) (hash : ℕ → K → ℕ) (s : Scene K V) (old new : Held K V) (i : ℕ) (b : Beginning K) (opening : NewMap) (w2 : World (Node K V)) where
  pub world_then : (told : Advance Setting) (comes : MakingHasOutcome same hash s old new i b opening w2 told) → (making_after same hash s old new i b opening w2 told comes).world ≡ w2
  world_then progress.Goes comes = refl
  world_then progress.Waits comes = absurd comes
  world_then (progress.Done setting) comes = refl
  world_then (progress.Refused fault) comes = refl

module _ {K V : Type 0} (same : K → K → Bool) (hash : ℕ → K → ℕ) (name : ℕ → List ℕ) (m : Moment K V) (known : Known) (s : Scene K V) (old new : Held K V) (at : IsAt same hash old s)
    (whole : RefinesWhole same name m known s) (i : ℕ) (told : Advance Setting) (leads : MakingLeads same hash i told s old new) (b : Beginning K) (here : s.makers i ≡ Some b) (of : Option ℕ)
    (was_new : WasNew b.map told m) where
  abbrev w2 : World (Node K V)
  w2 = (leads b here).2.step.w2

  abbrev known2 : Known
  known2 = known_after (Making b.map) new.changed known

  -- the block of a pair, or of a table, is there
  of_map_there : (x : ℕ) (r : Role) → known.roles x ≡ r → IsOfMap r → IsSome (value_at w2.memory x)
  of_map_there x r e its = by r its (subst (λ (z : Role). HasRole s.world m.stored x z) e (whole.all.shown.blocks.roles x))
    where
      some_of : (o : Option (Node K V)) (value : Node K V) → o ≡ Some value → IsSome o
      some_of o value is = subst (λ (q : Option (Node K V)). IsSome q) (sym is) refl

      by : (r : Role) → IsOfMap r → HasRole s.world m.stored x r → IsSome (value_at w2.memory x)
      by role.Free its has = absurd its
      by (role.OwnPair j) its has = absurd its
      by (role.OwnTable turn shape) its has = absurd its
      by (role.Counter c) its has = absurd its
      by (role.Pair n) its has =
          let to = leads b here in
          some_of (value_at w2.memory x) _ ((linked_stays same hash name m known s old new at whole.all.shown i b here to.0 told to.1 to.2 of x _ has.3 has.4).0 ∙ has.3)
      by (role.Table t len) its has =
          let to = leads b here in
          some_of (value_at w2.memory x) _ ((linked_stays same hash name m known s old new at whole.all.shown i b here to.0 told to.1 to.2 of x _ has.1 has.2).0 ∙ has.1)

  pub role_kept : (x : ℕ) (r : Role) → known.roles x ≡ r → IsOfMap r → known2.roles x ≡ r
  role_kept x r e its =
      let to = leads b here in
      let there = subst (λ (z : World (Node K V)). IsSome (value_at z.memory x)) (sym (world_then same hash s old new i b to.0 to.2.step.w2 told to.3)) (of_map_there x r e its) in
      (makings_go_beside K V same hash name m known s old new at whole i told leads b here of was_new).roles x there (subst IsOfMap (sym e) its) ∙ e

  pub apart : AreApart b.map of m known (effects_of (Making b.map) known new.changed)
  apart =
      let to = leads b here in
      making_apart b.map of m known s.world to.2.step.w2 i b.machine.setting.root (nothing_free s.world m.stored known whole.all.shown.blocks.roles)
      (λ x q made. no_table_word same hash name m known s old new at whole.all.shown i b here to.0 told to.1 to.2 of x q made)
      (λ x its. of_map_there x (known.roles x) refl its)
      new.changed (tells same hash name m known s old new at whole.all.shown i b here to.0 told to.1 to.2 of) (left same hash name m known s old new at whole.all.shown i b here to.0 told to.1 to.2 of)

  making_waiting : RefinesWaiting m known s.world → RefinesWaiting (with_effects None of (effects_of (Making b.map) known new.changed) m) known2 w2
  making_waiting waiting =
      let to = leads b here in
      users_keep_waiting K V old.batch_size m (with_effects None of (effects_of (Making b.map) known new.changed) m) known known2 s.world w2 at.together.makings.standing.came waiting
      to.2.step.events to.2.step.users to.2.step.runs apart.0 (λ n t l is. ap (λ (f : ℕ → Place). f n) apart.1 ∙ is) (λ x n e. role_kept x (role.Pair n) e tt) (λ x len t e. role_kept x (role.Table t len) e tt)

pub makings_keep_waiting : (K V : Type 0) (same : K → K → Bool) (hash : ℕ → K → ℕ) → MakingsPreserveWaiting K V same hash
makings_keep_waiting K V same hash name m known s old new at whole waiting i told leads b here of was_new =
    making_waiting same hash name m known s old new at whole i told leads b here of was_new waiting
