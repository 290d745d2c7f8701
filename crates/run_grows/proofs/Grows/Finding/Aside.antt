-- Steps that are of no call leave each pair where it lies: those of rows on slots, of makings of maps, and of their ends.
use Rattle.std.specs.Prelude.{◌≡◌, ℕ, Bool, true, false, List, [], ◌∷◌, Option, Some, None, if◌then◌else◌}
use Rattle.std.proofs.Common.{refl, ap, sym, subst, ◌∙◌, inl, inr}
use Rattle.run_finds.specs.Given.SeizeWordsMem.{word_at}
use Rattle.run_finds.specs.Given.SeizeWordsWord.{block_in}
use Rattle.run_finds.specs.Given.SeizeWordsDeclared.at.At.TheVariants.{Entry, Root, Slot, Used, Word}
use Rattle.papaya_raw.specs.Given.SeizeWorld.{World}
use Rattle.papaya_raw.specs.Given.SeizeDeclared.advance.Advance.{Advance as Making}
use Rattle.papaya_raw.specs.Given.SeizeDeclared.rows.settle.Settled.{Settled}
use Rattle.papaya_raw.specs.Given.TablesDeclared.node.Node.{Node}
use Rattle.papaya_raw.specs.Given.TablesDeclared.setting.Setting.{Setting}
use Rattle.run_schedules.specs.declared.effect.Effect.TheVariants.{Asked}
use Rattle.run_schedules.specs.declared.effect.Growth.TheVariants.{ABlock}
use Rattle.run_schedules.specs.declared.effect.TableId.{TableId}
use Rattle.run_schedules.specs.Schedules.Effects.{with_effects}
use Rattle.run_schedules.specs.Schedules.Moment.{Moment}
use Rattle.run_finds.specs.Given.EffectsDeclared.changed.Changed.{Changed}
use Rattle.run_finds.specs.Given.EffectsDeclared.changed.Changed.TheVariants as changed
use Rattle.run_finds.specs.Given.EffectsDeclared.changed.Kind.{Kind}
use Rattle.run_finds.specs.Given.EffectsDeclared.changed.Kind.TheVariants as kind
use Rattle.run_finds.specs.Given.EffectsEffects.{effects_of, in_block, led_to, made_by, named, names_same, pair_taken, table_taken, taken_by}
use Rattle.run_finds.specs.Given.EffectsKnown.{Known}
use Rattle.run_finds.specs.Given.EffectsDeclared.acting.Acting.{Acting}
use Rattle.run_finds.specs.Given.EffectsDeclared.acting.Acting.TheVariants as acts
use Rattle.run_finds.specs.Given.EffectsDeclared.role.Role.{Role}
use Rattle.run_finds.specs.Given.EffectsDeclared.role.Role.TheVariants as role
use Rattle.run_kept.specs.Given.ScenesDeclared.row.RowTold.{RowTold}
use Rattle.run_kept.specs.Given.ScenesDeclared.row.SlotRow.{SlotRow}
use Rattle.run_kept.specs.Given.FinishesEndings.{Finishing}
use Rattle.run_kept.specs.Given.FinishesMakings.{Beginning}
use Rattle.run_finds.specs.Given.FollowsShows.{Refines}
use Rattle.run_finds.proofs.Given.FollowsOperations.{LeavesBy}
use Rattle.run_finds.proofs.Given.FollowsWrites.{nothing_free}
use Rattle.run_finds.specs.Given.MomentsWhole.{RefinesWhole}
use Rattle.run_finds.proofs.Given.MomentsEnds.{says}
use Rattle.run_finds.proofs.Given.OthersMakes.{left, no_table_word, tells}
use Rattle.run_finds.proofs.Given.OthersMakingPlans.{TellsMaking}
use Rattle.run_finds.proofs.Given.OthersRowPlans.{row_tells}
use Rattle.run_finds.proofs.Given.SpotsEffects.{AllAside, aside_all, calm_aside, is_aside}
use Rattle.run_finds.proofs.Given.SpotsOnSlots.{row_beside}
use Rattle.run_kept.specs.Given.ScenesEnding.{EndingLeads}
use Rattle.run_finds.specs.Given.ScenesHeld.{Held, IsAt}
use Rattle.run_kept.specs.Given.ScenesMaking.{MakingLeads}
use Rattle.run_kept.specs.Given.ScenesOnSlots.{RowLeads}
use Rattle.run_finds.specs.Given.ScenesScene.{IsOnSlot, Scene}

-- a pair, and a table, that is taken away
pair_aside : (its : Acting) (n : ℕ) → is_aside (pair_taken its n) ≡ true
pair_aside (acts.Ending map) n = refl
pair_aside (acts.Making map) n = refl
pair_aside (acts.Call caller map) n = refl
pair_aside acts.Row n = refl

table_aside : (its : Acting) (t : TableId) → is_aside (table_taken its t) ≡ true
table_aside (acts.Ending map) t = refl
table_aside (acts.Making map) t = refl
table_aside (acts.Call caller map) t = refl
table_aside acts.Row t = refl

module _ (its : Acting) where
  taken_aside : (r : Role) → AllAside (taken_by its r)
  taken_aside role.Free = tt
  taken_aside (role.OwnPair i) = (refl, tt)
  taken_aside (role.OwnTable turn shape) = (refl, tt)
  taken_aside (role.Pair n) = (pair_aside its n, tt)
  taken_aside (role.Table t len) = (table_aside its t, tt)
  taken_aside (role.Counter of) = tt

  made_aside : (k : Kind) → AllAside (Asked ABlock ∷ made_by its k)
  made_aside kind.Pair = (refl, (refl, tt))
  made_aside (kind.Table len limit turn) = (refl, (refl, tt))
  made_aside kind.Shards = (refl, tt)

  -- a root that led nowhere leads to a table
  led_aside : (q : Bool) (is : Role) → AllAside (if q then [] else led_to its role.Free is)
  led_aside true is = tt
  led_aside false role.Free = tt
  led_aside false (role.OwnPair i) = tt
  led_aside false (role.OwnTable turn shape) = (refl, tt)
  led_aside false (role.Pair n) = tt
  led_aside false (role.Table t len) = tt
  led_aside false (role.Counter of) = tt

  -- a word of a block that is no table, or that goes on naming what it named
  word_aside : (field stored : ℕ) (r : Role) (q : Bool) (was is : Role) → ((t : TableId) (len : ℕ) → r ≡ role.Table t len → q ≡ true) → AllAside (in_block its r field stored q was is)
  word_aside field stored role.Free q was is names = tt
  word_aside field stored (role.OwnPair i) q was is names = tt
  word_aside field stored (role.OwnTable turn shape) q was is names = tt
  word_aside field stored (role.Pair n) q was is names = tt
  word_aside field stored (role.Counter of) q was is names = (refl, tt)
  word_aside field stored (role.Table t len) true was is names = tt
  word_aside field stored (role.Table t len) false was is names = absurd (let e = names t len refl in cc e)

module _ {K V : Type 0} (map : ℕ) (known : Known) (w w2 : World (Node K V)) (i root : ℕ) (free : known.roles 0 ≡ role.Free)
    (no_table : (x : ℕ) (q : Bool) → TellsMaking w i root (changed.Wrote (Word x 0) 0 0) → (t : TableId) (len : ℕ) → known.roles x ≡ role.Table t len → q ≡ true) where
  making_aside : (told : Changed) → TellsMaking w i root told → LeavesBy w.memory w2.memory told → AllAside (effects_of (acts.Making map) known told)
  making_aside changed.Nothing so l = tt
  making_aside (changed.Wrote (Root r) before after) so l =
      subst (λ (x : Role). AllAside (if names_same before after then [] else led_to (acts.Making map) x (named known after))) (sym was_free) (led_aside (acts.Making map) (names_same before after) (named known after))
    where
      nothing_before : before ≡ 0
      nothing_before = let there : word_at w.memory (Root r) ≡ Some 0 = ap (λ (x : ℕ). word_at w.memory (Root x)) so.0 ∙ so.1 in let words = l.0 in cc (there, words)

      was_free : named known before ≡ role.Free
      was_free = ap (λ (x : ℕ). known.roles (block_in x)) nothing_before ∙ free
  making_aside (changed.Wrote (Used r) before after) so l = tt
  making_aside (changed.Wrote (Slot t field) before after) so l = absurd so
  making_aside (changed.Wrote (Entry x field) before after) so l = absurd so
  making_aside (changed.Wrote (Word x field) before after) so l =
      word_aside (acts.Making map) field known.stored (known.roles x) (names_same before after) (named known before) (named known after) (no_table x (names_same before after) so)
  making_aside (changed.Made k x) so l = made_aside (acts.Making map) k
  making_aside (changed.Unmade k) so l = (refl, tt)
  making_aside (changed.Took x) so l = taken_aside (acts.Making map) (known.roles x)
  making_aside (changed.Roomed bucket had) so l = absurd so

module _ {K V : Type 0} (same : K → K → Bool) (hash : ℕ → K → ℕ) (name : ℕ → List ℕ) (m : Moment K V) (known : Known) (s : Scene K V) (old new : Held K V) (at : IsAt same hash old s) where
  pub rows_aside : (i : ℕ) (told : RowTold (Node K V)) (leads : RowLeads same hash i told s old new) (row : SlotRow) → IsOnSlot s i row → AllAside (effects_of acts.Row known new.changed)
  rows_aside i told leads row here =
      let to = leads row here in (row_beside m known new.changed (row_tells old.memory new.memory new.changed (to.0, told) row to.1)).0.0

  pub rows_leave_spots : (i : ℕ) (told : RowTold (Node K V)) (leads : RowLeads same hash i told s old new) (row : SlotRow) → IsOnSlot s i row
      → (with_effects None None (effects_of acts.Row known new.changed) m).spot ≡ m.spot
  rows_leave_spots i told leads row here = (aside_all None None (effects_of acts.Row known new.changed) m (rows_aside i told leads row here)).spot

  pub makings_aside : Refines same name m known s → (i : ℕ) (told : Making Setting) (leads : MakingLeads same hash i told s old new) (b : Beginning K) → s.makers i ≡ Some b → (of : Option ℕ)
      → AllAside (effects_of (acts.Making b.map) known new.changed)
  makings_aside shown i told leads b here of =
      let to = leads b here in
      making_aside b.map known s.world to.2.step.w2 i b.machine.setting.root (nothing_free s.world m.stored known shown.blocks.roles)
      (λ x q made. no_table_word same hash name m known s old new at shown i b here to.0 told to.1 to.2 of x q made) new.changed
      (tells same hash name m known s old new at shown i b here to.0 told to.1 to.2 of) (left same hash name m known s old new at shown i b here to.0 told to.1 to.2 of)

  pub makings_leave_spots : Refines same name m known s → (i : ℕ) (told : Making Setting) (leads : MakingLeads same hash i told s old new) (b : Beginning K) → s.makers i ≡ Some b → (of : Option ℕ)
      → (with_effects None of (effects_of (acts.Making b.map) known new.changed) m).spot ≡ m.spot
  makings_leave_spots shown i told leads b here of = (aside_all None of (effects_of (acts.Making b.map) known new.changed) m (makings_aside shown i told leads b here of)).spot

  pub endings_aside : RefinesWhole same name m known s → (i : ℕ) (told : Settled (Node K V)) (leads : EndingLeads same hash i told s old new) (f : Finishing K V) → s.enders i ≡ Some f
      → (map : ℕ) → s.maps map ≡ None → AllAside (effects_of (acts.Ending map) known new.changed)
  endings_aside whole i told leads f here map not_there =
      let to = leads f here in
      elim (says same hash name m known s old new at whole i f here to.0 told to.1 to.2 map not_there to.3) as (λ _. AllAside (effects_of (acts.Ending map) known new.changed)) [
        | inl it ↦ calm_aside (effects_of (acts.Ending map) known new.changed) it.0
        | inr it ↦ subst (λ (x : Changed). AllAside (effects_of (acts.Ending map) known x)) (sym it.1) (taken_aside (acts.Ending map) (known.roles it.0))
      ]

  pub endings_leave_spots : RefinesWhole same name m known s → (i : ℕ) (told : Settled (Node K V)) (leads : EndingLeads same hash i told s old new) (f : Finishing K V) → s.enders i ≡ Some f
      → (map : ℕ) → s.maps map ≡ None → (with_effects None (Some map) (effects_of (acts.Ending map) known new.changed) m).spot ≡ m.spot
  endings_leave_spots whole i told leads f here map not_there =
      (aside_all None (Some map) (effects_of (acts.Ending map) known new.changed) m (endings_aside whole i told leads f here map not_there)).spot
