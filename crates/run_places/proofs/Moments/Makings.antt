-- A step of the making of a map leaves the same blocks unreclaimed as are pairs and tables of maps.
use Rattle.std.specs.Prelude.{◌≡◌, ℕ, ◌==◌, Bool, true, false, ◌&&◌, List, [], ◌∷◌, Option, Some, None, if◌then◌else◌}
use Rattle.std.specs.List.{list_any}
use Rattle.std.proofs.Common.{refl, ap, sym, subst, ◌∙◌}
use Rattle.std.proofs.lemmas.Bool.{eq-eqb}
use Rattle.run_shows.specs.Given.SeizeWordsMem.{value_at, word_at}
use Rattle.run_shows.specs.Given.SeizeWordsWord.{block_in}
use Rattle.run_shows.specs.Given.SeizeWordsDeclared.at.At.TheVariants.{Root, Used, Slot, Entry, Word}
use Rattle.run_shows.specs.Given.SeizeWorld.{World}
use Rattle.run_shows.specs.Given.SeizeDeclared.advance.Advance.{Advance}
use Rattle.run_shows.specs.Given.SeizeDeclared.advance.Advance.TheVariants as progress
use Rattle.run_shows.specs.Given.TablesDeclared.node.Node.{Node}
use Rattle.run_shows.specs.Given.TablesDeclared.setting.Setting.{Setting}
use Rattle.run_shows.specs.Given.ResizeDeclared.new_map.NewMap.{NewMap}
use Rattle.run_shows.specs.Given.RunsDeclared.effect.Effect.{Effect}
use Rattle.run_shows.specs.Given.RunsDeclared.effect.Effect.TheVariants.{Asked, Linked}
use Rattle.run_shows.specs.Given.RunsDeclared.effect.Growth.TheVariants.{ABlock}
use Rattle.run_shows.specs.Given.RunsDeclared.effect.TableId.{TableId}
use Rattle.run_shows.specs.Given.SchedulesEffects.{with_effects}
use Rattle.run_shows.specs.Given.SchedulesMoment.{Place, Moment}
use Rattle.run_shows.specs.Given.SchedulesThings.{same_table}
use Rattle.run_shows.specs.Given.SchedulesViews.{is_there, tables_of}
use Rattle.run_shows.specs.Given.EffectsDeclared.changed.Changed.{Changed}
use Rattle.run_shows.specs.Given.EffectsDeclared.changed.Changed.TheVariants as changed
use Rattle.run_shows.specs.Given.EffectsDeclared.changed.Kind.{Kind}
use Rattle.run_shows.specs.Given.EffectsDeclared.changed.Kind.TheVariants as kind
use Rattle.run_shows.specs.Given.FinishesEndings.{MakingStepsWithEndings}
use Rattle.run_shows.specs.Given.FinishesMakings.{Beginning}
use Rattle.run_shows.specs.Given.EffectsEffects.{made_role, made_by, taken_by, led_to, linked_on, named, names_same, effects_of, known_after}
use Rattle.run_shows.specs.Given.EffectsKnown.{Known, with_role}
use Rattle.run_shows.specs.Given.EffectsDeclared.acting.Acting.{Acting}
use Rattle.run_shows.specs.Given.EffectsDeclared.acting.Acting.TheVariants.{Making}
use Rattle.run_shows.specs.Given.EffectsDeclared.role.Role.{Role}
use Rattle.run_shows.specs.Given.EffectsDeclared.role.Role.TheVariants as role
use Rattle.run_shows.specs.Follows.Blocks.{HasRole}
use Rattle.run_shows.specs.Follows.Shows.{Refines}
use Rattle.run_shows.proofs.Follows.Alike.{AllStill, calm_still, put_elsewhere}
use Rattle.run_shows.proofs.Follows.Onward.{IsLasting, IsOfMap}
use Rattle.run_shows.proofs.Follows.Operations.{LeavesBy}
use Rattle.run_shows.proofs.Follows.Writes.{nothing_free}
use Rattle.run_shows.specs.Others.Makings.{IsNew, WasNew}
use Rattle.run_shows.proofs.Others.Leads.{word_says}
use Rattle.run_shows.proofs.Others.MakingPlans.{TellsMaking}
use Rattle.run_shows.proofs.Others.MadeBlocks.{still_made, lasting_there}
use Rattle.run_shows.proofs.Others.Makes.{linked_stays, no_table_word, tells, left, not_going, not_refused}
use Rattle.run_shows.proofs.Others.Quiet.{all_quiet}
use Rattle.run_shows.proofs.Others.Retired.{any_kept}
use Rattle.run_places.specs.Spots.Unreclaimed.{is_unreclaimed, RefinesUnreclaimed}
use Rattle.run_places.proofs.Spots.Calm.{put_back}
use Rattle.run_places.proofs.Spots.Gone.{other_gone}
use Rattle.run_places.proofs.Spots.Unreclaimed.{AsUnreclaimed, unreclaimed_same, linked_unreclaimed, table_is, of_map_lasts as lasting_of}
use Rattle.run_places.specs.Moments.Makings.{MakingsPreserveBlocks}
use Rattle.run_shows.specs.Scenes.Held.{Held, IsAt}
use Rattle.run_shows.specs.Scenes.Making.{MakingHasOutcome, MakingStepsFrom}
use Rattle.run_shows.specs.Scenes.Scene.{Scene, slot_of}
use Rattle.run_shows.proofs.Given.General.{both_true as and_both}

-- of a map that has no table no block is one
pub none_of_it : {K V : Type 0} (m : Moment K V) (known : Known) → RefinesUnreclaimed m known → (map : ℕ) → tables_of map m ≡ [] → (x len : ℕ) (t : TableId) → known.roles x ≡ role.Table t len → t.map ≡ map → ⊥
none_of_it m known blocks map none x len t is e =
    let any = any_kept (λ u. same_table u.table t && is_there u.stage) (λ u. u.table.map == map)
    (λ u a. ap (λ (y : ℕ). y == map) (ap (λ (y : TableId). y.map) (table_is u.table t (and_both (same_table u.table t) (is_there u.stage) a).0) ∙ e) ∙ eq-eqb map map refl)
    m.tables (blocks.tables x len t is) in
    let never = ap (list_any (λ u. same_table u.table t && is_there u.stage)) none in
    absurd (cc (sym any ∙ never))

module _ {K V : Type 0} (map : ℕ) (of : Option ℕ) (m : Moment K V) (known : Known) (blocks : RefinesUnreclaimed m known) where
  abbrev its : Acting
  its = Making map

  -- effects that move nothing
  as_still : (effects : List Effect) → AllStill effects → AsUnreclaimed m (with_effects None of effects m)
  as_still effects still =
      let a = all_quiet of effects m still in
      record { place = λ k. ap (λ (g : ℕ → Place). is_unreclaimed (g k)) a.place; tables = λ t. ap (list_any (λ u. same_table u.table t && is_there u.stage)) a.tables }

  still_blocks : (effects : List Effect) → AllStill effects → (known2 : Known) → known2.roles ≡ known.roles → RefinesUnreclaimed (with_effects None of effects m) known2
  still_blocks effects still known2 roles =
      unreclaimed_same m (with_effects None of effects m) known known2 (as_still effects still) (λ b is. ap (λ (g : ℕ → Role). g b) roles) (λ b is. ap (λ (g : ℕ → Role). g b) roles) blocks

  pub none_of_map : (k : Kind) → IsOfMap (made_role its k) → ⊥
  none_of_map kind.Pair is = is
  none_of_map (kind.Table len limit turn) is = is
  none_of_map kind.Shards is = is

  -- a block was made, where none was
  made_blocks : (k : Kind) (x : ℕ) → (IsLasting (known.roles x) → ⊥) → RefinesUnreclaimed (with_effects None of (Asked ABlock ∷ made_by its k) m) (with_role x (made_role its k) known)
  made_blocks k x none =
      unreclaimed_same m (with_effects None of (Asked ABlock ∷ made_by its k) m) known (with_role x (made_role its k) known) (as_still (Asked ABlock ∷ made_by its k) (still_made its k))
      (λ b is. put_elsewhere x (made_role its k) known.roles b (λ e. none (lasting_of (known.roles x) (subst (λ (y : ℕ). IsOfMap (known.roles y)) e is))))
      (λ b is. put_back known.roles x (made_role its k) (none_of_map k) b is) blocks

  -- one that was none of a map was taken away
  taken_blocks : (x : ℕ) (r : Role) → known.roles x ≡ r → (IsOfMap r → ⊥) → RefinesUnreclaimed (with_effects None of (taken_by its r) m) (with_role x role.Free known)
  taken_blocks x role.Free e none = other_gone m m known x blocks (λ is. none (subst IsOfMap e is)) (record { place = λ k. refl; tables = λ t. refl })
  taken_blocks x (role.OwnPair j) e none = other_gone m (with_effects None of (taken_by its (role.OwnPair j)) m) known x blocks (λ is. none (subst IsOfMap e is)) (record { place = λ k. refl; tables = λ t. refl })
  taken_blocks x (role.OwnTable turn shape) e none =
      other_gone m (with_effects None of (taken_by its (role.OwnTable turn shape)) m) known x blocks (λ is. none (subst IsOfMap e is)) (record { place = λ k. refl; tables = λ t. refl })
  taken_blocks x (role.Pair k) e none = absurd (none tt)
  taken_blocks x (role.Table t len) e none = absurd (none tt)
  taken_blocks x (role.Counter n) e none = other_gone m m known x blocks (λ is. none (subst IsOfMap e is)) (record { place = λ k. refl; tables = λ t. refl })

  module _ (setting : Setting) (new : IsNew map setting m) where
    -- a root that led nowhere leads to a table
    led_blocks : (q : Bool) (b : ℕ) (is : Role) → known.roles b ≡ is
        → RefinesUnreclaimed (with_effects None of (if q then [] else led_to its role.Free is) m) (if q then known else linked_on its b is known)
    led_blocks true b is e = blocks
    led_blocks false b role.Free e = blocks
    led_blocks false b (role.OwnPair i) e = blocks
    led_blocks false b (role.OwnTable turn shape) e =
        linked_unreclaimed m (with_effects None of (Linked (record { map = map; turn = turn }) shape ∷ []) m) known b shape.len (record { map = map; turn = turn }) shape
        (λ last. subst IsLasting e last) (λ x n is. none_of_it m known blocks map new.no_tables x n (record { map = map; turn = turn }) is refl) refl refl blocks
    led_blocks false b (role.Pair n) e = blocks
    led_blocks false b (role.Table t len) e = blocks
    led_blocks false b (role.Counter n) e = blocks

module _ {K V : Type 0} (same : K → K → Bool) (hash : ℕ → K → ℕ) (name : ℕ → List ℕ) (m : Moment K V) (known : Known) (s : Scene K V) (old new : Held K V) (at : IsAt same hash old s)
    (shown : Refines same name m known s) (blocks : RefinesUnreclaimed m known) (i : ℕ) (b : Beginning K) (here : s.makers i ≡ Some b) (end : NewMap) (said : Advance Setting)
    (steps : MakingStepsFrom b.machine old new end said)
    (did : MakingStepsWithEndings V same same old.batch_size old.roots slot_of s.world s.maps s.calls s.makers s.enders i b new.memory (end, said)) (of : Option ℕ) where
  abbrev w : World (Node K V)
  w = s.world

  abbrev w2 : World (Node K V)
  w2 = did.step.w2

  -- a block of a map is there still
  pub not_of_map : (x : ℕ) → value_at w2.memory x ≡ None → (r : Role) → known.roles x ≡ r → IsOfMap r → ⊥
  not_of_map x gone (role.Pair k) e is =
      let it = subst (HasRole w m.stored x) e (shown.blocks.roles x) in
      let there = it.3 in let kept = (linked_stays same hash name m known s old new at shown i b here end said steps did of x _ it.3 it.4).0 in cc (there, kept, gone)
  not_of_map x gone (role.Table t len) e is =
      let it = subst (HasRole w m.stored x) e (shown.blocks.roles x) in
      let there = it.1 in let kept = (linked_stays same hash name m known s old new at shown i b here end said steps did of x _ it.1 it.2).0 in cc (there, kept, gone)
  not_of_map x gone _ e is = is

  -- its root led nowhere where it is written
  pub before_free : (r before after : ℕ) → TellsMaking w i b.machine.setting.root (changed.Wrote (Root r) before after) → LeavesBy w.memory w2.memory (changed.Wrote (Root r) before after)
      → named known before ≡ role.Free
  before_free r before after so l = ap (λ (y : ℕ). known.roles (block_in y)) nothing_before ∙ nothing_free w m.stored known shown.blocks.roles
    where
      nothing_before : before ≡ 0
      nothing_before = let there : word_at w.memory (Root r) ≡ Some 0 = ap (λ (y : ℕ). word_at w.memory (Root y)) so.0 ∙ so.1 in let words = l.0 in cc (there, words)

  abbrev After : Changed → Type 0
  After x = RefinesUnreclaimed (with_effects None of (effects_of (Making b.map) known x) m) (known_after (Making b.map) x known)

  -- its root leads to the first table of a map that was there as a new one
  rooted_new : (setting : Setting) → IsNew b.map setting m → (r before after : ℕ) → new.changed ≡ changed.Wrote (Root r) before after → After (changed.Wrote (Root r) before after)
  rooted_new setting is_new r before after is =
      let so = subst (TellsMaking w i b.machine.setting.root) is (tells same hash name m known s old new at shown i b here end said steps did of) in
      let l = subst (LeavesBy w.memory w2.memory) is (left same hash name m known s old new at shown i b here end said steps did of) in
      subst (λ (y : Role). RefinesUnreclaimed (with_effects None of (if names_same before after then [] else led_to (Making b.map) y (named known after)) m)
      (if names_same before after then known else linked_on (Making b.map) (block_in after) (named known after) known)) (sym (before_free r before after so l))
      (led_blocks b.map of m known blocks setting is_new (names_same before after) (block_in after) (named known after) refl)

  module _ (rooted : (r before after : ℕ) → new.changed ≡ changed.Wrote (Root r) before after → After (changed.Wrote (Root r) before after)) where
    keeps : (x : Changed) → new.changed ≡ x → TellsMaking w i b.machine.setting.root x → LeavesBy w.memory w2.memory x → After x
    keeps changed.Nothing is so l = blocks
    keeps (changed.Wrote (Root r) before after) is so l = rooted r before after is
    keeps (changed.Wrote (Used r) before after) is so l = blocks
    keeps (changed.Wrote (Slot t field) before after) is so l = absurd so
    keeps (changed.Wrote (Entry x field) before after) is so l = absurd so
    keeps (changed.Wrote (Word x field) before after) is so l =
        let does = word_says (Making b.map) known field (block_in after) (known.roles x) (names_same before after) (named known before) (named known after)
        (no_table_word same hash name m known s old new at shown i b here end said steps did of x (names_same before after) so) in
        still_blocks b.map of m known blocks _ (calm_still _ does.0) _ (ap (λ (k : Known). k.roles) does.1)
    keeps (changed.Made k x) is so l = made_blocks b.map of m known blocks k x (λ last. lasting_there w m.stored x (known.roles x) (shown.blocks.roles x) last l.0)
    keeps (changed.Unmade k) is so l = still_blocks b.map of m known blocks (Asked ABlock ∷ []) (refl, tt) known refl
    keeps (changed.Took x) is so l = taken_blocks b.map of m known blocks x (known.roles x) refl (not_of_map x l.1 (known.roles x) refl)
    keeps (changed.Roomed bucket had) is so l = absurd so

    making_keeps : After new.changed
    making_keeps =
        keeps new.changed refl (tells same hash name m known s old new at shown i b here end said steps did of) (left same hash name m known s old new at shown i b here end said steps did of)

  blocks_by : (t : Advance Setting) → said ≡ t → MakingHasOutcome same hash s old new i b end w2 t → WasNew b.map t m → After new.changed
  blocks_by progress.Goes is comes was_new =
      making_keeps (λ r before after wrote. absurd (not_going same hash name m known s old new at shown i b here end said steps did of r before after wrote is comes))
  blocks_by progress.Waits is comes was_new = absurd comes
  blocks_by (progress.Done setting) is comes was_new = making_keeps (rooted_new setting was_new)
  blocks_by (progress.Refused fault) is comes was_new =
      making_keeps (λ r before after wrote. absurd (not_refused same hash name m known s old new at shown i b here end said steps did of r before after wrote fault is))

module _ (K V : Type 0) (same : K → K → Bool) (hash : ℕ → K → ℕ) where
  pub makings_keep_blocks : MakingsPreserveBlocks K V same hash
  makings_keep_blocks name m known s old new at shown blocks i told leads b here of was_new =
      let to = leads b here in blocks_by same hash name m known s old new at shown blocks i b here to.0 told to.1 to.2 of told refl to.3 was_new
