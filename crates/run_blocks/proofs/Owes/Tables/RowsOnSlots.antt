-- A step of a row on a slot takes no table that is not linked: it takes what was handed to the collector.
use Rattle.std.specs.Prelude.{◌≡◌, ℕ, Bool, List, None}
use Rattle.std.proofs.Common.{refl, ap}
use Rattle.run_debts.specs.Given.SeizeWordsDeclared.at.At.TheVariants.{Root, Used, Slot, Entry, Word}
use Rattle.run_debts.specs.Given.SeizeWorld.{Step}
use Rattle.run_debts.specs.Given.TablesDeclared.node.Node.{Node}
use Rattle.run_debts.specs.Given.RunsDeclared.shapes.TableShape.{TableShape}
use Rattle.run_debts.specs.Given.SchedulesEffects.{with_effects}
use Rattle.run_debts.specs.Given.SchedulesMoment.{Moment}
use Rattle.run_debts.specs.Given.EffectsDeclared.changed.Changed.{Changed}
use Rattle.run_debts.specs.Given.EffectsDeclared.changed.Changed.TheVariants as changed
use Rattle.run_debts.specs.Given.EffectsEffects.{effects_of, known_after}
use Rattle.run_debts.specs.Given.EffectsKnown.{Known}
use Rattle.run_debts.specs.Given.EffectsDeclared.acting.Acting.TheVariants.{Row}
use Rattle.run_debts.specs.Given.EffectsDeclared.role.Role.{Role}
use Rattle.run_debts.specs.Given.EffectsDeclared.role.Role.TheVariants as role
use Rattle.run_debts.specs.Given.ScenesDeclared.row.RowTold.{RowTold}
use Rattle.run_debts.specs.Given.ScenesDeclared.row.SlotRow.{SlotRow}
use Rattle.run_debts.specs.Given.FollowsShows.{Refines}
use Rattle.run_debts.proofs.Given.FollowsTold.{roomed_as_many}
use Rattle.run_debts.specs.Given.OthersRows.{scene_then}
use Rattle.run_debts.proofs.Given.OthersQuiet.{calls_none}
use Rattle.run_debts.proofs.Given.OthersRowPlans.{TellsRow, row_tells}
use Rattle.run_blocks.specs.Owes.Tables.{RefinesOwnTables}
use Rattle.run_blocks.specs.Owes.TablesBeside.{RowsPreserveOwnTables}
use Rattle.run_blocks.proofs.Owes.Tables.Aside.{AreTables, tables_still}
use Rattle.run_blocks.proofs.Owes.Tables.Held.{held_by}
use Rattle.run_blocks.proofs.Owes.Tables.Roles.{own_table_of, put_table}
use Rattle.run_blocks.proofs.Owes.Lasting.{row_keeps_held}
use Rattle.run_debts.specs.Given.ScenesHeld.{Held, IsAt}
use Rattle.run_debts.specs.Given.ScenesOnSlots.{HappensAt, RowSteps}
use Rattle.run_debts.specs.Given.ScenesScene.{IsOnSlot, Scene}

module _ {K V : Type 0} (same : K → K → Bool) (hash : ℕ → K → ℕ) (name : ℕ → List ℕ) (m : Moment K V) (known : Known) (s : Scene K V) (old new : Held K V) (at : IsAt same hash old s)
    (shown : Refines same name m known s) (tables : RefinesOwnTables name m known s) (i : ℕ) (row : SlotRow) (here : IsOnSlot s i row) (end : SlotRow × RowTold (Node K V))
    (steps : RowSteps K V row old.memory new.memory new.changed end) (happened : HappensAt same hash (Step i) s old new) where
  -- a table that a call or a making has is there still
  not_taken : (b turn : ℕ) (shape : TableShape) → new.changed ≡ changed.Took b → known.roles b ≡ role.OwnTable turn shape → ⊥
  not_taken b turn shape took is =
      let it = tables.whose b turn shape is in row_keeps_held same hash s old new at i row here end steps happened b it.0 (held_by same hash name m known s old at shown it.0 b it.1) took

  none_taken : (b : ℕ) → new.changed ≡ changed.Took b → (r : Role) → known.roles b ≡ r → own_table_of role.Free ≡ own_table_of r
  none_taken b took (role.OwnTable turn shape) e = absurd (not_taken b turn shape took e)
  none_taken b took role.Free e = refl
  none_taken b took (role.OwnPair j) e = refl
  none_taken b took (role.Pair n) e = refl
  none_taken b took (role.Table t len) e = refl
  none_taken b took (role.Counter of) e = refl

  same_tables : (x : Changed) → new.changed ≡ x → TellsRow x → AreTables known (known_after Row x known)
  same_tables changed.Nothing told is b = refl
  same_tables (changed.Wrote (Slot t field) before after) told is b = refl
  same_tables (changed.Wrote (Entry x field) before after) told is b = refl
  same_tables (changed.Wrote (Root r) before after) told is b = absurd is
  same_tables (changed.Wrote (Used r) before after) told is b = absurd is
  same_tables (changed.Wrote (Word x field) before after) told is b = absurd is
  same_tables (changed.Made k x) told is b = absurd is
  same_tables (changed.Unmade k) told is b = absurd is
  same_tables (changed.Took x) told is b = put_table x role.Free known.roles (none_taken x told (known.roles x) refl) b
  same_tables (changed.Roomed bucket had) told is b = ap (λ (f : ℕ → Role). own_table_of (f b)) (roomed_as_many Row known bucket had).0

  pub row_keeps : RefinesOwnTables name (with_effects None None (effects_of Row known new.changed) m) (known_after Row new.changed known) (scene_then same hash (Step i) s old new happened)
  row_keeps =
      tables_still name m (with_effects None None (effects_of Row known new.changed) m) known s (scene_then same hash (Step i) s old new happened) tables
      (calls_none None (effects_of Row known new.changed) m) refl (known_after Row new.changed known) refl
      (same_tables new.changed refl (row_tells old.memory new.memory new.changed end row steps))

module _ (K V : Type 0) (same : K → K → Bool) (hash : ℕ → K → ℕ) where
  pub rows_keep_tables : RowsPreserveOwnTables K V same hash
  rows_keep_tables name m known s old new at shown tables i told leads row here =
      let to = leads row here in row_keeps same hash name m known s old new at shown tables i row here (to.0, told) to.1 to.2
