-- A step of a row on a slot takes no block for a pair that is not stored: it takes what was handed to the collector.
use Rattle.std.specs.Prelude.{◌&&◌, ◌≡◌, ℕ, nat_lt, Bool, List, [], ◌∷◌, None}
use Rattle.std.proofs.Common.{refl, subst}
use Rattle.run_debts.specs.Given.SeizeWordsDeclared.at.At.TheVariants.{Root, Used, Slot, Entry, Word}
use Rattle.run_debts.specs.Given.SeizeWorld.{Step}
use Rattle.run_debts.specs.Given.TablesDeclared.node.Node.{Node}
use Rattle.run_debts.specs.Given.RunsDeclared.effect.Effect.TheVariants.{Asked}
use Rattle.run_debts.specs.Given.RunsDeclared.effect.Growth.TheVariants.{ABucket}
use Rattle.run_debts.specs.Given.SchedulesEffects.{with_effects}
use Rattle.run_debts.specs.Given.SchedulesMoment.{Moment}
use Rattle.run_debts.specs.Given.EffectsDeclared.changed.Changed.{Changed}
use Rattle.run_debts.specs.Given.EffectsDeclared.changed.Changed.TheVariants as changed
use Rattle.run_debts.specs.Given.EffectsDeclared.changed.Kind.TheVariants as kind
use Rattle.run_debts.specs.Given.EffectsEffects.{names_same, effects_of, known_after}
use Rattle.run_debts.specs.Given.EffectsKnown.{Known}
use Rattle.run_debts.specs.Given.EffectsDeclared.acting.Acting.TheVariants.{Row}
use Rattle.run_debts.specs.Given.EffectsDeclared.role.Role.TheVariants as role
use Rattle.run_debts.specs.Given.ScenesDeclared.row.RowTold.{RowTold}
use Rattle.run_debts.specs.Given.ScenesDeclared.row.SlotRow.{SlotRow}
use Rattle.run_debts.specs.Given.FollowsShows.{Refines}
use Rattle.run_debts.specs.Given.OthersRows.{scene_then}
use Rattle.run_debts.proofs.Given.OthersQuiet.{calls_none}
use Rattle.run_debts.proofs.Given.OthersRowPlans.{TellsRow, row_tells}
use Rattle.run_blocks.specs.Owes.Beside.{of_block, NoneOfBlock, RowsPreserveMade}
use Rattle.run_blocks.specs.Owes.Made.{RefinesMade}
use Rattle.run_blocks.proofs.Owes.Aside.{LeavesAlone, NoneStored, left_alone, not_storing, none_of, taken_none, made_still}
use Rattle.run_blocks.proofs.Owes.InHand.{in_hand}
use Rattle.run_blocks.proofs.Owes.Roles.{MakesFree, does_so}
use Rattle.run_blocks.proofs.Owes.Quiet.{none_if}
use Rattle.run_blocks.proofs.Owes.Lasting.{row_keeps_held}
use Rattle.run_debts.specs.Given.ScenesHeld.{Held, IsAt}
use Rattle.run_debts.specs.Given.ScenesOnSlots.{HappensAt, RowSteps}
use Rattle.run_debts.specs.Given.ScenesScene.{IsOnSlot, Scene}

module _ {K V : Type 0} (same : K → K → Bool) (hash : ℕ → K → ℕ) (name : ℕ → List ℕ) (m : Moment K V) (known : Known) (s : Scene K V) (old new : Held K V) (at : IsAt same hash old s)
    (shown : Refines same name m known s) (made : RefinesMade name m known s) (i : ℕ) (row : SlotRow) (here : IsOnSlot s i row) (end : SlotRow × RowTold (Node K V))
    (steps : RowSteps K V row old.memory new.memory new.changed end) (happened : HappensAt same hash (Step i) s old new) where
  abbrev told : Changed
  told = new.changed

  tells : TellsRow told
  tells = row_tells old.memory new.memory told end row steps

  -- what a caller has in hand is there still
  untaken : (b j : ℕ) → told ≡ changed.Took b → known.roles b ≡ role.OwnPair j → ⊥
  untaken b j is its_block = row_keeps_held same hash s old new at i row here end steps happened b j (in_hand same hash name m known s old at shown made j b its_block) is

  makes_free : (x : Changed) → TellsRow x → MakesFree Row known x
  makes_free (changed.Made k b) is = absurd is
  makes_free changed.Nothing is = tt
  makes_free (changed.Wrote at before after) is = tt
  makes_free (changed.Unmade k) is = tt
  makes_free (changed.Took b) is = tt
  makes_free (changed.Roomed bucket had) is = tt

  unmade : (x : Changed) → TellsRow x → (b : ℕ) → x ≡ changed.Made kind.Pair b → ⊥
  unmade x is b e = subst TellsRow e is

  stores_none : (x : Changed) → TellsRow x → NoneStored (effects_of Row known x)
  stores_none changed.Nothing is = tt
  stores_none (changed.Wrote (Slot t field) before after) is = tt
  stores_none (changed.Wrote (Entry b field) before after) is = none_of (effects_of Row known (changed.Wrote (Entry b field) before after)) (none_if of_block (names_same before after) [] [] tt tt)
  stores_none (changed.Wrote (Root r) before after) is = absurd is
  stores_none (changed.Wrote (Used r) before after) is = absurd is
  stores_none (changed.Wrote (Word b field) before after) is = absurd is
  stores_none (changed.Made k b) is = absurd is
  stores_none (changed.Unmade k) is = absurd is
  stores_none (changed.Took b) is = taken_none Row (known.roles b)
  stores_none (changed.Roomed bucket had) is =
      none_of (effects_of Row known (changed.Roomed bucket had)) (none_if of_block (had && nat_lt bucket known.buckets) [] (Asked ABucket ∷ []) tt (refl, tt))

  alone : LeavesAlone Row known told
  alone = left_alone Row known told (does_so Row known told (makes_free told tells)) (unmade told tells) untaken
      (λ storing. not_storing (effects_of Row known told) storing (stores_none told tells))

  pub row_keeps : NoneOfBlock (effects_of Row known told) × RefinesMade name (with_effects None None (effects_of Row known told) m) (known_after Row told known) (scene_then same hash (Step i) s old new happened)
  row_keeps = (
    alone.1,
    made_still name m (with_effects None None (effects_of Row known told) m) known (known_after Row told known) s (scene_then same hash (Step i) s old new happened) made
        (calls_none None (effects_of Row known told) m) refl alone.0,
  )

module _ (K V : Type 0) (same : K → K → Bool) (hash : ℕ → K → ℕ) where
  pub rows_keep_made : RowsPreserveMade K V same hash
  rows_keep_made name m known s old new at shown made i told leads row here =
      let to = leads row here in row_keeps same hash name m known s old new at shown made i row here (to.0, told) to.1 to.2
