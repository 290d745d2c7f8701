-- What a step of a row on a slot does, by its machine: one that takes no block away reclaims nothing, one that makes no room asks for no bucket, and what is taken away was noted as a pair or a table.
use Rattle.std.specs.Prelude.{◌≡◌, ℕ, nat_lt, Bool, true, false, ◌&&◌, List, [], ◌∷◌, Option, Ok, if◌then◌else◌}
use Rattle.std.specs.List.{list_all}
use Rattle.std.proofs.Common.{refl, ap, subst, sym}
use Rattle.run_finds.specs.Given.SeizeWordsDeclared.at.At.TheVariants.{Root, Used, Slot, Entry, Word}
use Rattle.run_finds.specs.Given.SeizeWordsMem.{Mem}
use Rattle.run_finds.specs.Given.SeizeWordsOp.{Op, Out, Load, Store, Swap, Add, Or, Exchange, Make, Take, Rewrite, Room, Found, Exchanged, Roomed}
use Rattle.run_finds.specs.Given.SeizeWordsPlan.{Plan, Turn, Do, plan_as}
use Rattle.papaya_raw.specs.Given.SeizeDeclared.rows.enter.Enter.{Enter}
use Rattle.papaya_raw.specs.Given.SeizeDeclared.rows.enter.Unregister.{Unregister}
use Rattle.papaya_raw.specs.Given.SeizeDeclared.rows.leave.Leave.{Leave}
use Rattle.papaya_raw.specs.Given.SeizeDeclared.rows.leave.Leaving.{Leaving}
use Rattle.papaya_raw.specs.Given.SeizeDeclared.rows.leave.Leaving.TheVariants as leaving
use Rattle.papaya_raw.specs.Given.SeizeDeclared.rows.register.Register.{Register}
use Rattle.papaya_raw.specs.Given.SeizeDeclared.rows.register.Registering.{Registering}
use Rattle.papaya_raw.specs.Given.SeizeDeclared.rows.register.Registering.TheVariants as registering
use Rattle.papaya_raw.specs.Given.SeizeDeclared.rows.settle.Settle.{Settle}
use Rattle.papaya_raw.specs.Given.SeizeDeclared.rows.settle.Settling.{Settling}
use Rattle.papaya_raw.specs.Given.SeizeDeclared.rows.settle.Settling.TheVariants as settling
use Rattle.papaya_raw.specs.Given.SeizeEnter.{enter_plan, unregister_plan}
use Rattle.papaya_raw.specs.Given.SeizeLeave as leave
use Rattle.papaya_raw.specs.Given.SeizeRegister as register
use Rattle.papaya_raw.specs.Given.SeizeSettle as settle
use Rattle.papaya_raw.specs.Given.SeizeWorld.{Step}
use Rattle.papaya_raw.specs.Given.TablesNodes.{deferred_word}
use Rattle.papaya_raw.specs.Given.TablesDeclared.node.Node.{Node}
use Rattle.run_finds.specs.Given.TellsSeen.{seen_of}
use Rattle.run_finds.specs.Given.TellerTells.{observed_of, StepsObserved}
use Rattle.run_finds.specs.Given.EffectsDeclared.changed.Changed.{Changed}
use Rattle.run_finds.specs.Given.EffectsDeclared.changed.Changed.TheVariants as changed
use Rattle.run_schedules.specs.declared.effect.Effect.{Effect}
use Rattle.run_schedules.specs.declared.effect.Effect.TheVariants.{Asked}
use Rattle.run_schedules.specs.declared.effect.Growth.TheVariants.{ABucket}
use Rattle.run_schedules.specs.Schedules.Handing.{asks_for_bucket, is_reclaiming}
use Rattle.run_schedules.specs.Schedules.Moment.{Moment}
use Rattle.run_finds.specs.Given.EffectsEffects.{effects_of, names_same, taken_by}
use Rattle.run_finds.specs.Given.EffectsKnown.{Known}
use Rattle.run_finds.specs.Given.EffectsDeclared.acting.Acting.TheVariants.{Row}
use Rattle.run_finds.specs.Given.EffectsDeclared.role.Role.{Role}
use Rattle.run_finds.specs.Given.EffectsDeclared.role.Role.TheVariants as role
use Rattle.run_kept.specs.Given.ScenesDeclared.row.RowTold.{RowTold}
use Rattle.run_kept.specs.Given.ScenesDeclared.row.SlotRow.{SlotRow}
use Rattle.run_kept.specs.Given.ScenesDeclared.row.SlotRow.TheVariants as rows
use Rattle.run_finds.specs.Given.FollowsShows.{Refines}
use Rattle.run_finds.proofs.Given.OthersRowPlans.{IsOfSlots}
use Rattle.run_kept.specs.Given.OwesMade.{RefinesMade}
use Rattle.run_kept.specs.Given.OwesTables.{RefinesOwnTables}
use Rattle.run_kept.proofs.Given.OwesInHand.{in_hand}
use Rattle.run_kept.proofs.Given.OwesLasting.{row_keeps_held}
use Rattle.run_kept.proofs.Given.OwesTables.Held.{held_by}
use Rattle.run_finds.specs.Given.ScenesHeld.{Held, IsAt}
use Rattle.run_kept.specs.Given.ScenesOnSlots.{HappensAt, RowSteps}
use Rattle.run_finds.specs.Given.ScenesScene.{IsOnSlot, Scene}

-- What a step tells that writes words of the collector alone, or takes a block away too, or makes room.
abbrev pub Tells : (takes rooms : Bool) → Changed → Type 0
Tells takes rooms changed.Nothing = Unit {0}
Tells takes rooms (changed.Wrote place old new) = IsOfSlots place
Tells takes rooms (changed.Took b) = takes ≡ true
Tells takes rooms (changed.Roomed bucket had) = rooms ≡ true
Tells takes rooms _ = ⊥

module _ {T : Type 0} (takes rooms : Bool) where
  abbrev IsOpOf : Op T → Type 0
  IsOpOf (Load place) = Unit {0}
  IsOpOf (Store place word) = IsOfSlots place
  IsOpOf (Swap place word) = IsOfSlots place
  IsOpOf (Add place more) = IsOfSlots place
  IsOpOf (Exchange place old new) = IsOfSlots place
  IsOpOf (Take b) = takes ≡ true
  IsOpOf (Room bucket) = rooms ≡ true
  IsOpOf _ = ⊥

  abbrev IsPlanOf : {R : Type 0} → Plan T R → Type 0
  IsPlanOf (Turn rest) = Unit {0}
  IsPlanOf (Do op rest) = IsOpOf op

  so_as : {A B : Type 0} (f : A → B) (plan : Plan T A) → IsPlanOf plan → IsPlanOf (plan_as f plan)
  so_as f (Turn rest) is = tt
  so_as f (Do op rest) is = is

-- a settling takes a block away by its next step
abbrev pub IsTaking : Settling → Type 0
IsTaking (settling.Takes next) = Unit {0}
IsTaking _ = ⊥

module _ (T : Type 0) where
  -- registering takes no block away,
  register_plans : (c : Register) (p : Registering) → IsPlanOf {T = T} false true (register.plan_at c p)
  register_plans c registering.Begin = refl
  register_plans c registering.Look = tt
  register_plans c (registering.Widen bucket seen) = refl
  register_plans c (registering.Take seen) = tt
  register_plans c registering.Enter = tt
  register_plans c registering.Registered = tt
  register_plans c (registering.Refused fault) = tt

  module _ (defers : T → Option ℕ) where
    -- settling makes no room,
    settle_plans : (c : Settle) (p : Settling) → IsPlanOf true false (settle.plan_at defers c p)
    settle_plans c (settling.Takes next) = refl
    settle_plans c _ = tt

    leave_plans : (c : Leave) (p : Leaving) → IsPlanOf true false (leave.plan_at defers c p)
    leave_plans c leaving.Swaps = tt
    leave_plans c (leaving.Settles it) = so_as true false (leave.settled c) (settle.settle_plan defers it) (settle_plans it it.stands)
    leave_plans c leaving.Frees = tt
    leave_plans c leaving.Over = tt

    -- and takes no block away where it stands elsewhere
    quiet_plans : (c : Settle) (p : Settling) → (IsTaking p → ⊥) → IsPlanOf false false (settle.plan_at defers c p)
    quiet_plans c (settling.Takes next) none = absurd (none tt)
    quiet_plans c _ none = tt

module _ {K V : Type 0} (takes rooms : Bool) where
  op_tells : (m : Mem (Node K V)) (op : Op (Node K V)) (out : Out (Node K V)) → IsOpOf takes rooms op → Tells takes rooms (observed_of op out (seen_of m op out))
  op_tells m (Load place) out is = tt
  op_tells m (Store place word) out is = is
  op_tells m (Swap place word) (Found before) is = is
  op_tells m (Swap place word) _ is = tt
  op_tells m (Add place more) (Found before) is = is
  op_tells m (Add place more) _ is = tt
  op_tells m (Or place bits) out is = absurd is
  op_tells m (Exchange place old new) (Exchanged (Ok word)) is = is
  op_tells m (Exchange place old new) _ is = tt
  op_tells m (Make value words) out is = absurd is
  op_tells m (Take b) out is = is
  op_tells m (Rewrite b value) out is = absurd is
  op_tells m (Room bucket) (Roomed roomed) is = is
  op_tells m (Room bucket) _ is = tt

  plan_tells : {R : Type 0} (m m2 : Mem (Node K V)) (told : Changed) (plan : Plan (Node K V) R) (end : R) → StepsObserved K V R m changed.Nothing plan m2 told end → IsPlanOf takes rooms plan → Tells takes rooms told
  plan_tells m m2 told (Turn rest) end steps is = subst (Tells takes rooms) (sym steps.2) tt
  plan_tells m m2 told (Do op rest) end steps is = subst (Tells takes rooms) (sym steps.1.1) (op_tells m op steps.0 is)

module _ {K V : Type 0} (m m2 : Mem (Node K V)) (told : Changed) (after : SlotRow × RowTold (Node K V)) where
  pub enters_tell : (c : Enter) → RowSteps K V (rows.Enters c) m m2 told after → Tells false false told
  enters_tell c s = plan_tells false false m m2 told (enter_plan c) s.0 s.1 tt

  pub frees_tell : (c : Unregister) → RowSteps K V (rows.Frees c) m m2 told after → Tells false false told
  frees_tell c s = plan_tells false false m m2 told (unregister_plan c) s.0 s.1 tt

  pub registers_tell : (c : Register) → RowSteps K V (rows.Registers c) m m2 told after → Tells false true told
  registers_tell c s = plan_tells false true m m2 told (register.register_plan c) s.0 s.1 (register_plans (Node K V) c c.stands)

  pub leaves_tell : (c : Leave) → RowSteps K V (rows.Leaves c) m m2 told after → Tells true false told
  leaves_tell c s = plan_tells true false m m2 told (leave.leave_plan deferred_word c) s.0 s.1 (leave_plans (Node K V) deferred_word c c.stands)

  pub flushes_tell : (c : Settle) → (IsTaking c.stands → ⊥) → RowSteps K V (rows.Flushes c) m m2 told after → Tells false false told
  flushes_tell c none s = plan_tells false false m m2 told (settle.settle_plan deferred_word c) s.0 s.1 (quiet_plans (Node K V) deferred_word c c.stands none)

-- what nobody has made and not linked
abbrev pub IsNoOwn : Role → Type 0
IsNoOwn (role.OwnPair j) = ⊥
IsNoOwn (role.OwnTable turn shape) = ⊥
IsNoOwn _ = Unit {0}

-- As effects.
module _ (known : Known) where
  none_if : (q : Bool) → ◌≡◌ {A = List Effect} (if q then [] else []) []
  none_if true = refl
  none_if false = refl

  -- one that writes words alone does nothing
  pub does_nothing : (told : Changed) → Tells false false told → effects_of Row known told ≡ []
  does_nothing changed.Nothing is = refl
  does_nothing (changed.Wrote (Slot t field) old new) is = refl
  does_nothing (changed.Wrote (Entry b field) old new) is = none_if (names_same old new)
  does_nothing (changed.Wrote (Root r) old new) is = absurd is
  does_nothing (changed.Wrote (Used r) old new) is = absurd is
  does_nothing (changed.Wrote (Word b field) old new) is = absurd is
  does_nothing (changed.Made kind b) is = absurd is
  does_nothing (changed.Unmade kind) is = absurd is
  does_nothing (changed.Took b) is = absurd (cc is)
  does_nothing (changed.Roomed bucket had) is = absurd (cc is)

  -- one that makes room, too, asks for a bucket alone
  pub asks_alone : (told : Changed) → Tells false true told → list_all asks_for_bucket (effects_of Row known told) ≡ true
  asks_alone changed.Nothing is = refl
  asks_alone (changed.Wrote (Slot t field) old new) is = refl
  asks_alone (changed.Wrote (Entry b field) old new) is = ap (list_all asks_for_bucket) (none_if (names_same old new))
  asks_alone (changed.Wrote (Root r) old new) is = absurd is
  asks_alone (changed.Wrote (Used r) old new) is = absurd is
  asks_alone (changed.Wrote (Word b field) old new) is = absurd is
  asks_alone (changed.Made kind b) is = absurd is
  asks_alone (changed.Unmade kind) is = absurd is
  asks_alone (changed.Took b) is = absurd (cc is)
  asks_alone (changed.Roomed bucket had) is = by (had && nat_lt bucket known.buckets)
    where
      by : (q : Bool) → list_all asks_for_bucket (if q then [] else Asked ABucket ∷ []) ≡ true
      by true = refl
      by false = refl

  taken_back : (r : Role) → IsNoOwn r → list_all is_reclaiming (taken_by Row r) ≡ true
  taken_back role.Free own = refl
  taken_back (role.OwnPair j) own = absurd own
  taken_back (role.OwnTable turn shape) own = absurd own
  taken_back (role.Pair n) own = refl
  taken_back (role.Table t len) own = refl
  taken_back (role.Counter of) own = refl

  -- and one that takes a block away, too, reclaims alone
  pub reclaims_alone : (told : Changed) → Tells true false told → ((b : ℕ) → told ≡ changed.Took b → IsNoOwn (known.roles b)) → list_all is_reclaiming (effects_of Row known told) ≡ true
  reclaims_alone changed.Nothing is own = refl
  reclaims_alone (changed.Wrote (Slot t field) old new) is own = refl
  reclaims_alone (changed.Wrote (Entry b field) old new) is own = ap (list_all is_reclaiming) (none_if (names_same old new))
  reclaims_alone (changed.Wrote (Root r) old new) is own = absurd is
  reclaims_alone (changed.Wrote (Used r) old new) is own = absurd is
  reclaims_alone (changed.Wrote (Word b field) old new) is own = absurd is
  reclaims_alone (changed.Made kind b) is own = absurd is
  reclaims_alone (changed.Unmade kind) is own = absurd is
  reclaims_alone (changed.Took b) is own = taken_back (known.roles b) (own b refl)
  reclaims_alone (changed.Roomed bucket had) is own = absurd (cc is)

-- A row takes nothing away that somebody has made and not linked.
module _ {K V : Type 0} (same : K → K → Bool) (hash : ℕ → K → ℕ) (name : ℕ → List ℕ) (m : Moment K V) (known : Known) (s : Scene K V) (old new : Held K V) (at : IsAt same hash old s)
    (shown : Refines same name m known s) (made : RefinesMade name m known s) (tables : RefinesOwnTables name m known s) (i : ℕ) (row : SlotRow) (here : IsOnSlot s i row) (end : SlotRow × RowTold (Node K V))
    (steps : RowSteps K V row old.memory new.memory new.changed end) (happened : HappensAt same hash (Step i) s old new) where
  pub takes_no_own : (b : ℕ) → new.changed ≡ changed.Took b → IsNoOwn (known.roles b)
  takes_no_own b took = by (known.roles b) refl
    where
      by : (r : Role) → known.roles b ≡ r → IsNoOwn r
      by role.Free is = tt
      by (role.OwnPair j) is = row_keeps_held same hash s old new at i row here end steps happened b j (in_hand same hash name m known s old at shown made j b is) took
      by (role.OwnTable turn shape) is =
          let it = tables.whose b turn shape is in row_keeps_held same hash s old new at i row here end steps happened b it.0 (held_by same hash name m known s old at shown it.0 b it.1) took
      by (role.Pair n) is = tt
      by (role.Table t len) is = tt
      by (role.Counter of) is = tt
