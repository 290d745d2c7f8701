-- A step of the end of a map leaves the lists of the tables that are in use then, and what waits behind them.
use Rattle.std.specs.Prelude.{◌≡◌, ◌<◌, ◌+◌, ℕ, zero, suc, Bool, cond, List, [], ◌∷◌, Option, Some, None, IsSome}
use Rattle.std.proofs.Common.{refl, ap, sym, subst, ◌∙◌, inl, inr, arith}
use Rattle.std.proofs.lemmas.Bool.{ne_eqb}
use Rattle.run_debts.specs.Given.SeizeWordsMem.{value_at}
use Rattle.run_debts.specs.Given.SeizeFurther.{FurtherAre}
use Rattle.run_debts.specs.Given.SeizeWorld.{World, InUse, LeftTo, Unlinks, LeavesOver, Runs, times}
use Rattle.run_debts.specs.Given.SeizeDeclared.rows.settle.Settled.{Settled}
use Rattle.run_debts.specs.Given.SeizeDeclared.rows.settle.Settled.TheVariants as settled
use Rattle.run_debts.specs.Given.SeizeDeclared.states.TheConstants.{LAST_SLOT}
use Rattle.run_debts.proofs.Given.SeizeMovesState.Ghost.{State}
use Rattle.run_debts.proofs.Given.SeizeRuleWorld.Events.{leaves_over_good}
use Rattle.run_debts.proofs.Given.SeizeRuleRows.SizesKept.{happens_sized}
use Rattle.run_debts.proofs.Given.SeizeAloneHistories.Reached.{Reached, runs_reached}
use Rattle.run_debts.specs.Given.TablesNodes.{deferred_word}
use Rattle.run_debts.specs.Given.TablesDeclared.node.Node.{Node}
use Rattle.run_debts.specs.Given.RawDeclared.machines.end_map.EndMap.{EndMap}
use Rattle.run_debts.specs.Given.RunsDeclared.effect.Effect.{Effect}
use Rattle.run_debts.specs.Given.RunsDeclared.effect.TableId.{TableId}
use Rattle.run_debts.specs.Given.SchedulesEffects.{with_effects}
use Rattle.run_debts.specs.Given.SchedulesMoment.{Deferral, Moment}
use Rattle.run_debts.specs.Given.SchedulesViews.{behind}
use Rattle.run_debts.specs.Given.EffectsDeclared.changed.Changed.{Changed}
use Rattle.run_debts.specs.Given.EffectsDeclared.changed.Changed.TheVariants as changed
use Rattle.run_debts.proofs.Given.CallersTogether.Came.{came_reached}
use Rattle.run_debts.specs.Given.EffectsEffects.{taken_by, effects_of, known_after}
use Rattle.run_debts.specs.Given.EffectsKnown.{Known}
use Rattle.run_debts.specs.Given.EffectsDeclared.acting.Acting.TheVariants.{Ending}
use Rattle.run_debts.specs.Given.EffectsDeclared.role.Role.{Role}
use Rattle.run_debts.specs.Given.EffectsDeclared.role.Role.TheVariants as role
use Rattle.run_debts.specs.Given.FinishesEndings.{Finishing, StepsOfEnding}
use Rattle.run_debts.specs.Given.FinishesFactsEnds.{Deed, Looks, TakesPair, LeavesTable, JoinsPair, TakesLeft, TakesCounter, WritesRoot, events_of, left_by, taken_by as taken_of}
use Rattle.run_debts.proofs.Given.FinishesEnds.CountedBlocks.{some_here}
use Rattle.run_debts.proofs.Given.FollowsAlike.{put_here}
use Rattle.run_debts.proofs.Given.FollowsOnward.{IsOfMap}
use Rattle.run_debts.specs.Given.OthersEndings.{ending_after}
use Rattle.run_debts.specs.Given.MomentsWhole.{RefinesWhole}
use Rattle.run_debts.proofs.Given.MomentsEnds.{says, end_keeps}
use Rattle.run_waiting.specs.Lives.Order.{RefinesOrder, EndingsPreserveOrder}
use Rattle.run_waiting.proofs.Lives.InUse.{its_list, list_is, listed_there, still_lists, used_there}
use Rattle.run_waiting.proofs.Lives.Order.{behind_apart, order_as}
use Rattle.run_waiting.proofs.Lives.WaitingEnds.{calm_deferred}
use Rattle.run_debts.specs.Given.ScenesEnding.{EndingHasOutcome, EndingStepsFrom}
use Rattle.run_debts.specs.Given.ScenesHeld.{Held, IsAt}
use Rattle.run_debts.specs.Given.ScenesScene.{Scene, slot_of}

-- Each deed leaves the list of a block that is in use after it.
module _ {T : Type 0} (defers : T → Option ℕ) (size i : ℕ) (w w2 : World T) (r : Reached defers size w) (c o : ℕ) (used : w2.hand c ≡ InUse o) where
  abbrev Leaves : Type 0
  Leaves = (r2 : Reached defers size w2) × (r2.good.state.deferred c ≡ r.good.state.deferred c)

  as_still : (r2 : Reached defers size w2) × ((t : ℕ) → r2.good.state.deferred t ≡ r.good.state.deferred t) → Leaves
  as_still it = (it.0, it.1 c)

  -- what a table leaves over is in use no more
  table_leaves : (b : ℕ) (further : List ℕ) → Runs defers size (Unlinks i b ∷ LeavesOver i b further ∷ []) w w2 → (w2.hand b ≡ LeftTo i) → Leaves
  table_leaves b further runs left =
      let first = still_lists defers size (Unlinks i b ∷ []) w runs.0 r (tt, tt) (runs.0, runs.1, refl) in
      let g = leaves_over_good defers (LAST_SLOT + 1) size runs.0 runs.2.0 first.0.good i b further runs.2.1 in
      let sized = happens_sized defers size runs.0 runs.2.0 first.0.sized (LeavesOver i b further) runs.2.1 in
      let there : (r2 : Reached defers size runs.2.0) × (r2.good.state.deferred c ≡ r.good.state.deferred c) = (
        record { good = g.0; sized = sized },
        ap (λ (x : State). x.deferred c) g.1 ∙ ap (λ (q : Bool). cond q [] (first.0.good.state.deferred c)) (ne_eqb c b apart) ∙ first.1 c,
      ) in
      subst (λ (v : World T). (r2 : Reached defers size v) × (r2.good.state.deferred c ≡ r.good.state.deferred c)) (sym runs.2.2) there
    where
      apart : c ≡ b → ⊥
      apart e = (let one : w2.hand c ≡ LeftTo i = ap w2.hand e ∙ left in cc (one, used))

  deed_leaves : (deed : Deed) → Runs defers size (events_of i deed) w w2 → ((x : ℕ) → 0 < times x (left_by deed) → w2.hand x ≡ LeftTo i) → Leaves
  deed_leaves Looks runs left = as_still (still_lists defers size [] w w2 r tt runs)
  deed_leaves (TakesPair b) runs left = as_still (still_lists defers size (events_of i (TakesPair b)) w w2 r (tt, (tt, (tt, tt))) runs)
  deed_leaves (LeavesTable b further) runs left = table_leaves b further runs (left b (some_here b further))
  deed_leaves (JoinsPair b word) runs left = as_still (still_lists defers size (events_of i (JoinsPair b word)) w w2 r (tt, tt) runs)
  deed_leaves (TakesLeft b) runs left = as_still (still_lists defers size (events_of i (TakesLeft b)) w w2 r (tt, tt) runs)
  deed_leaves (TakesCounter b) runs left = as_still (still_lists defers size (events_of i (TakesCounter b)) w w2 r (tt, tt) runs)
  deed_leaves (WritesRoot place word) runs left = as_still (still_lists defers size (events_of i (WritesRoot place word)) w w2 r (tt, tt) runs)

module _ {K V : Type 0} (same : K → K → Bool) (hash : ℕ → K → ℕ) (name : ℕ → List ℕ) (m : Moment K V) (known : Known) (s : Scene K V) (old new : Held K V) (at : IsAt same hash old s)
    (whole : RefinesWhole same name m known s) (shows : RefinesOrder m known s.world) (i : ℕ) (f : Finishing K V) (here : s.enders i ≡ Some f) (end : EndMap) (said : Settled (Node K V))
    (steps : EndingStepsFrom f.machine old new end said)
    (did : StepsOfEnding V same same old.batch_size old.roots slot_of s.world s.maps s.calls s.makers s.enders i f new.memory (end, said))
    (map : ℕ) (not_there : s.maps map ≡ None) (comes : EndingHasOutcome same hash s new i f end did.w2 did.deed said) where
  abbrev told : Changed
  told = new.changed

  abbrev known2 : Known
  known2 = known_after (Ending map) told known

  abbrev effects : List Effect
  effects = effects_of (Ending map) known told

  abbrev v : Moment K V
  v = with_effects None (Some map) effects m

  first : Reached deferred_word old.batch_size s.world
  first = came_reached old.batch_size s.world at.together.makings.standing.came

  was_table : (c len : ℕ) (t : TableId) → known2.roles c ≡ role.Table t len → known.roles c ≡ role.Table t len
  was_table c len t is = sym ((end_keeps same hash name m known s old new at whole i f here end said steps did map not_there comes).0 c (subst IsOfMap (sym is) tt)) ∙ is

  still_pair : (b n : ℕ) → IsSome (value_at did.w2.memory b) → known.roles b ≡ role.Pair n → known2.roles b ≡ role.Pair n
  still_pair b n there is = (end_keeps same hash name m known s old new at whole i f here end said steps did map not_there comes).1 b there (subst IsOfMap (sym is) tt) ∙ is

  -- the same pairs wait behind a table that is left
  pub same_behind : (c len : ℕ) (t : TableId) → known2.roles c ≡ role.Table t len → behind t v.deferred ≡ behind t m.deferred
  same_behind c len t is = elim (says same hash name m known s old new at whole i f here end said steps did map not_there comes) as (λ _. behind t v.deferred ≡ behind t m.deferred) [
    | inl it ↦ ap (λ (ds : List Deferral). behind t ds) (calm_deferred (Some map) effects m it.0)
    | inr it ↦
        subst (λ (x : Changed). behind t (with_effects None (Some map) (effects_of (Ending map) known x) m).deferred ≡ behind t m.deferred) (sym it.1) (taken it.0 it.1 (known.roles it.0) refl)
  ]
    where
      taken : (x : ℕ) → told ≡ changed.Took x → (r : Role) → known.roles x ≡ r → behind t (with_effects None (Some map) (taken_by (Ending map) r) m).deferred ≡ behind t m.deferred
      taken x took role.Free e = refl
      taken x took (role.OwnPair j) e = refl
      taken x took (role.OwnTable turn shape) e = refl
      taken x took (role.Pair k) e = refl
      taken x took (role.Counter of) e = refl
      taken x took (role.Table u k) e = behind_apart t u other m.deferred
        where
          other : t ≡ u → ⊥
          other one =
              let one_block : c ≡ x = whole.blocks.tables_once c x len k t (was_table c len t is) (e ∙ ap (λ (y : TableId). role.Table y k) (sym one)) in
              let gone : (known_after (Ending map) (changed.Took x) known).roles c ≡ role.Table t len = ap (λ (y : Changed). (known_after (Ending map) y known).roles c) (sym took) ∙ is in
              subst IsOfMap (put_here x role.Free known.roles c one_block) (subst IsOfMap (sym gone) tt)

  -- what is taken away is not in use then
  gone_unused : (c o : ℕ) → 0 < times c (taken_of did.deed) → did.w2.hand c ≡ InUse o → ⊥
  gone_unused c o more used =
      gone (value_at did.w2.memory c) (did.spares.gone c more)
      (used_there deferred_word did.w2 (runs_reached deferred_word old.batch_size (events_of i did.deed) s.world did.w2 first did.runs).good c o used)
    where
      gone : (p : Option (Node K V)) → p ≡ None → IsSome p → ⊥
      gone p is some = (let it : IsSome {T = Node K V} None = subst (λ (q : Option (Node K V)). IsSome q) is some in cc it)

  pub used_before : (c o : ℕ) → did.w2.hand c ≡ InUse o → s.world.hand c ≡ InUse o
  used_before c o used = by (times c (taken_of did.deed)) refl (times c (left_by did.deed)) refl
    where
      by : (j : ℕ) → times c (taken_of did.deed) ≡ j → (k : ℕ) → times c (left_by did.deed) ≡ k → s.world.hand c ≡ InUse o
      by zero none zero not_left = sym (did.spares.hands c none not_left) ∙ used
      by (suc j) some zero not_left = absurd (gone_unused c o (omega (arith, some)) used)
      by j some (suc k) over = absurd (let left = did.spares.left c (omega (arith, over)) in cc (left, used))

  order_then : RefinesOrder v known2 did.w2
  order_then c len o t blocks is used are =
      order_as m v known known2 s.world shows c len o t blocks (was_table c len t is) was same_list
      (λ b n some noted. still_pair b n (listed_there deferred_word did.w2 after.0.good c o used blocks are b some) noted) (same_behind c len t is)
    where
      after : (r2 : Reached deferred_word old.batch_size did.w2) × (r2.good.state.deferred c ≡ first.good.state.deferred c)
      after = deed_leaves deferred_word old.batch_size i s.world did.w2 first c o used did.deed did.runs did.spares.left

      was : s.world.hand c ≡ InUse o
      was = used_before c o used

      same_list : FurtherAre deferred_word s.world.memory c blocks
      same_list =
          subst (FurtherAre deferred_word s.world.memory c) (sym (list_is deferred_word did.w2 after.0.good c o used blocks are ∙ after.1))
          (its_list deferred_word s.world first.good c o was)

  pub ordered_then : (x : Settled (Node K V)) (it : EndingHasOutcome same hash s new i f end did.w2 did.deed x) → RefinesOrder v known2 (ending_after same hash s new i f end did.w2 did.deed x it).world
  ordered_then settled.Goes it = order_then
  ordered_then settled.Waits it = absurd it
  ordered_then (settled.Gave value) it = order_then
  ordered_then settled.Done it = order_then

pub endings_keep_order : (K V : Type 0) (same : K → K → Bool) (hash : ℕ → K → ℕ) → EndingsPreserveOrder K V same hash
endings_keep_order K V same hash name m known s old new at whole shows i told leads f here map not_there =
    let to = leads f here in ordered_then same hash name m known s old new at whole shows i f here to.0 told to.1 to.2 map not_there to.3 told to.3
