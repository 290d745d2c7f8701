-- What a step finds by which all is reclaimed, where no table is left over: a table that it reclaims was retired, and what waits behind that is not reclaimed.
use Rattle.std.specs.Prelude.{◌≡◌, ◌⊎◌, ℕ, nat_lt, ◌&&◌, Bool, true, false, List, [], ◌∷◌, ◌++◌, Option, Some, None, IsSome, if◌then◌else◌}
use Rattle.std.proofs.Common.{refl, ap, sym, subst, ◌∙◌, inl, inr}
use Rattle.std.proofs.lemmas.Bool.{cases_eq}
use Rattle.run_schedules.specs.Given.SeizeWordsDeclared.at.At.{At}
use Rattle.run_schedules.specs.Given.SeizeWordsDeclared.at.At.TheVariants.{Root, Used, Slot, Entry, Word}
use Rattle.run_schedules.specs.Given.SeizeWordsMem.{Mem, value_at}
use Rattle.run_schedules.specs.Given.SeizeWordsOp.{Store}
use Rattle.run_executor.specs.Given.SeizeWordsWord.{block_in}
use Rattle.seize.specs.declared.rows.reclaim_all.ReclaimAll.{ReclaimAll}
use Rattle.seize.specs.declared.rows.settle.Settled.{Settled}
use Rattle.seize.specs.Law.{IsSound, is_retired as was_retired}
use Rattle.seize.specs.World.{World, Hand, Handed, Event, Begin, Step, Steps', Runs}
use Rattle.run_executor.proofs.Given.SeizeMovesState.Ghost.{is_given}
use Rattle.run_executor.proofs.Given.SeizeRuleWorld.Values.{own_op_value, taken_value}
use Rattle.run_executor.proofs.Given.SeizeAloneHistories.NotTaken.{did}
use Rattle.run_executor.proofs.Given.SeizeAloneHistories.Reached.{Reached, happens_reached, steps_reached}
use Rattle.run_executor.proofs.Given.SeizeAloneSpared.Rows.{RowStepped}
use Rattle.papaya_raw.specs.Given.TablesNodes.{deferred_word}
use Rattle.papaya_raw.specs.Given.TablesDeclared.node.Node.{Node}
use Rattle.run_schedules.specs.declared.effect.Effect.{Effect}
use Rattle.run_schedules.specs.declared.effect.Effect.TheVariants.{Asked}
use Rattle.run_schedules.specs.declared.effect.Growth.TheVariants.{ABucket}
use Rattle.run_schedules.specs.declared.effect.TableId.{TableId}
use Rattle.run_schedules.specs.Schedules.Effects.{AtEachEffect}
use Rattle.run_schedules.specs.Schedules.Moment.{Moment}
use Rattle.run_schedules.specs.Schedules.Views.{is_retired, is_stage}
use Rattle.run_executor.specs.Given.EffectsDeclared.changed.Changed.{Changed}
use Rattle.run_executor.specs.Given.EffectsDeclared.changed.Changed.TheVariants as changed
use Rattle.run_executor.specs.Given.EffectsEffects.{led_to, named, names_same, taken_by, effects_of}
use Rattle.run_executor.specs.Given.EffectsKnown.{Known}
use Rattle.run_executor.specs.Given.EffectsDeclared.acting.Acting.TheVariants.{Row}
use Rattle.run_executor.specs.Given.EffectsDeclared.role.Role.{Role}
use Rattle.run_executor.specs.Given.EffectsDeclared.role.Role.TheVariants as role
use Rattle.run_executor.specs.Given.FinishesFactsEnds.{TakesLeft, WritesRoot, events_of}
use Rattle.run_executor.specs.Given.ReclaimsSlots.{AreItsRows}
use Rattle.run_executor.specs.Given.ScenesReclaiming.{IsReclaiming, ReclaimingLeads}
use Rattle.run_executor.specs.Given.FollowsBlocks.{HasRole}
use Rattle.run_executor.proofs.Given.FollowsOperations.{LeavesBy}
use Rattle.run_executor.proofs.Given.FollowsWrites.{nothing_free}
use Rattle.run_executor.proofs.Given.OthersRowPlans.{TellsRow}
use Rattle.run_executor.specs.Given.SpotsOnSlots.{WaitUnreclaimed}
use Rattle.run_executor.specs.Given.MomentsOnSlots.{HadRetired}
use Rattle.run_executor.specs.Given.MomentsWhole.{RefinesWhole}
use Rattle.run_executor.proofs.Given.MomentsOnSlots.{none_some}
use Rattle.run_waiting.specs.Lives.Behind.{IsLeft, NoTableLeft, RefinesWaiting}
use Rattle.run_waiting.specs.Lives.Retired.{RefinesRetiredTables}
use Rattle.run_waiting.proofs.Lives.Retires.{given_hand}
use Rattle.run_waiting.proofs.Lives.Taken.{taken_retired}
use Rattle.run_waiting.proofs.Lives.Waiting.{row_finds}
use Rattle.run_kept.proofs.Sheds.Reclaiming.Rows.{EmptiesRoot, begun_kept, step_kept, reclaiming_tells}
use Rattle.run_kept.proofs.Sheds.Reclaiming.Steps.{left, reached}
use Rattle.run_executor.specs.Given.ScenesHeld.{Held}
use Rattle.run_executor.specs.Given.ScenesScene.{HasCall, Scene}
use Rattle.run_executor.proofs.Given.ScenesLeads.{happens}

module _ {K V : Type 0} (size : ℕ) where
  -- what a step of a row takes away the collector had,
  pub step_handed : (j : ℕ) (w v : World (Node K V)) (r : Reached deferred_word size w) → Steps' deferred_word j (w.row j) w v → (x : ℕ) → IsSome (value_at w.memory x) → value_at v.memory x ≡ None → w.hand x ≡ Handed
  step_handed j w v r step x some none = given_hand (w.hand x) (r.good.state.life x) given (r.good.hands x)
    where
      it : RowStepped deferred_word j w v
      it = did deferred_word size w r j v step

      sound : IsSound (it.effects ++ w.log)
      sound = let good2 = (steps_reached deferred_word size j w v r step).good in subst IsSound (good2.logged ∙ it.logged) good2.inv.logged.sound

      retired : was_retired x w.log ≡ true
      retired = taken_retired x it.effects w.log it.one sound (λ no_times. none_some (value_at w.memory x) some (sym (it.frames.values x no_times) ∙ none))

      given : is_given (r.good.state.life x) ≡ true
      given = sym (r.good.inv.logged.given x) ∙ ap (was_retired x) r.good.logged ∙ retired

  -- and so it is of several
  rows_handed : (i : ℕ) (events : List (Event (Node K V))) → AreItsRows i events → (w w2 : World (Node K V)) → Reached deferred_word size w → Runs deferred_word size events w w2
      → (x : ℕ) → IsSome (value_at w.memory x) → value_at w2.memory x ≡ None → w.hand x ≡ Handed
  rows_handed i [] its w w2 r runs x some none = absurd (none_some (value_at w.memory x) some (ap (λ (z : World (Node K V)). value_at z.memory x) (sym runs) ∙ none))
  rows_handed i (Begin j request ∷ events) its w w2 r (v, happens, runs) x some none =
      let first = begun_kept size j request w v its.1 happens.1 in
      ap (λ (h : ℕ → Hand). h x) (sym first.1)
      ∙ rows_handed i events its.2 v w2 (happens_reached deferred_word size (Begin j request) w v r happens) runs x
      (subst (λ (z : Mem (Node K V)). IsSome (value_at z x)) (sym first.0) some) none
  rows_handed i (Step j ∷ events) its w w2 r (v, happens, runs) x some none =
      by (value_at v.memory x) refl (λ there. rows_handed i events its.1 v w2 (happens_reached deferred_word size (Step j) w v r happens) runs x there none)
    where
      by : (o : Option (Node K V)) → value_at v.memory x ≡ o → (IsSome (value_at v.memory x) → v.hand x ≡ Handed) → w.hand x ≡ Handed
      by None e later = step_handed j w v r happens x some e
      by (Some value) e later =
          let there : IsSome (value_at v.memory x) = subst (λ (q : Option (Node K V)). IsSome q) (sym e) refl in
          sym (step_kept size j w v r happens x there).1 ∙ later there
  rows_handed i (_ ∷ events) its w w2 r runs x some none = absurd its

  -- one that is taken away as it was left over is so before,
  pub left_before : (i b : ℕ) (w w2 : World (Node K V)) → Runs deferred_word size (events_of i (TakesLeft b)) w w2 → (x : ℕ) → IsSome (value_at w.memory x) → value_at w2.memory x ≡ None → IsLeft (w.hand x)
  left_before i b w w2 (v, (out, m, was_left, may, took, is), runs) x some none = elim (cases_eq x b) as (λ _. IsLeft (w.hand x)) [
    | inl e ↦ subst IsLeft (sym (ap w.hand e ∙ was_left.1)) tt
    | inr ne ↦ absurd (none_some (value_at w.memory x) some
        (sym (ap (λ (u : World (Node K V)). value_at u.memory x) (runs ∙ is) ∙ taken_value deferred_word w.memory x b out m took ne) ∙ none))
  ]

  -- and none is where a word of a root is written
  pub root_value : (i : ℕ) (place : At) (word : ℕ) (w w2 : World (Node K V)) → Runs deferred_word size (events_of i (WritesRoot place word)) w w2 → (x : ℕ) → value_at w2.memory x ≡ value_at w.memory x
  root_value i place word w w2 (v, (out, m, own, took, is), runs) x =
      ap (λ (u : World (Node K V)). value_at u.memory x) (runs ∙ is) ∙ ap (λ (z : Mem (Node K V)). value_at z x) took.1 ∙ own_op_value deferred_word w.memory x (Store place word) out own

module _ {K V : Type 0} (same : K → K → Bool) (hash : ℕ → K → ℕ) (name : ℕ → List ℕ) (m : Moment K V) (known : Known) (s : Scene K V) (whole : RefinesWhole same name m known s)
    (waiting : RefinesWaiting m known s.world) (retired : RefinesRetiredTables m known s) (no_table : NoTableLeft known s.world)
    (old new : Held K V) (i : ℕ) (lists : ℕ → List ℕ) (before after : ReclaimAll) (told : Settled (Node K V)) (at : IsReclaiming same hash old s i lists before)
    (leads : ReclaimingLeads same hash s i lists old new before after told) where
  abbrev w : World (Node K V)
  w = s.world

  abbrev w2 : World (Node K V)
  w2 = leads.1.w2

  abbrev effects : List Effect
  effects = effects_of Row known new.changed

  abbrev RunsBy : List (Event (Node K V)) → Type 0
  RunsBy events = Runs deferred_word old.batch_size events w w2

  -- a table that is taken away was retired: the collector had it, and nobody has a call whose row is to retire it
  table_had : (x len : ℕ) (t : TableId) → known.roles x ≡ role.Table t len → value_at w2.memory x ≡ None → is_stage is_retired t m ≡ true
  table_had x len t is gone = elim (retired.tables x len t is (by leads.1.its)) as (λ _. is_stage is_retired t m ≡ true) [
    | inl so ↦ so
    | inr due ↦ absurd (no_call due.0 due.1)
  ]
    where
      no_call : (j : ℕ) → HasCall s j → ⊥
      no_call j (n, u, here) = (let none = at.under_way.stand.no_calls n j in cc (none, here))

      some : IsSome (value_at w.memory x)
      some =
          let has = subst (λ (r : Role). HasRole w m.stored x r) is (whole.all.shown.blocks.roles x) in
          subst (λ (o : Option (Node K V)). IsSome o) (sym has.1) refl

      by : AreItsRows i leads.1.events ⊎ (((b : ℕ) × (leads.1.events ≡ events_of i (TakesLeft b)))
          ⊎ ((root : ℕ) × ((leads.1.events ≡ events_of i (WritesRoot (Root root) 0)) ⊎ (leads.1.events ≡ events_of i (WritesRoot (Used root) 0))))) → w.hand x ≡ Handed
      by (inl rows) =
          rows_handed old.batch_size i leads.1.events rows w w2 (reached same hash name m known s whole old new i lists before after told at leads) leads.1.runs x some gone
      by (inr (inl (b, its))) = absurd (no_table x len t is (left_before old.batch_size i b w w2 (subst RunsBy its leads.1.runs) x some gone))
      by (inr (inr (root, inl its))) =
          absurd (none_some (value_at w.memory x) some (sym (root_value old.batch_size i (Root root) 0 w w2 (subst RunsBy its leads.1.runs) x) ∙ gone))
      by (inr (inr (root, inr its))) =
          absurd (none_some (value_at w.memory x) some (sym (root_value old.batch_size i (Used root) 0 w w2 (subst RunsBy its leads.1.runs) x) ∙ gone))

  taken_had : (x : ℕ) (r : Role) → known.roles x ≡ r → value_at w2.memory x ≡ None → AtEachEffect HadRetired None None (taken_by Row r) m
  taken_had x role.Free is gone = tt
  taken_had x (role.OwnPair j) is gone = (tt, tt)
  taken_had x (role.OwnTable turn shape) is gone = (tt, tt)
  taken_had x (role.Pair n) is gone = (tt, tt)
  taken_had x (role.Table t len) is gone = (table_had x len t is gone, tt)
  taken_had x (role.Counter of) is gone = tt

  nothing_had : (q : Bool) → AtEachEffect HadRetired None None (if q then [] else []) m
  nothing_had true = tt
  nothing_had false = tt

  roomed_had : (q : Bool) → AtEachEffect HadRetired None None (if q then [] else Asked ABucket ∷ []) m
  roomed_had true = tt
  roomed_had false = (tt, tt)

  row_had : (x : Changed) → TellsRow x → LeavesBy w.memory w2.memory x → AtEachEffect HadRetired None None (effects_of Row known x) m
  row_had changed.Nothing is l = tt
  row_had (changed.Wrote (Slot t field) was now) is l = tt
  row_had (changed.Wrote (Entry b field) was now) is l = nothing_had (names_same was now)
  row_had (changed.Wrote (Root r) was now) is l = absurd is
  row_had (changed.Wrote (Used r) was now) is l = absurd is
  row_had (changed.Wrote (Word b field) was now) is l = absurd is
  row_had (changed.Made kind b) is l = absurd is
  row_had (changed.Unmade kind) is l = absurd is
  row_had (changed.Took b) is l = taken_had b (known.roles b) refl l.1
  row_had (changed.Roomed bucket had) is l = roomed_had (had && nat_lt bucket known.buckets)

  -- a root that is emptied is nothing to pairs and tables
  emptied : (x : Changed) → EmptiesRoot x → effects_of Row known x ≡ []
  emptied (changed.Wrote (Root r) was now) empty = by (names_same was now)
    where
      free : named known now ≡ role.Free
      free = ap (λ (word : ℕ). known.roles (block_in word)) empty ∙ nothing_free w m.stored known whole.all.shown.blocks.roles

      by : (q : Bool) → (if q then [] else led_to Row (named known was) (named known now)) ≡ []
      by true = refl
      by false = ap (led_to Row (named known was)) free
  emptied (changed.Wrote (Used r) was now) empty = refl
  emptied _ empty = absurd empty

  pub reclaiming_finds : AtEachEffect HadRetired None None effects m × AtEachEffect WaitUnreclaimed None None effects m
  reclaiming_finds =
      elim (reclaiming_tells old.memory new.memory new.changed before before.stands (after, told) leads.0)
      as (λ _. AtEachEffect HadRetired None None effects m × AtEachEffect WaitUnreclaimed None None effects m) [
        | inl tells ↦ (
          row_had new.changed tells (left same hash name m known s whole old new i lists before after told at leads),
          row_finds m known w waiting new.changed tells,
        )
        | inr empties ↦
            let none = emptied new.changed empties in (
              subst (λ (xs : List Effect). AtEachEffect HadRetired None None xs m) (sym none) tt,
              subst (λ (xs : List Effect). AtEachEffect WaitUnreclaimed None None xs m) (sym none) tt,
            )
      ]
