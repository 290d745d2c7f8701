-- A step by which all is reclaimed leaves what waits behind tables there, where no table is left over: what is behind a table that is there still waits there, and with a
-- table it takes what waits behind that off the list.
use Rattle.std.specs.Prelude.{◌≡◌, ◌⊎◌, ℕ, zero, suc, ◌+◌, nat_lt, ◌&&◌, Bool, true, false, not, List, [], ◌∷◌, Option, Some, None, IsSome, if◌then◌else◌}
use Rattle.std.proofs.Common.{refl, ap, sym, subst, ◌∙◌, inl, inr, arith}
use Rattle.run_schedules.specs.Given.SeizeWordsDeclared.at.At.TheVariants.{Root, Used, Slot, Entry, Word}
use Rattle.run_schedules.specs.Given.SeizeWordsMem.{value_at}
use Rattle.run_schedules.specs.Given.SeizeWordsOp.{Store}
use Rattle.seize.specs.declared.rows.reclaim_all.ReclaimAll.{ReclaimAll}
use Rattle.seize.specs.declared.rows.settle.Settled.{Settled}
use Rattle.seize.specs.declared.states.TheConstants.{LAST_SLOT}
use Rattle.seize.specs.Sequence.{taken_in}
use Rattle.seize.specs.World.{World, Hand, Request, Register', Leave', Flush, Unregister', Event, Begin, Step, Begins, Runs, Clears, Operates, times}
use Rattle.run_executor.proofs.Given.SeizeRulePoints.Aside.{HandFits}
use Rattle.run_executor.proofs.Given.SeizeMemoryWords.There.{value_there}
use Rattle.run_executor.proofs.Given.SeizeAloneHistories.NotTaken.{did, taken_gone}
use Rattle.run_executor.proofs.Given.SeizeAloneHistories.Reached.{Reached, happens_reached}
use Rattle.run_executor.proofs.Given.SeizeAloneSpared.Rows.{RowStepped}
use Rattle.papaya_raw.specs.Given.TablesNodes.{deferred_word}
use Rattle.papaya_raw.specs.Given.TablesDeclared.node.Node.{Node}
use Rattle.run_schedules.specs.declared.effect.Effect.{Effect}
use Rattle.run_schedules.specs.declared.effect.Effect.TheVariants.{Asked}
use Rattle.run_schedules.specs.declared.effect.Growth.TheVariants.{ABucket}
use Rattle.run_schedules.specs.declared.effect.TableId.{TableId}
use Rattle.run_schedules.specs.Schedules.Effects.{all_at, with_effects}
use Rattle.run_schedules.specs.Schedules.Lists.{is_among}
use Rattle.run_schedules.specs.Schedules.Moment.{Place, Behind, Handed as IsHanded, GivenBack, Moment}
use Rattle.run_schedules.specs.Schedules.Things.{same_table}
use Rattle.run_schedules.specs.Schedules.Views.{behind}
use Rattle.run_executor.specs.Given.EffectsDeclared.changed.Changed.{Changed}
use Rattle.run_executor.specs.Given.EffectsDeclared.changed.Changed.TheVariants as changed
use Rattle.run_executor.specs.Given.CallersTogether.{CameAbout}
use Rattle.run_executor.specs.Given.EffectsEffects.{names_same, taken_by, effects_of, known_after}
use Rattle.run_executor.specs.Given.EffectsKnown.{Known}
use Rattle.run_executor.specs.Given.EffectsDeclared.acting.Acting.TheVariants.{Row}
use Rattle.run_executor.specs.Given.EffectsDeclared.role.Role.{Role}
use Rattle.run_executor.specs.Given.EffectsDeclared.role.Role.TheVariants as role
use Rattle.run_executor.specs.Given.FinishesFactsEnds.{TakesLeft, WritesRoot, events_of}
use Rattle.run_executor.specs.Given.ReclaimsSlots.{IsForSlots, AreItsRows}
use Rattle.run_executor.specs.Given.ScenesReclaiming.{IsReclaiming, ReclaimingLeads}
use Rattle.run_executor.specs.Given.FollowsBlocks.{HasRole}
use Rattle.run_executor.proofs.Given.FollowsAlike.{put_elsewhere}
use Rattle.run_executor.proofs.Given.FollowsOnward.{IsOfMap}
use Rattle.run_executor.proofs.Given.FollowsOperations.{LeavesBy}
use Rattle.run_executor.proofs.Given.OthersRowPlans.{TellsRow}
use Rattle.run_executor.proofs.Given.SpotsUnreclaimed.{same_itself}
use Rattle.run_executor.specs.Given.MomentsWhole.{RefinesWhole}
use Rattle.run_executor.proofs.Given.MomentsOnSlots.{none_some, row_keeps}
use Rattle.run_waiting.specs.Lives.Behind.{IsLeft, NoTableLeft, IsDeferredTo, EachWaits, RefinesWaiting, WaitsOnce}
use Rattle.run_waiting.specs.Lives.Waiting.{waits_behind}
use Rattle.run_waiting.proofs.Lives.Each.{each_on, each_both, each_kept}
use Rattle.run_waiting.proofs.Lives.Logs.{waits_on}
use Rattle.run_waiting.proofs.Lives.Taken.{there_still}
use Rattle.run_waiting.proofs.Lives.Worlds.{Kept, log_back, runs_kept, start_kept, has_it}
use Rattle.run_kept.proofs.Sheds.Reclaiming.Rows.{rows_kept}
use Rattle.run_kept.proofs.Sheds.Reclaiming.Steps.{reached}
use Rattle.run_executor.specs.Given.ScenesHeld.{Held}
use Rattle.run_executor.specs.Given.ScenesScene.{Scene}
use Rattle.run_executor.proofs.Given.ScenesLeads.{happens}
use Rattle.run_blocks.proofs.Given.FinishesBeside.Makings.Outs.{handed_lives}

module _ {K V : Type 0} (size : ℕ) where
  -- such a row tells nothing as it begins
  pub begun_log : (i : ℕ) (request : Request) (w v : World (Node K V)) → IsForSlots request → Begins deferred_word size i request w v → v.log ≡ w.log
  begun_log i (Register' enters) w v its is = ap (λ (x : World (Node K V)). x.log) is
  begun_log i (Leave' s) w v its is = ap (λ (x : World (Node K V)). x.log) is.1
  begun_log i (Flush s) w v its is = ap (λ (x : World (Node K V)). x.log) is.1
  begun_log i (Unregister' s) w v its is = ap (λ (x : World (Node K V)). x.log) is.1
  begun_log i _ w v its is = absurd its

  -- what waits behind a block that is there still does so after such rows
  rows_wait : (i : ℕ) (events : List (Event (Node K V))) → AreItsRows i events → (w w2 : World (Node K V)) → Reached deferred_word size w → Runs deferred_word size events w w2
      → (p t : ℕ) → IsSome (value_at w2.memory t) → waits_behind p w.log ≡ Some t → waits_behind p w2.log ≡ Some t
  rows_wait i [] its w w2 r runs p t some waits = ap (λ (z : World (Node K V)). waits_behind p z.log) runs ∙ waits
  rows_wait i (Begin j request ∷ events) its w w2 r (v, happens, runs) p t some waits =
      rows_wait i events its.2 v w2 (happens_reached deferred_word size (Begin j request) w v r happens) runs p t some
      (ap (waits_behind p) (begun_log j request w v its.1 happens.1) ∙ waits)
  rows_wait i (Step j ∷ events) its w w2 r (v, happens, runs) p t some waits =
      rows_wait i events its.1 v w2 later runs p t some (ap (waits_behind p) it.logged ∙ waits_on p t it.effects w.log it.one waits (by (times t (taken_in it.effects)) refl))
    where
      later : Reached deferred_word size v
      later = happens_reached deferred_word size (Step j) w v r happens

      it : RowStepped deferred_word j w v
      it = did deferred_word size w r j v happens

      there : IsSome (value_at v.memory t)
      there = subst (λ (o : Option (Node K V)). IsSome o) (rows_kept size i events its.1 v w2 later runs t some).0 some

      by : (k : ℕ) → times t (taken_in it.effects) ≡ k → times t (taken_in it.effects) ≡ 0
      by zero e = e
      by (suc k) e = absurd (none_some (value_at v.memory t) there (taken_gone deferred_word size w r j v happens t (λ z. omega (arith, e, z))))
  rows_wait i (_ ∷ events) its w w2 r runs p t some waits = absurd its

module _ {K V : Type 0} (same : K → K → Bool) (hash : ℕ → K → ℕ) (name : ℕ → List ℕ) (m : Moment K V) (known : Known) (s : Scene K V) (whole : RefinesWhole same name m known s)
    (waiting : RefinesWaiting m known s.world) (once : WaitsOnce m.deferred) (no_table : NoTableLeft known s.world)
    (old new : Held K V) (i : ℕ) (lists : ℕ → List ℕ) (before after : ReclaimAll) (told : Settled (Node K V)) (at : IsReclaiming same hash old s i lists before)
    (leads : ReclaimingLeads same hash s i lists old new before after told) where
  abbrev w : World (Node K V)
  w = s.world

  abbrev w2 : World (Node K V)
  w2 = leads.1.w2

  abbrev RunsBy : List (Event (Node K V)) → Type 0
  RunsBy events = Runs deferred_word old.batch_size events w w2

  pub kept_then : Kept deferred_word old.batch_size w2
  kept_then =
      (let came : CameAbout old.batch_size w = at.under_way.stand.together.makings.standing.came in
      runs_kept deferred_word old.batch_size leads.1.events w w2
      (runs_kept deferred_word old.batch_size came.1 _ w (start_kept deferred_word old.batch_size came.0) came.2) leads.1.runs)

  log_waits : (p t : ℕ) → IsSome (value_at w2.memory t) → waits_behind p w.log ≡ Some t → waits_behind p w2.log ≡ Some t
  log_waits p t some waits = by leads.1.its
    where
      aside : (v : World (Node K V)) → w2 ≡ v → waits_behind p w.log ≡ waits_behind p v.log → waits_behind p w2.log ≡ Some t
      aside v is back = ap (λ (z : World (Node K V)). waits_behind p z.log) is ∙ sym back ∙ waits

      by : AreItsRows i leads.1.events ⊎ (((b : ℕ) × (leads.1.events ≡ events_of i (TakesLeft b)))
          ⊎ ((root : ℕ) × ((leads.1.events ≡ events_of i (WritesRoot (Root root) 0)) ⊎ (leads.1.events ≡ events_of i (WritesRoot (Used root) 0))))) → waits_behind p w2.log ≡ Some t
      by (inl rows) =
          rows_wait old.batch_size i leads.1.events rows w w2 (reached same hash name m known s whole old new i lists before after told at leads) leads.1.runs p t some waits
      by (inr (inl (b, is))) =
          let runs : RunsBy (events_of i (TakesLeft b)) = subst RunsBy is leads.1.runs in
          aside runs.0 runs.2 (log_back deferred_word old.batch_size w runs.0 (Clears i b) tt runs.1 p)
      by (inr (inr (root, inl is))) =
          let runs : RunsBy (events_of i (WritesRoot (Root root) 0)) = subst RunsBy is leads.1.runs in
          aside runs.0 runs.2 (log_back deferred_word old.batch_size w runs.0 (Operates (Store (Root root) 0)) tt runs.1 p)
      by (inr (inr (root, inr is))) =
          let runs : RunsBy (events_of i (WritesRoot (Used root) 0)) = subst RunsBy is leads.1.runs in
          aside runs.0 runs.2 (log_back deferred_word old.batch_size w runs.0 (Operates (Store (Used root) 0)) tt runs.1 p)

  -- what waits behind a table does so by the log, since none is left over
  by_log : (n : ℕ) (t : TableId) (l : IsDeferredTo known w n t) → waits_behind l.pair w.log ≡ Some l.table
  by_log n t l = by l.waits
    where
      by : (waits_behind l.pair w.log ≡ Some l.table) ⊎ (IsLeft (w.hand l.pair) × IsLeft (w.hand l.table)) → waits_behind l.pair w.log ≡ Some l.table
      by (inl waits) = waits
      by (inr both) = absurd (no_table l.table l.len t l.is_table both.1)

  -- so its pair is there still where the table is
  pair_there : (n : ℕ) (t : TableId) (l : IsDeferredTo known w n t) → IsSome (value_at w2.memory l.table) → IsSome (value_at w2.memory l.pair)
  pair_there n t l some =
      let good = kept_then.good in
      let handed = has_it deferred_word old.batch_size w2 kept_then l.pair l.table (log_waits l.pair l.table some (by_log n t l)) in
      value_there deferred_word (LAST_SLOT + 1) w2.memory good.state good.extra l.pair good.shows
      (handed_lives (good.state.life l.pair) (subst (λ (h : Hand). HandFits h (good.state.life l.pair)) handed (good.hands l.pair)))

  -- by what is told as of a row
  module _ (x : Changed) (tells : TellsRow x) (l2 : LeavesBy w.memory w2.memory x) where
    abbrev known2 : Known
    known2 = known_after Row x known

    abbrev then_at : List Effect → Moment K V
    then_at fs = with_effects None None fs m

    abbrev v : Moment K V
    v = then_at (effects_of Row known x)

    abbrev Waited : ℕ → TableId → Type 0
    Waited n t = (m.place n ≡ Behind) × IsDeferredTo known w n t

    abbrev WaitsThen : ℕ → TableId → Type 0
    WaitsThen n t = (v.place n ≡ Behind) × IsDeferredTo known2 w2 n t

    table_there : (n : ℕ) (t : TableId) (l : IsDeferredTo known w n t) → (x ≡ changed.Took l.table → ⊥) → IsSome (value_at w2.memory l.table)
    table_there n t l apart =
        let has = subst (λ (r : Role). HasRole w m.stored l.table r) l.is_table (whole.all.shown.blocks.roles l.table) in
        let stays = there_still w.memory w2.memory x tells l2 l.table _ has.1 apart in
        subst (λ (o : Option (Node K V)). IsSome o) (sym stays.1) refl

    lies_then : (n : ℕ) (t : TableId) (l : IsDeferredTo known w n t) → (x ≡ changed.Took l.table → ⊥) → IsDeferredTo known2 w2 n t
    lies_then n t l apart =
        let there = table_there n t l apart in
        let keeps = row_keeps known w2 w x tells l2 in
        record {
          pair = l.pair;
          is_pair = keeps.1 l.pair (pair_there n t l there) (subst IsOfMap (sym l.is_pair) tt) ∙ l.is_pair;
          table = l.table;
          len = l.len;
          is_table = keeps.1 l.table there (subst IsOfMap (sym l.is_table) tt) ∙ l.is_table;
          waits = inl (log_waits l.pair l.table there (by_log n t l));
        }

    all_wait : (fs : List Effect) → effects_of Row known x ≡ fs → (then_at fs).deferred ≡ m.deferred → ((n : ℕ) (t : TableId) → IsDeferredTo known w n t → m.place n ≡ Behind → (then_at fs).place n ≡ Behind)
        → ((n : ℕ) (t : TableId) (l : IsDeferredTo known w n t) → x ≡ changed.Took l.table → ⊥) → EachWaits WaitsThen v.deferred
    all_wait fs they deferred place apart =
        subst (EachWaits WaitsThen) (sym (ap (λ (gs : List Effect). (then_at gs).deferred) they ∙ deferred))
        (each_on Waited WaitsThen (λ n t p. (ap (λ (gs : List Effect). (then_at gs).place n) they ∙ place n t p.1 p.0, lies_then n t p.1 (apart n t p.1))) m.deferred waiting)

    -- a block is taken
    module _ (b : ℕ) (is : x ≡ changed.Took b) where
      are : (r : Role) → known.roles b ≡ r → effects_of Row known x ≡ taken_by Row r
      are r e = ap (effects_of Row known) is ∙ ap (taken_by Row) e

      this_one : (y : ℕ) → x ≡ changed.Took y → y ≡ b
      this_one y e = (let one : changed.Took y ≡ changed.Took b = sym e ∙ is in cc one)

      no_table_taken : (r : Role) → known.roles b ≡ r → ((t : TableId) (len : ℕ) → r ≡ role.Table t len → ⊥) → (n : ℕ) (t : TableId) (l : IsDeferredTo known w n t) → x ≡ changed.Took l.table → ⊥
      no_table_taken r e never n t l took = never t l.len (sym e ∙ ap known.roles (sym (this_one l.table took)) ∙ l.is_table)

      -- not that of a pair that waits, whose table is there still
      took_pair : (k : ℕ) → known.roles b ≡ role.Pair k → (n : ℕ) (t : TableId) (l : IsDeferredTo known w n t) → l.pair ≡ b → ⊥
      took_pair k e n t l same_block =
          let there = pair_there n t l (table_there n t l (no_table_taken (role.Pair k) e (λ u len z. cc z) n t l)) in
          let gone : LeavesBy w.memory w2.memory (changed.Took b) = subst (LeavesBy w.memory w2.memory) is l2 in
          none_some (value_at w2.memory l.pair) there (ap (value_at w2.memory) same_block ∙ gone.1)

      took_a_table : (u : TableId) (len : ℕ) → known.roles b ≡ role.Table u len → EachWaits WaitsThen v.deferred
      took_a_table u len e =
          subst (EachWaits WaitsThen) (sym (ap (λ (gs : List Effect). (then_at gs).deferred) (are (role.Table u len) e)))
          (each_kept (λ n t. Waited n t × Alone n t) WaitsThen (λ d. not (same_table d.behind u)) (λ d other p. kept_one d.pair d.behind other p.0 p.1) m.deferred
          (each_both Waited Alone m.deferred waiting once))
        where
          Alone : ℕ → TableId → Type 0
          Alone n t = (y : TableId) → is_among n (behind y m.deferred) ≡ true → same_table t y ≡ true

          apart : (n : ℕ) (t : TableId) → not (same_table t u) ≡ true → (l : IsDeferredTo known w n t) → x ≡ changed.Took l.table → ⊥
          apart n t other l took =
              let one : role.Table t l.len ≡ role.Table u len = sym l.is_table ∙ ap known.roles (this_one l.table took) ∙ e in
              let t_is : t ≡ u = cc one in
              let none = ap not (ap (λ (y : TableId). same_table y u) t_is ∙ same_itself u) in
              cc (other, none)

          place_kept : (n : ℕ) (t : TableId) → not (same_table t u) ≡ true → Alone n t → m.place n ≡ Behind → all_at IsHanded (behind u m.deferred) m.place n ≡ Behind
          place_kept n t other alone was = by (is_among n (behind u m.deferred)) refl
            where
              by : (q : Bool) → is_among n (behind u m.deferred) ≡ q → (if q then IsHanded else m.place n) ≡ Behind
              by true among = absurd (let none = ap not (alone u among) in cc (other, none))
              by false among = was

          kept_one : (n : ℕ) (t : TableId) → not (same_table t u) ≡ true → Waited n t → Alone n t → WaitsThen n t
          kept_one n t other p alone = (
            ap (λ (gs : List Effect). (then_at gs).place n) (are (role.Table u len) e) ∙ place_kept n t other alone p.0,
            lies_then n t p.1 (apart n t other p.1),
          )

      took : (r : Role) → known.roles b ≡ r → EachWaits WaitsThen v.deferred
      took role.Free e = all_wait (taken_by Row role.Free) (are role.Free e) refl (λ n t l p. p) (no_table_taken role.Free e (λ t len z. cc z))
      took (role.OwnPair j) e = all_wait (taken_by Row (role.OwnPair j)) (are (role.OwnPair j) e) refl (λ n t l p. p) (no_table_taken (role.OwnPair j) e (λ t len z. cc z))
      took (role.OwnTable turn shape) e =
          all_wait (taken_by Row (role.OwnTable turn shape)) (are (role.OwnTable turn shape) e) refl (λ n t l p. p) (no_table_taken (role.OwnTable turn shape) e (λ t len z. cc z))
      took (role.Counter of) e = all_wait (taken_by Row (role.Counter of)) (are (role.Counter of) e) refl (λ n t l p. p) (no_table_taken (role.Counter of) e (λ t len z. cc z))
      took (role.Pair k) e =
          all_wait (taken_by Row (role.Pair k)) (are (role.Pair k) e) refl
          (λ n t l p. put_elsewhere k GivenBack m.place n (λ z. took_pair k e n t l (whole.all.shown.blocks.once l.pair b n l.is_pair (e ∙ ap role.Pair (sym z)))) ∙ p)
          (no_table_taken (role.Pair k) e (λ t len z. cc z))
      took (role.Table u len) e = took_a_table u len e

  nothing_same : (q : Bool) → ((with_effects None None (if q then [] else []) m).deferred ≡ m.deferred) × ((with_effects None None (if q then [] else []) m).place ≡ m.place)
  nothing_same true = (refl, refl)
  nothing_same false = (refl, refl)

  roomed_same : (q : Bool) → ((with_effects None None (if q then [] else Asked ABucket ∷ []) m).deferred ≡ m.deferred) × ((with_effects None None (if q then [] else Asked ABucket ∷ []) m).place ≡ m.place)
  roomed_same true = (refl, refl)
  roomed_same false = (refl, refl)

  -- what waited does so after what one of a row tells
  pub rows_leave_waiting : (x : Changed) → TellsRow x → LeavesBy w.memory w2.memory x → RefinesWaiting (with_effects None None (effects_of Row known x) m) (known_after Row x known) w2
  rows_leave_waiting changed.Nothing is l = all_wait changed.Nothing is l [] refl refl (λ n t b p. p) (λ n t b e. cc e)
  rows_leave_waiting (changed.Wrote (Slot t field) was now) is l = all_wait (changed.Wrote (Slot t field) was now) is l [] refl refl (λ n u b p. p) (λ n u b e. cc e)
  rows_leave_waiting (changed.Wrote (Entry c field) was now) is l =
      let alike = nothing_same (names_same was now) in
      all_wait (changed.Wrote (Entry c field) was now) is l (if names_same was now then [] else []) refl alike.0 (λ n t b p. ap (λ (g : ℕ → Place). g n) alike.1 ∙ p) (λ n t b e. cc e)
  rows_leave_waiting (changed.Wrote (Root r) was now) is l = absurd is
  rows_leave_waiting (changed.Wrote (Used r) was now) is l = absurd is
  rows_leave_waiting (changed.Wrote (Word b field) was now) is l = absurd is
  rows_leave_waiting (changed.Made kind b) is l = absurd is
  rows_leave_waiting (changed.Unmade kind) is l = absurd is
  rows_leave_waiting (changed.Took b) is l = took (changed.Took b) is l b refl (known.roles b) refl
  rows_leave_waiting (changed.Roomed bucket had) is l =
      let alike = roomed_same (had && nat_lt bucket known.buckets) in
      all_wait (changed.Roomed bucket had) is l (effects_of Row known (changed.Roomed bucket had)) refl alike.0 (λ n t b p. ap (λ (g : ℕ → Place). g n) alike.1 ∙ p) (λ n t b e. cc e)
