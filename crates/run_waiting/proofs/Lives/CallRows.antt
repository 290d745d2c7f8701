-- A step of a row within a call leaves what waits behind tables there: it takes nothing away, what it retires did not wait, and a pair that it puts behind a table waits there.
use Rattle.std.specs.Prelude.{◌≡◌, ◌⊎◌, ℕ, zero, suc, ◌+◌, ◌==◌, Bool, true, false, List, [], ◌∷◌, length, Option, Some, if◌then◌else◌}
use Rattle.std.proofs.Common.{refl, ap, sym, subst, ◌∙◌, inl, inr, arith}
use Rattle.std.proofs.lemmas.Bool.{cases_eq, eq-eqb, ne_eqb}
use Rattle.run_debts.specs.Given.SeizeWordsMem.{Mem, value_at}
use Rattle.run_debts.specs.Given.SeizeWordsWord.{block_in, link_to}
use Rattle.run_debts.specs.Given.SeizeWordsDeclared.at.At.{At}
use Rattle.run_debts.specs.Given.SeizeWordsDeclared.at.At.TheVariants.{Word}
use Rattle.run_debts.specs.Given.SeizeDefer.{deferring}
use Rattle.run_debts.specs.Given.SeizeFurther.{IsWordOf}
use Rattle.run_debts.specs.Given.SeizeSettle.{retiring}
use Rattle.run_debts.specs.Given.SeizeSequence.{taken_in}
use Rattle.run_debts.specs.Given.SeizeDeclared.advance.Advance.{Advance as Deferring}
use Rattle.run_debts.specs.Given.SeizeDeclared.advance.Advance.TheVariants as progress
use Rattle.run_debts.specs.Given.SeizeDeclared.rows.defer.Defer.{Defer}
use Rattle.run_debts.specs.Given.SeizeDeclared.rows.settle.Settle.{Settle}
use Rattle.run_debts.specs.Given.SeizeDeclared.rows.settle.Settled.{Settled}
use Rattle.run_debts.specs.Given.SeizeDeclared.rows.settle.Settled.TheVariants as settled
use Rattle.run_debts.specs.Given.SeizeDeclared.rows.settle.Settling.{Settling}
use Rattle.run_debts.specs.Given.SeizeDeclared.rows.settle.Settling.TheVariants as at_point
use Rattle.run_debts.specs.Given.SeizeDeclared.states.TheConstants.{LAST_SLOT}
use Rattle.run_debts.specs.Given.SeizeWorld.{World, Row, Rests, Registers, Enters, Settles, Leaves, Defers, Frees, Hand, NoBlock, Making, InUse, Parting, Cutting, Handed, LeftTo, MayCut, Request, Register', Enter', Leave', LeaveOwned, Refresh, Unregister', Retire, Flush, Defer', Begin, Begins, Steps', settles_on, defers_on, with_at, times}
use Rattle.run_debts.proofs.Given.SeizeMovesState.Ghost.{Life, IsDeferring, IsDeferred, IsPending, State}
use Rattle.run_debts.proofs.Given.SeizeMovesSets.Unmoved.{is_in_wait}
use Rattle.run_debts.proofs.Given.SeizeRulePoints.Aside.{HandFits}
use Rattle.run_debts.proofs.Given.SeizeRulePoints.Known.{FitsAt, FirstsOf, bare}
use Rattle.run_debts.proofs.Given.SeizeRuleRows.Effects.{hand_kept}
use Rattle.run_debts.proofs.Given.SeizeRuleRows.Known.{FitsRow}
use Rattle.run_debts.proofs.Given.SeizeMemoryWords.Chains.{Chain}
use Rattle.run_debts.proofs.Given.SeizeMemoryWords.Shows.{Extra, Shows, lives}
use Rattle.run_debts.proofs.Given.SeizeMemoryWords.There.{live_pos}
use Rattle.run_debts.proofs.Given.SeizeMemoryWords.View.{View, view}
use Rattle.run_debts.proofs.Given.SeizeAloneHistories.NotTaken.{did, taken_gone}
use Rattle.run_debts.proofs.Given.SeizeAloneHistories.Reached.{Reached, happens_reached}
use Rattle.run_debts.specs.Given.TablesNodes.{deferred_word}
use Rattle.run_debts.specs.Given.TablesDeclared.node.Node.{Node}
use Rattle.run_debts.specs.Given.RawDeclared.machines.progress.Progress.{Progress as CallTold}
use Rattle.run_debts.specs.Given.RunsDeclared.effect.Effect.{Effect}
use Rattle.run_debts.specs.Given.RunsDeclared.effect.Effect.TheVariants.{Retired, Deferred}
use Rattle.run_debts.specs.Given.RunsDeclared.effect.TableId.{TableId}
use Rattle.run_debts.specs.Given.RunsDeclared.effect.Thing.TheVariants.{APair}
use Rattle.run_debts.specs.Given.SchedulesEffects.{with_effects}
use Rattle.run_debts.specs.Given.SchedulesLists.{is_among, put}
use Rattle.run_debts.specs.Given.SchedulesMoment.{Place, Behind, Deferral, Handed as IsHanded, Moment}
use Rattle.run_debts.specs.Given.SchedulesThings.{same_table}
use Rattle.run_debts.specs.Given.SchedulesViews.{behind}
use Rattle.run_debts.proofs.Given.RuleWorld.Hands.{at_cases}
use Rattle.run_debts.specs.Given.CallersSights.{seen_by}
use Rattle.run_debts.specs.Given.CallersTogether.{UnderWay, OnKey, ForRoom, Counting, OverAll, Together, CameAbout, HandsOver, IsOneStep}
use Rattle.run_debts.proofs.Given.CallersTogether.Came.{came_reached}
use Rattle.run_debts.specs.Given.EffectsEffects.{carried, named, effects_of, known_after}
use Rattle.run_debts.specs.Given.EffectsKnown.{Known}
use Rattle.run_debts.specs.Given.EffectsDeclared.acting.Acting.TheVariants.{Call}
use Rattle.run_debts.specs.Given.EffectsDeclared.role.Role.{Role}
use Rattle.run_debts.specs.Given.EffectsDeclared.role.Role.TheVariants as role
use Rattle.run_debts.specs.Given.FinishesMachines.{machine_of}
use Rattle.run_debts.specs.Given.FollowsBlocks.{HasRole}
use Rattle.run_debts.proofs.Given.FollowsAlike.{AllCalm, put_here, put_elsewhere}
use Rattle.run_debts.proofs.Given.FollowsOnward.{IsLasting}
use Rattle.run_debts.proofs.Given.FollowsRowSteps.{row_step_shown}
use Rattle.run_debts.proofs.Given.FollowsSteps.{WentTo, went_to, made_so, DidSo, OfNoRow}
use Rattle.run_debts.specs.Given.HandsRows.{ReclaimsNone}
use Rattle.run_debts.proofs.Given.HandsRowSteps.{rows_hand_theirs}
use Rattle.run_debts.proofs.Given.SpotsSteps.{stayed_calm}
use Rattle.run_debts.proofs.Given.SpotsUnreclaimed.{table_is, same_itself}
use Rattle.run_debts.specs.Given.MomentsWhole.{RefinesWhole}
use Rattle.run_debts.specs.Due.{ToRetire, ToPut, due_in_settle, due_in_row, retired_effects, RowTells, TellsNone, TellsRetired, TellsDeferred, OwnAreMade}
use Rattle.run_debts.specs.Entries.{EntriesAreBlank}
use Rattle.run_debts.proofs.DueCalls.{rows_tell_due}
use Rattle.run_waiting.specs.Lives.Behind.{IsLeft, IsDeferredTo, EachWaits, RefinesWaiting, WaitsOnce}
use Rattle.run_waiting.specs.Lives.Retired.{IsPendingRetirement, IsToRetire}
use Rattle.run_waiting.specs.Lives.Waiting.{IsPutting, waits_behind}
use Rattle.run_waiting.proofs.Lives.Each.{WaitsAt, each_on, found}
use Rattle.run_waiting.proofs.Lives.Lives.{WaitsIn, OnWay, OnList, TakenOver, in_wait}
use Rattle.run_waiting.proofs.Lives.Logs.{waits_on}
use Rattle.run_waiting.proofs.Lives.Once.{once_more}
use Rattle.run_waiting.proofs.Lives.Puts.{to_put, is_putting}
use Rattle.run_waiting.proofs.Lives.RetiredCalls.{to_retire}
use Rattle.run_waiting.proofs.Lives.Retires.{row_life}
use Rattle.run_waiting.proofs.Lives.Users.{cut_left, left_lives}
use Rattle.run_waiting.proofs.Lives.Worlds.{Kept, runs_kept, start_kept, has_it}
use Rattle.run_debts.specs.Given.ScenesHeld.{Held, IsAt}
use Rattle.run_debts.specs.Given.ScenesScene.{Scene, slot_of}
use Rattle.run_debts.specs.Given.ScenesStepping.{StepLeads}

-- a row that has a block to retire, and reclaims nothing, has none to take
module _ (n i : ℕ) (f : View) (m : State) (x : Extra) (shows : Shows n f m x) where
  none_to_take : x.lefts i ≡ 0 → m.left i ≡ []
  none_to_take zero_left = by (m.left i) (subst (λ (k : ℕ). Chain 0 f.nexts k (m.left i)) zero_left (shows.lists.lefted i))
    where
      by : (l : List ℕ) → Chain 0 f.nexts 0 l → l ≡ []
      by [] h = refl
      by (c ∷ l) h = absurd (let some = h.0 in let names = h.1 in omega (arith, some, names))

  due_takes_none : (b : ℕ) (c : Settle) (p : Settling) → c.reclaiming ≡ 0 → FitsAt n i f m x (bare c) p → IsPendingRetirement b (due_in_settle c p) → m.left i ≡ []
  due_takes_none b c at_point.Sees idle fits due = none_to_take (fits.retiring.rest.common.lefts ∙ idle)
  due_takes_none b c at_point.Holds idle fits due = none_to_take (fits.retiring.rest.common.lefts ∙ idle)
  due_takes_none b c at_point.Pops idle fits due = none_to_take (fits.retiring.rest.common.lefts ∙ idle)
  due_takes_none b c (at_point.Firsts block) idle fits due = by (block == 0) fits
    where
      by : (q : Bool) → FirstsOf q n i m x (bare c) block → m.left i ≡ []
      by true its = none_to_take (its.retiring.rest.common.lefts ∙ idle)
      by false its = none_to_take (its.putting.common.lefts ∙ idle)
  due_takes_none b c (at_point.Batches block) idle fits due = none_to_take (fits.putting.common.lefts ∙ idle)
  due_takes_none b c _ idle fits due = absurd due

  pub row_takes_none : (b k : ℕ) (row : Row) → ReclaimsNone row → FitsRow n i f m x k row → IsToRetire b row → m.left i ≡ []
  row_takes_none b k (Settles c) aside fits due = due_takes_none b c c.stands aside.0 fits due
  row_takes_none b k Rests aside fits due = absurd due
  row_takes_none b k (Registers c) aside fits due = absurd due
  row_takes_none b k (Enters c) aside fits due = absurd due
  row_takes_none b k (Leaves c) aside fits due = absurd due
  row_takes_none b k (Defers s c) aside fits due = absurd due
  row_takes_none b k (Frees c) aside fits due = absurd due

-- what waits is there, and what is left over is pending with no row
wait_lives : (l : Life) → is_in_wait l ≡ true → lives l ≡ true
wait_lives (IsDeferring i s t) waits = refl
wait_lives (IsDeferred t) waits = refl
wait_lives (IsPending i) waits = refl
wait_lives _ waits = absurd (cc waits)

left_pending : (h : Hand) (l : Life) (i : ℕ) → IsLeft h → HandFits h l → l ≡ IsPending i → ⊥
left_pending NoBlock l i left fits is = left
left_pending (Making j) l i left fits is = left
left_pending (InUse o) l i left fits is = left
left_pending (Parting j) l i left fits is = left
left_pending (Cutting j) l i left fits is = left
left_pending Handed l i left fits is = left
left_pending (LeftTo j) l i left fits is = cc (fits, is)

-- the first step of a row that hands something over only looks
module _ {T : Type 0} (defers : T → Option ℕ) (size i : ℕ) (w v w3 : World T) where
  here : (row : Row) → with_at w.row i row i ≡ row
  here row = ap (λ (q : Bool). if q then row else w.row i) (eq-eqb i i refl)

  settles_memory : (c : Settle) (m2 : Mem T) (end : Settle × Settled T) → (settles_on v i c m2 end).memory ≡ m2
  settles_memory c m2 (d, settled.Goes) = refl
  settles_memory c m2 (d, settled.Waits) = refl
  settles_memory c m2 (d, settled.Gave value) = refl
  settles_memory c m2 (d, settled.Done) = refl

  defers_memory : (s : ℕ) (m2 : Mem T) (end : Defer × Deferring Unit) → (defers_on v i s m2 end).memory ≡ m2
  defers_memory s m2 (d, progress.Goes) = refl
  defers_memory s m2 (d, progress.Waits) = refl
  defers_memory s m2 (d, progress.Done x) = refl
  defers_memory s m2 (d, progress.Refused fault) = refl

  pub retire_looks : (s b : ℕ) → Begins defers size i (Retire s b) w v → Steps' defers i (v.row i) v w3 → w3.memory ≡ w.memory
  retire_looks s b h step = by (subst (λ (r : Row). Steps' defers i r v w3) (ap (λ (z : World T). z.row i) h.2 ∙ here (Settles (retiring s size (link_to b)))) step)
    where
      by : Steps' defers i (Settles (retiring s size (link_to b))) v w3 → w3.memory ≡ w.memory
      by (m2, end, (out, took, ends), is) =
          ap (λ (z : World T). z.memory) is ∙ settles_memory (retiring s size (link_to b)) m2 end ∙ took.1 ∙ ap (λ (z : World T). z.memory) h.2

  pub defer_looks : (s b t : ℕ) → Begins defers size i (Defer' s b t) w v → Steps' defers i (v.row i) v w3 → w3.memory ≡ w.memory
  defer_looks s b t h step = by (subst (λ (r : Row). Steps' defers i r v w3) (ap (λ (z : World T). z.row i) h.7 ∙ here (Defers s (deferring (link_to b) (Word t h.0)))) step)
    where
      by : Steps' defers i (Defers s (deferring (link_to b) (Word t h.0))) v w3 → w3.memory ≡ w.memory
      by (m2, end, (out, took, ends), is) = ap (λ (z : World T). z.memory) is ∙ defers_memory s m2 end ∙ took.1 ∙ ap (λ (z : World T). z.memory) h.7

module _ {K V : Type 0} (same : K → K → Bool) (hash : ℕ → K → ℕ) (name : ℕ → List ℕ) (m : Moment K V) (known : Known) (s : Scene K V) (old new : Held K V) (at : IsAt same hash old s)
    (whole : RefinesWhole same name m known s) (entries : EntriesAreBlank s) (owning : OwnAreMade known s.world) (waiting : RefinesWaiting m known s.world) (map i : ℕ) (u : UnderWay K V K)
    (here_is : s.calls map i ≡ Some u) (said : CallTold (Node K V)) (leads : StepLeads same hash i said s old new)
    (other : OfNoRow same hash name m known s old new at whole.all.shown map i u here_is said leads u (leads map u here_is).4.did → ⊥) where
  abbrev to : WentTo same hash name m known s old new at whole.all.shown map i u here_is said leads
  to = went_to same hash name m known s old new at whole.all.shown map i u here_is said leads

  abbrev w : World (Node K V)
  w = s.world

  abbrev effects : List Effect
  effects = effects_of (Call i map) known new.changed

  abbrev v : Moment K V
  v = with_effects (Some (name i)) (Some map) effects m

  abbrev known2 : Known
  known2 = known_after (Call i map) new.changed known

  abbrev size : ℕ
  size = to.0.setting.batch_size

  abbrev each : Together V same to.0.hash same to.0.setting slot_of w to.0.chart to.0.blocks to.0.sights (s.calls map)
  each = at.together.makings.standing.each map to.0 to.2

  reached : Reached deferred_word size w
  reached = came_reached size w each.ground.came

  kept : Kept deferred_word size w
  kept = (let came : CameAbout size w = each.ground.came in runs_kept deferred_word size came.1 _ w (start_kept deferred_word size came.0) came.2)

  tells : RowTells i map known effects (due_in_row (machine_of u)) (due_in_row to.1)
  tells = rows_tell_due K V same hash name m known s old new at whole.all.shown whole.all.rows entries owning map i u here_is said leads other

  pub role_kept : (b : ℕ) (r : Role) → known.roles b ≡ r → IsLasting r → known2.roles b ≡ r
  role_kept b r e its =
      let theirs = rows_hand_theirs K V same hash name m known s old new at whole.all map i u here_is said leads other in
      (row_step_shown same hash name m known s old new at whole.all.shown map i u here_is said leads other theirs.1 theirs.0).keeps b (subst IsLasting (sym e) its) ∙ e

  -- blocks of pairs and tables are there after it
  pair_after : (b n : ℕ) → known.roles b ≡ role.Pair n → (value : Node K V) × (value_at to.4.w2.memory b ≡ Some value)
  pair_after b n e =
      let theirs = rows_hand_theirs K V same hash name m known s old new at whole.all map i u here_is said leads other in
      (let has = subst (HasRole to.4.w2 v.stored b) (role_kept b (role.Pair n) e tt) (theirs.2.shown.blocks.roles b) in (_, has.3))

  table_after : (b len : ℕ) (t : TableId) → known.roles b ≡ role.Table t len → (value : Node K V) × (value_at to.4.w2.memory b ≡ Some value)
  table_after b len t e =
      let theirs = rows_hand_theirs K V same hash name m known s old new at whole.all map i u here_is said leads other in
      (let has = subst (HasRole to.4.w2 v.stored b) (role_kept b (role.Table t len) e tt) (theirs.2.shown.blocks.roles b) in (_, has.1))

  abbrev Waits : World (Node K V) → ℕ → ℕ → Type 0
  Waits x p t = (waits_behind p x.log ≡ Some t) ⊎ (IsLeft (x.hand p) × IsLeft (x.hand t))

  module _ (w3 : World (Node K V)) (is : to.4.w2 ≡ w3) where
    step_on : (x : World (Node K V)) (r : Reached deferred_word size x) → Steps' deferred_word i (x.row i) x w3 → (p t : ℕ) → ((value : Node K V) × (value_at to.4.w2.memory p ≡ Some value))
        → ((value : Node K V) × (value_at to.4.w2.memory t ≡ Some value)) → Waits x p t → Waits w3 p t
    step_on x r step p t pair table waits = by waits
      where
        none : (b : ℕ) → ((value : Node K V) × (value_at to.4.w2.memory b ≡ Some value)) → times b (taken_in (did deferred_word size x r i w3 step).effects) ≡ 0
        none b there = count (times b (taken_in (did deferred_word size x r i w3 step).effects)) refl
          where
            count : (n : ℕ) → times b (taken_in (did deferred_word size x r i w3 step).effects) ≡ n → times b (taken_in (did deferred_word size x r i w3 step).effects) ≡ 0
            count zero e = e
            count (suc n) e =
                absurd (let gone = taken_gone deferred_word size x r i w3 step b (λ z. omega (arith, e, z)) in
                let still = sym (ap (λ (z : World (Node K V)). value_at z.memory b) is) ∙ there.1 in cc (gone, still))

        hand_same : (b : ℕ) → times b (taken_in (did deferred_word size x r i w3 step).effects) ≡ 0 → w3.hand b ≡ x.hand b
        hand_same b zero_times = (let it = did deferred_word size x r i w3 step in ap (λ (h : ℕ → Hand). h b) it.hands ∙ hand_kept b it.effects x.hand zero_times it.one)

        by : Waits x p t → Waits w3 p t
        by (inl so) = (let it = did deferred_word size x r i w3 step in inl (ap (waits_behind p) it.logged ∙ waits_on p t it.effects x.log it.one so (none t table)))
        by (inr both) = inr (subst IsLeft (sym (hand_same p (none p pair))) both.0, subst IsLeft (sym (hand_same t (none t table))) both.1)

    left_begun : (begun : World (Node K V)) (c x : ℕ) → ((b : ℕ) → begun.hand b ≡ with_at w.hand c Handed b) → (IsLeft (w.hand c) → ⊥) → IsLeft (w.hand x) → IsLeft (begun.hand x)
    left_begun begun c x hands clash its =
        subst IsLeft (sym (hands x)) (at_cases IsLeft w.hand c Handed x (λ e. absurd (clash (subst (λ (k : ℕ). IsLeft (w.hand k)) e its))) (λ ne. its))

    begin_on : (request : Request) (begun : World (Node K V)) → HandsOver to.0.setting i w request → Begins deferred_word size i request w begun → (p t : ℕ) → Waits w p t → Waits begun p t
    begin_on (Retire slot c) begun over h p t (inl so) = inl (ap (λ (z : World (Node K V)). waits_behind p z.log) h.2 ∙ so)
    begin_on (Retire slot c) begun over h p t (inr both) =
        let hands = λ (b : ℕ). ap (λ (z : World (Node K V)). z.hand b) h.2 in
        let clash : IsLeft (w.hand c) → ⊥ = λ its. subst IsLeft h.1.1 its in
        inr (left_begun begun c p hands clash both.0, left_begun begun c t hands clash both.1)
    begin_on (Defer' slot c d) begun over h p t (inl so) =
        inl (ap (λ (z : World (Node K V)). waits_behind p z.log) h.7
        ∙ ap (λ (q : Bool). if q then Some d else waits_behind p w.log) (ne_eqb p c (λ e. subst (MayCut i) (ap w.hand (sym e) ∙ has_it deferred_word size w kept p t so) h.2)) ∙ so)
    begin_on (Defer' slot c d) begun over h p t (inr both) =
        let hands = λ (b : ℕ). ap (λ (z : World (Node K V)). z.hand b) h.7 in
        inr (left_begun begun c p hands (cut_left i (w.hand c) h.2) both.0, left_begun begun c t hands (cut_left i (w.hand c) h.2) both.1)
    begin_on (Register' enters) begun over h p t waits = absurd over
    begin_on (Enter' slot) begun over h p t waits = absurd over
    begin_on (Leave' slot) begun over h p t waits = absurd over
    begin_on (LeaveOwned slot) begun over h p t waits = absurd over
    begin_on (Refresh slot) begun over h p t waits = absurd over
    begin_on (Unregister' slot) begun over h p t waits = absurd over
    begin_on (Flush slot) begun over h p t waits = absurd over

    one_on : IsOneStep to.0.setting i w w3 → (p t : ℕ) → ((value : Node K V) × (value_at to.4.w2.memory p ≡ Some value)) → ((value : Node K V) × (value_at to.4.w2.memory t ≡ Some value)) → Waits w p t → Waits w3 p t
    one_on (inl step) p t pair table waits = step_on w reached step p t pair table waits
    one_on (inr (request, begun, over, begin, step)) p t pair table waits =
        step_on begun (happens_reached deferred_word size (Begin i request) w begun reached begin) step p t pair table (begin_on request begun over begin.1 p t waits)

    lies_on : IsOneStep to.0.setting i w w3 → (n : ℕ) (t : TableId) → IsDeferredTo known w n t → IsDeferredTo known2 to.4.w2 n t
    lies_on step n t l = record {
      pair = l.pair;
      is_pair = role_kept l.pair (role.Pair n) l.is_pair tt;
      table = l.table;
      len = l.len;
      is_table = role_kept l.table (role.Table t l.len) l.is_table tt;
      waits = subst (λ (z : World (Node K V)). Waits z l.pair l.table) (sym is) (one_on step l.pair l.table (pair_after l.pair n l.is_pair) (table_after l.table l.len t l.is_table) l.waits);
    }

    -- it only looked, as it began
    pub looked : (request : Request) (begun : World (Node K V)) → HandsOver to.0.setting i w request → Begins deferred_word size i request w begun → Steps' deferred_word i (begun.row i) begun w3 → w3.memory ≡ w.memory
    looked (Retire slot c) begun over h step = retire_looks deferred_word size i w begun w3 slot c h step
    looked (Defer' slot c d) begun over h step = defer_looks deferred_word size i w begun w3 slot c d h step
    looked (Register' enters) begun over h step = absurd over
    looked (Enter' slot) begun over h step = absurd over
    looked (Leave' slot) begun over h step = absurd over
    looked (LeaveOwned slot) begun over h step = absurd over
    looked (Refresh slot) begun over h step = absurd over
    looked (Unregister' slot) begun over h step = absurd over
    looked (Flush slot) begun over h step = absurd over

    -- what it retires did not wait
    not_waiting : w3.memory ≡ new.memory → IsOneStep to.0.setting i w w3 → (n k : ℕ) (t : TableId) (l : IsDeferredTo known w n t) → IsPendingRetirement l.pair (due_in_row (machine_of u)) → effects ≡ Retired (APair k) ∷ [] → ⊥
    not_waiting memory (inr (request, begun, over, begin, step)) n k t l due alone =
        (let calm = (stayed_calm same hash m known s old new at name whole.all.shown map i to.0 to.2 (name i) (made_so same hash name m known s old new at whole.all.shown map i u here_is said leads)
        (sym memory ∙ looked request begun over begin.1 step)).calm in
        let one = (subst AllCalm alone calm).0 in cc one)
    not_waiting memory (inl step) n k t l due alone = by l.waits
      where
        on : w.row i ≡ Rests → ⊥
        on rests = subst (λ (r : Row). Steps' deferred_word i r w w3) rests step

        its : IsToRetire l.pair (w.row i)
        its = to_retire same to.0.hash to.0.setting w to.0.chart (seen_by to.0.blocks (to.0.sights (slot_of i))) i l.pair u (each.stand i u here_is) on due

        pending : lives (kept.good.state.life l.pair) ≡ true → kept.good.state.life l.pair ≡ IsPending i
        pending alive =
            row_life (LAST_SLOT + 1) i (view deferred_word w.memory) kept.good.state kept.good.extra kept.good.inv kept.good.shows l.pair
            (live_pos w.memory l.pair (kept.good.shows.lists.lived l.pair ∙ alive)) (length w.memory.slots) (w.row i) (kept.good.rows i) its

        none_left : kept.good.state.left i ≡ []
        none_left = row_takes_none (LAST_SLOT + 1) i (view deferred_word w.memory) kept.good.state kept.good.extra kept.good.shows l.pair (length w.memory.slots) (w.row i) (whole.all.rows.none map i u here_is) (kept.good.rows i) its

        waits_not : WaitsIn kept.good.state l.pair l.table → kept.good.state.life l.pair ≡ IsPending i → ⊥
        waits_not (OnWay j slot e) p = cc (e, p)
        waits_not (OnList e) p = cc (e, p)
        waits_not (TakenOver j bs e first) p =
            (let alike : IsPending j ≡ IsPending i = sym e ∙ p in let one : j ≡ i = cc alike in
            let both : l.table ∷ bs ≡ [] = sym first ∙ ap kept.good.state.left one ∙ none_left in cc both)

        by : (waits_behind l.pair w.log ≡ Some l.table) ⊎ (IsLeft (w.hand l.pair) × IsLeft (w.hand l.table)) → ⊥
        by (inl so) =
            let was = kept.waits l.pair l.table so in
            waits_not was (pending (wait_lives (kept.good.state.life l.pair) (in_wait kept.good.state l.pair l.table was)))
        by (inr both) = left_pending (w.hand l.pair) (kept.good.state.life l.pair) i both.0 (kept.good.hands l.pair) (pending (left_lives (w.hand l.pair) (kept.good.state.life l.pair) both.0 (kept.good.hands l.pair)))

    -- so it is at its place still
    place_on : w3.memory ≡ new.memory → IsOneStep to.0.setting i w w3 → (n : ℕ) (t : TableId) → IsDeferredTo known w n t → m.place n ≡ Behind → v.place n ≡ Behind
    place_on memory step n t l was = by tells
      where
        then_at : List Effect → Place
        then_at fs = (with_effects (Some (name i)) (Some map) fs m).place n

        retired : (word : ℕ) (r : Role) → known.roles (block_in word) ≡ r → due_in_row (machine_of u) ≡ Some (ToRetire word) → effects ≡ retired_effects r → then_at (retired_effects r) ≡ Behind
        retired word (role.Pair k) e due are =
            put_elsewhere k IsHanded m.place n (λ same_number.
            let names = whole.all.shown.blocks.once (block_in word) l.pair n (e ∙ ap role.Pair (sym same_number)) l.is_pair in
            not_waiting memory step n k t l (subst (IsPendingRetirement l.pair) (sym due) names) are) ∙ was
        retired word (role.Table x len) e due are = was
        retired word role.Free e due are = was
        retired word (role.OwnPair j) e due are = was
        retired word (role.OwnTable turn shape) e due are = was
        retired word (role.Counter of) e due are = was

        put_behind : (x : TableId) (r : Role) → then_at (carried x r) ≡ Behind
        put_behind x (role.Pair k) = elim (cases_eq n k) as (λ _. put k Behind m.place n ≡ Behind) [
          | inl e ↦ put_here k Behind m.place n e
          | inr ne ↦ put_elsewhere k Behind m.place n ne ∙ was
        ]
        put_behind x role.Free = was
        put_behind x (role.OwnPair j) = was
        put_behind x (role.OwnTable turn shape) = was
        put_behind x (role.Table y len) = was
        put_behind x (role.Counter of) = was

        by : RowTells i map known effects (due_in_row (machine_of u)) (due_in_row to.1) → then_at effects ≡ Behind
        by (TellsNone none alike) = ap then_at none ∙ was
        by (TellsRetired word due gone are) = ap then_at are ∙ retired word (known.roles (block_in word)) refl due are
        by (TellsDeferred word block place x len due its gone noted are) = ap then_at are ∙ put_behind x (named known word)

    abbrev Waited : ℕ → TableId → Type 0
    Waited n t = (m.place n ≡ Behind) × IsDeferredTo known w n t

    -- what waited does so still
    abbrev WaitsThen : ℕ → TableId → Type 0
    WaitsThen n t = (v.place n ≡ Behind) × IsDeferredTo known2 to.4.w2 n t

    on_still : w3.memory ≡ new.memory → IsOneStep to.0.setting i w w3 → EachWaits WaitsThen m.deferred
    on_still memory step = each_on Waited WaitsThen (λ n t p. (place_on memory step n t p.1 p.0, lies_on step n t p.1)) m.deferred waiting

    -- the row is under way if it puts a pair behind a table
    pub under_way : w3.memory ≡ new.memory → IsOneStep to.0.setting i w w3 → (k : ℕ) (t : TableId) → effects ≡ Deferred k t ∷ [] → w.row i ≡ Rests → ⊥
    under_way memory (inr (request, begun, over, begin, step)) k t alone rests =
        (let calm = (stayed_calm same hash m known s old new at name whole.all.shown map i to.0 to.2 (name i) (made_so same hash name m known s old new at whole.all.shown map i u here_is said leads)
        (sym memory ∙ looked request begun over begin.1 step)).calm in
        let one = (subst AllCalm alone calm).0 in cc one)
    under_way memory (inl step) k t alone rests = subst (λ (r : Row). Steps' deferred_word i r w w3) rests step

    -- and it is putting its block there,
    pub puts_it : w3.memory ≡ new.memory → IsOneStep to.0.setting i w w3 → (word block : ℕ) (place : At) (k : ℕ) (t : TableId) → due_in_row (machine_of u) ≡ Some (ToPut word place) → IsWordOf block place
        → effects ≡ Deferred k t ∷ [] → IsPutting (block_in word) block (w.row i)
    puts_it memory step word block place k t due its alone =
        let row = to_put same to.0.hash to.0.setting w to.0.chart (seen_by to.0.blocks (to.0.sights (slot_of i))) i word place u (each.stand i u here_is) (under_way memory step k t alone) due in
        is_putting (LAST_SLOT + 1) i (view deferred_word w.memory) kept.good.state kept.good.extra word block place its (length w.memory.slots) (w.row i) (kept.good.rows i) row

    -- which waits there by the log,
    waits_put : w3.memory ≡ new.memory → IsOneStep to.0.setting i w w3 → (word block : ℕ) (place : At) (k : ℕ) (t : TableId) → due_in_row (machine_of u) ≡ Some (ToPut word place) → IsWordOf block place
        → effects ≡ Deferred k t ∷ [] → waits_behind (block_in word) w.log ≡ Some block
    waits_put memory step word block place k t due its alone = kept.putting i (block_in word) block (puts_it memory step word block place k t due its alone)

    -- behind no other one
    put_once : w3.memory ≡ new.memory → IsOneStep to.0.setting i w w3 → (word block : ℕ) (place : At) (k len : ℕ) (t : TableId) → due_in_row (machine_of u) ≡ Some (ToPut word place) → IsWordOf block place
        → known.roles block ≡ role.Table t len → named known word ≡ role.Pair k → effects ≡ Deferred k t ∷ [] → (x : TableId) → is_among k (behind x m.deferred) ≡ true → same_table t x ≡ true
    put_once memory step word block place k len t due its is_table is_pair alone x among = by b.waits
      where
        a : WaitsAt Waited k x
        a = found Waited k x m.deferred waiting among

        b : IsDeferredTo known w k x
        b = subst (IsDeferredTo known w k) (table_is a.one.behind x a.its) (subst (λ (n : ℕ). IsDeferredTo known w n a.one.behind) a.number a.so.1)

        puts : waits_behind (block_in word) w.log ≡ Some block
        puts = waits_put memory step word block place k t due its alone

        same_pair : b.pair ≡ block_in word
        same_pair = whole.all.shown.blocks.once b.pair (block_in word) k b.is_pair is_pair

        by : (waits_behind b.pair w.log ≡ Some b.table) ⊎ (IsLeft (w.hand b.pair) × IsLeft (w.hand b.table)) → same_table t x ≡ true
        by (inl waits) =
            let one : ◌≡◌ {A = Option ℕ} (Some b.table) (Some block) = sym waits ∙ ap (λ (n : ℕ). waits_behind n w.log) same_pair ∙ puts in
            let alike : b.table ≡ block = cc one in
            let both : role.Table x b.len ≡ role.Table t len = sym b.is_table ∙ ap known.roles alike ∙ is_table in
            let tables : x ≡ t = cc both in
            ap (same_table t) tables ∙ same_itself t
        by (inr both) = absurd (subst IsLeft (ap w.hand same_pair ∙ has_it deferred_word size w kept (block_in word) block puts) both.0)

    -- and lies behind it
    lies_new : w3.memory ≡ new.memory → IsOneStep to.0.setting i w w3 → (word block : ℕ) (place : At) (k len : ℕ) (t : TableId) → due_in_row (machine_of u) ≡ Some (ToPut word place) → IsWordOf block place
        → known.roles block ≡ role.Table t len → named known word ≡ role.Pair k → effects ≡ Deferred k t ∷ [] → IsDeferredTo known2 to.4.w2 k t
    lies_new memory step word block place k len t due its is_table is_pair alone = lies_on step k t (record {
      pair = block_in word;
      is_pair = is_pair;
      table = block;
      len = len;
      is_table = is_table;
      waits = inl (waits_put memory step word block place k t due its alone);
    })

    abbrev pub deferred_then : List Effect → List Deferral
    deferred_then fs = (with_effects (Some (name i)) (Some map) fs m).deferred

    pub retired_list : (r : Role) → deferred_then (retired_effects r) ≡ m.deferred
    retired_list (role.Pair k) = refl
    retired_list (role.Table t len) = refl
    retired_list role.Free = refl
    retired_list (role.OwnPair k) = refl
    retired_list (role.OwnTable turn shape) = refl
    retired_list (role.Counter of) = refl

    waiting_on : w3.memory ≡ new.memory → IsOneStep to.0.setting i w w3 → RefinesWaiting v known2 to.4.w2
    waiting_on memory step = by tells
      where
        still : v.deferred ≡ m.deferred → RefinesWaiting v known2 to.4.w2
        still same_list = subst (EachWaits WaitsThen) (sym same_list) (on_still memory step)

        put_on : (word block : ℕ) (place : At) (t : TableId) (len : ℕ) (r : Role) → named known word ≡ r → due_in_row (machine_of u) ≡ Some (ToPut word place) → IsWordOf block place
            → known.roles block ≡ role.Table t len → effects ≡ carried t r → RefinesWaiting v known2 to.4.w2
        put_on word block place t len (role.Pair k) is due its table are =
            subst (EachWaits WaitsThen) (sym (ap deferred_then are)) (
              (ap (λ (fs : List Effect). (with_effects (Some (name i)) (Some map) fs m).place k) are ∙ put_here k Behind m.place k refl, lies_new memory step word block place k len t due its table is are),
              on_still memory step,
            )
        put_on word block place t len role.Free is due its table are = still (ap deferred_then are)
        put_on word block place t len (role.OwnPair k) is due its table are = still (ap deferred_then are)
        put_on word block place t len (role.OwnTable turn shape) is due its table are = still (ap deferred_then are)
        put_on word block place t len (role.Table y many) is due its table are = still (ap deferred_then are)
        put_on word block place t len (role.Counter of) is due its table are = still (ap deferred_then are)

        by : RowTells i map known effects (due_in_row (machine_of u)) (due_in_row to.1) → RefinesWaiting v known2 to.4.w2
        by (TellsNone none alike) = still (ap deferred_then none)
        by (TellsRetired word due gone are) = still (ap deferred_then are ∙ retired_list (known.roles (block_in word)))
        by (TellsDeferred word block place t len due its gone noted are) = put_on word block place t len (named known word) refl due its noted are

    -- each pair waits behind one table still
    once_on : w3.memory ≡ new.memory → IsOneStep to.0.setting i w w3 → WaitsOnce m.deferred → WaitsOnce v.deferred
    once_on memory step once = by tells
      where
        still : v.deferred ≡ m.deferred → WaitsOnce v.deferred
        still same_list = subst WaitsOnce (sym same_list) once

        put_on : (word block : ℕ) (place : At) (t : TableId) (len : ℕ) (r : Role) → named known word ≡ r → due_in_row (machine_of u) ≡ Some (ToPut word place) → IsWordOf block place
            → known.roles block ≡ role.Table t len → effects ≡ carried t r → WaitsOnce v.deferred
        put_on word block place t len (role.Pair k) is due its table are =
            subst WaitsOnce (sym (ap deferred_then are)) (once_more m.deferred once k t (put_once memory step word block place k len t due its table is are))
        put_on word block place t len role.Free is due its table are = still (ap deferred_then are)
        put_on word block place t len (role.OwnPair k) is due its table are = still (ap deferred_then are)
        put_on word block place t len (role.OwnTable turn shape) is due its table are = still (ap deferred_then are)
        put_on word block place t len (role.Table y many) is due its table are = still (ap deferred_then are)
        put_on word block place t len (role.Counter of) is due its table are = still (ap deferred_then are)

        by : RowTells i map known effects (due_in_row (machine_of u)) (due_in_row to.1) → WaitsOnce v.deferred
        by (TellsNone none alike) = still (ap deferred_then none)
        by (TellsRetired word due gone are) = still (ap deferred_then are ∙ retired_list (known.roles (block_in word)))
        by (TellsDeferred word block place t len due its gone noted are) = put_on word block place t len (named known word) refl due its noted are

  pub row_waits_on : RefinesWaiting v known2 to.4.w2 × (WaitsOnce m.deferred → WaitsOnce v.deferred)
  row_waits_on = by u to.4.did other
    where
      by : (x : UnderWay K V K) (step : DidSo same hash name m known s old new at whole.all.shown map i u here_is said leads x)
          → (OfNoRow same hash name m known s old new at whole.all.shown map i u here_is said leads x step → ⊥) → RefinesWaiting v known2 to.4.w2 × (WaitsOnce m.deferred → WaitsOnce v.deferred)
      by (OnKey x) (p2, end, machine_is, told_is, inl step) none = absurd (none tt)
      by (OnKey x) (p2, end, machine_is, told_is, inr (row, stayed)) none = (waiting_on row.step.w2 stayed.0 row.step.memory row.step.happened, once_on row.step.w2 stayed.0 row.step.memory row.step.happened)
      by (ForRoom x) (p2, end, machine_is, told_is, inl step) none = absurd (none tt)
      by (ForRoom x) (p2, end, machine_is, told_is, inr (row, stayed)) none = (waiting_on row.step.w2 stayed.0 row.step.memory row.step.happened, once_on row.step.w2 stayed.0 row.step.memory row.step.happened)
      by (Counting x) step none = absurd (none tt)
      by (OverAll x) (p2, end, machine_is, told_is, inl step) none = absurd (none tt)
      by (OverAll x) (p2, end, machine_is, told_is, inr (row, stayed)) none = (waiting_on row.step.w2 stayed.0 row.step.memory row.step.happened, once_on row.step.w2 stayed.0 row.step.memory row.step.happened)
