-- What is handed over after a step of a call, whoever's row it is: what the row retires is so then, and what it puts behind a table waits there.
use Rattle.std.specs.Prelude.{◌≡◌, ℕ, ◌+◌, ◌==◌, ◌≤◌, zero, suc, Bool, true, false, ◌||◌, is_some, List, [], ◌∷◌, length, map, Option, Some, None, if◌then◌else◌}
use Rattle.std.proofs.Common.{refl, ap, sym, subst, ◌∙◌, inl, inr, arith, eqb-true}
use Rattle.std.proofs.lemmas.Bool.{cases_eq, eq-eqb}
use Rattle.run_debts.specs.Given.SeizeWordsMem.{value_at}
use Rattle.run_debts.specs.Given.SeizeWordsWord.{block_in}
use Rattle.run_debts.specs.Given.SeizeSequence.{taken_in}
use Rattle.run_debts.specs.Given.SeizeDeclared.states.TheConstants.{LAST_SLOT}
use Rattle.run_debts.specs.Given.SeizeWorld.{World, Row, Rests, Hand, Handed, Request, Register', Enter', Leave', LeaveOwned, Refresh, Unregister', Retire, Flush, Defer', Begins, Event, Begin, Runs, Steps', times}
use Rattle.run_debts.proofs.Given.SeizeMovesSets.Unmoved.{is_in_wait}
use Rattle.run_debts.proofs.Given.SeizeMovesState.Ghost.{IsPending}
use Rattle.run_debts.proofs.Given.SeizeMemoryWords.There.{live_pos}
use Rattle.run_debts.proofs.Given.SeizeMemoryWords.View.{view}
use Rattle.run_debts.proofs.Given.SeizeAloneHistories.NotTaken.{did, taken_gone}
use Rattle.run_debts.proofs.Given.SeizeAloneHistories.Reached.{Reached, happens_reached}
use Rattle.run_debts.specs.Given.TablesNodes.{deferred_word}
use Rattle.run_debts.specs.Given.TablesDeclared.node.Node.{Node}
use Rattle.run_debts.specs.Given.RawDeclared.machines.machine.Machine.{Machine}
use Rattle.run_debts.specs.Given.RawDeclared.machines.progress.Progress.{Progress as CallTold}
use Rattle.run_debts.specs.Given.RunsDeclared.effect.Effect.{Effect}
use Rattle.run_debts.specs.Given.RunsDeclared.effect.Effect.TheVariants.{Deferred, Retired}
use Rattle.run_debts.specs.Given.RunsDeclared.effect.TableId.{TableId}
use Rattle.run_debts.specs.Given.RunsDeclared.effect.Thing.{Thing}
use Rattle.run_debts.specs.Given.RunsDeclared.effect.Thing.TheVariants.{APair, ATable}
use Rattle.run_debts.specs.Given.SchedulesEffects.{with_effects, AtEachEffect}
use Rattle.run_debts.specs.Given.SchedulesMoment.{Handed as IsHanded, Moment}
use Rattle.run_debts.specs.Given.SchedulesReclaims.{is_handed}
use Rattle.run_debts.specs.Given.SchedulesThings.{same_table}
use Rattle.run_debts.specs.Given.SchedulesViews.{is_stage, is_retired}
use Rattle.run_debts.specs.Given.EffectsDeclared.changed.Changed.{Changed}
use Rattle.run_debts.specs.Given.RuleInWorld.{AllUsers}
use Rattle.run_debts.specs.Given.CallersSights.{seen_by}
use Rattle.run_debts.specs.Given.CallersTogether.{UnderWay, OnKey, ForRoom, Counting, OverAll, Together, IsOneStep, HandsOver, CameAbout}
use Rattle.run_debts.proofs.Given.CallersTogether.Came.{came_reached}
use Rattle.run_debts.proofs.Given.CallersTogether.Users.{events_rows}
use Rattle.run_debts.specs.Given.EffectsEffects.{carried, named, effects_of, known_after}
use Rattle.run_debts.specs.Given.EffectsKnown.{Known}
use Rattle.run_debts.specs.Given.EffectsDeclared.acting.Acting.TheVariants as acts
use Rattle.run_debts.specs.Given.EffectsDeclared.role.Role.{Role}
use Rattle.run_debts.specs.Given.EffectsDeclared.role.Role.TheVariants as role
use Rattle.run_debts.specs.Given.FinishesMachines.{machine_of}
use Rattle.run_debts.specs.Given.FinishesMaps.{Standing}
use Rattle.run_debts.specs.Given.FollowsBlocks.{HasRole}
use Rattle.run_debts.specs.Given.FollowsFinds.{FindsMap}
use Rattle.run_debts.proofs.Given.FollowsAlike.{is_calm, AllCalm, put_here, put_elsewhere}
use Rattle.run_debts.proofs.Given.FollowsContents.{pair_within}
use Rattle.run_debts.proofs.Given.FollowsOnward.{IsLasting, KeepsRoles}
use Rattle.run_debts.proofs.Given.FollowsRowSteps.{row_step_shown}
use Rattle.run_debts.proofs.Given.FollowsSteps.{WentTo, went_to, made_so, DidSo, OfNoRow, step_shown}
use Rattle.run_debts.specs.Given.HandsHands.{IsInUse}
use Rattle.run_debts.proofs.Given.HandsRowSteps.{rows_hand_theirs}
use Rattle.run_debts.proofs.Given.HandsSteps.{calls_store_theirs}
use Rattle.run_debts.proofs.Given.SpotsSteps.{hands_nothing, stayed_calm}
use Rattle.run_debts.proofs.Given.SpotsUnreclaimed.{table_is}
use Rattle.run_debts.specs.Given.MomentsWhole.{RefinesWhole}
use Rattle.run_debts.proofs.Given.MomentsCalls.{calls_keep_whole}
use Rattle.run_debts.specs.Due.{due_in_row, retired_effects, RowTells, TellsNone, TellsRetired, TellsDeferred, OwnAreMade}
use Rattle.run_debts.specs.Entries.{EntriesAreBlank}
use Rattle.run_debts.proofs.DueCalls.{rows_tell_due}
use Rattle.run_waiting.specs.Lives.Behind.{RefinesWaiting}
use Rattle.run_waiting.specs.Lives.Handed.{IsMeant, IsToHand, IsHandedOver, HasGone, is_deferred, RefinesHanded, CallsPreserveHanded}
use Rattle.run_waiting.specs.Lives.Retired.{IsPendingRetirement, IsToRetire, RefinesRetiredTables}
use Rattle.run_waiting.specs.Lives.Waiting.{waits_behind}
use Rattle.run_waiting.proofs.Lives.CallRows.{looked, row_takes_none}
use Rattle.run_waiting.proofs.Lives.Calls.{calls_keep_list}
use Rattle.run_waiting.proofs.Lives.HandedEffects.{Away, NoneHands, handed_back, hands_none, list_put, list_retired, put_away, retired_away, retired_back, retired_other, still_handed}
use Rattle.run_waiting.proofs.Lives.HandedMeant.{begun_put, meant_of, not_over, retire_meant, to_hand}
use Rattle.run_waiting.proofs.Lives.HandedOver.{begins_over, came_listed, steps_over, users_over}
use Rattle.run_waiting.proofs.Lives.HandedRoles.{pair_was}
use Rattle.run_waiting.proofs.Lives.Listed.{Listing}
use Rattle.run_waiting.proofs.Lives.Lives.{WaitsIn, OnWay, OnList, TakenOver}
use Rattle.run_waiting.proofs.Lives.RetiredCalls.{goes_on, its_call, stay, to_retire, users_handed}
use Rattle.run_waiting.proofs.Lives.Retires.{begun_due, handed_before, row_life}
use Rattle.run_waiting.proofs.Lives.Worlds.{Kept, waiting_hand}
use Rattle.run_debts.specs.Given.ScenesHeld.{Held, IsAt}
use Rattle.run_debts.specs.Given.ScenesScene.{HasCall, Scene, slot_of}
use Rattle.run_debts.specs.Given.ScenesStepping.{StepLeads, scene_after}

module _ {K V : Type 0} (same : K → K → Bool) (hash : ℕ → K → ℕ) (name : ℕ → List ℕ) (m : Moment K V) (known : Known) (s : Scene K V) (old new : Held K V) (at : IsAt same hash old s)
    (whole : RefinesWhole same name m known s) (entries : EntriesAreBlank s) (owning : OwnAreMade known s.world) (waiting : RefinesWaiting m known s.world) (retired : RefinesRetiredTables m known s)
    (shows : RefinesHanded m known s) (map i : ℕ) (u : UnderWay K V K) (here : s.calls map i ≡ Some u) (said : CallTold (Node K V)) (leads : StepLeads same hash i said s old new) where
  abbrev to : WentTo same hash name m known s old new at whole.all.shown map i u here said leads
  to = went_to same hash name m known s old new at whole.all.shown map i u here said leads

  abbrev w : World (Node K V)
  w = s.world

  abbrev told : Changed
  told = new.changed

  abbrev effects : List Effect
  effects = effects_of (acts.Call i map) known told

  -- the moment after these effects
  abbrev then_m : List Effect → Moment K V
  then_m fs = with_effects (Some (name i)) (Some map) fs m

  abbrev v : Moment K V
  v = then_m effects

  abbrev known2 : Known
  known2 = known_after (acts.Call i map) told known

  abbrev s2 : Scene K V
  s2 = scene_after same s old new map i to.0 u to.1 said to.4

  abbrev size : ℕ
  size = to.0.setting.batch_size

  abbrev each : Together V same to.0.hash same to.0.setting slot_of w to.0.chart to.0.blocks to.0.sights (s.calls map)
  each = at.together.makings.standing.each map to.0 to.2

  came : CameAbout size w
  came = each.ground.came

  reached : Reached deferred_word size w
  reached = came_reached size w came

  listing : Listing deferred_word size w
  listing = came_listed size w came

  whole2 : RefinesWhole same name v known2 s2
  whole2 = calls_keep_whole K V same hash name m known s old new at whole map i u here said leads

  -- a pair that the collector has was one
  was_pair : (b n : ℕ) → known2.roles b ≡ role.Pair n → s2.world.hand b ≡ Handed → known.roles b ≡ role.Pair n
  was_pair b n noted handed = elim (pair_was (Some (name i)) map (acts.Call i map) m known b n told noted) as (λ _. known.roles b ≡ role.Pair n) [
    | inl is ↦ is
    | inr stored ↦ absurd (subst IsInUse handed (whole2.all.hands.pairs b n noted stored))
  ]

  pair_of : (b n : ℕ) → known.roles b ≡ role.Pair n → HasRole w m.stored b (role.Pair n)
  pair_of b n is = subst (HasRole w m.stored b) is (whole.all.shown.blocks.roles b)

  within : (b n : ℕ) → known.roles b ≡ role.Pair n → n ≤ length m.stored
  within b n is = (let has = pair_of b n is in pair_within m.stored n (has.0, has.1) has.2)

  -- what another row has in hand it has still
  others_due : (b n j : ℕ) → HasCall s j → (j ≡ i → ⊥) → IsToHand b (w.row j) → HasGone v s2 b n
  others_due b n j call ne meant =
      let row = subst (IsToHand b) (sym (to.4.rows j ne)) meant in
      elim (stay same hash name m known s old new at whole entries owning retired map i u here said leads j call) as (λ _. HasGone v s2 b n) [
        | inl has ↦ inr (inr (j, has, row))
        | inr rests ↦ absurd (subst (IsToHand b) rests row)
      ]

  kept_role : KeepsRoles known known2 → (b : ℕ) (r : Role) → known.roles b ≡ r → IsLasting r → known2.roles b ≡ r
  kept_role keeps b r e its = keeps b (subst IsLasting (sym e) its) ∙ e

  -- none of a row
  module _ (own : OfNoRow same hash name m known s old new at whole.all.shown map i u here said leads u to.4.did) (w2 : World (Node K V)) (is : to.4.w2 ≡ w2) (events : List (Event (Node K V)))
      (users : AllUsers events) (runs : Runs deferred_word size events w w2) where
    hands : NoneHands effects
    hands = hands_none effects (hands_nothing same hash name m known s old new at whole.all.shown map i u here said leads own)

    led : AtEachEffect (FindsMap map) (Some (name i)) (Some map) effects m × KeepsRoles known known2
    led =
        let stores = (calls_store_theirs K V same hash name m known s old new at whole.all map i u here said leads own).0 in
        let it = step_shown same hash name m known s old new at whole.all.shown map i u here said leads own stores in
        (it.0, it.1.keeps)

    over_then : (b : ℕ) → IsHandedOver w b → IsHandedOver s2.world b
    over_then b over = subst (λ (z : World (Node K V)). IsHandedOver z b) (sym is) (users_over deferred_word size events w w2 listing users runs b over)

    gone_then : (b n : ℕ) → n ≤ length m.stored → HasGone m s b n → HasGone v s2 b n
    gone_then b n l (inl so) =
        inl (still_handed (Some (name i)) (Some map) map effects m (hands_nothing same hash name m known s old new at whole.all.shown map i u here said leads own) led.0 n l so)
    gone_then b n l (inr (inl so)) = inr (inl (ap (is_deferred n) (calls_keep_list same hash name m known s old new at whole map i u here said leads own) ∙ so))
    gone_then b n l (inr (inr due)) =
        let row = subst (IsToHand b) (sym (ap (λ (z : World (Node K V)). z.row due.0) is ∙ ap (λ (f : ℕ → Row). f due.0) (events_rows size events w w2 users runs))) due.2 in
        elim (stay same hash name m known s old new at whole entries owning retired map i u here said leads due.0 due.1) as (λ _. HasGone v s2 b n) [
          | inl has ↦ inr (inr (due.0, has, row))
          | inr rests ↦ absurd (subst (IsToHand b) rests row)
        ]

    by_events : RefinesHanded v known2 s2
    by_events = record {
      pairs = λ b n noted handed.
          let was = was_pair b n noted handed in
          let has = pair_of b n was in
          let before = users_handed size b events w w2 reached _ has.3 users runs (sym (ap (λ (z : World (Node K V)). z.hand b) is) ∙ handed) in
          gone_then b n (within b n was) (shows.pairs b n was before);
      handed = λ n so.
          let one = shows.handed n (handed_back (Some (name i)) (Some map) n effects m hands so) in
          (one.0, kept_role led.1 one.0 (role.Pair n) one.1 tt, over_then one.0 one.2);
      tables = λ t so.
          let one = shows.tables t (retired_back (Some (name i)) (Some map) t effects m hands so) in
          (one.0, one.1, kept_role led.1 one.0 (role.Table t one.1) one.2 tt, over_then one.0 one.3);
    }

  -- of a row
  module _ (other : OfNoRow same hash name m known s old new at whole.all.shown map i u here said leads u to.4.did → ⊥) where
    tells : RowTells i map known effects (due_in_row (machine_of u)) (due_in_row to.1)
    tells = rows_tell_due K V same hash name m known s old new at whole.all.shown whole.all.rows entries owning map i u here said leads other

    keeps : KeepsRoles known known2
    keeps =
        let theirs = rows_hand_theirs K V same hash name m known s old new at whole.all map i u here said leads other in
        (row_step_shown same hash name m known s old new at whole.all.shown map i u here said leads other theirs.1 theirs.0).keeps

    handed_away : (n : ℕ) → is_handed (m.place n) ≡ true → Away (Some (name i)) (Some map) m n effects
    handed_away n so = by tells
      where
        by : RowTells i map known effects (due_in_row (machine_of u)) (due_in_row to.1) → Away (Some (name i)) (Some map) m n effects
        by (TellsNone none alike) = subst (Away (Some (name i)) (Some map) m n) (sym none) (inl so)
        by (TellsRetired word was gone are) = subst (Away (Some (name i)) (Some map) m n) (sym are) (retired_away (Some (name i)) (Some map) m n (known.roles (block_in word)) so)
        by (TellsDeferred word block place t len was its gone noted are) = subst (Away (Some (name i)) (Some map) m n) (sym are) (put_away (Some (name i)) (Some map) m n t (named known word) so)

    waits_on : (n : ℕ) → is_deferred n m.deferred ≡ true → is_deferred n v.deferred ≡ true
    waits_on n so = by tells
      where
        IsOn : List Effect → Type 0
        IsOn fs = is_deferred n (then_m fs).deferred ≡ true

        by : RowTells i map known effects (due_in_row (machine_of u)) (due_in_row to.1) → is_deferred n v.deferred ≡ true
        by (TellsNone none alike) = subst IsOn (sym none) so
        by (TellsRetired word was gone are) = subst IsOn (sym are) (list_retired (Some (name i)) (Some map) m n (known.roles (block_in word)) so)
        by (TellsDeferred word block place t len was its gone noted are) = subst IsOn (sym are) (list_put (Some (name i)) (Some map) m n t (named known word) so)

    away : (b n : ℕ) → Away (Some (name i)) (Some map) m n effects → HasGone v s2 b n
    away b n (inl so) = inl so
    away b n (inr so) = inr (inl so)

    -- what the row had in hand
    its_own : (b n : ℕ) → known.roles b ≡ role.Pair n → IsMeant b (due_in_row (machine_of u)) → (to.4.w2.row i ≡ Rests → ⊥) → HasGone v s2 b n
    its_own b n pair meant on = by tells
      where
        by : RowTells i map known effects (due_in_row (machine_of u)) (due_in_row to.1) → HasGone v s2 b n
        by (TellsNone none alike) =
            let next = goes_on same hash name m known s old new at whole entries owning retired map i u here said leads on in
            let st2 : Standing K = record to.0 { chart = to.4.its_map.0; blocks = to.4.its_map.1; sights = to.4.its_map.2 } in
            let its = its_call same hash name m known s old new at whole entries owning retired map i u here said leads next.0 next.1 in
            let stands = (to.4.together.makings.standing.each map st2 to.4.its_map.4).stand i next.0 its in
            let meant2 = subst (λ (z : Machine K V K). IsMeant b (due_in_row z)) (sym next.2) (subst (IsMeant b) (sym alike) meant) in
            inr (inr (i, (map, next.0, its), to_hand same to.0.hash to.0.setting to.4.w2 st2.chart (seen_by st2.blocks (st2.sights (slot_of i))) i b next.0 stands on meant2))
        by (TellsRetired word was gone are) =
            let names : block_in word ≡ b = subst (IsMeant b) was meant in
            let alone = are ∙ ap (λ (k : ℕ). retired_effects (known.roles k)) names ∙ ap retired_effects pair in
            inl (subst (λ (fs : List Effect). is_handed ((then_m fs).place n) ≡ true) (sym alone) (ap is_handed (put_here n IsHanded m.place n refl)))
        by (TellsDeferred word block place t len was its gone noted are) =
            let names : block_in word ≡ b = subst (IsMeant b) was meant in
            let alone = are ∙ ap (λ (k : ℕ). carried t (known.roles k)) names ∙ ap (carried t) pair in
            inr (inl (subst (λ (fs : List Effect). is_deferred n (then_m fs).deferred ≡ true) (sym alone) (ap (λ (z : Bool). z || is_deferred n m.deferred) (eq-eqb n n refl))))

    module _ (w3 : World (Node K V)) (is : to.4.w2 ≡ w3) (memory : w3.memory ≡ new.memory) where
      -- a block that is there after it is not taken
      untaken : (x : World (Node K V)) (r : Reached deferred_word size x) (step : Steps' deferred_word i (x.row i) x w3) (b : ℕ) (value : Node K V) → value_at to.4.w2.memory b ≡ Some value
          → times b (taken_in (did deferred_word size x r i w3 step).effects) ≡ 0
      untaken x r step b value there = count (times b (taken_in (did deferred_word size x r i w3 step).effects)) refl
        where
          count : (n : ℕ) → times b (taken_in (did deferred_word size x r i w3 step).effects) ≡ n → times b (taken_in (did deferred_word size x r i w3 step).effects) ≡ 0
          count zero e = e
          count (suc n) e =
              absurd (let gone = taken_gone deferred_word size x r i w3 step b (λ z. omega (arith, e, z)) in
              let still = sym (ap (λ (z : World (Node K V)). value_at z.memory b) is) ∙ there in cc (gone, still))

      row_over : IsOneStep to.0.setting i w w3 → (b : ℕ) (value : Node K V) → value_at to.4.w2.memory b ≡ Some value → IsHandedOver w b → IsHandedOver s2.world b
      row_over (inl step) b value there over =
          subst (λ (z : World (Node K V)). IsHandedOver z b) (sym is) (steps_over deferred_word size i w w3 b over (did deferred_word size w reached i w3 step) (untaken w reached step b value there))
      row_over (inr (request, begun, hands_over, begin, step)) b value there over =
          let r = happens_reached deferred_word size (Begin i request) w begun reached begin in
          subst (λ (z : World (Node K V)). IsHandedOver z b) (sym is)
          (steps_over deferred_word size i begun w3 b (begins_over deferred_word size i w begun b over request begin.1) (did deferred_word size begun r i w3 step) (untaken begun r step b value there))

      -- what it tells of it was under way
      clash : (x : Thing) → is_calm (Retired x) ≡ true → ⊥
      clash (APair n) e = cc e
      clash (ATable t) e = cc e

      -- what the row retires the collector has, and it does not wait
      due_over : IsOneStep to.0.setting i w w3 → (x : Thing) → effects ≡ Retired x ∷ [] → (b : ℕ) → IsPendingRetirement b (due_in_row (machine_of u)) → (value : Node K V) → value_at w.memory b ≡ Some value → IsHandedOver w b
      due_over (inr (request, begun, hands_over, begin, step)) x alone b due value there =
          absurd (
          let calm = (stayed_calm same hash m known s old new at name whole.all.shown map i to.0 to.2 (name i) (made_so same hash name m known s old new at whole.all.shown map i u here said leads)
          (sym memory ∙ looked same hash name m known s old new at whole entries owning waiting map i u here said leads other w3 is request begun hands_over begin.1 step)).calm in
          clash x (subst AllCalm alone calm).0
          )
      due_over (inl step) x alone b due value there = (waiting_hand (w.hand b) (k.good.state.life b) (ap is_in_wait pending) (k.good.hands b), none (waits_behind b w.log) refl)
        where
          k : Kept deferred_word size w
          k = listing.kept

          its : IsToRetire b (w.row i)
          its = to_retire same to.0.hash to.0.setting w to.0.chart (seen_by to.0.blocks (to.0.sights (slot_of i))) i b u (each.stand i u here)
              (λ rests. subst (λ (r : Row). Steps' deferred_word i r w w3) rests step) due

          pending : k.good.state.life b ≡ IsPending i
          pending =
              row_life (LAST_SLOT + 1) i (view deferred_word w.memory) k.good.state k.good.extra k.good.inv k.good.shows b (live_pos w.memory b (ap is_some there)) (length w.memory.slots) (w.row i) (k.good.rows i) its

          none_left : k.good.state.left i ≡ []
          none_left = row_takes_none (LAST_SLOT + 1) i (view deferred_word w.memory) k.good.state k.good.extra k.good.shows b (length w.memory.slots) (w.row i) (whole.all.rows.none map i u here) (k.good.rows i) its

          waits_not : (t : ℕ) → WaitsIn k.good.state b t → ⊥
          waits_not t (OnWay j slot e) = (let p = pending in cc (e, p))
          waits_not t (OnList e) = (let p = pending in cc (e, p))
          waits_not t (TakenOver j bs e first) =
              (let alike : IsPending j ≡ IsPending i = sym e ∙ pending in let one : j ≡ i = cc alike in
              let both : t ∷ bs ≡ [] = sym first ∙ ap k.good.state.left one ∙ none_left in cc both)

          none : (o : Option ℕ) → waits_behind b w.log ≡ o → waits_behind b w.log ≡ None
          none None e = e
          none (Some t) e = absurd (waits_not t (k.waits b t e))

      pair_then : (b n : ℕ) → known.roles b ≡ role.Pair n → IsOneStep to.0.setting i w w3 → IsHandedOver w b → (x : ℕ) × (known2.roles x ≡ role.Pair n) × IsHandedOver s2.world x
      pair_then b n pair step over =
          let noted = kept_role keeps b (role.Pair n) pair tt in
          let has = subst (HasRole s2.world v.stored b) noted (whole2.all.shown.blocks.roles b) in
          (b, noted, row_over step b _ has.3 over)

      table_then : (b len : ℕ) (t : TableId) → known.roles b ≡ role.Table t len → IsOneStep to.0.setting i w w3 → IsHandedOver w b
          → (x : ℕ) × (n : ℕ) × (known2.roles x ≡ role.Table t n) × IsHandedOver s2.world x
      table_then b len t table step over =
          let noted = kept_role keeps b (role.Table t len) table tt in
          let has = subst (HasRole s2.world v.stored b) noted (whole2.all.shown.blocks.roles b) in
          (b, len, noted, row_over step b _ has.1 over)

      abbrev PairOver : ℕ → Type 0
      PairOver n = (x : ℕ) × (known2.roles x ≡ role.Pair n) × IsHandedOver s2.world x

      abbrev TableOver : TableId → Type 0
      TableOver t = (x : ℕ) × (len : ℕ) × (known2.roles x ≡ role.Table t len) × IsHandedOver s2.world x

      pairs_had : IsOneStep to.0.setting i w w3 → (n : ℕ) → is_handed (m.place n) ≡ true → PairOver n
      pairs_had step n so = (let one = shows.handed n so in pair_then one.0 n one.1 step one.2)

      tables_had : IsOneStep to.0.setting i w w3 → (t : TableId) → is_stage is_retired t m ≡ true → TableOver t
      tables_had step t so = (let one = shows.tables t so in table_then one.0 one.1 t one.2 step one.3)

      -- a pair that is told to be handed over
      pair_retired : IsOneStep to.0.setting i w w3 → (n word : ℕ) (r : Role) → known.roles (block_in word) ≡ r → IsPendingRetirement (block_in word) (due_in_row (machine_of u)) → effects ≡ retired_effects r
          → is_handed ((then_m (retired_effects r)).place n) ≡ true → PairOver n
      pair_retired step n word (role.Pair k) e due are so = elim (cases_eq n k) as (λ _. PairOver n) [
        | inl one ↦
            let its : known.roles (block_in word) ≡ role.Pair n = e ∙ ap role.Pair (sym one) in
            let has = pair_of (block_in word) n its in
            pair_then (block_in word) n its step (due_over step (APair k) are (block_in word) due _ has.3)
        | inr ne ↦ pairs_had step n (sym (ap is_handed (put_elsewhere k IsHanded m.place n ne)) ∙ so)
      ]
      pair_retired step n word (role.Table t len) e due are so = pairs_had step n so
      pair_retired step n word role.Free e due are so = pairs_had step n so
      pair_retired step n word (role.OwnPair j) e due are so = pairs_had step n so
      pair_retired step n word (role.OwnTable turn shape) e due are so = pairs_had step n so
      pair_retired step n word (role.Counter of) e due are so = pairs_had step n so

      pair_put : IsOneStep to.0.setting i w w3 → (n : ℕ) (t : TableId) (r : Role) → is_handed ((then_m (carried t r)).place n) ≡ true → PairOver n
      pair_put step n t (role.Pair k) so = pairs_had step n (handed_back (Some (name i)) (Some map) n (Deferred k t ∷ []) m (λ z. z, tt) so)
      pair_put step n t role.Free so = pairs_had step n so
      pair_put step n t (role.OwnPair j) so = pairs_had step n so
      pair_put step n t (role.OwnTable turn shape) so = pairs_had step n so
      pair_put step n t (role.Table x len) so = pairs_had step n so
      pair_put step n t (role.Counter of) so = pairs_had step n so

      pair_over : IsOneStep to.0.setting i w w3 → (n : ℕ) → is_handed (v.place n) ≡ true → PairOver n
      pair_over step n so = by tells
        where
          IsAfter : List Effect → Type 0
          IsAfter fs = is_handed ((then_m fs).place n) ≡ true

          by : RowTells i map known effects (due_in_row (machine_of u)) (due_in_row to.1) → PairOver n
          by (TellsNone none alike) = pairs_had step n (subst IsAfter none so)
          by (TellsRetired word was gone are) = pair_retired step n word (known.roles (block_in word)) refl (subst (IsPendingRetirement (block_in word)) (sym was) refl) are (subst IsAfter are so)
          by (TellsDeferred word block place t len was its gone noted are) = pair_put step n t (named known word) (subst IsAfter are so)

      -- and a table
      table_retired : IsOneStep to.0.setting i w w3 → (t : TableId) (word : ℕ) (r : Role) → known.roles (block_in word) ≡ r → IsPendingRetirement (block_in word) (due_in_row (machine_of u)) → effects ≡ retired_effects r
          → is_stage is_retired t (then_m (retired_effects r)) ≡ true → TableOver t
      table_retired step t word (role.Table x len) e due are so = by (same_table x t) refl
        where
          by : (q : Bool) → same_table x t ≡ q → TableOver t
          by true one =
              let its : known.roles (block_in word) ≡ role.Table t len = e ∙ ap (λ (y : TableId). role.Table y len) (table_is x t one) in
              let has = subst (HasRole w m.stored (block_in word)) its (whole.all.shown.blocks.roles (block_in word)) in
              table_then (block_in word) len t its step (due_over step (ATable x) are (block_in word) due _ has.1)
          by false none = tables_had step t (retired_other (Some (name i)) (Some map) t x none m so)
      table_retired step t word (role.Pair k) e due are so = tables_had step t so
      table_retired step t word role.Free e due are so = tables_had step t so
      table_retired step t word (role.OwnPair j) e due are so = tables_had step t so
      table_retired step t word (role.OwnTable turn shape) e due are so = tables_had step t so
      table_retired step t word (role.Counter of) e due are so = tables_had step t so

      table_put : IsOneStep to.0.setting i w w3 → (t u2 : TableId) (r : Role) → is_stage is_retired t (then_m (carried u2 r)) ≡ true → TableOver t
      table_put step t u2 (role.Pair k) so = tables_had step t so
      table_put step t u2 role.Free so = tables_had step t so
      table_put step t u2 (role.OwnPair j) so = tables_had step t so
      table_put step t u2 (role.OwnTable turn shape) so = tables_had step t so
      table_put step t u2 (role.Table x len) so = tables_had step t so
      table_put step t u2 (role.Counter of) so = tables_had step t so

      table_over : IsOneStep to.0.setting i w w3 → (t : TableId) → is_stage is_retired t v ≡ true → TableOver t
      table_over step t so = by tells
        where
          IsAfter : List Effect → Type 0
          IsAfter fs = is_stage is_retired t (then_m fs) ≡ true

          by : RowTells i map known effects (due_in_row (machine_of u)) (due_in_row to.1) → TableOver t
          by (TellsNone none alike) = tables_had step t (subst IsAfter none so)
          by (TellsRetired word was gone are) = table_retired step t word (known.roles (block_in word)) refl (subst (IsPendingRetirement (block_in word)) (sym was) refl) are (subst IsAfter are so)
          by (TellsDeferred word block place u2 len was its gone noted are) = table_put step t u2 (named known word) (subst IsAfter are so)

      in_w3 : (b : ℕ) → s2.world.hand b ≡ Handed → w3.hand b ≡ Handed
      in_w3 b handed = sym (ap (λ (z : World (Node K V)). z.hand b) is) ∙ handed

      goes_in : (b : ℕ) → IsToHand b (w3.row i) → to.4.w2.row i ≡ Rests → ⊥
      goes_in b meant rests = subst (IsToHand b) (sym (ap (λ (z : World (Node K V)). z.row i) is) ∙ rests) meant

      -- it begins with what it has in hand
      new_hand : (b n : ℕ) → IsToHand b (w3.row i) → HasGone v s2 b n
      new_hand b n meant =
          let next = goes_on same hash name m known s old new at whole entries owning retired map i u here said leads (goes_in b meant) in
          let its = its_call same hash name m known s old new at whole entries owning retired map i u here said leads next.0 next.1 in
          inr (inr (i, (map, next.0, its), subst (λ (z : World (Node K V)). IsToHand b (z.row i)) (sym is) meant))

      -- what the collector had is where it was, or goes on
      had_stepped : Steps' deferred_word i (w.row i) w w3 → (b n : ℕ) → known.roles b ≡ role.Pair n → HasGone m s b n → HasGone v s2 b n
      had_stepped step b n pair (inl so) = away b n (handed_away n so)
      had_stepped step b n pair (inr (inl so)) = inr (inl (waits_on n so))
      had_stepped step b n pair (inr (inr (j, call, meant))) = elim (cases_eq j i) as (λ _. HasGone v s2 b n) [
        | inl e ↦
            let mine = subst (λ (k : ℕ). IsToHand b (w.row k)) e meant in
            its_own b n pair (meant_of same to.0.hash to.0.setting w to.0.chart (seen_by to.0.blocks (to.0.sights (slot_of i))) i b u (each.stand i u here) mine)
            (λ rests. not_over deferred_word size w w3 reached i step b mine (sym (ap (λ (z : World (Node K V)). z.row i) is) ∙ rests))
        | inr ne ↦ others_due b n j call ne meant
      ]

      had_begun : w.row i ≡ Rests → (b n : ℕ) → HasGone m s b n → HasGone v s2 b n
      had_begun rests b n (inl so) = away b n (handed_away n so)
      had_begun rests b n (inr (inl so)) = inr (inl (waits_on n so))
      had_begun rests b n (inr (inr (j, call, meant))) = others_due b n j call (λ e. subst (IsToHand b) (ap w.row e ∙ rests) meant) meant

      begun_gone : (request : Request) (begun : World (Node K V)) → HandsOver to.0.setting i w request → w.row i ≡ Rests → Begins deferred_word size i request w begun → Steps' deferred_word i (begun.row i) begun w3
          → (b n : ℕ) → known.roles b ≡ role.Pair n → begun.hand b ≡ Handed → HasGone v s2 b n
      begun_gone (Retire slot c) begun hands_over rests h step b n pair handed = by (b == c) refl (sym (ap (λ (z : World (Node K V)). z.hand b) h.2) ∙ handed)
        where
          by : (q : Bool) → (b == c) ≡ q → (if q then Handed else w.hand b) ≡ Handed → HasGone v s2 b n
          by true e own =
              let one : b ≡ c = eqb-true b c e in
              new_hand b n (retire_meant b (w3.row i) (begun_due deferred_word size i w begun w3 slot b (subst (λ (k : ℕ). Begins deferred_word size i (Retire slot k) w begun) (sym one) h) step))
          by false e before = had_begun rests b n (shows.pairs b n pair before)
      begun_gone (Defer' slot c d) begun hands_over rests h step b n pair handed = by (b == c) refl (sym (ap (λ (z : World (Node K V)). z.hand b) h.7) ∙ handed)
        where
          by : (q : Bool) → (b == c) ≡ q → (if q then Handed else w.hand b) ≡ Handed → HasGone v s2 b n
          by true e own =
              let one : b ≡ c = eqb-true b c e in
              new_hand b n (begun_put deferred_word size i w begun w3 slot b d (subst (λ (k : ℕ). Begins deferred_word size i (Defer' slot k d) w begun) (sym one) h) step)
          by false e before = had_begun rests b n (shows.pairs b n pair before)
      begun_gone (Register' enters) begun hands_over rests h step b n pair handed = absurd hands_over
      begun_gone (Enter' slot) begun hands_over rests h step b n pair handed = absurd hands_over
      begun_gone (Leave' slot) begun hands_over rests h step b n pair handed = absurd hands_over
      begun_gone (LeaveOwned slot) begun hands_over rests h step b n pair handed = absurd hands_over
      begun_gone (Refresh slot) begun hands_over rests h step b n pair handed = absurd hands_over
      begun_gone (Unregister' slot) begun hands_over rests h step b n pair handed = absurd hands_over
      begun_gone (Flush slot) begun hands_over rests h step b n pair handed = absurd hands_over

      pair_gone : IsOneStep to.0.setting i w w3 → (b n : ℕ) → known2.roles b ≡ role.Pair n → s2.world.hand b ≡ Handed → HasGone v s2 b n
      pair_gone (inl step) b n noted handed =
          let pair = was_pair b n noted handed in
          let row = did deferred_word size w reached i w3 step in
          had_stepped step b n pair (shows.pairs b n pair (handed_before row.effects w.hand b (sym (ap (λ (h : ℕ → Hand). h b) row.hands) ∙ in_w3 b handed)))
      pair_gone (inr (request, begun, hands_over, begin, step)) b n noted handed =
          let row = did deferred_word size begun (happens_reached deferred_word size (Begin i request) w begun reached begin) i w3 step in
          begun_gone request begun hands_over begin.0 begin.1 step b n (was_pair b n noted handed) (handed_before row.effects begun.hand b (sym (ap (λ (h : ℕ → Hand). h b) row.hands) ∙ in_w3 b handed))

      by_row : IsOneStep to.0.setting i w w3 → RefinesHanded v known2 s2
      by_row step = record { pairs = pair_gone step; handed = pair_over step; tables = table_over step }

  pub kept_handed : RefinesHanded v known2 s2
  kept_handed = by u to.4.did (λ own. own) (λ none. none)
    where
      Own : (x : UnderWay K V K) → DidSo same hash name m known s old new at whole.all.shown map i u here said leads x → Type 0
      Own x step = OfNoRow same hash name m known s old new at whole.all.shown map i u here said leads x step

      by : (x : UnderWay K V K) (step : DidSo same hash name m known s old new at whole.all.shown map i u here said leads x) → (Own x step → Own u to.4.did)
          → ((Own x step → ⊥) → Own u to.4.did → ⊥) → RefinesHanded v known2 s2
      by (OnKey x) (p2, end, machine_is, told_is, inl (step, moved)) own no_own = by_events (own tt) step.step.went.w2 moved.0 step.step.went.events step.step.went.users step.step.went.runs
      by (OnKey x) (p2, end, machine_is, told_is, inr (row, stayed)) own no_own = by_row (no_own (λ z. z)) row.step.w2 stayed.0 row.step.memory row.step.happened
      by (ForRoom x) (p2, end, machine_is, told_is, inl (step, moved)) own no_own = by_events (own tt) step.step.went.w2 moved.0 step.step.went.events step.step.went.users step.step.went.runs
      by (ForRoom x) (p2, end, machine_is, told_is, inr (row, stayed)) own no_own = by_row (no_own (λ z. z)) row.step.w2 stayed.0 row.step.memory row.step.happened
      by (Counting x) (p2, end, machine_is, told_is, still_there, stayed) own no_own = by_events (own tt) w stayed.0 [] tt refl
      by (OverAll x) (p2, end, machine_is, told_is, inl (step, moved)) own no_own = by_events (own tt) step.step.went.w2 moved.0 step.step.went.events step.step.went.users step.step.went.runs
      by (OverAll x) (p2, end, machine_is, told_is, inr (row, stayed)) own no_own = by_row (no_own (λ z. z)) row.step.w2 stayed.0 row.step.memory row.step.happened

pub calls_keep_handed : (K V : Type 0) (same : K → K → Bool) (hash : ℕ → K → ℕ) → CallsPreserveHanded K V same hash
calls_keep_handed K V same hash name m known s old new at whole entries owning waiting retired shows map i u here told leads =
    kept_handed same hash name m known s old new at whole entries owning waiting retired shows map i u here told leads
