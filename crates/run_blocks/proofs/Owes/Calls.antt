-- A step of a call, of whichever kind: its effects find its block for a pair as they must, and each has what the moment says after it.
use Rattle.std.specs.Prelude.{◌≡◌, ◌≢◌, ◌<◌, ℕ, ◌+◌, Bool, true, false, List, Option, Some, None, ◌⊎◌}
use Rattle.std.proofs.Common.{refl, ap, sym, subst, ◌∙◌, inl, inr}
use Rattle.std.proofs.lemmas.Bool.{cases_eq}
use Rattle.run_debts.specs.Given.SeizeWordsMem.{Mem, Can, Took, value_at}
use Rattle.run_debts.specs.Given.SeizeWordsPlan.{May}
use Rattle.run_debts.specs.Given.SeizeWordsWord.{block_in}
use Rattle.run_debts.specs.Given.SeizeWorld.{World, with_at, IsInside}
use Rattle.run_debts.specs.Given.TablesDeclared.node.Node.{Node}
use Rattle.owner_calls.specs.Given.ResizeDeclared.new_table.NewTable.{NewTable}
use Rattle.run_debts.specs.Given.RawMachine.{machine_plan, called as of_key}
use Rattle.owner_calls.specs.Given.RawProgress.{of_called}
use Rattle.run_debts.specs.Given.RawDeclared.machines.answer.Called.{Called}
use Rattle.run_debts.specs.Given.RawDeclared.machines.call.KeyCall.{KeyCall}
use Rattle.run_debts.specs.Given.RawDeclared.machines.machine.Machine.{Machine}
use Rattle.run_debts.specs.Given.RawDeclared.machines.progress.Progress.{Progress}
use Rattle.owner_calls.specs.Given.RawCall.{call_plan}
use Rattle.run_debts.specs.Given.RunsSame.{is_same}
use Rattle.run_debts.specs.Given.RunsDeclared.effect.Effect.{Effect}
use Rattle.run_debts.specs.Given.SchedulesEffects.{with_effects}
use Rattle.run_debts.specs.Given.SchedulesMoment.{UnderWay as CallThere, Moment}
use Rattle.run_debts.specs.Given.SchedulesViews.{call_of}
use Rattle.run_debts.specs.Given.SchedulesGrowing.{has_value_for}
use Rattle.run_debts.specs.Given.EffectsDeclared.changed.Changed.{Changed}
use Rattle.run_debts.specs.Given.EffectsDeclared.changed.Changed.TheVariants as changed
use Rattle.run_debts.specs.Given.EffectsDeclared.changed.Kind.TheVariants as kind
use Rattle.owner_calls.specs.Given.RuleInWorld.{IsHeldBy, SparesOthers}
use Rattle.owner_calls.specs.Given.CallersOverAll.{CallOverAll}
use Rattle.run_debts.specs.Given.CallersRooms.{CallForRoom}
use Rattle.owner_calls.specs.Given.CallersSights.{seen_by, IsVisibility}
use Rattle.owner_calls.specs.Given.CallersTogether.{CallOnKey, UnderWay, OnKey, ForRoom, Counting, OverAll, IsOneStep, Together}
use Rattle.run_debts.specs.Given.EffectsEffects.{effects_of, known_after}
use Rattle.run_debts.specs.Given.EffectsKnown.{Known}
use Rattle.run_debts.specs.Given.EffectsDeclared.acting.Acting.{Acting}
use Rattle.run_debts.specs.Given.EffectsDeclared.acting.Acting.TheVariants as acts
use Rattle.run_debts.specs.Given.EffectsDeclared.role.Role.{Role}
use Rattle.run_debts.specs.Given.EffectsDeclared.role.Role.TheVariants as role
use Rattle.run_debts.specs.Given.FinishesEndings.{StepsWithEndings}
use Rattle.run_debts.specs.Given.FinishesMachines.{machine_of}
use Rattle.run_debts.specs.Given.FinishesMaps.{Standing}
use Rattle.run_debts.specs.Given.FollowsBlocks.{WasLinked, HasRole}
use Rattle.run_debts.specs.Given.FollowsShows.{Refines}
use Rattle.run_debts.specs.Given.FollowsSteps.{TakesNone}
use Rattle.run_debts.proofs.Given.FollowsAlike.{put_here}
use Rattle.run_debts.proofs.Given.FollowsCalling.{is_same_refl}
use Rattle.run_debts.proofs.Given.FollowsOperations.{LeavesBy, operated_leaves}
use Rattle.run_debts.proofs.Given.FollowsRows.{one_step_leaves}
use Rattle.run_debts.proofs.Given.FollowsRowSteps.{row_done}
use Rattle.run_debts.proofs.Given.FollowsSteps.{WentTo, went_to, made_so, DidSo, OfNoRow}
use Rattle.run_debts.specs.Given.FollowsCalls.{IsCalled}
use Rattle.run_debts.proofs.Given.HandsAsking.{which}
use Rattle.run_debts.proofs.Given.HandsRowSteps.{rows_hand_theirs}
use Rattle.run_debts.specs.Given.MomentsWhole.{RefinesWhole}
use Rattle.run_debts.proofs.Given.MomentsCalls.{of_row, calls_keep_whole}
use Rattle.run_debts.proofs.Given.MomentsRoles.{roles_then}
use Rattle.run_blocks.specs.Owes.Beside.{NoneOfBlock}
use Rattle.run_blocks.specs.Owes.Keeping.{FindBlocks, CallsPreserveMade}
use Rattle.run_blocks.specs.Owes.Made.{own_word, OwnsSo, IsItsBlock, HasBlock, NamesBlock, RefinesMade}
use Rattle.run_blocks.specs.Owes.Making.{making_in_calling, making_in_reserving, making_in_sweeping}
use Rattle.run_blocks.proofs.Owes.Effects.{block_by, effect_block}
use Rattle.owner_calls.specs.Holds.Came.{Owns}
use Rattle.run_blocks.proofs.Owes.Ends.{refused_own, answered_own, answer_pair, which_end}
use Rattle.run_blocks.proofs.Owes.Fields.{field_own, field_other}
use Rattle.run_blocks.proofs.Owes.Held.{IsInHand}
use Rattle.run_blocks.proofs.Owes.InHand.{free_there, in_hand}
use Rattle.run_blocks.proofs.Owes.Kept.{calls_beside, calls_its}
use Rattle.run_blocks.proofs.Owes.Machines.{call_none, room_none, sweep_none, came_to, key_machine, key_said, key_tells, key_code, key_owns, key_word, room_word, over_word, room_no_pair, over_no_pair}
use Rattle.run_blocks.proofs.Owes.Planned.{HasPlaces, key_has, reserve_has, over_all_has}
use Rattle.run_blocks.proofs.Owes.Roles.{own_of, MakesFree, DoesSo, Leaves, Makes, GivesUp, Stores, does_so}
use Rattle.run_blocks.proofs.Owes.Step.{LeavesMade, left_so, leaves_made, MakersHaveValues}
use Rattle.run_blocks.proofs.Owes.Words.{WordGoes, KeepsWord, none_for_pair}
use Rattle.run_blocks.proofs.Owes.Valued.{HasGiven, call_valued, row_no_own, knows_given}
use Rattle.run_blocks.proofs.Owes.Walks.{plan_made, call_makes}
use Rattle.run_debts.proofs.Given.OthersOutcomes.{told_in}
use Rattle.run_debts.proofs.Given.ScenesMay.{may_step}
use Rattle.run_debts.specs.Given.ScenesHeld.{Held, IsAt}
use Rattle.run_debts.specs.Given.ScenesScene.{Scene, slot_of}
use Rattle.run_debts.specs.Given.ScenesStepping.{StepLeads, StepsFrom, scene_after}
use Rattle.run_debts.proofs.Calls.{goes_as_one}
use Rattle.run_debts.proofs.Given.General.{same_some as one_of}

module _ {K V : Type 0} (same : K → K → Bool) (hash : ℕ → K → ℕ) (name : ℕ → List ℕ) (m : Moment K V) (known : Known) (s : Scene K V) (old new : Held K V) (at : IsAt same hash old s)
    (whole : RefinesWhole same name m known s) (made : RefinesMade name m known s) (map i : ℕ) (u : UnderWay K V K) (here : s.calls map i ≡ Some u) (said : Progress (Node K V))
    (leads : StepLeads same hash i said s old new) where
  abbrev shown : Refines same name m known s
  shown = whole.all.shown

  abbrev to : WentTo same hash name m known s old new at shown map i u here said leads
  to = went_to same hash name m known s old new at shown map i u here said leads

  abbrev st : Standing K
  st = to.0

  abbrev w : World (Node K V)
  w = s.world

  abbrev w2 : World (Node K V)
  w2 = to.4.w2

  abbrev told : Changed
  told = new.changed

  abbrev its : Acting
  its = acts.Call i map

  abbrev effects : List Effect
  effects = effects_of its known told

  abbrev known2 : Known
  known2 = known_after its told known

  abbrev v : Moment K V
  v = with_effects (Some (name i)) (Some map) effects m

  abbrev led : Scene K V
  led = scene_after same s old new map i st u to.1 said to.4

  abbrev Did : UnderWay K V K → Type 0
  Did x = DidSo same hash name m known s old new at shown map i u here said leads x

  abbrev NoRow : (x : UnderWay K V K) → Did x → Type 0
  NoRow x did = OfNoRow same hash name m known s old new at shown map i u here said leads x did

  pub left : LeavesBy w.memory new.memory told
  left = operated_leaves w.memory new.memory told (made_so same hash name m known s old new at shown map i u here said leads)

  pub then_shown : Refines same name v known2 led
  then_shown = (calls_keep_whole K V same hash name m known s old new at whole map i u here said leads).all.shown

  each : Together V same st.hash same st.setting slot_of w st.chart st.blocks st.sights (s.calls map)
  each = at.together.makings.standing.each map st to.2

  sight : IsInside (s.world.uses (slot_of i)) → IsVisibility st.chart st.blocks (st.sights (slot_of i))
  sight inside = (each.ground.sight (slot_of i) inside).0

  -- a block that is made was free
  makes_free : (x : Changed) → LeavesBy w.memory new.memory x → MakesFree its known x
  makes_free (changed.Made k b) l = free_there w m.stored known shown.blocks.roles b l.0
  makes_free changed.Nothing l = tt
  makes_free (changed.Wrote at before after) l = tt
  makes_free (changed.Unmade k) l = tt
  makes_free (changed.Took b) l = tt
  makes_free (changed.Roomed bucket had) l = tt

  does : DoesSo its known told
  does = does_so its known told (makes_free told left)

  -- by a step that is none of a row, others have in hand what they had

  by_went : (w3 : World (Node K V)) → w2 ≡ w3 → SparesOthers i w w3 → (j b : ℕ) → j ≢ i → IsInHand w j b → IsInHand w2 j b
  by_went w3 is spares j b ne h =
      subst (λ (x : World (Node K V)). IsInHand x j b) (sym is)
      (let k = (spares j ne).blocks b h.value h.is h.other (subst (IsHeldBy j) (sym h.hand) refl) in record { hand = k.0 ∙ h.hand; value = h.value; is = k.1; other = h.other })

  pub spared : (x : UnderWay K V K) (did : Did x) → NoRow x did → (j b : ℕ) → j ≢ i → IsInHand w j b → IsInHand w2 j b
  spared (OnKey x) (p2, end, machine_is, told_is, inl (step, moved)) own j b ne h = by_went step.step.went.w2 moved.0 step.step.went.spares j b ne h
  spared (OnKey x) (p2, end, machine_is, told_is, inr row) own j b ne h = absurd own
  spared (ForRoom x) (p2, end, machine_is, told_is, inl (step, moved)) own j b ne h = by_went step.step.went.w2 moved.0 step.step.went.spares j b ne h
  spared (ForRoom x) (p2, end, machine_is, told_is, inr row) own j b ne h = absurd own
  spared (Counting x) (sum2, end, machine_is, told_is, still, stayed) own j b ne h = subst (λ (x : World (Node K V)). IsInHand x j b) (sym stayed.0) h
  spared (OverAll x) (p2, end, machine_is, told_is, inl (step, moved)) own j b ne h = by_went step.step.went.w2 moved.0 step.step.went.spares j b ne h
  spared (OverAll x) (p2, end, machine_is, told_is, inr row) own j b ne h = absurd own

  abbrev IsLost : ℕ → Type 0
  IsLost b = (told ≡ changed.Took b) ⊎ (known2.roles b ≡ role.Pair (known.stored + 1))

  -- what is in hand then is not gone, and not linked
  not_lost : (j b : ℕ) → IsInHand w2 j b → IsLost b → ⊥
  not_lost j b h (inl took) =
      (let gone : value_at new.memory b ≡ None = (subst (LeavesBy w.memory new.memory) took left).1 in
      let is : value_at new.memory b ≡ Some h.value = ap (λ (n : Mem (Node K V)). value_at n b) (sym to.4.memory) ∙ h.is in cc (gone, is))
  not_lost j b h (inr pair) = subst WasLinked h.hand (subst (HasRole w2 v.stored b) pair (then_shown.blocks.roles b)).4

  only : NoRow u to.4.did → (j b : ℕ) → known.roles b ≡ role.OwnPair j → IsLost b → j ≡ i
  only own j b is lost = elim (cases_eq j i) as (λ _. j ≡ i) [
    | inl e ↦ e
    | inr ne ↦ absurd (not_lost j b (spared u to.4.did own j b ne (in_hand same hash name m known s old at shown made j b is)) lost)
  ]

  -- by one of a row each block is whose it was

  pub takes : (NoRow u to.4.did → ⊥) → TakesNone told
  takes other = (rows_hand_theirs K V same hash name m known s old new at whole.all map i u here said leads other).1

  by_row : TakesNone told → (w3 : World (Node K V)) → w3.memory ≡ new.memory → IsOneStep st.setting i w w3 → known2.roles ≡ known.roles
  by_row none w3 memory happened =
      (row_done i map m known w w3 shown.blocks (one_step_leaves st.setting i w w3 each.ground.came happened) told
      (subst (λ (n : Mem (Node K V)). LeavesBy w.memory n told) (sym memory) left) none).roles

  pub row_roles : TakesNone told → (x : UnderWay K V K) (did : Did x) → (NoRow x did → ⊥) → known2.roles ≡ known.roles
  row_roles none (OnKey x) (p2, end, machine_is, told_is, inl step) other = absurd (other tt)
  row_roles none (OnKey x) (p2, end, machine_is, told_is, inr (row, stayed)) other = by_row none row.step.w2 row.step.memory row.step.happened
  row_roles none (ForRoom x) (p2, end, machine_is, told_is, inl step) other = absurd (other tt)
  row_roles none (ForRoom x) (p2, end, machine_is, told_is, inr (row, stayed)) other = by_row none row.step.w2 row.step.memory row.step.happened
  row_roles none (Counting x) did other = absurd (other tt)
  row_roles none (OverAll x) (p2, end, machine_is, told_is, inl step) other = absurd (other tt)
  row_roles none (OverAll x) (p2, end, machine_is, told_is, inr (row, stayed)) other = by_row none row.step.w2 row.step.memory row.step.happened

  row_quiet : TakesNone told → known2.roles ≡ known.roles → DoesSo its known told → NoneOfBlock effects
  row_quiet none roles (Leaves same quiet) = quiet
  row_quiet none roles (Makes b made_one free) =
      absurd (let now : known2.roles b ≡ role.OwnPair i = ap (λ (t : Changed). (known_after its t known).roles b) made_one ∙ put_here b (role.OwnPair i) known.roles b refl in
      let r : role.Free ≡ role.OwnPair i = sym free ∙ ap (λ (f : ℕ → Role). f b) (sym roles) ∙ now in cc r)
  row_quiet none roles (GivesUp b j took was) = absurd (subst TakesNone took none)
  row_quiet none roles (Stores b j was is others storing) = absurd (let r : role.OwnPair j ≡ role.Pair (known.stored + 1) = sym was ∙ ap (λ (f : ℕ → Role). f b) (sym roles) ∙ is in cc r)

  -- what its machine names then, and owns

  key_places : (x : CallOnKey K V K) → s.calls map i ≡ Some (OnKey x) → Did (OnKey x) → (n : NewTable) → making_in_calling x.call.stands ≡ Some n → HasPlaces n.stands
  key_places x is (p2, end, machine_is, told_is, inl (step, moved)) n making = elim (each.stand i (OnKey x) is) as (λ _. HasPlaces n.stands) [
    | inl k ↦ key_has same st.hash st.setting slot_of w st.chart (seen_by st.blocks (st.sights (slot_of i))) i n x x.call k.1 making
    | inr k ↦ absurd (step.no_row k.1)
  ]
  key_places x is (p2, end, machine_is, told_is, inr (row, stayed)) n making = absurd (let none = call_none x.call.stands row.is_row in cc (none, making))

  room_places : (x : CallForRoom) → s.calls map i ≡ Some (ForRoom x) → Did (ForRoom x) → (n : NewTable) → making_in_reserving x.reserve.stands ≡ Some n → HasPlaces n.stands
  room_places x is (p2, end, machine_is, told_is, inl (step, moved)) n making = elim (each.stand i (ForRoom x) is) as (λ _. HasPlaces n.stands) [
    | inl k ↦ reserve_has same st.hash st.setting slot_of w st.chart (seen_by st.blocks (st.sights (slot_of i))) i n x.began x.reserve k.1 making
    | inr k ↦ absurd (step.no_row k.1)
  ]
  room_places x is (p2, end, machine_is, told_is, inr (row, stayed)) n making = absurd (let none = room_none x.reserve.stands row.is_row in cc (none, making))

  sweep_places : (x : CallOverAll) → s.calls map i ≡ Some (OverAll x) → Did (OverAll x) → (n : NewTable) → making_in_sweeping x.sweep.stands ≡ Some n → HasPlaces n.stands
  sweep_places x is (p2, end, machine_is, told_is, inl (step, moved)) n making = elim (each.stand i (OverAll x) is) as (λ _. HasPlaces n.stands) [
    | inl k ↦ over_all_has same st.hash st.setting slot_of w st.chart (seen_by st.blocks (st.sights (slot_of i))) i n x x.sweep k.1 making
    | inr k ↦ absurd (step.no_row k.1)
  ]
  sweep_places x is (p2, end, machine_is, told_is, inr (row, stayed)) n making = absurd (let none = sweep_none x.sweep.stands row.is_row in cc (none, making))

  abbrev MayStep : UnderWay K V K → Type 0
  MayStep x = May Can Took value_at old.memory (machine_plan same same to.0.hash (machine_of x))

  abbrev Stepped : UnderWay K V K → Type 0
  Stepped x = StepsFrom same to.0.hash (machine_of x) old new to.1 said

  abbrev GoesTo : UnderWay K V K → Type 0
  GoesTo x = WordGoes told (own_word (machine_of x)) (own_word to.1) × OwnsSo to.1

  -- a step that leaves the memory makes no block
  still_none : new.memory ≡ w.memory → (b : ℕ) → told ≡ changed.Made kind.Pair b → ⊥
  still_none still b is = (let by = subst (LeavesBy w.memory new.memory) is left in let none = by.0 in let there = by.3 in
      let same_value : value_at new.memory b ≡ value_at w.memory b = ap (λ (n : Mem (Node K V)). value_at n b) still in cc (none, there, same_value))

  goes_by : (x : UnderWay K V K) → s.calls map i ≡ Some x → Stepped x → MayStep x → OwnsSo (machine_of x) → Did x → GoesTo x
  goes_by (OnKey x) is steps may owns did =
      let has = key_places x is did in (
        key_word same same to.0.hash old.memory new.memory told to.1 said x.call owns has may steps,
        key_owns same same to.0.hash old.memory new.memory told to.1 said x.call owns has may steps,
      )
  goes_by (ForRoom x) is steps may owns did = (
    room_word same same to.0.hash old.memory new.memory told to.1 said (ap own_word did.2) x.reserve (room_places x is did) steps,
    subst OwnsSo (sym did.2) tt,
  )
  goes_by (Counting x) is steps may owns (sum2, end, machine_is, told_is, still, stayed) = (KeepsWord (ap own_word machine_is) (still_none still), subst OwnsSo (sym machine_is) tt)
  goes_by (OverAll x) is steps may owns did = (
    over_word same same to.0.hash old.memory new.memory told to.1 said (ap own_word did.2) x.sweep (sweep_places x is did) steps,
    subst OwnsSo (sym did.2) tt,
  )

  may : MayStep u
  may = may_step same hash old s at map to.0 to.2 i u here

  owns : OwnsSo (machine_of u)
  owns = (made.named map i u here).0

  word_goes : GoesTo u
  word_goes = goes_by u here to.3 may owns to.4.did

  -- a call that makes a block for a pair has a value for it

  key_values : (x : CallOnKey K V K) → s.calls map i ≡ Some (OnKey x) → Stepped (OnKey x) → Did (OnKey x) → (b : ℕ) → told ≡ changed.Made kind.Pair b → HasGiven x.pair
  key_values x is steps did b made_one =
      let it = told_in old.memory new.memory told of_key (call_plan same same to.0.hash x.call) (to.1, said) steps in
      elim (call_makes same same to.0.hash x.call) as (λ _. HasGiven x.pair) [
        | inr so ↦ absurd (
            let by = plan_made (making_in_calling x.call.stands) old.memory new.memory told (call_plan same same to.0.hash x.call) it.0 it.2 so kind.Pair b made_one in
            none_for_pair (making_in_calling x.call.stands) by.0 by.1 (key_places x is did) by.2
            )
        | inl own ↦ elim (each.stand i (OnKey x) is) as (λ _. HasGiven x.pair) [
          | inl k ↦
              knows_given same st.hash st.setting slot_of w st.chart (seen_by st.blocks (st.sights (slot_of i))) i x x.call k.1 own to.0.hash old.memory new.memory told it.0
              (λ nothing. (let both = sym nothing ∙ made_one in cc both)) it.2
          | inr k ↦ absurd (row_no_own x.call.stands k.1 own)
        ]
      ]

  values_by : (x : UnderWay K V K) → s.calls map i ≡ Some x → Stepped x → Did x → (b : ℕ) → told ≡ changed.Made kind.Pair b → (c : CallThere K V) → call_of (name i) m ≡ Some c → IsCalled same x c.call
      → has_value_for c.call c ≡ true
  values_by (OnKey x) is steps did b made_one c c_is called =
      call_valued same (shown.number map) st.chart.stored known x c c.call called (whole.all.asked.each map i (OnKey x) is st to.2 c c_is) (key_values x is steps did b made_one)
  values_by (ForRoom x) is steps did b made_one c c_is called =
      absurd (room_no_pair same same to.0.hash old.memory new.memory told to.1 said x.reserve (room_places x is did) steps b made_one)
  values_by (Counting x) is steps (sum2, end, machine_is, told_is, still, stayed) b made_one c c_is called = absurd (still_none still b made_one)
  values_by (OverAll x) is steps did b made_one c c_is called =
      absurd (over_no_pair same same to.0.hash old.memory new.memory told to.1 said x.sweep (sweep_places x is did) steps b made_one)

  values : MakersHaveValues (name i) m i map known told
  values b made_one c c_is =
      let there = shown.calls map i u here in
      let one : there.0 ≡ c = one_of there.0 c (sym there.1 ∙ c_is) in
      values_by u here to.3 to.4.did b made_one c c_is (subst (λ (y : CallThere K V). IsCalled same u y.call) one there.3)

  abbrev Left : Type 0
  Left = LeavesMade (name i) m i map known told (own_word to.1)

  left_all : Left
  left_all = elim (of_row same hash name m known s old new at whole map i u here said leads u to.4.did) as (λ _. Left) [
    | inl own ↦ leaves_made (name i) m i map known told (own_word (machine_of u)) (own_word to.1) word_goes.0 (made.named map i u here).1 values (only own) does
    | inr other ↦
        let none = takes other in
        let roles = row_roles none u to.4.did other in
        left_so (name i) m i map known told (own_word (machine_of u)) (own_word to.1) word_goes.0 (made.named map i u here).1 (λ x. ap (λ (f : ℕ → Role). own_of (f x)) roles) (row_quiet none roles does)
  ]

  -- a call that has ended has no such block

  -- of the pairs that a call on one key looks at after a step that is none of a row
  module _ (x : CallOnKey K V K) (p2 : KeyCall K V K) (end : Called (Node K V)) (step : StepsWithEndings V same same old.batch_size old.roots slot_of s.world s.maps s.calls s.makers s.enders map st i x new.memory p2 end)
      (moved : to.4.maps2 ≡ with_at s.maps map (Some (record st { chart = step.step.went.c2; blocks = step.step.blocks2; sights = step.step.sights2 }))) where
    seen_then : (n : ℕ) → n < step.step.went.c2.stored → step.step.went.blocks2.pair_known n ≡ true → known2.roles (step.step.went.blocks2.pair n) ≡ role.Pair (then_shown.number map n)
    seen_then n l known_too = roles_then same old.batch_size old.roots s map i st (sight step.step.inside) x new.memory p2 end step then_shown moved n l known_too

  module _ (x : CallOnKey K V K) (is : s.calls map i ≡ Some (OnKey x)) (steps : Stepped (OnKey x)) (may_x : MayStep (OnKey x)) (owns_x : Owns x.call) (b : ℕ) (its_block : IsItsBlock known2 i b) where
    -- the block that its machine names is no pair's
    not_a_pair : (did : Did (OnKey x))
        → ((k : ℕ) × (known2.roles (block_in (came_to same same to.0.hash old.memory new.memory told to.1 said x.call owns_x (key_places x is did) may_x steps).0.0.own) ≡ role.Pair k)) → ⊥
    not_a_pair did pair =
        (let has = key_places x is did in
        let word = ap own_word (key_machine same same to.0.hash old.memory new.memory told to.1 said x.call owns_x has may_x steps) in
        let names = left_all.named b its_block in
        let r : role.Pair pair.0 ≡ role.OwnPair i = sym pair.1 ∙ ap (λ (y : ℕ). known2.roles (block_in y)) (sym word) ∙ ap known2.roles (sym names.1) ∙ its_block in cc r)

    -- it names some block
    names_some : (did : Did (OnKey x)) → (came_to same same to.0.hash old.memory new.memory told to.1 said x.call owns_x (key_places x is did) may_x steps).0.0.own ≢ 0
    names_some did zero_word =
        (left_all.named b its_block).0 (ap own_word (key_machine same same to.0.hash old.memory new.memory told to.1 said x.call owns_x (key_places x is did) may_x steps) ∙ zero_word)

    key_ends : (did : Did (OnKey x)) → ((NoRow (OnKey x) did → ⊥) → known2.roles ≡ known.roles) → to.4.next ≡ None → ⊥
    key_ends (p2, end, machine_is, told_is, inl (step, moved)) quiet none =
        let did : Did (OnKey x) = (p2, end, machine_is, told_is, inl (step, moved)) in
        let has = key_places x is did in
        let r = (came_to same same to.0.hash old.memory new.memory told to.1 said x.call owns_x has may_x steps).0 in
        let tells = key_tells same same to.0.hash old.memory new.memory told to.1 said x.call owns_x has may_x steps in
        let code = key_code same same to.0.hash old.memory new.memory told to.1 said x.call owns_x has may_x steps in
        let says = key_said same same to.0.hash old.memory new.memory told to.1 said x.call owns_x has may_x steps in
        elim (which_end _ end (sym moved.2 ∙ none)) as (λ _. ⊥) [
          | inr refused ↦ names_some did (refused_own r refused.0 (sym (told_is ∙ ap of_called refused.1) ∙ says) tells)
          | inl answered ↦
              not_a_pair did (answer_pair same st.hash st.setting slot_of step.step.went.w2 step.step.went.c2 step.step.went.blocks2 i x (at.together.makings.standing.fit map st to.2).0 known2 (then_shown.number map)
              (seen_then x p2 end step moved.1) (λ n l k. (step.step.went.map.map.shows.pair_numbers n l k).0) r.0 code (names_some did) _ answered.0 (step.step.answers answered.0 answered.1)
              (answered_own r answered.0 (sym (told_is ∙ ap of_called answered.1) ∙ says) tells))
        ]
    key_ends (p2, end, machine_is, told_is, inr (row, stayed)) quiet none =
        let did : Did (OnKey x) = (p2, end, machine_is, told_is, inr (row, stayed)) in
        let has = key_places x is did in
        let r = (came_to same same to.0.hash old.memory new.memory told to.1 said x.call owns_x has may_x steps).0 in
        let tells = key_tells same same to.0.hash old.memory new.memory told to.1 said x.call owns_x has may_x steps in
        let code = key_code same same to.0.hash old.memory new.memory told to.1 said x.call owns_x has may_x steps in
        let says = key_said same same to.0.hash old.memory new.memory told to.1 said x.call owns_x has may_x steps in
        elim (which_end _ end (sym stayed.2 ∙ none)) as (λ _. ⊥) [
          | inr refused ↦ names_some did (refused_own r refused.0 (sym (told_is ∙ ap of_called refused.1) ∙ says) tells)
          | inl answered ↦
              not_a_pair did (answer_pair same st.hash st.setting slot_of row.step.w2 st.chart (seen_by st.blocks (st.sights (slot_of i))) i x (at.together.makings.standing.fit map st to.2).0 known2 (shown.number map)
              (λ n l k. ap (λ (f : ℕ → Role). f (st.blocks.pair n)) (quiet (λ own. own)) ∙ (shown.maps map st to.2).pairs.roles n l ((sight (each.inside i (OnKey x) is)).pairs n l k))
              (λ n l k. (each.ground.map.map.shows.pair_numbers n l ((sight (each.inside i (OnKey x) is)).pairs n l k)).0) r.0 code (names_some did) x.change answered.0 (row.step.answers answered.0 answered.1)
              (answered_own r answered.0 (sym (told_is ∙ ap of_called answered.1) ∙ says) tells))
        ]

  ends_by : (x : UnderWay K V K) → s.calls map i ≡ Some x → Stepped x → MayStep x → OwnsSo (machine_of x) → (did : Did x) → ((NoRow x did → ⊥) → known2.roles ≡ known.roles) → to.4.next ≡ None
      → (b : ℕ) → IsItsBlock known2 i b → ⊥
  ends_by (OnKey x) is steps may_x owns_x did quiet none b its_block = key_ends x is steps may_x owns_x b its_block did quiet none
  ends_by (ForRoom x) is steps may_x owns_x did quiet none b its_block = (left_all.named b its_block).0 (ap own_word did.2)
  ends_by (Counting x) is steps may_x owns_x did quiet none b its_block = (left_all.named b its_block).0 (ap own_word did.2)
  ends_by (OverAll x) is steps may_x owns_x did quiet none b its_block = (left_all.named b its_block).0 (ap own_word did.2)

  ends_none : to.4.next ≡ None → (b : ℕ) → IsItsBlock known2 i b → ⊥
  ends_none none b its_block = ends_by u here to.3 may owns to.4.did (λ other. row_roles (takes other) u to.4.did other) none b its_block

  -- what each call has then

  its_there : (c : CallThere K V) × (call_of (name i) m ≡ Some c)
  its_there = let c = shown.calls map i u here in (c.0, c.1)

  own_has : (d : CallThere K V) → call_of (name i) v ≡ Some d → HasBlock known2 i d.has_block
  own_has d d_is =
      let c = its_there.0 in
      subst (HasBlock known2 i) (sym (field_own (λ (x : CallThere K V). x.has_block) block_by effect_block (name i) map effects m c its_there.1 d d_is))
      (left_all.has c.has_block (made.has map i u here c its_there.1))

  -- others have what they had
  others_has : (j : ℕ) → j ≢ i → (h : Bool) → HasBlock known j h → HasBlock known2 j h
  others_has j ne true has = (has.0, left_all.theirs j has.0 ne has.1)
  others_has j ne false none = λ b is. none b (left_all.back j b ne is)

  apart_from : (n j : ℕ) (x : UnderWay K V K) → (n ≡ map → j ≡ i → ⊥) → s.calls n j ≡ Some x → is_same (name j) (name i) ≡ true → ⊥
  apart_from n j x apart was names = (let both = whole.all.asked.apart n j map i x u was here names in apart both.0 both.1)

  not_it : (n j : ℕ) (x : UnderWay K V K) → (n ≡ map → j ≡ i → ⊥) → s.calls n j ≡ Some x → j ≢ i
  not_it n j x apart was e = apart_from n j x apart was (ap (λ (k : ℕ). is_same (name k) (name i)) e ∙ is_same_refl (name i))

  other_has : (n j : ℕ) (x : UnderWay K V K) → (n ≡ map → j ≡ i → ⊥) → s.calls n j ≡ Some x → (d : CallThere K V) → call_of (name j) v ≡ Some d → HasBlock known2 j d.has_block
  other_has n j x apart was d d_is =
      let c = shown.calls n j x was in
      subst (HasBlock known2 j) (sym (field_other (λ (x : CallThere K V). x.has_block) block_by effect_block (name i) map effects m (name j) (apart_from n j x apart was) c.0 c.1 d d_is))
      (others_has j (not_it n j x apart was) c.0.has_block (made.has n j x was c.0 c.1))

  has_then : (n j : ℕ) (x : UnderWay K V K) → led.calls n j ≡ Some x → (d : CallThere K V) → call_of (name j) v ≡ Some d → HasBlock known2 j d.has_block
  has_then n j x is d d_is = elim (which s.calls map i to.4.next n j x is) as (λ _. HasBlock known2 j d.has_block) [
    | inl it ↦ subst (λ (k : ℕ). HasBlock known2 k d.has_block) (sym it.1) (own_has d (ap (λ (k : ℕ). call_of (name k) v) (sym it.1) ∙ d_is))
    | inr was ↦ other_has n j x was.0 was.1 d d_is
  ]

  abbrev Named : ℕ → UnderWay K V K → Type 0
  Named j x = OwnsSo (machine_of x) × NamesBlock known2 j (own_word (machine_of x))

  named_then : (n j : ℕ) (x : UnderWay K V K) → led.calls n j ≡ Some x → Named j x
  named_then n j x is = elim (which s.calls map i to.4.next n j x is) as (λ _. Named j x) [
    | inl it ↦
        subst (λ (k : ℕ). Named k x) (sym it.1)
        (subst (λ (y : Machine K V K). OwnsSo y × NamesBlock known2 i (own_word y)) (sym (goes_as_one to.1 said to.4.next to.4.goes_on x it.2)) (word_goes.1, left_all.named))
    | inr was ↦ let before = made.named n j x was.1 in (before.0, λ b its_block. before.1 b (left_all.back j b (not_it n j x was.0 was.1) its_block))
  ]

  abbrev HasOne : ℕ → Type 0
  HasOne j = (n : ℕ) × (x : UnderWay K V K) × (led.calls n j ≡ Some x)

  whose_then : (j b : ℕ) → IsItsBlock known2 j b → HasOne j
  whose_then j b its_block = elim (cases_eq j i) as (λ _. HasOne j) [
    | inl e ↦ subst HasOne (sym e) (by_next to.4.next refl (subst (λ (k : ℕ). IsItsBlock known2 k b) e its_block))
    | inr ne ↦ let before = made.whose j b (left_all.back j b ne its_block) in (before.0, before.1, calls_beside s.calls map i to.4.next before.0 j ne ∙ before.2)
  ]
    where
      by_next : (o : Option (UnderWay K V K)) → to.4.next ≡ o → IsItsBlock known2 i b → HasOne i
      by_next None none mine = absurd (ends_none none b mine)
      by_next (Some x) some mine = (map, x, calls_its s.calls map i to.4.next ∙ some)

  none_has : (h : Bool) → HasBlock known2 i h → ((b : ℕ) → IsItsBlock known2 i b → ⊥) → h ≡ false
  none_has true has none = absurd (none has.0 has.1)
  none_has false has none = refl

  pub step_keeps_made : FindBlocks (name i) map effects m × RefinesMade name v known2 led × (to.4.next ≡ None → (c : CallThere K V) → call_of (name i) v ≡ Some c → c.has_block ≡ false)
  step_keeps_made = (
    left_all.finds its_there.0 its_there.1 (made.has map i u here its_there.0 its_there.1),
    record { has = has_then; named = named_then; whose = whose_then },
    λ none c c_is. none_has c.has_block (own_has c c_is) (ends_none none),
  )

pub calls_keep_made : (K V : Type 0) (same : K → K → Bool) (hash : ℕ → K → ℕ) → CallsPreserveMade K V same hash
calls_keep_made K V same hash name m known s old new at whole made map i u here said leads = step_keeps_made same hash name m known s old new at whole made map i u here said leads
