-- What a step of a call on one key does to what it has to count.
use Rattle.std.specs.Prelude.{◌≡◌, ◌<◌, ◌+◌, ◌%◌, ◌^◌, ℕ, Bool, true, false, bit_and, List, [], ◌∷◌, flat_map, Some, None, ◌⊎◌}
use Rattle.std.proofs.Common.{refl, ap, sym, subst, ◌∙◌, inl, inr}
use Rattle.run_places.specs.Given.SeizeWordsDeclared.at.At.TheVariants.{Word}
use Rattle.run_places.specs.Given.SeizeWordsMem.{Mem}
use Rattle.run_places.specs.Given.SeizeWordsOp.{Found, Stored as StoredOut, Exchanged, Made, Taken, Roomed}
use Rattle.run_places.specs.Given.SeizeWorld.{World}
use Rattle.run_places.specs.Given.TablesChunks.{is_incremental}
use Rattle.run_places.specs.Given.TablesCounts.{count_change}
use Rattle.run_places.specs.Given.TablesDeclared.node.Node.{Node}
use Rattle.run_places.specs.Given.TablesDeclared.setting.Setting.{Setting}
use Rattle.run_places.specs.Given.ResizeDeclared.dispose.Dispose.{Dispose}
use Rattle.run_places.specs.Given.RawCall.{call_plan, plan_at}
use Rattle.run_places.specs.Given.RawMachine.{called as of_key}
use Rattle.run_places.specs.Given.RawProgress.{of_called}
use Rattle.run_places.specs.Given.RawDeclared.machines.answer.Called.{Called}
use Rattle.run_places.specs.Given.RawDeclared.machines.answer.Called.TheVariants as called
use Rattle.run_places.specs.Given.RawDeclared.machines.answer.End.{End}
use Rattle.run_places.specs.Given.RawDeclared.machines.answer.KeyAnswer.{KeyAnswer}
use Rattle.run_places.specs.Given.RawDeclared.machines.call.Calling.{Calling}
use Rattle.run_places.specs.Given.RawDeclared.machines.call.Calling.TheVariants as at
use Rattle.run_places.specs.Given.RawDeclared.machines.call.KeyCall.{KeyCall}
use Rattle.run_places.specs.Given.RawDeclared.machines.machine.Machine.{Machine}
use Rattle.run_places.specs.Given.RawDeclared.machines.machine.Machine.TheVariants as kinds
use Rattle.run_places.specs.Given.RawDeclared.machines.progress.Progress.{Progress}
use Rattle.run_places.specs.Given.RunsDeclared.effect.Effect.{Effect}
use Rattle.run_places.specs.Given.RunsDeclared.effect.Effect.TheVariants as effect
use Rattle.run_places.specs.Given.SchedulesLinearizable.{shift_of}
use Rattle.run_places.specs.Given.SchedulesMoment.{Moment}
use Rattle.run_places.specs.Given.TellerTells.{StepsObserved}
use Rattle.run_places.specs.Given.EffectsDeclared.changed.Changed.{Changed}
use Rattle.run_places.specs.Given.EffectsDeclared.changed.Changed.TheVariants as changed
use Rattle.run_places.specs.Given.RuleChart.{Chart}
use Rattle.run_places.specs.Given.RuleWords.{Blocks}
use Rattle.run_places.proofs.Given.RuleLaws.{current_is_known}
use Rattle.owner_facts.specs.Given.PointsFactsCalls.{Change, Unchanged, Seeks, AnswersChange, CallingFacts, Changes}
use Rattle.owner_facts.specs.Given.PointsTold.{IsRowOfCall}
use Rattle.owner_facts.specs.Given.LateLateCalls.{SupersededCalling}
use Rattle.owner_facts.specs.Given.CallersSights.{seen_by}
use Rattle.owner_facts.specs.Given.CallersTogether.{CallOnKey, OnKey, Knows, IsAtPoint, IsOneStep, StepOutcome, Fresh, Late, StepsTogether, change_observed, next_of, in_slot}
use Rattle.run_places.specs.Given.EffectsEffects.{names_same, in_block, named, effects_of}
use Rattle.run_places.specs.Given.EffectsKnown.{Known}
use Rattle.run_places.specs.Given.EffectsDeclared.acting.Acting.{Acting}
use Rattle.run_places.specs.Given.EffectsDeclared.acting.Acting.TheVariants as acts
use Rattle.run_places.specs.Given.EffectsDeclared.role.Role.{Role}
use Rattle.owner_facts.specs.Given.FinishesEndings.{StepsWithEndings}
use Rattle.owner_facts.specs.Given.FinishesMaps.{Standing}
use Rattle.run_places.specs.Given.FollowsShows.{Refines}
use Rattle.run_places.specs.Given.FollowsSteps.{TakesNone}
use Rattle.run_places.proofs.Given.FollowsOperations.{LeavesBy, operated_leaves}
use Rattle.run_places.proofs.Given.FollowsRowSteps.{row_done}
use Rattle.run_places.proofs.Given.FollowsRows.{one_step_leaves}
use Rattle.run_places.proofs.Given.FollowsSteps.{WentTo, went_to, made_so, is_inside, DidSo, OfNoRow}
use Rattle.run_places.proofs.Hands.Done.{stepped, here}
use Rattle.run_places.proofs.Given.OthersOutcomes.{told_in}
use Rattle.run_places.proofs.Spots.Shifts.{Shifts}
use Rattle.run_places.proofs.Spots.Steps.{moved_shifts}
use Rattle.run_places.proofs.Changes.Changes.{hands_shift}
use Rattle.run_places.proofs.Changes.Which.{DidOnce, DidNone, DidStore, DidReplace, DidRemove, did_once, none_shifted}
use Rattle.run_debts.specs.Counts.{counts_in_calling, is_to_count, shard_for}
use Rattle.run_debts.proofs.Aimed.{CallsElsewhere}
use Rattle.run_debts.proofs.Aims.{plan_aimed, call_aims}
use Rattle.run_debts.proofs.Fresh.{IsBefore, IsFreshAt, IsFresh, fresh_step}
use Rattle.run_debts.proofs.Gains.{AllApart, all_apart, NoneCounts, CountGoes, KeepsCount, AddsOne, GivesWay, TakesOne, CountsAll}
use Rattle.run_debts.proofs.Here.{IsNoCount, each, key_no}
use Rattle.run_debts.proofs.Points.{IsBeyond, past_step}
use Rattle.run_debts.proofs.Status.{same_called, KindOf, ToCount, ToDispose, IsAtEnd, ToChange, kind_at, before_elsewhere, before_not, elsewhere_not, row_beyond, Status, IsNone, IsOver, IsNew, IsGone, plain_tells, unchanged_tells, stands_status}
use Rattle.run_debts.proofs.Uncounted.{CountsNowhere, none_counts}
use Rattle.run_places.proofs.Given.ScenesTold.{as_step}
use Rattle.run_places.specs.Given.ScenesHeld.{Held, IsAt}
use Rattle.run_places.specs.Given.ScenesScene.{Scene, slot_of}
use Rattle.run_places.specs.Given.ScenesStepping.{StepLeads}

module _ {K V : Type 0} (same : K → K → Bool) (hash : ℕ → K → ℕ) (name : ℕ → List ℕ) (m : Moment K V) (known : Known) (s : Scene K V) (old new : Held K V) (at_old : IsAt same hash old s)
    (shown : Refines same name m known s) (map i : ℕ) (x : CallOnKey K V K) (under_way : s.calls map i ≡ Some (OnKey x)) (said : Progress (Node K V)) (leads : StepLeads same hash i said s old new) where
  abbrev to : WentTo same hash name m known s old new at_old shown map i (OnKey x) under_way said leads
  to = went_to same hash name m known s old new at_old shown map i (OnKey x) under_way said leads

  abbrev st : Standing K
  st = to.0

  abbrev ch : Chart K
  ch = st.chart

  abbrev told : Changed
  told = new.changed

  abbrev effects : List Effect
  effects = effects_of (acts.Call i map) known told

  abbrev shard : ℕ
  shard = shard_for i st.setting

  abbrev Goes : Bool → Bool → Type 0
  Goes before after = CountGoes (Unit {0}) shard effects before after

  -- of a step that has come to this
  module _ (p2 : KeyCall K V K) (end : Called (Node K V)) (machine_is : to.1 ≡ kinds.Key p2) (told_is : said ≡ of_called end) where
    abbrev Stepped : KeyCall K V K × Called (Node K V) → Type 0
    Stepped e = StepsObserved K V (KeyCall K V K × Called (Node K V)) old.memory changed.Nothing (call_plan same same to.0.hash x.call) new.memory told e

    pub steps : Stepped (p2, end)
    steps = by inner.0 inner.1 inner.2
      where
        inner : (r : KeyCall K V K × Called (Node K V)) × (◌≡◌ {A = Machine K V K × Progress (Node K V)} (to.1, said) (of_key r)) × Stepped r
        inner = told_in old.memory new.memory told of_key (call_plan same same to.0.hash x.call) (to.1, said) to.3

        by : (r : KeyCall K V K × Called (Node K V)) → ◌≡◌ {A = Machine K V K × Progress (Node K V)} (to.1, said) (of_key r) → Stepped r → Stepped (p2, end)
        by (q, said_so) is st =
            let machines : kinds.Key q ≡ kinds.Key p2 = sym (ap (λ (z : Machine K V K × Progress (Node K V)). z.0) is) ∙ machine_is in
            let says : of_called said_so ≡ of_called end = sym (ap (λ (z : Machine K V K × Progress (Node K V)). z.1) is) ∙ told_is in
            let one : q ≡ p2 = cc machines in
            subst (λ (z : Called (Node K V)). Stepped (p2, z)) (same_called said_so end says) (subst (λ (z : KeyCall K V K). Stepped (z, said_so)) one st)

    after_is : is_to_count to.1 ≡ counts_in_calling p2.stands
    after_is = ap is_to_count machine_is

    -- where it is not about to count, nothing is counted
    pub nowhere : CallsElsewhere x.call.stands → CountsNowhere known told
    nowhere elsewhere b field old_word new_word of is role_is =
        plan_aimed (IsNoCount known) old.memory new.memory told (call_plan same same to.0.hash x.call) (p2, end) steps
        (call_aims (IsNoCount known) K V same same to.0.hash x.call (key_no same hash name m known s old at_old shown map i st to.2 (OnKey x) under_way x under_way elsewhere)) b field old_word new_word is of role_is

    pub uncounted : CallsElsewhere x.call.stands → NoneCounts effects
    uncounted elsewhere = none_counts i map known told (nowhere elsewhere)

    keeps : (before after : Bool) → CallsElsewhere x.call.stands → flat_map shift_of effects ≡ [] → after ≡ before → Goes before after
    keeps before after elsewhere none e = KeepsCount (all_apart effects none (uncounted elsewhere)) e

    pub past : IsBeyond x.call.stands → counts_in_calling p2.stands ≡ false
    past beyond = past_step same same to.0.hash x.call beyond old.memory new.memory (p2, end) (as_step old.memory changed.Nothing (call_plan same same to.0.hash x.call) new.memory told (p2, end) steps)

    -- one of a row
    row_goes : IsRowOfCall x.call.stands → flat_map shift_of effects ≡ [] → Goes (counts_in_calling x.call.stands) (counts_in_calling p2.stands)
    row_goes is_row none =
        let beyond = row_beyond x.call.stands is_row in
        keeps (counts_in_calling x.call.stands) (counts_in_calling p2.stands) beyond.1 none (past beyond.0 ∙ sym (elsewhere_not x.call.stands beyond.1))

    -- one that is none of a row
    module _ (step : StepsWithEndings V same same old.batch_size old.roots slot_of s.world s.maps s.calls s.makers s.enders map st i x new.memory p2 end) where
      abbrev pub together : StepsTogether V same st.hash same st.setting slot_of s.world ch st.blocks st.sights (s.calls map) i x new.memory p2 end
      together = step.step

      abbrev pub c2 : Chart K
      c2 = together.went.c2

      abbrev pub change2 : Change
      change2 = change_observed V same st.hash same st.setting slot_of together.went.told

      its_shifts : Shifts ch c2 (shown.number map) known.stored effects
      its_shifts =
          moved_shifts same hash m known s old new at_old name shown map i st to.2 (name i) (made_so same hash name m known s old new at_old shown map i (OnKey x) under_way said leads)
          (is_inside same hash name m known s old new at_old shown map i (OnKey x) under_way said leads) _ together.went together.blocks2 together.grown together.sights2

      pairs_there : (n : ℕ) → ch.current n ≡ true → n < ch.stored
      pairs_there n is =
          let its = each same hash name m known s old at_old shown map i st to.2 (OnKey x) under_way in
          (current_is_known same st.hash st.setting s.world.memory ch st.blocks its.ground.map.map.rule its.ground.map.map.shows n is).0

      abbrev pub Once : Change → Type 0
      Once change = DidOnce same st.hash (is_incremental st.setting.mode) x.keys ch c2 (shown.number map) known.stored effects change

      -- the call has changed no more than before, and no pair has come or gone; or it had changed nothing, and has changed this
      abbrev pub ToldOnce : Chart K → Change → Type 0
      ToldOnce after change = ((change ≡ x.change) × (after.current ≡ ch.current)) ⊎ ((x.change ≡ Unchanged) × Changes same st.hash (is_incremental st.setting.mode) x.keys ch after change)

      told_once : {w2 : World (Node K V)} {after : Chart K} {blocks2 : Blocks} → (it : StepOutcome V same st.hash same st.setting slot_of ch i x p2 end w2 after blocks2)
          → ToldOnce after (change_observed V same st.hash same st.setting slot_of it)
      told_once (Fresh its) = its.changes
      told_once (Late blocking none its) = inl (sym none, its.same_pairs)

      pub once : ToldOnce c2 change2
      once = told_once together.went.told

      pub did : (change : Change) → Changes same st.hash (is_incremental st.setting.mode) x.keys ch c2 change → Once change
      did change changes = did_once same st.hash (is_incremental st.setting.mode) x.keys ch c2 (shown.number map) known.stored effects pairs_there its_shifts change changes

      pub none_moved : c2.current ≡ ch.current → flat_map shift_of effects ≡ []
      none_moved kept = none_shifted same st.hash (is_incremental st.setting.mode) x.keys ch c2 (shown.number map) known.stored effects Unchanged refl (did Unchanged kept)

      -- what it knew before
      abbrev Knew : Type 0
      Knew = Knows V same st.hash same st.setting slot_of s.world ch (seen_by st.blocks (st.sights (slot_of i))) i x x.call

      knew : Knew
      knew = elim ((each same hash name m known s old at_old shown map i st to.2 (OnKey x) under_way).stand i (OnKey x) under_way) as (λ _. Knew) [
        | inl k ↦ k.1
        | inr k ↦ absurd (step.no_row k.1)
      ]

      abbrev SeeksAt : Calling → Type 0
      SeeksAt p = Seeks same st.hash same s.world i (in_slot st.setting (slot_of i)) ch (seen_by st.blocks (st.sights (slot_of i))) x.keys x.change p

      before_seeks : (p : Calling) → IsBefore p → SeeksAt p
      before_seeks (at.Counts removed) before = absurd before
      before_seeks (at.Disposes dispose answer) before = absurd before
      before_seeks (at.Over e) before = absurd before
      before_seeks _ before = tt

      pub unchanged : IsBefore x.call.stands → x.change ≡ Unchanged
      unchanged before = elim (knew.facts) as (λ _. x.change ≡ Unchanged) [
        | inl facts ↦ facts.unchanged (before_seeks x.call.stands before)
        | inr late ↦ late.0
      ]

      its_setting : x.call.setting ≡ in_slot st.setting (slot_of i)
      its_setting = elim (knew.facts) as (λ _. x.call.setting ≡ in_slot st.setting (slot_of i)) [
        | inl facts ↦ facts.setting_is
        | inr late ↦ late.1.setting_is
      ]

      pub fresh : IsBefore x.call.stands → IsFresh (p2, end)
      fresh before =
          fresh_step same same to.0.hash x.call before old.memory new.memory (p2, end) (as_step old.memory changed.Nothing (call_plan same same to.0.hash x.call) new.memory told (p2, end) steps)

      -- where a call goes on, or ends, which had changed nothing
      abbrev pub Together2 : Called (Node K V) → Type 0
      Together2 e = StepsTogether V same st.hash same st.setting slot_of s.world ch st.blocks st.sights (s.calls map) i x new.memory p2 e

      abbrev StatusOf : (e : Called (Node K V)) → Together2 e → Type 0
      StatusOf e tog = Status (change_observed V same st.hash same st.setting slot_of tog.went.told) (counts_in_calling p2.stands)

      on_status : (e : Called (Node K V)) (tog : Together2 e) → IsFreshAt p2.stands
          → IsAtPoint V same st.hash same st.setting slot_of tog.went.w2 tog.went.c2 (seen_by tog.blocks2 (tog.sights2 (slot_of i))) i
          (OnKey (stepped same st.hash same st.setting slot_of s.world ch st.blocks st.sights (s.calls map) i x new.memory p2 e tog)) → StatusOf e tog
      on_status e tog its stands =
          stands_status same st.hash st.setting slot_of tog.went.w2 tog.went.c2 (seen_by tog.blocks2 (tog.sights2 (slot_of i))) i
          (stepped same st.hash same st.setting slot_of s.world ch st.blocks st.sights (s.calls map) i x new.memory p2 e tog) its stands

      status : (e : Called (Node K V)) (tog : Together2 e) → IsFresh (p2, e) → StatusOf e tog
      status called.Goes tog its =
          on_status called.Goes tog its (tog.together.stand i _ (here same st.hash same st.setting slot_of s.world ch st.blocks st.sights (s.calls map) i x new.memory p2 called.Goes tog))
      status called.Waits tog its =
          on_status called.Waits tog its (tog.together.stand i _ (here same st.hash same st.setting slot_of s.world ch st.blocks st.sights (s.calls map) i x new.memory p2 called.Waits tog))
      status (called.Gave value) tog its =
          on_status (called.Gave value) tog its
          (tog.together.stand i _ (here same st.hash same st.setting slot_of s.world ch st.blocks st.sights (s.calls map) i x new.memory p2 (called.Gave value) tog))
      status (called.Unstored value) tog its =
          on_status (called.Unstored value) tog its
          (tog.together.stand i _ (here same st.hash same st.setting slot_of s.world ch st.blocks st.sights (s.calls map) i x new.memory p2 (called.Unstored value) tog))
      status (called.Asks about) tog its =
          on_status (called.Asks about) tog its
          (tog.together.stand i _ (here same st.hash same st.setting slot_of s.world ch st.blocks st.sights (s.calls map) i x new.memory p2 (called.Asks about) tog))
      status (called.Done answer) tog its = elim ((tog.answers answer refl).1) as (λ _. StatusOf (called.Done answer) tog) [
        | inl none ↦ IsNone none.0 its.1
        | inr has ↦ absurd (plain_tells same st.hash tog.went.w2 i (in_slot st.setting (slot_of i)) tog.went.c2 tog.went.blocks2 x.keys _ answer its.0 has.1)
      ]
      status (called.Refused fault) tog its = IsNone (tog.refuses fault refl).0 its

      abbrev before_counts : Bool
      before_counts = counts_in_calling x.call.stands

      abbrev after_counts : Bool
      after_counts = counts_in_calling p2.stands

      module _ (before : IsBefore x.call.stands) where
        none_before : before_counts ≡ false
        none_before = before_not x.call.stands before

        stays_none : flat_map shift_of effects ≡ [] → after_counts ≡ false → Goes before_counts after_counts
        stays_none none never = keeps before_counts after_counts (before_elsewhere x.call.stands before) none (never ∙ sym none_before)

        kept_goes : change2 ≡ x.change → c2.current ≡ ch.current → Status change2 after_counts → Goes before_counts after_counts
        kept_goes e cur (IsNone is never) = stays_none (none_moved cur) never
        kept_goes e cur (IsOver o n is never) = stays_none (none_moved cur) never
        kept_goes e cur (IsNew n is counts) = absurd (let un = unchanged before in cc (e, un, is))
        kept_goes e cur (IsGone n is counts) = absurd (let un = unchanged before in cc (e, un, is))

        once_goes : Once change2 → Status change2 after_counts → Goes before_counts after_counts
        once_goes (DidNone e none) (IsNone is never) = stays_none none never
        once_goes (DidNone e none) (IsOver o n is never) = stays_none none never
        once_goes (DidNone e none) (IsNew n is counts) = absurd (cc (e, is))
        once_goes (DidNone e none) (IsGone n is counts) = absurd (cc (e, is))
        once_goes (DidStore sp are e absent comes) (IsNone is never) = absurd (cc (e, is))
        once_goes (DidStore sp are e absent comes) (IsOver o n is never) = absurd (cc (e, is))
        once_goes (DidStore sp are e absent comes) (IsNew n is counts) = AddsOne tt (known.stored + 1) sp are counts
        once_goes (DidStore sp are e absent comes) (IsGone n is counts) = absurd (cc (e, is))
        once_goes (DidReplace k sp are e pair comes) (IsNone is never) = absurd (cc (e, is))
        once_goes (DidReplace k sp are e pair comes) (IsOver o n is never) = GivesWay tt (shown.number map k) (known.stored + 1) sp are (never ∙ sym none_before)
        once_goes (DidReplace k sp are e pair comes) (IsNew n is counts) = absurd (cc (e, is))
        once_goes (DidReplace k sp are e pair comes) (IsGone n is counts) = absurd (cc (e, is))
        once_goes (DidRemove k are e pair) (IsNone is never) = absurd (cc (e, is))
        once_goes (DidRemove k are e pair) (IsOver o n is never) = absurd (cc (e, is))
        once_goes (DidRemove k are e pair) (IsNew n is counts) = absurd (cc (e, is))
        once_goes (DidRemove k are e pair) (IsGone n is counts) = TakesOne (shown.number map k) are counts

        before_goes : Goes before_counts after_counts
        before_goes = elim once as (λ _. Goes before_counts after_counts) [
          | inl kept ↦ kept_goes kept.0 kept.1 (status end together (fresh before))
          | inr changes ↦ once_goes (did change2 changes.1) (status end together (fresh before))
        ]

      -- it counts
      abbrev pub SteppedAt : Calling → Type 0
      SteppedAt p = StepsObserved K V (KeyCall K V K × Called (Node K V)) old.memory changed.Nothing (plan_at same same to.0.hash x.call p) new.memory told (p2, end)

      wrote_count : (removed : ℕ) → SteppedAt (at.Counts removed)
          → (o : ℕ) × (told ≡ changed.Wrote (Word x.call.setting.counter (bit_and x.call.setting.slot x.call.setting.mask)) o ((o + count_change removed) % 2 ^ 64))
      wrote_count removed (Found word, (took, told_so), ends) = (word, told_so)
      wrote_count removed (StoredOut, (took, told_so), ends) = absurd took.0
      wrote_count removed (Exchanged r, (took, told_so), ends) = absurd took.0
      wrote_count removed (Made r, (took, told_so), ends) = absurd took.0
      wrote_count removed (Taken r, (took, told_so), ends) = absurd took.0
      wrote_count removed (Roomed r, (took, told_so), ends) = absurd took.0

      abbrev its : Acting
      its = acts.Call i map

      -- in its shard, by as much as it is to count
      pub adds_now : (removed : ℕ) → x.call.stands ≡ at.Counts removed → (o : ℕ) × (told ≡ changed.Wrote (Word st.setting.counter shard) o ((o + count_change removed) % 2 ^ 64))
      adds_now removed is =
          let wrote = wrote_count removed (subst SteppedAt is steps) in
          (wrote.0, wrote.1 ∙ ap (λ (z : Setting). changed.Wrote (Word z.counter (bit_and z.slot z.mask)) wrote.0 ((wrote.0 + count_change removed) % 2 ^ 64)) its_setting)

      pub counts_now : (removed : ℕ) → x.call.stands ≡ at.Counts removed → effects ≡ effect.Counted shard ∷ []
      counts_now removed is =
          let o = (adds_now removed is).0 in
          let n = (o + count_change removed) % 2 ^ 64 in
          ap (effects_of its known) (adds_now removed is).1
          ∙ ap (λ (r : Role). in_block its r shard known.stored (names_same o n) (named known o) (named known n)) (shown.maps map st to.2).counter

      counting_goes : (removed : ℕ) → x.call.stands ≡ at.Counts removed → Goes before_counts after_counts
      counting_goes removed is = CountsAll (counts_now removed is) (ap counts_in_calling is) (past (subst IsBeyond (sym is) tt))

      -- it is past that
      pub disposing_tells : (dispose : Dispose) (answer : KeyAnswer) → x.call.stands ≡ at.Disposes dispose answer
          → AnswersChange same st.hash same s.world i (in_slot st.setting (slot_of i)) ch (seen_by st.blocks (st.sights (slot_of i))) x.keys x.change x.change answer
      disposing_tells dispose answer is = elim (knew.facts) as
          (λ _. AnswersChange same st.hash same s.world i (in_slot st.setting (slot_of i)) ch (seen_by st.blocks (st.sights (slot_of i))) x.keys x.change x.change answer) [
            | inl facts ↦
                (subst (λ (p : Calling). CallingFacts same st.hash same s.world i (in_slot st.setting (slot_of i)) ch (seen_by st.blocks (st.sights (slot_of i))) x.keys x.change x.call p) is facts.point).1
            | inr late ↦
                absurd (subst (λ (p : Calling). SupersededCalling same st.hash same s.world i (in_slot st.setting (slot_of i)) ch (seen_by st.blocks (st.sights (slot_of i))) x.keys x.began x.call p) is late.1.point)
          ]

      disposing_goes : (dispose : Dispose) (answer : KeyAnswer) → x.call.stands ≡ at.Disposes dispose answer → Goes before_counts after_counts
      disposing_goes dispose answer is = elim once as (λ _. Goes before_counts after_counts) [
        | inl kept ↦ keeps before_counts after_counts (subst CallsElsewhere (sym is) tt) (none_moved kept.1) (past (subst IsBeyond (sym is) tt) ∙ sym (ap counts_in_calling is))
        | inr changes ↦ absurd (unchanged_tells same st.hash s.world i (in_slot st.setting (slot_of i)) ch (seen_by st.blocks (st.sights (slot_of i))) x.keys x.change answer changes.0 (disposing_tells dispose answer is))
      ]

      over_goes : (e : End) → x.call.stands ≡ at.Over e → Goes before_counts after_counts
      over_goes e is =
          let nothing : told ≡ changed.Nothing = (subst SteppedAt is steps).2 in
          let none : effects ≡ [] = ap (effects_of its known) nothing in
          KeepsCount (subst AllApart (sym none) tt) (past (subst IsBeyond (sym is) tt) ∙ sym (ap counts_in_calling is))

      pub own_goes : Goes before_counts after_counts
      own_goes = by (kind_at x.call.stands)
        where
          by : KindOf x.call.stands → Goes before_counts after_counts
          by (ToCount removed is) = counting_goes removed is
          by (ToDispose dispose answer is) = disposing_goes dispose answer is
          by (IsAtEnd e is) = over_goes e is
          by (ToChange before) = before_goes before

      ended_by : (e : Called (Node K V)) (u : CallOnKey K V K) → IsFresh (p2, e) → next_of u e ≡ None → after_counts ≡ false
      ended_by (called.Done answer) u its none = its.1
      ended_by (called.Refused fault) u its none = its
      ended_by called.Goes u its none = absurd (cc none)
      ended_by called.Waits u its none = absurd (cc none)
      ended_by (called.Gave value) u its none = absurd (cc none)
      ended_by (called.Unstored value) u its none = absurd (cc none)
      ended_by (called.Asks about) u its none = absurd (cc none)

      pub own_ended : (u : CallOnKey K V K) → next_of u end ≡ None → after_counts ≡ false
      own_ended u none = by (kind_at x.call.stands)
        where
          by : KindOf x.call.stands → after_counts ≡ false
          by (ToCount removed is) = past (subst IsBeyond (sym is) tt)
          by (ToDispose dispose answer is) = past (subst IsBeyond (sym is) tt)
          by (IsAtEnd e is) = past (subst IsBeyond (sym is) tt)
          by (ToChange before) = ended_by end u (fresh before) none

  abbrev DidHere : Type 0
  DidHere = DidSo same hash name m known s old new at_old shown map i (OnKey x) under_way said leads (OnKey x)

  abbrev NoRow : DidHere → Type 0
  NoRow done = OfNoRow same hash name m known s old new at_old shown map i (OnKey x) under_way said leads (OnKey x) done

  -- what rows hand over shifts no pair
  pub row_none : (w2 : World (Node K V)) → w2.memory ≡ new.memory → IsOneStep st.setting i s.world w2 → TakesNone told → flat_map shift_of effects ≡ []
  row_none w2 memory happened none =
      hands_shift effects (row_done i map m known s.world w2 shown.blocks
      (one_step_leaves st.setting i s.world w2 (each same hash name m known s old at_old shown map i st to.2 (OnKey x) under_way).ground.came happened) told
      (subst (λ (n : Mem (Node K V)). LeavesBy s.world.memory n told) (sym memory)
      (operated_leaves s.world.memory new.memory told (made_so same hash name m known s old new at_old shown map i (OnKey x) under_way said leads))) none).hands

  -- so it is for each step
  pub key_counts : (done : DidHere) → ((NoRow done → ⊥) → TakesNone told) → Goes (counts_in_calling x.call.stands) (is_to_count to.1) × (to.4.next ≡ None → is_to_count to.1 ≡ false)
  key_counts (p2, end, machine_is, told_is, inl (step, moved)) takes = (
    subst (Goes (counts_in_calling x.call.stands)) (sym (after_is p2 end machine_is told_is)) (own_goes p2 end machine_is told_is step),
    λ none. after_is p2 end machine_is told_is ∙ own_ended p2 end machine_is told_is step _ (sym moved.2 ∙ none),
  )
  key_counts (p2, end, machine_is, told_is, inr (row, stayed)) takes = (
    subst (Goes (counts_in_calling x.call.stands)) (sym (after_is p2 end machine_is told_is))
        (row_goes p2 end machine_is told_is row.is_row (row_none row.step.w2 row.step.memory row.step.happened (takes (λ own. own)))),
    λ none. after_is p2 end machine_is told_is ∙ past p2 end machine_is told_is (row_beyond x.call.stands row.is_row).0,
  )
