-- A step of a call on one key that is none of a row, and copies no pairs: what the call has in hand goes with the effects of the step.
use Rattle.std.specs.Prelude.{◌≡◌, ℕ, ◌==◌, Bool, true, false, List, [], ◌∷◌, ◌++◌, Option, Some, None, if◌then◌else◌}
use Rattle.std.specs.List.{list_any}
use Rattle.std.proofs.Common.{refl, ap, sym, subst, ◌∙◌, inl, inr}
use Rattle.run_places.specs.Given.SeizeWordsWord.{block_in}
use Rattle.run_places.specs.Given.SeizeDeclared.rows.settle.Settled.{Settled}
use Rattle.run_places.specs.Given.SeizeDeclared.rows.settle.Settled.TheVariants as settled
use Rattle.run_places.specs.Given.TablesChunks.{is_incremental}
use Rattle.run_places.specs.Given.TablesDeclared.node.Node.{Node}
use Rattle.run_places.specs.Given.ResizeDispose.{dispose_plan, disposing}
use Rattle.run_places.specs.Given.ResizeDeclared.dispose.Dispose.{Dispose}
use Rattle.run_places.specs.Given.RawCall.{call_plan, plan_at, disposed}
use Rattle.run_places.specs.Given.RawCallPoints.{counted, going, over}
use Rattle.run_places.specs.Given.RawProgress.{of_called}
use Rattle.run_places.specs.Given.RawDeclared.machines.answer.Called.{Called}
use Rattle.run_places.specs.Given.RawDeclared.machines.answer.Called.TheVariants as called
use Rattle.run_places.specs.Given.RawDeclared.machines.answer.End.TheVariants as ends
use Rattle.run_places.specs.Given.RawDeclared.machines.answer.KeyAnswer.{KeyAnswer}
use Rattle.run_places.specs.Given.RawDeclared.machines.answer.KeyAnswer.TheVariants as answers
use Rattle.run_places.specs.Given.RawDeclared.machines.call.Calling.{Calling}
use Rattle.run_places.specs.Given.RawDeclared.machines.call.Calling.TheVariants as at
use Rattle.run_places.specs.Given.RawDeclared.machines.call.KeyCall.{KeyCall}
use Rattle.run_places.specs.Given.RawDeclared.machines.machine.Machine.{Machine}
use Rattle.run_places.specs.Given.RawDeclared.machines.machine.Machine.TheVariants as kinds
use Rattle.run_places.specs.Given.RawDeclared.machines.progress.Progress.{Progress}
use Rattle.run_places.specs.Given.RunsDeclared.effect.Effect.{Effect}
use Rattle.run_places.specs.Given.RunsDeclared.effect.Effect.TheVariants as effect
use Rattle.run_places.specs.Given.RunsDeclared.effect.TableId.{TableId}
use Rattle.run_places.specs.Given.RunsDeclared.effect.Thing.{Thing}
use Rattle.run_places.specs.Given.RunsDeclared.effect.Thing.TheVariants.{APair}
use Rattle.run_places.specs.Given.SchedulesMoment.{Moment}
use Rattle.run_places.specs.Given.EffectsDeclared.changed.Changed.{Changed}
use Rattle.run_places.specs.Given.EffectsDeclared.changed.Changed.TheVariants as changed
use Rattle.run_places.proofs.Given.RuleKeys.Always.{AlwaysOf, always_steps}
use Rattle.owner_facts.specs.Given.PointsFactsCalls.{Change, IsCopying}
use Rattle.owner_facts.specs.Given.PointsTold.{IsRowOfCall}
use Rattle.owner_facts.proofs.Given.PointsSteps.RootSteps.{call_is_promoting, spares_call}
use Rattle.owner_facts.specs.Alone.Handed.{call_has_unlinked}
use Rattle.owner_facts.specs.Given.CallersSights.{seen_by}
use Rattle.owner_facts.specs.Given.CallersTogether.{CallOnKey, OnKey, IsAtPoint, change_observed, next_of}
use Rattle.run_places.specs.Given.EffectsEffects.{effects_of}
use Rattle.run_places.specs.Given.EffectsKnown.{Known}
use Rattle.run_places.specs.Given.EffectsDeclared.acting.Acting.TheVariants as acts
use Rattle.run_places.specs.Given.EffectsDeclared.role.Role.TheVariants as role
use Rattle.owner_facts.specs.Given.FinishesEndings.{StepsWithEndings}
use Rattle.owner_facts.specs.Given.FinishesMachines.{machine_of}
use Rattle.owner_facts.specs.Given.FinishesMaps.{Standing}
use Rattle.run_places.specs.Given.FollowsShows.{Refines}
use Rattle.run_places.specs.Given.FollowsSteps.{IsOfNoRow}
use Rattle.run_places.proofs.Given.FollowsSteps.{WentTo, went_to, DidSo, OfNoRow}
use Rattle.run_places.proofs.Given.FollowsWrites.{nothing_free}
use Rattle.run_places.proofs.Hands.Done.{stepped, here}
use Rattle.run_places.proofs.Changes.Which.{DidOnce, DidNone, DidStore, DidReplace, DidRemove}
use Rattle.run_debts.specs.Hand.{thing_as, things_at, in_hand_of_call, in_hand, IsPairRole, NotesPair, NotesOfCall, NotesPending}
use Rattle.run_debts.specs.InHand.{pair_in_calling}
use Rattle.run_debts.specs.Owed.{PendingGoes}
use Rattle.run_debts.specs.Owing.{hands_over, HandsOver, AllLeave, ObligationsGo, KeepsOwed, TakesOut, PutsOver, Passes, HandsFirst}
use Rattle.run_debts.proofs.EndsOver.{IsOverAt, IsEnded, ended_step}
use Rattle.run_debts.proofs.Fresh.{IsBefore, IsFreshAt, IsFresh}
use Rattle.run_debts.proofs.Hand.Asked.{NoneOfCall}
use Rattle.run_debts.proofs.Held.{always_turned, IsDone, dispose_done, calls_hold_theirs}
use Rattle.run_debts.proofs.Leaving.{no_handing}
use Rattle.run_debts.proofs.Keys.{Together2, change2, once, did, fresh, unchanged, steps}
use Rattle.run_debts.proofs.Linked.{IsNoCopier, before_links, self_fresh}
use Rattle.run_debts.proofs.Nothing.{TakesNone, stands_none}
use Rattle.run_debts.proofs.Status.{KindOf, ToCount, ToDispose, IsAtEnd, ToChange, kind_at}
use Rattle.run_debts.proofs.Taken.{calls_take_in_hand}
use Rattle.run_debts.proofs.Takings.{steps_take_out}
use Rattle.run_debts.proofs.Unpromoted.{NonePromotes, none_promotes, spared_tells}
use Rattle.run_places.proofs.Given.ScenesTold.{as_step}
use Rattle.run_places.specs.Given.ScenesHeld.{Held, IsAt}
use Rattle.run_places.specs.Given.ScenesScene.{Scene, slot_of}
use Rattle.run_places.specs.Given.ScenesStepping.{StepLeads}

no_copier : (p : Calling) → (IsCopying p → ⊥) → IsNoCopier p
no_copier (at.Helps copier goal) none = absurd (none tt)
no_copier (at.Copies copier) none = absurd (none tt)
no_copier _ none = tt

promotes_none : (p : Calling) → (IsCopying p → ⊥) → call_is_promoting p ≡ false
promotes_none (at.Helps copier goal) none = absurd (none tt)
promotes_none (at.Copies copier) none = absurd (none tt)
promotes_none _ none = refl

module _ (known : Known) where
  -- where it has a pair in hand, that is all
  hand_of : (p : Calling) (word : ℕ) → pair_in_calling p ≡ Some word → in_hand_of_call known p ≡ thing_as (known.roles (block_in word))
  hand_of (at.Helps copier goal) word e = absurd (cc e)
  hand_of (at.Copies copier) word e = absurd (cc e)
  hand_of p word e = ap (things_at known) e

  note_of : (p : Calling) (word : ℕ) → pair_in_calling p ≡ Some word → NotesOfCall known p → IsPairRole (known.roles (block_in word))
  note_of (at.Helps copier goal) word e notes = absurd (cc e)
  note_of (at.Copies copier) word e notes = absurd (cc e)
  note_of p word e notes = subst (NotesPair known) e notes

  noted_of : (p : Calling) (word : ℕ) → pair_in_calling p ≡ Some word → IsPairRole (known.roles (block_in word)) → NotesOfCall known p
  noted_of (at.Helps copier goal) word e pair = absurd (cc e)
  noted_of (at.Copies copier) word e pair = absurd (cc e)
  noted_of p word e pair = subst (NotesPair known) (sym e) pair

  none_of : (p : Calling) → (IsCopying p → ⊥) → pair_in_calling p ≡ None → in_hand_of_call known p ≡ []
  none_of (at.Helps copier goal) none e = absurd (none tt)
  none_of (at.Copies copier) none e = absurd (none tt)
  none_of p none e = ap (things_at known) e

  over_none : (p : Calling) → IsOverAt p → NoneOfCall known p
  over_none (at.Over end) is = (refl, tt)
  over_none _ is = absurd is

  -- a call that is past its change, and has no pair in hand, has none after its step
  module _ {K V : Type 0} (asks same : K → K → Bool) (hash : K → ℕ) (p : KeyCall K V K) where
    abbrev NoneThen : KeyCall K V K × Called (Node K V) → Type 0
    NoneThen e = NoneOfCall known e.0.stands

    counted_none : (removed : ℕ) → (if removed == 0 then None else Some removed) ≡ None → NoneThen (counted p removed)
    counted_none removed e = by (removed == 0) e
      where
        by : (q : Bool) → (if q then None else Some removed) ≡ None
            → NoneThen (if q then over p (ends.Answered (answers.Stored p.own)) else going p (at.Disposes (disposing p.setting removed p.trial.table) (answers.Removed removed)))
        by true e = (refl, tt)
        by false e = absurd (cc e)

    done_none : (answer : KeyAnswer) (q : Dispose × Settled (Node K V)) → IsDone K V q → NoneThen (disposed p answer q)
    done_none answer (d, settled.Goes) e = absurd (cc e)
    done_none answer (d, settled.Waits) e = absurd (cc e)
    done_none answer (d, settled.Gave value) e = absurd (cc e)
    done_none answer (d, settled.Done) e = (refl, tt)

    past_none : (stands : Calling) → p.stands ≡ stands → (IsRowOfCall stands → ⊥) → pair_in_calling stands ≡ None → (IsBefore stands → ⊥) → AlwaysOf NoneThen (plan_at asks same hash p stands)
    past_none (at.Counts removed) is row e past = λ out. counted_none removed e
    past_none (at.Disposes d answer) is row e past = always_turned (IsDone K V) NoneThen (disposed p answer) (done_none answer) (dispose_plan d) (dispose_done K V d d.stands row e)
    past_none (at.Over end) is row e past = subst (NoneOfCall known) (sym is) (refl, tt)
    past_none _ is row e past = absurd (past tt)

module _ {K V : Type 0} (same : K → K → Bool) (hash : ℕ → K → ℕ) (name : ℕ → List ℕ) (m : Moment K V) (known : Known) (s : Scene K V) (old new : Held K V) (at_old : IsAt same hash old s)
    (shown : Refines same name m known s) (map i : ℕ) (x : CallOnKey K V K) (under_way : s.calls map i ≡ Some (OnKey x)) (said : Progress (Node K V)) (leads : StepLeads same hash i said s old new)
    (copies : IsCopying x.call.stands → ⊥) (notes : NotesOfCall known x.call.stands)
    (own : OfNoRow same hash name m known s old new at_old shown map i (OnKey x) under_way said leads (OnKey x) (went_to same hash name m known s old new at_old shown map i (OnKey x) under_way said leads).4.did)
    (p2 : KeyCall K V K) (end : Called (Node K V)) where
  abbrev to : WentTo same hash name m known s old new at_old shown map i (OnKey x) under_way said leads
  to = went_to same hash name m known s old new at_old shown map i (OnKey x) under_way said leads

  abbrev st : Standing K
  st = to.0

  abbrev told : Changed
  told = new.changed

  abbrev effects : List Effect
  effects = effects_of (acts.Call i map) known told

  abbrev before : List Thing
  before = in_hand_of_call known x.call.stands

  abbrev Goal : Machine K V K → Type 0
  Goal machine = ObligationsGo m effects before (in_hand known machine) × NotesPending known machine

  taking : (taken : List Thing) × ObligationsGo m effects before (before ++ taken) × (list_any hands_over effects ≡ false)
  taking = steps_take_out K V same hash name m known s old new at_old shown map i (OnKey x) under_way said leads own before

  none_handed : (f : Effect) (y : Thing) → effects ≡ f ∷ [] → HandsOver f y → ⊥
  none_handed = no_handing effects taking.2

  module _ (machine_is : to.1 ≡ kinds.Key p2) (told_is : said ≡ of_called end)
      (step : StepsWithEndings V same same old.batch_size old.roots slot_of s.world s.maps s.calls s.makers s.enders map st i x new.memory p2 end) where
    no_promotion : (t : TableId) → effects ≡ effect.Promoted t ∷ [] → ⊥
    no_promotion t are =
        (let none = none_promotes i map known (nothing_free s.world m.stored known shown.blocks.roles) told
        (spared_tells old.memory new.memory told (call_plan same same to.0.hash x.call) (p2, end) (spares_call same same to.0.hash x.call x.call.stands (promotes_none x.call.stands copies) step.no_row)
        (steps same hash name m known s old new at_old shown map i x under_way said leads p2 end machine_is told_is)) in
        let no = (subst NonePromotes are none).0 in cc no)

    -- it has a pair in hand, and has it still
    some_goes : (word : ℕ) → pair_in_calling x.call.stands ≡ Some word → Goal to.1
    some_goes word e =
        let held = calls_hold_theirs K V same hash name m known s old new at_old shown map i x under_way said leads own word e in
        let same_hand : in_hand_of_call known held.0.stands ≡ before =
        hand_of known held.0.stands held.2 held.3 ∙ ap (λ (b : ℕ). thing_as (known.roles b)) held.4 ∙ sym (hand_of known x.call.stands word e) in
        subst Goal (sym held.1)
        (KeepsOwed (by taking.1) same_hand, noted_of known held.0.stands held.2 held.3 (subst (λ (b : ℕ). IsPairRole (known.roles b)) (sym held.4) (note_of known x.call.stands word e notes)))
      where
        by : ObligationsGo m effects before (before ++ taking.0) → AllLeave effects
        by (KeepsOwed all same_owed) = all
        by (TakesOut p are more) = absurd (let none = (calls_take_in_hand K V same hash name m known s old new at_old shown map i x under_way said leads own p (inl are)).0 in cc (none, e))
        by (PutsOver p n sp are more) =
            absurd (let none = (calls_take_in_hand K V same hash name m known s old new at_old shown map i x under_way said leads own p (inr (n, sp, are))).0 in cc (none, e))
        by (Passes t are more) = absurd (no_promotion t are)
        by (HandsFirst f y are hands less) = absurd (none_handed f y are hands)

    abbrev Tog : Called (Node K V) → Type 0
    Tog = Together2 same hash name m known s old new at_old shown map i x under_way said leads p2 end machine_is told_is step

    abbrev Took : (e : Called (Node K V)) → Tog e → Change
    Took e tog = change_observed V same st.hash same st.setting slot_of tog.went.told

    on_none : (e : Called (Node K V)) (tog : Tog e) → IsFreshAt p2.stands → call_has_unlinked p2.stands ≡ false → TakesNone (Took e tog)
        → IsAtPoint V same st.hash same st.setting slot_of tog.went.w2 tog.went.c2 (seen_by tog.blocks2 (tog.sights2 (slot_of i))) i
        (OnKey (stepped same st.hash same st.setting slot_of s.world st.chart st.blocks st.sights (s.calls map) i x new.memory p2 e tog)) → NoneOfCall known p2.stands
    on_none e tog its linked takes stands =
        stands_none known same st.hash st.setting slot_of tog.went.w2 tog.went.c2 (seen_by tog.blocks2 (tog.sights2 (slot_of i))) i
        (stepped same st.hash same st.setting slot_of s.world st.chart st.blocks st.sights (s.calls map) i x new.memory p2 e tog) its linked takes stands

    -- where it goes on, or has ended, and took none out
    none_by : (e : Called (Node K V)) (tog : Tog e) → IsFresh (p2, e) → IsEnded (p2, e) → call_has_unlinked p2.stands ≡ false → TakesNone (Took e tog) → NoneOfCall known p2.stands
    none_by called.Goes tog its ended linked takes = on_none called.Goes tog its linked takes (tog.together.stand i _ (here same st.hash same st.setting slot_of s.world st.chart st.blocks st.sights (s.calls map) i x new.memory p2 called.Goes tog))
    none_by called.Waits tog its ended linked takes = on_none called.Waits tog its linked takes (tog.together.stand i _ (here same st.hash same st.setting slot_of s.world st.chart st.blocks st.sights (s.calls map) i x new.memory p2 called.Waits tog))
    none_by (called.Gave value) tog its ended linked takes = on_none (called.Gave value) tog its linked takes (tog.together.stand i _ (here same st.hash same st.setting slot_of s.world st.chart st.blocks st.sights (s.calls map) i x new.memory p2 (called.Gave value) tog))
    none_by (called.Unstored value) tog its ended linked takes = on_none (called.Unstored value) tog its linked takes (tog.together.stand i _ (here same st.hash same st.setting slot_of s.world st.chart st.blocks st.sights (s.calls map) i x new.memory p2 (called.Unstored value) tog))
    none_by (called.Asks about) tog its ended linked takes = on_none (called.Asks about) tog its linked takes (tog.together.stand i _ (here same st.hash same st.setting slot_of s.world st.chart st.blocks st.sights (s.calls map) i x new.memory p2 (called.Asks about) tog))
    none_by (called.Done answer) tog its ended linked takes = over_none known p2.stands ended
    none_by (called.Refused fault) tog its ended linked takes = over_none known p2.stands ended

    went : IsEnded (p2, end)
    went = ended_step same same to.0.hash x.call old.memory new.memory (p2, end)
        (as_step old.memory changed.Nothing (call_plan same same to.0.hash x.call) new.memory told (p2, end)
        (steps same hash name m known s old new at_old shown map i x under_way said leads p2 end machine_is told_is))

    abbrev OutNow : Change
    OutNow = change2 same hash name m known s old new at_old shown map i x under_way said leads p2 end machine_is told_is step

    -- effects that leave what is owed take none out
    takes_by : AllLeave effects → DidOnce same st.hash (is_incremental st.setting.mode) x.keys st.chart step.step.went.c2 (shown.number map) known.stored effects OutNow → TakesNone OutNow
    takes_by all (DidNone e none) = subst TakesNone (sym e) tt
    takes_by all (DidStore sp are e absent comes) = subst TakesNone (sym e) tt
    takes_by all (DidReplace k sp are e pair comes) = absurd (let no = (subst AllLeave are all).0 in cc no)
    takes_by all (DidRemove k are e pair) = absurd (let no = (subst AllLeave are all).0 in cc no)

    takes_none : IsBefore x.call.stands → AllLeave effects → TakesNone OutNow
    takes_none early all = elim (once same hash name m known s old new at_old shown map i x under_way said leads p2 end machine_is told_is step) as (λ _. TakesNone OutNow) [
      | inl kept ↦ subst TakesNone (sym (kept.0 ∙ unchanged same hash name m known s old new at_old shown map i x under_way said leads p2 end machine_is told_is step early)) tt
      | inr changes ↦ takes_by all (did same hash name m known s old new at_old shown map i x under_way said leads p2 end machine_is told_is step OutNow changes.1)
    ]

    -- it has none in hand, and takes none out: it has none then
    none_after : pair_in_calling x.call.stands ≡ None → AllLeave effects → NoneOfCall known p2.stands
    none_after e all = by (kind_at x.call.stands)
      where
        its : (IsBefore x.call.stands → ⊥) → NoneOfCall known p2.stands
        its past =
            always_steps (NoneThen known same same to.0.hash x.call) old.memory new.memory (call_plan same same to.0.hash x.call) (p2, end)
            (past_none known same same to.0.hash x.call x.call.stands refl step.no_row e past)
            (as_step old.memory changed.Nothing (call_plan same same to.0.hash x.call) new.memory told (p2, end)
            (steps same hash name m known s old new at_old shown map i x under_way said leads p2 end machine_is told_is))

        by : KindOf x.call.stands → NoneOfCall known p2.stands
        by (ToCount removed is) = its (λ early. subst IsBefore is early)
        by (ToDispose dispose answer is) = its (λ early. subst IsBefore is early)
        by (IsAtEnd over is) = its (λ early. subst IsBefore is early)
        by (ToChange early) =
            let none = no_copier x.call.stands copies in
            none_by end step.step (fresh same hash name m known s old new at_old shown map i x under_way said leads p2 end machine_is told_is step early) went
            (before_links same same to.0.hash x.call x.call.stands none early (self_fresh x.call x.call.stands none early) old.memory new.memory (p2, end)
            (as_step old.memory changed.Nothing (call_plan same same to.0.hash x.call) new.memory told (p2, end)
            (steps same hash name m known s old new at_old shown map i x under_way said leads p2 end machine_is told_is)))
            (takes_none early all)

    none_goes : pair_in_calling x.call.stands ≡ None → Goal to.1
    none_goes e = by taking.1
      where
        nothing : before ≡ []
        nothing = none_of known x.call.stands copies e

        -- it has the pair in hand that it has taken out
        out_goes : (p : ℕ) (q : KeyCall K V K) (word : ℕ) → pair_in_calling q.stands ≡ Some word → known.roles (block_in word) ≡ role.Pair p
            → (in_hand_of_call known q.stands ≡ before ++ APair p ∷ []) × NotesOfCall known q.stands
        out_goes p q word pair its_role = (
          hand_of known q.stands word pair ∙ ap thing_as its_role ∙ ap (λ (l : List Thing). l ++ APair p ∷ []) (sym nothing),
          noted_of known q.stands word pair (subst IsPairRole (sym its_role) tt),
        )

        by : ObligationsGo m effects before (before ++ taking.0) → Goal to.1
        by (KeepsOwed all same_owed) = let none = none_after e all in subst Goal (sym machine_is) (KeepsOwed all (none.0 ∙ sym nothing), none.1)
        by (TakesOut p are more) =
            let it = calls_take_in_hand K V same hash name m known s old new at_old shown map i x under_way said leads own p (inl are) in
            let hand = out_goes p it.1 it.3 it.4 it.5 in
            subst Goal (sym it.2) (TakesOut p are hand.0, hand.1)
        by (PutsOver p n sp are more) =
            let it = calls_take_in_hand K V same hash name m known s old new at_old shown map i x under_way said leads own p (inr (n, sp, are)) in
            let hand = out_goes p it.1 it.3 it.4 it.5 in
            subst Goal (sym it.2) (PutsOver p n sp are hand.0, hand.1)
        by (Passes t are more) = absurd (no_promotion t are)
        by (HandsFirst f y are hands less) = absurd (none_handed f y are hands)

    goes : Goal to.1
    goes = by (pair_in_calling x.call.stands) refl
      where
        by : (o : Option ℕ) → pair_in_calling x.call.stands ≡ o → Goal to.1
        by None e = none_goes e
        by (Some word) e = some_goes word e

    -- once it has ended it has nothing in hand
    ended_none : (u : CallOnKey K V K) (e : Called (Node K V)) → IsEnded (p2, e) → next_of u e ≡ None → in_hand known to.1 ≡ []
    ended_none u (called.Done answer) ended none = ap (in_hand known) machine_is ∙ (over_none known p2.stands ended).0
    ended_none u (called.Refused fault) ended none = ap (in_hand known) machine_is ∙ (over_none known p2.stands ended).0
    ended_none u called.Goes ended none = absurd (cc none)
    ended_none u called.Waits ended none = absurd (cc none)
    ended_none u (called.Gave value) ended none = absurd (cc none)
    ended_none u (called.Unstored value) ended none = absurd (cc none)
    ended_none u (called.Asks about) ended none = absurd (cc none)

    pub key_goes : (u : CallOnKey K V K) → to.4.next ≡ next_of u end → Goal to.1 × (to.4.next ≡ None → in_hand known to.1 ≡ [])
    key_goes u moved = (goes, λ none. ended_none u end went (sym moved ∙ none))

-- A step of a call on one key that is none of a row, where the call copies no pairs: what it has in hand goes so.
abbrev KeysGoInHand : (K V : Type 0) (same : K → K → Bool) (hash : ℕ → K → ℕ) → Type 0
KeysGoInHand K V same hash =
    (name : ℕ → List ℕ) (m : Moment K V) (known : Known) (s : Scene K V) (old new : Held K V) → IsAt same hash old s → Refines same name m known s
    → (map i : ℕ) (x : CallOnKey K V K) (here : s.calls map i ≡ Some (OnKey x)) (said : Progress (Node K V)) (leads : StepLeads same hash i said s old new)
    → (IsCopying x.call.stands → ⊥) → NotesPending known (machine_of (OnKey x))
    → (let to = leads map (OnKey x) here in
    IsOfNoRow same old.batch_size old.roots s.world s.maps s.calls s.makers s.enders map to.0 i new.memory to.4.w2 to.4.maps2 to.4.next (OnKey x) to.1 said to.4.did
    → PendingGoes K V same hash m known s old new map i (OnKey x) said here leads)

pub keys_go_in_hand : (K V : Type 0) (same : K → K → Bool) (hash : ℕ → K → ℕ) → KeysGoInHand K V same hash
keys_go_in_hand K V same hash name m known s old new at_old shown map i x under_way said leads copies notes own =
    by (went_to same hash name m known s old new at_old shown map i (OnKey x) under_way said leads).4.did own
  where
    by : (done : DidSo same hash name m known s old new at_old shown map i (OnKey x) under_way said leads (OnKey x))
        → OfNoRow same hash name m known s old new at_old shown map i (OnKey x) under_way said leads (OnKey x) done → PendingGoes K V same hash m known s old new map i (OnKey x) said under_way leads
    by (p2, end, machine_is, told_is, inl (step, moved)) none =
        let it = key_goes same hash name m known s old new at_old shown map i x under_way said leads copies notes own p2 end machine_is told_is step _ moved.2 in (it.0.0, it.0.1, it.1)
    by (p2, end, machine_is, told_is, inr row) none = absurd none
