-- Reservations, countings and walks change no pair, clearings and retainings remove pairs alone; so their events are linearizable.
use Rattle.std.specs.Prelude.{◌≡◌, ℕ, ◌<◌, Bool, true, false, List, [], ◌∷◌, ◌++◌, flat_map, Option, Some, ◌⊎◌}
use Rattle.std.proofs.Common.{refl, ap, sym, subst, ◌∙◌, arith, inl, inr}
use Rattle.std.proofs.lemmas.Bool.{cases_eq}
use Rattle.run_places.specs.Given.SeizeWordsMem.{Mem}
use Rattle.run_places.specs.Given.SeizeWorld.{World}
use Rattle.run_places.specs.Given.TablesChunks.{is_incremental}
use Rattle.run_places.specs.Given.TablesDeclared.node.Node.{Node}
use Rattle.run_places.specs.Given.ReservesDeclared.sweep.Purpose.{Purpose}
use Rattle.run_places.specs.Given.ReservesDeclared.sweep.Purpose.TheVariants.{Walks, Retains}
use Rattle.run_places.specs.Given.RawDeclared.machines.progress.Progress.{Progress}
use Rattle.run_places.specs.Given.RunsDeclared.call.Call.{Call}
use Rattle.run_places.specs.Given.RunsDeclared.call.Call.TheVariants as call
use Rattle.run_places.specs.Given.RunsDeclared.effect.Effect.{Effect}
use Rattle.run_places.specs.Given.RunsDeclared.outcome.Outcome.{Outcome}
use Rattle.run_places.specs.Given.RunsDeclared.outcome.Outcome.TheVariants as outcome
use Rattle.run_places.specs.Given.SchedulesEffects.{with_effects}
use Rattle.run_places.specs.Given.SchedulesEntry.{acting}
use Rattle.run_places.specs.Given.SchedulesLinearizable.{shift_of, MayRemove, RemovesOnly, Changes, Ends, AsksRight, IsRight, IsRightOf}
use Rattle.run_places.specs.Given.SchedulesMoment.{CallState, Going, Asking, Told, IsReady, UnderWay as CallThere, Moment}
use Rattle.run_places.specs.Given.SchedulesSequential.{Shift, ComesIn, GivesWay, GoesOut}
use Rattle.run_places.specs.Given.SchedulesViews.{call_of, reply_to}
use Rattle.run_places.specs.Given.RuleChart.{Chart, put}
use Rattle.run_places.proofs.Given.RuleLaws.{current_is_known}
use Rattle.run_places.proofs.Given.RuleMoves.Writes.{put_here, put_elsewhere}
use Rattle.run_places.specs.Given.PointsFactsCalls.{Unchanged}
use Rattle.run_places.specs.Given.CallersOverAll.{Verdict, CallOverAll, RemovesAsReplied}
use Rattle.run_places.specs.Given.CallersTogether.{UnderWay, OnKey, ForRoom, Counting, OverAll, Together, IsOneStep}
use Rattle.run_places.specs.Given.FinishesMaps.{Standing}
use Rattle.run_places.specs.Given.EffectsEffects.{effects_of}
use Rattle.run_places.specs.Given.EffectsKnown.{Known}
use Rattle.run_places.specs.Given.EffectsDeclared.acting.Acting.TheVariants as acts
use Rattle.run_places.specs.Given.FollowsCalls.{IsCalled}
use Rattle.run_places.specs.Given.FollowsShows.{Refines}
use Rattle.run_places.specs.Given.FollowsSteps.{TakesNone}
use Rattle.run_places.proofs.Given.FollowsOperations.{operated_leaves, LeavesBy}
use Rattle.run_places.proofs.Given.FollowsRows.{one_step_leaves}
use Rattle.run_places.proofs.Given.FollowsRowSteps.{row_done}
use Rattle.run_places.proofs.Given.FollowsSteps.{WentTo, went_to, made_so, DidSo, OfNoRow}
use Rattle.run_places.proofs.Hands.Replacing.{calls_after}
use Rattle.run_places.proofs.Hands.RowSteps.{rows_hand_theirs}
use Rattle.run_places.proofs.Spots.Shifts.{Shifts, KeepsAll, StoresOne, ReplacesOne, RemovesOne, calm_shifts}
use Rattle.run_places.proofs.Spots.Steps.{moved_shifts, stayed_calm}
use Rattle.run_places.specs.Moments.Whole.{RefinesWhole}
use Rattle.run_places.proofs.Moments.Calls.{of_row}
use Rattle.run_histories.specs.Histories.AsCalled.{purpose_of, IsLastReply, IsAsCalled, RefinesAsCalled}
use Rattle.run_histories.specs.Histories.OtherCalls.{IsOnNoKey, OthersRemoveOnly, RemovalsAdd, OthersAreLinearizable, NoCallsAreLinearizable}
use Rattle.run_places.proofs.Changes.Changes.{hands_shift}
use Rattle.run_places.proofs.Changes.Which.{did_once, none_shifted}
use Rattle.run_places.specs.Given.ScenesHeld.{Held, IsAt}
use Rattle.run_places.specs.Given.ScenesScene.{Scene, slot_of}
use Rattle.run_places.specs.Given.ScenesStepping.{StepLeads}
use Rattle.run_places.specs.Given.SchedulesTransition.{call_found, call_left, worked_by}
use Rattle.run_places.proofs.Given.General.{same_some as one_of}

module _ {K V : Type 0} (same : K → K → Bool) where
  -- nothing is what each call may remove
  none_removed : (its : Call K V) (c : CallThere K V) (done : List Shift) → done ≡ [] → RemovesOnly same its c done
  none_removed its c done none = subst (RemovesOnly same its c) (sym none) tt

  removals_add : (its : Call K V) (c : CallThere K V) (done more : List Shift) → RemovesOnly same its c done → RemovesOnly same its c more → RemovesOnly same its c (done ++ more)
  removals_add its c [] more h k = k
  removals_add its c (f ∷ done) more h k = (h.0, removals_add its c done more h.1 k)

  -- by the same replies it may remove the same
  may_same : (its : Call K V) (c d : CallThere K V) → d.replies ≡ c.replies → (f : Shift) → MayRemove same its d f → MayRemove same its c f
  may_same call.Clear c d e (GoesOut n) h = tt
  may_same call.Clear c d e (ComesIn n) h = h
  may_same call.Clear c d e (GivesWay n) h = h
  may_same call.Retain c d e (GoesOut n) h = ap (reply_to (Some n)) (sym e) ∙ h
  may_same call.Retain c d e (ComesIn n) h = h
  may_same call.Retain c d e (GivesWay n) h = h
  may_same (call.On one) c d e f h = h
  may_same (call.Reserve n) c d e f h = h
  may_same call.Len c d e f h = h
  may_same call.Walk c d e f h = h

  pub removes_same : (its : Call K V) (c d : CallThere K V) → d.replies ≡ c.replies → (done : List Shift) → RemovesOnly same its d done → RemovesOnly same its c done
  removes_same its c d e [] h = tt
  removes_same its c d e (f ∷ done) h = (may_same its c d e f h.0, removes_same its c d e done h.1)

  -- a clearing may remove each pair
  clears : (c : CallThere K V) (done : List Shift) → (done ≡ []) ⊎ ((q : ℕ) × (done ≡ GoesOut q ∷ [])) → RemovesOnly same call.Clear c done
  clears c done (inl none) = none_removed call.Clear c done none
  clears c done (inr (q, is)) = subst (RemovesOnly same call.Clear c) (sym is) (tt, tt)

module _ {K : Type 0} (same : K → K → Bool) (hash : K → ℕ) (incremental : Bool) (c c2 : Chart K) (number : ℕ → ℕ) (stored : ℕ) (effects : List Effect)
    (there : (n : ℕ) → c.current n ≡ true → n < c.stored) where
  -- where no pair has come or gone, none is said to have
  none_kept : Shifts c c2 number stored effects → c2.current ≡ c.current → flat_map shift_of effects ≡ []
  none_kept shifts kept = none_shifted same hash incremental (λ k. true) c c2 number stored effects Unchanged refl
      (did_once same hash incremental (λ k. true) c c2 number stored effects there shifts Unchanged kept)

  -- where none has come, one is said to have gone, or none
  module _ (less : (n : ℕ) → c2.current n ≡ true → c.current n ≡ true) where
    none_came : c2.current c.stored ≡ true → ⊥
    none_came now = let l = there c.stored (less c.stored now) in omega (arith, l)

    gone_only : Shifts c c2 number stored effects → (flat_map shift_of effects ≡ []) ⊎ ((q : ℕ) × (flat_map shift_of effects ≡ GoesOut q ∷ []))
    gone_only (KeepsAll kept none) = inl none
    gone_only (StoresOne s is cur) = absurd (none_came (ap (λ (f : ℕ → Bool). f c.stored) cur ∙ put_here c.current c.stored true))
    gone_only (ReplacesOne n s is was cur) = absurd (none_came (ap (λ (f : ℕ → Bool). f c.stored) cur ∙ put_here (put c.current n false) c.stored true))
    gone_only (RemovesOne n is was cur) = inr (number n, ap (λ (l : List Effect). flat_map shift_of l) is)

    -- the very one that has gone
    module _ (p : ℕ) (had : c.current p ≡ true) (gone : c2.current ≡ put c.current p false) where
      not_there : c2.current p ≡ false
      not_there = ap (λ (f : ℕ → Bool). f p) gone ∙ put_here c.current p false

      gone_that : Shifts c c2 number stored effects → flat_map shift_of effects ≡ GoesOut (number p) ∷ []
      gone_that (KeepsAll kept none) = absurd (let yes : c2.current p ≡ true = ap (λ (f : ℕ → Bool). f p) kept ∙ had in cc (yes, not_there))
      gone_that (StoresOne s is cur) = absurd (none_came (ap (λ (f : ℕ → Bool). f c.stored) cur ∙ put_here c.current c.stored true))
      gone_that (ReplacesOne n s is was cur) = absurd (none_came (ap (λ (f : ℕ → Bool). f c.stored) cur ∙ put_here (put c.current n false) c.stored true))
      gone_that (RemovesOne n is was cur) = elim (cases_eq p n) as (λ _. flat_map shift_of effects ≡ GoesOut (number p) ∷ []) [
        | inl e ↦ ap (λ (l : List Effect). flat_map shift_of l) is ∙ ap (λ (z : ℕ). GoesOut (number z) ∷ []) (sym e)
        | inr ne ↦ absurd (let yes : c2.current p ≡ true = ap (λ (f : ℕ → Bool). f p) cur ∙ put_elsewhere c.current n false p ne ∙ had in cc (yes, not_there))
      ]

-- by a step of a sweep no pair comes
module _ {K : Type 0} (o : CallOverAll) (c c2 : Chart K) where
  pub less_told : RemovesAsReplied o c c2 → (n : ℕ) → c2.current n ≡ true → c.current n ≡ true
  less_told (inl kept) n is = ap (λ (f : ℕ → Bool). f n) (sym kept) ∙ is
  less_told (inr (p, was, cur, why)) n is = elim (cases_eq n p) as (λ _. c.current n ≡ true) [
    | inl e ↦ ap c.current e ∙ was
    | inr ne ↦ sym (put_elsewhere c.current p false n ne) ∙ ap (λ (f : ℕ → Bool). f n) (sym cur) ∙ is
  ]

  -- and by one of a walk none goes
  walk_keeps : RemovesAsReplied o c c2 → o.sweep.purpose ≡ Walks → c2.current ≡ c.current
  walk_keeps (inl kept) walks = kept
  walk_keeps (inr (p, was, cur, inl clears)) walks = absurd (cc (walks, clears))
  walk_keeps (inr (p, was, cur, inr (retains, told))) walks = absurd (cc (walks, retains))

module _ {K V : Type 0} (same : K → K → Bool) (hash : ℕ → K → ℕ) (name : ℕ → List ℕ) (m : Moment K V) (known : Known) (s : Scene K V) (old new : Held K V) (at : IsAt same hash old s)
    (whole : RefinesWhole same name m known s) (all : RefinesAsCalled same name m known s) (map i : ℕ) (u : UnderWay K V K) (here : s.calls map i ≡ Some u) (said : Progress (Node K V))
    (leads : StepLeads same hash i said s old new) where
  abbrev shown : Refines same name m known s
  shown = all.shown

  abbrev to : WentTo same hash name m known s old new at shown map i u here said leads
  to = went_to same hash name m known s old new at shown map i u here said leads

  abbrev st : Standing K
  st = to.0

  abbrev effects : List Effect
  effects = effects_of (acts.Call i map) known new.changed

  abbrev Did : UnderWay K V K → Type 0
  Did x = DidSo same hash name m known s old new at shown map i u here said leads x

  abbrev NoRow : (x : UnderWay K V K) → Did x → Type 0
  NoRow x did = OfNoRow same hash name m known s old new at shown map i u here said leads x did

  each : Together V same st.hash same st.setting slot_of s.world st.chart st.blocks st.sights (s.calls map)
  each = at.together.makings.standing.each map st to.2

  there : (n : ℕ) → st.chart.current n ≡ true → n < st.chart.stored
  there n is = (current_is_known same st.hash st.setting s.world.memory st.chart st.blocks each.ground.map.map.rule each.ground.map.map.shows n is).0

  -- which pairs have come or gone, where the map has moved on
  abbrev Moved : Chart K → Type 0
  Moved c2 = Shifts st.chart c2 (shown.number map) known.stored effects

  kept_none : (c2 : Chart K) → Moved c2 → c2.current ≡ st.chart.current → flat_map shift_of effects ≡ []
  kept_none c2 = none_kept same st.hash (is_incremental st.setting.mode) st.chart c2 (shown.number map) known.stored effects there

  gone_told : (o : CallOverAll) (c2 : Chart K) → Moved c2 → RemovesAsReplied o st.chart c2 → (flat_map shift_of effects ≡ []) ⊎ ((q : ℕ) × (flat_map shift_of effects ≡ GoesOut q ∷ []))
  gone_told o c2 shifts told = gone_only same st.hash (is_incremental st.setting.mode) st.chart c2 (shown.number map) known.stored effects there (less_told o st.chart c2 told) shifts

  module _ (c : CallThere K V) where
    -- a retaining may remove the pair about which it was told no
    retains : (o : CallOverAll) (c2 : Chart K) → IsLastReply (shown.number map) st.chart.stored o.told c.replies → o.sweep.purpose ≡ Retains → Moved c2 → RemovesAsReplied o st.chart c2
        → RemovesOnly same call.Retain c (flat_map shift_of effects)
    retains o c2 last retaining shifts (inl kept) = none_removed same call.Retain c (flat_map shift_of effects) (kept_none c2 shifts kept)
    retains o c2 last retaining shifts (inr (p, was, cur, inl clears)) = absurd (cc (retaining, clears))
    retains o c2 last retaining shifts (inr (p, was, cur, inr (its, told))) =
        let reply = subst (λ (v : Option Verdict). IsLastReply (shown.number map) st.chart.stored v c.replies) told last in
        subst (RemovesOnly same call.Retain c)
        (sym (gone_that same st.hash (is_incremental st.setting.mode) st.chart c2 (shown.number map) known.stored effects there (less_told o st.chart c2 (inr (p, was, cur, inr (its, told)))) p was cur shifts))
        (reply.1, tt)

    abbrev So : UnderWay K V K → Type 0
    So x = IsAsCalled (shown.number map) st.chart.stored known x c

    -- its purpose is that of the call
    for_its : (o : CallOverAll) (its : Call K V) (purpose : Purpose) → c.call ≡ its → So (OverAll o) → purpose_of its ≡ Some purpose → o.sweep.purpose ≡ purpose
    for_its o its purpose e so is = one_of o.sweep.purpose purpose (sym so.purpose ∙ ap purpose_of e ∙ is)

    by_own : (x : UnderWay K V K) (its : Call K V) → c.call ≡ its → IsCalled same x its → IsOnNoKey its → So x → (did : Did x) → NoRow x did → RemovesOnly same its c (flat_map shift_of effects)
    by_own (OnKey x) (call.On one) e is other so did own = absurd other
    by_own (ForRoom r) (call.Reserve n) e is other so (p2, end, machine_is, told_is, inl (step, moved)) own =
        none_removed same (call.Reserve n) c (flat_map shift_of effects) (kept_none step.step.went.c2
        (moved_shifts same hash m known s old new at name shown map i st to.2 (name i) (made_so same hash name m known s old new at shown map i u here said leads)
        step.step.inside _ step.step.went step.step.blocks2 step.step.grown step.step.sights2) step.step.same_pairs)
    by_own (ForRoom r) (call.Reserve n) e is other so (p2, end, machine_is, told_is, inr row) own = absurd own
    by_own (Counting sum) call.Len e is other so (p2, end, machine_is, told_is, still, stayed) own =
        none_removed same call.Len c (flat_map shift_of effects) (calm_shifts effects
        (stayed_calm same hash m known s old new at name shown map i st to.2 (name i) (made_so same hash name m known s old new at shown map i u here said leads) still).calm)
    by_own (OverAll o) call.Clear e is other so (p2, end, machine_is, told_is, inl (step, moved)) own =
        clears same c (flat_map shift_of effects) (gone_told o step.step.went.c2
        (moved_shifts same hash m known s old new at name shown map i st to.2 (name i) (made_so same hash name m known s old new at shown map i u here said leads)
        step.step.inside _ step.step.went step.step.blocks2 step.step.grown step.step.sights2) step.step.removes)
    by_own (OverAll o) call.Clear e is other so (p2, end, machine_is, told_is, inr row) own = absurd own
    by_own (OverAll o) call.Retain e is other so (p2, end, machine_is, told_is, inl (step, moved)) own =
        retains o step.step.went.c2 so.last (for_its o call.Retain Retains e so refl)
        (moved_shifts same hash m known s old new at name shown map i st to.2 (name i) (made_so same hash name m known s old new at shown map i u here said leads)
        step.step.inside _ step.step.went step.step.blocks2 step.step.grown step.step.sights2) step.step.removes
    by_own (OverAll o) call.Retain e is other so (p2, end, machine_is, told_is, inr row) own = absurd own
    by_own (OverAll o) call.Walk e is other so (p2, end, machine_is, told_is, inl (step, moved)) own =
        none_removed same call.Walk c (flat_map shift_of effects) (kept_none step.step.went.c2
        (moved_shifts same hash m known s old new at name shown map i st to.2 (name i) (made_so same hash name m known s old new at shown map i u here said leads)
        step.step.inside _ step.step.went step.step.blocks2 step.step.grown step.step.sights2)
        (walk_keeps o st.chart step.step.went.c2 step.step.removes (for_its o call.Walk Walks e so refl)))
    by_own (OverAll o) call.Walk e is other so (p2, end, machine_is, told_is, inr row) own = absurd own
    by_own _ _ e is other so did own = absurd is

  -- one of a row says of no pair that it has come or gone
  of_step : TakesNone new.changed → (w2 : World (Node K V)) → w2.memory ≡ new.memory → IsOneStep st.setting i s.world w2 → flat_map shift_of effects ≡ []
  of_step none w2 memory happened =
      hands_shift effects (row_done i map m known s.world w2 shown.blocks (one_step_leaves st.setting i s.world w2 each.ground.came happened) new.changed
      (subst (λ (n : Mem (Node K V)). LeavesBy s.world.memory n new.changed) (sym memory)
      (operated_leaves s.world.memory new.memory new.changed (made_so same hash name m known s old new at shown map i u here said leads))) none).hands

  by_row : TakesNone new.changed → (x : UnderWay K V K) (did : Did x) → (NoRow x did → ⊥) → flat_map shift_of effects ≡ []
  by_row none (OnKey x) (p2, end, machine_is, told_is, inl step) other = absurd (other tt)
  by_row none (OnKey x) (p2, end, machine_is, told_is, inr (row, stayed)) other = of_step none row.step.w2 row.step.memory row.step.happened
  by_row none (ForRoom r) (p2, end, machine_is, told_is, inl step) other = absurd (other tt)
  by_row none (ForRoom r) (p2, end, machine_is, told_is, inr (row, stayed)) other = of_step none row.step.w2 row.step.memory row.step.happened
  by_row none (Counting sum) did other = absurd (other tt)
  by_row none (OverAll o) (p2, end, machine_is, told_is, inl step) other = absurd (other tt)
  by_row none (OverAll o) (p2, end, machine_is, told_is, inr (row, stayed)) other = of_step none row.step.w2 row.step.memory row.step.happened

  removes_only : (c : CallThere K V) → call_of (name i) m ≡ Some c → IsOnNoKey c.call → RemovesOnly same c.call c (flat_map shift_of effects)
  removes_only c c_is other = elim (of_row same hash name m known s old new at whole map i u here said leads u to.4.did) as (λ _. RemovesOnly same c.call c (flat_map shift_of effects)) [
    | inl own ↦ by_own c u c.call refl called other (all.each map i u here st to.2 c c_is) to.4.did own
    | inr row ↦ none_removed same c.call c (flat_map shift_of effects)
        (by_row (rows_hand_theirs K V same hash name m known s old new at whole.all map i u here said leads row).1 u to.4.did row)
  ]
    where
      called : IsCalled same u c.call
      called = let was = shown.calls map i u here in subst (λ (x : CallThere K V). IsCalled same u x.call) (one_of was.0 c (sym was.1 ∙ c_is)) was.3

abbrev pub IsNoQuestion : {V : Type 0} → Outcome V → Type 0
IsNoQuestion (outcome.Asks question) = ⊥
IsNoQuestion _ = Unit {0}

module _ {K V : Type 0} (same : K → K → Bool) where
  -- what is no question asks nothing
  pub asks_none : (c : CallThere K V) (moments : List (Moment K V)) (stands : CallState) (o : Outcome V) → IsNoQuestion o → AsksRight same stands c moments o
  asks_none c moments (Asking q) o none = tt
  asks_none c moments Going (outcome.Asks q) none = absurd none
  asks_none c moments Going _ none = tt
  asks_none c moments Told (outcome.Asks q) none = absurd none
  asks_none c moments Told _ none = tt
  asks_none c moments IsReady (outcome.Asks q) none = absurd none
  asks_none c moments IsReady _ none = tt

  changes_so : (its : Call K V) (c : CallThere K V) (m : Moment K V) (done : List Shift) → IsOnNoKey its → RemovesOnly same its c done → Changes same its c m done
  changes_so (call.On one) c m done other only = absurd other
  changes_so (call.Reserve n) c m done other only = only
  changes_so call.Clear c m done other only = only
  changes_so call.Retain c m done other only = only
  changes_so call.Len c m done other only = only
  changes_so call.Walk c m done other only = only

  ends_so : (its : Call K V) (c : CallThere K V) (moments : List (Moment K V)) (o : Outcome V) → IsOnNoKey its → Ends same its c moments o
  ends_so (call.On one) c moments o other = absurd other
  ends_so (call.Reserve n) c moments o other = tt
  ends_so call.Clear c moments o other = tt
  ends_so call.Retain c moments o other = tt
  ends_so call.Len c moments o other = tt
  ends_so call.Walk c moments o other = tt

module _ (K V : Type 0) (same : K → K → Bool) where
  pub no_calls_are_linearizable : NoCallsAreLinearizable K V same
  no_calls_are_linearizable log t none shifts =
      subst (λ (o : Option (List ℕ)). IsRightOf same log t (acting o t.found) (acting o (worked_by t))) (sym none) shifts

  pub others_are_linearizable : OthersAreLinearizable K V same
  others_are_linearizable log t own map c caller c_is acts other only asks =
      subst (λ (x : Option (CallThere K V)). IsRightOf same log t x (call_left t)) (sym before)
      (subst (λ (x : Option (CallThere K V)). IsRightOf same log t (Some c) x) (sym then_is) right)
    where
      b : Moment K V
      b = t.found

      now : (d : CallThere K V) × (call_of own (with_effects (Some own) (Some map) t.effects b) ≡ Some d) × (d.call ≡ c.call)
      now = let it = calls_after own map own t.effects b c c_is in (it.0, it.1, it.2.0.call)

      worked_is : worked_by t ≡ with_effects (Some own) (Some map) t.effects b
      worked_is =
          ap (λ (o : Option (List ℕ)). with_effects o t.map t.effects b) caller
          ∙ ap (λ (o : Option ℕ). with_effects (Some own) o t.effects b) acts

      before : call_found t ≡ Some c
      before = ap (λ (o : Option (List ℕ)). acting o b) caller ∙ c_is

      then_is : call_left t ≡ Some now.0
      then_is = ap (λ (o : Option (List ℕ)). acting o (worked_by t)) caller ∙ ap (call_of own) worked_is ∙ now.1

      right : IsRight same log t c now.0
      right = record {
        changes = changes_so same c.call c b (flat_map shift_of t.effects) other only;
        ends = ends_so same now.0.call now.0 (log.since now.0.begun) t.outcome (subst (λ (x : Call K V). IsOnNoKey x) (sym now.2) other);
        asks = asks now.0 (ap (call_of own) worked_is ∙ now.1);
      }

  pub removals_added : RemovalsAdd K V same
  removals_added its c done more h k = removals_add same its c done more h k

pub others_remove_only : (K V : Type 0) (same : K → K → Bool) (hash : ℕ → K → ℕ) → OthersRemoveOnly K V same hash
others_remove_only K V same hash name m known s old new at whole all map i u here said leads c c_is other =
    removes_only same hash name m known s old new at whole all map i u here said leads c c_is other
