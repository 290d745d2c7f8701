-- What a step of a call says, by what was called: what the call comes to, how far it is then, and that it stands where it asks that.
use Rattle.std.specs.Prelude.{◌≡◌, ℕ, Bool, true, List, Option, Some, option_map}
use Rattle.std.proofs.Common.{refl, sym, ap, subst, ◌∙◌, inl, inr}
use Rattle.seize_words.specs.declared.fault.Fault.{Fault}
use Rattle.seize.specs.declared.advance.Advance.{Advance as Counted}
use Rattle.seize.specs.declared.advance.Advance.TheVariants as counted
use Rattle.papaya_raw.specs.Given.TablesDeclared.node.Node.{Node}
use Rattle.owner_whole.specs.Given.ResizeDeclared.yielding.Yielding.{Yielding as Room}
use Rattle.owner_whole.specs.Given.ResizeDeclared.yielding.Yielding.TheVariants as room
use Rattle.owner_whole.specs.Given.ResizeDeclared.sum.Sum.{Sum}
use Rattle.papaya_raw.specs.Given.ReservesDeclared.reserve.Reserve.{Reserve}
use Rattle.papaya_raw.specs.Given.ReservesDeclared.sweep.Purpose.TheVariants.{Walks}
use Rattle.papaya_raw.specs.Given.ReservesDeclared.sweep.Sweep.{Sweep}
use Rattle.papaya_raw.specs.Given.ReservesDeclared.sweep.Sweeping.{Sweeping}
use Rattle.papaya_raw.specs.Progress.{of_called, of_counting, of_outcome}
use Rattle.papaya_raw.specs.declared.machines.answer.Called.{Called}
use Rattle.papaya_raw.specs.declared.machines.answer.Called.TheVariants as called
use Rattle.papaya_raw.specs.declared.machines.call.KeyCall.{KeyCall}
use Rattle.papaya_raw.specs.declared.machines.machine.Machine.{Machine}
use Rattle.papaya_raw.specs.declared.machines.machine.Machine.TheVariants as kinds
use Rattle.papaya_raw.specs.declared.machines.progress.Progress.{Progress}
use Rattle.papaya_raw.specs.declared.machines.progress.Progress.TheVariants as progress
use Rattle.run_schedules.specs.declared.call.Call.{Call}
use Rattle.run_schedules.specs.declared.call.Call.TheVariants.{On, Reserve as Reserves, Len, Walk}
use Rattle.run_schedules.specs.declared.call.OneKey.{OneKey}
use Rattle.run_schedules.specs.declared.outcome.Outcome.{Outcome}
use Rattle.run_schedules.specs.declared.outcome.Outcome.TheVariants.{Asks}
use Rattle.run_schedules.specs.declared.effect.Effect.{Effect}
use Rattle.run_schedules.specs.Schedules.Coming.{asks_of_key}
use Rattle.run_schedules.specs.Schedules.Effects.{with_effects}
use Rattle.run_schedules.specs.Schedules.Moment.{UnderWay as CallThere, Moment}
use Rattle.run_schedules.specs.Schedules.Views.{call_of}
use Rattle.owner_whole.specs.Given.LateFaults.{RoomInReserving}
use Rattle.owner_whole.specs.Given.LateKinds.{FaultFits, FitsAsking, FitsAt}
use Rattle.owner_whole.specs.Given.PointsTold.{IsRowOfCall}
use Rattle.owner_whole.specs.Given.CallersPairs.{Given, kind_of as kind_given}
use Rattle.owner_whole.specs.Given.CallersRooms.{CallForRoom}
use Rattle.owner_whole.specs.Given.CallersSights.{seen_by}
use Rattle.owner_whole.specs.Given.CallersTogether.{CallOnKey, UnderWay, OnKey, ForRoom, Counting, IsAtPoint as TogetherStands, Together}
use Rattle.owner_whole.proofs.Given.CallersTogether.At.{at_same}
use Rattle.owner_whole.specs.Given.FinishesMachines.{ContinuesAs, machine_of}
use Rattle.owner_whole.specs.Given.FinishesMaps.{Standing}
use Rattle.run_executor.specs.Given.EffectsEffects.{effects_of, known_after}
use Rattle.run_executor.specs.Given.EffectsKnown.{Known}
use Rattle.run_executor.specs.Given.EffectsDeclared.acting.Acting.TheVariants as acts
use Rattle.play_scheduler.specs.Given.FollowsCalls.{IsCalled}
use Rattle.run_executor.specs.Given.HandsAsked.{AsksThere, IsAskedAs, IsAskedOn}
use Rattle.run_executor.specs.Given.HandsCalling.{AsksJust}
use Rattle.run_executor.proofs.Given.HandsReplacing.{IsOn, calls_after}
use Rattle.run_executor.specs.Given.MomentsWhole.{RefinesWhole}
use Rattle.run_executor.proofs.Given.MomentsCalls.{calls_keep_whole}
use Rattle.play_scheduler.specs.Given.HistoriesAsking.{IsQuestionAsked}
use Rattle.play_scheduler.proofs.Given.HistoriesAnyCall.HasWords.{questions_have_words}
use Rattle.play_scheduler.proofs.Given.HistoriesAsking.{asking_steps_stand_there}
use Rattle.play_scheduler.proofs.Given.HistoriesRefusals.{refused}
use Rattle.run_executor.specs.Named.Machines.{IsAsFar, RefusedForRoom}
use Rattle.run_executor.specs.Named.Seen.{kind_of}
use Rattle.play_stepping.specs.EventSteps.Stepping.{HasOutcomeOfKind, IsFaultOn}
use Rattle.run_sweeps.specs.Says.{far_then, outcome_of}
use Rattle.run_executor.specs.Named.Telling.{number_by}
use Rattle.run_executor.specs.declared.kind.CallKind.{CallKind}
use Rattle.run_executor.specs.declared.kind.CallKind.TheVariants as kind
use Rattle.run_sweeps.proofs.Quiet.RoomSays.{NeverRefused, SaysRoom, reserve_room, sum_room}
use Rattle.play_stepping.proofs.EventSteps.KeySays.{key_asks, key_refused}
use Rattle.play_scheduler.proofs.Given.LogKinds.{of_kind}
use Rattle.run_sweeps.proofs.Quiet.SweepSays.{WalkSays}
use Rattle.play_scheduler.proofs.Given.ScenesMay.{standing_is}
use Rattle.run_executor.specs.Given.ScenesHeld.{Held, IsAt}
use Rattle.play_scheduler.specs.Given.ScenesScene.{Scene, slot_of}
use Rattle.run_executor.specs.Given.ScenesStepping.{StepLeads, scene_after}
use Rattle.seize_words.proofs.General.{same_some as the}
use Rattle.run_sweeps.proofs.Quiet.Saying.{told_by}

module _ {K V : Type 0} where
  -- a call goes on as its machine does
  pub goes_as : (machine : Machine K V K) (said : Progress (Node K V)) (next : Option (UnderWay K V K)) → ContinuesAs machine said next → (x : UnderWay K V K) → next ≡ Some x → machine_of x ≡ machine
  goes_as machine (progress.Done answer) next is x e = absurd (cc (is, e))
  goes_as machine (progress.Refused fault) next is x e = absurd (cc (is, e))
  goes_as machine _ next is x e = ap machine_of (the x is.0 (sym e ∙ is.1)) ∙ is.2

  -- what does not ask, asks nothing
  pub asks_nothing : (by : Known) (x : UnderWay K V K) (o : Outcome V) → ((question : Option ℕ) → o ≡ Asks question → ⊥) → AsksJust by x o
  asks_nothing by (OnKey y) (Asks question) never = absurd (never question refl)
  asks_nothing by (OnKey y) _ never = tt
  asks_nothing by _ o never = tt

  -- a call on no key asks nothing of this kind
  asks_no_key : (by : Known) (x : UnderWay K V K) (o : Outcome V) → ((y : CallOnKey K V K) → x ≡ OnKey y → ⊥) → AsksJust by x o
  asks_no_key by (OnKey y) o never = absurd (never y refl)
  asks_no_key by _ o never = tt

  key_far : (its : CallKind) (by : Known) (p : KeyCall K V K) (end : Called (Node K V)) → IsAsFar its (far_then by (of_called end)) (kinds.Key p)
  key_far its by p called.Goes = tt
  key_far its by p called.Waits = tt
  key_far its by p (called.Gave value) = tt
  key_far its by p (called.Unstored value) = tt
  key_far its by p (called.Asks about) = tt
  key_far its by p (called.Done answer) = tt
  key_far its by p (called.Refused fault) = tt

  room_far : (its : CallKind) (by : Known) (p : Reserve) (end : Room (Node K V) Unit) → IsAsFar {K = K} {V = V} its (far_then by (of_outcome end)) (kinds.Reserve p)
  room_far its by p room.Goes = tt
  room_far its by p room.Waits = tt
  room_far its by p (room.Gave value) = tt
  room_far its by p (room.Done end) = tt
  room_far its by p (room.Refused fault) = tt

  room_comes : (its : CallKind) (by : Known) (value : Option V) (more : ℕ) (end : Room (Node K V) Unit) → SaysRoom {K = K} {V = V} (of_outcome end) → HasOutcomeOfKind {K = K} (Reserves more) (outcome_of by its value (of_outcome end))
  room_comes its by value more room.Goes for = tt
  room_comes its by value more room.Waits for = tt
  room_comes its by value more (room.Gave node) for = tt
  room_comes its by value more (room.Done end) for = refl
  room_comes its by value more (room.Refused fault) for = for

  -- a walk that has come to no pair yet
  pub walk_comes : (by : Known) (value : Option V) (said : Progress (Node K V)) (stands : Sweeping) → WalkSays said stands → SaysRoom said → HasOutcomeOfKind {K = K} Walk (outcome_of by kind.Walks value said)
  walk_comes by value progress.Goes stands says for = tt
  walk_comes by value progress.Waits stands says for = tt
  walk_comes by value (progress.Gave node) stands says for = tt
  walk_comes by value progress.Ready stands says for = refl
  walk_comes by value (progress.Refused fault) stands says for = for
  walk_comes by value _ stands says for = absurd says

  pub walk_far : (by : Known) (said : Progress (Node K V)) (q : Sweep) → q.purpose ≡ Walks → WalkSays said q.stands → ((fault : Fault) → said ≡ progress.Refused fault → ⊥)
      → IsAsFar {K = K} {V = V} kind.Walks (far_then by said) (kinds.Sweep q)
  walk_far by progress.Goes q walks says on = (walks, λ e. says)
  walk_far by progress.Waits q walks says on = (walks, λ e. says)
  walk_far by (progress.Gave node) q walks says on = (walks, λ e. says)
  walk_far by progress.Ready q walks says on = (walks, says)
  walk_far by (progress.Refused fault) q walks says on = absurd (on fault refl)
  walk_far by _ q walks says on = absurd says

module _ (K V : Type 0) where
  sum_far : (its : CallKind) (by : Known) (p : Sum) (end : Counted ℕ) → IsAsFar {K = K} {V = V} its (far_then {K = K} {V = V} by (of_counting end)) (kinds.Count p)
  sum_far its by p counted.Goes = tt
  sum_far its by p counted.Waits = tt
  sum_far its by p (counted.Done count) = tt
  sum_far its by p (counted.Refused fault) = tt

  sum_comes : (its : CallKind) (by : Known) (value : Option V) (end : Counted ℕ) → NeverRefused {K = K} {V = V} (of_counting end) → HasOutcomeOfKind {K = K} Len (outcome_of {K = K} by its value (of_counting end))
  sum_comes its by value counted.Goes for = tt
  sum_comes its by value counted.Waits for = tt
  sum_comes its by value (counted.Done count) for = refl
  sum_comes its by value (counted.Refused fault) for = for

-- one that has ended is under way no more
pub ended_not : {K V : Type 0} (machine : Machine K V K) (said : Progress (Node K V)) (next : Option (UnderWay K V K)) → ContinuesAs machine said next → (x : UnderWay K V K) → next ≡ Some x
    → (fault : Fault) → said ≡ progress.Refused fault → ⊥
ended_not machine (progress.Refused other) next is x e fault f = cc (is, e)
ended_not machine _ next is x e fault f = cc f

module _ {K V : Type 0} (same : K → K → Bool) (hash : ℕ → K → ℕ) (name : ℕ → List ℕ) (m : Moment K V) (known : Known) (s : Scene K V) (old new : Held K V) (at_old : IsAt same hash old s)
    (whole : RefinesWhole same name m known s) (map i : ℕ) (c : CallThere K V) (c_is : call_of (name i) m ≡ Some c) (its : CallKind) (its_is : kind_of c.call ≡ its) (value : Option V) where
  abbrev pub known2 : Known
  known2 = known_after (acts.Call i map) new.changed known

  abbrev pub effects : List Effect
  effects = effects_of (acts.Call i map) known new.changed

  -- what is so of such a step
  pub record Says (u : UnderWay K V K) (under : s.calls map i ≡ Some u) (said : Progress (Node K V)) (leads : StepLeads same hash i said s old new) : Type 0 where
    pub comes : HasOutcomeOfKind c.call (outcome_of known2 its value said)
    pub far : (x : UnderWay K V K) → (leads map u under).4.next ≡ Some x → IsAsFar its (far_then known2 said) (machine_of x)
    pub asks : (x : UnderWay K V K) → (leads map u under).4.next ≡ Some x → AsksJust known2 x (outcome_of known2 its value said)
    pub room : (x : UnderWay K V K) → (leads map u under).4.next ≡ Some x → RefusedForRoom (machine_of x)

  pub is_called : (u : UnderWay K V K) → s.calls map i ≡ Some u → IsCalled same u c.call
  is_called u under =
      let it = whole.all.shown.calls map i u under in subst (λ (z : CallThere K V). IsCalled same u z.call) (the it.0 c (sym it.1 ∙ c_is)) it.3

  -- where the step has led
  module _ (u : UnderWay K V K) (under : s.calls map i ≡ Some u) (said : Progress (Node K V)) (leads : StepLeads same hash i said s old new) where
    abbrev pub s2 : Scene K V
    s2 = let to = leads map u under in scene_after same s old new map i to.0 u to.1 said to.4

    pub at_new : IsAt same hash new s2
    at_new = (leads map u under).5

    pub whole2 : RefinesWhole same name (with_effects (Some (name i)) (Some map) effects m) known2 s2
    whole2 = calls_keep_whole K V same hash name m known s old new at_old whole map i u under said leads

    pub here_then : (x : UnderWay K V K) → (leads map u under).4.next ≡ Some x → s2.calls map i ≡ Some x
    here_then x goes =
        ap (λ (f : ℕ → Option (UnderWay K V K)). f i) (at_same s.calls map _ map refl) ∙ at_same (s.calls map) i (leads map u under).4.next i refl ∙ goes

    abbrev pub then_there : (x : UnderWay K V K) (goes : (leads map u under).4.next ≡ Some x) → (standing : Standing K) × (s2.maps map ≡ Some standing)
    then_there x goes = standing_is same hash new s2 at_new map i x (here_then x goes)

    pub together2 : (x : UnderWay K V K) (goes : (leads map u under).4.next ≡ Some x)
        → (let st = (then_there x goes).0 in Together V same st.hash same st.setting slot_of s2.world st.chart st.blocks st.sights (s2.calls map))
    together2 x goes = at_new.together.makings.standing.each map (then_there x goes).0 (then_there x goes).1

    -- the call in the moment
    abbrev d : CallThere K V
    d = (calls_after (name i) map (name i) effects m c c_is).0

    d_is : call_of (name i) (with_effects (Some (name i)) (Some map) effects m) ≡ Some d
    d_is = (calls_after (name i) map (name i) effects m c c_is).1

    d_on : IsOn c d
    d_on = (calls_after (name i) map (name i) effects m c c_is).2.0

  -- a call on one key
  module _ (x : CallOnKey K V K) (under : s.calls map i ≡ Some (OnKey x)) (one : OneKey K V) (one_is : c.call ≡ On one) where
    -- it asks only if such a call may
    key_may : (said : Progress (Node K V)) (leads : StepLeads same hash i said s old new) (about : Option ℕ) → said ≡ progress.Asks about → asks_of_key one ≡ true
    key_may (progress.Asks a) leads about is = key_asks known2 one on.asked asks.0 question.0 asks.2 (subst (λ (g : Given K V). FitsAsking (kind_given g).present (kind_given g).absent (kind_given g).takes asks.0) on.given fit)
      where
        it : (after : CallOnKey K V K) × ((leads map (OnKey x) under).4.next ≡ Some (OnKey after))
            × ((by : Known) (asked : Option ℕ) → IsQuestionAsked by a asked → AsksThere by after.call.stands asked)
        it = asking_steps_stand_there K V same hash s old new map i x under a leads

        question : (q : Option ℕ) × IsQuestionAsked known2 a q
        question = questions_have_words K V same hash name m known s old new at_old whole map i (OnKey x) under a leads

        asks : AsksThere known2 it.0.call.stands question.0
        asks = it.2 known2 question.0 question.1

        st : Standing K
        st = (then_there (OnKey x) under (progress.Asks a) leads (OnKey it.0) it.1).0

        on : IsAskedOn ((whole2 (OnKey x) under (progress.Asks a) leads).all.shown.number map) st.chart.stored known2 it.0 one (d (OnKey x) under (progress.Asks a) leads)
        on = subst (λ (z : Call K V). IsAskedAs ((whole2 (OnKey x) under (progress.Asks a) leads).all.shown.number map) st.chart.stored known2 it.0 z (d (OnKey x) under (progress.Asks a) leads)) ((d_on (OnKey x) under (progress.Asks a) leads).call ∙ one_is)
            ((whole2 (OnKey x) under (progress.Asks a) leads).all.asked.each map i (OnKey it.0) (here_then (OnKey x) under (progress.Asks a) leads (OnKey it.0) it.1) st
            (then_there (OnKey x) under (progress.Asks a) leads (OnKey it.0) it.1).1 (d (OnKey x) under (progress.Asks a) leads) (d_is (OnKey x) under (progress.Asks a) leads))

        fit : FitsAsking (kind_given it.0.pair).present (kind_given it.0.pair).absent (kind_given it.0.pair).takes asks.0
        fit = by ((together2 (OnKey x) under (progress.Asks a) leads (OnKey it.0) it.1).stand i (OnKey it.0) (here_then (OnKey x) under (progress.Asks a) leads (OnKey it.0) it.1))
          where
            after : Scene K V
            after = s2 (OnKey x) under (progress.Asks a) leads

            by : TogetherStands V same st.hash same st.setting slot_of after.world st.chart (seen_by st.blocks (st.sights (slot_of i))) i (OnKey it.0)
                → FitsAsking (kind_given it.0.pair).present (kind_given it.0.pair).absent (kind_given it.0.pair).takes asks.0
            by (inl (rests, knows)) =
                let fits = of_kind st.hash after.world.memory st.chart (seen_by st.blocks (st.sights (slot_of i))) it.0.keys it.0.pair it.0.change it.0.call it.0.call.stands knows.pair in
                subst (FitsAt (kind_given it.0.pair).present (kind_given it.0.pair).absent (kind_given it.0.pair).takes) asks.1 fits.4
            by (inr (row, is_row, knows)) = absurd (subst IsRowOfCall asks.1 is_row)
    key_may _ leads about is = absurd (cc is)

    -- and is refused for what such a call may be
    key_fault : (said : Progress (Node K V)) (leads : StepLeads same hash i said s old new) (fault : Fault) → said ≡ progress.Refused fault → IsFaultOn one fault
    key_fault (progress.Refused f) leads fault is = subst (IsFaultOn one) faults (key_refused one on.asked f (subst (λ (g : Given K V). FaultFits (kind_given g).present (kind_given g).absent (kind_given g).takes f) on.given fits))
      where
        faults : f ≡ fault
        faults = let e : f ≡ fault = cc is in e

        st : (standing : Standing K) × (s.maps map ≡ Some standing)
        st = standing_is same hash old s at_old map i (OnKey x) under

        on : IsAskedOn (whole.all.shown.number map) st.0.chart.stored known x one c
        on = subst (λ (z : Call K V). IsAskedAs (whole.all.shown.number map) st.0.chart.stored known x z c) one_is (whole.all.asked.each map i (OnKey x) under st.0 st.1 c c_is)

        fits : FaultFits (kind_given x.pair).present (kind_given x.pair).absent (kind_given x.pair).takes f
        fits = elim (leads map (OnKey x) under).4.did.4 as (λ _. FaultFits (kind_given x.pair).present (kind_given x.pair).absent (kind_given x.pair).takes f) [
          | inl (step, moved) ↦ (step.step.refuses f (refused (leads map (OnKey x) under).4.did.1 f (leads map (OnKey x) under).4.did.3)).1
          | inr (row, stayed) ↦ (row.step.refuses f (refused (leads map (OnKey x) under).4.did.1 f (leads map (OnKey x) under).4.did.3)).1
        ]
    key_fault _ leads fault is = absurd (cc is)

    key_just : (said : Progress (Node K V)) (leads : StepLeads same hash i said s old new) (y : UnderWay K V K) → (leads map (OnKey x) under).4.next ≡ Some y
        → AsksJust known2 y (outcome_of known2 its value said)
    key_just (progress.Asks a) leads y goes =
        let it = asking_steps_stand_there K V same hash s old new map i x under a leads in
        let question = questions_have_words K V same hash name m known s old new at_old whole map i (OnKey x) under a leads in
        subst (λ (z : UnderWay K V K). AsksJust known2 z (Asks (option_map (number_by known2) a))) (the (OnKey it.0) y (sym it.1 ∙ goes))
        (it.2 known2 (option_map (number_by known2) a) (told_by known2 a question.0 question.1))
    key_just progress.Goes leads y goes = asks_nothing known2 y _ (λ q e. cc e)
    key_just progress.Waits leads y goes = asks_nothing known2 y _ (λ q e. cc e)
    key_just progress.Ready leads y goes = asks_nothing known2 y _ (λ q e. cc e)
    key_just (progress.Pair word) leads y goes = asks_nothing known2 y _ (λ q e. cc e)
    key_just (progress.Gave node) leads y goes = asks_nothing known2 y _ (λ q e. cc e)
    key_just (progress.Unstored node) leads y goes = asks_nothing known2 y _ (λ q e. cc e)
    key_just (progress.Done answer) leads y goes = asks_nothing known2 y _ (λ q e. cc e)
    key_just (progress.Refused fault) leads y goes = asks_nothing known2 y _ (λ q e. cc e)

    key_comes : (said : Progress (Node K V)) (leads : StepLeads same hash i said s old new) (end : Called (Node K V)) → said ≡ of_called end → HasOutcomeOfKind (On one) (outcome_of known2 its value (of_called end))
    key_comes said leads called.Goes is = tt
    key_comes said leads called.Waits is = tt
    key_comes said leads (called.Gave node) is = tt
    key_comes said leads (called.Unstored node) is = tt
    key_comes said leads (called.Asks about) is = key_may said leads about is
    key_comes said leads (called.Done answer) is = refl
    key_comes said leads (called.Refused fault) is = key_fault said leads fault is

    pub key_says : (said : Progress (Node K V)) (leads : StepLeads same hash i said s old new) → Says (OnKey x) under said leads
    key_says said leads =
        let did = (leads map (OnKey x) under).4.did in record {
          comes = subst (λ (z : Call K V). HasOutcomeOfKind z (outcome_of known2 its value said)) (sym one_is)
              (subst (λ (z : Progress (Node K V)). HasOutcomeOfKind (On one) (outcome_of known2 its value z)) (sym did.3) (key_comes said leads did.1 did.3));
          far = λ y goes. subst (λ (z : Machine K V K). IsAsFar its (far_then known2 said) z)
              (sym (goes_as (leads map (OnKey x) under).1 said (leads map (OnKey x) under).4.next (leads map (OnKey x) under).4.goes_on y goes ∙ did.2))
              (subst (λ (z : Progress (Node K V)). IsAsFar its (far_then known2 z) (kinds.Key did.0)) (sym did.3) (key_far its known2 did.0 did.1));
          asks = λ y goes. key_just said leads y goes;
          room = λ y goes. subst RefusedForRoom
              (sym (goes_as (leads map (OnKey x) under).1 said (leads map (OnKey x) under).4.next (leads map (OnKey x) under).4.goes_on y goes ∙ did.2)) tt;
        }

  -- one on no key stays so
  pub no_key : (u : UnderWay K V K) (under : s.calls map i ≡ Some u) (said : Progress (Node K V)) (leads : StepLeads same hash i said s old new)
      → ((p : KeyCall K V K) → (leads map u under).1 ≡ kinds.Key p → ⊥) → (y : UnderWay K V K) → (leads map u under).4.next ≡ Some y → AsksJust known2 y (outcome_of known2 its value said)
  no_key u under said leads never y goes =
      asks_no_key known2 y (outcome_of known2 its value said) (λ z is. never z.call (sym (goes_as (leads map u under).1 said (leads map u under).4.next (leads map u under).4.goes_on y goes) ∙ ap machine_of is))

  pub room_says : (r : CallForRoom) (under : s.calls map i ≡ Some (ForRoom r)) → RoomInReserving r.reserve.stands → (more : ℕ) → c.call ≡ Reserves more → (said : Progress (Node K V)) (leads : StepLeads same hash i said s old new)
      → Says (ForRoom r) under said leads
  room_says r under room more call_is said leads =
      let to = leads map (ForRoom r) under in
      let for = reserve_room same to.0.hash old new to.1 said r.reserve room to.3 in
      let did = to.4.did in record {
        comes = subst (λ (z : Call K V). HasOutcomeOfKind z (outcome_of known2 its value said)) (sym call_is)
            (subst (λ (z : Progress (Node K V)). HasOutcomeOfKind {K = K} (Reserves more) (outcome_of known2 its value z)) (sym did.3) (room_comes its known2 value more did.1 (subst SaysRoom did.3 for.1)));
        far = λ y goes. subst (λ (z : Machine K V K). IsAsFar its (far_then known2 said) z) (sym (goes_as to.1 said to.4.next to.4.goes_on y goes ∙ did.2))
            (subst (λ (z : Progress (Node K V)). IsAsFar {K = K} {V = V} its (far_then known2 z) (kinds.Reserve did.0)) (sym did.3) (room_far its known2 did.0 did.1));
        asks = λ y goes. no_key (ForRoom r) under said leads (λ p e. let a = did.2 in cc (a, e)) y goes;
        room = λ y goes. subst RefusedForRoom (sym (goes_as to.1 said to.4.next to.4.goes_on y goes)) for.0;
      }

  pub sum_says : (sum : Sum) (under : s.calls map i ≡ Some (Counting sum)) → c.call ≡ Len → (said : Progress (Node K V)) (leads : StepLeads same hash i said s old new) → Says (Counting sum) under said leads
  sum_says sum under call_is said leads =
      let to = leads map (Counting sum) under in
      let did = to.4.did in record {
        comes = subst (λ (z : Call K V). HasOutcomeOfKind z (outcome_of known2 its value said)) (sym call_is)
            (subst (λ (z : Progress (Node K V)). HasOutcomeOfKind {K = K} Len (outcome_of known2 its value z)) (sym did.3) (sum_comes K V its known2 value did.1 (subst NeverRefused did.3 (sum_room same to.0.hash old new to.1 said sum to.3))));
        far = λ y goes. subst (λ (z : Machine K V K). IsAsFar its (far_then known2 said) z) (sym (goes_as to.1 said to.4.next to.4.goes_on y goes ∙ did.2))
            (subst (λ (z : Progress (Node K V)). IsAsFar {K = K} {V = V} its (far_then known2 z) (kinds.Count did.0)) (sym did.3) (sum_far K V its known2 did.0 did.1));
        asks = λ y goes. no_key (Counting sum) under said leads (λ p e. let a = did.2 in cc (a, e)) y goes;
        room = λ y goes. subst RefusedForRoom (sym (goes_as to.1 said to.4.next to.4.goes_on y goes ∙ did.2)) tt;
      }
