-- An event of a call in its midst, wherever the steps that it has taken have led the scheduler.
use Rattle.std.specs.Prelude.{◌≡◌, ◌≢◌, ◌⊎◌, ◌+◌, ℕ, zero, suc, Bool, true, false, List, [], ◌∷◌, ◌++◌, slice_get, slice_set, Option, Some, None, option_map, if◌then◌else◌, filter, length, ◌≤◌}
use Rattle.std.specs.List.{remove}
use Rattle.std.proofs.Common.{refl, ap, sym, subst, ◌∙◌, inl, inr, arith}
use Rattle.std.proofs.lemmas.Bool.{cases_eq}
use Rattle.play_stepping.specs.Given.SeizeWorld.{Begin, Happens, Request, SlotsTaken, Step, World}
use Rattle.play_lists.specs.Given.TablesNodes.{deferred_word}
use Rattle.play_lists.specs.Given.TablesDeclared.node.Node.{Node}
use Rattle.play_lists.specs.Given.TablesDeclared.setting.Setting.{Setting}
use Rattle.play_stepping.specs.Given.RawDeclared.machines.progress.Progress.{Progress}
use Rattle.play_stepping.specs.Given.RawDeclared.machines.progress.Progress.TheVariants as progress
use Rattle.run_schedules.specs.Runs.Present.{slot_of_guard}
use Rattle.run_schedules.specs.Runs.Same.{is_same}
use Rattle.run_schedules.specs.Schedules.After.{moment}
use Rattle.run_schedules.specs.declared.effect.Effect.{Effect}
use Rattle.run_schedules.specs.declared.event.Event.{Event}
use Rattle.run_schedules.specs.declared.outcome.Outcome.{Outcome}
use Rattle.run_schedules.specs.Schedules.Effects.{with_effects}
use Rattle.run_schedules.specs.Schedules.Entry.{Entry}
use Rattle.run_schedules.specs.Schedules.Model.{things_in}
use Rattle.run_schedules.specs.Schedules.Moment.{UnderWay as CallThere, Moment}
use Rattle.run_schedules.specs.Schedules.Terms.{Terms, shards_of}
use Rattle.run_schedules.specs.Schedules.Views.{call_of}
use Rattle.play_stepping.specs.Given.CallersTogether.{UnderWay, HandsOver}
use Rattle.play_lists.specs.Given.EffectsEffects.{effects_of, known_after}
use Rattle.play_lists.specs.Given.EffectsKnown.{Known, known}
use Rattle.play_lists.specs.Given.EffectsDeclared.acting.Acting.TheVariants as acts
use Rattle.play_lists.specs.Given.FinishesMaps.{Standing, IsSameMap}
use Rattle.play_lists.specs.Given.HistoriesInEvent.{here_of}
use Rattle.run_schedules.specs.declared.effect.Thing.{Thing}
use Rattle.run_schedules.specs.declared.call.Call.{Call}
use Rattle.run_schedules.specs.declared.call.Reply.{Reply}
use Rattle.play_lists.specs.Given.FinishesMachines.{machine_of}
use Rattle.play_lists.proofs.Given.FollowsCalling.{is_same_is, is_same_refl}
use Rattle.play_stepping.proofs.Given.HandsAsking.{which}
use Rattle.run_legal.specs.Given.ModelsCallEvents.{IsNoted, things_then}
use Rattle.run_legal.specs.Noted.{HaveCome}
use Rattle.run_legal.proofs.Come.{calls_bring_things}
use Rattle.run_legal.proofs.Noted.{calls_hand_noted}
use Rattle.run_legal.proofs.Given.ModelsCallEvents.{things_more}
use Rattle.play_stepping.specs.Given.PurposesKept.{ShowsNone}
use Rattle.run_legal.specs.CallEvents.{InCallEvent}
use Rattle.run_legal.proofs.Calls.{call_events_go_on_so}
use Rattle.run_legal.proofs.Heads.Rows.{slots_stay}
use Rattle.run_legal.proofs.Heads.Steps.{call_taken}
use Rattle.play_stepping.specs.Given.LoggedCalling.{CallContinues}
use Rattle.play_stepping.specs.Given.LoggedShown.{IsShown}
use Rattle.play_stepping.proofs.Given.RowsLists.{both_some, found_alike, set_get, set_count}
use Rattle.play_stepping.specs.Given.NamedSeen.{Seen, kind_of, seen, is_named}
use Rattle.play_stepping.specs.Given.NamedTelling.{continues}
use Rattle.play_stepping.specs.Given.ExecutorDeclared.caller.NamedCaller.{NamedCaller}
use Rattle.play_stepping.specs.Given.SchedulerDeclared.scheduler.Scheduler.{Scheduler}
use Rattle.play_stepping.proofs.Given.SchedulerRanOn.{there_stays}
use Rattle.play_stepping.specs.EventSteps.Stepping.{GoneFor, IsStepOf, IsStepped, WalkedFor}
use Rattle.play_stepping.specs.Given.Says.{caller_then, far_then, outcome_of}
use Rattle.play_stepping.proofs.EventSteps.AfterEffects.{calls_seen}
use Rattle.play_stepping.proofs.EventSteps.OneStep.{caller_as, going_not_ended, goes_next, value_then}
use Rattle.play_lists.specs.Given.ValuesValues.{KeepsValue, kept_after}
use Rattle.play_lists.proofs.Given.ValuesValues.{values_go_on}
use Rattle.play_stepping.specs.Given.ExecutorDeclared.kind.CallKind.{CallKind}
use Rattle.play_events.specs.Events.OfCalls.{HaveValues, IsWorth, HaveShards}
use Rattle.play_events.proofs.Events.OfCalls.Worth.{AreWorth, SaidIn, all_gone, all_once, all_set, effects_say, is_worth_then, said_same}
use Rattle.run_legal.proofs.Given.RemainsSlots.{buckets_grow}
use Rattle.play_stepping.specs.Given.NeedsNeeds.{AreReached}
use Rattle.run_legal.proofs.Works.Reached.{reached_still}
use Rattle.play_events.specs.Folded.Folded.{HandInOrder}
use Rattle.play_events.proofs.Folded.Steps.{more_in_order}
use Rattle.play_events.proofs.Events.OfCalls.Scenes.{AreNamed, named_left, named_set}
use Rattle.play_events.proofs.Events.OfCalls.Words.{shows_none}
use Rattle.play_stepping.specs.Given.ExecutorIsThere.{PreservesSettings, held_by}
use Rattle.play_lists.specs.Given.ScenesScene.{Scene, slot_of}
use Rattle.play_lists.specs.Given.ScenesStepping.{StepLeads, has_ended, scene_after}
use Rattle.run_schedules.specs.Schedules.Transition.{past}
use Rattle.play_stepping.proofs.Given.General.{same_some as the}

one_more : (n : ℕ) → n + 1 ≡ suc n
one_more n = omega arith

-- who stands at a place has its name
named_at : {V : Type 0} (name : ℕ → List ℕ) (calls : List (NamedCaller V)) (k : ℕ) (x : NamedCaller V) → slice_get calls k ≡ Some x → AreNamed name calls → name x.number ≡ x.name
named_at {V} name [] k x there all = absurd (cc there)
named_at {V} name (d ∷ calls) zero x there all = subst (λ (y : NamedCaller V). name y.number ≡ y.name) (the d x there) all.0
named_at {V} name (d ∷ calls) (suc k) x there all = named_at name calls k x there all.1

-- what a caller keeps after a step
value_as : {K V : Type 0} (by : Known) (d : NamedCaller V) (said : Progress (Node K V)) → (caller_then by d said).value ≡ kept_after d.kind said d.value
value_as by d (progress.Unstored node) = refl
value_as by d _ = refl

module _ {K V S : Type 0} (same : K → K → Bool) (hash : K → ℕ) where
  -- What a step at a place was, whether its caller was told of it or not.
  pub record IsStep (place : ℕ) (before after : List Effect) (old new : Scheduler K V S) : Type 0 where
    pub caller : NamedCaller V
    pub at : slice_get old.calls place ≡ Some caller
    pub said : Progress (Node K V)
    pub leads : (name : ℕ → List ℕ) (m : Moment K V) (s : Scene K V) → IsShown same hash name m old.logged s
        → CallContinues same hash name m s caller.number caller.map said before after old.logged new.logged
    pub given : PreservesSettings old.logged.executor new.logged.executor

  abbrev pub as_told : {place : ℕ} {outcome : Outcome V} {before after : List Effect} {old new : Scheduler K V S} → IsStepped same hash place outcome before after old new → IsStep place before after old new
  as_told step = record { caller = step.caller; at = step.at; said = step.said; leads = step.leads; given = step.given }

  abbrev pub as_walked : {place : ℕ} {said : Progress (Node K V)} {before after : List Effect} {old new : Scheduler K V S} → IsStepOf same hash place said before after old new → IsStep place before after old new
  as_walked {place} {said} step = record { caller = step.caller; at = step.at; said = said; leads = step.leads; given = step.given }

module _ {K V S : Type 0} (same : K → K → Bool) (hash : K → ℕ) (name : ℕ → List ℕ) (terms : Terms) (log : List (Entry K V)) (event : Event K V) (beginning : Moment K V)
    (map i : ℕ) (c : CallThere K V) (place : ℕ) where
  -- After so many steps, which did this: whose call it is stands at its place, callers have their names, and the event is in its midst in the scene in which the moment shows the executor. The guard
  -- of the call is on the slot of its caller, callers keep their values, and what was handed over was so in order.
  pub record HasCome (steps : ℕ) (did : List Effect) (p : Scheduler K V S) : Type 0 where
    pub caller : NamedCaller V
    pub at : slice_get p.calls place ≡ Some caller
    pub number : caller.number ≡ i
    pub on_map : caller.map ≡ map
    pub kind : caller.kind ≡ kind_of c.call
    pub named : AreNamed name p.calls
    pub size : p.logged.executor.batch_size ≡ terms.batch_size
    pub shards : HaveShards terms p.logged.executor
    pub reached : AreReached (moment log).slots (known p.logged.notes)
    pub now : Moment K V
    pub things : HaveCome (things_then (things_in log) did) now
    pub scene : Scene K V
    pub under : UnderWay K V K
    pub shown : IsShown same hash name now p.logged scene
    pub slot : (d : CallThere K V) → call_of (name i) now ≡ Some d → slot_of_guard d.guard now.there ≡ slot_of i
    pub c_is : call_of (name i) beginning ≡ Some c
    pub once : length (filter (is_named (name i)) p.calls) ≤ 1
    pub worth : KeepsValue c.call c.replies (machine_of under) caller.value
    pub others : AreWorth (name i) beginning scene p.calls
    pub midst : InCallEvent same name terms log event beginning map i c steps did now (known p.logged.notes) scene under
    pub taken : SlotsTaken scene.world.memory (moment log).slots
    pub hands : HandInOrder (Some (name i)) (Some map) did beginning

  -- a step from there
  module _ (n : ℕ) (mid after : List Effect) (p new : Scheduler K V S) (come : HasCome n mid p) (step : IsStep same hash place mid after p new) where
    abbrev pub its_here : come.scene.calls map i ≡ Some come.under
    its_here = here_of same name (past log) beginning map i c mid come.now (known p.logged.notes) come.scene come.under come.midst.event_so

    pub caller_is : step.caller ≡ come.caller
    caller_is = the step.caller come.caller (sym step.at ∙ come.at)

    pub leads_at : CallContinues same hash name come.now come.scene i map step.said mid after p.logged new.logged
    leads_at =
        subst (λ (k : ℕ). CallContinues same hash name come.now come.scene i k step.said mid after p.logged new.logged) (ap (λ (x : NamedCaller V). x.map) caller_is ∙ come.on_map)
        (subst (λ (k : ℕ). CallContinues same hash name come.now come.scene k step.caller.map step.said mid after p.logged new.logged) (ap (λ (x : NamedCaller V). x.number) caller_is ∙ come.number)
        (step.leads name come.now come.scene come.shown))

    abbrev pub leads : StepLeads same (λ map. hash) i step.said come.scene (held_by p.logged.executor) (held_by new.logged.executor)
    leads = (leads_at come.under its_here).0

    abbrev pub did : List Effect
    did = effects_of (acts.Call i map) (known p.logged.notes) new.logged.executor.memory.changed

    abbrev pub then_known : Known
    then_known = known_after (acts.Call i map) new.logged.executor.memory.changed (known p.logged.notes)

    abbrev pub then_scene : Scene K V
    then_scene = let to = leads map come.under its_here in scene_after same come.scene (held_by p.logged.executor) (held_by new.logged.executor) map i to.0 come.under to.1 step.said to.4

    abbrev pub then_now : Moment K V
    then_now = with_effects (Some (name i)) (Some map) did come.now

    pub follows : after ≡ mid ++ did
    follows = (leads_at come.under its_here).1

    pub noted_then : known new.logged.notes ≡ then_known
    noted_then = (leads_at come.under its_here).2

    pub shown_then : IsShown same hash name then_now new.logged then_scene
    shown_then = (leads_at come.under its_here).3

    pub size_then : new.logged.executor.batch_size ≡ terms.batch_size
    size_then = step.given.1 ∙ come.size

    -- each map has its setting still
    pub shards_then : HaveShards terms new.logged.executor
    shards_then k setting is = by (cases_eq k map)
      where
        to_setting : Standing K → Setting
        to_setting x = x.setting

        after_k : (x : Standing K) × ((leads map come.under its_here).4.maps2 k ≡ Some x) × (x.setting ≡ setting)
        after_k = let x = both_some to_setting (λ (y : Setting). y) ((leads map come.under its_here).4.maps2 k) (Some setting) (shown_then.is_at.maps k ∙ is) setting refl in (x.0, x.1, x.2)

        was : (x : Standing K) → come.scene.maps k ≡ Some x → x.setting ≡ setting → setting.mask + 1 ≡ shards_of terms
        was x there its = come.shards k setting (sym (come.shown.is_at.maps k) ∙ ap (option_map to_setting) there ∙ ap Some its)

        others : (o : Option (Standing K)) → come.scene.maps k ≡ o → IsSameMap o ((leads map come.under its_here).4.maps2 k) → setting.mask + 1 ≡ shards_of terms
        others None there alike = absurd (let a = after_k.1 in cc (alike, a))
        others (Some x) there (blocks, sights, alike, part) =
            was x there (ap to_setting (the (record x { blocks = blocks; sights = sights }) after_k.0 (sym alike ∙ after_k.1)) ∙ after_k.2)

        by : (k ≡ map) ⊎ (k ≢ map) → setting.mask + 1 ≡ shards_of terms
        by (inl e) =
            let to = leads map come.under its_here in
            let on = to.4.its_map in
            was to.0 (ap come.scene.maps e ∙ to.2)
            (ap to_setting (the (record to.0 { chart = on.0; blocks = on.1; sights = on.2 }) after_k.0 (sym on.4 ∙ ap to.4.maps2 (sym e) ∙ after_k.1)) ∙ after_k.2)
        by (inr ne) = others (come.scene.maps k) refl ((leads map come.under its_here).4.others k ne)

    -- what a row hands over that begins with the step is noted
    pub noted_so : (request : Request) (begun : World (Node K V)) → HandsOver (leads map come.under its_here).0.setting i come.scene.world request
        → Happens deferred_word p.logged.executor.batch_size (Begin i request) come.scene.world begun
        → Happens deferred_word p.logged.executor.batch_size (Step i) begun (leads map come.under its_here).4.w2 → IsNoted (things_then (things_in log) mid) (known p.logged.notes) (slot_of i) request
    noted_so =
        calls_hand_noted K V same (λ map. hash) name come.now (known p.logged.notes) come.scene (held_by p.logged.executor) (held_by new.logged.executor) come.shown.is_at.held come.midst.calls.whole come.midst.calls.kept map i come.under
        its_here step.said leads (things_then (things_in log) mid) come.things

    -- and what has come into maps by the step is among all things
    things_after : HaveCome (things_then (things_in log) (mid ++ did)) then_now
    things_after =
        subst (λ (xs : List Thing). HaveCome xs then_now) (sym (things_more (things_in log) mid did))
        (calls_bring_things K V (things_then (things_in log) mid) come.now come.things (known p.logged.notes) come.midst.calls.whole.all.shown.blocks.stored i map
        new.logged.executor.memory.changed (Some (name i)) (Some map))

    -- the guard of its call is where it was
    slot_then : (d : CallThere K V) → call_of (name i) then_now ≡ Some d → slot_of_guard d.guard then_now.there ≡ slot_of i
    slot_then d is =
        let alike = found_alike seen seen then_now.calls come.now.calls (calls_seen (name i) (Some map) did come.now) (λ (z : Seen). is_same z.name (name i)) in
        let was = both_some seen seen (call_of (name i) come.now) (call_of (name i) then_now) (sym alike) d is in
        ap (λ (x : List ℕ). slot_of_guard x then_now.there) (ap (λ (z : Seen). z.guard) (sym was.2))
        ∙ ap (slot_of_guard was.0.guard) (there_stays (Some (name i)) (Some map) did come.now)
        ∙ come.slot was.0 was.1

    -- the call is there, as it was when the event began
    pub there_now : (d : CallThere K V) × (call_of (name i) come.now ≡ Some d) × (d.call ≡ c.call) × (d.replies ≡ c.replies)
    there_now =
        let d = come.midst.calls.whole.all.shown.calls map i come.under its_here in
        let was = subst (λ (v : Moment K V). SaidIn beginning.calls v.calls) (sym come.midst.worked) (effects_say (Some (name i)) (Some map) mid beginning) (name i) d.0 d.1 in
        let one = the was.0 c (sym was.1 ∙ come.c_is) in
        (d.0, d.1, sym was.2 ∙ ap (λ (x : CallThere K V). x.call) one, sym was.3 ∙ ap (λ (x : CallThere K V). x.replies) one)

    pub worth_now : KeepsValue there_now.0.call there_now.0.replies (machine_of come.under) step.caller.value
    worth_now =
        subst (λ (call : Call K V). KeepsValue call there_now.0.replies (machine_of come.under) step.caller.value) (sym there_now.2)
        (subst (λ (l : List (Option ℕ × Reply V)). KeepsValue c.call l (machine_of come.under) step.caller.value) (sym there_now.3)
        (subst (λ (d : NamedCaller V). KeepsValue c.call c.replies (machine_of come.under) d.value) (sym caller_is) come.worth))

    -- others keep their values
    pub others_then : AreWorth (name i) beginning then_scene p.calls
    others_then = by p.calls come.named come.others
      where
        there : (d : NamedCaller V) → name d.number ≡ d.name → is_named (name i) d ≡ false → (u : UnderWay K V K) → then_scene.calls d.map d.number ≡ Some u → come.scene.calls d.map d.number ≡ Some u
        there d named other u is = elim (which come.scene.calls map i (leads map come.under its_here).4.next d.map d.number u is) as (λ _. come.scene.calls d.map d.number ≡ Some u) [
          | inl own ↦ absurd (let yes = ap (λ (x : List ℕ). is_same x (name i)) (sym named ∙ ap name own.1) ∙ is_same_refl (name i) in cc (other, yes))
          | inr had ↦ had.1
        ]

        by : (ds : List (NamedCaller V)) → AreNamed name ds → AreWorth (name i) beginning come.scene ds → AreWorth (name i) beginning then_scene ds
        by [] named all = tt
        by (d ∷ ds) named all =
            (λ other. is_worth_then beginning beginning (said_same beginning.calls) come.scene then_scene d (λ u is. there d named.0 other u is) (all.0 other), by ds named.1 all.1)

    -- and so does the one of the call
    pub worth_then : (x : UnderWay K V K) → (leads map come.under its_here).4.next ≡ Some x → KeepsValue c.call c.replies (machine_of x) (kept_after (kind_of c.call) step.said step.caller.value)
    worth_then x is =
        subst (λ (call : Call K V). KeepsValue call c.replies (machine_of x) (kept_after (kind_of call) step.said step.caller.value)) there_now.2
        (subst (λ (l : List (Option ℕ × Reply V)). KeepsValue there_now.0.call l (machine_of x) (kept_after (kind_of there_now.0.call) step.said step.caller.value)) there_now.3
        (values_go_on K V same (λ map. hash) name come.now (known p.logged.notes) come.scene (held_by p.logged.executor) (held_by new.logged.executor) come.shown.is_at.held come.midst.calls.whole map i come.under its_here step.said leads
        there_now.0 there_now.1 step.caller.value worth_now x is))

    -- and the slots are taken that were
    pub taken_then : SlotsTaken then_scene.world.memory (moment log).slots
    taken_then =
        slots_stay come.scene.world.memory then_scene.world.memory (moment log).slots
        (call_taken same (λ map. hash) name come.now (known p.logged.notes) come.scene (held_by p.logged.executor) (held_by new.logged.executor) come.shown.is_at.held come.midst.calls.whole map i come.under its_here step.said leads)
        come.taken

    -- and what it did with the step handed over in order
    pub hands_then : HandInOrder (Some (name i)) (Some map) (mid ++ did) beginning
    hands_then =
        more_in_order K V same (λ map. hash) name come.now (known p.logged.notes) come.scene (held_by p.logged.executor) (held_by new.logged.executor) come.shown.is_at.held come.midst.calls.whole come.midst.calls.kept map i come.under its_here
        step.said leads mid beginning come.midst.worked come.hands

    -- where it goes on it has come one step further, if callers have their names then
    module _ (none : ShowsNone step.said) (on : has_ended step.said ≡ false) (then_caller : NamedCaller V) (there : slice_get new.calls place ≡ Some then_caller)
        (number : then_caller.number ≡ step.caller.number) (on_map : then_caller.map ≡ step.caller.map) (kind : then_caller.kind ≡ step.caller.kind) (named : AreNamed name new.calls)
        (value : then_caller.value ≡ kept_after step.caller.kind step.said step.caller.value) (once : length (filter (is_named (name i)) new.calls) ≤ 1) (others : AreWorth (name i) beginning then_scene new.calls) where
      next : (x : UnderWay K V K) × ((leads map come.under its_here).4.next ≡ Some x)
      next = let to = leads map come.under its_here in goes_next to.1 step.said to.4.next to.4.goes_on on

      worth_on : KeepsValue c.call c.replies (machine_of next.0) then_caller.value
      worth_on =
          subst (λ (v : Option V). KeepsValue c.call c.replies (machine_of next.0) v)
          (sym (value ∙ ap (λ (k : CallKind). kept_after k step.said step.caller.value) (ap (λ (x : NamedCaller V). x.kind) caller_is ∙ come.kind)))
          (worth_then next.0 next.1)

      pub come_on : HasCome (n + 1) after new
      come_on = subst (λ (fs : List Effect). HasCome (n + 1) fs new) (sym follows) (record {
        caller = then_caller;
        at = there;
        number = number ∙ ap (λ (x : NamedCaller V). x.number) caller_is ∙ come.number;
        on_map = on_map ∙ ap (λ (x : NamedCaller V). x.map) caller_is ∙ come.on_map;
        kind = kind ∙ ap (λ (x : NamedCaller V). x.kind) caller_is ∙ come.kind;
        named = named;
        size = size_then;
        shards = shards_then;
        reached = subst (AreReached (moment log).slots) (sym noted_then)
            (reached_still (moment log).slots (known p.logged.notes) then_known (buckets_grow (acts.Call i map) new.logged.executor.memory.changed (known p.logged.notes)) come.reached);
        now = then_now;
        things = things_after;
        scene = then_scene;
        under = next.0;
        shown = shown_then;
        slot = slot_then;
        c_is = come.c_is;
        once = once;
        worth = worth_on;
        others = others;
        midst = subst (λ (k : Known). InCallEvent same name terms log event beginning map i c (n + 1) (mid ++ did) then_now k then_scene next.0) (sym noted_then)
            (call_events_go_on_so K V same (λ map. hash) name terms log event beginning map i c n mid come.now (known p.logged.notes) come.scene come.under come.midst (held_by p.logged.executor) (held_by new.logged.executor)
            come.shown.is_at.held come.size step.said leads none noted_so next.0 next.1);
        taken = taken_then;
        hands = hands_then;
      })

  -- one of which its caller was told
  module _ (n : ℕ) (mid after : List Effect) (p new : Scheduler K V S) (outcome : Outcome V) (come : HasCome n mid p) (step : IsStepped same hash place outcome mid after p new) where
    abbrev calls : List (NamedCaller V)
    calls = p.calls

    -- callers have their names still, whether it has ended or not
    pub named_then : AreNamed name new.calls
    named_then =
        subst (AreNamed name) (sym step.calls)
        (by (has_ended step.said))
      where
        its : name (caller_then (known new.logged.notes) step.caller step.said).number ≡ (caller_then (known new.logged.notes) step.caller step.said).name
        its = subst (λ (x : NamedCaller V). name x.number ≡ x.name) (sym (caller_as (known new.logged.notes) step.caller step.said)) (named_at name calls place step.caller step.at come.named)

        by : (q : Bool) → AreNamed name (if q then remove calls place else slice_set calls place (caller_then (known new.logged.notes) step.caller step.said))
        by true = named_left name calls place come.named
        by false = named_set name calls place (caller_then (known new.logged.notes) step.caller step.said) its come.named

    -- the caller of the call has its name
    its_named : is_named (name i) step.caller ≡ true
    its_named =
        ap (λ (x : List ℕ). is_same x (name i))
        (sym (named_at name calls place step.caller step.at come.named) ∙ ap name (ap (λ (x : NamedCaller V). x.number) (caller_is n mid after p new come (as_told same hash step)) ∙ come.number))
        ∙ is_same_refl (name i)

    abbrev then_at : Scene K V
    then_at = then_scene n mid after p new come (as_told same hash step)

    abbrev set_caller : NamedCaller V
    set_caller = caller_then (known new.logged.notes) step.caller step.said

    set_named : is_named (name i) set_caller ≡ true
    set_named = ap (is_named (name i)) (caller_as (known new.logged.notes) step.caller step.said) ∙ its_named

    others_set : AreWorth (name i) beginning then_at (slice_set calls place set_caller)
    others_set =
        all_set (λ (d : NamedCaller V). is_named (name i) d ≡ false → IsWorth beginning then_at d) calls place set_caller (λ other. absurd (let no = set_named in cc (other, no)))
        (others_then n mid after p new come (as_told same hash step))

    once_set : length (filter (is_named (name i)) (slice_set calls place set_caller)) ≤ 1
    once_set = subst (λ (k : ℕ). k ≤ 1) (sym (set_count (is_named (name i)) calls place step.caller set_caller step.at (set_named ∙ sym its_named))) come.once

    -- after it callers keep their values, whether it has ended or not
    pub values_then : HaveValues beginning then_at new.calls
    values_then =
        subst (HaveValues beginning then_at) (sym step.calls) (by (has_ended step.said))
      where
        map_so : set_caller.map ≡ map
        map_so =
            ap (λ (x : NamedCaller V). x.map) (caller_as (known new.logged.notes) step.caller step.said) ∙ ap (λ (x : NamedCaller V). x.map) (caller_is n mid after p new come (as_told same hash step)) ∙ come.on_map

        number_so : set_caller.number ≡ i
        number_so =
            ap (λ (x : NamedCaller V). x.number) (caller_as (known new.logged.notes) step.caller step.said) ∙ ap (λ (x : NamedCaller V). x.number) (caller_is n mid after p new come (as_told same hash step)) ∙ come.number

        value_so : set_caller.value ≡ kept_after (kind_of c.call) step.said step.caller.value
        value_so =
            value_as (known new.logged.notes) step.caller step.said
            ∙ ap (λ (k : CallKind). kept_after k step.said step.caller.value) (ap (λ (x : NamedCaller V). x.kind) (caller_is n mid after p new come (as_told same hash step)) ∙ come.kind)

        own : IsWorth beginning then_at set_caller
        own u here d is =
            elim (which come.scene.calls map i (leads n mid after p new come (as_told same hash step) map come.under (its_here n mid after p new come (as_told same hash step))).4.next set_caller.map
            set_caller.number u here) as (λ _. KeepsValue d.call d.replies (machine_of u) set_caller.value) [
              | inl at ↦ subst (λ (x : CallThere K V). KeepsValue x.call x.replies (machine_of u) set_caller.value)
                  (the c d (sym come.c_is ∙ ap (λ (l : List ℕ). call_of l beginning) (sym (is_same_is set_caller.name (name i) set_named)) ∙ is))
                  (subst (λ (v : Option V). KeepsValue c.call c.replies (machine_of u) v) (sym value_so) (worth_then n mid after p new come (as_told same hash step) u at.2))
              | inr apart ↦ absurd (apart.0 map_so number_so)
            ]

        by : (q : Bool) → HaveValues beginning then_at (if q then remove calls place else slice_set calls place set_caller)
        by true = all_gone (is_named (name i)) (IsWorth beginning then_at) calls place step.caller step.at its_named come.once (others_then n mid after p new come (as_told same hash step))
        by false =
            all_once (is_named (name i)) (IsWorth beginning then_at) (slice_set calls place set_caller) place set_caller (set_get calls place step.caller set_caller step.at) set_named own once_set others_set

    module _ (on : continues outcome ≡ true) where
      said_on : continues (outcome_of (known new.logged.notes) step.caller.kind step.caller.value step.said) ≡ true
      said_on = ap continues (sym step.outcome_is) ∙ on

      not_ended : has_ended step.said ≡ false
      not_ended = going_not_ended (known new.logged.notes) step.caller.kind step.caller.value step.said said_on

      abbrev then_caller : NamedCaller V
      then_caller = record step.caller { stands = far_then (known new.logged.notes) step.said; value = value_then (known new.logged.notes) step.caller.kind step.caller.value step.said }

      set_so : new.calls ≡ slice_set calls place then_caller
      set_so =
          step.calls ∙ ap (λ (q : Bool). if q then remove calls place else slice_set calls place (caller_then (known new.logged.notes) step.caller step.said)) not_ended
          ∙ ap (λ (x : NamedCaller V). slice_set calls place x) (caller_as (known new.logged.notes) step.caller step.said)

      set_now : new.calls ≡ slice_set calls place set_caller
      set_now = step.calls ∙ ap (λ (q : Bool). if q then remove calls place else slice_set calls place set_caller) not_ended

      further : HasCome (n + 1) after new
      further =
          come_on n mid after p new come (as_told same hash step) (shows_none (known new.logged.notes) step.caller.kind step.caller.value step.said said_on) not_ended then_caller
          (ap (λ (l : List (NamedCaller V)). slice_get l place) set_so ∙ set_get calls place step.caller then_caller step.at) refl refl refl named_then
          (ap (λ (x : NamedCaller V). x.value) (sym (caller_as (known new.logged.notes) step.caller step.said)) ∙ value_as (known new.logged.notes) step.caller step.said)
          (subst (λ (l : List (NamedCaller V)). length (filter (is_named (name i)) l) ≤ 1) (sym set_now) once_set) (subst (AreWorth (name i) beginning then_at) (sym set_now) others_set)

  -- one of a walk that was asked for its next pair, which just goes on
  walked_further : (n : ℕ) (mid after : List Effect) (p new : Scheduler K V S) → HasCome n mid p → IsStepOf same hash place progress.Goes mid after p new → HasCome (n + 1) after new
  walked_further n mid after p new come step =
      come_on n mid after p new come (as_walked same hash step) tt refl step.caller (ap (λ (x : Scheduler K V S). slice_get x.calls place) step.rest ∙ step.at) refl refl refl
      (subst (λ (x : Scheduler K V S). AreNamed name x.calls) (sym step.rest) come.named) refl
      (subst (λ (x : Scheduler K V S). length (filter (is_named (name i)) x.calls) ≤ 1) (sym step.rest) come.once)
      (subst (λ (x : Scheduler K V S). AreWorth (name i) beginning (then_scene n mid after p new come (as_walked same hash step)) x.calls) (sym step.rest) (others_then n mid after p new come (as_walked same hash step)))

  -- so it has come wherever its steps have led
  module _ (first : Scheduler K V S) (start : HasCome 0 [] first) where
    at_first : (after : List Effect) (p : Scheduler K V S) → [] ≡ after → first ≡ p → HasCome 0 after p
    at_first after p same_effects is = subst (λ (x : Scheduler K V S). HasCome 0 after x) is (subst (λ (fs : List Effect). HasCome 0 fs first) same_effects start)

    pub has_come : (n : ℕ) (after : List Effect) (p : Scheduler K V S) → GoneFor same hash place n [] after first p → HasCome n after p
    has_come zero after p gone = at_first after p gone.0 gone.1
    has_come (suc n) after p (mid, q, outcome, gone, on, step) = subst (λ (k : ℕ). HasCome k after p) (one_more n) (further n mid after q p outcome (has_come n mid q gone) step on)

    pub has_walked_on : (n : ℕ) (after : List Effect) (p : Scheduler K V S) → WalkedFor same hash place n [] after first p → HasCome n after p
    has_walked_on zero after p walked = at_first after p walked.0 walked.1
    has_walked_on (suc n) after p (mid, q, walked, step) = subst (λ (k : ℕ). HasCome k after p) (one_more n) (walked_further n mid after q p (has_walked_on n mid q walked) step)
