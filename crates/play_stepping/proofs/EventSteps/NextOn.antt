-- The steps of a walk to its next pair: what each says, that it does nothing, and that the walk goes on over the places of its table.
use Rattle.std.specs.Prelude.{◌≡◌, ◌<◌, ◌⊎◌, ◌≤◌, ◌+◌, ◌^◌, ℕ, Bool, false, List, [], ◌++◌, map, slice_get, Option, Some}
use Rattle.std.proofs.Common.{refl, sym, ap, subst, ◌∙◌, inl, inr, arith}
use Rattle.std.proofs.lemmas.List.{append_assoc}
use Rattle.papaya_raw.specs.Given.TablesDeclared.node.Node.{Node}
use Rattle.papaya_raw.specs.Given.TablesDeclared.table.Table.{Table}
use Rattle.papaya_raw.specs.Given.ReservesDeclared.sweep.Purpose.TheVariants.{Walks}
use Rattle.papaya_raw.specs.Given.ReservesDeclared.sweep.Sweep.{Sweep}
use Rattle.papaya_raw.specs.Given.ReservesDeclared.sweep.Sweeping.TheVariants as at
use Rattle.papaya_raw.specs.declared.machines.machine.Machine.{Machine}
use Rattle.papaya_raw.specs.declared.machines.machine.Machine.TheVariants as kinds
use Rattle.papaya_raw.specs.declared.machines.progress.Progress.{Progress}
use Rattle.papaya_raw.specs.declared.machines.progress.Progress.TheVariants as progress
use Rattle.run_schedules.specs.Runs.Same.{is_same}
use Rattle.run_schedules.specs.declared.effect.Effect.{Effect}
use Rattle.run_schedules.specs.Schedules.Effects.{with_effects}
use Rattle.run_schedules.specs.Schedules.Moment.{UnderWay as CallThere, Moment}
use Rattle.run_schedules.specs.Schedules.Terms.{Terms}
use Rattle.owner_whole.specs.Given.CallersTogether.{UnderWay, OnKey, ForRoom, Counting, OverAll, Together}
use Rattle.run_executor.specs.Given.EffectsEffects.{effects_of}
use Rattle.run_executor.specs.Given.EffectsKnown.{known}
use Rattle.run_executor.specs.Given.EffectsDeclared.acting.Acting.TheVariants as acts
use Rattle.owner_whole.specs.Given.FinishesMachines.{machine_of}
use Rattle.owner_whole.specs.Given.FinishesMaps.{Standing}
use Rattle.run_executor.specs.Given.EffectsDeclared.changed.Changed.TheVariants.{Nothing}
use Rattle.play_scheduler.proofs.Given.FollowsCalling.{is_same_refl}
use Rattle.run_executor.proofs.Given.HandsReplacing.{calls_after}
use Rattle.play_scheduler.specs.Given.LoggedCalling.{CallContinues, step_did}
use Rattle.play_scheduler.specs.Given.LoggedShown.{IsShown}
use Rattle.play_scheduler.specs.Given.LoggedDeclared.logged.Logged.{Logged}
use Rattle.run_executor.proofs.Given.MomentsAfter.{effects_after}
use Rattle.play_scheduler.specs.Played.{RefinesAs}
use Rattle.run_executor.specs.Named.Seen.{Seen, seen, seen_of}
use Rattle.play_stepping.specs.EventSteps.Stepping.{IsMidWalk, IsStepOf, IsWalking, ReadyAt, WalksFar}
use Rattle.run_executor.specs.declared.caller.NamedCaller.{NamedCaller}
use Rattle.run_executor.specs.declared.caller.Stands.TheVariants as far
use Rattle.run_executor.specs.declared.kind.CallKind.TheVariants as kind
use Rattle.play_scheduler.specs.declared.scheduler.Scheduler.{Scheduler}
use Rattle.play_stepping.proofs.EventSteps.AfterEffects.{calls_seen, closed_stays, mapped_stays}
use Rattle.play_scheduler.proofs.Here.{HereAs, here_as_at}
use Rattle.play_scheduler.proofs.Given.RowsLists.{set_itself}
use Rattle.run_sweeps.proofs.Quiet.NextSays.{IsNextSaying, NextSays, over_idle, over_says, words_idle, words_say}
use Rattle.play_stepping.proofs.EventSteps.OneStep.{goes_next}
use Rattle.play_scheduler.proofs.RanOn.{maps_named, there_stays}
use Rattle.play_stepping.proofs.EventSteps.StepSays.{goes_as}
use Rattle.play_stepping.proofs.EventSteps.SteppedTo.{going_on}
use Rattle.run_sweeps.proofs.Quiet.Sweeps.{knows_at}
use Rattle.play_scheduler.proofs.Given.ScenesMay.{standing_is}
use Rattle.run_executor.specs.Executing.IsThere.{IsThere, held_by}
use Rattle.play_scheduler.specs.Given.ScenesScene.{HasCall, Scene, slot_of}
use Rattle.run_executor.specs.Given.ScenesStepping.{StepLeads, StepsFrom, has_ended, scene_after}
use Rattle.run_executor.specs.Given.ScenesHeld.{Held}
use Rattle.seize_words.proofs.General.{same_some as the}

module _ {K V : Type 0} where
  -- what says so is a sweep
  pub as_sweep : (q : Sweep) (machine : Machine K V K) (said : Progress (Node K V)) → IsNextSaying q (machine, said)
      → (after : Sweep) × (machine ≡ kinds.Sweep after) × (after.purpose ≡ q.purpose) × NextSays q said after
  as_sweep q (kinds.Sweep after) said so = (after, refl, so.0, so.1)
  as_sweep q (kinds.Key call) said so = absurd so
  as_sweep q (kinds.Reserve reserve) said so = absurd so
  as_sweep q (kinds.Count sum) said so = absurd so

-- a walk at a place of its table, by what all know on its map
module _ {K V : Type 0} (same : K → K → Bool) (n : ℕ) (s : Scene K V) (map i : ℕ) (st : Standing K)
    (together : Together V same st.hash same st.setting slot_of s.world st.chart st.blocks st.sights (s.calls map)) (u : UnderWay K V K) (under : s.calls map i ≡ Some u) (walking : IsWalking n (machine_of u)) where
  abbrev pub GoesOver : Sweep → Type 0
  GoesOver sweep =
      ((sweep.stands ≡ at.Words) × (n ≤ sweep.place) × (sweep.place < sweep.table.len) × (sweep.table.len ≤ 2 ^ 48)) ⊎ ((sweep.stands ≡ at.Over) × (n ≡ 0))

  pub record IsWalk : Type 0 where
    pub sweep : Sweep
    pub is : machine_of u ≡ kinds.Sweep sweep
    pub walks : sweep.purpose ≡ Walks
    pub over : GoesOver sweep

  pub walk_is : IsWalk
  walk_is = by u refl
    where
      by : (v : UnderWay K V K) → u ≡ v → IsWalk
      by (OverAll o) is =
          let so = subst (λ (v : UnderWay K V K). IsWalking n (machine_of v)) is walking in
          record { sweep = o.sweep; is = ap machine_of is; walks = so.0; over = where_it_is so.1 }
        where
          where_it_is : ((o.sweep.stands ≡ at.Words) × (n ≤ o.sweep.place)) ⊎ ((o.sweep.stands ≡ at.Over) × (n ≡ 0)) → GoesOver o.sweep
          where_it_is (inl (words, low)) =
              let facts = knows_at same s map i st together o (under ∙ ap Some is) at.Words (λ row. row) words in
              let len = ap (λ (x : Table). x.len) facts.1.0.table.is in
              let sized = (together.ground.map.map.shows.sized facts.0 facts.1.0.table.made).most in
              let inside = facts.1.1 in
              inl (words, low, omega (arith, len, inside), omega (arith, len, sized))
          where_it_is (inr (over, none)) = inr (over, none)
      by (OnKey x) is = absurd (subst (λ (v : UnderWay K V K). IsWalking n (machine_of v)) is walking)
      by (ForRoom r) is = absurd (subst (λ (v : UnderWay K V K). IsWalking n (machine_of v)) is walking)
      by (Counting sum) is = absurd (subst (λ (v : UnderWay K V K). IsWalking n (machine_of v)) is walking)

  -- it has not taken as many steps as there can be places
  pub few_places : (sweep : Sweep) → GoesOver sweep → n ≤ 2 ^ 48
  few_places sweep (inl (words, low, inside, sized)) = omega (arith, low, inside, sized)
  few_places sweep (inr (over, none)) = omega (arith, none)

  -- each place that is behind it counts
  pub further_on : (sweep : Sweep) → GoesOver sweep → (after : ℕ) → sweep.place < after → n + 1 ≤ after
  further_on sweep (inl (words, low, inside, sized)) after less = omega (arith, low, less)
  further_on sweep (inr (over, none)) after less = omega (arith, none, less)

  -- what its next step says
  pub says : (hash : K → ℕ) (old new : Held K V) (machine : Machine K V K) (said : Progress (Node K V)) → StepsFrom same hash (machine_of u) old new machine said → (it : IsWalk) → IsNextSaying it.sweep (machine, said)
  says hash old new machine said steps it = by it.over
    where
      from : StepsFrom same hash (kinds.Sweep it.sweep) old new machine said
      from = subst (λ (x : Machine K V K). StepsFrom same hash x old new machine said) it.is steps

      by : GoesOver it.sweep → IsNextSaying it.sweep (machine, said)
      by (inl (words, low, inside, sized)) = words_say same hash old new it.sweep it.walks machine said from words inside sized
      by (inr (over, none)) = over_says same hash old new it.sweep it.walks machine said from over

  -- and that it changes nothing
  pub changes_nothing : (hash : K → ℕ) (old new : Held K V) (machine : Machine K V K) (said : Progress (Node K V)) → StepsFrom same hash (machine_of u) old new machine said → IsWalk → new.changed ≡ Nothing
  changes_nothing hash old new machine said steps it = by it.over
    where
      from : StepsFrom same hash (kinds.Sweep it.sweep) old new machine said
      from = subst (λ (x : Machine K V K). StepsFrom same hash x old new machine said) it.is steps

      by : GoesOver it.sweep → new.changed ≡ Nothing
      by (inl (words, low, inside, sized)) = words_idle same hash old new it.sweep it.walks machine said from words
      by (inr (over, none)) = over_idle same hash old new it.sweep it.walks machine said from over

module _ {K V S : Type 0} (same : K → K → Bool) (hash : K → ℕ) (terms : Terms) (own : List ℕ) (n : ℕ) (w : Moment K V) (p : Scheduler K V S) (stands : RefinesAs (WalksFar own n) same hash terms w p)
    (place : ℕ) (at_place : ReadyAt own place p) where
  abbrev pub here : HereAs (WalksFar own n) same hash terms w p stands own place
  here = here_as_at (WalksFar own n) same hash terms w p stands own place at_place.0

  abbrev pub d : NamedCaller V
  d = here.caller

  abbrev calls : List (NamedCaller V)
  calls = p.calls

  pub is_ready : d.stands ≡ far.Ready
  is_ready = ap (λ (x : NamedCaller V). x.stands) (the d at_place.1 (sym here.at ∙ at_place.2)) ∙ at_place.3

  pub its_walk : (d.kind ≡ kind.Walks) × IsWalking n (machine_of here.way.0)
  its_walk = here.way.4.0 (ap (λ (l : List ℕ). is_same l own) here.named ∙ is_same_refl own)

  pub map_is : here.call.map ≡ d.map
  map_is = ap (λ (z : Seen). z.map) here.as_seen

  abbrev st : (standing : Standing K) × (stands.scene.maps d.map ≡ Some standing)
  st = standing_is same (λ map. hash) (held_by p.logged.executor) stands.scene stands.shown.is_at.held d.map d.number here.way.0 here.way.1

  abbrev together : Together V same st.0.hash same st.0.setting slot_of stands.scene.world st.0.chart st.0.blocks st.0.sights (stands.scene.calls d.map)
  together = stands.shown.is_at.held.together.makings.standing.each d.map st.0 st.1

  abbrev pub Its : Type 0
  Its = IsWalk same n stands.scene d.map d.number st.0 together here.way.0 here.way.1 its_walk.1

  pub its_sweep : Its
  its_sweep = walk_is same n stands.scene d.map d.number st.0 together here.way.0 here.way.1 its_walk.1

  pub few_steps : n ≤ 2 ^ 48
  few_steps = few_places same n stands.scene d.map d.number st.0 together here.way.0 here.way.1 its_walk.1 its_sweep.sweep its_sweep.over

  module _ (said : Progress (Node K V)) (new : Logged K V S) (before after : List Effect) (leads_so : CallContinues same hash stands.name w stands.scene d.number d.map said before after p.logged new) where
    abbrev pub leads : StepLeads same (λ map. hash) d.number said stands.scene (held_by p.logged.executor) (held_by new.executor)
    leads = (leads_so here.way.0 here.way.1).0

    abbrev pub did : List Effect
    did = step_did same hash stands.name w stands.scene d.number d.map p.logged new

    abbrev pub w2 : Moment K V
    w2 = with_effects (Some own) (Some d.map) did w

    -- where it has led, whoever asks how far its machine is then
    abbrev pub then_at : Scene K V
    then_at = let it = leads d.map here.way.0 here.way.1 in scene_after same stands.scene (held_by p.logged.executor) (held_by new.executor) d.map d.number it.0 here.way.0 it.1 said it.4

    abbrev pub then_next : Option (UnderWay K V K)
    then_next = (leads d.map here.way.0 here.way.1).4.next

    pub shown : IsShown same hash stands.name w2 new then_at
    shown = subst (λ (x : List ℕ). IsShown same hash stands.name (with_effects (Some x) (Some d.map) did w) new then_at) (here.way.2 ∙ here.named) (leads_so here.way.0 here.way.1).3

    pub alike : map seen w2.calls ≡ map seen_of calls
    alike = calls_seen own (Some d.map) did w ∙ stands.calls.listed

    pub saying : (swept : Sweep) × ((leads d.map here.way.0 here.way.1).1 ≡ kinds.Sweep swept) × (swept.purpose ≡ its_sweep.sweep.purpose) × NextSays its_sweep.sweep said swept
    saying = as_sweep its_sweep.sweep (leads d.map here.way.0 here.way.1).1 said
        (says same n stands.scene d.map d.number st.0 together here.way.0 here.way.1 its_walk.1 (leads d.map here.way.0 here.way.1).0.hash (held_by p.logged.executor) (held_by new.executor) (leads d.map here.way.0 here.way.1).1 said (leads d.map here.way.0 here.way.1).3 its_sweep)

    -- it does nothing
    pub did_nothing : did ≡ []
    did_nothing = ap (effects_of (acts.Call d.number d.map) (known p.logged.notes))
        (changes_nothing same n stands.scene d.map d.number st.0 together here.way.0 here.way.1 its_walk.1 (leads d.map here.way.0 here.way.1).0.hash (held_by p.logged.executor) (held_by new.executor) (leads d.map here.way.0 here.way.1).1 said (leads d.map here.way.0 here.way.1).3 its_sweep)

    -- where it is under way still
    pub under_way : has_ended said ≡ false → (x : UnderWay K V K) × (then_next ≡ Some x)
    under_way on = goes_next (leads d.map here.way.0 here.way.1).1 said then_next (leads d.map here.way.0 here.way.1).4.goes_on on

    pub goes_as_said : (x : UnderWay K V K) → then_next ≡ Some x → machine_of x ≡ kinds.Sweep saying.0
    goes_as_said x goes = goes_as (leads d.map here.way.0 here.way.1).1 said then_next (leads d.map here.way.0 here.way.1).4.goes_on x goes ∙ saying.1

-- it goes on to the next place
module _ {K V S : Type 0} (same : K → K → Bool) (hash : K → ℕ) (terms : Terms) (own : List ℕ) (n : ℕ) (w : Moment K V) (p : Scheduler K V S) (stands : RefinesAs (WalksFar own n) same hash terms w p)
    (place : ℕ) (at_place : ReadyAt own place p) (new : Logged K V S) (before after : List Effect) where
  abbrev its : HereAs (WalksFar own n) same hash terms w p stands own place
  its = here same hash terms own n w p stands place at_place

  module _ (leads_so : CallContinues same hash stands.name w stands.scene its.caller.number its.caller.map progress.Goes before after p.logged new) where
    goes_far : (x : UnderWay K V K) → then_next same hash terms own n w p stands place at_place progress.Goes new before after leads_so ≡ Some x → WalksFar own (n + 1) its.caller (machine_of x)
    goes_far x goes = (
      λ holds. (
        (its_walk same hash terms own n w p stands place at_place).0,
        subst (IsWalking (n + 1)) (sym (goes_as_said same hash terms own n w p stands place at_place progress.Goes new before after leads_so x goes))
            (to.2 ∙ it.walks, inl (to.3.0, further_on same n stands.scene its.caller.map its.caller.number (st same hash terms own n w p stands place at_place).0 (together same hash terms own n w p stands place at_place) its.way.0 its.way.1 (its_walk same hash terms own n w p stands place at_place).1 it.sweep it.over to.0.place to.3.1)),
      ),
      λ fails. absurd (let a = ap (λ (l : List ℕ). is_same l own) its.named ∙ is_same_refl own in cc (a, fails)),
    )
      where
        it : Its same hash terms own n w p stands place at_place
        it = its_sweep same hash terms own n w p stands place at_place

        to : (swept : Sweep) × (((leads_so its.way.0 its.way.1).0 its.caller.map its.way.0 its.way.1).1 ≡ kinds.Sweep swept) × (swept.purpose ≡ it.sweep.purpose) × NextSays {K = K} {V = V} it.sweep progress.Goes swept
        to = saying same hash terms own n w p stands place at_place progress.Goes new before after leads_so

    pub walk_goes : RefinesAs (WalksFar own (n + 1)) same hash terms (with_effects (Some own) (Some its.caller.map) (step_did same hash stands.name w stands.scene its.caller.number its.caller.map p.logged new) w) (record p { logged = new })
    walk_goes =
        let more = under_way same hash terms own n w p stands place at_place progress.Goes new before after leads_so refl in
        let did = step_did same hash stands.name w stands.scene its.caller.number its.caller.map p.logged new in
        going_on (WalksFar own n) (WalksFar own (n + 1)) own (λ x apart machine is. (λ holds. absurd (cc (apart, holds)), is.1)) same hash terms w p stands place its progress.Goes new (leads_so its.way.0 its.way.1).0
        (with_effects (Some own) (Some its.caller.map) did w) (shown same hash terms own n w p stands place at_place progress.Goes new before after leads_so) (there_stays (Some own) (Some its.caller.map) did w)
        (mapped_stays (Some own) (Some its.caller.map) did w) (closed_stays (Some own) (Some its.caller.map) did w) (maps_named (Some own) (Some its.caller.map) did w) more.0 more.1 its.caller.stands its.caller.value
        (goes_far more.0 more.1)
        (alike same hash terms own n w p stands place at_place progress.Goes new before after leads_so ∙ sym (ap (map seen_of) (set_itself p.calls place its.caller its.at))) p.calls
        (sym (set_itself p.calls place its.caller its.at))

-- so it is midst its steps
module _ {K V S : Type 0} (same : K → K → Bool) (hash : K → ℕ) (terms : Terms) (own : List ℕ) (place : ℕ) (m : Moment K V) (n : ℕ) (before mid after : List Effect) (p new : Scheduler K V S)
    (midst : IsMidWalk same hash terms own place m n before mid p) where
  abbrev pub c : CallThere K V
  c = midst.call

  abbrev pub midst_w : Moment K V
  midst_w = with_effects (Some own) (Some c.map) midst.did m

  abbrev pub its_place : HereAs (WalksFar own n) same hash terms midst_w p midst.stands own place
  its_place = here same hash terms own n midst_w p midst.stands place midst.ready

  -- its map is that of the call
  pub same_map : its_place.caller.map ≡ c.map
  same_map =
      sym (map_is same hash terms own n midst_w p midst.stands place midst.ready)
      ∙ ap (λ (x : CallThere K V). x.map) (the its_place.call (calls_after own c.map own midst.did m c midst.call_is).0 (sym its_place.call_is ∙ (calls_after own c.map own midst.did m c midst.call_is).1))
      ∙ (calls_after own c.map own midst.did m c midst.call_is).2.0.map

  module _ (said : Progress (Node K V)) (step : IsStepOf same hash place said mid after p new) where
    pub caller_is : step.caller ≡ its_place.caller
    caller_is = the step.caller its_place.caller (sym step.at ∙ its_place.at)

    pub leads_is : CallContinues same hash midst.stands.name midst_w midst.stands.scene its_place.caller.number its_place.caller.map said mid after p.logged new.logged
    leads_is = subst (λ (x : NamedCaller V). CallContinues same hash midst.stands.name midst_w midst.stands.scene x.number x.map said mid after p.logged new.logged) caller_is
        (step.leads midst.stands.name midst_w midst.stands.scene midst.stands.shown)

    abbrev pub last_did : List Effect
    last_did = step_did same hash midst.stands.name midst_w midst.stands.scene its_place.caller.number its_place.caller.map p.logged new.logged

    pub all_did : with_effects (Some own) (Some its_place.caller.map) last_did midst_w ≡ with_effects (Some own) (Some c.map) (midst.did ++ last_did) m
    all_did = ap (λ (x : ℕ). with_effects (Some own) (Some x) last_did midst_w) same_map ∙ sym (effects_after (Some own) (Some c.map) midst.did last_did m)

    pub follows_all : after ≡ before ++ (midst.did ++ last_did)
    follows_all = (leads_is its_place.way.0 its_place.way.1).1 ∙ ap (λ (l : List Effect). l ++ last_did) midst.follows ∙ append_assoc before midst.did last_did

    pub idle_all : midst.did ++ last_did ≡ []
    idle_all = ap (λ (l : List Effect). l ++ last_did) midst.idle ∙ did_nothing same hash terms own n midst_w p midst.stands place midst.ready said new.logged mid after leads_is

  pub mid_next : IsStepOf same hash place progress.Goes mid after p new → IsMidWalk same hash terms own place m (n + 1) before after new
  mid_next step = record {
    call = c;
    call_is = midst.call_is;
    did = midst.did ++ last_did progress.Goes step;
    follows = follows_all progress.Goes step;
    idle = idle_all progress.Goes step;
    stands = subst (λ (x : Scheduler K V S). RefinesAs (WalksFar own (n + 1)) same hash terms (with_effects (Some own) (Some c.map) (midst.did ++ last_did progress.Goes step) m) x) (sym step.rest)
        (subst (λ (x : Moment K V). RefinesAs (WalksFar own (n + 1)) same hash terms x (record p { logged = new.logged })) (all_did progress.Goes step)
        (walk_goes same hash terms own n midst_w p midst.stands place midst.ready new.logged mid after (leads_is progress.Goes step)));
    ready = subst (λ (x : Scheduler K V S). ReadyAt own place x) (sym step.rest) midst.ready;
  }

-- before the first one
module _ {K V S : Type 0} (same : K → K → Bool) (hash : K → ℕ) (terms : Terms) (own : List ℕ) (place : ℕ) (m : Moment K V) where
  pub mid_first : (p : Scheduler K V S) (stands : RefinesAs (WalksFar own 0) same hash terms m p) → ReadyAt own place p → (list : List Effect) → list ≡ list ++ [] → IsMidWalk same hash terms own place m 0 list list p
  mid_first p stands ready list none =
      let it = here same hash terms own 0 m p stands place ready in
      record { call = it.call; call_is = it.call_is; did = []; follows = none; idle = refl; stands = stands; ready = ready }

  module _ (n : ℕ) (before mid : List Effect) (p : Scheduler K V S) (midst : IsMidWalk same hash terms own place m n before mid p) where
    abbrev w : Moment K V
    w = with_effects (Some own) (Some midst.call.map) midst.did m

    -- it may take a step
    pub may_walk : (x : NamedCaller V) → slice_get p.calls place ≡ Some x → (s : Scene K V) × IsThere same hash p.logged.executor s × HasCall s x.number
    may_walk x at_x =
        let it = here same hash terms own n w p midst.stands place midst.ready in
        let same_one : it.caller ≡ x = the it.caller x (sym it.at ∙ at_x) in
        (midst.stands.scene, midst.stands.shown.is_at, subst (λ (y : NamedCaller V). HasCall midst.stands.scene y.number) same_one (it.caller.map, it.way.0, it.way.1))

    pub mid_few : n ≤ 2 ^ 48
    mid_few = few_steps same hash terms own n w p midst.stands place midst.ready

-- another state of the executor, in place of the one that it came to
pub logged_on : {K V S : Type 0} (p first : Scheduler K V S) (new : Logged K V S) → p ≡ record first { logged = p.logged } → record p { logged = new } ≡ record first { logged = new }
logged_on {K} {V} {S} p first new is = ap (λ (x : Scheduler K V S). record x { logged = new }) is
