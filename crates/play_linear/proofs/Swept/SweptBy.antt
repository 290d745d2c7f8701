-- A step of a call on a whole map does what the call is for.
use Rattle.std.specs.Prelude.{◌≡◌, ℕ, suc, Bool, true, List, [], Option, Some}
use Rattle.std.proofs.Common.{refl, ap, sym, subst, ◌∙◌, inl, inr}
use Rattle.play_lists.specs.Given.TablesDeclared.node.Node.{Node}
use Rattle.seize_acts.specs.Given.SeizeDeclared.advance.Advance.{Advance as Counted}
use Rattle.seize_acts.specs.Given.SeizeDeclared.advance.Advance.TheVariants as counted
use Rattle.run_logged.specs.Given.ResizeDeclared.yielding.Yielding.{Yielding as Room}
use Rattle.run_logged.specs.Given.ResizeDeclared.yielding.Yielding.TheVariants as room
use Rattle.run_logged.specs.Given.ReservesDeclared.sweep.Purpose.{Purpose}
use Rattle.run_logged.specs.Given.ReservesDeclared.sweep.Purpose.TheVariants.{Clears, Retains, Walks}
use Rattle.run_logged.specs.Given.ReservesDeclared.sweep.Sweep.{Sweep}
use Rattle.run_logged.specs.Given.ReservesDeclared.sweep.Sweeping.TheVariants as sweeping
use Rattle.run_logged.specs.Given.ReservesDeclared.sweep.Swept.{Swept}
use Rattle.run_logged.specs.Given.ReservesDeclared.sweep.Swept.TheVariants as swept
use Rattle.run_logged.specs.Given.RawProgress.{of_called, of_counting, of_outcome, of_swept}
use Rattle.run_logged.specs.Given.RawDeclared.machines.answer.Called.{Called}
use Rattle.run_logged.specs.Given.RawDeclared.machines.answer.Called.TheVariants as called
use Rattle.run_logged.specs.Given.RawDeclared.machines.machine.Machine.TheVariants as kinds
use Rattle.run_logged.specs.Given.RawDeclared.machines.progress.Answer.TheVariants as answers
use Rattle.run_logged.specs.Given.RawDeclared.machines.progress.Progress.{Progress}
use Rattle.run_logged.specs.Given.RawDeclared.machines.progress.Progress.TheVariants as progress
use Rattle.run_logged.specs.Given.LateToldSweeps.{OutcomeAgrees}
use Rattle.run_logged.specs.Given.CallersOverAll.{CallOverAll}
use Rattle.run_logged.specs.Given.CallersTogether.{UnderWay, OnKey, ForRoom, Counting, OverAll}
use Rattle.play_lists.specs.Given.FinishesMachines.{ContinuesAs, machine_of}
use Rattle.play_lists.specs.Given.FinishesMaps.{Standing}
use Rattle.run_schedules.specs.declared.call.Response.TheVariants as answer
use Rattle.run_schedules.specs.declared.call.Call.{Call}
use Rattle.run_schedules.specs.declared.call.Call.TheVariants as call
use Rattle.run_schedules.specs.declared.call.OneKey.{OneKey}
use Rattle.run_schedules.specs.declared.effect.Effect.{Effect}
use Rattle.run_schedules.specs.declared.outcome.Outcome.{Outcome}
use Rattle.run_schedules.specs.declared.outcome.Outcome.TheVariants as outcome
use Rattle.run_schedules.specs.Schedules.Effects.{with_effects}
use Rattle.run_schedules.specs.Schedules.Entry.{IfCall, acting}
use Rattle.run_schedules.specs.Schedules.Moment.{Moment, UnderWay as CallThere}
use Rattle.run_schedules.specs.Schedules.Sweeps.{SweepsRight}
use Rattle.run_schedules.specs.Schedules.Terms.{Terms, shards_of}
use Rattle.run_schedules.specs.Schedules.Transition.{Past, Transition, call_left, worked_by}
use Rattle.run_schedules.specs.Schedules.Views.{call_of, is_in_map}
use Rattle.play_lists.specs.Given.EffectsEffects.{effects_of, known_after}
use Rattle.play_lists.specs.Given.EffectsKnown.{Known}
use Rattle.play_lists.specs.Given.EffectsDeclared.acting.Acting.TheVariants as acts
use Rattle.play_lists.specs.Given.ScenesHeld.{Held, IsAt}
use Rattle.play_lists.specs.Given.ScenesScene.{Scene}
use Rattle.play_lists.specs.Given.ScenesStepping.{StepLeads, scene_after}
use Rattle.run_logged.proofs.Given.HandsReplacing.{calls_after}
use Rattle.run_logged.proofs.Given.CallersTogether.At.{at_same}
use Rattle.run_logged.specs.Given.MomentsWhole.{RefinesWhole}
use Rattle.play_lists.proofs.Given.ScenesMay.{standing_is}
use Rattle.run_logged.proofs.Given.MomentsCalls.{calls_keep_whole}
use Rattle.play_lists.specs.Given.HistoriesAnswers.{NamesPair}
use Rattle.play_lists.specs.Given.HistoriesInEvent.{InEvent}
use Rattle.play_lists.proofs.Given.HistoriesAnyCall.InEvent.{events_begin}
use Rattle.play_lists.proofs.Given.HistoriesOtherMidsts.{fewer_so}
use Rattle.play_lists.proofs.Given.HistoriesRetaining.{found_there}
use Rattle.run_sweeps.specs.OwnPairs.{EachIsItsOwn}
use Rattle.run_sweeps.proofs.OwnPairs.{each_is_its_own}
use Rattle.run_logged.specs.Given.NamedSeen.{kind_of}
use Rattle.run_logged.specs.Given.NamedTelling.{number_by, number_in}
use Rattle.run_sweeps.proofs.Quiet.Sweeps.{walks_at}
use Rattle.run_sweeps.specs.Purposes.Kept.{NoneCame, PairsChangeFirst}
use Rattle.run_sweeps.specs.Given.PurposesPurposes.{IsFor, RefinesPurposes}
use Rattle.run_sweeps.specs.Given.PurposesShards.{ReadsShards}
use Rattle.run_sweeps.specs.Purposes.Swept.{EndsWithOutcome as IsToldSo, SaysNothing}
use Rattle.run_sweeps.proofs.Purposes.Between.{first_steps_change_pairs_first}
use Rattle.run_sweeps.proofs.Purposes.FindsRoom.{reservations_are_swept}
use Rattle.run_sweeps.proofs.Purposes.Nothing.{calls_on_keys_are_swept, other_outcomes_are_swept}
use Rattle.run_sweeps.proofs.Purposes.Shows.{walks_show}
use Rattle.run_sweeps.proofs.Purposes.ShowsAll.{walks_show_all}
use Rattle.run_sweeps.proofs.Purposes.Swept.{clearings_are_swept, countings_are_swept, retainings_are_swept}
use Rattle.run_sweeps.proofs.Purposes.WalkWords.{walks_have_words}
use Rattle.run_schedules.specs.Deeds.Deeds.{Entry, moment, named}
use Rattle.run_schedules.specs.Deeds.History.{is_of_kind, past}
use Rattle.play_lists.specs.Played.Play.{outcome_of}
use Rattle.play_linear.specs.Linear.Shown.{RefinesAnswers}

-- what a machine says, by its kind
abbrev SaidBy : {K V : Type 0} → UnderWay K V K → Progress (Node K V) → Type 0
SaidBy {K} {V} (OnKey x) said = (end : Called (Node K V)) × (said ≡ of_called end)
SaidBy {K} {V} (ForRoom r) said = (end : Room (Node K V) Unit) × (said ≡ of_outcome end)
SaidBy {K} {V} (Counting sum) said = (end : Counted ℕ) × (said ≡ of_counting end)
SaidBy {K} {V} (OverAll o) said = (end : Swept (Node K V)) × (said ≡ of_swept end)

module _ {K V : Type 0} (same : K → K → Bool) (hash : ℕ → K → ℕ) where
  said_by : (s : Scene K V) (old new : Held K V) (map i : ℕ) (u : UnderWay K V K) (here : s.calls map i ≡ Some u) (said : Progress (Node K V)) → StepLeads same hash i said s old new → SaidBy u said
  said_by s old new map i (OnKey x) here said leads = let did = (leads map (OnKey x) here).4.did in (did.1, did.3)
  said_by s old new map i (ForRoom r) here said leads = let did = (leads map (ForRoom r) here).4.did in (did.1, did.3)
  said_by s old new map i (Counting sum) here said leads = let did = (leads map (Counting sum) here).4.did in (did.1, did.3)
  said_by s old new map i (OverAll o) here said leads = let did = (leads map (OverAll o) here).4.did in (did.1, did.3)

-- A sweep that shows a pair is a walk: it stands ready then.
module _ {K V : Type 0} (same : K → K → Bool) (hash : ℕ → K → ℕ) (s : Scene K V) (old new : Held K V) (map i : ℕ) (o : CallOverAll) (here : s.calls map i ≡ Some (OverAll o)) (said : Progress (Node K V))
    (leads : StepLeads same hash i said s old new) (word : ℕ) (is : said ≡ progress.Pair word) where
  abbrev p2 : Sweep
  p2 = (leads map (OverAll o) here).4.did.0

  pair_of : (end : Swept (Node K V)) → progress.Pair word ≡ of_swept end → end ≡ swept.Pair word
  pair_of (swept.Pair other) e = (let one : word ≡ other = cc e in ap swept.Pair (sym one))
  pair_of swept.Goes e = absurd (cc e)
  pair_of swept.Waits e = absurd (cc e)
  pair_of (swept.Gave value) e = absurd (cc e)
  pair_of swept.Ready e = absurd (cc e)
  pair_of (swept.Asks other) e = absurd (cc e)
  pair_of swept.Done e = absurd (cc e)
  pair_of (swept.Refused fault) e = absurd (cc e)

  end_is : (leads map (OverAll o) here).4.did.1 ≡ swept.Pair word
  end_is = pair_of (leads map (OverAll o) here).4.did.1 (sym is ∙ (leads map (OverAll o) here).4.did.3)

  stands_ready : (p2.purpose ≡ o.sweep.purpose) × (p2.stands ≡ sweeping.Ready)
  stands_ready = elim (leads map (OverAll o) here).4.did.4 as (λ _. (p2.purpose ≡ o.sweep.purpose) × (p2.stands ≡ sweeping.Ready)) [
    | inl it ↦ (it.0.step.went.told.stands.purpose, (subst (OutcomeAgrees o.sweep.stands p2.stands) end_is it.0.step.went.told.stands.tells).1)
    | inr it ↦ absurd (let silent = it.0.step.silent in let pair = end_is in cc (silent, pair))
  ]

  goes_on : (y : UnderWay K V K) × ((leads map (OverAll o) here).4.next ≡ Some y) × (machine_of y ≡ (leads map (OverAll o) here).1)
  goes_on = subst (λ (p : Progress (Node K V)). ContinuesAs (leads map (OverAll o) here).1 p (leads map (OverAll o) here).4.next) is (leads map (OverAll o) here).4.goes_on

  its_sweep : (y : UnderWay K V K) → machine_of y ≡ kinds.Sweep p2 → (x : CallOverAll) × (y ≡ OverAll x) × (x.sweep ≡ p2)
  its_sweep (OverAll x) e = (x, refl, (let f : x.sweep ≡ p2 = cc e in f))
  its_sweep _ e = absurd (cc e)

  pub pair_walks : o.sweep.purpose ≡ Walks
  pair_walks =
      let x = its_sweep goes_on.0 (goes_on.2 ∙ (leads map (OverAll o) here).4.did.2) in
      let s2 : Scene K V = scene_after same s old new map i (leads map (OverAll o) here).0 (OverAll o) (leads map (OverAll o) here).1 said (leads map (OverAll o) here).4 in
      let here2 : s2.calls map i ≡ Some (OverAll x.0) =
      ap (λ (f : ℕ → Option (UnderWay K V K)). f i) (at_same s.calls map _ map refl) ∙ at_same (s.calls map) i (leads map (OverAll o) here).4.next i refl ∙ goes_on.1 ∙ ap Some x.1 in
      let st = standing_is same hash new s2 (leads map (OverAll o) here).5 map i (OverAll x.0) here2 in
      sym stands_ready.0 ∙ ap (λ (q : Sweep). q.purpose) (sym x.2)
      ∙ walks_at same s2 map i st.0 ((leads map (OverAll o) here).5.together.makings.standing.each map st.0 st.1) x.0 here2 (ap (λ (q : Sweep). q.stands) x.2 ∙ stands_ready.1)

-- A transition that is the step of this call, whose effects have led to that moment
module _ {K V : Type 0} (same : K → K → Bool) (hash : ℕ → K → ℕ) (terms : Terms) (log : Past K V) (known : Known) (s : Scene K V) (old new : Held K V) (at : IsAt same hash old s)
    (whole : RefinesWhole same named log.now known s) (purposes : RefinesPurposes same named log log.now known s) (map i : ℕ) (u : UnderWay K V K) (here : s.calls map i ≡ Some u) (said : Progress (Node K V))
    (leads : StepLeads same hash i said s old new) (reads : ReadsShards log log.now s map u) (shards : (standing : Standing K) → s.maps map ≡ Some standing → suc standing.setting.mask ≡ shards_of terms)
    (d : CallThere K V) (d_is : call_of (named i) log.now ≡ Some d) (value : Option V) (t : Transition K V) (caller : t.caller ≡ Some (named i))
    (worked : worked_by t ≡ with_effects (Some (named i)) (Some map) (effects_of (acts.Call i map) known new.changed) log.now) where
  abbrev effects : List Effect
  effects = effects_of (acts.Call i map) known new.changed

  abbrev v : Moment K V
  v = with_effects (Some (named i)) (Some map) effects log.now

  abbrev known2 : Known
  known2 = known_after (acts.Call i map) new.changed known

  changes : PairsChangeFirst log log.now map v
  changes = first_steps_change_pairs_first K V log log.now v map (refl, refl)

  -- the call after its effects
  left : (c : CallThere K V) × (call_left t ≡ Some c) × (c.call ≡ d.call)
  left =
      let it = calls_after (named i) map (named i) effects log.now d d_is in
      (it.0, ap (λ (o : Option (List ℕ)). acting o (worked_by t)) caller ∙ ap (call_of (named i)) worked ∙ it.1, it.2.0.call)

  abbrev Right : Call K V → Type 0
  Right called = SweepsRight same terms log t × (is_of_kind called t.outcome ≡ true)

  abbrev Comes : Call K V → Progress (Node K V) → Type 0
  Comes called p = t.outcome ≡ outcome_of known2 (kind_of called) value p

  comes_as : (called : Call K V) (p : Progress (Node K V)) → said ≡ p → Comes called said → Comes called p
  comes_as called p is comes = subst (Comes called) is comes

  -- where it tells neither an answer nor a pair
  quiet : (called : Call K V) (o : Outcome V) → SaysNothing o → is_of_kind called o ≡ true → t.outcome ≡ o → Right called
  quiet called o nothing kind is = (other_outcomes_are_swept K V same terms log t (subst SaysNothing (sym is) nothing), ap (is_of_kind called) is ∙ kind)

  on_key : (one : OneKey K V) → d.call ≡ call.On one → (end : Called (Node K V)) → said ≡ of_called end → Comes (call.On one) said → Right (call.On one)
  on_key one asked end is comes = (calls_on_keys_are_swept K V same terms log t left.0 one left.1 (left.2 ∙ asked), by end (comes_as (call.On one) (of_called end) is comes))
    where
      by : (x : Called (Node K V)) → Comes (call.On one) (of_called x) → is_of_kind (call.On one) t.outcome ≡ true
      by called.Goes e = ap (is_of_kind {K = K} (call.On one)) e
      by called.Waits e = ap (is_of_kind {K = K} (call.On one)) e
      by (called.Gave node) e = ap (is_of_kind {K = K} (call.On one)) e
      by (called.Unstored node) e = ap (is_of_kind {K = K} (call.On one)) e
      by (called.Asks about) e = ap (is_of_kind {K = K} (call.On one)) e
      by (called.Done its) e = ap (is_of_kind {K = K} (call.On one)) e
      by (called.Refused fault) e = ap (is_of_kind {K = K} (call.On one)) e

  abbrev Told : Outcome V → Progress (Node K V) → Type 0
  Told o p = IsToldSo known2 p o

  counts : d.call ≡ call.Len → (end : Counted ℕ) → said ≡ of_counting end → Comes call.Len said → Right call.Len
  counts called counted.Goes is comes = quiet call.Len outcome.Goes tt refl (comes_as call.Len progress.Goes is comes)
  counts called counted.Waits is comes = quiet call.Len outcome.Waits tt refl (comes_as call.Len progress.Waits is comes)
  counts called (counted.Done n) is comes =
      let o = comes_as call.Len (progress.Done (answers.Count n)) is comes in (
        countings_are_swept K V same hash n named log log.now known s old new at whole purposes map i u here said leads d d_is called reads (subst (Told (outcome.Answered (answer.Counted n))) (sym is) refl) terms shards t
            caller worked o,
        ap (is_of_kind {K = K} call.Len) o,
      )
  counts called (counted.Refused fault) is comes = quiet call.Len (outcome.Refused fault) tt refl (comes_as call.Len (progress.Refused fault) is comes)

  reserves : (more : ℕ) → d.call ≡ call.Reserve more → (end : Room (Node K V) Unit) → said ≡ of_outcome end → Comes (call.Reserve more) said → Right (call.Reserve more)
  reserves more called room.Goes is comes = quiet (call.Reserve more) outcome.Goes tt refl (comes_as (call.Reserve more) progress.Goes is comes)
  reserves more called room.Waits is comes = quiet (call.Reserve more) outcome.Waits tt refl (comes_as (call.Reserve more) progress.Waits is comes)
  reserves more called (room.Gave node) is comes = quiet (call.Reserve more) outcome.Goes tt refl (comes_as (call.Reserve more) (progress.Gave node) is comes)
  reserves more called (room.Done made) is comes =
      let o = comes_as (call.Reserve more) (progress.Done answers.Reserved) is comes in (
        reservations_are_swept K V same hash more named log log.now known s old new at whole purposes map i u here said leads d d_is called reads (subst (Told (outcome.Answered answer.Completed)) (sym is) tt) terms shards t
            caller worked o,
        ap (is_of_kind {K = K} (call.Reserve more)) o,
      )
  reserves more called (room.Refused fault) is comes = quiet (call.Reserve more) (outcome.Refused fault) tt refl (comes_as (call.Reserve more) (progress.Refused fault) is comes)

  -- a sweep that removes, which shows no pair
  clears : d.call ≡ call.Clear → ((word : ℕ) → said ≡ progress.Pair word → ⊥) → (end : Swept (Node K V)) → said ≡ of_swept end → Comes call.Clear said → Right call.Clear
  clears called none swept.Goes is comes = quiet call.Clear outcome.Goes tt refl (comes_as call.Clear progress.Goes is comes)
  clears called none swept.Waits is comes = quiet call.Clear outcome.Waits tt refl (comes_as call.Clear progress.Waits is comes)
  clears called none (swept.Gave node) is comes = quiet call.Clear outcome.Goes tt refl (comes_as call.Clear (progress.Gave node) is comes)
  clears called none swept.Ready is comes = quiet call.Clear outcome.Ready tt refl (comes_as call.Clear progress.Ready is comes)
  clears called none (swept.Pair word) is comes = absurd (none word is)
  clears called none (swept.Asks word) is comes = quiet call.Clear (outcome.Asks (Some (number_by known2 word))) tt refl (comes_as call.Clear (progress.Asks (Some word)) is comes)
  clears called none swept.Done is comes =
      let o = comes_as call.Clear (progress.Done answers.Swept) is comes in (
        clearings_are_swept K V same hash named log log.now known s old new at whole purposes map i u here said leads d d_is called changes (subst (Told (outcome.Answered answer.Completed)) (sym is) tt) terms shards t caller
            worked o,
        ap (is_of_kind {K = K} call.Clear) o,
      )
  clears called none (swept.Refused fault) is comes = quiet call.Clear (outcome.Refused fault) tt refl (comes_as call.Clear (progress.Refused fault) is comes)

  retains : d.call ≡ call.Retain → ((word : ℕ) → said ≡ progress.Pair word → ⊥) → (end : Swept (Node K V)) → said ≡ of_swept end → Comes call.Retain said → Right call.Retain
  retains called none swept.Goes is comes = quiet call.Retain outcome.Goes tt refl (comes_as call.Retain progress.Goes is comes)
  retains called none swept.Waits is comes = quiet call.Retain outcome.Waits tt refl (comes_as call.Retain progress.Waits is comes)
  retains called none (swept.Gave node) is comes = quiet call.Retain outcome.Goes tt refl (comes_as call.Retain (progress.Gave node) is comes)
  retains called none swept.Ready is comes = quiet call.Retain outcome.Ready tt refl (comes_as call.Retain progress.Ready is comes)
  retains called none (swept.Pair word) is comes = absurd (none word is)
  retains called none (swept.Asks word) is comes = quiet call.Retain (outcome.Asks (Some (number_by known2 word))) tt refl (comes_as call.Retain (progress.Asks (Some word)) is comes)
  retains called none swept.Done is comes =
      let o = comes_as call.Retain (progress.Done answers.Swept) is comes in (
        retainings_are_swept K V same hash named log log.now known s old new at whole purposes map i u here said leads d d_is called changes (subst (Told (outcome.Answered answer.Completed)) (sym is) tt) terms shards t caller
            worked o,
        ap (is_of_kind {K = K} call.Retain) o,
      )
  retains called none (swept.Refused fault) is comes = quiet call.Retain (outcome.Refused fault) tt refl (comes_as call.Retain (progress.Refused fault) is comes)

  -- a walk, by which no pair comes
  walks : d.call ≡ call.Walk → NoneCame log v map → (end : Swept (Node K V)) → said ≡ of_swept end → Comes call.Walk said → Right call.Walk
  walks called none swept.Goes is comes = quiet call.Walk outcome.Goes tt refl (comes_as call.Walk progress.Goes is comes)
  walks called none swept.Waits is comes = quiet call.Walk outcome.Waits tt refl (comes_as call.Walk progress.Waits is comes)
  walks called none (swept.Gave node) is comes = quiet call.Walk outcome.Goes tt refl (comes_as call.Walk (progress.Gave node) is comes)
  walks called none swept.Ready is comes = quiet call.Walk outcome.Ready tt refl (comes_as call.Walk progress.Ready is comes)
  walks called none (swept.Pair word) is comes =
      let its = (walks_have_words K V same hash named log log.now known s old new at whole purposes map i u here said leads d d_is called).pairs word is in
      let names : NamesPair known2 word (number_by known2 word) = subst (NamesPair known2 word) (sym (ap number_in its.1)) its.1 in
      let o = comes_as call.Walk (progress.Pair word) is comes in (
        walks_show K V same hash (number_by known2 word) named log log.now known s old new at whole purposes map i u here said leads d d_is called (changes, none)
            (subst (Told (outcome.Shows (number_by known2 word))) (sym is) names) terms shards t caller worked o,
        ap (is_of_kind {K = K} call.Walk) o,
      )
  walks called none (swept.Asks word) is comes = quiet call.Walk (outcome.Asks (Some (number_by known2 word))) tt refl (comes_as call.Walk (progress.Asks (Some word)) is comes)
  walks called none swept.Done is comes =
      let o = comes_as call.Walk (progress.Done answers.Swept) is comes in (
        walks_show_all K V same hash named log log.now known s old new at whole purposes map i u here (subst (λ (p : Progress (Node K V)). StepLeads same hash i p s old new) is leads) d d_is called (λ k has. has) terms t
            caller worked o,
        ap (is_of_kind {K = K} call.Walk) o,
      )
  walks called none (swept.Refused fault) is comes = quiet call.Walk (outcome.Refused fault) tt refl (comes_as call.Walk (progress.Refused fault) is comes)

  -- So it is of each call, if no walk shows what has come just then, and who shows a pair is a walk.
  module _ (none : d.call ≡ call.Walk → NoneCame log v map) (shows : (o : CallOverAll) → u ≡ OverAll o → (word : ℕ) → said ≡ progress.Pair word → o.sweep.purpose ≡ Walks) where
    never : (o : CallOverAll) → u ≡ OverAll o → (purpose : Purpose) → o.sweep.purpose ≡ purpose → (Walks ≡ purpose → ⊥) → (word : ℕ) → said ≡ progress.Pair word → ⊥
    never o is purpose for other word pair = other (sym (shows o is word pair) ∙ for)

    by_call : (called : Call K V) → d.call ≡ called → (x : UnderWay K V K) → u ≡ x → IsFor x called → SaidBy x said → Comes called said → Right called
    by_call (call.On one) is (OnKey x) u_is for (end, e) comes = on_key one is end e comes
    by_call (call.Reserve more) is (ForRoom r) u_is for (end, e) comes = reserves more is end e comes
    by_call call.Len is (Counting sum) u_is for (end, e) comes = counts is end e comes
    by_call call.Clear is (OverAll o) u_is for (end, e) comes = clears is (never o u_is Clears for (λ a. cc a)) end e comes
    by_call call.Retain is (OverAll o) u_is for (end, e) comes = retains is (never o u_is Retains for (λ a. cc a)) end e comes
    by_call call.Walk is (OverAll o) u_is for (end, e) comes = walks is (none is) end e comes
    by_call _ is _ u_is for told comes = absurd for

    pub right : (called : Call K V) → d.call ≡ called → Comes called said → IfCall (λ c. is_of_kind c.call t.outcome ≡ true) (call_left t) × SweepsRight same terms log t
    right called is comes =
        let so = by_call called is u refl (subst (IsFor u) is (purposes.is_for map i u here d d_is)) (said_by same hash s old new map i u here said leads) comes in
        (subst (IfCall (λ (c : CallThere K V). is_of_kind c.call t.outcome ≡ true)) (sym left.1) (subst (λ (c : Call K V). is_of_kind c t.outcome ≡ true) (sym (left.2 ∙ is)) so.1), so.0)

-- who shows a pair is a sweep
no_pair : {K V : Type 0} (x : UnderWay K V K) (said : Progress (Node K V)) → SaidBy x said → (word : ℕ) → said ≡ progress.Pair word → (o : CallOverAll) × (x ≡ OverAll o)
no_pair {K} {V} (OverAll o) said told word is = (o, refl)
no_pair {K} {V} (OnKey x) said (end, e) word is = absurd (by end (sym is ∙ e))
  where
    by : (y : Called (Node K V)) → progress.Pair word ≡ of_called y → ⊥
    by called.Goes e = cc e
    by called.Waits e = cc e
    by (called.Gave node) e = cc e
    by (called.Unstored node) e = cc e
    by (called.Asks about) e = cc e
    by (called.Done its) e = cc e
    by (called.Refused fault) e = cc e
no_pair {K} {V} (ForRoom r) said (end, e) word is = absurd (by end (sym is ∙ e))
  where
    by : (y : Room (Node K V) Unit) → progress.Pair word ≡ of_outcome y → ⊥
    by room.Goes e = cc e
    by room.Waits e = cc e
    by (room.Gave node) e = cc e
    by (room.Done made) e = cc e
    by (room.Refused fault) e = cc e
no_pair {K} {V} (Counting sum) said (end, e) word is = absurd (by end (sym is ∙ e))
  where
    by : (y : Counted ℕ) → ◌≡◌ {A = Progress (Node K V)} (progress.Pair word) (of_counting y) → ⊥
    by counted.Goes e = cc e
    by counted.Waits e = cc e
    by (counted.Done n) e = cc e
    by (counted.Refused fault) e = cc e

-- a sweep that is a walk was called so
walk_called : {K V : Type 0} (o : CallOverAll) (called : Call K V) → IsFor (OverAll o) called → o.sweep.purpose ≡ Walks → called ≡ call.Walk
walk_called o call.Walk for walks = refl
walk_called o call.Clear for walks = absurd (cc (for, walks))
walk_called o call.Retain for walks = absurd (cc (for, walks))
walk_called o _ for walks = absurd for

-- In a history, by a step of a call.
module _ {K V : Type 0} (same : K → K → Bool) (hash : ℕ → K → ℕ) (history : List (Entry K V)) (known : Known) (s : Scene K V) (old new : Held K V) (at : IsAt same hash old s)
    (all : RefinesAnswers same (past history) (moment history) known s) (purposes : RefinesPurposes same named (past history) (moment history) known s) (map i : ℕ) (u : UnderWay K V K)
    (here : s.calls map i ≡ Some u) (said : Progress (Node K V)) (leads : StepLeads same hash i said s old new) (d : CallThere K V) (d_is : call_of (named i) (moment history) ≡ Some d) where
  abbrev m : Moment K V
  m = moment history

  abbrev then_known : Known
  then_known = known_after (acts.Call i map) new.changed known

  abbrev then_moment : Moment K V
  then_moment = with_effects (Some (named i)) (Some map) (effects_of (acts.Call i map) known new.changed) m

  -- who shows a pair is a walk,
  pub shows_as_walk : (o : CallOverAll) → u ≡ OverAll o → (word : ℕ) → said ≡ progress.Pair word → o.sweep.purpose ≡ Walks
  shows_as_walk o is word pair = pair_walks same hash s old new map i o (here ∙ ap Some is) said leads word pair

  -- and the pair is one of the run.
  pub pair_words : (word : ℕ) → said ≡ progress.Pair word → (q : ℕ) × NamesPair then_known word q
  pair_words word is =
      let o = no_pair u said (said_by same hash s old new map i u here said leads) word is in
      let called = walk_called o.0 d.call (subst (λ (x : UnderWay K V K). IsFor x d.call) o.1 (purposes.is_for map i u here d d_is)) (shows_as_walk o.0 o.1 word is) in
      (walks_have_words K V same hash named (past history) m known s old new at all.whole purposes map i u here said leads d d_is called).pairs word is

  abbrev then_scene : Scene K V
  then_scene = let to = leads map u here in scene_after same s old new map i to.0 u to.1 said to.4

  own_then : EachIsItsOwn same map then_moment
  own_then =
      let its_map = (leads map u here).4.its_map in
      each_is_its_own same hash named then_moment then_known then_scene new (leads map u here).5 (calls_keep_whole K V same hash named m known s old new at all.whole map i u here said leads) map
      (record (leads map u here).0 { chart = its_map.0; blocks = its_map.1; sights = its_map.2 }) its_map.4

  -- By a step of a walk no pair comes.
  walk_brings_none : (x : UnderWay K V K) → u ≡ x → IsFor {K = K} {V = V} x call.Walk → NoneCame (past history) then_moment map
  walk_brings_none (OverAll o) is for n v_in =
      let event = events_begin K V same hash named (past history) m (refl, refl) known s old at all.whole all.dues all.as_called map i u here d d_is in
      let midst : InEvent same named (past history) m map i d [] m known s (OverAll o) = subst (InEvent same named (past history) m map i d [] m known s) is event in
      let own = own_then n v_in in
      elim (fewer_so same hash named (past history) m map i d [] m known s (OverAll o) midst old new at said leads own.0.0) as (λ _. is_in_map map (m.place n) ≡ true) [
        | inl e ↦ found_there same map m own.0.0 n (sym e ∙ own.2)
        | inr e ↦ absurd (let found = own.2 in cc (e, found))
      ]
  walk_brings_none (OnKey x) is for n v_in = absurd for
  walk_brings_none (ForRoom r) is for n v_in = absurd for
  walk_brings_none (Counting sum) is for n v_in = absurd for

  pub walks_bring_none : d.call ≡ call.Walk → NoneCame (past history) then_moment map
  walks_bring_none called = walk_brings_none u refl (subst (IsFor u) called (purposes.is_for map i u here d d_is))
