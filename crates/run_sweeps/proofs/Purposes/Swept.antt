-- An event whose last step ends a call on a whole map, or shows a pair of a walk, does what the call is for.
use Rattle.std.specs.Prelude.{◌≡◌, ℕ, suc, ◌<◌, ◌≤◌, ◌&&◌, ◌||◌, Bool, true, false, not, List, [], ◌∷◌, length, Option, Some, None, ◌⊎◌}
use Rattle.std.specs.List.{AllByRecursion, list_all}
use Rattle.std.proofs.Common.{refl, ap, sym, subst, ◌∙◌, arith, inl, inr}
use Rattle.run_finds.specs.Given.TablesDeclared.node.Node.{Node}
use Rattle.run_finds.specs.Given.ReservesDeclared.sweep.Purpose.{Purpose}
use Rattle.run_finds.specs.Given.ReservesDeclared.sweep.Purpose.TheVariants.{Clears, Retains}
use Rattle.run_finds.specs.Given.ReservesDeclared.sweep.Sweeping.{Sweeping}
use Rattle.run_finds.specs.Given.ReservesDeclared.sweep.Sweeping.TheVariants as sweeping
use Rattle.run_finds.specs.Given.ReservesDeclared.sweep.Swept.{Swept}
use Rattle.run_finds.specs.Given.ReservesDeclared.sweep.Swept.TheVariants as swept
use Rattle.run_finds.specs.Given.RawProgress.{of_swept}
use Rattle.run_finds.specs.Given.RawDeclared.machines.progress.Answer.TheVariants as answers
use Rattle.run_finds.specs.Given.RawDeclared.machines.progress.Progress.{Progress}
use Rattle.run_finds.specs.Given.RawDeclared.machines.progress.Progress.TheVariants as progress
use Rattle.run_finds.specs.Given.RunsDeclared.call.Response.TheVariants.{Completed, Counted}
use Rattle.run_finds.specs.Given.RunsDeclared.call.Call.{Call}
use Rattle.run_finds.specs.Given.RunsDeclared.call.Call.TheVariants as call
use Rattle.run_finds.specs.Given.RunsDeclared.outcome.Outcome.{Outcome}
use Rattle.run_finds.specs.Given.RunsDeclared.outcome.Outcome.TheVariants.{Answered}
use Rattle.run_finds.specs.Given.SchedulesCounts.{Counts}
use Rattle.run_finds.specs.Given.SchedulesEntry.{IfCall, acting}
use Rattle.run_finds.specs.Given.SchedulesLists.{numbers_from}
use Rattle.run_finds.specs.Given.SchedulesMoment.{UnderWay as CallThere, Moment}
use Rattle.run_finds.specs.Given.SchedulesSweeps.{is_yes, stays, ClearsAll, RetainsOnly, Sweeps, SweepsRight}
use Rattle.run_finds.specs.Given.SchedulesTerms.{Terms, shards_of}
use Rattle.run_finds.specs.Given.SchedulesViews.{call_of, is_in_map, reply_to}
use Rattle.run_finds.specs.Given.RuleChart.{Chart}
use Rattle.run_finds.specs.Given.RuleWords.{Blocks}
use Rattle.run_finds.specs.Given.LateCovers.{times, IsKept, WasAlways, Came}
use Rattle.run_finds.specs.Given.LateCoversSweeps.{DoneAt}
use Rattle.run_finds.specs.Given.CallersOverAll.{CallOverAll}
use Rattle.run_finds.specs.Given.CallersTogether.{UnderWay, OnKey, ForRoom, Counting, OverAll}
use Rattle.run_finds.proofs.Given.CallersTogether.At.{at_same}
use Rattle.run_finds.specs.Given.EffectsEffects.{effects_of}
use Rattle.run_finds.specs.Given.EffectsKnown.{Known}
use Rattle.run_finds.specs.Given.EffectsDeclared.acting.Acting.TheVariants as acts
use Rattle.run_finds.specs.Given.FinishesMachines.{machine_of}
use Rattle.run_finds.specs.Given.FinishesMaps.{Standing, IsSameMap}
use Rattle.run_finds.proofs.Given.FollowsSteps.{WentTo}
use Rattle.run_finds.proofs.Given.FollowsStored.{in_map_true}
use Rattle.run_finds.proofs.Given.HandsReplacing.{calls_after}
use Rattle.run_finds.specs.Given.ChangesHistories.{since}
use Rattle.run_finds.specs.Given.MomentsWhole.{RefinesWhole}
use Rattle.run_sweeps.specs.Purposes.Kept.{PairsChangeFirst}
use Rattle.run_finds.specs.Purposes.Purposes.{IsFor, PairsWithin, ShowsDone, HasSwept, RefinesPurposes}
use Rattle.run_finds.specs.Purposes.Shards.{ReadsShards}
use Rattle.run_sweeps.specs.Purposes.Swept.{EndsWithOutcome, CountingsAreSwept, ClearingsAreSwept, RetainingsAreSwept}
use Rattle.run_sweeps.proofs.Purposes.Counts.{counts_end, mask_is}
use Rattle.run_sweeps.proofs.Purposes.Done.{tells_kept}
use Rattle.run_sweeps.proofs.Purposes.Lists.{all_among, all_pass, one_passes}
use Rattle.run_sweeps.proofs.Purposes.Shown.{IsStill}
use Rattle.run_sweeps.proofs.Purposes.Steps.{went, on, v2, known2, scene2, Did, same_call, before_then, its_before, had, own_within}
use Rattle.run_finds.specs.Given.ScenesHeld.{Held, IsAt}
use Rattle.run_finds.specs.Given.ScenesScene.{Scene}
use Rattle.run_finds.specs.Given.ScenesStepping.{StepLeads, StepsFrom}
use Rattle.run_finds.specs.Given.SchedulesTransition.{Past, Transition, call_left, worked_by}
use Rattle.run_finds.proofs.Given.General.{both_true as both, same_some as one_of}

-- what is so of the call is so of the event
module _ {K V : Type 0} (same : K → K → Bool) (terms : Terms) (log : Past K V) (t : Transition K V) (own : List ℕ) (v : Moment K V) (d : CallThere K V) (caller : t.caller ≡ Some own)
    (worked_is : worked_by t ≡ v) (d_is : call_of own v ≡ Some d) where
  acting_is : call_left t ≡ Some d
  acting_is = ap (λ (o : Option (List ℕ)). acting o (worked_by t)) caller ∙ ap (call_of own) worked_is ∙ d_is

  pub swept_by : (its : Call K V) → d.call ≡ its → (o : Outcome V) → t.outcome ≡ o → Sweeps same terms its d (log.since d.begun) v o → SweepsRight same terms log t
  swept_by its call_is o o_is sweeps =
      subst (λ (x : Option (CallThere K V)). IfCall (λ c. Sweeps same terms c.call c (log.since c.begun) (worked_by t) t.outcome) x) (sym acting_is)
      (subst (λ (x : Moment K V). Sweeps same terms d.call d (log.since d.begun) x t.outcome) (sym worked_is)
      (subst (λ (x : Outcome V). Sweeps same terms d.call d (log.since d.begun) v x) (sym o_is)
      (subst (λ (x : Call K V). Sweeps same terms x d (log.since d.begun) v o) (sym call_is) sweeps)))

-- what a step says where the event comes to that
module _ {K V : Type 0} (known : Known) where
  pub counted_said : (n : ℕ) (said : Progress (Node K V)) → EndsWithOutcome known said (Answered (Counted n)) → said ≡ progress.Done (answers.Count n)
  counted_said n (progress.Done (answers.Count count)) is = ap (λ (x : ℕ). progress.Done (answers.Count x)) (sym is)
  counted_said n _ is = absurd is

  -- it has made room, or has swept
  pub completed_said : (said : Progress (Node K V)) → EndsWithOutcome known said (Answered Completed) → (said ≡ progress.Done answers.Reserved) ⊎ (said ≡ progress.Done answers.Swept)
  completed_said (progress.Done answers.Reserved) is = inl refl
  completed_said (progress.Done answers.Swept) is = inr refl
  completed_said _ is = absurd is

-- a sweep makes no room
none_reserved : {T : Type 0} (end : Swept T) → of_swept end ≡ progress.Done answers.Reserved → ⊥
none_reserved swept.Goes e = cc e
none_reserved swept.Waits e = cc e
none_reserved (swept.Gave value) e = cc e
none_reserved swept.Ready e = cc e
none_reserved (swept.Pair word) e = cc e
none_reserved (swept.Asks word) e = cc e
none_reserved swept.Done e = cc e
none_reserved (swept.Refused fault) e = cc e

pub done_swept : {T : Type 0} (end : Swept T) → of_swept end ≡ progress.Done answers.Swept → end ≡ swept.Done
done_swept swept.Goes e = absurd (cc e)
done_swept swept.Waits e = absurd (cc e)
done_swept (swept.Gave value) e = absurd (cc e)
done_swept swept.Ready e = absurd (cc e)
done_swept (swept.Pair word) e = absurd (cc e)
done_swept (swept.Asks word) e = absurd (cc e)
done_swept swept.Done e = refl
done_swept (swept.Refused fault) e = absurd (cc e)

-- at its end, what was done is kept, or nothing was done yet
pub ends_done : {K : Type 0} (T : Type 0) (hash : K → ℕ) (c : Chart K) (blocks : Blocks) (done done2 : List ℕ) (entered entered2 : ℕ) (stands : Sweeping)
    → DoneAt hash c blocks done done2 {T = T} entered entered2 swept.Done stands → (done2 ≡ []) ⊎ (done2 ≡ done)
ends_done T hash c blocks done done2 entered entered2 sweeping.Reads is = inl is
ends_done T hash c blocks done done2 entered entered2 sweeping.Follows is = inl is
ends_done T hash c blocks done done2 entered entered2 (sweeping.Copies copier) is = inl is
ends_done T hash c blocks done done2 entered entered2 _ is = inr is.1

-- a map of which fewer blocks may be looked at has the tables that it had
pub same_map : {K : Type 0} (o o2 : Option (Standing K)) (st : Standing K) → o ≡ Some st → IsSameMap o o2 → (after : Standing K) × (o2 ≡ Some after) × (after.chart ≡ st.chart)
same_map None o2 st is same = absurd (cc is)
same_map (Some before) o2 st is (blocks, sights, here, part) = (record before { blocks = blocks; sights = sights }, here, ap (λ (x : Standing _). x.chart) (one_of before st is))

module _ {K V : Type 0} (same : K → K → Bool) (hash : ℕ → K → ℕ) (name : ℕ → List ℕ) (log : Past K V) (m : Moment K V) (known : Known) (s : Scene K V) (old new : Held K V)
    (at : IsAt same hash old s) (whole : RefinesWhole same name m known s) (purposes : RefinesPurposes same name log m known s) (of i : ℕ) (u : UnderWay K V K) (here : s.calls of i ≡ Some u)
    (said : Progress (Node K V)) (leads : StepLeads same hash i said s old new) (c : CallThere K V) (c_is : call_of (name i) m ≡ Some c) where
  abbrev pub v : Moment K V
  v = v2 same hash name log m known s old new at whole purposes of i u here said leads

  -- the call after the effects of the step
  abbrev pub then_call : CallThere K V
  then_call = (calls_after (name i) of (name i) (effects_of (acts.Call i of) known new.changed) m c c_is).0

  pub then_is : call_of (name i) v ≡ Some then_call
  then_is = (calls_after (name i) of (name i) (effects_of (acts.Call i of) known new.changed) m c c_is).1

  pub still : IsStill c then_call
  still = same_call same hash name log m known s old new at whole purposes of i u here said leads i c then_call c_is then_is

  pub on_map : then_call.map ≡ of
  on_map = let it = purposes.shown.calls of i u here in still.map ∙ ap (λ (z : CallThere K V). z.map) (sym (one_of it.0 c (sym it.1 ∙ c_is))) ∙ it.2

  -- a counting that has counted
  module _ (terms : Terms) (mask : (standing : Standing K) → s.maps of ≡ Some standing → suc standing.setting.mask ≡ shards_of terms) (n : ℕ) (done : said ≡ progress.Done (answers.Count n)) where
    pub counts : (y : UnderWay K V K) → s.calls of i ≡ Some y → IsFor y call.Len → ReadsShards log m s of y
        → StepsFrom same (went same hash name log m known s old new at whole purposes of i u here said leads).0.hash (machine_of y) old new (went same hash name log m known s old new at whole purposes of i u here said leads).1 said
        → Counts (shards_of terms) then_call.map (log.since then_call.begun) n
    counts (OnKey z) y_is is reads steps = absurd is
    counts (ForRoom r) y_is is reads steps = absurd is
    counts (Counting sum) y_is is reads steps =
        let to = went same hash name log m known s old new at whole purposes of i u here said leads in
        let begun = purposes.begun of i (Counting sum) y_is c c_is in
        let had_added = purposes.come of i (Counting sum) y_is to.0 to.2 c c_is in
        let counted = counts_end same hash log purposes.past m s old new at of i sum y_is to.0 to.2 c begun (reads tt).0 (reads tt).1 had_added to.1 said steps n done in
        let masks = mask_is same hash log purposes.past m s old new at of i sum y_is to.0 to.2 c begun (reads tt).0 (reads tt).1 had_added to.1 said steps in
        subst (λ (x : ℕ). Counts x then_call.map (log.since then_call.begun) n) (ap suc masks ∙ mask to.0 to.2)
        (subst (λ (x : ℕ). Counts (suc sum.setting.mask) x (log.since then_call.begun) n) (sym on_map)
        (subst (λ (x : ℕ). Counts (suc sum.setting.mask) of (log.since x) n) (sym still.begun) counted))
    counts (OverAll o) y_is is reads steps = absurd is

  -- what a sweep that has ended has come to, in its map as it is then
  pub record HasEnded (o : CallOverAll) : Type 0 where
    pub st : Standing K
    pub there : (scene2 same hash name log m known s old new at whole purposes of i u here said leads).maps of ≡ Some st
    pub entered : ℕ
    pub from : o.began ≤ entered
    pub done : List ℕ
    pub came : Came st.chart entered o.sweep.purpose done
    pub kept : (done ≡ []) ⊎ (done ≡ o.done)

  module _ (changes : PairsChangeFirst log m of v) (o : CallOverAll) (o_is : s.calls of i ≡ Some (OverAll o)) where
    module _ (ended : HasEnded o) where
      abbrev number2 : ℕ → ℕ
      number2 = (on same hash name log m known s old new at whole purposes of i u here said leads).shows.number of

      within : PairsWithin of ended.st number2 (since log v then_call) o.began
      within = own_within same hash name log m known s old new at whole purposes of i u here said leads changes o o_is ended.st ended.there c then_call c_is then_is

      -- a pair that was in the map at all moments was so in its history
      pub always : (n : ℕ) → stays of (log.since then_call.begun) v n ≡ true → (p : ℕ) × (p < ended.st.chart.stored) × (n ≡ number2 p) × WasAlways ended.st.chart ended.entered p
      always n stayed =
          let two = both (list_all (λ (x : Moment K V). is_in_map of (x.place n)) (log.since then_call.begun)) (is_in_map of (v.place n)) stayed in
          let it = ((on same hash name log m known s old new at whole purposes of i u here said leads).shows.maps of ended.st ended.there).pairs.all n (in_map_true of (v.place n) two.1) in
          (it.0, it.1, it.2, λ time from to. was it.0 it.1 it.2 two.0 two.1 time from to)
        where
          was : (p : ℕ) → p < ended.st.chart.stored → n ≡ number2 p → list_all (λ (x : Moment K V). is_in_map of (x.place n)) (log.since then_call.begun) ≡ true → is_in_map of (v.place n) ≡ true
              → (time : ℕ) → ended.entered ≤ time → time ≤ ended.st.chart.now → ended.st.chart.was time p ≡ true
          was p l n_is all now time from to =
              let began : o.began ≤ time = (let f = ended.from in omega (arith, from, f)) in
              let x = one_passes (λ (x : Moment K V). is_in_map of (x.place n)) (λ (x : Moment K V). is_in_map of (x.place (number2 p)) ≡ ended.st.chart.was time p) (v ∷ log.since then_call.begun)
              (ap (λ q. q && list_all (λ (x : Moment K V). is_in_map of (x.place n)) (log.since then_call.begun)) now ∙ all) (within.within time p began to l) in
              sym x.1 ∙ ap (λ (q : ℕ). is_in_map of (x.0.place q)) (sym n_is) ∙ x.2

      -- so a clearing leaves none of these,
      pub clears : o.sweep.purpose ≡ Clears → ClearsAll then_call (log.since then_call.begun) v
      clears purpose = all_pass (λ n. not (stays then_call.map (log.since then_call.begun) v n)) none (numbers_from 1 (length v.stored))
        where
          gone : (n : ℕ) → stays of (log.since then_call.begun) v n ≡ true → ⊥
          gone n stayed = let it = always n stayed in subst (λ (x : Purpose). IsKept x it.0 ended.done) purpose (ended.came.all it.0 it.3)

          none : (n : ℕ) → not (stays then_call.map (log.since then_call.begun) v n) ≡ true
          none n = ap (λ (x : ℕ). not (stays x (log.since then_call.begun) v n)) on_map ∙ by (stays of (log.since then_call.begun) v n) (gone n)
            where
              by : (q : Bool) → (q ≡ true → ⊥) → not q ≡ true
              by false never = refl
              by true never = absurd (never refl)

      -- and a retaining those about which the last reply was yes
      pub retains : o.sweep.purpose ≡ Retains → then_call.call ≡ call.Retain → RetainsOnly then_call (log.since then_call.begun) v
      retains purpose call_is =
          all_pass (λ n. not (stays then_call.map (log.since then_call.begun) v n) || is_yes (reply_to (Some n) then_call.replies)) each (numbers_from 1 (length v.stored))
        where
          before : HasSwept same of (its_before same hash name log m known s old new at whole purposes of i u here said leads changes o o_is ended.st ended.there c then_call c_is then_is)
              (purposes.shown.number of) (since log m c) o c
          before = had same hash name log m known s old new at whole purposes of i u here said leads changes o o_is ended.st ended.there c then_call c_is then_is

          said_yes : AllByRecursion (λ p. is_yes (reply_to (Some (number2 p)) then_call.replies) ≡ true) o.done
          said_yes =
              let b = before_then same hash name log m known s old new at whole purposes of i u here said leads of ended.st ended.there in
              subst (λ (x : Call K V). ShowsDone x number2 o.done then_call) call_is
              (tells_kept (purposes.shown.number of) number2 b.0.chart.stored ((on same hash name log m known s old new at whole purposes of i u here said leads).numbers of b.0 b.1) c then_call still o.done
              before.stored before.tells)

          kept : (n : ℕ) → stays of (log.since then_call.begun) v n ≡ true → is_yes (reply_to (Some n) then_call.replies) ≡ true
          kept n stayed =
              let it = always n stayed in
              ap (λ (q : ℕ). is_yes (reply_to (Some q) then_call.replies)) it.2
              ∙ by it.0 ended.kept (subst (λ (x : Purpose). IsKept x it.0 ended.done) purpose (ended.came.all it.0 it.3))
            where
              by : (p : ℕ) → (ended.done ≡ []) ⊎ (ended.done ≡ o.done) → 0 < times p ended.done → is_yes (reply_to (Some (number2 p)) then_call.replies) ≡ true
              by p (inl empty) l = absurd (let none = subst (λ (x : List ℕ). 0 < times p x) empty l in omega (arith, none))
              by p (inr same_done) l = all_among (λ p. is_yes (reply_to (Some (number2 p)) then_call.replies) ≡ true) p o.done said_yes (subst (λ (x : List ℕ). 0 < times p x) same_done l)

          each : (n : ℕ) → (not (stays then_call.map (log.since then_call.begun) v n) || is_yes (reply_to (Some n) then_call.replies)) ≡ true
          each n =
              ap (λ (x : ℕ). not (stays x (log.since then_call.begun) v n) || is_yes (reply_to (Some n) then_call.replies)) on_map
              ∙ by (stays of (log.since then_call.begun) v n) (kept n)
            where
              by : (q : Bool) → (q ≡ true → is_yes (reply_to (Some n) then_call.replies) ≡ true) → (not q || is_yes (reply_to (Some n) then_call.replies)) ≡ true
              by false told = refl
              by true told = told refl

  -- where it has ended
  module _ (completed : (said ≡ progress.Done answers.Reserved) ⊎ (said ≡ progress.Done answers.Swept)) (o : CallOverAll) (o_is : s.calls of i ≡ Some (OverAll o)) where
    abbrev to : WentTo same hash name m known s old new at purposes.shown of i u here said leads
    to = went same hash name log m known s old new at whole purposes of i u here said leads

    entered_from : o.began ≤ o.entered
    entered_from = elim ((at.together.makings.standing.each of to.0 to.2).stand i (OverAll o) o_is) as (λ _. o.began ≤ o.entered) [
      | inl k ↦ k.1.from
      | inr k ↦ k.2.from
    ]

    ended_swept : (end : Swept (Node K V)) → said ≡ of_swept end → end ≡ swept.Done
    ended_swept end told_is = elim completed as (λ _. end ≡ swept.Done) [
      | inl done ↦ absurd (none_reserved end (sym told_is ∙ done))
      | inr done ↦ done_swept end (sym told_is ∙ done)
    ]

    pub ended : Did same hash name log m known s old new at whole purposes of i u here said leads (OverAll o) → HasEnded o
    ended (p2, end, machine_is, told_is, inl (step, moved)) = record {
      st = its;
      there = ap (λ (f : ℕ → Option (Standing K)). f of) moved.1 ∙ at_same s.maps of (Some its) of refl;
      entered = step.step.entered2;
      from = step.step.from;
      done = step.step.done2;
      came = step.step.comes is;
      kept = ends_done (Node K V) to.0.hash step.step.went.c2 step.step.went.blocks2 o.done step.step.done2 o.entered step.step.entered2 o.sweep.stands
          (subst (λ (x : Swept (Node K V)). DoneAt to.0.hash step.step.went.c2 step.step.went.blocks2 o.done step.step.done2 o.entered step.step.entered2 x o.sweep.stands) is step.step.done);
    }
      where
        is : end ≡ swept.Done
        is = ended_swept end told_is

        its : Standing K
        its = record to.0 { chart = step.step.went.c2; blocks = step.step.blocks2; sights = step.step.sights2 }
    ended (p2, end, machine_is, told_is, inr (row, stayed)) = record {
      st = after.0;
      there = after.1;
      entered = o.entered;
      from = entered_from;
      done = o.done;
      came = subst (λ (x : Chart K). Came x o.entered o.sweep.purpose o.done) (sym after.2) (row.step.comes (ended_swept end told_is));
      kept = inr refl;
    }
      where
        after : (st : Standing K) × (to.4.maps2 of ≡ Some st) × (st.chart ≡ to.0.chart)
        after = same_map (s.maps of) (to.4.maps2 of) to.0 to.2 (stayed.1 of)

  -- so it is with a clearing, and a retaining
  module _ (changes : PairsChangeFirst log m of v) (done : (said ≡ progress.Done answers.Reserved) ⊎ (said ≡ progress.Done answers.Swept)) where
    pub clearing : (y : UnderWay K V K) → s.calls of i ≡ Some y → IsFor y call.Clear → Did same hash name log m known s old new at whole purposes of i u here said leads y
        → ClearsAll then_call (log.since then_call.begun) v
    clearing (OnKey z) y_is is did = absurd is
    clearing (ForRoom r) y_is is did = absurd is
    clearing (Counting sum) y_is is did = absurd is
    clearing (OverAll o) y_is is did = clears changes o y_is (ended done o y_is did) is

    pub retaining : then_call.call ≡ call.Retain → (y : UnderWay K V K) → s.calls of i ≡ Some y → IsFor y call.Retain
        → Did same hash name log m known s old new at whole purposes of i u here said leads y → RetainsOnly then_call (log.since then_call.begun) v
    retaining call_is (OnKey z) y_is is did = absurd is
    retaining call_is (ForRoom r) y_is is did = absurd is
    retaining call_is (Counting sum) y_is is did = absurd is
    retaining call_is (OverAll o) y_is is did = retains changes o y_is (ended done o y_is did) is call_is

module _ (K V : Type 0) (same : K → K → Bool) (hash : ℕ → K → ℕ) where
  pub countings_are_swept : CountingsAreSwept K V same hash
  countings_are_swept n name log m known s old new at whole purposes of i u here said leads c c_is is_len reads comes terms mask t caller worked_is outcome =
      let told = counted_said (known2 same hash name log m known s old new at whole purposes of i u here said leads) n said comes in
      let is = still same hash name log m known s old new at whole purposes of i u here said leads c c_is in
      swept_by same terms log t (name i) (v same hash name log m known s old new at whole purposes of i u here said leads c c_is)
      (then_call same hash name log m known s old new at whole purposes of i u here said leads c c_is) caller worked_is
      (then_is same hash name log m known s old new at whole purposes of i u here said leads c c_is) call.Len (is.call ∙ is_len) (Answered (Counted n)) outcome
      (counts same hash name log m known s old new at whole purposes of i u here said leads c c_is terms mask n told u here
      (subst (λ (x : Call K V). IsFor u x) is_len (purposes.is_for of i u here c c_is)) reads (went same hash name log m known s old new at whole purposes of i u here said leads).3)

  pub clearings_are_swept : ClearingsAreSwept K V same hash
  clearings_are_swept name log m known s old new at whole purposes of i u here said leads c c_is is_clear changes comes terms mask t caller worked_is outcome =
      let told = completed_said (known2 same hash name log m known s old new at whole purposes of i u here said leads) said comes in
      let is = still same hash name log m known s old new at whole purposes of i u here said leads c c_is in
      swept_by same terms log t (name i) (v same hash name log m known s old new at whole purposes of i u here said leads c c_is)
      (then_call same hash name log m known s old new at whole purposes of i u here said leads c c_is) caller worked_is
      (then_is same hash name log m known s old new at whole purposes of i u here said leads c c_is) call.Clear (is.call ∙ is_clear) (Answered Completed) outcome
      (clearing same hash name log m known s old new at whole purposes of i u here said leads c c_is changes told u here
      (subst (λ (x : Call K V). IsFor u x) is_clear (purposes.is_for of i u here c c_is)) (went same hash name log m known s old new at whole purposes of i u here said leads).4.did)

  pub retainings_are_swept : RetainingsAreSwept K V same hash
  retainings_are_swept name log m known s old new at whole purposes of i u here said leads c c_is is_retain changes comes terms mask t caller worked_is outcome =
      let told = completed_said (known2 same hash name log m known s old new at whole purposes of i u here said leads) said comes in
      let is = still same hash name log m known s old new at whole purposes of i u here said leads c c_is in
      swept_by same terms log t (name i) (v same hash name log m known s old new at whole purposes of i u here said leads c c_is)
      (then_call same hash name log m known s old new at whole purposes of i u here said leads c c_is) caller worked_is
      (then_is same hash name log m known s old new at whole purposes of i u here said leads c c_is) call.Retain (is.call ∙ is_retain) (Answered Completed) outcome
      (retaining same hash name log m known s old new at whole purposes of i u here said leads c c_is changes told (is.call ∙ is_retain) u here
      (subst (λ (x : Call K V). IsFor u x) is_retain (purposes.is_for of i u here c c_is)) (went same hash name log m known s old new at whole purposes of i u here said leads).4.did)
