-- A walk that answers that there is no pair has shown one pair of each key that had one all the time.
use Rattle.std.specs.Prelude.{◌≡◌, ℕ, ◌+◌, ◌<◌, ◌≤◌, Bool, true, false, cond, List, [], ◌∷◌, length, map, Option, Some, None, is_some, if◌then◌else◌}
use Rattle.std.specs.List.{AllByRecursion}
use Rattle.std.proofs.Common.{refl, ap, sym, subst, ◌∙◌, inl, inr}
use Rattle.run_finds.specs.Given.TablesChunks.{is_incremental}
use Rattle.run_finds.specs.Given.TablesDeclared.node.Node.{Node}
use Rattle.run_finds.specs.Given.ReservesDeclared.sweep.Purpose.TheVariants.{Walks}
use Rattle.run_finds.specs.Given.ReservesDeclared.sweep.Sweep.{Sweep}
use Rattle.run_finds.specs.Given.ReservesDeclared.sweep.Sweeping.TheVariants as sweeping
use Rattle.run_finds.specs.Given.ReservesDeclared.sweep.Swept.{Swept}
use Rattle.run_finds.specs.Given.ReservesDeclared.sweep.Swept.TheVariants as swept
use Rattle.run_finds.specs.Given.RawProgress.{of_swept}
use Rattle.run_finds.specs.Given.RawDeclared.machines.progress.Answer.TheVariants as answers
use Rattle.run_finds.specs.Given.RawDeclared.machines.progress.Progress.{Progress}
use Rattle.run_finds.specs.Given.RawDeclared.machines.progress.Progress.TheVariants as progress
use Rattle.run_finds.specs.Given.RunsLog.{pair_at, is_key}
use Rattle.run_finds.specs.Given.RunsDeclared.call.Response.TheVariants.{Absent}
use Rattle.run_finds.specs.Given.RunsDeclared.call.Call.{Call}
use Rattle.run_finds.specs.Given.RunsDeclared.call.Call.TheVariants as call
use Rattle.run_finds.specs.Given.RunsDeclared.outcome.Outcome.TheVariants.{Answered}
use Rattle.run_finds.specs.Given.SchedulesLists.{OneOf}
use Rattle.run_finds.specs.Given.SchedulesMoment.{UnderWay as CallThere, Moment}
use Rattle.run_finds.specs.Given.SchedulesSweeps.{with_key, HasBeen, ShowsAll}
use Rattle.run_finds.specs.Given.SchedulesViews.{call_of, is_in_map, finite_map}
use Rattle.run_finds.specs.Given.RuleChart.{Chart}
use Rattle.run_finds.specs.Given.RuleMaps.{spot_of}
use Rattle.run_finds.specs.Given.RuleRule.{is_of}
use Rattle.run_finds.specs.Given.LateCovers.{times, WasSince}
use Rattle.run_finds.specs.Given.LateToldSweeps.{OutcomeAgrees}
use Rattle.run_finds.specs.Given.CallersOverAll.{CallOverAll}
use Rattle.run_finds.specs.Given.CallersTogether.{UnderWay, OnKey, ForRoom, Counting, OverAll}
use Rattle.run_finds.specs.Given.EffectsEffects.{effects_of}
use Rattle.run_finds.specs.Given.EffectsKnown.{Known}
use Rattle.run_finds.specs.Given.EffectsDeclared.acting.Acting.TheVariants as acts
use Rattle.run_finds.specs.Given.FinishesMachines.{machine_of}
use Rattle.run_finds.specs.Given.FinishesMaps.{Standing}
use Rattle.run_finds.proofs.Given.FollowsContents.{Lasts}
use Rattle.run_finds.specs.Given.ChangesHad.{Had, HadJust, HadThen}
use Rattle.run_finds.specs.Given.ChangesHistories.{since}
use Rattle.run_finds.proofs.Given.ChangesFound.{FoundIn, found}
use Rattle.run_finds.proofs.Given.ChangesLogs.{now_there}
use Rattle.run_finds.specs.Given.MomentsWhole.{RefinesWhole}
use Rattle.run_finds.specs.Purposes.Keys.{HasClass, HadAlways, of_class, KeysCame, KeysAt}
use Rattle.run_finds.specs.Purposes.Purposes.{IsFor, ShowsDone, HasSwept, RefinesPurposes}
use Rattle.run_sweeps.specs.Purposes.Swept.{LosesNone, WalksShowAll}
use Rattle.run_sweeps.proofs.Purposes.KeysCarried.{row_over, done_was}
use Rattle.run_sweeps.proofs.Purposes.KeysMoved.{are, each, took, said_is, sweep_is, none_shown}
use Rattle.run_sweeps.proofs.Purposes.Lists.{all_among, each_among, one_with}
use Rattle.run_sweeps.proofs.Purposes.Steps.{went, v2, Did}
use Rattle.run_sweeps.proofs.Purposes.Stored.{effects_stored}
use Rattle.run_sweeps.proofs.Purposes.Swept.{then_call, then_is, still, on_map, swept_by, done_swept}
use Rattle.run_finds.specs.Given.ScenesHeld.{Held, IsAt}
use Rattle.run_finds.specs.Given.ScenesScene.{Scene, slot_of}
use Rattle.run_finds.specs.Given.ScenesStepping.{StepLeads, StepsFrom}
use Rattle.run_finds.specs.Given.SchedulesTransition.{Past}
use Rattle.run_finds.proofs.Given.General.{both_true}

-- the pair of a number has such a key
key_some : {K V : Type 0} (same : K → K → Bool) (k : K) (o : Option (K × V)) → is_key same o k ≡ true → (p : K × V) × (o ≡ Some p) × (same p.0 k ≡ true)
key_some same k None e = absurd (cc e)
key_some same k (Some p) e = (p, refl, e)

-- as many by the numbers as by the pairs
one_alike : (a b : Bool) → a ≡ b → ◌≡◌ {A = ℕ} (if a then 1 else 0) (cond b 1 0)
one_alike true true e = refl
one_alike false false e = refl
one_alike true false e = absurd (cc e)
one_alike false true e = absurd (cc e)

module _ {K V : Type 0} (same : K → K → Bool) (spot : ℕ → K → ℕ → ℕ) (incremental : Bool) (c : Chart K) (stored : List (K × V)) (number : ℕ → ℕ) (k : K) where
  abbrev Alike : ℕ → Type 0
  Alike n = is_key same (pair_at stored (number n)) k ≡ is_of same spot incremental k (c.key n)

  counts_alike : (done : List ℕ) → AllByRecursion Alike done → with_key same k stored (map number done) ≡ of_class same spot incremental c k done
  counts_alike [] all = refl
  counts_alike (n ∷ done) all =
      let one = one_alike (is_key same (pair_at stored (number n)) k) (is_of same spot incremental k (c.key n)) all.0 in
      let rest = counts_alike done all.1 in
      ap (λ (x : ℕ). x + with_key same k stored (map number done)) one ∙ ap (λ (x : ℕ). cond (is_of same spot incremental k (c.key n)) 1 0 + x) rest

module _ {K : Type 0} (same : K → K → Bool) (st : Standing K) (number : ℕ → ℕ) (time : ℕ) (k : K) where
  -- a class that the finite map has, the map had
  class_then : (o : Option ℕ) → HadThen same st number time k o → is_some o ≡ true → HasClass same (spot_of st.hash) (is_incremental st.setting.mode) st.chart time k
  class_then None had some = absurd (cc some)
  class_then (Some q) had some = by had.just
    where
      by : HadJust same st number time k (Some q) → HasClass same (spot_of st.hash) (is_incremental st.setting.mode) st.chart time k
      by (n, (l, was, key, key_is, of_it), number_is, only) = (n, was, ap (is_of same (spot_of st.hash) (is_incremental st.setting.mode) k) key_is ∙ of_it)

module _ {K V : Type 0} (same : K → K → Bool) (of : ℕ) (st : Standing K) (number : ℕ → ℕ) (time : ℕ) (k : K) where
  -- and a pair that the map had is stored with such a key
  stored_then : (p : ℕ) → Had same st number time k p → (x : Moment K V) → HadThen same st number time k (finite_map same of x k)
      → (pair : K × V) × (pair_at x.stored (number p) ≡ Some pair) × (same pair.0 k ≡ true)
  stored_then p had x then_had = by (finite_map same of x k) (found same of k x (length x.stored)) then_had.just
    where
      by : (o : Option ℕ) → FoundIn same of k x (length x.stored) o → HadJust same st number time k o → (pair : K × V) × (pair_at x.stored (number p) ≡ Some pair) × (same pair.0 k ≡ true)
      by None none just = absurd (just p had)
      by (Some q) its just =
          let number_is : number p ≡ q = ap number (just.3 p had) ∙ just.2 in
          let key = key_some same k (pair_at x.stored q) (both_true (is_in_map of (x.place q)) (is_key same (pair_at x.stored q) k) its.2).1 in
          (key.0, ap (pair_at x.stored) number_is ∙ key.1, key.2)

module _ {K V : Type 0} (same : K → K → Bool) (hash : ℕ → K → ℕ) (name : ℕ → List ℕ) (log : Past K V) (m : Moment K V) (known : Known) (s : Scene K V) (old new : Held K V)
    (at : IsAt same hash old s) (whole : RefinesWhole same name m known s) (purposes : RefinesPurposes same name log m known s) (of i : ℕ) (u : UnderWay K V K) (here : s.calls of i ≡ Some u)
    (leads : StepLeads same hash i (progress.Done answers.Swept) s old new) (c : CallThere K V) (c_is : call_of (name i) m ≡ Some c) (is_walk : c.call ≡ call.Walk)
    (loses : LosesNone same log m of) where
  abbrev said : Progress (Node K V)
  said = progress.Done answers.Swept

  abbrev v : Moment K V
  v = v2 same hash name log m known s old new at whole purposes of i u here said leads

  abbrev st : Standing K
  st = (went same hash name log m known s old new at whole purposes of i u here said leads).0

  abbrev number : ℕ → ℕ
  number = purposes.shown.number of

  abbrev moments : List (Moment K V)
  moments = log.since c.begun

  module _ (o : CallOverAll) (o_is : s.calls of i ≡ Some (OverAll o)) (walks : o.sweep.purpose ≡ Walks)
      (steps : StepsFrom same (went same hash name log m known s old new at whole purposes of i u here said leads).0.hash (machine_of (OverAll o)) old new (went same hash name log m known s old new at whole purposes of i u here said leads).1 said)
      (did : Did same hash name log m known s old new at whole purposes of i u here said leads (OverAll o)) where
    its : HasSwept same of st number (since log m c) o c
    its = purposes.come of i (OverAll o) o_is st (went same hash name log m known s old new at whole purposes of i u here said leads).2 c c_is

    begun : c.begun ≤ log.entries
    begun = purposes.begun of i (OverAll o) o_is c c_is

    abbrev Of : K → ℕ → Bool
    Of k n = is_of same (spot_of st.hash) (is_incremental st.setting.mode) k (st.chart.key n)

    -- it is over
    ended : (end : Swept (Node K V)) → of_swept end ≡ said → end ≡ swept.Done
    ended end is = done_swept end is

    took_done : (took same hash name m known s old new at whole purposes.shown of i u here said leads o o_is walks steps (its.keys walks) (its.none walks)).0.1 ≡ swept.Done
    took_done = ended _ (said_is same hash name m known s old new at whole purposes.shown of i u here said leads o o_is walks steps (its.keys walks) (its.none walks))

    over : Did same hash name log m known s old new at whole purposes of i u here said leads (OverAll o)
        → (p2 : Sweep) × (KeysAt same (spot_of st.hash) (is_incremental st.setting.mode) st.chart o.began p2 o.done p2.stands) × (p2.stands ≡ sweeping.Over)
    over (p2, end, machine_is, told_is, inl (step, moved)) = (
      p2,
      (none_shown same hash name m known s old new at whole purposes.shown of i u here said leads o o_is walks steps (its.keys walks) (its.none walks) tt p2 machine_is).0,
      subst (OutcomeAgrees o.sweep.stands p2.stands) (ended end (sym told_is)) step.step.went.told.stands.tells,
    )
    over (p2, end, machine_is, told_is, inr (row, stayed)) =
        let t = took same hash name m known s old new at whole purposes.shown of i u here said leads o o_is walks steps (its.keys walks) (its.none walks) in (
          p2,
          (none_shown same hash name m known s old new at whole purposes.shown of i u here said leads o o_is walks steps (its.keys walks) (its.none walks) tt p2 machine_is).0,
          ap (λ (x : Sweep). x.stands) (sym (sweep_is same hash name m known s old new at whole purposes.shown of i u here said leads o o_is walks steps (its.keys walks) (its.none walks) p2 machine_is))
              ∙ row_over same st.hash (are same hash name m known s old new at whole purposes.shown of i u here said leads o o_is walks steps (its.keys walks) (its.none walks)) st.setting
              (at.together.makings.standing.fit of st (went same hash name log m known s old new at whole purposes of i u here said leads).2).1 slot_of s.world st.chart st.blocks st.sights (s.calls of)
              (each same hash name m known s old new at whole purposes.shown of i u here said leads o o_is walks steps (its.keys walks) (its.none walks)) i o o_is walks (its.keys walks).0 (its.none walks)
              new.memory t.0 t.1 row.is_row took_done,
        )

    came : KeysCame same (spot_of st.hash) (is_incremental st.setting.mode) st.chart o.began o.done
    came = let at_end = over did in subst (KeysAt same (spot_of st.hash) (is_incremental st.setting.mode) st.chart o.began at_end.0 o.done) at_end.2 at_end.1

    -- a key that had a pair at each moment, the map had all the time
    had_always : (k : K) → HasBeen same k of moments → HadAlways same (spot_of st.hash) (is_incremental st.setting.mode) st.chart o.began k
    had_always k been time from to = by (its.classes time from to k)
      where
        last : is_some (finite_map same of log.now k) ≡ true
        last =
            let x = one_with (λ (x : Moment K V). x ≡ log.now) (λ (x : Moment K V). is_some (finite_map same of x k) ≡ true) moments been (now_there log purposes.past (λ (x : Moment K V). x ≡ log.now) c.begun begun refl) in
            ap (λ (y : Moment K V). is_some (finite_map same of y k)) (sym x.1) ∙ x.2

        by : OneOf (λ (x : Moment K V). HadThen same st number time k (finite_map same of x k)) (m ∷ moments) → HasClass same (spot_of st.hash) (is_incremental st.setting.mode) st.chart time k
        by (inl now) = class_then same st number time k (finite_map same of m k) now (loses k last)
        by (inr before) =
            let x = one_with (λ (x : Moment K V). HadThen same st number time k (finite_map same of x k)) (λ (x : Moment K V). is_some (finite_map same of x k) ≡ true) moments been before in
            class_then same st number time k (finite_map same of x.0 k) x.1 x.2

    -- what it has done was in the map since it began
    was_there : (p : ℕ) → 0 < times p o.done → WasSince st.chart o.began p
    was_there p l =
        let t = took same hash name m known s old new at whole purposes.shown of i u here said leads o o_is walks steps (its.keys walks) (its.none walks) in
        done_was same st.hash (are same hash name m known s old new at whole purposes.shown of i u here said leads o o_is walks steps (its.keys walks) (its.none walks)) st.setting
        (at.together.makings.standing.fit of st (went same hash name log m known s old new at whole purposes of i u here said leads).2).1 slot_of s.world st.chart st.blocks st.sights (s.calls of)
        (each same hash name m known s old new at whole purposes.shown of i u here said leads o o_is walks steps (its.keys walks) (its.none walks)) i o o_is walks (its.keys walks).0 (its.none walks)
        new.memory t.0 t.1 took_done p l

    -- and is stored with its key
    stored_as : (p : ℕ) → 0 < times p o.done → (k : K) → st.chart.key p ≡ Some k → (pair : K × V) × (pair_at v.stored (number p) ≡ Some pair) × (same pair.0 k ≡ true)
    stored_as p l k key_is = by (its.classes was.0 was.1 was.2 k)
      where
        was : WasSince st.chart o.began p
        was = was_there p l

        had : Had same st number was.0 k p
        had =
            let lawful = (at.together.makings.standing.fit of st (went same hash name log m known s old new at whole purposes of i u here said leads).2).0 in
            (all_among (λ n. n < st.chart.stored) p o.done its.stored l, was.3, k, key_is, lawful.lawful.classes.refl k)

        on_now : Lasts m.stored v.stored
        on_now = effects_stored (Some (name i)) (Some of) (effects_of (acts.Call i of) known new.changed) m

        by : OneOf (λ (x : Moment K V). HadThen same st number was.0 k (finite_map same of x k)) (m ∷ moments) → (pair : K × V) × (pair_at v.stored (number p) ≡ Some pair) × (same pair.0 k ≡ true)
        by (inl now) = let it = stored_then same of st number was.0 k p had m now in (it.0, on_now (number p) it.0 it.1, it.2)
        by (inr before) =
            let x = one_with (λ (x : Moment K V). HadThen same st number was.0 k (finite_map same of x k)) (λ (x : Moment K V). Lasts x.stored m.stored) moments (purposes.lasts c.begun) before in
            let it = stored_then same of st number was.0 k p had x.0 x.1 in (it.0, on_now (number p) it.0 (x.2 (number p) it.0 it.1), it.2)

    alike : (k : K) (p : ℕ) → 0 < times p o.done → is_key same (pair_at v.stored (number p)) k ≡ Of k p
    alike k p l =
        let classes = (at.together.makings.standing.fit of st (went same hash name log m known s old new at whole purposes of i u here said leads).2).0.lawful.classes in
        let key = all_among (λ n. (x : K) × (st.chart.key n ≡ Some x)) p o.done (its.keys walks).1 l in
        let it = stored_as p l key.0 key.1 in
        ap (λ (x : Option (K × V)). is_key same x k) it.1 ∙ classes.congr it.0.0 key.0 k it.2 ∙ classes.symm key.0 k
        ∙ sym (ap (is_of same (spot_of st.hash) (is_incremental st.setting.mode) k) key.1)

    pub shows_each : (k : K) → HasBeen same k of moments → with_key same k v.stored (map number o.done) ≡ 1
    shows_each k been =
        counts_alike same (spot_of st.hash) (is_incremental st.setting.mode) st.chart v.stored number k o.done (each_among (λ p. is_key same (pair_at v.stored (number p)) k ≡ Of k p) o.done (alike k))
        ∙ came k (had_always k been)

    abbrev d : CallThere K V
    d = then_call same hash name log m known s old new at whole purposes of i u here said leads c c_is

    pub shows_all : ShowsAll same d (log.since d.begun) v
    shows_all k been =
        let stays = still same hash name log m known s old new at whole purposes of i u here said leads c c_is in
        let shown : d.shown ≡ map number o.done = stays.shown ∙ subst (λ (x : Call K V). ShowsDone x number o.done c) is_walk its.tells in
        let been_here : HasBeen same k of moments =
        subst (λ (x : ℕ). HasBeen same k x moments) (on_map same hash name log m known s old new at whole purposes of i u here said leads c c_is)
        (subst (λ (x : ℕ). HasBeen same k d.map (log.since x)) stays.begun been) in
        ap (with_key same k v.stored) shown ∙ shows_each k been_here

  -- whichever call it is
  pub all_shown : (y : UnderWay K V K) → s.calls of i ≡ Some y → IsFor y call.Walk
      → StepsFrom same (went same hash name log m known s old new at whole purposes of i u here said leads).0.hash (machine_of y) old new (went same hash name log m known s old new at whole purposes of i u here said leads).1 said
      → Did same hash name log m known s old new at whole purposes of i u here said leads y
      → ShowsAll same (then_call same hash name log m known s old new at whole purposes of i u here said leads c c_is)
      (log.since (then_call same hash name log m known s old new at whole purposes of i u here said leads c c_is).begun) v
  all_shown (OnKey z) y_is is steps did = absurd is
  all_shown (ForRoom r) y_is is steps did = absurd is
  all_shown (Counting sum) y_is is steps did = absurd is
  all_shown (OverAll o) y_is is steps did = shows_all o y_is is steps did

pub walks_show_all : (K V : Type 0) (same : K → K → Bool) (hash : ℕ → K → ℕ) → WalksShowAll K V same hash
walks_show_all K V same hash name log m known s old new at whole purposes of i u here leads c c_is is_walk loses terms t caller worked_is outcome =
    let to = went same hash name log m known s old new at whole purposes of i u here (progress.Done answers.Swept) leads in
    let stays = still same hash name log m known s old new at whole purposes of i u here (progress.Done answers.Swept) leads c c_is in
    swept_by same terms log t (name i) (v2 same hash name log m known s old new at whole purposes of i u here (progress.Done answers.Swept) leads)
    (then_call same hash name log m known s old new at whole purposes of i u here (progress.Done answers.Swept) leads c c_is) caller worked_is
    (then_is same hash name log m known s old new at whole purposes of i u here (progress.Done answers.Swept) leads c c_is) call.Walk (stays.call ∙ is_walk) (Answered Absent) outcome
    (all_shown same hash name log m known s old new at whole purposes of i u here leads c c_is is_walk loses u here
    (subst (λ (x : Call K V). IsFor u x) is_walk (purposes.is_for of i u here c c_is)) to.3 to.4.did)
