-- What a moment shows of sweeps and counts it shows where a call begins, takes a step, takes a reply, goes on as a walk, or is given up.
use Rattle.std.specs.Prelude.{◌≡◌, ℕ, Bool, true, Option, Some, None, Ok}
use Rattle.std.proofs.Common.{refl, ap, sym, subst, ◌∙◌, arith, inl, inr}
use Rattle.run_logged.specs.Given.SweepsSweepPoints.{after_next}
use Rattle.run_logged.specs.Given.ReservesDeclared.sweep.Purpose.TheVariants as purpose
use Rattle.run_logged.specs.Given.ReservesDeclared.sweep.Sweeping.TheVariants as sweeping
use Rattle.play_lists.specs.Given.TablesDeclared.node.Node.{Node}
use Rattle.run_logged.specs.Given.RawMachine.{machine_replied}
use Rattle.run_logged.specs.Given.RawDeclared.machines.progress.Progress.{Progress}
use Rattle.run_logged.specs.Given.RawDeclared.machines.progress.Progress.TheVariants as progress
use Rattle.run_logged.specs.Given.CallersOverAll.{CallOverAll, gone_on}
use Rattle.run_logged.specs.Given.CallersTogether.{OverAll, UnderWay}
use Rattle.play_lists.specs.Given.FinishesMachines.{RepliedOfKind, machine_of}
use Rattle.play_lists.specs.Given.FinishesMaps.{Standing, with_call as with_call_of}
use Rattle.run_schedules.specs.declared.call.Call.{Call}
use Rattle.run_schedules.specs.declared.call.Reply.{Reply}
use Rattle.run_schedules.specs.declared.outcome.Outcome.{Outcome}
use Rattle.run_schedules.specs.declared.outcome.Outcome.TheVariants as outcome
use Rattle.run_schedules.specs.Schedules.Beginning.{with_call}
use Rattle.run_schedules.specs.Schedules.Effects.{with_effects}
use Rattle.run_schedules.specs.Schedules.Entry.{ends_call}
use Rattle.run_schedules.specs.Schedules.Moment.{Asking, Moment, UnderWay as CallThere}
use Rattle.run_schedules.specs.Schedules.Transition.{Past}
use Rattle.run_schedules.specs.Schedules.Views.{call_of}
use Rattle.play_lists.specs.Given.EffectsEffects.{effects_of, known_after}
use Rattle.play_lists.specs.Given.EffectsKnown.{Known}
use Rattle.play_lists.specs.Given.EffectsDeclared.acting.Acting.TheVariants as acts
use Rattle.play_lists.specs.Given.ScenesBeginning.{Begins as BeginsSo}
use Rattle.play_lists.specs.Given.ScenesHeld.{Held, IsAt}
use Rattle.play_lists.specs.Given.ScenesReplying.{AskLeads, StopLeads, scene_with, unless_stopped}
use Rattle.play_lists.specs.Given.ScenesScene.{Scene, slot_of}
use Rattle.play_lists.specs.Given.ScenesStepping.{StepLeads, scene_after}
use Rattle.play_lists.specs.Given.FollowsCalling.{NoneNamed, come_to, told}
use Rattle.play_lists.specs.Given.FollowsCalls.{IsCalled}
use Rattle.run_logged.specs.Given.HandsAsked.{reply_to_machine}
use Rattle.play_lists.specs.Given.OthersWalks.{given_up}
use Rattle.run_logged.proofs.Given.HandsAsking.{which}
use Rattle.run_logged.proofs.Given.MomentsCalls.{calls_keep_whole}
use Rattle.play_lists.specs.Given.HistoriesAnswers.{NamesPair}
use Rattle.play_lists.specs.Given.HistoriesAsCalled.{IsAsCalled, IsSweptAs}
use Rattle.play_lists.specs.Given.HistoriesAsking.{IsQuestionAsked}
use Rattle.play_lists.proofs.Given.HistoriesCalling.{first_steps_change_first}
use Rattle.play_lists.proofs.Given.KeptBetween.{uncounted_at_first}
use Rattle.play_lists.specs.Given.SettlesCounts.{is_to_count}
use Rattle.play_lists.proofs.Given.SettlesBetween.{told_same}
use Rattle.play_lists.specs.Given.ShardsAdds.{adds_of}
use Rattle.play_lists.specs.Given.ShardsShardWords.{RefinesCounters}
use Rattle.play_lists.proofs.Given.ShardsAdds.{machine_adds, machine_not_adds}
use Rattle.play_lists.proofs.Given.ShardsShardBetween.{calls_begin_counters, calls_come_to_counters, calls_take_counters, counters_stay, fewer_add}
use Rattle.play_lists.proofs.Given.ShardsShardCalls.{calls_keep_counters}
use Rattle.run_sweeps.specs.Purposes.Kept.{AsksAboutIt, PairsChangeFirst, ShowsNone, OutcomeShowsNone}
use Rattle.run_sweeps.specs.Given.PurposesPurposes.{IsFor, RefinesPurposes}
use Rattle.run_sweeps.specs.Given.PurposesShards.{ReadsShards}
use Rattle.run_sweeps.proofs.Purposes.Between.{calls_begin_purposes, calls_come_to_purposes, first_steps_change_pairs_first}
use Rattle.run_sweeps.proofs.Purposes.Elsewhere.{purposes_stay}
use Rattle.run_sweeps.proofs.Purposes.Kept.{calls_keep_purposes}
use Rattle.run_sweeps.proofs.Purposes.ShardsRead.{steps_read_shards}
use Rattle.run_sweeps.proofs.Purposes.Told.{calls_take_purposes}
use Rattle.run_sweeps.proofs.Purposes.Walks.{walks_show_purposes}
use Rattle.run_logged.specs.Given.NamedTelling.{number_by, number_in}
use Rattle.play_lists.specs.Given.ActsActs.{Wanted, begun, Get, Remove, Insert, TryToInsert, Compute, Update, UpdateOrInsert, TryToInsertWith, RemoveIf, GetKeyValue, ContainsKey, GetOrInsert, GetOrInsertWith, RemoveEntry, MakeRoom, Count, GoOver}
use Rattle.run_logged.specs.Given.NamedSeen.{kind_of}
use Rattle.run_schedules.specs.Deeds.Deeds.{named}
use Rattle.play_lists.specs.Played.Play.{call_for, outcome_of}
use Rattle.play_linear.specs.Linear.Shown.{RefinesAnswers}
use Rattle.play_linear.proofs.Linear.Begun.{begun_rightly}
use Rattle.play_linear.specs.Swept.Shown.{RefinesSweeps}
use Rattle.play_linear.proofs.Swept.Tabled.{calls_keep_tabled, tabled_stays}
use Rattle.run_schedules.proofs.Given.General.{same_some}
use Rattle.run_sweeps.proofs.Quiet.Saying.{about_pair}
use Rattle.run_sweeps.proofs.Quiet.Sweeps.{adds_next}

-- a call as an act begins it is for what was called
begun_for : {K V : Type 0} (same : K → K → Bool) (st : Standing K) (i : ℕ) (wanted : Wanted K V) → IsFor (begun same slot_of st i wanted) (call_for wanted)
begun_for same st i (Get key) = tt
begun_for same st i (Remove key) = tt
begun_for same st i (Insert key value) = tt
begun_for same st i (TryToInsert key value) = tt
begun_for same st i (Compute key) = tt
begun_for same st i (Update key) = tt
begun_for same st i (UpdateOrInsert key None) = tt
begun_for same st i (UpdateOrInsert key (Some value)) = tt
begun_for same st i (TryToInsertWith key) = tt
begun_for same st i (RemoveIf key) = tt
begun_for same st i (GetKeyValue key) = tt
begun_for same st i (ContainsKey key) = tt
begun_for same st i (GetOrInsert key value) = tt
begun_for same st i (GetOrInsertWith key) = tt
begun_for same st i (RemoveEntry key) = tt
begun_for same st i (MakeRoom additional) = refl
begun_for same st i Count = tt
begun_for same st i (GoOver purpose.Walks) = refl
begun_for same st i (GoOver purpose.Clears) = refl
begun_for same st i (GoOver purpose.Retains) = refl

-- Where one call has changed, each one that is about to count was so, if that is.
module _ {K V : Type 0} (s : Scene K V) (map i : ℕ) (next : Option (UnderWay K V K)) where
  abbrev then_at : Scene K V
  then_at = record s { calls = with_call_of s.calls map i next }

  abbrev Had : ℕ → ℕ → ℕ → Type 0
  Had of j removed = (y : UnderWay K V K) × (s.calls of j ≡ Some y) × (adds_of (machine_of y) ≡ Some removed)

  adds_were : ((x : UnderWay K V K) → next ≡ Some x → (removed : ℕ) → adds_of (machine_of x) ≡ Some removed → Had map i removed)
      → (of j : ℕ) (x : UnderWay K V K) → then_at.calls of j ≡ Some x → (removed : ℕ) → adds_of (machine_of x) ≡ Some removed → Had of j removed
  adds_were its of j x is removed adds = elim (which s.calls map i next of j x is) as (λ _. Had of j removed) [
    | inl own ↦ let had = its x own.2 removed adds in (had.0, ap (λ (k : ℕ). s.calls k j) own.0 ∙ ap (s.calls map) own.1 ∙ had.1, had.2)
    | inr was ↦ (x, was.1, adds)
  ]

  abbrev Counted : ℕ → ℕ → Type 0
  Counted of j = (y : UnderWay K V K) × (s.calls of j ≡ Some y) × (is_to_count (machine_of y) ≡ true)

  counts_were : ((x : UnderWay K V K) → next ≡ Some x → is_to_count (machine_of x) ≡ true → Counted map i)
      → (of j : ℕ) (x : UnderWay K V K) → then_at.calls of j ≡ Some x → is_to_count (machine_of x) ≡ true → Counted of j
  counts_were its of j x is counts = elim (which s.calls map i next of j x is) as (λ _. Counted of j) [
    | inl own ↦ let had = its x own.2 counts in (had.0, ap (λ (k : ℕ). s.calls k j) own.0 ∙ ap (s.calls map) own.1 ∙ had.1, had.2)
    | inr was ↦ (x, was.1, counts)
  ]

module _ {K V : Type 0} (same : K → K → Bool) (hash : ℕ → K → ℕ) (log : Past K V) (known : Known) (s : Scene K V) (old new : Held K V) (at : IsAt same hash old s) (all : RefinesAnswers same log log.now known s)
    (sweeps : RefinesSweeps same log log.now known s) (map i : ℕ) where
  abbrev m : Moment K V
  m = log.now

  -- A call begins,
  pub sweeps_begin : (standing : Standing K) → s.maps map ≡ Some standing → (wanted : Wanted K V)
      → (let u = begun same slot_of standing i wanted in
      BeginsSo same standing i u → NoneNamed named (named i) s
      → RefinesSweeps same log (with_call (named i) (named (slot_of i)) (call_for wanted) (Some map) m) known (scene_with map i u s))
  sweeps_begin standing there wanted begins none =
      let u = begun same slot_of standing i wanted in
      let guard = named (slot_of i) in
      let uncounted = uncounted_at_first K V same standing i u begins in
      record {
        purposes = calls_begin_purposes K V same hash named log m known s old at sweeps.purposes map i u (call_for wanted) guard standing there begins none (begun_rightly same standing i wanted).0
            (begun_for same standing i wanted) all.dues.history.past.counted refl;
        counters = calls_begin_counters K V named m s sweeps.counters map i u (call_for wanted) guard none uncounted;
        tabled = tabled_stays m (with_call (named i) guard (call_for wanted) (Some map) m) s (scene_with map i u s) sweeps.tabled (λ of. omega arith) refl
            (counts_were s map i (Some u) (λ x e counts. absurd (let never = ap (λ (y : UnderWay K V K). is_to_count (machine_of y)) (sym (same_some u x e)) ∙ uncounted in cc (never, counts))));
      }

  -- takes a reply,
  pub sweeps_take : (u : UnderWay K V K) (here : s.calls map i ≡ Some u) (c : CallThere K V) → call_of (named i) m ≡ Some c → (question : Option ℕ) → c.stands ≡ Asking question
      → (standing : Standing K) → s.maps map ≡ Some standing → (reply : Reply V) (next : UnderWay K V K)
      → machine_of next ≡ (machine_replied (machine_of u) (reply_to_machine reply)).0 → (machine_replied (machine_of u) (reply_to_machine reply)).1 ≡ Ok tt
      → RepliedOfKind V same same old.batch_size old.roots slot_of standing i u (reply_to_machine reply) next → RefinesSweeps same log (told (named i) reply m) known (scene_with map i next s)
  sweeps_take u here c c_is question asks standing there reply next next_is takes kind = record {
    purposes = calls_take_purposes K V same hash named log m known s old at all.whole sweeps.purposes map i u here c c_is question asks about standing there reply next takes kind;
    counters = calls_take_counters K V same named m known s all.whole sweeps.counters map i u here (reply_to_machine reply) next next_is reply;
    tabled = tabled_stays m (told (named i) reply m) s (scene_with map i next s) sweeps.tabled (λ of. omega arith) refl
        (counts_were s map i (Some next) (λ x e counts. (
          u,
          here,
          sym (told_same (machine_of u) (reply_to_machine reply)) ∙ ap is_to_count (sym next_is)
              ∙ ap (λ (y : UnderWay K V K). is_to_count (machine_of y)) (same_some next x e) ∙ counts,
        )));
  }
    where
      about : AsksAboutIt known u question
      about o is word stands =
          let it = (its o is).asks question asks in
          let same_word : it.0 ≡ word = (let both : sweeping.Asks it.0 ≡ sweeping.Asks word = sym it.1 ∙ stands in cc both) in
          about_pair known word question (subst (λ (x : ℕ). IsQuestionAsked known (Some x) question) same_word it.2)
        where
          its : (o : CallOverAll) → u ≡ OverAll o → IsSweptAs (all.as_called.shown.number map) standing.chart.stored known o c
          its o is = subst (λ (x : UnderWay K V K). IsAsCalled (all.as_called.shown.number map) standing.chart.stored known x c) is (all.as_called.each map i u here standing there c c_is)

  -- goes on as a walk,
  pub sweeps_go_on : (leads : AskLeads same hash i true s old new) (o : CallOverAll) (here : s.calls map i ≡ Some (OverAll o)) → (leads map (OverAll o) here).0 ≡ OverAll (gone_on o (after_next o.sweep))
      → RefinesSweeps same log m known (scene_with map i (leads map (OverAll o) here).0 s)
  sweeps_go_on leads o here is = record {
    purposes = (purposes_stay K V same hash named log).walks m known s old new at all.whole sweeps.purposes i leads map o here is;
    counters = counters_stay K V named m m s (scene_with map i next s) sweeps.counters refl refl refl refl refl (adds_were s map i (Some next) its);
    tabled = tabled_stays m m s (scene_with map i next s) sweeps.tabled (λ of. omega arith) refl (counts_were s map i (Some next) counted);
  }
    where
      next : UnderWay K V K
      next = (leads map (OverAll o) here).0

      its : (x : UnderWay K V K) → ◌≡◌ {A = Option (UnderWay K V K)} (Some next) (Some x) → (removed : ℕ) → adds_of (machine_of x) ≡ Some removed → Had s map i (Some next) map i removed
      its x e removed adds =
          let x_is : x ≡ OverAll (gone_on o (after_next o.sweep)) = sym (same_some next x e) ∙ is in
          (OverAll o, here, adds_next o.sweep.stands o.sweep removed refl (ap (λ (y : UnderWay K V K). adds_of (machine_of y)) (sym x_is) ∙ adds))

      counted : (x : UnderWay K V K) → ◌≡◌ {A = Option (UnderWay K V K)} (Some next) (Some x) → is_to_count (machine_of x) ≡ true → Counted s map i (Some next) map i
      counted x e counts = by (adds_of (machine_of x)) refl
        where
          by : (removed : Option ℕ) → adds_of (machine_of x) ≡ removed → Counted s map i (Some next) map i
          by None adds = absurd (let never = machine_not_adds (machine_of x) adds in cc (never, counts))
          by (Some removed) adds = let had = its x e removed adds in (had.0, had.1, machine_adds (machine_of had.0) removed had.2)

  -- or is given up.
  pub sweeps_stop : StopLeads same hash i true s old new → (u : UnderWay K V K) → s.calls map i ≡ Some u
      → (let after = record s { calls = with_call_of s.calls map i (unless_stopped true u) } in NoneNamed named (named i) after → RefinesSweeps same log (given_up (named i) true m) known after)
  sweeps_stop leads u here none = record {
    purposes = (purposes_stay K V same hash named log).walks_stop m known s old new at all.whole sweeps.purposes i true leads map u here (λ e. none);
    counters = record { shards = went.shards; makes = went.makes; adds = fewer_add same named m (given_up (named i) true m) after fewer went.adds (named i) none refl };
    tabled = tabled_stays m (given_up (named i) true m) s after sweeps.tabled (λ of. omega arith) refl (counts_were s map i None (λ x e counts. absurd (cc e)));
  }
    where
      after : Scene K V
      after = record s { calls = with_call_of s.calls map i None }

      went : RefinesCounters named m after
      went = counters_stay K V named m m s after sweeps.counters refl refl refl refl refl (adds_were s map i None (λ x e removed adds. absurd (cc e)))

      fewer : (n j : ℕ) (x : UnderWay K V K) → after.calls n j ≡ Some x → (c : CallThere K V) × (call_of (named j) m ≡ Some c) × (c.map ≡ n) × IsCalled same x c.call
      fewer n j x is = elim (which s.calls map i None n j x is) as (λ _. (c : CallThere K V) × (call_of (named j) m ≡ Some c) × (c.map ≡ n) × IsCalled same x c.call) [
        | inl own ↦ absurd (let gone = own.2 in cc gone)
        | inr was ↦ all.whole.all.shown.calls n j x was.1
      ]

  -- And so it is where one takes a step, and comes to what that says: who shows a pair is a walk.
  module _ (u : UnderWay K V K) (here : s.calls map i ≡ Some u) (said : Progress (Node K V)) (leads : StepLeads same hash i said s old new) where
    abbrev v : Moment K V
    v = with_effects (Some (named i)) (Some map) (effects_of (acts.Call i map) known new.changed) m

    abbrev known2 : Known
    known2 = known_after (acts.Call i map) new.changed known

    abbrev s2 : Scene K V
    s2 = let to = leads map u here in scene_after same s old new map i to.0 u to.1 said to.4

    pub reads : ReadsShards log m s map u
    reads = (steps_read_shards K V same hash named log m known s old new at all.whole sweeps.counters map i u here said leads ((λ shard. refl), sweeps.tabled.maps map)).0

    pairs : PairsChangeFirst log m map v
    pairs = first_steps_change_pairs_first K V log m v map (refl, refl)

    none_shown : ShowsNone said → (o : Outcome V) → OutcomeShowsNone o → (ends_call o ≡ true → NoneNamed named (named i) s2) → RefinesPurposes same named log (come_to (named i) o 1 v) known2 s2
    none_shown none o silent ended =
        calls_come_to_purposes K V same named log v known2 s2
        (calls_keep_purposes K V same hash named log m known s old new at all.whole sweeps.purposes map i u here said leads pairs (first_steps_change_first K V same log m v map (refl, refl)) reads none) (named i) o 1 silent ended

    module _ (called : Call K V) (value : Option V) (words : (word : ℕ) → said ≡ progress.Pair word → (q : ℕ) × NamesPair known2 word q) where
      abbrev o : Outcome V
      o = outcome_of known2 (kind_of called) value said

      -- one that shows a pair
      shows_pair : (word : ℕ) → said ≡ progress.Pair word → RefinesPurposes same named log (come_to (named i) (outcome.Shows (number_by known2 word)) 1 v) known2 s2
      shows_pair word is =
          let its = words word is in
          let names : NamesPair known2 word (number_by known2 word) = subst (NamesPair known2 word) (sym (ap number_in its.1)) its.1 in
          subst (λ (p : Progress (Node K V)). (its_leads : StepLeads same hash i p s old new)
          → (let to = its_leads map u here in RefinesPurposes same named log (come_to (named i) (outcome.Shows (number_by known2 word)) 1 v) known2 (scene_after same s old new map i to.0 u to.1 p to.4))) (sym is)
          (λ its_leads. walks_show_purposes K V same hash named log m known s old new at all.whole sweeps.purposes map i u here word its_leads pairs (first_steps_change_first K V same log m v map (refl, refl))
          (number_by known2 word) 1 names) leads

      module _ (ended : ends_call o ≡ true → NoneNamed named (named i) s2) where
        abbrev At : Progress (Node K V) → Type 0
        At p = RefinesPurposes same named log (come_to (named i) (outcome_of known2 (kind_of called) value p) 1 v) known2 s2

        silent : (p : Progress (Node K V)) → said ≡ p → ShowsNone p → OutcomeShowsNone (outcome_of known2 (kind_of called) value p) → At said
        silent p is none tells =
            none_shown (subst ShowsNone (sym is) none) o (subst (λ (x : Progress (Node K V)). OutcomeShowsNone (outcome_of known2 (kind_of called) value x)) (sym is) tells) ended

        purposes_then : (p : Progress (Node K V)) → said ≡ p → At said
        purposes_then (progress.Pair word) is = subst At (sym is) (shows_pair word is)
        purposes_then progress.Goes is = silent progress.Goes is tt tt
        purposes_then progress.Waits is = silent progress.Waits is tt tt
        purposes_then (progress.Gave node) is = silent (progress.Gave node) is tt tt
        purposes_then (progress.Unstored node) is = silent (progress.Unstored node) is tt tt
        purposes_then (progress.Asks about) is = silent (progress.Asks about) is tt tt
        purposes_then progress.Ready is = silent progress.Ready is tt tt
        purposes_then (progress.Done its) is = silent (progress.Done its) is tt tt
        purposes_then (progress.Refused fault) is = silent (progress.Refused fault) is tt tt

        pub sweeps_step : RefinesSweeps same log (come_to (named i) o 1 v) known2 s2
        sweeps_step = record {
          purposes = purposes_then said refl;
          counters = calls_come_to_counters K V same named v known2 s2 (calls_keep_whole K V same hash named m known s old new at all.whole map i u here said leads)
              (calls_keep_counters K V same hash named m known s old new at all.whole all.kept.counts sweeps.counters map i u here said leads) (named i) o 1 ended;
          tabled = tabled_stays v (come_to (named i) o 1 v) s2 s2 (calls_keep_tabled same hash m known s old new at all.whole all.kept.counts sweeps.counters sweeps.tabled map i u here said leads) (λ of. omega arith) refl
              (λ of j x is counts. (x, is, counts));
        }
