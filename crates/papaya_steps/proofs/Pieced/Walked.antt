-- An event by which a walk is asked for its next pair: the list of acts goes on by that, and by the steps that the walk takes since.
use Rattle.std.specs.Prelude.{zero, suc, ◌≤◌, ◌==◌, ◌+◌, Option, Some, None, option_map, slice_get, slice_set}
use Rattle.std.specs.List.{AllByRecursion}
use Rattle.std.proofs.Common.{◌≡◌, ℕ, Bool, List, [], ◌∷◌, refl, sym, ap, subst, arith, ◌∙◌, inl}
use Rattle.std.proofs.lemmas.Bool.{eq-eqb}
use Rattle.papaya_raw.specs.Machine.{machine_asked}
use Rattle.papaya_raw.specs.declared.machines.progress.Progress.TheVariants as progress
use Rattle.play_events.specs.Given.FinishesMachines.{machine_of}
use Rattle.play_events.specs.Given.ScenesScene.{Scene, slot_of}
use Rattle.run_schedules.specs.declared.effect.Effect.{Effect}
use Rattle.run_schedules.specs.declared.event.Event.{Event}
use Rattle.run_schedules.specs.declared.event.Event.TheVariants as event
use Rattle.run_schedules.specs.declared.outcome.Outcome.{Outcome}
use Rattle.run_schedules.specs.declared.outcome.Outcome.TheVariants as outcome
use Rattle.run_schedules.specs.Schedules.After.{moment}
use Rattle.run_schedules.specs.Schedules.Entry.{Entry}
use Rattle.run_schedules.specs.Schedules.Terms.{shards_of}
use Rattle.run_effects.specs.Effects.Known.{Known, known}
use Rattle.play_events.specs.Given.ExecutorIsThere.{IsThere, PreservesSettings, StaysGiven}
use Rattle.play_events.specs.Given.ExecutorReplying.{AsksThere}
use Rattle.play_events.specs.Given.ExecutorDeclared.executor.Executor.{Executor}
use Rattle.play_events.specs.Given.SchedulerPlayed.{entry_of}
use Rattle.play_events.specs.Given.SchedulerDeclared.played.Played.{Played}
use Rattle.play_events.specs.Given.SchedulerDeclared.scheduler.Scheduler.{Scheduler}
use Rattle.play_events.proofs.Given.SchedulerHere.{here_at}
use Rattle.play_events.proofs.Given.SchedulerStopped.{ready_parts}
use Rattle.play_events.specs.Given.NamedSeen.{kind_of, ready_place}
use Rattle.play_events.specs.Given.ExecutorDeclared.caller.NamedCaller.{NamedCaller}
use Rattle.play_events.specs.Given.ExecutorDeclared.caller.Stands.{Stands as HowFar}
use Rattle.play_events.specs.Given.ExecutorDeclared.caller.Stands.TheVariants as far
use Rattle.play_events.specs.Given.ActsActs.{AsksCall, OfAsking}
use Rattle.play_events.specs.Given.ActsLists.{Course}
use Rattle.run_schedules.specs.Deeds.Deeds.{Steps}
use Rattle.play_events.specs.Given.DrivesExecutors.{IsAct}
use Rattle.play_events.proofs.Given.DrivesExecutors.{executors_act}
use Rattle.play_events.specs.Given.SteppingStepping.{HasWalked, IsStepOf, IsStepped, TookNext, WalkedFor}
use Rattle.play_events.specs.Given.PlayedPlay.{Calling, State, call_asked}
use Rattle.play_events.proofs.Given.PlayedPlayedAs.{played_as}
use Rattle.play_events.specs.Given.GroupedCalled.{CallersAre, IsCalledAs, PlaysSo}
use Rattle.play_events.specs.Given.GroupedGrouping.{MayHave, Names, names_after, number_called, refuses}
use Rattle.play_events.specs.Given.GroupedReach.{Reach}
use Rattle.play_events.proofs.Given.GroupedCallers.{call_beside, call_here, each_at, set_count, set_one, under}
use Rattle.play_events.proofs.Given.GroupedMidst.{InEvent, event_ends, at_rest}
use Rattle.play_events.proofs.Given.GroupedOneMore.{one_act}
use Rattle.play_events.proofs.Given.GroupedReached.{goes_at, reach_so}
use Rattle.papaya_steps.specs.Pieced.SoFar.{ActsSoFar, ContinuesByActs}
use Rattle.papaya_steps.proofs.Pieced.Quiet.{did_nothing, later_by}
use Rattle.papaya_steps.proofs.Pieced.StepCall.{HasCallIn}
use Rattle.papaya_steps.proofs.Pieced.StepsCall.{InMidst, StandsThere, one_goes}
use Rattle.papaya_steps.proofs.Pieced.Taken.{works_at}
use Rattle.seize_words.proofs.General.{set_same, same_some}

-- what is so of each where one is another one, is so of each where it is so of that
each_back : {X : Type 0} (P : X → Type 0) (xs : List X) (k : ℕ) (x y : X) → slice_get xs k ≡ Some x → (P y → P x) → AllByRecursion P (slice_set xs k y) → AllByRecursion P xs
each_back P [] k x y is back all = all
each_back P (z ∷ xs) zero x y is back all = let e : z ≡ x = cc is in (subst P (sym e) (back all.0), all.1)
each_back P (z ∷ xs) (suc k) x y is back all = (all.0, each_back P xs k x y is back all.1)

module _ {K V S : Type 0} (names : Names) (x : State K V S) (calls : List (NamedCaller V)) (place : ℕ) (d : NamedCaller V) (at : slice_get calls place ≡ Some d) where
  -- how far a caller says it is makes no difference to how its call was played
  callers_back : (h : HowFar) → CallersAre names (slice_set calls place (record d { stands = h })) x → CallersAre names calls x
  callers_back h so = record {
    each = each_back (λ a. IsCalledAs names x a) calls place d (record d { stands = h }) at (λ is. record { name = is.name; call = is.call; here = is.here; kind = is.kind; value = is.value }) so.each;
    once = λ n. subst (λ (k : ℕ). k ≤ 1) (set_count (λ (a : NamedCaller V). a.number == n) calls place d (record d { stands = h }) at refl) (so.once n);
  }

  -- one that was asked for its next pair goes on as another machine
  callers_asked : (c : Calling K V) → x.now.calls d.map d.number ≡ Some c → CallersAre names calls x → CallersAre names calls (call_asked d.number d.map x c)
  callers_asked c here so =
      let z = call_asked d.number d.map x c in
      let next = record c { machine = (machine_asked c.machine).0 } in
      let its : IsCalledAs names x d = each_at (λ a. IsCalledAs names x a) calls place d at so.each in
      let one : its.call ≡ c = same_some its.call c (sym its.here ∙ here) in
      record {
        each = subst (λ (l : List (NamedCaller V)). AllByRecursion (λ a. IsCalledAs names z a) l) (set_same calls place d at)
            (set_one (λ a. a.number == d.number) (λ a. IsCalledAs names x a) (λ a. IsCalledAs names z a)
            (λ a other is. record {
              name = is.name;
              call = is.call;
              here = call_beside x.now.calls d.map d.number (Some next) a.map a.number other ∙ is.here;
              kind = is.kind;
              value = is.value;
            }) d (record {
              name = its.name;
              call = next;
              here = call_here x.now.calls d.map d.number (Some next);
              kind = ap (λ (a : Calling K V). kind_of a.call) (sym one) ∙ its.kind;
              value = ap (λ (a : Calling K V). a.value) (sym one) ∙ its.value;
            }) calls place d at (eq-eqb d.number d.number refl) (so.once d.number) so.each);
        once = so.once;
      }

module _ {K V S : Type 0} (same : K → K → Bool) (by_hasher : S → K → ℕ) (shards : ℕ) (log : List (Entry K V)) (event : Event K V) (place i m : ℕ) (own : List ℕ)
    (may : (names : Names) → number_called own names ≡ Some i → MayHave names (moment log) event (Steps i)) (h : S) (b r : ℕ) (any : Course V same by_hasher b r slot_of) where
  abbrev Midst : (did : List Effect) (steps : ℕ) → Outcome V → Scheduler K V S → Type 0
  Midst did steps outcome p = InMidst same by_hasher shards log event place i m own may h b r did steps outcome p

  abbrev There : Scheduler K V S → Type 0
  There p = StandsThere same by_hasher shards log event place i m own may p

  -- a step of which no caller is told,
  walk_goes : (before after : List Effect) (p q : Scheduler K V S) (steps : ℕ) (prev : Outcome V) → IsStepOf same (by_hasher h) place progress.Goes before after p q → There p → Midst before steps prev p
      → Midst after (1 + steps) outcome.Goes q × There q
  walk_goes before after p q steps prev st there at =
      let calls2 = slice_set p.calls place (record st.caller { stands = far.Goes }) in
      let q2 : Scheduler K V S = record q { calls = calls2 } in
      let stepped : IsStepped same (by_hasher h) place outcome.Goes before after p q2 = record {
        caller = st.caller;
        at = st.at;
        said = progress.Goes;
        leads = st.leads;
        steps = st.steps;
        outcome_is = refl;
        calls = refl;
        rest = ap (λ (x : Scheduler K V S). record x { calls = calls2 }) st.rest;
        given = st.given;
      } in
      let done = one_goes same by_hasher shards log event place i m own may outcome.Goes before after p q2 steps prev h b r any stepped there at in
      let calls_are : q.calls ≡ p.calls = ap (λ (x : Scheduler K V S). x.calls) st.rest in
      let on = done.1 refl in (
        subst (λ (l : List (NamedCaller V)). Reach same by_hasher h b r shards (λ x. InEvent log event after (1 + steps) outcome.Goes l x) q.logged.executor (known q.logged.notes)) (sym calls_are)
            (reach_so same by_hasher h b r shards (λ x. InEvent log event after (1 + steps) outcome.Goes calls2 x) (λ x. InEvent log event after (1 + steps) outcome.Goes p.calls x)
            (λ x so. record {
              known = so.known;
              before = so.before;
              grouping = so.grouping;
              piece = so.piece;
              history = so.history;
              effects = so.effects;
              counts = so.counts;
              comes = so.comes;
              deeds = so.deeds;
              callers = callers_back (names_after event so.piece so.known) x p.calls place st.caller st.at far.Goes so.callers;
              fresh = so.fresh;
            }) q.logged.executor (known q.logged.notes) done.0),
        record { caller = there.caller; at = ap (λ (l : List (NamedCaller V)). slice_get l place) calls_are ∙ there.at; name = there.name; number = there.number; map = there.map; works = on.works },
      )

  -- and several
  walk_for : (n : ℕ) (before after : List Effect) (p q : Scheduler K V S) (steps : ℕ) (prev : Outcome V) → WalkedFor same (by_hasher h) place n before after p q → There p → Midst before steps prev p
      → (last : Outcome V) × (Midst after (n + steps) last q × There q)
  walk_for zero before after p q steps prev (same_list, same_one) there at = (
    prev,
    (
      subst (λ (k : ℕ). Midst after k prev q) (let e : steps ≡ 0 + steps = omega arith in e)
          (subst (λ (x : Scheduler K V S). Midst after steps prev x) same_one (subst (λ (l : List Effect). Midst l steps prev p) same_list at)),
      subst There same_one there,
    ),
  )
  walk_for (suc n) before after p q steps prev (mid, t, before_it, st) there at =
      let was = walk_for n before mid p t steps prev before_it there at in
      let done = walk_goes mid after t q (n + steps) was.0 st was.1.1 was.1.0 in
      let count : 1 + (n + steps) ≡ suc n + steps = omega arith in
      (outcome.Goes, (subst (λ (k : ℕ). Midst after k outcome.Goes q) count done.0, done.1))

  -- and then one that came to this
  pub walked_by : (n count : ℕ) (outcome : Outcome V) (mid after : List Effect) (p led q : Scheduler K V S) (prev : Outcome V) → count ≡ n + 1 → WalkedFor same (by_hasher h) place n [] mid p led
      → IsStepped same (by_hasher h) place outcome mid after led q → There p → Midst [] 0 prev p → Midst after count outcome q
  walked_by n count outcome mid after p led q prev count_is walked last there at =
      let was = walk_for n [] mid p led 0 prev walked there at in
      let done = one_goes same by_hasher shards log event place i m own may outcome mid after led q (n + 0) was.0 h b r any last was.1.1 was.1.0 in
      let many : 1 + (n + 0) ≡ count = omega (arith, count_is) in
      subst (λ (k : ℕ). Midst after k outcome q) many done.0

-- The walk is asked for its next pair.
module _ {K V S : Type 0} (same : K → K → Bool) (by_hasher : S → K → ℕ) (shards : ℕ) (log : List (Entry K V)) (event : Event K V) (e e2 : Executor K V S) (given : StaysGiven e e2)
    (any : Course V same by_hasher e.batch_size e.roots slot_of) (calls : List (NamedCaller V)) (place : ℕ) (d : NamedCaller V) (at : slice_get calls place ≡ Some d) (ready : Bool)
    (leads : (s : Scene K V) → IsThere same (by_hasher e.hasher) e s → AsksThere same (by_hasher e.hasher) d.number ready s e e2) (has : HasCallIn d.number d.map e) where
  is_asked : (s : Scene K V) → IsThere same (by_hasher e.hasher) e s → IsAct same by_hasher e e2 s (AsksCall d.number d.map) (OfAsking ready)
  is_asked s there =
      let c = under machine_of (s.calls d.map d.number) has.0 (there.calls d.map d.number ∙ has.1) in
      (executors_act V same by_hasher e e2 s there given d.number).0.ask ready (leads s there) d.map c.0 c.1

  -- it is under way then
  works_asked : (s : Scene K V) → IsThere same (by_hasher e.hasher) e s → HasCallIn d.number d.map e2
  works_asked s there =
      let c = under machine_of (s.calls d.map d.number) has.0 (there.calls d.map d.number ∙ has.1) in
      let to = (leads s there).1 d.map c.0 c.1 in
      (machine_of to.0, sym (to.4.calls d.map d.number) ∙ ap (option_map machine_of) (call_here s.calls d.map d.number (Some to.0)))

  pub ask_goes : (noted : Known) → Reach same by_hasher e.hasher e.batch_size e.roots shards (PlaysSo log calls) e noted
      → Reach same by_hasher e.hasher e.batch_size e.roots shards (λ (x : State K V S). InEvent log event [] 0 at_rest calls x) e2 noted × HasCallIn d.number d.map e2
  ask_goes noted before =
      let to = before.leads any in (
        one_act same by_hasher shards e e2 given any noted noted (PlaysSo log calls) (λ (x : State K V S). InEvent log event [] 0 at_rest calls x) (AsksCall d.number d.map) (OfAsking ready) (tt, tt) is_asked
            (λ x so. tt) (λ value. value)
            (λ value aborts x y p stage there its played knows so.
            (let came = played_as same by_hasher e.batch_size e.roots aborts x y (AsksCall d.number d.map) played in
            let z = call_asked d.number d.map x came.0 in (
              ap (λ (w : State K V S). w.known) came.2 ∙ knows,
              subst (λ (w : State K V S). InEvent log event [] 0 at_rest calls w) (sym came.2) (record {
                known = so.names;
                before = x.history;
                grouping = so.grouping;
                piece = [];
                history = refl;
                effects = refl;
                counts = refl;
                comes = inl refl;
                deeds = tt;
                callers = callers_asked so.names x calls place d at came.0 came.1 so.callers;
                fresh = λ n l. so.fresh n (omega (arith, l));
              }),
            ))) before,
        works_asked to.0.0.0 to.3,
      )

-- So the event goes on by acts.
module _ {K V S : Type 0} (same : K → K → Bool) (by_hasher : S → K → ℕ) (any : (batch_size roots : ℕ) → Course V same by_hasher batch_size roots slot_of) (own : List ℕ) (played : Played V) (old new : Scheduler K V S)
    (took : TookNext same (by_hasher old.logged.executor.hasher) own played old new) (given : PreservesSettings old.logged.executor new.logged.executor) where
  abbrev its_hash : K → ℕ
  its_hash = by_hasher old.logged.executor.hasher

  pub next_goes_on : ContinuesByActs same by_hasher (event.Next own) played old new
  next_goes_on terms log stands in_turn next next2 at = by (ready_place own old.calls) refl
    where
      ev : Event K V
      ev = event.Next own

      After : Type 0
      After = ActsSoFar same by_hasher terms (entry_of ev played ∷ log) new.logged new.calls

      walked : (place : ℕ) → Some place ≡ ready_place own old.calls → HasWalked same its_hash place played old new → After
      walked place ready it =
          let placed = ready_parts same its_hash terms log old own stands place ready in
          let here = here_at same its_hash terms (moment log) old stands own place placed.0 in
          let one : it.caller ≡ here.caller = same_some it.caller here.caller (sym it.at ∙ here.at) in
          let works = works_at same its_hash terms (moment log) old stands place it.caller it.at in
          goes_at same by_hasher (shards_of terms) (PlaysSo log old.calls) (PlaysSo (entry_of ev played ∷ log) new.calls) old.logged.executor new.logged.executor (known old.logged.notes) (known new.logged.notes)
          (λ course there.
          (let asked = ask_goes same by_hasher (shards_of terms) log ev old.logged.executor it.asked.executor (it.given.0, it.given.1, it.given.2) course old.calls place it.caller it.at it.ready it.leads works
          (known old.logged.notes) there in
          let p0 : Scheduler K V S = record old { logged = it.asked } in
          let began = subst (λ (k : Known). Reach same by_hasher old.logged.executor.hasher old.logged.executor.batch_size old.logged.executor.roots (shards_of terms)
          (λ (x : State K V S). InEvent log ev [] 0 at_rest old.calls x) it.asked.executor k) (ap known (sym it.notes)) asked.0 in
          let done = walked_by same by_hasher (shards_of terms) log ev place it.caller.number it.caller.map own (λ names called. called) old.logged.executor.hasher old.logged.executor.batch_size old.logged.executor.roots course
          it.steps played.steps played.outcome it.mid played.effects.items p0 it.led new at_rest it.steps_are it.walked it.last
          (record { caller = it.caller; at = it.at; name = ap (λ (c : NamedCaller V). c.name) one ∙ here.named; number = refl; map = refl; works = asked.1 }) began in
          reach_so same by_hasher old.logged.executor.hasher old.logged.executor.batch_size old.logged.executor.roots (shards_of terms)
          (λ (x : State K V S). InEvent log ev played.effects.items played.steps played.outcome new.calls x) (PlaysSo (entry_of ev played ∷ log) new.calls)
          (λ x in_it. event_ends log ev played.effects.items played.steps played.outcome new.calls x (later_by ev played old new log refl given next next2) in_it) new.logged.executor (known new.logged.notes) done))
          terms.batch_size terms.roots (any terms.batch_size terms.roots) at

      by : (o : Option ℕ) → ready_place own old.calls ≡ o → After
      by None is =
          let n = took.1 is in
          did_nothing ev played old new same by_hasher n.1 n.2 (ap (λ (p : Scheduler K V S). p.logged) n.3) (ap (λ (p : Scheduler K V S). p.calls) n.3) (λ m there. inl (ap refuses n.0)) terms log stands in_turn next next2 at
      by (Some place) is = walked place (sym is) (took.0 place (sym is))
