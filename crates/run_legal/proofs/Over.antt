-- A run goes on with an event that comes to what is right: the moment after it shows all that the next one needs.
use Rattle.std.specs.Prelude.{◌≡◌, ℕ, ◌+◌, Bool, true, false, List, [], ◌∷◌, map, Some, if◌then◌else◌, ◌⊎◌}
use Rattle.std.proofs.Common.{refl, ap, sym, subst, ◌∙◌, arith}
use Rattle.run_grows.specs.Given.SeizeWordsDeclared.fault.Fault.TheVariants.{Busy}
use Rattle.run_grows.specs.Given.SeizeWaitingSets.{Sets}
use Rattle.run_grows.specs.Given.SeizeWorld.{World}
use Rattle.run_grows.specs.Given.TablesDeclared.node.Node.{Node}
use Rattle.run_grows.specs.Given.RunsSame.{is_same}
use Rattle.run_grows.specs.Given.RunsDeclared.effect.Effect.{Effect}
use Rattle.run_grows.specs.Given.RunsDeclared.effect.Thing.{Thing}
use Rattle.run_grows.specs.Given.RunsDeclared.event.Event.{Event}
use Rattle.run_grows.specs.Given.RunsDeclared.event.Event.TheVariants as event
use Rattle.run_grows.specs.Given.RunsDeclared.outcome.Outcome.{Outcome}
use Rattle.run_grows.specs.Given.RunsDeclared.outcome.Outcome.TheVariants.{Done, Goes, Refused}
use Rattle.run_grows.specs.Given.SchedulesAfter.{after, with_outcome, is_alone_on, moment}
use Rattle.run_grows.specs.Given.SchedulesBeginning.{at_work}
use Rattle.run_grows.specs.Given.SchedulesEffects.{AtEachEffect}
use Rattle.run_grows.specs.Given.SchedulesEntry.{Entry, acted_on, caller_of, nameless}
use Rattle.run_grows.specs.Given.SchedulesModel.{IsByModel, sets_in, things_in}
use Rattle.run_grows.specs.Given.SchedulesMoment.{UnderWay as CallThere, Moment}
use Rattle.run_grows.specs.Given.SchedulesTerms.{Terms}
use Rattle.run_grows.specs.Given.SchedulesViews.{call_of}
use Rattle.run_grows.specs.Given.CallersTogether.{UnderWay}
use Rattle.run_grows.specs.Given.EffectsKnown.{Known}
use Rattle.run_grows.specs.Given.PromisesReading.{RefinesReadings}
use Rattle.run_grows.proofs.Given.PromisesBrief.Stays.{events_keep_readings}
use Rattle.run_grows.specs.Given.ModelsCallEvents.{IsInItsRow}
use Rattle.run_grows.specs.Given.ModelsFollows.{FollowsSets}
use Rattle.run_grows.proofs.Given.ModelsFollows.{idle_events_follow}
use Rattle.run_grows.specs.Given.FindsLife.{StoresOne}
use Rattle.run_grows.specs.Given.FindsWithin.{GoesInOrder}
use Rattle.run_grows.proofs.Given.FindsClosed.{over_stays_back}
use Rattle.run_grows.proofs.Given.FindsRuns.{events_keep_order}
use Rattle.run_sweeps.proofs.Purposes.Tableless.{events_keep_tableless}
use Rattle.run_legal.specs.Between.{IsLike}
use Rattle.run_legal.specs.Carried.{FollowsOrRows}
use Rattle.run_legal.specs.Over.{IdleEventsEnd, LeavesAll, SilentEventsEnd, RunsByOtherNames, RunsContinue}
use Rattle.run_legal.proofs.LeftTold.{events_tell_left}
use Rattle.run_legal.proofs.Between.{likes_show, logs_grow, named_as, names_change}
use Rattle.run_grows.specs.Given.ScenesScene.{Scene, slot_of}
use Rattle.run_grows.specs.Given.SchedulesTransition.{past}
use Rattle.run_grows.proofs.Given.ChangesLogs.{events_are}
use Rattle.run_grows.proofs.Given.General.{both_true as and_both}

pub runs_go_on : (K V : Type 0) (same : K → K → Bool) → RunsContinue K V same
runs_go_on K V same name name2 terms log first known before s run e right life stores reclaims all reading sections follows = record {
  calls = logs_grow K V same name2 (past log) (moment (e ∷ log)) known s all (events_are (e ∷ log));
  reading = events_keep_readings K V name2 (past log) (moment (e ∷ log)) (λ j. 0) (moment (e ∷ log)) s reading (events_are (e ∷ log));
  sections = sections;
  follows = follows;
  order = events_keep_order K V terms log e goes run.order;
  tableless = events_keep_tableless K V terms log e goes run.order run.tableless;
  over = over_stays_back K V terms log e goes reclaims run.over;
  left = events_tell_left K V terms log e goes reclaims run.order.0 run.left;
}
  where
    goes : GoesInOrder terms log e
    goes = record { right = right; life = life; stores = stores }

pub runs_by_other_names : (K V : Type 0) (same : K → K → Bool) → RunsByOtherNames K V same
runs_by_other_names K V same name name2 terms log known s agree run = record {
  calls = names_change K V same name name2 (past log) (moment log) known s agree run.calls;
  reading = record {
    past = run.reading.past;
    begun = λ map i u is c c_is. run.reading.begun map i u is c (as_named map i u is c c_is);
    reads = λ map i u is c c_is. run.reading.reads map i u is c (as_named map i u is c c_is);
  };
  sections = run.sections;
  follows = run.follows;
  order = run.order;
  tableless = run.tableless;
  over = run.over;
  left = run.left;
}
  where
    as_named : (map i : ℕ) (u : UnderWay K V K) → s.calls map i ≡ Some u → (c : CallThere K V) → call_of (name2 i) (moment log) ≡ Some c → call_of (name i) (moment log) ≡ Some c
    as_named map i u is c c_is = named_as name name2 (moment log) s agree map i u is c c_is

-- lookups have read as much at a moment that is like this one
pub reading_like : {K V : Type 0} (name : ℕ → List ℕ) (log : List (Entry K V)) (made : ℕ → ℕ) (m v : Moment K V) (s : Scene K V) → RefinesReadings name (past log) made m s → IsLike m v
    → RefinesReadings name (past log) made v s
reading_like {K} {V} name log made m v s reading like =
    subst (λ (x : Moment K V). RefinesReadings name (past log) made x s) (sym like) (record { past = reading.past; begun = reading.begun; reads = reading.reads })

-- An event that leaves the waiting sets.

module _ {K V : Type 0} (terms : Terms) (known : Known) (w : World (Node K V)) where
  abbrev Following : List Thing → Sets → Type 0
  Following things sets = FollowsSets terms.batch_size terms.roots things sets known w ⊎ ((i : ℕ) × IsInItsRow terms.batch_size terms.roots things sets (slot_of i) i known w)

  pub still_follows : (log : List (Entry K V)) (e : Entry K V) → things_in (e ∷ log) ≡ things_in log → sets_in terms.batch_size (e ∷ log) ≡ sets_in terms.batch_size log
      → FollowsOrRows terms log known w → FollowsOrRows terms (e ∷ log) known w
  still_follows log e things sets follows =
      subst (λ (xs : List Thing). Following xs (sets_in terms.batch_size (e ∷ log))) (sym things) (subst (λ (x : Sets). Following (things_in log) x) (sym sets) follows)

pub quiet_events_end : (K V : Type 0) (same : K → K → Bool) → SilentEventsEnd K V same
quiet_events_end K V same name terms log known before s run e right life nothing unchanged none_left reclaims v all reading like world sections =
    runs_go_on K V same name name terms log known known before s run e right life stores reclaims (likes_show K V same name (past log) v (moment (e ∷ log)) known s all like)
    (reading_like name log (λ j. 0) v (moment (e ∷ log)) s reading like) sections follows
  where
    stores : AtEachEffect (StoresOne (caller_of e.event)) (caller_of e.event) (acted_on e.event (at_work e (moment log))) e.effects (at_work e (moment log))
    stores = subst (λ (fs : List Effect). AtEachEffect (StoresOne (caller_of e.event)) (caller_of e.event) (acted_on e.event (at_work e (moment log))) fs (at_work e (moment log))) (sym nothing) tt

    stays : IsByModel terms log e × (things_in (e ∷ log) ≡ things_in log) × (sets_in terms.batch_size (e ∷ log) ≡ sets_in terms.batch_size log)
    stays = idle_events_follow K V terms log e nothing unchanged none_left

    follows : (moment (e ∷ log)).is_alone ≡ true → FollowsOrRows terms (e ∷ log) known s.world
    follows alone = subst (λ (w : World (Node K V)). FollowsOrRows terms (e ∷ log) known w) (sym world)
        (still_follows terms known before.world log e stays.1 stays.2 (run.follows (and_both (moment log).is_alone (is_alone_on e (moment log)) alone).0))

-- A call that makes no step, and comes to nothing, is as it was.

module _ {K V : Type 0} (test : CallThere K V → Bool) where
  abbrev kept_as : CallThere K V → CallThere K V
  kept_as c = if test c then with_outcome {V = V} (Refused Busy) (record c { steps = c.steps + 0 }) else c

  one_still : (c : CallThere K V) (q : Bool) → (if q then with_outcome {V = V} (Refused Busy) (record c { steps = c.steps + 0 }) else c) ≡ c
  one_still c true = let none : c.steps + 0 ≡ c.steps = omega arith in ap (λ (n : ℕ). record c { steps = n }) none
  one_still c false = refl

  calls_still : (calls : List (CallThere K V)) → map kept_as calls ≡ calls
  calls_still [] = refl
  calls_still (c ∷ calls) = ap (λ (x : CallThere K V). x ∷ map kept_as calls) (one_still c (test c)) ∙ ap (λ (xs : List (CallThere K V)). c ∷ xs) (calls_still calls)

module _ {K V : Type 0} (log : List (Entry K V)) where
  abbrev after_of : Event K V → Outcome V → ℕ → List Effect → Moment K V
  after_of its outcome steps effects = after (record { event = its; outcome = outcome; steps = steps; effects = effects }) (moment log)

  -- calls by which none makes a step are as they were
  busy_like : (its : Event K V) (own : List ℕ) → (map (kept_as (λ (c : CallThere K V). is_same c.caller own)) (moment log).calls ≡ (moment log).calls → IsLike (moment log) (after_of its (Refused Busy) 0 []))
      → (outcome : Outcome V) (steps : ℕ) → outcome ≡ Refused Busy → steps ≡ 0 → IsLike (moment log) (after_of its outcome steps [])
  busy_like its own like outcome steps busy none =
      subst (λ (o : Outcome V). IsLike (moment log) (after_of its o steps [])) (sym busy)
      (subst (λ (n : ℕ). IsLike (moment log) (after_of its (Refused Busy) n [])) (sym none) (like (calls_still (λ (c : CallThere K V). is_same c.caller own) (moment log).calls)))

  abbrev with_calls : Moment K V → List (CallThere K V) → Moment K V
  with_calls m calls = record m { calls = calls }

  none_like : (its : Event K V) (outcome : Outcome V) (steps : ℕ) → LeavesAll its outcome steps → IsLike (moment log) (after_of its outcome steps [])
  none_like (event.MakeMap own mode capacity) Done steps leaves = absurd leaves
  none_like (event.MakeMap own mode capacity) _ steps leaves = refl
  none_like (event.EndMap own) Done steps leaves = absurd leaves
  none_like (event.EndMap own) _ steps leaves = refl
  none_like (event.Begin caller guard on call) Goes steps leaves = absurd leaves
  none_like (event.Begin caller guard on call) _ steps leaves = refl
  none_like (event.Replied caller reply) Goes steps leaves = absurd leaves
  none_like (event.Replied caller reply) _ steps leaves = refl
  none_like (event.Stop caller) Done steps leaves = absurd leaves
  none_like (event.Stop caller) _ steps leaves = refl
  none_like (event.OneCall guard on call) outcome steps leaves =
      busy_like (event.OneCall guard on call) nameless (λ still. ap (with_calls (after_of (event.OneCall guard on call) (Refused Busy) 0 [])) still) outcome steps leaves.0 leaves.1
  none_like (event.Step caller refuse) outcome steps leaves =
      busy_like (event.Step caller refuse) caller (λ still. ap (with_calls (after_of (event.Step caller refuse) (Refused Busy) 0 [])) still) outcome steps leaves.0 leaves.1
  none_like (event.Go caller refuse) outcome steps leaves =
      busy_like (event.Go caller refuse) caller (λ still. ap (with_calls (after_of (event.Go caller refuse) (Refused Busy) 0 [])) still) outcome steps leaves.0 leaves.1
  none_like (event.Next caller) outcome steps leaves =
      busy_like (event.Next caller) caller (λ still. ap (with_calls (after_of (event.Next caller) (Refused Busy) 0 [])) still) outcome steps leaves.0 leaves.1
  none_like _ outcome steps leaves = refl

  like_so : (its : Event K V) (outcome : Outcome V) (steps : ℕ) (effects : List Effect) → effects ≡ [] → LeavesAll its outcome steps → IsLike (moment log) (after_of its outcome steps effects)
  like_so its outcome steps effects nothing leaves =
      subst (λ (fs : List Effect). IsLike (moment log) (after_of its outcome steps fs)) (sym nothing) (none_like its outcome steps leaves)

pub idle_events_end : (K V : Type 0) (same : K → K → Bool) → IdleEventsEnd K V same
idle_events_end K V same name terms log known s run e right life nothing unchanged none_left reclaims leaves sections =
    quiet_events_end K V same name terms log known s s run e right life nothing unchanged none_left reclaims (moment log) run.calls run.reading
    (like_so log e.event e.outcome e.steps e.effects nothing leaves) refl sections
