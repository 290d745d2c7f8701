-- A call that asks, or is ready, says so again: nothing has changed that is seen of it.
use Rattle.std.specs.Prelude.{◌≡◌, ◌+◌, ℕ, Bool, true, false, not, List, filter, find, map, slice_set, Option, Some, if◌then◌else◌}
use Rattle.std.proofs.Common.{refl, sym, ap, subst, ◌∙◌}
use Rattle.run_schedules.specs.Runs.Same.{is_same}
use Rattle.run_schedules.specs.declared.call.Call.{Call}
use Rattle.run_schedules.specs.declared.call.Call.TheVariants.{On}
use Rattle.run_schedules.specs.declared.outcome.Outcome.{Outcome}
use Rattle.run_schedules.specs.declared.outcome.Outcome.TheVariants.{Asks, Ready}
use Rattle.run_schedules.specs.Schedules.After.{asks_on, with_outcome}
use Rattle.run_schedules.specs.Schedules.Entry.{ends_call}
use Rattle.run_schedules.specs.Schedules.Moment.{Asking, IsReady, CallState, UnderWay as CallThere, Moment}
use Rattle.run_schedules.specs.Schedules.Terms.{Terms}
use Rattle.run_schedules.specs.Schedules.Views.{call_of}
use Rattle.owner_whole.specs.Given.CallersTogether.{UnderWay, OnKey}
use Rattle.owner_whole.specs.Given.FinishesMaps.{Standing}
use Rattle.run_executor.specs.Given.EffectsKnown.{known}
use Rattle.play_scheduler.specs.Given.FollowsCalling.{come_to}
use Rattle.play_scheduler.specs.Given.FollowsCalls.{IsCalled}
use Rattle.play_scheduler.proofs.Given.FollowsCalling.{is_same_is}
use Rattle.run_executor.specs.Given.HandsAsked.{AsksThere, IsAskedAs}
use Rattle.run_executor.specs.Given.HandsCalling.{AsksJust}
use Rattle.run_executor.proofs.Given.MomentsCalls.{calls_come_to_whole}
use Rattle.play_scheduler.proofs.Given.KeptStays.{calls_come_to_kept}
use Rattle.play_scheduler.proofs.Given.LoggedCounted.{counted_calls}
use Rattle.play_scheduler.specs.Played.{RefinesFor}
use Rattle.run_executor.specs.Named.Seen.{Seen, far_of, is_named, seen, seen_of}
use Rattle.run_executor.specs.declared.caller.NamedCaller.{NamedCaller}
use Rattle.run_executor.specs.declared.caller.Stands.{Stands as HowFar}
use Rattle.run_executor.specs.declared.caller.Stands.TheVariants as far
use Rattle.play_scheduler.specs.declared.scheduler.Scheduler.{Scheduler}
use Rattle.play_scheduler.proofs.Here.{Here}
use Rattle.play_scheduler.proofs.Given.RowsLists.{changed_at, set_seen}
use Rattle.play_scheduler.proofs.Replied.{far_asks}
use Rattle.play_scheduler.proofs.Given.ScenesMay.{standing_is}
use Rattle.play_scheduler.specs.Given.ScenesScene.{Scene}
use Rattle.run_executor.specs.Executing.IsThere.{held_by}
use Rattle.seize_words.proofs.General.{same_some as the}

pub far_ready : (stand : CallState) → far_of stand ≡ far.Ready → stand ≡ IsReady
far_ready IsReady e = refl
far_ready (Asking question) e = absurd (cc e)
far_ready _ e = absurd (cc e)

module _ {K V S : Type 0} (same : K → K → Bool) (hash : K → ℕ) (terms : Terms) (m : Moment K V) (p : Scheduler K V S) (stands : RefinesFor same hash terms m p) (own : List ℕ) (place : ℕ)
    (here : Here same hash terms m p stands own place) (outcome : Outcome V) (goes_on : ends_call outcome ≡ false) (counted : ℕ) where
  abbrev s : Scene K V
  s = stands.scene

  abbrev d : NamedCaller V
  d = here.caller

  abbrev calls : List (NamedCaller V)
  calls = p.calls

  abbrev change : CallThere K V → CallThere K V
  change x = with_outcome outcome (record x { steps = x.steps + counted })

  -- of calls of its name nothing else is seen
  module _ (just : (n j : ℕ) (x : UnderWay K V K) → s.calls n j ≡ Some x → is_same (stands.name j) own ≡ true → AsksJust (known p.logged.notes) x outcome)
      (alike : (x : CallThere K V) → seen x ≡ seen_of d → seen (change x) ≡ seen_of d) where
    listed_again : map seen (come_to own outcome counted m).calls ≡ map seen_of calls
    listed_again =
        ap (λ (b : Bool). map seen (if b then filter (λ x. not (is_same x.caller own)) m.calls else map (λ x. if is_same x.caller own then change x else x) m.calls)) goes_on
        ∙ changed_at seen seen_of (λ (z : Seen). is_same z.name own) change d m.calls calls stands.calls.listed (stands.calls.once own) here.any so
        ∙ ap (λ (k : ℕ). map seen_of (slice_set calls k d)) (sym here.first) ∙ set_seen seen_of calls place d d here.at refl
      where
        so : (x : CallThere K V) (y : NamedCaller V) → find (is_named own) calls ≡ Some y → seen x ≡ seen_of y → seen (change x) ≡ seen_of d
        so x y found it = alike x (it ∙ ap seen_of (the y d (sym found ∙ here.found)))

    pub stands_again : RefinesFor same hash terms (come_to own outcome counted m) p
    stands_again = record {
      name = stands.name;
      scene = s;
      shown = record {
        is_at = stands.shown.is_at;
        shows = calls_come_to_whole K V same stands.name m (known p.logged.notes) s stands.shown.shows own outcome counted (λ e. absurd (let a = goes_on in cc (a, e))) just;
        kept = calls_come_to_kept K V same stands.name m (known p.logged.notes) s stands.shown.shows stands.shown.kept own outcome counted (λ e. absurd (let a = goes_on in cc (a, e)));
        counted = counted_calls p.logged m (come_to own outcome counted m) s stands.shown.counted refl refl refl;
      };
      given = stands.given;
      there = stands.there;
      mapped = stands.mapped;
      closed = stands.closed;
      calls = let c = stands.calls in record { listed = listed_again; once = c.once; each = c.each; only = c.only };
      maps = record { listed = stands.maps.listed; stand = stands.maps.stand };
      slots = stands.slots;
      rests = stands.rests;
      names = stands.names;
    }

module _ {K V S : Type 0} (same : K → K → Bool) (hash : K → ℕ) (terms : Terms) (m : Moment K V) (p : Scheduler K V S) (stands : RefinesFor same hash terms m p) (own : List ℕ) (place : ℕ)
    (here : Here same hash terms m p stands own place) (counted : ℕ) where
  -- one that asks
  pub asks_again : (question : Option ℕ) → here.caller.stands ≡ far.Asks question → RefinesFor same hash terms (come_to own (Asks question) counted m) p
  asks_again question is = stands_again same hash terms m p stands own place here (Asks question) refl counted just alike
    where
      alike : (x : CallThere K V) → seen x ≡ seen_of here.caller → seen (with_outcome (Asks question) (record x { steps = x.steps + counted })) ≡ seen_of here.caller
      alike x it = by x.stands (far_asks x.stands question (ap (λ (z : Seen). z.far) it ∙ is))
        where
          by : (stand : CallState) → stand ≡ Asking question → seen (asks_on question (record x { steps = x.steps + counted }) stand) ≡ seen_of here.caller
          by stand e = subst (λ (y : CallState). seen (asks_on question (record x { steps = x.steps + counted }) y) ≡ seen_of here.caller) (sym e) it

      -- a call on one key stands there
      just : (n j : ℕ) (x : UnderWay K V K) → stands.scene.calls n j ≡ Some x → is_same (stands.name j) own ≡ true → AsksJust (known p.logged.notes) x (Asks question)
      just n j (OnKey x) here_x named_so = of called.0.call refl
        where
          called : (there : CallThere K V) × (call_of (stands.name j) m ≡ Some there) × (there.map ≡ n) × IsCalled same (OnKey x) there.call
          called = stands.shown.shows.all.shown.calls n j (OnKey x) here_x

          its_call : called.0 ≡ here.call
          its_call = the called.0 here.call (sym called.1 ∙ ap (λ (l : List ℕ). call_of l m) (is_same_is (stands.name j) own named_so) ∙ here.call_is)

          asking : called.0.stands ≡ Asking question
          asking = ap (λ (z : CallThere K V). z.stands) its_call ∙ far_asks here.call.stands question (ap (λ (z : Seen). z.far) here.as_seen ∙ is)

          st : (standing : Standing K) × (stands.scene.maps n ≡ Some standing)
          st = standing_is same (λ map. hash) (held_by p.logged.executor) stands.scene stands.shown.is_at.held n j (OnKey x) here_x

          as_called : IsAskedAs (stands.shown.shows.all.shown.number n) st.0.chart.stored (known p.logged.notes) x called.0.call called.0
          as_called = stands.shown.shows.all.asked.each n j (OnKey x) here_x st.0 st.1 called.0 called.1

          of : (y : Call K V) → called.0.call ≡ y → AsksThere (known p.logged.notes) x.call.stands question
          of (On one) it = (subst (λ (z : Call K V). IsAskedAs (stands.shown.shows.all.shown.number n) st.0.chart.stored (known p.logged.notes) x z called.0) it as_called).asks question asking
          of _ it = absurd (subst (λ (z : Call K V). IsCalled same (OnKey x) z) it called.3)
      just n j _ here_x named_so = tt

  -- and one that is ready
  pub ready_again : here.caller.stands ≡ far.Ready → RefinesFor same hash terms (come_to own Ready counted m) p
  ready_again is = stands_again same hash terms m p stands own place here Ready refl counted just
      (λ x it. ap (λ (h : HowFar). record (seen x) { far = h }) (sym is ∙ ap (λ (z : Seen). z.far) (sym it)) ∙ it)
    where
      just : (n j : ℕ) (x : UnderWay K V K) → stands.scene.calls n j ≡ Some x → is_same (stands.name j) own ≡ true → AsksJust (known p.logged.notes) x Ready
      just n j (OnKey x) here_x named_so = tt
      just n j _ here_x named_so = tt
