-- After an event the scheduler is again as events ask of it.
use Rattle.std.specs.Prelude.{◌≡◌, ◌≤◌, ◌<◌, ◌^◌, ℕ, Bool, true, false, List, ◌∷◌, length, find, Option, Some, None, option_map, Result, Ok, Err, IfOk, if◌then◌else◌}
use Rattle.std.specs.List.{All}
use Rattle.std.proofs.Common.{refl, ap, sym, subst, ◌∙◌, arith}
use Rattle.play_events.specs.Given.CallersTogether.{UnderWay}
use Rattle.play_events.specs.Given.FinishesMaps.{Standing}
use Rattle.play_events.specs.Given.MomentsNumbers.{NumbersMaps, PairsAreBelow}
use Rattle.play_events.proofs.Given.MomentsNewMaps.{effects_keep_pairs}
use Rattle.play_events.proofs.Given.MomentsNumbers.{found_of, maps_come_by_number}
use Rattle.map_tables.specs.declared.resize_mode.ResizeMode.{ResizeMode}
use Rattle.run_schedules.specs.Runs.Same.{is_same}
use Rattle.run_schedules.specs.declared.call.Call.{Call}
use Rattle.run_schedules.specs.declared.event.Event.{Event}
use Rattle.run_schedules.specs.declared.event.Event.TheVariants.{Collector, Hash, Choose, Register, Unregister, Enter, Own, Refresh, Flush, DropGuard, Forget, ReclaimAll, Close, MakeMap, EndMap, ShowShape, Begin, Step, Go, Replied, OneCall, Next, Stop}
use Rattle.run_schedules.specs.declared.outcome.Outcome.{Outcome}
use Rattle.run_schedules.specs.declared.outcome.Outcome.TheVariants.{Done, Goes}
use Rattle.run_schedules.specs.Schedules.After.{moment}
use Rattle.run_schedules.specs.Schedules.Beginning.{at_work, begun, fresh_call, used_roots, with_call}
use Rattle.run_schedules.specs.Schedules.Entry.{Entry, acted_on, caller_of, is_busy, nameless}
use Rattle.run_schedules.specs.Schedules.Effects.{worked}
use Rattle.run_schedules.specs.Schedules.Lists.{least_free}
use Rattle.run_schedules.specs.Schedules.Moment.{MapThere, Moment, Place, TableThere}
use Rattle.run_schedules.specs.Schedules.Terms.{Terms}
use Rattle.run_schedules.specs.Schedules.Views.{call_of, map_of, number_of}
use Rattle.play_events.proofs.Given.RemainsNumbered.{made_stays}
use Rattle.play_events.proofs.Given.ShedsHeld.{maps_below}
use Rattle.play_events.proofs.Given.RowsLists.{found_has}
use Rattle.play_events.specs.Given.SchedulerMapping.{CountsMaps}
use Rattle.play_events.specs.Given.SchedulerPlayed.{IsPlayed, IsUnderWay, Plays, entry_of, terms_given}
use Rattle.play_events.specs.Given.NamedSeen.{is_named}
use Rattle.play_events.specs.Given.ExecutorDeclared.caller.NamedCaller.{NamedCaller}
use Rattle.play_events.specs.Given.SchedulerDeclared.played.Played.{Played}
use Rattle.play_events.specs.Given.SchedulerDeclared.scheduler.Scheduler.{Scheduler}
use Rattle.play_events.proofs.Given.SchedulerRanOn.{maps_named}
use Rattle.play_events.specs.Events.Asked.{FindsRight, HappensAt, Holds, HoldsThen, numbers_on}
use Rattle.papaya_steps.proofs.WholeRuns.Counts.{NamesApart, begun_apart, gone_apart, made_begun, named_apart}
use Rattle.papaya_steps.proofs.WholeRuns.Logs.{begun_same, called_so}
use Rattle.play_events.proofs.Events.Remaining.{gives_all, rested}
use Rattle.play_events.specs.Given.ExecutorIsThere.{StaysGiven}
use Rattle.play_events.specs.Given.ScenesScene.{Scene}

module _ {K V S : Type 0} (same : K → K → Bool) (hash : K → ℕ) (terms : Terms) (log : List (Entry K V)) (p : Scheduler K V S) (holds : Holds same hash terms (moment log) p) where
  abbrev m : Moment K V
  m = moment log

  abbrev s : Scene K V
  s = holds.stands.scene

  -- the map of a call that is under way has a number
  call_below : (n i : ℕ) (u : UnderWay K V K) → s.calls n i ≡ Some u → n < m.made
  call_below n i u here = by (s.maps n) refl
    where
      by : (o : Option (Standing K)) → s.maps n ≡ o → n < m.made
      by None none = absurd (let no = holds.stands.shown.is_at.held.together.makings.standing.only n i none in cc (no, here))
      by (Some st) there = subst (λ (k : ℕ). n < k) holds.counts.next ((maps_below same hash p.logged.executor s holds.stands.shown.is_at).standing n st there)

  called_below : (own : List ℕ) (n : ℕ) → option_map (λ c. c.map) (call_of own m) ≡ Some n → n < m.made
  called_below own n is = by (find (is_named own) p.calls) refl (sym (called_so same hash terms m p holds.stands holds.counts.next own) ∙ is)
    where
      by : (o : Option (NamedCaller V)) → find (is_named own) p.calls ≡ o → option_map (λ (d : NamedCaller V). d.map) o ≡ Some n → n < m.made
      by None found e = absurd (cc e)
      by (Some d) found e =
          let way = found_has (IsUnderWay holds.stands.name s p.there) (is_named own) p.calls d found holds.stands.calls.each in
          let one : d.map ≡ n = cc e in
          subst (λ (k : ℕ). k < m.made) one (call_below d.map d.number way.0 way.1)

  -- and so has a map that is found by its name
  named_below : (v : Moment K V) → NumbersMaps v → (own : List ℕ) (n : ℕ) → number_of own v ≡ Some n → n < v.made
  named_below v numbers own n is = by (map_of own v) refl is
    where
      by : (o : Option MapThere) → map_of own v ≡ o → option_map (λ (f : MapThere). f.number) o ≡ Some n → n < v.made
      by None found e = absurd (cc e)
      by (Some f) found e =
          let it = found_of (λ (f : MapThere). f.number < v.made) (λ (f : MapThere). is_same f.name own) v.maps f numbers.below found in
          let one : f.number ≡ n = cc e in
          subst (λ (k : ℕ). k < v.made) one it.1

  -- a whole call acts on the map on which it begins
  whole_below : (g own : List ℕ) (call : Call K V) (b : Bool) (number : Option ℕ) → number_of own m ≡ number → (n : ℕ)
      → option_map (λ c. c.map) (call_of nameless (if b then m else with_call nameless g call number m)) ≡ Some n → n < (if b then m else with_call nameless g call number m).made
  whole_below g own call true number is n acted = called_below nameless n acted
  whole_below g own call false None is n acted = called_below nameless n acted
  whole_below g own call false (Some k) is n acted =
      let below = named_below m holds.counts.apart.numbers own k is in
      by (is_same nameless nameless) below acted
    where
      by : (q : Bool) → k < m.made → option_map (λ c. c.map) (if q then Some (fresh_call {K = K} {V = V} nameless g call k m.events) else find (λ c. is_same c.caller nameless) m.calls) ≡ Some n → n < m.made
      by true below e = let one : k ≡ n = cc e in subst (λ (x : ℕ). x < m.made) one below
      by false below e = called_below nameless n e

  -- the map that is made
  abbrev made_now : List ℕ → ResizeMode → ℕ → MapThere
  made_now own mode capacity = record { name = own; number = m.made; root = least_free (used_roots m); mode = mode; capacity = capacity; first = 0 }

  acted_below : (event : Event K V) (o : Outcome V) (n : ℕ) → acted_on event (begun event o m) ≡ Some n → n < (begun event o m).made
  acted_below (Step c refuse) o n is = called_below c n is
  acted_below (Go c refuse) o n is = called_below c n is
  acted_below (Next c) o n is = called_below c n is
  acted_below (OneCall g own call) o n is = whole_below g own call (is_busy o) (number_of own m) refl n is
  acted_below (MakeMap own mode c) Done n is = named_below (begun (MakeMap own mode c) Done m) (maps_come_by_number K V m holds.counts.apart.numbers (made_now own mode c) refl).0 own n is
  acted_below (MakeMap own mode c) o n is = named_below m holds.counts.apart.numbers own n is
  acted_below (EndMap own) o n is = named_below m holds.counts.apart.numbers own n is
  acted_below (Collector setup) o n is = absurd (cc is)
  acted_below (Hash by) o n is = absurd (cc is)
  acted_below (Choose choice) o n is = absurd (cc is)
  acted_below (Register r) o n is = absurd (cc is)
  acted_below (Unregister r) o n is = absurd (cc is)
  acted_below (Enter g r) o n is = absurd (cc is)
  acted_below (Own g) o n is = absurd (cc is)
  acted_below (Refresh g) o n is = absurd (cc is)
  acted_below (Flush g) o n is = absurd (cc is)
  acted_below (DropGuard g) o n is = absurd (cc is)
  acted_below (Forget g) o n is = absurd (cc is)
  acted_below ReclaimAll o n is = absurd (cc is)
  acted_below Close o n is = absurd (cc is)
  acted_below (ShowShape own) o n is = absurd (cc is)
  acted_below (Begin c g own call) Goes n is = absurd (cc is)
  acted_below (Begin c g own call) o n is = absurd (cc is)
  acted_below (Replied c reply) o n is = absurd (cc is)
  acted_below (Stop c) o n is = absurd (cc is)

  module _ (e : Entry K V) (new : Scheduler K V S) (played : IsPlayed same hash terms (e ∷ log) new) (right : FindsRight terms log e → Plays same hash terms log e new)
      (given : StaysGiven p.logged.executor new.logged.executor) (count : length new.logged.executor.maps.items ≡ numbers_on e.event e.outcome (length p.logged.executor.maps.items)) where
    abbrev b : Moment K V
    b = at_work e m

    abbrev w : Moment K V
    w = moment (e ∷ log)

    next_then : length new.logged.executor.maps.items ≡ w.made
    next_then =
        count ∙ ap (numbers_on e.event e.outcome) holds.counts.next ∙ sym (made_begun e.event e.outcome m) ∙ sym (made_stays (caller_of e.event) (acted_on e.event b) e.effects b)

    numbers_then : NumbersMaps w
    numbers_then =
        let n = played.shown.counted.numbered.numbers in
        record {
          found = n.found;
          below = subst (λ (k : ℕ). All (λ (f : MapThere). f.number < k) w.maps) next_then n.below;
          tables = subst (λ (k : ℕ). All (λ (t : TableThere). t.table.map < k) w.tables) next_then n.tables;
        }

    -- a pair that is in a map is in one that has a number
    no_fewer : (event : Event K V) (o : Outcome V) → m.made ≤ (begun event o m).made
    no_fewer (MakeMap own mode c) Done = omega arith
    no_fewer (MakeMap own mode c) o = omega arith
    no_fewer (Begin c g own call) Goes = called (number_of own m)
      where
        called : (number : Option ℕ) → m.made ≤ (with_call c g call number m).made
        called None = omega arith
        called (Some k) = omega arith
    no_fewer (Begin c g own call) o = omega arith
    no_fewer (OneCall g own call) o = by (is_busy o) (number_of own m)
      where
        by : (q : Bool) (number : Option ℕ) → m.made ≤ (if q then m else with_call nameless g call number m).made
        by true number = omega arith
        by false None = omega arith
        by false (Some k) = omega arith
    no_fewer (Collector setup) o = omega arith
    no_fewer (Hash by) o = omega arith
    no_fewer (Choose choice) o = omega arith
    no_fewer (Register r) o = omega arith
    no_fewer (Unregister r) o = omega arith
    no_fewer (Enter g r) o = omega arith
    no_fewer (Own g) o = omega arith
    no_fewer (Refresh g) o = omega arith
    no_fewer (Flush g) o = omega arith
    no_fewer (DropGuard g) o = omega arith
    no_fewer (Forget g) o = omega arith
    no_fewer ReclaimAll o = omega arith
    no_fewer Close o = omega arith
    no_fewer (EndMap own) o = omega arith
    no_fewer (ShowShape own) o = omega arith
    no_fewer (Step c refuse) o = omega arith
    no_fewer (Go c refuse) o = omega arith
    no_fewer (Replied c reply) o = omega arith
    no_fewer (Next c) o = omega arith
    no_fewer (Stop c) o = omega arith

    begun_pairs : PairsAreBelow b
    begun_pairs n map is =
        let l = holds.counts.pairs n map (sym (ap (λ (f : ℕ → Place). f n) (begun_same e.event e.outcome m).0) ∙ is) in
        let more = no_fewer e.event e.outcome in
        omega (arith, l, more)

    pairs_then : PairsAreBelow w
    pairs_then = effects_keep_pairs K V b begun_pairs (caller_of e.event) (acted_on e.event b) e.effects (acted_below e.event e.outcome)

    names_then : NamesApart w.maps
    names_then =
        gone_apart e.event e.outcome (worked e m).maps
        (named_apart b.maps (worked e m).maps (maps_named (caller_of e.event) (acted_on e.event b) e.effects b)
        (begun_apart terms log e holds.counts.apart.names e.event e.outcome (λ finds. (right finds).right)))

    same_terms : terms_given p.setup ≡ terms_given new.setup
    same_terms = holds.stands.given ∙ sym played.given

    counts_then : CountsMaps w new
    counts_then = record {
      apart = record { numbers = numbers_then; names = names_then };
      pairs = pairs_then;
      next = next_then;
      taken = (rested same hash terms w new played numbers_then.found).0;
      once = played.shown.counted.remains.once;
      below = played.shown.counted.remains.below;
      roots = given.2 ∙ holds.counts.roots ∙ ap (λ (t : Terms). t.roots) same_terms;
      processors = subst (λ (n : ℕ). n ≤ 2 ^ 63) (ap (λ (t : Terms). t.processors) same_terms) holds.counts.processors;
    }

    pub holds_then : Holds same hash terms w new
    holds_then = record { stands = played; lawful = holds.lawful; counts = counts_then; gives = gives_all same hash terms w new played numbers_then.found }

-- So it is of what an event comes to.
module _ {K V S : Type 0} (same : K → K → Bool) (hash : K → ℕ) (event : Event K V) (is_first : Bool) (old new : Scheduler K V S) (given : StaysGiven old.logged.executor new.logged.executor) where
  pub holds_so : (played : Played V) → HappensAt same hash is_first event played old new
      → length new.logged.executor.maps.items ≡ numbers_on event played.outcome (length old.logged.executor.maps.items) → HoldsThen same hash is_first event played old new
  holds_so played happens count = λ terms log first holds.
      let it = happens terms log first holds in
      holds_then same hash terms log old holds (entry_of event played) new it.played it.plays given count

  pub holds_if : {X : Type 0} (result : Result (Played V) X) → IfOk result (λ played. HappensAt same hash is_first event played old new)
      → IfOk result (λ played. length new.logged.executor.maps.items ≡ numbers_on event played.outcome (length old.logged.executor.maps.items))
      → IfOk result (λ played. HoldsThen same hash is_first event played old new)
  holds_if (Ok played) happens count = holds_so played happens count
  holds_if (Err x) happens count = tt
