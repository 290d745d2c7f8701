-- All stays in order where a call begins, takes a reply, is given up, or comes to an outcome.
use Rattle.std.specs.Prelude.{◌≡◌, ◌==◌, ℕ, true, false, List, [], Some, None, if◌then◌else◌}
use Rattle.std.specs.List.{AllByRecursion, list_any}
use Rattle.std.proofs.Common.{arith}
use Rattle.run_schedules.specs.Runs.Same.{is_same}
use Rattle.run_schedules.specs.declared.call.Call.{Call}
use Rattle.run_schedules.specs.declared.call.Reply.{Reply}
use Rattle.run_schedules.specs.declared.event.Event.{Event}
use Rattle.run_schedules.specs.declared.event.Event.TheVariants as event
use Rattle.run_schedules.specs.declared.outcome.Outcome.{Outcome}
use Rattle.run_schedules.specs.declared.outcome.Outcome.TheVariants as outcome
use Rattle.run_schedules.specs.Schedules.After.{after, stepped, without_call}
use Rattle.run_schedules.specs.Schedules.Beginning.{with_call}
use Rattle.run_schedules.specs.Schedules.Entry.{Entry, ends_call}
use Rattle.run_schedules.specs.Schedules.Moment.{MapThere, Moment, TableThere, UnderWay as CallThere}
use Rattle.run_schedules.specs.Schedules.Reclaims.{is_kept}
use Rattle.play_linear.specs.Given.FindsEvents.{EndedHasNoObligation}
use Rattle.play_linear.specs.Given.FindsTables.{TablesAreInOrder}
use Rattle.run_legal.specs.Given.FindsWaiting.{PairsArePlaced}
use Rattle.run_legal.specs.Given.FindsWithin.{AllIsInOrder, HasItsMap}
use Rattle.play_linear.proofs.Given.FindsEvents.{beginnings_keep_placed, beginnings_keep_tables, events_keep_placed, events_keep_tables}
use Rattle.run_legal.proofs.Given.FindsLists.{all_so}
use Rattle.run_legal.proofs.Given.FindsOver.{over_have}
use Rattle.play_linear.proofs.Given.FindsTables.{each_same}

module _ {K V : Type 0} (m : Moment K V) (order : AllIsInOrder m) where
  -- where a call begins by a name that none has, on a map that is there
  pub begins_in_order : (own guard : List ℕ) (call : Call K V) (map : ℕ) → list_any (λ d. is_same d.caller own) m.calls ≡ false → list_any (λ (f : MapThere). f.number == map) m.maps ≡ true
      → AllIsInOrder (with_call own guard call (Some map) m)
  begins_in_order own guard call map none there = record {
    waits = record {
      placed = (beginnings_keep_placed K V m order.waits.placed).0 own guard call map none;
      tables = (beginnings_keep_tables K V m order.waits.tables).0 own guard call map;
      found = order.waits.found;
    };
    named = order.named;
    somewhere = record { born = order.somewhere.born; there = order.somewhere.there };
    within = record {
      tables = order.within.tables;
      apart = order.within.apart;
      roots = order.within.roots;
      made = order.within.made;
      spots = order.within.spots;
      maps = order.within.maps;
      calls = (
        record { there = there; table = λ t e. absurd (cc e); owes = λ n k e. absurd (omega (arith, e)) },
        all_so (HasItsMap m) (HasItsMap (with_call own guard call (Some map) m)) (λ c its. record { there = its.there; table = its.table; owes = its.owes }) m.calls order.within.calls,
      );
      behind = order.within.behind;
    };
  }

  abbrev pub with_calls : List (CallThere K V) → Moment K V
  with_calls calls = record m { calls = calls }

  -- where calls are others, each of which has its map, and they owe the same
  calls_in_order : (calls : List (CallThere K V)) → PairsArePlaced (with_calls calls) → TablesAreInOrder (with_calls calls) → AllByRecursion (HasItsMap m) calls → AllIsInOrder (with_calls calls)
  calls_in_order calls placed tables have = record {
    waits = record { placed = placed; tables = tables; found = order.waits.found };
    named = order.named;
    somewhere = record { born = order.somewhere.born; there = order.somewhere.there };
    within = record {
      tables = order.within.tables;
      apart = order.within.apart;
      roots = order.within.roots;
      made = order.within.made;
      spots = order.within.spots;
      maps = order.within.maps;
      calls = all_so (HasItsMap m) (HasItsMap (with_calls calls)) (λ c its. record { there = its.there; table = its.table; owes = its.owes }) calls have;
      behind = order.within.behind;
    };
  }

  abbrev by_event : Event K V → Outcome V → Entry K V
  by_event its o = record { event = its; outcome = o; steps = 1; effects = [] }

  -- maps go on as they were
  kept_on : (v : Moment K V) → ((u : TableThere) → is_kept m u ≡ true → is_kept v u ≡ true) → AllByRecursion (λ u. is_kept m u ≡ true → is_kept v u ≡ true) m.tables
  kept_on v so = each_same (λ u. is_kept m u ≡ true → is_kept v u ≡ true) so m.tables

  -- as a call comes to an outcome after a step: one that has ended owes nothing
  pub stepped_in_order : (own : List ℕ) (o : Outcome V) → EndedHasNoObligation (if ends_call o then Some own else None) m.calls → AllIsInOrder (with_calls (stepped (Some own) o 1 m.calls))
  stepped_in_order own o owes =
      let e = by_event (event.Next own) o in
      let placed = events_keep_placed K V e m order.waits.placed owes in
      let tables = events_keep_tables K V e m order.waits.tables (kept_on (after e m) (λ u is. is)) owes in
      calls_in_order (stepped (Some own) o 1 m.calls) (record { owed = placed.owed; put = placed.put; back = placed.back; stored = placed.stored; apart = placed.apart })
      (record { passed = tables.passed; behind = tables.behind }) (over_have m (event.Next own) o 1 m.calls order.within.calls)

  -- as it takes a reply
  pub told_in_order : (own : List ℕ) (reply : Reply V)
      → (let calls = (after (record { event = event.Replied own reply; outcome = outcome.Goes; steps = 1; effects = [] }) m).calls in AllIsInOrder (with_calls calls))
  told_in_order own reply =
      let e = by_event (event.Replied own reply) outcome.Goes in
      let placed = events_keep_placed K V e m order.waits.placed tt in
      let tables = events_keep_tables K V e m order.waits.tables (kept_on (after e m) (λ u is. is)) tt in
      calls_in_order (after e m).calls (record { owed = placed.owed; put = placed.put; back = placed.back; stored = placed.stored; apart = placed.apart })
      (record { passed = tables.passed; behind = tables.behind }) (over_have m (event.Replied own reply) outcome.Goes 1 m.calls order.within.calls)

  -- as it is given up: it owes nothing
  pub stopped_in_order : (own : List ℕ) → EndedHasNoObligation (Some own) m.calls → AllIsInOrder (with_calls (without_call own m.calls))
  stopped_in_order own owes =
      let e = by_event (event.Stop own) outcome.Done in
      let placed = events_keep_placed K V e m order.waits.placed owes in
      let tables = events_keep_tables K V e m order.waits.tables (kept_on (after e m) (λ u is. is)) owes in
      calls_in_order (without_call own m.calls) (record { owed = placed.owed; put = placed.put; back = placed.back; stored = placed.stored; apart = placed.apart })
      (record { passed = tables.passed; behind = tables.behind }) (over_have m (event.Stop own) outcome.Done 1 m.calls order.within.calls)
