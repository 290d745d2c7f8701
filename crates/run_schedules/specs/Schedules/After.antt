-- The moment after an event, by the one before it, by what the event did, and by what it came to.
use Rattle.std.specs.Prelude.{ℕ, ◌+◌, ◌==◌, nat_lt, max, Bool, true, false, not, ◌&&◌, ◌||◌, List, [], ◌∷◌, length, filter, map, flat_map, Option, Some, None, if◌then◌else◌}
use Rattle.std.specs.List.{list_all}
use Rattle.run_schedules.specs.Runs.Present.{Present, nobody, registers, unregisters, enters, enters_slot, drops, forgets}
use Rattle.run_schedules.specs.Runs.Same.{is_same}
use Rattle.run_schedules.specs.declared.call.Reply.{Reply}
use Rattle.run_schedules.specs.declared.event.Event.{Event}
use Rattle.run_schedules.specs.declared.event.Event.TheVariants.{Register, Unregister, Enter, Own, Refresh, DropGuard, Forget, ReclaimAll, Close, MakeMap, EndMap, Replied, Stop}
use Rattle.run_schedules.specs.declared.outcome.Outcome.{Outcome}
use Rattle.run_schedules.specs.declared.outcome.Outcome.TheVariants.{Done, Slot, Goes, Asks, Waits, Ready, Shows}
use Rattle.run_schedules.specs.declared.effect.Effect.{Effect}
use Rattle.run_schedules.specs.declared.effect.Effect.TheVariants.{Taken}
use Rattle.run_schedules.specs.declared.effect.TableId.{TableId}
use Rattle.run_schedules.specs.Schedules.Moment.{CallState, Going, Asking, Told, IsReady, UnderWay, MapThere, Remains, Sheltered, Moment, start}
use Rattle.run_schedules.specs.Schedules.Views.{map_of, behind}
use Rattle.run_schedules.specs.Schedules.Entry.{Entry, is_busy, ends_call, caller_of, speaker}
use Rattle.run_schedules.specs.Schedules.Effects.{worked}

-- who is there

module _ {K V : Type 0} where
  abbrev pub there_on : Event K V → Outcome V → Present → Present
  there_on (Register registration) (Slot s) there = registers registration s there
  there_on (Unregister registration) Done there = unregisters registration there
  there_on (Enter guard registration) Done there = enters guard registration there
  there_on (Own guard) (Slot s) there = enters_slot guard s there
  there_on (DropGuard guard) Done there = drops guard there
  there_on (Forget guard) Done there = forgets guard there
  there_on ReclaimAll Done there = nobody
  there_on Close Done there = nobody
  there_on _ _ there = there

-- how many slots were ever taken
abbrev pub slots_on : {V : Type 0} → Outcome V → ℕ → ℕ
slots_on (Slot s) slots = max slots (s + 1)
slots_on _ slots = slots

-- a critical section ends with its guard, and begins anew by a refresh
abbrev pub unsheltered : List ℕ → List Sheltered → List Sheltered
unsheltered guard sheltered = filter (λ s. not (is_same s.guard guard)) sheltered

module _ {K V : Type 0} where
  abbrev pub sheltered_on : Event K V → Outcome V → List Sheltered → List Sheltered
  sheltered_on (Refresh guard) Done sheltered = unsheltered guard sheltered
  sheltered_on (DropGuard guard) Done sheltered = unsheltered guard sheltered
  sheltered_on ReclaimAll Done sheltered = []
  sheltered_on Close Done sheltered = []
  sheltered_on _ _ sheltered = sheltered

-- calls under way

module _ {K V : Type 0} where
  -- a question is asked once, though it is told again while there is no reply
  abbrev pub asks_on : Option ℕ → UnderWay K V → CallState → UnderWay K V
  asks_on question c (Asking q) = c
  asks_on question c stands = record c { stands = Asking question; asked = question ∷ c.asked }

  abbrev pub with_outcome : Outcome V → UnderWay K V → UnderWay K V
  with_outcome Goes c = record c { stands = Going }
  with_outcome Waits c = record c { stands = Going }
  with_outcome (Asks question) c = asks_on question c c.stands
  with_outcome Ready c = record c { stands = IsReady }
  with_outcome (Shows n) c = record c { shown = n ∷ c.shown }
  with_outcome _ c = c

  abbrev pub without_call : List ℕ → List (UnderWay K V) → List (UnderWay K V)
  without_call caller calls = filter (λ c. not (is_same c.caller caller)) calls

  abbrev pub stepped : Option (List ℕ) → Outcome V → ℕ → List (UnderWay K V) → List (UnderWay K V)
  stepped None outcome steps calls = calls
  stepped (Some caller) outcome steps calls =
      if ends_call outcome then without_call caller calls
      else map (λ c. if is_same c.caller caller then with_outcome outcome (record c { steps = c.steps + steps }) else c) calls

  -- the reply to what was asked
  abbrev pub replied : Reply V → UnderWay K V → CallState → UnderWay K V
  replied reply c (Asking q) = record c { stands = Told; replies = (q, reply) ∷ c.replies }
  replied reply c stands = c

  abbrev pub calls_on : Event K V → Outcome V → ℕ → List (UnderWay K V) → List (UnderWay K V)
  calls_on (Replied caller reply) Goes steps calls = map (λ c. if is_same c.caller caller then replied reply c c.stands else c) calls
  calls_on (Stop caller) Done steps calls = without_call caller calls
  calls_on event outcome steps calls = stepped (caller_of event) outcome steps calls

-- maps

-- by ascending root
abbrev pub with_remains : Remains → List Remains → List Remains
with_remains new [] = new ∷ []
with_remains new (r ∷ remains) = if nat_lt new.root r.root then new ∷ r ∷ remains else r ∷ with_remains new remains

abbrev pub if_any : ℕ → List ℕ → List Remains → List Remains
if_any root [] remains = remains
if_any root (n ∷ pairs) remains = with_remains (record { root = root; pairs = n ∷ pairs }) remains

-- the tables that ended with their map
abbrev pub tables_taken : Effect → List TableId
tables_taken (Taken t) = t ∷ []
tables_taken _ = []

abbrev pub root_or : Option MapThere → ℕ
root_or None = 0
root_or (Some f) = f.root

module _ {K V : Type 0} where
  abbrev pub maps_on : Event K V → Outcome V → List MapThere → List MapThere
  maps_on (EndMap map) Done maps = filter (λ f. not (is_same f.name map)) maps
  maps_on _ _ maps = maps

  -- what ended maps left over: what is behind the tables that a map takes with it, table by table, the last one first
  abbrev pub remains_on : Event K V → Outcome V → List Effect → Moment K V → List Remains
  remains_on (EndMap name) Done effects m = if_any (root_or (map_of name m)) (flat_map (λ t. behind t m.deferred) (flat_map tables_taken effects)) m.remains
  remains_on ReclaimAll Done effects m = []
  remains_on Close Done effects m = []
  remains_on _ _ effects m = m.remains

  abbrev pub closed_on : Event K V → Outcome V → Bool → Bool
  closed_on Close Done before = true
  closed_on _ _ before = before

  abbrev pub mapped_on : Event K V → Bool → Bool
  mapped_on (MakeMap map mode capacity) before = true
  mapped_on _ before = before

-- calls come one after another as long as no event but those of its caller comes while a call is under way

module _ {K V : Type 0} where
  abbrev pub is_by : Option (List ℕ) → UnderWay K V → Bool
  is_by None c = false
  is_by (Some caller) c = is_same c.caller caller

  abbrev pub is_alone_on : Entry K V → Moment K V → Bool
  is_alone_on e m = is_busy e.outcome || list_all (is_by (speaker e.event)) m.calls

  -- the moment after an event
  abbrev pub after : Entry K V → Moment K V → Moment K V
  after e m =
      let w = worked e m in
      record w {
        events = m.events + 1;
        is_mapped = mapped_on e.event m.is_mapped;
        is_closed = closed_on e.event e.outcome m.is_closed;
        is_alone = m.is_alone && is_alone_on e m;
        there = there_on e.event e.outcome w.there;
        slots = slots_on e.outcome m.slots;
        sheltered = sheltered_on e.event e.outcome w.sheltered;
        calls = calls_on e.event e.outcome e.steps w.calls;
        maps = maps_on e.event e.outcome w.maps;
        remains = remains_on e.event e.outcome e.effects m;
      }

-- the moment after all entries of a log, of which the newest comes first, by the moment after one
abbrev pub moment_by : {K V E : Type 0} → (E → Moment K V → Moment K V) → List E → Moment K V
moment_by after [] = start
moment_by after (e ∷ log) = after e (moment_by after log)

-- the moments since so many entries had come, the newest first, by the moment after a log
abbrev pub moments_by : {K V E : Type 0} → (List E → Moment K V) → ℕ → List E → List (Moment K V)
moments_by moment begun [] = if begun == 0 then start ∷ [] else []
moments_by moment begun (e ∷ log) = if nat_lt (length (e ∷ log)) begun then [] else moment (e ∷ log) ∷ moments_by moment begun log

-- P holds of each entry and of the log before it
abbrev pub AtEachEvent : {E : Type 0} → (List E → E → Type 0) → List E → Type 0
AtEachEvent P [] = Unit {0}
AtEachEvent P (e ∷ log) = P log e × AtEachEvent P log

module _ {K V : Type 0} where
  abbrev pub moment : List (Entry K V) → Moment K V
  moment log = moment_by after log

  abbrev pub moments_from : ℕ → List (Entry K V) → List (Moment K V)
  moments_from begun log = moments_by moment begun log
