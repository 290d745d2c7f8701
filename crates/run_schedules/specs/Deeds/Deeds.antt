-- An entry of a history, which knows no script: what was done, what it came to, and its effects. Callers, slots and maps have numbers.
use Rattle.std.specs.Prelude.{ℕ, ◌+◌, ◌==◌, nat_lt, max, Bool, not, List, [], ◌∷◌, ◌++◌, filter, flat_map, map, Option, Some, None, if◌then◌else◌}
use Rattle.run_schedules.specs.Runs.Present.{Present, nobody, enters_slot, drops}
use Rattle.run_schedules.specs.Runs.Same.{is_same}
use Rattle.papaya_raw.specs.Given.TablesDeclared.resize_mode.ResizeMode.{ResizeMode}
use Rattle.run_schedules.specs.declared.call.Call.{Call}
use Rattle.run_schedules.specs.declared.call.Reply.{Reply}
use Rattle.run_schedules.specs.declared.effect.Effect.{Effect}
use Rattle.run_schedules.specs.declared.outcome.Outcome.{Outcome}
use Rattle.run_schedules.specs.declared.outcome.Outcome.TheVariants.{Goes}
use Rattle.run_schedules.specs.Schedules.After.{moment_by, replied, root_or, slots_on, stepped, tables_taken, unsheltered, without_call}
use Rattle.run_schedules.specs.Schedules.Beginning.{fresh_call}
use Rattle.run_schedules.specs.Schedules.Effects.{with_effects}
use Rattle.run_schedules.specs.Schedules.Entry.{acting}
use Rattle.run_schedules.specs.Schedules.Moment.{MapThere, Moment, Remains, Sheltered, UnderWay}
use Rattle.run_schedules.specs.Schedules.Views.{behind, map_at}

-- a number is its name
abbrev pub named : ℕ → List ℕ
named n = n ∷ []

pub data Deed (K V : Type 0) : Type 0 where
  -- of calls
  Begins : ℕ → ℕ → ℕ → Call K V → Deed K V  -- this caller begins this call, within the section of this slot unless it counts, on this map
  Steps : ℕ → Deed K V  -- its call takes a step, or is asked for its next pair
  Replies : ℕ → Reply V → Deed K V  -- it is told this
  Stops : ℕ → Deed K V  -- it is given up
  -- of rows
  Registers : ℕ → Deed K V  -- a step of somebody who registers, and has come to this slot
  Opens : ℕ → Deed K V  -- a step by which the section of this slot begins
  Shuts : ℕ → Deed K V  -- one by which it ends
  Leaves : ℕ → Deed K V  -- a further step of who has ended it
  Tends : ℕ → Deed K V  -- a step by which this slot's batch is flushed, or the slot is given up
  -- of maps
  MapComes : ℕ → ℕ → ResizeMode → ℕ → Deed K V  -- the step of its making by which a map comes, at this root, with this mode and capacity
  Makes : ℕ → Deed K V  -- any other step of the making of this map
  MapFails : ℕ → Deed K V  -- the last one, if the making is refused: the map has left its root again
  Ends : ℕ → Deed K V  -- a step of the end of this map
  MapGoes : ℕ → Deed K V  -- the last one: the map has left its root
  -- of all
  ReclaimsAll : Bool → Deed K V  -- a step of a caller that reclaims all, and whether it is the last

pub record Entry (K V : Type 0) : Type 0 where
  pub deed : Deed K V
  pub outcome : Outcome V
  pub effects : List Effect
  pub refused : Bool  -- a growth that it asked for was refused

-- More is left over at a root, behind what is there. Roots ascend.
abbrev pub with_more : Remains → List Remains → List Remains
with_more new [] = new ∷ []
with_more new (r ∷ remains) =
    if nat_lt new.root r.root then new ∷ r ∷ remains else
    (if new.root == r.root then record r { pairs = r.pairs ++ new.pairs } ∷ remains else r ∷ with_more new remains)

abbrev pub if_more : ℕ → List ℕ → List Remains → List Remains
if_more root [] remains = remains
if_more root (n ∷ pairs) remains = with_more (record { root = root; pairs = n ∷ pairs }) remains

-- without the map of this number
abbrev pub without_map : ℕ → List MapThere → List MapThere
without_map n maps = filter (λ f. not (is_same f.name (named n))) maps

module _ {K V : Type 0} where
  -- whose call takes a step
  abbrev pub caller_of : Deed K V → Option (List ℕ)
  caller_of (Steps i) = Some (named i)
  caller_of _ = None

  -- of the call of this caller, if it has one, the map
  abbrev pub map_of_call : Option (UnderWay K V) → Option ℕ
  map_of_call None = None
  map_of_call (Some c) = Some c.map

  -- on which map it acts
  abbrev pub acted_on : Deed K V → Moment K V → Option ℕ
  acted_on (MapComes map root mode capacity) m = Some map
  acted_on (Makes map) m = Some map
  acted_on (MapFails map) m = Some map
  acted_on (Ends map) m = Some map
  acted_on (MapGoes map) m = Some map
  acted_on deed m = map_of_call (acting (caller_of deed) m)

  -- A map comes. Maps may have any numbers: those that came are below the number made.
  abbrev pub come : MapThere → Moment K V → Moment K V
  come f m = record m { maps = m.maps ++ f ∷ []; made = max m.made (f.number + 1) }

  -- what it begins: a call comes under way, and a map is there before it gets a first table
  abbrev pub begun : Deed K V → Moment K V → Moment K V
  begun (Begins i s map call) m = record m { calls = fresh_call (named i) (named s) call map m.events ∷ m.calls }
  begun (MapComes map root mode capacity) m = come (record { name = named map; number = map; root = root; mode = mode; capacity = capacity; first = 0 }) m
  begun _ m = m

  abbrev pub at_work : Entry K V → Moment K V → Moment K V
  at_work e m = begun e.deed m

  -- the moment at which its effects are there
  abbrev pub worked : Entry K V → Moment K V → Moment K V
  worked e m = let b = at_work e m in with_effects (caller_of e.deed) (acted_on e.deed b) e.effects b

  -- A section is the guard of its slot.
  abbrev pub there_on : Deed K V → Present → Present
  there_on (Opens s) there = enters_slot (named s) s there
  there_on (Shuts s) there = drops (named s) there
  there_on (ReclaimsAll last) there = if last then nobody else there
  there_on _ there = there

  abbrev pub sheltered_on : Deed K V → List Sheltered → List Sheltered
  sheltered_on (Shuts s) sheltered = unsheltered (named s) sheltered
  sheltered_on (ReclaimsAll last) sheltered = []
  sheltered_on _ sheltered = sheltered

  abbrev pub calls_on : Deed K V → Outcome V → List (UnderWay K V) → List (UnderWay K V)
  calls_on (Replies i reply) Goes calls = map (λ c. if is_same c.caller (named i) then replied reply c c.stands else c) calls
  calls_on (Stops i) Goes calls = calls
  calls_on (Stops i) outcome calls = without_call (named i) calls
  calls_on deed outcome calls = stepped (caller_of deed) outcome 1 calls

  abbrev pub maps_on : Deed K V → List MapThere → List MapThere
  maps_on (MapFails map) maps = without_map map maps
  maps_on (MapGoes map) maps = without_map map maps
  maps_on _ maps = maps

  -- the root of a map
  abbrev pub root_of : ℕ → Moment K V → ℕ
  root_of map m = root_or (map_at map m)

  -- what is behind a table that a map takes with it is left over at the root of the map
  abbrev pub remains_on : Deed K V → List Effect → Moment K V → List Remains
  remains_on (Ends map) effects m = if_more (root_of map m) (flat_map (λ t. behind t m.deferred) (flat_map tables_taken effects)) m.remains
  remains_on (ReclaimsAll last) effects m = if last then [] else m.remains
  remains_on _ effects m = m.remains

  -- the moment after an entry
  abbrev pub after : Entry K V → Moment K V → Moment K V
  after e m =
      let w = worked e m in
      record w {
        events = m.events + 1;
        there = there_on e.deed w.there;
        slots = slots_on e.outcome m.slots;
        sheltered = sheltered_on e.deed w.sheltered;
        calls = calls_on e.deed e.outcome w.calls;
        maps = maps_on e.deed w.maps;
        remains = remains_on e.deed e.effects m;
      }

  -- the moment after all entries of a history, of which the newest comes first
  abbrev pub moment : List (Entry K V) → Moment K V
  moment log = moment_by after log
