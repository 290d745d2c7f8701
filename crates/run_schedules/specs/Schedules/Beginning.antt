-- What an event begins: a call comes under way, and a map is there before it gets a first table.
use Rattle.std.specs.Prelude.{ℕ, ◌+◌, false, List, [], ◌∷◌, ◌++◌, map, None, if◌then◌else◌, Option, Some}
use Rattle.run_schedules.specs.declared.call.Call.{Call}
use Rattle.run_schedules.specs.declared.event.Event.{Event}
use Rattle.run_schedules.specs.declared.event.Event.TheVariants.{MakeMap, Begin, OneCall}
use Rattle.run_schedules.specs.declared.outcome.Outcome.{Outcome}
use Rattle.run_schedules.specs.declared.outcome.Outcome.TheVariants.{Done, Goes}
use Rattle.run_schedules.specs.Schedules.Lists.{least_free}
use Rattle.run_schedules.specs.Schedules.Moment.{Going, UnderWay, MapThere, Moment}
use Rattle.run_schedules.specs.Schedules.Views.{number_of}
use Rattle.run_schedules.specs.Schedules.Entry.{Entry, is_busy, nameless}

module _ {K V : Type 0} where
  abbrev pub fresh_call : List ℕ → List ℕ → Call K V → ℕ → ℕ → UnderWay K V
  fresh_call caller guard call map events =
      record {
        caller = caller;
        guard = guard;
        map = map;
        call = call;
        begun = events;
        stands = Going;
        replies = [];
        asked = [];
        steps = 0;
        replacing = None;
        due = None;
        gained = 0;
        lost = 0;
        shown = [];
        owes = [];
        has_handed = false;
        has_block = false;
        table = None;
        is_short = false;
      }

  -- on a map that is there
  abbrev pub with_call : List ℕ → List ℕ → Call K V → Option ℕ → Moment K V → Moment K V
  with_call caller guard call None m = m
  with_call caller guard call (Some map) m = record m { calls = fresh_call caller guard call map m.events ∷ m.calls }

  -- the collector's roots that are not free
  abbrev pub used_roots : Moment K V → List ℕ
  used_roots m = map (λ f. f.root) m.maps ++ map (λ r. r.root) m.remains

  abbrev pub with_map : MapThere → Moment K V → Moment K V
  with_map f m = record m { maps = m.maps ++ f ∷ []; made = m.made + 1 }

  abbrev pub begun : Event K V → Outcome V → Moment K V → Moment K V
  begun (Begin caller guard map call) Goes m = with_call caller guard call (number_of map m) m
  begun (OneCall guard map call) outcome m = if is_busy outcome then m else with_call nameless guard call (number_of map m) m
  begun (MakeMap map mode capacity) Done m =
      with_map (record { name = map; number = m.made; root = least_free (used_roots m); mode = mode; capacity = capacity; first = 0 }) m
  begun _ _ m = m

  -- the moment at which an event has begun what it begins
  abbrev pub at_work : Entry K V → Moment K V → Moment K V
  at_work e m = begun e.event e.outcome m
