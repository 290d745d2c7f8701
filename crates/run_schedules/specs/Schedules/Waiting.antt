-- For what a call may wait, as closely as a run tells it.
use Rattle.std.specs.Prelude.{◌≡◌, ℕ, ◌==◌, nat_le, nat_lt, Bool, true, false, not, List, ◌&&◌, ◌||◌, length, Option, Some, None, if◌then◌else◌}
use Rattle.std.specs.List.{list_any}
use Rattle.run_schedules.specs.Runs.Present.{slot_of_guard}
use Rattle.run_schedules.specs.Runs.Same.{is_same}
use Rattle.run_schedules.specs.declared.call.Call.{Call}
use Rattle.run_schedules.specs.declared.call.Call.TheVariants.{On}
use Rattle.run_schedules.specs.declared.outcome.Outcome.{Outcome}
use Rattle.run_schedules.specs.declared.outcome.Outcome.TheVariants.{Waits}
use Rattle.run_schedules.specs.Schedules.After.{moment}
use Rattle.run_schedules.specs.Schedules.Effects.{worked}
use Rattle.run_schedules.specs.Schedules.Entry.{Entry, IfCall, acting, caller_of}
use Rattle.run_schedules.specs.Schedules.Growing.{only_looks}
use Rattle.run_schedules.specs.Schedules.InUse.{is_handing}
use Rattle.run_schedules.specs.Schedules.Moment.{UnderWay, Moment}
use Rattle.run_schedules.specs.Schedules.Sequential.{key_of}
use Rattle.run_schedules.specs.Schedules.Views.{chain_of, finite_map, first_of, grows_in_chunks, map_at}

module _ {K V : Type 0} where
  -- the pair of the key's class came into the map in the root's table or before, and there is a table behind: it may be being copied
  abbrev pub is_to_be_copied : ℕ → Moment K V → Option ℕ → Bool
  is_to_be_copied map m None = false
  is_to_be_copied map m (Some n) = nat_lt 1 (length (chain_of map m)) && nat_le (m.born n).turn (first_of map m)

  -- a resize of the map may be unfinished: it has a second table, or the other call has still to hand over what the root has passed
  abbrev pub is_resizing : ℕ → Moment K V → UnderWay K V → Bool
  is_resizing map m d = nat_lt 1 (length (chain_of map m)) || is_handing d

module _ {K V : Type 0} (eq : K → K → Bool) where
  -- In incremental mode a call on one key waits only for the copying of its key's pair; each other call, and in blocking mode each, for a resize.
  abbrev pub waits_on_map : Call K V → UnderWay K V → Moment K V → UnderWay K V → Bool
  waits_on_map (On one) c m d = if grows_in_chunks (map_at c.map m) then is_to_be_copied c.map m (finite_map eq c.map m (key_of one)) else is_resizing c.map m d
  waits_on_map call c m d = is_resizing c.map m d

  abbrev pub may_wait_for : UnderWay K V → Moment K V → UnderWay K V → Bool
  may_wait_for c m d =
      not (is_same d.caller c.caller) && not (only_looks d.call)
      && (((d.map == c.map) && waits_on_map c.call c m d) || (is_handing d && (slot_of_guard d.guard m.there == slot_of_guard c.guard m.there)))

  abbrev pub may_wait : UnderWay K V → Moment K V → Bool
  may_wait c m = not (only_looks c.call) && list_any (may_wait_for c m) m.calls

  -- an event that says that its call waits says so where it may
  abbrev pub WaitsRight : Outcome V → UnderWay K V → Moment K V → Type 0
  WaitsRight Waits c now = may_wait c now ≡ true
  WaitsRight _ c now = Unit {0}

  abbrev pub WaitsLawfully : List (Entry K V) → Entry K V → Type 0
  WaitsLawfully log e = let w = worked e (moment log) in IfCall (λ c. WaitsRight e.outcome c w) (acting (caller_of e.event) w)
