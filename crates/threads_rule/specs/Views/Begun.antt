-- What a seat knows once a row has begun or ended, or a call has begun, or was told something, or a map was handed on to it, or it has come to lean on another.
use Rattle.std.specs.Prelude.{ℕ, Bool, false, Option, [], ◌∷◌, Some, None}
use Rattle.map_machines.specs.declared.new_map.NewMap.{NewMap}
use Rattle.papaya_raw.specs.EndMap.{ending}
use Rattle.papaya_raw.specs.Machine.{machine_asked, machine_replied}
use Rattle.papaya_raw.specs.declared.machines.asking.MachineReply.{MachineReply}
use Rattle.papaya_raw.specs.declared.machines.machine.Machine.{Machine}
use Rattle.many_acts.specs.Given.FinishesMachines.{machine_of}
use Rattle.many_acts.specs.Given.FinishesMaps.{new_map}
use Rattle.many_acts.specs.Acts.Acts.{Wanted, begun}
use Rattle.map_tables.specs.declared.node.Node.{Node}
use Rattle.seize_views.specs.declared.view.Began.{Began}
use Rattle.seize_views.specs.declared.view.SlotView.{SlotView}
use Rattle.threads_rule.specs.Views.Told.{untold}
use Rattle.threads_rule.specs.declared.view.Map.{Map}
use Rattle.threads_rule.specs.declared.view.View.{View}
use Rattle.threads_rule.specs.declared.view.SeatWork.TheVariants.{Calls, Makes, Ends}

module _ {K V S : Type 0} (same : K → K → Bool) (hash : S → K → ℕ) where
  -- the machine of a call that begins to do this on a map, in this slot
  abbrev pub machine_for : Map S → ℕ → Wanted K V → Machine K V K
  machine_for map t wanted = machine_of (begun same (λ a. a) (new_map map.setting (hash map.hasher)) t wanted)

module _ {K V S : Type 0} where
  -- with this call begun
  abbrev pub calling : View K V S → Map S → Machine K V K → View K V S
  calling v map machine = record { slot = v.slot; under = v.under; map = v.map; by = v.by; own = v.own; work = Calls machine; looks = []; held = []; began = v.began; calls = record { map = map.number; began = machine; told = untold } ∷ v.calls }

  -- its call was told this
  abbrev pub replied : View K V S → Machine K V K → MachineReply V → View K V S
  replied v machine reply = record { slot = v.slot; under = v.under; map = v.map; by = v.by; own = v.own; work = Calls (machine_replied machine reply).0; looks = []; held = []; began = v.began; calls = v.calls }

  -- its call was asked for its next pair
  abbrev pub asked : View K V S → Machine K V K → View K V S
  asked v machine = record { slot = v.slot; under = v.under; map = v.map; by = v.by; own = v.own; work = Calls (machine_asked machine).0; looks = []; held = []; began = v.began; calls = v.calls }

  -- it knows this map, which is nobody's own
  abbrev pub shown_map : View K V S → Map S → View K V S
  shown_map v map = record { slot = v.slot; under = v.under; map = Some map; by = None; own = v.own; work = v.work; looks = []; held = []; began = v.began; calls = v.calls }

  -- it knows this map, and leans on the seat that owns it
  abbrev pub lent_map : View K V S → ℕ → Map S → View K V S
  lent_map v owner map = record { slot = v.slot; under = v.under; map = Some map; by = Some owner; own = v.own; work = v.work; looks = []; held = []; began = v.began; calls = v.calls }

  -- it leans on nobody that owns a map, and knows none
  abbrev pub returned_map : View K V S → View K V S
  returned_map v = record { slot = v.slot; under = v.under; map = None; by = None; own = v.own; work = v.work; looks = []; held = []; began = v.began; calls = v.calls }

  -- it leans on this seat, or on none
  abbrev pub leaning : View K V S → Option (ℕ × ℕ) → View K V S
  leaning v under = record { slot = v.slot; under = under; map = v.map; by = v.by; own = v.own; work = v.work; looks = []; held = []; began = v.began; calls = v.calls }

module _ {K V S : Type 0} where
  -- with the making of this map under way
  abbrev pub making : View K V S → Bool → ℕ → S → NewMap → View K V S
  making v own m hasher opening = record { slot = v.slot; under = v.under; map = v.map; by = v.by; own = v.own; work = Makes own m hasher opening; looks = []; held = []; began = v.began; calls = v.calls }

  -- with the end of the map under way that was its own, of which so much is left
  abbrev pub ending_own : View K V S → Map S → ℕ → View K V S
  ending_own v map left =
      record { slot = v.slot; under = v.under; map = v.map; by = v.by; own = None; work = Ends record { machine = ending map.setting false; left = left; along = 0 }; looks = []; held = []; began = v.began; calls = v.calls }

  -- with this known of its slot and its row, and begun there last
  abbrev pub with_slot : View K V S → SlotView (Node K V) → Began → View K V S
  with_slot v slot began = record { slot = slot; under = v.under; map = v.map; by = v.by; own = v.own; work = v.work; looks = []; held = []; began = began; calls = v.calls }
