-- How a seat stands between its calls, and comes to know a map.
use Rattle.std.specs.Prelude.{◌≡◌, [], Option, Some, None}
use Rattle.seize_views.specs.declared.view.Began.TheVariants.{NotYet}
use Rattle.seize_views.specs.declared.view.SlotView.TheVariants.{Rests}
use Rattle.map_tables.specs.declared.setting.Setting.{Setting}
use Rattle.threads_errands.specs.Given.ViewsBegun.{shown_map}
use Rattle.threads_errands.specs.Given.ViewsDeclared.view.Map.{Map}
use Rattle.threads_errands.specs.Given.ViewsDeclared.view.View.{View}
use Rattle.threads_errands.specs.Given.ViewsDeclared.view.SeatWork.TheVariants.{Nothing}

-- the setting of the map that it knows, and its hasher
abbrev pub known_as : {S : Type 0} → Option (Map S) → Option (Setting × S)
known_as None = None
known_as (Some map) = Some (map.setting, map.hasher)

abbrev pub known_by : {K V S : Type 0} → View K V S → Option (Setting × S)
known_by v = known_as v.map

-- one that has just come, to which this map was handed on
abbrev pub come_to : {K V S : Type 0} → Option (Map S) → View K V S
come_to map = record { slot = Rests; under = None; map = map; by = None; own = None; work = Nothing; looks = []; held = []; began = NotYet; calls = [] }

module _ {K V S : Type 0} where
  -- it comes to know the map that the other one knows
  abbrev pub LearnsMap : View K V S → View K V S → View K V S → Type 0
  LearnsMap v u w = (map : Map S) × (u.map ≡ Some map) × (w ≡ shown_map v map)
