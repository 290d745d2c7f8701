-- The numbers that each step of a sweep lowers that goes on, whatever other callers do.
use Rattle.std.specs.Prelude.{ℕ, suc, ◌-◌, ◌==◌, cond, nat_lt, List, [], ◌∷◌, ◌++◌}
use Rattle.map_tables.specs.Chunks.{is_incremental}
use Rattle.map_sweeps.specs.declared.sweep.Sweep.{Sweep}
use Rattle.map_sweeps.specs.declared.sweep.Sweeping.{Sweeping}
use Rattle.map_sweeps.specs.declared.sweep.Sweeping.TheVariants as at
use Rattle.many_calls.specs.Given.RuleChart.{Chart}
use Rattle.many_calls.specs.Given.RuleWords.{Blocks, place_word}
use Rattle.many_calls.specs.Given.PointsMeasuresDisposes.{number_of_dispose}
use Rattle.map_measures.specs.Falls.Calls.{nothing_within}
use Rattle.map_measures.specs.Falls.Reserves.{number_within}
use Rattle.map_measures.specs.Falls.Room.{planned_in_copying, tables_to_come}

-- the turn of the table that is being made within it
abbrev pub planned_in_sweep : Sweeping → ℕ
planned_in_sweep (at.Copies copier) = planned_in_copying copier.stands
planned_in_sweep _ = 0

module _ {K : Type 0} (hash : K → ℕ) (c : Chart K) (blocks : Blocks) (p : Sweep) where
  -- the tables from its own on
  abbrev pub tables_left : ℕ
  tables_left = c.past - p.table.turn

  -- Its table is to be copied where one is behind: before it goes over it, or after it has met a mark there. Else it is to go over it.
  abbrev pub following : ℕ
  following = cond (nat_lt (suc p.table.turn) c.past) 1 3

  -- A word is expected at its place: is it there? Where it is not, the sweep has to read it again, which is point 4.
  abbrev pub stale : ℕ → ℕ
  stale word = cond (word == place_word hash c blocks (c.place p.table.turn p.place)) 0 3

  -- at a place of its table: the places from that one on, the point there, and the disposal of the pair that it has removed
  abbrev pub at_place : ℕ → List ℕ → List ℕ
  at_place point disposal = tables_left ∷ 2 ∷ (p.table.len - p.place) ∷ point ∷ (disposal ++ (0 ∷ 0 ∷ 0 ∷ 0 ∷ 0 ∷ []))

  -- no disposal is under way
  abbrev pub no_disposal : List ℕ
  no_disposal = 0 ∷ []

  -- It is asked for the next pair, or told whether one is to be kept, before it goes on there: both lower its number.
  abbrev pub number_here : Sweeping → List ℕ
  number_here at.Reads = suc c.past ∷ 0 ∷ nothing_within
  number_here at.Follows = tables_left ∷ following ∷ nothing_within
  number_here (at.Copies copier) = (c.past - copier.target.turn) ∷ 4 ∷ number_within (is_incremental p.setting.mode) c blocks copier
  number_here at.Ready = at_place 5 no_disposal
  number_here at.Words = at_place 4 no_disposal
  number_here (at.Asks word) = at_place (suc (suc (suc (stale word)))) no_disposal
  number_here (at.Tries word) = at_place (suc (suc (stale word))) no_disposal
  number_here (at.Counts removed) = at_place 1 no_disposal
  number_here (at.Disposes dispose) = at_place 0 (number_of_dispose c blocks dispose)
  number_here at.Over = 0 ∷ 0 ∷ nothing_within
  number_here (at.Refused fault) = 0 ∷ 0 ∷ nothing_within

  -- and before that the tables that can still be linked
  abbrev pub numbers_at : Sweeping → List ℕ
  numbers_at stands = tables_to_come c.past (planned_in_sweep stands) ∷ number_here stands

  -- where it stands
  abbrev pub number_of_sweep : List ℕ
  number_of_sweep = numbers_at p.stands
