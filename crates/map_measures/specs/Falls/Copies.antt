-- The numbers that each step of a copier lowers that goes on, in incremental mode, whatever other callers do.
use Rattle.std.specs.Prelude.{ℕ, suc, ◌-◌, ◌==◌, cond, List, [], ◌∷◌}
use Rattle.map_machines.specs.declared.copier.Copier.{Copier}
use Rattle.map_machines.specs.declared.copier.Copying.{Copying as Point}
use Rattle.map_machines.specs.declared.copier.Copying.TheVariants as at
use Rattle.map_machines.specs.declared.new_table.Making.{Making}
use Rattle.map_machines.specs.declared.new_table.Making.TheVariants as makes
use Rattle.many_calls.specs.Given.RuleChart.{Chart}
use Rattle.many_calls.specs.Given.RuleWords.{Blocks}
use Rattle.many_calls.specs.Given.PointsMeasuresDisposes.{turn_of}
use Rattle.many_calls.specs.Given.PointsMeasuresTables.{number_of_new_table}

-- the tables from the one on behind which a table is being made; none, once it was refused
abbrev pub tables_from_before : ℕ → Making → ℕ
tables_from_before past (makes.Sums before reason sum) = past - before.turn
tables_from_before past (makes.Makes table) = suc past - table.turn
tables_from_before past (makes.Promotes table) = suc past - table.turn
tables_from_before past (makes.Links table) = suc past - table.turn
tables_from_before past (makes.Drops table found) = suc past - table.turn
tables_from_before past (makes.Over table) = suc past - table.turn
tables_from_before past (makes.Refused fault) = 0

-- no table is being made
abbrev pub no_making : List ℕ
no_making = 0 ∷ 0 ∷ []

module _ {K : Type 0} (c : Chart K) (blocks : Blocks) (p : Copier) where
  -- the old tables from the one with this link on, up to its target
  abbrev pub old_tables : ℕ → ℕ
  old_tables link = p.target.turn - turn_of blocks link c.past

  -- the stages: the root, the table behind, the claim, the range, the count, the promotion, what is said of it, the old tables, the status
  abbrev pub at_stage : ℕ → List ℕ
  at_stage stage = stage ∷ 0 ∷ 0 ∷ 0 ∷ 0 ∷ 0 ∷ no_making

  -- In its range: the places left; at this one, whether it is to be marked, put into a later table, or to be said that it was; the tables left to be
  -- tried, the tries left at this one, and then whether its place is read or taken, or the table is left.
  abbrev pub in_range : ℕ → ℕ → ℕ → ℕ → List ℕ → List ℕ
  in_range part tables tries point making = 8 ∷ (p.end - p.place) ∷ part ∷ tables ∷ tries ∷ point ∷ making

  -- the old tables that are left to be retired
  abbrev pub retiring_left : ℕ → ℕ → List ℕ
  retiring_left tables point = 4 ∷ tables ∷ point ∷ 0 ∷ 0 ∷ 0 ∷ no_making

  -- standing there
  abbrev pub number_at : Point → List ℕ
  number_at at.Begins = at_stage 12
  number_at at.Follows = at_stage 11
  number_at at.Sees = at_stage 10
  number_at at.Claims = at_stage 9
  number_at at.Marks = in_range 2 0 0 0 no_making
  number_at (at.Probes word code table probe) = in_range 1 (c.past - table.turn) (suc (table.limit - probe.len)) 1 no_making
  number_at (at.Puts word code table probe) = in_range 1 (c.past - table.turn) (suc (table.limit - probe.len)) 0 no_making
  number_at (at.Passes word code table) = in_range 1 (c.past - table.turn) 0 1 no_making
  number_at (at.Grows word code making) = in_range 1 (tables_from_before c.past making.stands) 0 0 (number_of_new_table making)
  number_at (at.Covers word) = in_range 0 0 0 0 no_making
  number_at at.Counts = at_stage 7
  number_at (at.Tallies word fault) = at_stage 7
  number_at (at.Unmarks word fault) = at_stage 6
  number_at at.Promotes = at_stage 6
  number_at (at.Unclaims fault) = at_stage 5
  number_at at.Announces = at_stage 5
  number_at (at.Succeeds link) = retiring_left (old_tables link) 0
  number_at (at.Retires settle rest) = retiring_left (cond (rest == 0) 0 (old_tables rest)) 1
  number_at at.Asks = at_stage 2
  number_at _ = at_stage 0

abbrev pub number_of_copier : {K : Type 0} → Chart K → Blocks → Copier → List ℕ
number_of_copier c blocks p = number_at c blocks p p.stands
