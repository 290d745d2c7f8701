-- How much is left of the end of a map, in two numbers that each step lowers: what is left of the list along which it goes, or else what is left of all the rest.
use Rattle.std.specs.Prelude.{◌≡◌, ℕ, suc, ◌-◌, ◌<◌, ◌==◌, ◌&&◌, Bool, true, false, cond, if◌then◌else◌, List, [], ◌∷◌, ◌++◌, length}
use Rattle.run_shows.specs.Given.SeizeWordsMem.{Took, value_at}
use Rattle.run_shows.specs.Given.SeizeWordsPlan.{Steps}
use Rattle.run_shows.specs.Given.SeizeWordsWord.{block_in}
use Rattle.run_shows.specs.Given.SeizeDeclared.rows.settle.Settled.{Settled}
use Rattle.run_shows.specs.Given.SeizeDeclared.rows.settle.Settled.TheVariants as settled
use Rattle.run_shows.specs.Given.SeizeWorld.{World}
use Rattle.run_shows.specs.Given.TablesDeclared.node.Node.{Node}
use Rattle.run_shows.specs.Given.RawEndMap.{end_map_plan}
use Rattle.run_shows.specs.Given.RawDeclared.machines.end_map.EndMap.{EndMap}
use Rattle.run_shows.specs.Given.RawDeclared.machines.end_map.Ending.{Ending}
use Rattle.run_shows.specs.Given.RawDeclared.machines.end_map.Ending.TheVariants as at
use Rattle.owner_facts.specs.Descends.Numbers.{tables_ahead, blocks_ahead}
use Rattle.owner_facts.specs.Given.FinishesEndings.{Finishing, FinishingFacts}
use Rattle.owner_facts.specs.Maps.MeasuresEnds.{stage, in_one}

-- it goes along a list that a table carries
abbrev pub is_along : Ending → Bool
is_along (at.Follows pair) = true
is_along _ = false

-- those of a list that stand behind this one
abbrev pub behind : ℕ → List ℕ → List ℕ
behind b [] = []
behind b (x ∷ list) = if x == b then list else behind b list

-- so many of what waits it has yet to go along
abbrev pub along_ahead : List ℕ → Ending → ℕ
along_ahead waits (at.Follows pair) = length (behind (block_in pair) waits)
along_ahead waits _ = 0

-- the places of a table, from the one on that it has come to
abbrev pub places_ahead : EndMap → Ending → ℕ
places_ahead e at.Words = suc (e.table.len - e.place)
places_ahead e _ = 0

-- What is left but for a list: the blocks that are still to be reclaimed, and what is ahead until the next one is.
abbrev pub left_at : {K V : Type 0} → Finishing K V → Ending → ℕ
left_at f spot = in_one f.chart.past (blocks_ahead f f.back) (stage spot) (tables_ahead f.chart.past f.machine spot) (places_ahead f.machine spot)

-- and of a list
abbrev pub left_of : {K V : Type 0} → Finishing K V → ℕ × ℕ
left_of f = (left_at f f.machine.stands, along_ahead f.waits f.machine.stands)

-- Along a list there is less left of that; else there is less left.
abbrev pub Lessens : Ending → Ending → ℕ × ℕ → ℕ × ℕ → Type 0
Lessens from to before after = cond (is_along from && is_along to) ((after.0 ≡ before.0) × (after.1 < before.1)) (after.0 < before.0)

-- it is not over
abbrev pub IsOn : Ending → Type 0
IsOn at.Over = ⊥
IsOn _ = Unit {0}

-- what a step that is not the last one leaves
abbrev pub GetsOn : {T : Type 0} → EndMap → EndMap × Settled T → ℕ × ℕ → ℕ × ℕ → Type 0
GetsOn c (d, settled.Goes) before after = IsOn d.stands × Lessens c.stands d.stands before after
GetsOn c (d, settled.Gave value) before after = IsOn d.stands × (after.0 < before.0)
GetsOn c (d, settled.Waits) before after = ⊥
GetsOn c (d, settled.Done) before after = Unit {0}

module _ {K : Type 0} (V : Type 0) (same : K → K → Bool) (batch_size : ℕ) where
  -- The promise: so does each step of the end of a map, whether it goes on, or has reclaimed a block, in the world where it stands so then.
  abbrev pub EndsGetOn : Type 0
  EndsGetOn =
      (w w2 : World (Node K V)) (i : ℕ) (f : Finishing K V) (e : EndMap) (waits : List ℕ) → FinishingFacts same batch_size w i f
      → (FinishingFacts same batch_size w2 i (record f { machine = e; waits = waits }) → Steps Took value_at w.memory (end_map_plan f.machine) w2.memory (e, settled.Goes)
      → GetsOn {T = Node K V} f.machine (e, settled.Goes) (left_of f) (left_of (record f { machine = e; waits = waits })))
      × ((b : ℕ) (value : Node K V) → FinishingFacts same batch_size w2 i (record f { machine = e; back = f.back ++ b ∷ []; waits = waits })
      → Steps Took value_at w.memory (end_map_plan f.machine) w2.memory (e, settled.Gave value)
      → GetsOn f.machine (e, settled.Gave value) (left_of f) (left_of (record f { machine = e; back = f.back ++ b ∷ []; waits = waits })))
