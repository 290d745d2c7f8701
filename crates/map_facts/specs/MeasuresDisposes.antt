-- How far the disposal of a pair is from the row that ends it.
use Rattle.std.specs.Prelude.{ℕ, zero, suc, ◌-◌, ◌*◌, cond, ◌==◌, ◌&&◌, List, [], ◌∷◌}
use Rattle.map_rule.specs.Given.ResizeDeclared.dispose.Dispose.{Dispose}
use Rattle.map_rule.specs.Given.ResizeDeclared.dispose.Disposing.{Disposing}
use Rattle.map_rule.specs.Given.ResizeDeclared.dispose.Disposing.TheVariants as at
use Rattle.map_rule.specs.Chart.{Chart}
use Rattle.map_rule.specs.Words.{Blocks}

-- the turn of the table with this link, among those with lower turns than this one
abbrev pub turn_of : Blocks → ℕ → ℕ → ℕ
turn_of blocks link zero = 0
turn_of blocks link (suc t) = cond (blocks.table_known t && (blocks.table t * 2048 == link)) t (turn_of blocks link t)

-- tables from the one that is reached to the pair's own
abbrev pub number_at_disposing : {K : Type 0} → Chart K → Blocks → ℕ → Disposing → List ℕ
number_at_disposing c blocks turn at.Reads = suc turn ∷ []
number_at_disposing c blocks turn (at.Walks link) = (turn - turn_of blocks link c.past) ∷ []
number_at_disposing c blocks turn _ = 0 ∷ []

-- the number of a disposal
abbrev pub number_of_dispose : {K : Type 0} → Chart K → Blocks → Dispose → List ℕ
number_of_dispose c blocks d = number_at_disposing c blocks d.table.turn d.stands
