use Rattle.std.specs.Prelude.{◌≡◌, ◌-◌}
use Rattle.map_tables.specs.Chunks.{is_incremental}
use Rattle.map_straight.specs.Shown.Chain.{pairs_at}
use Rattle.map_straight.proofs.places.next_in.Given as goal

-- none was met so far
abbrev pub invariant-loop-at : goal.invariant-loop-at
invariant-loop-at g l = pairs_at l.memory (is_incremental l.setting.mode) l.link l.place (l.len - l.place) ≡ pairs_at l.memory (is_incremental l.setting.mode) l.link l.at (l.len - l.at)
