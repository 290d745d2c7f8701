-- Its words show just these pairs.
use Rattle.std.proofs.Common.{◌∙◌, ap}
use Rattle.owner_rests.proofs.Given.{holds_stands}
use Rattle.owner_rests.proofs.ShowsPairs.Shows.{all_shown_as, seen_apart}
use Rattle.owner_rests.specs.ShowsPairs.Maps.{Map}
use Rattle.owner_map.proofs.map.HashMap.iter.Goals as goal

pub pairs_of-requires : goal.pairs_of-requires
pairs_of-requires g c = let held = c.self.invariant in (_, _, held.1.chart, held.1.blocks, holds_stands _ _ _ _ held.0 held.1)

pub returns-clause-pairs : goal.returns-clause-pairs
returns-clause-pairs g c =
    let resting = c.self.inside.resting in
    all_shown_as resting.memory resting.setting resting.tables _ (c.pairs_of.ensures.all resting.tables.0 resting.tables.1)
    ∙ ap (λ (x : Map g.row.K.Denot g.row.V.Denot g.row.S.Denot). x.pairs) c.self.view_is

pub returns-clause-apart : goal.returns-clause-apart
returns-clause-apart g c = let held = c.self.invariant in seen_apart _ _ _ _ held.0 held.1 c.self.inside.resting.tables _ _ _ _ c.self.view_is
