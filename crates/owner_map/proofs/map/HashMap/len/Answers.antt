-- The one shard says it, and its words show as many pairs.
use Rattle.std.proofs.Common.{◌∙◌}
use Rattle.owner_rests.proofs.Given.{holds_its_own}
use Rattle.owner_rests.proofs.ShowsPairs.Shows.{seen_among, seen_as_many, seen_apart}
use Rattle.owner_map.proofs.map.HashMap.len.Goals as goal

pub count-requires : goal.count-requires
count-requires g c = c.self.invariant

pub returns : goal.returns
returns g c =
    let held = c.self.invariant in record {
      len = c.count.ensures held.0 held.1 ∙ seen_as_many _ _ _ _ held.0 held.1 c.self.inside.resting.tables _ _ _ _ c.self.view_is;
      held = seen_among _ _ _ _ held.0 held.1 c.self.inside.resting.tables _ _ _ _ c.self.view_is (holds_its_own _ _ _ _ held.0 held.1);
      apart = seen_apart _ _ _ _ held.0 held.1 c.self.inside.resting.tables _ _ _ _ c.self.view_is;
    }
