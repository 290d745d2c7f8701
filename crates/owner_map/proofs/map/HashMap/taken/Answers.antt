-- Its word is that of a pair.
use Rattle.std.proofs.Common.{◌∙◌, ap}
use Rattle.owner_rests.specs.ShowsPairs.Maps.{Map}
use Rattle.owner_map.proofs.map.HashMap.taken.Goals as goal

pub shown-requires : goal.shown-requires
shown-requires g c = c.self.inside.resting.takes

pub returns : goal.returns
returns g c = c.shown.ensures ∙ ap (λ (x : Map g.row.K.Denot g.row.V.Denot g.row.S.Denot). x.taken) c.self.view_is
