-- By the map's pair.
use Rattle.std.specs.Prelude.{option_map}
use Rattle.std.proofs.Common.{◌∙◌, ap}
use Rattle.papaya_seq.specs.Sets.{Set}
use Rattle.papaya_seq.proofs.set.HashSet.taken.Goals as goal

pub returns-in-Some : goal.returns-in-Some
returns-in-Some g c = ap (option_map (λ (x : g.row.K.Denot × Unit {0}). x.0)) c.in-Some.ensures ∙ ap (λ (x : Set g.row.K.Denot g.row.S.Denot). x.taken) c.self.view_is

pub returns-in-None : goal.returns-in-None
returns-in-None g c = ap (option_map (λ (x : g.row.K.Denot × Unit {0}). x.0)) c.in-None.ensures ∙ ap (λ (x : Set g.row.K.Denot g.row.S.Denot). x.taken) c.self.view_is
