-- It is the value of the pair.
use Rattle.std.specs.Prelude.{option_map}
use Rattle.std.proofs.Common.{ap}
use Rattle.owner_map.proofs.map.HashMap.get.Goals as goal

pub returns-in-Some : goal.returns-in-Some
returns-in-Some g c = record {
  value = ap (option_map (λ (x : g.row.K.Denot × g.row.V.Denot). x.1)) c.in-Some.ensures.pair;
  in_any_order = λ xs order. ap (option_map (λ (x : g.row.K.Denot × g.row.V.Denot). x.1)) (c.in-Some.ensures.in_any_order xs order);
}

pub returns-in-None : goal.returns-in-None
returns-in-None g c = record {
  value = ap (option_map (λ (x : g.row.K.Denot × g.row.V.Denot). x.1)) c.in-None.ensures.pair;
  in_any_order = λ xs order. ap (option_map (λ (x : g.row.K.Denot × g.row.V.Denot). x.1)) (c.in-None.ensures.in_any_order xs order);
}
