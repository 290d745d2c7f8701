use Rattle.std.specs.Prelude.{is_some}
use Rattle.papaya_map.proofs.cloning.put_clone.Goals as goal

pub returns-in-Ok : goal.returns-in-Ok
returns-in-Ok g c = record {
  put = (
    (c.in_ok-own_key.own_key, c.in_ok-own_value.own_value),
    (c.in_ok-own_key.ensures.cases, c.in_ok-own_value.ensures.cases),
    (is_some c.in-Ok.field-0, c.in-Ok.ensures.keeps.1, c.in-Ok.ensures.stored),
  );
}
