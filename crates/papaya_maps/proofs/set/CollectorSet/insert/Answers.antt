use Rattle.std.specs.Prelude.{is_some, not}
use Rattle.std.proofs.Common.{◌∙◌, ap}
use Rattle.papaya_maps.proofs.Sets.{as_other, new_where_none}
use Rattle.papaya_maps.proofs.set.CollectorSet.insert.Goals as goal

pub returns-in-Ok-clause-put : goal.returns-in-Ok-clause-put
returns-in-Ok-clause-put g c =
    let s = c.in-Ok.ensures.stored in
    (s.0, new_where_none c.is_none.result (is_some c.in-Ok.old) c.is_none.ensures ∙ ap not (as_other (λ value. value.now) (λ p. p.1) c.in-Ok.old s.0 s.1), s.2)
