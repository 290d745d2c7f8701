use Rattle.papaya_json.proofs.sets.FillingPuts.put.Goals as goal

pub returns-in-Ok : goal.returns-in-Ok
returns-in-Ok g c = (c.in-Ok.field-0, c.in-Ok.ensures.keeps.1, c.in-Ok.ensures.put)
