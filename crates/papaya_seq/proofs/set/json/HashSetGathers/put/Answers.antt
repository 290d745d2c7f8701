-- One more was stored.
use Rattle.papaya_seq.proofs.Stored.{made_more}
use Rattle.papaya_seq.proofs.set.json.HashSetGathers.put.Goals as goal

pub returns-in-Ok-clause-more : goal.returns-in-Ok-clause-more
returns-in-Ok-clause-more g c = λ given so.
    let put = c.in-Ok.ensures in
    made_more g.K.PartialEq.eq given c.args.element c.args.self.now c.insert.new.self so
    (record { elements = put.stored; held = put.keeps; taken = put.in_any_order; met = put.last.1 })
