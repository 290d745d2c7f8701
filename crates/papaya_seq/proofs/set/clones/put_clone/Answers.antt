-- By the insertion.
use Rattle.papaya_seq.proofs.set.clones.put_clone.Goals as goal

pub returns-in-Ok-clause-put : goal.returns-in-Ok-clause-put
returns-in-Ok-clause-put g c =
    let put = c.in-Ok.ensures in
    (c.in_ok-element.element, c.in_ok-element.ensures.cases, record { elements = put.stored; held = put.keeps; taken = put.in_any_order; met = put.last.1 })
