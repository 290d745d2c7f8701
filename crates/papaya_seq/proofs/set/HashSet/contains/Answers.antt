-- By the map's keys.
use Rattle.std.specs.Prelude.{find, is_some}
use Rattle.std.proofs.Common.{◌∙◌, ap, sym}
use Rattle.papaya_seq.specs.Sets.{Set}
use Rattle.papaya_seq.proofs.Sets.{keys_are_found, there_in_order}
use Rattle.papaya_seq.proofs.set.HashSet.contains.Goals as goal

pub returns : goal.returns
returns g c =
    let test = g.Q.Equivalent.equivalent c.args.asked.now in record {
      there = c.contains_key.ensures.there ∙ sym (keys_are_found test c.self.inside.map.pairs) ∙ ap (λ (x : Set g.row.K.Denot g.row.S.Denot). is_some (find test x.elements)) c.self.view_is;
      in_any_order = λ xs order. there_in_order c.self.inside.map c.args.self.now c.self.view_is xs order test c.contains_key.result c.contains_key.ensures.in_any_order;
    }
