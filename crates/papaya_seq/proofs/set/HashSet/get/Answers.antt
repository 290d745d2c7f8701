-- By the map's keys.
use Rattle.std.specs.Prelude.{find, option_map}
use Rattle.std.proofs.Common.{◌∙◌, ap, sym}
use Rattle.papaya_seq.specs.Sets.{Set}
use Rattle.papaya_seq.proofs.Sets.{found_in_order, keys_found}
use Rattle.papaya_seq.proofs.set.HashSet.get.Goals as goal

pub returns-in-Some : goal.returns-in-Some
returns-in-Some g c =
    let test = g.Q.Equivalent.equivalent c.args.asked.now in record {
      element = ap (option_map (λ (x : g.row.K.Denot × Unit {0}). x.0)) c.in-Some.ensures.pair ∙ sym (keys_found test c.self.inside.map.pairs)
          ∙ ap (λ (x : Set g.row.K.Denot g.row.S.Denot). find test x.elements) c.self.view_is;
      in_any_order = λ xs order. found_in_order c.self.inside.map c.args.self.now c.self.view_is xs order test _ c.in-Some.ensures.in_any_order;
    }

pub returns-in-None : goal.returns-in-None
returns-in-None g c =
    let test = g.Q.Equivalent.equivalent c.args.asked.now in record {
      element = ap (option_map (λ (x : g.row.K.Denot × Unit {0}). x.0)) c.in-None.ensures.pair ∙ sym (keys_found test c.self.inside.map.pairs)
          ∙ ap (λ (x : Set g.row.K.Denot g.row.S.Denot). find test x.elements) c.self.view_is;
      in_any_order = λ xs order. found_in_order c.self.inside.map c.args.self.now c.self.view_is xs order test _ c.in-None.ensures.in_any_order;
    }
