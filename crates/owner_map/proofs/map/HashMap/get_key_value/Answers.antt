-- It is the pair that the memory has of the key.
use Rattle.std.proofs.Common.{◌∙◌, sym}
use Rattle.owner_rests.proofs.ShowsPairs.Shows.{seen_found, seen_first}
use Rattle.map_tables.proofs.Classes.{one_class}
use Rattle.owner_map.proofs.map.HashMap.get_key_value.Goals as goal

pub pair_of-requires : goal.pair_of-requires
pair_of-requires g c = c.self.invariant

pub returns : goal.returns
returns g c =
    let held = c.self.invariant in
    let so = c.pair_of.ensures held.0 held.1 in
    let class = one_class g.K.PartialEq.eq g.met.K.Eq.laws g.Q.Equivalent.stands_for g.Q.Equivalent.equivalent g.met.Q.Equivalent.stands c.args.asked.now in record {
      pair = so ∙ sym (seen_first _ _ _ _ held.0 held.1 c.self.inside.resting.tables _ _ _ _ c.self.view_is (g.Q.Equivalent.equivalent c.args.asked.now) class);
      in_any_order = λ xs order. so ∙ sym (seen_found _ _ _ _ held.0 held.1 c.self.inside.resting.tables _ _ _ _ c.self.view_is (g.Q.Equivalent.equivalent c.args.asked.now) class xs order);
    }
