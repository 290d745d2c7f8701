-- It looks in the map, for keys of one class.
use Rattle.std.proofs.Common.{◌∙◌, ap}
use Rattle.map_machines.specs.Lookup.{looking}
use Rattle.owner_calls.specs.Owned.Owned.{hashed_by}
use Rattle.owner_calls.proofs.Owned.Owned.Classes.{is_class}
use Rattle.owner_calls.proofs.Owned.Lookups.Found.{shown_found}
use Rattle.owner_rests.proofs.Rests.Looks.{look_ready, look_found}
use Rattle.owner_rests.proofs.lookups.pair_of.Goals as goal

pub find-requires : goal.find-requires
find-requires g c =
    let r = c.requires in (
      hashed_by g.S.Hasher.Hasher.finish g.S.Hasher.Hasher.write g.S.BuildHasher.build_hasher g.K.Hash.hash_input c.args.hasher.now,
      r.1.chart,
      r.1.blocks,
      look_ready _ _ _ _ r.0 r.1 _ _
          (is_class g.K.PartialEq.eq g.S.Hasher.Hasher.finish g.S.Hasher.Hasher.write g.S.BuildHasher.build_hasher g.K.Hash.hash_input c.args.hasher.now g.Q.Equivalent.equivalent g.Q.Hash.hash_input
          g.Q.Equivalent.stands_for g.met.Q.Equivalent.stands g.met.Q.Equivalent.hashed g.met.K.Eq.laws g.met.K.Hash.respects_eq c.args.asked.now) _ (c.new-lookup.ensures ∙ ap (λ x. looking c.args.setting.root c.args.setting.mode x) c.hash_of-hash.ensures),
    )

pub returns : goal.returns
returns g c = λ xs has.
    let class = is_class g.K.PartialEq.eq g.S.Hasher.Hasher.finish g.S.Hasher.Hasher.write g.S.BuildHasher.build_hasher g.K.Hash.hash_input c.args.hasher.now g.Q.Equivalent.equivalent
    g.Q.Hash.hash_input g.Q.Equivalent.stands_for g.met.Q.Equivalent.stands g.met.Q.Equivalent.hashed g.met.K.Eq.laws g.met.K.Hash.respects_eq c.args.asked.now in
    let begins = c.new-lookup.ensures ∙ ap (λ x. looking c.args.setting.root c.args.setting.mode x) c.hash_of-hash.ensures in
    let f = c.find.ensures _ has.chart has.blocks (look_ready _ _ _ _ xs has _ _ class _ begins) in
    shown_found c.args.memory.now (g.Q.Equivalent.equivalent c.args.asked.now) xs f.0 (look_found _ _ _ _ xs has _ _ class _ begins _ f.1) _ f.2
