-- It comes to its end, and what it comes to.
use Rattle.std.proofs.Common.{refl, sym, subst}
use Rattle.owner_calls.specs.Given.RuleMaps.{IsClass}
use Rattle.owner_calls.specs.Owned.Owned.{hashed_by}
use Rattle.owner_asks.proofs.Asks.Asks.Removes.{remove_ends, remove_by, remove_stopped}
use Rattle.owner_calls.proofs.Owned.Owned.Classes.{is_class}
use Rattle.owner_asks.proofs.removals_by_test.remove.Goals as goal

pub run_removal-requires : goal.run_removal-requires
run_removal-requires g c = let r = c.requires in remove_ends g.K.PartialEq.eq (λ x key. g.Q.Equivalent.equivalent x.asked.now key) (hashed_by g.S.Hasher.Hasher.finish g.S.Hasher.Hasher.write g.S.BuildHasher.build_hasher g.K.Hash.hash_input) c.args.hasher c.args.setting _ r.0 r.1 _ _ (subst (λ x. IsClass g.K.PartialEq.eq ((hashed_by g.S.Hasher.Hasher.finish g.S.Hasher.Hasher.write g.S.BuildHasher.build_hasher g.K.Hash.hash_input) c.args.hasher.now) (g.Q.Equivalent.equivalent c.args.asked.now) x) (sym c.hash_of-hash.ensures)
    (is_class g.K.PartialEq.eq g.S.Hasher.Hasher.finish g.S.Hasher.Hasher.write g.S.BuildHasher.build_hasher g.K.Hash.hash_input c.args.hasher.now g.Q.Equivalent.equivalent g.Q.Hash.hash_input
    g.Q.Equivalent.stands_for g.met.Q.Equivalent.stands g.met.Q.Equivalent.hashed g.met.K.Eq.laws g.met.K.Hash.respects_eq c.args.asked.now)) c.hash_of-hash.type_inv _ refl

pub returns-clause-comes : goal.returns-clause-comes
returns-clause-comes g c = λ xs has. remove_by g.K.PartialEq.eq (λ x key. g.Q.Equivalent.equivalent x.asked.now key) (hashed_by g.S.Hasher.Hasher.finish g.S.Hasher.Hasher.write g.S.BuildHasher.build_hasher g.K.Hash.hash_input) c.args.hasher c.args.setting _ xs has _ _ (subst (λ x. IsClass g.K.PartialEq.eq ((hashed_by g.S.Hasher.Hasher.finish g.S.Hasher.Hasher.write g.S.BuildHasher.build_hasher g.K.Hash.hash_input) c.args.hasher.now) (g.Q.Equivalent.equivalent c.args.asked.now) x) (sym c.hash_of-hash.ensures)
    (is_class g.K.PartialEq.eq g.S.Hasher.Hasher.finish g.S.Hasher.Hasher.write g.S.BuildHasher.build_hasher g.K.Hash.hash_input c.args.hasher.now g.Q.Equivalent.equivalent g.Q.Hash.hash_input
    g.Q.Equivalent.stands_for g.met.Q.Equivalent.stands g.met.Q.Equivalent.hashed g.met.K.Eq.laws g.met.K.Hash.respects_eq c.args.asked.now)) c.hash_of-hash.type_inv _ refl _ _ _ c.run_removal.ensures.1

pub returns-clause-ran : goal.returns-clause-ran
returns-clause-ran g c = let r = c.requires in remove_stopped g.K.PartialEq.eq (λ x key. g.Q.Equivalent.equivalent x.asked.now key) (hashed_by g.S.Hasher.Hasher.finish g.S.Hasher.Hasher.write g.S.BuildHasher.build_hasher g.K.Hash.hash_input) c.args.hasher c.args.setting _ r.0 r.1 _ _ (subst (λ x. IsClass g.K.PartialEq.eq ((hashed_by g.S.Hasher.Hasher.finish g.S.Hasher.Hasher.write g.S.BuildHasher.build_hasher g.K.Hash.hash_input) c.args.hasher.now) (g.Q.Equivalent.equivalent c.args.asked.now) x) (sym c.hash_of-hash.ensures)
    (is_class g.K.PartialEq.eq g.S.Hasher.Hasher.finish g.S.Hasher.Hasher.write g.S.BuildHasher.build_hasher g.K.Hash.hash_input c.args.hasher.now g.Q.Equivalent.equivalent g.Q.Hash.hash_input
    g.Q.Equivalent.stands_for g.met.Q.Equivalent.stands g.met.Q.Equivalent.hashed g.met.K.Eq.laws g.met.K.Hash.respects_eq c.args.asked.now)) c.hash_of-hash.type_inv _ refl _ _ _ c.run_removal.ensures.1
