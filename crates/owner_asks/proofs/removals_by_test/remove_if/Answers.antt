-- It begins, and comes to what it was told.
use Rattle.std.specs.Prelude.{Some, None}
use Rattle.std.proofs.Common.{◌∙◌, ap, refl, sym, inl, subst}
use Rattle.owner_calls.specs.Given.RuleMaps.{IsClass}
use Rattle.owner_calls.specs.Given.CallersKind.{removes_if}
use Rattle.owner_asks.specs.Asks.Closures.{Removing, TestsAs}
use Rattle.owner_calls.specs.Owned.Owned.{hashed_by}
use Rattle.owner_calls.specs.declared.machines.Stop.TheVariants as stop
use Rattle.owner_asks.proofs.Asks.Asks.Begins.{removes_if_so}
use Rattle.owner_asks.proofs.Asks.Asks.Calls.{word_names, chosen_taken, chosen_means}
use Rattle.owner_asks.proofs.Asks.Asks.Comes.{comes_answered, comes_asking, comes_refused, ends_told}
use Rattle.owner_calls.proofs.Owned.Owned.Classes.{is_class}
use Rattle.owner_asks.proofs.Asks.Asks.Ran.{stopped_answered, stopped_refused, stopped_told}
use Rattle.owner_asks.proofs.removals_by_test.remove_if.Goals as goal

pub start-requires-clause-begun : goal.start-requires-clause-begun
start-requires-clause-begun g c = let r = c.requires.holds in (
  r.0,
  removes_if,
  None,
  (g.Q.Equivalent.equivalent c.args.asked.now),
  r.1,
  (removes_if_so g.K.PartialEq.eq ((hashed_by g.S.Hasher.Hasher.finish g.S.Hasher.Hasher.write g.S.BuildHasher.build_hasher g.K.Hash.hash_input) c.args.hasher.now) (λ x key. g.Q.Equivalent.equivalent x.asked.now key) c.args.setting _ _ c.hash_of-hash.type_inv (subst (λ x. IsClass g.K.PartialEq.eq ((hashed_by g.S.Hasher.Hasher.finish g.S.Hasher.Hasher.write g.S.BuildHasher.build_hasher g.K.Hash.hash_input) c.args.hasher.now) (g.Q.Equivalent.equivalent c.args.asked.now) x) (sym c.hash_of-hash.ensures)
      (is_class g.K.PartialEq.eq g.S.Hasher.Hasher.finish g.S.Hasher.Hasher.write g.S.BuildHasher.build_hasher g.K.Hash.hash_input c.args.hasher.now g.Q.Equivalent.equivalent g.Q.Hash.hash_input
      g.Q.Equivalent.stands_for g.met.Q.Equivalent.stands g.met.Q.Equivalent.hashed g.met.K.Eq.laws g.met.K.Hash.respects_eq c.args.asked.now)) _ c.remove_if-call.ensures),
)

pub pair_at-requires : goal.pair_at-requires
pair_at-requires g c =
    let r = c.requires.holds in
    let h = c.start.ensures.starts r.0 removes_if None (g.Q.Equivalent.equivalent c.args.asked.now) r.1
    (removes_if_so g.K.PartialEq.eq ((hashed_by g.S.Hasher.Hasher.finish g.S.Hasher.Hasher.write g.S.BuildHasher.build_hasher g.K.Hash.hash_input) c.args.hasher.now) (λ x key. g.Q.Equivalent.equivalent x.asked.now key) c.args.setting _ _ c.hash_of-hash.type_inv (subst (λ x. IsClass g.K.PartialEq.eq ((hashed_by g.S.Hasher.Hasher.finish g.S.Hasher.Hasher.write g.S.BuildHasher.build_hasher g.K.Hash.hash_input) c.args.hasher.now) (g.Q.Equivalent.equivalent c.args.asked.now) x) (sym c.hash_of-hash.ensures)
    (is_class g.K.PartialEq.eq g.S.Hasher.Hasher.finish g.S.Hasher.Hasher.write g.S.BuildHasher.build_hasher g.K.Hash.hash_input c.args.hasher.now g.Q.Equivalent.equivalent g.Q.Hash.hash_input
    g.Q.Equivalent.stands_for g.met.Q.Equivalent.stands g.met.Q.Equivalent.hashed g.met.K.Eq.laws g.met.K.Hash.respects_eq c.args.asked.now)) _ c.remove_if-call.ensures) in
    word_names (g.Q.Equivalent.equivalent c.args.asked.now) c.start.new.memory r.0 c.in-Ok-Asks-Some.word (comes_asking (λ x key. g.Q.Equivalent.equivalent x.asked.now key) g.K.PartialEq.eq (hashed_by g.S.Hasher.Hasher.finish g.S.Hasher.Hasher.write g.S.BuildHasher.build_hasher g.K.Hash.hash_input) c.args.hasher c.args.setting removes_if None (g.Q.Equivalent.equivalent c.args.asked.now) r.0 c.start.new.machine c.start.new.memory c.start.result h _ _ _ c.in-Ok-Asks-Some.is c.in-Ok-Asks-Some.field-0-is c.in-Ok-Asks-Some.field-0-0-is).2

pub test-yes-requires : goal.test-yes-requires
test-yes-requires g c =
    let r = c.requires.holds in
    let h = c.start.ensures.starts r.0 removes_if None (g.Q.Equivalent.equivalent c.args.asked.now) r.1
    (removes_if_so g.K.PartialEq.eq ((hashed_by g.S.Hasher.Hasher.finish g.S.Hasher.Hasher.write g.S.BuildHasher.build_hasher g.K.Hash.hash_input) c.args.hasher.now) (λ x key. g.Q.Equivalent.equivalent x.asked.now key) c.args.setting _ _ c.hash_of-hash.type_inv (subst (λ x. IsClass g.K.PartialEq.eq ((hashed_by g.S.Hasher.Hasher.finish g.S.Hasher.Hasher.write g.S.BuildHasher.build_hasher g.K.Hash.hash_input) c.args.hasher.now) (g.Q.Equivalent.equivalent c.args.asked.now) x) (sym c.hash_of-hash.ensures)
    (is_class g.K.PartialEq.eq g.S.Hasher.Hasher.finish g.S.Hasher.Hasher.write g.S.BuildHasher.build_hasher g.K.Hash.hash_input c.args.hasher.now g.Q.Equivalent.equivalent g.Q.Hash.hash_input
    g.Q.Equivalent.stands_for g.met.Q.Equivalent.stands g.met.Q.Equivalent.hashed g.met.K.Eq.laws g.met.K.Hash.respects_eq c.args.asked.now)) _ c.remove_if-call.ensures) in
    let w = (comes_asking (λ x key. g.Q.Equivalent.equivalent x.asked.now key) g.K.PartialEq.eq (hashed_by g.S.Hasher.Hasher.finish g.S.Hasher.Hasher.write g.S.BuildHasher.build_hasher g.K.Hash.hash_input) c.args.hasher c.args.setting removes_if None (g.Q.Equivalent.equivalent c.args.asked.now) r.0 c.start.new.machine c.start.new.memory c.start.result h _ _ _ c.in-Ok-Asks-Some.is c.in-Ok-Asks-Some.field-0-is c.in-Ok-Asks-Some.field-0-0-is).2 in
    let at = c.pair_at.ensures w.0 w.1 w.2 in
    r.2 (w.0, w.1) w.3 c.pair_at.result.0 c.pair_at.result.1 at.0 at.1

pub finish-requires : goal.finish-requires
finish-requires g c =
    let r = c.requires.holds in
    let h = c.start.ensures.starts r.0 removes_if None (g.Q.Equivalent.equivalent c.args.asked.now) r.1
    (removes_if_so g.K.PartialEq.eq ((hashed_by g.S.Hasher.Hasher.finish g.S.Hasher.Hasher.write g.S.BuildHasher.build_hasher g.K.Hash.hash_input) c.args.hasher.now) (λ x key. g.Q.Equivalent.equivalent x.asked.now key) c.args.setting _ _ c.hash_of-hash.type_inv (subst (λ x. IsClass g.K.PartialEq.eq ((hashed_by g.S.Hasher.Hasher.finish g.S.Hasher.Hasher.write g.S.BuildHasher.build_hasher g.K.Hash.hash_input) c.args.hasher.now) (g.Q.Equivalent.equivalent c.args.asked.now) x) (sym c.hash_of-hash.ensures)
    (is_class g.K.PartialEq.eq g.S.Hasher.Hasher.finish g.S.Hasher.Hasher.write g.S.BuildHasher.build_hasher g.K.Hash.hash_input c.args.hasher.now g.Q.Equivalent.equivalent g.Q.Hash.hash_input
    g.Q.Equivalent.stands_for g.met.Q.Equivalent.stands g.met.Q.Equivalent.hashed g.met.K.Eq.laws g.met.K.Hash.respects_eq c.args.asked.now)) _ c.remove_if-call.ensures) in
    (r.0, removes_if, None, (g.Q.Equivalent.equivalent c.args.asked.now), Some c.in-Ok-Asks-Some.word, (comes_asking (λ x key. g.Q.Equivalent.equivalent x.asked.now key) g.K.PartialEq.eq (hashed_by g.S.Hasher.Hasher.finish g.S.Hasher.Hasher.write g.S.BuildHasher.build_hasher g.K.Hash.hash_input) c.args.hasher c.args.setting removes_if None (g.Q.Equivalent.equivalent c.args.asked.now) r.0 c.start.new.machine c.start.new.memory c.start.result h _ _ _ c.in-Ok-Asks-Some.is c.in-Ok-Asks-Some.field-0-is c.in-Ok-Asks-Some.field-0-0-is).0, (chosen_taken c.in-Ok-Asks-Some.word c.test-yes.result c.chosen-reply.result c.chosen-reply.ensures))

pub unreachable-requires : goal.unreachable-requires
unreachable-requires g c =
    let r = c.requires.holds in
    let h = c.start.ensures.starts r.0 removes_if None (g.Q.Equivalent.equivalent c.args.asked.now) r.1
    (removes_if_so g.K.PartialEq.eq ((hashed_by g.S.Hasher.Hasher.finish g.S.Hasher.Hasher.write g.S.BuildHasher.build_hasher g.K.Hash.hash_input) c.args.hasher.now) (λ x key. g.Q.Equivalent.equivalent x.asked.now key) c.args.setting _ _ c.hash_of-hash.type_inv (subst (λ x. IsClass g.K.PartialEq.eq ((hashed_by g.S.Hasher.Hasher.finish g.S.Hasher.Hasher.write g.S.BuildHasher.build_hasher g.K.Hash.hash_input) c.args.hasher.now) (g.Q.Equivalent.equivalent c.args.asked.now) x) (sym c.hash_of-hash.ensures)
    (is_class g.K.PartialEq.eq g.S.Hasher.Hasher.finish g.S.Hasher.Hasher.write g.S.BuildHasher.build_hasher g.K.Hash.hash_input c.args.hasher.now g.Q.Equivalent.equivalent g.Q.Hash.hash_input
    g.Q.Equivalent.stands_for g.met.Q.Equivalent.stands g.met.Q.Equivalent.hashed g.met.K.Eq.laws g.met.K.Hash.respects_eq c.args.asked.now)) _ c.remove_if-call.ensures) in
    let e = (comes_asking (λ x key. g.Q.Equivalent.equivalent x.asked.now key) g.K.PartialEq.eq (hashed_by g.S.Hasher.Hasher.finish g.S.Hasher.Hasher.write g.S.BuildHasher.build_hasher g.K.Hash.hash_input) c.args.hasher c.args.setting removes_if None (g.Q.Equivalent.equivalent c.args.asked.now) r.0 c.start.new.machine c.start.new.memory c.start.result h _ _ _ c.in-Ok-Asks-None.is c.in-Ok-Asks-None.field-0-is c.in-Ok-Asks-None.field-0-0-is).3 in cc e

pub returns-in-Ok-Answered-clause-comes : goal.returns-in-Ok-Answered-clause-comes
returns-in-Ok-Answered-clause-comes g c = λ xs has.
    let h = c.start.ensures.starts xs removes_if None (g.Q.Equivalent.equivalent c.args.asked.now) has
    (removes_if_so g.K.PartialEq.eq ((hashed_by g.S.Hasher.Hasher.finish g.S.Hasher.Hasher.write g.S.BuildHasher.build_hasher g.K.Hash.hash_input) c.args.hasher.now) (λ x key. g.Q.Equivalent.equivalent x.asked.now key) c.args.setting _ _ c.hash_of-hash.type_inv (subst (λ x. IsClass g.K.PartialEq.eq ((hashed_by g.S.Hasher.Hasher.finish g.S.Hasher.Hasher.write g.S.BuildHasher.build_hasher g.K.Hash.hash_input) c.args.hasher.now) (g.Q.Equivalent.equivalent c.args.asked.now) x) (sym c.hash_of-hash.ensures)
    (is_class g.K.PartialEq.eq g.S.Hasher.Hasher.finish g.S.Hasher.Hasher.write g.S.BuildHasher.build_hasher g.K.Hash.hash_input c.args.hasher.now g.Q.Equivalent.equivalent g.Q.Hash.hash_input
    g.Q.Equivalent.stands_for g.met.Q.Equivalent.stands g.met.Q.Equivalent.hashed g.met.K.Eq.laws g.met.K.Hash.respects_eq c.args.asked.now)) _ c.remove_if-call.ensures) in
    comes_answered (λ x key. g.Q.Equivalent.equivalent x.asked.now key) g.K.PartialEq.eq (hashed_by g.S.Hasher.Hasher.finish g.S.Hasher.Hasher.write g.S.BuildHasher.build_hasher g.K.Hash.hash_input) c.args.hasher c.args.setting removes_if None (g.Q.Equivalent.equivalent c.args.asked.now) xs c.start.new.machine c.start.new.memory c.start.result h (Removing (TestsAs g.F.FnOnce c.args.test)) (λ e. tt) (λ y e. absurd (e refl)) _ _ c.in-Ok-Answered.is c.in-Ok-Answered.field-0-is

pub returns-in-Ok-Asks-Some-clause-comes : goal.returns-in-Ok-Asks-Some-clause-comes
returns-in-Ok-Asks-Some-clause-comes g c = λ xs has.
    let h = c.start.ensures.starts xs removes_if None (g.Q.Equivalent.equivalent c.args.asked.now) has
    (removes_if_so g.K.PartialEq.eq ((hashed_by g.S.Hasher.Hasher.finish g.S.Hasher.Hasher.write g.S.BuildHasher.build_hasher g.K.Hash.hash_input) c.args.hasher.now) (λ x key. g.Q.Equivalent.equivalent x.asked.now key) c.args.setting _ _ c.hash_of-hash.type_inv (subst (λ x. IsClass g.K.PartialEq.eq ((hashed_by g.S.Hasher.Hasher.finish g.S.Hasher.Hasher.write g.S.BuildHasher.build_hasher g.K.Hash.hash_input) c.args.hasher.now) (g.Q.Equivalent.equivalent c.args.asked.now) x) (sym c.hash_of-hash.ensures)
    (is_class g.K.PartialEq.eq g.S.Hasher.Hasher.finish g.S.Hasher.Hasher.write g.S.BuildHasher.build_hasher g.K.Hash.hash_input c.args.hasher.now g.Q.Equivalent.equivalent g.Q.Hash.hash_input
    g.Q.Equivalent.stands_for g.met.Q.Equivalent.stands g.met.Q.Equivalent.hashed g.met.K.Eq.laws g.met.K.Hash.respects_eq c.args.asked.now)) _ c.remove_if-call.ensures) in
    let a = comes_asking (λ x key. g.Q.Equivalent.equivalent x.asked.now key) g.K.PartialEq.eq (hashed_by g.S.Hasher.Hasher.finish g.S.Hasher.Hasher.write g.S.BuildHasher.build_hasher g.K.Hash.hash_input) c.args.hasher c.args.setting removes_if None (g.Q.Equivalent.equivalent c.args.asked.now) xs c.start.new.machine c.start.new.memory c.start.result h _ _ _ c.in-Ok-Asks-Some.is c.in-Ok-Asks-Some.field-0-is c.in-Ok-Asks-Some.field-0-0-is in
    let w = a.2 in
    let at = c.pair_at.ensures w.0 w.1 w.2 in
    ends_told g.K.PartialEq.eq (hashed_by g.S.Hasher.Hasher.finish g.S.Hasher.Hasher.write g.S.BuildHasher.build_hasher g.K.Hash.hash_input) c.args.hasher c.start.new.machine.hasher a.1 c.args.setting xs c.finish.new.memory (Removing (TestsAs g.F.FnOnce c.args.test)) c.chosen-reply.result (Some (w.0, w.1))
    (chosen_means (TestsAs g.F.FnOnce c.args.test) (w.0, w.1) c.test-yes.result c.chosen-reply.result c.chosen-reply.ensures (c.pair_at.result.0, c.pair_at.result.1, c.test-yes.ensures, at.0, at.1))
    (g.Q.Equivalent.equivalent c.args.asked.now) None w.3 c.finish.result (c.finish.ensures.ends xs removes_if None (g.Q.Equivalent.equivalent c.args.asked.now) (Some c.in-Ok-Asks-Some.word) a.0 (chosen_taken c.in-Ok-Asks-Some.word c.test-yes.result c.chosen-reply.result c.chosen-reply.ensures))

pub returns-in-Err-clause-comes : goal.returns-in-Err-clause-comes
returns-in-Err-clause-comes g c = λ xs has.
    let h = c.start.ensures.starts xs removes_if None (g.Q.Equivalent.equivalent c.args.asked.now) has
    (removes_if_so g.K.PartialEq.eq ((hashed_by g.S.Hasher.Hasher.finish g.S.Hasher.Hasher.write g.S.BuildHasher.build_hasher g.K.Hash.hash_input) c.args.hasher.now) (λ x key. g.Q.Equivalent.equivalent x.asked.now key) c.args.setting _ _ c.hash_of-hash.type_inv (subst (λ x. IsClass g.K.PartialEq.eq ((hashed_by g.S.Hasher.Hasher.finish g.S.Hasher.Hasher.write g.S.BuildHasher.build_hasher g.K.Hash.hash_input) c.args.hasher.now) (g.Q.Equivalent.equivalent c.args.asked.now) x) (sym c.hash_of-hash.ensures)
    (is_class g.K.PartialEq.eq g.S.Hasher.Hasher.finish g.S.Hasher.Hasher.write g.S.BuildHasher.build_hasher g.K.Hash.hash_input c.args.hasher.now g.Q.Equivalent.equivalent g.Q.Hash.hash_input
    g.Q.Equivalent.stands_for g.met.Q.Equivalent.stands g.met.Q.Equivalent.hashed g.met.K.Eq.laws g.met.K.Hash.respects_eq c.args.asked.now)) _ c.remove_if-call.ensures) in
    let r = comes_refused (λ x key. g.Q.Equivalent.equivalent x.asked.now key) g.K.PartialEq.eq (hashed_by g.S.Hasher.Hasher.finish g.S.Hasher.Hasher.write g.S.BuildHasher.build_hasher g.K.Hash.hash_input) c.args.hasher c.args.setting removes_if None (g.Q.Equivalent.equivalent c.args.asked.now) xs c.start.new.machine c.start.new.memory c.start.result h _ c.in-Err.is in (inl r.0, r.1, r.3)

pub returns-in-Ok-Answered-clause-ran : goal.returns-in-Ok-Answered-clause-ran
returns-in-Ok-Answered-clause-ran g c = stopped_answered (λ x key. g.Q.Equivalent.equivalent x.asked.now key) g.K.PartialEq.eq (hashed_by g.S.Hasher.Hasher.finish g.S.Hasher.Hasher.write g.S.BuildHasher.build_hasher g.K.Hash.hash_input) c.args.hasher c.args.setting _ _ _ _ (removes_if_so g.K.PartialEq.eq ((hashed_by g.S.Hasher.Hasher.finish g.S.Hasher.Hasher.write g.S.BuildHasher.build_hasher g.K.Hash.hash_input) c.args.hasher.now) (λ x key. g.Q.Equivalent.equivalent x.asked.now key) c.args.setting _ _ c.hash_of-hash.type_inv (subst (λ x. IsClass g.K.PartialEq.eq ((hashed_by g.S.Hasher.Hasher.finish g.S.Hasher.Hasher.write g.S.BuildHasher.build_hasher g.K.Hash.hash_input) c.args.hasher.now) (g.Q.Equivalent.equivalent c.args.asked.now) x) (sym c.hash_of-hash.ensures) (is_class g.K.PartialEq.eq g.S.Hasher.Hasher.finish g.S.Hasher.Hasher.write g.S.BuildHasher.build_hasher g.K.Hash.hash_input c.args.hasher.now g.Q.Equivalent.equivalent g.Q.Hash.hash_input g.Q.Equivalent.stands_for g.met.Q.Equivalent.stands g.met.Q.Equivalent.hashed g.met.K.Eq.laws g.met.K.Hash.respects_eq c.args.asked.now)) _ c.remove_if-call.ensures) _ _ _ c.start.ensures.ran _ _ c.in-Ok-Answered.is c.in-Ok-Answered.field-0-is

pub returns-in-Ok-Asks-Some-clause-ran : goal.returns-in-Ok-Asks-Some-clause-ran
returns-in-Ok-Asks-Some-clause-ran g c = stopped_told (λ x key. g.Q.Equivalent.equivalent x.asked.now key) g.K.PartialEq.eq (hashed_by g.S.Hasher.Hasher.finish g.S.Hasher.Hasher.write g.S.BuildHasher.build_hasher g.K.Hash.hash_input) c.args.hasher c.args.setting _ _ _ _ (removes_if_so g.K.PartialEq.eq ((hashed_by g.S.Hasher.Hasher.finish g.S.Hasher.Hasher.write g.S.BuildHasher.build_hasher g.K.Hash.hash_input) c.args.hasher.now) (λ x key. g.Q.Equivalent.equivalent x.asked.now key) c.args.setting _ _ c.hash_of-hash.type_inv (subst (λ x. IsClass g.K.PartialEq.eq ((hashed_by g.S.Hasher.Hasher.finish g.S.Hasher.Hasher.write g.S.BuildHasher.build_hasher g.K.Hash.hash_input) c.args.hasher.now) (g.Q.Equivalent.equivalent c.args.asked.now) x) (sym c.hash_of-hash.ensures) (is_class g.K.PartialEq.eq g.S.Hasher.Hasher.finish g.S.Hasher.Hasher.write g.S.BuildHasher.build_hasher g.K.Hash.hash_input c.args.hasher.now g.Q.Equivalent.equivalent g.Q.Hash.hash_input g.Q.Equivalent.stands_for g.met.Q.Equivalent.stands g.met.Q.Equivalent.hashed g.met.K.Eq.laws g.met.K.Hash.respects_eq c.args.asked.now)) _ c.remove_if-call.ensures) _ _ _ c.start.ensures.ran _ _ c.in-Ok-Asks-Some.is (c.in-Ok-Asks-Some.field-0-is ∙ ap stop.Asks c.in-Ok-Asks-Some.field-0-0-is) c.chosen-reply.result _ _ c.finish.ensures.ran

pub returns-in-Err-clause-ran : goal.returns-in-Err-clause-ran
returns-in-Err-clause-ran g c = stopped_refused (λ x key. g.Q.Equivalent.equivalent x.asked.now key) g.K.PartialEq.eq (hashed_by g.S.Hasher.Hasher.finish g.S.Hasher.Hasher.write g.S.BuildHasher.build_hasher g.K.Hash.hash_input) c.args.hasher c.args.setting _ _ _ _ (removes_if_so g.K.PartialEq.eq ((hashed_by g.S.Hasher.Hasher.finish g.S.Hasher.Hasher.write g.S.BuildHasher.build_hasher g.K.Hash.hash_input) c.args.hasher.now) (λ x key. g.Q.Equivalent.equivalent x.asked.now key) c.args.setting _ _ c.hash_of-hash.type_inv (subst (λ x. IsClass g.K.PartialEq.eq ((hashed_by g.S.Hasher.Hasher.finish g.S.Hasher.Hasher.write g.S.BuildHasher.build_hasher g.K.Hash.hash_input) c.args.hasher.now) (g.Q.Equivalent.equivalent c.args.asked.now) x) (sym c.hash_of-hash.ensures) (is_class g.K.PartialEq.eq g.S.Hasher.Hasher.finish g.S.Hasher.Hasher.write g.S.BuildHasher.build_hasher g.K.Hash.hash_input c.args.hasher.now g.Q.Equivalent.equivalent g.Q.Hash.hash_input g.Q.Equivalent.stands_for g.met.Q.Equivalent.stands g.met.Q.Equivalent.hashed g.met.K.Eq.laws g.met.K.Hash.respects_eq c.args.asked.now)) _ c.remove_if-call.ensures) _ _ _ c.start.ensures.ran _ c.in-Err.is
