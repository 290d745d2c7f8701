-- It begins, and comes to what it was told.
use Rattle.std.specs.Fn.{FnOnceReturnsAt}
use Rattle.std.specs.Prelude.{[], Some, None}
use Rattle.std.proofs.Common.{◌≡◌, ◌∙◌, ap, refl, inl, subst}
use Rattle.papaya_raw.specs.declared.machines.asking.MachineReply.TheVariants as reply
use Rattle.owner_calls.specs.Given.CallersKind.{updates_or_inserts}
use Rattle.owner_calls.specs.Given.CallersPairs.{IsTold}
use Rattle.owner_asks.specs.Asks.Closures.{HasOutcome, UpdatingOrStoring}
use Rattle.seize_words.specs.declared.refused.RefusedKey.{RefusedKey}
use Rattle.owner_calls.specs.Owned.Calling.{HasStopped, stop_by}
use Rattle.owner_calls.specs.Owned.Owned.{hashed_by}
use Rattle.owner_calls.specs.declared.machines.Stop.TheVariants as stop
use Rattle.owner_asks.proofs.Asks.Asks.Begins.{updates_or_inserts_so}
use Rattle.owner_asks.proofs.Asks.Asks.Calls.{word_names}
use Rattle.owner_asks.proofs.Asks.Asks.Comes.{comes_answered, comes_asking, comes_refused, comes_told, comes_with}
use Rattle.owner_asks.proofs.Asks.Asks.Ran.{stopped_answered, stopped_refused, stopped_told}
use Rattle.owner_asks.proofs.updates.update_or_insert.Goals as goal

pub start-requires-clause-begun : goal.start-requires-clause-begun
start-requires-clause-begun g c = let r = c.requires.holds in (r.0, updates_or_inserts, Some c.args.key, g.K.PartialEq.eq c.args.key, r.1, (updates_or_inserts_so g.K.PartialEq.eq ((hashed_by g.S.Hasher.Hasher.finish g.S.Hasher.Hasher.write g.S.BuildHasher.build_hasher g.K.Hash.hash_input) c.args.hasher.now) c.args.setting c.args.key _ c.hash_of-hash.ensures _ c.update_or_insert_with-call.ensures))

pub pair_at-requires : goal.pair_at-requires
pair_at-requires g c =
    let r = c.requires.holds in
    let h = c.start.ensures.starts r.0 updates_or_inserts (Some c.args.key) (g.K.PartialEq.eq c.args.key) r.1 (updates_or_inserts_so g.K.PartialEq.eq ((hashed_by g.S.Hasher.Hasher.finish g.S.Hasher.Hasher.write g.S.BuildHasher.build_hasher g.K.Hash.hash_input) c.args.hasher.now) c.args.setting c.args.key _ c.hash_of-hash.ensures _ c.update_or_insert_with-call.ensures) in
    word_names (g.K.PartialEq.eq c.args.key) c.start.new.memory r.0 c.in-Ok-Asks-Some.word (comes_asking g.K.PartialEq.eq g.K.PartialEq.eq (hashed_by g.S.Hasher.Hasher.finish g.S.Hasher.Hasher.write g.S.BuildHasher.build_hasher g.K.Hash.hash_input) c.args.hasher c.args.setting updates_or_inserts (Some c.args.key) (g.K.PartialEq.eq c.args.key) r.0 c.start.new.machine c.start.new.memory c.start.result h _ _ _ c.in-Ok-Asks-Some.is c.in-Ok-Asks-Some.field-0-is c.in-Ok-Asks-Some.field-0-0-is).2

pub make-new-requires : goal.make-new-requires
make-new-requires g c =
    let r = c.requires.holds in
    let h = c.start.ensures.starts r.0 updates_or_inserts (Some c.args.key) (g.K.PartialEq.eq c.args.key) r.1 (updates_or_inserts_so g.K.PartialEq.eq ((hashed_by g.S.Hasher.Hasher.finish g.S.Hasher.Hasher.write g.S.BuildHasher.build_hasher g.K.Hash.hash_input) c.args.hasher.now) c.args.setting c.args.key _ c.hash_of-hash.ensures _ c.update_or_insert_with-call.ensures) in
    let w = (comes_asking g.K.PartialEq.eq g.K.PartialEq.eq (hashed_by g.S.Hasher.Hasher.finish g.S.Hasher.Hasher.write g.S.BuildHasher.build_hasher g.K.Hash.hash_input) c.args.hasher c.args.setting updates_or_inserts (Some c.args.key) (g.K.PartialEq.eq c.args.key) r.0 c.start.new.machine c.start.new.memory c.start.result h _ _ _ c.in-Ok-Asks-Some.is c.in-Ok-Asks-Some.field-0-is c.in-Ok-Asks-Some.field-0-0-is).2 in
    r.2 (w.0, w.1) w.3 c.pair_at.result.1 ((c.pair_at.ensures w.0 w.1 w.2).1)

pub replied-requires : goal.replied-requires
replied-requires g c =
    let r = c.requires.holds in
    let h = c.start.ensures.starts r.0 updates_or_inserts (Some c.args.key) (g.K.PartialEq.eq c.args.key) r.1 (updates_or_inserts_so g.K.PartialEq.eq ((hashed_by g.S.Hasher.Hasher.finish g.S.Hasher.Hasher.write g.S.BuildHasher.build_hasher g.K.Hash.hash_input) c.args.hasher.now) c.args.setting c.args.key _ c.hash_of-hash.ensures _ c.update_or_insert_with-call.ensures) in
    (r.0, updates_or_inserts, c.args.key, Some c.in-Ok-Asks-Some.word, (comes_asking g.K.PartialEq.eq g.K.PartialEq.eq (hashed_by g.S.Hasher.Hasher.finish g.S.Hasher.Hasher.write g.S.BuildHasher.build_hasher g.K.Hash.hash_input) c.args.hasher c.args.setting updates_or_inserts (Some c.args.key) (g.K.PartialEq.eq c.args.key) r.0 c.start.new.machine c.start.new.memory c.start.result h _ _ _ c.in-Ok-Asks-Some.is c.in-Ok-Asks-Some.field-0-is c.in-Ok-Asks-Some.field-0-0-is).0, tt)

pub stored-requires : goal.stored-requires
stored-requires g c =
    let r = c.requires.holds in
    let h = c.start.ensures.starts r.0 updates_or_inserts (Some c.args.key) (g.K.PartialEq.eq c.args.key) r.1 (updates_or_inserts_so g.K.PartialEq.eq ((hashed_by g.S.Hasher.Hasher.finish g.S.Hasher.Hasher.write g.S.BuildHasher.build_hasher g.K.Hash.hash_input) c.args.hasher.now) c.args.setting c.args.key _ c.hash_of-hash.ensures _ c.update_or_insert_with-call.ensures) in
    (r.0, updates_or_inserts, c.args.key, (comes_asking g.K.PartialEq.eq g.K.PartialEq.eq (hashed_by g.S.Hasher.Hasher.finish g.S.Hasher.Hasher.write g.S.BuildHasher.build_hasher g.K.Hash.hash_input) c.args.hasher c.args.setting updates_or_inserts (Some c.args.key) (g.K.PartialEq.eq c.args.key) r.0 c.start.new.machine c.start.new.memory c.start.result h _ _ _ c.in-Ok-Asks-None.is c.in-Ok-Asks-None.field-0-is c.in-Ok-Asks-None.field-0-0-is).0, refl)

pub key_of-key-requires : goal.key_of-key-requires
key_of-key-requires g c =
    let r = c.requires.holds in
    let h = c.start.ensures.starts r.0 updates_or_inserts (Some c.args.key) (g.K.PartialEq.eq c.args.key) r.1 (updates_or_inserts_so g.K.PartialEq.eq ((hashed_by g.S.Hasher.Hasher.finish g.S.Hasher.Hasher.write g.S.BuildHasher.build_hasher g.K.Hash.hash_input) c.args.hasher.now) c.args.setting c.args.key _ c.hash_of-hash.ensures _ c.update_or_insert_with-call.ensures) in
    (c.args.key, (comes_refused g.K.PartialEq.eq g.K.PartialEq.eq (hashed_by g.S.Hasher.Hasher.finish g.S.Hasher.Hasher.write g.S.BuildHasher.build_hasher g.K.Hash.hash_input) c.args.hasher c.args.setting updates_or_inserts (Some c.args.key) (g.K.PartialEq.eq c.args.key) r.0 c.start.new.machine c.start.new.memory c.start.result h _ c.in-Err.is).2 c.args.key refl)

pub returns-in-Ok-Answered-clause-comes : goal.returns-in-Ok-Answered-clause-comes
returns-in-Ok-Answered-clause-comes g c = λ xs has.
    let h = c.start.ensures.starts xs updates_or_inserts (Some c.args.key) (g.K.PartialEq.eq c.args.key) has (updates_or_inserts_so g.K.PartialEq.eq ((hashed_by g.S.Hasher.Hasher.finish g.S.Hasher.Hasher.write g.S.BuildHasher.build_hasher g.K.Hash.hash_input) c.args.hasher.now) c.args.setting c.args.key _ c.hash_of-hash.ensures _ c.update_or_insert_with-call.ensures) in
    comes_answered g.K.PartialEq.eq g.K.PartialEq.eq (hashed_by g.S.Hasher.Hasher.finish g.S.Hasher.Hasher.write g.S.BuildHasher.build_hasher g.K.Hash.hash_input) c.args.hasher c.args.setting updates_or_inserts (Some c.args.key) (g.K.PartialEq.eq c.args.key) xs c.start.new.machine c.start.new.memory c.start.result h (UpdatingOrStoring (FnOnceReturnsAt g.F.FnOnce c.args.make) (λ value. value ≡ c.args.value)) (λ e. e refl) (λ y e. e refl) _ _ c.in-Ok-Answered.is c.in-Ok-Answered.field-0-is

pub returns-in-Ok-clause-comes : goal.returns-in-Ok-clause-comes
returns-in-Ok-clause-comes g c = λ xs has.
    let h = c.start.ensures.starts xs updates_or_inserts (Some c.args.key) (g.K.PartialEq.eq c.args.key) has (updates_or_inserts_so g.K.PartialEq.eq ((hashed_by g.S.Hasher.Hasher.finish g.S.Hasher.Hasher.write g.S.BuildHasher.build_hasher g.K.Hash.hash_input) c.args.hasher.now) c.args.setting c.args.key _ c.hash_of-hash.ensures _ c.update_or_insert_with-call.ensures) in
    let a = comes_asking g.K.PartialEq.eq g.K.PartialEq.eq (hashed_by g.S.Hasher.Hasher.finish g.S.Hasher.Hasher.write g.S.BuildHasher.build_hasher g.K.Hash.hash_input) c.args.hasher c.args.setting updates_or_inserts (Some c.args.key) (g.K.PartialEq.eq c.args.key) xs c.start.new.machine c.start.new.memory c.start.result h _ _ _ c.in-Ok-Asks-Some.is c.in-Ok-Asks-Some.field-0-is c.in-Ok-Asks-Some.field-0-0-is in
    let w = a.2 in
    subst (HasOutcome g.K.PartialEq.eq ((hashed_by g.S.Hasher.Hasher.finish g.S.Hasher.Hasher.write g.S.BuildHasher.build_hasher g.K.Hash.hash_input) c.args.hasher.now) c.args.setting c.replied.new.memory c.args.key xs (UpdatingOrStoring (FnOnceReturnsAt g.F.FnOnce c.args.make) (λ value. value ≡ c.args.value))) c.in-Ok.is (comes_told g.K.PartialEq.eq (hashed_by g.S.Hasher.Hasher.finish g.S.Hasher.Hasher.write g.S.BuildHasher.build_hasher g.K.Hash.hash_input) c.args.hasher c.start.new.machine.hasher a.1 c.args.setting xs c.replied.new.memory (UpdatingOrStoring (FnOnceReturnsAt g.F.FnOnce c.args.make) (λ value. value ≡ c.args.value)) (reply.Insert c.make-new.result) (Some (w.0, w.1))
    (c.pair_at.result.1, c.make-new.ensures, (c.pair_at.ensures w.0 w.1 w.2).1) c.args.key w.3 c.replied.result (c.replied.ensures.comes xs updates_or_inserts c.args.key (Some c.in-Ok-Asks-Some.word) a.0 tt))

pub returns-in-Err-replied-clause-comes : goal.returns-in-Err-replied-clause-comes
returns-in-Err-replied-clause-comes g c = λ xs has.
    let h = c.start.ensures.starts xs updates_or_inserts (Some c.args.key) (g.K.PartialEq.eq c.args.key) has (updates_or_inserts_so g.K.PartialEq.eq ((hashed_by g.S.Hasher.Hasher.finish g.S.Hasher.Hasher.write g.S.BuildHasher.build_hasher g.K.Hash.hash_input) c.args.hasher.now) c.args.setting c.args.key _ c.hash_of-hash.ensures _ c.update_or_insert_with-call.ensures) in
    let a = comes_asking g.K.PartialEq.eq g.K.PartialEq.eq (hashed_by g.S.Hasher.Hasher.finish g.S.Hasher.Hasher.write g.S.BuildHasher.build_hasher g.K.Hash.hash_input) c.args.hasher c.args.setting updates_or_inserts (Some c.args.key) (g.K.PartialEq.eq c.args.key) xs c.start.new.machine c.start.new.memory c.start.result h _ _ _ c.in-Ok-Asks-Some.is c.in-Ok-Asks-Some.field-0-is c.in-Ok-Asks-Some.field-0-0-is in
    let w = a.2 in
    let e = subst (HasOutcome g.K.PartialEq.eq ((hashed_by g.S.Hasher.Hasher.finish g.S.Hasher.Hasher.write g.S.BuildHasher.build_hasher g.K.Hash.hash_input) c.args.hasher.now) c.args.setting c.replied.new.memory c.args.key xs (UpdatingOrStoring (FnOnceReturnsAt g.F.FnOnce c.args.make) (λ value. value ≡ c.args.value))) c.in-Err-replied.is (comes_told g.K.PartialEq.eq (hashed_by g.S.Hasher.Hasher.finish g.S.Hasher.Hasher.write g.S.BuildHasher.build_hasher g.K.Hash.hash_input) c.args.hasher c.start.new.machine.hasher a.1 c.args.setting xs c.replied.new.memory (UpdatingOrStoring (FnOnceReturnsAt g.F.FnOnce c.args.make) (λ value. value ≡ c.args.value)) (reply.Insert c.make-new.result) (Some (w.0, w.1))
    (c.pair_at.result.1, c.make-new.ensures, (c.pair_at.ensures w.0 w.1 w.2).1) c.args.key w.3 c.replied.result (c.replied.ensures.comes xs updates_or_inserts c.args.key (Some c.in-Ok-Asks-Some.word) a.0 tt)) in (e.0, e.1, refl)

pub returns-in-Ok-Asks-None-clause-comes : goal.returns-in-Ok-Asks-None-clause-comes
returns-in-Ok-Asks-None-clause-comes g c = λ xs has.
    let h = c.start.ensures.starts xs updates_or_inserts (Some c.args.key) (g.K.PartialEq.eq c.args.key) has (updates_or_inserts_so g.K.PartialEq.eq ((hashed_by g.S.Hasher.Hasher.finish g.S.Hasher.Hasher.write g.S.BuildHasher.build_hasher g.K.Hash.hash_input) c.args.hasher.now) c.args.setting c.args.key _ c.hash_of-hash.ensures _ c.update_or_insert_with-call.ensures) in
    let a = comes_asking g.K.PartialEq.eq g.K.PartialEq.eq (hashed_by g.S.Hasher.Hasher.finish g.S.Hasher.Hasher.write g.S.BuildHasher.build_hasher g.K.Hash.hash_input) c.args.hasher c.args.setting updates_or_inserts (Some c.args.key) (g.K.PartialEq.eq c.args.key) xs c.start.new.machine c.start.new.memory c.start.result h _ _ _ c.in-Ok-Asks-None.is c.in-Ok-Asks-None.field-0-is c.in-Ok-Asks-None.field-0-0-is in
    comes_with g.K.PartialEq.eq (hashed_by g.S.Hasher.Hasher.finish g.S.Hasher.Hasher.write g.S.BuildHasher.build_hasher g.K.Hash.hash_input) c.args.hasher c.start.new.machine.hasher a.1 c.args.setting xs c.stored.new.memory (UpdatingOrStoring (FnOnceReturnsAt g.F.FnOnce c.args.make) (λ value. value ≡ c.args.value)) (reply.Insert c.args.value) None refl c.args.key a.2 c.args.value c.stored.result
    (c.stored.ensures.comes xs updates_or_inserts c.args.key a.0 refl)

pub returns-in-Err-clause-comes : goal.returns-in-Err-clause-comes
returns-in-Err-clause-comes g c = λ xs has.
    let h = c.start.ensures.starts xs updates_or_inserts (Some c.args.key) (g.K.PartialEq.eq c.args.key) has (updates_or_inserts_so g.K.PartialEq.eq ((hashed_by g.S.Hasher.Hasher.finish g.S.Hasher.Hasher.write g.S.BuildHasher.build_hasher g.K.Hash.hash_input) c.args.hasher.now) c.args.setting c.args.key _ c.hash_of-hash.ensures _ c.update_or_insert_with-call.ensures) in
    let r = comes_refused g.K.PartialEq.eq g.K.PartialEq.eq (hashed_by g.S.Hasher.Hasher.finish g.S.Hasher.Hasher.write g.S.BuildHasher.build_hasher g.K.Hash.hash_input) c.args.hasher c.args.setting updates_or_inserts (Some c.args.key) (g.K.PartialEq.eq c.args.key) xs c.start.new.machine c.start.new.memory c.start.result h _ c.in-Err.is in ((inl r.0, r.1, r.3), c.key_of-key.ensures c.args.key (r.2 c.args.key refl), refl)

pub returns-in-Ok-Answered-clause-ran : goal.returns-in-Ok-Answered-clause-ran
returns-in-Ok-Answered-clause-ran g c = stopped_answered g.K.PartialEq.eq g.K.PartialEq.eq (hashed_by g.S.Hasher.Hasher.finish g.S.Hasher.Hasher.write g.S.BuildHasher.build_hasher g.K.Hash.hash_input) c.args.hasher c.args.setting _ _ _ _ (updates_or_inserts_so g.K.PartialEq.eq ((hashed_by g.S.Hasher.Hasher.finish g.S.Hasher.Hasher.write g.S.BuildHasher.build_hasher g.K.Hash.hash_input) c.args.hasher.now) c.args.setting c.args.key _ c.hash_of-hash.ensures _ c.update_or_insert_with-call.ensures) _ _ _ c.start.ensures.ran _ _ c.in-Ok-Answered.is c.in-Ok-Answered.field-0-is

pub returns-in-Ok-clause-ran : goal.returns-in-Ok-clause-ran
returns-in-Ok-clause-ran g c = subst (λ z. HasStopped g.K.PartialEq.eq g.K.PartialEq.eq (hashed_by g.S.Hasher.Hasher.finish g.S.Hasher.Hasher.write g.S.BuildHasher.build_hasher g.K.Hash.hash_input) c.args.hasher c.args.setting c.args.memory.now (g.K.PartialEq.eq c.args.key) (IsTold updates_or_inserts (Some c.args.key) []) c.replied.new.memory (stop_by (λ (e : RefusedKey _). e.fault) z)) c.in-Ok.is (stopped_told g.K.PartialEq.eq g.K.PartialEq.eq (hashed_by g.S.Hasher.Hasher.finish g.S.Hasher.Hasher.write g.S.BuildHasher.build_hasher g.K.Hash.hash_input) c.args.hasher c.args.setting _ _ _ _ (updates_or_inserts_so g.K.PartialEq.eq ((hashed_by g.S.Hasher.Hasher.finish g.S.Hasher.Hasher.write g.S.BuildHasher.build_hasher g.K.Hash.hash_input) c.args.hasher.now) c.args.setting c.args.key _ c.hash_of-hash.ensures _ c.update_or_insert_with-call.ensures) _ _ _ c.start.ensures.ran _ _ c.in-Ok-Asks-Some.is (c.in-Ok-Asks-Some.field-0-is ∙ ap stop.Asks c.in-Ok-Asks-Some.field-0-0-is) (reply.Insert c.make-new.result) _ _ c.replied.ensures.ran)

pub returns-in-Err-replied-clause-ran : goal.returns-in-Err-replied-clause-ran
returns-in-Err-replied-clause-ran g c = subst (λ z. HasStopped g.K.PartialEq.eq g.K.PartialEq.eq (hashed_by g.S.Hasher.Hasher.finish g.S.Hasher.Hasher.write g.S.BuildHasher.build_hasher g.K.Hash.hash_input) c.args.hasher c.args.setting c.args.memory.now (g.K.PartialEq.eq c.args.key) (IsTold updates_or_inserts (Some c.args.key) []) c.replied.new.memory (stop_by (λ (e : RefusedKey _). e.fault) z)) c.in-Err-replied.is (stopped_told g.K.PartialEq.eq g.K.PartialEq.eq (hashed_by g.S.Hasher.Hasher.finish g.S.Hasher.Hasher.write g.S.BuildHasher.build_hasher g.K.Hash.hash_input) c.args.hasher c.args.setting _ _ _ _ (updates_or_inserts_so g.K.PartialEq.eq ((hashed_by g.S.Hasher.Hasher.finish g.S.Hasher.Hasher.write g.S.BuildHasher.build_hasher g.K.Hash.hash_input) c.args.hasher.now) c.args.setting c.args.key _ c.hash_of-hash.ensures _ c.update_or_insert_with-call.ensures) _ _ _ c.start.ensures.ran _ _ c.in-Ok-Asks-Some.is (c.in-Ok-Asks-Some.field-0-is ∙ ap stop.Asks c.in-Ok-Asks-Some.field-0-0-is) (reply.Insert c.make-new.result) _ _ c.replied.ensures.ran)

pub returns-in-Ok-Asks-None-clause-ran : goal.returns-in-Ok-Asks-None-clause-ran
returns-in-Ok-Asks-None-clause-ran g c = stopped_told g.K.PartialEq.eq g.K.PartialEq.eq (hashed_by g.S.Hasher.Hasher.finish g.S.Hasher.Hasher.write g.S.BuildHasher.build_hasher g.K.Hash.hash_input) c.args.hasher c.args.setting _ _ _ _ (updates_or_inserts_so g.K.PartialEq.eq ((hashed_by g.S.Hasher.Hasher.finish g.S.Hasher.Hasher.write g.S.BuildHasher.build_hasher g.K.Hash.hash_input) c.args.hasher.now) c.args.setting c.args.key _ c.hash_of-hash.ensures _ c.update_or_insert_with-call.ensures) _ _ _ c.start.ensures.ran _ _ c.in-Ok-Asks-None.is (c.in-Ok-Asks-None.field-0-is ∙ ap stop.Asks c.in-Ok-Asks-None.field-0-0-is) (reply.Insert c.args.value) _ _ c.stored.ensures.ran

pub returns-in-Err-clause-ran : goal.returns-in-Err-clause-ran
returns-in-Err-clause-ran g c = stopped_refused g.K.PartialEq.eq g.K.PartialEq.eq (hashed_by g.S.Hasher.Hasher.finish g.S.Hasher.Hasher.write g.S.BuildHasher.build_hasher g.K.Hash.hash_input) c.args.hasher c.args.setting _ _ _ _ (updates_or_inserts_so g.K.PartialEq.eq ((hashed_by g.S.Hasher.Hasher.finish g.S.Hasher.Hasher.write g.S.BuildHasher.build_hasher g.K.Hash.hash_input) c.args.hasher.now) c.args.setting c.args.key _ c.hash_of-hash.ensures _ c.update_or_insert_with-call.ensures) _ _ _ c.start.ensures.ran _ c.in-Err.is
