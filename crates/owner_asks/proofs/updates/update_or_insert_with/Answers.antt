-- It begins, and comes to what it was told.
use Rattle.std.specs.Fn.{FnOnceReturns, FnOnceReturnsAt}
use Rattle.std.specs.Prelude.{Some, None}
use Rattle.std.proofs.Common.{◌∙◌, ap, refl, inl}
use Rattle.papaya_raw.specs.declared.machines.asking.MachineReply.TheVariants as reply
use Rattle.owner_calls.specs.Given.CallersKind.{updates_or_inserts}
use Rattle.owner_asks.specs.Asks.Closures.{UpdatingOrStoring}
use Rattle.owner_calls.specs.Owned.Owned.{hashed_by}
use Rattle.owner_calls.specs.declared.machines.Stop.TheVariants as stop
use Rattle.owner_asks.proofs.Asks.Asks.Begins.{updates_or_inserts_so}
use Rattle.owner_asks.proofs.Asks.Asks.Calls.{word_names}
use Rattle.owner_asks.proofs.Asks.Asks.Comes.{comes_answered, comes_asking, comes_refused, comes_told}
use Rattle.owner_asks.proofs.Asks.Asks.Ran.{stopped_answered, stopped_refused, stopped_told}
use Rattle.owner_asks.proofs.updates.update_or_insert_with.Goals as goal

pub start-requires-clause-begun : goal.start-requires-clause-begun
start-requires-clause-begun g c = let r = c.requires.holds in (r.0, updates_or_inserts, Some c.args.key, g.K.PartialEq.eq c.args.key, r.1, (updates_or_inserts_so g.K.PartialEq.eq ((hashed_by g.S.Hasher.Hasher.finish g.S.Hasher.Hasher.write g.S.BuildHasher.build_hasher g.K.Hash.hash_input) c.args.hasher.now) c.args.setting c.args.key _ c.hash_of-hash.ensures _ c.update_or_insert_with-call.ensures))

pub pair_at-requires : goal.pair_at-requires
pair_at-requires g c =
    let r = c.requires.holds in
    let h = c.start.ensures.starts r.0 updates_or_inserts (Some c.args.key) (g.K.PartialEq.eq c.args.key) r.1 (updates_or_inserts_so g.K.PartialEq.eq ((hashed_by g.S.Hasher.Hasher.finish g.S.Hasher.Hasher.write g.S.BuildHasher.build_hasher g.K.Hash.hash_input) c.args.hasher.now) c.args.setting c.args.key _ c.hash_of-hash.ensures _ c.update_or_insert_with-call.ensures) in
    word_names (g.K.PartialEq.eq c.args.key) c.start.new.memory r.0 c.in-Ok-Asks-Some.word (comes_asking g.K.PartialEq.eq g.K.PartialEq.eq (hashed_by g.S.Hasher.Hasher.finish g.S.Hasher.Hasher.write g.S.BuildHasher.build_hasher g.K.Hash.hash_input) c.args.hasher c.args.setting updates_or_inserts (Some c.args.key) (g.K.PartialEq.eq c.args.key) r.0 c.start.new.machine c.start.new.memory c.start.result h _ _ _ c.in-Ok-Asks-Some.is c.in-Ok-Asks-Some.field-0-is c.in-Ok-Asks-Some.field-0-0-is).2

pub begin-value-requires : goal.begin-value-requires
begin-value-requires g c =
    let r = c.requires.holds in
    let h = c.start.ensures.starts r.0 updates_or_inserts (Some c.args.key) (g.K.PartialEq.eq c.args.key) r.1 (updates_or_inserts_so g.K.PartialEq.eq ((hashed_by g.S.Hasher.Hasher.finish g.S.Hasher.Hasher.write g.S.BuildHasher.build_hasher g.K.Hash.hash_input) c.args.hasher.now) c.args.setting c.args.key _ c.hash_of-hash.ensures _ c.update_or_insert_with-call.ensures) in
    r.2 (comes_asking g.K.PartialEq.eq g.K.PartialEq.eq (hashed_by g.S.Hasher.Hasher.finish g.S.Hasher.Hasher.write g.S.BuildHasher.build_hasher g.K.Hash.hash_input) c.args.hasher c.args.setting updates_or_inserts (Some c.args.key) (g.K.PartialEq.eq c.args.key) r.0 c.start.new.machine c.start.new.memory c.start.result h _ _ _ c.in-Ok-Asks-None.is c.in-Ok-Asks-None.field-0-is c.in-Ok-Asks-None.field-0-0-is).2

pub make-value-requires : goal.make-value-requires
make-value-requires g c =
    let r = c.requires.holds in
    let h = c.start.ensures.starts r.0 updates_or_inserts (Some c.args.key) (g.K.PartialEq.eq c.args.key) r.1 (updates_or_inserts_so g.K.PartialEq.eq ((hashed_by g.S.Hasher.Hasher.finish g.S.Hasher.Hasher.write g.S.BuildHasher.build_hasher g.K.Hash.hash_input) c.args.hasher.now) c.args.setting c.args.key _ c.hash_of-hash.ensures _ c.update_or_insert_with-call.ensures) in
    let w = (comes_asking g.K.PartialEq.eq g.K.PartialEq.eq (hashed_by g.S.Hasher.Hasher.finish g.S.Hasher.Hasher.write g.S.BuildHasher.build_hasher g.K.Hash.hash_input) c.args.hasher c.args.setting updates_or_inserts (Some c.args.key) (g.K.PartialEq.eq c.args.key) r.0 c.start.new.machine c.start.new.memory c.start.result h _ _ _ c.in-Ok-Asks-Some.is c.in-Ok-Asks-Some.field-0-is c.in-Ok-Asks-Some.field-0-0-is).2 in
    r.3 (w.0, w.1) w.3 c.pair_at.result.1 ((c.pair_at.ensures w.0 w.1 w.2).1)

pub replied-requires : goal.replied-requires
replied-requires g c =
    let r = c.requires.holds in
    let h = c.start.ensures.starts r.0 updates_or_inserts (Some c.args.key) (g.K.PartialEq.eq c.args.key) r.1 (updates_or_inserts_so g.K.PartialEq.eq ((hashed_by g.S.Hasher.Hasher.finish g.S.Hasher.Hasher.write g.S.BuildHasher.build_hasher g.K.Hash.hash_input) c.args.hasher.now) c.args.setting c.args.key _ c.hash_of-hash.ensures _ c.update_or_insert_with-call.ensures) in
    (r.0, updates_or_inserts, c.args.key, Some c.in-Ok-Asks-Some.word, (comes_asking g.K.PartialEq.eq g.K.PartialEq.eq (hashed_by g.S.Hasher.Hasher.finish g.S.Hasher.Hasher.write g.S.BuildHasher.build_hasher g.K.Hash.hash_input) c.args.hasher c.args.setting updates_or_inserts (Some c.args.key) (g.K.PartialEq.eq c.args.key) r.0 c.start.new.machine c.start.new.memory c.start.result h _ _ _ c.in-Ok-Asks-Some.is c.in-Ok-Asks-Some.field-0-is c.in-Ok-Asks-Some.field-0-0-is).0, tt)

pub replied-requires-in-Ok-Asks-None : goal.replied-requires-in-Ok-Asks-None
replied-requires-in-Ok-Asks-None g c =
    let r = c.requires.holds in
    let h = c.start.ensures.starts r.0 updates_or_inserts (Some c.args.key) (g.K.PartialEq.eq c.args.key) r.1 (updates_or_inserts_so g.K.PartialEq.eq ((hashed_by g.S.Hasher.Hasher.finish g.S.Hasher.Hasher.write g.S.BuildHasher.build_hasher g.K.Hash.hash_input) c.args.hasher.now) c.args.setting c.args.key _ c.hash_of-hash.ensures _ c.update_or_insert_with-call.ensures) in
    (r.0, updates_or_inserts, c.args.key, None, (comes_asking g.K.PartialEq.eq g.K.PartialEq.eq (hashed_by g.S.Hasher.Hasher.finish g.S.Hasher.Hasher.write g.S.BuildHasher.build_hasher g.K.Hash.hash_input) c.args.hasher c.args.setting updates_or_inserts (Some c.args.key) (g.K.PartialEq.eq c.args.key) r.0 c.start.new.machine c.start.new.memory c.start.result h _ _ _ c.in-Ok-Asks-None.is c.in-Ok-Asks-None.field-0-is c.in-Ok-Asks-None.field-0-0-is).0, tt)

pub key_of-key-requires : goal.key_of-key-requires
key_of-key-requires g c =
    let r = c.requires.holds in
    let h = c.start.ensures.starts r.0 updates_or_inserts (Some c.args.key) (g.K.PartialEq.eq c.args.key) r.1 (updates_or_inserts_so g.K.PartialEq.eq ((hashed_by g.S.Hasher.Hasher.finish g.S.Hasher.Hasher.write g.S.BuildHasher.build_hasher g.K.Hash.hash_input) c.args.hasher.now) c.args.setting c.args.key _ c.hash_of-hash.ensures _ c.update_or_insert_with-call.ensures) in
    (c.args.key, (comes_refused g.K.PartialEq.eq g.K.PartialEq.eq (hashed_by g.S.Hasher.Hasher.finish g.S.Hasher.Hasher.write g.S.BuildHasher.build_hasher g.K.Hash.hash_input) c.args.hasher c.args.setting updates_or_inserts (Some c.args.key) (g.K.PartialEq.eq c.args.key) r.0 c.start.new.machine c.start.new.memory c.start.result h _ c.in-Err.is).2 c.args.key refl)

pub returns-in-Ok-Answered-clause-comes : goal.returns-in-Ok-Answered-clause-comes
returns-in-Ok-Answered-clause-comes g c = λ xs has.
    let h = c.start.ensures.starts xs updates_or_inserts (Some c.args.key) (g.K.PartialEq.eq c.args.key) has (updates_or_inserts_so g.K.PartialEq.eq ((hashed_by g.S.Hasher.Hasher.finish g.S.Hasher.Hasher.write g.S.BuildHasher.build_hasher g.K.Hash.hash_input) c.args.hasher.now) c.args.setting c.args.key _ c.hash_of-hash.ensures _ c.update_or_insert_with-call.ensures) in
    comes_answered g.K.PartialEq.eq g.K.PartialEq.eq (hashed_by g.S.Hasher.Hasher.finish g.S.Hasher.Hasher.write g.S.BuildHasher.build_hasher g.K.Hash.hash_input) c.args.hasher c.args.setting updates_or_inserts (Some c.args.key) (g.K.PartialEq.eq c.args.key) xs c.start.new.machine c.start.new.memory c.start.result h (UpdatingOrStoring (FnOnceReturnsAt g.F.FnOnce c.args.make) (λ value. FnOnceReturns g.B.FnOnce c.args.begin tt value)) (λ e. e refl) (λ y e. e refl) _ _ c.in-Ok-Answered.is c.in-Ok-Answered.field-0-is

pub returns-in-Ok-Asks-Some-clause-comes : goal.returns-in-Ok-Asks-Some-clause-comes
returns-in-Ok-Asks-Some-clause-comes g c = λ xs has.
    let h = c.start.ensures.starts xs updates_or_inserts (Some c.args.key) (g.K.PartialEq.eq c.args.key) has (updates_or_inserts_so g.K.PartialEq.eq ((hashed_by g.S.Hasher.Hasher.finish g.S.Hasher.Hasher.write g.S.BuildHasher.build_hasher g.K.Hash.hash_input) c.args.hasher.now) c.args.setting c.args.key _ c.hash_of-hash.ensures _ c.update_or_insert_with-call.ensures) in
    let a = comes_asking g.K.PartialEq.eq g.K.PartialEq.eq (hashed_by g.S.Hasher.Hasher.finish g.S.Hasher.Hasher.write g.S.BuildHasher.build_hasher g.K.Hash.hash_input) c.args.hasher c.args.setting updates_or_inserts (Some c.args.key) (g.K.PartialEq.eq c.args.key) xs c.start.new.machine c.start.new.memory c.start.result h _ _ _ c.in-Ok-Asks-Some.is c.in-Ok-Asks-Some.field-0-is c.in-Ok-Asks-Some.field-0-0-is in
    let w = a.2 in
    comes_told g.K.PartialEq.eq (hashed_by g.S.Hasher.Hasher.finish g.S.Hasher.Hasher.write g.S.BuildHasher.build_hasher g.K.Hash.hash_input) c.args.hasher c.start.new.machine.hasher a.1 c.args.setting xs c.replied.new.memory (UpdatingOrStoring (FnOnceReturnsAt g.F.FnOnce c.args.make) (λ value. FnOnceReturns g.B.FnOnce c.args.begin tt value)) (reply.Insert c.make-value.result) (Some (w.0, w.1))
    (c.pair_at.result.1, c.make-value.ensures, (c.pair_at.ensures w.0 w.1 w.2).1) c.args.key w.3 c.replied.result (c.replied.ensures.comes xs updates_or_inserts c.args.key (Some c.in-Ok-Asks-Some.word) a.0 tt)

pub returns-in-Ok-Asks-None-clause-comes : goal.returns-in-Ok-Asks-None-clause-comes
returns-in-Ok-Asks-None-clause-comes g c = λ xs has.
    let h = c.start.ensures.starts xs updates_or_inserts (Some c.args.key) (g.K.PartialEq.eq c.args.key) has (updates_or_inserts_so g.K.PartialEq.eq ((hashed_by g.S.Hasher.Hasher.finish g.S.Hasher.Hasher.write g.S.BuildHasher.build_hasher g.K.Hash.hash_input) c.args.hasher.now) c.args.setting c.args.key _ c.hash_of-hash.ensures _ c.update_or_insert_with-call.ensures) in
    let a = comes_asking g.K.PartialEq.eq g.K.PartialEq.eq (hashed_by g.S.Hasher.Hasher.finish g.S.Hasher.Hasher.write g.S.BuildHasher.build_hasher g.K.Hash.hash_input) c.args.hasher c.args.setting updates_or_inserts (Some c.args.key) (g.K.PartialEq.eq c.args.key) xs c.start.new.machine c.start.new.memory c.start.result h _ _ _ c.in-Ok-Asks-None.is c.in-Ok-Asks-None.field-0-is c.in-Ok-Asks-None.field-0-0-is in
    comes_told g.K.PartialEq.eq (hashed_by g.S.Hasher.Hasher.finish g.S.Hasher.Hasher.write g.S.BuildHasher.build_hasher g.K.Hash.hash_input) c.args.hasher c.start.new.machine.hasher a.1 c.args.setting xs c.replied-in-Ok-Asks-None.new.memory (UpdatingOrStoring (FnOnceReturnsAt g.F.FnOnce c.args.make) (λ value. FnOnceReturns g.B.FnOnce c.args.begin tt value)) (reply.Insert c.begin-value.result) None
    c.begin-value.ensures c.args.key a.2 c.replied-in-Ok-Asks-None.result (c.replied-in-Ok-Asks-None.ensures.comes xs updates_or_inserts c.args.key None a.0 tt)

pub returns-in-Err-clause-comes : goal.returns-in-Err-clause-comes
returns-in-Err-clause-comes g c = λ xs has.
    let h = c.start.ensures.starts xs updates_or_inserts (Some c.args.key) (g.K.PartialEq.eq c.args.key) has (updates_or_inserts_so g.K.PartialEq.eq ((hashed_by g.S.Hasher.Hasher.finish g.S.Hasher.Hasher.write g.S.BuildHasher.build_hasher g.K.Hash.hash_input) c.args.hasher.now) c.args.setting c.args.key _ c.hash_of-hash.ensures _ c.update_or_insert_with-call.ensures) in
    let r = comes_refused g.K.PartialEq.eq g.K.PartialEq.eq (hashed_by g.S.Hasher.Hasher.finish g.S.Hasher.Hasher.write g.S.BuildHasher.build_hasher g.K.Hash.hash_input) c.args.hasher c.args.setting updates_or_inserts (Some c.args.key) (g.K.PartialEq.eq c.args.key) xs c.start.new.machine c.start.new.memory c.start.result h _ c.in-Err.is in ((inl r.0, r.1, r.3), c.key_of-key.ensures c.args.key (r.2 c.args.key refl))

pub returns-in-Ok-Answered-clause-ran : goal.returns-in-Ok-Answered-clause-ran
returns-in-Ok-Answered-clause-ran g c = stopped_answered g.K.PartialEq.eq g.K.PartialEq.eq (hashed_by g.S.Hasher.Hasher.finish g.S.Hasher.Hasher.write g.S.BuildHasher.build_hasher g.K.Hash.hash_input) c.args.hasher c.args.setting _ _ _ _ (updates_or_inserts_so g.K.PartialEq.eq ((hashed_by g.S.Hasher.Hasher.finish g.S.Hasher.Hasher.write g.S.BuildHasher.build_hasher g.K.Hash.hash_input) c.args.hasher.now) c.args.setting c.args.key _ c.hash_of-hash.ensures _ c.update_or_insert_with-call.ensures) _ _ _ c.start.ensures.ran _ _ c.in-Ok-Answered.is c.in-Ok-Answered.field-0-is

pub returns-in-Ok-Asks-Some-clause-ran : goal.returns-in-Ok-Asks-Some-clause-ran
returns-in-Ok-Asks-Some-clause-ran g c = stopped_told g.K.PartialEq.eq g.K.PartialEq.eq (hashed_by g.S.Hasher.Hasher.finish g.S.Hasher.Hasher.write g.S.BuildHasher.build_hasher g.K.Hash.hash_input) c.args.hasher c.args.setting _ _ _ _ (updates_or_inserts_so g.K.PartialEq.eq ((hashed_by g.S.Hasher.Hasher.finish g.S.Hasher.Hasher.write g.S.BuildHasher.build_hasher g.K.Hash.hash_input) c.args.hasher.now) c.args.setting c.args.key _ c.hash_of-hash.ensures _ c.update_or_insert_with-call.ensures) _ _ _ c.start.ensures.ran _ _ c.in-Ok-Asks-Some.is (c.in-Ok-Asks-Some.field-0-is ∙ ap stop.Asks c.in-Ok-Asks-Some.field-0-0-is) (reply.Insert c.make-value.result) _ _ c.replied.ensures.ran

pub returns-in-Ok-Asks-None-clause-ran : goal.returns-in-Ok-Asks-None-clause-ran
returns-in-Ok-Asks-None-clause-ran g c = stopped_told g.K.PartialEq.eq g.K.PartialEq.eq (hashed_by g.S.Hasher.Hasher.finish g.S.Hasher.Hasher.write g.S.BuildHasher.build_hasher g.K.Hash.hash_input) c.args.hasher c.args.setting _ _ _ _ (updates_or_inserts_so g.K.PartialEq.eq ((hashed_by g.S.Hasher.Hasher.finish g.S.Hasher.Hasher.write g.S.BuildHasher.build_hasher g.K.Hash.hash_input) c.args.hasher.now) c.args.setting c.args.key _ c.hash_of-hash.ensures _ c.update_or_insert_with-call.ensures) _ _ _ c.start.ensures.ran _ _ c.in-Ok-Asks-None.is (c.in-Ok-Asks-None.field-0-is ∙ ap stop.Asks c.in-Ok-Asks-None.field-0-0-is) (reply.Insert c.begin-value.result) _ _ c.replied-in-Ok-Asks-None.ensures.ran

pub returns-in-Err-clause-ran : goal.returns-in-Err-clause-ran
returns-in-Err-clause-ran g c = stopped_refused g.K.PartialEq.eq g.K.PartialEq.eq (hashed_by g.S.Hasher.Hasher.finish g.S.Hasher.Hasher.write g.S.BuildHasher.build_hasher g.K.Hash.hash_input) c.args.hasher c.args.setting _ _ _ _ (updates_or_inserts_so g.K.PartialEq.eq ((hashed_by g.S.Hasher.Hasher.finish g.S.Hasher.Hasher.write g.S.BuildHasher.build_hasher g.K.Hash.hash_input) c.args.hasher.now) c.args.setting c.args.key _ c.hash_of-hash.ensures _ c.update_or_insert_with-call.ensures) _ _ _ c.start.ensures.ran _ c.in-Err.is
