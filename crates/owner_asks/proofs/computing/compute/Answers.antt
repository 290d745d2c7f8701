-- It begins, and comes to what it was told.
use Rattle.std.specs.Prelude.{[], Some}
use Rattle.std.proofs.Common.{refl, inl, subst}
use Rattle.papaya_raw.specs.declared.machines.asking.MachineReply.TheVariants as reply
use Rattle.owner_calls.specs.Given.CallersKind.{computes}
use Rattle.owner_calls.specs.Given.CallersPairs.{IsTold}
use Rattle.owner_asks.specs.Asks.Closures.{HasOutcome, ComputesAs, Computing}
use Rattle.seize_words.specs.declared.refused.RefusedKey.{RefusedKey}
use Rattle.owner_calls.specs.Owned.Calling.{HasStopped, stop_by}
use Rattle.owner_calls.specs.Owned.Owned.{hashed_by, found_by}
use Rattle.owner_calls.proofs.Owned.Lookups.Found.{shown_found, word_shows}
use Rattle.owner_asks.proofs.Asks.Asks.Begins.{computes_so}
use Rattle.owner_asks.proofs.Asks.Asks.Comes.{comes_answered, comes_asking, comes_refused, comes_told, never_answers, aborted_answers, aborted_refused}
use Rattle.owner_asks.proofs.Asks.Asks.Ran.{stopped_refused, stopped_told}
use Rattle.owner_asks.proofs.computing.compute.Goals as goal

pub start-requires-clause-begun : goal.start-requires-clause-begun
start-requires-clause-begun g c = let r = c.requires.holds in (r.0, computes, Some c.args.key, g.K.PartialEq.eq c.args.key, r.1, (computes_so g.K.PartialEq.eq ((hashed_by g.S.Hasher.Hasher.finish g.S.Hasher.Hasher.write g.S.BuildHasher.build_hasher g.K.Hash.hash_input) c.args.hasher.now) c.args.setting c.args.key _ c.hash_of-hash.ensures _ c.compute-call.ensures))

pub shown_at-requires : goal.shown_at-requires
shown_at-requires g c =
    let r = c.requires.holds in
    let h = c.start.ensures.starts r.0 computes (Some c.args.key) (g.K.PartialEq.eq c.args.key) r.1 (computes_so g.K.PartialEq.eq ((hashed_by g.S.Hasher.Hasher.finish g.S.Hasher.Hasher.write g.S.BuildHasher.build_hasher g.K.Hash.hash_input) c.args.hasher.now) c.args.setting c.args.key _ c.hash_of-hash.ensures _ c.compute-call.ensures) in
    (found_by (g.K.PartialEq.eq c.args.key) r.0, word_shows c.start.new.memory (g.K.PartialEq.eq c.args.key) r.0 c.in-Ok-Asks.asked (comes_asking g.K.PartialEq.eq g.K.PartialEq.eq (hashed_by g.S.Hasher.Hasher.finish g.S.Hasher.Hasher.write g.S.BuildHasher.build_hasher g.K.Hash.hash_input) c.args.hasher c.args.setting computes (Some c.args.key) (g.K.PartialEq.eq c.args.key) r.0 c.start.new.machine c.start.new.memory c.start.result h _ _ c.in-Ok-Asks.asked c.in-Ok-Asks.is c.in-Ok-Asks.field-0-is refl).2)

pub compute-requires : goal.compute-requires
compute-requires g c =
    let r = c.requires.holds in
    let h = c.start.ensures.starts r.0 computes (Some c.args.key) (g.K.PartialEq.eq c.args.key) r.1 (computes_so g.K.PartialEq.eq ((hashed_by g.S.Hasher.Hasher.finish g.S.Hasher.Hasher.write g.S.BuildHasher.build_hasher g.K.Hash.hash_input) c.args.hasher.now) c.args.setting c.args.key _ c.hash_of-hash.ensures _ c.compute-call.ensures) in
    r.2 c.shown_at.result (shown_found c.start.new.memory (g.K.PartialEq.eq c.args.key) r.0 c.in-Ok-Asks.asked (comes_asking g.K.PartialEq.eq g.K.PartialEq.eq (hashed_by g.S.Hasher.Hasher.finish g.S.Hasher.Hasher.write g.S.BuildHasher.build_hasher g.K.Hash.hash_input) c.args.hasher c.args.setting computes (Some c.args.key) (g.K.PartialEq.eq c.args.key) r.0 c.start.new.machine c.start.new.memory c.start.result h _ _ c.in-Ok-Asks.asked c.in-Ok-Asks.is c.in-Ok-Asks.field-0-is refl).2 _ c.shown_at.ensures)

pub replied-requires : goal.replied-requires
replied-requires g c =
    let r = c.requires.holds in
    let h = c.start.ensures.starts r.0 computes (Some c.args.key) (g.K.PartialEq.eq c.args.key) r.1 (computes_so g.K.PartialEq.eq ((hashed_by g.S.Hasher.Hasher.finish g.S.Hasher.Hasher.write g.S.BuildHasher.build_hasher g.K.Hash.hash_input) c.args.hasher.now) c.args.setting c.args.key _ c.hash_of-hash.ensures _ c.compute-call.ensures) in
    (r.0, computes, c.args.key, c.in-Ok-Asks.asked, (comes_asking g.K.PartialEq.eq g.K.PartialEq.eq (hashed_by g.S.Hasher.Hasher.finish g.S.Hasher.Hasher.write g.S.BuildHasher.build_hasher g.K.Hash.hash_input) c.args.hasher c.args.setting computes (Some c.args.key) (g.K.PartialEq.eq c.args.key) r.0 c.start.new.machine c.start.new.memory c.start.result h _ _ c.in-Ok-Asks.asked c.in-Ok-Asks.is c.in-Ok-Asks.field-0-is refl).0, tt)

pub returns-in-Ok-clause-comes : goal.returns-in-Ok-clause-comes
returns-in-Ok-clause-comes g c = λ xs has.
    let h = c.start.ensures.starts xs computes (Some c.args.key) (g.K.PartialEq.eq c.args.key) has (computes_so g.K.PartialEq.eq ((hashed_by g.S.Hasher.Hasher.finish g.S.Hasher.Hasher.write g.S.BuildHasher.build_hasher g.K.Hash.hash_input) c.args.hasher.now) c.args.setting c.args.key _ c.hash_of-hash.ensures _ c.compute-call.ensures) in
    let a = comes_asking g.K.PartialEq.eq g.K.PartialEq.eq (hashed_by g.S.Hasher.Hasher.finish g.S.Hasher.Hasher.write g.S.BuildHasher.build_hasher g.K.Hash.hash_input) c.args.hasher c.args.setting computes (Some c.args.key) (g.K.PartialEq.eq c.args.key) xs c.start.new.machine c.start.new.memory c.start.result h _ _ c.in-Ok-Asks.asked c.in-Ok-Asks.is c.in-Ok-Asks.field-0-is refl in
    subst (HasOutcome g.K.PartialEq.eq ((hashed_by g.S.Hasher.Hasher.finish g.S.Hasher.Hasher.write g.S.BuildHasher.build_hasher g.K.Hash.hash_input) c.args.hasher.now) c.args.setting c.replied.new.memory c.args.key xs (Computing (ComputesAs g.F.FnOnce c.args.compute))) c.in-Ok.is (comes_told g.K.PartialEq.eq (hashed_by g.S.Hasher.Hasher.finish g.S.Hasher.Hasher.write g.S.BuildHasher.build_hasher g.K.Hash.hash_input) c.args.hasher c.start.new.machine.hasher a.1 c.args.setting xs c.replied.new.memory (Computing (ComputesAs g.F.FnOnce c.args.compute)) (reply.Insert c.in-Insert.value) (found_by (g.K.PartialEq.eq c.args.key) xs)
    (c.shown_at.result, subst (λ o. g.F.FnOnce.post c.args.compute (c.shown_at.result, tt) o) c.in-Insert.is c.compute.ensures, shown_found c.start.new.memory (g.K.PartialEq.eq c.args.key) xs c.in-Ok-Asks.asked a.2 _ c.shown_at.ensures) c.args.key refl c.replied.result (c.replied.ensures.comes xs computes c.args.key c.in-Ok-Asks.asked a.0 tt))

pub returns-in-Insert-clause-comes : goal.returns-in-Insert-clause-comes
returns-in-Insert-clause-comes g c = λ xs has.
    let h = c.start.ensures.starts xs computes (Some c.args.key) (g.K.PartialEq.eq c.args.key) has (computes_so g.K.PartialEq.eq ((hashed_by g.S.Hasher.Hasher.finish g.S.Hasher.Hasher.write g.S.BuildHasher.build_hasher g.K.Hash.hash_input) c.args.hasher.now) c.args.setting c.args.key _ c.hash_of-hash.ensures _ c.compute-call.ensures) in
    let a = comes_asking g.K.PartialEq.eq g.K.PartialEq.eq (hashed_by g.S.Hasher.Hasher.finish g.S.Hasher.Hasher.write g.S.BuildHasher.build_hasher g.K.Hash.hash_input) c.args.hasher c.args.setting computes (Some c.args.key) (g.K.PartialEq.eq c.args.key) xs c.start.new.machine c.start.new.memory c.start.result h _ _ c.in-Ok-Asks.asked c.in-Ok-Asks.is c.in-Ok-Asks.field-0-is refl in
    subst (HasOutcome g.K.PartialEq.eq ((hashed_by g.S.Hasher.Hasher.finish g.S.Hasher.Hasher.write g.S.BuildHasher.build_hasher g.K.Hash.hash_input) c.args.hasher.now) c.args.setting c.replied.new.memory c.args.key xs (Computing (ComputesAs g.F.FnOnce c.args.compute))) c.in-Err-replied.is (comes_told g.K.PartialEq.eq (hashed_by g.S.Hasher.Hasher.finish g.S.Hasher.Hasher.write g.S.BuildHasher.build_hasher g.K.Hash.hash_input) c.args.hasher c.start.new.machine.hasher a.1 c.args.setting xs c.replied.new.memory (Computing (ComputesAs g.F.FnOnce c.args.compute)) (reply.Insert c.in-Insert.value) (found_by (g.K.PartialEq.eq c.args.key) xs)
    (c.shown_at.result, subst (λ o. g.F.FnOnce.post c.args.compute (c.shown_at.result, tt) o) c.in-Insert.is c.compute.ensures, shown_found c.start.new.memory (g.K.PartialEq.eq c.args.key) xs c.in-Ok-Asks.asked a.2 _ c.shown_at.ensures) c.args.key refl c.replied.result (c.replied.ensures.comes xs computes c.args.key c.in-Ok-Asks.asked a.0 tt))

pub replied-requires-in-Remove : goal.replied-requires-in-Remove
replied-requires-in-Remove g c =
    let r = c.requires.holds in
    let h = c.start.ensures.starts r.0 computes (Some c.args.key) (g.K.PartialEq.eq c.args.key) r.1 (computes_so g.K.PartialEq.eq ((hashed_by g.S.Hasher.Hasher.finish g.S.Hasher.Hasher.write g.S.BuildHasher.build_hasher g.K.Hash.hash_input) c.args.hasher.now) c.args.setting c.args.key _ c.hash_of-hash.ensures _ c.compute-call.ensures) in
    (r.0, computes, c.args.key, c.in-Ok-Asks.asked, (comes_asking g.K.PartialEq.eq g.K.PartialEq.eq (hashed_by g.S.Hasher.Hasher.finish g.S.Hasher.Hasher.write g.S.BuildHasher.build_hasher g.K.Hash.hash_input) c.args.hasher c.args.setting computes (Some c.args.key) (g.K.PartialEq.eq c.args.key) r.0 c.start.new.machine c.start.new.memory c.start.result h _ _ c.in-Ok-Asks.asked c.in-Ok-Asks.is c.in-Ok-Asks.field-0-is refl).0, tt)

pub returns-in-Ok-replied-clause-comes : goal.returns-in-Ok-replied-clause-comes
returns-in-Ok-replied-clause-comes g c = λ xs has.
    let h = c.start.ensures.starts xs computes (Some c.args.key) (g.K.PartialEq.eq c.args.key) has (computes_so g.K.PartialEq.eq ((hashed_by g.S.Hasher.Hasher.finish g.S.Hasher.Hasher.write g.S.BuildHasher.build_hasher g.K.Hash.hash_input) c.args.hasher.now) c.args.setting c.args.key _ c.hash_of-hash.ensures _ c.compute-call.ensures) in
    let a = comes_asking g.K.PartialEq.eq g.K.PartialEq.eq (hashed_by g.S.Hasher.Hasher.finish g.S.Hasher.Hasher.write g.S.BuildHasher.build_hasher g.K.Hash.hash_input) c.args.hasher c.args.setting computes (Some c.args.key) (g.K.PartialEq.eq c.args.key) xs c.start.new.machine c.start.new.memory c.start.result h _ _ c.in-Ok-Asks.asked c.in-Ok-Asks.is c.in-Ok-Asks.field-0-is refl in
    subst (HasOutcome g.K.PartialEq.eq ((hashed_by g.S.Hasher.Hasher.finish g.S.Hasher.Hasher.write g.S.BuildHasher.build_hasher g.K.Hash.hash_input) c.args.hasher.now) c.args.setting c.replied-in-Remove.new.memory c.args.key xs (Computing (ComputesAs g.F.FnOnce c.args.compute))) c.in-Ok-replied.is (comes_told g.K.PartialEq.eq (hashed_by g.S.Hasher.Hasher.finish g.S.Hasher.Hasher.write g.S.BuildHasher.build_hasher g.K.Hash.hash_input) c.args.hasher c.start.new.machine.hasher a.1 c.args.setting xs c.replied-in-Remove.new.memory (Computing (ComputesAs g.F.FnOnce c.args.compute)) reply.Remove (found_by (g.K.PartialEq.eq c.args.key) xs)
    (c.shown_at.result, subst (λ o. g.F.FnOnce.post c.args.compute (c.shown_at.result, tt) o) c.in-Remove.is c.compute.ensures, shown_found c.start.new.memory (g.K.PartialEq.eq c.args.key) xs c.in-Ok-Asks.asked a.2 _ c.shown_at.ensures) c.args.key refl c.replied-in-Remove.result (c.replied-in-Remove.ensures.comes xs computes c.args.key c.in-Ok-Asks.asked a.0 tt))

pub returns-in-Remove-clause-comes : goal.returns-in-Remove-clause-comes
returns-in-Remove-clause-comes g c = λ xs has.
    let h = c.start.ensures.starts xs computes (Some c.args.key) (g.K.PartialEq.eq c.args.key) has (computes_so g.K.PartialEq.eq ((hashed_by g.S.Hasher.Hasher.finish g.S.Hasher.Hasher.write g.S.BuildHasher.build_hasher g.K.Hash.hash_input) c.args.hasher.now) c.args.setting c.args.key _ c.hash_of-hash.ensures _ c.compute-call.ensures) in
    let a = comes_asking g.K.PartialEq.eq g.K.PartialEq.eq (hashed_by g.S.Hasher.Hasher.finish g.S.Hasher.Hasher.write g.S.BuildHasher.build_hasher g.K.Hash.hash_input) c.args.hasher c.args.setting computes (Some c.args.key) (g.K.PartialEq.eq c.args.key) xs c.start.new.machine c.start.new.memory c.start.result h _ _ c.in-Ok-Asks.asked c.in-Ok-Asks.is c.in-Ok-Asks.field-0-is refl in
    subst (HasOutcome g.K.PartialEq.eq ((hashed_by g.S.Hasher.Hasher.finish g.S.Hasher.Hasher.write g.S.BuildHasher.build_hasher g.K.Hash.hash_input) c.args.hasher.now) c.args.setting c.replied-in-Remove.new.memory c.args.key xs (Computing (ComputesAs g.F.FnOnce c.args.compute))) c.in-Err-replied-2.is (comes_told g.K.PartialEq.eq (hashed_by g.S.Hasher.Hasher.finish g.S.Hasher.Hasher.write g.S.BuildHasher.build_hasher g.K.Hash.hash_input) c.args.hasher c.start.new.machine.hasher a.1 c.args.setting xs c.replied-in-Remove.new.memory (Computing (ComputesAs g.F.FnOnce c.args.compute)) reply.Remove (found_by (g.K.PartialEq.eq c.args.key) xs)
    (c.shown_at.result, subst (λ o. g.F.FnOnce.post c.args.compute (c.shown_at.result, tt) o) c.in-Remove.is c.compute.ensures, shown_found c.start.new.memory (g.K.PartialEq.eq c.args.key) xs c.in-Ok-Asks.asked a.2 _ c.shown_at.ensures) c.args.key refl c.replied-in-Remove.result (c.replied-in-Remove.ensures.comes xs computes c.args.key c.in-Ok-Asks.asked a.0 tt))

pub replied-requires-in-Abort : goal.replied-requires-in-Abort
replied-requires-in-Abort g c =
    let r = c.requires.holds in
    let h = c.start.ensures.starts r.0 computes (Some c.args.key) (g.K.PartialEq.eq c.args.key) r.1 (computes_so g.K.PartialEq.eq ((hashed_by g.S.Hasher.Hasher.finish g.S.Hasher.Hasher.write g.S.BuildHasher.build_hasher g.K.Hash.hash_input) c.args.hasher.now) c.args.setting c.args.key _ c.hash_of-hash.ensures _ c.compute-call.ensures) in
    (r.0, computes, c.args.key, c.in-Ok-Asks.asked, (comes_asking g.K.PartialEq.eq g.K.PartialEq.eq (hashed_by g.S.Hasher.Hasher.finish g.S.Hasher.Hasher.write g.S.BuildHasher.build_hasher g.K.Hash.hash_input) c.args.hasher c.args.setting computes (Some c.args.key) (g.K.PartialEq.eq c.args.key) r.0 c.start.new.machine c.start.new.memory c.start.result h _ _ c.in-Ok-Asks.asked c.in-Ok-Asks.is c.in-Ok-Asks.field-0-is refl).0, tt)

pub returns-in-Ok-replied-2-clause-comes : goal.returns-in-Ok-replied-2-clause-comes
returns-in-Ok-replied-2-clause-comes g c = λ xs has.
    let h = c.start.ensures.starts xs computes (Some c.args.key) (g.K.PartialEq.eq c.args.key) has (computes_so g.K.PartialEq.eq ((hashed_by g.S.Hasher.Hasher.finish g.S.Hasher.Hasher.write g.S.BuildHasher.build_hasher g.K.Hash.hash_input) c.args.hasher.now) c.args.setting c.args.key _ c.hash_of-hash.ensures _ c.compute-call.ensures) in
    let a = comes_asking g.K.PartialEq.eq g.K.PartialEq.eq (hashed_by g.S.Hasher.Hasher.finish g.S.Hasher.Hasher.write g.S.BuildHasher.build_hasher g.K.Hash.hash_input) c.args.hasher c.args.setting computes (Some c.args.key) (g.K.PartialEq.eq c.args.key) xs c.start.new.machine c.start.new.memory c.start.result h _ _ c.in-Ok-Asks.asked c.in-Ok-Asks.is c.in-Ok-Asks.field-0-is refl in
    ((c.shown_at.result, subst (λ o. g.F.FnOnce.post c.args.compute (c.shown_at.result, tt) o) c.in-Abort.is c.compute.ensures, shown_found c.start.new.memory (g.K.PartialEq.eq c.args.key) xs c.in-Ok-Asks.asked a.2 _ c.shown_at.ensures), aborted_answers g.K.PartialEq.eq (hashed_by g.S.Hasher.Hasher.finish g.S.Hasher.Hasher.write g.S.BuildHasher.build_hasher g.K.Hash.hash_input) c.args.hasher c.start.new.machine.hasher a.1 c.args.setting xs c.replied-in-Abort.new.memory c.args.key c.replied-in-Abort.result (c.replied-in-Abort.ensures.comes xs computes c.args.key c.in-Ok-Asks.asked a.0 tt) _ c.in-Ok-replied-2.is)

pub returns-in-Ok-Asks-clause-comes : goal.returns-in-Ok-Asks-clause-comes
returns-in-Ok-Asks-clause-comes g c = λ xs has.
    let h = c.start.ensures.starts xs computes (Some c.args.key) (g.K.PartialEq.eq c.args.key) has (computes_so g.K.PartialEq.eq ((hashed_by g.S.Hasher.Hasher.finish g.S.Hasher.Hasher.write g.S.BuildHasher.build_hasher g.K.Hash.hash_input) c.args.hasher.now) c.args.setting c.args.key _ c.hash_of-hash.ensures _ c.compute-call.ensures) in
    let a = comes_asking g.K.PartialEq.eq g.K.PartialEq.eq (hashed_by g.S.Hasher.Hasher.finish g.S.Hasher.Hasher.write g.S.BuildHasher.build_hasher g.K.Hash.hash_input) c.args.hasher c.args.setting computes (Some c.args.key) (g.K.PartialEq.eq c.args.key) xs c.start.new.machine c.start.new.memory c.start.result h _ _ c.in-Ok-Asks.asked c.in-Ok-Asks.is c.in-Ok-Asks.field-0-is refl in
    aborted_refused g.K.PartialEq.eq (hashed_by g.S.Hasher.Hasher.finish g.S.Hasher.Hasher.write g.S.BuildHasher.build_hasher g.K.Hash.hash_input) c.args.hasher c.start.new.machine.hasher a.1 c.args.setting xs c.replied-in-Abort.new.memory c.args.key c.replied-in-Abort.result (c.replied-in-Abort.ensures.comes xs computes c.args.key c.in-Ok-Asks.asked a.0 tt) _ c.in-Err-replied-3.is (Computing (ComputesAs g.F.FnOnce c.args.compute))

pub unreachable-requires : goal.unreachable-requires
unreachable-requires g c =
    let r = c.requires.holds in
    let h = c.start.ensures.starts r.0 computes (Some c.args.key) (g.K.PartialEq.eq c.args.key) r.1 (computes_so g.K.PartialEq.eq ((hashed_by g.S.Hasher.Hasher.finish g.S.Hasher.Hasher.write g.S.BuildHasher.build_hasher g.K.Hash.hash_input) c.args.hasher.now) c.args.setting c.args.key _ c.hash_of-hash.ensures _ c.compute-call.ensures) in
    never_answers g.K.PartialEq.eq ((hashed_by g.S.Hasher.Hasher.finish g.S.Hasher.Hasher.write g.S.BuildHasher.build_hasher g.K.Hash.hash_input) c.args.hasher.now) c.args.setting c.start.new.memory (g.K.PartialEq.eq c.args.key) r.0 (Some c.args.key) _
    (comes_answered g.K.PartialEq.eq g.K.PartialEq.eq (hashed_by g.S.Hasher.Hasher.finish g.S.Hasher.Hasher.write g.S.BuildHasher.build_hasher g.K.Hash.hash_input) c.args.hasher c.args.setting computes (Some c.args.key) (g.K.PartialEq.eq c.args.key) r.0 c.start.new.machine c.start.new.memory c.start.result h (λ about said. ⊥) (λ e. e refl) (λ y e. e refl) _ _ c.in-Ok-Answered.is c.in-Ok-Answered.field-0-is)

pub key_of-key-requires : goal.key_of-key-requires
key_of-key-requires g c =
    let r = c.requires.holds in
    let h = c.start.ensures.starts r.0 computes (Some c.args.key) (g.K.PartialEq.eq c.args.key) r.1 (computes_so g.K.PartialEq.eq ((hashed_by g.S.Hasher.Hasher.finish g.S.Hasher.Hasher.write g.S.BuildHasher.build_hasher g.K.Hash.hash_input) c.args.hasher.now) c.args.setting c.args.key _ c.hash_of-hash.ensures _ c.compute-call.ensures) in
    (c.args.key, (comes_refused g.K.PartialEq.eq g.K.PartialEq.eq (hashed_by g.S.Hasher.Hasher.finish g.S.Hasher.Hasher.write g.S.BuildHasher.build_hasher g.K.Hash.hash_input) c.args.hasher c.args.setting computes (Some c.args.key) (g.K.PartialEq.eq c.args.key) r.0 c.start.new.machine c.start.new.memory c.start.result h _ c.in-Err.is).2 c.args.key refl)

pub returns-clause-comes : goal.returns-clause-comes
returns-clause-comes g c = λ xs has.
    let h = c.start.ensures.starts xs computes (Some c.args.key) (g.K.PartialEq.eq c.args.key) has (computes_so g.K.PartialEq.eq ((hashed_by g.S.Hasher.Hasher.finish g.S.Hasher.Hasher.write g.S.BuildHasher.build_hasher g.K.Hash.hash_input) c.args.hasher.now) c.args.setting c.args.key _ c.hash_of-hash.ensures _ c.compute-call.ensures) in
    let r = comes_refused g.K.PartialEq.eq g.K.PartialEq.eq (hashed_by g.S.Hasher.Hasher.finish g.S.Hasher.Hasher.write g.S.BuildHasher.build_hasher g.K.Hash.hash_input) c.args.hasher c.args.setting computes (Some c.args.key) (g.K.PartialEq.eq c.args.key) xs c.start.new.machine c.start.new.memory c.start.result h _ c.in-Err.is in ((inl r.0, r.1, r.3), c.key_of-key.ensures c.args.key (r.2 c.args.key refl))

pub returns-in-Ok-clause-ran : goal.returns-in-Ok-clause-ran
returns-in-Ok-clause-ran g c = subst (λ z. HasStopped g.K.PartialEq.eq g.K.PartialEq.eq (hashed_by g.S.Hasher.Hasher.finish g.S.Hasher.Hasher.write g.S.BuildHasher.build_hasher g.K.Hash.hash_input) c.args.hasher c.args.setting c.args.memory.now (g.K.PartialEq.eq c.args.key) (IsTold computes (Some c.args.key) []) c.replied.new.memory (stop_by (λ (e : RefusedKey _). e.fault) z)) c.in-Ok.is (stopped_told g.K.PartialEq.eq g.K.PartialEq.eq (hashed_by g.S.Hasher.Hasher.finish g.S.Hasher.Hasher.write g.S.BuildHasher.build_hasher g.K.Hash.hash_input) c.args.hasher c.args.setting _ _ _ _ (computes_so g.K.PartialEq.eq ((hashed_by g.S.Hasher.Hasher.finish g.S.Hasher.Hasher.write g.S.BuildHasher.build_hasher g.K.Hash.hash_input) c.args.hasher.now) c.args.setting c.args.key _ c.hash_of-hash.ensures _ c.compute-call.ensures) _ _ _ c.start.ensures.ran _ c.in-Ok-Asks.asked c.in-Ok-Asks.is c.in-Ok-Asks.field-0-is (reply.Insert c.in-Insert.value) _ _ c.replied.ensures.ran)

pub returns-in-Insert-clause-ran : goal.returns-in-Insert-clause-ran
returns-in-Insert-clause-ran g c = subst (λ z. HasStopped g.K.PartialEq.eq g.K.PartialEq.eq (hashed_by g.S.Hasher.Hasher.finish g.S.Hasher.Hasher.write g.S.BuildHasher.build_hasher g.K.Hash.hash_input) c.args.hasher c.args.setting c.args.memory.now (g.K.PartialEq.eq c.args.key) (IsTold computes (Some c.args.key) []) c.replied.new.memory (stop_by (λ (e : RefusedKey _). e.fault) z)) c.in-Err-replied.is (stopped_told g.K.PartialEq.eq g.K.PartialEq.eq (hashed_by g.S.Hasher.Hasher.finish g.S.Hasher.Hasher.write g.S.BuildHasher.build_hasher g.K.Hash.hash_input) c.args.hasher c.args.setting _ _ _ _ (computes_so g.K.PartialEq.eq ((hashed_by g.S.Hasher.Hasher.finish g.S.Hasher.Hasher.write g.S.BuildHasher.build_hasher g.K.Hash.hash_input) c.args.hasher.now) c.args.setting c.args.key _ c.hash_of-hash.ensures _ c.compute-call.ensures) _ _ _ c.start.ensures.ran _ c.in-Ok-Asks.asked c.in-Ok-Asks.is c.in-Ok-Asks.field-0-is (reply.Insert c.in-Insert.value) _ _ c.replied.ensures.ran)

pub returns-in-Ok-replied-clause-ran : goal.returns-in-Ok-replied-clause-ran
returns-in-Ok-replied-clause-ran g c = subst (λ z. HasStopped g.K.PartialEq.eq g.K.PartialEq.eq (hashed_by g.S.Hasher.Hasher.finish g.S.Hasher.Hasher.write g.S.BuildHasher.build_hasher g.K.Hash.hash_input) c.args.hasher c.args.setting c.args.memory.now (g.K.PartialEq.eq c.args.key) (IsTold computes (Some c.args.key) []) c.replied-in-Remove.new.memory (stop_by (λ (e : RefusedKey _). e.fault) z)) c.in-Ok-replied.is (stopped_told g.K.PartialEq.eq g.K.PartialEq.eq (hashed_by g.S.Hasher.Hasher.finish g.S.Hasher.Hasher.write g.S.BuildHasher.build_hasher g.K.Hash.hash_input) c.args.hasher c.args.setting _ _ _ _ (computes_so g.K.PartialEq.eq ((hashed_by g.S.Hasher.Hasher.finish g.S.Hasher.Hasher.write g.S.BuildHasher.build_hasher g.K.Hash.hash_input) c.args.hasher.now) c.args.setting c.args.key _ c.hash_of-hash.ensures _ c.compute-call.ensures) _ _ _ c.start.ensures.ran _ c.in-Ok-Asks.asked c.in-Ok-Asks.is c.in-Ok-Asks.field-0-is (reply.Remove) _ _ c.replied-in-Remove.ensures.ran)

pub returns-in-Remove-clause-ran : goal.returns-in-Remove-clause-ran
returns-in-Remove-clause-ran g c = subst (λ z. HasStopped g.K.PartialEq.eq g.K.PartialEq.eq (hashed_by g.S.Hasher.Hasher.finish g.S.Hasher.Hasher.write g.S.BuildHasher.build_hasher g.K.Hash.hash_input) c.args.hasher c.args.setting c.args.memory.now (g.K.PartialEq.eq c.args.key) (IsTold computes (Some c.args.key) []) c.replied-in-Remove.new.memory (stop_by (λ (e : RefusedKey _). e.fault) z)) c.in-Err-replied-2.is (stopped_told g.K.PartialEq.eq g.K.PartialEq.eq (hashed_by g.S.Hasher.Hasher.finish g.S.Hasher.Hasher.write g.S.BuildHasher.build_hasher g.K.Hash.hash_input) c.args.hasher c.args.setting _ _ _ _ (computes_so g.K.PartialEq.eq ((hashed_by g.S.Hasher.Hasher.finish g.S.Hasher.Hasher.write g.S.BuildHasher.build_hasher g.K.Hash.hash_input) c.args.hasher.now) c.args.setting c.args.key _ c.hash_of-hash.ensures _ c.compute-call.ensures) _ _ _ c.start.ensures.ran _ c.in-Ok-Asks.asked c.in-Ok-Asks.is c.in-Ok-Asks.field-0-is (reply.Remove) _ _ c.replied-in-Remove.ensures.ran)

pub returns-in-Ok-replied-2-clause-ran : goal.returns-in-Ok-replied-2-clause-ran
returns-in-Ok-replied-2-clause-ran g c = subst (λ z. HasStopped g.K.PartialEq.eq g.K.PartialEq.eq (hashed_by g.S.Hasher.Hasher.finish g.S.Hasher.Hasher.write g.S.BuildHasher.build_hasher g.K.Hash.hash_input) c.args.hasher c.args.setting c.args.memory.now (g.K.PartialEq.eq c.args.key) (IsTold computes (Some c.args.key) []) c.replied-in-Abort.new.memory (stop_by (λ (e : RefusedKey _). e.fault) z)) c.in-Ok-replied-2.is (stopped_told g.K.PartialEq.eq g.K.PartialEq.eq (hashed_by g.S.Hasher.Hasher.finish g.S.Hasher.Hasher.write g.S.BuildHasher.build_hasher g.K.Hash.hash_input) c.args.hasher c.args.setting _ _ _ _ (computes_so g.K.PartialEq.eq ((hashed_by g.S.Hasher.Hasher.finish g.S.Hasher.Hasher.write g.S.BuildHasher.build_hasher g.K.Hash.hash_input) c.args.hasher.now) c.args.setting c.args.key _ c.hash_of-hash.ensures _ c.compute-call.ensures) _ _ _ c.start.ensures.ran _ c.in-Ok-Asks.asked c.in-Ok-Asks.is c.in-Ok-Asks.field-0-is (reply.Abort) _ _ c.replied-in-Abort.ensures.ran)

pub returns-in-Ok-Asks-clause-ran : goal.returns-in-Ok-Asks-clause-ran
returns-in-Ok-Asks-clause-ran g c = subst (λ z. HasStopped g.K.PartialEq.eq g.K.PartialEq.eq (hashed_by g.S.Hasher.Hasher.finish g.S.Hasher.Hasher.write g.S.BuildHasher.build_hasher g.K.Hash.hash_input) c.args.hasher c.args.setting c.args.memory.now (g.K.PartialEq.eq c.args.key) (IsTold computes (Some c.args.key) []) c.replied-in-Abort.new.memory (stop_by (λ (e : RefusedKey _). e.fault) z)) c.in-Err-replied-3.is (stopped_told g.K.PartialEq.eq g.K.PartialEq.eq (hashed_by g.S.Hasher.Hasher.finish g.S.Hasher.Hasher.write g.S.BuildHasher.build_hasher g.K.Hash.hash_input) c.args.hasher c.args.setting _ _ _ _ (computes_so g.K.PartialEq.eq ((hashed_by g.S.Hasher.Hasher.finish g.S.Hasher.Hasher.write g.S.BuildHasher.build_hasher g.K.Hash.hash_input) c.args.hasher.now) c.args.setting c.args.key _ c.hash_of-hash.ensures _ c.compute-call.ensures) _ _ _ c.start.ensures.ran _ c.in-Ok-Asks.asked c.in-Ok-Asks.is c.in-Ok-Asks.field-0-is (reply.Abort) _ _ c.replied-in-Abort.ensures.ran)

pub returns-clause-ran : goal.returns-clause-ran
returns-clause-ran g c = stopped_refused g.K.PartialEq.eq g.K.PartialEq.eq (hashed_by g.S.Hasher.Hasher.finish g.S.Hasher.Hasher.write g.S.BuildHasher.build_hasher g.K.Hash.hash_input) c.args.hasher c.args.setting _ _ _ _ (computes_so g.K.PartialEq.eq ((hashed_by g.S.Hasher.Hasher.finish g.S.Hasher.Hasher.write g.S.BuildHasher.build_hasher g.K.Hash.hash_input) c.args.hasher.now) c.args.setting c.args.key _ c.hash_of-hash.ensures _ c.compute-call.ensures) _ _ _ c.start.ensures.ran _ c.in-Err.is
