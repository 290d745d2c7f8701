-- It is under way from question to question, and what it comes to.
use Rattle.std.proofs.Common.{of_calls, refl, arith}
use Rattle.owner_calls.proofs.Sifts.Over.Siftings.{sifting_begins, sifting_ends, sifting_asks, sifting_done, sifting_ran, sifting_refused, sifting_faults, sifting_ends_at, never_ready, never_shows, asking_names, asking_left, asking_told, asked_about}
use Rattle.owner_calls.proofs.sweeps.sift.Goals as goal

pub loop-word-init : goal.loop-word-init
loop-word-init g c = record { callable = λ a. a; sifting = λ xs has all. sifting_begins _ _ _ _ _ _ _ xs has _ c.retain-sweep.ensures _ all }

pub run-requires : goal.run-requires
run-requires g c =
    let r = c.requires in sifting_ends _ _ _ _ _ _ _ r.holds.0 r.holds.1 _ _ _ _ (c.loop-word.invariant.sifting r.holds.0 r.holds.1 (r.pairs r.holds.0 r.holds.1))

pub pair_at-requires : goal.pair_at-requires
pair_at-requires g c =
    let r = c.requires in let s = c.loop-word.invariant.sifting r.holds.0 r.holds.1 (r.pairs r.holds.0 r.holds.1) in
    asking_names _ _ _ _ _ _ _ r.holds.0 r.holds.1 _ _ _ _ _ (sifting_asks _ _ _ _ _ _ _ r.holds.0 r.holds.1 _ _ _ _ s _ _ _ _ c.in-Ok-Asks.field-0-is c.in-Ok-Asks.ensures)

pub overflow_sub-left : goal.overflow_sub-left
overflow_sub-left g c =
    let r = c.requires in let s = c.loop-word.invariant.sifting r.holds.0 r.holds.1 (r.pairs r.holds.0 r.holds.1) in
    asking_left _ _ _ _ _ _ _ r.holds.0 r.holds.1 _ _ _ _ _ (sifting_asks _ _ _ _ _ _ _ r.holds.0 r.holds.1 _ _ _ _ s _ _ _ _ c.in-Ok-Asks.field-0-is c.in-Ok-Asks.ensures)

pub loop-word-smaller : goal.loop-word-smaller
loop-word-smaller g c =
    let r = c.requires in let s = c.loop-word.invariant.sifting r.holds.0 r.holds.1 (r.pairs r.holds.0 r.holds.1) in
    let l = asking_left _ _ _ _ _ _ _ r.holds.0 r.holds.1 _ _ _ _ _ (sifting_asks _ _ _ _ _ _ _ r.holds.0 r.holds.1 _ _ _ _ s _ _ _ _ c.in-Ok-Asks.field-0-is c.in-Ok-Asks.ensures) in
    omega (arith, l)

pub loop-word-preserved : goal.loop-word-preserved
loop-word-preserved g c = record {
  callable = search of_calls;
  sifting = λ xs has all.
      let a = sifting_asks _ _ _ _ _ _ _ xs has _ _ _ _ (c.loop-word.invariant.sifting xs has all) _ _ _ _ c.in-Ok-Asks.field-0-is c.in-Ok-Asks.ensures in
      let q = asked_about _ _ _ _ _ _ _ xs has _ _ _ _ _ a in
      let at = c.pair_at.ensures q.key q.value q.block in
      asking_told _ _ _ _ _ _ _ xs has _ _ _ _ _ a _ _ (record { key = c.pair_at.result.0; value = c.pair_at.result.1; shows = (at.0, at.1); called = c.keep-keeps.ensures }) _ c.reply.ensures _ refl;
}

pub unreachable-requires : goal.unreachable-requires
unreachable-requires g c =
    let r = c.requires in never_ready _ _ _ _ _ _ _ r.holds.0 r.holds.1 _ _ _ _ (c.loop-word.invariant.sifting r.holds.0 r.holds.1 (r.pairs r.holds.0 r.holds.1)) _ _ _ c.in-Ok-Ready.field-0-is c.in-Ok-Ready.ensures

pub unreachable-requires-in-Ok-Shows : goal.unreachable-requires-in-Ok-Shows
unreachable-requires-in-Ok-Shows g c =
    let r = c.requires in never_shows _ _ _ _ _ _ _ r.holds.0 r.holds.1 _ _ _ _ (c.loop-word.invariant.sifting r.holds.0 r.holds.1 (r.pairs r.holds.0 r.holds.1)) _ _ _ _ c.in-Ok-Shows.field-0-is c.in-Ok-Shows.ensures

pub returns-in-Ok-Ended : goal.returns-in-Ok-Ended
returns-in-Ok-Ended g c = record {
  done = λ xs has. sifting_done _ _ _ _ _ _ _ xs has _ _ _ _ (c.loop-word.invariant.sifting xs has (c.requires.pairs xs has)) _ _ _ c.in-Ok-Ended.field-0-is c.in-Ok-Ended.ensures;
  refused = λ xs has. tt;
  fault = tt;
  capacity = λ xs has. tt;
  ran = (let r = c.requires in sifting_ran _ _ _ _ _ _ _ r.holds.0 r.holds.1 _ _ _ _ (c.loop-word.invariant.sifting r.holds.0 r.holds.1 (r.pairs r.holds.0 r.holds.1)) _ _ _ c.in-Ok-Ended.ensures);
}

pub returns-in-Err-clause-refused : goal.returns-in-Err-clause-refused
returns-in-Err-clause-refused g c = λ xs has. sifting_refused _ _ _ _ _ _ _ xs has _ _ _ _ (c.loop-word.invariant.sifting xs has (c.requires.pairs xs has)) _ _ _ c.in-Err.ensures

pub returns-in-Err-clause-fault : goal.returns-in-Err-clause-fault
returns-in-Err-clause-fault g c =
    let r = c.requires in
    sifting_faults _ _ _ _ _ _ _ r.holds.0 r.holds.1 _ _ _ _ (c.loop-word.invariant.sifting r.holds.0 r.holds.1 (r.pairs r.holds.0 r.holds.1)) _ _ _ c.in-Err.ensures

pub returns-in-Err-clause-capacity : goal.returns-in-Err-clause-capacity
returns-in-Err-clause-capacity g c = λ xs has. sifting_ends_at _ _ _ _ _ _ _ xs has _ _ _ _ (c.loop-word.invariant.sifting xs has (c.requires.pairs xs has)) _ _ _ c.in-Err.ensures

pub returns-in-Err-clause-ran : goal.returns-in-Err-clause-ran
returns-in-Err-clause-ran g c =
    let r = c.requires in
    sifting_ran _ _ _ _ _ _ _ r.holds.0 r.holds.1 _ _ _ _ (c.loop-word.invariant.sifting r.holds.0 r.holds.1 (r.pairs r.holds.0 r.holds.1)) _ _ _ c.in-Err.ensures
