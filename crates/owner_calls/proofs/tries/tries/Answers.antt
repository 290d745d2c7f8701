-- Each try is a step of the lookup, which goes on from there.
use Rattle.std.proofs.Common.{sym, ◌∙◌, ap, subst, arith, ⊎_elim}
use Rattle.map_straight.specs.Given.ResizeLookup.{lookup_plan}
use Rattle.owner_whole.specs.Strides.Looking.{LooksIn, at_try, at_next}
use Rattle.owner_calls.specs.Owned.Tries.{Nearer, TriesTo, is_there}
use Rattle.owner_whole.specs.Strides.Within.{within}
use Rattle.owner_whole.proofs.Strides.Lookups.Ends.{looks_may}
use Rattle.owner_calls.proofs.Owned.Lookups.Found.{met_shown}
use Rattle.owner_calls.proofs.Owned.Lookups.Tries.{at_first, next_table, on_next, on_moved, on_free, on_there, on_last, looks_then, finds_then, fewer_then, beyond_then, nearer_then, nearer_beyond}
use Rattle.owner_calls.proofs.tries.tries.Goals as goal

pub loop-met-init : goal.loop-met-init
loop-met-init g c =
    let keys = g.Q.Equivalent.equivalent c.args.asked.now in
    let same = sym (at_first c.args.lookup.now c.in-Probes.first c.in-Probes.is) in record {
      looks = λ hash chart blocks begun looks. subst (λ x. LooksIn {V = g.row.V.Denot} g.K.PartialEq.eq hash keys c.args.memory.now chart blocks begun x) same looks;
      nearer = λ n e. (n, omega arith, ap (λ x. within (lookup_plan {V = g.row.V.Denot} keys) n x c.args.memory.now) (sym same) ∙ e);
    }

pub try_at-word-requires : goal.try_at-word-requires
try_at-word-requires g c =
    let r = c.requires in
    looks_may g.K.PartialEq.eq r.0 (g.Q.Equivalent.equivalent c.args.asked.now) c.args.memory.now r.1 r.2 r.3 (at_try c.args.lookup.now c.loop-met.trial) (c.loop-met.invariant.looks r.0 r.1 r.2 r.3 r.4)

pub returns-in-Free-clause-to : goal.returns-in-Free-clause-to
returns-in-Free-clause-to g c = λ hash chart blocks begun looks.
    finds_then g.K.PartialEq.eq hash (g.Q.Equivalent.equivalent c.args.asked.now) c.args.memory.now chart blocks begun c.args.lookup.now c.loop-met.trial
    (c.loop-met.invariant.looks hash chart blocks begun looks) _ c.try_at-word.ensures.step _ _ (on_free c.args.lookup.now c.loop-met.trial c.try_at-word.result.0 c.try_at-word.result.1 c.in-Free.is)

pub returns-in-Copying-clause-to : goal.returns-in-Copying-clause-to
returns-in-Copying-clause-to g c = λ hash chart blocks begun looks.
    finds_then g.K.PartialEq.eq hash (g.Q.Equivalent.equivalent c.args.asked.now) c.args.memory.now chart blocks begun c.args.lookup.now c.loop-met.trial
    (c.loop-met.invariant.looks hash chart blocks begun looks) _ c.try_at-word.ensures.step _ _ (on_there c.args.lookup.now c.loop-met.trial c.try_at-word.result.0 c.try_at-word.result.1 c.in-Copying.is)

pub returns-in-Copying-clause-met : goal.returns-in-Copying-clause-met
returns-in-Copying-clause-met g c =
    met_shown c.args.memory.now c.try_at-word.result.0 _ c.try_at-word.result.2 (c.try_at-word.ensures.there (⊎_elim (λ e. ap is_there e) (λ e. ap is_there e) c.in-Copying.is)) c.try_at-word.ensures.pair

pub returns-in-Moved-clause-to : goal.returns-in-Moved-clause-to
returns-in-Moved-clause-to g c = λ hash chart blocks begun looks.
    looks_then g.K.PartialEq.eq hash (g.Q.Equivalent.equivalent c.args.asked.now) c.args.memory.now chart blocks begun c.args.lookup.now c.loop-met.trial
    (c.loop-met.invariant.looks hash chart blocks begun looks) _ c.try_at-word.ensures.step (at_next c.args.lookup.now c.loop-met.trial.table)
    (on_moved c.args.lookup.now c.loop-met.trial c.try_at-word.result.0 c.try_at-word.result.1 c.in-Moved.is)

pub returns-in-Moved-clause-nearer : goal.returns-in-Moved-clause-nearer
returns-in-Moved-clause-nearer g c = λ n e.
    nearer_then (g.Q.Equivalent.equivalent c.args.asked.now) c.args.memory.now c.args.lookup.now c.loop-met.trial _ c.try_at-word.ensures.step n (c.loop-met.invariant.nearer n e)
    (at_next c.args.lookup.now c.loop-met.trial.table) (on_moved c.args.lookup.now c.loop-met.trial c.try_at-word.result.0 c.try_at-word.result.1 c.in-Moved.is)

pub loop-met-smaller : goal.loop-met-smaller
loop-met-smaller g c =
    let r = c.requires in
    let next = sym c.next.ensures ∙ c.in-Some.is in
    fewer_then g.K.PartialEq.eq r.0 (g.Q.Equivalent.equivalent c.args.asked.now) c.args.memory.now r.1 r.2 r.3 c.args.lookup.now c.loop-met.trial
    (c.loop-met.invariant.looks r.0 r.1 r.2 r.3 r.4) _ c.try_at-word.ensures.step c.in-Some.next
    (on_next c.args.lookup.now c.loop-met.trial c.try_at-word.result.0 c.try_at-word.result.1 c.in-Some.next c.in-Passed.is next) (next_table c.loop-met.trial c.in-Some.next next)

pub loop-met-preserved : goal.loop-met-preserved
loop-met-preserved g c =
    let keys = g.Q.Equivalent.equivalent c.args.asked.now in
    let next = sym c.next.ensures ∙ c.in-Some.is in
    let on = on_next c.args.lookup.now c.loop-met.trial c.try_at-word.result.0 c.try_at-word.result.1 c.in-Some.next c.in-Passed.is next in record {
      looks = λ hash chart blocks begun looks.
          looks_then g.K.PartialEq.eq hash keys c.args.memory.now chart blocks begun c.args.lookup.now c.loop-met.trial (c.loop-met.invariant.looks hash chart blocks begun looks) _ c.try_at-word.ensures.step
          (at_try c.args.lookup.now c.in-Some.next) on;
      nearer = λ n e.
          nearer_then keys c.args.memory.now c.args.lookup.now c.loop-met.trial _ c.try_at-word.ensures.step n (c.loop-met.invariant.nearer n e) (at_try c.args.lookup.now c.in-Some.next) on;
    }

pub returns-in-None-clause-to : goal.returns-in-None-clause-to
returns-in-None-clause-to g c = λ hash chart blocks begun looks.
    subst (λ x. TriesTo g.K.PartialEq.eq hash (g.Q.Equivalent.equivalent c.args.asked.now) c.args.memory.now chart blocks begun c.args.lookup.now x) (sym c.beyond.ensures)
    (beyond_then g.K.PartialEq.eq hash (g.Q.Equivalent.equivalent c.args.asked.now) c.args.memory.now chart blocks begun c.args.lookup.now c.loop-met.trial
    (c.loop-met.invariant.looks hash chart blocks begun looks) _ c.try_at-word.ensures.step
    (on_last c.args.lookup.now c.loop-met.trial c.try_at-word.result.0 c.try_at-word.result.1 c.in-Passed.is (sym c.next.ensures ∙ c.in-None.is)))

pub returns-in-None-clause-nearer : goal.returns-in-None-clause-nearer
returns-in-None-clause-nearer g c = λ n e.
    subst (λ x. Nearer (λ k y. within (lookup_plan {V = g.row.V.Denot} (g.Q.Equivalent.equivalent c.args.asked.now)) k y c.args.memory.now) n c.args.lookup.now x) (sym c.beyond.ensures)
    (nearer_beyond (g.Q.Equivalent.equivalent c.args.asked.now) c.args.memory.now c.args.lookup.now c.loop-met.trial _ c.try_at-word.ensures.step n (c.loop-met.invariant.nearer n e)
    (on_last c.args.lookup.now c.loop-met.trial c.try_at-word.result.0 c.try_at-word.result.1 c.in-Passed.is (sym c.next.ensures ∙ c.in-None.is)))
