-- Its steps over the memory that is lent are those over the memory. The tries at a table are steps, too.
use Rattle.std.proofs.Common.{subst, option_map}
use Rattle.map_straight.specs.Given.ResizeLookup.{lookup_plan}
use Rattle.owner_whole.specs.Strides.Looking.{at_next}
use Rattle.owner_calls.specs.Owned.Tries.{IsMet, Nearer, TriesTo}
use Rattle.owner_whole.specs.Strides.Within.{within}
use Rattle.owner_whole.proofs.Strides.Lookups.Ends.{looks_may, looks_tell, looks_end, looks_on, may_lent, steps_lent, not_done, lower_asked}
use Rattle.owner_calls.proofs.Owned.Lookups.Found.{finds_shown}
use Rattle.owner_calls.proofs.Owned.Lookups.Tries.{lower_behind}
use Rattle.owner_calls.proofs.looking.find.Goals as goal

pub most-left-requires : goal.most-left-requires
most-left-requires g c = let r = c.requires in looks_end g.K.PartialEq.eq r.0 _ _ r.1 r.2 _ _ r.3

pub step-requires : goal.step-requires
step-requires g c =
    let r = c.requires in let i = c.loop-found.invariant in
    may_lent (g.Q.Equivalent.equivalent c.args.asked.now) c.loop-found.look c.loop-found.lookup _ i.look (looks_may g.K.PartialEq.eq r.0 _ _ r.1 r.2 _ _ (i.looks r.0 r.1 r.2 r.3))

pub shown_at-requires : goal.shown_at-requires
shown_at-requires g c =
    let r = c.requires in let i = c.loop-found.invariant in let looks = i.looks r.0 r.1 r.2 r.3 in
    finds_shown g.K.PartialEq.eq r.0 _ _ r.1 r.2 _ _ looks c.in-Done.found
    (looks_tell g.K.PartialEq.eq r.0 _ _ r.1 r.2 _ _ looks _ _
    (steps_lent (g.Q.Equivalent.equivalent c.args.asked.now) c.loop-found.look c.loop-found.lookup _ i.look _ _ c.in-Done.ensures).1).1

pub returns-in-Done : goal.returns-in-Done
returns-in-Done g c = λ hash chart blocks looks.
    let i = c.loop-found.invariant in (
      c.in-Done.found,
      (looks_tell g.K.PartialEq.eq hash _ _ chart blocks _ _ (i.looks hash chart blocks looks) _ _
          (steps_lent (g.Q.Equivalent.equivalent c.args.asked.now) c.loop-found.look c.loop-found.lookup _ i.look _ _ c.in-Done.ensures).1).1,
      c.shown_at.ensures,
    )

pub tries-tried-requires : goal.tries-tried-requires
tries-tried-requires g c =
    let r = c.requires in let i = c.loop-found.invariant in (
      r.0,
      r.1,
      r.2,
      c.args.lookup,
      (looks_on g.K.PartialEq.eq r.0 _ _ r.1 r.2 _ _ _ (i.looks r.0 r.1 r.2 r.3) _ (not_done _ c.in-Goes.is)
          (steps_lent (g.Q.Equivalent.equivalent c.args.asked.now) c.loop-found.look c.loop-found.lookup _ i.look _ _ c.step.ensures).1).0,
    )

pub returns-in-Ends : goal.returns-in-Ends
returns-in-Ends g c = λ hash chart blocks looks.
    let i = c.loop-found.invariant in (
      c.in-Ends.field-0,
      subst (λ x. TriesTo g.K.PartialEq.eq hash (g.Q.Equivalent.equivalent c.args.asked.now) c.args.memory.now chart blocks c.args.lookup c.step.new.self x) c.in-Ends.is
          (c.tries-tried.ensures.to hash chart blocks c.args.lookup
          (looks_on g.K.PartialEq.eq hash _ _ chart blocks _ _ _ (i.looks hash chart blocks looks) _ (not_done _ c.in-Goes.is)
          (steps_lent (g.Q.Equivalent.equivalent c.args.asked.now) c.loop-found.look c.loop-found.lookup _ i.look _ _ c.step.ensures).1).0),
      subst (λ x. IsMet c.args.memory.now x (option_map (λ x. (x.0.now, x.1.now)) c.tries-tried.result.1)) c.in-Ends.is c.tries-tried.ensures.met,
    )

pub most-left-requires-in-GoesBeyond : goal.most-left-requires-in-GoesBeyond
most-left-requires-in-GoesBeyond g c =
    let r = c.requires in let i = c.loop-found.invariant in
    looks_end g.K.PartialEq.eq r.0 _ _ r.1 r.2 _ _
    (subst (λ x. TriesTo g.K.PartialEq.eq r.0 (g.Q.Equivalent.equivalent c.args.asked.now) c.args.memory.now r.1 r.2 c.args.lookup c.step.new.self x) c.in-GoesBeyond.is
    (c.tries-tried.ensures.to r.0 r.1 r.2 c.args.lookup
    (looks_on g.K.PartialEq.eq r.0 _ _ r.1 r.2 _ _ _ (i.looks r.0 r.1 r.2 r.3) _ (not_done _ c.in-Goes.is)
    (steps_lent (g.Q.Equivalent.equivalent c.args.asked.now) c.loop-found.look c.loop-found.lookup _ i.look _ _ c.step.ensures).1).0))

pub loop-found-smaller-in-GoesBeyond : goal.loop-found-smaller-in-GoesBeyond
loop-found-smaller-in-GoesBeyond g c =
    let r = c.requires in let i = c.loop-found.invariant in let e = c.most-left-in-GoesBeyond.ensures in
    let s = (steps_lent (g.Q.Equivalent.equivalent c.args.asked.now) c.loop-found.look c.loop-found.lookup _ i.look _ _ c.step.ensures).1 in
    lower_behind g.Q.Equivalent.equivalent _ _ _ _ _ _ _ i.memory i.lookup i.asked c.loop-found.left.least.1 _ _
    (looks_on g.K.PartialEq.eq r.0 _ _ r.1 r.2 _ _ _ (i.looks r.0 r.1 r.2 r.3) _ (not_done _ c.in-Goes.is) s).1 s
    (at_next c.step.new.self c.in-GoesBeyond.table)
    (λ n is. subst (λ x. Nearer (λ k y. within (lookup_plan {V = g.row.V.Denot} (g.Q.Equivalent.equivalent c.args.asked.now)) k y c.args.memory.now) n c.step.new.self x) c.in-GoesBeyond.is (c.tries-tried.ensures.nearer n is))
    _ _ _ _ e.memory e.lookup e.asked c.most-left-in-GoesBeyond.result.least.1

pub loop-found-preserved-in-GoesBeyond : goal.loop-found-preserved-in-GoesBeyond
loop-found-preserved-in-GoesBeyond g c =
    let i = c.loop-found.invariant in let e = c.most-left-in-GoesBeyond.ensures in
    let s = steps_lent (g.Q.Equivalent.equivalent c.args.asked.now) c.loop-found.look c.loop-found.lookup _ i.look _ _ c.step.ensures in record {
      look = s.0;
      looks = λ hash chart blocks looks.
          subst (λ x. TriesTo g.K.PartialEq.eq hash (g.Q.Equivalent.equivalent c.args.asked.now) c.args.memory.now chart blocks c.args.lookup c.step.new.self x) c.in-GoesBeyond.is
          (c.tries-tried.ensures.to hash chart blocks c.args.lookup
          (looks_on g.K.PartialEq.eq hash _ _ chart blocks _ _ _ (i.looks hash chart blocks looks) _ (not_done _ c.in-Goes.is) s.1).0);
      memory = e.memory;
      lookup = e.lookup;
      asked = e.asked;
    }

pub most-left-requires-in-Stays : goal.most-left-requires-in-Stays
most-left-requires-in-Stays g c =
    let r = c.requires in let i = c.loop-found.invariant in
    looks_end g.K.PartialEq.eq r.0 _ _ r.1 r.2 _ _
    (looks_on g.K.PartialEq.eq r.0 _ _ r.1 r.2 _ _ _ (i.looks r.0 r.1 r.2 r.3) _ (not_done _ c.in-Goes.is)
    (steps_lent (g.Q.Equivalent.equivalent c.args.asked.now) c.loop-found.look c.loop-found.lookup _ i.look _ _ c.step.ensures).1).0

pub loop-found-smaller : goal.loop-found-smaller
loop-found-smaller g c =
    let r = c.requires in let i = c.loop-found.invariant in let e = c.most-left-in-Stays.ensures in
    let s = (steps_lent (g.Q.Equivalent.equivalent c.args.asked.now) c.loop-found.look c.loop-found.lookup _ i.look _ _ c.step.ensures).1 in
    lower_asked g.Q.Equivalent.equivalent _ _ _ _ _ _ _ i.memory i.lookup i.asked c.loop-found.left.least.1 _ _ _ _ _ e.memory e.lookup e.asked c.most-left-in-Stays.result.least.1 _
    (looks_on g.K.PartialEq.eq r.0 _ _ r.1 r.2 _ _ _ (i.looks r.0 r.1 r.2 r.3) _ (not_done _ c.in-Goes.is) s).1 s

pub loop-found-preserved : goal.loop-found-preserved
loop-found-preserved g c =
    let i = c.loop-found.invariant in let e = c.most-left-in-Stays.ensures in
    let s = steps_lent (g.Q.Equivalent.equivalent c.args.asked.now) c.loop-found.look c.loop-found.lookup _ i.look _ _ c.step.ensures in record {
      look = s.0;
      looks = λ hash chart blocks looks. (looks_on g.K.PartialEq.eq hash _ _ chart blocks _ _ _ (i.looks hash chart blocks looks) _ (not_done _ c.in-Goes.is) s.1).0;
      memory = e.memory;
      lookup = e.lookup;
      asked = e.asked;
    }
