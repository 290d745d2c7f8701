-- Which block comes next is read, and this one is taken.
use Rattle.std.specs.Prelude.{◌≡◌, IsSome, Some}
use Rattle.std.proofs.Common.{sym, ◌∙◌, subst}
use Rattle.seize_words.specs.OneMemory.Op.{Load, Take, Found, Taken}
use Rattle.seize_words.specs.declared.at.At.TheVariants.{Entry}
use Rattle.seize.specs.declared.states.TheConstants.{NEXT}
use Rattle.seize_straight.specs.Runs.{none_taken}
use Rattle.seize_straight.proofs.Reclaimings as by
use Rattle.seize_straight.proofs.Running.{next}
use Rattle.seize_straight.proofs.reclaiming.reclaim.Given as given
use Rattle.seize_straight.proofs.reclaiming.reclaim.Goals as goal
use Rattle.seize_straight.proofs.reclaiming.reclaim.Goals.{After-value}

seen : (g : given.Over) (c : goal.After-value g)
    → by.HasSeen g.T.Defers.defers g.M.Look.can g.M.Look.took g.M.Look.shown c.args.settle.now c.args.memory.now c.load-next.new.self c.load-next.result c.value.result.now
seen g c = record {
  stands = c.is_reclaiming.ensures c.if-not-is_reclaiming.false;
  run = c.requires;
  loads = subst (λ b. g.M.Look.took c.args.memory.now (Load (Entry b NEXT)) (Found c.load-next.result) c.load-next.new.self) c.block_of-block.ensures c.load-next.ensures;
  shows = subst (λ b. g.M.Look.shown c.load-next.new.self b ≡ Some c.value.result.now) c.block_of-block.ensures c.value.ensures;
}

pub returns-then-not-is_reclaiming : goal.returns-then-not-is_reclaiming
returns-then-not-is_reclaiming g c =
    none_taken _ _

pub load-next-requires : goal.load-next-requires
load-next-requires g c =
    subst (λ b. g.M.Look.can c.args.memory.now (Load (Entry b NEXT))) (sym c.block_of-block.ensures)
    (next (by.to_read g.T.Defers.defers (c.is_reclaiming.ensures c.if-not-is_reclaiming.false) c.requires)).0

pub value-requires : goal.value-requires
value-requires g c =
    subst (λ b. IsSome (g.M.Look.shown c.load-next.new.self b)) (sym c.block_of-block.ensures)
    ((next (by.to_read g.T.Defers.defers (c.is_reclaiming.ensures c.if-not-is_reclaiming.false) c.requires)).1 (Found c.load-next.result) c.load-next.new.self
    (subst (λ b. g.M.Look.took c.args.memory.now (Load (Entry b NEXT)) (Found c.load-next.result) c.load-next.new.self) c.block_of-block.ensures c.load-next.ensures)).0

pub returns-in-Some : goal.returns-in-Some
returns-in-Some g c =
    (by.to_drain (seen g (goal.at.returns-in-Some g c).After-value) c.in-Some.word (sym c.deferred.ensures ∙ c.in-Some.is)).leads

pub returns-then-next-eq0 : goal.returns-then-next-eq0
returns-then-next-eq0 g c =
    (by.to_take (seen g (goal.at.returns-then-next-eq0 g c).After-value) (sym c.deferred.ensures ∙ c.in_default.is)).leads

pub take-value-requires : goal.take-value-requires
take-value-requires g c =
    subst (λ b. g.M.Look.can c.load-next.new.self (Take b)) (sym c.block_of-block.ensures)
    (next (by.to_take (seen g (goal.at.take-value-requires g c).After-value) (sym c.deferred.ensures ∙ c.in_default.is))).0

pub returns : goal.returns
returns g c =
    by.was_taken (seen g (goal.at.returns g c).After-value) (sym c.deferred.ensures ∙ c.in_default.is) c.if-next-eq0.false c.take-value.new.self c.take-value.result
    (subst (λ b. g.M.Look.took c.load-next.new.self (Take b) (Taken c.take-value.result) c.take-value.new.self) c.block_of-block.ensures c.take-value.ensures)
