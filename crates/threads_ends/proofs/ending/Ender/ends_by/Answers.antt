use Rattle.std.proofs.Common.{arith, refl, sym, ◌∙◌}
use Rattle.threads_ends.proofs.Ends.{ends_still, is_free, less_left, stays_on, stays_there}
use Rattle.threads_ends.proofs.ending.Ender.ends_by.Goals as goal

pub until-init : goal.until-init
until-init g c = (c.requires.ends, c.requires.off, stays_there c.args.self.now.within.seat.now.view, refl)

pub returns-then-is_over-clause-free : goal.returns-then-is_over-clause-free
returns-then-is_over-clause-free g c =
    is_free c.steps-told.new.machine c.steps-told.result c.steps-told.new.self.within.seat.now.view c.steps-told.ensures.told (sym c.is_over.ensures ∙ c.if-is_over.true)

pub returns-then-is_over-clause-stays : goal.returns-then-is_over-clause-stays
returns-then-is_over-clause-stays g c =
    stays_on c.args.self.now.within.seat.now.view c.until.self.within.seat.now.view c.steps-told.new.self.within.seat.now.view c.until.invariant.2 c.steps-told.ensures.stays

pub returns-then-is_over-clause-same : goal.returns-then-is_over-clause-same
returns-then-is_over-clause-same g c = c.steps-told.ensures.same ∙ c.until.invariant.3

pub goes_along-requires : goal.goes_along-requires
goes_along-requires g c = record {
  ends =
      ends_still c.steps-told.new.machine c.steps-told.result c.steps-told.new.self.within.seat.now.view c.steps-told.ensures.told (sym c.is_over.ensures ∙ c.if-is_over.false);
}

pub until-preserved : goal.until-preserved
until-preserved g c = (
  c.goes_along.ensures.ends,
  c.goes_along.ensures.off,
  stays_on c.args.self.now.within.seat.now.view c.steps-told.new.self.within.seat.now.view c.goes_along.new.self.within.seat.now.view
      (stays_on c.args.self.now.within.seat.now.view c.until.self.within.seat.now.view c.steps-told.new.self.within.seat.now.view c.until.invariant.2 c.steps-told.ensures.stays)
      c.goes_along.ensures.stays,
  c.goes_along.ensures.same ∙ c.steps-told.ensures.same ∙ c.until.invariant.3,
)

pub until-smaller : goal.until-smaller
until-smaller g c =
    let v = c.until.self.within.seat.now.view in let w = c.steps-told.new.self.within.seat.now.view in
    let less = less_left c.until.machine c.steps-told.new.machine c.steps-told.result v w c.until.invariant.1 c.steps-told.ensures.told c.steps-told.ensures.left (sym c.is_over.ensures ∙ c.if-is_over.false) in
    let more = c.goes_along.ensures.left in omega (arith, less, more)
