-- The place is read, and taken where it is empty.
use Rattle.std.specs.Prelude.{Ok, Err}
use Rattle.std.proofs.Common.{sym, subst}
use Rattle.seize_words.specs.OneMemory.Op.{Load, Exchange, Found, Exchanged}
use Rattle.seize_words.specs.declared.at.At.{At}
use Rattle.map_straight.proofs.Straight.Copies as by
use Rattle.map_straight.proofs.copying.try_put.Given as given
use Rattle.map_straight.proofs.copying.try_put.Goals as goal
use Rattle.map_straight.proofs.copying.try_put.Goals.{After-at-place, After-load-found}

trying : (g : given.Over) (c : goal.After-at-place g) → by.Trying (g.S.Hashes.hash c.args.hasher.now) g.M.Look.can g.M.Look.took g.M.Look.shown c.args.copier.now c.args.word c.args.hash c.args.table c.args.probe c.args.memory.now
trying g c = record { mode = c.requires.mode; run = c.requires.may }

read : (g : given.Over) (c : goal.After-load-found g)
    → by.Read (g.S.Hashes.hash c.args.hasher.now) g.M.Look.can g.M.Look.took g.M.Look.shown c.args.copier.now c.args.word c.args.hash c.args.table c.args.probe c.args.memory.now c.load-found.new.self c.load-found.result
read g c = record {
  trying = record { mode = c.requires.mode; run = c.requires.may };
  loads = subst (λ (a : At). g.M.Look.took c.args.memory.now (Load a) (Found c.load-found.result) c.load-found.new.self) c.at-place.ensures c.load-found.ensures;
}

pub load-found-requires : goal.load-found-requires
load-found-requires g c =
    subst (λ (a : At). g.M.Look.can c.args.memory.now (Load a)) (sym c.at-place.ensures) (by.can_read (trying g (goal.at.load-found-requires g c).After-at-place))

pub returns-then-found-ne0 : goal.returns-then-found-ne0
returns-then-found-ne0 g c =
    by.is_taken (read g (goal.at.returns-then-found-ne0 g c).After-load-found) c.if-found-ne0.true c.miss.result c.miss.ensures

pub exchange-requires : goal.exchange-requires
exchange-requires g c =
    subst (λ (a : At). g.M.Look.can c.load-found.new.self (Exchange a 0 c.borrowed.result)) (sym c.at-place.ensures)
    (by.can_put (read g (goal.at.exchange-requires g c).After-load-found) c.if-found-ne0.false c.borrowed.result c.borrowed.ensures)

pub returns-in-Ok : goal.returns-in-Ok
returns-in-Ok g c =
    by.was_put (read g (goal.at.returns-in-Ok g c).After-load-found) c.if-found-ne0.false c.borrowed.result c.borrowed.ensures c.exchange.new.self c.in-Ok.field-0
    (subst (λ (a : At). g.M.Look.took c.load-found.new.self (Exchange a 0 c.borrowed.result) (Exchanged (Ok c.in-Ok.field-0)) c.exchange.new.self) c.at-place.ensures c.in-Ok.ensures)

pub returns-in-Err : goal.returns-in-Err
returns-in-Err g c =
    by.was_lost (read g (goal.at.returns-in-Err g c).After-load-found) c.if-found-ne0.false c.borrowed.result c.borrowed.ensures c.exchange.new.self c.in-Err.field-0
    (subst (λ (a : At). g.M.Look.took c.load-found.new.self (Exchange a 0 c.borrowed.result) (Exchanged (Err c.in-Err.field-0)) c.exchange.new.self) c.at-place.ensures c.in-Err.ensures)
    c.miss-in-Err.result c.miss-in-Err.ensures
