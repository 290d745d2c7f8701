-- The word is exchanged, and the change counted, or the pair that was there disposed of.
use Rattle.std.proofs.Common.{sym, subst}
use Rattle.std.specs.Prelude.{false, Ok, Err}
use Rattle.seize_words.specs.OneMemory.Op.{Exchange, Exchanged}
use Rattle.seize_words.specs.declared.at.At.{At}
use Rattle.papaya_raw.specs.declared.machines.call.Calling.TheVariants as at
use Rattle.map_straight.specs.Straight.Going.{CallLeads}
use Rattle.map_straight.specs.Straight.Storing.{storing, try_at}
use Rattle.map_straight.specs.declared.storing.Tried.{Tried}
use Rattle.seize_straight.proofs.Running.{begins, next}
use Rattle.map_straight.proofs.Straight.Stores as by
use Rattle.map_straight.proofs.storing.put.Given as given
use Rattle.map_straight.proofs.storing.put.Goals as goal
use Rattle.map_straight.proofs.storing.put.Goals.{After-read, In-Ok}

has_put : (g : given.Over) (c : goal.In-Ok g) → by.HasPut g.Q.Equivalent.equivalent g.K.PartialEq.eq (g.S.Hashes.hash c.args.hasher.now) g.M.Look.can g.M.Look.took g.M.Look.shown c.args.setting c.args.hash c.args.there c.args.own c.args.trial c.args.word c.args.memory.now c.exchange.new.self
has_put g c = record {
  run = c.requires.may;
  was = c.in-Ok.field-0;
  puts = subst (λ (a : At). g.M.Look.took c.args.memory.now (Exchange a c.args.word c.args.own) (Exchanged (Ok c.in-Ok.field-0)) c.exchange.new.self) c.at.ensures c.in-Ok.ensures;
  buried = c.requires.buried;
}

-- the exchange has failed, and the word found is judged
has_read : (g : given.Over) (c : goal.After-read g) → CallLeads g.Q.Equivalent.equivalent g.K.PartialEq.eq (g.S.Hashes.hash c.args.hasher.now) g.M.Look.took g.M.Look.shown
    (storing c.args.setting c.args.hash c.args.there c.args.own c.args.trial (at.Tries c.args.word c.args.own)) c.args.memory.now (try_at c.args.setting c.args.hash c.args.there c.args.own c.read.result) c.exchange.new.self
has_read g c =
    by.goes_by g.Q.Equivalent.equivalent g.K.PartialEq.eq (g.S.Hashes.hash c.args.hasher.now) c.requires.may false c.in-Err.found c.read.result (c.read.ensures (at.Tries c.args.word c.args.own) false)
    (λ end e. (Exchanged (Err c.in-Err.found), subst (λ (a : At). g.M.Look.took c.args.memory.now (Exchange a c.args.word c.args.own) (Exchanged (Err c.in-Err.found)) c.exchange.new.self) c.at.ensures c.in-Err.ensures, e))

pub exchange-requires : goal.exchange-requires
exchange-requires g c =
    subst (λ (a : At). g.M.Look.can c.args.memory.now (Exchange a c.args.word c.args.own)) (sym c.at.ensures) (next (begins c.requires.may)).0

pub count-requires : goal.count-requires
count-requires g c =
    (next (by.counts (has_put g (goal.at.count-requires g c).In-Ok) c.if-word-eq0.true)).0

pub returns-then-word-eq0 : goal.returns-then-word-eq0
returns-then-word-eq0 g c =
    by.was_stored (has_put g (goal.at.returns-then-word-eq0 g c).In-Ok) c.if-word-eq0.true c.count.new.memory c.count.ensures.0 c.count.ensures.1

pub dispose-disposed-requires : goal.dispose-disposed-requires
dispose-disposed-requires g c =
    by.may_go_on (has_put g (goal.at.dispose-disposed-requires g c).In-Ok) c.if-word-eq0.false

pub returns-else-word-eq0 : goal.returns-else-word-eq0
returns-else-word-eq0 g c =
    by.was_replaced (has_put g (goal.at.returns-else-word-eq0 g c).In-Ok) c.if-word-eq0.false c.dispose-disposed.new.memory c.dispose-disposed.result c.replaced.result c.replaced.ensures
    c.dispose-disposed.ensures

pub read-requires-clause-see : goal.read-requires-clause-see
read-requires-clause-see g c = (
  at.Tries c.args.word c.args.own,
  false,
  (next (begins c.requires.may)).1 (Exchanged (Err c.in-Err.found)) c.exchange.new.self
      (subst (λ (a : At). g.M.Look.took c.args.memory.now (Exchange a c.args.word c.args.own) (Exchanged (Err c.in-Err.found)) c.exchange.new.self) c.at.ensures c.in-Err.ensures),
)

pub returns-in-Next : goal.returns-in-Next
returns-in-Next g c =
    subst (λ (t : Tried). CallLeads g.Q.Equivalent.equivalent g.K.PartialEq.eq (g.S.Hashes.hash c.args.hasher.now) g.M.Look.took g.M.Look.shown
    (storing c.args.setting c.args.hash c.args.there c.args.own c.args.trial (at.Tries c.args.word c.args.own)) c.args.memory.now (try_at c.args.setting c.args.hash c.args.there c.args.own t) c.exchange.new.self) c.in-Next.is
    (has_read g (goal.at.returns-in-Next g c).After-read)

pub returns-in-Stands : goal.returns-in-Stands
returns-in-Stands g c =
    subst (λ (t : Tried). CallLeads g.Q.Equivalent.equivalent g.K.PartialEq.eq (g.S.Hashes.hash c.args.hasher.now) g.M.Look.took g.M.Look.shown
    (storing c.args.setting c.args.hash c.args.there c.args.own c.args.trial (at.Tries c.args.word c.args.own)) c.args.memory.now (try_at c.args.setting c.args.hash c.args.there c.args.own t) c.exchange.new.self) c.in-Stands.is
    (has_read g (goal.at.returns-in-Stands g c).After-read)
