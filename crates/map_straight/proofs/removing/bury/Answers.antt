-- The word is exchanged, the change counted, and the pair that was there disposed of.
use Rattle.std.proofs.Common.{sym, subst}
use Rattle.std.specs.Prelude.{false, Ok, Err}
use Rattle.seize_words.specs.OneMemory.Op.{Exchange, Exchanged}
use Rattle.seize_words.specs.declared.at.At.{At}
use Rattle.map_tables.specs.declared.marks.TheConstants.{TOMBSTONE}
use Rattle.papaya_raw.specs.declared.machines.call.Calling.TheVariants as at
use Rattle.map_straight.specs.Straight.Going.{CallReaches}
use Rattle.map_straight.specs.Straight.Removing.{seeking, sought_at}
use Rattle.map_straight.specs.declared.removing.Sought.{Sought}
use Rattle.map_straight.proofs.Straight.Removals as by
use Rattle.seize_straight.proofs.Running.{begins, next}
use Rattle.map_straight.proofs.removing.bury.Given as given
use Rattle.map_straight.proofs.removing.bury.Goals as goal
use Rattle.map_straight.proofs.removing.bury.Goals.{After-count, After-reread, In-Ok}

has_put : (g : given.Over) (c : goal.In-Ok g) → by.HasPut g.Q.Equivalent.equivalent g.K.PartialEq.eq (g.S.Hashes.hash c.args.hasher.now) g.M.Look.can g.M.Look.took g.M.Look.shown c.args.setting c.args.hash c.args.asked.now c.args.trial c.args.word c.args.memory.now c.exchange.new.self
has_put g c = record {
  run = c.requires;
  was = c.in-Ok.field-0;
  puts = subst (λ (a : At). g.M.Look.took c.args.memory.now (Exchange a c.args.word TOMBSTONE) (Exchanged (Ok c.in-Ok.field-0)) c.exchange.new.self) c.at.ensures c.in-Ok.ensures;
}

has_counted : (g : given.Over) (c : goal.After-count g) → by.HasPut g.Q.Equivalent.equivalent g.K.PartialEq.eq (g.S.Hashes.hash c.args.hasher.now) g.M.Look.can g.M.Look.took g.M.Look.shown c.args.setting c.args.hash c.args.asked.now c.args.trial c.args.word c.args.memory.now c.exchange.new.self
    → by.HasCounted g.Q.Equivalent.equivalent g.K.PartialEq.eq (g.S.Hashes.hash c.args.hasher.now) g.M.Look.can g.M.Look.took g.M.Look.shown c.args.setting c.args.hash c.args.asked.now c.args.trial c.args.word c.args.memory.now c.count.new.memory
has_counted g c put = record { between = c.exchange.new.self; put = put; pair = c.if-word-eq0.false; found = c.count.ensures.0; adds = c.count.ensures.1 }

-- the exchange has failed, and the word found is weighed
has_read : (g : given.Over) (c : goal.After-reread g) → CallReaches g.Q.Equivalent.equivalent g.K.PartialEq.eq (g.S.Hashes.hash c.args.hasher.now) g.M.Look.took g.M.Look.shown
    (seeking c.args.setting c.args.hash c.args.asked.now c.args.trial (at.Tries c.args.word TOMBSTONE)) c.args.memory.now c.exchange.new.self (sought_at c.args.setting c.args.hash c.args.asked.now c.reread.result)
has_read g c =
    by.goes_by g.Q.Equivalent.equivalent g.K.PartialEq.eq (g.S.Hashes.hash c.args.hasher.now) c.requires c.exchange.new.self false c.in-Err.found c.reread.result (c.reread.ensures (at.Tries c.args.word TOMBSTONE) false)
    (λ end e. (Exchanged (Err c.in-Err.found), subst (λ (a : At). g.M.Look.took c.args.memory.now (Exchange a c.args.word TOMBSTONE) (Exchanged (Err c.in-Err.found)) c.exchange.new.self) c.at.ensures c.in-Err.ensures, e))

pub exchange-requires : goal.exchange-requires
exchange-requires g c =
    subst (λ (a : At). g.M.Look.can c.args.memory.now (Exchange a c.args.word TOMBSTONE)) (sym c.at.ensures) (next (begins c.requires)).0

pub returns-then-word-eq0 : goal.returns-then-word-eq0
returns-then-word-eq0 g c =
    (by.counts (has_put g (goal.at.returns-then-word-eq0 g c).In-Ok)).leads

pub count-requires : goal.count-requires
count-requires g c =
    (next (by.counts (has_put g (goal.at.count-requires g c).In-Ok))).0

pub dispose-disposed-requires : goal.dispose-disposed-requires
dispose-disposed-requires g c =
    let x = goal.at.dispose-disposed-requires g c in by.may_go_on (has_counted g x.After-count (has_put g x.In-Ok))

pub returns-else-word-eq0 : goal.returns-else-word-eq0
returns-else-word-eq0 g c =
    let x = goal.at.returns-else-word-eq0 g c in
    by.was_removed (has_counted g x.After-count (has_put g x.In-Ok)) c.dispose-disposed.new.memory c.dispose-disposed.result c.gone.result c.gone.ensures c.dispose-disposed.ensures

pub reread-requires : goal.reread-requires
reread-requires g c = (
  at.Tries c.args.word TOMBSTONE,
  false,
  (next (begins c.requires)).1 (Exchanged (Err c.in-Err.found)) c.exchange.new.self
      (subst (λ (a : At). g.M.Look.took c.args.memory.now (Exchange a c.args.word TOMBSTONE) (Exchanged (Err c.in-Err.found)) c.exchange.new.self) c.at.ensures c.in-Err.ensures),
)

pub returns-in-Next : goal.returns-in-Next
returns-in-Next g c =
    subst (λ (t : Sought). CallReaches g.Q.Equivalent.equivalent g.K.PartialEq.eq (g.S.Hashes.hash c.args.hasher.now) g.M.Look.took g.M.Look.shown
    (seeking c.args.setting c.args.hash c.args.asked.now c.args.trial (at.Tries c.args.word TOMBSTONE)) c.args.memory.now c.exchange.new.self (sought_at c.args.setting c.args.hash c.args.asked.now t)) c.in-Next.is
    (has_read g (goal.at.returns-in-Next g c).After-reread)

pub returns-in-Ends : goal.returns-in-Ends
returns-in-Ends g c =
    subst (λ (t : Sought). CallReaches g.Q.Equivalent.equivalent g.K.PartialEq.eq (g.S.Hashes.hash c.args.hasher.now) g.M.Look.took g.M.Look.shown
    (seeking c.args.setting c.args.hash c.args.asked.now c.args.trial (at.Tries c.args.word TOMBSTONE)) c.args.memory.now c.exchange.new.self (sought_at c.args.setting c.args.hash c.args.asked.now t)) c.in-Ends.is
    (has_read g (goal.at.returns-in-Ends g c).After-reread)
