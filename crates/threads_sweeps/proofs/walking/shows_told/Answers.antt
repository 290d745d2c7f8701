use Rattle.std.proofs.Common.{refl, sym, subst}
use Rattle.map_tables.specs.declared.node.Node.{Node}
use Rattle.papaya_raw.specs.declared.machines.progress.Progress.{Progress}
use Rattle.threads_calls.specs.Given.ErrandsSweeping.{WalkedSo}
use Rattle.threads_sweeps.specs.Onlookers.{SeesSo}
use Rattle.threads_sweeps.specs.Heard.{IsHeard}
use Rattle.threads_sweeps.specs.declared.hearing.Heard.{Heard}
use Rattle.threads_sweeps.proofs.Closures.{walks_on}
use Rattle.threads_sweeps.proofs.Onlookers.{sees_no_more, sees_none}
use Rattle.threads_sweeps.proofs.Gone.{work_of_them, work_stays}
use Rattle.threads_sweeps.proofs.walking.shows_told.Goals as goal

pub asks_next-requires : goal.asks_next-requires
asks_next-requires g c =
    let has = c.requires.walked in record {
      ready =
          subst (λ (t : Progress (Node g.row.K.Denot g.row.V.Denot)). WalkedSo c.args.hasher.now c.args.machine.now t c.args.within.now.seat.now.view)
          (subst (λ (h : Heard). IsHeard has.0 h) c.in-Ready.is has.1) has.2;
    }

pub shows_next-requires : goal.shows_next-requires
shows_next-requires g c =
    let has = c.requires.walked in
    let so = subst (λ (t : Progress (Node g.row.K.Denot g.row.V.Denot)). WalkedSo c.args.hasher.now c.args.machine.now t c.args.within.now.seat.now.view)
    (subst (λ (h : Heard). IsHeard has.0 h) c.in-Shows.is has.1) has.2 in record { ready = so.0; shown = so.1; may = c.requires.may }

pub unreachable-requires : goal.unreachable-requires
unreachable-requires g c =
    let has = c.requires.walked in
    (subst (λ (t : Progress (Node g.row.K.Denot g.row.V.Denot)). WalkedSo c.args.hasher.now c.args.machine.now t c.args.within.now.seat.now.view)
    (subst (λ (h : Heard). IsHeard has.0 h) c.in-Asks.is has.1) has.2)

pub returns-in-Goes-clause-goes : goal.returns-in-Goes-clause-goes
returns-in-Goes-clause-goes g c =
    let has = c.requires.walked in walks_on c.args.hasher.now c.args.machine.now c.args.within.now.seat.now.view has.0 (subst (λ (h : Heard). IsHeard has.0 h) c.in-Goes.is has.1) has.2

pub returns-in-Goes-clause-seen : goal.returns-in-Goes-clause-seen
returns-in-Goes-clause-seen g c = λ told is.
    sees_none g.T.Onlooker.has_seen c.args.onlooker.now c.args.within.now.seat.now.view told (subst (λ (h : Heard). IsHeard told h) c.in-Goes.is is)

pub returns-in-Ready-clause-seen : goal.returns-in-Ready-clause-seen
returns-in-Ready-clause-seen g c = λ told is.
    let v = c.args.within.now.seat.now.view in let has = c.requires.walked in
    let ready = subst (λ (t : Progress (Node g.row.K.Denot g.row.V.Denot)). WalkedSo c.args.hasher.now c.args.machine.now t v) (subst (λ (h : Heard). IsHeard has.0 h) c.in-Ready.is has.1) has.2 in
    subst (λ (t : Progress (Node g.row.K.Denot g.row.V.Denot)). SeesSo g.T.Onlooker.has_seen t c.args.onlooker.now v c.args.onlooker.now c.asks_next.new.self.seat.now.view)
    (sym (subst (λ (h : Heard). IsHeard told h) c.in-Ready.is is)) (refl, (c.args.machine.now, ready.at.works, c.asks_next.ensures.asked))

pub returns-in-Ready-clause-stays : goal.returns-in-Ready-clause-stays
returns-in-Ready-clause-stays g c = work_stays c.args.within.now.seat.now.view c.asks_next.new.self.seat.now.view _ c.asks_next.ensures.asked

pub returns-in-Ready-clause-them : goal.returns-in-Ready-clause-them
returns-in-Ready-clause-them g c = work_of_them c.args.within.now.seat.now.view c.asks_next.new.self.seat.now.view _ c.asks_next.ensures.asked

pub returns-in-Shows-clause-seen : goal.returns-in-Shows-clause-seen
returns-in-Shows-clause-seen g c = λ told is.
    subst (λ (t : Progress (Node g.row.K.Denot g.row.V.Denot)). SeesSo g.T.Onlooker.has_seen t c.args.onlooker.now c.args.within.now.seat.now.view c.shows_next.new.onlooker c.shows_next.new.within.seat.now.view)
    (sym (subst (λ (h : Heard). IsHeard told h) c.in-Shows.is is)) (c.shows_next.ensures.seen, c.shows_next.ensures.next)

pub returns-in-Ended-clause-seen : goal.returns-in-Ended-clause-seen
returns-in-Ended-clause-seen g c = λ told is.
    sees_no_more g.T.Onlooker.has_seen c.args.onlooker.now c.args.within.now.seat.now.view told c.in-Ended.end (subst (λ (h : Heard). IsHeard told h) c.in-Ended.is is)
