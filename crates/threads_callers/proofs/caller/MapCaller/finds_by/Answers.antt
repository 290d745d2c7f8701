use Rattle.std.proofs.Common.{sym, ap, inl, ◌∙◌}
use Rattle.seize_callers.proofs.Keeping.{none_away}
use Rattle.threads_errands.specs.Given.ViewsDeclared.view.View.{View}
use Rattle.threads_callers.proofs.Newcomers.{may_learn, shown_leans}
use Rattle.threads_callers.proofs.Passing.{back_rests, found_since, none_since, still_back}
use Rattle.threads_callers.proofs.caller.MapCaller.finds_by.Goals as goal

pub learn-requires-clause-own : goal.learn-requires-clause-own
learn-requires-clause-own g c = (c.requires.own, c.args.self.now.own)

pub learn-requires-clause-may : goal.learn-requires-clause-may
learn-requires-clause-may g c =
    let x = c.args.self.now in let p = c.args.pass.now.seat in
    may_learn g.K.PartialEq.eq g.S.Hashes.hash x.blocks.now.words.fixed p.id p.view x.seat.id x.seat.view c.requires.may.map c.requires.may.knows x.good c.args.pass.now.back.free

-- who knows a map more has no more under way
pub learn-requires-clause-errand : goal.learn-requires-clause-errand
learn-requires-clause-errand g c = λ home rests w so. back_rests w (still_back c.args.pass.now.seat.view w so.0 so.2 c.args.pass.now.back)

pub learn-requires-clause-leans : goal.learn-requires-clause-leans
learn-requires-clause-leans g c = λ v so n leans. inl (shown_leans c.args.pass.now.seat.view v so.0 n so.2 leans)

pub sends-requires : goal.sends-requires
sends-requires g c =
    let x = c.args.self.now in let so = c.learn.ensures.goes in record {
      own = (c.learn.ensures.same.0 ∙ c.requires.own, x.own);
      home = c.learn.ensures.errand ∙ none_away c.args.pass.now.seat.away c.args.pass.now.home;
      lone = x.lone;
      map = so.1 ∙ sym (ap (λ (v : View g.row.K.Denot g.row.V.Denot g.row.S.Denot). v.map) so.2);
      may = c.requires.may;
      back = still_back c.args.pass.now.seat.view c.learn.new.seat.view so.0 so.2 c.args.pass.now.back;
    }

pub returns-clause-found : goal.returns-clause-found
returns-clause-found g c =
    let x = c.args.self.now in let so = c.learn.ensures.goes in
    found_since g.K.PartialEq.eq g.S.Hashes.hash x.blocks.now.words.fixed (g.Q.Equivalent.stands_for c.args.key.now) x.seat.id x.seat.view c.learn.new.seat.view c.args.pass.now.seat.view c.sends.new.seat.view
    (ap (λ (v : View g.row.K.Denot g.row.V.Denot g.row.S.Denot). v.calls) so.2) (λ pair. (pair.0.now, pair.1.now)) c.sends.result c.sends.ensures.found

pub returns-clause-absent : goal.returns-clause-absent
returns-clause-absent g c =
    let x = c.args.self.now in let so = c.learn.ensures.goes in
    none_since g.K.PartialEq.eq g.S.Hashes.hash x.blocks.now.words.fixed (g.Q.Equivalent.stands_for c.args.key.now) x.seat.id x.seat.view c.learn.new.seat.view c.args.pass.now.seat.view c.sends.new.seat.view
    (ap (λ (v : View g.row.K.Denot g.row.V.Denot g.row.S.Denot). v.calls) so.2) c.sends.result c.sends.ensures.absent
