use Rattle.papaya_sessions.proofs.Walked.{has_listed, not_listed, not_told}
use Rattle.papaya_sessions.proofs.session.Session.keys.Goals as goal

pub returns-in-Ok-clause-listed : goal.returns-in-Ok-clause-listed
returns-in-Ok-clause-listed g c =
    let y = c.shows_to-end in
    has_listed {V = g.row.V.Denot} (λ pair. pair.0) g.K.Clone.is_clone (λ told. told.refused) (λ told. told.items.items) g.K.PartialEq.eq g.S.Hashes.hash c.args.self.now.base.caller y.new.self.base.caller _ y.result.1 c.new.ensures.items
    y.ensures.told y.result.0 c.in-Ok.field-0 c.in-Ok.is y.ensures.shown c.listed.result c.listed.ensures.all

pub returns-in-Ok-clause-refused : goal.returns-in-Ok-clause-refused
returns-in-Ok-clause-refused g c =
    let y = c.shows_to-end in
    not_listed g.K.PartialEq.eq g.S.Hashes.hash c.args.self.now.base.caller y.new.self.base.caller y.result.0 c.in-Ok.field-0 c.in-Ok.is y.ensures.shown c.listed.result c.listed.ensures.fault

pub returns-in-Err-clause-refused : goal.returns-in-Err-clause-refused
returns-in-Err-clause-refused g c =
    let y = c.shows_to-end in
    not_told g.K.PartialEq.eq g.S.Hashes.hash c.args.self.now.base.caller y.new.self.base.caller y.result.0 c.in-Err.fault c.in-Err.is y.ensures.refused
