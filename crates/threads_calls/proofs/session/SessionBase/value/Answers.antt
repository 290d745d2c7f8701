use Rattle.threads_calls.proofs.session.SessionBase.value.Goals as goal

pub pair-requires : goal.pair-requires
pair-requires g c = record { shown = (c.requires.shown.1.0, c.requires.shown.1.1, c.requires.shown.1.3) }

pub returns : goal.returns
returns g c = (c.pair.result.0.now, c.pair.ensures.0, c.pair.ensures.1)
