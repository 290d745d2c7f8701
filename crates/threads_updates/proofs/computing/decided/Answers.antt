use Rattle.threads_updates.proofs.computing.decided.Goals as goal

pub returns : goal.returns
returns g c = record { gives = (_, c.shown_at.ensures.about, c.decide.ensures) }
