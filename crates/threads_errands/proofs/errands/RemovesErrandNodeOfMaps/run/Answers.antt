use Rattle.threads_errands.proofs.errands.RemovesErrandNodeOfMaps.run.Goals as goal

pub removes-requires : goal.removes-requires
removes-requires g c = record { own = c.requires.0; away = c.requires.1; may = c.requires.2 }

pub returns : goal.returns
returns g c = let e = c.removes.ensures in (e.same.0, e.same.1, e.same.2, e.called)
